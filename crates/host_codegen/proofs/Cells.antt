-- The first cells of buffers are small.
use Rattle.std.proofs.Common.{ℕ, ◌+◌, ◌*◌, ◌^◌, ◌<◌, ◌≤◌, arith}
use Rattle.std.proofs.Math.Nat.{mul-le-mul_left, mul-le-mul_right}
use Rattle.host_codegen.specs.declared.geometry.Layout.{Layout}
use Rattle.host_codegen.specs.Fit.{IsFitting}

pub cell_few : (layout : Layout) (k : ℕ) → IsFitting layout → k ≤ layout.leaves * 2 + layout.slots + 2 → k * layout.bytes < 2 ^ 32
cell_few layout k fits below =
    let all = fits.cells in
    let one : k * layout.bytes ≤ (layout.leaves * 2 + layout.slots + 2) * layout.bytes = mul-le-mul_right layout.bytes below in
    omega arith

pub count_few : (layout : Layout) → IsFitting layout → layout.leaves * 2 + layout.slots + 2 < 2 ^ 32
count_few layout fits =
    let all = fits.cells in
    let one : (layout.leaves * 2 + layout.slots + 2) * 1 ≤ (layout.leaves * 2 + layout.slots + 2) * layout.bytes = mul-le-mul_left (layout.leaves * 2 + layout.slots + 2) fits.some_bytes in
    omega arith
