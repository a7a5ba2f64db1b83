-- Patches that make up a piece of n elements, where `wanted` says from which element of the array each of them comes.
use Rattle.std.specs.Prelude.{◌≡◌, ℕ, ◌+◌, ◌*◌, ◌≤◌, ◌<◌, Option, List}
use Rattle.dma_segments.specs.declared.patches.Patch.{Patch}
use Rattle.dma_segments.specs.Run.{further}
use Rattle.dma_segments.proofs.Lists.{Each, AtLeastOne, EachPair}

abbrev pub to_place : Patch → ℕ → ℕ → ℕ
to_place patch r k = patch.to + r * patch.to_step + k

abbrev pub from_place : Patch → ℕ → ℕ → Option ℕ
from_place patch r k = further patch.from (r * patch.from_step + k)

-- element p of the piece is one of the patch's
abbrev pub HasElement : Patch → ℕ → Type 0
HasElement patch p = (r : ℕ) × (k : ℕ) × (r < patch.rows) × (k < patch.cols) × (to_place patch r k ≡ p)

-- the patch's elements are among the n elements of the piece, and have the piece's sources
pub record IsPatchOf (n : ℕ) (wanted : ℕ → Option ℕ) (patch : Patch) : Type 0 where
  pub some_rows : 1 ≤ patch.rows
  pub some_cols : 1 ≤ patch.cols
  pub rows_apart : 1 < patch.rows → patch.cols ≤ patch.to_step
  pub inside : (r k : ℕ) → r < patch.rows → k < patch.cols → to_place patch r k < n
  pub sources : (r k : ℕ) → r < patch.rows → k < patch.cols → wanted (to_place patch r k) ≡ from_place patch r k

abbrev pub ArePatchesApart : Patch → Patch → Type 0
ArePatchesApart a b = (p : ℕ) → HasElement a p → ¬ HasElement b p

-- the patches have each of the n elements of the piece once
pub record ArePatchesOf (n : ℕ) (wanted : ℕ → Option ℕ) (patches : List Patch) : Type 0 where
  pub each : Each (IsPatchOf n wanted) patches
  pub covered : (p : ℕ) → p < n → AtLeastOne (λ patch. HasElement patch p) patches
  pub once : EachPair ArePatchesApart patches
