-- A pass of a sound split in a scratchpad that holds its need: its tile, its arrays and its zones.
use Rattle.std.proofs.Common.{◌≡◌, ◌≢◌, ◌⊎◌, inl, inr, ℕ, ◌+◌, ◌*◌, ◌<◌, ◌≤◌, ◌^◌, sym, refl, subst, ap, ◌∙◌, arith, List, length, get_or}
use Rattle.std.specs.Prelude.{Contains}
use Rattle.std.proofs.lemmas.Nat.{mul-add-lt}
use Rattle.std.proofs.Math.Nat.{mul_comm}
use Rattle.ven_base.specs.Elem.{size_of}
use Rattle.ven_base.specs.Extent.{elements_of}
use Rattle.ven_base.specs.Store.{Place, in_memory, Size}
use Rattle.pass_plan.specs.declared.parts.Tile.{Tile}
use Rattle.pass_plan.specs.declared.split.ArrayPlace.{ArrayPlace}
use Rattle.pass_plan.specs.declared.pass.PassKind.{PassKind}
use Rattle.pass_plan.specs.declared.pass.PassKind.TheVariants.{Map, Reduce}
use Rattle.pass_plan.specs.Pass.{Pass, result_of}
use Rattle.pass_plan.specs.Need.{buffers_of}
use Rattle.pass_plan.specs.Tile.{tile_of, tiles_of, piece_of, IsPieceOf, IsTileOf}
use Rattle.pass_plan.specs.Buffers.{buffer_bytes, IsArrayPlace}
use Rattle.pass_plan.specs.Sound.{no_place, end_of}
use Rattle.pass_plan.proofs.Tilings.{tile_some, piece_inside, buffers_inside}
use Rattle.vector_codegen.specs.Effect.{IsTileNumber}
use Rattle.dma_schedule.specs.Zone.{Zone, source, bytes_made, zone_of}
use Rattle.dma_schedule.specs.Plan.{IsPlanned}
use Rattle.dma_schedule.proofs.Places.{outside_lies}

module _ (arrays : List ArrayPlace) (memory : ℕ) (later : List ℕ) (spad : ℕ) (pass : Pass) (given : IsPlanned arrays memory later spad pass) where
  abbrev pub the_tile : Tile
  the_tile = tile_of pass spad

  abbrev pub array_of : (k : ℕ) → ArrayPlace
  array_of k = get_or arrays k no_place

  abbrev pub made_place : ℕ
  made_place = (array_of pass.dest).place

  abbrev pub zones : Place → Zone
  zones = zone_of pass the_tile made_place

  abbrev pub sizes : Size
  sizes = record { cells = spad; memory = memory }

  is_tile : IsTileOf pass the_tile
  is_tile = record { spad = spad; holds = given.holds; is = refl }

  pub some : (1 ≤ the_tile.h) × (1 ≤ the_tile.w)
  some = tile_some pass the_tile given.sound.shaped is_tile

  pub room : buffers_of pass * buffer_bytes pass the_tile ≤ spad
  room = buffers_inside pass spad given.holds

  pub piece_there : (t : ℕ) → t < tiles_of pass.domain the_tile → IsPieceOf pass.domain (piece_of pass.domain the_tile t)
  piece_there t within = piece_inside pass.domain the_tile given.sound.shaped some.0 some.1 t within

  pub is_number : (t : ℕ) → t < tiles_of pass.domain the_tile → IsTileNumber pass the_tile t
  is_number t within = record { spad = spad; holds = given.holds; few = given.few; is = refl; within = within }

  -- ---- arrays

  pub array_inside : (k : ℕ) → k < length arrays → end_of (array_of k) ≤ memory
  array_inside k within = given.placed.inside k no_place within

  pub array_few : (k : ℕ) → k < length arrays → end_of (array_of k) < 2 ^ 32
  array_few k within = omega (arith, array_inside k within, given.placed.within)

  pub in_array : (array : ArrayPlace) (p : ℕ) → IsArrayPlace array (elements_of array.shape) p → (array.place ≤ p) × (p < end_of array)
  in_array array p stands =
      let size = size_of array.elem in
      let count = elements_of array.shape in
      let below : stands.index * size + stands.b < size * count = mul-add-lt stands.index size stands.b count stands.within stands.b_within in
      let turned : size * count ≡ count * size = mul_comm size count in
      let is = stands.is in
      (omega arith, omega arith)

  same_rows : (kind : PassKind) → (result_of kind pass.domain).rows ≡ pass.domain.rows
  same_rows Map = refl
  same_rows (Reduce fold) = refl

  pub made_end : made_place + bytes_made pass the_tile made_place ≡ end_of (array_of pass.dest)
  made_end =
      let result = given.sound.result in
      let cols = (result_of pass.kind pass.domain).cols in
      ap (λ n. made_place + n * cols * size_of pass.elem) (sym (same_rows pass.kind))
      ∙ ap (λ n. made_place + n * size_of pass.elem) (sym result.as_many)
      ∙ ap (λ e. made_place + elements_of (array_of pass.dest).shape * size_of e) (sym result.elem_is)

  -- an array other than the destination is a source
  pub array_lies : (k p : ℕ) → k < length arrays → k ≢ pass.dest → IsArrayPlace (array_of k) (elements_of (array_of k).shape) p → zones (in_memory p) ≡ source
  array_lies k p within other stands =
      let known = given.sound.result.known in
      let in_it = in_array (array_of k) p stands in
      let made = made_end in
      let cases : (k < pass.dest) ⊎ (pass.dest < k) = grind (arith, other) in
      let apart : (p < made_place) ⊎ (made_place + bytes_made pass the_tile made_place ≤ p) = elim cases [
        | inl before ↦ elim (given.placed.apart k pass.dest no_place before known) [ inl low ↦ inl (omega (arith, low, in_it.1)) | inr high ↦ inr (omega (arith, high, in_it.0, made)) ]
        | inr after ↦ elim (given.placed.apart pass.dest k no_place after within) [ inl low ↦ inr (omega (arith, low, in_it.0, made)) | inr high ↦ inl (omega (arith, high, in_it.1)) ]
      ] in
      outside_lies pass the_tile made_place given.sound.shaped some.0 some.1 p apart

  -- an array that no pass from here on makes is another than the destination
  pub not_own : (k : ℕ) → ¬ Contains later k → k ≢ pass.dest
  not_own k ready same = ready (subst (Contains later) (sym same) given.own)
