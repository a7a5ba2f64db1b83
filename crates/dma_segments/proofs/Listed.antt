-- The commands and fills of one patch more.
use Rattle.std.proofs.Common.{◌≡◌, ℕ, ℤ, ◌+◌, ◌<◌, List, [], ◌∷◌, ◌++◌, length, get_or, take, ap, sym, ◌∙◌}
use Rattle.std.specs.Prelude.{map}
use Rattle.std.proofs.lemmas.List.{take_more, append-nil, map-append}
use Rattle.std.proofs.lemmas.List.Concat.{flat_map-append}
use Rattle.ven_base.specs.declared.elem.Elem.{Elem}
use Rattle.venice_isa.specs.declared.work.DmaWork.{DmaWork}
use Rattle.dma_segments.specs.declared.segments.Fill.{Fill}
use Rattle.dma_segments.specs.declared.patches.Patch.{Patch}
use Rattle.dma_segments.specs.declared.patches.Sides.{Sides}
use Rattle.dma_segments.specs.Patch.{with_rows_joined}
use Rattle.dma_segments.specs.ReadList.{command_from, fill_from, commands_of, fills_of}

module _ (sides : Sides) (patches : List Patch) (i : ℕ) (d : Patch) (below : i < length patches) where
  joined_more : map with_rows_joined (take (i + 1) patches) ≡ map with_rows_joined (take i patches) ++ with_rows_joined (get_or patches i d) ∷ []
  joined_more = ap (map with_rows_joined) (take_more patches i d below) ∙ map-append with_rows_joined (take i patches) (get_or patches i d ∷ [])

  pub commands_more : commands_of sides (map with_rows_joined (take (i + 1) patches))
      ≡ commands_of sides (map with_rows_joined (take i patches)) ++ command_from (with_rows_joined (get_or patches i d)).from sides (with_rows_joined (get_or patches i d))
  commands_more =
      let last = with_rows_joined (get_or patches i d) in
      ap (commands_of sides) joined_more
      ∙ flat_map-append (λ patch. command_from patch.from sides patch) (map with_rows_joined (take i patches)) (last ∷ [])
      ∙ ap (λ xs. commands_of sides (map with_rows_joined (take i patches)) ++ xs) (append-nil (command_from last.from sides last))

  pub fills_more : (elem : Elem) (value : ℤ) → fills_of sides elem value (map with_rows_joined (take (i + 1) patches))
      ≡ fills_of sides elem value (map with_rows_joined (take i patches)) ++ fill_from (with_rows_joined (get_or patches i d)).from sides elem value (with_rows_joined (get_or patches i d))
  fills_more elem value =
      let last = with_rows_joined (get_or patches i d) in
      ap (fills_of sides elem value) joined_more
      ∙ flat_map-append (λ patch. fill_from patch.from sides elem value patch) (map with_rows_joined (take i patches)) (last ∷ [])
      ∙ ap (λ xs. fills_of sides elem value (map with_rows_joined (take i patches)) ++ xs) (append-nil (fill_from last.from sides elem value last))

  -- the same of what stands in code
  pub commands_grow : (items new : List DmaWork) (patch : Patch) → patch ≡ with_rows_joined (get_or patches i d) → items ≡ commands_of sides (map with_rows_joined (take i patches))
      → new ≡ items ++ command_from patch.from sides patch → new ≡ commands_of sides (map with_rows_joined (take (i + 1) patches))
  commands_grow items new patch is before after =
      after ∙ ap (λ xs. xs ++ command_from patch.from sides patch) before
      ∙ ap (λ (p : Patch). commands_of sides (map with_rows_joined (take i patches)) ++ command_from p.from sides p) is ∙ sym commands_more

  pub fills_grow : (elem : Elem) (value : ℤ) (items new : List Fill) (patch : Patch) → patch ≡ with_rows_joined (get_or patches i d) → items ≡ fills_of sides elem value (map with_rows_joined (take i patches))
      → new ≡ items ++ fill_from patch.from sides elem value patch → new ≡ fills_of sides elem value (map with_rows_joined (take (i + 1) patches))
  fills_grow elem value items new patch is before after =
      after ∙ ap (λ xs. xs ++ fill_from patch.from sides elem value patch) before
      ∙ ap (λ (p : Patch). fills_of sides elem value (map with_rows_joined (take i patches)) ++ fill_from p.from sides elem value p) is ∙ sym (fills_more elem value)
