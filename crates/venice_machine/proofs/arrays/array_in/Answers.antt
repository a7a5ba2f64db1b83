use Rattle.std.proofs.Common.{◌≡◌, ◌∙◌, ap, sym, subst, arith, ℕ, ◌+◌, ◌*◌, ◌<◌, ◌≤◌, ◌++◌, ◌∷◌, [], length, map, ℤ, List, Some, w64}
use Rattle.std.proofs.lemmas.Int.{to_z-of_z}
use Rattle.std.specs.List.{range_with_len}
use Rattle.std.proofs.lemmas.List.FromFn.{map-range_with_len_more}
use Rattle.ven_base.specs.Elem.{size_of}
use Rattle.ven_base.specs.Extent.{elements_of}
use Rattle.ven_base.specs.Grid.{Grid, IsGrid}
use Rattle.venice_isa.specs.Cell.{part}
use Rattle.venice_isa.specs.Element.{number_of}
use Rattle.venice_machine.specs.Start.{element_in}
use Rattle.venice_machine.proofs.Inputs.{element_room, array_is_grid, some_grid}
use Rattle.venice_machine.proofs.arrays.array_in.Goals as goal

pub overflow_add-entry : goal.overflow_add-entry
overflow_add-entry c =
    let below : c.loop-k.k < elements_of c.args.entry.now.shape = subst (λ n. c.loop-k.k < n) c.elements-count.ensures.value c.loop-k-test.true in
    let room = element_room (length c.args.memory.now) c.args.entry.now c.loop-k.k c.requires.inside below in
    let same = ap (λ n. c.loop-k.k * n) c.size-size.ensures in
    omega (arith, room, same, c.len.ensures.count, c.len.ensures.few)

pub element_at-requires : goal.element_at-requires
element_at-requires c =
    let below : c.loop-k.k < elements_of c.args.entry.now.shape = subst (λ n. c.loop-k.k < n) c.elements-count.ensures.value c.loop-k-test.true in
    subst (λ n. c.args.entry.now.place + c.loop-k.k * n + size_of c.args.entry.now.elem ≤ length c.args.memory.now) (sym c.size-size.ensures)
    (element_room (length c.args.memory.now) c.args.entry.now c.loop-k.k c.requires.inside below)

pub loop-k-preserved : goal.loop-k-preserved
loop-k-preserved c =
    let entry = c.args.entry.now in
    let value : ℕ → ℤ = λ k. number_of entry.elem (element_in c.args.memory.now entry k) in
    let old = c.loop-k.values.items in
    let sum : 0 + c.loop-k.k ≡ c.loop-k.k = omega arith in
    c.in_ok-push.ensures.items
    ∙ ap (λ v. old ++ v ∷ []) (to_z-of_z w64 c.element_at.result (record { sfits = c.element_at.type_inv }) ∙ c.element_at.ensures ∙ ap (λ n. number_of entry.elem (part c.args.memory.now (entry.place + c.loop-k.k * n) (size_of entry.elem))) c.size-size.ensures)
    ∙ ap (λ (items : List ℤ). items ++ value c.loop-k.k ∷ []) c.loop-k.invariant
    ∙ sym (map-range_with_len_more value 0 c.loop-k.k c.loop-k.k sum)

pub returns : goal.returns
returns c =
    let entry = c.args.entry.now in
    let count : c.loop-k.k ≡ elements_of entry.shape = omega (arith, c.loop-k-test.false, c.loop-k.auto.k-end, c.elements-count.ensures.value) in
    let value : ℕ → ℤ = λ k. number_of entry.elem (element_in c.args.memory.now entry k) in
    let items = c.loop-k.invariant ∙ ap (λ n. map value (range_with_len 0 n)) count in
    let grid = ap (λ (values : List ℤ). record { elem = entry.elem; shape = entry.shape; values = values }) items in
    let is_grid = subst IsGrid (sym grid) (array_is_grid c.args.memory.now entry c.requires.shape) in
    some_grid c.new.result _ (c.new.ensures.found.1 is_grid) c.new.ensures.value ∙ ap (λ (g : Grid). Some g) grid
