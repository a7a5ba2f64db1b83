use Rattle.std.proofs.Common.{◌≡◌, ◌∙◌, ap, sym, subst, arith, length, get_or, ◌+◌, ◌<◌, ◌≤◌, ℤ, pos, List, w64, rules}
use Rattle.std.proofs.lemmas.Int.{to_z-of_z}
use Rattle.ven_base.specs.Elem.{size_of}
use Rattle.ven_base.specs.Operation.{bits_of}
use Rattle.ven_base.specs.Grid.{Grid}
use Rattle.venice_isa.specs.Cell.{overwritten}
use Rattle.venice_isa.specs.Element.{low_bytes}
use Rattle.venice_machine.proofs.Stretches.{IsPut, none_put, put_same, put_room, one_more_put, all_put}
use Rattle.venice_machine.proofs.arrays.put_array.Goals as goal

pub loop-value-init : goal.loop-value-init
loop-value-init c = none_put c.args.array.now c.args.place c.args.memory.now c.requires.inside

pub put_low-requires : goal.put_low-requires
put_low-requires c =
    let array = c.args.array.now in
    let index = c.loop-value.value-index in
    let below : index < length array.values = subst (λ (a : Grid). index < length a.values) c.array.view_is (subst (λ (items : List ℤ). index < length items) c.deref-value-items.ensures.value c.loop-value-test.true) in
    let size : c.size-size.result ≡ size_of array.elem = c.size-size.ensures ∙ ap (λ (a : Grid). size_of a.elem) c.array.view_is in
    let room = put_room array c.args.place c.args.memory.now c.requires.inside index c.loop-value.next_place c.loop-value.memory c.loop-value.invariant below in
    subst (λ n. c.loop-value.next_place + n ≤ length c.loop-value.memory) (sym size) room

pub overflow_add-next_place : goal.overflow_add-next_place
overflow_add-next_place c =
    let array = c.args.array.now in
    let index = c.loop-value.value-index in
    let below : index < length array.values = subst (λ (a : Grid). index < length a.values) c.array.view_is (subst (λ (items : List ℤ). index < length items) c.deref-value-items.ensures.value c.loop-value-test.true) in
    let size : c.size-size.result ≡ size_of array.elem = c.size-size.ensures ∙ ap (λ (a : Grid). size_of a.elem) c.array.view_is in
    let room = put_room array c.args.place c.args.memory.now c.requires.inside index c.loop-value.next_place c.loop-value.memory c.loop-value.invariant below in
    let le : index ≤ length array.values = omega (arith, below) in
    omega (arith, room, size, put_same array c.args.place c.args.memory.now c.requires.inside index c.loop-value.next_place c.loop-value.memory c.loop-value.invariant le, c.len.ensures.count, c.len.ensures.few)

pub loop-value-preserved : goal.loop-value-preserved
loop-value-preserved c =
    let array = c.args.array.now in
    let index = c.loop-value.value-index in
    let below : index < length array.values = subst (λ (a : Grid). index < length a.values) c.array.view_is (subst (λ (items : List ℤ). index < length items) c.deref-value-items.ensures.value c.loop-value-test.true) in
    let size : c.size-size.result ≡ size_of array.elem = c.size-size.ensures ∙ ap (λ (a : Grid). size_of a.elem) c.array.view_is in
    let room = put_room array c.args.place c.args.memory.now c.requires.inside index c.loop-value.next_place c.loop-value.memory c.loop-value.invariant below in
    let item = get_or c.deref-value-items.result.now index (pos 0) in
    let bits : c.bits_of.result ≡ bits_of array.elem (get_or array.values index (pos 0)) =
    c.bits_of.ensures.value ∙ ap (bits_of c.array.inside.elem) (to_z-of_z w64 item (search rules))
    ∙ ap (λ (items : List ℤ). bits_of c.array.inside.elem (get_or items index (pos 0))) c.deref-value-items.ensures.value
    ∙ ap (λ (a : Grid). bits_of a.elem (get_or a.values index (pos 0))) c.array.view_is in
    let new = c.put_low.ensures
    ∙ ap (λ n. overwritten c.loop-value.memory c.loop-value.next_place (low_bytes n c.bits_of.result)) size
    ∙ ap (λ n. overwritten c.loop-value.memory c.loop-value.next_place (low_bytes (size_of array.elem) n)) bits in
    subst (λ n. IsPut array c.args.place (index + 1) (c.loop-value.next_place + n) c.args.memory.now c.put_low.new.memory) (sym size)
    (subst (IsPut array c.args.place (index + 1) (c.loop-value.next_place + size_of array.elem) c.args.memory.now) (sym new)
    (one_more_put array c.args.place c.args.memory.now c.requires.inside index c.loop-value.next_place c.loop-value.memory c.loop-value.invariant (pos 0) below))

pub returns-clause-same_length : goal.returns-clause-same_length
returns-clause-same_length c =
    let within : c.loop-value.value-index ≤ length c.args.array.now.values =
    subst (λ (a : Grid). c.loop-value.value-index ≤ length a.values) c.array.view_is (subst (λ (items : List ℤ). c.loop-value.value-index ≤ length items) c.deref-value-items.ensures.value c.loop-value.auto.value-index-end) in
    put_same c.args.array.now c.args.place c.args.memory.now c.requires.inside c.loop-value.value-index c.loop-value.next_place c.loop-value.memory c.loop-value.invariant within

pub returns-clause-memory : goal.returns-clause-memory
returns-clause-memory c =
    let array = c.args.array.now in
    let index = c.loop-value.value-index in
    let all : length array.values ≤ index = subst (λ (a : Grid). length a.values ≤ index) c.array.view_is (subst (λ (items : List ℤ). length items ≤ index) c.deref-value-items.ensures.value c.loop-value-test.false) in
    all_put array c.args.place c.args.memory.now c.requires.inside index c.loop-value.next_place c.loop-value.memory c.loop-value.invariant all
