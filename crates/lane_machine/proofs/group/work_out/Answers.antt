use Rattle.std.proofs.Common.{◌∙◌, ◌≡◌, ◌+◌, ◌*◌, ◌/◌, ◌≤◌, ap, sym, arith, inl, inr, max, refl, length}
use Rattle.std.proofs.lemmas.Bool.{cases_Bool}
use Rattle.ven_base.specs.Elem.{size_of}
use Rattle.venice_isa.specs.Mode.{uses_b}
use Rattle.venice_isa.specs.Answer.{answer_of, result_of}
use Rattle.venice_isa.specs.Whole.{result_at, number_of_a, number_of_b}
use Rattle.venice_isa.proofs.Wholes.{size_positive, result_without_b}
use Rattle.venice_isa.proofs.Results.{result_is}
use Rattle.lane_machine.specs.Elements.{element_in, wider, HasSpelled}
use Rattle.lane_machine.specs.Group.{results_from}
use Rattle.lane_machine.proofs.Places.{a_ends, b_ends, a_number, b_number, a_in_type, b_in_type}
use Rattle.lane_machine.proofs.Spelled.{few_of, few_bytes, spelled_same, spelled_fewer}
use Rattle.lane_machine.proofs.group.work_out.Goals as goal

pub load-requires-clause-few : goal.load-requires-clause-few
load-requires-clause-few c =
    let kind = c.args.work.now.kind in
    (few_bytes kind.elem kind.from c.args.count c.requires.few).1

pub load_if-requires-clause-few : goal.load_if-requires-clause-few
load_if-requires-clause-few c =
    let kind = c.args.work.now.kind in
    (few_bytes kind.elem kind.from c.args.count c.requires.few).0

pub load-requires-clause-in_type : goal.load-requires-clause-in_type
load-requires-clause-in_type c = a_in_type c.args.work.now c.args.current.now c.requires.placed c.args.cells.now 0

pub load_if-requires-clause-in_type : goal.load_if-requires-clause-in_type
load_if-requires-clause-in_type c = b_in_type c.args.work.now c.args.current.now c.requires.placed c.args.cells.now 0

pub load-requires-clause-inside : goal.load-requires-clause-inside
load-requires-clause-inside c =
    a_ends c.args.work.now c.args.current.now c.requires.placed (length c.args.cells.now) c.requires.inside c.args.count c.requires.some c.requires.in_row

pub load_if-requires-clause-inside : goal.load_if-requires-clause-inside
load_if-requires-clause-inside c =
    b_ends c.args.work.now c.args.current.now c.requires.placed (length c.args.cells.now) c.requires.inside c.args.count c.requires.some c.requires.in_row

pub returns : goal.returns
unfolding result_at
returns c =
    let work = c.args.work.now in
    let kind = work.kind in
    let current = c.args.current.now in
    let cells = c.args.cells.now in
    let count = c.args.count in
    let a = c.load.new.bytes in
    let b = c.load_if.new.bytes in
    let most = wider kind.elem kind.from in
    let enough : count ≤ 16 / most = few_of most count (omega (arith, size_positive kind.elem)) c.requires.few in
    spelled_same kind.elem (λ k. answer_of kind.op kind.elem (element_in kind.from a k) (element_in kind.elem b k)) (results_from work cells current.row current.first) count c.answers.new.results
    (spelled_fewer kind.elem (λ k. answer_of kind.op kind.elem (element_in kind.from a k) (element_in kind.elem b k)) (16 / most) count c.answers.new.results enough c.answers.ensures)
    (λ k below.
    let na = number_of_a work cells current.row (current.first + k) in
    let nb = number_of_b work cells current.row (current.first + k) in
    sym (result_is kind (element_in kind.from a k) (element_in kind.elem b k) kind.op refl)
    ∙ ap (λ n. result_of kind n (element_in kind.elem b k)) (c.load.ensures.each k below ∙ a_number work current c.requires.placed cells k)
    ∙ elim (cases_Bool (uses_b kind.op)) [
      | inl used ↦ ap (result_of kind na) ((c.load_if.ensures (c.uses_b-is_used.ensures ∙ used)).each k below ∙ b_number work current c.requires.placed used cells k)
      | inr unused ↦ result_without_b kind na nb (element_in kind.elem b k) unused
    ])
