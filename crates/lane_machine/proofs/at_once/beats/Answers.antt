use Rattle.std.proofs.Common.{◌≡◌, ◌∙◌, ◌+◌, ◌-◌, ◌*◌, ◌<◌, false, ap, sym, refl, subst, arith, length, suc, [], ◌∷◌, inl, inr}
use Rattle.std.proofs.lemmas.Bool.{cases_Bool}
use Rattle.std.specs.Int.{w128}
use Rattle.std.proofs.lemmas.Int.{to_z-of_z}
use Rattle.ven_base.specs.Store.{store_of, cells_alone}
use Rattle.ven_base.specs.Beats.{jobs_after_beats, store_after_beats}
use Rattle.venice_isa.specs.declared.issue.Issue.TheVariants.{Vector}
use Rattle.venice_isa.specs.Footprint.{HasFootprint}
use Rattle.venice_isa.specs.Beat.{beats_of_row, vector_beats}
use Rattle.lane_machine.specs.State.{lane_course}
use Rattle.lane_machine.specs.ToGo.{job_at, BeatsToGo}
use Rattle.lane_machine.proofs.Beats.{progress_on}
use Rattle.lane_machine.proofs.Kept.{inside_of_32_bits}
use Rattle.lane_machine.proofs.ToGo.{one_less, inside_of}
use Rattle.lane_machine.proofs.at_once.beats.Goals as goal

pub loop-k-init : goal.loop-k-init
loop-k-init c = λ memory.
    let all : c.args.count ≡ c.args.count - 0 = omega arith in
    let store = store_of c.args.cells.now memory in
    subst (λ left. BeatsToGo c.args.lanes c.args.work.now c.args.count c.args.current.now store left c.args.current.now store) all
    (record { under_way = c.requires.under_way; counted = refl; same_length = refl; jobs_end = λ rest. refl; store_end = λ rest. refl })

pub count-items-requires : goal.count-items-requires
count-items-requires c = let so_far = c.loop-k.invariant [] in so_far.under_way.at

pub beat-sum-requires-clause-at : goal.beat-sum-requires-clause-at
beat-sum-requires-clause-at c = let so_far = c.loop-k.invariant [] in so_far.under_way.at

pub beat-sum-requires-clause-inside : goal.beat-sum-requires-clause-inside
beat-sum-requires-clause-inside c =
    let so_far = c.loop-k.invariant [] in
    subst (λ n. HasFootprint (cells_alone n) (Vector c.args.work.now)) (sym so_far.same_length) c.requires.inside

pub beat-sum-requires-clause-small : goal.beat-sum-requires-clause-small
beat-sum-requires-clause-small c = let so_far = c.loop-k.invariant [] in omega (arith, so_far.same_length, c.requires.small)

pub advance-requires-clause-at : goal.advance-requires-clause-at
advance-requires-clause-at c = let so_far = c.loop-k.invariant [] in so_far.under_way.at

pub advance-requires-clause-inside : goal.advance-requires-clause-inside
advance-requires-clause-inside c = inside_of_32_bits c.args.work.now (length c.args.cells.now) c.requires.inside c.requires.small

pub loop-k-preserved : goal.loop-k-preserved
loop-k-preserved c = λ memory.
    let lanes = c.args.lanes in
    let work = c.args.work.now in
    let now = c.loop-k.current in
    let next = c.advance.new.self in
    let store = store_of c.loop-k.cells memory in
    let left = c.args.count - (c.loop-k._k + 1) in
    let one_more : c.args.count - c.loop-k._k ≡ suc left = omega (arith, c.loop-k-test.true) in
    let so_far = subst (λ left. BeatsToGo lanes work c.args.count c.args.current.now (store_of c.args.cells.now memory) left now store) one_more (c.loop-k.invariant memory) in
    let under_way = so_far.under_way in
    let more : now.done + 1 < vector_beats work lanes = omega (arith, so_far.counted, c.requires.more) in
    let last : c.advance.result ≡ false → ⊥ = λ over.
    let ends = subst (λ group. now.done + 1 ≡ work.rows * beats_of_row work.vl group) under_way.group_items_is (c.advance.ensures.ends over) in
    absurd (omega (arith, ends, more)) in
    let is_next = c.advance.ensures.goes_on (elim (cases_Bool c.advance.result) [ inl on ↦ on | inr over ↦ absurd (last over) ]) in
    let sum = to_z-of_z w128 c.beat-sum.result (record { sfits = c.beat-sum.type_inv }) ∙ c.beat-sum.ensures.sum lanes under_way.group_items_is in
    let on = progress_on lanes work now next c.loop-k.cells _ under_way.at under_way.group_items_is sum is_next in
    one_less lanes c.requires.some_lanes work c.args.count c.args.current.now (store_of c.args.cells.now memory) left now store so_far more
    (inside_of work (length c.args.cells.now) store c.requires.inside so_far.same_length) next on
    (record { at = is_next.at; group_items_is = is_next.group_items_is ∙ under_way.group_items_is })
    (store_of c.beat-sum.new.cells memory) (ap (λ cells. store_of cells memory) (c.beat-sum.ensures.cells lanes under_way.group_items_is))

pub returns : goal.returns
returns c = λ memory.
    let lanes = c.args.lanes in
    let work = c.args.work.now in
    let so_far = c.loop-k.invariant memory in
    let none : 0 ≡ c.args.count - c.loop-k._k = omega arith in
    record {
      under_way = so_far.under_way;
      jobs_are = λ rest. ap (λ left. jobs_after_beats (lane_course lanes) left (job_at work c.loop-k.current ∷ rest) (store_of c.loop-k.cells memory)) none ∙ so_far.jobs_end rest;
      store_is = λ rest. ap (λ left. store_after_beats (lane_course lanes) left (job_at work c.loop-k.current ∷ rest) (store_of c.loop-k.cells memory)) none ∙ so_far.store_end rest;
    }
