use Rattle.std.proofs.Common.{◌≡◌, ◌∙◌, sym, subst, ◌<◌, ◌+◌, arith, true, false, length}
use Rattle.std.proofs.lemmas.Bool.{false≢true}
use Rattle.venice_isa.specs.Units.{keep_their_order}
use Rattle.venice_isa.specs.Footprint.{Conflicts}
use Rattle.overlap_law.proofs.Races.{IsSearched, race_here, no_later_race, searched_on}
use Rattle.overlap_law.proofs.race.race_with.Goals as goal
use Rattle.overlap_law.proofs.race.race_with.Goals.{else-not-keep_their_order-via-then-not-keep_their_order+else-conflict, else-not-keep_their_order-via-else-not-keep_their_order, then-share_a_unit, else-share_a_unit}

pub returns-then-conflict : goal.returns-then-conflict
returns-then-conflict c =
    let place = c.loop-place.place in
    let kept = c.loop-place.invariant in
    let within : place < length c.args.list.now = omega (arith, c.loop-place-test.true, c.requires.in_list) in
    let race = race_here c.args.version c.args.list.now c.args.first c.index-list-first.result place c.loop-place.works kept c.index-list-place.result within c.index-list-place.is
    (sym c.keep_their_order.ensures ∙ c.if-not-keep_their_order.true) (c.conflict.ensures.0 c.if-conflict.true) in
    (c.loop-place-test.true, race, kept.none)

pub returns-then-ends : goal.returns-then-ends
returns-then-ends c =
    let place = c.loop-place.place in
    let kept = c.loop-place.invariant in
    let work = c.index-list-first.result in
    let issue = c.index-list-place.result in
    let within : place < length c.args.list.now = omega (arith, c.loop-place-test.true, c.requires.in_list) in
    let spared : keep_their_order c.args.version work issue ≡ false → ¬ Conflicts work issue = λ unordered conflict.
    elim c.else-not-keep_their_order.branch [
      | else-not-keep_their_order-via-then-not-keep_their_order+else-conflict w ↦ false≢true (sym w.if-conflict.false ∙ w.conflict.ensures.1 conflict)
      | else-not-keep_their_order-via-else-not-keep_their_order w ↦ false≢true (sym unordered ∙ sym c.keep_their_order.ensures ∙ w.if-not-keep_their_order.false)
    ] in
    λ q below. no_later_race c.args.version c.args.list.now c.args.first work place c.loop-place.works kept issue within c.index-list-place.is spared c.if-ends.ensures q

pub loop-place-preserved : goal.loop-place-preserved
loop-place-preserved c =
    let place = c.loop-place.place in
    let works = c.loop-place.works in
    let kept = c.loop-place.invariant in
    let work = c.index-list-first.result in
    let issue = c.index-list-place.result in
    let within : place < length c.args.list.now = omega (arith, c.loop-place-test.true, c.requires.in_list) in
    let spared : keep_their_order c.args.version work issue ≡ false → ¬ Conflicts work issue = λ unordered conflict.
    elim c.else-not-keep_their_order.branch [
      | else-not-keep_their_order-via-then-not-keep_their_order+else-conflict w ↦ false≢true (sym w.if-conflict.false ∙ w.conflict.ensures.1 conflict)
      | else-not-keep_their_order-via-else-not-keep_their_order w ↦ false≢true (sym unordered ∙ sym c.keep_their_order.ensures ∙ w.if-not-keep_their_order.false)
    ] in
    let on = searched_on c.args.version c.args.list.now c.args.first work place works kept issue within c.index-list-place.is spared c.if-ends.ensures in
    elim c.if-share_a_unit.branch [
      | then-share_a_unit w ↦ subst (IsSearched c.args.version c.args.list.now c.args.first work (place + 1)) (sym w.works-is) (on true (sym c.share_a_unit.ensures ∙ w.if-share_a_unit.true))
      | else-share_a_unit w ↦ subst (IsSearched c.args.version c.args.list.now c.args.first work (place + 1)) (sym w.works-is) (on false (sym c.share_a_unit.ensures ∙ w.if-share_a_unit.false))
    ]

pub returns : goal.returns
returns c = λ q below. c.loop-place.invariant.none q (omega (arith, below, c.loop-place-test.false))
