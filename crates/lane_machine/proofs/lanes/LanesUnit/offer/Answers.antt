use Rattle.std.proofs.Common.{◌≡◌, ◌∙◌, sym, ap, refl, subst, arith, [], ◌∷◌, ◌++◌, Some, None, Option, true, false}
use Rattle.std.specs.Option.{is_some}
use Rattle.std.proofs.lemmas.Bool.{true≢false}
use Rattle.circular_buffer.specs.Buffer.{Buffer}
use Rattle.ven_base.specs.Job.{new_job}
use Rattle.venice_isa.specs.declared.work.VecWork.{VecWork}
use Rattle.lane_machine.specs.declared.current.Current.{Current}
use Rattle.lane_machine.specs.State.{lane_course}
use Rattle.lane_machine.specs.Lanes.{jobs_of, IsFront}
use Rattle.lane_machine.proofs.Kept.{lanes_offered, jobs_offered, front_stays, front_new, none_begun, no_jobs}
use Rattle.lane_machine.proofs.lanes.LanesUnit.offer.Goals as goal

-- nothing is kept where `is_none` says so
is_nothing : (kept : Option Current) → is_some kept ≡ false → kept ≡ None
is_nothing None is = refl
is_nothing (Some current) is = absurd (true≢false is)

is_something : (kept : Option Current) → is_some kept ≡ true → ¬ (kept ≡ None)
is_something kept is none = true≢false (sym is ∙ ap is_some none)

pub invariant_of-self-then-is_none : goal.invariant_of-self-then-is_none
invariant_of-self-then-is_none c =
    let lanes = c.self.inside.lanes in
    let queue = c.self.inside.queue in
    let kept = c.self.inside.current in
    let pushed = c.in_ok-try_push_back.ensures in
    let items = ap (λ (q : Buffer VecWork). q.items) pushed.ok in
    let front = subst (IsFront lanes queue.items) (is_nothing kept c.if-is_none.ensures) c.self.invariant.front in
    lanes_offered lanes queue c.try_push_back.new.self kept (Some c.begin.result) c.args.work c.self.invariant c.requires (omega (arith, pushed.variant.0 refl, c.self.invariant.capacity)) (ap (λ (q : Buffer VecWork). q.capacity) pushed.ok)
    (ap (λ items. jobs_of lanes items (Some c.begin.result)) items
    ∙ jobs_offered lanes queue.items c.args.work (Some c.begin.result) (λ empty. c.begin.ensures.begins)
    ∙ ap (λ jobs. jobs ++ new_job (lane_course lanes) c.args.work ∷ []) (no_jobs lanes queue.items (Some c.begin.result) kept front))
    (subst (λ items. IsFront lanes items (Some c.begin.result)) (sym items) (front_new lanes queue.items c.args.work c.begin.result front c.begin.ensures.at))

pub invariant_of-self-else-is_none : goal.invariant_of-self-else-is_none
invariant_of-self-else-is_none c =
    let lanes = c.self.inside.lanes in
    let queue = c.self.inside.queue in
    let kept = c.self.inside.current in
    let pushed = c.in_ok-try_push_back.ensures in
    let items = ap (λ (q : Buffer VecWork). q.items) pushed.ok in
    lanes_offered lanes queue c.try_push_back.new.self kept kept c.args.work c.self.invariant c.requires (omega (arith, pushed.variant.0 refl, c.self.invariant.capacity)) (ap (λ (q : Buffer VecWork). q.capacity) pushed.ok)
    (ap (λ items. jobs_of lanes items kept) items ∙ jobs_offered lanes queue.items c.args.work kept (none_begun lanes queue.items kept c.self.invariant.front))
    (subst (λ items. IsFront lanes items kept) (sym items) (front_stays lanes queue.items c.args.work kept c.self.invariant.front (is_something kept c.if-is_none.ensures)))
