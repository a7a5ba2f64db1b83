use Rattle.std.proofs.Common.{inl, inr, ◌⊎◌, ◌≡◌, ◌∙◌, ap, sym, subst, arith, min, ◌+◌, ◌<◌, ◌≤◌, replicate, None}
use Rattle.std.proofs.lemmas.Bool.{cases_lt}
use Rattle.venice_machine.specs.Run.{all_units, after_cycles}
use Rattle.venice_machine.specs.Machine.{MachineContents, Shows}
use Rattle.venice_machine.proofs.Cycling.{many_more, ended_rest, none_is, some_is}
use Rattle.venice_machine.proofs.machine.Machine.full_cycles.Goals as goal

pub loop-made-preserved : goal.loop-made-preserved
loop-made-preserved c =
    let kept = c.loop-made.invariant in
    let going = sym (ap (λ (m : MachineContents). m.end) c.self.view_is) ∙ none_is c.self.inside.end c.if-is_some.ensures in
    let k = c.loop-made.made in
    let n = c.some_cycles-made.result in
    let budget = c.args.budget in
    let steps = c.loop-made.self.steps in
    let new = c.some_cycles-made.new.self in
    let made = c.some_cycles-made.ensures in
    let so_far = kept.running going in
    let ahead : new.end ≡ None → (k + n ≤ new.steps) × (new.steps < budget) = λ none.
    let more = made.advances none in
    let room = made.room none in
    elim so_far [
      | inl zero ↦ let few : k + n ≤ new.steps = omega (arith, zero, more) in (few, room)
      | inr both ↦ let few : k + n ≤ new.steps = omega (arith, both.0, more) in (few, room)
    ] in
    let within : (n ≡ 1) ⊎ (new.end ≡ None) → k + n ≤ budget + 1 = λ one.
    elim one [
      | inl single ↦ omega (arith, single, c.loop-made-test.true)
      | inr none ↦ let both = ahead none in omega (arith, both.0, both.1)
    ] in
    let fits : steps < budget → (n ≡ 1) ⊎ (new.end ≡ None) → k + n ≤ budget = λ more one.
    elim one [
      | inl single ↦ elim so_far [ inl zero ↦ omega (arith, zero, single, more) | inr both ↦ omega (arith, both.0, single, more) ]
      | inr none ↦ let both = ahead none in omega (arith, both.0, both.1)
    ] in
    let counted : (steps < budget) ⊎ (budget ≤ steps) → new.cycles ≤ c.args.self.now.cycles + min (k + n) budget = λ spent.
    elim spent [
      | inl more ↦ omega (arith, fits more made.one, made.cycles, kept.cycles)
      | inr gone ↦ omega (arith, made.spent gone, kept.cycles)
    ] in
    record {
      few = within made.one;
      setup = made.setup ∙ kept.setup;
      cycles = counted (cases_lt steps budget);
      running = λ none. inr (ahead none);
      state = λ state shows.
          let setup = c.args.self.now.setup in
          let before = after_cycles setup budget (replicate k all_units) state in
          subst (Shows new)
          (ap (λ setup. after_cycles setup budget (replicate n all_units) before) kept.setup ∙ sym (many_more setup budget k n state))
          (made.state before (kept.state state shows));
    }

pub returns-then-is_some-clause-state : goal.returns-then-is_some-clause-state
returns-then-is_some-clause-state c = λ state shows.
    let ended = some_is c.self.inside.end (sym c.if-is_some.ensures) in
    let end = sym (ap (λ (m : MachineContents). m.end) c.self.view_is) ∙ ended.1 in
    let shown = c.loop-made.invariant.state state shows in
    subst (Shows c.loop-made.self) (sym (ended_rest c.args.self.now.setup c.args.budget c.loop-made.made (c.args.budget + 1) state ended.0 c.loop-made.invariant.few (shown.end ∙ end))) shown
