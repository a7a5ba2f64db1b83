use Rattle.std.proofs.Common.{◌≡◌, ◌∙◌, ◌<◌, ◌++◌, ◌+◌, ℕ, suc, ap, sym, subst, Some, arith}
use Rattle.std.specs.Prelude.{length}
use Rattle.venice_isa.specs.Host.{Host, deed, deed_at, after_at, after_steps, start, is_halt, next, passed_by, passed_in}
use Rattle.venice_isa.specs.HostState.{host_of}
use Rattle.venice_isa.proofs.HostSteps.{issue_list_found, no_issue_list, goes_on_more, stays_in_code}
use Rattle.venice_isa.proofs.issue_list.issues.Goals as goal

pub returns-then-is_halt-clause-list : goal.returns-then-is_halt-clause-list
returns-then-is_halt-clause-list c =
    let instrs = c.args.code.now.instrs in
    let k = c.loop.counter in
    let deed_is : c.deed_of-deed.result ≡ deed instrs (after_steps instrs k start) = c.deed_of-deed.ensures ∙ ap (λ i. deed_at i (host_of c.loop.host)) (sym c.instr-instr.ensures.value) ∙ ap (deed instrs) c.loop.invariant.host in
    issue_list_found instrs k c.args.budget (omega arith) (sym (ap is_halt deed_is) ∙ sym c.is_halt.ensures ∙ c.if-is_halt.true)
    ∙ ap (λ xs. Some xs) (sym c.loop.invariant.list)

pub loop-preserved : goal.loop-preserved
loop-preserved c =
    let code = c.args.code.now in
    let instrs = code.instrs in
    let k = c.loop.counter in
    let host = host_of c.loop.host in
    let deed_is : c.deed_of-deed.result ≡ deed instrs (after_steps instrs k start) = c.deed_of-deed.ensures ∙ ap (λ i. deed_at i host) (sym c.instr-instr.ensures.value) ∙ ap (deed instrs) c.loop.invariant.host in
    let went : host_of c.advance_by.new.self ≡ next instrs host = c.advance_by.ensures ∙ ap (λ i. after_at i host) (sym c.instr-instr.ensures.value) in
    let one_more : k + 1 ≡ suc k = omega arith in
    let P : ℕ → Type 0 = λ p. p < length instrs in
    record {
      host = went ∙ ap (next instrs) c.loop.invariant.host ∙ ap (λ q. after_steps instrs q start) (sym one_more);
      list = c.in_ok-push_passed.ensures.passed ∙ ap (λ xs. xs ++ passed_by c.deed_of-deed.result) c.loop.invariant.list ∙ ap (λ d. passed_in instrs k start ++ passed_by d) deed_is ∙ ap (λ q. passed_in instrs q start) (sym one_more);
      within = subst P (sym (ap (λ (h : Host). h.place) went)) (stays_in_code code host c.instr-instr.ensures.is_code c.loop.invariant.within);
      goes_on = goes_on_more instrs k c.loop.invariant.goes_on (sym (ap is_halt deed_is) ∙ sym c.is_halt.ensures ∙ c.if-is_halt.false);
    }

pub returns-clause-budget : goal.returns-clause-budget
returns-clause-budget c = λ e. no_issue_list c.args.code.now.instrs c.args.budget (λ k less. c.loop.invariant.goes_on k (omega arith))
