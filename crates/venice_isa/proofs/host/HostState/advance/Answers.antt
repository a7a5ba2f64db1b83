use Rattle.std.proofs.Common.{◌<◌, ◌≡◌, ℕ, length, arith, subst, sym, ap, ◌∙◌}
use Rattle.venice_isa.specs.HostState.{host_of}
use Rattle.venice_isa.specs.Host.{Host, after_instr, after_at}
use Rattle.venice_isa.proofs.HostSteps.{stays_in_code}
use Rattle.venice_isa.proofs.host.HostState.advance.Goals as goal

pub advance_by-requires-clause-room : goal.advance_by-requires-clause-room
advance_by-requires-clause-room c = omega (arith, c.instr-instr.ensures.is_code.few)

pub returns-clause-in_code : goal.returns-clause-in_code
returns-clause-in_code c =
    let code = c.args.code.now in
    let host = host_of c.args.self.now in
    let went : host_of c.advance_by.new.self ≡ after_instr c.instr-instr.result host = c.advance_by.ensures in
    let place = ap (λ (h : Host). h.place) (went ∙ ap (λ i. after_at i host) (sym c.instr-instr.ensures.value)) in
    let P : ℕ → Type 0 = λ p. p < length code.instrs in
    subst P (sym place) (stays_in_code code host c.instr-instr.ensures.is_code c.requires)
