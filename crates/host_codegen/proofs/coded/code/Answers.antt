use Rattle.std.proofs.Common.{ap, sym, subst, ◌≡◌, ◌∙◌, arith}
use Rattle.std.proofs.lemmas.Result.{IfOk-weaker}
use Rattle.venice_isa.specs.Code.{Listing}
use Rattle.pass_plan.specs.Shown.{split_of}
use Rattle.host_programs.specs.Coded.{IsCodable, listing_of}
use Rattle.host_programs.specs.Shown.{program_of}
use Rattle.host_codegen.specs.CodeOf.{IsCodeOf}
use Rattle.host_codegen.proofs.SplitCode.{SplitLaws, codable, code_is}
use Rattle.host_codegen.proofs.coded.code.Goals as goal

pub code_of-requires : goal.code_of-requires
code_of-requires c =
    let split = split_of c.args.split.now in
    let laws : SplitLaws = record {
      code = c.code_laws.ensures;
      lists = c.program_laws.ensures.lists;
      closed = c.program_laws.ensures.closed;
      registers = c.program_laws.ensures.few;
      fit = c.fit_laws.ensures;
      room = c.cost_laws.ensures.room;
      steps = c.cost_laws.ensures.steps;
    } in
    let room = c.room_laws.ensures.small split c.requires.sound c.requires.few in
    record { codable = subst IsCodable (sym c.in_ok-program.ensures) (codable laws split c.args.spad c.requires.sound c.requires.holds (omega arith) room) }

pub returns-clause-value : goal.returns-clause-value
returns-clause-value c =
    IfOk-weaker c.code_of.result (λ code. code ≡ listing_of (program_of c.in_ok-program.program)) _
    (λ code is. is ∙ ap listing_of c.in_ok-program.ensures)
    c.code_of.ensures.listing

pub returns-clause-of_split : goal.returns-clause-of_split
returns-clause-of_split c =
    let split = split_of c.args.split.now in
    let laws : SplitLaws = record {
      code = c.code_laws.ensures;
      lists = c.program_laws.ensures.lists;
      closed = c.program_laws.ensures.closed;
      registers = c.program_laws.ensures.few;
      fit = c.fit_laws.ensures;
      room = c.cost_laws.ensures.room;
      steps = c.cost_laws.ensures.steps;
    } in
    let room = c.room_laws.ensures.small split c.requires.sound c.requires.few in
    IfOk-weaker c.code_of.result (λ code. code ≡ listing_of (program_of c.in_ok-program.program)) _
    (λ code is. subst (λ (l : Listing). IsCodeOf split c.args.spad l) (sym (is ∙ ap listing_of c.in_ok-program.ensures)) (code_is laws split c.args.spad c.requires.sound c.requires.holds (omega arith) room))
    c.code_of.ensures.listing
