use Rattle.std.proofs.Common.{◌≡◌, ◌∙◌, ap, sym, subst, List, [], ◌∷◌, ◌++◌}
use Rattle.std.specs.Prelude.{IfSome}
use Rattle.venice_isa.specs.declared.instr.Instr.{Instr}
use Rattle.venice_isa.specs.declared.instr.Instr.TheVariants.{Halt}
use Rattle.venice_isa.specs.declared.instr.Version.TheVariants.{Two}
use Rattle.venice_isa.specs.Code.{Listing, IsCode}
use Rattle.host_programs.specs.Block.{instrs_at}
use Rattle.host_programs.specs.ProgramCode.{block_of}
use Rattle.host_programs.specs.Coded.{listing_of, IssuesItsList}
use Rattle.host_programs.specs.Shown.{program_of}
use Rattle.host_programs.proofs.Codes.{programs_are_code}
use Rattle.host_programs.proofs.coded.code_of.Goals as goal

pub unwrap-requires : goal.unwrap-requires
unwrap-requires c =
    let p = program_of c.args.p.now in
    let x = instrs_at (block_of p 0) 0 in
    let items_are : c.push.new.self.items ≡ x ++ Halt ∷ [] = c.in_ok-push.ensures.items ∙ ap (λ xs. xs ++ Halt ∷ []) (c.in_ok-emit_program.ensures.instrs ∙ ap (λ xs. xs ++ x) c.new-instrs.ensures.items) in
    c.new.ensures.found.1 (subst (λ xs. IsCode (record { version = Two; instrs = xs })) (sym items_are) (programs_are_code.is_code p c.requires.codable))

pub returns-clause-issues : goal.returns-clause-issues
returns-clause-issues c =
    let p = program_of c.args.p.now in
    let x = instrs_at (block_of p 0) 0 in
    let items_are : c.push.new.self.items ≡ x ++ Halt ∷ [] = c.in_ok-push.ensures.items ∙ ap (λ xs. xs ++ Halt ∷ []) (c.in_ok-emit_program.ensures.instrs ∙ ap (λ xs. xs ++ x) c.new-instrs.ensures.items) in
    let made : Listing = record { version = Two; instrs = c.push.new.self.items } in
    let is : c.unwrap.result ≡ made = subst (λ o. IfSome o (λ code. code ≡ made)) c.unwrap.ensures c.new.ensures.value in
    let listed : c.unwrap.result ≡ listing_of p = is ∙ ap (λ (xs : List Instr). record { version = Two; instrs = xs }) items_are in
    subst (IssuesItsList p) (sym listed) (programs_are_code.issues p c.requires.codable)
