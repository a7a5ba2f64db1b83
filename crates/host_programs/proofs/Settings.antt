-- The code that sets some parameters, and then others.
use Rattle.std.proofs.Common.{◌≡◌, ℕ, ◌+◌, List, [], ◌∷◌, ◌++◌, sym, ap, ◌∙◌, arith, append_assoc, Bool}
use Rattle.std.specs.Prelude.{OnOk}
use Rattle.std.specs.declared.result.Result.{Result}
use Rattle.std.specs.declared.result.Result.TheVariants.{Ok, Err}
use Rattle.venice_isa.specs.declared.instr.Instr.{Instr}
use Rattle.venice_isa.specs.declared.instr.Instr.TheVariants.{Set, Vec, Dma, Tag}
use Rattle.host_programs.specs.Block.{size, instrs_at}
use Rattle.host_programs.specs.Expr.{bring, register_of}
use Rattle.host_programs.specs.Program.{TransferOrder, VectorOrder, IssueTransfer, IssueVector}
use Rattle.host_programs.specs.ProgramCode.{Setting, transfer_settings, vector_settings, settings_block, order_block}

pub settings_instrs : (xs ys : List Setting) (d place : ℕ) → instrs_at (settings_block (xs ++ ys) d) place ≡ instrs_at (settings_block xs d) place ++ instrs_at (settings_block ys d) (place + size (settings_block xs d))
settings_instrs [] ys d place = let e : place ≡ place + 0 = omega arith in ap (instrs_at (settings_block ys d)) e
settings_instrs (s ∷ xs) ys d place =
    let b = instrs_at (bring s.expr d) place in
    let one = Set s.field (register_of s.expr d) in
    let here = place + size (bring s.expr d) + 1 in
    let behind : here + size (settings_block xs d) ≡ place + (size (bring s.expr d) + (1 + size (settings_block xs d))) = omega arith in
    ap (λ zs. b ++ one ∷ zs) (settings_instrs xs ys d here) ∙ ap (λ q. b ++ one ∷ (instrs_at (settings_block xs d) here ++ instrs_at (settings_block ys d) q)) behind
    ∙ sym (append_assoc b (one ∷ instrs_at (settings_block xs d) here) (instrs_at (settings_block ys d) (place + (size (bring s.expr d) + (1 + size (settings_block xs d))))))

pub set_on : (old middle new : List Instr) (xs ys : List Setting) (d place back : ℕ) → middle ≡ old ++ instrs_at (settings_block xs d) place → back ≡ place + size (settings_block xs d)
    → new ≡ middle ++ instrs_at (settings_block ys d) back → new ≡ old ++ instrs_at (settings_block (xs ++ ys) d) place
set_on old middle new xs ys d place back first is second =
    second ∙ ap (λ zs. zs ++ instrs_at (settings_block ys d) back) first ∙ ap (λ q. (old ++ instrs_at (settings_block xs d) place) ++ instrs_at (settings_block ys d) q) is
    ∙ append_assoc old (instrs_at (settings_block xs d) place) (instrs_at (settings_block ys d) (place + size (settings_block xs d))) ∙ ap (λ zs. old ++ zs) (sym (settings_instrs xs ys d place))

-- one instruction more
one_more : (xs : List Instr) (x y : Instr) → (xs ++ x ∷ []) ++ y ∷ [] ≡ xs ++ x ∷ y ∷ []
one_more xs x y = append_assoc xs (x ∷ []) (y ∷ [])

pub sent_on : (old c1 c2 c3 c4 : List Instr) (write : Bool) (work : TransferOrder) (d place tag a : ℕ) → c1 ≡ old ++ instrs_at (settings_block (transfer_settings work) d) place
    → tag ≡ place + size (settings_block (transfer_settings work) d) → a ≡ register_of work.tag d → c2 ≡ c1 ++ instrs_at (bring work.tag d) tag → c3 ≡ c2 ++ Tag a ∷ [] → c4 ≡ c3 ++ Dma write ∷ []
    → c4 ≡ old ++ instrs_at (order_block (IssueTransfer write work) d) place
sent_on old c1 c2 c3 c4 write work d place tag a first is is_a second third fourth =
    let ss = settings_block (transfer_settings work) d in
    let s = instrs_at ss place in
    let b = instrs_at (bring work.tag d) (place + size ss) in
    let ends = Tag (register_of work.tag d) ∷ Dma write ∷ [] in
    fourth ∙ ap (λ zs. zs ++ Dma write ∷ []) third ∙ one_more c2 (Tag a) (Dma write) ∙ ap (λ zs. zs ++ Tag a ∷ Dma write ∷ []) second ∙ ap (λ zs. (zs ++ instrs_at (bring work.tag d) tag) ++ Tag a ∷ Dma write ∷ []) first
    ∙ ap (λ q. ((old ++ s) ++ instrs_at (bring work.tag d) q) ++ Tag a ∷ Dma write ∷ []) is ∙ ap (λ r. ((old ++ s) ++ b) ++ Tag r ∷ Dma write ∷ []) is_a
    ∙ append_assoc (old ++ s) b ends ∙ append_assoc old s (b ++ ends)

pub made_on : (old c1 c2 : List Instr) (work : VectorOrder) (d place : ℕ) → c1 ≡ old ++ instrs_at (settings_block (vector_settings work) d) place → c2 ≡ c1 ++ Vec work.kind ∷ []
    → c2 ≡ old ++ instrs_at (order_block (IssueVector work) d) place
made_on old c1 c2 work d place first second =
    second ∙ ap (λ zs. zs ++ Vec work.kind ∷ []) first ∙ append_assoc old (instrs_at (settings_block (vector_settings work) d) place) (Vec work.kind ∷ [])

pub where_ok : {T E P Q : Type 0} (result : Result T E) → (P → Q) → OnOk result P → OnOk result Q
where_ok (Ok value) step holds = step holds
where_ok (Err error) step holds = tt
