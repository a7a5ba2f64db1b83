use Rattle.std.proofs.Common.{◌≡◌, ◌∙◌, ◌+◌, ℕ, true, false, length, ap}
use Rattle.std.specs.Prelude.{nat_lt}
use Rattle.venice_asm.specs.Parts.{elem_in, is_a_scalar_in, is_b_scalar_in}
use Rattle.venice_asm.proofs.Vectors.{vector_is, vector_mode}
use Rattle.venice_asm.proofs.statement.vector.Goals as goal

pub returns-in-Some : goal.returns-in-Some
returns-in-Some c =
    let list = c.args.operands.now in
    let place = c.from_place-from.ensures in
    vector_is list c.in-Some.kind _ _ _ _ _ _ c.requires
    (record {
      op_is = c.operation-op.ensures;
      elem_is = c.elem.ensures;
      from_is = c.elem-2.ensures ∙ ap (elem_in list) place;
      a_is = c.is_a_scalar.ensures ∙ ap (λ (k : ℕ). is_a_scalar_in list (k + 1)) place;
      b_is = c.is_b_scalar.ensures ∙ ap (λ (k : ℕ). is_b_scalar_in list (k + 1)) place;
      acc_is = ap (λ (k : ℕ). nat_lt (k + 2) (length list)) place;
    })
    c.in-Some.ensures.parts

pub returns-in-None : goal.returns-in-None
returns-in-None c =
    let list = c.args.operands.now in
    let place = c.from_place-from.ensures in
    let wrong : false ≡ true = c.in-None.ensures.allowed.1 (vector_mode list _ _ _ _ _ _ c.requires
    (record {
      op_is = c.operation-op.ensures;
      elem_is = c.elem.ensures;
      from_is = c.elem-2.ensures ∙ ap (elem_in list) place;
      a_is = c.is_a_scalar.ensures ∙ ap (λ (k : ℕ). is_a_scalar_in list (k + 1)) place;
      b_is = c.is_b_scalar.ensures ∙ ap (λ (k : ℕ). is_b_scalar_in list (k + 1)) place;
      acc_is = ap (λ (k : ℕ). nat_lt (k + 2) (length list)) place;
    })) in
    absurd (cc)
