-- What the operations answer: numbers of the results' type.
use Rattle.std.proofs.Common.{◌≡◌, ◌≢◌, ap, subst}
use Rattle.std.specs.Prelude.{ℤ}
use Rattle.ven_base.specs.declared.elem.Elem.{Elem}
use Rattle.ven_base.specs.Elem.{IsElement}
use Rattle.ven_base.proofs.Wrapped.{IsWrapped-wrapped}
use Rattle.ven_base.proofs.Operations.{IsElement-nearest}
use Rattle.venice_isa.specs.declared.kind.VecKind.{VecKind}
use Rattle.venice_isa.specs.declared.op.VecOp.{VecOp}
use Rattle.venice_isa.specs.declared.op.VecOp.TheVariants.{Mov, Cast, Cmov, Sadd, Ssub}
use Rattle.venice_isa.specs.Answer.{answer_of, result_of}

-- an instruction answers what its operation does
pub result_is : (kind : VecKind) (a b : ℤ) (op : VecOp) → kind.op ≡ op → result_of kind a b ≡ answer_of op kind.elem a b
unfolding result_of
result_is kind a b op is = ap (λ o. answer_of o kind.elem a b) is

answer_in_type : (op : VecOp) (elem : Elem) (a b : ℤ) → (op ≢ Cast → IsElement elem a) → IsElement elem (answer_of op elem a b)
answer_in_type Mov elem a b range = range (λ e. cc)
answer_in_type Cmov elem a b range = range (λ e. cc)
answer_in_type Sadd elem a b range = IsElement-nearest elem _
answer_in_type Ssub elem a b range = IsElement-nearest elem _
answer_in_type _ elem a b range = (IsWrapped-wrapped elem _).in_range

pub result_in_type : (kind : VecKind) (a b : ℤ) → IsElement kind.from a → IsElement kind.elem (result_of kind a b)
unfolding result_of
result_in_type kind a b range = answer_in_type kind.op kind.elem a b (λ no_cast. subst (λ elem. IsElement elem a) (kind.one_type no_cast) range)
