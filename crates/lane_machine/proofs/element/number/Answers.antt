use Rattle.std.proofs.Common.{subst, sym, ◌∙◌, pos, w64}
use Rattle.std.proofs.lemmas.Int.{to_z-of_z}
use Rattle.ven_base.specs.Elem.{IsElement}
use Rattle.ven_base.proofs.Wrapped.{IsElement-wrapped}
use Rattle.lane_machine.proofs.element.number.Goals as goal

pub returns-clause-in_type : goal.returns-clause-in_type
returns-clause-in_type c =
    subst (IsElement c.args.elem) (sym (to_z-of_z w64 c.number_of.result (record { sfits = c.number_of.type_inv }) ∙ c.number_of.ensures)) (IsElement-wrapped c.args.elem (pos c.bits.result))
