use Rattle.std.proofs.Common.{◌≡◌, subst}
use Rattle.std.specs.Prelude.{◌↔◌, ℤ, IsTrue}
use Rattle.std.specs.Int.{w64}
use Rattle.std.proofs.lemmas.Int.{to_z-of_z}
use mir.Val.{to_z, of_z}
use Rattle.ven_base.specs.Elem.{IsElement}
use Rattle.shape_check.specs.Judge.{is_in}
use Rattle.shape_check.proofs.Decisions.{same_answer, is_in-IsElement}
use Rattle.shape_check.proofs.operand.is_in.Goals as goal

pub returns : goal.returns
returns c =
    let n = c.args.n in
    let same : to_z w64 (of_z w64 n) ≡ n = to_z-of_z w64 n c.ranges.n in
    let told : IsTrue c.contains.result ↔ IsElement c.args.elem n = subst (λ (m : ℤ). IsTrue c.contains.result ↔ IsElement c.args.elem m) same c.contains.ensures in
    same_answer c.contains.result (is_in c.args.elem n) told (is_in-IsElement c.args.elem n)
