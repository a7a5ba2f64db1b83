use Rattle.std.proofs.Common.{◌*◌, ◌≤◌, arith, subst, sym}
use Rattle.std.proofs.Math.Nat.{mul-le-mul}
use Rattle.ven_base.specs.declared.mapping.Mapping.{Mapping}
use Rattle.ven_base.specs.declared.mapping.Mapping.TheVariants.{Stretch}
use Rattle.ven_base.specs.Extent.{Extent}
use Rattle.ven_base.specs.Place.{IsRepeat}
use Rattle.ven_base.specs.Mapping.{FitsShape, result_shape}
use Rattle.ven_base.proofs.Sources.{factor_within}
use Rattle.ven_base.proofs.mapping.Mapping.result.Goals as goal

pub overflow_mul-of-inside : goal.overflow_mul-of-inside
overflow_mul-of-inside c =
    let P : Mapping → Type 0 = λ m. FitsShape m c.args.of in
    let f : FitsShape (Stretch c.in-Stretch.kr c.in-Stretch.kc) c.args.of = subst P c.in-Stretch.is c.requires in
    let Q : Extent → Type 0 = λ e. IsRepeat c.in-Stretch.kr c.in-Stretch.kc (result_shape (Stretch c.in-Stretch.kr c.in-Stretch.kc) e) in
    let g = subst Q (sym c.of.view_is) f in
    let cols : 1 ≤ c.of.inside.cols * c.in-Stretch.kc = mul-le-mul c.of.invariant.some_cols f.some_cols in
    let few = factor_within (c.of.inside.rows * c.in-Stretch.kr) (c.of.inside.cols * c.in-Stretch.kc) 1048576 cols g.within in
    omega arith
