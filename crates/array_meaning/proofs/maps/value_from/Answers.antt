use Rattle.std.proofs.Common.{◌≡◌, ◌+◌, ◌*◌, ◌<◌, ◌∙◌, sym, ap, subst, arith, length, Option}
use Rattle.std.specs.Prelude.{ℕ, IfSome}
use Rattle.std.proofs.lemmas.Nat.{mul-add-lt}
use Rattle.ven_base.specs.Extent.{Extent, IsExtent, IsIndex}
use Rattle.ven_base.proofs.Sources.{source_of-inside}
use Rattle.array_meaning.proofs.maps.value_from.Goals as goal

pub number-requires-clause-inside : goal.number-requires-clause-inside
number-requires-clause-inside c =
    let of : Extent = c.args.of in
    let row = c.in-Some.row in
    let col = c.in-Some.col in
    let extent : IsExtent of = subst IsExtent c.of.view_is c.of.invariant in
    let inside : IsIndex of row col =
    subst (λ (o : Option (ℕ × ℕ)). IfSome o (λ s. IsIndex of s.0 s.1)) (sym c.source.ensures ∙ c.in-Some.is) (source_of-inside c.args.mapping of c.args.i c.args.j extent c.requires.fits c.requires.inside) in
    let wide : c.of.inside.cols ≡ of.cols = ap (λ (s : Extent). s.cols) c.of.view_is in
    subst (λ (w : ℕ). row * w + col < length c.args.values.now) (sym wide) (omega (arith, mul-add-lt row of.cols col of.rows inside.row inside.col, c.requires.full))

pub number-requires-clause-few : goal.number-requires-clause-few
number-requires-clause-few c = omega (arith, c.requires.full, c.of.invariant.within, ap (λ (s : Extent). s.rows * s.cols) c.of.view_is)
