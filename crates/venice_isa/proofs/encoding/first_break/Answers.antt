use Rattle.std.proofs.Common.{◌≡◌, ◌∙◌, ap, sym, subst, inl, inr, arith, get_or}
use Rattle.std.specs.Prelude.{IsTrue}
use Rattle.std.proofs.lemmas.Bool.{cases_lt}
use Rattle.venice_isa.specs.Form.{row_at, part_of, allows, allows_at}
use Rattle.venice_isa.proofs.encoding.first_break.Goals as goal

pub loop-k-preserved : goal.loop-k-preserved
loop-k-preserved c =
    let version = c.args.version in
    let bytes = c.args.bytes.now in
    let k = c.loop-k.k in
    let part_is : c.part.result ≡ part_of (row_at (get_or bytes 0 0)) k = c.part.ensures ∙ ap (λ f. part_of f k) c.loop-k.invariant.form in
    let here : IsTrue (allows_at version bytes k) = sym (ap (λ p. allows version p (get_or bytes 1 0) (get_or bytes k 0)) part_is) ∙ sym c.allows.ensures ∙ c.if-not-allows.false in
    record {
      form = c.loop-k.invariant.form;
      earlier = λ j from below. elim (cases_lt j k) [
        | inl lt ↦ c.loop-k.invariant.earlier j from lt
        | inr ge ↦ let same : k ≡ j = omega arith in subst (λ q. IsTrue (allows_at version bytes q)) same here
      ];
    }
