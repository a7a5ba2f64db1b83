use Rattle.std.proofs.Common.{◌≡◌, subst, inl, inr, arith}
use Rattle.std.specs.Prelude.{slice_index}
use Rattle.std.proofs.lemmas.Bool.{cases_lt}
use Rattle.image_loader.specs.Faults.{FitsMagic}
use Rattle.image_loader.proofs.Stops.{magic_goes_on, magic_bad}
use Rattle.image_loader.proofs.reading.read_magic.Goals as goal

pub returns-then-not-fits_magic : goal.returns-then-not-fits_magic
returns-then-not-fits_magic c =
    magic_bad c.args.bytes.now c.loop-i.i (omega arith) c.loop-i.invariant.read (omega arith) (λ fits. absurd (cc (c.fits_magic.ensures.1 fits, c.if-not-fits_magic.true)))

pub loop-i-preserved : goal.loop-i-preserved
loop-i-preserved c =
    let bytes = c.args.bytes.now in
    let fits = c.fits_magic.ensures.0 c.if-not-fits_magic.false in
    record {
      read = magic_goes_on bytes c.loop-i.i (omega arith) c.loop-i.invariant.read (omega arith) fits;
      fits = λ j less. elim (cases_lt j c.loop-i.i) [
        | inl lt ↦ c.loop-i.invariant.fits j lt
        | inr ge ↦ let same : c.loop-i.i ≡ j = omega arith in subst (λ q. FitsMagic q (slice_index bytes q)) same fits
      ];
    }
