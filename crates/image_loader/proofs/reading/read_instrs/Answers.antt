use Rattle.std.proofs.Common.{◌≡◌, ◌∙◌, ◌+◌, ◌*◌, ◌++◌, ◌∷◌, [], List, ap, sym, subst, length}
use Rattle.std.proofs.lemmas.List.{length-append}
use Rattle.std.proofs.lemmas.Result.{err_from_is_err_and}
use Rattle.venice_isa.specs.declared.instr.Instr.{Instr}
use Rattle.image_loader.specs.Reading.{instr_place}
use Rattle.image_loader.specs.Faults.{Spells}
use Rattle.image_loader.specs.Clear.{AreRead}
use Rattle.image_loader.proofs.Stops.{good_spells, good_target, instr_goes_on, instr_stops, one_more_read}
use Rattle.image_loader.proofs.reading.read_instrs.Goals as goal

pub returns-in_err-instr : goal.returns-in_err-instr
returns-in_err-instr c =
    let k = c.loop-k.k in
    let p = err_from_is_err_and c.from_residual.result c.from_residual.ensures.1 in
    rw (p.1, p.2)
    (instr_stops c.args.bytes.now (c.args.place + 8 * k) k c.args.count c.args.version c.requires.version c.requires.count (ap (λ q. q + 8 * k) c.requires.place) c.loop-k-test.true
    c.in_err-instr.field-0.0 c.loop-k.invariant.read c.in_err-instr.ensures)

pub loop-k-preserved : goal.loop-k-preserved
loop-k-preserved c =
    let bytes = c.args.bytes.now in
    let k = c.loop-k.k in
    let place = c.args.place + 8 * k in
    let instr = c.in_ok-instr.instr in
    let place_is : place ≡ instr_place bytes k = ap (λ q. q + 8 * k) c.requires.place in
    let good = c.in_ok-instr.ensures in
    let more : c.keep.new.items.items ≡ c.loop-k.instrs.items ++ instr ∷ [] = c.in_ok-keep.ensures.kept in
    let spelled : Spells bytes k instr = good_spells bytes place k c.args.count c.args.version c.requires.version c.requires.count place_is c.loop-k-test.true instr good in
    let target = good_target bytes place k c.args.count c.args.version c.requires.version c.requires.count place_is c.loop-k-test.true instr good in
    record {
      count = ap (λ (is : List Instr). length is) more ∙ length-append c.loop-k.instrs.items (instr ∷ []) ∙ ap (λ n. n + 1) c.loop-k.invariant.count;
      are = subst (AreRead bytes) (sym more) (one_more_read bytes c.loop-k.instrs.items instr c.loop-k.invariant.are (subst (λ n. Spells bytes n instr) (sym c.loop-k.invariant.count) spelled) target);
      read = instr_goes_on bytes place k c.args.count c.args.version c.requires.version c.requires.count place_is c.loop-k-test.true instr c.loop-k.invariant.read good;
    }
