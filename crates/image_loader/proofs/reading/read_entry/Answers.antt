use Rattle.std.proofs.Common.{◌≡◌, ◌∙◌, ◌<◌, ◌≤◌, ◌+◌, ap, sym, subst, inl, inr, arith, length}
use Rattle.std.proofs.lemmas.Bool.{cases_lt}
use Rattle.std.specs.Prelude.{slice_index}
use Rattle.image_loader.specs.Table.{RawEntry, LiesIn, BreaksFirst, IsRight, entry_size, offset_of, part_size}
use Rattle.image_loader.specs.Image.{raw_entry, raw_entries}
use Rattle.image_loader.specs.Reading.{entry_at}
use Rattle.image_loader.specs.Faults.{IsAnswer}
use Rattle.image_loader.specs.Clear.{IsReadTo, IsStop}
use Rattle.image_loader.proofs.Stops.{length_stops, name_cut, end_cut, entry_stops, entry_right}
use Rattle.image_loader.proofs.reading.read_entry.Goals as goal

pub returns-then-not-is_name_length : goal.returns-then-not-is_name_length
returns-then-not-is_name_length c =
    let bytes = c.args.bytes.now in
    let n_is : c.from-name_length.result ≡ slice_index bytes c.args.place = c.from-name_length.ensures ∙ c.byte_from.ensures in
    length_stops bytes c.args.place c.args.memory (raw_entries c.args.earlier.now) c.requires.at c.stop.result
    (λ lies. absurd (cc (c.is_name_length.ensures.1 (subst (LiesIn 1 31) (sym n_is) lies), c.if-not-is_name_length.true)))
    c.stop.ensures

pub returns-then-not-is_whole : goal.returns-then-not-is_whole
returns-then-not-is_whole c =
    let bytes = c.args.bytes.now in
    let place = c.args.place in
    let n_is : c.from-name_length.result ≡ slice_index bytes place = c.from-name_length.ensures ∙ c.byte_from.ensures in
    let lies = subst (LiesIn 1 31) n_is (c.is_name_length.ensures.0 c.if-not-is_name_length.false) in
    let short : length bytes < place + 1 + c.from-name_length.result = elim (cases_lt (length bytes) (place + 1 + c.from-name_length.result)) [
      | inl lt ↦ lt
      | inr ge ↦ absurd (cc (c.is_whole.ensures.1 ge, c.if-not-is_whole.true))
    ] in
    subst (IsAnswer bytes) (sym c.truncated.ensures)
    (name_cut bytes place c.args.memory (raw_entries c.args.earlier.now) c.requires.at lies (omega (arith, short, n_is)))

pub returns-in-Err : goal.returns-in-Err
returns-in-Err c =
    let bytes = c.args.bytes.now in
    let place = c.args.place in
    let memory = c.args.memory in
    let earlier = raw_entries c.args.earlier.now in
    let part = c.in-Err.part in
    let fields = c.fields_at-fields.ensures in
    let n_is : c.from-name_length.result ≡ slice_index bytes place = c.from-name_length.ensures ∙ c.byte_from.ensures in
    let breaks : BreaksFirst memory earlier (entry_at bytes place) part = subst (λ (e : RawEntry). BreaksFirst memory earlier e part) fields c.in-Err.ensures.wrong in
    let offset : c.offset.result ≡ offset_of part (slice_index bytes place) = c.offset.ensures ∙ ap (offset_of part) n_is in
    let size : c.size.result ≡ part_size part (slice_index bytes place) = c.size.ensures ∙ ap (part_size part) n_is in
    entry_stops bytes place memory earlier c.requires.at part c.stop-in-Err.result breaks
    (subst (λ s. IsStop bytes (place + offset_of part (slice_index bytes place)) s c.stop-in-Err.result) size
    (subst (λ o. IsStop bytes (place + o) c.size.result c.stop-in-Err.result) offset c.stop-in-Err.ensures))

pub returns-then-is_whole : goal.returns-then-is_whole
returns-then-is_whole c =
    let bytes = c.args.bytes.now in
    let place = c.args.place in
    let memory = c.args.memory in
    let earlier = raw_entries c.args.earlier.now in
    let n_is : c.from-name_length.result ≡ slice_index bytes place = c.from-name_length.ensures ∙ c.byte_from.ensures in
    let fields = c.fields_at-fields.ensures in
    let same : raw_entry c.in-Ok.entry ≡ entry_at bytes place = c.in-Ok.ensures.entry ∙ fields in
    let right : IsRight memory earlier (entry_at bytes place) = subst (IsRight memory earlier) fields c.in-Ok.ensures.right in
    let whole : place + 15 + c.from-name_length.result ≤ length bytes = c.is_whole-in-Ok.ensures.0 c.if-is_whole.true in
    let read : IsReadTo bytes (place + entry_size (entry_at bytes place)) = entry_right bytes place memory earlier c.requires.at right (omega (arith, whole, n_is)) in
    record {
      same = same;
      right = subst (IsRight memory earlier) (sym same) right;
      read = subst (λ (e : RawEntry). IsReadTo bytes (place + entry_size e)) (sym same) read;
    }

pub returns-else-is_whole : goal.returns-else-is_whole
returns-else-is_whole c =
    let bytes = c.args.bytes.now in
    let place = c.args.place in
    let memory = c.args.memory in
    let earlier = raw_entries c.args.earlier.now in
    let n_is : c.from-name_length.result ≡ slice_index bytes place = c.from-name_length.ensures ∙ c.byte_from.ensures in
    let right : IsRight memory earlier (entry_at bytes place) = subst (IsRight memory earlier) c.fields_at-fields.ensures c.in-Ok.ensures.right in
    let short : length bytes < place + 15 + c.from-name_length.result = elim (cases_lt (length bytes) (place + 15 + c.from-name_length.result)) [
      | inl lt ↦ lt
      | inr ge ↦ absurd (cc (c.is_whole-in-Ok.ensures.1 ge, c.if-is_whole.false))
    ] in
    subst (IsAnswer bytes) (sym c.truncated-else-is_whole.ensures)
    (end_cut bytes place memory earlier c.requires.at right (omega (arith, short, n_is)))
