-- Each step of reading: what it leaves read, and the fault at which it stops.
use Rattle.std.proofs.Common.{◌≡◌, ℕ, ◌+◌, ◌<◌, ◌≤◌, List, [], ◌∷◌, ◌-◌, ◌++◌, length, get_or, take, Some, refl, sym, ap, ◌∙◌, subst, inl, inr, arith}
use Rattle.std.specs.Prelude.{slice_index}
use Rattle.std.proofs.lemmas.Bool.{cases_lt}
use Rattle.std.proofs.lemmas.List.{length-append, get_or_push, take-append-le, take_at, take_more, take_all}
use Rattle.std.proofs.lemmas.Option.{slice_get_within, get_or_from_slice_get, slice_get-get_or}
use Rattle.ven_base.specs.declared.entry.Entry.{Entry}
use Rattle.venice_isa.specs.declared.instr.Version.{Version}
use Rattle.venice_isa.specs.declared.instr.Instr.{Instr}
use Rattle.venice_isa.specs.Cell.{part}
use Rattle.venice_isa.specs.Instr.{IsInstr}
use Rattle.venice_isa.specs.Encoding.{encoded}
use Rattle.venice_isa.specs.declared.instr.Instr.TheVariants.{Halt}
use Rattle.venice_isa.specs.Code.{HasTargetBelow, EndsWithHalt}
use Rattle.venice_isa.proofs.Encodings.{one_instr}
use Rattle.image_loader.specs.declared.table.EntryPart.{EntryPart}
use Rattle.image_loader.specs.declared.table.EntryPart.TheVariants.{NameLength, NameBytes, Place}
use Rattle.image_loader.specs.declared.fault.ImageFault.{ImageFault}
use Rattle.image_loader.specs.declared.fault.ImageFault.TheVariants.{Truncated, BadMagic, BadTable, BadInstr, BadTarget, NoHalt, Trailing, Memory}
use Rattle.image_loader.specs.Table.{RawEntry, no_entry, LiesIn, HeaderField, EntryField, HeaderPart, Spad, Memory as MemoryPart, Arrays, Instrs, least_of, most_of, header_number, header_place, offset_of, part_size, part_number, entry_size, entry_place, name_length, BreaksEntry, BreaksFirst, BreaksTable, IsRight}
use Rattle.image_loader.specs.Reading.{number_at, header_in, version_in, entries_in, entry_at, code_place, instr_place, instr_bytes, image_end, eight_at}
use Rattle.image_loader.specs.Faults.{MagicByte, Field, Instruction, FitsMagic, IsWrong, IsFirstFault, IsAnswer, Spells, EndsInHalt}
use Rattle.image_loader.specs.Clear.{IsReadTo, IsHeaderRead, IsBadNumber, IsGoodNumber, IsAtEntry, IsStop, IsInstrRead, IsInstrStop, AreRead, IsCodeRead, AreRight, IsEntryRead, AreEntriesRead, IsTableRead}
use Rattle.image_loader.specs.Image.{raw_entry, raw_entries}
use Rattle.image_loader.proofs.Slots.{get_or_left, item_at, at_item, entries_length, entry_is, next_entry, field_to, entry_end, instr_end, read_on, cut_off, wrong_first, magic_only, header_only, header_to, entry_only, instr_only, no_later_part, earlier_part, same_part, endless_first, longer_first}

-- ---- the magic

wrong_magic : (bytes : List ℕ) (i : ℕ) (fault : ImageFault) → IsWrong bytes (MagicByte i) fault → ¬ FitsMagic i (slice_index bytes i)
wrong_magic bytes i BadMagic w = w
wrong_magic bytes i (BadTable at) w = absurd w
wrong_magic bytes i (Truncated at) w = absurd w
wrong_magic bytes i (BadInstr at) w = absurd w
wrong_magic bytes i (BadTarget at) w = absurd w
wrong_magic bytes i NoHalt w = absurd w
wrong_magic bytes i (Trailing at) w = absurd w
wrong_magic bytes i Memory w = absurd w

pub magic_begins : (bytes : List ℕ) → IsReadTo bytes 0
magic_begins bytes = record { within = omega arith; none = λ d holds. omega arith }

magic_to : (bytes : List ℕ) (i : ℕ) → i < 4 → i + 1 ≤ image_end bytes
magic_to bytes i small = omega (arith, header_to bytes Spad)

pub magic_goes_on : (bytes : List ℕ) (i : ℕ) → i < 4 → IsReadTo bytes i → i < length bytes → FitsMagic i (slice_index bytes i) → IsReadTo bytes (i + 1)
magic_goes_on bytes i small read there fits =
    read_on bytes i (i + 1) read (omega arith) (magic_to bytes i small) (magic_only bytes i small (λ whole fault wrong. wrong_magic bytes i fault wrong fits))

pub magic_ends : (bytes : List ℕ) (i : ℕ) → i < 4 → IsReadTo bytes i → length bytes ≤ i → IsAnswer bytes (Truncated (length bytes))
magic_ends bytes i small read short =
    inr (cut_off bytes i (i + 1) read (omega arith) (magic_to bytes i small) (magic_only bytes i small (λ whole fault wrong. absurd (omega arith))))

pub magic_bad : (bytes : List ℕ) (i : ℕ) → i < 4 → IsReadTo bytes i → i < length bytes → (¬ FitsMagic i (slice_index bytes i)) → IsAnswer bytes BadMagic
magic_bad bytes i small read there bad = inr (wrong_first bytes (MagicByte i) BadMagic read (record { there = small; whole = omega arith; wrong = bad }))

-- ---- the header

number_is : (bytes : List ℕ) (part : HeaderPart) → header_number (header_in bytes) part ≡ number_at bytes (header_place part)
number_is bytes Spad = refl
number_is bytes MemoryPart = refl
number_is bytes Arrays = refl
number_is bytes Instrs = refl

pub good_number : (bytes : List ℕ) (part : HeaderPart) (n : ℕ) → IsReadTo bytes (header_place part) → IsGoodNumber bytes (header_place part) (least_of part) (most_of part) n → IsReadTo bytes (header_place part + 4)
good_number bytes part n read good =
    let lies : LiesIn (least_of part) (most_of part) (header_number (header_in bytes) part) = subst (LiesIn (least_of part) (most_of part)) (good.number_is ∙ sym (number_is bytes part)) good.lies in
    read_on bytes (header_place part) (header_place part + 4) read good.whole (header_to bytes part) (header_only bytes part (λ whole breaks. breaks lies))

pub bad_number : (bytes : List ℕ) (part : HeaderPart) (fault : ImageFault) → IsReadTo bytes (header_place part) → IsBadNumber bytes (header_place part) (least_of part) (most_of part) fault → IsAnswer bytes fault
bad_number bytes part (Truncated at) read bad =
    subst (λ n. IsAnswer bytes (Truncated n)) (sym bad.0)
    (inr (cut_off bytes (header_place part) (header_place part + 4) read bad.1 (header_to bytes part) (header_only bytes part (λ whole breaks. absurd (omega (arith, bad.1))))))
bad_number bytes part (BadTable at) read bad =
    let breaks : ¬ LiesIn (least_of part) (most_of part) (header_number (header_in bytes) part) = λ lies. bad.2 (subst (LiesIn (least_of part) (most_of part)) (number_is bytes part) lies) in
    inr (wrong_first bytes (Field (HeaderField part)) (BadTable at) read (record { there = tt; whole = bad.1; wrong = (breaks, bad.0) }))
bad_number bytes part BadMagic read bad = absurd bad
bad_number bytes part (BadInstr at) read bad = absurd bad
bad_number bytes part (BadTarget at) read bad = absurd bad
bad_number bytes part NoHalt read bad = absurd bad
bad_number bytes part (Trailing at) read bad = absurd bad
bad_number bytes part Memory read bad = absurd bad

pub header_is_read : (bytes : List ℕ) (spad memory arrays instrs : ℕ) → IsReadTo bytes 4
    → IsGoodNumber bytes 4 1 1048576 spad → IsGoodNumber bytes 8 0 134217728 memory → IsGoodNumber bytes 12 0 256 arrays → IsGoodNumber bytes 16 0 8000000 instrs
    → IsHeaderRead bytes (record { spad = spad; memory = memory; array_count = arrays; instr_count = instrs })
header_is_read bytes spad memory arrays instrs read s m a n = record {
  numbers = λ i. record { spad = s.number_is i; memory = m.number_is i; array_count = a.number_is i; instr_count = n.number_is i };
  lies = λ part. lies part;
  read = good_number bytes Instrs instrs (good_number bytes Arrays arrays (good_number bytes MemoryPart memory (good_number bytes Spad spad read s) m) a) n;
}
  where
    lies : (part : HeaderPart) → LiesIn (least_of part) (most_of part) (header_number (record { spad = spad; memory = memory; array_count = arrays; instr_count = instrs }) part)
    lies Spad = s.lies
    lies MemoryPart = m.lies
    lies Arrays = a.lies
    lies Instrs = n.lies

-- ---- an entry

module _ (bytes : List ℕ) (place memory : ℕ) (earlier : List RawEntry) (at : IsAtEntry bytes place memory earlier) where
  abbrev k : ℕ
  k = length earlier

  abbrev entry : RawEntry
  entry = entry_at bytes place

  entry_here : get_or (entries_in bytes) k no_entry ≡ entry
  entry_here = entry_is bytes k at.more ∙ ap (entry_at bytes) (sym at.place_is)

  length_here : name_length (entries_in bytes) k ≡ entry.name_length
  length_here = ap (λ (e : RawEntry). e.name_length) entry_here

  field_here : (part : EntryPart) → entry_place (entries_in bytes) k + offset_of part (name_length (entries_in bytes) k) ≡ place + offset_of part entry.name_length
  field_here part = ap (λ p. p + offset_of part (name_length (entries_in bytes) k)) (sym at.place_is) ∙ ap (λ n. place + offset_of part n) length_here

  size_here : (part : EntryPart) → part_size part (name_length (entries_in bytes) k) ≡ part_size part entry.name_length
  size_here part = ap (part_size part) length_here

  next_here : entry_place (entries_in bytes) (k + 1) ≡ place + entry_size entry
  next_here = omega (arith, next_entry bytes k at.more, length_here, at.place_is)

  -- what the table says of a part is what the entry says
  breaks_here : (part : EntryPart) → BreaksTable (header_in bytes) (entries_in bytes) (EntryField k part) → BreaksEntry memory earlier entry part
  breaks_here part breaks =
      let there = item_at (entries_in bytes) k (λ e. BreaksEntry (header_in bytes).memory (take k (entries_in bytes)) e part) breaks in
      subst (λ m. BreaksEntry m earlier entry part) (sym at.memory_is)
      (subst (λ es. BreaksEntry (header_in bytes).memory es entry part) (sym at.earlier_are)
      (subst (λ e. BreaksEntry (header_in bytes).memory (take k (entries_in bytes)) e part) entry_here there))

  breaks_there : (part : EntryPart) → BreaksEntry memory earlier entry part → BreaksTable (header_in bytes) (entries_in bytes) (EntryField k part)
  breaks_there part breaks =
      at_item (entries_in bytes) k (λ e. BreaksEntry (header_in bytes).memory (take k (entries_in bytes)) e part) (omega (arith, at.more, entries_length bytes))
      (subst (λ e. BreaksEntry (header_in bytes).memory (take k (entries_in bytes)) e part) (sym entry_here)
      (subst (λ es. BreaksEntry (header_in bytes).memory es entry part) at.earlier_are
      (subst (λ m. BreaksEntry m earlier entry part) at.memory_is breaks)))

  read_here : IsReadTo bytes (entry_place (entries_in bytes) k)
  read_here = subst (IsReadTo bytes) at.place_is at.read

  part_to : (part : EntryPart) → place + (offset_of part entry.name_length + part_size part entry.name_length) ≤ entry_place (entries_in bytes) (k + 1)
  part_to part = omega (arith, field_to bytes k part at.more, field_here part, size_here part)

  -- nothing is wrong up to the end of a part that isn't whole, where the parts before it keep their rules
  pub entry_cut : (part : EntryPart) → ((other : EntryPart) → part_number other < part_number part → ¬ BreaksEntry memory earlier entry other)
      → length bytes < place + (offset_of part entry.name_length + part_size part entry.name_length) → IsFirstFault bytes (Truncated (length bytes))
  entry_cut part before short =
      let end = place + (offset_of part entry.name_length + part_size part entry.name_length) in
      cut_off bytes (entry_place (entries_in bytes) k) end read_here short (omega (arith, part_to part, entry_end bytes k at.more))
      (entry_only bytes k end at.more (part_to part)
      (λ other from whole breaks.
      let n = entry.name_length in
      let begins : offset_of other n < offset_of part n + part_size part n = omega (arith, field_here other) in
      elim (cases_lt (part_number other) (part_number part)) [
        | inl lt ↦ before other lt (breaks_here other breaks)
        | inr ge ↦
            let same : other ≡ part = same_part other part (omega (arith, no_later_part part other n begins)) in
            let offsets : offset_of other n ≡ offset_of part n = ap (λ p. offset_of p n) same in
            let sizes : part_size other n ≡ part_size part n = ap (λ p. part_size p n) same in
            absurd (omega (arith, field_here other, size_here other))
      ]))

  -- a part that is whole and the first that breaks its rule
  pub entry_wrong : (part : EntryPart) → BreaksFirst memory earlier entry part → place + (offset_of part entry.name_length + part_size part entry.name_length) ≤ length bytes → IsFirstFault bytes (BadTable (place + offset_of part entry.name_length))
  entry_wrong part breaks whole =
      let n = entry.name_length in
      let begin = entry_place (entries_in bytes) k + offset_of part (name_length (entries_in bytes) k) in
      let here : begin ≡ place + offset_of part n = field_here part in
      let to : begin ≤ entry_place (entries_in bytes) (k + 1) = omega (arith, part_to part) in
      let read : IsReadTo bytes begin =
      read_on bytes (entry_place (entries_in bytes) k) begin read_here (omega arith) (omega (arith, entry_end bytes k at.more))
      (entry_only bytes k begin at.more to
      (λ other from other_whole other_breaks.
      let begins : offset_of other n < offset_of part n = omega (arith, field_here other) in
      breaks.before other (earlier_part part other n begins) (breaks_here other other_breaks))) in
      wrong_first bytes (Field (EntryField k part)) (BadTable (place + offset_of part n)) read
      (record { there = at.more; whole = omega (arith, size_here part); wrong = (breaks_there part breaks.breaks, sym here) })

  -- an entry that keeps its rules
  pub entry_right : IsRight memory earlier entry → place + entry_size entry ≤ length bytes → IsReadTo bytes (place + entry_size entry)
  entry_right right whole =
      subst (IsReadTo bytes) next_here
      (read_on bytes (entry_place (entries_in bytes) k) (entry_place (entries_in bytes) (k + 1)) read_here (omega (arith, next_here)) (entry_end bytes k at.more)
      (entry_only bytes k (entry_place (entries_in bytes) (k + 1)) at.more (omega arith) (λ other from other_whole breaks. right.each other (breaks_here other breaks))))

  -- the two ways to stop at a part
  pub entry_stops : (part : EntryPart) (fault : ImageFault) → BreaksFirst memory earlier entry part → IsStop bytes (place + offset_of part entry.name_length) (part_size part entry.name_length) fault → IsAnswer bytes fault
  entry_stops part fault breaks stop = elim stop [
    | inl whole ↦ subst (IsAnswer bytes) (sym whole.1) (inr (entry_wrong part breaks (omega (arith, whole.0))))
    | inr short ↦ subst (IsAnswer bytes) (sym short.1) (inr (entry_cut part breaks.before (omega (arith, short.0))))
  ]

  -- the length of the name is out of its range
  pub length_stops : (fault : ImageFault) → (¬ LiesIn 1 31 entry.name_length) → IsStop bytes place 1 fault → IsAnswer bytes fault
  length_stops fault bad stop =
      let here : place ≡ place + 0 = omega arith in
      entry_stops NameLength fault (record { breaks = bad; before = λ other less. absurd (omega arith) }) (subst (λ p. IsStop bytes p 1 fault) here stop)

  -- the name isn't whole
  pub name_cut : LiesIn 1 31 entry.name_length → length bytes < place + 1 + entry.name_length → IsAnswer bytes (Truncated (length bytes))
  name_cut lies short =
      inr (entry_cut NameBytes
      (λ other less breaks.
      let first : NameLength ≡ other = same_part NameLength other (omega arith) in
      (subst (λ p. ¬ BreaksEntry memory earlier entry p) first (λ b. b lies)) breaks)
      (omega arith))

  -- all parts keep their rules, and the last isn't whole
  pub end_cut : IsRight memory earlier entry → length bytes < place + 15 + entry.name_length → IsAnswer bytes (Truncated (length bytes))
  end_cut right short = inr (entry_cut Place (λ other less. right.each other) (omega arith))

abbrev read_with : List ℕ → ℕ → ℕ → RawEntry
read_with bytes p n = record { name_length = n; name = part bytes (p + 1) n; kind = slice_index bytes (p + 1 + n); elem = slice_index bytes (p + 2 + n); rows = number_at bytes (p + 3 + n); columns = number_at bytes (p + 7 + n); place = number_at bytes (p + 11 + n) }

pub same_fields : (bytes : List ℕ) (place n behind : ℕ) (raw : RawEntry) → behind ≡ place + 1 + n → n ≡ slice_index bytes place → raw.name_length ≡ n → raw.name ≡ part bytes (place + 1) n
    → raw.kind ≡ slice_index bytes behind → raw.elem ≡ slice_index bytes (behind + 1) → raw.rows ≡ number_at bytes (behind + 2) → raw.columns ≡ number_at bytes (behind + 6) → raw.place ≡ number_at bytes (behind + 10) → raw ≡ entry_at bytes place
same_fields bytes place n behind raw here n_is long name kind elem rows columns last =
    let h1 : behind + 1 ≡ place + 2 + n = omega arith in
    let h2 : behind + 2 ≡ place + 3 + n = omega arith in
    let h6 : behind + 6 ≡ place + 7 + n = omega arith in
    let h10 : behind + 10 ≡ place + 11 + n = omega arith in
    let kind' : raw.kind ≡ slice_index bytes (place + 1 + n) = kind ∙ ap (slice_index bytes) here in
    let elem' : raw.elem ≡ slice_index bytes (place + 2 + n) = elem ∙ ap (slice_index bytes) h1 in
    let rows' : raw.rows ≡ number_at bytes (place + 3 + n) = rows ∙ ap (number_at bytes) h2 in
    let columns' : raw.columns ≡ number_at bytes (place + 7 + n) = columns ∙ ap (number_at bytes) h6 in
    let last' : raw.place ≡ number_at bytes (place + 11 + n) = last ∙ ap (number_at bytes) h10 in
    let made : raw ≡ read_with bytes place n = λ i. record { name_length = long i; name = name i; kind = kind' i; elem = elem' i; rows = rows' i; columns = columns' i; place = last' i } in
    made ∙ ap (read_with bytes place) n_is

-- ---- an instruction

module _ (bytes : List ℕ) (place k count : ℕ) (version : Version) (version_is : version ≡ version_in bytes) (count_is : count ≡ (header_in bytes).instr_count) (place_is : place ≡ instr_place bytes k) (less : k < count) where
  in_code : k < (header_in bytes).instr_count
  in_code = omega (arith, count_is)

  spells : (instr : Instr) → IsInstr version instr → encoded instr ≡ eight_at bytes place → Spells bytes k instr
  spells instr is spelled = (subst (λ v. IsInstr v instr) version_is is, spelled ∙ ap (eight_at bytes) place_is)

  spells_back : (instr : Instr) → Spells bytes k instr → IsInstr version instr × (encoded instr ≡ eight_at bytes place)
  spells_back instr s = (subst (λ v. IsInstr v instr) (sym version_is) s.0, s.1 ∙ ap (eight_at bytes) (sym place_is))

  pub good_spells : (instr : Instr) → IsInstrRead bytes place version count instr → Spells bytes k instr
  good_spells instr good = spells instr good.is_instr good.spelled

  pub good_target : (instr : Instr) → IsInstrRead bytes place version count instr → HasTargetBelow (header_in bytes).instr_count instr
  good_target instr good = subst (λ n. HasTargetBelow n instr) count_is good.target

  no_wrong : (instr : Instr) → IsInstrRead bytes place version count instr → (fault : ImageFault) → ¬ IsWrong bytes (Instruction k) fault
  no_wrong instr good (BadInstr at) w = w.0 instr (good_spells instr good)
  no_wrong instr good (BadTarget at) w =
      let other = w.0.0 in
      let other_spells = spells_back other w.0.1 in
      let same : instr ≡ other = one_instr instr other good.is_instr.ranges other_spells.0.ranges (good.spelled ∙ sym other_spells.1) in
      w.0.2 (subst (HasTargetBelow (header_in bytes).instr_count) same (good_target instr good))
  no_wrong instr good (Truncated at) w = absurd w
  no_wrong instr good BadMagic w = absurd w
  no_wrong instr good (BadTable at) w = absurd w
  no_wrong instr good NoHalt w = absurd w
  no_wrong instr good (Trailing at) w = absurd w
  no_wrong instr good Memory w = absurd w

  next_instr : instr_place bytes k + 8 ≡ instr_place bytes (k + 1)
  next_instr = omega arith

  pub instr_goes_on : (instr : Instr) → IsReadTo bytes (instr_place bytes k) → IsInstrRead bytes place version count instr → IsReadTo bytes (instr_place bytes (k + 1))
  instr_goes_on instr read good =
      subst (IsReadTo bytes) next_instr
      (read_on bytes (instr_place bytes k) (instr_place bytes k + 8) read (omega (arith, good.whole, place_is)) (instr_end bytes k in_code) (instr_only bytes k (λ whole fault. no_wrong instr good fault)))

  pub instr_stops : (fault : ImageFault) → IsReadTo bytes (instr_place bytes k) → IsInstrStop bytes place version count fault → IsAnswer bytes fault
  instr_stops (Truncated at) read bad =
      subst (λ n. IsAnswer bytes (Truncated n)) (sym bad.0)
      (inr (cut_off bytes (instr_place bytes k) (instr_place bytes k + 8) read (omega (arith, bad.1, place_is)) (instr_end bytes k in_code) (instr_only bytes k (λ whole fault wrong. absurd (omega (arith, bad.1, place_is))))))
  instr_stops (BadInstr at) read bad =
      inr (wrong_first bytes (Instruction k) (BadInstr at) read
      (record { there = in_code; whole = omega (arith, bad.1, place_is); wrong = ((λ instr s. let back = spells_back instr s in bad.2 instr back.0 back.1), bad.0 ∙ place_is) }))
  instr_stops (BadTarget at) read bad =
      let found = bad.2 in
      inr (wrong_first bytes (Instruction k) (BadTarget at) read
      (record { there = in_code; whole = omega (arith, bad.1, place_is); wrong = ((found.0, spells found.0 found.1 found.2, (λ below. found.3 (subst (λ n. HasTargetBelow n found.0) (sym count_is) below))), bad.0 ∙ place_is) }))
  instr_stops BadMagic read bad = absurd bad
  instr_stops (BadTable at) read bad = absurd bad
  instr_stops NoHalt read bad = absurd bad
  instr_stops (Trailing at) read bad = absurd bad
  instr_stops Memory read bad = absurd bad

-- ---- the end

pub code_halts : (bytes : List ℕ) (instrs : List Instr) (end : ℕ) → IsCodeRead bytes instrs end → EndsWithHalt instrs → EndsInHalt bytes
code_halts bytes instrs end read halts =
    let within : length instrs - 1 < length instrs = slice_get_within instrs (length instrs - 1) Halt halts in
    let last : get_or instrs (length instrs - 1) Halt ≡ Halt = get_or_from_slice_get instrs (length instrs - 1) Halt Halt halts in
    let place : (header_in bytes).instr_count - 1 ≡ length instrs - 1 = ap (λ n. n - 1) (sym read.count) in
    record {
      some = omega (arith, read.count);
      halt = ap (instr_bytes bytes) place ∙ sym (read.are.spelled (length instrs - 1) within).1 ∙ ap encoded last;
    }

pub halts_code : (bytes : List ℕ) (instrs : List Instr) (end : ℕ) → IsCodeRead bytes instrs end → EndsInHalt bytes → EndsWithHalt instrs
halts_code bytes instrs end read halts =
    let within : length instrs - 1 < length instrs = omega (arith, halts.some, read.count) in
    let last = read.are.spelled (length instrs - 1) within in
    let place : (header_in bytes).instr_count - 1 ≡ length instrs - 1 = ap (λ n. n - 1) (sym read.count) in
    let same : get_or instrs (length instrs - 1) Halt ≡ Halt = one_instr (get_or instrs (length instrs - 1) Halt) Halt last.0.ranges tt (last.1 ∙ sym (ap (instr_bytes bytes) place) ∙ halts.halt) in
    slice_get-get_or instrs (length instrs - 1) Halt within ∙ ap (λ i. Some i) same

pub no_halt : (bytes : List ℕ) (instrs : List Instr) (end : ℕ) → end ≡ image_end bytes → IsCodeRead bytes instrs end → (¬ EndsWithHalt instrs) → IsAnswer bytes NoHalt
no_halt bytes instrs end end_is read bad = inr (endless_first bytes (subst (IsReadTo bytes) end_is read.read) (λ halts. bad (halts_code bytes instrs end read halts)))

pub more_bytes : (bytes : List ℕ) (instrs : List Instr) (end : ℕ) → end ≡ image_end bytes → IsCodeRead bytes instrs end → EndsWithHalt instrs → end < length bytes → IsAnswer bytes (Trailing end)
more_bytes bytes instrs end end_is read halts more =
    subst (λ n. IsAnswer bytes (Trailing n)) (sym end_is)
    (inr (longer_first bytes (subst (IsReadTo bytes) end_is read.read) (code_halts bytes instrs end read halts) (omega (arith, end_is))))

-- ---- loops

-- one instruction more
pub one_more_read : (bytes : List ℕ) (instrs : List Instr) (instr : Instr) → AreRead bytes instrs → Spells bytes (length instrs) instr → HasTargetBelow (header_in bytes).instr_count instr → AreRead bytes (instrs ++ instr ∷ [])
one_more_read bytes instrs instr are spelled target = record {
  spelled = λ k less. elim (cases_lt k (length instrs)) [
    | inl lt ↦ subst (Spells bytes k) (sym (get_or_left instrs (instr ∷ []) k Halt lt)) (are.spelled k lt)
    | inr ge ↦
        let same : length instrs ≡ k = omega (arith, length-append instrs (instr ∷ [])) in
        subst (λ i. Spells bytes k i) (sym (get_or_push instrs instr Halt k same)) (subst (λ n. Spells bytes n instr) same spelled)
  ];
  targets = λ k less. elim (cases_lt k (length instrs)) [
    | inl lt ↦ subst (HasTargetBelow (header_in bytes).instr_count) (sym (get_or_left instrs (instr ∷ []) k Halt lt)) (are.targets k lt)
    | inr ge ↦
        let same : length instrs ≡ k = omega (arith, length-append instrs (instr ∷ [])) in
        subst (HasTargetBelow (header_in bytes).instr_count) (sym (get_or_push instrs instr Halt k same)) target
  ];
}

-- one entry more
pub one_more_right : (memory : ℕ) (entries : List RawEntry) (entry : RawEntry) → AreRight memory entries → IsRight memory entries entry → AreRight memory (entries ++ entry ∷ [])
one_more_right memory entries entry right last k less = elim (cases_lt k (length entries)) [
  | inl lt ↦
      subst (λ es. IsRight memory es (get_or (entries ++ entry ∷ []) k no_entry)) (sym (take-append-le k entries (entry ∷ []) (omega arith)))
      (subst (IsRight memory (take k entries)) (sym (get_or_left entries (entry ∷ []) k no_entry lt)) (right k lt))
  | inr ge ↦
      let same : length entries ≡ k = omega (arith, length-append entries (entry ∷ [])) in
      subst (λ es. IsRight memory es (get_or (entries ++ entry ∷ []) k no_entry)) (sym (take_at entries (entry ∷ []) k same))
      (subst (IsRight memory entries) (sym (get_or_push entries entry no_entry k same)) last)
]

pub raw_push : (arrays : List Entry) (entry : Entry) → raw_entries (arrays ++ entry ∷ []) ≡ raw_entries arrays ++ raw_entry entry ∷ []
raw_push [] last = refl
raw_push (first ∷ arrays) last = ap (λ (es : List RawEntry). raw_entry first ∷ es) (raw_push arrays last)

-- behind the entry that was read stands the next one
pub next_place : (bytes : List ℕ) (place memory : ℕ) (earlier : List RawEntry) (at : IsAtEntry bytes place memory earlier) → place + entry_size (entry_at bytes place) ≡ entry_place (entries_in bytes) (length earlier + 1)
next_place bytes place memory earlier at = sym (next_here bytes place memory earlier at)

pub entries_more : (bytes : List ℕ) (place memory : ℕ) (earlier : List RawEntry) (entry : RawEntry) (at : IsAtEntry bytes place memory earlier) → entry ≡ entry_at bytes place
    → earlier ++ entry ∷ [] ≡ take (length (earlier ++ entry ∷ [])) (entries_in bytes)
entries_more bytes place memory earlier entry at same =
    let k = length earlier in
    let long : length (earlier ++ entry ∷ []) ≡ k + 1 = length-append earlier (entry ∷ []) in
    let within : k < length (entries_in bytes) = omega (arith, at.more, entries_length bytes) in
    let here : get_or (entries_in bytes) k no_entry ≡ entry = entry_here bytes place memory earlier at ∙ sym same in
    ap (λ (es : List RawEntry). es ++ entry ∷ []) at.earlier_are
    ∙ ap (λ (e : RawEntry). take k (entries_in bytes) ++ e ∷ []) (sym here)
    ∙ sym (take_more (entries_in bytes) k no_entry within)
    ∙ ap (λ n. take n (entries_in bytes)) (sym long)

-- ---- the table's loop

pub table_begins : (bytes : List ℕ) (arrays : List Entry) → arrays ≡ [] → IsReadTo bytes 20 → AreEntriesRead bytes arrays 20 0
table_begins bytes arrays none read =
    let raw : raw_entries arrays ≡ [] = ap raw_entries none in
    let long : length (raw_entries arrays) ≡ 0 = ap (λ (es : List RawEntry). length es) raw in
    record {
      count = long;
      small = omega arith;
      place_is = sym (ap (entry_place (entries_in bytes)) long);
      are = raw ∙ sym (ap (λ n. take n (entries_in bytes)) long);
      right = λ k less. absurd (omega (arith, long));
      read = read;
    }

pub at_entry : (bytes : List ℕ) (place memory : ℕ) (earlier : List RawEntry) → IsReadTo bytes place → place ≡ entry_place (entries_in bytes) (length earlier) → memory ≡ (header_in bytes).memory
    → earlier ≡ take (length earlier) (entries_in bytes) → length earlier < (header_in bytes).array_count → IsAtEntry bytes place memory earlier
at_entry bytes place memory earlier read place_is memory_is are more = record { read = read; place_is = place_is; memory_is = memory_is; earlier_are = are; more = more }

pub table_goes_on : (bytes : List ℕ) (arrays more : List Entry) (entry : Entry) (place memory k : ℕ) → AreEntriesRead bytes arrays place k → IsAtEntry bytes place memory (raw_entries arrays)
    → IsEntryRead bytes place memory (raw_entries arrays) (raw_entry entry) → entry_size (raw_entry entry) ≤ 46 → more ≡ arrays ++ entry ∷ [] → AreEntriesRead bytes more (place + entry_size (raw_entry entry)) (k + 1)
table_goes_on bytes arrays more entry place memory k so_far at read few more_is =
    let earlier = raw_entries arrays in
    let raw : raw_entries more ≡ earlier ++ raw_entry entry ∷ [] = ap raw_entries more_is ∙ raw_push arrays entry in
    let long : length (raw_entries more) ≡ length earlier + 1 = ap (λ (es : List RawEntry). length es) raw ∙ length-append earlier (raw_entry entry ∷ []) in
    let next : place + entry_size (raw_entry entry) ≡ entry_place (entries_in bytes) (length earlier + 1) = ap (λ (e : RawEntry). place + entry_size e) read.same ∙ next_place bytes place memory earlier at in
    let right : AreRight memory (earlier ++ raw_entry entry ∷ []) = one_more_right memory earlier (raw_entry entry) (subst (λ m. AreRight m earlier) (sym at.memory_is) so_far.right) read.right in
    record {
      count = omega (arith, long, so_far.count);
      small = omega (arith, so_far.small);
      place_is = next ∙ ap (entry_place (entries_in bytes)) (sym long);
      are = raw ∙ entries_more bytes place memory earlier (raw_entry entry) at read.same ∙ ap (λ (es : List RawEntry). take (length es) (entries_in bytes)) (sym raw);
      right = subst (AreRight (header_in bytes).memory) (sym raw) (subst (λ m. AreRight m (earlier ++ raw_entry entry ∷ [])) at.memory_is right);
      read = read.read;
    }

pub table_ends : (bytes : List ℕ) (arrays : List Entry) (place k : ℕ) → AreEntriesRead bytes arrays place k → k ≡ (header_in bytes).array_count → IsTableRead bytes arrays place
table_ends bytes arrays place k so_far done =
    let long : length (raw_entries arrays) ≡ (header_in bytes).array_count = so_far.count ∙ done in
    let end : place ≡ code_place bytes = so_far.place_is ∙ ap (entry_place (entries_in bytes)) long in
    record {
      entries_are = so_far.are ∙ take_all (length (raw_entries arrays)) (entries_in bytes) (omega (arith, long, entries_length bytes));
      right = so_far.right;
      end_is = end;
      read = subst (IsReadTo bytes) end so_far.read;
    }
