-- Whole images: one that is read is spelled so, and one that is spelled so has no defect and is read again.
use Rattle.std.proofs.Common.{◌≡◌, ℕ, zero, suc, ◌+◌, ◌*◌, ◌-◌, ◌<◌, ◌≤◌, Bool, true, false, eqb, List, [], ◌∷◌, ◌++◌, length, get_or, take, drop, Option, refl, sym, ap, ◌∙◌, subst, inl, inr, arith, append_assoc}
use Rattle.std.specs.Prelude.{slice_get, slice_index, Ok, Err}
use Rattle.std.specs.List.{flat_map}
use Rattle.std.specs.Option.{IsSomeAnd}
use Rattle.std.proofs.lemmas.Bool.{cases_lt}
use Rattle.std.proofs.lemmas.List.{length-append, append-nil, length-drop, nil_from_length, length-map}
use Rattle.std.proofs.lemmas.List.Elements.{All-get_or, All-from_get_or}
use Rattle.std.proofs.lemmas.Option.{slice_get-get_or, get_or_from_slice_get, slice_get_within}
use Rattle.std.proofs.Math.Nat.{mul-le-mul_left}
use Rattle.ven_base.specs.declared.entry.Entry.{Entry}
use Rattle.ven_base.specs.Extent.{element_limit}
use Rattle.venice_isa.specs.declared.instr.Version.{Version}
use Rattle.venice_isa.specs.declared.instr.Version.TheVariants.{One, Two}
use Rattle.venice_isa.specs.declared.instr.Instr.{Instr}
use Rattle.venice_isa.specs.declared.instr.Instr.TheVariants.{Halt}
use Rattle.venice_isa.specs.Instr.{IsInstr}
use Rattle.venice_isa.specs.Encoding.{encoded, bit, type_number}
use Rattle.venice_isa.specs.Code.{Listing, IsCode, HasTargetBelow, EndsWithHalt}
use Rattle.venice_isa.proofs.Encodings.{one_instr}
use Rattle.ven_base.specs.declared.elem.Elem.{Elem}
use Rattle.ven_base.specs.declared.elem.Elem.TheVariants.{U8, I8, U16, I16, U32, I32}
use Rattle.image_loader.specs.declared.table.EntryPart.{EntryPart}
use Rattle.image_loader.specs.declared.table.EntryPart.TheVariants.{Rows, Columns, Place}
use Rattle.image_loader.specs.declared.fault.ImageFault.{ImageFault}
use Rattle.image_loader.specs.declared.fault.ImageFault.TheVariants.{Truncated, BadMagic, BadTable, BadInstr, BadTarget, NoHalt, Trailing, Memory}
use Rattle.image_loader.specs.Table.{Header, RawEntry, no_entry, LiesIn, HeaderField, EntryField, HeaderPart, Spad, Memory as MemoryPart, Arrays, Instrs, least_of, most_of, header_number, array_bytes, BreaksEntry, BreaksTable, entry_place, table_place}
use Rattle.image_loader.specs.Image.{ImageContents, IsImage, IsTable, raw_entry, raw_entries, header_of, word, magic, header_bytes, table_bytes, code_bytes, spelling}
use Rattle.image_loader.specs.Reading.{number_at, version_in, header_in, entries_at, entries_in, code_place, instr_bytes, image_end}
use Rattle.image_loader.specs.Faults.{Slot, MagicByte, Field, Instruction, FitsMagic, IsWrongSlot, Defect, CutOff, Wrong, Endless, Longer, IsDefect, EndsInHalt, IsAnswer, Spells}
use Rattle.image_loader.specs.Loading.{IsLoading}
use Rattle.image_loader.specs.Clear.{IsReadTo, IsMagicRead, IsHeaderRead, IsTableRead, IsCodeRead, AreRight}
use Rattle.image_loader.proofs.Slots.{item_at, entries_length}
use Rattle.image_loader.proofs.OneFault.{one_fault}
use Rattle.image_loader.proofs.Spelled.{AreBytes, four_bytes, number_spelled, table_spelled, code_spelled, number_again, entries_again, instr_again, table_length, code_length, Fits, AllFit}

-- ---- what is read is an image

some_within : (entries : List RawEntry) (k : ℕ) (P : RawEntry → Type 0) → IsSomeAnd (slice_get entries k) P → k < length entries
some_within [] k P holds = absurd holds
some_within (entry ∷ entries) zero P holds = omega arith
some_within (entry ∷ entries) (suc k) P holds = omega (arith, some_within entries k P holds)

pub is_table : (header : Header) (entries : List RawEntry) → ((part : HeaderPart) → LiesIn (least_of part) (most_of part) (header_number header part)) → AreRight header.memory entries → IsTable header entries
is_table header entries lies right (HeaderField part) breaks = breaks (lies part)
is_table header entries lies right (EntryField k part) breaks =
    (right k (some_within entries k (λ entry. BreaksEntry header.memory (take k entries) entry part) breaks)).each part
    (item_at entries k (λ entry. BreaksEntry header.memory (take k entries) entry part) breaks)

pub is_code : (bytes : List ℕ) (version : Version) (instrs : List Instr) (end : ℕ) → version ≡ version_in bytes → IsCodeRead bytes instrs end → EndsWithHalt instrs → (header_in bytes).instr_count ≤ 8000000 → IsCode (record { version = version; instrs = instrs })
is_code bytes version instrs end version_is read halts few = record {
  each = All-from_get_or (IsInstr version) instrs Halt (λ k less. subst (λ v. IsInstr v (get_or instrs k Halt)) (sym version_is) (read.are.spelled k less).0);
  targets = All-from_get_or (HasTargetBelow (length instrs)) instrs Halt (λ k less. subst (λ n. HasTargetBelow n (get_or instrs k Halt)) (sym read.count) (read.are.targets k less));
  ends = halts;
  few = omega (arith, read.count);
}

-- ---- and spelled so

header_spelled : (bytes : List ℕ) → AreBytes bytes → 20 ≤ length bytes → drop 4 bytes ≡ header_bytes (header_in bytes) ++ drop 20 bytes
header_spelled bytes small whole =
    let s = number_spelled bytes 4 small (omega arith) in
    let m = number_spelled bytes 8 small (omega arith) in
    let a = number_spelled bytes 12 small (omega arith) in
    let i = number_spelled bytes 16 small (omega arith) in
    s ∙ ap (λ (t : List ℕ). word (number_at bytes 4) ++ t) (m ∙ ap (λ (t : List ℕ). word (number_at bytes 8) ++ t) (a ∙ ap (λ (t : List ℕ). word (number_at bytes 12) ++ t) i))
    ∙ regroup (word (number_at bytes 4)) (word (number_at bytes 8)) (word (number_at bytes 12)) (word (number_at bytes 16)) (drop 20 bytes)
  where
    regroup : (s m a i rest : List ℕ) → s ++ (m ++ (a ++ (i ++ rest))) ≡ (s ++ (m ++ (a ++ i))) ++ rest
    regroup s m a i rest = simp append_assoc

pub image_spelled : (bytes : List ℕ) (version : Version) (header : Header) (arrays : List Entry) (instrs : List Instr) → AreBytes bytes
    → IsMagicRead bytes version → IsHeaderRead bytes header → raw_entries arrays ≡ entries_in bytes → IsCodeRead bytes instrs (image_end bytes) → length bytes ≡ image_end bytes
    → bytes ≡ spelling (record { spad = header.spad; memory = header.memory; arrays = arrays; code = record { version = version; instrs = instrs } })
unfolding spelling
image_spelled bytes version header arrays instrs small magic_read header_read arrays_are code_read end =
    let image : ImageContents = record { spad = header.spad; memory = header.memory; arrays = arrays; code = record { version = version; instrs = instrs } } in
    let entries = entries_in bytes in
    let within = header_read.read.within in
    let first : bytes ≡ magic version ++ drop 4 bytes = four_bytes bytes 0 (omega arith) ∙ ap (λ (t : List ℕ). t ++ drop 4 bytes) (sym magic_read.spelled) in
    let arrays_count : length arrays ≡ (header_in bytes).array_count = sym (length-map arrays raw_entry) ∙ ap (λ (t : List RawEntry). length t) arrays_are ∙ entries_length bytes in
    let numbers : header_of image ≡ header_in bytes = λ i. record { spad = (ap (λ (h : Header). h.spad) header_read.numbers) i; memory = (ap (λ (h : Header). h.memory) header_read.numbers) i; array_count = arrays_count i; instr_count = code_read.count i } in
    let second : drop 4 bytes ≡ header_bytes (header_of image) ++ drop 20 bytes = header_spelled bytes small within ∙ ap (λ h. header_bytes h ++ drop 20 bytes) (sym numbers) in
    let third : drop 20 bytes ≡ table_bytes (raw_entries arrays) ++ drop (code_place bytes) bytes =
    table_spelled bytes (header_in bytes).array_count table_place small (omega (arith, end)) ∙ ap (λ es. table_bytes es ++ drop (code_place bytes) bytes) (sym arrays_are) in
    let last : code_place bytes + 8 * length instrs ≡ length bytes = omega (arith, code_read.count, end) in
    let fourth : drop (code_place bytes) bytes ≡ flat_map encoded instrs ++ drop (code_place bytes + 8 * length instrs) bytes =
    code_spelled bytes instrs (code_place bytes) (omega (arith, last)) (λ k less. (code_read.are.spelled k less).1) in
    let nothing : drop (code_place bytes + 8 * length instrs) bytes ≡ [] = nil_from_length (drop (code_place bytes + 8 * length instrs) bytes) (omega (arith, last, length-drop (code_place bytes + 8 * length instrs) bytes)) in
    let fifth : drop (code_place bytes) bytes ≡ flat_map encoded instrs = fourth ∙ ap (λ (t : List ℕ). flat_map encoded instrs ++ t) nothing ∙ append-nil (flat_map encoded instrs) in
    first ∙ ap (λ (t : List ℕ). magic version ++ t) (second ∙ ap (λ (t : List ℕ). header_bytes (header_of image) ++ t) (third ∙ ap (λ (t : List ℕ). table_bytes (raw_entries arrays) ++ t) fifth))

-- the image that was read
abbrev pub read_contents : Version → Header → List Entry → List Instr → ImageContents
read_contents version header arrays instrs = record { spad = header.spad; memory = header.memory; arrays = arrays; code = record { version = version; instrs = instrs } }

pub read_code_is : (bytes : List ℕ) (version : Version) (header : Header) (instrs : List Instr) (end : ℕ) → IsMagicRead bytes version → IsHeaderRead bytes header → IsCodeRead bytes instrs end → EndsWithHalt instrs → IsCode (record { version = version; instrs = instrs })
read_code_is bytes version header instrs end m h c halts =
    is_code bytes version instrs end m.version_is c halts (omega (arith, (h.lies Instrs).to, ap (λ (n : Header). n.instr_count) h.numbers))

pub read_is_image : (bytes : List ℕ) (version : Version) (header : Header) (arrays : List Entry) (instrs : List Instr) (table_end end : ℕ) → IsMagicRead bytes version → IsHeaderRead bytes header → IsTableRead bytes arrays table_end → IsCodeRead bytes instrs end → EndsWithHalt instrs → IsImage (read_contents version header arrays instrs)
read_is_image bytes version header arrays instrs table_end end m h t c halts =
    let image = read_contents version header arrays instrs in
    let arrays_count : length arrays ≡ header.array_count = sym (length-map arrays raw_entry) ∙ ap (λ (es : List RawEntry). length es) t.entries_are ∙ entries_length bytes ∙ ap (λ (n : Header). n.array_count) (sym h.numbers) in
    let instrs_count : length instrs ≡ header.instr_count = c.count ∙ ap (λ (n : Header). n.instr_count) (sym h.numbers) in
    let same : header ≡ header_of image = λ i. record { spad = header.spad; memory = header.memory; array_count = (sym arrays_count) i; instr_count = (sym instrs_count) i } in
    let memory : (header_in bytes).memory ≡ header.memory = ap (λ (n : Header). n.memory) (sym h.numbers) in
    record {
      table = is_table (header_of image) (raw_entries arrays) (λ part. subst (λ n. LiesIn (least_of part) (most_of part) (header_number n part)) same (h.lies part)) (subst (λ n. AreRight n (raw_entries arrays)) memory t.right);
      code = read_code_is bytes version header instrs end m h c halts;
    }

pub read_spelled : (bytes : List ℕ) (version : Version) (header : Header) (arrays : List Entry) (instrs : List Instr) (table_end end : ℕ) → AreBytes bytes → IsMagicRead bytes version → IsHeaderRead bytes header → IsTableRead bytes arrays table_end → IsCodeRead bytes instrs end → end ≡ image_end bytes → length bytes ≡ end → bytes ≡ spelling (read_contents version header arrays instrs)
read_spelled bytes version header arrays instrs table_end end small m h t c end_is long =
    image_spelled bytes version header arrays instrs small m h t.entries_are (record { count = c.count; are = c.are; read = subst (IsReadTo bytes) end_is c.read }) (long ∙ end_is)

-- ---- what is written

pub written : (image : ImageContents) (s0 s1 s2 s3 : List ℕ) (version : Version) (header : Header) (arrays : List Entry) (code : Listing) → s0 ≡ [] → version ≡ image.code.version → header ≡ header_of image → arrays ≡ image.arrays → code ≡ image.code
    → s1 ≡ s0 ++ (magic version ++ header_bytes header) → s2 ≡ s1 ++ table_bytes (raw_entries arrays) → s3 ≡ s2 ++ code_bytes code → s3 ≡ spelling image
unfolding spelling
written image s0 s1 s2 s3 version header arrays code none version_is header_is arrays_is code_is e1 e2 e3 =
    let t = table_bytes (raw_entries arrays) in
    let c = code_bytes code in
    let all : s3 ≡ magic version ++ (header_bytes header ++ (t ++ c)) =
    e3 ∙ ap (λ (s : List ℕ). s ++ c) (e2 ∙ ap (λ (s : List ℕ). s ++ t) (e1 ∙ ap (λ (s : List ℕ). s ++ (magic version ++ header_bytes header)) none))
    ∙ regroup (magic version) (header_bytes header) t c in
    all ∙ (λ i. magic (version_is i) ++ (header_bytes (header_is i) ++ (table_bytes (raw_entries (arrays_is i)) ++ code_bytes (code_is i))))
  where
    regroup : (v h t c : List ℕ) → (([] ++ (v ++ h)) ++ t) ++ c ≡ v ++ (h ++ (t ++ c))
    regroup v h t c = simp append_assoc

-- ---- what is spelled is read again

pub lies_in : (least most n : ℕ) → (¬ ¬ LiesIn least most n) → LiesIn least most n
lies_in least most n there = record {
  from = elim (cases_lt n least) [ inl lt ↦ absurd (there (λ lies. absurd (omega (arith, lies.from)))) | inr ge ↦ ge ];
  to = elim (cases_lt most n) [ inl lt ↦ absurd (there (λ lies. absurd (omega (arith, lies.to)))) | inr ge ↦ ge ];
}

pub image_lies : (image : ImageContents) → IsImage image → (part : HeaderPart) → LiesIn (least_of part) (most_of part) (header_number (header_of image) part)
image_lies image is part = lies_in (least_of part) (most_of part) (header_number (header_of image) part) (is.table (HeaderField part))

raw_lengths : (entries : List Entry) (k : ℕ) → (get_or (raw_entries entries) k no_entry).name_length ≡ length (get_or (raw_entries entries) k no_entry).name
raw_lengths [] k = refl
raw_lengths (entry ∷ entries) zero = refl
raw_lengths (entry ∷ entries) (suc k) = raw_lengths entries k

all_fit : (entries : List RawEntry) → ((k : ℕ) → k < length entries → Fits (get_or entries k no_entry)) → AllFit entries
all_fit [] each = tt
all_fit (entry ∷ entries) each = (each zero (omega arith), all_fit entries (λ k less. each (suc k) (omega arith)))

-- a product is no less than either of two numbers that aren't 0
factor_small : (x y most : ℕ) → (¬ (x ≡ 0)) → (¬ (most < y * x)) → y ≤ most
factor_small x y most some within =
    let one : 1 ≤ x = elim (cases_lt 0 x) [ inl lt ↦ lt | inr le ↦ absurd (some (omega arith)) ] in
    let grows : y * 1 ≤ y * x = mul-le-mul_left y one in
    elim (cases_lt most (y * x)) [ inl lt ↦ absurd (within lt) | inr ge ↦ omega (arith, grows) ]

entry_fits : (image : ImageContents) → IsImage image → (k : ℕ) → k < length (raw_entries image.arrays) → Fits (get_or (raw_entries image.arrays) k no_entry)
entry_fits image is k less =
    let entries = raw_entries image.arrays in
    let entry = get_or entries k no_entry in
    let memory_lies = image_lies image is MemoryPart in
    let fine : (part : EntryPart) → ¬ BreaksEntry image.memory (take k entries) entry part = λ part breaks. is.table (EntryField k part)
    (subst (λ (o : Option RawEntry). IsSomeAnd o (λ e. BreaksEntry image.memory (take k entries) e part)) (sym (slice_get-get_or entries k no_entry less)) breaks) in
    let turned : entry.columns * entry.rows ≡ entry.rows * entry.columns = omega arith in
    let rows_small : entry.rows ≤ element_limit = factor_small entry.columns entry.rows element_limit (λ e. fine Columns (inl e)) (λ above. fine Columns (inr above)) in
    let columns_small : entry.columns ≤ element_limit = factor_small entry.rows entry.columns element_limit (λ e. fine Rows e) (λ above. fine Columns (inr (omega (arith, turned)))) in
    let place_small : entry.place ≤ image.memory = elim (cases_lt image.memory (entry.place + array_bytes entry)) [ inl lt ↦ absurd (fine Place (inl lt)) | inr ge ↦ omega arith ] in
    record {
      name_length = raw_lengths image.arrays k;
      rows = omega (arith, rows_small);
      columns = omega (arith, columns_small);
      place = omega (arith, place_small, memory_lies.to);
    }

pub record IsReadAs (bytes : List ℕ) (image : ImageContents) : Type 0 where
  pub version : version_in bytes ≡ image.code.version
  pub magic_is : (i : ℕ) → i < 4 → FitsMagic i (slice_index bytes i)
  pub header : header_in bytes ≡ header_of image
  pub entries : entries_in bytes ≡ raw_entries image.arrays
  pub instrs : (k : ℕ) → k < length image.code.instrs → instr_bytes bytes k ≡ encoded (get_or image.code.instrs k Halt)
  pub end : image_end bytes ≡ length bytes

version_again : (version : Version) (rest : List ℕ) → version_in (magic version ++ rest) ≡ version
version_again One rest = refl
version_again Two rest = refl

magic_again : (version : Version) (rest : List ℕ) (i : ℕ) → i < 4 → FitsMagic i (slice_index (magic version ++ rest) i)
magic_again One rest zero less = inl refl
magic_again One rest (suc zero) less = inl refl
magic_again One rest (suc (suc zero)) less = inl refl
magic_again One rest (suc (suc (suc zero))) less = inl refl
magic_again One rest (suc (suc (suc (suc i)))) less = absurd (omega arith)
magic_again Two rest zero less = inr refl
magic_again Two rest (suc zero) less = inr refl
magic_again Two rest (suc (suc zero)) less = inr refl
magic_again Two rest (suc (suc (suc zero))) less = inr refl
magic_again Two rest (suc (suc (suc (suc i)))) less = absurd (omega arith)

pub read_as : (image : ImageContents) (bytes : List ℕ) → IsImage image → bytes ≡ spelling image → IsReadAs bytes image
unfolding spelling
read_as image bytes is spelled =
    let version = image.code.version in
    let header = header_of image in
    let arrays = raw_entries image.arrays in
    let instrs = image.code.instrs in
    let table = table_bytes arrays in
    let code = flat_map encoded instrs in
    let s = word header.spad in
    let m = word header.memory in
    let a = word header.array_count in
    let n = word header.instr_count in
    let rest = header_bytes header ++ (table ++ code) in
    let spad_lies = image_lies image is Spad in
    let memory_lies = image_lies image is MemoryPart in
    let arrays_lies = image_lies image is Arrays in
    let instrs_lies = image_lies image is Instrs in
    let spad_is : number_at bytes 4 ≡ header.spad = number_again bytes (magic version) (m ++ (a ++ (n ++ (table ++ code)))) 4 header.spad (spelled ∙ group1 (magic version) s m a n (table ++ code)) refl (omega (arith, spad_lies.to)) in
    let memory_is : number_at bytes 8 ≡ header.memory = number_again bytes (magic version ++ s) (a ++ (n ++ (table ++ code))) 8 header.memory (spelled ∙ group2 (magic version) s m a n (table ++ code)) refl (omega (arith, memory_lies.to)) in
    let arrays_is : number_at bytes 12 ≡ header.array_count = number_again bytes ((magic version ++ s) ++ m) (n ++ (table ++ code)) 12 header.array_count (spelled ∙ group3 (magic version) s m a n (table ++ code)) refl (omega (arith, arrays_lies.to)) in
    let instrs_is : number_at bytes 16 ≡ header.instr_count = number_again bytes (((magic version ++ s) ++ m) ++ a) (table ++ code) 16 header.instr_count (spelled ∙ group4 (magic version) s m a n (table ++ code)) refl (omega (arith, instrs_lies.to)) in
    let header_is : header_in bytes ≡ header = λ i. record { spad = spad_is i; memory = memory_is i; array_count = arrays_is i; instr_count = instrs_is i } in
    let pre = (((magic version ++ s) ++ m) ++ a) ++ n in
    let fits : AllFit arrays = all_fit arrays (entry_fits image is) in
    let count : length arrays ≡ header.array_count = length-map image.arrays raw_entry in
    let entries_is : entries_at bytes (length arrays) 20 ≡ arrays = entries_again bytes pre code 20 arrays fits (spelled ∙ group5 (magic version) s m a n table code) refl in
    let entries_are : entries_in bytes ≡ arrays = ap (λ c. entries_at bytes c 20) (ap (λ (h : Header). h.array_count) header_is ∙ sym count) ∙ entries_is in
    let place_is : code_place bytes ≡ 20 + length table =
    (λ i. entry_place (entries_are i) ((ap (λ (h : Header). h.array_count) header_is ∙ sym count) i)) ∙ table_length 20 arrays fits in
    let code_parts : bytes ≡ (pre ++ table) ++ code = spelled ∙ group6 (magic version) s m a n table code in
    let code_at : code_place bytes ≡ length (pre ++ table) = omega (arith, place_is, length-append pre table) in
    let count_is = ap (λ (h : Header). h.instr_count) header_is in
    record {
      version = ap version_in spelled ∙ version_again version rest;
      magic_is = λ i less. subst (λ b. FitsMagic i b) (sym (ap (λ bs. slice_index bs i) spelled)) (magic_again version rest i less);
      header = header_is;
      entries = entries_are;
      instrs = λ k less. instr_again bytes (pre ++ table) (code_place bytes) instrs k less code_parts code_at;
      end = omega (arith, place_is, count_is, code_length instrs, ap (λ (t : List ℕ). length t) code_parts, length-append (pre ++ table) code, length-append pre table);
    }
  where
    group1 : (v s m a n rest : List ℕ) → v ++ ((s ++ (m ++ (a ++ n))) ++ rest) ≡ v ++ (s ++ (m ++ (a ++ (n ++ rest))))
    group1 v s m a n rest = simp append_assoc

    group2 : (v s m a n rest : List ℕ) → v ++ ((s ++ (m ++ (a ++ n))) ++ rest) ≡ (v ++ s) ++ (m ++ (a ++ (n ++ rest)))
    group2 v s m a n rest = simp append_assoc

    group3 : (v s m a n rest : List ℕ) → v ++ ((s ++ (m ++ (a ++ n))) ++ rest) ≡ ((v ++ s) ++ m) ++ (a ++ (n ++ rest))
    group3 v s m a n rest = simp append_assoc

    group4 : (v s m a n rest : List ℕ) → v ++ ((s ++ (m ++ (a ++ n))) ++ rest) ≡ (((v ++ s) ++ m) ++ a) ++ (n ++ rest)
    group4 v s m a n rest = simp append_assoc

    group5 : (v s m a n table code : List ℕ) → v ++ ((s ++ (m ++ (a ++ n))) ++ (table ++ code)) ≡ ((((v ++ s) ++ m) ++ a) ++ n) ++ (table ++ code)
    group5 v s m a n table code = simp append_assoc

    group6 : (v s m a n table code : List ℕ) → v ++ ((s ++ (m ++ (a ++ n))) ++ (table ++ code)) ≡ (((((v ++ s) ++ m) ++ a) ++ n) ++ table) ++ code
    group6 v s m a n table code = simp append_assoc

-- ---- and has no defect

halt_there : (image : ImageContents) (bytes : List ℕ) → IsImage image → IsReadAs bytes image → EndsInHalt bytes
halt_there image bytes is read =
    let instrs = image.code.instrs in
    let count : (header_in bytes).instr_count ≡ length instrs = ap (λ (h : Header). h.instr_count) read.header in
    let some : 0 < length instrs = omega (arith, slice_get_within instrs (length instrs - 1) Halt is.code.ends) in
    let last : get_or instrs (length instrs - 1) Halt ≡ Halt = get_or_from_slice_get instrs (length instrs - 1) Halt Halt is.code.ends in
    let place : (header_in bytes).instr_count - 1 ≡ length instrs - 1 = ap (λ c. c - 1) count in
    record {
      some = omega (arith, count);
      halt = ap (instr_bytes bytes) place ∙ read.instrs (length instrs - 1) (omega arith) ∙ ap encoded last;
    }

spells_at : (image : ImageContents) (bytes : List ℕ) → IsImage image → IsReadAs bytes image → (k : ℕ) → k < (header_in bytes).instr_count → Spells bytes k (get_or image.code.instrs k Halt)
spells_at image bytes is read k there =
    let instrs = image.code.instrs in
    let count : (header_in bytes).instr_count ≡ length instrs = ap (λ (h : Header). h.instr_count) read.header in
    let less : k < length instrs = omega (arith, there, count) in
    (subst (λ v. IsInstr v (get_or instrs k Halt)) (sym read.version) (All-get_or (IsInstr image.code.version) instrs k Halt less is.code.each), sym (read.instrs k less))

no_wrong_slot : (image : ImageContents) (bytes : List ℕ) → IsImage image → IsReadAs bytes image → (slot : Slot) (fault : ImageFault) → IsWrongSlot bytes slot fault → ⊥
no_wrong_slot image bytes is read (MagicByte i) BadMagic w = w.wrong (read.magic_is i w.there)
no_wrong_slot image bytes is read (MagicByte i) (Truncated at) w = w.wrong
no_wrong_slot image bytes is read (MagicByte i) (BadTable at) w = w.wrong
no_wrong_slot image bytes is read (MagicByte i) (BadInstr at) w = w.wrong
no_wrong_slot image bytes is read (MagicByte i) (BadTarget at) w = w.wrong
no_wrong_slot image bytes is read (MagicByte i) NoHalt w = w.wrong
no_wrong_slot image bytes is read (MagicByte i) (Trailing at) w = w.wrong
no_wrong_slot image bytes is read (MagicByte i) Memory w = w.wrong
no_wrong_slot image bytes is read (Field field) (BadTable at) w =
    is.table field (subst (λ es. BreaksTable (header_of image) es field) read.entries (subst (λ h. BreaksTable h (entries_in bytes) field) read.header w.wrong.0))
no_wrong_slot image bytes is read (Field field) (Truncated at) w = w.wrong
no_wrong_slot image bytes is read (Field field) BadMagic w = w.wrong
no_wrong_slot image bytes is read (Field field) (BadInstr at) w = w.wrong
no_wrong_slot image bytes is read (Field field) (BadTarget at) w = w.wrong
no_wrong_slot image bytes is read (Field field) NoHalt w = w.wrong
no_wrong_slot image bytes is read (Field field) (Trailing at) w = w.wrong
no_wrong_slot image bytes is read (Field field) Memory w = w.wrong
no_wrong_slot image bytes is read (Instruction k) (BadInstr at) w = w.wrong.0 (get_or image.code.instrs k Halt) (spells_at image bytes is read k w.there)
no_wrong_slot image bytes is read (Instruction k) (BadTarget at) w =
    let instrs = image.code.instrs in
    let instr = get_or instrs k Halt in
    let other = w.wrong.0.0 in
    let here = spells_at image bytes is read k w.there in
    let same : other ≡ instr = one_instr other instr w.wrong.0.1.0.ranges here.0.ranges (w.wrong.0.1.1 ∙ sym here.1) in
    let count : (header_in bytes).instr_count ≡ length instrs = ap (λ (h : Header). h.instr_count) read.header in
    let below : HasTargetBelow (length instrs) instr = All-get_or (HasTargetBelow (length instrs)) instrs k Halt (omega (arith, w.there, count)) is.code.targets in
    w.wrong.0.2 (subst (HasTargetBelow (header_in bytes).instr_count) (sym same) (subst (λ c. HasTargetBelow c instr) (sym count) below))
no_wrong_slot image bytes is read (Instruction k) (Truncated at) w = w.wrong
no_wrong_slot image bytes is read (Instruction k) BadMagic w = w.wrong
no_wrong_slot image bytes is read (Instruction k) (BadTable at) w = w.wrong
no_wrong_slot image bytes is read (Instruction k) NoHalt w = w.wrong
no_wrong_slot image bytes is read (Instruction k) (Trailing at) w = w.wrong
no_wrong_slot image bytes is read (Instruction k) Memory w = w.wrong

pub no_defect : (image : ImageContents) (bytes : List ℕ) → IsImage image → bytes ≡ spelling image → (d : Defect) → ¬ IsDefect bytes d
no_defect image bytes is spelled d holds = at d holds
  where
    read : IsReadAs bytes image
    read = read_as image bytes is spelled

    at : (d : Defect) → IsDefect bytes d → ⊥
    at CutOff holds = absurd (omega (arith, holds, read.end))
    at (Wrong slot fault) holds = no_wrong_slot image bytes is read slot fault holds
    at Endless holds = holds.1 (halt_there image bytes is read)
    at Longer holds = absurd (omega (arith, holds, read.end))

-- ---- one image is spelled so

type_of_number : ℕ → Elem
type_of_number n = get_or (U8 ∷ I8 ∷ U16 ∷ I16 ∷ U32 ∷ I32 ∷ []) n U8

type_again : (elem : Elem) → type_of_number (type_number elem) ≡ elem
unfolding type_of_number
type_again U8 = refl
type_again I8 = refl
type_again U16 = refl
type_again I16 = refl
type_again U32 = refl
type_again I32 = refl

same_type : (e f : Elem) → type_number e ≡ type_number f → e ≡ f
same_type e f same = sym (type_again e) ∙ ap type_of_number same ∙ type_again f

bit_again : (b : Bool) → eqb (bit b) 1 ≡ b
bit_again true = refl
bit_again false = refl

same_bit : (a b : Bool) → bit a ≡ bit b → a ≡ b
same_bit a b same = sym (bit_again a) ∙ ap (λ n. eqb n 1) same ∙ bit_again b

same_entry : (e f : Entry) → raw_entry e ≡ raw_entry f → e ≡ f
same_entry e f same =
    let name : e.name ≡ f.name = ap (λ (r : RawEntry). r.name) same in
    let output : e.output ≡ f.output = same_bit e.output f.output (ap (λ (r : RawEntry). r.kind) same) in
    let elem : e.elem ≡ f.elem = same_type e.elem f.elem (ap (λ (r : RawEntry). r.elem) same) in
    let rows : e.shape.rows ≡ f.shape.rows = ap (λ (r : RawEntry). r.rows) same in
    let columns : e.shape.cols ≡ f.shape.cols = ap (λ (r : RawEntry). r.columns) same in
    let place : e.place ≡ f.place = ap (λ (r : RawEntry). r.place) same in
    λ i. record { name = name i; output = output i; elem = elem i; shape = record { rows = rows i; cols = columns i }; place = place i }

same_entries : (es fs : List Entry) → raw_entries es ≡ raw_entries fs → es ≡ fs
same_entries [] [] same = refl
same_entries [] (f ∷ fs) same = absurd cc
same_entries (e ∷ es) [] same = absurd cc
same_entries (e ∷ es) (f ∷ fs) same =
    let first : raw_entry e ≡ raw_entry f = cc in
    let rest : raw_entries es ≡ raw_entries fs = cc in
    let here = same_entry e f first in
    let behind = same_entries es fs rest in
    λ i. here i ∷ behind i

same_instrs : (is js : List Instr) → length is ≡ length js → ((k : ℕ) → k < length is → get_or is k Halt ≡ get_or js k Halt) → is ≡ js
same_instrs [] [] long each = refl
same_instrs [] (j ∷ js) long each = absurd (omega (arith, long))
same_instrs (i ∷ is) [] long each = absurd (omega (arith, long))
same_instrs (i ∷ is) (j ∷ js) long each =
    let first : i ≡ j = each zero (omega arith) in
    let rest = same_instrs is js (omega (arith, long)) (λ k less. each (suc k) (omega arith)) in
    λ t. first t ∷ rest t

pub one_image : (bytes : List ℕ) (image other : ImageContents) → IsImage image → IsImage other → bytes ≡ spelling image → bytes ≡ spelling other → image ≡ other
one_image bytes image other is is' spelled spelled' =
    let read = read_as image bytes is spelled in
    let read' = read_as other bytes is' spelled' in
    let headers : header_of image ≡ header_of other = sym read.header ∙ read'.header in
    let spad : image.spad ≡ other.spad = ap (λ (h : Header). h.spad) headers in
    let memory : image.memory ≡ other.memory = ap (λ (h : Header). h.memory) headers in
    let arrays : image.arrays ≡ other.arrays = same_entries image.arrays other.arrays (sym read.entries ∙ read'.entries) in
    let version : image.code.version ≡ other.code.version = sym read.version ∙ read'.version in
    let count : length image.code.instrs ≡ length other.code.instrs = ap (λ (h : Header). h.instr_count) headers in
    let instrs : image.code.instrs ≡ other.code.instrs = same_instrs image.code.instrs other.code.instrs count
    (λ k less.
    let less' : k < length other.code.instrs = omega (arith, count) in
    let one = All-get_or (IsInstr image.code.version) image.code.instrs k Halt less is.code.each in
    let two = All-get_or (IsInstr other.code.version) other.code.instrs k Halt less' is'.code.each in
    one_instr (get_or image.code.instrs k Halt) (get_or other.code.instrs k Halt) one.ranges two.ranges (sym (read.instrs k less) ∙ read'.instrs k less')) in
    λ i. record { spad = spad i; memory = memory i; arrays = arrays i; code = record { version = version i; instrs = instrs i } }

-- ---- the two answers

pub loaded : (bytes : List ℕ) (image : ImageContents) → IsImage image → bytes ≡ spelling image → IsLoading bytes (Ok image)
loaded bytes image is spelled = record {
  found = is;
  spelled = spelled;
  only = λ other is' spelled'. one_image bytes image other is is' spelled spelled';
  fault = tt;
  exact = λ fault first. no_defect image bytes is spelled first.defect first.first.here;
}

pub refused : (bytes : List ℕ) (fault : ImageFault) → IsAnswer bytes fault → IsLoading bytes (Err fault)
refused bytes fault answer = record {
  found = tt;
  spelled = tt;
  only = λ image is spelled. elim answer [
    | inl memory ↦ memory
    | inr first ↦ absurd (no_defect image bytes is spelled first.defect first.first.here)
  ];
  fault = answer;
  exact = λ other first. elim answer [
    | inl memory ↦ inl memory
    | inr mine ↦ inr (one_fault bytes fault other mine first)
  ];
}
