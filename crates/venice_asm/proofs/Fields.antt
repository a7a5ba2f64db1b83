-- The first field of the table that breaks a rule.
use Rattle.std.proofs.Common.{◌≡◌, ◌⊎◌, inl, inr, ℕ, zero, suc, ◌+◌, ◌<◌, ◌≤◌, List, [], ◌∷◌, length, map, take, Option, Some, None, refl, sym, ap, subst, ◌∙◌, arith}
use Rattle.std.specs.Prelude.{slice_get, slice_index_or}
use Rattle.std.specs.Option.{IsSomeAnd}
use Rattle.std.proofs.lemmas.Bool.{cases_lt}
use Rattle.std.proofs.lemmas.List.{take_all, length-map}
use Rattle.std.proofs.lemmas.Option.{slice_get_within}
use Rattle.ven_base.specs.First.{IsFirst}
use Rattle.ven_base.specs.declared.entry.Entry.{Entry}
use Rattle.image_loader.specs.declared.table.EntryPart.{EntryPart}
use Rattle.image_loader.specs.declared.table.EntryPart.TheVariants as entry_parts
use Rattle.ven_base.specs.Limits.{cell_limit, memory_limit}
use Rattle.image_loader.specs.Table.{Header, RawEntry, HeaderPart, Spad, Memory, Arrays, Instrs, TableField, HeaderField, EntryField, LiesIn, array_limit, no_entry, entry_place, offset_of, header_place, field_place, BreaksEntry, BreaksFirst}
use Rattle.image_loader.proofs.Slots.{places_grow, earlier_part}
use Rattle.venice_asm.specs.declared.fault.AsmFault.{AsmFault}
use Rattle.venice_asm.specs.declared.fault.AsmFault.TheVariants as answers
use Rattle.venice_asm.specs.declared.head.Head.TheVariants as heads
use Rattle.venice_asm.specs.declared.phase.ArrayLine.{ArrayLine}
use Rattle.venice_asm.specs.declared.reading.Reading.{Reading}
use Rattle.venice_asm.specs.Faults.{Reads, Resolves, IsWrongField, IsRefused, IsAnswered, AtField}
use Rattle.venice_asm.specs.Lines.{TextLine, AreLines}
use Rattle.venice_asm.specs.Meaning.{HasNumber, entries_of, instrs_of, IsHeaderOf}
use Rattle.venice_asm.specs.Parts.{raw_array}
use Rattle.venice_asm.specs.Steps.{IsGoodHeader, IsBadHeader, AreRightBefore, IsTableOf, IsWrongTable, IsBadTable, Keeps}
use Rattle.venice_asm.proofs.Registers.{none_some, some_is}
use Rattle.venice_asm.proofs.Sizes.{spad_there, memory_there}
use Rattle.venice_asm.proofs.Tables.{entry_place_more}

-- ---- the header

pub lines_are_of : (text : List ℕ) (lines : List TextLine) → Reads text lines → AreLines lines
lines_are_of text lines h = h.has.are.words.lines_are

pub spad_is : (text : List ℕ) (lines : List TextLine) (r : Reading) → Reads text lines → Keeps text lines None r → HasNumber lines heads.Spad r.spad
spad_is text lines r h k = let (n, has) = spad_there lines (lines_are_of text lines h) in subst (HasNumber lines heads.Spad) (sym (k.spad n has)) has

pub memory_is : (text : List ℕ) (lines : List TextLine) (r : Reading) → Reads text lines → Keeps text lines None r → HasNumber lines heads.Memory r.memory
memory_is text lines r h k = let (n, has) = memory_there lines (lines_are_of text lines h) in subst (HasNumber lines heads.Memory) (sym (k.memory n has)) has

abbrev header_kept : List TextLine → Reading → Header
header_kept lines r = record { spad = r.spad; memory = r.memory; array_count = length (entries_of lines); instr_count = length (instrs_of lines) }

header_is : (text : List ℕ) (lines : List TextLine) (r : Reading) → Reads text lines → Keeps text lines None r → IsHeaderOf lines (header_kept lines r)
header_is text lines r h k = record { spad = spad_is text lines r h k; memory = memory_is text lines r h k; arrays = refl; instrs = refl }

-- a number of the header is one that is kept
no_spad : (text : List ℕ) (lines : List TextLine) (r : Reading) → Keeps text lines None r → LiesIn 1 cell_limit r.spad → IsWrongField lines (HeaderField Spad) → ⊥
no_spad text lines r k good w = w.breaks (subst (LiesIn 1 cell_limit) (k.spad w.header.spad w.is_header.spad) good)

no_memory : (text : List ℕ) (lines : List TextLine) (r : Reading) → Keeps text lines None r → LiesIn 0 memory_limit r.memory → IsWrongField lines (HeaderField Memory) → ⊥
no_memory text lines r k good w = w.breaks (subst (LiesIn 0 memory_limit) (k.memory w.header.memory w.is_header.memory) good)

few_entries : (text : List ℕ) (lines : List TextLine) (r : Reading) → Keeps text lines None r → LiesIn 0 array_limit r.array_count → length (entries_of lines) ≤ array_limit
few_entries text lines r k good = let count = k.array_count in let to = good.to in omega arith

no_arrays : (text : List ℕ) (lines : List TextLine) (r : Reading) → Keeps text lines None r → LiesIn 0 array_limit r.array_count → IsWrongField lines (HeaderField Arrays) → ⊥
no_arrays text lines r k good w =
    let few = few_entries text lines r k good in
    let same = w.is_header.arrays in
    w.breaks (record { from = omega arith; to = omega arith })

no_instrs : (text : List ℕ) (lines : List TextLine) → Reads text lines → IsWrongField lines (HeaderField Instrs) → ⊥
no_instrs text lines h w = let few = h.few in let same = w.is_header.instrs in w.breaks (record { from = omega arith; to = omega arith })

at_most : (a b : ℕ) → a ≤ b → (a < b) ⊎ ((a ≡ b) × (0 ≤ 0))
at_most a b le = by (cases_lt a b)
  where
    by : (a < b) ⊎ (b ≤ a) → (a < b) ⊎ ((a ≡ b) × (0 ≤ 0))
    by (inl lt) = inl lt
    by (inr ge) = inr (omega arith, omega arith)

header_low : (part : HeaderPart) → (4 ≤ header_place part) × (header_place part ≤ 16)
header_low Spad = (omega arith, omega arith)
header_low Memory = (omega arith, omega arith)
header_low Arrays = (omega arith, omega arith)
header_low Instrs = (omega arith, omega arith)

entry_far : (entries : List RawEntry) (k : ℕ) (part : EntryPart) → 20 ≤ field_place entries (EntryField k part)
entry_far entries k part = let least : entry_place entries 0 ≤ entry_place entries k = places_grow 20 entries 0 k (omega arith) in omega arith

-- a part of the header is the first where no part before it is wrong
header_first : (lines : List TextLine) (part : HeaderPart) → IsWrongField lines (HeaderField part) → ((other : HeaderPart) → header_place other < header_place part → IsWrongField lines (HeaderField other) → ⊥)
    → IsFirst (IsWrongField lines) (field_place (entries_of lines)) (λ (x : TableField). 0) (HeaderField part)
header_first lines part here before = record { here = here; first = first }
  where
    first : (other : TableField) → IsWrongField lines other → (header_place part < field_place (entries_of lines) other) ⊎ ((header_place part ≡ field_place (entries_of lines) other) × (0 ≤ 0))
    first (EntryField k q) w = let far = entry_far (entries_of lines) k q in let low = (header_low part).1 in inl (omega arith)
    first (HeaderField q) w = by (cases_lt (header_place q) (header_place part))
      where
        by : (header_place q < header_place part) ⊎ (header_place part ≤ header_place q) → (header_place part < header_place q) ⊎ ((header_place part ≡ header_place q) × (0 ≤ 0))
        by (inl lt) = absurd (before q lt w)
        by (inr le) = at_most (header_place part) (header_place q) le

abbrev BadHeaderAt : ℕ → ℕ → ℕ → ℕ → Type 0
BadHeaderAt spad memory array_count at =
    ((at ≡ 4) × (¬ LiesIn 1 cell_limit spad))
    ⊎ ((at ≡ 8) × LiesIn 1 cell_limit spad × (¬ LiesIn 0 memory_limit memory))
    ⊎ ((at ≡ 12) × LiesIn 1 cell_limit spad × LiesIn 0 memory_limit memory × (¬ LiesIn 0 array_limit array_count))

bad_header_at : (text : List ℕ) (lines : List TextLine) (r : Reading) (at : ℕ) → Resolves text lines → Keeps text lines None r → BadHeaderAt r.spad r.memory r.array_count at → IsRefused text (answers.Table at)
bad_header_at text lines r at h k (inl (is, bad)) =
    subst (λ p. IsRefused text (answers.Table p)) (sym is)
    (AtField lines (HeaderField Spad) h (header_first lines Spad (record { header = header_kept lines r; is_header = header_is text lines r h.reads k; breaks = bad }) before))
  where
    before : (other : HeaderPart) → header_place other < 4 → IsWrongField lines (HeaderField other) → ⊥
    before other lt w = let low = (header_low other).0 in absurd (omega arith)
bad_header_at text lines r at h k (inr (inl (is, good, bad))) =
    subst (λ p. IsRefused text (answers.Table p)) (sym is)
    (AtField lines (HeaderField Memory) h (header_first lines Memory (record { header = header_kept lines r; is_header = header_is text lines r h.reads k; breaks = bad }) before))
  where
    before : (other : HeaderPart) → header_place other < 8 → IsWrongField lines (HeaderField other) → ⊥
    before Spad lt w = no_spad text lines r k good w
    before Memory lt w = absurd (omega arith)
    before Arrays lt w = absurd (omega arith)
    before Instrs lt w = absurd (omega arith)
bad_header_at text lines r at h k (inr (inr (is, good, fine, bad))) =
    subst (λ p. IsRefused text (answers.Table p)) (sym is)
    (AtField lines (HeaderField Arrays) h (header_first lines Arrays (record { header = header_kept lines r; is_header = header_is text lines r h.reads k; breaks = many }) before))
  where
    many : LiesIn 0 array_limit (length (entries_of lines)) → ⊥
    many l = let count = k.array_count in let to = l.to in bad (record { from = omega arith; to = omega arith })

    before : (other : HeaderPart) → header_place other < 12 → IsWrongField lines (HeaderField other) → ⊥
    before Spad lt w = no_spad text lines r k good w
    before Memory lt w = no_memory text lines r k fine w
    before Arrays lt w = absurd (omega arith)
    before Instrs lt w = absurd (omega arith)

pub bad_header : (text : List ℕ) (lines : List TextLine) (r : Reading) (fault : AsmFault) → Resolves text lines → Keeps text lines None r → IsBadHeader r.spad r.memory r.array_count fault → IsAnswered text fault
bad_header text lines r (answers.Table at) h k bad = bad_header_at text lines r at h k bad
bad_header text lines r (answers.Unexpected at) h k bad = absurd bad
bad_header text lines r (answers.FieldRange at) h k bad = absurd bad
bad_header text lines r (answers.LabelTwice at) h k bad = absurd bad
bad_header text lines r (answers.UnknownLabel at) h k bad = absurd bad
bad_header text lines r answers.NoHalt h k bad = absurd bad
bad_header text lines r answers.Memory h k bad = absurd bad

-- ---- the entries

pub all_kept : (text : List ℕ) (lines : List TextLine) (r : Reading) → Keeps text lines None r → IsGoodHeader r.spad r.memory r.array_count → map raw_array r.arrays.items ≡ entries_of lines
all_kept text lines r k good = k.arrays ∙ take_all array_limit (entries_of lines) (few_entries text lines r k good.arrays_lie)

pub few_arrays : (text : List ℕ) (lines : List TextLine) (r : Reading) → Keeps text lines None r → IsGoodHeader r.spad r.memory r.array_count → length r.arrays.items ≤ array_limit
few_arrays text lines r k good =
    let few = few_entries text lines r k good.arrays_lie in
    let same = ap length (all_kept text lines r k good) in
    let count = length-map r.arrays.items raw_array in
    omega arith

named : (arrays : List ArrayLine) (k : ℕ) (entry : RawEntry) → slice_get (map raw_array arrays) k ≡ Some entry → entry.name_length ≡ length entry.name
named [] k entry e = absurd (none_some entry e)
named (a ∷ arrays) zero entry e = subst (λ (x : RawEntry). x.name_length ≡ length x.name) (some_is (raw_array a) entry e) refl
named (a ∷ arrays) (suc k) entry e = named arrays k entry e

index_is : (entries : List RawEntry) (k : ℕ) (entry : RawEntry) → slice_get entries k ≡ Some entry → slice_index_or entries k no_entry ≡ entry
index_is [] k entry e = absurd (none_some entry e)
index_is (x ∷ entries) zero entry e = some_is x entry e
index_is (x ∷ entries) (suc k) entry e = index_is entries k entry e

record IsThere {X : Type 0} (found : Option X) (P : X → Type 0) : Type 0 where
  x : X
  is : found ≡ Some x
  holds : P x

there : {X : Type 0} (found : Option X) (P : X → Type 0) → IsSomeAnd found P → IsThere found P
there None P h = absurd h
there (Some x) P h = record { x = x; is = refl; holds = h }

offset_small : (part : EntryPart) (n : ℕ) → offset_of part n < 15 + n
offset_small entry_parts.NameLength n = omega arith
offset_small entry_parts.NameBytes n = omega arith
offset_small entry_parts.Kind n = omega arith
offset_small entry_parts.ElementType n = omega arith
offset_small entry_parts.Rows n = omega arith
offset_small entry_parts.Columns n = omega arith
offset_small entry_parts.Place n = omega arith

-- a wrong field of an entry, in so much memory
wrong_entry : (text : List ℕ) (lines : List TextLine) (r : Reading) (j : ℕ) (q : EntryPart) → Keeps text lines None r → IsWrongField lines (EntryField j q) → IsThere (slice_get (entries_of lines) j) (λ e. BreaksEntry r.memory (take j (entries_of lines)) e q)
wrong_entry text lines r j q k w =
    there (slice_get (entries_of lines) j) (λ e. BreaksEntry r.memory (take j (entries_of lines)) e q)
    (subst (λ m. IsSomeAnd (slice_get (entries_of lines) j) (λ e. BreaksEntry m (take j (entries_of lines)) e q)) (sym (k.memory w.header.memory w.is_header.memory)) w.breaks)

entry_first : (text : List ℕ) (lines : List TextLine) (r : Reading) (at : ℕ) → Reads text lines → Keeps text lines None r → IsGoodHeader r.spad r.memory r.array_count → (w : IsWrongTable r.memory (entries_of lines) at) → w.entry.name_length ≡ length w.entry.name
    → (at ≡ field_place (entries_of lines) (EntryField w.k w.part)) × IsFirst (IsWrongField lines) (field_place (entries_of lines)) (λ (x : TableField). 0) (EntryField w.k w.part)
entry_first text lines r at h k good w name = (place, record { here = here; first = first })
  where
    entries : List RawEntry
    entries = entries_of lines

    size : (slice_index_or (entries_of lines) w.k no_entry).name_length ≡ length w.entry.name
    size = ap (λ (x : RawEntry). x.name_length) (index_is (entries_of lines) w.k w.entry w.is) ∙ name

    place : at ≡ field_place (entries_of lines) (EntryField w.k w.part)
    place = w.place ∙ ap (λ n. entry_place (entries_of lines) w.k + offset_of w.part n) (sym size)

    here : IsWrongField lines (EntryField w.k w.part)
    here = record {
      header = header_kept lines r;
      is_header = header_is text lines r h k;
      breaks = subst (λ o. IsSomeAnd o (λ e. BreaksEntry r.memory (take w.k (entries_of lines)) e w.part)) (sym w.is) w.breaks.breaks;
    }

    own_place : field_place (entries_of lines) (EntryField w.k w.part) ≡ entry_place (entries_of lines) w.k + offset_of w.part (length w.entry.name)
    own_place = ap (λ n. entry_place (entries_of lines) w.k + offset_of w.part n) size

    later : (j : ℕ) (q : EntryPart) → w.k < j → field_place (entries_of lines) (EntryField w.k w.part) < field_place (entries_of lines) (EntryField j q)
    later j q lt =
        let next = entry_place_more (entries_of lines) w.k w.entry w.is in
        let grows : entry_place (entries_of lines) (w.k + 1) ≤ entry_place (entries_of lines) j = places_grow 20 (entries_of lines) (w.k + 1) j (omega arith) in
        let small = offset_small w.part (length w.entry.name) in
        let own = own_place in
        let long = name in
        omega (arith, next, grows, small, own, long)

    same_entry : (q : EntryPart) → IsThere (slice_get (entries_of lines) w.k) (λ e. BreaksEntry r.memory (take w.k (entries_of lines)) e q) → field_place (entries_of lines) (EntryField w.k w.part) ≤ field_place (entries_of lines) (EntryField w.k q)
    same_entry q t = by (cases_lt (offset_of q (length w.entry.name)) (offset_of w.part (length w.entry.name)))
      where
        by : (offset_of q (length w.entry.name) < offset_of w.part (length w.entry.name)) ⊎ (offset_of w.part (length w.entry.name) ≤ offset_of q (length w.entry.name)) → field_place (entries_of lines) (EntryField w.k w.part) ≤ field_place (entries_of lines) (EntryField w.k q)
        by (inl lt) = absurd (w.breaks.before q (earlier_part w.part q (length w.entry.name) lt) (subst (λ e. BreaksEntry r.memory (take w.k (entries_of lines)) e q) (some_is t.x w.entry (sym t.is ∙ w.is)) t.holds))
        by (inr le) =
            let own = own_place in
            let other : field_place (entries_of lines) (EntryField w.k q) ≡ entry_place (entries_of lines) w.k + offset_of q (length w.entry.name) = ap (λ n. entry_place (entries_of lines) w.k + offset_of q n) size in
            omega (arith, own, other, le)

    first : (other : TableField) → IsWrongField lines other → (field_place (entries_of lines) (EntryField w.k w.part) < field_place (entries_of lines) other) ⊎ ((field_place (entries_of lines) (EntryField w.k w.part) ≡ field_place (entries_of lines) other) × (0 ≤ 0))
    first (HeaderField Spad) g = absurd (no_spad text lines r k good.spad_lies g)
    first (HeaderField Memory) g = absurd (no_memory text lines r k good.memory_lies g)
    first (HeaderField Arrays) g = absurd (no_arrays text lines r k good.arrays_lie g)
    first (HeaderField Instrs) g = absurd (no_instrs text lines h g)
    first (EntryField j q) g = by (wrong_entry text lines r j q k g) (cases_lt j w.k) (cases_lt w.k j)
      where
        by : IsThere (slice_get (entries_of lines) j) (λ e. BreaksEntry r.memory (take j (entries_of lines)) e q) → (j < w.k) ⊎ (w.k ≤ j) → (w.k < j) ⊎ (j ≤ w.k) → (field_place (entries_of lines) (EntryField w.k w.part) < field_place (entries_of lines) (EntryField j q)) ⊎ ((field_place (entries_of lines) (EntryField w.k w.part) ≡ field_place (entries_of lines) (EntryField j q)) × (0 ≤ 0))
        by t (inl lt) either = absurd ((w.earlier j t.x lt t.is).each q t.holds)
        by t (inr ge) (inl lt) = inl (later j q lt)
        by t (inr ge) (inr le) =
            let same : w.k ≡ j = omega arith in
            at_most _ _ (subst (λ i. field_place (entries_of lines) (EntryField w.k w.part) ≤ field_place (entries_of lines) (EntryField i q)) same
            (same_entry q (subst (λ i. IsThere (slice_get (entries_of lines) i) (λ e. BreaksEntry r.memory (take i (entries_of lines)) e q)) (sym same) t)))

wrong_table : (text : List ℕ) (lines : List TextLine) (r : Reading) (at : ℕ) → Resolves text lines → Keeps text lines None r → IsGoodHeader r.spad r.memory r.array_count → IsWrongTable r.memory (map raw_array r.arrays.items) at → IsRefused text (answers.Table at)
wrong_table text lines r at h k good w =
    let all = all_kept text lines r k good in
    from (record {
      k = w.k;
      entry = w.entry;
      is = subst (λ es. slice_get es w.k ≡ Some w.entry) all w.is;
      earlier = subst (λ es. AreRightBefore r.memory es w.k) all w.earlier;
      part = w.part;
      breaks = subst (λ es. BreaksFirst r.memory (take w.k es) w.entry w.part) all w.breaks;
      place = subst (λ es. at ≡ entry_place es w.k + offset_of w.part (length w.entry.name)) all w.place;
    }) (named r.arrays.items w.k w.entry w.is)
  where
    from : (g : IsWrongTable r.memory (entries_of lines) at) → g.entry.name_length ≡ length g.entry.name → IsRefused text (answers.Table at)
    from g name =
        let (place, first) = entry_first text lines r at h.reads k good g name in
        subst (λ p. IsRefused text (answers.Table p)) (sym place) (AtField lines (EntryField g.k g.part) h first)

pub bad_table : (text : List ℕ) (lines : List TextLine) (r : Reading) (fault : AsmFault) → Resolves text lines → Keeps text lines None r → IsGoodHeader r.spad r.memory r.array_count → IsBadTable r.memory (map raw_array r.arrays.items) fault → IsAnswered text fault
bad_table text lines r (answers.Table at) h k good bad = wrong_table text lines r at h k good bad
bad_table text lines r answers.Memory h k good bad = tt
bad_table text lines r (answers.Unexpected at) h k good bad = absurd bad
bad_table text lines r (answers.FieldRange at) h k good bad = absurd bad
bad_table text lines r (answers.LabelTwice at) h k good bad = absurd bad
bad_table text lines r (answers.UnknownLabel at) h k good bad = absurd bad
bad_table text lines r answers.NoHalt h k good bad = absurd bad

-- a table that keeps its rules has no wrong field
pub no_wrong : (text : List ℕ) (lines : List TextLine) (r : Reading) (table : List Entry) → Reads text lines → Keeps text lines None r → IsGoodHeader r.spad r.memory r.array_count → IsTableOf r.memory (map raw_array r.arrays.items) table → (field : TableField) → IsWrongField lines field → ⊥
no_wrong text lines r table h k good t (HeaderField Spad) w = no_spad text lines r k good.spad_lies w
no_wrong text lines r table h k good t (HeaderField Memory) w = no_memory text lines r k good.memory_lies w
no_wrong text lines r table h k good t (HeaderField Arrays) w = no_arrays text lines r k good.arrays_lie w
no_wrong text lines r table h k good t (HeaderField Instrs) w = no_instrs text lines h w
no_wrong text lines r table h k good t (EntryField j q) w =
    let all = all_kept text lines r k good in
    let g = wrong_entry text lines r j q k w in
    let right : AreRightBefore r.memory (entries_of lines) (length (entries_of lines)) = subst (λ es. AreRightBefore r.memory es (length es)) all t.right in
    (right j g.x (slice_get_within (entries_of lines) j g.x g.is) g.is).each q g.holds
