-- Where the slots of an image stand: one behind the other.
use Rattle.std.proofs.Common.{◌≡◌, ◌⊎◌, ℕ, zero, suc, ◌+◌, ◌<◌, ◌≤◌, List, [], ◌∷◌, ◌++◌, length, get_or, take, refl, sym, ap, ◌∙◌, subst, inl, inr, arith}
use Rattle.std.specs.Prelude.{slice_get}
use Rattle.std.specs.Option.{IsSomeAnd}
use Rattle.std.proofs.lemmas.Bool.{cases_lt}
use Rattle.image_loader.specs.declared.table.EntryPart.{EntryPart}
use Rattle.image_loader.specs.declared.table.EntryPart.TheVariants.{NameLength, NameBytes, Kind, ElementType, Rows, Columns, Place}
use Rattle.image_loader.specs.declared.fault.ImageFault.{ImageFault}
use Rattle.image_loader.specs.declared.fault.ImageFault.TheVariants.{Truncated, BadMagic, BadTable, BadInstr, BadTarget, NoHalt, Trailing, Memory}
use Rattle.image_loader.specs.Table.{Header, RawEntry, no_entry, TableField, HeaderField, EntryField, HeaderPart, Spad, Memory as MemoryPart, Arrays, Instrs, offset_of, part_size, part_number, entry_size, place_from, entry_place, table_place, name_length, header_place, BreaksEntry, BreaksTable}
use Rattle.image_loader.specs.Reading.{header_in, entries_in, entries_at, entry_at, instr_place, image_end, code_place}
use Rattle.image_loader.specs.Faults.{Slot, MagicByte, Field, Instruction, slot_place, slot_size, IsThere, IsWrong, IsWrongSlot, Defect, CutOff, Wrong, Endless, Longer, IsDefect, defect_place, defect_rank, IsFirstFault, EndsInHalt}
use Rattle.image_loader.specs.Clear.{IsReadTo}

-- an item of the first of two lists
pub get_or_left : {A : Type 0} (xs ys : List A) (i : ℕ) (d : A) → i < length xs → get_or (xs ++ ys) i d ≡ get_or xs i d
get_or_left [] ys i d less = absurd (omega arith)
get_or_left (x ∷ xs) ys zero d less = refl
get_or_left (x ∷ xs) ys (suc i) d less = get_or_left xs ys i d (omega arith)

-- ---- parts

part_of_number : ℕ → EntryPart
part_of_number n = get_or (NameLength ∷ NameBytes ∷ Kind ∷ ElementType ∷ Rows ∷ Columns ∷ Place ∷ []) n Place

part_again : (p : EntryPart) → part_of_number (part_number p) ≡ p
unfolding part_of_number
part_again NameLength = refl
part_again NameBytes = refl
part_again Kind = refl
part_again ElementType = refl
part_again Rows = refl
part_again Columns = refl
part_again Place = refl

pub same_part : (p r : EntryPart) → part_number p ≡ part_number r → p ≡ r
same_part p r e = sym (part_again p) ∙ ap part_of_number e ∙ part_again r

-- a part ends before a later one begins
pub parts_apart : (p r : EntryPart) (n : ℕ) → part_number p < part_number r → offset_of p n + part_size p n ≤ offset_of r n
parts_apart NameLength NameLength n less = omega arith
parts_apart NameLength NameBytes n less = omega arith
parts_apart NameLength Kind n less = omega arith
parts_apart NameLength ElementType n less = omega arith
parts_apart NameLength Rows n less = omega arith
parts_apart NameLength Columns n less = omega arith
parts_apart NameLength Place n less = omega arith
parts_apart NameBytes NameLength n less = omega arith
parts_apart NameBytes NameBytes n less = omega arith
parts_apart NameBytes Kind n less = omega arith
parts_apart NameBytes ElementType n less = omega arith
parts_apart NameBytes Rows n less = omega arith
parts_apart NameBytes Columns n less = omega arith
parts_apart NameBytes Place n less = omega arith
parts_apart Kind NameLength n less = omega arith
parts_apart Kind NameBytes n less = omega arith
parts_apart Kind Kind n less = omega arith
parts_apart Kind ElementType n less = omega arith
parts_apart Kind Rows n less = omega arith
parts_apart Kind Columns n less = omega arith
parts_apart Kind Place n less = omega arith
parts_apart ElementType NameLength n less = omega arith
parts_apart ElementType NameBytes n less = omega arith
parts_apart ElementType Kind n less = omega arith
parts_apart ElementType ElementType n less = omega arith
parts_apart ElementType Rows n less = omega arith
parts_apart ElementType Columns n less = omega arith
parts_apart ElementType Place n less = omega arith
parts_apart Rows NameLength n less = omega arith
parts_apart Rows NameBytes n less = omega arith
parts_apart Rows Kind n less = omega arith
parts_apart Rows ElementType n less = omega arith
parts_apart Rows Rows n less = omega arith
parts_apart Rows Columns n less = omega arith
parts_apart Rows Place n less = omega arith
parts_apart Columns NameLength n less = omega arith
parts_apart Columns NameBytes n less = omega arith
parts_apart Columns Kind n less = omega arith
parts_apart Columns ElementType n less = omega arith
parts_apart Columns Rows n less = omega arith
parts_apart Columns Columns n less = omega arith
parts_apart Columns Place n less = omega arith
parts_apart Place NameLength n less = omega arith
parts_apart Place NameBytes n less = omega arith
parts_apart Place Kind n less = omega arith
parts_apart Place ElementType n less = omega arith
parts_apart Place Rows n less = omega arith
parts_apart Place Columns n less = omega arith
parts_apart Place Place n less = omega arith

part_within : (p : EntryPart) (n : ℕ) → offset_of p n + part_size p n ≤ 15 + n
part_within NameLength n = omega arith
part_within NameBytes n = omega arith
part_within Kind n = omega arith
part_within ElementType n = omega arith
part_within Rows n = omega arith
part_within Columns n = omega arith
part_within Place n = omega arith

-- a part that begins before another one is an earlier one
pub earlier_part : (p r : EntryPart) (n : ℕ) → offset_of r n < offset_of p n → part_number r < part_number p
earlier_part p r n less = elim (cases_lt (part_number r) (part_number p)) [
  | inl lt ↦ lt
  | inr le ↦ elim (cases_lt (part_number p) (part_number r)) [
    | inl lt ↦ absurd (omega (arith, parts_apart p r n lt))
    | inr ge ↦
        let same : p ≡ r = same_part p r (omega arith) in
        let offsets : offset_of p n ≡ offset_of r n = ap (λ q. offset_of q n) same in
        absurd (omega arith)
  ]
]

-- and one that begins before another one ends is none later
pub no_later_part : (p r : EntryPart) (n : ℕ) → offset_of r n < offset_of p n + part_size p n → part_number r ≤ part_number p
no_later_part p r n less = elim (cases_lt (part_number p) (part_number r)) [
  | inl lt ↦ absurd (omega (arith, parts_apart p r n lt))
  | inr le ↦ le
]

-- ---- entries

pub entries_count : (bytes : List ℕ) (n start : ℕ) → length (entries_at bytes n start) ≡ n
unfolding entries_at
entries_count bytes zero start = refl
entries_count bytes (suc n) start = ap suc (entries_count bytes n (start + entry_size (entry_at bytes start)))

-- entry k stands at its place
pub entry_there : (bytes : List ℕ) (n start k : ℕ) → k < n → get_or (entries_at bytes n start) k no_entry ≡ entry_at bytes (place_from start (entries_at bytes n start) k)
unfolding entries_at
entry_there bytes zero start k less = absurd (omega arith)
entry_there bytes (suc n) start zero less = refl
entry_there bytes (suc n) start (suc k) less = entry_there bytes n (start + entry_size (entry_at bytes start)) k (omega arith)

-- the next one stands behind it
pub place_next : (start : ℕ) (entries : List RawEntry) (k : ℕ) → k < length entries → place_from start entries (k + 1) ≡ place_from start entries k + entry_size (get_or entries k no_entry)
place_next start [] k less = absurd (omega arith)
place_next start (entry ∷ entries) zero less = refl
place_next start (entry ∷ entries) (suc k) less =
    let one_more : suc k + 1 ≡ suc (k + 1) = omega arith in
    ap (λ q. place_from start (entry ∷ entries) q) one_more ∙ place_next (start + entry_size entry) entries k (omega arith)

place_least : (start : ℕ) (entries : List RawEntry) (k : ℕ) → start ≤ place_from start entries k
place_least start entries zero = omega arith
place_least start [] (suc k) = omega arith
place_least start (entry ∷ entries) (suc k) = omega (arith, place_least (start + entry_size entry) entries k)

-- places only grow
pub places_grow : (start : ℕ) (entries : List RawEntry) (j k : ℕ) → j ≤ k → place_from start entries j ≤ place_from start entries k
places_grow start entries zero k le = place_least start entries k
places_grow start [] (suc j) zero le = absurd (omega arith)
places_grow start [] (suc j) (suc k) le = omega arith
places_grow start (entry ∷ entries) (suc j) zero le = absurd (omega arith)
places_grow start (entry ∷ entries) (suc j) (suc k) le = places_grow (start + entry_size entry) entries j k (omega arith)

-- what holds of the item at a place
pub item_at : (entries : List RawEntry) (k : ℕ) (P : RawEntry → Type 0) → IsSomeAnd (slice_get entries k) P → P (get_or entries k no_entry)
item_at [] k P holds = absurd holds
item_at (entry ∷ entries) zero P holds = holds
item_at (entry ∷ entries) (suc k) P holds = item_at entries k P holds

pub at_item : (entries : List RawEntry) (k : ℕ) (P : RawEntry → Type 0) → k < length entries → P (get_or entries k no_entry) → IsSomeAnd (slice_get entries k) P
at_item [] k P less holds = absurd (omega arith)
at_item (entry ∷ entries) zero P less holds = holds
at_item (entry ∷ entries) (suc k) P less holds = at_item entries k P (omega arith) holds

-- a part that is wrong has bytes
some_size : (header : Header) (entries : List RawEntry) (j : ℕ) (part : EntryPart) → BreaksTable header entries (EntryField j part) → 0 < part_size part (name_length entries j)
some_size header entries j NameLength b = omega arith
some_size header entries j NameBytes b =
    let e = item_at entries j (λ entry. BreaksEntry header.memory (take j entries) entry NameBytes) b in
    omega (arith, e.0.from)
some_size header entries j Kind b = omega arith
some_size header entries j ElementType b = omega arith
some_size header entries j Rows b = omega arith
some_size header entries j Columns b = omega arith
some_size header entries j Place b = omega arith

module _ (bytes : List ℕ) where
  abbrev entries : List RawEntry
  entries = entries_in bytes

  abbrev count : ℕ
  count = (header_in bytes).array_count

  pub entries_length : length entries ≡ count
  entries_length = entries_count bytes count table_place

  pub entry_is : (k : ℕ) → k < count → get_or entries k no_entry ≡ entry_at bytes (entry_place entries k)
  entry_is k less = entry_there bytes count table_place k less

  pub next_entry : (k : ℕ) → k < count → entry_place entries (k + 1) ≡ entry_place entries k + (15 + name_length entries k)
  next_entry k less = place_next table_place entries k (omega (arith, entries_length))

  -- ---- where slots stand

  pub header_range : (part : HeaderPart) → (4 ≤ header_place part) × (header_place part + 4 ≤ 20)
  header_range Spad = (omega arith, omega arith)
  header_range MemoryPart = (omega arith, omega arith)
  header_range Arrays = (omega arith, omega arith)
  header_range Instrs = (omega arith, omega arith)

  pub entry_from : (k : ℕ) → 20 ≤ entry_place entries k
  entry_from k = place_least table_place entries k

  pub entry_to : (k : ℕ) → k < count → entry_place entries (k + 1) ≤ code_place bytes
  entry_to k less = places_grow table_place entries (k + 1) count (omega arith)

  code_to : code_place bytes ≤ image_end bytes
  code_to = omega arith

  pub field_to : (k : ℕ) (part : EntryPart) → k < count → entry_place entries k + (offset_of part (name_length entries k) + part_size part (name_length entries k)) ≤ entry_place entries (k + 1)
  field_to k part less = omega (arith, next_entry k less, part_within part (name_length entries k))

  pub entry_end : (k : ℕ) → k < count → entry_place entries (k + 1) ≤ image_end bytes
  entry_end k less = omega (arith, entry_to k less, code_to)

  pub instr_end : (k : ℕ) → k < (header_in bytes).instr_count → instr_place bytes k + 8 ≤ image_end bytes
  instr_end k less = omega arith

  -- ---- what a wrong slot is

  wrong_field : (field : TableField) (fault : ImageFault) → IsWrong bytes (Field field) fault → BreaksTable (header_in bytes) entries field
  wrong_field field (BadTable at) w = w.0
  wrong_field field (Truncated at) w = absurd w
  wrong_field field BadMagic w = absurd w
  wrong_field field (BadInstr at) w = absurd w
  wrong_field field (BadTarget at) w = absurd w
  wrong_field field NoHalt w = absurd w
  wrong_field field (Trailing at) w = absurd w
  wrong_field field Memory w = absurd w

  -- ---- reading on

  abbrev NoneIn : (p q : ℕ) → Type 0
  NoneIn p q = (slot : Slot) (fault : ImageFault) → IsWrongSlot bytes slot fault → p ≤ slot_place bytes slot → slot_place bytes slot < q → ⊥

  -- what has no wrong slot is read
  pub read_on : (p q : ℕ) → IsReadTo bytes p → q ≤ length bytes → q ≤ image_end bytes → NoneIn p q → IsReadTo bytes q
  read_on p q so_far whole within none = record { within = whole; none = λ d holds. at d holds }
    where
      at : (d : Defect) → IsDefect bytes d → q ≤ defect_place bytes d
      at CutOff holds = whole
      at (Wrong slot fault) holds = elim (cases_lt (slot_place bytes slot) q) [
        | inl lt ↦ absurd (none slot fault holds (so_far.none (Wrong slot fault) holds) lt)
        | inr ge ↦ ge
      ]
      at Endless holds = within
      at Longer holds = within

  -- what isn't whole is cut off, where nothing wrong stands in what there is
  pub cut_off : (p q : ℕ) → IsReadTo bytes p → length bytes < q → q ≤ image_end bytes → NoneIn p q → IsFirstFault bytes (Truncated (length bytes))
  cut_off p q so_far short within none = record { defect = CutOff; first = record { here = omega arith; first = λ d holds. at d holds }; same = refl }
    where
      at : (d : Defect) → IsDefect bytes d → (length bytes < defect_place bytes d) ⊎ ((length bytes ≡ defect_place bytes d) × (0 ≤ defect_rank d))
      at CutOff holds = inr (refl, omega arith)
      at (Wrong slot fault) holds = absurd (none slot fault holds (so_far.none (Wrong slot fault) holds) (omega (arith, holds.whole)))
      at Endless holds = absurd (omega (arith, holds.0))
      at Longer holds = absurd (omega (arith, holds))

  -- a slot that is wrong where all before it is read is the first defect
  pub wrong_first : (slot : Slot) (fault : ImageFault) → IsReadTo bytes (slot_place bytes slot) → IsWrongSlot bytes slot fault → IsFirstFault bytes fault
  wrong_first slot fault so_far wrong = record { defect = Wrong slot fault; first = record { here = wrong; first = λ d holds. at d (so_far.none d holds) }; same = refl }
    where
      at : (d : Defect) → slot_place bytes slot ≤ defect_place bytes d → (slot_place bytes slot < defect_place bytes d) ⊎ ((slot_place bytes slot ≡ defect_place bytes d) × (0 ≤ defect_rank d))
      at d le = elim (cases_lt (slot_place bytes slot) (defect_place bytes d)) [
        | inl lt ↦ inl lt
        | inr ge ↦ inr (omega arith, omega arith)
      ]

  -- ---- the slots in a stretch

  -- before the header stands the magic alone
  pub magic_only : (i : ℕ) → i < 4 → (i + 1 ≤ length bytes → (fault : ImageFault) → ¬ IsWrong bytes (MagicByte i) fault) → NoneIn i (i + 1)
  magic_only i small fine (MagicByte j) fault wrong from below =
      let same : j ≡ i = omega arith in
      fine (omega (arith, wrong.whole)) fault (subst (λ k. IsWrong bytes (MagicByte k) fault) same wrong.wrong)
  magic_only i small fine (Field (HeaderField part)) fault wrong from below = absurd (omega (arith, header_range part))
  magic_only i small fine (Field (EntryField k part)) fault wrong from below = absurd (omega (arith, entry_from k))
  magic_only i small fine (Instruction k) fault wrong from below = absurd (omega (arith, entry_from count))

  -- a number of the header
  header_apart : (part other : HeaderPart) → header_place part ≤ header_place other → header_place other < header_place part + 4 → other ≡ part
  header_apart Spad Spad from below = refl
  header_apart Spad MemoryPart from below = absurd (omega arith)
  header_apart Spad Arrays from below = absurd (omega arith)
  header_apart Spad Instrs from below = absurd (omega arith)
  header_apart MemoryPart Spad from below = absurd (omega arith)
  header_apart MemoryPart MemoryPart from below = refl
  header_apart MemoryPart Arrays from below = absurd (omega arith)
  header_apart MemoryPart Instrs from below = absurd (omega arith)
  header_apart Arrays Spad from below = absurd (omega arith)
  header_apart Arrays MemoryPart from below = absurd (omega arith)
  header_apart Arrays Arrays from below = refl
  header_apart Arrays Instrs from below = absurd (omega arith)
  header_apart Instrs Spad from below = absurd (omega arith)
  header_apart Instrs MemoryPart from below = absurd (omega arith)
  header_apart Instrs Arrays from below = absurd (omega arith)
  header_apart Instrs Instrs from below = refl

  -- where a number of the header isn't whole or keeps its rule
  pub header_only : (part : HeaderPart) → (header_place part + 4 ≤ length bytes → ¬ BreaksTable (header_in bytes) entries (HeaderField part)) → NoneIn (header_place part) (header_place part + 4)
  header_only part fine (MagicByte j) fault wrong from below = absurd (omega (arith, wrong.there, header_range part))
  header_only part fine (Field (HeaderField other)) fault wrong from below =
      let same : other ≡ part = header_apart part other from below in
      let whole : header_place part + 4 ≤ length bytes = omega (arith, wrong.whole, ap header_place same) in
      fine whole (subst (λ h. BreaksTable (header_in bytes) entries (HeaderField h)) same (wrong_field (HeaderField other) fault wrong.wrong))
  header_only part fine (Field (EntryField k other)) fault wrong from below = absurd (omega (arith, entry_from k, header_range part))
  header_only part fine (Instruction k) fault wrong from below = absurd (omega (arith, entry_from count, header_range part))

  pub header_to : (part : HeaderPart) → header_place part + 4 ≤ image_end bytes
  header_to part = omega (arith, header_range part, entry_from count)

  -- the parts of an entry
  pub entry_only : (k q : ℕ) → k < count → q ≤ entry_place entries (k + 1)
      → ((part : EntryPart) → entry_place entries k + offset_of part (name_length entries k) < q → slot_place bytes (Field (EntryField k part)) + slot_size bytes (Field (EntryField k part)) ≤ length bytes → ¬ BreaksTable (header_in bytes) entries (EntryField k part))
      → NoneIn (entry_place entries k) q
  entry_only k q less to fine (MagicByte j) fault wrong from below = absurd (omega (arith, wrong.there, entry_from k))
  entry_only k q less to fine (Field (HeaderField part)) fault wrong from below = absurd (omega (arith, header_range part, entry_from k))
  entry_only k q less to fine (Field (EntryField j part)) fault wrong from below = elim (cases_lt j k) [
    | inl lt ↦ absurd (part_behind j part k lt wrong.there (wrong_field (EntryField j part) fault wrong.wrong) from)
    | inr ge ↦ elim (cases_lt k j) [
      | inl lt ↦ absurd (omega (arith, places_grow table_place entries (k + 1) j (omega arith)))
      | inr le ↦
          let same : j ≡ k = omega arith in
          let here : IsWrongSlot bytes (Field (EntryField k part)) fault = subst (λ n. IsWrongSlot bytes (Field (EntryField n part)) fault) same wrong in
          fine part (omega (arith, ap (λ n. slot_place bytes (Field (EntryField n part))) same)) here.whole (wrong_field (EntryField k part) fault here.wrong)
    ]
  ]
    where
      part_behind : (j : ℕ) (part : EntryPart) (k : ℕ) → j < k → j < count → BreaksTable (header_in bytes) entries (EntryField j part) → entry_place entries k ≤ slot_place bytes (Field (EntryField j part)) → ⊥
      part_behind j part k lt there b from =
          absurd (omega (arith, field_to j part there, places_grow table_place entries (j + 1) k (omega arith), some_size (header_in bytes) entries j part b))
  entry_only k q less to fine (Instruction j) fault wrong from below = absurd (omega (arith, entry_to k less))

  -- one instruction
  pub instr_only : (k : ℕ) → (instr_place bytes k + 8 ≤ length bytes → (fault : ImageFault) → ¬ IsWrong bytes (Instruction k) fault) → NoneIn (instr_place bytes k) (instr_place bytes k + 8)
  instr_only k fine (MagicByte j) fault wrong from below = absurd (omega (arith, wrong.there, entry_from count))
  instr_only k fine (Field (HeaderField part)) fault wrong from below = absurd (omega (arith, header_range part, entry_from count))
  instr_only k fine (Field (EntryField j part)) fault wrong from below = absurd (omega (arith, field_to j part wrong.there, entry_to j wrong.there, some_size (header_in bytes) entries j part (wrong_field (EntryField j part) fault wrong.wrong)))
  instr_only k fine (Instruction j) fault wrong from below =
      let same : j ≡ k = omega arith in
      let here : IsWrongSlot bytes (Instruction k) fault = subst (λ n. IsWrongSlot bytes (Instruction n) fault) same wrong in
      fine here.whole fault here.wrong

  -- ---- the end

  -- every slot ends before the image does
  pub slot_end : (slot : Slot) → IsThere bytes slot → slot_place bytes slot + slot_size bytes slot ≤ image_end bytes
  slot_end (MagicByte i) there = omega (arith, entry_from count)
  slot_end (Field (HeaderField part)) there = header_to part
  slot_end (Field (EntryField k part)) there = omega (arith, field_to k part there, entry_end k there)
  slot_end (Instruction k) there = instr_end k there

  pub wrong_size : (slot : Slot) (fault : ImageFault) → IsWrong bytes slot fault → 0 < slot_size bytes slot
  wrong_size (MagicByte i) fault wrong = omega arith
  wrong_size (Field (HeaderField part)) fault wrong = omega arith
  wrong_size (Field (EntryField k part)) fault wrong = some_size (header_in bytes) entries k part (wrong_field (EntryField k part) fault wrong)
  wrong_size (Instruction k) fault wrong = omega arith

  pub endless_first : IsReadTo bytes (image_end bytes) → (¬ EndsInHalt bytes) → IsFirstFault bytes NoHalt
  endless_first so_far no_halt = record { defect = Endless; first = record { here = (so_far.within, no_halt); first = λ d holds. at d (so_far.none d holds) }; same = refl }
    where
      at : (d : Defect) → image_end bytes ≤ defect_place bytes d → (image_end bytes < defect_place bytes d) ⊎ ((image_end bytes ≡ defect_place bytes d) × (0 ≤ defect_rank d))
      at d le = elim (cases_lt (image_end bytes) (defect_place bytes d)) [
        | inl lt ↦ inl lt
        | inr ge ↦ inr (omega arith, omega arith)
      ]

  pub longer_first : IsReadTo bytes (image_end bytes) → EndsInHalt bytes → image_end bytes < length bytes → IsFirstFault bytes (Trailing (image_end bytes))
  longer_first so_far halts more = record { defect = Longer; first = record { here = more; first = λ d holds. at d holds (so_far.none d holds) }; same = refl }
    where
      at : (d : Defect) → IsDefect bytes d → image_end bytes ≤ defect_place bytes d → (image_end bytes < defect_place bytes d) ⊎ ((image_end bytes ≡ defect_place bytes d) × (1 ≤ defect_rank d))
      at CutOff holds le = absurd (omega (arith, holds))
      at (Wrong slot fault) holds le = absurd (omega (arith, slot_end slot holds.there, wrong_size slot fault holds.wrong))
      at Endless holds le = absurd (holds.1 halts)
      at Longer holds le = inr (refl, omega arith)
