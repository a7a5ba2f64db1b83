-- The table of a text's arrays, entry by entry.
use Rattle.std.proofs.Common.{◌≡◌, ◌⊎◌, inl, inr, ℕ, zero, suc, ◌+◌, ◌<◌, ◌≤◌, List, [], ◌∷◌, ◌++◌, map, take, length, get_or, Some, sym, ap, subst, ◌∙◌, arith}
use Rattle.std.specs.Prelude.{slice_get}
use Rattle.std.specs.Option.{option_map}
use Rattle.std.proofs.lemmas.Bool.{cases_lt}
use Rattle.std.proofs.lemmas.List.{map_push, take_all, length-map}
use Rattle.std.proofs.lemmas.Option.{slice_get-map, slice_get-get_or}
use Rattle.ven_base.specs.declared.entry.Entry.{Entry}
use Rattle.image_loader.specs.Image.{raw_entry, raw_entries}
use Rattle.image_loader.specs.Table.{RawEntry, entry_size, place_from, entry_place, offset_of, IsRight, BreaksFirst}
use Rattle.venice_asm.specs.declared.fault.AsmFault.{AsmFault}
use Rattle.venice_asm.specs.declared.phase.ArrayLine.{ArrayLine}
use Rattle.venice_asm.specs.Parts.{raw_array}
use Rattle.venice_asm.specs.Steps.{IsEntryOf, IsWrongEntry, AreRightBefore, IsTableOf, IsBadTable}
use Rattle.venice_asm.proofs.Registers.{none_some, some_is}

-- ---- one entry more

place_more : (start : ℕ) (entries : List RawEntry) (k : ℕ) (entry : RawEntry) → slice_get entries k ≡ Some entry → place_from start entries (suc k) ≡ place_from start entries k + entry_size entry
place_more start [] k entry e = absurd (none_some entry e)
place_more start (x ∷ xs) zero entry e = ap (λ (r : RawEntry). start + entry_size r) (some_is x entry e)
place_more start (x ∷ xs) (suc k) entry e = place_more (start + entry_size x) xs k entry e

pub entry_place_more : (entries : List RawEntry) (k : ℕ) (entry : RawEntry) → slice_get entries k ≡ Some entry → entry_place entries (k + 1) ≡ entry_place entries k + entry_size entry
entry_place_more entries k entry e = let next : k + 1 ≡ suc k = omega arith in ap (place_from 20 entries) next ∙ place_more 20 entries k entry e

pub take_push : {X : Type 0} (xs : List X) (k : ℕ) (x : X) → slice_get xs k ≡ Some x → take (k + 1) xs ≡ take k xs ++ x ∷ []
take_push [] k x e = absurd (none_some x e)
take_push (y ∷ xs) zero x e = ap (λ z. z ∷ []) (some_is y x e)
take_push (y ∷ xs) (suc k) x e =
    let next : suc k + 1 ≡ suc (k + 1) = omega arith in
    ap (λ n. take n (y ∷ xs)) next ∙ ap (λ rest. y ∷ rest) (take_push xs k x e)

pub right_more : (memory : ℕ) (entries : List RawEntry) (k : ℕ) (entry : RawEntry) → AreRightBefore memory entries k → slice_get entries k ≡ Some entry → IsRight memory (take k entries) entry → AreRightBefore memory entries (k + 1)
right_more memory entries k entry before is right j other lt there = by (cases_lt j k)
  where
    by : (j < k) ⊎ (k ≤ j) → IsRight memory (take j entries) other
    by (inl below) = before j other below there
    by (inr above) =
        let same : k ≡ j = omega arith in
        let entries_same : entry ≡ other = some_is entry other (sym is ∙ ap (slice_get entries) same ∙ there) in
        subst (λ n. IsRight memory (take n entries) other) same (subst (IsRight memory (take k entries)) entries_same right)

-- the array that a turn is at
pub array_at : (arrays : List ArrayLine) (k : ℕ) (array d : ArrayLine) → k < length arrays → array ≡ get_or arrays k d → slice_get (map raw_array arrays) k ≡ Some (raw_array array)
array_at arrays k array d lt is =
    slice_get-map raw_array arrays k ∙ ap (option_map raw_array) (slice_get-get_or arrays k d lt ∙ ap (λ a. Some a) (sym is))

-- a turn of the loop
pub table_more : (memory : ℕ) (arrays : List ArrayLine) (k : ℕ) (array : ArrayLine) (entries : List Entry) (entry : Entry) → slice_get (map raw_array arrays) k ≡ Some (raw_array array) → raw_entries entries ≡ take k (map raw_array arrays) → IsEntryOf memory (raw_entries entries) array entry → raw_entries (entries ++ entry ∷ []) ≡ take (k + 1) (map raw_array arrays)
table_more memory arrays k array entries entry is same h =
    map_push raw_entry entries entry ∙ ap (λ es. es ++ raw_entry entry ∷ []) same ∙ ap (λ e. take k (map raw_array arrays) ++ e ∷ []) h.same
    ∙ sym (take_push (map raw_array arrays) k (raw_array array) is)

pub table_right : (memory : ℕ) (arrays : List ArrayLine) (k : ℕ) (array : ArrayLine) (entries : List Entry) (entry : Entry) → slice_get (map raw_array arrays) k ≡ Some (raw_array array) → raw_entries entries ≡ take k (map raw_array arrays) → IsEntryOf memory (raw_entries entries) array entry → AreRightBefore memory (map raw_array arrays) k → AreRightBefore memory (map raw_array arrays) (k + 1)
table_right memory arrays k array entries entry is same h before =
    right_more memory (map raw_array arrays) k (raw_array array) before is (subst (λ es. IsRight memory es (raw_array array)) same h.right)

-- the first wrong entry
pub table_wrong : (memory : ℕ) (arrays : List ArrayLine) (k : ℕ) (array : ArrayLine) (entries : List Entry) (place : ℕ) (fault : AsmFault) → slice_get (map raw_array arrays) k ≡ Some (raw_array array) → raw_entries entries ≡ take k (map raw_array arrays) → AreRightBefore memory (map raw_array arrays) k → place ≡ entry_place (map raw_array arrays) k → IsWrongEntry memory (raw_entries entries) array place fault → IsBadTable memory (map raw_array arrays) fault
table_wrong memory arrays k array entries place fault is same before at h =
    subst (IsBadTable memory (map raw_array arrays)) (sym h.answer)
    (record { k = k; entry = raw_array array; is = is; earlier = before; part = h.part; breaks = subst (λ es. BreaksFirst memory es (raw_array array) h.part) same h.breaks; place = ap (λ p. p + offset_of h.part (length array.name)) at })

pub table_whole : (memory : ℕ) (arrays : List ArrayLine) (k : ℕ) (entries : List Entry) → length arrays ≤ k → k ≤ length arrays → raw_entries entries ≡ take k (map raw_array arrays) → AreRightBefore memory (map raw_array arrays) k → IsTableOf memory (map raw_array arrays) entries
table_whole memory arrays k entries all within same before =
    let count = length-map arrays raw_array in
    let end : k ≡ length (map raw_array arrays) = omega arith in
    record {
      same = same ∙ take_all k (map raw_array arrays) (omega arith);
      right = subst (AreRightBefore memory (map raw_array arrays)) end before;
    }
