-- An image has few bytes: the header, 256 entries of 46 bytes, and 8,000,000 instructions of 8 fit into a file.
use Rattle.std.proofs.Common.{◌≡◌, ℕ, zero, suc, ◌+◌, ◌*◌, ◌<◌, ◌≤◌, List, [], ◌∷◌, length, get_or, take, Option, sym, ap, subst, arith}
use Rattle.std.specs.Option.{IsSomeAnd}
use Rattle.std.proofs.lemmas.Option.{slice_get-get_or}
use Rattle.image_loader.specs.declared.table.EntryPart.TheVariants.{NameLength}
use Rattle.image_loader.specs.Table.{Header, RawEntry, no_entry, LiesIn, EntryField, Arrays, Instrs, file_limit, BreaksEntry, place_from, table_place}
use Rattle.image_loader.specs.Image.{ImageContents, IsImage, raw_entries, spelling}
use Rattle.image_loader.specs.Reading.{header_in, entries_in, code_place, image_end}
use Rattle.image_loader.proofs.WholeImages.{lies_in, image_lies, read_as}

-- the names of these entries have at most 31 bytes
abbrev AreShort : List RawEntry → Type 0
AreShort entries = (k : ℕ) → k < length entries → (get_or entries k no_entry).name_length ≤ 31

place_few : (start : ℕ) (entries : List RawEntry) (k : ℕ) → AreShort entries → place_from start entries k ≤ start + 46 * k
place_few start entries zero short = omega arith
place_few start [] (suc k) short = omega arith
place_few start (entry ∷ entries) (suc k) short =
    let first : entry.name_length ≤ 31 = short zero (omega arith) in
    omega (arith, first, place_few (start + (15 + entry.name_length)) entries k (λ j less. short (suc j) (omega arith)))

names_short : (image : ImageContents) → IsImage image → AreShort (raw_entries image.arrays)
names_short image is k less =
    let entries = raw_entries image.arrays in
    let entry = get_or entries k no_entry in
    (lies_in 1 31 entry.name_length (λ no. is.table (EntryField k NameLength)
    (subst (λ (o : Option RawEntry). IsSomeAnd o (λ e. BreaksEntry image.memory (take k entries) e NameLength)) (sym (slice_get-get_or entries k no_entry less)) no))).to

pub few_bytes : (image : ImageContents) (bytes : List ℕ) → IsImage image → bytes ≡ spelling image → length bytes ≤ file_limit
few_bytes image bytes is spelled =
    let read = read_as image bytes is spelled in
    let place : code_place bytes ≤ 20 + 46 * (header_in bytes).array_count =
    place_few table_place (entries_in bytes) (header_in bytes).array_count (subst AreShort (sym read.entries) (names_short image is)) in
    let arrays : (header_in bytes).array_count ≤ 256 = subst (λ (h : Header). h.array_count ≤ 256) (sym read.header) (image_lies image is Arrays).to in
    let instrs : (header_in bytes).instr_count ≤ 8000000 = subst (λ (h : Header). h.instr_count ≤ 8000000) (sym read.header) (image_lies image is Instrs).to in
    let end : code_place bytes + 8 * (header_in bytes).instr_count ≡ length bytes = read.end in
    omega (arith, place, arrays, instrs, end)
