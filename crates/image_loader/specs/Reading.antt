-- What stands at the places of an image's bytes. A byte that isn't there is said to be 0.
use Rattle.std.specs.Prelude.{ℕ, zero, suc, ◌+◌, ◌*◌, ◌==◌, List, [], ◌∷◌, slice_index, if◌then◌else◌}
use Rattle.std.specs.Int.{w32, from_le_bytes}
use Rattle.venice_isa.specs.Cell.{part}
use Rattle.venice_isa.specs.declared.instr.Version.{Version}
use Rattle.venice_isa.specs.declared.instr.Version.TheVariants.{One, Two}
use Rattle.image_loader.specs.Table.{Header, RawEntry, entry_size, entry_place, table_place}

-- the number that four bytes spell
abbrev pub number_at : List ℕ → ℕ → ℕ
number_at bytes place =
    from_le_bytes w32 (slice_index bytes place ∷ slice_index bytes (place + 1) ∷ slice_index bytes (place + 2)
    ∷ slice_index bytes (place + 3) ∷ [])

-- eight bytes
abbrev pub eight_at : List ℕ → ℕ → List ℕ
eight_at bytes place =
    slice_index bytes place ∷ slice_index bytes (place + 1) ∷ slice_index bytes (place + 2)
    ∷ slice_index bytes (place + 3) ∷ slice_index bytes (place + 4) ∷ slice_index bytes (place + 5)
    ∷ slice_index bytes (place + 6) ∷ slice_index bytes (place + 7) ∷ []

abbrev pub version_in : List ℕ → Version
version_in bytes = if slice_index bytes 3 == 50 then Two else One

abbrev pub header_in : List ℕ → Header
header_in bytes = record {
  spad = number_at bytes 4;
  memory = number_at bytes 8;
  array_count = number_at bytes 12;
  instr_count = number_at bytes 16;
}

abbrev pub entry_at : List ℕ → ℕ → RawEntry
entry_at bytes place =
    let n = slice_index bytes place in
    record {
      name_length = n;
      name = part bytes (place + 1) n;
      kind = slice_index bytes (place + 1 + n);
      elem = slice_index bytes (place + 2 + n);
      rows = number_at bytes (place + 3 + n);
      columns = number_at bytes (place + 7 + n);
      place = number_at bytes (place + 11 + n);
    }

-- so many entries, one after another
unfoldable pub entries_at : List ℕ → (count place : ℕ) → List RawEntry
entries_at bytes zero place = []
entries_at bytes (suc count) place =
    entry_at bytes place ∷ entries_at bytes count (place + entry_size (entry_at bytes place))

abbrev pub entries_in : List ℕ → List RawEntry
entries_in bytes = entries_at bytes (header_in bytes).array_count table_place

-- instruction k stands behind the table and the instructions before it
abbrev pub code_place : List ℕ → ℕ
code_place bytes = entry_place (entries_in bytes) (header_in bytes).array_count

abbrev pub instr_place : List ℕ → ℕ → ℕ
instr_place bytes k = code_place bytes + 8 * k

abbrev pub instr_bytes : List ℕ → ℕ → List ℕ
instr_bytes bytes k = eight_at bytes (instr_place bytes k)

-- where the last instruction ends
abbrev pub image_end : List ℕ → ℕ
image_end bytes = instr_place bytes (header_in bytes).instr_count
