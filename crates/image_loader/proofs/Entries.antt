-- The first part of an entry that breaks its rule.
use Rattle.std.proofs.Common.{◌≡◌, ℕ, ◌+◌, ◌*◌, ◌<◌, Bool, true, false, ◌||◌, ◌↔◌, List, [], ◌∷◌, length, refl, sym, ap, ◌∙◌, subst, inl, inr, arith}
use Rattle.std.specs.Prelude.{IsTrue, Contains}
use Rattle.std.specs.List.{list_any}
use Rattle.std.specs.Str.{bytes_eq}
use Rattle.ven_base.proofs.Words.{any_is-Contains}
use Rattle.std.proofs.lemmas.Bool.{cases_lt}
use Rattle.ven_base.specs.declared.elem.Elem.{Elem}
use Rattle.ven_base.specs.declared.elem.Elem.TheVariants.{U8, I8, U16, I16, U32, I32}
use Rattle.ven_base.specs.declared.entry.Entry.{Entry}
use Rattle.ven_base.specs.Extent.{Extent, IsExtent}
use Rattle.venice_isa.specs.Encoding.{bit, type_number}
use Rattle.image_loader.specs.declared.table.EntryPart.{EntryPart}
use Rattle.image_loader.specs.declared.table.EntryPart.TheVariants.{NameLength, NameBytes, Kind, ElementType, Rows, Columns, Place}
use Rattle.image_loader.specs.Table.{RawEntry, LiesIn, part_number, names_of, share_byte, BreaksEntry, BreaksFirst, IsRight}
use Rattle.image_loader.specs.Image.{raw_entry, raw_entries}
use Rattle.image_loader.specs.EntryFields.{IsGoodName, IsBadName, IsBadShape}
use Rattle.image_loader.proofs.Slots.{same_part}

bit_below : (b : Bool) → bit b < 2
bit_below true = omega arith
bit_below false = omega arith

type_below : (elem : Elem) → type_number elem < 6
type_below U8 = omega arith
type_below I8 = omega arith
type_below U16 = omega arith
type_below I16 = omega arith
type_below U32 = omega arith
type_below I32 = omega arith

number_below : (part : EntryPart) → part_number part < 7
number_below NameLength = omega arith
number_below NameBytes = omega arith
number_below Kind = omega arith
number_below ElementType = omega arith
number_below Rows = omega arith
number_below Columns = omega arith
number_below Place = omega arith

-- arrays as they stand in the table
pub any_shared : (entry : RawEntry) (others : List Entry) → list_any (share_byte entry) (raw_entries others) ≡ list_any (λ other. share_byte entry (raw_entry other)) others
any_shared entry [] = refl
any_shared entry (other ∷ others) = ap (λ b. share_byte entry (raw_entry other) || b) (any_shared entry others)

any_named : (bytes : List ℕ) (others : List Entry) → list_any (bytes_eq bytes) (names_of (raw_entries others)) ≡ list_any (λ (entry : Entry). bytes_eq bytes entry.name) others
any_named bytes [] = refl
any_named bytes (other ∷ others) = ap (λ b. bytes_eq bytes other.name || b) (any_named bytes others)

pub is_taken : (r : Bool) (bytes : List ℕ) (others : List Entry) → r ≡ list_any (λ (entry : Entry). bytes_eq bytes entry.name) others → IsTrue r ↔ Contains (names_of (raw_entries others)) bytes
is_taken r bytes others e = any_is-Contains r bytes (names_of (raw_entries others)) (e ∙ sym (any_named bytes others))

-- an entry of these parts stands so in the table
pub same_entry : (fields : RawEntry) (entry : Entry) → fields.name_length ≡ length fields.name → entry.name ≡ fields.name → bit entry.output ≡ fields.kind → type_number entry.elem ≡ fields.elem → entry.shape ≡ record { rows = fields.rows; cols = fields.columns } → entry.place ≡ fields.place → raw_entry entry ≡ fields
same_entry fields entry long name kind elem shape place =
    let rows : entry.shape.rows ≡ fields.rows = ap (λ (s : Extent). s.rows) shape in
    let columns : entry.shape.cols ≡ fields.columns = ap (λ (s : Extent). s.cols) shape in
    let length_is : length entry.name ≡ fields.name_length = ap (λ (n : List ℕ). length n) name ∙ sym long in
    λ i. record { name_length = length_is i; name = name i; kind = kind i; elem = elem i; rows = rows i; columns = columns i; place = place i }

module _ (memory : ℕ) (earlier : List RawEntry) (entry : RawEntry) where
  -- the first parts keep their rules
  pub record Before (n : ℕ) : Type 0 where
    pub each : (part : EntryPart) → part_number part < n → ¬ BreaksEntry memory earlier entry part

  none : Before 0
  none = record { each = λ part less. absurd (omega arith) }

  one_more : (q : EntryPart) → Before (part_number q) → (¬ BreaksEntry memory earlier entry q) → Before (part_number q + 1)
  one_more q before fine = record {
    each = λ part less. elim (cases_lt (part_number part) (part_number q)) [
      | inl lt ↦ before.each part lt
      | inr ge ↦
          let same : q ≡ part = same_part q part (omega arith) in
          subst (λ p. ¬ BreaksEntry memory earlier entry p) same fine
    ];
  }

  stops : (q : EntryPart) → Before (part_number q) → BreaksEntry memory earlier entry q → BreaksFirst memory earlier entry q
  stops q before breaks = record { breaks = breaks; before = before.each }

  after_length : LiesIn 1 31 entry.name_length → Before 1
  after_length lies = one_more NameLength none (λ b. b lies)

  pub bad_name : entry.name_length ≡ length entry.name → (part : EntryPart) → IsBadName earlier entry.name part → BreaksFirst memory earlier entry part
  bad_name e NameLength bad = stops NameLength none (λ lies. bad (subst (LiesIn 1 31) e lies))
  bad_name e NameBytes bad =
      let lies = subst (LiesIn 1 31) (sym e) bad.0 in
      stops NameBytes (after_length lies) (lies, bad.1)
  bad_name e Kind bad = absurd bad
  bad_name e ElementType bad = absurd bad
  bad_name e Rows bad = absurd bad
  bad_name e Columns bad = absurd bad
  bad_name e Place bad = absurd bad

  pub after_name : entry.name_length ≡ length entry.name → (name : List ℕ) → IsGoodName earlier entry.name name → Before 2
  after_name e name good =
      one_more NameBytes (after_length (subst (LiesIn 1 31) (sym e) good.length_is))
      (λ b. elim b.1 [ inl not_name ↦ not_name good.is_name | inr taken ↦ good.is_new taken ])

  pub bad_kind : Before 2 → (part : EntryPart) → part ≡ Kind → 1 < entry.kind → BreaksFirst memory earlier entry part
  bad_kind before part is above = subst (BreaksFirst memory earlier entry) (sym is) (stops Kind before above)

  pub after_kind : Before 2 → (output : Bool) → bit output ≡ entry.kind → Before 3
  after_kind before output is = one_more Kind before (λ above. omega (arith, bit_below output))

  pub bad_type : Before 3 → (part : EntryPart) → part ≡ ElementType → 5 < entry.elem → BreaksFirst memory earlier entry part
  bad_type before part is above = subst (BreaksFirst memory earlier entry) (sym is) (stops ElementType before above)

  pub after_type : Before 3 → (elem : Elem) → type_number elem ≡ entry.elem → Before 4
  after_type before elem is = one_more ElementType before (λ above. omega (arith, type_below elem))

  pub bad_shape : Before 4 → (part : EntryPart) → IsBadShape entry.rows entry.columns part → BreaksFirst memory earlier entry part
  bad_shape before Rows bad = stops Rows before bad
  bad_shape before Columns bad = stops Columns (one_more Rows before bad.0) bad.1
  bad_shape before NameLength bad = absurd bad
  bad_shape before NameBytes bad = absurd bad
  bad_shape before Kind bad = absurd bad
  bad_shape before ElementType bad = absurd bad
  bad_shape before Place bad = absurd bad

  pub after_shape : Before 4 → (shape : Extent) → IsExtent shape → shape ≡ record { rows = entry.rows; cols = entry.columns } → Before 6
  after_shape before shape is same =
      let rows : shape.rows ≡ entry.rows = ap (λ (s : Extent). s.rows) same in
      let columns : shape.cols ≡ entry.columns = ap (λ (s : Extent). s.cols) same in
      let product : shape.rows * shape.cols ≡ entry.rows * entry.columns = ap (λ n. n * shape.cols) rows ∙ ap (λ n. entry.rows * n) columns in
      one_more Columns (one_more Rows before (λ zero_rows. absurd (omega (arith, is.some_rows))))
      (λ b. elim b [ inl zero_columns ↦ absurd (omega (arith, is.some_cols)) | inr above ↦ absurd (omega (arith, is.within)) ])

  pub before_place : entry.name_length ≡ length entry.name → (name : List ℕ) → IsGoodName earlier entry.name name → (output : Bool) → bit output ≡ entry.kind → (elem : Elem) → type_number elem ≡ entry.elem → (shape : Extent) → IsExtent shape → shape ≡ record { rows = entry.rows; cols = entry.columns } → Before 6
  before_place long name good output kind elem type shape extent shape_is =
      after_shape (after_type (after_kind (after_name long name good) output kind) elem type) shape extent shape_is

  pub bad_place : Before 6 → BreaksEntry memory earlier entry Place → BreaksFirst memory earlier entry Place
  bad_place before bad = stops Place before bad

  pub all_right : Before 6 → (¬ BreaksEntry memory earlier entry Place) → IsRight memory earlier entry
  all_right before fine = record { each = λ part. (one_more Place before fine).each part (number_below part) }
