-- The first fault of bytes is one.
use Rattle.std.proofs.Common.{◌≡◌, ◌⊎◌, ℕ, ◌+◌, ◌≤◌, List, refl, sym, ap, ◌∙◌, subst, inl, inr, arith}
use Rattle.ven_base.proofs.Firsts.{one_place, one_rank}
use Rattle.venice_isa.specs.declared.instr.Instr.{Instr}
use Rattle.image_loader.specs.declared.fault.ImageFault.{ImageFault}
use Rattle.image_loader.specs.declared.fault.ImageFault.TheVariants.{Truncated, BadMagic, BadTable, BadInstr, BadTarget, NoHalt, Trailing, Memory}
use Rattle.image_loader.specs.Table.{TableField, HeaderField, EntryField, field_place}
use Rattle.image_loader.specs.Reading.{header_in, entries_in, code_place, instr_place}
use Rattle.image_loader.specs.Faults.{Slot, MagicByte, Field, Instruction, slot_place, slot_size, IsThere, IsWrong, IsWrongSlot, Spells, Defect, CutOff, Wrong, Endless, Longer, IsDefect, defect_place, defect_rank, fault_of, IsFirstFault}
use Rattle.image_loader.proofs.Slots.{header_range, entry_from, entry_to, field_to, slot_end, wrong_size}

module _ (bytes : List ℕ) where
  magic_fault : (i : ℕ) (fault : ImageFault) → IsWrong bytes (MagicByte i) fault → fault ≡ BadMagic
  magic_fault i (Truncated at) w = absurd w
  magic_fault i BadMagic w = refl
  magic_fault i (BadTable at) w = absurd w
  magic_fault i (BadInstr at) w = absurd w
  magic_fault i (BadTarget at) w = absurd w
  magic_fault i NoHalt w = absurd w
  magic_fault i (Trailing at) w = absurd w
  magic_fault i Memory w = absurd w

  field_fault : (field : TableField) (fault : ImageFault) → IsWrong bytes (Field field) fault → fault ≡ BadTable (field_place (entries_in bytes) field)
  field_fault field (Truncated at) w = absurd w
  field_fault field BadMagic w = absurd w
  field_fault field (BadTable at) w = ap (λ n. BadTable n) w.1
  field_fault field (BadInstr at) w = absurd w
  field_fault field (BadTarget at) w = absurd w
  field_fault field NoHalt w = absurd w
  field_fault field (Trailing at) w = absurd w
  field_fault field Memory w = absurd w

  -- either no instruction is spelled, or one whose target is wrong
  abbrev NoneSpelled : ℕ → Type 0
  NoneSpelled k = (instr : Instr) → ¬ Spells bytes k instr

  abbrev SomeSpelled : ℕ → Type 0
  SomeSpelled k = (instr : Instr) × Spells bytes k instr

  instr_fault : (k : ℕ) (fault : ImageFault) → IsWrong bytes (Instruction k) fault
      → ((fault ≡ BadInstr (instr_place bytes k)) × NoneSpelled k) ⊎ ((fault ≡ BadTarget (instr_place bytes k)) × SomeSpelled k)
  instr_fault k (Truncated at) w = absurd w
  instr_fault k BadMagic w = absurd w
  instr_fault k (BadTable at) w = absurd w
  instr_fault k (BadInstr at) w = inl (ap (λ n. BadInstr n) w.1, w.0)
  instr_fault k (BadTarget at) w = inr (ap (λ n. BadTarget n) w.1, (w.0.0, w.0.1))
  instr_fault k NoHalt w = absurd w
  instr_fault k (Trailing at) w = absurd w
  instr_fault k Memory w = absurd w

  same_instr_fault : (k : ℕ) (fault other : ImageFault) → IsWrong bytes (Instruction k) fault → IsWrong bytes (Instruction k) other → fault ≡ other
  same_instr_fault k fault other w v = elim (instr_fault k fault w) [
    | inl a ↦ elim (instr_fault k other v) [ inl b ↦ a.0 ∙ sym b.0 | inr b ↦ absurd (a.1 b.1.0 b.1.1) ]
    | inr a ↦ elim (instr_fault k other v) [ inl b ↦ absurd (b.1 a.1.0 a.1.1) | inr b ↦ a.0 ∙ sym b.0 ]
  ]

  -- where the slots of each kind stand
  field_from : (field : TableField) → 4 ≤ slot_place bytes (Field field)
  field_from (HeaderField part) = (header_range bytes part).0
  field_from (EntryField k part) = omega (arith, entry_from bytes k)

  field_before_code : (field : TableField) → IsThere bytes (Field field) → slot_place bytes (Field field) + slot_size bytes (Field field) ≤ code_place bytes
  field_before_code (HeaderField part) there = omega (arith, header_range bytes part, entry_from bytes (header_in bytes).array_count)
  field_before_code (EntryField k part) there = omega (arith, field_to bytes k part there, entry_to bytes k there)

  same_wrong : (slot twin : Slot) (fault other : ImageFault) → IsWrongSlot bytes slot fault → IsWrongSlot bytes twin other → slot_place bytes slot ≡ slot_place bytes twin → fault ≡ other
  same_wrong (MagicByte i) (MagicByte j) fault other w v same = magic_fault i fault w.wrong ∙ sym (magic_fault j other v.wrong)
  same_wrong (MagicByte i) (Field field) fault other w v same = absurd (omega (arith, w.there, same, field_from field))
  same_wrong (MagicByte i) (Instruction k) fault other w v same = absurd (omega (arith, w.there, same, entry_from bytes (header_in bytes).array_count))
  same_wrong (Field field) (MagicByte j) fault other w v same = absurd (omega (arith, v.there, same, field_from field))
  same_wrong (Field field) (Field twin) fault other w v same = field_fault field fault w.wrong ∙ ap (λ n. BadTable n) same ∙ sym (field_fault twin other v.wrong)
  same_wrong (Field field) (Instruction k) fault other w v same = absurd (omega (arith, same, field_before_code field w.there, wrong_size bytes (Field field) fault w.wrong))
  same_wrong (Instruction k) (MagicByte j) fault other w v same = absurd (omega (arith, v.there, same, entry_from bytes (header_in bytes).array_count))
  same_wrong (Instruction k) (Field twin) fault other w v same = absurd (omega (arith, same, field_before_code twin v.there, wrong_size bytes (Field twin) other v.wrong))
  same_wrong (Instruction k) (Instruction j) fault other w v same =
      let one : j ≡ k = omega (arith, same) in
      same_instr_fault k fault other w.wrong (subst (λ n. IsWrong bytes (Instruction n) other) one v.wrong)

  same_fault : (d e : Defect) → IsDefect bytes d → IsDefect bytes e → defect_place bytes d ≡ defect_place bytes e → defect_rank d ≡ defect_rank e → fault_of bytes d ≡ fault_of bytes e
  same_fault CutOff CutOff w v same rank = refl
  same_fault CutOff (Wrong slot fault) w v same rank = absurd (omega (arith, same, v.whole, wrong_size bytes slot fault v.wrong))
  same_fault CutOff Endless w v same rank = absurd (omega (arith, w, v.0))
  same_fault CutOff Longer w v same rank = absurd (omega (arith, w, v))
  same_fault (Wrong slot fault) CutOff w v same rank = absurd (omega (arith, same, w.whole, wrong_size bytes slot fault w.wrong))
  same_fault (Wrong slot fault) (Wrong twin other) w v same rank = same_wrong slot twin fault other w v same
  same_fault (Wrong slot fault) Endless w v same rank = absurd (omega (arith, same, slot_end bytes slot w.there, wrong_size bytes slot fault w.wrong))
  same_fault (Wrong slot fault) Longer w v same rank = absurd (omega (arith, rank))
  same_fault Endless CutOff w v same rank = absurd (omega (arith, w.0, v))
  same_fault Endless (Wrong twin other) w v same rank = absurd (omega (arith, same, slot_end bytes twin v.there, wrong_size bytes twin other v.wrong))
  same_fault Endless Endless w v same rank = refl
  same_fault Endless Longer w v same rank = absurd (omega (arith, rank))
  same_fault Longer CutOff w v same rank = absurd (omega (arith, rank))
  same_fault Longer (Wrong twin other) w v same rank = absurd (omega (arith, rank))
  same_fault Longer Endless w v same rank = absurd (omega (arith, rank))
  same_fault Longer Longer w v same rank = refl

  pub one_fault : (fault other : ImageFault) → IsFirstFault bytes fault → IsFirstFault bytes other → fault ≡ other
  one_fault fault other f g =
      f.same
      ∙ same_fault f.defect g.defect f.first.here g.first.here
      (one_place (IsDefect bytes) (defect_place bytes) defect_rank f.defect g.defect f.first g.first)
      (one_rank (IsDefect bytes) (defect_place bytes) defect_rank f.defect g.defect f.first g.first)
      ∙ sym g.same
