-- Inner: what the targets of jumps become.
use Rattle.std.specs.Prelude.{◌≡◌, ℕ, ◌<◌, Bool, false, IsTrue, List, [], ◌∷◌, length, nat_lt, slice_get, slice_set, Some}
use Rattle.std.specs.Option.{option_map_or}
use Rattle.venice_isa.specs.declared.instr.Instr.{Instr}
use Rattle.venice_asm.specs.declared.fault.AsmFault.{AsmFault}
use Rattle.venice_asm.specs.declared.fault.AsmFault.TheVariants as answers
use Rattle.venice_asm.specs.declared.phase.Reference.{Reference}
use Rattle.venice_asm.specs.Meaning.{number_for}
use Rattle.venice_asm.specs.Parts.{target_operand, with_target}

-- the reference names one of so many instructions
abbrev pub names_one : List (List ℕ × ℕ) → ℕ → Reference → Bool
names_one labels count reference =
    option_map_or (λ (n : ℕ). nat_lt n count) (number_for labels (target_operand reference.target)) false

-- the instructions, where the reference's jump has its target
abbrev pub with_reference : List (List ℕ × ℕ) → Reference → List Instr → List Instr
with_reference labels reference instrs =
    option_map_or
    (λ (n : ℕ). option_map_or (λ (jump : Instr). slice_set instrs reference.instr (with_target jump n))
    (slice_get instrs reference.instr) instrs)
    (number_for labels (target_operand reference.target)) instrs

-- where all the references' jumps have theirs
abbrev pub with_references : List (List ℕ × ℕ) → List Reference → List Instr → List Instr
with_references labels [] instrs = instrs
with_references labels (reference ∷ more) instrs = with_references labels more (with_reference labels reference instrs)

-- the first references name instructions
abbrev pub NameOnes : List (List ℕ × ℕ) → ℕ → List Reference → ℕ → Type 0
NameOnes labels count references end =
    (k : ℕ) (reference : Reference) → k < end → slice_get references k ≡ Some reference
    → IsTrue (names_one labels count reference)

pub record AreResolved (labels : List (List ℕ × ℕ)) (references : List Reference) (old new : List Instr) : Type 0 where
  pub all : NameOnes labels (length old) references (length references)
  pub is : new ≡ with_references labels references old

-- the first reference that names no instruction
pub record IsLost (labels : List (List ℕ × ℕ)) (references : List Reference) (count at : ℕ) : Type 0 where
  pub k : ℕ
  pub reference : Reference
  pub there : slice_get references k ≡ Some reference
  pub before : NameOnes labels count references k
  pub none : names_one labels count reference ≡ false
  pub place : at ≡ reference.at

abbrev pub LosesTarget : List (List ℕ × ℕ) → List Reference → List Instr → AsmFault → Type 0
LosesTarget labels references old (answers.UnknownLabel at) = IsLost labels references (length old) at
LosesTarget labels references old fault = ⊥
