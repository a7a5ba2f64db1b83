-- The instructions with the targets of their jumps are those of the lines, labels replaced by numbers.
use Rattle.std.proofs.Common.{◌≡◌, ◌≢◌, ◌⊎◌, inl, inr, ℕ, zero, suc, Bool, true, false, List, [], ◌∷◌, length, Option, Some, None, refl, sym, ap, subst, ◌∙◌, arith, Contains}
use Rattle.std.specs.Prelude.{slice_get, slice_set, if◌then◌else◌}
use Rattle.std.specs.List.{filter}
use Rattle.std.specs.Option.{option_map_or}
use Rattle.venice_isa.specs.declared.instr.Instr.{Instr}
use Rattle.venice_isa.specs.declared.instr.Instr.TheVariants.{Bnz, Blt, Jmp}
use Rattle.venice_asm.specs.declared.phase.Reference.{Reference}
use Rattle.venice_asm.specs.Canonical.{statement_of}
use Rattle.venice_asm.specs.Lines.{Statement, TextLine}
use Rattle.venice_asm.specs.Meaning.{instrs_of, number_for}
use Rattle.venice_asm.specs.Parts.{target_operand, with_target, IsInstrOf}
use Rattle.venice_asm.specs.Resolving.{with_reference, with_references}
use Rattle.venice_asm.specs.Steps.{AreInstrs}
use Rattle.venice_asm.proofs.Registers.{none_some, some_is}
use Rattle.venice_asm.proofs.Resolved.{given_there}

-- ---- an item of a list replaced

set_same : {X : Type 0} (xs : List X) (k : ℕ) (x y : X) → slice_get xs k ≡ Some y → slice_get (slice_set xs k x) k ≡ Some x
set_same [] k x y e = absurd (none_some y e)
set_same (z ∷ xs) zero x y e = refl
set_same (z ∷ xs) (suc k) x y e = set_same xs k x y e

set_other : {X : Type 0} (xs : List X) (k j : ℕ) (x : X) → j ≢ k → slice_get (slice_set xs k x) j ≡ slice_get xs j
set_other [] zero j x other = refl
set_other [] (suc k) j x other = refl
set_other (z ∷ xs) zero zero x other = absurd (other refl)
set_other (z ∷ xs) zero (suc j) x other = refl
set_other (z ∷ xs) (suc k) zero x other = refl
set_other (z ∷ xs) (suc k) (suc j) x other = set_other xs k j x (λ e. other (ap suc e))

set_length : {X : Type 0} (xs : List X) (k : ℕ) (x : X) → length (slice_set xs k x) ≡ length xs
set_length [] zero x = refl
set_length [] (suc k) x = refl
set_length (z ∷ xs) zero x = refl
set_length (z ∷ xs) (suc k) x = ap suc (set_length xs k x)

same_or_other : (j k : ℕ) → (j ≡ k) ⊎ (j ≢ k)
same_or_other zero zero = inl refl
same_or_other zero (suc k) = inr (λ e. let wrong : zero ≡ suc k = e in omega arith)
same_or_other (suc j) zero = inr (λ e. let wrong : suc j ≡ zero = e in omega arith)
same_or_other (suc j) (suc k) = by (same_or_other j k)
  where
    by : (j ≡ k) ⊎ (j ≢ k) → (suc j ≡ suc k) ⊎ (suc j ≢ suc k)
    by (inl e) = inl (ap suc e)
    by (inr other) = inr (λ e. other (let same : suc j ≡ suc k = e in omega arith))

-- what stands in a filtered list stood in the whole one
pub filter_there : {X : Type 0} (f : X → Bool) (xs : List X) (k : ℕ) (x : X) → slice_get (filter f xs) k ≡ Some x → (f x ≡ true) × Contains xs x
filter_there f [] k x e = absurd (none_some x e)
filter_there f (y ∷ xs) k x e = by (λ j g. filter_there f xs j x g) (f y) refl k e
  where
    by : ((j : ℕ) → slice_get (filter f xs) j ≡ Some x → (f x ≡ true) × Contains xs x) → (b : Bool) → f y ≡ b → (j : ℕ) → slice_get (if b then y ∷ filter f xs else filter f xs) j ≡ Some x → (f x ≡ true) × Contains (y ∷ xs) x
    by more false is j g = let (holds, (m, less, same)) = more j g in (holds, (suc m, omega arith, same))
    by more true is zero g = (ap f (sym (some_is y x g)) ∙ is, (0, omega arith, some_is y x g))
    by more true is (suc j) g = let (holds, (m, less, same)) = more j g in (holds, (suc m, omega arith, same))

-- ---- one reference

target_twice : (instr : Instr) (n m : ℕ) → with_target (with_target instr n) m ≡ with_target instr m
target_twice (Bnz a to) n m = refl
target_twice (Blt a b to) n m = refl
target_twice (Jmp to) n m = refl
target_twice instr n m = refl

set_instrs : (lines : List TextLine) (instrs : List Instr) (k n : ℕ) (jump : Instr) → AreInstrs lines instrs → slice_get instrs k ≡ Some jump → AreInstrs lines (slice_set instrs k (with_target jump n))
set_instrs lines instrs k n jump h there = record {
  count = set_length instrs k (with_target jump n) ∙ h.count;
  each = λ j s instr is at. by j s instr is at (same_or_other j k);
}
  where
    by : (j : ℕ) (s : Statement) (instr : Instr) → slice_get (instrs_of lines) j ≡ Some s → slice_get (slice_set instrs k (with_target jump n)) j ≡ Some instr → (j ≡ k) ⊎ (j ≢ k) → IsInstrOf s.head s.operands instr
    by j s instr is at (inr other) = h.each j s instr is (sym (set_other instrs k j (with_target jump n) other) ∙ at)
    by j s instr is at (inl same) =
        let own : with_target jump n ≡ instr = some_is _ _ (sym (set_same instrs k (with_target jump n) jump there) ∙ ap (slice_get (slice_set instrs k (with_target jump n))) (sym same) ∙ at) in
        let before = h.each j s jump is (ap (slice_get instrs) same ∙ there) in
        subst (IsInstrOf s.head s.operands) own (λ m. ap statement_of (target_twice jump n m) ∙ before m)

reference_instrs : (lines : List TextLine) (labels : List (List ℕ × ℕ)) (reference : Reference) (instrs : List Instr) → AreInstrs lines instrs → AreInstrs lines (with_reference labels reference instrs)
reference_instrs lines labels reference instrs h = by (number_for labels (target_operand reference.target)) (slice_get instrs reference.instr) refl
  where
    by : (found : Option ℕ) (here : Option Instr) → slice_get instrs reference.instr ≡ here → AreInstrs lines (option_map_or (λ (n : ℕ). option_map_or (λ (jump : Instr). slice_set instrs reference.instr (with_target jump n)) here instrs) found instrs)
    by None here is = h
    by (Some n) None is = h
    by (Some n) (Some jump) is = set_instrs lines instrs reference.instr n jump h is

reference_other : (labels : List (List ℕ × ℕ)) (reference : Reference) (instrs : List Instr) (k : ℕ) → k ≢ reference.instr → slice_get (with_reference labels reference instrs) k ≡ slice_get instrs k
reference_other labels reference instrs k other = by (number_for labels (target_operand reference.target)) (slice_get instrs reference.instr)
  where
    by : (found : Option ℕ) (here : Option Instr) → slice_get (option_map_or (λ (n : ℕ). option_map_or (λ (jump : Instr). slice_set instrs reference.instr (with_target jump n)) here instrs) found instrs) k ≡ slice_get instrs k
    by None here = refl
    by (Some n) None = refl
    by (Some n) (Some jump) = set_other instrs reference.instr k (with_target jump n) other

-- the instruction at a place goes to this target, if it goes anywhere
abbrev IsGiven : ℕ → ℕ → List Instr → Type 0
IsGiven k n instrs = (instr : Instr) → slice_get instrs k ≡ Some instr → with_target instr n ≡ instr

reference_here : (labels : List (List ℕ × ℕ)) (reference : Reference) (instrs : List Instr) (n : ℕ) → number_for labels (target_operand reference.target) ≡ Some n → IsGiven reference.instr n (with_reference labels reference instrs)
reference_here labels reference instrs n number instr at = by (slice_get instrs reference.instr) refl
  where
    by : (here : Option Instr) → slice_get instrs reference.instr ≡ here → with_target instr n ≡ instr
    by None is =
        let whole : with_reference labels reference instrs ≡ instrs =
        ap (λ (found : Option ℕ). option_map_or (λ (m : ℕ). option_map_or (λ (j : Instr). slice_set instrs reference.instr (with_target j m)) (slice_get instrs reference.instr) instrs) found instrs) number
        ∙ ap (λ (found : Option Instr). option_map_or (λ (j : Instr). slice_set instrs reference.instr (with_target j n)) found instrs) is in
        absurd (none_some instr (sym is ∙ ap (λ l. slice_get l reference.instr) (sym whole) ∙ at))
    by (Some jump) is =
        let own : with_target jump n ≡ instr = some_is _ _ (sym (set_same instrs reference.instr (with_target jump n) jump is) ∙ ap (λ l. slice_get l reference.instr) (sym (given_there labels reference n instrs jump number is)) ∙ at) in
        subst (λ i. with_target i n ≡ i) own (target_twice jump n n)

-- ---- all references

pub references_instrs : (lines : List TextLine) (labels : List (List ℕ × ℕ)) (more : List Reference) (instrs : List Instr) → AreInstrs lines instrs → AreInstrs lines (with_references labels more instrs)
references_instrs lines labels [] instrs h = h
references_instrs lines labels (reference ∷ more) instrs h = references_instrs lines labels more (with_reference labels reference instrs) (reference_instrs lines labels reference instrs h)

-- a reference of the instruction comes, and each of its references gives it the same target
abbrev Agree : List (List ℕ × ℕ) → ℕ → ℕ → List Reference → Type 0
Agree labels k n references = (reference : Reference) → Contains references reference → reference.instr ≡ k → number_for labels (target_operand reference.target) ≡ Some n

contains_more : {X : Type 0} (x y : X) (xs : List X) → Contains xs x → Contains (y ∷ xs) x
contains_more x y xs (k, less, is) = (suc k, omega arith, is)

pub given_on : (labels : List (List ℕ × ℕ)) (k n : ℕ) (more : List Reference) (instrs : List Instr) → Agree labels k n more → (IsGiven k n instrs ⊎ ((reference : Reference) × Contains more reference × (reference.instr ≡ k))) → IsGiven k n (with_references labels more instrs)
given_on labels k n [] instrs agree (inl given) = given
given_on labels k n [] instrs agree (inr (reference, (m, less, is), at)) = absurd (omega arith)
given_on labels k n (reference ∷ more) instrs agree h =
    given_on labels k n more (with_reference labels reference instrs) (λ other there at. agree other (contains_more other reference more there) at) (by (same_or_other k reference.instr) h)
  where
    by : (k ≡ reference.instr) ⊎ (k ≢ reference.instr) → (IsGiven k n instrs ⊎ ((r : Reference) × Contains (reference ∷ more) r × (r.instr ≡ k))) → IsGiven k n (with_reference labels reference instrs) ⊎ ((r : Reference) × Contains more r × (r.instr ≡ k))
    by (inl same) g = inl (subst (λ j. IsGiven j n (with_reference labels reference instrs)) (sym same) (reference_here labels reference instrs n (agree reference (0, omega arith, refl) (sym same))))
    by (inr other) (inl given) = inl (λ instr at. given instr (sym (reference_other labels reference instrs k other) ∙ at))
    by (inr other) (inr (r, (zero, less, is), at)) = absurd (other (sym at ∙ ap (λ (x : Reference). x.instr) (sym is)))
    by (inr other) (inr (r, (suc m, less, is), at)) = inr (r, (m, omega arith, is), at)
