-- The first target that names no instruction.
use Rattle.std.proofs.Common.{◌≡◌, ◌⊎◌, inl, inr, ℕ, ◌<◌, ◌≤◌, true, false, List, length, Option, Some, None, sym, ap, subst, ◌∙◌, arith, Contains}
use Rattle.std.specs.Prelude.{slice_get, nat_lt, IsSomeAnd}
use Rattle.std.specs.Option.{option_map_or}
use Rattle.std.proofs.lemmas.Bool.{cases_lt}
use Rattle.std.proofs.lemmas.Bool.Decides.{nat_tests}
use Rattle.std.proofs.lemmas.List.{append-nil}
use Rattle.std.proofs.lemmas.Option.{slice_get-get_or, slice_get_within, get_or_from_slice_get}
use Rattle.venice_asm.specs.declared.fault.AsmFault.TheVariants as answers
use Rattle.venice_asm.specs.declared.phase.Reference.{Reference}
use Rattle.venice_asm.specs.declared.reading.Reading.{Reading}
use Rattle.venice_asm.specs.Faults.{Reads, Resolves, IsUnknown, IsTargetAt, IsRefused, AtTarget}
use Rattle.venice_asm.specs.Lines.{TextLine}
use Rattle.venice_asm.specs.Meaning.{instrs_of, labels_of, number_for, NamesInstr}
use Rattle.venice_asm.specs.Parts.{target_operand}
use Rattle.venice_asm.specs.Resolving.{names_one, NameOnes, IsLost}
use Rattle.venice_asm.specs.Steps.{Keeps, IsReferenceOf}
use Rattle.venice_asm.proofs.Registers.{some_is}

-- what a reference names is what its target names
names_target : (text : List ℕ) (lines : List TextLine) (r : Reading) (reference : Reference) → Keeps text lines None r → names_one r.labels.entries (length r.instrs.items) reference ≡ true → NamesInstr lines (target_operand reference.target)
names_target text lines r reference h is =
    by (number_for (labels_of lines) (target_operand reference.target))
    (sym (ap (λ ls. option_map_or (λ (n : ℕ). nat_lt n (length r.instrs.items)) (number_for ls (target_operand reference.target)) false) (h.labels ∙ append-nil (labels_of lines))) ∙ is)
  where
    by : (found : Option ℕ) → option_map_or (λ (n : ℕ). nat_lt n (length r.instrs.items)) found false ≡ true → IsSomeAnd found (λ n. n < length (instrs_of lines))
    by None e = absurd (cc)
    by (Some n) e = let less : n < length r.instrs.items = grind (arith, nat_tests) in let count = h.instrs.count in omega arith

names_not : (text : List ℕ) (lines : List TextLine) (r : Reading) (reference : Reference) → Keeps text lines None r → names_one r.labels.entries (length r.instrs.items) reference ≡ false → NamesInstr lines (target_operand reference.target) → ⊥
names_not text lines r reference h is names =
    by (number_for (labels_of lines) (target_operand reference.target))
    (sym (ap (λ ls. option_map_or (λ (n : ℕ). nat_lt n (length r.instrs.items)) (number_for ls (target_operand reference.target)) false) (h.labels ∙ append-nil (labels_of lines))) ∙ is) names
  where
    by : (found : Option ℕ) → option_map_or (λ (n : ℕ). nat_lt n (length r.instrs.items)) found false ≡ false → IsSomeAnd found (λ n. n < length (instrs_of lines)) → ⊥
    by None e m = absurd m
    by (Some n) e m = let count = h.instrs.count in let less : n < length r.instrs.items = omega arith in let yes : nat_lt n (length r.instrs.items) ≡ true = grind (arith, nat_tests) in let wrong : false ≡ true = sym e ∙ yes in absurd (cc)

-- where a target stands among the references
target_there : {X : Type 0} (xs : List X) (x : X) → Contains xs x → (k : ℕ) × (k < length xs) × (slice_get xs k ≡ Some x)
target_there xs x (k, less, is) = (k, less, slice_get-get_or xs k x less ∙ ap (λ y. Some y) is)

pub resolves : (text : List ℕ) (lines : List TextLine) (r : Reading) → Reads text lines → Keeps text lines None r → NameOnes r.labels.entries (length r.instrs.items) r.references.items (length r.references.items) → Resolves text lines
resolves text lines r reads h all = record { reads = reads; all = λ at u. none at u }
  where
    none : (at : ℕ) → IsUnknown text lines at → ⊥
    none at u =
        let found = h.references.all u.target at u.is_target in
        let there = target_there r.references.items found.0 found.1 in
        u.unknown (subst (NamesInstr lines) found.3 (names_target text lines r found.0 h (all there.0 found.0 there.1 there.2)))

reference_at : (text : List ℕ) (lines : List TextLine) (r : Reading) (reference : Reference) (k : ℕ) → Keeps text lines None r → slice_get r.references.items k ≡ Some reference → IsReferenceOf text lines reference
reference_at text lines r reference k h there =
    subst (IsReferenceOf text lines) (get_or_from_slice_get r.references.items k reference reference there) (h.references.each k reference (slice_get_within r.references.items k reference there))

pub lost : (text : List ℕ) (lines : List TextLine) (r : Reading) (at : ℕ) → Reads text lines → Keeps text lines None r → IsLost r.labels.entries r.references.items (length r.instrs.items) at → IsRefused text (answers.UnknownLabel at)
lost text lines r at reads h l =
    AtTarget lines at reads (record {
      here = record {
        target = target_operand l.reference.target;
        is_target = subst (IsTargetAt text lines (target_operand l.reference.target)) (sym l.place) (reference_at text lines r l.reference l.k h l.there).target;
        unknown = names_not text lines r l.reference h l.none;
      };
      first = first;
    })
  where
    first : (other : ℕ) → IsUnknown text lines other → (at < other) ⊎ ((at ≡ other) × (0 ≤ 0))
    first other u =
        let found = h.references.all u.target other u.is_target in
        let there = target_there r.references.items found.0 found.1 in
        by found.0 there.0 there.2 found.2 (λ e. u.unknown (subst (NamesInstr lines) found.3 (names_target text lines r found.0 h e))) (cases_lt there.0 l.k)
      where
        by : (reference : Reference) (j : ℕ) → slice_get r.references.items j ≡ Some reference → reference.at ≡ other → (names_one r.labels.entries (length r.instrs.items) reference ≡ true → ⊥) → (j < l.k) ⊎ (l.k ≤ j) → (at < other) ⊎ ((at ≡ other) × (0 ≤ 0))
        by reference j is place unnamed (inl below) = absurd (unnamed (l.before j reference below is))
        by reference j is place unnamed (inr above) = further (cases_lt l.k j)
          where
            further : (l.k < j) ⊎ (j ≤ l.k) → (at < other) ⊎ ((at ≡ other) × (0 ≤ 0))
            further (inl later) = let less = h.references.rising l.k j l.reference reference later l.there is in let here = l.place in inl (omega arith)
            further (inr low) =
                let same : l.k ≡ j = omega arith in
                let one : l.reference ≡ reference = some_is l.reference reference (sym l.there ∙ ap (slice_get r.references.items) same ∙ is) in
                let ats = ap (λ (x : Reference). x.at) one in
                let here = l.place in
                inr ((omega (arith, ats)), (omega arith))
