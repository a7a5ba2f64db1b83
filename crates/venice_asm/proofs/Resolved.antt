-- The targets of jumps, one reference after another.
use Rattle.std.proofs.Common.{◌≡◌, ◌⊎◌, inl, inr, ℕ, zero, suc, ◌+◌, ◌<◌, ◌≤◌, true, false, List, [], ◌∷◌, ◌++◌, length, take, Option, Some, None, refl, sym, ap, subst, ◌∙◌, arith}
use Rattle.std.specs.Prelude.{slice_get, slice_set, nat_lt, IsTrue}
use Rattle.std.specs.Option.{option_map_or}
use Rattle.std.proofs.lemmas.Bool.{cases_lt}
use Rattle.venice_isa.specs.declared.instr.Instr.{Instr}
use Rattle.venice_asm.specs.declared.phase.Reference.{Reference}
use Rattle.venice_asm.specs.Meaning.{number_for}
use Rattle.venice_asm.specs.Parts.{target_operand, with_target}
use Rattle.venice_asm.specs.Resolving.{names_one, with_reference, with_references, NameOnes}
use Rattle.venice_asm.proofs.Tables.{take_push}
use Rattle.venice_asm.proofs.Registers.{some_is}
use Rattle.std.proofs.lemmas.Option.{slice_get-get_or}
use Rattle.std.specs.Prelude.{get_or}
use Rattle.std.proofs.lemmas.Bool.Decides.{nat_tests}

references_push : (labels : List (List ℕ × ℕ)) (front : List Reference) (reference : Reference) (instrs : List Instr) → with_references labels (front ++ reference ∷ []) instrs ≡ with_reference labels reference (with_references labels front instrs)
references_push labels [] reference instrs = refl
references_push labels (one ∷ front) reference instrs = references_push labels front reference (with_reference labels one instrs)

pub one_more : (labels : List (List ℕ × ℕ)) (references : List Reference) (k : ℕ) (reference : Reference) (old now : List Instr) → slice_get references k ≡ Some reference → now ≡ with_references labels (take k references) old → with_references labels (take (k + 1) references) old ≡ with_reference labels reference now
one_more labels references k reference old now there is =
    ap (λ rs. with_references labels rs old) (take_push references k reference there) ∙ references_push labels (take k references) reference old ∙ ap (with_reference labels reference) (sym is)

pub names_more : (labels : List (List ℕ × ℕ)) (count : ℕ) (references : List Reference) (k : ℕ) (reference : Reference) → slice_get references k ≡ Some reference → NameOnes labels count references k → IsTrue (names_one labels count reference) → NameOnes labels count references (k + 1)
names_more labels count references k reference there before here j other less is = by (cases_lt j k)
  where
    by : (j < k) ⊎ (k ≤ j) → IsTrue (names_one labels count other)
    by (inl below) = before j other below is
    by (inr above) =
        let same : k ≡ j = omega arith in
        subst (λ r. IsTrue (names_one labels count r)) (some_is reference other (sym there ∙ ap (slice_get references) same ∙ is)) here

pub number_names : (labels : List (List ℕ × ℕ)) (count : ℕ) (reference : Reference) (n : ℕ) → number_for labels (target_operand reference.target) ≡ Some n → n < count → names_one labels count reference ≡ true
number_names labels count reference n is less =
    let small : nat_lt n count ≡ true = grind (arith, nat_tests) in
    ap (λ (found : Option ℕ). option_map_or (λ (m : ℕ). nat_lt m count) found false) is ∙ small

pub item_there : {X : Type 0} (xs : List X) (k : ℕ) (x d : X) → k < length xs → x ≡ get_or xs k d → slice_get xs k ≡ Some x
item_there xs k x d less is = slice_get-get_or xs k d less ∙ ap (λ y. Some y) (sym is)

pub given_there : (labels : List (List ℕ × ℕ)) (reference : Reference) (n : ℕ) (now : List Instr) (jump : Instr) → number_for labels (target_operand reference.target) ≡ Some n → slice_get now reference.instr ≡ Some jump → with_reference labels reference now ≡ slice_set now reference.instr (with_target jump n)
given_there labels reference n now jump number there =
    ap (λ (found : Option ℕ). option_map_or (λ (m : ℕ). option_map_or (λ (j : Instr). slice_set now reference.instr (with_target j m)) (slice_get now reference.instr) now) found now) number
    ∙ ap (λ (found : Option Instr). option_map_or (λ (j : Instr). slice_set now reference.instr (with_target j n)) found now) there

past_end : {X : Type 0} (xs : List X) (k : ℕ) → length xs ≤ k → slice_get xs k ≡ None
past_end [] zero far = refl
past_end [] (suc k) far = refl
past_end (x ∷ xs) zero far = absurd (omega arith)
past_end (x ∷ xs) (suc k) far = past_end xs k (omega arith)

pub given_past : (labels : List (List ℕ × ℕ)) (reference : Reference) (n : ℕ) (now : List Instr) → number_for labels (target_operand reference.target) ≡ Some n → length now ≤ reference.instr → with_reference labels reference now ≡ now
given_past labels reference n now number far =
    ap (λ (found : Option ℕ). option_map_or (λ (m : ℕ). option_map_or (λ (j : Instr). slice_set now reference.instr (with_target j m)) (slice_get now reference.instr) now) found now) number
    ∙ ap (λ (found : Option Instr). option_map_or (λ (j : Instr). slice_set now reference.instr (with_target j n)) found now) (past_end now reference.instr far)
