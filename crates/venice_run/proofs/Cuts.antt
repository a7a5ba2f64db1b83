-- Where a text's first line ends.
use Rattle.std.proofs.Common.{◌≡◌, ℕ, zero, suc, ◌<◌, ◌≤◌, ◌==◌, Bool, true, false, cond, List, [], ◌∷◌, take, drop, length, slice_index, refl, sym, ap, ◌∙◌, arith}
use Rattle.std.specs.List.{concat}
use Rattle.std.proofs.lemmas.Bool.{false_from_ne_true}
use Rattle.std.proofs.lemmas.List.{take_all}
use Rattle.venice_run.specs.Lines.{before_lines, text_lines}

-- no byte of these places is a line end
abbrev pub NoEndBelow : List ℕ → ℕ → Type 0
NoEndBelow text end = (k : ℕ) → 0 ≤ k → k < end → ¬ ((slice_index text k == 10) ≡ true)

below_rest : (byte : ℕ) (text : List ℕ) (end : ℕ) → NoEndBelow (byte ∷ text) (suc end) → NoEndBelow text end
below_rest byte text end none k low below = none (suc k) (omega arith) (omega arith)

pub cut_at : (text : List ℕ) (k : ℕ) → k < length text → NoEndBelow text k → (slice_index text k == 10) ≡ true
    → text_lines text ≡ take (suc k) text ∷ text_lines (drop (suc k) text)
unfolding text_lines
cut_at [] k inside before at = absurd (omega arith)
cut_at (b ∷ text) zero inside before at = ap (λ t. cond t ((b ∷ []) ∷ text_lines text) (before_lines b (text_lines text))) at
cut_at (b ∷ text) (suc k) inside before at =
    ap (λ t. cond t ((b ∷ []) ∷ text_lines text) (before_lines b (text_lines text))) (false_from_ne_true _ (before 0 (omega arith) (omega arith)))
    ∙ ap (before_lines b) (cut_at text k (omega arith) (below_rest b text k before) at)

no_cut : (b : ℕ) (text : List ℕ) → NoEndBelow (b ∷ text) (length (b ∷ text)) → text_lines (b ∷ text) ≡ (b ∷ text) ∷ []
unfolding text_lines
no_cut b [] none = ap (λ t. cond t ((b ∷ []) ∷ []) ((b ∷ []) ∷ [])) (false_from_ne_true _ (none 0 (omega arith) (omega arith)))
no_cut b (c ∷ text) none =
    ap (λ t. cond t ((b ∷ []) ∷ text_lines (c ∷ text)) (before_lines b (text_lines (c ∷ text)))) (false_from_ne_true _ (none 0 (omega arith) (omega arith)))
    ∙ ap (before_lines b) (no_cut c text (below_rest b (c ∷ text) (length (c ∷ text)) none))

drop_all : (text : List ℕ) → drop (length text) text ≡ []
drop_all [] = refl
drop_all (b ∷ text) = drop_all text

-- a text without a line end is one line
pub one_line : (text : List ℕ) → 0 < length text → NoEndBelow text (length text)
    → text_lines text ≡ take (length text) text ∷ text_lines (drop (length text) text)
unfolding text_lines
one_line [] some none = absurd (omega arith)
one_line (b ∷ text) some none =
    no_cut b text none ∙ ap (λ l. l ∷ []) (sym (take_all (length (b ∷ text)) (b ∷ text) (omega arith)))
    ∙ ap (λ l. take (length (b ∷ text)) (b ∷ text) ∷ text_lines l) (sym (drop_all text))

pub no_lines : (text : List ℕ) → length text ≡ 0 → text_lines text ≡ []
unfolding text_lines
no_lines [] e = refl
no_lines (b ∷ text) e = absurd (omega arith)

-- the lines are the text
before_lines_join : (byte : ℕ) (lines : List (List ℕ)) → concat (before_lines byte lines) ≡ byte ∷ concat lines
before_lines_join byte [] = refl
before_lines_join byte (line ∷ lines) = refl

pub lines_join : (text : List ℕ) → concat (text_lines text) ≡ text
unfolding text_lines
lines_join [] = refl
lines_join (byte ∷ rest) =
    elim (byte == 10) as (λ (t : Bool). concat (cond t ((byte ∷ []) ∷ text_lines rest) (before_lines byte (text_lines rest))) ≡ byte ∷ rest) [
      | true ↦ ap (λ (l : List ℕ). byte ∷ l) (lines_join rest)
      | false ↦ before_lines_join byte (text_lines rest) ∙ ap (λ (l : List ℕ). byte ∷ l) (lines_join rest)
    ]
