-- The lines of a text, each with its line end; and texts that are made item by item.
use Rattle.std.specs.Prelude.{ℕ, ◌+◌, List, [], ◌∷◌, ◌++◌, ◌==◌, if◌then◌else◌}
use Rattle.ven_io.specs.Token.{line_end}

-- the byte before the first of the lines
abbrev pub before_lines : ℕ → List (List ℕ) → List (List ℕ)
before_lines byte [] = (byte ∷ []) ∷ []
before_lines byte (line ∷ lines) = (byte ∷ line) ∷ lines

-- the text cut behind each line end
unfoldable pub text_lines : List ℕ → List (List ℕ)
text_lines [] = []
text_lines (byte ∷ rest) =
    if byte == line_end then (byte ∷ []) ∷ text_lines rest else before_lines byte (text_lines rest)

-- the lines of the items of a list, one item after another; their numbers count up from the first one's
abbrev pub lines_from : {A : Type 0} → (ℕ → A → List ℕ) → ℕ → List A → List ℕ
lines_from lines_of k [] = []
lines_from lines_of k (item ∷ items) = lines_of k item ++ lines_from lines_of (k + 1) items
