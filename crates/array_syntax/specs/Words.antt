-- The words of the language: what each token says.
use Rattle.std.specs.Prelude.{ℕ, ◌+◌, ◌≤◌, Bool, true, false, nat_le, if◌then◌else◌, List, [], ◌∷◌, length, codes, Option, Some, None, option_map}
use Rattle.std.specs.Str.{bytes_eq}
use Rattle.ven_io.specs.declared.token.TokenKind.{TokenKind}
use Rattle.ven_io.specs.declared.token.TokenKind.TheVariants as token_kinds
use Rattle.ven_io.specs.declared.token.Token.{Token as TextToken}
use Rattle.ven_io.specs.Number.{value_of, number_limit}
use Rattle.ven_io.specs.Tokens.{Language}
use Rattle.ven_base.specs.declared.elem.Elem.TheVariants as elems
use Rattle.ven_base.specs.declared.ops.Fold.TheVariants as folds
use Rattle.ven_base.specs.Name.{name_limit}
use Rattle.array_syntax.specs.declared.word.Binding.TheVariants as bindings
use Rattle.array_syntax.specs.declared.word.Callee.TheVariants as callees
use Rattle.array_syntax.specs.declared.word.Operator.TheVariants as operators
use Rattle.array_syntax.specs.declared.word.Token.{Token}
use Rattle.array_syntax.specs.declared.word.Word.{Word}
use Rattle.array_syntax.specs.declared.word.Word.TheVariants as words

-- the words that the language keeps for itself
abbrev pub keywords : List (List ℕ × Word)
keywords =
    (codes "input", words.Input)
    ∷ (codes "let", words.Bind bindings.Let)
    ∷ (codes "output", words.Bind bindings.Output)
    ∷ (codes "u8", words.Call (callees.Cast elems.U8))
    ∷ (codes "i8", words.Call (callees.Cast elems.I8))
    ∷ (codes "u16", words.Call (callees.Cast elems.U16))
    ∷ (codes "i16", words.Call (callees.Cast elems.I16))
    ∷ (codes "u32", words.Call (callees.Cast elems.U32))
    ∷ (codes "i32", words.Call (callees.Cast elems.I32))
    ∷ (codes "abs", words.Call callees.Abs)
    ∷ (codes "rowsum", words.Call (callees.RowFold folds.Sum))
    ∷ (codes "rowmin", words.Call (callees.RowFold folds.Min))
    ∷ (codes "rowmax", words.Call (callees.RowFold folds.Max))
    ∷ (codes "sum", words.Call (callees.Fold folds.Sum))
    ∷ (codes "minval", words.Call (callees.Fold folds.Min))
    ∷ (codes "maxval", words.Call (callees.Fold folds.Max))
    ∷ (codes "min", words.Call callees.Min)
    ∷ (codes "max", words.Call callees.Max)
    ∷ (codes "select", words.Call callees.Select)
    ∷ (codes "shift", words.Call callees.Shift)
    ∷ (codes "rotate", words.Call callees.Rotate)
    ∷ (codes "section", words.Call callees.Section)
    ∷ (codes "stretch", words.Call callees.Stretch)
    ∷ (codes "transpose", words.Call callees.Transpose)
    ∷ (codes "sadd", words.Call callees.SatAdd)
    ∷ (codes "ssub", words.Call callees.SatSub)
    ∷ []

-- the signs
abbrev pub sign_words : List (List ℕ × Word)
sign_words =
    (codes "<<", words.Operator operators.ShiftLeft)
    ∷ (codes ">>", words.Operator operators.ShiftRight)
    ∷ (codes "==", words.Operator operators.Equal)
    ∷ (codes "!=", words.Operator operators.NotEqual)
    ∷ (codes "<=", words.Operator operators.LessOrEqual)
    ∷ (codes ">=", words.Operator operators.GreaterOrEqual)
    ∷ (codes "+", words.Operator operators.Plus)
    ∷ (codes "-", words.Operator operators.Minus)
    ∷ (codes "*", words.Operator operators.Times)
    ∷ (codes "&", words.Operator operators.And)
    ∷ (codes "|", words.Operator operators.Or)
    ∷ (codes "^", words.Operator operators.Xor)
    ∷ (codes "~", words.Tilde)
    ∷ (codes "(", words.Open)
    ∷ (codes ")", words.Close)
    ∷ (codes "[", words.OpenSquare)
    ∷ (codes "]", words.CloseSquare)
    ∷ (codes ",", words.Comma)
    ∷ (codes ";", words.Semicolon)
    ∷ (codes "=", words.Assign)
    ∷ (codes "<", words.Operator operators.Less)
    ∷ (codes ">", words.Operator operators.Greater)
    ∷ (codes ":", words.Colon)
    ∷ []

-- the word beside the bytes, if they stand in the table
abbrev pub look_up : List (List ℕ × Word) → List ℕ → Option Word
look_up [] bytes = None
look_up (entry ∷ table) bytes = if bytes_eq bytes entry.0 then Some entry.1 else look_up table bytes

-- a name that isn't kept is a name where it isn't too long
abbrev pub name_word : Option Word → List ℕ → Option Word
name_word (Some word) bytes = Some word
name_word None bytes = if nat_le (length bytes) name_limit then Some (words.Name bytes) else None

-- what a token says, if it isn't too long or too large
abbrev pub word_of : TokenKind → List ℕ → Option Word
word_of token_kinds.Name bytes = name_word (look_up keywords bytes) bytes
word_of token_kinds.Number bytes =
    if nat_le (value_of bytes) number_limit then Some (words.Number (value_of bytes)) else None
word_of token_kinds.Sign bytes = look_up sign_words bytes
word_of _ bytes = None

-- line ends are passed over as blanks are
abbrev pub passes : TokenKind → Bool
passes token_kinds.Line = true
passes _ = false

-- the tokens of the language
abbrev pub language : Language Token
language = record {
  passes = passes;
  token_of = λ (token : TextToken) bytes. option_map (λ word. record { at = token.start; word = word })
      (word_of token.kind bytes);
}
