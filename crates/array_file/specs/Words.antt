-- The words of an array file: what each token says.
use Rattle.std.specs.Prelude.{ℕ, ◌+◌, min, nat_le, not, ◌&&◌, Bool, true, false, if◌then◌else◌, List, [], ◌∷◌, length, codes, Option, Some, None}
use Rattle.std.specs.List.{list_any}
use Rattle.std.specs.Str.{bytes_eq}
use Rattle.ven_base.specs.declared.elem.Elem.{Elem}
use Rattle.ven_base.specs.ElemWord.{elem_named}
use Rattle.ven_base.specs.Name.{name_limit, reserved_words}
use Rattle.ven_io.specs.declared.token.Token.{Token}
use Rattle.ven_io.specs.declared.token.TokenKind.{TokenKind}
use Rattle.ven_io.specs.declared.token.TokenKind.TheVariants as kinds
use Rattle.ven_io.specs.Number.{value_of, number_limit}
use Rattle.ven_io.specs.Tokens.{Language}
use Rattle.array_file.specs.declared.word.Word.{Word}
use Rattle.array_file.specs.declared.word.Word.TheVariants as words

-- the array language keeps the name token for itself
abbrev pub is_kept : List ℕ → Bool
is_kept bytes = list_any (bytes_eq bytes) reserved_words

-- a name token that is no type is a name, if it isn't kept and has at most 31 bytes
abbrev pub name_word : Option Elem → List ℕ → Option Word
name_word (Some elem) bytes = Some (words.Elem elem)
name_word None bytes = if nat_le (length bytes) name_limit && not (is_kept bytes) then Some (words.Name bytes) else None

-- one more than the greatest number of a text; each greater one counts as this, which no shape and no type has
abbrev pub too_large : ℕ
too_large = number_limit + 1

-- the signs
abbrev pub sign_word : List ℕ → Option Word
sign_word bytes =
    if bytes_eq bytes (codes "-") then Some words.Minus
    else if bytes_eq bytes (codes "[") then Some words.Open
    else if bytes_eq bytes (codes ",") then Some words.Comma
    else if bytes_eq bytes (codes "]") then Some words.Close
    else None

-- what a token says, if an array file has such a word
abbrev pub word_of : TokenKind → List ℕ → Option Word
word_of kinds.Name bytes = name_word (elem_named bytes) bytes
word_of kinds.Number bytes = Some (words.Number (min (value_of bytes) too_large))
word_of kinds.Sign bytes = sign_word bytes
word_of _ bytes = None

-- line ends are passed over as blanks are
abbrev pub passes : TokenKind → Bool
passes kinds.Line = true
passes _ = false

-- the words of a text
abbrev pub language : Language Word
language = record { passes = passes; token_of = λ (token : Token) bytes. word_of token.kind bytes }
