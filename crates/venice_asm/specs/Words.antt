-- The words of an assembler text: what each token says.
use Rattle.std.specs.Prelude.{ℕ, ◌+◌, min, nat_le, false, if◌then◌else◌, List, length, codes, Option, Some, None}
use Rattle.std.specs.Str.{bytes_eq}
use Rattle.ven_base.specs.Name.{name_limit}
use Rattle.ven_io.specs.declared.token.Token.{Token}
use Rattle.ven_io.specs.declared.token.TokenKind.{TokenKind}
use Rattle.ven_io.specs.declared.token.TokenKind.TheVariants as kinds
use Rattle.ven_io.specs.Number.{value_of, number_limit}
use Rattle.ven_io.specs.Tokens.{Language}
use Rattle.venice_asm.specs.declared.word.Word.{Word}
use Rattle.venice_asm.specs.declared.word.Word.TheVariants as words

-- a name token is a name, if it has at most 31 bytes
abbrev pub name_word : List ℕ → Option Word
name_word bytes = if nat_le (length bytes) name_limit then Some (words.Name bytes) else None

-- one more than the greatest number of a text; each greater one counts as this, which is in no range
abbrev pub too_large : ℕ
too_large = number_limit + 1

-- the signs
abbrev pub sign_word : List ℕ → Option Word
sign_word bytes =
    if bytes_eq bytes (codes ":") then Some words.Colon
    else if bytes_eq bytes (codes "[") then Some words.Open
    else if bytes_eq bytes (codes ",") then Some words.Comma
    else if bytes_eq bytes (codes "]") then Some words.Close
    else None

-- what a token says, if an assembler text has such a word; the text's end ends a line too
abbrev pub word_of : TokenKind → List ℕ → Option Word
word_of kinds.Name bytes = name_word bytes
word_of kinds.Number bytes = Some (words.Number (min (value_of bytes) too_large))
word_of kinds.Sign bytes = sign_word bytes
word_of kinds.Line bytes = Some words.Line
word_of kinds.End bytes = Some words.Line

-- the words of a text; none is passed over
abbrev pub language : Language Word
language = record { passes = λ (kind : TokenKind). false; token_of = λ (token : Token) bytes. word_of token.kind bytes }
