-- The arrays that a text denotes, and the faults of a text: each cause, with its place and its rank.
use Rattle.std.specs.Prelude.{◌≡◌, ◌≢◌, ℕ, ℤ, List, [], ◌∷◌, ◌++◌, length, Contains, Option, Some, None, Result, Ok, Err}
use Rattle.ven_io.specs.declared.token.Token.{Token}
use Rattle.ven_io.specs.declared.token.TokenFault.{TokenFault}
use Rattle.ven_io.specs.declared.token.TokenKind.TheVariants.{End}
use Rattle.ven_io.specs.Token.{bytes_of}
use Rattle.ven_io.specs.Reader.{Begins}
use Rattle.ven_io.specs.Tokens.{TokensTo, IsBehind, place_of}
use Rattle.ven_base.specs.Elem.{IsElement}
use Rattle.ven_base.specs.Extent.{Extent, IsExtent, elements_of}
use Rattle.ven_base.specs.First.{IsFirst}
use Rattle.ven_base.specs.Grid.{Grid}
use Rattle.ven_base.specs.Pairs.{Pairs, ArePairs, names_of}
use Rattle.array_file.specs.declared.fault.ArrayFault.{ArrayFault}
use Rattle.array_file.specs.declared.fault.ArrayFault.TheVariants as answers
use Rattle.array_file.specs.declared.word.Word.{Word}
use Rattle.array_file.specs.declared.word.Word.TheVariants.{Name, Number, Minus}
use Rattle.array_file.specs.Grammar.{shape_words, IsValue, AreArrays}
use Rattle.array_file.specs.Words.{language}

-- the text's words are these arrays; their names differ, and each has a shape and as many values of its type as that
-- has elements
pub record DenotesArrays (text : List ℕ) (arrays : Pairs) : Type 0 where
  pub words : List Word
  pub end : Token
  pub is_end : end.kind ≡ End
  pub behind : IsBehind language text words (Ok end)
  pub are : AreArrays words arrays
  pub whole : ArePairs arrays

-- some arrays, whatever their shapes, names and numbers of values, begin with these words
abbrev pub BeginsArrays : List Word → Type 0
BeginsArrays words = Begins AreArrays words

-- the text begins with these words
abbrev pub BeginsWith : List ℕ → List Word → Type 0
BeginsWith text words = (to : ℕ) × TokensTo language text 0 words to

-- what stands next, as a word
abbrev pub seen : List ℕ → Result Token TokenFault → Option Word
seen text (Ok next) = language.token_of next (bytes_of text next)
seen text (Err fault) = None

-- the text can't go on with what stands behind these words: a byte that begins no token, a token that is no word, a
-- word with which no arrays go on, the text's end, or a shape with a 0 or too many elements
pub data IsUnexpected (text : List ℕ) (words : List Word) (next : Result Token TokenFault) : Type 0 where
  NoToken : (fault : TokenFault) → next ≡ Err fault → IsUnexpected text words next
  NoWord : (token : Token) → next ≡ Ok token → token.kind ≢ End → seen text next ≡ None → IsUnexpected text words next
  NoArrays : (word : Word) → seen text next ≡ Some word → ¬ BeginsArrays (words ++ word ∷ [])
      → IsUnexpected text words next
  NoEnd : (token : Token) → next ≡ Ok token → token.kind ≡ End → ((arrays : Pairs) → ¬ AreArrays words arrays)
      → IsUnexpected text words next
  NoShape : (shape : Extent) → BeginsWith text (words ++ shape_words shape) → BeginsArrays (words ++ shape_words shape)
      → ¬ IsExtent shape → IsUnexpected text words next

-- the words end with this array
abbrev pub EndsWith : List Word → List ℕ → Grid → Type 0
EndsWith words name grid = (arrays : Pairs) × AreArrays words (arrays ++ (name, grid) ∷ [])

-- a name of the arrays comes again
pub record IsTwice (text : List ℕ) (words : List Word) (next : Result Token TokenFault) (name : List ℕ) : Type 0 where
  pub arrays : Pairs
  pub are : AreArrays words arrays
  pub again : seen text next ≡ Some (Name name)
  pub there : Contains (names_of arrays) name

-- behind the words stands a value that isn't of its array's type
pub record IsOutOfType (text : List ℕ) (words : List Word) : Type 0 where
  pub name : List ℕ
  pub grid : Grid
  pub own : List Word
  pub value : ℤ
  pub ends : EndsWith words name grid
  pub behind : BeginsWith text (words ++ own)
  pub is : IsValue own value
  pub outside : ¬ IsElement grid.elem value

-- a value begins with what stands next
abbrev pub BeginsValue : Option Word → Type 0
BeginsValue (Some (Number n)) = Unit {0}
BeginsValue (Some Minus) = Unit {0}
BeginsValue _ = ⊥

-- the array's values have ended, and they aren't as many as its shape has elements
pub record IsCountWrong (text : List ℕ) (words : List Word) (next : Result Token TokenFault) (name : List ℕ)
    (need have : ℕ) : Type 0 where
  pub grid : Grid
  pub ends : EndsWith words name grid
  pub no_more : ¬ BeginsValue (seen text next)
  pub need_is : need ≡ elements_of grid.shape
  pub have_is : have ≡ length grid.values
  pub differ : need ≢ have

-- why a text has a fault
pub data Cause : Type 0 where
  Unexpected : Cause
  Twice : (name : List ℕ) → Cause
  OutOfType : Cause
  CountWrong : (name : List ℕ) (need have : ℕ) → Cause

-- the order of causes at one place
abbrev pub rank_of : Cause → ℕ
rank_of Unexpected = 1
rank_of (Twice name) = 2
rank_of OutOfType = 3
rank_of (CountWrong name need have) = 4

-- the cause holds of what stands behind the words
abbrev pub Holds : List ℕ → List Word → Result Token TokenFault → Cause → Type 0
Holds text words next Unexpected = IsUnexpected text words next
Holds text words next (Twice name) = IsTwice text words next name
Holds text words next OutOfType = IsOutOfType text words
Holds text words next (CountWrong name need have) = IsCountWrong text words next name need have

-- a fault: why, and the place of the token or byte
pub record TextFault : Type 0 where
  pub cause : Cause
  pub at : ℕ

abbrev pub rank : TextFault → ℕ
rank fault = rank_of fault.cause

-- the text has the fault
pub record IsFault (text : List ℕ) (fault : TextFault) : Type 0 where
  pub words : List Word
  pub next : Result Token TokenFault
  pub behind : IsBehind language text words next
  pub place : fault.at ≡ place_of next
  pub cause : Holds text words next fault.cause

-- what is answered at a fault
abbrev pub answer_of : Cause → ℕ → ArrayFault
answer_of Unexpected at = answers.Unexpected at
answer_of (Twice name) at = answers.Twice name
answer_of OutOfType at = answers.OutOfType at
answer_of (CountWrong name need have) at = answers.CountWrong name need have

-- the answer is that of the text's first fault; out of memory is no fault of the text
pub record IsRefused (text : List ℕ) (answer : ArrayFault) : Type 0 where
  pub fault : TextFault
  pub first : IsFirst (IsFault text) (λ f. f.at) rank fault
  pub is : answer ≡ answer_of fault.cause fault.at

abbrev pub IsAnswered : List ℕ → ArrayFault → Type 0
IsAnswered text answers.Memory = Unit {0}
IsAnswered text answer = IsRefused text answer
