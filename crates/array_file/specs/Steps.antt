-- Inner: what has been read of a text, and what a step gives or refuses.
use Rattle.std.specs.Prelude.{◌≡◌, ◌≢◌, ◌⊎◌, ℕ, ◌<◌, ◌≤◌, ℤ, pos, neg_ℤ, List, [], ◌∷◌, ◌++◌, length, Contains, Bool, true, false, ◌^◌, Option, Some, None, Result, Ok, Err}
use Rattle.ven_io.specs.declared.token.Token.{Token}
use Rattle.ven_io.specs.declared.token.TokenFault.{TokenFault}
use Rattle.ven_io.specs.declared.token.TokenKind.TheVariants.{End}
use Rattle.ven_io.specs.Token.{NextIs}
use Rattle.ven_io.specs.Tokens.{TokensTo, IsKept, IsBehind, place_of}
use Rattle.ven_base.specs.Elem.{IsElement}
use Rattle.ven_base.specs.Extent.{IsExtent, elements_of}
use Rattle.ven_base.specs.Grid.{Grid}
use Rattle.ven_base.specs.Pairs.{Pairs, ArePairs, names_of}
use Rattle.array_file.specs.declared.fault.ArrayFault.{ArrayFault}
use Rattle.array_file.specs.declared.fault.ArrayFault.TheVariants as answers
use Rattle.array_file.specs.declared.phase.Heading.{Heading}
use Rattle.array_file.specs.declared.phase.Phase.{Phase}
use Rattle.array_file.specs.declared.phase.Phase.TheVariants as phases
use Rattle.array_file.specs.declared.reading.Reading.{Reading}
use Rattle.array_file.specs.declared.word.Word.{Word}
use Rattle.array_file.specs.declared.word.Word.TheVariants as words
use Rattle.array_file.specs.Faults.{DenotesArrays}
use Rattle.array_file.specs.Reading.{State, Begin, AfterName, AfterType, AfterOpen, AfterRows, AfterComma, AfterCols, Values, AfterMinus, Stuck, with_value, step, ending, run, IsGood, count_in}
use Rattle.array_file.specs.Words.{language, too_large}

-- the array that a heading and values make
abbrev pub grid_of : Heading → List ℤ → Grid
grid_of heading values = record { elem = heading.elem; shape = heading.shape; values = values }

-- the state that a phase is in, with the arrays before it and the values of the last array
abbrev pub state_of : Pairs → Phase → List ℤ → State
state_of done phases.Begin values = Begin done
state_of done (phases.AfterName name) values = AfterName done name
state_of done (phases.AfterType name elem) values = AfterType done name elem
state_of done (phases.AfterOpen opening) values = AfterOpen done opening.name opening.elem
state_of done (phases.AfterRows opening rows) values = AfterRows done opening.name opening.elem rows
state_of done (phases.AfterComma opening rows) values = AfterComma done opening.name opening.elem rows
state_of done (phases.AfterCols opening rows cols) values = AfterCols done opening.name opening.elem rows cols
state_of done (phases.Values heading) values = Values done heading.name (grid_of heading values)
state_of done (phases.AfterMinus heading at) values = AfterMinus done heading.name (grid_of heading values)

-- the state that has been read to
abbrev pub state_in : Reading → State
state_in r = state_of r.arrays r.phase r.values.items

-- before the first array there is none, and before an array's values there are none
abbrev pub IsFresh : Pairs → Phase → List ℤ → Type 0
IsFresh done phases.Begin values = (done ≡ []) × (values ≡ [])
IsFresh done (phases.Values heading) values = Unit {0}
IsFresh done (phases.AfterMinus heading at) values = Unit {0}
IsFresh done phase values = values ≡ []

-- the words of a shape or a value that has begun
abbrev pub begun_words : State → List Word
begun_words (AfterOpen done name elem) = words.Open ∷ []
begun_words (AfterRows done name elem rows) = words.Open ∷ words.Number rows ∷ []
begun_words (AfterComma done name elem rows) = words.Open ∷ words.Number rows ∷ words.Comma ∷ []
begun_words (AfterCols done name elem rows cols) =
    words.Open ∷ words.Number rows ∷ words.Comma ∷ words.Number cols ∷ []
begun_words (AfterMinus done name grid) = words.Minus ∷ []
begun_words s = []

-- where its first token stands
abbrev pub begun_at : Phase → ℕ
begun_at (phases.AfterOpen opening) = opening.at
begun_at (phases.AfterRows opening rows) = opening.at
begun_at (phases.AfterComma opening rows) = opening.at
begun_at (phases.AfterCols opening rows cols) = opening.at
begun_at (phases.AfterMinus heading at) = at
begun_at phase = 0

-- the words of a text end with those of a shape or a value that has begun at this place
pub record HasBegun (text : List ℕ) (tokens : List Word) (s : State) (at : ℕ) : Type 0 where
  pub before : List Word
  pub next : Result Token TokenFault
  pub all : tokens ≡ before ++ begun_words s
  pub behind : IsBehind language text before next
  pub place : at ≡ place_of next

abbrev pub IsBegun : List ℕ → List Word → State → ℕ → Type 0
IsBegun text tokens (AfterOpen done name elem) at = HasBegun text tokens (AfterOpen done name elem) at
IsBegun text tokens (AfterRows done name elem rows) at = HasBegun text tokens (AfterRows done name elem rows) at
IsBegun text tokens (AfterComma done name elem rows) at = HasBegun text tokens (AfterComma done name elem rows) at
IsBegun text tokens (AfterCols done name elem rows cols) at =
    HasBegun text tokens (AfterCols done name elem rows cols) at
IsBegun text tokens (AfterMinus done name grid) at = HasBegun text tokens (AfterMinus done name grid) at
IsBegun text tokens s at = Unit {0}

-- the text is read up to a place without a fault, to a state whose shape or value has begun at a place
pub record HasRead (text : List ℕ) (from : ℕ) (s : State) (at : ℕ) : Type 0 where
  pub tokens : List Word
  pub read : TokensTo language text 0 tokens from
  pub within : from ≤ length text
  pub state : s ≡ run tokens
  pub good : IsGood s
  pub begun : IsBegun text tokens s at
  pub few : count_in s ≤ from

-- what stands at a place or behind it, past line ends
pub record StandsFrom (text : List ℕ) (from : ℕ) (next : Result Token TokenFault) : Type 0 where
  pub place : ℕ
  pub passed : TokensTo language text from [] place
  pub next_is : NextIs text place next
  pub kept : IsKept language next

-- the place at which a word's value begins: its `-`, or its number
abbrev pub value_at : State → ℕ → ℕ → ℕ
value_at (AfterMinus done name grid) begun at = begun
value_at s begun at = at

-- the shape is none
abbrev pub HasBadShape : State → Type 0
HasBadShape (Values done name grid) = ¬ IsExtent grid.shape
HasBadShape s = ⊥

-- the number is a value that isn't of its array's type
abbrev pub IsBadValue : State → Word → Type 0
IsBadValue (Values done name grid) (words.Number n) = ¬ IsElement grid.elem (pos n)
IsBadValue (AfterMinus done name grid) (words.Number n) = ¬ IsElement grid.elem (neg_ℤ (pos n))
IsBadValue s word = ⊥

-- the name stands where an array may begin, and is there
abbrev pub ComesAgain : State → List ℕ → Type 0
ComesAgain (Values done name grid) next = Contains (names_of (done ++ (name, grid) ∷ [])) next
ComesAgain s next = ⊥

-- the last array's values aren't as many as its shape has elements
abbrev pub IsMiscounted : State → List ℕ → ℕ → ℕ → Type 0
IsMiscounted (Values done name grid) wrong need have =
    (wrong ≡ name) × (need ≡ elements_of grid.shape) × (have ≡ length grid.values) × (need ≢ have)
IsMiscounted s wrong need have = ⊥

-- why a word at a place isn't taken
abbrev pub IsRefusal : State → ℕ → Word → ℕ → ArrayFault → Type 0
IsRefusal s begun word at (answers.Unexpected place) =
    ((place ≡ at) × (step s word ≡ Stuck)) ⊎ ((place ≡ begun) × (word ≡ words.Close) × HasBadShape (step s word))
IsRefusal s begun word at (answers.OutOfType place) = (place ≡ value_at s begun at) × IsBadValue s word
IsRefusal s begun word at (answers.Twice name) = (word ≡ words.Name name) × ComesAgain s name
IsRefusal s begun word at (answers.CountWrong name need have) =
    (next : List ℕ) × (word ≡ words.Name next) × (¬ ComesAgain s next) × IsMiscounted s name need have
IsRefusal s begun word at answers.Memory = Unit {0}

-- where the shape or the value of a state has begun, behind a word at a place: with the word, or before it
abbrev pub BeginsAt : State → (place begun at : ℕ) → Type 0
BeginsAt (AfterOpen done name elem) place begun at = place ≡ at
BeginsAt (AfterRows done name elem rows) place begun at = place ≡ begun
BeginsAt (AfterComma done name elem rows) place begun at = place ≡ begun
BeginsAt (AfterCols done name elem rows cols) place begun at = place ≡ begun
BeginsAt (AfterMinus done name grid) place begun at = place ≡ at
BeginsAt s place begun at = Unit {0}

-- what taking a word at a place leads to, where it is taken
pub record IsTaking (old : Reading) (word : Word) (at : ℕ) (new : Reading) : Type 0 where
  pub is : state_in new ≡ step (state_in old) word
  pub good : IsGood (state_in new)
  pub begins : BeginsAt (state_in new) (begun_at new.phase) (begun_at old.phase) at
  pub fresh : IsFresh new.arrays new.phase new.values.items
  pub from : new.from ≡ old.from

-- why a reader doesn't take a word at a place
abbrev pub IsRefusalIn : Reading → Word → ℕ → ArrayFault → Type 0
IsRefusalIn old word at fault = IsRefusal (state_in old) (begun_at old.phase) word at fault

-- the reading may take a word
pub record IsReady (old : Reading) : Type 0 where
  pub good : IsGood (state_in old)
  pub few : count_in (state_in old) < 2 ^ 31
  pub fresh : IsFresh old.arrays old.phase old.values.items

-- a number is at most the one that is too large
abbrev pub IsSmall : Word → Type 0
IsSmall (words.Number n) = n ≤ too_large
IsSmall word = Unit {0}

-- why an array with this heading and these values may not end
abbrev pub IsWrongEnd : Heading → List ℤ → ArrayFault → Type 0
IsWrongEnd heading values (answers.CountWrong name need have) =
    (name ≡ heading.name) × (need ≡ elements_of heading.shape) × (have ≡ length values) × (need ≢ have)
IsWrongEnd heading values answers.Memory = Unit {0}
IsWrongEnd heading values _ = ⊥

-- the word is no name, no value's number and no `]`
abbrev pub IsOther : Phase → Word → Type 0
IsOther (phases.Values heading) (words.Number n) = ⊥
IsOther (phases.AfterMinus heading at) (words.Number n) = ⊥
IsOther phase (words.Name name) = ⊥
IsOther phase words.Close = ⊥
IsOther phase word = Unit {0}

-- what such a word leads to
abbrev pub Advances : Phase → Word → ℕ → Option Phase → Type 0
Advances phase word at None = (done : Pairs) (values : List ℤ) → step (state_of done phase values) word ≡ Stuck
Advances phase word at (Some next) =
    (done : Pairs) (values : List ℤ) → (state_of done next values ≡ step (state_of done phase values) word)
    × BeginsAt (state_of done next values) (begun_at next) (begun_at phase) at
    × (IsFresh done phase values → IsFresh done next values)

-- the array of the heading has one value more
pub record IsPushed (heading : Heading) (value : ℤ) (old new : Reading) : Type 0 where
  pub state : state_in new ≡ Values old.arrays heading.name (with_value (grid_of heading old.values.items) value)
  pub typed : IsElement heading.elem value
  pub from : new.from ≡ old.from

-- why a value at a place isn't taken
abbrev pub IsWrongValue : Heading → ℤ → ℕ → ArrayFault → Type 0
IsWrongValue heading value at (answers.OutOfType place) = (place ≡ at) × (¬ IsElement heading.elem value)
IsWrongValue heading value at answers.Memory = Unit {0}
IsWrongValue heading value at _ = ⊥

-- why the text may not end
abbrev pub IsEndRefusal : State → ℕ → ArrayFault → Type 0
IsEndRefusal s at (answers.Unexpected place) = (place ≡ at) × (ending s ≡ None)
IsEndRefusal s at (answers.CountWrong name need have) = IsMiscounted s name need have
IsEndRefusal s at answers.Memory = Unit {0}
IsEndRefusal s at _ = ⊥

-- the arrays that are there where the text ends
pub record IsEnding (old new : Reading) : Type 0 where
  pub is : ending (state_in old) ≡ Some new.arrays
  pub whole : ArePairs new.arrays

-- the text is read as far as the reading says
pub record IsReading (text : List ℕ) (r : Reading) : Type 0 where
  pub has : HasRead text r.from (state_in r) (begun_at r.phase)
  pub fresh : IsFresh r.arrays r.phase r.values.items

-- a token stands there, and not the text's end
pub record IsToken (text : List ℕ) (from : ℕ) (token : Token) : Type 0 where
  pub stands : StandsFrom text from (Ok token)
  pub some : token.kind ≢ End
  pub further : from < token.end
  pub within : token.end ≤ length text

-- what a turn gives: more is read, or all is
abbrev pub Turned : List ℕ → Reading → Reading → Bool → Type 0
Turned text old new true = IsReading text new × (old.from < new.from)
Turned text old new false = DenotesArrays text new.arrays
