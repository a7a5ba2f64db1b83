-- Inner: how a reader goes from word to word.
use Rattle.std.specs.Prelude.{◌≡◌, ℕ, ◌+◌, ℤ, pos, neg_ℤ, List, [], ◌∷◌, ◌++◌, length, All, Contains, Option, Some, None}
use Rattle.ven_io.specs.Reader.{Reader, run_from}
use Rattle.ven_base.specs.declared.elem.Elem.{Elem}
use Rattle.ven_base.specs.Elem.{IsElement}
use Rattle.ven_base.specs.Extent.{Extent, IsExtent}
use Rattle.ven_base.specs.Grid.{Grid}
use Rattle.ven_base.specs.Pairs.{Pairs, ArePairs, names_of}
use Rattle.array_file.specs.declared.word.Word.{Word}
use Rattle.array_file.specs.declared.word.Word.TheVariants as words

-- what has just been read, with the arrays before
pub data State : Type 0 where
  Begin : (done : Pairs) → State
  AfterName : (done : Pairs) (name : List ℕ) → State
  AfterType : (done : Pairs) (name : List ℕ) (elem : Elem) → State
  AfterOpen : (done : Pairs) (name : List ℕ) (elem : Elem) → State
  AfterRows : (done : Pairs) (name : List ℕ) (elem : Elem) (rows : ℕ) → State
  AfterComma : (done : Pairs) (name : List ℕ) (elem : Elem) (rows : ℕ) → State
  AfterCols : (done : Pairs) (name : List ℕ) (elem : Elem) (rows cols : ℕ) → State
  Values : (done : Pairs) (name : List ℕ) (grid : Grid) → State
  AfterMinus : (done : Pairs) (name : List ℕ) (grid : Grid) → State
  Stuck : State

-- an array of this type and shape without values
abbrev pub empty_grid : Elem → ℕ → ℕ → Grid
empty_grid elem rows cols = record { elem = elem; shape = record { rows = rows; cols = cols }; values = [] }

-- an array with one value more
abbrev pub with_value : Grid → ℤ → Grid
with_value grid value = record { elem = grid.elem; shape = grid.shape; values = grid.values ++ value ∷ [] }

abbrev pub step : State → Word → State
step (Begin done) (words.Name name) = AfterName done name
step (AfterName done name) (words.Elem elem) = AfterType done name elem
step (AfterType done name elem) words.Open = AfterOpen done name elem
step (AfterOpen done name elem) (words.Number rows) = AfterRows done name elem rows
step (AfterRows done name elem rows) words.Comma = AfterComma done name elem rows
step (AfterComma done name elem rows) (words.Number cols) = AfterCols done name elem rows cols
step (AfterCols done name elem rows cols) words.Close = Values done name (empty_grid elem rows cols)
step (Values done name grid) (words.Number n) = Values done name (with_value grid (pos n))
step (Values done name grid) words.Minus = AfterMinus done name grid
step (Values done name grid) (words.Name next) = AfterName (done ++ (name, grid) ∷ []) next
step (AfterMinus done name grid) (words.Number n) = Values done name (with_value grid (neg_ℤ (pos n)))
step s word = Stuck

-- the arrays that have been read, where the text may end
abbrev pub ending : State → Option Pairs
ending (Begin done) = Some done
ending (Values done name grid) = Some (done ++ (name, grid) ∷ [])
ending s = None

abbrev pub reader : Reader Word State Pairs
reader = record { start = Begin []; stuck = Stuck; step = step; value = ending }

-- the state behind words
abbrev pub run : List Word → State
run tokens = run_from step (Begin []) tokens

-- the name is new behind whole arrays
pub record IsNew (done : Pairs) (name : List ℕ) : Type 0 where
  pub whole : ArePairs done
  pub new : ¬ Contains (names_of done) name

-- no fault has been read
abbrev pub IsGood : State → Type 0
IsGood (Begin done) = ArePairs done
IsGood (AfterName done name) = IsNew done name
IsGood (AfterType done name elem) = IsNew done name
IsGood (AfterOpen done name elem) = IsNew done name
IsGood (AfterRows done name elem rows) = IsNew done name
IsGood (AfterComma done name elem rows) = IsNew done name
IsGood (AfterCols done name elem rows cols) = IsNew done name
IsGood (Values done name grid) = IsNew done name × IsExtent grid.shape × All (IsElement grid.elem) grid.values
IsGood (AfterMinus done name grid) = IsNew done name × IsExtent grid.shape × All (IsElement grid.elem) grid.values
IsGood Stuck = ⊥

-- how many arrays and values have been read, those that aren't whole too
abbrev pub count_in : State → ℕ
count_in (Begin done) = length done
count_in (AfterName done name) = length done + 1
count_in (AfterType done name elem) = length done + 1
count_in (AfterOpen done name elem) = length done + 1
count_in (AfterRows done name elem rows) = length done + 1
count_in (AfterComma done name elem rows) = length done + 1
count_in (AfterCols done name elem rows cols) = length done + 1
count_in (Values done name grid) = length done + 1 + length grid.values
count_in (AfterMinus done name grid) = length done + 1 + length grid.values
count_in Stuck = 0
