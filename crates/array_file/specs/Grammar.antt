-- The grammar: which named arrays a list of words denotes, whatever their shapes, names and numbers of values.
use Rattle.std.specs.Prelude.{ℕ, ℤ, pos, neg_ℤ, List, [], ◌∷◌, ◌++◌}
use Rattle.ven_base.specs.declared.elem.Elem.{Elem}
use Rattle.ven_base.specs.Extent.{Extent}
use Rattle.ven_base.specs.Grid.{Grid}
use Rattle.ven_base.specs.Pairs.{Pairs}
use Rattle.array_file.specs.declared.word.Word.{Word}
use Rattle.array_file.specs.declared.word.Word.TheVariants as words

-- `[ number , number ]`
abbrev pub shape_words : Extent → List Word
shape_words shape = words.Open ∷ words.Number shape.rows ∷ words.Comma ∷ words.Number shape.cols ∷ words.Close ∷ []

-- `NAME TYPE [ number , number ]`
abbrev pub heading_words : List ℕ → Elem → Extent → List Word
heading_words name elem shape = words.Name name ∷ words.Elem elem ∷ shape_words shape

-- the words are one value: a number, or `-` and a number
pub data IsValue : List Word → ℤ → Type 0 where
  Plain : (n : ℕ) → IsValue (words.Number n ∷ []) (pos n)
  Negative : (n : ℕ) → IsValue (words.Minus ∷ words.Number n ∷ []) (neg_ℤ (pos n))

-- the words are these values
pub data AreValues : List Word → List ℤ → Type 0 where
  NoValues : AreValues [] []
  MoreValues : (before own : List Word) (values : List ℤ) (value : ℤ) → AreValues before values → IsValue own value
      → AreValues (before ++ own) (values ++ value ∷ [])

-- the words are these named arrays, each a heading and its values
pub data AreArrays : List Word → Pairs → Type 0 where
  NoArrays : AreArrays [] []
  MoreArrays : (before own : List Word) (pairs : Pairs) (name : List ℕ) (grid : Grid) → AreArrays before pairs
      → AreValues own grid.values
      → AreArrays (before ++ (heading_words name grid.elem grid.shape ++ own)) (pairs ++ (name, grid) ∷ [])
