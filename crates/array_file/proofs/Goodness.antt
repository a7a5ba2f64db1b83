-- What has been read without a fault stays so in each part of it.
use Rattle.std.proofs.Common.{◌≡◌, ◌≢◌, ℕ, ◌+◌, ◌<◌, ◌≤◌, List, [], ◌∷◌, ◌++◌, length, get_or, Some, refl, sym, ap, subst, ◌∙◌, arith, All, Contains, map}
use Rattle.std.specs.Prelude.{ℤ, pos}
use Rattle.std.proofs.lemmas.List.{take_at, get_or_append_left, get_or_push, length_push, map_push}
use Rattle.std.proofs.lemmas.List.Elements.{All-take, All-contains, Contains-push}
use Rattle.ven_io.specs.Reader.{run_from}
use Rattle.ven_base.specs.Elem.{IsElement}
use Rattle.ven_base.specs.Extent.{IsExtent}
use Rattle.ven_base.specs.Grid.{Grid, IsGrid}
use Rattle.ven_base.specs.Name.{IsName}
use Rattle.ven_base.specs.Pairs.{Pairs, ArePairs, names_of, arrays_of}
use Rattle.array_file.specs.declared.word.Word.{Word}
use Rattle.array_file.specs.declared.word.Word.TheVariants as words
use Rattle.array_file.specs.Reading.{State, Begin, AfterName, AfterType, AfterOpen, AfterRows, AfterComma, AfterCols, Values, AfterMinus, Stuck, with_value, step, IsNew, IsGood, count_in}

all_front : {X : Type 0} (P : X → Type 0) (xs : List X) (x : X) → All P (xs ++ x ∷ []) → All P xs
all_front P xs x h = subst (λ ys. All P ys) (take_at xs (x ∷ []) (length xs) refl) (All-take P (length xs) (xs ++ x ∷ []) h)

all_last : {X : Type 0} (P : X → Type 0) (xs : List X) (x : X) → All P (xs ++ x ∷ []) → P x
all_last P xs x h = All-contains P (xs ++ x ∷ []) x h (Contains-push xs x)

pub names_push : (done : Pairs) (name : List ℕ) (grid : Grid) → names_of (done ++ (name, grid) ∷ []) ≡ names_of done ++ name ∷ []
names_push done name grid = map_push (λ (p : List ℕ × Grid). p.0) done (name, grid)

arrays_push : (done : Pairs) (name : List ℕ) (grid : Grid) → arrays_of (done ++ (name, grid) ∷ []) ≡ arrays_of done ++ grid ∷ []
arrays_push done name grid = map_push (λ (p : List ℕ × Grid). p.1) done (name, grid)

-- whole arrays without their last
pub whole_front : (done : Pairs) (name : List ℕ) (grid : Grid) → ArePairs (done ++ (name, grid) ∷ []) → ArePairs done
whole_front done name grid h =
    let distinct = subst (λ ns. (i j : ℕ) (d : List ℕ) → i < j → j < length ns → get_or ns i d ≢ get_or ns j d) (names_push done name grid) h.distinct in
    let long = length_push (names_of done) name in
    record {
      distinct = λ i j d lt within e.
          distinct i j d lt (omega (arith, long)) (get_or_append_left (names_of done) (name ∷ []) d i (omega arith) ∙ e ∙ sym (get_or_append_left (names_of done) (name ∷ []) d j within));
      named = all_front IsName (names_of done) name (subst (λ ns. All IsName ns) (names_push done name grid) h.named);
      arrays = all_front IsGrid (arrays_of done) grid (subst (λ gs. All IsGrid gs) (arrays_push done name grid) h.arrays);
      counted = let counted = h.counted in omega (arith, length_push done (name, grid));
    }

pub whole_last : (done : Pairs) (name : List ℕ) (grid : Grid) → ArePairs (done ++ (name, grid) ∷ []) → IsGrid grid
whole_last done name grid h = all_last IsGrid (arrays_of done) grid (subst (λ gs. All IsGrid gs) (arrays_push done name grid) h.arrays)

pub whole_new : (done : Pairs) (name : List ℕ) (grid : Grid) → ArePairs (done ++ (name, grid) ∷ []) → ¬ Contains (names_of done) name
whole_new done name grid h (k, lt, is) =
    let distinct = subst (λ ns. (i j : ℕ) (d : List ℕ) → i < j → j < length ns → get_or ns i d ≢ get_or ns j d) (names_push done name grid) h.distinct in
    let long = length_push (names_of done) name in
    distinct k (length (names_of done)) name lt (omega (arith, long))
    (get_or_append_left (names_of done) (name ∷ []) name k lt ∙ is ∙ sym (get_or_push (names_of done) name name (length (names_of done)) refl))

values_front : (done : Pairs) (name : List ℕ) (grid : Grid) (value : ℤ) → IsGood (Values done name (with_value grid value)) → IsGood (Values done name grid)
values_front done name grid value (new, extent, typed) = (new, extent, all_front (IsElement grid.elem) grid.values value typed)

pub good_back : (s : State) (word : Word) → IsGood (step s word) → IsGood s
good_back (Begin done) (words.Name name) h = h.whole
good_back (AfterName done name) (words.Elem elem) h = h
good_back (AfterType done name elem) words.Open h = h
good_back (AfterOpen done name elem) (words.Number rows) h = h
good_back (AfterRows done name elem rows) words.Comma h = h
good_back (AfterComma done name elem rows) (words.Number cols) h = h
good_back (AfterCols done name elem rows cols) words.Close h = h.0
good_back (Values done name grid) (words.Number n) h = values_front done name grid (pos n) h
good_back (Values done name grid) words.Minus h = h
good_back (Values done name grid) (words.Name next) h =
    let own = whole_last done name grid h.whole in
    (record { whole = whole_front done name grid h.whole; new = whole_new done name grid h.whole }, own.shaped, own.typed)
good_back (AfterMinus done name grid) (words.Number n) h = values_front done name grid _ h
good_back s word h = absurd h

pub goods_back : (s : State) (tokens : List Word) → IsGood (run_from step s tokens) → IsGood s
goods_back s [] h = h
goods_back s (word ∷ tokens) h = good_back s word (goods_back (step s word) tokens h)

pub good_goes : (s : State) → IsGood s → s ≢ Stuck
good_goes s h e = subst IsGood e h

-- the last value of good values is of its type
pub good_value : (done : Pairs) (name : List ℕ) (grid : Grid) (value : ℤ) → IsGood (Values done name (with_value grid value)) → IsElement grid.elem value
good_value done name grid value (new, extent, typed) = all_last (IsElement grid.elem) grid.values value typed

-- a word adds one array or one value at most
pub counts_on : (s : State) (word : Word) → count_in (step s word) ≤ count_in s + 1
counts_on (Begin done) (words.Name name) = omega arith
counts_on (AfterName done name) (words.Elem elem) = omega arith
counts_on (AfterType done name elem) words.Open = omega arith
counts_on (AfterOpen done name elem) (words.Number rows) = omega arith
counts_on (AfterRows done name elem rows) words.Comma = omega arith
counts_on (AfterComma done name elem rows) (words.Number cols) = omega arith
counts_on (AfterCols done name elem rows cols) words.Close = omega arith
counts_on (Values done name grid) (words.Number n) = omega (arith, length_push grid.values (pos n))
counts_on (Values done name grid) words.Minus = omega arith
counts_on (Values done name grid) (words.Name next) = omega (arith, length_push done (name, grid))
counts_on (AfterMinus done name grid) (words.Number n) = omega (arith, length_push {X = ℤ})
counts_on s word = omega arith
