-- The reader follows the grammar.
use Rattle.std.proofs.Common.{◌≡◌, ◌≢◌, ◌↔◌, ℕ, List, [], ◌∷◌, ◌++◌, Option, Some, None, refl, sym, ap, subst, ◌∙◌, append_assoc}
use Rattle.std.specs.Prelude.{ℤ, pos, neg_ℤ}
use Rattle.std.proofs.lemmas.List.{append-nil}
use Rattle.ven_io.specs.Reader.{Reader, run_from, Follows}
use Rattle.ven_io.proofs.Readers.{run_on, begins_iff}
use Rattle.ven_base.specs.declared.elem.Elem.{Elem}
use Rattle.ven_base.specs.declared.elem.Elem.TheVariants.{U8}
use Rattle.ven_base.specs.Extent.{Extent}
use Rattle.ven_base.specs.Grid.{Grid}
use Rattle.ven_base.specs.Pairs.{Pairs}
use Rattle.array_file.specs.declared.word.Word.{Word}
use Rattle.array_file.specs.declared.word.Word.TheVariants as words
use Rattle.array_file.specs.Grammar.{heading_words, IsValue, Plain, Negative, AreValues, NoValues, MoreValues, AreArrays, NoArrays, MoreArrays}
use Rattle.array_file.specs.Faults.{BeginsArrays}
use Rattle.array_file.specs.Reading.{State, Begin, AfterName, AfterType, AfterOpen, AfterRows, AfterComma, AfterCols, Values, AfterMinus, Stuck, empty_grid, step, ending, reader, run}

pub none_some : {X : Type 0} (x : X) → None ≡ Some x → ⊥
none_some x e = cc

pub some_is : {X : Type 0} (x y : X) → Some x ≡ Some y → x ≡ y
some_is x y e = cc

-- ---- what stands in each state

-- the words are those of arrays, and these behind them
record IsBehind (done : Pairs) (own tokens : List Word) : Type 0 where
  before : List Word
  are : AreArrays before done
  all : tokens ≡ before ++ own

-- the same where an array's values have begun, with more behind them
record HasValues (done : Pairs) (name : List ℕ) (grid : Grid) (more tokens : List Word) : Type 0 where
  own : List Word
  values : AreValues own grid.values
  behind : IsBehind done (heading_words name grid.elem grid.shape ++ (own ++ more)) tokens

abbrev Stands : State → List Word → Type 0
Stands (Begin done) tokens = AreArrays tokens done
Stands (AfterName done name) tokens = IsBehind done (words.Name name ∷ []) tokens
Stands (AfterType done name elem) tokens = IsBehind done (words.Name name ∷ words.Elem elem ∷ []) tokens
Stands (AfterOpen done name elem) tokens = IsBehind done (words.Name name ∷ words.Elem elem ∷ words.Open ∷ []) tokens
Stands (AfterRows done name elem rows) tokens =
    IsBehind done (words.Name name ∷ words.Elem elem ∷ words.Open ∷ words.Number rows ∷ []) tokens
Stands (AfterComma done name elem rows) tokens =
    IsBehind done (words.Name name ∷ words.Elem elem ∷ words.Open ∷ words.Number rows ∷ words.Comma ∷ []) tokens
Stands (AfterCols done name elem rows cols) tokens =
    IsBehind done (words.Name name ∷ words.Elem elem ∷ words.Open ∷ words.Number rows ∷ words.Comma ∷ words.Number cols ∷ []) tokens
Stands (Values done name grid) tokens = HasValues done name grid [] tokens
Stands (AfterMinus done name grid) tokens = HasValues done name grid (words.Minus ∷ []) tokens
Stands Stuck tokens = Unit {0}

more : (done : Pairs) (own tokens : List Word) (word : Word) → IsBehind done own tokens → IsBehind done (own ++ word ∷ []) (tokens ++ word ∷ [])
more done own tokens word h = record {
  before = h.before;
  are = h.are;
  all = ap (λ ts. ts ++ word ∷ []) h.all ∙ append_assoc h.before own (word ∷ []);
}

as_own : (done : Pairs) (own other tokens : List Word) → own ≡ other → IsBehind done own tokens → IsBehind done other tokens
as_own done own other tokens e h = subst (λ o. IsBehind done o tokens) e h

-- an array whose values have been read
read_array : (done : Pairs) (name : List ℕ) (grid : Grid) (tokens : List Word) → HasValues done name grid [] tokens → AreArrays tokens (done ++ (name, grid) ∷ [])
read_array done name grid tokens h =
    let all : tokens ≡ h.behind.before ++ (heading_words name grid.elem grid.shape ++ h.own) =
    h.behind.all ∙ ap (λ o. h.behind.before ++ (heading_words name grid.elem grid.shape ++ o)) (append-nil h.own) in
    subst (λ ts. AreArrays ts (done ++ (name, grid) ∷ [])) (sym all) (MoreArrays h.behind.before h.own done name grid h.behind.are h.values)

-- a value more
read_value : (done : Pairs) (name : List ℕ) (grid : Grid) (begun tokens : List Word) (word : Word) (value : ℤ) → IsValue (begun ++ word ∷ []) value → HasValues done name grid begun tokens → HasValues done name (record { elem = grid.elem; shape = grid.shape; values = grid.values ++ value ∷ [] }) [] (tokens ++ word ∷ [])
read_value done name grid begun tokens word value is h =
    let heading = heading_words name grid.elem grid.shape in
    let own : List Word = h.own ++ (begun ++ word ∷ []) in
    let same : (h.own ++ begun) ++ word ∷ [] ≡ own ++ [] = append_assoc h.own begun (word ∷ []) ∙ sym (append-nil own) in
    record {
      own = own;
      values = MoreValues h.own (begun ++ word ∷ []) grid.values value h.values is;
      behind = as_own done (heading ++ ((h.own ++ begun) ++ word ∷ [])) (heading ++ (own ++ [])) (tokens ++ word ∷ []) (ap (λ o. heading ++ o) same)
          (more done (heading ++ (h.own ++ begun)) tokens word h.behind);
    }

read_minus : (done : Pairs) (name : List ℕ) (grid : Grid) (tokens : List Word) → HasValues done name grid [] tokens → HasValues done name grid (words.Minus ∷ []) (tokens ++ words.Minus ∷ [])
read_minus done name grid tokens h =
    let heading = heading_words name grid.elem grid.shape in
    record {
      own = h.own;
      values = h.values;
      behind = as_own done (heading ++ ((h.own ++ []) ++ words.Minus ∷ [])) (heading ++ (h.own ++ words.Minus ∷ [])) (tokens ++ words.Minus ∷ []) (ap (λ o. heading ++ (o ++ words.Minus ∷ [])) (append-nil h.own))
          (more done (heading ++ (h.own ++ [])) tokens words.Minus h.behind);
    }

stands_on : (s : State) (word : Word) (tokens : List Word) → Stands s tokens → Stands (step s word) (tokens ++ word ∷ [])
stands_on (Begin done) (words.Name name) tokens h = record { before = tokens; are = h; all = refl }
stands_on (AfterName done name) (words.Elem elem) tokens h = more done _ tokens (words.Elem elem) h
stands_on (AfterType done name elem) words.Open tokens h = more done _ tokens words.Open h
stands_on (AfterOpen done name elem) (words.Number rows) tokens h = more done _ tokens (words.Number rows) h
stands_on (AfterRows done name elem rows) words.Comma tokens h = more done _ tokens words.Comma h
stands_on (AfterComma done name elem rows) (words.Number cols) tokens h = more done _ tokens (words.Number cols) h
stands_on (AfterCols done name elem rows cols) words.Close tokens h = record { own = []; values = NoValues; behind = more done _ tokens words.Close h }
stands_on (Values done name grid) (words.Number n) tokens h = read_value done name grid [] tokens (words.Number n) (pos n) (Plain n) h
stands_on (Values done name grid) words.Minus tokens h = read_minus done name grid tokens h
stands_on (Values done name grid) (words.Name next) tokens h = record { before = tokens; are = read_array done name grid tokens h; all = refl }
stands_on (AfterMinus done name grid) (words.Number n) tokens h = read_value done name grid (words.Minus ∷ []) tokens (words.Number n) (neg_ℤ (pos n)) (Negative n) h
stands_on s word tokens h = tt

stands_from : (s : State) (before tokens : List Word) → Stands s before → Stands (run_from step s tokens) (before ++ tokens)
stands_from s before [] h = subst (Stands s) (sym (append-nil before)) h
stands_from s before (word ∷ tokens) h =
    subst (Stands (run_from step (step s word) tokens)) (append_assoc before (word ∷ []) tokens)
    (stands_from (step s word) (before ++ word ∷ []) tokens (stands_on s word before h))

read_at_end : (s : State) (tokens : List Word) (arrays : Pairs) → Stands s tokens → ending s ≡ Some arrays → AreArrays tokens arrays
read_at_end (Begin done) tokens arrays h e = subst (AreArrays tokens) (some_is done arrays e) h
read_at_end (Values done name grid) tokens arrays h e = subst (AreArrays tokens) (some_is (done ++ (name, grid) ∷ []) arrays e) (read_array done name grid tokens h)
read_at_end s tokens arrays h e = absurd (none_some arrays e)

-- ---- sentences are read

pub values_read : (done : Pairs) (name : List ℕ) (elem : Elem) (shape : Extent) (own : List Word) (values : List ℤ) → AreValues own values → run_from step (Values done name (empty_grid elem shape.rows shape.cols)) own ≡ Values done name (record { elem = elem; shape = shape; values = values })
values_read done name elem shape _ _ NoValues = refl
values_read done name elem shape _ _ (MoreValues before own values value h is) =
    let s = Values done name (empty_grid elem shape.rows shape.cols) in
    run_on step s before own ∙ ap (λ t. run_from step t own) (values_read done name elem shape before values h) ∙ one_more own value is
  where
    one_more : (own : List Word) (value : ℤ) → IsValue own value → run_from step (Values done name (record { elem = elem; shape = shape; values = values })) own ≡ Values done name (record { elem = elem; shape = shape; values = values ++ value ∷ [] })
    one_more _ _ (Plain n) = refl
    one_more _ _ (Negative n) = refl

-- where arrays may end, a name begins the next
pub name_next : (s : State) (arrays : Pairs) (name : List ℕ) → ending s ≡ Some arrays → step s (words.Name name) ≡ AfterName arrays name
name_next (Begin done) arrays name e = ap (λ p. AfterName p name) (some_is done arrays e)
name_next (Values done own grid) arrays name e = ap (λ p. AfterName p name) (some_is (done ++ (own, grid) ∷ []) arrays e)
name_next s arrays name e = absurd (none_some arrays e)

pub arrays_read : (tokens : List Word) (arrays : Pairs) → AreArrays tokens arrays → ending (run tokens) ≡ Some arrays
arrays_read _ _ NoArrays = refl
arrays_read _ _ (MoreArrays before own arrays name grid h values) =
    let s = run before in
    let behind = heading_words name grid.elem grid.shape ++ own in
    let rest : List Word = words.Elem grid.elem ∷ words.Open ∷ words.Number grid.shape.rows ∷ words.Comma ∷ words.Number grid.shape.cols ∷ words.Close ∷ own in
    ap ending
    (run_on step (Begin []) before behind
    ∙ ap (λ t. run_from step t rest) (name_next s arrays name (arrays_read before arrays h))
    ∙ values_read arrays name grid.elem grid.shape own grid.values values)

stuck_stays : (word : Word) → step Stuck word ≡ Stuck
stuck_stays (words.Name name) = refl
stuck_stays (words.Elem elem) = refl
stuck_stays (words.Number n) = refl
stuck_stays words.Minus = refl
stuck_stays words.Open = refl
stuck_stays words.Comma = refl
stuck_stays words.Close = refl

pub stuck_on : (tokens : List Word) → run_from step Stuck tokens ≡ Stuck
stuck_on [] = refl
stuck_on (word ∷ tokens) = ap (λ s. run_from step s tokens) (stuck_stays word) ∙ stuck_on tokens

-- ---- each state can be ended

record Ends (s : State) : Type 0 where
  rest : List Word
  arrays : Pairs
  ends : ending (run_from step s rest) ≡ Some arrays

end_of : (s : State) → s ≢ Stuck → Ends s
end_of (Begin done) goes = record { rest = []; arrays = done; ends = refl }
end_of (AfterName done name) goes = record { rest = words.Elem U8 ∷ words.Open ∷ words.Number 1 ∷ words.Comma ∷ words.Number 1 ∷ words.Close ∷ []; arrays = done ++ (name, empty_grid U8 1 1) ∷ []; ends = refl }
end_of (AfterType done name elem) goes = record { rest = words.Open ∷ words.Number 1 ∷ words.Comma ∷ words.Number 1 ∷ words.Close ∷ []; arrays = done ++ (name, empty_grid elem 1 1) ∷ []; ends = refl }
end_of (AfterOpen done name elem) goes = record { rest = words.Number 1 ∷ words.Comma ∷ words.Number 1 ∷ words.Close ∷ []; arrays = done ++ (name, empty_grid elem 1 1) ∷ []; ends = refl }
end_of (AfterRows done name elem rows) goes = record { rest = words.Comma ∷ words.Number 1 ∷ words.Close ∷ []; arrays = done ++ (name, empty_grid elem rows 1) ∷ []; ends = refl }
end_of (AfterComma done name elem rows) goes = record { rest = words.Number 1 ∷ words.Close ∷ []; arrays = done ++ (name, empty_grid elem rows 1) ∷ []; ends = refl }
end_of (AfterCols done name elem rows cols) goes = record { rest = words.Close ∷ []; arrays = done ++ (name, empty_grid elem rows cols) ∷ []; ends = refl }
end_of (Values done name grid) goes = record { rest = []; arrays = done ++ (name, grid) ∷ []; ends = refl }
end_of (AfterMinus done name grid) goes = record { rest = words.Number 0 ∷ []; arrays = done ++ (name, record { elem = grid.elem; shape = grid.shape; values = grid.values ++ pos 0 ∷ [] }) ∷ []; ends = refl }
end_of Stuck goes = absurd (goes refl)

pub follows : Follows AreArrays reader
follows = record {
  complete = arrays_read;
  sound = λ tokens arrays e. read_at_end (run tokens) tokens arrays (stands_from (Begin []) [] tokens NoArrays) e;
  can_end = λ tokens goes. let e = end_of (run tokens) goes in (e.rest, e.arrays, e.ends);
  stays = stuck_stays;
  none = refl;
}

-- words are arrays where the reader may end there, and begin some where it isn't stuck
pub read_arrays_are : (tokens : List Word) (arrays : Pairs) → ending (run tokens) ≡ Some arrays → AreArrays tokens arrays
read_arrays_are tokens arrays e = follows.sound tokens arrays e

pub begins_goes : (tokens : List Word) → BeginsArrays tokens → run tokens ≢ Stuck
begins_goes tokens h = (begins_iff AreArrays reader follows tokens).0 h

pub goes_begins : (tokens : List Word) → run tokens ≢ Stuck → BeginsArrays tokens
goes_begins tokens h = (begins_iff AreArrays reader follows tokens).1 h
