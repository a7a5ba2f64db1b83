-- The fills of a tile have together at most as many elements as the pieces of its leaves.
use Rattle.std.proofs.Common.{◌≡◌, ℕ, zero, suc, ◌+◌, ◌*◌, ◌/◌, ◌%◌, ◌<◌, ◌≤◌, ap, sym, ◌∙◌, subst, refl, arith, List, [], ◌∷◌, ◌++◌, length, length-append, ℤ}
use Rattle.std.proofs.lemmas.Nat.{div-mul-add, mod-mul-add}
use Rattle.ven_base.specs.Elem.{size_of}
use Rattle.venice_isa.specs.Region.{place_in, IsAt, IsApartFrom}
use Rattle.venice_isa.proofs.Regions.{item_fits, elements_apart}
use Rattle.venice_isa.proofs.Wholes.{size_positive}
use Rattle.dma_segments.specs.declared.segments.Fill.{Fill}
use Rattle.dma_segments.specs.Put.{cells_of_fill}
use Rattle.dma_segments.proofs.Lists.{Each, EachPair, each_append, pairs_append, each_weaker}
use Rattle.dma_segments.proofs.Counts.{few_items}
use Rattle.vector_codegen.specs.Work.{Shape, Buffers, leaf_buffer}
use Rattle.vector_codegen.proofs.Held.{Typing, count_of, element_place}
use Rattle.vector_codegen.proofs.Fills.{IsLeafFill}
use Rattle.vector_codegen.proofs.Counts.{HasElements}

pub sum_of_elements : List Fill → ℕ
sum_of_elements [] = 0
sum_of_elements (fill ∷ fills) = fill.rows * fill.cols + sum_of_elements fills

module _ (shape : Shape) (b : Buffers) (typing : Typing) (leaf : ℕ → ℕ → ℤ) (half : b.in_half < 2) (fits : (k : ℕ) → k < typing.leaves → count_of shape * size_of (typing.leaf k) ≤ shape.room) (some_room : 0 < shape.room) where
  -- the number of an element of a fill among all elements of all leaves
  key : Fill → (r j : ℕ) → ℕ
  key fill r j = place_in (cells_of_fill fill) r j / shape.room / 2 * count_of shape + place_in (cells_of_fill fill) r j % shape.room / size_of fill.elem

  -- it is element i of leaf k
  record IsElementAt (fill : Fill) (r j k i : ℕ) : Type 0 where
    leaf_is : k < typing.leaves
    elem_is : fill.elem ≡ typing.leaf k
    inside : i < count_of shape
    place : place_in (cells_of_fill fill) r j ≡ element_place shape fill.elem (leaf_buffer b k) i

  element_at : (fill : Fill) (k : ℕ) → IsLeafFill shape b typing leaf fill k → (r j : ℕ) → r < fill.rows → j < fill.cols → (i : ℕ) × IsElementAt fill r j k i
  element_at fill k is r j row column = let there = is.index r j row column in (there.0, record { leaf_is = is.leaf_is; elem_is = is.elem_is; inside = there.1; place = there.2.place })

  key_is : (fill : Fill) (r j k i : ℕ) → IsElementAt fill r j k i → key fill r j ≡ k * count_of shape + i
  unfolding key
  key_is fill r j k i at =
      let size = size_of fill.elem in
      let some = size_positive fill.elem in
      let room_for : count_of shape * size ≤ shape.room = subst (λ e. count_of shape * size_of e ≤ shape.room) (sym at.elem_is) (fits k at.leaf_is) in
      let last = item_fits i (count_of shape) size at.inside in
      let low : i * size < shape.room = omega arith in
      let place = place_in (cells_of_fill fill) r j in
      let quotient : place / shape.room ≡ leaf_buffer b k = ap (λ p. p / shape.room) at.place ∙ div-mul-add (leaf_buffer b k) shape.room (i * size) low in
      let rest : place % shape.room ≡ i * size = ap (λ p. p % shape.room) at.place ∙ mod-mul-add (leaf_buffer b k) shape.room (i * size) low in
      let leaf_number : place / shape.room / 2 ≡ k = ap (λ p. p / 2) quotient ∙ div-mul-add k 2 b.in_half half in
      let whole : i * size ≡ i * size + 0 = omega arith in
      let index : place % shape.room / size ≡ i = ap (λ p. p / size) (rest ∙ whole) ∙ div-mul-add i size 0 some in
      ap (λ n. n * count_of shape + place % shape.room / size) leaf_number ∙ ap (λ n. k * count_of shape + n) index

  key_below : (fill : Fill) (r j k i : ℕ) → IsElementAt fill r j k i → key fill r j < typing.leaves * count_of shape
  key_below fill r j k i at = let more = item_fits k typing.leaves (count_of shape) at.leaf_is in let is = key_is fill r j k i at in let inside = at.inside in omega arith

  -- two elements with one number stand in one place
  one_place : (fill fill' : Fill) (r j k i r' j' k' i' : ℕ) → IsElementAt fill r j k i → IsElementAt fill' r' j' k' i' → key fill r j ≡ key fill' r' j' → place_in (cells_of_fill fill) r j ≡ place_in (cells_of_fill fill') r' j'
  one_place fill fill' r j k i r' j' k' i' at at' same =
      let both : k * count_of shape + i ≡ k' * count_of shape + i' = sym (key_is fill r j k i at) ∙ same ∙ key_is fill' r' j' k' i' at' in
      let leaf_same : k ≡ k' = sym (div-mul-add k (count_of shape) i at.inside) ∙ ap (λ n. n / count_of shape) both ∙ div-mul-add k' (count_of shape) i' at'.inside in
      let index_same : i ≡ i' = sym (mod-mul-add k (count_of shape) i at.inside) ∙ ap (λ n. n % count_of shape) both ∙ mod-mul-add k' (count_of shape) i' at'.inside in
      let elem_same : fill.elem ≡ fill'.elem = at.elem_is ∙ ap typing.leaf leaf_same ∙ sym at'.elem_is in
      at.place ∙ ap (λ e. element_place shape e (leaf_buffer b k) i) elem_same ∙ ap (λ k. element_place shape fill'.elem (leaf_buffer b k) i) leaf_same ∙ ap (element_place shape fill'.elem (leaf_buffer b k')) index_same ∙ sym at'.place

  at_place : (fill : Fill) (r j p : ℕ) → r < fill.rows → j < fill.cols → place_in (cells_of_fill fill) r j ≡ p → IsAt (cells_of_fill fill) r j p
  at_place fill r j p row column is = let some = size_positive fill.elem in record { row = row; column = column; from = omega (arith, is); below = omega (arith, is, some) }

  -- ---- the numbers of all elements

  row_keys : (count : ℕ) → Fill → (r j : ℕ) → List ℕ
  row_keys zero fill r j = []
  row_keys (suc count) fill r j = key fill r j ∷ row_keys count fill r (j + 1)

  fill_keys : (count : ℕ) → Fill → (r : ℕ) → List ℕ
  fill_keys zero fill r = []
  fill_keys (suc count) fill r = row_keys fill.cols fill r 0 ++ fill_keys count fill (r + 1)

  all_keys : List Fill → List ℕ
  all_keys [] = []
  all_keys (fill ∷ fills) = fill_keys fill.rows fill 0 ++ all_keys fills

  row_length : (count : ℕ) (fill : Fill) (r j : ℕ) → length (row_keys count fill r j) ≡ count
  unfolding row_keys
  row_length zero fill r j = refl
  row_length (suc count) fill r j = let rest = row_length count fill r (j + 1) in omega arith

  fill_length : (count : ℕ) (fill : Fill) (r : ℕ) → length (fill_keys count fill r) ≡ count * fill.cols
  unfolding fill_keys
  fill_length zero fill r = omega arith
  fill_length (suc count) fill r = let rest = fill_length count fill (r + 1) in let row = row_length fill.cols fill r 0 in let both = length-append (row_keys fill.cols fill r 0) (fill_keys count fill (r + 1)) in omega arith

  all_length : (fills : List Fill) → length (all_keys fills) ≡ sum_of_elements fills
  unfolding all_keys sum_of_elements
  all_length [] = refl
  all_length (fill ∷ fills) = let rest = all_length fills in let first = fill_length fill.rows fill 0 in let both = length-append (fill_keys fill.rows fill 0) (all_keys fills) in omega arith

  module _ (P : ℕ → Type 0) where
    row_each : (count : ℕ) (fill : Fill) (r j : ℕ) → ((j' : ℕ) → j ≤ j' → j' < j + count → P (key fill r j')) → Each P (row_keys count fill r j)
    unfolding row_keys
    row_each zero fill r j each = tt
    row_each (suc count) fill r j each = (each j (omega arith) (omega arith), row_each count fill r (j + 1) (λ j' from below. each j' (omega arith) (omega arith)))

    fill_each : (count : ℕ) (fill : Fill) (r : ℕ) → ((r' j : ℕ) → r ≤ r' → r' < r + count → j < fill.cols → P (key fill r' j)) → Each P (fill_keys count fill r)
    unfolding fill_keys
    fill_each zero fill r each = tt
    fill_each (suc count) fill r each =
        each_append P (row_keys fill.cols fill r 0) (fill_keys count fill (r + 1)) (row_each fill.cols fill r 0 (λ j from below. each r j (omega arith) (omega arith) (omega arith)))
        (fill_each count fill (r + 1) (λ r' j from below column. each r' j (omega arith) (omega arith) column))

    all_each_key : (fills : List Fill) → Each (λ fill. (r j : ℕ) → r < fill.rows → j < fill.cols → P (key fill r j)) fills → Each P (all_keys fills)
    unfolding all_keys
    all_each_key [] each = tt
    all_each_key (fill ∷ fills) each = each_append P (fill_keys fill.rows fill 0) (all_keys fills) (fill_each fill.rows fill 0 (λ r j from below column. each.0 r j (omega arith) column)) (all_each_key fills each.1)

  abbrev Differ : ℕ → ℕ → Type 0
  Differ x y = ¬ (x ≡ y)

  module _ (fill : Fill) (k : ℕ) (is : IsLeafFill shape b typing leaf fill k) where
    -- elements of one fill have numbers of their own
    own_keys : (r j r' j' : ℕ) → r < fill.rows → j < fill.cols → r' < fill.rows → j' < fill.cols → key fill r j ≡ key fill r' j' → (r ≡ r') × (j ≡ j')
    own_keys r j r' j' row column row' column' same =
        let at = element_at fill k is r j row column in
        let at' = element_at fill k is r' j' row' column' in
        let place = one_place fill fill r j k at.0 r' j' k at'.0 at.1 at'.1 same in
        elements_apart (cells_of_fill fill) is.rows_apart (place_in (cells_of_fill fill) r j) r j r' j' (at_place fill r j _ row column refl) (at_place fill r' j' _ row' column' (sym place))

    row_pairs : (count r j : ℕ) → r < fill.rows → j + count ≤ fill.cols → EachPair Differ (row_keys count fill r j)
    unfolding row_keys
    row_pairs zero r j row columns = tt
    row_pairs (suc count) r j row columns = (
      row_each (λ x. ¬ (key fill r j ≡ x)) count fill r (j + 1) (λ j' from below same. let one = own_keys r j r j' row (omega arith) row (omega arith) same in omega (arith, one.1)),
      row_pairs count r (j + 1) row (omega arith),
    )

    fill_pairs : (count r : ℕ) → r + count ≤ fill.rows → EachPair Differ (fill_keys count fill r)
    unfolding fill_keys
    fill_pairs zero r rows = tt
    fill_pairs (suc count) r rows =
        pairs_append Differ (row_keys fill.cols fill r 0) (fill_keys count fill (r + 1)) (row_pairs fill.cols r 0 (omega arith) (omega arith)) (fill_pairs count (r + 1) (omega arith))
        (row_each (λ x. Each (λ y. ¬ (x ≡ y)) (fill_keys count fill (r + 1))) fill.cols fill r 0
        (λ j from below. fill_each (λ y. ¬ (key fill r j ≡ y)) count fill (r + 1)
        (λ r' j' from' below' column same. let one = own_keys r j r' j' (omega arith) (omega arith) (omega arith) column same in omega (arith, one.0))))

  abbrev IsSomeFill : Fill → Type 0
  IsSomeFill fill = (k : ℕ) × IsLeafFill shape b typing leaf fill k

  abbrev AreApart : Fill → Fill → Type 0
  AreApart fill fill' = IsApartFrom (cells_of_fill fill) (cells_of_fill fill')

  -- elements of fills that share no cell too
  other_keys : (fill fill' : Fill) → IsSomeFill fill → IsSomeFill fill' → AreApart fill fill' → (r j r' j' : ℕ) → r < fill.rows → j < fill.cols → r' < fill'.rows → j' < fill'.cols → ¬ (key fill r j ≡ key fill' r' j')
  other_keys fill fill' is is' apart r j r' j' row column row' column' same =
      let at = element_at fill is.0 is.1 r j row column in
      let at' = element_at fill' is'.0 is'.1 r' j' row' column' in
      let place = one_place fill fill' r j is.0 at.0 r' j' is'.0 at'.0 at.1 at'.1 same in
      apart (place_in (cells_of_fill fill) r j) (r, j, at_place fill r j _ row column refl) (r', j', at_place fill' r' j' _ row' column' (sym place))

  all_pairs_differ : (fills : List Fill) → Each IsSomeFill fills → EachPair AreApart fills → EachPair Differ (all_keys fills)
  unfolding all_keys
  all_pairs_differ [] each apart = tt
  all_pairs_differ (fill ∷ fills) each apart =
      pairs_append Differ (fill_keys fill.rows fill 0) (all_keys fills) (fill_pairs fill each.0.0 each.0.1 fill.rows 0 (omega arith)) (all_pairs_differ fills each.1 apart.1)
      (fill_each (λ x. Each (λ y. ¬ (x ≡ y)) (all_keys fills)) fill.rows fill 0
      (λ r j from below column. all_each_key (λ y. ¬ (key fill r j ≡ y)) fills (across fills each.1 apart.0 r j (omega arith) column)))
    where
      across : (others : List Fill) → Each IsSomeFill others → Each (AreApart fill) others → (r j : ℕ) → r < fill.rows → j < fill.cols → Each (λ other. (r' j' : ℕ) → r' < other.rows → j' < other.cols → ¬ (key fill r j ≡ key other r' j')) others
      across [] e a r j row column = tt
      across (other ∷ others) e a r j row column = (λ r' j' row' column' same. other_keys fill other each.0 e.0 a.0 r j r' j' row column row' column' same, across others e.1 a.1 r j row column)

  pub few_elements : (fills : List Fill) → Each IsSomeFill fills → EachPair AreApart fills → sum_of_elements fills ≤ typing.leaves * count_of shape
  few_elements fills each apart =
      let few = few_items (λ x. x) (typing.leaves * count_of shape) (all_keys fills)
      (all_each_key (λ x. x < typing.leaves * count_of shape) fills (each_weaker IsSomeFill (λ fill. (r j : ℕ) → r < fill.rows → j < fill.cols → key fill r j < typing.leaves * count_of shape)
      (λ fill is r j row column. let at = element_at fill is.0 is.1 r j row column in key_below fill r j is.0 at.0 at.1) fills each))
      (all_pairs_differ fills each apart) in
      let long = all_length fills in
      omega arith

  pub has_elements : (fills : List Fill) (most : ℕ) → Each IsSomeFill fills → sum_of_elements fills ≤ most → HasElements fills most
  unfolding sum_of_elements
  has_elements [] most each few = tt
  has_elements (fill ∷ fills) most each few = (each.0.1.some_rows, each.0.1.some_cols, sum_of_elements fills, few, has_elements fills (sum_of_elements fills) each.1 (omega arith))
