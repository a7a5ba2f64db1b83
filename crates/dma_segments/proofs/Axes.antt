-- The runs of each axis have each of its places once, with their sources.
use Rattle.std.proofs.Common.{◌≡◌, ℕ, zero, suc, ◌+◌, ◌-◌, ◌*◌, ◌/◌, ◌%◌, ◌<◌, ◌≤◌, Option, None, Some, List, [], ◌∷◌, ◌++◌, inl, inr, ap, sym, ◌∙◌, refl, subst, arith, min}
use Rattle.std.specs.Prelude.{ℤ, pos, negsuc, ◌+ℤ◌, map, Bool, true, false, nat_le, if◌then◌else◌}
use Rattle.std.specs.List.{range_with_len}
use Rattle.std.proofs.lemmas.Bool.{cases_lt, cases_eq}
use Rattle.std.proofs.lemmas.Int.{ints}
use Rattle.std.proofs.lemmas.Nat.{div-add-mod', mod_below, div-mul-add, le-div, same_from_place}
use Rattle.std.proofs.Math.Nat.{add-mul-div_right}
use Rattle.venice_isa.proofs.Regions.{item_fits}
use Rattle.ven_base.specs.Place.{place_within, place_round}
use Rattle.ven_base.specs.Wrap.{AreCongruent}
use Rattle.ven_base.proofs.Places.{place_within-is}
use Rattle.ven_base.proofs.Congruence.{AreCongruent-sym, AreCongruent-trans, AreCongruent-add, AreCongruent-refl, rem_below, rem_congruent, near_same}
use borrow.Author.Differences.{same_in, same_out, sum_is_lem, product_is}
use Rattle.dma_segments.specs.declared.patches.Run.{Run}
use Rattle.dma_segments.specs.Run.{further, place_of, source_at, neighbours, unless_empty, some_places, block, block_count, blocks, repeated_runs, plain_runs, later_runs, earlier_runs, shifted_runs, round_runs, cut_runs, phase, phases, single, singles}
use Rattle.dma_segments.proofs.AxisRuns.{HasPlace, IsRunOf, AreRunsApart, AreRunsOf, plain_axis, shifted_axis, round_axis, cut_axis, repeated_axis}
use Rattle.dma_segments.proofs.Lists.{Each, AtLeastOne, EachPair, each_map, one_map, pairs_map, each_flat, one_flat, each_weaker, one_weaker, pairs_flat, pairs_weaker}

-- ---- lists of numbers

pub each_in_range : (P : ℕ → Type 0) (start n : ℕ) → ((i : ℕ) → start ≤ i → i < start + n → P i) → Each P (range_with_len start n)
each_in_range P start zero f = tt
each_in_range P start (suc n) f = (f start (omega arith) (omega arith), each_in_range P (start + 1) n (λ i low high. f i (omega arith) (omega arith)))

pub one_in_range : (P : ℕ → Type 0) (start n i : ℕ) → start ≤ i → i < start + n → P i → AtLeastOne P (range_with_len start n)
one_in_range P start zero i low high h = absurd (omega arith)
one_in_range P start (suc n) i low high h =
    elim (cases_eq i start) [
      | inl same ↦ inl (subst P same h)
      | inr other ↦ inr (one_in_range P (start + 1) n i (omega arith) (omega arith) h)
    ]

pub pairs_in_range : (R : ℕ → ℕ → Type 0) (start n : ℕ) → ((i j : ℕ) → start ≤ i → i < j → j < start + n → R i j) → EachPair R (range_with_len start n)
pairs_in_range R start zero f = tt
pairs_in_range R start (suc n) f =
    (each_in_range (R start) (start + 1) n (λ j low high. f start j (omega arith) (omega arith) (omega arith)), pairs_in_range R (start + 1) n (λ i j low l high. f i j (omega arith) l (omega arith)))

-- ---- one run

further_once : (o : Option ℕ) (r : ℕ) → further o r ≡ further o (r * 1)
further_once o r = let e : r ≡ r * 1 = omega arith in ap (further o) e

-- places one after another, from one on
places_run : (n : ℕ) (axis : ℕ → Option ℕ) (first m : ℕ) (X : Option ℕ) → 1 ≤ m → first + m ≤ n → ((r : ℕ) → r < m → axis (first + r) ≡ further X r) → IsRunOf n axis (neighbours first m X)
places_run n axis first m X some inside sources = record {
  some = some;
  moves = omega arith;
  inside = λ r below. omega arith;
  sources = λ r below.
      let e : first + r * 1 ≡ first + r = omega arith in
      ap axis e ∙ sources r below ∙ further_once X r;
}

pub alone : (n : ℕ) (axis : ℕ → Option ℕ) (run : Run) → IsRunOf n axis run → ((i : ℕ) → i < n → HasPlace run i) → AreRunsOf n axis (run ∷ [])
alone n axis run is has = record { each = (is, tt); covered = λ i below. inl (has i below); once = (tt, tt) }

-- two runs, one after the other, either of which may be empty
pub two_parts : (n : ℕ) (axis : ℕ → Option ℕ) (m : ℕ) (X Y : Option ℕ) → m ≤ n → ((r : ℕ) → r < m → axis r ≡ further X r) → ((r : ℕ) → r < n - m → axis (m + r) ≡ further Y r)
    → AreRunsOf n axis (some_places 0 m X ++ some_places m (n - m) Y)
two_parts n axis m X Y within left right = by m (n - m) refl refl
  where
    left_run : 1 ≤ m → IsRunOf n axis (neighbours 0 m X)
    left_run some = places_run n axis 0 m X some (omega arith) (λ r below. let e : 0 + r ≡ r = omega arith in ap axis e ∙ left r below)

    right_run : 1 ≤ n - m → IsRunOf n axis (neighbours m (n - m) Y)
    right_run some = places_run n axis m (n - m) Y some (omega arith) right

    by : (a b : ℕ) → a ≡ m → b ≡ n - m → AreRunsOf n axis (unless_empty a (neighbours 0 m X) ++ unless_empty b (neighbours m (n - m) Y))
    by zero zero a_is b_is = record { each = tt; covered = λ i below. absurd (omega arith); once = tt }
    by (suc a) zero a_is b_is = alone n axis (neighbours 0 m X) (left_run (omega arith)) (λ i below. (i, omega arith, omega arith))
    by zero (suc b) a_is b_is = alone n axis (neighbours m (n - m) Y) (right_run (omega arith)) (λ i below. (i, omega arith, omega arith))
    by (suc a) (suc b) a_is b_is = record {
      each = (left_run (omega arith), (right_run (omega arith), tt));
      covered = λ i below. elim (cases_lt i m) [
        | inl before ↦ inl (i, before, omega arith)
        | inr after ↦ inr (inl (i - m, omega arith, omega arith))
      ];
      once = ((λ i (r, row, is) (k, col, js). omega arith, tt), (tt, tt));
    }

-- ---- identity

pub plain_is : (start n : ℕ) → 1 ≤ n → AreRunsOf n (plain_axis start) (plain_runs start n)
plain_is start n some = alone n (plain_axis start) (neighbours 0 n (Some start)) (places_run n (plain_axis start) 0 n (Some start) some (omega arith) (λ r below. let e : start + (0 + r) ≡ start + r = omega arith in ap (λ m. Some m) e)) (λ i below. (i, below, omega arith))

-- ---- shift

within_some : (n : ℕ) (k : ℤ) (q : ℕ) → k ≡ pos q → q < n → place_within n k ≡ Some q
within_some n k q is below = (place_within-is n k q).1 (is, below)

within_above : (n : ℕ) (k : ℤ) (q : ℕ) → k ≡ pos q → n ≤ q → place_within n k ≡ None
within_above n k q is above = by (place_within n k) refl
  where
    by : (o : Option ℕ) → place_within n k ≡ o → place_within n k ≡ None
    by None e = e
    by (Some s) e =
        let found = (place_within-is n k s).0 e in
        let same : pos q ≡ pos s = sym is ∙ found.0 in
        let places : q ≡ s = cc in
        absurd (omega (arith, found.1))

within_below : (n : ℕ) (k : ℤ) (q : ℕ) → k ≡ negsuc q → place_within n k ≡ None
within_below n k q is = ap (place_within n) is

later_is : (size k start n : ℕ) → AreRunsOf n (shifted_axis size (pos k) start) (later_runs size k start n)
later_is size k start n =
    two_parts n (shifted_axis size (pos k) start) (min n (size - (start + k))) (Some (start + k)) None (omega arith)
    (λ r below. within_some size (pos (start + r) +ℤ pos k) (start + k + r) (omega (arith, ints)) (omega arith))
    (λ r below. let m = min n (size - (start + k)) in within_above size (pos (start + (m + r)) +ℤ pos k) (start + (m + r) + k) (omega (arith, ints)) (omega arith))

earlier_is : (size k start n : ℕ) → start + n ≤ size → AreRunsOf n (shifted_axis size (negsuc k) start) (earlier_runs (suc k) start n)
earlier_is size k start n inside =
    let m = min n (suc k - start) in
    two_parts n (shifted_axis size (negsuc k) start) m None (Some (start + m - suc k)) (omega arith)
    (λ r below. within_below size (pos (start + r) +ℤ negsuc k) (k - (start + r)) (omega (arith, ints)))
    (λ r below. within_some size (pos (start + (m + r)) +ℤ negsuc k) (start + m - suc k + r) (omega (arith, ints)) (omega arith))

pub shifted_is : (size : ℕ) (d : ℤ) (start n : ℕ) → start + n ≤ size → AreRunsOf n (shifted_axis size d start) (shifted_runs size d start n)
shifted_is size (pos k) start n inside = later_is size k start n
shifted_is size (negsuc k) start n inside = earlier_is size k start n inside

-- ---- rotation

-- the place below n that is congruent is the place round
round_is : (n : ℕ) (k : ℤ) (q : ℕ) → q < n → AreCongruent n k (pos q) → place_round n k ≡ q
round_is n k q below congruent =
    let place = place_round n k in
    let near : place < n = rem_below n k (omega arith) in
    let same : pos place ≡ pos q = near_same n (pos 0) (pos place) (pos q) (AreCongruent-trans n (pos place) k (pos q) (AreCongruent-sym n k (pos place) (rem_congruent n k (omega arith))) congruent) (omega (arith, ints)) (omega (arith, ints)) (omega (arith, ints)) (omega (arith, ints)) in
    cc

-- a place further on is congruent to the first place round, as much further on
further_round : (n : ℕ) (d : ℤ) (start i : ℕ) → 0 < n → AreCongruent n (pos (start + i) +ℤ d) (pos (place_round n (pos start +ℤ d) + i))
further_round n d start i some =
    let q = place_round n (pos start +ℤ d) in
    let c = AreCongruent-add n (pos start +ℤ d) (pos q) (pos i) (pos i) (rem_congruent n (pos start +ℤ d) some) (AreCongruent-refl n (pos i)) in
    let left : (pos start +ℤ d) +ℤ pos i ≡ pos (start + i) +ℤ d = omega (arith, ints) in
    let right : pos q +ℤ pos i ≡ pos (q + i) = omega (arith, ints) in
    subst (λ x. AreCongruent n x (pos (q + i))) left (subst (λ y. AreCongruent n ((pos start +ℤ d) +ℤ pos i) y) right c)

-- once round is congruent
once_round : (n a b : ℕ) → a ≡ b + n → AreCongruent n (pos a) (pos b)
once_round n a b is = (pos 1, omega (arith, same_in, same_out, sum_is_lem, product_is (pos 1) (pos n)))

pub round_runs_is : (size : ℕ) (d : ℤ) (start n : ℕ) → 0 < size → n ≤ size → AreRunsOf n (round_axis size d start) (round_runs size d start n)
round_runs_is size d start n some inside =
    let q = place_round size (pos start +ℤ d) in
    let m = min n (size - q) in
    let near : q < size = rem_below size (pos start +ℤ d) some in
    two_parts n (round_axis size d start) m (Some q) (Some 0) (omega arith)
    (λ r below. ap (λ p. Some p) (round_is size (pos (start + r) +ℤ d) (q + r) (omega arith) (further_round size d start r some)))
    (λ r below.
    let e : q + (m + r) ≡ r + size = omega arith in
    let c = AreCongruent-trans size (pos (start + (m + r)) +ℤ d) (pos (q + (m + r))) (pos (0 + r)) (further_round size d start (m + r) some) (once_round size (q + (m + r)) (0 + r) (omega arith)) in
    ap (λ p. Some p) (round_is size (pos (start + (m + r)) +ℤ d) (0 + r) (omega arith) c))

-- ---- section

pub cut_is : (first step start n : ℕ) → 1 ≤ n → AreRunsOf n (cut_axis first step start) (cut_runs first step start n)
cut_is first step start n some =
    let run : Run = record { first = 0; step = 1; count = n; source = Some (first + start * step); source_step = step } in
    alone n (cut_axis first step start) run
    (record {
      some = some;
      moves = omega arith;
      inside = λ r below. omega arith;
      sources = λ r below. let e : first + (start + (0 + r * 1)) * step ≡ first + start * step + r * step = omega arith in ap (λ p. Some p) e;
    })
    (λ i below. (i, below, omega arith))

-- ---- one run for each place

module _ (n : ℕ) (axis : ℕ → Option ℕ) where
  single_is : (run : Run) → IsRunOf n axis run → (r : ℕ) → r < run.count → IsRunOf n axis (single run r)
  single_is run is r below = record {
    some = omega arith;
    moves = omega arith;
    inside = λ k one. let l = is.inside r below in omega arith;
    sources = λ k one.
        let e : place_of run r + k * 1 ≡ place_of run r = omega arith in
        let z : 0 ≡ k * 0 = omega arith in
        ap axis e ∙ is.sources r below ∙ no_further (source_at run r) ∙ ap (further (source_at run r)) z;
  }
    where
      no_further : (o : Option ℕ) → o ≡ further o 0
      no_further None = refl
      no_further (Some s) = let e : s ≡ s + 0 = omega arith in ap (λ p. Some p) e

  abbrev parts : Run → List Run
  parts run = map (single run) (range_with_len 0 run.count)

  single_place : (run : Run) (r i : ℕ) → HasPlace (single run r) i → place_of run r ≡ i
  single_place run r i (k, below, is) = omega arith

  later_place : (run : Run) → IsRunOf n axis run → (r k : ℕ) → r < k → place_of run r < place_of run k
  later_place run is r k l =
      let fits = item_fits r k run.step l in
      omega (arith, is.moves)

  pub singles_are : (runs : List Run) → AreRunsOf n axis runs → AreRunsOf n axis (singles runs)
  singles_are runs all = record {
    each = each_flat parts (IsRunOf n axis) runs (each_weaker (IsRunOf n axis) (λ run. Each (IsRunOf n axis) (parts run))
        (λ run is. each_map (single run) (IsRunOf n axis) (range_with_len 0 run.count) (each_in_range (λ r. IsRunOf n axis (single run r)) 0 run.count (λ r low high. single_is run is r (omega arith)))) runs all.each);
    covered = λ i below. one_flat parts (λ run. HasPlace run i) runs (one_weaker (λ run. HasPlace run i) (IsRunOf n axis) (λ run. AtLeastOne (λ x. HasPlace x i) (parts run))
        (λ run is (r, row, here). one_map (single run) (λ x. HasPlace x i) (range_with_len 0 run.count) (one_in_range (λ k. HasPlace (single run k) i) 0 run.count r (omega arith) (omega arith) (0, omega arith, omega arith)))
        runs all.each (all.covered i below));
    once = pairs_flat parts AreRunsApart runs
        (each_weaker (IsRunOf n axis) (λ run. EachPair AreRunsApart (parts run))
        (λ run is. pairs_map (single run) AreRunsApart (range_with_len 0 run.count) (pairs_in_range (λ r k. AreRunsApart (single run r) (single run k)) 0 run.count
        (λ r k low l high i x y. let first = single_place run r i x in let second = single_place run k i y in let less = later_place run is r k l in omega arith))) runs all.each)
        (pairs_weaker AreRunsApart (IsRunOf n axis) (λ x y. Each (λ b. Each (AreRunsApart b) (parts y)) (parts x))
        (λ x y xt yt apart. each_map (single x) (λ b. Each (AreRunsApart b) (parts y)) (range_with_len 0 x.count) (each_in_range (λ r. Each (AreRunsApart (single x r)) (parts y)) 0 x.count
        (λ r low high. each_map (single y) (AreRunsApart (single x r)) (range_with_len 0 y.count) (each_in_range (λ k. AreRunsApart (single x r) (single y k)) 0 y.count
        (λ k low' high' i in_x in_y. apart i (r, omega arith, single_place x r i in_x) (k, omega arith, single_place y k i in_y)))))) runs all.each all.once);
  }

-- ---- stretch, by phase

-- so many rounds begin before the end
before_end : (r t m : ℕ) → 1 ≤ t → r < (m + t - 1) / t → r * t < m
before_end r t m some below =
    let whole = div-add-mod' (m + t - 1) t in
    let fits = item_fits r ((m + t - 1) / t) t below in
    omega arith

round_begins : (r t m : ℕ) → 1 ≤ t → r * t < m → r < (m + t - 1) / t
round_begins r t m some below = let l : (r + 1) * t ≤ m + t - 1 = omega arith in let q = le-div (r + 1) (m + t - 1) t some l in omega arith

module _ (times start n : ℕ) (some_times : 1 ≤ times) (some : 1 ≤ n) where
  phase_is : (p : ℕ) → p < min times n → IsRunOf n (repeated_axis times start) (phase times start n p)
  phase_is p below = record {
    some = let l = round_begins 0 times (n - p) some_times (omega arith) in omega arith;
    moves = some_times;
    inside = λ r row. let l = before_end r times (n - p) some_times row in omega arith;
    sources = λ r row.
        let e : start + (p + r * times) ≡ start + p + r * times = omega arith in
        let once : r ≡ r * 1 = omega arith in
        ap (λ m. Some (m / times)) e ∙ ap (λ m. Some m) (add-mul-div_right (start + p) r some_times) ∙ ap (λ m. Some ((start + p) / times + m)) once;
  }

  phase_has : (i : ℕ) → i < n → HasPlace (phase times start n (i % times)) i
  phase_has i below =
      let whole = div-add-mod' i times in
      (i / times, round_begins (i / times) times (n - i % times) some_times (omega arith), omega arith)

  pub phases_are : AreRunsOf n (repeated_axis times start) (phases times start n)
  phases_are = record {
    each = each_map (phase times start n) (IsRunOf n (repeated_axis times start)) (range_with_len 0 (min times n)) (each_in_range (λ p. IsRunOf n (repeated_axis times start) (phase times start n p)) 0 (min times n) (λ p low high. phase_is p (omega arith)));
    covered = λ i below.
        let rest = mod_below i times some_times in
        let whole = div-add-mod' i times in
        one_map (phase times start n) (λ run. HasPlace run i) (range_with_len 0 (min times n)) (one_in_range (λ p. HasPlace (phase times start n p) i) 0 (min times n) (i % times) (omega arith) (omega arith) (phase_has i below));
    once = pairs_map (phase times start n) AreRunsApart (range_with_len 0 (min times n)) (pairs_in_range (λ p q. AreRunsApart (phase times start n p) (phase times start n q)) 0 (min times n)
        (λ p q low l high i (r, row, is) (k, col, js). let same = same_from_place r p k q times (omega arith) (omega arith) (omega arith) in omega (arith, same.1)));
  }

  -- ---- stretch, by source

  pub quotient_at_most : (a b : ℕ) → a ≤ b → a / times ≤ b / times
  quotient_at_most a b l = let whole = div-add-mod' a times in le-div (a / times) b times some_times (omega arith)

  pub block_some : 1 ≤ block_count times start n
  block_some = let l = quotient_at_most start (start + n - 1) (omega arith) in omega arith

  -- a source that is one of the piece's begins before the piece's end and ends after its start
  source_near : (q : ℕ) → start / times ≤ q → q < start / times + block_count times start n → (q * times < start + n) × (start < q * times + times)
  source_near q low high =
      let last : q ≤ (start + n - 1) / times = omega arith in
      let whole = div-add-mod' (start + n - 1) times in
      let first = div-add-mod' start times in
      let rest = mod_below start times some_times in
      let fits = item_fits q ((start + n - 1) / times + 1) times (omega arith) in
      let from = item_fits (start / times) (q + 1) times (omega arith) in
      (omega arith, omega arith)

  block_is : (q : ℕ) → start / times ≤ q → q < start / times + block_count times start n → IsRunOf n (repeated_axis times start) (block times start n q)
  block_is q low high =
      let near = source_near q low high in
      record {
        some = omega (arith, near.0, near.1);
        moves = omega arith;
        inside = λ r row. omega arith;
        sources = λ r row.
            let b = start + (q * times - start + r * 1) - q * times in
            let e : start + (q * times - start + r * 1) ≡ q * times + b = omega (arith, near.1) in
            let z : q ≡ q + r * 0 = omega arith in
            ap (λ m. Some (m / times)) e ∙ ap (λ m. Some m) (div-mul-add q times b (omega (arith, near.1))) ∙ ap (λ m. Some m) z;
      }

  block_has : (i : ℕ) → i < n → HasPlace (block times start n ((start + i) / times)) i
  block_has i below =
      let q = (start + i) / times in
      let whole = div-add-mod' (start + i) times in
      let rest = mod_below (start + i) times some_times in
      (i - (q * times - start), omega arith, omega arith)

  pub blocks_are : AreRunsOf n (repeated_axis times start) (blocks times start n)
  blocks_are =
      let first = start / times in
      let count = block_count times start n in
      record {
        each = each_map (block times start n) (IsRunOf n (repeated_axis times start)) (range_with_len first count) (each_in_range (λ q. IsRunOf n (repeated_axis times start) (block times start n q)) first count block_is);
        covered = λ i below.
            let low = quotient_at_most start (start + i) (omega arith) in
            let high = quotient_at_most (start + i) (start + n - 1) (omega arith) in
            one_map (block times start n) (λ run. HasPlace run i) (range_with_len first count) (one_in_range (λ q. HasPlace (block times start n q) i) first count ((start + i) / times) low (omega arith) (block_has i below));
        once = pairs_map (block times start n) AreRunsApart (range_with_len first count) (pairs_in_range (λ p q. AreRunsApart (block times start n p) (block times start n q)) first count
            (λ p q low l high i (r, row, is) (k, col, js). let near = source_near p low (omega arith) in let fits = item_fits p q times l in omega (arith, near.1)));
      }

  pub repeated_is : AreRunsOf n (repeated_axis times start) (repeated_runs times start n)
  repeated_is = by (nat_le (min times n) (block_count times start n))
    where
      by : (b : Bool) → AreRunsOf n (repeated_axis times start) (if b then phases times start n else blocks times start n)
      by true = phases_are
      by false = blocks_are

-- ---- in code

-- a source up to the last one begins before the end
pub begins_near : (times start n q : ℕ) → 1 ≤ n → q < (start + n - 1) / times + 1 → q * times < start + n
begins_near times start n q some below =
    let whole = div-add-mod' (start + n - 1) times in
    let fits = item_fits q ((start + n - 1) / times + 1) times below in
    omega arith
