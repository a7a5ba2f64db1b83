-- Each map's axis goes through its runs that have a source.
use Rattle.std.proofs.Common.{◌≡◌, ℕ, zero, suc, ◌+◌, ◌-◌, ◌*◌, ◌/◌, ◌%◌, ◌<◌, ◌≤◌, inl, inr, min, ℤ, pos, negsuc, ◌+ℤ◌, List, [], ◌∷◌, ◌++◌, refl, sym, ap, ◌∙◌, subst, arith, Bool, true, false, cond, ltb, leb, None, Some}
use Rattle.std.specs.Prelude.{map}
use Rattle.std.specs.List.{range_with_len}
use Rattle.std.proofs.lemmas.Bool.{cond_both, cond-false, and_from, ltb-true, ltb-false, lt-ltb, le-ltb, le-leb, lt-leb, cases_lt}
use Rattle.std.proofs.lemmas.List.{append-nil}
use Rattle.std.proofs.lemmas.List.Concat.{flat_map-append}
use Rattle.ven_base.specs.Place.{place_round}
use Rattle.ven_base.specs.Wrap.{AreCongruent}
use Rattle.ven_base.proofs.Congruence.{AreCongruent-sym, AreCongruent-trans, AreCongruent-add, AreCongruent-refl, rem_below, rem_congruent, near_same}
use Rattle.std.proofs.lemmas.Int.{ints}
use Rattle.std.proofs.Math.Nat.{mod-lt}
use Rattle.venice_isa.specs.Host.{with_number}
use Rattle.dma_segments.specs.declared.patches.Run.{Run}
use Rattle.dma_segments.specs.Run.{neighbours, unless_empty, some_places, plain_runs, later_runs, earlier_runs, shifted_runs, round_runs, cut_runs, phase, phase_count, phases, block, block_count, blocks, repeated_runs}
use Rattle.host_programs.specs.Expr.{Expr, Number, Variable, Offset, Sum, Difference, Product, Quotient, Remainder, IfLess, value, is_below}
use Rattle.transfer_programs.specs.Axis.{RunExpr, scaled, lesser, Axis, named, both_axes, pick_run, either_runs}
use Rattle.transfer_programs.specs.SourcedRuns.{SourcedRun, sourced_from, sourced, run_value, is_run_below, IsRun, GoesThrough}
use Rattle.host_programs.specs.Program.{in_turn}
use Rattle.transfer_programs.specs.ReadProgram.{plain_axis, neighbours_axis, later_axis, earlier_axis, shifted_axis, round_axis, cut_axis, phase_expr, block_first, block_expr, repeated_axis}
use Rattle.host_programs.proofs.Blocks.{with_same}
use Rattle.host_programs.proofs.Exprs.{below_more}
use Rattle.transfer_programs.proofs.Axes.{value_agree, agree_new, value_scaled, below_scaled, value_lesser, agree_turn, goes_one, goes_named, goes_some, goes_both, AxisRule, any_run, goes_rule, either_by}

pub goes_same : (axis : Axis) (d : ℕ) (f : ℕ → ℕ) (xs ys : List SourcedRun) → xs ≡ ys → GoesThrough axis d f xs → GoesThrough axis d f ys
goes_same axis d f xs ys same goes = subst (λ zs. GoesThrough axis d f zs) same goes

same_by : (Q : Axis → (d : ℕ) → (f : ℕ → ℕ) → List SourcedRun → Type 0) (axis : Axis) (d : ℕ) (f : ℕ → ℕ) (xs ys : List SourcedRun) → xs ≡ ys → Q axis d f xs → Q axis d f ys
same_by Q axis d f xs ys same holds = subst (λ zs. Q axis d f zs) same holds

-- ---- runs without a source

pub sourced_append : (xs ys : List Run) → sourced (xs ++ ys) ≡ sourced xs ++ sourced ys
sourced_append xs ys = flat_map-append (λ run. sourced_from run.source run) xs ys

none_places : (first n : ℕ) → sourced (some_places first n None) ≡ []
none_places first zero = refl
none_places first (suc n) = refl

guard : (n : ℕ) (run : Run) (v : SourcedRun) → sourced (run ∷ []) ≡ v ∷ [] → cond (ltb n 1) [] (v ∷ []) ≡ sourced (unless_empty n run)
guard zero run v is = refl
guard (suc n) run v is = cond-false (ltb (suc n) 1) [] (v ∷ []) (le-ltb (suc n) 1 (omega arith)) ∙ sym is

-- ---- a new name

pub new_value : (e : Expr) (d v : ℕ) (f : ℕ → ℕ) → is_below e d ≡ true → value e (with_number d v f) ≡ value e f
new_value e d v f low = value_agree e d (with_number d v f) f (agree_new d d v f (omega arith)) low

pub new_below : (d : ℕ) → is_below (Variable d) (d + 1) ≡ true
new_below d = lt-ltb d (d + 1) (omega arith)

-- ---- neighbours

goes_neighbours : (first count source : Expr) (d : ℕ) (f : ℕ → ℕ) → is_below first d ≡ true → is_below source d ≡ true
    → GoesThrough (neighbours_axis first count source) d f (sourced (some_places (value first f) (value count f) (Some (value source f))))
goes_neighbours first count source d f low_first low_source =
    let n = value count f in
    let f' = with_number d n f in
    let v : SourcedRun = record { first = value first f; step = 1; count = n; source = value source f; source_step = 1 } in
    let run : Expr → RunExpr = λ c. record { first = first; step = Number 1; count = c; source = source; source_step = Number 1 } in
    let e0 = new_value first d n f low_first in
    let e1 = with_same f d n in
    let e2 = new_value source d n f low_source in
    let same : run_value (run (Variable d)) f' ≡ v = cc in
    let is : IsRun (run (Variable d)) (d + 1) f' v = record {
      below = and_from _ _ (below_more first d (d + 1) (omega arith) low_first) (and_from _ _ refl (and_from _ _ (new_below d) (and_from _ _ (below_more source d (d + 1) (omega arith) low_source) refl)));
      values = same;
    } in
    goes_same (neighbours_axis first count source) d f (cond (ltb n 1) [] (v ∷ [])) (sourced (some_places (value first f) n (Some (value source f)))) (guard n (neighbours (value first f) n (Some (value source f))) v refl) (goes_some count run d f v is)

pub goes_plain : (start n : Expr) (d : ℕ) (f : ℕ → ℕ) → is_below start d ≡ true → is_below n d ≡ true → GoesThrough (plain_axis start n) d f (sourced (plain_runs (value start f) (value n f)))
goes_plain start n d f low_start low_n =
    let run : RunExpr = record { first = Number 0; step = Number 1; count = n; source = start; source_step = Number 1 } in
    let v : SourcedRun = record { first = 0; step = 1; count = value n f; source = value start f; source_step = 1 } in
    goes_one run d f v (record { below = and_from _ _ refl (and_from _ _ refl (and_from _ _ low_n (and_from _ _ low_start refl))); values = refl })

pub goes_cut : (first step : ℕ) (start n : Expr) (d : ℕ) (f : ℕ → ℕ) → is_below start d ≡ true → is_below n d ≡ true → GoesThrough (cut_axis first step start n) d f (sourced (cut_runs first step (value start f) (value n f)))
goes_cut first step start n d f low_start low_n =
    let run : RunExpr = record { first = Number 0; step = Number 1; count = n; source = Offset (scaled start step) first; source_step = Number step } in
    let made : ℕ → SourcedRun = λ m. record { first = 0; step = 1; count = value n f; source = m; source_step = step } in
    let e : value (scaled start step) f + first ≡ first + value start f * step = omega (arith, value_scaled start step f) in
    goes_one run d f (made (first + value start f * step)) (record {
      below = and_from _ _ refl (and_from _ _ refl (and_from _ _ low_n (and_from _ _ (below_scaled start step d low_start) refl)));
      values = ap made e;
    })

-- ---- shift

pub goes_later : (size k : ℕ) (start n : Expr) (d : ℕ) (f : ℕ → ℕ) → is_below start d ≡ true → is_below n d ≡ true → GoesThrough (later_axis size k start n) d f (sourced (later_runs size k (value start f) (value n f)))
goes_later size k start n d f low_start low_n =
    let from = value start f + k in
    let inside = min (value n f) (size - from) in
    let count = IfLess (Offset start k) (Number size) (lesser n (Difference (Number size) (Offset start k))) (Number 0) in
    let least = value_lesser n (Difference (Number size) (Offset start k)) f in
    let is : value count f ≡ inside = cond_both (ltb from size) (value (lesser n (Difference (Number size) (Offset start k))) f) 0 (λ m. m ≡ inside) (λ e. least) (λ e. omega (arith, outside from size e)) in
    goes_same (later_axis size k start n) d f _ _
    (ap (λ m. sourced (some_places 0 m (Some from))) is ∙ sym (append-nil (sourced (some_places 0 inside (Some from)))) ∙ ap (λ xs. sourced (some_places 0 inside (Some from)) ++ xs) (sym (none_places inside (value n f - inside)))
    ∙ sym (sourced_append (some_places 0 inside (Some from)) (some_places inside (value n f - inside) None)))
    (goes_neighbours (Number 0) count (Offset start k) d f refl low_start)
  where
    outside : (a b : ℕ) → ltb a b ≡ false → b ≤ a
    outside a b e = ltb-false a b e

pub goes_earlier : (k : ℕ) (start n : Expr) (d : ℕ) (f : ℕ → ℕ) → is_below start d ≡ true → is_below n d ≡ true → GoesThrough (earlier_axis k start n) d f (sourced (earlier_runs k (value start f) (value n f)))
goes_earlier k start n d f low_start low_n =
    let back = IfLess start (Number k) (Difference (Number k) start) (Number 0) in
    let away = lesser n back in
    let outside = min (value n f) (k - value start f) in
    let back_is : value back f ≡ k - value start f = cond_both (ltb (value start f) k) (k - value start f) 0 (λ m. m ≡ k - value start f) (λ e. refl) (λ e. omega (arith, ltb-false (value start f) k e)) in
    let is : value away f ≡ outside = value_lesser n back f ∙ ap (min (value n f)) back_is in
    let f' = with_number d (value away f) f in
    let o : value (Variable d) f' ≡ outside = with_same f d (value away f) ∙ is in
    let e_n = new_value n d (value away f) f low_n in
    let e_start = new_value start d (value away f) f low_start in
    let low_source = and_from _ _ (and_from _ _ (below_more start d (d + 1) (omega arith) low_start) (new_below d)) refl in
    let inner = goes_neighbours (Variable d) (Difference n (Variable d)) (Difference (Sum start (Variable d)) (Number k)) (d + 1) f' (new_below d) low_source in
    let e_count : value n f' - value (Variable d) f' ≡ value n f - outside = ap (λ m. m - value (Variable d) f') e_n ∙ ap (λ m. value n f - m) o in
    let e_source : value start f' + value (Variable d) f' - k ≡ value start f + outside - k = ap (λ m. m + value (Variable d) f' - k) e_start ∙ ap (λ m. value start f + m - k) o in
    let same = ap (λ m. sourced (some_places m (value n f' - value (Variable d) f') (Some (value start f' + value (Variable d) f' - k)))) o ∙ ap (λ m. sourced (some_places outside m (Some (value start f' + value (Variable d) f' - k)))) e_count
    ∙ ap (λ m. sourced (some_places outside (value n f - outside) (Some m))) e_source in
    let whole = sym (sourced_append (some_places 0 outside None) (some_places outside (value n f - outside) (Some (value start f + outside - k))) ∙ ap (λ xs. xs ++ sourced (some_places outside (value n f - outside) (Some (value start f + outside - k)))) (none_places 0 outside)) in
    goes_named away (λ outside. neighbours_axis outside (Difference n outside) (Difference (Sum start outside) (Number k))) d f _
    (goes_same (neighbours_axis (Variable d) (Difference n (Variable d)) (Difference (Sum start (Variable d)) (Number k))) (d + 1) f' _ _ (same ∙ whole) inner)

-- a shift past the size has no sources, as that by the size
later_capped : (size k start n : ℕ) → sourced (later_runs size (min k size) start n) ≡ sourced (later_runs size k start n)
later_capped size k start n = elim (cases_lt size k) [
  | inl past ↦
      let far : min n (size - (start + k)) ≡ 0 = omega (arith, past) in
      let full : min n (size - (start + min k size)) ≡ 0 = omega (arith, past) in
      nothing (min k size) (min n (size - (start + min k size))) full ∙ sym (nothing k (min n (size - (start + k))) far)
  | inr within ↦ let same : min k size ≡ k = omega (arith, within) in ap (λ m. sourced (later_runs size m start n)) same
]
  where
    nothing : (k m : ℕ) → m ≡ 0 → sourced (some_places 0 m (Some (start + k)) ++ some_places m (n - m) None) ≡ []
    nothing k m is = ap (λ m. sourced (some_places 0 m (Some (start + k)) ++ some_places m (n - m) None)) is ∙ none_places 0 (n - 0)

pub goes_shifted : (size : ℕ) (by : ℤ) (start n : Expr) (d : ℕ) (f : ℕ → ℕ) → is_below start d ≡ true → is_below n d ≡ true → GoesThrough (shifted_axis size by start n) d f (sourced (shifted_runs size by (value start f) (value n f)))
goes_shifted size (pos k) start n d f low_start low_n =
    goes_same (later_axis size (min k size) start n) d f _ _ (later_capped size k (value start f) (value n f)) (goes_later size (min k size) start n d f low_start low_n)
goes_shifted size (negsuc k) start n d f low_start low_n = goes_earlier (suc k) start n d f low_start low_n

-- ---- rotation

-- going round from a place is going round by the same from place 0, and then on
abbrev GoesOn : ℕ → ℤ → ℕ → Type 0
GoesOn size by start = place_round size (pos start +ℤ by) ≡ (start + place_round size by) % size

pub goes_round : (size : ℕ) (by : ℤ) (start n : Expr) (d : ℕ) (f : ℕ → ℕ) → GoesOn size by (value start f) → is_below start d ≡ true → is_below n d ≡ true
    → GoesThrough (round_axis size by start n) d f (sourced (round_runs size by (value start f) (value n f)))
goes_round size by start n d f round low_start low_n =
    let q = place_round size (pos (value start f) +ℤ by) in
    let first = Remainder (Offset start (place_round size by)) (Number size) in
    let first_is : value first f ≡ q = sym round in
    let f1 = with_number d (value first f) f in
    let q1 : value (Variable d) f1 ≡ q = with_same f d (value first f) ∙ first_is in
    let before = lesser n (Difference (Number size) (Variable d)) in
    let m = min (value n f) (size - q) in
    let e_n1 = new_value n d (value first f) f low_n in
    let before_is : value before f1 ≡ m = value_lesser n (Difference (Number size) (Variable d)) f1 ∙ ap (λ x. min x (size - value (Variable d) f1)) e_n1 ∙ ap (λ x. min (value n f) (size - x)) q1 in
    let f2 = with_number (d + 1) (value before f1) f1 in
    let m2 : value (Variable (d + 1)) f2 ≡ m = with_same f1 (d + 1) (value before f1) ∙ before_is in
    let low_d : is_below (Variable d) (d + 1) ≡ true = new_below d in
    let q2 : value (Variable d) f2 ≡ q = new_value (Variable d) (d + 1) (value before f1) f1 low_d ∙ q1 in
    let low_n1 = below_more n d (d + 1) (omega arith) low_n in
    let e_n2 : value n f2 ≡ value n f = new_value n (d + 1) (value before f1) f1 low_n1 ∙ e_n1 in
    let low_m : is_below (Variable (d + 1)) (d + 1 + 1) ≡ true = new_below (d + 1) in
    let low_q : is_below (Variable d) (d + 1 + 1) ≡ true = lt-ltb d (d + 1 + 1) (omega arith) in
    let a = neighbours_axis (Number 0) (Variable (d + 1)) (Variable d) in
    let b = neighbours_axis (Variable (d + 1)) (Difference n (Variable (d + 1))) (Number 0) in
    let one = goes_neighbours (Number 0) (Variable (d + 1)) (Variable d) (d + 1 + 1) f2 refl low_q in
    let two = goes_neighbours (Variable (d + 1)) (Difference n (Variable (d + 1))) (Number 0) (d + 1 + 1) f2 low_m refl in
    let rest : value n f2 - value (Variable (d + 1)) f2 ≡ value n f - m = ap (λ x. x - value (Variable (d + 1)) f2) e_n2 ∙ ap (λ x. value n f - x) m2 in
    let xs = sourced (some_places 0 m (Some q)) in
    let ys = sourced (some_places m (value n f - m) (Some 0)) in
    let one_is : sourced (some_places 0 (value (Variable (d + 1)) f2) (Some (value (Variable d) f2))) ≡ xs = ap (λ x. sourced (some_places 0 x (Some (value (Variable d) f2)))) m2 ∙ ap (λ x. sourced (some_places 0 m (Some x))) q2 in
    let two_is : sourced (some_places (value (Variable (d + 1)) f2) (value n f2 - value (Variable (d + 1)) f2) (Some 0)) ≡ ys = ap (λ x. sourced (some_places x (value n f2 - value (Variable (d + 1)) f2) (Some 0))) m2 ∙ ap (λ x. sourced (some_places m x (Some 0))) rest in
    let one' = goes_same a (d + 1 + 1) f2 (sourced (some_places 0 (value (Variable (d + 1)) f2) (Some (value (Variable d) f2)))) xs one_is one in
    let two' = goes_same b (d + 1 + 1) f2 (sourced (some_places (value (Variable (d + 1)) f2) (value n f2 - value (Variable (d + 1)) f2) (Some 0))) ys two_is two in
    let both = goes_both a b (d + 1 + 1) f2 xs ys one' two' in
    let runs = sourced (some_places 0 m (Some q) ++ some_places m (value n f - m) (Some 0)) in
    let whole : xs ++ ys ≡ runs = sym (sourced_append (some_places 0 m (Some q)) (some_places m (value n f - m) (Some 0))) in
    goes_named first (λ first. named (lesser n (Difference (Number size) first)) (λ before. both_axes (neighbours_axis (Number 0) before first) (neighbours_axis before (Difference n before) (Number 0)))) d f runs
    (goes_named before (λ before. both_axes (neighbours_axis (Number 0) before (Variable d)) (neighbours_axis before (Difference n before) (Number 0))) (d + 1) f1 runs
    (goes_same (both_axes a b) (d + 1 + 1) f2 (xs ++ ys) runs whole both))

round_is : (n : ℕ) (k : ℤ) (q : ℕ) → q < n → AreCongruent n k (pos q) → place_round n k ≡ q
round_is n k q below congruent =
    let place = place_round n k in
    let near : place < n = rem_below n k (omega arith) in
    let same : pos place ≡ pos q = near_same n (pos 0) (pos place) (pos q) (AreCongruent-trans n (pos place) k (pos q) (AreCongruent-sym n k (pos place) (rem_congruent n k (omega arith))) congruent) (omega (arith, ints)) (omega (arith, ints)) (omega (arith, ints)) (omega (arith, ints)) in
    cc

pub goes_on : (n : ℕ) (by : ℤ) (start : ℕ) → 0 < n → GoesOn n by start
goes_on n by start some =
    let r = place_round n by in
    let x = start + r in
    let below : x % n < n = mod-lt x {m = n} some in
    let added = AreCongruent-add n (pos start) (pos start) by (pos r) (AreCongruent-refl n (pos start)) (rem_congruent n by some) in
    let sum : pos start +ℤ pos r ≡ pos x = omega (arith, ints) in
    let one = subst (AreCongruent n (pos start +ℤ by)) sum added in
    round_is n (pos start +ℤ by) (x % n) below (AreCongruent-trans n (pos start +ℤ by) (pos x) (pos (x % n)) one (rem_congruent n (pos x) some))

-- ---- stretch

pub sourced_map : (run : ℕ → Run) (v : ℕ → SourcedRun) → ((t : ℕ) → sourced (run t ∷ []) ≡ v t ∷ []) → (ts : List ℕ) → sourced (map run ts) ≡ map v ts
sourced_map run v is [] = refl
sourced_map run v is (t ∷ ts) = sourced_append (run t ∷ []) (map run ts) ∙ ap (λ xs. xs ++ sourced (map run ts)) (is t) ∙ ap (λ xs. v t ∷ xs) (sourced_map run v is ts)

range_shift : (v : ℕ → SourcedRun) (a b n : ℕ) → map (λ t. v (a + t)) (range_with_len b n) ≡ map v (range_with_len (a + b) n)
range_shift v a b zero = refl
range_shift v a b (suc n) =
    let e : a + (b + 1) ≡ a + b + 1 = omega arith in
    ap (λ xs. v (a + b) ∷ xs) (range_shift v a (b + 1) n ∙ ap (λ m. map v (range_with_len m n)) e)

-- the numbers of an axis, in later registers
pub record StretchAt (k : ℕ) (start n first : Expr) (d : ℕ) (f : ℕ → ℕ) (s m : ℕ) : Type 0 where
  pub low_start : is_below start d ≡ true
  pub low_n : is_below n d ≡ true
  pub low_first : is_below first d ≡ true
  pub start_is : value start f ≡ s
  pub n_is : value n f ≡ m
  pub first_is : value first f ≡ s / k

abbrev pub phase_run : (k s m t : ℕ) → SourcedRun
phase_run k s m t = record { first = t; step = k; count = (m - t + k - 1) / k; source = (s + t) / k; source_step = 1 }

abbrev pub blocked : (first count source : ℕ) → SourcedRun
blocked first count source = record { first = first; step = 1; count = count; source = source; source_step = 0 }

abbrev pub block_run : (k s m q : ℕ) → SourcedRun
block_run k s m q = record { first = q * k - s; step = 1; count = min m (q * k + k - s) - (q * k - s); source = q; source_step = 0 }

module _ (k : ℕ) (start n first : Expr) (d : ℕ) (f : ℕ → ℕ) (s m : ℕ) (at : StretchAt k start n first d f s m) where
  low_turn : is_below (Variable (d + 1)) (d + 2) ≡ true
  low_turn = lt-ltb (d + 1) (d + 2) (omega arith)

  low_n' : is_below n (d + 2) ≡ true
  low_n' = below_more n d (d + 2) (omega arith) at.low_n

  low_s' : is_below start (d + 2) ≡ true
  low_s' = below_more start d (d + 2) (omega arith) at.low_start

  pub phases_below : is_run_below (phase_expr k start n (Variable (d + 1))) (d + 2) ≡ true
  phases_below =
      let count = and_from _ _ (and_from _ _ (and_from _ _ low_n' low_turn) refl) refl in
      let source = and_from _ _ (and_from _ _ low_s' low_turn) refl in
      and_from _ _ low_turn (and_from _ _ refl (and_from _ _ count (and_from _ _ source refl)))

  pub phase_values : (p t : ℕ) → run_value (phase_expr k start n (Variable (d + 1))) (in_turn f d p t) ≡ phase_run k s m t
  phase_values p t =
      let f' = in_turn f d p t in
      let agree = agree_turn d (p - t) t f in
      let here : f' (d + 1) ≡ t = with_same (with_number d (p - t) f) (d + 1) t in
      let e_n = value_agree n d f' f agree at.low_n ∙ at.n_is in
      let e_s = value_agree start d f' f agree at.low_start ∙ at.start_is in
      cc

  pub first_value : (q : ℕ) (f' : ℕ → ℕ) (e : Expr) → value e f' ≡ q → value start f' ≡ s → value (block_first k start e) f' ≡ q * k - s
  first_value q f' e is_q is_s =
      ap (λ x. cond (ltb (x * k) (value start f')) 0 (x * k - value start f')) is_q ∙ ap (λ x. cond (ltb (q * k) x) 0 (q * k - x)) is_s
      ∙ cond_both (ltb (q * k) s) 0 (q * k - s) (λ x. x ≡ q * k - s) (λ e. omega (arith, ltb-true (q * k) s e)) (λ e. refl)

  pub blocks_below : is_run_below (block_expr k start n (Sum first (Variable (d + 1)))) (d + 2) ≡ true
  blocks_below =
      let low = and_from _ _ (below_more first d (d + 2) (omega arith) at.low_first) low_turn in
      let low_begin = and_from _ _ (and_from _ _ (and_from _ _ low refl) low_s') (and_from _ _ refl (and_from _ _ (and_from _ _ low refl) low_s')) in
      let low_end = and_from _ _ (and_from _ _ low refl) low_s' in
      let low_least = and_from _ _ (and_from _ _ low_n' low_end) (and_from _ _ low_n' low_end) in
      and_from _ _ low_begin (and_from _ _ refl (and_from _ _ (and_from _ _ low_least low_begin) (and_from _ _ low refl)))

  pub block_values : (p t : ℕ) → run_value (block_expr k start n (Sum first (Variable (d + 1)))) (in_turn f d p t) ≡ block_run k s m (s / k + t)
  block_values p t =
      let f' = in_turn f d p t in
      let agree = agree_turn d (p - t) t f in
      let q = Sum first (Variable (d + 1)) in
      let here : f' (d + 1) ≡ t = with_same (with_number d (p - t) f) (d + 1) t in
      let e_first = value_agree first d f' f agree at.low_first ∙ at.first_is in
      let e_q : value q f' ≡ s / k + t = ap (λ x. x + f' (d + 1)) e_first ∙ ap (λ x. s / k + x) here in
      let e_n = value_agree n d f' f agree at.low_n ∙ at.n_is in
      let e_s = value_agree start d f' f agree at.low_start ∙ at.start_is in
      let e_begin = first_value (s / k + t) f' q e_q e_s in
      let e_end : value (Difference (Offset (Product q (Number k)) k) start) f' ≡ (s / k + t) * k + k - s = ap (λ x. x * k + k - value start f') e_q ∙ ap (λ x. (s / k + t) * k + k - x) e_s in
      let e_least = value_lesser n (Difference (Offset (Product q (Number k)) k) start) f' ∙ ap (λ x. min x (value (Difference (Offset (Product q (Number k)) k) start) f')) e_n ∙ ap (min m) e_end in
      let counted = value (Difference (lesser n (Difference (Offset (Product q (Number k)) k) start)) (block_first k start q)) f' in
      let count : counted ≡ min m ((s / k + t) * k + k - s) - ((s / k + t) * k - s) = ap (λ x. x - value (block_first k start q) f') e_least ∙ ap (λ x. min m ((s / k + t) * k + k - s) - x) e_begin in
      ap (λ x. blocked x counted (value q f')) e_begin ∙ ap (λ x. blocked ((s / k + t) * k - s) x (value q f')) count ∙ ap (λ x. blocked ((s / k + t) * k - s) (min m ((s / k + t) * k + k - s) - ((s / k + t) * k - s)) x) e_q

  stretch_by : (Sound : RunExpr → Type 0) (Q : Axis → (d : ℕ) → (f : ℕ → ℕ) → List SourcedRun → Type 0) (rule : AxisRule Sound Q) (flag n_phases n_blocks : Expr) → value n_phases f ≡ phase_count k m → value n_blocks f ≡ block_count k s m → ltb (value flag f) 1 ≡ leb (phase_count k m) (block_count k s m) → is_below flag d ≡ true
      → ((r : ℕ) → Sound (pick_run flag (phase_expr k start n (Variable r)) (block_expr k start n (Sum first (Variable r)))))
      → Q (either_runs flag n_phases n_blocks (phase_expr k start n) (λ t. block_expr k start n (Sum first t))) d f (sourced (repeated_runs k s m))
  stretch_by Sound Q rule flag n_phases n_blocks phases_are blocks_are flag_is low_flag sound =
      let t = leb (phase_count k m) (block_count k s m) in
      let v = phase_run k s m in
      let w = block_run k s m in
      let axis = either_runs flag n_phases n_blocks (phase_expr k start n) (λ t. block_expr k start n (Sum first t)) in
      let none : s / k + 0 ≡ s / k = omega arith in
      let shifted : map (λ t. w (s / k + t)) (range_with_len 0 (block_count k s m)) ≡ map w (range_with_len (s / k) (block_count k s m)) = range_shift w (s / k) 0 (block_count k s m) ∙ ap (λ a. map w (range_with_len a (block_count k s m))) none in
      let one = sym (sourced_map (phase k s m) v (λ t. refl) (range_with_len 0 (phase_count k m))) in
      let other = shifted ∙ sym (sourced_map (block k s m) w (λ t. refl) (range_with_len (s / k) (block_count k s m))) in
      same_by Q axis d f (cond t (map v (range_with_len 0 (value n_phases f))) (map (λ t. w (s / k + t)) (range_with_len 0 (value n_blocks f)))) (sourced (repeated_runs k s m))
      (ap (λ c. cond t (map v (range_with_len 0 c)) (map (λ t. w (s / k + t)) (range_with_len 0 (value n_blocks f)))) phases_are ∙ ap (λ c. cond t (map v (range_with_len 0 (phase_count k m))) (map (λ t. w (s / k + t)) (range_with_len 0 c))) blocks_are
      ∙ choose t (map v (range_with_len 0 (phase_count k m))) (map (λ t. w (s / k + t)) (range_with_len 0 (block_count k s m))) one other)
      (either_by Sound Q rule t flag n_phases n_blocks (phase_expr k start n) (λ t. block_expr k start n (Sum first t)) d f v (λ t. w (s / k + t)) flag_is low_flag phases_below blocks_below phase_values block_values sound)
    where
      choose : (t : Bool) (xs ys : List SourcedRun) → xs ≡ sourced (phases k s m) → ys ≡ sourced (blocks k s m) → cond t xs ys ≡ sourced (cond t (phases k s m) (blocks k s m))
      choose true xs ys one other = one
      choose false xs ys one other = other

pub flag_of : (b p : ℕ) → ltb (cond (ltb b p) 1 0) 1 ≡ leb p b
flag_of b p = elim (cases_lt b p) [
  | inl lt ↦ ap (λ t. ltb (cond t 1 0) 1) (lt-ltb b p lt) ∙ sym (lt-leb p b lt)
  | inr le ↦ ap (λ t. ltb (cond t 1 0) 1) (le-ltb b p le) ∙ sym (le-leb p b le)
]

pub repeated_by : (Sound : RunExpr → Type 0) (Q : Axis → (d : ℕ) → (f : ℕ → ℕ) → List SourcedRun → Type 0) (rule : AxisRule Sound Q) (k : ℕ) (start n : Expr) (d : ℕ) (f : ℕ → ℕ) → is_below start d ≡ true → is_below n d ≡ true
    → ((flag first r : ℕ) → Sound (pick_run (Variable flag) (phase_expr k start n (Variable r)) (block_expr k start n (Sum (Variable first) (Variable r)))))
    → Q (repeated_axis k start n) d f (sourced (repeated_runs k (value start f) (value n f)))
repeated_by Sound Q rule k start n d f low_start low_n sound =
    let s = value start f in
    let m = value n f in
    let first = Quotient start (Number k) in
    let f1 = with_number d (value first f) f in
    let s1 = new_value start d (value first f) f low_start in
    let m1 = new_value n d (value first f) f low_n in
    let q1 : value (Variable d) f1 ≡ s / k = with_same f d (value first f) in
    let low_s1 = below_more start d (d + 1) (omega arith) low_start in
    let low_n1 = below_more n d (d + 1) (omega arith) low_n in
    let low_q1 = new_below d in
    let n_blocks = Difference (Offset (Quotient (Difference (Sum start n) (Number 1)) (Number k)) 1) (Variable d) in
    let f2 = with_number (d + 1) (value n_blocks f1) f1 in
    let b1 : value n_blocks f1 ≡ block_count k s m = ap (λ x. (x + value n f1 - 1) / k + 1 - value (Variable d) f1) s1 ∙ ap (λ x. (s + x - 1) / k + 1 - value (Variable d) f1) m1 ∙ ap (λ x. (s + m - 1) / k + 1 - x) q1 in
    let b2 : value (Variable (d + 1)) f2 ≡ block_count k s m = with_same f1 (d + 1) (value n_blocks f1) ∙ b1 in
    let s2 = new_value start (d + 1) (value n_blocks f1) f1 low_s1 ∙ s1 in
    let m2 = new_value n (d + 1) (value n_blocks f1) f1 low_n1 ∙ m1 in
    let q2 = new_value (Variable d) (d + 1) (value n_blocks f1) f1 low_q1 ∙ q1 in
    let low_s2 = below_more start (d + 1) (d + 1 + 1) (omega arith) low_s1 in
    let low_n2 = below_more n (d + 1) (d + 1 + 1) (omega arith) low_n1 in
    let low_q2 = below_more (Variable d) (d + 1) (d + 1 + 1) (omega arith) low_q1 in
    let low_b2 = new_below (d + 1) in
    let n_phases = lesser (Number k) n in
    let p2 : value n_phases f2 ≡ phase_count k m = value_lesser (Number k) n f2 ∙ ap (min k) m2 in
    let flag = IfLess (Variable (d + 1)) n_phases (Number 1) (Number 0) in
    let d3 = d + 1 + 1 in
    let f3 = with_number d3 (value flag f2) f2 in
    let flag3 : ltb (value (Variable d3) f3) 1 ≡ leb (phase_count k m) (block_count k s m) =
    ap (λ x. ltb x 1) (with_same f2 d3 (value flag f2)) ∙ ap (λ x. ltb (cond (ltb x (value n_phases f2)) 1 0) 1) b2 ∙ ap (λ x. ltb (cond (ltb (block_count k s m) x) 1 0) 1) p2 ∙ flag_of (block_count k s m) (phase_count k m) in
    let m3 = new_value n d3 (value flag f2) f2 low_n2 ∙ m2 in
    let p3 : value n_phases f3 ≡ phase_count k m = value_lesser (Number k) n f3 ∙ ap (min k) m3 in
    let b3 = new_value (Variable (d + 1)) d3 (value flag f2) f2 low_b2 ∙ b2 in
    let at : StretchAt k start n (Variable d) (d3 + 1) f3 s m = record {
      low_start = below_more start d3 (d3 + 1) (omega arith) low_s2;
      low_n = below_more n d3 (d3 + 1) (omega arith) low_n2;
      low_first = below_more (Variable d) d3 (d3 + 1) (omega arith) low_q2;
      start_is = new_value start d3 (value flag f2) f2 low_s2 ∙ s2;
      n_is = m3;
      first_is = new_value (Variable d) d3 (value flag f2) f2 low_q2 ∙ q2;
    } in
    let here = stretch_by k start n (Variable d) (d3 + 1) f3 s m at Sound Q rule (Variable d3) n_phases (Variable (d + 1)) p3 b3 flag3 (new_below d3) (λ r. sound d3 d r) in
    let runs = sourced (repeated_runs k s m) in
    rule.names first (λ first. named (Difference (Offset (Quotient (Difference (Sum start n) (Number 1)) (Number k)) 1) first) (λ blocks.
    named (IfLess blocks (lesser (Number k) n) (Number 1) (Number 0)) (λ flag. either_runs flag (lesser (Number k) n) blocks (phase_expr k start n) (λ t. block_expr k start n (Sum first t))))) d f runs
    (rule.names n_blocks (λ blocks. named (IfLess blocks (lesser (Number k) n) (Number 1) (Number 0)) (λ flag. either_runs flag (lesser (Number k) n) blocks (phase_expr k start n) (λ t. block_expr k start n (Sum (Variable d) t)))) (d + 1) f1 runs
    (rule.names flag (λ flag. either_runs flag (lesser (Number k) n) (Variable (d + 1)) (phase_expr k start n) (λ t. block_expr k start n (Sum (Variable d) t))) d3 f2 runs here))

pub goes_repeated : (k : ℕ) (start n : Expr) (d : ℕ) (f : ℕ → ℕ) → is_below start d ≡ true → is_below n d ≡ true → GoesThrough (repeated_axis k start n) d f (sourced (repeated_runs k (value start f) (value n f)))
goes_repeated k start n d f low_start low_n = repeated_by any_run GoesThrough goes_rule k start n d f low_start low_n (λ flag first r. tt)
