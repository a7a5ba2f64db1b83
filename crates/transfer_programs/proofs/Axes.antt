-- What an axis goes through.
use Rattle.std.proofs.Common.{◌≡◌, ℕ, zero, suc, ◌+◌, ◌-◌, ◌*◌, ◌<◌, ◌≤◌, inl, inr, min, List, [], ◌∷◌, ◌++◌, refl, sym, ap, ◌∙◌, subst, arith, Bool, true, false, cond, eqb, ltb}
use Rattle.std.specs.Prelude.{◌&&◌, map}
use Rattle.std.specs.List.{flat_map, range_with_len}
use Rattle.std.proofs.lemmas.Bool.{cond_both, and_parts, and_from, ne_eqb, eqb-true, ltb-true, lt-ltb, cases_lt}
use Rattle.std.proofs.lemmas.List.{append-nil}
use Rattle.std.proofs.lemmas.List.Concat.{flat_map-append}
use Rattle.venice_isa.specs.declared.issue.Issue.{Issue}
use Rattle.venice_isa.specs.Host.{with_number}
use Rattle.host_programs.specs.Expr.{Expr, Number, Variable, Offset, Sum, Difference, Product, Quotient, Remainder, IfLess, value, is_below}
use Rattle.host_programs.specs.ExprLaws.{Agree}
use Rattle.host_programs.specs.Program.{Program, For, with_left, in_turn, turns_list, list_by}
use Rattle.transfer_programs.specs.Axis.{RunExpr, scaled, times, plus, lesser, single_run, Axis, one_run, some_run, named, both_axes, each_run, pick, pick_run, either_runs, singles_of}
use Rattle.transfer_programs.specs.SourcedRuns.{SourcedRun, run_value, is_run_below, IsRun, Handles, GoesThrough}
use Rattle.host_programs.proofs.Blocks.{with_same, with_other}
use Rattle.host_programs.proofs.Exprs.{below_more}

-- ---- values where registers agree

pub value_agree : (e : Expr) (d : ℕ) (f g : ℕ → ℕ) → Agree d f g → is_below e d ≡ true → value e f ≡ value e g
value_agree (Number n) d f g same h = refl
value_agree (Variable r) d f g same h = same.at r (ltb-true r d h)
value_agree (Offset a n) d f g same h = ap (λ v. v + n) (value_agree a d f g same h)
value_agree (Sum a b) d f g same h = let p = and_parts (is_below a d) (is_below b d) h in let u = value_agree a d f g same p.0 in let v = value_agree b d f g same p.1 in cc
value_agree (Difference a b) d f g same h = let p = and_parts (is_below a d) (is_below b d) h in let u = value_agree a d f g same p.0 in let v = value_agree b d f g same p.1 in cc
value_agree (Product a b) d f g same h = let p = and_parts (is_below a d) (is_below b d) h in let u = value_agree a d f g same p.0 in let v = value_agree b d f g same p.1 in cc
value_agree (Quotient a b) d f g same h = let p = and_parts (is_below a d) (is_below b d) h in let u = value_agree a d f g same p.0 in let v = value_agree b d f g same p.1 in cc
value_agree (Remainder a b) d f g same h = let p = and_parts (is_below a d) (is_below b d) h in let u = value_agree a d f g same p.0 in let v = value_agree b d f g same p.1 in cc
value_agree (IfLess a b x y) d f g same h =
    let p = and_parts (is_below a d && is_below b d) (is_below x d && is_below y d) h in
    let q = and_parts (is_below a d) (is_below b d) p.0 in
    let s = and_parts (is_below x d) (is_below y d) p.1 in
    let u = value_agree a d f g same q.0 in
    let v = value_agree b d f g same q.1 in
    let w = value_agree x d f g same s.0 in
    let z = value_agree y d f g same s.1 in
    cc

pub agree_all : (d : ℕ) (f : ℕ → ℕ) → Agree d f f
agree_all d f = record { at = λ r lt. refl }

pub agree_new : (d k v : ℕ) (f : ℕ → ℕ) → d ≤ k → Agree d (with_number k v f) f
agree_new d k v f le = record { at = λ r lt. with_other f k v r (ne_eqb r k (λ e. omega (arith, e, lt, le))) }

pub agree_then : (d k : ℕ) (f g h : ℕ → ℕ) → d ≤ k → Agree k h g → Agree d g f → Agree d h f
agree_then d k f g h le first second = record { at = λ r lt. first.at r (omega (arith, lt, le)) ∙ second.at r lt }

-- ---- values of products and sums

pub value_scaled : (e : Expr) (n : ℕ) (f : ℕ → ℕ) → value (scaled e n) f ≡ value e f * n
value_scaled e n f = go (eqb n 1) refl
  where
    go : (t : Bool) → eqb n 1 ≡ t → value (cond t e (Product e (Number n))) f ≡ value e f * n
    go true is = let one : n ≡ 1 = eqb-true n 1 is in omega (arith, ap (λ m. value e f * m) one)
    go false is = refl

pub below_scaled : (e : Expr) (n d : ℕ) → is_below e d ≡ true → is_below (scaled e n) d ≡ true
below_scaled e n d h = cond_both (eqb n 1) e (Product e (Number n)) (λ x. is_below x d ≡ true) (λ q. h) (λ q. and_from _ _ h refl)

pub value_times : (a b : Expr) (f : ℕ → ℕ) → value (times a b) f ≡ value a f * value b f
value_times (Number n) b f = go (eqb n 0) refl
  where
    go : (t : Bool) → eqb n 0 ≡ t → value (cond t (Number 0) (scaled b n)) f ≡ n * value b f
    go true is = let none : n ≡ 0 = eqb-true n 0 is in omega (arith, ap (λ m. m * value b f) none)
    go false is = value_scaled b n f ∙ omega arith
value_times _ b f = refl

pub below_times : (a b : Expr) (d : ℕ) → is_below a d ≡ true → is_below b d ≡ true → is_below (times a b) d ≡ true
below_times (Number n) b d low_a low_b = cond_both (eqb n 0) (Number 0) (scaled b n) (λ x. is_below x d ≡ true) (λ q. refl) (λ q. below_scaled b n d low_b)
below_times _ b d low_a low_b = and_from _ _ low_a low_b

pub value_plus : (a b : Expr) (f : ℕ → ℕ) → value (plus a b) f ≡ value a f + value b f
value_plus (Number n) b f = go (eqb n 0) refl
  where
    go : (t : Bool) → eqb n 0 ≡ t → value (cond t b (Offset b n)) f ≡ n + value b f
    go true is = let none : n ≡ 0 = eqb-true n 0 is in omega (arith, none)
    go false is = omega arith
value_plus _ b f = refl

pub below_plus : (a b : Expr) (d : ℕ) → is_below a d ≡ true → is_below b d ≡ true → is_below (plus a b) d ≡ true
below_plus (Number n) b d low_a low_b = cond_both (eqb n 0) b (Offset b n) (λ x. is_below x d ≡ true) (λ q. low_b) (λ q. low_b)
below_plus _ b d low_a low_b = and_from _ _ low_a low_b

pub value_lesser : (a b : Expr) (f : ℕ → ℕ) → value (lesser a b) f ≡ min (value a f) (value b f)
value_lesser a b f = cond_both (ltb (value a f) (value b f)) (value a f) (value b f) (λ m. m ≡ min (value a f) (value b f))
    (λ e. omega (arith, ltb-true (value a f) (value b f) e)) (λ e. elim (cases_lt (value a f) (value b f)) [
      | inl lt ↦ absurd (cc (e, lt-ltb (value a f) (value b f) lt))
      | inr le ↦ omega (arith, le)
    ])

-- ---- runs

pub record RunParts (run : RunExpr) (d : ℕ) : Type 0 where
  pub first : is_below run.first d ≡ true
  pub step : is_below run.step d ≡ true
  pub count : is_below run.count d ≡ true
  pub source : is_below run.source d ≡ true
  pub source_step : is_below run.source_step d ≡ true

pub run_parts : (run : RunExpr) (d : ℕ) → is_run_below run d ≡ true → RunParts run d
run_parts run d h =
    let p = and_parts (is_below run.first d) (is_below run.step d && (is_below run.count d && (is_below run.source d && is_below run.source_step d))) h in
    let q = and_parts (is_below run.step d) (is_below run.count d && (is_below run.source d && is_below run.source_step d)) p.1 in
    let s = and_parts (is_below run.count d) (is_below run.source d && is_below run.source_step d) q.1 in
    let t = and_parts (is_below run.source d) (is_below run.source_step d) s.1 in
    record { first = p.0; step = q.0; count = s.0; source = t.0; source_step = t.1 }

pub run_from : (run : RunExpr) (d : ℕ) → RunParts run d → is_run_below run d ≡ true
run_from run d p = and_from _ _ p.first (and_from _ _ p.step (and_from _ _ p.count (and_from _ _ p.source p.source_step)))

-- a run means the same wherever more registers are in use
pub run_later : (run : RunExpr) (d k : ℕ) (f g : ℕ → ℕ) (v : SourcedRun) → d ≤ k → Agree d g f → IsRun run d f v → IsRun run k g v
run_later run d k f g v le same is =
    let p = run_parts run d is.below in
    let e0 = value_agree run.first d g f same p.first in
    let e1 = value_agree run.step d g f same p.step in
    let e2 = value_agree run.count d g f same p.count in
    let e3 = value_agree run.source d g f same p.source in
    let e4 = value_agree run.source_step d g f same p.source_step in
    let all : run_value run g ≡ run_value run f = cc in
    record {
      below = run_from run k (record {
        first = below_more run.first d k le p.first;
        step = below_more run.step d k le p.step;
        count = below_more run.count d k le p.count;
        source = below_more run.source d k le p.source;
        source_step = below_more run.source_step d k le p.source_step;
      });
      values = all ∙ is.values;
    }

handles_later : {body : ℕ → RunExpr → Program} {given : SourcedRun → List Issue} (d k : ℕ) (f g : ℕ → ℕ) → d ≤ k → Agree d g f → Handles body d f given → Handles body k g given
handles_later {body} {given} d k f g le same h = record {
  handles = λ l g' run v more agree is. h.handles l g' run v (omega (arith, le, more)) (agree_then d k f g g' le agree same) is;
}

-- ---- what each axis goes through

pub goes_one : (run : RunExpr) (d : ℕ) (f : ℕ → ℕ) (v : SourcedRun) → IsRun run d f v → GoesThrough (one_run run) d f (v ∷ [])
goes_one run d f v is = record { goes = λ body given h. h.handles d f run v (omega arith) (agree_all d f) is ∙ sym (append-nil (given v)) }

pub goes_named : (e : Expr) (axis : Expr → Axis) (d : ℕ) (f : ℕ → ℕ) (runs : List SourcedRun) → GoesThrough (axis (Variable d)) (d + 1) (with_number d (value e f) f) runs → GoesThrough (named e axis) d f runs
goes_named e axis d f runs inner = record {
  goes = λ body given h. inner.goes body given (handles_later d (d + 1) f (with_number d (value e f) f) (omega arith) (agree_new d d (value e f) f (omega arith)) h);
}

pub goes_some : (count : Expr) (run : Expr → RunExpr) (d : ℕ) (f : ℕ → ℕ) (v : SourcedRun) → IsRun (run (Variable d)) (d + 1) (with_number d (value count f) f) v
    → GoesThrough (some_run count run) d f (cond (ltb (value count f) 1) [] (v ∷ []))
goes_some count run d f v is = record {
  goes = λ body given h.
      let n = value count f in
      let f' = with_number d n f in
      let here = h.handles (d + 1) f' (run (Variable d)) v (omega arith) (agree_new d d n f (omega arith)) is in
      ap (λ m. cond (ltb m 1) [] (list_by value (body (d + 1) (run (Variable d))) (d + 1) f')) (with_same f d n)
      ∙ ap (λ xs. cond (ltb n 1) [] xs) (here ∙ sym (append-nil (given v))) ∙ inside given (ltb n 1);
}
  where
    inside : (given : SourcedRun → List Issue) (t : Bool) → cond t [] (given v ++ []) ≡ flat_map given (cond t [] (v ∷ []))
    inside given true = refl
    inside given false = refl

pub goes_both : (a b : Axis) (d : ℕ) (f : ℕ → ℕ) (xs ys : List SourcedRun) → GoesThrough a d f xs → GoesThrough b d f ys → GoesThrough (both_axes a b) d f (xs ++ ys)
goes_both a b d f xs ys first second = record {
  goes = λ body given h.
      ap (λ zs. zs ++ list_by value (b d body) d f) (first.goes body given h) ∙ ap (λ zs. flat_map given xs ++ zs) (second.goes body given h) ∙ sym (flat_map-append given xs ys);
}

-- turns that do something for each number from t on
turns_each : (left t n : ℕ) (turn : ℕ → List Issue) (given : SourcedRun → List Issue) (v : ℕ → SourcedRun) → left + t ≡ n → ((t : ℕ) → t < n → turn t ≡ given (v t)) → turns_list left t turn ≡ flat_map given (map v (range_with_len t left))
turns_each zero t n turn given v all same = refl
turns_each (suc left) t n turn given v all same =
    ap (λ xs. xs ++ turns_list left (t + 1) turn) (same t (omega (arith, all))) ∙ ap (λ ys. given (v t) ++ ys) (turns_each left (t + 1) n turn given v (omega (arith, all)) same)

pub agree_turn : (d left t : ℕ) (f : ℕ → ℕ) → Agree d (with_left f d left t) f
agree_turn d left t f = record { at = λ r lt. (agree_new d (d + 1) t (with_number d left f) (omega arith)).at r lt ∙ (agree_new d d left f (omega arith)).at r lt }

pub goes_each : (count : Expr) (run : Expr → RunExpr) (d : ℕ) (f : ℕ → ℕ) (v : ℕ → SourcedRun)
    → ((t : ℕ) → t < value count f → IsRun (run (Variable (d + 1))) (d + 2) (in_turn f d (value count f) t) (v t))
    → GoesThrough (each_run count run) d f (map v (range_with_len 0 (value count f)))
goes_each count run d f v each = record {
  goes = λ body given h.
      let n = value count f in
      turns_each n 0 n (λ t. list_by value (body (d + 2) (run (Variable (d + 1)))) (d + 2) (in_turn f d n t)) given v (omega arith)
      (λ t lt. h.handles (d + 2) (in_turn f d n t) (run (Variable (d + 1))) (v t) (omega arith) (agree_turn d (n - t) t f) (each t lt));
}

value_pick : (flag x y : Expr) (f : ℕ → ℕ) → value (pick flag x y) f ≡ cond (ltb (value flag f) 1) (value x f) (value y f)
value_pick flag x y f = refl

pub below_pick : (flag x y : Expr) (d : ℕ) → is_below flag d ≡ true → is_below x d ≡ true → is_below y d ≡ true → is_below (pick flag x y) d ≡ true
below_pick flag x y d low_flag low_x low_y = and_from _ _ (and_from _ _ low_flag refl) (and_from _ _ low_x low_y)

-- where the flag says which, the run is that one
pub pick_is : (t : Bool) (flag : Expr) (x y : RunExpr) (k : ℕ) (g : ℕ → ℕ) (v w : SourcedRun) → ltb (value flag g) 1 ≡ t → is_below flag k ≡ true → is_run_below x k ≡ true → is_run_below y k ≡ true
    → (t ≡ true → run_value x g ≡ v) → (t ≡ false → run_value y g ≡ w) → IsRun (pick_run flag x y) k g (cond t v w)
pick_is t flag x y k g v w is low_flag low_x low_y one other =
    let px = run_parts x k low_x in
    let py = run_parts y k low_y in
    record {
      below = run_from (pick_run flag x y) k (record {
        first = below_pick flag x.first y.first k low_flag px.first py.first;
        step = below_pick flag x.step y.step k low_flag px.step py.step;
        count = below_pick flag x.count y.count k low_flag px.count py.count;
        source = below_pick flag x.source y.source k low_flag px.source py.source;
        source_step = below_pick flag x.source_step y.source_step k low_flag px.source_step py.source_step;
      });
      values = ap picked is ∙ chosen t one other;
    }
  where
    picked : Bool → SourcedRun
    picked t = record {
      first = cond t (value x.first g) (value y.first g);
      step = cond t (value x.step g) (value y.step g);
      count = cond t (value x.count g) (value y.count g);
      source = cond t (value x.source g) (value y.source g);
      source_step = cond t (value x.source_step g) (value y.source_step g);
    }

    chosen : (t : Bool) → (t ≡ true → run_value x g ≡ v) → (t ≡ false → run_value y g ≡ w) → picked t ≡ cond t v w
    chosen true one other = one refl
    chosen false one other = other refl

-- a relation of axes and runs that names keep, and that a loop has where each turn has its run, which is sound
pub record AxisRule (Sound : RunExpr → Type 0) (Q : Axis → (d : ℕ) → (f : ℕ → ℕ) → List SourcedRun → Type 0) : Type 0 where
  pub names : (e : Expr) (axis : Expr → Axis) (d : ℕ) (f : ℕ → ℕ) (runs : List SourcedRun) → Q (axis (Variable d)) (d + 1) (with_number d (value e f) f) runs → Q (named e axis) d f runs
  pub turns : (count : Expr) (run : Expr → RunExpr) (d : ℕ) (f : ℕ → ℕ) (v : ℕ → SourcedRun)
      → ((t : ℕ) → t < value count f → IsRun (run (Variable (d + 1))) (d + 2) (in_turn f d (value count f) t) (v t))
      → ((r : ℕ) → Sound (run (Variable r)))
      → Q (each_run count run) d f (map v (range_with_len 0 (value count f)))

abbrev pub any_run : RunExpr → Type 0
any_run run = Unit {0}

pub goes_rule : AxisRule any_run GoesThrough
goes_rule = record { names = goes_named; turns = λ count run d f v is sound. goes_each count run d f v is }

module _ (Sound : RunExpr → Type 0) (Q : Axis → (d : ℕ) → (f : ℕ → ℕ) → List SourcedRun → Type 0) (rule : AxisRule Sound Q) where
  pub either_by : (t : Bool) (flag x_count y_count : Expr) (x y : Expr → RunExpr) (d : ℕ) (f : ℕ → ℕ) (v w : ℕ → SourcedRun) → ltb (value flag f) 1 ≡ t → is_below flag d ≡ true
      → is_run_below (x (Variable (d + 1))) (d + 2) ≡ true → is_run_below (y (Variable (d + 1))) (d + 2) ≡ true
      → ((n k : ℕ) → run_value (x (Variable (d + 1))) (in_turn f d n k) ≡ v k) → ((n k : ℕ) → run_value (y (Variable (d + 1))) (in_turn f d n k) ≡ w k)
      → ((r : ℕ) → Sound (pick_run flag (x (Variable r)) (y (Variable r))))
      → Q (either_runs flag x_count y_count x y) d f (cond t (map v (range_with_len 0 (value x_count f))) (map w (range_with_len 0 (value y_count f))))
  either_by t flag x_count y_count x y d f v w is low_flag low_x low_y values_x values_y sound =
      subst (λ runs. Q (either_runs flag x_count y_count x y) d f runs) (counted t is)
      (rule.turns (pick flag x_count y_count) (λ k. pick_run flag (x k) (y k)) d f (λ k. cond t (v k) (w k)) each sound)
    where
      each : (k : ℕ) → k < value (pick flag x_count y_count) f → IsRun (pick_run flag (x (Variable (d + 1))) (y (Variable (d + 1)))) (d + 2) (in_turn f d (value (pick flag x_count y_count) f) k) (cond t (v k) (w k))
      each k lt =
          let g = in_turn f d (value (pick flag x_count y_count) f) k in
          let flag_is : ltb (value flag g) 1 ≡ t = ap (λ m. ltb m 1) (value_agree flag d g f (agree_turn d (value (pick flag x_count y_count) f - k) k f) low_flag) ∙ is in
          pick_is t flag (x (Variable (d + 1))) (y (Variable (d + 1))) (d + 2) g (v k) (w k) flag_is (below_more flag d (d + 2) (omega arith) low_flag) low_x low_y (λ e. values_x (value (pick flag x_count y_count) f) k) (λ e. values_y (value (pick flag x_count y_count) f) k)

      counted : (t : Bool) → ltb (value flag f) 1 ≡ t → map (λ k. cond t (v k) (w k)) (range_with_len 0 (value (pick flag x_count y_count) f)) ≡ cond t (map v (range_with_len 0 (value x_count f))) (map w (range_with_len 0 (value y_count f)))
      counted true e = ap (λ q. map v (range_with_len 0 (cond q (value x_count f) (value y_count f)))) e
      counted false e = ap (λ q. map w (range_with_len 0 (cond q (value x_count f) (value y_count f)))) e

-- ---- each place of each run

abbrev pub single_at : SourcedRun → ℕ → SourcedRun
single_at v r = record { first = v.first + r * v.step; step = 1; count = 1; source = v.source + r * v.source_step; source_step = 0 }

abbrev pub singles_at : SourcedRun → List SourcedRun
singles_at v = map (single_at v) (range_with_len 0 v.count)

flat_flat : {A B C : Type 0} (f : B → List C) (g : A → List B) (xs : List A) → flat_map f (flat_map g xs) ≡ flat_map (λ x. flat_map f (g x)) xs
flat_flat f g [] = refl
flat_flat f g (x ∷ xs) = flat_map-append f (g x) (flat_map g xs) ∙ ap (λ ys. flat_map f (g x) ++ ys) (flat_flat f g xs)

pub single_is : (run : RunExpr) (k r : ℕ) (g : ℕ → ℕ) (v : SourcedRun) → r < k → IsRun run k g v → IsRun (single_run run (Variable r)) k g (single_at v (g r))
single_is run k r g v less is =
    let p = run_parts run k is.below in
    let low : is_below (Variable r) k ≡ true = lt-ltb r k less in
    let e0 : value (plus run.first (times run.step (Variable r))) g ≡ value run.first g + value run.step g * g r = value_plus run.first (times run.step (Variable r)) g ∙ ap (λ m. value run.first g + m) (value_times run.step (Variable r) g) in
    let e1 : value (plus run.source (times run.source_step (Variable r))) g ≡ value run.source g + value run.source_step g * g r = value_plus run.source (times run.source_step (Variable r)) g ∙ ap (λ m. value run.source g + m) (value_times run.source_step (Variable r) g) in
    let f0 : value run.first g + value run.step g * g r ≡ v.first + g r * v.step = ap (λ (w : SourcedRun). w.first + w.step * g r) is.values ∙ omega arith in
    let f1 : value run.source g + value run.source_step g * g r ≡ v.source + g r * v.source_step = ap (λ (w : SourcedRun). w.source + w.source_step * g r) is.values ∙ omega arith in
    let h0 = e0 ∙ f0 in
    let h1 = e1 ∙ f1 in
    record {
      below = run_from (single_run run (Variable r)) k (record {
        first = below_plus run.first (times run.step (Variable r)) k p.first (below_times run.step (Variable r) k p.step low);
        step = refl;
        count = refl;
        source = below_plus run.source (times run.source_step (Variable r)) k p.source (below_times run.source_step (Variable r) k p.source_step low);
        source_step = refl;
      });
      values = cc;
    }

pub goes_singles : (axis : Axis) (d : ℕ) (f : ℕ → ℕ) (runs : List SourcedRun) → GoesThrough axis d f runs → GoesThrough (singles_of axis) d f (flat_map singles_at runs)
goes_singles axis d f runs inner = record {
  goes = λ body given h.
      inner.goes (λ k run. For run.count (body (k + 2) (single_run run (Variable (k + 1))))) (λ v. flat_map given (singles_at v)) (record { handles = λ k g run v le same is. one body given h k g run v le same is })
      ∙ sym (flat_flat given singles_at runs);
}
  where
    one : (body : ℕ → RunExpr → Program) (given : SourcedRun → List Issue) → Handles body d f given → (k : ℕ) (g : ℕ → ℕ) (run : RunExpr) (v : SourcedRun) → d ≤ k → Agree d g f → IsRun run k g v
        → list_by value (For run.count (body (k + 2) (single_run run (Variable (k + 1))))) k g ≡ flat_map given (singles_at v)
    one body given h k g run v le same is =
        let n = value run.count g in
        let count : n ≡ v.count = ap (λ (w : SourcedRun). w.count) is.values in
        let turn : (t : ℕ) → t < n → list_by value (body (k + 2) (single_run run (Variable (k + 1)))) (k + 2) (in_turn g k n t) ≡ given (single_at v t) = λ t lt.
        let g' = in_turn g k n t in
        let agree = agree_turn k (n - t) t g in
        let is' = run_later run k (k + 2) g g' v (omega arith) agree is in
        let at_turn : g' (k + 1) ≡ t = with_same (with_number k (n - t) g) (k + 1) t in
        h.handles (k + 2) g' (single_run run (Variable (k + 1))) (single_at v (g' (k + 1))) (omega (arith, le)) (agree_then d k f g g' le agree same) (single_is run (k + 2) (k + 1) g' v (omega arith) is')
        ∙ ap (λ m. given (single_at v m)) at_turn in
        turns_each n 0 n (λ t. list_by value (body (k + 2) (single_run run (Variable (k + 1)))) (k + 2) (in_turn g k n t)) given (single_at v) (omega arith) turn
        ∙ ap (λ m. flat_map given (map (single_at v) (range_with_len 0 m))) count
