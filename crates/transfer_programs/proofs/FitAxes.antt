-- Axes whose programs fit.
use Rattle.std.proofs.Common.{◌≡◌, ℕ, ◌+◌, ◌-◌, ◌*◌, ◌<◌, ◌≤◌, ap, ◌∙◌, subst, refl, sym, arith, Bool, true, false, cond, ltb}
use Rattle.std.proofs.lemmas.Bool.{cond_both, ltb-false}
use Rattle.venice_isa.specs.Host.{with_number}
use Rattle.host_programs.specs.Expr.{Expr, Variable, value, Fits, is_below}
use Rattle.host_programs.specs.ExprLaws.{Agree}
use Rattle.host_programs.specs.Program.{Program, For, in_turn}
use Rattle.host_programs.specs.ProgramFits.{FitsWord, ProgramFits}
use Rattle.transfer_programs.specs.Axis.{RunExpr, single_run, Axis, one_run, some_run, named, both_axes, each_run, pick, pick_run, either_runs, singles_of}
use Rattle.transfer_programs.specs.SourcedRuns.{SourcedRun, run_value, is_run_below, IsRun}
use Rattle.host_programs.proofs.Blocks.{with_same}
use Rattle.host_programs.proofs.Exprs.{below_more}
use Rattle.transfer_programs.proofs.Axes.{value_agree, agree_all, agree_new, agree_then, agree_turn, run_parts, run_later, pick_is, single_at, single_is}
use Rattle.transfer_programs.proofs.FitExprs.{fits_agree, fits_times, fits_plus}

-- ---- runs

pub record RunFits (run : RunExpr) (f : ℕ → ℕ) : Type 0 where
  pub first : Fits run.first f
  pub step : Fits run.step f
  pub count : Fits run.count f
  pub source : Fits run.source f
  pub source_step : Fits run.source_step f

pub run_agree : (run : RunExpr) (d : ℕ) (f g : ℕ → ℕ) → Agree d f g → is_run_below run d ≡ true → RunFits run f → RunFits run g
run_agree run d f g same low fit =
    let p = run_parts run d low in
    record {
      first = fits_agree run.first d f g same p.first fit.first;
      step = fits_agree run.step d f g same p.step fit.step;
      count = fits_agree run.count d f g same p.count fit.count;
      source = fits_agree run.source d f g same p.source fit.source;
      source_step = fits_agree run.source_step d f g same p.source_step fit.source_step;
    }

pub agree_back : (d : ℕ) (f g : ℕ → ℕ) → Agree d f g → Agree d g f
agree_back d f g same = record { at = λ r less. sym (same.at r less) }

-- the run has places, which lie below n, with sources below the size
pub record IsInside (n size : ℕ) (v : SourcedRun) : Type 0 where
  pub some : 1 ≤ v.count
  pub few : v.count ≤ n
  pub places : (r : ℕ) → r < v.count → v.first + r * v.step < n
  pub sources : (r : ℕ) → r < v.count → v.source + r * v.source_step < size

-- each place of it does
pub single_inside : (n size : ℕ) (v : SourcedRun) (t : ℕ) → IsInside n size v → t < v.count → IsInside n size (single_at v t)
single_inside n size v t inside lt =
    let place = inside.places t lt in
    let source = inside.sources t lt in
    record { some = omega arith; few = omega (arith, inside.some, inside.few); places = λ r less. omega arith; sources = λ r less. omega arith }

-- a run by expressions that fit, inside an axis
pub record RunOf (n size : ℕ) (run : RunExpr) (d : ℕ) (f : ℕ → ℕ) (v : SourcedRun) : Type 0 where
  pub is : IsRun run d f v
  pub fits : RunFits run f
  pub inside : IsInside n size v

-- ---- axes

-- what is done with a run fits, whatever registers beyond d are in use
pub record BodyFits (body : ℕ → RunExpr → Program) (n size d : ℕ) (f : ℕ → ℕ) : Type 0 where
  pub fits : (k : ℕ) (g : ℕ → ℕ) (run : RunExpr) (v : SourcedRun) → d ≤ k → Agree d g f → RunOf n size run k g v → ProgramFits (body k run) k g

-- then the axis does, whose n places have their sources below the size
pub record AxisFits (axis : Axis) (n size d : ℕ) (f : ℕ → ℕ) : Type 0 where
  pub fits : (body : ℕ → RunExpr → Program) → BodyFits body n size d f → ProgramFits (axis d body) d f

pub body_later : (body : ℕ → RunExpr → Program) (n size d k : ℕ) (f g : ℕ → ℕ) → d ≤ k → Agree d g f → BodyFits body n size d f → BodyFits body n size k g
body_later body n size d k f g le same all = record { fits = λ l g' run v more agree of. all.fits l g' run v (omega (arith, le, more)) (agree_then d k f g g' le agree same) of }

module _ (n size : ℕ) (small : n < 4294967296) where
  pub fits_one : (run : RunExpr) (d : ℕ) (f : ℕ → ℕ) (v : SourcedRun) → RunOf n size run d f v → AxisFits (one_run run) n size d f
  fits_one run d f v of = record { fits = λ body all. all.fits d f run v (omega arith) (agree_all d f) of }

  pub fits_named : (e : Expr) (axis : Expr → Axis) (d : ℕ) (f : ℕ → ℕ) → FitsWord e f → AxisFits (axis (Variable d)) n size (d + 1) (with_number d (value e f) f) → AxisFits (named e axis) n size d f
  fits_named e axis d f word inner = record {
    fits = λ body all. (word, inner.fits body (body_later body n size d (d + 1) f (with_number d (value e f) f) (omega arith) (agree_new d d (value e f) f (omega arith)) all));
  }

  pub fits_both : (a b : Axis) (d : ℕ) (f : ℕ → ℕ) → AxisFits a n size d f → AxisFits b n size d f → AxisFits (both_axes a b) n size d f
  fits_both a b d f first second = record { fits = λ body all. (first.fits body all, second.fits body all) }

  pub fits_some : (count : Expr) (run : Expr → RunExpr) (d : ℕ) (f : ℕ → ℕ) (v : SourcedRun) → FitsWord count f
      → (1 ≤ value count f → RunOf n size (run (Variable d)) (d + 1) (with_number d (value count f) f) v) → AxisFits (some_run count run) n size d f
  fits_some count run d f v word of = record {
    fits = λ body all.
        let m = value count f in
        let f' = with_number d m f in
        let at : f' d ≡ m = with_same f d m in (
          word,
          (
            (tt, omega (arith, at, word.1)),
            (tt, omega arith),
            λ e.
                let some : 1 ≤ m = omega (arith, at, ltb-false (f' d) 1 e) in
                all.fits (d + 1) f' (run (Variable d)) v (omega arith) (agree_new d d m f (omega arith)) (of some),
          ),
        );
  }

  pub fits_each : (count : Expr) (run : Expr → RunExpr) (d : ℕ) (f : ℕ → ℕ) (v : ℕ → SourcedRun) → FitsWord count f
      → ((t : ℕ) → t < value count f → RunOf n size (run (Variable (d + 1))) (d + 2) (in_turn f d (value count f) t) (v t)) → AxisFits (each_run count run) n size d f
  fits_each count run d f v word of = record {
    fits = λ body all.
        let m = value count f in
        (word, λ t lt. all.fits (d + 2) (in_turn f d m t) (run (Variable (d + 1))) (v t) (omega arith) (agree_turn d (m - t) t f) (of t lt));
  }

  -- ---- each place of each run

  single_of : (run : RunExpr) (k m t : ℕ) (g : ℕ → ℕ) (v : SourcedRun) → t < v.count → RunOf n size run k g v → RunOf n size (single_run run (Variable (k + 1))) (k + 2) (in_turn g k m t) (single_at v t)
  single_of run k m t g v lt of =
      let g' = in_turn g k m t in
      let agree = agree_turn k (m - t) t g in
      let later = run_later run k (k + 2) g g' v (omega arith) agree of.is in
      let at : g' (k + 1) ≡ t = with_same (with_number k (m - t) g) (k + 1) t in
      let fit = run_agree run k g g' (agree_back k g' g agree) of.is.below of.fits in
      record {
        is = subst (λ x. IsRun (single_run run (Variable (k + 1))) (k + 2) g' (single_at v x)) at (single_is run (k + 2) (k + 1) g' v (omega arith) later);
        fits = record {
          first = fits_plus run.first _ g' fit.first (fits_times run.step (Variable (k + 1)) g' fit.step tt);
          step = tt;
          count = tt;
          source = fits_plus run.source _ g' fit.source (fits_times run.source_step (Variable (k + 1)) g' fit.source_step tt);
          source_step = tt;
        };
        inside = single_inside n size v t of.inside lt;
      }

  pub fits_singles : (axis : Axis) (d : ℕ) (f : ℕ → ℕ) → AxisFits axis n size d f → AxisFits (singles_of axis) n size d f
  fits_singles axis d f inner = record {
    fits = λ body all. inner.fits (λ k run. For run.count (body (k + 2) (single_run run (Variable (k + 1))))) (record {
      fits = λ k g run v le same of.
          let m = value run.count g in
          let count : m ≡ v.count = ap (λ (w : SourcedRun). w.count) of.is.values in (
            (of.fits.count, omega (arith, count, of.inside.few, small)),
            λ t lt.
                all.fits (k + 2) (in_turn g k m t) (single_run run (Variable (k + 1))) (single_at v t) (omega (arith, le)) (agree_then d k f g (in_turn g k m t) le (agree_turn k (m - t) t g) same)
                (single_of run k m t g v (omega (arith, count, lt)) of),
          );
    });
  }

  -- ---- one of two kinds of runs

  picked_fits : (t : Bool) (flag : Expr) (x y : RunExpr) (g : ℕ → ℕ) → ltb (value flag g) 1 ≡ t → FitsWord flag g → (t ≡ true → RunFits x g) → (t ≡ false → RunFits y g) → RunFits (pick_run flag x y) g
  picked_fits t flag x y g is word one other =
      let by : (a b : Expr) → (t ≡ true → Fits a g) → (t ≡ false → Fits b g) → Fits (pick flag a b) g = λ a b first second. (word.0, tt, word.1, omega arith, λ e. first (sym is ∙ e), λ e. second (sym is ∙ e)) in
      record {
        first = by x.first y.first (λ e. (one e).first) (λ e. (other e).first);
        step = by x.step y.step (λ e. (one e).step) (λ e. (other e).step);
        count = by x.count y.count (λ e. (one e).count) (λ e. (other e).count);
        source = by x.source y.source (λ e. (one e).source) (λ e. (other e).source);
        source_step = by x.source_step y.source_step (λ e. (one e).source_step) (λ e. (other e).source_step);
      }

  -- in each turn of m, the run by an expression of its number has these values, fits, and lies inside
  pub record TurnsOf (count : Expr) (run : Expr → RunExpr) (d : ℕ) (f : ℕ → ℕ) (v : ℕ → SourcedRun) : Type 0 where
    pub word : FitsWord count f
    pub fits : (m k : ℕ) → k < value count f → RunFits (run (Variable (d + 1))) (in_turn f d m k)
    pub inside : (k : ℕ) → k < value count f → IsInside n size (v k)

  pub fits_either : (t : Bool) (flag x_count y_count : Expr) (x y : Expr → RunExpr) (d : ℕ) (f : ℕ → ℕ) (v w : ℕ → SourcedRun) → ltb (value flag f) 1 ≡ t → is_below flag d ≡ true → FitsWord flag f
      → is_run_below (x (Variable (d + 1))) (d + 2) ≡ true → is_run_below (y (Variable (d + 1))) (d + 2) ≡ true
      → ((m k : ℕ) → run_value (x (Variable (d + 1))) (in_turn f d m k) ≡ v k) → ((m k : ℕ) → run_value (y (Variable (d + 1))) (in_turn f d m k) ≡ w k)
      → (t ≡ true → TurnsOf x_count x d f v) → (t ≡ false → TurnsOf y_count y d f w)
      → AxisFits (either_runs flag x_count y_count x y) n size d f
  fits_either t flag x_count y_count x y d f v w is low_flag word_flag low_x low_y values_x values_y one other =
      fits_each (pick flag x_count y_count) (λ k. pick_run flag (x k) (y k)) d f (λ k. cond t (v k) (w k)) (word t is one other) (turn t is one other)
    where
      counted : (t : Bool) → ltb (value flag f) 1 ≡ t → value (pick flag x_count y_count) f ≡ cond t (value x_count f) (value y_count f)
      counted t e = ap (λ q. cond q (value x_count f) (value y_count f)) e

      word : (t : Bool) → ltb (value flag f) 1 ≡ t → (t ≡ true → TurnsOf x_count x d f v) → (t ≡ false → TurnsOf y_count y d f w) → FitsWord (pick flag x_count y_count) f
      word t e one other = (
        (word_flag.0, tt, word_flag.1, omega arith, λ q. (one (sym e ∙ q)).word.0, λ q. (other (sym e ∙ q)).word.0),
        cond_both (ltb (value flag f) 1) (value x_count f) (value y_count f) (λ m. m < 4294967296) (λ q. (one (sym e ∙ q)).word.1) (λ q. (other (sym e ∙ q)).word.1),
      )

      inside : (t : Bool) → ltb (value flag f) 1 ≡ t → (t ≡ true → TurnsOf x_count x d f v) → (t ≡ false → TurnsOf y_count y d f w) → (k : ℕ) → k < value (pick flag x_count y_count) f → IsInside n size (cond t (v k) (w k))
      inside true e one other k lt = (one refl).inside k (omega (arith, counted true e, lt))
      inside false e one other k lt = (other refl).inside k (omega (arith, counted false e, lt))

      fit : (t : Bool) → ltb (value flag f) 1 ≡ t → (t ≡ true → TurnsOf x_count x d f v) → (t ≡ false → TurnsOf y_count y d f w) → (m k : ℕ) → k < value (pick flag x_count y_count) f
          → ((t ≡ true) → RunFits (x (Variable (d + 1))) (in_turn f d m k)) × ((t ≡ false) → RunFits (y (Variable (d + 1))) (in_turn f d m k))
      fit true e one other m k lt = (λ q. (one refl).fits m k (omega (arith, counted true e, lt)), λ q. absurd cc)
      fit false e one other m k lt = (λ q. absurd cc, λ q. (other refl).fits m k (omega (arith, counted false e, lt)))

      turn : (t : Bool) → ltb (value flag f) 1 ≡ t → (t ≡ true → TurnsOf x_count x d f v) → (t ≡ false → TurnsOf y_count y d f w) → (k : ℕ) → k < value (pick flag x_count y_count) f
          → RunOf n size (pick_run flag (x (Variable (d + 1))) (y (Variable (d + 1)))) (d + 2) (in_turn f d (value (pick flag x_count y_count) f) k) (cond t (v k) (w k))
      turn t e one other k lt =
          let m = value (pick flag x_count y_count) f in
          let g = in_turn f d m k in
          let agree = agree_turn d (m - k) k f in
          let flag_value = value_agree flag d g f agree low_flag in
          let flag_is : ltb (value flag g) 1 ≡ t = ap (λ q. ltb q 1) flag_value ∙ e in
          let flag_fits : FitsWord flag g = (fits_agree flag d f g (agree_back d g f agree) low_flag word_flag.0, omega (arith, flag_value, word_flag.1)) in
          let both = fit t e one other m k lt in
          record {
            is = pick_is t flag (x (Variable (d + 1))) (y (Variable (d + 1))) (d + 2) g (v k) (w k) flag_is (below_more flag d (d + 2) (omega arith) low_flag) low_x low_y (λ q. values_x m k) (λ q. values_y m k);
            fits = picked_fits t flag (x (Variable (d + 1))) (y (Variable (d + 1))) g flag_is flag_fits both.0 both.1;
            inside = inside t e one other k lt;
          }
