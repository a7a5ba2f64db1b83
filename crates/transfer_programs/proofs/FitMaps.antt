-- Each map's axis fits.
use Rattle.std.proofs.Common.{◌≡◌, ℕ, suc, ◌+◌, ◌-◌, ◌*◌, ◌/◌, ◌<◌, ◌≤◌, inl, inr, min, ℤ, pos, negsuc, refl, ap, ◌∙◌, arith, true, cond, ltb, leb}
use Rattle.std.proofs.Math.Nat.{div-le_self}
use Rattle.std.proofs.lemmas.Bool.{and_from, lt-ltb, cases_lt}
use Rattle.std.proofs.lemmas.Int.{ints}
use Rattle.std.proofs.lemmas.Nat.{div-add-mod', mod_below, mul-le, le-div}
use Rattle.ven_base.specs.declared.mapping.Mapping.{Mapping}
use Rattle.ven_base.specs.declared.mapping.Mapping.TheVariants.{Identity, Shift, Rotate, Section, Stretch, Transpose}
use Rattle.ven_base.specs.Extent.{Extent, IsExtent}
use Rattle.ven_base.specs.Mapping.{FitsShape, result_shape}
use Rattle.ven_base.specs.Place.{place_round, IsMove, IsCut}
use Rattle.ven_base.proofs.Congruence.{rem_below}
use Rattle.ven_base.proofs.Sources.{factor_within}
use Rattle.venice_isa.specs.Host.{with_number}
use Rattle.dma_segments.specs.Run.{phase_count, block_count}
use Rattle.host_programs.specs.Expr.{Expr, Number, Variable, Offset, Sum, Difference, Product, Quotient, Remainder, IfLess, value, Fits, is_below}
use Rattle.host_programs.specs.Program.{in_turn}
use Rattle.host_programs.specs.ProgramFits.{FitsWord}
use Rattle.transfer_programs.specs.Axis.{RunExpr, scaled, lesser, named, both_axes, either_runs}
use Rattle.transfer_programs.specs.SourcedRuns.{SourcedRun}
use Rattle.transfer_programs.specs.ReadProgram.{plain_axis, neighbours_axis, later_axis, earlier_axis, shifted_axis, round_axis, cut_axis, phase_expr, block_first, block_expr, repeated_axis, rows_axis, columns_axis}
use Rattle.host_programs.proofs.Blocks.{with_same}
use Rattle.host_programs.proofs.Exprs.{below_more}
use Rattle.transfer_programs.proofs.Axes.{value_agree, agree_new, agree_turn, value_scaled, below_scaled, value_lesser}
use Rattle.transfer_programs.proofs.AxisRuns.{new_value, new_below, StretchAt, phase_run, block_run, phases_below, phase_values, first_value, blocks_below, block_values, flag_of}
use Rattle.transfer_programs.proofs.FitExprs.{fits_agree, word_agree, fits_scaled, fits_choice, choice_value, word_lesser, word_quotient}
use Rattle.transfer_programs.proofs.FitAxes.{RunFits, agree_back, IsInside, AxisFits, fits_one, fits_named, fits_both, fits_some, TurnsOf, fits_either}

-- where an axis begins and how many places it has are read from registers below d, and fit
pub record AxisWords (start n : Expr) (d : ℕ) (f : ℕ → ℕ) : Type 0 where
  pub low_start : is_below start d ≡ true
  pub low_n : is_below n d ≡ true
  pub start_word : FitsWord start f
  pub n_word : FitsWord n f
  pub some : 1 ≤ value n f

-- the same once a further register has a name
pub words_named : (start n : Expr) (d v : ℕ) (f : ℕ → ℕ) → AxisWords start n d f → AxisWords start n (d + 1) (with_number d v f)
words_named start n d v f words =
    let f' = with_number d v f in
    let back = agree_back d f' f (agree_new d d v f (omega arith)) in
    record {
      low_start = below_more start d (d + 1) (omega arith) words.low_start;
      low_n = below_more n d (d + 1) (omega arith) words.low_n;
      start_word = word_agree start d f f' back words.low_start words.start_word;
      n_word = word_agree n d f f' back words.low_n words.n_word;
      some = omega (arith, new_value n d v f words.low_n, words.some);
    }

-- ---- neighbours

module _ (n size : ℕ) (small : n < 4294967296) where
  fits_neighbours : (first count source : Expr) (d : ℕ) (f : ℕ → ℕ) → is_below first d ≡ true → is_below source d ≡ true → Fits first f → FitsWord count f → (1 ≤ value count f → Fits source f)
      → (1 ≤ value count f → (value first f + value count f ≤ n) × (value source f + value count f ≤ size)) → AxisFits (neighbours_axis first count source) n size d f
  fits_neighbours first count source d f low_first low_source fits_first word_count fits_source inside =
      let m = value count f in
      let f' = with_number d m f in
      let v : SourcedRun = record { first = value first f; step = 1; count = m; source = value source f; source_step = 1 } in
      let run : Expr → RunExpr = λ c. record { first = first; step = Number 1; count = c; source = source; source_step = Number 1 } in
      let back = agree_back d f' f (agree_new d d m f (omega arith)) in
      let e0 = new_value first d m f low_first in
      let e1 = with_same f d m in
      let e2 = new_value source d m f low_source in
      fits_some n size small count run d f v word_count (λ some. record {
        is = record {
          below = and_from _ _ (below_more first d (d + 1) (omega arith) low_first) (and_from _ _ refl (and_from _ _ (new_below d) (and_from _ _ (below_more source d (d + 1) (omega arith) low_source) refl)));
          values = cc;
        };
        fits = record { first = fits_agree first d f f' back low_first fits_first; step = tt; count = tt; source = fits_agree source d f f' back low_source (fits_source some); source_step = tt };
        inside = record {
          some = some;
          few = omega (arith, (inside some).0);
          places = λ r lt. omega (arith, (inside some).0);
          sources = λ r lt. omega (arith, (inside some).1);
        };
      })

-- ---- axes of one run

fits_plain : (size : ℕ) (start n : Expr) (d : ℕ) (f : ℕ → ℕ) → AxisWords start n d f → value start f + value n f ≤ size → AxisFits (plain_axis start n) (value n f) size d f
fits_plain size start n d f words inside =
    let run : RunExpr = record { first = Number 0; step = Number 1; count = n; source = start; source_step = Number 1 } in
    let v : SourcedRun = record { first = 0; step = 1; count = value n f; source = value start f; source_step = 1 } in
    fits_one (value n f) size words.n_word.1 run d f v (record {
      is = record { below = and_from _ _ refl (and_from _ _ refl (and_from _ _ words.low_n (and_from _ _ words.low_start refl))); values = refl };
      fits = record { first = tt; step = tt; count = words.n_word.0; source = words.start_word.0; source_step = tt };
      inside = record { some = words.some; few = omega arith; places = λ r lt. omega arith; sources = λ r lt. omega (arith, inside) };
    })

fits_cut : (size first count step : ℕ) (start n : Expr) (d : ℕ) (f : ℕ → ℕ) → AxisWords start n d f → IsCut size first count step → value start f + value n f ≤ count → AxisFits (cut_axis first step start n) (value n f) size d f
fits_cut size first count step start n d f words cut within =
    let s = value start f in
    let run : RunExpr = record { first = Number 0; step = Number 1; count = n; source = Offset (scaled start step) first; source_step = Number step } in
    let made : ℕ → SourcedRun = λ m. record { first = 0; step = 1; count = value n f; source = m; source_step = step } in
    let e : value (scaled start step) f + first ≡ first + s * step = omega (arith, value_scaled start step f) in
    fits_one (value n f) size words.n_word.1 run d f (made (first + s * step)) (record {
      is = record {
        below = and_from _ _ refl (and_from _ _ refl (and_from _ _ words.low_n (and_from _ _ (below_scaled start step d words.low_start) refl)));
        values = ap made e;
      };
      fits = record { first = tt; step = tt; count = words.n_word.0; source = fits_scaled start step f words.start_word.0; source_step = tt };
      inside = record {
        some = words.some;
        few = omega arith;
        places = λ r lt. omega arith;
        sources = λ r lt. let l = mul-le (s + r) step (count - 1) step (omega (arith, within, lt)) (omega arith) in omega (arith, l, cut.inside);
      };
    })

-- ---- shift

fits_later : (size k : ℕ) (start n : Expr) (d : ℕ) (f : ℕ → ℕ) → AxisWords start n d f → size < 4294967296 → value start f + k < 4294967296 → AxisFits (later_axis size k start n) (value n f) size d f
fits_later size k start n d f words small_size small =
    let from = Offset start k in
    let rest = Difference (Number size) from in
    let count = IfLess from (Number size) (lesser n rest) (Number 0) in
    let rest_word : value from f < size → FitsWord rest f = λ l. ((tt, words.start_word.0, omega (arith, l)), omega (arith, small_size)) in
    let least = value_lesser n rest f in
    let bound : (value count f ≤ value n f) × (1 ≤ value count f → value from f + value count f ≤ size) =
    choice_value from (Number size) (lesser n rest) (Number 0) f (λ m. (m ≤ value n f) × (1 ≤ m → value from f + m ≤ size)) (λ l. (omega (arith, least), λ some. omega (arith, least, l))) (λ l. (omega arith, λ some. absurd (omega (arith, some)))) in
    fits_neighbours (value n f) size words.n_word.1 (Number 0) count from d f refl words.low_start tt
    (fits_choice from (Number size) (lesser n rest) (Number 0) f (words.start_word.0, small) (tt, small_size) (λ l. (word_lesser n rest f words.n_word (rest_word l)).0) (λ l. tt), omega (arith, bound.0, words.n_word.1))
    (λ some. words.start_word.0) (λ some. (omega (arith, bound.0), bound.1 some))

fits_earlier : (size k : ℕ) (start n : Expr) (d : ℕ) (f : ℕ → ℕ) → AxisWords start n d f → k < 4294967296 → value start f + value n f ≤ size → AxisFits (earlier_axis k start n) (value n f) size d f
fits_earlier size k start n d f words small inside =
    let rest = Difference (Number k) start in
    let back = IfLess start (Number k) rest (Number 0) in
    let away = lesser n back in
    let back_is : value back f ≡ k - value start f = choice_value start (Number k) rest (Number 0) f (λ m. m ≡ k - value start f) (λ l. refl) (λ l. omega (arith, l)) in
    let back_word : FitsWord back f = (fits_choice start (Number k) rest (Number 0) f words.start_word (tt, small) (λ l. (tt, words.start_word.0, omega (arith, l))) (λ l. tt), omega (arith, back_is, small)) in
    let o = value away f in
    let o_is : o ≡ min (value n f) (k - value start f) = value_lesser n back f ∙ ap (min (value n f)) back_is in
    let f' = with_number d o f in
    let w' = words_named start n d o f words in
    let o' : f' d ≡ o = with_same f d o in
    let n' = new_value n d o f words.low_n in
    let s' = new_value start d o f words.low_start in
    let low_source = and_from _ _ (and_from _ _ w'.low_start (new_below d)) refl in
    fits_named (value n f) size words.n_word.1 away (λ outside. neighbours_axis outside (Difference n outside) (Difference (Sum start outside) (Number k))) d f (word_lesser n back f words.n_word back_word)
    (fits_neighbours (value n f) size words.n_word.1 (Variable d) (Difference n (Variable d)) (Difference (Sum start (Variable d)) (Number k)) (d + 1) f' (new_below d) low_source tt
    ((w'.n_word.0, tt, omega (arith, n', o', o_is)), omega (arith, w'.n_word.1))
    (λ some. ((w'.start_word.0, tt), tt, omega (arith, some, n', o', o_is, s')))
    (λ some. (omega (arith, some, n', o', o_is), omega (arith, some, n', o', o_is, s', inside))))

fits_shifted : (size : ℕ) (by : ℤ) (start n : Expr) (d : ℕ) (f : ℕ → ℕ) → AxisWords start n d f → IsMove by → size ≤ 1048576 → value start f + value n f ≤ size → AxisFits (shifted_axis size by start n) (value n f) size d f
fits_shifted size (pos k) start n d f words move small inside = fits_later size (min k size) start n d f words (omega (arith, small)) (omega (arith, small, inside))
fits_shifted size (negsuc k) start n d f words move small inside = fits_earlier size (suc k) start n d f words (omega (arith, ints, move.least)) inside

-- ---- rotation

fits_round : (size : ℕ) (by : ℤ) (start n : Expr) (d : ℕ) (f : ℕ → ℕ) → AxisWords start n d f → 0 < size → size ≤ 1048576 → value start f + value n f ≤ size → AxisFits (round_axis size by start n) (value n f) size d f
fits_round size by start n d f words some small inside =
    let turn = place_round size by in
    let turn_less : turn < size = rem_below size by some in
    let first = Remainder (Offset start turn) (Number size) in
    let q = value first f in
    let q_less : q < size = mod_below (value start f + turn) size some in
    let f1 = with_number d q f in
    let w1 = words_named start n d q f words in
    let q1 : f1 d ≡ q = with_same f d q in
    let n1 = new_value n d q f words.low_n in
    let rest = Difference (Number size) (Variable d) in
    let before = lesser n rest in
    let rest_word : FitsWord rest f1 = ((tt, tt, omega (arith, q1, q_less)), omega (arith, small)) in
    let m = value before f1 in
    let m_is = value_lesser n rest f1 in
    let f2 = with_number (d + 1) m f1 in
    let w2 = words_named start n (d + 1) m f1 w1 in
    let m2 : f2 (d + 1) ≡ m = with_same f1 (d + 1) m in
    let q2 = new_value (Variable d) (d + 1) m f1 (new_below d) in
    let n2 = new_value n (d + 1) m f1 w1.low_n in
    let low_q = lt-ltb d (d + 1 + 1) (omega arith) in
    let all = value n f in
    let a = neighbours_axis (Number 0) (Variable (d + 1)) (Variable d) in
    let b = neighbours_axis (Variable (d + 1)) (Difference n (Variable (d + 1))) (Number 0) in
    let one = fits_neighbours all size words.n_word.1 (Number 0) (Variable (d + 1)) (Variable d) (d + 1 + 1) f2 refl low_q tt (tt, omega (arith, m2, m_is, w1.n_word.1)) (λ any. tt)
    (λ any. (omega (arith, m2, m_is, n1), omega (arith, m2, m_is, q2, q1, any))) in
    let two = fits_neighbours all size words.n_word.1 (Variable (d + 1)) (Difference n (Variable (d + 1))) (Number 0) (d + 1 + 1) f2 (new_below (d + 1)) refl tt ((w2.n_word.0, tt, omega (arith, m2, m_is, n2)), omega (arith, w2.n_word.1)) (λ any. tt)
    (λ any. (omega (arith, any, m2, m_is, n2, n1), omega (arith, n2, n1, inside))) in
    fits_named all size words.n_word.1 first (λ first. named (lesser n (Difference (Number size) first)) (λ before. both_axes (neighbours_axis (Number 0) before first) (neighbours_axis before (Difference n before) (Number 0)))) d f
    ((words.start_word.0, tt, omega (arith, turn_less, small, inside), some, omega (arith, small)), omega (arith, q_less, small))
    (fits_named all size words.n_word.1 before (λ before. both_axes (neighbours_axis (Number 0) before (Variable d)) (neighbours_axis before (Difference n before) (Number 0))) (d + 1) f1
    (word_lesser n rest f1 w1.n_word rest_word) (fits_both all size words.n_word.1 a b (d + 1 + 1) f2 one two))

-- ---- stretch

div_less : (a b k : ℕ) → a * k < b * k → a < b
div_less a b k less = elim (cases_lt a b) [
  | inl lt ↦ lt
  | inr le ↦ absurd (omega (arith, mul-le b k a k le (omega arith), less))
]

-- so many rounds begin before the end
before_end : (r k m : ℕ) → 0 < k → r < (m + k - 1) / k → r * k < m
before_end r k m some below =
    let whole = div-add-mod' (m + k - 1) k in
    let fits = mul-le (r + 1) k ((m + k - 1) / k) k (omega (arith, below)) (omega arith) in
    omega (arith, whole, fits, some)

-- the phase of each place below the factor
phase_inside : (size k s m t : ℕ) → 0 < k → s + m ≤ size * k → t < min k m → IsInside m size (phase_run k s m t)
phase_inside size k s m t some inside lt =
    let c = (m - t + k - 1) / k in
    let any : 1 ≤ c = le-div 1 (m - t + k - 1) k some (omega (arith, lt)) in
    let last = before_end (c - 1) k (m - t) some (omega (arith, any)) in
    let steps = mul-le (c - 1) 1 (c - 1) k (omega arith) some in
    record {
      some = any;
      few = omega (arith, last, steps, any);
      places = λ r less. omega (arith, before_end r k (m - t) some less);
      sources = λ r less.
          let l = before_end r k (m - t) some less in
          let whole = div-add-mod' (s + t) k in
          let q = div_less ((s + t) / k + r) size k (omega (arith, l, whole, inside)) in
          omega (arith, q);
    }

-- a source that is one of the piece's begins before the piece's end and ends after its start
source_near : (k s m q : ℕ) → 0 < k → 1 ≤ m → s / k ≤ q → q < s / k + block_count k s m → (q * k < s + m) × (s < q * k + k)
source_near k s m q some any low high =
    let last : q ≤ (s + m - 1) / k = omega (arith, high) in
    let whole = div-add-mod' (s + m - 1) k in
    let first = div-add-mod' s k in
    let rest = mod_below s k some in
    let fits = mul-le q k ((s + m - 1) / k) k last (omega arith) in
    let from = mul-le (s / k) k q k low (omega arith) in
    (omega (arith, fits, whole, any), omega (arith, from, first, rest))

-- the block of each source
block_inside : (size k s m q : ℕ) → 0 < k → 1 ≤ m → s + m ≤ size * k → q * k < s + m → s < q * k + k → IsInside m size (block_run k s m q)
block_inside size k s m q some any inside before after =
    record {
      some = omega (arith, before, after, any, some);
      few = omega arith;
      places = λ r less. omega (arith, less);
      sources = λ r less. let l = div_less q size k (omega (arith, before, inside)) in omega (arith, l);
    }

module _ (k : ℕ) (start n first : Expr) (d : ℕ) (f : ℕ → ℕ) (s m : ℕ) (at : StretchAt k start n first d f s m) (some : 0 < k) (small : k ≤ 1048576) (start_word : FitsWord start f) (n_word : FitsWord n f) (first_fits : Fits first f) (any : 1 ≤ m) (few : s + m ≤ 1048576) where
  phase_fits : (p t : ℕ) → t < min k m → RunFits (phase_expr k start n (Variable (d + 1))) (in_turn f d p t)
  phase_fits p t lt =
      let f' = in_turn f d p t in
      let agree = agree_turn d (p - t) t f in
      let back = agree_back d f' f agree in
      let here : f' (d + 1) ≡ t = with_same (with_number d (p - t) f) (d + 1) t in
      let e_n = value_agree n d f' f agree at.low_n ∙ at.n_is in
      let e_s = value_agree start d f' f agree at.low_start ∙ at.start_is in
      let n' = word_agree n d f f' back at.low_n n_word in
      let s' = word_agree start d f f' back at.low_start start_word in
      record {
        first = tt;
        step = tt;
        count = (((n'.0, tt, omega (arith, e_n, here, lt)), tt, omega (arith, some)), tt, omega (arith, e_n, few, small), some, omega (arith, small));
        source = ((s'.0, tt), tt, omega (arith, e_s, here, lt, few), some, omega (arith, small));
        source_step = tt;
      }

  block_fits : (p t : ℕ) → t < block_count k s m → RunFits (block_expr k start n (Sum first (Variable (d + 1)))) (in_turn f d p t)
  block_fits p t lt =
      let f' = in_turn f d p t in
      let agree = agree_turn d (p - t) t f in
      let back = agree_back d f' f agree in
      let here : f' (d + 1) ≡ t = with_same (with_number d (p - t) f) (d + 1) t in
      let e_n = value_agree n d f' f agree at.low_n ∙ at.n_is in
      let e_s = value_agree start d f' f agree at.low_start ∙ at.start_is in
      let n' = word_agree n d f f' back at.low_n n_word in
      let s' = word_agree start d f f' back at.low_start start_word in
      let q = Sum first (Variable (d + 1)) in
      let e_q : value q f' ≡ s / k + t = ap (λ x. x + f' (d + 1)) (value_agree first d f' f agree at.low_first ∙ at.first_is) ∙ ap (λ x. s / k + x) here in
      let near = source_near k s m (s / k + t) some any (omega arith) (omega (arith, lt)) in
      let e_k : value q f' * k ≡ (s / k + t) * k = ap (λ x. x * k) e_q in
      let q_fits : Fits q f' = (fits_agree first d f f' back at.low_first first_fits, tt) in
      let times_k = Product q (Number k) in
      let times_fits : Fits times_k f' = (q_fits, tt) in
      let times_word : FitsWord times_k f' = (times_fits, omega (arith, e_k, near.0, few)) in
      let past = Difference times_k start in
      let begin_fits : Fits (block_first k start q) f' = fits_choice times_k start (Number 0) past f' times_word s' (λ l. tt) (λ l. (times_fits, s'.0, l)) in
      let e_begin = first_value k start n first d f s m at (s / k + t) f' q e_q e_s in
      let until = Difference (Offset times_k k) start in
      let until_word : FitsWord until f' = ((times_fits, s'.0, omega (arith, e_k, e_s, near.1)), omega (arith, e_k, near.0, few, small)) in
      let e_until = value_lesser n until f' in
      record {
        first = begin_fits;
        step = tt;
        count = ((word_lesser n until f' n' until_word).0, begin_fits, omega (arith, e_until, e_begin, e_n, e_k, e_s, near.0, near.1));
        source = q_fits;
        source_step = tt;
      }

fits_repeated : (size k : ℕ) (start n : Expr) (d : ℕ) (f : ℕ → ℕ) → AxisWords start n d f → 0 < k → 0 < size → size * k ≤ 1048576 → value start f + value n f ≤ size * k → AxisFits (repeated_axis k start n) (value n f) size d f
fits_repeated size k start n d f words some some_size small inside =
    let s = value start f in
    let m = value n f in
    let any = words.some in
    let small_k : k ≤ 1048576 = factor_within k size 1048576 some_size (omega (arith, small)) in
    let first = Quotient start (Number k) in
    let f1 = with_number d (value first f) f in
    let w1 = words_named start n d (value first f) f words in
    let s1 = new_value start d (value first f) f words.low_start in
    let m1 = new_value n d (value first f) f words.low_n in
    let q1 : f1 d ≡ s / k = with_same f d (value first f) in
    let last = Quotient (Difference (Sum start n) (Number 1)) (Number k) in
    let n_blocks = Difference (Offset last 1) (Variable d) in
    let f2 = with_number (d + 1) (value n_blocks f1) f1 in
    let w2 = words_named start n (d + 1) (value n_blocks f1) f1 w1 in
    let b1 : value n_blocks f1 ≡ block_count k s m = ap (λ x. (x + value n f1 - 1) / k + 1 - f1 d) s1 ∙ ap (λ x. (s + x - 1) / k + 1 - f1 d) m1 ∙ ap (λ x. (s + m - 1) / k + 1 - x) q1 in
    let e_last : value last f1 ≡ (s + m - 1) / k = ap (λ x. (x + value n f1 - 1) / k) s1 ∙ ap (λ x. (s + x - 1) / k) m1 in
    let less_k : s / k ≤ (s + m - 1) / k = le-div (s / k) (s + m - 1) k some (omega (arith, div-add-mod' s k, any)) in
    let few_blocks : block_count k s m ≤ 1048577 = omega (arith, div-le_self (s + m - 1) k, inside, small) in
    let last_fits : Fits last f1 = (((w1.start_word.0, w1.n_word.0), tt, omega (arith, w1.some)), tt, omega (arith, s1, m1, inside, small), some, omega (arith, small_k)) in
    let b2 : f2 (d + 1) ≡ block_count k s m = with_same f1 (d + 1) (value n_blocks f1) ∙ b1 in
    let n_phases = lesser (Number k) n in
    let s2 = new_value start (d + 1) (value n_blocks f1) f1 w1.low_start ∙ s1 in
    let m2 = new_value n (d + 1) (value n_blocks f1) f1 w1.low_n ∙ m1 in
    let q2 = new_value (Variable d) (d + 1) (value n_blocks f1) f1 (new_below d) ∙ q1 in
    let p2 : value n_phases f2 ≡ phase_count k m = value_lesser (Number k) n f2 ∙ ap (min k) m2 in
    let flag = IfLess (Variable (d + 1)) n_phases (Number 1) (Number 0) in
    let flag_word : FitsWord flag f2 = (
      fits_choice (Variable (d + 1)) n_phases (Number 1) (Number 0) f2 (tt, omega (arith, b2, few_blocks)) (word_lesser (Number k) n f2 (tt, omega (arith, small_k)) w2.n_word) (λ l. tt) (λ l. tt),
      choice_value (Variable (d + 1)) n_phases (Number 1) (Number 0) f2 (λ x. x < 4294967296) (λ l. omega arith) (λ l. omega arith),
    ) in
    let d3 = d + 1 + 1 in
    let f3 = with_number d3 (value flag f2) f2 in
    let w3 = words_named start n d3 (value flag f2) f2 w2 in
    let t = leb (phase_count k m) (block_count k s m) in
    let at_flag = with_same f2 d3 (value flag f2) in
    let flag3 : ltb (f3 d3) 1 ≡ t = ap (λ x. ltb x 1) at_flag ∙ ap (λ x. ltb (cond (ltb x (value n_phases f2)) 1 0) 1) b2 ∙ ap (λ x. ltb (cond (ltb (block_count k s m) x) 1 0) 1) p2 ∙ flag_of (block_count k s m) (phase_count k m) in
    let s3 = new_value start d3 (value flag f2) f2 w2.low_start ∙ s2 in
    let m3 = new_value n d3 (value flag f2) f2 w2.low_n ∙ m2 in
    let low_b2 = new_below (d + 1) in
    let low_q2 = lt-ltb d d3 (omega arith) in
    let b3 = new_value (Variable (d + 1)) d3 (value flag f2) f2 low_b2 ∙ b2 in
    let p3 : value n_phases f3 ≡ phase_count k m = value_lesser (Number k) n f3 ∙ ap (min k) m3 in
    let e = d3 + 1 in
    let at : StretchAt k start n (Variable d) e f3 s m = record {
      low_start = w3.low_start;
      low_n = w3.low_n;
      low_first = lt-ltb d e (omega arith);
      start_is = s3;
      n_is = m3;
      first_is = new_value (Variable d) d3 (value flag f2) f2 low_q2 ∙ q2;
    } in
    let few : s + m ≤ 1048576 = omega (arith, inside, small) in
    let x : Expr → RunExpr = phase_expr k start n in
    let y : Expr → RunExpr = λ t. block_expr k start n (Sum (Variable d) t) in
    let phases : TurnsOf m size words.n_word.1 n_phases x e f3 (phase_run k s m) = record {
      word = word_lesser (Number k) n f3 (tt, omega (arith, small_k)) w3.n_word;
      fits = λ p j lt. phase_fits k start n (Variable d) e f3 s m at some small_k w3.start_word w3.n_word tt any few p j (omega (arith, p3, lt));
      inside = λ j lt. phase_inside size k s m j some inside (omega (arith, p3, lt));
    } in
    let near : (j : ℕ) → j < f3 (d + 1) → ((s / k + j) * k < s + m) × (s < (s / k + j) * k + k) = λ j lt. source_near k s m (s / k + j) some any (omega arith) (omega (arith, b3, lt)) in
    let blocks : TurnsOf m size words.n_word.1 (Variable (d + 1)) y e f3 (λ j. block_run k s m (s / k + j)) = record {
      word = (tt, omega (arith, b3, few_blocks));
      fits = λ p j lt. block_fits k start n (Variable d) e f3 s m at some small_k w3.start_word w3.n_word tt any few p j (omega (arith, b3, lt));
      inside = λ j lt. block_inside size k s m (s / k + j) some any inside (near j lt).0 (near j lt).1;
    } in
    let here = fits_either m size words.n_word.1 t (Variable d3) n_phases (Variable (d + 1)) x y e f3 (phase_run k s m) (λ j. block_run k s m (s / k + j)) flag3 (new_below d3) (tt, omega (arith, at_flag, flag_word.1))
    (phases_below k start n (Variable d) e f3 s m at) (blocks_below k start n (Variable d) e f3 s m at) (phase_values k start n (Variable d) e f3 s m at) (block_values k start n (Variable d) e f3 s m at) (λ q. phases) (λ q. blocks) in
    fits_named m size words.n_word.1 first (λ first. named (Difference (Offset (Quotient (Difference (Sum start n) (Number 1)) (Number k)) 1) first) (λ blocks.
    named (IfLess blocks (lesser (Number k) n) (Number 1) (Number 0)) (λ flag. either_runs flag (lesser (Number k) n) blocks (phase_expr k start n) (λ t. block_expr k start n (Sum first t))))) d f
    (word_quotient start k f words.start_word some (omega (arith, small_k)))
    (fits_named m size words.n_word.1 n_blocks (λ blocks. named (IfLess blocks (lesser (Number k) n) (Number 1) (Number 0)) (λ flag. either_runs flag (lesser (Number k) n) blocks (phase_expr k start n) (λ t. block_expr k start n (Sum (Variable d) t)))) (d + 1) f1
    ((last_fits, tt, omega (arith, e_last, q1, less_k)), omega (arith, b1, few_blocks))
    (fits_named m size words.n_word.1 flag (λ flag. either_runs flag (lesser (Number k) n) (Variable (d + 1)) (phase_expr k start n) (λ t. block_expr k start n (Sum (Variable d) t))) d3 f2 flag_word here))

-- ---- the axes of a map

-- how many places the sources of a result's rows are, and of its columns
abbrev pub row_sources : Mapping → Extent → ℕ
row_sources Transpose shape = shape.cols
row_sources _ shape = shape.rows

abbrev pub column_sources : Mapping → Extent → ℕ
column_sources Transpose shape = shape.rows
column_sources _ shape = shape.cols

module _ (shape : Extent) (is_extent : IsExtent shape) (start n : Expr) (d : ℕ) (f : ℕ → ℕ) (words : AxisWords start n d f) where
  rows_small : shape.rows ≤ 1048576
  rows_small = factor_within shape.rows shape.cols 1048576 is_extent.some_cols is_extent.within

  cols_small : shape.cols ≤ 1048576
  cols_small = factor_within shape.cols shape.rows 1048576 is_extent.some_rows (omega (arith, is_extent.within))

  -- a stretched axis alone is no longer than all elements
  stretched_small : (a b ka kb : ℕ) → 1 ≤ b → 1 ≤ kb → (a * ka) * (b * kb) ≤ 1048576 → a * ka ≤ 1048576
  stretched_small a b ka kb some_b some_kb small = let l = mul-le 1 1 b kb some_b some_kb in factor_within (a * ka) (b * kb) 1048576 (omega (arith, l)) small

  pub rows_fit : (mapping : Mapping) → FitsShape mapping shape → value start f + value n f ≤ (result_shape mapping shape).rows → AxisFits (rows_axis mapping shape start n) (value n f) (row_sources mapping shape) d f
  rows_fit Identity fits inside = fits_plain shape.rows start n d f words inside
  rows_fit (Shift dr dc fill) fits inside = fits_shifted shape.rows dr start n d f words fits.0 rows_small inside
  rows_fit (Rotate dr dc) fits inside = fits_round shape.rows dr start n d f words (omega (arith, is_extent.some_rows)) rows_small inside
  rows_fit (Section r0 nr sr c0 nc sc) fits inside = fits_cut shape.rows r0 nr sr start n d f words fits.0 inside
  rows_fit (Stretch kr kc) fits inside = fits_repeated shape.rows kr start n d f words fits.some_rows (omega (arith, is_extent.some_rows)) (stretched_small shape.rows shape.cols kr kc is_extent.some_cols fits.some_cols fits.within) inside
  rows_fit Transpose fits inside = fits_plain shape.cols start n d f words inside

  pub columns_fit : (mapping : Mapping) → FitsShape mapping shape → value start f + value n f ≤ (result_shape mapping shape).cols → AxisFits (columns_axis mapping shape start n) (value n f) (column_sources mapping shape) d f
  columns_fit Identity fits inside = fits_plain shape.cols start n d f words inside
  columns_fit (Shift dr dc fill) fits inside = fits_shifted shape.cols dc start n d f words fits.1 cols_small inside
  columns_fit (Rotate dr dc) fits inside = fits_round shape.cols dc start n d f words (omega (arith, is_extent.some_cols)) cols_small inside
  columns_fit (Section r0 nr sr c0 nc sc) fits inside = fits_cut shape.cols c0 nc sc start n d f words fits.1 inside
  columns_fit (Stretch kr kc) fits inside =
      fits_repeated shape.cols kc start n d f words fits.some_cols (omega (arith, is_extent.some_cols)) (stretched_small shape.cols shape.rows kc kr is_extent.some_rows fits.some_rows (omega (arith, fits.within))) inside
  columns_fit Transpose fits inside = fits_plain shape.rows start n d f words inside
