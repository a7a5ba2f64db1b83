-- The command of a patch, and those of rows times columns.
use Rattle.std.proofs.Common.{◌≡◌, ℕ, zero, suc, ◌+◌, ◌*◌, ◌≤◌, inl, inr, List, [], ◌∷◌, ◌++◌, refl, sym, ap, ◌∙◌, arith, Bool, true, false, cond, eqb, ltb, Option, None, Some}
use Rattle.std.specs.Prelude.{◌&&◌, map}
use Rattle.std.specs.List.{flat_map}
use Rattle.std.proofs.lemmas.Bool.{cond-false, cond-true, and_from, ne_eqb, eq-eqb, lt-ltb, le-ltb, cases_lt}
use Rattle.std.proofs.lemmas.List.{map-append}
use Rattle.std.proofs.lemmas.List.Concat.{flat_map-append}
use Rattle.venice_isa.specs.declared.issue.Issue.{Issue}
use Rattle.venice_isa.specs.declared.issue.Issue.TheVariants.{Read}
use Rattle.venice_isa.specs.declared.work.DmaWork.{DmaWork}
use Rattle.venice_isa.specs.Host.{with_number}
use Rattle.dma_segments.specs.declared.patches.Run.{Run}
use Rattle.dma_segments.specs.declared.patches.Patch.{Patch}
use Rattle.dma_segments.specs.declared.patches.Layout.{Layout}
use Rattle.dma_segments.specs.declared.patches.Sides.{Sides}
use Rattle.dma_segments.specs.Laws.{with_tag}
use Rattle.dma_segments.specs.Patch.{has_adjacent_sources, with_rows_joined, source_of_both, line, cross, blank, lines, crosses, row_lines, row_lines_from}
use Rattle.dma_segments.proofs.Lists.{Each}
use Rattle.dma_segments.specs.ReadList.{step_between, command_at, command_from, commands_of}
use Rattle.host_programs.specs.Expr.{Expr, Number, Variable, Product, IfLess, value, is_below}
use Rattle.host_programs.specs.ExprLaws.{Agree}
use Rattle.host_programs.specs.Program.{transfer_issue, list_by}
use Rattle.transfer_programs.specs.Axis.{RunExpr, scaled, times, plus, Axis}
use Rattle.transfer_programs.specs.SourcedRuns.{SourcedRun, sourced_from, sourced, IsRun, GoesThrough}
use Rattle.transfer_programs.specs.ReadProgram.{SidesExpr, PatchExpr, source_expr, line_expr, cross_expr, is_joined, patch_program, lines_program, crosses_program}
use Rattle.host_programs.proofs.Blocks.{with_same, with_other}
use Rattle.host_programs.proofs.Exprs.{below_more}
use Rattle.transfer_programs.proofs.Axes.{value_agree, agree_new, agree_then, value_scaled, below_scaled, value_times, below_times, value_plus, below_plus, RunParts, run_parts, run_later}

-- ---- choices

eq_chain : {A : Type 0} (u v : ℕ) (x y : A) → cond (ltb u v) x (cond (ltb v u) x y) ≡ cond (eqb u v) y x
eq_chain u v x y = elim (cases_lt u v) [
  | inl lt ↦ cond-true (ltb u v) x (cond (ltb v u) x y) (lt-ltb u v lt) ∙ sym (cond-false (eqb u v) y x (ne_eqb u v (λ e. omega (arith, e, lt))))
  | inr le ↦ elim (cases_lt v u) [
    | inl lt ↦ cond-false (ltb u v) x (cond (ltb v u) x y) (le-ltb u v le) ∙ cond-true (ltb v u) x y (lt-ltb v u lt) ∙ sym (cond-false (eqb u v) y x (ne_eqb u v (λ e. omega (arith, e, lt))))
    | inr ge ↦ cond-false (ltb u v) x (cond (ltb v u) x y) (le-ltb u v le) ∙ cond-false (ltb v u) x y (le-ltb v u ge) ∙ sym (cond-true (eqb u v) y x (eq-eqb u v (omega (arith, le, ge))))
  ]
]

pub step_is : (rows step : ℕ) → step_between rows step ≡ cond (ltb rows 2) 0 step
step_is zero step = refl
step_is (suc zero) step = refl
step_is (suc (suc rows)) step = sym (cond-false (ltb (suc (suc rows)) 2) 0 step (le-ltb (suc (suc rows)) 2 (omega arith)))

-- ---- the command of a patch

pub record SidesBelow (s : SidesExpr) (d : ℕ) : Type 0 where
  pub buffer : is_below s.buffer d ≡ true
  pub width : is_below s.width d ≡ true
  pub tag : is_below s.tag d ≡ true

pub sides_later : (s : SidesExpr) (d k : ℕ) → d ≤ k → SidesBelow s d → SidesBelow s k
sides_later s d k le low = record { buffer = below_more s.buffer d k le low.buffer; width = below_more s.width d k le low.width; tag = below_more s.tag d k le low.tag }

abbrev pub sides_by : SidesExpr → ℕ → Sides
sides_by s buffer = record { size = s.size; array = s.array; buffer = buffer }

-- one row is as it is
abbrev pub joined_rows : Patch → Patch
joined_rows patch = cond (ltb patch.rows 2) patch (with_rows_joined patch)

-- which is the same, where there is a row
joined_one : (patch : Patch) → patch.rows ≡ 1 → patch ≡ with_rows_joined patch
joined_one patch one = go (eqb patch.to_step patch.cols && has_adjacent_sources patch.from patch.cols patch.from_step)
  where
    with_counts : (rows cols : ℕ) → Patch
    with_counts rows cols = record patch { rows = rows; cols = cols }

    go : (t : Bool) → patch ≡ cond t (record patch { rows = 1; cols = patch.rows * patch.cols }) patch
    go true = let all : patch.cols ≡ patch.rows * patch.cols = omega (arith, ap (λ n. n * patch.cols) one) in ap (λ n. with_counts n patch.cols) one ∙ ap (with_counts 1) all
    go false = refl

pub rows_are_joined : (patch : Patch) → 1 ≤ patch.rows → joined_rows patch ≡ with_rows_joined patch
rows_are_joined patch some = elim (cases_lt patch.rows 2) [
  | inl lt ↦ cond-true (ltb patch.rows 2) patch (with_rows_joined patch) (lt-ltb patch.rows 2 lt) ∙ joined_one patch (omega (arith, lt, some))
  | inr le ↦ cond-false (ltb patch.rows 2) patch (with_rows_joined patch) (le-ltb patch.rows 2 le)
]

abbrev pub sent_by : SidesExpr → (buffer tag : ℕ) → Patch → ℕ → Issue
sent_by s buffer tag patch source = Read (with_tag tag (command_at (sides_by s buffer) (joined_rows patch) source))

pub record IsPatch (p : PatchExpr) (d : ℕ) (f : ℕ → ℕ) (patch : Patch) (source : ℕ) : Type 0 where
  pub below_rows : is_below p.rows d ≡ true
  pub below_cols : is_below p.cols d ≡ true
  pub below_to : is_below p.to d ≡ true
  pub below_to_step : is_below p.to_step d ≡ true
  pub below_from : is_below p.from d ≡ true
  pub below_from_step : is_below p.from_step d ≡ true
  pub rows : value p.rows f ≡ patch.rows
  pub cols : value p.cols f ≡ patch.cols
  pub to : value p.to f ≡ patch.to
  pub to_step : value p.to_step f ≡ patch.to_step
  pub from : value p.from f ≡ source
  pub from_step : value p.from_step f ≡ patch.from_step
  pub has_source : patch.from ≡ Some source

joined_value : (p : PatchExpr) (d : ℕ) (f : ℕ → ℕ) (patch : Patch) (source : ℕ) → IsPatch p d f patch source → value (is_joined p) f ≡ cond (cond (ltb patch.rows 2) false (eqb patch.to_step patch.cols && eqb patch.from_step patch.cols)) 1 0
joined_value p d f patch source is =
    let e0 = is.to_step in
    let e1 = is.cols in
    let e2 = is.from_step in
    let last : ℕ → ℕ → ℕ = λ fs cs. cond (ltb fs cs) 0 (cond (ltb cs fs) 0 1) in
    let chain : ℕ → ℕ → ℕ → ℕ = λ ts cs fs. cond (ltb ts cs) 0 (cond (ltb cs ts) 0 (last fs cs)) in
    let values : chain (value p.to_step f) (value p.cols f) (value p.from_step f) ≡ chain patch.to_step patch.cols patch.from_step = ap (λ ts. chain ts (value p.cols f) (value p.from_step f)) e0 ∙ ap (λ cs. chain patch.to_step cs (value p.from_step f)) e1 ∙ ap (λ fs. chain patch.to_step patch.cols fs) e2 in
    let adjacent = values ∙ eq_chain patch.to_step patch.cols 0 (last patch.from_step patch.cols) ∙ ap (λ m. cond (eqb patch.to_step patch.cols) m 0) (eq_chain patch.from_step patch.cols 0 1) ∙ both (eqb patch.to_step patch.cols) (eqb patch.from_step patch.cols) in
    ap (λ r. cond (ltb r 2) 0 (chain (value p.to_step f) (value p.cols f) (value p.from_step f))) is.rows ∙ ap (λ m. cond (ltb patch.rows 2) 0 m) adjacent ∙ many (ltb patch.rows 2) (eqb patch.to_step patch.cols && eqb patch.from_step patch.cols)
  where
    many : (t a : Bool) → ◌≡◌ {A = ℕ} (cond t 0 (cond a 1 0)) (cond (cond t false a) 1 0)
    many true a = refl
    many false a = refl

    both : (a b : Bool) → ◌≡◌ {A = ℕ} (cond a (cond b 1 0) 0) (cond (a && b) 1 0)
    both true b = refl
    both false b = refl

module _ (s : SidesExpr) (buffer tag source : ℕ) (patch : Patch) where
  abbrev stepped : (rows cols mem_step spad_step : ℕ) → DmaWork
  stepped rows cols mem_step spad_step = record {
    mem = s.array + source * s.size;
    spad = buffer + patch.to * s.size;
    rows = rows;
    bytes = cols * s.size;
    mem_step = mem_step;
    spad_step = spad_step;
    tag = tag;
  }

  abbrev made : (rows cols : ℕ) → DmaWork
  made rows cols = stepped rows cols (cond (ltb rows 2) 0 (patch.from_step * s.size)) (cond (ltb rows 2) 0 (patch.to_step * s.size))

  made_is : (t : Bool) (rows cols : ℕ) → rows ≡ cond t 1 patch.rows → cols ≡ cond t (patch.rows * patch.cols) patch.cols
      → made rows cols ≡ with_tag tag (command_at (sides_by s buffer) (cond t (record patch { rows = 1; cols = patch.rows * patch.cols }) patch) source)
  made_is true rows cols e0 e1 = ap (λ r. made r cols) e0 ∙ ap (λ c. made 1 c) e1
  made_is false rows cols e0 e1 =
      let g0 = step_is patch.rows (patch.from_step * s.size) in
      let g1 = step_is patch.rows (patch.to_step * s.size) in
      ap (λ r. made r cols) e0 ∙ ap (λ c. made patch.rows c) e1 ∙ ap (λ m. stepped patch.rows patch.cols m (cond (ltb patch.rows 2) 0 (patch.to_step * s.size))) (sym g0)
      ∙ ap (λ m. stepped patch.rows patch.cols (step_between patch.rows (patch.from_step * s.size)) m) (sym g1)

pub patch_list : (write : Bool) (s : SidesExpr) (p : PatchExpr) (d : ℕ) (f : ℕ → ℕ) (patch : Patch) (source : ℕ) → SidesBelow s d → IsPatch p d f patch source
    → list_by value (patch_program write s p d) d f ≡ transfer_issue write (with_tag (value s.tag f) (command_at (sides_by s (value s.buffer f)) (joined_rows patch) source)) ∷ []
patch_list write s p d f patch source low is = ap (λ work. transfer_issue write work ∷ []) (fields ∙ made_is s (value s.buffer f) (value s.tag f) source patch adjacent rows_now cols_now e_rows e_cols ∙ ap (λ q. with_tag (value s.tag f) (command_at (sides_by s (value s.buffer f)) q source)) joined)
  where
    adjacent : Bool
    adjacent = cond (ltb patch.rows 2) false (eqb patch.to_step patch.cols && eqb patch.from_step patch.cols)

    flag : ℕ
    flag = value (is_joined p) f

    f1 : ℕ → ℕ
    f1 = with_number d flag f

    rows_now : ℕ
    rows_now = value (IfLess (Variable d) (Number 1) p.rows (Number 1)) f1

    f2 : ℕ → ℕ
    f2 = with_number (d + 1) rows_now f1

    cols_now : ℕ
    cols_now = value (IfLess (Variable d) (Number 1) p.cols (Product p.rows p.cols)) f2

    f3 : ℕ → ℕ
    f3 = with_number (d + 1 + 1) cols_now f2

    a1 : Agree d f1 f
    a1 = agree_new d d flag f (omega arith)

    a2 : Agree d f2 f
    a2 = agree_then d (d + 1) f f1 f2 (omega arith) (agree_new (d + 1) (d + 1) rows_now f1 (omega arith)) a1

    a3 : Agree d f3 f
    a3 = agree_then d (d + 1 + 1) f f2 f3 (omega arith) (agree_new (d + 1 + 1) (d + 1 + 1) cols_now f2 (omega arith)) a2

    flag_is : flag ≡ cond adjacent 1 0
    flag_is = joined_value p d f patch source is

    pick : (t : Bool) (x y : ℕ) → cond (ltb (cond t 1 0) 1) x y ≡ cond t y x
    pick true x y = refl
    pick false x y = refl

    e_rows : rows_now ≡ cond adjacent 1 patch.rows
    e_rows =
        ap (λ m. cond (ltb m 1) (value p.rows f1) 1) (with_same f d flag ∙ flag_is) ∙ pick adjacent (value p.rows f1) 1
        ∙ ap (λ m. cond adjacent 1 m) (value_agree p.rows d f1 f a1 is.below_rows ∙ is.rows)

    e_cols : cols_now ≡ cond adjacent (patch.rows * patch.cols) patch.cols
    e_cols =
        let at_d : f2 d ≡ flag = with_other f1 (d + 1) rows_now d (ne_eqb d (d + 1) (λ e. omega (arith, e))) ∙ with_same f d flag in
        let r = value_agree p.rows d f2 f a2 is.below_rows ∙ is.rows in
        let c = value_agree p.cols d f2 f a2 is.below_cols ∙ is.cols in
        ap (λ m. cond (ltb m 1) (value p.cols f2) (value p.rows f2 * value p.cols f2)) (at_d ∙ flag_is) ∙ pick adjacent (value p.cols f2) (value p.rows f2 * value p.cols f2)
        ∙ ap (λ m. cond adjacent (m * value p.cols f2) (value p.cols f2)) r ∙ ap (λ m. cond adjacent (patch.rows * m) m) c

    at_rows : f3 (d + 1) ≡ rows_now
    at_rows = with_other f2 (d + 1 + 1) cols_now (d + 1) (ne_eqb (d + 1) (d + 1 + 1) (λ e. omega (arith, e))) ∙ with_same f1 (d + 1) rows_now

    at_cols : f3 (d + 1 + 1) ≡ cols_now
    at_cols = with_same f2 (d + 1 + 1) cols_now

    part : (e : Expr) (n : ℕ) → is_below e d ≡ true → value e f ≡ n → value (scaled e s.size) f3 ≡ n * s.size
    part e n below v = value_scaled e s.size f3 ∙ ap (λ m. m * s.size) (value_agree e d f3 f a3 below ∙ v)

    sent_now : DmaWork
    sent_now = record {
      mem = value (scaled p.from s.size) f3 + s.array;
      spad = value s.buffer f3 + value (scaled p.to s.size) f3;
      rows = f3 (d + 1);
      bytes = value (scaled (Variable (d + 1 + 1)) s.size) f3;
      mem_step = cond (ltb (f3 (d + 1)) 2) 0 (value (scaled p.from_step s.size) f3);
      spad_step = cond (ltb (f3 (d + 1)) 2) 0 (value (scaled p.to_step s.size) f3);
      tag = value s.tag f3;
    }

    fields : sent_now ≡ made s (value s.buffer f) (value s.tag f) source patch rows_now cols_now
    fields =
        let e0 : value (scaled p.from s.size) f3 + s.array ≡ s.array + source * s.size = omega (arith, part p.from source is.below_from is.from) in
        let e1 = value_agree s.buffer d f3 f a3 low.buffer in
        let e2 = part p.to patch.to is.below_to is.to in
        let e3 = at_rows in
        let e4 : value (scaled (Variable (d + 1 + 1)) s.size) f3 ≡ cols_now * s.size = value_scaled (Variable (d + 1 + 1)) s.size f3 ∙ ap (λ m. m * s.size) at_cols in
        let e5 = part p.from_step patch.from_step is.below_from_step is.from_step in
        let e6 = part p.to_step patch.to_step is.below_to_step is.to_step in
        let e7 = value_agree s.tag d f3 f a3 low.tag in
        cc

    joined : cond adjacent (record patch { rows = 1; cols = patch.rows * patch.cols }) patch ≡ joined_rows patch
    joined = kept (ltb patch.rows 2) (eqb patch.to_step patch.cols && eqb patch.from_step patch.cols) ∙ ap (λ q. cond (ltb patch.rows 2) patch q) as_joined
      where
        kept : (t a : Bool) → cond (cond t false a) (record patch { rows = 1; cols = patch.rows * patch.cols }) patch ≡ cond t patch (cond a (record patch { rows = 1; cols = patch.rows * patch.cols }) patch)
        kept true a = refl
        kept false a = refl

        as_joined : cond (eqb patch.to_step patch.cols && eqb patch.from_step patch.cols) (record patch { rows = 1; cols = patch.rows * patch.cols }) patch ≡ with_rows_joined patch
        as_joined = ap (λ o. cond (eqb patch.to_step patch.cols && has_adjacent_sources o patch.cols patch.from_step) (record patch { rows = 1; cols = patch.rows * patch.cols }) patch) (sym is.has_source)

-- ---- rows times columns

abbrev pub source_by : SidesExpr → SourcedRun → SourcedRun → ℕ
source_by s a b = a.source * s.row_pitch + b.source * s.column_pitch

abbrev pub line_by : SidesExpr → (width : ℕ) → SourcedRun → SourcedRun → Patch
line_by s width a b = record {
  rows = a.count;
  cols = b.count;
  to = a.first * width + b.first;
  to_step = a.step * width;
  from = Some (source_by s a b);
  from_step = a.source_step * s.row_pitch;
}

abbrev pub cross_by : SidesExpr → (width : ℕ) → SourcedRun → SourcedRun → Patch
cross_by s width a b = record {
  rows = b.count;
  cols = 1;
  to = a.first * width + b.first;
  to_step = b.step;
  from = Some (source_by s a b);
  from_step = b.source_step * s.column_pitch;
}

-- the same value at registers that agree, and below any more registers
module _ (s : SidesExpr) (k : ℕ) (g : ℕ → ℕ) (a b : RunExpr) (va vb : SourcedRun) (low : SidesBelow s k) (is_a : IsRun a k g va) (is_b : IsRun b k g vb) where
  pa : RunParts a k
  pa = run_parts a k is_a.below

  pb : RunParts b k
  pb = run_parts b k is_b.below

  to_value : value (plus (times a.first s.width) b.first) g ≡ va.first * value s.width g + vb.first
  to_value =
      value_plus (times a.first s.width) b.first g ∙ ap (λ m. m + value b.first g) (value_times a.first s.width g) ∙ ap (λ (w : SourcedRun). w.first * value s.width g + value b.first g) is_a.values
      ∙ ap (λ (w : SourcedRun). va.first * value s.width g + w.first) is_b.values

  from_value : value (source_expr s a b) g ≡ source_by s va vb
  from_value =
      ap (λ m. m + value (scaled b.source s.column_pitch) g) (value_scaled a.source s.row_pitch g) ∙ ap (λ m. value a.source g * s.row_pitch + m) (value_scaled b.source s.column_pitch g)
      ∙ ap (λ (w : SourcedRun). w.source * s.row_pitch + value b.source g * s.column_pitch) is_a.values ∙ ap (λ (w : SourcedRun). va.source * s.row_pitch + w.source * s.column_pitch) is_b.values

  below_to_both : is_below (plus (times a.first s.width) b.first) k ≡ true
  below_to_both = below_plus (times a.first s.width) b.first k (below_times a.first s.width k pa.first low.width) pb.first

  below_source : is_below (source_expr s a b) k ≡ true
  below_source = and_from _ _ (below_scaled a.source s.row_pitch k pa.source) (below_scaled b.source s.column_pitch k pb.source)

  line_is : IsPatch (line_expr s a b) k g (line_by s (value s.width g) va vb) (source_by s va vb)
  line_is = record {
    below_rows = pa.count;
    below_cols = pb.count;
    below_to = below_to_both;
    below_to_step = below_times a.step s.width k pa.step low.width;
    below_from = below_source;
    below_from_step = below_scaled a.source_step s.row_pitch k pa.source_step;
    rows = ap (λ (w : SourcedRun). w.count) is_a.values;
    cols = ap (λ (w : SourcedRun). w.count) is_b.values;
    to = to_value;
    to_step = value_times a.step s.width g ∙ ap (λ (w : SourcedRun). w.step * value s.width g) is_a.values;
    from = from_value;
    from_step = value_scaled a.source_step s.row_pitch g ∙ ap (λ (w : SourcedRun). w.source_step * s.row_pitch) is_a.values;
    has_source = refl;
  }

  cross_is : IsPatch (cross_expr s a b) k g (cross_by s (value s.width g) va vb) (source_by s va vb)
  cross_is = record {
    below_rows = pb.count;
    below_cols = refl;
    below_to = below_to_both;
    below_to_step = pb.step;
    below_from = below_source;
    below_from_step = below_scaled b.source_step s.column_pitch k pb.source_step;
    rows = ap (λ (w : SourcedRun). w.count) is_b.values;
    cols = refl;
    to = to_value;
    to_step = ap (λ (w : SourcedRun). w.step) is_b.values;
    from = from_value;
    from_step = value_scaled b.source_step s.column_pitch g ∙ ap (λ (w : SourcedRun). w.source_step * s.column_pitch) is_b.values;
    has_source = refl;
  }

-- what is issued for a run of rows and a run of columns, by the numbers of the buffer, the width and the tag
abbrev pub line_sent : SidesExpr → (buffer width tag : ℕ) → SourcedRun → SourcedRun → Issue
line_sent s buffer width tag a b = sent_by s buffer tag (line_by s width a b) (source_by s a b)

abbrev pub cross_sent : SidesExpr → (buffer width tag : ℕ) → SourcedRun → SourcedRun → Issue
cross_sent s buffer width tag a b = sent_by s buffer tag (cross_by s width a b) (source_by s a b)

module _ (s : SidesExpr) (d : ℕ) (f : ℕ → ℕ) (rows columns : Axis) (row_values column_values : List SourcedRun) (low : SidesBelow s d) (goes_rows : GoesThrough rows d f row_values)
    (goes_columns : (k : ℕ) (g : ℕ → ℕ) → d ≤ k → Agree d g f → GoesThrough columns k g column_values) where
  pub lines_list : list_by value (lines_program s rows columns d) d f ≡ flat_map (λ a. flat_map (λ b. line_sent s (value s.buffer f) (value s.width f) (value s.tag f) a b ∷ []) column_values) row_values
  lines_list = goes_rows.goes (λ k a. columns k (λ l b. patch_program false s (line_expr s a b) l)) (λ va. flat_map (λ vb. line_sent s (value s.buffer f) (value s.width f) (value s.tag f) va vb ∷ []) column_values) (record {
    handles = λ k g a va le same is. (goes_columns k g le same).goes (λ l b. patch_program false s (line_expr s a b) l) (λ vb. line_sent s (value s.buffer f) (value s.width f) (value s.tag f) va vb ∷ []) (record {
      handles = λ l h b vb more agree is_b. one k g a va le same is l h b vb more agree is_b;
    });
  })
    where
      one : (k : ℕ) (g : ℕ → ℕ) (a : RunExpr) (va : SourcedRun) → d ≤ k → Agree d g f → IsRun a k g va → (l : ℕ) (h : ℕ → ℕ) (b : RunExpr) (vb : SourcedRun) → k ≤ l → Agree k h g → IsRun b l h vb
          → list_by value (patch_program false s (line_expr s a b) l) l h ≡ line_sent s (value s.buffer f) (value s.width f) (value s.tag f) va vb ∷ []
      one k g a va le same is l h b vb more agree is_b =
          let low' = sides_later s d l (omega (arith, le, more)) low in
          let all : Agree d h f = agree_then d k f g h le agree same in
          let is_a = run_later a k l g h va more agree is in
          let e0 = value_agree s.buffer d h f all low.buffer in
          let e1 = value_agree s.width d h f all low.width in
          let e2 = value_agree s.tag d h f all low.tag in
          patch_list false s (line_expr s a b) l h (line_by s (value s.width h) va vb) (source_by s va vb) low' (line_is s l h a b va vb low' is_a is_b)
          ∙ ap (λ m. line_sent s m (value s.width h) (value s.tag h) va vb ∷ []) e0 ∙ ap (λ m. line_sent s (value s.buffer f) m (value s.tag h) va vb ∷ []) e1 ∙ ap (λ m. line_sent s (value s.buffer f) (value s.width f) m va vb ∷ []) e2

  pub crosses_list : list_by value (crosses_program s rows columns d) d f ≡ flat_map (λ a. flat_map (λ b. cross_sent s (value s.buffer f) (value s.width f) (value s.tag f) a b ∷ []) column_values) row_values
  crosses_list = goes_rows.goes (λ k a. columns k (λ l b. patch_program false s (cross_expr s a b) l)) (λ va. flat_map (λ vb. cross_sent s (value s.buffer f) (value s.width f) (value s.tag f) va vb ∷ []) column_values) (record {
    handles = λ k g a va le same is. (goes_columns k g le same).goes (λ l b. patch_program false s (cross_expr s a b) l) (λ vb. cross_sent s (value s.buffer f) (value s.width f) (value s.tag f) va vb ∷ []) (record {
      handles = λ l h b vb more agree is_b. one k g a va le same is l h b vb more agree is_b;
    });
  })
    where
      one : (k : ℕ) (g : ℕ → ℕ) (a : RunExpr) (va : SourcedRun) → d ≤ k → Agree d g f → IsRun a k g va → (l : ℕ) (h : ℕ → ℕ) (b : RunExpr) (vb : SourcedRun) → k ≤ l → Agree k h g → IsRun b l h vb
          → list_by value (patch_program false s (cross_expr s a b) l) l h ≡ cross_sent s (value s.buffer f) (value s.width f) (value s.tag f) va vb ∷ []
      one k g a va le same is l h b vb more agree is_b =
          let low' = sides_later s d l (omega (arith, le, more)) low in
          let all : Agree d h f = agree_then d k f g h le agree same in
          let is_a = run_later a k l g h va more agree is in
          let e0 = value_agree s.buffer d h f all low.buffer in
          let e1 = value_agree s.width d h f all low.width in
          let e2 = value_agree s.tag d h f all low.tag in
          patch_list false s (cross_expr s a b) l h (cross_by s (value s.width h) va vb) (source_by s va vb) low' (cross_is s l h a b va vb low' is_a is_b)
          ∙ ap (λ m. cross_sent s m (value s.width h) (value s.tag h) va vb ∷ []) e0 ∙ ap (λ m. cross_sent s (value s.buffer f) m (value s.tag h) va vb ∷ []) e1 ∙ ap (λ m. cross_sent s (value s.buffer f) (value s.width f) m va vb ∷ []) e2

-- ---- the same as the lists of commands

-- the run has a place
abbrev pub NotEmpty : Run → Type 0
NotEmpty run = 1 ≤ run.count

each_any : (runs : List Run) → Each (λ run. Unit {0}) runs
each_any [] = tt
each_any (run ∷ runs) = (tt, each_any runs)

module _ (s : SidesExpr) (buffer width tag : ℕ) where
  abbrev layout : Layout
  layout = record { width = width; row_pitch = s.row_pitch; column_pitch = s.column_pitch }

  unfoldable pub sent : List Patch → List Issue
  sent patches = map (λ work. Read (with_tag tag work)) (commands_of (sides_by s buffer) (map with_rows_joined patches))

  empty_sent : sent [] ≡ []
  unfolding sent
  empty_sent = refl

  sent_append : (xs ys : List Patch) → sent (xs ++ ys) ≡ sent xs ++ sent ys
  unfolding sent
  sent_append xs ys =
      let sides = sides_by s buffer in
      let each = λ (patch : Patch). command_from patch.from sides patch in
      ap (λ ps. map (λ work. Read (with_tag tag work)) (flat_map each ps)) (map-append with_rows_joined xs ys) ∙ ap (map (λ work. Read (with_tag tag work))) (flat_map-append each (map with_rows_joined xs) (map with_rows_joined ys))
      ∙ map-append (λ work. Read (with_tag tag work)) (flat_map each (map with_rows_joined xs)) (flat_map each (map with_rows_joined ys))

  joined_from : (patch : Patch) (t : Bool) → (cond t (record patch { rows = 1; cols = patch.rows * patch.cols }) patch).from ≡ patch.from
  joined_from patch true = refl
  joined_from patch false = refl

  one_sent : (patch : Patch) (source : ℕ) → 1 ≤ patch.rows → patch.from ≡ Some source → sent (patch ∷ []) ≡ sent_by s buffer tag patch source ∷ []
  unfolding sent
  one_sent patch source some is =
      let sides = sides_by s buffer in
      let joined = with_rows_joined patch in
      let from : joined.from ≡ Some source = joined_from patch (eqb patch.to_step patch.cols && has_adjacent_sources patch.from patch.cols patch.from_step) ∙ is in
      ap (λ o. map (λ work. Read (with_tag tag work)) (command_from o sides joined ++ [])) from ∙ ap (λ q. Read (with_tag tag (command_at sides q source)) ∷ []) (sym (rows_are_joined patch some))

  none_sent : (patch : Patch) → patch.from ≡ None → sent (patch ∷ []) ≡ []
  unfolding sent
  none_sent patch is =
      let sides = sides_by s buffer in
      let joined = with_rows_joined patch in
      let from : joined.from ≡ None = joined_from patch (eqb patch.to_step patch.cols && has_adjacent_sources patch.from patch.cols patch.from_step) ∙ is in
      ap (λ o. map (λ work. Read (with_tag tag work)) (command_from o sides joined ++ [])) from

  -- the columns of one run of rows
  columns_sent : (make : Run → Patch) (given : SourcedRun → Issue) (Has : Run → Type 0) → ((b : Run) → b.source ≡ None → (make b).from ≡ None)
      → ((b : Run) (x : ℕ) → Has b → b.source ≡ Some x → sent (make b ∷ []) ≡ given (record { first = b.first; step = b.step; count = b.count; source = x; source_step = b.source_step }) ∷ [])
      → (columns : List Run) → Each Has columns → sent (map make columns) ≡ flat_map (λ b. given b ∷ []) (sourced columns)
  columns_sent make given Has none some [] has = empty_sent
  columns_sent make given Has none some (b ∷ columns) has =
      sent_append (make b ∷ []) (map make columns) ∙ ap (λ xs. sent (make b ∷ []) ++ xs) (columns_sent make given Has none some columns has.1) ∙ go b.source refl
    where
      go : (source : Option ℕ) → b.source ≡ source → sent (make b ∷ []) ++ flat_map (λ b. given b ∷ []) (sourced columns) ≡ flat_map (λ b. given b ∷ []) (sourced_from source b ++ sourced columns)
      go None is = ap (λ xs. xs ++ flat_map (λ b. given b ∷ []) (sourced columns)) (none_sent (make b) (none b is))
      go (Some x) is = ap (λ xs. xs ++ flat_map (λ b. given b ∷ []) (sourced columns)) (some b x has.0 is)

  no_source : (row_source : Option ℕ) (b : Run) → b.source ≡ None → source_of_both layout row_source b.source ≡ None
  no_source None b is = refl
  no_source (Some y) b is = ap (source_of_both layout (Some y)) is

  abbrev with_source : Run → ℕ → SourcedRun
  with_source a y = record { first = a.first; step = a.step; count = a.count; source = y; source_step = a.source_step }

  line_made : (a b : Run) (y x : ℕ) → 1 ≤ a.count → a.source ≡ Some y → b.source ≡ Some x → sent (line layout a b ∷ []) ≡ line_sent s buffer width tag (with_source a y) (with_source b x) ∷ []
  line_made a b y x some is_a is_b =
      let both : source_of_both layout a.source b.source ≡ Some (y * s.row_pitch + x * s.column_pitch) = ap (λ o. source_of_both layout o b.source) is_a ∙ ap (source_of_both layout (Some y)) is_b in
      let made : Option ℕ → Patch = λ o. record { rows = a.count; cols = b.count; to = a.first * width + b.first; to_step = a.step * width; from = o; from_step = a.source_step * s.row_pitch } in
      let same : line layout a b ≡ line_by s width (with_source a y) (with_source b x) = ap made both in
      ap (λ p. sent (p ∷ [])) same ∙ one_sent (line_by s width (with_source a y) (with_source b x)) (source_by s (with_source a y) (with_source b x)) some refl

  cross_made : (a b : Run) (y x : ℕ) → 1 ≤ b.count → a.source ≡ Some y → b.source ≡ Some x → sent (cross layout a b ∷ []) ≡ cross_sent s buffer width tag (with_source a y) (with_source b x) ∷ []
  cross_made a b y x some is_a is_b =
      let both : source_of_both layout a.source b.source ≡ Some (y * s.row_pitch + x * s.column_pitch) = ap (λ o. source_of_both layout o b.source) is_a ∙ ap (source_of_both layout (Some y)) is_b in
      let made : Option ℕ → Patch = λ o. record { rows = b.count; cols = 1; to = a.first * width + b.first; to_step = b.step; from = o; from_step = b.source_step * s.column_pitch } in
      let same : cross layout a b ≡ cross_by s width (with_source a y) (with_source b x) = ap made both in
      ap (λ p. sent (p ∷ [])) same ∙ one_sent (cross_by s width (with_source a y) (with_source b x)) (source_by s (with_source a y) (with_source b x)) some refl

  pub lines_sent : (rows columns : List Run) → Each NotEmpty rows → sent (lines layout rows columns) ≡ flat_map (λ a. flat_map (λ b. line_sent s buffer width tag a b ∷ []) (sourced columns)) (sourced rows)
  lines_sent [] columns has = empty_sent
  lines_sent (a ∷ rows) columns has =
      sent_append (row_lines layout columns a) (lines layout rows columns) ∙ ap (λ xs. sent (row_lines layout columns a) ++ xs) (lines_sent rows columns has.1) ∙ go a.source refl
    where
      given : SourcedRun → List Issue
      given v = flat_map (λ b. line_sent s buffer width tag v b ∷ []) (sourced columns)

      go : (source : Option ℕ) → a.source ≡ source → sent (row_lines_from source layout columns a) ++ flat_map given (sourced rows) ≡ flat_map given (sourced_from source a ++ sourced rows)
      go None is = ap (λ xs. xs ++ flat_map given (sourced rows)) (none_sent (blank layout a) refl)
      go (Some y) is =
          ap (λ xs. xs ++ flat_map given (sourced rows)) (columns_sent (line layout a) (line_sent s buffer width tag (with_source a y)) (λ b. Unit {0}) (λ b none. no_source a.source b none) (λ b x any some. line_made a b y x has.0 is some) columns (each_any columns))

  -- no column has a source where the row has none
  all_none : (make : Run → Patch) → ((b : Run) → (make b).from ≡ None) → (columns : List Run) → sent (map make columns) ≡ []
  all_none make none [] = empty_sent
  all_none make none (b ∷ columns) = sent_append (make b ∷ []) (map make columns) ∙ ap (λ xs. xs ++ sent (map make columns)) (none_sent (make b) (none b)) ∙ all_none make none columns

  pub crosses_sent : (rows columns : List Run) → Each NotEmpty columns → sent (crosses layout rows columns) ≡ flat_map (λ a. flat_map (λ b. cross_sent s buffer width tag a b ∷ []) (sourced columns)) (sourced rows)
  crosses_sent [] columns has = empty_sent
  crosses_sent (a ∷ rows) columns has =
      sent_append (map (cross layout a) columns) (crosses layout rows columns) ∙ ap (λ xs. sent (map (cross layout a) columns) ++ xs) (crosses_sent rows columns has) ∙ go a.source refl
    where
      given : SourcedRun → List Issue
      given v = flat_map (λ b. cross_sent s buffer width tag v b ∷ []) (sourced columns)

      go : (source : Option ℕ) → a.source ≡ source → sent (map (cross layout a) columns) ++ flat_map given (sourced rows) ≡ flat_map given (sourced_from source a ++ sourced rows)
      go None is = ap (λ xs. xs ++ flat_map given (sourced rows)) (all_none (cross layout a) (λ b. ap (λ o. source_of_both layout o b.source) is) columns)
      go (Some y) is =
          ap (λ xs. xs ++ flat_map given (sourced rows)) (columns_sent (cross layout a) (cross_sent s buffer width tag (with_source a y)) NotEmpty (λ b none. no_source a.source b none) (λ b x row some. cross_made a b y x row is some) columns has)
