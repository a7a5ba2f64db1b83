-- The runs of an axis that have a source, by expressions, as what a program goes through one by one.
use Rattle.std.specs.Prelude.{ℕ, ◌+◌, ◌==◌, if◌then◌else◌}
use Rattle.host_programs.specs.Expr.{Expr, Number, Variable, Offset, Sum, Product, IfLess}
use Rattle.host_programs.specs.Program.{Program, Both, UnlessLess, Let, For}

-- ---- runs

-- the first place of a run, the step to the next, how many there are, and where their sources are
pub record RunExpr : Type 0 where
  pub first : Expr
  pub step : Expr
  pub count : Expr
  pub source : Expr
  pub source_step : Expr

-- ---- products and sums, without what adds nothing

abbrev pub scaled : Expr → (n : ℕ) → Expr
scaled e n = if n == 1 then e else Product e (Number n)

abbrev pub times : (a b : Expr) → Expr
times (Number n) b = if n == 0 then Number 0 else scaled b n
times a b = Product a b

abbrev pub plus : (a b : Expr) → Expr
plus (Number n) b = if n == 0 then b else Offset b n
plus a b = Sum a b

abbrev pub lesser : (a b : Expr) → Expr
lesser a b = IfLess a b a b

-- one place of a run, as a run of its own
abbrev pub single_run : RunExpr → Expr → RunExpr
single_run run r = record {
  first = plus run.first (times run.step r);
  step = Number 1;
  count = Number 1;
  source = plus run.source (times run.source_step r);
  source_step = Number 0;
}

-- ---- axes

-- what does something for each run of an axis, with its first d registers in use
abbrev pub Axis : Type 0
Axis = (d : ℕ) → (ℕ → RunExpr → Program) → Program

abbrev pub one_run : RunExpr → Axis
one_run run d body = body d run

-- a run, where it has a place; register d has how many
abbrev pub some_run : Expr → (Expr → RunExpr) → Axis
some_run count run d body = Let count (UnlessLess (Variable d) (Number 1) (body (d + 1) (run (Variable d))))

-- with a number that has a name
abbrev pub named : Expr → (Expr → Axis) → Axis
named e axis d body = Let e (axis (Variable d) (d + 1) body)

abbrev pub both_axes : Axis → Axis → Axis
both_axes a b d body = Both (a d body) (b d body)

-- a run for each number below this one
abbrev pub each_run : Expr → (Expr → RunExpr) → Axis
each_run count run d body = For count (body (d + 2) (run (Variable (d + 1))))

-- x where the flag is 0, else y
abbrev pub pick : (flag x y : Expr) → Expr
pick flag x y = IfLess flag (Number 1) x y

abbrev pub pick_run : (flag : Expr) → (x y : RunExpr) → RunExpr
pick_run flag x y = record {
  first = pick flag x.first y.first;
  step = pick flag x.step y.step;
  count = pick flag x.count y.count;
  source = pick flag x.source y.source;
  source_step = pick flag x.source_step y.source_step;
}

-- the runs x of so many numbers where the flag is 0, else the runs y of as many as the other says
abbrev pub either_runs : (flag x_count y_count : Expr) → (x y : Expr → RunExpr) → Axis
either_runs flag x_count y_count x y = each_run (pick flag x_count y_count) (λ t. pick_run flag (x t) (y t))

-- each place of each run
abbrev pub singles_of : Axis → Axis
singles_of axis d body = axis d (λ k run. For run.count (body (k + 2) (single_run run (Variable (k + 1)))))
