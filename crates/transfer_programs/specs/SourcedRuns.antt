-- Inner: the runs that an axis goes through, by their values.
use Rattle.std.specs.Prelude.{◌≡◌, ℕ, ◌≤◌, Bool, true, ◌&&◌, Option, None, Some, List, [], ◌∷◌}
use Rattle.std.specs.List.{flat_map}
use Rattle.venice_isa.specs.declared.issue.Issue.{Issue}
use Rattle.dma_segments.specs.declared.patches.Run.{Run}
use Rattle.host_programs.specs.Expr.{value, is_below}
use Rattle.host_programs.specs.ExprLaws.{Agree}
use Rattle.host_programs.specs.Program.{Program, list_by}
use Rattle.transfer_programs.specs.Axis.{RunExpr, Axis}

pub record SourcedRun : Type 0 where
  pub first : ℕ
  pub step : ℕ
  pub count : ℕ
  pub source : ℕ
  pub source_step : ℕ

abbrev pub sourced_from : Option ℕ → Run → List SourcedRun
sourced_from None run = []
sourced_from (Some source) run = record {
  first = run.first;
  step = run.step;
  count = run.count;
  source = source;
  source_step = run.source_step;
} ∷ []

abbrev pub sourced : List Run → List SourcedRun
sourced runs = flat_map (λ run. sourced_from run.source run) runs

-- ---- by expressions

abbrev pub run_value : RunExpr → (f : ℕ → ℕ) → SourcedRun
run_value run f = record {
  first = value run.first f;
  step = value run.step f;
  count = value run.count f;
  source = value run.source f;
  source_step = value run.source_step f;
}

abbrev pub is_run_below : RunExpr → (d : ℕ) → Bool
is_run_below run d =
    is_below run.first d && (is_below run.step d && (is_below run.count d
    && (is_below run.source d && is_below run.source_step d)))

-- ---- what an axis goes through

-- a run's expressions read registers below d alone, and have these values
pub record IsRun (run : RunExpr) (d : ℕ) (f : ℕ → ℕ) (v : SourcedRun) : Type 0 where
  pub below : is_run_below run d ≡ true
  pub values : run_value run f ≡ v

-- what is done with a run: it gives this list for the run's values, whatever registers beyond d are in use
pub record Handles (body : ℕ → RunExpr → Program) (d : ℕ) (f : ℕ → ℕ) (given : SourcedRun → List Issue) : Type 0 where
  pub handles : (k : ℕ) (g : ℕ → ℕ) (run : RunExpr) (v : SourcedRun) → d ≤ k → Agree d g f → IsRun run k g v
      → list_by value (body k run) k g ≡ given v

-- the axis goes through these runs
pub record GoesThrough (axis : Axis) (d : ℕ) (f : ℕ → ℕ) (runs : List SourcedRun) : Type 0 where
  pub goes : (body : ℕ → RunExpr → Program) (given : SourcedRun → List Issue) → Handles body d f given
      → list_by value (axis d body) d f ≡ flat_map given runs
