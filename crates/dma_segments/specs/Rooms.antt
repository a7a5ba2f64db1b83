-- Inner: what code needs to know of runs and patches, so that its numbers fit.
use Rattle.std.specs.Prelude.{◌≡◌, ℕ, ◌+◌, ◌*◌, ◌<◌, ◌^◌, IfSome, All, Some, List, length}
use Rattle.dma_segments.specs.declared.patches.Run.{Run}
use Rattle.dma_segments.specs.declared.patches.Patch.{Patch}
use Rattle.dma_segments.specs.declared.patches.Layout.{Layout}
use Rattle.dma_segments.specs.declared.patches.Sides.{Sides}
use Rattle.dma_segments.specs.Run.{place_of, singles}
use Rattle.dma_segments.specs.Patch.{source_of_both}

-- the run's places and sources are numbers below 2 to the 32
pub record HasSmallPlaces (run : Run) : Type 0 where
  pub places : (r : ℕ) → r < run.count → place_of run r < 2 ^ 32
  pub sources : (r s : ℕ) → r < run.count → run.source ≡ Some s → s + r * run.source_step < 2 ^ 32

-- the first place of a line or a cross, in the piece and in the array, is
pub record HasSmallCorner (layout : Layout) (a b : Run) : Type 0 where
  pub to_is_small : a.first * layout.width + b.first < 2 ^ 32
  pub from_is_small : IfSome (source_of_both layout a.source b.source) (λ s. s < 2 ^ 32)

abbrev pub HaveSmallCorners : Layout → List Run → List Run → Type 0
HaveSmallCorners layout rows columns =
    All (λ a. (a.first * layout.width < 2 ^ 32) × All (HasSmallCorner layout a) columns) rows

pub record CanCombine (layout : Layout) (rows columns : List Run) : Type 0 where
  pub few_rows : length rows < 2 ^ 32
  pub few_columns : length columns < 2 ^ 32
  pub small_rows : All HasSmallPlaces rows
  pub small_columns : All HasSmallPlaces columns
  pub whole : HaveSmallCorners layout rows columns
  pub row_by_row : HaveSmallCorners layout (singles rows) columns
  pub column_by_column : HaveSmallCorners layout rows (singles columns)

-- the patch's places in bytes, also where its rows are one, are numbers below 2 to the 32
pub record HasRoom (sides : Sides) (patch : Patch) : Type 0 where
  pub to_fits : sides.buffer + patch.to * sides.size < 2 ^ 32
  pub from_fits : IfSome patch.from (λ source. sides.array + source * sides.size < 2 ^ 32)
  pub all_fit : patch.rows * patch.cols < 2 ^ 32
  pub all_bytes_fit : patch.rows * patch.cols * sides.size < 2 ^ 32
  pub row_fits : patch.cols * sides.size < 2 ^ 32
  pub to_step_fits : 1 < patch.rows → patch.to_step * sides.size < 2 ^ 32
  pub from_step_fits : IfSome patch.from (λ source. 1 < patch.rows → patch.from_step * sides.size < 2 ^ 32)
