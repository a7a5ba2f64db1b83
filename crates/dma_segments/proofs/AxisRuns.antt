-- Runs that make up an axis, and where each place of an axis comes from, map by map.
use Rattle.std.specs.Prelude.{◌≡◌, ℕ, ℤ, pos, ◌+◌, ◌*◌, ◌/◌, ◌+ℤ◌, ◌≤◌, ◌<◌, Option, Some, List}
use Rattle.ven_base.specs.declared.mapping.Mapping.{Mapping}
use Rattle.ven_base.specs.declared.mapping.Mapping.TheVariants.{Identity, Shift, Rotate, Section, Stretch, Transpose}
use Rattle.ven_base.specs.Extent.{Extent}
use Rattle.ven_base.specs.Place.{place_within, place_round}
use Rattle.pass_plan.specs.declared.parts.Piece.{Piece}
use Rattle.dma_segments.specs.declared.patches.Run.{Run}
use Rattle.dma_segments.specs.Run.{place_of, source_at}
use Rattle.dma_segments.proofs.Lists.{Each, AtLeastOne, EachPair}

-- the place is one of the run's
abbrev pub HasPlace : Run → ℕ → Type 0
HasPlace run i = (r : ℕ) × (r < run.count) × (place_of run r ≡ i)

-- the run's places are among the n places of the axis, and have the axis's sources
pub record IsRunOf (n : ℕ) (axis : ℕ → Option ℕ) (run : Run) : Type 0 where
  pub some : 1 ≤ run.count
  pub moves : 1 ≤ run.step
  pub inside : (r : ℕ) → r < run.count → place_of run r < n
  pub sources : (r : ℕ) → r < run.count → axis (place_of run r) ≡ source_at run r

-- no place is in both
abbrev pub AreRunsApart : Run → Run → Type 0
AreRunsApart a b = (i : ℕ) → HasPlace a i → ¬ HasPlace b i

-- the runs have each of the n places of the axis once
pub record AreRunsOf (n : ℕ) (axis : ℕ → Option ℕ) (runs : List Run) : Type 0 where
  pub each : Each (IsRunOf n axis) runs
  pub covered : (i : ℕ) → i < n → AtLeastOne (λ run. HasPlace run i) runs
  pub once : EachPair AreRunsApart runs

-- ---- axes

abbrev pub plain_axis : ℕ → ℕ → Option ℕ
plain_axis start i = Some (start + i)

abbrev pub shifted_axis : (size : ℕ) → ℤ → ℕ → ℕ → Option ℕ
shifted_axis size d start i = place_within size (pos (start + i) +ℤ d)

abbrev pub round_axis : (size : ℕ) → ℤ → ℕ → ℕ → Option ℕ
round_axis size d start i = Some (place_round size (pos (start + i) +ℤ d))

abbrev pub cut_axis : (first step : ℕ) → ℕ → ℕ → Option ℕ
cut_axis first step start i = Some (first + (start + i) * step)

abbrev pub repeated_axis : (times : ℕ) → ℕ → ℕ → Option ℕ
repeated_axis times start i = Some ((start + i) / times)

-- where a row of the piece comes from, and a column
abbrev pub row_axis : Mapping → Extent → Piece → ℕ → Option ℕ
row_axis Identity shape piece = plain_axis piece.r0
row_axis (Shift dr dc fill) shape piece = shifted_axis shape.rows dr piece.r0
row_axis (Rotate dr dc) shape piece = round_axis shape.rows dr piece.r0
row_axis (Section r0 nr sr c0 nc sc) shape piece = cut_axis r0 sr piece.r0
row_axis (Stretch kr kc) shape piece = repeated_axis kr piece.r0
row_axis Transpose shape piece = plain_axis piece.r0

abbrev pub column_axis : Mapping → Extent → Piece → ℕ → Option ℕ
column_axis Identity shape piece = plain_axis piece.c0
column_axis (Shift dr dc fill) shape piece = shifted_axis shape.cols dc piece.c0
column_axis (Rotate dr dc) shape piece = round_axis shape.cols dc piece.c0
column_axis (Section r0 nr sr c0 nc sc) shape piece = cut_axis c0 sc piece.c0
column_axis (Stretch kr kc) shape piece = repeated_axis kc piece.c0
column_axis Transpose shape piece = plain_axis piece.c0
