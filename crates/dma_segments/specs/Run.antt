-- Runs: the rows of a piece, or its columns, in parts whose sources stand equally far apart, map by map. A piece's
-- axis begins at place `start` of the result and has n places, which count from 0.
use Rattle.std.specs.Prelude.{ℕ, zero, suc, ℤ, pos, negsuc, ◌+◌, ◌-◌, ◌*◌, ◌/◌, ◌+ℤ◌, min, nat_le, if◌then◌else◌, Option, None, Some, List, [], ◌∷◌, ◌++◌, map}
use Rattle.std.specs.List.{range_with_len, flat_map}
use Rattle.ven_base.specs.declared.mapping.Mapping.{Mapping}
use Rattle.ven_base.specs.declared.mapping.Mapping.TheVariants.{Identity, Shift, Rotate, Section, Stretch, Transpose}
use Rattle.ven_base.specs.Extent.{Extent}
use Rattle.ven_base.specs.Place.{place_round}
use Rattle.pass_plan.specs.declared.parts.Piece.{Piece}
use Rattle.dma_segments.specs.declared.patches.Run.{Run}

-- a source so much further on; none stays none
abbrev pub further : Option ℕ → ℕ → Option ℕ
further None d = None
further (Some s) d = Some (s + d)

-- the r-th place of a run, and its source
abbrev pub place_of : Run → ℕ → ℕ
place_of run r = run.first + r * run.step

abbrev pub source_at : Run → ℕ → Option ℕ
source_at run r = further run.source (r * run.source_step)

-- n places one after another, whose sources follow one another too
abbrev pub neighbours : (first n : ℕ) → Option ℕ → Run
neighbours first n source = record { first = first; step = 1; count = n; source = source; source_step = 1 }

-- the run, where it has a place
abbrev pub unless_empty : ℕ → Run → List Run
unless_empty zero run = []
unless_empty (suc n) run = run ∷ []

abbrev pub some_places : (first n : ℕ) → Option ℕ → List Run
some_places first n source = unless_empty n (neighbours first n source)

-- ---- the runs of an axis

-- an axis that is kept
abbrev pub plain_runs : (start n : ℕ) → List Run
plain_runs start n = neighbours 0 n (Some start) ∷ []

-- shifted to sources k further on: the places whose sources are below the size, then those without
abbrev pub later_runs : (size k start n : ℕ) → List Run
later_runs size k start n =
    let inside = min n (size - (start + k)) in
    some_places 0 inside (Some (start + k)) ++ some_places inside (n - inside) None

-- shifted to sources k further back: the places without a source, then those with
abbrev pub earlier_runs : (k start n : ℕ) → List Run
earlier_runs k start n =
    let outside = min n (k - start) in
    some_places 0 outside None ++ some_places outside (n - outside) (Some (start + outside - k))

abbrev pub shifted_runs : (size : ℕ) → ℤ → (start n : ℕ) → List Run
shifted_runs size (pos k) start n = later_runs size k start n
shifted_runs size (negsuc k) start n = earlier_runs (suc k) start n

-- rotated: up to the last place of the source, then from its place 0 on
abbrev pub runs_round : (size first n : ℕ) → List Run
runs_round size first n =
    let before = min n (size - first) in
    some_places 0 before (Some first) ++ some_places before (n - before) (Some 0)

abbrev pub round_runs : (size : ℕ) → ℤ → (start n : ℕ) → List Run
round_runs size d start n = runs_round size (place_round size (pos start +ℤ d)) n

-- of a section: every step-th place from the first on
abbrev pub cut_runs : (first step start n : ℕ) → List Run
cut_runs first step start n =
    record { first = 0; step = 1; count = n; source = Some (first + start * step); source_step = step } ∷ []

-- stretched, by phases: every times-th place, from place p on
abbrev pub phase : (times start n p : ℕ) → Run
phase times start n p = record {
  first = p;
  step = times;
  count = (n - p + times - 1) / times;
  source = Some ((start + p) / times);
  source_step = 1;
}

abbrev pub phase_count : (times n : ℕ) → ℕ
phase_count times n = min times n

abbrev pub phases : (times start n : ℕ) → List Run
phases times start n = map (phase times start n) (range_with_len 0 (phase_count times n))

-- stretched, by blocks: the places that come from place q
abbrev pub block : (times start n q : ℕ) → Run
block times start n q = record {
  first = q * times - start;
  step = 1;
  count = min n (q * times + times - start) - (q * times - start);
  source = Some q;
  source_step = 0;
}

-- how many places the sources are
abbrev pub block_count : (times start n : ℕ) → ℕ
block_count times start n = (start + n - 1) / times + 1 - start / times

abbrev pub blocks : (times start n : ℕ) → List Run
blocks times start n = map (block times start n) (range_with_len (start / times) (block_count times start n))

-- whichever are fewer
abbrev pub repeated_runs : (times start n : ℕ) → List Run
repeated_runs times start n =
    if nat_le (phase_count times n) (block_count times start n) then phases times start n else blocks times start n

-- ---- the runs of a piece's rows and columns

-- a transpose takes the result's rows from columns, each axis as it is
abbrev pub row_runs : Mapping → Extent → Piece → List Run
row_runs Identity shape piece = plain_runs piece.r0 piece.h
row_runs (Shift dr dc fill) shape piece = shifted_runs shape.rows dr piece.r0 piece.h
row_runs (Rotate dr dc) shape piece = round_runs shape.rows dr piece.r0 piece.h
row_runs (Section r0 nr sr c0 nc sc) shape piece = cut_runs r0 sr piece.r0 piece.h
row_runs (Stretch kr kc) shape piece = repeated_runs kr piece.r0 piece.h
row_runs Transpose shape piece = plain_runs piece.r0 piece.h

abbrev pub column_runs : Mapping → Extent → Piece → List Run
column_runs Identity shape piece = plain_runs piece.c0 piece.w
column_runs (Shift dr dc fill) shape piece = shifted_runs shape.cols dc piece.c0 piece.w
column_runs (Rotate dr dc) shape piece = round_runs shape.cols dc piece.c0 piece.w
column_runs (Section r0 nr sr c0 nc sc) shape piece = cut_runs c0 sc piece.c0 piece.w
column_runs (Stretch kr kc) shape piece = repeated_runs kc piece.c0 piece.w
column_runs Transpose shape piece = plain_runs piece.c0 piece.w

-- ---- a run for each place

abbrev pub single : Run → ℕ → Run
single run r = record { first = place_of run r; step = 1; count = 1; source = source_at run r; source_step = 0 }

abbrev pub singles : List Run → List Run
singles runs = flat_map (λ run. map (single run) (range_with_len 0 run.count)) runs
