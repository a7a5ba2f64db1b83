-- Regions as rows, and two cursors that go through the rows of two.
use Rattle.std.proofs.Common.{◌≡◌, ◌↔◌, ◌⊎◌, ℕ, zero, suc, ◌+◌, ◌-◌, ◌*◌, ◌<◌, ◌≤◌, ◌^◌, inl, inr, refl, sym, subst, arith}
use Rattle.std.proofs.lemmas.Bool.{cases_lt}
use Rattle.std.proofs.Math.Nat.{mul-le-mul_right}
use Rattle.venice_isa.specs.declared.region.Region.{Region}
use Rattle.venice_isa.specs.declared.meeting.Row.{Row}
use Rattle.venice_isa.specs.declared.meeting.Rows.{Rows}
use Rattle.venice_isa.specs.Region.{IsAt, Covers}
use Rattle.venice_isa.specs.Meeting.{Meet, place_limit, IsInRow, RowsMeet, IsInRows, AreRows, SomeMeet, StandFor, Spans, behind_current}
use Rattle.venice_isa.proofs.Regions.{item_fits}

-- ---- a region's bytes by rows

-- byte p is one of row r's
record InRegionRow (region : Region) (r p : ℕ) : Type 0 where
  row : r < region.rows
  from : region.place + r * region.step ≤ p
  below : p < region.place + r * region.step + region.columns * region.size

row_of_covered : (region : Region) (p : ℕ) → Covers region p → (r : ℕ) × InRegionRow region r p
row_of_covered region p covered =
    let at : IsAt region covered.0 covered.1 p = covered.2 in
    let in_row : covered.1 * region.size + region.size ≤ region.columns * region.size = item_fits covered.1 region.columns region.size at.column in
    (covered.0, record { row = at.row; from = omega (arith, at.from); below = omega (arith, at.below) })

-- of items that stand one after the other, a byte is one's
item_of_byte : (size n q : ℕ) → q < n * size → (j : ℕ) × (j < n) × (j * size ≤ q) × (q < j * size + size)
item_of_byte size zero q below = absurd (omega arith)
item_of_byte size (suc n) q below =
    elim (cases_lt q (n * size)) [
      | inl before ↦ let found = item_of_byte size n q before in (found.0, omega (arith, found.1), found.2, found.3)
      | inr from ↦ (n, omega arith, from, omega arith)
    ]

covered_of_row : (region : Region) (p r : ℕ) → InRegionRow region r p → Covers region p
covered_of_row region p r at =
    let found = item_of_byte region.size region.columns (p - (region.place + r * region.step)) (omega (arith, at.from, at.below)) in
    (r, found.0, record { row = at.row; column = found.1; from = omega (arith, at.from, found.2); below = omega (arith, at.from, found.3) })

-- of rows that leave no gaps, a byte between the first one's beginning and the last one's end is one's
row_of_byte : (step bytes n q : ℕ) → step ≤ bytes → q < n * step + bytes → (r : ℕ) × (r ≤ n) × (r * step ≤ q) × (q < r * step + bytes)
row_of_byte step bytes zero q close below = (0, omega arith, omega arith, omega arith)
row_of_byte step bytes (suc n) q close below =
    elim (cases_lt q (n * step + bytes)) [
      | inl before ↦ let found = row_of_byte step bytes n q close before in (found.0, omega (arith, found.1), found.2, found.3)
      | inr from ↦ (suc n, omega arith, omega arith, omega arith)
    ]

-- so many rows of so many bytes, as far apart as the region's
abbrev pub rows_from : Region → (place bytes : ℕ) → Rows
rows_from region place bytes = record { row = record { place = place; bytes = bytes }; left = region.rows; step = region.step }

module _ (region : Region) (place bytes : ℕ) (is_place : place ≡ region.place) (is_row : bytes ≡ region.columns * region.size) where
  -- the rows of a region, one by one
  pub rows_apart : StandFor region (rows_from region place bytes)
  rows_apart p below = (to, from)
    where
      to : Covers region p → IsInRows (rows_from region place bytes) p
      to covered =
          let found = row_of_covered region p covered in
          let at : InRegionRow region found.0 p = found.1 in
          record { k = found.0; within = at.row; here = record { from = omega (arith, at.from); below = omega (arith, at.below) } }

      from : IsInRows (rows_from region place bytes) p → Covers region p
      from at = covered_of_row region p at.k (record { row = at.within; from = omega (arith, at.here.from); below = omega (arith, at.here.below) })

  -- the rows of a region as one, where they leave no gaps
  pub rows_as_one : (one : Rows) → 0 < region.rows → region.step ≤ bytes → one.left ≡ 1 → Spans (rows_from region place bytes) one.row → StandFor region one
  rows_as_one one some close is_one spans p below = (to, from)
    where
      to : Covers region p → IsInRows one p
      to covered =
          let found = row_of_covered region p covered in
          let at : InRegionRow region found.0 p = found.1 in
          let last : found.0 * region.step ≤ (region.rows - 1) * region.step = mul-le-mul_right region.step (omega (arith, at.row)) in
          let end : p < one.row.place + one.row.bytes = (spans.1 p below).1 (omega (arith, at.below)) in
          record { k = 0; within = omega arith; here = record { from = omega (arith, spans.0, at.from); below = omega arith } }

      from : IsInRows one p → Covers region p
      from at =
          let first : at.k ≡ 0 = omega (arith, at.within) in
          let here : IsInRow (record { place = one.row.place + 0 * one.step; bytes = one.row.bytes }) p = subst (λ k. IsInRow (record { place = one.row.place + k * one.step; bytes = one.row.bytes }) p) first at.here in
          let end : p < place + (region.rows - 1) * region.step + bytes = (spans.1 p below).0 (omega (arith, here.below)) in
          let found = row_of_byte region.step bytes (region.rows - 1) (p - region.place) close (omega (arith, here.from, spans.0)) in
          covered_of_row region p found.0 (record { row = omega (arith, found.1); from = omega (arith, here.from, spans.0, found.2); below = omega (arith, here.from, spans.0, found.3) })

-- ---- where two meet below the limit

-- the later beginning of two rows that meet is a byte of both
module _ (first second : Row) (p : ℕ) (in_first : IsInRow first p) (in_second : IsInRow second p) where
  pub shared_beginning : (limit : ℕ) → first.place < limit → second.place < limit → (q : ℕ) × (q < limit) × IsInRow first q × IsInRow second q
  shared_beginning limit first_below second_below =
      elim (cases_lt first.place second.place) [
        | inl before ↦ (second.place, second_below, record { from = omega arith; below = omega (arith, in_first.below, in_second.from) }, record { from = omega arith; below = omega (arith, in_second.from, in_second.below) })
        | inr after ↦ (first.place, first_below, record { from = omega arith; below = omega (arith, in_first.from, in_first.below) }, record { from = omega arith; below = omega (arith, in_second.below, in_first.from) })
      ]

-- row k begins below the limit
begins_below : (rows : Rows) (k : ℕ) → AreRows rows → k < rows.left → rows.row.place + k * rows.step < place_limit
begins_below rows k are within =
    let last : k * rows.step ≤ (rows.left - 1) * rows.step = mul-le-mul_right rows.step (omega arith) in
    omega (arith, are.fit)

module _ (first second : Rows) (are_first : AreRows first) (are_second : AreRows second) where
  -- a shared byte below the limit
  abbrev pub MeetBelow : Type 0
  MeetBelow = (q : ℕ) × (q < place_limit) × IsInRows first q × IsInRows second q

  pub meet_below : SomeMeet first second → MeetBelow
  meet_below meet =
      let k = meet.in_first.k in
      let l = meet.in_second.k in
      let found =
      shared_beginning (record { place = first.row.place + k * first.step; bytes = first.row.bytes }) (record { place = second.row.place + l * second.step; bytes = second.row.bytes }) meet.place meet.in_first.here meet.in_second.here place_limit
      (begins_below first k are_first meet.in_first.within) (begins_below second l are_second meet.in_second.within)
      in
      (found.0, found.1, record { k = k; within = meet.in_first.within; here = found.2 }, record { k = l; within = meet.in_second.within; here = found.3 })

-- ---- regions and their rows

-- the region's numbers fit 32 bits
pub record IsWritten (region : Region) : Type 0 where
  pub place : region.place < 2 ^ 32
  pub step : region.step < 2 ^ 32
  pub rows : region.rows < 2 ^ 32

row_begins_below : (region : Region) (p r : ℕ) → IsWritten region → InRegionRow region r p → region.place + r * region.step < place_limit
row_begins_below region p r is_written at =
    let few : r * region.step ≤ 4294967294 * region.step = mul-le-mul_right region.step (omega (arith, at.row, is_written.rows)) in
    omega (arith, is_written.place, is_written.step)

module _ (first second : Region) (first_written : IsWritten first) (second_written : IsWritten second) where
  -- two regions that share a byte share one below the limit
  meet_early : Meet first second → (q : ℕ) × (q < place_limit) × Covers first q × Covers second q
  meet_early meet =
      let by_first = row_of_covered first meet.place meet.in_first in
      let by_second = row_of_covered second meet.place meet.in_second in
      let r = by_first.0 in
      let t = by_second.0 in
      let at : InRegionRow first r meet.place = by_first.1 in
      let at_too : InRegionRow second t meet.place = by_second.1 in
      let found =
      shared_beginning (record { place = first.place + r * first.step; bytes = first.columns * first.size }) (record { place = second.place + t * second.step; bytes = second.columns * second.size }) meet.place (record { from = at.from; below = at.below }) (record { from = at_too.from; below = at_too.below }) place_limit
      (row_begins_below first meet.place r first_written at) (row_begins_below second meet.place t second_written at_too)
      in
      let in_first = found.2 in
      let in_second = found.3 in
      (found.0, found.1, covered_of_row first found.0 r (record { row = at.row; from = in_first.from; below = in_first.below }), covered_of_row second found.0 t (record { row = at_too.row; from = in_second.from; below = in_second.below }))

  module _ (first_rows second_rows : Rows) (are_first : AreRows first_rows) (are_second : AreRows second_rows) (first_stands : StandFor first first_rows) (second_stands : StandFor second second_rows) where
    pub meet_of_rows : SomeMeet first_rows second_rows → Meet first second
    meet_of_rows meet =
        let found = meet_below first_rows second_rows are_first are_second meet in
        record { place = found.0; in_first = (first_stands found.0 found.1).1 found.2; in_second = (second_stands found.0 found.1).1 found.3 }

    pub rows_of_meet : Meet first second → SomeMeet first_rows second_rows
    rows_of_meet meet =
        let found = meet_early meet in
        record { place = found.0; in_first = (first_stands found.0 found.1).0 found.2; in_second = (second_stands found.0 found.1).0 found.3 }

-- a byte of rows is one of their span's
in_span : (rows : Rows) (span : Row) (p : ℕ) → Spans rows span → p < place_limit → IsInRows rows p → IsInRow span p
in_span rows span p spans below at =
    let last : at.k * rows.step ≤ (rows.left - 1) * rows.step = mul-le-mul_right rows.step (omega (arith, at.within)) in
    record { from = omega (arith, spans.0, at.here.from); below = (spans.1 p below).1 (omega (arith, at.here.below)) }

-- where rows meet, so do their spans
pub spans_meet : (first second : Rows) (first_span second_span : Row) → AreRows first → AreRows second → Spans first first_span → Spans second second_span → SomeMeet first second → RowsMeet first_span second_span
spans_meet first second first_span second_span are_first are_second first_spans second_spans meet =
    let found = meet_below first second are_first are_second meet in
    record { place = found.0; in_first = in_span first first_span found.0 first_spans found.1 found.2; in_second = in_span second second_span found.0 second_spans found.1 found.3 }

-- ---- cursors

-- a byte of rows is the current one's, or of those behind it
later : (rows : Rows) (p : ℕ) → IsInRows rows p → IsInRow rows.row p ⊎ ((1 < rows.left) × IsInRows (behind_current rows) p)
later rows p at = go at.k at.within at.here
  where
    go : (k : ℕ) → k < rows.left → IsInRow (record { place = rows.row.place + k * rows.step; bytes = rows.row.bytes }) p → IsInRow rows.row p ⊎ ((1 < rows.left) × IsInRows (behind_current rows) p)
    go zero within here = inl (record { from = omega (arith, here.from); below = omega (arith, here.below) })
    go (suc k) within here = inr (omega arith, record { k = k; within = omega arith; here = record { from = omega (arith, here.from); below = omega (arith, here.below) } })

-- a byte of the rows behind the current one is one of the rows
not_current : (rows : Rows) (p : ℕ) → IsInRows (behind_current rows) p → IsInRows rows p
not_current rows p at =
    record { k = at.k + 1; within = omega (arith, at.within); here = record { from = omega (arith, at.here.from); below = omega (arith, at.here.below) } }

-- no byte stands before the current row
from_current : (rows : Rows) (p : ℕ) → IsInRows rows p → rows.row.place ≤ p
from_current rows p at = omega (arith, at.here.from)

pub are_behind : (rows : Rows) → AreRows rows → 1 < rows.left → AreRows (behind_current rows)
are_behind rows are more = go rows.left refl are.fit
  where
    go : (left : ℕ) → left ≡ rows.left → rows.row.place + (rows.left - 1) * rows.step < place_limit → AreRows (behind_current rows)
    go zero is_left fit = absurd (omega arith)
    go (suc zero) is_left fit = absurd (omega arith)
    go (suc (suc n)) is_left fit =
        let one_less : rows.left - 1 ≡ suc n = omega arith in
        let two_less : rows.left - 1 - 1 ≡ n = omega arith in
        let fits : rows.row.place + suc n * rows.step < place_limit = subst (λ left. rows.row.place + left * rows.step < place_limit) one_less fit in
        let fits_behind : rows.row.place + rows.step + n * rows.step < place_limit = omega (arith, fits) in
        record { some = omega arith; bytes = are.bytes; fit = subst (λ left. rows.row.place + rows.step + left * rows.step < place_limit) (sym two_less) fits_behind }

-- the current row of the one ends before that of the other begins
module _ (low high : Rows) (ends_before : low.row.place + low.row.bytes ≤ high.row.place) where
  behind_low : (p : ℕ) → IsInRows low p → IsInRows high p → (1 < low.left) × IsInRows (behind_current low) p
  behind_low p in_low in_high =
      let high_from = from_current high p in_high in
      elim (later low p in_low) [ inl here ↦ absurd (omega (arith, here.below)) | inr behind ↦ behind ]

  pub low_goes_on : SomeMeet low high ↔ SomeMeet (behind_current low) high
  low_goes_on = (
    λ meet. record { place = meet.place; in_first = (behind_low meet.place meet.in_first meet.in_second).1; in_second = meet.in_second },
    λ meet. record { place = meet.place; in_first = not_current low meet.place meet.in_first; in_second = meet.in_second },
  )

  pub low_ends : ¬ (1 < low.left) → ¬ SomeMeet low high
  low_ends last meet = last (behind_low meet.place meet.in_first meet.in_second).0

pub either_way : (first second : Rows) → SomeMeet first second ↔ SomeMeet second first
either_way first second = (
  λ meet. record { place = meet.place; in_first = meet.in_second; in_second = meet.in_first },
  λ meet. record { place = meet.place; in_first = meet.in_second; in_second = meet.in_first },
)

-- where two rows don't meet, the lower one ends before the other begins
pub lower_ends : (low high : Row) → 0 < high.bytes → low.place ≤ high.place → ¬ RowsMeet low high → low.place + low.bytes ≤ high.place
lower_ends low high some lower apart =
    elim (cases_lt high.place (low.place + low.bytes)) [
      | inl reaches ↦ absurd (apart (record { place = high.place; in_first = record { from = lower; below = reaches }; in_second = record { from = omega arith; below = omega arith } }))
      | inr ends ↦ ends
    ]

-- the current rows are among the rows
pub current_meet : (first second : Rows) → AreRows first → AreRows second → RowsMeet first.row second.row → SomeMeet first second
current_meet first second are_first are_second meet =
    record {
      place = meet.place;
      in_first = record { k = 0; within = are_first.some; here = record { from = omega (arith, meet.in_first.from); below = omega (arith, meet.in_first.below) } };
      in_second = record { k = 0; within = are_second.some; here = record { from = omega (arith, meet.in_second.from); below = omega (arith, meet.in_second.below) } };
    }

-- what the loop over two cursors keeps, of what some other rows meet
abbrev pub Keeps : Type 0 → Rows → Rows → Type 0
Keeps Whole first second = AreRows first × AreRows second × (Whole ↔ SomeMeet first second)

module _ (Whole : Type 0) (first second next other : Rows) (kept : Keeps Whole first second) (apart : ¬ RowsMeet first.row second.row) where
  module _ (lower : first.row.place ≤ second.row.place) where
    first_before : first.row.place + first.row.bytes ≤ second.row.place
    first_before = let are_second = kept.1 in lower_ends first.row second.row are_second.bytes lower apart

    pub first_goes_on : 1 < first.left → next ≡ behind_current first → other ≡ second → Keeps Whole next other
    first_goes_on more is_behind is_same =
        let step = low_goes_on first second first_before in
        let now : Keeps Whole (behind_current first) second = (are_behind first kept.0 more, kept.1, (λ whole. step.0 (kept.2.0 whole), λ meet. kept.2.1 (step.1 meet))) in
        subst (λ rows. Keeps Whole rows other) (sym is_behind) (subst (λ rows. Keeps Whole (behind_current first) rows) (sym is_same) now)

    pub first_ended : ¬ (1 < first.left) → ¬ Whole
    first_ended last whole = low_ends first second first_before last (kept.2.0 whole)

  module _ (lower : second.row.place ≤ first.row.place) where
    second_before : second.row.place + second.row.bytes ≤ first.row.place
    second_before =
        let are_first = kept.0 in
        lower_ends second.row first.row are_first.bytes lower (λ meet. apart (record { place = meet.place; in_first = meet.in_second; in_second = meet.in_first }))

    pub second_goes_on : 1 < second.left → next ≡ first → other ≡ behind_current second → Keeps Whole next other
    second_goes_on more is_same is_behind =
        let step = low_goes_on second first second_before in
        let now : Keeps Whole first (behind_current second) =
        (kept.0, are_behind second kept.1 more, (λ whole. (either_way (behind_current second) first).0 (step.0 ((either_way first second).0 (kept.2.0 whole))), λ meet. kept.2.1 ((either_way second first).0 (step.1 ((either_way first (behind_current second)).0 meet)))))
        in
        subst (λ rows. Keeps Whole rows other) (sym is_same) (subst (λ rows. Keeps Whole first rows) (sym is_behind) now)

    pub second_ended : ¬ (1 < second.left) → ¬ Whole
    second_ended last whole = low_ends second first second_before last ((either_way first second).0 (kept.2.0 whole))
