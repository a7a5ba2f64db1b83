-- How walks and beats come on: by a group, to the next row, and to the end.
use Rattle.std.proofs.Common.{◌≡◌, ℕ, ◌+◌, ◌-◌, ◌*◌, ◌/◌, ◌%◌, ◌^◌, ◌<◌, ◌≤◌, inl, inr, sym, arith, min}
use Rattle.std.proofs.lemmas.Nat.{div-add-mod', mod_below}
use Rattle.std.proofs.Math.Nat.{mul-le-mul_left, mul-le-mul_right}
use Rattle.venice_isa.specs.declared.region.Region.{Region}
use Rattle.venice_isa.specs.declared.walk.Walk.{Walk}
use Rattle.venice_isa.specs.Region.{place_in}
use Rattle.venice_isa.specs.Beat.{beats_of_row, group_at}
use Rattle.venice_isa.specs.Walk.{HasCome, IsWalk}
use Rattle.venice_isa.proofs.Counts.{begin_before_end, some_beats, row_below, next_beat}

-- ---- walks

module _ (region : Region) (group row first : ℕ) (walk : Walk) (is : IsWalk region group row first walk) where
  -- a group on
  pub walk_on : IsWalk region group row (first + group) (record walk { next_place = walk.next_place + walk.group_bytes })
  walk_on = record {
    row_place_is = is.row_place_is;
    next_place_is = omega (arith, is.next_place_is, is.group_bytes_is);
    step_is = is.step_is;
    group_bytes_is = is.group_bytes_is;
  }

  -- at the next row
  pub walk_next_row : IsWalk region group (row + 1) 0 (record walk { row_place = walk.row_place + walk.step; next_place = walk.row_place + walk.step })
  walk_next_row = record {
    row_place_is = omega (arith, is.row_place_is, is.step_is);
    next_place_is = omega (arith, is.row_place_is, is.step_is);
    step_is = is.step_is;
    group_bytes_is = is.group_bytes_is;
  }

  -- where the row begins
  pub walk_row : walk.row_place ≡ place_in region row 0
  walk_row = omega (arith, is.row_place_is)

  -- the k-th element from the next one on
  pub walk_place : (k : ℕ) → walk.next_place + k * region.size ≡ place_in region row (first + k)
  walk_place k = omega (arith, is.next_place_is)

  -- a way through a row that begins at a number of 32 bits fits 63 bits
  pub walk_fits : place_in region row 0 < 2 ^ 32 → region.size ≤ 4 → first < 2 ^ 32 → walk.next_place < 2 ^ 63
  walk_fits small few_bytes few =
      let bytes : first * region.size ≤ first * 4 = mul-le-mul_left first few_bytes in
      omega (arith, bytes, is.next_place_is)

-- ---- beats

module _ (rows items group : ℕ) (some_rows : 0 < rows) (some_items : 0 < items) (some : 0 < group) where
  -- a beat whose row is one of the rows is one of theirs
  beat_below : (n : ℕ) → (group_at items group n).row < rows → n < rows * beats_of_row items group
  beat_below n in_rows =
      let beats = beats_of_row items group in
      let split : n / beats * beats + n % beats ≡ n = div-add-mod' n beats in
      let rest : n % beats < beats = mod_below n beats (some_beats items group some_items some) in
      let through : (n / beats + 1) * beats ≤ rows * beats = mul-le-mul_right beats (omega arith) in
      omega arith

  -- a beat past the last row is none
  beat_past : (n : ℕ) → rows ≤ (group_at items group n).row → rows * beats_of_row items group ≤ n
  beat_past n past =
      let beats = beats_of_row items group in
      let split : n / beats * beats + n % beats ≡ n = div-add-mod' n beats in
      let through : rows * beats ≤ n / beats * beats = mul-le-mul_right beats past in
      omega arith

  module _ (done row first : ℕ) (come : HasCome rows items group done row first) where
    come_in_rows : row < rows
    come_in_rows = omega (arith, come.row_is, row_below items group some_items some rows done come.more)

    pub come_count : min group (items - first) ≡ (group_at items group done).count
    come_count = omega (arith, come.first_is)

    -- the beats of 32 bits of rows of 32 bits of items are counted in 64 bits
    pub come_fits : rows < 2 ^ 32 → items < 2 ^ 32 → done + 1 < 2 ^ 64
    come_fits few_rows few_items =
        let beats = beats_of_row items group in
        let most = 2 ^ 32 - 1 in
        let last : (beats - 1) * group < items = begin_before_end items group some_items some (beats - 1) (omega (arith, some_beats items group some_items some)) in
        let ones : (beats - 1) * 1 ≤ (beats - 1) * group = mul-le-mul_left (beats - 1) some in
        let few_beats : beats ≤ most = omega arith in
        let by_rows : rows * beats ≤ most * beats = mul-le-mul_right beats (omega arith) in
        let by_beats : most * beats ≤ most * most = mul-le-mul_left most few_beats in
        omega (arith, come.more)

    -- where the row has more than a group, the next beat goes on in it
    pub come_on : group < items - first → HasCome rows items group (done + 1) row (first + group)
    come_on goes_on =
        elim (next_beat items group some_items some done) [
          | inl on ↦
              let in_rows : (group_at items group (done + 1)).row < rows = omega (arith, on.0, come.row_is, come_in_rows) in
              record {
                more = beat_below (done + 1) in_rows;
                row_is = omega (arith, on.0, come.row_is);
                first_is = omega (arith, on.1, come_count, come.first_is);
              }
          | inr ends ↦ absurd (omega (arith, ends.2, come_count, come.first_is))
        ]

    -- where it has no more, the next beat begins the next row
    row_ends : items - first ≤ group → ((group_at items group (done + 1)).row ≡ row + 1) × ((group_at items group (done + 1)).first ≡ 0)
    row_ends ended =
        elim (next_beat items group some_items some done) [
          | inl on ↦ absurd (omega (arith, on.2, come_count, come.first_is))
          | inr ends ↦ (omega (arith, ends.0, come.row_is), ends.1)
        ]

    pub come_to_row : items - first ≤ group → 1 < rows - row → HasCome rows items group (done + 1) (row + 1) 0
    come_to_row ended more_rows =
        let goes = row_ends ended in
        let in_rows : (group_at items group (done + 1)).row < rows = omega (arith, goes.0) in
        record { more = beat_below (done + 1) in_rows; row_is = sym goes.0; first_is = sym goes.1 }

    -- and behind the last row there is none
    pub come_to_end : items - first ≤ group → rows - row ≤ 1 → done + 1 ≡ rows * beats_of_row items group
    come_to_end ended no_more =
        let goes = row_ends ended in
        let past = beat_past (done + 1) (omega (arith, goes.0)) in
        omega (arith, past, come.more)
