-- How a work comes on.
use Rattle.std.proofs.Common.{◌≡◌, ◌+◌, ◌-◌, ◌*◌, ◌^◌, ◌<◌, ◌≤◌, inl, inr, sym, refl, arith, leb, false, ℤ, pos}
use Rattle.std.proofs.lemmas.Int.{ints}
use Rattle.std.proofs.lemmas.Bool.{cases_Bool, cond-true, cond-false, le-leb, lt-leb}
use Rattle.ven_base.specs.Wrap.{wrapped}
use Rattle.venice_isa.specs.declared.work.VecWork.{VecWork}
use Rattle.venice_isa.specs.Whole.{HasCounts}
use Rattle.venice_isa.specs.Region.{place_in}
use Rattle.venice_isa.specs.Footprint.{HasFootprint, source_a, source_b, destination}
use Rattle.venice_isa.specs.Beat.{beats_of_row}
use Rattle.venice_isa.proofs.Walks.{walk_on, walk_next_row, walk_row, walk_fits, come_fits, come_on, come_to_row, come_to_end}
use Rattle.venice_isa.proofs.Beats.{size_at_most}
use Rattle.venice_isa.proofs.Wholes.{size_positive}
use Rattle.lane_machine.specs.declared.current.Current.{Current}
use Rattle.lane_machine.specs.Current.{IsAt, IsBounded, IsNext, CanGo, CanGoToNextRow, next_count, gone_on, turned, has_number_for_b}
use Rattle.ven_base.specs.Store.{cells_alone}
use Rattle.venice_isa.specs.declared.issue.Issue.TheVariants.{Vector}
use Rattle.lane_machine.proofs.Operands.{operand_on, operand_turned, operand_can_go, operand_can_turn}
use Rattle.lane_machine.proofs.Places.{a_end, b_end, dst_end, sum_end}

module _ (work : VecWork) (counts : HasCounts work) (current : Current) (at : IsAt work current) where
  -- ---- within numbers of 32 and of 64 bits

  module _ (inside : HasFootprint (cells_alone (2 ^ 32)) (Vector work)) (vl_fits : work.vl < 2 ^ 32) (rows_fit : work.rows < 2 ^ 32) where
    a_small : work.kind.a_scalar ≡ false → place_in (source_a work) current.row 0 < 2 ^ 32
    a_small vector = omega (arith, a_end work (2 ^ 32) inside current.row 0 at.placed.in_rows counts.elements vector, size_positive work.kind.from)

    b_small : has_number_for_b work ≡ false → place_in (source_b work) current.row 0 < 2 ^ 32
    b_small elements = omega (arith, b_end work (2 ^ 32) inside current.row 0 at.placed.in_rows counts.elements elements, size_positive work.kind.elem)

    dst_small : place_in (destination work) current.row 0 < 2 ^ 32
    dst_small =
        elim (cases_Bool work.kind.acc) [
          | inl with_sum ↦ omega (arith, sum_end work (2 ^ 32) inside current.row 0 at.placed.in_rows counts.elements with_sum, size_positive work.kind.elem)
          | inr no_sum ↦ omega (arith, dst_end work (2 ^ 32) inside current.row 0 at.placed.in_rows counts.elements no_sum, size_positive work.kind.elem)
        ]

    done_fits : current.done + 1 < 2 ^ 64
    done_fits = come_fits work.rows work.vl current.group_items counts.rows counts.elements at.placed.some current.done current.row current.first at.come rows_fit vl_fits

    pub can_go : next_count work current < work.vl - current.first → CanGo current
    can_go goes_on =
        let placed = at.placed in
        let first_fits : current.first < 2 ^ 32 = omega (arith, placed.in_row) in
        record {
          a = operand_can_go (wrapped work.kind.from (pos work.a)) work.kind.a_scalar (source_a work) current.group_items current.row current.first current.a placed.a_is a_small (size_at_most work.kind.from) first_fits;
          b = operand_can_go (wrapped work.kind.elem (pos work.b)) (has_number_for_b work) (source_b work) current.group_items current.row current.first current.b placed.b_is b_small (size_at_most work.kind.elem) first_fits;
          dst = walk_fits (destination work) current.group_items current.row current.first current.dst placed.dst_is dst_small (size_at_most work.kind.elem) first_fits;
          first = omega arith;
          done = done_fits;
        }

    pub can_turn : CanGoToNextRow current
    can_turn =
        let placed = at.placed in
        record {
          a = operand_can_turn (wrapped work.kind.from (pos work.a)) work.kind.a_scalar (source_a work) current.group_items current.row current.first current.a placed.a_is a_small;
          b = operand_can_turn (wrapped work.kind.elem (pos work.b)) (has_number_for_b work) (source_b work) current.group_items current.row current.first current.b placed.b_is b_small;
          dst = omega (arith, dst_small, walk_row (destination work) current.group_items current.row current.first current.dst placed.dst_is);
          row = omega (arith, placed.in_rows);
          done = done_fits;
        }

  -- ---- one beat on

  pub goes_on : (sum : ℤ) → next_count work current < work.vl - current.first → IsBounded (current.first + next_count work current) sum → IsNext work current sum (gone_on current sum)
  goes_on sum more bounded =
      let placed = at.placed in
      let whole : next_count work current ≡ current.group_items = omega arith in
      let more_than_group : current.group_items < work.vl - current.first = omega arith in
      let before : current.first + next_count work current < work.vl = omega arith in
      let not_last : leb work.vl (current.first + next_count work current) ≡ false = lt-leb work.vl (current.first + next_count work current) before in
      record {
        at = record {
          come = come_on work.rows work.vl current.group_items counts.rows counts.elements placed.some current.done current.row current.first at.come more_than_group;
          placed = record {
            in_rows = placed.in_rows;
            in_row = omega arith;
            some = placed.some;
            few = placed.few;
            a_is = operand_on (wrapped work.kind.from (pos work.a)) work.kind.a_scalar (source_a work) current.group_items current.row current.first current.a placed.a_is;
            b_is = operand_on (wrapped work.kind.elem (pos work.b)) (has_number_for_b work) (source_b work) current.group_items current.row current.first current.b placed.b_is;
            dst_is = walk_on (destination work) current.group_items current.row current.first current.dst placed.dst_is;
          };
          bounded = rw (← whole) bounded;
        };
        group_items_is = refl;
        done_is = refl;
        sum_is = sym (cond-false (leb work.vl (current.first + next_count work current)) (pos 0) sum not_last);
      }

  pub turns : (sum : ℤ) → work.vl - current.first ≤ next_count work current → 1 < work.rows - current.row → IsNext work current sum (turned current)
  turns sum ended more_rows =
      let placed = at.placed in
      let no_more : work.vl - current.first ≤ current.group_items = omega arith in
      let all : work.vl ≤ current.first + next_count work current = omega arith in
      record {
        at = record {
          come = come_to_row work.rows work.vl current.group_items counts.rows counts.elements placed.some current.done current.row current.first at.come no_more more_rows;
          placed = record {
            in_rows = omega arith;
            in_row = counts.elements;
            some = placed.some;
            few = placed.few;
            a_is = operand_turned (wrapped work.kind.from (pos work.a)) work.kind.a_scalar (source_a work) current.group_items current.row current.first current.a placed.a_is;
            b_is = operand_turned (wrapped work.kind.elem (pos work.b)) (has_number_for_b work) (source_b work) current.group_items current.row current.first current.b placed.b_is;
            dst_is = walk_next_row (destination work) current.group_items current.row current.first current.dst placed.dst_is;
          };
          bounded = record { from_least = omega (arith, ints); to_greatest = omega (arith, ints) };
        };
        group_items_is = refl;
        done_is = refl;
        sum_is = sym (cond-true (leb work.vl (current.first + next_count work current)) (pos 0) sum (le-leb work.vl (current.first + next_count work current) all));
      }

  pub ends : work.vl - current.first ≤ next_count work current → work.rows - current.row ≤ 1 → current.done + 1 ≡ work.rows * beats_of_row work.vl current.group_items
  ends ended no_more =
      let no_more_items : work.vl - current.first ≤ current.group_items = omega arith in
      come_to_end work.rows work.vl current.group_items counts.rows counts.elements at.placed.some current.done current.row current.first at.come no_more_items no_more
