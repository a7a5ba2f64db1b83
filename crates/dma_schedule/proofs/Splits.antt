-- The passes of a split one after another.
use Rattle.std.proofs.Common.{◌≡◌, ◌≢◌, inl, inr, ℕ, zero, suc, ◌+◌, ◌<◌, ◌≤◌, ◌^◌, sym, refl, subst, ◌∙◌, arith, List, [], ◌∷◌, ◌++◌, length, get_or, Bool, true, false, cond, nat_lt, All, eq-eqb}
use Rattle.std.specs.Prelude.{Contains, ◌==◌}
use Rattle.std.specs.List.{flat_map}
use Rattle.std.proofs.lemmas.Bool.{eqb-true, ltb-true}
use Rattle.std.proofs.lemmas.List.Elements.{All-nil, All-cons, All-append, All-weaker, All-head, All-tail}
use Rattle.ven_base.specs.Elem.{IsElement}
use Rattle.ven_base.specs.Grid.{Grid, IsGrid}
use Rattle.ven_base.specs.Store.{Place, in_cells, in_memory, Store, Size}
use Rattle.venice_isa.specs.declared.issue.Issue.{Issue}
use Rattle.venice_isa.specs.declared.issue.Issue.TheVariants.{RWait, WWait, VWait, TWait}
use Rattle.venice_isa.specs.Units.{Unit, is_work}
use Rattle.venice_isa.specs.Tests.{has_counts}
use Rattle.venice_isa.specs.Beat.{sequential}
use Rattle.pass_plan.specs.Pass.{Pass, Arrays, with_array, pass_array, arrays_after}
use Rattle.pass_plan.specs.Need.{pass_need, need_of}
use Rattle.pass_plan.specs.Tile.{tile_of}
use Rattle.pass_plan.specs.Sound.{Split, AreSound, IsSoundPass, ArePlaced, no_place, destinations_of, IsArrayOf, HasArrays}
use Rattle.pass_plan.proofs.Sums.{each_below}
use Rattle.pass_plan.proofs.Values.{pass_array-IsGrid}
use Rattle.dma_segments.specs.Laws.{HasArray}
use Rattle.dma_schedule.specs.Blocks.{Blocks, leaf_half, row_half, write_tag, next_reads, tile_step, tile_steps, pass_list}
use Rattle.dma_schedule.specs.PipeList.{blocks_of, pipe_list}
use Rattle.dma_schedule.specs.Pipelined.{ArePassLists}
use Rattle.dma_schedule.specs.Zone.{Zone, KeepsTo, KeepToZones}
use Rattle.dma_schedule.specs.Laws.{ListsArePipelined, ListsAreDisciplined, KeepsInside, ListsKeepInside, ComputesFew, ListsAreShort, ListsLeaveArrays}
use Rattle.dma_schedule.proofs.Flow.{HasSize, sequential_append}
use Rattle.dma_schedule.proofs.Flights.{touches_none, Guards, guards_append, guards_none, is_disciplined}
use Rattle.dma_schedule.proofs.Leaves.{Shows}
use Rattle.dma_schedule.specs.Plan.{IsPlanned}
use Rattle.dma_schedule.proofs.Planned.{zones}
use Rattle.dma_schedule.proofs.TileFills.{Sources}
use Rattle.dma_schedule.proofs.TileBlocks.{TileLaws, keep_to_zones, are_blocks, some_tile, guarded, works_few, left}
use Rattle.dma_schedule.proofs.Places.{clash}

-- ---- a pass list keeps inside, where its blocks do

module _ (split : Split) (spad : ℕ) where
  abbrev Inside : Issue → Type 0
  Inside = KeepsInside split spad

  abbrev sizes : Size
  sizes = record { cells = spad; memory = split.memory }

  -- a wait touches nothing
  wait_inside : (issue : Issue) → is_work issue ≡ false → has_counts issue ≡ true → Inside issue
  wait_inside issue none counts = record {
    counts = counts;
    inside = record { has_reads = λ place read. absurd (touches_none issue place none (inl read)); has_writes = λ place written. absurd (touches_none issue place none (inr written)) };
  }

  module _ (zone : Place → Zone) (blocks : Blocks) (keep : KeepToZones zone sizes blocks) where
    keeps : {unit : Unit} {tag : ℕ} {R W : Zone → Type 0} (issue : Issue) → KeepsTo zone sizes unit tag R W issue → Inside issue
    keeps issue to = record { counts = to.counts; inside = to.in_range }

    next_inside : (t : ℕ) → All Inside (next_reads blocks t)
    next_inside t = go (nat_lt (t + 1) blocks.tiles) refl
      where
        go : (more : Bool) → nat_lt (t + 1) blocks.tiles ≡ more → All Inside (cond more (blocks.reads (t + 1)) [])
        go true e = All-weaker _ Inside keeps (blocks.reads (t + 1)) (keep.reads (t + 1) (ltb-true (t + 1) blocks.tiles e)).0
        go false e = All-nil Inside

    step_inside : (t : ℕ) → t < blocks.tiles → All Inside (tile_step blocks t)
    step_inside t within =
        let after = All-cons Inside VWait (blocks.writes t) (wait_inside VWait refl refl) (All-weaker _ Inside keeps (blocks.writes t) (keep.writes t within).0) in
        let compute = All-append Inside (blocks.compute t) (VWait ∷ blocks.writes t) (All-weaker _ Inside keeps (blocks.compute t) (keep.compute t within)) after in
        let rest = blocks.compute t ++ (VWait ∷ blocks.writes t) in
        let waits = TWait (leaf_half t) ∷ (TWait (write_tag (row_half blocks t)) ∷ rest) in
        All-append Inside (next_reads blocks t) waits (next_inside t)
        (All-cons Inside (TWait (leaf_half t)) (TWait (write_tag (row_half blocks t)) ∷ rest) (wait_inside (TWait (leaf_half t)) refl refl)
        (All-cons Inside (TWait (write_tag (row_half blocks t))) rest (wait_inside (TWait (write_tag (row_half blocks t))) refl refl) compute))

    steps_inside : (count : ℕ) → count ≤ blocks.tiles → All Inside (tile_steps blocks count)
    steps_inside zero few = All-nil Inside
    steps_inside (suc t) few = All-append Inside (tile_steps blocks t) (tile_step blocks t) (steps_inside t (omega arith)) (step_inside t (omega arith))

    pass_inside : 0 < blocks.tiles → All Inside (pass_list blocks)
    pass_inside some =
        All-append Inside (blocks.reads 0) (tile_steps blocks blocks.tiles ++ (RWait 0 ∷ WWait 0 ∷ [])) (All-weaker _ Inside keeps (blocks.reads 0) (keep.reads 0 some).0)
        (All-append Inside (tile_steps blocks blocks.tiles) (RWait 0 ∷ WWait 0 ∷ []) (steps_inside blocks.tiles (omega arith))
        (All-cons Inside (RWait 0) (WWait 0 ∷ []) (wait_inside (RWait 0) refl refl) (All-cons Inside (WWait 0) [] (wait_inside (WWait 0) refl refl) (All-nil Inside))))

-- ---- all passes

-- an array that none of the passes makes
not_head : (dest k : ℕ) (later : List ℕ) → k ≢ dest → ¬ Contains later k → ¬ Contains (dest ∷ later) k
not_head dest k later other none (zero, below, is) = other (sym is)
not_head dest k later other none (suc n, below, is) = none (n, omega arith, is)

module _ (split : Split) (spad : ℕ) (placed : ArePlaced split.arrays split.memory) (few : spad < 2 ^ 32) (laws : TileLaws) where
  abbrev later_of : (passes : List Pass) → List ℕ
  later_of passes = destinations_of passes

  abbrev Needs : Pass → Type 0
  Needs pass = pass_need pass ≤ spad

  abbrev list_of : Pass → List Issue
  list_of pass = pass_list (blocks_of split.arrays pass (tile_of pass spad))

  abbrev lists_of : List Pass → List Issue
  lists_of passes = flat_map list_of passes

  planned : (pass : Pass) (passes : List Pass) → IsSoundPass split.arrays (later_of (pass ∷ passes)) pass → Needs pass → IsPlanned split.arrays split.memory (later_of (pass ∷ passes)) spad pass
  planned pass passes sound holds = record { sound = sound; placed = placed; own = (0, omega arith, refl); holds = holds; few = few }

  guards : (passes : List Pass) → AreSound split.arrays passes → All Needs passes → Guards (λ w. ⊥) (lists_of passes) (λ w. ⊥)
  guards [] sound need = guards_none
  guards (pass ∷ passes) sound need =
      guards_append (guarded split.arrays split.memory (later_of (pass ∷ passes)) spad pass (planned pass passes sound.0 (All-head Needs pass passes need)) laws) (guards passes sound.1 (All-tail Needs pass passes need))

  pipelined : (passes : List Pass) → AreSound split.arrays passes → All Needs passes → ArePassLists split.arrays spad passes (lists_of passes)
  pipelined [] sound need = refl
  pipelined (pass ∷ passes) sound need = (
    list_of pass,
    lists_of passes,
    record {
      blocks = blocks_of split.arrays pass (tile_of pass spad);
      are = are_blocks split.arrays split.memory (later_of (pass ∷ passes)) spad pass (planned pass passes sound.0 (All-head Needs pass passes need)) laws;
      is = refl;
    },
    pipelined passes sound.1 (All-tail Needs pass passes need),
    refl,
  )

  inside : (passes : List Pass) → AreSound split.arrays passes → All Needs passes → All (KeepsInside split spad) (lists_of passes)
  inside [] sound need = All-nil (KeepsInside split spad)
  inside (pass ∷ passes) sound need =
      let plan = planned pass passes sound.0 (All-head Needs pass passes need) in
      All-append (KeepsInside split spad) (list_of pass) (lists_of passes)
      (pass_inside split spad (zones split.arrays split.memory (later_of (pass ∷ passes)) spad pass plan) (blocks_of split.arrays pass (tile_of pass spad))
      (keep_to_zones split.arrays split.memory (later_of (pass ∷ passes)) spad pass plan laws) (some_tile split.arrays split.memory (later_of (pass ∷ passes)) spad pass plan laws))
      (inside passes sound.1 (All-tail Needs pass passes need))

  short : (passes : List Pass) → AreSound split.arrays passes → All Needs passes → All (ComputesFew split spad) passes
  short [] sound need = All-nil (ComputesFew split spad)
  short (pass ∷ passes) sound need =
      All-cons (ComputesFew split spad) pass passes
      (λ t within. works_few split.arrays split.memory (later_of (pass ∷ passes)) spad pass (planned pass passes sound.0 (All-head Needs pass passes need)) laws t within)
      (short passes sound.1 (All-tail Needs pass passes need))

  -- ---- what they leave

  -- the arrays that none of the passes to come makes are there
  record AreLeft (passes : List Pass) (values : Arrays) (store : Store) : Type 0 where
    has : HasSize (sizes split spad) store
    are : (k : ℕ) → k < length split.arrays → ¬ Contains (later_of passes) k → IsArrayOf (get_or split.arrays k no_place) (values k)
    stand : (k : ℕ) → k < length split.arrays → ¬ Contains (later_of passes) k → HasArray (get_or split.arrays k no_place) (values k) store

  made_is : (pass : Pass) (later : List ℕ) (values : Arrays) → IsSoundPass split.arrays later pass → HasArrays split.arrays values pass.leaves → IsArrayOf (get_or split.arrays pass.dest no_place) (pass_array values pass)
  made_is pass later values sound are =
      let grid : IsGrid (pass_array values pass) = pass_array-IsGrid split.arrays later pass values sound are in
      record {
        elem_is = sym sound.result.elem_is;
        as_many = grid.filled ∙ sym sound.result.as_many;
        typed = subst (λ e. All (IsElement e) (pass_array values pass).values) (sym sound.result.elem_is) grid.typed;
      }

  after_pass : (pass : Pass) (passes : List Pass) (values : Arrays) (lanes : ℕ) → 0 < lanes → (store : Store) → IsSoundPass split.arrays (later_of (pass ∷ passes)) pass → Needs pass → AreLeft (pass ∷ passes) values store
      → AreLeft passes (with_array values pass.dest (pass_array values pass)) (sequential (list_of pass) lanes store)
  after_pass pass passes values lanes some store sound holds before =
      let later = later_of (pass ∷ passes) in
      let plan = planned pass passes sound holds in
      let there : Shows (Sources split.arrays split.memory later spad pass plan values) store = sources before in
      let end = left split.arrays split.memory later spad pass plan laws values before.are lanes some store before.has there in
      let Array : ℕ → Grid → Type 0 = λ k array. IsArrayOf (get_or split.arrays k no_place) array × HasArray (get_or split.arrays k no_place) array (sequential (list_of pass) lanes store) in
      let each : (k : ℕ) → k < length split.arrays → ¬ Contains (later_of passes) k → Array k (with_array values pass.dest (pass_array values pass) k) = λ k within none.
      one (Array k) k (k == pass.dest) refl
      (λ same. subst (λ n. Array n (pass_array values pass)) (sym same)
      (made_is pass later values sound (λ n d below. let leaf = sound.leaves n d below in before.are _ leaf.known leaf.ready), λ p byte of. end.made (in_memory p) byte of))
      (λ other. let free = not_head pass.dest k (later_of passes) other none in (before.are k within free, λ p byte of. end.sources (in_memory p) byte (k, within, free, of))) in
      record { has = end.has; are = λ k within none. (each k within none).0; stand = λ k within none. (each k within none).1 }
    where
      sources : AreLeft (pass ∷ passes) values store → Shows (Sources split.arrays split.memory (later_of (pass ∷ passes)) spad pass (planned pass passes sound holds) values) store
      sources before (in_cells p) byte of = absurd of
      sources before (in_memory p) byte of = before.stand of.0 of.1 of.2 p byte of.3

      one : (P : Grid → Type 0) (k : ℕ) (same : Bool) → (k == pass.dest) ≡ same → (k ≡ pass.dest → P (pass_array values pass)) → (k ≢ pass.dest → P (values k)) → P (cond (k == pass.dest) (pass_array values pass) (values k))
      one P k true e yes_ no_ = subst (λ b. P (cond b (pass_array values pass) (values k))) (sym e) (yes_ (eqb-true k pass.dest e))
      one P k false e yes_ no_ = subst (λ b. P (cond b (pass_array values pass) (values k))) (sym e) (no_ (λ is. clash (eq-eqb k pass.dest is) e))

  leave : (passes : List Pass) (values : Arrays) (lanes : ℕ) → 0 < lanes → (store : Store) → AreSound split.arrays passes → All Needs passes → AreLeft passes values store
      → AreLeft [] (arrays_after passes values) (sequential (lists_of passes) lanes store)
  leave [] values lanes some store sound need before = before
  leave (pass ∷ passes) values lanes some store sound need before =
      let list = list_of pass in
      let next = after_pass pass passes values lanes some store sound.0 (All-head Needs pass passes need) before in
      subst (λ after. AreLeft [] (arrays_after passes (with_array values pass.dest (pass_array values pass))) after) (sym (sequential_append lanes list (lists_of passes) store))
      (leave passes (with_array values pass.dest (pass_array values pass)) lanes some (sequential list lanes store) sound.1 (All-tail Needs pass passes need) next)

-- ---- the laws

needs : (split : Split) (spad : ℕ) → need_of split.passes ≤ spad → All (λ pass. pass_need pass ≤ spad) split.passes
needs split spad holds k d below = let small = each_below pass_need split.passes k d below in omega (arith, small, holds)

pub lists_are_pipelined : TileLaws → ListsArePipelined
lists_are_pipelined laws split spad sound holds few = pipelined split spad sound.placed few laws split.passes sound.passes (needs split spad holds)

pub lists_are_disciplined : TileLaws → ListsAreDisciplined
lists_are_disciplined laws split spad sound holds few =
    is_disciplined (pipe_list split spad) ((guards split spad sound.placed few laws split.passes sound.passes (needs split spad holds)).safe [] (All-nil (λ w. ⊥))).0

pub lists_keep_inside : TileLaws → ListsKeepInside
lists_keep_inside laws split spad sound holds few = inside split spad sound.placed few laws split.passes sound.passes (needs split spad holds)

pub lists_are_short : TileLaws → ListsAreShort
lists_are_short laws split spad sound holds few = short split spad sound.placed few laws split.passes sound.passes (needs split spad holds)

pub lists_leave_arrays : TileLaws → ListsLeaveArrays
lists_leave_arrays laws split spad sound holds few arrays lanes store some given k within =
    let begins : AreLeft split spad sound.placed few laws split.passes arrays store = record { has = record { cells = given.cells; memory = given.memory }; are = given.are; stand = given.stand } in
    let ends = leave split spad sound.placed few laws split.passes arrays lanes some store sound.passes (needs split spad holds) begins in
    ends.stand k within (λ among. absurd (omega (arith, among.1)))
