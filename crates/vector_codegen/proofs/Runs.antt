-- Instructions done one after another.
use Rattle.std.proofs.Common.{◌≡◌, ℕ, ◌*◌, ◌<◌, ◌≤◌, ap, ◌∙◌, arith, lit<, lit≤, List, [], ◌∷◌, ◌++◌, length, map, Bool, true, false}
use Rattle.std.specs.Prelude.{All}
use Rattle.std.proofs.lemmas.List.Elements.{All-from_recursion, All-cons}
use Rattle.ven_base.specs.Cell.{Cell}
use Rattle.ven_base.specs.Store.{Store, Place, in_cells, in_memory, HasPlace, IsInRange}
use Rattle.venice_isa.specs.declared.work.VecWork.{VecWork}
use Rattle.venice_isa.specs.declared.issue.Issue.TheVariants.{Vector}
use Rattle.venice_isa.specs.Beat.{after_all_beats, sequential}
use Rattle.venice_isa.specs.Does.{DoesOne}
use Rattle.venice_isa.specs.Footprint.{Reads, Writes}
use Rattle.venice_isa.proofs.Regions.{item_fits}
use Rattle.venice_isa.proofs.Beats.{beats_do_it}
use Rattle.vector_codegen.specs.Work.{Shape, Buffers}
use Rattle.vector_codegen.specs.Fit.{results_with, buffer_count}
use Rattle.vector_codegen.proofs.Good.{IsGood, IsTileBuffer, IsNamed, a_leaf, a_slot, the_output, the_partial}
use Rattle.vector_codegen.proofs.Held.{TakesAll}

-- one list after another
pub takes_both : (works more : List VecWork) (b : Buffers) (shape : Shape) (cells : List Cell) (Holding : List Cell → Type 0) → TakesAll works b shape cells (λ middle. TakesAll more b shape middle Holding) → TakesAll (works ++ more) b shape cells Holding
takes_both [] more b shape cells Holding takes = takes
takes_both (work ∷ works) more b shape cells Holding takes = (takes.0, λ after whole. takes_both works more b shape after Holding (takes.1 after whole))

pub takes_more : (works : List VecWork) (b : Buffers) (shape : Shape) (cells : List Cell) (Holding Holding' : List Cell → Type 0) → ((after : List Cell) → Holding after → Holding' after) → TakesAll works b shape cells Holding → TakesAll works b shape cells Holding'
takes_more [] b shape cells Holding Holding' implies takes = implies cells takes
takes_more (work ∷ works) b shape cells Holding Holding' implies takes = (takes.0, λ after whole. takes_more works b shape after Holding Holding' implies (takes.1 after whole))

-- the instructions one after another, each by its beats
abbrev pub after_works : List VecWork → (lanes : ℕ) → Store → Store
after_works works lanes store = sequential (map (λ work. Vector work) works) lanes store

pub with_partial : (has : Bool) → 2 ≤ results_with has
with_partial true = lit≤ tt
with_partial false = lit≤ tt

pub three_with : (has : Bool) → has ≡ true → results_with has ≡ 3
three_with has is = ap results_with is

module _ (b : Buffers) (shape : Shape) where
  -- all of a tile's buffers are among these
  pub tile_buffer : (k : ℕ) → b.in_half < 2 → b.out_half < 2 → IsTileBuffer b k → k < buffer_count b
  tile_buffer k half out (a_leaf j below is) = omega (arith, is)
  tile_buffer k half out (a_slot s below is) = omega (arith, is)
  tile_buffer k half out (the_output is) = let two = with_partial b.has_partial in omega (arith, is)
  tile_buffer k half out (the_partial has is) = let three = three_with b.has_partial has in omega (arith, is)

  module _ (half : b.in_half < 2) (out : b.out_half < 2) (cells : ℕ) (inside : buffer_count b * shape.room ≤ cells) where
    named_below : (p : ℕ) → IsNamed (IsTileBuffer b) shape.room p → p < cells
    named_below p named = let next = item_fits named.0 (buffer_count b) shape.room (tile_buffer named.0 half out named.1) in omega (arith, named.2.ends)

    pub good_in_range : (work : VecWork) (memory : ℕ) → IsGood (IsTileBuffer b) shape.room work → IsInRange (Reads (Vector work)) (Writes (Vector work)) (record { cells = cells; memory = memory })
    good_in_range work memory good = record { has_reads = reads; has_writes = writes }
      where
        reads : (place : Place) → Reads (Vector work) place → HasPlace (record { cells = cells; memory = memory }) place
        reads (in_cells p) read = named_below p (good.reads p read)
        reads (in_memory p) none = absurd none

        writes : (place : Place) → Writes (Vector work) place → HasPlace (record { cells = cells; memory = memory }) place
        writes (in_cells p) written = named_below p (good.writes p written)
        writes (in_memory p) none = absurd none

    -- the beats of each instruction are its whole effect
    done : (work : VecWork) (lanes : ℕ) (store : Store) → length store.cells ≡ cells → 0 < lanes → IsGood (IsTileBuffer b) shape.room work → DoesOne (Vector work) store (after_all_beats (Vector work) lanes store)
    done work lanes store long some good =
        beats_do_it work lanes store good.simple some (rw long (good_in_range work (length store.memory) good))

    -- so all of them lead there
    module _ (Holding : List Cell → Type 0) where
      pub does_all : (works : List VecWork) (lanes : ℕ) (store : Store) → length store.cells ≡ cells → 0 < lanes → TakesAll works b shape store.cells Holding → Holding (after_works works lanes store).cells
      does_all [] lanes store long some takes = takes
      does_all (work ∷ works) lanes store long some takes =
          let does = done work lanes store long some takes.0 in
          does_all works lanes (after_all_beats (Vector work) lanes store) (does.0.same_length ∙ long) some (takes.1 (after_all_beats (Vector work) lanes store).cells does.0)

      pub all_good : (works : List VecWork) (store : Store) → length store.cells ≡ cells → TakesAll works b shape store.cells Holding → All (IsGood (IsTileBuffer b) shape.room) works
      all_good [] store long takes = All-from_recursion (IsGood (IsTileBuffer b) shape.room) [] tt
      all_good (work ∷ works) store long takes =
          let does = done work 1 store long (lit< tt) takes.0 in
          All-cons (IsGood (IsTileBuffer b) shape.room) work works takes.0 (all_good works (after_all_beats (Vector work) 1 store) (does.0.same_length ∙ long) (takes.1 (after_all_beats (Vector work) 1 store).cells does.0))
