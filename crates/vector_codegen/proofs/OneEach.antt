-- Beside the fills a tile has one instruction for each inner node, and in a sum one that joins.
use Rattle.std.proofs.Common.{◌≡◌, ℕ, ◌+◌, ◌≤◌, ap, ◌∙◌, refl, arith, List, [], ◌∷◌, length, length-append, map, Bool, true, false}
use Rattle.std.specs.Prelude.{if◌then◌else◌}
use Rattle.std.proofs.lemmas.List.{length-map}
use Rattle.std.proofs.lemmas.Bool.{false≢true}
use Rattle.ven_base.specs.declared.ops.Fold.TheVariants as fold
use Rattle.venice_isa.specs.declared.work.VecWork.{VecWork}
use Rattle.pass_plan.specs.declared.pass.PassKind.{PassKind}
use Rattle.pass_plan.specs.declared.pass.PassKind.TheVariants.{Map, Reduce}
use Rattle.pass_plan.specs.Tree.{TreeOver, AtLeaf, Literal, One, Two, Cast, Move, Select, is_computed}
use Rattle.pass_plan.specs.Label.{label_of}
use Rattle.pass_plan.specs.Numbers.{inner_of}
use Rattle.pass_plan.specs.Buffers.{begins_row}
use Rattle.buffer_lifetimes.specs.Step.{Step}
use Rattle.buffer_lifetimes.proofs.Counts.{counts_steps}
use Rattle.dma_segments.specs.declared.segments.Fill.{Fill}
use Rattle.vector_codegen.specs.Work.{Shape, flat, Buffers}
use Rattle.vector_codegen.specs.Root.{sum_works, root_works}
use Rattle.vector_codegen.specs.TileList.{fill_work, works_with, works_in, tile_shape, tile_buffers}
use Rattle.vector_codegen.specs.Laws.{TilesHaveOneEach}

some_inner : (t : TreeOver ℕ) → is_computed t ≡ true → 1 ≤ inner_of t
some_inner (AtLeaf k) inner = absurd (false≢true inner)
some_inner (Literal n) inner = absurd (false≢true inner)
some_inner (One op elem a) inner = omega arith
some_inner (Two op elem a c) inner = omega arith
some_inner (Cast elem from a) inner = omega arith
some_inner (Move elem a) inner = omega arith
some_inner (Select elem c x y) inner = omega arith

module _ (root : Step → List VecWork) (shape : Shape) (b : Buffers) (more : ℕ) (roots : (step : Step) → length (root step) ≡ 1 + more) where
  steps_length : (steps : List Step) → 1 ≤ length steps → length (works_with root shape b steps) ≡ length steps + more
  steps_length [] some = absurd (omega arith)
  steps_length (step ∷ []) some = roots step ∙ omega arith
  steps_length (step ∷ next ∷ steps) some = let rest = steps_length (next ∷ steps) (omega arith) in omega arith

module _ (kind : PassKind) (shape : Shape) (b : Buffers) (first : Bool) (fills : List Fill) (steps : List Step) (some : 1 ≤ length steps) (more : ℕ) (roots : (step : Step) → length (root_works kind shape b first step) ≡ 1 + more) where
  list_length : length (works_in kind shape b first fills steps) ≡ length fills + length steps + more
  list_length =
      let rest = steps_length (root_works kind shape b first) (flat shape) b more roots steps some in
      let filled = length-map fills fill_work in
      let both = length-append (map fill_work fills) (works_with (root_works kind shape b first) (flat shape) b steps) in
      omega arith

sum_length : (shape : Shape) (b : Buffers) (first : Bool) (step : Step) → length (sum_works shape b first step) ≡ 1 + (if first then 0 else 1)
sum_length shape b true step = refl
sum_length shape b false step = refl

pub tiles_have_one_each : TilesHaveOneEach
tiles_have_one_each pass tile t fills steps somewhere number order fills_are =
    let sound = somewhere.2 in
    let S = tile_shape pass tile t in
    let B = tile_buffers pass tile t in
    let first = begins_row pass tile t in
    let each : length steps ≡ inner_of pass.tree = counts_steps pass.tree (label_of pass.tree) steps order.to order.order in
    let inner = some_inner pass.tree sound.normal.root in
    let some : 1 ≤ length steps = omega arith in (
      λ is.
          let all = ap (λ kind. length (works_in kind S B first fills steps)) is in
          let count = list_length Map S B first fills steps some 0 (λ step. refl) in
          omega (arith, all, count, each),
      λ is.
          let all = ap (λ kind. length (works_in kind S B first fills steps)) is in
          let count = list_length (Reduce fold.Sum) S B first fills steps some (if first then 0 else 1) (sum_length S B first) in
          omega (arith, all, count, each),
    )
