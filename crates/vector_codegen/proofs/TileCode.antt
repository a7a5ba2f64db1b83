-- What the code needs to know of a tile's numbers and of the steps of an order.
use Rattle.std.proofs.Common.{◌≡◌, ℕ, zero, suc, ◌+◌, ◌*◌, ◌^◌, ◌<◌, ◌≤◌, append_assoc, append-nil, inl, inr, ap, sym, ◌∙◌, subst, refl, arith, lit<, List, [], ◌∷◌, ◌++◌, length, map, Bool, true, false, All}
use Rattle.std.specs.Prelude.{Some, if◌then◌else◌}
use Rattle.std.proofs.lemmas.List.{map-append}
use Rattle.std.proofs.Math.Nat.{mul-le-mul_left, mul-le-mul_right}
use Rattle.std.proofs.lemmas.Nat.{mul-le}
use Rattle.std.proofs.lemmas.Bool.{cases_eq, false≢true}
use Rattle.ven_base.specs.declared.elem.Elem.{Elem}
use Rattle.ven_base.specs.Elem.{size_of}
use Rattle.venice_isa.specs.declared.work.VecWork.{VecWork}
use Rattle.pass_plan.specs.declared.parts.Tile.{Tile}
use Rattle.pass_plan.specs.declared.pass.PassKind.{PassKind}
use Rattle.pass_plan.specs.declared.pass.PassKind.TheVariants.{Map, Reduce}
use Rattle.pass_plan.specs.Tree.{AtLeaf, Literal, One, Two, Cast, Move, Select, is_computed, op_of, elem_of, operands_of, leaves_of}
use Rattle.pass_plan.specs.Pass.{Pass}
use Rattle.pass_plan.specs.Need.{buffers_of, widest_in, IsSmall}
use Rattle.pass_plan.specs.Tile.{across, tile_of}
use Rattle.pass_plan.specs.Buffers.{is_map, buffer_bytes, tiles_per_row}
use Rattle.pass_plan.proofs.Tilings.{buffers_inside, need_some, size_some, some_ceil}
use Rattle.buffer_lifetimes.specs.declared.step.Operand.{Operand}
use Rattle.buffer_lifetimes.specs.declared.step.Operand.TheVariants as operand
use Rattle.buffer_lifetimes.specs.declared.step.EvalStep.{EvalStep}
use Rattle.buffer_lifetimes.specs.Step.{Tree, Step, step_of, steps_of}
use Rattle.buffer_lifetimes.specs.Order.{State, no_slots, put, IsArg, without, without_all, AreArgs, CanStep, after_step, Leads}
use Rattle.buffer_lifetimes.proofs.Slots.{put_same, put_other, none_some, some_same}
use Rattle.buffer_lifetimes.proofs.Trees.{AreComputed, computed_after, none_computed, HoldsOfAll, holds_of_made, holds_from, stood, stood_all}
use Rattle.dma_segments.proofs.Lists.{Each, each_all, all_each, each_left, each_of_map}
use Rattle.dma_segments.specs.declared.segments.Fill.{Fill}
use Rattle.vector_codegen.specs.Work.{Shape, flat, Buffers, slot_buffer, step_work}
use Rattle.vector_codegen.specs.Root.{root_works}
use Rattle.vector_codegen.specs.TileList.{fill_work, works_with, works_in, tile_shape, tile_buffers}
use Rattle.vector_codegen.specs.Effect.{IsSoundSomewhere, IsTileNumber, IsOrderOf}
use Rattle.vector_codegen.specs.Fit.{IsFitting, IsArgOf, arity_of, IsStepOf}
use Rattle.vector_codegen.proofs.Held.{Typing, HasType}
use Rattle.vector_codegen.proofs.Types.{IsFit, fit_passes}
use Rattle.vector_codegen.proofs.Steps.{size_positive_fits}
use Rattle.vector_codegen.proofs.PassTiles.{some_tile, is_piece, pass_typing, counted, has_room, tree_type}
use Rattle.vector_codegen.proofs.PassLaws.{nodes_at_least, leaves_occur}

-- ---- a pass alone

pub is_small : (pass : Pass) → IsSoundSomewhere pass → IsSmall pass
is_small pass somewhere =
    let sound = somewhere.2 in
    let occur = leaves_occur (leaves_of pass.tree) 0 (length pass.leaves) sound.numbered in
    let nodes = nodes_at_least pass.tree in
    let few = sound.few_nodes in
    record { few_leaves = omega arith; few_nodes = few }

some_buffers : (pass : Pass) → 1 ≤ buffers_of pass
some_buffers pass = go (buffers_of pass) (need_some pass)
  where
    go : (n : ℕ) → 1 ≤ n * widest_in pass → 1 ≤ n
    go zero some = absurd (omega arith)
    go (suc n) some = omega arith

-- ---- a tile

pub tile_is_some : (pass : Pass) (tile : Tile) (t : ℕ) → IsSoundSomewhere pass → IsTileNumber pass tile t → (1 ≤ tile.h) × (1 ≤ tile.w)
tile_is_some pass tile t somewhere number = some_tile pass tile t somewhere.0 somewhere.1 somewhere.2 number

-- its buffers are so few and small
pub rooms_few : (pass : Pass) (tile : Tile) (t : ℕ) → IsTileNumber pass tile t → buffers_of pass * buffer_bytes pass tile < 2 ^ 32
rooms_few pass tile t number =
    let inside = buffers_inside pass number.spad number.holds in
    let few = number.few in
    let all : buffers_of pass * buffer_bytes pass (tile_of pass number.spad) < 2 ^ 32 = omega arith in
    subst (λ (tile : Tile). buffers_of pass * buffer_bytes pass tile < 2 ^ 32) (sym number.is) all

pub room_few : (pass : Pass) (tile : Tile) (t : ℕ) → IsTileNumber pass tile t → tile.h * tile.w * widest_in pass < 2 ^ 32
room_few pass tile t number =
    let all = rooms_few pass tile t number in
    let one : 1 * buffer_bytes pass tile ≤ buffers_of pass * buffer_bytes pass tile = mul-le-mul_right (buffer_bytes pass tile) (some_buffers pass) in
    omega arith

pub elements_few : (pass : Pass) (tile : Tile) (t : ℕ) → IsTileNumber pass tile t → tile.h * tile.w < 2 ^ 32
elements_few pass tile t number =
    let all = room_few pass tile t number in
    let some = size_some pass.elem in
    let wide : tile.h * tile.w * 1 ≤ tile.h * tile.w * widest_in pass = mul-le-mul_left (tile.h * tile.w) (omega arith) in
    omega arith

module _ (pass : Pass) (tile : Tile) (t : ℕ) (somewhere : IsSoundSomewhere pass) (number : IsTileNumber pass tile t) where
  abbrev S : Shape
  S = tile_shape pass tile t

  abbrev B : Buffers
  B = tile_buffers pass tile t

  pub fitting : IsFitting S B
  fitting =
      let sound = somewhere.2 in
      let piece = is_piece pass tile t somewhere.0 somewhere.1 sound number in
      let room = has_room pass tile t somewhere.0 somewhere.1 sound number (buffers_of pass * buffer_bytes pass tile) (omega arith) in
      let rows = piece.rows_inside in
      let cols = piece.cols_inside in
      let all : S.rows * S.cols ≤ pass.domain.rows * pass.domain.cols = mul-le S.rows S.cols pass.domain.rows pass.domain.cols (omega arith) (omega arith) in
      let domain = sound.shaped.within in
      let some = size_some pass.elem in
      let tiles = some_tile pass tile t somewhere.0 somewhere.1 sound number in
      let one : 1 * 1 ≤ tile.h * tile.w = mul-le 1 1 tile.h tile.w tiles.0 tiles.1 in
      let wide : 1 * 1 ≤ tile.h * tile.w * widest_in pass = mul-le 1 1 (tile.h * tile.w) (widest_in pass) (omega arith) (omega arith) in
      let counts = ap (λ n. n * buffer_bytes pass tile) (counted pass tile t somewhere.0 somewhere.1 sound number) in
      let few = rooms_few pass tile t number in
      record {
        few = omega arith;
        some_rows = piece.some_rows;
        some_cols = piece.some_cols;
        some_room = omega arith;
        rooms = omega (arith, counts, few);
        half = room.half;
        out = room.out;
      }

-- ---- the steps of an order

arity_is : (t : Tree) → is_computed t ≡ true → length (operands_of t) ≡ arity_of (op_of t)
arity_is (AtLeaf k) inner = absurd (false≢true inner)
arity_is (Literal n) inner = absurd (false≢true inner)
arity_is (One op elem a) inner = refl
arity_is (Two op elem a c) inner = refl
arity_is (Cast elem from a) inner = refl
arity_is (Move elem a) inner = refl
arity_is (Select elem c x y) inner = refl

module _ (b : Buffers) (typing : Typing) (one_count : b.leaves ≡ typing.leaves) where
  abbrev AreWithin : State → Type 0
  AreWithin state = (s : ℕ) (u : Tree) → state s ≡ Some u → s < b.slots

  abbrev IsTypedHere : Tree → Type 0
  IsTypedHere x = (asked : Elem) × HasType x typing asked

  slot_arg : (state : State) (arg : Operand) (x : Tree) → AreWithin state → (s : ℕ) × (arg ≡ operand.Slot s) × (state s ≡ Some x) → IsArgOf b arg
  slot_arg state arg x within is = rw is.1 (within is.0 x is.2)

  arg_of : (state : State) (arg : Operand) (x : Tree) (asked : Elem) → AreWithin state → IsArg state arg x → HasType x typing asked → IsArgOf b arg
  arg_of state arg (AtLeaf k) asked within is type = rw is (omega (arith, type.0, one_count))
  arg_of state arg (Literal n) asked within is type = rw is tt
  arg_of state arg (One op elem x) asked within is type = slot_arg state arg (One op elem x) within is
  arg_of state arg (Two op elem x y) asked within is type = slot_arg state arg (Two op elem x y) within is
  arg_of state arg (Cast elem from x) asked within is type = slot_arg state arg (Cast elem from x) within is
  arg_of state arg (Move elem x) asked within is type = slot_arg state arg (Move elem x) within is
  arg_of state arg (Select elem c x y) asked within is type = slot_arg state arg (Select elem c x y) within is

  args_of : (state : State) (args : List Operand) (ts : List Tree) → AreWithin state → AreArgs state args ts → Each IsTypedHere ts → Each (IsArgOf b) args × (length args ≡ length ts)
  args_of state [] [] within are typed = (tt, refl)
  args_of state [] (x ∷ ts) within are typed = absurd are
  args_of state (arg ∷ args) [] within are typed = absurd are
  args_of state (arg ∷ args) (x ∷ ts) within are typed =
      let rest = args_of (without state arg) args ts (λ s u is. within s u (stood state arg s u is)) are.1 typed.1 in
      let longer = rest.1 in
      ((arg_of state arg x typed.0.0 within are.0 typed.0.1, rest.0), omega arith)

  operands_typed : (t : Tree) → is_computed t ≡ true → HasType t typing (elem_of t) → Each IsTypedHere (operands_of t)
  operands_typed (AtLeaf k) inner type = absurd (false≢true inner)
  operands_typed (Literal n) inner type = absurd (false≢true inner)
  operands_typed (One op elem a) inner type = ((elem, type.2), tt)
  operands_typed (Two op elem a c) inner type = ((elem, type.2), ((elem, type.3), tt))
  operands_typed (Cast elem from a) inner type = ((from, type.2), tt)
  operands_typed (Move elem a) inner type = ((elem, type.2), tt)
  operands_typed (Select elem c x y) inner type = ((elem, type.2), ((elem, type.3), ((elem, type.4), tt)))

  elem_narrow : (t : Tree) → is_computed t ≡ true → HasType t typing (elem_of t) → size_of (elem_of t) ≤ typing.most
  elem_narrow (AtLeaf k) inner type = absurd (false≢true inner)
  elem_narrow (Literal n) inner type = absurd (false≢true inner)
  elem_narrow (One op elem a) inner type = type.1
  elem_narrow (Two op elem a c) inner type = type.1
  elem_narrow (Cast elem from a) inner type = type.1
  elem_narrow (Move elem a) inner type = type.1
  elem_narrow (Select elem c x y) inner type = type.1

  -- it is a step over the tile's buffers, of no greater element
  abbrev pub IsNarrowStep : Step → Type 0
  IsNarrowStep step = IsStepOf b step × (size_of step.elem ≤ typing.most)

  within_after : (state : State) (step : Step) (t : Tree) → CanStep b.slots state step t → AreWithin state → AreWithin (after_step state step t)
  within_after state step t can within s u is =
      elim (cases_eq s step.to) [
        | inl same ↦ rw same can.within
        | inr other ↦ within s u (stood_all state step.args s u (sym (put_other (without_all state step.args) step.to (Some t) s other) ∙ is))
      ]

  steps_within : (steps : List Step) (state last : State) → Leads b.slots state steps last → AreComputed state → AreWithin state → HoldsOfAll (IsFit typing) (fit_passes typing) last → Each IsNarrowStep steps
  steps_within [] state last leads computed within all = tt
  steps_within (step ∷ steps) state last leads computed within all =
      let t = leads.0 in
      let can = leads.1 in
      let computed' = computed_after b.slots state step t can computed in
      let after = holds_from (IsFit typing) (fit_passes typing) b.slots steps (after_step state step t) last leads.2 computed' all in
      let type = holds_of_made (IsFit typing) (fit_passes typing) state step t after in
      let args = args_of state step.args (operands_of t) within can.args_are (operands_typed t can.inner type) in (
        (record { args = all_each (IsArgOf b) step.args args.0; count = args.1 ∙ arity_is t can.inner ∙ sym (ap arity_of can.op_is); to = can.within }, subst (λ e. size_of e ≤ typing.most) (sym can.elem_is) (elem_narrow t can.inner type)),
        steps_within steps (after_step state step t) last leads.2 computed' (within_after state step t can within) all,
      )

module _ (pass : Pass) (tile : Tile) (t : ℕ) (somewhere : IsSoundSomewhere pass) (number : IsTileNumber pass tile t) (steps : List EvalStep) (slots : ℕ) (order : IsOrderOf pass.tree slots (steps_of steps)) where
  narrow_steps : Each (IsNarrowStep (tile_buffers pass tile t) (pass_typing pass tile t somewhere.0 somewhere.1 somewhere.2 number) refl) (steps_of steps)
  narrow_steps =
      let typing = pass_typing pass tile t somewhere.0 somewhere.1 somewhere.2 number in
      let type = tree_type pass tile t somewhere.0 somewhere.1 somewhere.2 number in
      steps_within (tile_buffers pass tile t) typing refl (steps_of steps) no_slots (put no_slots order.to (Some pass.tree)) order.order.leads none_computed (λ s u is. absurd (none_some u is))
      (λ s u is. elim (cases_eq s order.to) [
        | inl same ↦ let one : pass.tree ≡ u = some_same pass.tree u (sym (put_same no_slots order.to (Some pass.tree) s same) ∙ is) in subst (λ (v : Tree). HasType v typing (elem_of v)) one type
        | inr other ↦ absurd (none_some u (sym (put_other no_slots order.to (Some pass.tree) s other) ∙ is))
      ])

  -- each step is one over the tile's buffers, and its elements fit a buffer
  pub steps_fit : All (λ step. IsStepOf (tile_buffers pass tile t) (step_of step)) steps
  steps_fit = λ k d below. (narrow_at k d below).0
    where
      narrow_at : All (λ step. IsNarrowStep (tile_buffers pass tile t) (pass_typing pass tile t somewhere.0 somewhere.1 somewhere.2 number) refl (step_of step)) steps
      narrow_at = all_each _ steps (each_of_map step_of (IsNarrowStep (tile_buffers pass tile t) (pass_typing pass tile t somewhere.0 somewhere.1 somewhere.2 number) refl) steps narrow_steps)

  pub steps_wide : All (λ step. (tile_shape pass tile t).rows * (tile_shape pass tile t).cols * size_of step.elem ≤ (tile_shape pass tile t).room) steps
  steps_wide = λ k d below.
      let room = has_room pass tile t somewhere.0 somewhere.1 somewhere.2 number (buffers_of pass * buffer_bytes pass tile) (omega arith) in
      size_positive_fits (tile_shape pass tile t) _ (widest_in pass) (narrow_at k d below).1 room.fits
    where
      narrow_at : All (λ step. IsNarrowStep (tile_buffers pass tile t) (pass_typing pass tile t somewhere.0 somewhere.1 somewhere.2 number) refl (step_of step)) steps
      narrow_at = all_each _ steps (each_of_map step_of (IsNarrowStep (tile_buffers pass tile t) (pass_typing pass tile t somewhere.0 somewhere.1 somewhere.2 number) refl) steps narrow_steps)

-- the last step of a list of them
pub works_end : (root : Step → List VecWork) (shape : Shape) (b : Buffers) (before : List Step) (last : Step) → works_with root shape b (before ++ last ∷ []) ≡ map (λ step. step_work shape b false step (slot_buffer b step.to)) before ++ root last
works_end root shape b [] last = refl
works_end root shape b (step ∷ []) last = refl
works_end root shape b (step ∷ next ∷ steps) last = ap (λ works. step_work shape b false step (slot_buffer b step.to) ∷ works) (works_end root shape b (next ∷ steps) last)

-- ---- the last step and those before it

module _ {A : Type 0} (P : A → Type 0) where
  each_last : (before : List A) (last : A) → Each P (before ++ last ∷ []) → P last
  each_last [] last each = each.0
  each_last (x ∷ before) last each = each_last before last each.1

  pub all_before : (xs before : List A) (last : A) → xs ≡ before ++ last ∷ [] → All P xs → All P before
  all_before xs before last is all = all_each P before (each_left P before (last ∷ []) (each_all P (before ++ last ∷ []) (subst (λ (ys : List A). All P ys) is all)))

  pub all_last : (xs before : List A) (last : A) → xs ≡ before ++ last ∷ [] → All P xs → P last
  all_last xs before last is all = each_last before last (each_all P (before ++ last ∷ []) (subst (λ (ys : List A). All P ys) is all))

module _ (kind : PassKind) (shape : Shape) (b : Buffers) (first : Bool) (fills : List Fill) (steps : List EvalStep) (start filled : List VecWork) (none : start ≡ []) (fills_are : filled ≡ start ++ map fill_work fills) where
  filled_is : filled ≡ map fill_work fills
  filled_is = fills_are ∙ ap (λ works. works ++ map fill_work fills) none

  pub list_of_none : length steps ≡ 0 → filled ≡ works_in kind shape b first fills (steps_of steps)
  list_of_none no_steps =
      let empty : steps ≡ [] = by steps no_steps in
      filled_is ∙ sym (append-nil (map fill_work fills)) ∙ ap (λ steps. works_in kind shape b first fills (steps_of steps)) (sym empty)
    where
      by : (steps : List EvalStep) → length steps ≡ 0 → steps ≡ []
      by [] is = refl
      by (step ∷ steps) is = absurd (omega arith)

  pub list_of_some : (before : List EvalStep) (last : EvalStep) (row : Shape) (stepped whole : List VecWork) → row ≡ flat shape
      → stepped ≡ filled ++ map (λ step. step_work row b false step (slot_buffer b step.to)) (steps_of before)
      → whole ≡ stepped ++ root_works kind shape b first (step_of last) → steps ≡ before ++ last ∷ []
      → whole ≡ works_in kind shape b first fills (steps_of steps)
  list_of_some before last row stepped whole row_is steps_are root_are split =
      let root : List VecWork = root_works kind shape b first (step_of last) in
      let before_works : List VecWork = map (λ step. step_work (flat shape) b false step (slot_buffer b step.to)) (steps_of before) in
      let all : steps_of steps ≡ steps_of before ++ step_of last ∷ [] = ap steps_of split ∙ map-append step_of before (last ∷ []) in
      root_are ∙ ap (λ works. works ++ root) (steps_are ∙ ap (λ row. filled ++ map (λ step. step_work row b false step (slot_buffer b step.to)) (steps_of before)) row_is)
      ∙ ap (λ works. (works ++ before_works) ++ root) filled_is
      ∙ append_assoc (map fill_work fills) before_works root
      ∙ ap (λ works. map fill_work fills ++ works) (sym (works_end (root_works kind shape b first) (flat shape) b (steps_of before) (step_of last)))
      ∙ ap (λ steps. works_in kind shape b first fills steps) (sym all)

-- a row of results takes at least one tile
pub some_per_row : (pass : Pass) (tile : Tile) (t : ℕ) → IsSoundSomewhere pass → IsTileNumber pass tile t → 0 < tiles_per_row pass tile
some_per_row pass tile t somewhere number = go pass.kind
  where
    go : (kind : PassKind) → 0 < (if is_map kind then 1 else across pass.domain tile)
    go Map = lit< tt
    go (Reduce fold) =
        let wide = (tile_is_some pass tile t somewhere number).1 in
        let cols = somewhere.2.shaped.some_cols in
        let some = some_ceil pass.domain.cols tile.w wide cols in
        omega arith
