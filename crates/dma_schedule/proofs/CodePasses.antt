-- The passes of a split one after another, in code.
use Rattle.std.proofs.Common.{◌≡◌, ℕ, zero, suc, ◌+◌, ◌<◌, ◌≤◌, ◌^◌, refl, sym, subst, ap, ◌∙◌, arith, List, [], ◌∷◌, ◌++◌, append_assoc, append-nil, map, length, get_or, take}
use Rattle.std.specs.Prelude.{Contains}
use Rattle.std.specs.List.{flat_map}
use Rattle.std.proofs.lemmas.List.{get_or-map, length-map}
use Rattle.venice_isa.specs.declared.issue.Issue.{Issue}
use Rattle.pass_plan.specs.declared.pass.Pass as code
use Rattle.pass_plan.specs.declared.split.Split as code_split
use Rattle.pass_plan.specs.declared.split.ArrayPlace.{ArrayPlace}
use Rattle.pass_plan.specs.Pass.{Pass}
use Rattle.pass_plan.specs.Need.{pass_need, need_of}
use Rattle.pass_plan.specs.Tile.{tile_of}
use Rattle.pass_plan.specs.Shown.{pass_of, passes_of, split_of}
use Rattle.pass_plan.specs.Sound.{Split, IsSound, AreSound, IsSoundPass, destinations_of}
use Rattle.pass_plan.proofs.Sums.{each_below}
use Rattle.dma_schedule.specs.Blocks.{pass_list}
use Rattle.dma_schedule.specs.PipeList.{blocks_of}
use Rattle.dma_schedule.specs.Plan.{IsReady}

-- a pass of a sound split is sound, where the arrays that it and later ones make are kept apart
record IsSoundAt (arrays : List ArrayPlace) (pass : Pass) : Type 0 where
  later : List ℕ
  sound : IsSoundPass arrays later pass
  own : Contains later pass.dest

sound_at : (passes : List Pass) (arrays : List ArrayPlace) (k : ℕ) (pass : Pass) → AreSound arrays passes → k < length passes → get_or passes k pass ≡ pass → IsSoundAt arrays pass
sound_at [] arrays k pass sound below is = absurd (omega (arith, below))
sound_at (p ∷ passes) arrays zero pass sound below is =
    subst (IsSoundAt arrays) is (record { later = destinations_of (p ∷ passes); sound = sound.0; own = (0, omega arith, refl) })
sound_at (p ∷ passes) arrays (suc k) pass sound below is = sound_at passes arrays k pass sound.1 (omega arith) is

pub ready_at : (split : Split) (spad k : ℕ) (pass : Pass) → IsSound split → need_of split.passes ≤ spad → spad < 2 ^ 32 → k < length split.passes → get_or split.passes k pass ≡ pass
    → IsReady split.arrays pass (tile_of pass spad)
ready_at split spad k pass sound holds few below is =
    let at = sound_at split.passes split.arrays k pass sound.passes below is in
    let small : pass_need pass ≤ need_of split.passes = subst (λ p. pass_need p ≤ need_of split.passes) is (each_below pass_need split.passes k pass below) in
    record {
      memory = split.memory;
      later = at.later;
      spad = spad;
      planned = record { sound = at.sound; placed = sound.placed; own = at.own; holds = omega arith; few = few };
      is = refl;
    }

-- a pass of the code is that of the plain list
pub item_is : (passes : List code.Pass) (k : ℕ) (pass : code.Pass) → pass ≡ get_or passes k pass → k < length passes → (k < length (passes_of passes)) × (get_or (passes_of passes) k (pass_of pass) ≡ pass_of pass)
item_is passes k pass is below = (omega (arith, length-map passes pass_of), get_or-map pass_of passes k pass (pass_of pass) below ∙ ap pass_of (sym is))

-- the pass at a place of the split's slice of passes
module _ (split : code_split.Split) (spad i : ℕ) (slice : List code.Pass) (pass : code.Pass) (is_slice : slice ≡ split.passes.items) (sound : IsSound (split_of split)) (holds : need_of (passes_of split.passes.items) ≤ spad)
    (few : spad < 2 ^ 32) (below : i < length slice) (is : pass ≡ get_or slice i pass) where
  pub within : i < length split.passes.items
  within = subst (λ ps. i < length ps) is_slice below

  pub is_pass : pass ≡ get_or split.passes.items i pass
  is_pass = is ∙ ap (λ ps. get_or ps i pass) is_slice

  pub holds_one : pass_need (pass_of pass) ≤ spad
  holds_one =
      let item = item_is split.passes.items i pass is_pass within in
      let small : pass_need (pass_of pass) ≤ need_of (passes_of split.passes.items) = subst (λ p. pass_need p ≤ need_of (passes_of split.passes.items)) item.1 (each_below pass_need (passes_of split.passes.items) i (pass_of pass) item.0) in
      omega arith

  pub ready_one : IsReady split.arrays.items (pass_of pass) (tile_of (pass_of pass) spad)
  ready_one =
      let item = item_is split.passes.items i pass is_pass within in
      ready_at (split_of split) spad i (pass_of pass) sound holds few item.0 item.1

more : {A B C : Type 0} (f : A → B) (g : B → List C) (xs : List A) (i : ℕ) (x : A) → i < length xs → flat_map g (map f (take (suc i) xs)) ≡ flat_map g (map f (take i xs)) ++ g (f (get_or xs i x))
more f g [] i x below = absurd (omega (arith, below))
more f g (y ∷ xs) zero x below = append-nil (g (f y))
more f g (y ∷ xs) (suc i) x below = ap (λ zs. g (f y) ++ zs) (more f g xs i x (omega arith)) ∙ sym (append_assoc (g (f y)) (flat_map g (map f (take i xs))) (g (f (get_or xs i x))))

take_all : {A : Type 0} (xs : List A) → take (length xs) xs ≡ xs
take_all [] = refl
take_all (x ∷ xs) = ap (λ ys. x ∷ ys) (take_all xs)

module _ (arrays : List ArrayPlace) (spad : ℕ) (passes : List code.Pass) where
  abbrev pub list_of : Pass → List Issue
  list_of pass = pass_list (blocks_of arrays pass (tile_of pass spad))

  pub list_next : (i : ℕ) (pass : code.Pass) (before after : List Issue) → i < length passes → pass ≡ get_or passes i pass → before ≡ flat_map list_of (passes_of (take i passes)) → after ≡ before ++ list_of (pass_of pass)
      → after ≡ flat_map list_of (passes_of (take (i + 1) passes))
  list_next i pass before after below is held adds =
      adds ∙ ap (λ xs. xs ++ list_of (pass_of pass)) held ∙ ap (λ p. flat_map list_of (passes_of (take i passes)) ++ list_of (pass_of p)) is
      ∙ sym (more pass_of list_of passes i pass below) ∙ ap (λ n. flat_map list_of (passes_of (take n passes))) (next i)
    where
      next : (n : ℕ) → suc n ≡ n + 1
      next n = omega arith

  pub list_whole : (i : ℕ) (list : List Issue) → i ≡ length passes → list ≡ flat_map list_of (passes_of (take i passes)) → list ≡ flat_map list_of (passes_of passes)
  list_whole i list end is = is ∙ ap (λ n. flat_map list_of (passes_of (take n passes))) end ∙ ap (λ ps. flat_map list_of (passes_of ps)) (take_all passes)
