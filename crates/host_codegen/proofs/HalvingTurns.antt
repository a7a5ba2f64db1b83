-- Rows that are halved in a number of turns that is a literal are halved as often as they can be.
use Rattle.std.proofs.Common.{◌≡◌, ℕ, zero, suc, ◌-◌, ◌/◌, ◌^◌, ◌<◌, ◌≤◌, refl, sym, ap, subst, arith, Bool, cond, leb, List, [], ◌∷◌}
use Rattle.std.proofs.Math.Nat.{pow-succ'}
use Rattle.std.proofs.lemmas.Nat.{leading_length}
use Rattle.std.proofs.lemmas.Bool.{le-leb}
use Rattle.ven_base.specs.declared.elem.Elem.{Elem}
use Rattle.venice_isa.specs.declared.work.VecWork.{VecWork}
use Rattle.pass_plan.specs.declared.parts.Tile.{Tile}
use Rattle.pass_plan.specs.Pass.{Pass}
use Rattle.vector_codegen.specs.Root.{halving_work, halvings}
use Rattle.vector_codegen.specs.TileList.{tile_shape}
use Rattle.host_codegen.specs.RootProgram.{halving_turns}

-- so many turns leave one of so many at most
pub enough_turns : (n : ℕ) → 1 ≤ n → n < 2 ^ 32 → n ≤ 2 ^ halving_turns n
enough_turns n some small =
    let digits = leading_length 32 (n - 1) (omega (arith, small)) in
    let turns : halving_turns n ≡ digits.0 = omega (arith, digits.1) in
    subst (λ k. n ≤ 2 ^ k) (sym turns) (omega (arith, digits.2, some))

module _ (pass : Pass) (tile : Tile) (t : ℕ) (least : Bool) (elem : Elem) (buffer left : ℕ) (some : 1 ≤ left) where
  -- the first halving of rows of so many elements, and the halvings in so many turns
  abbrev halving : ℕ → VecWork
  halving count = halving_work (tile_shape pass tile t) least elem buffer (count / 2) (count - count / 2)

  abbrev halved : (turns count : ℕ) → List VecWork
  halved turns count = halvings turns (tile_shape pass tile t) least elem buffer left count

  -- turns that are enough make one list, however many they are
  pub same_halvings : (m n count : ℕ) → count ≤ 2 ^ m → count ≤ 2 ^ n → halved m count ≡ halved n count
  same_halvings zero zero count a b = refl
  same_halvings zero (suc n) count a b = sym (ap (λ t. cond t [] (halving count ∷ halved n (count - count / 2))) (le-leb count left (omega (arith, a, some))))
  same_halvings (suc m) zero count a b = ap (λ t. cond t [] (halving count ∷ halved m (count - count / 2))) (le-leb count left (omega (arith, b, some)))
  same_halvings (suc m) (suc n) count a b =
      let twice_m = pow-succ' 2 m in
      let twice_n = pow-succ' 2 n in
      ap (λ works. cond (leb count left) [] (halving count ∷ works)) (same_halvings m n (count - count / 2) (omega (arith, a, twice_m)) (omega (arith, b, twice_n)))

  -- where so many are left already, no turn does anything
  pub done_halvings : (n count : ℕ) → count ≤ left → halved n count ≡ []
  done_halvings zero count le = refl
  done_halvings (suc n) count le = ap (λ t. cond t [] (halving count ∷ halved n (count - count / 2))) (le-leb count left le)
