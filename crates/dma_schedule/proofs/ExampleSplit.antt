-- A small split is sound.
use Rattle.std.proofs.Common.{◌≡◌, ℕ, suc, ◌≤◌, refl, arith, lit<, lit≤, List, [], ◌∷◌, true, false, inl, ◌⊎◌, All, pos}
use Rattle.std.specs.Prelude.{Contains, AllPairs}
use Rattle.std.proofs.lemmas.List.Elements.{All-cons, All-nil}
use Rattle.std.proofs.lemmas.List.Kept.{AllPairs-cons}
use Rattle.ven_base.specs.declared.elem.Elem.TheVariants.{U16}
use Rattle.ven_base.specs.declared.mapping.Mapping.{Mapping}
use Rattle.ven_base.specs.declared.mapping.Mapping.TheVariants.{Identity, Shift}
use Rattle.ven_base.specs.declared.ops.Fold.TheVariants as fold
use Rattle.ven_base.specs.Elem.{IsElement}
use Rattle.ven_base.specs.Extent.{IsExtent}
use Rattle.ven_base.specs.Mapping.{FitsShape}
use Rattle.ven_base.proofs.Operations.{IsElement-one_or_zero}
use Rattle.pass_plan.specs.declared.split.ArrayPlace.{ArrayPlace}
use Rattle.pass_plan.specs.declared.pass.PassKind.{PassKind}
use Rattle.pass_plan.specs.declared.pass.PassKind.TheVariants.{Map, Reduce}
use Rattle.pass_plan.specs.Need.{need_of}
use Rattle.pass_plan.specs.Sound.{IsSound, IsSoundPass, IsSoundResult, IsSoundLeaf, end_of}
use Rattle.dma_schedule.specs.Examples.{extent, leaf_of_nines, moving, array_at, shifted_sums}

nines : IsExtent (extent 2 9)
nines = record { some_rows = lit≤ tt; some_cols = lit≤ tt; within = lit≤ tt }

sums : IsExtent (extent 2 1)
sums = record { some_rows = lit≤ tt; some_cols = lit≤ tt; within = lit≤ tt }

none_below : (n : ℕ) (list : List ℕ) → All (λ k. suc n ≤ k) list → ¬ Contains list n
none_below n list all among = let at = all among.0 n among.1 in omega (arith, at, among.2)

moves : (kind : PassKind) (array dest : ℕ) (map : Mapping) (later : List ℕ) → IsSoundResult shifted_sums.arrays (moving kind (leaf_of_nines array map) dest)
    → IsSoundLeaf shifted_sums.arrays later (extent 2 9) (leaf_of_nines array map) → IsSoundPass shifted_sums.arrays later (moving kind (leaf_of_nines array map) dest)
moves kind array dest map later result leaf = record {
  shaped = nines;
  result = result;
  leaves = All-cons (IsSoundLeaf shifted_sums.arrays later (extent 2 9)) (leaf_of_nines array map) [] leaf (All-nil (IsSoundLeaf shifted_sums.arrays later (extent 2 9)));
  numbered = (lit≤ tt, refl);
  distinct = λ i j d before below. absurd (omega arith);
  normal = record { selects = tt; root = refl; no_select = refl };
  typed = (refl, (lit< tt, refl));
  few_nodes = lit≤ tt;
}

one : IsElement U16 (pos 1)
one = IsElement-one_or_zero U16 true

shift_fits : FitsShape (Shift (pos 0) (pos 1) (pos 1)) (extent 2 9)
shift_fits = (record { least = omega arith; most = omega arith }, record { least = omega arith; most = omega arith })

abbrev HasExtent : ArrayPlace → Type 0
HasExtent a = IsExtent a.shape

abbrev IsInside : ArrayPlace → Type 0
IsInside a = end_of a ≤ 76

abbrev Apart : ArrayPlace → ArrayPlace → Type 0
Apart a b = (end_of a ≤ b.place) ⊎ (end_of b ≤ a.place)

placed_apart : AllPairs Apart shifted_sums.arrays
placed_apart =
    AllPairs-cons Apart (array_at (extent 2 9) 0) (array_at (extent 2 9) 36 ∷ array_at (extent 2 1) 72 ∷ [])
    (All-cons (Apart (array_at (extent 2 9) 0)) (array_at (extent 2 9) 36) (array_at (extent 2 1) 72 ∷ []) (inl (lit≤ tt)) (All-cons (Apart (array_at (extent 2 9) 0)) (array_at (extent 2 1) 72) [] (inl (lit≤ tt)) (All-nil (Apart (array_at (extent 2 9) 0)))))
    (AllPairs-cons Apart (array_at (extent 2 9) 36) (array_at (extent 2 1) 72 ∷ []) (All-cons (Apart (array_at (extent 2 9) 36)) (array_at (extent 2 1) 72) [] (inl (lit≤ tt)) (All-nil (Apart (array_at (extent 2 9) 36))))
    (λ i j d before below. absurd (omega arith)))

pub sound : IsSound shifted_sums
sound = record {
  passes = (
    moves Map 0 1 (Shift (pos 0) (pos 1) (pos 1)) (1 ∷ 2 ∷ []) (record { known = lit< tt; elem_is = refl; as_many = refl })
        (record {
          known = lit< tt;
          ready = none_below 0 (1 ∷ 2 ∷ []) (All-cons (λ k. 1 ≤ k) 1 (2 ∷ []) (lit≤ tt) (All-cons (λ k. 1 ≤ k) 2 [] (lit≤ tt) (All-nil (λ k. 1 ≤ k))));
          elem_is = refl;
          as_many = refl;
          shaped = nines;
          fits = shift_fits;
          gives = refl;
          fill = one;
        }),
    (
      moves (Reduce fold.Sum) 1 2 Identity (2 ∷ []) (record { known = lit< tt; elem_is = refl; as_many = refl })
          (record {
            known = lit< tt;
            ready = none_below 1 (2 ∷ []) (All-cons (λ k. 2 ≤ k) 2 [] (lit≤ tt) (All-nil (λ k. 2 ≤ k)));
            elem_is = refl;
            as_many = refl;
            shaped = nines;
            fits = tt;
            gives = refl;
            fill = IsElement-one_or_zero U16 false;
          }),
      tt,
    ),
  );
  one_each = AllPairs-cons (λ a b. a ≡ b → ⊥) 1 (2 ∷ []) (All-cons (λ b. 1 ≡ b → ⊥) 2 [] (λ same. omega arith) (All-nil (λ b. 1 ≡ b → ⊥))) (λ i j d before below. absurd (omega arith));
  placed = record {
    shaped = All-cons HasExtent (array_at (extent 2 9) 0) (array_at (extent 2 9) 36 ∷ array_at (extent 2 1) 72 ∷ []) nines (All-cons HasExtent (array_at (extent 2 9) 36) (array_at (extent 2 1) 72 ∷ []) nines (All-cons HasExtent (array_at (extent 2 1) 72) [] sums (All-nil HasExtent)));
    inside = All-cons IsInside (array_at (extent 2 9) 0) (array_at (extent 2 9) 36 ∷ array_at (extent 2 1) 72 ∷ []) (lit≤ tt) (All-cons IsInside (array_at (extent 2 9) 36) (array_at (extent 2 1) 72 ∷ []) (lit≤ tt) (All-cons IsInside (array_at (extent 2 1) 72) [] (lit≤ tt) (All-nil IsInside)));
    apart = placed_apart;
    within = lit≤ tt;
  };
  few_passes = lit≤ tt;
}

pub need_is : need_of shifted_sums.passes ≡ 12
need_is = refl
