-- A small pass is sound.
use Rattle.std.proofs.Common.{ℕ, zero, suc, refl, arith, lit<, lit≤, List, [], ◌∷◌, false}
use Rattle.std.specs.Prelude.{Contains}
use Rattle.std.proofs.lemmas.List.Elements.{All-cons, All-nil}
use Rattle.ven_base.specs.declared.elem.Elem.TheVariants.{U16}
use Rattle.ven_base.proofs.Operations.{IsElement-one_or_zero}
use Rattle.pass_plan.specs.declared.split.ArrayPlace.{ArrayPlace}
use Rattle.pass_plan.specs.Sound.{IsSoundLeaf}
use Rattle.vector_codegen.specs.Effect.{IsSoundSomewhere}
use Rattle.vector_codegen.specs.Examples.{extent, row_sums}

places : List ArrayPlace
places = record { elem = U16; shape = extent 2 9; place = 0 } ∷ record { elem = U16; shape = extent 2 9; place = 36 } ∷ record { elem = U16; shape = extent 2 1; place = 72 } ∷ []

abbrev later : List ℕ
later = 2 ∷ []

not_made : Contains {X = ℕ} later 0 → ⊥
not_made (zero, below, is) = omega (arith, is)
not_made (suc k, below, is) = omega (arith, below)

pub sound : IsSoundSomewhere row_sums
unfolding places
sound = (
  places,
  later,
  record {
    shaped = record { some_rows = lit≤ tt; some_cols = lit≤ tt; within = lit≤ tt };
    result = record { known = lit< tt; elem_is = refl; as_many = refl };
    leaves = All-cons (IsSoundLeaf places later (extent 2 9)) _ [] (record {
      known = lit< tt;
      ready = not_made;
      elem_is = refl;
      as_many = refl;
      shaped = record { some_rows = lit≤ tt; some_cols = lit≤ tt; within = lit≤ tt };
      fits = tt;
      gives = refl;
      fill = IsElement-one_or_zero U16 false;
    }) (All-nil _);
    numbered = (lit≤ tt, refl);
    distinct = λ i j d before below. absurd (omega arith);
    normal = record { selects = tt; root = refl; no_select = refl };
    typed = (refl, (lit< tt, refl));
    few_nodes = lit≤ tt;
  },
)
