-- Inner: passes for tests.
use Rattle.std.specs.Prelude.{[], ◌∷◌}
use Rattle.ven_base.specs.declared.elem.Elem.TheVariants.{U8}
use Rattle.ven_base.specs.declared.ops.Op2.TheVariants as op2
use Rattle.ven_base.specs.Extent.{Extent}
use Rattle.pass_plan.specs.declared.pass.PassKind.TheVariants.{Map}
use Rattle.pass_plan.specs.Tree.{AtLeaf, Two}
use Rattle.pass_plan.specs.Pass.{Pass}
use Rattle.vector_codegen.specs.Examples.{pass_with, leaf_at}

-- the sum of two arrays of bytes
abbrev pub addition : Extent → Pass
addition shape =
    pass_with Map U8 shape (leaf_at U8 shape 0 ∷ leaf_at U8 shape 1 ∷ []) (Two op2.Add U8 (AtLeaf 0) (AtLeaf 1))
