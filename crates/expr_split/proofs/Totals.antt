-- The limits that the split of every checked program keeps.
use Rattle.std.proofs.Common.{◌≡◌, ℕ, ◌+◌, ◌*◌, ◌≤◌, List, [], ◌∷◌, ◌++◌, length, get_or, refl, sym, ap, ◌∙◌, arith, length-append, Bool, true, false, cond, All}
use Rattle.std.specs.Prelude.{map}
use Rattle.std.specs.List.{sum_by}
use Rattle.std.proofs.lemmas.Grind.{div_ceil_times}
use Rattle.std.proofs.Math.Nat.{mul-le-mul_left}
use Rattle.std.proofs.lemmas.List.{length-map}
use Rattle.std.proofs.lemmas.List.Sums.{sum_by-append, sum_by-cons}
use Rattle.std.proofs.lemmas.Option.{get_or_from_slice_get}
use Rattle.ven_base.specs.Limits.{memory_limit}
use Rattle.ven_base.specs.declared.elem.Elem.TheVariants.{U8}
use Rattle.ven_base.specs.Elem.{size_of}
use Rattle.ven_base.specs.Extent.{Extent, IsExtent, elements_of}
use Rattle.shape_check.specs.declared.typed.ArrayType.{ArrayType}
use Rattle.shape_check.specs.Node.{Node, Name, Literal, One, Two, Cast, Select, Map, RowFold, Fold, shape_of, is_literal}
use Rattle.shape_check.specs.Statement.{Statement, Input, Let, Output, in_value}
use Rattle.shape_check.specs.Rules.{IsTyped, IsTypedStatement, AreTyped, declared_type}
use Rattle.shape_check.specs.Occurrences.{all_names}
use Rattle.shape_check.specs.Checked.{node_work, statement_work, work_of, IsCheckedProgram}
use Rattle.pass_plan.specs.declared.leaf.Leaf.{Leaf}
use Rattle.pass_plan.specs.Tree as tree
use Rattle.pass_plan.specs.Tree.{TreeOver, AtLeaf, with_leaves}
use Rattle.pass_plan.specs.Pass.{Pass, no_leaf}
use Rattle.pass_plan.specs.Need.{pass_work}
use Rattle.pass_plan.proofs.Sums.{size_few}
use Rattle.expr_split.specs.Cuts.{Draft, as_row}
use Rattle.expr_split.specs.Places.{input_type, input_types, plan_of, draft_type, array_types, round_up, bytes_of, end_from, IsPassOf, ArePassesOf}
use Rattle.expr_split.proofs.Counts.{Small}
use Rattle.expr_split.proofs.Elements.{made, draft_elements, rows-within}
use Rattle.expr_split.proofs.Weights.{full, draft_weight, drafts_weight}
use Rattle.expr_split.proofs.Nodes.{total, plan-grows}
use Rattle.expr_split.proofs.Programs.{no_trees, stmt_nodes, value_work, plan-passes, plan-made, plan-small, plan-weighs, no_extras}

-- ---- the area of all nodes is at most three times the work

abbrev areas : Node → ℕ
areas e = full elements_of e

-- a literal's area, which is no work
abbrev lone : Node → ℕ
lone e = cond (is_literal e) (elements_of (shape_of e)) 0

lone-most : (e : Node) → lone e ≤ elements_of (shape_of e)
lone-most e = go (is_literal e)
  where
    go : (b : Bool) → cond b (elements_of (shape_of e)) 0 ≤ elements_of (shape_of e)
    go true = omega arith
    go false = omega arith

lone-none : (e : Node) → is_literal e ≡ false → lone e ≡ 0
lone-none e h = ap (λ b. cond b (elements_of (shape_of e)) 0) h

areas-few : (types : List ArrayType) (e : Node) → IsTyped types e → areas e ≤ 3 * node_work e + lone e
areas-few types (Name elem shape k) typed = omega arith
areas-few types (Literal elem shape value) typed = omega arith
areas-few types (One elem shape op a) typed = omega (arith, areas-few types a typed.0, lone-most a, ap elements_of typed.1.shape_is)
areas-few types (Two elem shape op a b) typed =
    omega (arith, areas-few types a typed.0, areas-few types b typed.1, lone-most a, lone-most b, ap elements_of typed.2.left.shape_is, ap elements_of typed.2.right.shape_is)
areas-few types (Cast elem shape a) typed = omega (arith, areas-few types a typed.0, lone-most a, ap elements_of typed.1.shape_is)
areas-few types (Select elem shape c x y) typed =
    omega (
      arith,
      areas-few types c typed.0,
      areas-few types x typed.1,
      areas-few types y typed.2,
      lone-none c typed.3.no_literal,
      lone-most x,
      lone-most y,
      ap elements_of typed.3.chosen.shape_is,
      ap elements_of typed.3.other.shape_is,
    )
areas-few types (Map elem shape mapping a) typed = omega (arith, areas-few types a typed.0, lone-none a typed.1.no_literal)
areas-few types (RowFold elem shape fold a) typed = omega (arith, areas-few types a typed.0, lone-none a typed.1.no_literal)
areas-few types (Fold elem shape fold a) typed = omega (arith, areas-few types a typed.0, lone-none a typed.1.no_literal)

statement-areas : (types : List ArrayType) (s : Statement) → IsTypedStatement types s → in_value 0 areas s ≤ 3 * value_work s
statement-areas types (Input name elem shape) typed = omega arith
statement-areas types (Let name value) typed = omega (arith, areas-few types value typed.0, lone-none value typed.1.no_literal)
statement-areas types (Output name value) typed = omega (arith, areas-few types value typed.0, lone-none value typed.1.no_literal)

program-areas : (types : List ArrayType) (stmts : List Statement) → AreTyped types stmts → sum_by (in_value 0 areas) stmts ≤ 3 * sum_by value_work stmts
program-areas types [] typed = omega arith
program-areas types (s ∷ more) typed =
    omega (arith, statement-areas types s typed.0, program-areas (types ++ declared_type s ∷ []) more typed.1, sum_by-cons (in_value 0 areas) s more, sum_by-cons value_work s more)

-- ---- work and inputs

abbrev type_elements : ArrayType → ℕ
type_elements t = elements_of t.shape

inputs-work : (stmts : List Statement) → 2 * sum_by type_elements (input_types stmts) + 3 * sum_by value_work stmts ≤ 3 * work_of stmts
inputs-work [] = omega arith
inputs-work (s ∷ more) =
    omega (arith, inputs-work more, one s, sum_by-append type_elements (input_type s) (input_types more), sum_by-cons value_work s more, sum_by-cons statement_work s more)
  where
    one : (s : Statement) → 2 * sum_by type_elements (input_type s) + 3 * value_work s ≤ 3 * statement_work s
    one (Input name elem shape) = omega (arith, sum_by-cons type_elements (record { elem = elem; shape = shape }) [])
    one (Let name value) = omega arith
    one (Output name value) = omega arith

value-work : (stmts : List Statement) → sum_by value_work stmts ≤ work_of stmts
value-work stmts = omega (arith, inputs-work stmts)

inputs-few : (stmts : List Statement) → length (input_types stmts) ≤ length stmts
inputs-few [] = omega arith
inputs-few (s ∷ more) = omega (arith, inputs-few more, one s, length-append (input_type s) (input_types more))
  where
    one : (s : Statement) → length (input_type s) ≤ 1
    one (Input name elem shape) = omega arith
    one (Let name value) = omega arith
    one (Output name value) = omega arith

-- ---- the end of the arrays

round-few : (n : ℕ) → round_up n ≤ n + 3
round-few n = let times = div_ceil_times n 4 (omega arith) in omega arith

bytes-few : (t : ArrayType) → bytes_of t ≤ 4 * type_elements t
bytes-few t = let small = size_few t.elem in let prod : type_elements t * size_of t.elem ≤ type_elements t * 4 = mul-le-mul_left (type_elements t) small in omega arith

end-few : (start : ℕ) (types : List ArrayType) → end_from start types ≤ start + 4 * sum_by type_elements types + 3 * length types
end-few start [] = omega arith
end-few start (t ∷ types) = omega (arith, end-few (round_up start + bytes_of t) types, round-few start, bytes-few t, sum_by-cons type_elements t types)

drafts-elements : (ds : List Draft) → sum_by type_elements (map draft_type ds) ≡ made ds
drafts-elements [] = refl
drafts-elements (d ∷ ds) = omega (arith, drafts-elements ds, sum_by-cons type_elements (draft_type d) (map draft_type ds), sum_by-cons draft_elements d ds)

module _ (program : List Statement) (checked : IsCheckedProgram program) where
  abbrev base : ℕ
  base = length (input_types program)

  pub few-passes : length (plan_of program).passes ≤ 8192
  few-passes = omega (arith, plan-passes program 0 [] base program, checked.limits.nodes)

  pub few-inputs : base ≤ 256
  few-inputs = omega (arith, inputs-few program, checked.limits.statements)

  pub few-arrays : length (array_types program) ≤ 8448
  few-arrays = omega (arith, few-passes, few-inputs, length-append (input_types program) (map draft_type (plan_of program).passes), length-map (plan_of program).passes draft_type)

  pub memory-few : end_from 0 (array_types program) ≤ memory_limit
  memory-few =
      let ds = (plan_of program).passes in
      omega (
        arith,
        end-few 0 (array_types program),
        few-arrays,
        sum_by-append type_elements (input_types program) (map draft_type ds),
        drafts-elements ds,
        plan-made program [] [] 0 [] base program (no_trees program) checked.typed,
        inputs-work program,
        checked.limits.nodes,
        checked.work,
      )

  pub small-trees : All (Small 4096) (plan_of program).passes
  small-trees = plan-small program [] program 0 [] base 4096 refl (omega (arith, checked.limits.nodes, no_extras (λ k. 1) (all_names program)))

  -- ---- by weight

  abbrev no_statement : Statement
  no_statement = Input [] U8 (record { rows = 1; cols = 1 })

  abbrev weight_by : (Extent → ℕ) → ℕ → ℕ
  weight_by w k = w (declared_type (get_or program k no_statement)).shape

  weighs : (w : Extent → ℕ) → ((s : Extent) → IsExtent s → w (as_row s) ≤ w s) → drafts_weight w (plan_of program).passes ≤ 30 * sum_by (in_value 0 (full w)) program
  weighs w rows =
      omega (
        arith,
        plan-weighs w (weight_by w) rows program [] program [] 0 [] base refl (no_trees program) checked.typed (λ k s found. ap (λ (t : Statement). w (declared_type t).shape) (get_or_from_slice_get program k s no_statement found)) (λ k type found. absurd cc),
        no_extras (weight_by w) (all_names program),
      )

  pub areas-weigh : drafts_weight elements_of (plan_of program).passes ≤ 1509949440
  areas-weigh = omega (arith, weighs elements_of (λ s h. omega (arith, rows-within s h)), program-areas [] program checked.typed, value-work program, checked.work)

  pub nodes-grow : total (plan_of program).passes ≤ 4 * sum_by stmt_nodes program
  nodes-grow = omega (arith, plan-grows program [] program [] 0 [] base refl (no_trees program) checked.typed, no_extras (λ k. 1) (all_names program))

-- ---- the same of passes whose leaves have numbers

pub numbered-count : {L M : Type 0} (t : TreeOver L) (f : L → M) → tree.nodes_of (with_leaves t f) ≡ tree.nodes_of t
numbered-count (AtLeaf l) f = refl
numbered-count (tree.Literal n) f = refl
numbered-count (tree.One op elem a) f = omega (arith, numbered-count a f)
numbered-count (tree.Two op elem a b) f = omega (arith, numbered-count a f, numbered-count b f)
numbered-count (tree.Cast elem from a) f = omega (arith, numbered-count a f)
numbered-count (tree.Move elem a) f = omega (arith, numbered-count a f)
numbered-count (tree.Select elem c x y) f = omega (arith, numbered-count c f, numbered-count x f, numbered-count y f)

pub pass-count : (dest : ℕ) (d : Draft) (pass : Pass) → IsPassOf dest d pass → tree.nodes_of pass.tree ≡ tree.nodes_of d.tree
pass-count dest d pass is = sym (numbered-count pass.tree (λ k. get_or pass.leaves k no_leaf)) ∙ ap (λ (t : TreeOver Leaf). tree.nodes_of t) is.numbered.is

pub works-are : (dest : ℕ) (ds : List Draft) (passes : List Pass) → ArePassesOf dest ds passes → sum_by pass_work passes ≡ drafts_weight elements_of ds
works-are dest [] [] h = refl
works-are dest [] (pass ∷ passes) h = absurd h
works-are dest (d ∷ ds) [] h = absurd h
works-are dest (d ∷ ds) (pass ∷ passes) h =
    let one : pass_work pass ≡ draft_weight elements_of d = (λ k. elements_of (h.0.domain_is k) * (pass-count dest d pass h.0 k + 8)) in
    omega (arith, one, works-are (dest + 1) ds passes h.1, sum_by-cons pass_work pass passes, sum_by-cons (draft_weight elements_of) d ds)

pub counts-are : (dest : ℕ) (ds : List Draft) (passes : List Pass) → ArePassesOf dest ds passes → sum_by (λ (pass : Pass). tree.nodes_of pass.tree) passes ≡ total ds
counts-are dest [] [] h = refl
counts-are dest [] (pass ∷ passes) h = absurd h
counts-are dest (d ∷ ds) [] h = absurd h
counts-are dest (d ∷ ds) (pass ∷ passes) h =
    omega (arith, pass-count dest d pass h.0, counts-are (dest + 1) ds passes h.1, sum_by-cons (λ (pass : Pass). tree.nodes_of pass.tree) pass passes, sum_by-cons (λ (d : Draft). tree.nodes_of d.tree) d ds)
