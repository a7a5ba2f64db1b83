-- Inner: the cuts that names ask for, by tallies, and the loop over a program's statements.
use Rattle.std.specs.Prelude.{◌≡◌, ℕ, ◌+◌, ◌*◌, ◌≤◌, List, [], ◌++◌, map, length, get_or, drop, Bool, ◌||◌, nat_lt}
use Rattle.std.specs.List.{sum_by}
use Rattle.shape_check.specs.Node.{Node}
use Rattle.shape_check.specs.Statement.{Statement, Input, Let, Output, in_value}
use Rattle.shape_check.specs.Occurrences.{all_names, all_mapped}
use Rattle.shape_check.specs.Checked.{nodes_of}
use Rattle.pass_plan.specs.declared.leaf.Leaf.{Leaf}
use Rattle.pass_plan.specs.Tree.{TreeOver, AtLeaf, height_of}
use Rattle.expr_split.specs.declared.term.Term.{Term}
use Rattle.expr_split.specs.declared.drafts.Plan.{Plan}
use Rattle.expr_split.specs.declared.plan.Asks.{Asks}
use Rattle.expr_split.specs.Cuts.{AtOutput, AtLet, Seen, height_limit, whole_leaf, own_of, seen_of, plan_from}
use Rattle.expr_split.specs.Places.{plan_of}
use Rattle.expr_split.specs.Tally.{IsTally}
use Rattle.expr_split.specs.Terms.{term_of, drafts_of}

pub record AreAsks (program : List Statement) (asks : Asks) : Type 0 where
  pub uses : IsTally asks.uses.items (all_names program) (length program)
  pub mapped : IsTally asks.mapped.items (all_mapped program) (length program)

-- whether a let asks for its cut, by the tallies
abbrev pub asked_by : Asks → ℕ → TreeOver Leaf → Bool
asked_by asks k t =
    nat_lt 1 (get_or asks.uses.items k 0)
    || (nat_lt 0 (get_or asks.mapped.items k 0) || nat_lt height_limit (height_of t))

-- a let's tree and passes, by the tallies
abbrev pub let_asked : Asks → ℕ → List (TreeOver Leaf) → ℕ → Node → Seen
let_asked asks k names base e = seen_of (AtLet (asked_by asks k (own_of names base e).tree)) names base e

abbrev pub statement_asked : Asks → ℕ → List (TreeOver Leaf) → ℕ → Statement → Seen
statement_asked asks taken names base (Input name elem shape) =
    record { passes = []; tree = AtLeaf (whole_leaf taken elem shape) }
statement_asked asks taken names base (Let name value) = let_asked asks (length names) names base value
statement_asked asks taken names base (Output name value) = seen_of AtOutput names base value

abbrev pub stmt_nodes : Statement → ℕ
stmt_nodes s = in_value 0 nodes_of s

-- a statement's tree went last, and its passes
pub record IsStatement (before after : Plan) (s : Statement) (term : Term) (is : Seen) : Type 0 where
  pub term_is : term_of term ≡ is.tree
  pub passes : drafts_of after ≡ drafts_of before ++ is.passes
  pub counted : after.next ≡ before.next + length is.passes
  pub few : after.next ≤ before.next + 2 * stmt_nodes s

-- the passes and trees of the first statements
pub record IsPlanning (program : List Statement) (i taken : ℕ) (names : List Term) (plan : Plan) : Type 0 where
  pub passes :
      (plan_of program).passes
      ≡ drafts_of plan ++ (plan_from program taken (map term_of names) plan.next (drop i program)).passes
  pub trees : (plan_of program).names ≡ (plan_from program taken (map term_of names) plan.next (drop i program)).names
  pub few : plan.next + 2 * sum_by stmt_nodes (drop i program) ≤ 10000
  pub counted : length names ≡ i
  pub taken_few : taken ≤ i

-- those of all statements
pub record IsPlanOf (program : List Statement) (names : List Term) (plan : Plan) : Type 0 where
  pub passes : drafts_of plan ≡ (plan_of program).passes
  pub trees : map term_of names ≡ (plan_of program).names
