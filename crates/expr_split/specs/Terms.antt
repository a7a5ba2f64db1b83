-- Inner: the trees and drafts of the code as plain values.
use Rattle.std.specs.Prelude.{◌≡◌, ◌+◌, ◌*◌, ◌≤◌, List, [], ◌∷◌, ◌++◌, length, map}
use Rattle.ven_base.specs.declared.elem.Elem.{Elem}
use Rattle.ven_base.specs.Extent.{Extent}
use Rattle.shape_check.specs.Node.{Node}
use Rattle.shape_check.specs.Checked.{nodes_of}
use Rattle.pass_plan.specs.declared.leaf.Leaf as leaves
use Rattle.pass_plan.specs.Tree as tree
use Rattle.pass_plan.specs.Tree.{TreeOver, AtLeaf}
use Rattle.pass_plan.specs.Normal.{normalised}
use Rattle.expr_split.specs.declared.term.Term.{Term, Leaf, Literal, One', Two', Cast', Move', Select'}
use Rattle.expr_split.specs.declared.drafts.Draft.{Draft}
use Rattle.expr_split.specs.declared.drafts.Own.{Own}
use Rattle.expr_split.specs.declared.drafts.Plan.{Plan}
use Rattle.expr_split.specs.Cuts as cuts
use Rattle.expr_split.specs.Cuts.{whole_leaf, Place, as_row, own_of, seen_of, draft_of}

abbrev pub term_of : Term → TreeOver leaves.Leaf
term_of (Leaf leaf) = AtLeaf leaf
term_of (Literal value) = tree.Literal value
term_of (One' op elem p a) = tree.One op elem (term_of a)
term_of (Two' op elem p a q b) = tree.Two op elem (term_of a) (term_of b)
term_of (Cast' elem from p a) = tree.Cast elem from (term_of a)
term_of (Move' elem p a) = tree.Move elem (term_of a)
term_of (Select' elem p c q x r y) = tree.Select elem (term_of c) (term_of x) (term_of y)

abbrev pub plain_draft : Draft → cuts.Draft
plain_draft d = record { kind = d.kind; domain = d.domain; elem = d.elem; tree = term_of d.tree }

abbrev pub drafts_of : Plan → List cuts.Draft
drafts_of plan = map plain_draft plan.drafts.items

-- the node's own pass; those of the cuts below it were added, at most two for each of its other nodes
pub record IsOwn (own : Own) (before after : Plan) (e : Node) (is : cuts.Own) : Type 0 where
  pub kind : own.kind ≡ is.kind
  pub domain : own.domain ≡ is.domain
  pub elem : own.elem ≡ is.elem
  pub term : term_of own.term ≡ is.tree
  pub passes : drafts_of after ≡ drafts_of before ++ is.passes
  pub counted : after.next ≡ before.next + length is.passes
  pub few : after.next + 1 ≤ before.next + 2 * nodes_of e

-- the tree that stands for a node; its passes were added, at most two for each node
pub record IsSeen (term : Term) (before after : Plan) (e : Node) (is : cuts.Seen) : Type 0 where
  pub term_is : term_of term ≡ is.tree
  pub passes : drafts_of after ≡ drafts_of before ++ is.passes
  pub counted : after.next ≡ before.next + length is.passes
  pub few : after.next ≤ before.next + 2 * nodes_of e

-- a node's own pass
abbrev pub cut_draft : Own → cuts.Draft
cut_draft own = record {
  kind = own.kind;
  domain = own.domain;
  elem = own.elem;
  tree = normalised own.elem (term_of own.term);
}

-- a leaf of the array that comes next; its pass was added
pub record IsCutOf (term : Term) (elem : Elem) (shape : Extent) (own : Own) (before after : Plan) : Type 0 where
  pub term_is : term_of term ≡ AtLeaf (whole_leaf before.next elem shape)
  pub passes : drafts_of after ≡ drafts_of before ++ cut_draft own ∷ []
  pub counted : after.next ≡ before.next + 1

-- the pass of these rows went last; the root of the pass that reduces what it makes, as one row
pub record IsColumnOf (own rows : Own) (before after : Plan) : Type 0 where
  pub kind : own.kind ≡ rows.kind
  pub domain : own.domain ≡ as_row rows.domain
  pub elem : own.elem ≡ rows.elem
  pub cut : IsCutOf own.term rows.elem (as_row rows.domain) rows before after
