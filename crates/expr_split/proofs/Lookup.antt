-- The number that a hash table of leaves gives a leaf.
use Rattle.std.proofs.Common.{◌≡◌, ℕ, Bool, true, false, true≢false, rules, refl, sym, ap, ◌∙◌, subst, arith, List, [], ◌∷◌, ◌++◌, length, get_or, inl, inr, if◌then◌else◌}
use Rattle.std.specs.List.{position_or_len, list_any}
use Rattle.std.proofs.lemmas.Bool.{and_parts, cases_lt}
use Rattle.std.proofs.lemmas.List.Folds.{list_any_at, list_any_none}
use Rattle.std.proofs.lemmas.List.Sums.{prefix_len-le-length, fails_before_first, passes_at_first}
use borrow.Author.Tests.{eqb-true}
use denote.Enum.Bare.{same_true}
use Rattle.indexmap.specs.IndexSet.{insert_key}
use Rattle.ven_base.specs.declared.mapping.Mapping.{Mapping}
use Rattle.ven_base.specs.declared.mapping.Mapping.TheVariants.{Identity, Shift, Rotate, Section, Stretch, Transpose}
use Rattle.ven_base.specs.contracts.mapping.MappingPartialEq.TheImpl as maps
use Rattle.ven_base.specs.contracts.elem.Elem as elems
use Rattle.pass_plan.specs.declared.leaf.Leaf.{Leaf}
use Rattle.pass_plan.specs.contracts.leaf.LeafPartialEq.TheImpl as leaves
use Rattle.pass_plan.specs.contracts.leaf.LeafEq.TheImpl.Laws as laws
use Rattle.pass_plan.specs.Pass.{no_leaf}
use Rattle.pass_plan.specs.Tree.{AtLeaf}
use Rattle.expr_split.specs.Numbers.{NumbersOnto}
use Rattle.expr_split.proofs.Numbering.{IsFirstPlace, onto_there, onto_new}

map_same : (a b : Mapping) → maps.eq-value.it a b ≡ true → a ≡ b
map_same Identity Identity h = refl
map_same (Shift dr dc fill) (Shift other_dr other_dc other_fill) h = search rules
map_same (Rotate dr dc) (Rotate other_dr other_dc) h = search rules
map_same (Section r0 nr sr c0 nc sc) (Section other_r0 other_nr other_sr other_c0 other_nc other_sc) h = search rules
map_same (Stretch kr kc) (Stretch other_kr other_kc) h = search rules
map_same Transpose Transpose h = refl
map_same a b h = absurd (true≢false (sym h))

-- leaves that the table takes for one are one
equals_same : (a b : Leaf) → leaves.eq-value.it a b ≡ true → a ≡ b
equals_same a b h =
    let p = and_parts _ _ h in
    let q = and_parts _ _ p.1 in
    let r = and_parts _ _ q.1 in
    let s = and_parts _ _ r.0 in
    let array : a.array ≡ b.array = eqb-true _ _ p.0 in
    let elem : a.elem ≡ b.elem = same_true elems.the_type tt _ _ q.0 in
    let rows : a.shape.rows ≡ b.shape.rows = eqb-true _ _ s.0 in
    let cols : a.shape.cols ≡ b.shape.cols = eqb-true _ _ s.1 in
    let mapping : a.map ≡ b.map = map_same a.map b.map r.1 in
    λ k. record { array = array k; elem = elem k; shape = record { rows = rows k; cols = cols k }; map = mapping k }

same_equals : (a : Leaf) → leaves.eq-value.it a a ≡ true
same_equals a = laws.laws-law.refl a

-- by any test that finds a leaf and nothing else
module _ (eq : Leaf → Leaf → Bool) (same : (a b : Leaf) → eq a b ≡ true → a ≡ b) (self : (a : Leaf) → eq a a ≡ true) (leaf : Leaf) (before : List Leaf) where
  first : IsFirstPlace leaf before (position_or_len (eq leaf) before)
  first = record {
    within = prefix_len-le-length _ before;
    before = λ k below is. true≢false (sym (self leaf) ∙ ap (eq leaf) (sym is) ∙ fails_before_first (eq leaf) before k no_leaf below);
    here = λ low. sym (same leaf (get_or before (position_or_len (eq leaf) before) no_leaf) (passes_at_first (eq leaf) before no_leaf low));
  }

  inserted : (after : List Leaf) → after ≡ insert_key eq before leaf → NumbersOnto (AtLeaf leaf) before after (AtLeaf (position_or_len (eq leaf) before))
  inserted after keys =
      let p = position_or_len (eq leaf) before in
      let with_test = λ (b : Bool). let ls : List Leaf = if b then before else (before ++ leaf ∷ []) in ls in
      elim (cases_lt p (length before)) [
        | inl low ↦
            let there : list_any (eq leaf) before ≡ true = list_any_at (eq leaf) before p no_leaf low (passes_at_first (eq leaf) before no_leaf low) in
            let same : after ≡ before = keys ∙ ap with_test there in
            subst (λ (ls : List Leaf). NumbersOnto (AtLeaf leaf) before ls (AtLeaf p)) (sym same) (onto_there leaf before p first (λ e. absurd (omega arith)))
        | inr past ↦
            let end : p ≡ length before = omega (arith, first.within) in
            let none : list_any (eq leaf) before ≡ false = list_any_none (eq leaf) before (λ k d below. fails_before_first (eq leaf) before k d (omega arith)) in
            onto_new leaf before after p first end (keys ∙ ap with_test none)
      ]

pub number-inserted : (leaf : Leaf) (before after : List Leaf) (k : ℕ) → k ≡ position_or_len (leaves.eq-value.it leaf) before → after ≡ insert_key leaves.eq-value.it before leaf → NumbersOnto (AtLeaf leaf) before after (AtLeaf k)
number-inserted leaf before after k at keys =
    subst (λ (n : ℕ). NumbersOnto (AtLeaf leaf) before after (AtLeaf n)) (sym at) (inserted leaves.eq-value.it equals_same same_equals leaf before after keys)
