-- Sums and greatest numbers of lists of passes, step by step.
use Rattle.std.proofs.Common.{◌≡◌, ℕ, ◌+◌, ◌^◌, ◌<◌, ◌≤◌, max, sym, subst, ap, ◌∙◌, arith, List, [], ◌∷◌, length, get_or, take, All}
use Rattle.std.specs.Prelude.{map, fold, sum_by}
use Rattle.std.proofs.lemmas.Nat.{mul-le}
use Rattle.std.proofs.lemmas.List.{take-map, get_or-map, length-map}
use Rattle.std.proofs.lemmas.List.Sums.{fold_more, sum_by_more}
use Rattle.std.proofs.lemmas.List.Elements.{All-cons}
use Rattle.ven_base.specs.declared.elem.Elem.{Elem}
use Rattle.ven_base.specs.declared.elem.Elem.TheVariants.{U8, I8, U16, I16, U32, I32}
use Rattle.ven_base.specs.Elem.{size_of}
use Rattle.pass_plan.specs.declared.leaf.Leaf.{Leaf}
use Rattle.pass_plan.specs.Tree.{TreeOver, AtLeaf, Literal, One, Two, Cast, Move, Select, widest_of}
use Rattle.pass_plan.specs.declared.pass.Pass.{Pass}
use Rattle.pass_plan.specs.declared.pass.PassKind.{PassKind}
use Rattle.pass_plan.specs.declared.pass.PassKind.TheVariants.{Map, Reduce}
use Rattle.pass_plan.specs.Pass as plain
use Rattle.pass_plan.specs.Pass.{pass_limit}
use Rattle.pass_plan.specs.Need.{greatest, result_buffers, buffers_of, widest_in, pass_need, need_of, pass_work, IsSmall, AreSmall}
use Rattle.pass_plan.specs.Shown.{pass_of, passes_of}
use Rattle.pass_plan.proofs.Labels.{label_few}

-- the greatest so far and one more
pub greatest_more : {X : Type 0} (f : X → ℕ) (xs : List X) (i : ℕ) (d : X) → i < length xs → greatest (map f (take (i + 1) xs)) ≡ max (greatest (map f (take i xs))) (f (get_or xs i d))
greatest_more f xs i d h =
    let inside : i < length (map f xs) = subst (λ n. i < n) (sym (length-map xs f)) h in
    ap greatest (sym (take-map f (i + 1) xs)) ∙ fold_more max 0 (map f xs) i 0 inside
    ∙ ap (λ n. max (fold max 0 (take i (map f xs))) n) (get_or-map f xs i d 0 h) ∙ ap (λ ns. max (greatest ns) (f (get_or xs i d))) (take-map f i xs)

-- a fold of max is at least where it begins
from_start : (ns : List ℕ) (n : ℕ) → n ≤ fold max n ns
from_start [] n = omega arith
from_start (m ∷ ns) n = omega (arith, from_start ns (max n m))

more_from : (ns : List ℕ) (n m : ℕ) → n ≤ m → fold max n ns ≤ fold max m ns
more_from [] n m h = h
more_from (k ∷ ns) n m h = more_from ns (max n k) (max m k) (omega arith)

-- each number is at most the greatest
pub each_below : {X : Type 0} (f : X → ℕ) (xs : List X) → All (λ x. f x ≤ greatest (map f xs)) xs
each_below f [] = λ k d h. absurd (omega arith)
each_below {X} f (x ∷ xs) =
    let head : f x ≤ fold max (max 0 (f x)) (map f xs) = omega (arith, from_start (map f xs) (max 0 (f x))) in
    let less = more_from (map f xs) 0 (max 0 (f x)) (omega arith) in
    All-cons (λ (y : X). f y ≤ fold max (max 0 (f x)) (map f xs)) x xs head (λ k d h. let here = each_below f xs k d h in omega arith)

-- ---- sizes

pub size_few : (elem : Elem) → size_of elem ≤ 4
size_few U8 = omega arith
size_few I8 = omega arith
size_few U16 = omega arith
size_few I16 = omega arith
size_few U32 = omega arith
size_few I32 = omega arith

widest_of-few : {L : Type 0} (t : TreeOver L) → widest_of t ≤ 4
widest_of-few (AtLeaf l) = omega arith
widest_of-few (Literal n) = omega arith
widest_of-few (One op elem a) = omega (arith, size_few elem, widest_of-few a)
widest_of-few (Two op elem a b) = omega (arith, size_few elem, widest_of-few a, widest_of-few b)
widest_of-few (Cast elem from a) = omega (arith, size_few elem, widest_of-few a)
widest_of-few (Move elem a) = omega (arith, size_few elem, widest_of-few a)
widest_of-few (Select elem c x y) = omega (arith, size_few elem, widest_of-few c, widest_of-few x, widest_of-few y)

sizes_few : (leaves : List Leaf) (n : ℕ) → n ≤ 4 → fold max n (map (λ (leaf : Leaf). size_of leaf.elem) leaves) ≤ 4
sizes_few [] n h = h
sizes_few (leaf ∷ leaves) n h = sizes_few leaves (max n (size_of leaf.elem)) (omega (arith, size_few leaf.elem))

pub widest_few : (pass : plain.Pass) → widest_in pass ≤ 4
widest_few pass = omega (arith, size_few pass.elem, sizes_few pass.leaves 0 (omega arith), widest_of-few pass.tree)

-- a pass's greatest element has a byte at least, so its need is at least the number of its buffers
size_some : (elem : Elem) → 1 ≤ size_of elem
size_some U8 = omega arith
size_some I8 = omega arith
size_some U16 = omega arith
size_some I16 = omega arith
size_some U32 = omega arith
size_some I32 = omega arith

pub buffers_few : (pass : plain.Pass) → buffers_of pass ≤ pass_need pass
buffers_few pass =
    let some : 1 ≤ widest_in pass = omega (arith, size_some pass.elem) in
    let more = mul-le (buffers_of pass) 1 (buffers_of pass) (widest_in pass) (omega arith) some in
    omega (arith, more)

pub result_buffers_few : (kind : PassKind) → result_buffers kind ≤ 3
result_buffers_few Map = omega arith
result_buffers_few (Reduce fold) = omega arith

pub need_few : (pass : plain.Pass) → IsSmall pass → pass_need pass < 2 ^ 64
need_few pass small =
    let buffers : buffers_of pass ≤ 30000 = omega (arith, small.few_leaves, small.few_nodes, label_few pass.tree, result_buffers_few pass.kind) in
    let all = mul-le (buffers_of pass) (widest_in pass) 30000 4 buffers (widest_few pass) in
    omega (arith, all)

-- ---- lists of passes

-- the image of the item at a place
item_map : {X Y : Type 0} (f : X → Y) (xs : List X) (i : ℕ) (x : X) → i < length xs → x ≡ get_or xs i x → get_or (map f xs) i (f x) ≡ f x
item_map f xs i x h is = get_or-map f xs i x (f x) h ∙ ap f (sym is)

within_map : {X Y : Type 0} (f : X → Y) (xs : List X) (i : ℕ) → i < length xs → i < length (map f xs)
within_map f xs i h = subst (λ n. i < n) (sym (length-map xs f)) h

pub small_at : (ps : List Pass) (i : ℕ) (p : Pass) → AreSmall (passes_of ps) → i < length ps → p ≡ get_or ps i p → IsSmall (pass_of p)
small_at ps i p small h is = subst IsSmall (item_map pass_of ps i p h is) (small.each i (pass_of p) (within_map pass_of ps i h))

pub few_passes : (ps : List Pass) → AreSmall (passes_of ps) → length ps ≤ pass_limit
few_passes ps small = subst (λ n. n ≤ pass_limit) (length-map ps pass_of) small.few

pub work_more : (ps : List Pass) (i : ℕ) (p : Pass) (sum work : ℕ) → i < length ps → p ≡ get_or ps i p → sum ≡ sum_by pass_work (take i (passes_of ps)) → work ≡ pass_work (pass_of p)
    → sum + work ≡ sum_by pass_work (take (i + 1) (passes_of ps))
work_more ps i p sum work h is before here =
    ap (λ n. n + work) before ∙ ap (λ n. sum_by pass_work (take i (passes_of ps)) + n) (here ∙ ap pass_work (sym (item_map pass_of ps i p h is)))
    ∙ sym (sum_by_more pass_work (passes_of ps) i (pass_of p) (within_map pass_of ps i h))

pub need_more : (ps : List Pass) (i : ℕ) (p : Pass) (need one : ℕ) → i < length ps → p ≡ get_or ps i p → need ≡ need_of (take i (passes_of ps)) → one ≡ pass_need (pass_of p)
    → max need one ≡ need_of (take (i + 1) (passes_of ps))
need_more ps i p need one h is before here =
    ap (λ n. max n one) before ∙ ap (λ n. max (need_of (take i (passes_of ps))) n) (here ∙ ap pass_need (sym (item_map pass_of ps i p h is)))
    ∙ sym (greatest_more pass_need (passes_of ps) i (pass_of p) (within_map pass_of ps i h))
