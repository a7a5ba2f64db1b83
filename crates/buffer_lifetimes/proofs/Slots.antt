-- Slots written and read.
use Rattle.std.proofs.Common.{◌≡◌, ◌≢◌, ℕ, ap}
use Rattle.std.specs.Prelude.{Option, Some, None, ◌==◌, if◌then◌else◌}
use Rattle.std.proofs.lemmas.Bool.{eq-eqb, ne_eqb}
use Rattle.buffer_lifetimes.specs.Step.{Tree}
use Rattle.buffer_lifetimes.specs.Order.{State, put}

pub if_same : {A : Type 0} (k s : ℕ) (x y : A) → k ≡ s → (if k == s then x else y) ≡ x
if_same k s x y h = ap (λ b. if b then x else y) (eq-eqb k s h)

pub if_other : {A : Type 0} (k s : ℕ) (x y : A) → k ≢ s → (if k == s then x else y) ≡ y
if_other k s x y h = ap (λ b. if b then x else y) (ne_eqb k s h)

pub put_same : (state : State) (s : ℕ) (contents : Option Tree) (k : ℕ) → k ≡ s → put state s contents k ≡ contents
put_same state s contents k h = if_same k s contents (state k) h

pub put_other : (state : State) (s : ℕ) (contents : Option Tree) (k : ℕ) → k ≢ s → put state s contents k ≡ state k
put_other state s contents k h = if_other k s contents (state k) h

pub none_some : (t : Tree) → None ≡ Some t → ⊥
none_some t e = cc

pub some_same : (t u : Tree) → Some t ≡ Some u → t ≡ u
some_same t u e = cc
