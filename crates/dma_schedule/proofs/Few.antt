-- Lists of issues of which few are of a kind; lists joined end to end.
use Rattle.std.proofs.Common.{◌≡◌, inl, inr, ℕ, zero, suc, ◌+◌, ◌≤◌, refl, ap, arith, List, [], ◌∷◌, ◌++◌, length}
use Rattle.std.specs.Prelude.{map}
use Rattle.venice_isa.specs.declared.issue.Issue.{Issue}
use Rattle.dma_segments.proofs.Lists.{Each, EachPair}
use Rattle.dma_schedule.specs.Pipelined.{HasAtMost}

module _ (Is : Issue → Type 0) where
  pub few_none : (issues : List Issue) (most : ℕ) → Each (λ issue. ¬ Is issue) issues → HasAtMost Is issues most
  few_none [] most none = tt
  few_none (issue ∷ issues) most none = inl (none.0, few_none issues most none.1)

  pub few_all : (issues : List Issue) (most : ℕ) → length issues ≤ most → HasAtMost Is issues most
  few_all [] most few = tt
  few_all (issue ∷ issues) zero few = absurd (omega arith)
  few_all (issue ∷ issues) (suc most) few = inr (most, refl, few_all issues most (omega arith))

  pub few_append : (first second : List Issue) (a b : ℕ) → HasAtMost Is first a → HasAtMost Is second b → HasAtMost Is (first ++ second) (a + b)
  few_append [] second a b one other = few_more second b (a + b) (omega arith) other
    where
      few_more : (issues : List Issue) (few more : ℕ) → few ≤ more → HasAtMost Is issues few → HasAtMost Is issues more
      few_more [] few more less is = tt
      few_more (issue ∷ issues) few more less (inl none) = inl (none.0, few_more issues few more less none.1)
      few_more (issue ∷ issues) few zero less (inr some) = absurd (omega (arith, some.1))
      few_more (issue ∷ issues) few (suc more) less (inr some) = inr (more, refl, few_more issues some.0 more (omega (arith, some.1)) some.2)
  few_append (issue ∷ first) second a b (inl none) other = inl (none.0, few_append first second a b none.1 other)
  few_append (issue ∷ first) second a b (inr some) other = inr (some.0 + b, omega (arith, some.1), few_append first second some.0 b some.2 other)

-- ---- the second of two lists

pub each_right : {A : Type 0} (P : A → Type 0) (xs ys : List A) → Each P (xs ++ ys) → Each P ys
each_right P [] ys h = h
each_right P (x ∷ xs) ys h = each_right P xs ys h.1

pub pairs_right : {A : Type 0} (R : A → A → Type 0) (xs ys : List A) → EachPair R (xs ++ ys) → EachPair R ys
pairs_right R [] ys h = h
pairs_right R (x ∷ xs) ys h = pairs_right R xs ys h.1

-- what holds of any of one list and any of another
pub each_across : {A B : Type 0} (P : A → Type 0) (Q : B → Type 0) (R : A → B → Type 0) → ((x : A) (y : B) → P x → Q y → R x y) → (xs : List A) (ys : List B) → Each P xs → Each Q ys
    → Each (λ x. Each (R x) ys) xs
each_across P Q R f [] ys h l = tt
each_across {A = A} {B = B} P Q R f (x ∷ xs) ys h l = (along ys l, each_across P Q R f xs ys h.1 l)
  where
    along : (ys : List B) → Each Q ys → Each (R x) ys
    along [] l = tt
    along (y ∷ ys) l = (f x y h.0 l.0, along ys l.1)

pub length_map : {A B : Type 0} (f : A → B) (xs : List A) → length (map f xs) ≡ length xs
length_map f [] = refl
length_map f (x ∷ xs) = ap suc (length_map f xs)

pub each_mapped : {A B : Type 0} (f : A → B) (P : B → Type 0) (xs : List A) → ((x : A) → P (f x)) → Each P (map f xs)
each_mapped f P [] h = tt
each_mapped f P (x ∷ xs) h = (h x, each_mapped f P xs h)
