-- What holds of each, of some and of any two of a list, by recursion; lists joined end to end.
use Rattle.std.proofs.Common.{zero, suc, ◌⊎◌, List, [], ◌∷◌, ◌++◌, inl, inr, refl, subst, sym, arith, All}
use Rattle.std.specs.Prelude.{map, Any, AllPairs}
use Rattle.std.specs.List.{flat_map}
use Rattle.std.proofs.lemmas.List.Elements.{All-nil, All-cons}
use Rattle.std.proofs.lemmas.List.Kept.{AllPairs-cons}

-- each
abbrev pub Each : {A : Type 0} → (A → Type 0) → List A → Type 0
Each P [] = Unit {0}
Each P (x ∷ xs) = P x × Each P xs

-- at least one
abbrev pub AtLeastOne : {A : Type 0} → (A → Type 0) → List A → Type 0
AtLeastOne P [] = ⊥
AtLeastOne P (x ∷ xs) = P x ⊎ AtLeastOne P xs

-- any two, the first of which stands before the second
abbrev pub EachPair : {A : Type 0} → (A → A → Type 0) → List A → Type 0
EachPair R [] = Unit {0}
EachPair R (x ∷ xs) = Each (R x) xs × EachPair R xs

-- ---- by recursion and by place

pub all_each : {A : Type 0} (P : A → Type 0) (xs : List A) → Each P xs → All P xs
all_each P [] h = All-nil P
all_each P (x ∷ xs) h = All-cons P x xs h.0 (all_each P xs h.1)

pub each_all : {A : Type 0} (P : A → Type 0) (xs : List A) → All P xs → Each P xs
each_all P [] h = tt
each_all P (x ∷ xs) h = (h 0 x (omega arith), each_all P xs (λ k d below. h (suc k) d (omega arith)))

pub any_one : {A : Type 0} (P : A → Type 0) (xs : List A) → AtLeastOne P xs → Any P xs
any_one P [] h = absurd h
any_one P (x ∷ xs) (inl h) = (0, x, omega arith, refl, h)
any_one P (x ∷ xs) (inr h) = let found = any_one P xs h in (suc found.0, found.1, omega (arith, found.2), found.3, found.4)

pub one_any : {A : Type 0} (P : A → Type 0) (xs : List A) → Any P xs → AtLeastOne P xs
one_any P [] (k, x, below, is, h) = absurd (omega arith)
one_any P (x ∷ xs) (zero, y, below, is, h) = inl (subst P (sym is) h)
one_any P (x ∷ xs) (suc k, y, below, is, h) = inr (one_any P xs (k, y, omega arith, is, h))

pub all_pairs : {A : Type 0} (R : A → A → Type 0) (xs : List A) → EachPair R xs → AllPairs R xs
all_pairs R [] h = λ i j d before below. absurd (omega arith)
all_pairs R (x ∷ xs) h = AllPairs-cons R x xs (all_each (R x) xs h.0) (all_pairs R xs h.1)

pub pairs_all : {A : Type 0} (R : A → A → Type 0) (xs : List A) → AllPairs R xs → EachPair R xs
pairs_all R [] h = tt
pairs_all R (x ∷ xs) h = (each_all (R x) xs (λ k d below. h 0 (suc k) d (omega arith) (omega arith)), pairs_all R xs (λ i j d before below. h (suc i) (suc j) d (omega arith) (omega arith)))

module _ {A : Type 0} (P : A → Type 0) where
  pub each_append : (xs ys : List A) → Each P xs → Each P ys → Each P (xs ++ ys)
  each_append [] ys h l = l
  each_append (x ∷ xs) ys h l = (h.0, each_append xs ys h.1 l)

  pub one_left : (xs ys : List A) → AtLeastOne P xs → AtLeastOne P (xs ++ ys)
  one_left [] ys h = absurd h
  one_left (x ∷ xs) ys (inl h) = inl h
  one_left (x ∷ xs) ys (inr h) = inr (one_left xs ys h)

  pub one_right : (xs ys : List A) → AtLeastOne P ys → AtLeastOne P (xs ++ ys)
  one_right [] ys h = h
  one_right (x ∷ xs) ys h = inr (one_right xs ys h)

  pub each_weaker : (Q : A → Type 0) → ((x : A) → P x → Q x) → (xs : List A) → Each P xs → Each Q xs
  each_weaker Q f [] h = tt
  each_weaker Q f (x ∷ xs) h = (f x h.0, each_weaker Q f xs h.1)

  pub each_both : (Q R : A → Type 0) → ((x : A) → P x → Q x → R x) → (xs : List A) → Each P xs → Each Q xs → Each R xs
  each_both Q R f [] h l = tt
  each_both Q R f (x ∷ xs) h l = (f x h.0 l.0, each_both Q R f xs h.1 l.1)

  -- of one of which something holds, what holds of each does
  pub one_weaker : (E Q : A → Type 0) → ((x : A) → E x → P x → Q x) → (xs : List A) → Each E xs → AtLeastOne P xs → AtLeastOne Q xs
  one_weaker E Q f [] e h = absurd h
  one_weaker E Q f (x ∷ xs) e (inl h) = inl (f x e.0 h)
  one_weaker E Q f (x ∷ xs) e (inr h) = inr (one_weaker E Q f xs e.1 h)

  pub one_taken : (T : Type 0) (E : A → Type 0) → ((x : A) → E x → P x → T) → (xs : List A) → Each E xs → AtLeastOne P xs → T
  one_taken T E f [] e h = absurd h
  one_taken T E f (x ∷ xs) e (inl h) = f x e.0 h
  one_taken T E f (x ∷ xs) e (inr h) = one_taken T E f xs e.1 h

module _ {A B : Type 0} (f : A → List B) where
  pub each_flat : (P : B → Type 0) (xs : List A) → Each (λ x. Each P (f x)) xs → Each P (flat_map f xs)
  each_flat P [] h = tt
  each_flat P (x ∷ xs) h = each_append P (f x) (flat_map f xs) h.0 (each_flat P xs h.1)

  pub one_flat : (P : B → Type 0) (xs : List A) → AtLeastOne (λ x. AtLeastOne P (f x)) xs → AtLeastOne P (flat_map f xs)
  one_flat P [] h = absurd h
  one_flat P (x ∷ xs) (inl h) = one_left P (f x) (flat_map f xs) h
  one_flat P (x ∷ xs) (inr h) = one_right P (f x) (flat_map f xs) (one_flat P xs h)

module _ {A B : Type 0} (f : A → B) where
  pub each_map : (P : B → Type 0) (xs : List A) → Each (λ x. P (f x)) xs → Each P (map f xs)
  each_map P [] h = tt
  each_map P (x ∷ xs) h = (h.0, each_map P xs h.1)

  pub one_map : (P : B → Type 0) (xs : List A) → AtLeastOne (λ x. P (f x)) xs → AtLeastOne P (map f xs)
  one_map P [] h = absurd h
  one_map P (x ∷ xs) (inl h) = inl h
  one_map P (x ∷ xs) (inr h) = inr (one_map P xs h)

  pub pairs_map : (R : B → B → Type 0) (xs : List A) → EachPair (λ x y. R (f x) (f y)) xs → EachPair R (map f xs)
  pairs_map R [] h = tt
  pairs_map R (x ∷ xs) h = (each_map (R (f x)) xs h.0, pairs_map R xs h.1)

module _ {A : Type 0} (R : A → A → Type 0) where
  pub pairs_append : (xs ys : List A) → EachPair R xs → EachPair R ys → Each (λ x. Each (R x) ys) xs → EachPair R (xs ++ ys)
  pairs_append [] ys h l c = l
  pairs_append (x ∷ xs) ys h l c = (each_append (R x) xs ys h.0 c.0, pairs_append xs ys h.1 l c.1)

  -- a relation that a stronger one gives, where something holds of each
  pub pairs_weaker : (E : A → Type 0) (S : A → A → Type 0) → ((x y : A) → E x → E y → R x y → S x y) → (xs : List A) → Each E xs → EachPair R xs → EachPair S xs
  pairs_weaker E S f [] e h = tt
  pairs_weaker E S f (x ∷ xs) e h = (with_first xs e.1 h.0, pairs_weaker E S f xs e.1 h.1)
    where
      with_first : (ys : List A) → Each E ys → Each (R x) ys → Each (S x) ys
      with_first [] k l = tt
      with_first (y ∷ ys) k l = (f x y e.0 k.0 l.0, with_first ys k.1 l.1)

module _ {A B : Type 0} (f : A → List B) (R : B → B → Type 0) where
  -- each of x's is so to each of y's
  pub Across : A → A → Type 0
  Across x y = Each (λ b. Each (R b) (f y)) (f x)

  each_flat_across : (b : B) (xs : List A) → Each (λ y. Each (R b) (f y)) xs → Each (R b) (flat_map f xs)
  each_flat_across b xs h = each_flat f (R b) xs h

  turned : (bs : List B) (xs : List A) → Each (λ y. Each (λ b. Each (R b) (f y)) bs) xs → Each (λ b. Each (R b) (flat_map f xs)) bs
  turned [] xs h = tt
  turned (b ∷ bs) xs h = (each_flat_across b xs (each_weaker (λ y. Each (λ c. Each (R c) (f y)) (b ∷ bs)) (λ y. Each (R b) (f y)) (λ y l. l.0) xs h), turned bs xs (each_weaker (λ y. Each (λ c. Each (R c) (f y)) (b ∷ bs)) (λ y. Each (λ c. Each (R c) (f y)) bs) (λ y l. l.1) xs h))

  pub pairs_flat : (xs : List A) → Each (λ x. EachPair R (f x)) xs → EachPair (λ x y. Each (λ b. Each (R b) (f y)) (f x)) xs → EachPair R (flat_map f xs)
  pairs_flat [] h l = tt
  pairs_flat (x ∷ xs) h l = pairs_append R (f x) (flat_map f xs) h.0 (pairs_flat xs h.1 l.1) (turned (f x) xs l.0)

-- ---- parts

pub each_left : {A : Type 0} (P : A → Type 0) (xs ys : List A) → Each P (xs ++ ys) → Each P xs
each_left P [] ys h = tt
each_left P (x ∷ xs) ys h = (h.0, each_left P xs ys h.1)

pub each_of_map : {A B : Type 0} (f : A → B) (P : B → Type 0) (xs : List A) → Each P (map f xs) → Each (λ x. P (f x)) xs
each_of_map f P [] h = tt
each_of_map f P (x ∷ xs) h = (h.0, each_of_map f P xs h.1)

pub pairs_left : {A : Type 0} (R : A → A → Type 0) (xs ys : List A) → EachPair R (xs ++ ys) → EachPair R xs
pairs_left R [] ys h = tt
pairs_left R (x ∷ xs) ys h = (each_left (R x) xs ys h.0, pairs_left R xs ys h.1)

pub pairs_of_map : {A B : Type 0} (f : A → B) (R : B → B → Type 0) (xs : List A) → EachPair R (map f xs) → EachPair (λ x y. R (f x) (f y)) xs
pairs_of_map f R [] h = tt
pairs_of_map f R (x ∷ xs) h = (each_of_map f (R (f x)) xs h.0, pairs_of_map f R xs h.1)
