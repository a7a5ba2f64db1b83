-- A text is one grant list at most, none where it has a fault, and has one answer at most.
use Rattle.std.proofs.Common.{◌≡◌, inl, inr, ℕ, ◌+◌, ◌≤◌, List, [], ◌∷◌, ◌++◌, length, drop, refl, sym, ap, subst, ◌∙◌, arith, append_assoc, append-nil, length-append, All, IsTrue, IsFalse}
use Rattle.std.specs.List.{flat_map}
use Rattle.std.proofs.lemmas.Bool.{true≢false}
use Rattle.std.proofs.lemmas.Grind.{flat_map-append}
use Rattle.std.proofs.lemmas.List.{drop_at, length_push}
use Rattle.std.proofs.lemmas.List.Elements.{All-head}
use Rattle.ven_io.specs.Token.{is_hex_digit}
use Rattle.venice_machine.specs.declared.grants.GrantFault.{GrantFault}
use Rattle.venice_machine.specs.Grants.{Piece, Space, Pair, is_space, IsPiece, piece_text, piece_grants, grants_of, grant_limit, DenotesGrants, Cause, Strange, Alone, TooMany, Holds, HasNoDigit, TextFault, IsFault, IsRefused, answer_of, place_behind}
use Rattle.venice_machine.proofs.Pieces.{GoesOn, one_goes_on}
use Rattle.venice_run.proofs.Answered.{level}

-- ---- one list

no_text : (more : List Piece) (rest : List ℕ) → [] ≡ flat_map piece_text more ++ rest → (more ≡ []) × (rest ≡ [])
no_text [] rest e = (refl, sym e)
no_text (Space b ∷ more) rest e = absurd cc
no_text (Pair b c ∷ more) rest e = absurd cc

same_grants : (ps qs : List Piece) → GoesOn ps qs [] [] → grants_of qs ≡ grants_of ps
same_grants ps qs on = let none = no_text on.more [] on.rest_is in ap grants_of (on.pieces_are ∙ ap (λ more. ps ++ more) none.0 ∙ append-nil ps)

pub one_list : (text a b : List ℕ) → DenotesGrants text a → DenotesGrants text b → a ≡ b
one_list text a b p q =
    elim (one_goes_on p.pieces q.pieces [] [] p.are q.are (append-nil (flat_map piece_text p.pieces) ∙ sym p.text_is ∙ q.text_is ∙ sym (append-nil (flat_map piece_text q.pieces)))) [
      | inl on ↦ p.grants_are ∙ sym (same_grants p.pieces q.pieces on) ∙ sym q.grants_are
      | inr on ↦ p.grants_are ∙ same_grants q.pieces p.pieces on ∙ sym q.grants_are
    ]

-- ---- none at faults

head_is : (a b : ℕ) (xs ys : List ℕ) → a ∷ xs ≡ b ∷ ys → (a ≡ b) × (xs ≡ ys)
head_is a b xs ys e = (cc, cc)

no_digit_space : (byte : ℕ) → IsTrue (is_space byte) → IsTrue (is_hex_digit byte) → ⊥
no_digit_space byte space digit = grind (arith, space, digit)

no_rest : (cause : Cause) (pieces : List Piece) → Holds cause pieces [] → ⊥
no_rest Strange pieces holds = holds
no_rest Alone pieces holds = holds
no_rest TooMany pieces holds = holds

-- no list of a lawful length goes on from a fault
not_whole : (cause : Cause) (qs more : List Piece) (rest : List ℕ) → Holds cause qs rest → All IsPiece more → rest ≡ flat_map piece_text more ++ [] → length (grants_of (qs ++ more)) ≤ grant_limit → ⊥
not_whole cause qs more [] holds are e few = no_rest cause qs holds
not_whole cause qs [] (byte ∷ rest) holds are e few = absurd cc
not_whole Strange qs (Space b ∷ more) (byte ∷ rest) holds are e few =
    let same = head_is byte b rest (flat_map piece_text more ++ []) e in
    true≢false (sym (All-head IsPiece (Space b) more are) ∙ subst (λ b. IsFalse (is_space b)) same.0 holds.0)
not_whole Strange qs (Pair b c ∷ more) (byte ∷ rest) holds are e few =
    let same = head_is byte b rest (c ∷ (flat_map piece_text more ++ [])) e in
    true≢false (sym (All-head IsPiece (Pair b c) more are).0 ∙ subst (λ b. IsFalse (is_hex_digit b)) same.0 holds.1)
not_whole Alone qs (Space b ∷ more) (byte ∷ rest) holds are e few =
    let same = head_is byte b rest (flat_map piece_text more ++ []) e in
    no_digit_space b (All-head IsPiece (Space b) more are) (subst (λ b. IsTrue (is_hex_digit b)) same.0 holds.0)
not_whole Alone qs (Pair b c ∷ more) (byte ∷ rest) holds are e few =
    let same = head_is byte b rest (c ∷ (flat_map piece_text more ++ [])) e in
    true≢false (sym (All-head IsPiece (Pair b c) more are).1 ∙ subst HasNoDigit same.1 holds.1)
not_whole TooMany qs (Space b ∷ more) (byte ∷ rest) holds are e few =
    let same = head_is byte b rest (flat_map piece_text more ++ []) e in
    no_digit_space b (All-head IsPiece (Space b) more are) (subst (λ b. IsTrue (is_hex_digit b)) same.0 holds.0)
not_whole TooMany qs (Pair b c ∷ more) (byte ∷ rest) holds are e few =
    let count = ap length (flat_map-append piece_grants qs (Pair b c ∷ more)) ∙ length-append (grants_of qs) (grants_of (Pair b c ∷ more)) in
    omega (arith, count, holds.1, few)

pub none_at_faults : (text grants : List ℕ) (fault : GrantFault) → DenotesGrants text grants → IsRefused text fault → ⊥
none_at_faults text grants fault p refused =
    let is = refused.first.here in
    elim (one_goes_on p.pieces is.pieces [] is.rest p.are is.are (append-nil (flat_map piece_text p.pieces) ∙ sym p.text_is ∙ is.text_is)) [
      | inl on ↦ no_rest refused.fault.cause is.pieces (subst (Holds refused.fault.cause is.pieces) (no_text on.more is.rest on.rest_is).1 is.holds)
      | inr on ↦ not_whole refused.fault.cause is.pieces on.more is.rest is.holds on.are on.rest_is
          (subst (λ ps. length (grants_of ps) ≤ grant_limit) on.pieces_are (subst (λ g. length g ≤ grant_limit) p.grants_are p.few))
    ]

-- ---- one answer

-- where no pair may begin, no digit stands at the fault
no_digit_behind : (cause : Cause) (pieces : List Piece) (rest : List ℕ) → Holds cause pieces rest → ¬ (cause ≡ TooMany) → HasNoDigit (drop (place_behind cause pieces) (flat_map piece_text pieces ++ rest))
no_digit_behind cause pieces [] holds other = absurd (no_rest cause pieces holds)
no_digit_behind Strange pieces (byte ∷ rest) holds other =
    let text = flat_map piece_text pieces in
    subst HasNoDigit (sym (drop_at text (byte ∷ rest) (length text) refl)) holds.1
no_digit_behind Alone pieces (byte ∷ rest) holds other =
    let text = flat_map piece_text pieces in
    subst HasNoDigit (sym (ap (drop (length text + 1)) (sym (append_assoc text (byte ∷ []) rest)) ∙ drop_at (text ++ byte ∷ []) rest (length text + 1) (length_push text byte))) holds.1
no_digit_behind TooMany pieces (byte ∷ rest) holds other = absurd (other refl)

-- and else one does
digit_behind : (pieces : List Piece) (rest : List ℕ) → Holds TooMany pieces rest → HasNoDigit (drop (length (flat_map piece_text pieces)) (flat_map piece_text pieces ++ rest)) → ⊥
digit_behind pieces [] holds none = no_rest TooMany pieces holds
digit_behind pieces (byte ∷ rest) holds none =
    let text = flat_map piece_text pieces in
    true≢false (sym holds.0 ∙ subst HasNoDigit (drop_at text (byte ∷ rest) (length text) refl) none)

clash : (text : List ℕ) (f g : TextFault) → IsFault text f → IsFault text g → f.at ≡ g.at → f.cause ≡ TooMany → ¬ (g.cause ≡ TooMany) → ⊥
clash text f g p q same many other =
    let none : HasNoDigit (drop g.at text) =
    subst (λ t. HasNoDigit (drop g.at t)) (sym q.text_is) (subst (λ n. HasNoDigit (drop n (flat_map piece_text q.pieces ++ q.rest))) (sym q.place) (no_digit_behind g.cause q.pieces q.rest q.holds other)) in
    let place : g.at ≡ length (flat_map piece_text p.pieces) = sym same ∙ p.place ∙ ap (λ c. place_behind c p.pieces) many in
    digit_behind p.pieces p.rest (subst (λ c. Holds c p.pieces p.rest) many p.holds)
    (subst (λ n. HasNoDigit (drop n (flat_map piece_text p.pieces ++ p.rest))) place (subst (λ t. HasNoDigit (drop g.at t)) p.text_is none))

same_answer : (c d : Cause) (at : ℕ) → (c ≡ TooMany → ¬ (d ≡ TooMany) → ⊥) → (d ≡ TooMany → ¬ (c ≡ TooMany) → ⊥) → answer_of c at ≡ answer_of d at
same_answer Strange Strange at left right = refl
same_answer Strange Alone at left right = refl
same_answer Alone Strange at left right = refl
same_answer Alone Alone at left right = refl
same_answer TooMany TooMany at left right = refl
same_answer TooMany Strange at left right = absurd (left refl (λ e. absurd cc))
same_answer TooMany Alone at left right = absurd (left refl (λ e. absurd cc))
same_answer Strange TooMany at left right = absurd (right refl (λ e. absurd cc))
same_answer Alone TooMany at left right = absurd (right refl (λ e. absurd cc))

pub one_refusal : (text : List ℕ) (a b : GrantFault) → IsRefused text a → IsRefused text b → a ≡ b
one_refusal text a b h g =
    let same = level (IsFault text) (λ (f : TextFault). f.at) (λ (f : TextFault). 0) h.fault g.fault h.first g.first in
    h.is
    ∙ same_answer h.fault.cause g.fault.cause h.fault.at (clash text h.fault g.fault h.first.here g.first.here same.places)
    (clash text g.fault h.fault g.first.here h.first.here (sym same.places))
    ∙ ap (answer_of g.fault.cause) same.places ∙ sym g.is
