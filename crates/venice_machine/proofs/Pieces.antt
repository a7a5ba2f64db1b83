-- The pieces of a grant list's text: how far they go is determined, and so is the first fault.
use Rattle.std.proofs.Common.{◌≡◌, ◌⊎◌, inl, inr, ℕ, ◌+◌, ◌*◌, ◌<◌, ◌≤◌, sym, refl, ap, subst, ◌∙◌, List, [], ◌∷◌, ◌++◌, length, drop, All, Bool, true, false, IsTrue, IsFalse, append_assoc, append-nil, length-append, Some, None, slice_get, slice_index, arith}
use Rattle.std.specs.List.{flat_map}
use Rattle.std.proofs.lemmas.List.Elements.{All-head, All-tail, All-append, All-cons, All-nil}
use Rattle.std.proofs.lemmas.Grind.{flat_map-append}
use Rattle.std.proofs.lemmas.List.{length_push, drop-drop, drop_at, drop_all, drop_more}
use Rattle.std.proofs.lemmas.Option.{slice_get_cases, slice_get-get_or}
use Rattle.std.proofs.lemmas.Bool.{true≢false}
use Rattle.ven_base.specs.First.{IsFirst}
use Rattle.ven_io.specs.Token.{is_hex_digit}
use Rattle.ven_io.specs.Number.{digit_value}
use Rattle.venice_machine.specs.Grants.{grant_limit, Piece, Space, Pair, is_space, IsPiece, piece_text, piece_grants, grants_of, DenotesGrants, Cause, Strange, Alone, TooMany, HasNoDigit, Holds, place_behind, TextFault, IsFault, answer_of, IsRefused}
use Rattle.venice_machine.specs.declared.grants.GrantFault.TheVariants as answers
use Rattle.venice_machine.specs.Reading.{HasRead, IsDigitOf}

no_digit_space : (byte : ℕ) → IsTrue (is_space byte) → IsTrue (is_hex_digit byte) → ⊥
no_digit_space byte space digit = grind (arith, space, digit)

-- ---- one reading goes on where the other ends

-- of two readings of one text, the one with these pieces goes as far as the other, and on
pub record GoesOn (pieces longer : List Piece) (rest rest_of_longer : List ℕ) : Type 0 where
  pub more : List Piece
  pub are : All IsPiece more
  pub pieces_are : longer ≡ pieces ++ more
  pub rest_is : rest ≡ flat_map piece_text more ++ rest_of_longer

-- the first bytes
head_is : (a b : ℕ) (xs ys : List ℕ) → a ∷ xs ≡ b ∷ ys → (a ≡ b) × (xs ≡ ys)
head_is a b xs ys e = (cc, cc)

same_first : (p q : Piece) (xs ys : List ℕ) → IsPiece p → IsPiece q → piece_text p ++ xs ≡ piece_text q ++ ys → (p ≡ q) × (xs ≡ ys)
same_first (Space a) (Space b) xs ys p q e = let both = head_is a b xs ys e in (ap (λ a. Space a) both.0, both.1)
same_first (Space a) (Pair b c) xs ys p q e = let both = head_is a b xs (c ∷ ys) e in absurd (no_digit_space b (subst (λ a. IsTrue (is_space a)) both.0 p) q.0)
same_first (Pair a d) (Space b) xs ys p q e = let both = head_is a b (d ∷ xs) ys e in absurd (no_digit_space b q (subst (λ a. IsTrue (is_hex_digit a)) both.0 p.0))
same_first (Pair a d) (Pair b c) xs ys p q e =
    let both = head_is a b (d ∷ xs) (c ∷ ys) e in
    let last = head_is d c xs ys both.1 in
    (ap (λ a. Pair a d) both.0 ∙ ap (λ d. Pair b d) last.0, last.1)

goes_on_behind : (p : Piece) (ps qs : List Piece) (rest other : List ℕ) → GoesOn ps qs rest other → GoesOn (p ∷ ps) (p ∷ qs) rest other
goes_on_behind p ps qs rest other on = record { more = on.more; are = on.are; pieces_are = ap (λ qs. p ∷ qs) on.pieces_are; rest_is = on.rest_is }

pub one_goes_on : (ps qs : List Piece) (rest other : List ℕ) → All IsPiece ps → All IsPiece qs → flat_map piece_text ps ++ rest ≡ flat_map piece_text qs ++ other
    → GoesOn ps qs rest other ⊎ GoesOn qs ps other rest
one_goes_on [] qs rest other are_ps are_qs e = inl (record { more = qs; are = are_qs; pieces_are = refl; rest_is = e })
one_goes_on (p ∷ ps) [] rest other are_ps are_qs e = inr (record { more = p ∷ ps; are = are_ps; pieces_are = refl; rest_is = sym e })
one_goes_on (p ∷ ps) (q ∷ qs) rest other are_ps are_qs e = go same (one_goes_on ps qs rest other (All-tail IsPiece p ps are_ps) (All-tail IsPiece q qs are_qs) same.1)
  where
    left : List ℕ
    left = flat_map piece_text ps ++ rest

    right : List ℕ
    right = flat_map piece_text qs ++ other

    same : (p ≡ q) × (left ≡ right)
    same = same_first p q left right (All-head IsPiece p ps are_ps) (All-head IsPiece q qs are_qs)
        (sym (append_assoc (piece_text p) (flat_map piece_text ps) rest) ∙ e ∙ append_assoc (piece_text q) (flat_map piece_text qs) other)

    go : (p ≡ q) × (left ≡ right) → GoesOn ps qs rest other ⊎ GoesOn qs ps other rest → GoesOn (p ∷ ps) (q ∷ qs) rest other ⊎ GoesOn (q ∷ qs) (p ∷ ps) other rest
    go e (inl on) = inl (subst (λ q. GoesOn (p ∷ ps) (q ∷ qs) rest other) e.0 (goes_on_behind p ps qs rest other on))
    go e (inr on) = inr (subst (λ q. GoesOn (q ∷ qs) (p ∷ ps) other rest) e.0 (goes_on_behind p qs ps other rest on))

-- ---- what is left of a text

-- whether a pair may begin at the fault
abbrev begins_a_pair : Cause → Bool
begins_a_pair Strange = false
begins_a_pair Alone = false
begins_a_pair TooMany = true

-- else no piece begins there
nothing_begins : (cause : Cause) (pieces : List Piece) (rest : List ℕ) (p : Piece) (more : List Piece) (other : List ℕ) → begins_a_pair cause ≡ false → Holds cause pieces rest → IsPiece p
    → rest ≡ flat_map piece_text (p ∷ more) ++ other → ⊥
nothing_begins Strange pieces [] p more other is holds piece e = holds
nothing_begins Alone pieces [] p more other is holds piece e = holds
nothing_begins TooMany pieces rest p more other is holds piece e = absurd (true≢false is)
nothing_begins Strange pieces (byte ∷ rest) (Space b) more other is holds piece e =
    let same = head_is byte b rest (flat_map piece_text more ++ other) e in
    true≢false (sym piece ∙ subst (λ b. IsFalse (is_space b)) same.0 holds.0)
nothing_begins Strange pieces (byte ∷ rest) (Pair b c) more other is holds piece e =
    let same = head_is byte b rest (c ∷ flat_map piece_text more ++ other) e in
    true≢false (sym piece.0 ∙ subst (λ b. IsFalse (is_hex_digit b)) same.0 holds.1)
nothing_begins Alone pieces (byte ∷ rest) (Space b) more other is holds piece e =
    let same = head_is byte b rest (flat_map piece_text more ++ other) e in
    no_digit_space b piece (subst (λ b. IsTrue (is_hex_digit b)) same.0 holds.0)
nothing_begins Alone pieces (byte ∷ rest) (Pair b c) more other is holds piece e =
    let same = head_is byte b rest (c ∷ (flat_map piece_text more ++ other)) e in
    true≢false (sym piece.1 ∙ subst HasNoDigit same.1 holds.1)

-- a piece more is some bytes more
longer_text : (ps : List Piece) (p : Piece) (more : List Piece) → length (flat_map piece_text ps) + 1 ≤ length (flat_map piece_text (ps ++ p ∷ more))
longer_text ps p more =
    let e = ap length (flat_map-append piece_text ps (p ∷ more)) ∙ length-append (flat_map piece_text ps) (flat_map piece_text (p ∷ more)) in
    omega (arith, e, some_text p more)
  where
    some_text : (p : Piece) (more : List Piece) → 1 ≤ length (flat_map piece_text (p ∷ more))
    some_text (Space b) more = omega arith
    some_text (Pair b c) more = omega arith

-- ---- the first fault

abbrev fault_behind : Cause → List Piece → TextFault
fault_behind cause pieces = record { cause = cause; at = place_behind cause pieces }

some_place : (cause : Cause) (pieces : List Piece) → length (flat_map piece_text pieces) ≤ place_behind cause pieces
some_place Strange pieces = omega arith
some_place Alone pieces = omega arith
some_place TooMany pieces = omega arith

far_place : (cause : Cause) (pieces : List Piece) → place_behind cause pieces ≤ length (flat_map piece_text pieces) + 1
far_place Strange pieces = omega arith
far_place Alone pieces = omega arith
far_place TooMany pieces = omega arith

-- a list of so many grants has no room for the pair that begins
no_room : (pieces : List Piece) (p : Piece) (more : List Piece) (rest other : List ℕ) → Holds TooMany pieces rest → IsPiece p → rest ≡ flat_map piece_text (p ∷ more) ++ other → grant_limit < length (grants_of (pieces ++ p ∷ more))
no_room pieces p more [] other holds piece e = absurd holds
no_room pieces (Space b) more (byte ∷ rest) other holds piece e =
    let same = head_is byte b rest (flat_map piece_text more ++ other) e in
    absurd (no_digit_space b piece (subst (λ b. IsTrue (is_hex_digit b)) same.0 holds.0))
no_room pieces (Pair b c) more (byte ∷ rest) other holds piece e =
    let count = ap length (flat_map-append piece_grants pieces (Pair b c ∷ more)) ∙ length-append (grants_of pieces) (grants_of (Pair b c ∷ more)) in
    omega (arith, count, holds.1)

-- two causes at one place of the pieces
same_pieces : (cause other : Cause) (pieces : List Piece) (rest : List ℕ) → Holds cause pieces rest → Holds other pieces rest → (cause ≡ Alone → length (grants_of pieces) < grant_limit)
    → place_behind cause pieces ≤ place_behind other pieces
same_pieces Strange other pieces rest holds other_holds fewer = some_place other pieces
same_pieces TooMany other pieces rest holds other_holds fewer = some_place other pieces
same_pieces Alone Alone pieces rest holds other_holds fewer = omega arith
same_pieces Alone Strange pieces [] holds other_holds fewer = absurd holds
same_pieces Alone Strange pieces (byte ∷ rest) holds other_holds fewer = absurd (true≢false (sym holds.0 ∙ other_holds.1))
same_pieces Alone TooMany pieces [] holds other_holds fewer = absurd holds
same_pieces Alone TooMany pieces (byte ∷ rest) holds other_holds fewer = absurd (omega (arith, other_holds.1, fewer refl))

-- a fault behind more pieces
more_pieces : (cause other : Cause) (pieces : List Piece) (rest other_rest : List ℕ) (p : Piece) (more : List Piece) → Holds cause pieces rest → IsPiece p → rest ≡ flat_map piece_text (p ∷ more) ++ other_rest
    → place_behind cause pieces ≤ place_behind other (pieces ++ p ∷ more)
more_pieces TooMany other pieces rest other_rest p more holds piece e = omega (arith, longer_text pieces p more, some_place other (pieces ++ p ∷ more))
more_pieces Strange other pieces rest other_rest p more holds piece e = absurd (nothing_begins Strange pieces rest p more other_rest refl holds piece e)
more_pieces Alone other pieces rest other_rest p more holds piece e = absurd (nothing_begins Alone pieces rest p more other_rest refl holds piece e)

-- and none stands behind fewer
fewer_pieces : (other : Cause) (pieces : List Piece) (rest other_rest : List ℕ) (p : Piece) (more : List Piece) → Holds other pieces other_rest → IsPiece p → other_rest ≡ flat_map piece_text (p ∷ more) ++ rest
    → length (grants_of (pieces ++ p ∷ more)) ≤ grant_limit → ⊥
fewer_pieces TooMany pieces rest other_rest p more holds piece e few = omega (arith, few, no_room pieces p more other_rest rest holds piece e)
fewer_pieces Strange pieces rest other_rest p more holds piece e few = nothing_begins Strange pieces other_rest p more rest refl holds piece e
fewer_pieces Alone pieces rest other_rest p more holds piece e few = nothing_begins Alone pieces other_rest p more rest refl holds piece e

module _ (text : List ℕ) (cause : Cause) (pieces : List Piece) (rest : List ℕ) (are : All IsPiece pieces) (text_is : text ≡ flat_map piece_text pieces ++ rest)
    (holds : Holds cause pieces rest) (few : length (grants_of pieces) ≤ grant_limit) (fewer : cause ≡ Alone → length (grants_of pieces) < grant_limit) where
  later : (other : Cause) (qs : List Piece) (other_rest : List ℕ) → Holds other qs other_rest → GoesOn pieces qs rest other_rest ⊎ GoesOn qs pieces other_rest rest
      → place_behind cause pieces ≤ place_behind other qs
  later other qs other_rest other_holds (inl on) = go on.more on.are on.pieces_are on.rest_is
    where
      go : (more : List Piece) → All IsPiece more → qs ≡ pieces ++ more → rest ≡ flat_map piece_text more ++ other_rest → place_behind cause pieces ≤ place_behind other qs
      go [] all is rest_is =
          let same : qs ≡ pieces = is ∙ append-nil pieces in
          subst (λ qs. place_behind cause pieces ≤ place_behind other qs) (sym same)
          (same_pieces cause other pieces rest holds (subst (λ r. Holds other pieces r) (sym rest_is) (subst (λ qs. Holds other qs other_rest) same other_holds)) fewer)
      go (p ∷ more) all is rest_is =
          subst (λ qs. place_behind cause pieces ≤ place_behind other qs) (sym is)
          (more_pieces cause other pieces rest other_rest p more holds (All-head IsPiece p more all) rest_is)
  later other qs other_rest other_holds (inr on) = go on.more on.are on.pieces_are on.rest_is
    where
      go : (more : List Piece) → All IsPiece more → pieces ≡ qs ++ more → other_rest ≡ flat_map piece_text more ++ rest → place_behind cause pieces ≤ place_behind other qs
      go [] all is rest_is =
          let same : pieces ≡ qs = is ∙ append-nil qs in
          subst (λ qs. place_behind cause pieces ≤ place_behind other qs) same
          (same_pieces cause other pieces rest holds (subst (λ r. Holds other pieces r) rest_is (subst (λ qs. Holds other qs other_rest) (sym same) other_holds)) fewer)
      go (p ∷ more) all is rest_is =
          absurd (fewer_pieces other qs rest other_rest p more other_holds (All-head IsPiece p more all) rest_is (subst (λ ps. length (grants_of ps) ≤ grant_limit) is few))

  from_le : (n : ℕ) → place_behind cause pieces ≤ n → (place_behind cause pieces < n) ⊎ ((place_behind cause pieces ≡ n) × (0 ≤ 0))
  from_le n le = grind (arith, le)

  other_is_later : (other : TextFault) → IsFault text other → (place_behind cause pieces < other.at) ⊎ ((place_behind cause pieces ≡ other.at) × (0 ≤ 0))
  other_is_later other is_fault =
      from_le other.at (subst (λ n. place_behind cause pieces ≤ n) (sym is_fault.place)
      (later other.cause is_fault.pieces is_fault.rest is_fault.holds (one_goes_on pieces is_fault.pieces rest is_fault.rest are is_fault.are (sym text_is ∙ is_fault.text_is))))

  pub first_fault : IsFirst (IsFault text) (λ f. f.at) (λ f. 0) (fault_behind cause pieces)
  first_fault = record {
    here = record { pieces = pieces; rest = rest; are = are; text_is = text_is; holds = holds; place = refl };
    first = other_is_later;
  }

-- ---- digits

-- the digit that stands at a place, and what is behind it
pub record HasDigit (text : List ℕ) (at value : ℕ) : Type 0 where
  pub byte : ℕ
  pub left : drop at text ≡ byte ∷ drop (at + 1) text
  pub digit : IsTrue (is_hex_digit byte)
  pub value_is : value ≡ digit_value byte

pub digit_there : (text : List ℕ) (at value : ℕ) → IsDigitOf (slice_get text at) (Some value) → HasDigit text at value
digit_there text at value is = elim (slice_get_cases text at).1 [
  | inl found ↦
      let digit = subst (λ byte. IsDigitOf byte (Some value)) found.2 is in
      record { byte = found.0; left = drop_more text at found.0 found.1 ∙ ap (λ byte. byte ∷ drop (at + 1) text) found.3; digit = digit.0; value_is = digit.1 }
  | inr none ↦ absurd (some_is_none value (subst (λ byte. IsDigitOf byte (Some value)) none.1 is))
]
  where
    some_is_none : (value : ℕ) → Some value ≡ None → ⊥
    some_is_none value e = cc

pub no_digit_there : (text : List ℕ) (at : ℕ) → IsDigitOf (slice_get text at) None → HasNoDigit (drop at text)
no_digit_there text at is = elim (slice_get_cases text at).1 [
  | inl found ↦ subst HasNoDigit (sym (drop_more text at found.0 found.1 ∙ ap (λ byte. byte ∷ drop (at + 1) text) found.3)) (subst (λ byte. IsDigitOf byte None) found.2 is)
  | inr none ↦ subst HasNoDigit (sym (drop_all at text none.0)) tt
]

-- ---- what is read

module _ (text : List ℕ) (at : ℕ) (grants : List ℕ) (read : HasRead text at grants) where
  go_on : (p : Piece) (more : List ℕ) → IsPiece p → drop at text ≡ piece_text p ++ more → length (grants ++ piece_grants p) ≤ grant_limit → HasRead text (at + length (piece_text p)) (grants ++ piece_grants p)
  go_on p more piece left few =
      let texts = flat_map-append piece_text read.pieces (p ∷ []) ∙ ap (λ t. flat_map piece_text read.pieces ++ t) (append-nil (piece_text p)) in
      let rest : drop (at + length (piece_text p)) text ≡ more = sym (drop-drop (length (piece_text p)) at text) ∙ ap (drop (length (piece_text p))) left ∙ drop_at (piece_text p) more (length (piece_text p)) refl in
      record {
        pieces = read.pieces ++ p ∷ [];
        are = All-append IsPiece read.pieces (p ∷ []) read.are (All-cons IsPiece p [] piece (All-nil IsPiece));
        text_is = read.text_is ∙ ap (λ t. flat_map piece_text read.pieces ++ t) (left ∙ ap (λ t. piece_text p ++ t) (sym rest)) ∙ sym (append_assoc (flat_map piece_text read.pieces) (piece_text p) _)
            ∙ ap (λ t. t ++ drop (at + length (piece_text p)) text) (sym texts);
        place = ap (λ n. n + length (piece_text p)) read.place ∙ sym (length-append (flat_map piece_text read.pieces) (piece_text p)) ∙ ap length (sym texts);
        grants_are = ap (λ g. g ++ piece_grants p) read.grants_are ∙ ap (λ g. grants_of read.pieces ++ g) (sym (append-nil (piece_grants p))) ∙ sym (flat_map-append piece_grants read.pieces (p ∷ []));
        few = few;
      }

  pub space_read : (byte : ℕ) (more : List ℕ) → IsTrue (is_space byte) → drop at text ≡ byte ∷ more → HasRead text (at + 1) grants
  space_read byte more space left = subst (HasRead text (at + 1)) (append-nil grants) (go_on (Space byte) more space left (subst (λ g. length g ≤ grant_limit) (sym (append-nil grants)) read.few))

  pub pair_read : (high low : ℕ) (more : List ℕ) → IsTrue (is_hex_digit high) → IsTrue (is_hex_digit low) → drop at text ≡ high ∷ low ∷ more → length grants < grant_limit
      → HasRead text (at + 2) (grants ++ (16 * digit_value high + digit_value low) ∷ [])
  pair_read high low more is_high is_low left room =
      go_on (Pair high low) more (is_high, is_low) left (omega (arith, room, length_push grants (16 * digit_value high + digit_value low)))

  pub all_read : length text ≤ at → DenotesGrants text grants
  all_read end = record {
    pieces = read.pieces;
    are = read.are;
    text_is = read.text_is ∙ ap (λ t. flat_map piece_text read.pieces ++ t) (drop_all at text end) ∙ append-nil (flat_map piece_text read.pieces);
    grants_are = read.grants_are;
    few = read.few;
  }

  -- faults
  refused : (cause : Cause) → Holds cause read.pieces (drop at text) → (cause ≡ Alone → length grants < grant_limit) → IsRefused text (answer_of cause (place_behind cause read.pieces))
  refused cause holds fewer = record {
    fault = fault_behind cause read.pieces;
    first = first_fault text cause read.pieces (drop at text) read.are read.text_is holds (subst (λ g. length g ≤ grant_limit) read.grants_are read.few) (λ is. subst (λ g. length g < grant_limit) read.grants_are (fewer is));
    is = refl;
  }

  pub strange_refused : (byte : ℕ) (more : List ℕ) → drop at text ≡ byte ∷ more → IsFalse (is_space byte) → IsFalse (is_hex_digit byte) → IsRefused text (answers.Bad at)
  strange_refused byte more left no_space no_digit =
      subst (λ n. IsRefused text (answers.Bad n)) (sym read.place)
      (refused Strange (subst (Holds Strange read.pieces) (sym left) (no_space, no_digit)) (λ is. cc))

  pub alone_refused : (byte : ℕ) (more : List ℕ) → drop at text ≡ byte ∷ more → IsTrue (is_hex_digit byte) → HasNoDigit more → length grants < grant_limit → IsRefused text (answers.Bad (at + 1))
  alone_refused byte more left digit none fewer =
      subst (λ n. IsRefused text (answers.Bad (n + 1))) (sym read.place)
      (refused Alone (subst (Holds Alone read.pieces) (sym left) (digit, none)) (λ is. fewer))

  pub too_many_refused : (byte : ℕ) (more : List ℕ) → drop at text ≡ byte ∷ more → IsTrue (is_hex_digit byte) → length grants ≡ grant_limit → IsRefused text answers.TooLong
  too_many_refused byte more left digit full =
      refused TooMany (subst (Holds TooMany read.pieces) (sym left) (digit, ap length (sym read.grants_are) ∙ full)) (λ is. cc)

  -- no digit stands there
  pub no_digit_refused : at < length text → IsFalse (is_space (slice_index text at)) → IsDigitOf (slice_get text at) None → IsRefused text (answers.Bad at)
  no_digit_refused more no_space is =
      strange_refused (slice_index text at) (drop (at + 1) text) (drop_more text at 0 more) no_space
      (subst (λ byte. IsDigitOf byte None) (slice_get-get_or text at 0 more) is)
