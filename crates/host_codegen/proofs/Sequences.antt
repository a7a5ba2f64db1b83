-- What holds of programs by number, one after another.
use Rattle.std.proofs.Common.{◌≡◌, ℕ, zero, suc, ◌+◌, ◌-◌, ◌/◌, ◌^◌, ◌<◌, ◌≤◌, List, [], ◌∷◌, ◌++◌, length, get_or, refl, sym, ap, subst, ◌∙◌, arith, true}
use Rattle.std.specs.Prelude.{◌==◌, nat_le, All}
use Rattle.std.specs.List.{flat_map}
use Rattle.std.proofs.Math.Nat.{pow-succ'}
use Rattle.std.proofs.lemmas.Bool.{cond_both, and_from}
use Rattle.std.proofs.lemmas.Bool.Decides.{nat_tests}
use Rattle.std.proofs.lemmas.List.{append-nil, append_assoc}
use Rattle.venice_isa.specs.declared.issue.Issue.{Issue}
use Rattle.host_programs.specs.Expr.{Expr}
use Rattle.host_programs.specs.Program.{Program, Idle, Both, list_by}
use Rattle.host_programs.specs.ProgramCode.{is_closed}
use Rattle.host_programs.specs.ProgramFits.{ProgramFits}
use Rattle.host_programs.specs.Room.{program_room}
use Rattle.host_codegen.specs.Sequence.{at_most_one, between, each_of, all_of}

-- ---- what holds of each holds of all

module _ (each : ℕ → Program) (low high : ℕ) (P : (first count : ℕ) → Program → Type 0) where
  pub record Kept : Type 0 where
    pub none : (first : ℕ) → P first 0 Idle
    pub one : (n : ℕ) → low ≤ n → n < high → P n 1 (each n)
    pub both : (first a b : ℕ) (p q : Program) → P first a p → P (first + a) b q → P first (a + b) (Both p q)

  few_hold : (first count : ℕ) → Kept → low ≤ first → first + count ≤ high → count ≤ 1 → P first count (at_most_one first count each)
  few_hold first count kept above below few =
      cond_both (count == 0) Idle (each first) (P first count)
      (λ e. let is : 0 ≡ count = grind (arith, nat_tests) in subst (λ n. P first n Idle) is (kept.none first))
      (λ e. let is : 1 ≡ count = grind (arith, nat_tests) in subst (λ n. P first n (each first)) is (kept.one first above (omega arith)))

  pub between_holds : (levels first count : ℕ) → Kept → low ≤ first → first + count ≤ high → count ≤ 2 ^ levels → P first count (between levels first count each)
  unfolding between
  between_holds zero first count kept above below few = few_hold first count kept above below few
  between_holds (suc levels) first count kept above below few =
      let twice = pow-succ' 2 levels in
      let halves : count / 2 + (count - count / 2) ≡ count = omega arith in
      cond_both (nat_le count 1) (at_most_one first count each) (Both (between levels first (count / 2) each) (between levels (first + count / 2) (count - count / 2) each)) (P first count)
      (λ e. few_hold first count kept above below (grind (arith, nat_tests)))
      (λ e. subst (λ n. P first n (Both (between levels first (count / 2) each) (between levels (first + count / 2) (count - count / 2) each))) halves
      (kept.both first (count / 2) (count - count / 2) _ _
      (between_holds levels first (count / 2) kept above (omega arith) (omega (arith, few, twice)))
      (between_holds levels (first + count / 2) (count - count / 2) kept (omega arith) (omega arith) (omega (arith, few, twice)))))

above_it : (n : ℕ) → suc n ≤ 2 ^ n
above_it zero = omega arith
above_it (suc n) = let twice = pow-succ' 2 n in omega (arith, above_it n, twice)

pub below_power : (n : ℕ) → n ≤ 2 ^ n
below_power n = omega (arith, above_it n)

-- ---- lists, one after another

-- the lists of the first so many numbers
abbrev pub lists_of : (count : ℕ) → (ℕ → List Issue) → List Issue
lists_of zero list = []
lists_of (suc n) list = lists_of n list ++ list n

abbrev pub lists_from : (first count : ℕ) → (ℕ → List Issue) → List Issue
lists_from first count list = lists_of count (λ k. list (first + k))

lists_both : (first a b : ℕ) (list : ℕ → List Issue) → lists_from first (a + b) list ≡ lists_from first a list ++ lists_from (first + a) b list
lists_both first a zero list =
    let none : a + 0 ≡ a = omega arith in
    ap (λ n. lists_from first n list) none ∙ sym (append-nil (lists_from first a list))
lists_both first a (suc b) list =
    let next : a + suc b ≡ suc (a + b) = omega arith in
    let last : first + (a + b) ≡ first + a + b = omega arith in
    ap (λ n. lists_from first n list) next
    ∙ ap (λ xs. xs ++ list (first + (a + b))) (lists_both first a b list)
    ∙ ap (λ n. (lists_from first a list ++ lists_from (first + a) b list) ++ list n) last
    ∙ append_assoc (lists_from first a list) (lists_from (first + a) b list) (list (first + a + b))

lists_whole : (count : ℕ) (list : ℕ → List Issue) → lists_from 0 count list ≡ lists_of count list
lists_whole zero list = refl
lists_whole (suc n) list =
    let here : 0 + n ≡ n = omega arith in
    ap (λ xs. xs ++ list (0 + n)) (lists_whole n list) ∙ ap (λ k. lists_of n list ++ list k) here

pub each_lists : (value : Expr → (ℕ → ℕ) → ℕ) (each : ℕ → Program) (count d : ℕ) (f : ℕ → ℕ)
    → list_by value (each_of count each) d f ≡ lists_of count (λ n. list_by value (each n) d f)
each_lists value each count d f =
    let list : ℕ → List Issue = λ n. list_by value (each n) d f in
    between_holds each 0 count (λ first n p. list_by value p d f ≡ lists_from first n list) count 0 count (record {
      none = λ first. refl;
      one = λ n above below. let here : n ≡ n + 0 = omega arith in ap list here;
      both = λ first a b p q is_p is_q. ap (λ xs. xs ++ list_by value q d f) is_p ∙ ap (λ xs. lists_from first a list ++ xs) is_q ∙ sym (lists_both first a b list);
    }) (omega arith) (omega arith) (below_power count)
    ∙ lists_whole count list

-- ---- what is asked of a program that is to be coded

pub each_closed : (each : ℕ → Program) (count d : ℕ) → ((n : ℕ) → n < count → is_closed (each n) d ≡ true) → is_closed (each_of count each) d ≡ true
each_closed each count d closed =
    between_holds each 0 count (λ first n p. is_closed p d ≡ true) count 0 count (record {
      none = λ first. refl;
      one = λ n above below. closed n below;
      both = λ first a b p q is_p is_q. and_from _ _ is_p is_q;
    }) (omega arith) (omega arith) (below_power count)

pub each_room : (each : ℕ → Program) (count most : ℕ) → ((n : ℕ) → n < count → program_room (each n) ≤ most) → program_room (each_of count each) ≤ most
each_room each count most few =
    between_holds each 0 count (λ first n p. program_room p ≤ most) count 0 count (record {
      none = λ first. omega arith;
      one = λ n above below. few n below;
      both = λ first a b p q is_p is_q. omega (arith, is_p, is_q);
    }) (omega arith) (omega arith) (below_power count)

pub each_fits : (each : ℕ → Program) (count d : ℕ) (f : ℕ → ℕ) → ((n : ℕ) → n < count → ProgramFits (each n) d f) → ProgramFits (each_of count each) d f
each_fits each count d f fits =
    between_holds each 0 count (λ first n p. ProgramFits p d f) count 0 count (record {
      none = λ first. tt;
      one = λ n above below. fits n below;
      both = λ first a b p q is_p is_q. (is_p, is_q);
    }) (omega arith) (omega arith) (below_power count)

-- ---- programs of a list

lists_flat : (list : Program → List Issue) (ps : List Program) → lists_of (length ps) (λ k. list (get_or ps k Idle)) ≡ flat_map list ps
lists_flat list [] = refl
lists_flat list (p ∷ ps) =
    let first : length (p ∷ ps) ≡ 1 + length ps = omega arith in
    ap (λ n. lists_of n (λ k. list (get_or (p ∷ ps) k Idle))) first
    ∙ sym (lists_whole (1 + length ps) (λ k. list (get_or (p ∷ ps) k Idle)))
    ∙ lists_both 0 1 (length ps) (λ k. list (get_or (p ∷ ps) k Idle))
    ∙ ap (λ xs. list p ++ xs) (shifted (length ps) ∙ lists_flat list ps)
  where
    shifted : (n : ℕ) → lists_from 1 n (λ k. list (get_or (p ∷ ps) k Idle)) ≡ lists_of n (λ k. list (get_or ps k Idle))
    shifted zero = refl
    shifted (suc n) =
        let next : 1 + n ≡ suc n = omega arith in
        ap (λ xs. xs ++ list (get_or (p ∷ ps) (1 + n) Idle)) (shifted n)
        ∙ ap (λ k. lists_of n (λ k. list (get_or ps k Idle)) ++ list (get_or (p ∷ ps) k Idle)) next

pub all_lists : (value : Expr → (ℕ → ℕ) → ℕ) (ps : List Program) (d : ℕ) (f : ℕ → ℕ)
    → list_by value (all_of ps) d f ≡ flat_map (λ p. list_by value p d f) ps
all_lists value ps d f = each_lists value (λ k. get_or ps k Idle) (length ps) d f ∙ lists_flat (λ p. list_by value p d f) ps

pub all_closed : (ps : List Program) (d : ℕ) → All (λ p. is_closed p d ≡ true) ps → is_closed (all_of ps) d ≡ true
all_closed ps d closed = each_closed (λ k. get_or ps k Idle) (length ps) d (λ n below. closed n Idle below)

pub all_room : (ps : List Program) (most : ℕ) → All (λ p. program_room p ≤ most) ps → program_room (all_of ps) ≤ most
all_room ps most few = each_room (λ k. get_or ps k Idle) (length ps) most (λ n below. few n Idle below)

pub all_fits : (ps : List Program) (d : ℕ) (f : ℕ → ℕ) → All (λ p. ProgramFits p d f) ps → ProgramFits (all_of ps) d f
all_fits ps d f fits = each_fits (λ k. get_or ps k Idle) (length ps) d f (λ n below. fits n Idle below)
