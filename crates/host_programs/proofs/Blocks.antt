-- A block that stands in code passes on its issues and goes on behind it.
use Rattle.std.proofs.Common.{◌≡◌, ℕ, zero, suc, ◌+◌, ◌-◌, ◌*◌, ◌/◌, ◌%◌, ◌^◌, ◌<◌, List, [], ◌∷◌, ◌++◌, length, Some, refl, sym, ap, ◌∙◌, subst, arith, append_assoc, length-append, Bool, true, false, cond, not, eqb, ltb}
use Rattle.std.specs.Prelude.{slice_get}
use Rattle.std.proofs.Math.Seq.{get_or-append_seam}
use Rattle.std.proofs.Math.Nat.{mod-lt, mod-eq_of_lt, add-mod_right, div-le_self}
use Rattle.std.proofs.lemmas.Bool.{cond_both, cond-false, cond-true, and_parts, or_parts, eq-eqb, ne_eqb, not-true, ltb-true}
use Rattle.std.proofs.lemmas.List.{append-nil}
use Rattle.std.proofs.lemmas.Option.{slice_get-get_or}
use Rattle.venice_isa.specs.declared.issue.Issue.{Issue}
use Rattle.venice_isa.specs.declared.instr.Instr.{Instr}
use Rattle.venice_isa.specs.declared.instr.Instr.TheVariants.{Halt, Li, Addi, Add, Sub, Mul, Div, Bnz, Blt, Jmp, Set, Vec, Dma, Rwait, Wwait, Vwait, Tag, Twait}
use Rattle.venice_isa.specs.Host.{Host, start, with_number, sum_of, quotient_of, after_instr, deed_of, deed_at, after_at, deed, next, after_steps, passed_in, passed_by, is_halt, going_to, going_on}
use Rattle.venice_isa.proofs.HostSteps.{issue_list_found}
use Rattle.host_programs.specs.Contents.{RegisterContents, standing, first_contents, left_by, issues_by, AreWords}
use Rattle.host_programs.specs.Block.{Block, Empty, Do, Then, Unless, Turns, one_less, size, instrs_at, repeated, repeated_issues, repeated_steps, after, issues, steps, is_straight, sets, writes, is_sound}
use Rattle.host_programs.specs.BlockLaws.{HasAt, RunsOn, KeepsOthers, IsItsCode, BlocksRun}

-- ---- code at a place

has_front : (code : List Instr) (place : ℕ) (a b : List Instr) → HasAt code place (a ++ b) → HasAt code place a
has_front code place [] b h = tt
has_front code place (i ∷ a) b h = (h.0, has_front code (place + 1) a b h.1)

has_back : (code : List Instr) (place : ℕ) (a b : List Instr) → HasAt code place (a ++ b) → HasAt code (place + length a) b
has_back code place [] b h = let e : place ≡ place + 0 = omega arith in subst (λ n. HasAt code n b) e h
has_back code place (i ∷ a) b h =
    let e : place + 1 + length a ≡ place + length (i ∷ a) = omega arith in
    subst (λ n. HasAt code n b) e (has_back code (place + 1) a b h.1)

pub has_all : (is pre rest : List Instr) → HasAt (pre ++ (is ++ rest)) (length pre) is
has_all [] pre rest = tt
has_all (i ∷ is) pre rest =
    let within : length pre < length (pre ++ i ∷ (is ++ rest)) = omega (arith, length-append pre (i ∷ (is ++ rest))) in
    let here = slice_get-get_or (pre ++ i ∷ (is ++ rest)) (length pre) i within ∙ ap Some (get_or-append_seam pre i (is ++ rest) i) in
    let n : length (pre ++ i ∷ []) ≡ length pre + 1 = omega (arith, length-append pre (i ∷ [])) in
    let rest' = subst (λ l. HasAt l (length (pre ++ i ∷ [])) is) (append_assoc pre (i ∷ []) (is ++ rest)) (has_all is (pre ++ i ∷ []) rest) in
    (here, subst (λ m. HasAt (pre ++ i ∷ (is ++ rest)) m is) n rest')

pub instrs_length : (x : Block) (place : ℕ) → length (instrs_at x place) ≡ size x
instrs_length Empty place = refl
instrs_length (Do i) place = refl
instrs_length (Then x y) place = omega (arith, length-append (instrs_at x place) (instrs_at y (place + size x)), instrs_length x place, instrs_length y (place + size x))
instrs_length (Unless a b x) place = omega (arith, instrs_length x (place + 1))
instrs_length (Turns c x) place = omega (arith, length-append (instrs_at x (place + 1)) (one_less c ∷ Bnz c (place + 1) ∷ []), instrs_length x (place + 1))

-- ---- registers

pub with_same : (f : ℕ → ℕ) (k v : ℕ) → with_number k v f k ≡ v
with_same f k v = ap (λ b. cond b v (f k)) (eq-eqb k k refl)

pub with_other : (f : ℕ → ℕ) (k v q : ℕ) → eqb q k ≡ false → with_number k v f q ≡ f q
with_other f k v q e = ap (λ b. cond b v (f q)) e

word_below : (n : ℕ) → n % 2 ^ 32 < 2 ^ 32
word_below n = mod-lt n {m = 2 ^ 32} (omega arith)

words_set : (c : RegisterContents) (d v : ℕ) → AreWords c → v < 2 ^ 32 → (r : ℕ) → with_number d v c.register r < 2 ^ 32
words_set c d v all below r = cond_both (eqb r d) v (c.register r) (λ w. w < 2 ^ 32) (λ e. below) (λ e. all r)

quotient_below : (x y : ℕ) → x < 2 ^ 32 → quotient_of x y < 2 ^ 32
quotient_below x y below = cond_both (eqb y 0) (2 ^ 32 - 1) (x / y) (λ w. w < 2 ^ 32) (λ e. omega arith) (λ e. omega (arith, div-le_self x y, below))

pub words_left : (i : Instr) (c : RegisterContents) → is_straight i ≡ true → AreWords c → AreWords (left_by i c)
words_left Halt c plain all = all
words_left (Li d n) c plain all = words_set c d n all (ltb-true n (2 ^ 32) plain)
words_left (Addi d a n) c plain all = words_set c d _ all (word_below (c.register a + n))
words_left (Add d a b) c plain all = words_set c d _ all (word_below (c.register a + c.register b))
words_left (Sub d a b) c plain all = words_set c d _ all (word_below (c.register a + (2 ^ 32 - c.register b)))
words_left (Mul d a b) c plain all = words_set c d _ all (word_below (c.register a * c.register b))
words_left (Div d a b) c plain all = words_set c d _ all (quotient_below (c.register a) (c.register b) (all a))
words_left (Bnz a to) c plain all = cc
words_left (Blt a b to) c plain all = cc
words_left (Jmp to) c plain all = all
words_left (Set field a) c plain all = all
words_left (Vec kind) c plain all = all
words_left (Dma write) c plain all = all
words_left (Rwait a) c plain all = all
words_left (Wwait a) c plain all = all
words_left Vwait c plain all = all
words_left (Tag a) c plain all = all
words_left (Twait a) c plain all = all

words_repeated : (n : ℕ) (turn : RegisterContents → RegisterContents) (c : RegisterContents) → ((c : RegisterContents) → AreWords c → AreWords (turn c)) → AreWords c → AreWords (repeated n turn c)
words_repeated zero turn c kept all = all
words_repeated (suc n) turn c kept all = words_repeated n turn (turn c) kept (kept c all)

pub words_kept : (x : Block) (c : RegisterContents) → is_sound x ≡ true → AreWords c → AreWords (after x c)
words_kept Empty c sound all = all
words_kept (Do i) c sound all = words_left i c sound all
words_kept (Then x y) c sound all =
    let p = and_parts (is_sound x) (is_sound y) sound in
    words_kept y (after x c) p.1 (words_kept x c p.0 all)
words_kept (Unless a b x) c sound all = cond_both (ltb (c.register a) (c.register b)) c (after x c) AreWords (λ e. all) (λ e. words_kept x c sound all)
words_kept (Turns k x) c sound all =
    let p = and_parts (is_sound x) (not (writes x k)) sound in
    words_repeated (c.register k) (λ c. left_by (one_less k) (after x c)) c (λ c all. words_left (one_less k) (after x c) refl (words_kept x c p.0 all)) all

-- ---- what a block leaves alone

either_keeps : (b : Bool) (h g : Host) (r : ℕ) → h.register r ≡ g.register r → (cond b h g).register r ≡ g.register r
either_keeps true h g r e = e
either_keeps false h g r e = refl

instr_keeps : (i : Instr) (r : ℕ) (c : RegisterContents) → sets i r ≡ false → (left_by i c).register r ≡ c.register r
instr_keeps Halt r c e = refl
instr_keeps (Li d n) r c e = with_other c.register d _ r e
instr_keeps (Addi d a n) r c e = with_other c.register d _ r e
instr_keeps (Add d a b) r c e = with_other c.register d _ r e
instr_keeps (Sub d a b) r c e = with_other c.register d _ r e
instr_keeps (Mul d a b) r c e = with_other c.register d _ r e
instr_keeps (Div d a b) r c e = with_other c.register d _ r e
instr_keeps (Bnz a to) r c e = either_keeps (eqb (c.register a) 0) (going_on (standing 0 c)) (going_to to (standing 0 c)) r refl
instr_keeps (Blt a b to) r c e = either_keeps (ltb (c.register a) (c.register b)) (going_to to (standing 0 c)) (going_on (standing 0 c)) r refl
instr_keeps (Jmp to) r c e = refl
instr_keeps (Set field a) r c e = refl
instr_keeps (Vec kind) r c e = refl
instr_keeps (Dma write) r c e = refl
instr_keeps (Rwait a) r c e = refl
instr_keeps (Wwait a) r c e = refl
instr_keeps Vwait r c e = refl
instr_keeps (Tag a) r c e = refl
instr_keeps (Twait a) r c e = refl

repeated_keeps : (n : ℕ) (turn : RegisterContents → RegisterContents) (r : ℕ) (c : RegisterContents) → ((c : RegisterContents) → (turn c).register r ≡ c.register r) → (repeated n turn c).register r ≡ c.register r
repeated_keeps zero turn r c kept = refl
repeated_keeps (suc n) turn r c kept = repeated_keeps n turn r (turn c) kept ∙ kept c

pub keeps_others : KeepsOthers
keeps_others Empty r c e = refl
keeps_others (Do i) r c e = instr_keeps i r c e
keeps_others (Then x y) r c e = let p = or_parts (writes x r) (writes y r) e in keeps_others y r (after x c) p.1 ∙ keeps_others x r c p.0
keeps_others (Unless a b x) r c e = cond_both (ltb (c.register a) (c.register b)) c (after x c) (λ g. g.register r ≡ c.register r) (λ e. refl) (λ f. keeps_others x r c e)
keeps_others (Turns k x) r c e =
    let p = or_parts (eqb r k) (writes x r) e in
    repeated_keeps (c.register k) (λ c. left_by (one_less k) (after x c)) r c (λ c. with_other (after x c).register k _ r p.0 ∙ keeps_others x r c p.1)

-- ---- one after another

pub less_one : (n : ℕ) → suc n < 2 ^ 32 → sum_of (suc n) (2 ^ 32 - 1) ≡ n
less_one n below =
    let e : suc n + (2 ^ 32 - 1) ≡ n + 2 ^ 32 = omega arith in
    ap (λ m. m % 2 ^ 32) e ∙ add-mod_right n (2 ^ 32) ∙ mod-eq_of_lt (omega (arith, below))

module _ (code : List Instr) where
  steps_after : (l k : ℕ) (h : Host) → after_steps code (k + l) h ≡ after_steps code l (after_steps code k h)
  steps_after zero k h = let e : k + zero ≡ k = omega arith in ap (λ n. after_steps code n h) e
  steps_after (suc l) k h =
      let e : k + suc l ≡ suc (k + l) = omega arith in
      ap (λ n. after_steps code n h) e ∙ ap (next code) (steps_after l k h)

  passed_after : (l k : ℕ) (h : Host) → passed_in code (k + l) h ≡ passed_in code k h ++ passed_in code l (after_steps code k h)
  passed_after zero k h = let e : k + zero ≡ k = omega arith in ap (λ n. passed_in code n h) e ∙ sym (append-nil (passed_in code k h))
  passed_after (suc l) k h =
      let e : k + suc l ≡ suc (k + l) = omega arith in
      let here : Host → List Issue = λ g. passed_by (deed code g) in
      ap (λ n. passed_in code n h) e ∙ ap (λ xs. xs ++ here (after_steps code (k + l) h)) (passed_after l k h)
      ∙ ap (λ g. (passed_in code k h ++ passed_in code l (after_steps code k h)) ++ here g) (steps_after l k h)
      ∙ append_assoc (passed_in code k h) (passed_in code l (after_steps code k h)) (here (after_steps code l (after_steps code k h)))

  -- from one place to another in k steps, which pass on xs
  record Goes (c : RegisterContents) (place k : ℕ) (xs : List Issue) (c' : RegisterContents) (place' : ℕ) : Type 0 where
    arrives : after_steps code k (standing place c) ≡ standing place' c'
    passes : passed_in code k (standing place c) ≡ xs

  stays : (c : RegisterContents) (place : ℕ) → Goes c place 0 [] c place
  stays c place = record { arrives = refl; passes = refl }

  goes_on : {c c1 c2 : RegisterContents} {p p1 p2 k l : ℕ} {xs ys : List Issue} → Goes c p k xs c1 p1 → Goes c1 p1 l ys c2 p2 → Goes c p (k + l) (xs ++ ys) c2 p2
  goes_on {c} {c1} {c2} {p} {p1} {p2} {k} {l} {xs} {ys} first second = record {
    arrives = steps_after l k (standing p c) ∙ ap (λ h. after_steps code l h) first.arrives ∙ second.arrives;
    passes = passed_after l k (standing p c) ∙ ap (λ zs. zs ++ passed_in code l (after_steps code k (standing p c))) first.passes
        ∙ ap (λ h. xs ++ passed_in code l h) first.arrives ∙ ap (λ zs. xs ++ zs) second.passes;
  }

  ends_at : {c c1 : RegisterContents} {p p1 p2 k : ℕ} {xs : List Issue} → p1 ≡ p2 → Goes c p k xs c1 p1 → Goes c p k xs c1 p2
  ends_at {c} {c1} {p} {p1} {p2} {k} {xs} e goes = subst (λ q. Goes c p k xs c1 q) e goes

  takes : {c c1 : RegisterContents} {p p1 k l : ℕ} {xs : List Issue} → k ≡ l → Goes c p k xs c1 p1 → Goes c p l xs c1 p1
  takes {c} {c1} {p} {p1} {k} {l} {xs} e goes = subst (λ k. Goes c p k xs c1 p1) e goes

  -- one instruction
  one : (i : Instr) (c c' : RegisterContents) (place place' : ℕ) (xs : List Issue) → slice_get code place ≡ Some i → after_instr i (standing place c) ≡ standing place' c' → passed_by (deed_of i (standing place c)) ≡ xs
      → Goes c place 1 xs c' place'
  one i c c' place place' xs at arrives passes = record {
    arrives = ap (λ o. after_at o (standing place c)) at ∙ arrives;
    passes = ap (λ o. passed_by (deed_at o (standing place c))) at ∙ passes;
  }

  straight : (i : Instr) (c : RegisterContents) (place : ℕ) → slice_get code place ≡ Some i → is_straight i ≡ true → Goes c place 1 (issues_by i c) (left_by i c) (place + 1)
  straight i c place at plain = one i c (left_by i c) place (place + 1) (issues_by i c) at (goes_next i plain) (says i)
    where
      goes_next : (i : Instr) → is_straight i ≡ true → after_instr i (standing place c) ≡ standing (place + 1) (left_by i c)
      goes_next Halt plain = cc
      goes_next (Bnz a to) plain = cc
      goes_next (Blt a b to) plain = cc
      goes_next (Jmp to) plain = cc
      goes_next (Li d n) plain = refl
      goes_next _ plain = refl

      says : (i : Instr) → passed_by (deed_of i (standing place c)) ≡ issues_by i c
      says (Dma true) = refl
      says (Dma false) = refl
      says _ = refl

  -- a jump to one of two places
  jumps : (b : Bool) (i : Instr) (c : RegisterContents) (place to other : ℕ) → slice_get code place ≡ Some i → after_instr i (standing place c) ≡ cond b (standing to c) (standing other c) → passed_by (deed_of i (standing place c)) ≡ []
      → Goes c place 1 [] c (cond b to other)
  jumps true i c place to other at arrives passes = one i c c place to [] at arrives passes
  jumps false i c place to other at arrives passes = one i c c place other [] at arrives passes

  -- from the test at a loop's end
  turns_run : (n k place : ℕ) (x : Block) (c : RegisterContents) → c.register k ≡ n → writes x k ≡ false → is_sound x ≡ true → AreWords c
      → ((c : RegisterContents) → AreWords c → Goes c (place + 1) (steps x c) (issues x c) (after x c) (place + 1 + size x))
      → slice_get code (place + 1 + size x) ≡ Some (one_less k) → slice_get code (place + 1 + size x + 1) ≡ Some (Bnz k (place + 1))
      → Goes c (place + 1 + size x + 1) (1 + repeated_steps n (λ c. left_by (one_less k) (after x c)) (steps x) c)
      (repeated_issues n (λ c. left_by (one_less k) (after x c)) (issues x) c)
      (repeated n (λ c. left_by (one_less k) (after x c)) c) (place + (size x + 3))
  turns_run zero k place x c is free sound all body back test =
      let falls : cond (eqb (c.register k) 0) (place + 1 + size x + 1 + 1) (place + 1) ≡ place + (size x + 3) = cond-true _ _ _ (eq-eqb (c.register k) 0 is) ∙ omega arith in
      ends_at falls (jumps (eqb (c.register k) 0) (Bnz k (place + 1)) c (place + 1 + size x + 1) (place + 1 + size x + 1 + 1) (place + 1) test refl refl)
  turns_run (suc n) k place x c is free sound all body back test =
      let more : eqb (c.register k) 0 ≡ false = ne_eqb (c.register k) 0 (λ e. omega (arith, e, is)) in
      let jump = ends_at (cond-false _ _ _ more) (jumps (eqb (c.register k) 0) (Bnz k (place + 1)) c (place + 1 + size x + 1) (place + 1 + size x + 1 + 1) (place + 1) test refl refl) in
      let c' = left_by (one_less k) (after x c) in
      let less : c'.register k ≡ n = with_same (after x c).register k _ ∙ ap (λ v. sum_of v (2 ^ 32 - 1)) (keeps_others x k c free ∙ is) ∙ less_one n (subst (λ v. v < 2 ^ 32) is (all k)) in
      let rest = turns_run n k place x c' less free sound (words_left (one_less k) (after x c) refl (words_kept x c sound all)) body back test in
      takes (omega arith) (goes_on jump (goes_on (body c all) (goes_on (straight (one_less k) (after x c) (place + 1 + size x) back refl) rest)))

  runs : (x : Block) (place : ℕ) (c : RegisterContents) → is_sound x ≡ true → AreWords c → HasAt code place (instrs_at x place) → Goes c place (steps x c) (issues x c) (after x c) (place + size x)
  runs Empty place c sound all has = ends_at (omega arith) (stays c place)
  runs (Do i) place c sound all has = straight i c place has.0 sound
  runs (Then x y) place c sound all has =
      let p = and_parts (is_sound x) (is_sound y) sound in
      let back = subst (λ n. HasAt code (place + n) (instrs_at y (place + size x))) (instrs_length x place) (has_back code place (instrs_at x place) _ has) in
      ends_at (omega arith) (goes_on (runs x place c p.0 all (has_front code place (instrs_at x place) _ has)) (runs y (place + size x) (after x c) p.1 (words_kept x c p.0 all) back))
  runs (Unless a b x) place c sound all has = go (ltb (c.register a) (c.register b)) refl (runs x (place + 1) c sound all has.1)
    where
      test : Goes c place 1 [] c (cond (ltb (c.register a) (c.register b)) (place + 1 + size x) (place + 1))
      test = jumps (ltb (c.register a) (c.register b)) (Blt a b (place + 1 + size x)) c place (place + 1 + size x) (place + 1) has.0 refl refl

      go : (less : Bool) → ltb (c.register a) (c.register b) ≡ less → Goes c (place + 1) (steps x c) (issues x c) (after x c) (place + 1 + size x)
          → Goes c place (1 + cond less 0 (steps x c)) (cond less [] (issues x c)) (cond less c (after x c)) (place + (size x + 1))
      go true e inner = ends_at (cond-true _ _ _ e ∙ omega arith) test
      go false e inner = ends_at (omega arith) (goes_on (ends_at (cond-false _ _ _ e) test) inner)
  runs (Turns k x) place c sound all has =
      let p = and_parts (is_sound x) (not (writes x k)) sound in
      let ends = one_less k ∷ Bnz k (place + 1) ∷ [] in
      let back = subst (λ n. HasAt code (place + 1 + n) ends) (instrs_length x (place + 1)) (has_back code (place + 1) (instrs_at x (place + 1)) ends has.1) in
      takes (omega arith) (goes_on (one (Jmp (place + 1 + size x + 1)) c c place (place + 1 + size x + 1) [] has.0 refl refl)
      (turns_run (c.register k) k place x c refl (not-true (writes x k) p.1) p.0 all (λ c all. runs x (place + 1) c p.0 all (has_front code (place + 1) (instrs_at x (place + 1)) ends has.1)) back.0 back.1.0))

pub runs_on : RunsOn
runs_on code place x c sound all has =
    let goes = runs code x place c sound all has in
    record { arrives = goes.arrives; passes = goes.passes }

pub is_its_code : IsItsCode
is_its_code x n sound less =
    let code = instrs_at x 0 ++ Halt ∷ [] in
    let all : AreWords first_contents = λ r. omega arith in
    let goes = runs_on code 0 x first_contents sound all (has_all (instrs_at x 0) [] (Halt ∷ [])) in
    let last : slice_get code (0 + size x) ≡ Some Halt = ap (λ n. slice_get code n) (sym (omega (arith, instrs_length x 0))) ∙ end_at (instrs_at x 0) in
    let halts : is_halt (deed code (after_steps code (steps x first_contents) start)) ≡ true =
    ap (λ h. is_halt (deed code h)) goes.arrives ∙ ap (λ o. is_halt (deed_at o (standing (0 + size x) (after x first_contents)))) last in
    issue_list_found code (steps x first_contents) n less halts ∙ ap (λ xs. Some xs) goes.passes
  where
    end_at : (is : List Instr) → slice_get (is ++ Halt ∷ []) (length is) ≡ Some Halt
    end_at is = (has_all (Halt ∷ []) is []).0

pub blocks_run : BlocksRun
blocks_run = record { runs_on = runs_on; keeps_others = keeps_others; is_its_code = is_its_code }
