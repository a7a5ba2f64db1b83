-- Steps of the host: it stays in its code, and one that has come to HALT stays there.
use Rattle.std.proofs.Common.{◌≡◌, ◌≢◌, ℕ, zero, suc, ◌+◌, ◌-◌, ◌<◌, Bool, true, false, cond, eqb, ltb, List, [], ◌++◌, length, get_or, Option, Some, None, refl, sym, ap, ◌∙◌, subst, inl, inr, arith}
use Rattle.std.specs.Prelude.{replicate, slice_get}
use Rattle.std.proofs.lemmas.Bool.{cases_lt, cond-true, cond-false}
use Rattle.std.proofs.lemmas.List.{get_or-replicate, get_or_past, length-replicate, append-nil}
use Rattle.std.proofs.lemmas.List.Elements.{All-get_or}
use Rattle.std.proofs.lemmas.Option.{get_or_from_slice_get, slice_get_past, slice_get_within}
use Rattle.venice_isa.specs.declared.instr.Instr.{Instr}
use Rattle.venice_isa.specs.declared.instr.Instr.TheVariants.{Halt, Li, Addi, Add, Sub, Mul, Div, Bnz, Blt, Jmp, Set, Vec, Dma, Rwait, Wwait, Vwait, Tag, Twait}
use Rattle.venice_isa.specs.Code.{Listing, IsCode, HasTargetBelow}
use Rattle.venice_isa.specs.Host.{Host, start, after_instr, deed_of, deed_at, after_at, deed, next, after_steps, passed_in, passed_by, is_halt, going_to, going_on, issue_list}

-- a list of zeros has nothing else
pub zeros : (n r : ℕ) → ◌≡◌ {A = ℕ} (get_or (replicate n zero) r zero) zero
zeros n r = elim (cases_lt r n) [
  | inl lt ↦ get_or-replicate n r 0 0 lt
  | inr le ↦ get_or_past (replicate n 0) r 0 (omega (arith, length-replicate n zero))
]

-- ---- the place stays in the code

-- wherever a branch goes
branch_below : (b : Bool) (host : Host) (to end : ℕ) → to < end → host.place + 1 < end → (cond b (going_to to host) (going_on host)).place < end
branch_below true host to end one other = one
branch_below false host to end one other = other

stay_below : (b : Bool) (host : Host) (to end : ℕ) → to < end → host.place + 1 < end → (cond b (going_on host) (going_to to host)).place < end
stay_below true host to end one other = other
stay_below false host to end one other = one

instr_below : (instr : Instr) (host : Host) (end : ℕ) → HasTargetBelow end instr → host.place < end → (instr ≢ Halt → host.place + 1 < end) → (after_instr instr host).place < end
instr_below Halt host end target here more = here
instr_below (Li d n) host end target here more = more (λ e. cc)
instr_below (Addi d a n) host end target here more = more (λ e. cc)
instr_below (Add d a b) host end target here more = more (λ e. cc)
instr_below (Sub d a b) host end target here more = more (λ e. cc)
instr_below (Mul d a b) host end target here more = more (λ e. cc)
instr_below (Div d a b) host end target here more = more (λ e. cc)
instr_below (Bnz a to) host end target here more = stay_below (eqb (host.register a) 0) host to end target (more (λ e. cc))
instr_below (Blt a b to) host end target here more = branch_below (ltb (host.register a) (host.register b)) host to end target (more (λ e. cc))
instr_below (Jmp to) host end target here more = target
instr_below (Set field a) host end target here more = more (λ e. cc)
instr_below (Vec kind) host end target here more = more (λ e. cc)
instr_below (Dma write) host end target here more = more (λ e. cc)
instr_below (Rwait a) host end target here more = more (λ e. cc)
instr_below (Wwait a) host end target here more = more (λ e. cc)
instr_below Vwait host end target here more = more (λ e. cc)
instr_below (Tag a) host end target here more = more (λ e. cc)
instr_below (Twait a) host end target here more = more (λ e. cc)

-- only the last place has no next one, and HALT stands there
more_or_halt : (code : Listing) (place : ℕ) (instr : Instr) → IsCode code → slice_get code.instrs place ≡ Some instr → instr ≢ Halt → place + 1 < length code.instrs
more_or_halt code place instr is_code at no_halt = elim (cases_lt (place + 1) (length code.instrs)) [
  | inl lt ↦ lt
  | inr le ↦
      let within : place < length code.instrs = slice_get_within code.instrs place instr at in
      let last : length code.instrs - 1 ≡ place = omega arith in
      let there : get_or code.instrs place Halt ≡ instr = get_or_from_slice_get code.instrs place instr Halt at in
      absurd (no_halt (sym there ∙ ap (λ q. get_or code.instrs q Halt) (sym last) ∙ get_or_from_slice_get code.instrs (length code.instrs - 1) Halt Halt is_code.ends))
]

stays_at : (code : Listing) (host : Host) (at : Option Instr) → IsCode code → slice_get code.instrs host.place ≡ at → host.place < length code.instrs → (after_at at host).place < length code.instrs
stays_at code host None is_code e within = within
stays_at code host (Some instr) is_code e within =
    let there : get_or code.instrs host.place Halt ≡ instr = get_or_from_slice_get code.instrs host.place instr Halt e in
    instr_below instr host (length code.instrs)
    (subst (HasTargetBelow (length code.instrs)) there (All-get_or (HasTargetBelow (length code.instrs)) code.instrs host.place Halt within is_code.targets)) within
    (more_or_halt code host.place instr is_code e)

pub stays_in_code : (code : Listing) (host : Host) → IsCode code → host.place < length code.instrs → (next code.instrs host).place < length code.instrs
stays_in_code code host is_code within = stays_at code host (slice_get code.instrs host.place) is_code refl within

pub steps_stay_in_code : (code : Listing) (n : ℕ) (host : Host) → IsCode code → host.place < length code.instrs → (after_steps code.instrs n host).place < length code.instrs
steps_stay_in_code code zero host is_code within = within
steps_stay_in_code code (suc n) host is_code within = stays_in_code code (after_steps code.instrs n host) is_code (steps_stay_in_code code n host is_code within)

-- ---- HALT is for good

halts_is : (instr : Instr) (host : Host) → is_halt (deed_of instr host) ≡ true → instr ≡ Halt
halts_is Halt host e = refl
halts_is (Li d n) host e = absurd cc
halts_is (Addi d a n) host e = absurd cc
halts_is (Add d a b) host e = absurd cc
halts_is (Sub d a b) host e = absurd cc
halts_is (Mul d a b) host e = absurd cc
halts_is (Div d a b) host e = absurd cc
halts_is (Bnz a to) host e = absurd cc
halts_is (Blt a b to) host e = absurd cc
halts_is (Jmp to) host e = absurd cc
halts_is (Set field a) host e = absurd cc
halts_is (Vec kind) host e = absurd cc
halts_is (Dma true) host e = absurd cc
halts_is (Dma false) host e = absurd cc
halts_is (Rwait a) host e = absurd cc
halts_is (Wwait a) host e = absurd cc
halts_is Vwait host e = absurd cc
halts_is (Tag a) host e = absurd cc
halts_is (Twait a) host e = absurd cc

halted_stays : (at : Option Instr) (host : Host) → is_halt (deed_at at host) ≡ true → after_at at host ≡ host
halted_stays None host e = refl
halted_stays (Some instr) host e = ap (λ i. after_instr i host) (halts_is instr host e)

halted_passes : (at : Option Instr) (host : Host) → is_halt (deed_at at host) ≡ true → passed_by (deed_at at host) ≡ []
halted_passes None host e = refl
halted_passes (Some instr) host e = ap (λ i. passed_by (deed_of i host)) (halts_is instr host e)

-- a host that is at HALT after k steps is there after any more, and passes nothing more
pub halted_for_good : (instrs : List Instr) (k more : ℕ) → is_halt (deed instrs (after_steps instrs k start)) ≡ true
    → (after_steps instrs (more + k) start ≡ after_steps instrs k start) × (passed_in instrs (more + k) start ≡ passed_in instrs k start)
halted_for_good instrs k zero halts =
    let count : zero + k ≡ k = omega arith in
    (ap (λ q. after_steps instrs q start) count, ap (λ q. passed_in instrs q start) count)
halted_for_good instrs k (suc more) halts =
    let before = halted_for_good instrs k more halts in
    let count : suc more + k ≡ suc (more + k) = omega arith in
    let at = after_steps instrs k start in
    let stays : next instrs (after_steps instrs (more + k) start) ≡ at = ap (next instrs) before.0 ∙ halted_stays (slice_get instrs at.place) at halts in
    let nothing : passed_by (deed instrs (after_steps instrs (more + k) start)) ≡ [] = ap (λ h. passed_by (deed instrs h)) before.0 ∙ halted_passes (slice_get instrs at.place) at halts in (
      ap (λ q. after_steps instrs q start) count ∙ stays,
      ap (λ q. passed_in instrs q start) count ∙ ap (λ xs. passed_in instrs (more + k) start ++ xs) nothing ∙ append-nil (passed_in instrs (more + k) start) ∙ before.1,
    )

-- ---- the issue list

-- what was passed up to HALT is the issue list, within any greater number of steps
pub issue_list_found : (instrs : List Instr) (k n : ℕ) → k < n → is_halt (deed instrs (after_steps instrs k start)) ≡ true → issue_list instrs n ≡ Some (passed_in instrs k start)
unfolding issue_list
issue_list_found instrs k zero less halts = absurd (omega arith)
issue_list_found instrs k (suc n) less halts =
    let good = halted_for_good instrs k (n - k) halts in
    let count : n - k + k ≡ n = omega arith in
    let same : after_steps instrs n start ≡ after_steps instrs k start = ap (λ q. after_steps instrs q start) (sym count) ∙ good.0 in
    let passes : passed_in instrs n start ≡ passed_in instrs k start = ap (λ q. passed_in instrs q start) (sym count) ∙ good.1 in
    let there : is_halt (deed instrs (after_steps instrs n start)) ≡ true = ap (λ h. is_halt (deed instrs h)) same ∙ halts in
    cond-true (is_halt (deed instrs (after_steps instrs n start))) (Some (passed_in instrs n start)) None there ∙ ap (λ xs. Some xs) passes

-- where no step so far has made HALT there is none
pub no_issue_list : (instrs : List Instr) (n : ℕ) → ((k : ℕ) → k < n → is_halt (deed instrs (after_steps instrs k start)) ≡ false) → issue_list instrs n ≡ None
unfolding issue_list
no_issue_list instrs zero goes_on = refl
no_issue_list instrs (suc n) goes_on = cond-false (is_halt (deed instrs (after_steps instrs n start))) (Some (passed_in instrs n start)) None (goes_on n (omega arith))

-- ---- a loop over steps

-- code has a first instruction
pub some_code : (code : Listing) → IsCode code → 0 < length code.instrs
some_code code is_code = elim (cases_lt 0 (length code.instrs)) [
  | inl lt ↦ lt
  | inr le ↦
      let last : slice_get code.instrs (length code.instrs - 1) ≡ None = slice_get_past code.instrs (length code.instrs - 1) (omega arith) in
      absurd (cc (last, is_code.ends))
]

-- none of the first n + 1 steps halts
pub goes_on_more : (instrs : List Instr) (n : ℕ) → ((k : ℕ) → k < n → is_halt (deed instrs (after_steps instrs k start)) ≡ false) → is_halt (deed instrs (after_steps instrs n start)) ≡ false
    → (k : ℕ) → k < n + 1 → is_halt (deed instrs (after_steps instrs k start)) ≡ false
goes_on_more instrs n before here k less = elim (cases_lt k n) [
  | inl lt ↦ before k lt
  | inr le ↦ let same : n ≡ k = omega arith in subst (λ q. is_halt (deed instrs (after_steps instrs q start)) ≡ false) same here
]
