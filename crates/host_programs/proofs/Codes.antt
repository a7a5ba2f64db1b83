-- The code of a program is code: its registers are few, its numbers have 32 bits, and its jumps stay in it.
use Rattle.std.proofs.Common.{◌≡◌, ℕ, ◌+◌, ◌-◌, ◌^◌, ◌<◌, ◌≤◌, max, List, [], ◌∷◌, ◌++◌, All, length, refl, sym, ap, ◌∙◌, arith, length-append, true, subst}
use Rattle.std.specs.Prelude.{◌&&◌, not, slice_get}
use Rattle.std.proofs.Math.Nat.{mod-lt}
use Rattle.std.proofs.lemmas.Bool.{and_parts, ltb-true}
use Rattle.std.proofs.lemmas.List.Elements.{All-cons, All-nil, All-append}
use Rattle.venice_isa.specs.declared.op.VecOp.{VecOp}
use Rattle.venice_isa.specs.declared.op.VecOp.TheVariants.{Sadd, Ssub}
use Rattle.venice_isa.specs.declared.instr.Version.TheVariants.{Two}
use Rattle.venice_isa.specs.declared.instr.Instr.{Instr}
use Rattle.venice_isa.specs.declared.instr.Instr.TheVariants.{Halt, Bnz, Blt, Jmp, Vec, Tag, Twait}
use Rattle.venice_isa.specs.Instr.{IsRegister, HasRanges, IsInstr, has_operation, has_instr}
use Rattle.venice_isa.specs.Code.{IsCode, HasTargetBelow}
use Rattle.host_programs.specs.Block.{Block, Empty, Do, Then, Unless, Turns, one_less, size, instrs_at, is_sound, is_straight, writes}
use Rattle.host_programs.specs.Expr.{Expr, Number, Variable, Offset, Sum, Difference, Product, Quotient, Remainder, IfLess, word, is_below, unless_variable, register_of, put, bring}
use Rattle.host_programs.specs.Program.{Order, IssueTransfer, IssueVector, AwaitReads, AwaitWrites, AwaitLanes, AwaitTag, Program, Idle, Emit, Both, UnlessLess, Let, For, Carry}
use Rattle.host_programs.specs.ProgramCode.{Setting, transfer_settings, vector_settings, settings_block, order_block, block_of, are_below, is_order_closed, is_closed}
use Rattle.host_programs.specs.Room.{room, settings_room, order_room, program_room}
use Rattle.host_programs.specs.Coded.{IsCodable, listing_of, ProgramsAreCode}
use Rattle.host_programs.proofs.Blocks.{instrs_length, has_all}
use Rattle.host_programs.proofs.Exprs.{below_more, operand_low}
use Rattle.host_programs.proofs.Programs.{block_sound, programs_compile}

-- ---- instructions

second_operation : (op : VecOp) → has_operation Two op ≡ true
second_operation Sadd = refl
second_operation Ssub = refl
second_operation _ = refl

second_instr : (i : Instr) → has_instr Two i ≡ true
second_instr (Vec kind) = second_operation kind.op
second_instr (Tag a) = refl
second_instr (Twait a) = refl
second_instr _ = refl

-- the registers and numbers of a block
abbrev InRange : Block → Type 0
InRange Empty = Unit {0}
InRange (Do i) = HasRanges i
InRange (Then x y) = InRange x × InRange y
InRange (Unless a b x) = IsRegister a × IsRegister b × InRange x
InRange (Turns c x) = IsRegister c × InRange x

instr_is : (i : Instr) → HasRanges i → IsInstr Two i
instr_is i ranges = record { in_version = second_instr i; ranges = ranges }

instrs_are : (x : Block) (place : ℕ) → InRange x → place + size x < 2 ^ 32 → All (IsInstr Two) (instrs_at x place)
instrs_are Empty place within few = All-nil (IsInstr Two)
instrs_are (Do i) place within few = All-cons (IsInstr Two) i [] (instr_is i within) (All-nil (IsInstr Two))
instrs_are (Then x y) place within few =
    All-append (IsInstr Two) (instrs_at x place) (instrs_at y (place + size x)) (instrs_are x place within.0 (omega (arith, few))) (instrs_are y (place + size x) within.1 (omega (arith, few)))
instrs_are (Unless a b x) place within few =
    let to : place + 1 + size x < 2 ^ 32 = omega (arith, few) in
    All-cons (IsInstr Two) (Blt a b (place + 1 + size x)) (instrs_at x (place + 1)) (instr_is _ (within.0, within.1, to)) (instrs_are x (place + 1) within.2 (omega (arith, few)))
instrs_are (Turns c x) place within few =
    let ends = one_less c ∷ Bnz c (place + 1) ∷ [] in
    let to : place + 1 + size x + 1 < 2 ^ 32 = omega (arith, few) in
    let body : place + 1 < 2 ^ 32 = omega (arith, few) in
    let most : 2 ^ 32 - 1 < 2 ^ 32 = omega arith in
    All-cons (IsInstr Two) (Jmp (place + 1 + size x + 1)) (instrs_at x (place + 1) ++ ends) (instr_is _ to)
    (All-append (IsInstr Two) (instrs_at x (place + 1)) ends (instrs_are x (place + 1) within.1 (omega (arith, few)))
    (All-cons (IsInstr Two) (one_less c) (Bnz c (place + 1) ∷ []) (instr_is _ (within.0, within.0, most))
    (All-cons (IsInstr Two) (Bnz c (place + 1)) [] (instr_is _ (within.0, body)) (All-nil (IsInstr Two)))))

-- ---- jumps

module _ (end : ℕ) where
  abbrev Stays : Instr → Type 0
  Stays i = HasTargetBelow end i

  straight_stays : (i : Instr) → is_straight i ≡ true → HasTargetBelow end i
  straight_stays Halt plain = cc
  straight_stays (Bnz a to) plain = cc
  straight_stays (Blt a b to) plain = cc
  straight_stays (Jmp to) plain = cc
  straight_stays _ plain = tt

  targets_stay : (x : Block) (place : ℕ) → place + size x < end → is_sound x ≡ true → All (HasTargetBelow end) (instrs_at x place)
  targets_stay Empty place lt sound = All-nil (HasTargetBelow end)
  targets_stay (Do i) place lt sound = All-cons (HasTargetBelow end) i [] (straight_stays i sound) (All-nil (HasTargetBelow end))
  targets_stay (Then x y) place lt sound =
      let p = and_parts (is_sound x) (is_sound y) sound in
      All-append (HasTargetBelow end) (instrs_at x place) (instrs_at y (place + size x)) (targets_stay x place (omega (arith, lt)) p.0) (targets_stay y (place + size x) (omega (arith, lt)) p.1)
  targets_stay (Unless a b x) place lt sound =
      let to : place + 1 + size x < end = omega (arith, lt) in
      All-cons (HasTargetBelow end) (Blt a b (place + 1 + size x)) (instrs_at x (place + 1)) to (targets_stay x (place + 1) (omega (arith, lt)) sound)
  targets_stay (Turns c x) place lt sound =
      let p = and_parts (is_sound x) (not (writes x c)) sound in
      let ends = one_less c ∷ Bnz c (place + 1) ∷ [] in
      let to : place + 1 + size x + 1 < end = omega (arith, lt) in
      let body : place + 1 < end = omega (arith, lt) in
      All-cons (HasTargetBelow end) (Jmp (place + 1 + size x + 1)) (instrs_at x (place + 1) ++ ends) to
      (All-append (HasTargetBelow end) (instrs_at x (place + 1)) ends (targets_stay x (place + 1) (omega (arith, lt)) p.0)
      (All-cons (HasTargetBelow end) (one_less c) (Bnz c (place + 1) ∷ []) tt (All-cons (HasTargetBelow end) (Bnz c (place + 1)) [] body (All-nil (HasTargetBelow end)))))

-- ---- registers

some_room : (e : Expr) → 1 ≤ room e
some_room (Number n) = omega arith
some_room (Variable r) = omega arith
some_room (Offset a n) = some_room a
some_room (Sum a b) = omega (arith, some_room a)
some_room (Difference a b) = omega (arith, some_room a)
some_room (Product a b) = omega (arith, some_room a)
some_room (Quotient a b) = omega (arith, some_room a)
some_room (Remainder a b) = omega (arith, some_room a)
some_room (IfLess a b x y) = omega (arith, some_room x)

operand_in : (e : Expr) (x : Block) → InRange x → InRange (unless_variable e Empty x)
operand_in (Variable r) x within = tt
operand_in _ x within = within

register_in : (e : Expr) (d k : ℕ) → d ≤ k → k < 32 → is_below e d ≡ true → IsRegister (register_of e k)
register_in e d k le few below = omega (arith, operand_low e d k le below, few)

word_in : (n : ℕ) → word n < 2 ^ 32
word_in n = mod-lt n {m = 2 ^ 32} (omega arith)

register_at : (e : Expr) (d : ℕ) → d + room e ≤ 32 → d < 32
register_at e d few = omega (arith, few, some_room e)

put_in : (e : Expr) (d : ℕ) → is_below e d ≡ true → d + room e ≤ 32 → InRange (put e d)
put_in (Number n) d below few = (omega (arith, few), word_in n)
put_in (Variable r) d below few =
    let zero_word : 0 < 2 ^ 32 = omega arith in
    (omega (arith, few), omega (arith, few, ltb-true r d below), zero_word)
put_in (Offset a n) d below few =
    let here = register_at a d few in
    (operand_in a _ (put_in a d below few), (here, register_in a d d (omega arith) here below, word_in n))
put_in (Sum a b) d below few =
    let p = and_parts (is_below a d) (is_below b d) below in
    let fa : d + room a ≤ 32 = omega (arith, few) in
    let fb : d + 1 + room b ≤ 32 = omega (arith, few) in
    let here = register_at a d fa in
    let next = register_at b (d + 1) fb in
    let s = register_in a d d (omega arith) here p.0 in
    let t = register_in b d (d + 1) (omega arith) next p.1 in
    let pa : InRange (bring a d) = operand_in a _ (put_in a d p.0 fa) in
    let low_b = below_more b d (d + 1) (omega arith) p.1 in
    let pb : InRange (bring b (d + 1)) = operand_in b _ (put_in b (d + 1) low_b fb) in
    (pa, (pb, (here, s, t)))
put_in (Difference a b) d below few =
    let p = and_parts (is_below a d) (is_below b d) below in
    let fa : d + room a ≤ 32 = omega (arith, few) in
    let fb : d + 1 + room b ≤ 32 = omega (arith, few) in
    let here = register_at a d fa in
    let next = register_at b (d + 1) fb in
    let s = register_in a d d (omega arith) here p.0 in
    let t = register_in b d (d + 1) (omega arith) next p.1 in
    let pa : InRange (bring a d) = operand_in a _ (put_in a d p.0 fa) in
    let low_b = below_more b d (d + 1) (omega arith) p.1 in
    let pb : InRange (bring b (d + 1)) = operand_in b _ (put_in b (d + 1) low_b fb) in
    (pa, (pb, (here, s, t)))
put_in (Product a b) d below few =
    let p = and_parts (is_below a d) (is_below b d) below in
    let fa : d + room a ≤ 32 = omega (arith, few) in
    let fb : d + 1 + room b ≤ 32 = omega (arith, few) in
    let here = register_at a d fa in
    let next = register_at b (d + 1) fb in
    let s = register_in a d d (omega arith) here p.0 in
    let t = register_in b d (d + 1) (omega arith) next p.1 in
    let pa : InRange (bring a d) = operand_in a _ (put_in a d p.0 fa) in
    let low_b = below_more b d (d + 1) (omega arith) p.1 in
    let pb : InRange (bring b (d + 1)) = operand_in b _ (put_in b (d + 1) low_b fb) in
    (pa, (pb, (here, s, t)))
put_in (Quotient a b) d below few =
    let p = and_parts (is_below a d) (is_below b d) below in
    let fa : d + room a ≤ 32 = omega (arith, few) in
    let fb : d + 1 + room b ≤ 32 = omega (arith, few) in
    let here = register_at a d fa in
    let next = register_at b (d + 1) fb in
    let s = register_in a d d (omega arith) here p.0 in
    let t = register_in b d (d + 1) (omega arith) next p.1 in
    let pa : InRange (bring a d) = operand_in a _ (put_in a d p.0 fa) in
    let low_b = below_more b d (d + 1) (omega arith) p.1 in
    let pb : InRange (bring b (d + 1)) = operand_in b _ (put_in b (d + 1) low_b fb) in
    (pa, (pb, (here, s, t)))
put_in (Remainder a b) d below few =
    let p = and_parts (is_below a d) (is_below b d) below in
    let fa : d + room a ≤ 32 = omega (arith, few) in
    let fb : d + 1 + room b ≤ 32 = omega (arith, few) in
    let here = register_at a d fa in
    let next = register_at b (d + 1) fb in
    let s = register_in a d d (omega arith) here p.0 in
    let t = register_in b d (d + 1) (omega arith) next p.1 in
    let pa : InRange (bring a d) = operand_in a _ (put_in a d p.0 fa) in
    let low_b = below_more b d (d + 1) (omega arith) p.1 in
    let pb : InRange (bring b (d + 1)) = operand_in b _ (put_in b (d + 1) low_b fb) in
    let last : d + 2 < 32 = omega (arith, few) in
    (pa, (pb, ((last, s, t), ((last, last, t), (here, s, last)))))
put_in (IfLess a b x y) d below few =
    let p = and_parts (is_below a d && is_below b d) (is_below x d && is_below y d) below in
    let q = and_parts (is_below a d) (is_below b d) p.0 in
    let s = and_parts (is_below x d) (is_below y d) p.1 in
    let fa : d + 1 + room a ≤ 32 = omega (arith, few) in
    let fb : d + 2 + room b ≤ 32 = omega (arith, few) in
    let low_a = below_more a d (d + 1) (omega arith) q.0 in
    let low_b = below_more b d (d + 2) (omega arith) q.1 in
    let pa : InRange (bring a (d + 1)) = operand_in a _ (put_in a (d + 1) low_a fa) in
    let pb : InRange (bring b (d + 2)) = operand_in b _ (put_in b (d + 2) low_b fb) in
    let u = register_in a d (d + 1) (omega arith) (register_at a (d + 1) fa) q.0 in
    let v = register_in b d (d + 2) (omega arith) (register_at b (d + 2) fb) q.1 in
    (put_in x d s.0 (omega (arith, few)), (pa, (pb, (u, v, put_in y d s.1 (omega (arith, few))))))

bring_in : (e : Expr) (d k : ℕ) → d ≤ k → is_below e d ≡ true → k + room e ≤ 32 → InRange (bring e k)
bring_in e d k le below few = operand_in e (put e k) (put_in e k (below_more e d k le below) few)

register_brought : (e : Expr) (d k : ℕ) → d ≤ k → is_below e d ≡ true → k + room e ≤ 32 → IsRegister (register_of e k)
register_brought e d k le below few = register_in e d k le (register_at e k few) below

-- parameters have the numbers of parameters
abbrev AreFields : List Setting → Type 0
AreFields [] = Unit {0}
AreFields (s ∷ rest) = (s.field < 14) × AreFields rest

settings_in : (ss : List Setting) (d : ℕ) → AreFields ss → are_below ss d ≡ true → d + settings_room ss ≤ 32 → InRange (settings_block ss d)
settings_in [] d fields below few = tt
settings_in (s ∷ ss) d fields below few =
    let p = and_parts (is_below s.expr d) (are_below ss d) below in
    let fs : d + room s.expr ≤ 32 = omega (arith, few) in
    (bring_in s.expr d d (omega arith) p.0 fs, ((fields.0, register_brought s.expr d d (omega arith) p.0 fs), settings_in ss d fields.1 p.1 (omega (arith, few))))

left : (d a b : ℕ) → d + max a b ≤ 32 → d + a ≤ 32
left d a b le = omega (arith, le)

right : (d a b : ℕ) → d + max a b ≤ 32 → d + b ≤ 32
right d a b le = omega (arith, le)

order_in : (o : Order) (d : ℕ) → is_order_closed o d ≡ true → d + order_room o ≤ 32 → InRange (order_block o d)
order_in (IssueTransfer write work) d closed few =
    let ss = transfer_settings work in
    let p = and_parts (are_below ss d) (is_below work.tag d) closed in
    let fields : AreFields ss = (omega arith, (omega arith, (omega arith, (omega arith, (omega arith, (omega arith, tt)))))) in
    let first = left d (settings_room ss) (room work.tag) few in
    let last = right d (settings_room ss) (room work.tag) few in
    (settings_in ss d fields p.0 first, (bring_in work.tag d d (omega arith) p.1 last, (register_brought work.tag d d (omega arith) p.1 last, tt)))
order_in (IssueVector work) d closed few =
    let ss = vector_settings work in
    let fields : AreFields ss = (omega arith, (omega arith, (omega arith, (omega arith, (omega arith, (omega arith, (omega arith, (omega arith, tt)))))))) in
    (settings_in ss d fields closed few, tt)
order_in (AwaitReads e) d closed few = (bring_in e d d (omega arith) closed few, register_brought e d d (omega arith) closed few)
order_in (AwaitWrites e) d closed few = (bring_in e d d (omega arith) closed few, register_brought e d d (omega arith) closed few)
order_in AwaitLanes d closed few = tt
order_in (AwaitTag e) d closed few = (bring_in e d d (omega arith) closed few, register_brought e d d (omega arith) closed few)

program_in : (p : Program) (d : ℕ) → is_closed p d ≡ true → d + program_room p ≤ 32 → InRange (block_of p d)
program_in Idle d closed few = tt
program_in (Emit o) d closed few = order_in o d closed few
program_in (Both p q) d closed few =
    let b = and_parts (is_closed p d) (is_closed q d) closed in
    (program_in p d b.0 (omega (arith, few)), program_in q d b.1 (omega (arith, few)))
program_in (UnlessLess a b p) d closed few =
    let s = and_parts (is_below a d) (is_below b d && is_closed p d) closed in
    let q = and_parts (is_below b d) (is_closed p d) s.1 in
    let fa : d + room a ≤ 32 = omega (arith, few) in
    let fb : d + 1 + room b ≤ 32 = omega (arith, few) in (
      bring_in a d d (omega arith) s.0 fa,
      (
        bring_in b d (d + 1) (omega arith) q.0 fb,
        (register_brought a d d (omega arith) s.0 fa, register_brought b d (d + 1) (omega arith) q.0 fb, program_in p d q.1 (omega (arith, few))),
      ),
    )
program_in (Let e p) d closed few =
    let s = and_parts (is_below e d) (is_closed p (d + 1)) closed in
    (put_in e d s.0 (omega (arith, few)), program_in p (d + 1) s.1 (omega (arith, few)))
program_in (For e p) d closed few =
    let s = and_parts (is_below e d) (is_closed p (d + 2)) closed in
    let here : d < 32 = omega (arith, few) in
    let next : d + 1 < 32 = omega (arith, few) in
    let zero_word : 0 < 2 ^ 32 = omega arith in
    let one_word : 1 < 2 ^ 32 = omega arith in
    (put_in e d s.0 (omega (arith, few)), ((next, zero_word), (here, (program_in p (d + 2) s.1 (omega (arith, few)), (next, next, one_word)))))
program_in (Carry e first next p) d closed few =
    let s = and_parts (is_below e d) (is_below first (d + 1) && (is_below next (d + 2) && is_closed p (d + 2))) closed in
    let q = and_parts (is_below first (d + 1)) (is_below next (d + 2) && is_closed p (d + 2)) s.1 in
    let u = and_parts (is_below next (d + 2)) (is_closed p (d + 2)) q.1 in
    let fe : d + room e ≤ 32 = omega (arith, few) in
    let fn : d + 2 + room next ≤ 32 = omega (arith, few) in
    let here = register_at e d fe in
    let one_more : d + 1 < 32 = omega (arith, few, some_room next) in
    let zero_word : 0 < 2 ^ 32 = omega arith in (
      put_in e d s.0 fe,
      (
        put_in first (d + 1) q.0 (omega (arith, few)),
        (
          here,
          (
            program_in p (d + 2) u.1 (omega (arith, few)),
            (bring_in next (d + 2) (d + 2) (omega arith) u.0 fn, (one_more, register_brought next (d + 2) (d + 2) (omega arith) u.0 fn, zero_word)),
          ),
        ),
      ),
    )

-- ---- the whole code

code_is : (p : Program) → IsCodable p → IsCode (listing_of p)
code_is p codable =
    let x = block_of p 0 in
    let code = instrs_at x 0 ++ Halt ∷ [] in
    let n : length code ≡ size x + 1 = omega (arith, length-append (instrs_at x 0) (Halt ∷ []), instrs_length x 0) in
    let within = program_in p 0 codable.closed (omega (arith, codable.registers)) in
    let targets = All-append (HasTargetBelow (size x + 1)) (instrs_at x 0) (Halt ∷ []) (targets_stay (size x + 1) x 0 (omega arith) (block_sound p 0)) (All-cons (HasTargetBelow (size x + 1)) Halt [] tt (All-nil (HasTargetBelow (size x + 1)))) in
    let last : length code - 1 ≡ length (instrs_at x 0) = omega (arith, n, instrs_length x 0) in
    record {
      each = All-append (IsInstr Two) (instrs_at x 0) (Halt ∷ []) (instrs_are x 0 within (omega (arith, codable.places))) (All-cons (IsInstr Two) Halt [] (instr_is Halt tt) (All-nil (IsInstr Two)));
      targets = subst (λ m. All (HasTargetBelow m) code) (sym n) targets;
      ends = ap (λ q. slice_get code q) last ∙ (has_all (Halt ∷ []) (instrs_at x 0) []).0;
      few = omega (arith, n, codable.places);
    }

pub programs_are_code : ProgramsAreCode
programs_are_code = record {
  is_code = code_is;
  issues = λ p codable fits n less. programs_compile.whole p n codable.closed fits less;
}
