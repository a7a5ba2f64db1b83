-- The size of a program's code, and its steps by exact values.
use Rattle.std.proofs.Common.{◌≡◌, ℕ, zero, suc, ◌+◌, ◌<◌, ◌≤◌, List, [], ◌∷◌, refl, ap, ◌∙◌, arith, Bool, true, false, cond, ltb}
use Rattle.std.proofs.lemmas.Bool.{cond_both}
use Rattle.venice_isa.specs.Host.{with_number}
use Rattle.host_programs.specs.Block.{Block, Empty, size}
use Rattle.host_programs.specs.Expr.{Expr, Number, Variable, Offset, Sum, Difference, Product, Quotient, Remainder, IfLess, value, machine_value, Fits, unless_variable, put, bring, cost, bring_cost}
use Rattle.host_programs.specs.Program.{Order, IssueTransfer, IssueVector, AwaitReads, AwaitWrites, AwaitLanes, AwaitTag, Program, Idle, Emit, Both, UnlessLess, Let, For, Carry, with_left, in_turn}
use Rattle.host_programs.specs.ProgramCode.{Setting, transfer_settings, vector_settings, settings_block, order_block, block_of, order_cost, turns_steps, carried_steps, steps_of}
use Rattle.host_programs.specs.ProgramFits.{FitsWord, OrderFits, CarriedFits, ProgramFits}
use Rattle.host_programs.proofs.Exprs.{cheaper, exact_value}
use Rattle.transfer_programs.specs.Cost.{expr_size, bring_size, settings_size, order_size, program_size, most_cost, most_bring, most_settings, most_order, most_steps}

-- ---- sizes

operand_size : (e : Expr) (x : Block) (n : ℕ) → size x ≡ n → size (unless_variable e Empty x) ≡ unless_variable e 0 n
operand_size (Variable r) x n is = refl
operand_size _ x n is = is

pub put_size : (e : Expr) (d : ℕ) → size (put e d) ≡ expr_size e
put_size (Number n) d = refl
put_size (Variable r) d = refl
put_size (Offset a n) d = let u = operand_size a _ _ (put_size a d) in omega (arith, u)
put_size (Sum a b) d = let u = operand_size a _ _ (put_size a d) in let v = operand_size b _ _ (put_size b (d + 1)) in omega (arith, u, v)
put_size (Difference a b) d = let u = operand_size a _ _ (put_size a d) in let v = operand_size b _ _ (put_size b (d + 1)) in omega (arith, u, v)
put_size (Product a b) d = let u = operand_size a _ _ (put_size a d) in let v = operand_size b _ _ (put_size b (d + 1)) in omega (arith, u, v)
put_size (Quotient a b) d = let u = operand_size a _ _ (put_size a d) in let v = operand_size b _ _ (put_size b (d + 1)) in omega (arith, u, v)
put_size (Remainder a b) d = let u = operand_size a _ _ (put_size a d) in let v = operand_size b _ _ (put_size b (d + 1)) in omega (arith, u, v)
put_size (IfLess a b x y) d =
    let u = operand_size a _ _ (put_size a (d + 1)) in
    let v = operand_size b _ _ (put_size b (d + 2)) in
    omega (arith, u, v, put_size x d, put_size y d)

pub bring_sized : (e : Expr) (d : ℕ) → size (bring e d) ≡ bring_size e
bring_sized e d = operand_size e _ _ (put_size e d)

settings_sized : (all : List Setting) (d : ℕ) → size (settings_block all d) ≡ settings_size all
settings_sized [] d = refl
settings_sized (s ∷ rest) d = omega (arith, bring_sized s.expr d, settings_sized rest d)

order_sized : (o : Order) (d : ℕ) → size (order_block o d) ≡ order_size o
order_sized (IssueTransfer write work) d = omega (arith, settings_sized (transfer_settings work) d, bring_sized work.tag d)
order_sized (IssueVector work) d = omega (arith, settings_sized (vector_settings work) d)
order_sized (AwaitReads e) d = omega (arith, bring_sized e d)
order_sized (AwaitWrites e) d = omega (arith, bring_sized e d)
order_sized AwaitLanes d = refl
order_sized (AwaitTag e) d = omega (arith, bring_sized e d)

pub block_sized : (p : Program) (d : ℕ) → size (block_of p d) ≡ program_size p
block_sized Idle d = refl
block_sized (Emit o) d = order_sized o d
block_sized (Both p q) d = omega (arith, block_sized p d, block_sized q d)
block_sized (UnlessLess a b p) d = omega (arith, bring_sized a d, bring_sized b (d + 1), block_sized p d)
block_sized (Let e p) d = omega (arith, put_size e d, block_sized p (d + 1))
block_sized (For e p) d = omega (arith, put_size e d, block_sized p (d + 2))
block_sized (Carry e first next p) d = omega (arith, put_size e d, put_size first (d + 1), block_sized p (d + 2), bring_sized next (d + 2))

-- ---- steps

cost_least : (e : Expr) (f : ℕ → ℕ) → cost e f ≤ expr_size e
cost_least e f = omega (arith, cheaper e 0 f, put_size e 0)

operand_most : (e : Expr) (m n : ℕ) → m ≤ n → unless_variable e 0 m ≤ unless_variable e 0 n
operand_most (Variable r) m n le = omega arith
operand_most _ m n le = le

word_is : (e : Expr) (f : ℕ → ℕ) → FitsWord e f → machine_value e f ≡ value e f
word_is e f fits = exact_value e f fits.0 fits.1

-- where both sides of a comparison fit, the branch that is taken is the same
same_branch : (a b : Expr) (f : ℕ → ℕ) → FitsWord a f → FitsWord b f → ltb (machine_value a f) (machine_value b f) ≡ ltb (value a f) (value b f)
same_branch a b f fits_a fits_b = ap (λ u. ltb u (machine_value b f)) (word_is a f fits_a) ∙ ap (λ v. ltb (value a f) v) (word_is b f fits_b)

skipped : (s t : Bool) (m n : ℕ) → s ≡ t → (t ≡ false → m ≤ n) → cond s 0 m ≤ cond t 0 n
skipped true true m n is le = omega arith
skipped false false m n is le = le refl
skipped true false m n is le = omega arith
skipped false true m n is le = absurd (cc is)

branches : (s t : Bool) (x x' y y' z : ℕ) → s ≡ t → x ≤ z → (t ≡ true → x ≤ x') → (t ≡ false → y ≤ y') → x + cond s 0 y ≤ cond t x' (z + y')
branches true true x x' y y' z is le hx hy = omega (arith, hx refl)
branches false false x x' y y' z is le hx hy = omega (arith, le, hy refl)
branches true false x x' y y' z is le hx hy = absurd (cc is)
branches false true x x' y y' z is le hx hy = absurd (cc is)

pub cost_most : (e : Expr) (f : ℕ → ℕ) → Fits e f → cost e f ≤ most_cost e f
cost_most (Number n) f fits = omega arith
cost_most (Variable r) f fits = omega arith
cost_most (Offset a n) f fits = omega (arith, operand_most a _ _ (cost_most a f fits))
cost_most (Sum a b) f fits = omega (arith, operand_most a _ _ (cost_most a f fits.0), operand_most b _ _ (cost_most b f fits.1))
cost_most (Difference a b) f fits = omega (arith, operand_most a _ _ (cost_most a f fits.0), operand_most b _ _ (cost_most b f fits.1))
cost_most (Product a b) f fits = omega (arith, operand_most a _ _ (cost_most a f fits.0), operand_most b _ _ (cost_most b f fits.1))
cost_most (Quotient a b) f fits = omega (arith, operand_most a _ _ (cost_most a f fits.0), operand_most b _ _ (cost_most b f fits.1))
cost_most (Remainder a b) f fits = omega (arith, operand_most a _ _ (cost_most a f fits.0), operand_most b _ _ (cost_most b f fits.1))
cost_most (IfLess a b x y) f fits =
    let u = operand_most a _ _ (cost_most a f fits.0) in
    let v = operand_most b _ _ (cost_most b f fits.1) in
    let w = branches (ltb (machine_value a f) (machine_value b f)) (ltb (value a f) (value b f)) (cost x f) (most_cost x f) (cost y f) (most_cost y f) (expr_size x)
    (same_branch a b f (fits.0, fits.2) (fits.1, fits.3)) (cost_least x f) (λ e. cost_most x f (fits.4 e)) (λ e. cost_most y f (fits.5 e)) in
    omega (arith, u, v, w)

pub bring_most : (e : Expr) (f : ℕ → ℕ) → Fits e f → bring_cost e f ≤ most_bring e f
bring_most e f fits = operand_most e _ _ (cost_most e f fits)

order_most : (o : Order) (f : ℕ → ℕ) → OrderFits o f → order_cost o f ≤ most_order o f
order_most (IssueTransfer write work) f fits =
    omega (
      arith,
      bring_most work.mem f fits.mem.0,
      bring_most work.spad f fits.spad.0,
      bring_most work.rows f fits.rows.0,
      bring_most work.bytes f fits.bytes.0,
      bring_most work.mem_step f fits.mem_step.0,
      bring_most work.spad_step f fits.spad_step.0,
      bring_most work.tag f fits.tag.0,
    )
order_most (IssueVector work) f fits =
    omega (
      arith,
      bring_most work.vl f fits.vl.0,
      bring_most work.rows f fits.rows.0,
      bring_most work.dst f fits.dst.0,
      bring_most work.a f fits.a.0,
      bring_most work.b f fits.b.0,
      bring_most work.dst_step f fits.dst_step.0,
      bring_most work.a_step f fits.a_step.0,
      bring_most work.b_step f fits.b_step.0,
    )
order_most (AwaitReads e) f fits = omega (arith, bring_most e f fits.0)
order_most (AwaitWrites e) f fits = omega (arith, bring_most e f fits.0)
order_most AwaitLanes f fits = omega arith
order_most (AwaitTag e) f fits = omega (arith, bring_most e f fits.0)

turns_most : (left t n : ℕ) (g g' : ℕ → ℕ) → left + t ≡ n → ((t : ℕ) → t < n → g t ≤ g' t) → turns_steps left t g ≤ turns_steps left t g'
turns_most zero t n g g' all most = omega arith
turns_most (suc left) t n g g' all most = omega (arith, most t (omega (arith, all)), turns_most left (t + 1) n g g' (omega (arith, all)) most)

pub steps_most : (p : Program) (d : ℕ) (f : ℕ → ℕ) → ProgramFits p d f → steps_of p d f ≤ most_steps p d f
steps_most Idle d f fits = omega arith
steps_most (Emit o) d f fits = order_most o f fits
steps_most (Both p q) d f fits = omega (arith, steps_most p d f fits.0, steps_most q d f fits.1)
steps_most (UnlessLess a b p) d f fits =
    let w = skipped (ltb (machine_value a f) (machine_value b f)) (ltb (value a f) (value b f)) (steps_of p d f) (most_steps p d f)
    (same_branch a b f fits.0 fits.1) (λ e. steps_most p d f (fits.2 e)) in
    omega (arith, bring_most a f fits.0.0, bring_most b f fits.1.0, w)
steps_most (Let e p) d f fits =
    let same = ap (λ v. steps_of p (d + 1) (with_number d v f)) (word_is e f fits.0) in
    omega (arith, cost_most e f fits.0.0, same, steps_most p (d + 1) (with_number d (value e f) f) fits.1)
steps_most (For e p) d f fits =
    let n = value e f in
    let same = ap (λ m. turns_steps m 0 (λ t. steps_of p (d + 2) (in_turn f d m t))) (word_is e f fits.0) in
    let most = turns_most n 0 n (λ t. steps_of p (d + 2) (in_turn f d n t)) (λ t. most_steps p (d + 2) (in_turn f d n t)) (omega arith)
    (λ t lt. steps_most p (d + 2) (in_turn f d n t) (fits.1 t lt)) in
    omega (arith, cost_most e f fits.0.0, same, most)
steps_most (Carry e first next p) d f fits =
    let n = value e f in
    let begin = with_number d n f in
    let m = λ (k w : ℕ). machine_value next (with_left f d k w) in
    let g = λ (k w : ℕ). steps_of p (d + 2) (with_left f d k w) + (bring_cost next (with_left f d k w) + 1) in
    let count = ap (λ n. cost first (with_number d n f) + carried_steps n (machine_value first (with_number d n f)) m g) (word_is e f fits.0) in
    let from = ap (λ v. carried_steps n v m g) (word_is first begin fits.1) in
    let most = go n (value first begin) fits.2 (λ k w fit. steps_most p (d + 2) (with_left f d k w) fit) in
    omega (arith, cost_most e f fits.0.0, cost_most first begin fits.1.0, count, from, most)
  where
    go : (k v : ℕ) → CarriedFits k v (λ k w. value next (with_left f d k w)) (λ k w. FitsWord next (with_left f d k w) × ProgramFits p (d + 2) (with_left f d k w))
        → ((k w : ℕ) → ProgramFits p (d + 2) (with_left f d k w) → steps_of p (d + 2) (with_left f d k w) ≤ most_steps p (d + 2) (with_left f d k w))
        → carried_steps k v (λ k w. machine_value next (with_left f d k w)) (λ k w. steps_of p (d + 2) (with_left f d k w) + (bring_cost next (with_left f d k w) + 1))
        ≤ carried_steps k v (λ k w. value next (with_left f d k w)) (λ k w. most_steps p (d + 2) (with_left f d k w) + (most_bring next (with_left f d k w) + 1))
    go zero v fit each = omega arith
    go (suc k) v fit each =
        let same = ap (λ w. carried_steps k w (λ k w. machine_value next (with_left f d k w)) (λ k w. steps_of p (d + 2) (with_left f d k w) + (bring_cost next (with_left f d k w) + 1))) (word_is next (with_left f d (suc k) v) fit.0.0) in
        let rest = go k (value next (with_left f d (suc k) v)) fit.1 each in
        omega (arith, same, rest, each (suc k) v fit.0.1, bring_most next (with_left f d (suc k) v) fit.0.0.0)

-- ---- steps within sizes

pub most_least : (e : Expr) (f : ℕ → ℕ) → most_cost e f ≤ expr_size e
most_least (Number n) f = omega arith
most_least (Variable r) f = omega arith
most_least (Offset a n) f = omega (arith, operand_most a _ _ (most_least a f))
most_least (Sum a b) f = omega (arith, operand_most a _ _ (most_least a f), operand_most b _ _ (most_least b f))
most_least (Difference a b) f = omega (arith, operand_most a _ _ (most_least a f), operand_most b _ _ (most_least b f))
most_least (Product a b) f = omega (arith, operand_most a _ _ (most_least a f), operand_most b _ _ (most_least b f))
most_least (Quotient a b) f = omega (arith, operand_most a _ _ (most_least a f), operand_most b _ _ (most_least b f))
most_least (Remainder a b) f = omega (arith, operand_most a _ _ (most_least a f), operand_most b _ _ (most_least b f))
most_least (IfLess a b x y) f =
    let w = cond_both (ltb (value a f) (value b f)) (most_cost x f) (expr_size x + most_cost y f) (λ m. m ≤ expr_size x + expr_size y)
    (λ e. omega (arith, most_least x f)) (λ e. omega (arith, most_least y f)) in
    omega (arith, operand_most a _ _ (most_least a f), operand_most b _ _ (most_least b f), w)

pub bring_least : (e : Expr) (f : ℕ → ℕ) → most_bring e f ≤ bring_size e
bring_least e f = operand_most e _ _ (most_least e f)

settings_least : (all : List Setting) (f : ℕ → ℕ) → most_settings all f ≤ settings_size all
settings_least [] f = omega arith
settings_least (s ∷ rest) f = omega (arith, bring_least s.expr f, settings_least rest f)

pub order_least : (o : Order) (f : ℕ → ℕ) → most_order o f ≤ order_size o
order_least (IssueTransfer write work) f = omega (arith, settings_least (transfer_settings work) f, bring_least work.tag f)
order_least (IssueVector work) f = omega (arith, settings_least (vector_settings work) f)
order_least (AwaitReads e) f = omega (arith, bring_least e f)
order_least (AwaitWrites e) f = omega (arith, bring_least e f)
order_least AwaitLanes f = omega arith
order_least (AwaitTag e) f = omega (arith, bring_least e f)
