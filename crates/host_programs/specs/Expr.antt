-- Expressions over registers: their exact value, the number that the host works out, and the code that does.
use Rattle.std.specs.Prelude.{◌≡◌, ℕ, ◌+◌, ◌-◌, ◌*◌, ◌/◌, ◌%◌, ◌^◌, ◌<◌, ◌≤◌, nat_lt, if◌then◌else◌, Bool, true, false, ◌&&◌}
use Rattle.venice_isa.specs.declared.instr.Instr.TheVariants.{Li, Addi, Add, Sub, Mul, Div}
use Rattle.venice_isa.specs.Host.{sum_of, difference_of, product_of, quotient_of}
use Rattle.host_programs.specs.Block.{Block, Empty, Do, Then, Unless}

pub data Expr : Type 0 where
  Number : (n : ℕ) → Expr
  -- the number in a register
  Variable : (r : ℕ) → Expr
  -- so much more
  Offset : (a : Expr) (n : ℕ) → Expr
  Sum : (a b : Expr) → Expr
  Difference : (a b : Expr) → Expr
  Product : (a b : Expr) → Expr
  Quotient : (a b : Expr) → Expr
  Remainder : (a b : Expr) → Expr
  -- x where a is below b, else y
  IfLess : (a b x y : Expr) → Expr

-- its value, where register r has the number f r
abbrev pub value : Expr → (f : ℕ → ℕ) → ℕ
value (Number n) f = n
value (Variable r) f = f r
value (Offset a n) f = value a f + n
value (Sum a b) f = value a f + value b f
value (Difference a b) f = value a f - value b f
value (Product a b) f = value a f * value b f
value (Quotient a b) f = value a f / value b f
value (Remainder a b) f = value a f % value b f
value (IfLess a b x y) f = if nat_lt (value a f) (value b f) then value x f else value y f

-- ---- what the host works out

-- the number in 32 bits
abbrev pub word : ℕ → ℕ
word n = n % 2 ^ 32

-- the remainder, as the host has it: what the quotient's product leaves
abbrev pub remainder_of : ℕ → ℕ → ℕ
remainder_of x y = difference_of x (product_of (quotient_of x y) y)

abbrev pub machine_value : Expr → (f : ℕ → ℕ) → ℕ
machine_value (Number n) f = word n
machine_value (Variable r) f = word (f r)
machine_value (Offset a n) f = sum_of (machine_value a f) (word n)
machine_value (Sum a b) f = sum_of (machine_value a f) (machine_value b f)
machine_value (Difference a b) f = difference_of (machine_value a f) (machine_value b f)
machine_value (Product a b) f = product_of (machine_value a f) (machine_value b f)
machine_value (Quotient a b) f = quotient_of (machine_value a f) (machine_value b f)
machine_value (Remainder a b) f = remainder_of (machine_value a f) (machine_value b f)
machine_value (IfLess a b x y) f =
    if nat_lt (machine_value a f) (machine_value b f) then machine_value x f else machine_value y f

-- where that is the value in 32 bits: of what is compared only the branch that is taken counts, no difference is below
-- 0, and what is divided or compared has 32 bits
abbrev pub Fits : Expr → (f : ℕ → ℕ) → Type 0
Fits (Number n) f = Unit {0}
Fits (Variable r) f = Unit {0}
Fits (Offset a n) f = Fits a f
Fits (Sum a b) f = Fits a f × Fits b f
Fits (Difference a b) f = Fits a f × Fits b f × (value b f ≤ value a f)
Fits (Product a b) f = Fits a f × Fits b f
Fits (Quotient a b) f =
    Fits a f × Fits b f × (value a f < 2 ^ 32) × (0 < value b f) × (value b f < 2 ^ 32)
Fits (Remainder a b) f =
    Fits a f × Fits b f × (value a f < 2 ^ 32) × (0 < value b f) × (value b f < 2 ^ 32)
Fits (IfLess a b x y) f =
    Fits a f × Fits b f × (value a f < 2 ^ 32) × (value b f < 2 ^ 32)
    × (nat_lt (value a f) (value b f) ≡ true → Fits x f) × (nat_lt (value a f) (value b f) ≡ false → Fits y f)

-- ---- its code

-- whether it reads registers below d alone
abbrev pub is_below : Expr → (d : ℕ) → Bool
is_below (Number n) d = true
is_below (Variable r) d = nat_lt r d
is_below (Offset a n) d = is_below a d
is_below (Sum a b) d = is_below a d && is_below b d
is_below (Difference a b) d = is_below a d && is_below b d
is_below (Product a b) d = is_below a d && is_below b d
is_below (Quotient a b) d = is_below a d && is_below b d
is_below (Remainder a b) d = is_below a d && is_below b d
is_below (IfLess a b x y) d = (is_below a d && is_below b d) && (is_below x d && is_below y d)

-- a variable stands in its register already, any other operand is put into the next free one
abbrev pub unless_variable : {A : Type 0} → Expr → (there other : A) → A
unless_variable (Variable r) there other = there
unless_variable _ there other = other

abbrev pub register_of : Expr → (d : ℕ) → ℕ
register_of (Variable r) d = r
register_of _ d = d

-- the code of an operand, and what comes behind it
abbrev pub with_operand : Expr → Block → Block → Block
with_operand e code rest = Then (unless_variable e Empty code) rest

-- the code that puts an expression's number into register d, with the registers above it for what it needs on the way
abbrev pub put : Expr → (d : ℕ) → Block
put (Number n) d = Do (Li d (word n))
put (Variable r) d = Do (Addi d r 0)
put (Offset a n) d = with_operand a (put a d) (Do (Addi d (register_of a d) (word n)))
put (Sum a b) d =
    with_operand a (put a d) (with_operand b (put b (d + 1)) (Do (Add d (register_of a d) (register_of b (d + 1)))))
put (Difference a b) d =
    with_operand a (put a d) (with_operand b (put b (d + 1)) (Do (Sub d (register_of a d) (register_of b (d + 1)))))
put (Product a b) d =
    with_operand a (put a d) (with_operand b (put b (d + 1)) (Do (Mul d (register_of a d) (register_of b (d + 1)))))
put (Quotient a b) d =
    with_operand a (put a d) (with_operand b (put b (d + 1)) (Do (Div d (register_of a d) (register_of b (d + 1)))))
put (Remainder a b) d =
    with_operand a (put a d) (with_operand b (put b (d + 1)) (
    Then (Do (Div (d + 2) (register_of a d) (register_of b (d + 1)))) (
    Then (Do (Mul (d + 2) (d + 2) (register_of b (d + 1)))) (
    Do (Sub d (register_of a d) (d + 2))))))
put (IfLess a b x y) d =
    Then (put x d) (with_operand a (put a (d + 1)) (with_operand b (put b (d + 2)) (
    Unless (register_of a (d + 1)) (register_of b (d + 2)) (put y d))))

-- the code of an operand
abbrev pub bring : Expr → (d : ℕ) → Block
bring e d = unless_variable e Empty (put e d)

-- ---- its steps

abbrev pub cost : Expr → (f : ℕ → ℕ) → ℕ
cost (Number n) f = 1
cost (Variable r) f = 1
cost (Offset a n) f = unless_variable a 0 (cost a f) + 1
cost (Sum a b) f = unless_variable a 0 (cost a f) + (unless_variable b 0 (cost b f) + 1)
cost (Difference a b) f = unless_variable a 0 (cost a f) + (unless_variable b 0 (cost b f) + 1)
cost (Product a b) f = unless_variable a 0 (cost a f) + (unless_variable b 0 (cost b f) + 1)
cost (Quotient a b) f = unless_variable a 0 (cost a f) + (unless_variable b 0 (cost b f) + 1)
cost (Remainder a b) f = unless_variable a 0 (cost a f) + (unless_variable b 0 (cost b f) + 3)
cost (IfLess a b x y) f =
    cost x f + (unless_variable a 0 (cost a f) + (unless_variable b 0 (cost b f) +
    (1 + (if nat_lt (machine_value a f) (machine_value b f) then 0 else cost y f))))

abbrev pub bring_cost : Expr → (f : ℕ → ℕ) → ℕ
bring_cost e f = unless_variable e 0 (cost e f)
