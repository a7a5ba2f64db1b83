-- Blocks of code: their instructions, the issues that they pass on, their steps, and what they leave. A block is
-- entered at its first instruction, and left at the place behind its last.
use Rattle.std.specs.Prelude.{ℕ, zero, suc, ◌+◌, ◌-◌, ◌^◌, ◌==◌, nat_lt, if◌then◌else◌, Bool, true, false, not, ◌&&◌, ◌||◌, List, [], ◌∷◌, ◌++◌}
use Rattle.venice_isa.specs.declared.issue.Issue.{Issue}
use Rattle.venice_isa.specs.declared.instr.Instr.{Instr}
use Rattle.venice_isa.specs.declared.instr.Instr.TheVariants.{Halt, Li, Addi, Add, Sub, Mul, Div, Bnz, Blt, Jmp}
use Rattle.host_programs.specs.Contents.{RegisterContents, left_by, issues_by}

pub data Block : Type 0 where
  Empty : Block
  Do : (instr : Instr) → Block
  Then : (x y : Block) → Block
  -- the block, unless register a is below register b
  Unless : (a b : ℕ) (x : Block) → Block
  -- the block as often as register c says, which counts down to 0
  Turns : (c : ℕ) (x : Block) → Block

abbrev pub one_less : ℕ → Instr
one_less c = Addi c c (2 ^ 32 - 1)

-- ---- its instructions

abbrev pub size : Block → ℕ
size Empty = 0
size (Do instr) = 1
size (Then x y) = size x + size y
size (Unless a b x) = size x + 1
size (Turns c x) = size x + 3

-- those of a block that stands at a place: a guard skips its block, and a loop begins at its test, which stands behind
-- its body
abbrev pub instrs_at : Block → (place : ℕ) → List Instr
instrs_at Empty place = []
instrs_at (Do instr) place = instr ∷ []
instrs_at (Then x y) place = instrs_at x place ++ instrs_at y (place + size x)
instrs_at (Unless a b x) place = Blt a b (place + 1 + size x) ∷ instrs_at x (place + 1)
instrs_at (Turns c x) place =
    Jmp (place + 1 + size x + 1) ∷ (instrs_at x (place + 1) ++ (one_less c ∷ Bnz c (place + 1) ∷ []))

-- ---- what it does, where nothing holds the host up

-- the contents after so many turns, the issues of the turns, and their steps with two more a turn
abbrev pub repeated : ℕ → (turn : RegisterContents → RegisterContents) → RegisterContents → RegisterContents
repeated zero turn held = held
repeated (suc n) turn held = repeated n turn (turn held)

abbrev pub repeated_issues : ℕ → (turn : RegisterContents → RegisterContents) → (RegisterContents → List Issue) → RegisterContents → List Issue
repeated_issues zero turn each held = []
repeated_issues (suc n) turn each held = each held ++ repeated_issues n turn each (turn held)

abbrev pub repeated_steps : ℕ → (turn : RegisterContents → RegisterContents) → (RegisterContents → ℕ) → RegisterContents → ℕ
repeated_steps zero turn each held = 0
repeated_steps (suc n) turn each held = each held + (2 + repeated_steps n turn each (turn held))

abbrev pub after : Block → RegisterContents → RegisterContents
after Empty held = held
after (Do instr) held = left_by instr held
after (Then x y) held = after y (after x held)
after (Unless a b x) held = if nat_lt (held.register a) (held.register b) then held else after x held
after (Turns c x) held = repeated (held.register c) (λ h. left_by (one_less c) (after x h)) held

abbrev pub issues : Block → RegisterContents → List Issue
issues Empty held = []
issues (Do instr) held = issues_by instr held
issues (Then x y) held = issues x held ++ issues y (after x held)
issues (Unless a b x) held = if nat_lt (held.register a) (held.register b) then [] else issues x held
issues (Turns c x) held = repeated_issues (held.register c) (λ h. left_by (one_less c) (after x h)) (issues x) held

abbrev pub steps : Block → RegisterContents → ℕ
steps Empty held = 0
steps (Do instr) held = 1
steps (Then x y) held = steps x held + steps y (after x held)
steps (Unless a b x) held = 1 + (if nat_lt (held.register a) (held.register b) then 0 else steps x held)
steps (Turns c x) held = 2 + repeated_steps (held.register c) (λ h. left_by (one_less c) (after x h)) (steps x) held

-- ---- sound blocks

-- an instruction that goes on at the next place, and gives no register a number of more than 32 bits
abbrev pub is_straight : Instr → Bool
is_straight Halt = false
is_straight (Bnz a to) = false
is_straight (Blt a b to) = false
is_straight (Jmp to) = false
is_straight (Li d n) = nat_lt n (2 ^ 32)
is_straight _ = true

-- whether an instruction, or a block, may change a register
abbrev pub sets : Instr → ℕ → Bool
sets (Li d n) r = r == d
sets (Addi d a n) r = r == d
sets (Add d a b) r = r == d
sets (Sub d a b) r = r == d
sets (Mul d a b) r = r == d
sets (Div d a b) r = r == d
sets _ r = false

abbrev pub writes : Block → ℕ → Bool
writes Empty r = false
writes (Do instr) r = sets instr r
writes (Then x y) r = writes x r || writes y r
writes (Unless a b x) r = writes x r
writes (Turns c x) r = (r == c) || writes x r

-- no jumps but the block's own, and no turn changes its own counter
abbrev pub is_sound : Block → Bool
is_sound Empty = true
is_sound (Do instr) = is_straight instr
is_sound (Then x y) = is_sound x && is_sound y
is_sound (Unless a b x) = is_sound x
is_sound (Turns c x) = is_sound x && not (writes x c)
