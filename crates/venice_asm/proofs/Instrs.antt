-- Instructions by the operands of their lines.
use Rattle.std.proofs.Common.{◌≡◌, ◌≢◌, Bool, true, false, List, [], ◌∷◌, refl, sym, ap, subst, ◌∙◌}
use Rattle.std.specs.Prelude.{if◌then◌else◌}
use Rattle.std.specs.List.{list_all}
use Rattle.std.proofs.lemmas.Bool.{and_parts}
use Rattle.ven_base.specs.declared.elem.Elem.{Elem}
use Rattle.venice_isa.specs.declared.instr.Version.{Version}
use Rattle.venice_isa.specs.declared.op.VecOp.{VecOp}
use Rattle.venice_isa.specs.declared.op.VecOp.TheVariants as ops
use Rattle.venice_isa.specs.Encoding.{is_cast}
use Rattle.venice_isa.specs.Mode.{allows_mode}
use Rattle.venice_asm.specs.declared.head.Head.{Head}
use Rattle.venice_asm.specs.declared.head.Head.TheVariants as heads
use Rattle.venice_asm.specs.declared.head.Kind.{Kind}
use Rattle.venice_asm.specs.declared.head.Kind.TheVariants as kinds
use Rattle.venice_asm.specs.declared.operand.Operand.{Operand}
use Rattle.venice_asm.specs.declared.operand.Operand.TheVariants as operands
use Rattle.venice_asm.specs.Canonical.{line_of, statement_of}
use Rattle.venice_asm.specs.Lines.{head_kinds, operation_kinds, kinds_behind, is_optional, suits, all_suit, are_in_range}
use Rattle.venice_asm.proofs.Written.{vector_operands_of}
use Rattle.venice_asm.specs.Parts.{register_of, parameter_of, number_of, is_write_of, operation_of, elem_of, is_a_scalar_of, is_b_scalar_of, host_instr, with_target, retargeted, IsInstrOf, IsWholeInstr}

-- ---- single operands

-- the operand is the one that a kind asks for
registers : (version : Version) (o : Operand) → suits version kinds.Register o ≡ true → o ≡ operands.Register (register_of o)
registers version (operands.Register n) h = refl
registers version o h = let e : false ≡ true = h in absurd (cc)

pub numbers : (version : Version) (o : Operand) → suits version kinds.Number o ≡ true → o ≡ operands.Number (number_of o)
numbers version (operands.Number n) h = refl
numbers version o h = let e : false ≡ true = h in absurd (cc)

parameters : (version : Version) (o : Operand) → suits version kinds.Parameter o ≡ true → o ≡ operands.Parameter (parameter_of o)
parameters version (operands.Parameter n) h = refl
parameters version o h = let e : false ≡ true = h in absurd (cc)

transfers : (version : Version) (o : Operand) → suits version kinds.Transfer o ≡ true → o ≡ operands.Write (is_write_of o)
transfers version (operands.Write n) h = refl
transfers version o h = let e : false ≡ true = h in absurd (cc)

pub operations : (version : Version) (o : Operand) → suits version kinds.Operation o ≡ true → o ≡ operands.Operation (operation_of o)
operations version (operands.Operation n) h = refl
operations version o h = let e : false ≡ true = h in absurd (cc)

elems : (version : Version) (o : Operand) → suits version kinds.Elem o ≡ true → o ≡ operands.Elem (elem_of o)
elems version (operands.Elem n) h = refl
elems version o h = let e : false ≡ true = h in absurd (cc)

one_letters : (version : Version) (o : Operand) → suits version kinds.ModeA o ≡ true → o ≡ operands.ModeA (is_a_scalar_of o)
one_letters version (operands.ModeA a) h = refl
one_letters version o h = let e : false ≡ true = h in absurd (cc)

two_letters : (version : Version) (o : Operand) → suits version kinds.ModeAB o ≡ true → o ≡ operands.ModeAB (is_a_scalar_of o) (is_b_scalar_of o)
two_letters version (operands.ModeAB a b) h = refl
two_letters version o h = let e : false ≡ true = h in absurd (cc)

flag_letters : (version : Version) (o : Operand) → suits version kinds.ModeFlags o ≡ true → o ≡ operands.ModeAB (is_a_scalar_of o) (is_b_scalar_of o)
flag_letters version (operands.ModeAB a b) h = refl
flag_letters version o h = let e : false ≡ true = h in absurd (cc)

sums : (version : Version) (o : Operand) → suits version kinds.Sum o ≡ true → o ≡ operands.Sum
sums version operands.Sum h = refl
sums version o h = let e : false ≡ true = h in absurd (cc)

-- ---- operands one after another

pub record First (version : Version) (kind : Kind) (rest : List Kind) (list : List Operand) : Type 0 where
  pub o : Operand
  pub more : List Operand
  pub is : list ≡ o ∷ more
  pub suit : suits version kind o ≡ true
  pub behind : all_suit version (kinds_behind o rest) more ≡ true

pub first : (version : Version) (kind : Kind) (rest : List Kind) (list : List Operand) → is_optional kind ≡ false → all_suit version (kind ∷ rest) list ≡ true → First version kind rest list
first version kind rest [] needed h =
    let both = and_parts (is_optional kind) (list_all is_optional rest) h in
    let e : false ≡ true = sym needed ∙ both.0 in
    absurd (cc)
first version kind rest (x ∷ xs) needed h =
    let both = and_parts (suits version kind x) (all_suit version (kinds_behind x rest) xs) h in
    record { o = x; more = xs; is = refl; suit = both.0; behind = both.1 }

pub none : (version : Version) (list : List Operand) → all_suit version [] list ≡ true → list ≡ []
none version [] h = refl
none version (x ∷ xs) h = let e : false ≡ true = h in absurd (cc)

-- behind what is no operation stands what stood behind its kind
pub plain_behind : (version : Version) (kind : Kind) (o : Operand) (rest : List Kind) → kind ≢ kinds.Operation → suits version kind o ≡ true → kinds_behind o rest ≡ rest
plain_behind version kinds.Operation o rest other h = absurd (other refl)
plain_behind version kind (operands.Operation op) rest other h = let e : false ≡ true = h in absurd (cc)
plain_behind version kind o rest other h = refl

-- one, two and three operands
pub record One (version : Version) (a : Kind) (list : List Operand) : Type 0 where
  pub x : Operand
  pub is : list ≡ x ∷ []
  pub suit : suits version a x ≡ true

pub one : (version : Version) (a : Kind) (list : List Operand) → is_optional a ≡ false → a ≢ kinds.Operation → all_suit version (a ∷ []) list ≡ true → One version a list
one version a list needed other h =
    let f = first version a [] list needed h in
    let end = none version f.more (ap (λ r. all_suit version r f.more) (sym (plain_behind version a f.o [] other f.suit)) ∙ f.behind) in
    record { x = f.o; is = f.is ∙ ap (λ r. f.o ∷ r) end; suit = f.suit }

pub record Two (version : Version) (a b : Kind) (list : List Operand) : Type 0 where
  pub x : Operand
  pub y : Operand
  pub is : list ≡ x ∷ y ∷ []
  pub suit : suits version a x ≡ true
  pub second : suits version b y ≡ true

pub two : (version : Version) (a b : Kind) (list : List Operand) → is_optional a ≡ false → a ≢ kinds.Operation → is_optional b ≡ false → b ≢ kinds.Operation → all_suit version (a ∷ b ∷ []) list ≡ true → Two version a b list
two version a b list needed other needed2 other2 h =
    let f = first version a (b ∷ []) list needed h in
    let g = one version b f.more needed2 other2 (ap (λ r. all_suit version r f.more) (sym (plain_behind version a f.o (b ∷ []) other f.suit)) ∙ f.behind) in
    record { x = f.o; y = g.x; is = f.is ∙ ap (λ r. f.o ∷ r) g.is; suit = f.suit; second = g.suit }

pub record Three (version : Version) (a b c : Kind) (list : List Operand) : Type 0 where
  pub x : Operand
  pub y : Operand
  pub z : Operand
  pub is : list ≡ x ∷ y ∷ z ∷ []
  pub suit : suits version a x ≡ true
  pub second : suits version b y ≡ true
  pub third : suits version c z ≡ true

pub three : (version : Version) (a b c : Kind) (list : List Operand) → is_optional a ≡ false → a ≢ kinds.Operation → is_optional b ≡ false → b ≢ kinds.Operation → is_optional c ≡ false → c ≢ kinds.Operation → all_suit version (a ∷ b ∷ c ∷ []) list ≡ true → Three version a b c list
three version a b c list needed other needed2 other2 needed3 other3 h =
    let f = first version a (b ∷ c ∷ []) list needed h in
    let g = two version b c f.more needed2 other2 needed3 other3 (ap (λ r. all_suit version r f.more) (sym (plain_behind version a f.o (b ∷ c ∷ []) other f.suit)) ∙ f.behind) in
    record { x = f.o; y = g.x; z = g.y; is = f.is ∙ ap (λ r. f.o ∷ r) g.is; suit = f.suit; second = g.suit; third = g.second }

-- ---- instructions on the host

host_Halt : (version : Version) (list : List Operand) → all_suit version (head_kinds heads.Halt) list ≡ true → IsInstrOf heads.Halt list (host_instr heads.Halt list)
host_Halt version list h n = ap (λ l. line_of heads.Halt l) (sym (none version list h))

host_Vwait : (version : Version) (list : List Operand) → all_suit version (head_kinds heads.Vwait) list ≡ true → IsInstrOf heads.Vwait list (host_instr heads.Vwait list)
host_Vwait version list h n = ap (λ l. line_of heads.Vwait l) (sym (none version list h))

host_Li : (version : Version) (list : List Operand) → all_suit version (head_kinds heads.Li) list ≡ true → IsInstrOf heads.Li list (host_instr heads.Li list)
host_Li version list h n =
    let s = two version kinds.Register kinds.Number list refl (λ e. absurd (cc)) refl (λ e. absurd (cc)) h in
    subst (λ l. statement_of (with_target (host_instr heads.Li l) n) ≡ line_of heads.Li (retargeted heads.Li l n)) (sym s.is) (ap (λ (o : Operand). line_of heads.Li (o ∷ operands.Number (number_of s.y) ∷ [])) (sym (registers version s.x s.suit)) ∙ ap (λ (o : Operand). line_of heads.Li (s.x ∷ o ∷ [])) (sym (numbers version s.y s.second)))

host_Addi : (version : Version) (list : List Operand) → all_suit version (head_kinds heads.Addi) list ≡ true → IsInstrOf heads.Addi list (host_instr heads.Addi list)
host_Addi version list h n =
    let s = three version kinds.Register kinds.Register kinds.Number list refl (λ e. absurd (cc)) refl (λ e. absurd (cc)) refl (λ e. absurd (cc)) h in
    subst (λ l. statement_of (with_target (host_instr heads.Addi l) n) ≡ line_of heads.Addi (retargeted heads.Addi l n)) (sym s.is) (ap (λ (o : Operand). line_of heads.Addi (o ∷ operands.Register (register_of s.y) ∷ operands.Number (number_of s.z) ∷ [])) (sym (registers version s.x s.suit)) ∙ ap (λ (o : Operand). line_of heads.Addi (s.x ∷ o ∷ operands.Number (number_of s.z) ∷ [])) (sym (registers version s.y s.second)) ∙ ap (λ (o : Operand). line_of heads.Addi (s.x ∷ s.y ∷ o ∷ [])) (sym (numbers version s.z s.third)))

host_Add : (version : Version) (list : List Operand) → all_suit version (head_kinds heads.Add) list ≡ true → IsInstrOf heads.Add list (host_instr heads.Add list)
host_Add version list h n =
    let s = three version kinds.Register kinds.Register kinds.Register list refl (λ e. absurd (cc)) refl (λ e. absurd (cc)) refl (λ e. absurd (cc)) h in
    subst (λ l. statement_of (with_target (host_instr heads.Add l) n) ≡ line_of heads.Add (retargeted heads.Add l n)) (sym s.is) (ap (λ (o : Operand). line_of heads.Add (o ∷ operands.Register (register_of s.y) ∷ operands.Register (register_of s.z) ∷ [])) (sym (registers version s.x s.suit)) ∙ ap (λ (o : Operand). line_of heads.Add (s.x ∷ o ∷ operands.Register (register_of s.z) ∷ [])) (sym (registers version s.y s.second)) ∙ ap (λ (o : Operand). line_of heads.Add (s.x ∷ s.y ∷ o ∷ [])) (sym (registers version s.z s.third)))

host_Sub : (version : Version) (list : List Operand) → all_suit version (head_kinds heads.Sub) list ≡ true → IsInstrOf heads.Sub list (host_instr heads.Sub list)
host_Sub version list h n =
    let s = three version kinds.Register kinds.Register kinds.Register list refl (λ e. absurd (cc)) refl (λ e. absurd (cc)) refl (λ e. absurd (cc)) h in
    subst (λ l. statement_of (with_target (host_instr heads.Sub l) n) ≡ line_of heads.Sub (retargeted heads.Sub l n)) (sym s.is) (ap (λ (o : Operand). line_of heads.Sub (o ∷ operands.Register (register_of s.y) ∷ operands.Register (register_of s.z) ∷ [])) (sym (registers version s.x s.suit)) ∙ ap (λ (o : Operand). line_of heads.Sub (s.x ∷ o ∷ operands.Register (register_of s.z) ∷ [])) (sym (registers version s.y s.second)) ∙ ap (λ (o : Operand). line_of heads.Sub (s.x ∷ s.y ∷ o ∷ [])) (sym (registers version s.z s.third)))

host_Mul : (version : Version) (list : List Operand) → all_suit version (head_kinds heads.Mul) list ≡ true → IsInstrOf heads.Mul list (host_instr heads.Mul list)
host_Mul version list h n =
    let s = three version kinds.Register kinds.Register kinds.Register list refl (λ e. absurd (cc)) refl (λ e. absurd (cc)) refl (λ e. absurd (cc)) h in
    subst (λ l. statement_of (with_target (host_instr heads.Mul l) n) ≡ line_of heads.Mul (retargeted heads.Mul l n)) (sym s.is) (ap (λ (o : Operand). line_of heads.Mul (o ∷ operands.Register (register_of s.y) ∷ operands.Register (register_of s.z) ∷ [])) (sym (registers version s.x s.suit)) ∙ ap (λ (o : Operand). line_of heads.Mul (s.x ∷ o ∷ operands.Register (register_of s.z) ∷ [])) (sym (registers version s.y s.second)) ∙ ap (λ (o : Operand). line_of heads.Mul (s.x ∷ s.y ∷ o ∷ [])) (sym (registers version s.z s.third)))

host_Div : (version : Version) (list : List Operand) → all_suit version (head_kinds heads.Div) list ≡ true → IsInstrOf heads.Div list (host_instr heads.Div list)
host_Div version list h n =
    let s = three version kinds.Register kinds.Register kinds.Register list refl (λ e. absurd (cc)) refl (λ e. absurd (cc)) refl (λ e. absurd (cc)) h in
    subst (λ l. statement_of (with_target (host_instr heads.Div l) n) ≡ line_of heads.Div (retargeted heads.Div l n)) (sym s.is) (ap (λ (o : Operand). line_of heads.Div (o ∷ operands.Register (register_of s.y) ∷ operands.Register (register_of s.z) ∷ [])) (sym (registers version s.x s.suit)) ∙ ap (λ (o : Operand). line_of heads.Div (s.x ∷ o ∷ operands.Register (register_of s.z) ∷ [])) (sym (registers version s.y s.second)) ∙ ap (λ (o : Operand). line_of heads.Div (s.x ∷ s.y ∷ o ∷ [])) (sym (registers version s.z s.third)))

host_Bnz : (version : Version) (list : List Operand) → all_suit version (head_kinds heads.Bnz) list ≡ true → IsInstrOf heads.Bnz list (host_instr heads.Bnz list)
host_Bnz version list h n =
    let s = two version kinds.Register kinds.Target list refl (λ e. absurd (cc)) refl (λ e. absurd (cc)) h in
    subst (λ l. statement_of (with_target (host_instr heads.Bnz l) n) ≡ line_of heads.Bnz (retargeted heads.Bnz l n)) (sym s.is) (ap (λ (o : Operand). line_of heads.Bnz (o ∷ operands.Number n ∷ [])) (sym (registers version s.x s.suit)))

host_Blt : (version : Version) (list : List Operand) → all_suit version (head_kinds heads.Blt) list ≡ true → IsInstrOf heads.Blt list (host_instr heads.Blt list)
host_Blt version list h n =
    let s = three version kinds.Register kinds.Register kinds.Target list refl (λ e. absurd (cc)) refl (λ e. absurd (cc)) refl (λ e. absurd (cc)) h in
    subst (λ l. statement_of (with_target (host_instr heads.Blt l) n) ≡ line_of heads.Blt (retargeted heads.Blt l n)) (sym s.is) (ap (λ (o : Operand). line_of heads.Blt (o ∷ operands.Register (register_of s.y) ∷ operands.Number n ∷ [])) (sym (registers version s.x s.suit)) ∙ ap (λ (o : Operand). line_of heads.Blt (s.x ∷ o ∷ operands.Number n ∷ [])) (sym (registers version s.y s.second)))

host_Jmp : (version : Version) (list : List Operand) → all_suit version (head_kinds heads.Jmp) list ≡ true → IsInstrOf heads.Jmp list (host_instr heads.Jmp list)
host_Jmp version list h n =
    let s = one version kinds.Target list refl (λ e. absurd (cc)) h in
    subst (λ l. statement_of (with_target (host_instr heads.Jmp l) n) ≡ line_of heads.Jmp (retargeted heads.Jmp l n)) (sym s.is) (refl)

host_Set : (version : Version) (list : List Operand) → all_suit version (head_kinds heads.Set) list ≡ true → IsInstrOf heads.Set list (host_instr heads.Set list)
host_Set version list h n =
    let s = two version kinds.Parameter kinds.Register list refl (λ e. absurd (cc)) refl (λ e. absurd (cc)) h in
    subst (λ l. statement_of (with_target (host_instr heads.Set l) n) ≡ line_of heads.Set (retargeted heads.Set l n)) (sym s.is) (ap (λ (o : Operand). line_of heads.Set (o ∷ operands.Register (register_of s.y) ∷ [])) (sym (parameters version s.x s.suit)) ∙ ap (λ (o : Operand). line_of heads.Set (s.x ∷ o ∷ [])) (sym (registers version s.y s.second)))

host_Dma : (version : Version) (list : List Operand) → all_suit version (head_kinds heads.Dma) list ≡ true → IsInstrOf heads.Dma list (host_instr heads.Dma list)
host_Dma version list h n =
    let s = one version kinds.Transfer list refl (λ e. absurd (cc)) h in
    subst (λ l. statement_of (with_target (host_instr heads.Dma l) n) ≡ line_of heads.Dma (retargeted heads.Dma l n)) (sym s.is) (ap (λ (o : Operand). line_of heads.Dma (o ∷ [])) (sym (transfers version s.x s.suit)))

host_Rwait : (version : Version) (list : List Operand) → all_suit version (head_kinds heads.Rwait) list ≡ true → IsInstrOf heads.Rwait list (host_instr heads.Rwait list)
host_Rwait version list h n =
    let s = one version kinds.Register list refl (λ e. absurd (cc)) h in
    subst (λ l. statement_of (with_target (host_instr heads.Rwait l) n) ≡ line_of heads.Rwait (retargeted heads.Rwait l n)) (sym s.is) (ap (λ (o : Operand). line_of heads.Rwait (o ∷ [])) (sym (registers version s.x s.suit)))

host_Wwait : (version : Version) (list : List Operand) → all_suit version (head_kinds heads.Wwait) list ≡ true → IsInstrOf heads.Wwait list (host_instr heads.Wwait list)
host_Wwait version list h n =
    let s = one version kinds.Register list refl (λ e. absurd (cc)) h in
    subst (λ l. statement_of (with_target (host_instr heads.Wwait l) n) ≡ line_of heads.Wwait (retargeted heads.Wwait l n)) (sym s.is) (ap (λ (o : Operand). line_of heads.Wwait (o ∷ [])) (sym (registers version s.x s.suit)))

host_Tag : (version : Version) (list : List Operand) → all_suit version (head_kinds heads.Tag) list ≡ true → IsInstrOf heads.Tag list (host_instr heads.Tag list)
host_Tag version list h n =
    let s = one version kinds.Register list refl (λ e. absurd (cc)) h in
    subst (λ l. statement_of (with_target (host_instr heads.Tag l) n) ≡ line_of heads.Tag (retargeted heads.Tag l n)) (sym s.is) (ap (λ (o : Operand). line_of heads.Tag (o ∷ [])) (sym (registers version s.x s.suit)))

host_Twait : (version : Version) (list : List Operand) → all_suit version (head_kinds heads.Twait) list ≡ true → IsInstrOf heads.Twait list (host_instr heads.Twait list)
host_Twait version list h n =
    let s = one version kinds.Register list refl (λ e. absurd (cc)) h in
    subst (λ l. statement_of (with_target (host_instr heads.Twait l) n) ≡ line_of heads.Twait (retargeted heads.Twait l n)) (sym s.is) (ap (λ (o : Operand). line_of heads.Twait (o ∷ [])) (sym (registers version s.x s.suit)))

pub host_is : (head : Head) (list : List Operand) → head ≢ heads.Vec → IsWholeInstr head list → IsInstrOf head list (host_instr head list)
host_is heads.Vec list other h = absurd (other refl)
host_is heads.Version list other h = let i : false ≡ true = h.instr in absurd (cc)
host_is heads.Spad list other h = let i : false ≡ true = h.instr in absurd (cc)
host_is heads.Memory list other h = let i : false ≡ true = h.instr in absurd (cc)
host_is heads.Array list other h = let i : false ≡ true = h.instr in absurd (cc)
host_is heads.Halt list other h = host_Halt h.version list h.suit
host_is heads.Vwait list other h = host_Vwait h.version list h.suit
host_is heads.Li list other h = host_Li h.version list h.suit
host_is heads.Addi list other h = host_Addi h.version list h.suit
host_is heads.Add list other h = host_Add h.version list h.suit
host_is heads.Sub list other h = host_Sub h.version list h.suit
host_is heads.Mul list other h = host_Mul h.version list h.suit
host_is heads.Div list other h = host_Div h.version list h.suit
host_is heads.Bnz list other h = host_Bnz h.version list h.suit
host_is heads.Blt list other h = host_Blt h.version list h.suit
host_is heads.Jmp list other h = host_Jmp h.version list h.suit
host_is heads.Set list other h = host_Set h.version list h.suit
host_is heads.Dma list other h = host_Dma h.version list h.suit
host_is heads.Rwait list other h = host_Rwait h.version list h.suit
host_is heads.Wwait list other h = host_Wwait h.version list h.suit
host_is heads.Tag list other h = host_Tag h.version list h.suit
host_is heads.Twait list other h = host_Twait h.version list h.suit

-- ---- vector instructions

-- `acc` or nothing
record Sums (list : List Operand) : Type 0 where
  acc : Bool
  is : list ≡ (if acc then operands.Sum ∷ [] else [])

sum_tail : (version : Version) (list : List Operand) → all_suit version (kinds.Sum ∷ []) list ≡ true → Sums list
sum_tail version [] h = record { acc = false; is = refl }
sum_tail version (x ∷ xs) h =
    let both = and_parts (suits version kinds.Sum x) (all_suit version (kinds_behind x []) xs) h in
    let end = none version xs (ap (λ r. all_suit version r xs) (sym (plain_behind version kinds.Sum x [] (λ e. absurd (cc)) both.0)) ∙ both.1) in
    record { acc = true; is = ap (λ o. o ∷ xs) (sums version x both.0) ∙ ap (λ r. operands.Sum ∷ r) end }

-- an operand of a kind, and what stands behind it
pub record Next (version : Version) (kind : Kind) (rest : List Kind) (list : List Operand) : Type 0 where
  pub o : Operand
  pub more : List Operand
  pub is : list ≡ o ∷ more
  pub suit : suits version kind o ≡ true
  pub behind : all_suit version rest more ≡ true

pub next : (version : Version) (kind : Kind) (rest : List Kind) (list : List Operand) → is_optional kind ≡ false → kind ≢ kinds.Operation → all_suit version (kind ∷ rest) list ≡ true → Next version kind rest list
next version kind rest list needed other h =
    let f = first version kind rest list needed h in
    record { o = f.o; more = f.more; is = f.is; suit = f.suit; behind = ap (λ r. all_suit version r f.more) (sym (plain_behind version kind f.o rest other f.suit)) ∙ f.behind }

record Tail (op : VecOp) (more : List Operand) : Type 0 where
  elem : Elem
  from : Elem
  a : Bool
  b : Bool
  acc : Bool
  is : operands.Operation op ∷ more ≡ vector_operands_of op elem from a b acc
  allowed : allows_mode op b acc ≡ true
  one_type : is_cast op ≡ false → from ≡ elem

record OneLetter (more : List Operand) : Type 0 where
  elem : Elem
  a : Bool
  acc : Bool
  is : more ≡ operands.Elem elem ∷ operands.ModeA a ∷ (if acc then operands.Sum ∷ [] else [])

one_letter_tail : (version : Version) (more : List Operand) → all_suit version (kinds.Elem ∷ kinds.ModeA ∷ kinds.Sum ∷ []) more ≡ true → OneLetter more
one_letter_tail version more h =
    let f = next version kinds.Elem (kinds.ModeA ∷ kinds.Sum ∷ []) more refl (λ e. absurd (cc)) h in
    let g = next version kinds.ModeA (kinds.Sum ∷ []) f.more refl (λ e. absurd (cc)) f.behind in
    let s = sum_tail version g.more g.behind in
    record {
      elem = elem_of f.o;
      a = is_a_scalar_of g.o;
      acc = s.acc;
      is = f.is ∙ ap (λ o. o ∷ f.more) (elems version f.o f.suit) ∙ ap (λ r. operands.Elem (elem_of f.o) ∷ r) (g.is ∙ ap (λ o. o ∷ g.more) (one_letters version g.o g.suit) ∙ ap (λ r. operands.ModeA (is_a_scalar_of g.o) ∷ r) s.is);
    }

record TwoLetters (more : List Operand) : Type 0 where
  elem : Elem
  a : Bool
  b : Bool
  acc : Bool
  is : more ≡ operands.Elem elem ∷ operands.ModeAB a b ∷ (if acc then operands.Sum ∷ [] else [])

two_letter_tail : (version : Version) (more : List Operand) → all_suit version (kinds.Elem ∷ kinds.ModeAB ∷ kinds.Sum ∷ []) more ≡ true → TwoLetters more
two_letter_tail version more h =
    let f = next version kinds.Elem (kinds.ModeAB ∷ kinds.Sum ∷ []) more refl (λ e. absurd (cc)) h in
    let g = next version kinds.ModeAB (kinds.Sum ∷ []) f.more refl (λ e. absurd (cc)) f.behind in
    let s = sum_tail version g.more g.behind in
    record {
      elem = elem_of f.o;
      a = is_a_scalar_of g.o;
      b = is_b_scalar_of g.o;
      acc = s.acc;
      is = f.is ∙ ap (λ o. o ∷ f.more) (elems version f.o f.suit) ∙ ap (λ r. operands.Elem (elem_of f.o) ∷ r) (g.is ∙ ap (λ o. o ∷ g.more) (two_letters version g.o g.suit) ∙ ap (λ r. operands.ModeAB (is_a_scalar_of g.o) (is_b_scalar_of g.o) ∷ r) s.is);
    }

record CastTail (more : List Operand) : Type 0 where
  elem : Elem
  rest : List Operand
  tail : OneLetter rest
  is : more ≡ operands.Elem elem ∷ rest

cast_tail : (version : Version) (more : List Operand) → all_suit version (kinds.Elem ∷ kinds.Elem ∷ kinds.ModeA ∷ kinds.Sum ∷ []) more ≡ true → CastTail more
cast_tail version more h =
    let f = next version kinds.Elem (kinds.Elem ∷ kinds.ModeA ∷ kinds.Sum ∷ []) more refl (λ e. absurd (cc)) h in
    record { elem = elem_of f.o; rest = f.more; tail = one_letter_tail version f.more f.behind; is = f.is ∙ ap (λ o. o ∷ f.more) (elems version f.o f.suit) }

record FlagsTail (more : List Operand) : Type 0 where
  elem : Elem
  a : Bool
  is : more ≡ operands.Elem elem ∷ operands.ModeAB a false ∷ []

-- a conditional move has no scalar B and adds nothing
flags_tail : (version : Version) (more : List Operand) → all_suit version (kinds.Elem ∷ kinds.ModeFlags ∷ kinds.NoSum ∷ []) more ≡ true → are_in_range (kinds.Elem ∷ kinds.ModeFlags ∷ kinds.NoSum ∷ []) more ≡ true → FlagsTail more
flags_tail version more h r = by f.o g.o g.more (elems version f.o f.suit) (flag_letters version g.o g.suit) all (subst (λ l. are_in_range (kinds.Elem ∷ kinds.ModeFlags ∷ kinds.NoSum ∷ []) l ≡ true) all r)
  where
    f : Next version kinds.Elem (kinds.ModeFlags ∷ kinds.NoSum ∷ []) more
    f = next version kinds.Elem (kinds.ModeFlags ∷ kinds.NoSum ∷ []) more refl (λ e. absurd (cc)) h

    g : Next version kinds.ModeFlags (kinds.NoSum ∷ []) f.more
    g = next version kinds.ModeFlags (kinds.NoSum ∷ []) f.more refl (λ e. absurd (cc)) f.behind

    all : more ≡ f.o ∷ g.o ∷ g.more
    all = f.is ∙ ap (λ l. f.o ∷ l) g.is

    ended : (e : Elem) (a b : Bool) (rest : List Operand) → are_in_range (kinds.Elem ∷ kinds.ModeFlags ∷ kinds.NoSum ∷ []) (operands.Elem e ∷ operands.ModeAB a b ∷ rest) ≡ true → (b ≡ false) × (rest ≡ [])
    ended e a true rest q = let w : false ≡ true = q in absurd (cc)
    ended e a false [] q = (refl, refl)
    ended e a false (z ∷ rest) q = let w : false ≡ true = q in absurd (cc)

    by : (x y : Operand) (rest : List Operand) → x ≡ operands.Elem (elem_of x) → y ≡ operands.ModeAB (is_a_scalar_of y) (is_b_scalar_of y) → more ≡ x ∷ y ∷ rest → are_in_range (kinds.Elem ∷ kinds.ModeFlags ∷ kinds.NoSum ∷ []) (x ∷ y ∷ rest) ≡ true → FlagsTail more
    by x y rest p q e ranges =
        let there : are_in_range (kinds.Elem ∷ kinds.ModeFlags ∷ kinds.NoSum ∷ []) (operands.Elem (elem_of x) ∷ operands.ModeAB (is_a_scalar_of y) (is_b_scalar_of y) ∷ rest) ≡ true =
        subst (λ w. are_in_range (kinds.Elem ∷ kinds.ModeFlags ∷ kinds.NoSum ∷ []) (operands.Elem (elem_of x) ∷ w ∷ rest) ≡ true) q (subst (λ w. are_in_range (kinds.Elem ∷ kinds.ModeFlags ∷ kinds.NoSum ∷ []) (w ∷ y ∷ rest) ≡ true) p ranges) in
        let end = ended (elem_of x) (is_a_scalar_of y) (is_b_scalar_of y) rest there in
        record {
          elem = elem_of x;
          a = is_a_scalar_of y;
          is = e ∙ ap (λ w. w ∷ y ∷ rest) p ∙ ap (λ w. operands.Elem (elem_of x) ∷ w ∷ rest) q
              ∙ ap (λ b. operands.Elem (elem_of x) ∷ operands.ModeAB (is_a_scalar_of y) b ∷ rest) end.0 ∙ ap (λ r. operands.Elem (elem_of x) ∷ operands.ModeAB (is_a_scalar_of y) false ∷ r) end.1;
        }

tail_of : (version : Version) (op : VecOp) (more : List Operand) → all_suit version (operation_kinds op) more ≡ true → are_in_range (operation_kinds op) more ≡ true → Tail op more
tail_of version ops.Mov more h r = let s = one_letter_tail version more h in record { elem = s.elem; from = s.elem; a = s.a; b = false; acc = s.acc; is = ap (λ l. operands.Operation ops.Mov ∷ l) s.is; allowed = refl; one_type = λ e. refl }
tail_of version ops.Cast more h r = let s = cast_tail version more h in record { elem = s.elem; from = s.tail.elem; a = s.tail.a; b = false; acc = s.tail.acc; is = ap (λ l. operands.Operation ops.Cast ∷ l) (s.is ∙ ap (λ l. operands.Elem s.elem ∷ l) s.tail.is); allowed = refl; one_type = λ e. absurd (cc) }
tail_of version ops.Add more h r = let s = two_letter_tail version more h in record { elem = s.elem; from = s.elem; a = s.a; b = s.b; acc = s.acc; is = ap (λ l. operands.Operation ops.Add ∷ l) s.is; allowed = refl; one_type = λ e. refl }
tail_of version ops.Sub more h r = let s = two_letter_tail version more h in record { elem = s.elem; from = s.elem; a = s.a; b = s.b; acc = s.acc; is = ap (λ l. operands.Operation ops.Sub ∷ l) s.is; allowed = refl; one_type = λ e. refl }
tail_of version ops.Mul more h r = let s = two_letter_tail version more h in record { elem = s.elem; from = s.elem; a = s.a; b = s.b; acc = s.acc; is = ap (λ l. operands.Operation ops.Mul ∷ l) s.is; allowed = refl; one_type = λ e. refl }
tail_of version ops.And more h r = let s = two_letter_tail version more h in record { elem = s.elem; from = s.elem; a = s.a; b = s.b; acc = s.acc; is = ap (λ l. operands.Operation ops.And ∷ l) s.is; allowed = refl; one_type = λ e. refl }
tail_of version ops.Or more h r = let s = two_letter_tail version more h in record { elem = s.elem; from = s.elem; a = s.a; b = s.b; acc = s.acc; is = ap (λ l. operands.Operation ops.Or ∷ l) s.is; allowed = refl; one_type = λ e. refl }
tail_of version ops.Xor more h r = let s = two_letter_tail version more h in record { elem = s.elem; from = s.elem; a = s.a; b = s.b; acc = s.acc; is = ap (λ l. operands.Operation ops.Xor ∷ l) s.is; allowed = refl; one_type = λ e. refl }
tail_of version ops.Shl more h r = let s = two_letter_tail version more h in record { elem = s.elem; from = s.elem; a = s.a; b = s.b; acc = s.acc; is = ap (λ l. operands.Operation ops.Shl ∷ l) s.is; allowed = refl; one_type = λ e. refl }
tail_of version ops.Shr more h r = let s = two_letter_tail version more h in record { elem = s.elem; from = s.elem; a = s.a; b = s.b; acc = s.acc; is = ap (λ l. operands.Operation ops.Shr ∷ l) s.is; allowed = refl; one_type = λ e. refl }
tail_of version ops.Min more h r = let s = two_letter_tail version more h in record { elem = s.elem; from = s.elem; a = s.a; b = s.b; acc = s.acc; is = ap (λ l. operands.Operation ops.Min ∷ l) s.is; allowed = refl; one_type = λ e. refl }
tail_of version ops.Max more h r = let s = two_letter_tail version more h in record { elem = s.elem; from = s.elem; a = s.a; b = s.b; acc = s.acc; is = ap (λ l. operands.Operation ops.Max ∷ l) s.is; allowed = refl; one_type = λ e. refl }
tail_of version ops.Abs more h r = let s = one_letter_tail version more h in record { elem = s.elem; from = s.elem; a = s.a; b = false; acc = s.acc; is = ap (λ l. operands.Operation ops.Abs ∷ l) s.is; allowed = refl; one_type = λ e. refl }
tail_of version ops.Eq more h r = let s = two_letter_tail version more h in record { elem = s.elem; from = s.elem; a = s.a; b = s.b; acc = s.acc; is = ap (λ l. operands.Operation ops.Eq ∷ l) s.is; allowed = refl; one_type = λ e. refl }
tail_of version ops.Ne more h r = let s = two_letter_tail version more h in record { elem = s.elem; from = s.elem; a = s.a; b = s.b; acc = s.acc; is = ap (λ l. operands.Operation ops.Ne ∷ l) s.is; allowed = refl; one_type = λ e. refl }
tail_of version ops.Lt more h r = let s = two_letter_tail version more h in record { elem = s.elem; from = s.elem; a = s.a; b = s.b; acc = s.acc; is = ap (λ l. operands.Operation ops.Lt ∷ l) s.is; allowed = refl; one_type = λ e. refl }
tail_of version ops.Le more h r = let s = two_letter_tail version more h in record { elem = s.elem; from = s.elem; a = s.a; b = s.b; acc = s.acc; is = ap (λ l. operands.Operation ops.Le ∷ l) s.is; allowed = refl; one_type = λ e. refl }
tail_of version ops.Cmov more h r = let s = flags_tail version more h r in record { elem = s.elem; from = s.elem; a = s.a; b = false; acc = false; is = ap (λ l. operands.Operation ops.Cmov ∷ l) s.is; allowed = refl; one_type = λ e. refl }
tail_of version ops.Sadd more h r = let s = two_letter_tail version more h in record { elem = s.elem; from = s.elem; a = s.a; b = s.b; acc = s.acc; is = ap (λ l. operands.Operation ops.Sadd ∷ l) s.is; allowed = refl; one_type = λ e. refl }
tail_of version ops.Ssub more h r = let s = two_letter_tail version more h in record { elem = s.elem; from = s.elem; a = s.a; b = s.b; acc = s.acc; is = ap (λ l. operands.Operation ops.Ssub ∷ l) s.is; allowed = refl; one_type = λ e. refl }

-- the parts of a vector instruction
pub record Shape (list : List Operand) : Type 0 where
  pub op : VecOp
  pub elem : Elem
  pub from : Elem
  pub a : Bool
  pub b : Bool
  pub acc : Bool
  pub is : list ≡ vector_operands_of op elem from a b acc
  pub allowed : allows_mode op b acc ≡ true
  pub one_type : is_cast op ≡ false → from ≡ elem

pub shape_of : (list : List Operand) → IsWholeInstr heads.Vec list → Shape list
shape_of list h =
    let version = h.version in
    let f = first version kinds.Operation [] list refl h.suit in
    let op = operation_of f.o in
    let here = operations version f.o f.suit in
    let behind : all_suit version (operation_kinds op) f.more ≡ true = subst (λ x. all_suit version (kinds_behind x []) f.more ≡ true) here f.behind in
    let ranges : are_in_range (kinds.Operation ∷ []) (operands.Operation op ∷ f.more) ≡ true = subst (λ x. are_in_range (kinds.Operation ∷ []) (x ∷ f.more) ≡ true) here (subst (λ l. are_in_range (kinds.Operation ∷ []) l ≡ true) f.is h.ranges) in
    let t = tail_of version op f.more behind ranges in
    record { op = op; elem = t.elem; from = t.from; a = t.a; b = t.b; acc = t.acc; is = f.is ∙ ap (λ x. x ∷ f.more) here ∙ t.is; allowed = t.allowed; one_type = t.one_type }
