-- Instructions and their bytes: what is spelled is allowed, and one instruction has these fields.
use Rattle.std.proofs.Common.{◌≡◌, ℕ, zero, suc, ◌<◌, ◌≤◌, ◌^◌, Bool, true, false, eqb, ltb, ◌||◌, List, [], ◌∷◌, get_or, drop, Ok, Err, refl, sym, ap, ◌∙◌, subst, inl, inr, arith}
use Rattle.std.specs.Prelude.{IsTrue, slice_get}
use Rattle.std.specs.Int.{w32, to_le_bytes, from_le_bytes}
use Rattle.std.specs.Option.{option_map_or}
use Rattle.std.proofs.lemmas.Bool.{cases_Bool, cases_lt, lt-ltb}
use Rattle.std.proofs.lemmas.Nat.{from_le_bytes-to_le_bytes_4}
use Rattle.venice_isa.specs.declared.instr.Version.{Version}
use Rattle.venice_isa.specs.declared.instr.Version.TheVariants.{One, Two}
use Rattle.venice_isa.specs.declared.instr.Instr.{Instr}
use Rattle.venice_isa.specs.declared.instr.Instr.TheVariants.{Halt, Li, Addi, Add, Sub, Mul, Div, Bnz, Blt, Jmp, Set, Vec, Dma, Rwait, Wwait, Vwait, Tag, Twait}
use Rattle.venice_isa.specs.declared.kind.VecKind.{VecKind}
use Rattle.venice_isa.specs.declared.encoding.Fields.{Fields}
use Rattle.venice_isa.specs.declared.encoding.InstrFault.{InstrFault}
use Rattle.venice_isa.specs.declared.encoding.InstrFault.TheVariants.{BadOpcode, BadField}
use Rattle.venice_isa.specs.Instr.{IsInstr, HasRanges, has_instr, has_operation, is_second}
use Rattle.venice_isa.specs.Form.{operations, allows_at, has_code, IsAllowed, IsInstrFault}
use Rattle.venice_isa.specs.Decoding.{IsDecoding}
use Rattle.venice_isa.specs.Encoding.{encoded, fields_of, bytes_of_fields, bit, operation_number}
use Rattle.venice_isa.proofs.KindBytes.{operation_again, kind_mode_allowed, kind_types_allowed, same_kind}

-- ---- what is spelled is allowed

in_any : (version : Version) → IsTrue (is_second version || true)
in_any One = refl
in_any Two = refl

-- byte k of these fields may stand there
abbrev Allows : Version → Fields → ℕ → Type 0
Allows version f k = IsTrue (allows_at version (bytes_of_fields f) k)

allowed : (version : Version) (f : Fields) → IsTrue (has_code version f.code) → Allows version f 1 → Allows version f 2 → Allows version f 3 → Allows version f 4 → Allows version f 5 → Allows version f 6 → Allows version f 7 → IsAllowed version (bytes_of_fields f)
allowed version f code a1 a2 a3 a4 a5 a6 a7 = record { code = code; each = λ k from below. at k from below }
  where
    at : (k : ℕ) → 1 ≤ k → k < 8 → Allows version f k
    at zero from below = absurd (omega arith)
    at (suc zero) from below = a1
    at (suc (suc zero)) from below = a2
    at (suc (suc (suc zero))) from below = a3
    at (suc (suc (suc (suc zero)))) from below = a4
    at (suc (suc (suc (suc (suc zero))))) from below = a5
    at (suc (suc (suc (suc (suc (suc zero)))))) from below = a6
    at (suc (suc (suc (suc (suc (suc (suc zero))))))) from below = a7
    at (suc (suc (suc (suc (suc (suc (suc (suc k)))))))) from below = absurd (omega arith)

register : (r : ℕ) → r < 32 → ltb r 32 ≡ true
register r small = lt-ltb r 32 small

direction : (write : Bool) → ltb (bit write) 2 ≡ true
direction true = refl
direction false = refl

operation_allowed : (version : Version) (kind : VecKind) → IsTrue (has_operation version kind.op) → IsTrue (option_map_or (has_operation version) (slice_get operations (operation_number kind.op)) false)
operation_allowed version kind there = ap (λ o. option_map_or (has_operation version) o false) (operation_again kind.op) ∙ there

-- an instruction on tags is in version two alone
second_code : (version : Version) → IsTrue (is_second version) → IsTrue (is_second version || false)
second_code Two there = refl
second_code One there = there

fields_allowed : (version : Version) (instr : Instr) → IsTrue (has_instr version instr) → HasRanges instr → IsAllowed version (bytes_of_fields (fields_of instr))
fields_allowed version Halt there r = allowed version (fields_of Halt) (in_any version) refl refl refl refl refl refl refl
fields_allowed version (Li d n) there r = allowed version (fields_of (Li d n)) (in_any version) (register d r.0) refl refl refl refl refl refl
fields_allowed version (Addi d a n) there r = allowed version (fields_of (Addi d a n)) (in_any version) (register d r.0) (register a r.1) refl refl refl refl refl
fields_allowed version (Add d a b) there r = allowed version (fields_of (Add d a b)) (in_any version) (register d r.0) (register a r.1) (register b r.2) refl refl refl refl
fields_allowed version (Sub d a b) there r = allowed version (fields_of (Sub d a b)) (in_any version) (register d r.0) (register a r.1) (register b r.2) refl refl refl refl
fields_allowed version (Mul d a b) there r = allowed version (fields_of (Mul d a b)) (in_any version) (register d r.0) (register a r.1) (register b r.2) refl refl refl refl
fields_allowed version (Div d a b) there r = allowed version (fields_of (Div d a b)) (in_any version) (register d r.0) (register a r.1) (register b r.2) refl refl refl refl
fields_allowed version (Bnz a to) there r = allowed version (fields_of (Bnz a to)) (in_any version) refl (register a r.0) refl refl refl refl refl
fields_allowed version (Blt a b to) there r = allowed version (fields_of (Blt a b to)) (in_any version) refl (register a r.0) (register b r.1) refl refl refl refl
fields_allowed version (Jmp to) there r = allowed version (fields_of (Jmp to)) (in_any version) refl refl refl refl refl refl refl
fields_allowed version (Set field a) there r = allowed version (fields_of (Set field a)) (in_any version) (lt-ltb field 14 r.0) (register a r.1) refl refl refl refl refl
fields_allowed version (Vec kind) there r = allowed version (fields_of (Vec kind)) (in_any version) (operation_allowed version kind there) (kind_mode_allowed kind) (kind_types_allowed kind) refl refl refl refl
fields_allowed version (Dma write) there r = allowed version (fields_of (Dma write)) (in_any version) (direction write) refl refl refl refl refl refl
fields_allowed version (Rwait a) there r = allowed version (fields_of (Rwait a)) (in_any version) refl (register a r) refl refl refl refl refl
fields_allowed version (Wwait a) there r = allowed version (fields_of (Wwait a)) (in_any version) refl (register a r) refl refl refl refl refl
fields_allowed version Vwait there r = allowed version (fields_of Vwait) (in_any version) refl refl refl refl refl refl refl
fields_allowed version (Tag a) there r = allowed version (fields_of (Tag a)) (second_code version there) refl (register a r) refl refl refl refl refl
fields_allowed version (Twait a) there r = allowed version (fields_of (Twait a)) (second_code version there) refl (register a r) refl refl refl refl refl

pub instr_allowed : (version : Version) (instr : Instr) (bytes : List ℕ) → IsInstr version instr → encoded instr ≡ bytes → IsAllowed version bytes
unfolding encoded
instr_allowed version instr bytes is spelled = subst (IsAllowed version) spelled (fields_allowed version instr is.in_version is.ranges)

-- ---- what is allowed is in the version

second_is : (version : Version) → IsTrue (is_second version || false) → IsTrue (is_second version)
second_is One there = there
second_is Two there = refl

pub allowed_in_version : (version : Version) (instr : Instr) → IsAllowed version (bytes_of_fields (fields_of instr)) → IsTrue (has_instr version instr)
allowed_in_version version Halt all = refl
allowed_in_version version (Li d n) all = refl
allowed_in_version version (Addi d a n) all = refl
allowed_in_version version (Add d a b) all = refl
allowed_in_version version (Sub d a b) all = refl
allowed_in_version version (Mul d a b) all = refl
allowed_in_version version (Div d a b) all = refl
allowed_in_version version (Bnz a to) all = refl
allowed_in_version version (Blt a b to) all = refl
allowed_in_version version (Jmp to) all = refl
allowed_in_version version (Set field a) all = refl
allowed_in_version version (Vec kind) all =
    let first : IsTrue (option_map_or (has_operation version) (slice_get operations (operation_number kind.op)) false) = all.each 1 (omega arith) (omega arith) in
    sym (ap (λ o. option_map_or (has_operation version) o false) (operation_again kind.op)) ∙ first
allowed_in_version version (Dma write) all = refl
allowed_in_version version (Rwait a) all = refl
allowed_in_version version (Wwait a) all = refl
allowed_in_version version Vwait all = refl
allowed_in_version version (Tag a) all = second_is version all.code
allowed_in_version version (Twait a) all = second_is version all.code

-- ---- one instruction has these fields

is_vector : Instr → Bool
is_vector (Vec kind) = true
is_vector instr = false

vector_code : (instr : Instr) → is_vector instr ≡ eqb (fields_of instr).code 11
unfolding is_vector
vector_code Halt = refl
vector_code (Li d n) = refl
vector_code (Addi d a n) = refl
vector_code (Add d a b) = refl
vector_code (Sub d a b) = refl
vector_code (Mul d a b) = refl
vector_code (Div d a b) = refl
vector_code (Bnz a to) = refl
vector_code (Blt a b to) = refl
vector_code (Jmp to) = refl
vector_code (Set field a) = refl
vector_code (Vec kind) = refl
vector_code (Dma write) = refl
vector_code (Rwait a) = refl
vector_code (Wwait a) = refl
vector_code Vwait = refl
vector_code (Tag a) = refl
vector_code (Twait a) = refl

-- the instruction of fields, but for vector instructions
again : Fields → Instr
again f =
    get_or
    (Halt ∷ Li f.byte1 f.number ∷ Addi f.byte1 f.byte2 f.number ∷ Add f.byte1 f.byte2 f.byte3 ∷ Sub f.byte1 f.byte2 f.byte3 ∷ Mul f.byte1 f.byte2 f.byte3 ∷ Div f.byte1 f.byte2 f.byte3
    ∷ Bnz f.byte2 f.number ∷ Blt f.byte2 f.byte3 f.number ∷ Jmp f.number ∷ Set f.byte1 f.byte2 ∷ Halt ∷ Dma (eqb f.byte1 1) ∷ Rwait f.byte2 ∷ Wwait f.byte2 ∷ Vwait ∷ Tag f.byte2 ∷ Twait f.byte2 ∷ [])
    f.code Halt

again_is : (instr : Instr) → is_vector instr ≡ false → again (fields_of instr) ≡ instr
unfolding again is_vector
again_is Halt plain = refl
again_is (Li d n) plain = refl
again_is (Addi d a n) plain = refl
again_is (Add d a b) plain = refl
again_is (Sub d a b) plain = refl
again_is (Mul d a b) plain = refl
again_is (Div d a b) plain = refl
again_is (Bnz a to) plain = refl
again_is (Blt a b to) plain = refl
again_is (Jmp to) plain = refl
again_is (Set field a) plain = refl
again_is (Vec kind) plain = absurd cc
again_is (Dma true) plain = refl
again_is (Dma false) plain = refl
again_is (Rwait a) plain = refl
again_is (Wwait a) plain = refl
again_is Vwait plain = refl
again_is (Tag a) plain = refl
again_is (Twait a) plain = refl

same_vector : (k j : VecKind) → fields_of (Vec k) ≡ fields_of (Vec j) → Vec k ≡ Vec j
same_vector k j e = ap Vec (same_kind k j (ap (λ (f : Fields). f.byte1) e) (ap (λ (f : Fields). f.byte2) e) (ap (λ (f : Fields). f.byte3) e))

-- a vector instruction is one of some kind
kind_of_vector : (instr : Instr) → is_vector instr ≡ true → (kind : VecKind) × (instr ≡ Vec kind)
unfolding is_vector
kind_of_vector Halt v = absurd cc
kind_of_vector (Li d n) v = absurd cc
kind_of_vector (Addi d a n) v = absurd cc
kind_of_vector (Add d a b) v = absurd cc
kind_of_vector (Sub d a b) v = absurd cc
kind_of_vector (Mul d a b) v = absurd cc
kind_of_vector (Div d a b) v = absurd cc
kind_of_vector (Bnz a to) v = absurd cc
kind_of_vector (Blt a b to) v = absurd cc
kind_of_vector (Jmp to) v = absurd cc
kind_of_vector (Set field a) v = absurd cc
kind_of_vector (Vec kind) v = (kind, refl)
kind_of_vector (Dma write) v = absurd cc
kind_of_vector (Rwait a) v = absurd cc
kind_of_vector (Wwait a) v = absurd cc
kind_of_vector Vwait v = absurd cc
kind_of_vector (Tag a) v = absurd cc
kind_of_vector (Twait a) v = absurd cc

pub same_instr : (i j : Instr) → fields_of i ≡ fields_of j → i ≡ j
same_instr i j e =
    let one : is_vector i ≡ is_vector j = vector_code i ∙ ap (λ (f : Fields). eqb f.code 11) e ∙ sym (vector_code j) in
    elim (cases_Bool (is_vector i)) [
      | inl vector ↦
          let k = kind_of_vector i vector in
          let h = kind_of_vector j (sym one ∙ vector) in
          let fields_same : fields_of (Vec k.0) ≡ fields_of (Vec h.0) = ap fields_of (sym k.1) ∙ e ∙ ap fields_of h.1 in
          k.1 ∙ same_vector k.0 h.0 fields_same ∙ sym h.1
      | inr plain ↦ sym (again_is i plain) ∙ ap again e ∙ again_is j (sym one ∙ plain)
    ]

-- ---- and these bytes

number_small : (instr : Instr) → HasRanges instr → (fields_of instr).number < 2 ^ 32
number_small Halt r = omega arith
number_small (Li d n) r = r.1
number_small (Addi d a n) r = r.2
number_small (Add d a b) r = omega arith
number_small (Sub d a b) r = omega arith
number_small (Mul d a b) r = omega arith
number_small (Div d a b) r = omega arith
number_small (Bnz a to) r = r.1
number_small (Blt a b to) r = r.2
number_small (Jmp to) r = r
number_small (Set field a) r = omega arith
number_small (Vec kind) r = omega arith
number_small (Dma write) r = omega arith
number_small (Rwait a) r = omega arith
number_small (Wwait a) r = omega arith
number_small Vwait r = omega arith
number_small (Tag a) r = omega arith
number_small (Twait a) r = omega arith

-- eight bytes have their fields alone
same_fields : (f g : Fields) → f.number < 2 ^ 32 → g.number < 2 ^ 32 → bytes_of_fields f ≡ bytes_of_fields g → f ≡ g
same_fields f g f_small g_small e =
    let code : f.code ≡ g.code = ap (λ bs. get_or bs 0 0) e in
    let byte1 : f.byte1 ≡ g.byte1 = ap (λ bs. get_or bs 1 0) e in
    let byte2 : f.byte2 ≡ g.byte2 = ap (λ bs. get_or bs 2 0) e in
    let byte3 : f.byte3 ≡ g.byte3 = ap (λ bs. get_or bs 3 0) e in
    let rest : to_le_bytes w32 f.number ≡ to_le_bytes w32 g.number = ap (λ bs. drop 4 bs) e in
    let number : f.number ≡ g.number = sym (from_le_bytes-to_le_bytes_4 f.number f_small) ∙ ap (from_le_bytes w32) rest ∙ from_le_bytes-to_le_bytes_4 g.number g_small in
    λ i. record { code = code i; byte1 = byte1 i; byte2 = byte2 i; byte3 = byte3 i; number = number i }

pub one_instr : (i j : Instr) → HasRanges i → HasRanges j → encoded i ≡ encoded j → i ≡ j
unfolding encoded
one_instr i j ri rj e = same_instr i j (same_fields (fields_of i) (fields_of j) (number_small i ri) (number_small j rj) e)

-- ---- faults

-- bytes that are allowed have none
pub allowed_no_fault : (version : Version) (bytes : List ℕ) (fault : InstrFault) → IsAllowed version bytes → ¬ IsInstrFault version bytes fault
allowed_no_fault version bytes BadOpcode all broken = absurd (cc (all.code, broken))
allowed_no_fault version bytes (BadField k) all broken = absurd (cc (all.each k broken.from broken.below, broken.breaks))

-- and bytes have one
pub one_fault : (version : Version) (bytes : List ℕ) (fault other : InstrFault) → IsInstrFault version bytes fault → IsInstrFault version bytes other → fault ≡ other
one_fault version bytes BadOpcode BadOpcode f g = refl
one_fault version bytes BadOpcode (BadField k) f g = absurd (cc (g.code, f))
one_fault version bytes (BadField k) BadOpcode f g = absurd (cc (f.code, g))
one_fault version bytes (BadField k) (BadField j) f g = elim (cases_lt k j) [
  | inl lt ↦ absurd (cc (g.earlier k f.from lt, f.breaks))
  | inr ge ↦ elim (cases_lt j k) [
    | inl lt ↦ absurd (cc (f.earlier j g.from lt, g.breaks))
    | inr le ↦ let same : k ≡ j = omega arith in ap (λ n. BadField n) same
  ]
]

-- ---- the two answers

pub faulty : (version : Version) (bytes : List ℕ) (fault : InstrFault) → IsInstrFault version bytes fault → IsDecoding version bytes (Err fault)
faulty version bytes fault broken = record {
  found = tt;
  spelled = tt;
  only = λ instr is spelled. absurd (allowed_no_fault version bytes fault (instr_allowed version instr bytes is spelled) broken);
  fault = broken;
  exact = λ other too. ap (λ f. Err f) (one_fault version bytes fault other broken too);
}

pub readable : (version : Version) (bytes : List ℕ) (instr : Instr) → IsInstr version instr → encoded instr ≡ bytes → IsDecoding version bytes (Ok instr)
readable version bytes instr is spelled = record {
  found = is;
  spelled = spelled;
  only = λ other is' spelled'. ap (λ i. Ok i) (one_instr instr other is.ranges is'.ranges (spelled ∙ sym spelled'));
  fault = tt;
  exact = λ fault broken. absurd (allowed_no_fault version bytes fault (instr_allowed version instr bytes is spelled) broken);
}
