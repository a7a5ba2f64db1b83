-- Which operand a word is, both ways.
use Rattle.std.proofs.Common.{◌≡◌, ℕ, zero, suc, ◌+◌, ◌-◌, ◌<◌, ◌≤◌, Bool, true, false, List, [], ◌∷◌, length, get_or, Option, Some, None, refl, sym, ap, subst, ◌∙◌, arith}
use Rattle.std.specs.Prelude.{nat_lt, if◌then◌else◌, ◌==◌, not}
use Rattle.std.specs.Option.{option_map, option_and_then}
use Rattle.std.specs.Str.{bytes_eq}
use Rattle.std.proofs.lemmas.Bool.Decides.{nat_tests}
use Rattle.ven_base.specs.declared.elem.Elem.{Elem}
use Rattle.ven_base.specs.declared.elem.Elem.TheVariants.{U8, I8, U16, I16, U32, I32}
use Rattle.ven_base.proofs.Words.{same_bytes}
use Rattle.venice_isa.specs.declared.instr.Version.{Version}
use Rattle.venice_isa.specs.declared.op.VecOp.{VecOp}
use Rattle.venice_isa.specs.declared.op.VecOp.TheVariants as ops
use Rattle.venice_isa.specs.Form.{operations, element_types}
use Rattle.venice_isa.specs.Instr.{has_operation}
use Rattle.venice_asm.specs.declared.head.Kind.{Kind}
use Rattle.venice_asm.specs.declared.head.Kind.TheVariants as kinds
use Rattle.venice_asm.specs.declared.operand.Operand.{Operand}
use Rattle.venice_asm.specs.declared.operand.Operand.TheVariants as operands
use Rattle.venice_asm.specs.declared.word.Word.{Word}
use Rattle.venice_asm.specs.declared.word.Word.TheVariants as words
use Rattle.venice_asm.specs.Fitting.{number_from, parameter_named, one_named, scalar_named, register_named, in_version, operation_named, one_letter, two_letters, name_operand, number_operand, operand_as}
use Rattle.venice_asm.specs.Lines.{is_reserved, suits}
use Rattle.venice_asm.specs.Spelling.{keyword_among, operand_word, parameter_words, parameter_word, direction_word, transfer_word, letter, sum_word, operation_word, type_word}
use Rattle.venice_asm.proofs.Registers.{none_some, some_is, register_read, register_said}

-- ---- an operand is read from its word

parameter_read : (n : ℕ) → nat_lt n 14 ≡ true → parameter_named (parameter_word n) ≡ Some n
parameter_read zero lt = refl
parameter_read (suc zero) lt = refl
parameter_read (suc (suc zero)) lt = refl
parameter_read (suc (suc (suc zero))) lt = refl
parameter_read (suc (suc (suc (suc zero)))) lt = refl
parameter_read (suc (suc (suc (suc (suc zero))))) lt = refl
parameter_read (suc (suc (suc (suc (suc (suc zero)))))) lt = refl
parameter_read (suc (suc (suc (suc (suc (suc (suc zero))))))) lt = refl
parameter_read (suc (suc (suc (suc (suc (suc (suc (suc zero)))))))) lt = refl
parameter_read (suc (suc (suc (suc (suc (suc (suc (suc (suc zero))))))))) lt = refl
parameter_read (suc (suc (suc (suc (suc (suc (suc (suc (suc (suc zero)))))))))) lt = refl
parameter_read (suc (suc (suc (suc (suc (suc (suc (suc (suc (suc (suc zero))))))))))) lt = refl
parameter_read (suc (suc (suc (suc (suc (suc (suc (suc (suc (suc (suc (suc zero)))))))))))) lt = refl
parameter_read (suc (suc (suc (suc (suc (suc (suc (suc (suc (suc (suc (suc (suc zero))))))))))))) lt = refl
parameter_read (suc (suc (suc (suc (suc (suc (suc (suc (suc (suc (suc (suc (suc (suc k)))))))))))))) lt = absurd (grind (arith, nat_tests))

operation_read : (version : Version) (op : VecOp) → has_operation version op ≡ true → operation_named version (operation_word op) ≡ Some op
operation_read version ops.Mov has = ap (λ b. if b then Some ops.Mov else None) has
operation_read version ops.Cast has = ap (λ b. if b then Some ops.Cast else None) has
operation_read version ops.Add has = ap (λ b. if b then Some ops.Add else None) has
operation_read version ops.Sub has = ap (λ b. if b then Some ops.Sub else None) has
operation_read version ops.Mul has = ap (λ b. if b then Some ops.Mul else None) has
operation_read version ops.And has = ap (λ b. if b then Some ops.And else None) has
operation_read version ops.Or has = ap (λ b. if b then Some ops.Or else None) has
operation_read version ops.Xor has = ap (λ b. if b then Some ops.Xor else None) has
operation_read version ops.Shl has = ap (λ b. if b then Some ops.Shl else None) has
operation_read version ops.Shr has = ap (λ b. if b then Some ops.Shr else None) has
operation_read version ops.Min has = ap (λ b. if b then Some ops.Min else None) has
operation_read version ops.Max has = ap (λ b. if b then Some ops.Max else None) has
operation_read version ops.Abs has = ap (λ b. if b then Some ops.Abs else None) has
operation_read version ops.Eq has = ap (λ b. if b then Some ops.Eq else None) has
operation_read version ops.Ne has = ap (λ b. if b then Some ops.Ne else None) has
operation_read version ops.Lt has = ap (λ b. if b then Some ops.Lt else None) has
operation_read version ops.Le has = ap (λ b. if b then Some ops.Le else None) has
operation_read version ops.Cmov has = ap (λ b. if b then Some ops.Cmov else None) has
operation_read version ops.Sadd has = ap (λ b. if b then Some ops.Sadd else None) has
operation_read version ops.Ssub has = ap (λ b. if b then Some ops.Ssub else None) has

type_read : (elem : Elem) → keyword_among type_word element_types (type_word elem) ≡ Some elem
type_read U8 = refl
type_read I8 = refl
type_read U16 = refl
type_read I16 = refl
type_read U32 = refl
type_read I32 = refl

free_read : (bytes : List ℕ) (t : Bool) → not t ≡ true → (if t then None else Some (operands.Name bytes)) ≡ Some (operands.Name bytes)
free_read bytes true h = let e : false ≡ true = h in absurd (cc)
free_read bytes false h = refl

pub operand_read : (version : Version) (kind : Kind) (operand : Operand) → suits version kind operand ≡ true → operand_as version kind (operand_word operand) ≡ Some operand
operand_read version kinds.Version (operands.Number n) h = refl
operand_read version kinds.Number (operands.Number n) h = refl
operand_read version kinds.Array (operands.Name bytes) h = free_read bytes (is_reserved bytes) h
operand_read version kinds.Direction (operands.Output false) h = refl
operand_read version kinds.Direction (operands.Output true) h = refl
operand_read version kinds.Open operands.Open h = refl
operand_read version kinds.Rows (operands.Rows n) h = refl
operand_read version kinds.Comma operands.Comma h = refl
operand_read version kinds.Columns (operands.Columns n) h = refl
operand_read version kinds.Close operands.Close h = refl
operand_read version kinds.Register (operands.Register number) h = ap (option_map operands.Register) (register_read number h)
operand_read version kinds.Parameter (operands.Parameter number) h = ap (option_map operands.Parameter) (parameter_read number h)
operand_read version kinds.Target (operands.Name bytes) h = refl
operand_read version kinds.Target (operands.Number n) h = refl
operand_read version kinds.Transfer (operands.Write false) h = refl
operand_read version kinds.Transfer (operands.Write true) h = refl
operand_read version kinds.Operation (operands.Operation op) h = ap (option_map operands.Operation) (operation_read version op h)
operand_read version kinds.Elem (operands.Elem elem) h = ap (option_map operands.Elem) (type_read elem)
operand_read version kinds.ModeA (operands.ModeA false) h = refl
operand_read version kinds.ModeA (operands.ModeA true) h = refl
operand_read version kinds.ModeAB (operands.ModeAB false false) h = refl
operand_read version kinds.ModeAB (operands.ModeAB false true) h = refl
operand_read version kinds.ModeAB (operands.ModeAB true false) h = refl
operand_read version kinds.ModeAB (operands.ModeAB true true) h = refl
operand_read version kinds.ModeFlags (operands.ModeAB false false) h = refl
operand_read version kinds.ModeFlags (operands.ModeAB false true) h = refl
operand_read version kinds.ModeFlags (operands.ModeAB true false) h = refl
operand_read version kinds.ModeFlags (operands.ModeAB true true) h = refl
operand_read version kinds.Sum operands.Sum h = refl
operand_read version kinds.NoSum operands.Sum h = refl
operand_read version kind operand h = let e : false ≡ true = h in absurd (cc)

-- ---- and its word is the one that is read

pub keyword_said : {A : Type 0} (spelling : A → List ℕ) (items : List A) (bytes : List ℕ) (item : A) → keyword_among spelling items bytes ≡ Some item → spelling item ≡ bytes
keyword_said spelling [] bytes item e = absurd (none_some item e)
keyword_said {A} spelling (x ∷ xs) bytes item e = by (λ f. keyword_said spelling xs bytes item f) (bytes_eq bytes (spelling x)) refl e
  where
    by : (keyword_among spelling xs bytes ≡ Some item → spelling item ≡ bytes) → (t : Bool) → bytes_eq bytes (spelling x) ≡ t → (if t then Some x else keyword_among spelling xs bytes) ≡ Some item → spelling item ≡ bytes
    by more true is f = ap spelling (sym (some_is x item f)) ∙ sym (same_bytes bytes (spelling x) is)
    by more false is f = more f

number_said : (k : ℕ) (list : List (List ℕ)) (bytes : List ℕ) (n : ℕ) → number_from k list bytes ≡ Some n → (k ≤ n) × (n < k + length list) × (get_or list (n - k) [] ≡ bytes)
number_said k [] bytes n e = absurd (none_some n e)
number_said k (word ∷ rest) bytes n e = by (λ f. number_said (k + 1) rest bytes n f) (bytes_eq bytes word) refl e
  where
    by : (number_from (k + 1) rest bytes ≡ Some n → (k + 1 ≤ n) × (n < k + 1 + length rest) × (get_or rest (n - (k + 1)) [] ≡ bytes)) → (t : Bool) → bytes_eq bytes word ≡ t → (if t then Some k else number_from (k + 1) rest bytes) ≡ Some n → (k ≤ n) × (n < k + length (word ∷ rest)) × (get_or (word ∷ rest) (n - k) [] ≡ bytes)
    by further true is f =
        let same = some_is k n f in
        let here : n - k ≡ 0 = omega arith in
        (omega arith, omega arith, ap (λ j. get_or (word ∷ rest) j []) here ∙ sym (same_bytes bytes word is))
    by further false is f =
        let more = further f in
        let from = more.0 in
        let there : n - k ≡ suc (n - (k + 1)) = omega arith in
        (omega arith, (let lt = more.1 in omega arith), ap (λ j. get_or (word ∷ rest) j []) there ∙ more.2)

parameter_said : (bytes : List ℕ) (n : ℕ) → parameter_named bytes ≡ Some n → (nat_lt n 14 ≡ true) × (parameter_word n ≡ bytes)
parameter_said bytes n e =
    let said = number_said 0 parameter_words bytes n e in
    let lt : n < 14 = said.1 in
    let here : n ≡ n - 0 = omega arith in
    (grind (arith, nat_tests), ap (λ j. get_or parameter_words j []) here ∙ said.2)

one_said : (bytes first second : List ℕ) (b : Bool) → one_named bytes first second ≡ Some b → (if b then second else first) ≡ bytes
one_said bytes first second b e = by (bytes_eq bytes first) refl (bytes_eq bytes second) refl e
  where
    by : (t : Bool) → bytes_eq bytes first ≡ t → (u : Bool) → bytes_eq bytes second ≡ u → (if t then Some false else (if u then Some true else None)) ≡ Some b → (if b then second else first) ≡ bytes
    by true is u other f = ap (λ c. if c then second else first) (sym (some_is false b f)) ∙ sym (same_bytes bytes first is)
    by false is true other f = ap (λ c. if c then second else first) (sym (some_is true b f)) ∙ sym (same_bytes bytes second other)
    by false is false other f = absurd (none_some b f)

direction_said : (bytes : List ℕ) (b : Bool) → one_named bytes (direction_word false) (direction_word true) ≡ Some b → direction_word b ≡ bytes
direction_said bytes false e = one_said bytes (direction_word false) (direction_word true) false e
direction_said bytes true e = one_said bytes (direction_word false) (direction_word true) true e

transfer_said : (bytes : List ℕ) (b : Bool) → one_named bytes (transfer_word false) (transfer_word true) ≡ Some b → transfer_word b ≡ bytes
transfer_said bytes false e = one_said bytes (transfer_word false) (transfer_word true) false e
transfer_said bytes true e = one_said bytes (transfer_word false) (transfer_word true) true e

scalar_said : (byte : ℕ) (b : Bool) → scalar_named byte ≡ Some b → letter b ≡ byte
scalar_said byte b e = by (byte == 118) refl (byte == 115) refl e
  where
    by : (t : Bool) → (byte == 118) ≡ t → (u : Bool) → (byte == 115) ≡ u → (if t then Some false else (if u then Some true else None)) ≡ Some b → letter b ≡ byte
    by true is u other f = let same : 118 ≡ byte = grind (arith, nat_tests) in ap letter (sym (some_is false b f)) ∙ same
    by false is true other f = let same : 115 ≡ byte = grind (arith, nat_tests) in ap letter (sym (some_is true b f)) ∙ same
    by false is false other f = absurd (none_some b f)

-- what a look-up finds becomes the operand
record Found {X : Type 0} (f : X → Operand) (found : Option X) (operand : Operand) : Type 0 where
  item : X
  is : found ≡ Some item
  same : f item ≡ operand

found_in : {X : Type 0} (f : X → Operand) (found : Option X) (operand : Operand) → option_map f found ≡ Some operand → Found f found operand
found_in f None operand e = absurd (none_some operand e)
found_in f (Some item) operand e = record { item = item; is = refl; same = some_is (f item) operand e }

-- the operand may stand in a place of the kind, and has this word
pub record IsSaid (version : Version) (kind : Kind) (word : Word) (operand : Operand) : Type 0 where
  pub suits_it : suits version kind operand ≡ true
  pub word_is : operand_word operand ≡ word

said_by : {X : Type 0} (version : Version) (kind : Kind) (bytes : List ℕ) (operand : Operand) (f : X → Operand) (found : Option X) → option_map f found ≡ Some operand → ((item : X) → found ≡ Some item → IsSaid version kind (words.Name bytes) (f item)) → IsSaid version kind (words.Name bytes) operand
said_by version kind bytes operand f found e each =
    let h = found_in f found operand e in
    subst (λ o. IsSaid version kind (words.Name bytes) o) h.same (each h.item h.is)

said : (version : Version) (kind : Kind) (word : Word) (one operand : Operand) → Some one ≡ Some operand → IsSaid version kind word one → IsSaid version kind word operand
said version kind word one operand e h = subst (λ o. IsSaid version kind word o) (some_is one operand e) h

operation_said : (version : Version) (bytes : List ℕ) (op : VecOp) → operation_named version bytes ≡ Some op → (has_operation version op ≡ true) × (operation_word op ≡ bytes)
operation_said version bytes op e = by (keyword_among operation_word operations bytes) refl e
  where
    by : (found : Option VecOp) → keyword_among operation_word operations bytes ≡ found → option_and_then (in_version version) found ≡ Some op → (has_operation version op ≡ true) × (operation_word op ≡ bytes)
    by None is f = absurd (none_some op f)
    by (Some x) is f = inner (has_operation version x) refl f
      where
        inner : (t : Bool) → has_operation version x ≡ t → (if t then Some x else None) ≡ Some op → (has_operation version op ≡ true) × (operation_word op ≡ bytes)
        inner true has g =
            let same = some_is x op g in
            (ap (has_operation version) (sym same) ∙ has, ap operation_word (sym same) ∙ keyword_said operation_word operations bytes x is)
        inner false has g = absurd (none_some op g)

one_letter_said : (version : Version) (bytes : List ℕ) (operand : Operand) → one_letter bytes ≡ Some operand → IsSaid version kinds.ModeA (words.Name bytes) operand
one_letter_said version [] operand e = absurd (none_some operand e)
one_letter_said version (a ∷ []) operand e =
    said_by version kinds.ModeA (a ∷ []) operand operands.ModeA (scalar_named a) e
    (λ b is. record { suits_it = refl; word_is = ap (λ c. words.Name (c ∷ [])) (scalar_said a b is) })
one_letter_said version (a ∷ b ∷ rest) operand e = absurd (none_some operand e)

-- both letters of a mode
record AreLetters (bytes : List ℕ) (operand : Operand) : Type 0 where
  a : Bool
  b : Bool
  same : operands.ModeAB a b ≡ operand
  word_is : words.Name (letter a ∷ letter b ∷ []) ≡ words.Name bytes

two_letters_said : (bytes : List ℕ) (operand : Operand) → two_letters bytes ≡ Some operand → AreLetters bytes operand
two_letters_said [] operand e = absurd (none_some operand e)
two_letters_said (a ∷ []) operand e = absurd (none_some operand e)
two_letters_said (a ∷ b ∷ []) operand e = by (scalar_named a) refl (scalar_named b) refl e
  where
    by : (one : Option Bool) → scalar_named a ≡ one → (two : Option Bool) → scalar_named b ≡ two → option_and_then (λ (s : Bool). option_map (operands.ModeAB s) two) one ≡ Some operand → AreLetters (a ∷ b ∷ []) operand
    by None is two other f = absurd (none_some operand f)
    by (Some s) is None other f = absurd (none_some operand f)
    by (Some s) is (Some t) other f = record {
      a = s;
      b = t;
      same = some_is (operands.ModeAB s t) operand f;
      word_is = ap (λ c. words.Name (c ∷ letter t ∷ [])) (scalar_said a s is) ∙ ap (λ c. words.Name (a ∷ c ∷ [])) (scalar_said b t other);
    }
two_letters_said (a ∷ b ∷ c ∷ rest) operand e = absurd (none_some operand e)

letters_said : (version : Version) (bytes : List ℕ) (operand : Operand) → two_letters bytes ≡ Some operand → IsSaid version kinds.ModeAB (words.Name bytes) operand × IsSaid version kinds.ModeFlags (words.Name bytes) operand
letters_said version bytes operand e =
    let h = two_letters_said bytes operand e in (
      subst (λ o. IsSaid version kinds.ModeAB (words.Name bytes) o) h.same (record { suits_it = refl; word_is = h.word_is }),
      subst (λ o. IsSaid version kinds.ModeFlags (words.Name bytes) o) h.same (record { suits_it = refl; word_is = h.word_is }),
    )

sum_said : (bytes : List ℕ) (operand : Operand) → (if bytes_eq bytes sum_word then Some operands.Sum else None) ≡ Some operand → (operands.Sum ≡ operand) × (sum_word ≡ bytes)
sum_said bytes operand e = by (bytes_eq bytes sum_word) refl e
  where
    by : (t : Bool) → bytes_eq bytes sum_word ≡ t → (if t then Some operands.Sum else None) ≡ Some operand → (operands.Sum ≡ operand) × (sum_word ≡ bytes)
    by true is f = (some_is operands.Sum operand f, sym (same_bytes bytes sum_word is))
    by false is f = absurd (none_some operand f)

array_said : (version : Version) (bytes : List ℕ) (operand : Operand) (t : Bool) → is_reserved bytes ≡ t → (if t then None else Some (operands.Name bytes)) ≡ Some operand → IsSaid version kinds.Array (words.Name bytes) operand
array_said version bytes operand true is e = absurd (none_some operand e)
array_said version bytes operand false is e = said version kinds.Array (words.Name bytes) (operands.Name bytes) operand e (record { suits_it = ap not is; word_is = refl })

name_said : (version : Version) (kind : Kind) (bytes : List ℕ) (operand : Operand) → name_operand version kind bytes ≡ Some operand → IsSaid version kind (words.Name bytes) operand
name_said version kinds.Array bytes operand e = array_said version bytes operand (is_reserved bytes) refl e
name_said version kinds.Target bytes operand e = said version kinds.Target (words.Name bytes) (operands.Name bytes) operand e (record { suits_it = refl; word_is = refl })
name_said version kinds.Direction bytes operand e = said_by version kinds.Direction bytes operand operands.Output (one_named bytes (direction_word false) (direction_word true)) e (λ b is. record { suits_it = refl; word_is = ap words.Name (direction_said bytes b is) })
name_said version kinds.Transfer bytes operand e = said_by version kinds.Transfer bytes operand operands.Write (one_named bytes (transfer_word false) (transfer_word true)) e (λ b is. record { suits_it = refl; word_is = ap words.Name (transfer_said bytes b is) })
name_said version kinds.Register bytes operand e = said_by version kinds.Register bytes operand operands.Register (register_named bytes) e (λ n is. let h = register_said bytes n is in record { suits_it = h.0; word_is = ap words.Name h.1 })
name_said version kinds.Parameter bytes operand e = said_by version kinds.Parameter bytes operand operands.Parameter (parameter_named bytes) e (λ n is. let h = parameter_said bytes n is in record { suits_it = h.0; word_is = ap words.Name h.1 })
name_said version kinds.Operation bytes operand e = said_by version kinds.Operation bytes operand operands.Operation (operation_named version bytes) e (λ op is. let h = operation_said version bytes op is in record { suits_it = h.0; word_is = ap words.Name h.1 })
name_said version kinds.Elem bytes operand e = said_by version kinds.Elem bytes operand operands.Elem (keyword_among type_word element_types bytes) e (λ elem is. record { suits_it = refl; word_is = ap words.Name (keyword_said type_word element_types bytes elem is) })
name_said version kinds.ModeA bytes operand e = one_letter_said version bytes operand e
name_said version kinds.ModeAB bytes operand e = (letters_said version bytes operand e).0
name_said version kinds.ModeFlags bytes operand e = (letters_said version bytes operand e).1
name_said version kinds.Sum bytes operand e = let h = sum_said bytes operand e in subst (λ o. IsSaid version kinds.Sum (words.Name bytes) o) h.0 (record { suits_it = refl; word_is = ap words.Name h.1 })
name_said version kinds.NoSum bytes operand e = let h = sum_said bytes operand e in subst (λ o. IsSaid version kinds.NoSum (words.Name bytes) o) h.0 (record { suits_it = refl; word_is = ap words.Name h.1 })
name_said version kind bytes operand e = absurd (none_some operand e)

number_word_said : (version : Version) (kind : Kind) (n : ℕ) (operand : Operand) → number_operand kind n ≡ Some operand → IsSaid version kind (words.Number n) operand
number_word_said version kinds.Version n operand e = said version kinds.Version (words.Number n) (operands.Number n) operand e (record { suits_it = refl; word_is = refl })
number_word_said version kinds.Number n operand e = said version kinds.Number (words.Number n) (operands.Number n) operand e (record { suits_it = refl; word_is = refl })
number_word_said version kinds.Target n operand e = said version kinds.Target (words.Number n) (operands.Number n) operand e (record { suits_it = refl; word_is = refl })
number_word_said version kinds.Rows n operand e = said version kinds.Rows (words.Number n) (operands.Rows n) operand e (record { suits_it = refl; word_is = refl })
number_word_said version kinds.Columns n operand e = said version kinds.Columns (words.Number n) (operands.Columns n) operand e (record { suits_it = refl; word_is = refl })
number_word_said version kind n operand e = absurd (none_some operand e)

pub operand_said : (version : Version) (kind : Kind) (word : Word) (operand : Operand) → operand_as version kind word ≡ Some operand → IsSaid version kind word operand
operand_said version kind (words.Name bytes) operand e = name_said version kind bytes operand e
operand_said version kind (words.Number n) operand e = number_word_said version kind n operand e
operand_said version kinds.Open words.Open operand e = said version kinds.Open words.Open operands.Open operand e (record { suits_it = refl; word_is = refl })
operand_said version kinds.Comma words.Comma operand e = said version kinds.Comma words.Comma operands.Comma operand e (record { suits_it = refl; word_is = refl })
operand_said version kinds.Close words.Close operand e = said version kinds.Close words.Close operands.Close operand e (record { suits_it = refl; word_is = refl })
operand_said version kind word operand e = absurd (none_some operand e)
