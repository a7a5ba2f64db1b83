-- Operands one after another: what may follow, and how a line can end.
use Rattle.std.proofs.Common.{◌≡◌, Bool, true, false, List, [], ◌∷◌, ◌++◌, refl, sym, ap, ◌∙◌}
use Rattle.std.specs.List.{list_all}
use Rattle.std.specs.Prelude.{not}
use Rattle.std.proofs.lemmas.Bool.{and_from, and_parts}
use Rattle.ven_base.specs.declared.elem.Elem.TheVariants.{U8}
use Rattle.venice_isa.specs.declared.instr.Version.{Version}
use Rattle.venice_isa.specs.declared.op.VecOp.{VecOp}
use Rattle.venice_isa.specs.declared.op.VecOp.TheVariants as ops
use Rattle.venice_asm.specs.declared.head.Head.{Head}
use Rattle.venice_asm.specs.declared.head.Head.TheVariants as heads
use Rattle.venice_asm.specs.declared.head.Kind.{Kind}
use Rattle.venice_asm.specs.declared.head.Kind.TheVariants as kinds
use Rattle.venice_asm.specs.declared.operand.Operand.{Operand}
use Rattle.venice_asm.specs.declared.operand.Operand.TheVariants as operands
use Rattle.venice_asm.specs.Lines.{is_reserved, head_kinds, operation_kinds, kinds_behind, is_optional, suits, in_range, all_suit, are_in_range}
use Rattle.venice_asm.specs.Reading.{kinds_left, suit_so_far}

-- what may follow one operand more
abbrev pub left_behind : List Kind → Operand → List Kind
left_behind [] operand = []
left_behind (kind ∷ rest) operand = kinds_behind operand rest

pub left_push : (rest : List Kind) (os : List Operand) (o : Operand) → kinds_left rest (os ++ o ∷ []) ≡ left_behind (kinds_left rest os) o
left_push [] [] o = refl
left_push (kind ∷ rest) [] o = refl
left_push [] (x ∷ os) o = refl
left_push (kind ∷ rest) (x ∷ os) o = left_push (kinds_behind x rest) os o

pub suit_push : (version : Version) (rest : List Kind) (os : List Operand) (kind : Kind) (more : List Kind) (o : Operand) → suit_so_far version rest os ≡ true → kinds_left rest os ≡ kind ∷ more → suits version kind o ≡ true → suit_so_far version rest (os ++ o ∷ []) ≡ true
suit_push version [] [] kind more o h left is = absurd (cc)
suit_push version (k ∷ rest) [] kind more o h left is = let same : k ≡ kind = cc in and_from (suits version k o) true (ap (λ x. suits version x o) same ∙ is) refl
suit_push version [] (x ∷ os) kind more o h left is = let e : false ≡ true = h in absurd (cc)
suit_push version (k ∷ rest) (x ∷ os) kind more o h left is =
    let both = and_parts (suits version k x) (suit_so_far version (kinds_behind x rest) os) h in
    and_from (suits version k x) (suit_so_far version (kinds_behind x rest) (os ++ o ∷ [])) both.0 (suit_push version (kinds_behind x rest) os kind more o both.1 left is)

-- a line may end where nothing that is left has to come
pub suit_end : (version : Version) (rest : List Kind) (os : List Operand) → suit_so_far version rest os ≡ true → list_all is_optional (kinds_left rest os) ≡ true → all_suit version rest os ≡ true
suit_end version rest [] h ends = ends
suit_end version [] (x ∷ os) h ends = let e : false ≡ true = h in absurd (cc)
suit_end version (k ∷ rest) (x ∷ os) h ends =
    let both = and_parts (suits version k x) (suit_so_far version (kinds_behind x rest) os) h in
    and_from (suits version k x) (all_suit version (kinds_behind x rest) os) both.0 (suit_end version (kinds_behind x rest) os both.1 ends)

-- ---- ranges

pub range_push : (rest : List Kind) (os : List Operand) (kind : Kind) (more : List Kind) (o : Operand) → are_in_range rest os ≡ true → kinds_left rest os ≡ kind ∷ more → in_range kind o ≡ true → are_in_range rest (os ++ o ∷ []) ≡ true
range_push [] [] kind more o h left is = refl
range_push (k ∷ rest) [] kind more o h left is = let same : k ≡ kind = cc in and_from (in_range k o) true (ap (λ x. in_range x o) same ∙ is) refl
range_push [] (x ∷ os) kind more o h left is = refl
range_push (k ∷ rest) (x ∷ os) kind more o h left is =
    let both = and_parts (in_range k x) (are_in_range (kinds_behind x rest) os) h in
    and_from (in_range k x) (are_in_range (kinds_behind x rest) (os ++ o ∷ [])) both.0 (range_push (kinds_behind x rest) os kind more o both.1 left is)

pub range_append : (rest : List Kind) (os more : List Operand) → are_in_range rest os ≡ true → are_in_range (kinds_left rest os) more ≡ true → are_in_range rest (os ++ more) ≡ true
range_append rest [] more h g = g
range_append [] (x ∷ os) more h g = refl
range_append (k ∷ rest) (x ∷ os) more h g =
    let both = and_parts (in_range k x) (are_in_range (kinds_behind x rest) os) h in
    and_from (in_range k x) (are_in_range (kinds_behind x rest) (os ++ more)) both.0 (range_append (kinds_behind x rest) os more both.1 g)

pub range_front : (rest : List Kind) (os more : List Operand) → are_in_range rest (os ++ more) ≡ true → are_in_range rest os ≡ true
range_front rest [] more h = refl
range_front [] (x ∷ os) more h = refl
range_front (k ∷ rest) (x ∷ os) more h =
    let both = and_parts (in_range k x) (are_in_range (kinds_behind x rest) (os ++ more)) h in
    and_from (in_range k x) (are_in_range (kinds_behind x rest) os) both.0 (range_front (kinds_behind x rest) os more both.1)

pub range_last : (rest : List Kind) (os : List Operand) (kind : Kind) (more : List Kind) (o : Operand) → are_in_range rest (os ++ o ∷ []) ≡ true → kinds_left rest os ≡ kind ∷ more → in_range kind o ≡ true
range_last [] [] kind more o h left = absurd (cc)
range_last (k ∷ rest) [] kind more o h left = let same : k ≡ kind = cc in ap (λ x. in_range x o) (sym same) ∙ (and_parts (in_range k o) true h).0
range_last [] (x ∷ os) kind more o h left = absurd (cc)
range_last (k ∷ rest) (x ∷ os) kind more o h left = range_last (kinds_behind x rest) os kind more o (and_parts (in_range k x) (are_in_range (kinds_behind x rest) (os ++ o ∷ [])) h).1 left

-- ---- a line can be ended

-- nothing that has to come stands behind what can't
abbrev pub can_end : List Kind → Bool
can_end [] = true
can_end (kinds.NoSum ∷ rest) = list_all is_optional rest
can_end (kind ∷ rest) = can_end rest

optional_ends : (rest : List Kind) → list_all is_optional rest ≡ true → can_end rest ≡ true
optional_ends [] h = refl
optional_ends (kinds.NoSum ∷ rest) h = h
optional_ends (kinds.Sum ∷ rest) h = optional_ends rest h
optional_ends (kind ∷ rest) h = let e : false ≡ true = h in absurd (cc)

end_tail : (kind : Kind) (rest : List Kind) → can_end (kind ∷ rest) ≡ true → can_end rest ≡ true
end_tail kinds.NoSum rest h = optional_ends rest h
end_tail kind rest h = h

operation_ends : (op : VecOp) → can_end (operation_kinds op) ≡ true
operation_ends ops.Mov = refl
operation_ends ops.Cast = refl
operation_ends ops.Add = refl
operation_ends ops.Sub = refl
operation_ends ops.Mul = refl
operation_ends ops.And = refl
operation_ends ops.Or = refl
operation_ends ops.Xor = refl
operation_ends ops.Shl = refl
operation_ends ops.Shr = refl
operation_ends ops.Min = refl
operation_ends ops.Max = refl
operation_ends ops.Abs = refl
operation_ends ops.Eq = refl
operation_ends ops.Ne = refl
operation_ends ops.Lt = refl
operation_ends ops.Le = refl
operation_ends ops.Cmov = refl
operation_ends ops.Sadd = refl
operation_ends ops.Ssub = refl

behind_ends : (o : Operand) (rest : List Kind) → can_end rest ≡ true → can_end (kinds_behind o rest) ≡ true
behind_ends (operands.Operation op) rest h = operation_ends op
behind_ends o rest h = h

left_ends : (rest : List Kind) (os : List Operand) → can_end rest ≡ true → can_end (kinds_left rest os) ≡ true
left_ends rest [] h = h
left_ends [] (o ∷ os) h = refl
left_ends (kind ∷ rest) (o ∷ os) h = left_ends (kinds_behind o rest) os (behind_ends o rest (end_tail kind rest h))

pub head_ends : (head : Head) (os : List Operand) → can_end (kinds_left (head_kinds head) os) ≡ true
head_ends heads.Version os = left_ends (head_kinds heads.Version) os refl
head_ends heads.Spad os = left_ends (head_kinds heads.Spad) os refl
head_ends heads.Memory os = left_ends (head_kinds heads.Memory) os refl
head_ends heads.Array os = left_ends (head_kinds heads.Array) os refl
head_ends heads.Halt os = left_ends (head_kinds heads.Halt) os refl
head_ends heads.Li os = left_ends (head_kinds heads.Li) os refl
head_ends heads.Addi os = left_ends (head_kinds heads.Addi) os refl
head_ends heads.Add os = left_ends (head_kinds heads.Add) os refl
head_ends heads.Sub os = left_ends (head_kinds heads.Sub) os refl
head_ends heads.Mul os = left_ends (head_kinds heads.Mul) os refl
head_ends heads.Div os = left_ends (head_kinds heads.Div) os refl
head_ends heads.Bnz os = left_ends (head_kinds heads.Bnz) os refl
head_ends heads.Blt os = left_ends (head_kinds heads.Blt) os refl
head_ends heads.Jmp os = left_ends (head_kinds heads.Jmp) os refl
head_ends heads.Set os = left_ends (head_kinds heads.Set) os refl
head_ends heads.Vec os = left_ends (head_kinds heads.Vec) os refl
head_ends heads.Dma os = left_ends (head_kinds heads.Dma) os refl
head_ends heads.Rwait os = left_ends (head_kinds heads.Rwait) os refl
head_ends heads.Wwait os = left_ends (head_kinds heads.Wwait) os refl
head_ends heads.Vwait os = left_ends (head_kinds heads.Vwait) os refl
head_ends heads.Tag os = left_ends (head_kinds heads.Tag) os refl
head_ends heads.Twait os = left_ends (head_kinds heads.Twait) os refl

-- operands in their ranges that end a line
pub record Ending (version : Version) (rest : List Kind) : Type 0 where
  pub operands : List Operand
  pub suit : all_suit version rest operands ≡ true
  pub ranges : are_in_range rest operands ≡ true

one_more : (version : Version) (kind : Kind) (rest : List Kind) (o : Operand) → suits version kind o ≡ true → in_range kind o ≡ true → Ending version (kinds_behind o rest) → Ending version (kind ∷ rest)
one_more version kind rest o suit ranged more = record {
  operands = o ∷ more.operands;
  suit = and_from (suits version kind o) (all_suit version (kinds_behind o rest) more.operands) suit more.suit;
  ranges = and_from (in_range kind o) (are_in_range (kinds_behind o rest) more.operands) ranged more.ranges;
}

a_is_free : is_reserved (97 ∷ []) ≡ false
unfolding is_reserved
a_is_free = refl

pub ending : (version : Version) (rest : List Kind) → can_end rest ≡ true → Ending version rest
ending version [] h = record { operands = []; suit = refl; ranges = refl }
ending version (kinds.NoSum ∷ rest) h = record { operands = []; suit = h; ranges = refl }
ending version (kinds.Operation ∷ rest) h = record { operands = operands.Operation ops.Mov ∷ operands.Elem U8 ∷ operands.ModeA false ∷ []; suit = refl; ranges = refl }
ending version (kinds.Version ∷ rest) h = one_more version kinds.Version rest (operands.Number 2) refl refl (ending version rest h)
ending version (kinds.Number ∷ rest) h = one_more version kinds.Number rest (operands.Number 0) refl refl (ending version rest h)
ending version (kinds.Array ∷ rest) h = one_more version kinds.Array rest (operands.Name (97 ∷ [])) (ap not a_is_free) refl (ending version rest h)
ending version (kinds.Direction ∷ rest) h = one_more version kinds.Direction rest (operands.Output false) refl refl (ending version rest h)
ending version (kinds.Open ∷ rest) h = one_more version kinds.Open rest operands.Open refl refl (ending version rest h)
ending version (kinds.Rows ∷ rest) h = one_more version kinds.Rows rest (operands.Rows 0) refl refl (ending version rest h)
ending version (kinds.Comma ∷ rest) h = one_more version kinds.Comma rest operands.Comma refl refl (ending version rest h)
ending version (kinds.Columns ∷ rest) h = one_more version kinds.Columns rest (operands.Columns 0) refl refl (ending version rest h)
ending version (kinds.Close ∷ rest) h = one_more version kinds.Close rest operands.Close refl refl (ending version rest h)
ending version (kinds.Register ∷ rest) h = one_more version kinds.Register rest (operands.Register 0) refl refl (ending version rest h)
ending version (kinds.Parameter ∷ rest) h = one_more version kinds.Parameter rest (operands.Parameter 0) refl refl (ending version rest h)
ending version (kinds.Target ∷ rest) h = one_more version kinds.Target rest (operands.Number 0) refl refl (ending version rest h)
ending version (kinds.Transfer ∷ rest) h = one_more version kinds.Transfer rest (operands.Write false) refl refl (ending version rest h)
ending version (kinds.Elem ∷ rest) h = one_more version kinds.Elem rest (operands.Elem U8) refl refl (ending version rest h)
ending version (kinds.ModeA ∷ rest) h = one_more version kinds.ModeA rest (operands.ModeA false) refl refl (ending version rest h)
ending version (kinds.ModeAB ∷ rest) h = one_more version kinds.ModeAB rest (operands.ModeAB false false) refl refl (ending version rest h)
ending version (kinds.ModeFlags ∷ rest) h = one_more version kinds.ModeFlags rest (operands.ModeAB false false) refl refl (ending version rest h)
ending version (kinds.Sum ∷ rest) h = one_more version kinds.Sum rest operands.Sum refl refl (ending version rest h)

-- operands so far, and the rest of a line
pub suit_append : (version : Version) (rest : List Kind) (os more : List Operand) → suit_so_far version rest os ≡ true → all_suit version (kinds_left rest os) more ≡ true → all_suit version rest (os ++ more) ≡ true
suit_append version rest [] more h g = g
suit_append version [] (x ∷ os) more h g = let e : false ≡ true = h in absurd (cc)
suit_append version (k ∷ rest) (x ∷ os) more h g =
    let both = and_parts (suits version k x) (suit_so_far version (kinds_behind x rest) os) h in
    and_from (suits version k x) (all_suit version (kinds_behind x rest) (os ++ more)) both.0 (suit_append version (kinds_behind x rest) os more both.1 g)
