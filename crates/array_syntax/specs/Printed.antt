-- The text of a program: a statement a line, and each binary expression in brackets.
use Rattle.std.specs.Prelude.{◌≡◌, ℕ, ℤ, List, [], ◌∷◌, ◌++◌, codes}
use Rattle.std.specs.Fmt.{signed_decimal}
use Rattle.ven_base.specs.declared.elem.Elem.{Elem}
use Rattle.ven_base.specs.ElemWord.{elem_word}
use Rattle.ven_base.specs.declared.ops.Fold.{Fold as Reduction}
use Rattle.ven_base.specs.declared.ops.Fold.TheVariants as folds
use Rattle.ven_base.specs.declared.ops.Op1.{Op1}
use Rattle.ven_base.specs.declared.ops.Op1.TheVariants as unary
use Rattle.ven_base.specs.declared.ops.Op2.{Op2}
use Rattle.ven_base.specs.declared.ops.Op2.TheVariants as binary
use Rattle.array_syntax.specs.declared.program.Expr.{Expr}
use Rattle.array_syntax.specs.declared.program.Program.{Program}
use Rattle.array_syntax.specs.declared.program.Stmt.{Stmt}
use Rattle.array_syntax.specs.declared.program.Stmt.TheVariants as stmts
use Rattle.array_syntax.specs.Faults.{Denotes}
use Rattle.array_syntax.specs.Tree.{Tree, Name, Literal, One, Two, Cast, Select, Shift, Rotate, Section, Stretch, Transpose, RowFold, Fold, tree_of}

-- the function that reduces each row
abbrev pub row_fold_word : Reduction → List ℕ
row_fold_word folds.Sum = codes "rowsum"
row_fold_word folds.Min = codes "rowmin"
row_fold_word folds.Max = codes "rowmax"

-- the function that reduces the whole array
abbrev pub fold_word : Reduction → List ℕ
fold_word folds.Sum = codes "sum"
fold_word folds.Min = codes "minval"
fold_word folds.Max = codes "maxval"

-- what stands before the first of two operands: a function with its bracket, or the bracket round a sign
abbrev pub opening : Op2 → List ℕ
opening binary.Min = codes "min("
opening binary.Max = codes "max("
opening binary.SatAdd = codes "sadd("
opening binary.SatSub = codes "ssub("
opening _ = codes "("

-- what stands between them
abbrev pub between : Op2 → List ℕ
between binary.Mul = codes " * "
between binary.Add = codes " + "
between binary.Sub = codes " - "
between binary.Shl = codes " << "
between binary.Shr = codes " >> "
between binary.And = codes " & "
between binary.Xor = codes " ^ "
between binary.Or = codes " | "
between binary.Eq = codes " == "
between binary.Ne = codes " != "
between binary.Lt = codes " < "
between binary.Le = codes " <= "
between binary.Gt = codes " > "
between binary.Ge = codes " >= "
between _ = codes ", "

abbrev pub in_brackets : List ℕ → List ℕ
in_brackets text = codes "(" ++ (text ++ codes ")")

abbrev pub IsLiteral : Tree → Type 0
IsLiteral (Literal at n) = Unit {0}
IsLiteral _ = ⊥

-- the operand of a `-`: a number stands in brackets, since the `-` would be its own
abbrev pub negated : Tree → List ℕ → List ℕ
negated (Literal at n) text = in_brackets text
negated _ text = text

-- a prefix sign or `abs`, with its operand
abbrev pub one_text : Op1 → Tree → List ℕ → List ℕ
one_text unary.Neg a text = codes "-" ++ negated a text
one_text unary.Not a text = codes "~" ++ text
one_text unary.Abs a text = codes "abs" ++ in_brackets text

-- the numbers behind a call's operand
abbrev pub numbers_text : List ℤ → List ℕ
numbers_text [] = []
numbers_text (n ∷ numbers) = codes ", " ++ (signed_decimal n ++ numbers_text numbers)

-- a function with an operand and numbers
abbrev pub call_text : List ℕ → List ℕ → List ℤ → List ℕ
call_text function of numbers = function ++ (codes "(" ++ (of ++ (numbers_text numbers ++ codes ")")))

-- an operation on two operands
abbrev pub two_text : Op2 → List ℕ → List ℕ → List ℕ
two_text op a b = opening op ++ (a ++ (between op ++ (b ++ codes ")")))

abbrev pub select_text : List ℕ → List ℕ → List ℕ → List ℕ
select_text c a b = codes "select(" ++ (c ++ (codes ", " ++ (a ++ (codes ", " ++ (b ++ codes ")")))))

abbrev pub expr_text : Tree → List ℕ
expr_text (Name at name) = name
expr_text (Literal at n) = signed_decimal n
expr_text (One at op a) = one_text op a (expr_text a)
expr_text (Two at op a b) = two_text op (expr_text a) (expr_text b)
expr_text (Cast at elem a) = call_text (elem_word elem) (expr_text a) []
expr_text (Select at c a b) = select_text (expr_text c) (expr_text a) (expr_text b)
expr_text (Shift at a dr dc fill fill_at) = call_text (codes "shift") (expr_text a) (dr ∷ dc ∷ fill ∷ [])
expr_text (Rotate at a dr dc) = call_text (codes "rotate") (expr_text a) (dr ∷ dc ∷ [])
expr_text (Section at a r0 nr sr c0 nc sc) =
    call_text (codes "section") (expr_text a) (r0 ∷ nr ∷ sr ∷ c0 ∷ nc ∷ sc ∷ [])
expr_text (Stretch at a kr kc) = call_text (codes "stretch") (expr_text a) (kr ∷ kc ∷ [])
expr_text (Transpose at a) = call_text (codes "transpose") (expr_text a) []
expr_text (RowFold at op a) = call_text (row_fold_word op) (expr_text a) []
expr_text (Fold at op a) = call_text (fold_word op) (expr_text a) []

-- an expression's text
abbrev pub text_of : Expr → List ℕ
text_of e = expr_text (tree_of e)

-- a statement's name and expression
abbrev pub bound_text : List ℕ → Tree → List ℕ
bound_text name value = name ++ (codes " = " ++ (expr_text value ++ codes ";\n"))

abbrev pub shape_text : ℤ → ℤ → List ℕ
shape_text rows cols = codes "[" ++ (signed_decimal rows ++ (codes "," ++ (signed_decimal cols ++ codes "];\n")))

-- an input's name, type and shape
abbrev pub input_text : List ℕ → Elem → ℤ → ℤ → List ℕ
input_text name elem rows cols = name ++ (codes " " ++ (elem_word elem ++ shape_text rows cols))

-- a statement's line
abbrev pub line_of : Stmt → List ℕ
line_of (stmts.Input name at elem rows cols shape_at) = codes "input " ++ input_text name elem rows cols
line_of (stmts.Let name at value) = codes "let " ++ bound_text name (tree_of value)
line_of (stmts.Output name at value) = codes "output " ++ bound_text name (tree_of value)

abbrev pub lines_of : List Stmt → List ℕ
lines_of [] = []
lines_of (stmt ∷ rest) = line_of stmt ++ lines_of rest

-- a tree with all places 0
abbrev pub bare : Tree → Tree
bare (Name at name) = Name 0 name
bare (Literal at n) = Literal 0 n
bare (One at op a) = One 0 op (bare a)
bare (Two at op a b) = Two 0 op (bare a) (bare b)
bare (Cast at elem a) = Cast 0 elem (bare a)
bare (Select at c a b) = Select 0 (bare c) (bare a) (bare b)
bare (Shift at a dr dc fill fill_at) = Shift 0 (bare a) dr dc fill 0
bare (Rotate at a dr dc) = Rotate 0 (bare a) dr dc
bare (Section at a r0 nr sr c0 nc sc) = Section 0 (bare a) r0 nr sr c0 nc sc
bare (Stretch at a kr kc) = Stretch 0 (bare a) kr kc
bare (Transpose at a) = Transpose 0 (bare a)
bare (RowFold at op a) = RowFold 0 op (bare a)
bare (Fold at op a) = Fold 0 op (bare a)

-- two statements differ in places alone
pub data SameApart : Stmt → Stmt → Type 0 where
  Input : (name : List ℕ) (at place shape_at shape_place : ℕ) (elem : Elem) (rows cols : ℤ)
      → SameApart (stmts.Input name at elem rows cols shape_at) (stmts.Input name place elem rows cols shape_place)
  Let : (name : List ℕ) (at place : ℕ) (value other : Expr) → bare (tree_of value) ≡ bare (tree_of other)
      → SameApart (stmts.Let name at value) (stmts.Let name place other)
  Output : (name : List ℕ) (at place : ℕ) (value other : Expr) → bare (tree_of value) ≡ bare (tree_of other)
      → SameApart (stmts.Output name at value) (stmts.Output name place other)

-- two lists of statements do
pub data AreSameApart : List Stmt → List Stmt → Type 0 where
  Nothing : AreSameApart [] []
  More : (one other : Stmt) (ones others : List Stmt) → SameApart one other → AreSameApart ones others
      → AreSameApart (one ∷ ones) (other ∷ others)

-- the text denotes the program, apart from its places
pub record DenotesApart (text : List ℕ) (program : Program) : Type 0 where
  pub read : Program
  pub denotes : Denotes text read
  pub same : AreSameApart read.stmts program.stmts
