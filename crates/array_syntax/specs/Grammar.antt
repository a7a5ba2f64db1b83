-- The grammar: which expression, and which statements, a list of tokens denotes.
use Rattle.std.specs.Prelude.{◌≡◌, ℕ, ◌+◌, ◌<◌, ◌≤◌, ℤ, pos, neg_ℤ, Bool, true, false, List, [], ◌∷◌, ◌++◌, Option, Some, None}
use Rattle.ven_base.specs.declared.elem.Elem.{Elem}
use Rattle.ven_base.specs.declared.ops.Op1.TheVariants as unary
use Rattle.array_syntax.specs.declared.call.Earlier.{Earlier}
use Rattle.array_syntax.specs.declared.call.Earlier.TheVariants as earlier
use Rattle.array_syntax.specs.declared.call.Number.{Number}
use Rattle.array_syntax.specs.declared.program.Expr.{Expr}
use Rattle.array_syntax.specs.declared.program.ExprKind.{ExprKind}
use Rattle.array_syntax.specs.declared.program.ExprKind.TheVariants as kinds
use Rattle.array_syntax.specs.declared.program.Stmt.{Stmt}
use Rattle.array_syntax.specs.declared.program.Stmt.TheVariants as stmts
use Rattle.array_syntax.specs.declared.word.Binding.{Binding}
use Rattle.array_syntax.specs.declared.word.Binding.TheVariants as bindings
use Rattle.array_syntax.specs.declared.word.Callee.{Callee}
use Rattle.array_syntax.specs.declared.word.Callee.TheVariants as callees
use Rattle.array_syntax.specs.declared.word.Operator.{Operator}
use Rattle.array_syntax.specs.declared.word.Operator.TheVariants as operators
use Rattle.array_syntax.specs.declared.word.Token.{Token}
use Rattle.array_syntax.specs.declared.word.Word.{Word}
use Rattle.array_syntax.specs.declared.word.Word.TheVariants as words
use Rattle.array_syntax.specs.Table.{loosest, level, left_level, right_level, operation, operands, numbers, takes_sign, call_of, map_of}

abbrev pub token : ℕ → Word → Token
token at word = record { at = at; word = word }

abbrev pub expr : ℕ → ExprKind → Expr
expr at kind = record { at = at; kind = kind }

-- the sign `-`
abbrev pub minus : Word
minus = words.Operator operators.Minus

abbrev pub IsNumber : Word → Type 0
IsNumber (words.Number n) = Unit {0}
IsNumber _ = ⊥

-- how many operands stand before
abbrev pub count : Earlier → ℕ
count earlier.Nothing = 0
count (earlier.One a) = 1
count (earlier.Two a b) = 2

-- these operands and one more; no function takes a fourth
abbrev pub followed : Earlier → Expr → Earlier
followed earlier.Nothing a = earlier.One a
followed (earlier.One a) b = earlier.Two a b
followed (earlier.Two a b) c = earlier.Two a b

-- the tokens are one number among a function's arguments
pub data IsNumberArgument : Bool → List Token → Number → Type 0 where
  Plain : (sign : Bool) (at n : ℕ)
      → IsNumberArgument sign (token at (words.Number n) ∷ []) (record { at = at; value = pos n })
  Signed : (at place n : ℕ)
      → IsNumberArgument true (token at minus ∷ token place (words.Number n) ∷ [])
      (record { at = at; value = neg_ℤ (pos n) })

-- the tokens are these numbers, with a comma behind each
pub data AreNumbers : Bool → List Token → List Number → Type 0 where
  Nothing : (sign : Bool) → AreNumbers sign [] []
  More : (sign : Bool) (comma : ℕ) (before own : List Token) (values : List Number) (value : Number)
      → AreNumbers sign before values → IsNumberArgument sign own value
      → AreNumbers sign (before ++ (own ++ token comma words.Comma ∷ [])) (values ++ value ∷ [])

mutual
  -- the tokens are an expression of the level or a tighter one
  pub data IsExpr : ℕ → List Token → Expr → Type 0 where
    Name : (l at : ℕ) (name : List ℕ) → IsExpr l (token at (words.Name name) ∷ []) (expr at (kinds.Name name))
    Literal : (l at n : ℕ) → IsExpr l (token at (words.Number n) ∷ []) (expr at (kinds.Literal (pos n)))
    Negative : (l at place n : ℕ)
        → IsExpr l (token at minus ∷ token place (words.Number n) ∷ []) (expr at (kinds.Literal (neg_ℤ (pos n))))
    Brackets : (l opening closing : ℕ) (inner : List Token) (e : Expr) → IsExpr loosest inner e
        → IsExpr l (token opening words.Open ∷ (inner ++ token closing words.Close ∷ [])) e
    Flip : (l at : ℕ) (operand : List Token) (e : Expr) → IsExpr 0 operand e
        → IsExpr l (token at words.Tilde ∷ operand) (expr at (kinds.One unary.Not e))
    Negate : (l at : ℕ) (first : Token) (rest : List Token) (e : Expr) → ¬ IsNumber first.word
        → IsExpr 0 (first ∷ rest) e → IsExpr l (token at minus ∷ first ∷ rest) (expr at (kinds.One unary.Neg e))
    Two : (l at : ℕ) (op : Operator) (left right : List Token) (a b : Expr) → level op ≤ l
        → IsExpr (left_level op) left a → IsExpr (right_level op) right b
        → IsExpr l (left ++ token at (words.Operator op) ∷ right) (expr at (kinds.Two (operation op) a b))
    Call : (l at closing : ℕ) (callee : Callee) (before : Earlier) (begun last : List Token) (e : Expr)
        (kind : ExprKind) → IsBegun at callee before begun → IsExpr loosest last e
        → call_of callee before e ≡ Some kind
        → IsExpr l (begun ++ (last ++ token closing words.Close ∷ [])) (expr at kind)
    Map : (l at opening comma closing : ℕ) (callee : Callee) (inner begun last : List Token) (e : Expr)
        (values : List Number) (value : Number) (kind : ExprKind)
        → IsExpr loosest inner e → AreNumbers (takes_sign callee) begun values
        → IsNumberArgument (takes_sign callee) last value → map_of callee e (values ++ value ∷ []) ≡ Some kind
        → IsExpr l (token at (words.Call callee) ∷ token opening words.Open
        ∷ (inner ++ token comma words.Comma ∷ (begun ++ (last ++ token closing words.Close ∷ [])))) (expr at kind)

  -- the tokens begin a call with these operands, up to where its next operand begins
  pub data IsBegun : ℕ → Callee → Earlier → List Token → Type 0 where
    Opened : (at opening : ℕ) (callee : Callee)
        → IsBegun at callee earlier.Nothing (token at (words.Call callee) ∷ token opening words.Open ∷ [])
    Argued : (at comma : ℕ) (callee : Callee) (before : Earlier) (begun own : List Token) (e : Expr)
        → IsBegun at callee before begun → count before + 1 < operands callee → IsExpr loosest own e
        → IsBegun at callee (followed before e) (begun ++ (own ++ token comma words.Comma ∷ []))

-- the statement that gives a name to an expression
abbrev pub bound : Binding → List ℕ → ℕ → Expr → Stmt
bound bindings.Let name at e = stmts.Let name at e
bound bindings.Output name at e = stmts.Output name at e

-- the tokens are these statements
pub data AreStatements : List Token → List Stmt → Type 0 where
  Empty : AreStatements [] []
  Input : (word_at at type_at shape_at rows_at comma cols_at closing end rows cols : ℕ) (name : List ℕ)
      (elem : Elem) (before : List Token) (p : List Stmt)
      → AreStatements before p
      → AreStatements (before ++ token word_at words.Input ∷ token at (words.Name name)
      ∷ token type_at (words.Call (callees.Cast elem)) ∷ token shape_at words.OpenSquare
      ∷ token rows_at (words.Number rows) ∷ token comma words.Comma ∷ token cols_at (words.Number cols)
      ∷ token closing words.CloseSquare ∷ token end words.Semicolon ∷ [])
      (p ++ stmts.Input name at elem (pos rows) (pos cols) shape_at ∷ [])
  Bound : (word_at at sign end : ℕ) (binding : Binding) (name : List ℕ) (body before : List Token)
      (e : Expr) (p : List Stmt)
      → AreStatements before p → IsExpr loosest body e
      → AreStatements (before ++ token word_at (words.Bind binding) ∷ token at (words.Name name)
      ∷ token sign words.Assign ∷ (body ++ token end words.Semicolon ∷ []))
      (p ++ bound binding name at e ∷ [])
