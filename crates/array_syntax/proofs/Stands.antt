-- What the tokens behind a state are.
use Rattle.std.proofs.Common.{◌≡◌, ◌≢◌, ◌↔◌, ◌⊎◌, inl, inr, ⊎_elim, ℕ, ◌+◌, ◌≤◌, ◌<◌, Bool, true, false, List, [], ◌∷◌, ◌++◌, length, Option, Some, None, refl, sym, ap, subst, ◌∙◌, arith, append_assoc, append-nil, length-append}
use Rattle.std.specs.Prelude.{nat_le, nat_lt, pos, neg_ℤ, ℤ}
use Rattle.ven_base.specs.declared.elem.Elem.TheVariants as elems
use Rattle.ven_base.specs.declared.ops.Op1.TheVariants as unary
use Rattle.ven_io.specs.Reader.{Reader, Begins, Follows as FollowsGrammar, run_from}
use Rattle.ven_io.proofs.Readers.{run_on, begins_iff}
use Rattle.array_syntax.specs.declared.call.Earlier.{Earlier}
use Rattle.array_syntax.specs.declared.call.Earlier.TheVariants as earlier
use Rattle.array_syntax.specs.declared.call.MapCall.{MapCall}
use Rattle.array_syntax.specs.declared.call.Number.{Number}
use Rattle.array_syntax.specs.declared.frames.Frame.{Frame}
use Rattle.array_syntax.specs.declared.frames.Frame.TheVariants as frames
use Rattle.array_syntax.specs.declared.frames.Sign.{Sign}
use Rattle.array_syntax.specs.declared.frames.Sign.TheVariants as prefixes
use Rattle.array_syntax.specs.declared.machine.Part.{Part}
use Rattle.array_syntax.specs.declared.machine.Part.TheVariants as parts
use Rattle.array_syntax.specs.declared.program.Expr.{Expr}
use Rattle.array_syntax.specs.declared.program.ExprKind.{ExprKind}
use Rattle.array_syntax.specs.declared.program.ExprKind.TheVariants as kinds
use Rattle.array_syntax.specs.declared.program.Stmt.{Stmt}
use Rattle.array_syntax.specs.declared.program.Stmt.TheVariants as stmts
use Rattle.array_syntax.specs.declared.word.Binding.{Binding}
use Rattle.array_syntax.specs.declared.word.Binding.TheVariants as bindings
use Rattle.array_syntax.specs.declared.word.Callee.{Callee}
use Rattle.array_syntax.specs.declared.word.Callee.TheVariants as callees
use Rattle.array_syntax.specs.declared.word.Operator.{Operator}
use Rattle.array_syntax.specs.declared.word.Operator.TheVariants as operators
use Rattle.array_syntax.specs.declared.word.Token.{Token}
use Rattle.array_syntax.specs.declared.word.Word.{Word}
use Rattle.array_syntax.specs.declared.word.Word.TheVariants as words
use Rattle.array_syntax.specs.Grammar as grammar
use Rattle.array_syntax.specs.Grammar.{token, expr, minus, IsNumber, count, followed, bound, IsNumberArgument, Plain, Signed, AreNumbers, Nothing, More, IsExpr, Name, Literal, Negative, Brackets, Flip, Negate, Two, Call, Map, IsBegun, Opened, Argued, AreStatements, Empty, Bound}
use Rattle.array_syntax.specs.Reading as reading
use Rattle.array_syntax.specs.Reading.{State, Begin, AfterWord, AfterName, Want, Minus, Called, Have, WantNumber, SignedNumber, HaveNumber, Stuck, room, choose, one, two, reduce, tight, reach_of, op_of, placed, made, mapped, argued, close, act_of, act, want, after_minus, called, with_value, want_number, signed_number, have_number, begin, input, after_word, after_name, step, ending, reader, run, depth_of, count_of, nodes_read, unless_number, wanted}
use Rattle.array_syntax.specs.Table.{loosest, level, left_level, right_level, operands, numbers, takes_sign, call_of, map_of}

-- the word of a prefix sign
abbrev pub sign_word : Sign → Word
sign_word prefixes.Negate = minus
sign_word prefixes.Flip = words.Tilde

-- the tokens are those of the open items
abbrev pub Stands : List Frame → List Token → Type 0
Stands [] ts = ⊥
Stands (frames.Body done binding name at ∷ stack) ts =
    (stack ≡ []) × (before : List Token) × (word_at : ℕ) × (sign : ℕ) × AreStatements before done × (ts ≡ before ++ token word_at (words.Bind binding) ∷ token at (words.Name name) ∷ token sign words.Assign ∷ [])
Stands (frames.Prefix at sign ∷ stack) ts = (before : List Token) × Stands stack before × (ts ≡ before ++ token at (sign_word sign) ∷ [])
Stands (frames.Binary at op a ∷ stack) ts =
    (before : List Token) × (left : List Token) × Stands stack before × (level op ≤ room stack) × IsExpr (left_level op) left a × (ts ≡ before ++ (left ++ token at (words.Operator op) ∷ []))
Stands (frames.Bracket ∷ stack) ts = (before : List Token) × (at : ℕ) × Stands stack before × (ts ≡ before ++ token at words.Open ∷ [])
Stands (frames.Call at callee before ∷ stack) ts = (outer : List Token) × (begun : List Token) × Stands stack outer × IsBegun at callee before begun × (ts ≡ outer ++ begun)

-- the word may stand behind the open items: no number behind a prefix `-`
abbrev pub Follows : List Frame → Word → Type 0
Follows (frames.Prefix at prefixes.Negate ∷ stack) word = ¬ IsNumber word
Follows _ word = Unit {0}

abbrev pub Starts : List Frame → List Token → Type 0
Starts (frames.Prefix at prefixes.Negate ∷ stack) ts = (first : Token) × (rest : List Token) × (ts ≡ first ∷ rest) × (¬ IsNumber first.word)
Starts _ ts = Unit {0}

-- the tokens are those of the open items and an expression of at most the level, for which there is room
pub record IsPlaced (l : ℕ) (ts : List Token) (e : Expr) (stack : List Frame) : Type 0 where
  pub before : List Token
  pub own : List Token
  pub own_level : ℕ
  pub all : ts ≡ before ++ own
  pub behind : Stands stack before
  pub expr : IsExpr own_level own e
  pub up_to : own_level ≤ l
  pub fits : own_level ≤ room stack
  pub starts : Starts stack own

-- the tokens are those of the open items, a call up to these numbers, and its own last ones
pub record HasNumbers (ts : List Token) (call : MapCall) (stack : List Frame) (values : List Number) (own : List Token) : Type 0 where
  pub before : List Token
  pub opening : ℕ
  pub comma : ℕ
  pub inner : List Token
  pub begun : List Token
  pub behind : Stands stack before
  pub operand : IsExpr loosest inner call.of
  pub are : AreNumbers (takes_sign call.callee) begun values
  pub less : length values < numbers call.callee
  pub all : ts ≡ before ++ token call.at (words.Call call.callee) ∷ token opening words.Open ∷ (inner ++ token comma words.Comma ∷ (begun ++ own))

-- the places of an input's tokens that its statement doesn't keep
pub record Places : Type 0 where
  pub word : ℕ
  pub elem : ℕ
  pub rows : ℕ
  pub comma : ℕ
  pub cols : ℕ
  pub closing : ℕ

abbrev pub part_tokens : Places → Part → List Token
part_tokens places parts.AfterWord = token places.word words.Input ∷ []
part_tokens places (parts.AfterName name at) = token places.word words.Input ∷ token at (words.Name name) ∷ []
part_tokens places (parts.AfterType h) = token places.word words.Input ∷ token h.at (words.Name h.name) ∷ token places.elem (words.Call (callees.Cast h.elem)) ∷ []
part_tokens places (parts.AfterOpen h shape_at) = token places.word words.Input ∷ token h.at (words.Name h.name) ∷ token places.elem (words.Call (callees.Cast h.elem)) ∷ token shape_at words.OpenSquare ∷ []
part_tokens places (parts.AfterRows h shape_at rows) = token places.word words.Input ∷ token h.at (words.Name h.name) ∷ token places.elem (words.Call (callees.Cast h.elem)) ∷ token shape_at words.OpenSquare ∷ token places.rows (words.Number rows) ∷ []
part_tokens places (parts.AfterComma h shape_at rows) = token places.word words.Input ∷ token h.at (words.Name h.name) ∷ token places.elem (words.Call (callees.Cast h.elem)) ∷ token shape_at words.OpenSquare ∷ token places.rows (words.Number rows) ∷ token places.comma words.Comma ∷ []
part_tokens places (parts.AfterCols h shape_at rows cols) = token places.word words.Input ∷ token h.at (words.Name h.name) ∷ token places.elem (words.Call (callees.Cast h.elem)) ∷ token shape_at words.OpenSquare ∷ token places.rows (words.Number rows) ∷ token places.comma words.Comma ∷ token places.cols (words.Number cols) ∷ []
part_tokens places (parts.AfterClose h shape_at rows cols) = token places.word words.Input ∷ token h.at (words.Name h.name) ∷ token places.elem (words.Call (callees.Cast h.elem)) ∷ token shape_at words.OpenSquare ∷ token places.rows (words.Number rows) ∷ token places.comma words.Comma ∷ token places.cols (words.Number cols) ∷ token places.closing words.CloseSquare ∷ []

abbrev pub IsRead : List Token → State → Type 0
IsRead ts (Begin done) = AreStatements ts done
IsRead ts (reading.Input done part) = (before : List Token) × (places : Places) × AreStatements before done × (ts ≡ before ++ part_tokens places part)
IsRead ts (AfterWord done binding) = (before : List Token) × (word_at : ℕ) × AreStatements before done × (ts ≡ before ++ token word_at (words.Bind binding) ∷ [])
IsRead ts (AfterName done binding name at) =
    (before : List Token) × (word_at : ℕ) × AreStatements before done × (ts ≡ before ++ token word_at (words.Bind binding) ∷ token at (words.Name name) ∷ [])
IsRead ts (Want stack) = Stands stack ts × ((word : Word) → Follows stack word)
IsRead ts (Minus at stack) = (before : List Token) × Stands stack before × (ts ≡ before ++ token at minus ∷ []) × Follows stack minus
IsRead ts (Called at callee stack) = (before : List Token) × Stands stack before × (ts ≡ before ++ token at (words.Call callee) ∷ []) × Follows stack (words.Call callee)
IsRead ts (Have e stack) = IsPlaced 0 ts e stack
IsRead ts (WantNumber call stack) = HasNumbers ts call stack call.values []
IsRead ts (SignedNumber at call stack) = HasNumbers ts call stack call.values (token at minus ∷ []) × (takes_sign call.callee ≡ true)
IsRead ts (HaveNumber call stack) =
    (values : List Number) × (value : Number) × (own : List Token) × (call.values ≡ values ++ value ∷ []) × IsNumberArgument (takes_sign call.callee) own value × HasNumbers ts call stack values own
IsRead ts Stuck = Unit {0}

-- the same with the nodes up to a level made
abbrev pub IsReduced : ℕ → List Token → State → Type 0
IsReduced l ts (Have e stack) = IsPlaced l ts e stack
IsReduced l ts _ = ⊥
