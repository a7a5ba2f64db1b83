-- What is read is what the tokens denote.
use Rattle.std.proofs.Common.{◌≡◌, ◌≢◌, ◌↔◌, ◌⊎◌, inl, inr, ⊎_elim, ℕ, ◌+◌, ◌≤◌, ◌<◌, Bool, true, false, List, [], ◌∷◌, ◌++◌, length, Option, Some, None, refl, sym, ap, subst, ◌∙◌, arith, append_assoc, append-nil, length-append}
use Rattle.std.specs.Prelude.{nat_le, nat_lt, pos, neg_ℤ, ℤ}
use Rattle.ven_base.specs.declared.elem.Elem.TheVariants as elems
use Rattle.ven_base.specs.declared.ops.Op1.TheVariants as unary
use Rattle.ven_io.specs.Reader.{Reader, Begins, Follows as FollowsGrammar, run_from}
use Rattle.ven_io.proofs.Readers.{run_on, begins_iff}
use Rattle.array_syntax.specs.declared.call.Earlier.{Earlier}
use Rattle.array_syntax.specs.declared.call.Earlier.TheVariants as earlier
use Rattle.array_syntax.specs.declared.call.MapCall.{MapCall}
use Rattle.array_syntax.specs.declared.call.Number.{Number}
use Rattle.array_syntax.specs.declared.frames.Frame.{Frame}
use Rattle.array_syntax.specs.declared.frames.Frame.TheVariants as frames
use Rattle.array_syntax.specs.declared.frames.Sign.{Sign}
use Rattle.array_syntax.specs.declared.frames.Sign.TheVariants as prefixes
use Rattle.array_syntax.specs.declared.machine.Part.{Part}
use Rattle.array_syntax.specs.declared.machine.Part.TheVariants as parts
use Rattle.array_syntax.specs.declared.program.Expr.{Expr}
use Rattle.array_syntax.specs.declared.program.ExprKind.{ExprKind}
use Rattle.array_syntax.specs.declared.program.ExprKind.TheVariants as kinds
use Rattle.array_syntax.specs.declared.program.Stmt.{Stmt}
use Rattle.array_syntax.specs.declared.program.Stmt.TheVariants as stmts
use Rattle.array_syntax.specs.declared.word.Binding.{Binding}
use Rattle.array_syntax.specs.declared.word.Binding.TheVariants as bindings
use Rattle.array_syntax.specs.declared.word.Callee.{Callee}
use Rattle.array_syntax.specs.declared.word.Callee.TheVariants as callees
use Rattle.array_syntax.specs.declared.word.Operator.{Operator}
use Rattle.array_syntax.specs.declared.word.Operator.TheVariants as operators
use Rattle.array_syntax.specs.declared.word.Token.{Token}
use Rattle.array_syntax.specs.declared.word.Word.{Word}
use Rattle.array_syntax.specs.declared.word.Word.TheVariants as words
use Rattle.array_syntax.specs.Grammar as grammar
use Rattle.array_syntax.specs.Grammar.{token, expr, minus, IsNumber, count, followed, bound, IsNumberArgument, Plain, Signed, AreNumbers, Nothing, More, IsExpr, Name, Literal, Negative, Brackets, Flip, Negate, Two, Call, Map, IsBegun, Opened, Argued, AreStatements, Empty, Bound}
use Rattle.array_syntax.specs.Reading as reading
use Rattle.array_syntax.specs.Reading.{State, Begin, AfterWord, AfterName, Want, Minus, Called, Have, WantNumber, SignedNumber, HaveNumber, Stuck, room, choose, one, two, reduce, tight, reach_of, op_of, placed, made, mapped, argued, close, act_of, act, want, after_minus, called, with_value, want_number, signed_number, have_number, begin, input, after_word, after_name, step, ending, reader, run, depth_of, count_of, nodes_read, unless_number, wanted}
use Rattle.array_syntax.specs.Table.{loosest, level, left_level, right_level, operands, numbers, takes_sign, call_of, map_of}
use Rattle.array_syntax.proofs.Reducing.{right_below, left_up_to, left_from_one, level_up_to, is_le}
use Rattle.array_syntax.proofs.Stands.{sign_word, Stands, Follows, Starts, IsPlaced, IsRead, IsReduced}

-- an expression of a level is one of each looser level
pub wider : (l m : ℕ) (ts : List Token) (e : Expr) → IsExpr l ts e → l ≤ m → IsExpr m ts e
wider l m ts e (Name _ at name) le = Name m at name
wider l m ts e (Literal _ at n) le = Literal m at n
wider l m ts e (Negative _ at place n) le = Negative m at place n
wider l m ts e (Brackets _ opening closing inner _ d) le = Brackets m opening closing inner e d
wider l m ts _ (Flip _ at operand e d) le = Flip m at operand e d
wider l m ts _ (Negate _ at first rest e non d) le = Negate m at first rest e non d
wider l m ts _ (Two _ at op left right a b up da db) le = Two m at op left right a b (omega arith) da db
wider l m ts _ (Call _ at closing callee before begun last e kind b d is) le = Call m at closing callee before begun last e kind b d is
wider l m ts _ (Map _ at opening comma closing callee inner begun last e values value kind d ns n is) le = Map m at opening comma closing callee inner begun last e values value kind d ns n is

-- what begins with a word that may follow
pub starts_with : (stack : List Frame) (first : Token) (rest : List Token) → Follows stack first.word → Starts stack (first ∷ rest)
starts_with (frames.Prefix at prefixes.Negate ∷ stack) first rest f = (first, rest, refl, f)
starts_with _ first rest f = tt

-- where there is room for more than an operand anything may follow
pub starts_wide : (stack : List Frame) (ts : List Token) → 1 ≤ room stack → Starts stack ts
starts_wide (frames.Prefix at prefixes.Negate ∷ stack) ts from_one = absurd (omega arith)
starts_wide _ ts from_one = tt

pub follows_wide : (stack : List Frame) (word : Word) → 1 ≤ room stack → Follows stack word
follows_wide (frames.Prefix at prefixes.Negate ∷ stack) word from_one = absurd (omega arith)
follows_wide _ word from_one = tt

pub no_number : (stack : List Frame) (word : Word) → ¬ IsNumber word → Follows stack word
no_number (frames.Prefix at prefixes.Negate ∷ stack) word non = non
no_number _ word non = tt

-- an operand behind the open items
pub operand : (l : ℕ) (before own ts : List Token) (first : Token) (rest : List Token) (e : Expr) (stack : List Frame) → Stands stack before → ts ≡ before ++ own → own ≡ first ∷ rest → Follows stack first.word → IsExpr 0 own e → IsPlaced l ts e stack
operand l before own ts first rest e stack st all begins f d = record {
  before = before;
  own = own;
  own_level = 0;
  all = all;
  behind = st;
  expr = d;
  up_to = omega arith;
  fits = omega arith;
  starts = subst (λ o. Starts stack o) (sym begins) (starts_with stack first rest f);
}

-- a prefix sign with its operand
signed : (l at : ℕ) (sign : Sign) (ts before own : List Token) (e : Expr) (stack : List Frame) → Stands stack before → ts ≡ before ++ token at (sign_word sign) ∷ own → IsExpr 0 own e → Starts (frames.Prefix at sign ∷ stack) own → IsPlaced l ts (one at sign e) stack
signed l at prefixes.Flip ts before own e stack st all d starts = operand l before (token at words.Tilde ∷ own) ts (token at words.Tilde) own (one at prefixes.Flip e) stack st all refl (no_number stack words.Tilde (λ h. h)) (Flip 0 at own e d)
signed l at prefixes.Negate ts before own e stack st all d (first, rest, begins, non) =
    let d' : IsExpr 0 (first ∷ rest) e = subst (λ o. IsExpr 0 o e) begins d in
    let n : IsExpr 0 (token at minus ∷ own) (one at prefixes.Negate e) = subst (λ o. IsExpr 0 (token at minus ∷ o) (one at prefixes.Negate e)) (sym begins) (Negate 0 at first rest e non d') in
    operand l before (token at minus ∷ own) ts (token at minus) own (one at prefixes.Negate e) stack st all refl (no_number stack minus (λ h. h)) n

-- a binary sign with its operands
paired : (l : ℕ) (at : ℕ) (op : Operator) (a e : Expr) (stack : List Frame) (ts : List Token) → IsPlaced l ts e (frames.Binary at op a ∷ stack) → level op ≤ l → IsPlaced l ts (two at op a e) stack
paired l at op a e stack ts p le =
    let (before, left, st, room_for, da, all) = p.behind in
    let from_one = left_from_one op in
    let up = left_up_to op in
    let db : IsExpr (right_level op) p.own e = wider p.own_level (right_level op) p.own e p.expr p.fits in
    record {
      before = before;
      own = left ++ token at (words.Operator op) ∷ p.own;
      own_level = level op;
      all = p.all ∙ ap (λ x. x ++ p.own) all ∙ simp append_assoc refl;
      behind = st;
      expr = Two (level op) at op left p.own a e (omega arith) da db;
      up_to = le;
      fits = room_for;
      starts = starts_wide stack (left ++ token at (words.Operator op) ∷ p.own) (omega arith);
    }

choose_reduced : (l at : ℕ) (op : Operator) (a e : Expr) (stack : List Frame) (ts : List Token) → IsPlaced l ts e (frames.Binary at op a ∷ stack) → (IsPlaced l ts (two at op a e) stack → IsReduced l ts (reduce l (two at op a e) stack)) → (b : Bool) → nat_le (level op) l ≡ b → IsReduced l ts (choose b (reduce l (two at op a e) stack) (Have e (frames.Binary at op a ∷ stack)))
choose_reduced l at op a e stack ts p ih true is = ih (paired l at op a e stack ts p (grind arith))
choose_reduced l at op a e stack ts p ih false is = p

pub reduced : (l : ℕ) (ts : List Token) (e : Expr) (stack : List Frame) → IsPlaced l ts e stack → IsReduced l ts (reduce l e stack)
reduced l ts e [] p = p
reduced l ts e (frames.Body done binding name at ∷ stack) p = p
reduced l ts e (frames.Prefix at sign ∷ stack) p =
    let (before, st, all) = p.behind in
    let d : IsExpr 0 p.own e = wider p.own_level 0 p.own e p.expr p.fits in
    reduced l ts (one at sign e) stack (signed l at sign ts before p.own e stack st (p.all ∙ ap (λ x. x ++ p.own) all ∙ simp append_assoc refl) d p.starts)
reduced l ts e (frames.Binary at op a ∷ stack) p = choose_reduced l at op a e stack ts p (λ q. reduced l ts (two at op a e) stack q) (nat_le (level op) l) refl
reduced l ts e (frames.Bracket ∷ stack) p = p
reduced l ts e (frames.Call at callee before ∷ stack) p = p
