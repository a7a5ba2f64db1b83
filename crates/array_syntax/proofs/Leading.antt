-- Where an expression may begin is where the parser wants one.
use Rattle.std.proofs.Common.{◌≡◌, ◌≢◌, ◌↔◌, ◌⊎◌, inl, inr, ⊎_elim, ℕ, ◌+◌, ◌≤◌, ◌<◌, Bool, true, false, List, [], ◌∷◌, ◌++◌, length, Option, Some, None, refl, sym, ap, subst, ◌∙◌, arith, append_assoc, append-nil, length-append}
use Rattle.std.specs.Prelude.{nat_le, nat_lt, pos, neg_ℤ, ℤ}
use Rattle.ven_base.specs.declared.elem.Elem.TheVariants as elems
use Rattle.ven_base.specs.declared.ops.Op1.TheVariants as unary
use Rattle.ven_io.specs.Reader.{Reader, Begins, Follows as FollowsGrammar, run_from}
use Rattle.ven_io.proofs.Readers.{run_on, begins_iff}
use Rattle.array_syntax.specs.declared.call.Earlier.{Earlier}
use Rattle.array_syntax.specs.declared.call.Earlier.TheVariants as earlier
use Rattle.array_syntax.specs.declared.call.MapCall.{MapCall}
use Rattle.array_syntax.specs.declared.call.Number.{Number}
use Rattle.array_syntax.specs.declared.frames.Frame.{Frame}
use Rattle.array_syntax.specs.declared.frames.Frame.TheVariants as frames
use Rattle.array_syntax.specs.declared.frames.Sign.{Sign}
use Rattle.array_syntax.specs.declared.frames.Sign.TheVariants as prefixes
use Rattle.array_syntax.specs.declared.machine.Part.{Part}
use Rattle.array_syntax.specs.declared.machine.Part.TheVariants as parts
use Rattle.array_syntax.specs.declared.program.Expr.{Expr}
use Rattle.array_syntax.specs.declared.program.ExprKind.{ExprKind}
use Rattle.array_syntax.specs.declared.program.ExprKind.TheVariants as kinds
use Rattle.array_syntax.specs.declared.program.Stmt.{Stmt}
use Rattle.array_syntax.specs.declared.program.Stmt.TheVariants as stmts
use Rattle.array_syntax.specs.declared.word.Binding.{Binding}
use Rattle.array_syntax.specs.declared.word.Binding.TheVariants as bindings
use Rattle.array_syntax.specs.declared.word.Callee.{Callee}
use Rattle.array_syntax.specs.declared.word.Callee.TheVariants as callees
use Rattle.array_syntax.specs.declared.word.Operator.{Operator}
use Rattle.array_syntax.specs.declared.word.Operator.TheVariants as operators
use Rattle.array_syntax.specs.declared.word.Token.{Token}
use Rattle.array_syntax.specs.declared.word.Word.{Word}
use Rattle.array_syntax.specs.declared.word.Word.TheVariants as words
use Rattle.array_syntax.specs.Grammar as grammar
use Rattle.array_syntax.specs.Grammar.{token, expr, minus, IsNumber, count, followed, bound, IsNumberArgument, Plain, Signed, AreNumbers, Nothing, More, IsExpr, Name, Literal, Negative, Brackets, Flip, Negate, Two, Call, Map, IsBegun, Opened, Argued, AreStatements, Empty, Bound}
use Rattle.array_syntax.specs.Reading as reading
use Rattle.array_syntax.specs.Reading.{State, Begin, AfterWord, AfterName, Want, Minus, Called, Have, WantNumber, SignedNumber, HaveNumber, Stuck, room, choose, one, two, reduce, tight, reach_of, op_of, placed, made, mapped, argued, close, act_of, act, want, after_minus, called, with_value, want_number, signed_number, have_number, begin, input, after_word, after_name, step, ending, reader, run, depth_of, count_of, nodes_read, unless_number, wanted}
use Rattle.array_syntax.specs.Table.{loosest, level, left_level, right_level, operands, numbers, takes_sign, call_of, map_of}
use Rattle.array_syntax.specs.Faults as faults
use Rattle.array_syntax.specs.Faults.{nodes_before, MayBegin, AtValue, InBrackets, BehindFlip, BehindNegate, BehindSign, InCall, EndsWith, EndsTooHigh, last_of, IsOperand, IsNode}
use Rattle.array_syntax.specs.Limits.{nodes, program_nodes, nodes_of, height, most_height, most_nodes, most_statements}
use Rattle.array_syntax.specs.Tree.{tree_of}
use Rattle.std.specs.Prelude.{max}
use Rattle.array_syntax.specs.declared.machine.Phase.{Phase}
use Rattle.array_syntax.specs.declared.machine.Phase.TheVariants as phases
use Rattle.array_syntax.specs.Steps.{opens, IsHigher, IsTooHigh, is_operand, is_sign, is_prefixed, begins_node, and_one, IsDeep, IsCrowded, IsFull, IsSignDeep, IsSignFull, depth_in}
use Rattle.array_syntax.proofs.Complete.{reads, reads_begun, reads_program, behind_sign, prefix_minus}
use Rattle.array_syntax.proofs.Reducing.{left_from_one, left_up_to, some_is, none_some}
use Rattle.array_syntax.proofs.Stands.{sign_word, Stands, Follows, Starts, IsPlaced, IsRead, IsReduced}
use Rattle.array_syntax.proofs.Sound.{wider, starts_with, starts_wide, follows_wide, no_number, reduced}
use Rattle.array_syntax.proofs.Stepping.{begun_starts, is_read, at_level}

-- an expression has tokens
pub some_tokens : (l : ℕ) (ts : List Token) (e : Expr) → IsExpr l ts e → (first : Token) × (rest : List Token) × (ts ≡ first ∷ rest)
some_tokens l ts e (Name _ at name) = (token at (words.Name name), [], refl)
some_tokens l ts e (Literal _ at n) = (token at (words.Number n), [], refl)
some_tokens l ts e (Negative _ at place n) = (token at minus, token place (words.Number n) ∷ [], refl)
some_tokens l ts e (Brackets _ opening closing inner _ d) = (token opening words.Open, inner ++ token closing words.Close ∷ [], refl)
some_tokens l ts _ (Flip _ at operand e d) = (token at words.Tilde, operand, refl)
some_tokens l ts _ (Negate _ at first rest e non d) = (token at minus, first ∷ rest, refl)
some_tokens l ts _ (Two _ at op left right a b le da db) =
    let (first, rest, is) = some_tokens (left_level op) left a da in
    (first, rest ++ token at (words.Operator op) ∷ right, ap (λ x. x ++ token at (words.Operator op) ∷ right) is)
some_tokens l ts _ (Call _ at closing callee before begun last e kind b d is) =
    let (rest, begins) = begun_starts at callee before begun b in
    (token at (words.Call callee), rest ++ (last ++ token closing words.Close ∷ []), ap (λ x. x ++ (last ++ token closing words.Close ∷ [])) begins)
some_tokens l ts _ (Map _ at opening comma closing callee inner begun last e values value kind d ns n is) = (token at (words.Call callee), token opening words.Open ∷ (inner ++ token comma words.Comma ∷ (begun ++ (last ++ token closing words.Close ∷ []))), refl)

-- behind the open items an expression may begin
pub stands_may : (stack : List Frame) (ts : List Token) (word : Word) → Stands stack ts → Follows stack word → MayBegin (room stack) (depth_of stack) (count_of stack) ts word
stands_may [] ts word st f = absurd st
stands_may (frames.Body done binding name at ∷ stack) ts word (bottom, before, word_at, sign, d, all) f =
    subst (λ n. MayBegin loosest n (program_nodes done) ts word) (ap depth_of (sym bottom)) (subst (λ x. MayBegin loosest 0 (program_nodes done) x word) (sym all) (AtValue word_at at sign binding name before done word d))
stands_may (frames.Prefix at prefixes.Negate ∷ stack) ts word (before, st, all) f =
    subst (λ x. MayBegin 0 (depth_of stack + 1) (count_of stack + 1) x word) (sym all) (BehindNegate (room stack) (depth_of stack) (count_of stack) at before word f (stands_may stack before minus st (no_number stack minus (λ h. h))))
stands_may (frames.Prefix at prefixes.Flip ∷ stack) ts word (before, st, all) f =
    subst (λ x. MayBegin 0 (depth_of stack + 1) (count_of stack + 1) x word) (sym all) (BehindFlip (room stack) (depth_of stack) (count_of stack) at before word (stands_may stack before words.Tilde st (no_number stack words.Tilde (λ h. h))))
stands_may (frames.Binary at op a ∷ stack) ts word (before, left, st, fits, d, all) f =
    let from_one = left_from_one op in
    let up = left_up_to op in
    let (first, rest, is) = some_tokens (left_level op) left a d in
    subst (λ x. MayBegin (right_level op) (depth_of stack) (count_of stack + nodes (tree_of a) + 1) x word) (sym (all ∙ ap (λ x. before ++ (x ++ token at (words.Operator op) ∷ [])) is))
    (BehindSign (room stack) (depth_of stack) (count_of stack) at op before rest first a word (stands_may stack before first.word st (follows_wide stack first.word (omega arith))) fits (subst (λ x. IsExpr (left_level op) x a) is d))
stands_may (frames.Bracket ∷ stack) ts word (before, at, st, all) f =
    subst (λ x. MayBegin loosest (depth_of stack + 1) (count_of stack) x word) (sym all) (InBrackets (room stack) (depth_of stack) (count_of stack) at before word (stands_may stack before words.Open st (no_number stack words.Open (λ h. h))))
stands_may (frames.Call at callee operands_before ∷ stack) ts word (outer, begun, st, b, all) f =
    subst (λ x. MayBegin loosest (depth_of stack + 1) (count_of stack + nodes_before operands_before + 1) x word) (sym all)
    (InCall (room stack) (depth_of stack) (count_of stack) at callee operands_before outer begun word (stands_may stack outer (words.Call callee) st (no_number stack (words.Call callee) (λ h. h))) b)

-- tokens that lead to where an expression is wanted
pub record LeadsTo (l depth count : ℕ) (ts : List Token) (word : Word) : Type 0 where
  pub stack : List Frame
  pub is : wanted (run (Begin []) ts) word ≡ Some stack
  pub has_room : room stack ≡ l
  pub has_depth : depth_of stack ≡ depth
  pub has_count : count_of stack ≡ count

unless_other : (word : Word) (stack : List Frame) → ¬ IsNumber word → unless_number word stack ≡ Some stack
unless_other (words.Number n) stack non = absurd (non tt)
unless_other _ stack non = refl

minus_step : (word : Word) (at place : ℕ) (over stack : List Frame) → unless_number word (frames.Prefix place prefixes.Negate ∷ over) ≡ Some stack → after_minus word at place over ≡ want word at stack
minus_step (words.Number n) at place over stack is = absurd (none_some stack is)
minus_step word at place over stack is = ap (want word at) (some_is (frames.Prefix place prefixes.Negate ∷ over) stack is)

-- the step from where an expression is wanted
pub wanted_step : (s : State) (word : Word) (at : ℕ) (stack : List Frame) → wanted s word ≡ Some stack → step s (token at word) ≡ want word at stack
wanted_step (Want over) word at stack is = ap (want word at) (some_is over stack is)
wanted_step (Minus place over) word at stack is = minus_step word at place over stack is
wanted_step _ word at stack is = absurd (none_some stack is)

-- an expression's tokens, from where one is wanted
pub led : (before : List Token) (first : Token) (rest : List Token) (stack : List Frame) → wanted (run (Begin []) before) first.word ≡ Some stack → run (Begin []) (before ++ first ∷ rest) ≡ run (Want stack) (first ∷ rest)
led before first rest stack is = run_on step (Begin []) before (first ∷ rest) ∙ ap (λ s. run s rest) (wanted_step (run (Begin []) before) first.word first.at stack is)

pub may_lead : (l depth count : ℕ) (ts : List Token) (word : Word) → MayBegin l depth count ts word → LeadsTo l depth count ts word
may_lead l depth count ts word (AtValue word_at at sign binding name before p _ d) =
    let rest = token word_at (words.Bind binding) ∷ token at (words.Name name) ∷ token sign words.Assign ∷ [] in
    record {
      stack = frames.Body p binding name at ∷ [];
      has_room = refl;
      has_depth = refl;
      has_count = refl;
      is = ap (λ s. wanted s word) (run_on step (Begin []) before rest ∙ ap (λ s. run s rest) (reads_program before p d));
    }
may_lead l _ count ts word (InBrackets m depth _ at before _ b) =
    let q = may_lead m depth count before words.Open b in
    record {
      stack = frames.Bracket ∷ q.stack;
      has_room = refl;
      has_depth = ap (λ n. n + 1) q.has_depth;
      has_count = q.has_count;
      is = ap (λ s. wanted s word) (led before (token at words.Open) [] q.stack q.is);
    }
may_lead l _ _ ts word (BehindFlip m depth count at before _ b) =
    let q = may_lead m depth count before words.Tilde b in
    record {
      stack = frames.Prefix at prefixes.Flip ∷ q.stack;
      has_room = refl;
      has_depth = ap (λ n. n + 1) q.has_depth;
      has_count = ap (λ n. n + 1) q.has_count;
      is = ap (λ s. wanted s word) (led before (token at words.Tilde) [] q.stack q.is);
    }
may_lead l _ _ ts word (BehindNegate m depth count at before _ non b) =
    let q = may_lead m depth count before minus b in
    record {
      stack = frames.Prefix at prefixes.Negate ∷ q.stack;
      has_room = refl;
      has_depth = ap (λ n. n + 1) q.has_depth;
      has_count = ap (λ n. n + 1) q.has_count;
      is = ap (λ s. wanted s word) (led before (token at minus) [] q.stack q.is) ∙ unless_other word (frames.Prefix at prefixes.Negate ∷ q.stack) non;
    }
may_lead l depth _ ts word (BehindSign m _ count at op before rest first a _ b le d) =
    let q = may_lead m depth count before first.word b in
    let up = left_up_to op in
    let has = q.has_room in
    let left_fits : left_level op ≤ room q.stack = omega arith in
    record {
      stack = frames.Binary at op a ∷ q.stack;
      has_room = refl;
      has_depth = q.has_depth;
      has_count = ap (λ n. n + nodes (tree_of a) + 1) q.has_count;
      is = ap (λ s. wanted s word) (led before first (rest ++ token at (words.Operator op) ∷ []) q.stack q.is ∙ behind_sign at op (first ∷ rest) [] a q.stack (omega arith) (reads (left_level op) (first ∷ rest) a d q.stack left_fits));
    }
may_lead l _ _ ts word (InCall m depth count at callee operands_before before begun _ b calls) =
    let q = may_lead m depth count before (words.Call callee) b in
    let (rest, begins) = begun_starts at callee operands_before begun calls in
    record {
      stack = frames.Call at callee operands_before ∷ q.stack;
      has_room = refl;
      has_depth = ap (λ n. n + 1) q.has_depth;
      has_count = ap (λ n. n + nodes_before operands_before + 1) q.has_count;
      is = ap (λ s. wanted s word)
          (ap (λ x. run (Begin []) (before ++ x)) begins ∙ led before (token at (words.Call callee)) rest q.stack q.is ∙ ap (run (Want q.stack)) (sym begins) ∙ reads_begun at callee operands_before begun calls q.stack);
    }
