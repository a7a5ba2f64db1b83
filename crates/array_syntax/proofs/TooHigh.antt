-- A node that ends too high is what the parser makes.
use Rattle.std.proofs.Common.{◌≡◌, ◌≢◌, ◌↔◌, ◌⊎◌, inl, inr, ⊎_elim, ℕ, ◌+◌, ◌≤◌, ◌<◌, Bool, true, false, List, [], ◌∷◌, ◌++◌, length, Option, Some, None, refl, sym, ap, subst, ◌∙◌, arith, append_assoc, append-nil, length-append}
use Rattle.std.specs.Prelude.{nat_le, nat_lt, pos, neg_ℤ, ℤ}
use Rattle.ven_base.specs.declared.elem.Elem.TheVariants as elems
use Rattle.ven_base.specs.declared.ops.Op1.TheVariants as unary
use Rattle.ven_io.specs.Reader.{Reader, Begins, Follows as FollowsGrammar, run_from}
use Rattle.ven_io.proofs.Readers.{run_on, begins_iff}
use Rattle.array_syntax.specs.declared.call.Earlier.{Earlier}
use Rattle.array_syntax.specs.declared.call.Earlier.TheVariants as earlier
use Rattle.array_syntax.specs.declared.call.MapCall.{MapCall}
use Rattle.array_syntax.specs.declared.call.Number.{Number}
use Rattle.array_syntax.specs.declared.frames.Frame.{Frame}
use Rattle.array_syntax.specs.declared.frames.Frame.TheVariants as frames
use Rattle.array_syntax.specs.declared.frames.Sign.{Sign}
use Rattle.array_syntax.specs.declared.frames.Sign.TheVariants as prefixes
use Rattle.array_syntax.specs.declared.machine.Part.{Part}
use Rattle.array_syntax.specs.declared.machine.Part.TheVariants as parts
use Rattle.array_syntax.specs.declared.program.Expr.{Expr}
use Rattle.array_syntax.specs.declared.program.ExprKind.{ExprKind}
use Rattle.array_syntax.specs.declared.program.ExprKind.TheVariants as kinds
use Rattle.array_syntax.specs.declared.program.Stmt.{Stmt}
use Rattle.array_syntax.specs.declared.program.Stmt.TheVariants as stmts
use Rattle.array_syntax.specs.declared.word.Binding.{Binding}
use Rattle.array_syntax.specs.declared.word.Binding.TheVariants as bindings
use Rattle.array_syntax.specs.declared.word.Callee.{Callee}
use Rattle.array_syntax.specs.declared.word.Callee.TheVariants as callees
use Rattle.array_syntax.specs.declared.word.Operator.{Operator}
use Rattle.array_syntax.specs.declared.word.Operator.TheVariants as operators
use Rattle.array_syntax.specs.declared.word.Token.{Token}
use Rattle.array_syntax.specs.declared.word.Word.{Word}
use Rattle.array_syntax.specs.declared.word.Word.TheVariants as words
use Rattle.array_syntax.specs.Grammar as grammar
use Rattle.array_syntax.specs.Grammar.{token, expr, minus, IsNumber, count, followed, bound, IsNumberArgument, Plain, Signed, AreNumbers, Nothing, More, IsExpr, Name, Literal, Negative, Brackets, Flip, Negate, Two, Call, Map, IsBegun, Opened, Argued, AreStatements, Empty, Bound}
use Rattle.array_syntax.specs.Reading as reading
use Rattle.array_syntax.specs.Reading.{State, Begin, AfterWord, AfterName, Want, Minus, Called, Have, WantNumber, SignedNumber, HaveNumber, Stuck, room, choose, one, two, reduce, tight, reach_of, op_of, placed, made, mapped, argued, close, act_of, act, want, after_minus, called, with_value, want_number, signed_number, have_number, begin, input, after_word, after_name, step, ending, reader, run, depth_of, count_of, nodes_read, unless_number, wanted}
use Rattle.array_syntax.specs.Table as table
use Rattle.array_syntax.specs.Table.{loosest, level, left_level, right_level, operands, numbers, takes_sign, call_of, map_of}
use Rattle.array_syntax.specs.Faults as faults
use Rattle.array_syntax.specs.Faults.{nodes_before, MayBegin, AtValue, InBrackets, BehindFlip, BehindNegate, BehindSign, InCall, EndsWith, EndsTooHigh, last_of, IsOperand, IsNode}
use Rattle.array_syntax.specs.Limits.{nodes, program_nodes, nodes_of, height, most_height, most_nodes, most_statements}
use Rattle.array_syntax.specs.Tree.{tree_of}
use Rattle.std.specs.Prelude.{max}
use Rattle.array_syntax.specs.declared.machine.Phase.{Phase}
use Rattle.array_syntax.specs.declared.machine.Phase.TheVariants as phases
use Rattle.array_syntax.specs.Steps.{opens, IsHigher, IsTooHigh, is_operand, is_sign, is_prefixed, begins_node, and_one, IsDeep, IsCrowded, IsFull, IsSignDeep, IsSignFull, depth_in}
use Rattle.array_syntax.proofs.Complete.{reads}
use Rattle.array_syntax.proofs.Reducing.{reduce_wider, left_up_to, read_wider}
use Rattle.array_syntax.proofs.Stands.{Stands, Follows, Starts, IsPlaced, IsRead, IsReduced}
use Rattle.array_syntax.proofs.Sound.{reduced}
use Rattle.array_syntax.proofs.Stepping.{is_read, at_level}
use Rattle.array_syntax.proofs.Trees.{tree_one, tree_two}
use Rattle.array_syntax.proofs.Leading.{some_tokens, stands_may, may_lead, led}
use Rattle.array_syntax.specs.Steps.{Stepped, SignBehind}

one_higher : (h at : ℕ) (sign : Sign) (e : Expr) → h < height (tree_of e) → h < height (tree_of (one at sign e))
one_higher h at sign e high = let is : height (tree_of (one at sign e)) ≡ height (tree_of e) + 1 = ap height (tree_one at (reading.prefix_operation sign) e) in omega arith

two_higher : (h at : ℕ) (op : Operator) (a e : Expr) → h < height (tree_of e) → h < height (tree_of (two at op a e))
two_higher h at op a e high = let is : height (tree_of (two at op a e)) ≡ max (height (tree_of a)) (height (tree_of e)) + 1 = ap height (tree_two at (table.operation op) a e) in grind arith

-- reducing makes no expression lower
chosen_higher : (h l at : ℕ) (op : Operator) (a e : Expr) (stack : List Frame) → h < height (tree_of e) → IsHigher h (reduce l (two at op a e) stack) → (b : Bool) → IsHigher h (choose b (reduce l (two at op a e) stack) (Have e (frames.Binary at op a ∷ stack)))
chosen_higher h l at op a e stack high ih true = ih
chosen_higher h l at op a e stack high ih false = high

pub higher : (h l : ℕ) (e : Expr) (stack : List Frame) → h < height (tree_of e) → IsHigher h (reduce l e stack)
higher h l e [] high = high
higher h l e (frames.Body done binding name at ∷ stack) high = high
higher h l e (frames.Prefix at sign ∷ stack) high = higher h l (one at sign e) stack (one_higher h at sign e high)
higher h l e (frames.Binary at op a ∷ stack) high = chosen_higher h l at op a e stack high (higher h l (two at op a e) stack (two_higher h at op a e high)) (nat_le (level op) l)
higher h l e (frames.Bracket ∷ stack) high = high
higher h l e (frames.Call at callee before ∷ stack) high = high

ends_high_at : (ts : List Token) (last : ℕ) (e : Expr) (w : EndsWith ts last e) → most_height < height (tree_of e) → IsHigher most_height (tight last (run (Begin []) ts))
ends_high_at ts last e w high =
    let q = may_lead w.room w.depth w.count w.outer w.first.word w.begins in
    let has = q.has_room in
    let w_fits = w.fits in
    let fits : w.own_level ≤ room q.stack = omega arith in
    let lead : run (Begin []) ts ≡ run (Want q.stack) (w.first ∷ w.rest) = ap (run (Begin [])) w.all ∙ led w.outer w.first w.rest q.stack q.is in
    let read = read_wider w.own_level last (run (Want q.stack) (w.first ∷ w.rest)) e q.stack w.up_to (reads w.own_level (w.first ∷ w.rest) e w.expr q.stack fits) in
    subst (IsHigher most_height) (sym (ap (tight last) lead ∙ read)) (higher most_height last e q.stack high)

pub starts_follow : (stack : List Frame) (first : Token) (rest own : List Token) → own ≡ first ∷ rest → Starts stack own → Follows stack first.word
starts_follow (frames.Prefix at prefixes.Negate ∷ stack) first rest own is (t, more, begins, non) = let same : t ∷ more ≡ first ∷ rest = sym begins ∙ is in subst (λ (x : Token). ¬ IsNumber x.word) (head_is t first more rest same) non
  where
    head_is : (a b : Token) (xs ys : List Token) → a ∷ xs ≡ b ∷ ys → a ≡ b
    head_is a b xs ys e = cc
starts_follow _ first rest own is starts = tt

-- an expression that stands behind open items ends there
pub placed_ends : (ts : List Token) (last : ℕ) (e : Expr) (stack : List Frame) → IsPlaced last ts e stack → EndsWith ts last e
placed_ends ts last e stack p =
    let (first, rest, is) = some_tokens p.own_level p.own e p.expr in
    record {
      outer = p.before;
      first = first;
      rest = rest;
      room = room stack;
      depth = depth_of stack;
      count = count_of stack;
      own_level = p.own_level;
      all = p.all ∙ ap (λ x. p.before ++ x) is;
      begins = stands_may stack p.before first.word p.behind (starts_follow stack first rest p.own is p.starts);
      expr = subst (λ x. IsExpr p.own_level x e) is p.expr;
      fits = p.fits;
      up_to = p.up_to;
    }

reduced_high : (ts : List Token) (last : ℕ) (s : State) → IsReduced last ts s → IsHigher most_height s → EndsTooHigh ts last
reduced_high ts last (Have e stack) p high = (e, placed_ends ts last e stack p, high)
reduced_high ts last _ p high = absurd p

state_high : (ts : List Token) (last : ℕ) (s : State) → IsRead ts s → IsHigher most_height (tight last s) → EndsTooHigh ts last
state_high ts last (Have e stack) p high = reduced_high ts last (reduce last e stack) (reduced last ts e stack (at_level last ts e stack p)) high
state_high ts last _ p high = absurd high

-- the law: tokens end with too high a node exactly where the state makes one
pub ends_high : (ts : List Token) (last : ℕ) → (EndsTooHigh ts last ↔ IsTooHigh last (run (Begin []) ts))
ends_high ts last = (λ (e, w, high). ends_high_at ts last e w high, state_high ts last (run (Begin []) ts) (is_read ts))

reach_up_to : (word : Word) → reach_of (op_of word) ≤ last_of word
reach_up_to (words.Operator op) = left_up_to op
reach_up_to _ = omega arith

-- what is reduced to a token's reach, and then as far as it ends nodes
reduced_on : (word : Word) (e node : Expr) (stack rest : List Frame) → Have node rest ≡ reduce (reach_of (op_of word)) e stack → reduce (last_of word) e stack ≡ reduce (last_of word) node rest
reduced_on word e node stack rest is = sym (reduce_wider (reach_of (op_of word)) (last_of word) e stack (reach_up_to word)) ∙ ap (tight (last_of word)) (sym is)

pub behind_high : (word : Word) (e node : Expr) (stack rest : List Frame) → Have node rest ≡ reduce (reach_of (op_of word)) e stack → most_height < height (tree_of node) → IsTooHigh (last_of word) (Have e stack)
behind_high word e node stack rest is high =
    subst (IsHigher most_height) (sym (reduced_on word e node stack rest is)) (higher most_height (last_of word) node rest high)

last_is : (word : Word) (op : Operator) → Some op ≡ op_of word → word ≡ words.Operator op
last_is (words.Operator own) op is = ap words.Operator (some own op (sym is))
  where
    some : (a b : Operator) → Some a ≡ Some b → a ≡ b
    some a b e = cc
last_is _ op is = absurd (cc)

pub sign_stepped : (t : Token) (op : Operator) (e node : Expr) (stack rest : List Frame) (next : Option Phase) (after : Phase → State) → Some op ≡ op_of t.word → Have node rest ≡ reduce (reach_of (op_of t.word)) e stack → (¬ (most_height < height (tree_of node))) → SignBehind node rest t.at op next after → Stepped (Have e stack) t next after
sign_stepped t op e node stack rest None after is red low h =
    subst (IsHigher most_height) (sym (reduced_on t.word e node stack rest red)) (subst (λ w. IsHigher most_height (reduce (last_of w) node rest)) (sym (last_is t.word op is)) h)
sign_stepped t op e node stack rest (Some next) after is red low h = (
  λ high. h.0 low (subst (λ w. IsHigher most_height (reduce (last_of w) node rest)) (last_is t.word op is) (subst (IsHigher most_height) (reduced_on t.word e node stack rest red) high)),
  h.1 ∙ ap (λ o. act_of o t node rest) is ∙ ap (act t) red,
)
