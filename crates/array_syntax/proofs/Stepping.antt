-- Each step keeps what the tokens behind a state are.
use Rattle.std.proofs.Common.{◌≡◌, ◌≢◌, ◌↔◌, ◌⊎◌, inl, inr, ⊎_elim, ℕ, ◌+◌, ◌≤◌, ◌<◌, Bool, true, false, List, [], ◌∷◌, ◌++◌, length, Option, Some, None, refl, sym, ap, subst, ◌∙◌, arith, append_assoc, append-nil, length-append}
use Rattle.std.specs.Prelude.{nat_le, nat_lt, pos, neg_ℤ, ℤ}
use Rattle.ven_base.specs.declared.elem.Elem.TheVariants as elems
use Rattle.ven_base.specs.declared.ops.Op1.TheVariants as unary
use Rattle.ven_io.specs.Reader.{Reader, Begins, Follows as FollowsGrammar, run_from}
use Rattle.ven_io.proofs.Readers.{run_on, begins_iff}
use Rattle.array_syntax.specs.declared.call.Earlier.{Earlier}
use Rattle.array_syntax.specs.declared.call.Earlier.TheVariants as earlier
use Rattle.array_syntax.specs.declared.call.MapCall.{MapCall}
use Rattle.array_syntax.specs.declared.call.Number.{Number}
use Rattle.array_syntax.specs.declared.frames.Frame.{Frame}
use Rattle.array_syntax.specs.declared.frames.Frame.TheVariants as frames
use Rattle.array_syntax.specs.declared.frames.Sign.{Sign}
use Rattle.array_syntax.specs.declared.frames.Sign.TheVariants as prefixes
use Rattle.array_syntax.specs.declared.machine.Part.{Part}
use Rattle.array_syntax.specs.declared.machine.Part.TheVariants as parts
use Rattle.array_syntax.specs.declared.program.Expr.{Expr}
use Rattle.array_syntax.specs.declared.program.ExprKind.{ExprKind}
use Rattle.array_syntax.specs.declared.program.ExprKind.TheVariants as kinds
use Rattle.array_syntax.specs.declared.program.Stmt.{Stmt}
use Rattle.array_syntax.specs.declared.program.Stmt.TheVariants as stmts
use Rattle.array_syntax.specs.declared.word.Binding.{Binding}
use Rattle.array_syntax.specs.declared.word.Binding.TheVariants as bindings
use Rattle.array_syntax.specs.declared.word.Callee.{Callee}
use Rattle.array_syntax.specs.declared.word.Callee.TheVariants as callees
use Rattle.array_syntax.specs.declared.word.Operator.{Operator}
use Rattle.array_syntax.specs.declared.word.Operator.TheVariants as operators
use Rattle.array_syntax.specs.declared.word.Token.{Token}
use Rattle.array_syntax.specs.declared.word.Word.{Word}
use Rattle.array_syntax.specs.declared.word.Word.TheVariants as words
use Rattle.array_syntax.specs.Grammar as grammar
use Rattle.array_syntax.specs.Grammar.{token, expr, minus, IsNumber, count, followed, bound, IsNumberArgument, Plain, Signed, AreNumbers, Nothing, More, IsExpr, Name, Literal, Negative, Brackets, Flip, Negate, Two, Call, Map, IsBegun, Opened, Argued, AreStatements, Empty, Bound}
use Rattle.array_syntax.specs.Reading as reading
use Rattle.array_syntax.specs.Reading.{State, Begin, AfterWord, AfterName, Want, Minus, Called, Have, WantNumber, SignedNumber, HaveNumber, Stuck, room, choose, one, two, reduce, tight, reach_of, op_of, placed, made, mapped, argued, close, act_of, act, want, after_minus, called, with_value, want_number, signed_number, have_number, begin, input, after_word, after_name, step, ending, reader, run, depth_of, count_of, nodes_read, unless_number, wanted}
use Rattle.array_syntax.specs.Table.{loosest, level, left_level, right_level, operands, numbers, takes_sign, call_of, map_of}
use Rattle.array_syntax.proofs.Functions.{followed_some}
use Rattle.array_syntax.proofs.Stands.{sign_word, Stands, Follows, Starts, IsPlaced, HasNumbers, Places, part_tokens, IsRead, IsReduced}
use Rattle.array_syntax.proofs.Sound.{wider, operand, no_number, reduced}

seam : (ts before own outer middle tail : List Token) → ts ≡ before ++ own → before ≡ outer ++ middle → ts ++ tail ≡ outer ++ (middle ++ (own ++ tail))
seam ts before own outer middle tail all b = ap (λ x. x ++ tail) (all ∙ ap (λ x. x ++ own) b) ∙ simp append_assoc refl

longer : (ts before own tail : List Token) → ts ≡ before ++ own → ts ++ tail ≡ before ++ (own ++ tail)
longer ts before own tail all = ap (λ x. x ++ tail) all ∙ append_assoc before own tail

whole : (ts : List Token) (e : Expr) (stack : List Frame) (p : IsPlaced loosest ts e stack) → IsExpr loosest p.own e
whole ts e stack p = wider p.own_level loosest p.own e p.expr p.up_to

-- a call begins with its function
pub begun_starts : (at : ℕ) (callee : Callee) (before : Earlier) (begun : List Token) → IsBegun at callee before begun → (rest : List Token) × (begun ≡ token at (words.Call callee) ∷ rest)
begun_starts at callee before begun (Opened _ opening _) = (token opening words.Open ∷ [], refl)
begun_starts at callee _ begun (Argued _ comma _ before front own e b lt d) =
    let (rest, is) = begun_starts at callee before front b in
    (rest ++ (own ++ token comma words.Comma ∷ []), ap (λ x. x ++ (own ++ token comma words.Comma ∷ [])) is)

-- a call without operands before
opened_tokens : (at : ℕ) (callee : Callee) (before : Earlier) (begun : List Token) → IsBegun at callee before begun → before ≡ earlier.Nothing → (opening : ℕ) × (begun ≡ token at (words.Call callee) ∷ token opening words.Open ∷ [])
opened_tokens at callee before begun (Opened _ opening _) is = (opening, refl)
opened_tokens at callee _ begun (Argued _ comma _ before front own e b lt d) is = absurd (followed_some before e is)

-- a call that is closed
closed_call : (at place : ℕ) (callee : Callee) (before : Earlier) (ts : List Token) (e : Expr) (stack : List Frame) → IsPlaced loosest ts e (frames.Call place callee before ∷ stack) → (o : Option ExprKind) → call_of callee before e ≡ o → IsRead (ts ++ token at words.Close ∷ []) (made (placed place o) stack)
closed_call at place callee before ts e stack p None is = tt
closed_call at place callee before ts e stack p (Some kind) is =
    let (outer, begun, st, b, all) = p.behind in
    let tail : List Token = p.own ++ token at words.Close ∷ [] in
    let (rest, begins) = begun_starts place callee before begun b in
    operand 0 outer (begun ++ tail) (ts ++ token at words.Close ∷ []) (token place (words.Call callee)) (rest ++ tail) (expr place kind) stack st
    (seam ts p.before p.own outer begun (token at words.Close ∷ []) p.all all) (ap (λ x. x ++ tail) begins) (no_number stack (words.Call callee) (λ h. h))
    (Call 0 place at callee before begun p.own e kind b (whole ts e (frames.Call place callee before ∷ stack) p) is)

-- a comma behind the last operand of a call that takes numbers
mapped_some : (at place : ℕ) (callee : Callee) (ts : List Token) (e : Expr) (stack : List Frame) → IsPlaced loosest ts e (frames.Call place callee earlier.Nothing ∷ stack) → (b : Bool) → nat_lt 0 (numbers callee) ≡ b → IsRead (ts ++ token at words.Comma ∷ []) (choose b (WantNumber (record { at = place; callee = callee; of = e; values = [] }) stack) Stuck)
mapped_some at place callee ts e stack p false is = tt
mapped_some at place callee ts e stack p true is =
    let (outer, begun, st, b, all) = p.behind in
    let (opening, begins) = opened_tokens place callee earlier.Nothing begun b refl in
    record {
      before = outer;
      opening = opening;
      comma = at;
      inner = p.own;
      begun = [];
      behind = st;
      operand = whole ts e (frames.Call place callee earlier.Nothing ∷ stack) p;
      are = Nothing (takes_sign callee);
      less = grind arith;
      all = seam ts p.before p.own outer begun (token at words.Comma ∷ []) p.all all ∙ ap (λ x. outer ++ (x ++ (p.own ++ token at words.Comma ∷ []))) begins;
    }

mapped_call : (at place : ℕ) (callee : Callee) (before : Earlier) (ts : List Token) (e : Expr) (stack : List Frame) → IsPlaced loosest ts e (frames.Call place callee before ∷ stack) → IsRead (ts ++ token at words.Comma ∷ []) (mapped place callee before e stack)
mapped_call at place callee earlier.Nothing ts e stack p = mapped_some at place callee ts e stack p (nat_lt 0 (numbers callee)) refl
mapped_call at place callee _ ts e stack p = tt

-- a comma behind an operand of a call
argued_call : (at place : ℕ) (callee : Callee) (before : Earlier) (ts : List Token) (e : Expr) (stack : List Frame) → IsPlaced loosest ts e (frames.Call place callee before ∷ stack) → (b : Bool) → nat_lt (count before + 1) (operands callee) ≡ b → IsRead (ts ++ token at words.Comma ∷ []) (choose b (Want (frames.Call place callee (followed before e) ∷ stack)) (mapped place callee before e stack))
argued_call at place callee before ts e stack p true is =
    let (outer, begun, st, b, all) = p.behind in (
      (
        outer,
        begun ++ (p.own ++ token at words.Comma ∷ []),
        st,
        Argued place at callee before begun p.own e b (grind arith) (whole ts e (frames.Call place callee before ∷ stack) p),
        seam ts p.before p.own outer begun (token at words.Comma ∷ []) p.all all,
      ),
      λ word. tt,
    )
argued_call at place callee before ts e stack p false is = mapped_call at place callee before ts e stack p

closed : (at : ℕ) (word : Word) (ts : List Token) (e : Expr) (stack : List Frame) → IsPlaced loosest ts e stack → IsRead (ts ++ token at word ∷ []) (close word e stack)
closed at words.Close ts e (frames.Bracket ∷ stack) p =
    let (before, opening, st, b) = p.behind in
    operand 0 before (token opening words.Open ∷ (p.own ++ token at words.Close ∷ [])) (ts ++ token at words.Close ∷ []) (token opening words.Open) (p.own ++ token at words.Close ∷ []) e stack st
    (seam ts p.before p.own before (token opening words.Open ∷ []) (token at words.Close ∷ []) p.all b) refl (no_number stack words.Open (λ h. h))
    (Brackets 0 opening at p.own e (whole ts e (frames.Bracket ∷ stack) p))
closed at words.Close ts e (frames.Call place callee before ∷ stack) p = closed_call at place callee before ts e stack p (call_of callee before e) refl
closed at words.Comma ts e (frames.Call place callee before ∷ stack) p = argued_call at place callee before ts e stack p (nat_lt (count before + 1) (operands callee)) refl
closed at words.Semicolon ts e (frames.Body done binding name place ∷ stack) p =
    let (bottom, before, word_at, sign, d, b) = p.behind in
    subst (λ x. AreStatements x (done ++ bound binding name place e ∷ []))
    (sym (seam ts p.before p.own before (token word_at (words.Bind binding) ∷ token place (words.Name name) ∷ token sign words.Assign ∷ []) (token at words.Semicolon ∷ []) p.all b))
    (Bound word_at place sign at binding name p.own before e done d (whole ts e (frames.Body done binding name place ∷ stack) p))
closed at _ ts e _ p = tt

chosen : (at : ℕ) (op : Operator) (ts : List Token) (e : Expr) (stack : List Frame) → IsPlaced (left_level op) ts e stack → (b : Bool) → nat_le (level op) (room stack) ≡ b → IsRead (ts ++ token at (words.Operator op) ∷ []) (choose b (Want (frames.Binary at op e ∷ stack)) Stuck)
chosen at op ts e stack p true fits =
    ((p.before, p.own, p.behind, grind arith, wider p.own_level (left_level op) p.own e p.expr p.up_to, longer ts p.before p.own (token at (words.Operator op) ∷ []) p.all), λ word. tt)
chosen at op ts e stack p false fits = tt

acted_word : (at : ℕ) (word : Word) (ts : List Token) (e : Expr) (stack : List Frame) → IsPlaced (reach_of (op_of word)) ts e stack → IsRead (ts ++ token at word ∷ []) (act (token at word) (Have e stack))
acted_word at (words.Operator op) ts e stack p = chosen at op ts e stack p (nat_le (level op) (room stack)) refl
acted_word at words.Close ts e stack p = closed at words.Close ts e stack p
acted_word at words.Comma ts e stack p = closed at words.Comma ts e stack p
acted_word at words.Semicolon ts e stack p = closed at words.Semicolon ts e stack p
acted_word at word ts e stack p = tt

acted : (t : Token) (ts : List Token) (s : State) → IsReduced (reach_of (op_of t.word)) ts s → IsRead (ts ++ t ∷ []) (act t s)
acted t ts (Have e stack) p = acted_word t.at t.word ts e stack p
acted t ts _ p = absurd p

wanted_word : (word : Word) (at : ℕ) (before : List Token) (stack : List Frame) → Stands stack before → Follows stack word → IsRead (before ++ token at word ∷ []) (want word at stack)
wanted_word (words.Name name) at before stack st f = operand 0 before (token at (words.Name name) ∷ []) (before ++ token at (words.Name name) ∷ []) (token at (words.Name name)) [] (expr at (kinds.Name name)) stack st refl refl f (Name 0 at name)
wanted_word (words.Number n) at before stack st f = operand 0 before (token at (words.Number n) ∷ []) (before ++ token at (words.Number n) ∷ []) (token at (words.Number n)) [] (expr at (kinds.Literal (pos n))) stack st refl refl f (Literal 0 at n)
wanted_word (words.Operator operators.Minus) at before stack st f = (before, st, refl, f)
wanted_word words.Tilde at before stack st f = ((before, st, refl), λ word. tt)
wanted_word words.Open at before stack st f = ((before, at, st, refl), λ word. tt)
wanted_word (words.Call callee) at before stack st f = (before, st, refl, f)
wanted_word _ at before stack st f = tt

behind_minus : (word : Word) (at minus_at : ℕ) (ts before : List Token) (stack : List Frame) → Stands stack before → ts ≡ before ++ token minus_at minus ∷ [] → Follows stack minus → IsRead (ts ++ token at word ∷ []) (after_minus word at minus_at stack)
behind_minus (words.Number n) at minus_at ts before stack st all f =
    operand 0 before (token minus_at minus ∷ token at (words.Number n) ∷ []) (ts ++ token at (words.Number n) ∷ []) (token minus_at minus) (token at (words.Number n) ∷ []) (expr minus_at (kinds.Literal (neg_ℤ (pos n)))) stack st
    (longer ts before (token minus_at minus ∷ []) (token at (words.Number n) ∷ []) all) refl f (Negative 0 minus_at at n)
behind_minus word at minus_at ts before stack st all f = wanted_word word at ts (frames.Prefix minus_at prefixes.Negate ∷ stack) (before, st, all) (λ h. h)

opened : (word : Word) (at place : ℕ) (callee : Callee) (ts : List Token) (stack : List Frame) → IsRead ts (Called place callee stack) → IsRead (ts ++ token at word ∷ []) (called word place callee stack)
opened words.Open at place callee ts stack (before, st, all, f) =
    ((before, token place (words.Call callee) ∷ token at words.Open ∷ [], st, Opened place at callee, longer ts before (token place (words.Call callee) ∷ []) (token at words.Open ∷ []) all), λ word. tt)
opened _ at place callee ts stack p = tt

-- a number behind those of a call
number_read : (ts more : List Token) (call : MapCall) (stack : List Frame) (value : Number) (last own : List Token) → HasNumbers ts call stack call.values last → last ++ more ≡ own → IsNumberArgument (takes_sign call.callee) own value → IsRead (ts ++ more) (HaveNumber (with_value call value) stack)
number_read ts more call stack value last own p is n = (
  call.values,
  value,
  own,
  refl,
  n,
  record {
    before = p.before;
    opening = p.opening;
    comma = p.comma;
    inner = p.inner;
    begun = p.begun;
    behind = p.behind;
    operand = p.operand;
    are = p.are;
    less = p.less;
    all = ap (λ x. x ++ more) p.all ∙ simp append_assoc refl ∙ ap (λ x. p.before ++ token call.at (words.Call call.callee) ∷ token p.opening words.Open ∷ (p.inner ++ token p.comma words.Comma ∷ (p.begun ++ x))) is;
  },
)

sign_read : (at : ℕ) (ts : List Token) (call : MapCall) (stack : List Frame) → HasNumbers ts call stack call.values [] → (b : Bool) → takes_sign call.callee ≡ b → IsRead (ts ++ token at minus ∷ []) (choose b (SignedNumber at call stack) Stuck)
sign_read at ts call stack p false is = tt
sign_read at ts call stack p true is = (
  record {
    before = p.before;
    opening = p.opening;
    comma = p.comma;
    inner = p.inner;
    begun = p.begun;
    behind = p.behind;
    operand = p.operand;
    are = p.are;
    less = p.less;
    all = ap (λ x. x ++ token at minus ∷ []) p.all ∙ simp append_assoc refl;
  },
  is,
)

wanted_number : (word : Word) (at : ℕ) (ts : List Token) (call : MapCall) (stack : List Frame) → HasNumbers ts call stack call.values [] → IsRead (ts ++ token at word ∷ []) (want_number word at call stack)
wanted_number (words.Number n) at ts call stack p = number_read ts (token at (words.Number n) ∷ []) call stack (record { at = at; value = pos n }) [] (token at (words.Number n) ∷ []) p refl (Plain (takes_sign call.callee) at n)
wanted_number (words.Operator operators.Minus) at ts call stack p = sign_read at ts call stack p (takes_sign call.callee) refl
wanted_number _ at ts call stack p = tt

behind_number_sign : (word : Word) (at place : ℕ) (ts : List Token) (call : MapCall) (stack : List Frame) → IsRead ts (SignedNumber place call stack) → IsRead (ts ++ token at word ∷ []) (signed_number word place call stack)
behind_number_sign (words.Number n) at place ts call stack (p, takes) =
    number_read ts (token at (words.Number n) ∷ []) call stack (record { at = place; value = neg_ℤ (pos n) }) (token place minus ∷ []) (token place minus ∷ token at (words.Number n) ∷ []) p refl
    (subst (λ b. IsNumberArgument b (token place minus ∷ token at (words.Number n) ∷ []) (record { at = place; value = neg_ℤ (pos n) })) (sym takes) (Signed place at n))
behind_number_sign _ at place ts call stack p = tt

more_numbers : (at : ℕ) (ts : List Token) (call : MapCall) (stack : List Frame) → IsRead ts (HaveNumber call stack) → (b : Bool) → nat_lt (length call.values) (numbers call.callee) ≡ b → IsRead (ts ++ token at words.Comma ∷ []) (choose b (WantNumber call stack) Stuck)
more_numbers at ts call stack p false is = tt
more_numbers at ts call stack (values, value, own, all_values, n, p) true is =
    record {
      before = p.before;
      opening = p.opening;
      comma = p.comma;
      inner = p.inner;
      begun = p.begun ++ (own ++ token at words.Comma ∷ []);
      behind = p.behind;
      operand = p.operand;
      are = subst (λ v. AreNumbers (takes_sign call.callee) (p.begun ++ (own ++ token at words.Comma ∷ [])) v) (sym all_values) (More (takes_sign call.callee) at p.begun own values value p.are n);
      less = grind arith;
      all = ap (λ x. x ++ token at words.Comma ∷ []) p.all ∙ simp (append_assoc, append-nil) refl;
    }

closed_map : (at : ℕ) (ts : List Token) (call : MapCall) (stack : List Frame) → IsRead ts (HaveNumber call stack) → (o : Option ExprKind) → map_of call.callee call.of call.values ≡ o → IsRead (ts ++ token at words.Close ∷ []) (made (placed call.at o) stack)
closed_map at ts call stack p None is = tt
closed_map at ts call stack (values, value, own, all_values, n, p) (Some kind) is =
    let inside : List Token = p.inner ++ token p.comma words.Comma ∷ (p.begun ++ (own ++ token at words.Close ∷ [])) in
    operand 0 p.before (token call.at (words.Call call.callee) ∷ token p.opening words.Open ∷ inside) (ts ++ token at words.Close ∷ []) (token call.at (words.Call call.callee)) (token p.opening words.Open ∷ inside) (expr call.at kind) stack p.behind
    (ap (λ x. x ++ token at words.Close ∷ []) p.all ∙ simp append_assoc refl) refl (no_number stack (words.Call call.callee) (λ h. h))
    (Map 0 call.at p.opening p.comma at call.callee p.inner p.begun own call.of values value kind p.operand p.are n (ap (map_of call.callee call.of) (sym all_values) ∙ is))

behind_number : (word : Word) (at : ℕ) (ts : List Token) (call : MapCall) (stack : List Frame) → IsRead ts (HaveNumber call stack) → IsRead (ts ++ token at word ∷ []) (have_number word call stack)
behind_number words.Comma at ts call stack p = more_numbers at ts call stack p (nat_lt (length call.values) (numbers call.callee)) refl
behind_number words.Close at ts call stack p = closed_map at ts call stack p (map_of call.callee call.of call.values) refl
behind_number _ at ts call stack p = tt

begun : (word : Word) (at : ℕ) (ts : List Token) (done : List Stmt) → AreStatements ts done → IsRead (ts ++ token at word ∷ []) (begin word done)
begun words.Input at ts done d = (ts, record { word = at; elem = 0; rows = 0; comma = 0; cols = 0; closing = 0 }, d, refl)
begun (words.Bind binding) at ts done d = (ts, at, d, refl)
begun _ at ts done d = tt

parted : (part : Part) (word : Word) (at : ℕ) (ts : List Token) (done : List Stmt) → IsRead ts (reading.Input done part) → IsRead (ts ++ token at word ∷ []) (input part word at done)
parted parts.AfterWord (words.Name name) at ts done (before, places, d, all) = (before, places, d, longer ts before (part_tokens places parts.AfterWord) (token at (words.Name name) ∷ []) all)
parted (parts.AfterName name place) (words.Call (callees.Cast elem)) at ts done (before, p, d, all) = (before, record { word = p.word; elem = at; rows = 0; comma = 0; cols = 0; closing = 0 }, d, longer ts before (part_tokens p (parts.AfterName name place)) (token at (words.Call (callees.Cast elem)) ∷ []) all)
parted (parts.AfterType h) words.OpenSquare at ts done (before, p, d, all) = (before, p, d, longer ts before (part_tokens p (parts.AfterType h)) (token at words.OpenSquare ∷ []) all)
parted (parts.AfterOpen h shape_at) (words.Number rows) at ts done (before, p, d, all) = (before, record { word = p.word; elem = p.elem; rows = at; comma = 0; cols = 0; closing = 0 }, d, longer ts before (part_tokens p (parts.AfterOpen h shape_at)) (token at (words.Number rows) ∷ []) all)
parted (parts.AfterRows h shape_at rows) words.Comma at ts done (before, p, d, all) = (before, record { word = p.word; elem = p.elem; rows = p.rows; comma = at; cols = 0; closing = 0 }, d, longer ts before (part_tokens p (parts.AfterRows h shape_at rows)) (token at words.Comma ∷ []) all)
parted (parts.AfterComma h shape_at rows) (words.Number cols) at ts done (before, p, d, all) = (before, record { word = p.word; elem = p.elem; rows = p.rows; comma = p.comma; cols = at; closing = 0 }, d, longer ts before (part_tokens p (parts.AfterComma h shape_at rows)) (token at (words.Number cols) ∷ []) all)
parted (parts.AfterCols h shape_at rows cols) words.CloseSquare at ts done (before, p, d, all) = (before, record { word = p.word; elem = p.elem; rows = p.rows; comma = p.comma; cols = p.cols; closing = at }, d, longer ts before (part_tokens p (parts.AfterCols h shape_at rows cols)) (token at words.CloseSquare ∷ []) all)
parted (parts.AfterClose h shape_at rows cols) words.Semicolon at ts done (before, p, d, all) =
    subst (λ x. AreStatements x (done ++ stmts.Input h.name h.at h.elem (pos rows) (pos cols) shape_at ∷ [])) (sym (longer ts before (part_tokens p (parts.AfterClose h shape_at rows cols)) (token at words.Semicolon ∷ []) all))
    (grammar.Input p.word h.at p.elem shape_at p.rows p.comma p.cols p.closing at rows cols h.name h.elem before done d)
parted _ _ at ts done p = tt

named : (word : Word) (at : ℕ) (ts : List Token) (done : List Stmt) (binding : Binding) → IsRead ts (AfterWord done binding) → IsRead (ts ++ token at word ∷ []) (after_word word at done binding)
named (words.Name name) at ts done binding (before, word_at, d, all) = (before, word_at, d, longer ts before (token word_at (words.Bind binding) ∷ []) (token at (words.Name name) ∷ []) all)
named _ at ts done binding p = tt

assigned : (word : Word) (at : ℕ) (ts : List Token) (done : List Stmt) (binding : Binding) (name : List ℕ) (place : ℕ) → IsRead ts (AfterName done binding name place) → IsRead (ts ++ token at word ∷ []) (after_name word done binding name place)
assigned words.Assign at ts done binding name place (before, word_at, d, all) =
    ((refl, before, word_at, at, d, longer ts before (token word_at (words.Bind binding) ∷ token place (words.Name name) ∷ []) (token at words.Assign ∷ []) all), λ word. tt)
assigned _ at ts done binding name place p = tt

pub at_level : (l : ℕ) (ts : List Token) (e : Expr) (stack : List Frame) → IsPlaced 0 ts e stack → IsPlaced l ts e stack
at_level l ts e stack p = record { before = p.before; own = p.own; own_level = p.own_level; all = p.all; behind = p.behind; expr = p.expr; up_to = omega (arith, p.up_to); fits = p.fits; starts = p.starts }

pub step_read : (s : State) (t : Token) (ts : List Token) → IsRead ts s → IsRead (ts ++ t ∷ []) (step s t)
step_read (Begin done) t ts p = begun t.word t.at ts done p
step_read (reading.Input done part) t ts p = parted part t.word t.at ts done p
step_read (AfterWord done binding) t ts p = named t.word t.at ts done binding p
step_read (AfterName done binding name at) t ts p = assigned t.word t.at ts done binding name at p
step_read (Want stack) t ts p = wanted_word t.word t.at ts stack p.0 (p.1 t.word)
step_read (Minus at stack) t ts (before, st, all, f) = behind_minus t.word t.at at ts before stack st all f
step_read (Called at callee stack) t ts p = opened t.word t.at at callee ts stack p
step_read (Have e stack) t ts p = acted t ts (reduce (reach_of (op_of t.word)) e stack) (reduced (reach_of (op_of t.word)) ts e stack (at_level (reach_of (op_of t.word)) ts e stack p))
step_read (WantNumber call stack) t ts p = wanted_number t.word t.at ts call stack p
step_read (SignedNumber at call stack) t ts p = behind_number_sign t.word t.at at ts call stack p
step_read (HaveNumber call stack) t ts p = behind_number t.word t.at ts call stack p
step_read Stuck t ts p = tt

pub run_read : (s : State) (more ts : List Token) → IsRead ts s → IsRead (ts ++ more) (run s more)
run_read s [] ts p = subst (λ x. IsRead x s) (sym (append-nil ts)) p
run_read s (t ∷ more) ts p = subst (λ x. IsRead x (run (step s t) more)) (append_assoc ts (t ∷ []) more) (run_read (step s t) more (ts ++ t ∷ []) (step_read s t ts p))

-- what the tokens behind the state that they lead to are
pub is_read : (ts : List Token) → IsRead ts (run (Begin []) ts)
is_read ts = run_read (Begin []) ts [] Empty
