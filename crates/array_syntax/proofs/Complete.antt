-- Every sentence is read, to what it denotes.
use Rattle.std.proofs.Common.{◌≡◌, ◌≢◌, ◌↔◌, ◌⊎◌, inl, inr, ⊎_elim, ℕ, ◌+◌, ◌≤◌, ◌<◌, Bool, true, false, List, [], ◌∷◌, ◌++◌, length, Option, Some, None, refl, sym, ap, subst, ◌∙◌, arith, append_assoc, append-nil, length-append}
use Rattle.std.specs.Prelude.{nat_le, nat_lt, pos, neg_ℤ, ℤ}
use Rattle.ven_base.specs.declared.elem.Elem.TheVariants as elems
use Rattle.ven_base.specs.declared.ops.Op1.TheVariants as unary
use Rattle.ven_io.specs.Reader.{Reader, Begins, Follows as FollowsGrammar, run_from}
use Rattle.ven_io.proofs.Readers.{run_on, begins_iff}
use Rattle.array_syntax.specs.declared.call.Earlier.{Earlier}
use Rattle.array_syntax.specs.declared.call.Earlier.TheVariants as earlier
use Rattle.array_syntax.specs.declared.call.MapCall.{MapCall}
use Rattle.array_syntax.specs.declared.call.Number.{Number}
use Rattle.array_syntax.specs.declared.frames.Frame.{Frame}
use Rattle.array_syntax.specs.declared.frames.Frame.TheVariants as frames
use Rattle.array_syntax.specs.declared.frames.Sign.{Sign}
use Rattle.array_syntax.specs.declared.frames.Sign.TheVariants as prefixes
use Rattle.array_syntax.specs.declared.machine.Part.{Part}
use Rattle.array_syntax.specs.declared.machine.Part.TheVariants as parts
use Rattle.array_syntax.specs.declared.program.Expr.{Expr}
use Rattle.array_syntax.specs.declared.program.ExprKind.{ExprKind}
use Rattle.array_syntax.specs.declared.program.ExprKind.TheVariants as kinds
use Rattle.array_syntax.specs.declared.program.Stmt.{Stmt}
use Rattle.array_syntax.specs.declared.program.Stmt.TheVariants as stmts
use Rattle.array_syntax.specs.declared.word.Binding.{Binding}
use Rattle.array_syntax.specs.declared.word.Binding.TheVariants as bindings
use Rattle.array_syntax.specs.declared.word.Callee.{Callee}
use Rattle.array_syntax.specs.declared.word.Callee.TheVariants as callees
use Rattle.array_syntax.specs.declared.word.Operator.{Operator}
use Rattle.array_syntax.specs.declared.word.Operator.TheVariants as operators
use Rattle.array_syntax.specs.declared.word.Token.{Token}
use Rattle.array_syntax.specs.declared.word.Word.{Word}
use Rattle.array_syntax.specs.declared.word.Word.TheVariants as words
use Rattle.array_syntax.specs.Grammar as grammar
use Rattle.array_syntax.specs.Grammar.{token, expr, minus, IsNumber, count, followed, bound, IsNumberArgument, Plain, Signed, AreNumbers, Nothing, More, IsExpr, Name, Literal, Negative, Brackets, Flip, Negate, Two, Call, Map, IsBegun, Opened, Argued, AreStatements, Empty, Bound}
use Rattle.array_syntax.specs.Reading as reading
use Rattle.array_syntax.specs.Reading.{State, Begin, AfterWord, AfterName, Want, Minus, Called, Have, WantNumber, SignedNumber, HaveNumber, Stuck, room, choose, one, two, reduce, tight, reach_of, op_of, placed, made, mapped, argued, close, act_of, act, want, after_minus, called, with_value, want_number, signed_number, have_number, begin, input, after_word, after_name, step, ending, reader, run, depth_of, count_of, nodes_read, unless_number, wanted}
use Rattle.array_syntax.specs.Table.{loosest, level, left_level, right_level, operands, numbers, takes_sign, call_of, map_of}
use Rattle.array_syntax.proofs.Functions.{maps, IsMap}
use Rattle.array_syntax.proofs.Reducing.{right_below, left_up_to, left_from_one, is_le, is_lt, not_lt, reduce_binary, reduce_stays, read_wider, run_ends}

-- a `-` before what is no number is a prefix sign
pub prefix_minus : (word : Word) (at minus_at : ℕ) (stack : List Frame) → ¬ IsNumber word → after_minus word at minus_at stack ≡ want word at (frames.Prefix minus_at prefixes.Negate ∷ stack)
prefix_minus (words.Number n) at minus_at stack non = absurd (non tt)
prefix_minus _ at minus_at stack non = refl

-- a binary sign behind its left operand
pub behind_sign : (at : ℕ) (op : Operator) (left rest : List Token) (a : Expr) (stack : List Frame) → level op ≤ room stack → tight (left_level op) (run (Want stack) left) ≡ reduce (left_level op) a stack → run (Want stack) (left ++ token at (words.Operator op) ∷ rest) ≡ run (Want (frames.Binary at op a ∷ stack)) rest
behind_sign at op left rest a stack fits h =
    let over = frames.Binary at op a ∷ stack in
    let t = token at (words.Operator op) in
    let from_one = left_from_one op in
    let up = left_up_to op in
    let left_fits : left_level op ≤ room stack = omega arith in
    let ha : tight (left_level op) (run (Want stack) left) ≡ Have a stack = h ∙ reduce_stays (left_level op) a stack from_one left_fits in
    let acted : act t (Have a stack) ≡ Want over = ap (λ c. choose c (Want over) Stuck) (is_le (level op) (room stack) fits) in
    run_ends (Want stack) left t rest a stack ha ∙ ap (λ s. run s rest) acted

abbrev pub map_call : ℕ → Callee → Expr → List Number → MapCall
map_call at callee e values = record { at = at; callee = callee; of = e; values = values }

-- a number among a call's arguments
pub reads_number : (sign : Bool) (own : List Token) (value : Number) → IsNumberArgument sign own value → (call : MapCall) (stack : List Frame) → takes_sign call.callee ≡ sign → run (WantNumber call stack) own ≡ HaveNumber (with_value call value) stack
reads_number sign own value (Plain _ at n) call stack takes = refl
reads_number sign own value (Signed at place n) call stack takes = ap (λ b. step (choose b (SignedNumber at call stack) Stuck) (token place (words.Number n))) takes

-- numbers with a comma behind each
pub reads_numbers : (sign : Bool) (begun : List Token) (values : List Number) → AreNumbers sign begun values → (at : ℕ) (callee : Callee) (e : Expr) (stack : List Frame) → takes_sign callee ≡ sign → length values < numbers callee → run (WantNumber (map_call at callee e []) stack) begun ≡ WantNumber (map_call at callee e values) stack
reads_numbers sign begun values (Nothing _) at callee e stack takes less = refl
reads_numbers sign begun values (More _ comma before own earlier_values value d n) at callee e stack takes less =
    let len = length-append earlier_values (value ∷ []) in
    let call = map_call at callee e earlier_values in
    run_on step (WantNumber (map_call at callee e []) stack) before (own ++ token comma words.Comma ∷ [])
    ∙ ap (λ s. run s (own ++ token comma words.Comma ∷ [])) (reads_numbers sign before earlier_values d at callee e stack takes (omega arith))
    ∙ run_on step (WantNumber call stack) own (token comma words.Comma ∷ [])
    ∙ ap (λ s. step s (token comma words.Comma)) (reads_number sign own value n call stack takes)
    ∙ ap (λ b. choose b (WantNumber (map_call at callee e (earlier_values ++ value ∷ [])) stack) Stuck) (is_lt (length (earlier_values ++ value ∷ [])) (numbers callee) less)

-- a comma behind the operand of a call with numbers
pub argued_maps : (at : ℕ) (callee : Callee) (e : Expr) (stack : List Frame) → operands callee ≡ 1 → 0 < numbers callee → argued at callee earlier.Nothing e stack ≡ WantNumber (map_call at callee e []) stack
argued_maps at callee e stack single some =
    ap (λ b. choose b (Want (frames.Call at callee (earlier.One e) ∷ stack)) (mapped at callee earlier.Nothing e stack)) (not_lt 1 (operands callee) (omega arith))
    ∙ ap (λ b. choose b (WantNumber (map_call at callee e []) stack) Stuck) (is_lt 0 (numbers callee) some)

mutual
  pub reads : (l : ℕ) (ts : List Token) (e : Expr) → IsExpr l ts e → (stack : List Frame) → l ≤ room stack → tight l (run (Want stack) ts) ≡ reduce l e stack
  reads l ts e (Name _ at name) stack fits = refl
  reads l ts e (Literal _ at n) stack fits = refl
  reads l ts e (Negative _ at place n) stack fits = refl
  reads l ts e (Brackets _ opening closing inner _ d) stack fits =
      ap (tight l) (run_ends (Want (frames.Bracket ∷ stack)) inner (token closing words.Close) [] e (frames.Bracket ∷ stack) (reads loosest inner e d (frames.Bracket ∷ stack) (omega arith)))
  reads l ts _ (Flip _ at operand e d) stack fits =
      read_wider 0 l (run (Want (frames.Prefix at prefixes.Flip ∷ stack)) operand) e (frames.Prefix at prefixes.Flip ∷ stack) (omega arith) (reads 0 operand e d (frames.Prefix at prefixes.Flip ∷ stack) (omega arith))
  reads l ts _ (Negate _ at first rest e non d) stack fits =
      let over = frames.Prefix at prefixes.Negate ∷ stack in
      ap (λ s. tight l (run s rest)) (prefix_minus first.word first.at at stack non)
      ∙ read_wider 0 l (run (Want over) (first ∷ rest)) e over (omega arith) (reads 0 (first ∷ rest) e d over (omega arith))
  reads l ts _ (Two _ at op left right a b le da db) stack fits =
      let over = frames.Binary at op a ∷ stack in
      let up = left_up_to op in
      let below = right_below op in
      let left_fits : left_level op ≤ room stack = omega arith in
      let fits_op : level op ≤ room stack = omega arith in
      let right_le : right_level op ≤ l = omega arith in
      ap (tight l) (behind_sign at op left right a stack fits_op (reads (left_level op) left a da stack left_fits))
      ∙ read_wider (right_level op) l (run (Want over) right) b over right_le (reads (right_level op) right b db over (omega arith))
      ∙ reduce_binary l at op a b stack le
  reads l ts _ (Call _ at closing callee before begun last e kind b d is) stack fits =
      let over = frames.Call at callee before ∷ stack in
      let tail : List Token = last ++ token closing words.Close ∷ [] in
      ap (tight l)
      (run_on step (Want stack) begun tail
      ∙ ap (λ s. run s tail) (reads_begun at callee before begun b stack)
      ∙ run_ends (Want over) last (token closing words.Close) [] e over (reads loosest last e d over (omega arith))
      ∙ ap (λ o. made (placed at o) stack) is)
  reads l ts _ (Map _ at opening comma closing callee inner begun last e values value kind d ns n is) stack fits =
      let over = frames.Call at callee earlier.Nothing ∷ stack in
      let row = maps callee e (values ++ value ∷ []) kind is in
      let len = length-append values (value ∷ []) in
      let tail : List Token = last ++ token closing words.Close ∷ [] in
      let call = map_call at callee e values in
      ap (tight l)
      (run_ends (Want over) inner (token comma words.Comma) (begun ++ tail) e over (reads loosest inner e d over (omega arith))
      ∙ ap (λ s. run s (begun ++ tail)) (argued_maps at callee e stack row.one_operand row.some)
      ∙ run_on step (WantNumber (map_call at callee e []) stack) begun tail
      ∙ ap (λ s. run s tail) (reads_numbers (takes_sign callee) begun values ns at callee e stack refl (omega (arith, row.all)))
      ∙ run_on step (WantNumber call stack) last (token closing words.Close ∷ [])
      ∙ ap (λ s. step s (token closing words.Close)) (reads_number (takes_sign callee) last value n call stack refl)
      ∙ ap (λ o. made (placed at o) stack) is)

  pub reads_begun : (at : ℕ) (callee : Callee) (before : Earlier) (ts : List Token) → IsBegun at callee before ts → (stack : List Frame) → run (Want stack) ts ≡ Want (frames.Call at callee before ∷ stack)
  reads_begun at callee before ts (Opened _ opening _) stack = refl
  reads_begun at callee _ ts (Argued _ comma _ before begun own e b lt d) stack =
      let over = frames.Call at callee before ∷ stack in
      let tail : List Token = own ++ token comma words.Comma ∷ [] in
      run_on step (Want stack) begun tail
      ∙ ap (λ s. run s tail) (reads_begun at callee before begun b stack)
      ∙ run_ends (Want over) own (token comma words.Comma) [] e over (reads loosest own e d over (omega arith))
      ∙ ap (λ c. choose c (Want (frames.Call at callee (followed before e) ∷ stack)) (mapped at callee before e stack)) (is_lt (count before + 1) (operands callee) lt)

pub reads_program : (ts : List Token) (p : List Stmt) → AreStatements ts p → run (Begin []) ts ≡ Begin p
reads_program ts p Empty = refl
reads_program ts p (grammar.Input word_at at type_at shape_at rows_at comma cols_at closing end rows cols name elem before q d) =
    run_on step (Begin []) before _ ∙ ap (λ s. run s (token word_at words.Input ∷ token at (words.Name name) ∷ token type_at (words.Call (callees.Cast elem)) ∷ token shape_at words.OpenSquare ∷ token rows_at (words.Number rows) ∷ token comma words.Comma ∷ token cols_at (words.Number cols) ∷ token closing words.CloseSquare ∷ token end words.Semicolon ∷ [])) (reads_program before q d)
reads_program ts p (Bound word_at at sign end binding name body before e q d de) =
    let over = frames.Body q binding name at ∷ [] in
    let tail : List Token = body ++ (token end words.Semicolon ∷ []) in
    let rest : List Token = token word_at (words.Bind binding) ∷ (token at (words.Name name) ∷ (token sign words.Assign ∷ tail)) in
    let last : run (Want over) tail ≡ Begin (q ++ (bound binding name at e ∷ [])) = run_ends (Want over) body (token end words.Semicolon) [] e over (reads loosest body e de over (omega arith)) in
    run_on step (Begin []) before rest
    ∙ ap (λ s. run s rest) (reads_program before q d)
    ∙ last
