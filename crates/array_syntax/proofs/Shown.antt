-- The text of a program is read as the program, apart from its places.
use Rattle.std.proofs.Common.{◌≡◌, ◌⊎◌, inl, inr, ⊎_elim, ℕ, zero, suc, ◌+◌, ◌≤◌, ◌<◌, Bool, true, false, List, [], ◌∷◌, ◌++◌, length, get_or, Option, Some, None, refl, sym, ap, subst, ◌∙◌, arith, append_assoc, append-nil, length-append}
use Rattle.std.specs.Prelude.{ℤ, pos, neg_ℤ, codes, decimal, Ok, ◌≤ℤ◌, ◌||◌, Contains, if◌then◌else◌, nat_le}
use lib.IntN.{negsuc}
use Rattle.std.specs.Fmt.{signed_decimal}
use Rattle.std.specs.List.{All, list_any}
use Rattle.std.specs.Str.{bytes_eq}
use Rattle.std.proofs.lemmas.Bool.{cases_lt}
use Rattle.std.proofs.lemmas.Int.{ints}
use Rattle.std.proofs.lemmas.List.Folds.{list_any-append}
use Rattle.std.proofs.lemmas.Map.Views.{Contains-from_any}
use Rattle.std.proofs.lemmas.Slice.Eq.{bytes_eq-Decides}
use Rattle.ven_base.specs.declared.elem.Elem.{Elem}
use Rattle.ven_base.specs.declared.elem.Elem.TheVariants as elems
use Rattle.ven_base.specs.declared.ops.Fold.{Fold as Reduction}
use Rattle.ven_base.specs.declared.ops.Fold.TheVariants as folds
use Rattle.ven_base.specs.declared.ops.Op1.{Op1}
use Rattle.ven_base.specs.declared.ops.Op1.TheVariants as unary
use Rattle.ven_base.specs.declared.ops.Op2.{Op2}
use Rattle.ven_base.specs.declared.ops.Op2.TheVariants as binary
use Rattle.ven_base.specs.Name.{IsNameToken, reserved_words, name_limit}
use Rattle.ven_io.specs.declared.token.TokenKind.TheVariants as token_kinds
use Rattle.ven_io.specs.declared.token.Token.{Token as TextToken}
use Rattle.ven_io.specs.Number.{number_limit}
use Rattle.ven_io.specs.Token.{NextIs}
use Rattle.ven_io.specs.Tokens.{TokensTo, IsBehind}
use Rattle.array_syntax.specs.declared.call.Earlier.{Earlier}
use Rattle.array_syntax.specs.declared.call.Earlier.TheVariants as earlier
use Rattle.array_syntax.specs.declared.call.Number.{Number}
use Rattle.array_syntax.specs.declared.program.Expr.{Expr}
use Rattle.array_syntax.specs.declared.program.ExprKind.{ExprKind}
use Rattle.array_syntax.specs.declared.program.ExprKind.TheVariants as kinds
use Rattle.array_syntax.specs.declared.program.Program.{Program}
use Rattle.array_syntax.specs.declared.program.Stmt.{Stmt}
use Rattle.array_syntax.specs.declared.program.Stmt.TheVariants as stmts
use Rattle.array_syntax.specs.declared.word.Binding.{Binding}
use Rattle.array_syntax.specs.declared.word.Binding.TheVariants as bindings
use Rattle.array_syntax.specs.declared.word.Callee.{Callee}
use Rattle.array_syntax.specs.declared.word.Callee.TheVariants as callees
use Rattle.array_syntax.specs.declared.word.Operator.{Operator}
use Rattle.array_syntax.specs.declared.word.Operator.TheVariants as operators
use Rattle.array_syntax.specs.declared.word.Token.{Token}
use Rattle.array_syntax.specs.declared.word.Word.{Word}
use Rattle.array_syntax.specs.declared.word.Word.TheVariants as words
use Rattle.array_syntax.specs.Grammar as grammar
use Rattle.array_syntax.specs.Grammar.{token, expr, minus, IsNumber, bound, IsNumberArgument, Plain, Signed, AreNumbers, IsExpr, IsBegun, Opened, Argued, AreStatements}
use Rattle.array_syntax.specs.Limits as limits
use Rattle.array_syntax.specs.Limits.{IsFreeName, IsSigned, IsWritable, KeepsStatement, KeepsLimits, own_words}
use Rattle.ven_base.specs.ElemWord.{elem_word}
use Rattle.array_syntax.specs.Printed as printed
use Rattle.array_syntax.specs.Printed.{row_fold_word, fold_word, in_brackets, IsLiteral, negated, one_text, numbers_text, two_text, expr_text, line_of, lines_of, bare, SameApart, AreSameApart, DenotesApart}
use Rattle.array_syntax.specs.Table.{loosest, level, left_level, right_level, operation, operands, takes_sign, call_of, map_of}
use Rattle.array_syntax.specs.Tree as trees
use Rattle.array_syntax.specs.Tree.{Tree, tree_of}
use Rattle.array_syntax.specs.Words.{keywords, look_up, name_word, word_of, language}
use Rattle.array_syntax.proofs.Pieces.{Closes, IsClosed, Any, Reads, IsOne, AreSome, name_reads, sealed_reads, sign_reads, double_reads, number_reads, bind, word_then, last, seen_as, blank, blank_word, line_reads, nothing_reads}
use Rattle.array_syntax.proofs.Trees.{tree_name, tree_literal, tree_one, tree_two, tree_cast, tree_select, tree_shift, tree_rotate, tree_section, tree_stretch, tree_transpose, tree_row_fold, tree_fold}
use Rattle.array_syntax.proofs.Vocabulary.{spellings}

-- ---- free names

spelled_here : (entry : List ℕ × Word) (table : List (List ℕ × Word)) (bytes : List ℕ) (word : Word) → (look_up table bytes ≡ Some word → list_any (bytes_eq bytes) (spellings table) ≡ true) → (b : Bool) → (if b then Some entry.1 else look_up table bytes) ≡ Some word → (b || list_any (bytes_eq bytes) (spellings table)) ≡ true
spelled_here entry table bytes word ih true is = refl
spelled_here entry table bytes word ih false is = ih is

spelled : (table : List (List ℕ × Word)) (bytes : List ℕ) (word : Word) → look_up table bytes ≡ Some word → list_any (bytes_eq bytes) (spellings table) ≡ true
spelled [] bytes word is = absurd (cc)
spelled (entry ∷ table) bytes word is = spelled_here entry table bytes word (λ e. spelled table bytes word e) (bytes_eq bytes entry.0) is

within : (bytes : List ℕ) (names : List (List ℕ)) → list_any (bytes_eq bytes) names ≡ true → Contains names bytes
within bytes names any = Contains-from_any (λ xs ys h. (bytes_eq-Decides xs ys).0 h) bytes names any

no_keyword : (name : List ℕ) → IsFreeName name → (o : Option Word) → look_up keywords name ≡ o → o ≡ None
no_keyword name free None is = refl
no_keyword name free (Some word) is = absurd (one_of (list_any (bytes_eq name) reserved_words) (list_any (bytes_eq name) own_words) refl refl (sym (list_any-append (bytes_eq name) reserved_words own_words) ∙ spelled keywords name word is))
  where
    one_of : (a b : Bool) → list_any (bytes_eq name) reserved_words ≡ a → list_any (bytes_eq name) own_words ≡ b → (a || b) ≡ true → ⊥
    one_of true b p q e = free.name.free (within name reserved_words p)
    one_of false true p q e = free.free (within name own_words q)
    one_of false false p q e = cc

name_is : (name : List ℕ) → IsFreeName name → word_of token_kinds.Name name ≡ Some (words.Name name)
name_is name free = ap (λ o. name_word o name) (no_keyword name free (look_up keywords name) refl) ∙ by (nat_le (length name) name_limit) (short (length name) free.name.short)
  where
    short : (n : ℕ) → n ≤ 31 → nat_le n name_limit ≡ true
    short n le = grind arith

    by : (b : Bool) → b ≡ true → (if b then Some (words.Name name) else None) ≡ Some (words.Name name)
    by true e = refl
    by false e = absurd (cc)

free_reads : (name : List ℕ) → IsFreeName name → Reads IsClosed name (IsOne (words.Name name))
free_reads name free = name_reads name (words.Name name) free.name.token (name_is name free)

-- ---- signs

closes_open : Closes 40
closes_open = record { no_name = refl; no_less = refl; no_assign = refl; no_greater = refl }

closes_close : Closes 41
closes_close = record { no_name = refl; no_less = refl; no_assign = refl; no_greater = refl }

closes_comma : Closes 44
closes_comma = record { no_name = refl; no_less = refl; no_assign = refl; no_greater = refl }

closes_semicolon : Closes 59
closes_semicolon = record { no_name = refl; no_less = refl; no_assign = refl; no_greater = refl }

closes_square : Closes 91
closes_square = record { no_name = refl; no_less = refl; no_assign = refl; no_greater = refl }

closes_end_square : Closes 93
closes_end_square = record { no_name = refl; no_less = refl; no_assign = refl; no_greater = refl }

closes_blank : Closes 32
closes_blank = record { no_name = refl; no_less = refl; no_assign = refl; no_greater = refl }

open_reads : Reads Any (codes "(") (IsOne words.Open)
open_reads = sealed_reads 40 words.Open (record { no_less = refl; no_greater = refl; none = refl }) refl refl

close_reads : Reads Any (codes ")") (IsOne words.Close)
close_reads = sealed_reads 41 words.Close (record { no_less = refl; no_greater = refl; none = refl }) refl refl

comma_reads : Reads Any (codes ",") (IsOne words.Comma)
comma_reads = sealed_reads 44 words.Comma (record { no_less = refl; no_greater = refl; none = refl }) refl refl

minus_reads : Reads Any (codes "-") (IsOne minus)
minus_reads = sealed_reads 45 minus (record { no_less = refl; no_greater = refl; none = refl }) refl refl

tilde_reads : Reads Any (codes "~") (IsOne words.Tilde)
tilde_reads = sealed_reads 126 words.Tilde (record { no_less = refl; no_greater = refl; none = refl }) refl refl

square_reads : Reads Any (codes "[") (IsOne words.OpenSquare)
square_reads = sealed_reads 91 words.OpenSquare (record { no_less = refl; no_greater = refl; none = refl }) refl refl

end_square_reads : Reads Any (codes "]") (IsOne words.CloseSquare)
end_square_reads = sealed_reads 93 words.CloseSquare (record { no_less = refl; no_greater = refl; none = refl }) refl refl

semicolon_reads : Reads Any (codes ";") (IsOne words.Semicolon)
semicolon_reads = sealed_reads 59 words.Semicolon (record { no_less = refl; no_greater = refl; none = refl }) refl refl

anywhere : (p : List ℕ) (are : List Token → Type 0) → Reads Any p are → Reads IsClosed p are
anywhere p are reads front rest closed = reads front rest tt

-- ---- expressions

-- the tokens are an expression that is the tree's, apart from its places
record IsShown (t : Tree) (ts : List Token) : Type 0 where
  pub first : Token
  pub more : List Token
  pub e : Expr
  pub all : ts ≡ first ∷ more
  pub is : (l : ℕ) → IsExpr l ts e
  pub same : bare (tree_of e) ≡ bare t
  pub signed : ¬ IsLiteral t → ¬ IsNumber first.word

-- the same, and they don't begin with a number
record IsPlaced (t : Tree) (ts : List Token) : Type 0 where
  pub shown : IsShown t ts
  pub no_number : ¬ IsNumber shown.first.word

shown_some : (t : Tree) (ts : List Token) → IsShown t ts → AreSome (IsShown t) ts
shown_some t ts s = (s.first, s.more, s.all, s)

-- behind a blank
spaced : (t : Tree) (p : List ℕ) → Reads IsClosed p (IsShown t) → Reads IsClosed (32 ∷ p) (IsShown t)
spaced t p reads = blank IsClosed p (IsShown t) (seen_as IsClosed p (IsShown t) (AreSome (IsShown t)) reads (shown_some t))

shown_name : (at : ℕ) (name : List ℕ) → IsFreeName name → Reads IsClosed name (IsShown (trees.Name at name))
shown_name at name free = last IsClosed name (words.Name name) (IsShown (trees.Name at name)) (free_reads name free) (λ place. record {
  first = token place (words.Name name);
  more = [];
  e = expr place (kinds.Name name);
  all = refl;
  is = λ l. grammar.Name l place name;
  same = ap bare (tree_name place name);
  signed = λ plain h. h;
})

shown_literal : (at : ℕ) (n : ℤ) → IsSigned n → Reads IsClosed (signed_decimal n) (IsShown (trees.Literal at n))
shown_literal at (pos n) s = last IsClosed (decimal n) (words.Number n) (IsShown (trees.Literal at (pos n))) (number_reads n (omega (arith, ints, s.greatest))) (λ place. record {
  first = token place (words.Number n);
  more = [];
  e = expr place (kinds.Literal (pos n));
  all = refl;
  is = λ l. grammar.Literal l place n;
  same = ap bare (tree_literal place (pos n));
  signed = λ plain h. plain tt;
})
shown_literal at (negsuc n) s = word_then Any IsClosed (codes "-") (decimal (suc n)) minus (IsShown (trees.Literal at (negsuc n))) minus_reads (λ rest c. tt)
    (λ place. last IsClosed (decimal (suc n)) (words.Number (suc n)) (λ ts. IsShown (trees.Literal at (negsuc n)) (token place minus ∷ ts)) (number_reads (suc n) (omega (arith, ints, s.least))) (λ digits. record {
      first = token place minus;
      more = token digits (words.Number (suc n)) ∷ [];
      e = expr place (kinds.Literal (negsuc n));
      all = refl;
      is = λ l. grammar.Negative l place digits (suc n);
      same = ap bare (tree_literal place (negsuc n));
      signed = λ plain h. plain tt;
    }))

-- in brackets
bracketed : (t : Tree) (p : List ℕ) → Reads IsClosed p (IsShown t) → Reads Any (in_brackets p) (IsPlaced t)
bracketed t p reads = word_then Any Any (codes "(") (p ++ codes ")") words.Open (IsPlaced t) open_reads (λ rest any. tt)
    (λ opening. bind IsClosed Any p (codes ")") (IsShown t) (λ ts. IsPlaced t (token opening words.Open ∷ ts)) reads (λ rest any. closes_close)
    (λ ts s. last Any (codes ")") words.Close (λ more. IsPlaced t (token opening words.Open ∷ (ts ++ more))) close_reads (λ closing. record {
      shown = record {
        first = token opening words.Open;
        more = ts ++ token closing words.Close ∷ [];
        e = s.e;
        all = refl;
        is = λ l. grammar.Brackets l opening closing ts s.e (s.is loosest);
        same = s.same;
        signed = λ plain h. h;
      };
      no_number = λ h. h;
    })))

-- an operand of `-`
shown_negated : (a : Tree) → Reads IsClosed (expr_text a) (IsShown a) → Reads IsClosed (negated a (expr_text a)) (IsPlaced a)
shown_negated (trees.Literal at n) reads = anywhere (in_brackets (signed_decimal n)) (IsPlaced (trees.Literal at n)) (bracketed (trees.Literal at n) (signed_decimal n) reads)
shown_negated a reads = seen_as IsClosed (expr_text a) (IsShown a) (IsPlaced a) reads (λ ts s. record { shown = s; no_number = s.signed (λ u. u) })

shown_minus : (at : ℕ) (a : Tree) → Reads IsClosed (expr_text a) (IsShown a) → Reads IsClosed (codes "-" ++ negated a (expr_text a)) (IsShown (trees.One at unary.Neg a))
shown_minus at a reads = word_then Any IsClosed (codes "-") (negated a (expr_text a)) minus (IsShown (trees.One at unary.Neg a)) minus_reads (λ rest c. tt)
    (λ place. seen_as IsClosed (negated a (expr_text a)) (IsPlaced a) (λ ts. IsShown (trees.One at unary.Neg a) (token place minus ∷ ts)) (shown_negated a reads) (λ ts p.
    let s = p.shown in
    record {
      first = token place minus;
      more = ts;
      e = expr place (kinds.One unary.Neg s.e);
      all = refl;
      is = λ l. subst (λ xs. IsExpr l (token place minus ∷ xs) (expr place (kinds.One unary.Neg s.e))) (sym s.all) (grammar.Negate l place s.first s.more s.e p.no_number (subst (λ xs. IsExpr 0 xs s.e) s.all (s.is 0)));
      same = ap bare (tree_one place unary.Neg s.e) ∙ ap (trees.One 0 unary.Neg) s.same;
      signed = λ plain h. h;
    }))

shown_flip : (at : ℕ) (a : Tree) (p : List ℕ) → Reads IsClosed p (IsShown a) → Reads IsClosed (codes "~" ++ p) (IsShown (trees.One at unary.Not a))
shown_flip at a p reads = word_then Any IsClosed (codes "~") p words.Tilde (IsShown (trees.One at unary.Not a)) tilde_reads (λ rest c. tt)
    (λ place. seen_as IsClosed p (IsShown a) (λ ts. IsShown (trees.One at unary.Not a) (token place words.Tilde ∷ ts)) reads (λ ts s. record {
      first = token place words.Tilde;
      more = ts;
      e = expr place (kinds.One unary.Not s.e);
      all = refl;
      is = λ l. grammar.Flip l place ts s.e (s.is 0);
      same = ap bare (tree_one place unary.Not s.e) ∙ ap (trees.One 0 unary.Not) s.same;
      signed = λ plain h. h;
    }))

-- a binary sign
shown_sign : (at : ℕ) (op : Operator) (sign : List ℕ) (a b : Tree) (p q : List ℕ) → Reads IsClosed sign (IsOne (words.Operator op)) → Reads IsClosed p (IsShown a) → Reads IsClosed q (IsShown b) → Reads Any (codes "(" ++ (p ++ ((32 ∷ sign) ++ ((32 ∷ q) ++ codes ")")))) (IsShown (trees.Two at (operation op) a b))
shown_sign at op sign a b p q reads left right =
    let t = trees.Two at (operation op) a b in
    word_then Any Any (codes "(") (p ++ ((32 ∷ sign) ++ ((32 ∷ q) ++ codes ")"))) words.Open (IsShown t) open_reads (λ rest any. tt)
    (λ opening. bind IsClosed Any p ((32 ∷ sign) ++ ((32 ∷ q) ++ codes ")")) (IsShown a) (λ ts. IsShown t (token opening words.Open ∷ ts)) left (λ rest any. closes_blank)
    (λ xs x. word_then IsClosed Any (32 ∷ sign) ((32 ∷ q) ++ codes ")") (words.Operator op) (λ ts. IsShown t (token opening words.Open ∷ (xs ++ ts))) (blank_word IsClosed sign (words.Operator op) reads) (λ rest any. closes_blank)
    (λ place. bind IsClosed Any (32 ∷ q) (codes ")") (IsShown b) (λ ts. IsShown t (token opening words.Open ∷ (xs ++ token place (words.Operator op) ∷ ts))) (spaced b q right) (λ rest any. closes_close)
    (λ ys y. last Any (codes ")") words.Close (λ ts. IsShown t (token opening words.Open ∷ (xs ++ token place (words.Operator op) ∷ (ys ++ ts)))) close_reads (λ closing.
    let e = expr place (kinds.Two (operation op) x.e y.e) in
    record {
      first = token opening words.Open;
      more = xs ++ token place (words.Operator op) ∷ (ys ++ token closing words.Close ∷ []);
      e = e;
      all = refl;
      is = λ l. subst (λ ts. IsExpr l (token opening words.Open ∷ ts) e) (append_assoc xs (token place (words.Operator op) ∷ ys) (token closing words.Close ∷ []))
          (grammar.Brackets l opening closing (xs ++ token place (words.Operator op) ∷ ys) e (grammar.Two loosest place op xs ys x.e y.e (most op) (x.is (left_level op)) (y.is (right_level op))));
      same = ap bare (tree_two place (operation op) x.e y.e) ∙ (λ k. trees.Two 0 (operation op) (x.same k) (y.same k));
      signed = λ plain h. h;
    })))))
  where
    most : (op : Operator) → level op ≤ loosest
    most operators.Times = omega arith
    most operators.Plus = omega arith
    most operators.Minus = omega arith
    most operators.ShiftLeft = omega arith
    most operators.ShiftRight = omega arith
    most operators.And = omega arith
    most operators.Xor = omega arith
    most operators.Or = omega arith
    most _ = omega arith

-- what a call of operands alone makes
abbrev Makes : Callee → Earlier → Expr → Tree → Type 0
Makes callee before e t = (kind : ExprKind) × (call_of callee before e ≡ Some kind) × ((place : ℕ) → bare (tree_of (expr place kind)) ≡ bare t)

shown_one : (callee : Callee) (t a : Tree) (function p : List ℕ) → Reads IsClosed function (IsOne (words.Call callee)) → Reads IsClosed p (IsShown a) → ((e : Expr) → bare (tree_of e) ≡ bare a → Makes callee earlier.Nothing e t) → ¬ IsLiteral t → Reads Any (function ++ (codes "(" ++ (p ++ codes ")"))) (IsShown t)
shown_one callee t a function p word reads makes signed =
    word_then IsClosed Any function (codes "(" ++ (p ++ codes ")")) (words.Call callee) (IsShown t) word (λ rest any. closes_open)
    (λ at. word_then Any Any (codes "(") (p ++ codes ")") words.Open (λ ts. IsShown t (token at (words.Call callee) ∷ ts)) open_reads (λ rest any. tt)
    (λ opening. bind IsClosed Any p (codes ")") (IsShown a) (λ ts. IsShown t (token at (words.Call callee) ∷ token opening words.Open ∷ ts)) reads (λ rest any. closes_close)
    (λ xs x. last Any (codes ")") words.Close (λ ts. IsShown t (token at (words.Call callee) ∷ token opening words.Open ∷ (xs ++ ts))) close_reads (λ closing.
    let (kind, is, same) = makes x.e x.same in
    record {
      first = token at (words.Call callee);
      more = token opening words.Open ∷ (xs ++ token closing words.Close ∷ []);
      e = expr at kind;
      all = refl;
      is = λ l. grammar.Call l at closing callee earlier.Nothing (token at (words.Call callee) ∷ token opening words.Open ∷ []) xs x.e kind (Opened at opening callee) (x.is loosest) is;
      same = same at;
      signed = λ none h. h;
    }))))

shown_two : (callee : Callee) (t a b : Tree) (function p q : List ℕ) → Reads IsClosed function (IsOne (words.Call callee)) → Reads IsClosed p (IsShown a) → Reads IsClosed q (IsShown b) → 1 < operands callee → ((d e : Expr) → bare (tree_of d) ≡ bare a → bare (tree_of e) ≡ bare b → Makes callee (earlier.One d) e t) → Reads Any (function ++ (codes "(" ++ (p ++ (codes "," ++ ((32 ∷ q) ++ codes ")"))))) (IsShown t)
shown_two callee t a b function p q word left right more makes =
    word_then IsClosed Any function (codes "(" ++ (p ++ (codes "," ++ ((32 ∷ q) ++ codes ")")))) (words.Call callee) (IsShown t) word (λ rest any. closes_open)
    (λ at. word_then Any Any (codes "(") (p ++ (codes "," ++ ((32 ∷ q) ++ codes ")"))) words.Open (λ ts. IsShown t (token at (words.Call callee) ∷ ts)) open_reads (λ rest any. tt)
    (λ opening. bind IsClosed Any p (codes "," ++ ((32 ∷ q) ++ codes ")")) (IsShown a) (λ ts. IsShown t (token at (words.Call callee) ∷ token opening words.Open ∷ ts)) left (λ rest any. closes_comma)
    (λ xs x. word_then Any Any (codes ",") ((32 ∷ q) ++ codes ")") words.Comma (λ ts. IsShown t (token at (words.Call callee) ∷ token opening words.Open ∷ (xs ++ ts))) comma_reads (λ rest any. tt)
    (λ comma. bind IsClosed Any (32 ∷ q) (codes ")") (IsShown b) (λ ts. IsShown t (token at (words.Call callee) ∷ token opening words.Open ∷ (xs ++ token comma words.Comma ∷ ts))) (spaced b q right) (λ rest any. closes_close)
    (λ ys y. last Any (codes ")") words.Close (λ ts. IsShown t (token at (words.Call callee) ∷ token opening words.Open ∷ (xs ++ token comma words.Comma ∷ (ys ++ ts)))) close_reads (λ closing.
    let (kind, is, same) = makes x.e y.e x.same y.same in
    let begun : IsBegun at callee (earlier.One x.e) (token at (words.Call callee) ∷ token opening words.Open ∷ (xs ++ token comma words.Comma ∷ [])) = Argued at comma callee earlier.Nothing (token at (words.Call callee) ∷ token opening words.Open ∷ []) xs x.e (Opened at opening callee) more (x.is loosest) in
    record {
      first = token at (words.Call callee);
      more = token opening words.Open ∷ (xs ++ token comma words.Comma ∷ (ys ++ token closing words.Close ∷ []));
      e = expr at kind;
      all = refl;
      is = λ l. subst (λ ts. IsExpr l (token at (words.Call callee) ∷ token opening words.Open ∷ ts) (expr at kind)) (append_assoc xs (token comma words.Comma ∷ []) (ys ++ token closing words.Close ∷ []))
          (grammar.Call l at closing callee (earlier.One x.e) (token at (words.Call callee) ∷ token opening words.Open ∷ (xs ++ token comma words.Comma ∷ [])) ys y.e kind begun (y.is loosest) is);
      same = same at;
      signed = λ none h. h;
    }))))))

shown_select : (at : ℕ) (c a b : Tree) (o p q : List ℕ) → Reads IsClosed o (IsShown c) → Reads IsClosed p (IsShown a) → Reads IsClosed q (IsShown b) → Reads Any (codes "select" ++ (codes "(" ++ (o ++ (codes "," ++ ((32 ∷ p) ++ (codes "," ++ ((32 ∷ q) ++ codes ")"))))))) (IsShown (trees.Select at c a b))
shown_select place c a b o p q first left right =
    let t = trees.Select place c a b in
    let call = words.Call callees.Select in
    word_then IsClosed Any (codes "select") (codes "(" ++ (o ++ (codes "," ++ ((32 ∷ p) ++ (codes "," ++ ((32 ∷ q) ++ codes ")")))))) call (IsShown t) (name_reads (codes "select") call (refl, refl) refl) (λ rest any. closes_open)
    (λ at. word_then Any Any (codes "(") (o ++ (codes "," ++ ((32 ∷ p) ++ (codes "," ++ ((32 ∷ q) ++ codes ")"))))) words.Open (λ ts. IsShown t (token at call ∷ ts)) open_reads (λ rest any. tt)
    (λ opening. bind IsClosed Any o (codes "," ++ ((32 ∷ p) ++ (codes "," ++ ((32 ∷ q) ++ codes ")")))) (IsShown c) (λ ts. IsShown t (token at call ∷ token opening words.Open ∷ ts)) first (λ rest any. closes_comma)
    (λ ws w. word_then Any Any (codes ",") ((32 ∷ p) ++ (codes "," ++ ((32 ∷ q) ++ codes ")"))) words.Comma (λ ts. IsShown t (token at call ∷ token opening words.Open ∷ (ws ++ ts))) comma_reads (λ rest any. tt)
    (λ one. bind IsClosed Any (32 ∷ p) (codes "," ++ ((32 ∷ q) ++ codes ")")) (IsShown a) (λ ts. IsShown t (token at call ∷ token opening words.Open ∷ (ws ++ token one words.Comma ∷ ts))) (spaced a p left) (λ rest any. closes_comma)
    (λ xs x. word_then Any Any (codes ",") ((32 ∷ q) ++ codes ")") words.Comma (λ ts. IsShown t (token at call ∷ token opening words.Open ∷ (ws ++ token one words.Comma ∷ (xs ++ ts)))) comma_reads (λ rest any. tt)
    (λ two. bind IsClosed Any (32 ∷ q) (codes ")") (IsShown b) (λ ts. IsShown t (token at call ∷ token opening words.Open ∷ (ws ++ token one words.Comma ∷ (xs ++ token two words.Comma ∷ ts)))) (spaced b q right) (λ rest any. closes_close)
    (λ ys y. last Any (codes ")") words.Close (λ ts. IsShown t (token at call ∷ token opening words.Open ∷ (ws ++ token one words.Comma ∷ (xs ++ token two words.Comma ∷ (ys ++ ts))))) close_reads (λ closing.
    let end = token closing words.Close ∷ [] in
    let head = token at call ∷ token opening words.Open ∷ [] in
    let behind_one : IsBegun at callees.Select (earlier.One w.e) (head ++ (ws ++ token one words.Comma ∷ [])) = Argued at one callees.Select earlier.Nothing head ws w.e (Opened at opening callees.Select) (omega arith) (w.is loosest) in
    let behind_two : IsBegun at callees.Select (earlier.Two w.e x.e) ((head ++ (ws ++ token one words.Comma ∷ [])) ++ (xs ++ token two words.Comma ∷ [])) = Argued at two callees.Select (earlier.One w.e) (head ++ (ws ++ token one words.Comma ∷ [])) xs x.e behind_one (omega arith) (x.is loosest) in
    let e = expr at (kinds.Select w.e x.e y.e) in
    record {
      first = token at call;
      more = token opening words.Open ∷ (ws ++ token one words.Comma ∷ (xs ++ token two words.Comma ∷ (ys ++ end)));
      e = e;
      all = refl;
      is = λ l. subst (λ ts. IsExpr l (token at call ∷ token opening words.Open ∷ ts) e) (regroup ws xs ys end one two)
          (grammar.Call l at closing callees.Select (earlier.Two w.e x.e) ((head ++ (ws ++ token one words.Comma ∷ [])) ++ (xs ++ token two words.Comma ∷ [])) ys y.e (kinds.Select w.e x.e y.e) behind_two (y.is loosest) refl);
      same = ap bare (tree_select at w.e x.e y.e) ∙ (λ k. trees.Select 0 (w.same k) (x.same k) (y.same k));
      signed = λ none h. h;
    }))))))))
  where
    regroup : (ws xs ys end : List Token) (one two : ℕ) → ((ws ++ token one words.Comma ∷ []) ++ (xs ++ token two words.Comma ∷ [])) ++ (ys ++ end) ≡ ws ++ token one words.Comma ∷ (xs ++ token two words.Comma ∷ (ys ++ end))
    regroup ws xs ys end one two =
        append_assoc (ws ++ token one words.Comma ∷ []) (xs ++ token two words.Comma ∷ []) (ys ++ end)
        ∙ append_assoc ws (token one words.Comma ∷ []) ((xs ++ token two words.Comma ∷ []) ++ (ys ++ end))
        ∙ ap (λ ts. ws ++ token one words.Comma ∷ ts) (append_assoc xs (token two words.Comma ∷ []) (ys ++ end))

-- ---- numbers among a call's arguments

abbrev MayBe : Bool → ℤ → Type 0
MayBe true n = IsSigned n
MayBe false n = limits.IsNumber n

abbrev AllMayBe : Bool → List ℤ → Type 0
AllMayBe sign [] = Unit {0}
AllMayBe sign (n ∷ ns) = MayBe sign n × AllMayBe sign ns

abbrev values_of : List Number → List ℤ
values_of [] = []
values_of (v ∷ vs) = v.value ∷ values_of vs

record IsArgument (sign : Bool) (n : ℤ) (ts : List Token) : Type 0 where
  pub first : Token
  pub more : List Token
  pub all : ts ≡ first ∷ more
  pub value : Number
  pub is : IsNumberArgument sign ts value
  pub same : value.value ≡ n

in_range : (sign : Bool) (n : ℕ) → MayBe sign (pos n) → n ≤ number_limit
in_range true n s = omega (arith, ints, s.greatest)
in_range false n s = omega (arith, ints, s.greatest)

plain_argument : (sign : Bool) (n : ℕ) → n ≤ number_limit → Reads IsClosed (decimal n) (IsArgument sign (pos n))
plain_argument sign n le = last IsClosed (decimal n) (words.Number n) (IsArgument sign (pos n)) (number_reads n le) (λ at. record {
  first = token at (words.Number n);
  more = [];
  all = refl;
  value = record { at = at; value = pos n };
  is = Plain sign at n;
  same = refl;
})

argument_reads : (sign : Bool) (n : ℤ) → MayBe sign n → Reads IsClosed (signed_decimal n) (IsArgument sign n)
argument_reads sign (pos n) s = plain_argument sign n (in_range sign n s)
argument_reads true (negsuc n) s = word_then Any IsClosed (codes "-") (decimal (suc n)) minus (IsArgument true (negsuc n)) minus_reads (λ rest c. tt)
    (λ at. last IsClosed (decimal (suc n)) (words.Number (suc n)) (λ ts. IsArgument true (negsuc n) (token at minus ∷ ts)) (number_reads (suc n) (omega (arith, ints, s.least))) (λ place. record {
      first = token at minus;
      more = token place (words.Number (suc n)) ∷ [];
      all = refl;
      value = record { at = at; value = negsuc n };
      is = Signed at place (suc n);
      same = refl;
    }))
argument_reads false (negsuc n) s = absurd (omega (arith, ints, s.least))

spaced_argument : (sign : Bool) (n : ℤ) → MayBe sign n → Reads IsClosed (32 ∷ signed_decimal n) (IsArgument sign n)
spaced_argument sign n s = blank IsClosed (signed_decimal n) (IsArgument sign n) (seen_as IsClosed (signed_decimal n) (IsArgument sign n) (AreSome (IsArgument sign n)) (argument_reads sign n s) (λ ts a. (a.first, a.more, a.all, a)))

-- a number more at the front
numbers_cons : (sign : Bool) (own begun : List Token) (values : List Number) (value : Number) (comma : ℕ) → IsNumberArgument sign own value → AreNumbers sign begun values → AreNumbers sign (own ++ token comma words.Comma ∷ begun) (value ∷ values)
numbers_cons sign own _ _ value comma is (grammar.Nothing _) = grammar.More sign comma [] own [] value (grammar.Nothing sign) is
numbers_cons sign own _ _ value comma is (grammar.More _ next before last values v are argument) =
    subst (λ ts. AreNumbers sign ts (value ∷ (values ++ v ∷ []))) (append_assoc own (token comma words.Comma ∷ before) (last ++ token next words.Comma ∷ []))
    (grammar.More sign next (own ++ token comma words.Comma ∷ before) last (value ∷ values) v (numbers_cons sign own before values value comma is are) argument)

record AreArguments (sign : Bool) (ns : List ℤ) (ts : List Token) : Type 0 where
  pub comma : ℕ
  pub begun : List Token
  pub own : List Token
  pub values : List Number
  pub value : Number
  pub all : ts ≡ token comma words.Comma ∷ (begun ++ own)
  pub are : AreNumbers sign begun values
  pub is : IsNumberArgument sign own value
  pub same : values_of (values ++ value ∷ []) ≡ ns

arguments_read : (sign : Bool) (n : ℤ) (ns : List ℤ) → MayBe sign n → AllMayBe sign ns → Reads IsClosed (codes "," ++ ((32 ∷ signed_decimal n) ++ numbers_text ns)) (AreArguments sign (n ∷ ns))
arguments_read sign n [] s all =
    word_then Any IsClosed (codes ",") ((32 ∷ signed_decimal n) ++ []) words.Comma (AreArguments sign (n ∷ [])) comma_reads (λ rest c. tt)
    (λ comma. bind IsClosed IsClosed (32 ∷ signed_decimal n) [] (IsArgument sign n) (λ ts. AreArguments sign (n ∷ []) (token comma words.Comma ∷ ts)) (spaced_argument sign n s) (λ rest c. c)
    (λ ts a. nothing_reads IsClosed (λ more. AreArguments sign (n ∷ []) (token comma words.Comma ∷ (ts ++ more))) (record {
      comma = comma;
      begun = [];
      own = ts;
      values = [];
      value = a.value;
      all = ap (λ xs. token comma words.Comma ∷ xs) (append-nil ts);
      are = grammar.Nothing sign;
      is = a.is;
      same = ap (λ v. v ∷ []) a.same;
    })))
arguments_read sign n (m ∷ ms) s all =
    word_then Any IsClosed (codes ",") ((32 ∷ signed_decimal n) ++ numbers_text (m ∷ ms)) words.Comma (AreArguments sign (n ∷ m ∷ ms)) comma_reads (λ rest c. tt)
    (λ comma. bind IsClosed IsClosed (32 ∷ signed_decimal n) (numbers_text (m ∷ ms)) (IsArgument sign n) (λ ts. AreArguments sign (n ∷ m ∷ ms) (token comma words.Comma ∷ ts)) (spaced_argument sign n s) (λ rest c. closes_comma)
    (λ ts a. seen_as IsClosed (numbers_text (m ∷ ms)) (AreArguments sign (m ∷ ms)) (λ more. AreArguments sign (n ∷ m ∷ ms) (token comma words.Comma ∷ (ts ++ more))) (arguments_read sign m ms all.0 all.1) (λ more r. record {
      comma = comma;
      begun = ts ++ token r.comma words.Comma ∷ r.begun;
      own = r.own;
      values = a.value ∷ r.values;
      value = r.value;
      all = ap (λ xs. token comma words.Comma ∷ (ts ++ xs)) r.all ∙ ap (λ xs. token comma words.Comma ∷ xs) (sym (append_assoc ts (token r.comma words.Comma ∷ r.begun) r.own));
      are = numbers_cons sign ts r.begun r.values a.value r.comma a.is r.are;
      is = r.is;
      same = λ k. a.same k ∷ r.same k;
    })))

-- what a call with numbers makes
abbrev Maps : Callee → List ℤ → Tree → Tree → Type 0
Maps callee ns a t = (e : Expr) (values : List Number) → values_of values ≡ ns → bare (tree_of e) ≡ bare a → (kind : ExprKind) × (map_of callee e values ≡ Some kind) × ((place : ℕ) → bare (tree_of (expr place kind)) ≡ bare t)

shown_map : (callee : Callee) (t a : Tree) (function p : List ℕ) (n : ℤ) (ns : List ℤ) → Reads IsClosed function (IsOne (words.Call callee)) → Reads IsClosed p (IsShown a) → MayBe (takes_sign callee) n → AllMayBe (takes_sign callee) ns → Maps callee (n ∷ ns) a t → Reads Any (function ++ (codes "(" ++ (p ++ (numbers_text (n ∷ ns) ++ codes ")")))) (IsShown t)
shown_map callee t a function p n ns word reads s all maps =
    word_then IsClosed Any function (codes "(" ++ (p ++ (numbers_text (n ∷ ns) ++ codes ")"))) (words.Call callee) (IsShown t) word (λ rest any. closes_open)
    (λ at. word_then Any Any (codes "(") (p ++ (numbers_text (n ∷ ns) ++ codes ")")) words.Open (λ ts. IsShown t (token at (words.Call callee) ∷ ts)) open_reads (λ rest any. tt)
    (λ opening. bind IsClosed Any p (numbers_text (n ∷ ns) ++ codes ")") (IsShown a) (λ ts. IsShown t (token at (words.Call callee) ∷ token opening words.Open ∷ ts)) reads (λ rest any. closes_comma)
    (λ xs x. bind IsClosed Any (numbers_text (n ∷ ns)) (codes ")") (AreArguments (takes_sign callee) (n ∷ ns)) (λ ts. IsShown t (token at (words.Call callee) ∷ token opening words.Open ∷ (xs ++ ts))) (arguments_read (takes_sign callee) n ns s all) (λ rest any. closes_close)
    (λ ys y. last Any (codes ")") words.Close (λ ts. IsShown t (token at (words.Call callee) ∷ token opening words.Open ∷ (xs ++ (ys ++ ts)))) close_reads (λ closing.
    let (kind, is, same) = maps x.e (y.values ++ y.value ∷ []) y.same x.same in
    let end = token closing words.Close ∷ [] in
    let tail : token y.comma words.Comma ∷ (y.begun ++ (y.own ++ end)) ≡ ys ++ end = ap (λ ts. token y.comma words.Comma ∷ ts) (sym (append_assoc y.begun y.own end)) ∙ ap (λ ts. ts ++ end) (sym y.all) in
    record {
      first = token at (words.Call callee);
      more = token opening words.Open ∷ (xs ++ (ys ++ end));
      e = expr at kind;
      all = refl;
      is = λ l. subst (λ ts. IsExpr l (token at (words.Call callee) ∷ token opening words.Open ∷ (xs ++ ts)) (expr at kind)) tail
          (grammar.Map l at opening y.comma closing callee xs y.begun y.own x.e y.values y.value kind (x.is loosest) y.are y.is is);
      same = same at;
      signed = λ none h. h;
    })))))

two_values : (vs : List Number) (x y : ℤ) → values_of vs ≡ x ∷ y ∷ [] → (p q : Number) × (vs ≡ p ∷ q ∷ []) × (p.value ≡ x) × (q.value ≡ y)
two_values [] x y e = absurd (cc)
two_values (p ∷ []) x y e = absurd (cc)
two_values (p ∷ q ∷ []) x y e = (p, q, refl, cc, cc)
two_values (p ∷ q ∷ r ∷ vs) x y e = absurd (cc)

three_values : (vs : List Number) (x y z : ℤ) → values_of vs ≡ x ∷ y ∷ z ∷ [] → (p q r : Number) × (vs ≡ p ∷ q ∷ r ∷ []) × (p.value ≡ x) × (q.value ≡ y) × (r.value ≡ z)
three_values [] x y z e = absurd (cc)
three_values (p ∷ vs) x y z e = let (q, r, is, second, third) = two_values vs y z cc in (p, q, r, ap (λ ts. p ∷ ts) is, cc, second, third)

six_values : (vs : List Number) (x y z u v w : ℤ) → values_of vs ≡ x ∷ y ∷ z ∷ u ∷ v ∷ w ∷ [] → (p q r o m n : Number) × (vs ≡ p ∷ q ∷ r ∷ o ∷ m ∷ n ∷ []) × (p.value ≡ x) × (q.value ≡ y) × (r.value ≡ z) × (o.value ≡ u) × (m.value ≡ v) × (n.value ≡ w)
six_values [] x y z u v w e = absurd (cc)
six_values (p ∷ []) x y z u v w e = absurd (cc)
six_values (p ∷ q ∷ []) x y z u v w e = absurd (cc)
six_values (p ∷ q ∷ r ∷ vs) x y z u v w e = let (o, m, n, is, fourth, fifth, sixth) = three_values vs u v w cc in (p, q, r, o, m, n, ap (λ ts. p ∷ q ∷ r ∷ ts) is, cc, cc, cc, fourth, fifth, sixth)

maps_shift : (at : ℕ) (a : Tree) (dr dc fill : ℤ) (fill_at : ℕ) → Maps callees.Shift (dr ∷ dc ∷ fill ∷ []) a (trees.Shift at a dr dc fill fill_at)
maps_shift at a dr dc fill fill_at e values is same =
    let (p, q, r, all, x, y, z) = three_values values dr dc fill is in
    (kinds.Shift e p.value q.value r.value r.at, ap (map_of callees.Shift e) all, λ place. ap bare (tree_shift place e p.value q.value r.value r.at) ∙ (λ k. trees.Shift 0 (same k) (x k) (y k) (z k) 0))

maps_rotate : (at : ℕ) (a : Tree) (dr dc : ℤ) → Maps callees.Rotate (dr ∷ dc ∷ []) a (trees.Rotate at a dr dc)
maps_rotate at a dr dc e values is same =
    let (p, q, all, x, y) = two_values values dr dc is in
    (kinds.Rotate e p.value q.value, ap (map_of callees.Rotate e) all, λ place. ap bare (tree_rotate place e p.value q.value) ∙ (λ k. trees.Rotate 0 (same k) (x k) (y k)))

maps_stretch : (at : ℕ) (a : Tree) (kr kc : ℤ) → Maps callees.Stretch (kr ∷ kc ∷ []) a (trees.Stretch at a kr kc)
maps_stretch at a kr kc e values is same =
    let (p, q, all, x, y) = two_values values kr kc is in
    (kinds.Stretch e p.value q.value, ap (map_of callees.Stretch e) all, λ place. ap bare (tree_stretch place e p.value q.value) ∙ (λ k. trees.Stretch 0 (same k) (x k) (y k)))

maps_section : (at : ℕ) (a : Tree) (r0 nr sr c0 nc sc : ℤ) → Maps callees.Section (r0 ∷ nr ∷ sr ∷ c0 ∷ nc ∷ sc ∷ []) a (trees.Section at a r0 nr sr c0 nc sc)
maps_section at a r0 nr sr c0 nc sc e values is same =
    let (p, q, r, o, m, n, all, x, y, z, u, v, w) = six_values values r0 nr sr c0 nc sc is in
    (kinds.Section e p.value q.value r.value o.value m.value n.value, ap (map_of callees.Section e) all, λ place. ap bare (tree_section place e p.value q.value r.value o.value m.value n.value) ∙ (λ k. trees.Section 0 (same k) (x k) (y k) (z k) (u k) (v k) (w k)))

-- ---- the words of functions

elem_reads : (elem : Elem) → Reads IsClosed (elem_word elem) (IsOne (words.Call (callees.Cast elem)))
elem_reads elems.U8 = name_reads (codes "u8") (words.Call (callees.Cast elems.U8)) (refl, refl) refl
elem_reads elems.I8 = name_reads (codes "i8") (words.Call (callees.Cast elems.I8)) (refl, refl) refl
elem_reads elems.U16 = name_reads (codes "u16") (words.Call (callees.Cast elems.U16)) (refl, refl) refl
elem_reads elems.I16 = name_reads (codes "i16") (words.Call (callees.Cast elems.I16)) (refl, refl) refl
elem_reads elems.U32 = name_reads (codes "u32") (words.Call (callees.Cast elems.U32)) (refl, refl) refl
elem_reads elems.I32 = name_reads (codes "i32") (words.Call (callees.Cast elems.I32)) (refl, refl) refl

row_fold_reads : (op : Reduction) → Reads IsClosed (row_fold_word op) (IsOne (words.Call (callees.RowFold op)))
row_fold_reads folds.Sum = name_reads (codes "rowsum") (words.Call (callees.RowFold folds.Sum)) (refl, refl) refl
row_fold_reads folds.Min = name_reads (codes "rowmin") (words.Call (callees.RowFold folds.Min)) (refl, refl) refl
row_fold_reads folds.Max = name_reads (codes "rowmax") (words.Call (callees.RowFold folds.Max)) (refl, refl) refl

fold_reads : (op : Reduction) → Reads IsClosed (fold_word op) (IsOne (words.Call (callees.Fold op)))
fold_reads folds.Sum = name_reads (codes "sum") (words.Call (callees.Fold folds.Sum)) (refl, refl) refl
fold_reads folds.Min = name_reads (codes "minval") (words.Call (callees.Fold folds.Min)) (refl, refl) refl
fold_reads folds.Max = name_reads (codes "maxval") (words.Call (callees.Fold folds.Max)) (refl, refl) refl

-- ---- each form of expression

shown_unary : (at : ℕ) (op : Op1) (a : Tree) → Reads IsClosed (expr_text a) (IsShown a) → Reads IsClosed (one_text op a (expr_text a)) (IsShown (trees.One at op a))
shown_unary at unary.Neg a reads = shown_minus at a reads
shown_unary at unary.Not a reads = shown_flip at a (expr_text a) reads
shown_unary at unary.Abs a reads = anywhere (codes "abs" ++ in_brackets (expr_text a)) (IsShown (trees.One at unary.Abs a))
    (shown_one callees.Abs (trees.One at unary.Abs a) a (codes "abs") (expr_text a) (name_reads (codes "abs") (words.Call callees.Abs) (refl, refl) refl) reads
    (λ e same. (kinds.One unary.Abs e, refl, λ place. ap bare (tree_one place unary.Abs e) ∙ ap (trees.One 0 unary.Abs) same)) (λ u. u))

makes_two : (callee : Callee) (op : Op2) (at : ℕ) (a b : Tree) → ((d e : Expr) → call_of callee (earlier.One d) e ≡ Some (kinds.Two op d e)) → (d e : Expr) → bare (tree_of d) ≡ bare a → bare (tree_of e) ≡ bare b → Makes callee (earlier.One d) e (trees.Two at op a b)
makes_two callee op at a b is d e x y = (kinds.Two op d e, is d e, λ place. ap bare (tree_two place op d e) ∙ (λ k. trees.Two 0 op (x k) (y k)))

shown_binary : (at : ℕ) (op : Op2) (a b : Tree) (p q : List ℕ) → Reads IsClosed p (IsShown a) → Reads IsClosed q (IsShown b) → Reads Any (two_text op p q) (IsShown (trees.Two at op a b))
shown_binary at binary.Mul a b p q left right = shown_sign at operators.Times (codes "*") a b p q (sign_reads 42 (words.Operator operators.Times) refl refl) left right
shown_binary at binary.Add a b p q left right = shown_sign at operators.Plus (codes "+") a b p q (sign_reads 43 (words.Operator operators.Plus) refl refl) left right
shown_binary at binary.Sub a b p q left right = shown_sign at operators.Minus (codes "-") a b p q (sign_reads 45 (words.Operator operators.Minus) refl refl) left right
shown_binary at binary.Shl a b p q left right = shown_sign at operators.ShiftLeft (codes "<<") a b p q (double_reads 60 60 (words.Operator operators.ShiftLeft) refl refl (λ e. absurd (omega arith)) refl) left right
shown_binary at binary.Shr a b p q left right = shown_sign at operators.ShiftRight (codes ">>") a b p q (double_reads 62 62 (words.Operator operators.ShiftRight) refl refl (λ e. absurd (omega arith)) refl) left right
shown_binary at binary.And a b p q left right = shown_sign at operators.And (codes "&") a b p q (sign_reads 38 (words.Operator operators.And) refl refl) left right
shown_binary at binary.Xor a b p q left right = shown_sign at operators.Xor (codes "^") a b p q (sign_reads 94 (words.Operator operators.Xor) refl refl) left right
shown_binary at binary.Or a b p q left right = shown_sign at operators.Or (codes "|") a b p q (sign_reads 124 (words.Operator operators.Or) refl refl) left right
shown_binary at binary.Eq a b p q left right = shown_sign at operators.Equal (codes "==") a b p q (double_reads 61 61 (words.Operator operators.Equal) refl refl (λ e. absurd (omega arith)) refl) left right
shown_binary at binary.Ne a b p q left right = shown_sign at operators.NotEqual (codes "!=") a b p q (double_reads 33 61 (words.Operator operators.NotEqual) refl refl (λ e. absurd (omega arith)) refl) left right
shown_binary at binary.Lt a b p q left right = shown_sign at operators.Less (codes "<") a b p q (sign_reads 60 (words.Operator operators.Less) refl refl) left right
shown_binary at binary.Le a b p q left right = shown_sign at operators.LessOrEqual (codes "<=") a b p q (double_reads 60 61 (words.Operator operators.LessOrEqual) refl refl (λ e. absurd (omega arith)) refl) left right
shown_binary at binary.Gt a b p q left right = shown_sign at operators.Greater (codes ">") a b p q (sign_reads 62 (words.Operator operators.Greater) refl refl) left right
shown_binary at binary.Ge a b p q left right = shown_sign at operators.GreaterOrEqual (codes ">=") a b p q (double_reads 62 61 (words.Operator operators.GreaterOrEqual) refl refl (λ e. absurd (omega arith)) refl) left right
shown_binary at binary.Min a b p q left right = shown_two callees.Min (trees.Two at binary.Min a b) a b (codes "min") p q (name_reads (codes "min") (words.Call callees.Min) (refl, refl) refl) left right (omega arith) (makes_two callees.Min binary.Min at a b (λ d e. refl))
shown_binary at binary.Max a b p q left right = shown_two callees.Max (trees.Two at binary.Max a b) a b (codes "max") p q (name_reads (codes "max") (words.Call callees.Max) (refl, refl) refl) left right (omega arith) (makes_two callees.Max binary.Max at a b (λ d e. refl))
shown_binary at binary.SatAdd a b p q left right = shown_two callees.SatAdd (trees.Two at binary.SatAdd a b) a b (codes "sadd") p q (name_reads (codes "sadd") (words.Call callees.SatAdd) (refl, refl) refl) left right (omega arith) (makes_two callees.SatAdd binary.SatAdd at a b (λ d e. refl))
shown_binary at binary.SatSub a b p q left right = shown_two callees.SatSub (trees.Two at binary.SatSub a b) a b (codes "ssub") p q (name_reads (codes "ssub") (words.Call callees.SatSub) (refl, refl) refl) left right (omega arith) (makes_two callees.SatSub binary.SatSub at a b (λ d e. refl))

shown : (t : Tree) → IsWritable t → Reads IsClosed (expr_text t) (IsShown t)
shown (trees.Name at name) w = shown_name at name w
shown (trees.Literal at n) w = shown_literal at n w
shown (trees.One at op a) w = shown_unary at op a (shown a w)
shown (trees.Two at op a b) w = anywhere (two_text op (expr_text a) (expr_text b)) (IsShown (trees.Two at op a b)) (shown_binary at op a b (expr_text a) (expr_text b) (shown a w.0) (shown b w.1))
shown (trees.Cast at elem a) w =
    let t = trees.Cast at elem a in
    anywhere (expr_text t) (IsShown t) (shown_one (callees.Cast elem) t a (elem_word elem) (expr_text a) (elem_reads elem) (shown a w)
    (λ e same. (kinds.Cast elem e, refl, λ place. ap bare (tree_cast place elem e) ∙ ap (trees.Cast 0 elem) same)) (λ u. u))
shown (trees.Select at c a b) w =
    let t = trees.Select at c a b in
    anywhere (expr_text t) (IsShown t) (shown_select at c a b (expr_text c) (expr_text a) (expr_text b) (shown c w.0) (shown a w.1) (shown b w.2))
shown (trees.Shift at a dr dc fill fill_at) w =
    let t = trees.Shift at a dr dc fill fill_at in
    anywhere (expr_text t) (IsShown t) (shown_map callees.Shift t a (codes "shift") (expr_text a) dr (dc ∷ fill ∷ []) (name_reads (codes "shift") (words.Call callees.Shift) (refl, refl) refl) (shown a w.0) w.1 (w.2, (w.3, tt)) (maps_shift at a dr dc fill fill_at))
shown (trees.Rotate at a dr dc) w =
    let t = trees.Rotate at a dr dc in
    anywhere (expr_text t) (IsShown t) (shown_map callees.Rotate t a (codes "rotate") (expr_text a) dr (dc ∷ []) (name_reads (codes "rotate") (words.Call callees.Rotate) (refl, refl) refl) (shown a w.0) w.1 (w.2, tt) (maps_rotate at a dr dc))
shown (trees.Section at a r0 nr sr c0 nc sc) w =
    let t = trees.Section at a r0 nr sr c0 nc sc in
    anywhere (expr_text t) (IsShown t) (shown_map callees.Section t a (codes "section") (expr_text a) r0 (nr ∷ sr ∷ c0 ∷ nc ∷ sc ∷ []) (name_reads (codes "section") (words.Call callees.Section) (refl, refl) refl) (shown a w.0) w.1 (w.2, (w.3, (w.4, (w.5, (w.6, tt))))) (maps_section at a r0 nr sr c0 nc sc))
shown (trees.Stretch at a kr kc) w =
    let t = trees.Stretch at a kr kc in
    anywhere (expr_text t) (IsShown t) (shown_map callees.Stretch t a (codes "stretch") (expr_text a) kr (kc ∷ []) (name_reads (codes "stretch") (words.Call callees.Stretch) (refl, refl) refl) (shown a w.0) w.1 (w.2, tt) (maps_stretch at a kr kc))
shown (trees.Transpose at a) w =
    let t = trees.Transpose at a in
    anywhere (expr_text t) (IsShown t) (shown_one callees.Transpose t a (codes "transpose") (expr_text a) (name_reads (codes "transpose") (words.Call callees.Transpose) (refl, refl) refl) (shown a w)
    (λ e same. (kinds.Transpose e, refl, λ place. ap bare (tree_transpose place e) ∙ ap (trees.Transpose 0) same)) (λ u. u))
shown (trees.RowFold at op a) w =
    let t = trees.RowFold at op a in
    anywhere (expr_text t) (IsShown t) (shown_one (callees.RowFold op) t a (row_fold_word op) (expr_text a) (row_fold_reads op) (shown a w)
    (λ e same. (kinds.RowFold op e, refl, λ place. ap bare (tree_row_fold place op e) ∙ ap (trees.RowFold 0 op) same)) (λ u. u))
shown (trees.Fold at op a) w =
    let t = trees.Fold at op a in
    anywhere (expr_text t) (IsShown t) (shown_one (callees.Fold op) t a (fold_word op) (expr_text a) (fold_reads op) (shown a w)
    (λ e same. (kinds.Fold op e, refl, λ place. ap bare (tree_fold place op e) ∙ ap (trees.Fold 0 op) same)) (λ u. u))

-- ---- statements

-- the tokens are one statement more, which is the given one apart from its places
record IsLine (stmt : Stmt) (ts : List Token) : Type 0 where
  pub read : Stmt
  pub same : SameApart read stmt
  pub adds : (before : List Token) (p : List Stmt) → AreStatements before p → AreStatements (before ++ ts) (p ++ read ∷ [])

-- a line from its name on, behind its first word
shown_bound : (binding : Binding) (word : List ℕ) (name : List ℕ) (t : Tree) (stmt : Stmt) → Reads IsClosed word (IsOne (words.Bind binding)) → IsFreeName name → IsWritable t → ((at : ℕ) (e : Expr) → bare (tree_of e) ≡ bare t → SameApart (bound binding name at e) stmt) → Reads Any (word ++ ((32 ∷ name) ++ (codes " =" ++ ((32 ∷ expr_text t) ++ (codes ";" ++ codes "\n"))))) (IsLine stmt)
shown_bound binding word name t stmt reads free writable same =
    let value = 32 ∷ expr_text t in
    let end = codes ";" ++ codes "\n" in
    word_then IsClosed Any word ((32 ∷ name) ++ (codes " =" ++ (value ++ end))) (words.Bind binding) (IsLine stmt) reads (λ rest any. closes_blank)
    (λ word_at. word_then IsClosed Any (32 ∷ name) (codes " =" ++ (value ++ end)) (words.Name name) (λ ts. IsLine stmt (token word_at (words.Bind binding) ∷ ts)) (blank_word IsClosed name (words.Name name) (free_reads name free)) (λ rest any. closes_blank)
    (λ at. word_then IsClosed Any (codes " =") (value ++ end) words.Assign (λ ts. IsLine stmt (token word_at (words.Bind binding) ∷ token at (words.Name name) ∷ ts)) (blank_word IsClosed (codes "=") words.Assign (sign_reads 61 words.Assign refl refl)) (λ rest any. closes_blank)
    (λ sign. bind IsClosed Any value end (IsShown t) (λ ts. IsLine stmt (token word_at (words.Bind binding) ∷ token at (words.Name name) ∷ token sign words.Assign ∷ ts)) (spaced t (expr_text t) (shown t writable)) (λ rest any. closes_semicolon)
    (λ xs x. word_then Any Any (codes ";") (codes "\n") words.Semicolon (λ ts. IsLine stmt (token word_at (words.Bind binding) ∷ token at (words.Name name) ∷ token sign words.Assign ∷ (xs ++ ts))) semicolon_reads (λ rest any. tt)
    (λ last_at. seen_as Any (codes "\n") (λ ts. ts ≡ []) (λ ts. IsLine stmt (token word_at (words.Bind binding) ∷ token at (words.Name name) ∷ token sign words.Assign ∷ (xs ++ token last_at words.Semicolon ∷ ts))) line_reads
    (λ ts none. subst (λ more. IsLine stmt (token word_at (words.Bind binding) ∷ token at (words.Name name) ∷ token sign words.Assign ∷ (xs ++ token last_at words.Semicolon ∷ more))) (sym none) (record {
      read = bound binding name at x.e;
      same = same at x.e x.same;
      adds = λ before p d. grammar.Bound word_at at sign last_at binding name xs before x.e p d (x.is loosest);
    })))))))

shown_input : (name : List ℕ) (at shape_at : ℕ) (elem : Elem) (rows cols : ℕ) → IsFreeName name → rows ≤ number_limit → cols ≤ number_limit → Reads Any (line_of (stmts.Input name at elem (pos rows) (pos cols) shape_at)) (IsLine (stmts.Input name at elem (pos rows) (pos cols) shape_at))
shown_input name place shape_place elem rows cols free few_rows few_cols =
    let stmt = stmts.Input name place elem (pos rows) (pos cols) shape_place in
    let cast = words.Call (callees.Cast elem) in
    let end = codes "]" ++ (codes ";" ++ codes "\n") in
    let behind_comma = decimal cols ++ end in
    let behind_rows = codes "," ++ behind_comma in
    let behind_open = decimal rows ++ behind_rows in
    let behind_elem = codes "[" ++ behind_open in
    word_then IsClosed Any (codes "input") ((32 ∷ name) ++ ((32 ∷ elem_word elem) ++ behind_elem)) words.Input (IsLine stmt) (name_reads (codes "input") words.Input (refl, refl) refl) (λ rest any. closes_blank)
    (λ word_at. word_then IsClosed Any (32 ∷ name) ((32 ∷ elem_word elem) ++ behind_elem) (words.Name name) (λ ts. IsLine stmt (token word_at words.Input ∷ ts)) (blank_word IsClosed name (words.Name name) (free_reads name free)) (λ rest any. closes_blank)
    (λ at. word_then IsClosed Any (32 ∷ elem_word elem) behind_elem cast (λ ts. IsLine stmt (token word_at words.Input ∷ token at (words.Name name) ∷ ts)) (blank_word IsClosed (elem_word elem) cast (elem_reads elem)) (λ rest any. closes_square)
    (λ type_at. word_then Any Any (codes "[") behind_open words.OpenSquare (λ ts. IsLine stmt (token word_at words.Input ∷ token at (words.Name name) ∷ token type_at cast ∷ ts)) square_reads (λ rest any. tt)
    (λ shape_at. word_then IsClosed Any (decimal rows) behind_rows (words.Number rows) (λ ts. IsLine stmt (token word_at words.Input ∷ token at (words.Name name) ∷ token type_at cast ∷ token shape_at words.OpenSquare ∷ ts)) (number_reads rows few_rows) (λ rest any. closes_comma)
    (λ rows_at. word_then Any Any (codes ",") behind_comma words.Comma (λ ts. IsLine stmt (token word_at words.Input ∷ token at (words.Name name) ∷ token type_at cast ∷ token shape_at words.OpenSquare ∷ token rows_at (words.Number rows) ∷ ts)) comma_reads (λ rest any. tt)
    (λ comma. word_then IsClosed Any (decimal cols) end (words.Number cols) (λ ts. IsLine stmt (token word_at words.Input ∷ token at (words.Name name) ∷ token type_at cast ∷ token shape_at words.OpenSquare ∷ token rows_at (words.Number rows) ∷ token comma words.Comma ∷ ts)) (number_reads cols few_cols) (λ rest any. closes_end_square)
    (λ cols_at. word_then Any Any (codes "]") (codes ";" ++ codes "\n") words.CloseSquare (λ ts. IsLine stmt (token word_at words.Input ∷ token at (words.Name name) ∷ token type_at cast ∷ token shape_at words.OpenSquare ∷ token rows_at (words.Number rows) ∷ token comma words.Comma ∷ token cols_at (words.Number cols) ∷ ts)) end_square_reads (λ rest any. tt)
    (λ closing. word_then Any Any (codes ";") (codes "\n") words.Semicolon (λ ts. IsLine stmt (token word_at words.Input ∷ token at (words.Name name) ∷ token type_at cast ∷ token shape_at words.OpenSquare ∷ token rows_at (words.Number rows) ∷ token comma words.Comma ∷ token cols_at (words.Number cols) ∷ token closing words.CloseSquare ∷ ts)) semicolon_reads (λ rest any. tt)
    (λ last_at. seen_as Any (codes "\n") (λ ts. ts ≡ []) (λ ts. IsLine stmt (token word_at words.Input ∷ token at (words.Name name) ∷ token type_at cast ∷ token shape_at words.OpenSquare ∷ token rows_at (words.Number rows) ∷ token comma words.Comma ∷ token cols_at (words.Number cols) ∷ token closing words.CloseSquare ∷ token last_at words.Semicolon ∷ ts)) line_reads
    (λ ts none. subst (λ more. IsLine stmt (token word_at words.Input ∷ token at (words.Name name) ∷ token type_at cast ∷ token shape_at words.OpenSquare ∷ token rows_at (words.Number rows) ∷ token comma words.Comma ∷ token cols_at (words.Number cols) ∷ token closing words.CloseSquare ∷ token last_at words.Semicolon ∷ more)) (sym none) (record {
      read = stmts.Input name at elem (pos rows) (pos cols) shape_at;
      same = printed.Input name at place shape_at shape_place elem (pos rows) (pos cols);
      adds = λ before p d. grammar.Input word_at at type_at shape_at rows_at comma cols_at closing last_at rows cols name elem before p d;
    })))))))))))

line_reads_as : (stmt : Stmt) → KeepsStatement stmt → Reads Any (line_of stmt) (IsLine stmt)
line_reads_as (stmts.Input name at elem (pos rows) (pos cols) shape_at) k = shown_input name at shape_at elem rows cols k.0 (omega (arith, ints, k.1.greatest)) (omega (arith, ints, k.2.greatest))
line_reads_as (stmts.Input name at elem (negsuc rows) cols shape_at) k = absurd (omega (arith, ints, k.1.least))
line_reads_as (stmts.Input name at elem (pos rows) (negsuc cols) shape_at) k = absurd (omega (arith, ints, k.2.least))
line_reads_as (stmts.Let name at value) k = shown_bound bindings.Let (codes "let") name (tree_of value) (stmts.Let name at value) (name_reads (codes "let") (words.Bind bindings.Let) (refl, refl) refl) k.0 k.1.writable (λ place e same. printed.Let name place at e value same)
line_reads_as (stmts.Output name at value) k = shown_bound bindings.Output (codes "output") name (tree_of value) (stmts.Output name at value) (name_reads (codes "output") (words.Bind bindings.Output) (refl, refl) refl) k.0 k.1.writable (λ place e same. printed.Output name place at e value same)

record AreLines (all : List Stmt) (ts : List Token) : Type 0 where
  pub read : List Stmt
  pub same : AreSameApart read all
  pub adds : (before : List Token) (p : List Stmt) → AreStatements before p → AreStatements (before ++ ts) (p ++ read)

lines_read : (all : List Stmt) → All KeepsStatement all → Reads Any (lines_of all) (AreLines all)
lines_read [] each = nothing_reads Any (AreLines []) (record {
  read = [];
  same = printed.Nothing;
  adds = λ before p d. subst (λ ts. AreStatements ts (p ++ [])) (sym (append-nil before)) (subst (λ q. AreStatements before q) (sym (append-nil p)) d);
})
lines_read (stmt ∷ rest) each =
    bind Any Any (line_of stmt) (lines_of rest) (IsLine stmt) (AreLines (stmt ∷ rest)) (line_reads_as stmt (each 0 stmt (omega arith))) (λ more any. tt)
    (λ ts line. seen_as Any (lines_of rest) (AreLines rest) (λ more. AreLines (stmt ∷ rest) (ts ++ more)) (lines_read rest (λ i d lt. each (suc i) d (omega arith))) (λ more lines. record {
      read = line.read ∷ lines.read;
      same = printed.More line.read stmt lines.read rest line.same lines.same;
      adds = λ before p d. subst (λ xs. AreStatements xs (p ++ line.read ∷ lines.read)) (append_assoc before ts more)
          (subst (λ q. AreStatements ((before ++ ts) ++ more) q) (append_assoc p (line.read ∷ []) lines.read) (lines.adds (before ++ ts) (p ++ line.read ∷ []) (line.adds before p d)));
    }))

-- the law: a program's lines denote it, apart from its places
pub lines_denote : (program : Program) → KeepsLimits program → DenotesApart (lines_of program.stmts) program
lines_denote program keeps =
    let text = lines_of program.stmts in
    let (ts, lines, h) = lines_read program.stmts keeps.each [] [] tt in
    let end : TextToken = record { kind = token_kinds.End; start = length text; end = length text } in
    let next : NextIs text (length text) (Ok end) = (record { after = omega arith; in_text = omega arith; before = λ k le lt. absurd (omega arith); unskipped = λ lt. absurd (omega arith) }, inl (record { kind = refl; start = refl; end = refl })) in
    let none : 0 + length text ≡ length text = omega arith in
    let read : TokensTo language text 0 ts (length text) = subst (λ to. TokensTo language text 0 ts to) none (subst (λ x. TokensTo language x 0 ts (0 + length text)) (append-nil text) h) in
    record {
      read = record { stmts = lines.read };
      denotes = record { tokens = ts; end = end; is_end = refl; behind = record { from = length text; read = read; next_is = next; kept = refl }; statements = lines.adds [] [] grammar.Empty };
      same = lines.same;
    }
