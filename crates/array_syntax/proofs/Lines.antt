-- Texts that grow at their end.
use Rattle.std.proofs.Common.{◌≡◌, ℕ, ◌+◌, ◌<◌, List, [], ◌∷◌, ◌++◌, length, get_or, take, sym, ap, subst, ◌∙◌, ◌≤◌, arith, append_assoc, append-nil}
use Rattle.std.specs.Prelude.{ℤ, codes}
use Rattle.std.specs.Fmt.{signed_decimal}
use Rattle.std.specs.List.{All}
use Rattle.std.proofs.Math.Seq.{take-length}
use Rattle.std.proofs.lemmas.List.{take_more}
use Rattle.array_syntax.specs.declared.program.Stmt.{Stmt}
use Rattle.array_syntax.specs.declared.program.Program.{Program}
use Rattle.array_syntax.specs.Limits.{KeepsStatement, KeepsLimits}
use Rattle.array_syntax.specs.Printed.{numbers_text, line_of, lines_of, DenotesApart}
use Rattle.array_syntax.proofs.Shown.{lines_denote}

numbers_end : (ns : List ℤ) (n : ℤ) → numbers_text (ns ++ n ∷ []) ≡ numbers_text ns ++ (codes ", " ++ signed_decimal n)
numbers_end [] n = ap (λ t. codes ", " ++ t) (append-nil (signed_decimal n))
numbers_end (m ∷ ns) n =
    ap (λ t. codes ", " ++ (signed_decimal m ++ t)) (numbers_end ns n)
    ∙ ap (λ t. codes ", " ++ t) (sym (append_assoc (signed_decimal m) (numbers_text ns) (codes ", " ++ signed_decimal n)))

-- one number more
pub numbers_more : (ns : List ℤ) (i : ℕ) (d : ℤ) → i < length ns → numbers_text (take (i + 1) ns) ≡ numbers_text (take i ns) ++ (codes ", " ++ signed_decimal (get_or ns i d))
numbers_more ns i d lt = ap numbers_text (take_more ns i d lt) ∙ numbers_end (take i ns) (get_or ns i d)

lines_end : (stmts : List Stmt) (stmt : Stmt) → lines_of (stmts ++ stmt ∷ []) ≡ lines_of stmts ++ line_of stmt
lines_end [] stmt = append-nil (line_of stmt)
lines_end (first ∷ stmts) stmt = ap (λ t. line_of first ++ t) (lines_end stmts stmt) ∙ sym (append_assoc (line_of first) (lines_of stmts) (line_of stmt))

-- one line more
pub lines_more : (stmts : List Stmt) (i : ℕ) (d : Stmt) → i < length stmts → lines_of (take (i + 1) stmts) ≡ lines_of (take i stmts) ++ line_of (get_or stmts i d)
lines_more stmts i d lt = ap lines_of (take_more stmts i d lt) ∙ lines_end (take i stmts) (get_or stmts i d)

-- the text behind one number more
pub number_put : (old before mid after : List ℕ) (ns : List ℤ) (i : ℕ) (d : ℤ) → i < length ns → before ≡ old ++ numbers_text (take i ns) → mid ≡ before ++ codes ", " → after ≡ mid ++ signed_decimal (get_or ns i d) → after ≡ old ++ numbers_text (take (i + 1) ns)
number_put old before mid after ns i d lt p q r =
    r ∙ ap (λ t. t ++ signed_decimal (get_or ns i d)) (q ∙ ap (λ t. t ++ codes ", ") p ∙ append_assoc old (numbers_text (take i ns)) (codes ", "))
    ∙ append_assoc old (numbers_text (take i ns) ++ codes ", ") (signed_decimal (get_or ns i d))
    ∙ ap (λ t. old ++ t) (append_assoc (numbers_text (take i ns)) (codes ", ") (signed_decimal (get_or ns i d)) ∙ sym (numbers_more ns i d lt))

at_item : (stmts items : List Stmt) (i : ℕ) (x : Stmt) → items ≡ stmts → x ≡ get_or items i x → x ≡ get_or stmts i x
at_item stmts items i x same is = is ∙ ap (λ l. get_or l i x) same

-- the text behind one line more
pub line_put : (stmts items : List Stmt) (i : ℕ) (x : Stmt) (before after : List ℕ) → items ≡ stmts → i < length items → x ≡ get_or items i x → before ≡ lines_of (take i stmts) → after ≡ before ++ line_of x → after ≡ lines_of (take (i + 1) stmts)
line_put stmts items i x before after same lt is p q =
    let len = ap length same in
    q ∙ ap (λ t. t ++ line_of x) p ∙ ap (λ l. lines_of (take i stmts) ++ line_of l) (at_item stmts items i x same is) ∙ sym (lines_more stmts i x (omega arith))

pub kept_at : (stmts items : List Stmt) (i : ℕ) (x : Stmt) → items ≡ stmts → i < length items → x ≡ get_or items i x → All KeepsStatement stmts → KeepsStatement x
kept_at stmts items i x same lt is each = let len = ap length same in subst KeepsStatement (sym (at_item stmts items i x same is)) (each i x (omega arith))

-- what is printed behind all of them denotes the program
pub all_put : (program : Program) (items : List Stmt) (i : ℕ) (text : List ℕ) → KeepsLimits program → items ≡ program.stmts → i ≤ length items → length items ≤ i → text ≡ lines_of (take i program.stmts) → DenotesApart text program
all_put program items i text keeps same le ge is =
    let len = ap length same in
    let end : i ≡ length program.stmts = omega arith in
    subst (λ t. DenotesApart t program) (sym (is ∙ ap lines_of (ap (λ k. take k program.stmts) end ∙ take-length program.stmts))) (lines_denote program keeps)
