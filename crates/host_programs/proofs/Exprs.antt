-- The code of an expression puts its number into a register.
use Rattle.std.proofs.Common.{◌≡◌, ℕ, ◌+◌, ◌-◌, ◌*◌, ◌/◌, ◌^◌, ◌<◌, ◌≤◌, List, [], ◌++◌, refl, sym, ap, ◌∙◌, arith, Bool, true, false, cond, eqb, ltb}
use Rattle.std.specs.Prelude.{◌&&◌}
use Rattle.std.proofs.Math.Nat.{mod-lt, mod-eq_of_lt, add-mod-mod, mod-add-mod, add-mul-mod_self_right, div-le_self, div-mul-le_self, mod-eq-sub-div-mul}
use Rattle.std.proofs.lemmas.Nat.{mul-mod, div-add-mod'}
use Rattle.std.proofs.lemmas.Bool.{cond_both, cond-false, cond-true, and_parts, and_from, or_from, ltb-true, lt-ltb, ne_eqb}
use Rattle.venice_isa.specs.declared.issue.Issue.{Issue}
use Rattle.venice_isa.specs.declared.instr.Instr.{Instr}
use Rattle.venice_isa.specs.declared.instr.Instr.TheVariants.{Addi, Add, Sub, Mul, Div}
use Rattle.venice_isa.specs.Host.{with_number, sum_of, difference_of, product_of, quotient_of}
use Rattle.host_programs.specs.Contents.{RegisterContents, left_by, issues_by, AreWords}
use Rattle.host_programs.specs.Block.{Block, Empty, Do, Then, Unless, size, after, issues, steps, is_sound}
use Rattle.host_programs.specs.Expr.{Expr, Number, Variable, Offset, Sum, Difference, Product, Quotient, Remainder, IfLess, value, word, remainder_of, machine_value, Fits, is_below, unless_variable, register_of, put, bring, cost, bring_cost}
use Rattle.host_programs.specs.ExprLaws.{Puts, Agree, ExprsRun}
use Rattle.host_programs.proofs.Blocks.{with_same, with_other, keeps_others, words_kept}

-- ---- what an expression reads

pub below_more : (e : Expr) (d k : ℕ) → d ≤ k → is_below e d ≡ true → is_below e k ≡ true
below_more (Number n) d k le h = refl
below_more (Variable r) d k le h = lt-ltb r k (omega (arith, ltb-true r d h))
below_more (Offset a n) d k le h = below_more a d k le h
below_more (Sum a b) d k le h = let p = and_parts (is_below a d) (is_below b d) h in and_from _ _ (below_more a d k le p.0) (below_more b d k le p.1)
below_more (Difference a b) d k le h = let p = and_parts (is_below a d) (is_below b d) h in and_from _ _ (below_more a d k le p.0) (below_more b d k le p.1)
below_more (Product a b) d k le h = let p = and_parts (is_below a d) (is_below b d) h in and_from _ _ (below_more a d k le p.0) (below_more b d k le p.1)
below_more (Quotient a b) d k le h = let p = and_parts (is_below a d) (is_below b d) h in and_from _ _ (below_more a d k le p.0) (below_more b d k le p.1)
below_more (Remainder a b) d k le h = let p = and_parts (is_below a d) (is_below b d) h in and_from _ _ (below_more a d k le p.0) (below_more b d k le p.1)
below_more (IfLess a b x y) d k le h =
    let p = and_parts (is_below a d && is_below b d) (is_below x d && is_below y d) h in
    let q = and_parts (is_below a d) (is_below b d) p.0 in
    let s = and_parts (is_below x d) (is_below y d) p.1 in
    and_from _ _ (and_from _ _ (below_more a d k le q.0) (below_more b d k le q.1)) (and_from _ _ (below_more x d k le s.0) (below_more y d k le s.1))

pub value_same : (e : Expr) (d : ℕ) (f g : ℕ → ℕ) → Agree d f g → is_below e d ≡ true → machine_value e f ≡ machine_value e g
value_same (Number n) d f g same h = refl
value_same (Variable r) d f g same h = ap word (same.at r (ltb-true r d h))
value_same (Offset a n) d f g same h = ap (λ v. sum_of v (word n)) (value_same a d f g same h)
value_same (Sum a b) d f g same h = let p = and_parts (is_below a d) (is_below b d) h in let u = value_same a d f g same p.0 in let v = value_same b d f g same p.1 in cc
value_same (Difference a b) d f g same h = let p = and_parts (is_below a d) (is_below b d) h in let u = value_same a d f g same p.0 in let v = value_same b d f g same p.1 in cc
value_same (Product a b) d f g same h = let p = and_parts (is_below a d) (is_below b d) h in let u = value_same a d f g same p.0 in let v = value_same b d f g same p.1 in cc
value_same (Quotient a b) d f g same h = let p = and_parts (is_below a d) (is_below b d) h in let u = value_same a d f g same p.0 in let v = value_same b d f g same p.1 in cc
value_same (Remainder a b) d f g same h = let p = and_parts (is_below a d) (is_below b d) h in let u = value_same a d f g same p.0 in let v = value_same b d f g same p.1 in cc
value_same (IfLess a b x y) d f g same h =
    let p = and_parts (is_below a d && is_below b d) (is_below x d && is_below y d) h in
    let q = and_parts (is_below a d) (is_below b d) p.0 in
    let s = and_parts (is_below x d) (is_below y d) p.1 in
    let u = value_same a d f g same q.0 in
    let v = value_same b d f g same q.1 in
    let w = value_same x d f g same s.0 in
    let z = value_same y d f g same s.1 in
    cc

operand_same : (e : Expr) (k l : ℕ) → k ≡ l → unless_variable e 0 k ≡ unless_variable e 0 l
operand_same e k l same = ap (unless_variable e 0) same

pub cost_same : (e : Expr) (d : ℕ) (f g : ℕ → ℕ) → Agree d f g → is_below e d ≡ true → cost e f ≡ cost e g
cost_same (Number n) d f g same h = refl
cost_same (Variable r) d f g same h = refl
cost_same (Offset a n) d f g same h = ap (λ k. k + 1) (operand_same a _ _ (cost_same a d f g same h))
cost_same (Sum a b) d f g same h = let p = and_parts (is_below a d) (is_below b d) h in omega (arith, operand_same a _ _ (cost_same a d f g same p.0), operand_same b _ _ (cost_same b d f g same p.1))
cost_same (Difference a b) d f g same h = let p = and_parts (is_below a d) (is_below b d) h in omega (arith, operand_same a _ _ (cost_same a d f g same p.0), operand_same b _ _ (cost_same b d f g same p.1))
cost_same (Product a b) d f g same h = let p = and_parts (is_below a d) (is_below b d) h in omega (arith, operand_same a _ _ (cost_same a d f g same p.0), operand_same b _ _ (cost_same b d f g same p.1))
cost_same (Quotient a b) d f g same h = let p = and_parts (is_below a d) (is_below b d) h in omega (arith, operand_same a _ _ (cost_same a d f g same p.0), operand_same b _ _ (cost_same b d f g same p.1))
cost_same (Remainder a b) d f g same h = let p = and_parts (is_below a d) (is_below b d) h in omega (arith, operand_same a _ _ (cost_same a d f g same p.0), operand_same b _ _ (cost_same b d f g same p.1))
cost_same (IfLess a b x y) d f g same h =
    let p = and_parts (is_below a d && is_below b d) (is_below x d && is_below y d) h in
    let q = and_parts (is_below a d) (is_below b d) p.0 in
    let s = and_parts (is_below x d) (is_below y d) p.1 in
    let u = operand_same a _ _ (cost_same a d f g same q.0) in
    let v = operand_same b _ _ (cost_same b d f g same q.1) in
    let w = cost_same x d f g same s.0 in
    let z = cost_same y d f g same s.1 in
    let k = value_same a d f g same q.0 in
    let l = value_same b d f g same q.1 in
    cc

pub bring_cost_same : (e : Expr) (d : ℕ) (f g : ℕ → ℕ) → Agree d f g → is_below e d ≡ true → bring_cost e f ≡ bring_cost e g
bring_cost_same e d f g same h = operand_same e _ _ (cost_same e d f g same h)

-- ---- operands

pub operand_low : (e : Expr) (d k : ℕ) → d ≤ k → is_below e d ≡ true → register_of e k ≤ k
operand_low (Variable r) d k le h = omega (arith, ltb-true r d h, le)
operand_low _ d k le h = omega arith

pub operand_sound : (e : Expr) (x : Block) → is_sound x ≡ true → is_sound (unless_variable e Empty x) ≡ true
operand_sound (Variable r) x sound = refl
operand_sound _ x sound = sound

operand_cheap : (e : Expr) (k : ℕ) (x : Block) → k ≤ size x → unless_variable e 0 k ≤ size (unless_variable e Empty x)
operand_cheap (Variable r) k x le = omega arith
operand_cheap _ k x le = le

word_less : (n : ℕ) → ltb (word n) (2 ^ 32) ≡ true
word_less n = lt-ltb (word n) (2 ^ 32) (mod-lt n {m = 2 ^ 32} (omega arith))

pub put_sound : (e : Expr) (d : ℕ) → is_sound (put e d) ≡ true
put_sound (Number n) d = word_less n
put_sound (Variable r) d = refl
put_sound (Offset a n) d = and_from _ _ (operand_sound a _ (put_sound a d)) refl
put_sound (Sum a b) d = and_from _ _ (operand_sound a _ (put_sound a d)) (and_from _ _ (operand_sound b _ (put_sound b (d + 1))) refl)
put_sound (Difference a b) d = and_from _ _ (operand_sound a _ (put_sound a d)) (and_from _ _ (operand_sound b _ (put_sound b (d + 1))) refl)
put_sound (Product a b) d = and_from _ _ (operand_sound a _ (put_sound a d)) (and_from _ _ (operand_sound b _ (put_sound b (d + 1))) refl)
put_sound (Quotient a b) d = and_from _ _ (operand_sound a _ (put_sound a d)) (and_from _ _ (operand_sound b _ (put_sound b (d + 1))) refl)
put_sound (Remainder a b) d = and_from _ _ (operand_sound a _ (put_sound a d)) (and_from _ _ (operand_sound b _ (put_sound b (d + 1))) refl)
put_sound (IfLess a b x y) d = and_from _ _ (put_sound x d) (and_from _ _ (operand_sound a _ (put_sound a (d + 1))) (and_from _ _ (operand_sound b _ (put_sound b (d + 2))) (put_sound y d)))

pub bring_sound : (e : Expr) (d : ℕ) → is_sound (bring e d) ≡ true
bring_sound e d = operand_sound e (put e d) (put_sound e d)

pub cheaper : (e : Expr) (d : ℕ) (f : ℕ → ℕ) → cost e f ≤ size (put e d)
cheaper (Number n) d f = omega arith
cheaper (Variable r) d f = omega arith
cheaper (Offset a n) d f = omega (arith, operand_cheap a _ _ (cheaper a d f))
cheaper (Sum a b) d f = omega (arith, operand_cheap a _ _ (cheaper a d f), operand_cheap b _ _ (cheaper b (d + 1) f))
cheaper (Difference a b) d f = omega (arith, operand_cheap a _ _ (cheaper a d f), operand_cheap b _ _ (cheaper b (d + 1) f))
cheaper (Product a b) d f = omega (arith, operand_cheap a _ _ (cheaper a d f), operand_cheap b _ _ (cheaper b (d + 1) f))
cheaper (Quotient a b) d f = omega (arith, operand_cheap a _ _ (cheaper a d f), operand_cheap b _ _ (cheaper b (d + 1) f))
cheaper (Remainder a b) d f = omega (arith, operand_cheap a _ _ (cheaper a d f), operand_cheap b _ _ (cheaper b (d + 1) f))
cheaper (IfLess a b x y) d f =
    let least : cond (ltb (machine_value a f) (machine_value b f)) 0 (cost y f) ≤ cost y f = cond_both _ 0 (cost y f) (λ n. n ≤ cost y f) (λ e. omega arith) (λ e. omega arith) in
    omega (arith, operand_cheap a _ _ (cheaper a (d + 1) f), operand_cheap b _ _ (cheaper b (d + 2) f), cheaper x d f, cheaper y d f, least)

pub bring_cheaper : (e : Expr) (d : ℕ) (f : ℕ → ℕ) → bring_cost e f ≤ size (bring e d)
bring_cheaper e d f = operand_cheap e (cost e f) (put e d) (cheaper e d f)

-- an operand's number stands in its register
brings_of : (e : Expr) (d : ℕ) (c : RegisterContents) → AreWords c → Puts (put e d) d d (machine_value e c.register) (cost e c.register) c → Puts (bring e d) (register_of e d) d (machine_value e c.register) (bring_cost e c.register) c
brings_of (Variable r) d c all p = record { puts = sym (mod-eq_of_lt (all r)); keeps = λ r lt. refl; parameters = refl; tag = refl; silent = refl; takes = refl }
brings_of _ d c all p = p

-- ---- operands and what is done with them

-- the end of an expression's code: it works on registers s and t
record Joins (tail : Block) (s t d : ℕ) (joined : ℕ → ℕ → ℕ) (count : ℕ) : Type 0 where
  gives : (c : RegisterContents) → (after tail c).register d ≡ joined (c.register s) (c.register t)
  keeps : (c : RegisterContents) (r : ℕ) → r < d → (after tail c).register r ≡ c.register r
  parameters : (c : RegisterContents) → (after tail c).parameter ≡ c.parameter
  tag : (c : RegisterContents) → (after tail c).tag ≡ c.tag
  silent : (c : RegisterContents) → issues tail c ≡ []
  takes : (c : RegisterContents) → steps tail c ≡ count

abbrev with_register : ℕ → ℕ → RegisterContents → RegisterContents
with_register d v c = record { register = with_number d v c.register; parameter = c.parameter; tag = c.tag }

joins_one : (i : Instr) (s t d : ℕ) (joined : ℕ → ℕ → ℕ) → ((c : RegisterContents) → left_by i c ≡ with_register d (joined (c.register s) (c.register t)) c) → ((c : RegisterContents) → issues_by i c ≡ []) → Joins (Do i) s t d joined 1
joins_one i s t d joined is silent = record {
  gives = λ c. ap (λ (g : RegisterContents). g.register d) (is c) ∙ with_same c.register d _;
  keeps = λ c r below. ap (λ (g : RegisterContents). g.register r) (is c) ∙ with_other c.register d _ r (ne_eqb r d (λ e. omega (arith, e, below)));
  parameters = λ c. ap (λ (g : RegisterContents). g.parameter) (is c);
  tag = λ c. ap (λ (g : RegisterContents). g.tag) (is c);
  silent = silent;
  takes = λ c. refl;
}

other : (f : ℕ → ℕ) (k v q : ℕ) → (q ≡ k → ⊥) → with_number k v f q ≡ f q
other f k v q ne = with_other f k v q (ne_eqb q k ne)

joins_rest : (s t d : ℕ) → s ≤ d → t ≤ d + 1 → Joins (Then (Do (Div (d + 2) s t)) (Then (Do (Mul (d + 2) (d + 2) t)) (Do (Sub d s (d + 2))))) s t d remainder_of 3
joins_rest s t d low_s low_t = record {
  gives = λ c.
      let q = quotient_of (c.register s) (c.register t) in
      let f1 = with_number (d + 2) q c.register in
      let m = product_of (f1 (d + 2)) (f1 t) in
      let f2 = with_number (d + 2) m f1 in
      let e1 : f1 (d + 2) ≡ q = with_same c.register (d + 2) q in
      let e2 : f1 t ≡ c.register t = other c.register (d + 2) q t (λ e. omega (arith, e, low_t)) in
      let e3 : f2 (d + 2) ≡ m = with_same f1 (d + 2) m in
      let e4 : f2 s ≡ f1 s = other f1 (d + 2) m s (λ e. omega (arith, e, low_s)) in
      let e5 : f1 s ≡ c.register s = other c.register (d + 2) q s (λ e. omega (arith, e, low_s)) in
      let m' : m ≡ product_of q (c.register t) = ap (λ u. product_of u (f1 t)) e1 ∙ ap (λ v. product_of q v) e2 in
      with_same f2 d (difference_of (f2 s) (f2 (d + 2))) ∙ ap (λ u. difference_of u (f2 (d + 2))) (e4 ∙ e5) ∙ ap (λ v. difference_of (c.register s) v) (e3 ∙ m');
  keeps = λ c r below. keeps_others (Then (Do (Div (d + 2) s t)) (Then (Do (Mul (d + 2) (d + 2) t)) (Do (Sub d s (d + 2))))) r c
      (or_from _ _ (ne_eqb r (d + 2) (λ e. omega (arith, e, below))) (or_from _ _ (ne_eqb r (d + 2) (λ e. omega (arith, e, below))) (ne_eqb r d (λ e. omega (arith, e, below)))));
  parameters = λ c. refl;
  tag = λ c. refl;
  silent = λ c. refl;
  takes = λ c. refl;
}

two : (x y tail : Block) (s t d u v k l : ℕ) (c : RegisterContents) (joined : ℕ → ℕ → ℕ) (count : ℕ) → s ≤ d → Joins tail s t d joined count → Puts x s d u k c → Puts y t (d + 1) v l (after x c)
    → Puts (Then x (Then y tail)) d d (joined u v) (k + (l + count)) c
two x y tail s t d u v k l c joined count low joins first second =
    let c1 = after x c in
    let c2 = after y c1 in
    record {
      puts = joins.gives c2 ∙ ap (λ u. joined u (c2.register t)) (second.keeps s (omega (arith, low)) ∙ first.puts) ∙ ap (λ v. joined u v) second.puts;
      keeps = λ r lt. joins.keeps c2 r lt ∙ second.keeps r (omega (arith, lt)) ∙ first.keeps r lt;
      parameters = joins.parameters c2 ∙ second.parameters ∙ first.parameters;
      tag = joins.tag c2 ∙ second.tag ∙ first.tag;
      silent = ap (λ xs. xs ++ (issues y c1 ++ issues tail c2)) first.silent ∙ ap (λ xs. xs ++ issues tail c2) second.silent ∙ joins.silent c2;
      takes = omega (arith, first.takes, second.takes, joins.takes c2);
    }

-- one operand, and a number that is added
offset : (x : Block) (s d u k n : ℕ) (c : RegisterContents) → Puts x s d u k c → Puts (Then x (Do (Addi d s n))) d d (sum_of u n) (k + 1) c
offset x s d u k n c first =
    let c1 = after x c in
    record {
      puts = with_same c1.register d _ ∙ ap (λ v. sum_of v n) first.puts;
      keeps = λ r lt. other c1.register d _ r (λ e. omega (arith, e, lt)) ∙ first.keeps r lt;
      parameters = first.parameters;
      tag = first.tag;
      silent = ap (λ xs. xs ++ []) first.silent;
      takes = omega (arith, first.takes);
    }

-- the number in a later state whose lower registers are the same
later : (e : Expr) (x : Block) (s d n : ℕ) (c g : RegisterContents) → Agree d c.register g.register → is_below e d ≡ true
    → Puts x s n (machine_value e c.register) (bring_cost e c.register) c → Puts x s n (machine_value e g.register) (bring_cost e g.register) c
later e x s d n c g same below p = record {
  puts = p.puts ∙ value_same e d c.register g.register same below;
  keeps = p.keeps;
  parameters = p.parameters;
  tag = p.tag;
  silent = p.silent;
  takes = p.takes ∙ bring_cost_same e d c.register g.register same below;
}

later_put : (e : Expr) (x : Block) (s d n : ℕ) (c g : RegisterContents) → Agree d c.register g.register → is_below e d ≡ true
    → Puts x s n (machine_value e c.register) (cost e c.register) c → Puts x s n (machine_value e g.register) (cost e g.register) c
later_put e x s d n c g same below p = record {
  puts = p.puts ∙ value_same e d c.register g.register same below;
  keeps = p.keeps;
  parameters = p.parameters;
  tag = p.tag;
  silent = p.silent;
  takes = p.takes ∙ cost_same e d c.register g.register same below;
}

quiet : {xs ys zs ws : List Issue} → xs ≡ [] → ys ≡ [] → zs ≡ [] → ws ≡ [] → xs ++ (ys ++ (zs ++ ws)) ≡ []
quiet {xs} {ys} {zs} {ws} e1 e2 e3 e4 = ap (λ xs. xs ++ (ys ++ (zs ++ ws))) e1 ∙ ap (λ ys. ys ++ (zs ++ ws)) e2 ∙ ap (λ zs. zs ++ ws) e3 ∙ e4

-- x stands in d, and y comes in its place unless u is below v
choice : (x a b y : Block) (s t d vx u v vy kx ka kb ky : ℕ) (c : RegisterContents) → s ≤ d + 1 → Puts x d d vx kx c → Puts a s (d + 1) u ka (after x c) → Puts b t (d + 2) v kb (after a (after x c))
    → Puts y d d vy ky (after b (after a (after x c)))
    → Puts (Then x (Then a (Then b (Unless s t y)))) d d (cond (ltb u v) vx vy) (kx + (ka + (kb + (1 + cond (ltb u v) 0 ky)))) c
choice x a b y s t d vx u v vy kx ka kb ky c low px pa pb py = made (ltb u v) (ap (λ w. ltb w (c3.register t)) (pb.keeps s (omega (arith, low)) ∙ pa.puts) ∙ ap (λ w. ltb u w) pb.puts)
  where
    c3 : RegisterContents
    c3 = after b (after a (after x c))

    made : (q : Bool) → ltb (c3.register s) (c3.register t) ≡ q → Puts (Then x (Then a (Then b (Unless s t y)))) d d (cond q vx vy) (kx + (ka + (kb + (1 + cond q 0 ky)))) c
    made true e =
        let ends : cond (ltb (c3.register s) (c3.register t)) c3 (after y c3) ≡ c3 = cond-true _ _ _ e in
        let last : cond (ltb (c3.register s) (c3.register t)) [] (issues y c3) ≡ [] = cond-true _ _ _ e in
        let count : cond (ltb (c3.register s) (c3.register t)) 0 (steps y c3) ≡ 0 = cond-true _ _ _ e in
        record {
          puts = ap (λ (g : RegisterContents). g.register d) ends ∙ pb.keeps d (omega arith) ∙ pa.keeps d (omega arith) ∙ px.puts;
          keeps = λ r lt. ap (λ (g : RegisterContents). g.register r) ends ∙ pb.keeps r (omega (arith, lt)) ∙ pa.keeps r (omega (arith, lt)) ∙ px.keeps r lt;
          parameters = ap (λ (g : RegisterContents). g.parameter) ends ∙ pb.parameters ∙ pa.parameters ∙ px.parameters;
          tag = ap (λ (g : RegisterContents). g.tag) ends ∙ pb.tag ∙ pa.tag ∙ px.tag;
          silent = quiet px.silent pa.silent pb.silent last;
          takes = omega (arith, px.takes, pa.takes, pb.takes, count);
        }
    made false e =
        let ends : cond (ltb (c3.register s) (c3.register t)) c3 (after y c3) ≡ after y c3 = cond-false _ _ _ e in
        let last : cond (ltb (c3.register s) (c3.register t)) [] (issues y c3) ≡ issues y c3 = cond-false _ _ _ e in
        let count : cond (ltb (c3.register s) (c3.register t)) 0 (steps y c3) ≡ steps y c3 = cond-false _ _ _ e in
        record {
          puts = ap (λ (g : RegisterContents). g.register d) ends ∙ py.puts;
          keeps = λ r lt. ap (λ (g : RegisterContents). g.register r) ends ∙ py.keeps r lt ∙ pb.keeps r (omega (arith, lt)) ∙ pa.keeps r (omega (arith, lt)) ∙ px.keeps r lt;
          parameters = ap (λ (g : RegisterContents). g.parameter) ends ∙ py.parameters ∙ pb.parameters ∙ pa.parameters ∙ px.parameters;
          tag = ap (λ (g : RegisterContents). g.tag) ends ∙ py.tag ∙ pb.tag ∙ pa.tag ∙ px.tag;
          silent = quiet px.silent pa.silent pb.silent (last ∙ py.silent);
          takes = omega (arith, px.takes, pa.takes, pb.takes, count, py.takes);
        }

pub puts_value : (e : Expr) (d : ℕ) (c : RegisterContents) → is_below e d ≡ true → AreWords c → Puts (put e d) d d (machine_value e c.register) (cost e c.register) c
puts_value (Number n) d c below all = record { puts = with_same c.register d _; keeps = λ r lt. other c.register d _ r (λ e. omega (arith, e, lt)); parameters = refl; tag = refl; silent = refl; takes = refl }
puts_value (Variable r) d c below all =
    let e : sum_of (c.register r) 0 ≡ word (c.register r) = ap word (omega arith) in
    record { puts = with_same c.register d _ ∙ e; keeps = λ r lt. other c.register d _ r (λ e. omega (arith, e, lt)); parameters = refl; tag = refl; silent = refl; takes = refl }
puts_value (Offset a n) d c below all = offset (bring a d) (register_of a d) d _ _ (word n) c (brings_of a d c all (puts_value a d c below all))
puts_value (Sum a b) d c below all =
    let p = and_parts (is_below a d) (is_below b d) below in
    let first = brings_of a d c all (puts_value a d c p.0 all) in
    let c1 = after (bring a d) c in
    let all1 = words_kept (bring a d) c (bring_sound a d) all in
    let second = brings_of b (d + 1) c1 all1 (puts_value b (d + 1) c1 (below_more b d (d + 1) (omega arith) p.1) all1) in
    two (bring a d) (bring b (d + 1)) _ (register_of a d) (register_of b (d + 1)) d _ _ _ _ c sum_of 1 (operand_low a d d (omega arith) p.0)
    (joins_one (Add d (register_of a d) (register_of b (d + 1))) (register_of a d) (register_of b (d + 1)) d sum_of (λ c. refl) (λ c. refl)) first
    (later b (bring b (d + 1)) (register_of b (d + 1)) d (d + 1) c1 c (record { at = first.keeps }) p.1 second)
puts_value (Difference a b) d c below all =
    let p = and_parts (is_below a d) (is_below b d) below in
    let first = brings_of a d c all (puts_value a d c p.0 all) in
    let c1 = after (bring a d) c in
    let all1 = words_kept (bring a d) c (bring_sound a d) all in
    let second = brings_of b (d + 1) c1 all1 (puts_value b (d + 1) c1 (below_more b d (d + 1) (omega arith) p.1) all1) in
    two (bring a d) (bring b (d + 1)) _ (register_of a d) (register_of b (d + 1)) d _ _ _ _ c difference_of 1 (operand_low a d d (omega arith) p.0)
    (joins_one (Sub d (register_of a d) (register_of b (d + 1))) (register_of a d) (register_of b (d + 1)) d difference_of (λ c. refl) (λ c. refl)) first
    (later b (bring b (d + 1)) (register_of b (d + 1)) d (d + 1) c1 c (record { at = first.keeps }) p.1 second)
puts_value (Product a b) d c below all =
    let p = and_parts (is_below a d) (is_below b d) below in
    let first = brings_of a d c all (puts_value a d c p.0 all) in
    let c1 = after (bring a d) c in
    let all1 = words_kept (bring a d) c (bring_sound a d) all in
    let second = brings_of b (d + 1) c1 all1 (puts_value b (d + 1) c1 (below_more b d (d + 1) (omega arith) p.1) all1) in
    two (bring a d) (bring b (d + 1)) _ (register_of a d) (register_of b (d + 1)) d _ _ _ _ c product_of 1 (operand_low a d d (omega arith) p.0)
    (joins_one (Mul d (register_of a d) (register_of b (d + 1))) (register_of a d) (register_of b (d + 1)) d product_of (λ c. refl) (λ c. refl)) first
    (later b (bring b (d + 1)) (register_of b (d + 1)) d (d + 1) c1 c (record { at = first.keeps }) p.1 second)
puts_value (Quotient a b) d c below all =
    let p = and_parts (is_below a d) (is_below b d) below in
    let first = brings_of a d c all (puts_value a d c p.0 all) in
    let c1 = after (bring a d) c in
    let all1 = words_kept (bring a d) c (bring_sound a d) all in
    let second = brings_of b (d + 1) c1 all1 (puts_value b (d + 1) c1 (below_more b d (d + 1) (omega arith) p.1) all1) in
    two (bring a d) (bring b (d + 1)) _ (register_of a d) (register_of b (d + 1)) d _ _ _ _ c quotient_of 1 (operand_low a d d (omega arith) p.0)
    (joins_one (Div d (register_of a d) (register_of b (d + 1))) (register_of a d) (register_of b (d + 1)) d quotient_of (λ c. refl) (λ c. refl)) first
    (later b (bring b (d + 1)) (register_of b (d + 1)) d (d + 1) c1 c (record { at = first.keeps }) p.1 second)
puts_value (Remainder a b) d c below all =
    let p = and_parts (is_below a d) (is_below b d) below in
    let first = brings_of a d c all (puts_value a d c p.0 all) in
    let c1 = after (bring a d) c in
    let all1 = words_kept (bring a d) c (bring_sound a d) all in
    let second = brings_of b (d + 1) c1 all1 (puts_value b (d + 1) c1 (below_more b d (d + 1) (omega arith) p.1) all1) in
    two (bring a d) (bring b (d + 1)) _ (register_of a d) (register_of b (d + 1)) d _ _ _ _ c remainder_of 3 (operand_low a d d (omega arith) p.0)
    (joins_rest (register_of a d) (register_of b (d + 1)) d (operand_low a d d (omega arith) p.0) (operand_low b d (d + 1) (omega arith) p.1)) first
    (later b (bring b (d + 1)) (register_of b (d + 1)) d (d + 1) c1 c (record { at = first.keeps }) p.1 second)
puts_value (IfLess a b x y) d c below all =
    let p = and_parts (is_below a d && is_below b d) (is_below x d && is_below y d) below in
    let q = and_parts (is_below a d) (is_below b d) p.0 in
    let s = and_parts (is_below x d) (is_below y d) p.1 in
    let c1 = after (put x d) c in
    let c2 = after (bring a (d + 1)) c1 in
    let c3 = after (bring b (d + 2)) c2 in
    let all1 = words_kept (put x d) c (put_sound x d) all in
    let all2 = words_kept (bring a (d + 1)) c1 (bring_sound a (d + 1)) all1 in
    let all3 = words_kept (bring b (d + 2)) c2 (bring_sound b (d + 2)) all2 in
    let px = puts_value x d c s.0 all in
    let pa = brings_of a (d + 1) c1 all1 (puts_value a (d + 1) c1 (below_more a d (d + 1) (omega arith) q.0) all1) in
    let pb = brings_of b (d + 2) c2 all2 (puts_value b (d + 2) c2 (below_more b d (d + 2) (omega arith) q.1) all2) in
    let py = puts_value y d c3 s.1 all3 in
    let same1 : Agree d c1.register c.register = record { at = px.keeps } in
    let same2 : Agree d c2.register c.register = record { at = λ r lt. pa.keeps r (omega (arith, lt)) ∙ px.keeps r lt } in
    let same3 : Agree d c3.register c.register = record { at = λ r lt. pb.keeps r (omega (arith, lt)) ∙ pa.keeps r (omega (arith, lt)) ∙ px.keeps r lt } in
    choice (put x d) (bring a (d + 1)) (bring b (d + 2)) (put y d) (register_of a (d + 1)) (register_of b (d + 2)) d _ _ _ _ _ _ _ _ c (operand_low a d (d + 1) (omega arith) q.0) px
    (later a (bring a (d + 1)) (register_of a (d + 1)) d (d + 1) c1 c same1 q.0 pa) (later b (bring b (d + 2)) (register_of b (d + 2)) d (d + 2) c2 c same2 q.1 pb)
    (later_put y (put y d) d d d c3 c same3 s.1 py)

pub brings_value : (e : Expr) (d : ℕ) (c : RegisterContents) → is_below e d ≡ true → AreWords c → Puts (bring e d) (register_of e d) d (machine_value e c.register) (bring_cost e c.register) c
brings_value e d c below all = brings_of e d c all (puts_value e d c below all)

-- ---- no step loses what the value needs

sum_words : (x y : ℕ) → sum_of (word x) (word y) ≡ word (x + y)
sum_words x y = mod-add-mod x (2 ^ 32) (word y) ∙ add-mod-mod x y (2 ^ 32)

difference_words : (x y : ℕ) → y ≤ x → difference_of (word x) (word y) ≡ word (x - y)
difference_words x y le =
    let q = y / 2 ^ 32 in
    let e : x + (2 ^ 32 - word y) ≡ (x - y) + (q + 1) * 2 ^ 32 = omega (arith, div-add-mod' y (2 ^ 32), mod-lt y {m = 2 ^ 32} (omega arith), le) in
    mod-add-mod x (2 ^ 32) (2 ^ 32 - word y) ∙ ap word e ∙ add-mul-mod_self_right (x - y) (q + 1) (2 ^ 32)

quotient_words : (x y : ℕ) → 0 < y → quotient_of x y ≡ x / y
quotient_words x y some = cond-false (eqb y 0) (2 ^ 32 - 1) (x / y) (ne_eqb y 0 (λ e. omega (arith, e, some)))

exact_mod : (e : Expr) (f : ℕ → ℕ) → Fits e f → machine_value e f ≡ word (value e f)
exact_mod (Number n) f fits = refl
exact_mod (Variable r) f fits = refl
exact_mod (Offset a n) f fits = ap (λ u. sum_of u (word n)) (exact_mod a f fits) ∙ sum_words (value a f) n
exact_mod (Sum a b) f fits = ap (λ u. sum_of u (machine_value b f)) (exact_mod a f fits.0) ∙ ap (λ v. sum_of (word (value a f)) v) (exact_mod b f fits.1) ∙ sum_words (value a f) (value b f)
exact_mod (Difference a b) f fits = ap (λ u. difference_of u (machine_value b f)) (exact_mod a f fits.0) ∙ ap (λ v. difference_of (word (value a f)) v) (exact_mod b f fits.1) ∙ difference_words (value a f) (value b f) fits.2
exact_mod (Product a b) f fits = ap (λ u. product_of u (machine_value b f)) (exact_mod a f fits.0) ∙ ap (λ v. product_of (word (value a f)) v) (exact_mod b f fits.1) ∙ sym (mul-mod (value a f) (value b f) (2 ^ 32))
exact_mod (Quotient a b) f fits =
    let x = value a f in
    let y = value b f in
    let ea = exact_mod a f fits.0 ∙ mod-eq_of_lt fits.2 in
    let eb = exact_mod b f fits.1 ∙ mod-eq_of_lt fits.4 in
    ap (λ u. quotient_of u (machine_value b f)) ea ∙ ap (λ v. quotient_of x v) eb ∙ quotient_words x y fits.3 ∙ sym (mod-eq_of_lt (omega (arith, div-le_self x y, fits.2)))
exact_mod (Remainder a b) f fits =
    let x = value a f in
    let y = value b f in
    let ea = exact_mod a f fits.0 ∙ mod-eq_of_lt fits.2 in
    let eb = exact_mod b f fits.1 ∙ mod-eq_of_lt fits.4 in
    let least : x / y * y ≤ x = div-mul-le_self x y in
    let part : product_of (quotient_of x y) y ≡ word (x / y * y) = ap (λ q. product_of q y) (quotient_words x y fits.3) in
    ap (λ u. remainder_of u (machine_value b f)) ea ∙ ap (λ v. remainder_of x v) eb ∙ ap (λ p. difference_of x p) part ∙ ap (λ u. difference_of u (word (x / y * y))) (sym (mod-eq_of_lt fits.2)) ∙ difference_words x (x / y * y) least
    ∙ ap word (sym (mod-eq-sub-div-mul x y))
exact_mod (IfLess a b x y) f fits =
    let ea = exact_mod a f fits.0 ∙ mod-eq_of_lt fits.2 in
    let eb = exact_mod b f fits.1 ∙ mod-eq_of_lt fits.3 in
    let e : ltb (machine_value a f) (machine_value b f) ≡ ltb (value a f) (value b f) = ap (λ u. ltb u (machine_value b f)) ea ∙ ap (λ v. ltb (value a f) v) eb in
    ap (λ t. cond t (machine_value x f) (machine_value y f)) e ∙ chosen (ltb (value a f) (value b f)) (λ e. exact_mod x f (fits.4 e)) (λ e. exact_mod y f (fits.5 e))
  where
    chosen : (t : Bool) → (t ≡ true → machine_value x f ≡ word (value x f)) → (t ≡ false → machine_value y f ≡ word (value y f)) → cond t (machine_value x f) (machine_value y f) ≡ word (cond t (value x f) (value y f))
    chosen true g h = g refl
    chosen false g h = h refl

pub exact_value : (e : Expr) (f : ℕ → ℕ) → Fits e f → value e f < 2 ^ 32 → machine_value e f ≡ value e f
exact_value e f fits below = exact_mod e f fits ∙ mod-eq_of_lt below

pub exprs_run : ExprsRun
exprs_run = record { puts = puts_value; brings = brings_value; sound = put_sound; exact = exact_value; cheap = cheaper }
