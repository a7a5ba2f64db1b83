-- The code of a program passes on the program's list.
use Rattle.std.proofs.Common.{◌≡◌, ℕ, zero, suc, ◌+◌, ◌-◌, ◌^◌, ◌<◌, ◌≤◌, ◌⊎◌, inl, inr, List, [], ◌∷◌, ◌++◌, Some, refl, sym, ap, ◌∙◌, arith, Bool, true, false, cond, eqb, ltb}
use Rattle.std.specs.Prelude.{◌&&◌}
use Rattle.std.proofs.Math.Nat.{mod-lt, mod-eq_of_lt, div-le_self}
use Rattle.std.proofs.lemmas.Bool.{cond_both, and_parts, and_from, or_from, not_from_false, ne_eqb, cases_lt}
use Rattle.std.proofs.lemmas.List.{append-nil}
use Rattle.venice_isa.specs.declared.issue.Issue.{Issue}
use Rattle.venice_isa.specs.declared.issue.Issue.TheVariants.{Vector, RWait, WWait, TWait}
use Rattle.venice_isa.specs.declared.instr.Instr.{Instr}
use Rattle.venice_isa.specs.declared.instr.Instr.TheVariants.{Li, Addi, Set, Vec, Dma, Rwait, Wwait, Tag, Twait}
use Rattle.venice_isa.specs.Host.{with_number, sum_of, vector_work, transfer}
use Rattle.host_programs.specs.Contents.{RegisterContents, standing, first_contents, left_by, issues_by, AreWords}
use Rattle.host_programs.specs.Block.{Block, Empty, Do, Then, Unless, Turns, one_less, repeated_issues, repeated_steps, after, issues, steps, writes, is_sound}
use Rattle.host_programs.specs.Expr.{Expr, Number, Variable, Offset, Sum, Difference, Product, Quotient, Remainder, IfLess, value, word, machine_value, is_below, unless_variable, register_of, put, bring, cost, bring_cost}
use Rattle.host_programs.specs.ExprLaws.{Puts, Agree}
use Rattle.host_programs.specs.Program.{Order, IssueTransfer, IssueVector, AwaitReads, AwaitWrites, AwaitLanes, AwaitTag, transfer_issue, issue_by, Program, Idle, Emit, Both, UnlessLess, Let, For, Carry, with_left, in_turn, turns_list, carried_list, list_by}
use Rattle.host_programs.specs.ProgramCode.{Setting, transfer_settings, vector_settings, settings_block, order_block, block_of, settings_cost, order_cost, turns_steps, carried_steps, steps_of, are_below, is_order_closed, is_closed}
use Rattle.host_programs.specs.ProgramFits.{FitsWord, OrderFits, CarriedFits, ProgramFits}
use Rattle.host_programs.specs.ProgramLaws.{Gives, no_registers, ProgramsCompile}
use Rattle.host_programs.proofs.Blocks.{with_same, with_other, keeps_others, words_kept, words_left, less_one, is_its_code}
use Rattle.host_programs.proofs.Exprs.{value_same, cost_same, bring_cost_same, below_more, operand_low, put_sound, bring_sound, puts_value, brings_value, exact_value}

-- ---- numbers have 32 bits

machine_below : (e : Expr) (f : ℕ → ℕ) → machine_value e f < 2 ^ 32
machine_below (Number n) f = mod-lt n {m = 2 ^ 32} (omega arith)
machine_below (Variable r) f = mod-lt (f r) {m = 2 ^ 32} (omega arith)
machine_below (Offset a n) f = mod-lt _ {m = 2 ^ 32} (omega arith)
machine_below (Sum a b) f = mod-lt _ {m = 2 ^ 32} (omega arith)
machine_below (Difference a b) f = mod-lt _ {m = 2 ^ 32} (omega arith)
machine_below (Product a b) f = mod-lt _ {m = 2 ^ 32} (omega arith)
machine_below (Quotient a b) f =
    cond_both (eqb (machine_value b f) 0) (2 ^ 32 - 1) _ (λ w. w < 2 ^ 32) (λ e. omega arith) (λ e. omega (arith, div-le_self (machine_value a f) (machine_value b f), machine_below a f))
machine_below (Remainder a b) f = mod-lt _ {m = 2 ^ 32} (omega arith)
machine_below (IfLess a b x y) f = cond_both _ (machine_value x f) (machine_value y f) (λ w. w < 2 ^ 32) (λ e. machine_below x f) (λ e. machine_below y f)

-- ---- what the code changes

operand_leaves : (e : Expr) (x : Block) (r : ℕ) → writes x r ≡ false → writes (unless_variable e Empty x) r ≡ false
operand_leaves (Variable k) x r leaves = refl
operand_leaves _ x r leaves = leaves

pub put_leaves : (e : Expr) (d r : ℕ) → r < d → writes (put e d) r ≡ false
put_leaves (Number n) d r lt = ne_eqb r d (λ e. omega (arith, e, lt))
put_leaves (Variable k) d r lt = ne_eqb r d (λ e. omega (arith, e, lt))
put_leaves (Offset a n) d r lt = or_from _ _ (operand_leaves a _ r (put_leaves a d r lt)) (ne_eqb r d (λ e. omega (arith, e, lt)))
put_leaves (Sum a b) d r lt = or_from _ _ (operand_leaves a _ r (put_leaves a d r lt)) (or_from _ _ (operand_leaves b _ r (put_leaves b (d + 1) r (omega (arith, lt)))) (ne_eqb r d (λ e. omega (arith, e, lt))))
put_leaves (Difference a b) d r lt = or_from _ _ (operand_leaves a _ r (put_leaves a d r lt)) (or_from _ _ (operand_leaves b _ r (put_leaves b (d + 1) r (omega (arith, lt)))) (ne_eqb r d (λ e. omega (arith, e, lt))))
put_leaves (Product a b) d r lt = or_from _ _ (operand_leaves a _ r (put_leaves a d r lt)) (or_from _ _ (operand_leaves b _ r (put_leaves b (d + 1) r (omega (arith, lt)))) (ne_eqb r d (λ e. omega (arith, e, lt))))
put_leaves (Quotient a b) d r lt = or_from _ _ (operand_leaves a _ r (put_leaves a d r lt)) (or_from _ _ (operand_leaves b _ r (put_leaves b (d + 1) r (omega (arith, lt)))) (ne_eqb r d (λ e. omega (arith, e, lt))))
put_leaves (Remainder a b) d r lt =
    let not2 : eqb r (d + 2) ≡ false = ne_eqb r (d + 2) (λ e. omega (arith, e, lt)) in
    or_from _ _ (operand_leaves a _ r (put_leaves a d r lt)) (or_from _ _ (operand_leaves b _ r (put_leaves b (d + 1) r (omega (arith, lt)))) (or_from _ _ not2 (or_from _ _ not2 (ne_eqb r d (λ e. omega (arith, e, lt))))))
put_leaves (IfLess a b x y) d r lt = or_from _ _ (put_leaves x d r lt) (or_from _ _ (operand_leaves a _ r (put_leaves a (d + 1) r (omega (arith, lt)))) (or_from _ _ (operand_leaves b _ r (put_leaves b (d + 2) r (omega (arith, lt)))) (put_leaves y d r lt)))

bring_leaves : (e : Expr) (d r : ℕ) → r < d → writes (bring e d) r ≡ false
bring_leaves e d r lt = operand_leaves e (put e d) r (put_leaves e d r lt)

settings_leave : (ss : List Setting) (d r : ℕ) → r < d → writes (settings_block ss d) r ≡ false
settings_leave [] d r lt = refl
settings_leave (s ∷ ss) d r lt = or_from _ _ (bring_leaves s.expr d r lt) (settings_leave ss d r lt)

order_leaves : (o : Order) (d r : ℕ) → r < d → writes (order_block o d) r ≡ false
order_leaves (IssueTransfer write work) d r lt = or_from _ _ (settings_leave (transfer_settings work) d r lt) (or_from _ _ (bring_leaves work.tag d r lt) refl)
order_leaves (IssueVector work) d r lt = or_from _ _ (settings_leave (vector_settings work) d r lt) refl
order_leaves (AwaitReads e) d r lt = or_from _ _ (bring_leaves e d r lt) refl
order_leaves (AwaitWrites e) d r lt = or_from _ _ (bring_leaves e d r lt) refl
order_leaves AwaitLanes d r lt = refl
order_leaves (AwaitTag e) d r lt = or_from _ _ (bring_leaves e d r lt) refl

leaves : (p : Program) (d r : ℕ) → r < d → writes (block_of p d) r ≡ false
leaves Idle d r lt = refl
leaves (Emit o) d r lt = order_leaves o d r lt
leaves (Both p q) d r lt = or_from _ _ (leaves p d r lt) (leaves q d r lt)
leaves (UnlessLess a b p) d r lt = or_from _ _ (bring_leaves a d r lt) (or_from _ _ (bring_leaves b (d + 1) r (omega (arith, lt))) (leaves p d r lt))
leaves (Let e p) d r lt = or_from _ _ (put_leaves e d r lt) (leaves p (d + 1) r (omega (arith, lt)))
leaves (For e p) d r lt =
    or_from _ _ (put_leaves e d r lt) (or_from _ _ (ne_eqb r (d + 1) (λ e. omega (arith, e, lt))) (or_from _ _ (ne_eqb r d (λ e. omega (arith, e, lt))) (or_from _ _ (leaves p (d + 2) r (omega (arith, lt))) (ne_eqb r (d + 1) (λ e. omega (arith, e, lt))))))
leaves (Carry e first next p) d r lt =
    or_from _ _ (put_leaves e d r lt) (or_from _ _ (put_leaves first (d + 1) r (omega (arith, lt))) (or_from _ _ (ne_eqb r d (λ e. omega (arith, e, lt)))
    (or_from _ _ (leaves p (d + 2) r (omega (arith, lt))) (or_from _ _ (bring_leaves next (d + 2) r (omega (arith, lt))) (ne_eqb r (d + 1) (λ e. omega (arith, e, lt)))))))

-- ---- it is sound

settings_sound : (ss : List Setting) (d : ℕ) → is_sound (settings_block ss d) ≡ true
settings_sound [] d = refl
settings_sound (s ∷ ss) d = and_from _ _ (bring_sound s.expr d) (settings_sound ss d)

order_sound : (o : Order) (d : ℕ) → is_sound (order_block o d) ≡ true
order_sound (IssueTransfer write work) d = and_from _ _ (settings_sound (transfer_settings work) d) (and_from _ _ (bring_sound work.tag d) refl)
order_sound (IssueVector work) d = and_from _ _ (settings_sound (vector_settings work) d) refl
order_sound (AwaitReads e) d = and_from _ _ (bring_sound e d) refl
order_sound (AwaitWrites e) d = and_from _ _ (bring_sound e d) refl
order_sound AwaitLanes d = refl
order_sound (AwaitTag e) d = and_from _ _ (bring_sound e d) refl

pub block_sound : (p : Program) (d : ℕ) → is_sound (block_of p d) ≡ true
block_sound Idle d = refl
block_sound (Emit o) d = order_sound o d
block_sound (Both p q) d = and_from _ _ (block_sound p d) (block_sound q d)
block_sound (UnlessLess a b p) d = and_from _ _ (bring_sound a d) (and_from _ _ (bring_sound b (d + 1)) (block_sound p d))
block_sound (Let e p) d = and_from _ _ (put_sound e d) (block_sound p (d + 1))
block_sound (For e p) d =
    let alone : writes (Then (block_of p (d + 2)) (Do (Addi (d + 1) (d + 1) 1))) d ≡ false = or_from _ _ (leaves p (d + 2) d (omega arith)) (ne_eqb d (d + 1) (λ e. omega (arith, e))) in
    and_from _ _ (put_sound e d) (and_from _ _ (and_from _ _ (block_sound p (d + 2)) refl) (not_from_false _ alone))
block_sound (Carry e first next p) d =
    let alone : writes (Then (block_of p (d + 2)) (Then (bring next (d + 2)) (Do (Addi (d + 1) (register_of next (d + 2)) 0)))) d ≡ false = or_from _ _ (leaves p (d + 2) d (omega arith)) (or_from _ _ (bring_leaves next (d + 2) d (omega arith)) (ne_eqb d (d + 1) (λ e. omega (arith, e)))) in
    and_from _ _ (put_sound e d) (and_from _ _ (put_sound first (d + 1)) (and_from _ _ (and_from _ _ (block_sound p (d + 2)) (and_from _ _ (bring_sound next (d + 2)) refl)) (not_from_false _ alone)))

-- ---- registers that agree

pub agree_with : (d v : ℕ) (f g : ℕ → ℕ) → Agree d f g → f d ≡ v → Agree (d + 1) f (with_number d v g)
agree_with d v f g same is = record { at = λ r lt. go r lt (cases_lt r d) }
  where
    go : (r : ℕ) → r < d + 1 → ((r < d) ⊎ (d ≤ r)) → f r ≡ with_number d v g r
    go r lt (inl less) = same.at r less ∙ sym (with_other g d v r (ne_eqb r d (λ e. omega (arith, e, less))))
    go r lt (inr le) = let e : r ≡ d = omega (arith, lt, le) in ap f e ∙ is ∙ sym (with_same g d v) ∙ ap (with_number d v g) (sym e)

below_with : (d v : ℕ) (f : ℕ → ℕ) → Agree d (with_number d v f) f
below_with d v f = record { at = λ r lt. with_other f d v r (ne_eqb r d (λ e. omega (arith, e, lt))) }

-- ---- what a block gives, put together

gives_then : {x y : Block} {d : ℕ} {f : ℕ → ℕ} {xs ys : List Issue} {k l : ℕ} → is_sound x ≡ true → Gives x d d f xs k → Gives y d d f ys l → Gives (Then x y) d d f (xs ++ ys) (k + l)
gives_then {x} {y} {d} {f} {xs} {ys} {k} {l} sound first second = record {
  gives = λ c all same. ap (λ zs. zs ++ issues y (after x c)) (first.gives c all same) ∙ ap (λ zs. xs ++ zs) (second.gives (after x c) (words_kept x c sound all) (still c same));
  keeps = λ c r lt. second.keeps (after x c) r lt ∙ first.keeps c r lt;
  takes = λ c all same. omega (arith, first.takes c all same, second.takes (after x c) (words_kept x c sound all) (still c same));
}
  where
    still : (c : RegisterContents) → Agree d c.register f → Agree d (after x c).register f
    still c same = record { at = λ r lt. first.keeps c r lt ∙ same.at r lt }

-- a number in register d, and what is done with it
with_put : (e : Expr) (d m : ℕ) (f : ℕ → ℕ) (y : Block) (ys : List Issue) (l : ℕ) → m ≤ d → is_below e d ≡ true → Gives y (d + 1) m (with_number d (machine_value e f) f) ys l
    → Gives (Then (put e d) y) d m f ys (cost e f + l)
with_put e d m f y ys l le below rest = record {
  gives = λ c all same. ap (λ zs. zs ++ issues y (after (put e d) c)) (puts_value e d c below all).silent ∙ rest.gives (after (put e d) c) (words_kept (put e d) c (put_sound e d) all) (named c all same);
  keeps = λ c r lt. rest.keeps (after (put e d) c) r lt ∙ keeps_others (put e d) r c (put_leaves e d r (omega (arith, le, lt)));
  takes = λ c all same. omega (arith, (puts_value e d c below all).takes, cost_same e d c.register f same below, rest.takes (after (put e d) c) (words_kept (put e d) c (put_sound e d) all) (named c all same));
}
  where
    named : (c : RegisterContents) → AreWords c → Agree d c.register f → Agree (d + 1) (after (put e d) c).register (with_number d (machine_value e f) f)
    named c all same =
        let p = puts_value e d c below all in
        agree_with d (machine_value e f) (after (put e d) c).register f (record { at = λ r lt. p.keeps r lt ∙ same.at r lt }) (p.puts ∙ value_same e d c.register f same below)

-- the code of an operand, where the registers have these numbers
at_registers : (e : Expr) (d k : ℕ) (c : RegisterContents) (f : ℕ → ℕ) → d ≤ k → AreWords c → Agree d c.register f → is_below e d ≡ true → Puts (bring e k) (register_of e k) k (machine_value e f) (bring_cost e f) c
at_registers e d k c f le all same below =
    let p = brings_value e k c (below_more e d k le below) all in
    record { puts = p.puts ∙ value_same e d c.register f same below; keeps = p.keeps; parameters = p.parameters; tag = p.tag; silent = p.silent; takes = p.takes ∙ bring_cost_same e d c.register f same below }

-- one instruction that issues what depends on one register alone
gives_wait : (e : Expr) (i : Instr) (d : ℕ) (f : ℕ → ℕ) (issue : ℕ → Issue) → ((c : RegisterContents) → issues_by i c ≡ issue (c.register (register_of e d)) ∷ []) → ((c : RegisterContents) → left_by i c ≡ c) → is_below e d ≡ true
    → Gives (Then (bring e d) (Do i)) d d f (issue (machine_value e f) ∷ []) (bring_cost e f + 1)
gives_wait e i d f issue is same_contents below = record {
  gives = λ c all same.
      let p = at_registers e d d c f (omega arith) all same below in
      ap (λ xs. xs ++ issues_by i (after (bring e d) c)) p.silent ∙ is (after (bring e d) c) ∙ ap (λ v. issue v ∷ []) p.puts;
  keeps = λ c r lt. ap (λ (g : RegisterContents). g.register r) (same_contents (after (bring e d) c)) ∙ keeps_others (bring e d) r c (bring_leaves e d r lt);
  takes = λ c all same. ap (λ n. n + 1) (at_registers e d d c f (omega arith) all same below).takes;
}

gives_unless : (a b : Expr) (d : ℕ) (f : ℕ → ℕ) (x : Block) (xs : List Issue) (k : ℕ) → is_below a d ≡ true → is_below b d ≡ true → Gives x d d f xs k
    → Gives (Then (bring a d) (Then (bring b (d + 1)) (Unless (register_of a d) (register_of b (d + 1)) x))) d d f
    (cond (ltb (machine_value a f) (machine_value b f)) [] xs) (bring_cost a f + (bring_cost b f + (1 + cond (ltb (machine_value a f) (machine_value b f)) 0 k)))
gives_unless a b d f x xs k below_a below_b inner = record {
  gives = λ c all same.
      let pa = first c all same in
      let pb = second c all same in
      let c2 = after (bring b (d + 1)) (after (bring a d) c) in
      ap (λ zs. zs ++ (issues (bring b (d + 1)) (after (bring a d) c) ++ issues (Unless s t x) c2)) pa.silent ∙ ap (λ zs. zs ++ issues (Unless s t x) c2) pb.silent
      ∙ ap (λ q. cond q [] (issues x c2)) (test c all same) ∙ ap (λ zs. cond (ltb u v) [] zs) (inner.gives c2 (words c all) (low c all same));
  keeps = λ c r lt.
      let c2 = after (bring b (d + 1)) (after (bring a d) c) in
      cond_both (ltb (c2.register s) (c2.register t)) c2 (after x c2) (λ g. g.register r ≡ c2.register r) (λ e. refl) (λ e. inner.keeps c2 r lt)
      ∙ keeps_others (bring b (d + 1)) r (after (bring a d) c) (bring_leaves b (d + 1) r (omega (arith, lt))) ∙ keeps_others (bring a d) r c (bring_leaves a d r lt);
  takes = λ c all same.
      let pa = first c all same in
      let pb = second c all same in
      let c2 = after (bring b (d + 1)) (after (bring a d) c) in
      let last : 1 + cond (ltb (c2.register s) (c2.register t)) 0 (steps x c2) ≡ 1 + cond (ltb u v) 0 k =
      ap (λ q. 1 + cond q 0 (steps x c2)) (test c all same) ∙ ap (λ n. 1 + cond (ltb u v) 0 n) (inner.takes c2 (words c all) (low c all same)) in
      omega (arith, pa.takes, pb.takes, last);
}
  where
    s : ℕ
    s = register_of a d

    t : ℕ
    t = register_of b (d + 1)

    u : ℕ
    u = machine_value a f

    v : ℕ
    v = machine_value b f

    first : (c : RegisterContents) → AreWords c → Agree d c.register f → Puts (bring a d) (register_of a d) d (machine_value a f) (bring_cost a f) c
    first c all same = at_registers a d d c f (omega arith) all same below_a

    words : (c : RegisterContents) → AreWords c → AreWords (after (bring b (d + 1)) (after (bring a d) c))
    words c all = words_kept (bring b (d + 1)) (after (bring a d) c) (bring_sound b (d + 1)) (words_kept (bring a d) c (bring_sound a d) all)

    second : (c : RegisterContents) → AreWords c → Agree d c.register f → Puts (bring b (d + 1)) (register_of b (d + 1)) (d + 1) (machine_value b f) (bring_cost b f) (after (bring a d) c)
    second c all same =
        let p = first c all same in
        at_registers b d (d + 1) (after (bring a d) c) f (omega arith) (words_kept (bring a d) c (bring_sound a d) all) (record { at = λ r lt. p.keeps r lt ∙ same.at r lt }) below_b

    low : (c : RegisterContents) → AreWords c → Agree d c.register f → Agree d (after (bring b (d + 1)) (after (bring a d) c)).register f
    low c all same = record { at = λ r lt. (second c all same).keeps r (omega (arith, lt)) ∙ (first c all same).keeps r lt ∙ same.at r lt }

    test : (c : RegisterContents) → AreWords c → Agree d c.register f → ltb ((after (bring b (d + 1)) (after (bring a d) c)).register s) ((after (bring b (d + 1)) (after (bring a d) c)).register t) ≡ ltb u v
    test c all same =
        let pa = first c all same in
        let pb = second c all same in
        let low_a : s < d + 1 = omega (arith, operand_low a d d (omega arith) below_a) in
        ap (λ w. ltb w ((after (bring b (d + 1)) (after (bring a d) c)).register t)) (pb.keeps s low_a ∙ pa.puts) ∙ ap (λ w. ltb u w) pb.puts

-- ---- parameters

abbrev params_of : List Setting → (ℕ → ℕ) → (ℕ → ℕ) → (ℕ → ℕ)
params_of [] f p = p
params_of (s ∷ ss) f p = params_of ss f (with_number s.field (machine_value s.expr f) p)

params_same : (ss : List Setting) (d : ℕ) (f g p : ℕ → ℕ) → Agree d f g → are_below ss d ≡ true → params_of ss f p ≡ params_of ss g p
params_same [] d f g p same below = refl
params_same (s ∷ ss) d f g p same below =
    let b = and_parts (is_below s.expr d) (are_below ss d) below in
    params_same ss d f g _ same b.1 ∙ ap (λ v. params_of ss g (with_number s.field v p)) (value_same s.expr d f g same b.0)

settings_cost_same : (ss : List Setting) (d : ℕ) (f g : ℕ → ℕ) → Agree d f g → are_below ss d ≡ true → settings_cost ss f ≡ settings_cost ss g
settings_cost_same [] d f g same below = refl
settings_cost_same (s ∷ ss) d f g same below =
    let b = and_parts (is_below s.expr d) (are_below ss d) below in
    omega (arith, bring_cost_same s.expr d f g same b.0, settings_cost_same ss d f g same b.1)

record Sets (x : Block) (d : ℕ) (p : ℕ → ℕ) (k : ℕ) (c : RegisterContents) : Type 0 where
  keeps : (r : ℕ) → r < d → (after x c).register r ≡ c.register r
  parameters : (after x c).parameter ≡ p
  silent : issues x c ≡ []
  takes : steps x c ≡ k

sets_all : (ss : List Setting) (d : ℕ) (c : RegisterContents) → are_below ss d ≡ true → AreWords c → Sets (settings_block ss d) d (params_of ss c.register c.parameter) (settings_cost ss c.register) c
sets_all [] d c below all = record { keeps = λ r lt. refl; parameters = refl; silent = refl; takes = refl }
sets_all (s ∷ ss) d c below all =
    let b = and_parts (is_below s.expr d) (are_below ss d) below in
    let p = brings_value s.expr d c b.0 all in
    let c1 = after (bring s.expr d) c in
    let c2 = left_by (Set s.field (register_of s.expr d)) c1 in
    let rest = sets_all ss d c2 b.1 (words_kept (bring s.expr d) c (bring_sound s.expr d) all) in
    let same : Agree d c2.register c.register = record { at = p.keeps } in
    record {
      keeps = λ r lt. rest.keeps r lt ∙ p.keeps r lt;
      parameters = rest.parameters ∙ params_same ss d c2.register c.register c2.parameter same b.1 ∙ ap (λ q. params_of ss c.register (with_number s.field (c1.register (register_of s.expr d)) q)) p.parameters
          ∙ ap (λ v. params_of ss c.register (with_number s.field v c.parameter)) p.puts;
      silent = ap (λ xs. xs ++ issues (settings_block ss d) c2) p.silent ∙ rest.silent;
      takes = omega (arith, p.takes, rest.takes, settings_cost_same ss d c2.register c.register same b.1);
    }

-- ---- an order's code issues it

dma_issue : (write : Bool) (c : RegisterContents) → issues_by (Dma write) c ≡ transfer_issue write (transfer (standing 0 c)) ∷ []
dma_issue false c = refl
dma_issue true c = refl

abbrev holding : (ℕ → ℕ) → ℕ → (ℕ → ℕ) → RegisterContents
holding register tag parameter = record { register = register; parameter = parameter; tag = tag }

gives_order : (o : Order) (d : ℕ) (f : ℕ → ℕ) → is_order_closed o d ≡ true → Gives (order_block o d) d d f (issue_by (λ e. machine_value e f) o ∷ []) (order_cost o f)
gives_order (IssueTransfer write work) d f closed =
    let ss = transfer_settings work in
    let t = register_of work.tag d in
    let b = and_parts (are_below ss d) (is_below work.tag d) closed in
    record {
      gives = λ c all same.
          let s = sets_all ss d c b.0 all in
          let c1 = after (settings_block ss d) c in
          let all1 = words_kept (settings_block ss d) c (settings_sound ss d) all in
          let low : Agree d c1.register f = record { at = λ r lt. s.keeps r lt ∙ same.at r lt } in
          let p = at_registers work.tag d d c1 f (omega arith) all1 low b.1 in
          let c2 = after (bring work.tag d) c1 in
          let parameters = p.parameters ∙ s.parameters ∙ params_same ss d c.register f c.parameter same b.0 in
          ap (λ xs. xs ++ (issues (bring work.tag d) c1 ++ issues_by (Dma write) (left_by (Tag t) c2))) s.silent ∙ ap (λ xs. xs ++ issues_by (Dma write) (left_by (Tag t) c2)) p.silent
          ∙ dma_issue write (left_by (Tag t) c2) ∙ ap (λ q. transfer_issue write (transfer (standing 0 (holding c2.register (c2.register t) q))) ∷ []) parameters
          ∙ ap (λ v. transfer_issue write (transfer (standing 0 (holding c2.register v (params_of ss f c.parameter)))) ∷ []) p.puts;
      keeps = λ c r lt. keeps_others (order_block (IssueTransfer write work) d) r c (order_leaves (IssueTransfer write work) d r lt);
      takes = λ c all same.
          let s = sets_all ss d c b.0 all in
          let c1 = after (settings_block ss d) c in
          let all1 = words_kept (settings_block ss d) c (settings_sound ss d) all in
          let low : Agree d c1.register f = record { at = λ r lt. s.keeps r lt ∙ same.at r lt } in
          let first = s.takes ∙ settings_cost_same ss d c.register f same b.0 in
          let second = (at_registers work.tag d d c1 f (omega arith) all1 low b.1).takes in
          ap (λ n. n + (steps (bring work.tag d) c1 + 2)) first ∙ ap (λ n. settings_cost ss f + (n + 2)) second;
    }
gives_order (IssueVector work) d f closed =
    let ss = vector_settings work in
    record {
      gives = λ c all same.
          let s = sets_all ss d c closed all in
          let c1 = after (settings_block ss d) c in
          ap (λ xs. xs ++ issues_by (Vec work.kind) c1) s.silent
          ∙ ap (λ q. Vector (vector_work work.kind (standing 0 (holding c1.register c1.tag q))) ∷ []) (s.parameters ∙ params_same ss d c.register f c.parameter same closed);
      keeps = λ c r lt. keeps_others (order_block (IssueVector work) d) r c (order_leaves (IssueVector work) d r lt);
      takes = λ c all same. ap (λ n. n + 1) ((sets_all ss d c closed all).takes ∙ settings_cost_same ss d c.register f same closed);
    }
gives_order (AwaitReads e) d f closed = gives_wait e (Rwait (register_of e d)) d f RWait (λ c. refl) (λ c. refl) closed
gives_order (AwaitWrites e) d f closed = gives_wait e (Wwait (register_of e d)) d f WWait (λ c. refl) (λ c. refl) closed
gives_order AwaitLanes d f closed = record { gives = λ c all same. refl; keeps = λ c r lt. refl; takes = λ c all same. refl }
gives_order (AwaitTag e) d f closed = gives_wait e (Twait (register_of e d)) d f TWait (λ c. refl) (λ c. refl) closed

-- ---- turns

module _ (d n : ℕ) (f : ℕ → ℕ) (x : Block) (g : ℕ → List Issue) (k : ℕ → ℕ) (few : n < 2 ^ 32) (sound : is_sound x ≡ true) (body : (t : ℕ) → t < n → Gives x (d + 2) (d + 2) (in_turn f d n t) (g t) (k t)) where
  turn : RegisterContents → RegisterContents
  turn c = left_by (one_less d) (after (Then x (Do (Addi (d + 1) (d + 1) 1))) c)

  -- where so many turns are left, of which the next is turn t
  record Stands (left t : ℕ) (c : RegisterContents) : Type 0 where
    all : left + t ≡ n
    words : AreWords c
    has_left : c.register d ≡ left
    has_turn : c.register (d + 1) ≡ t
    low : (r : ℕ) → r < d → c.register r ≡ f r

  begins : (left t : ℕ) (c : RegisterContents) → Stands (suc left) t c → Agree (d + 2) c.register (in_turn f d n t)
  begins left t c s =
      let is_left : c.register d ≡ n - t = s.has_left ∙ omega (arith, s.all) in
      let same = agree_with (d + 1) t c.register (with_number d (n - t) f) (agree_with d (n - t) c.register f (record { at = s.low }) is_left) s.has_turn in
      record { at = λ r lt. same.at r (omega (arith, lt)) }

  turned : (left t : ℕ) (c : RegisterContents) → Stands (suc left) t c → Stands left (t + 1) (turn c)
  unfolding turn
  turned left t c s =
      let b = body t (omega (arith, s.all)) in
      let c1 = after x c in
      let e0 : c1.register d ≡ suc left = b.keeps c d (omega arith) ∙ s.has_left in
      let e1 : c1.register (d + 1) ≡ t = b.keeps c (d + 1) (omega arith) ∙ s.has_turn in
      let c2 = left_by (Addi (d + 1) (d + 1) 1) c1 in
      let e2 : c2.register d ≡ suc left = with_other c1.register (d + 1) _ d (ne_eqb d (d + 1) (λ e. omega (arith, e))) ∙ e0 in
      let e3 : c2.register (d + 1) ≡ t + 1 = with_same c1.register (d + 1) _ ∙ ap (λ v. sum_of v 1) e1 ∙ mod-eq_of_lt (omega (arith, s.all, few)) in
      let words1 = words_kept x c sound s.words in
      record {
        all = omega (arith, s.all);
        words = words_left (one_less d) c2 refl (words_left (Addi (d + 1) (d + 1) 1) c1 refl words1);
        has_left = with_same c2.register d _ ∙ ap (λ v. sum_of v (2 ^ 32 - 1)) e2 ∙ less_one left (omega (arith, s.all, few));
        has_turn = with_other c2.register d _ (d + 1) (ne_eqb (d + 1) d (λ e. omega (arith, e))) ∙ e3;
        low = λ r lt. with_other c2.register d _ r (ne_eqb r d (λ e. omega (arith, e, lt))) ∙ with_other c1.register (d + 1) _ r (ne_eqb r (d + 1) (λ e. omega (arith, e, lt))) ∙ b.keeps c r (omega (arith, lt)) ∙ s.low r lt;
      }

  turns_give : (left t : ℕ) (c : RegisterContents) → Stands left t c → repeated_issues left turn (issues (Then x (Do (Addi (d + 1) (d + 1) 1)))) c ≡ turns_list left t g
  turns_give zero t c s = refl
  turns_give (suc left) t c s =
      let b = (body t (omega (arith, s.all))).gives c s.words (begins left t c s) in
      ap (λ ys. (issues x c ++ []) ++ ys) (turns_give left (t + 1) (turn c) (turned left t c s)) ∙ ap (λ xs. xs ++ turns_list left (t + 1) g) (append-nil (issues x c) ∙ b)

  turns_take : (left t : ℕ) (c : RegisterContents) → Stands left t c → repeated_steps left turn (steps (Then x (Do (Addi (d + 1) (d + 1) 1)))) c ≡ turns_steps left t k
  turns_take zero t c s = refl
  turns_take (suc left) t c s =
      let b = (body t (omega (arith, s.all))).takes c s.words (begins left t c s) in
      omega (arith, b, turns_take left (t + 1) (turn c) (turned left t c s))

  gives_turns : ((r : ℕ) → r < d → writes x r ≡ false) → Gives (Then (Do (Li (d + 1) 0)) (Turns d (Then x (Do (Addi (d + 1) (d + 1) 1))))) (d + 1) d (with_number d n f) (turns_list n 0 g) (1 + (2 + turns_steps n 0 k))
  unfolding turn
  gives_turns alone = record {
    gives = λ c all same.
        let c1 = left_by (Li (d + 1) 0) c in
        let s = stands c all same in
        ap (λ k. repeated_issues k turn (issues (Then x (Do (Addi (d + 1) (d + 1) 1)))) c1) s.has_left ∙ turns_give n 0 c1 s;
    keeps = λ c r lt. keeps_others (Then (Do (Li (d + 1) 0)) (Turns d (Then x (Do (Addi (d + 1) (d + 1) 1))))) r c
        (or_from _ _ (ne_eqb r (d + 1) (λ e. omega (arith, e, lt))) (or_from _ _ (ne_eqb r d (λ e. omega (arith, e, lt))) (or_from _ _ (alone r lt) (ne_eqb r (d + 1) (λ e. omega (arith, e, lt))))));
    takes = λ c all same.
        let c1 = left_by (Li (d + 1) 0) c in
        let s = stands c all same in
        ap (λ k. 1 + (2 + repeated_steps k turn (steps (Then x (Do (Addi (d + 1) (d + 1) 1)))) c1)) s.has_left ∙ ap (λ k. 1 + (2 + k)) (turns_take n 0 c1 s);
  }
    where
      stands : (c : RegisterContents) → AreWords c → Agree (d + 1) c.register (with_number d n f) → Stands n 0 (left_by (Li (d + 1) 0) c)
      stands c all same = record {
        all = omega arith;
        words = words_left (Li (d + 1) 0) c refl all;
        has_left = with_other c.register (d + 1) _ d (ne_eqb d (d + 1) (λ e. omega (arith, e))) ∙ same.at d (omega arith) ∙ with_same f d n;
        has_turn = with_same c.register (d + 1) _;
        low = λ r lt. with_other c.register (d + 1) _ r (ne_eqb r (d + 1) (λ e. omega (arith, e, lt))) ∙ same.at r (omega (arith, lt)) ∙ (below_with d n f).at r lt;
      }

-- ---- turns with a carried number

module _ (d : ℕ) (f : ℕ → ℕ) (x y : Block) (t : ℕ) (next : ℕ → ℕ → ℕ) (g : ℕ → ℕ → List Issue) (k e : ℕ → ℕ → ℕ) (sound_x : is_sound x ≡ true) (sound_y : is_sound y ≡ true)
    (body : (left v : ℕ) → Gives x (d + 2) (d + 2) (with_left f d left v) (g left v) (k left v))
    (step : (left v : ℕ) (c : RegisterContents) → AreWords c → Agree (d + 2) c.register (with_left f d left v) → Puts y t (d + 2) (next left v) (e left v) c) (next_word : (left v : ℕ) → next left v < 2 ^ 32) where
  abbrev inside : Block
  inside = Then x (Then y (Do (Addi (d + 1) t 0)))

  carry : RegisterContents → RegisterContents
  carry c = left_by (one_less d) (after (Then x (Then y (Do (Addi (d + 1) t 0)))) c)

  record Holds (left v : ℕ) (c : RegisterContents) : Type 0 where
    few : left < 2 ^ 32
    words : AreWords c
    has_left : c.register d ≡ left
    has_carried : c.register (d + 1) ≡ v
    low : (r : ℕ) → r < d → c.register r ≡ f r

  knows : (left v : ℕ) (c : RegisterContents) → Holds left v c → Agree (d + 2) c.register (with_left f d left v)
  knows left v c s =
      let same = agree_with (d + 1) v c.register (with_number d left f) (agree_with d left c.register f (record { at = s.low }) s.has_left) s.has_carried in
      record { at = λ r lt. same.at r (omega (arith, lt)) }

  -- the registers behind the body
  behind : (left v : ℕ) (c : RegisterContents) → Holds left v c → Agree (d + 2) (after x c).register (with_left f d left v)
  behind left v c s = record { at = λ r lt. (body left v).keeps c r lt ∙ (knows left v c s).at r lt }

  steps_on : (left v : ℕ) (c : RegisterContents) → Holds left v c → Puts y t (d + 2) (next left v) (e left v) (after x c)
  steps_on left v c s = step left v (after x c) (words_kept x c sound_x s.words) (behind left v c s)

  carries : (left v : ℕ) (c : RegisterContents) → Holds (suc left) v c → Holds left (next (suc left) v) (carry c)
  unfolding carry
  carries left v c s =
      let c1 = after x c in
      let p = steps_on (suc left) v c s in
      let c2 = after y c1 in
      let c3 = left_by (Addi (d + 1) t 0) c2 in
      let known = behind (suc left) v c s in
      let low : (r : ℕ) → r < d + 1 → c3.register r ≡ with_left f d (suc left) v r = λ r lt. with_other c2.register (d + 1) _ r (ne_eqb r (d + 1) (λ e. omega (arith, e, lt))) ∙ p.keeps r (omega (arith, lt)) ∙ known.at r (omega (arith, lt)) in
      let e2 : c3.register d ≡ suc left = low d (omega arith) ∙ (below_with (d + 1) v (with_number d (suc left) f)).at d (omega arith) ∙ with_same f d (suc left) in
      let e3 : c3.register (d + 1) ≡ next (suc left) v = with_same c2.register (d + 1) _ ∙ ap (λ w. sum_of w 0) p.puts ∙ ap word (omega arith) ∙ mod-eq_of_lt (next_word (suc left) v) in
      let words2 = words_kept y c1 sound_y (words_kept x c sound_x s.words) in
      record {
        few = omega (arith, s.few);
        words = words_left (one_less d) c3 refl (words_left (Addi (d + 1) t 0) c2 refl words2);
        has_left = with_same c3.register d _ ∙ ap (λ w. sum_of w (2 ^ 32 - 1)) e2 ∙ less_one left s.few;
        has_carried = with_other c3.register d _ (d + 1) (ne_eqb (d + 1) d (λ e. omega (arith, e))) ∙ e3;
        low = λ r lt. with_other c3.register d _ r (ne_eqb r d (λ e. omega (arith, e, lt))) ∙ low r (omega (arith, lt)) ∙ (below_with (d + 1) v (with_number d (suc left) f)).at r (omega (arith, lt)) ∙ (below_with d (suc left) f).at r lt;
      }

  carry_gives : (left v : ℕ) (c : RegisterContents) → Holds left v c → repeated_issues left carry (issues (Then x (Then y (Do (Addi (d + 1) t 0))))) c ≡ carried_list left v next g
  carry_gives zero v c s = refl
  carry_gives (suc left) v c s =
      let b = (body (suc left) v).gives c s.words (knows (suc left) v c s) in
      let p = steps_on (suc left) v c s in
      ap (λ ys. (issues x c ++ (issues y (after x c) ++ [])) ++ ys) (carry_gives left (next (suc left) v) (carry c) (carries left v c s)) ∙ ap (λ zs. (issues x c ++ (zs ++ [])) ++ carried_list left (next (suc left) v) next g) p.silent
      ∙ ap (λ xs. xs ++ carried_list left (next (suc left) v) next g) (append-nil (issues x c) ∙ b)

  carry_takes : (left v : ℕ) (c : RegisterContents) → Holds left v c → repeated_steps left carry (steps (Then x (Then y (Do (Addi (d + 1) t 0))))) c ≡ carried_steps left v next (λ left v. k left v + (e left v + 1))
  carry_takes zero v c s = refl
  carry_takes (suc left) v c s =
      let b = (body (suc left) v).takes c s.words (knows (suc left) v c s) in
      let p = (steps_on (suc left) v c s).takes in
      omega (arith, b, p, carry_takes left (next (suc left) v) (carry c) (carries left v c s))

  gives_carry : (n v : ℕ) → n < 2 ^ 32 → ((r : ℕ) → r < d → writes (Turns d (Then x (Then y (Do (Addi (d + 1) t 0))))) r ≡ false)
      → Gives (Turns d (Then x (Then y (Do (Addi (d + 1) t 0))))) (d + 1 + 1) d (with_left f d n v) (carried_list n v next g) (2 + carried_steps n v next (λ left v. k left v + (e left v + 1)))
  unfolding carry
  gives_carry n v few alone = record {
    gives = λ c all same. ap (λ k. repeated_issues k carry (issues (Then x (Then y (Do (Addi (d + 1) t 0))))) c) (holds c all same).has_left ∙ carry_gives n v c (holds c all same);
    keeps = λ c r lt. keeps_others (Turns d (Then x (Then y (Do (Addi (d + 1) t 0))))) r c (alone r lt);
    takes = λ c all same. ap (λ k. 2 + repeated_steps k carry (steps (Then x (Then y (Do (Addi (d + 1) t 0))))) c) (holds c all same).has_left ∙ ap (λ k. 2 + k) (carry_takes n v c (holds c all same));
  }
    where
      holds : (c : RegisterContents) → AreWords c → Agree (d + 1 + 1) c.register (with_left f d n v) → Holds n v c
      holds c all same = record {
        few = few;
        words = all;
        has_left = same.at d (omega arith) ∙ (below_with (d + 1) v (with_number d n f)).at d (omega arith) ∙ with_same f d n;
        has_carried = same.at (d + 1) (omega arith) ∙ with_same (with_number d n f) (d + 1) v;
        low = λ r lt. same.at r (omega (arith, lt)) ∙ (below_with (d + 1) v (with_number d n f)).at r (omega (arith, lt)) ∙ (below_with d n f).at r lt;
      }

-- ---- programs

pub gives_program : (p : Program) (d : ℕ) (f : ℕ → ℕ) → is_closed p d ≡ true → Gives (block_of p d) d d f (list_by machine_value p d f) (steps_of p d f)
gives_program Idle d f closed = record { gives = λ c all same. refl; keeps = λ c r lt. refl; takes = λ c all same. refl }
gives_program (Emit o) d f closed = gives_order o d f closed
gives_program (Both p q) d f closed = let b = and_parts (is_closed p d) (is_closed q d) closed in gives_then (block_sound p d) (gives_program p d f b.0) (gives_program q d f b.1)
gives_program (UnlessLess a b p) d f closed =
    let s = and_parts (is_below a d) (is_below b d && is_closed p d) closed in
    let q = and_parts (is_below b d) (is_closed p d) s.1 in
    gives_unless a b d f (block_of p d) (list_by machine_value p d f) (steps_of p d f) s.0 q.0 (gives_program p d f q.1)
gives_program (Let e p) d f closed =
    let s = and_parts (is_below e d) (is_closed p (d + 1)) closed in
    with_put e d d f _ _ _ (omega arith) s.0 (less_kept (gives_program p (d + 1) (with_number d (machine_value e f) f) s.1))
  where
    less_kept : {x : Block} {g : ℕ → ℕ} {xs : List Issue} {k : ℕ} → Gives x (d + 1) (d + 1) g xs k → Gives x (d + 1) d g xs k
    less_kept given = record { gives = given.gives; keeps = λ c r lt. given.keeps c r (omega (arith, lt)); takes = given.takes }
gives_program (For e p) d f closed =
    let s = and_parts (is_below e d) (is_closed p (d + 2)) closed in
    let n = machine_value e f in
    with_put e d d f _ _ _ (omega arith) s.0
    (gives_turns d n f (block_of p (d + 2)) (λ t. list_by machine_value p (d + 2) (in_turn f d n t)) (λ t. steps_of p (d + 2) (in_turn f d n t)) (machine_below e f) (block_sound p (d + 2))
    (λ t lt. gives_program p (d + 2) (in_turn f d n t) s.1) (λ r lt. leaves p (d + 2) r (omega (arith, lt))))
gives_program (Carry e first next p) d f closed =
    let s = and_parts (is_below e d) (is_below first (d + 1) && (is_below next (d + 2) && is_closed p (d + 2))) closed in
    let q = and_parts (is_below first (d + 1)) (is_below next (d + 2) && is_closed p (d + 2)) s.1 in
    let u = and_parts (is_below next (d + 2)) (is_closed p (d + 2)) q.1 in
    let n = machine_value e f in
    let v = machine_value first (with_number d n f) in
    let turns = gives_carry d f (block_of p (d + 2)) (bring next (d + 2)) (register_of next (d + 2)) (λ left v. machine_value next (with_left f d left v)) (λ left v. list_by machine_value p (d + 2) (with_left f d left v)) (λ left v. steps_of p (d + 2) (with_left f d left v)) (λ left v. bring_cost next (with_left f d left v))
    (block_sound p (d + 2)) (bring_sound next (d + 2))
    (λ left v. gives_program p (d + 2) (with_left f d left v) u.1) (λ left v c all same. at_registers next (d + 2) (d + 2) c (with_left f d left v) (omega arith) all same u.0) (λ left v. machine_below next (with_left f d left v)) n v (machine_below e f)
    (λ r lt. or_from _ _ (ne_eqb r d (λ e. omega (arith, e, lt))) (or_from _ _ (leaves p (d + 2) r (omega (arith, lt))) (or_from _ _ (bring_leaves next (d + 2) r (omega (arith, lt))) (ne_eqb r (d + 1) (λ e. omega (arith, e, lt)))))) in
    with_put e d d f _ _ _ (omega arith) s.0 (with_put first (d + 1) d (with_number d n f) _ _ _ (omega arith) q.0 turns)

-- ---- exact values

fits_word : (e : Expr) (f : ℕ → ℕ) → FitsWord e f → machine_value e f ≡ value e f
fits_word e f fits = exact_value e f fits.0 fits.1

order_exact : (o : Order) (f : ℕ → ℕ) → OrderFits o f → issue_by (λ e. machine_value e f) o ≡ issue_by (λ e. value e f) o
order_exact (IssueTransfer write work) f fits =
    let e0 = fits_word work.mem f fits.mem in let e1 = fits_word work.spad f fits.spad in let e2 = fits_word work.rows f fits.rows in let e3 = fits_word work.bytes f fits.bytes in
    let e4 = fits_word work.mem_step f fits.mem_step in let e5 = fits_word work.spad_step f fits.spad_step in let e6 = fits_word work.tag f fits.tag in
    cc
order_exact (IssueVector work) f fits =
    let e0 = fits_word work.vl f fits.vl in let e1 = fits_word work.rows f fits.rows in let e2 = fits_word work.dst f fits.dst in let e3 = fits_word work.a f fits.a in
    let e4 = fits_word work.b f fits.b in let e5 = fits_word work.dst_step f fits.dst_step in let e6 = fits_word work.a_step f fits.a_step in let e7 = fits_word work.b_step f fits.b_step in
    cc
order_exact (AwaitReads e) f fits = ap RWait (fits_word e f fits)
order_exact (AwaitWrites e) f fits = ap WWait (fits_word e f fits)
order_exact AwaitLanes f fits = refl
order_exact (AwaitTag e) f fits = ap TWait (fits_word e f fits)

pub turns_same : (left t n : ℕ) (g g' : ℕ → List Issue) → left + t ≡ n → ((t : ℕ) → t < n → g t ≡ g' t) → turns_list left t g ≡ turns_list left t g'
turns_same zero t n g g' all same = refl
turns_same (suc left) t n g g' all same = ap (λ xs. xs ++ turns_list left (t + 1) g) (same t (omega (arith, all))) ∙ ap (λ ys. g' t ++ ys) (turns_same left (t + 1) n g g' (omega (arith, all)) same)

pub list_exact : (p : Program) (d : ℕ) (f : ℕ → ℕ) → ProgramFits p d f → list_by machine_value p d f ≡ list_by value p d f
list_exact Idle d f fits = refl
list_exact (Emit o) d f fits = ap (λ i. i ∷ []) (order_exact o f fits)
list_exact (Both p q) d f fits = ap (λ xs. xs ++ list_by machine_value q d f) (list_exact p d f fits.0) ∙ ap (λ ys. list_by value p d f ++ ys) (list_exact q d f fits.1)
list_exact (UnlessLess a b p) d f fits =
    ap (λ u. cond (ltb u (machine_value b f)) [] (list_by machine_value p d f)) (fits_word a f fits.0) ∙ ap (λ v. cond (ltb (value a f) v) [] (list_by machine_value p d f)) (fits_word b f fits.1)
    ∙ chosen (ltb (value a f) (value b f)) (λ e. list_exact p d f (fits.2 e))
  where
    chosen : (t : Bool) → (t ≡ false → list_by machine_value p d f ≡ list_by value p d f) → cond t [] (list_by machine_value p d f) ≡ cond t [] (list_by value p d f)
    chosen true h = refl
    chosen false h = h refl
list_exact (Let e p) d f fits = ap (λ v. list_by machine_value p (d + 1) (with_number d v f)) (fits_word e f fits.0) ∙ list_exact p (d + 1) (with_number d (value e f) f) fits.1
list_exact (For e p) d f fits =
    ap (λ n. turns_list n 0 (λ t. list_by machine_value p (d + 2) (in_turn f d n t))) (fits_word e f fits.0)
    ∙ turns_same (value e f) 0 (value e f) _ _ (omega arith) (λ t lt. list_exact p (d + 2) (in_turn f d (value e f) t) (fits.1 t lt))
list_exact (Carry e first next p) d f fits =
    let m = λ (k w : ℕ). machine_value next (with_left f d k w) in
    let g = λ (k w : ℕ). list_by machine_value p (d + 2) (with_left f d k w) in
    ap (λ n. carried_list n (machine_value first (with_number d n f)) m g) (fits_word e f fits.0) ∙ ap (λ v. carried_list (value e f) v m g) (fits_word first (with_number d (value e f) f) fits.1)
    ∙ go (value e f) (value first (with_number d (value e f) f)) fits.2 (λ k w fit. list_exact p (d + 2) (with_left f d k w) fit)
  where
    go : (k v : ℕ) → CarriedFits k v (λ k w. value next (with_left f d k w)) (λ k w. FitsWord next (with_left f d k w) × ProgramFits p (d + 2) (with_left f d k w))
        → ((k w : ℕ) → ProgramFits p (d + 2) (with_left f d k w) → list_by machine_value p (d + 2) (with_left f d k w) ≡ list_by value p (d + 2) (with_left f d k w))
        → carried_list k v (λ k w. machine_value next (with_left f d k w)) (λ k w. list_by machine_value p (d + 2) (with_left f d k w)) ≡ carried_list k v (λ k w. value next (with_left f d k w)) (λ k w. list_by value p (d + 2) (with_left f d k w))
    go zero v fit each = refl
    go (suc k) v fit each =
        ap (λ w. list_by machine_value p (d + 2) (with_left f d (suc k) v) ++ carried_list k w (λ k w. machine_value next (with_left f d k w)) (λ k w. list_by machine_value p (d + 2) (with_left f d k w))) (fits_word next (with_left f d (suc k) v) fit.0.0)
        ∙ ap (λ xs. xs ++ carried_list k (value next (with_left f d (suc k) v)) (λ k w. machine_value next (with_left f d k w)) (λ k w. list_by machine_value p (d + 2) (with_left f d k w))) (each (suc k) v fit.0.1)
        ∙ ap (λ ys. list_by value p (d + 2) (with_left f d (suc k) v) ++ ys) (go k (value next (with_left f d (suc k) v)) fit.1 each)

pub programs_compile : ProgramsCompile
programs_compile = record {
  gives = gives_program;
  sound = block_sound;
  exact = list_exact;
  whole = λ p n closed fits less.
      let same : Agree 0 first_contents.register no_registers = record { at = λ r lt. refl } in
      let all : AreWords first_contents = λ r. omega arith in
      let g = gives_program p 0 no_registers closed in
      is_its_code (block_of p 0) n (block_sound p 0) (omega (arith, less, g.takes first_contents all same)) ∙ ap (λ xs. Some xs) (g.gives first_contents all same ∙ list_exact p 0 no_registers fits);
}
