-- How many steps the programs of pieces take.
use Rattle.std.proofs.Common.{◌≡◌, ℕ, zero, suc, ◌+◌, ◌-◌, ◌*◌, ◌<◌, ◌≤◌, inl, inr, max, List, [], ◌∷◌, ◌++◌, length, refl, ap, ◌∙◌, arith, Bool, true, false, ltb}
use Rattle.std.specs.Prelude.{◌&&◌, map}
use Rattle.std.specs.List.{flat_map, range_with_len}
use Rattle.std.proofs.lemmas.Bool.{cond_both, cond-true, and_parts, ne_eqb, lt-ltb, cases_lt}
use Rattle.std.proofs.lemmas.List.{length-append, length-map}
use Rattle.std.proofs.lemmas.List.FromFn.{length-range_with_len}
use Rattle.std.proofs.lemmas.Nat.{mul-le}
use Rattle.venice_isa.specs.Host.{with_number}
use Rattle.host_programs.specs.Expr.{Expr, Number, Variable, Offset, Sum, Product, IfLess, value, is_below}
use Rattle.host_programs.specs.ExprLaws.{Agree}
use Rattle.host_programs.specs.Program.{Program, Idle, Emit, Both, UnlessLess, Let, For, Carry, in_turn}
use Rattle.host_programs.specs.ProgramCode.{turns_steps}
use Rattle.host_programs.proofs.Blocks.{with_same, with_other}
use Rattle.transfer_programs.specs.Axis.{RunExpr, scaled, single_run, Axis, one_run, singles_of}
use Rattle.transfer_programs.specs.SourcedRuns.{SourcedRun, IsRun}
use Rattle.transfer_programs.specs.ReadProgram.{SidesExpr, PatchExpr, is_joined, patch_program}
use Rattle.transfer_programs.specs.Cost.{expr_size, bring_size, program_size, most_cost, most_steps}
use Rattle.transfer_programs.proofs.Axes.{value_agree, agree_all, agree_new, agree_then, agree_turn, run_later, AxisRule, single_at, singles_at, single_is}
use Rattle.transfer_programs.proofs.CostPrograms.{most_least, bring_least, order_least}
use Rattle.transfer_programs.proofs.CostSizes.{size_bring, bring_scaled, RunSizes, IsSized, single_sizes, single_sized, PatchSizes, IsPatchSized, SizedSides, size_patch}

-- ---- programs without loops

abbrev pub is_straight : Program → Bool
is_straight (Both p q) = is_straight p && is_straight q
is_straight (UnlessLess a b p) = is_straight p
is_straight (Let e p) = is_straight p
is_straight (For e p) = false
is_straight (Carry e first next p) = false
is_straight _ = true

-- take at most as many steps as they have instructions
pub straight_least : (p : Program) (d : ℕ) (f : ℕ → ℕ) → is_straight p ≡ true → most_steps p d f ≤ program_size p
straight_least Idle d f is = omega arith
straight_least (Emit o) d f is = order_least o f
straight_least (Both p q) d f is = let s = and_parts (is_straight p) (is_straight q) is in omega (arith, straight_least p d f s.0, straight_least q d f s.1)
straight_least (UnlessLess a b p) d f is =
    let w = cond_both (ltb (value a f) (value b f)) 0 (most_steps p d f) (λ m. m ≤ program_size p) (λ e. omega arith) (λ e. straight_least p d f is) in
    omega (arith, bring_least a f, bring_least b f, w)
straight_least (Let e p) d f is = omega (arith, most_least e f, straight_least p (d + 1) (with_number d (value e f) f) is)
straight_least (For e p) d f is = absurd (cc is)
straight_least (Carry e first next p) d f is = absurd (cc is)

-- ---- sums over runs

abbrev pub total : {A : Type 0} → (A → ℕ) → List A → ℕ
total g [] = 0
total g (x ∷ xs) = g x + total g xs

pub total_append : {A : Type 0} (g : A → ℕ) (xs ys : List A) → total g (xs ++ ys) ≡ total g xs + total g ys
total_append g [] ys = omega arith
total_append g (x ∷ xs) ys = omega (arith, total_append g xs ys)

total_flat : {A B : Type 0} (g : B → ℕ) (parts : A → List B) (xs : List A) → total (λ x. total g (parts x)) xs ≡ total g (flat_map parts xs)
total_flat g parts [] = refl
total_flat g parts (x ∷ xs) = omega (arith, total_flat g parts xs, total_append g (parts x) (flat_map parts xs))

pub total_same : {A : Type 0} (c : ℕ) (xs : List A) → total (λ x. c) xs ≡ c * length xs
total_same c [] = omega arith
total_same c (x ∷ xs) = omega (arith, total_same c xs)

pub total_more : {A : Type 0} (c : ℕ) (g : A → ℕ) (xs : List A) → total (λ x. c + g x) xs ≡ c * length xs + total g xs
total_more c g [] = omega arith
total_more c g (x ∷ xs) = omega (arith, total_more c g xs)

pub total_most : {A : Type 0} (g h : A → ℕ) (xs : List A) → ((x : A) → g x ≤ h x) → total g xs ≤ total h xs
total_most g h [] most = omega arith
total_most g h (x ∷ xs) most = omega (arith, most x, total_most g h xs most)

abbrev pub counts : List SourcedRun → ℕ
counts runs = total (λ v. v.count) runs

-- runs that each have places, together at most so many
abbrev pub HavePlaces : List SourcedRun → Type 0
HavePlaces [] = Unit {0}
HavePlaces (v ∷ vs) = (1 ≤ v.count) × HavePlaces vs

pub record CoverAtMost (runs : List SourcedRun) (n : ℕ) : Type 0 where
  pub some : HavePlaces runs
  pub few : counts runs ≤ n

pub length_counts : (runs : List SourcedRun) → HavePlaces runs → length runs ≤ counts runs
length_counts [] some = omega arith
length_counts (v ∷ vs) some = omega (arith, some.0, length_counts vs some.1)

-- so many for a run, and so many more for each of its places, or for one
pub total_places : (c u : ℕ) (runs : List SourcedRun) → HavePlaces runs → total (λ v. c + u * max v.count 1) runs ≡ c * length runs + u * counts runs
total_places c u [] some = omega arith
total_places c u (v ∷ vs) some = let m : max v.count 1 ≡ v.count = omega (arith, some.0) in omega (arith, ap (λ k. u * k) m, total_places c u vs some.1)

pub singles_length : (runs : List SourcedRun) → length (flat_map singles_at runs) ≡ counts runs
singles_length [] = refl
singles_length (v ∷ vs) =
    omega (arith, length-append (singles_at v) (flat_map singles_at vs), length-map (range_with_len 0 v.count) (single_at v), length-range_with_len 0 v.count, singles_length vs)

-- ---- axes

abbrev pub idle_body : ℕ → RunExpr → Program
idle_body k run = Idle

-- what is done with a run of these sizes takes at most so many steps, whatever registers beyond d are in use
pub record Spends (s : RunSizes) (body : ℕ → RunExpr → Program) (d : ℕ) (f : ℕ → ℕ) (spent : SourcedRun → ℕ) : Type 0 where
  pub spends : (k : ℕ) (g : ℕ → ℕ) (run : RunExpr) (v : SourcedRun) → d ≤ k → Agree d g f → IsRun run k g v → IsSized run s → most_steps (body k run) k g ≤ spent v

spends_later : (s : RunSizes) (body : ℕ → RunExpr → Program) (spent : SourcedRun → ℕ) (d k : ℕ) (f g : ℕ → ℕ) → d ≤ k → Agree d g f → Spends s body d f spent → Spends s body k g spent
spends_later s body spent d k f g le same all = record {
  spends = λ l h run v more agree is sized. all.spends l h run v (omega (arith, le, more)) (agree_then d k f g h le agree same) is sized;
}

-- then the axis takes them for each of these runs, three more for each, and as many as it has instructions itself
pub record AxisSpends (s : RunSizes) (axis : Axis) (d : ℕ) (f : ℕ → ℕ) (runs : List SourcedRun) : Type 0 where
  pub takes : (body : ℕ → RunExpr → Program) (spent : SourcedRun → ℕ) → Spends s body d f spent
      → most_steps (axis d body) d f ≤ program_size (axis d idle_body) + total (λ v. 3 + spent v) runs

pub spends_one : (s : RunSizes) (run : RunExpr) (d : ℕ) (f : ℕ → ℕ) (v : SourcedRun) → IsRun run d f v → IsSized run s → AxisSpends s (one_run run) d f (v ∷ [])
spends_one s run d f v is sized = record { takes = λ body spent all. omega (arith, all.spends d f run v (omega arith) (agree_all d f) is sized) }

turns_total : (left t n : ℕ) (g : ℕ → ℕ) (spent : SourcedRun → ℕ) (v : ℕ → SourcedRun) → left + t ≡ n → ((t : ℕ) → t < n → g t ≤ spent (v t)) → turns_steps left t g ≤ total (λ w. 3 + spent w) (map v (range_with_len t left))
turns_total zero t n g spent v all most = omega arith
turns_total (suc left) t n g spent v all most = omega (arith, most t (omega (arith, all)), turns_total left (t + 1) n g spent v (omega (arith, all)) most)

pub spends_rule : (s : RunSizes) → AxisRule (λ run. IsSized run s) (AxisSpends s)
spends_rule s = record {
  names = λ e axis d f runs inner. record {
    takes = λ body spent all.
        let f' = with_number d (value e f) f in
        omega (arith, most_least e f, inner.takes body spent (spends_later s body spent d (d + 1) f f' (omega arith) (agree_new d d (value e f) f (omega arith)) all));
  };
  turns = λ count run d f v is sized. record {
    takes = λ body spent all.
        let n = value count f in
        let turns = turns_total n 0 n (λ t. most_steps (body (d + 2) (run (Variable (d + 1)))) (d + 2) (in_turn f d n t)) spent v (omega arith)
        (λ t lt. all.spends (d + 2) (in_turn f d n t) (run (Variable (d + 1))) (v t) (omega arith) (agree_turn d (n - t) t f) (is t lt) (sized (d + 1))) in
        omega (arith, most_least count f, turns);
  };
}

-- place by place
pub spends_singles : (s : RunSizes) (axis : Axis) (d : ℕ) (f : ℕ → ℕ) (runs : List SourcedRun) (body : ℕ → RunExpr → Program) (spent : SourcedRun → ℕ)
    → AxisSpends s axis d f runs → Spends (single_sizes s) body d f spent
    → most_steps (singles_of axis d body) d f ≤ program_size (axis d idle_body) + ((s.count + 7) * length runs + total (λ v. 3 + spent v) (flat_map singles_at runs))
spends_singles s axis d f runs body spent inner all =
    let each : SourcedRun → ℕ = λ v. (s.count + 4) + total (λ w. 3 + spent w) (singles_at v) in
    let whole = inner.takes (λ k run. For run.count (body (k + 2) (single_run run (Variable (k + 1))))) each (record { spends = one }) in
    let sum = total_more (s.count + 7) (λ v. total (λ w. 3 + spent w) (singles_at v)) runs in
    let same = total_most (λ v. 3 + each v) (λ v. (s.count + 7) + total (λ w. 3 + spent w) (singles_at v)) runs (λ v. omega arith) in
    omega (arith, whole, sum, same, total_flat (λ w. 3 + spent w) singles_at runs)
  where
    one : (k : ℕ) (g : ℕ → ℕ) (run : RunExpr) (v : SourcedRun) → d ≤ k → Agree d g f → IsRun run k g v → IsSized run s
        → most_steps (For run.count (body (k + 2) (single_run run (Variable (k + 1))))) k g ≤ (s.count + 4) + total (λ w. 3 + spent w) (singles_at v)
    one k g run v le same is sized =
        let n = value run.count g in
        let count : n ≡ v.count = ap (λ (w : SourcedRun). w.count) is.values in
        let turn : (t : ℕ) → t < n → most_steps (body (k + 2) (single_run run (Variable (k + 1)))) (k + 2) (in_turn g k n t) ≤ spent (single_at v t) = λ t lt.
        let g' = in_turn g k n t in
        let agree = agree_turn k (n - t) t g in
        let is' = run_later run k (k + 2) g g' v (omega arith) agree is in
        let at_turn : g' (k + 1) ≡ t = with_same (with_number k (n - t) g) (k + 1) t in
        let here = all.spends (k + 2) g' (single_run run (Variable (k + 1))) (single_at v (g' (k + 1))) (omega (arith, le)) (agree_then d k f g g' le agree same) (single_is run (k + 2) (k + 1) g' v (omega arith) is') (single_sized run (k + 1) s sized) in
        omega (arith, here, ap (λ m. spent (single_at v m)) at_turn) in
        let turns = turns_total n 0 n (λ t. most_steps (body (k + 2) (single_run run (Variable (k + 1)))) (k + 2) (in_turn g k n t)) spent (single_at v) (omega arith) turn in
        omega (arith, most_least run.count g, size_bring run.count, sized.count_size, turns, ap (λ m. total (λ w. 3 + spent w) (map (single_at v) (range_with_len 0 m))) count)

-- ---- a patch

-- a choice whose first branch is taken
taken_cost : (a b x y : Expr) (f : ℕ → ℕ) → ltb (value a f) (value b f) ≡ true → most_cost (IfLess a b x y) f ≤ bring_size a + bring_size b + 1 + expr_size x
taken_cost a b x y f is =
    let w = cond-true (ltb (value a f) (value b f)) (most_cost x f) (expr_size x + most_cost y f) is in
    omega (arith, w, bring_least a f, bring_least b f, most_least x f)

taken_value : (a b x y : Expr) (f : ℕ → ℕ) → ltb (value a f) (value b f) ≡ true → value (IfLess a b x y) f ≡ value x f
taken_value a b x y f is = cond-true (ltb (value a f) (value b f)) (value x f) (value y f) is

abbrev pub low_size : PatchSizes → ℕ
low_size z = 2 * z.rows + (z.cols + (z.from + (z.to + 33)))

abbrev pub full_size : PatchSizes → ℕ
full_size z = 3 * z.rows + (6 * z.cols + (3 * z.to_step + (3 * z.from_step + (z.from + (z.to + 48)))))

module _ (write : Bool) (s : SidesExpr) (p : PatchExpr) (z : PatchSizes) (d : ℕ) (f : ℕ → ℕ) (sides : SizedSides s) (sized : IsPatchSized p z) where
  full_steps : most_steps (patch_program write s p d) d f ≤ full_size z
  full_steps = omega (arith, straight_least (patch_program write s p d) d f refl, size_patch write s p z d sides sized)

  -- of one row, nothing is worked out that more of them need
  low_steps : is_below p.rows d ≡ true → value p.rows f < 2 → most_steps (patch_program write s p d) d f ≤ low_size z
  low_steps low few =
      let joined = is_joined p in
      let others = IfLess p.to_step p.cols (Number 0) (IfLess p.cols p.to_step (Number 0) (IfLess p.from_step p.cols (Number 0) (IfLess p.cols p.from_step (Number 0) (Number 1)))) in
      let rows = IfLess (Variable d) (Number 1) p.rows (Number 1) in
      let columns = IfLess (Variable d) (Number 1) p.cols (Product p.rows p.cols) in
      let one_row : ltb (value p.rows f) 2 ≡ true = lt-ltb (value p.rows f) 2 few in
      let f1 = with_number d (value joined f) f in
      let at1 : f1 d ≡ 0 = with_same f d (value joined f) ∙ taken_value p.rows (Number 2) (Number 0) others f one_row in
      let off1 : ltb (f1 d) 1 ≡ true = lt-ltb (f1 d) 1 (omega (arith, at1)) in
      let rows_is : value rows f1 ≡ value p.rows f =
      taken_value (Variable d) (Number 1) p.rows (Number 1) f1 off1 ∙ value_agree p.rows d f1 f (agree_new d d (value joined f) f (omega arith)) low in
      let f2 = with_number (d + 1) (value rows f1) f1 in
      let at2 : f2 d ≡ 0 = with_other f1 (d + 1) (value rows f1) d (ne_eqb d (d + 1) (λ e. omega (arith, e))) ∙ at1 in
      let off2 : ltb (f2 d) 1 ≡ true = lt-ltb (f2 d) 1 (omega (arith, at2)) in
      let f3 = with_number (d + 1 + 1) (value columns f2) f2 in
      let at3 : f3 (d + 1) ≡ value p.rows f = with_other f2 (d + 1 + 1) (value columns f2) (d + 1) (ne_eqb (d + 1) (d + 1 + 1) (λ e. omega (arith, e))) ∙ with_same f1 (d + 1) (value rows f1) ∙ rows_is in
      let few3 : ltb (f3 (d + 1)) 2 ≡ true = lt-ltb (f3 (d + 1)) 2 (omega (arith, at3, few)) in
      let mem = Offset (scaled p.from s.size) s.array in
      let spad = Sum s.buffer (scaled p.to s.size) in
      omega (
        arith,
        taken_cost p.rows (Number 2) (Number 0) others f one_row,
        taken_cost (Variable d) (Number 1) p.rows (Number 1) f1 off1,
        taken_cost (Variable d) (Number 1) p.cols (Product p.rows p.cols) f2 off2,
        bring_least mem f3,
        bring_least spad f3,
        bring_least (scaled (Variable (d + 1 + 1)) s.size) f3,
        taken_cost (Variable (d + 1)) (Number 2) (Number 0) (scaled p.from_step s.size) f3 few3,
        taken_cost (Variable (d + 1)) (Number 2) (Number 0) (scaled p.to_step s.size) f3 few3,
        bring_least s.tag f3,
        sides.buffer_size,
        sides.tag_size,
        sized.rows_size,
        sized.cols_size,
        sized.to_size,
        sized.from_size,
        size_bring p.rows,
        size_bring p.cols,
        bring_scaled p.from s.size,
        bring_scaled p.to s.size,
        bring_scaled (Variable (d + 1 + 1)) s.size,
      )

  -- so many for each row, or for one
  pub patch_steps : (u rows : ℕ) → is_below p.rows d ≡ true → value p.rows f ≡ rows → low_size z ≤ u → full_size z ≤ 2 * u → most_steps (patch_program write s p d) d f ≤ u * max rows 1
  patch_steps u rows low is low_fits full_fits = elim (cases_lt (value p.rows f) 2) [
    | inl few ↦ omega (arith, low_steps low few, low_fits, mul-le u 1 u (max rows 1) (omega arith) (omega arith))
    | inr many ↦ omega (arith, full_steps, full_fits, mul-le u 2 u (max rows 1) (omega arith) (omega (arith, is, many)))
  ]
