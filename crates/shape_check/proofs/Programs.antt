-- The verdict on a program is its checked program, or its first fault.
use Rattle.std.proofs.Common.{◌≡◌, ℕ, zero, suc, ◌+◌, ◌<◌, ◌≤◌, List, [], ◌∷◌, ◌++◌, length, take, refl, sym, ap, ◌∙◌, subst, arith, append_assoc, length-append, None, Some, Bool, true, false, inl, inr, Ok, Err, Contains}
use Rattle.std.specs.Prelude.{Result, All, slice_get, ◌⊎◌, if◌then◌else◌, map, nat_le}
use Rattle.std.specs.List.{list_any}
use Rattle.std.proofs.lemmas.Bool.{cases_lt, leb-true}
use Rattle.std.proofs.lemmas.Bool.Decides.{leb_tells}
use Rattle.std.proofs.lemmas.List.{map-append, append-nil, take_at, take_all}
use Rattle.std.proofs.lemmas.List.Elements.{All-nil, All-cons, All-append, All-map, All-weaker, All-head, All-tail}
use Rattle.std.proofs.lemmas.Option.{slice_get_within, get_or_from_slice_get}
use Rattle.array_syntax.specs.Limits.{KeepsStatement}
use Rattle.array_syntax.specs.declared.program.Stmt.{Stmt}
use Rattle.shape_check.specs.declared.typed.ArrayType.{ArrayType}
use Rattle.shape_check.specs.declared.fault.CheckFault.{CheckFault}
use Rattle.shape_check.specs.declared.fault.CheckFault.TheVariants.{NoOutput, TooMuchWork}
use Rattle.shape_check.specs.Statement.{Statement, is_output}
use Rattle.shape_check.specs.Scope.{Scope, entry_of, scope_of, scope_names}
use Rattle.shape_check.specs.Checked.{work_of, work_limit}
use Rattle.shape_check.specs.Typing.{IsStatementTyping, AreTypings, IsProgramTyping}
use Rattle.shape_check.specs.Faults.{Site, OutputSite, WorkSite, Spot, spot_at, sites_of, spots_from, BreaksOutput, BreaksWork, Breaks, rank_of, Occurs, IsFirstFault}
use Rattle.shape_check.specs.Judge.{chain, judge_statement, judge_all, judge_end, judge_program}
use Rattle.shape_check.proofs.Unique.{IsDistinct}
use Rattle.shape_check.proofs.Statements.{IsCleanSite, IsFirstSite, sites_clean, same_statement, StatementJudged, statement_judged}

-- ---- lists

same_some : {X : Type 0} (x y : X) → Some x ≡ Some y → x ≡ y
same_some x y h = cc

get_here : {X : Type 0} (xs : List X) (y : X) (ys : List X) → slice_get (xs ++ y ∷ ys) (length xs) ≡ Some y
get_here [] y ys = refl
get_here (x ∷ xs) y ys = get_here xs y ys

get_front : {X : Type 0} (xs ys : List X) (k : ℕ) → k < length xs → slice_get (xs ++ ys) k ≡ slice_get xs k
get_front [] ys k h = absurd (omega arith)
get_front (x ∷ xs) ys zero h = refl
get_front (x ∷ xs) ys (suc k) h = get_front xs ys k (omega arith)

get_all : {X : Type 0} (P : X → Type 0) (xs : List X) (k : ℕ) (x : X) → All P xs → slice_get xs k ≡ Some x → P x
get_all P xs k x all h = subst P (get_or_from_slice_get xs k x x h) (all k x (slice_get_within xs k x h))

-- the place of an element of two lists, one behind the other
get_push : {X : Type 0} (xs : List X) (y x : X) (k : ℕ) → slice_get (xs ++ y ∷ []) k ≡ Some x → (slice_get xs k ≡ Some x) ⊎ ((k ≡ length xs) × (y ≡ x))
get_push [] y x zero h = inr (refl, same_some y x h)
get_push [] y x (suc k) h = absurd (let off : None ≡ Some x = h in cc)
get_push (z ∷ xs) y x zero h = inl h
get_push (z ∷ xs) y x (suc k) h = elim (get_push xs y x k h) [ inl a ↦ inl a | inr a ↦ inr (let same = a.0 in omega arith, a.1) ]

contains_at : (xs : List (List ℕ)) (k : ℕ) (x : List ℕ) → slice_get xs k ≡ Some x → Contains xs x
contains_at xs k x h = (k, slice_get_within xs k x h, get_or_from_slice_get xs k x x h)

-- ---- names

scope_push : (earlier : List Statement) (s : Statement) → scope_of (earlier ++ s ∷ []) ≡ scope_of earlier ++ entry_of s ∷ []
scope_push earlier s = map-append entry_of earlier (s ∷ [])

pub IsDistinct-nil : IsDistinct []
IsDistinct-nil = record { same = λ name i j h l. absurd (let off : None ≡ Some name = h in cc) }

IsDistinct-push : (scope : Scope) (e : List ℕ × ArrayType) → IsDistinct scope → ¬ Contains (scope_names scope) e.0 → IsDistinct (scope ++ e ∷ [])
IsDistinct-push scope e d fresh = record { same = λ name i j h l. at name i j (subst (λ (all : List (List ℕ)). slice_get all i ≡ Some name) names h) (subst (λ (all : List (List ℕ)). slice_get all j ≡ Some name) names l) }
  where
    names : scope_names (scope ++ e ∷ []) ≡ scope_names scope ++ e.0 ∷ []
    names = map-append (λ (p : List ℕ × ArrayType). p.0) scope (e ∷ [])

    new : (name : List ℕ) (i : ℕ) → slice_get (scope_names scope) i ≡ Some name → e.0 ≡ name → ⊥
    new name i h same = fresh (contains_at (scope_names scope) i e.0 (h ∙ ap Some (sym same)))

    at : (name : List ℕ) (i j : ℕ) → slice_get (scope_names scope ++ e.0 ∷ []) i ≡ Some name → slice_get (scope_names scope ++ e.0 ∷ []) j ≡ Some name → i ≡ j
    at name i j h l =
        elim (get_push (scope_names scope) e.0 name i h) [
          | inl a ↦ elim (get_push (scope_names scope) e.0 name j l) [ inl b ↦ d.same name i j a b | inr b ↦ absurd (new name i a b.1) ]
          | inr a ↦ elim (get_push (scope_names scope) e.0 name j l) [ inl b ↦ absurd (new name j b a.1) | inr b ↦ a.0 ∙ sym b.0 ]
        ]

-- ---- checked statements

pub typings_distinct : (scope : Scope) (stmts : List Stmt) (xs : List Statement) → IsDistinct scope → AreTypings scope stmts xs → IsDistinct (scope ++ scope_of xs)
typings_distinct scope [] [] d h = subst IsDistinct (sym (append-nil scope)) d
typings_distinct scope [] (x ∷ xs) d h = absurd h
typings_distinct scope (s ∷ stmts) [] d h = absurd h
typings_distinct scope (s ∷ stmts) (x ∷ xs) d h =
    subst IsDistinct (append_assoc scope (entry_of x ∷ []) (scope_of xs)) (typings_distinct (scope ++ entry_of x ∷ []) stmts xs (IsDistinct-push scope (entry_of x) d h.0.is_new) h.1)

pub typings_unique : (scope : Scope) (stmts : List Stmt) (xs ys : List Statement) → IsDistinct scope → AreTypings scope stmts xs → AreTypings scope stmts ys → xs ≡ ys
typings_unique scope [] [] [] d h l = refl
typings_unique scope [] [] (y ∷ ys) d h l = absurd l
typings_unique scope [] (x ∷ xs) ys d h l = absurd h
typings_unique scope (s ∷ stmts) [] ys d h l = absurd h
typings_unique scope (s ∷ stmts) (x ∷ xs) [] d h l = absurd l
typings_unique scope (s ∷ stmts) (x ∷ xs) (y ∷ ys) d h l =
    let first = same_statement scope d s x y h.0 l.0 in
    let rest = typings_unique (scope ++ entry_of x ∷ []) stmts xs ys (IsDistinct-push scope (entry_of x) d h.0.is_new) h.1 (subst (λ (z : Statement). AreTypings (scope ++ entry_of z ∷ []) stmts ys) (sym first) l.1) in
    λ k. first k ∷ rest k

typings_push : (scope : Scope) (stmts : List Stmt) (xs : List Statement) (stmt : Stmt) (s : Statement) → AreTypings scope stmts xs → IsStatementTyping (scope ++ scope_of xs) stmt s → AreTypings scope (stmts ++ stmt ∷ []) (xs ++ s ∷ [])
typings_push scope [] [] stmt s h l = (subst (λ (all : Scope). IsStatementTyping all stmt s) (append-nil scope) l, tt)
typings_push scope [] (x ∷ xs) stmt s h l = absurd h
typings_push scope (t ∷ stmts) [] stmt s h l = absurd h
typings_push scope (t ∷ stmts) (x ∷ xs) stmt s h l =
    (h.0, typings_push (scope ++ entry_of x ∷ []) stmts xs stmt s h.1 (subst (λ (all : Scope). IsStatementTyping all stmt s) (sym (append_assoc scope (entry_of x ∷ []) (scope_of xs))) l))

pub typings_counted : (scope : Scope) (stmts : List Stmt) (xs : List Statement) → AreTypings scope stmts xs → length xs ≡ length stmts
typings_counted scope [] [] h = refl
typings_counted scope [] (x ∷ xs) h = absurd h
typings_counted scope (s ∷ stmts) [] h = absurd h
typings_counted scope (s ∷ stmts) (x ∷ xs) h = let rest = typings_counted (scope ++ entry_of x ∷ []) stmts xs h.1 in omega arith

-- ---- spots

pub record IsCleanSpot (program : List Stmt) (spot : Spot) : Type 0 where
  pub none : (earlier : List Statement) → AreTypings [] (take spot.before program) earlier → (f : CheckFault) → Breaks earlier spot.site f → ⊥

-- a fault at a spot behind clean ones is the first
pub first_fault : (program : List Stmt) (front : List Spot) (spot : Spot) (after : List Spot) (earlier : List Statement) (f : CheckFault) → spots_from 0 program ≡ front ++ spot ∷ after → All (IsCleanSpot program) front
    → AreTypings [] (take spot.before program) earlier → Breaks earlier spot.site f → ((g : CheckFault) → Breaks earlier spot.site g → rank_of f ≤ rank_of g) → IsFirstFault program f
first_fault program front spot after earlier f is clean typings breaks first = record {
  place = length front;
  occurs = record { spot = spot; here = ap (λ all. slice_get all (length front)) is ∙ get_here front spot after; earlier = earlier; typings = typings; breaks = breaks };
  least_place = λ p g o.
      elim (cases_lt p (length front)) [
        | inl less ↦
            let there : slice_get front p ≡ Some o.spot = sym (get_front front (spot ∷ after) p less) ∙ sym (ap (λ all. slice_get all p) is) ∙ o.here in
            absurd ((get_all (IsCleanSpot program) front p o.spot clean there).none o.earlier o.typings g o.breaks)
        | inr more ↦ more
      ];
  least_rule = λ g o.
      let same : o.spot ≡ spot = same_some o.spot spot (sym o.here ∙ ap (λ all. slice_get all (length front)) is ∙ get_here front spot after) in
      let typed = subst (λ (s : Spot). AreTypings [] (take s.before program) o.earlier) same o.typings in
      let one : o.earlier ≡ earlier = typings_unique [] (take spot.before program) o.earlier earlier IsDistinct-nil typed typings in
      first g (subst (λ (s : Spot). Breaks earlier s.site g) same (subst (λ (all : List Statement). Breaks all o.spot.site g) one o.breaks));
}

-- the sites of a statement are clean spots where they are clean after the statements before it
spots_clean : (program done : List Stmt) (rest : List Stmt) (earlier : List Statement) (sites : List Site) → program ≡ done ++ rest → AreTypings [] done earlier → All (IsCleanSite earlier) sites → All (IsCleanSpot program) (map (spot_at (length done)) sites)
spots_clean program done rest earlier sites is typings clean =
    All-map (IsCleanSpot program) (spot_at (length done)) sites
    (All-weaker (IsCleanSite earlier) (λ site. IsCleanSpot program (spot_at (length done) site))
    (λ site c. record {
      none = λ other typed f breaks.
          let front : take (length done) program ≡ done = ap (take (length done)) is ∙ take_at done rest (length done) refl in
          let one : other ≡ earlier = typings_unique [] done other earlier IsDistinct-nil (subst (λ (all : List Stmt). AreTypings [] all other) front typed) typings in
          c.none f (subst (λ (all : List Statement). Breaks all site f) one breaks);
    })
    sites clean)

-- ---- the statements so far

record State (program done rest : List Stmt) (earlier : List Statement) (spots : List Spot) : Type 0 where
  is : program ≡ done ++ rest
  typings : AreTypings [] done earlier
  spots_are : spots_from 0 program ≡ spots ++ spots_from (length done) rest
  clean : All (IsCleanSpot program) spots

front_typings : (program done rest : List Stmt) (earlier : List Statement) → program ≡ done ++ rest → AreTypings [] done earlier → AreTypings [] (take (length done) program) earlier
front_typings program done rest earlier is h = subst (λ (all : List Stmt). AreTypings [] all earlier) (sym (ap (take (length done)) is ∙ take_at done rest (length done) refl)) h

pub record AllClean (program : List Stmt) (c : List Statement) : Type 0 where
  pub typings : AreTypings [] program c
  pub spots : List Spot
  pub spots_are : spots_from 0 program ≡ spots ++ (spot_at (length program) OutputSite ∷ spot_at (length program) WorkSite ∷ [])
  pub clean : All (IsCleanSpot program) spots

abbrev pub AllJudged : List Stmt → Result (List Statement) CheckFault → Type 0
AllJudged program (Ok c) = AllClean program c
AllJudged program (Err f) = IsFirstFault program f

state_distinct : (done : List Stmt) (earlier : List Statement) → AreTypings [] done earlier → IsDistinct (scope_of earlier)
state_distinct done earlier h = typings_distinct [] done earlier IsDistinct-nil h

state_push : (program done more : List Stmt) (earlier : List Statement) (spots : List Spot) (stmt : Stmt) (s : Statement) → State program done (stmt ∷ more) earlier spots → IsStatementTyping (scope_of earlier) stmt s
    → State program (done ++ stmt ∷ []) more (earlier ++ s ∷ []) (spots ++ map (spot_at (length done)) (sites_of stmt))
state_push program done more earlier spots stmt s state h = record {
  is = state.is ∙ sym (append_assoc done (stmt ∷ []) more);
  typings = typings_push [] done earlier stmt s state.typings h;
  spots_are =
      let counted : length done + 1 ≡ length (done ++ stmt ∷ []) = sym (length-append done (stmt ∷ [])) in
      state.spots_are ∙ sym (append_assoc spots (map (spot_at (length done)) (sites_of stmt)) (spots_from (length done + 1) more))
      ∙ ap (λ n. (spots ++ map (spot_at (length done)) (sites_of stmt)) ++ spots_from n more) counted;
  clean = All-append (IsCleanSpot program) spots (map (spot_at (length done)) (sites_of stmt)) state.clean
      (spots_clean program done (stmt ∷ more) earlier (sites_of stmt) state.is state.typings (sites_clean earlier (state_distinct done earlier state.typings) stmt s h));
}

fault_at : (program done more : List Stmt) (earlier : List Statement) (spots : List Spot) (stmt : Stmt) (f : CheckFault) → State program done (stmt ∷ more) earlier spots → IsFirstSite earlier (sites_of stmt) f → IsFirstFault program f
fault_at program done more earlier spots stmt f state h =
    let spot = spot_at (length done) in
    let before = map spot h.before in
    let rest = map spot h.after ++ spots_from (length done + 1) more in
    let own : map spot (sites_of stmt) ≡ before ++ spot h.site ∷ map spot h.after = ap (map spot) h.is ∙ map-append spot h.before (h.site ∷ h.after) in
    let all : spots_from 0 program ≡ (spots ++ before) ++ spot h.site ∷ rest =
    state.spots_are ∙ ap (λ xs. spots ++ (xs ++ spots_from (length done + 1) more)) own
    ∙ ap (λ xs. spots ++ xs) (append_assoc before (spot h.site ∷ map spot h.after) (spots_from (length done + 1) more))
    ∙ sym (append_assoc spots before (spot h.site ∷ rest)) in
    first_fault program (spots ++ before) (spot h.site) rest earlier f all
    (All-append (IsCleanSpot program) spots before state.clean (spots_clean program done (stmt ∷ more) earlier h.before state.is state.typings h.clean))
    (front_typings program done (stmt ∷ more) earlier state.is state.typings) h.breaks h.first

all_by : (program done rest : List Stmt) (earlier : List Statement) (spots : List Spot) → All KeepsStatement rest → State program done rest earlier spots → AllJudged program (judge_all earlier rest)
all_by program done [] earlier spots keeps state =
    let whole : program ≡ done = state.is ∙ append-nil done in
    record {
      typings = subst (λ (all : List Stmt). AreTypings [] all earlier) (sym whole) state.typings;
      spots = spots;
      spots_are = state.spots_are ∙ ap (λ n. spots ++ (spot_at n OutputSite ∷ spot_at n WorkSite ∷ [])) (sym (ap length whole));
      clean = state.clean;
    }
all_by program done (stmt ∷ more) earlier spots keeps state =
    by (judge_statement (scope_of earlier) stmt) (statement_judged earlier (state_distinct done earlier state.typings) stmt (All-head KeepsStatement stmt more keeps))
    (λ s h. all_by program (done ++ stmt ∷ []) more (earlier ++ s ∷ []) (spots ++ map (spot_at (length done)) (sites_of stmt)) (All-tail KeepsStatement stmt more keeps) (state_push program done more earlier spots stmt s state h))
  where
    by : (v : Result Statement CheckFault) → StatementJudged earlier stmt v → ((s : Statement) → IsStatementTyping (scope_of earlier) stmt s → AllJudged program (judge_all (earlier ++ s ∷ []) more))
        → AllJudged program (chain v (λ s. judge_all (earlier ++ s ∷ []) more))
    by (Ok s) h next = next s h
    by (Err f) h next = fault_at program done more earlier spots stmt f state h

start : (program : List Stmt) → State program [] program [] []
start program = record { is = refl; typings = tt; spots_are = refl; clean = All-nil (IsCleanSpot program) }

pub all_judged : (program : List Stmt) → All KeepsStatement program → AllJudged program (judge_all [] program)
all_judged program keeps = all_by program [] program [] [] keeps (start program)

-- ---- the end

abbrev pub ProgramJudged : List Stmt → Result (List Statement) CheckFault → Type 0
ProgramJudged program (Ok c) = IsProgramTyping program c
ProgramJudged program (Err f) = IsFirstFault program f

whole_typings : (program : List Stmt) (c : List Statement) → AreTypings [] program c → AreTypings [] (take (length program) program) c
whole_typings program c h = subst (λ (all : List Stmt). AreTypings [] all c) (sym (take_all (length program) program (omega arith))) h

no_output_fault : (c : List Statement) → list_any is_output c ≡ true → (f : CheckFault) → ¬ BreaksOutput c f
no_output_fault c is NoOutput h = let off : true ≡ false = sym is ∙ h in cc
no_output_fault c is f h = h

end_judged : (program : List Stmt) (c : List Statement) → AllClean program c → ProgramJudged program (judge_end c)
end_judged program c all = by (list_any is_output c) (nat_le (work_of c) work_limit) refl refl
  where
    n : ℕ
    n = length program

    more_work : nat_le (work_of c) work_limit ≡ false → work_limit < work_of c
    more_work is = elim (leb_tells (work_of c) work_limit) [ inl a ↦ absurd (let off : false ≡ true = sym is ∙ a.0 in cc) | inr a ↦ a.1 ]

    output_clean : list_any is_output c ≡ true → IsCleanSpot program (spot_at (length program) OutputSite)
    output_clean is = record {
      none = λ other typed f breaks.
          let one : other ≡ c = typings_unique [] (take (length program) program) other c IsDistinct-nil typed (whole_typings program c all.typings) in
          no_output_fault c is f (subst (λ (xs : List Statement). BreaksOutput xs f) one breaks);
    }

    by : (a b : Bool) → list_any is_output c ≡ a → nat_le (work_of c) work_limit ≡ b → ProgramJudged program (if a then (if b then Ok c else Err (TooMuchWork (work_of c))) else Err NoOutput)
    by true true p q = record { typings = all.typings; has_output = p; work = leb-true (work_of c) work_limit q }
    by true false p q =
        let spot = spot_at (length program) in
        first_fault program (all.spots ++ spot OutputSite ∷ []) (spot WorkSite) [] c (TooMuchWork (work_of c))
        (all.spots_are ∙ sym (append_assoc all.spots (spot OutputSite ∷ []) (spot WorkSite ∷ [])))
        (All-append (IsCleanSpot program) all.spots (spot OutputSite ∷ []) all.clean (All-cons (IsCleanSpot program) (spot OutputSite) [] (output_clean p) (All-nil (IsCleanSpot program))))
        (whole_typings program c all.typings) (refl, more_work q) (λ g h. omega arith)
    by false b p q =
        let spot = spot_at (length program) in
        first_fault program all.spots (spot OutputSite) (spot WorkSite ∷ []) c NoOutput all.spots_are all.clean (whole_typings program c all.typings) p (λ g h. omega arith)

pub program_judged : (program : List Stmt) → All KeepsStatement program → ProgramJudged program (judge_program program)
program_judged program keeps = by (judge_all [] program) (all_judged program keeps)
  where
    by : (v : Result (List Statement) CheckFault) → AllJudged program v → ProgramJudged program (chain v judge_end)
    by (Ok c) h = end_judged program c h
    by (Err f) h = h

-- ---- a checked program has no fault

clean_from : (program done rest : List Stmt) (earlier more : List Statement) (spots : List Spot) → State program done rest earlier spots → AreTypings (scope_of earlier) rest more → AllClean program (earlier ++ more)
clean_from program done [] earlier [] spots state h =
    let whole : program ≡ done = state.is ∙ append-nil done in
    record {
      typings = subst (λ (all : List Statement). AreTypings [] program all) (sym (append-nil earlier)) (subst (λ (all : List Stmt). AreTypings [] all earlier) (sym whole) state.typings);
      spots = spots;
      spots_are = state.spots_are ∙ ap (λ n. spots ++ (spot_at n OutputSite ∷ spot_at n WorkSite ∷ [])) (sym (ap length whole));
      clean = state.clean;
    }
clean_from program done [] earlier (x ∷ more) spots state h = absurd h
clean_from program done (stmt ∷ rest) earlier [] spots state h = absurd h
clean_from program done (stmt ∷ rest) earlier (s ∷ more) spots state h =
    subst (AllClean program) (append_assoc earlier (s ∷ []) more)
    (clean_from program (done ++ stmt ∷ []) rest (earlier ++ s ∷ []) more (spots ++ map (spot_at (length done)) (sites_of stmt)) (state_push program done rest earlier spots stmt s state h.0)
    (subst (λ (all : Scope). AreTypings all rest more) (sym (scope_push earlier s)) h.1))

no_work_fault : (c : List Statement) → work_of c ≤ work_limit → (f : CheckFault) → ¬ BreaksWork c f
no_work_fault c is (TooMuchWork need) h = let same = h.0 in let more = h.1 in absurd (omega arith)
no_work_fault c is f h = h

pub no_fault : (program : List Stmt) (c : List Statement) → IsProgramTyping program c → (p : ℕ) (f : CheckFault) → ¬ Occurs program p f
no_fault program c h p f o =
    let all = clean_from program [] program [] c [] (start program) h.typings in
    let spot = spot_at (length program) in
    let one : (other : List Statement) → AreTypings [] (take (length program) program) other → other ≡ c =
    λ other typed. typings_unique [] (take (length program) program) other c IsDistinct-nil typed (whole_typings program c h.typings) in
    let ends : All (IsCleanSpot program) (spot OutputSite ∷ spot WorkSite ∷ []) =
    All-cons (IsCleanSpot program) (spot OutputSite) (spot WorkSite ∷ []) (record { none = λ other typed g breaks. no_output_fault c h.has_output g (subst (λ (xs : List Statement). BreaksOutput xs g) (one other typed) breaks) })
    (All-cons (IsCleanSpot program) (spot WorkSite) [] (record { none = λ other typed g breaks. no_work_fault c h.work g (subst (λ (xs : List Statement). BreaksWork xs g) (one other typed) breaks) }) (All-nil (IsCleanSpot program))) in
    let clean : All (IsCleanSpot program) (spots_from 0 program) = subst (All (IsCleanSpot program)) (sym all.spots_are) (All-append (IsCleanSpot program) all.spots (spot OutputSite ∷ spot WorkSite ∷ []) all.clean ends) in
    (get_all (IsCleanSpot program) (spots_from 0 program) p o.spot clean o.here).none o.earlier o.typings f o.breaks
