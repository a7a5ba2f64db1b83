-- Stages that come to one thing, and fail to load only where a load may fail.
use Rattle.std.proofs.Common.{◌≡◌, inl, inr, ℕ, List, [], length, Option, Some, None, Result, Ok, Err, refl, sym, ap, subst, ◌∙◌, arith}
use Rattle.std.specs.Prelude.{decimal}
use Rattle.std.specs.Option.{option_map, option_to_list}
use Rattle.std.proofs.lemmas.Fmt.{decimal_injective}
use Rattle.ven_base.specs.declared.entry.Entry.{Entry}
use Rattle.ven_base.specs.Pairs.{Pairs}
use Rattle.ven_io.specs.Files.{Behaviour}
use Rattle.image_loader.specs.declared.fault.ImageFault.{ImageFault}
use Rattle.image_loader.specs.declared.fault.ImageFault.TheVariants as image_fault
use Rattle.image_loader.specs.Image.{ImageContents}
use Rattle.image_loader.specs.Loading.{IsLoading}
use Rattle.venice_asm.specs.declared.fault.AsmFault.{AsmFault}
use Rattle.venice_asm.specs.declared.fault.AsmFault.TheVariants as asm_fault
use Rattle.venice_asm.specs.Canonical.{canonical}
use Rattle.venice_asm.specs.Faults as texts
use Rattle.venice_asm.specs.Laws as text_laws
use Rattle.venice_machine.specs.declared.grants.GrantFault.{GrantFault}
use Rattle.venice_machine.specs.declared.grants.GrantFault.TheVariants as grant_fault
use Rattle.venice_machine.specs.declared.stop.Stop.{Stop}
use Rattle.venice_machine.specs.declared.stop.End.{End}
use Rattle.venice_machine.specs.declared.stop.End.TheVariants.{Halted, Stopped}
use Rattle.venice_machine.specs.Answers.{RunEnds}
use Rattle.venice_machine.specs.Grants as grant_lists
use Rattle.venice_machine.specs.State.{State}
use Rattle.array_file.specs.declared.fault.ArrayFault.{ArrayFault}
use Rattle.array_file.specs.declared.fault.ArrayFault.TheVariants as array_fault
use Rattle.array_file.specs.Faults as files_faults
use Rattle.array_file.specs.Laws as array_laws
use Rattle.array_syntax.specs.declared.fault.ParseFault.{ParseFault}
use Rattle.array_syntax.specs.declared.fault.ParseFault.TheVariants as parse_fault
use Rattle.array_syntax.specs.declared.program.Program.{Program}
use Rattle.array_syntax.specs.declared.program.Stmt.{Stmt}
use Rattle.array_syntax.specs.Faults as syntax
use Rattle.array_syntax.specs.Laws as syntax_laws
use Rattle.expr_split.specs.DeclaredTable.{input_table}
use Rattle.expr_split.specs.Laws.{SplitsAreOne}
use Rattle.expr_split.specs.Places.{IsSplitOf}
use Rattle.pass_plan.specs.Need.{need_of}
use Rattle.shape_check.specs.declared.fault.CheckFault.{CheckFault}
use Rattle.shape_check.specs.declared.fault.CheckFault.TheVariants as check_fault
use Rattle.shape_check.specs.Faults as rules
use Rattle.shape_check.specs.Laws.{HasNoFault, HasOneTyping, HasOneFirstFault}
use Rattle.shape_check.specs.Statement.{Statement}
use Rattle.venice_run.specs.declared.ending.Ending.{Ending}
use Rattle.venice_run.specs.declared.ending.Ending.TheVariants.{Refused, Failed}
use Rattle.venice_run.specs.declared.ending.Fault.TheVariants.{File, Memory}
use Rattle.venice_run.specs.declared.refusal.Kind.{Kind}
use Rattle.venice_run.specs.declared.refusal.Refusal.{Refusal}
use Rattle.venice_run.specs.declared.refusal.Refusal.TheVariants.{Usage, Scratchpad}
use Rattle.venice_run.specs.declared.refusal.Shortage.{Shortage}
use Rattle.venice_run.specs.declared.request.Request.{Request}
use Rattle.venice_run.specs.declared.request.Request.TheVariants.{Run, Build, Eval, Check, Explain, Exec, Asm, Disasm}
use Rattle.venice_run.specs.declared.request.Resources.{Resources}
use Rattle.venice_run.specs.Answer.{Answer, prints, saves_and_prints}
use Rattle.venice_run.specs.Asm.{Assembles, assembled, asm}
use Rattle.venice_run.specs.Build.{build}
use Rattle.venice_run.specs.Check.{check}
use Rattle.venice_run.specs.Commands.{stages_of, answer_to}
use Rattle.venice_run.specs.Compiled.{IsCompiled, compiled, saves_run}
use Rattle.venice_run.specs.Disasm.{disasm}
use Rattle.venice_run.specs.Endings.{parse_ending, check_ending, array_ending, grant_ending, image_ending, assembler_ending, machine_ending}
use Rattle.venice_run.specs.Eval.{eval}
use Rattle.venice_run.specs.Exec.{Fed, prints_run, fed_image, exec}
use Rattle.venice_run.specs.Explain.{explain}
use Rattle.venice_run.specs.Grants.{ReadsGrants, grants_in, grants_under}
use Rattle.venice_run.specs.Images.{image_in, image_under}
use Rattle.venice_run.specs.Inputs.{Reads, fitting, arrays_in, arrays_under, inputs_under}
use Rattle.venice_run.specs.Laws.{ShowsOne, IsPlain}
use Rattle.venice_run.specs.Plan.{Planned, splits, has_room, plan_of, plan_under}
use Rattle.venice_run.specs.Programs.{Parses, Checks, program_in, program_under}
use Rattle.venice_run.specs.Reading.{text_under, whole_text, loads, limit_of}
use Rattle.venice_run.specs.Run.{run}
use Rattle.venice_run.specs.Stage.{Then, Ends, Goes, step, gives, refuses}
use Rattle.venice_run.specs.Words.{AreInRange, Spells, words_of}
use Rattle.venice_run.proofs.NoFile.{parse_no_file, check_no_file, array_no_file, grant_no_file, image_no_file, assembler_no_file, machine_no_file}
use Rattle.venice_run.proofs.Answered.{one_program, one_refusal, no_misfit, one_misfit}
use Rattle.venice_run.proofs.GrantTexts.{one_list, none_at_faults, one_refusal as one_grant_refusal}

-- the files show one thing a name, and what the crates below say has one answer
pub record Settled (files : Behaviour) : Type 0 where
  pub shows : ShowsOne files
  pub programs : syntax_laws.HasOneReading
  pub typings : HasOneTyping
  pub first_faults : HasOneFirstFault
  pub no_fault : HasNoFault
  pub arrays : array_laws.HasOneReading
  pub at_faults : array_laws.DenotesNothingAtFaults
  pub array_answers : array_laws.HasOneAnswer
  pub splits : SplitsAreOne
  pub texts : text_laws.HasOneImage
  pub at_text_faults : text_laws.DenotesNothingAtFaults
  pub text_answers : text_laws.HasOneAnswer

-- some load may fail
pub record MayFail (files : Behaviour) : Type 0 where
  pub name : List ℕ
  pub fails : files.load_may_fail name

pub record Lawful {A : Type 0} (files : Behaviour) (stage : Result A Ending → Type 0) : Type 0 where
  pub once : Settled files → (a b : Result A Ending) → stage a → stage b → IsPlain a → IsPlain b → a ≡ b
  pub fails : stage (Err (Failed File)) → MayFail files

ok_is : {A : Type 0} (a b : A) → ◌≡◌ {A = Result A Ending} (Ok a) (Ok b) → a ≡ b
ok_is a b e = cc

err_is : {A : Type 0} (a b : Ending) → ◌≡◌ {A = Result A Ending} (Err a) (Err b) → a ≡ b
err_is a b e = cc

not_both : {A : Type 0} (a : A) (b : Ending) → ◌≡◌ {A = Result A Ending} (Ok a) (Err b) → ⊥
not_both a b e = cc

plain_err : {B : Type 0} (A : Type 0) (r : Result B Ending) (e : Ending) → r ≡ Err e → IsPlain r → IsPlain {A = A} (Err e)
plain_err {B} A r (Refused refusal) is plain = tt
plain_err {B} A r (Failed fault) is plain = subst (λ (q : Result B Ending). IsPlain q) is plain

-- one stage behind another
pub then_lawful : {A B : Type 0} {files : Behaviour} {first : Result A Ending → Type 0} {next : A → Result B Ending → Type 0}
    → Lawful files first → ((value : A) → Lawful files (next value)) → Lawful files (Then first next)
then_lawful {A} {B} {files} {first} {next} one two = record { once = once; fails = fails }
  where
    once : Settled files → (a b : Result B Ending) → Then first next a → Then first next b → IsPlain a → IsPlain b → a ≡ b
    once sure a b (Ends e is same) (Ends f is_f same_f) pa pb =
        same ∙ ap Err (err_is {A = A} e f (one.once sure (Err e) (Err f) is is_f (plain_err A a e same pa) (plain_err A b f same_f pb))) ∙ sym same_f
    once sure a b (Ends e is same) (Goes v is_v goes) pa pb =
        absurd (not_both v e (sym (one.once sure (Err e) (Ok v) is is_v (plain_err A a e same pa) tt)))
    once sure a b (Goes v is_v goes) (Ends e is same) pa pb =
        absurd (not_both v e (one.once sure (Ok v) (Err e) is_v is tt (plain_err A b e same pb)))
    once sure a b (Goes v is_v goes) (Goes w is_w goes_w) pa pb =
        let v_is : v ≡ w = ok_is v w (one.once sure (Ok v) (Ok w) is_v is_w tt tt) in
        (two w).once sure a b (subst (λ (x : A). next x a) v_is goes) goes_w pa pb

    fails : Then first next (Err (Failed File)) → MayFail files
    fails (Ends e is same) = one.fails (subst (λ (x : Ending). first (Err x)) (sym (err_is {A = B} (Failed File) e same)) is)
    fails (Goes v is_v goes) = (two v).fails goes

some_is : {A : Type 0} (x y : A) → ◌≡◌ {A = Option A} (Some x) (Some y) → x ≡ y
some_is x y e = cc

not_none : {A : Type 0} (x : A) → ◌≡◌ {A = Option A} (Some x) None → ⊥
not_none x e = cc

-- a load
pub load_lawful : (files : Behaviour) (name : List ℕ) (limit : ℕ) → Lawful files (text_under files name limit)
unfolding text_under
load_lawful files name limit = record { once = once; fails = λ may. record { name = name; fails = may } }
  where
    once : Settled files → (a b : Result (Option (List ℕ)) Ending) → text_under files name limit a → text_under files name limit b → IsPlain a → IsPlain b
        → a ≡ b
    once sure (Ok (Some a)) (Ok (Some b)) p q pa pb = ap (λ (t : List ℕ). Ok (Some t)) (some_is a b (sure.shows name (Some a) (Some b) p.0 q.0))
    once sure (Ok (Some a)) (Ok None) p q pa pb =
        let same : a ≡ q.0 = some_is a q.0 (sure.shows name (Some a) (Some q.0) p.0 q.1) in absurd (omega (arith, p.1, q.2, ap length same))
    once sure (Ok None) (Ok (Some b)) p q pa pb =
        let same : b ≡ p.0 = some_is b p.0 (sure.shows name (Some b) (Some p.0) q.0 p.1) in absurd (omega (arith, q.1, p.2, ap length same))
    once sure (Ok None) (Ok None) p q pa pb = refl
    once sure (Ok (Some a)) (Err (Refused r)) p q pa pb = absurd (not_none a (sure.shows name (Some a) None p.0 q.0))
    once sure (Ok None) (Err (Refused r)) p q pa pb = absurd (not_none p.0 (sure.shows name (Some p.0) None p.1 q.0))
    once sure (Err (Refused r)) (Ok (Some b)) p q pa pb = absurd (not_none b (sure.shows name (Some b) None q.0 p.0))
    once sure (Err (Refused r)) (Ok None) p q pa pb = absurd (not_none q.0 (sure.shows name (Some q.0) None q.1 p.0))
    once sure (Err (Refused r)) (Err (Refused s)) p q pa pb = rw (p.1, q.1) refl
    once sure (Err (Failed f)) b p q pa pb = absurd pa
    once sure (Ok (Some a)) (Err (Failed f)) p q pa pb = absurd pb
    once sure (Ok None) (Err (Failed f)) p q pa pb = absurd pb
    once sure (Err (Refused r)) (Err (Failed f)) p q pa pb = absurd pb

pub refuses_lawful : {A : Type 0} (files : Behaviour) (refusal : Refusal) → Lawful {A = A} files (refuses refusal)
refuses_lawful files refusal = record { once = λ sure a b p q pa pb. p ∙ sym q; fails = λ e. absurd cc }

-- room in a scratchpad
room_lawful : (files : Behaviour) (need spad : ℕ) → Lawful files (has_room need spad)
room_lawful files need spad = record { once = once; fails = λ p. absurd (no_file p.0 p.2) }
  where
    no_file : (shortage : Shortage) → Failed File ≡ Refused (Scratchpad shortage) → ⊥
    no_file shortage e = cc

    once : Settled files → (a b : Result (Unit {0}) Ending) → has_room need spad a → has_room need spad b → IsPlain a → IsPlain b → a ≡ b
    once sure (Ok u) (Ok v) p q pa pb = refl
    once sure (Ok u) (Err e) p q pa pb = absurd (omega (arith, p, q.1.0))
    once sure (Err e) (Ok u) p q pa pb = absurd (omega (arith, q, p.1.0))
    once sure (Err e) (Err f) p q pa pb = rw (p.2, q.2, p.1.1, q.1.1) refl

memory_plain : (A : Type 0) (e : Ending) → e ≡ Failed Memory → IsPlain {A = A} (Err e) → ⊥
memory_plain A e is plain = subst (λ (x : Ending). IsPlain {A = A} (Err x)) is plain

gives_lawful : {A : Type 0} (files : Behaviour) (is : A → Type 0) → (Settled files → (a b : A) → is a → is b → a ≡ b) → Lawful files (gives is)
gives_lawful {A} files is one = record { once = once; fails = λ e. absurd cc }
  where
    once : Settled files → (a b : Result A Ending) → gives is a → gives is b → IsPlain a → IsPlain b → a ≡ b
    once sure (Ok a) (Ok b) p q pa pb = ap Ok (one sure a b p q)
    once sure (Ok a) (Err e) p q pa pb = absurd (memory_plain A e q pb)
    once sure (Err e) b p q pa pb = absurd (memory_plain A e p pa)

prints_lawful : (files : Behaviour) (text : List ℕ) → Lawful files (prints text)
prints_lawful files text = gives_lawful files (λ (answer : Answer). answer ≡ record { save = None; text = text; stop = None }) (λ sure a b p q. p ∙ sym q)

saves_lawful : (files : Behaviour) (name bytes text : List ℕ) → Lawful files (saves_and_prints name bytes text)
saves_lawful files name bytes text =
    gives_lawful files
    (λ (answer : Answer). answer ≡ record { save = Some (record { name = name; bytes = bytes }); text = text; stop = None })
    (λ sure a b p q. p ∙ sym q)

-- ---- the stages that commands share

-- a call of a layer below that has one answer, faults of the outside apart
record HasOne {A E : Type 0} (ending_of : E → Ending) (is : Result A E → Type 0) : Type 0 where
  values : (a b : A) → is (Ok a) → is (Ok b) → a ≡ b
  apart : (a : A) (f : E) → is (Ok a) → is (Err f) → IsPlain {A = A} (Err (ending_of f)) → ⊥
  faults : (f g : E) → is (Err f) → is (Err g) → IsPlain {A = A} (Err (ending_of f)) → IsPlain {A = A} (Err (ending_of g)) → f ≡ g

plain_as : (A : Type 0) (e f : Ending) → e ≡ f → IsPlain {A = A} (Err e) → IsPlain {A = A} (Err f)
plain_as A e f same plain = subst (λ (x : Ending). IsPlain {A = A} (Err x)) same plain

step_lawful : {A E : Type 0} (files : Behaviour) (ending_of : E → Ending) (is : Result A E → Type 0) → (Settled files → HasOne ending_of is)
    → ((f : E) → Failed File ≡ ending_of f → ⊥) → Lawful files (step ending_of is)
step_lawful {A} {E} files ending_of is one no_file = record { once = once; fails = λ p. absurd (no_file p.0 p.2) }
  where
    once : Settled files → (a b : Result A Ending) → step ending_of is a → step ending_of is b → IsPlain a → IsPlain b → a ≡ b
    once sure (Ok a) (Ok b) p q pa pb = ap Ok ((one sure).values a b p q)
    once sure (Ok a) (Err e) p q pa pb = absurd ((one sure).apart a q.0 p q.1 (plain_as A e (ending_of q.0) q.2 pb))
    once sure (Err e) (Ok b) p q pa pb = absurd ((one sure).apart b p.0 q p.1 (plain_as A e (ending_of p.0) p.2 pa))
    once sure (Err e) (Err f) p q pa pb =
        let same : p.0 ≡ q.0 = (one sure).faults p.0 q.0 p.1 q.1 (plain_as A e (ending_of p.0) p.2 pa) (plain_as A f (ending_of q.0) q.2 pb) in
        ap Err (p.2 ∙ ap ending_of same ∙ sym q.2)

-- a text within its limit
whole_lawful : (files : Behaviour) (kind : Kind) (text : Option (List ℕ)) → Lawful files (whole_text kind text)
whole_lawful files kind (Some text) = record { once = λ sure a b p q pa pb. p ∙ sym q; fails = λ e. absurd cc }
whole_lawful files kind None = refuses_lawful files _

loads_lawful : (files : Behaviour) (name : List ℕ) (kind : Kind) → Lawful files (loads files name kind)
unfolding loads
loads_lawful files name kind = then_lawful (load_lawful files name (limit_of kind)) (λ text. whole_lawful files kind text)

-- the program of a text
parse_refused : (A : Type 0) (text : List ℕ) (fault : ParseFault) → syntax.IsAnswered text fault → IsPlain {A = A} (Err (parse_ending fault))
    → syntax.IsRefused text fault
parse_refused A text parse_fault.Memory is plain = absurd plain
parse_refused A text fault is plain = is

parses_one : (files : Behaviour) (text : List ℕ) → Settled files → HasOne parse_ending (Parses text)
parses_one files text sure = record {
  values = one_program sure.programs text;
  apart = λ a f p q plain. (let refused = parse_refused Program text f q plain in p.faultless refused.fault refused.first.here);
  faults = λ f g p q pf pg. one_refusal text f g (parse_refused Program text f p pf) (parse_refused Program text g q pg);
}

check_refused : (A : Type 0) (stmts : List Stmt) (fault : CheckFault) → rules.IsAnswered stmts fault → IsPlain {A = A} (Err (check_ending fault))
    → rules.IsFirstFault stmts fault
check_refused A stmts check_fault.Memory is plain = absurd plain
check_refused A stmts fault is plain = is

checks_one : (files : Behaviour) (stmts : List Stmt) → Settled files → HasOne check_ending (Checks stmts)
checks_one files stmts sure = record {
  values = sure.typings stmts;
  apart = λ a f p q plain. (let refused = check_refused (List Statement) stmts f q plain in sure.no_fault stmts a p refused.place f refused.occurs);
  faults = λ f g p q pf pg. sure.first_faults stmts f g (check_refused (List Statement) stmts f p pf) (check_refused (List Statement) stmts g q pg);
}

program_in_lawful : (files : Behaviour) (text : List ℕ) → Lawful files (program_in text)
unfolding program_in
program_in_lawful files text =
    then_lawful (step_lawful files parse_ending (Parses text) (parses_one files text) parse_no_file)
    (λ program. step_lawful files check_ending (Checks program.stmts) (checks_one files program.stmts) check_no_file)

program_lawful : (files : Behaviour) (name : List ℕ) → Lawful files (program_under files name)
unfolding program_under
program_lawful files name = then_lawful (loads_lawful files name _) (λ text. program_in_lawful files text)

-- the inputs of a program
array_refused : (A : Type 0) (text : List ℕ) (fault : ArrayFault) → files_faults.IsAnswered text fault → IsPlain {A = A} (Err (array_ending fault))
    → files_faults.IsRefused text fault
array_refused A text array_fault.Memory is plain = absurd plain
array_refused A text fault is plain = is

reads_one : (files : Behaviour) (text : List ℕ) → Settled files → HasOne array_ending (Reads text)
reads_one files text sure = record {
  values = sure.arrays text;
  apart = λ a f p q plain. (let refused = array_refused Pairs text f q plain in sure.at_faults text a refused.fault p refused.first.here);
  faults = λ f g p q pf pg. sure.array_answers text f g (array_refused Pairs text f p pf) (array_refused Pairs text g q pg);
}

fitting_lawful : (files : Behaviour) (table : List Entry) (arrays : Pairs) → Lawful files (fitting table arrays)
fitting_lawful files table arrays = record { once = once; fails = λ e. absurd cc }
  where
    once : Settled files → (a b : Result Pairs Ending) → fitting table arrays a → fitting table arrays b → IsPlain a → IsPlain b → a ≡ b
    once sure (Ok a) (Ok b) p q pa pb = ap Ok (p.0 ∙ sym q.0)
    once sure (Ok a) (Err (Refused r)) p q pa pb = absurd (no_misfit arrays table q.1.misfit p.1 q.1.first.here)
    once sure (Err (Refused r)) (Ok b) p q pa pb = absurd (no_misfit arrays table p.1.misfit q.1 p.1.first.here)
    once sure (Err (Refused r)) (Err (Refused s)) p q pa pb = rw (p.2, q.2, one_misfit arrays table p.0 q.0 p.1 q.1) refl
    once sure (Err (Failed f)) b p q pa pb = absurd pa
    once sure (Ok a) (Err (Failed f)) p q pa pb = absurd pb
    once sure (Err (Refused r)) (Err (Failed f)) p q pa pb = absurd pb

arrays_in_lawful : (files : Behaviour) (text : List ℕ) → Lawful files (arrays_in text)
unfolding arrays_in
arrays_in_lawful files text = step_lawful files array_ending (Reads text) (reads_one files text) array_no_file

arrays_lawful : (files : Behaviour) (name : List ℕ) → Lawful files (arrays_under files name)
unfolding arrays_under
arrays_lawful files name = then_lawful (loads_lawful files name _) (λ text. arrays_in_lawful files text)

inputs_lawful : (files : Behaviour) (name : List ℕ) (table : List Entry) → Lawful files (inputs_under files name table)
unfolding inputs_under
inputs_lawful files name table = then_lawful (arrays_lawful files name) (λ arrays. fitting_lawful files table arrays)

splits_lawful : (files : Behaviour) (program : List Statement) → Lawful files (splits program)
splits_lawful files program = gives_lawful files (IsSplitOf program) (λ sure a b p q. sure.splits program a b p q)

plan_lawful : (files : Behaviour) (program : List Statement) (spad : ℕ) → Lawful files (plan_of program spad)
unfolding plan_of
plan_lawful files program spad =
    then_lawful (splits_lawful files program) (λ split.
    then_lawful (room_lawful files (need_of split.passes) spad) (λ _.
    gives_lawful files (λ (planned : Planned). planned ≡ record { program = program; split = split }) (λ sure a b p q. p ∙ sym q)))

plan_under_lawful : (files : Behaviour) (program : List ℕ) (spad : ℕ) → Lawful files (plan_under files program spad)
unfolding plan_under
plan_under_lawful files program spad = then_lawful (program_lawful files program) (λ checked. plan_lawful files checked spad)

compiled_lawful : (files : Behaviour) (planned : Planned) (spad : ℕ) → Lawful files (compiled planned spad)
unfolding compiled
compiled_lawful files planned spad = gives_lawful files (IsCompiled planned spad) (λ sure a b p q. p.is ∙ sym q.is)

-- the image of bytes
image_plain : (A : Type 0) (fault : ImageFault) → fault ≡ image_fault.Memory → IsPlain {A = A} (Err (image_ending fault)) → ⊥
image_plain A fault is plain = subst (λ (f : ImageFault). IsPlain {A = A} (Err (image_ending f))) is plain

loads_one : (files : Behaviour) (bytes : List ℕ) → Settled files → HasOne image_ending (IsLoading bytes)
loads_one files bytes sure = record {
  values = λ a b p q. p.only b q.found q.spelled;
  apart = λ a f p q plain. image_plain ImageContents f (q.only a p.found p.spelled) plain;
  faults = faults;
}
  where
    faults : (f g : ImageFault) → IsLoading bytes (Err f) → IsLoading bytes (Err g) → IsPlain {A = ImageContents} (Err (image_ending f))
        → IsPlain {A = ImageContents} (Err (image_ending g)) → f ≡ g
    faults f g p q pf pg =
        elim p.fault [
          | inl memory ↦ absurd (image_plain ImageContents f memory pf)
          | inr first ↦ elim (q.exact f first) [
            | inl memory ↦ absurd (image_plain ImageContents g memory pg)
            | inr same ↦ sym same
          ]
        ]

image_in_lawful : (files : Behaviour) (bytes : List ℕ) → Lawful files (image_in bytes)
unfolding image_in
image_in_lawful files bytes = step_lawful files image_ending (IsLoading bytes) (loads_one files bytes) image_no_file

image_lawful : (files : Behaviour) (name : List ℕ) → Lawful files (image_under files name)
unfolding image_under
image_lawful files name = then_lawful (loads_lawful files name _) (λ bytes. image_in_lawful files bytes)

-- the grants of a text
grants_refused : (A : Type 0) (text : List ℕ) (fault : GrantFault) → grant_lists.IsAnswered text fault → IsPlain {A = A} (Err (grant_ending fault))
    → grant_lists.IsRefused text fault
grants_refused A text grant_fault.Memory is plain = absurd plain
grants_refused A text fault is plain = is

grants_one : (files : Behaviour) (text : List ℕ) → Settled files → HasOne grant_ending (ReadsGrants text)
grants_one files text sure = record {
  values = one_list text;
  apart = λ a f p q plain. none_at_faults text a f p (grants_refused (List ℕ) text f q plain);
  faults = λ f g p q pf pg. one_grant_refusal text f g (grants_refused (List ℕ) text f p pf) (grants_refused (List ℕ) text g q pg);
}

grants_in_lawful : (files : Behaviour) (text : List ℕ) → Lawful files (grants_in text)
unfolding grants_in
grants_in_lawful files text = step_lawful files grant_ending (ReadsGrants text) (grants_one files text) grant_no_file

grants_lawful : (files : Behaviour) (name : Option (List ℕ)) → Lawful files (grants_under files name)
unfolding grants_under
grants_lawful files None = record { once = λ sure a b p q pa pb. p ∙ sym q; fails = λ e. absurd cc }
grants_lawful files (Some name) = then_lawful (loads_lawful files name _) (λ text. grants_in_lawful files text)

-- the image of a text
text_refused : (A : Type 0) (text : List ℕ) (fault : AsmFault) → texts.IsAnswered text fault → IsPlain {A = A} (Err (assembler_ending fault))
    → texts.IsRefused text fault
text_refused A text asm_fault.Memory is plain = absurd plain
text_refused A text fault is plain = is

assembles_one : (files : Behaviour) (text : List ℕ) → Settled files → HasOne assembler_ending (Assembles text)
assembles_one files text sure = record {
  values = sure.texts text;
  apart = λ a f p q plain. sure.at_text_faults text a f p (text_refused ImageContents text f q plain);
  faults = λ f g p q pf pg. sure.text_answers text f g (text_refused ImageContents text f p pf) (text_refused ImageContents text g q pg);
}

assembled_lawful : (files : Behaviour) (text : List ℕ) → Lawful files (assembled text)
unfolding assembled
assembled_lawful files text = step_lawful files assembler_ending (Assembles text) (assembles_one files text) assembler_no_file

-- the end of a run
one_stop : (f g : Stop) → ◌≡◌ {A = Option End} (Some (Stopped f)) (Some (Stopped g)) → f ≡ g
one_stop f g e = cc

not_halted : (f : Stop) → ◌≡◌ {A = Option End} (Some Halted) (Some (Stopped f)) → ⊥
not_halted f e = cc

runs_one : (files : Behaviour) (state : State) → Settled files → HasOne machine_ending (RunEnds state)
runs_one files state sure = record {
  values = λ a b p q. p.1 ∙ sym q.1;
  apart = λ a f p q plain. not_halted f (sym p.0 ∙ q);
  faults = λ f g p q pf pg. one_stop f g (sym p ∙ q);
}

prints_run_lawful : (files : Behaviour) (table : List Entry) (state : State) → Lawful files (prints_run table state)
unfolding prints_run
prints_run_lawful files table state =
    then_lawful (step_lawful files machine_ending (RunEnds state) (runs_one files state) machine_no_file) (λ counts. prints_lawful files _)

-- ---- the commands

eval_lawful : (files : Behaviour) (program inputs : List ℕ) → Lawful files (eval files program inputs)
unfolding eval
eval_lawful files program inputs =
    then_lawful (program_lawful files program) (λ checked.
    then_lawful (inputs_lawful files inputs (input_table checked)) (λ arrays. prints_lawful files _))

check_lawful : (files : Behaviour) (program : List ℕ) (spad : ℕ) → Lawful files (check files program spad)
unfolding check
check_lawful files program spad = then_lawful (plan_under_lawful files program spad) (λ planned. prints_lawful files _)

explain_lawful : (files : Behaviour) (program : List ℕ) → Lawful files (explain files program)
unfolding explain
explain_lawful files program =
    then_lawful (program_lawful files program) (λ checked.
    then_lawful (splits_lawful files checked) (λ split. prints_lawful files _))

saves_run_lawful : (files : Behaviour) (image : List ℕ) (planned : Planned) (lanes spad : ℕ) (arrays : Pairs) (grants : List ℕ)
    → Lawful files (saves_run image planned lanes spad arrays grants)
unfolding saves_run
saves_run_lawful files image planned lanes spad arrays grants =
    then_lawful (compiled_lawful files planned spad) (λ made. saves_lawful files image _ _)

run_lawful : (files : Behaviour) (program inputs image : List ℕ) (lanes spad : ℕ) (grants : Option (List ℕ))
    → Lawful files (run files program inputs image lanes spad grants)
unfolding run
run_lawful files program inputs image lanes spad grants =
    then_lawful (plan_under_lawful files program spad) (λ planned.
    then_lawful (inputs_lawful files inputs (input_table planned.program)) (λ arrays.
    then_lawful (grants_lawful files grants) (λ list. saves_run_lawful files image planned lanes spad arrays list)))

build_lawful : (files : Behaviour) (program image : List ℕ) (spad : ℕ) → Lawful files (build files program image spad)
unfolding build
build_lawful files program image spad =
    then_lawful (plan_under_lawful files program spad) (λ planned.
    then_lawful (compiled_lawful files planned spad) (λ made. saves_lawful files image _ []))

fed_lawful : (files : Behaviour) (image inputs : List ℕ) (spad : ℕ) → Lawful files (fed_image files image inputs spad)
unfolding fed_image
fed_lawful files image inputs spad =
    then_lawful (image_lawful files image) (λ loaded.
    then_lawful (room_lawful files loaded.spad spad) (λ _.
    then_lawful (inputs_lawful files inputs loaded.arrays) (λ arrays.
    gives_lawful files (λ (fed : Fed). fed ≡ record { image = loaded; arrays = arrays }) (λ sure a b p q. p ∙ sym q))))

exec_lawful : (files : Behaviour) (image inputs : List ℕ) (resources : Resources) (grants : Option (List ℕ))
    → Lawful files (exec files image inputs resources grants)
unfolding exec
exec_lawful files image inputs resources grants =
    then_lawful (fed_lawful files image inputs resources.spad) (λ fed.
    then_lawful (grants_lawful files grants) (λ list. prints_run_lawful files fed.image.arrays _))

asm_lawful : (files : Behaviour) (text image : List ℕ) → Lawful files (asm files text image)
unfolding asm
asm_lawful files text image =
    then_lawful (loads_lawful files text _) (λ lines.
    then_lawful (assembled_lawful files lines) (λ denoted. saves_lawful files image _ []))

disasm_lawful : (files : Behaviour) (image : List ℕ) → Lawful files (disasm files image)
unfolding disasm
disasm_lawful files image = then_lawful (image_lawful files image) (λ loaded. prints_lawful files (canonical loaded))

-- each request's stages
stages_lawful : (files : Behaviour) (request : Request) → Lawful files (stages_of files request)
stages_lawful files (Run program inputs image lanes spad grants) =
    run_lawful files program.now inputs.now image.now lanes spad (option_map (λ name. name.now) grants)
stages_lawful files (Build program image spad) = build_lawful files program.now image.now spad
stages_lawful files (Eval program inputs) = eval_lawful files program.now inputs.now
stages_lawful files (Check program spad) = check_lawful files program.now spad
stages_lawful files (Explain program) = explain_lawful files program.now
stages_lawful files (Exec image inputs resources grants) = exec_lawful files image.now inputs.now resources (option_map (λ name. name.now) grants)
stages_lawful files (Asm text image) = asm_lawful files text.now image.now
stages_lawful files (Disasm image) = disasm_lawful files image.now

-- a name that may be there
one_name : (a b : Option (List ℕ)) → option_to_list a ≡ option_to_list b → a ≡ b
one_name None None e = refl
one_name (Some x) (Some y) e = let same : x ≡ y = cc in ap Some same
one_name None (Some y) e = absurd cc
one_name (Some x) None e = absurd cc

-- numbers whose decimals are the same
same_resources : (r s : Resources) → AreInRange r → AreInRange s → decimal r.lanes ≡ decimal s.lanes → decimal r.spad ≡ decimal s.spad
    → decimal r.budget ≡ decimal s.budget → r ≡ s
same_resources r s in_r in_s lanes spads budgets =
    let lanes_are : r.lanes ≡ s.lanes = decimal_injective r.lanes s.lanes (omega (arith, in_r.lanes.1)) (omega (arith, in_s.lanes.1)) lanes in
    let spads_are : r.spad ≡ s.spad = decimal_injective r.spad s.spad (omega (arith, in_r.spad.1)) (omega (arith, in_s.spad.1)) spads in
    let budgets_are : r.budget ≡ s.budget = decimal_injective r.budget s.budget (omega (arith, in_r.budget.1)) (omega (arith, in_s.budget.1)) budgets in
    λ i. record { lanes = lanes_are i; spad = spads_are i; budget = budgets_are i }

-- words spell one request, but for where its names lie in memory
same_stages : (files : Behaviour) (words : List (List ℕ)) (r s : Request) → Spells words r → Spells words s → (b : Result Answer Ending) → stages_of files s b
    → stages_of files r b
same_stages files words (Run p i m l n g) (Run q j k o t f) spells spells_s b h =
    let e : words_of (Run p i m l n g) ≡ words_of (Run q j k o t f) = sym spells.words_are ∙ spells_s.words_are in
    let programs : p.now ≡ q.now = cc in
    let inputs : i.now ≡ j.now = cc in
    let images : m.now ≡ k.now = cc in
    let lane_words : decimal l ≡ decimal o = cc in
    let spad_words : decimal n ≡ decimal t = cc in
    let names : option_to_list (option_map (λ name. name.now) g) ≡ option_to_list (option_map (λ name. name.now) f) = cc in
    let lanes : l ≡ o = decimal_injective l o (omega (arith, spells.in_range.0.1)) (omega (arith, spells_s.in_range.0.1)) lane_words in
    let spads : n ≡ t = decimal_injective n t (omega (arith, spells.in_range.1.1)) (omega (arith, spells_s.in_range.1.1)) spad_words in
    let grants = one_name (option_map (λ name. name.now) g) (option_map (λ name. name.now) f) names in
    rw (programs, inputs, images, lanes, spads, grants) h
same_stages files words (Run p i m l n g) s spells spells_s b h = absurd cc
same_stages files words (Build p m n) (Build q k t) spells spells_s b h =
    let e : words_of (Build p m n) ≡ words_of (Build q k t) = sym spells.words_are ∙ spells_s.words_are in
    let programs : p.now ≡ q.now = cc in
    let images : m.now ≡ k.now = cc in
    let spad_words : decimal n ≡ decimal t = cc in
    let spads : n ≡ t = decimal_injective n t (omega (arith, spells.in_range.1)) (omega (arith, spells_s.in_range.1)) spad_words in
    rw (programs, images, spads) h
same_stages files words (Build p m n) s spells spells_s b h = absurd cc
same_stages files words (Eval p i) (Eval q j) spells spells_s b h =
    let e : words_of (Eval p i) ≡ words_of (Eval q j) = sym spells.words_are ∙ spells_s.words_are in
    let programs : p.now ≡ q.now = cc in
    let inputs : i.now ≡ j.now = cc in
    rw (programs, inputs) h
same_stages files words (Eval p i) s spells spells_s b h = absurd cc
same_stages files words (Check p n) (Check q t) spells spells_s b h =
    let e : words_of (Check p n) ≡ words_of (Check q t) = sym spells.words_are ∙ spells_s.words_are in
    let programs : p.now ≡ q.now = cc in
    let spads : decimal n ≡ decimal t = cc in
    let sizes : n ≡ t = decimal_injective n t (omega (arith, spells.in_range.1)) (omega (arith, spells_s.in_range.1)) spads in
    rw (programs, sizes) h
same_stages files words (Check p n) s spells spells_s b h = absurd cc
same_stages files words (Explain p) (Explain q) spells spells_s b h =
    let e : words_of (Explain p) ≡ words_of (Explain q) = sym spells.words_are ∙ spells_s.words_are in
    let programs : p.now ≡ q.now = cc in
    rw programs h
same_stages files words (Explain p) s spells spells_s b h = absurd cc
same_stages files words (Exec m i r g) (Exec n j s k) spells spells_s b h =
    let e : words_of (Exec m i r g) ≡ words_of (Exec n j s k) = sym spells.words_are ∙ spells_s.words_are in
    let images : m.now ≡ n.now = cc in
    let inputs : i.now ≡ j.now = cc in
    let lanes : decimal r.lanes ≡ decimal s.lanes = cc in
    let spads : decimal r.spad ≡ decimal s.spad = cc in
    let budgets : decimal r.budget ≡ decimal s.budget = cc in
    let names : option_to_list (option_map (λ name. name.now) g) ≡ option_to_list (option_map (λ name. name.now) k) = cc in
    let resources : r ≡ s = same_resources r s spells.in_range spells_s.in_range lanes spads budgets in
    let grants = one_name (option_map (λ name. name.now) g) (option_map (λ name. name.now) k) names in
    rw (images, inputs, resources, grants) h
same_stages files words (Exec m i r g) s spells spells_s b h = absurd cc
same_stages files words (Asm t m) (Asm u n) spells spells_s b h =
    let e : words_of (Asm t m) ≡ words_of (Asm u n) = sym spells.words_are ∙ spells_s.words_are in
    let texts_are : t.now ≡ u.now = cc in
    let images : m.now ≡ n.now = cc in
    rw (texts_are, images) h
same_stages files words (Asm t m) s spells spells_s b h = absurd cc
same_stages files words (Disasm m) (Disasm n) spells spells_s b h =
    let e : words_of (Disasm m) ≡ words_of (Disasm n) = sym spells.words_are ∙ spells_s.words_are in
    let images : m.now ≡ n.now = cc in
    rw images h
same_stages files words (Disasm m) s spells spells_s b h = absurd cc

-- what the words come to
pub answer_lawful : (files : Behaviour) (words : List (List ℕ)) → Lawful files (answer_to files words)
answer_lawful files words = record { once = once; fails = fails }
  where
    once : Settled files → (a b : Result Answer Ending) → answer_to files words a → answer_to files words b → IsPlain a → IsPlain b → a ≡ b
    once sure a b (Ends e is same) (Ends f is_f same_f) pa pb = same ∙ ap Err (is.1 ∙ sym is_f.1) ∙ sym same_f
    once sure a b (Ends e is same) (Goes s spells goes) pa pb = absurd (is.0 s spells)
    once sure a b (Goes r spells goes) (Ends e is same) pa pb = absurd (is.0 r spells)
    once sure a b (Goes r spells goes) (Goes s spells_s goes_s) pa pb =
        (stages_lawful files r).once sure a b goes (same_stages files words r s spells spells_s b goes_s) pa pb

    usage_is_no_file : (e : Ending) → ◌≡◌ {A = Result Answer Ending} (Err (Failed File)) (Err e) → e ≡ Refused Usage → ⊥
    usage_is_no_file e same is = cc

    fails : answer_to files words (Err (Failed File)) → MayFail files
    fails (Ends e is same) = absurd (usage_is_no_file e same is.1)
    fails (Goes r spells goes) = (stages_lawful files r).fails goes
