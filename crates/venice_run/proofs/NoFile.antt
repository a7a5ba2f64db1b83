-- Stages that load nothing don't fail to load.
use Rattle.std.proofs.Common.{◌≡◌, ℕ, List, Result, Ok, Err, subst, ◌∙◌}
use Rattle.ven_base.specs.declared.entry.Entry.{Entry}
use Rattle.ven_base.specs.Pairs.{Pairs}
use Rattle.ven_io.specs.Faults.{CountsFaults}
use Rattle.ven_io.specs.Files.{FilesState, OnlyLoads}
use Rattle.array_file.specs.declared.fault.ArrayFault.{ArrayFault}
use Rattle.array_file.specs.declared.fault.ArrayFault.TheVariants as array_fault
use Rattle.array_syntax.specs.declared.fault.ParseFault.{ParseFault}
use Rattle.array_syntax.specs.declared.fault.ParseFault.TheVariants as parse_fault
use Rattle.shape_check.specs.declared.fault.CheckFault.{CheckFault}
use Rattle.shape_check.specs.declared.fault.CheckFault.TheVariants as check_fault
use Rattle.shape_check.specs.Statement.{Statement}
use Rattle.image_loader.specs.declared.fault.ImageFault.{ImageFault}
use Rattle.image_loader.specs.declared.fault.ImageFault.TheVariants as image_fault
use Rattle.venice_asm.specs.declared.fault.AsmFault.{AsmFault}
use Rattle.venice_asm.specs.declared.fault.AsmFault.TheVariants as asm_fault
use Rattle.venice_machine.specs.declared.grants.GrantFault.{GrantFault}
use Rattle.venice_machine.specs.declared.grants.GrantFault.TheVariants as grant_fault
use Rattle.venice_machine.specs.declared.stop.Stop.{Stop}
use Rattle.venice_machine.specs.State.{State}
use Rattle.venice_run.specs.Answer.{Answer}
use Rattle.venice_run.specs.Plan.{Planned, plan_of}
use Rattle.venice_run.specs.Exec.{prints_run}
use Rattle.venice_run.specs.declared.ending.Ending.{Ending}
use Rattle.venice_run.specs.declared.ending.Ending.TheVariants.{Refused, Failed}
use Rattle.venice_run.specs.declared.ending.Fault.TheVariants.{File, Memory}
use Rattle.venice_run.specs.declared.refusal.Refusal.TheVariants.{Scratchpad}
use Rattle.venice_run.specs.Asm.{assembled}
use Rattle.venice_run.specs.Build.{saves_image}
use Rattle.venice_run.specs.Compiled.{compiled, saves_run}
use Rattle.venice_run.specs.Endings.{parse_ending, check_ending, array_ending, grant_ending, image_ending, assembler_ending, machine_ending}
use Rattle.venice_run.specs.Grants.{grants_in}
use Rattle.venice_run.specs.Images.{image_in}
use Rattle.venice_run.specs.Inputs.{fitting, arrays_in}
use Rattle.venice_run.specs.Programs.{program_in}
use Rattle.venice_run.specs.Stage.{Ends, Goes}
use Rattle.venice_run.proofs.Promised.{counts_same}

pub counts_none : {P Q : Type 0} (before now : ℕ) → ¬ P → ¬ Q → CountsFaults before now P → CountsFaults before now Q
counts_none before now no_p no_q counts = counts_same before now (λ p. absurd (no_p p)) (λ q. absurd (no_q q)) counts

-- loads behind loads of which none has failed
pub loads_more : {Content : Type 0} {first between last : FilesState Content} {P Q : Type 0} → ¬ P → OnlyLoads first between P → OnlyLoads between last Q → OnlyLoads first last Q
loads_more {Content} {first} {between} {last} {P} {Q} none before after = record {
  content = after.content ∙ before.content;
  loads = subst (λ n. CountsFaults n last.failed_loads Q) (before.loads.kept none) after.loads;
  saves = after.saves ∙ before.saves;
}

pub err_is : {A : Type 0} (a b : Ending) → ◌≡◌ {A = Result A Ending} (Err a) (Err b) → a ≡ b
err_is a b e = cc

-- what has gone well has not failed to load
pub went_well : {A : Type 0} (value : A) → ◌≡◌ {A = Result A Ending} (Ok value) (Err (Failed File)) → ⊥
went_well value e = cc

pub parse_no_file : (fault : ParseFault) → Failed File ≡ parse_ending fault → ⊥
parse_no_file parse_fault.Memory e = cc
parse_no_file fault e = cc

pub check_no_file : (fault : CheckFault) → Failed File ≡ check_ending fault → ⊥
check_no_file check_fault.Memory e = cc
check_no_file fault e = cc

pub array_no_file : (fault : ArrayFault) → Failed File ≡ array_ending fault → ⊥
array_no_file array_fault.Memory e = cc
array_no_file fault e = cc

pub grant_no_file : (fault : GrantFault) → Failed File ≡ grant_ending fault → ⊥
grant_no_file grant_fault.Memory e = cc
grant_no_file fault e = cc

pub image_no_file : (fault : ImageFault) → Failed File ≡ image_ending fault → ⊥
image_no_file image_fault.Memory e = cc
image_no_file fault e = cc

pub assembler_no_file : (fault : AsmFault) → Failed File ≡ assembler_ending fault → ⊥
assembler_no_file asm_fault.Memory e = cc
assembler_no_file fault e = cc

pub machine_no_file : (stop : Stop) → Failed File ≡ machine_ending stop → ⊥
machine_no_file stop e = cc

file_is : {A : Type 0} (ending : Ending) → ◌≡◌ {A = Result A Ending} (Err (Failed File)) (Err ending) → Failed File ≡ ending
file_is ending e = cc

pub program_no_file : (text : List ℕ) → program_in text (Err (Failed File)) → ⊥
unfolding program_in
program_no_file text (Ends ending is same) = parse_no_file is.0 (file_is {A = List Statement} ending same ∙ is.2)
program_no_file text (Goes program is goes) = check_no_file goes.0 goes.2

pub plan_no_file : (program : List Statement) (spad : ℕ) → plan_of program spad (Err (Failed File)) → ⊥
unfolding plan_of
plan_no_file program spad (Ends ending is same) = let other : Failed File ≡ Failed Memory = file_is {A = Planned} ending same ∙ is in cc
plan_no_file program spad (Goes split is (Ends ending short same)) =
    let other : Failed File ≡ Refused (Scratchpad short.0) = file_is {A = Planned} ending same ∙ short.2 in cc
plan_no_file program spad (Goes split is (Goes done room goes)) = let other : Failed File ≡ Failed Memory = goes in cc

pub arrays_no_file : (text : List ℕ) → arrays_in text (Err (Failed File)) → ⊥
unfolding arrays_in
arrays_no_file text p = array_no_file p.0 p.2

pub misfit_no_file : (table : List Entry) (arrays : Pairs) → fitting table arrays (Err (Failed File)) → ⊥
misfit_no_file table arrays same = let other : File ≡ Memory = same in cc

pub image_bytes_no_file : (bytes : List ℕ) → image_in bytes (Err (Failed File)) → ⊥
unfolding image_in
image_bytes_no_file bytes p = image_no_file p.0 p.2

pub grants_no_file : (text : List ℕ) → grants_in text (Err (Failed File)) → ⊥
unfolding grants_in
grants_no_file text p = grant_no_file p.0 p.2

pub run_no_file : (table : List Entry) (state : State) → prints_run table state (Err (Failed File)) → ⊥
unfolding prints_run
run_no_file table state (Ends ending is same) = machine_no_file is.0 (file_is {A = Answer} ending same ∙ is.2)
run_no_file table state (Goes counts is goes) = let other : Failed File ≡ Failed Memory = goes in cc

pub assembled_no_file : (text : List ℕ) → assembled text (Err (Failed File)) → ⊥
unfolding assembled
assembled_no_file text p = assembler_no_file p.0 p.2

pub run_saved_no_file : (image : List ℕ) (planned : Planned) (lanes spad : ℕ) (arrays : Pairs) (grants : List ℕ)
    → saves_run image planned lanes spad arrays grants (Err (Failed File)) → ⊥
unfolding saves_run compiled
run_saved_no_file image planned lanes spad arrays grants (Ends ending is same) =
    let other : Failed File ≡ Failed Memory = file_is {A = Answer} ending same ∙ is in cc
run_saved_no_file image planned lanes spad arrays grants (Goes made is goes) = let other : Failed File ≡ Failed Memory = goes in cc

pub image_saved_no_file : (image : List ℕ) (planned : Planned) (spad : ℕ) → saves_image image planned spad (Err (Failed File)) → ⊥
unfolding compiled
image_saved_no_file image planned spad (Ends ending is same) = let other : Failed File ≡ Failed Memory = file_is {A = Answer} ending same ∙ is in cc
image_saved_no_file image planned spad (Goes made is goes) = let other : Failed File ≡ Failed Memory = goes in cc
