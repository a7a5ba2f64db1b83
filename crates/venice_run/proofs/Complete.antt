-- What a call's promise says where nothing may fail.
use Rattle.std.proofs.Common.{◌≡◌, ◌⊎◌, inl, inr, ℕ, List, [], ◌∷◌, Option, Some, None, Ok, Err, sym, ap, subst, ◌∙◌}
use Rattle.ven_io.specs.Files.{Behaviour}
use Rattle.ven_io.specs.Sink.{SinkState, Takes}
use Rattle.venice_run.specs.declared.ending.Ending.{Ending}
use Rattle.venice_run.specs.declared.ending.Ending.TheVariants.{Refused, Failed}
use Rattle.venice_run.specs.declared.ending.Fault.TheVariants.{File, Memory}
use Rattle.venice_run.specs.declared.refusal.Kind.TheVariants as kind
use Rattle.venice_run.specs.declared.refusal.Refusal.{Refusal}
use Rattle.venice_run.specs.declared.refusal.Refusal.TheVariants.{Usage, FileMissing, TooLong, Parse, Check, Scratchpad, Arrays, Fit, Grants, Image, Text, Machine}
use Rattle.venice_run.specs.Answer.{Answer, Save, status_with, answer_status}
use Rattle.venice_run.specs.Commands.{answer_to}
use Rattle.venice_run.specs.Laws.{NothingFails, NoneCounted, IsComplete}
use Rattle.venice_run.specs.Line.{line_of, status_of, refusal_status, memory_status, save_status, save_line}
use Rattle.venice_run.specs.Lines.{text_lines}
use Rattle.venice_run.specs.Promise.{Moment, Outcome, Done, Stopped, NotSaved, SaveMade, SaveFailed, Comes, Does, FailsToSave, LacksMemory, Stops, Says, Whole, FailsAt, LacksMemoryAt, SaysEnding, SaysOutcome, Promise}
use Rattle.venice_run.proofs.Lawful.{answer_lawful}

refusal_not_15 : (refusal : Refusal) → refusal_status refusal ≡ 15 → ⊥
refusal_not_15 Usage e = cc
refusal_not_15 FileMissing e = cc
refusal_not_15 (TooLong kind.Program) e = cc
refusal_not_15 (TooLong kind.Inputs) e = cc
refusal_not_15 (TooLong kind.Grants) e = cc
refusal_not_15 (TooLong kind.Image) e = cc
refusal_not_15 (TooLong kind.Text) e = cc
refusal_not_15 (Scratchpad shortage) e = cc
refusal_not_15 (Parse fault) e = cc
refusal_not_15 (Check fault) e = cc
refusal_not_15 (Grants fault) e = cc
refusal_not_15 (Image fault) e = cc
refusal_not_15 (Text fault) e = cc
refusal_not_15 (Machine stop) e = cc
refusal_not_15 (Arrays fault) e = cc
refusal_not_15 (Fit fault) e = cc

status_not_15 : (ending : Ending) → status_of ending ≡ 15 → ⊥
status_not_15 (Refused refusal) e = refusal_not_15 refusal e
status_not_15 (Failed File) e = cc
status_not_15 (Failed Memory) e = cc

answer_not_15 : (stop : Option Refusal) → status_with stop ≡ 15 → ⊥
answer_not_15 None e = cc
answer_not_15 (Some refusal) e = refusal_not_15 refusal e

says_not_15 : (before after : SinkState) (status : ℕ) (lines : List (List ℕ)) (result : ℕ) → Says before after status lines result → (status ≡ 15 → ⊥) → result ≡ 15 → ⊥
says_not_15 before after status lines result (Whole taken kept is) none e = none (sym is ∙ e)
says_not_15 before after status lines result (FailsAt front line rest split part may count is) none e = cc
says_not_15 before after status lines result (LacksMemoryAt front line rest split taken kept is) none e = cc

-- where no put may fail, the lines are taken whole, or memory ran out; and no fault is counted
whole : (before after : SinkState) (status : ℕ) (lines : List (List ℕ)) (result : ℕ) → ¬ before.may_fail → Says before after status lines result
    → ((result ≡ status) × Takes before after lines) ⊎ (result ≡ memory_status)
whole before after status lines result quiet (Whole taken kept is) = inl (is, taken)
whole before after status lines result quiet (FailsAt front line rest split part may count is) = absurd (quiet may)
whole before after status lines result quiet (LacksMemoryAt front line rest split taken kept is) = inr is

uncounted : (before after : SinkState) (status : ℕ) (lines : List (List ℕ)) (result : ℕ) → ¬ before.may_fail → Says before after status lines result
    → after.failed_puts ≡ before.failed_puts
uncounted before after status lines result quiet (Whole taken kept is) = kept
uncounted before after status lines result quiet (FailsAt front line rest split part may count is) = absurd (quiet may)
uncounted before after status lines result quiet (LacksMemoryAt front line rest split taken kept is) = kept

module _ {Content : Type 0} (behaviour : Content → Behaviour) (before after : Moment Content) (words : List (List ℕ)) (status : ℕ) where
  no_save : NothingFails behaviour before after → (save : Option Save) → SaveFailed behaviour before.files.content after.files.content save → ⊥
  no_save quiet None failed = failed
  no_save quiet (Some save) failed = quiet.save save.name failed.0

  no_load : NothingFails behaviour before after → answer_to (behaviour before.files.content) words (Err (Failed File)) → ⊥
  no_load quiet comes =
      let may = (answer_lawful (behaviour before.files.content) words).fails comes in quiet.load may.name may.fails

  -- an answer, or memory ran out
  done : NothingFails behaviour before after → (answer : Answer) → answer_to (behaviour before.files.content) words (Ok answer)
      → SaveMade behaviour before.files.content after.files.content answer.save
      → Says before.sink after.sink (answer_status answer) (text_lines answer.text) status → IsComplete behaviour before after words status
  done quiet answer comes saved says =
      elim (whole before.sink after.sink (answer_status answer) (text_lines answer.text) status quiet.put says) [
        | inl w ↦ inl (record { answer = answer; comes = comes; saved = saved; taken = w.1; status_is = w.0 })
        | inr is ↦ inr (inr is)
      ]

  -- memory's line, or not even that
  lacks : NothingFails behaviour before after → (message : Ending) → message ≡ Failed Memory → Says before.sink after.sink (status_of message) (line_of message ∷ []) status → status ≡ memory_status
  lacks quiet message is says =
      elim (whole before.sink after.sink (status_of message) (line_of message ∷ []) status quiet.put says) [
        | inl w ↦ w.0 ∙ ap status_of is
        | inr e ↦ e
      ]

  stopped : NothingFails behaviour before after → (ending : Ending) → answer_to (behaviour before.files.content) words (Err ending) → after.files.content ≡ before.files.content
      → (message : Ending) → (message ≡ ending) ⊎ (message ≡ Failed Memory) → Says before.sink after.sink (status_of message) (line_of message ∷ []) status → IsComplete behaviour before after words status
  stopped quiet ending comes kept message (inr is) says = inr (inr (lacks quiet message is says))
  stopped quiet (Failed File) comes kept message (inl is) says = absurd (no_load quiet comes)
  stopped quiet (Failed Memory) comes kept message (inl is) says = inr (inr (lacks quiet message is says))
  stopped quiet (Refused refusal) comes kept message (inl is) says =
      elim (whole before.sink after.sink (status_of message) (line_of message ∷ []) status quiet.put says) [
        | inl w ↦ inr (inl (record {
          refusal = refusal;
          comes = comes;
          kept = kept;
          taken = subst (λ (e : Ending). Takes before.sink after.sink (line_of e ∷ [])) is w.1;
          status_is = w.0 ∙ ap status_of is;
        }))
        | inr e ↦ inr (inr e)
      ]

  by_outcome : NothingFails behaviour before after → (outcome : Outcome)
      → Comes behaviour before.files.content after.files.content (answer_to (behaviour before.files.content) words) outcome
      → SaysOutcome before.sink after.sink outcome status → IsComplete behaviour before after words status
  by_outcome quiet outcome (Does answer comes saved is) says =
      done quiet answer comes saved (subst (λ (o : Outcome). SaysOutcome before.sink after.sink o status) is says)
  by_outcome quiet outcome (FailsToSave answer comes failed is) says = absurd (no_save quiet answer.save failed)
  by_outcome quiet outcome (LacksMemory answer comes kept is) says =
      let s : SaysEnding before.sink after.sink (Failed Memory) status = subst (λ (o : Outcome). SaysOutcome before.sink after.sink o status) is says in
      inr (inr (lacks quiet s.message (memory_either s.message s.is) s.says))
    where
      memory_either : (message : Ending) → (message ≡ Failed Memory) ⊎ (message ≡ Failed Memory) → message ≡ Failed Memory
      memory_either message (inl e) = e
      memory_either message (inr e) = e
  by_outcome quiet outcome (Stops ending comes kept is) says =
      let s : SaysEnding before.sink after.sink ending status = subst (λ (o : Outcome). SaysOutcome before.sink after.sink o status) is says in
      stopped quiet ending comes kept s.message s.is s.says

  pub complete : Promise behaviour before after words status → NothingFails behaviour before after → IsComplete behaviour before after words status
  complete promise quiet = by_outcome quiet promise.outcome promise.comes promise.says

  no_file_outcome : NothingFails behaviour before after → (outcome : Outcome)
      → Comes behaviour before.files.content after.files.content (answer_to (behaviour before.files.content) words) outcome → outcome ≡ Stopped (Failed File) → ⊥
  no_file_outcome quiet outcome (Does answer comes saved is) e = cc
  no_file_outcome quiet outcome (FailsToSave answer comes failed is) e = cc
  no_file_outcome quiet outcome (LacksMemory answer comes kept is) e = cc
  no_file_outcome quiet outcome (Stops ending comes kept is) e =
      let file : ending ≡ Failed File = cc in
      no_load quiet (subst (λ (x : Ending). answer_to (behaviour before.files.content) words (Err x)) file comes)

  no_save_outcome : NothingFails behaviour before after → (outcome : Outcome)
      → Comes behaviour before.files.content after.files.content (answer_to (behaviour before.files.content) words) outcome → outcome ≡ NotSaved → ⊥
  no_save_outcome quiet outcome (Does answer comes saved is) e = cc
  no_save_outcome quiet outcome (FailsToSave answer comes failed is) e = no_save quiet answer.save failed
  no_save_outcome quiet outcome (LacksMemory answer comes kept is) e = cc
  no_save_outcome quiet outcome (Stops ending comes kept is) e = cc

  outcome_puts : ¬ before.sink.may_fail → (outcome : Outcome) → SaysOutcome before.sink after.sink outcome status → after.sink.failed_puts ≡ before.sink.failed_puts
  outcome_puts quiet (Done answer) says = uncounted before.sink after.sink (answer_status answer) (text_lines answer.text) status quiet says
  outcome_puts quiet (Stopped ending) says = uncounted before.sink after.sink (status_of says.message) (line_of says.message ∷ []) status quiet says.says
  outcome_puts quiet NotSaved says = uncounted before.sink after.sink save_status (save_line ∷ []) status quiet says

  pub uncounted_all : Promise behaviour before after words status → NothingFails behaviour before after → NoneCounted behaviour before after
  uncounted_all promise quiet = record {
    loads = promise.loads.kept (no_file_outcome quiet promise.outcome promise.comes);
    saves = promise.saves.kept (no_save_outcome quiet promise.outcome promise.comes);
    puts = outcome_puts quiet.put promise.outcome promise.says;
  }

  -- status 15 is no outcome's
  answered_not_15 : (answer : Answer) → Says before.sink after.sink (answer_status answer) (text_lines answer.text) status → status ≡ 15 → ⊥
  answered_not_15 answer says e = says_not_15 before.sink after.sink (answer_status answer) (text_lines answer.text) status says (answer_not_15 answer.stop) e

  stopped_not_15 : (ending : Ending) → SaysEnding before.sink after.sink ending status → status ≡ 15 → ⊥
  stopped_not_15 ending says e = says_not_15 before.sink after.sink (status_of says.message) (line_of says.message ∷ []) status says.says (status_not_15 says.message) e

  not_saved_not_15 : Says before.sink after.sink save_status (save_line ∷ []) status → status ≡ 15 → ⊥
  not_saved_not_15 says e = says_not_15 before.sink after.sink save_status (save_line ∷ []) status says (λ s. cc) e

  outcome_not_15 : (outcome : Outcome) → SaysOutcome before.sink after.sink outcome status → status ≡ 15 → ⊥
  outcome_not_15 (Done answer) says = answered_not_15 answer says
  outcome_not_15 (Stopped ending) says = stopped_not_15 ending says
  outcome_not_15 NotSaved says = not_saved_not_15 says

  pub never_15 : Promise behaviour before after words status → status ≡ 15 → ⊥
  never_15 promise = outcome_not_15 promise.outcome promise.says
