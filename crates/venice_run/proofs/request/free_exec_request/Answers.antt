use Rattle.std.proofs.Common.{◌≡◌, rules}
use Rattle.std.specs.Prelude.{codes}
use Rattle.venice_run.proofs.Requests.{no_free, six}
use Rattle.venice_run.proofs.request.free_exec_request.Goals as goal

pub returns-in_err-resources : goal.returns-in_err-resources
returns-in_err-resources c =
    rw c.from_residual.ensures (no_free c.args.words.now c.lanes-item.result c.spad-item.result c.budget-item.result c.lanes-item.is c.spad-item.is c.budget-item.is c.in-len6.len_at_least
    (λ resources spelled. c.in_err-resources.ensures resources (rw (← c.deref.ensures, ← c.deref-2.ensures, ← c.deref-3.ensures) at spelled)))

pub returns : goal.returns
returns c =
    let word : c.as_str.result.now ≡ codes "exec" = search rules in
    let spelled = c.in_ok-resources.ensures in
    record {
      words_are = rw (← word, ← spelled.lanes_are, ← spelled.spad_is, ← spelled.budget_is, c.as_str.ensures.value, c.deref.ensures, c.deref-2.ensures, c.deref-3.ensures, c.deref-4.ensures, c.deref-5.ensures)
          (six c.args.words.now c.word-item.result c.image-item.result c.inputs-item.result c.lanes-item.result c.spad-item.result c.budget-item.result c.in-len6.len_at_least c.in-len6.len_below
          c.word-item.is c.image-item.is c.inputs-item.is c.lanes-item.is c.spad-item.is c.budget-item.is);
      in_range = spelled.in_range;
    }
