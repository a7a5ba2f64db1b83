use Rattle.std.proofs.Common.{◌≡◌, ◌∙◌, rules}
use Rattle.std.specs.Prelude.{codes}
use Rattle.venice_run.proofs.Requests.{no_granted_lanes, no_granted_spad, seven}
use Rattle.venice_run.proofs.request.granted_run_request.Goals as goal

pub returns-in_err-lanes : goal.returns-in_err-lanes
returns-in_err-lanes c =
    rw c.from_residual.ensures (no_granted_lanes c.args.words.now c.lanes-item.result c.lanes-item.is c.in-len7.len_at_least
    (λ n in_range is. c.in_err-lanes.ensures n in_range (c.deref.ensures ∙ is)))

pub returns-in_err-spad : goal.returns-in_err-spad
returns-in_err-spad c =
    rw c.from_residual-in_err-spad.ensures (no_granted_spad c.args.words.now c.spad-item.result c.spad-item.is c.in-len7.len_at_least
    (λ n in_range is. c.in_err-spad.ensures n in_range (c.deref-2.ensures ∙ is)))

pub returns : goal.returns
returns c =
    let word : c.as_str.result.now ≡ codes "run" = search rules in
    record {
      words_are = rw (
        ← word,
        ← c.in_ok-lanes.ensures.1,
        ← c.in_ok-spad.ensures.1,
        c.as_str.ensures.value,
        c.deref.ensures,
        c.deref-2.ensures,
        c.deref-3.ensures,
        c.deref-4.ensures,
        c.deref-5.ensures,
        c.deref-6.ensures,
      )
          (seven c.args.words.now c.word-item.result c.program-item.result c.inputs-item.result c.image-item.result c.lanes-item.result c.spad-item.result c.grants-item.result
          c.in-len7.len_at_least c.in-len7.len_below
          c.word-item.is c.program-item.is c.inputs-item.is c.image-item.is c.lanes-item.is c.spad-item.is c.grants-item.is);
      in_range = (c.in_ok-lanes.ensures.0, c.in_ok-spad.ensures.0);
    }
