use Rattle.std.proofs.Common.{◌≡◌, ◌∙◌, rules}
use Rattle.std.specs.Prelude.{codes}
use Rattle.venice_run.proofs.Requests.{no_build_size, four}
use Rattle.venice_run.proofs.request.build_request.Goals as goal

pub returns-in_err-spad : goal.returns-in_err-spad
returns-in_err-spad c =
    rw c.from_residual.ensures (no_build_size c.args.words.now c.spad-item.result c.spad-item.is c.in-len4.len_at_least
    (λ n in_range is. c.in_err-spad.ensures n in_range (c.deref.ensures ∙ is)))

pub returns : goal.returns
returns c =
    let word : c.as_str.result.now ≡ codes "build" = search rules in
    record {
      words_are = rw (← word, ← c.in_ok-spad.ensures.1, c.as_str.ensures.value, c.deref.ensures, c.deref-2.ensures, c.deref-3.ensures)
          (four c.args.words.now c.word-item.result c.program-item.result c.image-item.result c.spad-item.result c.in-len4.len_at_least c.in-len4.len_below
          c.word-item.is c.program-item.is c.image-item.is c.spad-item.is);
      in_range = c.in_ok-spad.ensures.0;
    }
