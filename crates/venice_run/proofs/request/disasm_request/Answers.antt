use Rattle.std.proofs.Common.{◌≡◌, rules}
use Rattle.std.specs.Prelude.{codes}
use Rattle.venice_run.proofs.Requests.{two}
use Rattle.venice_run.proofs.request.disasm_request.Goals as goal

pub returns : goal.returns
returns c =
    let word : c.as_str.result.now ≡ codes "disasm" = search rules in
    record {
      words_are = rw (← word, c.as_str.ensures.value, c.deref.ensures)
          (two c.args.words.now c.word-item.result c.image-item.result c.in-len2.len_at_least c.in-len2.len_below c.word-item.is c.image-item.is);
      in_range = tt;
    }
