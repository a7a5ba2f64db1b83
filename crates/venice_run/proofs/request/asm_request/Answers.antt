use Rattle.std.proofs.Common.{◌≡◌, rules}
use Rattle.std.specs.Prelude.{codes}
use Rattle.venice_run.proofs.Requests.{three}
use Rattle.venice_run.proofs.request.asm_request.Goals as goal

pub returns : goal.returns
returns c =
    let word : c.as_str.result.now ≡ codes "asm" = search rules in
    record {
      words_are = rw (← word, c.as_str.ensures.value, c.deref.ensures, c.deref-2.ensures)
          (three c.args.words.now c.word-item.result c.text-item.result c.image-item.result c.in-len3.len_at_least c.in-len3.len_below c.word-item.is c.text-item.is c.image-item.is);
      in_range = tt;
    }
