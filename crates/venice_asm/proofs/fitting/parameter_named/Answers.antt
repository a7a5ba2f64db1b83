use Rattle.std.proofs.Common.{◌∙◌, ◌+◌, ap, sym, drop, Some}
use Rattle.std.specs.Prelude.{if◌then◌else◌}
use Rattle.std.specs.Str.{bytes_eq}
use Rattle.venice_asm.specs.Fitting.{number_from}
use Rattle.venice_asm.specs.Spelling.{parameter_words}
use Rattle.venice_asm.proofs.Fittings.{next_parameter}
use Rattle.venice_asm.proofs.fitting.parameter_named.Goals as goal

pub returns-then-eq : goal.returns-then-eq
returns-then-eq c =
    let k = c.loop-k.k in
    let bytes = c.args.bytes.now in
    sym (c.loop-k.invariant ∙ next_parameter k bytes c.loop-k-test.true
    ∙ ap (λ b. if b then Some k else number_from (k + 1) (drop (k + 1) parameter_words) bytes) (sym (c.if-eq.ensures ∙ ap (bytes_eq bytes) c.parameter_word.ensures)))

pub loop-k-preserved : goal.loop-k-preserved
loop-k-preserved c =
    let k = c.loop-k.k in
    let bytes = c.args.bytes.now in
    c.loop-k.invariant ∙ next_parameter k bytes c.loop-k-test.true
    ∙ ap (λ b. if b then Some k else number_from (k + 1) (drop (k + 1) parameter_words) bytes) (sym (c.if-eq.ensures ∙ ap (bytes_eq bytes) c.parameter_word.ensures))
