use Rattle.std.proofs.Common.{◌≡◌, ◌++◌, map, ap, sym, subst, ◌∙◌, rules}
use Rattle.image_loader.specs.Image.{ImageContents}
use Rattle.venice_asm.specs.Canonical.{canonical, array_statement, head_text, statement_of, statements_text}
use Rattle.venice_asm.specs.Faults.{DenotesImage}
use Rattle.venice_asm.proofs.Written.{canonical_denotes, canonical_is}
use Rattle.venice_asm.proofs.output.disassemble.Goals as goal
use Rattle.venice_asm.proofs.output.disassemble.Goals.{In_ok-push_code}

image_of : In_ok-push_code → ImageContents
image_of c = record { spad = c.image.inside.spad; memory = c.image.inside.memory; arrays = c.image.inside.arrays.items; code = c.image.inside.code }

text_is : (c : In_ok-push_code) → c.push_code.new.text.items ≡ canonical c.args.image.now
unfolding image_of
text_is c =
    let image = image_of c in
    c.in_ok-push_code.ensures
    ∙ ap (λ t. t ++ statements_text (map statement_of image.code.instrs))
    (c.in_ok-push_arrays.ensures
    ∙ ap (λ t. t ++ statements_text (map array_statement c.deref.result.now))
    (c.in_ok-push_head.ensures ∙ ap (λ t. t ++ head_text image.code.version image.spad image.memory) c.new-text.ensures.items)
    ∙ ap (λ es. head_text image.code.version image.spad image.memory ++ statements_text (map array_statement es)) c.deref.ensures.value)
    ∙ canonical_is image
    ∙ ap canonical c.image.view_is

pub returns-clause-text : goal.returns-clause-text
returns-clause-text c = text_is c

pub returns-clause-denotes : goal.returns-clause-denotes
returns-clause-denotes c = subst (λ t. DenotesImage t c.args.image.now) (sym (text_is c)) (canonical_denotes c.args.image.now (search rules))
