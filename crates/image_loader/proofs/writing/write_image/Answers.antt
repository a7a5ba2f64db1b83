use Rattle.std.proofs.Common.{◌≡◌, ◌∙◌, length, ap, subst}
use Rattle.image_loader.specs.Table.{Header}
use Rattle.image_loader.specs.Image.{ImageContents, IsImage, header_of}
use Rattle.image_loader.proofs.WholeImages.{written}
use Rattle.image_loader.proofs.FewBytes.{few_bytes}
use Rattle.image_loader.proofs.writing.write_image.Goals as goal

pub returns-clause-spelled : goal.returns-clause-spelled
returns-clause-spelled c =
    let image = c.args.image.now in
    let view = c.image.view_is in
    let header : Header = record { spad = c.image.inside.spad; memory = c.image.inside.memory; array_count = c.array_count.result; instr_count = c.len.result } in
    let version_is : c.version_of.result ≡ image.code.version = c.version_of.ensures ∙ ap (λ (m : ImageContents). m.code.version) view in
    let spad : header.spad ≡ image.spad = ap (λ (m : ImageContents). m.spad) view in
    let memory : header.memory ≡ image.memory = ap (λ (m : ImageContents). m.memory) view in
    let count : header.instr_count ≡ length image.code.instrs = c.len.ensures.value ∙ ap (λ (m : ImageContents). length m.code.instrs) view in
    let header_is : header ≡ header_of image = λ i. record { spad = spad i; memory = memory i; array_count = c.array_count.ensures i; instr_count = count i } in
    let arrays_is : c.deref.result.now ≡ image.arrays = c.deref.ensures.value ∙ ap (λ (m : ImageContents). m.arrays) view in
    let code_is : c.image.inside.code ≡ image.code = ap (λ (m : ImageContents). m.code) view in
    written image c.in_ok-bytes.bytes.items c.put_header.new.bytes.items c.put_table.new.bytes.items c.put_code.new.bytes.items
    c.version_of.result header c.deref.result.now c.image.inside.code
    c.in_ok-bytes.ensures.items version_is header_is arrays_is code_is c.in_ok-put_header.ensures c.in_ok-put_table.ensures c.in_ok-put_code.ensures

pub returns-clause-few : goal.returns-clause-few
returns-clause-few c = few_bytes c.args.image.now c.put_code.new.bytes.items (subst IsImage c.image.view_is c.image.invariant) (returns-clause-spelled c)
