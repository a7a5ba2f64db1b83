use Rattle.std.proofs.Common.{◌≡◌, ◌+◌, ◌*◌, ap, subst, arith}
use Rattle.std.proofs.lemmas.Result.{err_from_is_err_and}
use Rattle.image_loader.specs.Table.HeaderPart.{Instrs}
use Rattle.venice_isa.specs.Code.{EndsWithHalt}
use Rattle.image_loader.specs.Table.{Header}
use Rattle.image_loader.specs.Reading.{header_in, image_end}
use Rattle.image_loader.specs.Clear.{numbers_of}
use Rattle.image_loader.proofs.Spelled.{AreBytes}
use Rattle.image_loader.proofs.WholeImages.{refused, loaded, read_contents, read_code_is, read_is_image, read_spelled}
use Rattle.image_loader.proofs.reading.read_image.Goals as goal

pub returns-in_err-version : goal.returns-in_err-version
returns-in_err-version c =
    let p = err_from_is_err_and c.from_residual.result c.from_residual.ensures.1 in
    rw (p.1, p.2) (refused c.args.bytes.now c.in_err-version.field-0.0 c.in_err-version.ensures)

pub returns-in_err-header : goal.returns-in_err-header
returns-in_err-header c =
    let p = err_from_is_err_and c.from_residual-in_err-header.result c.from_residual-in_err-header.ensures.1 in
    rw (p.1, p.2) (refused c.args.bytes.now c.in_err-header.field-0.0 c.in_err-header.ensures)

pub returns-in_err-table : goal.returns-in_err-table
returns-in_err-table c =
    let p = err_from_is_err_and c.from_residual-in_err-table.result c.from_residual-in_err-table.ensures.1 in
    rw (p.1, p.2) (refused c.args.bytes.now c.in_err-table.field-0.0 c.in_err-table.ensures)

pub read_instrs-requires-clause-room : goal.read_instrs-requires-clause-room
read_instrs-requires-clause-room c =
    omega (arith, c.in_ok-table.ensures.end_is, c.in_ok-table.ensures.read.within, (c.in_ok-header.ensures.lies Instrs).to, c.requires)

pub returns-in_err-instrs : goal.returns-in_err-instrs
returns-in_err-instrs c =
    let p = err_from_is_err_and c.from_residual-in_err-instrs.result c.from_residual-in_err-instrs.ensures.1 in
    rw (p.1, p.2) (refused c.args.bytes.now c.in_err-instrs.field-0.0 c.in_err-instrs.ensures)

pub returns-in_err-check_end : goal.returns-in_err-check_end
returns-in_err-check_end c =
    let p = err_from_is_err_and c.from_residual-in_err-check_end.result c.from_residual-in_err-check_end.ensures.1 in
    rw (p.1, p.2) (refused c.args.bytes.now c.in_err-check_end.field-0.0 c.in_err-check_end.ensures.fault)

pub invariant_of-result : goal.invariant_of-result
invariant_of-result c =
    let h = numbers_of c.in_ok-header.header in
    let instrs = c.in_ok-instrs.instrs.items in
    let end = c.in_ok-table.table.end + 8 * c.in_ok-header.header.instr_count in
    let halts : EndsWithHalt instrs = subst EndsWithHalt c.deref.ensures.value c.in_ok-check_end.ensures.halts in
    read_code_is c.args.bytes.now c.in_ok-version.version h instrs end c.in_ok-version.ensures c.in_ok-header.ensures c.in_ok-instrs.ensures halts

pub invariant_of-result-2 : goal.invariant_of-result-2
invariant_of-result-2 c =
    let h = numbers_of c.in_ok-header.header in
    let instrs = c.in_ok-instrs.instrs.items in
    let end = c.in_ok-table.table.end + 8 * c.in_ok-header.header.instr_count in
    let halts : EndsWithHalt instrs = subst EndsWithHalt c.deref.ensures.value c.in_ok-check_end.ensures.halts in
    read_is_image c.args.bytes.now c.in_ok-version.version h c.in_ok-table.table.arrays.items instrs c.in_ok-table.table.end end
    c.in_ok-version.ensures c.in_ok-header.ensures c.in_ok-table.ensures c.in_ok-instrs.ensures halts

pub returns : goal.returns
returns c =
    let bytes = c.args.bytes.now in
    let version = c.in_ok-version.version in
    let h = numbers_of c.in_ok-header.header in
    let arrays = c.in_ok-table.table.arrays.items in
    let instrs = c.in_ok-instrs.instrs.items in
    let end = c.in_ok-table.table.end + 8 * c.in_ok-header.header.instr_count in
    let halts : EndsWithHalt instrs = subst EndsWithHalt c.deref.ensures.value c.in_ok-check_end.ensures.halts in
    let small : AreBytes bytes = λ i. (c.type_inv.bytes i).fits in
    let counts : c.in_ok-header.header.instr_count ≡ (header_in bytes).instr_count = ap (λ (n : Header). n.instr_count) c.in_ok-header.ensures.numbers in
    let end_is : end ≡ image_end bytes = omega (arith, c.in_ok-table.ensures.end_is, counts) in
    loaded bytes (read_contents version h arrays instrs)
    (read_is_image bytes version h arrays instrs c.in_ok-table.table.end end c.in_ok-version.ensures c.in_ok-header.ensures c.in_ok-table.ensures c.in_ok-instrs.ensures halts)
    (read_spelled bytes version h arrays instrs c.in_ok-table.table.end end small c.in_ok-version.ensures c.in_ok-header.ensures c.in_ok-table.ensures c.in_ok-instrs.ensures end_is c.in_ok-check_end.ensures.done)
