use Rattle.std.proofs.lemmas.Result.{err_from_is_err_and}
use Rattle.image_loader.specs.Table.HeaderPart.{Spad, Memory, Arrays, Instrs}
use Rattle.image_loader.proofs.Stops.{good_number, bad_number, header_is_read}
use Rattle.image_loader.proofs.reading.read_header.Goals as goal

pub returns-in_err-spad : goal.returns-in_err-spad
returns-in_err-spad c =
    let p = err_from_is_err_and c.from_residual.result c.from_residual.ensures.1 in
    rw (p.1, p.2) (bad_number c.args.bytes.now Spad c.in_err-spad.field-0.0 c.requires.read c.in_err-spad.ensures)

pub returns-in_err-memory : goal.returns-in_err-memory
returns-in_err-memory c =
    let bytes = c.args.bytes.now in
    let p = err_from_is_err_and c.from_residual-in_err-memory.result c.from_residual-in_err-memory.ensures.1 in
    let read = good_number bytes Spad c.in_ok-spad.spad c.requires.read c.in_ok-spad.ensures in
    rw (p.1, p.2) (bad_number bytes Memory c.in_err-memory.field-0.0 read c.in_err-memory.ensures)

pub returns-in_err-array_count : goal.returns-in_err-array_count
returns-in_err-array_count c =
    let bytes = c.args.bytes.now in
    let p = err_from_is_err_and c.from_residual-in_err-array_count.result c.from_residual-in_err-array_count.ensures.1 in
    let read = good_number bytes Memory c.in_ok-memory.memory (good_number bytes Spad c.in_ok-spad.spad c.requires.read c.in_ok-spad.ensures) c.in_ok-memory.ensures in
    rw (p.1, p.2) (bad_number bytes Arrays c.in_err-array_count.field-0.0 read c.in_err-array_count.ensures)

pub returns-in_err-instr_count : goal.returns-in_err-instr_count
returns-in_err-instr_count c =
    let bytes = c.args.bytes.now in
    let p = err_from_is_err_and c.from_residual-in_err-instr_count.result c.from_residual-in_err-instr_count.ensures.1 in
    let read = good_number bytes Arrays c.in_ok-array_count.array_count (good_number bytes Memory c.in_ok-memory.memory (good_number bytes Spad c.in_ok-spad.spad c.requires.read c.in_ok-spad.ensures) c.in_ok-memory.ensures) c.in_ok-array_count.ensures in
    rw (p.1, p.2) (bad_number bytes Instrs c.in_err-instr_count.field-0.0 read c.in_err-instr_count.ensures)

pub returns : goal.returns
returns c = header_is_read c.args.bytes.now c.in_ok-spad.spad c.in_ok-memory.memory c.in_ok-array_count.array_count c.in_ok-instr_count.instr_count c.requires.read c.in_ok-spad.ensures c.in_ok-memory.ensures c.in_ok-array_count.ensures c.in_ok-instr_count.ensures
