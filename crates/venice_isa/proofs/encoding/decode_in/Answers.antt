use Rattle.std.proofs.Common.{◌≡◌, ◌∙◌, ap, sym, subst}
use Rattle.venice_isa.specs.declared.encoding.InstrFault.TheVariants.{BadOpcode, BadField}
use Rattle.venice_isa.specs.Form.{IsAllowed}
use Rattle.venice_isa.specs.Encoding.{encoded, fields_of, bytes_of_fields}
use Rattle.venice_isa.proofs.Encodings.{allowed_in_version, faulty, readable}
use Rattle.venice_isa.proofs.encoding.decode_in.Goals as goal

pub returns-then-not-has_code : goal.returns-then-not-has_code
returns-then-not-has_code c = faulty c.args.version c.args.bytes BadOpcode (sym c.has_code.ensures ∙ c.if-not-has_code.true)

pub returns-in-Some : goal.returns-in-Some
returns-in-Some c = faulty c.args.version c.args.bytes (BadField c.in-Some.byte) c.in-Some.ensures

pub returns-in-None : goal.returns-in-None
unfolding encoded
returns-in-None c =
    let instr = c.instr.result in
    let spelled : bytes_of_fields (fields_of instr) ≡ c.args.bytes = ap bytes_of_fields c.instr.ensures.value ∙ c.from_bytes.ensures in
    let in_version = allowed_in_version c.args.version instr (subst (IsAllowed c.args.version) (sym spelled) c.in-None.ensures) in
    readable c.args.version c.args.bytes instr (record { in_version = in_version; ranges = c.instr.ensures.ranges }) spelled
