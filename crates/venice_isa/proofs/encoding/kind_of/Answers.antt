use Rattle.std.proofs.Common.{◌≡◌, ◌∙◌, ◌%◌, Some, sym, ap}
use Rattle.std.specs.Prelude.{slice_get}
use Rattle.venice_isa.specs.Form.{operations, element_types, allows_mode_byte, allows_types_byte}
use Rattle.venice_isa.proofs.KindBytes.{IsRead, AreTypes, read_mode, kind_read}
use Rattle.venice_isa.proofs.encoding.kind_of.Goals as goal
use Rattle.venice_isa.proofs.encoding.kind_of.Goals.{then-is_cast+in_ok-from, else-is_cast}

pub returns : goal.returns
returns c =
    let op = c.in_ok-op.op in
    let elem = c.in_ok-elem.elem in
    let from = c.if-is_cast.from in
    let types = c.args.types in
    let op_is : slice_get operations c.args.operation ≡ Some op = sym c.operation_of.ensures ∙ c.in_ok-op.was in
    let elem_is : slice_get element_types (types % 16) ≡ Some elem = sym c.type_of.ensures ∙ c.in_ok-elem.was in
    let are : AreTypes op types elem from = elim c.if-is_cast.branch [
      | then-is_cast+in_ok-from w ↦ record {
        elem_is = elem_is;
        from_cast = λ cast. sym w.type_of-then-is_cast.ensures ∙ w.in_ok-from.was ∙ ap (λ e. Some e) (sym w.from-is);
        from_plain = λ plain. absurd (cc (c.is_cast.ensures, w.if-is_cast.true, plain));
      }
      | else-is_cast w ↦ record {
        elem_is = elem_is;
        from_cast = λ cast. absurd (cc (c.is_cast.ensures, w.if-is_cast.false, cast));
        from_plain = λ plain. w.from-is;
      }
    ] in
    let read : IsRead c.args.operation c.args.mode types op elem from = record {
      operation_is = op_is;
      mode_is = ap (λ o. allows_mode_byte o c.args.mode) (sym op_is) ∙ c.requires.mode;
      types_is = ap (λ o. allows_types_byte o types) (sym op_is) ∙ c.requires.types;
      are = are;
    } in
    kind_read c.args.operation c.args.mode types op elem from c.new.result read
    (c.new.ensures.allowed.1 (read_mode c.args.operation c.args.mode types op elem from read)) c.new.ensures.parts
