use Rattle.std.proofs.Common.{◌≡◌, sym, ap, ◌∙◌, true, Err}
use Rattle.std.specs.Int.{w64}
use Rattle.std.proofs.lemmas.Int.{to_z-of_z}
use mir.Val.{to_z, of_z}
use Rattle.ven_base.specs.declared.elem.Elem.{Elem}
use Rattle.ven_base.specs.declared.mapping.Mapping.TheVariants as maps
use Rattle.shape_check.specs.declared.fault.CheckFault.TheVariants.{LiteralRange}
use Rattle.shape_check.specs.Node.{elem_of}
use Rattle.shape_check.specs.Typed.{node_of}
use Rattle.shape_check.specs.Judge.{is_in, map_of, array}
use Rattle.shape_check.proofs.Plain.{elem_with}
use Rattle.shape_check.proofs.Arms.{if_true}
use Rattle.shape_check.proofs.rules.shift.Goals as goal

pub returns : goal.returns
returns c =
    let of = c.args.of in
    let dr : to_z w64 (of_z w64 c.args.dr) ≡ c.args.dr = to_z-of_z w64 c.args.dr c.ranges.dr in
    let dc : to_z w64 (of_z w64 c.args.dc) ≡ c.args.dc = to_z-of_z w64 c.args.dc c.ranges.dc in
    let fill : to_z w64 (of_z w64 c.args.fill) ≡ c.args.fill = to_z-of_z w64 c.args.fill c.ranges.fill in
    let inside : is_in (elem_of (node_of of)) c.args.fill ≡ true = ap (λ (e : Elem). is_in e c.args.fill) (elem_with of.kind of.elem of.shape) ∙ sym (ap (is_in of.elem) fill) ∙ sym c.is_in.ensures ∙ c.if-not-is_in.false in
    let made = c.in_ok-map.ensures in
    if_true (is_in (elem_of (node_of of)) c.args.fill) (array (map_of (maps.Shift c.args.dr c.args.dc c.args.fill) (node_of of))) (Err (LiteralRange c.args.fill_at)) inside
    ∙ sym (ap array (made ∙ (λ k. map_of (maps.Shift (dr k) (dc k) (fill k)) (node_of of))))
