use Rattle.std.proofs.Common.{◌≡◌, ◌∙◌, ap, sym, refl, inl, inr, arith}
use Rattle.std.specs.List.{list_any}
use Rattle.std.proofs.lemmas.Result.{err_from_is_err_and}
use Rattle.ven_base.specs.declared.entry.Entry.{Entry}
use Rattle.image_loader.specs.Table.{array_bytes, share_byte}
use Rattle.image_loader.specs.Image.{raw_entry, raw_entries}
use Rattle.image_loader.specs.EntryFields.{raw_fields}
use Rattle.image_loader.proofs.Entries.{Before, any_shared, same_entry, after_name, after_kind, after_type, bad_shape, before_place, bad_place, all_right}
use Rattle.image_loader.proofs.table.check_entry.Goals as goal
use Rattle.image_loader.proofs.table.check_entry.Goals.{then-end_of-from-via-then-end_of-from, then-end_of-from-via-else-end_of-from+then-is_shared}

pub returns-in_err-shape-clause-wrong : goal.returns-in_err-shape-clause-wrong
returns-in_err-shape-clause-wrong c =
    let p = err_from_is_err_and c.from_residual-in_err-shape.result c.from_residual-in_err-shape.ensures.1 in
    let memory = c.args.memory in
    let earlier = raw_entries c.args.earlier.now in
    let f = raw_fields c.args.fields.now in
    rw (p.1, p.2)
    (bad_shape memory earlier f
    (after_type memory earlier f (after_kind memory earlier f (after_name memory earlier f refl c.in_ok-name.name c.in_ok-name.ensures) c.in_ok-output.output c.in_ok-output.ensures) c.in_ok-elem.elem c.in_ok-elem.ensures)
    c.in_err-shape.field-0.0 c.in_err-shape.ensures.parts)

pub returns-then-end_of-from-clause-wrong : goal.returns-then-end_of-from-clause-wrong
returns-then-end_of-from-clause-wrong c =
    let memory = c.args.memory in
    let others = c.args.earlier.now in
    let earlier = raw_entries others in
    let f = raw_fields c.args.fields.now in
    let entry : Entry = record { name = c.in_ok-name.name; output = c.in_ok-output.output; elem = c.in_ok-elem.elem; shape = c.in_ok-shape.shape; place = c.args.fields.now.place } in
    let same : raw_entry entry ≡ f = same_entry f entry refl c.in_ok-name.ensures.same c.in_ok-output.ensures c.in_ok-elem.ensures c.in_ok-shape.ensures.parts refl in
    let before : Before memory earlier f 6 = before_place memory earlier f refl c.in_ok-name.name c.in_ok-name.ensures c.in_ok-output.output c.in_ok-output.ensures c.in_ok-elem.elem c.in_ok-elem.ensures c.in_ok-shape.shape c.in_ok-shape.ensures.shape c.in_ok-shape.ensures.parts in
    bad_place memory earlier f before
    (elim c.then-end_of-from.branch [
      | then-end_of-from-via-then-end_of-from w ↦ inl (omega (arith, c.end_of.ensures, ap array_bytes same, w.if-end_of-from.true, c.from.ensures))
      | then-end_of-from-via-else-end_of-from+then-is_shared w ↦
          inr (any_shared f others ∙ ap (λ e. list_any (λ (o : Entry). share_byte e (raw_entry o)) others) (sym same) ∙ sym w.is_shared.ensures ∙ w.if-is_shared.true)
    ])

pub returns-clause-right : goal.returns-clause-right
returns-clause-right c =
    let memory = c.args.memory in
    let others = c.args.earlier.now in
    let earlier = raw_entries others in
    let f = raw_fields c.args.fields.now in
    let entry : Entry = record { name = c.in_ok-name.name; output = c.in_ok-output.output; elem = c.in_ok-elem.elem; shape = c.in_ok-shape.shape; place = c.args.fields.now.place } in
    let same : raw_entry entry ≡ f = same_entry f entry refl c.in_ok-name.ensures.same c.in_ok-output.ensures c.in_ok-elem.ensures c.in_ok-shape.ensures.parts refl in
    let before : Before memory earlier f 6 = before_place memory earlier f refl c.in_ok-name.name c.in_ok-name.ensures c.in_ok-output.output c.in_ok-output.ensures c.in_ok-elem.elem c.in_ok-elem.ensures c.in_ok-shape.shape c.in_ok-shape.ensures.shape c.in_ok-shape.ensures.parts in
    let apart : list_any (share_byte f) earlier ≡ c.is_shared.result = any_shared f others ∙ ap (λ e. list_any (λ (o : Entry). share_byte e (raw_entry o)) others) (sym same) ∙ sym c.is_shared.ensures in
    all_right memory earlier f before
    (λ b. elim b [
      | inl above ↦ absurd (omega (arith, c.end_of.ensures, ap array_bytes same, c.if-end_of-from.false, c.from.ensures))
      | inr shared ↦ absurd (cc (apart, shared, c.if-is_shared.false))
    ])
