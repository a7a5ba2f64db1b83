use Rattle.std.proofs.Common.{rules, ◌≡◌, ◌∙◌, sym, ap, subst, refl, true, false, length, ◌≤◌}
use Rattle.venice_asm.specs.Resolving.{LosesTarget, AreResolved}
use Rattle.venice_asm.specs.Parts.{raw_array}
use Rattle.std.specs.Prelude.{map}
use Rattle.image_loader.specs.Table.{array_limit}
use Rattle.venice_asm.specs.Steps.{IsBadTable, IsTableOf}
use Rattle.venice_isa.specs.Code.{IsCode}
use Rattle.image_loader.specs.Image.{IsImage}
use Rattle.venice_asm.specs.Faults.{DenotesImage}
use Rattle.venice_asm.proofs.Finished.{IsEnded, IsWhole, ended, lost_answer, resolved, is_image, denotes, no_halt, written}
use Rattle.venice_asm.proofs.Fields.{bad_header, bad_table, few_arrays}
use Rattle.venice_asm.proofs.assembling.assemble.Goals as goal

pub returns-in-Err : goal.returns-in-Err
returns-in-Err c =
    let done : c.in_ok-turn.field-0 ≡ false = search rules in
    let h : IsEnded c.args.text.now c.turn.new.self = ended c.args.text.now c.loop-reading.reading c.turn.new.self c.in_ok-turn.field-0 c.in_ok-turn.ensures done in
    lost_answer c.args.text.now c.turn.new.self c.in-Err.unknown h
    (subst (λ refs. LosesTarget c.turn.new.self.labels.entries refs c.turn.new.self.instrs.items c.in-Err.unknown) c.deref.ensures.value
    (subst (λ is. LosesTarget c.turn.new.self.labels.entries c.deref.result.now is c.in-Err.unknown) c.deref_mut.ensures.value c.in-Err.ensures))

pub returns-in-Err-check_header : goal.returns-in-Err-check_header
returns-in-Err-check_header c =
    let done : c.in_ok-turn.field-0 ≡ false = search rules in
    let h : IsEnded c.args.text.now c.turn.new.self = ended c.args.text.now c.loop-reading.reading c.turn.new.self c.in_ok-turn.field-0 c.in_ok-turn.ensures done in
    let targets : AreResolved c.turn.new.self.labels.entries c.turn.new.self.references.items c.turn.new.self.instrs.items c.resolve.new.instrs =
    subst (λ refs. AreResolved c.turn.new.self.labels.entries refs c.turn.new.self.instrs.items c.resolve.new.instrs) c.deref.ensures.value
    (subst (λ is. AreResolved c.turn.new.self.labels.entries c.deref.result.now is c.resolve.new.instrs) c.deref_mut.ensures.value c.in-Ok.ensures) in
    bad_header c.args.text.now h.lines c.turn.new.self c.in-Err-check_header.fault (resolved c.args.text.now c.turn.new.self c.resolve.new.instrs h targets) h.keeps c.in-Err-check_header.ensures

pub table_of-requires : goal.table_of-requires
table_of-requires c =
    let done : c.in_ok-turn.field-0 ≡ false = search rules in
    let h : IsEnded c.args.text.now c.turn.new.self = ended c.args.text.now c.loop-reading.reading c.turn.new.self c.in_ok-turn.field-0 c.in_ok-turn.ensures done in
    subst (λ rows. length rows ≤ array_limit) (sym c.deref-2.ensures.value) (few_arrays c.args.text.now h.lines c.turn.new.self h.keeps c.in-Ok-check_header.ensures)

pub returns-in-Err-table_of : goal.returns-in-Err-table_of
returns-in-Err-table_of c =
    let done : c.in_ok-turn.field-0 ≡ false = search rules in
    let h : IsEnded c.args.text.now c.turn.new.self = ended c.args.text.now c.loop-reading.reading c.turn.new.self c.in_ok-turn.field-0 c.in_ok-turn.ensures done in
    let targets : AreResolved c.turn.new.self.labels.entries c.turn.new.self.references.items c.turn.new.self.instrs.items c.resolve.new.instrs =
    subst (λ refs. AreResolved c.turn.new.self.labels.entries refs c.turn.new.self.instrs.items c.resolve.new.instrs) c.deref.ensures.value
    (subst (λ is. AreResolved c.turn.new.self.labels.entries c.deref.result.now is c.resolve.new.instrs) c.deref_mut.ensures.value c.in-Ok.ensures) in
    bad_table c.args.text.now h.lines c.turn.new.self c.in-Err-table_of.fault (resolved c.args.text.now c.turn.new.self c.resolve.new.instrs h targets) h.keeps c.in-Ok-check_header.ensures
    (subst (λ rows. IsBadTable c.turn.new.self.memory (map raw_array rows) c.in-Err-table_of.fault) c.deref-2.ensures.value c.in-Err-table_of.ensures)

pub invariant_of-result : goal.invariant_of-result
invariant_of-result c =
    let done : c.in_ok-turn.field-0 ≡ false = search rules in
    let h : IsEnded c.args.text.now c.turn.new.self = ended c.args.text.now c.loop-reading.reading c.turn.new.self c.in_ok-turn.field-0 c.in_ok-turn.ensures done in
    let targets : AreResolved c.turn.new.self.labels.entries c.turn.new.self.references.items c.turn.new.self.instrs.items c.resolve.new.instrs =
    subst (λ refs. AreResolved c.turn.new.self.labels.entries refs c.turn.new.self.instrs.items c.resolve.new.instrs) c.deref.ensures.value
    (subst (λ is. AreResolved c.turn.new.self.labels.entries c.deref.result.now is c.resolve.new.instrs) c.deref_mut.ensures.value c.in-Ok.ensures) in
    let entries : IsTableOf c.turn.new.self.memory (map raw_array c.turn.new.self.arrays.items) c.in-Ok-table_of.entries.items =
    subst (λ rows. IsTableOf c.turn.new.self.memory (map raw_array rows) c.in-Ok-table_of.entries.items) c.deref-2.ensures.value c.in-Ok-table_of.ensures in
    let w : IsWhole c.args.text.now c.turn.new.self c.resolve.new.instrs c.in-Ok-table_of.entries.items = record { end = h; targets = targets; header = c.in-Ok-check_header.ensures; entries = entries } in
    let long : c.turn.new.self.instrs.len ≡ length c.turn.new.self.instrs.items = search rules in
    let same = written c.args.text.now c.turn.new.self c.resolve.new.instrs c.turn.new.self.instrs.len h targets long in
    let code : IsCode (record { version = c.turn.new.self.version; instrs = c.resolve.new.instrs }) = subst (λ is. IsCode (record { version = c.turn.new.self.version; instrs = is })) same (c.in-Some.ensures.found.0 refl) in
    let is : c.in-Some.code ≡ record { version = c.turn.new.self.version; instrs = c.resolve.new.instrs } = c.in-Some.ensures.value ∙ ap (λ is. record { version = c.turn.new.self.version; instrs = is }) same in
    subst (λ k. IsImage (record { spad = c.turn.new.self.spad; memory = c.turn.new.self.memory; arrays = c.in-Ok-table_of.entries.items; code = k })) (sym is)
    (is_image c.args.text.now c.turn.new.self c.resolve.new.instrs c.in-Ok-table_of.entries.items w code)

pub returns-in-Some : goal.returns-in-Some
returns-in-Some c =
    let done : c.in_ok-turn.field-0 ≡ false = search rules in
    let h : IsEnded c.args.text.now c.turn.new.self = ended c.args.text.now c.loop-reading.reading c.turn.new.self c.in_ok-turn.field-0 c.in_ok-turn.ensures done in
    let targets : AreResolved c.turn.new.self.labels.entries c.turn.new.self.references.items c.turn.new.self.instrs.items c.resolve.new.instrs =
    subst (λ refs. AreResolved c.turn.new.self.labels.entries refs c.turn.new.self.instrs.items c.resolve.new.instrs) c.deref.ensures.value
    (subst (λ is. AreResolved c.turn.new.self.labels.entries c.deref.result.now is c.resolve.new.instrs) c.deref_mut.ensures.value c.in-Ok.ensures) in
    let entries : IsTableOf c.turn.new.self.memory (map raw_array c.turn.new.self.arrays.items) c.in-Ok-table_of.entries.items =
    subst (λ rows. IsTableOf c.turn.new.self.memory (map raw_array rows) c.in-Ok-table_of.entries.items) c.deref-2.ensures.value c.in-Ok-table_of.ensures in
    let w : IsWhole c.args.text.now c.turn.new.self c.resolve.new.instrs c.in-Ok-table_of.entries.items = record { end = h; targets = targets; header = c.in-Ok-check_header.ensures; entries = entries } in
    let long : c.turn.new.self.instrs.len ≡ length c.turn.new.self.instrs.items = search rules in
    let same = written c.args.text.now c.turn.new.self c.resolve.new.instrs c.turn.new.self.instrs.len h targets long in
    let code : IsCode (record { version = c.turn.new.self.version; instrs = c.resolve.new.instrs }) = subst (λ is. IsCode (record { version = c.turn.new.self.version; instrs = is })) same (c.in-Some.ensures.found.0 refl) in
    let is : c.in-Some.code ≡ record { version = c.turn.new.self.version; instrs = c.resolve.new.instrs } = c.in-Some.ensures.value ∙ ap (λ is. record { version = c.turn.new.self.version; instrs = is }) same in
    subst (λ k. DenotesImage c.args.text.now (record { spad = c.turn.new.self.spad; memory = c.turn.new.self.memory; arrays = c.in-Ok-table_of.entries.items; code = k })) (sym is)
    (denotes c.args.text.now c.turn.new.self c.resolve.new.instrs c.in-Ok-table_of.entries.items w code)

pub returns : goal.returns
returns c =
    let done : c.in_ok-turn.field-0 ≡ false = search rules in
    let h : IsEnded c.args.text.now c.turn.new.self = ended c.args.text.now c.loop-reading.reading c.turn.new.self c.in_ok-turn.field-0 c.in_ok-turn.ensures done in
    let targets : AreResolved c.turn.new.self.labels.entries c.turn.new.self.references.items c.turn.new.self.instrs.items c.resolve.new.instrs =
    subst (λ refs. AreResolved c.turn.new.self.labels.entries refs c.turn.new.self.instrs.items c.resolve.new.instrs) c.deref.ensures.value
    (subst (λ is. AreResolved c.turn.new.self.labels.entries c.deref.result.now is c.resolve.new.instrs) c.deref_mut.ensures.value c.in-Ok.ensures) in
    let entries : IsTableOf c.turn.new.self.memory (map raw_array c.turn.new.self.arrays.items) c.in-Ok-table_of.entries.items =
    subst (λ rows. IsTableOf c.turn.new.self.memory (map raw_array rows) c.in-Ok-table_of.entries.items) c.deref-2.ensures.value c.in-Ok-table_of.ensures in
    let w : IsWhole c.args.text.now c.turn.new.self c.resolve.new.instrs c.in-Ok-table_of.entries.items = record { end = h; targets = targets; header = c.in-Ok-check_header.ensures; entries = entries } in
    let long : c.turn.new.self.instrs.len ≡ length c.turn.new.self.instrs.items = search rules in
    let same = written c.args.text.now c.turn.new.self c.resolve.new.instrs c.turn.new.self.instrs.len h targets long in
    no_halt c.args.text.now c.turn.new.self c.resolve.new.instrs c.in-Ok-table_of.entries.items w
    (λ code. let wrong : false ≡ true = c.in-None.ensures.found.1 (subst (λ is. IsCode (record { version = c.turn.new.self.version; instrs = is })) (sym same) code) in absurd (cc))
