use Rattle.std.proofs.Common.{◌≡◌, ◌∙◌, ◌++◌, ◌∷◌, [], rules, ap, subst, arith, map, length}
use Rattle.image_loader.specs.Image.{raw_entries}
use Rattle.venice_asm.specs.Parts.{raw_array}
use Rattle.venice_asm.specs.Steps.{IsEntryOf, IsWrongEntry}
use Rattle.venice_asm.proofs.Tables.{array_at, entry_place_more, table_more, table_right, table_wrong}
use Rattle.venice_asm.proofs.assembling.table_of.Goals as goal

pub returns-in-Err : goal.returns-in-Err
returns-in-Err c =
    let array = c.array-item.result in
    table_wrong c.args.memory c.args.arrays.now c.loop-array.array-index array c.loop-array.entries.items c.loop-array.place c.in-Err.fault
    (array_at c.args.arrays.now c.loop-array.array-index array array c.loop-array-test.true c.array-item.is)
    c.loop-array.invariant.same c.loop-array.invariant.right c.loop-array.invariant.place
    (subst (λ es. IsWrongEntry c.args.memory (raw_entries es) array c.loop-array.place c.in-Err.fault) c.deref.ensures.value c.in-Err.ensures)

pub loop-array-preserved : goal.loop-array-preserved
loop-array-preserved c =
    let array = c.array-item.result in
    let k = c.loop-array.array-index in
    let arrays = c.args.arrays.now in
    let is = array_at arrays k array array c.loop-array-test.true c.array-item.is in
    let entry = subst (λ es. IsEntryOf c.args.memory (raw_entries es) array c.in-Ok.entry) c.deref.ensures.value c.in-Ok.ensures in
    let name : length c.bytes.result.now ≡ length array.name = ap length c.bytes.ensures.value in
    let short = c.bytes.ensures.is_label.short in
    let place = c.loop-array.invariant.place in
    let next = entry_place_more (map raw_array arrays) k (raw_array array) is in
    let small = c.loop-array.invariant.small in
    let pushed : c.push.new.self.items ≡ c.loop-array.entries.items ++ c.in-Ok.entry ∷ [] = search rules in
    record {
      same = ap raw_entries pushed ∙ table_more c.args.memory arrays k array c.loop-array.entries.items c.in-Ok.entry is c.loop-array.invariant.same entry;
      right = table_right c.args.memory arrays k array c.loop-array.entries.items c.in-Ok.entry is c.loop-array.invariant.same entry c.loop-array.invariant.right;
      place = omega (arith, name, place, next);
      small = omega (arith, name, short, small);
    }
