use Rattle.std.proofs.Common.{◌∙◌, ap, sym, subst, length, ◌+◌, ◌≤◌, cond}
use Rattle.std.specs.Option.{option_copied}
use Rattle.ven_base.specs.Pairs.{array_named}
use Rattle.venice_machine.specs.Start.{array_bytes, with_grid_bytes}
use Rattle.venice_machine.proofs.Inputs.{one_input, input_inside, is_array}
use Rattle.venice_machine.proofs.arrays.put_inputs.Goals as goal
use Rattle.venice_machine.proofs.arrays.put_inputs.Goals.{then-not-entry+in-Some, then-not-entry+in_default, else-not-entry}

pub put_array-requires : goal.put_array-requires
put_array-requires c =
    let entry = c.entry-item.result in
    let array = c.in-Some.array.now in
    let grid = is_array c.args.inputs.now entry.name array c.len.ensures.pairs c.in-Some.ensures.pair in
    let inside = input_inside (length c.args.memory.now) c.args.table.now c.args.inputs.now c.loop-entry.entry-index entry array c.requires.inside c.requires.fits grid c.loop-entry-test.true c.entry-item.is
    c.if-not-entry.true (sym c.in-Some.ensures.value) in
    record { inside = subst (λ n. entry.place + length (array_bytes array) ≤ n) (sym c.loop-entry.invariant.same) inside }

pub loop-entry-preserved : goal.loop-entry-preserved
loop-entry-preserved c =
    let entry = c.entry-item.result in
    let memory = c.loop-entry.memory in
    let named = array_named c.args.inputs.now entry.name in
    elim c.if-not-entry.branch [
      | then-not-entry+in-Some w ↦
          let puts = w.memory-is ∙ w.put_array.ensures.memory ∙ ap (λ a. with_grid_bytes a entry.place memory) w.in-Some.ensures.value ∙ ap (λ b. cond b memory (with_grid_bytes named entry.place memory)) (sym w.if-not-entry.true) in
          one_input c.args.table.now c.args.inputs.now c.loop-entry.entry-index c.args.memory.now memory c.if-not-entry.memory entry c.loop-entry-test.true c.entry-item.is puts
          (ap length w.memory-is ∙ w.put_array.ensures.same_length) c.loop-entry.invariant
      | then-not-entry+in_default w ↦
          let none = sym (ap (λ r. option_copied r) w.in_default.is) ∙ w.get.ensures.value in
          let puts = w.memory-is ∙ ap (λ a. with_grid_bytes a entry.place memory) none ∙ ap (λ b. cond b memory (with_grid_bytes named entry.place memory)) (sym w.if-not-entry.true) in
          one_input c.args.table.now c.args.inputs.now c.loop-entry.entry-index c.args.memory.now memory c.if-not-entry.memory entry c.loop-entry-test.true c.entry-item.is puts (ap length w.memory-is) c.loop-entry.invariant
      | else-not-entry w ↦
          let puts = w.memory-is ∙ ap (λ b. cond b memory (with_grid_bytes named entry.place memory)) (sym w.if-not-entry.false) in
          one_input c.args.table.now c.args.inputs.now c.loop-entry.entry-index c.args.memory.now memory c.if-not-entry.memory entry c.loop-entry-test.true c.entry-item.is puts (ap length w.memory-is) c.loop-entry.invariant
    ]
