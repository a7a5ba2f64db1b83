use Rattle.std.proofs.Common.{inl, inr, ◌≡◌, ◌∙◌, ap, sym, subst, [], ◌+◌, ◌∷◌, ◌++◌, true}
use Rattle.std.proofs.lemmas.Bool.{cases_Bool}
use Rattle.ven_base.specs.Grid.{Grid}
use Rattle.venice_machine.specs.Start.{array_in}
use Rattle.venice_machine.proofs.Outgoing.{IsTaken, no_output, one_output, new_name, few_taken, same_some, not_none}
use Rattle.venice_machine.proofs.arrays.outputs.Goals as goal
use Rattle.venice_machine.proofs.arrays.outputs.Goals.{then-entry+in_ok-array+in-Some+in_ok-add, then-entry+in_ok-array+in_default, else-entry}

pub add-requires : goal.add-requires
add-requires c = few_taken c.args.memory.now c.args.table.now c.loop-entry.entry-index c.loop-entry.arrays c.loop-entry.invariant c.loop-entry-test.true c.requires.few

pub loop-entry-preserved : goal.loop-entry-preserved
loop-entry-preserved c =
    let memory = c.args.memory.now in
    let table = c.args.table.now in
    let entry = c.entry-item.result in
    let index = c.loop-entry.entry-index in
    let old = c.loop-entry.arrays in
    elim c.if-entry.branch [
      | then-entry+in_ok-array+in-Some+in_ok-add w ↦
          let array : array_in memory entry ≡ w.in-Some.array = same_some (array_in memory entry) w.in-Some.array (sym w.in_ok-array.ensures ∙ w.in-Some.is) in
          let added : w.in_ok-add.field-0 ≡ true = elim (cases_Bool w.in_ok-add.field-0) [
            | inl is_added ↦ is_added
            | inr isnt ↦ absurd (new_name memory table index old entry c.loop-entry-test.true c.entry-item.is c.loop-entry.invariant c.requires.distinct (w.in_ok-add.ensures.there isnt).0)
          ] in
          let new = w.arrays-is ∙ w.in_ok-add.ensures.added added ∙ ap (λ (g : Grid). old ++ (entry.name, g) ∷ []) (sym array) in
          subst (IsTaken memory table (index + 1)) (sym new) (one_output memory table index old entry c.loop-entry-test.true c.entry-item.is c.loop-entry.invariant w.if-entry.true)
      | then-entry+in_ok-array+in_default w ↦ absurd (not_none (array_in memory entry) (sym w.in_ok-array.ensures ∙ w.in_default.is))
      | else-entry w ↦
          subst (IsTaken memory table (index + 1)) (sym w.arrays-is) (no_output memory table index old entry c.loop-entry-test.true c.entry-item.is c.loop-entry.invariant w.if-entry.false)
    ]
