-- What a list of issues does, one after another; waits do nothing.
use Rattle.std.specs.Prelude.{◌≡◌, List, [], ◌∷◌}
use Rattle.venice_isa.specs.declared.issue.Issue.{Issue}
use Rattle.venice_isa.specs.declared.issue.Issue.TheVariants.{Vector, Read, Write}
use Rattle.ven_base.specs.Store.{Store}
use Rattle.venice_isa.specs.Whole.{IsWhole}
use Rattle.venice_isa.specs.Copy.{read_into, written_back}

-- one issue takes cells and memory from these to those
abbrev pub DoesOne : Issue → Store → Store → Type 0
DoesOne (Vector work) before after = IsWhole work before.cells after.cells × (after.memory ≡ before.memory)
DoesOne (Read work) before after =
    (after.cells ≡ read_into work before.memory before.cells) × (after.memory ≡ before.memory)
DoesOne (Write work) before after =
    (after.cells ≡ before.cells) × (after.memory ≡ written_back work before.cells before.memory)
DoesOne _ before after = after ≡ before

-- the list takes cells and memory from these to those
abbrev pub Does : List Issue → Store → Store → Type 0
Does [] before after = after ≡ before
Does (issue ∷ issues) before after = (middle : Store) × DoesOne issue before middle × Does issues middle after
