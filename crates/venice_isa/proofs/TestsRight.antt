-- That the tests of an issue are right both ways.
use Rattle.std.proofs.Common.{◌↔◌, IsTrue}
use Rattle.ven_base.specs.Store.{Size}
use Rattle.venice_isa.specs.declared.issue.Issue.{Issue}
use Rattle.venice_isa.specs.Footprint.{HasFootprint, Conflicts}
use Rattle.venice_isa.specs.Tests.{is_in_range, are_in_conflict}
use Rattle.venice_isa.specs.Laws.{TestsDecide}
use Rattle.venice_isa.proofs.Decided.{range_decides, conflict_decides}

pub in_range_decided : (size : Size) (issue : Issue) → IsTrue (is_in_range size issue) ↔ HasFootprint size issue
in_range_decided size issue = range_decides size issue

pub conflict_decided : (first second : Issue) → IsTrue (are_in_conflict first second) ↔ Conflicts first second
conflict_decided first second = conflict_decides first second

pub decided : TestsDecide
decided = record { range = in_range_decided; conflict = conflict_decided }
