use Rattle.std.proofs.Common.{subst, sym, IsTrue, ◌↔◌, inl, inr}
use Rattle.ven_base.specs.Store.{Size, IsInRange}
use Rattle.venice_isa.specs.Footprint.{Reads, Writes}
use Rattle.venice_isa.proofs.Ranges.{in_any_memory}
use Rattle.venice_isa.proofs.issue.Issue.is_in_range.Goals as goal

pub returns-in-Vector : goal.returns-in-Vector
returns-in-Vector c =
    let size : Size = record { cells = c.args.cells; memory = c.args.memory } in
    let test = c.is_in_range.ensures in
    subst (λ issue. IsTrue c.is_in_range.result ↔ IsInRange (Reads issue) (Writes issue) size) (sym c.in-Vector.is)
    (λ yes. in_any_memory c.in-Vector.work _ (test.0 yes) c.args.memory, λ in_range. test.1 (in_any_memory c.in-Vector.work _ in_range 0))

pub returns-in-Read : goal.returns-in-Read
returns-in-Read c =
    let size : Size = record { cells = c.args.cells; memory = c.args.memory } in
    let test = c.is_in_range-in-Read.ensures in
    elim c.in-Read.is [
      | inl is ↦ subst (λ issue. IsTrue c.is_in_range-in-Read.result ↔ IsInRange (Reads issue) (Writes issue) size) (sym is) test.read
      | inr is ↦ subst (λ issue. IsTrue c.is_in_range-in-Read.result ↔ IsInRange (Reads issue) (Writes issue) size) (sym is) test.write
    ]
