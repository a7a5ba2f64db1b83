-- Laws of the machine's work, each the contract of a public function.
use Rattle.std.specs.Prelude.{◌≡◌, ◌↔◌, ℕ, ◌<◌, ◌^◌, ℤ, false, IsTrue, List, length, All}
use Rattle.ven_base.specs.declared.elem.Elem.{Elem}
use Rattle.ven_base.specs.Elem.{size_of, IsElement}
use Rattle.venice_isa.specs.declared.work.VecWork.{VecWork}
use Rattle.venice_isa.specs.declared.work.DmaWork.{DmaWork}
use Rattle.venice_isa.specs.declared.issue.Issue.TheVariants.{Vector, Read, Write}
use Rattle.ven_base.specs.Cell.{Cell}
use Rattle.ven_base.specs.Store.{Store, Size, in_cells, store_size, AgreeOn}
use Rattle.ven_base.specs.Job.{Job, IsReady, KeepsToFootprint}
use Rattle.venice_isa.specs.Cell.{cell_at, clear, byte_of}
use Rattle.venice_isa.specs.declared.region.Region.{Region}
use Rattle.venice_isa.specs.Region.{HasRowsApart, HasElementsApart, LiesBelow}
use Rattle.venice_isa.specs.Element.{bytes_of, number_of}
use Rattle.venice_isa.specs.Footprint.{Reads, Writes, HasFootprint, Conflicts, cells_of, memory_of}
use Rattle.venice_isa.specs.Tests.{is_in_range, are_in_conflict}
use Rattle.venice_isa.specs.Whole.{IsWhole, IsSimple}
use Rattle.venice_isa.specs.declared.issue.Issue.{Issue}
use Rattle.venice_isa.specs.Beat.{Progress, after_all_beats, course_of}
use Rattle.venice_isa.specs.Does.{DoesOne}
use Rattle.venice_isa.specs.Copy.{read_into, written_back, IsCopied}

-- where no row reaches into the next, no byte belongs to two elements
abbrev pub RowsApartKeepElementsApart : Type 0
RowsApartKeepElementsApart = (region : Region) → HasRowsApart region → HasElementsApart region

-- an instruction's effect leaves each cell outside its write footprint
abbrev pub WholeWritesItsFootprint : Type 0
WholeWritesItsFootprint =
    (work : VecWork) (before after : List Cell) → IsWhole work before after
    → (p : ℕ) → ¬ Writes (Vector work) (in_cells p) → cell_at after p ≡ cell_at before p

-- what it writes depends only on the cells of its read footprint
abbrev pub WholeReadsItsFootprint : Type 0
WholeReadsItsFootprint =
    (work : VecWork) (before after before' after' : List Cell) → IsWhole work before after → IsWhole work before' after'
    → length before' ≡ length before
    → ((p : ℕ) → Reads (Vector work) (in_cells p) → cell_at before' p ≡ cell_at before p)
    → (p : ℕ) → Writes (Vector work) (in_cells p) → cell_at after' p ≡ cell_at after p

-- the cells before determine the cells after
abbrev pub WholeIsDetermined : Type 0
WholeIsDetermined =
    (work : VecWork) (before after after' : List Cell) → IsWhole work before after → IsWhole work before after'
    → after' ≡ after

-- a read copies its bytes of memory to their cells, and changes no other cell
abbrev pub ReadCopiesItsRows : Type 0
ReadCopiesItsRows =
    (work : DmaWork) (memory : List ℕ) (cells : List Cell) → LiesBelow (memory_of work) (length memory)
    → LiesBelow (cells_of work) (length cells)
    → IsCopied clear 0 (0, false) (memory_of work) (cells_of work) memory cells (read_into work memory cells)

-- a write copies the bytes of its cells to their places in memory, and changes no other byte
abbrev pub WriteCopiesItsRows : Type 0
WriteCopiesItsRows =
    (work : DmaWork) (cells : List Cell) (memory : List ℕ) → LiesBelow (cells_of work) (length cells)
    → LiesBelow (memory_of work) (length memory)
    → IsCopied byte_of (0, false) 0 (cells_of work) (memory_of work) cells memory (written_back work cells memory)

-- the bytes of a number of a type spell that number: as many as an element has, each below 256
pub record SpellsNumber (elem : Elem) (n : ℤ) (bytes : List ℕ) : Type 0 where
  pub count : length bytes ≡ size_of elem
  pub each : All (λ byte. byte < 2 ^ 8) bytes
  pub number : number_of elem bytes ≡ n

abbrev pub BytesSpellTheirNumber : Type 0
BytesSpellTheirNumber = (elem : Elem) (n : ℤ) → IsElement elem n → SpellsNumber elem n (bytes_of elem n)

-- and a number has one spelling
abbrev pub NumbersHaveOneSpelling : Type 0
NumbersHaveOneSpelling = (elem : Elem) (n : ℤ) (bytes : List ℕ) → SpellsNumber elem n bytes → bytes ≡ bytes_of elem n

-- whatever the number of lanes, the beats of a simple instruction in range together are its whole effect
abbrev pub BeatsAreTheWhole : Type 0
BeatsAreTheWhole =
    (work : VecWork) (lanes : ℕ) (store : Store)
    → IsSimple work → 0 < lanes → HasFootprint (store_size store) (Vector work)
    → DoesOne (Vector work) store (after_all_beats (Vector work) lanes store)

-- the beats of a transfer in range together are its copy
abbrev pub BeatsAreTheCopy : Type 0
BeatsAreTheCopy =
    (work : DmaWork) (lanes : ℕ) (store : Store)
    → (HasFootprint (store_size store) (Read work)
    → DoesOne (Read work) store (after_all_beats (Read work) lanes store))
    × (HasFootprint (store_size store) (Write work)
    → DoesOne (Write work) store (after_all_beats (Write work) lanes store))

-- the next beat of a work, whatever has been done of it, keeps to the work's footprint: in any two stores that have the
-- footprint and agree on what the work reads it does the same, and only places that the work writes change
abbrev pub NextBeatKeepsToFootprint : Type 0
NextBeatKeepsToFootprint =
    (lanes : ℕ) (job : Job Issue Progress) (first second : Store) → 0 < lanes
    → IsReady (course_of lanes) Reads Writes job (store_size first)
    → IsReady (course_of lanes) Reads Writes job (store_size second)
    → AgreeOn (Reads job.work) first second → KeepsToFootprint (course_of lanes) Writes job first second

-- the tests of an issue answer true exactly where the issue is in range, and where two conflict
pub record TestsDecide : Type 0 where
  pub range : (size : Size) (issue : Issue) → IsTrue (is_in_range size issue) ↔ HasFootprint size issue
  pub conflict : (first second : Issue) → IsTrue (are_in_conflict first second) ↔ Conflicts first second
