-- How many vector instructions and beats a tile takes.
use Rattle.std.specs.Prelude.{ℕ, ◌+◌, ◌≤◌, List, [], ◌∷◌, length}
use Rattle.venice_isa.specs.declared.work.VecWork.{VecWork}
use Rattle.venice_isa.specs.Beat.{vector_beats}

abbrev pub vector_beats_of_all : List VecWork → (lanes : ℕ) → ℕ
vector_beats_of_all [] lanes = 0
vector_beats_of_all (work ∷ works) lanes = vector_beats work lanes + vector_beats_of_all works lanes

-- there are at most so many instructions, and at most so many beats
pub record AreAtMost (works : List VecWork) (lanes most : ℕ) : Type 0 where
  pub count : length works ≤ most
  pub beats : vector_beats_of_all works lanes ≤ most
