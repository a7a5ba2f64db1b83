-- The split of a program: its passes by number, the places of all arrays, and the table.
use Rattle.std.specs.Prelude.{◌≡◌, ℕ, ◌+◌, ◌*◌, List, [], ◌∷◌, ◌++◌, map, get_or, length, Bool, true, false}
use Rattle.std.specs.Int.{div_ceil}
use Rattle.ven_base.specs.declared.elem.Elem.{Elem}
use Rattle.ven_base.specs.declared.elem.Elem.TheVariants.{U8}
use Rattle.ven_base.specs.declared.entry.Entry.{Entry}
use Rattle.ven_base.specs.Elem.{size_of}
use Rattle.ven_base.specs.Extent.{Extent, elements_of}
use Rattle.ven_base.specs.Grid.{Grid}
use Rattle.ven_base.specs.Pairs.{Pairs}
use Rattle.shape_check.specs.declared.typed.ArrayType.{ArrayType}
use Rattle.shape_check.specs.Node.{elem_of, shape_of}
use Rattle.shape_check.specs.Statement.{Statement, Input, Let, Output}
use Rattle.shape_check.specs.Meaning.{no_grid, input_array}
use Rattle.pass_plan.specs.declared.leaf.Leaf.{Leaf}
use Rattle.pass_plan.specs.declared.split.ArrayPlace.{ArrayPlace}
use Rattle.pass_plan.specs.Tree.{TreeOver, AtLeaf}
use Rattle.pass_plan.specs.Pass.{Pass, Arrays, result_of, arrays_after}
use Rattle.pass_plan.specs.Sound.{Split, IsNumbering, no_place}
use Rattle.expr_split.specs.Cuts.{Draft, Planned, plan_from}

-- ---- arrays

-- the types and shapes of the inputs, in the order of their statements
abbrev pub input_type : Statement → List ArrayType
input_type (Input name elem shape) = record { elem = elem; shape = shape } ∷ []
input_type (Let name value) = []
input_type (Output name value) = []

abbrev pub input_types : List Statement → List ArrayType
input_types [] = []
input_types (s ∷ more) = input_type s ++ input_types more

-- the passes of a program, and the trees of its names: the inputs are its first arrays
abbrev pub plan_of : List Statement → Planned
plan_of program = plan_from program 0 [] (length (input_types program)) program

-- the type and shape of what a pass makes
abbrev pub draft_type : Draft → ArrayType
draft_type d = record { elem = d.elem; shape = result_of d.kind d.domain }

abbrev pub array_types : List Statement → List ArrayType
array_types program = input_types program ++ map draft_type (plan_of program).passes

-- the next multiple of 4
abbrev pub round_up : ℕ → ℕ
round_up n = div_ceil n 4 * 4

-- how many bytes an array has
abbrev pub bytes_of : ArrayType → ℕ
bytes_of type = elements_of type.shape * size_of type.elem

-- the arrays one after another from a place on, each at the next multiple of 4, and the end of the last
abbrev pub places_from : ℕ → List ArrayType → List ArrayPlace
places_from start [] = []
places_from start (type ∷ types) =
    record { elem = type.elem; shape = type.shape; place = round_up start }
    ∷ places_from (round_up start + bytes_of type) types

abbrev pub end_from : ℕ → List ArrayType → ℕ
end_from start [] = start
end_from start (type ∷ types) = end_from (round_up start + bytes_of type) types

abbrev pub places_of : List Statement → List ArrayPlace
places_of program = places_from 0 (array_types program)

-- ---- the table

-- the number of the array that a leaf is of
abbrev pub array_under : TreeOver Leaf → ℕ
array_under (AtLeaf leaf) = leaf.array
array_under _ = 0

-- the entry of an array that a tree is a leaf of
abbrev pub entry_at : List ArrayPlace → List ℕ → Bool → Elem → Extent → TreeOver Leaf → Entry
entry_at places name output elem shape t =
    let array = get_or places (array_under t) no_place in
    record { name = name; output = output; elem = elem; shape = shape; place = array.place }

-- the entry of an input or an output, by its name's tree
abbrev pub entry_of : List ArrayPlace → Statement → TreeOver Leaf → List Entry
entry_of places (Input name elem shape) t = entry_at places name false elem shape t ∷ []
entry_of places (Let name value) t = []
entry_of places (Output name value) t = entry_at places name true (elem_of value) (shape_of value) t ∷ []

abbrev pub table_from : List ArrayPlace → List Statement → List (TreeOver Leaf) → List Entry
table_from places [] trees = []
table_from places (s ∷ more) [] = []
table_from places (s ∷ more) (t ∷ trees) = entry_of places s t ++ table_from places more trees

-- ---- the split

-- the pass is this one, with its leaves by number, and makes this array
pub record IsPassOf (dest : ℕ) (draft : Draft) (pass : Pass) : Type 0 where
  pub kind_is : pass.kind ≡ draft.kind
  pub domain_is : pass.domain ≡ draft.domain
  pub elem_is : pass.elem ≡ draft.elem
  pub dest_is : pass.dest ≡ dest
  pub numbered : IsNumbering draft.tree pass.leaves pass.tree

-- the passes are these, and make one array after another
abbrev pub ArePassesOf : ℕ → List Draft → List Pass → Type 0
ArePassesOf dest [] [] = Unit {0}
ArePassesOf dest [] (pass ∷ passes) = ⊥
ArePassesOf dest (draft ∷ drafts) [] = ⊥
ArePassesOf dest (draft ∷ drafts) (pass ∷ passes) = IsPassOf dest draft pass × ArePassesOf (dest + 1) drafts passes

pub record IsSplitOf (program : List Statement) (split : Split) : Type 0 where
  pub passes : ArePassesOf (length (input_types program)) (plan_of program).passes split.passes
  pub arrays : split.arrays ≡ places_of program
  pub table : split.table ≡ table_from (places_of program) program (plan_of program).names
  pub memory : split.memory ≡ end_from 0 (array_types program)

-- ---- what the passes leave

-- the arrays of the inputs, in the order of their statements
abbrev pub input_grid : Pairs → Statement → List Grid
input_grid inputs (Input name elem shape) = input_array inputs name elem shape ∷ []
input_grid inputs (Let name value) = []
input_grid inputs (Output name value) = []

abbrev pub input_grids : Pairs → List Statement → List Grid
input_grids inputs [] = []
input_grids inputs (s ∷ more) = input_grid inputs s ++ input_grids inputs more

abbrev pub no_array : Grid
no_array = no_grid U8 (record { rows = 1; cols = 1 })

-- the first arrays are the inputs
abbrev pub first_arrays : List Grid → Arrays
first_arrays grids k = get_or grids k no_array

-- an output's name with the array that its tree is a leaf of
abbrev pub left_by : Arrays → Statement → TreeOver Leaf → Pairs
left_by arrays (Input name elem shape) t = []
left_by arrays (Let name value) t = []
left_by arrays (Output name value) t = (name, arrays (array_under t)) ∷ []

abbrev pub outputs_left : Arrays → List Statement → List (TreeOver Leaf) → Pairs
outputs_left arrays [] trees = []
outputs_left arrays (s ∷ more) [] = []
outputs_left arrays (s ∷ more) (t ∷ trees) = left_by arrays s t ++ outputs_left arrays more trees

-- the outputs after the passes of a split, done in order on whole arrays
abbrev pub left_of : List Statement → Split → Pairs → Pairs
left_of program split inputs =
    let arrays = arrays_after split.passes (first_arrays (input_grids inputs program)) in
    outputs_left arrays program (plan_of program).names
