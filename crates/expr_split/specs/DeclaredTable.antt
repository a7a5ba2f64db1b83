-- The inputs and outputs of a program as tables, in the order of its statements, without places.
use Rattle.std.specs.Prelude.{List, [], ◌∷◌, ◌++◌, true, false}
use Rattle.ven_base.specs.declared.entry.Entry.{Entry}
use Rattle.shape_check.specs.Node.{elem_of, shape_of}
use Rattle.shape_check.specs.Statement.{Statement, Input, Let, Output}

-- the inputs
abbrev pub input_entry : Statement → List Entry
input_entry (Input name elem shape) =
    record { name = name; output = false; elem = elem; shape = shape; place = 0 } ∷ []
input_entry (Let name value) = []
input_entry (Output name value) = []

abbrev pub input_table : List Statement → List Entry
input_table [] = []
input_table (statement ∷ more) = input_entry statement ++ input_table more

-- the inputs and the outputs
abbrev pub declared_entry : Statement → List Entry
declared_entry (Input name elem shape) = input_entry (Input name elem shape)
declared_entry (Let name value) = []
declared_entry (Output name value) =
    record { name = name; output = true; elem = elem_of value; shape = shape_of value; place = 0 } ∷ []

abbrev pub declared_table : List Statement → List Entry
declared_table [] = []
declared_table (statement ∷ more) = declared_entry statement ++ declared_table more

-- an entry wherever its array stands
abbrev pub unplaced : Entry → Entry
unplaced entry = record entry { place = 0 }
