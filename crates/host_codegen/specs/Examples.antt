-- What the programs of small splits issue, as the definitions compute it.
use Rattle.std.specs.Prelude.{◌≡◌, ℕ, true, false, List, [], ◌∷◌}
use Rattle.ven_base.specs.declared.elem.Elem.{Elem}
use Rattle.ven_base.specs.declared.elem.Elem.TheVariants.{U8, U16}
use Rattle.ven_base.specs.declared.mapping.Mapping.TheVariants.{Identity}
use Rattle.ven_base.specs.declared.ops.Fold.TheVariants as fold
use Rattle.ven_base.specs.declared.ops.Op2.TheVariants as op2
use Rattle.ven_base.specs.Extent.{Extent}
use Rattle.venice_isa.specs.declared.issue.Issue.{Issue}
use Rattle.venice_isa.specs.declared.issue.Issue.TheVariants.{Vector, Read, Write, RWait, WWait, VWait, TWait}
use Rattle.venice_isa.specs.declared.kind.VecKind.{VecKind}
use Rattle.pass_plan.specs.declared.leaf.Leaf.{Leaf}
use Rattle.pass_plan.specs.declared.pass.PassKind.{PassKind}
use Rattle.pass_plan.specs.declared.pass.PassKind.TheVariants.{Map, Reduce}
use Rattle.pass_plan.specs.declared.split.ArrayPlace.{ArrayPlace}
use Rattle.pass_plan.specs.Pass.{Pass}
use Rattle.pass_plan.specs.Sound.{Split}
use Rattle.pass_plan.specs.Tree.{AtLeaf, Two, Move}
use Rattle.vector_codegen.specs.Kind.{two_kind, move_kind}
use Rattle.host_programs.specs.Expr.{value}
use Rattle.host_programs.specs.Program.{list_by}
use Rattle.host_programs.specs.ProgramLaws.{no_registers}
use Rattle.host_codegen.specs.SplitProgram.{split_program}

-- ---- splits of one pass

abbrev pub extent : (rows cols : ℕ) → Extent
extent rows cols = record { rows = rows; cols = cols }

abbrev pub array_at : Elem → Extent → (place : ℕ) → ArrayPlace
array_at elem shape place = record { elem = elem; shape = shape; place = place }

-- an array as it is
abbrev pub leaf_at : Elem → Extent → (array : ℕ) → Leaf
leaf_at elem shape array = record { array = array; elem = elem; shape = shape; map = Identity }

abbrev pub split_of : Pass → List ArrayPlace → (memory : ℕ) → Split
split_of pass arrays memory = record { passes = pass ∷ []; arrays = arrays; table = []; memory = memory }

-- the sum of two rows of four elements of two bytes
abbrev pub sum_of_two : Split
sum_of_two = split_of (record {
  kind = Map;
  domain = extent 1 4;
  leaves = leaf_at U16 (extent 1 4) 0 ∷ leaf_at U16 (extent 1 4) 1 ∷ [];
  tree = Two op2.Add U16 (AtLeaf 0) (AtLeaf 1);
  dest = 2;
  elem = U16;
}) (array_at U16 (extent 1 4) 0 ∷ array_at U16 (extent 1 4) 8 ∷ array_at U16 (extent 1 4) 16 ∷ []) 24

-- what a fold makes of the rows of an array of bytes
abbrev pub folded_rows : PassKind → Extent → (column : Extent) → (place memory : ℕ) → Split
folded_rows kind shape column place memory = split_of (record {
  kind = kind;
  domain = shape;
  leaves = leaf_at U8 shape 0 ∷ [];
  tree = Move U8 (AtLeaf 0);
  dest = 1;
  elem = U8;
}) (array_at U8 shape 0 ∷ array_at U8 column place ∷ []) memory

abbrev pub issued_by : Split → (spad : ℕ) → List Issue
issued_by split spad = list_by value (split_program split spad) 0 no_registers

-- ---- issues, each of one row

abbrev pub read_row : (mem spad bytes tag : ℕ) → Issue
read_row mem spad bytes tag =
    Read (record { mem = mem; spad = spad; rows = 1; bytes = bytes; mem_step = 0; spad_step = 0; tag = tag })

abbrev pub write_row : (mem spad bytes tag : ℕ) → Issue
write_row mem spad bytes tag =
    Write (record { mem = mem; spad = spad; rows = 1; bytes = bytes; mem_step = 0; spad_step = 0; tag = tag })

abbrev pub row_of : VecKind → (vl dst a b dst_step step : ℕ) → Issue
row_of kind vl dst a b dst_step step = Vector (record {
  kind = kind;
  vl = vl;
  rows = 1;
  dst = dst;
  a = a;
  b = b;
  dst_step = dst_step;
  a_step = step;
  b_step = step;
})

-- ---- the rows

-- two tiles of two elements: the second is read before the first is added
abbrev pub Added : Type 0
Added = issued_by sum_of_two 28 ≡
    read_row 0 0 4 0 ∷ read_row 8 8 4 0
    ∷ read_row 4 4 4 1 ∷ read_row 12 12 4 1
    ∷ TWait 0 ∷ TWait 2 ∷ row_of (two_kind op2.Add U16 false false false) 2 20 0 8 4 4 ∷ VWait ∷ write_row 16 20 4 2
    ∷ TWait 1 ∷ TWait 3 ∷ row_of (two_kind op2.Add U16 false false false) 2 24 4 12 4 4 ∷ VWait ∷ write_row 20 24 4 3
    ∷ RWait 0 ∷ WWait 0 ∷ []

abbrev pub sum_row : (vl dst a : ℕ) → Issue
sum_row vl dst a = row_of (move_kind U8 false true) vl dst a 0 1 vl

abbrev pub join_row : (dst : ℕ) → Issue
join_row dst = row_of (two_kind op2.Add U8 false false false) 1 dst dst 10 1 1

-- the sums of two rows of three elements, in tiles of two: each row's last tile adds its own to the sum so far, and is
-- written
abbrev pub CutRows : Type 0
CutRows = issued_by (folded_rows (Reduce fold.Sum) (extent 2 3) (extent 2 1) 6 8) 12 ≡
    read_row 0 0 2 0
    ∷ read_row 2 2 1 1 ∷ TWait 0 ∷ TWait 2 ∷ sum_row 2 6 0 ∷ VWait
    ∷ read_row 3 0 2 0 ∷ TWait 1 ∷ TWait 2 ∷ sum_row 1 10 2 ∷ join_row 6 ∷ VWait ∷ write_row 6 6 1 2
    ∷ read_row 5 2 1 1 ∷ TWait 0 ∷ TWait 3 ∷ sum_row 2 8 0 ∷ VWait
    ∷ TWait 1 ∷ TWait 3 ∷ sum_row 1 10 2 ∷ join_row 8 ∷ VWait ∷ write_row 7 8 1 3
    ∷ RWait 0 ∷ WWait 0 ∷ []

abbrev pub least_row : (vl dst a b dst_step : ℕ) → Issue
least_row vl dst a b dst_step = row_of (two_kind op2.Min U8 false false false) vl dst a b dst_step 5

-- the least of a row of five elements: two of them meet two, then one meets one, and then the two that are left
abbrev pub LeastOfFive : Type 0
LeastOfFive = issued_by (folded_rows (Reduce fold.Min) (extent 1 5) (extent 1 1) 5 6) 30 ≡
    read_row 0 0 5 0
    ∷ TWait 0 ∷ TWait 2 ∷ row_of (move_kind U8 false false) 5 10 0 0 5 5
    ∷ least_row 2 10 10 13 5 ∷ least_row 1 10 10 12 5 ∷ least_row 1 15 11 10 1 ∷ VWait ∷ write_row 5 15 1 2
    ∷ RWait 0 ∷ WWait 0 ∷ []

pub record WorkedRows : Type 0 where
  pub added : Added
  pub cut_rows : CutRows
  pub least_of_five : LeastOfFive
