use Rattle.std.proofs.Common.{◌≡◌, List, [], ◌∷◌, ◌++◌, ap, subst, arith}
use Rattle.std.specs.Prelude.{ℤ, OnOk, codes}
use Rattle.std.specs.Fmt.{signed_decimal}
use Rattle.std.specs.Int.{w64}
use mir.Val.{to_z, of_z}
use Rattle.array_syntax.specs.Limits.{IsWritable, height}
use Rattle.array_syntax.specs.Printed.{call_text, expr_text}
use Rattle.array_syntax.specs.Tree as trees
use Rattle.array_syntax.specs.Tree.{tree_of}
use Rattle.array_syntax.proofs.Forms.{read_signed, read_number, at_name, at_literal, at_one, at_two, at_cast, at_select, at_shift, at_rotate, at_section, at_stretch, at_transpose, at_row_fold, at_fold}
use Rattle.array_syntax.proofs.printing.+printing.Goals as goal

pub print_expr-returns-in-Name : goal.print_expr-returns-in-Name
print_expr-returns-in-Name t c = rw (at_name c.args.e.now c.in-Name.name c.in-Name.is) (grind (arith, c.extend_from_slice.ensures.items, c.bytes.ensures.value))

pub print_expr-returns-in-Literal : goal.print_expr-returns-in-Literal
print_expr-returns-in-Literal t c =
    let is = at_literal c.args.e.now c.in-Literal.n c.in-Literal.is in
    let w : IsWritable (trees.Literal c.args.e.now.at c.in-Literal.n) = subst IsWritable is c.requires in
    rw is (subst (λ n. OnOk c.print_number.result (c.print_number.new.text.items ≡ c.args.text.now.items ++ signed_decimal n)) (read_signed c.in-Literal.n w) c.print_number.ensures)

-- ---- One

pub print_expr-print_one-requires : goal.print_expr-print_one-requires
print_expr-print_one-requires t c =
    let is : tree_of c.args.e.now ≡ trees.One c.args.e.now.at c.in-One.op (tree_of c.get.result.now) = at_one c.args.e.now c.in-One.op c.in-One.a c.get.result.now c.in-One.is c.get.ensures in
    let high = ap height is in
    let w : IsWritable (trees.One c.args.e.now.at c.in-One.op (tree_of c.get.result.now)) = subst IsWritable is c.requires in
    (omega (arith, c.decreases, high), w)

pub print_expr-returns-in-One : goal.print_expr-returns-in-One
print_expr-returns-in-One t c = rw (at_one c.args.e.now c.in-One.op c.in-One.a c.get.result.now c.in-One.is c.get.ensures) c.print_one.ensures

-- ---- Two

pub print_expr-print_two-requires : goal.print_expr-print_two-requires
print_expr-print_two-requires t c =
    let is : tree_of c.args.e.now ≡ trees.Two c.args.e.now.at c.in-Two.op (tree_of c.get-in-Two.result.now) (tree_of c.get-in-Two-2.result.now) = at_two c.args.e.now c.in-Two.op c.in-Two.a c.in-Two.b c.get-in-Two.result.now c.get-in-Two-2.result.now c.in-Two.is c.get-in-Two.ensures c.get-in-Two-2.ensures in
    let high = ap height is in
    let w : IsWritable (trees.Two c.args.e.now.at c.in-Two.op (tree_of c.get-in-Two.result.now) (tree_of c.get-in-Two-2.result.now)) = subst IsWritable is c.requires in
    (grind (arith, c.decreases, high), w)

pub print_expr-returns-in-Two : goal.print_expr-returns-in-Two
print_expr-returns-in-Two t c = rw (at_two c.args.e.now c.in-Two.op c.in-Two.a c.in-Two.b c.get-in-Two.result.now c.get-in-Two-2.result.now c.in-Two.is c.get-in-Two.ensures c.get-in-Two-2.ensures) c.print_two.ensures

-- ---- Cast

pub print_expr-print_call-requires : goal.print_expr-print_call-requires
print_expr-print_call-requires t c =
    let is : tree_of c.args.e.now ≡ trees.Cast c.args.e.now.at c.in-Cast.elem (tree_of c.get-in-Cast.result.now) = at_cast c.args.e.now c.in-Cast.elem c.in-Cast.a c.get-in-Cast.result.now c.in-Cast.is c.get-in-Cast.ensures in
    let high = ap height is in
    let w : IsWritable (trees.Cast c.args.e.now.at c.in-Cast.elem (tree_of c.get-in-Cast.result.now)) = subst IsWritable is c.requires in
    (omega (arith, c.decreases, high), w)

pub print_expr-returns-in-Cast : goal.print_expr-returns-in-Cast
print_expr-returns-in-Cast t c = rw (at_cast c.args.e.now c.in-Cast.elem c.in-Cast.a c.get-in-Cast.result.now c.in-Cast.is c.get-in-Cast.ensures) (rw c.word.ensures at c.print_call.ensures)

-- ---- Select

pub print_expr-print_select-requires : goal.print_expr-print_select-requires
print_expr-print_select-requires t c =
    let is : tree_of c.args.e.now ≡ trees.Select c.args.e.now.at (tree_of c.get-in-Select.result.now) (tree_of c.get-in-Select-2.result.now) (tree_of c.get-in-Select-3.result.now) = at_select c.args.e.now c.in-Select.c c.in-Select.a c.in-Select.b c.get-in-Select.result.now c.get-in-Select-2.result.now c.get-in-Select-3.result.now c.in-Select.is c.get-in-Select.ensures c.get-in-Select-2.ensures c.get-in-Select-3.ensures in
    let high = ap height is in
    let w : IsWritable (trees.Select c.args.e.now.at (tree_of c.get-in-Select.result.now) (tree_of c.get-in-Select-2.result.now) (tree_of c.get-in-Select-3.result.now)) = subst IsWritable is c.requires in
    (grind (arith, c.decreases, high), w)

pub print_expr-returns-in-Select : goal.print_expr-returns-in-Select
print_expr-returns-in-Select t c = rw (at_select c.args.e.now c.in-Select.c c.in-Select.a c.in-Select.b c.get-in-Select.result.now c.get-in-Select-2.result.now c.get-in-Select-3.result.now c.in-Select.is c.get-in-Select.ensures c.get-in-Select-2.ensures c.get-in-Select-3.ensures) c.print_select.ensures

-- ---- Shift

pub print_expr-print_call-requires-in-Shift : goal.print_expr-print_call-requires-in-Shift
print_expr-print_call-requires-in-Shift t c =
    let is : tree_of c.args.e.now ≡ trees.Shift c.args.e.now.at (tree_of c.get-in-Shift.result.now) c.in-Shift.dr c.in-Shift.dc c.in-Shift.fill c.in-Shift._fill_at = at_shift c.args.e.now c.in-Shift.of c.get-in-Shift.result.now c.in-Shift.dr c.in-Shift.dc c.in-Shift.fill c.in-Shift._fill_at c.in-Shift.is c.get-in-Shift.ensures in
    let high = ap height is in
    let w : IsWritable (trees.Shift c.args.e.now.at (tree_of c.get-in-Shift.result.now) c.in-Shift.dr c.in-Shift.dc c.in-Shift.fill c.in-Shift._fill_at) = subst IsWritable is c.requires in
    (omega (arith, c.decreases, high), w.0)

pub print_expr-returns-in-Shift : goal.print_expr-returns-in-Shift
print_expr-returns-in-Shift t c =
    let is : tree_of c.args.e.now ≡ trees.Shift c.args.e.now.at (tree_of c.get-in-Shift.result.now) c.in-Shift.dr c.in-Shift.dc c.in-Shift.fill c.in-Shift._fill_at = at_shift c.args.e.now c.in-Shift.of c.get-in-Shift.result.now c.in-Shift.dr c.in-Shift.dc c.in-Shift.fill c.in-Shift._fill_at c.in-Shift.is c.get-in-Shift.ensures in
    let w : IsWritable (trees.Shift c.args.e.now.at (tree_of c.get-in-Shift.result.now) c.in-Shift.dr c.in-Shift.dc c.in-Shift.fill c.in-Shift._fill_at) = subst IsWritable is c.requires in
    rw is (subst (λ (ns : List ℤ). OnOk c.print_call-in-Shift.result (c.print_call-in-Shift.new.text.items ≡ c.args.text.now.items ++ call_text (codes "shift") (expr_text (tree_of c.get-in-Shift.result.now)) ns)) (λ k. read_signed c.in-Shift.dr w.1 k ∷ read_signed c.in-Shift.dc w.2 k ∷ read_signed c.in-Shift.fill w.3 k ∷ []) c.print_call-in-Shift.ensures)

-- ---- Rotate

pub print_expr-print_call-requires-in-Rotate : goal.print_expr-print_call-requires-in-Rotate
print_expr-print_call-requires-in-Rotate t c =
    let is : tree_of c.args.e.now ≡ trees.Rotate c.args.e.now.at (tree_of c.get-in-Rotate.result.now) c.in-Rotate.dr c.in-Rotate.dc = at_rotate c.args.e.now c.in-Rotate.of c.get-in-Rotate.result.now c.in-Rotate.dr c.in-Rotate.dc c.in-Rotate.is c.get-in-Rotate.ensures in
    let high = ap height is in
    let w : IsWritable (trees.Rotate c.args.e.now.at (tree_of c.get-in-Rotate.result.now) c.in-Rotate.dr c.in-Rotate.dc) = subst IsWritable is c.requires in
    (omega (arith, c.decreases, high), w.0)

pub print_expr-returns-in-Rotate : goal.print_expr-returns-in-Rotate
print_expr-returns-in-Rotate t c =
    let is : tree_of c.args.e.now ≡ trees.Rotate c.args.e.now.at (tree_of c.get-in-Rotate.result.now) c.in-Rotate.dr c.in-Rotate.dc = at_rotate c.args.e.now c.in-Rotate.of c.get-in-Rotate.result.now c.in-Rotate.dr c.in-Rotate.dc c.in-Rotate.is c.get-in-Rotate.ensures in
    let w : IsWritable (trees.Rotate c.args.e.now.at (tree_of c.get-in-Rotate.result.now) c.in-Rotate.dr c.in-Rotate.dc) = subst IsWritable is c.requires in
    rw is (subst (λ (ns : List ℤ). OnOk c.print_call-in-Rotate.result (c.print_call-in-Rotate.new.text.items ≡ c.args.text.now.items ++ call_text (codes "rotate") (expr_text (tree_of c.get-in-Rotate.result.now)) ns)) (λ k. read_signed c.in-Rotate.dr w.1 k ∷ read_signed c.in-Rotate.dc w.2 k ∷ []) c.print_call-in-Rotate.ensures)

-- ---- Section

pub print_expr-print_call-requires-in-Section : goal.print_expr-print_call-requires-in-Section
print_expr-print_call-requires-in-Section t c =
    let is : tree_of c.args.e.now ≡ trees.Section c.args.e.now.at (tree_of c.get-in-Section.result.now) c.in-Section.r0 c.in-Section.nr c.in-Section.sr c.in-Section.c0 c.in-Section.nc c.in-Section.sc = at_section c.args.e.now c.in-Section.of c.get-in-Section.result.now c.in-Section.r0 c.in-Section.nr c.in-Section.sr c.in-Section.c0 c.in-Section.nc c.in-Section.sc c.in-Section.is c.get-in-Section.ensures in
    let high = ap height is in
    let w : IsWritable (trees.Section c.args.e.now.at (tree_of c.get-in-Section.result.now) c.in-Section.r0 c.in-Section.nr c.in-Section.sr c.in-Section.c0 c.in-Section.nc c.in-Section.sc) = subst IsWritable is c.requires in
    (omega (arith, c.decreases, high), w.0)

pub print_expr-returns-in-Section : goal.print_expr-returns-in-Section
print_expr-returns-in-Section t c =
    let is : tree_of c.args.e.now ≡ trees.Section c.args.e.now.at (tree_of c.get-in-Section.result.now) c.in-Section.r0 c.in-Section.nr c.in-Section.sr c.in-Section.c0 c.in-Section.nc c.in-Section.sc = at_section c.args.e.now c.in-Section.of c.get-in-Section.result.now c.in-Section.r0 c.in-Section.nr c.in-Section.sr c.in-Section.c0 c.in-Section.nc c.in-Section.sc c.in-Section.is c.get-in-Section.ensures in
    let w : IsWritable (trees.Section c.args.e.now.at (tree_of c.get-in-Section.result.now) c.in-Section.r0 c.in-Section.nr c.in-Section.sr c.in-Section.c0 c.in-Section.nc c.in-Section.sc) = subst IsWritable is c.requires in
    rw is (subst (λ (ns : List ℤ). OnOk c.print_call-in-Section.result (c.print_call-in-Section.new.text.items ≡ c.args.text.now.items ++ call_text (codes "section") (expr_text (tree_of c.get-in-Section.result.now)) ns)) (λ k. read_number c.in-Section.r0 w.1 k ∷ read_number c.in-Section.nr w.2 k ∷ read_number c.in-Section.sr w.3 k ∷ read_number c.in-Section.c0 w.4 k ∷ read_number c.in-Section.nc w.5 k ∷ read_number c.in-Section.sc w.6 k ∷ []) c.print_call-in-Section.ensures)

-- ---- Stretch

pub print_expr-print_call-requires-in-Stretch : goal.print_expr-print_call-requires-in-Stretch
print_expr-print_call-requires-in-Stretch t c =
    let is : tree_of c.args.e.now ≡ trees.Stretch c.args.e.now.at (tree_of c.get-in-Stretch.result.now) c.in-Stretch.kr c.in-Stretch.kc = at_stretch c.args.e.now c.in-Stretch.of c.get-in-Stretch.result.now c.in-Stretch.kr c.in-Stretch.kc c.in-Stretch.is c.get-in-Stretch.ensures in
    let high = ap height is in
    let w : IsWritable (trees.Stretch c.args.e.now.at (tree_of c.get-in-Stretch.result.now) c.in-Stretch.kr c.in-Stretch.kc) = subst IsWritable is c.requires in
    (omega (arith, c.decreases, high), w.0)

pub print_expr-returns-in-Stretch : goal.print_expr-returns-in-Stretch
print_expr-returns-in-Stretch t c =
    let is : tree_of c.args.e.now ≡ trees.Stretch c.args.e.now.at (tree_of c.get-in-Stretch.result.now) c.in-Stretch.kr c.in-Stretch.kc = at_stretch c.args.e.now c.in-Stretch.of c.get-in-Stretch.result.now c.in-Stretch.kr c.in-Stretch.kc c.in-Stretch.is c.get-in-Stretch.ensures in
    let w : IsWritable (trees.Stretch c.args.e.now.at (tree_of c.get-in-Stretch.result.now) c.in-Stretch.kr c.in-Stretch.kc) = subst IsWritable is c.requires in
    rw is (subst (λ (ns : List ℤ). OnOk c.print_call-in-Stretch.result (c.print_call-in-Stretch.new.text.items ≡ c.args.text.now.items ++ call_text (codes "stretch") (expr_text (tree_of c.get-in-Stretch.result.now)) ns)) (λ k. read_number c.in-Stretch.kr w.1 k ∷ read_number c.in-Stretch.kc w.2 k ∷ []) c.print_call-in-Stretch.ensures)

-- ---- Transpose

pub print_expr-print_call-requires-in-Transpose : goal.print_expr-print_call-requires-in-Transpose
print_expr-print_call-requires-in-Transpose t c =
    let is : tree_of c.args.e.now ≡ trees.Transpose c.args.e.now.at (tree_of c.get-in-Transpose.result.now) = at_transpose c.args.e.now c.in-Transpose.of c.get-in-Transpose.result.now c.in-Transpose.is c.get-in-Transpose.ensures in
    let high = ap height is in
    let w : IsWritable (trees.Transpose c.args.e.now.at (tree_of c.get-in-Transpose.result.now)) = subst IsWritable is c.requires in
    (omega (arith, c.decreases, high), w)

pub print_expr-returns-in-Transpose : goal.print_expr-returns-in-Transpose
print_expr-returns-in-Transpose t c = rw (at_transpose c.args.e.now c.in-Transpose.of c.get-in-Transpose.result.now c.in-Transpose.is c.get-in-Transpose.ensures) c.print_call-in-Transpose.ensures

-- ---- RowFold

pub print_expr-print_call-requires-in-RowFold : goal.print_expr-print_call-requires-in-RowFold
print_expr-print_call-requires-in-RowFold t c =
    let is : tree_of c.args.e.now ≡ trees.RowFold c.args.e.now.at c.in-RowFold.fold (tree_of c.get-in-RowFold.result.now) = at_row_fold c.args.e.now c.in-RowFold.fold c.in-RowFold.a c.get-in-RowFold.result.now c.in-RowFold.is c.get-in-RowFold.ensures in
    let high = ap height is in
    let w : IsWritable (trees.RowFold c.args.e.now.at c.in-RowFold.fold (tree_of c.get-in-RowFold.result.now)) = subst IsWritable is c.requires in
    (omega (arith, c.decreases, high), w)

pub print_expr-returns-in-RowFold : goal.print_expr-returns-in-RowFold
print_expr-returns-in-RowFold t c = rw (at_row_fold c.args.e.now c.in-RowFold.fold c.in-RowFold.a c.get-in-RowFold.result.now c.in-RowFold.is c.get-in-RowFold.ensures) (rw c.row_fold_word.ensures at c.print_call-in-RowFold.ensures)

-- ---- Fold

pub print_expr-print_call-requires-in-Fold : goal.print_expr-print_call-requires-in-Fold
print_expr-print_call-requires-in-Fold t c =
    let is : tree_of c.args.e.now ≡ trees.Fold c.args.e.now.at c.in-Fold.fold (tree_of c.get-in-Fold.result.now) = at_fold c.args.e.now c.in-Fold.fold c.in-Fold.a c.get-in-Fold.result.now c.in-Fold.is c.get-in-Fold.ensures in
    let high = ap height is in
    let w : IsWritable (trees.Fold c.args.e.now.at c.in-Fold.fold (tree_of c.get-in-Fold.result.now)) = subst IsWritable is c.requires in
    (omega (arith, c.decreases, high), w)

pub print_expr-returns-in-Fold : goal.print_expr-returns-in-Fold
print_expr-returns-in-Fold t c = rw (at_fold c.args.e.now c.in-Fold.fold c.in-Fold.a c.get-in-Fold.result.now c.in-Fold.is c.get-in-Fold.ensures) (rw c.fold_word.ensures at c.print_call-in-Fold.ensures)
