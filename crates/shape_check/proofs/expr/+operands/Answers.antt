use Rattle.std.proofs.Common.{◌≡◌, sym, ap, ◌∙◌, subst, refl, arith, Ok}
use Rattle.std.specs.Int.{w64}
use mir.Val.{to_z, of_z}
use Rattle.ven_base.specs.Place.{IsMove}
use Rattle.ven_base.specs.declared.mapping.Mapping.TheVariants as maps
use Rattle.array_syntax.specs.Limits.{IsWritable, IsNumber, height}
use Rattle.array_syntax.specs.Tree as trees
use Rattle.array_syntax.specs.Tree.{Tree, tree_of}
use Rattle.shape_check.specs.Node.{Node}
use Rattle.shape_check.specs.Typed.{node_of}
use Rattle.shape_check.specs.Typing.{section_of, stretch_of}
use Rattle.shape_check.specs.Judge.{Operand, Number, Verdict, operand_of, judge, lone, chain, array, on_name, one_of, cast_of, on_two, on_select, map_of, on_shift, on_section, on_stretch, row_fold_of, fold_of}
use Rattle.shape_check.proofs.Arms.{exit_chain, go_on, same_verdict, move_of, read_signed, signed_of, at_name, at_literal, at_one, at_two, at_cast, at_select, at_shift, at_rotate, at_section, at_stretch, at_transpose, at_row_fold, at_fold}
use Rattle.shape_check.proofs.expr.+operands.Goals as goal

pub array-operand-requires : goal.array-operand-requires
array-operand-requires t c = (omega (arith, c.decreases), (c.requires.writable, c.requires.room))

pub operand-returns-in-Name : goal.operand-returns-in-Name
operand-returns-in-Name t c =
    let e = c.args.e.now in
    same_verdict operand_of (judge c.args.names.now (tree_of e)) (on_name c.args.names.now e.at c.in-Name.name) c.name.result (ap (judge c.args.names.now) (at_name e c.in-Name.name c.in-Name.is)) c.name.ensures

pub operand-returns-in-Literal : goal.operand-returns-in-Literal
operand-returns-in-Literal t c =
    let is = at_literal c.args.e.now c.in-Literal.value c.in-Literal.is in
    let w : IsWritable (trees.Literal c.args.e.now.at c.in-Literal.value) = subst IsWritable is c.requires.writable in
    ap (judge c.args.names.now) is ∙ sym (ap (λ n. Ok (Number c.args.e.now.at n)) (read_signed c.in-Literal.value w))

-- ---- One

pub operand-array-requires : goal.operand-array-requires
operand-array-requires t c =
    let is : tree_of c.args.e.now ≡ trees.One c.args.e.now.at c.in-One.op (tree_of c.get.result.now) = at_one c.args.e.now c.in-One.op c.in-One.a c.get.result.now c.in-One.is c.get.ensures in
    let high = ap height is in
    let w : IsWritable (trees.One c.args.e.now.at c.in-One.op (tree_of c.get.result.now)) = subst IsWritable is c.requires.writable in
    (omega (arith, c.decreases, high), (w, c.requires.room))

pub operand-returns-in_err-a-in-One : goal.operand-returns-in_err-a-in-One
operand-returns-in_err-a-in-One t c =
    let scope = c.args.names.now in
    let v = chain (judge scope (tree_of c.get.result.now)) lone in
    let f : Node → Verdict = λ e. array (one_of c.in-One.op e) in
    let is : tree_of c.args.e.now ≡ trees.One c.args.e.now.at c.in-One.op (tree_of c.get.result.now) = at_one c.args.e.now c.in-One.op c.in-One.a c.get.result.now c.in-One.is c.get.ensures in
    same_verdict operand_of (judge scope (tree_of c.args.e.now)) (chain v f) c.from_residual.result (ap (judge scope) is)
    (exit_chain operand_of v f c.from_residual.result c.in_err-a-in-One.field-0.0 c.from_residual.ensures.1 c.in_err-a-in-One.ensures)

pub operand-returns-in_ok-a-in-One : goal.operand-returns-in_ok-a-in-One
operand-returns-in_ok-a-in-One t c =
    let scope = c.args.names.now in
    let v = chain (judge scope (tree_of c.get.result.now)) lone in
    let f : Node → Verdict = λ e. array (one_of c.in-One.op e) in
    let a = node_of c.in_ok-a-in-One.a in
    let is : tree_of c.args.e.now ≡ trees.One c.args.e.now.at c.in-One.op (tree_of c.get.result.now) = at_one c.args.e.now c.in-One.op c.in-One.a c.get.result.now c.in-One.is c.get.ensures in
    same_verdict operand_of (judge scope (tree_of c.args.e.now)) (chain v f) c.made.result (ap (judge scope) is)
    (go_on operand_of v f a c.made.result c.in_ok-a-in-One.ensures (c.made.ensures (one_of c.in-One.op a) c.one.ensures))

-- ---- Cast

pub operand-array-requires-in-Cast : goal.operand-array-requires-in-Cast
operand-array-requires-in-Cast t c =
    let is : tree_of c.args.e.now ≡ trees.Cast c.args.e.now.at c.in-Cast.elem (tree_of c.get-in-Cast.result.now) = at_cast c.args.e.now c.in-Cast.elem c.in-Cast.a c.get-in-Cast.result.now c.in-Cast.is c.get-in-Cast.ensures in
    let high = ap height is in
    let w : IsWritable (trees.Cast c.args.e.now.at c.in-Cast.elem (tree_of c.get-in-Cast.result.now)) = subst IsWritable is c.requires.writable in
    (omega (arith, c.decreases, high), (w, c.requires.room))

pub operand-returns-in_err-a-in-Cast : goal.operand-returns-in_err-a-in-Cast
operand-returns-in_err-a-in-Cast t c =
    let scope = c.args.names.now in
    let v = chain (judge scope (tree_of c.get-in-Cast.result.now)) lone in
    let f : Node → Verdict = λ e. array (cast_of c.in-Cast.elem e) in
    let is : tree_of c.args.e.now ≡ trees.Cast c.args.e.now.at c.in-Cast.elem (tree_of c.get-in-Cast.result.now) = at_cast c.args.e.now c.in-Cast.elem c.in-Cast.a c.get-in-Cast.result.now c.in-Cast.is c.get-in-Cast.ensures in
    same_verdict operand_of (judge scope (tree_of c.args.e.now)) (chain v f) c.from_residual-in_err-a-in-Cast.result (ap (judge scope) is)
    (exit_chain operand_of v f c.from_residual-in_err-a-in-Cast.result c.in_err-a-in-Cast.field-0.0 c.from_residual-in_err-a-in-Cast.ensures.1 c.in_err-a-in-Cast.ensures)

pub operand-returns-in_ok-a-in-Cast : goal.operand-returns-in_ok-a-in-Cast
operand-returns-in_ok-a-in-Cast t c =
    let scope = c.args.names.now in
    let v = chain (judge scope (tree_of c.get-in-Cast.result.now)) lone in
    let f : Node → Verdict = λ e. array (cast_of c.in-Cast.elem e) in
    let a = node_of c.in_ok-a-in-Cast.a in
    let is : tree_of c.args.e.now ≡ trees.Cast c.args.e.now.at c.in-Cast.elem (tree_of c.get-in-Cast.result.now) = at_cast c.args.e.now c.in-Cast.elem c.in-Cast.a c.get-in-Cast.result.now c.in-Cast.is c.get-in-Cast.ensures in
    same_verdict operand_of (judge scope (tree_of c.args.e.now)) (chain v f) c.made-in-Cast.result (ap (judge scope) is)
    (go_on operand_of v f a c.made-in-Cast.result c.in_ok-a-in-Cast.ensures (c.made-in-Cast.ensures (cast_of c.in-Cast.elem a) c.cast.ensures))

-- ---- Shift

pub operand-array-requires-in-Shift : goal.operand-array-requires-in-Shift
operand-array-requires-in-Shift t c =
    let is : tree_of c.args.e.now ≡ trees.Shift c.args.e.now.at (tree_of c.get-in-Shift.result.now) c.in-Shift.dr c.in-Shift.dc c.in-Shift.fill c.in-Shift.fill_at = at_shift c.args.e.now c.in-Shift.of c.get-in-Shift.result.now c.in-Shift.dr c.in-Shift.dc c.in-Shift.fill c.in-Shift.fill_at c.in-Shift.is c.get-in-Shift.ensures in
    let high = ap height is in
    let w : IsWritable (trees.Shift c.args.e.now.at (tree_of c.get-in-Shift.result.now) c.in-Shift.dr c.in-Shift.dc c.in-Shift.fill c.in-Shift.fill_at) = subst IsWritable is c.requires.writable in
    (omega (arith, c.decreases, high), (w.0, c.requires.room))

pub operand-returns-in_err-of-in-Shift : goal.operand-returns-in_err-of-in-Shift
operand-returns-in_err-of-in-Shift t c =
    let scope = c.args.names.now in
    let v = chain (judge scope (tree_of c.get-in-Shift.result.now)) lone in
    let f : Node → Verdict = on_shift c.in-Shift.dr c.in-Shift.dc c.in-Shift.fill c.in-Shift.fill_at in
    let is : tree_of c.args.e.now ≡ trees.Shift c.args.e.now.at (tree_of c.get-in-Shift.result.now) c.in-Shift.dr c.in-Shift.dc c.in-Shift.fill c.in-Shift.fill_at = at_shift c.args.e.now c.in-Shift.of c.get-in-Shift.result.now c.in-Shift.dr c.in-Shift.dc c.in-Shift.fill c.in-Shift.fill_at c.in-Shift.is c.get-in-Shift.ensures in
    same_verdict operand_of (judge scope (tree_of c.args.e.now)) (chain v f) c.from_residual-in_err-of-in-Shift.result (ap (judge scope) is)
    (exit_chain operand_of v f c.from_residual-in_err-of-in-Shift.result c.in_err-of-in-Shift.field-0.0 c.from_residual-in_err-of-in-Shift.ensures.1 c.in_err-of-in-Shift.ensures)

pub operand-shift-requires-clause-rows : goal.operand-shift-requires-clause-rows
operand-shift-requires-clause-rows t c =
    let is : tree_of c.args.e.now ≡ trees.Shift c.args.e.now.at (tree_of c.get-in-Shift.result.now) c.in-Shift.dr c.in-Shift.dc c.in-Shift.fill c.in-Shift.fill_at = at_shift c.args.e.now c.in-Shift.of c.get-in-Shift.result.now c.in-Shift.dr c.in-Shift.dc c.in-Shift.fill c.in-Shift.fill_at c.in-Shift.is c.get-in-Shift.ensures in
    let w : IsWritable (trees.Shift c.args.e.now.at (tree_of c.get-in-Shift.result.now) c.in-Shift.dr c.in-Shift.dc c.in-Shift.fill c.in-Shift.fill_at) = subst IsWritable is c.requires.writable in
    subst IsMove (sym (read_signed c.in-Shift.dr w.1)) (move_of c.in-Shift.dr w.1)

pub operand-shift-requires-clause-cols : goal.operand-shift-requires-clause-cols
operand-shift-requires-clause-cols t c =
    let is : tree_of c.args.e.now ≡ trees.Shift c.args.e.now.at (tree_of c.get-in-Shift.result.now) c.in-Shift.dr c.in-Shift.dc c.in-Shift.fill c.in-Shift.fill_at = at_shift c.args.e.now c.in-Shift.of c.get-in-Shift.result.now c.in-Shift.dr c.in-Shift.dc c.in-Shift.fill c.in-Shift.fill_at c.in-Shift.is c.get-in-Shift.ensures in
    let w : IsWritable (trees.Shift c.args.e.now.at (tree_of c.get-in-Shift.result.now) c.in-Shift.dr c.in-Shift.dc c.in-Shift.fill c.in-Shift.fill_at) = subst IsWritable is c.requires.writable in
    subst IsMove (sym (read_signed c.in-Shift.dc w.2)) (move_of c.in-Shift.dc w.2)

pub operand-returns-in_ok-of-in-Shift : goal.operand-returns-in_ok-of-in-Shift
operand-returns-in_ok-of-in-Shift t c =
    let scope = c.args.names.now in
    let v = chain (judge scope (tree_of c.get-in-Shift.result.now)) lone in
    let f : Node → Verdict = on_shift c.in-Shift.dr c.in-Shift.dc c.in-Shift.fill c.in-Shift.fill_at in
    let a = node_of c.in_ok-of-in-Shift.of in
    let is : tree_of c.args.e.now ≡ trees.Shift c.args.e.now.at (tree_of c.get-in-Shift.result.now) c.in-Shift.dr c.in-Shift.dc c.in-Shift.fill c.in-Shift.fill_at = at_shift c.args.e.now c.in-Shift.of c.get-in-Shift.result.now c.in-Shift.dr c.in-Shift.dc c.in-Shift.fill c.in-Shift.fill_at c.in-Shift.is c.get-in-Shift.ensures in
    let w : IsWritable (trees.Shift c.args.e.now.at (tree_of c.get-in-Shift.result.now) c.in-Shift.dr c.in-Shift.dc c.in-Shift.fill c.in-Shift.fill_at) = subst IsWritable is c.requires.writable in
    let dr = read_signed c.in-Shift.dr w.1 in
    let dc = read_signed c.in-Shift.dc w.2 in
    let fill = read_signed c.in-Shift.fill w.3 in
    same_verdict operand_of (judge scope (tree_of c.args.e.now)) (chain v f) c.shift.result (ap (judge scope) is)
    (go_on operand_of v f a c.shift.result c.in_ok-of-in-Shift.ensures
    (same_verdict operand_of (f a) (on_shift (to_z w64 (of_z w64 c.in-Shift.dr)) (to_z w64 (of_z w64 c.in-Shift.dc)) (to_z w64 (of_z w64 c.in-Shift.fill)) c.in-Shift.fill_at a) c.shift.result (sym (λ k. on_shift (dr k) (dc k) (fill k) c.in-Shift.fill_at a)) c.shift.ensures))

-- ---- Rotate

pub operand-array-requires-in-Rotate : goal.operand-array-requires-in-Rotate
operand-array-requires-in-Rotate t c =
    let is : tree_of c.args.e.now ≡ trees.Rotate c.args.e.now.at (tree_of c.get-in-Rotate.result.now) c.in-Rotate.dr c.in-Rotate.dc = at_rotate c.args.e.now c.in-Rotate.of c.get-in-Rotate.result.now c.in-Rotate.dr c.in-Rotate.dc c.in-Rotate.is c.get-in-Rotate.ensures in
    let high = ap height is in
    let w : IsWritable (trees.Rotate c.args.e.now.at (tree_of c.get-in-Rotate.result.now) c.in-Rotate.dr c.in-Rotate.dc) = subst IsWritable is c.requires.writable in
    (omega (arith, c.decreases, high), (w.0, c.requires.room))

pub operand-returns-in_err-of-in-Rotate : goal.operand-returns-in_err-of-in-Rotate
operand-returns-in_err-of-in-Rotate t c =
    let scope = c.args.names.now in
    let v = chain (judge scope (tree_of c.get-in-Rotate.result.now)) lone in
    let f : Node → Verdict = λ e. array (map_of (maps.Rotate c.in-Rotate.dr c.in-Rotate.dc) e) in
    let is : tree_of c.args.e.now ≡ trees.Rotate c.args.e.now.at (tree_of c.get-in-Rotate.result.now) c.in-Rotate.dr c.in-Rotate.dc = at_rotate c.args.e.now c.in-Rotate.of c.get-in-Rotate.result.now c.in-Rotate.dr c.in-Rotate.dc c.in-Rotate.is c.get-in-Rotate.ensures in
    same_verdict operand_of (judge scope (tree_of c.args.e.now)) (chain v f) c.from_residual-in_err-of-in-Rotate.result (ap (judge scope) is)
    (exit_chain operand_of v f c.from_residual-in_err-of-in-Rotate.result c.in_err-of-in-Rotate.field-0.0 c.from_residual-in_err-of-in-Rotate.ensures.1 c.in_err-of-in-Rotate.ensures)

pub operand-map-requires : goal.operand-map-requires
operand-map-requires t c =
    let is : tree_of c.args.e.now ≡ trees.Rotate c.args.e.now.at (tree_of c.get-in-Rotate.result.now) c.in-Rotate.dr c.in-Rotate.dc = at_rotate c.args.e.now c.in-Rotate.of c.get-in-Rotate.result.now c.in-Rotate.dr c.in-Rotate.dc c.in-Rotate.is c.get-in-Rotate.ensures in
    let w : IsWritable (trees.Rotate c.args.e.now.at (tree_of c.get-in-Rotate.result.now) c.in-Rotate.dr c.in-Rotate.dc) = subst IsWritable is c.requires.writable in
    (subst IsMove (sym (read_signed c.in-Rotate.dr w.1)) (move_of c.in-Rotate.dr w.1), subst IsMove (sym (read_signed c.in-Rotate.dc w.2)) (move_of c.in-Rotate.dc w.2))

pub operand-returns-in_ok-of-in-Rotate : goal.operand-returns-in_ok-of-in-Rotate
operand-returns-in_ok-of-in-Rotate t c =
    let scope = c.args.names.now in
    let v = chain (judge scope (tree_of c.get-in-Rotate.result.now)) lone in
    let f : Node → Verdict = λ e. array (map_of (maps.Rotate c.in-Rotate.dr c.in-Rotate.dc) e) in
    let a = node_of c.in_ok-of-in-Rotate.of in
    let is : tree_of c.args.e.now ≡ trees.Rotate c.args.e.now.at (tree_of c.get-in-Rotate.result.now) c.in-Rotate.dr c.in-Rotate.dc = at_rotate c.args.e.now c.in-Rotate.of c.get-in-Rotate.result.now c.in-Rotate.dr c.in-Rotate.dc c.in-Rotate.is c.get-in-Rotate.ensures in
    let w : IsWritable (trees.Rotate c.args.e.now.at (tree_of c.get-in-Rotate.result.now) c.in-Rotate.dr c.in-Rotate.dc) = subst IsWritable is c.requires.writable in
    let dr = read_signed c.in-Rotate.dr w.1 in
    let dc = read_signed c.in-Rotate.dc w.2 in
    let made = map_of (maps.Rotate (to_z w64 (of_z w64 c.in-Rotate.dr)) (to_z w64 (of_z w64 c.in-Rotate.dc))) a in
    same_verdict operand_of (judge scope (tree_of c.args.e.now)) (chain v f) c.made-in-Rotate.result (ap (judge scope) is)
    (go_on operand_of v f a c.made-in-Rotate.result c.in_ok-of-in-Rotate.ensures
    (same_verdict operand_of (f a) (array made) c.made-in-Rotate.result (sym (λ k. array (map_of (maps.Rotate (dr k) (dc k)) a))) (c.made-in-Rotate.ensures made c.map.ensures)))

-- ---- Section

pub operand-array-requires-in-Section : goal.operand-array-requires-in-Section
operand-array-requires-in-Section t c =
    let is : tree_of c.args.e.now ≡ trees.Section c.args.e.now.at (tree_of c.get-in-Section.result.now) c.in-Section.r0 c.in-Section.nr c.in-Section.sr c.in-Section.c0 c.in-Section.nc c.in-Section.sc = at_section c.args.e.now c.in-Section.of c.get-in-Section.result.now c.in-Section.r0 c.in-Section.nr c.in-Section.sr c.in-Section.c0 c.in-Section.nc c.in-Section.sc c.in-Section.is c.get-in-Section.ensures in
    let high = ap height is in
    let w : IsWritable (trees.Section c.args.e.now.at (tree_of c.get-in-Section.result.now) c.in-Section.r0 c.in-Section.nr c.in-Section.sr c.in-Section.c0 c.in-Section.nc c.in-Section.sc) = subst IsWritable is c.requires.writable in
    (omega (arith, c.decreases, high), (w.0, c.requires.room))

pub operand-returns-in_err-of-in-Section : goal.operand-returns-in_err-of-in-Section
operand-returns-in_err-of-in-Section t c =
    let scope = c.args.names.now in
    let v = chain (judge scope (tree_of c.get-in-Section.result.now)) lone in
    let f : Node → Verdict = on_section c.args.e.now.at (section_of c.in-Section.r0 c.in-Section.nr c.in-Section.sr c.in-Section.c0 c.in-Section.nc c.in-Section.sc) in
    let is : tree_of c.args.e.now ≡ trees.Section c.args.e.now.at (tree_of c.get-in-Section.result.now) c.in-Section.r0 c.in-Section.nr c.in-Section.sr c.in-Section.c0 c.in-Section.nc c.in-Section.sc = at_section c.args.e.now c.in-Section.of c.get-in-Section.result.now c.in-Section.r0 c.in-Section.nr c.in-Section.sr c.in-Section.c0 c.in-Section.nc c.in-Section.sc c.in-Section.is c.get-in-Section.ensures in
    same_verdict operand_of (judge scope (tree_of c.args.e.now)) (chain v f) c.from_residual-in_err-of-in-Section.result (ap (judge scope) is)
    (exit_chain operand_of v f c.from_residual-in_err-of-in-Section.result c.in_err-of-in-Section.field-0.0 c.from_residual-in_err-of-in-Section.ensures.1 c.in_err-of-in-Section.ensures)

pub operand-section_of-mapping-requires : goal.operand-section_of-mapping-requires
operand-section_of-mapping-requires t c =
    let is : tree_of c.args.e.now ≡ trees.Section c.args.e.now.at (tree_of c.get-in-Section.result.now) c.in-Section.r0 c.in-Section.nr c.in-Section.sr c.in-Section.c0 c.in-Section.nc c.in-Section.sc = at_section c.args.e.now c.in-Section.of c.get-in-Section.result.now c.in-Section.r0 c.in-Section.nr c.in-Section.sr c.in-Section.c0 c.in-Section.nc c.in-Section.sc c.in-Section.is c.get-in-Section.ensures in
    let w : IsWritable (trees.Section c.args.e.now.at (tree_of c.get-in-Section.result.now) c.in-Section.r0 c.in-Section.nr c.in-Section.sr c.in-Section.c0 c.in-Section.nc c.in-Section.sc) = subst IsWritable is c.requires.writable in
    record {
      first_row = subst IsNumber (sym (read_signed c.in-Section.r0 (signed_of c.in-Section.r0 w.1))) w.1;
      rows = subst IsNumber (sym (read_signed c.in-Section.nr (signed_of c.in-Section.nr w.2))) w.2;
      row_step = subst IsNumber (sym (read_signed c.in-Section.sr (signed_of c.in-Section.sr w.3))) w.3;
      first_col = subst IsNumber (sym (read_signed c.in-Section.c0 (signed_of c.in-Section.c0 w.4))) w.4;
      cols = subst IsNumber (sym (read_signed c.in-Section.nc (signed_of c.in-Section.nc w.5))) w.5;
      col_step = subst IsNumber (sym (read_signed c.in-Section.sc (signed_of c.in-Section.sc w.6))) w.6;
    }

pub operand-returns-in_ok-of-in-Section : goal.operand-returns-in_ok-of-in-Section
operand-returns-in_ok-of-in-Section t c =
    let scope = c.args.names.now in
    let v = chain (judge scope (tree_of c.get-in-Section.result.now)) lone in
    let f : Node → Verdict = on_section c.args.e.now.at (section_of c.in-Section.r0 c.in-Section.nr c.in-Section.sr c.in-Section.c0 c.in-Section.nc c.in-Section.sc) in
    let a = node_of c.in_ok-of-in-Section.of in
    let is : tree_of c.args.e.now ≡ trees.Section c.args.e.now.at (tree_of c.get-in-Section.result.now) c.in-Section.r0 c.in-Section.nr c.in-Section.sr c.in-Section.c0 c.in-Section.nc c.in-Section.sc = at_section c.args.e.now c.in-Section.of c.get-in-Section.result.now c.in-Section.r0 c.in-Section.nr c.in-Section.sr c.in-Section.c0 c.in-Section.nc c.in-Section.sc c.in-Section.is c.get-in-Section.ensures in
    let w : IsWritable (trees.Section c.args.e.now.at (tree_of c.get-in-Section.result.now) c.in-Section.r0 c.in-Section.nr c.in-Section.sr c.in-Section.c0 c.in-Section.nc c.in-Section.sc) = subst IsWritable is c.requires.writable in
    let r0 = read_signed c.in-Section.r0 (signed_of c.in-Section.r0 w.1) in
    let nr = read_signed c.in-Section.nr (signed_of c.in-Section.nr w.2) in
    let sr = read_signed c.in-Section.sr (signed_of c.in-Section.sr w.3) in
    let c0 = read_signed c.in-Section.c0 (signed_of c.in-Section.c0 w.4) in
    let nc = read_signed c.in-Section.nc (signed_of c.in-Section.nc w.5) in
    let sc = read_signed c.in-Section.sc (signed_of c.in-Section.sc w.6) in
    let mapping : c.section_of-mapping.result ≡ section_of c.in-Section.r0 c.in-Section.nr c.in-Section.sr c.in-Section.c0 c.in-Section.nc c.in-Section.sc = c.section_of-mapping.ensures ∙ (λ k. section_of (r0 k) (nr k) (sr k) (c0 k) (nc k) (sc k)) in
    same_verdict operand_of (judge scope (tree_of c.args.e.now)) (chain v f) c.section.result (ap (judge scope) is)
    (go_on operand_of v f a c.section.result c.in_ok-of-in-Section.ensures
    (same_verdict operand_of (f a) (on_section c.args.e.now.at c.section_of-mapping.result a) c.section.result (sym (ap (λ m. on_section c.args.e.now.at m a) mapping)) c.section.ensures))

-- ---- Stretch

pub operand-array-requires-in-Stretch : goal.operand-array-requires-in-Stretch
operand-array-requires-in-Stretch t c =
    let is : tree_of c.args.e.now ≡ trees.Stretch c.args.e.now.at (tree_of c.get-in-Stretch.result.now) c.in-Stretch.kr c.in-Stretch.kc = at_stretch c.args.e.now c.in-Stretch.of c.get-in-Stretch.result.now c.in-Stretch.kr c.in-Stretch.kc c.in-Stretch.is c.get-in-Stretch.ensures in
    let high = ap height is in
    let w : IsWritable (trees.Stretch c.args.e.now.at (tree_of c.get-in-Stretch.result.now) c.in-Stretch.kr c.in-Stretch.kc) = subst IsWritable is c.requires.writable in
    (omega (arith, c.decreases, high), (w.0, c.requires.room))

pub operand-returns-in_err-of-in-Stretch : goal.operand-returns-in_err-of-in-Stretch
operand-returns-in_err-of-in-Stretch t c =
    let scope = c.args.names.now in
    let v = chain (judge scope (tree_of c.get-in-Stretch.result.now)) lone in
    let f : Node → Verdict = on_stretch c.args.e.now.at (stretch_of c.in-Stretch.kr c.in-Stretch.kc) in
    let is : tree_of c.args.e.now ≡ trees.Stretch c.args.e.now.at (tree_of c.get-in-Stretch.result.now) c.in-Stretch.kr c.in-Stretch.kc = at_stretch c.args.e.now c.in-Stretch.of c.get-in-Stretch.result.now c.in-Stretch.kr c.in-Stretch.kc c.in-Stretch.is c.get-in-Stretch.ensures in
    same_verdict operand_of (judge scope (tree_of c.args.e.now)) (chain v f) c.from_residual-in_err-of-in-Stretch.result (ap (judge scope) is)
    (exit_chain operand_of v f c.from_residual-in_err-of-in-Stretch.result c.in_err-of-in-Stretch.field-0.0 c.from_residual-in_err-of-in-Stretch.ensures.1 c.in_err-of-in-Stretch.ensures)

pub operand-stretch_of-requires : goal.operand-stretch_of-requires
operand-stretch_of-requires t c =
    let is : tree_of c.args.e.now ≡ trees.Stretch c.args.e.now.at (tree_of c.get-in-Stretch.result.now) c.in-Stretch.kr c.in-Stretch.kc = at_stretch c.args.e.now c.in-Stretch.of c.get-in-Stretch.result.now c.in-Stretch.kr c.in-Stretch.kc c.in-Stretch.is c.get-in-Stretch.ensures in
    let w : IsWritable (trees.Stretch c.args.e.now.at (tree_of c.get-in-Stretch.result.now) c.in-Stretch.kr c.in-Stretch.kc) = subst IsWritable is c.requires.writable in
    record {
      rows = subst IsNumber (sym (read_signed c.in-Stretch.kr (signed_of c.in-Stretch.kr w.1))) w.1;
      cols = subst IsNumber (sym (read_signed c.in-Stretch.kc (signed_of c.in-Stretch.kc w.2))) w.2;
    }

pub operand-returns-in_ok-of-in-Stretch : goal.operand-returns-in_ok-of-in-Stretch
operand-returns-in_ok-of-in-Stretch t c =
    let scope = c.args.names.now in
    let v = chain (judge scope (tree_of c.get-in-Stretch.result.now)) lone in
    let f : Node → Verdict = on_stretch c.args.e.now.at (stretch_of c.in-Stretch.kr c.in-Stretch.kc) in
    let a = node_of c.in_ok-of-in-Stretch.of in
    let is : tree_of c.args.e.now ≡ trees.Stretch c.args.e.now.at (tree_of c.get-in-Stretch.result.now) c.in-Stretch.kr c.in-Stretch.kc = at_stretch c.args.e.now c.in-Stretch.of c.get-in-Stretch.result.now c.in-Stretch.kr c.in-Stretch.kc c.in-Stretch.is c.get-in-Stretch.ensures in
    let w : IsWritable (trees.Stretch c.args.e.now.at (tree_of c.get-in-Stretch.result.now) c.in-Stretch.kr c.in-Stretch.kc) = subst IsWritable is c.requires.writable in
    let kr = read_signed c.in-Stretch.kr (signed_of c.in-Stretch.kr w.1) in
    let kc = read_signed c.in-Stretch.kc (signed_of c.in-Stretch.kc w.2) in
    let mapping : c.stretch_of.result ≡ stretch_of c.in-Stretch.kr c.in-Stretch.kc = c.stretch_of.ensures ∙ (λ k. stretch_of (kr k) (kc k)) in
    same_verdict operand_of (judge scope (tree_of c.args.e.now)) (chain v f) c.stretch.result (ap (judge scope) is)
    (go_on operand_of v f a c.stretch.result c.in_ok-of-in-Stretch.ensures
    (same_verdict operand_of (f a) (on_stretch c.args.e.now.at c.stretch_of.result a) c.stretch.result (sym (ap (λ m. on_stretch c.args.e.now.at m a) mapping)) c.stretch.ensures))

-- ---- Transpose

pub operand-array-requires-in-Transpose : goal.operand-array-requires-in-Transpose
operand-array-requires-in-Transpose t c =
    let is : tree_of c.args.e.now ≡ trees.Transpose c.args.e.now.at (tree_of c.get-in-Transpose.result.now) = at_transpose c.args.e.now c.in-Transpose.of c.get-in-Transpose.result.now c.in-Transpose.is c.get-in-Transpose.ensures in
    let high = ap height is in
    let w : IsWritable (trees.Transpose c.args.e.now.at (tree_of c.get-in-Transpose.result.now)) = subst IsWritable is c.requires.writable in
    (omega (arith, c.decreases, high), (w, c.requires.room))

pub operand-returns-in_err-of-in-Transpose : goal.operand-returns-in_err-of-in-Transpose
operand-returns-in_err-of-in-Transpose t c =
    let scope = c.args.names.now in
    let v = chain (judge scope (tree_of c.get-in-Transpose.result.now)) lone in
    let f : Node → Verdict = λ e. array (map_of maps.Transpose e) in
    let is : tree_of c.args.e.now ≡ trees.Transpose c.args.e.now.at (tree_of c.get-in-Transpose.result.now) = at_transpose c.args.e.now c.in-Transpose.of c.get-in-Transpose.result.now c.in-Transpose.is c.get-in-Transpose.ensures in
    same_verdict operand_of (judge scope (tree_of c.args.e.now)) (chain v f) c.from_residual-in_err-of-in-Transpose.result (ap (judge scope) is)
    (exit_chain operand_of v f c.from_residual-in_err-of-in-Transpose.result c.in_err-of-in-Transpose.field-0.0 c.from_residual-in_err-of-in-Transpose.ensures.1 c.in_err-of-in-Transpose.ensures)

pub operand-returns-in_ok-of-in-Transpose : goal.operand-returns-in_ok-of-in-Transpose
operand-returns-in_ok-of-in-Transpose t c =
    let scope = c.args.names.now in
    let v = chain (judge scope (tree_of c.get-in-Transpose.result.now)) lone in
    let f : Node → Verdict = λ e. array (map_of maps.Transpose e) in
    let a = node_of c.in_ok-of-in-Transpose.of in
    let is : tree_of c.args.e.now ≡ trees.Transpose c.args.e.now.at (tree_of c.get-in-Transpose.result.now) = at_transpose c.args.e.now c.in-Transpose.of c.get-in-Transpose.result.now c.in-Transpose.is c.get-in-Transpose.ensures in
    same_verdict operand_of (judge scope (tree_of c.args.e.now)) (chain v f) c.made-in-Transpose.result (ap (judge scope) is)
    (go_on operand_of v f a c.made-in-Transpose.result c.in_ok-of-in-Transpose.ensures (c.made-in-Transpose.ensures (map_of maps.Transpose a) c.map-in-Transpose.ensures))

-- ---- RowFold

pub operand-array-requires-in-RowFold : goal.operand-array-requires-in-RowFold
operand-array-requires-in-RowFold t c =
    let is : tree_of c.args.e.now ≡ trees.RowFold c.args.e.now.at c.in-RowFold.fold (tree_of c.get-in-RowFold.result.now) = at_row_fold c.args.e.now c.in-RowFold.fold c.in-RowFold.a c.get-in-RowFold.result.now c.in-RowFold.is c.get-in-RowFold.ensures in
    let high = ap height is in
    let w : IsWritable (trees.RowFold c.args.e.now.at c.in-RowFold.fold (tree_of c.get-in-RowFold.result.now)) = subst IsWritable is c.requires.writable in
    (omega (arith, c.decreases, high), (w, c.requires.room))

pub operand-returns-in_err-a-in-RowFold : goal.operand-returns-in_err-a-in-RowFold
operand-returns-in_err-a-in-RowFold t c =
    let scope = c.args.names.now in
    let v = chain (judge scope (tree_of c.get-in-RowFold.result.now)) lone in
    let f : Node → Verdict = λ e. array (row_fold_of c.in-RowFold.fold e) in
    let is : tree_of c.args.e.now ≡ trees.RowFold c.args.e.now.at c.in-RowFold.fold (tree_of c.get-in-RowFold.result.now) = at_row_fold c.args.e.now c.in-RowFold.fold c.in-RowFold.a c.get-in-RowFold.result.now c.in-RowFold.is c.get-in-RowFold.ensures in
    same_verdict operand_of (judge scope (tree_of c.args.e.now)) (chain v f) c.from_residual-in_err-a-in-RowFold.result (ap (judge scope) is)
    (exit_chain operand_of v f c.from_residual-in_err-a-in-RowFold.result c.in_err-a-in-RowFold.field-0.0 c.from_residual-in_err-a-in-RowFold.ensures.1 c.in_err-a-in-RowFold.ensures)

pub operand-returns-in_ok-a-in-RowFold : goal.operand-returns-in_ok-a-in-RowFold
operand-returns-in_ok-a-in-RowFold t c =
    let scope = c.args.names.now in
    let v = chain (judge scope (tree_of c.get-in-RowFold.result.now)) lone in
    let f : Node → Verdict = λ e. array (row_fold_of c.in-RowFold.fold e) in
    let a = node_of c.in_ok-a-in-RowFold.a in
    let is : tree_of c.args.e.now ≡ trees.RowFold c.args.e.now.at c.in-RowFold.fold (tree_of c.get-in-RowFold.result.now) = at_row_fold c.args.e.now c.in-RowFold.fold c.in-RowFold.a c.get-in-RowFold.result.now c.in-RowFold.is c.get-in-RowFold.ensures in
    same_verdict operand_of (judge scope (tree_of c.args.e.now)) (chain v f) c.made-in-RowFold.result (ap (judge scope) is)
    (go_on operand_of v f a c.made-in-RowFold.result c.in_ok-a-in-RowFold.ensures (c.made-in-RowFold.ensures (row_fold_of c.in-RowFold.fold a) c.row_fold.ensures))

-- ---- Fold

pub operand-array-requires-in-Fold : goal.operand-array-requires-in-Fold
operand-array-requires-in-Fold t c =
    let is : tree_of c.args.e.now ≡ trees.Fold c.args.e.now.at c.in-Fold.fold (tree_of c.get-in-Fold.result.now) = at_fold c.args.e.now c.in-Fold.fold c.in-Fold.a c.get-in-Fold.result.now c.in-Fold.is c.get-in-Fold.ensures in
    let high = ap height is in
    let w : IsWritable (trees.Fold c.args.e.now.at c.in-Fold.fold (tree_of c.get-in-Fold.result.now)) = subst IsWritable is c.requires.writable in
    (omega (arith, c.decreases, high), (w, c.requires.room))

pub operand-returns-in_err-a-in-Fold : goal.operand-returns-in_err-a-in-Fold
operand-returns-in_err-a-in-Fold t c =
    let scope = c.args.names.now in
    let v = chain (judge scope (tree_of c.get-in-Fold.result.now)) lone in
    let f : Node → Verdict = λ e. array (fold_of c.in-Fold.fold e) in
    let is : tree_of c.args.e.now ≡ trees.Fold c.args.e.now.at c.in-Fold.fold (tree_of c.get-in-Fold.result.now) = at_fold c.args.e.now c.in-Fold.fold c.in-Fold.a c.get-in-Fold.result.now c.in-Fold.is c.get-in-Fold.ensures in
    same_verdict operand_of (judge scope (tree_of c.args.e.now)) (chain v f) c.from_residual-in_err-a-in-Fold.result (ap (judge scope) is)
    (exit_chain operand_of v f c.from_residual-in_err-a-in-Fold.result c.in_err-a-in-Fold.field-0.0 c.from_residual-in_err-a-in-Fold.ensures.1 c.in_err-a-in-Fold.ensures)

pub operand-returns-in_ok-a-in-Fold : goal.operand-returns-in_ok-a-in-Fold
operand-returns-in_ok-a-in-Fold t c =
    let scope = c.args.names.now in
    let v = chain (judge scope (tree_of c.get-in-Fold.result.now)) lone in
    let f : Node → Verdict = λ e. array (fold_of c.in-Fold.fold e) in
    let a = node_of c.in_ok-a-in-Fold.a in
    let is : tree_of c.args.e.now ≡ trees.Fold c.args.e.now.at c.in-Fold.fold (tree_of c.get-in-Fold.result.now) = at_fold c.args.e.now c.in-Fold.fold c.in-Fold.a c.get-in-Fold.result.now c.in-Fold.is c.get-in-Fold.ensures in
    same_verdict operand_of (judge scope (tree_of c.args.e.now)) (chain v f) c.made-in-Fold.result (ap (judge scope) is)
    (go_on operand_of v f a c.made-in-Fold.result c.in_ok-a-in-Fold.ensures (c.made-in-Fold.ensures (fold_of c.in-Fold.fold a) c.fold.ensures))

-- ---- Two

pub operand-operand-requires : goal.operand-operand-requires
operand-operand-requires t c =
    let is : tree_of c.args.e.now ≡ trees.Two c.args.e.now.at c.in-Two.op (tree_of c.get-in-Two.result.now) (tree_of c.in-Two.b) = at_two c.args.e.now c.in-Two.op c.in-Two.a c.in-Two.b c.get-in-Two.result.now c.in-Two.b c.in-Two.is c.get-in-Two.ensures refl in
    let high = ap height is in
    let w : IsWritable (trees.Two c.args.e.now.at c.in-Two.op (tree_of c.get-in-Two.result.now) (tree_of c.in-Two.b)) = subst IsWritable is c.requires.writable in
    (omega (arith, c.decreases, high), (w.0, c.requires.room))

pub operand-returns-in_err-a-in-Two : goal.operand-returns-in_err-a-in-Two
operand-returns-in_err-a-in-Two t c =
    let scope = c.args.names.now in
    let is : tree_of c.args.e.now ≡ trees.Two c.args.e.now.at c.in-Two.op (tree_of c.get-in-Two.result.now) (tree_of c.in-Two.b) = at_two c.args.e.now c.in-Two.op c.in-Two.a c.in-Two.b c.get-in-Two.result.now c.in-Two.b c.in-Two.is c.get-in-Two.ensures refl in
    let v = judge scope (tree_of c.get-in-Two.result.now) in
    let f : Operand → Verdict = λ x. chain (judge scope (tree_of c.in-Two.b)) (λ y. on_two c.args.e.now.at c.in-Two.op x y) in
    same_verdict operand_of (judge scope (tree_of c.args.e.now)) (chain v f) c.from_residual-in_err-a-in-Two.result (ap (judge scope) is)
    (exit_chain operand_of v f c.from_residual-in_err-a-in-Two.result c.in_err-a-in-Two.field-0.0 c.from_residual-in_err-a-in-Two.ensures.1 c.in_err-a-in-Two.ensures)

pub operand-operand-requires-in-Two : goal.operand-operand-requires-in-Two
operand-operand-requires-in-Two t c =
    let is : tree_of c.args.e.now ≡ trees.Two c.args.e.now.at c.in-Two.op (tree_of c.get-in-Two.result.now) (tree_of c.get-in-Two-2.result.now) = at_two c.args.e.now c.in-Two.op c.in-Two.a c.in-Two.b c.get-in-Two.result.now c.get-in-Two-2.result.now c.in-Two.is c.get-in-Two.ensures c.get-in-Two-2.ensures in
    let high = ap height is in
    let w : IsWritable (trees.Two c.args.e.now.at c.in-Two.op (tree_of c.get-in-Two.result.now) (tree_of c.get-in-Two-2.result.now)) = subst IsWritable is c.requires.writable in
    (omega (arith, c.decreases, high), (w.1, c.requires.room))

pub operand-returns-in_err-b-in-Two : goal.operand-returns-in_err-b-in-Two
operand-returns-in_err-b-in-Two t c =
    let scope = c.args.names.now in
    let is : tree_of c.args.e.now ≡ trees.Two c.args.e.now.at c.in-Two.op (tree_of c.get-in-Two.result.now) (tree_of c.get-in-Two-2.result.now) = at_two c.args.e.now c.in-Two.op c.in-Two.a c.in-Two.b c.get-in-Two.result.now c.get-in-Two-2.result.now c.in-Two.is c.get-in-Two.ensures c.get-in-Two-2.ensures in
    let v = judge scope (tree_of c.get-in-Two.result.now) in
    let u = judge scope (tree_of c.get-in-Two-2.result.now) in
    let a = operand_of c.in_ok-a-in-Two.a in
    let f : Operand → Verdict = λ x. chain u (λ y. on_two c.args.e.now.at c.in-Two.op x y) in
    let g : Operand → Verdict = λ y. on_two c.args.e.now.at c.in-Two.op a y in
    same_verdict operand_of (judge scope (tree_of c.args.e.now)) (chain v f) c.from_residual-in_err-b-in-Two.result (ap (judge scope) is)
    (go_on operand_of v f a c.from_residual-in_err-b-in-Two.result c.in_ok-a-in-Two.ensures
    (exit_chain operand_of u g c.from_residual-in_err-b-in-Two.result c.in_err-b-in-Two.field-0.0 c.from_residual-in_err-b-in-Two.ensures.1 c.in_err-b-in-Two.ensures))

pub operand-returns-in_ok-b-in-Two : goal.operand-returns-in_ok-b-in-Two
operand-returns-in_ok-b-in-Two t c =
    let scope = c.args.names.now in
    let is : tree_of c.args.e.now ≡ trees.Two c.args.e.now.at c.in-Two.op (tree_of c.get-in-Two.result.now) (tree_of c.get-in-Two-2.result.now) = at_two c.args.e.now c.in-Two.op c.in-Two.a c.in-Two.b c.get-in-Two.result.now c.get-in-Two-2.result.now c.in-Two.is c.get-in-Two.ensures c.get-in-Two-2.ensures in
    let v = judge scope (tree_of c.get-in-Two.result.now) in
    let u = judge scope (tree_of c.get-in-Two-2.result.now) in
    let a = operand_of c.in_ok-a-in-Two.a in
    let b = operand_of c.in_ok-b-in-Two.b in
    let f : Operand → Verdict = λ x. chain u (λ y. on_two c.args.e.now.at c.in-Two.op x y) in
    let g : Operand → Verdict = λ y. on_two c.args.e.now.at c.in-Two.op a y in
    same_verdict operand_of (judge scope (tree_of c.args.e.now)) (chain v f) c.two.result (ap (judge scope) is)
    (go_on operand_of v f a c.two.result c.in_ok-a-in-Two.ensures (go_on operand_of u g b c.two.result c.in_ok-b-in-Two.ensures c.two.ensures))

-- ---- Select, operand 1

pub operand-operand-requires-in-Select : goal.operand-operand-requires-in-Select
operand-operand-requires-in-Select t c =
    let is : tree_of c.args.e.now ≡ trees.Select c.args.e.now.at (tree_of c.get-in-Select.result.now) (tree_of c.in-Select.x) (tree_of c.in-Select.y) = at_select c.args.e.now c.in-Select.c c.in-Select.x c.in-Select.y c.get-in-Select.result.now c.in-Select.x c.in-Select.y c.in-Select.is c.get-in-Select.ensures refl refl in
    let high = ap height is in
    let w : IsWritable (trees.Select c.args.e.now.at (tree_of c.get-in-Select.result.now) (tree_of c.in-Select.x) (tree_of c.in-Select.y)) = subst IsWritable is c.requires.writable in
    (omega (arith, c.decreases, high), (w.0, c.requires.room))

pub operand-returns-in_err-c-in-Select : goal.operand-returns-in_err-c-in-Select
operand-returns-in_err-c-in-Select t c =
    let scope = c.args.names.now in
    let is : tree_of c.args.e.now ≡ trees.Select c.args.e.now.at (tree_of c.get-in-Select.result.now) (tree_of c.in-Select.x) (tree_of c.in-Select.y) = at_select c.args.e.now c.in-Select.c c.in-Select.x c.in-Select.y c.get-in-Select.result.now c.in-Select.x c.in-Select.y c.in-Select.is c.get-in-Select.ensures refl refl in
    let one = judge scope (tree_of c.get-in-Select.result.now) in
    let two = judge scope (tree_of c.in-Select.x) in
    let three = judge scope (tree_of c.in-Select.y) in
    let f : Operand → Verdict = λ u. chain two (λ v. chain three (λ w. on_select c.args.e.now.at u v w)) in
    same_verdict operand_of (judge scope (tree_of c.args.e.now)) (chain one f) c.from_residual-in_err-c-in-Select.result (ap (judge scope) is)
    (exit_chain operand_of one f c.from_residual-in_err-c-in-Select.result c.in_err-c-in-Select.field-0.0 c.from_residual-in_err-c-in-Select.ensures.1 c.in_err-c-in-Select.ensures)

-- ---- Select, operand 2

pub operand-operand-requires-in-Select-2 : goal.operand-operand-requires-in-Select-2
operand-operand-requires-in-Select-2 t c =
    let is : tree_of c.args.e.now ≡ trees.Select c.args.e.now.at (tree_of c.get-in-Select.result.now) (tree_of c.get-in-Select-2.result.now) (tree_of c.in-Select.y) = at_select c.args.e.now c.in-Select.c c.in-Select.x c.in-Select.y c.get-in-Select.result.now c.get-in-Select-2.result.now c.in-Select.y c.in-Select.is c.get-in-Select.ensures c.get-in-Select-2.ensures refl in
    let high = ap height is in
    let w : IsWritable (trees.Select c.args.e.now.at (tree_of c.get-in-Select.result.now) (tree_of c.get-in-Select-2.result.now) (tree_of c.in-Select.y)) = subst IsWritable is c.requires.writable in
    (omega (arith, c.decreases, high), (w.1, c.requires.room))

pub operand-returns-in_err-x-in-Select : goal.operand-returns-in_err-x-in-Select
operand-returns-in_err-x-in-Select t c =
    let scope = c.args.names.now in
    let is : tree_of c.args.e.now ≡ trees.Select c.args.e.now.at (tree_of c.get-in-Select.result.now) (tree_of c.get-in-Select-2.result.now) (tree_of c.in-Select.y) = at_select c.args.e.now c.in-Select.c c.in-Select.x c.in-Select.y c.get-in-Select.result.now c.get-in-Select-2.result.now c.in-Select.y c.in-Select.is c.get-in-Select.ensures c.get-in-Select-2.ensures refl in
    let one = judge scope (tree_of c.get-in-Select.result.now) in
    let two = judge scope (tree_of c.get-in-Select-2.result.now) in
    let three = judge scope (tree_of c.in-Select.y) in
    let f : Operand → Verdict = λ u. chain two (λ v. chain three (λ w. on_select c.args.e.now.at u v w)) in
    let a = operand_of c.in_ok-c-in-Select.c in
    let g : Operand → Verdict = λ v. chain three (λ w. on_select c.args.e.now.at a v w) in
    same_verdict operand_of (judge scope (tree_of c.args.e.now)) (chain one f) c.from_residual-in_err-x-in-Select.result (ap (judge scope) is)
    (go_on operand_of one f a c.from_residual-in_err-x-in-Select.result c.in_ok-c-in-Select.ensures (exit_chain operand_of two g c.from_residual-in_err-x-in-Select.result c.in_err-x-in-Select.field-0.0 c.from_residual-in_err-x-in-Select.ensures.1 c.in_err-x-in-Select.ensures))

-- ---- Select, operand 3

pub operand-operand-requires-in-Select-3 : goal.operand-operand-requires-in-Select-3
operand-operand-requires-in-Select-3 t c =
    let is : tree_of c.args.e.now ≡ trees.Select c.args.e.now.at (tree_of c.get-in-Select.result.now) (tree_of c.get-in-Select-2.result.now) (tree_of c.get-in-Select-3.result.now) = at_select c.args.e.now c.in-Select.c c.in-Select.x c.in-Select.y c.get-in-Select.result.now c.get-in-Select-2.result.now c.get-in-Select-3.result.now c.in-Select.is c.get-in-Select.ensures c.get-in-Select-2.ensures c.get-in-Select-3.ensures in
    let high = ap height is in
    let w : IsWritable (trees.Select c.args.e.now.at (tree_of c.get-in-Select.result.now) (tree_of c.get-in-Select-2.result.now) (tree_of c.get-in-Select-3.result.now)) = subst IsWritable is c.requires.writable in
    (omega (arith, c.decreases, high), (w.2, c.requires.room))

pub operand-returns-in_err-y-in-Select : goal.operand-returns-in_err-y-in-Select
operand-returns-in_err-y-in-Select t c =
    let scope = c.args.names.now in
    let is : tree_of c.args.e.now ≡ trees.Select c.args.e.now.at (tree_of c.get-in-Select.result.now) (tree_of c.get-in-Select-2.result.now) (tree_of c.get-in-Select-3.result.now) = at_select c.args.e.now c.in-Select.c c.in-Select.x c.in-Select.y c.get-in-Select.result.now c.get-in-Select-2.result.now c.get-in-Select-3.result.now c.in-Select.is c.get-in-Select.ensures c.get-in-Select-2.ensures c.get-in-Select-3.ensures in
    let one = judge scope (tree_of c.get-in-Select.result.now) in
    let two = judge scope (tree_of c.get-in-Select-2.result.now) in
    let three = judge scope (tree_of c.get-in-Select-3.result.now) in
    let f : Operand → Verdict = λ u. chain two (λ v. chain three (λ w. on_select c.args.e.now.at u v w)) in
    let a = operand_of c.in_ok-c-in-Select.c in
    let g : Operand → Verdict = λ v. chain three (λ w. on_select c.args.e.now.at a v w) in
    let b = operand_of c.in_ok-x-in-Select.x in
    let h : Operand → Verdict = λ w. on_select c.args.e.now.at a b w in
    same_verdict operand_of (judge scope (tree_of c.args.e.now)) (chain one f) c.from_residual-in_err-y-in-Select.result (ap (judge scope) is)
    (go_on operand_of one f a c.from_residual-in_err-y-in-Select.result c.in_ok-c-in-Select.ensures (go_on operand_of two g b c.from_residual-in_err-y-in-Select.result c.in_ok-x-in-Select.ensures (exit_chain operand_of three h c.from_residual-in_err-y-in-Select.result c.in_err-y-in-Select.field-0.0 c.from_residual-in_err-y-in-Select.ensures.1 c.in_err-y-in-Select.ensures)))

pub operand-returns-in_ok-y-in-Select : goal.operand-returns-in_ok-y-in-Select
operand-returns-in_ok-y-in-Select t c =
    let scope = c.args.names.now in
    let is : tree_of c.args.e.now ≡ trees.Select c.args.e.now.at (tree_of c.get-in-Select.result.now) (tree_of c.get-in-Select-2.result.now) (tree_of c.get-in-Select-3.result.now) = at_select c.args.e.now c.in-Select.c c.in-Select.x c.in-Select.y c.get-in-Select.result.now c.get-in-Select-2.result.now c.get-in-Select-3.result.now c.in-Select.is c.get-in-Select.ensures c.get-in-Select-2.ensures c.get-in-Select-3.ensures in
    let one = judge scope (tree_of c.get-in-Select.result.now) in
    let two = judge scope (tree_of c.get-in-Select-2.result.now) in
    let three = judge scope (tree_of c.get-in-Select-3.result.now) in
    let f : Operand → Verdict = λ u. chain two (λ v. chain three (λ w. on_select c.args.e.now.at u v w)) in
    let a = operand_of c.in_ok-c-in-Select.c in
    let g : Operand → Verdict = λ v. chain three (λ w. on_select c.args.e.now.at a v w) in
    let b = operand_of c.in_ok-x-in-Select.x in
    let h : Operand → Verdict = λ w. on_select c.args.e.now.at a b w in
    same_verdict operand_of (judge scope (tree_of c.args.e.now)) (chain one f) c.select.result (ap (judge scope) is)
    (go_on operand_of one f a c.select.result c.in_ok-c-in-Select.ensures (go_on operand_of two g b c.select.result c.in_ok-x-in-Select.ensures (go_on operand_of three h (operand_of c.in_ok-y-in-Select.y) c.select.result c.in_ok-y-in-Select.ensures c.select.ensures)))
