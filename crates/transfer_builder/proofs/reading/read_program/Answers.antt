use Rattle.std.proofs.Common.{◌≡◌, ℕ, true, ap, sym, ◌∙◌}
use Rattle.std.proofs.lemmas.Result.{IfOk-weaker}
use Rattle.ven_base.specs.declared.mapping.Mapping.{Mapping}
use Rattle.ven_base.specs.Extent.{Extent}
use Rattle.dma_segments.specs.Patch.{keeps_neighbours}
use Rattle.host_programs.specs.Shown.{program_of}
use Rattle.transfer_programs.specs.ReadProgram.{SidesExpr, PieceExpr, lines_program, rows_axis, columns_axis, read_program}
use Rattle.transfer_builder.specs.declared.grid.Way.TheVariants.{Lines}
use Rattle.transfer_builder.specs.Shown.{small_of, piece_of, axis_of, sides_of, patches_by}
use Rattle.transfer_builder.proofs.reading.read_program.Goals as goal

by_lines : (mapping : Mapping) (shape : Extent) (s : SidesExpr) (piece : PieceExpr) (d : ℕ) → keeps_neighbours mapping ≡ true
    → lines_program s (rows_axis mapping shape piece.r0 piece.h) (columns_axis mapping shape piece.c0 piece.w) d ≡ read_program mapping shape s piece d
by_lines mapping shape s piece d keeps = rw keeps

pub returns-then-keeps_neighbours : goal.returns-then-keeps_neighbours
returns-then-keeps_neighbours c =
    let map = c.args.map in
    let s = sides_of c.args.sides in
    let piece = piece_of c.args.piece in
    let rows : axis_of c.rows_axis-rows.result ≡ rows_axis map c.args.shape piece.r0 piece.h =
    c.rows_axis-rows.ensures.axis ∙ ap (λ span. rows_axis map c.args.shape (small_of span.start) (small_of span.n)) c.rows_of.ensures in
    let columns : axis_of c.columns_axis-columns.result ≡ columns_axis map c.args.shape piece.c0 piece.w =
    c.columns_axis-columns.ensures.axis ∙ ap (λ span. columns_axis map c.args.shape (small_of span.start) (small_of span.n)) c.columns_of.ensures in
    IfOk-weaker c.patches_program.result (λ p. program_of p ≡ patches_by Lines s (axis_of c.rows_axis-rows.result) (axis_of c.columns_axis-columns.result) c.args.d) _
    (λ p is. is ∙ ap (λ axis. patches_by Lines s axis (axis_of c.columns_axis-columns.result) c.args.d) rows
    ∙ ap (λ axis. patches_by Lines s (rows_axis map c.args.shape piece.r0 piece.h) axis c.args.d) columns
    ∙ by_lines map c.args.shape s piece c.args.d (sym c.keeps_neighbours.ensures ∙ c.if-keeps_neighbours.true))
    c.patches_program.ensures
