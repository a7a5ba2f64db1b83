-- The program that takes a piece to its array issues its command.
use Rattle.std.proofs.Common.{[], ◌∷◌, ◌∙◌, ◌+◌, refl, ap, true}
use Rattle.std.proofs.lemmas.Bool.{and_from}
use Rattle.venice_isa.specs.declared.issue.Issue.TheVariants.{Write}
use Rattle.dma_segments.specs.Laws.{with_tag}
use Rattle.dma_segments.specs.ReadList.{command_at, sides_of}
use Rattle.dma_segments.specs.WriteList.{first_element, whole_patch}
use Rattle.host_programs.specs.Expr.{value}
use Rattle.transfer_programs.specs.ReadProgram.{whole_expr, sides_of_array}
use Rattle.transfer_programs.specs.ReadLaws.{piece_value, PiecesIssueTheirWrite}
use Rattle.transfer_programs.proofs.Axes.{value_scaled, below_scaled}
use Rattle.transfer_programs.proofs.Patches.{rows_are_joined, patch_list}

pub pieces_issue_their_write : PiecesIssueTheirWrite
pieces_issue_their_write to piece target d f has low =
    let at = piece_value piece f in
    patch_list true (sides_of_array to target.buffer piece.w target.tag) (whole_expr to.shape piece) d f (whole_patch to.shape at) (first_element to.shape at)
    (record { buffer = low.buffer; width = low.w; tag = low.tag }) (record {
      below_rows = low.h;
      below_cols = low.w;
      below_to = refl;
      below_to_step = low.w;
      below_from = and_from _ _ (below_scaled piece.r0 to.shape.cols d low.r0) low.c0;
      below_from_step = refl;
      rows = refl;
      cols = refl;
      to = refl;
      to_step = refl;
      from = ap (λ m. m + value piece.c0 f) (value_scaled piece.r0 to.shape.cols f);
      from_step = refl;
      has_source = refl;
    })
    ∙ ap (λ q. Write (with_tag (value target.tag f) (command_at (sides_of to.elem to (value target.buffer f)) q (first_element to.shape at))) ∷ []) (rows_are_joined (whole_patch to.shape at) has.some_rows)
