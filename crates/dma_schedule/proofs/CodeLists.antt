-- Lists as the code makes them, one after another.
use Rattle.std.proofs.Common.{◌≡◌, ℕ, suc, ◌+◌, ◌%◌, refl, sym, subst, ap, ◌∙◌, arith, List, [], ◌∷◌, ◌++◌, append_assoc, append-nil, map, true, false}
use Rattle.std.specs.Prelude.{◌==◌}
use Rattle.std.proofs.lemmas.Bool.{cond-true, cond-false}
use Rattle.venice_isa.specs.declared.work.DmaWork.{DmaWork}
use Rattle.venice_isa.specs.declared.issue.Issue.{Issue}
use Rattle.venice_isa.specs.declared.issue.Issue.TheVariants.{Read, Write}
use Rattle.pass_plan.specs.declared.parts.Tile.{Tile}
use Rattle.pass_plan.specs.declared.split.ArrayPlace.{ArrayPlace}
use Rattle.pass_plan.specs.Pass.{Pass}
use Rattle.pass_plan.specs.Buffers.{tiles_per_row, ends_row, output_half}
use Rattle.dma_segments.specs.declared.segments.Fill.{Fill}
use Rattle.dma_segments.specs.WriteList.{write_list}
use Rattle.dma_segments.specs.Laws.{with_tag, result_piece, result_cell}
use Rattle.dma_schedule.specs.Blocks.{Blocks, leaf_half, write_tag, tile_step, tile_steps}
use Rattle.dma_schedule.specs.PipeList.{leaf_segments, leaf_reads, tile_reads, tile_fills, destination, tile_writes}

next : (n : ℕ) → suc n ≡ n + 1
next n = omega arith

-- two parts join what is there
joined : {A : Type 0} (base one other before after : List A) → before ≡ base ++ one → after ≡ before ++ other → after ≡ base ++ (one ++ other)
joined base one other before after is more = more ∙ ap (λ xs. xs ++ other) is ∙ append_assoc base one other

module _ (arrays : List ArrayPlace) (pass : Pass) (tile : Tile) where
  pub reads_next : (number t : ℕ) (base before after : List Issue) (commands : List DmaWork) → commands ≡ (leaf_segments arrays pass tile number t).commands → before ≡ base ++ tile_reads arrays pass tile number t
      → after ≡ before ++ map (λ work. Read (with_tag (leaf_half t) work)) commands → after ≡ base ++ tile_reads arrays pass tile (number + 1) t
  reads_next number t base before after commands are is more =
      subst (λ n. after ≡ base ++ tile_reads arrays pass tile n t) (next number)
      (joined base (tile_reads arrays pass tile number t) (leaf_reads arrays pass tile number t) before after is
      (more ∙ ap (λ xs. before ++ map (λ work. Read (with_tag (leaf_half t) work)) xs) are))

  pub fills_next : (number t : ℕ) (before after fills : List Fill) → fills ≡ (leaf_segments arrays pass tile number t).fills → before ≡ tile_fills arrays pass tile number t
      → after ≡ before ++ fills → after ≡ tile_fills arrays pass tile (number + 1) t
  fills_next number t before after fills are is more =
      subst (λ n. after ≡ tile_fills arrays pass tile n t) (next number) (more ∙ ap (λ xs. xs ++ fills) is ∙ ap (λ xs. tile_fills arrays pass tile number t ++ xs) are)

  pub no_writes : (t : ℕ) (base : List Issue) → ends_row pass tile t ≡ false → base ≡ base ++ tile_writes arrays pass tile t
  no_writes t base more = sym (append-nil base) ∙ ap (λ xs. base ++ xs) (sym (cond-false (ends_row pass tile t) _ [] more))

  pub is_last : (t per_row : ℕ) → per_row ≡ tiles_per_row pass tile → (((t + 1) % per_row) == 0) ≡ ends_row pass tile t
  is_last t per_row is = ap (λ n. (n % per_row) == 0) (sym (next t)) ∙ ap (λ n. (suc t % n) == 0) is

  pub some_writes : (t tag : ℕ) (base after : List Issue) (commands : List DmaWork) → ends_row pass tile t ≡ true → tag ≡ write_tag (output_half pass tile t)
      → commands ≡ write_list (destination arrays pass tile) (result_piece pass tile t) (result_cell pass tile t)
      → after ≡ base ++ map (λ work. Write (with_tag tag work)) commands → after ≡ base ++ tile_writes arrays pass tile t
  some_writes t tag base after commands last tag_is are is =
      is ∙ ap (λ tag. base ++ map (λ work. Write (with_tag tag work)) commands) tag_is ∙ ap (λ xs. base ++ map (λ work. Write (with_tag (write_tag (output_half pass tile t)) work)) xs) are
      ∙ ap (λ xs. base ++ xs) (sym (cond-true (ends_row pass tile t) _ [] last))

-- ---- a step

compute_lists : (compute writes : List Issue) (v : Issue) → (compute ++ v ∷ []) ++ writes ≡ compute ++ (v ∷ writes)
compute_lists [] writes v = refl
compute_lists (x ∷ compute) writes v = ap (λ xs. x ∷ xs) (compute_lists compute writes v)

next_lists : (reads compute writes : List Issue) (a b v : Issue) → ((((reads ++ a ∷ []) ++ b ∷ []) ++ compute) ++ v ∷ []) ++ writes ≡ reads ++ (a ∷ (b ∷ (compute ++ (v ∷ writes))))
next_lists [] compute writes a b v = ap (λ xs. a ∷ (b ∷ xs)) (compute_lists compute writes v)
next_lists (x ∷ reads) compute writes a b v = ap (λ xs. x ∷ xs) (next_lists reads compute writes a b v)

base_lists : (base reads compute writes : List Issue) (a b v : Issue) → (((((base ++ reads) ++ a ∷ []) ++ b ∷ []) ++ compute) ++ v ∷ []) ++ writes ≡ base ++ (reads ++ (a ∷ (b ∷ (compute ++ (v ∷ writes)))))
base_lists [] reads compute writes a b v = next_lists reads compute writes a b v
base_lists (x ∷ base) reads compute writes a b v = ap (λ xs. x ∷ xs) (base_lists base reads compute writes a b v)

pub step_list : (base reads compute writes l1 l2 l3 l4 l5 l6 : List Issue) (a b v : Issue) → l1 ≡ base ++ reads → l2 ≡ l1 ++ a ∷ [] → l3 ≡ l2 ++ b ∷ [] → l4 ≡ l3 ++ compute → l5 ≡ l4 ++ v ∷ [] → l6 ≡ l5 ++ writes
    → l6 ≡ base ++ (reads ++ (a ∷ (b ∷ (compute ++ (v ∷ writes)))))
step_list base reads compute writes l1 l2 l3 l4 l5 l6 a b v e1 e2 e3 e4 e5 e6 =
    e6 ∙ ap (λ l. l ++ writes) e5 ∙ ap (λ l. (l ++ v ∷ []) ++ writes) e4 ∙ ap (λ l. ((l ++ compute) ++ v ∷ []) ++ writes) e3
    ∙ ap (λ l. (((l ++ b ∷ []) ++ compute) ++ v ∷ []) ++ writes) e2 ∙ ap (λ l. ((((l ++ a ∷ []) ++ b ∷ []) ++ compute) ++ v ∷ []) ++ writes) e1
    ∙ base_lists base reads compute writes a b v

pub steps_next : (blocks : Blocks) (t : ℕ) (base before after : List Issue) → before ≡ base ++ tile_steps blocks t → after ≡ before ++ tile_step blocks t → after ≡ base ++ tile_steps blocks (t + 1)
steps_next blocks t base before after is more =
    subst (λ n. after ≡ base ++ tile_steps blocks n) (next t) (joined base (tile_steps blocks t) (tile_step blocks t) before after is more)

-- ---- a pass

end_lists : (steps : List Issue) (r w : Issue) → (steps ++ r ∷ []) ++ w ∷ [] ≡ steps ++ (r ∷ w ∷ [])
end_lists [] r w = refl
end_lists (x ∷ steps) r w = ap (λ xs. x ∷ xs) (end_lists steps r w)

pub pass_lists : (base reads steps l1 l2 l3 l4 : List Issue) (r w : Issue) → l1 ≡ base ++ reads → l2 ≡ l1 ++ steps → l3 ≡ l2 ++ r ∷ [] → l4 ≡ l3 ++ w ∷ [] → l4 ≡ base ++ (reads ++ (steps ++ (r ∷ w ∷ [])))
pass_lists base reads steps l1 l2 l3 l4 r w e1 e2 e3 e4 =
    e4 ∙ ap (λ l. l ++ w ∷ []) e3 ∙ ap (λ l. (l ++ r ∷ []) ++ w ∷ []) e2 ∙ end_lists (l1 ++ steps) r w
    ∙ ap (λ l. (l ++ steps) ++ (r ∷ w ∷ [])) e1 ∙ append_assoc (base ++ reads) steps (r ∷ w ∷ []) ∙ append_assoc base reads (steps ++ (r ∷ w ∷ []))
