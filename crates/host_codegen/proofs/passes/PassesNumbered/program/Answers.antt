use Rattle.std.proofs.Common.{◌≡◌, ◌<◌, ap, sym, subst, ◌∙◌, refl, arith, length}
use Rattle.std.proofs.lemmas.Result.{IfOk-weaker}
use Rattle.pass_plan.specs.declared.parts.Tile.{Tile}
use Rattle.pass_plan.specs.Shown.{pass_of, passes_of}
use Rattle.pass_plan.specs.Tile.{tile_of}
use Rattle.dma_schedule.specs.Plan.{IsReady}
use Rattle.dma_schedule.proofs.Ready.{small}
use Rattle.dma_schedule.proofs.CodePasses.{item_is, holds_one, ready_one}
use Rattle.host_programs.specs.Shown.{program_of}
use Rattle.host_codegen.specs.PassProgram.{pass_program}
use Rattle.host_codegen.proofs.Numbering.{mapped_length, pass_at}
use Rattle.host_codegen.proofs.passes.PassesNumbered.program.Goals as goal

pub tile-requires-clause-small : goal.tile-requires-clause-small
tile-requires-clause-small c =
    let self = c.args.self.now in
    let pass = c.index-pass.result.now in
    let below : c.args.number < length self.split.now.passes.items = omega (arith, c.requires.within, mapped_length pass_of self.split.now.passes.items) in
    (small self.split.now.arrays.items (pass_of pass) (tile_of (pass_of pass) self.spad)
    (ready_one self.split.now self.spad c.args.number self.split.now.passes.items pass refl c.requires.ready.0 c.requires.ready.1 (omega arith) below c.index-pass.ensures)).few_nodes

pub tile-requires-clause-holds : goal.tile-requires-clause-holds
tile-requires-clause-holds c =
    let self = c.args.self.now in
    let pass = c.index-pass.result.now in
    let below : c.args.number < length self.split.now.passes.items = omega (arith, c.requires.within, mapped_length pass_of self.split.now.passes.items) in
    holds_one self.split.now self.spad c.args.number self.split.now.passes.items pass refl c.requires.ready.0 c.requires.ready.1 (omega arith) below c.index-pass.ensures

pub pass_program-requires : goal.pass_program-requires
pass_program-requires c =
    let self = c.args.self.now in
    let pass = c.index-pass.result.now in
    let below : c.args.number < length self.split.now.passes.items = omega (arith, c.requires.within, mapped_length pass_of self.split.now.passes.items) in
    subst (λ (tile : Tile). IsReady c.deref.result.now (pass_of pass) tile) (sym c.tile.ensures)
    (subst (λ arrays. IsReady arrays (pass_of pass) (tile_of (pass_of pass) self.spad)) (sym c.deref.ensures.value)
    (ready_one self.split.now self.spad c.args.number self.split.now.passes.items pass refl c.requires.ready.0 c.requires.ready.1 (omega arith) below c.index-pass.ensures))

pub returns : goal.returns
returns c =
    let self = c.args.self.now in
    let pass = c.index-pass.result.now in
    let arrays = self.split.now.arrays.items in
    let below : c.args.number < length self.split.now.passes.items = omega (arith, c.requires.within, mapped_length pass_of self.split.now.passes.items) in
    let item = item_is self.split.now.passes.items c.args.number pass c.index-pass.ensures below in
    IfOk-weaker c.pass_program.result (λ p. program_of p ≡ pass_program c.deref.result.now (pass_of pass) c.tile.result) _
    (λ p is. is ∙ ap (λ arrays. pass_program arrays (pass_of pass) c.tile.result) c.deref.ensures.value
    ∙ ap (λ (tile : Tile). pass_program arrays (pass_of pass) tile) c.tile.ensures
    ∙ sym (pass_at arrays self.spad (passes_of self.split.now.passes.items) c.args.number (pass_of pass) item.0 item.1))
    c.pass_program.ensures
