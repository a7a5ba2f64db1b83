use Rattle.std.proofs.Common.{Some, sym, ap, ◌∙◌}
use Rattle.std.specs.Option.{option_map, option_copied}
use Rattle.std.specs.FinMap as fin
use Rattle.ven_io.proofs.MemLemmas.{get-contents_of}
use Rattle.ven_io.proofs.mem_files.MemFiles.get.Goals as goal

pub returns-in-Some : goal.returns-in-Some
returns-in-Some c =
    ap Some c.deref.ensures.value
    ∙ ap (option_map (λ bytes. bytes.items)) (sym (ap option_copied c.in-Some.is) ∙ c.get.ensures.value)
    ∙ sym (get-contents_of c.self.inside.files c.args.name.now)
    ∙ ap (λ s. fin.get s.holds c.args.name.now) c.self.view_is

pub returns-in-None : goal.returns-in-None
returns-in-None c =
    ap (option_map (λ bytes. bytes.items)) (sym (ap option_copied c.in-None.is) ∙ c.get.ensures.value)
    ∙ sym (get-contents_of c.self.inside.files c.args.name.now)
    ∙ ap (λ s. fin.get s.holds c.args.name.now) c.self.view_is
