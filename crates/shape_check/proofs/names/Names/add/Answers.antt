use Rattle.std.proofs.Common.{◌≡◌, ◌∷◌, [], ◌++◌, None, ap, ◌∙◌}
use Rattle.std.specs.Str.{bytes_eq}
use Rattle.indexmap.specs.IndexMap.{get}
use Rattle.indexmap.proofs.CallerLemmas.{insert_entry-new}
use Rattle.shape_check.specs.Scope.{Scope}
use Rattle.shape_check.proofs.Lookups.{lookup-none}
use Rattle.shape_check.proofs.names.Names.add.Goals as goal

pub returns : goal.returns
returns c =
    let none : get bytes_eq c.self.inside.entries c.args.name ≡ None = lookup-none c.self.inside.entries.entries c.args.name (rw c.self.view_is c.requires) in
    c.in_ok-insert.ensures.entries ∙ insert_entry-new bytes_eq c.self.inside.entries c.args.name c.args.array_type none
    ∙ ap (λ (p : Scope). p ++ (c.args.name, c.args.array_type) ∷ []) c.self.view_is
