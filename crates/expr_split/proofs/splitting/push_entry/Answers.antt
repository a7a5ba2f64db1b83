use Rattle.std.proofs.Common.{◌≡◌, ◌++◌, [], ◌∷◌, rules, ap, ◌∙◌, List, not, ℕ, get_or}
use Rattle.ven_base.specs.declared.entry.Entry.{Entry}
use Rattle.pass_plan.specs.Sound.{no_place}
use Rattle.expr_split.specs.Terms.{term_of}
use Rattle.expr_split.proofs.Placement.{entry_is}
use Rattle.expr_split.proofs.splitting.push_entry.Goals as goal

pub returns-in_ok-push-in-Output : goal.returns-in_ok-push-in-Output
returns-in_ok-push-in-Output c =
    let stmt = c.args.stmt.now in
    let entry : Entry = record { name = stmt.name; output = not c.is_input.result; elem = stmt.elem; shape = stmt.shape; place = c.place_of-place.result } in
    let pushed : c.push-in-Output.new.self.items ≡ c.args.table.now.items ++ entry ∷ [] = search rules in
    let at = c.place_of-place.ensures ∙ ap (λ (k : ℕ). (get_or c.args.arrays.now k no_place).place) c.array_under.ensures in
    pushed ∙ ap (λ (es : List Entry). c.args.table.now.items ++ es)
    (entry_is c.args.arrays.now (term_of c.args.term.now) c.place_of-place.result stmt (not c.is_input.result) (λ e. let out = c.in-Output.is in cc) at (ap not c.is_input.ensures) c.requires)
