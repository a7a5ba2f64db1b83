use Rattle.std.proofs.Common.{◌≡◌, sym, ap, subst, ◌∙◌, false, true, [], ◌∷◌, ◌++◌, None, refl}
use Rattle.std.specs.Option.{is_some}
use Rattle.std.specs.Str.{bytes_eq}
use Rattle.indexmap.specs.IndexMap.{get}
use Rattle.indexmap.proofs.CallerLemmas.{insert_entry-new}
use Rattle.ven_base.specs.Grid.{Grid, IsGrid}
use Rattle.ven_base.specs.Pairs.{Pairs, array_named, ArePairs}
use Rattle.ven_base.proofs.NamedArrays.{array_named-found, absent_name, ArePairs-push, none_of}
use Rattle.ven_base.proofs.arrays.Arrays.add.Goals as goal

pub returns-then-there-clause-there : goal.returns-then-there-clause-there
returns-then-there-clause-there c _ =
    let pairs = c.args.self.now in
    let there : is_some (array_named pairs c.args.name) ≡ true = rw (← c.self.view_is) (sym c.contains_key-there.ensures ∙ c.if-there.true) in
    ((array_named-found pairs c.args.name).0 there, refl)

entries_after : (c : goal.Joined-branch-2) → c.insert.new.self.entries ≡ c.args.self.now ++ (c.args.name, c.args.array) ∷ []
entries_after c =
    let none : get bytes_eq c.self.inside.pairs c.args.name ≡ None = none_of _ (sym c.contains_key-there.ensures ∙ c.if-there.false) in
    c.in_ok-insert.ensures.entries ∙ insert_entry-new bytes_eq c.self.inside.pairs c.args.name c.args.array none
    ∙ ap (λ (p : Pairs). p ++ (c.args.name, c.args.array) ∷ []) c.self.view_is

pub invariant_of-self-2 : goal.invariant_of-self-2
invariant_of-self-2 c =
    let pairs = c.args.self.now in
    let none : is_some (array_named pairs c.args.name) ≡ false = rw (← c.self.view_is) (sym c.contains_key-there.ensures ∙ c.if-there.false) in
    let new = absent_name pairs c.args.name none in
    let G : Grid → Type 0 = λ g. IsGrid g in
    let P : Pairs → Type 0 = λ p. ArePairs p in
    let grid : IsGrid c.args.array = subst G c.array.view_is c.array.invariant in
    let are : ArePairs pairs = subst P c.self.view_is c.self.invariant in
    rw (entries_after c) (ArePairs-push pairs c.args.name c.args.array are c.bytes-known.ensures.is_name grid new c.requires)

pub returns-clause-added : goal.returns-clause-added
returns-clause-added c _ = entries_after c

pub returns-clause-new_name : goal.returns-clause-new_name
returns-clause-new_name c _ =
    let none : is_some (array_named c.args.self.now c.args.name) ≡ false = rw (← c.self.view_is) (sym c.contains_key-there.ensures ∙ c.if-there.false) in
    absent_name c.args.self.now c.args.name none
