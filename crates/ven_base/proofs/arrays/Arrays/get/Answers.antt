use Rattle.std.proofs.Common.{◌≡◌, sym, ◌∙◌, Contains}
use Rattle.std.specs.Option.{option_copied}
use Rattle.ven_base.specs.Grid.{Grid}
use Rattle.ven_base.specs.Pairs.{array_named}
use Rattle.ven_base.proofs.NamedArrays.{array_named-found, array_named-pair, copied_some, copied_if}
use Rattle.ven_base.proofs.arrays.Arrays.get.Goals as goal

pub returns-clause-found : goal.returns-clause-found
returns-clause-found c =
    let pairs = c.args.self.now in
    let name = c.args.name.now in
    let is : option_copied c.get.result ≡ array_named pairs name = rw (← c.self.view_is) c.get.ensures.value in
    let same = copied_some c.get.result (array_named pairs name) is in
    let found = array_named-found pairs name in
    (λ s. found.0 (sym same ∙ s), λ h. same ∙ found.1 h)

pub returns-clause-pair : goal.returns-clause-pair
returns-clause-pair c =
    let pairs = c.args.self.now in
    let name = c.args.name.now in
    let is : option_copied c.get.result ≡ array_named pairs name = rw (← c.self.view_is) c.get.ensures.value in
    copied_if (λ (grid : Grid). Contains pairs (name, grid)) c.get.result (array_named pairs name) is (array_named-pair pairs name)
