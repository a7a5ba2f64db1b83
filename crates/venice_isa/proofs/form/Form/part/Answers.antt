use Rattle.std.proofs.Common.{◌-◌, ◌≤◌, [], ◌∷◌, sym, arith}
use Rattle.std.proofs.lemmas.List.{get_or_past}
use Rattle.venice_isa.proofs.form.Form.part.Goals as goal

pub returns-in_default : goal.returns-in_default
returns-in_default c =
    let form = c.args.self in
    let past : 3 ≤ c.args.k - 1 = omega arith in
    sym (get_or_past (form.byte1 ∷ form.byte2 ∷ form.byte3 ∷ []) (c.args.k - 1) form.number past)
