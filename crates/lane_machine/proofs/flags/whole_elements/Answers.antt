use Rattle.std.proofs.Common.{◌≡◌, ◌*◌, ◌^◌, ◌%◌, ap, refl, inl, inr}
use Rattle.std.specs.Prelude.{bit_and, bit_or}
use Rattle.ven_base.specs.Elem.{size_of}
use Rattle.lane_machine.proofs.Spread.{whole_ones, whole_twos, whole_fours}
use Rattle.lane_machine.proofs.flags.whole_elements.Goals as goal

pub returns-in-U8 : goal.returns-in-U8
returns-in-U8 c =
    let one : size_of c.args.elem ≡ 1 = elim c.in-U8.is [ inl is ↦ ap size_of is | inr is ↦ ap size_of is ] in
    whole_ones c.args.elem c.args.first one

pub returns-in-U16 : goal.returns-in-U16
returns-in-U16 c =
    let two : size_of c.args.elem ≡ 2 = elim c.in-U16.is [ inl is ↦ ap size_of is | inr is ↦ ap size_of is ] in
    whole_twos c.args.elem c.args.first two

pub returns-in-U32 : goal.returns-in-U32
returns-in-U32 c =
    let four : size_of c.args.elem ≡ 4 = elim c.in-U32.is [ inl is ↦ ap size_of is | inr is ↦ ap size_of is ] in
    let bits = bit_and c.args.first 4369 in
    whole_fours c.args.elem c.args.first (bit_or bits (bits * 2 ^ 1 % 2 ^ 64)) four refl
