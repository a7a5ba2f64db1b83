use Rattle.venice_isa.proofs.laws.whole_writes_its_footprint.Goals as goal

pub returns : goal.returns
returns c = λ work before after whole. whole.kept
