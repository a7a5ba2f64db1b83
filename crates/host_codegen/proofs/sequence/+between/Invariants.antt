use Rattle.host_codegen.proofs.sequence.+between.Given as goal

abbrev pub decreases-between : goal.decreases-between
decreases-between g l = l.levels
