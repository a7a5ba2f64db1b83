use Rattle.array_file.proofs.reading.read_arrays.Goals as goal

pub loop-reading-init : goal.loop-reading-init
loop-reading-init c = c.new-reading.ensures c.args.text.now
