use Rattle.std.proofs.Common.{◌≡◌, [], arith, rules}
use Rattle.std.proofs.lemmas.Grind.{common_steps}
use Rattle.std.specs.FinMap.{insert}
use Rattle.ven_io.specs.MemFiles.{contents_of}
use Rattle.ven_io.specs.Numbers.{FailsNext}
use Rattle.ven_io.proofs.FilesLemmas.{saved, save_failed}
use Rattle.ven_io.proofs.mem_files.MemFilesFiles.save.Goals as goal

pub returns-then-fails-2-clause-saved : goal.returns-then-fails-2-clause-saved
returns-then-fails-2-clause-saved c =
    let emptied : contents_of c.self-2.inside.files ≡ insert c.args.self.now.holds c.args.name.now [] = search rules in
    let next : FailsNext c.args.self.now.numbers = grind (arith, common_steps) in
    let fails : c.self-2.inside.fails.items ≡ c.args.self.now.numbers.fails = search rules in
    save_failed c.args.self.now.holds (contents_of c.self-2.inside.files) c.args.self.now.numbers.fails c.self-2.inside.fails.items c.args.name.now c.args.bytes.now []
    fails (record { number = _; listed = next }) emptied

pub returns-clause-saved : goal.returns-clause-saved
returns-clause-saved c =
    let set : c.add.new.self.holds ≡ insert c.args.self.now.holds c.args.name.now c.args.bytes.now = search rules in
    let fails : c.add.new.self.numbers.fails ≡ c.args.self.now.numbers.fails = search rules in
    saved c.args.self.now.holds c.add.new.self.holds c.args.self.now.numbers.fails c.add.new.self.numbers.fails c.args.name.now c.args.bytes.now fails set
