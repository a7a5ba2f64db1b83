use Rattle.image_loader.specs.Image.{magic, word}
use Rattle.image_loader.proofs.Appending.{five}
use Rattle.image_loader.proofs.writing.put_header.Goals as goal

pub returns : goal.returns
returns c =
    let h = c.args.header in
    five c.args.bytes.now.items c.put_magic.new.bytes.items c.put_number.new.bytes.items c.put_number-2.new.bytes.items c.put_number-3.new.bytes.items c.put_number-4.new.bytes.items
    (magic c.args.version) (word h.spad) (word h.memory) (word h.array_count) (word h.instr_count)
    c.in_ok-put_magic.ensures c.in_ok-put_number.ensures c.in_ok-put_number-2.ensures c.in_ok-put_number-3.ensures c.in_ok-put_number-4.ensures
