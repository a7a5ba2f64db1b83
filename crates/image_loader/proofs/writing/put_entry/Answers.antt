use Rattle.std.proofs.Common.{◌∙◌, ◌++◌, ◌∷◌, [], ap, length}
use Rattle.venice_isa.specs.Encoding.{bit, type_number}
use Rattle.image_loader.specs.Image.{word}
use Rattle.image_loader.proofs.Appending.{five}
use Rattle.image_loader.proofs.writing.put_entry.Goals as goal

pub returns : goal.returns
returns c =
    let e = c.args.entry.now in
    let start = c.put_name.new.bytes.items in
    five c.args.bytes.now.items start c.extend_from_slice.new.self.items c.put_number.new.bytes.items c.put_number-2.new.bytes.items c.put_number-3.new.bytes.items
    (length e.name ∷ e.name) (bit e.output ∷ type_number e.elem ∷ []) (word e.shape.rows) (word e.shape.cols) (word e.place)
    c.in_ok-put_name.ensures
    (c.in_ok-extend_from_slice.ensures.items ∙ (λ i. start ++ (c.kind_byte.ensures i ∷ c.type_byte.ensures i ∷ [])))
    (c.in_ok-put_number.ensures ∙ ap (λ n. c.extend_from_slice.new.self.items ++ word n) c.rows_of.ensures)
    (c.in_ok-put_number-2.ensures ∙ ap (λ n. c.put_number.new.bytes.items ++ word n) c.columns_of.ensures)
    c.in_ok-put_number-3.ensures
