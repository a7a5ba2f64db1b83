use Rattle.std.proofs.Common.{◌≡◌, ◌++◌, ◌∙◌, ap}
use Rattle.array_file.specs.Output.{shape_text}
use Rattle.array_file.proofs.Rows.{heading_pushed}
use Rattle.array_file.proofs.output.push_heading.Goals as goal

pub returns : goal.returns
returns c =
    heading_pushed c.args.text.now.items c.extend_from_slice.new.self.items c.push.new.self.items c.extend_from_slice-2.new.self.items c.push_shape.new.text.items _ _ _
    (c.in_ok-extend_from_slice.ensures.items ∙ ap (λ t. c.args.text.now.items ++ t) c.bytes.ensures.value)
    c.in_ok-push.ensures.items
    (c.in_ok-extend_from_slice-2.ensures.items ∙ ap (λ t. c.push.new.self.items ++ t) c.word.ensures)
    (c.in_ok-push_shape.ensures ∙ ap (λ s. c.extend_from_slice-2.new.self.items ++ shape_text s) c.shape.view_is)
