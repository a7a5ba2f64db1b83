use Rattle.std.proofs.Common.{◌≡◌, List, ℕ, [], ◌∷◌, ◌++◌, Err, refl, sym, ap, subst, ◌∙◌, append_assoc, arith}
use Rattle.std.proofs.lemmas.List.{append-nil}
use Rattle.std.proofs.lemmas.Bool.Decides.{nat_tests}
use Rattle.ven_io.specs.Sink.{Takes}
use Rattle.venice_run.specs.Lines.{text_lines}
use Rattle.venice_run.specs.Promise.{Whole, FailsAt, LacksMemoryAt}
use Rattle.venice_run.proofs.Taking.{takes_nothing, takes_then, takes_part_then, takes_then_nothing}
use Rattle.venice_run.proofs.Cuts.{no_lines}
use Rattle.venice_run.proofs.lines.put_text.Goals as goal

pub loop-rest-init : goal.loop-rest-init
loop-rest-init g c = record { front = []; split = refl; taken = takes_nothing (g.S.Sink.state c.args.out.now); kept = refl }

pub loop-rest-preserved : goal.loop-rest-preserved
loop-rest-preserved g c =
    let inv = c.loop-rest.invariant in let line = c.split_at.result.0.now in let after = c.split_at.result.1.now in
    let cut : text_lines c.loop-rest.rest.now ≡ line ∷ text_lines after = rw (c.split_at.ensures.front, c.split_at.ensures.back) c.line_length.ensures.cut in
    record {
      front = inv.front ++ line ∷ [];
      split = inv.split ∙ ap (λ (ls : List (List ℕ)). inv.front ++ ls) cut ∙ sym (append_assoc inv.front (line ∷ []) (text_lines after));
      taken = takes_then (g.S.Sink.state c.args.out.now) (g.S.Sink.state c.loop-rest.out) (g.S.Sink.state c.put.new.self) inv.front inv.taken (line ∷ []) c.in-Ok.ensures.put;
      kept = c.in-Ok.ensures.counted.kept (λ e. cc) ∙ inv.kept;
    }

pub returns-in-Err-Failed : goal.returns-in-Err-Failed
returns-in-Err-Failed g c =
    let inv = c.loop-rest.invariant in let line = c.split_at.result.0.now in let after = c.split_at.result.1.now in
    let cut : text_lines c.loop-rest.rest.now ≡ line ∷ text_lines after = rw (c.split_at.ensures.front, c.split_at.ensures.back) c.line_length.ensures.cut in
    let put = rw c.in-Err-Failed.field-0-is at c.in-Err-Failed.ensures.put in
    FailsAt inv.front line (text_lines after) (inv.split ∙ ap (λ (ls : List (List ℕ)). inv.front ++ ls) cut)
    (takes_part_then (g.S.Sink.state c.args.out.now) (g.S.Sink.state c.loop-rest.out) (g.S.Sink.state c.put.new.self) inv.front inv.taken line put.1)
    (inv.taken.no_worse put.0)
    (rw inv.kept at (c.in-Err-Failed.ensures.counted.failed (ap Err c.in-Err-Failed.field-0-is))) refl

pub returns-in-Err-Memory : goal.returns-in-Err-Memory
returns-in-Err-Memory g c =
    let inv = c.loop-rest.invariant in let line = c.split_at.result.0.now in let after = c.split_at.result.1.now in
    let cut : text_lines c.loop-rest.rest.now ≡ line ∷ text_lines after = rw (c.split_at.ensures.front, c.split_at.ensures.back) c.line_length.ensures.cut in
    LacksMemoryAt inv.front line (text_lines after) (inv.split ∙ ap (λ (ls : List (List ℕ)). inv.front ++ ls) cut)
    (takes_then_nothing (g.S.Sink.state c.args.out.now) (g.S.Sink.state c.loop-rest.out) (g.S.Sink.state c.put.new.self) inv.front inv.taken (rw c.in-Err-Memory.field-0-is at c.in-Err-Memory.ensures.put))
    (c.in-Err-Memory.ensures.counted.kept (λ e. cc (c.in-Err-Memory.field-0-is)) ∙ inv.kept) refl

pub returns : goal.returns
returns g c =
    let inv = c.loop-rest.invariant in
    let all : text_lines c.args.text.now ≡ inv.front = inv.split ∙ ap (λ (ls : List (List ℕ)). inv.front ++ ls) (no_lines c.loop-rest.rest.now (grind (arith, nat_tests))) ∙ append-nil inv.front in
    Whole (subst (Takes (g.S.Sink.state c.args.out.now) (g.S.Sink.state c.loop-rest.out)) (sym all) inv.taken) inv.kept refl
