use Rattle.std.proofs.Common.{◌≡◌, ◌<◌, ◌∙◌, sym, arith}
use Rattle.std.proofs.lemmas.Bool.Decides.{nat_tests}
use Rattle.std.proofs.lemmas.Result.{IfOk-weaker}
use Rattle.host_programs.specs.Program as list
use Rattle.host_programs.specs.Shown.{program_of}
use Rattle.host_codegen.proofs.Halves.{between_none, between_one, between_flat, between_both}
use Rattle.host_codegen.proofs.sequence.+between.Goals as goal

pub returns-then-count-eq0 : goal.returns-then-count-eq0
returns-then-count-eq0 g t c =
    let is : c.args.count ≡ 0 = grind (arith, nat_tests) in
    sym (between_none c.args.first c.args.count (g.N.Numbered.made c.args.each.now) c.args.levels is)

pub returns-then-count-eq1 : goal.returns-then-count-eq1
returns-then-count-eq1 g t c =
    let is : c.args.count ≡ 1 = grind (arith, nat_tests) in
    let made = g.N.Numbered.made c.args.each.now in
    IfOk-weaker c.program.result (λ p. program_of p ≡ made c.args.first) _
    (λ p same. same ∙ sym (between_one c.args.first c.args.count made c.args.levels is)) c.program.ensures

pub returns-then-levels-eq0 : goal.returns-then-levels-eq0
returns-then-levels-eq0 g t c =
    let is : c.args.levels ≡ 0 = grind (arith, nat_tests) in
    let some : 0 < c.args.count = grind (arith, nat_tests) in
    let made = g.N.Numbered.made c.args.each.now in
    IfOk-weaker c.program-then-levels-eq0.result (λ p. program_of p ≡ made c.args.first) _
    (λ p same. same ∙ sym (between_flat c.args.first c.args.count made c.args.levels is some)) c.program-then-levels-eq0.ensures

pub between-requires : goal.between-requires
between-requires g t c κs outlives =
    let some : 0 < c.args.levels = grind (arith, nat_tests) in
    let many : 1 < c.args.count = grind (arith, nat_tests) in
    (omega arith, (outlives, (c.requires.ready, (omega (arith, c.requires.within), omega (arith, c.requires.few)))))

pub between-requires-2 : goal.between-requires-2
between-requires-2 g t c κs outlives =
    let some : 0 < c.args.levels = grind (arith, nat_tests) in
    let many : 1 < c.args.count = grind (arith, nat_tests) in
    (omega arith, (outlives, (c.requires.ready, (omega (arith, c.requires.within), omega (arith, c.requires.few)))))

pub returns : goal.returns
returns g t c =
    let some : 0 < c.args.levels = grind (arith, nat_tests) in
    let many : 1 < c.args.count = grind (arith, nat_tests) in
    let made = g.N.Numbered.made c.args.each.now in
    IfOk-weaker c.both.result (λ r. program_of r ≡ list.Both (program_of c.in_ok-front.front) (program_of c.in_ok-back.back)) _
    (λ r same. same ∙ between_both c.args.first c.args.count made c.args.levels (program_of c.in_ok-front.front) (program_of c.in_ok-back.back) some many c.in_ok-front.ensures c.in_ok-back.ensures) c.both.ensures
