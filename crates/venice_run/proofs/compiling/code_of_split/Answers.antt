use Rattle.std.proofs.Common.{◌+◌, ◌≤◌, subst, arith}
use Rattle.venice_isa.specs.Code.{IsCode}
use Rattle.venice_isa.specs.Limits.{instruction_limit}
use Rattle.pass_plan.specs.Shown.{split_of}
use Rattle.pass_plan.specs.Sizes.{nodes_in}
use Rattle.host_codegen.specs.CodeRoom.{code_room}
use Rattle.venice_run.proofs.compiling.code_of_split.Goals as goal

pub code-requires-clause-sound : goal.code-requires-clause-sound
code-requires-clause-sound c =
    let of = c.requires.of_program in
    c.split_laws.ensures.sound of.program (split_of c.args.split.now) of.is_checked of.is_split

pub code-requires-clause-few : goal.code-requires-clause-few
code-requires-clause-few c =
    let of = c.requires.of_program in
    let split = split_of c.args.split.now in
    let few = c.size_laws.ensures.few of.program split of.is_checked of.is_split in
    let nodes : nodes_in split ≤ 16384 = few.nodes in
    omega (arith, nodes)

pub returns-clause-fits : goal.returns-clause-fits
returns-clause-fits c =
    let of = c.requires.of_program in
    let split = split_of c.args.split.now in
    let few = c.size_laws.ensures.few of.program split of.is_checked of.is_split in
    let sound = c.split_laws.ensures.sound of.program split of.is_checked of.is_split in
    let room : code_room split ≤ instruction_limit = c.room_laws.ensures.enough split sound few.nodes few.maps in
    let is = c.in_ok-code.ensures.of_split in
    record {
      is_code = subst IsCode c.code-2.view_is c.code-2.invariant;
      version = is.version;
      few = omega (arith, is.few, room);
      steps = is.steps;
      issues = is.issues (is.steps + 1) (omega arith);
      within = is.within;
    }
