use Rattle.venice_run.specs.Promise.{moment}
use Rattle.venice_run.specs.Words.{texts_of}
use Rattle.venice_run.proofs.Complete.{complete, uncounted_all, never_15}
use Rattle.venice_run.proofs.laws.promise_is_complete.Goals as goal

pub returns : goal.returns
returns g c =
    let before = moment (g.F.Files.state c.args.files.now) (g.S.Sink.state c.args.out.now) in
    let after = moment (g.F.Files.state c.args.files_now.now) (g.S.Sink.state c.args.out_now.now) in
    record {
      complete = λ promise quiet. (
        complete g.F.Files.behaviour before after (texts_of c.args.words.now) c.args.status promise quiet,
        uncounted_all g.F.Files.behaviour before after (texts_of c.args.words.now) c.args.status promise quiet,
      );
      never = never_15 g.F.Files.behaviour before after (texts_of c.args.words.now) c.args.status;
    }
