-- What the commands load.
use Rattle.std.specs.Prelude.{◌≡◌, ℕ, ◌<◌, ◌≤◌, List, length, Option, Some, None, Ok, Err}
use Rattle.ven_io.specs.Files.{Behaviour}
use Rattle.image_loader.specs.Table.{file_limit}
use Rattle.venice_run.specs.declared.ending.Ending.TheVariants.{Refused, Failed}
use Rattle.venice_run.specs.declared.ending.Fault.TheVariants.{File, Memory}
use Rattle.venice_run.specs.declared.refusal.Kind.{Kind}
use Rattle.venice_run.specs.declared.refusal.Kind.TheVariants as kind
use Rattle.venice_run.specs.declared.refusal.Refusal.TheVariants.{FileMissing, TooLong}
use Rattle.venice_run.specs.Stage.{Stage, ◌>>=◌, refuses}

-- the greatest length of a program's text, in bytes; that of every other text is an image's
abbrev pub program_limit : ℕ
program_limit = 65536

abbrev pub limit_of : Kind → ℕ
limit_of kind.Program = program_limit
limit_of kind = file_limit

-- what a load of the name shows: the whole text, or that it is longer than the limit
unfoldable pub text_under : Behaviour → List ℕ → ℕ → Stage (Option (List ℕ))
text_under files name limit (Ok (Some text)) = files.shows name (Some text) × (length text ≤ limit)
text_under files name limit (Ok None) = (text : List ℕ) × files.shows name (Some text) × (limit < length text)
text_under files name limit (Err (Refused refusal)) = files.shows name None × (refusal ≡ FileMissing)
text_under files name limit (Err (Failed File)) = files.load_may_fail name
text_under files name limit (Err (Failed Memory)) = Unit {0}

-- the text, where it isn't longer than its kind may be
abbrev pub whole_text : Kind → Option (List ℕ) → Stage (List ℕ)
whole_text kind (Some text) result = result ≡ Ok text
whole_text kind None result = refuses (TooLong kind) result

-- the whole text of the kind that the name has
unfoldable pub loads : Behaviour → List ℕ → Kind → Stage (List ℕ)
loads files name kind = do
  text ← text_under files name (limit_of kind)
  whole_text kind text
