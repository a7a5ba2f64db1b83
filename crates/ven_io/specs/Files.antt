-- What a program can learn of files, and what a load and a save leave behind.
use Rattle.std.specs.Prelude.{◌≡◌, ◌≢◌, ◌↔◌, ℕ, ◌+◌, List, take, Option, Some, None, Result, Ok, Err}
use Rattle.std.specs.Global.{Vec}
use Rattle.ven_io.specs.Faults.{CountsFaults}
use Rattle.ven_io.specs.declared.files.LoadFault.{LoadFault}
use Rattle.ven_io.specs.declared.files.LoadFault.TheVariants as load
use Rattle.ven_io.specs.declared.sink.OutFault.{OutFault}
use Rattle.ven_io.specs.declared.sink.OutFault.TheVariants as out

-- What may come of a load and of a save, name by name: what a load may show (the file's bytes, or that there is no such
-- file), and whether a load or a save may fail.
pub record Behaviour : Type 1 where
  pub shows : List ℕ → Option (List ℕ) → Type 0
  pub load_may_fail : List ℕ → Type 0
  pub save_may_fail : List ℕ → Type 0

-- Files at a moment: what they hold, and how many loads and how many saves have failed.
pub record FilesState (Content : Type 0) : Type 0 where
  pub content : Content
  pub failed_loads : ℕ
  pub failed_saves : ℕ

-- Between two moments there were only loads: no file has changed, and one load has failed where that is said, else
-- none.
pub record OnlyLoads {Content : Type 0} (before after : FilesState Content) (load_failed : Type 0) : Type 0 where
  pub content : after.content ≡ before.content
  pub loads : CountsFaults before.failed_loads after.failed_loads load_failed
  pub saves : after.failed_saves ≡ before.failed_saves

-- Between two moments there was one save.
pub record OnlySaves {Content : Type 0} (before after : FilesState Content) (save_failed : Type 0) : Type 0 where
  pub saves : CountsFaults before.failed_saves after.failed_saves save_failed
  pub loads : after.failed_loads ≡ before.failed_loads

-- a load: the first `most + 1` bytes of what is shown, or all where there are fewer; or why there are none
abbrev pub Loads : Behaviour → List ℕ → ℕ → Result (Vec ℕ) LoadFault → Type 0
Loads files name most (Ok bytes) =
    (content : List ℕ) × files.shows name (Some content) × (bytes.items ≡ take (most + 1) content)
Loads files name most (Err load.Missing) = files.shows name None
Loads files name most (Err load.Failed) = files.load_may_fail name
Loads files name most (Err load.Memory) = Unit {0}

-- under this name the files behave as before
pub record SameAt (before after : Behaviour) (name : List ℕ) : Type 0 where
  pub shows : (content : Option (List ℕ)) → after.shows name content ↔ before.shows name content
  pub load_may_fail : after.load_may_fail name ↔ before.load_may_fail name
  pub save_may_fail : after.save_may_fail name ↔ before.save_may_fail name

-- under every other name the files behave as before
abbrev pub OthersStay : Behaviour → Behaviour → List ℕ → Type 0
OthersStay before after name = (other : List ℕ) → other ≢ name → SameAt before after other

-- a save: the name has these bytes, and every other name stays; after a failed one the name may have anything
abbrev pub Saves : Behaviour → Behaviour → List ℕ → List ℕ → Result (Unit {0}) OutFault → Type 0
Saves before after name bytes (Ok _) = after.shows name (Some bytes) × OthersStay before after name
Saves before after name bytes (Err out.Failed) = before.save_may_fail name × OthersStay before after name
Saves before after name bytes (Err out.Memory) = Unit {0}
