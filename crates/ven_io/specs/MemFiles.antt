-- Files in memory, whose loads and saves fail by a list of numbers.
use Rattle.std.specs.Prelude.{◌≡◌, ℕ, List, map, IsSome, refl, string_bytes}
use Rattle.std.specs.Ordering.{nat_cmp}
use Rattle.std.specs.Cmp.Lexicographic.{slice_cmp}
use Rattle.std.specs.FinMap as fin
use Rattle.std.specs.Coded.{Coded, code_by, coded×, coded_ℕ, coded_list}
use Rattle.std.specs.BTreeMap.{BTreeMap}
use Rattle.std.specs.Global.{Vec, Global}
use Rattle.std.specs.declared.string.String.{String}
use Rattle.ven_io.specs.Files.{Behaviour, FilesState}
use Rattle.ven_io.specs.Numbers.{Numbers, FailsSometime}

-- the bytes of each name that is there
abbrev pub FileContents : Type 0
FileContents = fin.FinMap (slice_cmp nat_cmp) (List ℕ)

-- what they hold, which calls fail, and how many loads and saves have failed
pub record MemFilesState : Type 0 where
  pub holds : FileContents
  pub numbers : Numbers
  pub failed_loads : ℕ
  pub failed_saves : ℕ

-- a state is stored as the tuple of its parts
abbrev pub mem_files_code : Coded MemFilesState
mem_files_code =
    code_by ((FileContents × List ℕ) × (ℕ × (ℕ × ℕ)))
    (coded× (coded× (fin.code (coded_list coded_ℕ) (coded_list coded_ℕ)) (coded_list coded_ℕ))
    (coded× coded_ℕ (coded× coded_ℕ coded_ℕ)))
    (λ s. ((s.holds, s.numbers.fails), (s.numbers.last, (s.failed_loads, s.failed_saves))))
    (λ p. record {
      holds = p.0.0;
      numbers = record { fails = p.0.1; last = p.1.0 };
      failed_loads = p.1.1.0;
      failed_saves = p.1.1.1;
    }) (λ _. refl)

-- what a map from texts to bytes holds
abbrev pub contents_of : BTreeMap (String Global) (Vec ℕ) → FileContents
contents_of files = fin.from_entries (map (λ e. (string_bytes e.0, e.1.items)) files.entries)

-- what of them only a save changes: the files, and the list of failing calls, which stays
pub record MemContent : Type 0 where
  pub holds : FileContents
  pub fails : List ℕ

-- They show what they hold, and nothing fails where no call is listed as failing.
abbrev pub behaviour_of : MemContent → Behaviour
behaviour_of content = record {
  shows = λ name shown. shown ≡ fin.get content.holds name;
  load_may_fail = λ name. IsSome (fin.get content.holds name) × FailsSometime content.fails;
  save_may_fail = λ name. FailsSometime content.fails;
}

-- them at a moment, as all files are seen
abbrev pub files_state : MemFilesState → FilesState MemContent
files_state s = record {
  content = record { holds = s.holds; fails = s.numbers.fails };
  failed_loads = s.failed_loads;
  failed_saves = s.failed_saves;
}

-- every file but one is as it was
abbrev pub OtherFilesStay : FileContents → FileContents → List ℕ → Type 0
OtherFilesStay before after name = (other : List ℕ) → (other ≡ name → ⊥) → fin.get after other ≡ fin.get before other
