-- What the host holds, wherever it stands in its code.
use Rattle.std.specs.Prelude.{ℕ, ◌<◌, ◌^◌, List}
use Rattle.venice_isa.specs.declared.instr.Instr.{Instr}
use Rattle.venice_isa.specs.declared.issue.Issue.{Issue}
use Rattle.venice_isa.specs.Host.{Host, after_instr, deed_of, passed_by, start}

-- registers and parameters by their numbers, and the tag
pub record RegisterContents : Type 0 where
  pub register : ℕ → ℕ
  pub parameter : ℕ → ℕ
  pub tag : ℕ

abbrev pub contents_of : Host → RegisterContents
contents_of host = record { register = host.register; parameter = host.parameter; tag = host.tag }

-- the host that holds this at a place in its code
abbrev pub standing : ℕ → RegisterContents → Host
standing place held =
    record { register = held.register; parameter = held.parameter; tag = held.tag; place = place }

abbrev pub first_contents : RegisterContents
first_contents = contents_of start

-- what an instruction leaves, and what it passes on: no instruction looks at its place
abbrev pub left_by : Instr → RegisterContents → RegisterContents
left_by instr held = contents_of (after_instr instr (standing 0 held))

abbrev pub issues_by : Instr → RegisterContents → List Issue
issues_by instr held = passed_by (deed_of instr (standing 0 held))

-- all registers have numbers of 32 bits
abbrev pub AreWords : RegisterContents → Type 0
AreWords held = (r : ℕ) → held.register r < 2 ^ 32
