-- Calls that are numbered from 1 on, and fail by their numbers.
use Rattle.std.specs.Prelude.{◌≡◌, ℕ, List, Contains}
use Rattle.ven_io.specs.Faults.{CountsFaults, one_more}

-- the numbers of the calls that fail, and the number of the last call, a u64 that stays at its greatest value
pub record Numbers : Type 0 where
  pub fails : List ℕ
  pub last : ℕ

-- after one more call
abbrev pub next : Numbers → Numbers
next numbers = record { fails = numbers.fails; last = one_more numbers.last }

-- the next call's number is one of those that fail
abbrev pub FailsNext : Numbers → Type 0
FailsNext numbers = Contains numbers.fails (one_more numbers.last)

-- some call's number is one of those that fail
pub record FailsSometime (fails : List ℕ) : Type 0 where
  pub number : ℕ
  pub listed : Contains fails number

-- a numbered call: it has the next number, and where it has failed it is counted among the faults of its kind
pub record CountsCall (before now : Numbers) (faults_before faults_now : ℕ) (has_failed : Type 0) : Type 0 where
  pub numbered : now ≡ next before
  pub counted : CountsFaults faults_before faults_now has_failed
