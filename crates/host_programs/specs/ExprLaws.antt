-- What holds of expressions and their code.
use Rattle.std.specs.Prelude.{◌≡◌, ℕ, ◌<◌, ◌≤◌, ◌^◌, [], true}
use Rattle.host_programs.specs.Contents.{RegisterContents, AreWords}
use Rattle.host_programs.specs.Block.{Block, size, after, issues, steps, is_sound}
use Rattle.host_programs.specs.Expr.{Expr, value, machine_value, Fits, is_below, register_of, put, bring, cost, bring_cost}

-- a block leaves a number in register s, in so many steps: it keeps the registers below d, the parameters and the tag,
-- and passes nothing on
pub record Puts (x : Block) (s d n count : ℕ) (held : RegisterContents) : Type 0 where
  pub puts : (after x held).register s ≡ n
  pub keeps : (r : ℕ) → r < d → (after x held).register r ≡ held.register r
  pub parameters : (after x held).parameter ≡ held.parameter
  pub tag : (after x held).tag ≡ held.tag
  pub silent : issues x held ≡ []
  pub takes : steps x held ≡ count

-- registers that have the same numbers, as far as they lie below d
pub record Agree (d : ℕ) (f g : ℕ → ℕ) : Type 0 where
  pub at : (r : ℕ) → r < d → f r ≡ g r

pub record ExprsRun : Type 0 where
  pub puts : (e : Expr) (d : ℕ) (held : RegisterContents) → is_below e d ≡ true → AreWords held
      → Puts (put e d) d d (machine_value e held.register) (cost e held.register) held
  pub brings : (e : Expr) (d : ℕ) (held : RegisterContents) → is_below e d ≡ true → AreWords held
      → Puts (bring e d) (register_of e d) d (machine_value e held.register) (bring_cost e held.register) held
  pub sound : (e : Expr) (d : ℕ) → is_sound (put e d) ≡ true
  pub exact : (e : Expr) (f : ℕ → ℕ) → Fits e f → value e f < 2 ^ 32 → machine_value e f ≡ value e f
  pub cheap : (e : Expr) (d : ℕ) (f : ℕ → ℕ) → cost e f ≤ size (put e d)
