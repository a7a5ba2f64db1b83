-- Inner: numbers that are written without a sign.
use Rattle.std.specs.Prelude.{ℤ}
use Rattle.array_syntax.specs.Limits.{IsNumber}

-- those of a section
pub record AreCuts (r0 nr sr c0 nc sc : ℤ) : Type 0 where
  pub first_row : IsNumber r0
  pub rows : IsNumber nr
  pub row_step : IsNumber sr
  pub first_col : IsNumber c0
  pub cols : IsNumber nc
  pub col_step : IsNumber sc

-- those of a stretch
pub record AreRepeats (kr kc : ℤ) : Type 0 where
  pub rows : IsNumber kr
  pub cols : IsNumber kc
