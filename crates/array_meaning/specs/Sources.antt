-- Inner: what the nodes with a value at each place of their operands give.
use Rattle.std.specs.Prelude.{ℕ, ℤ, pos, ◌+◌, ◌*◌, ◌<◌, List, map, slice_index_or}
use Rattle.std.specs.Option.{option_map_or}
use Rattle.std.specs.List.{range_with_len}
use Rattle.ven_base.specs.declared.elem.Elem.{Elem}
use Rattle.ven_base.specs.declared.ops.Op1.{Op1}
use Rattle.ven_base.specs.declared.ops.Op2.{Op2}
use Rattle.ven_base.specs.declared.mapping.Mapping.{Mapping}
use Rattle.ven_base.specs.Elem.{IsElement}
use Rattle.ven_base.specs.Extent.{Extent}
use Rattle.ven_base.specs.Wrap.{wrapped}
use Rattle.ven_base.specs.Operation.{applied1, applied2}
use Rattle.ven_base.specs.Mapping.{source_of, fill_of}
use Rattle.shape_check.specs.Meaning.{chosen}
use Rattle.array_meaning.specs.declared.operand.View.{View}
use Rattle.array_meaning.specs.declared.nodes.One.{One}
use Rattle.array_meaning.specs.declared.nodes.Two.{Two}
use Rattle.array_meaning.specs.declared.nodes.Cast.{Cast}
use Rattle.array_meaning.specs.declared.nodes.Select.{Select}
use Rattle.array_meaning.specs.Operand.{number_in, Reaches}

-- a number of the type stands at the place
pub record IsElementAt (elem : Elem) (v : View) (place : ℕ) : Type 0 where
  pub reaches : Reaches v place
  pub element : IsElement elem (number_in v place)

abbrev pub one_at : One → ℕ → ℤ
one_at s place = applied1 s.op s.elem (number_in s.a place)

abbrev pub HasOperand : One → ℕ → Type 0
HasOperand s place = IsElementAt s.elem s.a place

abbrev pub two_at : Two → ℕ → ℤ
two_at s place = applied2 s.op s.elem (number_in s.a place) (number_in s.b place)

pub record HasOperands (s : Two) (place : ℕ) : Type 0 where
  pub left : IsElementAt s.elem s.a place
  pub right : IsElementAt s.elem s.b place

abbrev pub cast_at : Cast → ℕ → ℤ
cast_at s place = wrapped s.elem (number_in s.a place)

abbrev pub HasNumber : Cast → ℕ → Type 0
HasNumber s place = Reaches s.a place

abbrev pub select_at : Select → ℕ → ℤ
select_at s place = chosen (number_in s.condition place) (number_in s.x place) (number_in s.y place)

pub record HasChoice (s : Select) (place : ℕ) : Type 0 where
  pub condition : Reaches s.condition place
  pub x : Reaches s.x place
  pub y : Reaches s.y place

-- ---- at so many places

pub record AreThere (count : ℕ) (v : View) : Type 0 where
  pub reaches : (place : ℕ) → place < count → Reaches v place

pub record AreElements (elem : Elem) (count : ℕ) (v : View) : Type 0 where
  pub elements : (place : ℕ) → place < count → IsElementAt elem v place

pub record HaveElements (elem : Elem) (count : ℕ) (v w : View) : Type 0 where
  pub left : AreElements elem count v
  pub right : AreElements elem count w

abbrev pub results1 : Op1 → Elem → ℕ → View → List ℤ
results1 op elem count v = map (λ place. applied1 op elem (number_in v place)) (range_with_len 0 count)

abbrev pub results2 : Op2 → Elem → ℕ → View → View → List ℤ
results2 op elem count v w =
    map (λ place. applied2 op elem (number_in v place) (number_in w place)) (range_with_len 0 count)

abbrev pub casts : Elem → ℕ → View → List ℤ
casts elem count v = map (λ place. wrapped elem (number_in v place)) (range_with_len 0 count)

abbrev pub choices : ℕ → View → View → View → List ℤ
choices count c x y =
    map (λ place. chosen (number_in c place) (number_in x place) (number_in y place)) (range_with_len 0 count)

-- ---- index maps

-- the value of a map in row i and column j, where these are the operand's shape and values
abbrev pub mapped_at : Mapping → Extent → List ℤ → ℕ → ℕ → ℤ
mapped_at mapping of values i j =
    option_map_or (λ s. slice_index_or values (s.0 * of.cols + s.1) (pos 0)) (source_of mapping of i j)
    (fill_of mapping)
