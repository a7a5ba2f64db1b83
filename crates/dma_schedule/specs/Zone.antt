-- Inner: what a place is to a pass, and the places that its blocks touch.
use Rattle.std.specs.Prelude.{◌≡◌, ℕ, ◌+◌, ◌-◌, ◌*◌, ◌/◌, ◌%◌, ◌<◌, true, ◌&&◌, ◌==◌, List, [], ◌∷◌, All, ⊤, nat_lt, nat_le, if◌then◌else◌}
use Rattle.ven_base.specs.Elem.{size_of}
use Rattle.ven_base.specs.Store.{Place, in_cells, in_memory, Size}
use Rattle.venice_isa.specs.declared.issue.Issue.{Issue}
use Rattle.venice_isa.specs.declared.issue.Issue.TheVariants.{Read, Write}
use Rattle.venice_isa.specs.Units.{Unit, Lanes, ReadChannel, WriteChannel, is_of}
use Rattle.venice_isa.specs.Footprint.{Reads, Writes, HasFootprint, Conflicts}
use Rattle.venice_isa.specs.Tests.{has_counts}
use Rattle.pass_plan.specs.declared.pass.PassKind.{PassKind}
use Rattle.pass_plan.specs.declared.parts.Tile.{Tile}
use Rattle.pass_plan.specs.Label.{label_of}
use Rattle.pass_plan.specs.Pass.{Pass}
use Rattle.pass_plan.specs.Tile.{across}
use Rattle.pass_plan.specs.Buffers.{is_map, buffer_bytes, first_slot, partial_buffer, result_columns}
use Rattle.dma_schedule.specs.Blocks.{Blocks, leaf_half, row_half, write_tag}

-- each place is in one zone: of the cells, by the number of the buffer that has it; of memory, by the tile of the
-- destination's piece that has it. All memory outside the destination is `source`
pub data Zone : Type 0 where
  leaf : (number half : ℕ) → Zone
  scratch : Zone
  output : (half : ℕ) → Zone
  source : Zone
  piece : (t : ℕ) → Zone
  elsewhere : Zone

-- ---- the zones of a pass, whose array stands at a place

-- the tile that writes an element of what a pass makes: in a reduction the last of its row
abbrev pub tile_with : PassKind → Pass → Tile → (index : ℕ) → ℕ
tile_with kind pass tile index =
    if is_map kind
    then ((index / pass.domain.cols) / tile.h) * across pass.domain tile + (index % pass.domain.cols) / tile.w
    else (index / tile.h) * across pass.domain tile + (across pass.domain tile - 1)

module _ (pass : Pass) (tile : Tile) (place : ℕ) where
  abbrev pub zone_of_buffer : ℕ → Zone
  zone_of_buffer k =
      if nat_lt k (first_slot pass tile) then leaf (k / 2) (k % 2)
      else if nat_lt k (first_slot pass tile + label_of pass.tree) then scratch
      else if nat_lt k (partial_buffer pass tile) then output (k - (first_slot pass tile + label_of pass.tree))
      else if k == partial_buffer pass tile then scratch
      else elsewhere

  -- the bytes of what the pass makes
  abbrev pub bytes_made : ℕ
  bytes_made = pass.domain.rows * result_columns pass tile * size_of pass.elem

  abbrev pub zone_of : Place → Zone
  zone_of (in_cells p) = zone_of_buffer (p / buffer_bytes pass tile)
  zone_of (in_memory p) =
      if nat_le place p && nat_lt p (place + bytes_made)
      then piece (tile_with pass.kind pass tile ((p - place) / size_of pass.elem))
      else source

-- ---- works by their zones

-- the tag of a transfer
abbrev pub tag_of : Issue → ℕ
tag_of (Read work) = work.tag
tag_of (Write work) = work.tag
tag_of _ = 0

-- a work of the unit, with the tag and with counts, that reads and writes in these zones alone
pub record KeepsTo (zone : Place → Zone) (size : Size) (unit : Unit) (tag : ℕ) (Read Written : Zone → Type 0)
    (issue : Issue) : Type 0 where
  pub of_unit : is_of unit issue ≡ true
  pub tag_is : tag_of issue ≡ tag
  pub counts : has_counts issue ≡ true
  pub in_range : HasFootprint size issue
  pub reads : (place : Place) → Reads issue place → Read (zone place)
  pub writes : (place : Place) → Writes issue place → Written (zone place)

-- no two works of a block conflict
abbrev pub AreApart : List Issue → Type 0
AreApart [] = ⊤
AreApart (issue ∷ rest) = All (λ later. ¬ Conflicts issue later) rest × AreApart rest

-- the zone is one of the leaves' halves with this number
abbrev pub IsLeafHalf : ℕ → Zone → Type 0
IsLeafHalf half (leaf number other) = other ≡ half
IsLeafHalf half scratch = ⊥
IsLeafHalf half (output other) = ⊥
IsLeafHalf half source = ⊥
IsLeafHalf half (piece t) = ⊥
IsLeafHalf half elsewhere = ⊥

-- the zones that Compute may touch
abbrev pub IsComputed : Blocks → ℕ → Zone → Type 0
IsComputed blocks t (leaf number half) = half ≡ leaf_half t
IsComputed blocks t scratch = ⊤
IsComputed blocks t (output half) = half ≡ row_half blocks t
IsComputed blocks t source = ⊥
IsComputed blocks t (piece u) = ⊥
IsComputed blocks t elsewhere = ⊥

module _ (zone : Place → Zone) (size : Size) (blocks : Blocks) where
  abbrev pub IsRead : ℕ → Issue → Type 0
  IsRead t = KeepsTo zone size ReadChannel (leaf_half t) (λ z. z ≡ source) (IsLeafHalf (leaf_half t))

  abbrev pub IsCompute : ℕ → Issue → Type 0
  IsCompute t = KeepsTo zone size Lanes 0 (IsComputed blocks t) (IsComputed blocks t)

  abbrev pub IsWrite : ℕ → Issue → Type 0
  IsWrite t = KeepsTo zone size WriteChannel (write_tag (row_half blocks t)) (λ z. z ≡ output (row_half blocks t))
      (λ z. z ≡ piece t)

  -- what the blocks of a pass touch
  pub record KeepToZones : Type 0 where
    pub reads : (t : ℕ) → t < blocks.tiles → All (IsRead t) (blocks.reads t) × AreApart (blocks.reads t)
    pub compute : (t : ℕ) → t < blocks.tiles → All (IsCompute t) (blocks.compute t)
    pub writes : (t : ℕ) → t < blocks.tiles → All (IsWrite t) (blocks.writes t) × AreApart (blocks.writes t)
