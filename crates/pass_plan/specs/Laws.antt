-- What holds of passes, tiles and buffers.
use Rattle.std.specs.Prelude.{◌≡◌, ℕ, ◌*◌, ◌≤◌, ◌<◌, ℤ, List, All, true, get_or}
use Rattle.ven_base.specs.declared.elem.Elem.{Elem}
use Rattle.ven_base.specs.Extent.{IsExtent, IsIndex}
use Rattle.ven_base.specs.Grid.{IsGrid}
use Rattle.pass_plan.specs.declared.leaf.Leaf.{Leaf}
use Rattle.pass_plan.specs.declared.split.ArrayPlace.{ArrayPlace}
use Rattle.pass_plan.specs.declared.parts.Tile.{Tile}
use Rattle.pass_plan.specs.Tree.{TreeOver, value_of, nodes_of, is_computed}
use Rattle.pass_plan.specs.Normal.{normalised}
use Rattle.pass_plan.specs.Label.{label_of}
use Rattle.pass_plan.specs.Pass.{Pass, Arrays, no_leaf, pass_array}
use Rattle.pass_plan.specs.Need.{buffers_of, pass_need, need_of}
use Rattle.pass_plan.specs.Tile.{tiles_of, piece_of, IsInPiece, IsPieceOf, IsTileOf, tile_of}
use Rattle.pass_plan.specs.Buffers.{buffer_bytes}
use Rattle.pass_plan.specs.Sound.{IsNumbering, HasArrays, IsSoundPass}

-- ---- tiles

-- each index of a pass's domain is in a tile, and in one alone
abbrev pub TilesCover : Type 0
TilesCover =
    (pass : Pass) (tile : Tile) → IsExtent pass.domain → IsTileOf pass tile → (i j : ℕ) → IsIndex pass.domain i j
    → (t : ℕ) × (t < tiles_of pass.domain tile) × IsInPiece (piece_of pass.domain tile t) i j

abbrev pub TilesAreApart : Type 0
TilesAreApart =
    (pass : Pass) (tile : Tile) → IsExtent pass.domain → IsTileOf pass tile → (i j t u : ℕ)
    → t < tiles_of pass.domain tile → u < tiles_of pass.domain tile
    → IsInPiece (piece_of pass.domain tile t) i j → IsInPiece (piece_of pass.domain tile u) i j → t ≡ u

-- each tile has rows and columns, and lies in the domain
abbrev pub TilesLieInside : Type 0
TilesLieInside =
    (pass : Pass) (tile : Tile) → IsExtent pass.domain → IsTileOf pass tile → (t : ℕ) → t < tiles_of pass.domain tile
    → IsPieceOf pass.domain (piece_of pass.domain tile t)

-- ---- need

-- the need is at least that of each pass
abbrev pub NeedHoldsEach : Type 0
NeedHoldsEach = (passes : List Pass) → All (λ pass. pass_need pass ≤ need_of passes) passes

-- all buffers of a pass's tile lie in a scratchpad that holds its need
abbrev pub BuffersLieInside : Type 0
BuffersLieInside =
    (pass : Pass) (spad : ℕ) → pass_need pass ≤ spad → buffers_of pass * buffer_bytes pass (tile_of pass spad) ≤ spad

-- a tile of a pass has rows and columns
abbrev pub TilesAreSome : Type 0
TilesAreSome = (pass : Pass) (tile : Tile) → IsExtent pass.domain → IsTileOf pass tile → (1 ≤ tile.h) × (1 ≤ tile.w)

-- an inner node holds at least one result, and no tree more than it has nodes
abbrev pub LabelsAreSome : Type 0
LabelsAreSome = (tree : TreeOver ℕ) → is_computed tree ≡ true → 1 ≤ label_of tree

abbrev pub LabelsAreFew : Type 0
LabelsAreFew = (tree : TreeOver ℕ) → label_of tree ≤ nodes_of tree

-- ---- values

-- normalising and numbering keep a tree's value
abbrev pub NormalisingKeeps : Type 0
NormalisingKeeps =
    (elem : Elem) (tree : TreeOver Leaf) (at : Leaf → ℤ) → value_of (normalised elem tree) at ≡ value_of tree at

abbrev pub NumberingKeeps : Type 0
NumberingKeeps =
    (tree : TreeOver Leaf) (leaves : List Leaf) (numbered : TreeOver ℕ) (at : Leaf → ℤ)
    → IsNumbering tree leaves numbered
    → value_of numbered (λ k. at (get_or leaves k no_leaf)) ≡ value_of tree at

-- over arrays with the types and numbers of elements of their places, a sound pass makes an array of its type
abbrev pub PassesMakeArrays : Type 0
PassesMakeArrays =
    (places : List ArrayPlace) (later : List ℕ) (pass : Pass) (arrays : Arrays) → IsSoundPass places later pass
    → HasArrays places arrays pass.leaves → IsGrid (pass_array arrays pass)
