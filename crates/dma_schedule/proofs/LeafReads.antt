-- The reads of a tile: leaf after leaf they bring the leaves' pieces, fills apart, into the halves of the tile.
use Rattle.std.proofs.Common.{◌≡◌, ◌⊎◌, ◌&&◌, inl, inr, ℕ, zero, suc, ◌+◌, ◌*◌, ◌%◌, ◌<◌, ◌≤◌, sym, refl, subst, ap, ◌∙◌, arith, List, [], ◌∷◌, ◌++◌, length, get_or, map, true, nat_lt, lt-ltb, All}
use Rattle.std.specs.Prelude.{Contains}
use Rattle.std.proofs.lemmas.Nat.{mod_below, mul-le}
use Rattle.std.proofs.Math.Nat.{mul-le-mul_right}
use Rattle.std.proofs.lemmas.Simd.{map-map}
use Rattle.std.proofs.lemmas.List.Elements.{Contains-get_or}
use Rattle.ven_base.specs.Elem.{size_of}
use Rattle.ven_base.specs.Extent.{elements_of}
use Rattle.ven_base.specs.Store.{Place, in_cells, in_memory, Store, Size, HasPlace}
use Rattle.venice_isa.specs.declared.work.DmaWork.{DmaWork}
use Rattle.venice_isa.specs.declared.issue.Issue.{Issue}
use Rattle.venice_isa.specs.declared.issue.Issue.TheVariants.{Read}
use Rattle.venice_isa.specs.Region.{Covers, HasRowsApart, IsApartFrom}
use Rattle.venice_isa.specs.Footprint.{cells_of, memory_of, Reads, Writes, Conflicts, writes_what_is_read, reads_what_is_written, both_write}
use Rattle.venice_isa.specs.Units.{Unit, ReadChannel, is_of}
use Rattle.venice_isa.specs.Beat.{sequential}
use Rattle.venice_isa.proofs.Regions.{elements_apart}
use Rattle.pass_plan.specs.declared.leaf.Leaf.{Leaf}
use Rattle.pass_plan.specs.declared.parts.Tile.{Tile}
use Rattle.pass_plan.specs.declared.parts.Piece.{Piece}
use Rattle.pass_plan.specs.declared.split.ArrayPlace.{ArrayPlace}
use Rattle.pass_plan.specs.Pass.{Pass, Arrays, no_leaf}
use Rattle.pass_plan.specs.Tile.{tiles_of, piece_of, IsPieceOf}
use Rattle.pass_plan.specs.Need.{widest_in}
use Rattle.pass_plan.specs.Buffers.{buffer_bytes, leaf_buffer, cell_of, IsArrayPlace, IsLeafPlace, IsLeafByte}
use Rattle.pass_plan.specs.Sound.{IsSoundLeaf, IsArrayOf}
use Rattle.dma_segments.specs.declared.segments.Fill.{Fill}
use Rattle.dma_segments.specs.Put.{CanRead, PutPiece, IsRead}
use Rattle.dma_segments.specs.Effect.{HasByte}
use Rattle.dma_segments.specs.Moves.{moves}
use Rattle.dma_segments.specs.Laws.{with_tag, leaf_of, leaf_cell, HasArray}
use Rattle.dma_segments.proofs.Puts.{is_put, is_few}
use Rattle.dma_segments.proofs.Effects.{command_cells, command_places, commands_once, tagged_put}
use Rattle.dma_segments.proofs.Values.{leaf_cells, reads_show}
use Rattle.dma_segments.proofs.Lists.{Each, AtLeastOne, EachPair, each_all, all_each, each_map, each_append, each_weaker, one_any, any_one, one_map, one_left, one_right, pairs_map, pairs_all, all_pairs, pairs_append}
use Rattle.dma_schedule.specs.Blocks.{leaf_half}
use Rattle.dma_schedule.specs.PipeList.{leaf_segments, leaf_reads, tile_reads}
use Rattle.dma_schedule.specs.Pipelined.{HasAtMost, IsTaggedRead, WriteApart, WritesHalf, AreReads}
use Rattle.dma_schedule.specs.Zone.{Zone, leaf, scratch, output, source, piece, elsewhere, KeepsTo, AreApart, IsLeafHalf}
use Rattle.dma_schedule.proofs.Places.{zone_of_cell, leaf_zone, leaf_lies, leaf_within}
use Rattle.dma_schedule.proofs.Covers.{leaf_below}
use Rattle.dma_schedule.proofs.Few.{few_none, few_all, few_append, each_across, length_map}
use Rattle.dma_schedule.proofs.Flow.{HasSize}
use Rattle.dma_schedule.specs.Plan.{IsPlanned}
use Rattle.dma_schedule.proofs.Planned.{the_tile, array_of, made_place, zones, sizes, some, room, piece_there, array_inside, array_few, in_array, array_lies, not_own}

-- the zone is a half of a leaf before this one
abbrev pub IsBefore : (count half : ℕ) → Zone → Type 0
IsBefore count half (leaf number other) = (number < count) × (other ≡ half)
IsBefore count half scratch = ⊥
IsBefore count half (output other) = ⊥
IsBefore count half source = ⊥
IsBefore count half (piece t) = ⊥
IsBefore count half elsewhere = ⊥

before_is_half : (count half : ℕ) (z : Zone) → IsBefore count half z → IsLeafHalf half z
before_is_half count half (leaf number other) is = is.1
before_is_half count half scratch is = is
before_is_half count half (output other) is = is
before_is_half count half source is = is
before_is_half count half (piece t) is = is
before_is_half count half elsewhere is = is

before_more : (count half : ℕ) (z : Zone) → IsBefore count half z → IsBefore (suc count) half z
before_more count half (leaf number other) is = (omega (arith, is.0), is.1)
before_more count half scratch is = is
before_more count half (output other) is = is
before_more count half source is = is
before_more count half (piece t) is = is
before_more count half elsewhere is = is

-- a read writes no memory
no_memory : (issue : Issue) (p : ℕ) → is_of ReadChannel issue ≡ true → Writes issue (in_memory p) → ⊥
no_memory (Read work) p is written = written
no_memory issue p is written = cc

pub both_counts : (a b : ℕ) → 1 ≤ a → 1 ≤ b → (nat_lt 0 a && nat_lt 0 b) ≡ true
both_counts a b some more = ap (λ x. x && nat_lt 0 b) (lt-ltb 0 a some) ∙ lt-ltb 0 b more

pub wider : {zone : Place → Zone} {size : Size} {unit : Unit} {tag : ℕ} {R W W' : Zone → Type 0} → ((z : Zone) → W z → W' z) → (issue : Issue) → KeepsTo zone size unit tag R W issue → KeepsTo zone size unit tag R W' issue
wider more issue keeps = record { of_unit = keeps.of_unit; tag_is = keeps.tag_is; counts = keeps.counts; in_range = keeps.in_range; reads = keeps.reads; writes = λ at written. more _ (keeps.writes at written) }

module _ (arrays : List ArrayPlace) (memory : ℕ) (later : List ℕ) (spad : ℕ) (pass : Pass) (given : IsPlanned arrays memory later spad pass) where
  abbrev tile : Tile
  tile = the_tile arrays memory later spad pass given

  abbrev Z : Place → Zone
  Z = zones arrays memory later spad pass given

  abbrev A : (k : ℕ) → ArrayPlace
  A = array_of arrays memory later spad pass given

  -- ---- a leaf

  module _ (number t : ℕ) (below : number < length pass.leaves) (within : t < tiles_of pass.domain tile) where
    abbrev the_leaf : Leaf
    the_leaf = leaf_of pass number

    abbrev from : ArrayPlace
    from = A the_leaf.array

    abbrev the_piece : Piece
    the_piece = piece_of pass.domain tile t

    abbrev cell : ℕ
    cell = leaf_cell pass tile number t

    pub sound_leaf : IsSoundLeaf arrays later pass.domain the_leaf
    sound_leaf = given.sound.leaves number no_leaf below

    -- the piece lies in its buffer, and that in the scratchpad
    pub buffer_inside : cell + buffer_bytes pass tile ≤ spad
    buffer_inside =
        let half = mod_below t 2 (omega arith) in
        let rooms = room arrays memory later spad pass given in
        let all : (number * 2 + t % 2 + 1) * buffer_bytes pass tile ≤ (2 * length pass.leaves) * buffer_bytes pass tile = mul-le-mul_right (buffer_bytes pass tile) (omega arith) in
        omega arith

    pub piece_fits : the_piece.h * the_piece.w * size_of the_leaf.elem ≤ buffer_bytes pass tile
    piece_fits =
        let area : the_piece.h * the_piece.w ≤ tile.h * tile.w = mul-le the_piece.h the_piece.w tile.h tile.w (omega arith) (omega arith) in
        mul-le (the_piece.h * the_piece.w) (size_of the_leaf.elem) (tile.h * tile.w) (widest_in pass) area (leaf_within pass tile 0 number below)

    pub can : CanRead the_leaf from the_piece cell
    can = record {
      fits = sound_leaf.fits;
      inside = subst (λ shape. IsPieceOf shape the_piece) (sym sound_leaf.gives) (piece_there arrays memory later spad pass given t within);
      elem_is = sound_leaf.elem_is;
      as_many = sound_leaf.as_many;
      in_memory = array_few arrays memory later spad pass given the_leaf.array sound_leaf.known;
      in_cells = omega (arith, buffer_inside, piece_fits, given.few);
    }

    abbrev commands : List DmaWork
    commands = (leaf_segments arrays pass tile number t).commands

    abbrev fills : List Fill
    fills = (leaf_segments arrays pass tile number t).fills

    abbrev works : List DmaWork
    works = map (with_tag (leaf_half t)) commands

    pub put_plain : PutPiece the_leaf from the_piece cell commands fills
    put_plain = is_put the_leaf from the_piece cell can sound_leaf.shaped commands fills refl refl

    put : PutPiece the_leaf from the_piece cell works fills
    put = tagged_put the_leaf from the_piece cell commands fills put_plain (leaf_half t)

    reads_are : leaf_reads arrays pass tile number t ≡ map (λ work. Read work) works
    reads_are = sym (map-map (λ work. Read work) (with_tag (leaf_half t)) commands)

    -- what holds of each of the works holds of each of the reads
    each_read : (P : Issue → Type 0) → Each (λ work. P (Read work)) works → Each P (leaf_reads arrays pass tile number t)
    each_read P each = subst (Each P) (sym reads_are) (each_map (λ work. Read work) P works each)

    by_place : (P : DmaWork → Type 0) → ((work : DmaWork) → Contains works work → (k : ℕ) → (k < length works) → (work ≡ get_or works k work) → P work) → Each P works
    by_place P h = each_all P works (λ k d k_within. let c = Contains-get_or works k d k_within in h (get_or works k d) c c.0 c.1 (sym c.2))

    leaf_place : (work : DmaWork) → Contains works work → (p : ℕ) → Covers (cells_of work) p → IsLeafPlace pass tile number t p
    leaf_place work among p covers =
        (leaf_cells pass tile number t below p).0 ((command_cells the_leaf from the_piece cell works fills put p).0 (among.0, work, among.1, among.2, covers))

    abbrev Taken : DmaWork → Type 0
    Taken work = (p : ℕ) → Covers (memory_of work) p → IsArrayPlace from (elements_of from.shape) p

    tags : Each (λ work. work.tag ≡ leaf_half t) works
    tags = each_map (with_tag (leaf_half t)) (λ work. work.tag ≡ leaf_half t) commands (go commands)
      where
        go : (xs : List DmaWork) → Each (λ (work : DmaWork). leaf_half t ≡ leaf_half t) xs
        go [] = tt
        go (x ∷ xs) = (refl, go xs)

    abbrev pub LeafKeeps : Issue → Type 0
    LeafKeeps = KeepsTo Z (sizes arrays memory later spad pass given) ReadChannel (leaf_half t) (λ z. z ≡ source) (λ z. z ≡ leaf number (leaf_half t))

    pub leaf_keeps : Each LeafKeeps (leaf_reads arrays pass tile number t)
    leaf_keeps = each_read LeafKeeps (by_place (λ work. LeafKeeps (Read work)) (λ work among k k_within is.
        let tag : work.tag ≡ leaf_half t = subst (λ (w : DmaWork). w.tag ≡ leaf_half t) (sym is) (all_each (λ work. work.tag ≡ leaf_half t) works tags k work k_within) in
        let read : IsRead the_leaf from the_piece cell work = subst (IsRead the_leaf from the_piece cell) (sym is) (put.are_reads k work k_within) in
        let takes : Taken work = subst Taken (sym is) (command_places the_leaf from the_piece cell works fills put sound_leaf.elem_is k work k_within) in
        record {
          of_unit = refl;
          tag_is = tag;
          counts = both_counts work.rows work.bytes read.some_rows read.some_bytes;
          in_range = record { has_reads = read_inside work takes; has_writes = written_inside work among };
          reads = read_lies work takes;
          writes = written_lies work among;
        }))
      where
        read_inside : (work : DmaWork) → Taken work → (place : Place) → Reads (Read work) place → HasPlace (sizes arrays memory later spad pass given) place
        read_inside work takes (in_cells p) none = absurd none
        read_inside work takes (in_memory p) covers =
            omega (arith, (in_array arrays memory later spad pass given from p (takes p covers)).1, array_inside arrays memory later spad pass given the_leaf.array sound_leaf.known)

        written_inside : (work : DmaWork) → Contains works work → (place : Place) → Writes (Read work) place → HasPlace (sizes arrays memory later spad pass given) place
        written_inside work among (in_cells p) covers = leaf_below pass tile spad (room arrays memory later spad pass given) number t p (leaf_place work among p covers)
        written_inside work among (in_memory p) none = absurd none

        read_lies : (work : DmaWork) → Taken work → (place : Place) → Reads (Read work) place → Z place ≡ source
        read_lies work takes (in_cells p) none = absurd none
        read_lies work takes (in_memory p) covers =
            array_lies arrays memory later spad pass given the_leaf.array p sound_leaf.known (not_own arrays memory later spad pass given the_leaf.array sound_leaf.ready) (takes p covers)

        written_lies : (work : DmaWork) → Contains works work → (place : Place) → Writes (Read work) place → Z place ≡ leaf number (leaf_half t)
        written_lies work among (in_cells p) covers = leaf_lies pass tile (made_place arrays memory later spad pass given) number t p (leaf_place work among p covers)
        written_lies work among (in_memory p) none = absurd none

    -- ---- their form

    pub leaf_tagged : Each (IsTaggedRead (leaf_half t)) (leaf_reads arrays pass tile number t)
    leaf_tagged = each_read (IsTaggedRead (leaf_half t)) (by_place (λ work. IsTaggedRead (leaf_half t) (Read work)) (λ work among k k_within is. (
      work,
      refl,
      subst (λ (w : DmaWork). w.tag ≡ leaf_half t) (sym is) (all_each (λ work. work.tag ≡ leaf_half t) works tags k work k_within),
      elements_apart (cells_of work) (subst (λ w. HasRowsApart (cells_of w)) (sym is) ((commands_once the_leaf from the_piece cell works fills put).0 k work k_within)),
    )))

    pub leaf_only : Each (λ issue. (p : ℕ) → Writes issue (in_cells p) → (k : ℕ) × IsLeafPlace pass tile k t p) (leaf_reads arrays pass tile number t)
    leaf_only = each_read (λ issue. (p : ℕ) → Writes issue (in_cells p) → (k : ℕ) × IsLeafPlace pass tile k t p)
        (by_place (λ work. (p : ℕ) → Writes (Read work) (in_cells p) → (k : ℕ) × IsLeafPlace pass tile k t p) (λ work among k k_within is p covers. (number, leaf_place work among p covers)))

    pub leaf_each : (p : ℕ) → IsLeafPlace pass tile number t p → AtLeastOne (λ issue. Writes issue (in_cells p)) (leaf_reads arrays pass tile number t)
    leaf_each p stands = subst (AtLeastOne (λ issue. Writes issue (in_cells p))) (sym reads_are)
        (one_map (λ work. Read work) (λ issue. Writes issue (in_cells p)) works
        (one_any (λ work. Covers (cells_of work) p) works ((command_cells the_leaf from the_piece cell works fills put p).1 ((leaf_cells pass tile number t below p).1 stands))))

    pub leaf_once : EachPair WriteApart (leaf_reads arrays pass tile number t)
    leaf_once = subst (EachPair WriteApart) (sym reads_are)
        (pairs_map (λ work. Read work) WriteApart works (pairs_all (λ a b. IsApartFrom (cells_of a) (cells_of b)) works (commands_once the_leaf from the_piece cell works fills put).1))

    pub leaf_few : length (leaf_reads arrays pass tile number t) ≤ moves the_leaf.map the_piece
    leaf_few = omega (arith, length_map (λ (work : DmaWork). Read (with_tag (leaf_half t) work)) commands, is_few the_leaf from the_piece cell can sound_leaf.shaped commands fills refl refl)

    -- ---- what they bring

    pub leaf_brings : (values : Arrays) (lanes : ℕ) (store : Store) → HasSize (sizes arrays memory later spad pass given) store → IsArrayOf from (values the_leaf.array) → HasArray from (values the_leaf.array) store
        → (p byte : ℕ) → IsLeafByte pass tile values number t p byte → HasByte (sequential (leaf_reads arrays pass tile number t) lanes store) (in_cells p) byte
    leaf_brings values lanes store has are there p byte shown =
        let same : the_piece.h * the_piece.w * size_of from.elem ≡ the_piece.h * the_piece.w * size_of the_leaf.elem = ap (λ e. the_piece.h * the_piece.w * size_of e) sound_leaf.elem_is in
        subst (λ issues. HasByte (sequential issues lanes store) (in_cells p) byte) (sym reads_are)
        (reads_show pass tile number t below from values works fills lanes store sound_leaf.elem_is are.as_many put
        (record {
          in_memory = omega (arith, array_inside arrays memory later spad pass given the_leaf.array sound_leaf.known, has.memory);
          in_cells = omega (arith, buffer_inside, piece_fits, has.cells, same);
        })
        there p byte shown)

  -- ---- the first leaves

  abbrev pub Keeps : (count t : ℕ) → Issue → Type 0
  Keeps count t = KeepsTo Z (sizes arrays memory later spad pass given) ReadChannel (leaf_half t) (λ z. z ≡ source) (IsBefore count (leaf_half t))

  new_is_before : (number half : ℕ) (z : Zone) → z ≡ leaf number half → IsBefore (suc number) half z
  new_is_before number half z is = subst (IsBefore (suc number) half) (sym is) (omega arith, refl)

  pub reads_keep : (count t : ℕ) → count ≤ length pass.leaves → t < tiles_of pass.domain tile → Each (Keeps count t) (tile_reads arrays pass tile count t)
  reads_keep zero t few within = tt
  reads_keep (suc number) t few within =
      each_append (Keeps (suc number) t) (tile_reads arrays pass tile number t) (leaf_reads arrays pass tile number t)
      (each_weaker (Keeps number t) (Keeps (suc number) t) (wider (before_more number (leaf_half t))) (tile_reads arrays pass tile number t) (reads_keep number t (omega arith) within))
      (each_weaker (LeafKeeps number t (omega arith) within) (Keeps (suc number) t) (wider (new_is_before number (leaf_half t))) (leaf_reads arrays pass tile number t) (leaf_keeps number t (omega arith) within))

  reads_tagged : (count t : ℕ) → count ≤ length pass.leaves → t < tiles_of pass.domain tile → Each (IsTaggedRead (leaf_half t)) (tile_reads arrays pass tile count t)
  reads_tagged zero t few within = tt
  reads_tagged (suc number) t few within =
      each_append (IsTaggedRead (leaf_half t)) (tile_reads arrays pass tile number t) (leaf_reads arrays pass tile number t) (reads_tagged number t (omega arith) within) (leaf_tagged number t (omega arith) within)

  abbrev Only : (t : ℕ) → Issue → Type 0
  Only t issue = (p : ℕ) → Writes issue (in_cells p) → (k : ℕ) × IsLeafPlace pass tile k t p

  reads_only : (count t : ℕ) → count ≤ length pass.leaves → t < tiles_of pass.domain tile → Each (Only t) (tile_reads arrays pass tile count t)
  reads_only zero t few within = tt
  reads_only (suc number) t few within =
      each_append (Only t) (tile_reads arrays pass tile number t) (leaf_reads arrays pass tile number t) (reads_only number t (omega arith) within) (leaf_only number t (omega arith) within)

  reads_each : (count t number p : ℕ) → count ≤ length pass.leaves → number < count → t < tiles_of pass.domain tile → IsLeafPlace pass tile number t p → AtLeastOne (λ issue. Writes issue (in_cells p)) (tile_reads arrays pass tile count t)
  reads_each zero t number p few below within stands = absurd (omega (arith, below))
  reads_each (suc last) t number p few below within stands =
      let cases : (number < last) ⊎ (number ≡ last) = grind (arith, below) in
      elim cases [
        | inl old ↦ one_left (λ issue. Writes issue (in_cells p)) (tile_reads arrays pass tile last t) (leaf_reads arrays pass tile last t) (reads_each last t number p (omega arith) old within stands)
        | inr new ↦ one_right (λ issue. Writes issue (in_cells p)) (tile_reads arrays pass tile last t) (leaf_reads arrays pass tile last t) (leaf_each last t (omega arith) within p (subst (λ n. IsLeafPlace pass tile n t p) new stands))
      ]

  not_new : (number half : ℕ) (z : Zone) → IsBefore number half z → z ≡ leaf number half → ⊥
  not_new number half z before is = let both = subst (IsBefore number half) is before in omega (arith, both.0)

  reads_once : (count t : ℕ) → count ≤ length pass.leaves → t < tiles_of pass.domain tile → EachPair WriteApart (tile_reads arrays pass tile count t)
  reads_once zero t few within = tt
  reads_once (suc number) t few within =
      pairs_append WriteApart (tile_reads arrays pass tile number t) (leaf_reads arrays pass tile number t) (reads_once number t (omega arith) within) (leaf_once number t (omega arith) within)
      (each_across (Keeps number t) (LeafKeeps number t (omega arith) within) WriteApart
      (λ first second mine theirs p written also. not_new number (leaf_half t) (Z (in_cells p)) (mine.writes (in_cells p) written) (theirs.writes (in_cells p) also))
      (tile_reads arrays pass tile number t) (leaf_reads arrays pass tile number t) (reads_keep number t (omega arith) within) (leaf_keeps number t (omega arith) within))

  -- a read that keeps to the halves of other leaves doesn't write this one's
  half_is : (number t o : ℕ) → number < length pass.leaves → o < buffer_bytes pass tile → Z (in_cells (cell_of pass tile (leaf_buffer pass tile number (leaf_half t)) o)) ≡ leaf number (leaf_half t)
  half_is number t o below o_within =
      zone_of_cell pass tile (made_place arrays memory later spad pass given) (leaf_buffer pass tile number (leaf_half t)) o o_within
      ∙ leaf_zone pass tile (made_place arrays memory later spad pass given) number (leaf_half t) below (mod_below t 2 (omega arith))

  not_written : (count number t : ℕ) → number < length pass.leaves → count ≤ number → (issue : Issue) → Keeps count t issue → ¬ WritesHalf pass tile 0 number t issue
  not_written count number t below after issue keeps written =
      let lies = subst (IsBefore count (leaf_half t)) (half_is number t written.0 below written.1) (keeps.writes (in_cells (cell_of pass tile (leaf_buffer pass tile number (leaf_half t)) written.0)) written.2) in
      omega (arith, after, lies.0)

  not_of_leaf : (other number t : ℕ) (other_below : other < length pass.leaves) (within : t < tiles_of pass.domain tile) → number < length pass.leaves → number < other → (issue : Issue) → LeafKeeps other t other_below within issue
      → ¬ WritesHalf pass tile 0 number t issue
  not_of_leaf other number t other_below within below before issue keeps written =
      let is : Z (in_cells (cell_of pass tile (leaf_buffer pass tile number (leaf_half t)) written.0)) ≡ leaf other (leaf_half t) = keeps.writes _ written.2 in
      let same : leaf number (leaf_half t) ≡ leaf other (leaf_half t) = sym (half_is number t written.0 below written.1) ∙ is in
      numbers_differ number other (leaf_half t) before same
    where
      numbers_differ : (number other half : ℕ) → number < other → leaf number half ≡ leaf other half → ⊥
      numbers_differ number other half before same = let e : number ≡ other = cc in omega arith

  reads_few : (count number t : ℕ) → count ≤ length pass.leaves → number < count → t < tiles_of pass.domain tile
      → HasAtMost (WritesHalf pass tile 0 number t) (tile_reads arrays pass tile count t) (moves (leaf_of pass number).map (piece_of pass.domain tile t))
  reads_few zero number t few below within = absurd (omega (arith, below))
  reads_few (suc last) number t few below within =
      let most = moves (leaf_of pass number).map (piece_of pass.domain tile t) in
      let Is : Issue → Type 0 = WritesHalf pass tile 0 number t in
      let one = tile_reads arrays pass tile last t in
      let other = leaf_reads arrays pass tile last t in
      let cases : (number < last) ⊎ (number ≡ last) = grind (arith, below) in
      let more : most + 0 ≡ most = omega arith in
      let none : 0 + most ≡ most = omega arith in
      elim cases [
        | inl old ↦ subst (HasAtMost Is (one ++ other)) more
            (few_append Is one other most 0 (reads_few last number t (omega arith) old within)
            (few_none Is other 0 (each_weaker (LeafKeeps last t (omega arith) within) (λ issue. ¬ Is issue) (not_of_leaf last number t (omega arith) within (omega arith) old) other (leaf_keeps last t (omega arith) within))))
        | inr new ↦ subst (HasAtMost Is (one ++ other)) none
            (few_append Is one other 0 most
            (few_none Is one 0 (each_weaker (Keeps last t) (λ issue. ¬ Is issue) (not_written last number t (omega arith) (omega arith)) one (reads_keep last t (omega arith) within)))
            (few_all Is other most (subst (λ n. length other ≤ moves (leaf_of pass n).map (piece_of pass.domain tile t)) (sym new) (leaf_few last t (omega arith) within))))
      ]

  -- the tile's reads
  pub are_reads : (t place : ℕ) → t < tiles_of pass.domain tile → AreReads pass tile place t (tile_reads arrays pass tile (length pass.leaves) t)
  are_reads t place within =
      let all = tile_reads arrays pass tile (length pass.leaves) t in
      record {
        are_reads = all_each (IsTaggedRead (leaf_half t)) all (reads_tagged (length pass.leaves) t (omega arith) within);
        few = λ number below. reads_few (length pass.leaves) number t (omega arith) below within;
        only = all_each (Only t) all (reads_only (length pass.leaves) t (omega arith) within);
        each = λ number p stands. any_one (λ issue. Writes issue (in_cells p)) all (reads_each (length pass.leaves) t number p (omega arith) stands.number_within within stands);
        once = all_pairs WriteApart all (reads_once (length pass.leaves) t (omega arith) within);
      }

  -- ---- they don't conflict, and leave their pieces

  apart_reads : (count t : ℕ) (block : List Issue) → Each (Keeps count t) block → EachPair WriteApart block → AreApart block
  apart_reads count t [] keeps once = tt
  apart_reads count t (issue ∷ block) keeps once = (all_each (λ later. ¬ Conflicts issue later) block (go block keeps.1 once.0), apart_reads count t block keeps.1 once.1)
    where
      differ : (other : Issue) → Keeps count t other → WriteApart issue other → ¬ Conflicts issue other
      differ other theirs once (writes_what_is_read place written read) = subst (IsBefore count (leaf_half t)) (theirs.reads place read) (keeps.0.writes place written)
      differ other theirs once (reads_what_is_written place read written) = subst (IsBefore count (leaf_half t)) (keeps.0.reads place read) (theirs.writes place written)
      differ other theirs once (both_write (in_cells p) written also) = once p written also
      differ other theirs once (both_write (in_memory p) written also) = no_memory issue p keeps.0.of_unit written

      go : (rest : List Issue) → Each (Keeps count t) rest → Each (WriteApart issue) rest → Each (λ later. ¬ Conflicts issue later) rest
      go [] keeps once = tt
      go (other ∷ rest) keeps once = (differ other keeps.0 once.0, go rest keeps.1 once.1)

  pub reads_in_zones : (t : ℕ) → t < tiles_of pass.domain tile
      → All (KeepsTo Z (sizes arrays memory later spad pass given) ReadChannel (leaf_half t) (λ z. z ≡ source) (IsLeafHalf (leaf_half t))) (tile_reads arrays pass tile (length pass.leaves) t)
      × AreApart (tile_reads arrays pass tile (length pass.leaves) t)
  reads_in_zones t within =
      let count = length pass.leaves in
      let all = tile_reads arrays pass tile count t in
      let Half : Issue → Type 0 = KeepsTo Z (sizes arrays memory later spad pass given) ReadChannel (leaf_half t) (λ z. z ≡ source) (IsLeafHalf (leaf_half t)) in
      let keeps = reads_keep count t (omega arith) within in (
        all_each Half all (each_weaker (Keeps count t) Half (wider (before_is_half count (leaf_half t))) all keeps),
        apart_reads count t all keeps (reads_once count t (omega arith) within),
      )
