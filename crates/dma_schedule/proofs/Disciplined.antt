-- A pipelined list meets no work in flight that it conflicts with.
use Rattle.std.proofs.Common.{◌≡◌, ◌⊎◌, inl, inr, ℕ, zero, suc, ◌+◌, ◌<◌, ◌≤◌, sym, refl, subst, ap, ◌∙◌, arith, List, [], ◌∷◌, All, Bool, true, false, cond, nat_lt}
use Rattle.std.specs.Prelude.{◌==◌}
use Rattle.std.proofs.lemmas.Bool.{ltb-true, eq-eqb}
use Rattle.std.proofs.lemmas.List.Elements.{All-head, All-tail, All-weaker}
use Rattle.ven_base.specs.Store.{Place, Size}
use Rattle.venice_isa.specs.declared.instr.Version.TheVariants.{Two}
use Rattle.venice_isa.specs.declared.issue.Issue.{Issue}
use Rattle.venice_isa.specs.declared.issue.Issue.TheVariants.{Vector, Read, Write, RWait, WWait, VWait, TWait}
use Rattle.venice_isa.specs.Footprint.{Conflicts, writes_what_is_read, reads_what_is_written, both_write}
use Rattle.venice_isa.specs.Units.{Unit, Lanes, ReadChannel, WriteChannel, is_of, is_work, overtakes, keep_their_order}
use Rattle.dma_schedule.specs.Blocks.{Blocks, leaf_half, row_half, write_tag, next_reads, tile_step, tile_steps, pass_list}
use Rattle.dma_schedule.specs.Zone.{Zone, leaf, scratch, output, source, piece, elsewhere, tag_of, KeepsTo, AreApart, IsLeafHalf, IsComputed, IsRead, IsCompute, IsWrite, KeepToZones}
use Rattle.dma_schedule.proofs.Flights.{ends_work, Guards, guards_append, guards_weaker, guards_none, guards_wait, guards_works, MayMeet, MeetNone, unit_works}

-- ---- works of different zones don't conflict

module _ (zone : Place → Zone) (size : Size) where
  pub apart : (unit other : Unit) (tag tag' : ℕ) (R W R' W' : Zone → Type 0) (i j : Issue) → KeepsTo zone size unit tag R W i → KeepsTo zone size other tag' R' W' j
      → ((z : Zone) → W z → R' z → ⊥) → ((z : Zone) → R z → W' z → ⊥) → ((z : Zone) → W z → W' z → ⊥) → ¬ Conflicts i j
  apart unit other tag tag' R W R' W' i j mine theirs wr rw ww (writes_what_is_read place w r) = wr (zone place) (mine.writes place w) (theirs.reads place r)
  apart unit other tag tag' R W R' W' i j mine theirs wr rw ww (reads_what_is_written place r w) = rw (zone place) (mine.reads place r) (theirs.writes place w)
  apart unit other tag tag' R W R' W' i j mine theirs wr rw ww (both_write place v w) = ww (zone place) (mine.writes place v) (theirs.writes place w)

  keeps_work : (unit : Unit) (tag : ℕ) (R W : Zone → Type 0) (i : Issue) → KeepsTo zone size unit tag R W i → is_work i ≡ true
  keeps_work unit tag R W i keeps = unit_works unit i keeps.of_unit

-- a transfer is ended by a wait for its tag, and all of them by a wait for none
ended_by_tag : (unit : Unit) (tag : ℕ) (work : Issue) → overtakes Two unit ≡ true → is_of unit work ≡ true → ends_work (TWait tag) work ≡ (tag_of work == tag)
ended_by_tag ReadChannel tag (Read w) over is = refl
ended_by_tag WriteChannel tag (Write w) over is = refl
ended_by_tag unit tag work over is = cc

read_ended : (work : Issue) → is_of ReadChannel work ≡ true → ends_work (RWait 0) work ≡ true
read_ended (Read w) is = refl
read_ended work is = cc

write_ended : (work : Issue) → is_of WriteChannel work ≡ true → ends_work (WWait 0) work ≡ true
write_ended (Write w) is = refl
write_ended work is = cc

vector_ended : (work : Issue) → is_of Lanes work ≡ true → ends_work VWait work ≡ true
vector_ended (Vector w) is = refl
vector_ended work is = cc

in_order : (first second : Issue) → is_of Lanes first ≡ true → is_of Lanes second ≡ true → keep_their_order Two first second ≡ true
in_order (Vector v) (Vector w) mine theirs = refl
in_order first second mine theirs = cc

halves_differ : (t : ℕ) → leaf_half t ≡ leaf_half (t + 1) → ⊥
halves_differ t same = omega arith

apart_meet : (block : List Issue) → AreApart block → MeetNone block
apart_meet [] a = tt
apart_meet (work ∷ block) a = (All-weaker (λ later. ¬ Conflicts work later) (λ later. MayMeet later work) (λ later none order. none) block a.0, apart_meet block a.1)

module _ (zone : Place → Zone) (size : Size) (blocks : Blocks) (keep : KeepToZones zone size blocks) where
  Reading : ℕ → Issue → Type 0
  Reading t = IsRead zone size blocks t

  Writing : ℕ → Issue → Type 0
  Writing t = IsWrite zone size blocks t

  Computing : ℕ → Issue → Type 0
  Computing t = IsCompute zone size blocks t

  -- ---- what may be in flight

  -- where tile t begins: its own reads, and writes of earlier tiles
  pub At : ℕ → Issue → Type 0
  unfolding Reading Writing
  At t w = Reading t w ⊎ ((u : ℕ) × (u < t) × Writing u w)

  -- then the next tile's reads too
  Ahead : ℕ → Issue → Type 0
  Ahead t w = At t w ⊎ Reading (t + 1) w

  -- after the wait for its reads
  Ready : ℕ → Issue → Type 0
  Ready t w = Reading (t + 1) w ⊎ ((u : ℕ) × (u < t) × Writing u w)

  -- after the wait for the output half
  Free : ℕ → Issue → Type 0
  Free t w = Reading (t + 1) w ⊎ ((u : ℕ) × (u < t) × (row_half blocks u ≡ row_half blocks t → ⊥) × Writing u w)

  -- ---- block by block

  reads_are : (t : ℕ) → t < blocks.tiles → (P : Issue → Type 0) → ((w i : Issue) → P w → Reading t i → MayMeet i w) → Guards P (blocks.reads t) (λ w. P w ⊎ Reading t w)
  unfolding Reading
  reads_are t within P meets =
      guards_works P (Reading t) (blocks.reads t) (λ w k. keeps_work zone size ReadChannel (leaf_half t) _ _ w k) (keep.reads t within).0 (apart_meet (blocks.reads t) (keep.reads t within).1) meets

  next_meets : (t : ℕ) (w i : Issue) → At t w → Reading (t + 1) i → MayMeet i w
  unfolding Reading Writing At
  next_meets t w i at reading order =
      elim at [
        | inl read ↦ apart zone size ReadChannel ReadChannel (leaf_half t) (leaf_half (t + 1)) (λ z. z ≡ source) (IsLeafHalf (leaf_half t)) (λ z. z ≡ source) (IsLeafHalf (leaf_half (t + 1))) w i read reading
            (λ z a b. subst (IsLeafHalf (leaf_half t)) b a) (λ z a b. subst (IsLeafHalf (leaf_half (t + 1))) a b) (λ z a b. one_half z a b)
        | inr wrote ↦ apart zone size WriteChannel ReadChannel (write_tag (row_half blocks wrote.0)) (leaf_half (t + 1)) (λ z. z ≡ output (row_half blocks wrote.0)) (λ z. z ≡ piece wrote.0) (λ z. z ≡ source) (IsLeafHalf (leaf_half (t + 1))) w i wrote.2 reading
            (λ z a b. cc) (λ z a b. subst (IsLeafHalf (leaf_half (t + 1))) a b) (λ z a b. subst (IsLeafHalf (leaf_half (t + 1))) a b)
      ]
    where
      one_half : (z : Zone) → IsLeafHalf (leaf_half t) z → IsLeafHalf (leaf_half (t + 1)) z → ⊥
      one_half (leaf number h) a b = halves_differ t (sym a ∙ b)
      one_half scratch a b = a
      one_half (output h) a b = a
      one_half source a b = a
      one_half (piece u) a b = a
      one_half elsewhere a b = a

  guard_next : (t : ℕ) → Guards (At t) (next_reads blocks t) (Ahead t)
  unfolding Ahead
  guard_next t = go (nat_lt (t + 1) blocks.tiles) refl
    where
      go : (more : Bool) → nat_lt (t + 1) blocks.tiles ≡ more → Guards (At t) (cond more (blocks.reads (t + 1)) []) (λ w. At t w ⊎ Reading (t + 1) w)
      go true e = reads_are (t + 1) (ltb-true (t + 1) blocks.tiles e) (At t) (next_meets t)
      go false e = guards_weaker guards_none (λ w at. inl at)

  clash : (a b : Bool) → a ≡ true → b ≡ false → a ≡ b → ⊥
  clash a b x y z = cc

  guard_leaves : (t : ℕ) → Guards (Ahead t) (TWait (leaf_half t) ∷ []) (Ready t)
  unfolding Reading Writing At Ahead Ready
  guard_leaves t = guards_weaker (guards_wait (Ahead t) (TWait (leaf_half t)) refl) left
    where
      left : (w : Issue) → Ahead t w × (ends_work (TWait (leaf_half t)) w ≡ false) → Ready t w
      left w both = elim both.0 [
        | inl at ↦ elim at [
          | inl read ↦
              absurd (clash (tag_of w == leaf_half t) (ends_work (TWait (leaf_half t)) w) (eq-eqb (tag_of w) (leaf_half t) read.tag_is) both.1 (sym (ended_by_tag ReadChannel (leaf_half t) w refl read.of_unit)))
          | inr wrote ↦ inr wrote
        ]
        | inr next ↦ inl next
      ]

  guard_output : (t : ℕ) → Guards (Ready t) (TWait (write_tag (row_half blocks t)) ∷ []) (Free t)
  unfolding Reading Writing Ready Free
  guard_output t = guards_weaker (guards_wait (Ready t) (TWait (write_tag (row_half blocks t))) refl) left
    where
      left : (w : Issue) → Ready t w × (ends_work (TWait (write_tag (row_half blocks t))) w ≡ false) → Free t w
      left w both = elim both.0 [
        | inl next ↦ inl next
        | inr wrote ↦
            inr (
              wrote.0,
              wrote.1,
              (λ same. clash (tag_of w == write_tag (row_half blocks t)) (ends_work (TWait (write_tag (row_half blocks t))) w)
                  (eq-eqb (tag_of w) (write_tag (row_half blocks t)) (wrote.2.tag_is ∙ ap write_tag same)) both.1
                  (sym (ended_by_tag WriteChannel (write_tag (row_half blocks t)) w refl wrote.2.of_unit))),
              wrote.2,
            )
      ]

  other_half : (t : ℕ) (z : Zone) → IsLeafHalf (leaf_half (t + 1)) z → IsComputed blocks t z → ⊥
  other_half t (leaf number h) a b = halves_differ t (sym b ∙ a)
  other_half t scratch a b = a
  other_half t (output h) a b = a
  other_half t source a b = a
  other_half t (piece u) a b = a
  other_half t elsewhere a b = a

  compute_meets : (t : ℕ) (w i : Issue) → Free t w → Computing t i → MayMeet i w
  unfolding Reading Writing Computing Free
  compute_meets t w i free computing order =
      elim free [
        | inl read ↦ apart zone size ReadChannel Lanes (leaf_half (t + 1)) 0 (λ z. z ≡ source) (IsLeafHalf (leaf_half (t + 1))) (IsComputed blocks t) (IsComputed blocks t) w i read computing
            (other_half t)
            (λ z a b. subst (IsComputed blocks t) a b)
            (other_half t)
        | inr wrote ↦ apart zone size WriteChannel Lanes (write_tag (row_half blocks wrote.0)) 0 (λ z. z ≡ output (row_half blocks wrote.0)) (λ z. z ≡ piece wrote.0) (IsComputed blocks t) (IsComputed blocks t) w i wrote.3 computing
            (λ z a b. subst (IsComputed blocks t) a b)
            (λ z a b. wrote.2 (subst (IsComputed blocks t) a b))
            (λ z a b. subst (IsComputed blocks t) a b)
      ]

  all_in_order : (t : ℕ) (block : List Issue) → All (Computing t) block → MeetNone block
  unfolding Computing
  all_in_order t [] all = tt
  all_in_order t (work ∷ block) all =
      let mine : Computing t work = All-head (Computing t) work block all in (
        All-weaker (Computing t) (λ later. MayMeet later work)
            (λ later theirs order. absurd (clash true false refl refl (sym (in_order work later mine.of_unit theirs.of_unit) ∙ order)))
            block (All-tail (Computing t) work block all),
        all_in_order t block (All-tail (Computing t) work block all),
      )

  guard_compute : (t : ℕ) → t < blocks.tiles → Guards (Free t) (blocks.compute t) (λ w. Free t w ⊎ Computing t w)
  unfolding Computing
  guard_compute t within = guards_works (Free t) (Computing t) (blocks.compute t) (λ w k. keeps_work zone size Lanes 0 _ _ w k) (keep.compute t within) (all_in_order t (blocks.compute t) (keep.compute t within)) (compute_meets t)

  guard_vwait : (t : ℕ) → Guards (λ w. Free t w ⊎ Computing t w) (VWait ∷ []) (Free t)
  unfolding Computing
  guard_vwait t = guards_weaker (guards_wait (λ w. Free t w ⊎ Computing t w) VWait refl)
      (λ w both. elim both.0 [
        | inl free ↦ free
        | inr computing ↦ absurd (clash true false refl refl (sym (vector_ended w computing.of_unit) ∙ both.1))
      ])

  write_meets : (t : ℕ) (w i : Issue) → Free t w → Writing t i → MayMeet i w
  unfolding Reading Writing Free
  write_meets t w i free writing order =
      elim free [
        | inl read ↦ apart zone size ReadChannel WriteChannel (leaf_half (t + 1)) (write_tag (row_half blocks t)) (λ z. z ≡ source) (IsLeafHalf (leaf_half (t + 1))) (λ z. z ≡ output (row_half blocks t)) (λ z. z ≡ piece t) w i read writing
            (λ z a b. subst (IsLeafHalf (leaf_half (t + 1))) b a) (λ z a b. cc) (λ z a b. subst (IsLeafHalf (leaf_half (t + 1))) b a)
        | inr wrote ↦ apart zone size WriteChannel WriteChannel (write_tag (row_half blocks wrote.0)) (write_tag (row_half blocks t)) (λ z. z ≡ output (row_half blocks wrote.0)) (λ z. z ≡ piece wrote.0) (λ z. z ≡ output (row_half blocks t)) (λ z. z ≡ piece t) w i wrote.3 writing
            (λ z a b. cc) (λ z a b. cc) (λ z a b. other_piece wrote.0 t wrote.1 cc)
      ]
    where
      other_piece : (u t : ℕ) → u < t → u ≡ t → ⊥
      other_piece u t before same = omega arith

  guard_writes : (t : ℕ) → t < blocks.tiles → Guards (Free t) (blocks.writes t) (At (t + 1))
  unfolding Reading Writing At Free
  guard_writes t within =
      guards_weaker
      (guards_works (Free t) (Writing t) (blocks.writes t) (λ w k. keeps_work zone size WriteChannel (write_tag (row_half blocks t)) _ _ w k) (keep.writes t within).0 (apart_meet (blocks.writes t) (keep.writes t within).1) (write_meets t))
      (λ w either. elim either [
        | inl free ↦ elim free [ inl read ↦ inl read | inr wrote ↦ inr (wrote.0, omega (arith, wrote.1), wrote.3) ]
        | inr writing ↦ inr (t, omega arith, writing)
      ])

  -- ---- a step, a pass

  guard_step : (t : ℕ) → t < blocks.tiles → Guards (At t) (tile_step blocks t) (At (t + 1))
  guard_step t within =
      guards_append (guard_next t) (guards_append (guard_leaves t) (guards_append (guard_output t) (guards_append (guard_compute t within) (guards_append (guard_vwait t) (guard_writes t within)))))

  guard_steps : (count : ℕ) → count ≤ blocks.tiles → Guards (At 0) (tile_steps blocks count) (At count)
  guard_steps zero within = guards_none
  guard_steps (suc t) within =
      let next : t + 1 ≡ suc t = omega arith in
      guards_append (guard_steps t (omega arith))
      (subst (λ n. Guards (At t) (tile_step blocks t) (At n)) next (guard_step t (omega arith)))

  guard_end : (t : ℕ) → Guards (At t) (RWait 0 ∷ WWait 0 ∷ []) (λ w. ⊥)
  unfolding Reading Writing At
  guard_end t =
      guards_append (guards_wait (At t) (RWait 0) refl)
      (guards_weaker
      (guards_wait (λ w. At t w × (ends_work (RWait 0) w ≡ false)) (WWait 0) refl)
      (λ w all. elim all.0.0 [
        | inl read ↦ clash true false refl refl (sym (read_ended w read.of_unit) ∙ all.0.1)
        | inr wrote ↦ clash true false refl refl (sym (write_ended w wrote.2.of_unit) ∙ all.1)
      ]))

  guard_first : 0 < blocks.tiles → Guards (λ w. ⊥) (blocks.reads 0) (At 0)
  unfolding Reading Writing At
  guard_first some =
      guards_weaker (reads_are 0 some (λ w. ⊥) (λ w i none reading. absurd none))
      (λ w either. elim either [ inl none ↦ absurd none | inr reading ↦ inl reading ])

  pub guard_pass : 0 < blocks.tiles → Guards (λ w. ⊥) (pass_list blocks) (λ w. ⊥)
  guard_pass some = guards_append (guard_first some) (guards_append (guard_steps blocks.tiles (omega arith)) (guard_end blocks.tiles))
