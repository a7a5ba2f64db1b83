-- The tiles of a pass one after another: what is read, computed and written leaves the destination in memory.
use Rattle.std.proofs.Common.{◌≡◌, ◌⊎◌, inl, inr, ℕ, zero, suc, ◌+◌, ◌%◌, ◌<◌, ◌≤◌, sym, refl, subst, ap, ◌∙◌, arith, List, [], ◌∷◌, ◌++◌, All, Bool, true, false, cond, nat_lt, option_map}
use Rattle.std.specs.Prelude.{⊤, ◌==◌}
use Rattle.std.proofs.lemmas.Bool.{ltb-true, ltb-false}
use Rattle.ven_base.specs.Store.{Place, Store, Size}
use Rattle.venice_isa.specs.declared.issue.Issue.{Issue}
use Rattle.venice_isa.specs.declared.issue.Issue.TheVariants.{RWait, WWait, VWait, TWait}
use Rattle.venice_isa.specs.Cell.{byte_of}
use Rattle.venice_isa.specs.Units.{Unit, is_work}
use Rattle.venice_isa.specs.Beat.{after_all_beats, sequential}
use Rattle.dma_segments.specs.Effect.{HasByte}
use Rattle.dma_schedule.specs.Blocks.{Blocks, leaf_half, row_half, write_tag, next_reads, tile_step, tile_steps, pass_list}
use Rattle.dma_schedule.specs.Zone.{Zone, leaf, scratch, output, source, piece, elsewhere, KeepsTo, IsLeafHalf, IsComputed, KeepToZones}
use Rattle.dma_schedule.proofs.Flow.{HasSize, BlockKept, sequential_append, block_kept}

-- ---- pictures: which byte stands at which place

-- the store has each byte at its place
abbrev pub Shows : (Place → ℕ → Type 0) → Store → Type 0
Shows Picture store = (place : Place) (byte : ℕ) → Picture place byte → HasByte store place byte

abbrev pub LiesIn : (Place → Zone) → (Zone → Type 0) → (Place → ℕ → Type 0) → Type 0
LiesIn zone In Picture = (place : Place) (byte : ℕ) → Picture place byte → In (zone place)

-- what the output half holds before a tile: in a later tile of a cut row the results so far
abbrev pub Carried : Blocks → (Results : ℕ → Place → ℕ → Type 0) → (t : ℕ) → Place → ℕ → Type 0
Carried blocks Results zero place byte = ⊥
Carried blocks Results (suc t) place byte = (((suc t % blocks.tiles_per_row) == 0) ≡ false) × Results t place byte

-- the blocks of a pass, which reads what `Sources` shows and makes what `Made` shows
pub record Brings (lanes : ℕ) (size : Size) (zone : Place → Zone) (blocks : Blocks)
    (Sources Made : Place → ℕ → Type 0) (Leaves Results Pieces : ℕ → Place → ℕ → Type 0) : Type 0 where
  pub sources_in : LiesIn zone (λ z. z ≡ source) Sources
  pub leaves_in : (t : ℕ) → LiesIn zone (IsLeafHalf (leaf_half t)) (Leaves t)
  pub results_in : (t : ℕ) → t < blocks.tiles → LiesIn zone (λ z. z ≡ output (row_half blocks t)) (Results t)
  pub pieces_in : (t : ℕ) → t < blocks.tiles → LiesIn zone (λ z. z ≡ piece t) (Pieces t)
  pub some : 0 < blocks.tiles
  pub covers : (place : Place) (byte : ℕ) → Made place byte → (t : ℕ) × (t < blocks.tiles) × Pieces t place byte
  pub reads : (t : ℕ) → t < blocks.tiles → (store : Store) → HasSize size store → Shows Sources store → Shows (Leaves t) (sequential (blocks.reads t) lanes store)
  pub compute : (t : ℕ) → t < blocks.tiles → (store : Store) → HasSize size store → Shows (Leaves t) store → Shows (Carried blocks Results t) store → Shows (Results t) (sequential (blocks.compute t) lanes store)
  pub writes : (t : ℕ) → t < blocks.tiles → (store : Store) → HasSize size store → Shows (Results t) store → Shows (Pieces t) (sequential (blocks.writes t) lanes store)
  pub keep : KeepToZones zone size blocks

-- an output half
abbrev IsOutput : Zone → Type 0
IsOutput (leaf number half) = ⊥
IsOutput scratch = ⊥
IsOutput (output half) = ⊤
IsOutput source = ⊥
IsOutput (piece t) = ⊥
IsOutput elsewhere = ⊥

-- a block takes stores of one kind to stores of another
pub record Leads (lanes : ℕ) (P : Store → Type 0) (block : List Issue) (Q : Store → Type 0) : Type 0 where
  pub leads : (store : Store) → P store → Q (sequential block lanes store)

pub leads_append : {lanes : ℕ} {P Q R : Store → Type 0} {first second : List Issue} → Leads lanes P first Q → Leads lanes Q second R → Leads lanes P (first ++ second) R
leads_append {lanes = lanes} {R = R} {first = first} {second = second} one other = record {
  leads = λ store before. subst R (sym (sequential_append lanes first second store)) (other.leads (sequential first lanes store) (one.leads store before));
}

pub leads_none : {lanes : ℕ} {P : Store → Type 0} → Leads lanes P [] P
leads_none = record { leads = λ store before. before }

does_nothing : (lanes : ℕ) (by : Issue) (store : Store) → is_work by ≡ false → after_all_beats by lanes store ≡ store
unfolding after_all_beats
does_nothing lanes (RWait n) store none = refl
does_nothing lanes (WWait n) store none = refl
does_nothing lanes VWait store none = refl
does_nothing lanes (TWait n) store none = refl
does_nothing lanes by store none = cc

pub leads_wait : {lanes : ℕ} {P : Store → Type 0} (by : Issue) → is_work by ≡ false → Leads lanes P (by ∷ []) P
leads_wait {lanes = lanes} {P = P} by none = record { leads = λ store before. subst P (sym (does_nothing lanes by store none)) before }

module _ (lanes : ℕ) (some : 0 < lanes) (size : Size) (zone : Place → Zone) (blocks : Blocks)
    (Sources Made : Place → ℕ → Type 0) (Leaves Results Pieces : ℕ → Place → ℕ → Type 0)
    (brings : Brings lanes size zone blocks Sources Made Leaves Results Pieces) where
  -- ---- what a block leaves alone

  module _ {unit : Unit} {tag : ℕ} {Read Written : Zone → Type 0} (block : List Issue) (all : All (KeepsTo zone size unit tag Read Written) block) (store : Store) (has : HasSize size store) where
    kept : BlockKept zone size Written store (sequential block lanes store)
    kept = block_kept lanes some block store all has

    shows_kept : (Picture : Place → ℕ → Type 0) (In : Zone → Type 0) → LiesIn zone In Picture → ((z : Zone) → In z → ¬ Written z) → Shows Picture store → Shows Picture (sequential block lanes store)
    shows_kept Picture In lies not_in shows place byte at =
        ap (option_map byte_of) (kept.others place (not_in (zone place) (lies place byte at))) ∙ shows place byte at

    sources_kept : ¬ Written source → Shows Sources store → Shows Sources (sequential block lanes store)
    sources_kept not_in = shows_kept Sources (λ z. z ≡ source) brings.sources_in (λ z e written. not_in (subst Written e written))

    size_stays : HasSize size (sequential block lanes store)
    size_stays = kept.same_size

  -- ---- the moments of a step

  record Rests (t : ℕ) (store : Store) : Type 0 where
    has : HasSize size store
    there : Shows Sources store
    written : (u : ℕ) → u < t → u < blocks.tiles → Shows (Pieces u) store

  -- tile t begins
  record At (t : ℕ) (store : Store) : Type 0 where
    rests : Rests t store
    leaf_bytes : t < blocks.tiles → Shows (Leaves t) store
    so_far : Shows (Carried blocks Results t) store

  -- the next one's leaves are there too
  record Ahead (t : ℕ) (store : Store) : Type 0 where
    at : At t store
    next : t + 1 < blocks.tiles → Shows (Leaves (t + 1)) store

  -- tile t is computed
  record Computed (t : ℕ) (store : Store) : Type 0 where
    rests : Rests t store
    next : t + 1 < blocks.tiles → Shows (Leaves (t + 1)) store
    results : Shows (Results t) store

  -- ---- where pictures lie

  carried_in : (t : ℕ) → t < blocks.tiles → LiesIn zone IsOutput (Carried blocks Results t)
  carried_in zero within place byte at = absurd at
  carried_in (suc t) within place byte at = subst IsOutput (sym (brings.results_in t (omega arith) place byte at.1)) tt

  halves_differ : (t : ℕ) → leaf_half (t + 1) ≡ leaf_half t → ⊥
  halves_differ t same = omega arith

  other_leaves : (t : ℕ) (z : Zone) → IsLeafHalf (leaf_half t) z → IsLeafHalf (leaf_half (t + 1)) z → ⊥
  other_leaves t (leaf number h) a b = halves_differ t (sym b ∙ a)
  other_leaves t scratch a b = a
  other_leaves t (output h) a b = a
  other_leaves t source a b = a
  other_leaves t (piece u) a b = a
  other_leaves t elsewhere a b = a

  not_computed : (t : ℕ) (z : Zone) → IsLeafHalf (leaf_half (t + 1)) z → IsComputed blocks t z → ⊥
  not_computed t (leaf number h) a b = halves_differ t (sym a ∙ b)
  not_computed t scratch a b = a
  not_computed t (output h) a b = a
  not_computed t source a b = a
  not_computed t (piece u) a b = a
  not_computed t elsewhere a b = a

  not_piece : (u : ℕ) (half : ℕ) (z : Zone) → IsLeafHalf half z → z ≡ piece u → ⊥
  not_piece u half z a b = subst (IsLeafHalf half) b a

  not_output : (half : ℕ) (z : Zone) → IsOutput z → IsLeafHalf half z → ⊥
  not_output half (leaf number h) a b = a
  not_output half scratch a b = a
  not_output half (output h) a b = b
  not_output half source a b = a
  not_output half (piece u) a b = a
  not_output half elsewhere a b = a

  other_piece : (u t : ℕ) → u < t → piece u ≡ piece t → ⊥
  other_piece u t before same = let e : u ≡ t = cc in omega arith

  -- ---- block by block

  lead_reads : (t : ℕ) → t + 1 < blocks.tiles → Leads lanes (At t) (blocks.reads (t + 1)) (Ahead t)
  lead_reads t within = record {
    leads = λ store at.
        let block = blocks.reads (t + 1) in
        let all = (brings.keep.reads (t + 1) within).0 in
        let has = at.rests.has in
        let keeps = shows_kept block all store has in
        record {
          at = record {
            rests = record {
              has = size_stays block all store has;
              there = sources_kept block all store has (λ none. none) at.rests.there;
              written = λ u before is. keeps (Pieces u) (λ z. z ≡ piece u) (brings.pieces_in u is) (λ z e w. subst (IsLeafHalf (leaf_half (t + 1))) e w) (at.rests.written u before is);
            };
            leaf_bytes = λ here. keeps (Leaves t) (IsLeafHalf (leaf_half t)) (brings.leaves_in t) (other_leaves t) (at.leaf_bytes here);
            so_far = keeps (Carried blocks Results t) IsOutput (carried_in t (omega arith)) (not_output (leaf_half (t + 1))) at.so_far;
          };
          next = λ more. brings.reads (t + 1) within store has at.rests.there;
        };
  }

  lead_next : (t : ℕ) → Leads lanes (At t) (next_reads blocks t) (Ahead t)
  lead_next t = go (nat_lt (t + 1) blocks.tiles) refl
    where
      go : (more : Bool) → nat_lt (t + 1) blocks.tiles ≡ more → Leads lanes (At t) (cond more (blocks.reads (t + 1)) []) (Ahead t)
      go true e = lead_reads t (ltb-true (t + 1) blocks.tiles e)
      go false e = record { leads = λ store at. record { at = at; next = λ more. absurd (omega (arith, ltb-false (t + 1) blocks.tiles e)) } }

  lead_compute : (t : ℕ) → t < blocks.tiles → Leads lanes (Ahead t) (blocks.compute t) (Computed t)
  lead_compute t within = record {
    leads = λ store ahead.
        let block = blocks.compute t in
        let all = brings.keep.compute t within in
        let rests = ahead.at.rests in
        let has = rests.has in
        let keeps = shows_kept block all store has in
        record {
          rests = record {
            has = size_stays block all store has;
            there = sources_kept block all store has (λ none. none) rests.there;
            written = λ u before is. keeps (Pieces u) (λ z. z ≡ piece u) (brings.pieces_in u is) (λ z e w. subst (IsComputed blocks t) e w) (rests.written u before is);
          };
          next = λ more. keeps (Leaves (t + 1)) (IsLeafHalf (leaf_half (t + 1))) (brings.leaves_in (t + 1)) (not_computed t) (ahead.next more);
          results = brings.compute t within store has (ahead.at.leaf_bytes within) ahead.at.so_far;
        };
  }

  lead_writes : (t : ℕ) → t < blocks.tiles → Leads lanes (Computed t) (blocks.writes t) (At (t + 1))
  lead_writes t within = record {
    leads = λ store computed.
        let block = blocks.writes t in
        let all = (brings.keep.writes t within).0 in
        let rests = computed.rests in
        let has = rests.has in
        let keeps = shows_kept block all store has in
        let results : Shows (Results t) (sequential block lanes store) = keeps (Results t) (λ z. z ≡ output (row_half blocks t)) (brings.results_in t within) (λ z e w. cc) computed.results in
        record {
          rests = record {
            has = size_stays block all store has;
            there = sources_kept block all store has (λ e. cc) rests.there;
            written = λ u before is.
                let cases : (u < t) ⊎ (u ≡ t) = grind arith in
                elim cases [
                  | inl earlier ↦ keeps (Pieces u) (λ z. z ≡ piece u) (brings.pieces_in u is) (λ z e w. other_piece u t earlier (sym e ∙ w)) (rests.written u earlier is)
                  | inr now ↦ subst (λ v. Shows (Pieces v) (sequential block lanes store)) (sym now) (brings.writes t within store has computed.results)
                ];
          };
          leaf_bytes = λ more. keeps (Leaves (t + 1)) (IsLeafHalf (leaf_half (t + 1))) (brings.leaves_in (t + 1)) (not_piece t (leaf_half (t + 1))) (computed.next more);
          so_far = subst (λ n. Shows (Carried blocks Results n) (sequential block lanes store)) (sym (next_is t)) (λ place byte carried. results place byte carried.1);
        };
  }
    where
      next_is : (t : ℕ) → t + 1 ≡ suc t
      next_is t = omega arith

  -- ---- a step, a pass

  lead_step : (t : ℕ) → t < blocks.tiles → Leads lanes (At t) (tile_step blocks t) (At (t + 1))
  lead_step t within =
      leads_append (lead_next t)
      (leads_append (leads_wait (TWait (leaf_half t)) refl)
      (leads_append (leads_wait (TWait (write_tag (row_half blocks t))) refl)
      (leads_append (lead_compute t within) (leads_append (leads_wait VWait refl) (lead_writes t within)))))

  lead_steps : (count : ℕ) → count ≤ blocks.tiles → Leads lanes (At 0) (tile_steps blocks count) (At count)
  lead_steps zero within = leads_none
  lead_steps (suc t) within =
      let next : t + 1 ≡ suc t = omega arith in
      leads_append (lead_steps t (omega arith)) (subst (λ n. Leads lanes (At t) (tile_step blocks t) (At n)) next (lead_step t (omega arith)))

  record Begins (store : Store) : Type 0 where
    has : HasSize size store
    there : Shows Sources store

  lead_first : Leads lanes Begins (blocks.reads 0) (At 0)
  lead_first = record {
    leads = λ store begins.
        let block = blocks.reads 0 in
        let all = (brings.keep.reads 0 brings.some).0 in
        record {
          rests = record {
            has = size_stays block all store begins.has;
            there = sources_kept block all store begins.has (λ none. none) begins.there;
            written = λ u before is. absurd (omega (arith, before));
          };
          leaf_bytes = λ within. brings.reads 0 within store begins.has begins.there;
          so_far = λ place byte none. absurd none;
        };
  }

  lead_pass : Leads lanes Begins (pass_list blocks) (At blocks.tiles)
  lead_pass =
      leads_append lead_first (leads_append (lead_steps blocks.tiles (omega arith))
      (leads_append (leads_wait (RWait 0) refl) (leads_wait (WWait 0) refl)))

  pub record Left (store : Store) : Type 0 where
    pub has : HasSize size store
    pub sources : Shows Sources store
    pub made : Shows Made store

  pub pass_leaves : (store : Store) → HasSize size store → Shows Sources store → Left (sequential (pass_list blocks) lanes store)
  pass_leaves store has there =
      let end : At blocks.tiles (sequential (pass_list blocks) lanes store) = lead_pass.leads store (record { has = has; there = there }) in
      record {
        has = end.rests.has;
        sources = end.rests.there;
        made = λ place byte picture. let covered = brings.covers place byte picture in end.rests.written covered.0 covered.1 covered.1 place byte covered.2;
      }
