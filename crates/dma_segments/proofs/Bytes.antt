-- Patches of a piece in bytes: the commands and fills that they become take each element of the piece once.
use Rattle.std.proofs.Common.{◌≡◌, ℕ, ℤ, zero, suc, ◌+◌, ◌-◌, ◌*◌, ◌/◌, ◌%◌, ◌<◌, ◌≤◌, Option, None, Some, List, [], ◌∷◌, inl, ap, sym, ◌∙◌, refl, subst, arith}
use Rattle.std.specs.Prelude.{map}
use Rattle.std.proofs.lemmas.Nat.{div-add-mod', mod_below, div_below, same_from_place, mul-le}
use Rattle.ven_base.specs.declared.elem.Elem.{Elem}
use Rattle.ven_base.specs.declared.elem.Elem.TheVariants.{U8, I8, U16, I16, U32, I32}
use Rattle.ven_base.specs.Elem.{size_of}
use Rattle.venice_isa.specs.declared.work.DmaWork.{DmaWork}
use Rattle.venice_isa.specs.Region.{place_in, Covers, HasRowsApart, IsApartFrom}
use Rattle.venice_isa.specs.Footprint.{cells_of, memory_of}
use Rattle.venice_isa.proofs.Regions.{item_fits}
use Rattle.dma_segments.specs.declared.segments.Fill.{Fill}
use Rattle.dma_segments.specs.declared.patches.Patch.{Patch}
use Rattle.dma_segments.specs.declared.patches.Sides.{Sides}
use Rattle.dma_segments.specs.Run.{further}
use Rattle.dma_segments.specs.ReadList.{step_between, command_at, fill_at, command_from, fill_from, commands_of, fills_of}
use Rattle.dma_segments.specs.Put.{cells_of_fill, regions_of}
use Rattle.dma_segments.proofs.PiecePatches.{to_place, HasElement, IsPatchOf, ArePatchesApart, ArePatchesOf}
use Rattle.dma_segments.proofs.Lists.{Each, AtLeastOne, EachPair, each_append, each_flat, one_flat, each_map, pairs_map, pairs_flat, pairs_append, pairs_weaker, each_weaker, one_weaker}

pub some_bytes : (elem : Elem) → 0 < size_of elem
some_bytes U8 = omega arith
some_bytes I8 = omega arith
some_bytes U16 = omega arith
some_bytes I16 = omega arith
some_bytes U32 = omega arith
some_bytes I32 = omega arith

-- rows stand as if the step were there also for one row
pub step_same : (rows step r : ℕ) → r < rows → r * step_between rows step ≡ r * step
step_same zero step r row = absurd (omega arith)
step_same (suc zero) step r row = let none : r ≡ 0 = omega arith in let same : r * step ≡ 0 * step = ap (λ n. n * step) none in omega arith
step_same (suc (suc rows)) step r row = refl

pub step_many : (rows step n : ℕ) → 1 < rows → n ≤ step → n ≤ step_between rows step
step_many zero step n many h = absurd (omega arith)
step_many (suc zero) step n many h = absurd (omega arith)
step_many (suc (suc rows)) step n many h = h

abbrev pub sides_at : Elem → (array buffer : ℕ) → Sides
sides_at elem array buffer = record { size = size_of elem; array = array; buffer = buffer }

module _ (elem : Elem) (array buffer : ℕ) where
  -- byte t of element s of the array, and of element p of the piece
  abbrev pub memory_byte : ℕ → ℕ → ℕ
  memory_byte s t = array + s * size_of elem + t

  abbrev pub buffer_byte : ℕ → ℕ → ℕ
  buffer_byte p t = buffer + p * size_of elem + t

  abbrev pub command_of : Patch → ℕ → DmaWork
  command_of patch s = command_at (sides_at elem array buffer) patch s

  abbrev pub fill_of_patch : ℤ → Patch → Fill
  fill_of_patch value patch = fill_at (sides_at elem array buffer) elem value patch

  -- byte j of row r of a command
  pub record IsByteOfCommand (patch : Patch) (s r j : ℕ) : Type 0 where
    pub col : ℕ
    pub byte : ℕ
    pub col_below : col < patch.cols
    pub byte_below : byte < size_of elem
    pub cell_is : place_in (cells_of (command_of patch s)) r j ≡ buffer_byte (to_place patch r col) byte
    pub memory_is : place_in (memory_of (command_of patch s)) r j ≡ memory_byte (s + (r * patch.from_step + col)) byte

  pub byte_of_command : (patch : Patch) (s r j : ℕ) → r < patch.rows → j < patch.cols * size_of elem → IsByteOfCommand patch s r j
  byte_of_command patch s r j row below =
      let size = size_of elem in
      let whole : j / size * size + j % size ≡ j = div-add-mod' j size in
      let to_steps = step_same patch.rows (patch.to_step * size) r row in
      let from_steps = step_same patch.rows (patch.from_step * size) r row in
      record {
        col = j / size;
        byte = j % size;
        col_below = div_below j size patch.cols (some_bytes elem) below;
        byte_below = mod_below j size (some_bytes elem);
        cell_is = omega arith;
        memory_is = omega arith;
      }

  -- and the byte of an element
  pub byte_of_element : (patch : Patch) (s p t : ℕ) → HasElement patch p → t < size_of elem → Covers (cells_of (command_of patch s)) (buffer_byte p t)
  byte_of_element patch s p t (r, k, row, col, is) below =
      let size = size_of elem in
      let steps = step_same patch.rows (patch.to_step * size) r row in
      let fits : k * size + size ≤ patch.cols * size = item_fits k patch.cols size col in
      let place : to_place patch r k * size ≡ p * size = ap (λ m. m * size) is in
      (r, k * size + t, record { row = row; column = omega arith; from = omega arith; below = omega arith })

  -- two bytes of elements at one cell are one
  pub same_byte : (p t q u : ℕ) → t < size_of elem → u < size_of elem → buffer_byte p t ≡ buffer_byte q u → (p ≡ q) × (t ≡ u)
  same_byte p t q u below below' same = same_from_place p t q u (size_of elem) below below' (omega arith)

  module _ (n : ℕ) (wanted : ℕ → Option ℕ) where
    -- byte j of row r of a command is byte t of element p of the piece, and comes from byte t of its source, element s
    pub record IsElementByte (work : DmaWork) (r j : ℕ) : Type 0 where
      pub p : ℕ
      pub s : ℕ
      pub t : ℕ
      pub inside : p < n
      pub wanted_is : wanted p ≡ Some s
      pub below : t < size_of elem
      pub to : place_in (cells_of work) r j ≡ buffer_byte p t
      pub from : place_in (memory_of work) r j ≡ memory_byte s t

    pub record ReadsElements (work : DmaWork) : Type 0 where
      pub some_rows : 1 ≤ work.rows
      pub some_bytes_of : 1 ≤ work.bytes
      pub bytes : (r j : ℕ) → r < work.rows → j < work.bytes → IsElementByte work r j

    pub record FillsElements (value : ℤ) (fill : Fill) : Type 0 where
      pub some_rows : 1 ≤ fill.rows
      pub some_cols : 1 ≤ fill.cols
      pub elem_is : fill.elem ≡ elem
      pub value_is : fill.value ≡ value
      pub places : (r k : ℕ) → r < fill.rows → k < fill.cols → (p : ℕ) × (p < n) × (wanted p ≡ None) × (place_in (cells_of_fill fill) r k ≡ buffer_byte p 0)

    -- commands and fills put each element of the piece in its place, each byte once
    pub record PutElements (value : ℤ) (commands : List DmaWork) (fills : List Fill) : Type 0 where
      pub read : Each ReadsElements commands
      pub fill : Each (FillsElements value) fills
      pub each_read : (p s t : ℕ) → p < n → wanted p ≡ Some s → t < size_of elem → AtLeastOne (λ work. Covers (cells_of work) (buffer_byte p t)) commands
      pub each_filled : (p t : ℕ) → p < n → wanted p ≡ None → t < size_of elem → AtLeastOne (λ fill. Covers (cells_of_fill fill) (buffer_byte p t)) fills
      pub rows_apart : Each HasRowsApart (regions_of commands fills)
      pub once : EachPair IsApartFrom (regions_of commands fills)

    module _ (patch : Patch) (right : IsPatchOf n wanted patch) where
      wide : 1 < patch.rows → patch.cols * size_of elem ≤ patch.to_step * size_of elem
      wide many = mul-le patch.cols (size_of elem) patch.to_step (size_of elem) (right.rows_apart many) (omega arith)

      command_apart : (s : ℕ) → HasRowsApart (cells_of (command_of patch s))
      command_apart s many =
          let step = step_many patch.rows (patch.to_step * size_of elem) (patch.cols * size_of elem) many (wide many) in
          omega arith

      fill_apart : (value : ℤ) → HasRowsApart (cells_of_fill (fill_of_patch value patch))
      fill_apart value many = step_many patch.rows (patch.to_step * size_of elem) (patch.cols * size_of elem) many (wide many)

      module _ (s : ℕ) (from_is : patch.from ≡ Some s) where
        source_is : (r k : ℕ) → r < patch.rows → k < patch.cols → wanted (to_place patch r k) ≡ Some (s + (r * patch.from_step + k))
        source_is r k row col = right.sources r k row col ∙ ap (λ o. further o (r * patch.from_step + k)) from_is

        command_reads : ReadsElements (command_of patch s)
        command_reads = record {
          some_rows = right.some_rows;
          some_bytes_of = let fits = item_fits 0 patch.cols (size_of elem) right.some_cols in omega (arith, some_bytes elem);
          bytes = λ r j row col.
              let b = byte_of_command patch s r j row col in
              record {
                p = to_place patch r b.col;
                s = s + (r * patch.from_step + b.col);
                t = b.byte;
                inside = right.inside r b.col row b.col_below;
                wanted_is = source_is r b.col row b.col_below;
                below = b.byte_below;
                to = b.cell_is;
                from = b.memory_is;
              };
        }

      module _ (value : ℤ) (none : patch.from ≡ None) where
        fill_fills : FillsElements value (fill_of_patch value patch)
        fill_fills = record {
          some_rows = right.some_rows;
          some_cols = right.some_cols;
          elem_is = refl;
          value_is = refl;
          places = λ r k row col.
              let steps = step_same patch.rows (patch.to_step * size_of elem) r row in
              (to_place patch r k, right.inside r k row col, right.sources r k row col ∙ ap (λ o. further o (r * patch.from_step + k)) none, omega arith);
        }

        fill_covers : (p t : ℕ) → HasElement patch p → t < size_of elem → Covers (cells_of_fill (fill_of_patch value patch)) (buffer_byte p t)
        fill_covers p t (r, k, row, col, is) below =
            let steps = step_same patch.rows (patch.to_step * size_of elem) r row in
            let place : to_place patch r k * size_of elem ≡ p * size_of elem = ap (λ m. m * size_of elem) is in
            (r, k, record { row = row; column = col; from = omega arith; below = omega arith })

    -- a byte of a region of an element of a patch
    pub record IsPatchByte (patch : Patch) (c : ℕ) : Type 0 where
      pub p : ℕ
      pub t : ℕ
      pub has : HasElement patch p
      pub below : t < size_of elem
      pub is : c ≡ buffer_byte p t

    command_element : (patch : Patch) (s c : ℕ) → Covers (cells_of (command_of patch s)) c → IsPatchByte patch c
    command_element patch s c (r, j, at) =
        let b = byte_of_command patch s r j at.row at.column in
        record { p = to_place patch r b.col; t = b.byte; has = (r, b.col, at.row, b.col_below, refl); below = b.byte_below; is = omega (arith, at.from, at.below, b.cell_is) }

    fill_element : (patch : Patch) (value : ℤ) (c : ℕ) → Covers (cells_of_fill (fill_of_patch value patch)) c → IsPatchByte patch c
    fill_element patch value c (r, k, at) =
        let steps = step_same patch.rows (patch.to_step * size_of elem) r at.row in
        record { p = to_place patch r k; t = c - buffer_byte (to_place patch r k) 0; has = (r, k, at.row, at.column, refl); below = omega (arith, at.from, at.below); is = omega (arith, at.from) }

    -- patches that share no element share no byte
    bytes_apart : (a b : Patch) (c : ℕ) → ArePatchesApart a b → IsPatchByte a c → IsPatchByte b c → ⊥
    bytes_apart a b c apart x y =
        let same = same_byte x.p x.t y.p y.t x.below y.below (sym x.is ∙ y.is) in
        apart x.p x.has (subst (λ q. HasElement b q) (sym same.0) y.has)

    -- a patch with sources and one without share no element
    source_or_none : (a b : Patch) (s : ℕ) → IsPatchOf n wanted a → IsPatchOf n wanted b → a.from ≡ Some s → b.from ≡ None → ArePatchesApart a b
    source_or_none a b s at bt some none p (r, k, row, col, is) (r', k', row', col', is') =
        let x : wanted p ≡ Some (s + (r * a.from_step + k)) = ap wanted (sym is) ∙ source_is a at s some r k row col in
        let y : wanted p ≡ None = ap wanted (sym is') ∙ bt.sources r' k' row' col' ∙ ap (λ o. further o (r' * b.from_step + k')) none in
        absurd (cc)

    -- ---- the commands and fills of a list

    commands_each : (P : DmaWork → Type 0) → ((patch : Patch) → IsPatchOf n wanted patch → (s : ℕ) → patch.from ≡ Some s → P (command_of patch s)) → (patches : List Patch) → Each (IsPatchOf n wanted) patches → Each P (commands_of (sides_at elem array buffer) patches)
    commands_each P f patches right =
        each_flat (λ patch. command_from patch.from (sides_at elem array buffer) patch) P patches (each_weaker (IsPatchOf n wanted) (λ patch. Each P (command_from patch.from (sides_at elem array buffer) patch)) (λ patch at. by patch at patch.from refl) patches right)
      where
        by : (patch : Patch) → IsPatchOf n wanted patch → (o : Option ℕ) → patch.from ≡ o → Each P (command_from o (sides_at elem array buffer) patch)
        by patch at None e = tt
        by patch at (Some s) e = (f patch at s e, tt)

    fills_each : (value : ℤ) (P : Fill → Type 0) → ((patch : Patch) → IsPatchOf n wanted patch → patch.from ≡ None → P (fill_of_patch value patch)) → (patches : List Patch) → Each (IsPatchOf n wanted) patches → Each P (fills_of (sides_at elem array buffer) elem value patches)
    fills_each value P f patches right =
        each_flat (λ patch. fill_from patch.from (sides_at elem array buffer) elem value patch) P patches (each_weaker (IsPatchOf n wanted) (λ patch. Each P (fill_from patch.from (sides_at elem array buffer) elem value patch)) (λ patch at. by patch at patch.from refl) patches right)
      where
        by : (patch : Patch) → IsPatchOf n wanted patch → (o : Option ℕ) → patch.from ≡ o → Each P (fill_from o (sides_at elem array buffer) elem value patch)
        by patch at None e = (f patch at e, tt)
        by patch at (Some s) e = tt

    -- the command of the element's patch has its bytes
    command_has : (p s t : ℕ) → wanted p ≡ Some s → t < size_of elem → (patch : Patch) → IsPatchOf n wanted patch → HasElement patch p → AtLeastOne (λ work. Covers (cells_of work) (buffer_byte p t)) (command_from patch.from (sides_at elem array buffer) patch)
    command_has p s t is below patch at (r, k, row, col, here) = by patch.from refl
      where
        by : (o : Option ℕ) → patch.from ≡ o → AtLeastOne (λ work. Covers (cells_of work) (buffer_byte p t)) (command_from o (sides_at elem array buffer) patch)
        by None none = let y : wanted p ≡ None = ap wanted (sym here) ∙ at.sources r k row col ∙ ap (λ o. further o (r * patch.from_step + k)) none in absurd (cc)
        by (Some o) e = inl (byte_of_element patch o p t (r, k, row, col, here) below)

    fill_has : (value : ℤ) (p t : ℕ) → wanted p ≡ None → t < size_of elem → (patch : Patch) → IsPatchOf n wanted patch → HasElement patch p → AtLeastOne (λ fill. Covers (cells_of_fill fill) (buffer_byte p t)) (fill_from patch.from (sides_at elem array buffer) elem value patch)
    fill_has value p t is below patch at (r, k, row, col, here) = by patch.from refl
      where
        by : (o : Option ℕ) → patch.from ≡ o → AtLeastOne (λ fill. Covers (cells_of_fill fill) (buffer_byte p t)) (fill_from o (sides_at elem array buffer) elem value patch)
        by None none = inl (fill_covers patch at value none p t (r, k, row, col, here) below)
        by (Some o) e = let y : wanted p ≡ Some (o + (r * patch.from_step + k)) = ap wanted (sym here) ∙ source_is patch at o e r k row col in absurd (cc)

    commands_apart : (patches : List Patch) → EachPair ArePatchesApart patches → EachPair IsApartFrom (map cells_of (commands_of (sides_at elem array buffer) patches))
    commands_apart patches once =
        pairs_map cells_of IsApartFrom (commands_of (sides_at elem array buffer) patches)
        (pairs_flat (λ patch. command_from patch.from (sides_at elem array buffer) patch) (λ x y. IsApartFrom (cells_of x) (cells_of y)) patches (alone patches)
        (pairs_weaker ArePatchesApart (λ patch. Unit {0}) (λ a b. Each (λ x. Each (λ y. IsApartFrom (cells_of x) (cells_of y)) (command_from b.from (sides_at elem array buffer) b)) (command_from a.from (sides_at elem array buffer) a)) (λ a b u v apart. both a b apart a.from b.from) patches (any patches) once))
      where
        any : (ps : List Patch) → Each (λ patch. Unit {0}) ps
        any [] = tt
        any (p ∷ ps) = (tt, any ps)

        one : (o : Option ℕ) (patch : Patch) → EachPair (λ x y. IsApartFrom (cells_of x) (cells_of y)) (command_from o (sides_at elem array buffer) patch)
        one None patch = tt
        one (Some s) patch = (tt, tt)

        alone : (ps : List Patch) → Each (λ patch. EachPair (λ x y. IsApartFrom (cells_of x) (cells_of y)) (command_from patch.from (sides_at elem array buffer) patch)) ps
        alone [] = tt
        alone (p ∷ ps) = (one p.from p, alone ps)

        both : (a b : Patch) → ArePatchesApart a b → (o q : Option ℕ) → Each (λ x. Each (λ y. IsApartFrom (cells_of x) (cells_of y)) (command_from q (sides_at elem array buffer) b)) (command_from o (sides_at elem array buffer) a)
        both a b apart None q = tt
        both a b apart (Some s) None = (tt, tt)
        both a b apart (Some s) (Some s') = ((λ c x y. bytes_apart a b c apart (command_element a s c x) (command_element b s' c y), tt), tt)

    fills_apart : (value : ℤ) (patches : List Patch) → EachPair ArePatchesApart patches → EachPair IsApartFrom (map cells_of_fill (fills_of (sides_at elem array buffer) elem value patches))
    fills_apart value patches once =
        pairs_map cells_of_fill IsApartFrom (fills_of (sides_at elem array buffer) elem value patches)
        (pairs_flat (λ patch. fill_from patch.from (sides_at elem array buffer) elem value patch) (λ x y. IsApartFrom (cells_of_fill x) (cells_of_fill y)) patches (alone patches)
        (pairs_weaker ArePatchesApart (λ patch. Unit {0}) (λ a b. Each (λ x. Each (λ y. IsApartFrom (cells_of_fill x) (cells_of_fill y)) (fill_from b.from (sides_at elem array buffer) elem value b)) (fill_from a.from (sides_at elem array buffer) elem value a)) (λ a b u v apart. both a b apart a.from b.from) patches (any patches) once))
      where
        any : (ps : List Patch) → Each (λ patch. Unit {0}) ps
        any [] = tt
        any (p ∷ ps) = (tt, any ps)

        one : (o : Option ℕ) (patch : Patch) → EachPair (λ x y. IsApartFrom (cells_of_fill x) (cells_of_fill y)) (fill_from o (sides_at elem array buffer) elem value patch)
        one None patch = (tt, tt)
        one (Some s) patch = tt

        alone : (ps : List Patch) → Each (λ patch. EachPair (λ x y. IsApartFrom (cells_of_fill x) (cells_of_fill y)) (fill_from patch.from (sides_at elem array buffer) elem value patch)) ps
        alone [] = tt
        alone (p ∷ ps) = (one p.from p, alone ps)

        both : (a b : Patch) → ArePatchesApart a b → (o q : Option ℕ) → Each (λ x. Each (λ y. IsApartFrom (cells_of_fill x) (cells_of_fill y)) (fill_from q (sides_at elem array buffer) elem value b)) (fill_from o (sides_at elem array buffer) elem value a)
        both a b apart (Some s) q = tt
        both a b apart None (Some s) = (tt, tt)
        both a b apart None None = ((λ c x y. bytes_apart a b c apart (fill_element a value c x) (fill_element b value c y), tt), tt)

    commands_off_fills : (value : ℤ) (patches : List Patch) → Each (IsPatchOf n wanted) patches → Each (λ x. Each (IsApartFrom x) (map cells_of_fill (fills_of (sides_at elem array buffer) elem value patches))) (map cells_of (commands_of (sides_at elem array buffer) patches))
    commands_off_fills value patches right =
        each_map cells_of (λ x. Each (IsApartFrom x) (map cells_of_fill (fills_of (sides_at elem array buffer) elem value patches))) (commands_of (sides_at elem array buffer) patches)
        (commands_each (λ work. Each (IsApartFrom (cells_of work)) (map cells_of_fill (fills_of (sides_at elem array buffer) elem value patches)))
        (λ a at s some. each_map cells_of_fill (IsApartFrom (cells_of (command_of a s))) (fills_of (sides_at elem array buffer) elem value patches)
        (fills_each value (λ fill. IsApartFrom (cells_of (command_of a s)) (cells_of_fill fill)) (λ b bt none c x y. bytes_apart a b c (source_or_none a b s at bt some none) (command_element a s c x) (fill_element b value c y)) patches right))
        patches right)

    pub patches_put : (value : ℤ) (patches : List Patch) → ArePatchesOf n wanted patches
        → PutElements value (commands_of (sides_at elem array buffer) patches) (fills_of (sides_at elem array buffer) elem value patches)
    patches_put value patches all =
        let commands = commands_of (sides_at elem array buffer) patches in
        let fills = fills_of (sides_at elem array buffer) elem value patches in
        record {
          read = commands_each ReadsElements (λ patch at s some. command_reads patch at s some) patches all.each;
          fill = fills_each value (FillsElements value) (λ patch at none. fill_fills patch at value none) patches all.each;
          each_read = λ p s t inside is below. one_flat (λ patch. command_from patch.from (sides_at elem array buffer) patch) (λ work. Covers (cells_of work) (buffer_byte p t)) patches
              (one_weaker (λ patch. HasElement patch p) (IsPatchOf n wanted) (λ patch. AtLeastOne (λ work. Covers (cells_of work) (buffer_byte p t)) (command_from patch.from (sides_at elem array buffer) patch)) (λ patch at has. command_has p s t is below patch at has) patches all.each (all.covered p inside));
          each_filled = λ p t inside is below. one_flat (λ patch. fill_from patch.from (sides_at elem array buffer) elem value patch) (λ fill. Covers (cells_of_fill fill) (buffer_byte p t)) patches
              (one_weaker (λ patch. HasElement patch p) (IsPatchOf n wanted) (λ patch. AtLeastOne (λ fill. Covers (cells_of_fill fill) (buffer_byte p t)) (fill_from patch.from (sides_at elem array buffer) elem value patch)) (λ patch at has. fill_has value p t is below patch at has) patches all.each (all.covered p inside));
          rows_apart = each_append HasRowsApart (map cells_of commands) (map cells_of_fill fills)
              (each_map cells_of HasRowsApart commands (commands_each (λ work. HasRowsApart (cells_of work)) (λ patch at s some. command_apart patch at s) patches all.each))
              (each_map cells_of_fill HasRowsApart fills (fills_each value (λ fill. HasRowsApart (cells_of_fill fill)) (λ patch at none. fill_apart patch at value) patches all.each));
          once = pairs_append IsApartFrom (map cells_of commands) (map cells_of_fill fills) (commands_apart patches all.once) (fills_apart value patches all.once) (commands_off_fills value patches all.each);
        }
