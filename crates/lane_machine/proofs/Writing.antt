-- Bytes and flags that are written are what the next elements get, one after another.
use Rattle.std.proofs.Common.{◌≡◌, ℕ, zero, suc, ◌+◌, ◌-◌, ◌*◌, ◌/◌, ◌^◌, ◌<◌, ◌≤◌, inl, inr, ap, sym, ◌∙◌, refl, arith, List, ◌++◌, length, take, drop, map, get_or, replicate, true, false, cond, w64}
use Rattle.std.specs.Prelude.{Bool, ◌&&◌, not, bit_and}
use Rattle.std.specs.Int.{bit_not}
use Rattle.std.specs.List.{zip}
use Rattle.std.proofs.lemmas.Bool.{cases_Bool, cond-true, cond-false, false≢true}
use Rattle.std.proofs.lemmas.List.{length-map, length-take-le, length-drop, length-replicate, get_or-replicate, take-append-drop, drop-drop, get_or_default, get_or-map, get_or-take, get_or-drop}
use Rattle.std.proofs.lemmas.Slice.Zip.{length-zip}
use Rattle.ven_base.specs.Elem.{size_of}
use Rattle.ven_base.specs.Cell.{Cell}
use Rattle.ven_base.specs.Operation.{bits_of}
use Rattle.spad_store.specs.Cells.{flag_at, bytes_from, flags_from, with_bytes, with_flags, flags_of}
use Rattle.spad_store.specs.Packed.{has_bit}
use Rattle.spad_store.proofs.Bits.{flag_of_bit, length_flags_of}
use Rattle.venice_isa.specs.declared.work.VecWork.{VecWork}
use Rattle.venice_isa.specs.declared.op.VecOp.{VecOp}
use Rattle.venice_isa.specs.declared.op.VecOp.TheVariants.{Cmov}
use Rattle.venice_isa.specs.Cell.{part, overwritten}
use Rattle.venice_isa.specs.Element.{spelled, bytes_of}
use Rattle.venice_isa.specs.Region.{place_in}
use Rattle.venice_isa.specs.Footprint.{source_b, destination}
use Rattle.venice_isa.specs.Mode.{is_conditional, is_comparison}
use Rattle.venice_isa.specs.Whole.{result_at, is_left_alone, is_one, new_element, flag_for}
use Rattle.venice_isa.specs.Beat.{new_elements}
use Rattle.venice_isa.proofs.Spellings.{low_bytes_length}
use Rattle.venice_isa.proofs.Wholes.{part_length, part_at, same_part, size_positive}
use Rattle.lane_machine.specs.Elements.{element_bytes, element_in, HasSpelled}
use Rattle.lane_machine.specs.Flags.{HasFlags}
use Rattle.lane_machine.specs.Group.{results_from}
use Rattle.lane_machine.proofs.Groups.{result_at_in_type}
use Rattle.lane_machine.proofs.Spelled.{few_of, spelled_number}
use Rattle.lane_machine.proofs.Parts.{part_of_take, part_of_part, part_of_map, zip_back, part_overwritten, overwritten_twice, empty_list, same_items, part_of_zip, zip_same, firsts_of_zip}
use Rattle.lane_machine.proofs.Elements.{element_in_row}
use Rattle.lane_machine.proofs.Flagged.{moved_clear, others_stay}

-- ---- cells with bytes, and then with flags

module _ (cells : List Cell) (place : ℕ) (bytes : List ℕ) (inside : place + length bytes ≤ length cells) where
  clear_cells : List Cell
  clear_cells = zip bytes (replicate (length bytes) false)

  clear_long : length (zip bytes (replicate (length bytes) false)) ≡ length bytes
  clear_long = omega (arith, length-zip bytes (replicate (length bytes) false), length-replicate (length bytes) false)

  pub bytes_put : with_bytes cells place bytes ≡ overwritten cells place (zip bytes (replicate (length bytes) false))
  bytes_put =
      let clear : ℕ → Cell = λ byte. (byte, false) in
      ap (λ n. take place cells ++ (map clear bytes ++ drop (place + n) cells)) (sym (length-map bytes clear))
      ∙ ap (overwritten cells place) (sym (zip_same bytes false))

  pub flags_put : (flags : List Bool) → length flags ≡ length bytes → with_flags (with_bytes cells place bytes) place flags ≡ overwritten cells place (zip bytes flags)
  flags_put flags same =
      let clear = zip bytes (replicate (length bytes) false) in
      let before = overwritten cells place clear in
      let new = zip bytes flags in
      let byte : Cell → ℕ = λ cell. cell.0 in
      let counted : length flags ≡ length clear = same ∙ sym clear_long in
      let new_long : length new ≡ length flags = omega (arith, length-zip bytes flags) in
      let old : bytes_from before place (length flags) ≡ bytes =
      ap (λ n. map byte (part before place n)) counted
      ∙ ap (map byte) (part_overwritten cells place clear (omega arith))
      ∙ firsts_of_zip bytes (replicate (length bytes) false) (length-replicate (length bytes) false) in
      ap (λ xs. with_flags xs place flags) bytes_put
      ∙ ap (λ old. take place before ++ (zip old flags ++ drop (place + length flags) before)) old
      ∙ ap (λ n. take place before ++ (new ++ drop (place + n) before)) (sym new_long)
      ∙ overwritten_twice cells place clear new (omega arith) (new_long ∙ counted)

-- ---- one flag for all bytes of an element

pub part_of_flags : (flags : List Bool) (n q size : ℕ) (flag : Bool) → length flags ≡ n → q + size ≤ n → ((p : ℕ) → p < size → get_or flags (q + p) flag ≡ flag) → part flags q size ≡ replicate size flag
part_of_flags flags n q size flag long inside each =
    same_items (part flags q size) size flag (omega (arith, part_length flags q size)) (λ p below. part_at flag flags q size p below ∙ each p below)

pub flag_read : (cells : List Cell) (place count j bits : ℕ) → place + count ≤ length cells → j < count → flags_of count bits ≡ flags_from cells place count → has_bit bits j ≡ flag_at cells (place + j)
flag_read cells place count j bits inside below read =
    let flag : Cell → Bool = λ cell. cell.1 in
    let part = take count (drop place cells) in
    let long : length part ≡ count = length-take-le count (drop place cells) (omega (arith, length-drop place cells)) in
    sym (flag_of_bit count bits j false below)
    ∙ ap (λ flags. get_or flags j false) read
    ∙ get_or-map flag part j (0, false) false (omega arith)
    ∙ ap flag (get_or-take count (drop place cells) j (0, false) below ∙ get_or-drop place cells j (0, false))

-- ---- the next elements

module _ (work : VecWork) (cells : List Cell) (r : ℕ) where
  one_by_one : (first count : ℕ) (items : List Cell) → length items ≡ count * size_of work.kind.elem → ((k : ℕ) → k < count → part items (k * size_of work.kind.elem) (size_of work.kind.elem) ≡ new_element work cells r (first + k)) → items ≡ new_elements work cells r first count
  one_by_one first zero items long each = empty_list items (omega arith)
  one_by_one first (suc count) items long each =
      let size = size_of work.kind.elem in
      let begin : 0 * size ≡ 0 = omega arith in
      let here : first + 0 ≡ first = omega arith in
      let front : take size items ≡ new_element work cells r first =
      ap (λ q. part items q size) (sym begin) ∙ each 0 (omega arith) ∙ ap (new_element work cells r) here in
      let rest : drop size items ≡ new_elements work cells r (first + 1) count =
      one_by_one (first + 1) count (drop size items) (omega (arith, length-drop size items))
      (λ k below.
      let on : size + k * size ≡ (k + 1) * size = omega arith in
      let there : first + (k + 1) ≡ (first + 1) + k = omega arith in
      ap (take size) (drop-drop (k * size) size items)
      ∙ ap (λ q. part items q size) on
      ∙ each (k + 1) (omega arith)
      ∙ ap (new_element work cells r) there) in
      sym (take-append-drop size items) ∙ ap (λ f. f ++ drop size items) front ∙ ap (λ rest. new_element work cells r first ++ rest) rest

  -- an element whose bytes are spelled and whose flags are all the same
  spelled_element : (j : ℕ) (bytes : List ℕ) (flags : List Bool) → bytes ≡ bytes_of work.kind.elem (result_at work cells r j) → flags ≡ replicate (size_of work.kind.elem) (flag_for work.kind (result_at work cells r j)) → is_left_alone work cells r j ≡ false → zip bytes flags ≡ new_element work cells r j
  unfolding new_element
  spelled_element j bytes flags bytes_are flags_are moved =
      let elem = work.kind.elem in
      let n = result_at work cells r j in
      let flag = flag_for work.kind n in
      let size : size_of elem ≡ length (bytes_of elem n) = sym (low_bytes_length (size_of elem) (bits_of elem n)) in
      ap (λ bytes. zip bytes flags) bytes_are
      ∙ ap (zip (bytes_of elem n)) (flags_are ∙ ap (λ n. replicate n flag) size)
      ∙ zip_same (bytes_of elem n) flag
      ∙ sym (cond-false (is_left_alone work cells r j) _ _ moved)

  pub plain_moved : is_conditional work.kind.op ≡ false → (j : ℕ) → is_left_alone work cells r j ≡ false
  unfolding is_left_alone
  plain_moved plain j = ap (λ conditional. conditional && not (flag_at cells (place_in (source_b work) r j))) plain

  pub elements_put : (first count : ℕ) (bytes : List ℕ) (flags : List Bool) → count * size_of work.kind.elem ≤ 16 → HasSpelled work.kind.elem count (results_from work cells r first) bytes → is_conditional work.kind.op ≡ false → length flags ≡ count * size_of work.kind.elem → ((k p : ℕ) → k < count → p < size_of work.kind.elem → get_or flags (k * size_of work.kind.elem + p) false ≡ flag_for work.kind (result_at work cells r (first + k))) → zip (take (count * size_of work.kind.elem) bytes) flags ≡ new_elements work cells r first count
  elements_put first count bytes flags few written plain flags_long flags_are =
      let size = size_of work.kind.elem in
      let n = count * size in
      let front = take n bytes in
      let front_long : length front ≡ n = length-take-le n bytes (omega (arith, written.long)) in
      one_by_one first count (zip front flags) (omega (arith, length-zip front flags))
      (λ k below.
      let inside : k * size + size ≤ n = element_in_row k count size below in
      let flag = flag_for work.kind (result_at work cells r (first + k)) in
      part_of_zip front flags (k * size) size
      ∙ spelled_element (first + k) (part front (k * size) size) (part flags (k * size) size)
      (part_of_take n bytes (k * size) size inside ∙ written.each k below)
      (part_of_flags flags n (k * size) size flag flags_long inside
      (λ p in_size. get_or_default flags (k * size + p) flag false (omega arith) ∙ flags_are k p below in_size))
      (plain_moved plain (first + k)))

no_comparison : (op : VecOp) → is_conditional op ≡ true → is_comparison op ≡ false
no_comparison Cmov conditional = refl
no_comparison op conditional = absurd (false≢true conditional)

-- ---- the next elements are written

module _ (work : VecWork) (cells : List Cell) (r first count place n : ℕ) (place_is : place ≡ place_in (destination work) r first) (n_is : n ≡ count * size_of work.kind.elem) (few : count * size_of work.kind.elem ≤ 16) (inside : place + n ≤ length cells) (bytes : List ℕ) (written : HasSpelled work.kind.elem count (results_from work cells r first) bytes) where
  front_long : length (take n bytes) ≡ n
  front_long = length-take-le n bytes (omega (arith, written.long))

  there : (items : List Cell) → items ≡ new_elements work cells r first count → overwritten cells place items ≡ overwritten cells (place_in (destination work) r first) (new_elements work cells r first count)
  there items are = ap (overwritten cells place) are ∙ ap (λ p. overwritten cells p (new_elements work cells r first count)) place_is

  -- with clear flags
  pub plain_put : is_conditional work.kind.op ≡ false → is_comparison work.kind.op ≡ false → with_bytes cells place (take n bytes) ≡ overwritten cells (place_in (destination work) r first) (new_elements work cells r first count)
  plain_put plain no_flags =
      let elem = work.kind.elem in
      let size = size_of elem in
      let front = take n bytes in
      let flags = replicate (length front) false in
      let flags_long : length flags ≡ count * size = length-replicate (length front) false ∙ front_long ∙ n_is in
      bytes_put cells place front (omega (arith, front_long))
      ∙ there (zip front flags)
      (ap (λ n. zip (take n bytes) flags) n_is
      ∙ elements_put work cells r first count bytes flags few written plain flags_long
      (λ k p below in_size.
      get_or-replicate (length front) (k * size + p) false false (omega (arith, front_long, n_is, element_in_row k count size below))
      ∙ sym (ap (λ b. b && is_one (result_at work cells r (first + k))) no_flags)))

  -- with those of the results
  pub flagged_put : is_conditional work.kind.op ≡ false → (bits : ℕ) → HasFlags work.kind.elem (16 / size_of work.kind.elem) (λ k. flag_for work.kind (element_in work.kind.elem bytes k)) bits → with_flags (with_bytes cells place (take n bytes)) place (flags_of n bits) ≡ overwritten cells (place_in (destination work) r first) (new_elements work cells r first count)
  flagged_put plain bits flagged =
      let elem = work.kind.elem in
      let size = size_of elem in
      let front = take n bytes in
      let flags = flags_of n bits in
      flags_put cells place front (omega (arith, front_long)) flags (length_flags_of n bits ∙ sym front_long)
      ∙ there (zip front flags)
      (ap (λ n. zip (take n bytes) flags) n_is
      ∙ elements_put work cells r first count bytes flags few written plain (length_flags_of n bits ∙ n_is)
      (λ k p below in_size.
      flag_of_bit n bits (k * size + p) false (omega (arith, n_is, element_in_row k count size below))
      ∙ flagged.each k p (omega (arith, few_of size count (size_positive elem) few)) in_size
      ∙ ap (flag_for work.kind) (spelled_number elem (results_from work cells r first) count bytes k written below (result_at_in_type work cells r (first + k)))))

  -- only where B's flags are set
  module _ (conditional : is_conditional work.kind.op ≡ true) (old chosen : List ℕ) (flags moved old_flags : ℕ) (old_long : length old ≡ 16) (old_is : take n old ≡ bytes_from cells place n) (old_flags_are : flags_of n old_flags ≡ flags_from cells place n) (moved_small : moved < 2 ^ 64) (moved_is : HasFlags work.kind.elem (16 / size_of work.kind.elem) (λ k. has_bit flags (k * size_of work.kind.elem)) moved) (flags_are : (k : ℕ) → k < count → has_bit flags (k * size_of work.kind.elem) ≡ not (is_left_alone work cells r (first + k))) (chosen_long : length chosen ≡ 16) (chosen_is : (j : ℕ) → j < 16 → get_or chosen j 0 ≡ cond (has_bit moved j) (get_or bytes j 0) (get_or old j 0)) where
    module _ (k : ℕ) (below : k < count) where
      q_inside : k * size_of work.kind.elem + size_of work.kind.elem ≤ n
      q_inside = omega (arith, n_is, element_in_row k count (size_of work.kind.elem) below)

      moved_here : (j : ℕ) → k * size_of work.kind.elem ≤ j → j < k * size_of work.kind.elem + size_of work.kind.elem → has_bit moved j ≡ not (is_left_alone work cells r (first + k))
      moved_here j from to =
          let elem = work.kind.elem in
          let there : k * size_of elem + (j - k * size_of elem) ≡ j = omega arith in
          ap (has_bit moved) (sym there)
          ∙ moved_is.each k (j - k * size_of elem) (omega (arith, few_of (size_of elem) count (size_positive elem) few)) (omega arith)
          ∙ flags_are k below

      moved_element : is_left_alone work cells r (first + k) ≡ false → part (zip (take n chosen) (flags_of n (bit_and old_flags (bit_not w64 moved)))) (k * size_of work.kind.elem) (size_of work.kind.elem) ≡ new_element work cells r (first + k)
      moved_element moves =
          let elem = work.kind.elem in
          let size = size_of elem in
          let fl = bit_and old_flags (bit_not w64 moved) in
          let set : (j : ℕ) → k * size ≤ j → j < k * size + size → has_bit moved j ≡ true = λ j from to. moved_here j from to ∙ ap not moves in
          part_of_zip (take n chosen) (flags_of n fl) (k * size) size
          ∙ spelled_element work cells r (first + k) (part (take n chosen) (k * size) size) (part (flags_of n fl) (k * size) size)
          (part_of_take n chosen (k * size) size q_inside
          ∙ same_part 0 bytes chosen (k * size) size (chosen_long ∙ sym written.long) (λ j from to. chosen_is j (omega (arith, q_inside, n_is)) ∙ cond-true (has_bit moved j) (get_or bytes j 0) (get_or old j 0) (set j from to))
          ∙ written.each k below)
          (part_of_flags (flags_of n fl) n (k * size) size false (length_flags_of n fl) q_inside
          (λ p in_size. flag_of_bit n fl (k * size + p) false (omega (arith, q_inside)) ∙ moved_clear old_flags moved (k * size + p) moved_small (omega (arith, q_inside, n_is)) (set (k * size + p) (omega arith) (omega arith)))
          ∙ ap (replicate size) (sym (ap (λ b. b && is_one (result_at work cells r (first + k))) (no_comparison work.kind.op conditional))))
          moves

      left_element : is_left_alone work cells r (first + k) ≡ true → part (zip (take n chosen) (flags_of n (bit_and old_flags (bit_not w64 moved)))) (k * size_of work.kind.elem) (size_of work.kind.elem) ≡ new_element work cells r (first + k)
      unfolding new_element
      left_element alone =
          let elem = work.kind.elem in
          let size = size_of elem in
          let fl = bit_and old_flags (bit_not w64 moved) in
          let byte : Cell → ℕ = λ cell. cell.0 in
          let flag : Cell → Bool = λ cell. cell.1 in
          let clear : (j : ℕ) → k * size ≤ j → j < k * size + size → has_bit moved j ≡ false = λ j from to. moved_here j from to ∙ ap not alone in
          let here : place + k * size ≡ place_in (destination work) r (first + k) = omega (arith, place_is) in
          part_of_zip (take n chosen) (flags_of n fl) (k * size) size
          ∙ ap (λ bytes. zip bytes (part (flags_of n fl) (k * size) size))
          (part_of_take n chosen (k * size) size q_inside
          ∙ same_part 0 old chosen (k * size) size (chosen_long ∙ sym old_long) (λ j from to. chosen_is j (omega (arith, q_inside, n_is)) ∙ cond-false (has_bit moved j) (get_or bytes j 0) (get_or old j 0) (clear j from to))
          ∙ sym (part_of_take n old (k * size) size q_inside)
          ∙ ap (λ items. part items (k * size) size) old_is
          ∙ part_of_map byte (part cells place n) (k * size) size
          ∙ ap (map byte) (part_of_part cells place n (k * size) size q_inside))
          ∙ ap (zip (map byte (part cells (place + k * size) size)))
          (same_part false (flags_of n old_flags) (flags_of n fl) (k * size) size (length_flags_of n fl ∙ sym (length_flags_of n old_flags))
          (λ j from to.
          flag_of_bit n fl j false (omega (arith, q_inside))
          ∙ others_stay old_flags moved j moved_small (omega (arith, q_inside, n_is)) (clear j from to)
          ∙ sym (flag_of_bit n old_flags j false (omega (arith, q_inside))))
          ∙ ap (λ items. part items (k * size) size) old_flags_are
          ∙ part_of_map flag (part cells place n) (k * size) size
          ∙ ap (map flag) (part_of_part cells place n (k * size) size q_inside))
          ∙ zip_back (part cells (place + k * size) size)
          ∙ ap (λ p. part cells p size) here
          ∙ sym (cond-true (is_left_alone work cells r (first + k)) _ _ alone)

    pub moved_put : with_flags (with_bytes cells place (take n chosen)) place (flags_of n (bit_and old_flags (bit_not w64 moved))) ≡ overwritten cells (place_in (destination work) r first) (new_elements work cells r first count)
    moved_put =
        let front = take n chosen in
        let fl = bit_and old_flags (bit_not w64 moved) in
        let long : length front ≡ n = length-take-le n chosen (omega (arith, chosen_long)) in
        flags_put cells place front (omega (arith, long)) (flags_of n fl) (length_flags_of n fl ∙ sym long)
        ∙ there (zip front (flags_of n fl))
        (one_by_one work cells r first count (zip front (flags_of n fl)) (omega (arith, length-zip front (flags_of n fl), long, length_flags_of n fl, n_is))
        (λ k below. elim (cases_Bool (is_left_alone work cells r (first + k))) [ inl alone ↦ left_element k below alone | inr moves ↦ moved_element k below moves ]))
