-- What is read is spelled so, and what is spelled is read again.
use Rattle.std.proofs.Common.{◌≡◌, ℕ, zero, suc, ◌+◌, ◌*◌, ◌<◌, ◌≤◌, ◌^◌, List, [], ◌∷◌, ◌++◌, length, get_or, take, drop, refl, sym, ap, ◌∙◌, arith, append_assoc}
use Rattle.std.specs.Prelude.{slice_index}
use Rattle.std.specs.Int.{w32, from_le_bytes}
use Rattle.std.specs.List.{flat_map}
use Rattle.std.proofs.Math.Seq.{drop-cons}
use Rattle.std.proofs.lemmas.List.{take-append-drop, drop-drop, take_at, drop_at, get_or-append-add, length-append}
use Rattle.std.proofs.lemmas.List.Concat.{flat_map-cons}
use Rattle.std.proofs.lemmas.Nat.{le_bytes_4, from_le_bytes-to_le_bytes_4}
use Rattle.venice_isa.specs.declared.instr.Instr.{Instr}
use Rattle.venice_isa.specs.declared.instr.Instr.TheVariants.{Halt}
use Rattle.venice_isa.specs.Cell.{part}
use Rattle.venice_isa.specs.Encoding.{encoded}
use Rattle.image_loader.specs.Table.{RawEntry, entry_size, place_from}
use Rattle.image_loader.specs.Image.{word, entry_bytes, table_bytes}
use Rattle.image_loader.specs.Reading.{number_at, eight_at, entry_at, entries_at}
use Rattle.image_loader.proofs.Slots.{places_grow}

-- ---- what is read is spelled so

abbrev pub AreBytes : List ℕ → Type 0
AreBytes bytes = (i : ℕ) → get_or bytes i 0 < 256

pub one_byte : (bytes : List ℕ) (p : ℕ) → p < length bytes → drop p bytes ≡ get_or bytes p 0 ∷ drop (p + 1) bytes
one_byte bytes p there =
    let next : p + 1 ≡ suc p = omega arith in
    drop-cons bytes p 0 there ∙ ap (λ q. get_or bytes p 0 ∷ drop q bytes) (sym next)

pub four_bytes : (bytes : List ℕ) (p : ℕ) → p + 4 ≤ length bytes → drop p bytes ≡ get_or bytes p 0 ∷ get_or bytes (p + 1) 0 ∷ get_or bytes (p + 2) 0 ∷ get_or bytes (p + 3) 0 ∷ drop (p + 4) bytes
four_bytes bytes p whole =
    let e1 : p + 1 + 1 ≡ p + 2 = omega arith in
    let e2 : p + 2 + 1 ≡ p + 3 = omega arith in
    let e3 : p + 3 + 1 ≡ p + 4 = omega arith in
    let s0 = one_byte bytes p (omega arith) in
    let s1 = one_byte bytes (p + 1) (omega arith) ∙ ap (λ q. get_or bytes (p + 1) 0 ∷ drop q bytes) e1 in
    let s2 = one_byte bytes (p + 2) (omega arith) ∙ ap (λ q. get_or bytes (p + 2) 0 ∷ drop q bytes) e2 in
    let s3 = one_byte bytes (p + 3) (omega arith) ∙ ap (λ q. get_or bytes (p + 3) 0 ∷ drop q bytes) e3 in
    s0 ∙ ap (λ (t : List ℕ). get_or bytes p 0 ∷ t) (s1 ∙ ap (λ (t : List ℕ). get_or bytes (p + 1) 0 ∷ t) (s2 ∙ ap (λ (t : List ℕ). get_or bytes (p + 2) 0 ∷ t) s3))

pub number_spelled : (bytes : List ℕ) (p : ℕ) → AreBytes bytes → p + 4 ≤ length bytes → drop p bytes ≡ word (number_at bytes p) ++ drop (p + 4) bytes
number_spelled bytes p small whole =
    let b0 = get_or bytes p 0 in
    let b1 = get_or bytes (p + 1) 0 in
    let b2 = get_or bytes (p + 2) 0 in
    let b3 = get_or bytes (p + 3) 0 in
    let fits : AreBytes (b0 ∷ b1 ∷ b2 ∷ b3 ∷ []) = four_fit b0 b1 b2 b3 (small p) (small (p + 1)) (small (p + 2)) (small (p + 3)) in
    let same : word (number_at bytes p) ≡ b0 ∷ b1 ∷ b2 ∷ b3 ∷ [] = le_bytes_4 (b0 ∷ b1 ∷ b2 ∷ b3 ∷ []) (number_at bytes p) refl fits refl in
    four_bytes bytes p whole ∙ ap (λ (t : List ℕ). t ++ drop (p + 4) bytes) (sym same)
  where
    four_fit : (b0 b1 b2 b3 : ℕ) → b0 < 256 → b1 < 256 → b2 < 256 → b3 < 256 → AreBytes (b0 ∷ b1 ∷ b2 ∷ b3 ∷ [])
    four_fit b0 b1 b2 b3 f0 f1 f2 f3 zero = f0
    four_fit b0 b1 b2 b3 f0 f1 f2 f3 (suc zero) = f1
    four_fit b0 b1 b2 b3 f0 f1 f2 f3 (suc (suc zero)) = f2
    four_fit b0 b1 b2 b3 f0 f1 f2 f3 (suc (suc (suc zero))) = f3
    four_fit b0 b1 b2 b3 f0 f1 f2 f3 (suc (suc (suc (suc i)))) = omega arith

pub eight_spelled : (bytes : List ℕ) (p : ℕ) → p + 8 ≤ length bytes → drop p bytes ≡ eight_at bytes p ++ drop (p + 8) bytes
eight_spelled bytes p whole =
    let e5 : p + 4 + 1 ≡ p + 5 = omega arith in
    let e6 : p + 4 + 2 ≡ p + 6 = omega arith in
    let e7 : p + 4 + 3 ≡ p + 7 = omega arith in
    let e8 : p + 4 + 4 ≡ p + 8 = omega arith in
    let first = four_bytes bytes p (omega arith) in
    let second = four_bytes bytes (p + 4) (omega arith) in
    let moved : drop (p + 4) bytes ≡ get_or bytes (p + 4) 0 ∷ get_or bytes (p + 5) 0 ∷ get_or bytes (p + 6) 0 ∷ get_or bytes (p + 7) 0 ∷ drop (p + 8) bytes =
    second ∙ (λ i. get_or bytes (p + 4) 0 ∷ get_or bytes (e5 i) 0 ∷ get_or bytes (e6 i) 0 ∷ get_or bytes (e7 i) 0 ∷ drop (e8 i) bytes) in
    first ∙ ap (λ (t : List ℕ). get_or bytes p 0 ∷ get_or bytes (p + 1) 0 ∷ get_or bytes (p + 2) 0 ∷ get_or bytes (p + 3) 0 ∷ t) moved

pub entry_spelled : (bytes : List ℕ) (p : ℕ) → AreBytes bytes → p + entry_size (entry_at bytes p) ≤ length bytes → drop p bytes ≡ entry_bytes (entry_at bytes p) ++ drop (p + entry_size (entry_at bytes p)) bytes
entry_spelled bytes p small whole =
    let n = get_or bytes p 0 in
    let rows = number_at bytes (p + 3 + n) in
    let columns = number_at bytes (p + 7 + n) in
    let place = number_at bytes (p + 11 + n) in
    let m1 : p + 1 + n + 1 ≡ p + 2 + n = omega arith in
    let m2 : p + 2 + n + 1 ≡ p + 3 + n = omega arith in
    let m3 : p + 3 + n + 4 ≡ p + 7 + n = omega arith in
    let m4 : p + 7 + n + 4 ≡ p + 11 + n = omega arith in
    let m5 : p + 11 + n + 4 ≡ p + (15 + n) = omega arith in
    let first = one_byte bytes p (omega arith) in
    let name : drop (p + 1) bytes ≡ part bytes (p + 1) n ++ drop (p + 1 + n) bytes =
    sym (take-append-drop n (drop (p + 1) bytes)) ∙ ap (λ (t : List ℕ). part bytes (p + 1) n ++ t) (drop-drop n (p + 1) bytes) in
    let kind : drop (p + 1 + n) bytes ≡ get_or bytes (p + 1 + n) 0 ∷ drop (p + 2 + n) bytes = one_byte bytes (p + 1 + n) (omega arith) ∙ ap (λ q. get_or bytes (p + 1 + n) 0 ∷ drop q bytes) m1 in
    let elem : drop (p + 2 + n) bytes ≡ get_or bytes (p + 2 + n) 0 ∷ drop (p + 3 + n) bytes = one_byte bytes (p + 2 + n) (omega arith) ∙ ap (λ q. get_or bytes (p + 2 + n) 0 ∷ drop q bytes) m2 in
    let rows_are : drop (p + 3 + n) bytes ≡ word rows ++ drop (p + 7 + n) bytes = number_spelled bytes (p + 3 + n) small (omega arith) ∙ ap (λ q. word rows ++ drop q bytes) m3 in
    let columns_are : drop (p + 7 + n) bytes ≡ word columns ++ drop (p + 11 + n) bytes = number_spelled bytes (p + 7 + n) small (omega arith) ∙ ap (λ q. word columns ++ drop q bytes) m4 in
    let place_is : drop (p + 11 + n) bytes ≡ word place ++ drop (p + (15 + n)) bytes = number_spelled bytes (p + 11 + n) small (omega arith) ∙ ap (λ q. word place ++ drop q bytes) m5 in
    let rest = drop (p + (15 + n)) bytes in
    let numbers : drop (p + 3 + n) bytes ≡ word rows ++ (word columns ++ (word place ++ rest)) =
    rows_are ∙ ap (λ (t : List ℕ). word rows ++ t) (columns_are ∙ ap (λ (t : List ℕ). word columns ++ t) place_is) in
    let behind : drop (p + 1 + n) bytes ≡ get_or bytes (p + 1 + n) 0 ∷ get_or bytes (p + 2 + n) 0 ∷ (word rows ++ (word columns ++ (word place ++ rest))) =
    kind ∙ ap (λ (t : List ℕ). get_or bytes (p + 1 + n) 0 ∷ t) (elem ∙ ap (λ (t : List ℕ). get_or bytes (p + 2 + n) 0 ∷ t) numbers) in
    let all : drop p bytes ≡ n ∷ (part bytes (p + 1) n ++ (get_or bytes (p + 1 + n) 0 ∷ get_or bytes (p + 2 + n) 0 ∷ (word rows ++ (word columns ++ (word place ++ rest))))) =
    first ∙ ap (λ (t : List ℕ). n ∷ t) (name ∙ ap (λ (t : List ℕ). part bytes (p + 1) n ++ t) behind) in
    all ∙ sym (regroup n (part bytes (p + 1) n) (get_or bytes (p + 1 + n) 0) (get_or bytes (p + 2 + n) 0) (word rows) (word columns) (word place) rest)
  where
    regroup : (n : ℕ) (name : List ℕ) (kind elem : ℕ) (rows columns place rest : List ℕ)
        → (n ∷ (name ++ (kind ∷ elem ∷ (rows ++ (columns ++ place))))) ++ rest ≡ n ∷ (name ++ (kind ∷ elem ∷ (rows ++ (columns ++ (place ++ rest)))))
    regroup n name kind elem rows columns place rest = simp append_assoc

pub table_spelled : (bytes : List ℕ) (count p : ℕ) → AreBytes bytes → place_from p (entries_at bytes count p) count ≤ length bytes → drop p bytes ≡ table_bytes (entries_at bytes count p) ++ drop (place_from p (entries_at bytes count p) count) bytes
unfolding entries_at
table_spelled bytes zero p small whole = refl
table_spelled bytes (suc count) p small whole =
    let entry = entry_at bytes p in
    let next = p + entry_size entry in
    let grows = places_grow next (entries_at bytes count next) zero count (omega arith) in
    let here = entry_spelled bytes p small (omega (arith, whole, grows)) in
    let behind = table_spelled bytes count next small whole in
    let rest = drop (place_from next (entries_at bytes count next) count) bytes in
    here ∙ ap (λ (t : List ℕ). entry_bytes entry ++ t) behind
    ∙ sym (append_assoc (entry_bytes entry) (table_bytes (entries_at bytes count next)) rest)
    ∙ ap (λ (t : List ℕ). t ++ rest) (sym (flat_map-cons entry_bytes entry (entries_at bytes count next)))

pub code_spelled : (bytes : List ℕ) (instrs : List Instr) (p : ℕ) → p + 8 * length instrs ≤ length bytes → ((k : ℕ) → k < length instrs → encoded (get_or instrs k Halt) ≡ eight_at bytes (p + 8 * k)) → drop p bytes ≡ flat_map encoded instrs ++ drop (p + 8 * length instrs) bytes
code_spelled bytes [] p whole each =
    let same : p ≡ p + 8 * 0 = omega arith in
    ap (λ q. drop q bytes) same
code_spelled bytes (instr ∷ instrs) p whole each =
    let n = length instrs in
    let here : encoded instr ≡ eight_at bytes p = each zero (omega arith) ∙ ap (eight_at bytes) (let e : p + 8 * 0 ≡ p = omega arith in e) in
    let end : p + 8 + 8 * n ≡ p + 8 * suc n = omega arith in
    let behind = code_spelled bytes instrs (p + 8) (omega arith)
    (λ k less. each (suc k) (omega arith) ∙ ap (eight_at bytes) (let e : p + 8 * suc k ≡ p + 8 + 8 * k = omega arith in e)) in
    let rest = drop (p + 8 + 8 * n) bytes in
    eight_spelled bytes p (omega arith)
    ∙ ap (λ (t : List ℕ). t ++ drop (p + 8) bytes) (sym here)
    ∙ ap (λ (t : List ℕ). encoded instr ++ t) behind
    ∙ sym (append_assoc (encoded instr) (flat_map encoded instrs) rest)
    ∙ ap (λ (t : List ℕ). t ++ rest) (sym (flat_map-cons encoded instr instrs))
    ∙ ap (λ q. flat_map encoded (instr ∷ instrs) ++ drop q bytes) end

-- ---- what is spelled is read again

pub byte_again : (bytes pre post : List ℕ) (p b : ℕ) → bytes ≡ pre ++ (b ∷ post) → p ≡ length pre → slice_index bytes p ≡ b
byte_again bytes pre post p b parts at =
    let here : p ≡ length pre + 0 = omega arith in
    ap (λ bs. get_or bs p 0) parts ∙ ap (λ q. get_or (pre ++ (b ∷ post)) q 0) here ∙ get_or-append-add pre (b ∷ post) 0 0

pub number_again : (bytes pre post : List ℕ) (p n : ℕ) → bytes ≡ pre ++ (word n ++ post) → p ≡ length pre → n < 2 ^ 32 → number_at bytes p ≡ n
number_again bytes pre post p n parts at small =
    let back = pre ++ (word n ++ post) in
    let l = length pre in
    let h0 : l ≡ l + 0 = omega arith in
    let g0 : get_or back l 0 ≡ get_or (word n ++ post) 0 0 = ap (λ q. get_or back q 0) h0 ∙ get_or-append-add pre (word n ++ post) 0 0 in
    let g1 : get_or back (l + 1) 0 ≡ get_or (word n ++ post) 1 0 = get_or-append-add pre (word n ++ post) 1 0 in
    let g2 : get_or back (l + 2) 0 ≡ get_or (word n ++ post) 2 0 = get_or-append-add pre (word n ++ post) 2 0 in
    let g3 : get_or back (l + 3) 0 ≡ get_or (word n ++ post) 3 0 = get_or-append-add pre (word n ++ post) 3 0 in
    let four : get_or back l 0 ∷ get_or back (l + 1) 0 ∷ get_or back (l + 2) 0 ∷ get_or back (l + 3) 0 ∷ [] ≡ word n = λ i. g0 i ∷ g1 i ∷ g2 i ∷ g3 i ∷ [] in
    ap (λ bs. number_at bs p) parts ∙ ap (number_at back) at ∙ ap (from_le_bytes w32) four ∙ from_le_bytes-to_le_bytes_4 n small

pub eight_again : (bytes pre post : List ℕ) (p : ℕ) (instr : Instr) → bytes ≡ pre ++ (encoded instr ++ post) → p ≡ length pre → eight_at bytes p ≡ encoded instr
unfolding encoded
eight_again bytes pre post p instr parts at =
    let ys = encoded instr ++ post in
    let back = pre ++ ys in
    let l = length pre in
    let h0 : l ≡ l + 0 = omega arith in
    let g0 : get_or back l 0 ≡ get_or ys 0 0 = ap (λ q. get_or back q 0) h0 ∙ get_or-append-add pre ys 0 0 in
    let g1 : get_or back (l + 1) 0 ≡ get_or ys 1 0 = get_or-append-add pre ys 1 0 in
    let g2 : get_or back (l + 2) 0 ≡ get_or ys 2 0 = get_or-append-add pre ys 2 0 in
    let g3 : get_or back (l + 3) 0 ≡ get_or ys 3 0 = get_or-append-add pre ys 3 0 in
    let g4 : get_or back (l + 4) 0 ≡ get_or ys 4 0 = get_or-append-add pre ys 4 0 in
    let g5 : get_or back (l + 5) 0 ≡ get_or ys 5 0 = get_or-append-add pre ys 5 0 in
    let g6 : get_or back (l + 6) 0 ≡ get_or ys 6 0 = get_or-append-add pre ys 6 0 in
    let g7 : get_or back (l + 7) 0 ≡ get_or ys 7 0 = get_or-append-add pre ys 7 0 in
    ap (λ bs. eight_at bs p) parts ∙ ap (eight_at back) at ∙ (λ i. g0 i ∷ g1 i ∷ g2 i ∷ g3 i ∷ g4 i ∷ g5 i ∷ g6 i ∷ g7 i ∷ [])

-- the numbers of an entry fit their bytes
pub record Fits (entry : RawEntry) : Type 0 where
  pub name_length : entry.name_length ≡ length entry.name
  pub rows : entry.rows < 2 ^ 32
  pub columns : entry.columns < 2 ^ 32
  pub place : entry.place < 2 ^ 32

pub entry_length : (entry : RawEntry) → Fits entry → length (entry_bytes entry) ≡ entry_size entry
entry_length entry fits =
    omega (arith, fits.name_length, length-append entry.name (entry.kind ∷ entry.elem ∷ (word entry.rows ++ (word entry.columns ++ word entry.place))))

-- an entry whose name has n bytes
abbrev read_with : List ℕ → ℕ → ℕ → RawEntry
read_with bytes p n = record { name_length = n; name = part bytes (p + 1) n; kind = slice_index bytes (p + 1 + n); elem = slice_index bytes (p + 2 + n); rows = number_at bytes (p + 3 + n); columns = number_at bytes (p + 7 + n); place = number_at bytes (p + 11 + n) }

pub entry_again : (bytes pre post : List ℕ) (p : ℕ) (entry : RawEntry) → Fits entry → bytes ≡ pre ++ (entry_bytes entry ++ post) → p ≡ length pre → entry_at bytes p ≡ entry
entry_again bytes pre post p entry fits parts at =
    let n = entry.name_length in
    let name = entry.name in
    let kind = entry.kind in
    let elem = entry.elem in
    let rows = entry.rows in
    let columns = entry.columns in
    let place = entry.place in
    let pre1 = pre ++ (n ∷ name) in
    let long1 : length pre1 ≡ length pre + (1 + length name) = length-append pre (n ∷ name) ∙ (let e : length pre + length (n ∷ name) ≡ length pre + (1 + length name) = omega arith in e) in
    let pre2 = pre ++ (n ∷ (name ++ (kind ∷ []))) in
    let long2 : length pre2 ≡ length pre + (2 + length name) = length-append pre (n ∷ (name ++ (kind ∷ []))) ∙ (let e : length pre + length (n ∷ (name ++ (kind ∷ []))) ≡ length pre + (2 + length name) = omega (arith, length-append name (kind ∷ [])) in e) in
    let pre3 = pre ++ (n ∷ (name ++ (kind ∷ elem ∷ []))) in
    let long3 : length pre3 ≡ length pre + (3 + length name) = length-append pre (n ∷ (name ++ (kind ∷ elem ∷ []))) ∙ (let e : length pre + length (n ∷ (name ++ (kind ∷ elem ∷ []))) ≡ length pre + (3 + length name) = omega (arith, length-append name (kind ∷ elem ∷ [])) in e) in
    let pre4 = pre3 ++ word rows in
    let long4 : length pre4 ≡ length pre + (7 + length name) = omega (arith, length-append pre3 (word rows), long3) in
    let pre5 = pre4 ++ word columns in
    let long5 : length pre5 ≡ length pre + (11 + length name) = omega (arith, length-append pre4 (word columns), long4) in
    let n_is : slice_index bytes p ≡ n = byte_again bytes pre ((name ++ (kind ∷ elem ∷ (word rows ++ (word columns ++ word place)))) ++ post) p n parts at in
    let kind_is : slice_index bytes (p + 1 + n) ≡ kind =
    byte_again bytes pre1 (elem ∷ (word rows ++ (word columns ++ (word place ++ post)))) (p + 1 + n) kind (parts ∙ group1 pre post n name kind elem (word rows) (word columns) (word place)) (omega (arith, long1, fits.name_length)) in
    let elem_is : slice_index bytes (p + 2 + n) ≡ elem =
    byte_again bytes pre2 (word rows ++ (word columns ++ (word place ++ post))) (p + 2 + n) elem (parts ∙ group2 pre post n name kind elem (word rows) (word columns) (word place)) (omega (arith, long2, fits.name_length)) in
    let rows_is : number_at bytes (p + 3 + n) ≡ rows =
    number_again bytes pre3 (word columns ++ (word place ++ post)) (p + 3 + n) rows (parts ∙ group3 pre post n name kind elem (word rows) (word columns) (word place)) (omega (arith, long3, fits.name_length)) fits.rows in
    let columns_is : number_at bytes (p + 7 + n) ≡ columns =
    number_again bytes pre4 (word place ++ post) (p + 7 + n) columns (parts ∙ group4 pre post n name kind elem (word rows) (word columns) (word place)) (omega (arith, long4, fits.name_length)) fits.columns in
    let place_is : number_at bytes (p + 11 + n) ≡ place =
    number_again bytes pre5 post (p + 11 + n) place (parts ∙ group5 pre post n name kind elem (word rows) (word columns) (word place)) (omega (arith, long5, fits.name_length)) fits.place in
    let pre0 = pre ++ (n ∷ []) in
    let long0 : length pre0 ≡ p + 1 = omega (arith, length-append pre (n ∷ [])) in
    let tail = kind ∷ elem ∷ (word rows ++ (word columns ++ (word place ++ post))) in
    let name_is : part bytes (p + 1) n ≡ name =
    ap (λ bs. take n (drop (p + 1) bs)) (parts ∙ group0 pre post n name kind elem (word rows) (word columns) (word place))
    ∙ ap (take n) (drop_at pre0 (name ++ tail) (p + 1) long0) ∙ take_at name tail n (sym fits.name_length) in
    ap (read_with bytes p) n_is ∙ λ i. record { name_length = n; name = name_is i; kind = kind_is i; elem = elem_is i; rows = rows_is i; columns = columns_is i; place = place_is i }
  where
    group0 : (pre post : List ℕ) (n : ℕ) (name : List ℕ) (kind elem : ℕ) (rows columns place : List ℕ) → pre ++ ((n ∷ (name ++ (kind ∷ elem ∷ (rows ++ (columns ++ place))))) ++ post) ≡ (pre ++ (n ∷ [])) ++ (name ++ (kind ∷ elem ∷ (rows ++ (columns ++ (place ++ post)))))
    group0 pre post n name kind elem rows columns place = simp append_assoc

    group1 : (pre post : List ℕ) (n : ℕ) (name : List ℕ) (kind elem : ℕ) (rows columns place : List ℕ) → pre ++ ((n ∷ (name ++ (kind ∷ elem ∷ (rows ++ (columns ++ place))))) ++ post) ≡ (pre ++ (n ∷ name)) ++ (kind ∷ (elem ∷ (rows ++ (columns ++ (place ++ post)))))
    group1 pre post n name kind elem rows columns place = simp append_assoc

    group2 : (pre post : List ℕ) (n : ℕ) (name : List ℕ) (kind elem : ℕ) (rows columns place : List ℕ) → pre ++ ((n ∷ (name ++ (kind ∷ elem ∷ (rows ++ (columns ++ place))))) ++ post) ≡ (pre ++ (n ∷ (name ++ (kind ∷ [])))) ++ (elem ∷ (rows ++ (columns ++ (place ++ post))))
    group2 pre post n name kind elem rows columns place = simp append_assoc

    group3 : (pre post : List ℕ) (n : ℕ) (name : List ℕ) (kind elem : ℕ) (rows columns place : List ℕ) → pre ++ ((n ∷ (name ++ (kind ∷ elem ∷ (rows ++ (columns ++ place))))) ++ post) ≡ (pre ++ (n ∷ (name ++ (kind ∷ elem ∷ [])))) ++ (rows ++ (columns ++ (place ++ post)))
    group3 pre post n name kind elem rows columns place = simp append_assoc

    group4 : (pre post : List ℕ) (n : ℕ) (name : List ℕ) (kind elem : ℕ) (rows columns place : List ℕ) → pre ++ ((n ∷ (name ++ (kind ∷ elem ∷ (rows ++ (columns ++ place))))) ++ post) ≡ ((pre ++ (n ∷ (name ++ (kind ∷ elem ∷ [])))) ++ rows) ++ (columns ++ (place ++ post))
    group4 pre post n name kind elem rows columns place = simp append_assoc

    group5 : (pre post : List ℕ) (n : ℕ) (name : List ℕ) (kind elem : ℕ) (rows columns place : List ℕ) → pre ++ ((n ∷ (name ++ (kind ∷ elem ∷ (rows ++ (columns ++ place))))) ++ post) ≡ (((pre ++ (n ∷ (name ++ (kind ∷ elem ∷ [])))) ++ rows) ++ columns) ++ (place ++ post)
    group5 pre post n name kind elem rows columns place = simp append_assoc

-- entries one after another
abbrev pub AllFit : List RawEntry → Type 0
AllFit [] = Unit {0}
AllFit (entry ∷ entries) = Fits entry × AllFit entries

pub entries_again : (bytes pre post : List ℕ) (p : ℕ) (entries : List RawEntry) → AllFit entries → bytes ≡ pre ++ (table_bytes entries ++ post) → p ≡ length pre → entries_at bytes (length entries) p ≡ entries
unfolding entries_at
entries_again bytes pre post p [] fits parts at = refl
entries_again bytes pre post p (entry ∷ entries) fits parts at =
    let rest = table_bytes entries ++ post in
    let regrouped : bytes ≡ pre ++ (entry_bytes entry ++ rest) =
    parts ∙ ap (λ (t : List ℕ). pre ++ (t ++ post)) (flat_map-cons entry_bytes entry entries) ∙ ap (λ (t : List ℕ). pre ++ t) (append_assoc (entry_bytes entry) (table_bytes entries) post) in
    let here : entry_at bytes p ≡ entry = entry_again bytes pre rest p entry fits.0 regrouped at in
    let next_parts : bytes ≡ (pre ++ entry_bytes entry) ++ rest = regrouped ∙ sym (append_assoc pre (entry_bytes entry) rest) in
    let size : entry_size (entry_at bytes p) ≡ entry_size entry = ap entry_size here in
    let next_at : p + entry_size (entry_at bytes p) ≡ length (pre ++ entry_bytes entry) = omega (arith, size, length-append pre (entry_bytes entry), entry_length entry fits.0) in
    let behind : entries_at bytes (length entries) (p + entry_size (entry_at bytes p)) ≡ entries = entries_again bytes (pre ++ entry_bytes entry) post (p + entry_size (entry_at bytes p)) entries fits.1 next_parts next_at in
    λ i. here i ∷ behind i

pub table_length : (start : ℕ) (entries : List RawEntry) → AllFit entries → place_from start entries (length entries) ≡ start + length (table_bytes entries)
table_length start [] fits = omega arith
table_length start (entry ∷ entries) fits =
    omega (arith, table_length (start + entry_size entry) entries fits.1, entry_length entry fits.0, ap (λ (t : List ℕ). length t) (flat_map-cons entry_bytes entry entries), length-append (entry_bytes entry) (table_bytes entries))

encoded_length : (instr : Instr) → length (encoded instr) ≡ 8
unfolding encoded
encoded_length instr = refl

pub code_length : (instrs : List Instr) → length (flat_map encoded instrs) ≡ 8 * length instrs
code_length [] = refl
code_length (instr ∷ instrs) =
    omega (arith, code_length instrs, encoded_length instr, ap (λ (t : List ℕ). length t) (flat_map-cons encoded instr instrs), length-append (encoded instr) (flat_map encoded instrs))

pub instr_again : (bytes pre : List ℕ) (p : ℕ) (instrs : List Instr) (k : ℕ) → k < length instrs → bytes ≡ pre ++ flat_map encoded instrs → p ≡ length pre → eight_at bytes (p + 8 * k) ≡ encoded (get_or instrs k Halt)
instr_again bytes pre p [] k less parts at = absurd (omega arith)
instr_again bytes pre p (instr ∷ instrs) zero less parts at =
    let here : p + 8 * 0 ≡ length pre = omega arith in
    eight_again bytes pre (flat_map encoded instrs) (p + 8 * 0) instr (parts ∙ ap (λ (t : List ℕ). pre ++ t) (flat_map-cons encoded instr instrs)) here
instr_again bytes pre p (instr ∷ instrs) (suc k) less parts at =
    let there : p + 8 * suc k ≡ p + 8 + 8 * k = omega arith in
    let next_parts : bytes ≡ (pre ++ encoded instr) ++ flat_map encoded instrs =
    parts ∙ ap (λ (t : List ℕ). pre ++ t) (flat_map-cons encoded instr instrs) ∙ sym (append_assoc pre (encoded instr) (flat_map encoded instrs)) in
    let next_at : p + 8 ≡ length (pre ++ encoded instr) = omega (arith, length-append pre (encoded instr), encoded_length instr) in
    ap (eight_at bytes) there ∙ instr_again bytes (pre ++ encoded instr) (p + 8) instrs k (omega arith) next_parts next_at
