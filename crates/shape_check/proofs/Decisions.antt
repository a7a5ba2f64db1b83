-- What the tests decide.
use Rattle.std.proofs.Common.{◌≡◌, ℕ, ◌+◌, ◌-◌, ◌*◌, ◌<◌, ◌≤◌, refl, sym, subst, arith, Bool, true, false}
use Rattle.std.specs.Prelude.{◌↔◌, ℤ, pos, ◌≤ℤ◌, ◌<ℤ◌, ◌+ℤ◌, neg_ℤ, int_lt, not, ◌&&◌, nat_le, nat_lt, ◌==◌, IsTrue}
use Rattle.std.specs.Bool.{Decides}
use Rattle.std.proofs.lemmas.Bool.{leb-true, le-leb}
use Rattle.std.proofs.lemmas.Bool.Decides.{Decides-and, Decides-ltb, Decides-eqb}
use Rattle.std.proofs.lemmas.Int.{ints}
use lib.Dec.{T}
use lib.Signed.{lt_z_yes, lt_z_no}
use Rattle.ven_base.specs.declared.elem.Elem.{Elem}
use Rattle.ven_base.specs.declared.elem.Elem.TheVariants.{U8, I8, U16, I16, U32, I32}
use Rattle.ven_base.specs.declared.mapping.Mapping.{Mapping}
use Rattle.ven_base.specs.declared.mapping.Mapping.TheVariants as maps
use Rattle.ven_base.specs.Elem.{IsElement, least_of, modulus_of}
use Rattle.ven_base.specs.Extent.{Extent, IsExtent, elements_of, element_limit}
use Rattle.ven_base.specs.Place.{IsMove, IsCut, IsRepeat}
use Rattle.ven_base.specs.Mapping.{FitsShape, result_shape}
use Rattle.shape_check.specs.Judge.{same_elem, same_shape, is_in, is_cut, is_extent, is_repeat, is_move, fits}

-- two tests of one fact answer alike
pub same_answer : {P : Type 0} (a b : Bool) → IsTrue a ↔ P → IsTrue b ↔ P → a ≡ b
same_answer true true h l = refl
same_answer false false h l = refl
same_answer true false h l = absurd (let e : false ≡ true = l.1 (h.0 refl) in cc)
same_answer false true h l = absurd (let e : false ≡ true = h.1 (l.0 refl) in cc)

true_from : (b : Bool) → T b → b ≡ true
true_from true t = refl
true_from false t = absurd t

lt_decides : (a b : ℤ) → Decides (int_lt a b) (a <ℤ b)
lt_decides a b = (λ e. lt_z_yes (subst T (sym e) tt), λ h. true_from (int_lt a b) h.lt)

not_lt_decides : (a b : ℤ) → Decides (not (int_lt a b)) (b ≤ℤ a)
not_lt_decides a b = (λ e. lt_z_no (subst T (sym e) tt), λ h. by (int_lt a b) refl h)
  where
    by : (r : Bool) → int_lt a b ≡ r → b ≤ℤ a → not r ≡ true
    by false e h = refl
    by true e h = let less : a <ℤ b = (lt_decides a b).0 e in absurd (omega (arith, ints))

leb_decides : (a b : ℕ) → Decides (nat_le a b) (a ≤ b)
leb_decides a b = (leb-true a b, le-leb a b)

pub is_in-IsElement : (elem : Elem) (n : ℤ) → IsTrue (is_in elem n) ↔ IsElement elem n
is_in-IsElement elem n =
    let end = least_of elem +ℤ pos (modulus_of elem) in
    let low = int_lt n (least_of elem) in
    let high = int_lt n end in
    let d : Decides (not low && high) ((least_of elem ≤ℤ n) × (n <ℤ end)) = Decides-and (not low) high (not_lt_decides n (least_of elem)) (lt_decides n end) in
    (λ t. let h = d.0 t in record { from_least = h.0; below_end = h.1 }, λ h. d.1 (h.from_least, h.below_end))

is_move-IsMove : (d : ℤ) → Decides (is_move d) (IsMove d)
is_move-IsMove d =
    let low = int_lt d (neg_ℤ (pos 4294967295)) in
    let high = int_lt (pos 4294967295) d in
    let e : Decides (not low && not high) ((neg_ℤ (pos 4294967295) ≤ℤ d) × (d ≤ℤ pos 4294967295)) = Decides-and (not low) (not high) (not_lt_decides d (neg_ℤ (pos 4294967295))) (not_lt_decides (pos 4294967295) d) in
    (λ t. let h = e.0 t in record { least = h.0; most = h.1 }, λ h. e.1 (h.least, h.most))

is_cut-IsCut : (n first count step : ℕ) → Decides (is_cut n first count step) (IsCut n first count step)
is_cut-IsCut n first count step =
    let last = first + (count - 1) * step in
    let rest : Decides (nat_le 1 step && nat_lt last n) ((1 ≤ step) × (last < n)) = Decides-and (nat_le 1 step) (nat_lt last n) (leb_decides 1 step) (Decides-ltb last n) in
    let all : Decides (is_cut n first count step) ((1 ≤ count) × ((1 ≤ step) × (last < n))) = Decides-and (nat_le 1 count) (nat_le 1 step && nat_lt last n) (leb_decides 1 count) rest in
    (λ t. let h = all.0 t in record { some = h.0; moves = h.1.0; inside = h.1.1 }, λ h. all.1 (h.some, (h.moves, h.inside)))

pub is_extent-IsExtent : (shape : Extent) → Decides (is_extent shape) (IsExtent shape)
is_extent-IsExtent shape =
    let few = nat_le (elements_of shape) element_limit in
    let rest : Decides (nat_le 1 shape.cols && few) ((1 ≤ shape.cols) × (elements_of shape ≤ element_limit)) = Decides-and (nat_le 1 shape.cols) few (leb_decides 1 shape.cols) (leb_decides (elements_of shape) element_limit) in
    let all : Decides (is_extent shape) ((1 ≤ shape.rows) × ((1 ≤ shape.cols) × (elements_of shape ≤ element_limit))) = Decides-and (nat_le 1 shape.rows) (nat_le 1 shape.cols && few) (leb_decides 1 shape.rows) rest in
    (λ t. let h = all.0 t in record { some_rows = h.0; some_cols = h.1.0; within = h.1.1 }, λ h. all.1 (h.some_rows, (h.some_cols, h.within)))

is_repeat-IsRepeat : (kr kc : ℕ) (shape : Extent) → Decides (is_repeat kr kc shape) (IsRepeat kr kc shape)
is_repeat-IsRepeat kr kc shape =
    let few = nat_le (elements_of shape) element_limit in
    let rest : Decides (nat_le 1 kc && few) ((1 ≤ kc) × (elements_of shape ≤ element_limit)) = Decides-and (nat_le 1 kc) few (leb_decides 1 kc) (leb_decides (elements_of shape) element_limit) in
    let all : Decides (is_repeat kr kc shape) ((1 ≤ kr) × ((1 ≤ kc) × (elements_of shape ≤ element_limit))) = Decides-and (nat_le 1 kr) (nat_le 1 kc && few) (leb_decides 1 kr) rest in
    (λ t. let h = all.0 t in record { some_rows = h.0; some_cols = h.1.0; within = h.1.1 }, λ h. all.1 (h.some_rows, (h.some_cols, h.within)))

pub fits-FitsShape : (mapping : Mapping) (shape : Extent) → IsTrue (fits mapping shape) ↔ FitsShape mapping shape
fits-FitsShape maps.Identity shape = (λ t. tt, λ h. refl)
fits-FitsShape (maps.Shift dr dc fill) shape = Decides-and (is_move dr) (is_move dc) (is_move-IsMove dr) (is_move-IsMove dc)
fits-FitsShape (maps.Rotate dr dc) shape = Decides-and (is_move dr) (is_move dc) (is_move-IsMove dr) (is_move-IsMove dc)
fits-FitsShape (maps.Section r0 nr sr c0 nc sc) shape =
    Decides-and (is_cut shape.rows r0 nr sr) (is_cut shape.cols c0 nc sc) (is_cut-IsCut shape.rows r0 nr sr) (is_cut-IsCut shape.cols c0 nc sc)
fits-FitsShape (maps.Stretch kr kc) shape = is_repeat-IsRepeat kr kc (result_shape (maps.Stretch kr kc) shape)
fits-FitsShape maps.Transpose shape = (λ t. tt, λ h. refl)

-- ---- types and shapes

pub same_elem-same : (a b : Elem) → same_elem a b ≡ true → a ≡ b
same_elem-same U8 U8 h = refl
same_elem-same I8 I8 h = refl
same_elem-same U16 U16 h = refl
same_elem-same I16 I16 h = refl
same_elem-same U32 U32 h = refl
same_elem-same I32 I32 h = refl
same_elem-same a b h = absurd (cc)

pub same_elem-self : (a : Elem) → same_elem a a ≡ true
same_elem-self U8 = refl
same_elem-self I8 = refl
same_elem-self U16 = refl
same_elem-self I16 = refl
same_elem-self U32 = refl
same_elem-self I32 = refl

pub same_shape-same : (a b : Extent) → same_shape a b ≡ true → a ≡ b
same_shape-same a b h =
    let d : Decides (same_shape a b) ((a.rows ≡ b.rows) × (a.cols ≡ b.cols)) = Decides-and (a.rows == b.rows) (a.cols == b.cols) (Decides-eqb a.rows b.rows) (Decides-eqb a.cols b.cols) in
    let both = d.0 h in
    λ k. record { rows = both.0 k; cols = both.1 k }

pub same_shape-self : (a : Extent) → same_shape a a ≡ true
same_shape-self a =
    let d : Decides (same_shape a a) ((a.rows ≡ a.rows) × (a.cols ≡ a.cols)) = Decides-and (a.rows == a.rows) (a.cols == a.cols) (Decides-eqb a.rows a.rows) (Decides-eqb a.cols a.cols) in
    d.1 (refl, refl)
