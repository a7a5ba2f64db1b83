-- Flags in words: what a change of one word, and one change after another, does to them.
use Rattle.std.proofs.Common.{◌≡◌, ℕ, ◌+◌, ◌-◌, ◌/◌, ◌%◌, ◌<◌, ◌≤◌, ◌≢◌, inl, inr, ap, sym, subst, ◌∙◌, refl, arith, List, length, set, get_or}
use Rattle.std.proofs.lemmas.Bool.{cases_eq, cases_lt}
use Rattle.std.specs.Prelude.{Bool}
use mir.Val.{bool_byte}
use Rattle.std.specs.Global.{Vec}
use Rattle.std.specs.Vec.{with_items}
use Rattle.std.proofs.lemmas.List.{length-set, get_or-set_same, get_or-set_other, with_items_is}
use Rattle.spad_store.specs.Packed.{has_bit, flag_in, HasPut}
use Rattle.spad_store.proofs.Bits.{one_flag}

-- a flag is a bit of its word
pub flag_is_bit : (words : List ℕ) (place at i : ℕ) → place / 64 ≡ at → place % 64 ≡ i → flag_in words place ≡ has_bit (get_or words at 0) i
unfolding flag_in
flag_is_bit words place at i word bit = ap (λ w. has_bit (get_or words w 0) (place % 64)) word ∙ ap (has_bit (get_or words at 0)) bit

-- one word changes, at some of its places
module _ (words : List ℕ) (place count new : ℕ) (flag : ℕ → Bool) (inside : place / 64 < length words) (in_word : place % 64 + count ≤ 64) where
  pub record IsChanged : Type 0 where
    pub put : (k : ℕ) → k < count → has_bit new (place % 64 + k) ≡ flag k
    pub below : (i : ℕ) → i < place % 64 → has_bit new i ≡ has_bit (get_or words (place / 64) 0) i
    pub behind : (i : ℕ) → place % 64 + count ≤ i → i < 64 → has_bit new i ≡ has_bit (get_or words (place / 64) 0) i

  here : (p : ℕ) → p / 64 ≡ place / 64 → flag_in (set words (place / 64) new) p ≡ has_bit new (p % 64)
  here p same = flag_is_bit (set words (place / 64) new) p (place / 64) (p % 64) same refl ∙ ap (λ w. has_bit w (p % 64)) (get_or-set_same words (place / 64) new 0 inside)

  elsewhere : (p : ℕ) → p / 64 ≢ place / 64 → flag_in (set words (place / 64) new) p ≡ flag_in words p
  elsewhere p other =
      flag_is_bit (set words (place / 64) new) p (p / 64) (p % 64) refl refl
      ∙ ap (λ w. has_bit w (p % 64)) (get_or-set_other words (place / 64) (p / 64) new 0 other)
      ∙ sym (flag_is_bit words p (p / 64) (p % 64) refl refl)

  kept : (p : ℕ) → (p / 64 ≡ place / 64 → has_bit new (p % 64) ≡ has_bit (get_or words (place / 64) 0) (p % 64)) → flag_in (set words (place / 64) new) p ≡ flag_in words p
  kept p bit =
      elim (cases_eq (p / 64) (place / 64)) [
        | inl same ↦ here p same ∙ bit same ∙ sym (flag_is_bit words p (place / 64) (p % 64) same refl)
        | inr other ↦ elsewhere p other
      ]

  pub one_word_put : IsChanged → HasPut words (set words (place / 64) new) place count flag
  one_word_put changed = record {
    same_length = length-set words (place / 64) new;
    inside = λ k below.
        let same : (place + k) / 64 ≡ place / 64 = omega arith in
        let bit : (place + k) % 64 ≡ place % 64 + k = omega arith in
        here (place + k) same ∙ ap (has_bit new) bit ∙ changed.put k below;
    below = λ p before. kept p (λ same. changed.below (p % 64) (omega arith));
    behind = λ p after. kept p (λ same. changed.behind (p % 64) (omega arith) (omega arith));
  }

pub put_nothing : (words : List ℕ) (place : ℕ) (flag : ℕ → Bool) → HasPut words words place 0 flag
put_nothing words place flag = record {
  same_length = refl;
  inside = λ k none. absurd (omega arith);
  below = λ p before. refl;
  behind = λ p after. refl;
}

-- one change behind another
pub put_both : (first middle last : List ℕ) (place count more : ℕ) (flag more_flags : ℕ → Bool) → HasPut first middle place count flag → HasPut middle last (place + count) more more_flags → ((k : ℕ) → k < more → more_flags k ≡ flag (count + k)) → HasPut first last place (count + more) flag
put_both first middle last place count more flag more_flags one two same = record {
  same_length = two.same_length ∙ one.same_length;
  inside = λ k below.
      elim (cases_lt k count) [
        | inl before ↦ two.below (place + k) (omega arith) ∙ one.inside k before
        | inr behind ↦
            let there : place + k ≡ (place + count) + (k - count) = omega arith in
            let counted : count + (k - count) ≡ k = omega arith in
            ap (flag_in last) there ∙ two.inside (k - count) (omega arith) ∙ same (k - count) (omega arith) ∙ ap flag counted
      ];
  below = λ p before. two.below p (omega arith) ∙ one.below p before;
  behind = λ p after. two.behind p (omega arith) ∙ one.behind p (omega arith);
}

-- the same flags by other words
pub put_same : (before after : List ℕ) (place count : ℕ) (flag other : ℕ → Bool) → HasPut before after place count flag → ((k : ℕ) → k < count → flag k ≡ other k) → HasPut before after place count other
put_same before after place count flag other put same = record {
  same_length = put.same_length;
  inside = λ k below. put.inside k below ∙ same k below;
  below = put.below;
  behind = put.behind;
}

-- the flag of one place
pub put_one : (before after : List ℕ) (place bits : ℕ) (flag : Bool) → bits ≡ bool_byte flag → HasPut before after place 1 (has_bit bits) → HasPut before after place 1 (λ _. flag)
put_one before after place bits flag is put =
    put_same before after place 1 (has_bit bits) (λ _. flag) put
    (λ k below. let first : k ≡ 0 = omega arith in ap (has_bit bits) first ∙ one_flag flag bits is)

-- in a vector of words
pub put_in_vector : (words : Vec ℕ) (before after : List ℕ) (place count : ℕ) (flag : ℕ → Bool) → before ≡ words.items → HasPut before after place count flag → HasPut words.items (with_items words after).items place count flag
put_in_vector words before after place count flag same put =
    let long : length after ≡ words.len = put.same_length ∙ ap length same ∙ sym words.ok.0 in
    subst (λ last. HasPut words.items last place count flag) (sym (with_items_is words after long)) (subst (λ first. HasPut first after place count flag) same put)
