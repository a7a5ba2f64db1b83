-- The list of halvings, from one to the next.
use Rattle.std.proofs.Common.{◌≡◌, ℕ, zero, suc, ◌+◌, ◌-◌, ◌/◌, ◌<◌, ◌≤◌, inl, inr, ap, sym, ◌∙◌, refl, arith, lit<, List, [], ◌∷◌, ◌++◌, append_assoc, append-nil, Bool}
use Rattle.std.specs.Prelude.{nat_le}
use Rattle.std.proofs.lemmas.Nat.{div-add-mod', mod_below}
use Rattle.std.proofs.lemmas.Bool.{cases_lt, cond-true, cond-false, le-leb, lt-leb}
use Rattle.ven_base.specs.declared.elem.Elem.{Elem}
use Rattle.venice_isa.specs.declared.work.VecWork.{VecWork}
use Rattle.vector_codegen.specs.Work.{Shape}
use Rattle.vector_codegen.specs.Root.{halving_work, halvings}

module _ (shape : Shape) (least : Bool) (elem : Elem) (k left : ℕ) (some : 1 ≤ left) where
  pub halvings_end : (turns m : ℕ) → m ≤ left → halvings turns shape least elem k left m ≡ []
  halvings_end zero m few = refl
  halvings_end (suc turns) m few = cond-true (nat_le m left) _ _ (le-leb m left few)

  go_on : (turns m : ℕ) → left < m → halvings (suc turns) shape least elem k left m ≡ halving_work shape least elem k (m / 2) (m - m / 2) ∷ halvings turns shape least elem k left (m - m / 2)
  go_on turns m more = cond-false (nat_le m left) _ _ (lt-leb m left more)

  -- it doesn't matter how many turns there may be, where they are enough
  enough : (turns turns' m : ℕ) → m ≤ turns + left → m ≤ turns' + left → halvings turns shape least elem k left m ≡ halvings turns' shape least elem k left m
  enough zero turns' m few few' = sym (halvings_end turns' m (omega arith))
  enough (suc turns) zero m few few' = halvings_end (suc turns) m (omega arith)
  enough (suc turns) (suc turns') m few few' =
      elim (cases_lt left m) [
        | inr no_more ↦ halvings_end (suc turns) m (omega arith) ∙ sym (halvings_end (suc turns') m (omega arith))
        | inl more ↦
            let split = div-add-mod' m 2 in
            let rest = mod_below m 2 (lit< tt) in
            go_on turns m more ∙ ap (λ works. halving_work shape least elem k (m / 2) (m - m / 2) ∷ works) (enough turns turns' (m - m / 2) (omega (arith, split, rest)) (omega (arith, split, rest))) ∙ sym (go_on turns' m more)
      ]

  next : (m : ℕ) → left < m → halvings m shape least elem k left m ≡ halving_work shape least elem k (m / 2) (m - m / 2) ∷ halvings (m - m / 2) shape least elem k left (m - m / 2)
  next m more =
      let split = div-add-mod' m 2 in
      let rest = mod_below m 2 (lit< tt) in
      enough m (suc (m - 1)) m (omega arith) (omega arith) ∙ go_on (m - 1) m more
      ∙ ap (λ works. halving_work shape least elem k (m / 2) (m - m / 2) ∷ works) (enough (m - 1) (m - m / 2) (m - m / 2) (omega (arith, split, rest)) (omega arith))

  -- a halving is pushed
  pub halving_pushed : (items new whole : List VecWork) (m : ℕ) (work : VecWork) → left < m → new ≡ items ++ work ∷ [] → work ≡ halving_work shape least elem k (m / 2) (m - m / 2)
      → items ++ halvings m shape least elem k left m ≡ whole → new ++ halvings (m - m / 2) shape least elem k left (m - m / 2) ≡ whole
  halving_pushed items new whole m work more pushed is before =
      let rest : List VecWork = halvings (m - m / 2) shape least elem k left (m - m / 2) in
      ap (λ xs. xs ++ rest) (pushed ∙ ap (λ work. items ++ work ∷ []) is)
      ∙ append_assoc items _ rest
      ∙ ap (λ works. items ++ works) (sym (next m more)) ∙ before

  pub halvings_done : (items whole : List VecWork) (m : ℕ) → m ≤ left → items ++ halvings m shape least elem k left m ≡ whole → items ≡ whole
  halvings_done items whole m few before = sym (append-nil items) ∙ ap (λ works. items ++ works) (sym (halvings_end m m few)) ∙ before
