-- What a save into memory does, as all files are seen.
use Rattle.std.proofs.Common.{◌≡◌, ◌≢◌, ℕ, true, false, cond, List, Option, Some, Ok, Err, refl, sym, ap, subst, ◌∙◌}
use Rattle.std.specs.Prelude.{IsSome}
use Rattle.std.specs.Ordering.{nat_cmp, eq_by_cmp}
use Rattle.std.proofs.lemmas.Cmp.{nat_list_cmp_total}
use Rattle.std.specs.Cmp.Lexicographic.{slice_cmp}
use Rattle.std.proofs.lemmas.Map.Text.{is_eq-slice_cmp}
use Rattle.std.proofs.lemmas.Slice.Eq.{bytes_eq-Decides}
use Rattle.std.proofs.lemmas.Bool.{false_from_ne_true}
use Rattle.std.specs.FinMap as fin
use Rattle.ven_io.specs.declared.sink.OutFault.TheVariants as out
use Rattle.ven_io.specs.Files.{Saves, OthersStay, SameAt}
use Rattle.ven_io.specs.MemFiles.{FileContents, behaviour_of, OtherFilesStay}
use Rattle.ven_io.specs.Numbers.{FailsSometime}

-- the order of names tells two names apart, and knows a name
other_name : (other name : List ℕ) → other ≢ name → eq_by_cmp (slice_cmp nat_cmp) other name ≡ false
other_name other name apart = is_eq-slice_cmp other name ∙ false_from_ne_true _ (λ same. apart ((bytes_eq-Decides other name).0 same))

same_name : (name : List ℕ) → eq_by_cmp (slice_cmp nat_cmp) name name ≡ true
same_name name = is_eq-slice_cmp name name ∙ (bytes_eq-Decides name name).1 refl

-- a file that was set has its bytes, and every other is as it was
get-insert_same : (held : FileContents) (name bytes : List ℕ) → fin.get (fin.insert held name bytes) name ≡ Some bytes
get-insert_same held name bytes = fin.get-insert nat_list_cmp_total held name bytes name ∙ ap (λ b. cond b (Some bytes) (fin.get held name)) (same_name name)

insert-others : (held : FileContents) (name bytes : List ℕ) → OtherFilesStay held (fin.insert held name bytes) name
insert-others held name bytes other apart =
    fin.get-insert nat_list_cmp_total held name bytes other ∙ ap (λ b. cond b (Some bytes) (fin.get held other)) (other_name other name apart)

-- a file that is as it was behaves as it did
same_at : (before after : FileContents) (fails name : List ℕ) → fin.get after name ≡ fin.get before name
    → SameAt (behaviour_of (record { holds = before; fails = fails })) (behaviour_of (record { holds = after; fails = fails })) name
same_at before after fails name same = record {
  shows = λ content. (λ e. e ∙ same, λ e. e ∙ sym same);
  load_may_fail = (λ p. (subst (λ (found : Option (List ℕ)). IsSome found) same p.0, p.1), λ p. (subst (λ (found : Option (List ℕ)). IsSome found) (sym same) p.0, p.1));
  save_may_fail = (λ e. e, λ e. e);
}

others : (before after : FileContents) (fails name bytes : List ℕ) → after ≡ fin.insert before name bytes
    → OthersStay (behaviour_of (record { holds = before; fails = fails })) (behaviour_of (record { holds = after; fails = fails })) name
others before after fails name bytes set other apart =
    same_at before after fails other (ap (λ (h : FileContents). fin.get h other) set ∙ insert-others before name bytes other apart)

-- a save that was made
pub saved : (before after : FileContents) (fails fails_now name bytes : List ℕ) → fails_now ≡ fails → after ≡ fin.insert before name bytes
    → Saves (behaviour_of (record { holds = before; fails = fails })) (behaviour_of (record { holds = after; fails = fails_now })) name bytes (Ok tt)
saved before after fails fails_now name bytes same set =
    subst (λ (f : List ℕ). Saves (behaviour_of (record { holds = before; fails = fails })) (behaviour_of (record { holds = after; fails = f })) name bytes (Ok tt)) (sym same)
    (sym (ap (λ (h : FileContents). fin.get h name) set ∙ get-insert_same before name bytes), others before after fails name bytes set)

-- a save that failed, and left other bytes
pub save_failed : (before after : FileContents) (fails fails_now name bytes left : List ℕ) → fails_now ≡ fails → FailsSometime fails → after ≡ fin.insert before name left
    → Saves (behaviour_of (record { holds = before; fails = fails })) (behaviour_of (record { holds = after; fails = fails_now })) name bytes (Err out.Failed)
save_failed before after fails fails_now name bytes left same sometime set =
    subst (λ (f : List ℕ). Saves (behaviour_of (record { holds = before; fails = fails })) (behaviour_of (record { holds = after; fails = f })) name bytes (Err out.Failed)) (sym same)
    (sometime, others before after fails name left set)
