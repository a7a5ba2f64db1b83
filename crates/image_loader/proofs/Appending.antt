-- Several appends one after another.
use Rattle.std.proofs.Common.{◌≡◌, ℕ, ◌+◌, ◌<◌, List, [], ◌∷◌, ◌++◌, length, take, get_or, ap, sym, ◌∙◌, append_assoc}
use Rattle.std.proofs.lemmas.List.{append-nil, take_more}
use Rattle.std.proofs.lemmas.List.Concat.{flat_map-cons, flat_map-append}
use Rattle.ven_base.specs.declared.entry.Entry.{Entry}
use Rattle.image_loader.specs.Table.{RawEntry}
use Rattle.image_loader.specs.Image.{entry_bytes, table_bytes, raw_entry, raw_entries}
use Rattle.image_loader.proofs.Stops.{raw_push}

pub five : (s0 s1 s2 s3 s4 s5 a b c d e : List ℕ) → s1 ≡ s0 ++ a → s2 ≡ s1 ++ b → s3 ≡ s2 ++ c → s4 ≡ s3 ++ d → s5 ≡ s4 ++ e → s5 ≡ s0 ++ (a ++ (b ++ (c ++ (d ++ e))))
five s0 s1 s2 s3 s4 s5 a b c d e e1 e2 e3 e4 e5 =
    e5 ∙ ap (λ (s : List ℕ). s ++ e) (e4 ∙ ap (λ (s : List ℕ). s ++ d) (e3 ∙ ap (λ (s : List ℕ). s ++ c) (e2 ∙ ap (λ (s : List ℕ). s ++ b) e1))) ∙ regroup s0 a b c d e
  where
    regroup : (s0 a b c d e : List ℕ) → ((((s0 ++ a) ++ b) ++ c) ++ d) ++ e ≡ s0 ++ (a ++ (b ++ (c ++ (d ++ e))))
    regroup s0 a b c d e = simp append_assoc

-- one entry more
pub table_more : (arrays : List Entry) (k : ℕ) (entry : Entry) (start before after : List ℕ) → k < length arrays → entry ≡ get_or arrays k entry
    → before ≡ start ++ table_bytes (raw_entries (take k arrays)) → after ≡ before ++ entry_bytes (raw_entry entry) → after ≡ start ++ table_bytes (raw_entries (take (k + 1) arrays))
table_more arrays k entry start before after less here so_far more =
    let taken : take (k + 1) arrays ≡ take k arrays ++ entry ∷ [] = take_more arrays k entry less ∙ ap (λ (e : Entry). take k arrays ++ e ∷ []) (sym here) in
    let bytes : table_bytes (raw_entries (take (k + 1) arrays)) ≡ table_bytes (raw_entries (take k arrays)) ++ entry_bytes (raw_entry entry) =
    ap (λ (es : List Entry). table_bytes (raw_entries es)) taken ∙ ap table_bytes (raw_push (take k arrays) entry) ∙ table_push (raw_entries (take k arrays)) (raw_entry entry) in
    more ∙ ap (λ (s : List ℕ). s ++ entry_bytes (raw_entry entry)) so_far ∙ append_assoc start (table_bytes (raw_entries (take k arrays))) (entry_bytes (raw_entry entry)) ∙ ap (λ (s : List ℕ). start ++ s) (sym bytes)
  where
    table_push : (es : List RawEntry) (e : RawEntry) → table_bytes (es ++ e ∷ []) ≡ table_bytes es ++ entry_bytes e
    table_push es e = flat_map-append entry_bytes es (e ∷ []) ∙ ap (λ (s : List ℕ). table_bytes es ++ s) (flat_map-cons entry_bytes e [] ∙ append-nil (entry_bytes e))
