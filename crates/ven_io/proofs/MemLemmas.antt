-- What files in memory hold, from what their map has.
use Rattle.std.proofs.Common.{◌≡◌, ℕ, Bool, true, false, cond, List, [], ◌∷◌, map, Option, Some, string_bytes, refl, sym, ap, ◌∙◌}
use Rattle.std.specs.Ordering.{nat_cmp, is_eq, eq_by_cmp}
use Rattle.std.proofs.lemmas.Cmp.{nat_list_cmp_total, eq_by_cmp_equiv}
use Rattle.std.specs.Cmp.Lexicographic.{slice_cmp}
use Rattle.std.specs.Option.{option_map}
use Rattle.std.specs.Map.{lookup}
use Rattle.std.specs.Str.{bytes_eq}
use Rattle.std.specs.String.{string_cmp}
use Rattle.std.specs.BTreeMap.{BTreeMap, get_by_text, is_at, Updates}
use Rattle.std.specs.Global.{Vec, Global}
use Rattle.std.specs.declared.string.String.{String}
use Rattle.std.proofs.lemmas.Map.Text.{is_eq-slice_cmp, btree_map_updates_text}
use Rattle.std.specs.FinMap as fin
use Rattle.ven_io.specs.MemFiles.{contents_of}

-- a list of files is searched by the bytes of their names
found : (es : List (String Global × Vec ℕ)) (name : List ℕ) →
    fin.find (slice_cmp nat_cmp) name (map (λ e. (string_bytes e.0, e.1.items)) es)
    ≡ option_map (λ bytes. bytes.items) (lookup (is_at (λ k. slice_cmp nat_cmp name (string_bytes k))) es)
found [] name = refl
found (e ∷ es) name =
    elim (is_eq (slice_cmp nat_cmp name (string_bytes e.0))) as (λ b.
    cond b (Some e.1.items) (fin.find (slice_cmp nat_cmp) name (map (λ d. (string_bytes d.0, d.1.items)) es))
    ≡ option_map (λ bytes. bytes.items) (cond b (Some e.1) (lookup (is_at (λ k. slice_cmp nat_cmp name (string_bytes k))) es))) [
      | true ↦ refl
      | false ↦ found es name
    ]

-- what is held at a name is what the map has there
pub get-contents_of : (files : BTreeMap (String Global) (Vec ℕ)) (name : List ℕ) → fin.get (contents_of files) name ≡ option_map (λ bytes. bytes.items) (get_by_text files name)
get-contents_of files name = fin.get-from_entries nat_list_cmp_total _ name ∙ found files.entries name

at : (b : Bool) (value : Vec ℕ) (old : Option (Vec ℕ)) → option_map (λ bytes. bytes.items) (cond b (Some value) old) ≡ cond b (Some value.items) (option_map (λ bytes. bytes.items) old)
at true value old = refl
at false value old = refl

turned : (name other : List ℕ) → bytes_eq name other ≡ eq_by_cmp (slice_cmp nat_cmp) other name
turned name other = sym (is_eq-slice_cmp name other) ∙ (eq_by_cmp_equiv nat_list_cmp_total).symm name other

-- an insertion into the map sets that file
pub contents_of-insert : (before after : BTreeMap (String Global) (Vec ℕ)) (name : String Global) (value : Vec ℕ) → Updates string_cmp before after name (Some value) →
    contents_of after ≡ fin.insert (contents_of before) (string_bytes name) value.items
contents_of-insert before after name value updates =
    fin.same_map nat_list_cmp_total (fin.slice_cmp-IsAntisymmetric fin.nat_cmp-IsAntisymmetric) _ _ (λ other.
    get-contents_of after other
    ∙ ap (option_map (λ bytes. bytes.items)) (btree_map_updates_text (string_bytes name) before after (Some value) updates other)
    ∙ at (bytes_eq (string_bytes name) other) value (get_by_text before other)
    ∙ ap (λ b. cond b (Some value.items) (option_map (λ bytes. bytes.items) (get_by_text before other))) (turned (string_bytes name) other)
    ∙ ap (λ old. cond (eq_by_cmp (slice_cmp nat_cmp) other (string_bytes name)) (Some value.items) old) (sym (get-contents_of before other))
    ∙ sym (fin.get-insert nat_list_cmp_total (contents_of before) (string_bytes name) value.items other))
