-- What is kept before the first word.
use Rattle.std.proofs.Common.{◌≡◌, ℕ, zero, suc, List, [], length, map, Some, None, refl, sym, ap, subst, ◌∙◌, arith, Contains}
use Rattle.std.specs.Prelude.{slice_get}
use Rattle.std.proofs.Math.Seq.{take-nil}
use Rattle.std.proofs.lemmas.List.Elements.{All-nil}
use Rattle.image_loader.specs.Table.{array_limit}
use Rattle.ven_io.specs.Tokens.{Here, TokensTo}
use Rattle.venice_asm.specs.Words.{language}
use Rattle.venice_isa.specs.declared.instr.Version.TheVariants.{One}
use Rattle.venice_asm.specs.declared.phase.Phase.TheVariants as phases
use Rattle.venice_asm.specs.declared.phase.Section.TheVariants as sections
use Rattle.venice_asm.specs.declared.reading.Reading.{Reading}
use Rattle.venice_asm.specs.Faults.{AreApart}
use Rattle.venice_asm.specs.Lines.{IsInRange}
use Rattle.venice_asm.specs.Parts.{raw_array}
use Rattle.venice_asm.specs.Steps.{Keeps, AreInstrs, AreReferences, IsReferenceOf, IsReading, AtStart}

pub record IsNew (r : Reading) : Type 0 where
  pub version : r.version ≡ One
  pub section : r.section ≡ sections.Version
  pub phase : r.phase ≡ phases.Start
  pub arrays : r.arrays.items ≡ []
  pub array_count : r.array_count ≡ 0
  pub labels : r.labels.entries ≡ []
  pub instrs : r.instrs.items ≡ []
  pub references : r.references.items ≡ []
  pub from : r.from ≡ 0

none_there : {X : Type 0} (k : ℕ) (x : X) → slice_get [] k ≡ Some x → ⊥
none_there zero x e = absurd (cc)
none_there (suc k) x e = absurd (cc)

not_in_nothing : {X : Type 0} (x : X) → Contains [] x → ⊥
not_in_nothing x (k, less, is) = absurd (omega arith)

apart_nothing : AreApart []
apart_nothing = record { each = λ k name is. absurd (none_there k name is) }

no_instrs : AreInstrs [] []
no_instrs = record { count = refl; each = λ k s instr there is. absurd (none_there k instr is) }

no_references : (text : List ℕ) → AreReferences text [] []
no_references text = record {
  each = All-nil (IsReferenceOf text []);
  all = λ target at is. absurd (none_there is.k _ is.line);
  jumps = λ k s target there is. absurd (none_there k s there);
  rising = λ j k one other less is there. absurd (none_there j one is);
}

keeps_nothing : (text : List ℕ) (r : Reading) → IsNew r → Keeps text [] None r
keeps_nothing text r n = record {
  ranges = All-nil IsInRange;
  version = n.version;
  section = sym (ap Some n.section);
  spad = λ number has. absurd (not_in_nothing _ has);
  memory = λ number has. absurd (not_in_nothing _ has);
  arrays = ap (map raw_array) n.arrays ∙ sym (take-nil array_limit);
  array_count = n.array_count;
  labels = n.labels;
  apart = apart_nothing;
  instrs = subst (AreInstrs []) (sym n.instrs) no_instrs;
  few = let none = ap length n.instrs in omega arith;
  references = subst (AreReferences text []) (sym n.references) (no_references text);
}

pub starts : (text : List ℕ) (r : Reading) → IsNew r → IsReading text r
starts text r n = record {
  tokens = [];
  read = subst (λ to. TokensTo language text 0 [] to) (sym n.from) (Here 0);
  within = let at = n.from in omega arith;
  at = AtStart [] n.phase (keeps_nothing text r n);
}
