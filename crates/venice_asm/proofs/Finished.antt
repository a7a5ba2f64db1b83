-- What the code answers once the text is read.
use Rattle.std.proofs.Common.{◌≡◌, ℕ, ◌++◌, Bool, true, false, List, length, map, take, drop, None, sym, ap, subst, ◌∙◌}
use Rattle.std.proofs.Math.Seq.{take-append_seam}
use Rattle.std.proofs.lemmas.List.{length-map}
use Rattle.ven_base.specs.declared.entry.Entry.{Entry}
use Rattle.venice_isa.specs.declared.instr.Instr.{Instr}
use Rattle.venice_isa.specs.Code.{IsCode}
use Rattle.image_loader.specs.Image.{ImageContents, IsImage, raw_entry, raw_entries}
use Rattle.image_loader.specs.Table.{BreaksTable}
use Rattle.venice_asm.specs.declared.fault.AsmFault.{AsmFault}
use Rattle.venice_asm.specs.declared.fault.AsmFault.TheVariants as answers
use Rattle.venice_asm.specs.declared.reading.Reading.{Reading}
use Rattle.venice_asm.specs.Faults.{Reads, Resolves, DenotesImage, IsRefused, IsAnswered, AtEnd}
use Rattle.venice_asm.specs.Lines.{TextLine}
use Rattle.venice_asm.specs.Meaning.{entries_of, IsHeaderOf}
use Rattle.venice_asm.specs.Parts.{raw_array}
use Rattle.venice_asm.specs.Resolving.{AreResolved, LosesTarget}
use Rattle.venice_asm.specs.Steps.{IsGoodHeader, IsTableOf, Keeps, Turned}
use Rattle.venice_asm.proofs.Became.{IsAll, instrs_same, instrs_now, is_code}
use Rattle.venice_asm.proofs.Fields.{lines_are_of, spad_is, memory_is, all_kept, no_wrong}
use Rattle.venice_asm.proofs.Unknown.{lost, resolves}

-- the last turn has read all lines
pub record IsEnded (text : List ℕ) (r : Reading) : Type 0 where
  pub lines : List TextLine
  pub reads : Reads text lines
  pub keeps : Keeps text lines None r

pub ended : (text : List ℕ) (old new : Reading) (more : Bool) → Turned text old new more → more ≡ false → IsEnded text new
ended text old new false (lines, reads, keeps) e = record { lines = lines; reads = reads; keeps = keeps }
ended text old new true t e = let wrong : true ≡ false = e in absurd (cc)

pub lost_answer : (text : List ℕ) (r : Reading) (fault : AsmFault) → IsEnded text r → LosesTarget r.labels.entries r.references.items r.instrs.items fault → IsAnswered text fault
lost_answer text r (answers.UnknownLabel at) h l = lost text h.lines r at h.reads h.keeps l
lost_answer text r (answers.Unexpected at) h l = absurd l
lost_answer text r (answers.FieldRange at) h l = absurd l
lost_answer text r (answers.LabelTwice at) h l = absurd l
lost_answer text r (answers.Table at) h l = absurd l
lost_answer text r answers.NoHalt h l = absurd l
lost_answer text r answers.Memory h l = absurd l

pub resolved : (text : List ℕ) (r : Reading) (new : List Instr) (h : IsEnded text r) → AreResolved r.labels.entries r.references.items r.instrs.items new → Resolves text h.lines
resolved text r new h a = resolves text h.lines r h.reads h.keeps a.all

all_of : (text : List ℕ) (r : Reading) (new : List Instr) (h : IsEnded text r) → AreResolved r.labels.entries r.references.items r.instrs.items new → IsAll text h.lines r new
all_of text r new h a = record { lines_are = lines_are_of text h.lines h.reads; keeps = h.keeps; resolved = a }

abbrev pub image_kept : Reading → List Instr → List Entry → ImageContents
image_kept r new table = record { spad = r.spad; memory = r.memory; arrays = table; code = record { version = r.version; instrs = new } }

-- what is at hand at the end
pub record IsWhole (text : List ℕ) (r : Reading) (new : List Instr) (table : List Entry) : Type 0 where
  pub end : IsEnded text r
  pub targets : AreResolved r.labels.entries r.references.items r.instrs.items new
  pub header : IsGoodHeader r.spad r.memory r.array_count
  pub entries : IsTableOf r.memory (map raw_array r.arrays.items) table

pub is_image : (text : List ℕ) (r : Reading) (new : List Instr) (table : List Entry) → IsWhole text r new table → IsCode (record { version = r.version; instrs = new }) → IsImage (image_kept r new table)
is_image text r new table w code = record {
  table = λ field breaks. no_wrong text w.end.lines r table w.end.reads w.end.keeps w.header w.entries field (record {
    header = record { spad = r.spad; memory = r.memory; array_count = length table; instr_count = length new };
    is_header = header;
    breaks = subst (λ es. BreaksTable (record { spad = r.spad; memory = r.memory; array_count = length table; instr_count = length new }) es field) same breaks;
  });
  code = code;
}
  where
    same : raw_entries table ≡ entries_of w.end.lines
    same = w.entries.same ∙ all_kept text w.end.lines r w.end.keeps w.header

    header : IsHeaderOf w.end.lines (record { spad = r.spad; memory = r.memory; array_count = length table; instr_count = length new })
    header = record {
      spad = spad_is text w.end.lines r w.end.reads w.end.keeps;
      memory = memory_is text w.end.lines r w.end.reads w.end.keeps;
      arrays = sym (length-map table raw_entry) ∙ ap length same;
      instrs = (instrs_now text w.end.lines r new (all_of text r new w.end w.targets)).count;
    }

pub denotes : (text : List ℕ) (r : Reading) (new : List Instr) (table : List Entry) → IsWhole text r new table → IsCode (record { version = r.version; instrs = new }) → DenotesImage text (image_kept r new table)
denotes text r new table w code = record {
  lines = w.end.lines;
  reads = w.end.reads;
  is_of = record {
    spad = spad_is text w.end.lines r w.end.reads w.end.keeps;
    memory = memory_is text w.end.lines r w.end.reads w.end.keeps;
    arrays = w.entries.same ∙ all_kept text w.end.lines r w.end.keeps w.header;
    version = w.end.keeps.version;
    instrs = instrs_same text w.end.lines r new (all_of text r new w.end w.targets);
  };
  is_image = is_image text r new table w code;
}

pub no_halt : (text : List ℕ) (r : Reading) (new : List Instr) (table : List Entry) → IsWhole text r new table → (IsCode (record { version = r.version; instrs = new }) → ⊥) → IsRefused text answers.NoHalt
no_halt text r new table w bad =
    AtEnd w.end.lines (resolved text r new w.end w.targets) (no_wrong text w.end.lines r table w.end.reads w.end.keeps w.header w.entries)
    (λ ends. bad (is_code text w.end.lines r new (all_of text r new w.end w.targets) ends))

-- the instructions as the code has them behind the call that gave them their targets
pub written : (text : List ℕ) (r : Reading) (new : List Instr) (len : ℕ) (h : IsEnded text r) → AreResolved r.labels.entries r.references.items r.instrs.items new → len ≡ length r.instrs.items → take len (new ++ drop (length new) r.instrs.items) ≡ new
written text r new len h a long =
    let now = (instrs_now text h.lines r new (all_of text r new h a)).count in
    let before = h.keeps.instrs.count in
    let same : len ≡ length new = long ∙ before ∙ sym now in
    ap (λ n. take n (new ++ drop (length new) r.instrs.items)) same ∙ take-append_seam new (drop (length new) r.instrs.items)
