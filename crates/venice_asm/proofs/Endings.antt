-- The ends of lines.
use Rattle.std.proofs.Common.{◌≡◌, ◌≢◌, ℕ, true, Result, Ok, Err, refl}
use Rattle.std.specs.Prelude.{MatchResult}
use Rattle.venice_asm.specs.declared.head.Head.{Head}
use Rattle.venice_asm.specs.declared.head.Head.TheVariants as heads
use Rattle.venice_asm.specs.declared.phase.Phase.TheVariants as phases
use Rattle.venice_asm.specs.declared.reading.Reading.{Reading}
use Rattle.venice_asm.specs.Lines.{is_instr}
use Rattle.venice_asm.specs.Moves.{AddsInstr, EndsHead, IsEnded}

-- both sides of a result
pub result_maps : {A E : Type 0} (P Q : A → Type 0) (R S : E → Type 0) (r : Result A E) → MatchResult r P R → ((x : A) → P x → Q x) → ((e : E) → R e → S e) → MatchResult r Q S
result_maps P Q R S (Ok x) h good bad = good x h
result_maps P Q R S (Err e) h good bad = bad e h

-- a word that is no head's is an instruction's
pub other_instr : (head : Head) → head ≢ heads.Version → head ≢ heads.Spad → head ≢ heads.Memory → head ≢ heads.Array → is_instr head ≡ true
other_instr heads.Version v s m a = absurd (v refl)
other_instr heads.Spad v s m a = absurd (s refl)
other_instr heads.Memory v s m a = absurd (m refl)
other_instr heads.Array v s m a = absurd (a refl)
other_instr head v s m a = refl

ends_instr : (head : Head) (last_at : ℕ) (old new : Reading) → head ≢ heads.Version → head ≢ heads.Spad → head ≢ heads.Memory → head ≢ heads.Array → AddsInstr head last_at old new → EndsHead head last_at old new
ends_instr heads.Version last_at old new v s m a h = absurd (v refl)
ends_instr heads.Spad last_at old new v s m a h = absurd (s refl)
ends_instr heads.Memory last_at old new v s m a h = absurd (m refl)
ends_instr heads.Array last_at old new v s m a h = absurd (a refl)
ends_instr heads.Halt last_at old new v s m a h = h
ends_instr heads.Li last_at old new v s m a h = h
ends_instr heads.Addi last_at old new v s m a h = h
ends_instr heads.Add last_at old new v s m a h = h
ends_instr heads.Sub last_at old new v s m a h = h
ends_instr heads.Mul last_at old new v s m a h = h
ends_instr heads.Div last_at old new v s m a h = h
ends_instr heads.Bnz last_at old new v s m a h = h
ends_instr heads.Blt last_at old new v s m a h = h
ends_instr heads.Jmp last_at old new v s m a h = h
ends_instr heads.Set last_at old new v s m a h = h
ends_instr heads.Vec last_at old new v s m a h = h
ends_instr heads.Dma last_at old new v s m a h = h
ends_instr heads.Rwait last_at old new v s m a h = h
ends_instr heads.Wwait last_at old new v s m a h = h
ends_instr heads.Vwait last_at old new v s m a h = h
ends_instr heads.Tag last_at old new v s m a h = h
ends_instr heads.Twait last_at old new v s m a h = h

pub ended_instr : (head : Head) (last_at : ℕ) (old new : Reading) → head ≢ heads.Version → head ≢ heads.Spad → head ≢ heads.Memory → head ≢ heads.Array → AddsInstr head last_at (record old { phase = phases.Start }) new → IsEnded head last_at old new
ended_instr head last_at old new v s m a h = record { adds = ends_instr head last_at (record old { phase = phases.Start }) new v s m a h; phase = h.phase }
