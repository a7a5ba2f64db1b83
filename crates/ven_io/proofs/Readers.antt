-- Where a reader follows a grammar, tokens denote one value, and begin a sentence exactly where it isn't stuck.
use Rattle.std.proofs.Common.{◌≡◌, ◌≢◌, ◌↔◌, List, [], ◌∷◌, ◌++◌, Some, None, refl, sym, ap, ◌∙◌}
use Rattle.ven_io.specs.Reader.{run_from, Reader, behind, Begins, Follows}

pub run_on : {T S : Type 0} (step : S → T → S) (state : S) (tokens more : List T) → run_from step state (tokens ++ more) ≡ run_from step (run_from step state tokens) more
run_on step state [] more = refl
run_on step state (token ∷ tokens) more = run_on step (step state token) tokens more

stuck_stays : {T S : Type 0} (step : S → T → S) (stuck : S) → ((token : T) → step stuck token ≡ stuck) → (tokens : List T) → run_from step stuck tokens ≡ stuck
stuck_stays step stuck stays [] = refl
stuck_stays step stuck stays (token ∷ tokens) = ap (λ s. run_from step s tokens) (stays token) ∙ stuck_stays step stuck stays tokens

pub one_value : {T S P : Type 0} (denotes : List T → P → Type 0) (reader : Reader T S P) → Follows denotes reader → (tokens : List T) (one other : P) → denotes tokens one → denotes tokens other → one ≡ other
one_value denotes reader f tokens one other d e = let same : Some one ≡ Some other = sym (f.complete tokens one d) ∙ f.complete tokens other e in cc

begins_goes : {T S P : Type 0} (denotes : List T → P → Type 0) (reader : Reader T S P) → Follows denotes reader → (tokens : List T) → Begins denotes tokens → behind reader tokens ≢ reader.stuck
begins_goes denotes reader f tokens (rest, value, d) is =
    let e : Some value ≡ None = sym (f.complete (tokens ++ rest) value d) ∙ ap reader.value (run_on reader.step reader.start tokens rest ∙ ap (λ s. run_from reader.step s rest) is ∙ stuck_stays reader.step reader.stuck f.stays rest) ∙ f.none in
    absurd (cc)

goes_begins : {T S P : Type 0} (denotes : List T → P → Type 0) (reader : Reader T S P) → Follows denotes reader → (tokens : List T) → behind reader tokens ≢ reader.stuck → Begins denotes tokens
goes_begins denotes reader f tokens goes =
    let (rest, value, ends) = f.can_end tokens goes in
    (rest, value, f.sound (tokens ++ rest) value (ap reader.value (run_on reader.step reader.start tokens rest) ∙ ends))

pub begins_iff : {T S P : Type 0} (denotes : List T → P → Type 0) (reader : Reader T S P) → Follows denotes reader → (tokens : List T) → (Begins denotes tokens ↔ (behind reader tokens ≢ reader.stuck))
begins_iff denotes reader f tokens = (begins_goes denotes reader f tokens, goes_begins denotes reader f tokens)
