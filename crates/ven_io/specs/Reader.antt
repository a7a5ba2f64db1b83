-- Readers that take one token after another, and the grammars that they follow.
use Rattle.std.specs.Prelude.{◌≡◌, ◌≢◌, List, [], ◌∷◌, ◌++◌, Option, Some, None}

-- the state behind tokens
abbrev pub run_from : {T S : Type 0} → (S → T → S) → S → List T → S
run_from step state [] = state
run_from step state (token ∷ tokens) = run_from step (step state token) tokens

-- a reader: its states, of which one is stuck for good, and the value that has been read where one has
pub record Reader (T S P : Type 0) : Type 0 where
  pub start : S
  pub stuck : S
  pub step : S → T → S
  pub value : S → Option P

-- the state behind tokens from the start
abbrev pub behind : {T S P : Type 0} → Reader T S P → List T → S
behind reader tokens = run_from reader.step reader.start tokens

-- some sentence begins with these tokens
abbrev pub Begins : {T P : Type 0} → (List T → P → Type 0) → List T → Type 0
Begins {T} {P} denotes tokens = (rest : List T) × (value : P) × denotes (tokens ++ rest) value

-- the reader follows the grammar: it reads each sentence to its value and nothing else, and wherever it isn't stuck
-- some tokens end a sentence
pub record Follows {T S P : Type 0} (denotes : List T → P → Type 0) (reader : Reader T S P) : Type 0 where
  pub complete : (tokens : List T) (value : P) → denotes tokens value → reader.value (behind reader tokens) ≡ Some value
  pub sound : (tokens : List T) (value : P) → reader.value (behind reader tokens) ≡ Some value → denotes tokens value
  pub can_end : (tokens : List T) → behind reader tokens ≢ reader.stuck
      → (rest : List T) × (value : P) × (reader.value (run_from reader.step (behind reader tokens) rest) ≡ Some value)
  pub stays : (token : T) → reader.step reader.stuck token ≡ reader.stuck
  pub none : reader.value reader.stuck ≡ None
