-- Plain decimals, and words that are looked at one by one.
use Rattle.std.proofs.Common.{◌≡◌, ℕ, ◌^◌, ◌<◌, ◌≤◌, List, [], ◌∷◌, length, get_or, Result, Ok, Err, Bool, true, false, IsTrue, refl, sym, ap, ◌∙◌, arith, Option, Some, None}
use Rattle.std.specs.Prelude.{codes, decimal, String, MatchOption}
use Rattle.std.specs.String.{string_bytes}
use Rattle.std.specs.Str.Parse.{ParsesUnsigned}
use Rattle.std.specs.declared.alloc.Global.{Global}
use Rattle.std.proofs.lemmas.Fmt.{parse-decimal}
use Rattle.std.proofs.lemmas.List.{get_or-map}
use Rattle.venice_run.specs.declared.request.Request.{Request}
use Rattle.venice_run.specs.declared.request.Request.TheVariants.{Run, Build, Eval, Check, Explain, Exec, Asm, Disasm}
use Rattle.venice_run.specs.declared.request.Resources.{Resources}
use Rattle.venice_run.specs.Requests.{IsFreeRun, IsGrantedRun, IsBuild, IsEval, IsCheck, IsExplain, IsFreeExec, IsGrantedExec, IsAsm, IsDisasm, SpellResources}
use Rattle.venice_run.specs.Words.{texts_of, words_of, IsUpTo, AreInRange, Spells}

read : {E : Type 0} (text : List ℕ) (most n : ℕ) (r : Result ℕ E) → most < 2 ^ 64 → n ≤ most → text ≡ decimal n → ParsesUnsigned 64 10 text r → r ≡ Ok n
read text most n r small le is parsed = parse-decimal 64 n text r (omega arith) (omega arith) is parsed

ok_is : {E : Type 0} (m n : ℕ) → ◌≡◌ {A = Result ℕ E} (Ok m) (Ok n) → m ≡ n
ok_is m n e = cc

not_ok : {E : Type 0} (e : E) (n : ℕ) → ◌≡◌ {A = Result ℕ E} (Err e) (Ok n) → ⊥
not_ok e n h = cc

-- a plain decimal is read as its number
pub is_read : {E : Type 0} (text : List ℕ) (most n m : ℕ) (r : Result ℕ E) → most < 2 ^ 64 → n ≤ most → text ≡ decimal n → ParsesUnsigned 64 10 text r → r ≡ Ok m → m ≡ n
is_read {E} text most n m r small le is parsed found = ok_is {E = E} m n (sym found ∙ read text most n r small le is parsed)

-- and it is read
pub not_refused : {E : Type 0} (text : List ℕ) (most n : ℕ) (e : E) (r : Result ℕ E) → most < 2 ^ 64 → n ≤ most → text ≡ decimal n → ParsesUnsigned 64 10 text r → r ≡ Err e → ⊥
not_refused {E} text most n e r small le is parsed found = not_ok {E = E} e n (sym found ∙ read text most n r small le is parsed)

-- a text that a number prints is told to be so
pub not_plain : (text : List ℕ) (m n : ℕ) (test : Bool) → m ≡ n → text ≡ decimal n → test ≡ false → (text ≡ decimal m → IsTrue test) → ⊥
not_plain text m n true e is off told = absurd cc
not_plain text m n false e is off told = let told_true : IsTrue false = told (is ∙ ap decimal (sym e)) in cc

-- a word at its place
pub word_at : (words : List (String Global)) (word : String Global) (k : ℕ) → word ≡ get_or words k word → k < length words → string_bytes word ≡ get_or (texts_of words) k []
word_at words word k is lt = ap string_bytes is ∙ sym (get_or-map string_bytes words k word [] lt)

-- a word that is no number up to the greatest, where a request has one
no_number : (words : List (String Global)) (word : String Global) (k most : ℕ) → word ≡ get_or words k word → k < length words
    → ((n : ℕ) → IsUpTo most n → string_bytes word ≡ decimal n → ⊥)
    → (n : ℕ) → IsUpTo most n → (request : Request) → get_or (words_of request) k [] ≡ decimal n → ¬ Spells (texts_of words) request
no_number words word k most is inside none n in_range request there spells =
    none n in_range (word_at words word k is inside ∙ ap (λ (ws : List (List ℕ)). get_or ws k []) spells.words_are ∙ there)

-- `run`: the fifth and the sixth word are its numbers
pub no_free_lanes : (words : List (String Global)) (word : String Global) → word ≡ get_or words 4 word → 6 ≤ length words
    → ((n : ℕ) → IsUpTo 4 n → string_bytes word ≡ decimal n → ⊥) → (request : Request) → IsFreeRun request → ¬ Spells (texts_of words) request
no_free_lanes words word is long none (Run program inputs image lanes spad None) run spells =
    no_number words word 4 4 is (omega arith) none lanes spells.in_range.0 (Run program inputs image lanes spad None) refl spells
no_free_lanes words word is long none request run spells = absurd run

pub no_free_spad : (words : List (String Global)) (word : String Global) → word ≡ get_or words 5 word → 6 ≤ length words
    → ((n : ℕ) → IsUpTo 1048576 n → string_bytes word ≡ decimal n → ⊥) → (request : Request) → IsFreeRun request → ¬ Spells (texts_of words) request
no_free_spad words word is long none (Run program inputs image lanes spad None) run spells =
    no_number words word 5 1048576 is (omega arith) none spad spells.in_range.1 (Run program inputs image lanes spad None) refl spells
no_free_spad words word is long none request run spells = absurd run

pub no_granted_lanes : (words : List (String Global)) (word : String Global) → word ≡ get_or words 4 word → 7 ≤ length words
    → ((n : ℕ) → IsUpTo 4 n → string_bytes word ≡ decimal n → ⊥) → (request : Request) → IsGrantedRun request → ¬ Spells (texts_of words) request
no_granted_lanes words word is long none (Run program inputs image lanes spad (Some grants)) run spells =
    no_number words word 4 4 is (omega arith) none lanes spells.in_range.0 (Run program inputs image lanes spad (Some grants)) refl spells
no_granted_lanes words word is long none request run spells = absurd run

pub no_granted_spad : (words : List (String Global)) (word : String Global) → word ≡ get_or words 5 word → 7 ≤ length words
    → ((n : ℕ) → IsUpTo 1048576 n → string_bytes word ≡ decimal n → ⊥) → (request : Request) → IsGrantedRun request → ¬ Spells (texts_of words) request
no_granted_spad words word is long none (Run program inputs image lanes spad (Some grants)) run spells =
    no_number words word 5 1048576 is (omega arith) none spad spells.in_range.1 (Run program inputs image lanes spad (Some grants)) refl spells
no_granted_spad words word is long none request run spells = absurd run

-- `build`: the fourth word is its number
pub no_build_size : (words : List (String Global)) (word : String Global) → word ≡ get_or words 3 word → 4 ≤ length words
    → ((n : ℕ) → IsUpTo 1048576 n → string_bytes word ≡ decimal n → ⊥) → (request : Request) → IsBuild request → ¬ Spells (texts_of words) request
no_build_size words word is long none (Build program image spad) build spells =
    no_number words word 3 1048576 is (omega arith) none spad spells.in_range (Build program image spad) refl spells
no_build_size words word is long none request build spells = absurd build

-- `check`: the third word is its number
pub no_size : (words : List (String Global)) (word : String Global) → word ≡ get_or words 2 word → 3 ≤ length words
    → ((n : ℕ) → IsUpTo 1048576 n → string_bytes word ≡ decimal n → ⊥) → (request : Request) → IsCheck request → ¬ Spells (texts_of words) request
no_size words word is long none (Check program spad) check spells =
    no_number words word 2 1048576 is (omega arith) none spad spells.in_range (Check program spad) refl spells
no_size words word is long none request check spells = absurd check

-- `exec`: the fourth, fifth and sixth word are its numbers
no_resources : (words : List (String Global)) (lanes spad budget : String Global)
    → lanes ≡ get_or words 3 lanes → spad ≡ get_or words 4 spad → budget ≡ get_or words 5 budget → 6 ≤ length words
    → ((resources : Resources) → ¬ SpellResources (string_bytes lanes) (string_bytes spad) (string_bytes budget) resources)
    → (request : Request) (image inputs : List ℕ) (resources : Resources) (rest : List (List ℕ))
    → words_of request ≡ codes "exec" ∷ image ∷ inputs ∷ decimal resources.lanes ∷ decimal resources.spad ∷ decimal resources.budget ∷ rest
    → AreInRange resources → ¬ Spells (texts_of words) request
no_resources words lanes spad budget is_lanes is_spad is_budget long none request image inputs resources rest are in_range spells =
    let words_are = spells.words_are ∙ are in
    none resources (record {
      in_range = in_range;
      lanes_are = word_at words lanes 3 is_lanes (omega arith) ∙ ap (λ (ws : List (List ℕ)). get_or ws 3 []) words_are;
      spad_is = word_at words spad 4 is_spad (omega arith) ∙ ap (λ (ws : List (List ℕ)). get_or ws 4 []) words_are;
      budget_is = word_at words budget 5 is_budget (omega arith) ∙ ap (λ (ws : List (List ℕ)). get_or ws 5 []) words_are;
    })

pub no_free : (words : List (String Global)) (lanes spad budget : String Global)
    → lanes ≡ get_or words 3 lanes → spad ≡ get_or words 4 spad → budget ≡ get_or words 5 budget → 6 ≤ length words
    → ((resources : Resources) → ¬ SpellResources (string_bytes lanes) (string_bytes spad) (string_bytes budget) resources)
    → (request : Request) → IsFreeExec request → ¬ Spells (texts_of words) request
no_free words lanes spad budget is_lanes is_spad is_budget long none (Exec image inputs resources None) free spells =
    no_resources words lanes spad budget is_lanes is_spad is_budget long none (Exec image inputs resources None) image.now inputs.now resources [] refl spells.in_range spells
no_free words lanes spad budget is_lanes is_spad is_budget long none request free spells = absurd free

pub no_granted : (words : List (String Global)) (lanes spad budget : String Global)
    → lanes ≡ get_or words 3 lanes → spad ≡ get_or words 4 spad → budget ≡ get_or words 5 budget → 7 ≤ length words
    → ((resources : Resources) → ¬ SpellResources (string_bytes lanes) (string_bytes spad) (string_bytes budget) resources)
    → (request : Request) → IsGrantedExec request → ¬ Spells (texts_of words) request
no_granted words lanes spad budget is_lanes is_spad is_budget long none (Exec image inputs resources (Some grants)) granted spells =
    no_resources words lanes spad budget is_lanes is_spad is_budget (omega arith) none (Exec image inputs resources (Some grants)) image.now inputs.now resources (grants.now ∷ []) refl spells.in_range
    spells
no_granted words lanes spad budget is_lanes is_spad is_budget long none request granted spells = absurd granted

-- seven words, one by one
pub seven : (words : List (String Global)) (a b c d e f g : String Global) → 7 ≤ length words → length words < 8
    → a ≡ get_or words 0 a → b ≡ get_or words 1 b → c ≡ get_or words 2 c → d ≡ get_or words 3 d → e ≡ get_or words 4 e → f ≡ get_or words 5 f → g ≡ get_or words 6 g
    → texts_of words ≡ string_bytes a ∷ string_bytes b ∷ string_bytes c ∷ string_bytes d ∷ string_bytes e ∷ string_bytes f ∷ string_bytes g ∷ []
seven (t ∷ u ∷ v ∷ w ∷ x ∷ y ∷ z ∷ []) a b c d e f g low high p0 p1 p2 p3 p4 p5 p6 = cc
seven _ a b c d e f g low high p0 p1 p2 p3 p4 p5 p6 = absurd (omega arith)

-- six words, one by one
pub six : (words : List (String Global)) (a b c d e f : String Global) → 6 ≤ length words → length words < 7
    → a ≡ get_or words 0 a → b ≡ get_or words 1 b → c ≡ get_or words 2 c → d ≡ get_or words 3 d → e ≡ get_or words 4 e → f ≡ get_or words 5 f
    → texts_of words ≡ string_bytes a ∷ string_bytes b ∷ string_bytes c ∷ string_bytes d ∷ string_bytes e ∷ string_bytes f ∷ []
six (u ∷ v ∷ w ∷ x ∷ y ∷ z ∷ []) a b c d e f low high p0 p1 p2 p3 p4 p5 = cc
six _ a b c d e f low high p0 p1 p2 p3 p4 p5 = absurd (omega arith)

-- and fewer
pub four : (words : List (String Global)) (a b c d : String Global) → 4 ≤ length words → length words < 5
    → a ≡ get_or words 0 a → b ≡ get_or words 1 b → c ≡ get_or words 2 c → d ≡ get_or words 3 d
    → texts_of words ≡ string_bytes a ∷ string_bytes b ∷ string_bytes c ∷ string_bytes d ∷ []
four (u ∷ v ∷ w ∷ x ∷ []) a b c d low high p0 p1 p2 p3 = cc
four _ a b c d low high p0 p1 p2 p3 = absurd (omega arith)

pub three : (words : List (String Global)) (a b c : String Global) → 3 ≤ length words → length words < 4 → a ≡ get_or words 0 a → b ≡ get_or words 1 b → c ≡ get_or words 2 c
    → texts_of words ≡ string_bytes a ∷ string_bytes b ∷ string_bytes c ∷ []
three (u ∷ v ∷ w ∷ []) a b c low high p0 p1 p2 = cc
three _ a b c low high p0 p1 p2 = absurd (omega arith)

pub two : (words : List (String Global)) (a b : String Global) → 2 ≤ length words → length words < 3 → a ≡ get_or words 0 a → b ≡ get_or words 1 b → texts_of words ≡ string_bytes a ∷ string_bytes b ∷ []
two (u ∷ v ∷ []) a b low high p0 p1 = cc
two _ a b low high p0 p1 = absurd (omega arith)

-- the number of words and the first of them
pub not_so_many : (words : List (List ℕ)) (n : ℕ) (request : Request) → (length words ≡ n → ⊥) → length (words_of request) ≡ n → ¬ Spells words request
not_so_many words n request other is spells = other (ap length spells.words_are ∙ is)

pub other_word : (words : List (List ℕ)) (word : List ℕ) (request : Request) → (get_or words 0 [] ≡ word → ⊥) → get_or (words_of request) 0 [] ≡ word → ¬ Spells words request
other_word words word request other is spells = other (ap (λ (ws : List (List ℕ)). get_or ws 0 []) spells.words_are ∙ is)

-- the words spell no request of a kind
abbrev pub SpellNo : (Request → Type 0) → List (List ℕ) → Type 0
SpellNo is words = (request : Request) → is request → ¬ Spells words request

-- the words spell none of the requests of `run`, `build` and `exec`
pub record SpellNoRun (words : List (List ℕ)) : Type 0 where
  pub free_run : SpellNo IsFreeRun words
  pub granted_run : SpellNo IsGrantedRun words
  pub build : SpellNo IsBuild words
  pub free_exec : SpellNo IsFreeExec words
  pub granted_exec : SpellNo IsGrantedExec words

-- words that spell none of the first commands' requests spell what the last one's say
pub last : (words : List (List ℕ)) (found : Option Request) → SpellNoRun words
    → SpellNo IsEval words → SpellNo IsCheck words → SpellNo IsExplain words → SpellNo IsAsm words
    → MatchOption found (SpellNo IsDisasm words) (Spells words) → MatchOption found ((request : Request) → ¬ Spells words request) (Spells words)
last words (Some request) no_run no_eval no_check no_explain no_asm spells = spells
last words None no_run no_eval no_check no_explain no_asm no_disasm = none
  where
    none : (request : Request) → ¬ Spells words request
    none (Run program inputs image lanes spad None) = no_run.free_run (Run program inputs image lanes spad None) tt
    none (Run program inputs image lanes spad (Some grants)) = no_run.granted_run (Run program inputs image lanes spad (Some grants)) tt
    none (Build program image spad) = no_run.build (Build program image spad) tt
    none (Eval program inputs) = no_eval (Eval program inputs) tt
    none (Check program spad) = no_check (Check program spad) tt
    none (Explain program) = no_explain (Explain program) tt
    none (Exec image inputs resources None) = no_run.free_exec (Exec image inputs resources None) tt
    none (Exec image inputs resources (Some grants)) = no_run.granted_exec (Exec image inputs resources (Some grants)) tt
    none (Asm text image) = no_asm (Asm text image) tt
    none (Disasm image) = no_disasm (Disasm image) tt
