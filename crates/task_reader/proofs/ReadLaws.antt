-- What the reading of a text means for the answer.
use Rattle.task_reader.proofs.Vocabulary.{◌≡◌, ℕ, ◌<◌, ◌^◌, List, length, Result, Ok, Err, refl, sym, ◌∙◌, ap, Program, Fault, TextError, Gives, number_of, Item, items_of, Fit, program_in, GivesProgram, Spelled, Answers, error_of, IsFirstFault, TellsFirst, Tells}
use Rattle.task_reader.proofs.Fitting.{items_fit}
use Rattle.task_reader.proofs.FirstFaults.{items-answer}
use Rattle.task_reader.proofs.FaultsTold.{program-first, first-told}
use Rattle.task_reader.proofs.Read.{program_in-spelled, program_in-formed, spelled-accepts}

pub items_read : (text : List ℕ) (items : List Item) → length text < 2 ^ 32 → items_of text ≡ Ok items → Fit items
items_read text items small e = items_fit text items small (items-answer text (Ok items) e)

pub error-exact : (text : List ℕ) (e : TextError) → Gives {A = Program} {B = Program} (λ p. p) (Err e) (program_in text) → GivesProgram (Err (error_of e)) (program_in text)
error-exact text (TextError.Fault fault) h = (fault, h, refl, refl, refl)
error-exact text TextError.Memory h = tt

same-program : (p q : Program) → ◌≡◌ {A = Result Program Fault} (Ok p) (Ok q) → p ≡ q
same-program p q e = cc

no-fault : (p : Program) (fault : Fault) → ◌≡◌ {A = Result Program Fault} (Ok p) (Err fault) → ⊥
no-fault p fault e = cc

pub program-answers : (text : List ℕ) (q : Program) → program_in text ≡ Ok q → (p : Program) → Spelled text p → q ≡ p
program-answers text q e p s = same-program q p (sym e ∙ spelled-accepts text p s)

pub error-answers : (text : List ℕ) (e : TextError) → Gives {A = Program} {B = Program} (λ p. p) (Err e) (program_in text)
    → (p : Program) → Spelled text p → Answers p (Err (error_of e))
error-answers text (TextError.Fault fault) h p s = no-fault p fault (sym (spelled-accepts text p s) ∙ h)
error-answers text TextError.Memory h p s = tt

-- a fault that is told is the first
pub error-first : (text : List ℕ) (e : TextError) → Gives {A = Program} {B = Program} (λ p. p) (Err e) (program_in text) → TellsFirst text (Err (error_of e))
error-first text (TextError.Fault fault) h = (fault, program-first text fault h, refl, refl, refl)
error-first text TextError.Memory h = tt

-- a text with a fault is no program
pub program-never : (text : List ℕ) (q : Program) → program_in text ≡ Ok q → (fault : Fault) → IsFirstFault text fault → ⊥
program-never text q e fault first = no-fault q fault (sym e ∙ first-told text fault first)

same-fault : (f g : Fault) → ◌≡◌ {A = Result Program Fault} (Err f) (Err g) → f ≡ g
same-fault f g e = cc

-- the first fault of a text is told
pub error-tells : (text : List ℕ) (e : TextError) → Gives {A = Program} {B = Program} (λ p. p) (Err e) (program_in text)
    → (fault : Fault) → IsFirstFault text fault → Tells fault (Err (error_of e))
error-tells text (TextError.Fault g) h fault first =
    let same = same-fault g fault (sym h ∙ first-told text fault first) in
    (ap (λ (f : Fault). number_of f.cause) same, ap (λ (f : Fault). f.line) same, ap (λ (f : Fault). f.word) same)
error-tells text TextError.Memory h fault first = tt

pub ruleset read_laws = (error-first, error-exact, program-answers, error-answers, program_in-spelled, program_in-formed)
