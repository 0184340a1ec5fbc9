-- The first fault of a text, and what it means that a function answers what a reading gives.
use Rattle.std.specs.Prelude.{◌≡◌, ℕ, Result, Ok, Err}
use Rattle.task_text.specs.declared.fault.Cause.{Cause}
use Rattle.task_text.specs.declared.fault.Cause.TheVariants.{NotText, NoHeader, UnknownWord, BadName, BadNumber, TwiceNamed, UnknownName, TooMany, NoEnd, BackLabel, WordsLeft}
use Rattle.task_text.specs.declared.fault.Fault.{Fault}
use Rattle.task_text.specs.declared.fault.TextError.{TextError}

-- the number by which a cause is printed
abbrev pub number_of : Cause → ℕ
number_of NotText = 1
number_of NoHeader = 2
number_of UnknownWord = 3
number_of BadName = 4
number_of BadNumber = 5
number_of TwiceNamed = 6
number_of UnknownName = 7
number_of TooMany = 8
number_of NoEnd = 9
number_of BackLabel = 10
number_of WordsLeft = 11

abbrev pub fault_at : Cause → ℕ → ℕ → Fault
fault_at cause line word = record { cause = cause; line = line; word = word }

-- what is read next, where nothing was at fault so far
infixl 10 ◌>>=◌
abbrev pub ◌>>=◌ : {A B : Type 0} → Result A Fault → (A → Result B Fault) → Result B Fault
Ok a >>= next = next a
Err fault >>= next = Err fault

infixl 10 ◌>>◌
abbrev pub ◌>>◌ : {A B : Type 0} → Result A Fault → Result B Fault → Result B Fault
first >> next = first >>= (λ _. next)

-- the outcome is what the reading gives, seen through `view`, or want of memory
abbrev pub Gives : {A B : Type 0} → (A → B) → Result A TextError → Result B Fault → Type 0
Gives view (Ok a) reading = reading ≡ Ok (view a)
Gives view (Err (TextError.Fault fault)) reading = reading ≡ Err fault
Gives view (Err TextError.Memory) reading = Unit {0}
