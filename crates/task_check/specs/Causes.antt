-- The causes of faults: their numbers, their words, and their order in one line.
use Rattle.std.specs.Prelude.{ℕ, Bool, true, false, List, codes}
use Rattle.task_check.specs.declared.fault.Cause.{Cause}
use Rattle.task_check.specs.declared.fault.Cause.TheVariants.{FrameTooLarge, BadCount, NotHeld, NotSettled, StateNeeds}

abbrev pub code_of : Cause → ℕ
code_of NotHeld = 1
code_of NotSettled = 2
code_of BadCount = 3
code_of StateNeeds = 4
code_of FrameTooLarge = 5

abbrev pub word_of : Cause → List ℕ
word_of NotHeld = codes "NotHeld"
word_of NotSettled = codes "NotSettled"
word_of BadCount = codes "BadCount"
word_of StateNeeds = codes "StateNeeds"
word_of FrameTooLarge = codes "FrameTooLarge"

-- a fault of this cause names a future, and no kind
abbrev pub names_future : Cause → Bool
names_future NotHeld = true
names_future NotSettled = true
names_future StateNeeds = true
names_future BadCount = false
names_future FrameTooLarge = false

-- which causes come first in one line
abbrev pub rank : Cause → ℕ
rank FrameTooLarge = 0
rank BadCount = 1
rank NotHeld = 2
rank NotSettled = 3
rank StateNeeds = 4
