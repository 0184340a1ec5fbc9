-- The three groups of instructions: each instruction is of one.
use Rattle.task_lines.specs.declared.step.Step.{Step}
use Rattle.task_lines.specs.declared.step.Step.TheVariants.{Set, Math, If, Goto, Label, Cell, Rows, Spawn, All, Copy, Drop, Get, Again, Done}

-- it gives a number variable its value
abbrev pub SetsNumber : Step → Type 0
SetsNumber (Set to value) = Unit {0}
SetsNumber (Math operation to left right) = Unit {0}
SetsNumber (Cell to column row) = Unit {0}
SetsNumber (Rows to column) = Unit {0}
SetsNumber (Get to future) = Unit {0}
SetsNumber _ = ⊥

-- it changes what a future variable names
abbrev pub SetsFuture : Step → Type 0
SetsFuture (Spawn to kind arguments behind priority retry) = Unit {0}
SetsFuture (All to members priority retry) = Unit {0}
SetsFuture (Copy to source) = Unit {0}
SetsFuture (Drop future) = Unit {0}
SetsFuture _ = ⊥

-- it says where the task goes on, or that it is done
abbrev pub SaysWhere : Step → Type 0
SaysWhere (If relation left right target) = Unit {0}
SaysWhere (Goto target) = Unit {0}
SaysWhere (Label name) = Unit {0}
SaysWhere (Again target behind priority) = Unit {0}
SaysWhere (Done value) = Unit {0}
SaysWhere _ = ⊥
