use Rattle.step_table.proofs.references.last_of.Goals as goal
use Rattle.std.proofs.Common.{refl, sym, true≢false}

pub returns-then-last : goal.returns-then-last
returns-then-last c = let e = c.if-last.true in record { exactly = (λ some. e, λ one. refl); unit_is = refl }

pub returns-else-last : goal.returns-else-last
returns-else-last c = let differs = c.if-last.false in record { exactly = (λ some. absurd (true≢false (sym some)), λ one. absurd (differs one)); unit_is = tt }
