use Rattle.std.proofs.Common.{sym, ◌∙◌}
use Rattle.plain_records.proofs.Popped.{high_taken, regular_taken, low_taken}
use Rattle.plain_records.proofs.ready.Ready.pop.Goals as goal

-- src/ready.rt:60:13
pub returns-in-Some : goal.returns-in-Some
returns-in-Some c =
    rw (sym c.self.view_is) (high_taken c.self.inside.high c.self.inside.regular c.self.inside.low c.pop_front.new.self c.in-Some.unit (sym c.in-Some.is ∙ c.pop_front.ensures.value) c.pop_front.ensures.items)

-- src/ready.rt:63:13
pub returns-in-Some-pop_front : goal.returns-in-Some-pop_front
returns-in-Some-pop_front c =
    rw (sym c.self.view_is) (regular_taken c.self.inside.high c.self.inside.regular c.self.inside.low c.pop_front.new.self c.pop_front-2.new.self c.in-Some-pop_front.unit
    (sym c.in_default.is ∙ c.pop_front.ensures.value) c.pop_front.ensures.items (sym c.in-Some-pop_front.is ∙ c.pop_front-2.ensures.value) c.pop_front-2.ensures.items)

-- src/ready.rt:56:5
pub returns : goal.returns
returns c =
    rw (sym c.self.view_is) (low_taken c.self.inside.high c.self.inside.regular c.self.inside.low c.pop_front.new.self c.pop_front-2.new.self c.pop_front-3.new.self c.pop_front-3.result
    (sym c.in_default.is ∙ c.pop_front.ensures.value) c.pop_front.ensures.items (sym c.in_default-pop_front.is ∙ c.pop_front-2.ensures.value) c.pop_front-2.ensures.items
    c.pop_front-3.ensures.value c.pop_front-3.ensures.items)
