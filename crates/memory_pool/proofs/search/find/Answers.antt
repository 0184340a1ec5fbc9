use Rattle.step_table.specs.Passes.{view, plan}
use Rattle.memory_pool.proofs.Sounding.{sound-on}
use Rattle.memory_pool.proofs.Searching.{sees-more-on, sees-none-on, none-left}
use Rattle.memory_pool.proofs.search.find.Goals as goal

pub returns-in-Place-go_round-clause-later : goal.returns-in-Place-go_round-clause-later
returns-in-Place-go_round-clause-later g c =
    sees-more-on (view c.args.pass.now) (view c.go_round.new.pass) (view c.go_round-in-Empty.new.pass) c.go_round.ensures.later c.go_round-in-Empty.ensures.later

pub returns-in_default-clause-later : goal.returns-in_default-clause-later
returns-in_default-clause-later g c =
    sees-more-on (view c.args.pass.now) (view c.go_round.new.pass) (view c.go_round-in-Empty.new.pass) c.go_round.ensures.later c.go_round-in-Empty.ensures.later

pub returns-in_default-clause-none : goal.returns-in_default-clause-none
returns-in_default-clause-none g c =
    let p = plan c.args.shared.now in let mid = c.go_round.new.pass in let new = c.go_round-in-Empty.new.pass in
    sees-none-on p c.args.class c.args.pass.now mid new c.in-Empty.ensures.answer.2 c.go_round.ensures.later
    (none-left p c.args.class mid new c.go_round-in-Empty.result c.go_round-in-Empty.ensures.answer c.in_default.not-Place)

pub returns-in-Place-go_round-clause-sound : goal.returns-in-Place-go_round-clause-sound
returns-in-Place-go_round-clause-sound g c = sound-on c.args.shared.now.setup (view c.args.pass.now) (view c.go_round.new.pass) (view c.go_round-in-Empty.new.pass) c.go_round.ensures.sound c.go_round-in-Empty.ensures.sound

pub returns-in_default-clause-sound : goal.returns-in_default-clause-sound
returns-in_default-clause-sound g c = sound-on c.args.shared.now.setup (view c.args.pass.now) (view c.go_round.new.pass) (view c.go_round-in-Empty.new.pass) c.go_round.ensures.sound c.go_round-in-Empty.ensures.sound
