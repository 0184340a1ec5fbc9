use Rattle.step_table.specs.Passes.{view}
use Rattle.memory_pool.proofs.Sounding.{sound-on}
use Rattle.memory_pool.proofs.Searching.{sees-more-on, gives, keeps-refusal}
use Rattle.memory_pool.proofs.pool.allocate.Goals as goal

pub returns-in-Some-clause-later : goal.returns-in-Some-clause-later
returns-in-Some-clause-later g c = sees-more-on (view c.args.pass.now) (view c.find.new.pass) (view c.claim_in.new.pass) c.in-Some.ensures.later c.claim_in.ensures.later

pub returns-in-Some-clause-answer : goal.returns-in-Some-clause-answer
returns-in-Some-clause-answer g c =
    gives c.args.shared.now.setup.plan c.args.class c.args.pass.now c.find.new.pass c.claim_in.new.pass c.in-Some.reserved c.claim_in.result c.requires.class c.in-Some.ensures.some c.claim_in.ensures.block

pub returns-in-None-clause-last : goal.returns-in-None-clause-last
returns-in-None-clause-last g c = keeps-refusal c.args.shared.now.setup.plan c.args.class c.args.pass.now c.find.new.pass c.in-None.ensures.none

pub returns-in-Some-clause-sound : goal.returns-in-Some-clause-sound
returns-in-Some-clause-sound g c = sound-on c.args.shared.now.setup (view c.args.pass.now) (view c.find.new.pass) (view c.claim_in.new.pass) c.in-Some.ensures.sound c.claim_in.ensures.sound
