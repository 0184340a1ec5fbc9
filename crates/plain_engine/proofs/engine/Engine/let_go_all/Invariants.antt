use Rattle.std.proofs.Common.{◌≡◌, drop}
use Rattle.plain_state.specs.Store.{MayLetGoAll, let_go_all}
use Rattle.plain_state.specs.Engine.{with_store}
use Rattle.plain_engine.proofs.engine.Engine.let_go_all.Given as goal

abbrev pub invariant-units : goal.invariant-units
invariant-units l = MayLetGoAll (drop l.unit-index l.units) l.self.store
    × (with_store l.self (let_go_all (drop l.unit-index l.units) l.self.store) ≡ with_store l.initial.self (let_go_all l.units l.initial.self.store))
