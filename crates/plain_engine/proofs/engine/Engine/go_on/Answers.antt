use Rattle.std.proofs.Common.{◌≡◌, ◌∙◌, ap}
use Rattle.plain_state.specs.Engine.{EngineState}
use Rattle.plain_state.specs.Store.{units_of}
use Rattle.plain_engine.proofs.StoreSizes.{let_go_all_size, unit_stays, fits_still}
use Rattle.plain_engine.proofs.engine.Engine.go_on.Goals as goal

-- to let go of what is given up leaves as many units
same_units : (c : goal.After-store-arg-1) → units_of c.self.inside.records ≡ units_of c.args.self.now.store
same_units c = ap (λ (e : EngineState). units_of e.store)
    (c.self.view_is ∙ c.let_go_all.ensures) ∙ let_go_all_size c.args.given_up.now c.args.self.now.store

pub store-requires-clause-unit : goal.store-requires-clause-unit
store-requires-clause-unit c = unit_stays c.args.self.now.store c.self.inside.records c.args.unit (same_units c) c.requires.within

pub store-requires-clause-fits : goal.store-requires-clause-fits
store-requires-clause-fits c = fits_still c.args.self.now.store c.self.inside.records c.args.unit _ (same_units c) c.requires.fits
