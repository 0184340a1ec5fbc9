use Rattle.std.proofs.Common.{◌≡◌, ◌∙◌, ap}
use Rattle.std.specs.List.{filter_map}
use Rattle.frame_code.specs.Words.{unit_named}
use Rattle.plain_state.specs.Engine.{EngineState}
use Rattle.plain_state.specs.Store.{units_of}
use Rattle.plain_engine.proofs.StoreSizes.{held_size, made_size, unit_stays, fits_still}
use Rattle.plain_engine.proofs.engine.Engine.make.Goals as goal

-- to hold what the frame names leaves as many units
same_units : (c : goal.After-make-arg-1) → units_of c.self.inside.records ≡ units_of c.args.self.now.store
same_units c = ap (λ (e : EngineState). units_of e.store)
    (c.self.view_is ∙ c.hold_named.ensures) ∙ held_size (filter_map unit_named c.naming_words.result.now) c.args.self.now.store

-- and so does the record
still_units : (c : goal.After-store-arg-1) → units_of c.make.new.self ≡ units_of c.args.self.now.store
still_units c =
    ap units_of c.make.ensures ∙ made_size c.args.block _ c.self.inside.records
    ∙ (ap (λ (e : EngineState). units_of e.store) (c.self.view_is ∙ c.hold_named.ensures) ∙ held_size (filter_map unit_named c.naming_words.result.now) c.args.self.now.store)

pub make-requires : goal.make-requires
make-requires c = unit_stays c.args.self.now.store c.self.inside.records c.args.block.unit (same_units c) c.requires.may.within

pub store-requires-clause-unit : goal.store-requires-clause-unit
store-requires-clause-unit c = rw c.unit-unit.ensures (unit_stays c.args.self.now.store c.make.new.self c.args.block.unit
    (still_units c) c.requires.may.within)

pub store-requires-clause-fits : goal.store-requires-clause-fits
store-requires-clause-fits c =
    rw c.unit-unit.ensures (fits_still c.args.self.now.store c.make.new.self c.args.block.unit _ (still_units c) c.requires.may.fits)
