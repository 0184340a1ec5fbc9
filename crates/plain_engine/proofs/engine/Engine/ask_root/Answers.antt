use Rattle.std.proofs.Common.{◌≡◌, length, sym, ◌∙◌, ap, subst, arith}
use Rattle.plain_state.specs.Engine.{EngineState, with_root}
use Rattle.plain_state.specs.Laws.{AsksRoot}
use Rattle.plain_engine.specs.EngineView.{engine_of}
use Rattle.plain_engine.proofs.RootFacts.{few_roots, snoc_length, still_many}
use Rattle.plain_engine.proofs.engine.Engine.ask_root.Goals as goal

-- src/roots.rt:40:9
pub put-requires : goal.put-requires
put-requires c =
    let same = still_many c.args.checked.now c.requires.plan c.args.self.now c.root_state-state.new.self c.args.root.now c.root_state-state.result c.root_state-state.ensures in
    let few = few_roots c.args.checked.now c.args.self.now c.args.root.now c.requires in
    let seen = ap (λ (e : EngineState). length e.roots) c.self.view_is in
    omega (arith, c.self.inside.roots.ok.0, seen, same, few, c.self.invariant.roots_fit)

-- src/roots.rt:31:5
pub returns-clause-asked : goal.returns-clause-asked
returns-clause-asked c plan =
    let inside = c.self.inside in
    let state = c.root_state-state.result in
    let whole : engine_of inside.records inside.journal c.put.new.list.items inside.nulls inside.evidence_class inside.evidence.items ≡ with_root c.root_state-state.new.self state
    = ap (λ roots. engine_of inside.records inside.journal roots inside.nulls inside.evidence_class inside.evidence.items) c.put.ensures.items ∙ ap (λ e. with_root e state) c.self.view_is in
    subst (λ e. AsksRoot c.args.checked.now plan c.args.self.now c.args.root.now e) (sym whole) (c.root_state-state.ensures plan)

-- src/roots.rt:31:5
pub returns-clause-more : goal.returns-clause-more
returns-clause-more c =
    let same = still_many c.args.checked.now c.requires.plan c.args.self.now c.root_state-state.new.self c.args.root.now c.root_state-state.result c.root_state-state.ensures in
    let seen = ap (λ (e : EngineState). length e.roots) c.self.view_is in
    omega (arith, ap length c.put.ensures.items, snoc_length c.self.inside.roots.items c.root_state-state.result, seen, same)
