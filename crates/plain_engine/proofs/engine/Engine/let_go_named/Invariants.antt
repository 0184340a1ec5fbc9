use Rattle.std.proofs.Common.{◌≡◌, drop}
use Rattle.std.specs.List.{filter_map}
use Rattle.frame_code.specs.Words.{unit_named}
use Rattle.plain_state.specs.Store.{MayLetGoAll, let_go_all}
use Rattle.plain_state.specs.Engine.{with_store}
use Rattle.plain_engine.proofs.engine.Engine.let_go_named.Given as goal

abbrev pub invariant-words : goal.invariant-words
invariant-words l = MayLetGoAll (filter_map unit_named (drop l.word-index l.words)) l.self.store
    × (with_store l.self (let_go_all (filter_map unit_named (drop l.word-index l.words)) l.self.store)
    ≡ with_store l.initial.self (let_go_all (filter_map unit_named l.words) l.initial.self.store))
