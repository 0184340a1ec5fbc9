-- The state of an engine: its records, its journal, what became of the roots, and the null answers.
use Rattle.std.specs.Prelude.{ℕ, ◌+◌, Option, Some, None, List, [], ◌∷◌, ◌++◌}
use Rattle.kt_words.specs.declared.super_word.SuperWord.{SuperWord}
use Rattle.pool_core.specs.Pool.{PoolState}
use Rattle.record_core.specs.Journal.{JournalState, empty_journal}
use Rattle.record_core.specs.EndSeen.{RunPlan}
use Rattle.run_model.specs.Placing.{words_of}
use Rattle.plain_state.specs.declared.record.RootState.{RootState}
use Rattle.plain_state.specs.Store.{StoreState, unused_store}

pub record EngineState : Type 0 where
  pub store : StoreState
  pub journal : JournalState
  pub roots : List RootState
  pub nulls : ℕ
  pub evidence_class : Option ℕ
  pub evidence : List SuperWord

-- nothing has happened
abbrev pub unused_engine : RunPlan → EngineState
unused_engine plan = record {
  store = unused_store plan.superblocks plan.units;
  journal = empty_journal plan.limit;
  roots = [];
  nulls = 0;
  evidence_class = None;
  evidence = [];
}

abbrev pub with_store : EngineState → StoreState → EngineState
with_store e s = record e { store = s }

abbrev pub with_pool : EngineState → PoolState → EngineState
with_pool e pool = record e { store = record e.store { pool = pool } }

abbrev pub with_root : EngineState → RootState → EngineState
with_root e root = record e { roots = e.roots ++ root ∷ [] }

-- a null answer is counted; the first keeps its class and the superblocks
abbrev pub null_counted_if : Option ℕ → ℕ → EngineState → EngineState
null_counted_if None class e = record e { nulls = e.nulls + 1; evidence_class = Some class; evidence = words_of e.store.pool }
null_counted_if (Some kept) class e = record e { nulls = e.nulls + 1 }

abbrev pub null_counted : ℕ → EngineState → EngineState
null_counted class e = null_counted_if e.evidence_class class e
