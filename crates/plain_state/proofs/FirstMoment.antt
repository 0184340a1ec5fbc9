-- Before the first root, and after the last one.
use Rattle.std.proofs.Common.{◌≡◌, ℕ, zero, suc, ◌*◌, false, cond, None, [], ◌∷◌, length, replicate, refl, sym, ◌∙◌, ap, arith}
use Rattle.std.proofs.Math.Seq.{take-length}
use Rattle.task_syntax.specs.declared.program.Program.{Program}
use Rattle.pool_core.specs.Superblocks.{unused}
use Rattle.pool_core.proofs.Sound.{IsSound-unused}
use Rattle.record_core.specs.Numbers.{flat, found}
use Rattle.record_core.specs.EndSeen.{RunPlan}
use Rattle.run_model.specs.State.{Body}
use Rattle.run_model.specs.Placing.{set_in, superblocks_from, is_open}
use Rattle.run_model.specs.Step.{asks_roots, at_first}
use Rattle.run_model.proofs.ByNumber.{none_of_empty}
use Rattle.plain_state.specs.Store.{no_record}
use Rattle.plain_state.specs.Engine.{unused_engine}
use Rattle.plain_state.specs.Sees.{Sees, InUse}
use Rattle.plain_state.specs.Laws.{MayRun, NoneAsked, AllAsked}
use Rattle.plain_state.proofs.References.{in_use_counts}
use Rattle.plain_state.proofs.KnownRuns.{units_count}

-- a list of so many copies
length_replicate : {A : Type 0} (n : ℕ) (x : A) → length (replicate n x) ≡ n
length_replicate zero x = refl
length_replicate (suc n) x = ap suc (length_replicate n x)

-- the pool of no blocks
none_set : (units place bit left : ℕ) → set_in units place [] bit left ≡ replicate left false
none_set units place bit zero = refl
none_set units place bit (suc left) = ap (λ set. false ∷ set) (none_set units place (suc bit) left)

-- superblocks without blocks
none_used : (units place superblocks : ℕ) → superblocks_from units [] place (replicate superblocks
    (record { class = 0; ever = 0 })) ≡ replicate superblocks (unused units)
none_used units place zero = refl
none_used units place (suc n) =
    ap (λ set. record { class = 0; count = 0; ever = 0; set = set } ∷ superblocks_from units [] (suc place) (replicate n
    (record { class = 0; ever = 0 }))) (none_set units place 0 units)
    ∙ ap (λ xs. unused units ∷ xs) (none_used units (suc place) n)

module _ (p : Program) (plan : RunPlan) (may : MayRun p plan) where
  -- no task is in use
  not_used : (t : ℕ) → InUse [] (at_first plan) t → ⊥
  not_used t used =
      let closed : ◌≡◌ {A = ℕ} (cond (is_open (found {A = Body} [] t)) 1 0) 0 = ap (λ o. cond (is_open (flat o)) 1 0) (none_of_empty t) in
      absurd (omega (arith, (in_use_counts [] (at_first plan) t).0 used, closed))

  -- an unused engine stands for the first state of the run
  first_sees : Sees p plan.units [] None (unused_engine plan) (at_first plan)
  first_sees = record {
    shaped = record {
      units = length_replicate (plan.superblocks * plan.units) no_record
          ∙ ap (λ n. n * plan.units) (sym (length_replicate plan.superblocks (unused plan.units)));
      of_blocks = length_replicate (plan.superblocks * plan.units) None ∙ sym (length_replicate (plan.superblocks * plan.units) no_record);
      of_words = length_replicate (plan.superblocks * plan.units * 8) 0
          ∙ ap (λ n. n * 8) (sym (length_replicate (plan.superblocks * plan.units) no_record));
    };
    sound = IsSound-unused plan.superblocks plan.units may.geometry.superblocks_fit (units_count p plan may);
    pool = ap (λ xs. record { units = plan.units; superblocks = xs }) (sym (none_used plan.units 0 plan.superblocks));
    out = λ t block has used. absurd (not_used t used);
    apart = λ t u block has_t has_u used_t used_u. absurd (not_used t used_t);
    tasks = λ t used. absurd (not_used t used);
    journal = refl;
    roots = refl;
    high = refl;
    regular = refl;
    low = refl;
    nulls = refl;
    class = refl;
    words = refl;
  }

-- before the first root
pub none_asked : NoneAsked
none_asked p plan may = record {
  run = at_first plan;
  asked = refl;
  within = omega arith;
  idle = refl;
  sees = first_sees p plan may;
}

-- after the last root
pub all_asked : AllAsked
all_asked p c plan e asked = (
  asked.run,
  record {
    reached = (0, sym (ap (asks_roots p plan.units (at_first plan)) (take-length p.roots)) ∙ asked.asked);
    idle = asked.idle;
    sees = asked.sees;
  },
)
