-- How roots are asked for.
use Rattle.std.proofs.Common.{◌≡◌, ◌≢◌, ◌∙◌, ℕ, ◌+◌, ◌<◌, ◌≤◌, ◌==◌, Bool, true, false, cond, Some, List, [], ◌∷◌, length, inr, refl, sym, ap, subst, arith}
use Rattle.std.proofs.lemmas.Bool.{eq-eqb}
use Rattle.record_core.specs.Counting.{Has, times, one_if, dropped}
use Rattle.kt_words.specs.declared.plan.Plan.{Plan}
use Rattle.table_core.specs.Addresses as addresses
use Rattle.table_core.specs.Holdings.{RootSays, Record, Null, Sight, SawTask}
use Rattle.table_core.specs.RecordViews.{is_at, turned, put_root}
use Rattle.table_core.specs.Views.{saw}
use Rattle.table_core.specs.declared.setup.Setup.{Setup}
use Rattle.table_core.specs.declared.view.View.{View}
use Rattle.step_table.specs.declared.record_tokens.Future.{Future}
use Rattle.step_table.specs.declared.record_tokens.OwnWord.TheVariants as own_word
use Rattle.step_table.specs.declared.record_tokens.Started.{Started}
use Rattle.step_table.specs.declared.roots.RootWord.TheVariants as word
use Rattle.step_table.specs.RecordHands.{MayRead}
use Rattle.step_table.specs.RootSteps.{MayAsk, HasRootRecord}
use Rattle.step_table.specs.Lookups.{done_in}
use Rattle.reference_rows.specs.Hands.{over_at, HasMaker, Settles}
use Rattle.reference_rows.specs.Roots.{MayBeFirst, HasRoots}
use Rattle.reference_rows.proofs.Covering.{idle-covers}
use Rattle.reference_rows.proofs.HandFacts.{same-number, done-first}
use Rattle.reference_rows.proofs.MakingFacts.{maker-alone, none-left}

-- of a record that is done any header word may be read
pub reads-done : (g : Plan) (u : ℕ) (v : View) → u < addresses.units_of g → done_in u v.done ≡ Some (over_at u) → MayRead g u own_word.References v
reads-done g u v near over = (1, inr (inr (inr (over_at u, record { near = near; there = over }, refl))), tt)

-- a unit stands in the list that has it alone
pub once : (u : ℕ) (l : List ℕ) → l ≡ u ∷ [] → 1 ≤ times u l
once u l e = subst (λ (l : List ℕ). 1 ≤ times u l) (sym e) (omega (arith, ap one_if (same-number u)))

-- the maker that is settled may be the record of the first root
pub may-be-first : (g : Setup) (maker : Started) (v w : View) → HasMaker g maker v → Settles maker.unit v w → MayBeFirst g.plan maker.unit w
may-be-first g maker v w has settled = let opened = has.opened in record {
  near = opened.near;
  turn_is = settled.turn_is ∙ opened.turn_is;
  drawn = λ e. opened.some (sym (settled.root_task_is ∙ opened.its_task) ∙ e);
  sees = subst (λ (l : List Sight). Has (SawTask maker.unit w.root_task) l) (sym settled.sights_are)
      (subst (λ (t : ℕ). Has (SawTask maker.unit t) v.sights) (sym (settled.root_task_is ∙ opened.its_task)) opened.sees);
  idle = none-left g.plan maker v w (maker-alone g maker v has) settled;
  refers = settled.futures_are ∙ opened.futures_are;
  over = ap (done_in maker.unit) settled.done_is ∙ done-first maker.unit v.done;
}

module _ (g : Setup) (u : ℕ) (f : Future) (v : View) (its : f.unit ≡ u) (may : MayBeFirst g.plan u v) where
  -- the first root may be named at the record
  pub may-ask-first : 0 < g.plan.roots → MayAsk g 0 (word.Record f) v
  may-ask-first inside = record {
    asked = [];
    has_turn = may.turn_is;
    is_next = refl;
    inside = inside;
    may = (subst (λ (x : ℕ). x < addresses.units_of g.plan) (sym its) may.near, subst (λ (x : ℕ). 1 ≤ times x v.futures) (sym its) (once u v.futures may.refers));
    says = record {
      drawn = may.drawn;
      sees = subst (λ (x : ℕ). Has (SawTask x v.root_task) v.sights) (sym its) may.sees;
      spare = idle-covers g v (put_root (Record f.unit) v) may.idle;
    };
  }

  -- and is so then
  pub first-named : (k : ℕ) (w : View) → w ≡ saw (addresses.root 0) k (put_root (Record f.unit) v) → HasRoots g.plan u (Record u ∷ []) [] w
  first-named k w e = record {
    near = may.near;
    turn_is = ap (λ (x : View). x.turn) e ∙ ap (turned (Record f.unit)) may.turn_is ∙ ap (λ (x : ℕ). (Record x ∷ []) ∷ []) its;
    undrawn = ap (λ (x : View). x.root_task) e;
    idle = ap (λ (x : View). x.runs) e ∙ may.idle;
    refers = ap (λ (x : View). x.futures) e ∙ ap (dropped (is_at f.unit)) may.refers ∙ ap (λ (b : Bool). cond b [] (u ∷ [])) (eq-eqb u f.unit (sym its));
    over = ap (λ (x : View). done_in u x.done) e ∙ may.over;
  }

module _ (g : Setup) (u : ℕ) (v : View) where
  -- the second root may be named without a record
  pub may-ask-second : HasRoots g.plan u (Record u ∷ []) [] v → 1 < g.plan.roots → MayAsk g 1 word.Null v
  may-ask-second has inside = record { asked = Record u ∷ []; has_turn = has.turn_is; is_next = refl; inside = inside; may = tt; says = has.undrawn }

  pub second-named : (k : ℕ) (w : View) → HasRoots g.plan u (Record u ∷ []) [] v → w ≡ saw (addresses.root 1) k (put_root Null v) → HasRoots g.plan u (Record u ∷ Null ∷ []) [] w
  second-named k w has e = record {
    near = has.near;
    turn_is = ap (λ (x : View). x.turn) e ∙ ap (turned Null) has.turn_is;
    undrawn = ap (λ (x : View). x.root_task) e;
    idle = ap (λ (x : View). x.runs) e ∙ has.idle;
    refers = ap (λ (x : View). x.futures) e ∙ has.refers;
    over = ap (λ (x : View). done_in u x.done) e ∙ has.over;
  }

  -- the first root has the record
  pub has-record : (asked : List RootSays) (futures : List ℕ) → HasRoots g.plan u (Record u ∷ asked) futures v → HasRootRecord g.plan 0 v
  has-record asked futures has = record { asked = Record u ∷ asked; has_turn = has.turn_is; unit = u; there = refl; near = has.near }

-- the roots are as they were after a step that changes none of this but the references
pub roots-stay : (g : Plan) (u : ℕ) (asked : List RootSays) (futures others : List ℕ) (v w : View) → HasRoots g u asked futures v → w.turn ≡ v.turn → w.root_task ≡ v.root_task → w.runs ≡ v.runs
    → w.done ≡ v.done → w.futures ≡ others → HasRoots g u asked others w
roots-stay g u asked futures others v w has turn drawn runs done refers = record {
  near = has.near;
  turn_is = turn ∙ has.turn_is;
  undrawn = drawn ∙ has.undrawn;
  idle = runs ∙ has.idle;
  refers = refers;
  over = ap (done_in u) done ∙ has.over;
}

-- the same where the unit is said otherwise
pub reads-own : (g : Plan) (u x : ℕ) (v : View) → x ≡ u → u < addresses.units_of g → done_in u v.done ≡ Some (over_at u) → MayRead g x own_word.References v
reads-own g u x v its near over = subst (λ (y : ℕ). MayRead g y own_word.References v) (sym its) (reads-done g u v near over)
