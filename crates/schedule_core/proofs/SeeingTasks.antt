-- The tasks of records to which the pass has references are seen.
use Rattle.std.proofs.Common.{◌≡◌, ◌∙◌, ◌⊎◌, inl, inr, ℕ, zero, suc, ◌+◌, ◌<◌, ◌≤◌, ◌==◌, Bool, true, false, cond, Option, Some, None, List, [], ◌∷◌, ◌++◌, map, drop, length, refl, sym, ap, subst, arith}
use Rattle.std.specs.Option.{option_to_list}
use Rattle.std.specs.List.{cons_option}
use Rattle.std.specs.Prelude.{slice_index_or}
use Rattle.std.proofs.lemmas.Bool.{eq-eqb}
use Rattle.record_core.specs.Counting.{At, Has, times}
use Rattle.record_core.proofs.TotalFacts.{none_there}
use Rattle.frame_code.specs.Entries.{future_of}
use Rattle.frame_code.specs.Names.{present}
use Rattle.frame_code.specs.declared.entries.Passed.{Passed}
use Rattle.frame_code.specs.declared.entries.Passed.TheVariants as passed
use Rattle.kt_words.specs.declared.plan.Plan.{Plan}
use Rattle.table_core.specs.Addresses.{task}
use Rattle.table_core.specs.Holdings.{Sight, SawHead, SawTask, SawDone}
use Rattle.table_core.specs.Story.{IsTask}
use Rattle.table_core.specs.declared.view.View.{View}
use Rattle.table_core.proofs.ListFacts.{append_cases, same_some}
use Rattle.schedule_rule.specs.SeeingViews.{SeesTask}
use Rattle.step_table.specs.Passes.{view, IsSame}
use Rattle.step_table.specs.RecordHands.{HasFuture}
use Rattle.step_table.specs.declared.pass.Pass.{Pass}
use Rattle.schedule_core.specs.References.{Grows, HasEach}
use Rattle.schedule_core.specs.SeenTasks.{task_seen, with_behind, SeesEach}
use Rattle.schedule_core.specs.declared.making.Behind.{Behind}
use Rattle.schedule_core.proofs.EachFacts.{grows-on, grows-self}

-- the predecessor's task was seen, if there is one, and nothing else has changed
abbrev pub SeesBehind : Option Behind → View → View → Type 0
SeesBehind None old new = new ≡ old
SeesBehind (Some b) old new = (task_seen b.unit new.sights ≡ Some b.task) × Grows old.sights new.sights × Grows old.facts new.facts × Grows old.seen new.seen
    × (new ≡ record old { sights = new.sights; facts = new.facts; seen = new.seen })

pub seen-behind : (o : Option Behind) (old new : View) → new ≡ with_behind o old → SeesBehind o old new
seen-behind None old new is = is
seen-behind (Some b) old new is = (
  ap (λ (v : View). task_seen b.unit v.sights) is ∙ ap (λ (t : Bool). cond t (Some b.task) (task_seen b.unit old.sights)) (eq-eqb b.unit b.unit refl),
  (SawTask b.unit b.task ∷ [], ap (λ (v : View). v.sights) is),
  (IsTask b.task ∷ [], ap (λ (v : View). v.facts) is),
  ((task b.unit, b.task) ∷ [], ap (λ (v : View). v.seen) is),
  is ∙ (λ k. record old { sights = (sym is k).sights; facts = (sym is k).facts; seen = (sym is k).seen }),
)

-- the task of a predecessor is seen
pub sees-behind : (limit u : ℕ) (b : Behind) (old new : View) → u ≡ b.unit → SeesTask limit u old b.task new → SeesBehind (Some b) old new
sees-behind limit u b old new unit_is sees' = (
  ap (λ (v : View). task_seen b.unit v.sights) sees.view_is ∙ ap (λ (t : Bool). cond t (Some b.task) (task_seen b.unit old.sights)) (eq-eqb b.unit b.unit refl),
  (SawTask b.unit b.task ∷ [], ap (λ (v : View). v.sights) sees.view_is),
  (IsTask b.task ∷ [], ap (λ (v : View). v.facts) sees.view_is),
  ((task b.unit, b.task) ∷ [], ap (λ (v : View). v.seen) sees.view_is),
  sees.view_is ∙ (λ k. record old { sights = (sym sees.view_is k).sights; facts = (sym sees.view_is k).facts; seen = (sym sees.view_is k).seen }),
)
  where
    sees : SeesTask limit b.unit old b.task new
    sees = subst (λ (n : ℕ). SeesTask limit n old b.task new) unit_is sees'

-- a task that was seen at a record is seen there still, or a newer one is
pub seen-still : (u t : ℕ) (more l : List Sight) → task_seen u l ≡ Some t → (t' : ℕ) × (task_seen u (more ++ l) ≡ Some t')
seen-still u t [] l e = (t, e)
seen-still u t (SawTask w x ∷ more) l e = by (w == u) (seen-still u t more l e)
  where
    by : (b : Bool) → ((t' : ℕ) × (task_seen u (more ++ l) ≡ Some t')) → (t' : ℕ) × (cond b (Some x) (task_seen u (more ++ l)) ≡ Some t')
    by true later = (x, refl)
    by false later = later
seen-still u t (SawHead w x ∷ more) l e = seen-still u t more l e
seen-still u t (SawDone w x ∷ more) l e = seen-still u t more l e

-- a member of the second part is one of the whole
part-has : {A : Type 0} (P : A → Type 0) (more rest : List A) → ((k : ℕ) (x : A) → At (more ++ rest) k x → P x) → (k : ℕ) (x : A) → At rest k x → P x
part-has P [] rest all = all
part-has P (x ∷ more) rest all = part-has P more rest (λ k y at. all (suc k) y at)

-- of all units, the tasks of some are seen and the rest is left
pub record IsSeeingEach (g : Plan) (all rest : List ℕ) (old now : Pass) : Type 0 where
  pub has : HasEach g rest (view now)
  pub each : (k u : ℕ) → At all k u → Has u rest ⊎ ((t : ℕ) × (task_seen u (view now).sights ≡ Some t))
  pub sights : Grows (view old).sights (view now).sights
  pub facts : Grows (view old).facts (view now).facts
  pub seen : Grows (view old).seen (view now).seen
  pub view_is : view now ≡ record (view old) { sights = (view now).sights; facts = (view now).facts; seen = (view now).seen }
  pub same : IsSame old now

pub seeing-starts : (g : Plan) (all : List ℕ) (old : Pass) → HasEach g all (view old) → IsSeeingEach g all all old old
seeing-starts g all old has = record {
  has = has;
  each = λ k u at. inl (k, at);
  sights = grows-self (view old).sights;
  facts = grows-self (view old).facts;
  seen = grows-self (view old).seen;
  view_is = refl;
  same = record { table = refl; id = refl; splits = refl; number = refl; held_is = refl };
}

pub seeing-on : (g : Plan) (all more rest : List ℕ) (old now new : Pass) → IsSeeingEach g all (more ++ rest) old now → IsSame now new → SeesEach more (view now) (view new) → IsSeeingEach g all rest old new
seeing-on g all more rest old now new so same sees = record {
  has = λ k x at. kept x (part-has (λ (u : ℕ). HasFuture g u (view now)) more rest so.has k x at);
  each = λ k u at. by u (so.each k u at);
  sights = grows-on (view old).sights (view now).sights (view new).sights so.sights sees.sights;
  facts = grows-on (view old).facts (view now).facts (view new).facts so.facts sees.facts;
  seen = grows-on (view old).seen (view now).seen (view new).seen so.seen sees.seen;
  view_is = sees.view_is ∙ (λ k. record (so.view_is k) { sights = (view new).sights; facts = (view new).facts; seen = (view new).seen });
  same = record {
    table = same.table ∙ so.same.table;
    id = same.id ∙ so.same.id;
    splits = same.splits ∙ so.same.splits;
    number = same.number ∙ so.same.number;
    held_is = same.held_is ∙ so.same.held_is;
  };
}
  where
    kept : (u : ℕ) → HasFuture g u (view now) → HasFuture g u (view new)
    kept u has = record { near = has.near; there = subst (λ (v : View). 1 ≤ times u v.futures) (sym sees.view_is) has.there }

    by : (u : ℕ) → Has u (more ++ rest) ⊎ ((t : ℕ) × (task_seen u (view now).sights ≡ Some t)) → Has u rest ⊎ ((t : ℕ) × (task_seen u (view new).sights ≡ Some t))
    by u (inl left) = elim (append_cases more rest left.0 u left.1) [
      | inl here ↦ inr (sees.each here.0 u here.1)
      | inr later ↦ inl later
    ]
    by u (inr told) = let t = seen-still u told.0 sees.sights.0 (view now).sights told.1 in inr (t.0, ap (λ (l : List Sight). task_seen u l) sees.sights.1 ∙ t.1)

pub seeing-ends : (g : Plan) (all : List ℕ) (old now : Pass) → IsSeeingEach g all [] old now → SeesEach all (view old) (view now)
seeing-ends g all old now so = record {
  each = λ k u at. by u (so.each k u at);
  sights = so.sights;
  facts = so.facts;
  seen = so.seen;
  view_is = so.view_is;
}
  where
    by : (u : ℕ) → Has u [] ⊎ ((t : ℕ) × (task_seen u (view now).sights ≡ Some t)) → (t : ℕ) × (task_seen u (view now).sights ≡ Some t)
    by u (inl none) = absurd (none_there u none.1)
    by u (inr told) = told

-- one record's task is seen, or none is
pub sees-one : (limit u unit task_is : ℕ) (o : Option ℕ) (old new : View) → o ≡ Some unit → u ≡ unit → SeesTask limit u old task_is new → SeesEach (option_to_list o) old new
sees-one limit u unit task_is o old new e unit_is sees' =
    let b : Behind = record { unit = unit; task = task_is } in let s = sees-behind limit u b old new unit_is sees' in
    subst (λ (x : Option ℕ). SeesEach (option_to_list x) old new) (sym e) (record {
      each = λ k w at. by k w at s.0;
      sights = s.1;
      facts = s.2;
      seen = s.3;
      view_is = s.4;
    })
  where
    by : (k w : ℕ) → At (unit ∷ []) k w → task_seen unit new.sights ≡ Some task_is → (t : ℕ) × (task_seen w new.sights ≡ Some t)
    by zero w at saw = (task_is, subst (λ (n : ℕ). task_seen n new.sights ≡ Some task_is) (same_some unit w at) saw)
    by (suc k) w at saw = absurd (none_there w at)

pub sees-none : (o : Option ℕ) (v : View) → o ≡ None → SeesEach (option_to_list o) v v
sees-none o v e = subst (λ (x : Option ℕ). SeesEach (option_to_list x) v v) (sym e) (record {
  each = λ k w at. absurd (none_there w at);
  sights = grows-self v.sights;
  facts = grows-self v.facts;
  seen = grows-self v.seen;
  view_is = refl;
})

-- what is passed, one future more
pub passed-first : (given : List Passed) (n : ℕ) (one : Passed) → n < length given → one ≡ slice_index_or given n (passed.Number 0)
    → present (map future_of (drop n given)) ≡ option_to_list (future_of one) ++ present (map future_of (drop (n + 1) given))
passed-first [] n one low is = absurd (omega (arith, low))
passed-first (x ∷ given) zero one low is = ap (λ (y : Passed). present (map future_of (y ∷ given))) (sym is) ∙ by (future_of one)
  where
    by : (o : Option ℕ) → cons_option o (present (map future_of given)) ≡ option_to_list o ++ present (map future_of given)
    by None = refl
    by (Some u) = refl
passed-first (x ∷ given) (suc n) one low is =
    let on : suc (n + 1) ≡ suc n + 1 = omega arith in
    passed-first given n one (omega (arith, low)) is ∙ ap (λ (m : ℕ). option_to_list (future_of one) ++ present (map future_of (drop m (x ∷ given)))) on
