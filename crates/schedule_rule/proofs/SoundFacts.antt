-- What the rule says of one view alone: it has and knows what is so.
use Rattle.std.proofs.Common.{◌≡◌, ◌≢◌, ◌∙◌, ◌⊎◌, inl, inr, ℕ, ◌+◌, ◌<◌, ◌≤◌, ◌==◌, Bool, true, false, cond, Option, Some, None, List, [], ◌∷◌, map, length, refl, sym, ap, subst, arith}
use Rattle.std.specs.Prelude.{slice_get, slice_index, slice_set, nat_lt, IfSome}
use Rattle.std.proofs.lemmas.Bool.{cases_eq, cases_lt, eq-eqb, eqb-true, ne_eqb}
use Rattle.record_core.specs.Sums.{total}
use Rattle.record_core.specs.Counting.{At, one_if, passing}
use Rattle.record_core.proofs.CountFacts.{passing-one, passing-some, times-some}
use Rattle.record_core.proofs.NumberFacts.{number-in_range}
use Rattle.record_core.proofs.TotalFacts.{total-member, total-same}
use Rattle.kt_words.specs.StateWords.{phase_of}
use Rattle.kt_words.specs.SuperWords.{class_of}
use Rattle.task_meaning.specs.Worths.{Accepted, OfCall, OfAll, Respawn}
use Rattle.frame_code.specs.Ways.{BodyHasWay}
use Rattle.frame_code.specs.Words.{BodyOf, OfKind, OfMembers, body_at}
use Rattle.task_syntax.specs.declared.program.Program.{Program}
use Rattle.table_core.specs.Addresses.{Addr, Mem, super, state, head, next, task, put, units_of}
use Rattle.table_core.specs.Asking.{Drawn}
use Rattle.table_core.specs.Holdings.{Made, Run}
use Rattle.table_core.specs.Lists.{Each}
use Rattle.table_core.specs.Own.{Hands, made_at, runs_at, done_at, record_words}
use Rattle.table_core.specs.Pool.{IsBlock, superblock_of, bit_in}
use Rattle.table_core.specs.Roots.{Turn}
use Rattle.table_core.specs.Story.{Story, End, Outcome, IsAccepted, IsOver}
use Rattle.table_core.specs.WaitLists.{Waits, waits_at}
use Rattle.table_core.specs.Parts.{pool, shares, bounds, fits, own, roots, totals, waits, sights, seen as table_seen}
use Rattle.table_core.specs.declared.setup.Setup.{Setup}
use Rattle.table_core.specs.declared.view.View.{View}
use Rattle.table_core.proofs.ClassFacts.{used-from}
use Rattle.table_core.proofs.ListFacts.{at_map, set_here, same_some}
use Rattle.table_core.proofs.OwnFacts.{made-counts, runs-counts, done-counts, made-phase, runs-phase, done-phase}
use Rattle.table_core.proofs.PoolRecords.{record_block}
use Rattle.table_core.proofs.SightFacts.{sighted}
use Rattle.table_core.proofs.WaitFacts.{waits-counts, waiter-waits}
use Rattle.schedule_rule.specs.Askers.{asks_for}
use Rattle.schedule_rule.specs.Calls.{after_in, first_in, task_of, is_number, IsSo, IsNumber, IsTaskOf, IsBefore, NamesEarlier, ends_of, Ended}
use Rattle.schedule_rule.specs.Frames.{IsFrameOf}
use Rattle.schedule_rule.specs.Numbers.{in_hand, in_hands, IsRun}
use Rattle.schedule_rule.specs.Parts.{names, facts, rowed, places, askers, framed, formed, owners, running, bags, seen, AllSay, Lawful, Keeps}
use Rattle.schedule_rule.specs.SoundViews.{SoundRecords, IsUpTo, SoundNumbers, SoundFacts, SoundView}
use Rattle.schedule_rule.proofs.KnownFacts.{seen-task}
use Rattle.schedule_rule.proofs.StoryFacts.{number-from, task-of-number}

-- a frame that is of a task stands where there is a way
pub has-way : (p : Program) (calls : List Accepted) (tasks : ℕ → ℕ) (n : ℕ) (body : BodyOf ℕ) → IsFrameOf p calls tasks n body → BodyHasWay p body
has-way p calls tasks n (OfKind q) is = is.1
has-way p calls tasks n (OfMembers units at) is = tt

module _ (g : Setup) (m : Mem) (vs : List View) (s : Story) (l : AllSay g s m vs) (id : ℕ) (v : View) (at : At vs id v) where
  abbrev states : ℕ → ℕ
  states w = m (state w)

  abbrev supers : ℕ → ℕ
  supers i = m (super i)

  abbrev hands : List Hands
  hands = map (table_seen own) vs

  -- the records of the pass stand among those of all
  own_at : At hands id (table_seen own v)
  own_at = at_map (table_seen own) vs id v at

  -- a record that stands at a unit lies in a block of its superblock's class
  block-at : (u : ℕ) → u < units_of g.plan → 1 ≤ phase_of (states u) → IsBlock g.plan u (class_of (supers (superblock_of g.plan u)))
  block-at u near used = record_block g.plan supers (bit_in m) states (map (table_seen pool) vs) (l.table pool) u near (used-from (states u) used)

  -- the records that it makes lie in blocks of their classes
  made-block : Each (λ (r : Made). IsBlock g.plan r.unit r.class) v.made
  made-block k r there =
      let p = made-phase g.plan supers states (record_words m) hands (l.table own) id (table_seen own v) own_at r.unit (made-counts v.made r (k, there)) in
      subst (IsBlock g.plan r.unit) (sym ((l.table own).classes id (table_seen own v) own_at k r there)) (block-at r.unit p.0 (omega (arith, p.1)))

  -- and so do those that run
  run-block : Each (λ (r : Run). IsBlock g.plan r.unit r.class) v.runs
  run-block k r there =
      let p = runs-phase g.plan supers states (record_words m) hands (l.table own) id (table_seen own v) own_at r.unit (runs-counts v.runs r (k, there)) in
      subst (IsBlock g.plan r.unit) (sym ((l.table own).run_classes id (table_seen own v) own_at k r there)) (block-at r.unit p.0 (omega (arith, p.1)))

  -- a phase is one
  one-phase : (x : ℕ) → one_if (x == 1) + one_if (x == 2) + one_if (x == 4) + one_if (x == 5) ≤ 1
  one-phase x = by (cases_eq x 1) (cases_eq x 2) (cases_eq x 4) (cases_eq x 5)
    where
      -- the test of another phase fails
      by : (x ≡ 1) ⊎ (x ≢ 1) → (x ≡ 2) ⊎ (x ≢ 2) → (x ≡ 4) ⊎ (x ≢ 4) → (x ≡ 5) ⊎ (x ≢ 5) → one_if (x == 1) + one_if (x == 2) + one_if (x == 4) + one_if (x == 5) ≤ 1
      by (inl e) b c d = omega (arith, ap (λ (y : ℕ). one_if (y == 1) + one_if (y == 2) + one_if (y == 4) + one_if (y == 5)) e)
      by (inr a) (inl e) c d = omega (arith, ap (λ (y : ℕ). one_if (y == 1) + one_if (y == 2) + one_if (y == 4) + one_if (y == 5)) e)
      by (inr a) (inr b) (inl e) d = omega (arith, ap (λ (y : ℕ). one_if (y == 1) + one_if (y == 2) + one_if (y == 4) + one_if (y == 5)) e)
      by (inr a) (inr b) (inr c) (inl e) = omega (arith, ap (λ (y : ℕ). one_if (y == 1) + one_if (y == 2) + one_if (y == 4) + one_if (y == 5)) e)
      by (inr a) (inr b) (inr c) (inr d) = omega (arith, ap one_if (ne_eqb x 1 a), ap one_if (ne_eqb x 2 b), ap one_if (ne_eqb x 4 c), ap one_if (ne_eqb x 5 d))

  -- a record is one of the pass's own in one way
  own-once : (u : ℕ) → made_at u v.made + waits_at u v.waiting + runs_at u v.runs + done_at u v.done ≤ 1
  own-once u = omega (
    arith,
    (l.table own).made u,
    (l.table own).running u,
    (l.table own).done u,
    (l.table waits).once u,
    total-member (λ (h : Hands). made_at u h.made) hands id (table_seen own v) own_at,
    total-member (λ (h : Hands). runs_at u h.runs) hands id (table_seen own v) own_at,
    total-member (λ (h : Hands). done_at u h.done) hands id (table_seen own v) own_at,
    total-member (λ (x : Waits). waits_at u x.waiting) (map (table_seen waits) vs) id (table_seen waits v) (at_map (table_seen waits) vs id v at),
    all (nat_lt u (units_of g.plan)),
  )
    where
      all : (b : Bool) → cond b (one_if (phase_of (states u) == 1)) 0 + cond b (one_if (phase_of (states u) == 2)) 0 + cond b (one_if (phase_of (states u) == 4)) 0 + cond b (one_if (phase_of (states u) == 5)) 0 ≤ 1
      all true = one-phase (phase_of (states u))
      all false = omega arith

  -- what it has of records is sound
  sound-records : SoundRecords g v
  sound-records = record {
    frames = λ k r there. record {
      block = run-block k r there;
      formed = (l.schedule formed).running id v.runs (at_map (seen formed) vs id v at) k r there;
      fits = (l.table fits).running id v.runs (at_map (table_seen fits) vs id v at) k r there;
      way = has-way g.checked s.calls (λ w. m (task w)) r.number (body_at g.checked (slice_index r.words)) ((l.schedule framed).running id v.runs (at_map (seen framed) vs id v at) k r there);
    };
    bag = l.schedule bags id (seen bags v) (at_map (seen bags) vs id v at);
    near = λ k u there. (sighted g m vs s l.table id (table_seen sights v) (at_map (table_seen sights) vs id v at) u ((times-some u v.futures).1 (k, there))).0;
    made = made-block;
    done = λ k d there. (done-phase g.plan supers states (record_words m) hands (l.table own) id (table_seen own v) own_at d.unit (done-counts v.done d (k, there))).0;
    waiting = λ k x there. (waiter-waits states (λ w. m (head w)) (λ w. m (next w)) g.plan (map (table_seen waits) vs) (l.table waits) id (table_seen waits v)
        (at_map (table_seen waits) vs id v at) x.unit (waits-counts v.waiting x (k, there))).0;
    once = own-once;
  }

  -- numbers are up to the limit
  few : length s.calls ≤ g.plan.limit
  few = omega (arith, (l.table totals).drawn)

  -- what it says of running records is so
  is_run : Each (IsRun g.plan s.calls) v.runs
  is_run = l.schedule running id v.runs (at_map (seen running) vs id v at)

  -- the task of a run is an accepted one, no later than its number
  run-task : (k : ℕ) (r : Run) → At v.runs k r → IsTaskOf s.calls r.task × (r.task ≤ r.number)
  run-task k r there =
      let is = is_run k r there in let t = task-of-number s.calls (OfAll []) (l.schedule names) r.number is.accepted in
      (subst (IsTaskOf s.calls) (sym is.task) t.0, omega (arith, is.task, t.1))

  -- one run at most is of a task
  one-task : (t : ℕ) → passing (λ (r : Run). r.task == t) v.runs ≤ 1
  one-task t = elim (cases_lt 0 (passing (λ (r : Run). r.task == t) v.runs)) [
    | inl some ↦
        let has = (passing-some (λ (r : Run). r.task == t) v.runs).0 (omega (arith, some)) in
        let is_task = subst (IsTaskOf s.calls) (eqb-true (has.member).task t has.passes) (run-task has.there.0 has.member has.there.1).0 in
        omega (
          arith,
          (l.schedule owners).once t is_task,
          total-member (in_hands s.calls t) (map (seen owners) vs) id (seen owners v) (at_map (seen owners) vs id v at),
          total-same (λ (r : Run). one_if (r.task == t)) (λ (r : Run). one_if (task_of s.calls r.number == t)) v.runs (λ k r there. ap (λ (x : ℕ). one_if (x == t)) (is_run k r there).task),
        )
    | inr none ↦ omega (arith, none)
  ]

  -- what the hand has of a number is no more than all places of it
  in-places : (n : ℕ) → in_hand n (seen places v) ≤ one_if (is_number s.calls n)
  in-places n = omega (arith, l.schedule places n, total-member (in_hand n) (map (seen places) vs) id (seen places v) (at_map (seen places) vs id v at))

  -- a test counts once at most
  one-if-few : (b : Bool) → one_if b ≤ 1
  one-if-few true = omega arith
  one-if-few false = omega arith

  -- an accepted number is one up to the limit
  up-to : (n : ℕ) → IsNumber s.calls n → IsUpTo g.plan.limit n
  up-to n is = (is.0, omega (arith, is.1, few))

  -- what it has of numbers is sound
  sound-numbers : SoundNumbers g v
  sound-numbers =
      let asked = l.schedule askers id (seen askers v) (at_map (seen askers) vs id v at) in
      record {
        one_task = one-task;
        one_number = λ n. omega (arith, in-places n, one-if-few (is_number s.calls n));
        numbers = λ n some. up-to n (number-from s.calls n (omega (arith, some, in-places n)));
        runs = λ k r there. let t = run-task k r there in ((t.0.0.0, t.1), omega (arith, (is_run k r there).accepted.1, few));
        rows = l.schedule rowed id (seen rowed v) (at_map (seen rowed) vs id v at);
        unplaced = λ k r there. asked.unplaced k r there ∙ ap (λ (t : ℕ). total (λ (d : Drawn). asks_for t d.asker) v.drawn) (sym (is_run k r there).task);
        made = asked.made;
      }

  -- what is known is so
  so : Each (IsSo s.calls s.ends) v.facts
  so = l.schedule facts id v.facts (at_map (seen facts) vs id v at)

  -- a task ends once
  ends-few : (t : ℕ) → ends_of t s.ends ≤ 1
  ends-few t = elim (cases_lt 0 (ends_of t s.ends)) [
    | inl some ↦ omega (arith, (l.schedule owners).once t ((l.schedule owners).ended t (omega (arith, some))))
    | inr none ↦ omega (arith, none)
  ]

  -- so two ends of a task are the same
  one-end : (t : ℕ) (outcome other : Outcome) → Ended s.ends t outcome → Ended s.ends t other → outcome ≡ other
  one-end t outcome other a b =
      let x : End = record { task = t; outcome = outcome } in let y : End = record { task = t; outcome = other } in
      let place = passing-one (λ (e : End). e.task == t) s.ends a.0 b.0 x y (ends-few t) a.1 (eq-eqb t t refl) b.1 (eq-eqb t t refl) in
      ap (λ (e : End). e.outcome) (same_some x y (sym a.1 ∙ ap (slice_get s.ends) place ∙ b.1))

  -- what a call is behind was accepted before it
  after-earlier : (n t : ℕ) (call : Accepted) → NamesEarlier s.calls n call → after_in (Some call) ≡ Some t → IsBefore s.calls n t
  after-earlier n t (OfCall call after) is e = subst (λ (o : Option ℕ). IfSome o (IsBefore s.calls n)) e is.1
  after-earlier n t (Respawn own_task after) is e = subst (λ (o : Option ℕ). IfSome o (IsBefore s.calls n)) e is.1
  after-earlier n t (OfAll members) is e = by members is.2 e
    where
      by : (ms : List ℕ) → Each (IsBefore s.calls n) ms → first_in ms ≡ Some t → IsBefore s.calls n t
      by [] each none = let no_one : None ≡ Some t → ⊥ = λ same. cc in absurd (no_one none)
      by (x ∷ ms) each first = subst (IsBefore s.calls n) (same_some x t first) (each 0 x refl)

  -- what it knows agrees
  sound-facts : SoundFacts g v
  sound-facts = record {
    one_call = λ n call other a b. same_some call other (sym (so a.0 (IsAccepted n call) a.1) ∙ so b.0 (IsAccepted n other) b.1);
    one_end = λ t outcome other a b. one-end t outcome other (so a.0 (IsOver t outcome) a.1) (so b.0 (IsOver t other) b.1);
    one_sight = λ u t other a b. sym (seen-task g id v m vs s l at u t a).1 ∙ (seen-task g id v m vs s l at u other b).1;
    numbers = λ n call a. up-to n (number-in_range s.calls n call (so a.0 (IsAccepted n call) a.1));
    afters = λ n t call a e. let is = after-earlier n t call ((l.schedule names).earlier n call (so a.0 (IsAccepted n call) a.1)) e in (is.1.0.0, is.0);
    tasks = λ u t a. up-to t (seen-task g id v m vs s l at u t a).0.0;
  }

  -- all that is said of one view
  pub is-sound : SoundView g v
  is-sound = record {
    records = sound-records;
    numbers = sound-numbers;
    facts = sound-facts;
    parts = omega (arith, l.table shares, total-member (λ (n : ℕ). n) (map (table_seen shares) vs) id v.parts (at_map (table_seen shares) vs id v at));
    one_turn = omega (arith, (l.table roots).one, total-member (λ (t : Turn). length t.turn) (map (table_seen roots) vs) id (table_seen roots v) (at_map (table_seen roots) vs id v at));
    one_draw = (l.table bounds id (table_seen bounds v) (at_map (table_seen bounds) vs id v at)).single;
  }

-- the rule says so of each view
pub sound-views : (g : Setup) (m : Mem) (vs : List View) (id : ℕ) (v : View) → Lawful g m vs → At vs id v → SoundView g v
sound-views g m vs id v lawful at = is-sound g m vs lawful.0 lawful.1 id v at

-- so a step that keeps the rule tells it of both views
pub tells-sound : (g : Setup) (id : ℕ) (v : View) (a : Addr) (f : ℕ → ℕ) (told : ℕ → View → Type 0)
    → Keeps g id v a f told → Keeps g id v a f (λ r w. told r w × SoundView g v × SoundView g w)
tells-sound g id v a f told keeps m vs s l at small =
    let t = keeps m vs s l at small in
    (t.0, t.1, (t.2, is-sound g m vs s l id v at, is-sound g (put m a (f (m a))) (slice_set vs id t.0) t.1.0 t.1.2 id t.0 (set_here vs id v t.0 at)), t.3)
