-- Loads that tell of tasks, of what is known already and of waiters, and the scheduler's rule is kept.
use Rattle.std.proofs.Common.{◌≡◌, ◌≢◌, ◌⊎◌, inl, inr, ℕ, zero, suc, ◌<◌, ◌≤◌, ◌==◌, ◌&&◌, Bool, true, false, cond, Some, List, [], ◌∷◌, map, refl, sym, subst, arith}
use Rattle.std.specs.Prelude.{slice_set, nat_le}
use Rattle.std.proofs.lemmas.Bool.{cases_eq}
use Rattle.record_core.specs.Counting.{At, Has, times}
use Rattle.kt_words.specs.StateWords.{phase_of, number_of, tag_of, tag_code, IsStateWord}
use Rattle.kt_words.specs.SuperWords.{class_of}
use Rattle.task_meaning.specs.Worths.{OfAll}
use Rattle.table_core.specs.Addresses.{Addr, Mem, super, state, head, next, task, put, units_of}
use Rattle.table_core.specs.Holdings.{Block, Waiter, SawTask, SawDone}
use Rattle.table_core.specs.Lists.{Each}
use Rattle.table_core.specs.Own.{known_in}
use Rattle.table_core.specs.Parts.{Part as TablePart, shaped, waits, sights, totals, seen as table_seen, Says as TableSays}
use Rattle.table_core.specs.Pool.{superblock_of}
use Rattle.table_core.specs.RecordViews.{saw_state}
use Rattle.table_core.specs.References.{is_record}
use Rattle.table_core.specs.Story.{Story, Outcome, Fact, IsOver, IsTask}
use Rattle.table_core.specs.Views.{saw}
use Rattle.table_core.specs.declared.setup.Setup.{Setup}
use Rattle.table_core.specs.declared.view.View.{View}
use Rattle.table_core.proofs.AddressFacts.{put-again}
use Rattle.table_core.proofs.FillKinds.{sees-state-at as table-sees-state, reads-at as table-reads}
use Rattle.table_core.proofs.ListFacts.{at_map, each-set, each-none, each-cons, same_some}
use Rattle.table_core.proofs.PoolKinds.{sees as table-sees}
use Rattle.table_core.proofs.RecordKinds.{class-glances-at as table-class-glances}
use Rattle.table_core.proofs.Rule.{kept_word as table_kept, frames as table_frames, moves as table_moves}
use Rattle.table_core.proofs.SightFacts.{sighted}
use Rattle.table_core.proofs.WaitFacts.{waits-counts, waiter-waits}
use Rattle.schedule_rule.specs.Calls.{IsTaskOf, IsSo}
use Rattle.schedule_rule.specs.LifeViews.{knowing}
use Rattle.schedule_rule.specs.Results.{tag_for}
use Rattle.schedule_rule.specs.SeeingViews.{saw_task, SeesTask, SawEnd, SawStateOf, IsWaitingWord}
use Rattle.schedule_rule.specs.Parts.{Part, names, facts, owners, results, seen, Says, AllSay, Keeps}
use Rattle.schedule_rule.proofs.KnowingFacts.{table-knowing, facts-known, has-append}
use Rattle.schedule_rule.proofs.PoolKinds.{sees}
use Rattle.schedule_rule.proofs.Rule.{frames, moves, same-story}
use Rattle.schedule_rule.proofs.StoryFacts.{task-of-number}

module _ (g : Setup) (id : ℕ) (v : View) where
  module _ (m : Mem) (vs : List View) (s : Story) (l : AllSay g s m vs) (at : At vs id v) where
    -- a word that is only seen leaves the rule as it is
    pub seen-says : (a : Addr) → AllSay g s (put m a (m a)) (slice_set vs id (saw a (m a) v))
    seen-says a = record {
      table = table_kept g s m a (m a) _ refl (table-sees g id v a (m a) m vs s l.table at);
      schedule = λ q. subst (λ (x : Mem). Says g q s x (map (seen q) (slice_set vs id (saw a (m a) v)))) (sym (put-again m a)) (sees g id v a (m a) m vs s l.schedule at q);
    }

    -- a word that is written as it was
    as-it-was : (a : Addr) (q : Part) → Says g q s (put m a (m a)) (map (seen q) vs)
    as-it-was a q = subst (λ (x : Mem). Says g q s x (map (seen q) vs)) (sym (put-again m a)) (l.schedule q)

    -- of a record to which the hand has a reference
    module _ (u : ℕ) (has : 1 ≤ times u v.futures) where
      abbrev its_task : ℕ
      its_task = m (task u)

      -- it is a record of the table
      refers : (u < units_of g.plan) × (is_record (m (state u)) ≡ true)
      refers = sighted g m vs s l.table id (table_seen sights v) (at_map (table_seen sights) vs id v at) u has

      -- what was seen of the task is so
      task-seen : (t : ℕ) → Has (SawTask u t) v.sights → its_task ≡ t
      task-seen t saw_it = (l.table sights id (table_seen sights v) (at_map (table_seen sights) vs id v at) saw_it.0 (SawTask u t) saw_it.1).1

      -- its task was accepted
      is_task : IsTaskOf s.calls its_task
      is_task =
          let of = (l.schedule owners).is_of u refers.0 refers.1 in
          subst (IsTaskOf s.calls) (sym of.1) (task-of-number s.calls (OfAll []) (l.schedule names) (number_of (m (state u))) of.0).0

      -- see task
      abbrev after_sight : View
      after_sight = saw (task u) its_task (saw_task u its_task v)

      abbrev after_task : View
      after_task = knowing (IsTask its_task ∷ []) after_sight

      -- the table's rule holds with the task among the sights
      sight-table : (q : TablePart) → TableSays g q s m (map (table_seen q) (slice_set vs id after_sight))
      sight-table sights = table_moves g vs id v at sights s m after_sight
          (each-set _ (map (table_seen sights) vs) id (table_seen sights after_sight) (l.table sights)
          (each-cons _ (SawTask u its_task) v.sights (has, refl) (l.table sights id (table_seen sights v) (at_map (table_seen sights) vs id v at))))
      sight-table q = table_frames g vs id v at q s m after_sight refl (l.table q)

      -- the scheduler's rule holds where the task is known, too
      task-says : (q : Part) → Says g q s (put m (task u) its_task) (map (seen q) (slice_set vs id after_task))
      task-says facts = moves g vs id v at facts s (put m (task u) its_task) after_task
          (facts-known g m vs s l id v at (IsTask its_task ∷ []) (each-cons (IsSo s.calls s.ends) (IsTask its_task) [] is_task (each-none (IsSo s.calls s.ends))))
      task-says q = frames g vs id v at q s (put m (task u) its_task) after_task refl (as-it-was (task u) q)

      -- see state, where what was seen at a done record is over
      abbrev word : ℕ
      word = m (state u)

      abbrev Learns : List Fact → Type 0
      Learns more = Each (IsSo s.calls s.ends) more × (phase_of word ≢ 5 → more ≡ []) × (phase_of word ≡ 5 → (outcome : Outcome) × Has (IsOver its_task outcome) more × (tag_of word ≡ tag_code (tag_for outcome)))

      -- there are such facts
      learns : (more : List Fact) × Learns more
      learns = by (cases_eq (phase_of word) 5)
        where
          by : (phase_of word ≡ 5) ⊎ (phase_of word ≢ 5) → (more : List Fact) × Learns more
          by (inr ne) = ([], (each-none (IsSo s.calls s.ends), (λ other. refl), (λ e. absurd (ne e))))
          by (inl e) =
              let over = l.schedule results u refers.0 e in
              (IsOver its_task over.0 ∷ [], (each-cons (IsSo s.calls s.ends) (IsOver its_task over.0) [] over.1 (each-none (IsSo s.calls s.ends)), (λ ne. absurd (ne e)), (λ same. (over.0, (0, refl), over.2.0))))

      abbrev after_state : View
      after_state = saw (state u) word (saw_state u word v)

      abbrev after_over : View
      after_over = knowing learns.0 after_state

      -- a task that is among the sights now was seen before
      earlier : (t : ℕ) → Has (SawTask u t) after_state.sights → Has (SawTask u t) v.sights
      earlier t = by (nat_le 1 (times u v.futures) && (phase_of word == 5))
        where
          not_done : SawDone u word ≡ SawTask u t → ⊥
          not_done e = cc

          older : (k : ℕ) → At (SawDone u word ∷ v.sights) k (SawTask u t) → Has (SawTask u t) v.sights
          older zero here = absurd (not_done (same_some (SawDone u word) (SawTask u t) here))
          older (suc k) there = (k, there)

          by : (b : Bool) → Has (SawTask u t) (cond b (SawDone u word ∷ v.sights) v.sights) → Has (SawTask u t) v.sights
          by true saw_it = older saw_it.0 saw_it.1
          by false saw_it = saw_it

      -- each task that was seen there is known to have ended so
      over : phase_of word ≡ 5 → SawEnd after_over u word
      over done t saw_it = let o = learns.1.2 done in (o.0, has-append (IsOver t o.0) learns.0 v.facts (subst (λ (k : ℕ). Has (IsOver k o.0) learns.0) (task-seen t (earlier t saw_it)) o.1), o.2)

      -- the scheduler's rule holds with what is known more
      over-says : (q : Part) → Says g q s (put m (state u) word) (map (seen q) (slice_set vs id after_over))
      over-says facts = moves g vs id v at facts s (put m (state u) word) after_over (facts-known g m vs s l id v at learns.0 learns.1.0)
      over-says q = frames g vs id v at q s (put m (state u) word) after_over refl (as-it-was (state u) q)

  -- read known: what is known is what is found
  pub reads-known-at : (a : Addr) (n : ℕ) → known_in a v.known ≡ Some n → Keeps g id v a (λ k. k) (λ r w. (w ≡ saw a r v) × (r ≡ n))
  reads-known-at a n known m vs s l at small = (
    saw a (m a) v,
    (s, same-story s, seen-says m vs s l at a),
    (refl, (table-reads g id v a m vs s l.table at small).2.1 n known),
    (refl, refl, inl refl),
  )

  -- a load of a superblock's word, which tells the class of a block there
  pub class-glances-at : (u : ℕ) → u < units_of g.plan → Keeps g id v (super (superblock_of g.plan u)) (λ n. n)
      (λ r w. (w ≡ saw (super (superblock_of g.plan u)) r v) × (class_of r ≤ 3) × ((x : Block) → Has x v.blocks → x.unit ≡ u → class_of r ≡ x.class))
  class-glances-at u near m vs s l at small =
      let told = (table-class-glances g id v u near m vs s l.table at small).2 in let i : ℕ = superblock_of g.plan u in
      (saw (super i) (m (super i)) v, (s, same-story s, seen-says m vs s l at (super i)), (refl, told.1, told.2), (refl, refl, inl refl))

  -- see task
  pub sees-task-at : (u : ℕ) → 1 ≤ times u v.futures → Keeps g id v (task u) (λ n. n) (SeesTask g.plan.limit u v)
  sees-task-at u has m vs s l at small =
      let is = is_task m vs s l at u has in (
        after_task m vs s l at u has,
        (
          s,
          same-story s,
          record {
            table = table-knowing g s (put m (task u) (m (task u))) vs id (IsTask (m (task u)) ∷ []) (after_sight m vs s l at u has)
                (table_kept g s m (task u) (m (task u)) _ refl (sight-table m vs s l at u has));
            schedule = task-says m vs s l at u has;
          },
        ),
        record { view_is = refl; some = is.0.0; few = omega (arith, is.0.1, (l.table totals).drawn); same = λ t saw_it. sym (task-seen m vs s l at u has t saw_it) },
        (refl, refl, inl refl),
      )

  -- see state, under a reference
  pub sees-over-at : (u : ℕ) → 1 ≤ times u v.futures → Keeps g id v (state u) (λ n. n) (λ r w. SawStateOf u v r w × IsStateWord r)
  sees-over-at u has m vs s l at small =
      let near : u < units_of g.plan = (refers m vs s l at u has).0 in let t = table-sees-state g id v u near m vs s l.table at small in let facts_now = learns m vs s l at u has in (
        after_over m vs s l at u has,
        (
          s,
          same-story s,
          record {
            table = table-knowing g s (put m (state u) (m (state u))) vs id facts_now.0 (after_state m vs s l at u has)
                (λ q. subst (λ (w : View). TableSays g q s (put m (state u) (m (state u))) (map (table_seen q) (slice_set vs id w))) t.2.0 (t.1 q));
            schedule = over-says m vs s l at u has;
          },
        ),
        ((facts_now.0, refl, facts_now.1.1, over m vs s l at u has), t.2.1),
        (refl, refl, inl refl),
      )

  -- see a waiter of the hand
  pub sees-waiter-at : (x : Waiter) → Has x v.waiting → Keeps g id v (state x.unit) (λ n. n) (λ r w. (w ≡ saw (state x.unit) r v) × IsWaitingWord x.number r)
  sees-waiter-at x has m vs s l at small =
      let mine = at_map (table_seen waits) vs id v at in
      let there = waiter-waits (λ w. m (state w)) (λ w. m (head w)) (λ w. m (next w)) g.plan (map (table_seen waits) vs) (l.table waits) id (table_seen waits v) mine x.unit (waits-counts v.waiting x has) in (
        saw (state x.unit) (m (state x.unit)) v,
        (s, same-story s, seen-says m vs s l at (state x.unit)),
        (refl, record { shaped = l.table shaped x.unit there.0; waits = there.1; number_is = sym ((l.table waits).numbers id (table_seen waits v) mine has.0 x has.1) }),
        (refl, refl, inl refl),
      )
