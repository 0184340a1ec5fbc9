-- What a pass knows of tasks is so: each is an accepted one.
use Rattle.std.proofs.Common.{◌≡◌, ◌∙◌, inl, inr, ℕ, Option, Some, None, List, [], map, sym, subst, arith}
use Rattle.std.specs.Prelude.{IfSome}
use Rattle.std.proofs.lemmas.Bool.{cases_lt}
use Rattle.record_core.specs.Counting.{At, Has, times}
use Rattle.record_core.proofs.TotalFacts.{total-member}
use Rattle.kt_words.specs.StateWords.{number_of}
use Rattle.task_meaning.specs.Worths.{Accepted, OfCall, OfAll, Respawn}
use Rattle.table_core.specs.Addresses.{Mem, state, refs, task, root, frame_in, units_of}
use Rattle.table_core.specs.Holdings.{SawTask}
use Rattle.table_core.specs.References.{Bag}
use Rattle.table_core.specs.Story.{Story}
use Rattle.table_core.specs.Parts.{references, sights, seen as table_seen}
use Rattle.table_core.specs.declared.setup.Setup.{Setup}
use Rattle.table_core.specs.declared.view.View.{View}
use Rattle.table_core.proofs.ListFacts.{at_map}
use Rattle.table_core.proofs.BagFacts.{record-from}
use Rattle.schedule_rule.specs.Calls.{IsTaskOf, IsBefore, NamesEarlier}
use Rattle.schedule_rule.specs.DrawViews.{KnowsTask, KnowsNamed}
use Rattle.schedule_rule.specs.Parts.{names, owners, AllSay}
use Rattle.schedule_rule.proofs.StoryFacts.{new, task-of-number}

module _ (g : Setup) (id : ℕ) (v : View) (m : Mem) (vs : List View) (s : Story) (l : AllSay g s m vs) (at : At vs id v) where
  -- the task that was seen at a record is one, and stands in its word
  pub seen-task : (u t : ℕ) → Has (SawTask u t) v.sights → IsTaskOf s.calls t × (m (task u) ≡ t)
  seen-task u t has =
      let is = l.table sights id (table_seen sights v) (at_map (table_seen sights) vs id v at) has.0 (SawTask u t) has.1 in
      let mine = total-member (λ (b : Bag). times u b.futures) (map (table_seen references) vs) id (table_seen references v) (at_map (table_seen references) vs id v at) in
      elim (cases_lt u (units_of g.plan)) [
        | inl near ↦
            let some = record-from g.checked g.plan (λ w. m (state w)) (λ w. m (refs w)) (λ r. m (root r)) (frame_in m) (map (table_seen references) vs) (l.table references) u near (omega (arith, is.0, mine)) in
            let of = (l.schedule owners).is_of u near some in
            (subst (IsTaskOf s.calls) (sym of.1 ∙ is.1) (task-of-number s.calls (OfAll []) (l.schedule names) (number_of (m (state u))) of.0).0, is.1)
        | inr far ↦ absurd (omega (arith, is.0, mine, (l.table references).inside u (omega (arith, far))))
      ]

  -- a known task is an accepted one
  pub known-task : (t : ℕ) → KnowsTask v t → IsTaskOf s.calls t
  known-task t w = (seen-task w.0 t w.1).0

  -- and was accepted before the next number
  pub known-before : (a : Accepted) (t : ℕ) → KnowsTask v t → IsBefore s.calls (new s.calls a) t
  known-before a t knows = let is = known-task t knows in (omega (arith, is.0.1), is)

  pub known-some : (a : Accepted) (o : Option ℕ) → IfSome o (KnowsTask v) → IfSome o (IsBefore s.calls (new s.calls a))
  known-some a None knows = knows
  known-some a (Some t) knows = known-before a t knows

  -- so the next call names earlier tasks, where all that it names are known
  pub known-call : (a : Accepted) → KnowsNamed v a → NamesEarlier s.calls (new s.calls a) a
  known-call (OfCall call waits) knows = ((λ k o there. known-some (OfCall call waits) o (knows.0 k o there)), known-some (OfCall call waits) waits knows.1)
  known-call (OfAll members) knows = (knows.0, knows.1, (λ k t there. known-before (OfAll members) t (knows.2 k t there)))
  known-call (Respawn t waits) knows = absurd knows
