-- The two rows of a drawn number are written: the scheduler's rule is kept.
use Rattle.std.proofs.Common.{◌≡◌, ◌≢◌, ◌∙◌, inl, inr, ℕ, ◌+◌, ◌≤◌, ◌==◌, ◌&&◌, Bool, true, false, cond, Option, Some, List, map, refl, sym, ap, subst, arith}
use Rattle.std.specs.Prelude.{slice_set}
use Rattle.std.proofs.lemmas.Bool.{cases_eq, eq-eqb, ne_eqb, and_from}
use Rattle.record_core.specs.Counting.{At, Has, one_if, times, dropped}
use Rattle.record_core.proofs.TotalFacts.{total-set}
use Rattle.record_core.proofs.CountFacts.{times-some}
use Rattle.record_core.proofs.NumberFacts.{number-in_range}
use Rattle.task_meaning.specs.Worths.{Accepted}
use Rattle.table_core.specs.Addresses.{Mem, journal, put}
use Rattle.table_core.specs.Bounds.{IsBounded}
use Rattle.table_core.specs.RecordViews.{is_at}
use Rattle.table_core.specs.Story.{Story, IsAccepted}
use Rattle.table_core.specs.Views.{saw}
use Rattle.table_core.specs.Parts.{Part as TablePart, bounds, seen as table_seen, Says as TableSays}
use Rattle.table_core.specs.declared.setup.Setup.{Setup}
use Rattle.table_core.specs.declared.view.View.{View}
use Rattle.table_core.proofs.BagFacts.{times-dropped, one-here, one-apart}
use Rattle.table_core.proofs.ListFacts.{at_map, each-set}
use Rattle.table_core.proofs.PoolKinds.{bounded}
use Rattle.table_core.proofs.Rule.{frames as table_frames, moves as table_moves}
use Rattle.schedule_rule.specs.Calls.{AtNumber, task_in, after_in, task_of, after_of, is_number}
use Rattle.schedule_rule.specs.Rows.{Unwritten, RowsSound, RowedSound, row_word, word_of_task, lacking_task, lacking_after}
use Rattle.schedule_rule.specs.DrawViews.{wrote_task, wrote_after}
use Rattle.schedule_rule.specs.Parts.{Part, facts, rows, rowed, seen, Says, AllSay, Keeps}
use Rattle.schedule_rule.proofs.Rule.{frames, moves, same-story}
use Rattle.schedule_rule.proofs.StoryFacts.{is-number}

-- the row of n is written, that one pass lacked
row-written : (calls : List Accepted) (word old new lacking lacking' : ℕ → ℕ) (n : ℕ) → is_number calls n ≡ true
    → ((k : ℕ) → lacking' k + one_if (n == k) ≡ lacking k) → ((k : ℕ) → lacking k ≤ one_if (is_number calls k)) → new n ≡ word n → ((k : ℕ) → k ≢ n → new k ≡ old k)
    → ((k : ℕ) → old k ≡ row_word calls k (lacking k) (word k)) → (k : ℕ) → new k ≡ row_word calls k (lacking' k) (word k)
row-written calls word old new lacking lacking' n is fewer once here others was k = elim (cases_eq k n) [
  | inl e ↦ subst (λ (x : ℕ). new x ≡ row_word calls x (lacking' x) (word x)) (sym e)
      (here ∙ sym (ap (λ (b : Bool). cond b (cond (lacking' n == 0) (word n) 0) 0) is ∙ ap (λ (b : Bool). cond b (word n) 0) (eq-eqb (lacking' n) 0 (omega (arith, fewer n, once n, ap one_if is, one-here n)))))
  | inr ne ↦ others k ne ∙ was k ∙ ap (λ (x : ℕ). row_word calls k x (word k)) (omega (arith, fewer k, one-apart n k (λ e. ne (sym e))))
]

-- a row that is written, and those of other numbers
row-here : (m : Mem) (n j x : ℕ) → put m (journal n j) x (journal n j) ≡ x
row-here m n j x = ap (λ (b : Bool). cond b x (m (journal n j))) (and_from (j == j) (n == n) (eq-eqb j j refl) (eq-eqb n n refl))

row-other : (m : Mem) (n j x k : ℕ) → k ≢ n → put m (journal n j) x (journal k j) ≡ m (journal k j)
row-other m n j x k ne = by (j == j)
  where
    by : (b : Bool) → cond (b && (n == k)) x (m (journal k j)) ≡ m (journal k j)
    by true = ap (λ (d : Bool). cond d x (m (journal k j))) (ne_eqb n k (λ e. ne (sym e)))
    by false = refl

module _ (g : Setup) (id : ℕ) (v : View) where
  module _ (m : Mem) (vs : List View) (s : Story) (l : AllSay g s m vs) (at : At vs id v) (n : ℕ) (call : Accepted) (knows : Has (IsAccepted n call) v.facts) (in_use : 1 ≤ v.parts) where
    -- the call that is known is that of the number
    accepted : AtNumber s.calls n call
    accepted = l.schedule facts id (seen facts v) (at_map (seen facts) vs id v at) knows.0 (IsAccepted n call) knows.1

    numbered : is_number s.calls n ≡ true
    numbered = is-number s.calls n (number-in_range s.calls n call accepted)

    was : RowsSound s.calls (λ k. m (journal k 0)) (λ k. m (journal k 1)) (map (seen rows) vs)
    was = l.schedule rows

    was_bounded : IsBounded (table_seen bounds v)
    was_bounded = l.table bounds id (table_seen bounds v) (at_map (table_seen bounds) vs id v at)

    was_rowed : RowedSound (seen rowed v)
    was_rowed = l.schedule rowed id (seen rowed v) (at_map (seen rowed) vs id v at)

    -- the row of its task
    module _ (lacks : Has n v.no_task) where
      abbrev word : ℕ
      word = task_in (Some call) n

      abbrev after_task : View
      after_task = saw (journal n 0) (m (journal n 0)) (wrote_task n v)

      dropped-task : (k : ℕ) → times k (dropped (is_at n) v.no_task) + one_if (n == k) ≡ times k v.no_task
      dropped-task k = times-dropped n k v.no_task ((times-some n v.no_task).1 lacks)

      fewer-task : (k : ℕ) → lacking_task k (slice_set (map (seen rows) vs) id (seen rows after_task)) + one_if (n == k) ≡ lacking_task k (map (seen rows) vs)
      fewer-task k = omega (arith, dropped-task k, total-set (λ (h : Unwritten). times k h.no_task) (map (seen rows) vs) id (seen rows v) (seen rows after_task) (at_map (seen rows) vs id v at))

      same-after : (k : ℕ) → lacking_after k (slice_set (map (seen rows) vs) id (seen rows after_task)) ≡ lacking_after k (map (seen rows) vs)
      same-after k = omega (arith, total-set (λ (h : Unwritten). times k h.no_after) (map (seen rows) vs) id (seen rows v) (seen rows after_task) (at_map (seen rows) vs id v at))

      task-table : (q : TablePart) → TableSays g q s (put m (journal n 0) word) (map (table_seen q) (slice_set vs id after_task))
      task-table bounds = table_moves g vs id v at bounds s (put m (journal n 0) word) after_task
          (each-set _ (map (table_seen bounds) vs) id (table_seen bounds after_task) (l.table bounds) (bounded (table_seen bounds v) _ in_use was_bounded))
      task-table q = table_frames g vs id v at q s (put m (journal n 0) word) after_task refl (l.table q)

      task-says : (q : Part) → Says g q s (put m (journal n 0) word) (map (seen q) (slice_set vs id after_task))
      task-says rows = moves g vs id v at rows s (put m (journal n 0) word) after_task (record {
        task = row-written s.calls (task_of s.calls) (λ k. m (journal k 0)) (λ k. put m (journal n 0) word (journal k 0)) (λ k. lacking_task k (map (seen rows) vs))
            (λ k. lacking_task k (slice_set (map (seen rows) vs) id (seen rows after_task))) n numbered fewer-task was.task_once
            (row-here m n 0 word ∙ sym (ap (λ (o : Option Accepted). task_in o n) accepted)) (λ k ne. row-other m n 0 word k ne) was.task;
        after = λ k. was.after k ∙ ap (λ (x : ℕ). row_word s.calls k x (word_of_task (after_of s.calls k))) (sym (same-after k));
        task_once = λ k. omega (arith, was.task_once k, fewer-task k);
        after_once = λ k. omega (arith, was.after_once k, same-after k);
      })
      task-says rowed = moves g vs id v at rowed s (put m (journal n 0) word) after_task (each-set RowedSound (map (seen rowed) vs) id (seen rowed after_task) (l.schedule rowed)
          (record { task = λ k. omega (arith, was_rowed.task k, dropped-task k); after = was_rowed.after; runs = was_rowed.runs }))
      task-says q = frames g vs id v at q s (put m (journal n 0) word) after_task refl (l.schedule q)

    -- the row of its predecessor
    module _ (lacks : Has n v.no_after) where
      abbrev after_word : ℕ
      after_word = word_of_task (after_in (Some call))

      abbrev after_after : View
      after_after = saw (journal n 1) (m (journal n 1)) (wrote_after n v)

      dropped-after : (k : ℕ) → times k (dropped (is_at n) v.no_after) + one_if (n == k) ≡ times k v.no_after
      dropped-after k = times-dropped n k v.no_after ((times-some n v.no_after).1 lacks)

      fewer-after : (k : ℕ) → lacking_after k (slice_set (map (seen rows) vs) id (seen rows after_after)) + one_if (n == k) ≡ lacking_after k (map (seen rows) vs)
      fewer-after k = omega (arith, dropped-after k, total-set (λ (h : Unwritten). times k h.no_after) (map (seen rows) vs) id (seen rows v) (seen rows after_after) (at_map (seen rows) vs id v at))

      same-task : (k : ℕ) → lacking_task k (slice_set (map (seen rows) vs) id (seen rows after_after)) ≡ lacking_task k (map (seen rows) vs)
      same-task k = omega (arith, total-set (λ (h : Unwritten). times k h.no_task) (map (seen rows) vs) id (seen rows v) (seen rows after_after) (at_map (seen rows) vs id v at))

      after-table : (q : TablePart) → TableSays g q s (put m (journal n 1) after_word) (map (table_seen q) (slice_set vs id after_after))
      after-table bounds = table_moves g vs id v at bounds s (put m (journal n 1) after_word) after_after
          (each-set _ (map (table_seen bounds) vs) id (table_seen bounds after_after) (l.table bounds) (bounded (table_seen bounds v) _ in_use was_bounded))
      after-table q = table_frames g vs id v at q s (put m (journal n 1) after_word) after_after refl (l.table q)

      after-says : (q : Part) → Says g q s (put m (journal n 1) after_word) (map (seen q) (slice_set vs id after_after))
      after-says rows = moves g vs id v at rows s (put m (journal n 1) after_word) after_after (record {
        task = λ k. was.task k ∙ ap (λ (x : ℕ). row_word s.calls k x (task_of s.calls k)) (sym (same-task k));
        after = row-written s.calls (λ k. word_of_task (after_of s.calls k)) (λ k. m (journal k 1)) (λ k. put m (journal n 1) after_word (journal k 1)) (λ k. lacking_after k (map (seen rows) vs))
            (λ k. lacking_after k (slice_set (map (seen rows) vs) id (seen rows after_after))) n numbered fewer-after was.after_once
            (row-here m n 1 after_word ∙ sym (ap (λ (o : Option Accepted). word_of_task (after_in o)) accepted)) (λ k ne. row-other m n 1 after_word k ne) was.after;
        task_once = λ k. omega (arith, was.task_once k, same-task k);
        after_once = λ k. omega (arith, was.after_once k, fewer-after k);
      })
      after-says rowed = moves g vs id v at rowed s (put m (journal n 1) after_word) after_after (each-set RowedSound (map (seen rowed) vs) id (seen rowed after_after) (l.schedule rowed)
          (record { task = was_rowed.task; after = λ k. omega (arith, was_rowed.after k, dropped-after k); runs = was_rowed.runs }))
      after-says q = frames g vs id v at q s (put m (journal n 1) after_word) after_after refl (l.schedule q)

  -- row Task
  pub writes-task-at : (n : ℕ) (call : Accepted) → Has (IsAccepted n call) v.facts → Has n v.no_task → 1 ≤ v.parts
      → Keeps g id v (journal n 0) (λ k. task_in (Some call) n) (λ k w. (found : ℕ) × (w ≡ saw (journal n 0) found (wrote_task n v)))
  writes-task-at n call knows lacks in_use m vs s l at small = (
    saw (journal n 0) (m (journal n 0)) (wrote_task n v),
    (s, same-story s, record { table = task-table m vs s l at n call knows in_use lacks; schedule = task-says m vs s l at n call knows in_use lacks }),
    (m (journal n 0), refl),
    (refl, refl, inl refl),
  )

  -- row After
  pub writes-after-at : (n : ℕ) (call : Accepted) → Has (IsAccepted n call) v.facts → Has n v.no_after → 1 ≤ v.parts
      → Keeps g id v (journal n 1) (λ k. word_of_task (after_in (Some call))) (λ k w. (found : ℕ) × (w ≡ saw (journal n 1) found (wrote_after n v)))
  writes-after-at n call knows lacks in_use m vs s l at small = (
    saw (journal n 1) (m (journal n 1)) (wrote_after n v),
    (s, same-story s, record { table = after-table m vs s l at n call knows in_use lacks; schedule = after-says m vs s l at n call knows in_use lacks }),
    (m (journal n 1), refl),
    (refl, refl, inl refl),
  )
