-- A split keeps the scheduler's rule: the first pass has what it had, and the second what was seen.
use Rattle.std.proofs.Common.{◌≡◌, ◌∙◌, ℕ, ◌≤◌, ◌==◌, List, [], ◌∷◌, ◌++◌, map, refl, sym, ap, subst, arith}
use Rattle.std.specs.Prelude.{slice_set, slice_index}
use Rattle.std.proofs.lemmas.List.{map-set, map-append}
use Rattle.atomic_table.specs.Table.{Splits}
use Rattle.record_core.specs.Sums.{total}
use Rattle.record_core.specs.Counting.{At, one_if, times}
use Rattle.record_core.proofs.TotalFacts.{total-set, total-snoc}
use Rattle.task_meaning.specs.Worths.{Accepted}
use Rattle.frame_code.specs.Words.{body_at}
use Rattle.table_core.specs.Addresses.{Mem, task, mem_of}
use Rattle.table_core.specs.Lists.{Each}
use Rattle.table_core.specs.Holdings.{Run}
use Rattle.table_core.specs.Story.{Story}
use Rattle.table_core.specs.Views.{kept_half, idle_half}
use Rattle.table_core.specs.declared.setup.Setup.{Setup}
use Rattle.table_core.specs.declared.view.View.{View}
use Rattle.table_core.proofs.ListFacts.{found, at_map, each-set, each-append, each-cons, each-none}
use Rattle.table_core.proofs.Splitting.{split-says as table-split}
use Rattle.schedule_rule.specs.Rows.{Unwritten, RowedSound, row_word, word_of_task}
use Rattle.schedule_rule.specs.Numbers.{in_hand, in_hands}
use Rattle.schedule_rule.specs.Calls.{AtNumber, IsSo, task_of, after_of}
use Rattle.schedule_rule.specs.Askers.{AskedSound}
use Rattle.schedule_rule.specs.Frames.{IsFrameOf, BagSound, IsFormed}
use Rattle.schedule_rule.specs.Counts.{lives_in, CountedSound}
use Rattle.schedule_rule.specs.Numbers.{IsRun}
use Rattle.schedule_rule.specs.Limits.{ToldSound}
use Rattle.schedule_rule.specs.Parts.{Part, draws, names, callers, facts, rows, rowed, places, askers, framed, root_tasks, owners, running, live, classes, behind, bags, quiet, Seen, seen, Says, AllSay, Holds, formed, suited, results, begun, counted_lives, limits}
use Rattle.schedule_rule.proofs.Rule.{holds_at}

module _ (g : Setup) (m : Mem) (vs : List View) (s : Story) (l : (q : Part) → Says g q s m (map (seen q) vs)) (id : ℕ) (v : View) (at : At vs id v) where
  -- what a part reads of both passes and the others
  abbrev both : (q : Part) → List (Seen q)
  both q = slice_set (map (seen q) vs) id (seen q (kept_half v)) ++ seen q (idle_half v) ∷ []

  -- a sum is as before where the first has what it had, and the second nothing
  sum-same : (q : Part) (f : Seen q → ℕ) → f (seen q (kept_half v)) ≡ f (seen q v) → f (seen q (idle_half v)) ≡ 0 → total f (both q) ≡ total f (map (seen q) vs)
  sum-same q f same none = omega (
    arith,
    total-snoc f (slice_set (map (seen q) vs) id (seen q (kept_half v))) (seen q (idle_half v)),
    total-set f (map (seen q) vs) id (seen q v) (seen q (kept_half v)) (at_map (seen q) vs id v at),
    same,
    none,
  )

  each-both : (q : Part) (P : Seen q → Type 0) → Each P (map (seen q) vs) → P (seen q (kept_half v)) → P (seen q (idle_half v)) → Each P (both q)
  each-both q P all first second = each-append P (slice_set (map (seen q) vs) id (seen q (kept_half v))) (seen q (idle_half v) ∷ [])
      (each-set P (map (seen q) vs) id (seen q (kept_half v)) all first) (each-cons P (seen q (idle_half v)) [] second (each-none P))

  pub split_parts : (q : Part) → Says g q s m (both q)
  split_parts draws = omega (arith, l draws, sum-same draws (λ (n : ℕ). n) refl refl)
  split_parts names = l names
  split_parts callers = record {
    once = λ n. sum-same callers (λ (known : List (ℕ × Accepted)). total (λ (x : ℕ × Accepted). one_if (x.0 == n)) known) refl refl ∙ (l callers).once n;
    same = each-both callers (Each (λ (x : ℕ × Accepted). AtNumber s.calls x.0 x.1)) (l callers).same ((l callers).same id (seen callers v) (at_map (seen callers) vs id v at)) (each-none _);
  }
  split_parts facts = each-both facts (Each (IsSo s.calls s.ends)) (l facts) (l facts id (seen facts v) (at_map (seen facts) vs id v at)) (l facts id (seen facts v) (at_map (seen facts) vs id v at))
  split_parts rows = record {
    task = λ n. (l rows).task n ∙ ap (λ (k : ℕ). row_word s.calls n k (task_of s.calls n)) (sym (sum-same rows (λ (h : Unwritten). times n h.no_task) refl refl));
    after = λ n. (l rows).after n ∙ ap (λ (k : ℕ). row_word s.calls n k (word_of_task (after_of s.calls n))) (sym (sum-same rows (λ (h : Unwritten). times n h.no_after) refl refl));
    task_once = λ n. omega (arith, (l rows).task_once n, sum-same rows (λ (h : Unwritten). times n h.no_task) refl refl);
    after_once = λ n. omega (arith, (l rows).after_once n, sum-same rows (λ (h : Unwritten). times n h.no_after) refl refl);
  }
  split_parts rowed = each-both rowed RowedSound (l rowed) (l rowed id (seen rowed v) (at_map (seen rowed) vs id v at)) (record { task = λ n. omega arith; after = λ n. omega arith; runs = each-none _ })
  split_parts places = λ n. omega (arith, l places n, sum-same places (in_hand n) refl refl)
  split_parts askers = each-both askers (AskedSound s.calls g.plan) (l askers) (l askers id (seen askers v) (at_map (seen askers) vs id v at))
      (record { asker = each-none _; made = each-none _; unplaced = each-none _; one = each-none _; asked = each-none _ })
  split_parts framed = record {
    saved = (l framed).saved;
    names = (l framed).names;
    running = each-both framed (Each (λ (r : Run). IsFrameOf g.checked s.calls (λ u. m (task u)) r.number (body_at g.checked (slice_index r.words)))) (l framed).running
        ((l framed).running id (seen framed v) (at_map (seen framed) vs id v at)) (each-none _);
  }
  split_parts formed = record {
    saved = (l formed).saved;
    running = each-both formed (Each (λ (r : Run). IsFormed g.checked (slice_index r.words))) (l formed).running ((l formed).running id (seen formed v) (at_map (seen formed) vs id v at)) (each-none _);
  }
  split_parts suited = l suited
  split_parts results = l results
  split_parts begun = l begun
  split_parts root_tasks = record {
    own = (l root_tasks).own;
    are = (l root_tasks).are;
    rise = (l root_tasks).rise;
    few = each-both root_tasks _ (l root_tasks).few ((l root_tasks).few id (seen root_tasks v) (at_map (seen root_tasks) vs id v at)) (each-none _);
    named = (l root_tasks).named;
    drawn = each-both root_tasks _ (l root_tasks).drawn ((l root_tasks).drawn id (seen root_tasks v) (at_map (seen root_tasks) vs id v at)) (each-none _);
    of_turn = each-both root_tasks _ (l root_tasks).of_turn ((l root_tasks).of_turn id (seen root_tasks v) (at_map (seen root_tasks) vs id v at)) (λ some. absurd (some refl));
  }
  split_parts owners = record {
    is_of = (l owners).is_of;
    once = λ t is. omega (arith, (l owners).once t is, sum-same owners (in_hands s.calls t) refl refl);
    done = (l owners).done;
    ended = (l owners).ended;
    last_saved = (l owners).last_saved;
    last_drawn = each-both owners _ (l owners).last_drawn ((l owners).last_drawn id (seen owners v) (at_map (seen owners) vs id v at)) (each-none _);
  }
  split_parts running = each-both running (Each (IsRun g.plan s.calls)) (l running) (l running id (seen running v) (at_map (seen running) vs id v at)) (each-none _)
  split_parts live = omega (arith, l live, sum-same live lives_in refl refl)
  split_parts counted_lives = each-both counted_lives CountedSound (l counted_lives) (l counted_lives id (seen counted_lives v) (at_map (seen counted_lives) vs id v at)) (record { made = each-none _; done = each-none _ })
  split_parts classes = record {
    records = (l classes).records;
    made = each-both classes _ (l classes).made ((l classes).made id (seen classes v) (at_map (seen classes) vs id v at)) (each-none _);
  }
  split_parts behind = record {
    listed_behind = (l behind).listed_behind;
    chained_behind = each-both behind _ (l behind).chained_behind ((l behind).chained_behind id (seen behind v) (at_map (seen behind) vs id v at)) (each-none _);
  }
  split_parts bags = each-both bags (BagSound g.checked) (l bags) (l bags id (seen bags v) (at_map (seen bags) vs id v at)) (record { pairs = []; are_runs = refl; covers = each-none _; enough = λ u. omega arith })
  split_parts limits = record {
    told = each-both limits (ToldSound g.plan.limit s.calls) (l limits).told ((l limits).told id (seen limits v) (at_map (seen limits) vs id v at)) (record { answers = each-none _; roots = each-none _ });
    ended = (l limits).ended;
  }
  split_parts quiet = each-both quiet _ (l quiet) (l quiet id (seen quiet v) (at_map (seen quiet) vs id v at)) (l quiet id (seen quiet v) (at_map (seen quiet) vs id v at))

  pub split-says : (q : Part) → Says g q s m (map (seen q) (slice_set vs id (kept_half v) ++ idle_half v ∷ []))
  split-says q = subst (Says g q s m) (sym (map-append (seen q) (slice_set vs id (kept_half v)) (idle_half v ∷ []) ∙ ap (λ (xs : List (Seen q)). xs ++ seen q (idle_half v) ∷ []) (map-set (seen q) vs id (kept_half v)))) (split_parts q)

-- a pass with two parts or more may be split
pub split-all : (g : Setup) (s : Story) (m : Mem) (vs : List View) (id : ℕ) (v : View) → AllSay g s m vs → At vs id v → 2 ≤ v.parts → AllSay g s m (slice_set vs id (kept_half v) ++ idle_half v ∷ [])
split-all g s m vs id v l at room = record { table = table-split g m vs s l.table id v at room; schedule = split-says g m vs s l.schedule id v at }

-- the same of the words as they lie
split-holds : (g : Setup) (ws : List ℕ) (vs : List View) (id : ℕ) (v : View) → Holds g ws vs → At vs id v → 2 ≤ v.parts → Holds g ws (slice_set vs id (kept_half v) ++ idle_half v ∷ [])
split-holds g ws vs id v holds at room = (holds.0, (holds.1.0, split-all g holds.1.0 (mem_of g.plan ws) vs id v holds.1.1 at room), holds.2)

pub splits : (g : Setup) (id : ℕ) (v : View) → 2 ≤ v.parts → Splits (holds_at g) id v (kept_half v) (idle_half v)
splits g id v room st holds at = split-holds g st.words st.views id v holds (found st.views id v at) room
