-- A join keeps the scheduler's rule: the pass that goes on has what both had.
use Rattle.std.proofs.Common.{◌≡◌, ◌≢◌, ◌∙◌, ◌⊎◌, inl, inr, ℕ, suc, ◌+◌, ◌≤◌, ◌==◌, cond, max, List, [], ◌∷◌, ◌++◌, map, length, Some, refl, sym, ap, subst, arith, length-append}
use Rattle.std.specs.Prelude.{slice_set, slice_index, nat_lt}
use Rattle.std.proofs.lemmas.List.{map-set}
use Rattle.atomic_table.specs.Table.{Joins}
use Rattle.record_core.specs.Sums.{total}
use Rattle.record_core.specs.Counting.{At, Has, one_if, passing, times}
use Rattle.std.proofs.lemmas.Bool.{cases_eq, lt-ltb}
use Rattle.record_core.proofs.TotalFacts.{none_there, total-set_two, total-append, slice_get-set_other}
use Rattle.task_meaning.specs.Meant.{future_at}
use Rattle.task_meaning.specs.Worths.{Accepted}
use Rattle.frame_code.specs.Words.{body_at}
use Rattle.table_core.specs.Addresses.{Mem, task, root, sum, mem_of}
use Rattle.table_core.specs.Asking.{Asker, OfRoot, OfTask}
use Rattle.table_core.specs.Lists.{Each}
use Rattle.table_core.specs.Holdings.{Made, Run, Done, RootSays}
use Rattle.table_core.specs.Roots.{Turn, asked_in}
use Rattle.table_core.specs.Story.{Story}
use Rattle.table_core.specs.Views.{joined, spent, HasOnlyBlocks}
use Rattle.table_core.specs.Parts.{roots, seen as table_seen}
use Rattle.table_core.specs.declared.setup.Setup.{Setup}
use Rattle.table_core.specs.declared.view.View.{View}
use Rattle.table_core.proofs.ListFacts.{found, at_map, each-set, each-append, each-none}
use Rattle.table_core.proofs.Joining.{joined-says as table-join}
use Rattle.schedule_rule.specs.Calls.{AtNumber, IsSo, task_of, after_of}
use Rattle.schedule_rule.specs.Rows.{Unwritten, RowedSound, row_word, word_of_task, drawn_at}
use Rattle.schedule_rule.specs.Numbers.{in_hand, in_hands, IsRun}
use Rattle.schedule_rule.specs.Askers.{AskedSound, IsAsker}
use Rattle.schedule_rule.specs.Frames.{IsFrameOf, BagSound, IsFormed}
use Rattle.schedule_rule.specs.Counts.{lives_in, CountedSound}
use Rattle.schedule_rule.specs.Limits.{ToldSound}
use Rattle.schedule_rule.specs.Parts.{Part, draws, names, callers, facts, rows, rowed, places, askers, framed, root_tasks, owners, running, live, classes, behind, bags, quiet, Seen, seen, Says, AllSay, Holds, formed, suited, results, begun, counted_lives, limits}
use Rattle.schedule_rule.proofs.Rule.{holds_at}

has-some : {A : Type 0} (l : List A) (x : A) → Has x l → 1 ≤ length l
has-some [] x has = absurd (none_there x has.1)
has-some (y ∷ l) x has = omega arith

has-after : {A : Type 0} (front l : List A) (x : A) → Has x l → Has x (front ++ l)
has-after [] l x has = has
has-after (y ∷ front) l x has = let t = has-after front l x has in (suc t.0, t.1)

-- a pass without the turn asks for no root
no-root : (v : View) → (v.root_task ≢ 0 → length v.turn ≡ 1) → length v.turn ≡ 0 → v.root_task ≡ 0
no-root v turn none = by (cases_eq v.root_task 0)
  where
    by : (v.root_task ≡ 0) ⊎ (v.root_task ≢ 0) → v.root_task ≡ 0
    by (inl e) = e
    by (inr ne) = absurd (omega (arith, turn ne, none))

swapped : (a b : ℕ) → a + b ≡ b + a
swapped a b = omega arith

more_if : (a b : ℕ) → one_if (nat_lt 0 a) ≤ one_if (nat_lt 0 (a + b))
more_if a b = by (cases_eq a 0)
  where
    by : (a ≡ 0) ⊎ (a ≢ 0) → one_if (nat_lt 0 a) ≤ one_if (nat_lt 0 (a + b))
    by (inl e) = omega (arith, ap (λ (n : ℕ). one_if (nat_lt 0 n)) e)
    by (inr ne) = omega (arith, ap one_if (lt-ltb 0 (a + b) (omega (arith, ne))), ap one_if (lt-ltb 0 a (omega (arith, ne))))

either_is : (a b : ℕ) → a + b ≢ 0 → (a ≢ 0) ⊎ (b ≢ 0)
either_is a b some = by (cases_eq a 0)
  where
    by : (a ≡ 0) ⊎ (a ≢ 0) → (a ≢ 0) ⊎ (b ≢ 0)
    by (inl e) = inr (λ e'. some (omega (arith, e, e')))
    by (inr ne) = inl ne

max_is : (a b : ℕ) → 1 ≤ max a b → (1 ≤ a) ⊎ (1 ≤ b)
max_is a b some = by (cases_eq a 0)
  where
    by : (a ≡ 0) ⊎ (a ≢ 0) → (1 ≤ a) ⊎ (1 ≤ b)
    by (inl e) = inr (omega (arith, some, e))
    by (inr ne) = inl (omega (arith, ne))

module _ (g : Setup) (m : Mem) (vs : List View) (s : Story) (l : (q : Part) → Says g q s m (map (seen q) vs)) (turns : total (λ (t : Turn). length t.turn) (map (table_seen roots) vs) ≡ 1)
    (id other : ℕ) (v w : View) (at : At vs id v) (at' : At vs other w) (apart : id ≢ other) (only : HasOnlyBlocks w) where
  abbrev one : View
  one = joined v w

  -- what a part reads of the views after it
  abbrev after : (q : Part) → List (Seen q)
  after q = slice_set (slice_set (map (seen q) vs) id (seen q one)) other (seen q spent)

  sum-set : (q : Part) (f : Seen q → ℕ) → total f (after q) + (f (seen q v) + f (seen q w)) ≡ total f (map (seen q) vs) + (f (seen q one) + f (seen q spent))
  sum-set q f = omega (arith, total-set_two f (map (seen q) vs) id other (seen q v) (seen q one) (seen q w) (seen q spent) apart (at_map (seen q) vs id v at) (at_map (seen q) vs other w at'))

  sum-same : (q : Part) (f : Seen q → ℕ) → f (seen q one) ≡ f (seen q v) + f (seen q w) → f (seen q spent) ≡ 0 → total f (after q) ≡ total f (map (seen q) vs)
  sum-same q f both none = omega (arith, sum-set q f, both, none)

  each-after : (q : Part) (P : Seen q → Type 0) → Each P (map (seen q) vs) → P (seen q one) → P (seen q spent) → Each P (after q)
  each-after q P all first second = each-set P (slice_set (map (seen q) vs) id (seen q one)) other (seen q spent) (each-set P (map (seen q) vs) id (seen q one) all first) second

  -- what a part says of the first pass and of the second
  mine : (q : Part) (P : Seen q → Type 0) → Each P (map (seen q) vs) → P (seen q v)
  mine q P all = all id (seen q v) (at_map (seen q) vs id v at)

  its : (q : Part) (P : Seen q → Type 0) → Each P (map (seen q) vs) → P (seen q w)
  its q P all = all other (seen q w) (at_map (seen q) vs other w at')

  -- one of the two has the turn at most
  one_turn : length v.turn + length w.turn ≤ 1
  one_turn = omega (
    arith,
    turns,
    total-set_two (λ (t : Turn). length t.turn) (map (table_seen roots) vs) id other (table_seen roots v) (record { turn = []; asked = 0 }) (table_seen roots w) (record { turn = []; asked = 0 }) apart
        (at_map (table_seen roots) vs id v at) (at_map (table_seen roots) vs other w at'),
  )

  -- the pass that has the turn keeps the root that it asks for
  still-asks : (n : ℕ) (asker : Asker) → IsAsker s.calls g.plan (seen askers v) n asker → IsAsker s.calls g.plan (seen askers one) n asker
  still-asks n (OfTask t) is = is
  still-asks n (OfRoot r) is =
      let some : 1 ≤ length v.turn = has-some v.turn is.0 is.1 in
      let none : w.root_task ≡ 0 = no-root w (its root_tasks _ (l root_tasks).of_turn) (omega (arith, one_turn, some)) in
      (is.0, has-after w.turn v.turn is.0 is.1, is.2, is.3, omega (arith, is.4, none))

  one_few : Each (λ (asked : List RootSays). length (l root_tasks).own ≤ length asked + one_if (nat_lt 0 one.root_task)) one.turn
  one_few = each-append _ w.turn v.turn
      (λ k asked there. omega (arith, its root_tasks _ (l root_tasks).few k asked there, more_if w.root_task v.root_task))
      (λ k asked there. omega (arith, mine root_tasks _ (l root_tasks).few k asked there, more_if v.root_task w.root_task, ap (λ (n : ℕ). one_if (nat_lt 0 n)) (swapped v.root_task w.root_task)))

  one_drawn : Each (λ (asked : List RootSays). one.root_task ≢ 0 → future_at (l root_tasks).own (length asked) ≡ Some one.root_task) one.turn
  one_drawn = each-append _ w.turn v.turn
      (λ k asked there some.
      let none : v.root_task ≡ 0 = no-root v (mine root_tasks _ (l root_tasks).of_turn) (omega (arith, one_turn, has-some w.turn asked (k, there))) in
      its root_tasks _ (l root_tasks).drawn k asked there (λ e. some (omega (arith, e, none))) ∙ ap Some (omega (arith, none)))
      (λ k asked there some.
      let none : w.root_task ≡ 0 = no-root w (its root_tasks _ (l root_tasks).of_turn) (omega (arith, one_turn, has-some v.turn asked (k, there))) in
      mine root_tasks _ (l root_tasks).drawn k asked there (λ e. some (omega (arith, e, none))) ∙ ap Some (omega (arith, none)))

  one_of_turn : one.root_task ≢ 0 → length one.turn ≡ 1
  one_of_turn some = by (either_is w.root_task v.root_task some)
    where
      by : (w.root_task ≢ 0) ⊎ (v.root_task ≢ 0) → length one.turn ≡ 1
      by (inl a) = omega (arith, its root_tasks _ (l root_tasks).of_turn a, one_turn, length-append w.turn v.turn)
      by (inr a) = omega (arith, mine root_tasks _ (l root_tasks).of_turn a, one_turn, length-append w.turn v.turn)

  one_quiet : 1 ≤ one.quiet → (m (sum 1) ≡ 0) × (asked_in (λ r. m (root r)) ≡ g.plan.roots)
  one_quiet some = by (max_is w.quiet v.quiet some)
    where
      by : (1 ≤ w.quiet) ⊎ (1 ≤ v.quiet) → (m (sum 1) ≡ 0) × (asked_in (λ r. m (root r)) ≡ g.plan.roots)
      by (inl a) = its quiet _ (l quiet) a
      by (inr a) = mine quiet _ (l quiet) a

  joined_parts : (q : Part) → Says g q s m (after q)
  joined_parts draws = omega (arith, l draws, sum-set draws (λ (n : ℕ). n))
  joined_parts names = l names
  joined_parts callers = record {
    once = λ n. sum-same callers (λ (known : List (ℕ × Accepted)). total (λ (x : ℕ × Accepted). one_if (x.0 == n)) known) (omega (arith, total-append (λ (x : ℕ × Accepted). one_if (x.0 == n)) w.calls v.calls)) refl ∙ (l callers).once n;
    same = each-after callers (Each (λ (x : ℕ × Accepted). AtNumber s.calls x.0 x.1)) (l callers).same
        (each-append _ w.calls v.calls (its callers _ (l callers).same) (mine callers _ (l callers).same)) (each-none _);
  }
  joined_parts facts = each-after facts (Each (IsSo s.calls s.ends)) (l facts) (each-append _ w.facts v.facts (its facts _ (l facts)) (mine facts _ (l facts))) (each-none _)
  joined_parts rows = record {
    task = λ n. (l rows).task n ∙ ap (λ (k : ℕ). row_word s.calls n k (task_of s.calls n)) (sym (lacking n));
    after = λ n. (l rows).after n ∙ ap (λ (k : ℕ). row_word s.calls n k (word_of_task (after_of s.calls n))) (sym (lacking-after n));
    task_once = λ n. omega (arith, (l rows).task_once n, lacking n);
    after_once = λ n. omega (arith, (l rows).after_once n, lacking-after n);
  }
    where
      lacking : (n : ℕ) → total (λ (h : Unwritten). times n h.no_task) (after rows) ≡ total (λ (h : Unwritten). times n h.no_task) (map (seen rows) vs)
      lacking n = sum-same rows (λ (h : Unwritten). times n h.no_task) (omega (arith, ap (times n) only.no_task)) refl

      lacking-after : (n : ℕ) → total (λ (h : Unwritten). times n h.no_after) (after rows) ≡ total (λ (h : Unwritten). times n h.no_after) (map (seen rows) vs)
      lacking-after n = sum-same rows (λ (h : Unwritten). times n h.no_after) (omega (arith, ap (times n) only.no_after)) refl
  joined_parts rowed =
      let was : RowedSound (seen rowed v) = mine rowed RowedSound (l rowed) in
      each-after rowed RowedSound (l rowed)
      (record {
        task = was.task;
        after = was.after;
        runs = λ k r there. omega (arith, was.runs k r there, total-append (λ (n : ℕ). one_if (n == r.number)) w.taken v.taken);
      })
      (record { task = λ n. omega arith; after = λ n. omega arith; runs = each-none _ })
  joined_parts places = λ n. omega (
    arith,
    l places n,
    sum-same places (in_hand n) (omega (arith, total-append (λ (k : ℕ). one_if (k == n)) w.taken v.taken, ap (drawn_at n) only.drawn)) refl,
  )
  joined_parts askers =
      let was : AskedSound s.calls g.plan (seen askers v) = mine askers (AskedSound s.calls g.plan) (l askers) in
      each-after askers (AskedSound s.calls g.plan) (l askers)
      (record { asker = λ k d there. let t = was.asker k d there in (still-asks d.number d.asker t.0, t.1); made = was.made; unplaced = was.unplaced; one = was.one; asked = was.asked })
      (record { asker = each-none _; made = each-none _; unplaced = each-none _; one = each-none _; asked = each-none _ })
  joined_parts framed = record {
    saved = (l framed).saved;
    names = (l framed).names;
    running = each-after framed (Each (λ (r : Run). IsFrameOf g.checked s.calls (λ u. m (task u)) r.number (body_at g.checked (slice_index r.words)))) (l framed).running
        (mine framed _ (l framed).running) (each-none _);
  }
  joined_parts formed = record {
    saved = (l formed).saved;
    running = each-after formed (Each (λ (r : Run). IsFormed g.checked (slice_index r.words))) (l formed).running (mine formed _ (l formed).running) (each-none _);
  }
  joined_parts suited = l suited
  joined_parts results = l results
  joined_parts begun = l begun
  joined_parts root_tasks = record {
    own = (l root_tasks).own;
    are = (l root_tasks).are;
    rise = (l root_tasks).rise;
    few = each-after root_tasks _ (l root_tasks).few one_few (each-none _);
    named = (l root_tasks).named;
    drawn = each-after root_tasks _ (l root_tasks).drawn one_drawn (each-none _);
    of_turn = each-after root_tasks _ (l root_tasks).of_turn one_of_turn (λ some. absurd (some refl));
  }
  joined_parts owners = record {
    is_of = (l owners).is_of;
    once = λ t is. omega (
      arith,
      (l owners).once t is,
      sum-same owners (in_hands s.calls t) (omega (arith, ap (drawn_at t) only.drawn, ap (passing (λ (r : Run). task_of s.calls r.number == t)) only.runs)) refl,
    );
    done = (l owners).done;
    ended = (l owners).ended;
    last_saved = (l owners).last_saved;
    last_drawn = each-after owners _ (l owners).last_drawn (mine owners _ (l owners).last_drawn) (each-none _);
  }
  joined_parts running = each-after running (Each (IsRun g.plan s.calls)) (l running) (mine running _ (l running)) (each-none _)
  joined_parts live = omega (
    arith,
    l live,
    sum-same live lives_in (omega (arith, ap (total (λ (r : Made). one_if r.live)) only.made, ap (total (λ (d : Done). cond d.out 0 1)) only.done)) refl,
  )
  joined_parts counted_lives = each-after counted_lives CountedSound (l counted_lives) (mine counted_lives _ (l counted_lives)) (record { made = each-none _; done = each-none _ })
  joined_parts classes = record { records = (l classes).records; made = each-after classes _ (l classes).made (mine classes _ (l classes).made) (each-none _) }
  joined_parts behind = record {
    listed_behind = (l behind).listed_behind;
    chained_behind = each-after behind _ (l behind).chained_behind (mine behind _ (l behind).chained_behind) (each-none _);
  }
  joined_parts bags = each-after bags (BagSound g.checked) (l bags) (mine bags _ (l bags)) (record { pairs = []; are_runs = refl; covers = each-none _; enough = λ u. omega arith })
  joined_parts limits =
      let was : ToldSound g.plan.limit s.calls (seen limits v) = mine limits _ (l limits).told in
      let others : ToldSound g.plan.limit s.calls (seen limits w) = (l limits).told other (seen limits w) (at_map (seen limits) vs other w at') in
      record {
        told = each-after limits _ (l limits).told (record { answers = was.answers; roots = each-append _ w.turn v.turn others.roots was.roots }) (record { answers = each-none _; roots = each-none _ });
        ended = (l limits).ended;
      }
  joined_parts quiet = each-after quiet _ (l quiet) (λ some. one_quiet some) (λ some. absurd (omega (arith, some)))

  pub joined-says : (q : Part) → Says g q s m (map (seen q) (slice_set (slice_set vs id one) other spent))
  joined-says q = subst (Says g q s m) (sym (map-set (seen q) (slice_set vs id one) other spent ∙ ap (λ (xs : List (Seen q)). slice_set xs other (seen q spent)) (map-set (seen q) vs id one))) (joined_parts q)

-- a pass may take in one that has nothing but blocks
pub join-all : (g : Setup) (s : Story) (m : Mem) (vs : List View) (id other : ℕ) (v w : View) → AllSay g s m vs → At vs id v → At vs other w → id ≢ other → 1 ≤ v.parts → HasOnlyBlocks w
    → AllSay g s m (slice_set (slice_set vs id (joined v w)) other spent)
join-all g s m vs id other v w l at at' two in_use only = record {
  table = table-join g m vs s l.table id other v w at at' two in_use only;
  schedule = joined-says g m vs s l.schedule (l.table roots).one id other v w at at' two only;
}

-- the same of the words as they lie
join-holds : (g : Setup) (ws : List ℕ) (vs : List View) (id other : ℕ) (v w : View) → Holds g ws vs → At vs id v → At vs other w → id ≢ other → 1 ≤ v.parts → HasOnlyBlocks w
    → Holds g ws (slice_set (slice_set vs id (joined v w)) other spent)
join-holds g ws vs id other v w holds at at' two in_use only = (holds.0, (holds.1.0, join-all g holds.1.0 (mem_of g.plan ws) vs id other v w holds.1.1 at at' two in_use only), holds.2)

pub joins : (g : Setup) (id : ℕ) (v : View) (other : ℕ) (w : View) → 1 ≤ v.parts → HasOnlyBlocks w → Joins (holds_at g) id v other w (joined v w) spent
joins g id v other w in_use only st holds at apart at' =
    let two : id ≢ other = λ e. apart (sym e) in
    join-holds g st.words st.views id other v w holds (found st.views id v at) (sym (slice_get-set_other st.views id other (joined v w) two) ∙ found (slice_set st.views id (joined v w)) other w at') two in_use only
