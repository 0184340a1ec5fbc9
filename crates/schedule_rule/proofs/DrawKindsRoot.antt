-- A number is drawn for the next root: the scheduler's rule is kept.
use Rattle.std.proofs.Common.{◌≡◌, ◌≢◌, ◌∙◌, inl, inr, ℕ, zero, suc, ◌+◌, ◌%◌, ◌^◌, ◌<◌, ◌≤◌, false, Option, Some, None, List, [], ◌∷◌, map, length, refl, sym, ap, subst, arith}
use Rattle.std.specs.Prelude.{slice_set, slice_get, nat_lt, IfSome}
use Rattle.std.proofs.lemmas.Bool.{cases_eq, cases_lt, lt-ltb}
use Rattle.record_core.specs.Counting.{At, Has, one_if}
use Rattle.record_core.proofs.NumberFacts.{at-in_range, member_at}
use Rattle.record_core.proofs.TotalFacts.{total-two_members}
use Rattle.task_syntax.specs.declared.program.Root.{Root as RootLine}
use Rattle.task_syntax.specs.declared.program.RootArgument.{RootArgument}
use Rattle.task_syntax.specs.declared.program.RootArgument.TheVariants as root_argument
use Rattle.task_meaning.specs.Meant.{future_at}
use Rattle.task_meaning.specs.Roots.{root_call, root_future, root_number}
use Rattle.task_meaning.specs.RootLaws.{root_waits, IsRootTask, AreRootTasks, NamesTasks}
use Rattle.task_meaning.specs.WorthLaws.{NamesUpTo}
use Rattle.task_meaning.specs.Worths.{Accepted, OfCall}
use Rattle.table_core.specs.Addresses.{Mem, task, root, sum, put, units_of}
use Rattle.table_core.specs.Asking.{Asker, OfRoot, OfTask, Drawn}
use Rattle.table_core.specs.Holdings.{Made, Run, RootSays, Record}
use Rattle.table_core.specs.Lists.{Each}
use Rattle.table_core.specs.Roots.{Turn, RootsSound, word_at}
use Rattle.table_core.specs.Story.{Story}
use Rattle.table_core.specs.Views.{saw}
use Rattle.table_core.specs.declared.setup.Setup.{Setup}
use Rattle.table_core.specs.declared.view.View.{View}
use Rattle.table_core.specs.Parts.{roots, totals, seen as table_seen}
use Rattle.table_core.proofs.ListFacts.{at_map, map_at, same_some, each-cons, set_cases}
use Rattle.table_core.proofs.RootKinds.{word-here, word-behind}
use Rattle.schedule_rule.specs.Calls.{IsBefore, NamesEarlier, IsLast, Suits, sort_passed}
use Rattle.schedule_rule.specs.Askers.{Asks, IsAsker, IsForRecord, AskedSound}
use Rattle.schedule_rule.specs.Counts.{class_in}
use Rattle.schedule_rule.specs.RootTasks.{RootTask, RootTasksSound}
use Rattle.schedule_rule.specs.DrawViews.{drawn_for, with_number, drew, drew_for_root, drew_none, Drew, KnowsTask, KnowsNamed, IsRootCall}
use Rattle.schedule_rule.specs.Parts.{askers, root_tasks, running, seen, AllSay, LawfulAfter, Keeps}
use Rattle.schedule_rule.proofs.AskFacts.{asker-stays, record-stays, next-stays, unplaced-stays}
use Rattle.schedule_rule.proofs.ChangedFacts.{same-as, IsRunAs}
use Rattle.schedule_rule.proofs.DrawKinds.{IsDraw, after_draw, story, drawn, none-of_new, drawn-numbers, run-numbers}
use Rattle.schedule_rule.proofs.DrawKindsLimit.{none_drawn}
use Rattle.schedule_rule.proofs.DrawKindsNew.{begins-task, numbered, made-changed, new-draw, is-first, first-kept, all-drawn}
use Rattle.schedule_rule.proofs.KnownFacts.{seen-task, known-call}
use Rattle.schedule_rule.proofs.RootCallFacts.{grown, length-grown, grown-here, grown-other, none-behind, call-agrees, waits-agree, arguments-agree, behind-agrees, root-kept}
use Rattle.schedule_rule.proofs.StoryFacts.{more, new, not-new, number-here, last-stays}
use Rattle.schedule_rule.proofs.Rule.{same-story, one-call}
use Rattle.task_syntax.specs.Form.{IsWellFormed}
use Rattle.task_syntax.specs.Valid.{IsValid, sort_of_root}
use Rattle.task_syntax.specs.declared.program.Program.{Program}
use Rattle.std.proofs.lemmas.List.{length-map}

-- a named root has a task, a number has none
argument-sort : (known : List (Option ℕ)) (x : RootArgument) → NamesTasks known x → sort_of_root x ≡ sort_passed (root_future known x)
argument-sort known (root_argument.Number n) names = refl
argument-sort known (root_argument.Root r) names = ap sort_passed (sym names.1)

-- the call of a root is one of the program
root-suits : (p : Program) → IsWellFormed p → IsValid p → (v : View) (asked : List RootSays) (line : RootLine) (a : Accepted) → slice_get p.roots (length asked) ≡ Some line → IsRootCall v asked line a → Suits p a
root-suits p formed valid v asked line a there is = subst (Suits p) (sym is.is) (record {
  kind = (formed.roots (length asked) line there).kind;
  numbers = λ k has. length-map line.arguments root_number ∙ ((valid.roots (length asked) line there).agrees k has).0;
  futures = λ k has. let agrees = (valid.roots (length asked) line there).agrees k has in (
    length-map line.arguments (root_future is.known) ∙ agrees.0,
    (λ at o w has_o has_w.
        let x = map_at (root_future is.known) line.arguments at o has_o in
        agrees.1 at x.0 w x.1 has_w ∙ argument-sort is.known x.0 (is.arguments at x.0 x.1) ∙ ap sort_passed x.2),
  );
})

-- what is known of the roots that a line names is known of its call
pub root-known : (v : View) (asked : List RootSays) (line : RootLine) (a : Accepted) → IsRootCall v asked line a → KnowsNamed v a
root-known v asked line a is = subst (KnowsNamed v) (sym is.is) (
  (λ k o there. let x = map_at (root_future is.known) line.arguments k o there in subst (λ (p : Option ℕ). IfSome p (KnowsTask v)) x.2 (of (root_future is.known x.0) (named x.0))),
  of (root_waits is.known line.behind) (waited line.behind),
)
  where
    of : (o : Option ℕ) → ((t : ℕ) → o ≡ Some t → KnowsTask v t) → IfSome o (KnowsTask v)
    of None knows = tt
    of (Some t) knows = knows t refl

    named : (x : RootArgument) → (t : ℕ) → root_future is.known x ≡ Some t → KnowsTask v t
    named (root_argument.Number n) t e = let no_one : None ≡ Some t → ⊥ = λ same. cc in absurd (no_one e)
    named (root_argument.Root r) t e = let u = is.knows r t e in (u.0, u.2)

    waited : (o : Option ℕ) → (t : ℕ) → root_waits is.known o ≡ Some t → KnowsTask v t
    waited None t e = let no_one : None ≡ Some t → ⊥ = λ same. cc in absurd (no_one e)
    waited (Some r) t e = let u = is.knows r t e in (u.0, u.2)

module _ (g : Setup) (id : ℕ) (v : View) where
  module _ (valid_form : IsWellFormed g.checked) (valid : IsValid g.checked) (m : Mem) (vs : List View) (s : Story) (l : AllSay g s m vs) (at : At vs id v) (asked : List RootSays) (has_turn : v.turn ≡ asked ∷ []) (few : length asked < g.plan.roots)
      (no_task : v.root_task ≡ 0) (line : RootLine) (is_line : slice_get g.checked.roots (length asked) ≡ Some line) (a : Accepted) (call : IsRootCall v asked line a)
      (y : Made) (has : Has y v.made) (no_number : y.number ≡ 0) (class_is : y.class ≡ class_in g.checked (Some a)) (may : v.may_draw ≡ 1) (in_use : 1 ≤ v.parts) where
    abbrev knows : KnowsNamed v a
    knows = root-known v asked line a call

    abbrev suits : Suits g.checked a
    suits = root-suits g.checked valid_form valid v asked line a is_line call

    abbrev n : ℕ
    n = new s.calls a

    abbrev calls : List Accepted
    calls = more s.calls a

    abbrev at_root : ℕ
    at_root = length asked

    abbrev made : List Made
    made = numbered g id v m vs s l at a suits knows y has no_number class_is

    abbrev asker : Asker
    asker = OfRoot at_root

    turn_has : Has asked v.turn
    turn_has = (0, ap (λ (ts : List (List RootSays)). slice_get ts 0) has_turn)

    turns : RootsSound g.checked g.plan (λ r. m (root r)) (map (table_seen roots) vs)
    turns = l.table roots

    turn_at : At (map (table_seen roots) vs) id (table_seen roots v)
    turn_at = at_map (table_seen roots) vs id v at

    root-word : (r : ℕ) → r < 16 → m (root r) ≡ word_at asked r
    root-word r low = turns.says id (table_seen roots v) turn_at turn_has.0 asked turn_has.1 r low

    was : RootTasksSound g.checked g.plan s.calls (λ w. m (task w)) (λ r. m (root r)) (map (seen root_tasks) vs)
    was = l.schedule root_tasks

    seen_at : At (map (seen root_tasks) vs) id (seen root_tasks v)
    seen_at = at_map (seen root_tasks) vs id v at

    -- the roots' tasks before, and after the draw
    abbrev own : List (Option ℕ)
    own = was.own

    abbrev own' : List (Option ℕ)
    own' = grown own at_root n

    -- only roots that were asked for had tasks
    own-few : length own ≤ at_root
    own-few = omega (arith, was.few id (seen root_tasks v) seen_at turn_has.0 asked turn_has.1, ap (λ (k : ℕ). one_if (nat_lt 0 k)) no_task)

    -- the tasks of other roots stay
    own-other : (r : ℕ) → r ≢ at_root → future_at own' r ≡ future_at own r
    own-other r ne = grown-other own at_root n r own-few ne

    own-none : (r : ℕ) → at_root ≤ r → future_at own r ≡ None
    own-none r far = none-behind own r (omega (arith, own-few, far))

    -- a root with a task was asked for before
    own-low : (r t : ℕ) → future_at own r ≡ Some t → r < at_root
    own-low r t e = elim (cases_lt r at_root) [
      | inl low ↦ low
      | inr far ↦ let no_one : None ≡ Some t → ⊥ = λ same. cc in absurd (no_one (sym (own-none r (omega (arith, far))) ∙ e))
    ]

    own-kept : (r t : ℕ) → future_at own r ≡ Some t → future_at own' r ≡ Some t
    own-kept r t e = own-other r (λ same. omega (arith, own-low r t e, same)) ∙ e

    -- what was seen of earlier roots is so
    known-own : (r t : ℕ) → future_at call.known r ≡ Some t → future_at own' r ≡ Some t
    known-own r t e =
        let u = call.knows r t e in let low : r < at_root = at-in_range asked r (Record u.0) u.1 in let in_roots : r < 16 = omega (arith, low, few, g.plan.roots_fit) in
        let near : u.0 < units_of g.plan = turns.near id (table_seen roots v) turn_at turn_has.0 asked turn_has.1 r u.0 u.1 in
        own-kept r t (was.named r u.0 in_roots near (root-word r in_roots ∙ word-here asked r (Record u.0) u.1) ∙ ap Some (seen-task g id v m vs s l at u.0 t u.2).1)

    -- the call is that of the root's line over the roots' tasks
    call-is : a ≡ OfCall (root_call own' line) (root_waits own' line.behind)
    call-is = call.is ∙ ap (λ (c : _). OfCall c (root_waits call.known line.behind)) (sym (call-agrees call.known own' known-own line call.arguments))
        ∙ ap (λ (o : Option ℕ). OfCall (root_call own' line) o) (sym (waits-agree call.known own' known-own line.behind call.waits))

    up-to : (o : Option ℕ) → IfSome o (IsBefore s.calls n) → NamesUpTo (length s.calls) o
    up-to None is = tt
    up-to (Some t) is = omega (arith, is.0)

    -- the task of this root
    this-root : IsRootTask calls own' line n
    this-root = record {
      before = length s.calls;
      follows = refl;
      accepted_as = number-here s.calls a ∙ ap Some call-is;
      arguments = λ k x there. arguments-agree call.known own' known-own x (call.arguments k x there);
      waits = behind-agrees call.known own' known-own line.behind call.waits;
      earlier = λ k o there. up-to o (earlier.0 k o there);
      earlier_waits = up-to (root_waits own' line.behind) earlier.1;
    }
      where
        earlier : NamesEarlier s.calls n (OfCall (root_call own' line) (root_waits own' line.behind))
        earlier = subst (NamesEarlier s.calls n) call-is (known-call g id v m vs s l at a knows)

    -- the roots' tasks were accepted as the roots' calls
    are : AreRootTasks g.checked calls own'
    are r line' t has_line is = elim (cases_eq r at_root) [
      | inl e ↦
          let same_line : line ≡ line' = same_some line line' (sym is_line ∙ ap (slice_get g.checked.roots) (sym e) ∙ has_line) in
          let same_task : n ≡ t = same_some n t (sym (grown-here own at_root n) ∙ ap (future_at own') (sym e) ∙ is) in
          subst (λ (x : ℕ). IsRootTask calls own' line' x) same_task (subst (λ (x : RootLine). IsRootTask calls own' x n) same_line this-root)
      | inr ne ↦ root-kept own own' own-kept s.calls a line' t (was.are r line' t has_line (sym (own-other r ne) ∙ is))
    ]

    -- earlier roots have earlier tasks
    own-earlier : (r t : ℕ) → r < at_root → future_at own r ≡ Some t → t < n
    own-earlier r t low e =
        let x = member_at g.checked.roots r (omega (arith, low, at-in_range g.checked.roots at_root line is_line)) in
        let is = was.are r x.0 t x.1 e in omega (arith, is.follows, at-in_range s.calls is.before _ is.accepted_as)

    -- one after the other
    rise : (r q t u : ℕ) → r < q → future_at own' r ≡ Some t → future_at own' q ≡ Some u → t < u
    rise r q t u low e e' = elim (cases_eq q at_root) [
      | inl same ↦
          let is_n : n ≡ u = same_some n u (sym (grown-here own at_root n) ∙ ap (future_at own') (sym same) ∙ e') in
          omega (arith, is_n, own-earlier r t (omega (arith, low, same)) (sym (own-other r (λ x. omega (arith, x, low, same))) ∙ e))
      | inr ne ↦ elim (cases_eq r at_root) [
        | inl same ↦ absurd (omega (arith, low, same, own-low q u (sym (own-other q ne) ∙ e')))
        | inr ne' ↦ was.rise r q t u low (sym (own-other r ne') ∙ e) (sym (own-other q ne) ∙ e')
      ]
    ]

    abbrev now_seen : RootTask
    now_seen = record { turn = v.turn; root_task = n }

    -- the others have no turn
    no-turn : (k : ℕ) (x : View) → k ≢ id → At vs k x → (ts : List RootSays) → Has ts x.turn → ⊥
    no-turn k x ne there ts has_ts = omega (
      arith,
      turns.one,
      total-two_members (λ (t : Turn). length t.turn) (map (table_seen roots) vs) k id (table_seen roots x) (table_seen roots v) ne (at_map (table_seen roots) vs k x there) turn_at,
      ap length has_turn,
      at-in_range x.turn has_ts.0 ts has_ts.1,
    )

    -- what holds of the one turn
    of-turn : (P : RootTask → List RootSays → Type 0) → P now_seen asked → Each (λ h. Each (λ ts. P h ts) h.turn) (slice_set (map (seen root_tasks) vs) id now_seen)
    of-turn P here k h there j ts there' = elim (set_cases (map (seen root_tasks) vs) id k now_seen h there) [
      | inl e ↦ subst (λ (x : RootTask). P x ts) (sym e.1) (only j (subst (λ (x : List (List RootSays)). At x j ts) (ap (λ (x : RootTask). x.turn) e.1 ∙ has_turn) there'))
      | inr t ↦
          let x = map_at (seen root_tasks) vs k h t.1 in
          absurd (no-turn k x.0 t.0 x.1 ts (j, subst (λ (z : RootTask). At z.turn j ts) (sym x.2) there'))
    ]
      where
        only : (j : ℕ) → At (asked ∷ []) j ts → P now_seen ts
        only zero e = subst (P now_seen) (same_some asked ts e) here
        only (suc j) e = let no_one : None ≡ Some ts → ⊥ = λ same. cc in absurd (no_one e)

    -- the part on the tasks of roots
    roots-say : RootTasksSound g.checked g.plan calls (λ w. m (task w)) (λ r. m (root r)) (slice_set (map (seen root_tasks) vs) id now_seen)
    roots-say = record {
      own = own';
      are = are;
      rise = rise;
      few = of-turn (λ h ts. length own' ≤ length ts + one_if (nat_lt 0 h.root_task)) (omega (arith, length-grown own at_root n, ap one_if (lt-ltb 0 n (omega arith))));
      named = λ r u low near e. own-other r (λ same. omega (arith, e, root-word r low, ap (word_at asked) same, word-behind asked at_root (omega arith))) ∙ was.named r u low near e;
      drawn = of-turn (λ h ts. h.root_task ≢ 0 → future_at own' (length ts) ≡ Some h.root_task) (λ _. grown-here own at_root n);
      of_turn = λ k h there some. elim (set_cases (map (seen root_tasks) vs) id k now_seen h there) [
        | inl e ↦ ap (λ (x : RootTask). length x.turn) e.1 ∙ ap length has_turn
        | inr t ↦ was.of_turn k h t.1 some
      ];
    }

    -- a run that has not asked has the last number of its task
    mine : Each (λ (z : Run). z.asked ≡ false → IsLast calls z.number) v.runs
    mine k z there still =
        let is = l.schedule running id v.runs (at_map (seen running) vs id v at) k z there in
        last-stays s.calls a z.number (not-new s.calls a z.number is.accepted) (none-of_new g id v m vs s l at a (begins-task v a n knows).0 z.number is.accepted) (is.last still)

    -- the draw has what every draw needs
    is_draw : IsDraw g id v m vs s l at a made v.runs
    is_draw = new-draw g id v m vs s l at a suits knows y has no_number class_is v.runs may in_use (same-as IsRunAs v.runs) (λ bag. bag) mine

    abbrev asks_now : Asks
    asks_now = record { made = made; runs = v.runs; drawn = drawn_for n y.unit asker ∷ v.drawn; turn = v.turn; root_task = n }

    -- no number was drawn for a root
    asker-now : (d : Drawn) → Has d v.drawn → (k : Asker) → IsAsker calls g.plan (seen askers v) d.number k → IsAsker calls g.plan asks_now d.number k
    asker-now d there (OfTask t) is = is
    asker-now d there (OfRoot r) is = absurd (omega (arith, is.4, no_task, (drawn-numbers g id v m vs s l at id v at there.0 d there.1).0))

    -- the record that a number is for is in the hand still
    record-now : (d : Drawn) → Has d v.drawn → IsForRecord calls (seen askers v) d → IsForRecord calls asks_now d
    record-now d there (inl t) = inl (t.0, first-kept g id v m vs s l at a suits knows y has no_number class_is d there t.0 t.1 t.2, t.2)
    record-now d there (inr t) = inr t

    -- for whom numbers are drawn
    asks : AskedSound calls g.plan asks_now
    asks = record {
      asker = each-cons _ (drawn_for n y.unit asker) v.drawn ((asked, turn_has, refl, few, refl), inl (is-first g id v m vs s l at a suits knows y has no_number class_is asker)) (λ k d there.
          let t = (l.schedule askers id (seen askers v) (at_map (seen askers) vs id v at)).asker k d there in (
            asker-now d (k, there) d.asker (asker-stays s.calls a g.plan (seen askers v) (drawn-numbers g id v m vs s l at id v at) (run-numbers g id v m vs s l at id v at) d.number d.asker t.0),
            record-now d (k, there) (record-stays s.calls a g.plan (seen askers v) (drawn-numbers g id v m vs s l at id v at) (run-numbers g id v m vs s l at id v at) d (drawn-numbers g id v m vs s l at id v at k d there) t.1),
          ));
      made = all-drawn g id v m vs s l at a suits knows y has no_number class_is asker;
      unplaced = λ k r there. omega (arith, unplaced-stays s.calls a v.drawn r (run-numbers g id v m vs s l at id v at k r there) ((l.schedule askers id (seen askers v) (at_map (seen askers) vs id v at)).unplaced k r there));
      one = (l.schedule askers id (seen askers v) (at_map (seen askers) vs id v at)).one;
      asked = λ k r there e. let t = (l.schedule askers id (seen askers v) (at_map (seen askers) vs id v at)).asked k r there e in (
        t.0,
        (suc t.1.0, t.1.1),
        next-stays s.calls a t.0 r (drawn-numbers g id v m vs s l at id v at t.1.0 t.0 t.1.1) (run-numbers g id v m vs s l at id v at k r there) t.2,
      );
    }

    -- all parts, after the draw
    now : (low : m (sum 0) < g.plan.limit) → AllSay g (story g id v m vs s l at a made v.runs is_draw y.unit n asker low) (put m (sum 0) ((m (sum 0) + 1) % 2 ^ 64))
        (slice_set vs id (after_draw g id v m vs s l at a made v.runs is_draw y.unit n asker low))
    now low = drawn g id v m vs s l at a made v.runs is_draw y.unit n asker low asks roots-say

    -- the view is what the step tells
    view-is : (low : m (sum 0) < g.plan.limit) → after_draw g id v m vs s l at a made v.runs is_draw y.unit n asker low ≡ saw (sum 0) (m (sum 0)) (drew_for_root y.unit at_root a (m (sum 0) + 1) v)
    view-is low =
        ap (λ (ms : List Made). saw (sum 0) (m (sum 0)) (drew (drawn_for n y.unit asker) a ms v.runs n v)) (sym (made-changed g id v m vs s l at a suits knows y has no_number class_is))
        ∙ ap (λ (k : ℕ). saw (sum 0) (m (sum 0)) (drew (drawn_for k y.unit asker) a (with_number y.unit k v.made) v.runs k v)) (omega (arith, (l.table totals).drawn, low))

  -- draw for a root: the next one, by the pass with the turn, for a record made in a block of its class
  pub draws-for_root-at : IsWellFormed g.checked → IsValid g.checked → (asked : List RootSays) → v.turn ≡ asked ∷ [] → length asked < g.plan.roots → v.root_task ≡ 0 → (line : RootLine) → slice_get g.checked.roots (length asked) ≡ Some line
      → (a : Accepted) → IsRootCall v asked line a → (y : Made) → Has y v.made → y.number ≡ 0 → y.class ≡ class_in g.checked (Some a) → v.may_draw ≡ 1 → 1 ≤ v.parts
      → Keeps g id v (sum 0) (λ n. (n + 1) % 2 ^ 64) (Drew g.plan.limit (λ n. drew_for_root y.unit (length asked) a n v) (drew_none (OfRoot (length asked)) v))
  draws-for_root-at valid_form valid asked has_turn few no_task line is_line a call y has no_number class_is may in_use m vs s l at small = elim (cases_lt (m (sum 0)) g.plan.limit) [
    | inl low ↦
        let same = view-is valid_form valid m vs s l at asked has_turn few no_task line is_line a call y has no_number class_is may in_use low in
        let new_view : View = saw (sum 0) (m (sum 0)) (drew_for_root y.unit (length asked) a (m (sum 0) + 1) v) in (
          new_view,
          subst (λ (w : View). LawfulAfter g s (put m (sum 0) ((m (sum 0) + 1) % 2 ^ 64)) (slice_set vs id w)) same
              (_, one-call s _, now valid_form valid m vs s l at asked has_turn few no_task line is_line a call y has no_number class_is may in_use low),
          ((λ _. refl), (λ far. absurd (omega (arith, low, far)))),
          (refl, refl, inl refl),
        )
    | inr far ↦ (
      saw (sum 0) (m (sum 0)) (drew_none (OfRoot (length asked)) v),
      (s, same-story s, none_drawn g id v m vs s l at (OfRoot (length asked)) may in_use (omega (arith, far))),
      ((λ low. absurd (omega (arith, low, far))), (λ _. refl)),
      (refl, refl, inl refl),
    )
  ]
