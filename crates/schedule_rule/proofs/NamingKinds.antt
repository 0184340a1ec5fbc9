-- The next root is named, and the scheduler's rule is kept: its record is that of its task, and no number is drawn for it any more.
use Rattle.std.proofs.Common.{◌≡◌, ◌≢◌, ◌∙◌, ◌⊎◌, inl, inr, ℕ, zero, suc, ◌+◌, ◌%◌, ◌^◌, ◌<◌, ◌≤◌, ◌==◌, Bool, true, false, cond, true≢false, Some, None, List, [], ◌∷◌, ◌++◌, map, length, refl, sym, ap, subst, arith, length-append}
use Rattle.std.specs.Prelude.{slice_set, slice_get, nat_lt}
use Rattle.std.proofs.lemmas.Bool.{cases_eq, cases_lt, eq-eqb, ne_eqb, eqb-true, le-leb, lt-ltb, and_from}
use Rattle.record_core.specs.Sums.{total, below}
use Rattle.record_core.specs.Counting.{At, Has, one_if, times, passing}
use Rattle.record_core.proofs.BelowFacts.{below-member}
use Rattle.record_core.proofs.CountFacts.{passing-some}
use Rattle.record_core.proofs.NumberFacts.{at-in_range}
use Rattle.record_core.proofs.TotalFacts.{total-map, total-member, total-plus, total-two_members}
use Rattle.kt_words.specs.StateWords.{phase_of, number_of}
use Rattle.task_meaning.specs.Meant.{future_at}
use Rattle.task_meaning.specs.Worths.{OfAll}
use Rattle.table_core.specs.Addresses.{Mem, state, task, refs, root, put, units_of}
use Rattle.table_core.specs.Asking.{Asker, OfRoot, OfTask, Drawn, Answer, IsLimit}
use Rattle.table_core.specs.Holdings.{Run, SawTask, RootSays, Record, Null, Limit, Skipped}
use Rattle.table_core.specs.Lists.{Each}
use Rattle.table_core.specs.Naming.{MayName}
use Rattle.table_core.specs.Own.{Hands, runs_at}
use Rattle.table_core.specs.Parts.{roots, sights, own, seen as table_seen}
use Rattle.table_core.specs.RecordViews.{referred, turned, put_root}
use Rattle.table_core.specs.References.{is_record, is_saved}
use Rattle.table_core.specs.Roots.{Turn, RootsSound, root_word, word_at, asked_in}
use Rattle.table_core.specs.Story.{Story}
use Rattle.table_core.specs.Views.{saw}
use Rattle.table_core.specs.declared.setup.Setup.{Setup}
use Rattle.table_core.specs.declared.view.View.{View}
use Rattle.table_core.proofs.ListFacts.{at_map, map_at, each-set, set_cases, total-has, same_some, each-append, each-none, each-cons, each-tail}
use Rattle.table_core.proofs.ReferenceBound.{units-few}
use Rattle.table_core.proofs.RootKinds.{names-at as table-names, root-mores-at as table-root-mores}
use Rattle.table_core.proofs.ClassFacts.{record-phase}
use Rattle.table_core.proofs.SightFacts.{sighted}
use Rattle.table_core.proofs.StandingFacts.{total-some}
use Rattle.schedule_rule.specs.Askers.{IsAsker, AskedSound}
use Rattle.schedule_rule.specs.Calls.{task_of, IsTaskOf, IsNumber, ends_of}
use Rattle.schedule_rule.specs.Frames.{BagSound}
use Rattle.schedule_rule.specs.NamingLaws.{MaySay}
use Rattle.schedule_rule.specs.Numbers.{in_hands, saved_at, done_with}
use Rattle.schedule_rule.specs.RootTasks.{RootTask, RootTasksSound}
use Rattle.schedule_rule.specs.Rows.{drawn_at}
use Rattle.schedule_rule.specs.Limits.{ToldSound, is_limit, is_limit_root, IsMet}
use Rattle.schedule_rule.proofs.LimitFacts.{each-left_answers}
use Rattle.schedule_rule.specs.Parts.{Part, names, askers, root_tasks, owners, bags, quiet, seen, Says, AllSay, Keeps, limits}
use Rattle.schedule_rule.proofs.DrawKinds.{drawn-numbers}
use Rattle.schedule_rule.proofs.LiveFacts.{asked-few, at-most-one}
use Rattle.schedule_rule.proofs.ReferenceKinds.{bag-more}
use Rattle.schedule_rule.proofs.Rule.{frames, moves, same-story}
use Rattle.schedule_rule.proofs.StoryFacts.{task-of-number}

module _ (g : Setup) (id : ℕ) (v : View) where
  module _ (m : Mem) (vs : List View) (s : Story) (l : AllSay g s m vs) (at : At vs id v) where
    -- the references of the pass were enough for its running frames
    was_bag : BagSound g.checked (seen bags v)
    was_bag = l.schedule bags id (seen bags v) (at_map (seen bags) vs id v at)

    -- more of a root
    more-says : (u n k : ℕ) (q : Part) → Says g q s (put m (refs u) n) (map (seen q) (slice_set vs id (saw (refs u) k (referred u v))))
    more-says u n k bags = moves g vs id v at bags s (put m (refs u) n) (saw (refs u) k (referred u v))
        (each-set (BagSound g.checked) (map (seen bags) vs) id _ (l.schedule bags) (bag-more g.checked u (seen bags v) was_bag))
    more-says u n k q = frames g vs id v at q s (put m (refs u) n) (saw (refs u) k (referred u v)) refl (l.schedule q)

    -- a number that is drawn is that of no task whose record the hand refers to
    module _ (u t : ℕ) (saw_it : Has (SawTask u t) v.sights) (d : Drawn) (drawn : Has d v.drawn) (is_it : d.number ≡ t) where
      abbrev tasks : ℕ → ℕ
      tasks w = m (task w)

      abbrev states : ℕ → ℕ
      states w = m (state w)

      -- the hand refers to the record, and its task is the one that was seen
      known : (1 ≤ times u v.futures) × (tasks u ≡ t)
      known = l.table sights id (table_seen sights v) (at_map (table_seen sights) vs id v at) saw_it.0 (SawTask u t) saw_it.1

      -- it is a record of the table
      refers : (u < units_of g.plan) × (is_record (states u) ≡ true)
      refers = sighted g m vs s l.table id (table_seen sights v) (at_map (table_seen sights) vs id v at) u known.0

      -- it has an accepted number, whose task it is of
      of : IsNumber s.calls (number_of (states u)) × (tasks u ≡ task_of s.calls (number_of (states u)))
      of = (l.schedule owners).is_of u refers.0 refers.1

      -- the task was accepted
      is_task : IsTaskOf s.calls t
      is_task = subst (IsTaskOf s.calls) (sym of.1 ∙ known.1) (task-of-number s.calls (OfAll []) (l.schedule names) (number_of (states u)) of.0).0

      abbrev runs_of : View → ℕ
      runs_of x = passing (λ (r : Run). task_of s.calls r.number == t) x.runs

      -- it is drawn in this hand, so it stands nowhere else
      drawn_here : 1 ≤ total (λ (x : View). drawn_at t x.drawn) vs
      drawn_here = omega (
        arith,
        total-member (λ (x : View). drawn_at t x.drawn) vs id v at,
        total-has (λ (x : Drawn). one_if (x.number == t)) v.drawn d drawn,
        ap one_if (eq-eqb d.number t is_it),
      )

      -- the task stands in no saved record, runs in no hand, and has not ended
      nowhere : (below (saved_at states tasks t) (units_of g.plan) ≡ 0) × (total runs_of vs ≡ 0) × (ends_of t s.ends ≡ 0)
      nowhere =
          let all = (l.schedule owners).once t is_task in
          let hands = total-map (in_hands s.calls t) (seen owners) vs in
          let parts = total-plus (λ (x : View). drawn_at t x.drawn) runs_of vs in
          (omega (arith, all, hands, parts, drawn_here), omega (arith, all, hands, parts, drawn_here), omega (arith, all, hands, parts, drawn_here))

      -- the record counts as one of the task
      its : one_if (tasks u == t) ≡ 1
      its = ap one_if (eq-eqb (tasks u) t known.1)

      -- so the record neither waits nor is ready
      not_saved : is_saved (states u) ≡ true → ⊥
      not_saved is = omega (
        arith,
        nowhere.0,
        below-member (saved_at states tasks t) (units_of g.plan) u refers.0,
        ap (λ (b : Bool). cond b (one_if (tasks u == t)) 0) is,
        its,
      )

      -- nor is it done
      not_done : phase_of (states u) ≡ 5 → ⊥
      not_done is = omega (
        arith,
        nowhere.2,
        (l.schedule owners).done t,
        below-member (done_with states tasks t) (units_of g.plan) u refers.0,
        ap (λ (p : ℕ). cond (p == 5) (one_if (tasks u == t)) 0) is,
        its,
      )

      -- nor does it run
      not_run : phase_of (states u) ≡ 4 → ⊥
      not_run is =
          let there : total (λ (h : Hands). runs_at u h.runs) (map (table_seen own) vs) ≡ 1 =
          (l.table own).running u ∙ ap (λ (b : Bool). cond b (one_if (phase_of (states u) == 4)) 0) (lt-ltb u (units_of g.plan) refers.0) ∙ ap (λ (p : ℕ). one_if (p == 4)) is in
          let some = total-some (λ (x : View). runs_at u x.runs) vs (omega (arith, there, total-map (λ (h : Hands). runs_at u h.runs) (table_seen own) vs)) in
          let run = (passing-some (λ (r : Run). r.unit == u) (some.1).runs).0 some.3 in
          let r : Run = run.member in
          let number_is : r.number ≡ number_of (states u) =
          (l.table own).numbers some.0 (table_seen own some.1) (at_map (table_seen own) vs some.0 some.1 some.2) run.there.0 r run.there.1 ∙ ap (λ (w : ℕ). number_of (states w)) (eqb-true r.unit u run.passes) in
          let same : task_of s.calls r.number ≡ t = ap (task_of s.calls) number_is ∙ sym of.1 ∙ known.1 in
          omega (
            arith,
            nowhere.1,
            total-member runs_of vs some.0 some.1 some.2,
            total-has (λ (x : Run). one_if (task_of s.calls x.number == t)) (some.1).runs r run.there,
            ap one_if (eq-eqb (task_of s.calls r.number) t same),
          )

      -- but it is a record, so the number was not drawn
      pub drawn-apart : ⊥
      drawn-apart = by (is_saved (states u)) refl (cases_eq (phase_of (states u)) 4)
        where
          by : (b : Bool) → is_saved (states u) ≡ b → (phase_of (states u) ≡ 4) ⊎ (phase_of (states u) ≢ 4) → ⊥
          by true e other = not_saved e
          by false e (inl run) = not_run run
          by false e (inr ne) = not_done (last (cases_lt (phase_of (states u)) 4))
            where
              p : (2 ≤ phase_of (states u)) × (phase_of (states u) ≤ 5)
              p = record-phase (states u) refers.1

              last : (phase_of (states u) < 4) ⊎ (4 ≤ phase_of (states u)) → phase_of (states u) ≡ 5
              last (inl low) = absurd (true≢false (sym (and_from _ _ (le-leb 2 (phase_of (states u)) p.0) (le-leb (phase_of (states u)) 3 (omega (arith, low)))) ∙ e))
              last (inr high) = omega (arith, high, ne, p.1)

    -- name
    module _ (asked : List RootSays) (has_turn : v.turn ≡ asked ∷ []) (says : RootSays) (few : length asked < g.plan.roots) (may : MayName g asked v says) (may_say : MaySay g asked v says) (k : ℕ) where
      abbrev r : ℕ
      r = length asked

      abbrev n : ℕ
      n = root_word says

      abbrev after_name : View
      after_name = saw (root r) k (put_root says v)

      abbrev roots' : ℕ → ℕ
      roots' i = put m (root r) n (root i)

      abbrev now_seen : RootTask
      now_seen = seen root_tasks after_name

      -- the pass has the turn
      mine : Has asked v.turn
      mine = (0, ap (λ (t : List (List RootSays)). slice_get t 0) has_turn)

      -- what was said of turns and root words
      turns : RootsSound g.checked g.plan (λ i. m (root i)) (map (table_seen roots) vs)
      turns = l.table roots

      -- what the pass has of the turn
      turn_at : At (map (table_seen roots) vs) id (table_seen roots v)
      turn_at = at_map (table_seen roots) vs id v at

      -- the root words are those of what was said
      says-words : (i : ℕ) → i < 16 → m (root i) ≡ word_at asked i
      says-words i low = turns.says id (table_seen roots v) turn_at mine.0 asked mine.1 i low

      -- what was said of the tasks of roots
      was : RootTasksSound g.checked g.plan s.calls (λ w. m (task w)) (λ i. m (root i)) (map (seen root_tasks) vs)
      was = l.schedule root_tasks

      -- what the pass has of the turn's task
      seen_at : At (map (seen root_tasks) vs) id (seen root_tasks v)
      seen_at = at_map (seen root_tasks) vs id v at

      -- other root words are as before
      root-other : (i : ℕ) → i ≢ r → roots' i ≡ m (root i)
      root-other i ne = ap (λ (b : Bool). cond b n (m (root i))) (ne_eqb r i (λ e. ne (sym e)))

      -- the word of the root is written
      root-here : roots' r ≡ n
      root-here = ap (λ (b : Bool). cond b n (m (root r))) (eq-eqb r r refl)

      -- the others have no turn
      no-turn : (j : ℕ) (x : View) → j ≢ id → At vs j x → (ts : List RootSays) → Has ts x.turn → ⊥
      no-turn j x ne there ts has_ts = omega (
        arith,
        turns.one,
        total-two_members (λ (t : Turn). length t.turn) (map (table_seen roots) vs) j id (table_seen roots x) (table_seen roots v) ne (at_map (table_seen roots) vs j x there) turn_at,
        ap length has_turn,
        at-in_range x.turn has_ts.0 ts has_ts.1,
      )

      -- what holds of the one turn
      of-turn : (P : RootTask → List RootSays → Type 0) → P now_seen (asked ++ says ∷ []) → Each (λ h. Each (λ ts. P h ts) h.turn) (slice_set (map (seen root_tasks) vs) id now_seen)
      of-turn P here j h there i ts there' = elim (set_cases (map (seen root_tasks) vs) id j now_seen h there) [
        | inl e ↦ subst (λ (x : RootTask). P x ts) (sym e.1) (only i (subst (λ (x : List (List RootSays)). At x i ts) (ap (λ (x : RootTask). x.turn) e.1 ∙ ap (turned says) has_turn) there'))
        | inr t ↦
            let x = map_at (seen root_tasks) vs j h t.1 in
            absurd (no-turn j x.0 t.0 x.1 ts (i, subst (λ (z : RootTask). At z.turn i ts) (sym x.2) there'))
      ]
        where
          only : (i : ℕ) → At ((asked ++ says ∷ []) ∷ []) i ts → P now_seen ts
          only zero e = subst (P now_seen) (same_some (asked ++ says ∷ []) ts e) here
          only (suc i) e = let no_one : None ≡ Some ts → ⊥ = λ same. cc in absurd (no_one e)

      -- the record that is named is that of the root's task
      named-here : (u : ℕ) → u < units_of g.plan → n ≡ u + 1 → future_at was.own r ≡ Some (m (task u))
      named-here u near is = by says may_say is
        where
          by : (x : RootSays) → MaySay g asked v x → root_word x ≡ u + 1 → future_at was.own r ≡ Some (m (task u))
          by (Record w) ok e =
              let saw_it = ok.sees in
              let its : m (task w) ≡ v.root_task = (l.table sights id (table_seen sights v) (at_map (table_seen sights) vs id v at) saw_it.0 (SawTask w v.root_task) saw_it.1).1 in
              was.drawn id (seen root_tasks v) seen_at mine.0 asked mine.1 ok.drawn ∙ ap Some (sym its ∙ ap (λ (x : ℕ). m (task x)) (omega (arith, e)))
          by Null ok e = absurd (omega (arith, e, near, units-few g.plan))
          by Limit ok e = absurd (omega (arith, e, near, units-few g.plan))
          by (Skipped j) ok e = absurd (omega (arith, e, near, units-few g.plan))

      -- the part on the tasks of roots holds once the root is named
      name-root_tasks : RootTasksSound g.checked g.plan s.calls (λ w. m (task w)) roots' (slice_set (map (seen root_tasks) vs) id now_seen)
      name-root_tasks = record {
        own = was.own;
        are = was.are;
        rise = was.rise;
        few = of-turn (λ h ts. length was.own ≤ length ts + one_if (nat_lt 0 h.root_task))
            (omega (arith, length-append asked (says ∷ []), at-most-one (nat_lt 0 v.root_task), was.few id (seen root_tasks v) seen_at mine.0 asked mine.1));
        named = λ i u low near e. elim (cases_eq i r) [
          | inl same ↦ subst (λ (x : ℕ). future_at was.own x ≡ Some (m (task u))) (sym same) (named-here u near (sym root-here ∙ ap roots' (sym same) ∙ e))
          | inr ne ↦ was.named i u low near (sym (root-other i ne) ∙ e)
        ];
        drawn = of-turn (λ h ts. h.root_task ≢ 0 → future_at was.own (length ts) ≡ Some h.root_task) (λ ne. absurd (ne refl));
        of_turn = λ j h there some. elim (set_cases (map (seen root_tasks) vs) id j now_seen h there) [
          | inl e ↦ absurd (some (ap (λ (x : RootTask). x.root_task) e.1))
          | inr t ↦ was.of_turn j h t.1 some
        ];
      }

      -- no number is drawn for the root
      none-drawn : (d : Drawn) → Has d v.drawn → v.root_task ≡ d.number → ⊥
      none-drawn d there e = by says may_say
        where
          unnumbered : v.root_task ≡ 0 → ⊥
          unnumbered none = omega (arith, none, e, (drawn-numbers g id v m vs s l at id v at there.0 d there.1).0)

          by : (x : RootSays) → MaySay g asked v x → ⊥
          by (Record u) ok = drawn-apart u v.root_task ok.sees d there (sym e)
          by Null ok = unnumbered ok
          by Limit ok = unnumbered ok.0
          by (Skipped j) ok = unnumbered ok

      -- what was said of the numbers that the pass drew
      was_asked : AskedSound s.calls g.plan (seen askers v)
      was_asked = l.schedule askers id (seen askers v) (at_map (seen askers) vs id v at)

      -- who asked for a number is there still
      asker-still : (d : Drawn) → Has d v.drawn → (a : Asker) → IsAsker s.calls g.plan (seen askers v) d.number a → IsAsker s.calls g.plan (seen askers after_name) d.number a
      asker-still d there (OfTask t) is = is
      asker-still d there (OfRoot i) is = absurd (none-drawn d there is.4)

      -- the part on askers holds once the root is named
      name-asked : AskedSound s.calls g.plan (seen askers after_name)
      name-asked = record { asker = λ j d there. let t = was_asked.asker j d there in (asker-still d (j, there) d.asker t.0, t.1); made = was_asked.made; unplaced = was_asked.unplaced; one = was_asked.one; asked = was_asked.asked }

      -- the references that are left are enough
      name-bag : BagSound g.checked (seen bags after_name)
      name-bag = by says may_say
        where
          by : (x : RootSays) → MaySay g asked v x → BagSound g.checked (seen bags (put_root x v))
          by (Record u) ok = ok.spare was_bag
          by Null ok = was_bag
          by Limit ok = was_bag
          by (Skipped j) ok = was_bag

      -- nobody knows that all roots were asked for
      not_all : asked_in (λ i. m (root i)) < g.plan.roots
      not_all = omega (arith, few, asked-few (λ i. m (root i)) asked says-words)

      -- the scheduler's rule holds once the root is named
      name-says : (q : Part) → Says g q s (put m (root r) n) (map (seen q) (slice_set vs id after_name))
      name-says askers = moves g vs id v at askers s (put m (root r) n) after_name (each-set (AskedSound s.calls g.plan) (map (seen askers) vs) id (seen askers after_name) (l.schedule askers) name-asked)
      name-says root_tasks = moves g vs id v at root_tasks s (put m (root r) n) after_name name-root_tasks
      name-says bags = moves g vs id v at bags s (put m (root r) n) after_name (each-set (BagSound g.checked) (map (seen bags) vs) id (seen bags after_name) (l.schedule bags) name-bag)
      name-says quiet = frames g vs id v at quiet s (put m (root r) n) after_name refl (λ j x there some. absurd (omega (arith, not_all, (l.schedule quiet j x there some).1)))
      name-says limits = moves g vs id v at limits s (put m (root r) n) after_name
          (let was : ToldSound g.plan.limit s.calls (seen limits v) = (l.schedule limits).told id (seen limits v) (at_map (seen limits) vs id v at) in
          record {
            told = each-set (ToldSound g.plan.limit s.calls) (map (seen limits) vs) id (seen limits after_name) (l.schedule limits).told (record { answers = each-left_answers (λ (a : Answer). is_limit a.refusal ≡ true → IsMet g.plan.limit s.calls) v.answers was.answers; roots = turned-roots v.turn was.roots });
            ended = (l.schedule limits).ended;
          })
        where
          met : (x : RootSays) → MaySay g asked v x → is_limit_root x ≡ true → IsMet g.plan.limit s.calls
          met (Record u) ok is = absurd (true≢false (sym is))
          met Null ok is = absurd (true≢false (sym is))
          met Limit ok is = ((l.schedule limits).told id (seen limits v) (at_map (seen limits) vs id v at)).answers ok.1.0 (record { asker = OfRoot (length asked); refusal = IsLimit }) ok.1.1 refl
          met (Skipped j) ok is = absurd (true≢false (sym is))

          turned-roots : (turn : List (List RootSays)) → Each (Each (λ x. is_limit_root x ≡ true → IsMet g.plan.limit s.calls)) turn → Each (Each (λ x. is_limit_root x ≡ true → IsMet g.plan.limit s.calls)) (turned says turn)
          turned-roots [] all = all
          turned-roots (xs ∷ turn) all = each-cons _ (xs ++ says ∷ []) turn (each-append _ xs (says ∷ []) (all 0 xs refl) (each-cons _ says [] (met says may_say) (each-none _))) (each-tail _ xs turn all)
      name-says q = frames g vs id v at q s (put m (root r) n) after_name refl (l.schedule q)

  -- more of a root: a reference to its record
  pub root-mores-at : (asked : List RootSays) → v.turn ≡ asked ∷ [] → (r u : ℕ) → r < 16 → At asked r (Record u) → 1 ≤ v.parts → length v.futures < 4294967296
      → Keeps g id v (refs u) (λ n. (n + 1) % 2 ^ 64) (λ k w. w ≡ saw (refs u) k (referred u v))
  root-mores-at asked has_turn r u low there in_use room m vs s l at small =
      let t = table-root-mores g id v asked has_turn r u low there in_use room m vs s l.table at small in let n : ℕ = (m (refs u) + 1) % 2 ^ 64 in
      (t.0, (s, same-story s, record { table = t.1; schedule = λ q. subst (λ (x : View). Says g q s (put m (refs u) n) (map (seen q) (slice_set vs id x))) (sym t.2) (more-says m vs s l at u n (m (refs u)) q) }), t.2, t.3)

  -- name: the next root
  pub names-root-at : (asked : List RootSays) → v.turn ≡ asked ∷ [] → (says : RootSays) → length asked < g.plan.roots → MayName g asked v says → MaySay g asked v says → 1 ≤ v.parts
      → Keeps g id v (root (length asked)) (λ n. root_word says) (λ r w. (n : ℕ) × (w ≡ saw (root (length asked)) n (put_root says v)))
  names-root-at asked has_turn says few may may_say in_use m vs s l at small =
      let t = table-names g id v asked has_turn says few may in_use m vs s l.table at small in (
        t.0,
        (
          s,
          same-story s,
          record {
            table = t.1;
            schedule = λ q. subst (λ (x : View). Says g q s (put m (root (length asked)) (root_word says)) (map (seen q) (slice_set vs id x))) (sym t.2.1)
                (name-says m vs s l at asked has_turn says few may may_say t.2.0 q);
          },
        ),
        t.2,
        t.3,
      )
