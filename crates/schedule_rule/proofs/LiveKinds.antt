-- A made record is counted in, or a done one out, and a spill is told: the scheduler's rule is kept.
use Rattle.std.proofs.Common.{◌≡◌, ◌≢◌, ◌∙◌, inl, inr, ℕ, ◌+◌, ◌*◌, ◌-◌, ◌%◌, ◌^◌, ◌≤◌, ◌==◌, ◌||◌, Bool, true, false, cond, List, map, length, refl, sym, ap, subst, arith}
use Rattle.std.specs.Prelude.{slice_get, slice_set, nat_le, ◌&&◌}
use Rattle.std.proofs.lemmas.Bool.{eq-eqb}
use Rattle.record_core.specs.Sums.{total, below}
use Rattle.record_core.specs.Counting.{At, Has, one_if}
use Rattle.record_core.proofs.BelowFacts.{below-member, below-bounded, below-plus}
use Rattle.record_core.proofs.CountFacts.{passing-one}
use Rattle.record_core.proofs.TotalFacts.{total-set, total-member, total-le, total-below, total-map, total-plus}
use Rattle.kt_words.specs.Capacity.{block_units}
use Rattle.table_core.specs.Addresses.{Addr, Mem, super, state, head, next, root, sum, put, units_of}
use Rattle.table_core.specs.Asking.{Asker, OfRoot, OfTask, Drawn}
use Rattle.table_core.specs.Bounds.{IsBounded}
use Rattle.table_core.specs.Holdings.{Made, Run, Done}
use Rattle.table_core.specs.Own.{Hands, any, is_in, made_at, done_at, is_own, is_word_of, is_result_of, record_words}
use Rattle.table_core.specs.RecordViews.{is_made_at, is_done_at}
use Rattle.table_core.specs.References.{is_live}
use Rattle.table_core.specs.Roots.{asked_in}
use Rattle.table_core.specs.Story.{Story}
use Rattle.table_core.specs.Views.{saw}
use Rattle.table_core.specs.Parts.{Part as TablePart, bounds, evers, references, own, roots, totals, waits, fresh_in, seen as table_seen, Says as TableSays}
use Rattle.table_core.specs.declared.setup.Setup.{Setup}
use Rattle.table_core.specs.declared.view.View.{View}
use Rattle.table_core.proofs.ListFacts.{at_map, each-set, total-has, same_some}
use Rattle.table_core.proofs.OwnFacts.{IsHand, hands-from, own-moved, made-phase, made-counts, done-phase, done-counts, runs-phase, runs-counts}
use Rattle.table_core.proofs.PoolKinds.{bounded}
use Rattle.table_core.proofs.ReferenceBound.{units-few, in-few}
use Rattle.table_core.proofs.Rule.{frames as table_frames, moves as table_moves}
use Rattle.table_core.proofs.WaitFacts.{IsWaitHand, wait-hands, waits-hand}
use Rattle.schedule_rule.specs.Askers.{IsAsker, IsFirstOf, AskedSound}
use Rattle.schedule_rule.specs.Counts.{lives_in, CountedSound}
use Rattle.schedule_rule.specs.DrawViews.{changed}
use Rattle.schedule_rule.specs.LifeViews.{count_in, count_out, counted_in, counted_out}
use Rattle.schedule_rule.specs.Parts.{Part, draws, askers, live, classes, quiet, seen, Says, AllSay, Keeps, counted_lives}
use Rattle.schedule_rule.proofs.LiveFacts.{each-changed, total-kept, any-kept, map-kept, each-kept, has-kept, total-changed, counted-below, at-most-one, asked-few}
use Rattle.schedule_rule.proofs.Rule.{frames, moves, same-story}

-- 1 where a done record counts as living still
abbrev still : Bool → ℕ
still out = cond out 0 1

out-few : (d : Done) → cond d.out 0 1 ≤ 1
out-few d = by d.out
  where
    by : (b : Bool) → cond b 0 1 ≤ 1
    by true = omega arith
    by false = omega arith

module _ (g : Setup) (id : ℕ) (v : View) where
  module _ (m : Mem) (vs : List View) (s : Story) (l : AllSay g s m vs) (at : At vs id v) where
    abbrev states : ℕ → ℕ
    states w = m (state w)

    abbrev owners : List Hands
    owners = map (table_seen own) vs

    owner_at : At owners id (table_seen own v)
    owner_at = at_map (table_seen own) vs id v at

    was_hand : IsHand g.plan (λ i. m (super i)) states (record_words m) (table_seen own v)
    was_hand = hands-from g.plan (λ i. m (super i)) states (record_words m) owners (l.table own) id (table_seen own v) owner_at

    was_bounded : IsBounded (table_seen bounds v)
    was_bounded = l.table bounds id (table_seen bounds v) (at_map (table_seen bounds) vs id v at)

    lives_at : At (map (seen live) vs) id (seen live v)
    lives_at = at_map (seen live) vs id v at

    -- the word is at most three times the number of units
    word-few : m (sum 1) ≤ 3 * units_of g.plan
    word-few = omega (
      arith,
      l.schedule live,
      below-bounded (λ u. one_if (is_live (states u))) 1 (units_of g.plan) (λ u h. at-most-one (is_live (states u))),
      total-map lives_in (seen live) vs,
      total-le (λ (x : View). lives_in (seen live x)) (λ (x : View). below (λ u. made_at u x.made + done_at u x.done) (units_of g.plan)) vs (λ k x there. hand-few k x there),
      total-below (λ (x : View) (u : ℕ). made_at u x.made + done_at u x.done) vs (units_of g.plan),
      below-bounded (λ u. total (λ (x : View). made_at u x.made + done_at u x.done) vs) 2 (units_of g.plan) (λ u h. unit-few u),
    )
      where
        hand-few : (k : ℕ) (x : View) → At vs k x → lives_in (seen live x) ≤ below (λ u. made_at u x.made + done_at u x.done) (units_of g.plan)
        hand-few k x there = omega (
          arith,
          counted-below (λ (r : Made). one_if r.live) (λ (r : Made). r.unit) (units_of g.plan) x.made (λ r. at-most-one r.live)
              (λ j r here. (made-phase g.plan (λ i. m (super i)) states (record_words m) owners (l.table own) k (table_seen own x) (at_map (table_seen own) vs k x there) r.unit (made-counts x.made r (j, here))).0),
          counted-below (λ (d : Done). cond d.out 0 1) (λ (d : Done). d.unit) (units_of g.plan) x.done out-few
              (λ j d here. (done-phase g.plan (λ i. m (super i)) states (record_words m) owners (l.table own) k (table_seen own x) (at_map (table_seen own) vs k x there) d.unit (done-counts x.done d (j, here))).0),
          below-plus (λ u. made_at u x.made) (λ u. done_at u x.done) (units_of g.plan),
        )

        unit-few : (u : ℕ) → total (λ (x : View). made_at u x.made + done_at u x.done) vs ≤ 2
        unit-few u = omega (
          arith,
          total-plus (λ (x : View). made_at u x.made) (λ (x : View). done_at u x.done) vs,
          total-map (λ (h : Hands). made_at u h.made) (table_seen own) vs,
          total-map (λ (h : Hands). done_at u h.done) (table_seen own) vs,
          (l.table own).made u,
          (l.table own).done u,
          in-few g m vs s l.table 1 u,
          in-few g m vs s l.table 5 u,
        )

    -- count in
    module _ (r : Made) (has : Has r v.made) (uncounted : r.live ≡ false) (some : r.number ≢ 0) (in_use : 1 ≤ v.parts) where
      abbrev word : ℕ
      word = (m (sum 1) + 1) % 2 ^ 64

      abbrev m' : Mem
      m' = put m (sum 1) word

      abbrev made : List Made
      made = changed (is_made_at r.unit) count_in v.made

      abbrev after_in : View
      after_in = saw (sum 1) (m (sum 1)) (counted_in r.unit v)

      word-is : word ≡ m (sum 1) + 1
      word-is = omega (arith, word-few, units-few g.plan)

      few : made_at r.unit v.made ≤ 1
      few = omega (arith, (l.table own).made r.unit, in-few g m vs s l.table 1 r.unit, total-member (λ (h : Hands). made_at r.unit h.made) owners id (table_seen own v) owner_at)

      only-made : (x : Made) → Has x v.made → is_made_at r.unit x ≡ true → x ≡ r
      only-made x there here =
          let same = passing-one (is_made_at r.unit) v.made there.0 has.0 x r few there.1 here has.1 (eq-eqb r.unit r.unit refl) in
          same_some x r (sym there.1 ∙ ap (slice_get v.made) same ∙ has.1)

      only : (x : Made) → Has x v.made → is_made_at r.unit x ≡ true → (one_if x.live ≡ 0) × (one_if (count_in x).live ≡ 1)
      only x there here = (ap one_if (ap (λ (y : Made). y.live) (only-made x there here) ∙ uncounted), refl)

      counts-more : total (λ (x : Made). one_if x.live) made + 0 ≡ total (λ (x : Made). one_if x.live) v.made + 1
      counts-more = total-changed (is_made_at r.unit) count_in (λ (x : Made). one_if x.live) 0 1 v.made only (record { member = r; there = has; passes = eq-eqb r.unit r.unit refl })

      own-same : (b : Addr) → is_own made v.runs b ≡ is_own v.made v.runs b
      own-same b = ap (λ (c : Bool). c || any (λ (x : Run). is_result_of x.unit (block_units x.class) b) v.runs)
          (any-kept (is_made_at r.unit) count_in (λ (x : Made). is_word_of x.unit (block_units x.class) b) (λ x. refl) v.made)

      in-table : (q : TablePart) → TableSays g q s m' (map (table_seen q) (slice_set vs id after_in))
      in-table bounds = table_moves g vs id v at bounds s m' after_in (each-set IsBounded (map (table_seen bounds) vs) id (table_seen bounds after_in) (l.table bounds) (bounded (table_seen bounds v) _ in_use was_bounded))
      in-table evers = table_frames g vs id v at evers s m' after_in
          (ap (λ (n : ℕ). length v.reserved + fresh_in v.blocks + n + v.cleared) (sym (total-kept (is_made_at r.unit) count_in (λ (x : Made). cond (x.number == 0) 1 0) (λ x. refl) v.made))) (l.table evers)
      in-table own = table_moves g vs id v at own s m' after_in
          (own-moved g.plan (λ i. m (super i)) states states (record_words m) (record_words m) owners id (table_seen own v) (table_seen own after_in) owner_at (l.table own)
          (λ w. ap (λ (k : ℕ). k + is_in g.plan states 1 w) (total-kept (is_made_at r.unit) count_in (λ (x : Made). one_if (x.unit == w)) (λ x. refl) v.made))
          (λ w. refl)
          (λ w. omega (arith, (l.table own).done w))
          (λ k x ne there hand. hand)
          (record {
            classes = each-kept (is_made_at r.unit) count_in _ (λ x is. is) v.made was_hand.classes;
            run_classes = was_hand.run_classes;
            numbers = was_hand.numbers;
            known = λ b k e. ((was_hand.known b k e).0, own-same b ∙ (was_hand.known b k e).1);
          }))
      in-table totals = table_frames g vs id v at totals s m' after_in refl (record { drawn = (l.table totals).drawn; stamps = (l.table totals).stamps })
      in-table q = table_frames g vs id v at q s m' after_in refl (l.table q)

      was_asked : AskedSound s.calls g.plan (seen askers v)
      was_asked = l.schedule askers id (seen askers v) (at_map (seen askers) vs id v at)

      -- who asked for the number of the record still lives, or the root is still to be named: nobody is right that all is over
      not-quiet : m (sum 1) ≡ 0 → asked_in (λ k. m (root k)) ≡ g.plan.roots → ⊥
      not-quiet none all = let t = was_asked.made has.0 r has.1 some in by (t.0).asker (was_asked.asker t.1.0 t.0 t.1.1).0
        where
          by : (a : Asker) → IsAsker s.calls g.plan (seen askers v) ((was_asked.made has.0 r has.1 some).0).number a → ⊥
          by (OfTask task) is =
              let run : Run = is.0 in
              let runs = runs-phase g.plan (λ i. m (super i)) states (record_words m) owners (l.table own) id (table_seen own v) owner_at run.unit (runs-counts v.runs run is.1) in
              omega (arith, none, l.schedule live, below-member (λ u. one_if (is_live (states u))) (units_of g.plan) run.unit runs.0, ap (λ (p : ℕ). one_if (nat_le 2 p && nat_le p 4)) runs.1)
          by (OfRoot k) is =
              omega (arith, all, is.2, is.3, asked-few (λ j. m (root j)) is.0 (λ j low. (l.table roots).says id (table_seen roots v) (at_map (table_seen roots) vs id v at) is.1.0 is.0 is.1.1 j low))

      in-says : (q : Part) → Says g q s m' (map (seen q) (slice_set vs id after_in))
      in-says askers = moves g vs id v at askers s m' after_in (each-set (AskedSound s.calls g.plan) (map (seen askers) vs) id (seen askers after_in) (l.schedule askers)
          (record {
            asker = λ k d there. let t = was_asked.asker k d there in (t.0, elim t.1 [ inl y ↦ inl (first d y.0 y.1 y.2) | inr y ↦ inr y ]);
            made = each-kept (is_made_at r.unit) count_in _ (λ x is. is) v.made was_asked.made;
            unplaced = was_asked.unplaced;
            one = was_asked.one;
            asked = was_asked.asked;
          }))
        where
          first : (d : Drawn) (y : Made) → Has y v.made → IsFirstOf s.calls d y → (z : Made) × Has z made × IsFirstOf s.calls d z
          first d y there is = let t = has-kept (is_made_at r.unit) count_in y v.made there in (
            t.0,
            t.1,
            elim t.2 [
              | inl e ↦ subst (IsFirstOf s.calls d) (sym e) is
              | inr e ↦ subst (IsFirstOf s.calls d) (sym e) (record { unit = is.unit; number = is.number; task = is.task })
            ],
          )
      in-says live = moves g vs id v at live s m' after_in (omega (arith, word-is, l.schedule live, counts-more, total-set lives_in (map (seen live) vs) id (seen live v) (seen live after_in) lives_at))
      in-says counted_lives = moves g vs id v at counted_lives s m' after_in
          (let was : CountedSound (seen counted_lives v) = l.schedule counted_lives id (seen counted_lives v) (at_map (seen counted_lives) vs id v at) in
          each-set CountedSound (map (seen counted_lives) vs) id (seen counted_lives after_in) (l.schedule counted_lives) (record { made = each-changed (is_made_at r.unit) count_in (λ (x : Made). x.live ≡ true → x.number ≢ 0) v.made (λ x there here _ _. subst (λ (y : Made). y.number ≢ 0) (sym (only-made x there here)) some) was.made; done = was.done }))
      in-says classes = moves g vs id v at classes s m' after_in (record {
        records = (l.schedule classes).records;
        made = each-set _ (map (seen classes) vs) id made (l.schedule classes).made (each-kept (is_made_at r.unit) count_in _ (λ x is. is) v.made ((l.schedule classes).made id v.made (at_map (seen classes) vs id v at)));
      })
      in-says quiet = frames g vs id v at quiet s m' after_in refl (λ k n there is. let t = l.schedule quiet k n there is in absurd (not-quiet t.0 t.1))
      in-says q = frames g vs id v at q s m' after_in refl (l.schedule q)

    -- count out
    module _ (d : Done) (has : Has d v.done) (counted : d.out ≡ false) (closed : d.closed ≡ true) (in_use : 1 ≤ v.parts) where
      abbrev word_out : ℕ
      word_out = (m (sum 1) + (2 ^ 64 - 1)) % 2 ^ 64

      abbrev m_out : Mem
      m_out = put m (sum 1) word_out

      abbrev done : List Done
      done = changed (is_done_at d.unit) count_out v.done

      abbrev after_out : View
      after_out = saw (sum 1) (m (sum 1)) (counted_out d.unit v)

      done-few : done_at d.unit v.done ≤ 1
      done-few = omega (arith, (l.table own).done d.unit, in-few g m vs s l.table 5 d.unit, total-member (λ (h : Hands). done_at d.unit h.done) owners id (table_seen own v) owner_at)

      one-done : (x : Done) → Has x v.done → is_done_at d.unit x ≡ true → x ≡ d
      one-done x there here =
          let same = passing-one (is_done_at d.unit) v.done there.0 has.0 x d done-few there.1 here has.1 (eq-eqb d.unit d.unit refl) in
          same_some x d (sym there.1 ∙ ap (slice_get v.done) same ∙ has.1)

      only-done : (x : Done) → Has x v.done → is_done_at d.unit x ≡ true → (still x.out ≡ 1) × (still (count_out x).out ≡ 0)
      only-done x there here = (ap still (ap (λ (y : Done). y.out) (one-done x there here) ∙ counted), refl)

      counts-less : total (λ (x : Done). cond x.out 0 1) done + 1 ≡ total (λ (x : Done). cond x.out 0 1) v.done + 0
      counts-less = total-changed (is_done_at d.unit) count_out (λ (x : Done). cond x.out 0 1) 1 0 v.done only-done (record { member = d; there = has; passes = eq-eqb d.unit d.unit refl })

      -- it is counted before
      living : 1 ≤ m (sum 1)
      living = omega (
        arith,
        l.schedule live,
        total-member lives_in (map (seen live) vs) id (seen live v) lives_at,
        total-has (λ (x : Done). cond x.out 0 1) v.done d has,
        ap still counted,
      )

      word-less : word_out + 1 ≡ m (sum 1)
      word-less = omega (arith, living, word-few, units-few g.plan)

      units-same : map (λ (x : Done). x.unit) done ≡ map (λ (x : Done). x.unit) v.done
      units-same = map-kept (is_done_at d.unit) count_out (λ (x : Done). x.unit) (λ x. refl) v.done

      wait_hand : IsWaitHand states (λ w. m (head w)) (λ w. m (next w)) (table_seen waits v)
      wait_hand = wait-hands states (λ w. m (head w)) (λ w. m (next w)) g.plan (map (table_seen waits) vs) (l.table waits) id (table_seen waits v) (at_map (table_seen waits) vs id v at)

      out-table : (q : TablePart) → TableSays g q s m_out (map (table_seen q) (slice_set vs id after_out))
      out-table bounds = table_moves g vs id v at bounds s m_out after_out (each-set IsBounded (map (table_seen bounds) vs) id (table_seen bounds after_out) (l.table bounds) (bounded (table_seen bounds v) _ in_use was_bounded))
      out-table references = table_frames g vs id v at references s m_out after_out (ap (λ (us : List ℕ). record { futures = v.futures; done = us; retiring = v.retiring }) (sym units-same)) (l.table references)
      out-table own = table_moves g vs id v at own s m_out after_out
          (own-moved g.plan (λ i. m (super i)) states states (record_words m) (record_words m) owners id (table_seen own v) (table_seen own after_out) owner_at (l.table own)
          (λ w. refl)
          (λ w. refl)
          (λ w. omega (arith, (l.table own).done w, total-kept (is_done_at d.unit) count_out (λ (x : Done). one_if (x.unit == w)) (λ x. refl) v.done))
          (λ k x ne there hand. hand)
          (record { classes = was_hand.classes; run_classes = was_hand.run_classes; numbers = was_hand.numbers; known = was_hand.known }))
      out-table totals = table_frames g vs id v at totals s m_out after_out refl (record { drawn = (l.table totals).drawn; stamps = (l.table totals).stamps })
      out-table waits = table_moves g vs id v at waits s m_out after_out
          (waits-hand states (λ w. m (head w)) (λ w. m (next w)) g.plan (map (table_seen waits) vs) id (table_seen waits v) (table_seen waits after_out) (at_map (table_seen waits) vs id v at) (l.table waits)
          (λ w. total-kept (is_done_at d.unit) count_out (λ (x : Done). cond x.closed 0 (one_if (x.unit == w))) (λ x. refl) v.done)
          (λ w. refl)
          (λ w. refl)
          (record { done_closed = each-kept (is_done_at d.unit) count_out _ (λ x is. is) v.done wait_hand.done_closed; chains = wait_hand.chains; numbers = wait_hand.numbers; linked = wait_hand.linked }))
      out-table q = table_frames g vs id v at q s m_out after_out refl (l.table q)

      out-says : (q : Part) → Says g q s m_out (map (seen q) (slice_set vs id after_out))
      out-says live = moves g vs id v at live s m_out after_out (omega (arith, word-less, l.schedule live, counts-less, total-set lives_in (map (seen live) vs) id (seen live v) (seen live after_out) lives_at))
      out-says counted_lives = moves g vs id v at counted_lives s m_out after_out
          (let was : CountedSound (seen counted_lives v) = l.schedule counted_lives id (seen counted_lives v) (at_map (seen counted_lives) vs id v at) in
          each-set CountedSound (map (seen counted_lives) vs) id (seen counted_lives after_out) (l.schedule counted_lives) (record { made = was.made; done = each-changed (is_done_at d.unit) count_out (λ (x : Done). x.out ≡ true → x.closed ≡ true) v.done (λ x there here _ _. ap (λ (y : Done). y.closed) (one-done x there here) ∙ closed) was.done }))
      out-says quiet = frames g vs id v at quiet s m_out after_out refl (λ k n there is. let t = l.schedule quiet k n there is in absurd (omega (arith, t.0, living)))
      out-says q = frames g vs id v at q s m_out after_out refl (l.schedule q)

    -- spill: no part reads that word
    module _ (n : ℕ) where
      abbrev after_spill : View
      after_spill = saw (sum 4) (m (sum 4)) v

      spill-table : (q : TablePart) → TableSays g q s (put m (sum 4) n) (map (table_seen q) (slice_set vs id after_spill))
      spill-table totals = table_frames g vs id v at totals s (put m (sum 4) n) after_spill refl (record { drawn = (l.table totals).drawn; stamps = (l.table totals).stamps })
      spill-table q = table_frames g vs id v at q s (put m (sum 4) n) after_spill refl (l.table q)

      spill-says : (q : Part) → Says g q s (put m (sum 4) n) (map (seen q) (slice_set vs id after_spill))
      spill-says draws = frames g vs id v at draws s (put m (sum 4) n) after_spill refl (l.schedule draws)
      spill-says q = frames g vs id v at q s (put m (sum 4) n) after_spill refl (l.schedule q)

  -- count in: a made record that has its number
  pub counts-in-at : (r : Made) → Has r v.made → r.live ≡ false → r.number ≢ 0 → 1 ≤ v.parts → Keeps g id v (sum 1) (λ n. (n + 1) % 2 ^ 64) (λ k w. w ≡ saw (sum 1) k (counted_in r.unit v))
  counts-in-at r has uncounted some in_use m vs s l at small = (
    after_in m vs s l at r has uncounted some in_use,
    (s, same-story s, record { table = in-table m vs s l at r has uncounted some in_use; schedule = in-says m vs s l at r has uncounted some in_use }),
    refl,
    (refl, refl, inl refl),
  )

  -- count out: a done record that is counted still
  pub counts-out-at : (d : Done) → Has d v.done → d.out ≡ false → d.closed ≡ true → 1 ≤ v.parts → Keeps g id v (sum 1) (λ n. (n + (2 ^ 64 - 1)) % 2 ^ 64) (λ k w. w ≡ saw (sum 1) k (counted_out d.unit v))
  counts-out-at d has counted closed in_use m vs s l at small = (
    after_out m vs s l at d has counted closed in_use,
    (s, same-story s, record { table = out-table m vs s l at d has counted closed in_use; schedule = out-says m vs s l at d has counted closed in_use }),
    refl,
    (refl, refl, inl refl),
  )

  -- spill
  pub spills-at : Keeps g id v (sum 4) (λ n. 1) (λ k w. (n : ℕ) × (w ≡ saw (sum 4) n v))
  spills-at m vs s l at small = (
    after_spill m vs s l at 1,
    (s, same-story s, record { table = spill-table m vs s l at 1; schedule = spill-says m vs s l at 1 }),
    (m (sum 4), refl),
    (refl, refl, inl refl),
  )
