-- The step that finishes a running record keeps the rule.
use Rattle.std.proofs.Common.{◌≡◌, ◌≢◌, ◌∙◌, ◌⊎◌, inl, inr, ℕ, ◌+◌, ◌<◌, ◌≤◌, Bool, true, false, cond, ◌==◌, ◌&&◌, Some, List, map, refl, sym, ap, subst, true≢false, arith}
use Rattle.std.specs.Prelude.{slice_set, nat_le, nat_lt}
use Rattle.std.proofs.lemmas.Bool.{cases_eq, eqb-true, eq-eqb, ne_eqb}
use Rattle.record_core.specs.Sums.{total, below}
use Rattle.record_core.specs.Counting.{At, Has, one_if, times, dropped}
use Rattle.record_core.proofs.TotalFacts.{total-map, total-set}
use Rattle.record_core.proofs.CountFacts.{total-dropped}
use Rattle.kt_words.specs.Capacity.{block_units}
use Rattle.kt_words.specs.StateWords.{phase_of, number_of, IsStateWord}
use Rattle.kt_words.specs.SuperWords.{class_of}
use Rattle.table_core.specs.Addresses.{Addr, Mem, super, state, refs, head, next, task, root, frame_in, units_of, put}
use Rattle.table_core.specs.Holdings.{Made, Run}
use Rattle.table_core.specs.Story.{Story}
use Rattle.table_core.specs.Bounds.{IsBounded}
use Rattle.table_core.specs.Pool.{is_used, bit_in, superblock_of}
use Rattle.table_core.specs.References.{is_saved, is_live, is_record, Bag, saved_in, IsReferred}
use Rattle.table_core.specs.Own.{Hands, runs_at, done_at, is_own, is_word_of, is_result_of, known_in, record_words}
use Rattle.table_core.specs.WaitLists.{Waits}
use Rattle.table_core.specs.Views.{saw}
use Rattle.table_core.specs.WaitViews.{is_run_at, finished}
use Rattle.table_core.specs.Parts.{Part, pool, bounds, references, fits, own, shaped, waits, sights, seen, Says, AllSay}
use Rattle.table_core.specs.declared.setup.Setup.{Setup}
use Rattle.table_core.specs.declared.view.View.{View}
use Rattle.table_core.proofs.ListFacts.{at_map, each-set, each-dropped}
use Rattle.table_core.proofs.Rule.{frames, moves}
use Rattle.table_core.proofs.PoolFacts.{pool-used}
use Rattle.table_core.proofs.PoolKinds.{bounded}
use Rattle.table_core.proofs.ReferenceFacts.{in_hands, kept_in, leaving, saved-same}
use Rattle.table_core.proofs.BagFacts.{one-here, one-apart}
use Rattle.table_core.proofs.OwnFacts.{IsHand, hands-from, own-moved, runs-phase, runs-counts}
use Rattle.table_core.proofs.RecordWords.{owned-by, or-left, or-right, has-any, has-dropped, forgets}
use Rattle.table_core.proofs.Owners.{result-word}
use Rattle.table_core.proofs.RecordKinds.{state-here, state-other, same-test, in-was, in-moved, shaped-now, words-kept, not-made}
use Rattle.table_core.proofs.SightFacts.{sights-written}
use Rattle.table_core.proofs.WaitSteps.{waits-finished}

-- the running record goes
pub runs-dropped : (u w : ℕ) (l : List Run) (r : Run) → Has r l → r.unit ≡ u → runs_at w (dropped (is_run_at u) l) + one_if (u == w) ≡ runs_at w l
runs-dropped u w l r has e = total-dropped (λ (x : Run). one_if (x.unit == w)) (is_run_at u) (one_if (u == w)) l
    (λ k x at here. ap (λ (n : ℕ). one_if (n == w)) (eqb-true x.unit u here)) (record { member = r; there = has; passes = eq-eqb r.unit u e })

-- what is own still is, once a running record that it is not of has gone
pub own-past : (u c : ℕ) (made : List Made) (runs : List Run) → ((r : Run) → Has r runs → r.unit ≡ u → r.class ≡ c) → (a : Addr) → is_own made runs a ≡ true → is_word_of u (block_units c) a ≡ false
    → is_own made (dropped (is_run_at u) runs) a ≡ true
own-past u c made runs one a mine not_its = elim (owned-by made runs a mine) [
  | inl t ↦ or-left _ _ (has-any (λ (r : Made). is_word_of r.unit (block_units r.class) a) made t.0 t.1 t.2)
  | inr t ↦
      let apart : is_run_at u t.0 ≡ false = ne_eqb (t.0).unit u
      (λ e. true≢false (sym (sym (λ k. is_word_of (e k) (block_units (one t.0 t.1 e k)) a) ∙ result-word (t.0).unit (block_units (t.0).class) a t.2) ∙ not_its)) in
      or-right _ _ (has-any (λ (r : Run). is_result_of r.unit (block_units r.class) a) (dropped (is_run_at u) runs) t.0 (has-dropped (is_run_at u) runs t.0 t.1 apart) t.2)
]

cond-zero : (b : Bool) → ◌≡◌ {A = ℕ} (cond b 0 0) 0
cond-zero true = refl
cond-zero false = refl

module _ (g : Setup) (id : ℕ) (v : View) where
  module _ (m : Mem) (vs : List View) (s : Story) (l : AllSay g s m vs) (at : At vs id v) (r : Run) (has : Has r v.runs) (in_use : 1 ≤ v.parts) (n : ℕ) (done : phase_of n ≡ 5)
      (numbered : number_of n ≡ r.number) (shape : IsStateWord n) where
    abbrev u : ℕ
    u = r.unit

    abbrev states : ℕ → ℕ
    states w = m (state w)

    abbrev states' : ℕ → ℕ
    states' w = put m (state u) n (state w)

    abbrev supers : ℕ → ℕ
    supers i = m (super i)

    abbrev owners : List Hands
    owners = map (seen own) vs

    abbrev bags : List Bag
    bags = map (seen references) vs

    abbrev waiting_vs : List Waits
    waiting_vs = map (seen waits) vs

    abbrev after_finish : View
    after_finish = saw (state u) (m (state u)) (finished u r.class v)

    owner_at : At owners id (seen own v)
    owner_at = at_map (seen own) vs id v at

    -- the record that finishes was in range, and ran
    pub ran : (u < units_of g.plan) × (phase_of (states u) ≡ 4)
    ran = runs-phase g.plan supers states (record_words m) owners (l own) id (seen own v) owner_at u (runs-counts v.runs r has)

    -- tests of the state that both phases pass alike
    same : (f : ℕ → Bool) → f n ≡ f (states u) → (w : ℕ) → f (states' w) ≡ f (states w)
    same = same-test g id v m vs s l at u n ran.0

    -- what was a record is one still
    pub recorded : (w : ℕ) → is_record (states' w) ≡ is_record (states w)
    recorded = same is_record (ap (λ (p : ℕ). nat_le 2 p && nat_le p 5) done ∙ sym (ap (λ (p : ℕ). nat_le 2 p && nat_le p 5) ran.1))

    -- what was saved is so still, and nothing else is
    pub saved : (w : ℕ) → is_saved (states' w) ≡ is_saved (states w)
    saved = same is_saved (ap (λ (p : ℕ). nat_le 2 p && nat_le p 3) done ∙ sym (ap (λ (p : ℕ). nat_le 2 p && nat_le p 3) ran.1))

    used : (w : ℕ) → is_used (states' w) ≡ is_used (states w)
    used w = ap one_if (same (λ x. nat_lt 0 (phase_of x)) (ap (λ (p : ℕ). nat_lt 0 p) done ∙ sym (ap (λ (p : ℕ). nat_lt 0 p) ran.1)) w)

    -- the number stays
    its_number : r.number ≡ number_of (states u)
    its_number = (l own).numbers id (seen own v) owner_at has.0 r has.1

    -- each unit has the number that it had
    pub number-same : (w : ℕ) → number_of (states' w) ≡ number_of (states w)
    number-same w = elim (cases_eq w u) [
      | inl e ↦ subst (λ (x : ℕ). number_of (states' x) ≡ number_of (states x)) (sym e) (ap number_of (state-here m u n) ∙ numbered ∙ its_number)
      | inr ne ↦ ap number_of (state-other m u n w ne)
    ]

    -- the scheduler's own reference is now that of a done record in the hand
    abbrev bags' : List Bag
    bags' = slice_set bags id (seen references after_finish)

    bag_at : At bags id (seen references v)
    bag_at = at_map (seen references) vs id v at

    kept-more : (w : ℕ) → kept_in bags' w ≡ kept_in bags w + one_if (u == w)
    kept-more w = omega (arith, total-set (λ (b : Bag). times w b.done) bags id (seen references v) (seen references after_finish) bag_at)

    own-same : (w : ℕ) → one_if (is_live (states' w)) + kept_in bags' w ≡ one_if (is_live (states w)) + kept_in bags w
    own-same w = by (cases_eq w u)
      where
        by : (w ≡ u) ⊎ (w ≢ u) → one_if (is_live (states' w)) + kept_in bags' w ≡ one_if (is_live (states w)) + kept_in bags w
        by (inl e) = subst (λ (x : ℕ). one_if (is_live (states' x)) + kept_in bags' x ≡ one_if (is_live (states x)) + kept_in bags x) (sym e) (omega (
          arith,
          kept-more u,
          one-here u,
          ap (λ (x : ℕ). one_if (is_live x)) (state-here m u n),
          ap (λ (p : ℕ). one_if (nat_le 2 p && nat_le p 4)) done,
          ap (λ (p : ℕ). one_if (nat_le 2 p && nat_le p 4)) ran.1,
        ))
        by (inr ne) = omega (arith, kept-more w, one-apart u w (λ e. ne (sym e)), ap (λ (x : ℕ). one_if (is_live x)) (state-other m u n w ne))

    hands-same : (w : ℕ) → in_hands bags' w ≡ in_hands bags w
    hands-same w = omega (arith, total-set (λ (b : Bag). times w b.futures) bags id (seen references v) (seen references after_finish) bag_at)

    leaving-same : (w : ℕ) → leaving bags' w ≡ leaving bags w
    leaving-same w = omega (arith, total-set (λ (b : Bag). times w b.retiring) bags id (seen references v) (seen references after_finish) bag_at)

    names-same : (w : ℕ) → below (saved_in g.checked states' (λ x. m (refs x)) (λ k. m (root k)) (frame_in m) w) (units_of g.plan)
        ≡ below (saved_in g.checked states (λ x. m (refs x)) (λ k. m (root k)) (frame_in m) w) (units_of g.plan)
    names-same w = saved-same g.checked g.plan states states' (λ x. m (refs x)) (λ x. m (refs x)) (λ k. m (root k)) (λ k. m (root k)) (frame_in m) (frame_in m) bags bags' saved (λ x low is. refl) w

    finish-references : IsReferred g.checked states' (λ x. m (refs x)) (λ k. m (root k)) (frame_in m) g.plan bags'
    finish-references = record {
      counted = λ w near is. omega (arith, (l references).counted w near (sym (recorded w) ∙ is), names-same w, hands-same w, own-same w);
      unnamed = λ w near is. omega (arith, (l references).unnamed w near (sym (recorded w) ∙ is), names-same w, hands-same w, own-same w);
      last = λ w near. leaving-same w ∙ (l references).last w near ∙ sym (ap (λ (b : Bool). cond b (one_if (m (refs w) == 0)) 0) (recorded w));
      inside = λ w far. omega (arith, (l references).inside w far, names-same w, hands-same w, own-same w, leaving-same w);
    }

    -- hands keep what they know
    words-still : (k : ℕ) (h : Hands) → At owners k h → (a : Addr) → is_own h.made h.runs a ≡ true → record_words (put m (state u) n) a ≡ record_words m a
    words-still k h there = words-kept g id v m vs s l at u n ran.0 k h there (not-made g id v m vs s l at u n ran.0 (λ e. omega (arith, e, ran.1)) k h there)

    mine : IsHand g.plan supers states (record_words m) (seen own v)
    mine = hands-from g.plan supers states (record_words m) owners (l own) id (seen own v) owner_at

    still_known : (a : Addr) (k : ℕ) → (known_in a v.known ≡ Some k) × (is_word_of u (block_units r.class) a ≡ false)
        → (record_words (put m (state u) n) a ≡ k) × (is_own v.made (dropped (is_run_at u) v.runs) a ≡ true)
    still_known a k t =
        let known = mine.known a k t.0 in (
          words-still id (seen own v) owner_at a known.1 ∙ known.0,
          own-past u r.class v.made v.runs (λ x there e. mine.run_classes there.0 x there.1 ∙ ap (λ (w : ℕ). class_of (supers (superblock_of g.plan w))) e ∙ sym (mine.run_classes has.0 r has.1)) a known.1 t.1,
        )

    -- each part of the rule holds after the finish
    pub finish-parts : (q : Part) → Says g q s (put m (state u) n) (map (seen q) (slice_set vs id after_finish))
    finish-parts pool = frames g vs id v at pool s (put m (state u) n) after_finish refl (pool-used g.plan supers (bit_in m) states states' (map (seen pool) vs) (l pool) used)
    finish-parts bounds = moves g vs id v at bounds s (put m (state u) n) after_finish
        (each-set IsBounded (map (seen bounds) vs) id (seen bounds after_finish) (l bounds) (bounded (seen bounds v) _ in_use (l bounds id (seen bounds v) (at_map (seen bounds) vs id v at))))
    finish-parts references = moves g vs id v at references s (put m (state u) n) after_finish finish-references
    finish-parts fits = moves g vs id v at fits s (put m (state u) n) after_finish (record {
      saved = λ w low is. (l fits).saved w low (sym (saved w) ∙ is);
      running = each-set _ (map (seen fits) vs) id (seen fits after_finish) (l fits).running (each-dropped _ (is_run_at u) v.runs ((l fits).running id (seen fits v) (at_map (seen fits) vs id v at)));
    })
    finish-parts own = moves g vs id v at own s (put m (state u) n) after_finish
        (own-moved g.plan supers states states' (record_words m) (record_words (put m (state u) n)) owners id (seen own v) (seen own after_finish) owner_at (l own)
        (λ w. omega (arith, in-moved g id v m vs s l at u n ran.0 1 0 0 (ap (λ (p : ℕ). one_if (p == 1)) done) (ap (λ (p : ℕ). one_if (p == 1)) ran.1) w))
        (λ w. omega (
          arith,
          in-moved g id v m vs s l at u n ran.0 4 1 0 (ap (λ (p : ℕ). one_if (p == 4)) done) (ap (λ (p : ℕ). one_if (p == 4)) ran.1) w,
          cond-zero (u == w),
          runs-dropped u w v.runs r has refl,
        ))
        (λ w. omega (
          arith,
          (l own).done w,
          in-moved g id v m vs s l at u n ran.0 5 0 1 (ap (λ (p : ℕ). one_if (p == 5)) done) (ap (λ (p : ℕ). one_if (p == 5)) ran.1) w,
          cond-zero (u == w),
        ))
        (λ k h other there was. record {
          classes = was.classes;
          run_classes = was.run_classes;
          numbers = λ j x there'. was.numbers j x there' ∙ sym (number-same x.unit);
          known = λ a k' e. let t = was.known a k' e in (words-still k h there a t.1 ∙ t.0, t.1);
        })
        (record {
          classes = mine.classes;
          run_classes = each-dropped _ (is_run_at u) v.runs mine.run_classes;
          numbers = each-dropped _ (is_run_at u) v.runs (λ j x there. mine.numbers j x there ∙ sym (number-same x.unit));
          known = λ a k e. still_known a k (forgets u (block_units r.class) v.known a k e);
        }))
    finish-parts shaped = frames g vs id v at shaped s (put m (state u) n) after_finish refl (shaped-now g id v m vs s l at u n ran.0 shape)
    finish-parts waits = moves g vs id v at waits s (put m (state u) n) after_finish
        (waits-finished states (λ w. m (head w)) (λ w. m (next w)) g.plan waiting_vs (l waits) id (seen waits v) (at_map (seen waits) vs id v at) u ran.0 states' ran.1
        (ap phase_of (state-here m u n) ∙ done) none_done (state-other m u n))
      where
        none_done : total (λ (h : Waits). done_at u h.done) waiting_vs ≡ 0
        none_done = omega (
          arith,
          (l own).done u,
          in-was g id v m vs s l at u n ran.0 5,
          ap (λ (p : ℕ). one_if (p == 5)) ran.1,
          total-map (λ (h : Waits). done_at u h.done) (seen waits) vs,
          total-map (λ (h : Hands). done_at u h.done) (seen own) vs,
        )
    finish-parts sights = frames g vs id v at sights s (put m (state u) n) after_finish refl
        (sights-written (λ w. m (head w)) (λ w. m (head w)) (λ w. m (task w)) (λ w. m (task w)) states states' (map (seen sights) vs) (l sights)
        (λ k w x there refers. record { later = inl refl; task_same = refl; done_same = λ is. state-other m u n w (λ e. omega (arith, is, ran.1, ap (λ (y : ℕ). phase_of (states y)) e)) }))
    finish-parts q = frames g vs id v at q s (put m (state u) n) after_finish refl (l q)
