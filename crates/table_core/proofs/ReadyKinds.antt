-- The step that makes a waiter ready keeps the rule.
use Rattle.std.proofs.Common.{◌≡◌, ◌≢◌, ◌∙◌, ◌⊎◌, inl, inr, ℕ, ◌+◌, ◌<◌, ◌≤◌, Bool, true, false, cond, ◌==◌, ◌&&◌, not, List, [], map, refl, sym, ap, subst, arith}
use Rattle.std.specs.Prelude.{slice_set, nat_le, nat_lt}
use Rattle.std.proofs.lemmas.Bool.{cases_eq, lt-ltb}
use Rattle.record_core.specs.Counting.{At, Has, one_if, times}
use Rattle.record_core.proofs.BelowFacts.{below-same}
use Rattle.record_core.proofs.TotalFacts.{total-set}
use Rattle.kt_words.specs.HeadWords.{closed_word, link_of, length_of}
use Rattle.kt_words.specs.StateWords.{phase_of, number_of, IsStateWord}
use Rattle.table_core.specs.Addresses.{Addr, Mem, super, state, refs, head, next, task, root, frame_in, units_of, put}
use Rattle.table_core.specs.Holdings.{Waiter}
use Rattle.table_core.specs.Lists.{Each}
use Rattle.table_core.specs.Story.{Story}
use Rattle.table_core.specs.Pool.{is_used, bit_in}
use Rattle.table_core.specs.References.{is_saved, is_live, is_record, Bag}
use Rattle.table_core.specs.Own.{Hands, is_own, is_in, record_words}
use Rattle.table_core.specs.WaitLists.{Waits, chained, listed, is_open, waits_at, chains_at, unclosed_at, Follows, link_to, WaitSound}
use Rattle.table_core.specs.Views.{saw}
use Rattle.table_core.specs.WaitViews.{is_waiter_at, readied}
use Rattle.table_core.specs.Parts.{Part, pool, bounds, references, fits, own, shaped, waits, sights, seen, Says, AllSay}
use Rattle.table_core.specs.declared.setup.Setup.{Setup}
use Rattle.table_core.specs.declared.view.View.{View}
use Rattle.table_core.proofs.BagFacts.{one-here, one-apart}
use Rattle.table_core.proofs.ListFacts.{at_map, each-set, each-dropped}
use Rattle.table_core.proofs.OwnFacts.{IsHand, hands-from, own-moved}
use Rattle.table_core.proofs.PoolFacts.{pool-used}
use Rattle.table_core.proofs.PoolKinds.{bounded}
use Rattle.table_core.proofs.RecordKinds.{state-here, state-other, same-test, in-moved, shaped-now, words-kept, not-made}
use Rattle.table_core.proofs.ReferenceFacts.{referred-moved}
use Rattle.table_core.proofs.Rule.{frames, moves}
use Rattle.table_core.proofs.SightFacts.{sights-written}
use Rattle.table_core.proofs.WaitFacts.{waits-counts, waiter-waits}
use Rattle.table_core.proofs.WaiterFacts.{waits-dropped}

-- 0 in either case
cond-zero : (b : Bool) → ◌≡◌ {A = ℕ} (cond b 0 0) 0
cond-zero true = refl
cond-zero false = refl

module _ (g : Setup) (id : ℕ) (v : View) where
  module _ (m : Mem) (vs : List View) (s : Story) (l : AllSay g s m vs) (at : At vs id v) (x : Waiter) (has : Has x v.waiting) (in_use : 1 ≤ v.parts) (n : ℕ) (ready : phase_of n ≡ 3)
      (numbered : number_of n ≡ x.number) (shape : IsStateWord n) where
    abbrev u : ℕ
    u = x.unit

    abbrev states : ℕ → ℕ
    states w = m (state w)

    abbrev states' : ℕ → ℕ
    states' w = put m (state u) n (state w)

    abbrev heads : ℕ → ℕ
    heads w = m (head w)

    abbrev nexts : ℕ → ℕ
    nexts w = m (next w)

    abbrev supers : ℕ → ℕ
    supers i = m (super i)

    abbrev owners : List Hands
    owners = map (seen own) vs

    abbrev bags : List Bag
    bags = map (seen references) vs

    abbrev waiting_vs : List Waits
    waiting_vs = map (seen waits) vs

    abbrev after_ready : View
    after_ready = saw (state u) (m (state u)) (readied u v)

    -- what the pass's own records are
    owner_at : At owners id (seen own v)
    owner_at = at_map (seen own) vs id v at

    -- what the pass has of waiting records
    waits_there_at : At waiting_vs id (seen waits v)
    waits_there_at = at_map (seen waits) vs id v at

    -- the record waited
    pub waited : (u < units_of g.plan) × (phase_of (states u) ≡ 2)
    waited = waiter-waits states heads nexts g.plan waiting_vs (l waits) id (seen waits v) waits_there_at u (waits-counts v.waiting x has)

    -- tests of the state that both phases pass alike
    same : (f : ℕ → Bool) → f n ≡ f (states u) → (w : ℕ) → f (states' w) ≡ f (states w)
    same = same-test g id v m vs s l at u n waited.0

    -- tests of the phase alone, too
    same-phase : (f : ℕ → Bool) → f 3 ≡ f 2 → (w : ℕ) → f (phase_of (states' w)) ≡ f (phase_of (states w))
    same-phase f alike = same (λ y. f (phase_of y)) (ap f ready ∙ alike ∙ sym (ap f waited.1))

    -- the same units have records that may be referred to
    pub recorded : (w : ℕ) → is_record (states' w) ≡ is_record (states w)
    recorded = same-phase (λ p. nat_le 2 p && nat_le p 5) refl

    -- the same records wait or are ready
    pub saved : (w : ℕ) → is_saved (states' w) ≡ is_saved (states w)
    saved = same-phase (λ p. nat_le 2 p && nat_le p 3) refl

    -- the same records live
    pub lives : (w : ℕ) → is_live (states' w) ≡ is_live (states w)
    lives = same-phase (λ p. nat_le 2 p && nat_le p 4) refl

    -- the same records are done
    pub done : (w : ℕ) → (phase_of (states' w) == 5) ≡ (phase_of (states w) == 5)
    done = same-phase (λ p. p == 5) refl

    -- the same units are in use
    used : (w : ℕ) → is_used (states' w) ≡ is_used (states w)
    used w = ap one_if (same-phase (λ p. nat_lt 0 p) refl w)

    -- the number stays
    pub number-same : (w : ℕ) → number_of (states' w) ≡ number_of (states w)
    number-same w = elim (cases_eq w u) [
      | inl e ↦ subst (λ (y : ℕ). number_of (states' y) ≡ number_of (states y)) (sym e)
          (ap number_of (state-here m u n) ∙ numbered ∙ (l waits).numbers id (seen waits v) waits_there_at has.0 x has.1)
      | inr ne ↦ ap number_of (state-other m u n w ne)
    ]

    -- words that are own to a hand stay
    words-still : (k : ℕ) (h : Hands) → At owners k h → (a : Addr) → is_own h.made h.runs a ≡ true → record_words (put m (state u) n) a ≡ record_words m a
    words-still k h there = words-kept g id v m vs s l at u n waited.0 k h there (not-made g id v m vs s l at u n waited.0 (λ e. omega (arith, e, waited.1)) k h there)

    -- as many records are in each of the phases of which hands keep account
    in-same : (phase : ℕ) → one_if (3 == phase) ≡ 0 → one_if (2 == phase) ≡ 0 → (w : ℕ) → is_in g.plan states' phase w ≡ is_in g.plan states phase w
    in-same phase not_ready not_waiting w = omega (
      arith,
      in-moved g id v m vs s l at u n waited.0 phase 0 0 (ap (λ (p : ℕ). one_if (p == phase)) ready ∙ not_ready) (ap (λ (p : ℕ). one_if (p == phase)) waited.1 ∙ not_waiting) w,
      cond-zero (u == w),
    )

    -- what is said of a hand stays
    hand-still : (k : ℕ) (h : Hands) → At owners k h → IsHand g.plan supers states (record_words m) h → IsHand g.plan supers states' (record_words (put m (state u) n)) h
    hand-still k h there was = record {
      classes = was.classes;
      run_classes = was.run_classes;
      numbers = λ j r there'. was.numbers j r there' ∙ sym (number-same r.unit);
      known = λ a k' e. let t = was.known a k' e in (words-still k h there a t.1 ∙ t.0, t.1);
    }

    -- lists are as before
    opens-same : (w : ℕ) → is_open states' heads w ≡ is_open states heads w
    opens-same w = ap (λ (b : Bool). b && not (heads w == closed_word)) (recorded w)

    -- so are their members
    pub lists-same : (w : ℕ) → listed states' heads nexts w ≡ listed states heads nexts w
    lists-same w = ap (λ (b : Bool). cond b (chained nexts (link_of (heads w)) (length_of (heads w))) []) (opens-same w)

    -- one record less waits
    waits-less : (w : ℕ) → cond (nat_lt w (units_of g.plan)) (one_if (phase_of (states' w) == 2)) 0 + one_if (u == w) ≡ cond (nat_lt w (units_of g.plan)) (one_if (phase_of (states w) == 2)) 0
    waits-less w = by (cases_eq w u)
      where
        test : (states : ℕ → ℕ) (p : ℕ) → phase_of (states u) ≡ p → cond (nat_lt u (units_of g.plan)) (one_if (phase_of (states u) == 2)) 0 ≡ one_if (p == 2)
        test states p e = ap (λ (b : Bool). cond b (one_if (phase_of (states u) == 2)) 0) (lt-ltb u (units_of g.plan) waited.0) ∙ ap (λ (q : ℕ). one_if (q == 2)) e

        by : (w ≡ u) ⊎ (w ≢ u) → cond (nat_lt w (units_of g.plan)) (one_if (phase_of (states' w) == 2)) 0 + one_if (u == w) ≡ cond (nat_lt w (units_of g.plan)) (one_if (phase_of (states w) == 2)) 0
        by (inl e) = subst (λ (y : ℕ). cond (nat_lt y (units_of g.plan)) (one_if (phase_of (states' y) == 2)) 0 + one_if (u == y) ≡ cond (nat_lt y (units_of g.plan)) (one_if (phase_of (states y) == 2)) 0) (sym e)
            (omega (arith, test states' 3 (ap phase_of (state-here m u n) ∙ ready), test states 2 waited.1, one-here u))
        by (inr ne) = omega (arith, one-apart u w (λ e. ne (sym e)), ap (λ (y : ℕ). cond (nat_lt w (units_of g.plan)) (one_if (phase_of y == 2)) 0) (state-other m u n w ne))

    abbrev hand_ready : Waits
    hand_ready = seen waits after_ready

    -- the part on lists and waiters holds once the waiter is ready
    waits-ready : WaitSound states' heads nexts g.plan (slice_set waiting_vs id hand_ready)
    waits-ready = record {
      live_open = λ w low live. opens-same w ∙ (l waits).live_open w low (sym (lives w) ∙ live);
      done_open = λ w low phase is. omega (
        arith,
        (l waits).done_open w low (was-done w phase) (sym (opens-same w) ∙ is),
        total-set (λ (y : Waits). unclosed_at w y.done) waiting_vs id (seen waits v) hand_ready waits_there_at,
      );
      done_closed = each-set _ waiting_vs id hand_ready (λ k z there j d there'. opens-same d.unit ∙ (l waits).done_closed k z there j d there')
          (λ j d there'. opens-same d.unit ∙ (l waits).done_closed id (seen waits v) waits_there_at j d there');
      once = λ w. omega (
        arith,
        (l waits).once w,
        waits-less w,
        below-same (λ z. times w (listed states' heads nexts z)) (λ z. times w (listed states heads nexts z)) (units_of g.plan) (λ z low. ap (times w) (lists-same z)),
        total-set (λ (y : Waits). waits_at w y.waiting) waiting_vs id (seen waits v) hand_ready waits_there_at,
        waits-dropped u w v.waiting x has refl,
        total-set (λ (y : Waits). chains_at w y.chains) waiting_vs id (seen waits v) hand_ready waits_there_at,
      );
      ends = λ w low is. let was = (l waits).ends w low (sym (opens-same w) ∙ is) in (
        subst (Follows nexts) (sym (lists-same w)) was.0,
        was.1 ∙ ap link_to (sym (lists-same w)),
      );
      chains = each-set _ waiting_vs id hand_ready (l waits).chains ((l waits).chains id (seen waits v) waits_there_at);
      numbers = each-set _ waiting_vs id hand_ready numbered-still (each-dropped _ (is_waiter_at u) v.waiting (numbered-still id (seen waits v) waits_there_at));
      linked = each-set _ waiting_vs id hand_ready (l waits).linked (each-dropped _ (is_waiter_at u) v.waiting ((l waits).linked id (seen waits v) waits_there_at));
    }
      where
        was-done : (w : ℕ) → phase_of (states' w) ≡ 5 → phase_of (states w) ≡ 5
        was-done w phase = by (cases_eq w u)
          where
            by : (w ≡ u) ⊎ (w ≢ u) → phase_of (states w) ≡ 5
            by (inl e) = absurd (omega (arith, phase, ap (λ (y : ℕ). phase_of (states' y)) e, ap phase_of (state-here m u n), ready))
            by (inr ne) = ap phase_of (sym (state-other m u n w ne)) ∙ phase

        numbered-still : Each (λ (y : Waits). Each (λ (z : Waiter). z.number ≡ number_of (states' z.unit)) y.waiting) waiting_vs
        numbered-still k y there j z there' = (l waits).numbers k y there j z there' ∙ sym (number-same z.unit)

    -- the rule holds once the waiter is ready
    pub ready-parts : (q : Part) → Says g q s (put m (state u) n) (map (seen q) (slice_set vs id after_ready))
    ready-parts pool = frames g vs id v at pool s (put m (state u) n) after_ready refl (pool-used g.plan supers (bit_in m) states states' (map (seen pool) vs) (l pool) used)
    ready-parts bounds = moves g vs id v at bounds s (put m (state u) n) after_ready
        (each-set _ (map (seen bounds) vs) id (seen bounds after_ready) (l bounds) (bounded (seen bounds v) _ in_use (l bounds id (seen bounds v) (at_map (seen bounds) vs id v at))))
    ready-parts references = frames g vs id v at references s (put m (state u) n) after_ready refl
        (referred-moved g.checked g.plan states states' (λ y. m (refs y)) (λ y. m (refs y)) (λ r. m (root r)) (λ r. m (root r)) (frame_in m) (frame_in m) bags bags (l references) saved lives recorded
        (λ r low is. refl) (λ y low is. refl) (λ y low is none. none) (λ y low. (l references).last y low) (λ y far. omega arith))
    ready-parts fits = frames g vs id v at fits s (put m (state u) n) after_ready refl (record { saved = λ w low is. (l fits).saved w low (sym (saved w) ∙ is); running = (l fits).running })
    ready-parts own = moves g vs id v at own s (put m (state u) n) after_ready
        (own-moved g.plan supers states states' (record_words m) (record_words (put m (state u) n)) owners id (seen own v) (seen own after_ready) owner_at (l own)
        (λ w. omega (arith, in-same 1 refl refl w)) (λ w. omega (arith, in-same 4 refl refl w)) (λ w. omega (arith, (l own).done w, in-same 5 refl refl w))
        (λ k h other there was. hand-still k h there was)
        (hand-still id (seen own v) owner_at (hands-from g.plan supers states (record_words m) owners (l own) id (seen own v) owner_at)))
    ready-parts shaped = frames g vs id v at shaped s (put m (state u) n) after_ready refl (shaped-now g id v m vs s l at u n waited.0 shape)
    ready-parts waits = moves g vs id v at waits s (put m (state u) n) after_ready waits-ready
    ready-parts sights = frames g vs id v at sights s (put m (state u) n) after_ready refl
        (sights-written heads heads (λ w. m (task w)) (λ w. m (task w)) states states' (map (seen sights) vs) (l sights)
        (λ k w y there refers. record { later = inl refl; task_same = refl; done_same = λ is. state-other m u n w (λ e. omega (arith, is, waited.1, ap (λ (z : ℕ). phase_of (states z)) e)) }))
    ready-parts q = frames g vs id v at q s (put m (state u) n) after_ready refl (l q)
