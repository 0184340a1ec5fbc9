-- The state word of one record says afterwards that it waits or is ready: what references, lists and frames say then.
use Rattle.std.proofs.Common.{◌≡◌, ◌≢◌, ◌∙◌, ◌⊎◌, inl, inr, ℕ, ◌+◌, ◌*◌, ◌<◌, ◌≤◌, ◌==◌, ◌&&◌, Bool, true, false, cond, not, List, [], refl, sym, ap, subst, true≢false, arith}
use Rattle.std.specs.Prelude.{slice_set, slice_index, nat_lt, nat_le, IfSome}
use Rattle.std.proofs.lemmas.Bool.{cases_eq, ne_eqb, lt-ltb}
use Rattle.record_core.specs.Sums.{below}
use Rattle.record_core.specs.Counting.{At, one_if, times}
use Rattle.record_core.proofs.BelowFacts.{below-same, below-set}
use Rattle.record_core.proofs.TotalFacts.{total-member, total-set}
use Rattle.kt_words.specs.declared.plan.Plan.{Plan}
use Rattle.kt_words.specs.Capacity.{block_units}
use Rattle.kt_words.specs.HeadWords.{closed_word, link_of, length_of}
use Rattle.kt_words.specs.StateWords.{phase_of, number_of}
use Rattle.kt_words.specs.SuperWords.{class_of}
use Rattle.task_syntax.specs.declared.program.Program.{Program}
use Rattle.task_meaning.specs.Worths.{Accepted}
use Rattle.frame_code.specs.Frames.{frame_length}
use Rattle.frame_code.specs.Names.{named}
use Rattle.table_core.specs.Addresses.{units_of}
use Rattle.table_core.specs.Holdings.{Waiter, Run}
use Rattle.table_core.specs.Lists.{Each}
use Rattle.table_core.specs.Pool.{superblock_of}
use Rattle.table_core.specs.References.{is_saved, is_live, is_record, Bag, saved_in, roots_at, IsReferred, FramesFit}
use Rattle.table_core.specs.Story.{End}
use Rattle.table_core.specs.WaitLists.{chained, link_to, Follows, IsLinked, Waits, waits_at, chains_at, unclosed_at, is_open, listed, stands, WaitSound}
use Rattle.table_core.specs.WaitViews.{new_waiter}
use Rattle.table_core.proofs.BagFacts.{one-here, one-apart}
use Rattle.table_core.proofs.ListFacts.{each-set, each-cons}
use Rattle.table_core.proofs.ReferenceFacts.{in_hands, kept_in, leaving}
use Rattle.table_core.proofs.WaitFacts.{waits-counts}
use Rattle.table_core.proofs.WaitSteps.{stands-once, waiter-stands}
use Rattle.schedule_rule.specs.Calls.{after_of, IsComplete}
use Rattle.schedule_rule.specs.Numbers.{in_state, saved_at, done_with, is_begun, BegunSound}
use Rattle.schedule_rule.specs.Results.{SaysOutcome, ResultsSound}
use Rattle.schedule_rule.proofs.StateFacts.{begun-phase}
use Rattle.schedule_rule.specs.PlacingViews.{waiting_with, phase_placed}
use Rattle.schedule_rule.proofs.PlacingFacts.{waits-with}

-- The state word of the record at u is written: it waits or is ready, and was made or ran before.
pub record IsPlaced (g : Plan) (states states' : ℕ → ℕ) (waits fresh : Bool) (u number : ℕ) : Type 0 where
  pub near : u < units_of g
  pub was : phase_of (states u) ≡ cond fresh 1 4
  pub phase : phase_of (states' u) ≡ phase_placed waits
  pub number_is : number_of (states' u) ≡ number
  pub others : (w : ℕ) → w ≢ u → states' w ≡ states w

module _ (g : Plan) (states states' : ℕ → ℕ) (waits fresh : Bool) (u number : ℕ) (is : IsPlaced g states states' waits fresh u number) where
  -- a test of the phase, before and afterwards
  before : (f : ℕ → Bool) (b : Bool) → f 1 ≡ b → f 4 ≡ b → f (phase_of (states u)) ≡ b
  before f b one four = by fresh is.was
    where
      by : (c : Bool) → phase_of (states u) ≡ cond c 1 4 → f (phase_of (states u)) ≡ b
      by true e = ap f e ∙ one
      by false e = ap f e ∙ four

  -- a test of the phase that both new phases pass alike
  after : (f : ℕ → Bool) (b : Bool) → f 2 ≡ b → f 3 ≡ b → f (phase_of (states' u)) ≡ b
  after f b two three = by waits is.phase
    where
      by : (c : Bool) → phase_of (states' u) ≡ cond c 2 3 → f (phase_of (states' u)) ≡ b
      by true e = ap f e ∙ two
      by false e = ap f e ∙ three

  -- it was not saved
  pub not-saved : is_saved (states u) ≡ false
  not-saved = before (λ p. nat_le 2 p && nat_le p 3) false refl refl

  -- it is saved
  pub now-saved : is_saved (states' u) ≡ true
  now-saved = after (λ p. nat_le 2 p && nat_le p 3) true refl refl

  -- it lives
  pub now-live : is_live (states' u) ≡ true
  now-live = after (λ p. nat_le 2 p && nat_le p 4) true refl refl

  -- it is a record
  pub now-record : is_record (states' u) ≡ true
  now-record = after (λ p. nat_le 2 p && nat_le p 5) true refl refl

  -- it lived where it ran
  pub was-live : is_live (states u) ≡ not fresh
  was-live = by fresh is.was
    where
      by : (c : Bool) → phase_of (states u) ≡ cond c 1 4 → is_live (states u) ≡ not c
      by true e = ap (λ p. nat_le 2 p && nat_le p 4) e
      by false e = ap (λ p. nat_le 2 p && nat_le p 4) e

  -- it was a record where it ran
  pub was-record : is_record (states u) ≡ not fresh
  was-record = by fresh is.was
    where
      by : (c : Bool) → phase_of (states u) ≡ cond c 1 4 → is_record (states u) ≡ not c
      by true e = ap (λ p. nat_le 2 p && nat_le p 5) e
      by false e = ap (λ p. nat_le 2 p && nat_le p 5) e

  -- it was in use, and is in use
  pub used-same : (w : ℕ) → nat_lt 0 (phase_of (states' w)) ≡ nat_lt 0 (phase_of (states w))
  used-same w = elim (cases_eq w u) [
    | inl e ↦ subst (λ (x : ℕ). nat_lt 0 (phase_of (states' x)) ≡ nat_lt 0 (phase_of (states x))) (sym e) (after (nat_lt 0) true refl refl ∙ sym (before (nat_lt 0) true refl refl))
    | inr ne ↦ ap (λ (x : ℕ). nat_lt 0 (phase_of x)) (is.others w ne)
  ]

  -- it is not done
  pub not-done : phase_of (states u) ≢ 5
  not-done e = by fresh is.was
    where
      by : (c : Bool) → phase_of (states u) ≡ cond c 1 4 → ⊥
      by true one = omega (arith, e, one)
      by false four = omega (arith, e, four)

  -- it is not done afterwards either
  pub now-not_done : phase_of (states' u) ≢ 5
  now-not_done e = by waits is.phase
    where
      by : (c : Bool) → phase_of (states' u) ≡ cond c 2 3 → ⊥
      by true two = omega (arith, e, two)
      by false three = omega (arith, e, three)

  -- it did not wait
  pub not-waiting : phase_of (states u) ≢ 2
  not-waiting e = by fresh is.was
    where
      by : (c : Bool) → phase_of (states u) ≡ cond c 1 4 → ⊥
      by true one = omega (arith, e, one)
      by false four = omega (arith, e, four)

  -- what is said of a record is said of this one, and of each that was one
  pub by-unit : (P : ℕ → ℕ → Type 0) (test : ℕ → Bool) → P u (states' u) → ((w : ℕ) → w < units_of g → test (states w) ≡ true → P w (states w)) → (w : ℕ) → w < units_of g → test (states' w) ≡ true → P w (states' w)
  by-unit P test here was w near it = elim (cases_eq w u) [
    | inl e ↦ subst (λ (x : ℕ). P x (states' x)) (sym e) here
    | inr ne ↦ subst (P w) (sym (is.others w ne)) (was w near (ap test (sym (is.others w ne)) ∙ it))
  ]

  -- sums over units, of which this one counts afterwards
  more-below : (f f' : ℕ → ℕ) (k : ℕ) → ((w : ℕ) → w ≢ u → f' w ≡ f w) → f u ≡ 0 → f' u ≡ k → below f' (units_of g) ≡ below f (units_of g) + k
  more-below f f' k same none some = omega (arith, below-set f f' (units_of g) u is.near (λ w low ne. same w ne), none, some)

  -- its number stands in one state word more
  pub in-state-more : (k : ℕ) → below (in_state states' k) (units_of g) ≡ below (in_state states k) (units_of g) + one_if (number == k)
  in-state-more k = more-below (in_state states k) (in_state states' k) (one_if (number == k)) (λ w ne. ap (λ (x : ℕ). cond (is_saved x) (one_if (number_of x == k)) 0) (is.others w ne))
      (ap (λ (b : Bool). cond b (one_if (number_of (states u) == k)) 0) not-saved)
      (ap (λ (b : Bool). cond b (one_if (number_of (states' u) == k)) 0) now-saved ∙ ap (λ (x : ℕ). one_if (x == k)) is.number_is)

  -- its task stands in one saved record more
  pub saved-more : (tasks : ℕ → ℕ) (t : ℕ) → below (saved_at states' tasks t) (units_of g) ≡ below (saved_at states tasks t) (units_of g) + one_if (tasks u == t)
  saved-more tasks t = more-below (saved_at states tasks t) (saved_at states' tasks t) (one_if (tasks u == t)) (λ w ne. ap (λ (x : ℕ). cond (is_saved x) (one_if (tasks w == t)) 0) (is.others w ne))
      (ap (λ (b : Bool). cond b (one_if (tasks u == t)) 0) not-saved) (ap (λ (b : Bool). cond b (one_if (tasks u == t)) 0) now-saved)

  -- done records are of the same tasks
  pub done-same : (tasks : ℕ → ℕ) (t : ℕ) → below (done_with states' tasks t) (units_of g) ≡ below (done_with states tasks t) (units_of g)
  done-same tasks t = omega (
    arith,
    more-below (done_with states tasks t) (done_with states' tasks t) 0 (λ w ne. ap (λ (x : ℕ). cond (phase_of x == 5) (one_if (tasks w == t)) 0) (is.others w ne))
        (ap (λ (b : Bool). cond b (one_if (tasks u == t)) 0) (ne_eqb (phase_of (states u)) 5 not-done)) (ap (λ (b : Bool). cond b (one_if (tasks u == t)) 0) (ne_eqb (phase_of (states' u)) 5 now-not_done)),
  )

  -- one record more lives, where it was made
  pub live-more : below (λ w. one_if (is_live (states' w))) (units_of g) ≡ below (λ w. one_if (is_live (states w))) (units_of g) + cond fresh 1 0
  live-more = by fresh was-live
    where
      by : (c : Bool) → is_live (states u) ≡ not c → below (λ w. one_if (is_live (states' w))) (units_of g) ≡ below (λ w. one_if (is_live (states w))) (units_of g) + cond c 1 0
      by true e = more-below (λ w. one_if (is_live (states w))) (λ w. one_if (is_live (states' w))) 1 (λ w ne. ap (λ (x : ℕ). one_if (is_live x)) (is.others w ne)) (ap one_if e) (ap one_if now-live)
      by false e = omega (arith, below-same (λ w. one_if (is_live (states' w))) (λ w. one_if (is_live (states w))) (units_of g) (λ w low. same w (cases_eq w u)))
        where
          same : (w : ℕ) → (w ≡ u) ⊎ (w ≢ u) → one_if (is_live (states' w)) ≡ one_if (is_live (states w))
          same w (inl here) = subst (λ (x : ℕ). one_if (is_live (states' x)) ≡ one_if (is_live (states x))) (sym here) (ap one_if (now-live ∙ sym e))
          same w (inr ne) = ap (λ (x : ℕ). one_if (is_live x)) (is.others w ne)

  -- what waits is another record
  pub waits-other : (w : ℕ) → is_saved (states w) ≡ true → w ≢ u
  waits-other w it e = true≢false (sym it ∙ ap (λ (x : ℕ). is_saved (states x)) e ∙ not-saved)

  -- done records say what they said
  pub results-placed : (ends : List End) (tasks results : ℕ → ℕ) → ResultsSound g ends states tasks results → ResultsSound g ends states' tasks results
  results-placed ends tasks results was w near done =
      let same = is.others w (λ e. now-not_done (ap (λ (x : ℕ). phase_of (states' x)) (sym e) ∙ done)) in
      let t = was w near (ap phase_of (sym same) ∙ done) in
      (t.0, t.1, subst (λ (x : ℕ). SaysOutcome x (results w) t.0) (sym same) t.2)

  -- what is ready may be so
  pub begun-placed : (calls : List Accepted) (ends : List End) → (waits ≡ false → IfSome (after_of calls number) (IsComplete ends)) → BegunSound g calls ends states → BegunSound g calls ends states'
  begun-placed calls ends starts was w near it = elim (cases_eq w u) [
    | inl e ↦ subst (λ (x : ℕ). IfSome (after_of calls (number_of (states' x))) (IsComplete ends)) (sym e)
        (subst (λ (k : ℕ). IfSome (after_of calls k) (IsComplete ends)) (sym is.number_is) (starts (ready waits refl (begun-phase (states' w) it).0 e)))
    | inr ne ↦ subst (λ (x : ℕ). IfSome (after_of calls (number_of x)) (IsComplete ends)) (sym (is.others w ne)) (was w near (ap is_begun (sym (is.others w ne)) ∙ it))
  ]
    where
      ready : (c : Bool) → waits ≡ c → 3 ≤ phase_of (states' w) → w ≡ u → c ≡ false
      ready true same high e = absurd (omega (arith, high, ap (λ (x : ℕ). phase_of (states' x)) e, is.phase ∙ ap phase_placed same))
      ready false same high e = refl

  -- a record that is saved afterwards is this one, or was saved before
  pub saved-cases : (w : ℕ) → is_saved (states' w) ≡ true → (w ≡ u) ⊎ ((w ≢ u) × (is_saved (states w) ≡ true))
  saved-cases w it = elim (cases_eq w u) [
    | inl e ↦ inl e
    | inr ne ↦ inr (ne, ap is_saved (sym (is.others w ne)) ∙ it)
  ]

  module _ (p : Program) (counts roots : ℕ → ℕ) (frames : ℕ → ℕ → ℕ) (bags : List Bag) (id : ℕ) (b b' : Bag) (at : At bags id b) where
    abbrev taken : List ℕ
    taken = named p (frames u)

    abbrev bags' : List Bag
    bags' = slice_set bags id b'

    -- The frame of the record takes the references that it names, and a new record comes with one reference in the hand.
    pub referred-placed : IsReferred p states counts roots frames g bags → b'.done ≡ b.done → b'.retiring ≡ b.retiring
        → ((w : ℕ) → times w b'.futures + times w taken ≡ times w b.futures + cond fresh (one_if (u == w)) 0) → ((w : ℕ) → times w taken ≤ times w b.futures)
        → (fresh ≡ true → counts u ≡ 2) → IsReferred p states' counts roots frames g bags'
    referred-placed sound same_done same_retiring balance held two = record {
      counted = λ w near it. counted w near it (cases_eq w u);
      unnamed = λ w near it. unnamed w near it (cases_eq w u);
      last = λ w near. last w near (cases_eq w u);
      inside = λ w far. let ne = apart w far in
          omega (arith, sound.inside w far, saved-more w, hands-more w, kept-same w, leaving-same w, live-other w ne, held w, new-other w ne);
    }
      where
        saved-more : (w : ℕ) → below (saved_in p states' counts roots frames w) (units_of g) ≡ below (saved_in p states counts roots frames w) (units_of g) + times w taken
        saved-more w = omega (
          arith,
          below-set (saved_in p states counts roots frames w) (saved_in p states' counts roots frames w) (units_of g) u is.near (λ x low ne. ap (λ (n : ℕ). cond (is_saved n) (times w (named p (frames x))) 0) (is.others x ne)),
          ap (λ (c : Bool). cond c (times w (named p (frames u))) 0) not-saved,
          ap (λ (c : Bool). cond c (times w (named p (frames u))) 0) now-saved,
        )

        hands-more : (w : ℕ) → in_hands bags' w + times w b.futures ≡ in_hands bags w + times w b'.futures
        hands-more w = total-set (λ (x : Bag). times w x.futures) bags id b b' at

        hand-in : (w : ℕ) → times w b.futures ≤ in_hands bags w
        hand-in w = total-member (λ (x : Bag). times w x.futures) bags id b at

        kept-same : (w : ℕ) → kept_in bags' w ≡ kept_in bags w
        kept-same w = omega (arith, total-set (λ (x : Bag). times w x.done) bags id b b' at, ap (times w) same_done)

        leaving-same : (w : ℕ) → leaving bags' w ≡ leaving bags w
        leaving-same w = omega (arith, total-set (λ (x : Bag). times w x.retiring) bags id b b' at, ap (times w) same_retiring)

        live-other : (w : ℕ) → w ≢ u → one_if (is_live (states' w)) ≡ one_if (is_live (states w))
        live-other w ne = ap (λ (n : ℕ). one_if (is_live n)) (is.others w ne)

        new-other : (w : ℕ) → w ≢ u → cond fresh (one_if (u == w)) 0 ≡ 0
        new-other w ne = by fresh
          where
            by : (c : Bool) → cond c (one_if (u == w)) 0 ≡ 0
            by true = one-apart u w (λ e. ne (sym e))
            by false = refl

        apart : (w : ℕ) → units_of g ≤ w → w ≢ u
        apart w far e = omega (arith, far, is.near, e)

        record-other : (w : ℕ) → w ≢ u → is_record (states' w) ≡ is_record (states w)
        record-other w ne = ap is_record (is.others w ne)

        Counted : ℕ → Type 0
        Counted w = counts w ≡ roots_at p states' counts roots frames w + below (saved_in p states' counts roots frames w) (units_of g) + in_hands bags' w + (one_if (is_live (states' w)) + kept_in bags' w)

        here : (c : Bool) → fresh ≡ c → Counted u
        here true e =
            let none = sound.unnamed u is.near (was-record ∙ ap not e) in
            omega (
              arith,
              none,
              two e,
              saved-more u,
              hands-more u,
              hand-in u,
              kept-same u,
              balance u,
              held u,
              ap one_if now-live,
              ap (λ (d : Bool). cond d (one_if (u == u)) 0) e,
              one-here u,
            )
        here false e = omega (
          arith,
          sound.counted u is.near (was-record ∙ ap not e),
          saved-more u,
          hands-more u,
          kept-same u,
          balance u,
          ap one_if now-live,
          ap one_if (was-live ∙ ap not e),
          ap (λ (d : Bool). cond d (one_if (u == u)) 0) e,
        )

        counted : (w : ℕ) → w < units_of g → is_record (states' w) ≡ true → (w ≡ u) ⊎ (w ≢ u) → Counted w
        counted w near it (inl e) = subst Counted (sym e) (here fresh refl)
        counted w near it (inr ne) = omega (arith, sound.counted w near (sym (record-other w ne) ∙ it), saved-more w, hands-more w, kept-same w, balance w, live-other w ne, new-other w ne)

        unnamed : (w : ℕ) → w < units_of g → is_record (states' w) ≡ false → (w ≡ u) ⊎ (w ≢ u)
            → roots_at p states' counts roots frames w + below (saved_in p states' counts roots frames w) (units_of g) + in_hands bags' w + (one_if (is_live (states' w)) + kept_in bags' w) ≡ 0
        unnamed w near it (inl e) = absurd (true≢false (sym (ap (λ (x : ℕ). is_record (states' x)) e ∙ now-record) ∙ it))
        unnamed w near it (inr ne) =
            omega (arith, sound.unnamed w near (sym (record-other w ne) ∙ it), saved-more w, hands-more w, hand-in w, kept-same w, balance w, held w, live-other w ne, new-other w ne)

        last-here : (c : Bool) → fresh ≡ c → leaving bags' u ≡ one_if (counts u == 0)
        last-here true e = leaving-same u ∙ sound.last u is.near ∙ ap (λ (d : Bool). cond d (one_if (counts u == 0)) 0) (was-record ∙ ap not e) ∙ sym (ap (λ (n : ℕ). one_if (n == 0)) (two e))
        last-here false e = leaving-same u ∙ sound.last u is.near ∙ ap (λ (d : Bool). cond d (one_if (counts u == 0)) 0) (was-record ∙ ap not e)

        last : (w : ℕ) → w < units_of g → (w ≡ u) ⊎ (w ≢ u) → leaving bags' w ≡ cond (is_record (states' w)) (one_if (counts w == 0)) 0
        last w near (inl e) = subst (λ (x : ℕ). leaving bags' x ≡ cond (is_record (states' x)) (one_if (counts x == 0)) 0) (sym e)
            (last-here fresh refl ∙ sym (ap (λ (d : Bool). cond d (one_if (counts u == 0)) 0) now-record))
        last w near (inr ne) = leaving-same w ∙ sound.last w near ∙ sym (ap (λ (d : Bool). cond d (one_if (counts w == 0)) 0) (record-other w ne))

  -- its frame fits into its block
  pub fits-placed : (p : Program) (supers : ℕ → ℕ) (frames : ℕ → ℕ → ℕ) (vs vs' : List (List Run)) → FramesFit p g states supers frames vs
      → frame_length p (frames u 0) ≤ 8 * block_units (class_of (supers (superblock_of g u)))
      → Each (Each (λ (r : Run). frame_length p (slice_index r.words 0) ≤ 8 * block_units r.class)) vs' → FramesFit p g states' supers frames vs'
  fits-placed p supers frames vs vs' was here running = record {
    saved = λ w near it. elim (saved-cases w it) [
      | inl e ↦ subst (λ (x : ℕ). frame_length p (frames x 0) ≤ 8 * block_units (class_of (supers (superblock_of g x)))) (sym e) here
      | inr t ↦ was.saved w near t.1
    ];
    running = running;
  }

  -- where its own list has the members that it had, all lists have
  pub lists-placed : (heads nexts : ℕ → ℕ) → listed states' heads nexts u ≡ listed states heads nexts u → (w : ℕ) → listed states' heads nexts w ≡ listed states heads nexts w
  lists-placed heads nexts same w = elim (cases_eq w u) [
    | inl e ↦ subst (λ (x : ℕ). listed states' heads nexts x ≡ listed states heads nexts x) (sym e) same
    | inr ne ↦ ap (λ (n : ℕ). cond (is_record n && not (heads w == closed_word)) (chained nexts (link_of (heads w)) (length_of (heads w))) []) (is.others w ne)
  ]

  -- the lists, where the record's own list stays as it was and is open then
  module _ (heads nexts : ℕ → ℕ) (vs : List Waits) (sound : WaitSound states heads nexts g vs) (id : ℕ) (h : Waits) (at : At vs id h) (opens : is_open states' heads u ≡ true)
      (list_same : listed states' heads nexts u ≡ listed states heads nexts u) (ends_so : Follows nexts (listed states heads nexts u) × (link_of (heads u) ≡ link_to (listed states heads nexts u)))
      (done_apart : (k : ℕ) (v : Waits) → At vs k v → Each (λ d. d.unit ≢ u) v.done) where
    abbrev hand_placed : Waits
    hand_placed = record h { waiting = waiting_with waits u number h.waiting }

    abbrev vs' : List Waits
    vs' = slice_set vs id hand_placed

    -- other lists are open as they were
    open-other : (w : ℕ) → w ≢ u → is_open states' heads w ≡ is_open states heads w
    open-other w ne = ap (λ (n : ℕ). is_record n && not (heads w == closed_word)) (is.others w ne)

    -- all lists have the members that they had
    pub lists-same : (w : ℕ) → listed states' heads nexts w ≡ listed states heads nexts w
    lists-same = lists-placed heads nexts list_same

    -- the record stood nowhere
    stood-nowhere : stands states heads nexts g vs u ≡ 0
    stood-nowhere = by (cases_eq (stands states heads nexts g vs u) 0)
      where
        by : (stands states heads nexts g vs u ≡ 0) ⊎ (stands states heads nexts g vs u ≢ 0) → stands states heads nexts g vs u ≡ 0
        by (inl e) = e
        by (inr ne) = absurd (not-waiting (stands-once states heads nexts g vs sound u (omega (arith, ne))).1)

    -- a waiter is another record
    waiter-other : (k : ℕ) (z : Waits) → At vs k z → (j : ℕ) (x : Waiter) → At z.waiting j x → x.unit ≢ u
    waiter-other k z there j x there' e =
        let t = waiter-stands states heads nexts g vs sound k z there x.unit (waits-counts z.waiting x (j, there')) in
        not-waiting (ap (λ (y : ℕ). phase_of (states y)) (sym e) ∙ t.1)

    -- waiters have the numbers of their state words
    waiters-numbered : Each (λ (v : Waits). Each (λ (x : Waiter). x.number ≡ number_of (states' x.unit)) v.waiting) vs
    waiters-numbered k z there j x there' = sound.numbers k z there j x there' ∙ ap number_of (sym (is.others x.unit (waiter-other k z there j x there')))

    -- what holds of waiters holds of the new one too
    each-with : (P : Waiter → Type 0) → P (new_waiter u number) → Each P h.waiting → Each P (waiting_with waits u number h.waiting)
    each-with P new all = by waits
      where
        by : (c : Bool) → Each P (waiting_with c u number h.waiting)
        by true = each-cons P (new_waiter u number) h.waiting new all
        by false = all

    -- it waits where that is what the step stores
    waits-now : (c : Bool) → waits ≡ c → one_if (phase_of (states' u) == 2) ≡ cond waits 1 0
    waits-now true e = ap (λ (n : ℕ). one_if (n == 2)) (is.phase ∙ ap phase_placed e) ∙ sym (ap (λ (d : Bool). cond d 1 0) e)
    waits-now false e = ap (λ (n : ℕ). one_if (n == 2)) (is.phase ∙ ap phase_placed e) ∙ sym (ap (λ (d : Bool). cond d 1 0) e)

    -- it stands in the hand where it waits, and others stand where they stood
    stands-more : (w : ℕ) → stands states' heads nexts g vs' w ≡ stands states heads nexts g vs w + cond waits (one_if (u == w)) 0
    stands-more w = omega (
      arith,
      below-same (λ z. times w (listed states' heads nexts z)) (λ z. times w (listed states heads nexts z)) (units_of g) (λ z low. ap (times w) (lists-same z)),
      total-set (λ (v : Waits). waits_at w v.waiting) vs id h hand_placed at,
      waits-with waits u number w h.waiting,
      total-set (λ (v : Waits). chains_at w v.chains) vs id h hand_placed at,
    )

    -- so it stands once where it waits, and else nowhere
    once-here : stands states' heads nexts g vs' u ≡ cond (nat_lt u (units_of g)) (one_if (phase_of (states' u) == 2)) 0
    once-here = omega (
      arith,
      stands-more u,
      stood-nowhere,
      ap (λ (n : ℕ). cond waits n 0) (one-here u),
      waits-now waits refl,
      ap (λ (b : Bool). cond b (one_if (phase_of (states' u) == 2)) 0) (lt-ltb u (units_of g) is.near),
    )

    -- no other record stands anywhere more
    none-more : (w : ℕ) → w ≢ u → cond waits (one_if (u == w)) 0 ≡ 0
    none-more w ne = by waits
      where
        by : (c : Bool) → cond c (one_if (u == w)) 0 ≡ 0
        by true = one-apart u w (λ e. ne (sym e))
        by false = refl

    -- what is said of records that wait is so
    pub waits-placed : WaitSound states' heads nexts g vs'
    waits-placed = record {
      live_open = λ w near live. elim (cases_eq w u) [
        | inl e ↦ subst (λ (x : ℕ). is_open states' heads x ≡ true) (sym e) opens
        | inr ne ↦ open-other w ne ∙ sound.live_open w near (ap is_live (sym (is.others w ne)) ∙ live)
      ];
      done_open = λ w near phase it. let ne : w ≢ u = λ e. now-not_done (ap (λ (x : ℕ). phase_of (states' x)) (sym e) ∙ phase) in
          omega (
            arith,
            sound.done_open w near (ap phase_of (sym (is.others w ne)) ∙ phase) (sym (open-other w ne) ∙ it),
            total-set (λ (v : Waits). unclosed_at w v.done) vs id h hand_placed at,
          );
      done_closed = each-set _ vs id hand_placed (λ k v there j d there'. open-other d.unit (done_apart k v there j d there') ∙ sound.done_closed k v there j d there')
          (λ j d there'. open-other d.unit (done_apart id h at j d there') ∙ sound.done_closed id h at j d there');
      once = λ w. elim (cases_eq w u) [
        | inl e ↦ subst (λ (x : ℕ). stands states' heads nexts g vs' x ≡ cond (nat_lt x (units_of g)) (one_if (phase_of (states' x) == 2)) 0) (sym e) once-here
        | inr ne ↦ omega (arith, stands-more w, none-more w ne, sound.once w, ap (λ (x : ℕ). cond (nat_lt w (units_of g)) (one_if (phase_of x == 2)) 0) (is.others w ne))
      ];
      ends = λ w near it. elim (cases_eq w u) [
        | inl e ↦ subst (λ (x : ℕ). Follows nexts (listed states' heads nexts x) × (link_of (heads x) ≡ link_to (listed states' heads nexts x))) (sym e) (
          subst (Follows nexts) (sym list_same) ends_so.0,
          ends_so.1 ∙ ap link_to (sym list_same),
        )
        | inr ne ↦ let was = sound.ends w near (sym (open-other w ne) ∙ it) in (subst (Follows nexts) (sym (lists-same w)) was.0, was.1 ∙ ap link_to (sym (lists-same w)))
      ];
      chains = each-set _ vs id hand_placed sound.chains (sound.chains id h at);
      numbers = each-set _ vs id hand_placed waiters-numbered (each-with (λ (x : Waiter). x.number ≡ number_of (states' x.unit)) (sym is.number_is) (waiters-numbered id h at));
      linked = each-set _ vs id hand_placed sound.linked (each-with (λ (x : Waiter). IsLinked nexts x.unit x.linked) tt (sound.linked id h at));
    }
