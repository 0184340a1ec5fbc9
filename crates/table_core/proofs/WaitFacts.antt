-- Where records wait, where words that the lists do not read change, and what passes have.
use Rattle.std.proofs.Common.{◌≡◌, ◌≢◌, ◌∙◌, ◌⊎◌, inl, inr, ℕ, ◌<◌, ◌≤◌, Bool, true, false, cond, ◌==◌, List, [], refl, sym, ap, subst, true≢false, arith}
use Rattle.std.specs.Prelude.{slice_set, nat_lt, not, ◌&&◌}
use Rattle.std.proofs.lemmas.Bool.{cases_eq, eq-eqb, ne_eqb, and_left, false_from_ne_true}
use Rattle.record_core.specs.Sums.{total}
use Rattle.record_core.specs.Counting.{At, Has, one_if, times}
use Rattle.record_core.proofs.TotalFacts.{total-member, total-set, total-le}
use Rattle.record_core.proofs.BelowFacts.{below-same}
use Rattle.kt_words.specs.declared.plan.Plan.{Plan}
use Rattle.kt_words.specs.StateWords.{phase_of, number_of}
use Rattle.kt_words.specs.HeadWords.{closed_word, link_of, length_of}
use Rattle.table_core.specs.Addresses.{units_of}
use Rattle.table_core.specs.Lists.{Each}
use Rattle.table_core.specs.Holdings.{Waiter, Done}
use Rattle.table_core.specs.References.{is_live, is_record}
use Rattle.table_core.specs.Own.{done_at}
use Rattle.table_core.specs.WaitLists.{chained, link_to, Follows, IsLinked, Waits, waits_at, chains_at, unclosed_at, is_open, listed, stands, WaitSound}
use Rattle.table_core.proofs.ListFacts.{total-has, each-set}
use Rattle.table_core.proofs.ClassFacts.{live-phase, record-phase}
use Rattle.table_core.proofs.OwnFacts.{in-phase}

-- a waiter of a hand counts at its unit
pub waits-counts : (l : List Waiter) (x : Waiter) → Has x l → 1 ≤ waits_at x.unit l
waits-counts l x has = omega (arith, total-has (λ (y : Waiter). one_if (y.unit == x.unit)) l x has, ap one_if (eq-eqb x.unit x.unit refl))

module _ (states heads nexts : ℕ → ℕ) where
  -- what a hand alone must keep
  pub record IsWaitHand (v : Waits) : Type 0 where
    pub done_closed : Each (λ d. is_open states heads d.unit ≡ not d.closed) v.done
    pub chains : Each (Follows nexts) v.chains
    pub numbers : Each (λ x. x.number ≡ number_of (states x.unit)) v.waiting
    pub linked : Each (λ x. IsLinked nexts x.unit x.linked) v.waiting

  -- each hand is sound where all hands are sound together
  pub wait-hands : (g : Plan) (vs : List Waits) → WaitSound states heads nexts g vs → Each IsWaitHand vs
  wait-hands g vs was k v at = record { done_closed = was.done_closed k v at; chains = was.chains k v at; numbers = was.numbers k v at; linked = was.linked k v at }

  -- what all together must keep, and each hand
  pub waits-from : (g : Plan) (vs : List Waits) → ((u : ℕ) → u < units_of g → is_live (states u) ≡ true → is_open states heads u ≡ true)
      → ((u : ℕ) → u < units_of g → phase_of (states u) ≡ 5 → is_open states heads u ≡ true → total (λ v. unclosed_at u v.done) vs ≡ 1)
      → ((w : ℕ) → stands states heads nexts g vs w ≡ cond (nat_lt w (units_of g)) (one_if (phase_of (states w) == 2)) 0)
      → ((u : ℕ) → u < units_of g → is_open states heads u ≡ true → Follows nexts (listed states heads nexts u) × (link_of (heads u) ≡ link_to (listed states heads nexts u)))
      → Each IsWaitHand vs → WaitSound states heads nexts g vs
  waits-from g vs live done once ends each = record {
    live_open = live;
    done_open = done;
    done_closed = λ k v at. (each k v at).done_closed;
    once = once;
    ends = ends;
    chains = λ k v at. (each k v at).chains;
    numbers = λ k v at. (each k v at).numbers;
    linked = λ k v at. (each k v at).linked;
  }

  -- passes that have the same together
  pub waits-same : (g : Plan) (vs vs' : List Waits) → WaitSound states heads nexts g vs → ((u : ℕ) → total (λ v. unclosed_at u v.done) vs' ≡ total (λ v. unclosed_at u v.done) vs)
      → ((w : ℕ) → total (λ v. waits_at w v.waiting) vs' ≡ total (λ v. waits_at w v.waiting) vs) → ((w : ℕ) → total (λ v. chains_at w v.chains) vs' ≡ total (λ v. chains_at w v.chains) vs)
      → Each IsWaitHand vs' → WaitSound states heads nexts g vs'
  waits-same g vs vs' was unclosed waiting chained_ones each = waits-from g vs' was.live_open (λ u near is is_one. unclosed u ∙ was.done_open u near is is_one)
      (λ w. omega (arith, was.once w, waiting w, chained_ones w)) was.ends each

  -- one hand changes, and has as many in each place
  pub waits-hand : (g : Plan) (vs : List Waits) (id : ℕ) (h h' : Waits) → At vs id h → WaitSound states heads nexts g vs → ((u : ℕ) → unclosed_at u h'.done ≡ unclosed_at u h.done)
      → ((w : ℕ) → waits_at w h'.waiting ≡ waits_at w h.waiting) → ((w : ℕ) → chains_at w h'.chains ≡ chains_at w h.chains) → IsWaitHand h' → WaitSound states heads nexts g (slice_set vs id h')
  waits-hand g vs id h h' at was unclosed waiting chained_ones here = waits-same g vs (slice_set vs id h') was
      (λ u. omega (arith, total-set (λ (x : Waits). unclosed_at u x.done) vs id h h' at, unclosed u))
      (λ w. omega (arith, total-set (λ (x : Waits). waits_at w x.waiting) vs id h h' at, waiting w))
      (λ w. omega (arith, total-set (λ (x : Waits). chains_at w x.chains) vs id h h' at, chained_ones w))
      (each-set IsWaitHand vs id h' (wait-hands g vs was) here)

  module _ (g : Plan) (vs : List Waits) (was : WaitSound states heads nexts g vs) where
    -- what stands somewhere waits
    pub standing : (w : ℕ) → 1 ≤ stands states heads nexts g vs w → (w < units_of g) × (phase_of (states w) ≡ 2)
    standing w some = in-phase g (λ i. 0) states (λ a. 0) 2 w (omega (arith, some, was.once w))

    -- a waiter of a hand is a record in range that waits
    pub waiter-waits : (k : ℕ) (v : Waits) → At vs k v → (w : ℕ) → 1 ≤ waits_at w v.waiting → (w < units_of g) × (phase_of (states w) ≡ 2)
    waiter-waits k v at w some = standing w (omega (arith, some, total-member (λ (x : Waits). waits_at w x.waiting) vs k v at))

    -- a member of a chain is a record in range that waits
    pub chain-waits : (k : ℕ) (v : Waits) → At vs k v → (w : ℕ) → 1 ≤ chains_at w v.chains → (w < units_of g) × (phase_of (states w) ≡ 2)
    chain-waits k v at w some = standing w (omega (arith, some, total-member (λ (x : Waits). chains_at w x.chains) vs k v at))

-- State words and heads change so that the same lists stand, and the same records wait.
module _ (g : Plan) (states states' heads heads' nexts : ℕ → ℕ) (vs : List Waits) (was : WaitSound states heads nexts g vs)
    (opens : (u : ℕ) → is_open states' heads' u ≡ is_open states heads u) (same_heads : (u : ℕ) → is_open states heads u ≡ true → heads' u ≡ heads u)
    (lives : (u : ℕ) → u < units_of g → is_live (states' u) ≡ true → is_live (states u) ≡ true) (done : (u : ℕ) → phase_of (states' u) ≡ 5 → phase_of (states u) ≡ 5)
    (waiting : (u : ℕ) → (phase_of (states' u) == 2) ≡ (phase_of (states u) == 2)) (numbers : (u : ℕ) → phase_of (states u) ≡ 2 → number_of (states' u) ≡ number_of (states u)) where
  listed-same : (u : ℕ) → listed states' heads' nexts u ≡ listed states heads nexts u
  listed-same u = by (is_open states heads u) refl
    where
      by : (b : Bool) → is_open states heads u ≡ b → listed states' heads' nexts u ≡ listed states heads nexts u
      by true e = ap (λ (b : Bool). cond b (chained nexts (link_of (heads' u)) (length_of (heads' u))) []) (opens u ∙ e)
          ∙ ap (λ (h : ℕ). chained nexts (link_of h) (length_of h)) (same_heads u e)
          ∙ sym (ap (λ (b : Bool). cond b (chained nexts (link_of (heads u)) (length_of (heads u))) []) e)
      by false e = ap (λ (b : Bool). cond b (chained nexts (link_of (heads' u)) (length_of (heads' u))) []) (opens u ∙ e)
          ∙ sym (ap (λ (b : Bool). cond b (chained nexts (link_of (heads u)) (length_of (heads u))) []) e)

  -- wait lists are sound still where what they read stays
  pub waits-kept : WaitSound states' heads' nexts g vs
  waits-kept = waits-from states' heads' nexts g vs
      (λ u near is. opens u ∙ was.live_open u near (lives u near is))
      (λ u near is still. was.done_open u near (done u is) (sym (opens u) ∙ still))
      (λ w. omega (
        arith,
        was.once w,
        below-same (λ u. times w (listed states' heads' nexts u)) (λ u. times w (listed states heads nexts u)) (units_of g) (λ u near. ap (times w) (listed-same u)),
        ap (λ (b : Bool). cond (nat_lt w (units_of g)) (one_if b) 0) (waiting w),
      ))
      (λ u near still.
      let before = sym (opens u) ∙ still in let t = was.ends u near before in (
        subst (Follows nexts) (sym (listed-same u)) t.0,
        ap link_of (same_heads u before) ∙ t.1 ∙ ap link_to (sym (listed-same u)),
      ))
      (λ k v at.
      let hand = wait-hands states heads nexts g vs was k v at in record {
        done_closed = λ j d there. opens d.unit ∙ hand.done_closed j d there;
        chains = hand.chains;
        numbers = λ j x there. hand.numbers j x there ∙ sym (numbers x.unit (waiter-waits states heads nexts g vs was k v at x.unit (waits-counts v.waiting x (j, there))).1);
        linked = hand.linked;
      })

-- a record that is no done one of a hand is none whose list is to be closed
pub unclosed-le : (u : ℕ) (l : List Done) → unclosed_at u l ≤ done_at u l
unclosed-le u l = total-le (λ (d : Done). cond d.closed 0 (one_if (d.unit == u))) (λ (d : Done). one_if (d.unit == u)) l (λ k d at. by d.closed (one_if (d.unit == u)))
  where
    by : (b : Bool) (n : ℕ) → cond b 0 n ≤ n
    by true n = omega arith
    by false n = omega arith

module _ (g : Plan) (states heads nexts : ℕ → ℕ) (vs : List Waits) (was : WaitSound states heads nexts g vs) (u : ℕ) where
  -- no list is read of what is no record
  pub unread : (states' heads' : ℕ → ℕ) → is_record (states' u) ≡ false → is_open states' heads' u ≡ false
  unread states' heads' none = and_left (is_record (states' u)) _ none

  -- the head of what is no record is written
  pub waits-head : (heads' : ℕ → ℕ) → ((w : ℕ) → w ≢ u → heads' w ≡ heads w) → is_record (states u) ≡ false → WaitSound states heads' nexts g vs
  waits-head heads' others none = waits-kept g states states heads heads' nexts vs was (λ w. opens w (cases_eq w u)) (λ w is. same w is (cases_eq w u))
      (λ w near is. is) (λ w is. is) (λ w. refl) (λ w is. refl)
    where
      opens : (w : ℕ) → (w ≡ u) ⊎ (w ≢ u) → is_open states heads' w ≡ is_open states heads w
      opens w (inl e) = subst (λ (x : ℕ). is_open states heads' x ≡ is_open states heads x) (sym e) (unread states heads' none ∙ sym (unread states heads none))
      opens w (inr ne) = ap (λ (h : ℕ). is_record (states w) && not (h == closed_word)) (others w ne)

      same : (w : ℕ) → is_open states heads w ≡ true → (w ≡ u) ⊎ (w ≢ u) → heads' w ≡ heads w
      same w is (inl e) = absurd (true≢false (sym (ap (is_open states heads) (sym e) ∙ is) ∙ unread states heads none))
      same w is (inr ne) = others w ne

  -- the state of a record without a list, which does not wait, is written: then it is no record
  pub waits-state : (states' : ℕ → ℕ) → ((w : ℕ) → w ≢ u → states' w ≡ states w) → is_open states heads u ≡ false → phase_of (states u) ≢ 2 → phase_of (states' u) ≤ 1
      → WaitSound states' heads nexts g vs
  waits-state states' others unlisted not_waiting low = waits-kept g states states' heads heads nexts vs was (λ w. opens w (cases_eq w u)) (λ w is. refl)
      (λ w near is. lives w is (cases_eq w u)) (λ w is. done w is (cases_eq w u)) (λ w. waiting w (cases_eq w u)) (λ w is. numbers w is (cases_eq w u))
    where
      none : is_record (states' u) ≡ false
      none = false_from_ne_true (is_record (states' u)) (λ e. omega (arith, low, record-phase (states' u) e))

      opens : (w : ℕ) → (w ≡ u) ⊎ (w ≢ u) → is_open states' heads w ≡ is_open states heads w
      opens w (inl e) = subst (λ (x : ℕ). is_open states' heads x ≡ is_open states heads x) (sym e) (unread states' heads none ∙ sym unlisted)
      opens w (inr ne) = ap (λ (x : ℕ). is_record x && not (heads w == closed_word)) (others w ne)

      lives : (w : ℕ) → is_live (states' w) ≡ true → (w ≡ u) ⊎ (w ≢ u) → is_live (states w) ≡ true
      lives w is (inl e) = absurd (omega (arith, low, live-phase (states' w) is, ap (λ (x : ℕ). phase_of (states' x)) e))
      lives w is (inr ne) = ap is_live (sym (others w ne)) ∙ is

      done : (w : ℕ) → phase_of (states' w) ≡ 5 → (w ≡ u) ⊎ (w ≢ u) → phase_of (states w) ≡ 5
      done w is (inl e) = absurd (omega (arith, low, is, ap (λ (x : ℕ). phase_of (states' x)) e))
      done w is (inr ne) = ap phase_of (sym (others w ne)) ∙ is

      waiting : (w : ℕ) → (w ≡ u) ⊎ (w ≢ u) → (phase_of (states' w) == 2) ≡ (phase_of (states w) == 2)
      waiting w (inl e) = subst (λ (x : ℕ). (phase_of (states' x) == 2) ≡ (phase_of (states x) == 2)) (sym e)
          (ne_eqb (phase_of (states' u)) 2 (λ is. omega (arith, low, is)) ∙ sym (ne_eqb (phase_of (states u)) 2 not_waiting))
      waiting w (inr ne) = ap (λ (x : ℕ). phase_of x == 2) (others w ne)

      numbers : (w : ℕ) → phase_of (states w) ≡ 2 → (w ≡ u) ⊎ (w ≢ u) → number_of (states' w) ≡ number_of (states w)
      numbers w is (inl e) = absurd (not_waiting (ap (λ (x : ℕ). phase_of (states x)) (sym e) ∙ is))
      numbers w is (inr ne) = ap number_of (others w ne)
