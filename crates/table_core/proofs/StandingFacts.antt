-- A record that waits stands in one place, and nothing else stands in any.
use Rattle.std.proofs.Common.{◌≡◌, ◌≢◌, ◌∙◌, ◌⊎◌, inl, inr, ℕ, zero, suc, ◌+◌, ◌<◌, ◌≤◌, ◌==◌, Bool, true, false, cond, List, [], ◌∷◌, map, refl, sym, ap, subst, arith}
use Rattle.std.specs.Prelude.{slice_get}
use Rattle.std.proofs.lemmas.Bool.{cases_eq, cases_lt, eq-eqb, eqb-true, lt-ltb}
use Rattle.record_core.specs.Sums.{total, below}
use Rattle.record_core.specs.Counting.{At, one_if, times}
use Rattle.record_core.proofs.TotalFacts.{total-map, total-member, total-two_members}
use Rattle.record_core.proofs.CountFacts.{times-some}
use Rattle.record_core.proofs.BelowFacts.{below-member}
use Rattle.kt_words.specs.StateWords.{phase_of}
use Rattle.table_core.specs.Addresses.{Mem, state, head, next, units_of}
use Rattle.table_core.specs.Holdings.{Waiter}
use Rattle.table_core.specs.WaitLists.{Waits, waits_at, chains_at, listed, stands, WaitSound}
use Rattle.table_core.specs.WaitLaws.{Standing, InList, InChain, InHand, IsInChain, IsWaiter, StandsAt, WaitersStandOnce, OnlyWaitersStand}
use Rattle.table_core.specs.Parts.{waits, seen}
use Rattle.table_core.specs.declared.setup.Setup.{Setup}
use Rattle.table_core.specs.declared.view.View.{View}
use Rattle.table_core.proofs.ListFacts.{same_some}
use Rattle.table_core.proofs.WaitFacts.{standing, waits-counts}

-- a sum that is not 0 has a member that weighs something
pub total-some : {A : Type 0} (f : A → ℕ) (l : List A) → 1 ≤ total f l → (k : ℕ) × (x : A) × At l k x × (1 ≤ f x)
total-some f [] some = absurd (omega (arith, some))
total-some f (x ∷ l) some = elim (cases_lt 0 (f x)) [
  | inl here ↦ (0, x, refl, here)
  | inr none ↦ let t = total-some f l (omega (arith, some, none)) in (suc t.0, t.1, t.2, t.3)
]

below-some : (f : ℕ → ℕ) (n : ℕ) → 1 ≤ below f n → (k : ℕ) × (k < n) × (1 ≤ f k)
below-some f zero some = absurd (omega (arith, some))
below-some f (suc n) some = elim (cases_lt 0 (f n)) [
  | inl here ↦ (n, omega arith, here)
  | inr none ↦ let t = below-some f n (omega (arith, some, none)) in (t.0, omega (arith, t.1), t.2)
]

-- two numbers below a bound weigh no more than all
below-two : (f : ℕ → ℕ) (n j k : ℕ) → j < n → k < n → j ≢ k → f j + f k ≤ below f n
below-two f zero j k low low' ne = absurd (omega (arith, low))
below-two f (suc n) j k low low' ne = by (cases_eq j n) (cases_eq k n) (λ lower lower'. below-two f n j k lower lower' ne)
  where
    under : (x : ℕ) → x < suc n → x ≢ n → x < n
    under x lower apart = elim (cases_lt x n) [ inl lt ↦ lt | inr ge ↦ absurd (apart (omega (arith, lower, ge))) ]

    by : (j ≡ n) ⊎ (j ≢ n) → (k ≡ n) ⊎ (k ≢ n) → (j < n → k < n → f j + f k ≤ below f n) → f j + f k ≤ below f n + f n
    by (inl e) (inl e') rest = absurd (ne (e ∙ sym e'))
    by (inl e) (inr a) rest = omega (arith, below-member f n k (under k low' a), ap f e)
    by (inr a) (inl e) rest = omega (arith, below-member f n j (under j low a), ap f e)
    by (inr a) (inr a') rest = omega (arith, rest (under j low a) (under k low' a'))

-- what counts passes
passes : (x : Waiter) (w : ℕ) → 1 ≤ one_if (x.unit == w) → x.unit ≡ w
passes x w some = by (x.unit == w) refl
  where
    by : (b : Bool) → (x.unit == w) ≡ b → x.unit ≡ w
    by true e = eqb-true x.unit w e
    by false e = absurd (omega (arith, some, ap one_if e))

-- two members of a list that count a number count it twice
times-two : (w : ℕ) (l : List ℕ) (j k : ℕ) → At l j w → At l k w → j ≢ k → 2 ≤ times w l
times-two w l j k at at' ne = omega (arith, total-two_members (λ (x : ℕ). one_if (x == w)) l j k w w ne at at', ap one_if (eq-eqb w w refl))

times-has : (w : ℕ) (l : List ℕ) (k : ℕ) → At l k w → 1 ≤ times w l
times-has w l k at = (times-some w l).1 (k, at)

module _ (g : Setup) (m : Mem) (vs : List View) (sound : WaitSound (λ x. m (state x)) (λ x. m (head x)) (λ x. m (next x)) g.plan (map (seen waits) vs)) (w : ℕ) where
  abbrev states : ℕ → ℕ
  states x = m (state x)

  abbrev list_at : ℕ → List ℕ
  list_at = listed states (λ x. m (head x)) (λ x. m (next x))

  -- how often it stands in lists, in hands and in chains
  abbrev in_lists : ℕ
  in_lists = below (λ u. times w (list_at u)) (units_of g.plan)

  abbrev in_hands : ℕ
  in_hands = total (λ (v : View). waits_at w v.waiting) vs

  abbrev in_chains : ℕ
  in_chains = total (λ (v : View). chains_at w v.chains) vs

  all : stands states (λ x. m (head x)) (λ x. m (next x)) g.plan (map (seen waits) vs) w ≡ in_lists + in_hands + in_chains
  all = omega (arith, total-map (λ (x : Waits). waits_at w x.waiting) (seen waits) vs, total-map (λ (x : Waits). chains_at w x.chains) (seen waits) vs)

  -- each place counts
  list-counts : (u k : ℕ) → StandsAt g m vs w (InList u k) → 1 ≤ in_lists
  list-counts u k is = omega (arith, times-has w (list_at u) k is.1, below-member (λ x. times w (list_at x)) (units_of g.plan) u is.0)

  chain-counts_there : (v : View) (c k : ℕ) → IsInChain v.chains c k w → 1 ≤ chains_at w v.chains
  chain-counts_there v c k is = omega (arith, times-has w is.members k is.there, total-member (times w) v.chains c is.members is.chain)

  chain-counts : (p c k : ℕ) → StandsAt g m vs w (InChain p c k) → 1 ≤ in_chains
  chain-counts p c k is = omega (arith, chain-counts_there is.0 c k is.2, total-member (λ (v : View). chains_at w v.chains) vs p is.0 is.1)

  hand-counts_there : (v : View) (k : ℕ) → IsWaiter v.waiting k w → 1 ≤ waits_at w v.waiting
  hand-counts_there v k is = subst (λ (x : ℕ). 1 ≤ waits_at x v.waiting) is.unit_is (waits-counts v.waiting is.waiter (k, is.there))

  hand-counts : (p k : ℕ) → StandsAt g m vs w (InHand p k) → 1 ≤ in_hands
  hand-counts p k is = omega (arith, hand-counts_there is.0 k is.2, total-member (λ (v : View). waits_at w v.waiting) vs p is.0 is.1)

  counts : (p : Standing) → StandsAt g m vs w p → 1 ≤ in_lists + in_hands + in_chains
  counts (InList u k) is = omega (arith, list-counts u k is)
  counts (InChain p c k) is = omega (arith, chain-counts p c k is)
  counts (InHand p k) is = omega (arith, hand-counts p k is)

  only-waits : (p : Standing) → StandsAt g m vs w p → (w < units_of g.plan) × (phase_of (states w) ≡ 2)
  only-waits p is = standing states (λ x. m (head x)) (λ x. m (next x)) g.plan (map (seen waits) vs) sound w (omega (arith, counts p is, all))

  module _ (near : w < units_of g.plan) (waiting : phase_of (states w) ≡ 2) where
    one : in_lists + in_hands + in_chains ≡ 1
    one = sym all ∙ sound.once w ∙ ap (λ (b : Bool). cond b (one_if (phase_of (states w) == 2)) 0) (lt-ltb w (units_of g.plan) near) ∙ ap (λ (n : ℕ). one_if (n == 2)) waiting

    -- there is a place
    place : (p : Standing) × StandsAt g m vs w p
    place = by (cases_lt 0 in_lists) (cases_lt 0 in_hands) (cases_lt 0 in_chains)
      where
        by : (0 < in_lists) ⊎ (in_lists ≤ 0) → (0 < in_hands) ⊎ (in_hands ≤ 0) → (0 < in_chains) ⊎ (in_chains ≤ 0) → (p : Standing) × StandsAt g m vs w p
        by (inl some) hands chains =
            let t = below-some (λ u. times w (list_at u)) (units_of g.plan) some in let k = (times-some w (list_at t.0)).0 t.2 in
            (InList t.0 k.0, (t.1, k.1))
        by (inr none) (inl some) chains =
            let t = total-some (λ (v : View). waits_at w v.waiting) vs some in let k = total-some (λ (x : Waiter). one_if (x.unit == w)) (t.1).waiting t.3 in
            (InHand t.0 k.0, (t.1, t.2, record { waiter = k.1; there = k.2; unit_is = passes k.1 w k.3 }))
        by (inr none) (inr none') (inl some) =
            let t = total-some (λ (v : View). chains_at w v.chains) vs some in let c = total-some (times w) (t.1).chains t.3 in let k = (times-some w c.1).0 c.3 in
            (InChain t.0 c.0 k.0, (t.1, t.2, record { members = c.1; chain = c.2; there = k.1 }))
        by (inr none) (inr none') (inr none'') = absurd (omega (arith, one, none, none', none''))

    -- places of one kind are the same
    list-one : (u k u' k' : ℕ) → StandsAt g m vs w (InList u k) → StandsAt g m vs w (InList u' k') → InList u' k' ≡ InList u k
    list-one u k u' k' is is' = by (cases_eq u' u) (cases_eq k' k)
      where
        by : (u' ≡ u) ⊎ (u' ≢ u) → (k' ≡ k) ⊎ (k' ≢ k) → InList u' k' ≡ InList u k
        by (inl e) (inl e') = λ i. InList (e i) (e' i)
        by (inl e) (inr ne) =
            absurd (omega (
              arith,
              one,
              times-two w (list_at u) k' k (subst (λ (x : ℕ). At (list_at x) k' w) e is'.1) is.1 ne,
              below-member (λ x. times w (list_at x)) (units_of g.plan) u is.0,
            ))
        by (inr ne) same = absurd (omega (
          arith,
          one,
          below-two (λ x. times w (list_at x)) (units_of g.plan) u' u is'.0 is.0 ne,
          times-has w (list_at u) k is.1,
          times-has w (list_at u') k' is'.1,
        ))

    -- a pass is one where the positions are
    one-pass : (p p' : ℕ) (v v' : View) → At vs p v → At vs p' v' → p' ≡ p → v' ≡ v
    one-pass p p' v v' at at' e = same_some v' v (sym at' ∙ ap (slice_get vs) e ∙ at)

    hand-one : (p k p' k' : ℕ) → StandsAt g m vs w (InHand p k) → StandsAt g m vs w (InHand p' k') → InHand p' k' ≡ InHand p k
    hand-one p k p' k' is is' = by (cases_eq p' p) (cases_eq k' k)
      where
        by : (p' ≡ p) ⊎ (p' ≢ p) → (k' ≡ k) ⊎ (k' ≢ k) → InHand p' k' ≡ InHand p k
        by (inl e) (inl e') = λ i. InHand (e i) (e' i)
        by (inl e) (inr ne) =
            let there : IsWaiter (is.0).waiting k' w = subst (λ (v : View). IsWaiter v.waiting k' w) (one-pass p p' is.0 is'.0 is.1 is'.1 e) is'.2 in
            absurd (omega (
              arith,
              one,
              total-two_members (λ (x : Waiter). one_if (x.unit == w)) (is.0).waiting k' k there.waiter (is.2).waiter ne there.there (is.2).there,
              ap one_if (eq-eqb (there.waiter).unit w there.unit_is),
              ap one_if (eq-eqb ((is.2).waiter).unit w (is.2).unit_is),
              total-member (λ (v : View). waits_at w v.waiting) vs p is.0 is.1,
            ))
        by (inr ne) same = absurd (omega (
          arith,
          one,
          total-two_members (λ (v : View). waits_at w v.waiting) vs p' p is'.0 is.0 ne is'.1 is.1,
          hand-counts_there is.0 k is.2,
          hand-counts_there is'.0 k' is'.2,
        ))

    chain-one : (p c k p' c' k' : ℕ) → StandsAt g m vs w (InChain p c k) → StandsAt g m vs w (InChain p' c' k') → InChain p' c' k' ≡ InChain p c k
    chain-one p c k p' c' k' is is' = by (cases_eq p' p) (cases_eq c' c) (cases_eq k' k)
      where
        its : p' ≡ p → IsInChain (is.0).chains c' k' w
        its e = subst (λ (v : View). IsInChain v.chains c' k' w) (one-pass p p' is.0 is'.0 is.1 is'.1 e) is'.2

        by : (p' ≡ p) ⊎ (p' ≢ p) → (c' ≡ c) ⊎ (c' ≢ c) → (k' ≡ k) ⊎ (k' ≢ k) → InChain p' c' k' ≡ InChain p c k
        by (inl e) (inl e') (inl e'') = λ i. InChain (e i) (e' i) (e'' i)
        by (inl e) (inl e') (inr ne) =
            let there = its e in
            let same : there.members ≡ (is.2).members = same_some there.members (is.2).members (sym there.chain ∙ ap (slice_get (is.0).chains) e' ∙ (is.2).chain) in
            absurd (omega (
              arith,
              one,
              times-two w (is.2).members k' k (subst (λ (l : List ℕ). At l k' w) same there.there) (is.2).there ne,
              total-member (times w) (is.0).chains c (is.2).members (is.2).chain,
              total-member (λ (v : View). chains_at w v.chains) vs p is.0 is.1,
            ))
        by (inl e) (inr ne) same =
            let there = its e in
            absurd (omega (
              arith,
              one,
              total-two_members (times w) (is.0).chains c' c there.members (is.2).members ne there.chain (is.2).chain,
              times-has w there.members k' there.there,
              times-has w (is.2).members k (is.2).there,
              total-member (λ (v : View). chains_at w v.chains) vs p is.0 is.1,
            ))
        by (inr ne) same same' = absurd (omega (
          arith,
          one,
          total-two_members (λ (v : View). chains_at w v.chains) vs p' p is'.0 is.0 ne is'.1 is.1,
          chain-counts_there is.0 c k is.2,
          chain-counts_there is'.0 c' k' is'.2,
        ))

    -- two places are one
    one-place : (p q : Standing) → StandsAt g m vs w p → StandsAt g m vs w q → q ≡ p
    one-place (InList u k) (InList u' k') is is' = list-one u k u' k' is is'
    one-place (InHand p k) (InHand p' k') is is' = hand-one p k p' k' is is'
    one-place (InChain p c k) (InChain p' c' k') is is' = chain-one p c k p' c' k' is is'
    one-place (InList u k) (InHand p' k') is is' = absurd (omega (arith, one, list-counts u k is, hand-counts p' k' is'))
    one-place (InList u k) (InChain p' c' k') is is' = absurd (omega (arith, one, list-counts u k is, chain-counts p' c' k' is'))
    one-place (InHand p k) (InList u' k') is is' = absurd (omega (arith, one, list-counts u' k' is', hand-counts p k is))
    one-place (InHand p k) (InChain p' c' k') is is' = absurd (omega (arith, one, chain-counts p' c' k' is', hand-counts p k is))
    one-place (InChain p c k) (InList u' k') is is' = absurd (omega (arith, one, list-counts u' k' is', chain-counts p c k is))
    one-place (InChain p c k) (InHand p' k') is is' = absurd (omega (arith, one, hand-counts p' k' is', chain-counts p c k is))

-- a record that waits stands in one place
pub waiters_stand_once : WaitersStandOnce
waiters_stand_once g m vs lawful w near waiting =
    let t = place g m vs (lawful.1 waits) w near waiting in
    (t.0, t.1, λ q is. one-place g m vs (lawful.1 waits) w near waiting t.0 q t.1 is)

-- a record that does not wait stands in none
pub only_waiters_stand : OnlyWaitersStand
only_waiters_stand g m vs lawful w p is = only-waits g m vs (lawful.1 waits) w p is
