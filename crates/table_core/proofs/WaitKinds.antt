-- Each kind of step that sees a head, links a waiter, or takes the first of a chain, keeps the rule.
use Rattle.std.proofs.Common.{◌≡◌, ◌≢◌, ◌∙◌, ◌⊎◌, inl, inr, ℕ, ◌<◌, ◌≤◌, Bool, true, cond, ◌==◌, ◌&&◌, not, List, ◌∷◌, map, refl, sym, ap, subst, arith}
use Rattle.std.specs.Prelude.{slice_set}
use Rattle.std.proofs.lemmas.Bool.{cases_eq, eq-eqb, ne_eqb}
use Rattle.record_core.specs.Counting.{At, Has, times}
use Rattle.kt_words.specs.HeadWords.{closed_word, link_of, length_of, IsHeadWord}
use Rattle.kt_words.specs.StateWords.{number_of}
use Rattle.table_core.specs.Addresses.{Addr, Mem, super, state, head, next, units_of, put}
use Rattle.table_core.specs.Lists.{Each}
use Rattle.table_core.specs.Holdings.{Waiter, SawHead}
use Rattle.table_core.specs.Story.{Story}
use Rattle.table_core.specs.Bounds.{IsBounded}
use Rattle.table_core.specs.References.{is_record}
use Rattle.table_core.specs.Own.{Hands, is_own, record_words}
use Rattle.table_core.specs.WaitLists.{link_to, Waits, waits_at, is_open}
use Rattle.table_core.specs.Views.{saw}
use Rattle.table_core.specs.WaitViews.{saw_head, linked, unchained}
use Rattle.table_core.specs.Parts.{Part, bounds, own, waits, sights, seen, Says, AllSay, Keeps}
use Rattle.table_core.specs.declared.setup.Setup.{Setup}
use Rattle.table_core.specs.declared.view.View.{View}
use Rattle.table_core.proofs.ListFacts.{at_map, each-set, each-cons}
use Rattle.table_core.proofs.Rule.{frames, moves, kept_word}
use Rattle.table_core.proofs.PoolKinds.{bounded}
use Rattle.table_core.proofs.ReferenceBound.{units-few}
use Rattle.table_core.proofs.OwnFacts.{own-written, made-phase}
use Rattle.table_core.proofs.RecordWords.{next-own, words-next}
use Rattle.table_core.proofs.SightFacts.{sighted}
use Rattle.table_core.proofs.WaitFacts.{waits-counts}
use Rattle.table_core.proofs.WaitSteps.{length-few, waiter-stands, waits-linked, chain-one, next-links, waits-unchained}

-- a next word that is written, and those of others
next-here : (m : Mem) (u n : ℕ) → put m (next u) n (next u) ≡ n
next-here m u n = ap (λ (b : Bool). cond b n (m (next u))) (eq-eqb u u refl)

next-other : (m : Mem) (u n w : ℕ) → w ≢ u → put m (next u) n (next w) ≡ m (next w)
next-other m u n w ne = ap (λ (b : Bool). cond b n (m (next w))) (ne_eqb u w (λ e. ne (sym e)))

-- what is told of a chain from u on: the next word of u links to the rest, and no other of these chains begins with u
pub record IsRest (chains : List (List ℕ)) (u word : ℕ) (rest : List ℕ) : Type 0 where
  pub there : Has (u ∷ rest) chains
  pub link_is : word ≡ link_to rest
  pub only : (other : List ℕ) → Has (u ∷ other) chains → other ≡ rest

module _ (g : Setup) (id : ℕ) (v : View) where
  module _ (m : Mem) (vs : List View) (s : Story) (l : AllSay g s m vs) (at : At vs id v) where
    abbrev states : ℕ → ℕ
    states w = m (state w)

    abbrev heads : ℕ → ℕ
    heads w = m (head w)

    abbrev nexts : ℕ → ℕ
    nexts w = m (next w)

    abbrev waiting_vs : List Waits
    waiting_vs = map (seen waits) vs

    waits_at_id : At waiting_vs id (seen waits v)
    waits_at_id = at_map (seen waits) vs id v at

    was_bounded : IsBounded (seen bounds v)
    was_bounded = l bounds id (seen bounds v) (at_map (seen bounds) vs id v at)

    bounds-kept : (w : View) → IsBounded (seen bounds w) → Each IsBounded (slice_set (map (seen bounds) vs) id (seen bounds w))
    bounds-kept w = each-set IsBounded (map (seen bounds) vs) id (seen bounds w) (l bounds)

    -- a record that the hand refers to has a head, and its list is no longer than there are units
    pub head-is : (u : ℕ) → 1 ≤ times u v.futures → IsHeadWord (heads u) × (heads u ≢ closed_word → length_of (heads u) ≤ units_of g.plan)
    head-is u has = by (cases_eq (heads u) closed_word)
      where
        refers : (u < units_of g.plan) × (is_record (states u) ≡ true)
        refers = sighted g m vs s l id (seen sights v) (at_map (seen sights) vs id v at) u has

        by : (heads u ≡ closed_word) ⊎ (heads u ≢ closed_word) → IsHeadWord (heads u) × (heads u ≢ closed_word → length_of (heads u) ≤ units_of g.plan)
        by (inl closed) = (inl closed, λ ne. absurd (ne closed))
        by (inr ne) =
            let is : is_open states heads u ≡ true = ap (λ (b : Bool). b && not (heads u == closed_word)) refers.1 ∙ ap not (ne_eqb (heads u) closed_word ne) in
            let few = length-few states heads nexts g.plan waiting_vs (l waits) u refers.0 is in
            (inr (omega (arith, few, units-few g.plan)), λ other. few)

    -- see head
    module _ (u : ℕ) (has : 1 ≤ times u v.futures) where
      abbrev after_see : View
      after_see = saw (head u) (heads u) (saw_head u (heads u) v)

      -- each part of the rule holds after a head was seen
      pub see-parts : (q : Part) → Says g q s m (map (seen q) (slice_set vs id after_see))
      see-parts sights = moves g vs id v at sights s m after_see
          (each-set _ (map (seen sights) vs) id (seen sights after_see) (l sights)
          (each-cons _ (SawHead u (heads u)) v.sights (has, inl refl) (l sights id (seen sights v) (at_map (seen sights) vs id v at))))
      see-parts q = frames g vs id v at q s m after_see refl (l q)

    -- link
    module _ (x : Waiter) (has : Has x v.waiting) (in_use : 1 ≤ v.parts) (seen_head : ℕ) where
      abbrev w : ℕ
      w = x.unit

      abbrev word : ℕ
      word = link_of seen_head

      abbrev after_link : View
      after_link = saw (next w) (nexts w) (linked w seen_head v)

      waits-here : 1 ≤ waits_at w v.waiting
      waits-here = waits-counts v.waiting x has

      not-made : (k : ℕ) (h : Hands) → At (map (seen own) vs) k h → ¬ (is_own h.made h.runs (next w) ≡ true)
      not-made k h there mine =
          let made = made-phase g.plan (λ i. m (super i)) states (record_words m) (map (seen own) vs) (l own) k h there w (next-own h.made h.runs w mine) in
          omega (arith, made.1, waiter-stands states heads nexts g.plan waiting_vs (l waits) id (seen waits v) waits_at_id w waits-here)

      -- each part of the rule holds after a waiter was linked
      pub link-parts : (q : Part) → Says g q s (put m (next w) word) (map (seen q) (slice_set vs id after_link))
      link-parts waits = moves g vs id v at waits s (put m (next w) word) after_link
          (waits-linked states heads nexts g.plan waiting_vs (l waits) id (seen waits v) waits_at_id w seen_head waits-here (λ y. put m (next w) word (next y)) (next-here m w word) (next-other m w word))
      link-parts own = frames g vs id v at own s (put m (next w) word) after_link refl
          (own-written g.plan (λ i. m (super i)) states (record_words m) (record_words (put m (next w) word)) (map (seen own) vs) (l own)
          (λ k h there a mine. words-next m w word a (λ y e same. not-made k h there (subst (λ (b : Addr). is_own h.made h.runs b ≡ true) (e ∙ ap next same) mine))))
      link-parts bounds = moves g vs id v at bounds s (put m (next w) word) after_link (bounds-kept after_link (bounded (seen bounds v) _ in_use was_bounded))
      link-parts q = frames g vs id v at q s (put m (next w) word) after_link refl (l q)

    -- unchain
    module _ (u : ℕ) (rest : List ℕ) (has : Has (u ∷ rest) v.chains) (in_use : 1 ≤ v.parts) where
      abbrev after_unchain : View
      after_unchain = saw (next u) (nexts u) (unchained u (number_of (states u)) rest v)

      -- each part of the rule holds after the first of a chain was taken
      pub unchain-parts : (q : Part) → Says g q s m (map (seen q) (slice_set vs id after_unchain))
      unchain-parts waits = moves g vs id v at waits s m after_unchain
          (waits-unchained states heads nexts g.plan waiting_vs (l waits) id (seen waits v) waits_at_id u rest has)
      unchain-parts bounds = moves g vs id v at bounds s m after_unchain (bounds-kept after_unchain (bounded (seen bounds v) _ in_use was_bounded))
      unchain-parts q = frames g vs id v at q s m after_unchain refl (l q)

  -- see head: of a record to which the hand has a reference
  pub sees-head-at : (u : ℕ) → 1 ≤ times u v.futures
      → Keeps g id v (head u) (λ n. n) (λ r w. (w ≡ saw (head u) r (saw_head u r v)) × IsHeadWord r × (r ≢ closed_word → length_of r ≤ units_of g.plan))
  sees-head-at u has m vs s l at small = (
    saw (head u) (m (head u)) (saw_head u (m (head u)) v),
    kept_word g s m (head u) (m (head u)) _ refl (see-parts m vs s l at u has),
    (refl, (head-is m vs s l at u has).0, (head-is m vs s l at u has).1),
    (refl, refl, inl refl),
  )

  -- unchain: the first of a chain of the hand
  pub unchains-at : (u : ℕ) (members : List ℕ) → Has (u ∷ members) v.chains → 1 ≤ v.parts
      → Keeps g id v (next u) (λ n. n) (λ r w. (rest : List ℕ) × (number : ℕ) × (w ≡ saw (next u) r (unchained u number rest v)) × IsRest v.chains u r rest)
  unchains-at u members has in_use m vs s l at small = (
    saw (next u) (m (next u)) (unchained u (number_of (m (state u))) members v),
    kept_word g s m (next u) (m (next u)) _ refl (unchain-parts m vs s l at u members has in_use),
    (members, number_of (m (state u)), refl, is_rest),
    (refl, refl, inl refl),
  )
    where
      waits_there : At (map (seen waits) vs) id (seen waits v)
      waits_there = at_map (seen waits) vs id v at

      is_rest : IsRest v.chains u (m (next u)) members
      is_rest = record {
        there = has;
        link_is = next-links (λ w. m (state w)) (λ w. m (head w)) (λ w. m (next w)) g.plan (map (seen waits) vs) (l waits) id (seen waits v) waits_there u members has;
        only = chain-one (λ w. m (state w)) (λ w. m (head w)) (λ w. m (next w)) g.plan (map (seen waits) vs) (l waits) id (seen waits v) waits_there u members has;
      }
