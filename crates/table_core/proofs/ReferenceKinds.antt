-- Each kind of step on references keeps the rule.
use Rattle.std.proofs.Common.{◌≡◌, ◌≢◌, ◌∙◌, ◌⊎◌, inl, inr, ℕ, ◌+◌, ◌-◌, ◌%◌, ◌^◌, ◌<◌, ◌≤◌, Bool, true, false, cond, ◌==◌, List, ◌∷◌, map, length, refl, sym, ap, subst, arith}
use Rattle.std.specs.Prelude.{slice_set, not}
use Rattle.std.proofs.lemmas.Bool.{cases_eq, eqb-true, eq-eqb, ne_eqb}
use Rattle.record_core.specs.Counting.{At, Has, one_if, times}
use Rattle.record_core.proofs.TotalFacts.{total-member}
use Rattle.table_core.specs.Addresses.{Addr, Mem, super, state, refs, head, next, task, root, frame_in, units_of, put}
use Rattle.table_core.specs.Lists.{Each}
use Rattle.table_core.specs.Holdings.{Done}
use Rattle.table_core.specs.Story.{Story}
use Rattle.table_core.specs.Bounds.{IsBounded}
use Rattle.table_core.specs.References.{is_record, Bag}
use Rattle.table_core.specs.Own.{Hands, done_at, is_own, record_words, OwnSound}
use Rattle.table_core.specs.WaitLists.{is_open}
use Rattle.table_core.specs.Sights.{Knows, IsKnown}
use Rattle.table_core.specs.Views.{saw}
use Rattle.table_core.specs.RecordViews.{is_at, is_done_at, referred, lessened, gave_up}
use Rattle.table_core.specs.Parts.{Part, bounds, references, own, waits, sights, seen, Says, AllSay, Keeps}
use Rattle.table_core.specs.declared.setup.Setup.{Setup}
use Rattle.table_core.specs.declared.view.View.{View}
use Rattle.record_core.proofs.CountFacts.{times-some, total-dropped}
use Rattle.table_core.proofs.ListFacts.{at_map, each-set, each-dropped, length-dropped-has}
use Rattle.table_core.proofs.Rule.{frames, moves}
use Rattle.table_core.proofs.BagFacts.{times-dropped, times-done, done-dropped, times-last, one-here, one-apart, record-from, referred-hand}
use Rattle.table_core.proofs.ReferenceBound.{refs-few}
use Rattle.table_core.proofs.ClassFacts.{record-phase}
use Rattle.table_core.proofs.OwnFacts.{hands-from, hand-kept, own-moved, own-written, made-phase, done-counts}
use Rattle.table_core.proofs.SightFacts.{known-more, known-left}
use Rattle.table_core.proofs.WaitFacts.{IsWaitHand, wait-hands, waits-hand}
use Rattle.table_core.proofs.RecordWords.{refs-own, words-refs}

-- a reference word that is written, and those of others
refs-here : (m : Mem) (u n : ℕ) → put m (refs u) n (refs u) ≡ n
refs-here m u n = ap (λ (b : Bool). cond b n (m (refs u))) (eq-eqb u u refl)

refs-other : (m : Mem) (u n w : ℕ) → w ≢ u → put m (refs u) n (refs w) ≡ m (refs w)
refs-other m u n w ne = ap (λ (b : Bool). cond b n (m (refs w))) (ne_eqb u w (λ e. ne (sym e)))

-- a word falls to 0 where it was 1
falls-to_zero : (n k : ℕ) → 1 ≤ n → k ≡ n - 1 → one_if (k == 0) ≡ cond (n == 1) 1 0
falls-to_zero n k some e = by (cases_eq n 1)
  where
    by : (n ≡ 1) ⊎ (n ≢ 1) → one_if (k == 0) ≡ cond (n == 1) 1 0
    by (inl one) = ap one_if (eq-eqb k 0 (omega (arith, e, one))) ∙ sym (ap (λ (b : Bool). cond b 1 0) (eq-eqb n 1 one))
    by (inr ne) = ap one_if (ne_eqb k 0 (λ z. ne (omega (arith, e, z, some)))) ∙ sym (ap (λ (b : Bool). cond b 1 0) (ne_eqb n 1 ne))

-- what comes to be retired is one record
last_apart : (u n x : ℕ) → x ≢ u → cond (n == 1) (one_if (u == x)) 0 ≡ 0
last_apart u n x ne = by (n == 1)
  where
    by : (b : Bool) → cond b (one_if (u == x)) 0 ≡ 0
    by true = one-apart u x (λ e. ne (sym e))
    by false = refl

last_here : (u n : ℕ) → cond (n == 1) (one_if (u == u)) 0 ≡ cond (n == 1) 1 0
last_here u n = ap (λ (k : ℕ). cond (n == 1) k 0) (one-here u)

module _ (g : Setup) (id : ℕ) (v : View) where
  module _ (m : Mem) (vs : List View) (s : Story) (l : AllSay g s m vs) (at : At vs id v) where
    abbrev states : ℕ → ℕ
    states w = m (state w)

    abbrev counts : ℕ → ℕ
    counts w = m (refs w)

    abbrev root_words : ℕ → ℕ
    root_words r = m (root r)

    abbrev heads : ℕ → ℕ
    heads w = m (head w)

    abbrev tasks : ℕ → ℕ
    tasks w = m (task w)

    abbrev known : Knows → Type 0
    known = IsKnown heads tasks states

    abbrev bags : List Bag
    bags = map (seen references) vs

    bag_at : At bags id (seen references v)
    bag_at = at_map (seen references) vs id v at

    was_bounded : IsBounded (seen bounds v)
    was_bounded = l bounds id (seen bounds v) (at_map (seen bounds) vs id v at)

    bounds-kept : (w : View) → IsBounded (seen bounds w) → Each IsBounded (slice_set (map (seen bounds) vs) id (seen bounds w))
    bounds-kept w = each-set IsBounded (map (seen bounds) vs) id (seen bounds w) (l bounds)

    -- what the hand has of a unit names a record
    is-referred : (u : ℕ) → u < units_of g.plan → 1 ≤ times u v.futures + done_at u v.done → is_record (states u) ≡ true
    is-referred u near some = record-from g.checked g.plan states counts root_words (frame_in m) bags (l references) u near
        (omega (
          arith,
          some,
          times-done u v.done,
          total-member (λ (b : Bag). times u b.futures) bags id (seen references v) bag_at,
          total-member (λ (b : Bag). times u b.done) bags id (seen references v) bag_at,
        ))

    counted-some : (u : ℕ) → u < units_of g.plan → 1 ≤ times u v.futures + done_at u v.done → 1 ≤ counts u
    counted-some u near some = omega (
      arith,
      (l references).counted u near (is-referred u near some),
      some,
      times-done u v.done,
      total-member (λ (b : Bag). times u b.futures) bags id (seen references v) bag_at,
      total-member (λ (b : Bag). times u b.done) bags id (seen references v) bag_at,
    )

    -- the reference word of a record is nobody's own
    not_made : (u : ℕ) → is_record (states u) ≡ true → (k : ℕ) (h : Hands) → At (map (seen own) vs) k h → ¬ (is_own h.made h.runs (refs u) ≡ true)
    not_made u is k h there mine =
        let made = made-phase g.plan (λ i. m (super i)) states (record_words m) (map (seen own) vs) (l own) k h there u (refs-own h.made h.runs u mine) in
        omega (arith, made.1, record-phase (states u) is)

    own-refs : (u n : ℕ) → is_record (states u) ≡ true → OwnSound g.plan (λ i. m (super i)) states (record_words (put m (refs u) n)) (map (seen own) vs)
    own-refs u n is = own-written g.plan (λ i. m (super i)) states (record_words m) (record_words (put m (refs u) n)) (map (seen own) vs) (l own)
        (λ k h there a mine. words-refs m u n a (λ w e same. not_made u is k h there (subst (λ (b : Addr). is_own h.made h.runs b ≡ true) (e ∙ ap refs same) mine)))

    -- the reference word of a record changes, and what this hand has of it
    module _ (u n : ℕ) (near : u < units_of g.plan) (is : is_record (states u) ≡ true) (some : 1 ≤ counts u) where
      refers : (w : View) → ((x : ℕ) → x ≢ u → (times x w.futures ≡ times x v.futures) × (done_at x w.done ≡ done_at x v.done) × (times x w.retiring ≡ times x v.retiring))
          → n + (times u v.futures + done_at u v.done) ≡ counts u + (times u w.futures + done_at u w.done) → times u w.retiring ≡ times u v.retiring + one_if (n == 0)
          → Says g references s (put m (refs u) n) (map (seen references) (slice_set vs id w))
      refers w others balance last = moves g vs id v at references s (put m (refs u) n) w
          (referred-hand g.checked g.plan states counts (λ x. put m (refs u) n (refs x)) root_words (frame_in m) bags id (seen references v) (seen references w) bag_at
          (l references) u near is some (refs-other m u n)
          (λ x ne. let t = others x ne in (t.0, omega (arith, t.1, times-done x w.done, times-done x v.done), t.2))
          (omega (arith, refs-here m u n, balance, times-done u w.done, times-done u v.done))
          (omega (arith, last, ap (λ (k : ℕ). one_if (k == 0)) (refs-here m u n))))

    -- more
    module _ (u n : ℕ) (near : u < units_of g.plan) (is : is_record (states u) ≡ true) (some : 1 ≤ counts u) (in_use : 1 ≤ v.parts) (room : length v.futures < 4294967296)
        (one_more : n ≡ counts u + 1) where
      abbrev after_more : View
      after_more = saw (refs u) (counts u) (referred u v)

      -- each part of the rule holds after one more reference
      pub more-parts : (q : Part) → Says g q s (put m (refs u) n) (map (seen q) (slice_set vs id after_more))
      more-parts references = refers u n near is some after_more
          (λ x ne. (omega (arith, one-apart u x (λ e. ne (sym e))), refl, refl))
          (omega (arith, one_more, one-here u)) (omega (arith, ap one_if (ne_eqb n 0 (λ z. omega (arith, z, one_more)))))
      more-parts bounds = moves g vs id v at bounds s (put m (refs u) n) after_more (bounds-kept after_more (record {
        few = omega (arith, room, was_bounded.accepted);
        accepted = was_bounded.accepted;
        single = was_bounded.single;
        spent = λ none. absurd (omega (arith, none, in_use));
      }))
      more-parts own = frames g vs id v at own s (put m (refs u) n) after_more refl (own-refs u n is)
      more-parts sights = moves g vs id v at sights s (put m (refs u) n) after_more
          (each-set known (map (seen sights) vs) id (seen sights after_more) (l sights)
          (known-more heads tasks states v.futures (u ∷ v.futures) v.sights (λ w has. omega (arith, has)) (l sights id (seen sights v) (at_map (seen sights) vs id v at))))
      more-parts q = frames g vs id v at q s (put m (refs u) n) after_more refl (l q)

    -- less
    module _ (u n : ℕ) (near : u < units_of g.plan) (has : 1 ≤ times u v.futures) (in_use : 1 ≤ v.parts) (one_less : 1 ≤ counts u → n ≡ counts u - 1) where
      abbrev after_less : View
      after_less = saw (refs u) (counts u) (lessened u (counts u) v)

      -- each part of the rule holds after one reference less
      pub less-parts : (q : Part) → Says g q s (put m (refs u) n) (map (seen q) (slice_set vs id after_less))
      less-parts references =
          let is = is-referred u near (omega (arith, has)) in let some = counted-some u near (omega (arith, has)) in
          refers u n near is some after_less
          (λ x ne. let apart = one-apart u x (λ e. ne (sym e)) in
          (omega (arith, times-dropped u x v.futures has, apart), refl, omega (arith, times-last u x (counts u) v.retiring, last_apart u (counts u) x ne)))
          (omega (arith, one_less some, some, times-dropped u u v.futures has, one-here u))
          (omega (arith, times-last u u (counts u) v.retiring, falls-to_zero (counts u) n some (one_less some), last_here u (counts u)))
      less-parts bounds = moves g vs id v at bounds s (put m (refs u) n) after_less (bounds-kept after_less (record {
        few = omega (arith, was_bounded.few, length-dropped-has (is_at u) v.futures u ((times-some u v.futures).0 has) (eq-eqb u u refl));
        accepted = was_bounded.accepted;
        single = was_bounded.single;
        spent = λ none. absurd (omega (arith, none, in_use));
      }))
      less-parts own = frames g vs id v at own s (put m (refs u) n) after_less refl (own-refs u n (is-referred u near (omega (arith, has))))
      less-parts sights = moves g vs id v at sights s (put m (refs u) n) after_less
          (each-set known (map (seen sights) vs) id (seen sights after_less) (l sights)
          (known-left heads tasks states u v.futures v.sights has (l sights id (seen sights v) (at_map (seen sights) vs id v at))))
      less-parts q = frames g vs id v at q s (put m (refs u) n) after_less refl (l q)

    -- give up, once the list of the record is closed
    module _ (u n : ℕ) (near : u < units_of g.plan) (d : Done) (has : Has d v.done) (unit_is : d.unit ≡ u) (closed : d.closed ≡ true) (in_use : 1 ≤ v.parts) (one_less : 1 ≤ counts u → n ≡ counts u - 1) where
      abbrev after_give_up : View
      after_give_up = saw (refs u) (counts u) (gave_up u (counts u) v)

      done_some : 1 ≤ times u v.futures + done_at u v.done
      done_some = omega (arith, subst (λ (w : ℕ). 1 ≤ done_at w v.done) unit_is (done-counts v.done d has))

      -- each part of the rule holds after a done record was given up
      pub give_up-parts : (q : Part) → Says g q s (put m (refs u) n) (map (seen q) (slice_set vs id after_give_up))
      give_up-parts references =
          let is = is-referred u near done_some in let some = counted-some u near done_some in
          refers u n near is some after_give_up
          (λ x ne. let apart = one-apart u x (λ e. ne (sym e)) in
          (refl, omega (arith, done-dropped u x v.done d has unit_is, apart), omega (arith, times-last u x (counts u) v.retiring, last_apart u (counts u) x ne)))
          (omega (arith, one_less some, some, done-dropped u u v.done d has unit_is, one-here u))
          (omega (arith, times-last u u (counts u) v.retiring, falls-to_zero (counts u) n some (one_less some), last_here u (counts u)))
      give_up-parts bounds = moves g vs id v at bounds s (put m (refs u) n) after_give_up (bounds-kept after_give_up (record {
        few = was_bounded.few;
        accepted = was_bounded.accepted;
        single = was_bounded.single;
        spent = λ none. absurd (omega (arith, none, in_use));
      }))
      give_up-parts own = moves g vs id v at own s (put m (refs u) n) after_give_up
          (own-moved g.plan (λ i. m (super i)) states states (record_words m) (record_words (put m (refs u) n)) (map (seen own) vs) id (seen own v) (seen own after_give_up)
          (at_map (seen own) vs id v at) (l own) (λ w. refl) (λ w. refl)
          (λ w. omega (arith, (l own).done w, done-dropped u w v.done d has unit_is))
          (λ k h other there was. hand-kept g.plan (λ i. m (super i)) states (record_words m) (record_words (put m (refs u) n)) h was (kept k h there))
          (let mine = hand-kept g.plan (λ i. m (super i)) states (record_words m) (record_words (put m (refs u) n)) (seen own v)
          (hands-from g.plan (λ i. m (super i)) states (record_words m) (map (seen own) vs) (l own) id (seen own v) (at_map (seen own) vs id v at))
          (kept id (seen own v) (at_map (seen own) vs id v at)) in
          record { classes = mine.classes; run_classes = mine.run_classes; numbers = mine.numbers; known = mine.known }))
        where
          kept : (k : ℕ) (h : Hands) → At (map (seen own) vs) k h → (a : Addr) → is_own h.made h.runs a ≡ true → record_words (put m (refs u) n) a ≡ record_words m a
          kept k h there a mine = words-refs m u n a
              (λ w e same. not_made u (is-referred u near done_some) k h there (subst (λ (b : Addr). is_own h.made h.runs b ≡ true) (e ∙ ap refs same) mine))
      give_up-parts waits = moves g vs id v at waits s (put m (refs u) n) after_give_up
          (waits-hand states heads (λ w. m (next w)) g.plan (map (seen waits) vs) id (seen waits v) (seen waits after_give_up) (at_map (seen waits) vs id v at) (l waits)
          (λ w. omega (
            arith,
            total-dropped (λ (x : Done). cond x.closed 0 (one_if (x.unit == w))) (is_done_at u) 0 v.done
                (λ k x there here. ap (λ (b : Bool). cond b 0 (one_if (x.unit == w))) (all_closed k x there (eqb-true x.unit u here)))
                (record { member = d; there = has; passes = eq-eqb d.unit u unit_is }),
          ))
          (λ w. refl) (λ w. refl)
          (record {
            done_closed = each-dropped _ (is_done_at u) v.done mine.done_closed;
            chains = mine.chains;
            numbers = mine.numbers;
            linked = mine.linked;
          }))
        where
          mine : IsWaitHand states heads (λ w. m (next w)) (seen waits v)
          mine = wait-hands states heads (λ w. m (next w)) g.plan (map (seen waits) vs) (l waits) id (seen waits v) (at_map (seen waits) vs id v at)

          -- the list of the record is closed, whichever entry is taken
          all_closed : (k : ℕ) (x : Done) → At v.done k x → x.unit ≡ u → x.closed ≡ true
          all_closed k x there e =
              let same : not x.closed ≡ false =
              sym (mine.done_closed k x there) ∙ ap (is_open states heads) (e ∙ sym unit_is) ∙ mine.done_closed has.0 d has.1 ∙ ap not closed in
              by x.closed same
            where
              by : (b : Bool) → not b ≡ false → b ≡ true
              by true e = refl
              by false e = sym e
      give_up-parts q = frames g vs id v at q s (put m (refs u) n) after_give_up refl (l q)

  -- more: a reference to a record that the hand has one to
  pub mores-at : (u : ℕ) → u < units_of g.plan → 1 ≤ v.parts → 1 ≤ times u v.futures → length v.futures < 4294967296
      → Keeps g id v (refs u) (λ n. (n + 1) % 2 ^ 64) (λ r w. w ≡ saw (refs u) r (referred u v))
  mores-at u near in_use has room m vs s l at small =
      let is = is-referred m vs s l at u near (omega (arith, has)) in (
        saw (refs u) (m (refs u)) (referred u v),
        more-parts m vs s l at u ((m (refs u) + 1) % 2 ^ 64) near is (counted-some m vs s l at u near (omega (arith, has))) in_use room
            (omega (arith, refs-few g m vs s l u near is)),
        refl,
        (refl, refl, inl refl),
      )

  -- less
  pub lessens-at : (u : ℕ) → u < units_of g.plan → 1 ≤ v.parts → 1 ≤ times u v.futures
      → Keeps g id v (refs u) (λ n. (n + (2 ^ 64 - 1)) % 2 ^ 64) (λ r w. w ≡ saw (refs u) r (lessened u r v))
  lessens-at u near in_use has m vs s l at small = (
    saw (refs u) (m (refs u)) (lessened u (m (refs u)) v),
    less-parts m vs s l at u ((m (refs u) + (2 ^ 64 - 1)) % 2 ^ 64) near has in_use (λ some. omega (arith, some, small)),
    refl,
    (refl, refl, inl refl),
  )

  -- give up, once the list of the record is closed
  pub gives-up-at : (u : ℕ) → u < units_of g.plan → 1 ≤ v.parts → (d : Done) → Has d v.done → d.unit ≡ u → d.closed ≡ true
      → Keeps g id v (refs u) (λ n. (n + (2 ^ 64 - 1)) % 2 ^ 64) (λ r w. w ≡ saw (refs u) r (gave_up u r v))
  gives-up-at u near in_use d has unit_is closed m vs s l at small = (
    saw (refs u) (m (refs u)) (gave_up u (m (refs u)) v),
    give_up-parts m vs s l at u ((m (refs u) + (2 ^ 64 - 1)) % 2 ^ 64) near d has unit_is closed in_use (λ some. omega (arith, some, small)),
    refl,
    (refl, refl, inl refl),
  )
