-- A head is seen, a waiter linked and pushed onto a list, and the scheduler's rule is kept: who joins a list is behind its record's
-- task, and where the list is closed that task is over.
use Rattle.std.proofs.Common.{◌≡◌, ◌≢◌, ◌∙◌, ◌⊎◌, inl, inr, ℕ, zero, suc, ◌+◌, ◌<◌, ◌≤◌, ◌==◌, ◌&&◌, Bool, true, false, cond, not, Some, List, [], ◌∷◌, map, refl, sym, ap, subst, true≢false, arith}
use prog.Atomic.{either}
use Rattle.std.specs.Prelude.{slice_set}
use Rattle.std.proofs.lemmas.Bool.{cases_eq, cases_lt, eq-eqb, ne_eqb, le-leb, and_from}
use Rattle.atomic_table.proofs.Lists.{exchanged}
use Rattle.record_core.specs.Counting.{At, Has, times}
use Rattle.kt_words.specs.HeadWords.{closed_word, head_word, link_of, length_of, IsHeadWord}
use Rattle.kt_words.specs.StateWords.{phase_of, number_of}
use Rattle.table_core.specs.Addresses.{Mem, state, head, next, task, put, units_of}
use Rattle.table_core.specs.Holdings.{Waiter, SawHead, SawTask}
use Rattle.table_core.specs.Lists.{Each}
use Rattle.table_core.specs.Parts.{waits, sights, seen as table_seen}
use Rattle.table_core.specs.References.{is_live, is_record}
use Rattle.table_core.specs.Sights.{IsLater}
use Rattle.table_core.specs.Steps.{Stepped}
use Rattle.table_core.specs.Story.{Story, Outcome, Fact, IsAccepted, IsOver}
use Rattle.table_core.specs.Views.{saw}
use Rattle.table_core.specs.WaitLists.{chained, listed, is_open}
use Rattle.table_core.specs.WaitViews.{saw_head, linked, tried, joined_list}
use Rattle.table_core.specs.declared.setup.Setup.{Setup}
use Rattle.table_core.specs.declared.view.View.{View}
use Rattle.table_core.proofs.AddressFacts.{put-again}
use Rattle.table_core.proofs.ClassFacts.{record-phase}
use Rattle.table_core.proofs.FillKinds.{head-other}
use Rattle.table_core.proofs.ListFacts.{at_map, each-none, each-cons, same_some}
use Rattle.table_core.proofs.ListKinds.{join-parts as join-table, join-list, try-parts as try-table, joins-at as table-joins}
use Rattle.table_core.proofs.Rule.{kept_word}
use Rattle.table_core.proofs.SightFacts.{sighted}
use Rattle.table_core.proofs.WaitFacts.{waits-counts}
use Rattle.table_core.proofs.WaitSteps.{lists-stay}
use Rattle.table_core.proofs.WaitKinds.{see-parts as see-table, sees-head-at as table-sees-head, link-parts as link-table}
use Rattle.schedule_rule.specs.Calls.{after_in, after_of, IsSo}
use Rattle.schedule_rule.specs.LifeViews.{knowing, KnowsBehind, SawOver, TellsClosed, SawHeadOf, TriedJoin}
use Rattle.schedule_rule.specs.Parts.{Part, facts, behind, seen, Says, AllSay, Keeps, LawfulAfter}
use Rattle.schedule_rule.proofs.KnowingFacts.{table-knowing, done-complete, facts-known, has-append}
use Rattle.schedule_rule.proofs.Rule.{frames, moves, same-story}

-- a record that neither waits nor is ready nor runs is done
not-live : (word : ℕ) → is_record word ≡ true → is_live word ≡ false → phase_of word ≡ 5
not-live word is not = by (cases_lt (phase_of word) 5)
  where
    p : (2 ≤ phase_of word) × (phase_of word ≤ 5)
    p = record-phase word is

    by : (phase_of word < 5) ⊎ (5 ≤ phase_of word) → phase_of word ≡ 5
    by (inl low) = absurd (true≢false (sym (and_from _ _ (le-leb 2 (phase_of word) p.0) (le-leb (phase_of word) 4 (omega (arith, low)))) ∙ not))
    by (inr high) = omega (arith, high, p.1)

module _ (g : Setup) (id : ℕ) (v : View) where
  module _ (m : Mem) (vs : List View) (s : Story) (l : AllSay g s m vs) (at : At vs id v) where
    abbrev states : ℕ → ℕ
    states w = m (state w)

    abbrev heads : ℕ → ℕ
    heads w = m (head w)

    abbrev nexts : ℕ → ℕ
    nexts w = m (next w)

    -- what was seen of the task of a record is so
    task-seen : (u t : ℕ) → Has (SawTask u t) v.sights → m (task u) ≡ t
    task-seen u t has = (l.table sights id (table_seen sights v) (at_map (table_seen sights) vs id v at) has.0 (SawTask u t) has.1).1

    -- a head word is written as it was
    module _ (u : ℕ) (has : 1 ≤ times u v.futures) where
      refers : (u < units_of g.plan) × (is_record (states u) ≡ true)
      refers = sighted g m vs s l.table id (table_seen sights v) (at_map (table_seen sights) vs id v at) u has

      -- a record whose list is closed is done
      closed-done : heads u ≡ closed_word → phase_of (states u) ≡ 5
      closed-done closed = by (is_live (states u)) refl
        where
          shut : is_open states heads u ≡ false
          shut = ap (λ (b : Bool). b && not (heads u == closed_word)) refers.1 ∙ ap not (eq-eqb (heads u) closed_word closed)

          by : (b : Bool) → is_live (states u) ≡ b → phase_of (states u) ≡ 5
          by true e = absurd (true≢false (sym ((l.table waits).live_open u refers.0 e) ∙ shut))
          by false e = not-live (states u) refers.1 e

      -- what is known more: that the task is over, where the list is closed
      abbrev Learns : List Fact → Type 0
      Learns more = Each (IsSo s.calls s.ends) more × (heads u ≢ closed_word → more ≡ []) × (heads u ≡ closed_word → (outcome : Outcome) × Has (IsOver (m (task u)) outcome) more)

      learns : (more : List Fact) × Learns more
      learns = by (cases_eq (heads u) closed_word)
        where
          by : (heads u ≡ closed_word) ⊎ (heads u ≢ closed_word) → (more : List Fact) × Learns more
          by (inr ne) = ([], (each-none (IsSo s.calls s.ends), (λ other. refl), (λ e. absurd (ne e))))
          by (inl e) =
              let over = done-complete g m vs s l u refers.0 (closed-done e) in
              (IsOver (m (task u)) over.0 ∷ [], (each-cons (IsSo s.calls s.ends) (IsOver (m (task u)) over.0) [] over.1 (each-none (IsSo s.calls s.ends)), (λ ne. absurd (ne e)), (λ same. (over.0, (0, refl)))))

      -- the head was seen, after so many tries
      module _ (n : ℕ) where
        abbrev looked_at : View
        looked_at = record (saw (head u) (heads u) (saw_head u (heads u) v)) { tries = n }

        abbrev after_look : View
        after_look = knowing learns.0 looked_at

        -- what was seen there is over where the list is closed
        over : heads u ≡ closed_word → SawOver after_look u
        over closed t seen_there = let o = learns.1.2 closed in
            (o.0, has-append (IsOver t o.0) learns.0 v.facts (subst (λ (k : ℕ). Has (IsOver k o.0) learns.0) (task-seen u t (earlier t seen_there.0 seen_there.1)) o.1))
          where
            earlier : (t k : ℕ) → At (SawHead u (heads u) ∷ v.sights) k (SawTask u t) → Has (SawTask u t) v.sights
            earlier t zero here = absurd (no_head (same_some (SawHead u (heads u)) (SawTask u t) here))
              where
                no_head : SawHead u (heads u) ≡ SawTask u t → ⊥
                no_head e = cc
            earlier t (suc k) there = (k, there)

        tells : TellsClosed u (heads u) looked_at after_look
        tells = (learns.0, refl, learns.1.1, over)

        as-it-was : (q : Part) → Says g q s (put m (head u) (heads u)) (map (seen q) vs)
        as-it-was q = subst (λ (x : Mem). Says g q s x (map (seen q) vs)) (sym (put-again m (head u))) (l.schedule q)

        look-says : (q : Part) → Says g q s (put m (head u) (heads u)) (map (seen q) (slice_set vs id after_look))
        look-says facts = moves g vs id v at facts s (put m (head u) (heads u)) after_look (facts-known g m vs s l id v at learns.0 learns.1.0)
        look-says q = frames g vs id v at q s (put m (head u) (heads u)) after_look refl (as-it-was q)

    -- link: the waiter stands in no list
    module _ (x : Waiter) (has : Has x v.waiting) (seen_head : ℕ) where
      abbrev word : ℕ
      word = link_of seen_head

      abbrev after_link : View
      after_link = saw (next x.unit) (nexts x.unit) (linked x.unit seen_head v)

      lists : (k : ℕ) → k < units_of g.plan → listed states heads (λ y. put m (next x.unit) word (next y)) k ≡ listed states heads nexts k
      lists = lists-stay states heads nexts g.plan (map (table_seen waits) vs) (l.table waits) id (table_seen waits v) (at_map (table_seen waits) vs id v at) x.unit seen_head (waits-counts v.waiting x has)
          (λ y. put m (next x.unit) word (next y)) (ap (λ (b : Bool). cond b word (nexts x.unit)) (eq-eqb x.unit x.unit refl)) (λ y ne. ap (λ (b : Bool). cond b word (nexts y)) (ne_eqb x.unit y (λ e. ne (sym e))))

      link-says : (q : Part) → Says g q s (put m (next x.unit) word) (map (seen q) (slice_set vs id after_link))
      link-says behind = frames g vs id v at behind s (put m (next x.unit) word) after_link refl (record {
        listed_behind = λ k w near there. (l.schedule behind).listed_behind k w near (subst (λ (y : List ℕ). Has w y) (lists k near) there);
        chained_behind = (l.schedule behind).chained_behind;
      })
      link-says q = frames g vs id v at q s (put m (next x.unit) word) after_link refl (l.schedule q)

    -- join: the waiter is behind the task of u
    module _ (u : ℕ) (has : 1 ≤ times u v.futures) (x : Waiter) (has_waiter : Has x v.waiting) (linked_to : x.linked ≡ Some (heads u)) (unclosed : heads u ≢ closed_word) (in_use : 1 ≤ v.parts)
        (knows : KnowsBehind v u x.number) where
      abbrev new : ℕ
      new = head_word (x.unit + 1) (length_of (heads u) + 1)

      abbrev after_join : View
      after_join = saw (head u) (heads u) (joined_list x.unit v)

      abbrev heads' : ℕ → ℕ
      heads' w = put m (head u) new (head w)

      numbered : x.number ≡ number_of (states x.unit)
      numbered = (l.table waits).numbers id (table_seen waits v) (at_map (table_seen waits) vs id v at) has_waiter.0 x has_waiter.1

      behind-it : after_of s.calls (number_of (states x.unit)) ≡ Some (m (task u))
      behind-it =
          ap (after_of s.calls) (sym numbered) ∙ ap after_in (l.schedule facts id v.facts (at_map (seen facts) vs id v at) knows.2.0 (IsAccepted x.number knows.0) knows.2.1)
          ∙ knows.4 ∙ ap Some (sym (task-seen u knows.1 knows.3))

      its-list : listed states heads' nexts u ≡ x.unit ∷ listed states heads nexts u
      its-list = join-list g id v m vs s l.table at u has x has_waiter linked_to unclosed in_use

      listed-now : (k w : ℕ) → k < units_of g.plan → Has w (listed states heads' nexts k) → after_of s.calls (number_of (states w)) ≡ Some (m (task k))
      listed-now k w near there = by (cases_eq k u)
        where
          member : (j : ℕ) → At (x.unit ∷ listed states heads nexts u) j w → u < units_of g.plan → after_of s.calls (number_of (states w)) ≡ Some (m (task u))
          member zero here low = subst (λ (y : ℕ). after_of s.calls (number_of (states y)) ≡ Some (m (task u))) (same_some x.unit w here) behind-it
          member (suc j) rest low = (l.schedule behind).listed_behind u w low (j, rest)

          by : (k ≡ u) ⊎ (k ≢ u) → after_of s.calls (number_of (states w)) ≡ Some (m (task k))
          by (inl e) = subst (λ (y : ℕ). after_of s.calls (number_of (states w)) ≡ Some (m (task y))) (sym e)
              (member there.0 (subst (λ (y : List ℕ). At y there.0 w) (ap (listed states heads' nexts) e ∙ its-list) there.1) (subst (λ (y : ℕ). y < units_of g.plan) e near))
          by (inr ne) = (l.schedule behind).listed_behind k w near
              (subst (λ (h : ℕ). Has w (cond (is_record (states k) && not (h == closed_word)) (chained nexts (link_of h) (length_of h)) [])) (head-other m u new k ne) there)

      join-says : (q : Part) → Says g q s (put m (head u) new) (map (seen q) (slice_set vs id after_join))
      join-says behind = frames g vs id v at behind s (put m (head u) new) after_join refl (record { listed_behind = listed-now; chained_behind = (l.schedule behind).chained_behind })
      join-says q = frames g vs id v at q s (put m (head u) new) after_join refl (l.schedule q)

  -- see head: of a record to which the hand has a reference
  pub sees-head-at : (u : ℕ) → 1 ≤ times u v.futures
      → Keeps g id v (head u) (λ n. n) (λ r w. SawHeadOf u v r w × IsHeadWord r × (r ≢ closed_word → length_of r ≤ units_of g.plan))
  sees-head-at u has m vs s l at small =
      let told = (table-sees-head g id v u has m vs s l.table at small).2 in (
        after_look m vs s l at u has v.tries,
        (
          s,
          same-story s,
          record {
            table = table-knowing g s (put m (head u) (m (head u))) vs id (learns m vs s l at u has).0 (saw (head u) (m (head u)) (saw_head u (m (head u)) v))
                (kept_word g s m (head u) (m (head u)) _ refl (see-table g id v m vs s l.table at u has));
            schedule = look-says m vs s l at u has v.tries;
          },
        ),
        (tells m vs s l at u has v.tries, told.1, told.2),
        (refl, refl, inl refl),
      )

  -- link: a waiter of the hand
  pub links-at : (x : Waiter) → Has x v.waiting → 1 ≤ v.parts → (seen_head : ℕ)
      → Keeps g id v (next x.unit) (λ n. link_of seen_head) (λ r w. (n : ℕ) × (w ≡ saw (next x.unit) n (linked x.unit seen_head v)))
  links-at x has in_use seen_head m vs s l at small = (
    saw (next x.unit) (m (next x.unit)) (linked x.unit seen_head v),
    (s, same-story s, record { table = link-table g id v m vs s l.table at x has in_use seen_head; schedule = link-says m vs s l at x has seen_head }),
    (m (next x.unit), refl),
    (refl, refl, inl refl),
  )

  -- join: a waiter of the hand, linked to the head that it is pushed over, whose call is behind the task that was seen there
  pub joins-at : (u : ℕ) → 1 ≤ times u v.futures → (x : Waiter) → Has x v.waiting → KnowsBehind v u x.number → 1 ≤ v.parts → (old new : ℕ) → x.linked ≡ Some old → old ≢ closed_word → Has (SawHead u old) v.sights
      → new ≡ head_word (x.unit + 1) (length_of old + 1)
      → Keeps g id v (head u) (λ n. either (n == old) new n)
      (λ r w. TriedJoin u x.unit old v r w × IsHeadWord r × IsLater old r × (r ≢ closed_word → length_of r ≤ units_of g.plan))
  joins-at u has x has_waiter knows in_use old new linked_to unclosed saw_it new_is m vs s l at small =
      let told = (table-joins g id v u has x has_waiter in_use old new linked_to unclosed saw_it new_is m vs s l.table at small).2 in
      exchanged (m (head u)) old new
      (λ n. (w : View) × LawfulAfter g s (put m (head u) n) (slice_set vs id w)
      × (TriedJoin u x.unit old v (m (head u)) w × IsHeadWord (m (head u)) × IsLater old (m (head u)) × (m (head u) ≢ closed_word → length_of (m (head u)) ≤ units_of g.plan))
      × Stepped (head u) (m (head u)) n v w)
      (λ e. (
        saw (head u) (m (head u)) (joined_list x.unit v),
        subst (λ (n : ℕ). LawfulAfter g s (put m (head u) n) (slice_set vs id (saw (head u) (m (head u)) (joined_list x.unit v))))
            (sym (new_is ∙ ap (λ (n : ℕ). head_word (x.unit + 1) (length_of n + 1)) (sym e))) (
              s,
              same-story s,
              record {
                table = join-table g id v m vs s l.table at u has x has_waiter (linked_to ∙ ap Some (sym e)) (λ c. unclosed (sym e ∙ c)) in_use;
                schedule = join-says m vs s l at u has x has_waiter (linked_to ∙ ap Some (sym e)) (λ c. unclosed (sym e ∙ c)) in_use knows;
              },
            ),
        ((λ same. refl, λ ne. absurd (ne e)), told.1, told.2, told.3),
        (refl, refl, inl refl),
      ))
      (λ ne. (
        after_look m vs s l at u has (v.tries + 1),
        (
          s,
          same-story s,
          record {
            table = table-knowing g s (put m (head u) (m (head u))) vs id (learns m vs s l at u has).0 (saw (head u) (m (head u)) (saw_head u (m (head u)) (tried v)))
                (kept_word g s m (head u) (m (head u)) _ refl (try-table g id v m vs s l.table at u has));
            schedule = look-says m vs s l at u has (v.tries + 1);
          },
        ),
        ((λ same. absurd (ne same), λ e. tells m vs s l at u has (v.tries + 1)), told.1, told.2, told.3),
        (refl, refl, inl refl),
      ))
