-- Each kind of step that puts a waiter on a list, or takes a whole list, keeps the rule.
use Rattle.std.proofs.Common.{◌≡◌, ◌≢◌, ◌∙◌, ◌⊎◌, inl, inr, ℕ, suc, ◌+◌, ◌<◌, ◌≤◌, Bool, true, false, cond, ◌==◌, ◌&&◌, not, Some, List, map, ◌∷◌, length, refl, sym, ap, subst, true≢false, arith}
use prog.Atomic.{either}
use Rattle.std.specs.Prelude.{slice_set, nat_le}
use Rattle.std.proofs.lemmas.Bool.{cases_eq, eq-eqb, ne_eqb, and_parts}
use Rattle.atomic_table.proofs.Lists.{exchanged}
use Rattle.record_core.specs.Sums.{total}
use Rattle.record_core.specs.Counting.{At, Has, one_if, times}
use Rattle.record_core.proofs.TotalFacts.{total-map}
use Rattle.kt_words.specs.declared.plan.Plan.{Plan}
use Rattle.kt_words.specs.HeadWords.{closed_word, head_word, link_of, length_of, IsHeadWord}
use Rattle.kt_words.specs.HeadWordLaws.{HeadWordSays}
use Rattle.kt_words.specs.StateWords.{phase_of}
use Rattle.kt_words.proofs.HeadWordFacts.{head_word_says_its_numbers, listed_is_not_closed}
use Rattle.table_core.specs.Addresses.{Addr, Mem, super, state, head, next, task, units_of, put}
use Rattle.table_core.specs.Lists.{Each}
use Rattle.table_core.specs.Holdings.{Waiter, Done, SawHead}
use Rattle.table_core.specs.Story.{Story}
use Rattle.table_core.specs.Bounds.{IsBounded}
use Rattle.table_core.specs.References.{is_record}
use Rattle.table_core.specs.Own.{Hands, done_at, is_own, record_words}
use Rattle.table_core.specs.WaitLists.{link_to, Waits, is_open, listed}
use Rattle.table_core.specs.Sights.{IsLater, SightsSound}
use Rattle.table_core.specs.Views.{saw}
use Rattle.table_core.specs.WaitViews.{saw_head, tried, joined_list, closed_list}
use Rattle.table_core.specs.Steps.{Tried, Stepped}
use Rattle.table_core.specs.Parts.{Part, bounds, references, own, waits, sights, seen, Says, AllSay, Keeps}
use Rattle.table_core.specs.declared.setup.Setup.{Setup}
use Rattle.table_core.specs.declared.view.View.{View}
use Rattle.table_core.proofs.ListFacts.{at_map, each-set, each-cons, total-has}
use Rattle.table_core.proofs.Rule.{frames, moves, kept_word}
use Rattle.table_core.proofs.PoolKinds.{bounded}
use Rattle.table_core.proofs.BagFacts.{one-here}
use Rattle.table_core.proofs.ReferenceBound.{units-few, in-few}
use Rattle.table_core.proofs.ClassFacts.{record-phase}
use Rattle.table_core.proofs.OwnFacts.{own-written, own-moved, made-phase, done-phase, done-counts, hands-from, hand-kept}
use Rattle.table_core.proofs.RecordWords.{head-own, words-head}
use Rattle.table_core.proofs.SightFacts.{sights-written, sighted}
use Rattle.table_core.proofs.WaitFacts.{waits-counts}
use Rattle.table_core.proofs.ChainFacts.{few-near}
use Rattle.table_core.proofs.WaiterFacts.{units-close_in, done-close_in}
use Rattle.table_core.proofs.WaitSteps.{list-few, length-few, waiter-stands, list-here, waits-joined, waits-closed, was-open, list-length}
use Rattle.table_core.proofs.WaitKinds.{head-is}

-- a head that is written, and those of others
head-here : (m : Mem) (u n : ℕ) → put m (head u) n (head u) ≡ n
head-here m u n = ap (λ (b : Bool). cond b n (m (head u))) (eq-eqb u u refl)

head-other : (m : Mem) (u n w : ℕ) → w ≢ u → put m (head u) n (head w) ≡ m (head w)
head-other m u n w ne = ap (λ (b : Bool). cond b n (m (head w))) (ne_eqb u w (λ e. ne (sym e)))

-- what is told of a list that is taken whole: the head was open, and says where it begins and how long it is
pub record IsTaken (g : Plan) (word : ℕ) (members : List ℕ) : Type 0 where
  pub is_head : IsHeadWord word
  pub unclosed : word ≢ closed_word
  pub link_is : link_of word ≡ link_to members
  pub length_is : length_of word ≡ length members
  pub near : Each (λ u. u < units_of g) members

module _ (g : Setup) (id : ℕ) (v : View) where
  module _ (m : Mem) (vs : List View) (s : Story) (l : AllSay g s m vs) (at : At vs id v) where
    abbrev states : ℕ → ℕ
    states w = m (state w)

    abbrev heads : ℕ → ℕ
    heads w = m (head w)

    abbrev nexts : ℕ → ℕ
    nexts w = m (next w)

    abbrev tasks : ℕ → ℕ
    tasks w = m (task w)

    abbrev waiting_vs : List Waits
    waiting_vs = map (seen waits) vs

    abbrev owners : List Hands
    owners = map (seen own) vs

    waits_at_id : At waiting_vs id (seen waits v)
    waits_at_id = at_map (seen waits) vs id v at

    was_bounded : IsBounded (seen bounds v)
    was_bounded = l bounds id (seen bounds v) (at_map (seen bounds) vs id v at)

    bounds-kept : (w : View) → IsBounded (seen bounds w) → Each IsBounded (slice_set (map (seen bounds) vs) id (seen bounds w))
    bounds-kept w = each-set IsBounded (map (seen bounds) vs) id (seen bounds w) (l bounds)

    -- the head of a record becomes a later one
    module _ (u n : ℕ) (is : is_record (states u) ≡ true) (later : IsLater (heads u) n) where
      abbrev heads' : ℕ → ℕ
      heads' w = put m (head u) n (head w)

      -- it is nobody's own
      not-made : (k : ℕ) (h : Hands) → At owners k h → ¬ (is_own h.made h.runs (head u) ≡ true)
      not-made k h there mine =
          let made = made-phase g.plan (λ i. m (super i)) states (record_words m) owners (l own) k h there u (head-own h.made h.runs u mine) in
          omega (arith, made.1, record-phase (states u) is)

      words-stay : (k : ℕ) (h : Hands) → At owners k h → (a : Addr) → is_own h.made h.runs a ≡ true → record_words (put m (head u) n) a ≡ record_words m a
      words-stay k h there a mine = words-head m u n a (λ w e same. not-made k h there (subst (λ (b : Addr). is_own h.made h.runs b ≡ true) (e ∙ ap head same) mine))

      -- and what was seen stands
      heads-later : SightsSound heads' tasks states (map (seen sights) vs)
      heads-later = sights-written heads heads' tasks tasks states states (map (seen sights) vs) (l sights) (λ k w x there has. record {
        later = at_head w (cases_eq w u);
        task_same = refl;
        done_same = λ done. refl;
      })
        where
          at_head : (w : ℕ) → (w ≡ u) ⊎ (w ≢ u) → IsLater (heads w) (heads' w)
          at_head w (inl e) = subst (λ (z : ℕ). IsLater (heads z) (heads' z)) (sym e) (subst (IsLater (heads u)) (sym (head-here m u n)) later)
          at_head w (inr ne) = inl (head-other m u n w ne)

    -- join
    module _ (u : ℕ) (has : 1 ≤ times u v.futures) (x : Waiter) (has_waiter : Has x v.waiting) (linked_to : x.linked ≡ Some (heads u)) (unclosed : heads u ≢ closed_word) (in_use : 1 ≤ v.parts) where
      abbrev w : ℕ
      w = x.unit

      abbrev word : ℕ
      word = head_word (w + 1) (length_of (heads u) + 1)

      abbrev after_join : View
      after_join = saw (head u) (heads u) (joined_list w v)

      refers : (u < units_of g.plan) × (is_record (states u) ≡ true)
      refers = sighted g m vs s l id (seen sights v) (at_map (seen sights) vs id v at) u has

      opened : is_open states heads u ≡ true
      opened = ap (λ (b : Bool). b && not (heads u == closed_word)) refers.1 ∙ ap not (ne_eqb (heads u) closed_word unclosed)

      few : length_of (heads u) ≤ units_of g.plan
      few = length-few states heads nexts g.plan waiting_vs (l waits) u refers.0 opened

      says : HeadWordSays word (w + 1) (length_of (heads u) + 1)
      says = head_word_says_its_numbers (w + 1) (length_of (heads u) + 1)
          (omega (arith, units-few g.plan, waiter-stands states heads nexts g.plan waiting_vs (l waits) id (seen waits v) waits_at_id w (waits-counts v.waiting x has_waiter)))

      not_closed : word ≢ closed_word
      not_closed = (listed_is_not_closed word (omega (arith, says.length_is, few, units-few g.plan))).0

      longer : IsLater (heads u) word
      longer = inr (inr (unclosed, omega (arith, says.length_is)))

      plus_one : (k : ℕ) → k + 1 ≡ suc k
      plus_one k = omega arith

      -- the list is longer by the waiter, which is its first
      pub join-list : listed states (λ y. put m (head u) word (head y)) nexts u ≡ w ∷ listed states heads nexts u
      join-list = list-here states heads nexts g.plan waiting_vs (l waits) u (heads' u word refers.1 longer) (head-other m u word) refers.0 opened id (seen waits v) waits_at_id w x has_waiter refl linked_to
          (ap link_of (head-here m u word) ∙ says.link_is) (ap length_of (head-here m u word) ∙ says.length_is ∙ plus_one (length_of (heads u))) (λ e. not_closed (sym (head-here m u word) ∙ e))

      -- each part of the rule holds after a waiter was pushed
      pub join-parts : (q : Part) → Says g q s (put m (head u) word) (map (seen q) (slice_set vs id after_join))
      join-parts waits = moves g vs id v at waits s (put m (head u) word) after_join
          (waits-joined states heads nexts g.plan waiting_vs (l waits) u (heads' u word refers.1 longer) (head-other m u word) refers.0 opened id (seen waits v) waits_at_id w x has_waiter refl linked_to
          (ap link_of (head-here m u word) ∙ says.link_is) (ap length_of (head-here m u word) ∙ says.length_is ∙ plus_one (length_of (heads u))) (λ e. not_closed (sym (head-here m u word) ∙ e)))
      join-parts own = frames g vs id v at own s (put m (head u) word) after_join refl
          (own-written g.plan (λ i. m (super i)) states (record_words m) (record_words (put m (head u) word)) owners (l own) (words-stay u word refers.1 longer))
      join-parts sights = frames g vs id v at sights s (put m (head u) word) after_join refl (heads-later u word refers.1 longer)
      join-parts bounds = moves g vs id v at bounds s (put m (head u) word) after_join (bounds-kept after_join (bounded (seen bounds v) _ in_use was_bounded))
      join-parts q = frames g vs id v at q s (put m (head u) word) after_join refl (l q)

    -- a join that was too late
    module _ (u : ℕ) (has : 1 ≤ times u v.futures) where
      abbrev after_try : View
      after_try = saw (head u) (heads u) (saw_head u (heads u) (tried v))

      -- each part of the rule holds after a push that came too late
      pub try-parts : (q : Part) → Says g q s m (map (seen q) (slice_set vs id after_try))
      try-parts sights = moves g vs id v at sights s m after_try
          (each-set _ (map (seen sights) vs) id (seen sights after_try) (l sights)
          (each-cons _ (SawHead u (heads u)) v.sights (has, inl refl) (l sights id (seen sights v) (at_map (seen sights) vs id v at))))
      try-parts q = frames g vs id v at q s m after_try refl (l q)

    -- close
    module _ (d : Done) (has : Has d v.done) (not_closed : d.closed ≡ false) (in_use : 1 ≤ v.parts) where
      abbrev unit : ℕ
      unit = d.unit

      abbrev taken : List ℕ
      taken = listed states heads nexts unit

      abbrev after_close : View
      after_close = saw (head unit) (heads unit) (closed_list unit taken v)

      done_there : (unit < units_of g.plan) × (phase_of (states unit) ≡ 5)
      done_there = done-phase g.plan (λ i. m (super i)) states (record_words m) owners (l own) id (seen own v) (at_map (seen own) vs id v at) unit (done-counts v.done d has)

      is : is_record (states unit) ≡ true
      is = ap (λ (p : ℕ). nat_le 2 p && nat_le p 5) done_there.1

      one : total (λ (h : Waits). done_at unit h.done) waiting_vs ≤ 1
      one = omega (
        arith,
        (l own).done unit,
        in-few g m vs s l 5 unit,
        total-map (λ (h : Waits). done_at unit h.done) (seen waits) vs,
        total-map (λ (h : Hands). done_at unit h.done) (seen own) vs,
      )

      closes : IsLater (heads unit) closed_word
      closes = inr (inl refl)

      was_opened : is_open states heads unit ≡ true
      was_opened = was-open states heads nexts g.plan waiting_vs (l waits) unit (heads' unit closed_word is closes) (head-other m unit closed_word) done_there.0 id (seen waits v) waits_at_id d has refl not_closed
          done_there.1 one (head-here m unit closed_word)

      -- each part of the rule holds after a list was closed
      pub close-parts : (q : Part) → Says g q s (put m (head unit) closed_word) (map (seen q) (slice_set vs id after_close))
      close-parts waits = moves g vs id v at waits s (put m (head unit) closed_word) after_close
          (waits-closed states heads nexts g.plan waiting_vs (l waits) unit (heads' unit closed_word is closes) (head-other m unit closed_word) done_there.0 id (seen waits v) waits_at_id d has refl not_closed
          done_there.1 one (head-here m unit closed_word))
      close-parts references = frames g vs id v at references s (put m (head unit) closed_word) after_close
          (ap (λ (us : List ℕ). record { futures = v.futures; done = us; retiring = v.retiring }) (sym (units-close_in unit v.done))) (l references)
      close-parts own = moves g vs id v at own s (put m (head unit) closed_word) after_close
          (own-moved g.plan (λ i. m (super i)) states states (record_words m) (record_words (put m (head unit) closed_word)) owners id (seen own v) (seen own after_close)
          (at_map (seen own) vs id v at) (l own) (λ w. refl) (λ w. refl)
          (λ w. omega (arith, (l own).done w, done-close_in unit w v.done))
          (λ k h other there was. hand-kept g.plan (λ i. m (super i)) states (record_words m) (record_words (put m (head unit) closed_word)) h was (words-stay unit closed_word is closes k h there))
          (let mine = hand-kept g.plan (λ i. m (super i)) states (record_words m) (record_words (put m (head unit) closed_word)) (seen own v)
          (hands-from g.plan (λ i. m (super i)) states (record_words m) owners (l own) id (seen own v) (at_map (seen own) vs id v at))
          (words-stay unit closed_word is closes id (seen own v) (at_map (seen own) vs id v at)) in
          record { classes = mine.classes; run_classes = mine.run_classes; numbers = mine.numbers; known = mine.known }))
      close-parts sights = frames g vs id v at sights s (put m (head unit) closed_word) after_close refl (heads-later unit closed_word is closes)
      close-parts bounds = moves g vs id v at bounds s (put m (head unit) closed_word) after_close (bounds-kept after_close (bounded (seen bounds v) _ in_use was_bounded))
      close-parts q = frames g vs id v at q s (put m (head unit) closed_word) after_close refl (l q)

      -- what the head says of the list that is taken
      pub close-told : (heads unit ≢ closed_word) × (link_of (heads unit) ≡ link_to taken) × (length_of (heads unit) ≡ length taken)
      close-told = (
        open_word,
        ((l waits).ends unit done_there.0 was_opened).1,
        sym (list-length states heads nexts g.plan waiting_vs (l waits) unit was_opened),
      )
        where
          open_word : heads unit ≢ closed_word
          open_word e = true≢false (sym (and_parts (is_record (states unit)) (not (heads unit == closed_word)) was_opened).1 ∙ ap not (eq-eqb (heads unit) closed_word e))

      -- the chain that is taken is the list as it stood
      pub close-taken : IsTaken g.plan (heads unit) taken
      close-taken = record {
        is_head = inr (omega (arith, units-few g.plan, length-few states heads nexts g.plan waiting_vs (l waits) unit done_there.0 was_opened));
        unclosed = close-told.0;
        link_is = close-told.1;
        length_is = close-told.2;
        near = λ k w there. few-near taken (units_of g.plan) (list-few states heads nexts g.plan waiting_vs (l waits) unit done_there.0) w
            (omega (arith, total-has (λ (y : ℕ). one_if (y == w)) taken w (k, there), one-here w));
      }

  -- join: a waiter of the hand that is linked to the head that it is pushed over. Else a later head was found.
  pub joins-at : (u : ℕ) → 1 ≤ times u v.futures → (x : Waiter) → Has x v.waiting → 1 ≤ v.parts → (old new : ℕ) → x.linked ≡ Some old → old ≢ closed_word → Has (SawHead u old) v.sights
      → new ≡ head_word (x.unit + 1) (length_of old + 1)
      → Keeps g id v (head u) (λ n. either (n == old) new n)
      (λ r w. Tried old (saw (head u) r (saw_head u r (tried v))) (saw (head u) r (joined_list x.unit v)) r w × IsHeadWord r × IsLater old r × (r ≢ closed_word → length_of r ≤ units_of g.plan))
  joins-at u has x has_waiter in_use old new linked_to unclosed saw_it new_is m vs s l at small =
      let is = head-is g id v m vs s l at u has in let later = (l sights id (seen sights v) (at_map (seen sights) vs id v at) saw_it.0 (SawHead u old) saw_it.1).1 in
      exchanged (m (head u)) old new
      (λ n. (w : View) × AllSay g s (put m (head u) n) (slice_set vs id w)
      × (Tried old (saw (head u) (m (head u)) (saw_head u (m (head u)) (tried v))) (saw (head u) (m (head u)) (joined_list x.unit v)) (m (head u)) w
      × IsHeadWord (m (head u)) × IsLater old (m (head u)) × (m (head u) ≢ closed_word → length_of (m (head u)) ≤ units_of g.plan))
      × Stepped (head u) (m (head u)) n v w)
      (λ e. (
        saw (head u) (m (head u)) (joined_list x.unit v),
        subst (λ (n : ℕ). (q : Part) → Says g q s (put m (head u) n) (map (seen q) (slice_set vs id (saw (head u) (m (head u)) (joined_list x.unit v)))))
            (sym (new_is ∙ ap (λ (n : ℕ). head_word (x.unit + 1) (length_of n + 1)) (sym e)))
            (join-parts m vs s l at u has x has_waiter (linked_to ∙ ap Some (sym e)) (λ c. unclosed (sym e ∙ c)) in_use),
        ((λ same. refl, λ ne. absurd (ne e)), is.0, later, is.1),
        (refl, refl, inl refl),
      ))
      (λ ne. (
        saw (head u) (m (head u)) (saw_head u (m (head u)) (tried v)),
        kept_word g s m (head u) (m (head u)) _ refl (try-parts m vs s l at u has),
        ((λ same. absurd (ne same), λ e. refl), is.0, later, is.1),
        (refl, refl, inl refl),
      ))
