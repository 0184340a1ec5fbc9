-- Wait lists where a word and one pass change.
use Rattle.std.proofs.Common.{◌≡◌, ◌≢◌, ◌∙◌, ◌⊎◌, inl, inr, ℕ, suc, ◌+◌, ◌-◌, ◌<◌, ◌≤◌, Bool, true, false, cond, ◌==◌, ◌&&◌, not, Some, List, [], ◌∷◌, length, refl, sym, ap, subst, true≢false, arith}
use Rattle.std.specs.Prelude.{nat_le, nat_lt, slice_get, slice_set}
use Rattle.std.proofs.lemmas.Bool.{cases_eq, eqb-true, eq-eqb, ne_eqb, ltb-true, and_parts}
use Rattle.record_core.specs.Sums.{total}
use Rattle.record_core.specs.Counting.{At, Has, one_if, times, dropped}
use Rattle.record_core.proofs.TotalFacts.{total-member, total-set, total-two_members, total-le}
use Rattle.record_core.proofs.BelowFacts.{below-member, below-same, below-set}
use Rattle.kt_words.specs.declared.plan.Plan.{Plan}
use Rattle.kt_words.specs.StateWords.{phase_of, number_of}
use Rattle.kt_words.specs.HeadWords.{closed_word, link_of, length_of}
use Rattle.table_core.specs.Addresses.{units_of}
use Rattle.table_core.specs.Lists.{Each}
use Rattle.table_core.specs.Holdings.{Waiter, Done}
use Rattle.table_core.specs.References.{is_live, is_record}
use Rattle.table_core.specs.Own.{done_at}
use Rattle.table_core.specs.WaitLists.{chained, link_to, Follows, IsLinked, Waits, waits_at, chains_at, unclosed_at, is_open, listed, stands, WaitSound}
use Rattle.table_core.specs.WaitViews.{is_waiter_at, link_in, close_in, with_chain, same_list, new_waiter, new_done}
use Rattle.table_core.proofs.ListFacts.{same_some, set_cases, each-set, each-cons, each-dropped, total-has}
use Rattle.table_core.proofs.BagFacts.{one-here, one-apart}
use Rattle.table_core.proofs.ClassFacts.{live-phase}
use Rattle.table_core.proofs.ChainFacts.{chained-length, chained-same, follows-same, member-apart, AreFew, few-length}
use Rattle.table_core.proofs.WaitFacts.{waits-counts}
use Rattle.table_core.proofs.WaiterFacts.{waits-dropped, waits-link_in, each-link_in, linked-apart, linked-here, unclosed-few, unclosed-close_in, closed-apart, closed-here, chains-with, each-with, chains-dropped}

-- a list without its first
abbrev tail_of : List ℕ → List ℕ
tail_of [] = []
tail_of (x ∷ xs) = xs

module _ (states heads nexts : ℕ → ℕ) (g : Plan) (vs : List Waits) (sound : WaitSound states heads nexts g vs) where
  -- where a record stands, and how often: once at most
  pub stands-once : (w : ℕ) → 1 ≤ stands states heads nexts g vs w → (w < units_of g) × (phase_of (states w) ≡ 2) × (stands states heads nexts g vs w ≡ 1)
  stands-once w some = by (nat_lt w (units_of g)) refl (phase_of (states w) == 2) refl
    where
      by : (b : Bool) → nat_lt w (units_of g) ≡ b → (d : Bool) → (phase_of (states w) == 2) ≡ d → (w < units_of g) × (phase_of (states w) ≡ 2) × (stands states heads nexts g vs w ≡ 1)
      by true e true e' = (
        ltb-true w (units_of g) e,
        eqb-true (phase_of (states w)) 2 e',
        sound.once w ∙ ap (λ (b : Bool). cond b (one_if (phase_of (states w) == 2)) 0) e ∙ ap one_if e',
      )
      by true e false e' = absurd (omega (arith, some, sound.once w, ap (λ (b : Bool). cond b (one_if (phase_of (states w) == 2)) 0) e, ap one_if e'))
      by false e d e' = absurd (omega (arith, some, sound.once w, ap (λ (b : Bool). cond b (one_if (phase_of (states w) == 2)) 0) e))

  in-lists : (w u : ℕ) → u < units_of g → times w (listed states heads nexts u) ≤ stands states heads nexts g vs w
  in-lists w u near = omega (arith, below-member (λ x. times w (listed states heads nexts x)) (units_of g) u near)

  stands-few : (w : ℕ) → stands states heads nexts g vs w ≤ one_if (nat_lt w (units_of g))
  stands-few w = by (nat_lt w (units_of g)) (phase_of (states w) == 2) (sound.once w)
    where
      by : (b d : Bool) → stands states heads nexts g vs w ≡ cond b (one_if d) 0 → stands states heads nexts g vs w ≤ one_if b
      by true true e = omega (arith, e)
      by true false e = omega (arith, e)
      by false d e = omega (arith, e)

  -- the members of a list are few
  pub list-few : (u : ℕ) → u < units_of g → AreFew (listed states heads nexts u) (units_of g)
  list-few u near w = omega (arith, in-lists w u near, stands-few w)

  -- the list of an open head is as long as the head says, and no longer than there are units
  pub list-length : (u : ℕ) → is_open states heads u ≡ true → length (listed states heads nexts u) ≡ length_of (heads u)
  list-length u is = ap (λ (b : Bool). length (cond b (chained nexts (link_of (heads u)) (length_of (heads u))) [])) is ∙ chained-length nexts (link_of (heads u)) (length_of (heads u))

  -- an open list is no longer than there are units
  pub length-few : (u : ℕ) → u < units_of g → is_open states heads u ≡ true → length_of (heads u) ≤ units_of g
  length-few u near is = omega (arith, list-length u is, few-length (listed states heads nexts u) (units_of g) (list-few u near))

  -- what a hand has as a waiter stands nowhere else
  module _ (id : ℕ) (h : Waits) (at : At vs id h) (w : ℕ) (some : 1 ≤ waits_at w h.waiting) where
    waits_there : 1 ≤ total (λ (v : Waits). waits_at w v.waiting) vs
    waits_there = omega (arith, some, total-member (λ (v : Waits). waits_at w v.waiting) vs id h at)

    -- the waiter is a record in range that waits, and stands in one place
    pub waiter-stands : (w < units_of g) × (phase_of (states w) ≡ 2) × (stands states heads nexts g vs w ≡ 1)
    waiter-stands = stands-once w (omega (arith, waits_there))

    -- the hand has the waiter once
    pub waiter-alone : waits_at w h.waiting ≡ 1
    waiter-alone = omega (arith, some, waiter-stands.2, total-member (λ (v : Waits). waits_at w v.waiting) vs id h at)

    -- the waiter stands in no list
    pub not-listed : (u : ℕ) → u < units_of g → times w (listed states heads nexts u) ≡ 0
    not-listed u near = omega (arith, waits_there, waiter-stands.2, below-member (λ x. times w (listed states heads nexts x)) (units_of g) u near)

    -- the waiter stands in no chain
    pub not-chained : (k : ℕ) (x : Waits) → At vs k x → (j : ℕ) (c : List ℕ) → At x.chains j c → times w c ≡ 0
    not-chained k x there j c there' = omega (
      arith,
      waits_there,
      waiter-stands.2,
      total-member (λ (v : Waits). chains_at w v.chains) vs k x there,
      total-member (times w) x.chains j c there',
    )

    -- no other hand has the waiter
    pub no-other : (k : ℕ) (x : Waits) → k ≢ id → At vs k x → waits_at w x.waiting ≡ 0
    no-other k x ne there = omega (arith, some, waiter-stands.2, total-two_members (λ (v : Waits). waits_at w v.waiting) vs k id x h ne there at)

  -- link: the next word of a waiter in the hand is written
  module _ (id : ℕ) (h : Waits) (at : At vs id h) (w head : ℕ) (some : 1 ≤ waits_at w h.waiting) (nexts' : ℕ → ℕ) (here : nexts' w ≡ link_of head)
      (others : (y : ℕ) → y ≢ w → nexts' y ≡ nexts y) where
    abbrev hand_linked : Waits
    hand_linked = record h { waiting = link_in w head h.waiting }

    abbrev linked_vs : List Waits
    linked_vs = slice_set vs id hand_linked

    not-in : (l : List ℕ) → times w l ≡ 0 → (x : ℕ) → 1 ≤ times x l → nexts' x ≡ nexts x
    not-in l none x in_it = others x (member-apart w x l none in_it)

    -- each list is what it was after the link
    pub lists-stay : (u : ℕ) → u < units_of g → listed states heads nexts' u ≡ listed states heads nexts u
    lists-stay u near = by (is_open states heads u) (not-listed id h at w some u near)
      where
        by : (b : Bool) → times w (cond b (chained nexts (link_of (heads u)) (length_of (heads u))) []) ≡ 0
            → cond b (chained nexts' (link_of (heads u)) (length_of (heads u))) [] ≡ cond b (chained nexts (link_of (heads u)) (length_of (heads u))) []
        by true none = chained-same nexts nexts' (link_of (heads u)) (length_of (heads u)) (not-in (chained nexts (link_of (heads u)) (length_of (heads u))) none)
        by false none = refl

    chains-follow : Each (λ (v : Waits). Each (Follows nexts') v.chains) vs
    chains-follow k x there j c there' = follows-same nexts nexts' c (not-in c (not-chained id h at w some k x there j c there')) (sound.chains k x there j c there')

    -- wait lists are sound after a link
    pub waits-linked : WaitSound states heads nexts' g linked_vs
    waits-linked = record {
      live_open = sound.live_open;
      done_open = λ u near is is'. omega (arith, sound.done_open u near is is', total-set (λ (v : Waits). unclosed_at u v.done) vs id h hand_linked at);
      done_closed = each-set _ vs id hand_linked sound.done_closed (sound.done_closed id h at);
      once = λ y. omega (
        arith,
        sound.once y,
        below-same (λ u. times y (listed states heads nexts' u)) (λ u. times y (listed states heads nexts u)) (units_of g) (λ u near. ap (times y) (lists-stay u near)),
        total-set (λ (v : Waits). waits_at y v.waiting) vs id h hand_linked at,
        waits-link_in w head y h.waiting,
        total-set (λ (v : Waits). chains_at y v.chains) vs id h hand_linked at,
      );
      ends = λ u near is. let t = sound.ends u near is in let none = not-listed id h at w some u near in (
        subst (Follows nexts') (sym (lists-stay u near)) (follows-same nexts nexts' (listed states heads nexts u) (not-in (listed states heads nexts u) none) t.0),
        t.1 ∙ ap link_to (sym (lists-stay u near)),
      );
      chains = each-set _ vs id hand_linked chains-follow (chains-follow id h at);
      numbers = each-set _ vs id hand_linked sound.numbers
          (each-link_in w head (λ (x : Waiter). x.number ≡ number_of (states x.unit)) (λ x e. e) h.waiting (sound.numbers id h at));
      linked = λ k x there. by k x (set_cases vs id k hand_linked x there);
    }
      where
        by : (k : ℕ) (x : Waits) → ((k ≡ id) × (x ≡ hand_linked)) ⊎ ((k ≢ id) × At vs k x) → Each (λ (y : Waiter). IsLinked nexts' y.unit y.linked) x.waiting
        by k x (inl t) = subst (λ (z : Waits). Each (λ (y : Waiter). IsLinked nexts' y.unit y.linked) z.waiting) (sym t.1)
            (linked-here nexts nexts' w head others here h.waiting (omega (arith, waiter-alone id h at w some)) (sound.linked id h at))
        by k x (inr t) = linked-apart nexts nexts' w head others x.waiting (no-other id h at w some k x t.0 t.1) (sound.linked k x t.1)

  -- the head of one record changes
  module _ (u : ℕ) (heads' : ℕ → ℕ) (others : (y : ℕ) → y ≢ u → heads' y ≡ heads y) where
    open-other : (y : ℕ) → y ≢ u → is_open states heads' y ≡ is_open states heads y
    open-other y ne = ap (λ (n : ℕ). is_record (states y) && not (n == closed_word)) (others y ne)

    -- the lists of other records stay after a push
    pub list-other : (y : ℕ) → y ≢ u → listed states heads' nexts y ≡ listed states heads nexts y
    list-other y ne = ap (λ (n : ℕ). cond (is_record (states y) && not (n == closed_word)) (chained nexts (link_of n) (length_of n)) []) (others y ne)

    -- join: a waiter of the hand becomes the first of an open list
    module _ (near : u < units_of g) (is : is_open states heads u ≡ true) (id : ℕ) (h : Waits) (at : At vs id h) (w : ℕ) (x : Waiter) (has : Has x h.waiting) (unit_is : x.unit ≡ w)
        (linked_to : x.linked ≡ Some (heads u)) (link_is : link_of (heads' u) ≡ w + 1) (length_is : length_of (heads' u) ≡ suc (length_of (heads u))) (not_closed : heads' u ≢ closed_word) where
      abbrev hand_joined : Waits
      hand_joined = record h { waiting = dropped (is_waiter_at w) h.waiting }

      abbrev joined_vs : List Waits
      joined_vs = slice_set vs id hand_joined

      record-here : is_record (states u) ≡ true
      record-here = (and_parts (is_record (states u)) (not (heads u == closed_word)) is).0

      open-here : is_open states heads' u ≡ true
      open-here = ap (λ (b : Bool). b && not (heads' u == closed_word)) record-here ∙ ap not (ne_eqb (heads' u) closed_word not_closed)

      open-same : (y : ℕ) → is_open states heads' y ≡ is_open states heads y
      open-same y = elim (cases_eq y u) [
        | inl e ↦ subst (λ (z : ℕ). is_open states heads' z ≡ is_open states heads z) (sym e) (open-here ∙ sym is)
        | inr ne ↦ open-other y ne
      ]

      next-is : nexts w ≡ link_of (heads u)
      next-is = subst (λ (z : ℕ). nexts z ≡ link_of (heads u)) unit_is (subst (IsLinked nexts x.unit) linked_to (sound.linked id h at has.0 x has.1))

      -- the list is longer by the waiter, which is its first
      pub list-here : listed states heads' nexts u ≡ w ∷ listed states heads nexts u
      list-here =
          ap (λ (b : Bool). cond b (chained nexts (link_of (heads' u)) (length_of (heads' u))) []) open-here
          ∙ (λ k. chained nexts (link_is k) (length_is k))
          ∙ (λ k. (w + 1 - 1) ∷ chained nexts (nexts (w + 1 - 1)) (length_of (heads u)))
          ∙ ap (λ (z : ℕ). z ∷ chained nexts (nexts z) (length_of (heads u))) back
          ∙ ap (λ (z : ℕ). w ∷ chained nexts z (length_of (heads u))) next-is
          ∙ ap (λ (b : Bool). w ∷ cond b (chained nexts (link_of (heads u)) (length_of (heads u))) []) (sym is)
        where
          back : w + 1 - 1 ≡ w
          back = omega arith

      -- wait lists are sound after a push
      pub waits-joined : WaitSound states heads' nexts g joined_vs
      waits-joined = record {
        live_open = λ y low live. open-same y ∙ sound.live_open y low live;
        done_open = λ y low done is_now. omega (arith, sound.done_open y low done (sym (open-same y) ∙ is_now), total-set (λ (v : Waits). unclosed_at y v.done) vs id h hand_joined at);
        done_closed = each-set _ vs id hand_joined (λ k z there j d there'. open-same d.unit ∙ sound.done_closed k z there j d there')
            (λ j d there'. open-same d.unit ∙ sound.done_closed id h at j d there');
        once = λ y. omega (
          arith,
          sound.once y,
          below-set (λ z. times y (listed states heads nexts z)) (λ z. times y (listed states heads' nexts z)) (units_of g) u near (λ z low ne. ap (times y) (list-other z ne)),
          ap (times y) list-here,
          total-set (λ (v : Waits). waits_at y v.waiting) vs id h hand_joined at,
          waits-dropped w y h.waiting x has unit_is,
          total-set (λ (v : Waits). chains_at y v.chains) vs id h hand_joined at,
        );
        ends = λ y low is_now. ends y low (sym (open-same y) ∙ is_now) (cases_eq y u);
        chains = each-set _ vs id hand_joined sound.chains (sound.chains id h at);
        numbers = each-set _ vs id hand_joined sound.numbers (each-dropped _ (is_waiter_at w) h.waiting (sound.numbers id h at));
        linked = each-set _ vs id hand_joined sound.linked (each-dropped _ (is_waiter_at w) h.waiting (sound.linked id h at));
      }
        where
          Ends : ℕ → Type 0
          Ends y = Follows nexts (listed states heads' nexts y) × (link_of (heads' y) ≡ link_to (listed states heads' nexts y))

          ends : (y : ℕ) → y < units_of g → is_open states heads y ≡ true → (y ≡ u) ⊎ (y ≢ u) → Ends y
          ends y low is_was (inl e) =
              let was = sound.ends u near is in
              subst Ends (sym e) (
                subst (Follows nexts) (sym list-here) (next-is ∙ was.1, was.0),
                link_is ∙ ap link_to (sym list-here),
              )
          ends y low is_was (inr ne) =
              let was = sound.ends y low is_was in (
                subst (Follows nexts) (sym (list-other y ne)) was.0,
                ap link_of (others y ne) ∙ was.1 ∙ ap link_to (sym (list-other y ne)),
              )

    -- close: the list of a done record of the hand becomes a chain there
    module _ (near : u < units_of g) (id : ℕ) (h : Waits) (at : At vs id h) (d : Done) (has : Has d h.done) (unit_is : d.unit ≡ u) (not_closed : d.closed ≡ false)
        (done : phase_of (states u) ≡ 5) (one : total (λ (v : Waits). done_at u v.done) vs ≤ 1) (closes : heads' u ≡ closed_word) where
      abbrev members : List ℕ
      members = listed states heads nexts u

      abbrev hand_closed : Waits
      hand_closed = record h { done = close_in u h.done; chains = with_chain members h.chains }

      abbrev closed_vs : List Waits
      closed_vs = slice_set vs id hand_closed

      -- the list was open
      pub was-open : is_open states heads u ≡ true
      was-open = subst (λ (z : ℕ). is_open states heads z ≡ true) unit_is (sound.done_closed id h at has.0 d has.1 ∙ ap not not_closed)

      now-closed : is_open states heads' u ≡ false
      now-closed = by (is_record (states u)) (ap not (eq-eqb (heads' u) closed_word closes))
        where
          by : (b : Bool) → not (heads' u == closed_word) ≡ false → (b && not (heads' u == closed_word)) ≡ false
          by true e = e
          by false e = refl

      mine : 1 ≤ done_at u h.done
      mine = omega (arith, total-has (λ (z : Done). one_if (z.unit == u)) h.done d has, ap one_if (eq-eqb d.unit u unit_is))

      list-now : listed states heads' nexts u ≡ []
      list-now = ap (λ (b : Bool). cond b (chained nexts (link_of (heads' u)) (length_of (heads' u))) []) now-closed

      -- a list that is open now is another, and was so before
      still-open : (y : ℕ) → is_open states heads' y ≡ true → y ≢ u
      still-open y is e = true≢false (sym is ∙ ap (is_open states heads') e ∙ now-closed)

      -- wait lists are sound after a list was closed
      pub waits-closed : WaitSound states heads' nexts g closed_vs
      waits-closed = record {
        live_open = λ y low live. open-other y (λ e. not_live (subst (λ (z : ℕ). is_live (states z) ≡ true) e live)) ∙ sound.live_open y low live;
        done_open = λ y low phase is. let ne = still-open y is in
            omega (
              arith,
              sound.done_open y low phase (sym (open-other y ne) ∙ is),
              total-set (λ (v : Waits). unclosed_at y v.done) vs id h hand_closed at,
              unclosed-close_in u y ne h.done,
            );
        done_closed = λ k z there. by k z (set_cases vs id k hand_closed z there);
        once = λ y. omega (
          arith,
          sound.once y,
          below-set (λ z. times y (listed states heads nexts z)) (λ z. times y (listed states heads' nexts z)) (units_of g) u near (λ z low ne. ap (times y) (list-other z ne)),
          ap (times y) list-now,
          total-set (λ (v : Waits). waits_at y v.waiting) vs id h hand_closed at,
          total-set (λ (v : Waits). chains_at y v.chains) vs id h hand_closed at,
          chains-with y members h.chains,
        );
        ends = λ y low is. let ne = still-open y is in let was = sound.ends y low (sym (open-other y ne) ∙ is) in (
          subst (Follows nexts) (sym (list-other y ne)) was.0,
          ap link_of (others y ne) ∙ was.1 ∙ ap link_to (sym (list-other y ne)),
        );
        chains = each-set _ vs id hand_closed sound.chains (each-with (Follows nexts) members h.chains (sound.ends u near was-open).0 (sound.chains id h at));
        numbers = each-set _ vs id hand_closed sound.numbers (sound.numbers id h at);
        linked = each-set _ vs id hand_closed sound.linked (sound.linked id h at);
      }
        where
          not_live : ¬ (is_live (states u) ≡ true)
          not_live live = omega (arith, done, live-phase (states u) live)

          by : (k : ℕ) (z : Waits) → ((k ≡ id) × (z ≡ hand_closed)) ⊎ ((k ≢ id) × At vs k z) → Each (λ (x : Done). is_open states heads' x.unit ≡ not x.closed) z.done
          by k z (inl t) = subst (λ (y : Waits). Each (λ (x : Done). is_open states heads' x.unit ≡ not x.closed) y.done) (sym t.1)
              (closed-here u (is_open states heads) (is_open states heads') now-closed open-other h.done
              (omega (arith, one, total-member (λ (v : Waits). done_at u v.done) vs id h at)) (sound.done_closed id h at))
          by k z (inr t) = closed-apart u (is_open states heads) (is_open states heads') now-closed open-other z.done
              (omega (arith, one, mine, total-two_members (λ (v : Waits). done_at u v.done) vs k id z h t.0 t.1 at)) (sound.done_closed k z t.1)

  -- unchain: the first of a chain of the hand is a waiter there
  module _ (id : ℕ) (h : Waits) (at : At vs id h) (u : ℕ) (rest : List ℕ) (has : Has (u ∷ rest) h.chains) where
    abbrev hand_unchained : Waits
    hand_unchained = record h { chains = with_chain rest (dropped (same_list (u ∷ rest)) h.chains); waiting = new_waiter u (number_of (states u)) ∷ h.waiting }

    -- no other chain begins with it
    pub chain-one : (other : List ℕ) → Has (u ∷ other) h.chains → other ≡ rest
    chain-one other has' = by (cases_eq has'.0 has.0)
      where
        in_both : (k j : ℕ) → k ≢ j → At h.chains k (u ∷ other) → At h.chains j (u ∷ rest) → ⊥
        in_both k j ne there there' =
            let two = total-two_members (times u) h.chains k j (u ∷ other) (u ∷ rest) ne there there' in let all = total-member (λ (v : Waits). chains_at u v.chains) vs id h at in
            omega (arith, two, all, one-here u, stands-once u (omega (arith, two, all, one-here u)))

        same_tail : Some (u ∷ other) ≡ Some (u ∷ rest) → other ≡ rest
        same_tail e = ap tail_of (same_some (u ∷ other) (u ∷ rest) e)

        by : (has'.0 ≡ has.0) ⊎ (has'.0 ≢ has.0) → other ≡ rest
        by (inl e) = same_tail (sym has'.1 ∙ ap (slice_get h.chains) e ∙ has.1)
        by (inr ne) = absurd (in_both has'.0 has.0 ne has'.1 has.1)

    -- the next word of the first links to the rest of the chain
    pub next-links : nexts u ≡ link_to rest
    next-links = (sound.chains id h at has.0 (u ∷ rest) has.1).0

    -- wait lists are sound after the first of a chain was taken
    pub waits-unchained : WaitSound states heads nexts g (slice_set vs id hand_unchained)
    waits-unchained = record {
      live_open = sound.live_open;
      done_open = λ y low phase is. omega (arith, sound.done_open y low phase is, total-set (λ (v : Waits). unclosed_at y v.done) vs id h hand_unchained at);
      done_closed = each-set _ vs id hand_unchained sound.done_closed (sound.done_closed id h at);
      once = λ y. omega (
        arith,
        sound.once y,
        total-set (λ (v : Waits). waits_at y v.waiting) vs id h hand_unchained at,
        total-set (λ (v : Waits). chains_at y v.chains) vs id h hand_unchained at,
        chains-with y rest (dropped (same_list (u ∷ rest)) h.chains),
        chains-dropped y (u ∷ rest) h.chains has,
      );
      ends = sound.ends;
      chains = each-set _ vs id hand_unchained sound.chains (each-with (Follows nexts) rest (dropped (same_list (u ∷ rest)) h.chains) (sound.chains id h at has.0 (u ∷ rest) has.1).1
          (each-dropped (Follows nexts) (same_list (u ∷ rest)) h.chains (sound.chains id h at)));
      numbers = each-set _ vs id hand_unchained sound.numbers (each-cons _ (new_waiter u (number_of (states u))) h.waiting refl (sound.numbers id h at));
      linked = each-set _ vs id hand_unchained sound.linked (each-cons _ (new_waiter u (number_of (states u))) h.waiting tt (sound.linked id h at));
    }

  -- finish: a running record is done, its list open
  module _ (id : ℕ) (h : Waits) (at : At vs id h) (u : ℕ) (near : u < units_of g) (states' : ℕ → ℕ) (ran : phase_of (states u) ≡ 4) (done : phase_of (states' u) ≡ 5)
      (none : total (λ (v : Waits). done_at u v.done) vs ≡ 0) (others : (y : ℕ) → y ≢ u → states' y ≡ states y) where
    abbrev hand_finished : Waits
    hand_finished = record h { done = new_done u ∷ h.done }

    records-same : (y : ℕ) → is_record (states' y) ≡ is_record (states y)
    records-same y = elim (cases_eq y u) [
      | inl e ↦ subst (λ (z : ℕ). is_record (states' z) ≡ is_record (states z)) (sym e) (ap (λ (p : ℕ). nat_le 2 p && nat_le p 5) done ∙ sym (ap (λ (p : ℕ). nat_le 2 p && nat_le p 5) ran))
      | inr ne ↦ ap is_record (others y ne)
    ]

    opens-same : (y : ℕ) → is_open states' heads y ≡ is_open states heads y
    opens-same y = ap (λ (b : Bool). b && not (heads y == closed_word)) (records-same y)

    lists-same : (y : ℕ) → listed states' heads nexts y ≡ listed states heads nexts y
    lists-same y = ap (λ (b : Bool). cond b (chained nexts (link_of (heads y)) (length_of (heads y))) []) (opens-same y)

    -- the record stood nowhere
    stood-nowhere : stands states heads nexts g vs u ≡ 0
    stood-nowhere = by (cases_eq (stands states heads nexts g vs u) 0)
      where
        by : (stands states heads nexts g vs u ≡ 0) ⊎ (stands states heads nexts g vs u ≢ 0) → stands states heads nexts g vs u ≡ 0
        by (inl e) = e
        by (inr ne) = absurd (omega (arith, ran, stands-once u (omega (arith, ne))))

    waits-same : (y : ℕ) → cond (nat_lt y (units_of g)) (one_if (phase_of (states' y) == 2)) 0 ≡ cond (nat_lt y (units_of g)) (one_if (phase_of (states y) == 2)) 0
    waits-same y = ap (λ (b : Bool). cond (nat_lt y (units_of g)) (one_if b) 0) (test (cases_eq y u))
      where
        test : (y ≡ u) ⊎ (y ≢ u) → (phase_of (states' y) == 2) ≡ (phase_of (states y) == 2)
        test (inl e) = subst (λ (z : ℕ). (phase_of (states' z) == 2) ≡ (phase_of (states z) == 2)) (sym e) (ap (λ (p : ℕ). p == 2) done ∙ sym (ap (λ (p : ℕ). p == 2) ran))
        test (inr ne) = ap (λ (n : ℕ). phase_of n == 2) (others y ne)

    -- a waiter is another record
    waiter-other : (k : ℕ) (z : Waits) → At vs k z → (j : ℕ) (x : Waiter) → At z.waiting j x → x.unit ≢ u
    waiter-other k z there j x there' e =
        let t = waiter-stands k z there x.unit (waits-counts z.waiting x (j, there')) in omega (arith, ran, t.1, ap (λ (y : ℕ). phase_of (states y)) e)

    waiters-numbered : Each (λ (v : Waits). Each (λ (x : Waiter). x.number ≡ number_of (states' x.unit)) v.waiting) vs
    waiters-numbered k z there j x there' = sound.numbers k z there j x there' ∙ ap number_of (sym (others x.unit (waiter-other k z there j x there')))

    -- wait lists are sound after a record finished
    pub waits-finished : WaitSound states' heads nexts g (slice_set vs id hand_finished)
    waits-finished = record {
      live_open = λ y low live. opens-same y ∙ sound.live_open y low (ap is_live (sym (others y (λ e. not_live (subst (λ (z : ℕ). is_live (states' z) ≡ true) e live)))) ∙ live);
      done_open = λ y low phase is. to_close y low phase is (cases_eq y u);
      done_closed = each-set _ vs id hand_finished (λ k z there j d there'. opens-same d.unit ∙ sound.done_closed k z there j d there')
          (each-cons _ (new_done u) h.done (opens-same u ∙ sound.live_open u near is_live_there) (λ j d there'. opens-same d.unit ∙ sound.done_closed id h at j d there'));
      once = λ y. omega (
        arith,
        sound.once y,
        waits-same y,
        below-same (λ z. times y (listed states' heads nexts z)) (λ z. times y (listed states heads nexts z)) (units_of g) (λ z low. ap (times y) (lists-same z)),
        total-set (λ (v : Waits). waits_at y v.waiting) vs id h hand_finished at,
        total-set (λ (v : Waits). chains_at y v.chains) vs id h hand_finished at,
      );
      ends = λ y low is. let was = sound.ends y low (sym (opens-same y) ∙ is) in (
        subst (Follows nexts) (sym (lists-same y)) was.0,
        was.1 ∙ ap link_to (sym (lists-same y)),
      );
      chains = each-set _ vs id hand_finished sound.chains (sound.chains id h at);
      numbers = each-set _ vs id hand_finished waiters-numbered (waiters-numbered id h at);
      linked = each-set _ vs id hand_finished sound.linked (sound.linked id h at);
    }
      where
        not_live : ¬ (is_live (states' u) ≡ true)
        not_live live = omega (arith, done, live-phase (states' u) live)

        is_live_there : is_live (states u) ≡ true
        is_live_there = ap (λ (p : ℕ). nat_le 2 p && nat_le p 4) ran

        to_close : (y : ℕ) → y < units_of g → phase_of (states' y) ≡ 5 → is_open states' heads y ≡ true → (y ≡ u) ⊎ (y ≢ u)
            → total (λ (v : Waits). unclosed_at y v.done) (slice_set vs id hand_finished) ≡ 1
        to_close y low phase is (inl e) = subst (λ (z : ℕ). total (λ (v : Waits). unclosed_at z v.done) (slice_set vs id hand_finished) ≡ 1) (sym e) (omega (
          arith,
          none,
          total-le (λ (v : Waits). unclosed_at u v.done) (λ (v : Waits). done_at u v.done) vs (λ k z there. unclosed-few u z.done),
          total-set (λ (v : Waits). unclosed_at u v.done) vs id h hand_finished at,
          one-here u,
        ))
        to_close y low phase is (inr ne) = omega (
          arith,
          sound.done_open y low (ap phase_of (sym (others y ne)) ∙ phase) (sym (opens-same y) ∙ is),
          total-set (λ (v : Waits). unclosed_at y v.done) vs id h hand_finished at,
          one-apart u y (λ e. ne (sym e)),
        )
