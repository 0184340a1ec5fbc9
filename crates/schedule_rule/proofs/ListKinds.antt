-- A list is closed, or the first of a chain taken, and the scheduler's rule is kept: what was taken is behind a task that is over.
use Rattle.std.proofs.Common.{◌≡◌, ◌≢◌, ◌∙◌, ◌⊎◌, inl, inr, ℕ, ◌+◌, ◌<◌, ◌≤◌, ◌==◌, ◌&&◌, Bool, true, false, cond, not, Option, Some, None, List, [], ◌∷◌, ◌++◌, map, refl, sym, ap, subst, arith}
use Rattle.std.specs.Prelude.{slice_set, IfSome}
use Rattle.std.proofs.lemmas.Bool.{cases_eq, eq-eqb}
use Rattle.record_core.specs.Sums.{total}
use Rattle.record_core.specs.Counting.{At, Has, times, dropped}
use Rattle.record_core.proofs.TotalFacts.{none_there, total-set, total-member}
use Rattle.record_core.proofs.NumberFacts.{numbered_member}
use Rattle.kt_words.specs.HeadWords.{closed_word, link_of, length_of}
use Rattle.kt_words.specs.StateWords.{phase_of, number_of}
use Rattle.task_meaning.specs.Worths.{Accepted}
use Rattle.table_core.specs.Addresses.{Mem, super, state, head, next, put, units_of}
use Rattle.table_core.specs.Holdings.{Done}
use Rattle.table_core.specs.Lists.{Each}
use Rattle.table_core.specs.Own.{record_words}
use Rattle.table_core.specs.Parts.{own, waits, seen as table_seen}
use Rattle.table_core.specs.References.{is_saved, is_record}
use Rattle.table_core.specs.Story.{Story, Outcome, WasCut, Fact, IsAccepted, IsOver}
use Rattle.table_core.specs.Asking.{Null, IsNull}
use Rattle.table_core.specs.Views.{saw}
use Rattle.table_core.specs.WaitLists.{chained, listed, is_open}
use Rattle.table_core.specs.WaitViews.{close_in, closed_list, same_list, unchained}
use Rattle.table_core.specs.declared.setup.Setup.{Setup}
use Rattle.table_core.specs.declared.view.View.{View}
use Rattle.table_core.proofs.ListFacts.{at_map, each-set, each-dropped, each-cons, each-none, each-tail}
use Rattle.table_core.proofs.FillKinds.{head-other}
use Rattle.table_core.proofs.ListKinds.{IsTaken, close-parts as close-table, close-taken}
use Rattle.table_core.proofs.AddressFacts.{put-again}
use Rattle.table_core.proofs.BagFacts.{one-here}
use Rattle.table_core.proofs.OwnFacts.{done-phase, done-counts}
use Rattle.table_core.proofs.Rule.{kept_word}
use Rattle.table_core.proofs.WaitFacts.{chain-waits}
use Rattle.table_core.proofs.WaitKinds.{IsRest, unchain-parts as unchain-table, unchains-at as table-unchains}
use Rattle.table_core.proofs.WaiterFacts.{each-with}
use Rattle.schedule_rule.specs.Calls.{AtNumber, after_in, after_of, IsNumber, IsComplete, Ended, IsSo}
use Rattle.schedule_rule.specs.Counts.{lives_in, CountedSound}
use Rattle.schedule_rule.specs.LifeViews.{knowing, MayStart, Unchained}
use Rattle.schedule_rule.specs.Parts.{Part, facts, owners, live, behind, seen, Says, AllSay, Keeps, counted_lives}
use Rattle.schedule_rule.proofs.KnowingFacts.{table-knowing, done-complete, facts-known}
use Rattle.schedule_rule.proofs.RecordKinds.{chained-waits}
use Rattle.schedule_rule.proofs.Rule.{frames, moves, same-story}
use Rattle.schedule_rule.proofs.StateFacts.{saved-record}

head-here : (m : Mem) (u n : ℕ) → put m (head u) n (head u) ≡ n
head-here m u n = ap (λ (b : Bool). cond b n (m (head u))) (eq-eqb u u refl)

-- what is counted out stays so where a list is closed
outs-close_in : (u : ℕ) (l : List Done) → total (λ (d : Done). cond d.out 0 1) (close_in u l) ≡ total (λ (d : Done). cond d.out 0 1) l
outs-close_in u [] = refl
outs-close_in u (d ∷ l) = by (d.unit == u) (outs-close_in u l)
  where
    by : (b : Bool) → total (λ (x : Done). cond x.out 0 1) (close_in u l) ≡ total (λ (x : Done). cond x.out 0 1) l
        → total (λ (x : Done). cond x.out 0 1) (cond b (record d { closed = true } ∷ l) (d ∷ close_in u l)) ≡ cond d.out 0 1 + total (λ (x : Done). cond x.out 0 1) l
    by true rest = refl
    by false rest = ap (λ (n : ℕ). cond d.out 0 1 + n) rest

-- what is counted out has a closed list still
counted-close_in : (u : ℕ) (l : List Done) → Each (λ (d : Done). d.out ≡ true → d.closed ≡ true) l → Each (λ (d : Done). d.out ≡ true → d.closed ≡ true) (close_in u l)
counted-close_in u [] all = all
counted-close_in u (d ∷ l) all = by (d.unit == u) (counted-close_in u l (each-tail _ d l all))
  where
    by : (b : Bool) → Each (λ (x : Done). x.out ≡ true → x.closed ≡ true) (close_in u l) → Each (λ (x : Done). x.out ≡ true → x.closed ≡ true) (cond b (record d { closed = true } ∷ l) (d ∷ close_in u l))
    by true rest = each-cons _ (record d { closed = true }) l (λ _. refl) (each-tail _ d l all)
    by false rest = each-cons _ d (close_in u l) (all 0 d refl) rest

-- what is known of a waiter that may start: its call, and the end of its predecessor
abbrev over-facts : Option ℕ → Outcome → List Fact
over-facts None outcome = []
over-facts (Some t) outcome = IsOver t outcome ∷ []

module _ (g : Setup) (id : ℕ) (v : View) where
  module _ (m : Mem) (vs : List View) (s : Story) (l : AllSay g s m vs) (at : At vs id v) where
    abbrev states : ℕ → ℕ
    states w = m (state w)

    abbrev heads : ℕ → ℕ
    heads w = m (head w)

    abbrev nexts : ℕ → ℕ
    nexts w = m (next w)

    was_behind : Each (Each (λ w. IfSome (after_of s.calls (number_of (states w))) (IsComplete s.ends))) v.chains
    was_behind = (l.schedule behind).chained_behind id v.chains (at_map (seen behind) vs id v at)

    -- close
    module _ (d : Done) (has : Has d v.done) where
      abbrev u : ℕ
      u = d.unit

      abbrev taken : List ℕ
      taken = listed states heads nexts u

      abbrev after_close : View
      after_close = saw (head u) (heads u) (closed_list u taken v)

      abbrev heads' : ℕ → ℕ
      heads' w = put m (head u) closed_word (head w)

      done_there : (u < units_of g.plan) × (phase_of (states u) ≡ 5)
      done_there = done-phase g.plan (λ i. m (super i)) states (record_words m) (map (table_seen own) vs) (l.table own) id (table_seen own v) (at_map (table_seen own) vs id v at) u (done-counts v.done d has)

      -- lists afterwards are those from before, but for that of u, which is empty
      closed-off : (w : ℕ) → is_open states heads' w ≡ false → listed states heads' nexts w ≡ []
      closed-off w e = ap (λ (b : Bool). cond b (chained nexts (link_of (heads' w)) (length_of (heads' w))) []) e

      shut : is_open states heads' u ≡ false
      shut = by (is_record (states u)) (ap not (eq-eqb (heads' u) closed_word (head-here m u closed_word)))
        where
          by : (b : Bool) → not (heads' u == closed_word) ≡ false → (b && not (heads' u == closed_word)) ≡ false
          by true e = e
          by false e = refl

      listed-was : (k w : ℕ) → Has w (listed states heads' nexts k) → Has w (listed states heads nexts k)
      listed-was k w there = by (cases_eq k u)
        where
          by : (k ≡ u) ⊎ (k ≢ u) → Has w (listed states heads nexts k)
          by (inl e) = absurd (none_there w (subst (λ (x : List ℕ). At x there.0 w) (ap (listed states heads' nexts) e ∙ closed-off u shut) there.1))
          by (inr ne) = subst (λ (h : ℕ). Has w (cond (is_record (states k) && not (h == closed_word)) (chained nexts (link_of h) (length_of h)) [])) (head-other m u closed_word k ne) there

      -- those that are taken are behind the task of u, which is over
      taken-behind : Each (λ w. IfSome (after_of s.calls (number_of (states w))) (IsComplete s.ends)) taken
      taken-behind k w there = subst (λ (o : Option ℕ). IfSome o (IsComplete s.ends)) (sym ((l.schedule behind).listed_behind u w done_there.0 (k, there))) (done-complete g m vs s l u done_there.0 done_there.1)

      close-says : (q : Part) → Says g q s (put m (head u) closed_word) (map (seen q) (slice_set vs id after_close))
      close-says live = moves g vs id v at live s (put m (head u) closed_word) after_close
          (omega (arith, l.schedule live, total-set lives_in (map (seen live) vs) id (seen live v) (seen live after_close) (at_map (seen live) vs id v at), outs-close_in u v.done))
      close-says counted_lives = moves g vs id v at counted_lives s (put m (head u) closed_word) after_close
          (let was : CountedSound (seen counted_lives v) = l.schedule counted_lives id (seen counted_lives v) (at_map (seen counted_lives) vs id v at) in
          each-set CountedSound (map (seen counted_lives) vs) id (seen counted_lives after_close) (l.schedule counted_lives) (record { made = was.made; done = counted-close_in u v.done was.done }))
      close-says behind = moves g vs id v at behind s (put m (head u) closed_word) after_close (record {
        listed_behind = λ k w near there. (l.schedule behind).listed_behind k w near (listed-was k w there);
        chained_behind = each-set _ (map (seen behind) vs) id (seen behind after_close) (l.schedule behind).chained_behind (each-with _ taken v.chains taken-behind was_behind);
      })
      close-says q = frames g vs id v at q s (put m (head u) closed_word) after_close refl (l.schedule q)

    -- unchain
    module _ (u : ℕ) (rest : List ℕ) (has : Has (u ∷ rest) v.chains) where
      abbrev number : ℕ
      number = number_of (states u)

      waits_here : is_saved (states u) ≡ true
      waits_here = chained-waits g id v m vs s l at id v.chains has.0 (u ∷ rest) 0 u (at_map (seen behind) vs id v at) has.1 refl

      near : u < units_of g.plan
      near = (chain-waits states heads nexts g.plan (map (table_seen waits) vs) (l.table waits) id (table_seen waits v) (at_map (table_seen waits) vs id v at) u
          (omega (arith, total-member (times u) v.chains has.0 (u ∷ rest) has.1, one-here u))).0

      accepted : IsNumber s.calls number
      accepted = ((l.schedule owners).is_of u near (saved-record (states u) waits_here)).0

      its_call : (call : Accepted) × AtNumber s.calls number call
      its_call = numbered_member s.calls number accepted.0 accepted.1

      -- its predecessor is over, if it has one
      its_end : (o : Option ℕ) → IfSome o (IsComplete s.ends) → (outcome : Outcome) × IfSome o (λ t. Ended s.ends t outcome)
      its_end None over = (WasCut Null IsNull, over)
      its_end (Some t) over = over

      end_is : (outcome : Outcome) × IfSome (after_in (Some its_call.0)) (λ t. Ended s.ends t outcome)
      end_is = its_end (after_in (Some its_call.0)) (subst (λ (c : Option Accepted). IfSome (after_in c) (IsComplete s.ends)) its_call.1 (was_behind has.0 (u ∷ rest) has.1 0 u refl))

      abbrev more : List Fact
      more = IsAccepted number its_call.0 ∷ over-facts (after_in (Some its_call.0)) end_is.0

      over-so : (o : Option ℕ) (outcome : Outcome) → IfSome o (λ t. Ended s.ends t outcome) → Each (IsSo s.calls s.ends) (over-facts o outcome)
      over-so None outcome over = each-none (IsSo s.calls s.ends)
      over-so (Some t) outcome over = each-cons (IsSo s.calls s.ends) (IsOver t outcome) [] over (each-none (IsSo s.calls s.ends))

      more-so : Each (IsSo s.calls s.ends) more
      more-so = each-cons (IsSo s.calls s.ends) (IsAccepted number its_call.0) (over-facts (after_in (Some its_call.0)) end_is.0) its_call.1 (over-so (after_in (Some its_call.0)) end_is.0 end_is.1)

      abbrev after_unchain : View
      after_unchain = knowing more (saw (next u) (nexts u) (unchained u number rest v))

      knows-over : (o : Option ℕ) (outcome : Outcome) (old : List Fact) → IfSome o (λ t. (e : Outcome) × Has (IsOver t e) (IsAccepted number its_call.0 ∷ (over-facts o outcome ++ old)))
      knows-over None outcome old = tt
      knows-over (Some t) outcome old = (outcome, (1, refl))

      may-start : MayStart after_unchain number
      may-start = (its_call.0, (0, refl), knows-over (after_in (Some its_call.0)) end_is.0 v.facts)

      as-it-was : (q : Part) → Says g q s (put m (next u) (nexts u)) (map (seen q) vs)
      as-it-was q = subst (λ (x : Mem). Says g q s x (map (seen q) vs)) (sym (put-again m (next u))) (l.schedule q)

      unchain-says : (q : Part) → Says g q s (put m (next u) (nexts u)) (map (seen q) (slice_set vs id after_unchain))
      unchain-says facts = moves g vs id v at facts s (put m (next u) (nexts u)) after_unchain (facts-known g m vs s l id v at more more-so)
      unchain-says behind = moves g vs id v at behind s (put m (next u) (nexts u)) after_unchain (record {
        listed_behind = (as-it-was behind).listed_behind;
        chained_behind = each-set _ (map (seen behind) vs) id (seen behind after_unchain) (as-it-was behind).chained_behind
            (each-with _ rest (dropped (same_list (u ∷ rest)) v.chains) (each-tail _ u rest (was_behind has.0 (u ∷ rest) has.1)) (each-dropped _ (same_list (u ∷ rest)) v.chains was_behind));
      })
      unchain-says q = frames g vs id v at q s (put m (next u) (nexts u)) after_unchain refl (as-it-was q)

  -- close: a done record of the hand whose list is open
  pub closes-at : (d : Done) → Has d v.done → d.closed ≡ false → 1 ≤ v.parts
      → Keeps g id v (head d.unit) (λ n. closed_word) (λ r w. (members : List ℕ) × (w ≡ saw (head d.unit) r (closed_list d.unit members v)) × IsTaken g.plan r members)
  closes-at d has unclosed in_use m vs s l at small = (
    after_close m vs s l at d has,
    (s, same-story s, record { table = close-table g id v m vs s l.table at d has unclosed in_use; schedule = close-says m vs s l at d has }),
    (taken m vs s l at d has, refl, close-taken g id v m vs s l.table at d has unclosed in_use),
    (refl, refl, inl refl),
  )

  -- unchain: the first of a chain of the hand
  pub unchains-at : (u : ℕ) (members : List ℕ) → Has (u ∷ members) v.chains → 1 ≤ v.parts
      → Keeps g id v (next u) (λ n. n) (λ r w. (rest : List ℕ) × Unchained u v r rest w × IsRest v.chains u r rest)
  unchains-at u members has in_use m vs s l at small = (
    after_unchain m vs s l at u members has,
    (
      s,
      same-story s,
      record {
        table = table-knowing g s (put m (next u) (m (next u))) vs id (more m vs s l at u members has) (saw (next u) (m (next u)) (unchained u (number m vs s l at u members has) members v))
            (kept_word g s m (next u) (m (next u)) _ refl (unchain-table g id v m vs s l.table at u members has in_use));
        schedule = unchain-says m vs s l at u members has;
      },
    ),
    (members, (number m vs s l at u members has, more m vs s l at u members has, refl, may-start m vs s l at u members has), is_rest),
    (refl, refl, inl refl),
  )
    where
      is_rest : IsRest v.chains u (m (next u)) members
      is_rest = let told = (table-unchains g id v u members has in_use m vs s l.table at small).2 in subst (IsRest v.chains u (m (next u))) (sym (told.3.only members has)) told.3
