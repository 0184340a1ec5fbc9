-- The steps on references, and loads, keep the scheduler's rule. A reference may go where what is left is enough for the frames
-- that run.
use Rattle.std.proofs.Common.{◌≡◌, ℕ, ◌+◌, ◌%◌, ◌^◌, ◌-◌, ◌<◌, ◌≤◌, Bool, cond, true, List, ◌∷◌, map, length, Some, refl, sym, ap, subst, arith, ◌∙◌}
use Rattle.std.specs.Prelude.{slice_set, slice_get}
use Rattle.std.proofs.lemmas.Bool.{eq-eqb, eqb-true}
use Rattle.record_core.specs.Counting.{At, Has, times}
use Rattle.record_core.proofs.TotalFacts.{total-set, total-member}
use Rattle.record_core.proofs.CountFacts.{total-dropped, passing-one}
use Rattle.kt_words.specs.StateWords.{IsStateWord}
use Rattle.task_syntax.specs.declared.program.Program.{Program}
use Rattle.table_core.proofs.ReferenceBound.{in-few}
use Rattle.table_core.specs.Parts.{own, seen as table_seen}
use Rattle.table_core.specs.Addresses.{Addr, Mem, state, refs, put, units_of}
use Rattle.table_core.specs.Holdings.{Done}
use Rattle.table_core.specs.Own.{known_in, Hands, done_at}
use Rattle.table_core.specs.RecordViews.{referred, lessened, gave_up, is_done_at, learnt, saw_state}
use Rattle.table_core.specs.Story.{Story}
use Rattle.table_core.specs.Views.{saw}
use Rattle.table_core.specs.declared.setup.Setup.{Setup}
use Rattle.table_core.specs.declared.view.View.{View}
use Rattle.table_core.proofs.AddressFacts.{put-again}
use Rattle.table_core.proofs.ListFacts.{at_map, each-dropped, each-set, same_some}
use Rattle.table_core.proofs.ReferenceKinds.{mores-at as table-mores, lessens-at as table-lessens, gives-up-at as table-gives-up}
use Rattle.table_core.proofs.FillKinds.{reads-at as table-reads, sees-state-at as table-sees-state}
use Rattle.schedule_rule.specs.Frames.{Bagged, BagSound}
use Rattle.schedule_rule.specs.Counts.{lives_in, CountedSound}
use Rattle.schedule_rule.specs.Parts.{Part, bags, live, classes, seen, Says, AllSay, Keeps, counted_lives}
use Rattle.schedule_rule.proofs.Rule.{frames, moves, same-story}

-- without what goes, the references are enough for the frames that run, if they were
abbrev pub StillEnough : Program → View → View → Type 0
StillEnough p v w = BagSound p (seen bags v) → BagSound p (seen bags w)

-- one reference more is enough still
pub bag-more : (p : Program) (u : ℕ) (v : Bagged) → BagSound p v → BagSound p (record v { futures = u ∷ v.futures })
bag-more p u v was = record { pairs = was.pairs; are_runs = was.are_runs; covers = was.covers; enough = λ w. omega (arith, was.enough w) }

module _ (g : Setup) (id : ℕ) (v : View) where
  module _ (m : Mem) (vs : List View) (s : Story) (l : AllSay g s m vs) (at : At vs id v) where
    -- a word that is written as it was
    as-it-was : (a : Addr) (q : Part) → Says g q s (put m a (m a)) (map (seen q) vs)
    as-it-was a q = subst (λ (x : Mem). Says g q s x (map (seen q) vs)) (sym (put-again m a)) (l.schedule q)

    was_bag : BagSound g.checked (seen bags v)
    was_bag = l.schedule bags id (seen bags v) (at_map (seen bags) vs id v at)

    more-says : (u n : ℕ) (q : Part) → Says g q s (put m (refs u) n) (map (seen q) (slice_set vs id (saw (refs u) (m (refs u)) (referred u v))))
    more-says u n bags = moves g vs id v at bags s (put m (refs u) n) (saw (refs u) (m (refs u)) (referred u v)) (each-set (BagSound g.checked) (map (seen bags) vs) id _ (l.schedule bags) (bag-more g.checked u (seen bags v) was_bag))
    more-says u n q = frames g vs id v at q s (put m (refs u) n) (saw (refs u) (m (refs u)) (referred u v)) refl (l.schedule q)

    less-says : (u n : ℕ) → StillEnough g.checked v (lessened u (m (refs u)) v) → (q : Part)
        → Says g q s (put m (refs u) n) (map (seen q) (slice_set vs id (saw (refs u) (m (refs u)) (lessened u (m (refs u)) v))))
    less-says u n still bags = moves g vs id v at bags s (put m (refs u) n) (saw (refs u) (m (refs u)) (lessened u (m (refs u)) v))
        (each-set (BagSound g.checked) (map (seen bags) vs) id _ (l.schedule bags) (still was_bag))
    less-says u n still q = frames g vs id v at q s (put m (refs u) n) (saw (refs u) (m (refs u)) (lessened u (m (refs u)) v)) refl (l.schedule q)

    give_up-says : (u n : ℕ) (d : Done) → Has d v.done → d.unit ≡ u → ((x : Done) → Has x v.done → x.unit ≡ u → x.out ≡ true) → (q : Part)
        → Says g q s (put m (refs u) n) (map (seen q) (slice_set vs id (saw (refs u) (m (refs u)) (gave_up u (m (refs u)) v))))
    give_up-says u n d has unit_is out live = moves g vs id v at live s (put m (refs u) n) (saw (refs u) (m (refs u)) (gave_up u (m (refs u)) v))
        (omega (
          arith,
          l.schedule live,
          total-set lives_in (map (seen live) vs) id (seen live v) (seen live (gave_up u (m (refs u)) v)) (at_map (seen live) vs id v at),
          total-dropped (λ (x : Done). cond x.out 0 1) (is_done_at u) 0 v.done (λ k x there here. ap (λ (b : Bool). cond b 0 1) (out x (k, there) (eqb-true x.unit u here)))
              (record { member = d; there = has; passes = eq-eqb d.unit u unit_is }),
        ))
    give_up-says u n d has unit_is out counted_lives = moves g vs id v at counted_lives s (put m (refs u) n) (saw (refs u) (m (refs u)) (gave_up u (m (refs u)) v))
        (let was : CountedSound (seen counted_lives v) = l.schedule counted_lives id (seen counted_lives v) (at_map (seen counted_lives) vs id v at) in
        each-set CountedSound (map (seen counted_lives) vs) id (seen counted_lives (saw (refs u) (m (refs u)) (gave_up u (m (refs u)) v))) (l.schedule counted_lives) (record { made = was.made; done = each-dropped _ (is_done_at u) v.done was.done }))
    give_up-says u n d has unit_is out q = frames g vs id v at q s (put m (refs u) n) (saw (refs u) (m (refs u)) (gave_up u (m (refs u)) v)) refl (l.schedule q)

    -- a hand has one done record at most at a unit
    only-out : (u : ℕ) (d : Done) → Has d v.done → d.unit ≡ u → d.out ≡ true → (x : Done) → Has x v.done → x.unit ≡ u → x.out ≡ true
    only-out u d has unit_is out x there here =
        let owners : List Hands = map (table_seen own) vs in
        let few : done_at u v.done ≤ 1 = omega (arith, (l.table own).done u, in-few g m vs s l.table 5 u, total-member (λ (h : Hands). done_at u h.done) owners id (table_seen own v) (at_map (table_seen own) vs id v at)) in
        let same = passing-one (is_done_at u) v.done there.0 has.0 x d few there.1 (eq-eqb x.unit u here) has.1 (eq-eqb d.unit u unit_is) in
        ap (λ (y : Done). y.out) (same_some x d (sym there.1 ∙ ap (slice_get v.done) same ∙ has.1)) ∙ out

    read-says : (a : Addr) (q : Part) → Says g q s (put m a (m a)) (map (seen q) (slice_set vs id (saw a (m a) (learnt a (m a) v))))
    read-says a classes = frames g vs id v at classes s (put m a (m a)) (saw a (m a) (learnt a (m a) v)) refl (as-it-was a classes)
    read-says a q = frames g vs id v at q s (put m a (m a)) (saw a (m a) (learnt a (m a) v)) refl (as-it-was a q)

    state-says : (u : ℕ) (q : Part) → Says g q s (put m (state u) (m (state u))) (map (seen q) (slice_set vs id (saw (state u) (m (state u)) (saw_state u (m (state u)) v))))
    state-says u classes = frames g vs id v at classes s (put m (state u) (m (state u))) (saw (state u) (m (state u)) (saw_state u (m (state u)) v)) refl (as-it-was (state u) classes)
    state-says u q = frames g vs id v at q s (put m (state u) (m (state u))) (saw (state u) (m (state u)) (saw_state u (m (state u)) v)) refl (as-it-was (state u) q)

  -- more
  pub mores-at : (u : ℕ) → u < units_of g.plan → 1 ≤ v.parts → 1 ≤ times u v.futures → length v.futures < 4294967296
      → Keeps g id v (refs u) (λ n. (n + 1) % 2 ^ 64) (λ r w. w ≡ saw (refs u) r (referred u v))
  mores-at u near in_use has room m vs s l at small =
      let t = table-mores g id v u near in_use has room m vs s l.table at small in
      (t.0, (s, same-story s, record { table = t.1; schedule = λ q. subst (λ (x : View). Says g q s (put m (refs u) ((m (refs u) + 1) % 2 ^ 64)) (map (seen q) (slice_set vs id x))) (sym t.2) (more-says m vs s l at u ((m (refs u) + 1) % 2 ^ 64) q) }), t.2, t.3)

  -- less
  pub lessens-at : (u : ℕ) → u < units_of g.plan → 1 ≤ v.parts → 1 ≤ times u v.futures → ((n : ℕ) → StillEnough g.checked v (lessened u n v))
      → Keeps g id v (refs u) (λ n. (n + (2 ^ 64 - 1)) % 2 ^ 64) (λ r w. w ≡ saw (refs u) r (lessened u r v))
  lessens-at u near in_use has still m vs s l at small =
      let t = table-lessens g id v u near in_use has m vs s l.table at small in let n : ℕ = (m (refs u) + (2 ^ 64 - 1)) % 2 ^ 64 in
      (t.0, (s, same-story s, record { table = t.1; schedule = λ q. subst (λ (x : View). Says g q s (put m (refs u) n) (map (seen q) (slice_set vs id x))) (sym t.2) (less-says m vs s l at u n (still (m (refs u))) q) }), t.2, t.3)

  -- give up, once the list is closed and the record counted out
  pub gives-up-at : (u : ℕ) → u < units_of g.plan → 1 ≤ v.parts → (d : Done) → Has d v.done → d.unit ≡ u → d.closed ≡ true → d.out ≡ true
      → Keeps g id v (refs u) (λ n. (n + (2 ^ 64 - 1)) % 2 ^ 64) (λ r w. w ≡ saw (refs u) r (gave_up u r v))
  gives-up-at u near in_use d has unit_is closed out m vs s l at small =
      let t = table-gives-up g id v u near in_use d has unit_is closed m vs s l.table at small in let n : ℕ = (m (refs u) + (2 ^ 64 - 1)) % 2 ^ 64 in
      (t.0, (s, same-story s, record { table = t.1; schedule = λ q. subst (λ (x : View). Says g q s (put m (refs u) n) (map (seen q) (slice_set vs id x))) (sym t.2) (give_up-says m vs s l at u n d has unit_is (only-out m vs s l at u d has unit_is out) q) }), t.2, t.3)

  -- read own
  pub reads-at : (a : Addr) → Keeps g id v a (λ n. n) (λ r w. (w ≡ saw a r (learnt a r v)) × ((n : ℕ) → known_in a v.known ≡ Some n → r ≡ n))
  reads-at a m vs s l at small =
      let t = table-reads g id v a m vs s l.table at small in
      (t.0, (s, same-story s, record { table = t.1; schedule = λ q. subst (λ (x : View). Says g q s (put m a (m a)) (map (seen q) (slice_set vs id x))) (sym t.2.0) (read-says m vs s l at a q) }), t.2, t.3)

  -- see state
  pub sees-state-at : (u : ℕ) → u < units_of g.plan → Keeps g id v (state u) (λ n. n) (λ r w. (w ≡ saw (state u) r (saw_state u r v)) × IsStateWord r)
  sees-state-at u near m vs s l at small =
      let t = table-sees-state g id v u near m vs s l.table at small in
      (t.0, (s, same-story s, record { table = t.1; schedule = λ q. subst (λ (x : View). Says g q s (put m (state u) (m (state u))) (map (seen q) (slice_set vs id x))) (sym t.2.0) (state-says m vs s l at u q) }), t.2, t.3)
