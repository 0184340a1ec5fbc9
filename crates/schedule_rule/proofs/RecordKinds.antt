-- A record is made in a block, or unmade: the scheduler's rule is kept, since nobody refers to it and it has no number.
use Rattle.std.proofs.Common.{◌≡◌, ◌≢◌, ◌∙◌, inl, inr, ℕ, zero, suc, ◌<◌, ◌≤◌, ◌==◌, Bool, true, false, cond, List, [], ◌∷◌, map, refl, sym, ap, subst, true≢false, arith}
use Rattle.std.specs.Prelude.{slice_set, nat_le, ◌&&◌}
use Rattle.std.proofs.lemmas.Bool.{eq-eqb, ne_eqb, eqb-true, and_from, le-leb}
use Rattle.record_core.specs.Sums.{total}
use Rattle.record_core.specs.Counting.{At, Has, one_if, times, dropped}
use Rattle.record_core.proofs.TotalFacts.{none_there as no_member, total-set, total-member}
use Rattle.record_core.proofs.CountFacts.{total-dropped, times-some}
use Rattle.record_core.proofs.BelowFacts.{below-member}
use Rattle.record_core.specs.Sums.{below}
use Rattle.kt_words.specs.StateWords.{phase_of}
use Rattle.table_core.specs.Addresses.{Mem, super, sum, state, head, next, task, put, units_of, frame_in, outcome}
use Rattle.table_core.specs.Asking.{Drawn}
use Rattle.table_core.specs.Holdings.{Block, Made}
use Rattle.table_core.specs.References.{is_saved, is_live, is_record}
use Rattle.table_core.specs.RecordViews.{founded, unmade, new_made, is_made_at}
use Rattle.table_core.specs.Story.{Story}
use Rattle.table_core.specs.Views.{saw}
use Rattle.table_core.specs.WaitLists.{listed, chains_at}
use Rattle.table_core.specs.Parts.{waits, seen as table_seen}
use Rattle.table_core.specs.declared.setup.Setup.{Setup}
use Rattle.table_core.specs.declared.view.View.{View}
use Rattle.table_core.proofs.ListFacts.{at_map, map_at, each-set, each-cons, each-dropped, total-has, same_some}
use Rattle.table_core.proofs.RecordKinds.{none_there, made_there, made_few, block_is, same-test, state-other, found-parts as found-table, unmake-parts as unmake-table}
use Rattle.table_core.proofs.RecordWords.{made-one}
use Rattle.table_core.proofs.WaitFacts.{standing, chain-waits}
use Rattle.schedule_rule.specs.Rows.{drawn_at}
use Rattle.schedule_rule.specs.Numbers.{in_hand}
use Rattle.schedule_rule.specs.Askers.{AskedSound, IsFirstOf}
use Rattle.schedule_rule.specs.Counts.{lives_in, CountedSound}
use Rattle.schedule_rule.specs.Parts.{Part, places, askers, framed, owners, live, classes, behind, seen, Says, AllSay, Keeps, formed, results, begun, counted_lives}
use Rattle.schedule_rule.proofs.Rule.{frames, moves, same-story}
use Rattle.schedule_rule.proofs.StateFacts.{saved-record, AreAlike, places-alike, owners-alike, framed-alike, live-alike, classes-alike, behind-alike, formed-alike, results-alike, begun-alike}

-- what does not pass is not dropped
pub has-left : {A : Type 0} (p : A → Bool) (l : List A) (x : A) → p x ≡ false → Has x l → Has x (dropped p l)
has-left p [] x not has = absurd (no_member x has.1)
has-left {A} p (y ∷ l) x not has = by (p y) refl (has-left p l x not) has.0 has.1
  where
    by : (b : Bool) → p y ≡ b → (Has x l → Has x (dropped p l)) → (k : ℕ) → At (y ∷ l) k x → Has x (cond b l (y ∷ dropped p l))
    by true e rest zero here = absurd (true≢false (sym e ∙ ap p (same_some y x here) ∙ not))
    by true e rest (suc k) there = (k, there)
    by false e rest zero here = (0, here)
    by false e rest (suc k) there = let t = rest (k, there) in (suc t.0, t.1)

pub has-more : {A : Type 0} (y : A) (l : List A) (x : A) → Has x l → Has x (y ∷ l)
has-more y l x has = (suc has.0, has.1)

-- the tests of a state word, by its phase
abbrev pub test_saved : ℕ → Bool
test_saved p = nat_le 2 p && nat_le p 3

abbrev pub test_live : ℕ → Bool
test_live p = nat_le 2 p && nat_le p 4

abbrev pub test_record : ℕ → Bool
test_record p = nat_le 2 p && nat_le p 5

module _ (g : Setup) (id : ℕ) (v : View) where
  module _ (m : Mem) (vs : List View) (s : Story) (l : AllSay g s m vs) (at : At vs id v) where
    abbrev states : ℕ → ℕ
    states w = m (state w)

    abbrev heads : ℕ → ℕ
    heads w = m (head w)

    abbrev nexts : ℕ → ℕ
    nexts w = m (next w)

    saved-waits : (w : ℕ) → phase_of (states w) ≡ 2 → is_saved (states w) ≡ true
    saved-waits w two = and_from _ _ (le-leb 2 (phase_of (states w)) (omega (arith, two))) (le-leb (phase_of (states w)) 3 (omega (arith, two)))

    -- what stands in a list or in a chain waits
    pub listed-waits : (u w : ℕ) → u < units_of g.plan → Has w (listed states heads nexts u) → is_saved (states w) ≡ true
    listed-waits u w near has =
        let here : times w (listed states heads nexts u) ≤ below (λ k. times w (listed states heads nexts k)) (units_of g.plan) = below-member (λ k. times w (listed states heads nexts k)) (units_of g.plan) u near in
        saved-waits w (standing states heads nexts g.plan (map (table_seen waits) vs) (l.table waits) w (omega (arith, here, (times-some w (listed states heads nexts u)).1 has))).1

    pub chained-waits : (k : ℕ) (chains : List (List ℕ)) (j : ℕ) (chain : List ℕ) (i w : ℕ) → At (map (seen behind) vs) k chains → At chains j chain → At chain i w → is_saved (states w) ≡ true
    chained-waits k chains j chain i w at' at'' at''' =
        let t = map_at (seen behind) vs k chains at' in
        let some : 1 ≤ chains_at w chains = omega (arith, total-member (times w) chains j chain at'', (times-some w chain).1 (i, at''')) in
        saved-waits w (chain-waits states heads nexts g.plan (map (table_seen waits) vs) (l.table waits) k (table_seen waits t.0) (at_map (table_seen waits) vs k t.0 t.1) w
        (subst (λ (c : List (List ℕ)). 1 ≤ chains_at w c) (sym t.2) some)).1

    -- the state word of a unit is written that is no record that may be referred to, before and after
    module _ (u n : ℕ) (near : u < units_of g.plan) (no_record : is_record (states u) ≡ false) (saved : is_saved n ≡ is_saved (states u)) (lives : is_live n ≡ is_live (states u))
        (recorded : is_record n ≡ is_record (states u)) (done : (phase_of n == 5) ≡ (phase_of (states u) == 5)) where
      abbrev states' : ℕ → ℕ
      states' w = put m (state u) n (state w)

      alike : AreAlike states states'
      alike = record {
        saved = same-test g id v m vs s l.table at u n near is_saved saved;
        live = same-test g id v m vs s l.table at u n near is_live lives;
        recorded = same-test g id v m vs s l.table at u n near is_record recorded;
        done = same-test g id v m vs s l.table at u n near (λ x. phase_of x == 5) done;
        same = λ w is. state-other m u n w (λ e. true≢false (sym is ∙ ap (λ (x : ℕ). is_record (states x)) e ∙ no_record));
      }

      words-say : (q : Part) → Says g q s (put m (state u) n) (map (seen q) vs)
      words-say places = places-alike g.plan states states' alike s.calls (map (seen places) vs) (l.schedule places)
      words-say owners = owners-alike g.plan states states' alike s.calls s.ends (λ w. m (task w)) (map (seen owners) vs) (l.schedule owners)
      words-say framed = framed-alike g.plan states states' alike g.checked s.calls (λ w. m (task w)) (frame_in m) (map (seen framed) vs) (l.schedule framed)
      words-say formed = formed-alike g.plan states states' alike g.checked (frame_in m) (map (seen formed) vs) (l.schedule formed)
      words-say results = results-alike g.plan states states' alike s.ends (λ w. m (task w)) (λ w. m (outcome w)) (l.schedule results)
      words-say begun = begun-alike g.plan states states' alike s.calls s.ends (l.schedule begun)
      words-say live = live-alike g.plan states states' alike (m (sum 1)) (map (seen live) vs) (l.schedule live)
      words-say classes = classes-alike g.plan states states' alike g.checked s.calls (λ i. m (super i)) (map (seen classes) vs) (l.schedule classes)
      words-say behind = behind-alike g.plan states states' alike s.calls s.ends heads nexts (λ w. m (task w)) (map (seen behind) vs) (λ k w low there. saved-record (states w) (listed-waits k w low there))
          (λ k chains j chain i w at' at'' at'''. saved-record (states w) (chained-waits k chains j chain i w at' at'' at''')) (l.schedule behind)
      words-say q = l.schedule q

    -- found
    module _ (x : Block) (has : Has x v.blocks) (fresh : x.fresh ≡ true) (in_use : 1 ≤ v.parts) where
      abbrev after_found : View
      after_found = saw (state x.unit) (m (state x.unit)) (founded x v)

      was_free : phase_of (states x.unit) ≡ 0
      was_free = none_there g id v m vs s l.table at x has fresh in_use

      found-word : (q : Part) → Says g q s (put m (state x.unit) 1) (map (seen q) vs)
      found-word = words-say x.unit 1 (block_is g id v m vs s l.table at x has fresh in_use).inside (ap test_record was_free) (ap test_saved (sym was_free)) (ap test_live (sym was_free))
          (ap test_record (sym was_free)) (ap (λ (p : ℕ). p == 5) (sym was_free))

      found-parts : (q : Part) → Says g q s (put m (state x.unit) 1) (map (seen q) (slice_set vs id after_found))
      found-parts askers = moves g vs id v at askers s (put m (state x.unit) 1) after_found
          (let was : AskedSound s.calls g.plan (seen askers v) = l.schedule askers id (seen askers v) (at_map (seen askers) vs id v at) in
          each-set (AskedSound s.calls g.plan) (map (seen askers) vs) id (seen askers after_found) (l.schedule askers)
          (record {
            asker = λ k d there. let t = was.asker k d there in (t.0, elim t.1 [ inl r ↦ inl (r.0, has-more (new_made x) v.made r.0 r.1, r.2) | inr r ↦ inr r ]);
            made = each-cons _ (new_made x) v.made (λ some. absurd (some refl)) was.made;
            unplaced = was.unplaced;
            one = was.one;
            asked = was.asked;
          }))
      found-parts live = moves g vs id v at live s (put m (state x.unit) 1) after_found
          (omega (arith, found-word live, total-set lives_in (map (seen live) vs) id (seen live v) (seen live after_found) (at_map (seen live) vs id v at)))
      found-parts counted_lives = moves g vs id v at counted_lives s (put m (state x.unit) 1) after_found
          (let was : CountedSound (seen counted_lives v) = l.schedule counted_lives id (seen counted_lives v) (at_map (seen counted_lives) vs id v at) in
          each-set CountedSound (map (seen counted_lives) vs) id (seen counted_lives after_found) (l.schedule counted_lives) (record { made = each-cons _ (new_made x) v.made (λ e. absurd (true≢false (sym e))) was.made; done = was.done }))
      found-parts classes = moves g vs id v at classes s (put m (state x.unit) 1) after_found
          (record {
            records = (found-word classes).records;
            made = each-set _ (map (seen classes) vs) id (seen classes after_found) (found-word classes).made
                (each-cons _ (new_made x) v.made (λ some. absurd (some refl)) ((found-word classes).made id (seen classes v) (at_map (seen classes) vs id v at)));
          })
      found-parts places = frames g vs id v at places s (put m (state x.unit) 1) after_found refl (found-word places)
      found-parts owners = frames g vs id v at owners s (put m (state x.unit) 1) after_found refl (found-word owners)
      found-parts framed = frames g vs id v at framed s (put m (state x.unit) 1) after_found refl (found-word framed)
      found-parts formed = frames g vs id v at formed s (put m (state x.unit) 1) after_found refl (found-word formed)
      found-parts results = frames g vs id v at results s (put m (state x.unit) 1) after_found refl (found-word results)
      found-parts begun = frames g vs id v at begun s (put m (state x.unit) 1) after_found refl (found-word begun)
      found-parts behind = frames g vs id v at behind s (put m (state x.unit) 1) after_found refl (found-word behind)
      found-parts q = frames g vs id v at q s (put m (state x.unit) 1) after_found refl (l.schedule q)

    -- unmake: the record has no number, and is not counted in
    module _ (r : Made) (has : Has r v.made) (no_number : r.number ≡ 0) (not_counted : r.live ≡ false) (in_use : 1 ≤ v.parts) where
      abbrev after_unmake : View
      after_unmake = saw (state r.unit) (m (state r.unit)) (unmade r.unit r.class v)

      was_made : (r.unit < units_of g.plan) × (phase_of (states r.unit) ≡ 1)
      was_made = made_there g id v m vs s l.table at r has no_number in_use

      unmake-word : (q : Part) → Says g q s (put m (state r.unit) 0) (map (seen q) vs)
      unmake-word = words-say r.unit 0 was_made.0 (ap test_record was_made.1) (ap test_saved (sym was_made.1)) (ap test_live (sym was_made.1)) (ap test_record (sym was_made.1)) (ap (λ (p : ℕ). p == 5) (sym was_made.1))

      -- no other record is made there
      only-one : (y : Made) → Has y v.made → y.unit ≡ r.unit → y ≡ r
      only-one y there e = made-one r.unit v.made (made_few g id v m vs s l.table at r has no_number in_use) r y has refl there e

      -- a drawn number is not 0
      drawn-some : (d : Drawn) → Has d v.drawn → d.number ≢ 0
      drawn-some d there e =
          let none : total (in_hand 0) (map (seen places) vs) ≡ 0 = omega (arith, l.schedule places 0) in
          let mine : in_hand 0 (seen places v) ≤ total (in_hand 0) (map (seen places) vs) = total-member (in_hand 0) (map (seen places) vs) id (seen places v) (at_map (seen places) vs id v at) in
          let some : one_if (d.number == 0) ≤ drawn_at 0 v.drawn = total-has (λ (x : Drawn). one_if (x.number == 0)) v.drawn d there in
          omega (arith, none, mine, some, ap one_if (eq-eqb d.number 0 e))

      unmake-parts : (q : Part) → Says g q s (put m (state r.unit) 0) (map (seen q) (slice_set vs id after_unmake))
      unmake-parts askers = moves g vs id v at askers s (put m (state r.unit) 0) after_unmake
          (each-set (AskedSound s.calls g.plan) (map (seen askers) vs) id (seen askers after_unmake) (l.schedule askers)
          (record {
            asker = λ k d there. let t = was.asker k d there in (t.0, elim t.1 [ inl y ↦ inl (y.0, still (d) (k, there) y.0 y.1 y.2, y.2) | inr y ↦ inr y ]);
            made = each-dropped _ (is_made_at r.unit) v.made was.made;
            unplaced = was.unplaced;
            one = was.one;
            asked = was.asked;
          }))
        where
          was : AskedSound s.calls g.plan (seen askers v)
          was = l.schedule askers id (seen askers v) (at_map (seen askers) vs id v at)

          still : (d : Drawn) → Has d v.drawn → (y : Made) → Has y v.made → IsFirstOf s.calls d y → Has y (dropped (is_made_at r.unit) v.made)
          still d there y has' is = has-left (is_made_at r.unit) v.made y
              (ne_eqb y.unit r.unit (λ e. drawn-some d there (sym is.number ∙ ap (λ (z : Made). z.number) (only-one y has' e) ∙ no_number))) has'
      unmake-parts live = moves g vs id v at live s (put m (state r.unit) 0) after_unmake
          (omega (
            arith,
            unmake-word live,
            total-set lives_in (map (seen live) vs) id (seen live v) (seen live after_unmake) (at_map (seen live) vs id v at),
            total-dropped (λ (y : Made). one_if y.live) (is_made_at r.unit) 0 v.made (λ k y there here. ap one_if (ap (λ (z : Made). z.live) (only-one y (k, there) (eqb-true y.unit r.unit here)) ∙ not_counted))
                (record { member = r; there = has; passes = eq-eqb r.unit r.unit refl }),
          ))
      unmake-parts counted_lives = moves g vs id v at counted_lives s (put m (state r.unit) 0) after_unmake
          (let was : CountedSound (seen counted_lives v) = l.schedule counted_lives id (seen counted_lives v) (at_map (seen counted_lives) vs id v at) in
          each-set CountedSound (map (seen counted_lives) vs) id (seen counted_lives after_unmake) (l.schedule counted_lives) (record { made = each-dropped _ (is_made_at r.unit) v.made was.made; done = was.done }))
      unmake-parts classes = moves g vs id v at classes s (put m (state r.unit) 0) after_unmake
          (record {
            records = (unmake-word classes).records;
            made = each-set _ (map (seen classes) vs) id (seen classes after_unmake) (unmake-word classes).made
                (each-dropped _ (is_made_at r.unit) v.made ((unmake-word classes).made id (seen classes v) (at_map (seen classes) vs id v at)));
          })
      unmake-parts places = frames g vs id v at places s (put m (state r.unit) 0) after_unmake refl (unmake-word places)
      unmake-parts owners = frames g vs id v at owners s (put m (state r.unit) 0) after_unmake refl (unmake-word owners)
      unmake-parts framed = frames g vs id v at framed s (put m (state r.unit) 0) after_unmake refl (unmake-word framed)
      unmake-parts formed = frames g vs id v at formed s (put m (state r.unit) 0) after_unmake refl (unmake-word formed)
      unmake-parts results = frames g vs id v at results s (put m (state r.unit) 0) after_unmake refl (unmake-word results)
      unmake-parts begun = frames g vs id v at begun s (put m (state r.unit) 0) after_unmake refl (unmake-word begun)
      unmake-parts behind = frames g vs id v at behind s (put m (state r.unit) 0) after_unmake refl (unmake-word behind)
      unmake-parts q = frames g vs id v at q s (put m (state r.unit) 0) after_unmake refl (l.schedule q)

  pub founds-at : (x : Block) → Has x v.blocks → x.fresh ≡ true → 1 ≤ v.parts → Keeps g id v (state x.unit) (λ n. 1) (λ r w. (n : ℕ) × (w ≡ saw (state x.unit) n (founded x v)))
  founds-at x has fresh in_use m vs s l at small = (
    saw (state x.unit) (m (state x.unit)) (founded x v),
    (s, same-story s, record { table = found-table g id v m vs s l.table at x has fresh in_use; schedule = found-parts m vs s l at x has fresh in_use }),
    (m (state x.unit), refl),
    (refl, refl, inl refl),
  )

  pub unmakes-at : (r : Made) → Has r v.made → r.number ≡ 0 → r.live ≡ false → 1 ≤ v.parts → Keeps g id v (state r.unit) (λ n. 0) (λ k w. (n : ℕ) × (w ≡ saw (state r.unit) n (unmade r.unit r.class v)))
  unmakes-at r has no_number not_counted in_use m vs s l at small = (
    saw (state r.unit) (m (state r.unit)) (unmade r.unit r.class v),
    (s, same-story s, record { table = unmake-table g id v m vs s l.table at r has no_number in_use; schedule = unmake-parts m vs s l at r has no_number not_counted in_use }),
    (m (state r.unit), refl),
    (refl, refl, inl refl),
  )
