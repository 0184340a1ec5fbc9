-- What is seen of records stays so where words, and what passes have, change.
use Rattle.std.proofs.Common.{◌≡◌, ◌≢◌, ◌∙◌, ◌⊎◌, inl, inr, ℕ, ◌<◌, ◌≤◌, Bool, true, false, cond, ◌==◌, List, [], ◌∷◌, map, refl, sym, ap, subst, arith}
use Rattle.std.proofs.lemmas.Bool.{cases_eq, cases_lt, eq-eqb}
use Rattle.record_core.specs.Sums.{total}
use Rattle.record_core.specs.Counting.{At, times, dropped}
use Rattle.record_core.proofs.TotalFacts.{total-member}
use Rattle.kt_words.specs.HeadWords.{length_of}
use Rattle.kt_words.specs.StateWords.{phase_of}
use Rattle.table_core.specs.Addresses.{Mem, state, refs, root, frame_in, units_of}
use Rattle.table_core.specs.Lists.{Each}
use Rattle.table_core.specs.Holdings.{Sight, SawHead, SawTask, SawDone, seen_at}
use Rattle.table_core.specs.Story.{Story}
use Rattle.table_core.specs.References.{is_record, Bag}
use Rattle.table_core.specs.RecordViews.{is_at, forget, left_sights}
use Rattle.table_core.specs.Sights.{IsLater, Knows, StillSo, IsKnown, SightsSound}
use Rattle.table_core.specs.Parts.{references, sights, seen, AllSay}
use Rattle.table_core.specs.declared.setup.Setup.{Setup}
use Rattle.table_core.specs.declared.view.View.{View}
use Rattle.table_core.proofs.ListFacts.{at_map, map_at, each-none, each-cons, each-tail}
use Rattle.table_core.proofs.BagFacts.{times-dropped, one-apart, record-from}

-- a head that is later than a later one is later
pub later-later : (a b c : ℕ) → IsLater a b → IsLater b c → IsLater a c
later-later a b c first (inl same) = subst (IsLater a) (sym same) first
later-later a b c first (inr (inl closed)) = inr (inl closed)
later-later a b c (inl same) (inr (inr (unclosed, longer))) = inr (inr ((λ e. unclosed (same ∙ e)), omega (arith, longer, ap length_of same)))
later-later a b c (inr (inl closed)) (inr (inr (unclosed, longer))) = absurd (unclosed closed)
later-later a b c (inr (inr (unclosed, longer))) (inr (inr (unclosed', longer'))) = inr (inr (unclosed, omega (arith, longer, longer')))

-- what a step changes of the record at u lets what was seen of it stand
pub record SeenStays (heads heads' tasks tasks' states states' : ℕ → ℕ) (u : ℕ) : Type 0 where
  pub later : IsLater (heads u) (heads' u)
  pub task_same : tasks' u ≡ tasks u
  pub done_same : phase_of (states u) ≡ 5 → states' u ≡ states u

module _ (heads heads' tasks tasks' states states' : ℕ → ℕ) where
  -- what was seen of a record is so still where its words stay
  pub still-stays : (s : Sight) → SeenStays heads heads' tasks tasks' states states' (seen_at s) → StillSo heads tasks states s → StillSo heads' tasks' states' s
  still-stays (SawHead u h) stays so = later-later h (heads u) (heads' u) so stays.later
  still-stays (SawTask u t) stays so = stays.task_same ∙ so
  still-stays (SawDone u word) stays so = (stays.done_same (ap phase_of so.0 ∙ so.1) ∙ so.0, so.1)

  -- words change, and of what is referred to only so that what was seen stands
  pub sights-written : (ks : List Knows) → SightsSound heads tasks states ks
      → ((k u : ℕ) (x : Knows) → At ks k x → 1 ≤ times u x.futures → SeenStays heads heads' tasks tasks' states states' u) → SightsSound heads' tasks' states' ks
  sights-written ks was stays k x at j s there =
      let t = was k x at j s there in (t.0, still-stays s (stays k (seen_at s) x at t.0) t.1)

-- what was seen stands while the references stay
module _ (heads tasks states : ℕ → ℕ) where
  -- what is known under references is known under more references
  pub known-more : (futures more : List ℕ) (ss : List Sight) → ((u : ℕ) → 1 ≤ times u futures → 1 ≤ times u more)
      → IsKnown heads tasks states (record { futures = futures; sights = ss }) → IsKnown heads tasks states (record { futures = more; sights = ss })
  known-more futures more ss longer was k s at = let t = was k s at in (longer (seen_at s) t.0, t.1)

  -- what is left when that of u is forgotten was seen of others
  forget-each : (P : Sight → Type 0) (u : ℕ) (ss : List Sight) → Each P ss → Each (λ s. P s × (seen_at s ≢ u)) (forget u ss)
  forget-each P u [] all = each-none _
  forget-each P u (s ∷ ss) all = by (seen_at s == u) refl (forget-each P u ss (each-tail P s ss all))
    where
      by : (b : Bool) → (seen_at s == u) ≡ b → Each (λ s. P s × (seen_at s ≢ u)) (forget u ss) → Each (λ s. P s × (seen_at s ≢ u)) (cond b (forget u ss) (s ∷ forget u ss))
      by true e rest = rest
      by false e rest = each-cons (λ s. P s × (seen_at s ≢ u)) s (forget u ss) (all 0 s refl, λ same. let no : true ≡ false = sym (eq-eqb (seen_at s) u same) ∙ e in absurd (no_bool no)) rest
        where
          no_bool : true ≡ false → ⊥
          no_bool x = cc

  abbrev KnownOf : List ℕ → List Sight → Type 0
  KnownOf futures ss = IsKnown heads tasks states (record { futures = futures; sights = ss })

  -- a reference to u goes, and with the last one what was seen of it
  pub known-left : (u : ℕ) (futures : List ℕ) (ss : List Sight) → 1 ≤ times u futures → IsKnown heads tasks states (record { futures = futures; sights = ss })
      → IsKnown heads tasks states (record { futures = dropped (is_at u) futures; sights = left_sights u (dropped (is_at u) futures) ss })
  known-left u futures ss has was = by (times u (dropped (is_at u) futures) == 0) refl
    where
      some : (w : ℕ) → w ≢ u → 1 ≤ times w futures → 1 ≤ times w (dropped (is_at u) futures)
      some w ne it = omega (arith, it, times-dropped u w futures has, one-apart u w (λ e. ne (sym e)))

      by : (b : Bool) → (times u (dropped (is_at u) futures) == 0) ≡ b → KnownOf (dropped (is_at u) futures) (cond b (forget u ss) ss)
      by true e k s at = let t = forget-each (λ x. (1 ≤ times (seen_at x) futures) × StillSo heads tasks states x) u ss was k s at in (some (seen_at s) t.1 t.0.0, t.0.1)
      by false e k s at = let t = was k s at in (others (cases_eq (seen_at s) u) t.0, t.1)
        where
          others : (seen_at s ≡ u) ⊎ (seen_at s ≢ u) → 1 ≤ times (seen_at s) futures → 1 ≤ times (seen_at s) (dropped (is_at u) futures)
          others (inl same) it = subst (λ (w : ℕ). 1 ≤ times w (dropped (is_at u) futures)) (sym same) (here (cases_eq (times u (dropped (is_at u) futures)) 0))
            where
              no_bool : true ≡ false → ⊥
              no_bool x = cc

              here : (times u (dropped (is_at u) futures) ≡ 0) ⊎ (times u (dropped (is_at u) futures) ≢ 0) → 1 ≤ times u (dropped (is_at u) futures)
              here (inl none) = absurd (no_bool (sym (eq-eqb (times u (dropped (is_at u) futures)) 0 none) ∙ e))
              here (inr ne) = omega (arith, ne)
          others (inr ne) it = some (seen_at s) ne it

-- what a hand refers to is a record
module _ (g : Setup) (m : Mem) (vs : List View) (s : Story) (l : AllSay g s m vs) where
  abbrev bags : List Bag
  bags = map (seen references) vs

  -- a hand with a reference to a unit has one to a record that is there
  pub sighted : (k : ℕ) (x : Knows) → At (map (seen sights) vs) k x → (u : ℕ) → 1 ≤ times u x.futures → (u < units_of g.plan) × (is_record (m (state u)) ≡ true)
  sighted k x at u has = by (cases_lt u (units_of g.plan))
    where
      its : (v : View) × At vs k v × (seen sights v ≡ x)
      its = map_at (seen sights) vs k x at

      some : 1 ≤ times u its.0.futures
      some = subst (λ (y : Knows). 1 ≤ times u y.futures) (sym its.2) has

      in_bags : times u its.0.futures ≤ total (λ (b : Bag). times u b.futures) bags
      in_bags = total-member (λ (b : Bag). times u b.futures) bags k (seen references its.0) (at_map (seen references) vs k its.0 its.1)

      by : (u < units_of g.plan) ⊎ (units_of g.plan ≤ u) → (u < units_of g.plan) × (is_record (m (state u)) ≡ true)
      by (inl near) = (near, record-from g.checked g.plan (λ w. m (state w)) (λ w. m (refs w)) (λ r. m (root r)) (frame_in m) bags (l references) u near (omega (arith, some, in_bags)))
      by (inr far) = absurd (omega (arith, some, in_bags, (l references).inside u far))
