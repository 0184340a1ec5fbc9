-- Wins, looks and the reservations ever made, after a step of the pool.
use Rattle.std.proofs.Common.{◌≡◌, ◌≢◌, ◌∙◌, ◌⊎◌, inl, inr, ℕ, ◌+◌, ◌-◌, ◌<◌, ◌≤◌, min, cond, ◌==◌, List, ◌∷◌, refl, sym, ap, subst, arith}
use Rattle.std.specs.Prelude.{slice_set}
use Rattle.std.proofs.lemmas.Bool.{cases_eq}
use Rattle.record_core.specs.Sums.{total, below}
use Rattle.record_core.proofs.TotalFacts.{total-set}
use Rattle.record_core.proofs.BelowFacts.{below-set}
use Rattle.kt_words.specs.declared.plan.Plan.{Plan}
use Rattle.kt_words.specs.SuperWords.{count_of, class_of, ever_of, risen, most_ever}
use Rattle.kt_words.specs.SuperWordLaws.{SuperWordSays}
use Rattle.record_core.specs.Counting.{At, one_if}
use Rattle.table_core.specs.Lists.{Each, hit}
use Rattle.table_core.specs.Holdings.{Place, Look}
use Rattle.table_core.specs.Wins.{Won, at_place, at_superblock, WinsSound, Looked, IsLook, LooksSound, EversSound}
use Rattle.table_core.specs.Views.{place}
use Rattle.table_core.proofs.ListFacts.{set_cases}
use Rattle.table_core.proofs.PoolFacts.{cond-plus, cond-le, cond-at, cond-apart, hit-apart, hit-here}

module _ (g : Plan) (supers supers' : ℕ → ℕ) where
  module _ (vs : List Won) (id : ℕ) (u : Won) (at : At vs id u) (sound : WinsSound g supers vs) (i c : ℕ) (near : i < g.geometry.superblocks) (others : (j : ℕ) → j ≢ i → supers' j ≡ supers j) where
    abbrev winner : Won
    winner = record u { wins = place i c ∷ u.wins }

    abbrev after_win : List Won
    after_win = slice_set vs id winner

    abbrev payer : Won
    payer = record u { settles = place i c ∷ u.settles }

    abbrev after_pay : List Won
    after_pay = slice_set vs id payer

    -- one more win is one more in the count
    counts-reserved : (class_of (supers i) ≡ c) ⊎ (count_of (supers i) ≡ 0) → SuperWordSays (supers' i) (count_of (supers i) + 1) c (risen (ever_of (supers i)))
        → (j k : ℕ) → j < g.geometry.superblocks
        → total (λ v. at_place j k v.wins) after_win ≡ cond (class_of (supers' j) == k) (count_of (supers' j)) 0 + total (λ v. at_place j k v.settles) after_win
    counts-reserved which says j k near' = by (cases_eq j i)
      where
        wins_after : (j : ℕ) → total (λ v. at_place j k v.wins) after_win ≡ total (λ v. at_place j k v.wins) vs + hit i c j k
        wins_after j = omega (arith, total-set (λ (v : Won). at_place j k v.wins) vs id u winner at)

        settles_after : (j : ℕ) → total (λ v. at_place j k v.settles) after_win ≡ total (λ v. at_place j k v.settles) vs
        settles_after j = omega (arith, total-set (λ (v : Won). at_place j k v.settles) vs id u winner at)

        grows : (class_of (supers i) ≡ c) ⊎ (count_of (supers i) ≡ 0) → cond (class_of (supers' i) == k) (count_of (supers' i)) 0 ≡ cond (class_of (supers i) == k) (count_of (supers i)) 0 + cond (c == k) 1 0
        grows (inl same) =
            (λ x. cond (says.class_is x == k) (says.count_is x) 0) ∙ sym (cond-plus (c == k) (count_of (supers i)) 1)
            ∙ ap (λ (n : ℕ). cond (n == k) (count_of (supers i)) 0 + cond (c == k) 1 0) (sym same)
        grows (inr none) =
            let one : count_of (supers' i) ≡ 1 = omega (arith, says.count_is, none) in
            let first : cond (class_of (supers' i) == k) (count_of (supers' i)) 0 ≡ cond (c == k) 1 0 = λ x. cond (says.class_is x == k) (one x) 0 in
            omega (arith, first, cond-le (class_of (supers i) == k) (count_of (supers i)))

        here : total (λ v. at_place i k v.wins) after_win ≡ cond (class_of (supers' i) == k) (count_of (supers' i)) 0 + total (λ v. at_place i k v.settles) after_win
        here = omega (arith, wins_after i, settles_after i, sound.counts i k near, hit-here i c k, grows which)

        by : (j ≡ i) ⊎ (j ≢ i) → total (λ v. at_place j k v.wins) after_win ≡ cond (class_of (supers' j) == k) (count_of (supers' j)) 0 + total (λ v. at_place j k v.settles) after_win
        by (inl e) = subst (λ (x : ℕ). total (λ v. at_place x k v.wins) after_win ≡ cond (class_of (supers' x) == k) (count_of (supers' x)) 0 + total (λ v. at_place x k v.settles) after_win) (sym e) here
        by (inr ne) = omega (arith, wins_after j, settles_after j, sound.counts j k near', hit-apart i c j k (λ e. ne (sym e)), ap (λ (n : ℕ). cond (class_of n == k) (count_of n) 0) (others j ne))

    -- and one more in the reservations ever made
    ever-reserved : ever_of (supers' i) ≡ risen (ever_of (supers i)) → (j : ℕ) → j < g.geometry.superblocks → ever_of (supers' j) ≡ min (total (λ v. at_superblock j v.wins) after_win) most_ever
    ever-reserved rises j near' = by (cases_eq j i)
      where
        all : (j : ℕ) → total (λ v. at_superblock j v.wins) after_win ≡ total (λ v. at_superblock j v.wins) vs + one_if (i == j)
        all j = omega (arith, total-set (λ (v : Won). at_superblock j v.wins) vs id u winner at)

        here : ever_of (supers' i) ≡ min (total (λ v. at_superblock i v.wins) after_win) most_ever
        here = omega (arith, rises, sound.ever i near, all i, cond-at i i 1 refl)

        by : (j ≡ i) ⊎ (j ≢ i) → ever_of (supers' j) ≡ min (total (λ v. at_superblock j v.wins) after_win) most_ever
        by (inl e) = subst (λ (x : ℕ). ever_of (supers' x) ≡ min (total (λ v. at_superblock x v.wins) after_win) most_ever) (sym e) here
        by (inr ne) = omega (arith, all j, sound.ever j near', cond-apart i j 1 (λ e. ne (sym e)), ap ever_of (others j ne))

    -- one more win
    pub wins-reserved : (class_of (supers i) ≡ c) ⊎ (count_of (supers i) ≡ 0) → SuperWordSays (supers' i) (count_of (supers i) + 1) c (risen (ever_of (supers i)))
        → WinsSound g supers' (slice_set vs id (record u { wins = place i c ∷ u.wins }))
    wins-reserved which says = record { counts = counts-reserved which says; ever = ever-reserved says.ever_is }

    -- one settle more is one less in the count
    counts-settled : class_of (supers i) ≡ c → 1 ≤ count_of (supers i) → SuperWordSays (supers' i) (count_of (supers i) - 1) (class_of (supers i)) (ever_of (supers i))
        → (j k : ℕ) → j < g.geometry.superblocks
        → total (λ v. at_place j k v.wins) after_pay ≡ cond (class_of (supers' j) == k) (count_of (supers' j)) 0 + total (λ v. at_place j k v.settles) after_pay
    counts-settled its_class some says j k near' = by (cases_eq j i)
      where
        wins_after : (j : ℕ) → total (λ v. at_place j k v.wins) after_pay ≡ total (λ v. at_place j k v.wins) vs
        wins_after j = omega (arith, total-set (λ (v : Won). at_place j k v.wins) vs id u payer at)

        settles_after : (j : ℕ) → total (λ v. at_place j k v.settles) after_pay ≡ total (λ v. at_place j k v.settles) vs + hit i c j k
        settles_after j = omega (arith, total-set (λ (v : Won). at_place j k v.settles) vs id u payer at)

        back : count_of (supers' i) + 1 ≡ count_of (supers i)
        back = omega (arith, says.count_is, some)

        falls : cond (class_of (supers' i) == k) (count_of (supers' i)) 0 + cond (c == k) 1 0 ≡ cond (class_of (supers i) == k) (count_of (supers i)) 0
        falls =
            ap (λ (n : ℕ). cond (n == k) (count_of (supers' i)) 0 + cond (c == k) 1 0) (says.class_is ∙ its_class) ∙ cond-plus (c == k) (count_of (supers' i)) 1
            ∙ (λ x. cond (sym its_class x == k) (back x) 0)

        here : total (λ v. at_place i k v.wins) after_pay ≡ cond (class_of (supers' i) == k) (count_of (supers' i)) 0 + total (λ v. at_place i k v.settles) after_pay
        here = omega (arith, wins_after i, settles_after i, sound.counts i k near, hit-here i c k, falls)

        by : (j ≡ i) ⊎ (j ≢ i) → total (λ v. at_place j k v.wins) after_pay ≡ cond (class_of (supers' j) == k) (count_of (supers' j)) 0 + total (λ v. at_place j k v.settles) after_pay
        by (inl e) = subst (λ (x : ℕ). total (λ v. at_place x k v.wins) after_pay ≡ cond (class_of (supers' x) == k) (count_of (supers' x)) 0 + total (λ v. at_place x k v.settles) after_pay) (sym e) here
        by (inr ne) = omega (arith, wins_after j, settles_after j, sound.counts j k near', hit-apart i c j k (λ e. ne (sym e)), ap (λ (n : ℕ). cond (class_of n == k) (count_of n) 0) (others j ne))

    -- one settle more
    pub wins-settled : class_of (supers i) ≡ c → 1 ≤ count_of (supers i) → SuperWordSays (supers' i) (count_of (supers i) - 1) (class_of (supers i)) (ever_of (supers i))
        → WinsSound g supers' (slice_set vs id (record u { settles = place i c ∷ u.settles }))
    wins-settled its_class some says = record {
      counts = counts-settled its_class some says;
      ever = λ j near'. same_ever j (cases_eq j i) ∙ sound.ever j near' ∙ ap (λ (n : ℕ). min n most_ever) (sym (all_wins j));
    }
      where
        same_ever : (j : ℕ) → (j ≡ i) ⊎ (j ≢ i) → ever_of (supers' j) ≡ ever_of (supers j)
        same_ever j (inl e) = subst (λ (x : ℕ). ever_of (supers' x) ≡ ever_of (supers x)) (sym e) says.ever_is
        same_ever j (inr ne) = ap ever_of (others j ne)

        all_wins : (j : ℕ) → total (λ v. at_superblock j v.wins) after_pay ≡ total (λ v. at_superblock j v.wins) vs
        all_wins j = omega (arith, total-set (λ (v : Won). at_superblock j v.wins) vs id u payer at)

  -- a look stays one where wins are added, and its own pass's with them
  pub look-kept : (vs vs' : List Looked) (own own' : List Place) (l : Look) → ever_of (supers l.superblock) ≤ ever_of (supers' l.superblock)
      → at_place l.superblock (class_of l.word) own' + total (λ v. at_place l.superblock (class_of l.word) v.wins) vs
      ≤ at_place l.superblock (class_of l.word) own + total (λ v. at_place l.superblock (class_of l.word) v.wins) vs'
      → IsLook g supers vs own l → IsLook g supers' vs' own' l
  look-kept vs vs' own own' l rises more is = record {
    near = is.near;
    class_fits = is.class_fits;
    count = omega (arith, is.count, more);
    ever = omega (arith, is.ever, rises);
    count_ever = is.count_ever;
  }

  -- one pass may look and win
  pub looks-moved : (vs : List Looked) (id : ℕ) (u u' : Looked) → At vs id u → LooksSound g supers vs → ((j : ℕ) → ever_of (supers j) ≤ ever_of (supers' j))
      → ((j c : ℕ) → at_place j c u.wins ≤ at_place j c u'.wins)
      → (Each (IsLook g supers' (slice_set vs id u') u'.wins) u.looks → Each (IsLook g supers' (slice_set vs id u') u'.wins) u'.looks)
      → LooksSound g supers' (slice_set vs id u')
  looks-moved vs id u u' at sound rises more looks j y at' = by (set_cases vs id j u' y at')
    where
      sums : (l : Look) → total (λ v. at_place l.superblock (class_of l.word) v.wins) (slice_set vs id u') + at_place l.superblock (class_of l.word) u.wins
          ≡ total (λ v. at_place l.superblock (class_of l.word) v.wins) vs + at_place l.superblock (class_of l.word) u'.wins
      sums l = total-set (λ (v : Looked). at_place l.superblock (class_of l.word) v.wins) vs id u u' at

      by : ((j ≡ id) × (y ≡ u')) ⊎ ((j ≢ id) × At vs j y) → Each (IsLook g supers' (slice_set vs id u') y.wins) y.looks
      by (inl t) = subst (λ (z : Looked). Each (IsLook g supers' (slice_set vs id u') z.wins) z.looks) (sym t.1)
          (looks (λ k l there. look-kept vs (slice_set vs id u') u.wins u'.wins l (rises l.superblock) (omega (arith, sums l)) (sound id u at k l there)))
      by (inr t) = λ k l there. look-kept vs (slice_set vs id u') y.wins y.wins l (rises l.superblock) (omega (arith, sums l, more l.superblock (class_of l.word))) (sound j y t.1 k l there)

  -- one superblock has at most one reservation more, and one pass accounts for as many more
  pub evers-moved : (tasks i d : ℕ) (vs : List ℕ) (id u u' : ℕ) → At vs id u → i < g.geometry.superblocks → ((j : ℕ) → j ≢ i → supers' j ≡ supers j)
      → ever_of (supers' i) ≤ ever_of (supers i) + d → u + d ≤ u' → EversSound g supers tasks vs → EversSound g supers' tasks (slice_set vs id u')
  evers-moved tasks i d vs id u u' at near others few accounts sound =
      let words : below (λ j. ever_of (supers' j)) g.geometry.superblocks + ever_of (supers i) ≡ below (λ j. ever_of (supers j)) g.geometry.superblocks + ever_of (supers' i) =
      below-set (λ j. ever_of (supers j)) (λ j. ever_of (supers' j)) g.geometry.superblocks i near (λ j b ne. ap ever_of (others j ne)) in
      omega (arith, words, total-set (λ (n : ℕ). n) vs id u u' at, few, accounts, sound)
