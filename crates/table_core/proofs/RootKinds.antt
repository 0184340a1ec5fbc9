-- Each kind of step on root words keeps the rule.
use Rattle.std.proofs.Common.{◌≡◌, ◌≢◌, ◌∙◌, ◌⊎◌, inl, inr, ℕ, zero, suc, ◌+◌, ◌%◌, ◌^◌, ◌<◌, ◌≤◌, Bool, true, cond, ◌==◌, Some, None, List, [], ◌∷◌, ◌++◌, map, length, refl, sym, ap, subst, arith, length-append}
use Rattle.std.specs.Prelude.{slice_set, slice_get, nat_lt}
use Rattle.std.proofs.lemmas.Bool.{cases_eq, cases_lt, eq-eqb, ne_eqb, lt-ltb}
use Rattle.record_core.specs.Sums.{below}
use Rattle.record_core.specs.Counting.{At, Has, one_if, times}
use Rattle.record_core.proofs.TotalFacts.{total-two_members, total-set}
use Rattle.record_core.proofs.BelowFacts.{below-set, below-le, below-rises, below-member}
use Rattle.task_syntax.specs.declared.program.Program.{Program}
use Rattle.table_core.specs.Addresses.{Mem, state, refs, head, task, root, frame_in, units_of, put}
use Rattle.table_core.specs.Lists.{Each}
use Rattle.table_core.specs.Holdings.{RootSays, Record, Null, Limit, Skipped}
use Rattle.table_core.specs.Roots.{Turn, root_word, word_at, asked_in, FirstMissing, RootsSound}
use Rattle.table_core.specs.Story.{Story}
use Rattle.table_core.specs.Bounds.{IsBounded}
use Rattle.table_core.specs.References.{is_record, Bag}
use Rattle.table_core.specs.Sights.{IsKnown}
use Rattle.table_core.specs.Views.{saw}
use Rattle.table_core.specs.Naming.{MayName}
use Rattle.table_core.specs.RecordViews.{is_at, referred, given_to_root, sights_given, turned, asked_by, put_root}
use Rattle.table_core.specs.Parts.{Part, bounds, references, roots, sights, seen, Says, AllSay, Keeps}
use Rattle.table_core.specs.declared.setup.Setup.{Setup}
use Rattle.table_core.specs.declared.view.View.{View}
use Rattle.table_core.proofs.ListFacts.{at_map, each-set, set_cases, total-dropped_le, length-dropped_le}
use Rattle.table_core.proofs.Rule.{frames, moves}
use Rattle.table_core.proofs.ReferenceFacts.{in_hands, kept_in, leaving, held_at, referred-moved}
use Rattle.table_core.proofs.BagFacts.{times-dropped, record-from}
use Rattle.table_core.proofs.ReferenceBound.{refs-few, units-few}
use Rattle.table_core.proofs.SightFacts.{known-left}
use Rattle.table_core.proofs.ReferenceKinds.{more-parts}

-- members of a list that grows at its end
at-front : {A : Type 0} (l more : List A) (k : ℕ) (x : A) → At l k x → At (l ++ more) k x
at-front [] more k x at = let no_one : None ≡ Some x → ⊥ = λ e. cc in absurd (no_one at)
at-front (y ∷ l) more zero x at = at
at-front (y ∷ l) more (suc k) x at = at-front l more k x at

at-before : {A : Type 0} (l more : List A) (k : ℕ) (x : A) → k < length l → At (l ++ more) k x → At l k x
at-before [] more k x low at = absurd (omega (arith, low))
at-before (y ∷ l) more zero x low at = at
at-before (y ∷ l) more (suc k) x low at = at-before l more k x (omega (arith, low)) at

at-length : {A : Type 0} (l : List A) (k : ℕ) (x : A) → At l k x → k < length l
at-length [] k x at = let no_one : None ≡ Some x → ⊥ = λ e. cc in absurd (no_one at)
at-length (y ∷ l) zero x at = omega arith
at-length (y ∷ l) (suc k) x at = omega (arith, at-length l k x at)

at-end : {A : Type 0} (l : List A) (z x : A) (k : ℕ) → length l ≤ k → At (l ++ z ∷ []) k x → (k ≡ length l) × (z ≡ x)
at-end [] z x zero far at = (refl, cc)
at-end [] z x (suc k) far at = let no_one : None ≡ Some x → ⊥ = λ e. cc in absurd (no_one at)
at-end (y ∷ l) z x zero far at = absurd (omega (arith, far))
at-end (y ∷ l) z x (suc k) far at = let t = at-end l z x k (omega (arith, far)) at in (ap suc t.0, t.1)

-- the word of a root is not 0
word-some : (says : RootSays) → 1 ≤ root_word says
word-some (Record u) = omega arith
word-some Null = omega arith
word-some Limit = omega arith
word-some (Skipped r) = omega arith

-- the words of roots, by what is said of them
pub word-here : (asked : List RootSays) (r : ℕ) (says : RootSays) → At asked r says → word_at asked r ≡ root_word says
word-here [] r says at = let no_one : None ≡ Some says → ⊥ = λ e. cc in absurd (no_one at)
word-here (s ∷ ss) zero says at = let same : s ≡ says = cc in ap root_word same
word-here (s ∷ ss) (suc r) says at = word-here ss r says at

word-front : (asked : List RootSays) (says : RootSays) (r : ℕ) → r ≢ length asked → word_at (asked ++ says ∷ []) r ≡ word_at asked r
word-front [] says zero ne = absurd (ne refl)
word-front [] says (suc r) ne = refl
word-front (s ∷ ss) says zero ne = refl
word-front (s ∷ ss) says (suc r) ne = word-front ss says r (λ e. ne (ap suc e))

word-last : (asked : List RootSays) (says : RootSays) → word_at (asked ++ says ∷ []) (length asked) ≡ root_word says
word-last [] says = refl
word-last (s ∷ ss) says = word-last ss says

-- the word of a root that was not asked for is 0
pub word-behind : (asked : List RootSays) (r : ℕ) → length asked ≤ r → word_at asked r ≡ 0
word-behind [] r far = refl
word-behind (s ∷ ss) zero far = absurd (omega (arith, far))
word-behind (s ∷ ss) (suc r) far = word-behind ss r (omega (arith, far))

word-before : (asked : List RootSays) (r : ℕ) → r < length asked → 1 ≤ word_at asked r
word-before [] r low = absurd (omega (arith, low))
word-before (s ∷ ss) zero low = word-some s
word-before (s ∷ ss) (suc r) low = word-before ss r (omega (arith, low))

-- as many numbers below a bound pass as all below a smaller one
all-pass : (f : ℕ → ℕ) (n : ℕ) → ((k : ℕ) → k < n → f k ≡ 1) → below f n ≡ n
all-pass f zero each = refl
all-pass f (suc n) each = omega (arith, all-pass f n (λ k low. each k (omega (arith, low))), each n (omega arith))

-- what was the first root without a record is so when one more root is asked for
missing-stays : (p : Program) (asked : List RootSays) (says : RootSays) (r j : ℕ) → r ≤ length asked → FirstMissing p asked r j → FirstMissing p (asked ++ says ∷ []) r j
missing-stays p asked says r j low is = record {
  line = is.line;
  is_line = is.is_line;
  position = is.position;
  stands = is.stands;
  earlier = is.earlier;
  missing = λ has. is.missing (has.0, at-before asked (says ∷ []) j (Record has.0) (omega (arith, low, is.earlier)) has.1);
  before = λ k i lower at. let has = is.before k i lower at in (has.0, at-front asked (says ∷ []) i (Record has.0) has.1);
}

-- a root word that is written, and those of others
root-here : (m : Mem) (r n : ℕ) → put m (root r) n (root r) ≡ n
root-here m r n = ap (λ (b : Bool). cond b n (m (root r))) (eq-eqb r r refl)

root-other : (m : Mem) (r n k : ℕ) → k ≢ r → put m (root r) n (root k) ≡ m (root k)
root-other m r n k ne = ap (λ (b : Bool). cond b n (m (root k))) (ne_eqb r k (λ e. ne (sym e)))

-- a reference that goes into a root word is one less in the hand
given-balance : (g : Setup) (asked : List RootSays) (v : View) (says : RootSays) → MayName g asked v says → (w : ℕ) → w < units_of g.plan
    → times w (given_to_root says v.futures) + one_if (root_word says == w + 1) ≡ times w v.futures
given-balance g asked v (Record u) may w near = omega (arith, times-dropped u w v.futures may.1, same (cases_eq u w))
  where
    same : (u ≡ w) ⊎ (u ≢ w) → one_if (u + 1 == w + 1) ≡ one_if (u == w)
    same (inl e) = ap one_if (eq-eqb (u + 1) (w + 1) (omega (arith, e))) ∙ sym (ap one_if (eq-eqb u w e))
    same (inr ne) = ap one_if (ne_eqb (u + 1) (w + 1) (λ e. ne (omega (arith, e)))) ∙ sym (ap one_if (ne_eqb u w ne))
given-balance g asked v Null may w near = omega (arith, ap one_if (ne_eqb 1048577 (w + 1) (λ e. omega (arith, e, near, units-few g.plan))))
given-balance g asked v Limit may w near = omega (arith, ap one_if (ne_eqb 1048578 (w + 1) (λ e. omega (arith, e, near, units-few g.plan))))
given-balance g asked v (Skipped j) may w near = omega (arith, ap one_if (ne_eqb (1048579 + j) (w + 1) (λ e. omega (arith, e, near, units-few g.plan))))

given-fewer : (says : RootSays) (futures : List ℕ) (w : ℕ) → times w (given_to_root says futures) ≤ times w futures
given-fewer (Record u) futures w = total-dropped_le (λ (n : ℕ). one_if (n == w)) (is_at u) futures
given-fewer Null futures w = omega arith
given-fewer Limit futures w = omega arith
given-fewer (Skipped j) futures w = omega arith

given-shorter : (says : RootSays) (futures : List ℕ) → length (given_to_root says futures) ≤ length futures
given-shorter (Record u) futures = length-dropped_le (is_at u) futures
given-shorter Null futures = omega arith
given-shorter Limit futures = omega arith
given-shorter (Skipped j) futures = omega arith

module _ (g : Setup) (id : ℕ) (v : View) where
  module _ (m : Mem) (vs : List View) (s : Story) (l : AllSay g s m vs) (at : At vs id v) (asked : List RootSays) (has_turn : v.turn ≡ asked ∷ []) where
    abbrev heads : ℕ → ℕ
    heads w = m (head w)

    abbrev tasks : ℕ → ℕ
    tasks w = m (task w)

    abbrev turns : List Turn
    turns = map (seen roots) vs

    turn_at : At turns id (seen roots v)
    turn_at = at_map (seen roots) vs id v at

    was : RootsSound g.checked g.plan (λ r. m (root r)) turns
    was = l roots

    mine : Has asked v.turn
    mine = (0, ap (λ (t : List (List RootSays)). slice_get t 0) has_turn)

    says-words : (r : ℕ) → r < 16 → m (root r) ≡ word_at asked r
    says-words r low = was.says id (seen roots v) turn_at mine.0 asked mine.1 r low

    -- a root's record is one, and is referred to
    pub root-record : (r u : ℕ) → r < 16 → At asked r (Record u) → (u < units_of g.plan) × (is_record (m (state u)) ≡ true) × (1 ≤ m (refs u))
    root-record r u low there =
        let near : u < units_of g.plan = was.near id (seen roots v) turn_at mine.0 asked mine.1 r u there in
        let word : m (root r) ≡ u + 1 = says-words r low ∙ word-here asked r (Record u) there in
        let one : one_if (m (root r) == u + 1) ≤ below (λ k. one_if (m (root k) == u + 1)) 16 = below-member (λ k. one_if (m (root k) == u + 1)) 16 r low in
        let some : 1 ≤ below (λ k. one_if (m (root k) == u + 1)) 16 = omega (arith, one, ap one_if (eq-eqb (m (root r)) (u + 1) word)) in
        let is = record-from g.checked g.plan (λ w. m (state w)) (λ w. m (refs w)) (λ k. m (root k)) (frame_in m) (map (seen references) vs) (l references) u near (omega (arith, some)) in
        (near, is, omega (arith, (l references).counted u near is, some))

    -- the others have no turn
    no-turn : (k : ℕ) (t : Turn) → k ≢ id → At turns k t → (x : List RootSays) → Has x t.turn → ⊥
    no-turn k t ne there x has =
        let two = total-two_members (λ (y : Turn). length y.turn) turns k id t (seen roots v) ne there turn_at in
        omega (arith, two, was.one, ap length has_turn, at-length t.turn has.0 x has.1)

    -- name
    module _ (says : RootSays) (few : length asked < g.plan.roots) (may : MayName g asked v says) (in_use : 1 ≤ v.parts) where
      abbrev r : ℕ
      r = length asked

      abbrev n : ℕ
      n = root_word says

      abbrev after_name : View
      after_name = saw (root r) (m (root r)) (put_root says v)

      abbrev roots' : ℕ → ℕ
      roots' k = put m (root r) n (root k)

      r_low : r < 16
      r_low = omega (arith, few, g.plan.roots_fit)

      was_zero : m (root r) ≡ 0
      was_zero = says-words r r_low ∙ word-behind asked r (omega arith)

      -- the root words that name a record, with one more
      roots-moved : (w : ℕ) → below (λ k. one_if (roots' k == w + 1)) 16 ≡ below (λ k. one_if (m (root k) == w + 1)) 16 + one_if (n == w + 1)
      roots-moved w = omega (
        arith,
        below-set (λ k. one_if (m (root k) == w + 1)) (λ k. one_if (roots' k == w + 1)) 16 r r_low (λ k low ne. ap (λ (x : ℕ). one_if (x == w + 1)) (root-other m r n k ne)),
        ap (λ (x : ℕ). one_if (x == w + 1)) (root-here m r n),
        ap one_if (ne_eqb (m (root r)) (w + 1) (λ e. omega (arith, e, was_zero))),
      )

      abbrev bags : List Bag
      bags = map (seen references) vs

      abbrev bags' : List Bag
      bags' = slice_set bags id (seen references after_name)

      bag_at : At bags id (seen references v)
      bag_at = at_map (seen references) vs id v at

      hands-set : (w : ℕ) → in_hands bags' w + times w v.futures ≡ in_hands bags w + times w (given_to_root says v.futures)
      hands-set w = total-set (λ (b : Bag). times w b.futures) bags id (seen references v) (seen references after_name) bag_at

      kept-set : (w : ℕ) → kept_in bags' w ≡ kept_in bags w
      kept-set w = omega (arith, total-set (λ (b : Bag). times w b.done) bags id (seen references v) (seen references after_name) bag_at)

      leaving-set : (w : ℕ) → leaving bags' w ≡ leaving bags w
      leaving-set w = omega (arith, total-set (λ (b : Bag). times w b.retiring) bags id (seen references v) (seen references after_name) bag_at)

      held-same : (w : ℕ) → w < units_of g.plan → held_at roots' bags' w ≡ held_at (λ k. m (root k)) bags w
      held-same w near = omega (arith, roots-moved w, hands-set w, kept-set w, given-balance g asked v says may w near)

      -- the words of the roots that are asked for now
      says-now : (k : ℕ) → k < 16 → roots' k ≡ word_at (asked ++ says ∷ []) k
      says-now k low = by (cases_eq k r)
        where
          by : (k ≡ r) ⊎ (k ≢ r) → roots' k ≡ word_at (asked ++ says ∷ []) k
          by (inl e) = subst (λ (x : ℕ). roots' x ≡ word_at (asked ++ says ∷ []) x) (sym e) (root-here m r n ∙ sym (word-last asked says))
          by (inr ne) = root-other m r n k ne ∙ says-words k low ∙ sym (word-front asked says k ne)

      longer : length (asked ++ says ∷ []) ≡ length asked + 1
      longer = length-append asked (says ∷ [])

      -- the root words say what the pass with the turn knows, after a root was named
      pub name-roots : RootsSound g.checked g.plan roots' (slice_set turns id (seen roots after_name))
      name-roots = record {
        one = omega (arith, total-set (λ (t : Turn). length t.turn) turns id (seen roots v) (seen roots after_name) turn_at, was.one, ap (λ (t : List (List RootSays)). length (turned says t)) has_turn, ap length has_turn);
        says = of_turn (λ x. (k : ℕ) → k < 16 → roots' k ≡ word_at x k) says-now;
        few = of_turn (λ x. length x ≤ g.plan.roots) (omega (arith, longer, few));
        near = of_turn (λ x. (k u : ℕ) → At x k (Record u) → u < units_of g.plan) near_now;
        skipped = of_turn (λ x. (k j : ℕ) → At x k (Skipped j) → FirstMissing g.checked x k j) skipped_now;
        known = λ k t there. by k t (set_cases turns id k (seen roots after_name) t there);
      }
        where
          -- what holds of the one turn
          of_turn : (P : List RootSays → Type 0) → P (asked ++ says ∷ []) → Each (λ (t : Turn). Each P t.turn) (slice_set turns id (seen roots after_name))
          of_turn P here k t there j x at' = elim (set_cases turns id k (seen roots after_name) t there) [
            | inl e ↦
                let turn_is : t.turn ≡ (asked ++ says ∷ []) ∷ [] = ap (λ (y : Turn). y.turn) e.1 ∙ ap (turned says) has_turn in
                only_one j (subst (λ (ts : List (List RootSays)). At ts j x) turn_is at')
            | inr e ↦ absurd (no-turn k t e.0 e.1 x (j, at'))
          ]
            where
              only_one : (j : ℕ) → At ((asked ++ says ∷ []) ∷ []) j x → P x
              only_one zero a = let same : asked ++ says ∷ [] ≡ x = cc in subst P same here
              only_one (suc j) a = let no_one : None ≡ Some x → ⊥ = λ e. cc in absurd (no_one a)

          near_now : (k u : ℕ) → At (asked ++ says ∷ []) k (Record u) → u < units_of g.plan
          near_now k u there = elim (cases_lt k r) [
            | inl low ↦ was.near id (seen roots v) turn_at mine.0 asked mine.1 k u (at-before asked (says ∷ []) k (Record u) low there)
            | inr far ↦ of_says says may (at-end asked says (Record u) k far there).1
          ]
            where
              of_says : (x : RootSays) → MayName g asked v x → x ≡ Record u → u < units_of g.plan
              of_says (Record w) ok e = let same : w ≡ u = cc in subst (λ (y : ℕ). y < units_of g.plan) same ok.0
              of_says Null ok e = cc
              of_says Limit ok e = cc
              of_says (Skipped j) ok e = cc

          skipped_now : (k j : ℕ) → At (asked ++ says ∷ []) k (Skipped j) → FirstMissing g.checked (asked ++ says ∷ []) k j
          skipped_now k j there = elim (cases_lt k r) [
            | inl low ↦ missing-stays g.checked asked says k j (omega (arith, low)) (was.skipped id (seen roots v) turn_at mine.0 asked mine.1 k j (at-before asked (says ∷ []) k (Skipped j) low there))
            | inr far ↦
                let t = at-end asked says (Skipped j) k far there in
                missing-stays g.checked asked says k j (omega (arith, t.0)) (subst (λ (x : ℕ). FirstMissing g.checked asked x j) (sym t.0) (of_says says may t.1))
          ]
            where
              of_says : (x : RootSays) → MayName g asked v x → x ≡ Skipped j → FirstMissing g.checked asked r j
              of_says (Record w) ok e = cc
              of_says Null ok e = cc
              of_says Limit ok e = cc
              of_says (Skipped i) ok e = let same : i ≡ j = cc in subst (λ (y : ℕ). FirstMissing g.checked asked r y) same ok

          -- one more root word is not 0
          pass : (k : ℕ) → k < r + 1 → one_if (nat_lt 0 (roots' k)) ≡ 1
          pass k low = ap one_if (lt-ltb 0 (roots' k) (omega (arith, says-now k (omega (arith, low, r_low)), word-before (asked ++ says ∷ []) k (omega (arith, low, longer)))))

          all_now : r + 1 ≤ asked_in roots'
          all_now = omega (arith, all-pass (λ k. one_if (nat_lt 0 (roots' k))) (r + 1) pass, below-rises (λ k. one_if (nat_lt 0 (roots' k))) (r + 1) 16 (omega (arith, r_low)))

          more_now : asked_in (λ k. m (root k)) ≤ asked_in roots'
          more_now = below-le (λ k. one_if (nat_lt 0 (m (root k)))) (λ k. one_if (nat_lt 0 (roots' k))) 16 (λ k low. by (cases_eq k r))
            where
              by : {k : ℕ} → (k ≡ r) ⊎ (k ≢ r) → one_if (nat_lt 0 (m (root k))) ≤ one_if (nat_lt 0 (roots' k))
              by {k} (inl e) = omega (arith, ap (λ (x : ℕ). one_if (nat_lt 0 (m (root x)))) e, ap (λ (x : ℕ). one_if (nat_lt 0 x)) was_zero)
              by {k} (inr ne) = omega (arith, ap (λ (x : ℕ). one_if (nat_lt 0 x)) (root-other m r n k ne))

          by : (k : ℕ) (t : Turn) → ((k ≡ id) × (t ≡ seen roots after_name)) ⊎ ((k ≢ id) × At turns k t) → t.asked ≤ asked_in roots'
          by k t (inl e) = omega (
            arith,
            ap (λ (y : Turn). y.asked) e.1,
            all_now,
            more_now,
            was.known id (seen roots v) turn_at,
            ap (λ (y : List (List RootSays)). asked_by (turned says y)) has_turn,
            longer,
          )
          by k t (inr e) = omega (arith, was.known k t e.1, more_now)

      name-parts : (q : Part) → Says g q s (put m (root r) n) (map (seen q) (slice_set vs id after_name))
      name-parts references = moves g vs id v at references s (put m (root r) n) after_name
          (referred-moved g.checked g.plan (λ w. m (state w)) (λ w. m (state w)) (λ w. m (refs w)) (λ w. m (refs w)) (λ k. m (root k)) roots' (frame_in m) (frame_in m) bags bags' (l references)
          (λ w. refl) (λ w. refl) (λ w. refl) (λ k low is. refl)
          (λ w near is. omega (arith, held-same w near)) (λ w near is none. held-same w near ∙ none)
          (λ w near. leaving-set w ∙ (l references).last w near)
          (λ w far. omega (arith, hands-set w, kept-set w, leaving-set w, given-fewer says v.futures w)))
      name-parts roots = moves g vs id v at roots s (put m (root r) n) after_name name-roots
      name-parts bounds =
          let b : IsBounded (seen bounds v) = l bounds id (seen bounds v) (at_map (seen bounds) vs id v at) in
          moves g vs id v at bounds s (put m (root r) n) after_name (each-set IsBounded (map (seen bounds) vs) id (seen bounds after_name) (l bounds) (record {
            few = omega (arith, b.few, given-shorter says v.futures);
            accepted = b.accepted;
            single = b.single;
            spent = λ none. absurd (omega (arith, none, in_use));
          }))
      name-parts sights = moves g vs id v at sights s (put m (root r) n) after_name
          (each-set (IsKnown heads tasks (λ w. m (state w))) (map (seen sights) vs) id (seen sights after_name) (l sights) (known-given says may))
        where
          mine : IsKnown heads tasks (λ w. m (state w)) (seen sights v)
          mine = l sights id (seen sights v) (at_map (seen sights) vs id v at)

          known-given : (x : RootSays) → MayName g asked v x
              → IsKnown heads tasks (λ w. m (state w)) (record { futures = given_to_root x v.futures; sights = sights_given x (given_to_root x v.futures) v.sights })
          known-given (Record u) ok = known-left heads tasks (λ w. m (state w)) u v.futures v.sights ok.1 mine
          known-given Null ok = mine
          known-given Limit ok = mine
          known-given (Skipped j) ok = mine
      name-parts q = frames g vs id v at q s (put m (root r) n) after_name refl (l q)

  -- name: the next root is asked for
  pub names-at : (asked : List RootSays) → v.turn ≡ asked ∷ [] → (says : RootSays) → length asked < g.plan.roots → MayName g asked v says → 1 ≤ v.parts
      → Keeps g id v (root (length asked)) (λ n. root_word says) (λ r w. (n : ℕ) × (w ≡ saw (root (length asked)) n (put_root says v)))
  names-at asked has_turn says few may in_use m vs s l at small = (
    saw (root (length asked)) (m (root (length asked))) (put_root says v),
    name-parts m vs s l at asked has_turn says few may in_use,
    (m (root (length asked)), refl),
    (refl, refl, inl refl),
  )

  -- more of a root: a reference to its record
  pub root-mores-at : (asked : List RootSays) → v.turn ≡ asked ∷ [] → (r u : ℕ) → r < 16 → At asked r (Record u) → 1 ≤ v.parts → length v.futures < 4294967296
      → Keeps g id v (refs u) (λ n. (n + 1) % 2 ^ 64) (λ k w. w ≡ saw (refs u) k (referred u v))
  root-mores-at asked has_turn r u low there in_use room m vs s l at small =
      let t = root-record m vs s l at asked has_turn r u low there in (
        saw (refs u) (m (refs u)) (referred u v),
        more-parts g id v m vs s l at u ((m (refs u) + 1) % 2 ^ 64) t.0 t.1 t.2 in_use room (omega (arith, refs-few g m vs s l u t.0 t.1)),
        refl,
        (refl, refl, inl refl),
      )
