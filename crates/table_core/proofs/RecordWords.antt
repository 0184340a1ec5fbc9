-- The words of records, where one of them is written, and which are a pass's own.
use Rattle.std.proofs.Common.{◌≡◌, ◌≢◌, ◌∙◌, ◌⊎◌, inl, inr, ℕ, zero, suc, ◌≤◌, Bool, true, false, cond, ◌==◌, ◌||◌, List, [], ◌∷◌, Some, None, slice_get, refl, sym, ap, subst, true≢false}
use Rattle.std.proofs.lemmas.Bool.{eqb-true, eq-eqb, ne_eqb}
use Rattle.record_core.specs.Counting.{At, Has, dropped}
use Rattle.kt_words.specs.Capacity.{block_units}
use Rattle.table_core.specs.Addresses.{Addr, Mem, state, refs, head, next, task, is_same, put}
use Rattle.table_core.specs.Holdings.{Made, Run}
use Rattle.table_core.specs.Own.{is_word_of, is_result_of, any, is_own, made_at, known_in, record_words}
use Rattle.record_core.proofs.CountFacts.{passing-one}
use Rattle.table_core.specs.RecordViews.{forget_words, is_made_at}
use Rattle.table_core.proofs.AddressFacts.{same-is}
use Rattle.table_core.proofs.ListFacts.{same_some}
use Rattle.table_core.proofs.OwnFacts.{made-counts}

-- a test that some member passes
pub any-has : {A : Type 0} (p : A → Bool) (l : List A) → any p l ≡ true → (x : A) × Has x l × (p x ≡ true)
any-has p [] e = absurd (true≢false (sym e))
any-has p (x ∷ l) e = by (p x) refl (any-has p l) e
  where
    by : (b : Bool) → p x ≡ b → (any p l ≡ true → (y : _) × Has y l × (p y ≡ true)) → (b || any p l) ≡ true → (y : _) × Has y (x ∷ l) × (p y ≡ true)
    by true here rest h = (x, (0, refl), here)
    by false here rest h = let t = rest h in (t.0, (suc t.1.0, t.1.1), t.2)

-- a list with a member that passes has one that passes
pub has-any : {A : Type 0} (p : A → Bool) (l : List A) (x : A) → Has x l → p x ≡ true → any p l ≡ true
has-any p l x has e = at_place l has.0 has.1
  where
    at_place : (l : List _) (k : ℕ) → At l k x → any p l ≡ true
    at_place [] k at = let no : None ≡ Some x → ⊥ = λ y. cc in absurd (no at)
    at_place (y ∷ l) zero at = let same : y ≡ x = cc in ap (λ z. p z || any p l) same ∙ ap (λ b. b || any p l) e
    at_place (y ∷ l) (suc k) at = by (p y) (at_place l k at)
      where
        by : (b : Bool) → any p l ≡ true → (b || any p l) ≡ true
        by true h = refl
        by false h = h

-- one test of two passes
pub or-left : (a b : Bool) → a ≡ true → (a || b) ≡ true
or-left true b e = refl
or-left false b e = absurd (true≢false (sym e))

-- a test holds with another one where it holds alone
pub or-right : (a b : Bool) → b ≡ true → (a || b) ≡ true
or-right true b e = refl
or-right false b e = e

-- either test passes
either_test : (a b : Bool) → (a || b) ≡ true → (a ≡ true) ⊎ (b ≡ true)
either_test true b e = inl refl
either_test false b e = inr e

-- an own word is of a made record of the hand, or a result of a running one
abbrev pub OwnedBy : List Made → List Run → Addr → Type 0
OwnedBy made runs a = ((r : Made) × Has r made × (is_word_of r.unit (block_units r.class) a ≡ true)) ⊎ ((r : Run) × Has r runs × (is_result_of r.unit (block_units r.class) a ≡ true))

-- an own word belongs to a record that the hand makes or runs
pub owned-by : (made : List Made) (runs : List Run) (a : Addr) → is_own made runs a ≡ true → OwnedBy made runs a
owned-by made runs a e = elim (either_test _ _ e) [
  | inl of_made ↦ inl (any-has (λ (r : Made). is_word_of r.unit (block_units r.class) a) made of_made)
  | inr of_run ↦ inr (any-has (λ (r : Run). is_result_of r.unit (block_units r.class) a) runs of_run)
]

-- a header word but the result is own only where the record is made
module _ (made : List Made) (runs : List Run) where
  header-own : (u : ℕ) (a : Addr) → ((x units : ℕ) → is_word_of x units a ≡ (u == x)) → ((x units : ℕ) → is_result_of x units a ≡ false) → is_own made runs a ≡ true → 1 ≤ made_at u made
  header-own u a word not_result e = elim (owned-by made runs a e) [
    | inl t ↦
        let same : u ≡ (t.0).unit = eqb-true u (t.0).unit (sym (word (t.0).unit (block_units (t.0).class)) ∙ t.2) in
        subst (λ (w : ℕ). 1 ≤ made_at w made) (sym same) (made-counts made t.0 t.1)
    | inr t ↦ absurd (true≢false (sym t.2 ∙ not_result (t.0).unit (block_units (t.0).class)))
  ]

  -- a state word is own only where the hand makes the record
  pub state-own : (u : ℕ) → is_own made runs (state u) ≡ true → 1 ≤ made_at u made
  state-own u e = header-own u (state u) (λ x units. refl) (λ x units. refl) e

  -- a reference word is own only where the hand makes the record
  pub refs-own : (u : ℕ) → is_own made runs (refs u) ≡ true → 1 ≤ made_at u made
  refs-own u e = header-own u (refs u) (λ x units. refl) (λ x units. refl) e

  -- a head is own only where the hand makes the record
  pub head-own : (u : ℕ) → is_own made runs (head u) ≡ true → 1 ≤ made_at u made
  head-own u e = header-own u (head u) (λ x units. refl) (λ x units. refl) e

  -- a next word is own only where the hand makes the record
  pub next-own : (u : ℕ) → is_own made runs (next u) ≡ true → 1 ≤ made_at u made
  next-own u e = header-own u (next u) (λ x units. refl) (λ x units. refl) e

  -- a task word is own only where the hand makes the record
  pub task-own : (u : ℕ) → is_own made runs (task u) ≡ true → 1 ≤ made_at u made
  task-own u e = header-own u (task u) (λ x units. refl) (λ x units. refl) e

module _ (m : Mem) (u n : ℕ) where
  -- a word of a record is written: other words are as before
  pub words-state : (a : Addr) → ((w : ℕ) → a ≡ state w → w ≢ u) → record_words (put m (state u) n) a ≡ record_words m a
  words-state (state w) other = ap (λ (b : Bool). cond b n (m (state w))) (ne_eqb u w (λ e. other w refl (sym e)))
  words-state a other = refl

  -- words of records stay where the references of another unit are written
  pub words-refs : (a : Addr) → ((w : ℕ) → a ≡ refs w → w ≢ u) → record_words (put m (refs u) n) a ≡ record_words m a
  words-refs (refs w) other = ap (λ (b : Bool). cond b n (m (refs w))) (ne_eqb u w (λ e. other w refl (sym e)))
  words-refs a other = refl

  -- words of records stay where the head of another unit is written
  pub words-head : (a : Addr) → ((w : ℕ) → a ≡ head w → w ≢ u) → record_words (put m (head u) n) a ≡ record_words m a
  words-head (head w) other = ap (λ (b : Bool). cond b n (m (head w))) (ne_eqb u w (λ e. other w refl (sym e)))
  words-head a other = refl

  -- words of records stay where the next word of another unit is written
  pub words-next : (a : Addr) → ((w : ℕ) → a ≡ next w → w ≢ u) → record_words (put m (next u) n) a ≡ record_words m a
  words-next (next w) other = ap (λ (b : Bool). cond b n (m (next w))) (ne_eqb u w (λ e. other w refl (sym e)))
  words-next a other = refl

-- what is left of what was known: nothing of the record at u
pub forgets : (u units : ℕ) (l : List (Addr × ℕ)) (a : Addr) (n : ℕ) → known_in a (forget_words u units l) ≡ Some n → (known_in a l ≡ Some n) × (is_word_of u units a ≡ false)
forgets u units [] a n e = let none : None ≡ Some n → ⊥ = λ x. cc in absurd (none e)
forgets u units (x ∷ xs) a n e = by (is_word_of u units x.0) refl (is_same x.0 a) refl e (λ known. forgets u units xs a n known)
  where
    by : (b : Bool) → is_word_of u units x.0 ≡ b → (d : Bool) → is_same x.0 a ≡ d → known_in a (cond b (forget_words u units xs) (x ∷ forget_words u units xs)) ≡ Some n
        → (known_in a (forget_words u units xs) ≡ Some n → (known_in a xs ≡ Some n) × (is_word_of u units a ≡ false))
        → (cond (is_same x.0 a) (Some x.1) (known_in a xs) ≡ Some n) × (is_word_of u units a ≡ false)
    by true its true same h rest = absurd (true≢false (sym (ap (is_word_of u units) (sym (same-is x.0 a same)) ∙ its) ∙ (rest h).1))
    by true its false same h rest = let t = rest h in (ap (λ (b : Bool). cond b (Some x.1) (known_in a xs)) same ∙ t.0, t.1)
    by false its true same h rest =
        let here : Some x.1 ≡ Some n = ap (λ (b : Bool). cond b (Some x.1) (known_in a (forget_words u units xs))) (sym same) ∙ h in
        (ap (λ (b : Bool). cond b (Some x.1) (known_in a xs)) same ∙ here, ap (is_word_of u units) (sym (same-is x.0 a same)) ∙ its)
    by false its false same h rest =
        let t = rest (ap (λ (b : Bool). cond b (Some x.1) (known_in a (forget_words u units xs))) (sym same) ∙ h) in (ap (λ (b : Bool). cond b (Some x.1) (known_in a xs)) same ∙ t.0, t.1)

-- a member that is not dropped is there
pub has-dropped : {A : Type 0} (p : A → Bool) (l : List A) (x : A) → Has x l → p x ≡ false → Has x (dropped p l)
has-dropped {A} p l x has stays = go l has.0 has.1
  where
    go : (l : List A) (k : ℕ) → At l k x → Has x (dropped p l)
    go [] k at = let no_one : None ≡ Some x → ⊥ = λ e. cc in absurd (no_one at)
    go (y ∷ l) zero at = by (p y) refl
      where
        same : y ≡ x
        same = cc

        by : (b : Bool) → p y ≡ b → Has x (cond b l (y ∷ dropped p l))
        by true e = absurd (true≢false (sym e ∙ ap p same ∙ stays))
        by false e = (0, at)
    go (y ∷ l) (suc k) at = by (p y) (go l k at)
      where
        by : (b : Bool) → Has x (dropped p l) → Has x (cond b l (y ∷ dropped p l))
        by true rest = (k, at)
        by false rest = (suc rest.0, rest.1)

-- where one record at most is made at u, the members there are one
pub made-one : (u : ℕ) (l : List Made) → made_at u l ≤ 1 → (r x : Made) → Has r l → r.unit ≡ u → Has x l → x.unit ≡ u → x ≡ r
made-one u l few r x has e has' e' =
    let same : has'.0 ≡ has.0 = passing-one (λ (y : Made). y.unit == u) l has'.0 has.0 x r few has'.1 (eq-eqb x.unit u e') has.1 (eq-eqb r.unit u e) in
    same_some x r (sym has'.1 ∙ ap (slice_get l) same ∙ has.1)

-- what is own still is, once a record that it is not of has gone
pub own-left : (u c : ℕ) (made : List Made) (runs : List Run) → ((r : Made) → Has r made → r.unit ≡ u → r.class ≡ c) → (a : Addr) → is_own made runs a ≡ true → is_word_of u (block_units c) a ≡ false
    → is_own (dropped (is_made_at u) made) runs a ≡ true
own-left u c made runs one a mine not_its = elim (owned-by made runs a mine) [
  | inl t ↦
      let apart : is_made_at u t.0 ≡ false = ne_eqb (t.0).unit u
      (λ e. true≢false (sym (sym (λ k. is_word_of (e k) (block_units (one t.0 t.1 e k)) a) ∙ t.2) ∙ not_its)) in
      or-left _ _ (has-any (λ (r : Made). is_word_of r.unit (block_units r.class) a) (dropped (is_made_at u) made) t.0 (has-dropped (is_made_at u) made t.0 t.1 apart) t.2)
  | inr t ↦ or-right _ _ (has-any (λ (r : Run). is_result_of r.unit (block_units r.class) a) runs t.0 t.1 t.2)
]

-- a word that is own still is, once one record more is made
pub own-more : (r : Made) (made : List Made) (runs : List Run) (a : Addr) → is_own made runs a ≡ true → is_own (r ∷ made) runs a ≡ true
own-more r made runs a mine = by (is_word_of r.unit (block_units r.class) a)
  where
    by : (b : Bool) → ((b || any (λ (x : Made). is_word_of x.unit (block_units x.class) a) made) || any (λ (x : Run). is_result_of x.unit (block_units x.class) a) runs) ≡ true
    by true = refl
    by false = mine
