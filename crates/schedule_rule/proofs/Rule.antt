-- How the scheduler's rule is kept: a part that reads nothing of what a step changes stays, and a step that keeps all parts may be
-- made.
use Rattle.std.proofs.Common.{◌≡◌, ◌∙◌, ℕ, Bool, true, false, cond, List, [], ◌∷◌, ◌++◌, map, refl, sym, ap, subst, true≢false, arith, length-set}
use Rattle.std.specs.Prelude.{slice_index, slice_set}
use Rattle.std.proofs.lemmas.List.{map-set, append-nil}
use Rattle.atomic_table.specs.Table.{State, Me, Allows}
use Rattle.atomic_table.specs.Table as table
use Rattle.table_core.specs.Addresses.{Addr, Mem, address, is_there, is_same, mem_of, put}
use Rattle.record_core.specs.Counting.{At}
use Rattle.task_meaning.specs.Worths.{Accepted}
use Rattle.table_core.specs.Story.{Story, End}
use Rattle.table_core.specs.Steps.{Stepped, Tells, TellsStored}
use Rattle.table_core.specs.declared.setup.Setup.{Setup}
use Rattle.table_core.specs.declared.view.View.{View}
use Rattle.table_core.proofs.ListFacts.{found, set_again, at_map}
use Rattle.table_core.proofs.AddressFacts.{mem-put, mem_at, put-again, same-is}
use Rattle.schedule_rule.specs.Parts.{Part, seen, Says, Lawful, LawfulAfter, Holds, Keeps, is_written, UnwrittenAreZero}
use Rattle.schedule_rule.specs.Stories.{GoesOn, Grows}

module _ (g : Setup) (vs : List View) (id : ℕ) (v : View) (at : At vs id v) where
  -- a part stays where what it reads of the view stays
  pub frames : (q : Part) (s : Story) (n : Mem) (w : View) → seen q v ≡ seen q w → Says g q s n (map (seen q) vs) → Says g q s n (map (seen q) (slice_set vs id w))
  frames q s n w same says =
      let unchanged : map (seen q) (slice_set vs id w) ≡ map (seen q) vs =
      map-set (seen q) vs id w ∙ ap (slice_set (map (seen q) vs) id) (sym same) ∙ set_again (map (seen q) vs) id (seen q v) (at_map (seen q) vs id v at) in
      subst (Says g q s n) (sym unchanged) says

  -- a part holds where it holds with what it reads of the new view
  pub moves : (q : Part) (s : Story) (n : Mem) (w : View) → Says g q s n (slice_set (map (seen q) vs) id (seen q w)) → Says g q s n (map (seen q) (slice_set vs id w))
  moves q s n w says = subst (Says g q s n) (sym (map-set (seen q) vs id w)) says

abbrev pub holds_at : Setup → State (Unit {0}) View → Type 0
holds_at g s = Holds g s.words s.views

-- the words that no step writes are 0 after a step at another word
pub unwritten-kept : (m : Mem) (a : Addr) (n : ℕ) → is_written a ≡ true → UnwrittenAreZero m → UnwrittenAreZero (put m a n)
unwritten-kept m a n written zeros b not = by (is_same a b) refl
  where
    by : (s : Bool) → is_same a b ≡ s → cond s n (m b) ≡ 0
    by true same = absurd (true≢false (sym written ∙ ap is_written (same-is a b same) ∙ not))
    by false other = zeros b not

-- all that a kind of step tells, of the number found and of that which it writes there
abbrev TellsAll : Addr → (ℕ → ℕ) → (ℕ → View → Type 0) → Me (Unit {0}) View → ℕ → Me (Unit {0}) View → Type 0
TellsAll a f told old found new = told found new.0 × Stepped a found (f found) old.0 new.0 × (new.1 ≡ old.1)

-- a kind of step that keeps the rule over addresses keeps it over the words as they lie
may_step : (g : Setup) (slots id : ℕ) (me : Me (Unit {0}) View) (a : Addr) (f : ℕ → ℕ) (told : ℕ → View → Type 0)
    → is_there g.plan a ≡ true → is_written a ≡ true → Keeps g id me.0 a f told → Allows (holds_at g) slots id me (address g.plan a) f (TellsAll a f told me)
may_step g slots id me a f told there written keeps s holds homes at small =
    let m : Mem = mem_of g.plan s.words in
    let read : m a ≡ slice_index s.words (address g.plan a) = mem_at g.plan s.words a there in
    let step = keeps m s.views holds.1.0 holds.1.1 (found s.views id me.0 at) (omega (arith, small, read)) in
    let new : View = step.0 in
    let put_there : put m a (f (m a)) ≡ mem_of g.plan (slice_set s.words (address g.plan a) (f (slice_index s.words (address g.plan a)))) =
    ap (λ (n : ℕ). put m a (f n)) read ∙ sym (mem-put g.plan s.words a (f (slice_index s.words (address g.plan a))) holds.0 there) in (
      new,
      table.keeps,
      tt,
      (
        length-set s.words (address g.plan a) (f (slice_index s.words (address g.plan a))) ∙ holds.0,
        subst (λ (n : Mem). Lawful g n (slice_set s.views id new)) put_there (step.1.0, step.1.2),
        subst UnwrittenAreZero put_there (unwritten-kept m a (f (m a)) written holds.2),
      ),
      (subst (λ (n : ℕ). told n new) read step.2, subst (λ (n : ℕ). Stepped a n (f n) me.0 new) read step.3, refl),
    )

allows_all : (g key : Setup) (slots id word : ℕ) (me : Me (Unit {0}) View) (a : Addr) (f : ℕ → ℕ) (told : ℕ → View → Type 0)
    → key ≡ g → word ≡ address g.plan a → is_there g.plan a ≡ true → is_written a ≡ true → Keeps g id me.0 a f told → Allows (holds_at key) slots id me word f (TellsAll a f told me)
allows_all g key slots id word me a f told keyed placed there written keeps =
    subst (λ (k : Setup). Allows (holds_at k) slots id me word f (TellsAll a f told me)) (sym keyed)
    (subst (λ (w : ℕ). Allows (holds_at g) slots id me w f (TellsAll a f told me)) (sym placed) (may_step g slots id me a f told there written keeps))

-- it tells the number found
pub allows : (g key : Setup) (slots id word : ℕ) (me : Me (Unit {0}) View) (a : Addr) (f : ℕ → ℕ) (told : ℕ → View → Type 0)
    → key ≡ g → word ≡ address g.plan a → is_there g.plan a ≡ true → is_written a ≡ true → Keeps g id me.0 a f told → Allows (holds_at key) slots id me word f (Tells a told me)
allows g key slots id word me a f told keyed placed there written keeps s holds homes at small =
    let step = allows_all g key slots id word me a f told keyed placed there written keeps s holds homes at small in
    (step.0, step.1, step.2, step.3, (step.4.0, (step.4.1.0, step.4.1.1), step.4.2))

-- a store tells what it wrote, and not what it found
pub stores : (g key : Setup) (slots id word new : ℕ) (me : Me (Unit {0}) View) (a : Addr) (told : ℕ → View → Type 0)
    → key ≡ g → word ≡ address g.plan a → is_there g.plan a ≡ true → is_written a ≡ true → Keeps g id me.0 a (λ n. new) (λ n. told new)
    → Allows (holds_at key) slots id me word (λ n. new) (λ n. TellsStored a told me new)
stores g key slots id word new me a told keyed placed there written keeps s holds homes at small =
    let step = allows_all g key slots id word me a (λ n. new) (λ n. told new) keyed placed there written keeps s holds homes at small in
    (step.0, step.1, step.2, step.3, (step.4.0, (slice_index s.words word, step.4.1), step.4.2))

-- a word is written as it was
pub kept_word : (g : Setup) (s : Story) (m : Mem) (a : Addr) (n : ℕ) (vs : List View) → n ≡ m a → LawfulAfter g s m vs → LawfulAfter g s (put m a n) vs
kept_word g s m a n vs same lawful = subst (λ (x : Mem). LawfulAfter g s x vs) (sym (ap (put m a) same ∙ put-again m a)) lawful

-- a list goes on from itself
pub goes_nowhere : {A : Type 0} (l : List A) → GoesOn l l
goes_nowhere l = ([], sym (append-nil l))

-- nothing happened
pub same-story : (s : Story) → Grows s s
same-story s = record { calls = goes_nowhere s.calls; order = goes_nowhere s.order; ends = goes_nowhere s.ends }

-- a call was accepted
pub one-call : (s : Story) (a : Accepted) → Grows s (record s { calls = s.calls ++ a ∷ [] })
one-call s a = record { calls = (a ∷ [], refl); order = goes_nowhere s.order; ends = goes_nowhere s.ends }

-- a task ended
pub one-end : (s : Story) (e : End) → Grows s (record s { ends = s.ends ++ e ∷ [] })
one-end s e = record { calls = goes_nowhere s.calls; order = goes_nowhere s.order; ends = (e ∷ [], refl) }
