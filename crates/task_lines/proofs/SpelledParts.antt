-- What may stand at the end of a line is spelled by the words that its parser takes.
use Rattle.task_lines.proofs.Vocabulary.{◌≡◌, Bool, true, false, cond, Option, Some, None, List, [], ◌∷◌, ◌++◌, Ok, refl, sym, ◌∙◌, ap, subst, inl, inr, codes, same_bytes, Relation, Less, AtMost, Equal, Differs, Priority, High, Regular, Low, Word, is_missing, is_present, Scan, seen, moved, Outcome, ◌>>◌, ◌<$>◌, pure, fixed, read_future, a_future, eat, same-ok, parts, word-there, same-word, fixed-taken, word-taken, Eaten, eaten, left, eat-taken, looked_up, written_by, relation_of, priority_of, read_behind, priority_by, read_priority, last_priority_by, read_last_priority, read_retry, relation_by, read_relation, ℕ, drop, SpellsFuture, relation_word, priority_word, SpellsBehind, SpellsPriority, retry_words}
use Rattle.task_lines.proofs.Words.{some-same, future-means}

-- words that spell what was read stand first
pub record TakesWords {A : Type 0} (R : List Word → A → Type 0) (s : Scan) (r : A × Scan) : Type 0 where
  pub words : List Word
  pub left : s.left ≡ words ++ r.1.left
  pub spells : R words r.0

-- a word that is there and that is seen stands first
pub word-first : (word : Word) (s : Scan) → is_present word ≡ true → seen s ≡ word → s.left ≡ word ∷ (moved s).left
word-first word s present e =
    word-there (λ w. is_present w ≡ true) (λ t. let c : false ≡ true = t in cc) s (ap is_present e ∙ present) ∙ ap (λ w. w ∷ (moved s).left) e

looked-by : {A : Type 0} (spell : A → Word) (thing : A) (more : List A) (word : Word) (a : A) (b : Bool) → same_bytes (spell thing) word ≡ b
    → (looked_up (written_by spell more) word ≡ Some a → word ≡ spell a) → cond b (Some thing) (looked_up (written_by spell more) word) ≡ Some a → word ≡ spell a
looked-by spell thing more word a true t further h = sym (same-word (spell thing) word t) ∙ ap spell (some-same thing a h)
looked-by spell thing more word a false t further h = further h

-- a word that is looked up is the one that writes what was found
pub looked-up : {A : Type 0} (spell : A → Word) (things : List A) (word : Word) (a : A) → looked_up (written_by spell things) word ≡ Some a → word ≡ spell a
looked-up spell [] word a h = cc
looked-up spell (thing ∷ more) word a h = looked-by spell thing more word a (same_bytes (spell thing) word) refl (looked-up spell more word a) h

-- ---- what may stand at the end of a line

behind-by : (s : Scan) (r : Option (List ℕ) × Scan) (found : Bool) (t : Scan) → Eaten (codes "behind") s (found, t)
    → (cond found (Some <$> read_future) (pure None)) t ≡ Ok r → TakesWords SpellsBehind s r
unfolding read_future
behind-by s r true t (eaten h l) e =
    let p = parts (read_future t) (λ name. pure (Some name)) r e in
    let f = word-taken SpellsFuture a_future (drop 1) future-means t (p.value, p.scan) p.first in
    subst (TakesWords SpellsBehind s) (same-ok (Some p.value, p.scan) r p.next)
    (record { words = codes "behind" ∷ (64 ∷ p.value) ∷ []; left = l ∙ ap (λ ws. codes "behind" ∷ ws) (f.left ∙ ap (λ w. w ∷ p.scan.left) f.spells.0); spells = (refl, f.spells.1) })
behind-by s r true t (left h l) e = cc
behind-by s r false t (eaten h l) e = cc
behind-by s r false t (left h l) e =
    subst (TakesWords SpellsBehind s) (same-ok (None, t) r e) (record { words = []; left = ap (λ (v : Scan). v.left) l; spells = (refl, tt) })

pub behind-taken : (s : Scan) (r : Option (List ℕ) × Scan) → read_behind s ≡ Ok r → TakesWords SpellsBehind s r
unfolding read_behind
behind-taken s r e = let p = parts (eat (codes "behind") s) (λ found. cond found (Some <$> read_future) (pure None)) r e in
    behind-by s r p.value p.scan (eat-taken (codes "behind") refl s (p.value, p.scan) p.first) p.next

priority-present : (priority : Priority) → is_present (priority_word priority) ≡ true
priority-present High = refl
priority-present _ = refl

one-priority : (s : Scan) (priority : Priority) (r : Priority × Scan) → priority_of (seen s) ≡ Some priority
    → ◌≡◌ {A = Outcome Priority} (Ok (priority, moved s)) (Ok r) → TakesWords SpellsPriority s r
one-priority s priority r o e =
    let is = looked-up priority_word (High ∷ Regular ∷ Low ∷ []) (seen s) priority o in
    subst (TakesWords SpellsPriority s) (same-ok (priority, moved s) r e)
    (record { words = priority_word priority ∷ []; left = word-first (priority_word priority) s (priority-present priority) is; spells = inl refl })

no-priority : (s : Scan) (r : Priority × Scan) → ◌≡◌ {A = Outcome Priority} (Ok (Regular, s)) (Ok r) → TakesWords SpellsPriority s r
no-priority s r e = subst (TakesWords SpellsPriority s) (same-ok (Regular, s) r e) (record { words = []; left = refl; spells = inr (refl, refl) })

priority-by : (s : Scan) (r : Priority × Scan) (o : Option Priority) → priority_of (seen s) ≡ o → priority_by o s ≡ Ok r → TakesWords SpellsPriority s r
priority-by s r None o e = no-priority s r e
priority-by s r (Some priority) o e = one-priority s priority r o e

pub priority-taken : (s : Scan) (r : Priority × Scan) → read_priority s ≡ Ok r → TakesWords SpellsPriority s r
unfolding read_priority
priority-taken s r e = priority-by s r (priority_of (seen s)) refl e

last-priority-by : (s : Scan) (r : Priority × Scan) (missing : Bool) (o : Option Priority) → priority_of (seen s) ≡ o
    → (cond missing (pure Regular) (last_priority_by o)) s ≡ Ok r → TakesWords SpellsPriority s r
last-priority-by s r true o is e = no-priority s r e
last-priority-by s r false None is e = cc
last-priority-by s r false (Some priority) is e = one-priority s priority r is e

pub last-priority-taken : (s : Scan) (r : Priority × Scan) → read_last_priority s ≡ Ok r → TakesWords SpellsPriority s r
unfolding read_last_priority
last-priority-taken s r e = last-priority-by s r (is_missing (seen s)) (priority_of (seen s)) refl e

retry-by : (s : Scan) (r : Bool × Scan) (missing : Bool) → (cond missing (pure false) (fixed (codes "retry") >> pure true)) s ≡ Ok r → TakesWords (λ words retry. words ≡ retry_words retry) s r
retry-by s r true e = subst (TakesWords (λ words retry. words ≡ retry_words retry) s) (same-ok (false, s) r e) (record { words = []; left = refl; spells = refl })
retry-by s r false e = let p = parts (fixed (codes "retry") s) (λ _. pure true) r e in
    subst (TakesWords (λ words retry. words ≡ retry_words retry) s) (same-ok (true, p.scan) r p.next)
    (record { words = codes "retry" ∷ []; left = fixed-taken (codes "retry") refl s (p.value, p.scan) p.first; spells = refl })

pub retry-taken : (s : Scan) (r : Bool × Scan) → read_retry s ≡ Ok r → TakesWords (λ words retry. words ≡ retry_words retry) s r
unfolding read_retry
retry-taken s r e = retry-by s r (is_missing (seen s)) e

relation-present : (relation : Relation) → is_present (relation_word relation) ≡ true
relation-present Less = refl
relation-present _ = refl

relation-by : (s : Scan) (r : Relation × Scan) (o : Option Relation) → relation_of (seen s) ≡ o → relation_by o s ≡ Ok r → s.left ≡ relation_word r.0 ∷ r.1.left
relation-by s r None o e = cc
relation-by s r (Some relation) o e =
    let is = looked-up relation_word (Less ∷ AtMost ∷ Equal ∷ Differs ∷ []) (seen s) relation o in
    subst (λ (r : Relation × Scan). s.left ≡ relation_word r.0 ∷ r.1.left) (same-ok (relation, moved s) r e)
    (word-first (relation_word relation) s (relation-present relation) is)

pub relation-taken : (s : Scan) (r : Relation × Scan) → read_relation s ≡ Ok r → s.left ≡ relation_word r.0 ∷ r.1.left
unfolding read_relation
relation-taken s r e = relation-by s r (relation_of (seen s)) refl e
