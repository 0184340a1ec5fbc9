-- What may stand at the end of a line is read from the words that spell it.
use Rattle.task_lines.proofs.Vocabulary.{◌≡◌, ℕ, Bool, true, false, cond, Option, Some, None, List, [], ◌∷◌, ◌++◌, refl, sym, ◌∙◌, ap, subst, inl, inr, codes, same_bytes, Relation, Less, Priority, High, Regular, Low, Word, is_missing, is_future, Scan, first_of, seen, ◌<$>◌, pure, fixed, read_future, eat, Answers, then-answers, pure-answers, seen-is, seen-first, moved-is, fixed-answers, word-answers, a_future, drop, eat-answers, eat-nothing, relation_of, priority_of, read_behind, priority_by, read_priority, last_priority_by, read_last_priority, read_retry, relation_by, read_relation, is_argument, is_root_argument, SpellsFuture, relation_word, priority_word, SpellsBehind, SpellsPriority, retry_words}
use Rattle.task_text.specs.Scan.{◌>>=◌}
use Rattle.task_lines.proofs.Words.{future-means}

-- ---- what may stand at the end of a line

pub behind-answers : (words : List Word) (behind : Option (List ℕ)) → SpellsBehind words behind → (s : Scan) (rest : List Word) → same_bytes (codes "behind") (first_of rest) ≡ false
    → s.left ≡ words ++ rest → Answers read_behind s behind rest
unfolding read_behind read_future
behind-answers words None spells s rest stop e =
    let l : s.left ≡ rest = e ∙ ap (λ ws. ws ++ rest) spells.0 in
    then-answers (eat (codes "behind")) (λ found. cond found (Some <$> read_future) (pure None)) s false None rest rest
    (eat-nothing (codes "behind") s rest l stop) (λ t l. pure-answers t None rest l)
behind-answers words (Some name) spells s rest stop e =
    let l : s.left ≡ codes "behind" ∷ (64 ∷ name) ∷ rest = e ∙ ap (λ ws. ws ++ rest) spells.0 in
    then-answers (eat (codes "behind")) (λ found. cond found (Some <$> read_future) (pure None)) s true (Some name) ((64 ∷ name) ∷ rest) rest
    (eat-answers (codes "behind") s ((64 ∷ name) ∷ rest) l)
    (λ t l. then-answers read_future (λ n. pure (Some n)) t name (Some name) rest rest (word-answers SpellsFuture a_future (drop 1) future-means (64 ∷ name) name (refl, spells.1) t rest l) (λ u m. pure-answers u (Some name) rest m))

priority-of : (priority : Priority) → priority_of (priority_word priority) ≡ Some priority
priority-of High = refl
priority-of _ = refl

pub priority-answers : (words : List Word) (priority : Priority) → SpellsPriority words priority → (s : Scan) (rest : List Word) → priority_of (first_of rest) ≡ None
    → s.left ≡ words ++ rest → Answers read_priority s priority rest
unfolding read_priority
priority-answers words priority (inl one) s rest stop e =
    let l : s.left ≡ priority_word priority ∷ rest = e ∙ ap (λ ws. ws ++ rest) one in
    record {
      end = _;
      reads = ap (λ (o : Option Priority). priority_by o s) (ap priority_of (seen-is s (priority_word priority) rest l) ∙ priority-of priority);
      left = moved-is s (priority_word priority) rest l;
    }
priority-answers words priority (inr none) s rest stop e =
    let l : s.left ≡ rest = e ∙ ap (λ ws. ws ++ rest) none.0 in
    subst (λ p. Answers read_priority s p rest) (sym none.1)
    (record { end = s; reads = ap (λ (o : Option Priority). priority_by o s) (ap priority_of (seen-first s rest l) ∙ stop); left = l })

priority-there : (priority : Priority) → is_missing (priority_word priority) ≡ false
priority-there High = refl
priority-there _ = refl

pub last-priority-answers : (words : List Word) (priority : Priority) → SpellsPriority words priority → (s : Scan) → s.left ≡ words → Answers read_last_priority s priority []
unfolding read_last_priority
last-priority-answers words priority (inl one) s e =
    let l : s.left ≡ priority_word priority ∷ [] = e ∙ one in
    let is = seen-is s (priority_word priority) [] l in
    record {
      end = _;
      reads = ap (λ (b : Bool). (cond b (pure Regular) (last_priority_by (priority_of (seen s)))) s) (ap is_missing is ∙ priority-there priority)
          ∙ ap (λ (o : Option Priority). last_priority_by o s) (ap priority_of is ∙ priority-of priority);
      left = moved-is s (priority_word priority) [] l;
    }
last-priority-answers words priority (inr none) s e =
    let l : s.left ≡ [] = e ∙ none.0 in
    subst (λ p. Answers read_last_priority s p []) (sym none.1)
    (record { end = s; reads = ap (λ (b : Bool). (cond b (pure Regular) (last_priority_by (priority_of (seen s)))) s) (ap is_missing (seen-first s [] l)); left = l })

pub retry-answers : (retry : Bool) (s : Scan) → s.left ≡ retry_words retry → Answers read_retry s retry []
unfolding read_retry
retry-answers true s e =
    let h = then-answers (fixed (codes "retry")) (λ _. pure true) s tt true [] [] (fixed-answers (codes "retry") s [] e) (λ t l. pure-answers t true [] l) in
    record {
      end = h.end;
      reads = ap (λ (b : Bool). (cond b (pure false) (fixed (codes "retry") >>= (λ _. pure true))) s) (ap is_missing (seen-is s (codes "retry") [] e)) ∙ h.reads;
      left = h.left;
    }
retry-answers false s e = record {
  end = s;
  reads = ap (λ (b : Bool). (cond b (pure false) (fixed (codes "retry") >>= (λ _. pure true))) s) (ap is_missing (seen-first s [] e));
  left = e;
}

relation-of : (relation : Relation) → relation_of (relation_word relation) ≡ Some relation
relation-of Less = refl
relation-of _ = refl

pub relation-answers : (relation : Relation) (s : Scan) (rest : List Word) → s.left ≡ relation_word relation ∷ rest → Answers read_relation s relation rest
unfolding read_relation
relation-answers relation s rest e = record {
  end = _;
  reads = ap (λ (o : Option Relation). relation_by o s) (ap relation_of (seen-is s (relation_word relation) rest e) ∙ relation-of relation);
  left = moved-is s (relation_word relation) rest e;
}

-- ---- what does not go on with a list

-- the test refuses each word that may stand at the end of a line
pub record Refuses (test : Word → Bool) : Type 0 where
  pub none : test [] ≡ false
  pub high : test (codes "high") ≡ false
  pub regular : test (codes "regular") ≡ false
  pub low : test (codes "low") ≡ false
  pub retry : test (codes "retry") ≡ false

pub retry-refused : (test : Word → Bool) → Refuses test → (retry : Bool) → test (first_of (retry_words retry)) ≡ false
retry-refused test refuses true = refuses.retry
retry-refused test refuses false = refuses.none

pub priority-refused : (test : Word → Bool) → Refuses test → (words : List Word) (priority : Priority) → SpellsPriority words priority
    → (rest : List Word) → test (first_of rest) ≡ false → test (first_of (words ++ rest)) ≡ false
priority-refused test refuses words High (inl one) rest stop = ap (λ ws. test (first_of (ws ++ rest))) one ∙ refuses.high
priority-refused test refuses words Regular (inl one) rest stop = ap (λ ws. test (first_of (ws ++ rest))) one ∙ refuses.regular
priority-refused test refuses words Low (inl one) rest stop = ap (λ ws. test (first_of (ws ++ rest))) one ∙ refuses.low
priority-refused test refuses words priority (inr none) rest stop = ap (λ ws. test (first_of (ws ++ rest))) none.0 ∙ stop

pub behind-refused : (test : Word → Bool) → test (codes "behind") ≡ false → (words : List Word) (behind : Option (List ℕ)) → SpellsBehind words behind
    → (rest : List Word) → test (first_of rest) ≡ false → test (first_of (words ++ rest)) ≡ false
behind-refused test refuses words None spells rest stop = ap (λ ws. test (first_of (ws ++ rest))) spells.0 ∙ stop
behind-refused test refuses words (Some name) spells rest stop = ap (λ ws. test (first_of (ws ++ rest))) spells.0 ∙ refuses

pub refuses-behind : Refuses (same_bytes (codes "behind"))
refuses-behind = record { none = refl; high = refl; regular = refl; low = refl; retry = refl }

pub refuses-argument : Refuses is_argument
refuses-argument = record { none = refl; high = refl; regular = refl; low = refl; retry = refl }

pub refuses-root-argument : Refuses is_root_argument
refuses-root-argument = record { none = refl; high = refl; regular = refl; low = refl; retry = refl }

pub refuses-future : Refuses is_future
refuses-future = record { none = refl; high = refl; regular = refl; low = refl; retry = refl }

pub no-priority : (retry : Bool) → priority_of (first_of (retry_words retry)) ≡ None
no-priority true = refl
no-priority false = refl
