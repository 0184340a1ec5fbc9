-- What is known of the names of a line where none is unknown.
use Rattle.task_reader.proofs.Vocabulary.{◌≡◌, ℕ, ◌+◌, Bool, true, false, Option, Some, None, List, [], ◌∷◌, ◌++◌, map, Result, Ok, Err, refl, ap, ◌∙◌, subst, IfSome, Each, each-nil, each-cons, Future, Fault, has_variable, Use, behind_uses, futures_uses, UsesFuture, Known, is_given, known, uses_known}
use Rattle.task_text.specs.Fault.{◌>>◌}

-- both are in order where they are so one after the other
pub both-known : (a b : Result (Unit {0}) Fault) → a >> b ≡ Ok tt → (a ≡ Ok tt) × (b ≡ Ok tt)
both-known (Ok u) b e = (refl, e)
both-known (Err fault) b e = cc

pub known-true : (line word : ℕ) (is_known : Bool) → known line word is_known ≡ Ok tt → is_known ≡ true
known-true line word true e = refl
known-true line word false e = cc

-- each name that is used is given
abbrev pub AllGiven : Known → List Use → Type 0
AllGiven k [] = Unit {0}
AllGiven k (first ∷ uses) = (is_given k first ≡ true) × AllGiven k uses

-- where no name is unknown, each is given
pub all-given : (k : Known) (line word : ℕ) (uses : List Use) → uses_known k line word uses ≡ Ok tt → AllGiven k uses
unfolding uses_known
all-given k line word [] e = tt
all-given k line word (first ∷ uses) e =
    let b = both-known (known line word (is_given k first)) (uses_known k line (word + 1) uses) e in
    (known-true line word (is_given k first) b.0, all-given k line (word + 1) uses b.1)

-- where two lists are given together, each of them is
pub given-parts : (k : Known) (one other : List Use) → AllGiven k (one ++ other) → AllGiven k one × AllGiven k other
given-parts k [] other g = (tt, g)
given-parts k (first ∷ one) other g = let p = given-parts k one other g.1 in ((g.0, p.0), p.1)

-- what holds of each member of a list whose uses are given
pub each-given : {A : Type 0} (k : Known) (use_of : A → Use) (P : A → Type 0) → ((a : A) → is_given k (use_of a) ≡ true → P a)
    → (more : List A) → AllGiven k (map use_of more) → Each more P
each-given k use_of P means [] g = each-nil P
each-given k use_of P means (a ∷ more) g = each-cons P a more (means a g.0) (each-given k use_of P means more g.1)

-- the predecessor is given, where one is named
pub behind-given : (k : Known) (use_of : List ℕ → Use) (P : List ℕ → Type 0) → ((name : List ℕ) → is_given k (use_of name) ≡ true → P name)
    → (behind : Option (List ℕ)) → AllGiven k (behind_uses use_of behind) → IfSome behind P
behind-given k use_of P means None g = tt
behind-given k use_of P means (Some name) g = means name g.1.0

-- the futures behind a fixed word are given
pub futures-given : (k : Known) (names : List (List ℕ)) → AllGiven k (futures_uses names) → AllGiven k (map UsesFuture names)
futures-given k [] g = tt
futures-given k (name ∷ names) g = g.1

-- where each name is given, none is unknown
pub given-known : (k : Known) (line word : ℕ) (uses : List Use) → AllGiven k uses → uses_known k line word uses ≡ Ok tt
unfolding uses_known
given-known k line word [] g = refl
given-known k line word (first ∷ uses) g =
    ap (λ b. known line word b >> uses_known k line (word + 1) uses) g.0 ∙ given-known k line (word + 1) uses g.1

-- two lists are given where each of them is
pub given-both : (k : Known) (one other : List Use) → AllGiven k one → AllGiven k other → AllGiven k (one ++ other)
given-both k [] other g h = h
given-both k (first ∷ one) other g h = (g.0, given-both k one other g.1 h)

-- the futures of a list are given behind their fixed word
pub futures-listed : (k : Known) (names : List (List ℕ)) → AllGiven k (map UsesFuture names) → AllGiven k (futures_uses names)
futures-listed k [] g = tt
futures-listed k (name ∷ names) g = (refl, g)

-- futures are given by the variables alone
pub same-futures : (one other : Known) → one.variables ≡ other.variables → (names : List (List ℕ)) → AllGiven one (map UsesFuture names) → AllGiven other (map UsesFuture names)
same-futures one other e [] g = tt
same-futures one other e (name ∷ names) g = (subst (λ vs. has_variable vs Future name ≡ true) e g.0, same-futures one other e names g.1)
