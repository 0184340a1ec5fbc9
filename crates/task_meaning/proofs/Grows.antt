-- What has a value, or counts, keeps it where more futures have values.
use Rattle.std.specs.Prelude.{◌≡◌, ℕ, zero, suc, ◌+◌, ◌-◌, Bool, true, false, cond, ⊤, Option, Some, None, List, [], ◌∷◌, ◌++◌, map, length, replicate, slice_set}
use Rattle.std.proofs.Common.{refl, sym, ap, subst}
use Rattle.task_syntax.specs.Facts.{has}
use Rattle.task_syntax.specs.declared.value.Value.{Value}
use Rattle.task_syntax.specs.declared.value.Value.TheVariants.{Number, Trapped}
use Rattle.task_syntax.specs.declared.instr.Argument.{Argument}
use Rattle.task_syntax.specs.declared.instr.Argument.TheVariants as argument
use Rattle.task_meaning.specs.Meant.{Counts, Meant, counted, plus, nothing, gives, adding, with_value, with_number, future_at, behind, behind_all}
use Rattle.task_meaning.specs.Frame.{Place, kept_from, padded, future_passed}

-- the second is the first, where that is something
abbrev pub Stays : {A : Type 0} → Option A → Option A → Type 0
Stays None o = ⊤
Stays (Some a) o = o ≡ Some a

-- what is there stays itself
pub Stays-refl : {A : Type 0} (o : Option A) → Stays o o
Stays-refl None = tt
Stays-refl (Some a) = refl

-- what stays twice stays
pub Stays-trans : {A : Type 0} (o p q : Option A) → Stays o p → Stays p q → Stays o q
Stays-trans None p q h k = tt
Stays-trans {A} (Some a) p q h k = subst (λ (r : Option A). Stays r q) h k

-- a member that stays is there afterwards
pub Stays-at : {A : Type 0} (o p : Option A) → Stays o p → (a : A) → o ≡ Some a → p ≡ Some a
Stays-at {A} o p h a e = subst (λ (r : Option A). Stays r p) e h

-- the same for each member of two lists
abbrev pub AllStay : {A : Type 0} → List (Option A) → List (Option A) → Type 0
AllStay [] [] = ⊤
AllStay [] (g ∷ gs) = ⊥
AllStay (f ∷ fs) [] = ⊥
AllStay (f ∷ fs) (g ∷ gs) = Stays f g × AllStay fs gs

-- a list stays itself
pub AllStay-refl : {A : Type 0} (fs : List (Option A)) → AllStay fs fs
AllStay-refl [] = tt
AllStay-refl (f ∷ fs) = (Stays-refl f, AllStay-refl fs)

-- what stays in a list stays at each position
pub AllStay-at : {A : Type 0} (fs gs : List (Option A)) (x : ℕ) → AllStay fs gs → Stays (future_at fs x) (future_at gs x)
AllStay-at [] [] x h = tt
AllStay-at [] (g ∷ gs) x h = absurd h
AllStay-at (f ∷ fs) [] x h = absurd h
AllStay-at (f ∷ fs) (g ∷ gs) zero h = h.0
AllStay-at (f ∷ fs) (g ∷ gs) (suc x) h = AllStay-at fs gs x h.1

-- lists stay where both are set to what stays
pub AllStay-set : {A : Type 0} (fs gs : List (Option A)) (x : ℕ) (o p : Option A) → AllStay fs gs → Stays o p → AllStay (slice_set fs x o) (slice_set gs x p)
AllStay-set [] [] x o p h k = tt
AllStay-set [] (g ∷ gs) x o p h k = absurd h
AllStay-set (f ∷ fs) [] x o p h k = absurd h
AllStay-set (f ∷ fs) (g ∷ gs) zero o p h k = (k, h.1)
AllStay-set (f ∷ fs) (g ∷ gs) (suc x) o p h k = (h.0, AllStay-set fs gs x o p h.1 k)

-- a list that stays is as long
pub AllStay-length : {A : Type 0} (fs gs : List (Option A)) → AllStay fs gs → length fs ≡ length gs
AllStay-length [] [] h = refl
AllStay-length [] (g ∷ gs) h = absurd h
AllStay-length (f ∷ fs) [] h = absurd h
AllStay-length (f ∷ fs) (g ∷ gs) h = ap suc (AllStay-length fs gs h.1)

-- two lists that stay do so together
pub AllStay-append : {A : Type 0} (fs gs hs ks : List (Option A)) → AllStay fs gs → AllStay hs ks → AllStay (fs ++ hs) (gs ++ ks)
AllStay-append [] [] hs ks h k = k
AllStay-append [] (g ∷ gs) hs ks h k = absurd h
AllStay-append (f ∷ fs) [] hs ks h k = absurd h
AllStay-append (f ∷ fs) (g ∷ gs) hs ks h k = (h.0, AllStay-append fs gs hs ks h.1 k)

-- lists stay where both are made longer
pub AllStay-padded : {A : Type 0} (n : ℕ) (o : Option A) (fs gs : List (Option A)) → AllStay fs gs → AllStay (padded n o fs) (padded n o gs)
AllStay-padded n o fs gs h =
    AllStay-append fs gs (replicate (n - length fs) o) (replicate (n - length gs) o) h
    (subst (λ k. AllStay (replicate (n - length fs) o) (replicate (n - k) o)) (AllStay-length fs gs h) (AllStay-refl (replicate (n - length fs) o)))

cond_stays : {A : Type 0} (b : Bool) (f g : Option A) → Stays f g → Stays (cond b f None) (cond b g None)
cond_stays true f g h = h
cond_stays false f g h = tt

-- lists stay where futures are given up in both
pub AllStay-kept_from : {A : Type 0} (at : ℕ) (held : List ℕ) (fs gs : List (Option A)) → AllStay fs gs → AllStay (kept_from at held fs) (kept_from at held gs)
AllStay-kept_from at held [] [] h = tt
AllStay-kept_from at held [] (g ∷ gs) h = absurd h
AllStay-kept_from at held (f ∷ fs) [] h = absurd h
AllStay-kept_from at held (f ∷ fs) (g ∷ gs) h = (cond_stays (has at held) f g h.0, AllStay-kept_from (at + 1) held fs gs h.1)

stays_passed : {A : Type 0} (fs gs : List (Option A)) (a : Argument) → AllStay fs gs → Stays (future_passed fs a) (future_passed gs a)
stays_passed fs gs (argument.Number n) h = tt
stays_passed fs gs (argument.Future x) h = AllStay-at fs gs x h

-- the futures that are passed stay
pub AllStay-passed : {A : Type 0} (fs gs : List (Option A)) (arguments : List Argument) → AllStay fs gs → AllStay (map (future_passed fs) arguments) (map (future_passed gs) arguments)
AllStay-passed fs gs [] h = tt
AllStay-passed fs gs (a ∷ arguments) h = (stays_passed fs gs a h, AllStay-passed fs gs arguments h)

-- the second has the value and the counts of the first
pub record Within (m more : Meant) : Type 0 where
  pub value : Stays m.value more.value
  pub counts : Stays m.counts more.counts

-- a meaning keeps its own
pub Within-refl : (m : Meant) → Within m m
Within-refl m = record { value = Stays-refl m.value; counts = Stays-refl m.counts }

-- nothing is kept by all
pub Within-nothing : (m : Meant) → Within nothing m
Within-nothing m = record { value = tt; counts = tt }

stays_plus : (a b x y : Option Counts) → Stays a b → Stays x y → Stays (plus a x) (plus b y)
stays_plus None b x y h k = tt
stays_plus (Some a) b None y h k = tt
stays_plus (Some a) b (Some x) y h k = subst (λ (r : Option Counts). plus b r ≡ plus (Some a) (Some x)) (sym k) (ap (λ (r : Option Counts). plus r (Some x)) h)

-- what is kept is so with more counts
pub Within-adding : (a b : Option Counts) (m more : Meant) → Stays a b → Within m more → Within (adding a m) (adding b more)
Within-adding a b m more h k = record { value = k.value; counts = stays_plus a b m.counts more.counts h k.counts }

-- what is kept is so with these counts more
pub Within-counted : (tasks activations : ℕ) (m more : Meant) → Within m more → Within (adding (counted tasks activations) m) (adding (counted tasks activations) more)
Within-counted tasks activations m more k = Within-adding (counted tasks activations) (counted tasks activations) m more refl k

-- what is kept is so where a value is read
pub Within-with_value : (o p : Option Value) (f g : Value → Meant) → Stays o p → ((v : Value) → Within (f v) (g v)) → Within (with_value o f) (with_value p g)
Within-with_value None p f g h k = Within-nothing (with_value p g)
Within-with_value (Some v) p f g h k = subst (λ (r : Option Value). Within (f v) (with_value r g)) (sym h) (k v)

-- what is kept is so where a number is read
pub Within-with_number : (v : Value) (f g : ℕ → Meant) → ((n : ℕ) → Within (f n) (g n)) → Within (with_number v f) (with_number v g)
Within-with_number (Number n) f g k = k n
Within-with_number (Trapped t) f g k = Within-refl (gives (Trapped t))

-- what is kept is so behind a future
pub Within-behind : (waits : Option ℕ) (fs gs : List (Option Value)) (m more : Meant) → AllStay fs gs → Within m more → Within (behind waits fs m) (behind waits gs more)
Within-behind None fs gs m more h k = k
Within-behind (Some x) fs gs m more h k = Within-with_value (future_at fs x) (future_at gs x) (λ v. m) (λ v. more) (AllStay-at fs gs x h) (λ v. k)

-- what is kept is so behind several futures
pub Within-behind_all : (members : List ℕ) (fs gs : List (Option Value)) (m more : Meant) → AllStay fs gs → Within m more → Within (behind_all members fs m) (behind_all members gs more)
Within-behind_all [] fs gs m more h k = k
Within-behind_all (x ∷ members) fs gs m more h k =
    Within-behind (Some x) fs gs (behind_all members fs m) (behind_all members gs more) h (Within-behind_all members fs gs m more h k)

-- a place from its parts
abbrev pub place_of : ℕ → ℕ → ℕ → List ℕ → List (Option Value) → Place
place_of kind state at numbers futures = record { kind = kind; state = state; at = at; numbers = numbers; futures = futures }

-- g has what f has, also where more futures have values
abbrev pub Grows : (Place → Meant) → (Place → Meant) → Type 0
Grows f g = (kind state at : ℕ) (numbers : List ℕ) (fs gs : List (Option Value)) → AllStay fs gs
    → Within (f (place_of kind state at numbers fs)) (g (place_of kind state at numbers gs))
