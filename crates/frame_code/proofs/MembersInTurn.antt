-- What an aggregate asks for is its meaning, and its members are those of its words.
use Rattle.std.proofs.Common.{◌≡◌, ℕ, zero, suc, ◌+◌, ◌<◌, ◌≤◌, Option, Some, None, List, [], ◌∷◌, length, drop, slice_get, refl, sym, ◌∙◌, ap, arith}
use Rattle.std.specs.List.{filter_map}
use Rattle.task_syntax.specs.declared.value.Value.{Value}
use Rattle.task_syntax.specs.declared.value.Value.TheVariants.{Number}
use Rattle.task_meaning.specs.Meant.{Counts, Meant, counted, gives, plus, adding, with_value, future_at, behind_all}
use Rattle.frame_code.specs.Words.{unit_named, words_from}
use Rattle.frame_code.specs.Members.{member_act, members_mean, member_follows, AggregatesAreInTurn}

follows-shifted : (meant : ℕ → Option Value) (m : ℕ) (ms : List ℕ) (next : ℕ) (o : Option ℕ)
    → member_follows meant ms (member_act o next) ≡ member_follows meant (m ∷ ms) (member_act o (suc next))
follows-shifted meant m ms next None = refl
follows-shifted meant m ms next (Some x) = refl

pub members-follow : (meant : ℕ → Option Value) (members : List ℕ) (next : ℕ)
    → members_mean meant (drop next members) ≡ member_follows meant members (member_act (slice_get members next) next)
members-follow meant [] zero = refl
members-follow meant [] (suc next) = refl
members-follow meant (m ∷ ms) zero = refl
members-follow meant (m ∷ ms) (suc next) = members-follow meant ms next ∙ follows-shifted meant m ms next (slice_get ms next)

counts-add : (k : ℕ) (counts : Option Counts) → plus (counted 1 k) (plus (counted 0 1) counts) ≡ plus (counted 1 (k + 1)) counts
counts-add k None = refl
counts-add k (Some c) =
    let tasks : 1 + (0 + c.tasks) ≡ 1 + c.tasks = omega arith in
    let activations : k + (1 + c.activations) ≡ (k + 1) + c.activations = omega arith in
    λ i. Some (record { tasks = tasks i; activations = activations i })

adds-both : (k : ℕ) (m : Meant) → adding (counted 1 k) (adding (counted 0 1) m) ≡ adding (counted 1 (k + 1)) m
adds-both k m = let e = counts-add k m.counts in λ i. record { value = m.value; counts = e i }

rest-in-turn : (futures : List (Option Value)) (members : List ℕ) (k n : ℕ) → n ≡ k + length members
    → behind_all members futures (adding (counted 1 n) (gives (Number 0))) ≡ adding (counted 1 k) (members_mean (future_at futures) members)
rest-in-turn futures [] k n e = let s : n ≡ k = omega (arith, e) in ap (λ (i : ℕ). adding (counted 1 i) (gives (Number 0))) s
rest-in-turn futures (x ∷ xs) k n e = by (future_at futures x) (rest-in-turn futures xs (k + 1) n (omega (arith, e)))
  where
    by : (o : Option Value) → behind_all xs futures (adding (counted 1 n) (gives (Number 0))) ≡ adding (counted 1 (k + 1)) (members_mean (future_at futures) xs)
        → with_value o (λ v. behind_all xs futures (adding (counted 1 n) (gives (Number 0))))
        ≡ adding (counted 1 k) (with_value o (λ v. adding (counted 0 1) (members_mean (future_at futures) xs)))
    by None h = refl
    by (Some v) h = h ∙ sym (adds-both k (members_mean (future_at futures) xs))

pub in-turn : AggregatesAreInTurn
in-turn futures member more = by (future_at futures member)
  where
    by : (o : Option Value) → with_value o (λ v. behind_all more futures (adding (counted 1 (length (member ∷ more))) (gives (Number 0))))
        ≡ with_value o (λ v. adding (counted 1 1) (members_mean (future_at futures) more))
    by None = refl
    by (Some v) = rest-in-turn futures more 1 (length (member ∷ more)) (omega arith)

-- where each of the words names a unit, each is a member
pub length-members : (w : ℕ → ℕ) (place n : ℕ) → ((k : ℕ) → place ≤ k → k < place + n → 1 ≤ w k) → length (filter_map unit_named (words_from w place n)) ≡ n
length-members w place zero h = refl
length-members w place (suc n) h = by (w place) (h place (omega arith) (omega arith)) (length-members w (place + 1) n (λ k low high. h k (omega (arith, low)) (omega (arith, high))))
  where
    by : (word : ℕ) → 1 ≤ word → length (filter_map unit_named (words_from w (place + 1) n)) ≡ n
        → length (filter_map unit_named (word ∷ words_from w (place + 1) n)) ≡ suc n
    by zero g e = absurd (omega (arith, g))
    by (suc unit) g e = ap suc e
