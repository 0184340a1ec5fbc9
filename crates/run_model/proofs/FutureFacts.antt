-- What is known of the futures of a frame stays so over the lines that change them.
use Rattle.std.proofs.Common.{◌≡◌, ℕ, ◌<◌, Bool, true, false, cond, nat_eq, Option, Some, None, List, [], ◌∷◌, length, refl, sym, ◌∙◌, ap, subst, ◌⊎◌, inl, inr}
use Rattle.std.specs.Prelude.{slice_set, IsSome, IsTrue}
use Rattle.std.specs.Option.{is_some}
use Rattle.std.proofs.lemmas.Bool.{eqb-true, eqb-false}
use Rattle.std.proofs.lemmas.Option.{same_Some}
use Rattle.std.proofs.lemmas.List.{get_or-set_same, get_or-set_other}
use Rattle.task_syntax.specs.Facts.{Facts, has, without, members_of, forget, renewed, given_up}
use Rattle.task_syntax.proofs.Bools.{either, has-without}
use Rattle.task_meaning.specs.Meant.{future_at}

-- a future is set at a position
at_set : (fs : List (Option ℕ)) (x : ℕ) (o : Option ℕ) → x < length fs → future_at (slice_set fs x o) x ≡ o
at_set fs x o h = get_or-set_same fs x o None h

-- at another position it stays as it was
at_other : (fs : List (Option ℕ)) (to x : ℕ) (o : Option ℕ) → nat_eq to x ≡ false → future_at (slice_set fs to o) x ≡ future_at fs x
at_other fs to x o h = get_or-set_other fs to x o None (λ e. eqb-false to x h (sym e))

-- x is the first, or another of the rest
in_renewed : (x to : ℕ) (xs : List ℕ) → IsTrue (has x (to ∷ without to xs)) → (x ≡ to) ⊎ ((nat_eq to x ≡ false) × IsTrue (has x xs))
in_renewed x to xs h = elim (either (nat_eq x to) (has x (without to xs)) h) [ inl s ↦ inl (eqb-true x to s) | inr s ↦ inr (has-without x to xs s) ]

-- numbers that differ, differ the other way round
eq_swapped : (x y : ℕ) → nat_eq x y ≡ false → nat_eq y x ≡ false
eq_swapped x y h = by (nat_eq y x) refl
  where
    by : (b : Bool) → nat_eq y x ≡ b → b ≡ false
    by true e = absurd (eqb-false x y h (sym (eqb-true y x e)))
    by false e = refl

-- a member that is left where `to` is forgotten: neither it nor its aggregate is `to`, and it was listed
record Stays (to g x : ℕ) (ms : List (ℕ × List ℕ)) : Type 0 where
  aggregate : nat_eq to g ≡ false
  member : nat_eq to x ≡ false
  listed : IsTrue (has x (members_of g ms))

-- what stands in a member list where `to` is forgotten stays there
in_forget : (to g x : ℕ) (ms : List (ℕ × List ℕ)) → IsTrue (has x (members_of g (forget to ms))) → Stays to g x ms
in_forget to g x [] h = absurd (cc h)
in_forget to g x ((y, ys) ∷ more) h = by (nat_eq to y) refl h (in_forget to g x more)
  where
    -- the first entry is kept
    kept : (b : Bool) → nat_eq g y ≡ b → nat_eq to y ≡ false → has x (cond b (without to ys) (members_of g (forget to more))) ≡ true
        → (IsTrue (has x (members_of g (forget to more))) → Stays to g x more) → Stays to g x ((y, ys) ∷ more)
    kept true e n k later =
        let w = has-without x to ys k in record {
          aggregate = ap (λ z. nat_eq to z) (eqb-true g y e) ∙ n;
          member = w.0;
          listed = ap (λ b. has x (cond b ys (members_of g more))) e ∙ w.1;
        }
    kept false e n k later = let f = later k in record { aggregate = f.aggregate; member = f.member; listed = ap (λ b. has x (cond b ys (members_of g more))) e ∙ f.listed }

    by : (b : Bool) → nat_eq to y ≡ b → has x (members_of g (cond b (forget to more) ((y, without to ys) ∷ forget to more))) ≡ true
        → (IsTrue (has x (members_of g (forget to more))) → Stays to g x more) → Stays to g x ((y, ys) ∷ more)
    by true e k later =
        let f = later k in
        let differ : nat_eq g y ≡ false = ap (λ z. nat_eq g z) (sym (eqb-true to y e)) ∙ eq_swapped to g f.aggregate in
        record { aggregate = f.aggregate; member = f.member; listed = ap (λ b. has x (cond b ys (members_of g more))) differ ∙ f.listed }
    by false e k later = kept (nat_eq g y) refl e k later

-- `Given u`: task u gave a value, or will. `Among a u`: task u is a member of the aggregate a.
module _ (Given : ℕ → Type 0) (Among : ℕ → ℕ → Type 0) where
  -- the futures meet the facts
  pub record Meets (f : Facts) (fs : List (Option ℕ)) : Type 0 where
    pub held : (x : ℕ) → IsTrue (has x f.held) → IsSome (future_at fs x)
    pub settled : (x u : ℕ) → IsTrue (has x f.settled) → future_at fs x ≡ Some u → Given u
    pub members : (g x a u : ℕ) → IsTrue (has x (members_of g f.members)) → future_at fs g ≡ Some a → future_at fs x ≡ Some u → Among a u

  -- a variable names a task anew
  pub meets_renewed : (f : Facts) (fs : List (Option ℕ)) (to v : ℕ) (is_settled : Bool) (listed : List ℕ) → Meets f fs → to < length fs → (is_settled ≡ true → Given v)
      → ((x u : ℕ) → IsTrue (has x listed) → future_at fs x ≡ Some u → Among v u) → Meets (renewed to is_settled listed f) (slice_set fs to (Some v))
  meets_renewed f fs to v is_settled listed now within settles lists = record { held = held; settled = λ x u h e. settled is_settled refl x u h e; members = λ g x a u h e k. members g x a u (nat_eq g to) refl h e k }
    where
      fs' : List (Option ℕ)
      fs' = slice_set fs to (Some v)

      here : (x : ℕ) → x ≡ to → future_at (slice_set fs to (Some v)) x ≡ Some v
      here x same = ap (λ y. future_at (slice_set fs to (Some v)) y) same ∙ at_set fs to (Some v) within

      is_new : (x u : ℕ) → x ≡ to → future_at (slice_set fs to (Some v)) x ≡ Some u → v ≡ u
      is_new x u same e = same_Some v u (sym (here x same) ∙ e)

      was : (x u : ℕ) → nat_eq to x ≡ false → future_at (slice_set fs to (Some v)) x ≡ Some u → future_at fs x ≡ Some u
      was x u differ e = sym (at_other fs to x (Some v) differ) ∙ e

      held : (x : ℕ) → IsTrue (has x (to ∷ without to f.held)) → IsSome (future_at (slice_set fs to (Some v)) x)
      held x h = elim (in_renewed x to f.held h) [
        | inl same ↦ ap is_some (here x same)
        | inr old ↦ ap is_some (at_other fs to x (Some v) old.0) ∙ now.held x old.1
      ]

      settled : (b : Bool) → is_settled ≡ b → (x u : ℕ) → IsTrue (has x (cond b (to ∷ without to f.settled) (without to f.settled))) → future_at (slice_set fs to (Some v)) x ≡ Some u → Given u
      settled true e x u h k = elim (in_renewed x to f.settled h) [
        | inl same ↦ subst Given (is_new x u same k) (settles e)
        | inr old ↦ now.settled x u old.1 (was x u old.0 k)
      ]
      settled false e x u h k = let old = has-without x to f.settled h in now.settled x u old.1 (was x u old.0 k)

      members : (g x a u : ℕ) (b : Bool) → nat_eq g to ≡ b → IsTrue (has x (cond b (without to listed) (members_of g (forget to f.members))))
          → future_at (slice_set fs to (Some v)) g ≡ Some a → future_at (slice_set fs to (Some v)) x ≡ Some u → Among a u
      members g x a u true same h e k =
          let old = has-without x to listed h in subst (λ b. Among b u) (is_new g a (eqb-true g to same) e) (lists x u old.1 (was x u old.0 k))
      members g x a u false differ h e k = let old = in_forget to g x f.members h in now.members g x a u old.listed (was g a old.aggregate e) (was x u old.member k)

  -- a variable is given up
  pub meets_given_up : (f : Facts) (fs : List (Option ℕ)) (to : ℕ) → Meets f fs → Meets (given_up to f) (slice_set fs to None)
  meets_given_up f fs to now = record {
    held = λ x h. let old = has-without x to f.held h in ap is_some (at_other fs to x None old.0) ∙ now.held x old.1;
    settled = λ x u h e. let old = has-without x to f.settled h in now.settled x u old.1 (was x u old.0 e);
    members = λ g x a u h e k. let old = in_forget to g x f.members h in now.members g x a u old.listed (was g a old.aggregate e) (was x u old.member k);
  }
    where
      was : (x u : ℕ) → nat_eq to x ≡ false → future_at (slice_set fs to None) x ≡ Some u → future_at fs x ≡ Some u
      was x u differ e = sym (at_other fs to x None differ) ∙ e
