-- Names of numbers: where each number stands once and no two have one name, there are no more of them than names.
use Rattle.std.proofs.Common.{◌≡◌, ◌≢◌, ◌⊎◌, ℕ, zero, suc, ◌+◌, ◌<◌, ◌≤◌, Option, Some, List, [], ◌∷◌, ◌++◌, cond, nat_eq, Bool, true, false, length, map, refl, sym, ◌∙◌, ap, inl, inr, ⊎_elim, arith, eq-eqb}
use Rattle.std.proofs.lemmas.Bool.{cases_eq, ne_eqb}
use Rattle.record_core.proofs.TotalFacts.{total-append}
use Rattle.plain_state.specs.Sees.{times}

-- the first of two lists that are one, and the rest
pub cons_parts : {A : Type 0} (x y : A) (xs ys : List A) → ◌≡◌ {A = List A} (x ∷ xs) (y ∷ ys) → (x ≡ y) × (xs ≡ ys)
cons_parts x y xs ys e = (cc, cc)

-- a number in front of a list stands there once more
pub times_here : (n : ℕ) (xs : List ℕ) → times n (n ∷ xs) ≡ suc (times n xs)
times_here n xs = let one : ◌≡◌ {A = ℕ} (cond (nat_eq n n) 1 0) 1 = ap (λ b. cond b 1 0) (eq-eqb n n refl) in omega (arith, one)

-- another number in front changes no count
pub times_other : (n x : ℕ) (xs : List ℕ) → x ≢ n → times n (x ∷ xs) ≡ times n xs
times_other n x xs differ = let none : ◌≡◌ {A = ℕ} (cond (nat_eq x n) 1 0) 0 = ap (λ b. cond b 1 0) (ne_eqb x n differ) in omega (arith, none)

-- how often a number stands in two lists together
pub times_append : (n : ℕ) (xs ys : List ℕ) → times n (xs ++ ys) ≡ times n xs + times n ys
times_append n xs ys = total-append (λ x. cond (nat_eq x n) 1 0) xs ys

-- the first of a list with a member, or a later one
pub times_cases : (n x : ℕ) (xs : List ℕ) → 1 ≤ times n (x ∷ xs) → (x ≡ n) ⊎ (1 ≤ times n xs)
times_cases n x xs some = ⊎_elim (λ same. inl same) (λ differ. inr (omega (arith, times_other n x xs differ, some))) (cases_eq x n)

-- what stands in the rest stands in the list
pub times_later : (n x : ℕ) (xs : List ℕ) → 1 ≤ times n xs → 1 ≤ times n (x ∷ xs)
times_later n x xs some = omega (arith, some)

module _ (f : ℕ → Option ℕ) where
  -- a name that stands is that of a number that stands
  pub number_named : (ns us : List ℕ) (u : ℕ) → map f ns ≡ map (λ v. Some v) us → 1 ≤ times u us → (n : ℕ) × (1 ≤ times n ns) × (f n ≡ Some u)
  number_named [] [] u e some = absurd (omega (arith, some))
  number_named [] (v ∷ us) u e some = absurd (differ e)
    where
      differ : ◌≡◌ {A = List (Option ℕ)} [] (Some v ∷ map (λ w. Some w) us) → ⊥
      differ h = cc
  number_named (n ∷ ns) [] u e some = absurd (omega (arith, some))
  number_named (n ∷ ns) (v ∷ us) u e some =
      let (head, tail) = cons_parts (f n) (Some v) (map f ns) (map (λ w. Some w) us) e in
      ⊎_elim (λ same. (n, let one = times_here n ns in omega (arith, one), head ∙ ap Some same))
      (λ later. let (m, there, named) = number_named ns us u tail later in (m, times_later m n ns there, named))
      (times_cases u v us some)

  -- a number that stands has a name that stands
  pub name_numbered : (ns us : List ℕ) (n : ℕ) → map f ns ≡ map (λ v. Some v) us → 1 ≤ times n ns → (u : ℕ) × (1 ≤ times u us) × (f n ≡ Some u)
  name_numbered [] us n e some = absurd (omega (arith, some))
  name_numbered (m ∷ ns) [] n e some = absurd (differ e)
    where
      differ : ◌≡◌ {A = List (Option ℕ)} (f m ∷ map f ns) [] → ⊥
      differ h = cc
  name_numbered (m ∷ ns) (v ∷ us) n e some =
      let (head, tail) = cons_parts (f m) (Some v) (map f ns) (map (λ w. Some w) us) e in
      ⊎_elim (λ same. (v, let one = times_here v us in omega (arith, one), ap f (sym same) ∙ head))
      (λ later. let (u, there, named) = name_numbered ns us n tail later in (u, times_later u v us there, named))
      (times_cases n m ns some)

  -- no two numbers that stand have one name
  abbrev pub NamesDiffer : List ℕ → Type 0
  NamesDiffer ns = (n m u : ℕ) → 1 ≤ times n ns → 1 ≤ times m ns → f n ≡ Some u → f m ≡ Some u → n ≡ m

  -- where each number stands once and no two have one name, each name stands once
  pub named_once : (ns us : List ℕ) → map f ns ≡ map (λ v. Some v) us → NamesDiffer ns → ((n : ℕ) → times n ns ≤ 1) → (u : ℕ) → times u us ≤ 1
  named_once [] [] e differ once u = omega arith
  named_once [] (v ∷ us) e differ once u = absurd (wrong e)
    where
      wrong : ◌≡◌ {A = List (Option ℕ)} [] (Some v ∷ map (λ w. Some w) us) → ⊥
      wrong h = cc
  named_once (n ∷ ns) [] e differ once u = omega arith
  named_once (n ∷ ns) (v ∷ us) e differ once u =
      let (head, tail) = cons_parts (f n) (Some v) (map f ns) (map (λ w. Some w) us) e in
      let rest = named_once ns us tail (λ a b w there other. differ a b w (times_later a n ns there) (times_later b n ns other)) (λ m. omega (arith, once m)) in
      ⊎_elim (λ same. by same (times u us) refl head tail) (λ other. let skip = times_other u v us other in omega (arith, skip, rest u)) (cases_eq v u)
    where
      by : v ≡ u → (k : ℕ) → times u us ≡ k → f n ≡ Some v → map f ns ≡ map (λ w. Some w) us → times u (v ∷ us) ≤ 1
      by same zero none head tail = let here : times u (v ∷ us) ≡ suc (times u us) = ap (λ w. times u (w ∷ us)) same ∙ times_here u us in omega (arith, here, none)
      by same (suc k) some head tail =
          let (m, there, named) = number_named ns us u tail (omega (arith, some)) in
          let one = times_here n ns in
          let is : n ≡ m = differ n m u (omega (arith, one)) (times_later m n ns there) (head ∙ ap Some same) named in
          let twice : times n ns ≡ times m ns = ap (λ x. times x ns) is in
          absurd (omega (arith, once n, one, twice, there))

-- the list without the members that are this one
abbrev but : ℕ → List ℕ → List ℕ
but n [] = []
but n (x ∷ xs) = cond (nat_eq x n) (but n xs) (x ∷ but n xs)

-- as many are left out as stood there
but_length : (n : ℕ) (xs : List ℕ) → length (but n xs) + times n xs ≡ length xs
but_length n [] = omega arith
but_length n (x ∷ xs) = by (nat_eq x n) (but_length n xs)
  where
    by : (b : Bool) → length (but n xs) + times n xs ≡ length xs → length (cond b (but n xs) (x ∷ but n xs)) + (cond b 1 0 + times n xs) ≡ suc (length xs)
    by true rest = omega (arith, rest)
    by false rest = omega (arith, rest)

-- no number stands there more often
but_times : (n m : ℕ) (xs : List ℕ) → times m (but n xs) ≤ times m xs
but_times n m [] = omega arith
but_times n m (x ∷ xs) = by (nat_eq x n) (but_times n m xs)
  where
    by : (b : Bool) → times m (but n xs) ≤ times m xs → times m (cond b (but n xs) (x ∷ but n xs)) ≤ cond (nat_eq x m) 1 0 + times m xs
    by true rest = omega (arith, rest)
    by false rest = omega (arith, rest)

-- and this one not at all
but_none : (n : ℕ) (xs : List ℕ) → times n (but n xs) ≡ 0
but_none n [] = refl
but_none n (x ∷ xs) = by (nat_eq x n) refl (but_none n xs)
  where
    by : (b : Bool) → nat_eq x n ≡ b → times n (but n xs) ≡ 0 → times n (cond b (but n xs) (x ∷ but n xs)) ≡ 0
    by true e rest = rest
    by false e rest = let none : ◌≡◌ {A = ℕ} (cond (nat_eq x n) 1 0) 0 = ap (λ b. cond b 1 0) e in omega (arith, none, rest)

-- as many numbers below a bound, each once, are at most so many
pub few_below : (bound : ℕ) (us : List ℕ) → ((u : ℕ) → times u us ≤ 1) → ((u : ℕ) → 1 ≤ times u us → u < bound) → length us ≤ bound
few_below zero [] once within = omega arith
few_below zero (u ∷ us) once within = let one = times_here u us in absurd (omega (arith, within u (omega (arith, one))))
few_below (suc bound) us once within =
    let rest = few_below bound (but bound us) (λ u. omega (arith, once u, but_times bound u us)) inside in
    omega (arith, rest, but_length bound us, once bound)
  where
    inside : (u : ℕ) → 1 ≤ times u (but bound us) → u < bound
    inside u some =
        ⊎_elim (λ same. let none : times u (but bound us) ≡ 0 = ap (λ v. times v (but bound us)) same ∙ but_none bound us in absurd (omega (arith, some, none)))
        (λ differ. below u (within u (omega (arith, some, but_times bound u us))) differ) (cases_eq u bound)
      where
        below : (u : ℕ) → u < suc bound → u ≢ bound → u < bound
        below u lt differ = ⊎_elim (λ h. h) (λ h. absurd (differ (omega (arith, lt, h)))) (split u bound)
          where
            split : (a b : ℕ) → (a < b) ⊎ (b ≤ a)
            split zero zero = inr (omega arith)
            split zero (suc b) = inl (omega arith)
            split (suc a) zero = inr (omega arith)
            split (suc a) (suc b) = ⊎_elim (λ h. inl (omega (arith, h))) (λ h. inr (omega (arith, h))) (split a b)
