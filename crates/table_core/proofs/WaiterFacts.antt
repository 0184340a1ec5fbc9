-- Waiters, done records and chains of a hand, of which one changes.
use Rattle.std.proofs.Common.{◌≡◌, ◌≢◌, ◌∙◌, ℕ, ◌+◌, ◌≤◌, Bool, true, false, cond, ◌==◌, not, Option, Some, None, List, [], ◌∷◌, map, refl, sym, ap, subst, true≢false, arith}
use Rattle.std.proofs.lemmas.Bool.{eqb-true, eq-eqb, and_parts, and_from}
use Rattle.record_core.specs.Counting.{At, Has, one_if, times, dropped}
use Rattle.record_core.proofs.CountFacts.{total-dropped}
use Rattle.kt_words.specs.HeadWords.{link_of}
use Rattle.table_core.specs.Lists.{Each}
use Rattle.table_core.specs.Holdings.{Waiter, Done}
use Rattle.table_core.specs.Own.{done_at}
use Rattle.table_core.specs.WaitLists.{IsLinked, waits_at, chains_at, unclosed_at}
use Rattle.table_core.specs.WaitViews.{is_waiter_at, link_in, close_in, with_chain, same_list}
use Rattle.table_core.proofs.ListFacts.{each-cons, each-tail, dropped-one, total-has}
use Rattle.table_core.proofs.BagFacts.{one-apart}
use Rattle.table_core.proofs.WaitFacts.{waits-counts}

-- the waiter at w goes
pub waits-dropped : (w y : ℕ) (l : List Waiter) (x : Waiter) → Has x l → x.unit ≡ w → waits_at y (dropped (is_waiter_at w) l) + one_if (w == y) ≡ waits_at y l
waits-dropped w y l x has e = total-dropped (λ (z : Waiter). one_if (z.unit == y)) (is_waiter_at w) (one_if (w == y)) l
    (λ k z at here. ap (λ (n : ℕ). one_if (n == y)) (eqb-true z.unit w here)) (record { member = x; there = has; passes = eq-eqb x.unit w e })

-- a waiter that is linked stays in its place
module _ (w head : ℕ) where
  -- a link leaves the waiters that a hand has
  pub waits-link_in : (y : ℕ) (l : List Waiter) → waits_at y (link_in w head l) ≡ waits_at y l
  waits-link_in y [] = refl
  waits-link_in y (x ∷ l) = by (is_waiter_at w x) (waits-link_in y l)
    where
      by : (b : Bool) → waits_at y (link_in w head l) ≡ waits_at y l
          → waits_at y (cond b (record x { linked = Some head } ∷ l) (x ∷ link_in w head l)) ≡ waits_at y (x ∷ l)
      by true rest = refl
      by false rest = omega (arith, rest)

  -- what does not read the link holds of each waiter after a link
  pub each-link_in : (P : Waiter → Type 0) → ((x : Waiter) → P x → P (record x { linked = Some head })) → (l : List Waiter) → Each P l → Each P (link_in w head l)
  each-link_in P links [] all = all
  each-link_in P links (x ∷ l) all = by (is_waiter_at w x) (each-link_in P links l (each-tail P x l all))
    where
      by : (b : Bool) → Each P (link_in w head l) → Each P (cond b (record x { linked = Some head } ∷ l) (x ∷ link_in w head l))
      by true rest = each-cons P (record x { linked = Some head }) l (links x (all 0 x refl)) (each-tail P x l all)
      by false rest = each-cons P x (link_in w head l) (all 0 x refl) rest

-- a next word that stays links to the same
pub linked-same : (nexts nexts' : ℕ → ℕ) (u : ℕ) (o : Option ℕ) → nexts' u ≡ nexts u → IsLinked nexts u o → IsLinked nexts' u o
linked-same nexts nexts' u None same is = tt
linked-same nexts nexts' u (Some head) same is = same ∙ is

-- the next word of w is written, and its one waiter is linked so
module _ (nexts nexts' : ℕ → ℕ) (w head : ℕ) (others : (y : ℕ) → y ≢ w → nexts' y ≡ nexts y) where
  abbrev Links : (ℕ → ℕ) → Waiter → Type 0
  Links words x = IsLinked words x.unit x.linked

  -- links say what the next words say, where the waiter is not of this hand
  pub linked-apart : (l : List Waiter) → waits_at w l ≡ 0 → Each (Links nexts) l → Each (Links nexts') l
  linked-apart l none all k x at =
      linked-same nexts nexts' x.unit x.linked
      (others x.unit (λ e. omega (arith, none, subst (λ (u : ℕ). 1 ≤ waits_at u l) e (waits-counts l x (k, at))))) (all k x at)

  -- links say what the next words say, after the waiter of this hand was linked
  pub linked-here : nexts' w ≡ link_of head → (l : List Waiter) → waits_at w l ≤ 1 → Each (Links nexts) l → Each (Links nexts') (link_in w head l)
  linked-here here [] few all = λ k x at. absurd (nothing k x at)
    where
      nothing : (k : ℕ) (x : Waiter) → At [] k x → ⊥
      nothing k x at = let no : None ≡ Some x → ⊥ = λ e. cc in no at
  linked-here here (x ∷ l) few all = by (is_waiter_at w x) refl (λ low. linked-here here l low (each-tail (Links nexts) x l all))
    where
      by : (b : Bool) → is_waiter_at w x ≡ b → (waits_at w l ≤ 1 → Each (Links nexts') (link_in w head l))
          → Each (Links nexts') (cond b (record x { linked = Some head } ∷ l) (x ∷ link_in w head l))
      by true e rest = each-cons (Links nexts') (record x { linked = Some head }) l (ap nexts' (eqb-true x.unit w e) ∙ here)
          (linked-apart l (omega (arith, few, ap one_if e)) (each-tail (Links nexts) x l all))
      by false e rest = each-cons (Links nexts') x (link_in w head l)
          (linked-same nexts nexts' x.unit x.linked (others x.unit (λ same. true≢false (sym (eq-eqb x.unit w same) ∙ e))) (all 0 x refl))
          (rest (omega (arith, few)))

-- a done record whose list is closed stays in its place
module _ (u : ℕ) where
  -- a close leaves the done records that a hand has
  pub done-close_in : (y : ℕ) (l : List Done) → done_at y (close_in u l) ≡ done_at y l
  done-close_in y [] = refl
  done-close_in y (d ∷ l) = by (d.unit == u) (done-close_in y l)
    where
      by : (b : Bool) → done_at y (close_in u l) ≡ done_at y l → done_at y (cond b (record d { closed = true } ∷ l) (d ∷ close_in u l)) ≡ done_at y (d ∷ l)
      by true rest = refl
      by false rest = omega (arith, rest)

  -- a close leaves the units of done records
  pub units-close_in : (l : List Done) → map (λ (d : Done). d.unit) (close_in u l) ≡ map (λ (d : Done). d.unit) l
  units-close_in [] = refl
  units-close_in (d ∷ l) = by (d.unit == u) (units-close_in l)
    where
      by : (b : Bool) → map (λ (d : Done). d.unit) (close_in u l) ≡ map (λ (d : Done). d.unit) l
          → map (λ (d : Done). d.unit) (cond b (record d { closed = true } ∷ l) (d ∷ close_in u l)) ≡ map (λ (d : Done). d.unit) (d ∷ l)
      by true rest = refl
      by false rest = ap (λ (us : List ℕ). d.unit ∷ us) rest

  -- lists of other records stay to be closed
  pub unclosed-close_in : (y : ℕ) → y ≢ u → (l : List Done) → unclosed_at y (close_in u l) ≡ unclosed_at y l
  unclosed-close_in y ne [] = refl
  unclosed-close_in y ne (d ∷ l) = by (d.unit == u) refl (unclosed-close_in y ne l)
    where
      apart : d.unit ≡ u → cond d.closed 0 (one_if (d.unit == y)) ≡ 0
      apart e = here d.closed
        where
          here : (b : Bool) → cond b 0 (one_if (d.unit == y)) ≡ 0
          here true = refl
          here false = one-apart d.unit y (λ same. ne (sym same ∙ e))

      by : (b : Bool) → (d.unit == u) ≡ b → unclosed_at y (close_in u l) ≡ unclosed_at y l
          → unclosed_at y (cond b (record d { closed = true } ∷ l) (d ∷ close_in u l)) ≡ unclosed_at y (d ∷ l)
      by true e rest = omega (arith, apart (eqb-true d.unit u e))
      by false e rest = omega (arith, rest)

-- no more lists are to be closed than there are done records
pub unclosed-few : (y : ℕ) (l : List Done) → unclosed_at y l ≤ done_at y l
unclosed-few y [] = omega arith
unclosed-few y (d ∷ l) = by d.closed (unclosed-few y l)
  where
    by : (b : Bool) → unclosed_at y l ≤ done_at y l → cond b 0 (one_if (d.unit == y)) + unclosed_at y l ≤ one_if (d.unit == y) + done_at y l
    by true rest = omega (arith, rest)
    by false rest = omega (arith, rest)

-- the one done record at u is closed, and so is its list; those of other records are as before
module _ (u : ℕ) (was now : ℕ → Bool) (closed : now u ≡ false) (others : (y : ℕ) → y ≢ u → now y ≡ was y) where
  abbrev Tells : (ℕ → Bool) → Done → Type 0
  Tells test d = test d.unit ≡ not d.closed

  -- what heads tell holds of done records, where the closed one is not of this hand
  pub closed-apart : (l : List Done) → done_at u l ≡ 0 → Each (Tells was) l → Each (Tells now) l
  closed-apart l none all k d at = others d.unit (λ e. omega (arith, none, total-has (λ (x : Done). one_if (x.unit == u)) l d (k, at), ap one_if (eq-eqb d.unit u e))) ∙ all k d at

  -- what heads tell holds of done records, after that of this hand was closed
  pub closed-here : (l : List Done) → done_at u l ≤ 1 → Each (Tells was) l → Each (Tells now) (close_in u l)
  closed-here [] few all = λ k x at. absurd (nothing k x at)
    where
      nothing : (k : ℕ) (x : Done) → At [] k x → ⊥
      nothing k x at = let no : None ≡ Some x → ⊥ = λ e. cc in no at
  closed-here (d ∷ l) few all = by (d.unit == u) refl (λ low. closed-here l low (each-tail (Tells was) d l all))
    where
      by : (b : Bool) → (d.unit == u) ≡ b → (done_at u l ≤ 1 → Each (Tells now) (close_in u l))
          → Each (Tells now) (cond b (record d { closed = true } ∷ l) (d ∷ close_in u l))
      by true e rest = each-cons (Tells now) (record d { closed = true }) l (ap now (eqb-true d.unit u e) ∙ closed)
          (closed-apart l (omega (arith, few, ap one_if e)) (each-tail (Tells was) d l all))
      by false e rest = each-cons (Tells now) d (close_in u l) (others d.unit (λ same. true≢false (sym (eq-eqb d.unit u same) ∙ e)) ∙ all 0 d refl) (rest (omega (arith, few)))

-- a chain comes into the hand, where it has members
pub chains-with : (y : ℕ) (c : List ℕ) (cs : List (List ℕ)) → chains_at y (with_chain c cs) ≡ times y c + chains_at y cs
chains-with y [] cs = omega arith
chains-with y (u ∷ us) cs = omega arith

-- what holds of a chain and of the others holds of all, with the empty ones left out
pub each-with : (P : List ℕ → Type 0) (c : List ℕ) (cs : List (List ℕ)) → P c → Each P cs → Each P (with_chain c cs)
each-with P [] cs here all = all
each-with P (u ∷ us) cs here all = each-cons P (u ∷ us) cs here all

-- the test of a chain tells it
list-only : (c d : List ℕ) → same_list c d ≡ true → d ≡ c
list-only [] [] e = refl
list-only [] (y ∷ ys) e = absurd (true≢false (sym e))
list-only (x ∷ xs) [] e = absurd (true≢false (sym e))
list-only (x ∷ xs) (y ∷ ys) e =
    let t = and_parts (x == y) (same_list xs ys) e in let first : x ≡ y = eqb-true x y t.0 in let rest = list-only xs ys t.1 in
    ap (λ (z : ℕ). z ∷ ys) (sym first) ∙ ap (λ (zs : List ℕ). x ∷ zs) rest

list-passes : (c : List ℕ) → same_list c c ≡ true
list-passes [] = refl
list-passes (x ∷ xs) = and_from (x == x) (same_list xs xs) (eq-eqb x x refl) (list-passes xs)

-- a chain leaves the hand
pub chains-dropped : (y : ℕ) (c : List ℕ) (cs : List (List ℕ)) → Has c cs → chains_at y (dropped (same_list c) cs) + times y c ≡ chains_at y cs
chains-dropped y c cs has = dropped-one (same_list c) c (λ d e. list-only c d e) (list-passes c) (times y) cs has
