-- Each move keeps the rule of a queue.
use Rattle.std.proofs.Common.{◌≡◌, ◌≢◌, ℕ, zero, suc, ◌+◌, ◌<◌, ◌≤◌, Bool, true, false, true≢false, cond, nat_eq, List, [], ◌∷◌, ◌++◌, length, set, sym, refl, ap, ◌∙◌, subst, ⊎_elim, ◌⊎◌, append_assoc, append-nil, length-append, inl, inr, eq-eqb, ne_eqb, arith}
use Rattle.std.proofs.Math.ListN.{length-set}
use Rattle.std.proofs.lemmas.List.{map-append}
use mathlib.Core.Option.{some, some-ne-none, some-injective}
use lib.ListN.{get_elem?}
use Rattle.crossbeam_queue.specs.Fifo as fifo
use Rattle.crossbeam_queue.proofs.Lists.{at_set, set_here}
use Rattle.ready_queues.specs.declared.entry.Item.{Item}
use Rattle.ready_queues.specs.declared.account.Hand.{Hand}
use Rattle.ready_queues.specs.Account.{Move, items_of, moved_by, Knows, Kept, first_hand, new_hand, parted, Agrees, with_push, with_take, Pushes, Takes}

-- a choice of two lists, of which each goes on in the same way
cond-append : (b : Bool) (x : Item) (whole front back : List Item) → whole ≡ front ++ back
    → cond b (x ∷ whole) whole ≡ cond b (x ∷ front) front ++ back
cond-append true x whole front back e = ap (λ l. x ∷ l) e
cond-append false x whole front back e = e

-- what a pass moved, with one move more
moved_by-snoc : (pass : ℕ) (moves : List Move) (m : Move)
    → moved_by pass (moves ++ m ∷ []) ≡ moved_by pass moves ++ moved_by pass (m ∷ [])
moved_by-snoc pass [] m = refl
moved_by-snoc pass (x ∷ xs) m =
    cond-append (nat_eq x.0 pass) x.1 (moved_by pass (xs ++ m ∷ [])) (moved_by pass xs) (moved_by pass (m ∷ [])) (moved_by-snoc pass xs m)

-- a move of one's own comes last
moved_by-own : (pass : ℕ) (moves : List Move) (x : Item)
    → moved_by pass (moves ++ (pass, x) ∷ []) ≡ moved_by pass moves ++ x ∷ []
moved_by-own pass moves x =
    let one : moved_by pass ((pass, x) ∷ []) ≡ x ∷ [] = rw (eq-eqb pass pass refl) refl in
    moved_by-snoc pass moves (pass, x) ∙ ap (λ l. moved_by pass moves ++ l) one

-- a move of another changes nothing
moved_by-other : (pass mover : ℕ) (moves : List Move) (x : Item) → pass ≢ mover
    → moved_by pass (moves ++ (mover, x) ∷ []) ≡ moved_by pass moves
moved_by-other pass mover moves x differ =
    let none : moved_by pass ((mover, x) ∷ []) ≡ [] = rw (ne_eqb mover pass (λ e. differ (sym e))) refl in
    moved_by-snoc pass moves (mover, x) ∙ ap (λ l. moved_by pass moves ++ l) none ∙ append-nil (moved_by pass moves)

-- where there is a hand, its number is in range
in_range : (hands : List Hand) (pass : ℕ) (v : Hand) → get_elem? hands pass ≡ some v → pass < length hands
in_range [] pass v at = absurd (some-ne-none v (sym at))
in_range (x ∷ xs) zero v at = omega arith
in_range (x ∷ xs) (suc pass) v at = let below = in_range xs pass v at in omega arith

-- a log in which the others' moves are as before, and each pass's own known
module _ (hands : List Hand) (pass : ℕ) (v w : Hand) (at : get_elem? hands pass ≡ some v) (pushes takes pushes' takes' : List Move)
    (others : (j : ℕ) → j ≢ pass → (moved_by j pushes' ≡ moved_by j pushes) × (moved_by j takes' ≡ moved_by j takes))
    (mine : Knows (length hands) pushes' takes' pass w) where
  -- each pass knows its moves, after one hand has changed
  known_set : ((j : ℕ) (u : Hand) → get_elem? hands j ≡ some u → Knows (length hands) pushes takes j u)
      → (j : ℕ) (u : Hand) → get_elem? (set hands pass w) j ≡ some u → Knows (length (set hands pass w)) pushes' takes' j u
  known_set known j u e =
      subst (λ n. Knows n pushes' takes' j u) (sym (length-set hands pass w)) (⊎_elim
      (λ (here : (j ≡ pass) × (w ≡ u)). subst (λ (y : ℕ × Hand). Knows (length hands) pushes' takes' y.0 y.1) (λ i. (sym here.0 i, here.1 i)) mine)
      (λ (else : (j ≢ pass) × (get_elem? hands j ≡ some u)).
      let k = known j u else.1 in let same = others j else.0 in
      record { pushed = k.pushed ∙ sym same.0; took = k.took ∙ sym same.1; sole = k.sole })
      (at_set hands pass j w u e))

  -- nobody else has moved anything, after one hand has changed
  no_others_set : ((j : ℕ) → length hands ≤ j → (moved_by j pushes ≡ []) × (moved_by j takes ≡ []))
      → (j : ℕ) → length (set hands pass w) ≤ j → (moved_by j pushes' ≡ []) × (moved_by j takes' ≡ [])
  no_others_set none j past =
      let range = in_range hands pass v at in
      let past' : length hands ≤ j = subst (λ n. n ≤ j) (length-set hands pass w) past in
      let same = others j (λ e. absurd (omega (arith, range, past', e))) in
      let was = none j past' in
      (same.0 ∙ was.0, same.1 ∙ was.1)

-- a push keeps the rule
pub pushes : (n pass : ℕ) (v : Hand) (x : Item) → fifo.Pushes Kept n pass v x (Pushes v x)
pushes n pass v x items hands room kept at =
    let w : Hand = with_push v x items in let a = kept.2 in let mine = a.known pass v at in let moves = kept.0 ++ (pass, x) ∷ [] in
    let others : (j : ℕ) → j ≢ pass → (moved_by j moves ≡ moved_by j kept.0) × (moved_by j kept.1 ≡ moved_by j kept.1) = λ j differ. (moved_by-other j pass kept.0 x differ, refl) in
    let me : Knows (length hands) moves kept.1 pass w = record {
      pushed = ap (λ l. l ++ x ∷ []) mine.pushed ∙ sym (moved_by-own pass kept.0 x);
      took = mine.took;
      sole = mine.sole;
    } in
    let after : Kept (items ++ x ∷ []) (set hands pass w) = (
      moves,
      kept.1,
      record {
        balance = map-append (λ (m : Move). m.1) kept.0 ((pass, x) ∷ []) ∙ ap (λ l. l ++ x ∷ []) a.balance ∙ append_assoc (items_of kept.1) items (x ∷ []);
        known = known_set hands pass v w at kept.0 kept.1 moves kept.1 others me a.known;
        no_others = no_others_set hands pass v w at kept.0 kept.1 moves kept.1 others me a.no_others;
      },
    ) in
    (w, after, (items, refl, (set hands pass w, pass, after, set_here hands pass w (in_range hands pass v at))))

-- a take keeps the rule
pub takes : (pass : ℕ) (v : Hand) → fifo.Pops Kept pass v (Takes v)
takes pass v x items hands kept at =
    let w : Hand = with_take v x (x ∷ items) in let a = kept.2 in let mine = a.known pass v at in let moves = kept.1 ++ (pass, x) ∷ [] in
    let others : (j : ℕ) → j ≢ pass → (moved_by j kept.0 ≡ moved_by j kept.0) × (moved_by j moves ≡ moved_by j kept.1) = λ j differ. (refl, moved_by-other j pass kept.1 x differ) in
    let me : Knows (length hands) kept.0 moves pass w = record {
      pushed = mine.pushed;
      took = ap (λ l. l ++ x ∷ []) mine.took ∙ sym (moved_by-own pass kept.1 x);
      sole = mine.sole;
    } in
    let after : Kept items (set hands pass w) = (
      kept.0,
      moves,
      record {
        balance = a.balance ∙ sym (append_assoc (items_of kept.1) (x ∷ []) items) ∙ ap (λ l. l ++ items) (sym (map-append (λ (m : Move). m.1) kept.1 ((pass, x) ∷ [])));
        known = known_set hands pass v w at kept.0 kept.1 kept.0 moves others me a.known;
        no_others = no_others_set hands pass v w at kept.0 kept.1 kept.0 moves others me a.no_others;
      },
    ) in
    (w, after, (items, refl, (set hands pass w, pass, after, set_here hands pass w (in_range hands pass v at))))

-- what a queue holds agrees with the rule
pub learns : (pass : ℕ) (v : Hand) → fifo.Learns Kept pass v (Agrees v)
learns pass v items hands kept at = (hands, pass, kept, at)

-- an element of a list with one more at the end is one of the list, or the last
at_end : (hands : List Hand) (last u : Hand) (j : ℕ) → get_elem? (hands ++ last ∷ []) j ≡ some u
    → (get_elem? hands j ≡ some u) ⊎ ((j ≡ length hands) × (last ≡ u))
at_end [] last u zero e = inr (refl, some-injective last u e)
at_end [] last u (suc j) e = absurd (some-ne-none u (sym e))
at_end (x ∷ xs) last u zero e = inl e
at_end (x ∷ xs) last u (suc j) e =
    ⊎_elim (λ r. inl r) (λ (r : (j ≡ length xs) × (last ≡ u)). inr (ap suc r.0, r.1)) (at_end xs last u j e)

module _ (items : List Item) (hands : List Hand) (pass : ℕ) (v : Hand) (kept : Kept items hands) (at : get_elem? hands pass ≡ some v) where
  -- the pass is not alone any more, and the rule stays
  kept_parted : Kept items (set hands pass (parted v))
  kept_parted =
      let a = kept.2 in let mine = a.known pass v at in
      let others : (j : ℕ) → j ≢ pass → (moved_by j kept.0 ≡ moved_by j kept.0) × (moved_by j kept.1 ≡ moved_by j kept.1) = λ j differ. (refl, refl) in
      let me : Knows (length hands) kept.0 kept.1 pass (parted v) =
      record { pushed = mine.pushed; took = mine.took; sole = λ alone. absurd (true≢false (sym alone)) } in (
        kept.0,
        kept.1,
        record {
          balance = a.balance;
          known = known_set hands pass v (parted v) at kept.0 kept.1 kept.0 kept.1 others me a.known;
          no_others = no_others_set hands pass v (parted v) at kept.0 kept.1 kept.0 kept.1 others me a.no_others;
        },
      )

  -- no other pass is alone beside this one
  none_alone : (j : ℕ) (u : Hand) → get_elem? (set hands pass (parted v)) j ≡ some u → u.alone ≡ true → ⊥
  none_alone j u e alone = ⊎_elim
      (λ (here : (j ≡ pass) × (parted v ≡ u)). true≢false (sym alone ∙ ap (λ (h : Hand). h.alone) (sym here.1)))
      (λ (else : (j ≢ pass) × (get_elem? hands j ≡ some u)).
      let one = (kept.2.known j u else.1).sole alone in
      else.0 (omega (arith, one, in_range hands j u else.1, in_range hands pass v at)))
      (at_set hands pass j (parted v) u e)

-- a pass more keeps the rule, and the one that it is made of is not alone any more
pub forks : (pass : ℕ) (v : Hand) → fifo.Forks Kept pass v (parted v) new_hand
forks pass v items hands kept at =
    let vs : List Hand = set hands pass (parted v) in
    let k : Kept items vs = kept_parted items hands pass v kept at in let a = k.2 in
    let longer : length (vs ++ new_hand ∷ []) ≡ length vs + 1 = length-append vs (new_hand ∷ []) in (
      k.0,
      k.1,
      record {
        balance = a.balance;
        known = λ j u e. ⊎_elim
            (λ (old : get_elem? vs j ≡ some u). let mine = a.known j u old in
            record { pushed = mine.pushed; took = mine.took; sole = λ alone. absurd (none_alone items hands pass v kept at j u old alone) })
            (λ (new : (j ≡ length vs) × (new_hand ≡ u)).
            let none = a.no_others j (omega (arith, new.0)) in
            subst (λ (h : Hand). Knows (length (vs ++ new_hand ∷ [])) k.0 k.1 j h) new.1
            (record { pushed = sym none.0; took = sym none.1; sole = λ alone. absurd (true≢false (sym alone)) }))
            (at_end vs new_hand u j e);
        no_others = λ j past. a.no_others j (omega (arith, longer, past));
      },
    )

-- a queue begins empty, with one pass
pub begins : Kept [] (first_hand ∷ [])
begins = (
  [],
  [],
  record {
    balance = refl;
    known = λ j u e. ⊎_elim
        (λ (none : get_elem? [] j ≡ some u). absurd (some-ne-none u (sym none)))
        (λ (first : (j ≡ 0) × (first_hand ≡ u)). subst (λ (h : Hand). Knows 1 [] [] j h) first.1 (record { pushed = refl; took = refl; sole = λ _. refl }))
        (at_end [] first_hand u j e);
    no_others = λ j past. (refl, refl);
  },
)

-- what agrees with a hand agrees with it once its pass is split
pub agrees_parted : (v : Hand) (items : List Item) → Agrees v items → Agrees (parted v) items
agrees_parted v items agrees = (
  set agrees.0 agrees.1 (parted v),
  agrees.1,
  kept_parted items agrees.0 agrees.1 v agrees.2 agrees.3,
  set_here agrees.0 agrees.1 (parted v) (in_range agrees.0 agrees.1 v agrees.3),
)

-- the front move, where it is the pass's own
moved_by-here : (pass : ℕ) (x : Item) (moves : List Move) → moved_by pass ((pass, x) ∷ moves) ≡ x ∷ moved_by pass moves
moved_by-here pass x moves = rw (eq-eqb pass pass refl) refl

-- the front move, where it is another's
moved_by-else : (pass mover : ℕ) (x : Item) (moves : List Move) → mover ≢ pass → moved_by pass ((mover, x) ∷ moves) ≡ moved_by pass moves
moved_by-else pass mover x moves differ = rw (ne_eqb mover pass differ) refl

-- where only the first pass has moved anything, its moves are all moves
all_by_first : (moves : List Move) → ((j : ℕ) → 1 ≤ j → moved_by j moves ≡ []) → moved_by 0 moves ≡ items_of moves
all_by_first [] none = refl
all_by_first ((zero, x) ∷ xs) none =
    ap (λ l. x ∷ l) (all_by_first xs (λ j past. sym (moved_by-else j 0 x xs (λ e. absurd (omega arith))) ∙ none j past))
all_by_first ((suc k, x) ∷ xs) none =
    let e : x ∷ moved_by (suc k) xs ≡ [] = sym (moved_by-here (suc k) x xs) ∙ none (suc k) (omega arith) in absurd (cc)

-- the only pass of a queue knows what it holds
pub sole_knows : (v : Hand) (items : List Item) → Agrees v items → v.alone ≡ true → v.pushed ≡ v.took ++ items
sole_knows v items (hands, pass, (pushes, takes, a), at) alone =
    let mine = a.known pass v at in
    let one : length hands ≡ 1 = mine.sole alone in
    let first : pass ≡ 0 = omega (arith, one, in_range hands pass v at) in
    let none : (j : ℕ) → 1 ≤ j → (moved_by j pushes ≡ []) × (moved_by j takes ≡ []) = λ j past. a.no_others j (omega (arith, one, past)) in
    mine.pushed ∙ ap (λ j. moved_by j pushes) first ∙ all_by_first pushes (λ j past. (none j past).0) ∙ a.balance
    ∙ ap (λ l. l ++ items) (sym (mine.took ∙ ap (λ j. moved_by j takes) first ∙ all_by_first takes (λ j past. (none j past).1)))
