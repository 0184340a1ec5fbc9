-- What an engine sees after it took several tasks in hand, or let several go, and that their order does not matter.
use Rattle.std.proofs.Common.{◌≡◌, ℕ, suc, ◌+◌, ◌<◌, ◌≤◌, ◌^◌, Bool, true, false, cond, nat_eq, Option, Some, List, [], ◌∷◌, ◌++◌, length, map, slice_get, refl, sym, ◌∙◌, ap, arith}
use Rattle.task_syntax.specs.Places.{Each}
use Rattle.task_syntax.specs.declared.program.Program.{Program}
use Rattle.run_model.specs.State.{Run}
use Rattle.run_model.specs.Placing.{is_in_use, superblocks_from}
use Rattle.plain_state.specs.Store.{held, held_all, let_go, let_go_all, MayHold, MayHoldAll, MayLetGo, MayLetGoAll}
use Rattle.plain_state.specs.Engine.{EngineState, with_store}
use Rattle.plain_state.specs.Sees.{Sees, InUse, references, times, with_hand, unit_of}
use Rattle.plain_state.proofs.References.{in_use_counts, times_append}
use Rattle.plain_state.proofs.InHand.{same_test, used_same, task_referred, known_at, sees_held}
use Rattle.plain_state.proofs.LetGo.{may_let_go, sees_let_go}

-- lists that are equal have equal parts
pub cons_parts : {A : Type 0} (x y : A) (xs ys : List A) → x ∷ xs ≡ y ∷ ys → (x ≡ y) × (xs ≡ ys)
cons_parts {A = A} x y xs ys e = (ap first e, ap rest e)
  where
    first : List A → A
    first [] = x
    first (z ∷ zs) = z

    rest : List A → List A
    rest [] = xs
    rest (z ∷ zs) = zs

-- an empty list is none that has a member
pub nil_cons : {A : Type 0} (x : A) (xs : List A) → [] ≡ x ∷ xs → ⊥
nil_cons x xs e = cc

-- a hand with the same tasks, each as often
module _ (p : Program) (units : ℕ) (hand hand' : List ℕ) (own : Option (ℕ × List ℕ)) (e : EngineState) (r : Run)
    (same : (u : ℕ) → times u hand' ≡ times u hand) (sees : Sees p units hand own e r) where
  same_references : (u : ℕ) → references hand' r u ≡ references hand r u
  same_references u = omega (arith, same u)

  -- what is in use with the one hand is so with the other
  back : (u : ℕ) → InUse hand' r u → InUse hand r u
  back u now = (in_use_counts hand r u).1 (omega (arith, (in_use_counts hand' r u).0 now, same_references u))

  -- and the other way round
  there : (u : ℕ) → InUse hand r u → InUse hand' r u
  there u was = (in_use_counts hand' r u).1 (omega (arith, (in_use_counts hand r u).0 was, same_references u))

  -- the engine sees the same
  pub sees_reordered : Sees p units hand' own e r
  sees_reordered = record {
    shaped = sees.shaped;
    sound = sees.sound;
    pool = sees.pool ∙ ap (λ bs. record { units = units; superblocks = superblocks_from units bs 0 r.supers })
        (used_same (with_hand hand r).roots (with_hand hand' r).roots r.bodies r.bodies 1 r.blocks
        (λ u. same_test (is_in_use (with_hand hand r).roots r.bodies u) (is_in_use (with_hand hand' r).roots r.bodies u) (there u) (back u)));
    out = λ u block has now. sees.out u block has (back u now);
    apart = λ u v block has_u has_v now_u now_v. sees.apart u v block has_u has_v (back u now_u) (back v now_v);
    tasks = λ u now. let st = sees.tasks u (back u now) in
        task_referred p hand hand' own e.store e.store r u st.known.references st st.stands st.there (st.referred ∙ sym (same_references u)) refl
        (λ at k e'. (k, e', refl));
    journal = sees.journal;
    roots = sees.roots;
    high = sees.high;
    regular = sees.regular;
    low = sees.low;
    nulls = sees.nulls;
    class = sees.class;
    words = sees.words;
  }

-- a task in use may be let go
pub may_let_go_used : (p : Program) (units : ℕ) (hand : List ℕ) (own : Option (ℕ × List ℕ)) (e : EngineState) (r : Run) (u unit : ℕ)
    → Sees p units hand own e r → InUse hand r u
    → unit_of r.blocks u ≡ Some unit → MayLetGo unit e.store
may_let_go_used p units hand own e r u unit sees used at =
    let st = sees.tasks u used in
    let here = known_at p units hand own e r sees u unit used at in
    record {
      known = st.known;
      block = st.block;
      there = ap (slice_get e.store.records) (sym here) ∙ st.there;
      some = omega (arith, st.referred, (in_use_counts hand r u).0 used);
      has = ap (slice_get e.store.blocks) (sym here) ∙ st.stands;
      out = sees.out u st.block st.has_block used;
    }

-- all that stand in front of the hand are let go
pub let_go_all_sees : (p : Program) (units : ℕ) (own : Option (ℕ × List ℕ)) (e : EngineState) (r : Run) (us ats hand : List ℕ)
    → map (unit_of r.blocks) us ≡ map (λ unit. Some unit) ats
    → Sees p units (us ++ hand) own e r → MayLetGoAll ats e.store × Sees p units hand own (with_store e (let_go_all ats e.store)) r
let_go_all_sees p units own e r [] [] hand same sees = (tt, sees)
let_go_all_sees p units own e r [] (unit ∷ ats) hand same sees = absurd (nil_cons (Some unit) (map (λ unit. Some unit) ats) same)
let_go_all_sees p units own e r (u ∷ us) [] hand same sees = absurd (nil_cons (unit_of r.blocks u) (map (unit_of r.blocks) us) (sym same))
let_go_all_sees p units own e r (u ∷ us) (unit ∷ ats) hand same sees =
    let (at, rest) = cons_parts (unit_of r.blocks u) (Some unit) (map (unit_of r.blocks) us) (map (λ unit. Some unit) ats) same in
    let (may, sees') = let_go_all_sees p units own (with_store e (let_go unit e.store)) r us ats hand rest
    (sees_let_go p units (us ++ hand) own e r u unit sees at) in
    ((may_let_go p units (us ++ hand) own e r u unit sees at, may), sees')

-- one task moves from behind a list to its front
times_moved : (us hand : List ℕ) (u v : ℕ) → times v (u ∷ (us ++ hand)) ≡ times v (us ++ u ∷ hand)
times_moved us hand u v = omega (arith, times_append v us hand, times_append v us (u ∷ hand))

-- all of these are taken in hand
pub held_all_sees : (p : Program) (units : ℕ) (own : Option (ℕ × List ℕ)) (e : EngineState) (r : Run) (us ats hand : List ℕ)
    → map (unit_of r.blocks) us ≡ map (λ unit. Some unit) ats
    → Each us (InUse hand r) → Sees p units hand own e r → Sees p units (us ++ hand) own (with_store e (held_all ats e.store)) r
held_all_sees p units own e r [] [] hand same each sees = sees
held_all_sees p units own e r [] (unit ∷ ats) hand same each sees = absurd (nil_cons (Some unit) (map (λ unit. Some unit) ats) same)
held_all_sees p units own e r (u ∷ us) [] hand same each sees = absurd (nil_cons (unit_of r.blocks u) (map (unit_of r.blocks) us) (sym same))
held_all_sees p units own e r (u ∷ us) (unit ∷ ats) hand same each sees =
    let (at, rest) = cons_parts (unit_of r.blocks u) (Some unit) (map (unit_of r.blocks) us) (map (λ unit. Some unit) ats) same in
    let once = sees_held p units hand own e r sees u unit (each 0 u refl) at in
    let all = held_all_sees p units own (with_store e (held unit e.store)) r us ats (u ∷ hand) rest
    (λ place v e'. later v (each (suc place) v e')) once in
    sees_reordered p units (us ++ u ∷ hand) (u ∷ (us ++ hand)) own (with_store e (held_all ats (held unit e.store))) r (times_moved us hand u) all
  where
    later : (v : ℕ) → InUse hand r v → InUse (u ∷ hand) r v
    later v was = (in_use_counts (u ∷ hand) r v).1 (omega (arith, (in_use_counts hand r v).0 was))

-- and may be, where few are referred to
pub may_hold_used : (p : Program) (units : ℕ) (hand : List ℕ) (own : Option (ℕ × List ℕ)) (e : EngineState) (r : Run) (u unit : ℕ)
    → Sees p units hand own e r → InUse hand r u
    → unit_of r.blocks u ≡ Some unit → references hand r u + 1 < 2 ^ 32 → MayHold unit e.store
may_hold_used p units hand own e r u unit sees used at few =
    let st = sees.tasks u used in
    let here = known_at p units hand own e r sees u unit used at in
    (st.known, ap (slice_get e.store.records) (sym here) ∙ st.there, omega (arith, few, st.referred))

-- and so may be each of a list
pub may_hold_all : (p : Program) (units : ℕ) (own : Option (ℕ × List ℕ)) (e : EngineState) (r : Run) (us ats hand : List ℕ)
    → map (unit_of r.blocks) us ≡ map (λ unit. Some unit) ats
    → Each us (InUse hand r) → ((u : ℕ) → references hand r u + length us + 1 < 2 ^ 32) → Sees p units hand own e r → MayHoldAll ats e.store
may_hold_all p units own e r [] [] hand same each few sees = tt
may_hold_all p units own e r [] (unit ∷ ats) hand same each few sees = absurd (nil_cons (Some unit) (map (λ unit. Some unit) ats) same)
may_hold_all p units own e r (u ∷ us) [] hand same each few sees = tt
may_hold_all p units own e r (u ∷ us) (unit ∷ ats) hand same each few sees =
    let (at, rest) = cons_parts (unit_of r.blocks u) (Some unit) (map (unit_of r.blocks) us) (map (λ unit. Some unit) ats) same in
    let once = sees_held p units hand own e r sees u unit (each 0 u refl) at in (
      may_hold_used p units hand own e r u unit sees (each 0 u refl) at (omega (arith, few u)),
      may_hold_all p units own (with_store e (held unit e.store)) r us ats (u ∷ hand) rest (λ place v e'. later v (each (suc place) v e'))
          (λ v. omega (arith, few v, one v (nat_eq u v))) once,
    )
  where
    later : (v : ℕ) → InUse hand r v → InUse (u ∷ hand) r v
    later v was = (in_use_counts (u ∷ hand) r v).1 (omega (arith, (in_use_counts hand r v).0 was))

    one : (v : ℕ) (b : Bool) → ◌≤◌ (cond b 1 0) 1
    one v true = omega arith
    one v false = omega arith
