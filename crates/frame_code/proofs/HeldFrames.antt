-- A task's frame of which the futures that are not held are given up, variable by variable.
use Rattle.std.proofs.Common.{◌≡◌, ℕ, zero, suc, ◌+◌, ◌<◌, ◌≤◌, Bool, true, false, cond, nat_eq, Option, Some, None, List, [], ◌∷◌, ◌++◌, length, take, slice_get, slice_index, slice_index_or, slice_set, refl, sym, ◌∙◌, ap, subst, ◌⊎◌, inl, inr, arith}
use Rattle.std.specs.Option.{option_to_list, option_map}
use Rattle.std.proofs.lemmas.Option.{slice_get-get_or}
use Rattle.std.proofs.lemmas.Bool.{eqb-true, eq-eqb}
use Rattle.task_syntax.specs.Facts.{has}
use Rattle.task_syntax.specs.declared.program.Sort.{Sort}
use Rattle.task_syntax.specs.declared.program.Sort.TheVariants.{Number, Future}
use Rattle.task_syntax.specs.declared.program.Variable.{Variable}
use Rattle.task_syntax.specs.declared.program.Program.{Program}
use Rattle.task_meaning.specs.Meant.{future_at}
use Rattle.task_meaning.specs.Frame.{FrameOf, holds_at, kept, kept_from}
use Rattle.frame_code.specs.Control.{control_kind, is_aggregate}
use Rattle.frame_code.specs.Words.{BodyOf, OfKind, OfMembers, variables_at, one_if_future, number_count, future_count, unit_named, future_if, futures_from, frame_at, body_of}
use Rattle.frame_code.specs.Layout.{future_place}
use Rattle.frame_code.specs.Frames.{IsFrame}
use Rattle.frame_code.specs.Names.{present, names_of}
use Rattle.frame_code.specs.Moves.{entered}
use Rattle.frame_code.specs.Ways.{BodyHasWay}
use Rattle.frame_code.specs.Setting.{with_future, unit_of}
use Rattle.frame_code.specs.Units.{entered_held, kept_in, times, AreParts, AreAmong, named_in, IsEnteredHeld, IsKeptIn}
use Rattle.frame_code.proofs.Variables.{IsSort, length-futures}
use Rattle.frame_code.proofs.Aggregates.{body-of_task}
use Rattle.frame_code.proofs.SetFrames.{future-place_within, future-set, future-read}
use Rattle.frame_code.proofs.NameChanges.{changes}
use Rattle.frame_code.proofs.FirstFrames.{futures-more, stands-as}

times-append : (unit : ℕ) (xs ys : List ℕ) → times unit (xs ++ ys) ≡ times unit xs + times unit ys
times-append unit [] ys = omega arith
times-append unit (x ∷ xs) ys = omega (arith, times-append unit xs ys)

one-if_same : (unit x : ℕ) → x ≡ unit → ◌≡◌ {A = ℕ} (cond (nat_eq x unit) 1 0) 1
one-if_same unit x e = ap (λ (b : Bool). cond {A = ℕ} b 1 0) (eq-eqb x unit e)

-- a unit that stands in a list is counted there
counted-there : (unit : ℕ) (xs : List ℕ) (at : ℕ) → slice_get xs at ≡ Some unit → 1 ≤ times unit xs
counted-there unit [] at e = cc
counted-there unit (x ∷ xs) zero e = let s : x ≡ unit = cc in omega (arith, one-if_same unit x s)
counted-there unit (x ∷ xs) (suc at) e = omega (arith, counted-there unit xs at e)

-- and one that is counted stands there
stands-there : (unit : ℕ) (xs : List ℕ) → 1 ≤ times unit xs → (at : ℕ) × (slice_get xs at ≡ Some unit)
stands-there unit [] h = absurd (omega (arith, h))
stands-there unit (x ∷ xs) h = by (nat_eq x unit) refl h (stands-there unit xs)
  where
    by : (b : Bool) → nat_eq x unit ≡ b → 1 ≤ cond b 1 0 + times unit xs → (1 ≤ times unit xs → (at : ℕ) × (slice_get xs at ≡ Some unit)) → (at : ℕ) × (slice_get (x ∷ xs) at ≡ Some unit)
    by true e g again = (0, ap Some (eqb-true x unit e))
    by false e g again = let more = again (omega (arith, g)) in (suc more.0, more.1)

-- what is a part of a list stands in it
pub parts-among : (given_up left whole : List ℕ) → AreParts given_up left whole → AreAmong given_up whole
parts-among given_up left whole parts at unit e = stands-there unit whole (omega (arith, counted-there unit given_up at e, parts unit))

-- the futures, with those of the first n variables kept where they are held
abbrev kept_up_to : ℕ → ℕ → List ℕ → List (Option ℕ) → List (Option ℕ)
kept_up_to at zero held fs = fs
kept_up_to at (suc n) held [] = []
kept_up_to at (suc n) held (f ∷ fs) = cond (has at held) f None ∷ kept_up_to (at + 1) n held fs

kept-all : (at n : ℕ) (held : List ℕ) (fs : List (Option ℕ)) → length fs ≤ n → kept_up_to at n held fs ≡ kept_from at held fs
kept-all at zero held [] h = refl
kept-all at zero held (f ∷ fs) h = absurd (omega (arith, h))
kept-all at (suc n) held [] h = refl
kept-all at (suc n) held (f ∷ fs) h = ap (λ gs. cond (has at held) f None ∷ gs) (kept-all (at + 1) n held fs (omega (arith, h)))

-- one more future is kept where it is held, or was none
kept-more : (at n : ℕ) (held : List ℕ) (fs : List (Option ℕ)) → (has (at + n) held ≡ true) ⊎ (future_at fs n ≡ None) → kept_up_to at (suc n) held fs ≡ kept_up_to at n held fs
kept-more at zero held [] h = refl
kept-more at zero held (f ∷ fs) (inl h) = let e : at + 0 ≡ at = omega arith in ap (λ b. cond b f None ∷ fs) (ap (λ (k : ℕ). has k held) (sym e) ∙ h)
kept-more at zero held (f ∷ fs) (inr h) = ap (λ g. g ∷ fs) (none (has at held) ∙ sym h)
  where
    none : (b : Bool) → cond b f None ≡ None
    none true = h
    none false = refl
kept-more at (suc n) held [] h = refl
kept-more at (suc n) held (f ∷ fs) (inl h) =
    let e : (at + 1) + n ≡ at + suc n = omega arith in
    ap (λ gs. cond (has at held) f None ∷ gs) (kept-more (at + 1) n held fs (inl (ap (λ (k : ℕ). has k held) e ∙ h)))
kept-more at (suc n) held (f ∷ fs) (inr h) = ap (λ gs. cond (has at held) f None ∷ gs) (kept-more (at + 1) n held fs (inr h))

-- one that is not held is given up
kept-less : (at n : ℕ) (held : List ℕ) (fs : List (Option ℕ)) → has (at + n) held ≡ false → slice_set (kept_up_to at n held fs) n None ≡ kept_up_to at (suc n) held fs
kept-less at zero held [] h = refl
kept-less at zero held (f ∷ fs) h = let e : at + 0 ≡ at = omega arith in sym (ap (λ b. cond b f None ∷ fs) (ap (λ (k : ℕ). has k held) (sym e) ∙ h))
kept-less at (suc n) held [] h = refl
kept-less at (suc n) held (f ∷ fs) h =
    let e : (at + 1) + n ≡ at + suc n = omega arith in
    ap (λ gs. cond (has at held) f None ∷ gs) (kept-less (at + 1) n held fs (ap (λ (k : ℕ). has k held) e ∙ h))

kept-long : (at n : ℕ) (held : List ℕ) (fs : List (Option ℕ)) → length (kept_up_to at n held fs) ≡ length fs
kept-long at zero held fs = refl
kept-long at (suc n) held [] = refl
kept-long at (suc n) held (f ∷ fs) = ap suc (kept-long (at + 1) n held fs)

-- a number variable names nothing
number-none : (w : ℕ → ℕ) (place : ℕ) (vs : List Variable) (x : ℕ) → IsSort vs x Number → future_at (futures_from w place vs) x ≡ None
number-none w place [] x e = cc
number-none w place (v ∷ vs) zero e = let s : v.sort ≡ Number = cc in ap (λ t. future_if t (w place)) s
number-none w place (v ∷ vs) (suc x) e = number-none w (place + one_if_future v.sort) vs x e

-- a unit given up more is one less among the names
parts-more : (fs : List (Option ℕ)) (x : ℕ) (given_up whole : List ℕ) → x < length fs → AreParts given_up (present fs) whole
    → AreParts (given_up ++ option_to_list (future_at fs x)) (present (slice_set fs x None)) whole
parts-more fs x given_up whole h parts unit =
    let c = changes fs x None h in
    omega (
      arith,
      parts unit,
      times-append unit given_up (option_to_list (future_at fs x)),
      ap (times unit) c.2,
      ap (times unit) c.3,
      times-append unit (c.0 ++ option_to_list {X = ℕ} None) c.1,
      times-append unit c.0 (option_to_list {X = ℕ} None),
      times-append unit (c.0 ++ option_to_list (future_at fs x)) c.1,
      times-append unit c.0 (option_to_list (future_at fs x)),
    )

-- the sort of a variable that was read
pub sort-read : (vs : List Variable) (x : ℕ) (v : Variable) (s : Sort) → x < length vs → (slice_index_or vs x v).sort ≡ s → IsSort vs x s
sort-read vs x v s h e = ap (option_map (λ (v : Variable). v.sort)) (slice_get-get_or vs x v h) ∙ ap Some e

-- the frame of a task with these futures
abbrev pub with_futures : FrameOf ℕ → List (Option ℕ) → BodyOf ℕ
with_futures q fs = OfKind (record q { futures = fs })

-- the futures of the first x variables were kept where they are held, and these units were given up
pub record IsKeptUpTo (p : Program) (held old : List ℕ) (x : ℕ) (words : List ℕ) (next_place : ℕ) (given_up : List ℕ) : Type 0 where
  pub frame : IsFrame p words
  pub body : body_of p words ≡ with_futures (frame_at p (slice_index old)) (kept_up_to 0 x held (frame_at p (slice_index old)).futures)
  pub place : next_place ≡ 1 + number_count (variables_at p (control_kind (slice_index old 0))) + future_count (take x (variables_at p (control_kind (slice_index old 0))))
  pub parts : AreParts given_up (present (kept_up_to 0 x held (frame_at p (slice_index old)).futures)) (present (frame_at p (slice_index old)).futures)
  pub few : length given_up ≤ x

-- the same of words, a place and units that are the same
pub kept-same : (p : Program) (held old : List ℕ) (x : ℕ) (words words' : List ℕ) (n n' : ℕ) (us us' : List ℕ) → words' ≡ words → n' ≡ n → us' ≡ us
    → IsKeptUpTo p held old x words n us → IsKeptUpTo p held old x words' n' us'
kept-same p held old x words words' n n' us us' a b e so = subst (λ ws. IsKeptUpTo p held old x ws n' us') (sym a)
    (subst (λ (k : ℕ). IsKeptUpTo p held old x words k us') (sym b) (subst (λ (ks : List ℕ). IsKeptUpTo p held old x words n ks) (sym e) so))

-- at first nothing was given up
pub kept-none_yet : (p : Program) (held old : List ℕ) (place : ℕ) → IsFrame p old → is_aggregate (slice_index old 0) ≡ false
    → place ≡ 1 + number_count (variables_at p (control_kind (slice_index old 0))) → IsKeptUpTo p held old 0 old place []
kept-none_yet p held old place frame task at = record {
  frame = frame;
  body = body-of_task p old task;
  place = omega (arith, at);
  parts = λ unit. omega arith;
  few = omega arith;
}

module _ (p : Program) (held old : List ℕ) (x : ℕ) (words : List ℕ) (next : ℕ) (given_up : List ℕ) (kept_so : IsKeptUpTo p held old x words next given_up) where
  as-kind : (is_aggregate (slice_index words 0) ≡ false) × (control_kind (slice_index words 0) ≡ control_kind (slice_index old 0))
  as-kind =
      let s = stands-as p words (record (frame_at p (slice_index old)) { futures = kept_up_to 0 x held (frame_at p (slice_index old)).futures }) kept_so.body in
      (s.0, ap (λ (q : FrameOf ℕ). q.kind) s.1)

  there : IsSort (variables_at p (control_kind (slice_index old 0))) x Future → IsSort (variables_at p (control_kind (slice_index words 0))) x Future
  there s = subst (λ k. IsSort (variables_at p k) x Future) (sym as-kind.1) s

  at-place : IsSort (variables_at p (control_kind (slice_index old 0))) x Future → next ≡ future_place (variables_at p (control_kind (slice_index words 0))) x
  at-place s = kept_so.place ∙ ap (λ k. future_place (variables_at p k) x) (sym as-kind.1)

  -- the place of the next future is in the words
  pub held-room : IsSort (variables_at p (control_kind (slice_index old 0))) x Future → next < length words
  held-room s = omega (arith, at-place s, future-place_within p words kept_so.frame as-kind.0 x (there s))

  same-futures : kept_up_to 0 (suc x) held (frame_at p (slice_index old)).futures ≡ kept_up_to 0 x held (frame_at p (slice_index old)).futures
      → (place : ℕ) → place ≡ 1 + number_count (variables_at p (control_kind (slice_index old 0))) + future_count (take (suc x) (variables_at p (control_kind (slice_index old 0))))
      → IsKeptUpTo p held old (suc x) words place given_up
  same-futures e place at = record {
    frame = kept_so.frame;
    body = kept_so.body ∙ ap (with_futures (frame_at p (slice_index old))) (sym e);
    place = at;
    parts = subst (λ fs. AreParts given_up (present fs) (present (frame_at p (slice_index old)).futures)) (sym e) kept_so.parts;
    few = omega (arith, kept_so.few);
  }

  -- past a number
  pub past-number : IsSort (variables_at p (control_kind (slice_index old 0))) x Number → IsKeptUpTo p held old (x + 1) words next given_up
  past-number s =
      let last : suc x ≡ x + 1 = omega arith in
      let vs : List Variable = variables_at p (control_kind (slice_index old 0)) in
      subst (λ (k : ℕ). IsKeptUpTo p held old k words next given_up) last (same-futures
      (kept-more 0 x held (frame_at p (slice_index old)).futures (inr (number-none (slice_index old) (1 + number_count vs) vs x s)))
      next (omega (arith, kept_so.place, futures-more vs x Number s)))

  -- past a future that is held
  pub past-held : IsSort (variables_at p (control_kind (slice_index old 0))) x Future → has x held ≡ true → IsKeptUpTo p held old (x + 1) words (next + 1) given_up
  past-held s h =
      let last : suc x ≡ x + 1 = omega arith in
      let zero_more : 0 + x ≡ x = omega arith in
      let vs : List Variable = variables_at p (control_kind (slice_index old 0)) in
      subst (λ (k : ℕ). IsKeptUpTo p held old k words (next + 1) given_up) last (same-futures
      (kept-more 0 x held (frame_at p (slice_index old)).futures (inl (ap (λ (k : ℕ). has k held) zero_more ∙ h)))
      (next + 1) (omega (arith, kept_so.place, futures-more vs x Future s)))

  -- past a future that is given up
  pub past-given_up : IsSort (variables_at p (control_kind (slice_index old 0))) x Future → x < length (variables_at p (control_kind (slice_index old 0))) → has x held ≡ false
      → IsKeptUpTo p held old (x + 1) (slice_set words next 0) (next + 1) (given_up ++ option_to_list (unit_named (slice_index words next)))
  past-given_up s within h =
      let last : suc x ≡ x + 1 = omega arith in
      let zero_more : 0 + x ≡ x = omega arith in
      let vs : List Variable = variables_at p (control_kind (slice_index old 0)) in
      let q : FrameOf ℕ = frame_at p (slice_index old) in
      let before : List (Option ℕ) = kept_up_to 0 x held q.futures in
      let less : slice_set before x None ≡ kept_up_to 0 (suc x) held q.futures = kept-less 0 x held q.futures (ap (λ (k : ℕ). has k held) zero_more ∙ h) in
      let set = future-set p words kept_so.frame as-kind.0 x 0 (there s) in
      let place = at-place s in
      let long : x < length before = omega (arith, within, kept-long 0 x held q.futures, length-futures (slice_index old) (1 + number_count vs) vs) in
      let named : unit_named (slice_index words next) ≡ future_at before x
      = ap (λ (k : ℕ). unit_named (slice_index words k)) place ∙ (future-read p words kept_so.frame as-kind.0 x (there s) ∙ ap (λ b. unit_of b x) kept_so.body) in
      let told : AreParts (given_up ++ option_to_list (future_at before x)) (present (slice_set before x None)) (present q.futures)
      = parts-more before x given_up (present q.futures) long kept_so.parts in
      subst (λ (k : ℕ). IsKeptUpTo p held old k (slice_set words next 0) (next + 1) (given_up ++ option_to_list (unit_named (slice_index words next)))) last (record {
        frame = subst (λ (k : ℕ). IsFrame p (slice_set words k 0)) (sym place) set.0;
        body = ap (λ (k : ℕ). body_of p (slice_set words k 0)) place ∙ (set.1 ∙ (ap (with_future x None) kept_so.body ∙ ap (with_futures q) less));
        place = omega (arith, kept_so.place, futures-more vs x Future s);
        parts = subst (λ fs. AreParts (given_up ++ option_to_list (unit_named (slice_index words next))) (present fs) (present q.futures)) less
            (subst (λ o. AreParts (given_up ++ option_to_list o) (present (slice_set before x None)) (present q.futures)) (sym named) told);
        few = omega (arith, kept_so.few, one-most given_up (unit_named (slice_index words next)));
      })
    where
      one-most : (xs : List ℕ) (o : Option ℕ) → length (xs ++ option_to_list o) ≤ length xs + 1
      one-most [] None = omega arith
      one-most [] (Some u) = omega arith
      one-most (y ∷ ys) o = omega (arith, one-most ys o)

  -- after the last variable all is kept, and the units given up are a part of the names
  pub kept-at_end : is_aggregate (slice_index old 0) ≡ false → length (variables_at p (control_kind (slice_index old 0))) ≤ x
      → IsKeptIn p held old words × AreParts given_up (named_in p words) (named_in p old)
  kept-at_end task past =
      let vs : List Variable = variables_at p (control_kind (slice_index old 0)) in
      let q : FrameOf ℕ = frame_at p (slice_index old) in
      let all : kept_up_to 0 x held q.futures ≡ kept held q.futures
      = kept-all 0 x held q.futures (omega (arith, past, length-futures (slice_index old) (1 + number_count vs) vs)) in (
        kept_so.body ∙ (ap (with_futures q) all ∙ ap (kept_in held) (sym (body-of_task p old task))),
        subst (λ b. AreParts given_up (names_of b) (named_in p old)) (sym kept_so.body)
            (subst (λ b. AreParts given_up (present (kept_up_to 0 x held q.futures)) (names_of b)) (sym (body-of_task p old task)) kept_so.parts),
      )

-- what `enter_held` promises of a task, which entered a state whose held futures were kept
pub held-of_task : (p : Program) (target : ℕ) (old mid new held given_up : List ℕ) → body_of p mid ≡ entered target (body_of p old) → is_aggregate (slice_index mid 0) ≡ false
    → BodyHasWay p (body_of p mid) → held ≡ holds_at p (control_kind (slice_index mid 0)) target → IsKeptIn p held mid new → AreParts given_up (named_in p new) (named_in p mid)
    → IsEnteredHeld p target old new × BodyHasWay p (body_of p new) × AreParts given_up (named_in p new) (named_in p old)
held-of_task p target old mid new held given_up moved task way is_held kept_so parts = by (body_of p old) moved
  where
    by : (b : BodyOf ℕ) → body_of p mid ≡ entered target b
        → (body_of p new ≡ entered_held p target b) × BodyHasWay p (body_of p new) × AreParts given_up (named_in p new) (names_of b)
    by (OfMembers ms n) e = let g = body-of_task p mid task in cc
    by (OfKind q) e =
        let kind : control_kind (slice_index mid 0) ≡ q.kind = ap (λ (f : FrameOf ℕ). f.kind) (stands-as p mid (record q { state = target; at = 0 }) e).1 in
        let is : body_of p new ≡ OfKind (record q { state = target; at = 0; futures = kept held q.futures }) = kept_so ∙ ap (kept_in held) e in (
          is ∙ ap (λ hs. OfKind (record q { state = target; at = 0; futures = kept hs q.futures })) (is_held ∙ ap (λ k. holds_at p k target) kind),
          subst (BodyHasWay p) (sym is) (subst (BodyHasWay p) e way),
          subst (λ b. AreParts given_up (named_in p new) (names_of b)) e parts,
        )
