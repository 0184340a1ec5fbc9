-- Who asked for each number, over what a move changes: a frame goes on, a number is drawn, an activation starts, none runs.
use Rattle.std.proofs.Common.{◌≡◌, ◌⊎◌, ℕ, suc, ◌<◌, Option, Some, None, List, [], ◌∷◌, ◌++◌, length, refl, sym, ◌∙◌, ap, subst, inl, inr, ⊎_elim, arith}
use Rattle.std.specs.Prelude.{IsSome}
use Rattle.std.specs.Option.{is_some}
use Rattle.std.proofs.lemmas.Bool.{cases_eq, false≢true}
use Rattle.std.proofs.lemmas.Option.{none-some, same_Some}
use Rattle.task_meaning.specs.Frame.{FrameOf}
use Rattle.frame_code.specs.Words.{OfKind}
use Rattle.record_core.specs.Numbers.{by_number, found}
use Rattle.record_core.specs.Journal.{start_in, start_of}
use Rattle.record_core.specs.declared.rows.ActivationRow.{ActivationRow}
use Rattle.run_model.specs.State.{Body}
use Rattle.run_model.proofs.ByNumber.{found_new, found_other, found_within, length_snoc, snoc_old}
use Rattle.run_model.proofs.MadeInvariant.{Asker, Askers, IsAhead}

-- what is asked for is found with one number more, or is the new one
pub found_cases : {A : Type 0} (xs : List (Option A)) (o : Option A) (n : ℕ) (x : A) → found (xs ++ o ∷ []) n ≡ Some x → (found xs n ≡ Some x) ⊎ ((n ≡ suc (length xs)) × (o ≡ Some x))
found_cases xs o n x e = ⊎_elim (λ same. inr (same, sym (found_new xs o n same) ∙ e)) (λ differ. inl (sym (found_other xs o n differ) ∙ e)) (cases_eq n (suc (length xs)))

-- a start that is written stays with one row more
start_snoc : (rows : List ActivationRow) (row : ActivationRow) (n : ℕ) → IsSome (start_of rows n) → IsSome (start_of (rows ++ row ∷ []) n)
start_snoc rows row n some = by (by_number rows n) refl some
  where
    by : (o : Option ActivationRow) → by_number rows n ≡ o → IsSome (start_in o) → IsSome (start_of (rows ++ row ∷ []) n)
    by None there h = absurd (false≢true h)
    by (Some was) there h = subst (λ (o : Option ActivationRow). IsSome (start_in o)) (sym (snoc_old rows row n was there)) h

-- one body is one frame
one_body : (o : Option Body) (q next : FrameOf ℕ) → o ≡ Some (OfKind q) → o ≡ Some (OfKind next) → next ≡ q
one_body o q next one other = let both : Some (OfKind next) ≡ Some (OfKind q) = sym other ∙ one in cc

module _ (story : List (Option Asker)) (rows : List ActivationRow) (bodies : List (Option Body)) (running : Option ℕ) (now : Askers story rows bodies running) where
  -- none runs, and the starts that were written stay
  pub askers_stop : (rows' : List ActivationRow) (bodies' : List (Option Body)) → length rows' ≡ length rows → ((n : ℕ) → IsSome (start_of rows n) → IsSome (start_of rows' n)) → Askers story rows' bodies' None
  askers_stop rows' bodies' many starts = record {
    beside = now.beside ∙ sym many;
    rise = now.rise;
    begun = λ t a e. starts a.number (now.begun t a e);
    now = λ n t row q a runs. absurd (none-some n runs);
  }

  -- one starts that had not
  pub askers_start : (m : ℕ) (rows' : List ActivationRow) → length rows' ≡ length rows → ((n : ℕ) → IsSome (start_of rows n) → IsSome (start_of rows' n)) → start_of rows m ≡ None → Askers story rows' bodies (Some m)
  askers_start m rows' many starts waits = record {
    beside = now.beside ∙ sym many;
    rise = now.rise;
    begun = λ t a e. starts a.number (now.begun t a e);
    now = λ n t row q a runs there has e is.
        let number : a.number ≡ m = is ∙ sym (same_Some m n runs) in
        absurd (false≢true (sym (ap is_some waits) ∙ subst (λ k. IsSome (start_of rows k)) number (now.begun t a e)));
  }

  module _ (t n : ℕ) (row : ActivationRow) (q : FrameOf ℕ) (runs : running ≡ Some n) (there : by_number rows n ≡ Some row) (of_task : row.task ≡ t) (has : found bodies t ≡ Some (OfKind q)) where
    -- whatever the one that runs has asked for, is behind where it stands
    behind_now : (u : ℕ) (a : Asker) → found story u ≡ Some a → a.number ≡ n → IsAhead a.frame q
    behind_now u a e is = now.now n u row q a runs there (ap (found bodies) of_task ∙ has) e is

    -- the frame that runs goes on
    pub askers_step : (bodies' : List (Option Body)) (next : FrameOf ℕ) → found bodies' t ≡ Some (OfKind next) → IsAhead q next → Askers story rows bodies' running
    askers_step bodies' next goes ahead = record { beside = now.beside; rise = now.rise; begun = now.begun; now = then }
      where
        then : (m u : ℕ) (other : ActivationRow) (r : FrameOf ℕ) (a : Asker) → running ≡ Some m → by_number rows m ≡ Some other → found bodies' other.task ≡ Some (OfKind r) → found story u ≡ Some a → a.number ≡ m
            → IsAhead a.frame r
        then m u other r a is_m is_other has_r e is =
            let same : n ≡ m = same_Some n m (sym runs ∙ is_m) in
            let same_row : row ≡ other = same_Some row other (sym there ∙ ap (by_number rows) same ∙ is_other) in
            let same_frame : r ≡ next = one_body (found bodies' t) next r goes (ap (found bodies') (sym of_task ∙ ap (λ (x : ActivationRow). x.task) same_row) ∙ has_r) in
            let before = behind_now u a e (is ∙ sym same) in
            subst (IsAhead a.frame) (sym same_frame) (before.0 ∙ ahead.0, omega (arith, before.1, ahead.1))

    -- and asks for a number on its way
    pub askers_ask : IsSome row.start → (new : ActivationRow) (bodies' : List (Option Body)) (next : FrameOf ℕ) → found bodies' t ≡ Some (OfKind next) → IsAhead q next
        → Askers (story ++ Some (record { number = n; frame = q }) ∷ []) (rows ++ new ∷ []) bodies' running
    askers_ask started new bodies' next goes ahead = record {
      beside = length_snoc story (Some here) ∙ ap suc now.beside ∙ sym (length_snoc rows new);
      rise = rise;
      begun = begun;
      now = then;
    }
      where
        here : Asker
        here = record { number = n; frame = q }

        same_here : (b : Asker) → Some here ≡ Some b → here ≡ b
        same_here b e = same_Some here b e

        rise : (k u : ℕ) (a b : Asker) → found (story ++ Some here ∷ []) k ≡ Some a → found (story ++ Some here ∷ []) u ≡ Some b → a.number ≡ b.number → k < u → IsAhead a.frame b.frame
        rise k u a b e f is less =
            ⊎_elim
            (λ old_k. ⊎_elim
            (λ old_u. now.rise k u a b old_k old_u is less)
            (λ new_u.
            let same = same_here b new_u.1 in
            subst (λ (x : Asker). IsAhead a.frame x.frame) same (behind_now k a old_k (is ∙ ap (λ (x : Asker). x.number) (sym same))))
            (found_cases story (Some here) u b f))
            (λ new_k. ⊎_elim
            (λ old_u. let within = found_within story u b old_u in absurd (omega (arith, within.1, new_k.0, less)))
            (λ new_u. absurd (omega (arith, new_k.0, new_u.0, less)))
            (found_cases story (Some here) u b f))
            (found_cases story (Some here) k a e)

        begun : (k : ℕ) (a : Asker) → found (story ++ Some here ∷ []) k ≡ Some a → IsSome (start_of (rows ++ new ∷ []) a.number)
        begun k a e =
            ⊎_elim
            (λ old. start_snoc rows new a.number (now.begun k a old))
            (λ is_new. subst (λ (x : Asker). IsSome (start_of (rows ++ new ∷ []) x.number)) (same_here a is_new.1)
            (start_snoc rows new n (subst (λ (o : Option ActivationRow). IsSome (start_in o)) (sym there) started)))
            (found_cases story (Some here) k a e)

        then : (m u : ℕ) (other : ActivationRow) (r : FrameOf ℕ) (a : Asker) → running ≡ Some m → by_number (rows ++ new ∷ []) m ≡ Some other → found bodies' other.task ≡ Some (OfKind r)
            → found (story ++ Some here ∷ []) u ≡ Some a → a.number ≡ m → IsAhead a.frame r
        then m u other r a is_m is_other has_r e is =
            let same : n ≡ m = same_Some n m (sym runs ∙ is_m) in
            let same_row : row ≡ other = same_Some row other (sym (snoc_old rows new n row there) ∙ ap (by_number (rows ++ new ∷ [])) same ∙ is_other) in
            let same_frame : r ≡ next = one_body (found bodies' t) next r goes (ap (found bodies') (sym of_task ∙ ap (λ (x : ActivationRow). x.task) same_row) ∙ has_r) in
            subst (IsAhead a.frame) (sym same_frame) (⊎_elim
            (λ old. let before = behind_now u a old (is ∙ sym same) in (before.0 ∙ ahead.0, omega (arith, before.1, ahead.1)))
            (λ is_new. subst (λ (x : Asker). IsAhead x.frame next) (same_here a is_new.1) ahead)
            (found_cases story (Some here) u a e))

  -- a number is drawn for a root or a further activation, and none runs then
  pub askers_draw : (new : ActivationRow) (bodies' : List (Option Body)) → Askers (story ++ None ∷ []) (rows ++ new ∷ []) bodies' None
  askers_draw new bodies' = record {
    beside = length_snoc story None ∙ ap suc now.beside ∙ sym (length_snoc rows new);
    rise = λ t u a b e f. now.rise t u a b (old t a e) (old u b f);
    begun = λ t a e. start_snoc rows new a.number (now.begun t a (old t a e));
    now = λ n t row q a runs. absurd (none-some n runs);
  }
    where
      old : (t : ℕ) (a : Asker) → found (story ++ None ∷ []) t ≡ Some a → found story t ≡ Some a
      old t a e = ⊎_elim (λ was. was) (λ new. absurd (none-some a new.1)) (found_cases story None t a e)
