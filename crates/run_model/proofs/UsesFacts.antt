-- Who is still in use after each part of a move: no more than before, but for the new task.
use Rattle.std.proofs.Common.{◌≡◌, ◌≢◌, ℕ, suc, ◌≤◌, Option, Some, None, List, [], ◌∷◌, ◌++◌, length, refl, sym, ◌∙◌, ap, subst, inl, inr, ⊎_elim}
use Rattle.std.specs.Option.{is_some}
use Rattle.std.proofs.lemmas.Bool.{cases_eq, false≢true}
use Rattle.std.proofs.lemmas.Option.{none-some, same_Some}
use Rattle.record_core.specs.Numbers.{put_number, flat, found}
use Rattle.run_model.specs.State.{Body, RootWord, Named}
use Rattle.run_model.proofs.ByNumber.{found_new, found_other, found_put, found_put_other, found_within}
use Rattle.run_model.proofs.NumbersInvariant.{BodyNames}
use Rattle.run_model.proofs.LiveFacts.{read_snoc}
use Rattle.run_model.proofs.NumbersParts.{slice_snoc}
use Rattle.run_model.proofs.UsedFacts.{Uses}

-- a task that a body names is in use
pub uses_named : (roots : List RootWord) (bodies : List (Option Body)) (t u : ℕ) (body : Body) → found bodies t ≡ Some body → BodyNames body u → Uses roots bodies u
uses_named roots bodies t u body has named = inr (inr (t, body, has, named))

-- another body of a task that has one
pub uses_body : (roots : List RootWord) (bodies : List (Option Body)) (t : ℕ) (old body : Body) (u : ℕ) → found bodies t ≡ Some old → (BodyNames body u → Uses roots bodies u) → Uses roots (put_number bodies t (Some body)) u → Uses roots bodies u
uses_body roots bodies t old body u has names (inl some) =
    inl (⊎_elim (λ same. ap is_some (ap (found bodies) same ∙ has)) (λ differ. sym (ap is_some (found_put_other bodies t u (Some body) differ)) ∙ some) (cases_eq u t))
uses_body roots bodies t old body u has names (inr (inl root)) = inr (inl root)
uses_body roots bodies t old body u has names (inr (inr (v, other, e, named))) =
    ⊎_elim
    (λ same.
    let within = found_within bodies t old has in
    let is_body : body ≡ other = same_Some body other (sym (found_put bodies t (Some body) within.0 within.1) ∙ sym (ap (found (put_number bodies t (Some body))) same) ∙ e) in
    names (subst (λ b. BodyNames b u) (sym is_body) named))
    (λ differ. inr (inr (v, other, sym (found_put_other bodies t v (Some body) differ) ∙ e, named)))
    (cases_eq v t)

-- a new body at the next number
pub uses_drawn : (roots : List RootWord) (bodies : List (Option Body)) (body : Body) (u : ℕ) → (BodyNames body u → Uses roots bodies u) → u ≢ suc (length bodies) → Uses roots (bodies ++ Some body ∷ []) u → Uses roots bodies u
uses_drawn roots bodies body u names differ (inl some) = inl (sym (ap is_some (found_other bodies (Some body) u differ)) ∙ some)
uses_drawn roots bodies body u names differ (inr (inl root)) = inr (inl root)
uses_drawn roots bodies body u names differ (inr (inr (v, other, e, named))) =
    ⊎_elim
    (λ same. names (subst (λ b. BodyNames b u) (sym (same_Some body other (sym (found_new bodies (Some body) v same) ∙ e))) named))
    (λ new. inr (inr (v, other, sym (found_other bodies (Some body) v new) ∙ e, named)))
    (cases_eq v (suc (length bodies)))

-- no body at the next number
pub uses_none : (roots : List RootWord) (bodies : List (Option Body)) (u : ℕ) → Uses roots (bodies ++ None ∷ []) u → Uses roots bodies u
uses_none roots bodies u (inl some) = inl (sym (ap is_some (read_snoc flat bodies None refl u)) ∙ some)
uses_none roots bodies u (inr (inl root)) = inr (inl root)
uses_none roots bodies u (inr (inr (v, other, e, named))) = inr (inr (v, other, sym (read_snoc flat bodies None refl v) ∙ e, named))

-- a task has no body any more
pub uses_ended : (roots : List RootWord) (bodies : List (Option Body)) (t u : ℕ) → 1 ≤ t → t ≤ length bodies → Uses roots (put_number bodies t None) u → Uses roots bodies u
uses_ended roots bodies t u some within (inl there) =
    inl (⊎_elim (λ same. absurd (false≢true (sym (ap is_some (ap (found (put_number bodies t None)) same ∙ found_put bodies t None some within)) ∙ there)))
    (λ differ. sym (ap is_some (found_put_other bodies t u None differ)) ∙ there) (cases_eq u t))
uses_ended roots bodies t u some within (inr (inl root)) = inr (inl root)
uses_ended roots bodies t u some within (inr (inr (v, other, e, named))) =
    ⊎_elim
    (λ same. absurd (none-some other (sym (ap (found (put_number bodies t None)) same ∙ found_put bodies t None some within) ∙ e)))
    (λ differ. inr (inr (v, other, sym (found_put_other bodies t v None differ) ∙ e, named)))
    (cases_eq v t)

-- one more root word, which names only this task, if any
pub uses_root : (roots : List RootWord) (bodies : List (Option Body)) (word : RootWord) (u : ℕ) → word ≢ Named u → Uses (roots ++ word ∷ []) bodies u → Uses roots bodies u
uses_root roots bodies word u differ (inl some) = inl some
uses_root roots bodies word u differ (inr (inl (at, e))) = ⊎_elim (λ old. inr (inl (at, old))) (λ new. absurd (differ new.1)) (slice_snoc roots word (Named u) at e)
uses_root roots bodies word u differ (inr (inr named)) = inr (inr named)
