-- The name at a position is that of what stands there.
use Rattle.task_writer.proofs.Vocabulary.{◌≡◌, ℕ, List, [], map, slice_get, Some, None, unwrap_or, ◌∙◌, ap, slice_get-map, name_at, option_map}

pub name-found : {X : Type 0} (name : X → List ℕ) (xs : List X) (at : ℕ) (x : X) → slice_get xs at ≡ Some x → name_at (map name xs) at ≡ name x
name-found name xs at x e = ap (λ o. unwrap_or o []) (slice_get-map name xs at ∙ ap (option_map name) e)

pub name-missing : {X : Type 0} (name : X → List ℕ) (xs : List X) (at : ℕ) → slice_get xs at ≡ None → name_at (map name xs) at ≡ []
name-missing name xs at e = ap (λ o. unwrap_or o []) (slice_get-map name xs at ∙ ap (option_map name) e)

pub ruleset named = (name-found, name-missing)
