-- The order in which a command fetches its files and meets its refusals.
use Rattle.std.specs.Prelude.{◌≡◌, ℕ, ◌⊎◌, List, Result, Err, MatchResult}
use Rattle.std.specs.Result.{result_map_both}
use Rattle.tool_io.specs.declared.fetch_error.FetchError.{FetchError}
use Rattle.ktask_cli.specs.declared.stop.InputFile.{InputFile}
use Rattle.ktask_cli.specs.declared.stop.Stop.{Stop}
use Rattle.ktask_cli.specs.declared.stop.Stop.TheVariants.{WantOfMemory}
use Rattle.tool_io.specs.Seen.{ShelfSeen}
use Rattle.ktask_cli.specs.Io.{Fetches}
use Rattle.ktask_cli.specs.Stop.{fetch_stop}

-- what a part of a command leaves of the shelf, and what it comes to: something that is ready, or a reason to stop
abbrev pub Plan : Type 0 → Type 1
Plan Ready = ShelfSeen → ShelfSeen → Result Ready Stop → Type 0

-- one part and then another: where the first stops, the second has no part in it
infixl 10 ◌>>=◌
unfoldable pub ◌>>=◌ : {A B : Type 0} → Plan A → (A → Plan B) → Plan B
◌>>=◌ {A} first next was is result = (middle : ShelfSeen) × (answer : Result A Stop) × first was middle answer
    × MatchResult answer (λ ready. next ready middle is result) (λ stop. (is ≡ middle) × (result ≡ Err stop))

-- one fetch of the file, and its content, or the reason why there is none
unfoldable pub content_of : InputFile → List ℕ → Plan (List ℕ)
content_of which name was is result =
    (answer : Result (List ℕ) FetchError) × Fetches was is name answer × (result ≡ result_map_both (λ bytes. bytes) (fetch_stop which) answer)

-- P holds of the result, or memory ran out
abbrev pub OrWants : {Ready : Type 0} → (Result Ready Stop → Type 0) → Result Ready Stop → Type 0
OrWants P result = (result ≡ Err WantOfMemory) ⊎ P result

-- the shelf is not asked, and P holds of the result, or memory ran out
unfoldable pub judged : {Ready : Type 0} → (Result Ready Stop → Type 0) → Plan Ready
judged P was is result = (is ≡ was) × OrWants P result
