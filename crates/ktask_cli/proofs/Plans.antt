-- Parts of a plan, one behind another.
use Rattle.std.proofs.Common.{◌≡◌, ℕ, List, Result, Ok, Err, inl, inr, refl, sym, subst}
use Rattle.std.specs.Result.{result_map_both}
use Rattle.tool_io.specs.declared.fetch_error.FetchError.{FetchError}
use Rattle.ktask_cli.specs.declared.stop.InputFile.{InputFile}
use Rattle.ktask_cli.specs.declared.stop.Stop.{Stop}
use Rattle.ktask_cli.specs.declared.stop.Stop.TheVariants.{WantOfMemory}
use Rattle.ktask_cli.specs.Plan.{Plan, ◌>>=◌, content_of, judged, OrWants}
use Rattle.tool_io.specs.Seen.{ShelfSeen}
use Rattle.ktask_cli.specs.Io.{Fetches}
use Rattle.ktask_cli.specs.Stop.{fetch_stop}

-- a part that judges, behind one that has come to something
abbrev pub Judges : {A B : Type 0} → Plan A → (A → Result B Stop → Type 0) → Plan B
Judges first P = first >>= (λ ready. judged (P ready))

pub judges : {A B : Type 0} (first : Plan A) (P : A → Result B Stop → Type 0) (was is : ShelfSeen) (ready : A) (result : Result B Stop)
    → first was is (Ok ready) → OrWants (P ready) result → Judges first P was is result
unfolding ◌>>=◌ judged
judges first P was is ready result f p = (is, Ok ready, f, (refl, p))

pub stops : {A B : Type 0} (first : Plan A) (P : A → Result B Stop → Type 0) (was is : ShelfSeen) (stop : Stop) → first was is (Err stop) → Judges first P was is (Err stop)
unfolding ◌>>=◌ judged
stops first P was is stop f = (is, Err stop, f, (refl, refl))

-- what was judged, where something is ready
pub judged_ready : {A B : Type 0} (first : Plan A) (P : A → Result B Stop → Type 0) (was is : ShelfSeen) (ready : B) → Judges first P was is (Ok ready)
    → (a : A) × first was is (Ok a) × P a (Ok ready)
unfolding ◌>>=◌ judged
judged_ready first P was is ready (middle, Ok a, f, (same, inl e)) = cc
judged_ready first P was is ready (middle, Ok a, f, (same, inr p)) = (a, subst (λ m. first was m (Ok a)) (sym same) f, p)
judged_ready first P was is ready (middle, Err s, f, (same, e)) = cc

-- why there is a stop
pub data Stopped {A B : Type 0} (first : Plan A) (P : A → Result B Stop → Type 0) (was is : ShelfSeen) (stop : Stop) : Type 0 where
  wanted : stop ≡ WantOfMemory → Stopped first P was is stop
  earlier : first was is (Err stop) → Stopped first P was is stop
  here : (a : A) → first was is (Ok a) → P a (Err stop) → Stopped first P was is stop

pub judged_stop : {A B : Type 0} (first : Plan A) (P : A → Result B Stop → Type 0) (was is : ShelfSeen) (stop : Stop) → Judges first P was is (Err stop) → Stopped first P was is stop
unfolding ◌>>=◌ judged
judged_stop first P was is stop (middle, Ok a, f, (same, inl e)) = wanted cc
judged_stop first P was is stop (middle, Ok a, f, (same, inr p)) = here a (subst (λ m. first was m (Ok a)) (sym same) f) p
judged_stop first P was is stop (middle, Err s, f, (same, e)) =
    let t : stop ≡ s = cc in earlier (subst (λ x. first was is (Err x)) (sym t) (subst (λ m. first was m (Err s)) (sym same) f))

pub content_read : (which : InputFile) (name : List ℕ) (was is : ShelfSeen) (bytes : List ℕ) → content_of which name was is (Ok bytes) → Fetches was is name (Ok bytes)
unfolding content_of
content_read which name was is bytes (Ok got, fetched, e) = let g : got ≡ bytes = cc in subst (λ b. Fetches was is name (Ok b)) g fetched
content_read which name was is bytes (Err error, fetched, e) = cc

pub content_refused : (which : InputFile) (name : List ℕ) (was is : ShelfSeen) (stop : Stop) → content_of which name was is (Err stop)
    → (error : FetchError) × Fetches was is name (Err error) × (stop ≡ fetch_stop which error)
unfolding content_of
content_refused which name was is stop (Ok got, fetched, e) = cc
content_refused which name was is stop (Err error, fetched, e) = (error, fetched, cc)

pub content_fetched : (which : InputFile) (name : List ℕ) (was is : ShelfSeen) (answer : Result (List ℕ) FetchError)
    → Fetches was is name answer → content_of which name was is (result_map_both (λ bytes. bytes) (fetch_stop which) answer)
unfolding content_of
content_fetched which name was is answer fetched = (answer, fetched, refl)

-- ---- any part behind another

pub goes_on : {A B : Type 0} (first : Plan A) (next : A → Plan B) (was middle is : ShelfSeen) (ready : A) (result : Result B Stop)
    → first was middle (Ok ready) → next ready middle is result → (first >>= next) was is result
unfolding ◌>>=◌
goes_on first next was middle is ready result f n = (middle, Ok ready, f, n)

pub stops_both : {A B : Type 0} (first : Plan A) (next : A → Plan B) (was is : ShelfSeen) (stop : Stop) → first was is (Err stop) → (first >>= next) was is (Err stop)
unfolding ◌>>=◌
stops_both first next was is stop f = (is, Err stop, f, (refl, refl))

-- what the first part came to, where both came to something
pub both_ready : {A B : Type 0} (first : Plan A) (next : A → Plan B) (was is : ShelfSeen) (ready : B) → (first >>= next) was is (Ok ready)
    → (middle : ShelfSeen) × (a : A) × first was middle (Ok a) × next a middle is (Ok ready)
unfolding ◌>>=◌
both_ready first next was is ready (middle, Ok a, f, n) = (middle, a, f, n)
both_ready first next was is ready (middle, Err s, f, (same, e)) = cc

-- which part stops
pub data StoppedIn {A B : Type 0} (first : Plan A) (next : A → Plan B) (was is : ShelfSeen) (stop : Stop) : Type 0 where
  in_first : first was is (Err stop) → StoppedIn first next was is stop
  in_next : (middle : ShelfSeen) (a : A) → first was middle (Ok a) → next a middle is (Err stop) → StoppedIn first next was is stop

pub both_stop : {A B : Type 0} (first : Plan A) (next : A → Plan B) (was is : ShelfSeen) (stop : Stop) → (first >>= next) was is (Err stop) → StoppedIn first next was is stop
unfolding ◌>>=◌
both_stop first next was is stop (middle, Ok a, f, n) = in_next middle a f n
both_stop first next was is stop (middle, Err s, f, (same, e)) =
    let t : stop ≡ s = cc in in_first (subst (λ x. first was is (Err x)) (sym t) (subst (λ m. first was m (Err s)) (sym same) f))

-- a part that only judges
pub judge : {B : Type 0} (P : Result B Stop → Type 0) (was : ShelfSeen) (result : Result B Stop) → OrWants P result → judged P was was result
unfolding judged
judge P was result p = (refl, p)

pub was_judged : {B : Type 0} (P : Result B Stop → Type 0) (was is : ShelfSeen) (result : Result B Stop) → judged P was is result → (is ≡ was) × OrWants P result
unfolding judged
was_judged P was is result j = j
