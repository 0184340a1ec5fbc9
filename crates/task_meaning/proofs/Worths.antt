-- The worths of accepted calls, and what follows from frames of tasks.
use Rattle.std.specs.Prelude.{◌≡◌, ℕ, zero, suc, ◌+◌, ◌<◌, ◌≤◌, Option, Some, None, List, [], ◌∷◌, ◌++◌, map, length, slice_get}
use Rattle.std.proofs.Common.{refl, sym, ap, ◌∙◌, arith}
use Rattle.task_syntax.specs.Places.{Each}
use Rattle.task_syntax.specs.declared.value.Value.{Value}
use Rattle.task_syntax.specs.declared.value.Value.TheVariants.{Number}
use Rattle.task_syntax.specs.declared.program.Program.{Program}
use Rattle.task_syntax.specs.declared.columns.Columns.{Columns}
use Rattle.task_meaning.specs.Meant.{Meant, gives, with_value, future_at, behind, behind_all}
use Rattle.task_meaning.specs.Frame.{FrameOf, CallOf, Place, entry, renamed, call_with}
use Rattle.task_meaning.specs.Meaning.{mean, rest}
use Rattle.task_meaning.specs.Worths.{Accepted, OfCall, OfAll, Respawn, worth_of, worths_from, worths, place_in, rest_of}
use Rattle.task_meaning.specs.Acts.{Act, Steps, act_with, ActsAt}
use Rattle.task_meaning.specs.WorthLaws.{NamesUpTo}
use Rattle.task_meaning.proofs.Grows.{Stays, AllStay, AllStay-at, AllStay-append, Within, Within-refl, Within-counted, Within-behind, Within-behind_all}
use Rattle.task_meaning.proofs.Fuel.{entry-grows, rest-grows}
use Rattle.task_meaning.proofs.Ahead.{AllJumpAhead}
use Rattle.task_meaning.proofs.FromRuns.{rest-acts}
use Rattle.task_meaning.proofs.Lists.{length-snoc, future_at-snoc, future_at-last}
use Rattle.task_meaning.proofs.Renaming.{entry-renamed, act-renamed}

-- the worths of more calls go on from those before
pub from-append : (p : Program) (c : Columns) (n : ℕ) (earlier : List (Option Value)) (accepted more : List Accepted)
    → worths_from p c n earlier (accepted ++ more) ≡ worths_from p c n (worths_from p c n earlier accepted) more
from-append p c n earlier [] more = refl
from-append p c n earlier (a ∷ accepted) more = from-append p c n (earlier ++ worth_of p c n earlier a ∷ []) accepted more

from-length : (p : Program) (c : Columns) (n : ℕ) (earlier : List (Option Value)) (accepted : List Accepted)
    → length (worths_from p c n earlier accepted) ≡ length earlier + length accepted
from-length p c n earlier [] = omega arith
from-length p c n earlier (a ∷ accepted) =
    let w : Option Value = worth_of p c n earlier a in
    let e = from-length p c n (earlier ++ w ∷ []) accepted in
    let l : length (earlier ++ w ∷ []) ≡ suc (length earlier) = length-snoc earlier w in
    omega (arith, e, l)

-- there is a worth for each number, and one for 0
pub worths-length : (p : Program) (c : Columns) (n : ℕ) (accepted : List Accepted) → length (worths p c n accepted) ≡ suc (length accepted)
worths-length p c n accepted = let e = from-length p c n (None ∷ []) accepted in omega (arith, e)

from-earlier : (p : Program) (c : Columns) (n : ℕ) (earlier : List (Option Value)) (accepted : List Accepted) (t : ℕ) → t < length earlier
    → future_at (worths_from p c n earlier accepted) t ≡ future_at earlier t
from-earlier p c n earlier [] t h = refl
from-earlier p c n earlier (a ∷ accepted) t h =
    let w : Option Value = worth_of p c n earlier a in
    let l : length (earlier ++ w ∷ []) ≡ suc (length earlier) = length-snoc earlier w in
    from-earlier p c n (earlier ++ w ∷ []) accepted t (omega (arith, h, l)) ∙ future_at-snoc earlier w t h

-- later calls leave the worths before them
pub later-worths : (p : Program) (c : Columns) (n : ℕ) (accepted more : List Accepted) (t : ℕ) → t ≤ length accepted
    → future_at (worths p c n (accepted ++ more)) t ≡ future_at (worths p c n accepted) t
later-worths p c n accepted more t h =
    let l : length (worths p c n accepted) ≡ suc (length accepted) = worths-length p c n accepted in
    ap (λ (ws : List (Option Value)). future_at ws t) (from-append p c n (None ∷ []) accepted more)
    ∙ from-earlier p c n (worths p c n accepted) more t (omega (arith, h, l))

-- more fuel
pub AllStay-named : (ws vs : List (Option Value)) → AllStay ws vs → (fs : List (Option ℕ)) → AllStay (map (renamed (future_at ws)) fs) (map (renamed (future_at vs)) fs)
AllStay-named ws vs h [] = tt
AllStay-named ws vs h (None ∷ fs) = (tt, AllStay-named ws vs h fs)
AllStay-named ws vs h (Some t ∷ fs) = (AllStay-at ws vs t h, AllStay-named ws vs h fs)

-- more worths and more fuel keep what an accepted call means
pub call-within : (p : Program) (c : Columns) (n m : ℕ) → n ≤ m → (ws vs : List (Option Value)) → AllStay ws vs → (call : CallOf ℕ)
    → Within (mean p c n (call_with (future_at ws) call)) (mean p c m (call_with (future_at vs) call))
call-within p c n m e ws vs h call =
    Within-counted 1 1 _ _ (entry-grows p (rest p c n) (rest p c m) (rest-grows p c n m e) call.kind call.numbers _ _ (AllStay-named ws vs h call.futures))

worth-stays : (p : Program) (c : Columns) (n m : ℕ) → n ≤ m → (ws vs : List (Option Value)) → AllStay ws vs → (a : Accepted)
    → Stays (worth_of p c n ws a) (worth_of p c m vs a)
worth-stays p c n m e ws vs h (OfCall call waits) = (Within-behind waits ws vs _ _ h (call-within p c n m e ws vs h call)).value
worth-stays p c n m e ws vs h (OfAll members) = (Within-behind_all members ws vs _ _ h (Within-refl (gives (Number 0)))).value
worth-stays p c n m e ws vs h (Respawn task waits) = tt

from-stay : (p : Program) (c : Columns) (n m : ℕ) → n ≤ m → (accepted : List Accepted) (ws vs : List (Option Value)) → AllStay ws vs
    → AllStay (worths_from p c n ws accepted) (worths_from p c m vs accepted)
from-stay p c n m e [] ws vs h = h
from-stay p c n m e (a ∷ accepted) ws vs h =
    from-stay p c n m e accepted _ _ (AllStay-append ws vs (worth_of p c n ws a ∷ []) (worth_of p c m vs a ∷ []) h (worth-stays p c n m e ws vs h a, tt))

-- worths stay with more fuel
pub worths-stay : (p : Program) (c : Columns) (n m : ℕ) → n ≤ m → (accepted : List Accepted) → AllStay (worths p c n accepted) (worths p c m accepted)
worths-stay p c n m e accepted = from-stay p c n m e accepted (None ∷ []) (None ∷ []) (tt, tt)

-- what names tasks up to a number reads the same where the worths up to there are the same
abbrev pub SameUpTo : ℕ → List (Option Value) → List (Option Value) → Type 0
SameUpTo most ws vs = (t : ℕ) → t ≤ most → future_at ws t ≡ future_at vs t

-- futures have the same values by the same worths
pub futures-same : (most : ℕ) (ws vs : List (Option Value)) → SameUpTo most ws vs → (fs : List (Option ℕ)) → Each fs (NamesUpTo most)
    → map (renamed (future_at ws)) fs ≡ map (renamed (future_at vs)) fs
futures-same most ws vs h [] names = refl
futures-same most ws vs h (None ∷ fs) names = ap (λ gs. None ∷ gs) (futures-same most ws vs h fs (λ at f e. names (suc at) f e))
futures-same most ws vs h (Some t ∷ fs) names =
    let first : future_at ws t ≡ future_at vs t = h t (names zero (Some t) refl) in
    let more = futures-same most ws vs h fs (λ at f e. names (suc at) f e) in
    λ i. first i ∷ more i

-- a frame has the same place by the same worths
pub frame-same : (most : ℕ) (ws vs : List (Option Value)) → SameUpTo most ws vs → (q : FrameOf ℕ) → Each q.futures (NamesUpTo most) → place_in ws q ≡ place_in vs q
frame-same most ws vs h q names =
    let futures = futures-same most ws vs h q.futures names in
    λ i. record { kind = q.kind; state = q.state; at = q.at; numbers = q.numbers; futures = futures i }

-- a call passes the same values by the same worths
pub call-same : (most : ℕ) (ws vs : List (Option Value)) → SameUpTo most ws vs → (call : CallOf ℕ) → Each call.futures (NamesUpTo most)
    → call_with (future_at ws) call ≡ call_with (future_at vs) call
call-same most ws vs h call names =
    let futures = futures-same most ws vs h call.futures names in
    λ i. record { kind = call.kind; numbers = call.numbers; futures = futures i }

-- a task that is waited for has the same worth
pub behind-same : (most : ℕ) (ws vs : List (Option Value)) → SameUpTo most ws vs → (waits : Option ℕ) → NamesUpTo most waits → (m : Meant)
    → behind waits ws m ≡ behind waits vs m
behind-same most ws vs h None names m = refl
behind-same most ws vs h (Some t) names m = ap (λ (o : Option Value). with_value o (λ v. m)) (h t names)

-- tasks that are waited for have the same worths
pub behind_all-same : (most : ℕ) (ws vs : List (Option Value)) → SameUpTo most ws vs → (members : List ℕ) → Each members (λ t. t ≤ most) → (m : Meant)
    → behind_all members ws m ≡ behind_all members vs m
behind_all-same most ws vs h [] names m = refl
behind_all-same most ws vs h (t ∷ more) names m =
    ap (λ (o : Option Value). with_value o (λ v. behind_all more ws m)) (h t (names zero t refl))
    ∙ ap (behind (Some t) vs) (behind_all-same most ws vs h more (λ at u e. names (suc at) u e) m)

abbrev NamesIn : ℕ → Accepted → Type 0
NamesIn most (OfCall call waits) = Each call.futures (NamesUpTo most) × NamesUpTo most waits
NamesIn most (OfAll members) = Each members (λ t. t ≤ most)
NamesIn most (Respawn task waits) = Unit {0}

worth-same : (p : Program) (c : Columns) (n most : ℕ) (ws vs : List (Option Value)) → SameUpTo most ws vs → (a : Accepted) → NamesIn most a
    → worth_of p c n ws a ≡ worth_of p c n vs a
worth-same p c n most ws vs h (OfCall call waits) names =
    ap (λ (k : CallOf Value). (behind waits ws (mean p c n k)).value) (call-same most ws vs h call names.0)
    ∙ ap (λ (m : Meant). m.value) (behind-same most ws vs h waits names.1 (mean p c n (call_with (future_at vs) call)))
worth-same p c n most ws vs h (OfAll members) names = ap (λ (m : Meant). m.value) (behind_all-same most ws vs h members names (gives (Number 0)))
worth-same p c n most ws vs h (Respawn task waits) names = refl

-- the worth at a place, by the worths of all
from-at : (p : Program) (c : Columns) (n : ℕ) (accepted : List Accepted) (at : ℕ) (a : Accepted) (earlier : List (Option Value)) (most : ℕ)
    → slice_get accepted at ≡ Some a → suc most ≡ length earlier + at → NamesIn most a
    → future_at (worths_from p c n earlier accepted) (suc most) ≡ worth_of p c n (worths_from p c n earlier accepted) a
from-at p c n [] at a earlier most e l names = absurd (cc e)
from-at p c n (b ∷ accepted) zero a earlier most e l names =
    let w : Option Value = worth_of p c n earlier b in
    let longer : length (earlier ++ w ∷ []) ≡ suc (length earlier) = length-snoc earlier w in
    let end : suc most ≡ length earlier = omega (arith, l) in
    let same : b ≡ a = cc e in
    from-earlier p c n (earlier ++ w ∷ []) accepted (suc most) (omega (arith, longer, l))
    ∙ ap (future_at (earlier ++ w ∷ [])) end
    ∙ future_at-last earlier w
    ∙ ap (worth_of p c n earlier) same
    ∙ worth-same p c n most earlier (worths_from p c n earlier (b ∷ accepted))
    (λ t h. sym (from-earlier p c n earlier (b ∷ accepted) t (omega (arith, h, end)))) a names
from-at p c n (b ∷ accepted) (suc at) a earlier most e l names =
    let w : Option Value = worth_of p c n earlier b in
    let longer : length (earlier ++ w ∷ []) ≡ suc (length earlier) = length-snoc earlier w in
    from-at p c n accepted at a (earlier ++ w ∷ []) most e (omega (arith, longer, l)) names

-- a call that names earlier tasks is worth what it means by all worths
pub call-worth : (p : Program) (c : Columns) (n : ℕ) (accepted : List Accepted) (at : ℕ) (call : CallOf ℕ) (waits : Option ℕ)
    → slice_get accepted at ≡ Some (OfCall call waits) → Each call.futures (NamesUpTo at) → NamesUpTo at waits
    → future_at (worths p c n accepted) (suc at) ≡ (behind waits (worths p c n accepted) (mean p c n (call_with (future_at (worths p c n accepted)) call))).value
call-worth p c n accepted at call waits e names waited = from-at p c n accepted at (OfCall call waits) (None ∷ []) at e (omega arith) (names, waited)

-- an aggregate of earlier tasks is worth what it means by all worths
pub aggregate-worth : (p : Program) (c : Columns) (n : ℕ) (accepted : List Accepted) (at : ℕ) (members : List ℕ)
    → slice_get accepted at ≡ Some (OfAll members) → Each members (λ t. t ≤ at)
    → future_at (worths p c n accepted) (suc at) ≡ (behind_all members (worths p c n accepted) (gives (Number 0))).value
aggregate-worth p c n accepted at members e names = from-at p c n accepted at (OfAll members) (None ∷ []) at e (omega arith) names

behind-value : (waits : Option ℕ) (ws : List (Option Value)) (m more : Meant) → m.value ≡ more.value → (behind waits ws m).value ≡ (behind waits ws more).value
behind-value None ws m more e = e
behind-value (Some t) ws m more e = go (future_at ws t)
  where
    go : (o : Option Value) → (with_value o (λ v. m)).value ≡ (with_value o (λ v. more)).value
    go None = refl
    go (Some v) = e

-- the first frame of a call gives the call's worth
pub first_frame-value : (p : Program) (c : Columns) (n : ℕ) (accepted : List Accepted) (at : ℕ) (call : CallOf ℕ) (waits : Option ℕ)
    → slice_get accepted at ≡ Some (OfCall call waits) → Each call.futures (NamesUpTo at) → NamesUpTo at waits
    → (rest_of p c n accepted waits (entry p call)).value ≡ future_at (worths p c n accepted) (suc at)
first_frame-value p c n accepted at call waits e names waited =
    let ws : List (Option Value) = worths p c n accepted in
    behind-value waits ws (rest p c n (place_in ws (entry p call))) (mean p c n (call_with (future_at ws) call))
    (ap (λ (q : Place). (rest p c n q).value) (entry-renamed (future_at ws) p call))
    ∙ sym (call-worth p c n accepted at call waits e names waited)

-- later calls change nothing of what follows from a frame
pub later-rest : (p : Program) (c : Columns) (n : ℕ) (accepted more : List Accepted) (waits : Option ℕ) (q : FrameOf ℕ)
    → Each q.futures (NamesUpTo (length accepted)) → NamesUpTo (length accepted) waits
    → rest_of p c n (accepted ++ more) waits q ≡ rest_of p c n accepted waits q
later-rest p c n accepted more waits q names waited =
    let ws : List (Option Value) = worths p c n (accepted ++ more) in
    let vs : List (Option Value) = worths p c n accepted in
    let same : SameUpTo (length accepted) ws vs = later-worths p c n accepted more in
    behind-same (length accepted) ws vs same waits waited (rest p c n (place_in ws q))
    ∙ ap (λ (x : Place). behind waits vs (rest p c n x)) (frame-same (length accepted) ws vs same q names)

-- a frame acts as the place of it does
pub acts-in : (p : Program) (c : Columns) (ws : List (Option Value)) (q : FrameOf ℕ) (act : Act ℕ) → ActsAt p c q act → ActsAt p c (place_in ws q) (act_with (future_at ws) act)
acts-in p c ws q act (line, e, a) = (line, e, act-renamed (future_at ws) c line.instr q ∙ ap (act_with (future_at ws)) a)

-- after a step the same follows
pub steps-rest : (p : Program) (c : Columns) (n : ℕ) → AllJumpAhead p → (ws : List (Option Value)) (q next : FrameOf ℕ) → ActsAt p c q (Steps next)
    → rest p c n (place_in ws q) ≡ rest p c n (place_in ws next)
steps-rest p c zero ahead ws q next at = refl
steps-rest p c (suc n) ahead ws q next at = rest-acts p c n (place_in ws q) (Steps (place_in ws next)) ahead (acts-in p c ws q (Steps next) at)
