-- What a spawn passes, argument by argument.
use Rattle.std.proofs.Common.{◌≡◌, ℕ, zero, suc, ◌+◌, ◌<◌, ◌≤◌, Bool, true, false, Some, None, List, [], ◌∷◌, ◌++◌, length, map, take, drop, slice_get, slice_index, slice_index_or, refl, sym, ◌∙◌, ap, subst, arith}
use Rattle.std.specs.Option.{option_map}
use Rattle.std.proofs.lemmas.List.{map-append, take_all}
use Rattle.std.proofs.lemmas.Option.{slice_get-map, slice_get-get_or, get_or_from_slice_get}
use Rattle.task_syntax.proofs.Differ.{get-map}
use Rattle.task_syntax.specs.Valid.{sort_of}
use Rattle.task_syntax.specs.declared.instr.Argument.{Argument}
use Rattle.task_syntax.specs.declared.instr.Argument.TheVariants as argument
use Rattle.task_syntax.specs.declared.program.Sort.{Sort}
use Rattle.task_syntax.specs.declared.program.Sort.TheVariants as sort
use Rattle.task_syntax.specs.declared.program.Variable.{Variable}
use Rattle.task_syntax.specs.declared.program.Kind.{Kind}
use Rattle.task_syntax.specs.declared.program.Program.{Program}
use Rattle.task_meaning.specs.Meant.{future_at}
use Rattle.task_meaning.specs.Frame.{FrameOf, number_passed, future_passed}
use Rattle.frame_code.specs.Control.{control_kind, is_aggregate}
use Rattle.frame_code.specs.Words.{BodyOf, OfKind, OfMembers, variables_at, one_if_future, number_count, future_if, futures_from, body_of}
use Rattle.frame_code.specs.Stops.{numbers_passed, variables_passed}
use Rattle.frame_code.specs.Setting.{BodyHasSort, HasSort, unit_of, unit_in}
use Rattle.frame_code.specs.Units.{NamesUnit}
use Rattle.frame_code.specs.Entries.{sort_of_passed, number_of, future_of, Requests, BodyMaySpawn, MaySpawn, BodyPasses, Passes, AgreesWith}
use Rattle.frame_code.specs.declared.act.SpawnRequest.{SpawnRequest}
use Rattle.frame_code.specs.declared.entries.Passed.{Passed}
use Rattle.frame_code.specs.declared.entries.Passed.TheVariants.{Number, Future}
use Rattle.frame_code.proofs.HeldActs.{item-within}
use Rattle.frame_code.proofs.Variables.{IsSort}
use Rattle.frame_code.proofs.Aggregates.{body-of_task, body-of_members}

-- a variable that names something is a future
named-is_future : (w : ℕ → ℕ) (place : ℕ) (vs : List Variable) (x unit : ℕ) → future_at (futures_from w place vs) x ≡ Some unit → IsSort vs x sort.Future
named-is_future w place [] x unit e = cc
named-is_future w place (v ∷ vs) zero unit e = ap Some (by v.sort e)
  where
    by : (s : Sort) → future_if s (w place) ≡ Some unit → s ≡ sort.Future
    by sort.Number e = cc
    by sort.Future e = refl
named-is_future w place (v ∷ vs) (suc x) unit e = named-is_future w (place + one_if_future v.sort) vs x unit e

-- a variable of a frame that names a unit is a future
pub names-sort : (p : Program) (words : List ℕ) (x : ℕ) → NamesUnit p words x → HasSort p sort.Future x words
names-sort p words x named = by (is_aggregate (slice_index words 0)) refl
  where
    by : (b : Bool) → is_aggregate (slice_index words 0) ≡ b → HasSort p sort.Future x words
    by true e = let g : None ≡ Some named.0 = sym (ap (λ b. unit_of b x) (body-of_members p words e)) ∙ named.1 in cc
    by false e =
        let vs : List Variable = variables_at p (control_kind (slice_index words 0)) in
        let g : future_at (futures_from (slice_index words) (1 + number_count vs) vs) x ≡ Some named.0 = sym (ap (λ b. unit_of b x) (body-of_task p words e)) ∙ named.1 in
        subst (BodyHasSort p sort.Future x) (sym (body-of_task p words e)) (named-is_future (slice_index words) (1 + number_count vs) vs x named.0 g)

-- where something is left of a list, its first is at that place
drop-first : {A : Type 0} (xs : List A) (n : ℕ) (y : A) (ys : List A) → drop n xs ≡ y ∷ ys → (n < length xs) × (slice_get xs n ≡ Some y) × (drop (suc n) xs ≡ ys)
drop-first [] zero y ys e = cc
drop-first [] (suc n) y ys e = cc
drop-first (x ∷ xs) zero y ys e = let a : x ≡ y = cc in let b : xs ≡ ys = cc in (omega arith, ap Some a, b)
drop-first (x ∷ xs) (suc n) y ys e = let h = drop-first xs n y ys e in (omega (arith, h.0), h.1, h.2)

drop-there : {A : Type 0} (xs : List A) (n : ℕ) (y : A) → slice_get xs n ≡ Some y → drop n xs ≡ y ∷ drop (suc n) xs
drop-there [] n y e = cc
drop-there (x ∷ xs) zero y e = let a : x ≡ y = cc in ap (λ z. z ∷ xs) a
drop-there (x ∷ xs) (suc n) y e = drop-there xs n y e

map-more : {A B : Type 0} (f : A → B) (xs : List A) (n : ℕ) (y : A) → slice_get xs n ≡ Some y → map f (take (suc n) xs) ≡ map f (take n xs) ++ f y ∷ []
map-more f [] n y e = cc
map-more f (x ∷ xs) zero y e = let a : x ≡ y = cc in ap (λ z. f z ∷ []) a
map-more f (x ∷ xs) (suc n) y e = ap (λ zs. f x ∷ zs) (map-more f xs n y e)

-- so many arguments were passed; what is left of the request comes of the others
pub record IsPassedUpTo (q : FrameOf ℕ) (request : SpawnRequest) (arguments : List Argument) (at : ℕ) (passed : List Passed) (next_number next_future : ℕ) : Type 0 where
  pub numbers_left : drop next_number request.numbers ≡ numbers_passed q.numbers (drop at arguments)
  pub futures_left : drop next_future request.futures ≡ variables_passed (drop at arguments)
  pub numbers : map number_of passed ≡ map (number_passed q.numbers) (take at arguments)
  pub futures : map future_of passed ≡ map (future_passed q.futures) (take at arguments)
  pub sorts : map sort_of_passed passed ≡ map sort_of (take at arguments)

-- the same, whatever the arguments are of which the request comes
abbrev pub ArePassedUpTo : Program → SpawnRequest → List ℕ → ℕ → List Passed → ℕ → ℕ → Type 0
ArePassedUpTo p request words at passed number future = (q : FrameOf ℕ) (arguments : List Argument) → body_of p words ≡ OfKind q → Requests p q request arguments
    → IsPassedUpTo q request arguments at passed number future

-- at first nothing was passed
pub passed-none_yet : (p : Program) (request : SpawnRequest) (words : List ℕ) → ArePassedUpTo p request words 0 [] 0 0
passed-none_yet p request words q arguments is so = record {
  numbers_left = sym so.numbers;
  futures_left = sym so.futures;
  numbers = refl;
  futures = refl;
  sorts = refl;
}

-- a frame that may spawn is a task's, and some arguments fit the request
pub may-spawn : (p : Program) (request : SpawnRequest) (words : List ℕ) → MaySpawn p request words
    → (q : FrameOf ℕ) × (arguments : List Argument) × (body_of p words ≡ OfKind q) × Requests p q request arguments
may-spawn p request words may = by (body_of p words) refl may
  where
    by : (b : BodyOf ℕ) → body_of p words ≡ b → BodyMaySpawn p request b → (q : FrameOf ℕ) × (arguments : List Argument) × (body_of p words ≡ OfKind q) × Requests p q request arguments
    by (OfKind q) e h = (q, h.0, e, h.1)
    by (OfMembers members next) e h = absurd h

module _ (p : Program) (request : SpawnRequest) (words : List ℕ) (kind : Kind) (is_kind : slice_get p.kinds request.kind ≡ Some kind) (at : ℕ) (v : Variable)
    (is_variable : slice_get kind.variables at ≡ Some v) (within : at < kind.arguments)
  where
    -- the argument at the place
    next-argument : (q : FrameOf ℕ) (arguments : List Argument) → Requests p q request arguments → (a : Argument) × (slice_get arguments at ≡ Some a) × (v.sort ≡ sort_of a)
    next-argument q arguments so =
        let agrees = so.agrees kind is_kind in
        let a = item-within arguments at (omega (arith, within, agrees.0)) in
        (a.0, a.1, agrees.1 at a.0 v a.1 is_variable)

    module _ (q : FrameOf ℕ) (arguments : List Argument) (so : Requests p q request arguments) (passed : List Passed) (number future : ℕ)
        (up : IsPassedUpTo q request arguments at passed number future)
      where
        number-there : v.sort ≡ sort.Number → (a : Argument) × (slice_get arguments at ≡ Some a) × (sort_of a ≡ sort.Number) × (future_passed q.futures a ≡ None)
            × (drop number request.numbers ≡ number_passed q.numbers a ∷ numbers_passed q.numbers (drop (suc at) arguments))
            × (drop future request.futures ≡ variables_passed (drop (suc at) arguments))
        number-there s =
            let next = next-argument q arguments so in
            by next.0 next.1 (sym next.2 ∙ s) (drop-there arguments at next.0 next.1)
          where
            by : (a : Argument) → slice_get arguments at ≡ Some a → sort_of a ≡ sort.Number → drop at arguments ≡ a ∷ drop (suc at) arguments
                → (a : Argument) × (slice_get arguments at ≡ Some a) × (sort_of a ≡ sort.Number) × (future_passed q.futures a ≡ None)
                × (drop number request.numbers ≡ number_passed q.numbers a ∷ numbers_passed q.numbers (drop (suc at) arguments))
                × (drop future request.futures ≡ variables_passed (drop (suc at) arguments))
            by (argument.Number a) is t e = (argument.Number a, is, t, refl, up.numbers_left ∙ ap (numbers_passed q.numbers) e, up.futures_left ∙ ap variables_passed e)
            by (argument.Future x) is t e = cc

        future-there : v.sort ≡ sort.Future → (x : ℕ) × (slice_get arguments at ≡ Some (argument.Future x))
            × (drop number request.numbers ≡ numbers_passed q.numbers (drop (suc at) arguments)) × (drop future request.futures ≡ x ∷ variables_passed (drop (suc at) arguments))
        future-there s =
            let next = next-argument q arguments so in
            by next.0 next.1 (sym next.2 ∙ s) (drop-there arguments at next.0 next.1)
          where
            by : (a : Argument) → slice_get arguments at ≡ Some a → sort_of a ≡ sort.Future → drop at arguments ≡ a ∷ drop (suc at) arguments
                → (x : ℕ) × (slice_get arguments at ≡ Some (argument.Future x))
                × (drop number request.numbers ≡ numbers_passed q.numbers (drop (suc at) arguments)) × (drop future request.futures ≡ x ∷ variables_passed (drop (suc at) arguments))
            by (argument.Number a) is t e = cc
            by (argument.Future x) is t e = (x, is, up.numbers_left ∙ ap (numbers_passed q.numbers) e, up.futures_left ∙ ap variables_passed e)

        -- the next number is one of the request
        pub next-number : v.sort ≡ sort.Number → number < length request.numbers
        next-number s = let (a, is, t, none, numbers, futures) = number-there s in (drop-first request.numbers number _ _ numbers).0

        -- the next future is one of the request
        pub next-future : v.sort ≡ sort.Future → future < length request.futures
        next-future s = let (x, is, numbers, futures) = future-there s in (drop-first request.futures future _ _ futures).0

        -- and names a unit
        pub next-named : v.sort ≡ sort.Future → body_of p words ≡ OfKind q → NamesUnit p words (slice_index request.futures future)
        next-named s is_q =
            let (x, is, numbers, futures) = future-there s in
            let first = drop-first request.futures future _ _ futures in
            let named = so.named future x (ap (λ (xs : List ℕ). slice_get xs future) so.futures ∙ first.1) in
            let read : slice_index request.futures future ≡ x = get_or_from_slice_get request.futures future x 0 first.1 in
            (named.0, ap (λ b. unit_of b (slice_index request.futures future)) is_q ∙ (ap (future_at q.futures) read ∙ named.1))

        -- a number was passed
        pub passed-number : v.sort ≡ sort.Number → IsPassedUpTo q request arguments (at + 1) (passed ++ Number (slice_index request.numbers number) ∷ []) (number + 1) future
        passed-number s =
            let (a, is, t, none, numbers, futures) = number-there s in
            let first = drop-first request.numbers number _ _ numbers in
            let read : slice_index request.numbers number ≡ number_passed q.numbers a = get_or_from_slice_get request.numbers number _ 0 first.1 in
            let last : suc at ≡ at + 1 = omega arith in
            let last_number : suc number ≡ number + 1 = omega arith in
            let new : List Passed = Number (slice_index request.numbers number) ∷ [] in
            subst (λ (k : ℕ). IsPassedUpTo q request arguments k (passed ++ new) (number + 1) future) last
            (subst (λ (k : ℕ). IsPassedUpTo q request arguments (suc at) (passed ++ new) k future) last_number (record {
              numbers_left = first.2;
              futures_left = futures;
              numbers = map-append number_of passed new ∙ (ap (λ (ns : List ℕ). ns ++ slice_index request.numbers number ∷ []) up.numbers
                  ∙ (ap (λ n. map (number_passed q.numbers) (take at arguments) ++ n ∷ []) read ∙ sym (map-more (number_passed q.numbers) arguments at a is)));
              futures = map-append future_of passed new ∙ (ap (λ fs. fs ++ None ∷ []) up.futures
                  ∙ (ap (λ f. map (future_passed q.futures) (take at arguments) ++ f ∷ []) (sym none) ∙ sym (map-more (future_passed q.futures) arguments at a is)));
              sorts = map-append sort_of_passed passed new ∙ (ap (λ ss. ss ++ sort.Number ∷ []) up.sorts
                  ∙ (ap (λ f. map sort_of (take at arguments) ++ f ∷ []) (sym t) ∙ sym (map-more sort_of arguments at a is)));
            }))

        -- a future was passed
        pub passed-future : (unit : ℕ) → v.sort ≡ sort.Future → body_of p words ≡ OfKind q → unit_in p words (slice_index request.futures future) ≡ Some unit
            → IsPassedUpTo q request arguments (at + 1) (passed ++ Future unit ∷ []) number (future + 1)
        passed-future unit s is_q named =
            let (x, is, numbers, futures) = future-there s in
            let first = drop-first request.futures future _ _ futures in
            let read : slice_index request.futures future ≡ x = get_or_from_slice_get request.futures future x 0 first.1 in
            let says : Some unit ≡ future_at q.futures x = sym named ∙ (ap (λ b. unit_of b (slice_index request.futures future)) is_q ∙ ap (future_at q.futures) read) in
            let last : suc at ≡ at + 1 = omega arith in
            let last_future : suc future ≡ future + 1 = omega arith in
            let new : List Passed = Future unit ∷ [] in
            subst (λ (k : ℕ). IsPassedUpTo q request arguments k (passed ++ new) number (future + 1)) last
            (subst (λ (k : ℕ). IsPassedUpTo q request arguments (suc at) (passed ++ new) number k) last_future (record {
              numbers_left = numbers;
              futures_left = first.2;
              numbers = map-append number_of passed new ∙ (ap (λ (ns : List ℕ). ns ++ 0 ∷ []) up.numbers ∙ sym (map-more (number_passed q.numbers) arguments at (argument.Future x) is));
              futures = map-append future_of passed new ∙ (ap (λ fs. fs ++ Some unit ∷ []) up.futures
                  ∙ (ap (λ f. map (future_passed q.futures) (take at arguments) ++ f ∷ []) says ∙ sym (map-more (future_passed q.futures) arguments at (argument.Future x) is)));
              sorts = map-append sort_of_passed passed new ∙ (ap (λ ss. ss ++ sort.Future ∷ []) up.sorts ∙ sym (map-more sort_of arguments at (argument.Future x) is));
            }))

-- after the last argument all is passed
pub all-passed : (p : Program) (request : SpawnRequest) (words : List ℕ) (kind : Kind) (at : ℕ) (passed : List Passed) (number future : ℕ)
    → slice_get p.kinds request.kind ≡ Some kind → kind.arguments ≤ at → MaySpawn p request words → ArePassedUpTo p request words at passed number future
    → Passes p request words passed
all-passed p request words kind at passed number future is_kind past may up = by (body_of p words) refl may
  where
    by : (b : BodyOf ℕ) → body_of p words ≡ b → BodyMaySpawn p request b → BodyPasses p request b passed
    by (OfKind q) e h = λ arguments so.
        let u = up q arguments e so in
        let whole : take at arguments ≡ arguments = take_all at arguments (omega (arith, past, (so.agrees kind is_kind).0)) in
        (u.numbers ∙ ap (map (number_passed q.numbers)) whole, u.futures ∙ ap (map (future_passed q.futures)) whole)
    by (OfMembers members next) e h = absurd h

length-map : {A B : Type 0} (f : A → B) (xs : List A) → length (map f xs) ≡ length xs
length-map f [] = refl
length-map f (x ∷ xs) = ap suc (length-map f xs)

-- and it agrees with the kind
pub all-agree : (p : Program) (request : SpawnRequest) (words : List ℕ) (kind : Kind) (at : ℕ) (passed : List Passed) (number future : ℕ)
    → slice_get p.kinds request.kind ≡ Some kind → kind.arguments ≤ at → MaySpawn p request words → ArePassedUpTo p request words at passed number future
    → AgreesWith p request.kind passed
all-agree p request words kind at passed number future is_kind past may up other is_other =
    let (q, arguments, is_q, so) = may-spawn p request words may in
    let u = up q arguments is_q so in
    let agrees = so.agrees other is_other in
    let whole : take at arguments ≡ arguments = take_all at arguments (omega (arith, past, (so.agrees kind is_kind).0)) in
    let sorts : map sort_of_passed passed ≡ map sort_of arguments = u.sorts ∙ ap (map sort_of) whole in (
      sym (length-map sort_of_passed passed) ∙ (ap length sorts ∙ (length-map sort_of arguments ∙ agrees.0)),
      λ place a v is_a is_v.
          let here : slice_get (map sort_of arguments) place ≡ Some (sort_of_passed a)
          = ap (λ ss. slice_get ss place) (sym sorts) ∙ (slice_get-map sort_of_passed passed place ∙ ap (option_map sort_of_passed) is_a) in
          let b = get-map sort_of arguments place (sort_of_passed a) here in
          agrees.1 place b.0 v b.1 is_v ∙ b.2,
    )

numbers-few : (numbers : List ℕ) (arguments : List Argument) → length (numbers_passed numbers arguments) ≤ length arguments
numbers-few numbers [] = omega arith
numbers-few numbers (argument.Number a ∷ more) = omega (arith, numbers-few numbers more)
numbers-few numbers (argument.Future x ∷ more) = omega (arith, numbers-few numbers more)

variables-few : (arguments : List Argument) → length (variables_passed arguments) ≤ length arguments
variables-few [] = omega arith
variables-few (argument.Number a ∷ more) = omega (arith, variables-few more)
variables-few (argument.Future x ∷ more) = omega (arith, variables-few more)

-- the same of what was passed, and of places that are the same
pub up-same : (p : Program) (request : SpawnRequest) (words : List ℕ) (at : ℕ) (passed passed' : List Passed) (n n' f f' : ℕ) → passed' ≡ passed → n' ≡ n → f' ≡ f
    → ArePassedUpTo p request words at passed n f → ArePassedUpTo p request words at passed' n' f'
up-same p request words at passed passed' n n' f f' a b e up = subst (λ ps. ArePassedUpTo p request words at ps n' f') (sym a)
    (subst (λ (k : ℕ). ArePassedUpTo p request words at passed k f') (sym b) (subst (λ (k : ℕ). ArePassedUpTo p request words at passed n k) (sym e) up))

pub length-more : (xs xs' : List Passed) (y : Passed) (n : ℕ) → xs' ≡ xs ++ y ∷ [] → length xs ≡ n → length xs' ≡ n + 1
length-more xs xs' y n e h = ap length e ∙ (by xs ∙ ap (λ (k : ℕ). k + 1) h)
  where
    by : (zs : List Passed) → length (zs ++ y ∷ []) ≡ length zs + 1
    by [] = refl
    by (z ∷ zs) = omega (arith, by zs)

module _ (p : Program) (request : SpawnRequest) (words : List ℕ) (may : MaySpawn p request words) (kind : Kind) (is_kind : slice_get p.kinds request.kind ≡ Some kind)
    (fit : kind.arguments ≤ 16) (are_variables : kind.arguments ≤ length kind.variables) (vs : List Variable) (same : vs ≡ kind.variables)
    (at : ℕ) (within : at < kind.arguments) (passed : List Passed) (number future : ℕ) (up : ArePassedUpTo p request words at passed number future)
  where
    variable-there : (d : Variable) → slice_get kind.variables at ≡ Some (slice_index_or vs at d)
    variable-there d = ap (λ (l : List Variable). slice_get l at) (sym same) ∙ slice_get-get_or vs at d (omega (arith, within, are_variables, ap length same))

    -- the next number is one of the few of the request
    pub number-room : (d : Variable) → (slice_index_or vs at d).sort ≡ sort.Number → (number < length request.numbers) × (number < 16)
    number-room d s =
        let (q, arguments, is_q, so) = may-spawn p request words may in
        let room = next-number p request words kind is_kind at (slice_index_or vs at d) (variable-there d) within q arguments so passed number future (up q arguments is_q so) s in
        (room, omega (arith, room, fit, (so.agrees kind is_kind).0, ap length so.numbers, numbers-few q.numbers arguments))

    -- the next future is one of the few of the request
    pub future-room : (d : Variable) → (slice_index_or vs at d).sort ≡ sort.Future → (future < length request.futures) × (future < 16)
    future-room d s =
        let (q, arguments, is_q, so) = may-spawn p request words may in
        let room = next-future p request words kind is_kind at (slice_index_or vs at d) (variable-there d) within q arguments so passed number future (up q arguments is_q so) s in
        (room, omega (arith, room, fit, (so.agrees kind is_kind).0, ap length so.futures, variables-few arguments))

    -- and names a unit
    pub future-named : (d : Variable) → (slice_index_or vs at d).sort ≡ sort.Future → NamesUnit p words (slice_index request.futures future)
    future-named d s =
        let (q, arguments, is_q, so) = may-spawn p request words may in
        next-named p request words kind is_kind at (slice_index_or vs at d) (variable-there d) within q arguments so passed number future (up q arguments is_q so) s is_q

    -- a number more was passed
    pub number-more : (d : Variable) → (slice_index_or vs at d).sort ≡ sort.Number
        → ArePassedUpTo p request words (at + 1) (passed ++ Number (slice_index request.numbers number) ∷ []) (number + 1) future
    number-more d s q arguments is_q so =
        passed-number p request words kind is_kind at (slice_index_or vs at d) (variable-there d) within q arguments so passed number future (up q arguments is_q so) s

    -- a future more was passed
    pub future-more : (d : Variable) (unit : ℕ) → (slice_index_or vs at d).sort ≡ sort.Future → unit_in p words (slice_index request.futures future) ≡ Some unit
        → ArePassedUpTo p request words (at + 1) (passed ++ Future unit ∷ []) number (future + 1)
    future-more d unit s named q arguments is_q so =
        passed-future p request words kind is_kind at (slice_index_or vs at d) (variable-there d) within q arguments so passed number future (up q arguments is_q so) unit s is_q named
