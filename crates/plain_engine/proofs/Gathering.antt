-- What an aggregate wants.
use Rattle.std.proofs.Common.{◌≡◌, ℕ, zero, suc, ◌+◌, ◌<◌, ◌≤◌, ◌^◌, Option, Some, None, List, [], ◌∷◌, length, map, slice_get, refl, sym, ◌∙◌, ap, subst, arith}
use Rattle.std.proofs.lemmas.Option.{none-some, slice_get_within}
use Rattle.task_syntax.specs.Places.{Each}
use Rattle.task_syntax.specs.declared.program.Program.{Program}
use Rattle.task_syntax.specs.declared.columns.Columns.{Columns}
use Rattle.frame_code.specs.Words.{BodyOf, OfKind, OfMembers, body_of}
use Rattle.frame_code.specs.Names.{present, names_of}
use Rattle.frame_code.specs.Setting.{unit_of}
use Rattle.frame_code.specs.Units.{units_of}
use Rattle.frame_code.specs.Members.{member_act}
use Rattle.frame_code.specs.declared.act.AllRequest.{AllRequest}
use Rattle.frame_code.specs.declared.act.Act.TheVariants as act
use Rattle.plain_state.specs.Engine.{EngineState}
use Rattle.plain_state.specs.Laws.{AsksFor, Wanted, Wants, AllWants, unit_in_if}
use Rattle.record_core.specs.EndSound.{members_class}
use Rattle.plain_engine.specs.Asking.{IsKnown}
use Rattle.plain_engine.specs.Ending.{Moment}
use Rattle.plain_engine.specs.Going.{AsksAt, AsksNewAt, MayCarryOut, wanted}
use Rattle.plain_engine.proofs.StepLaws.{names_are_known}
use Rattle.plain_engine.proofs.RunningFacts.{members_are_named}
use Rattle.plain_engine.proofs.CarriedOut.{fits_asks}
use Rattle.plain_engine.proofs.Respawning.{among_futures, known_if}

each_later : {A : Type 0} (P : A → Type 0) (x : A) (xs : List A) → Each (x ∷ xs) P → Each xs P
each_later P x xs all at y there = all (suc at) y there

-- where each has something, all of it is there
pub present_all : (f : ℕ → Option ℕ) (xs : List ℕ) → Each xs (λ x. (u : ℕ) × (f x ≡ Some u)) → map (λ (u : ℕ). Some u) (present (map f xs)) ≡ map f xs
present_all f [] all = refl
present_all f (x ∷ xs) all =
    let first = all 0 x refl in
    subst (λ (o : Option ℕ). map (λ (u : ℕ). Some u) (present (o ∷ map f xs)) ≡ (o ∷ map f xs)) (sym first.1)
    (ap (λ (ys : List (Option ℕ)). Some first.0 ∷ ys) (present_all f xs (each_later (λ y. (u : ℕ) × (f y ≡ Some u)) x xs all)))

pub present_length : (f : ℕ → Option ℕ) (xs : List ℕ) → Each xs (λ x. (u : ℕ) × (f x ≡ Some u)) → length (present (map f xs)) ≡ length xs
present_length f [] all = refl
present_length f (x ∷ xs) all =
    let first = all 0 x refl in
    subst (λ (o : Option ℕ). length (present (o ∷ map f xs)) ≡ suc (length xs)) (sym first.1)
    (ap (λ (n : ℕ). suc n) (present_length f xs (each_later (λ y. (u : ℕ) × (f y ≡ Some u)) x xs all)))

no_all : (o : Option ℕ) (next : ℕ) (request : AllRequest) → member_act o next ≡ act.All request → ⊥
no_all None next request e = cc
no_all (Some member) next request e = cc

pub all_wants : (p : Program) (c : Columns) (body : BodyOf ℕ) (request : AllRequest) (w : Wanted) → AsksFor p c body (act.All request)
    → Each request.members (λ x. (u : ℕ) × (unit_of body x ≡ Some u)) → AllWants (units_of body request.members) request w → Wants p c body w
all_wants p c (OfKind q) request w asks named is =
    Wants.by_all q request (units_of (OfKind q) request.members) w asks (present_all (unit_of (OfKind q)) request.members named) is
all_wants p c (OfMembers members next) request w asks named is = absurd (no_all (slice_get members next) next request asks)

-- what holds of each that is named holds of all that are there
present_each : (P : ℕ → Type 0) (f : ℕ → Option ℕ) (xs : List ℕ) → ((x u : ℕ) → f x ≡ Some u → P u) → Each (present (map f xs)) P
present_each P f [] each at u there = absurd (none-some u there)
present_each P f (x ∷ xs) each at u there = by (f x) refl (present_each P f xs each) at u there
  where
    by : (o : Option ℕ) → f x ≡ o → Each (present (map f xs)) P → Each (present (o ∷ map f xs)) P
    by None e rest at v there = rest at v there
    by (Some u) e rest zero v there = let s : u ≡ v = cc in subst P s (each x u e)
    by (Some u) e rest (suc at) v there = rest at v there

among_names : (body : BodyOf ℕ) (x u : ℕ) → unit_of body x ≡ Some u → (at : ℕ) × (slice_get (names_of body) at ≡ Some u)
among_names (OfKind q) x u e = among_futures q.futures x u e
among_names (OfMembers members next) x u e = absurd (none-some u e)

module _ (p : Program) (e : EngineState) (unit : ℕ) (words : List ℕ) (request : AllRequest) (members : List ℕ) (same : members ≡ units_of
    (body_of p words) request.members) where
  module _ (may : MayCarryOut p e unit words (act.All request)) where
    long : length members ≡ length request.members
    long = ap length same ∙ present_length (unit_of (body_of p words)) request.members
        (members_are_named p may.moment.columns may.moment.plan e may.moment.run unit words request may.at.may may.at.runs may.at.asks)

    pub some_members : 1 ≤ length members
    some_members = let fits = fits_asks p e unit words (act.All request) may in omega (arith, long, fits.1)

    pub few_members : length members ≤ 8
    few_members = let fits = fits_asks p e unit words (act.All request) may in omega (arith, long, fits.2)

    all_known : Each members (λ u. IsKnown e (Some u))
    all_known = subst (λ (ms : List ℕ). Each ms (λ u. IsKnown e (Some u))) (sym same)
        (present_each (λ u. IsKnown e (Some u)) (unit_of (body_of p words)) request.members (λ x u named.
        let a = among_names (body_of p words) x u named in
        names_are_known p may.moment.columns may.moment.plan e may.moment.run unit words may.at.may may.at.runs a.0 u a.1))

    pub first_known : IsKnown e (slice_get members 0)
    first_known = known_if e members all_known (slice_get members 0) (λ u there. (0, there))

    pub small_members : length e.store.records ≤ 524288 → Each members (λ u. u + 1 < 2 ^ 64)
    small_members few at u there =
        let known = all_known at u there in
        let within = slice_get_within e.store.records u known.0 known.1 in
        omega (arith, few, within)

  -- the aggregate is what is asked for
  pub asks_all : (class : ℕ) (after : Option ℕ) (first : List ℕ) (m : Moment) → AsksAt p e unit words (act.All request) m → class ≡ members_class
      (length members)
      → after ≡ slice_get members 0 → body_of p first ≡ OfMembers members 1
      → AsksNewAt p e unit words (wanted p class after request.priority request.retry request.to first) m
  asks_all class after first m at is_class is_after is_first = record {
    may = at.may;
    runs = at.runs;
    wants = all_wants p m.columns (body_of p words) request (wanted p class after request.priority request.retry request.to first) at.asks
        (members_are_named p m.columns m.plan e m.run unit words request at.may at.runs at.asks)
        (subst (λ (ms : List ℕ). AllWants ms request (wanted p class after request.priority request.retry request.to first)) same
        (record { class = is_class; after = is_after; priority = refl; retry = refl; to = refl; first = is_first }));
  }

-- what a variable names, if any, is known
pub variable_known : (e : EngineState) (body : BodyOf ℕ) (x : Option ℕ) → Each (names_of body) (λ u. IsKnown e (Some u)) → IsKnown e (unit_in_if body x)
variable_known e body None all = tt
variable_known e body (Some x) all = known_if e (names_of body) all (unit_of body x) (λ u named. among_names body x u named)
