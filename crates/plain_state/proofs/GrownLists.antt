-- What is read of lists by number stays, once they have one more member at the end.
use Rattle.std.proofs.Common.{◌≡◌, ℕ, zero, suc, ◌≤◌, Bool, true, false, cond, nat_eq, Option, Some, None, List, [], ◌∷◌, ◌++◌, map, slice_get, refl}
use Rattle.std.proofs.Common.{◌∙◌, ap, arith}
use Rattle.std.specs.List.{filter_map, cons_option}
use Rattle.std.specs.Option.{option_map}
use Rattle.std.proofs.lemmas.Bool.{eqb-true}
use Rattle.std.proofs.lemmas.Option.{none-some}
use Rattle.task_meaning.specs.Frame.{renamed}
use Rattle.pool_core.specs.Blocks.{BlockState}
use Rattle.frame_code.specs.Words.{OfKind, OfMembers}
use Rattle.frame_code.specs.Names.{present, names_of, body_with}
use Rattle.record_core.specs.Numbers.{by_number}
use Rattle.record_core.specs.declared.rows.ActivationRow.{ActivationRow}
use Rattle.run_model.specs.State.{Body, RootWord, Named, Refused, Skipped}
use Rattle.run_model.proofs.ByNumber.{snoc_old, found_old}
use Rattle.plain_state.specs.declared.record.RootState.{RootState}
use Rattle.plain_state.specs.declared.record.RootState.TheVariants as root
use Rattle.plain_state.specs.Sees.{unit_of, unit_of_row, times, frame_or, root_state}
use Rattle.plain_state.proofs.Units.{unit_block, unit_from}
use Rattle.plain_state.proofs.References.{times_itself}

-- lists that are equal have equal heads
pub cons_head : {A : Type 0} {x y : A} {xs ys : List A} → (x ∷ xs) ≡ (y ∷ ys) → x ≡ y
cons_head e = cc

-- and equal tails
pub cons_tail : {A : Type 0} {x y : A} {xs ys : List A} → (x ∷ xs) ≡ (y ∷ ys) → xs ≡ ys
cons_tail e = cc

-- where each member keeps its image, the list of images stays
pub map_grows : {A B : Type 0} (f g : A → Option B) (xs : List A) (ys : List B) → ((x : A) (y : B) → f x ≡ Some y → g x ≡ Some y)
    → map f xs ≡ map (λ y. Some y) ys → map g xs ≡ map (λ y. Some y) ys
map_grows f g [] [] keeps e = refl
map_grows f g [] (y ∷ ys) keeps e = absurd (cc e)
map_grows f g (x ∷ xs) [] keeps e = absurd (cc e)
map_grows {A} {B} f g (x ∷ xs) (y ∷ ys) keeps e =
    let first : f x ≡ Some y = cons_head e in
    let rest : map f xs ≡ map (λ z. Some z) ys = cons_tail e in
    ap (λ o. o ∷ map g xs) (keeps x y first) ∙ ap (λ os. Some y ∷ os) (map_grows f g xs ys keeps rest)

-- a body under other names, which name its tasks alike
renamed_same : (f g : ℕ → Option ℕ) (futures : List (Option ℕ)) → ((u : ℕ) → 1 ≤ times u (present futures) → f u ≡ g u)
    → map (renamed f) futures ≡ map (renamed g) futures
renamed_same f g [] same = refl
renamed_same f g (None ∷ futures) same = ap (λ os. None ∷ os) (renamed_same f g futures same)
renamed_same f g (Some t ∷ futures) same =
    ap (λ o. o ∷ map (renamed f) futures) (same t (omega (arith, times_itself t)))
    ∙ ap (λ os. g t ∷ os) (renamed_same f g futures (λ u some. same u (omega (arith, some))))

-- members under other names, alike
members_same : (f g : ℕ → Option ℕ) (members : List ℕ) → ((u : ℕ) → 1 ≤ times u members → f u ≡ g u) → filter_map f members ≡ filter_map g members
members_same f g [] same = refl
members_same f g (t ∷ members) same =
    ap (λ o. cons_option o (filter_map f members)) (same t (omega (arith, times_itself t)))
    ∙ ap (cons_option (g t)) (members_same f g members (λ u some. same u (omega (arith, some))))

-- a body under other names, alike
pub body_same : (f g : ℕ → Option ℕ) (body : Body) → ((u : ℕ) → 1 ≤ times u (names_of body) → f u ≡ g u) → body_with f body ≡ body_with g body
body_same f g (OfKind q) same = ap (λ futures. OfKind (record { kind = q.kind; state = q.state; at = q.at; numbers = q.numbers; futures = futures }))
    (renamed_same f g q.futures same)
body_same f g (OfMembers members next) same = ap (λ ms. OfMembers ms next) (members_same f g members same)

-- units of tasks and of activations
pub unit_grows : (blocks : List (Option BlockState)) (o : Option BlockState) (t unit : ℕ) → unit_of blocks t ≡ Some unit
    → unit_of (blocks ++ o ∷ []) t ≡ Some unit
unit_grows blocks o t unit e =
    let (block, has, first) = unit_block blocks t unit e in
    unit_from (blocks ++ o ∷ []) t block (found_old blocks o t block has) ∙ ap Some first

-- the unit of an activation stays
pub number_grows : (rows : List ActivationRow) (blocks : List (Option BlockState)) (row : ActivationRow) (o : Option BlockState) (n unit : ℕ)
    → unit_of_row blocks (by_number rows n) ≡ Some unit
    → unit_of_row (blocks ++ o ∷ []) (by_number (rows ++ row ∷ []) n) ≡ Some unit
number_grows rows blocks row o n unit e = by (by_number rows n) refl e
  where
    by : (was : Option ActivationRow) → by_number rows n ≡ was → unit_of_row blocks was ≡ Some unit
        → unit_of_row (blocks ++ o ∷ []) (by_number (rows ++ row ∷ []) n) ≡ Some unit
    by None there f = absurd (none-some unit f)
    by (Some was) there f = ap (unit_of_row (blocks ++ o ∷ [])) (snoc_old rows row n was there) ∙ unit_grows blocks o was.task unit f

-- whose frame is with the engine
pub not_own : (own : Option (ℕ × List ℕ)) (t : ℕ) (words : List ℕ) → ((ws : List ℕ) → own ≡ Some (t, ws) → ⊥) → frame_or own t words ≡ words
not_own None t words other = refl
not_own (Some (u, ws)) t words other = by (nat_eq u t) refl
  where
    by : (b : Bool) → nat_eq u t ≡ b → cond b ws words ≡ words
    by true e = absurd (other ws (ap (λ k. Some (k, ws)) (eqb-true u t e)))
    by false e = refl

-- what is not at least one is none
pub none_if : (n : ℕ) → ((1 ≤ n) → ⊥) → n ≡ 0
none_if zero not = refl
none_if (suc n) not = absurd (not (omega arith))

-- an image in the list of images has its member
pub map_member : {A B : Type 0} (f : A → Option B) (xs : List A) (ys : List B) → map f xs ≡ map (λ y. Some y) ys → (place : ℕ) (y : B)
    → slice_get ys place ≡ Some y → (x : A) × (slice_get xs place ≡ Some x) × (f x ≡ Some y)
map_member f [] [] e place y there = absurd (none-some y there)
map_member f [] (z ∷ ys) e place y there = absurd (cc e)
map_member f (x ∷ xs) [] e place y there = absurd (none-some y there)
map_member {A} {B} f (x ∷ xs) (z ∷ ys) e zero y there = (x, refl, cons_head e ∙ there)
map_member {A} {B} f (x ∷ xs) (z ∷ ys) e (suc place) y there = map_member f xs ys (cons_tail e) place y there

-- what became of a root is seen alike
pub root_grows : (blocks : List (Option BlockState)) (o : Option BlockState) (word : RootWord) (state : RootState)
    → root_state blocks word ≡ Some state → root_state (blocks ++ o ∷ []) word ≡ Some state
root_grows blocks o (Named t) state e = by (unit_of blocks t) refl e
  where
    by : (unit : Option ℕ) → unit_of blocks t ≡ unit → option_map root.Named unit ≡ Some state
        → option_map root.Named (unit_of (blocks ++ o ∷ []) t) ≡ Some state
    by None at f = absurd (none-some state f)
    by (Some unit) at f = ap (option_map root.Named) (unit_grows blocks o t unit at) ∙ f
root_grows blocks o (Refused tag) state e = e
root_grows blocks o (Skipped at tag) state e = e
