-- What the first body of a new task names, and how long its frame may be.
use Rattle.std.proofs.Common.{◌≡◌, ℕ, suc, ◌+◌, ◌*◌, ◌≤◌, Bool, true, false, cond, nat_le, Option, Some, None, List, [], ◌∷◌, length, map}
use Rattle.std.proofs.Common.{slice_index, refl, sym, ◌∙◌, ap, subst, ⊎_elim, arith}
use Rattle.std.specs.List.{filter_map, cons_option}
use Rattle.std.proofs.lemmas.Bool.{cases_eq, leb-true}
use Rattle.task_syntax.specs.declared.program.Program.{Program}
use Rattle.task_meaning.specs.Meant.{future_at}
use Rattle.task_meaning.specs.Frame.{FrameOf, renamed, variables_of}
use Rattle.kt_words.specs.Capacity.{block_units, class_for}
use Rattle.frame_code.specs.Control.{is_aggregate, control_kind, control_state}
use Rattle.frame_code.specs.Words.{BodyOf, OfKind, OfMembers, body_of, members_at}
use Rattle.frame_code.specs.Frames.{IsFrame}
use Rattle.frame_code.specs.Names.{present, names_of, body_with}
use Rattle.frame_code.proofs.ControlWords.{task-size, frame-members}
use Rattle.frame_code.proofs.Aggregates.{body-of_task, body-of_members, members-known}
use Rattle.record_core.specs.EndSound.{kind_class, members_class}
use Rattle.run_model.specs.State.{Body}
use Rattle.run_model.proofs.NumbersInvariant.{BodyNames}
use Rattle.plain_state.specs.Sees.{times}
use Rattle.plain_state.proofs.References.{times_there, times_other, times_itself}

-- the names that a body has under other names
present_units : (f : ℕ → Option ℕ) (futures : List (Option ℕ)) → ((u : ℕ) → 1 ≤ times u (present futures) → (unit : ℕ) × (f u ≡ Some unit))
    → map f (present futures) ≡ map (λ u. Some u) (present (map (renamed f) futures))
present_units f [] has = refl
present_units f (None ∷ futures) has = present_units f futures has
present_units f (Some t ∷ futures) has =
    let (unit, at) = has t (omega (arith, times_itself t)) in
    let rest = present_units f futures (λ u some. has u (omega (arith, some))) in
    ap (λ o. o ∷ map f (present futures)) at ∙ ap (λ os. Some unit ∷ os) rest
    ∙ ap (λ o. map (λ u. Some u) (cons_option o (present (map (renamed f) futures)))) (sym at)

-- the members under other names
member_units : (f : ℕ → Option ℕ) (members : List ℕ) → ((u : ℕ) → 1 ≤ times u members → (unit : ℕ) × (f u ≡ Some unit))
    → map f members ≡ map (λ u. Some u) (filter_map f members)
member_units f [] has = refl
member_units f (t ∷ members) has =
    let (unit, at) = has t (omega (arith, times_itself t)) in
    let rest = member_units f members (λ u some. has u (omega (arith, some))) in
    ap (λ o. o ∷ map f members) at ∙ ap (λ os. Some unit ∷ os) rest ∙ ap (λ o. map (λ u. Some u) (cons_option o (filter_map f members))) (sym at)

-- the names of a body under other names
pub body_units : (f : ℕ → Option ℕ) (body : Body) → ((u : ℕ) → 1 ≤ times u (names_of body) → (unit : ℕ) × (f u ≡ Some unit))
    → map f (names_of body) ≡ map (λ u. Some u) (names_of (body_with f body))
body_units f (OfKind q) has = present_units f q.futures has
body_units f (OfMembers members next) has = member_units f members has

-- what stands among the names is named
present_named : (futures : List (Option ℕ)) (u : ℕ) → 1 ≤ times u (present futures) → (x : ℕ) × (future_at futures x ≡ Some u)
present_named [] u some = absurd (omega (arith, some))
present_named (None ∷ futures) u some = let (x, e) = present_named futures u some in (suc x, e)
present_named (Some t ∷ futures) u some =
    ⊎_elim (λ same. (0, ap Some same)) (λ differ. let (x, e) = present_named futures u (omega (arith, some, times_other u t differ)) in (suc x, e))
    (cases_eq t u)

-- a task among the names of a body is named by it
pub names_named : (body : Body) (u : ℕ) → 1 ≤ times u (names_of body) → BodyNames body u
names_named (OfKind q) u some = present_named q.futures u some
names_named (OfMembers members next) u some = times_there u members some

-- a block of the class of so many words holds them
pub class_holds : (words : ℕ) → words ≤ 64 → words ≤ block_units (class_for words) * 8
class_holds words few = by (nat_le words 8) (nat_le words 16) (nat_le words 32) refl refl refl
  where
    by : (a b c : Bool) → nat_le words 8 ≡ a → nat_le words 16 ≡ b → nat_le words 32 ≡ c → words ≤ block_units (cond a 0 (cond b 1 (cond c 2 3))) * 8
    by true b c e f g = omega (arith, leb-true words 8 e)
    by false true c e f g = omega (arith, leb-true words 16 f)
    by false false true e f g = omega (arith, leb-true words 32 g)
    by false false false e f g = omega (arith, few)

-- the frame of a task fits the class of its kind, and that of an aggregate the class of its members
pub kind_fits : (p : Program) (words : List ℕ) (q : FrameOf ℕ) → IsFrame p words → body_of p words ≡ OfKind q
    → length words ≤ block_units (kind_class p q.kind) * 8
kind_fits p words q frame says = by (is_aggregate (slice_index words 0)) refl
  where
    kind_of : BodyOf ℕ → ℕ
    kind_of (OfKind q) = q.kind
    kind_of (OfMembers members next) = 0

    by : (b : Bool) → is_aggregate (slice_index words 0) ≡ b → length words ≤ block_units (kind_class p q.kind) * 8
    by true group = absurd (differ (sym (body-of_members p words group) ∙ says))
      where
        differ : {members : List ℕ} {next : ℕ} → OfMembers members next ≡ OfKind q → ⊥
        differ e = cc
    by false task =
        let is_kind : control_kind (slice_index words 0) ≡ q.kind = ap kind_of (sym (body-of_task p words task) ∙ says) in
        let size : length words ≡ 1 + variables_of p q.kind = task-size p words frame task ∙ ap (λ k. 1 + variables_of p k) is_kind in
        subst (λ n. length words ≤ block_units (class_for n) * 8) size (class_holds (length words) frame.few)

-- the frame of an aggregate fits the class of its members
pub members_fit : (p : Program) (words members : List ℕ) (next : ℕ) → IsFrame p words → body_of p words ≡ OfMembers members next
    → length words ≤ block_units (members_class (length members)) * 8
members_fit p words members next frame says = by (is_aggregate (slice_index words 0)) refl
  where
    members_of : BodyOf ℕ → List ℕ
    members_of (OfKind q) = []
    members_of (OfMembers members next) = members

    by : (b : Bool) → is_aggregate (slice_index words 0) ≡ b → length words ≤ block_units (members_class (length members)) * 8
    by false task = absurd (differ (sym (body-of_task p words task) ∙ says))
      where
        differ : {q : FrameOf ℕ} → OfKind q ≡ OfMembers members next → ⊥
        differ e = cc
    by true group =
        let are : members_at (slice_index words) ≡ members = ap members_of (sym (body-of_members p words group) ∙ says) in
        let many : length members ≡ control_state (slice_index words 0) = ap length (sym are)
        ∙ members-known words (frame-members p words frame group) in
        let size : length words ≡ 1 + length members =
        frame.size ∙ ap (λ b. cond b (1 + control_state (slice_index words 0)) (1 + variables_of p (control_kind (slice_index words 0)))) group
        ∙ ap (λ n. 1 + n) (sym many) in
        subst (λ n. length words ≤ block_units (class_for n) * 8) size (class_holds (length words) frame.few)
