-- What `advance` does at an aggregate's frame, and where a slice was written whole.
use Rattle.std.proofs.Common.{◌≡◌, ℕ, ◌<◌, ◌≤◌, Bool, true, false, cond, nat_eq, Some, None, List, [], ◌∷◌, ◌++◌, length, take, drop, slice_get, slice_index, refl, sym, ◌∙◌, ap, subst, inl, inr, arith}
use Rattle.std.specs.List.{refill}
use Rattle.std.proofs.lemmas.Option.{slice_get_cases}
use Rattle.std.proofs.lemmas.Bool.{eqb-true}
use Rattle.task_syntax.specs.declared.program.Program.{Program}
use Rattle.task_syntax.specs.declared.columns.Columns.{Columns}
use Rattle.frame_code.specs.Control.{control_kind, control_state, control_at, is_aggregate}
use Rattle.frame_code.specs.Words.{BodyOf, OfKind, OfMembers, members_at, frame_at, body_of}
use Rattle.frame_code.specs.Frames.{IsAggregateFrame}
use Rattle.frame_code.specs.Members.{member_act}
use Rattle.frame_code.specs.Stops.{BodyAdvances}
use Rattle.frame_code.specs.Moves.{BodyAllows}
use Rattle.frame_code.specs.Meant.{KeepsMeaning}
use Rattle.frame_code.specs.Run.{unpacked}
use Rattle.frame_code.specs.declared.act.Act.{Act}
use Rattle.frame_code.specs.declared.words.Control.{Control}
use Rattle.frame_code.proofs.AllowedMoves.{member-allows}
use Rattle.frame_code.proofs.MembersInTurn.{members-follow, length-members}

take-front : (ws ys : List ℕ) → take (length ws) (ws ++ ys) ≡ ws
take-front [] ys = refl
take-front (w ∷ ws) ys = ap (λ l. w ∷ l) (take-front ws ys)

-- what stands in a vector whose slice was written whole
pub refill-same : (xs ws : List ℕ) → length ws ≡ length xs → refill (length xs) xs ws ≡ ws
refill-same xs ws e = subst (λ n. take n (ws ++ drop (length ws) xs) ≡ ws) e (take-front ws (drop (length ws) xs))

pub body-of_task : (p : Program) (words : List ℕ) → is_aggregate (slice_index words 0) ≡ false → body_of p words ≡ OfKind (frame_at p (slice_index words))
body-of_task p words e =
    let kind : BodyOf ℕ = OfKind (frame_at p (slice_index words)) in
    ap (λ (b : Bool). cond b (OfMembers (members_at (slice_index words)) (control_at (slice_index words 0))) kind) e

pub body-of_members : (p : Program) (words : List ℕ) → is_aggregate (slice_index words 0) ≡ true
    → body_of p words ≡ OfMembers (members_at (slice_index words)) (control_at (slice_index words 0))
body-of_members p words e =
    let kind : BodyOf ℕ = OfKind (frame_at p (slice_index words)) in
    ap (λ (b : Bool). cond b (OfMembers (members_at (slice_index words)) (control_at (slice_index words 0))) kind) e

pub members-known : (words : List ℕ) → IsAggregateFrame (slice_index words) → length (members_at (slice_index words)) ≡ control_state (slice_index words 0)
members-known words group = length-members (slice_index words) 1 (control_state (slice_index words 0)) (λ k low high. group.named k low (omega (arith, high)))

-- an aggregate stands where the control word marks one
pub is-group : (words : List ℕ) (control : Control) → control ≡ unpacked (slice_index words 0) → control.kind ≡ 255 → is_aggregate (slice_index words 0) ≡ true
is-group words control says e =
    let k : control_kind (slice_index words 0) ≡ 255 = ap (λ (c : Control). c.kind) (sym says) ∙ e in ap (λ n. nat_eq n 255) k

pub is-task : (words : List ℕ) (control : Control) → control ≡ unpacked (slice_index words 0) → (control.kind ≡ 255 → ⊥) → is_aggregate (slice_index words 0) ≡ false
is-task words control says other = by (is_aggregate (slice_index words 0)) refl
  where
    by : (b : Bool) → is_aggregate (slice_index words 0) ≡ b → b ≡ false
    by true e = absurd (other (ap (λ (c : Control). c.kind) says ∙ eqb-true (control_kind (slice_index words 0)) 255 e))
    by false e = refl

-- an aggregate asks for its next member, or is done
pub member-asked : (words : List ℕ) (control : Control) (asked : Act) → IsAggregateFrame (slice_index words) → control ≡ unpacked (slice_index words 0)
    → (control.at < control.state → (member : ℕ) → member_act (Some member) control.at ≡ asked) → (control.state ≤ control.at → member_act None control.at ≡ asked)
    → member_act (slice_get (members_at (slice_index words)) (control_at (slice_index words 0))) (control_at (slice_index words 0)) ≡ asked
member-asked words control asked group says waits done =
    let members : List ℕ = members_at (slice_index words) in
    let next : ℕ = control_at (slice_index words 0) in
    let as_many = members-known words group in
    let is_at : control.at ≡ next = ap (λ (c : Control). c.at) says in
    let is_state : control.state ≡ control_state (slice_index words 0) = ap (λ (c : Control). c.state) says in
    elim (slice_get_cases members next).1 [
      | inl s ↦ let h : control.at < control.state = omega (arith, s.1, as_many, is_at, is_state) in
          ap (λ o. member_act o next) s.2 ∙ (ap (member_act (Some s.0)) (sym is_at) ∙ waits h s.0)
      | inr s ↦ let h : control.state ≤ control.at = omega (arith, s.0, as_many, is_at, is_state) in
          ap (λ o. member_act o next) s.1 ∙ (ap (member_act None) (sym is_at) ∙ done h)
    ]

pub aggregate-acts : (p : Program) (c : Columns) (old new : List ℕ) (asked : Act) → is_aggregate (slice_index old 0) ≡ true → new ≡ old
    → member_act (slice_get (members_at (slice_index old)) (control_at (slice_index old 0))) (control_at (slice_index old 0)) ≡ asked
    → BodyAdvances p c (body_of p old) asked (body_of p new)
aggregate-acts p c old new asked group same act =
    let is_old = body-of_members p old group in
    let is_new = ap (body_of p) same ∙ is_old in
    subst (λ b. BodyAdvances p c b asked (body_of p new)) (sym is_old)
    (subst (λ b. BodyAdvances p c (OfMembers (members_at (slice_index old)) (control_at (slice_index old 0))) asked b) (sym is_new) (refl, refl, act))

pub aggregate-meaning : (p : Program) (c : Columns) (old new : List ℕ) (asked : Act) → is_aggregate (slice_index old 0) ≡ true → new ≡ old
    → member_act (slice_get (members_at (slice_index old)) (control_at (slice_index old 0))) (control_at (slice_index old 0)) ≡ asked
    → KeepsMeaning p c (body_of p old) asked (body_of p new)
aggregate-meaning p c old new asked group same act =
    let is_old = body-of_members p old group in
    let is_new = ap (body_of p) same ∙ is_old in
    let members : List ℕ = members_at (slice_index old) in
    let next : ℕ = control_at (slice_index old 0) in
    subst (λ b. KeepsMeaning p c b asked (body_of p new)) (sym is_old) (subst (λ b. KeepsMeaning p c (OfMembers members next) asked b) (sym is_new)
    (subst (λ a. KeepsMeaning p c (OfMembers members next) a (OfMembers members next)) act (λ meant. members-follow meant members next)))

pub aggregate-allows : (p : Program) (old new : List ℕ) (asked : Act) → is_aggregate (slice_index old 0) ≡ true → new ≡ old
    → member_act (slice_get (members_at (slice_index old)) (control_at (slice_index old 0))) (control_at (slice_index old 0)) ≡ asked
    → BodyAllows p asked (body_of p new)
aggregate-allows p old new asked group same act =
    let is_new = ap (body_of p) same ∙ body-of_members p old group in
    subst (BodyAllows p asked) (sym is_new) (member-allows p (members_at (slice_index old)) (control_at (slice_index old 0)) asked act)
