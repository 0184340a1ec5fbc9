-- A frame that enters a state, and an aggregate's that enters its next activation.
use Rattle.std.proofs.Common.{◌≡◌, ℕ, zero, suc, ◌+◌, ◌<◌, ◌≤◌, true, false, cond, nat_eq, Some, List, length, slice_get, slice_index, refl, sym, ◌∙◌, ap, subst, arith}
use Rattle.std.specs.List.{filter_map}
use Rattle.std.proofs.lemmas.List.{get_or-set_same, get_or-set_other, length-set}
use Rattle.std.proofs.lemmas.Bool.{eqb-true}
use Rattle.task_syntax.specs.Facts.{at_start}
use Rattle.task_syntax.specs.Form.{IsWellFormed, IsFormedState, IsFormedKind, IsFormedInstr}
use Rattle.task_syntax.specs.Valid.{starts}
use Rattle.task_syntax.specs.declared.instr.Instr.{Instr}
use Rattle.task_syntax.specs.declared.instr.Instr.TheVariants.{Again}
use Rattle.task_syntax.specs.declared.instr.Line.{Line}
use Rattle.task_syntax.specs.declared.program.State.{State}
use Rattle.task_syntax.specs.declared.program.Kind.{Kind}
use Rattle.task_syntax.specs.declared.program.Program.{Program}
use Rattle.task_meaning.specs.Frame.{variables_of, code_at, code_in, state_in, state_at}
use Rattle.frame_code.specs.Control.{aggregate_code, control_word, control_kind, control_state, control_at, is_aggregate}
use Rattle.frame_code.specs.Words.{OfMembers, unit_named, words_from, members_at, body_of}
use Rattle.frame_code.specs.Frames.{IsKindControl, IsAggregateFrame, IsFrame}
use Rattle.frame_code.specs.Moves.{IsRespawn, MayEnter, entered}
use Rattle.frame_code.specs.Ways.{BodyHasWay}
use Rattle.frame_code.specs.Run.{IsMovedTo}
use Rattle.frame_code.proofs.HeldActs.{item-within}
use Rattle.frame_code.proofs.ControlWords.{kind-of_word, state-of_word, at-of_word, word-fits, frame-members}
use Rattle.frame_code.proofs.Aggregates.{body-of_task, body-of_members, members-known}
use Rattle.frame_code.proofs.MovedFrames.{line-of, moved-is_frame, moved-body}

-- the target of a respawn is a state of the kind, which has a line
pub record IsTarget (p : Program) (kind target : ℕ) : Type 0 where
  pub state : State
  pub is_state : state_at p kind target ≡ Some state
  pub some : 0 < length (code_at p kind target)
  pub fits : target < 256

respawn-target : (p : Program) (kind : Kind) (state : State) (at target : ℕ) (instr : Instr) → IsRespawn target instr → IsFormedInstr p kind state at instr → target < length kind.states
respawn-target p kind state at target (Again goal waits priority) is h = subst (λ t. t < length kind.states) is h.0
respawn-target p kind state at target _ is h = absurd is

pub target-there : (p : Program) (kind state at target : ℕ) (line : Line) → IsWellFormed p → slice_get (code_at p kind state) at ≡ Some line → IsRespawn target line.instr
    → IsTarget p kind target
target-there p kind state at target line formed e is =
    let of = line-of p kind state at line e in
    let formed_kind : IsFormedKind p of.of_kind = formed.kinds kind of.of_kind of.is_kind in
    let within : target < length of.of_kind.states
    = respawn-target p of.of_kind of.of_state at target line.instr is ((formed_kind.states state of.of_state of.is_state).instrs at line of.is_line) in
    let next = item-within of.of_kind.states target within in
    let formed_next : IsFormedState p of.of_kind next.0 = formed_kind.states target next.0 next.1 in
    let code : code_at p kind target ≡ next.0.code = ap (λ o. code_in (state_in o target)) of.is_kind ∙ ap code_in next.1 in
    record {
      state = next.0;
      is_state = ap (λ o. state_in o target) of.is_kind ∙ next.1;
      some = subst (λ ls. 0 < length ls) (sym code) (omega (arith, formed_next.ends.2));
      fits = omega (arith, within, formed_kind.states_fit);
    }

-- the target of a task that may enter a state
pub task-target : (p : Program) (old : List ℕ) (target : ℕ) → IsWellFormed p → is_aggregate (slice_index old 0) ≡ false → MayEnter p target (body_of p old)
    → IsTarget p (control_kind (slice_index old 0)) target
task-target p old target formed task may =
    let s = subst (MayEnter p target) (body-of_task p old task) may in
    target-there p (control_kind (slice_index old 0)) (control_state (slice_index old 0)) (control_at (slice_index old 0)) target s.0 formed s.1 s.2

-- what `enter` promises of a task
pub entered-clauses : (p : Program) (old new : List ℕ) (target : ℕ) → IsFrame p old → is_aggregate (slice_index old 0) ≡ false
    → IsTarget p (control_kind (slice_index old 0)) target → IsMovedTo target 0 old new
    → IsFrame p new × (body_of p new ≡ entered target (body_of p old)) × BodyHasWay p (body_of p new)
entered-clauses p old new target frame task to moved =
    let is = moved-body p old new target 0 frame task moved to.some to.fits (omega arith) in (
      moved-is_frame p old new target 0 frame task moved to.some to.fits (omega arith),
      is ∙ ap (entered target) (sym (body-of_task p old task)),
      subst (BodyHasWay p) (sym is) (to.state, at_start to.state, to.is_state, starts),
    )

words-same : (w w' : ℕ → ℕ) (place n : ℕ) → ((k : ℕ) → place ≤ k → w' k ≡ w k) → words_from w' place n ≡ words_from w place n
words-same w w' place zero h = refl
words-same w w' place (suc n) h =
    let a : w' place ≡ w place = h place (omega arith) in
    let b = words-same w w' (place + 1) n (λ k low. h k (omega (arith, low))) in cc

-- the next member of an aggregate that may enter its next activation
pub group-next : (p : Program) (old : List ℕ) (target : ℕ) → IsFrame p old → is_aggregate (slice_index old 0) ≡ true → MayEnter p target (body_of p old)
    → control_at (slice_index old 0) < control_state (slice_index old 0)
group-next p old target frame group may =
    let s = subst (MayEnter p target) (body-of_members p old group) may in
    omega (arith, s.1, members-known old (frame-members p old frame group))

-- what `enter` promises of an aggregate
pub group-clauses : (p : Program) (old new : List ℕ) (target : ℕ) → IsFrame p old → is_aggregate (slice_index old 0) ≡ true → MayEnter p target (body_of p old)
    → IsMovedTo (control_state (slice_index old 0)) (control_at (slice_index old 0) + 1) old new
    → IsFrame p new × (body_of p new ≡ entered target (body_of p old)) × BodyHasWay p (body_of p new)
group-clauses p old new target frame group may moved =
    let members : ℕ = control_state (slice_index old 0) in
    let next : ℕ = control_at (slice_index old 0) in
    let known = frame-members p old frame group in
    let below = group-next p old target frame group may in
    let marked : control_kind (slice_index old 0) ≡ 255 = eqb-true (control_kind (slice_index old 0)) 255 group in
    let long : length new ≡ length old = ap length moved ∙ length-set old 0 _ in
    let size : length old ≡ 1 + members = frame.size ∙ ap (λ b. cond b (1 + members) (1 + variables_of p (control_kind (slice_index old 0)))) group in
    let some : 0 < length old = omega (arith, size) in
    let head : slice_index new 0 ≡ control_word 255 members (next + 1)
    = ap (λ (l : List ℕ). slice_index l 0) moved ∙ (get_or-set_same old 0 _ 0 some ∙ ap (λ k. control_word k members (next + 1)) marked) in
    let small : next + 1 < 256 = omega (arith, below, known.few) in
    let state_small : members < 256 = omega (arith, known.few) in
    let k : control_kind (slice_index new 0) ≡ 255 = ap control_kind head ∙ kind-of_word 255 members (next + 1) (omega arith) state_small small in
    let s : control_state (slice_index new 0) ≡ members = ap control_state head ∙ state-of_word 255 members (next + 1) (omega arith) state_small small in
    let a : control_at (slice_index new 0) ≡ next + 1 = ap control_at head ∙ at-of_word 255 members (next + 1) (omega arith) state_small small in
    let is_group : is_aggregate (slice_index new 0) ≡ true = ap (λ n. nat_eq n aggregate_code) k in
    let other : (i : ℕ) → 1 ≤ i → slice_index new i ≡ slice_index old i
    = λ i low. ap (λ (l : List ℕ). slice_index l i) moved ∙ get_or-set_other old 0 i _ 0 (λ e. omega (arith, e, low)) in
    let is_known : IsAggregateFrame (slice_index new) = record {
      some = omega (arith, s, known.some);
      few = omega (arith, s, known.few);
      next = omega (arith, s, a, below);
      named = λ place low high. let h = known.named place low (omega (arith, high, s)) in omega (arith, h, other place low);
    } in
    let is_members : members_at (slice_index new) ≡ members_at (slice_index old)
    = ap (λ n. filter_map unit_named (words_from (slice_index new) 1 n)) s ∙ ap (filter_map unit_named) (words-same (slice_index old) (slice_index new) 1 members other) in
    let is : body_of p new ≡ OfMembers (members_at (slice_index old)) (next + 1)
    = body-of_members p new is_group ∙ (ap (λ ms. OfMembers ms (control_at (slice_index new 0))) is_members ∙ ap (OfMembers (members_at (slice_index old))) a) in (
      record {
        size = long ∙ (size ∙ (ap (λ n. 1 + n) (sym s) ∙ ap (λ b. cond b (1 + control_state (slice_index new 0)) (1 + variables_of p (control_kind (slice_index new 0)))) (sym is_group)));
        few = omega (arith, long, frame.few);
        control = omega (arith, head, word-fits 255 members (next + 1) (omega arith) state_small small);
        says = subst (λ b. cond b (IsAggregateFrame (slice_index new)) (IsKindControl p (slice_index new 0))) (sym is_group) is_known;
      },
      is ∙ ap (entered target) (sym (body-of_members p old group)),
      subst (BodyHasWay p) (sym is) tt,
    )
