-- Going on keeps the futures of a frame, and where there was a way to its line there is one to the next.
use Rattle.std.proofs.Common.{◌≡◌, ◌+◌, Some, slice_get, refl, sym, ◌∙◌, ap, subst, inl, inr}
use Rattle.std.specs.Option.{option_map}
use Rattle.task_syntax.specs.Places.{instr_at}
use Rattle.task_syntax.specs.Form.{Leaves}
use Rattle.task_syntax.specs.Facts.{after}
use Rattle.task_syntax.specs.Valid.{Way, goes_on, jumps}
use Rattle.task_syntax.specs.declared.instr.Line.{Line}
use Rattle.task_syntax.specs.declared.program.State.{State}
use Rattle.task_syntax.specs.declared.program.Program.{Program}
use Rattle.task_syntax.specs.declared.columns.Columns.{Columns}
use Rattle.task_meaning.specs.Frame.{FrameOf, code_in, code_at, state_at}
use Rattle.frame_code.specs.Stops.{Passes, GoesTo, stays, passes}
use Rattle.frame_code.specs.Ways.{HasWay}
use Rattle.frame_code.proofs.Formed.{Moves, passes-moves}

-- a frame that goes on keeps its kind, its state and its futures
pub record IsKept {A : Type 0} (q last : FrameOf A) : Type 0 where
  pub kind : last.kind ≡ q.kind
  pub state : last.state ≡ q.state
  pub futures : last.futures ≡ q.futures

pub goes-keeps : {A : Type 0} (p : Program) (c : Columns) (q last : FrameOf A) → GoesTo p c q last → IsKept q last
goes-keeps p c q last stays = record { kind = refl; state = refl; futures = refl }
goes-keeps p c q last (passes {at} {next} goes more) =
    let k = goes-keeps p c q at goes in
    let m : Moves more.0.instr at next = passes-moves at next c more.0.instr more.2.0 more.2.1 in
    record { kind = m.kind ∙ k.kind; state = m.state ∙ k.state; futures = m.futures ∙ k.futures }

-- the line of a state at which a frame stands
pub stands-there : {A : Type 0} (p : Program) (q : FrameOf A) (state : State) (line : Line) → state_at p q.kind q.state ≡ Some state
    → slice_get (code_at p q.kind q.state) q.at ≡ Some line → instr_at state q.at ≡ Some line.instr
stands-there p q state line e l = ap (option_map (λ (l : Line). l.instr)) (ap (λ o. slice_get (code_in o) q.at) (sym e) ∙ l)

-- a way to a line leads to the next one
pub way-on : {A : Type 0} (p : Program) (q next : FrameOf A) (line : Line) → slice_get (code_at p q.kind q.state) q.at ≡ Some line → ¬ Leaves line.instr
    → next.kind ≡ q.kind → next.state ≡ q.state → next.at ≡ q.at + 1 → HasWay p q → HasWay p next
way-on p q next line l remains k s a (state, facts, e, way) =
    let w = goes_on line.instr way (stands-there p q state line e l) remains in
    (state, after line.instr facts, ap (λ n. state_at p n next.state) k ∙ (ap (state_at p q.kind) s ∙ e), subst (λ n. Way state n (after line.instr facts)) (sym a) w)

pub passes-way : {A : Type 0} (p : Program) (c : Columns) (q next : FrameOf A) → Passes p c q next → HasWay p q → HasWay p next
passes-way p c q next h way =
    let m : Moves h.0.instr q next = passes-moves q next c h.0.instr h.2.0 h.2.1 in
    elim m.goes [
      | inl g ↦ way-on p q next h.0 h.1 g.1 m.kind m.state g.0 way
      | inr j ↦ (
        way.0,
        way.1,
        ap (λ n. state_at p n next.state) m.kind ∙ (ap (state_at p q.kind) m.state ∙ way.2),
        jumps h.0.instr next.at way.3 (stands-there p q way.0 h.0 way.2 h.1) j,
      )
    ]

pub goes-way : {A : Type 0} (p : Program) (c : Columns) (q last : FrameOf A) → GoesTo p c q last → HasWay p q → HasWay p last
goes-way p c q last stays way = way
goes-way p c q last (passes {at} {next} goes more) way = passes-way p c at next more (goes-way p c q at goes way)
