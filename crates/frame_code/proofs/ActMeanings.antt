-- Going on changes nothing of what follows, and where a frame stops it stands at an act of the meaning.
use Rattle.std.proofs.Common.{◌≡◌, ℕ, zero, suc, Option, Some, slice_get, refl, ◌∙◌, ap, subst}
use Rattle.task_syntax.specs.Form.{IsWellFormed}
use Rattle.task_syntax.specs.declared.value.Value.{Value}
use Rattle.task_syntax.specs.declared.value.Value.TheVariants as value
use Rattle.task_syntax.specs.declared.instr.Instr.{Instr}
use Rattle.task_syntax.specs.declared.instr.Instr.TheVariants.{Math, Cell, Spawn, All, Copy, Drop, Get, Again, Done}
use Rattle.task_syntax.specs.declared.instr.Line.{Line}
use Rattle.task_syntax.specs.declared.program.Program.{Program}
use Rattle.task_syntax.specs.declared.columns.Columns.{Columns}
use Rattle.task_meaning.specs.Frame.{FrameOf, code_at, frame_with, set_number, operand}
use Rattle.task_meaning.specs.Arithmetic.{computed, cell_at}
use Rattle.task_meaning.specs.Meaning.{rest}
use Rattle.task_meaning.specs.Acts.{Act as Does, act_of, act_with, steps_with, ActsAt, followed}
use Rattle.task_meaning.proofs.ActByAct.{rest-follows}
use Rattle.task_meaning.proofs.Ahead.{jumps_ahead}
use Rattle.task_meaning.proofs.Renaming.{act-renamed}
use Rattle.frame_code.specs.Words.{OfKind}
use Rattle.frame_code.specs.Stops.{numbers_passed, variables_passed, trapped, stop_at, StopsAt, Passes, GoesTo, stays, passes}
use Rattle.frame_code.specs.Meant.{IsActOf, KeepsMeaning}
use Rattle.frame_code.specs.declared.act.Act.{Act}
use Rattle.frame_code.specs.declared.act.Act.TheVariants as act

-- what follows from a frame at a line
line-follows : (p : Program) (c : Columns) (n : ℕ) (meant : ℕ → Option Value) (q : FrameOf ℕ) (line : Line) → IsWellFormed p
    → slice_get (code_at p q.kind q.state) q.at ≡ Some line
    → rest p c (suc n) (frame_with meant q) ≡ followed p c n (act_with meant (act_of c line.instr q)) (frame_with meant q)
line-follows p c n meant q line formed e = rest-follows p c n (frame_with meant q) line e (jumps_ahead p formed q.kind q.state q.at line e)
    ∙ ap (λ a. followed p c n a (frame_with meant q)) (act-renamed meant c line.instr q)

passes-rest : (p : Program) (c : Columns) (n : ℕ) (meant : ℕ → Option Value) (q next : FrameOf ℕ) → IsWellFormed p → Passes p c q next
    → rest p c n (frame_with meant q) ≡ rest p c n (frame_with meant next)
passes-rest p c zero meant q next formed h = refl
passes-rest p c (suc n) meant q next formed h = line-follows p c n meant q h.0 formed h.1
    ∙ ap (λ a. followed p c n (act_with meant a) (frame_with meant q)) h.2.1

pub goes-rest : (p : Program) (c : Columns) (n : ℕ) (meant : ℕ → Option Value) (q last : FrameOf ℕ) → IsWellFormed p → GoesTo p c q last
    → rest p c n (frame_with meant q) ≡ rest p c n (frame_with meant last)
goes-rest p c n meant q last formed stays = refl
goes-rest p c n meant q last formed (passes {at} {next} goes more) = goes-rest p c n meant q at formed goes ∙ passes-rest p c n meant at next formed more

trap-act : (q : FrameOf ℕ) (v : Value) (to : ℕ) (asked : Act) → trapped v ≡ Some asked → IsActOf q asked (steps_with v (set_number q to))
trap-act q (value.Number n) to asked e = cc
trap-act q (value.Trapped t) to asked e = let s : act.Trap t ≡ asked = cc in subst (λ a. IsActOf q a (steps_with (value.Trapped t) (set_number q to))) s refl

-- what is asked for at an instruction is its act
pub stop-act : (c : Columns) (instr : Instr) (q : FrameOf ℕ) (asked : Act) → stop_at c instr q ≡ Some asked → IsActOf q asked (act_of c instr q)
stop-act c (Math op to left right) q asked e = trap-act q (computed op (operand q.numbers left) (operand q.numbers right)) to asked e
stop-act c (Cell to column row) q asked e = trap-act q (cell_at c column (operand q.numbers row)) to asked e
stop-act c (Spawn to kind arguments waits priority retry) q asked e =
    let s : act.Spawn (record {
      to = to;
      kind = kind;
      numbers = numbers_passed q.numbers arguments;
      futures = variables_passed arguments;
      behind = waits;
      priority = priority;
      retry = retry;
    }) ≡ asked = cc in subst (λ a. IsActOf q a (act_of c (Spawn to kind arguments waits priority retry) q)) s (arguments, refl, refl, refl)
stop-act c (All to members priority retry) q asked e =
    let s : act.All (record { to = to; members = members; priority = priority; retry = retry }) ≡ asked = cc in
    subst (λ a. IsActOf q a (act_of c (All to members priority retry) q)) s refl
stop-act c (Copy to source) q asked e = let s : act.Copy to source ≡ asked = cc in subst (λ a. IsActOf q a (act_of c (Copy to source) q)) s refl
stop-act c (Drop x) q asked e = let s : act.Drop x ≡ asked = cc in subst (λ a. IsActOf q a (act_of c (Drop x) q)) s refl
stop-act c (Get to x) q asked e = let s : act.NeedsValue x ≡ asked = cc in subst (λ a. IsActOf q a (act_of c (Get to x) q)) s (to, refl)
stop-act c (Again target waits priority) q asked e =
    let s : act.Again (record { target = target; behind = waits; priority = priority }) ≡ asked = cc in
    subst (λ a. IsActOf q a (act_of c (Again target waits priority) q)) s refl
stop-act c (Done value) q asked e = let s : act.Done (operand q.numbers value) ≡ asked = cc in subst (λ a. IsActOf q a (act_of c (Done value) q)) s refl
stop-act c _ q asked e = cc

pub stop-acts : (p : Program) (c : Columns) (q : FrameOf ℕ) (asked : Act) → StopsAt p c q asked → (does : Does ℕ) × ActsAt p c q does × IsActOf q asked does
stop-acts p c q asked h = (act_of c h.0.instr q, (h.0, h.1, refl), stop-act c h.0.instr q asked h.2)

pub advance-meaning : (p : Program) (c : Columns) (q last : FrameOf ℕ) (asked : Act) → IsWellFormed p → GoesTo p c q last → StopsAt p c last asked
    → KeepsMeaning p c (OfKind q) asked (OfKind last)
advance-meaning p c q last asked formed goes h = (
  act_of c h.0.instr last,
  (h.0, h.1, refl),
  stop-act c h.0.instr last asked h.2,
  λ n meant. goes-rest p c (suc n) meant q last formed goes ∙ line-follows p c n meant last h.0 formed h.1,
)
