-- What follows from a place is what follows its act.
use Rattle.std.specs.Prelude.{◌≡◌, ℕ, zero, suc, ◌+◌, ◌-◌, ◌<◌, Bool, true, false, cond, Option, Some, None, List, [], ◌∷◌, drop, slice_get}
use Rattle.std.proofs.Common.{refl, ap, ◌∙◌, arith}
use Rattle.task_syntax.specs.declared.value.Value.{Value}
use Rattle.task_syntax.specs.declared.value.Value.TheVariants.{Number, Trapped}
use Rattle.task_syntax.specs.declared.instr.Instr.{Instr}
use Rattle.task_syntax.specs.declared.instr.Instr.TheVariants.{Set, Math, If, Goto, Label, Cell, Rows, Spawn, All, Copy, Drop, Get, Again, Done}
use Rattle.task_syntax.specs.declared.instr.Line.{Line}
use Rattle.task_syntax.specs.declared.program.Program.{Program}
use Rattle.task_syntax.specs.declared.columns.Columns.{Columns}
use Rattle.task_meaning.specs.Meant.{Meant, nothing, adding, with_value, with_number, future_at}
use Rattle.task_meaning.specs.Frame.{Place, code_at, jump, go_on, set_number, operand, spawned}
use Rattle.task_meaning.specs.Arithmetic.{computed, compares, cell_at}
use Rattle.task_meaning.specs.Meaning.{child_of, aggregate_of, instr_means, lines_mean, rest}
use Rattle.task_meaning.specs.Acts.{steps_with, act_of, JumpsAhead, follows, followed}
use Rattle.task_meaning.proofs.Grows.{place_of}

-- passing lines over from a place on is standing at a later line
abbrev Agrees : Place → (ℕ → Place → Meant) → (Place → Meant) → Type 0
Agrees q next same = (skip at : ℕ) (numbers : List ℕ) (futures : List (Option Value)) → at ≡ q.at + 1 + skip
    → next skip (place_of q.kind q.state at numbers futures) ≡ same (place_of q.kind q.state at numbers futures)

number_follows : (p : Program) (less same : Place → Meant) (q : Place) (v : Value) (go : ℕ → Meant) (frame : ℕ → Place)
    → ((n : ℕ) → go n ≡ same (frame n)) → with_number v go ≡ follows p less same (steps_with v frame) q
number_follows p less same q (Number n) go frame h = h n
number_follows p less same q (Trapped t) go frame h = refl

number_agrees : (v : Value) (go same : ℕ → Meant) → ((n : ℕ) → go n ≡ same n) → with_number v go ≡ with_number v same
number_agrees (Number n) go same h = h n
number_agrees (Trapped t) go same h = refl

value_agrees : (o : Option Value) (go same : Value → Meant) → ((v : Value) → go v ≡ same v) → with_value o go ≡ with_value o same
value_agrees None go same h = refl
value_agrees (Some v) go same h = h v

branch_agrees : (b : Bool) (m more : Meant) (same : Place → Meant) (jumped gone : Place) → m ≡ same jumped → more ≡ same gone → cond b m more ≡ same (cond b jumped gone)
branch_agrees true m more same jumped gone h k = h
branch_agrees false m more same jumped gone h k = k

instr-follows : (p : Program) (c : Columns) (less : Place → Meant) (next : ℕ → Place → Meant) (same : Place → Meant) (instr : Instr) (q : Place)
    → JumpsAhead q.at instr → Agrees q next same → instr_means p c less next instr q ≡ follows p less same (act_of c instr q) q
instr-follows p c less next same (Set to value) q ahead h = h 0 _ _ _ (omega arith)
instr-follows p c less next same (Math op to left right) q ahead h =
    number_follows p less same q (computed op (operand q.numbers left) (operand q.numbers right)) _ (set_number q to) (λ n. h 0 _ _ _ (omega arith))
instr-follows p c less next same (If relation left right target) q ahead h =
    let e : q.at < target = ahead target refl in
    branch_agrees (compares relation (operand q.numbers left) (operand q.numbers right)) _ _ same (jump q target) (go_on q)
    (h (target - (q.at + 1)) target _ _ (omega (arith, e))) (h 0 _ _ _ (omega arith))
instr-follows p c less next same (Goto target) q ahead h =
    let e : q.at < target = ahead target refl in h (target - (q.at + 1)) target _ _ (omega (arith, e))
instr-follows p c less next same (Label name) q ahead h = h 0 _ _ _ (omega arith)
instr-follows p c less next same (Cell to column row) q ahead h =
    number_follows p less same q (cell_at c column (operand q.numbers row)) _ (set_number q to) (λ n. h 0 _ _ _ (omega arith))
instr-follows p c less next same (Rows to column) q ahead h = h 0 _ _ _ (omega arith)
instr-follows p c less next same (Spawn to kind arguments waits priority retry) q ahead h =
    let child : Meant = child_of p less waits (spawned q kind arguments) q.futures in
    ap (adding child.counts) (h 0 _ _ _ (omega arith))
instr-follows p c less next same (All to members priority retry) q ahead h =
    let child : Meant = aggregate_of members q.futures in
    ap (adding child.counts) (h 0 _ _ _ (omega arith))
instr-follows p c less next same (Copy to source) q ahead h = h 0 _ _ _ (omega arith)
instr-follows p c less next same (Drop future) q ahead h = h 0 _ _ _ (omega arith)
instr-follows p c less next same (Get to future) q ahead h =
    value_agrees (future_at q.futures future) _ _ (λ v. number_agrees v _ _ (λ n. h 0 _ _ _ (omega arith)))
instr-follows p c less next same (Again target waits priority) q ahead h = refl
instr-follows p c less next same (Done value) q ahead h = refl

-- the lines behind the first k, after passing `skip` of them over
lines-drop : (p : Program) (c : Columns) (less : Place → Meant) (lines : List Line) (k skip at : ℕ) (q : Place) → at ≡ k + skip
    → lines_mean p c less (drop k lines) skip q ≡ lines_mean p c less lines at q
lines-drop p c less lines zero skip at q e = ap (λ (i : ℕ). lines_mean p c less lines i q) (omega (arith, e))
lines-drop p c less [] (suc k) skip at q e = refl
lines-drop p c less (line ∷ more) (suc k) skip zero q e = absurd (omega (arith, e))
lines-drop p c less (line ∷ more) (suc k) skip (suc at) q e = lines-drop p c less more k skip at q (omega (arith, e))

-- the line at which a place stands
lines-at : (p : Program) (c : Columns) (less : Place → Meant) (lines : List Line) (at : ℕ) (line : Line) (q : Place) → slice_get lines at ≡ Some line
    → lines_mean p c less lines at q ≡ instr_means p c less (lines_mean p c less (drop (suc at) lines)) line.instr q
lines-at p c less [] at line q e = absurd (cc e)
lines-at p c less (l ∷ more) zero line q e =
    let same : l ≡ line = cc e in ap (λ (x : Line). instr_means p c less (lines_mean p c less more) x.instr q) same
lines-at p c less (l ∷ more) (suc at) line q e = lines-at p c less more at line q e

lines-past : (p : Program) (c : Columns) (less : Place → Meant) (lines : List Line) (at : ℕ) (q : Place) → slice_get lines at ≡ None
    → lines_mean p c less lines at q ≡ nothing
lines-past p c less [] at q e = refl
lines-past p c less (l ∷ more) zero q e = absurd (cc e)
lines-past p c less (l ∷ more) (suc at) q e = lines-past p c less more at q e

-- what follows from a place at a line is what follows the line's act
pub rest-follows : (p : Program) (c : Columns) (n : ℕ) (q : Place) (line : Line) → slice_get (code_at p q.kind q.state) q.at ≡ Some line
    → JumpsAhead q.at line.instr → rest p c (suc n) q ≡ followed p c n (act_of c line.instr q) q
rest-follows p c n q line e ahead =
    let code : List Line = code_at p q.kind q.state in
    lines-at p c (rest p c n) code q.at line q e
    ∙ instr-follows p c (rest p c n) (lines_mean p c (rest p c n) (drop (suc q.at) code)) (rest p c (suc n)) line.instr q ahead
    (λ skip at numbers futures s. lines-drop p c (rest p c n) code (suc q.at) skip at (place_of q.kind q.state at numbers futures) (omega (arith, s)))

-- past the last line nothing is given
pub rest-past : (p : Program) (c : Columns) (n : ℕ) (q : Place) → slice_get (code_at p q.kind q.state) q.at ≡ None → rest p c n q ≡ nothing
rest-past p c zero q e = refl
rest-past p c (suc n) q e = lines-past p c (rest p c n) (code_at p q.kind q.state) q.at q e
