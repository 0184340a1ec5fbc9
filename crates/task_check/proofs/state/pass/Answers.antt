use Rattle.std.proofs.Common.{◌≡◌, ◌<◌, ◌+◌, ℕ, Some, length, slice_get, arith, sym, refl, subst, ap, vec_len}
use Rattle.std.specs.Option.{option_map}
use Rattle.std.proofs.lemmas.Option.{slice_get_read}
use Rattle.task_syntax.specs.Places.{instr_at}
use Rattle.task_syntax.specs.Valid.{JumpsTo}
use Rattle.task_syntax.specs.declared.instr.Line.{Line}
use Rattle.task_check.specs.Known.{knows, answer_after, IsWithin}
use Rattle.task_check.specs.Faults.{IsFirst, LineFault}
use Rattle.task_check.specs.Ways.{Takes, Passes, GoesOnTo}
use Rattle.task_check.proofs.Lacks.{same-some}
use Rattle.task_check.proofs.Places.{formed-at, formed-within, jumps-or-not}
use Rattle.task_check.proofs.Passing.{taken-way, arrived-next, takes-sized, passes-sized, jump-inside, next-inside}
use Rattle.task_check.proofs.state.pass.Goals as goal

pub take-requires-clause-within : goal.take-requires-clause-within
take-requires-clause-within c = omega (arith, c.requires.arrived.long)

pub take-requires-clause-sized : goal.take-requires-clause-sized
take-requires-clause-sized c = rw c.len.ensures c.requires.arrived.sized

pub line_fault-requires-clause-known : goal.line_fault-requires-clause-known
line_fault-requires-clause-known c =
    let taken : Takes (length c.args.kind.now.variables) c.args.at c.in_ok-known.known c.args.arriving.now.items c.take.new.arriving.items = subst (λ m. Takes m c.args.at c.in_ok-known.known c.args.arriving.now.items c.take.new.arriving.items) c.len.ensures c.in_ok-known.ensures in
    taken.sized

pub line_fault-requires-clause-line : goal.line_fault-requires-clause-line
line_fault-requires-clause-line c =
    let n : ℕ = length c.args.kind.now.variables in
    let line : Line = c.index-as_slice-at.result in
    let here : slice_get c.args.state.now.code c.args.at ≡ Some line = slice_get_read c.args.state.now.code (length c.args.state.now.code) c.args.at line refl c.requires.within (rw c.as_slice.ensures at c.index-as_slice-at.is) in
    let stands : instr_at c.args.state.now c.args.at ≡ Some line.instr = ap (λ o. option_map (λ (l : Line). l.instr) o) here in
    (c.args.state.now, c.args.at, formed-at c.args.program.now c.args.kind.now c.args.state.now c.requires.state c.args.at line.instr stands)

pub jump-requires-clause-within : goal.jump-requires-clause-within
jump-requires-clause-within c =
    let n : ℕ = length c.args.kind.now.variables in
    let line : Line = c.index-as_slice-at.result in
    let here : slice_get c.args.state.now.code c.args.at ≡ Some line = slice_get_read c.args.state.now.code (length c.args.state.now.code) c.args.at line refl c.requires.within (rw c.as_slice.ensures at c.index-as_slice-at.is) in
    let stands : instr_at c.args.state.now c.args.at ≡ Some line.instr = ap (λ o. option_map (λ (l : Line). l.instr) o) here in
    let taken : Takes n c.args.at c.in_ok-known.known c.args.arriving.now.items c.take.new.arriving.items = subst (λ m. Takes m c.args.at c.in_ok-known.known c.args.arriving.now.items c.take.new.arriving.items) c.len.ensures c.in_ok-known.ensures in
    let one : length c.take.new.arriving.items ≡ length c.args.arriving.now.items = taken.long in
    let two : length c.args.arriving.now.items ≡ length c.args.state.now.code = c.requires.arrived.long in
    λ to j. let h : to < length c.args.state.now.code = jump-inside c.args.program.now c.args.kind.now c.args.state.now c.args.at line.instr to (formed-at c.args.program.now c.args.kind.now c.args.state.now c.requires.state c.args.at line.instr stands) j in
    omega arith

pub jump-requires-clause-sized : goal.jump-requires-clause-sized
jump-requires-clause-sized c =
    let n : ℕ = length c.args.kind.now.variables in
    let line : Line = c.index-as_slice-at.result in
    let here : slice_get c.args.state.now.code c.args.at ≡ Some line = slice_get_read c.args.state.now.code (length c.args.state.now.code) c.args.at line refl c.requires.within (rw c.as_slice.ensures at c.index-as_slice-at.is) in
    let stands : instr_at c.args.state.now c.args.at ≡ Some line.instr = ap (λ o. option_map (λ (l : Line). l.instr) o) here in
    let taken : Takes n c.args.at c.in_ok-known.known c.args.arriving.now.items c.take.new.arriving.items = subst (λ m. Takes m c.args.at c.in_ok-known.known c.args.arriving.now.items c.take.new.arriving.items) c.len.ensures c.in_ok-known.ensures in
    rw taken.sized (takes-sized n c.args.at c.in_ok-known.known c.args.arriving.now.items c.take.new.arriving.items taken c.requires.arrived.sized)

pub go_on-requires-clause-instr : goal.go_on-requires-clause-instr
go_on-requires-clause-instr c =
    let n : ℕ = length c.args.kind.now.variables in
    let line : Line = c.index-as_slice-at.result in
    let here : slice_get c.args.state.now.code c.args.at ≡ Some line = slice_get_read c.args.state.now.code (length c.args.state.now.code) c.args.at line refl c.requires.within (rw c.as_slice.ensures at c.index-as_slice-at.is) in
    let stands : instr_at c.args.state.now c.args.at ≡ Some line.instr = ap (λ o. option_map (λ (l : Line). l.instr) o) here in
    let taken : Takes n c.args.at c.in_ok-known.known c.args.arriving.now.items c.take.new.arriving.items = subst (λ m. Takes m c.args.at c.in_ok-known.known c.args.arriving.now.items c.take.new.arriving.items) c.len.ensures c.in_ok-known.ensures in
    subst (λ m. IsWithin m line.instr) (sym taken.sized) (formed-within c.args.program.now c.args.kind.now c.args.state.now c.args.at line.instr (formed-at c.args.program.now c.args.kind.now c.args.state.now c.requires.state c.args.at line.instr stands))

pub go_on-requires-clause-small : goal.go_on-requires-clause-small
go_on-requires-clause-small c =
    let n : ℕ = length c.args.kind.now.variables in
    let line : Line = c.index-as_slice-at.result in
    let here : slice_get c.args.state.now.code c.args.at ≡ Some line = slice_get_read c.args.state.now.code (length c.args.state.now.code) c.args.at line refl c.requires.within (rw c.as_slice.ensures at c.index-as_slice-at.is) in
    let stands : instr_at c.args.state.now c.args.at ≡ Some line.instr = ap (λ o. option_map (λ (l : Line). l.instr) o) here in
    let taken : Takes n c.args.at c.in_ok-known.known c.args.arriving.now.items c.take.new.arriving.items = subst (λ m. Takes m c.args.at c.in_ok-known.known c.args.arriving.now.items c.take.new.arriving.items) c.len.ensures c.in_ok-known.ensures in
    let size : vec_len c.in_ok-known.known.members ≡ length c.args.kind.now.variables = taken.sized in
    omega (arith, c.requires.kind.variables_fit)

pub go_on-requires-clause-within : goal.go_on-requires-clause-within
go_on-requires-clause-within c =
    let n : ℕ = length c.args.kind.now.variables in
    let line : Line = c.index-as_slice-at.result in
    let here : slice_get c.args.state.now.code c.args.at ≡ Some line = slice_get_read c.args.state.now.code (length c.args.state.now.code) c.args.at line refl c.requires.within (rw c.as_slice.ensures at c.index-as_slice-at.is) in
    let stands : instr_at c.args.state.now c.args.at ≡ Some line.instr = ap (λ o. option_map (λ (l : Line). l.instr) o) here in
    let taken : Takes n c.args.at c.in_ok-known.known c.args.arriving.now.items c.take.new.arriving.items = subst (λ m. Takes m c.args.at c.in_ok-known.known c.args.arriving.now.items c.take.new.arriving.items) c.len.ensures c.in_ok-known.ensures in
    let leaps : Passes n (λ q. knows q c.in_ok-known.known) (JumpsTo line.instr) c.take.new.arriving.items c.jump.new.arriving.items = subst (λ m. Passes m (λ q. knows q c.in_ok-known.known) (JumpsTo line.instr) c.take.new.arriving.items c.jump.new.arriving.items) taken.sized c.in_ok-jump.ensures in
    let one : length c.take.new.arriving.items ≡ length c.args.arriving.now.items = taken.long in
    let two : length c.args.arriving.now.items ≡ length c.args.state.now.code = c.requires.arrived.long in
    let three : length c.jump.new.arriving.items ≡ length c.take.new.arriving.items = leaps.3.long in
    omega (arith, c.requires.within)

pub go_on-requires-clause-next : goal.go_on-requires-clause-next
go_on-requires-clause-next c =
    let n : ℕ = length c.args.kind.now.variables in
    let line : Line = c.index-as_slice-at.result in
    let here : slice_get c.args.state.now.code c.args.at ≡ Some line = slice_get_read c.args.state.now.code (length c.args.state.now.code) c.args.at line refl c.requires.within (rw c.as_slice.ensures at c.index-as_slice-at.is) in
    let stands : instr_at c.args.state.now c.args.at ≡ Some line.instr = ap (λ o. option_map (λ (l : Line). l.instr) o) here in
    let taken : Takes n c.args.at c.in_ok-known.known c.args.arriving.now.items c.take.new.arriving.items = subst (λ m. Takes m c.args.at c.in_ok-known.known c.args.arriving.now.items c.take.new.arriving.items) c.len.ensures c.in_ok-known.ensures in
    let leaps : Passes n (λ q. knows q c.in_ok-known.known) (JumpsTo line.instr) c.take.new.arriving.items c.jump.new.arriving.items = subst (λ m. Passes m (λ q. knows q c.in_ok-known.known) (JumpsTo line.instr) c.take.new.arriving.items c.jump.new.arriving.items) taken.sized c.in_ok-jump.ensures in
    let one : length c.take.new.arriving.items ≡ length c.args.arriving.now.items = taken.long in
    let two : length c.args.arriving.now.items ≡ length c.args.state.now.code = c.requires.arrived.long in
    let three : length c.jump.new.arriving.items ≡ length c.take.new.arriving.items = leaps.3.long in
    λ goes. let h : c.args.at + 1 < length c.args.state.now.code = next-inside c.args.program.now c.args.kind.now c.args.state.now c.requires.state c.args.at line.instr stands c.requires.within goes in
    omega arith

pub go_on-requires-clause-sized : goal.go_on-requires-clause-sized
go_on-requires-clause-sized c =
    let n : ℕ = length c.args.kind.now.variables in
    let line : Line = c.index-as_slice-at.result in
    let here : slice_get c.args.state.now.code c.args.at ≡ Some line = slice_get_read c.args.state.now.code (length c.args.state.now.code) c.args.at line refl c.requires.within (rw c.as_slice.ensures at c.index-as_slice-at.is) in
    let stands : instr_at c.args.state.now c.args.at ≡ Some line.instr = ap (λ o. option_map (λ (l : Line). l.instr) o) here in
    let taken : Takes n c.args.at c.in_ok-known.known c.args.arriving.now.items c.take.new.arriving.items = subst (λ m. Takes m c.args.at c.in_ok-known.known c.args.arriving.now.items c.take.new.arriving.items) c.len.ensures c.in_ok-known.ensures in
    let leaps : Passes n (λ q. knows q c.in_ok-known.known) (JumpsTo line.instr) c.take.new.arriving.items c.jump.new.arriving.items = subst (λ m. Passes m (λ q. knows q c.in_ok-known.known) (JumpsTo line.instr) c.take.new.arriving.items c.jump.new.arriving.items) taken.sized c.in_ok-jump.ensures in
    rw taken.sized (passes-sized n (λ q. knows q c.in_ok-known.known) (JumpsTo line.instr) c.take.new.arriving.items c.jump.new.arriving.items (λ to. jumps-or-not line.instr to) leaps
    (takes-sized n c.args.at c.in_ok-known.known c.args.arriving.now.items c.take.new.arriving.items taken c.requires.arrived.sized))

pub returns-clause-arrived : goal.returns-clause-arrived
returns-clause-arrived c =
    let n : ℕ = length c.args.kind.now.variables in
    let line : Line = c.index-as_slice-at.result in
    let here : slice_get c.args.state.now.code c.args.at ≡ Some line = slice_get_read c.args.state.now.code (length c.args.state.now.code) c.args.at line refl c.requires.within (rw c.as_slice.ensures at c.index-as_slice-at.is) in
    let stands : instr_at c.args.state.now c.args.at ≡ Some line.instr = ap (λ o. option_map (λ (l : Line). l.instr) o) here in
    let taken : Takes n c.args.at c.in_ok-known.known c.args.arriving.now.items c.take.new.arriving.items = subst (λ m. Takes m c.args.at c.in_ok-known.known c.args.arriving.now.items c.take.new.arriving.items) c.len.ensures c.in_ok-known.ensures in
    let leaps : Passes n (λ q. knows q c.in_ok-known.known) (JumpsTo line.instr) c.take.new.arriving.items c.jump.new.arriving.items = subst (λ m. Passes m (λ q. knows q c.in_ok-known.known) (JumpsTo line.instr) c.take.new.arriving.items c.jump.new.arriving.items) taken.sized c.in_ok-jump.ensures in
    let goes : Passes n (answer_after line.instr (λ q. knows q c.in_ok-known.known)) (GoesOnTo line.instr c.args.at) c.jump.new.arriving.items c.go_on.new.arriving.items =
    subst (λ m. Passes m (answer_after line.instr (λ q. knows q c.in_ok-known.known)) (GoesOnTo line.instr c.args.at) c.jump.new.arriving.items c.go_on.new.arriving.items) taken.sized c.go_on.ensures in
    arrived-next c.args.program.now c.args.kind.now c.args.state.now c.requires.state c.args.at c.requires.within line.instr stands c.in_ok-known.known
    c.args.arriving.now.items c.take.new.arriving.items c.jump.new.arriving.items c.go_on.new.arriving.items c.requires.arrived taken leaps goes

pub returns-clause-first : goal.returns-clause-first
returns-clause-first c =
    let n : ℕ = length c.args.kind.now.variables in
    let line : Line = c.index-as_slice-at.result in
    let here : slice_get c.args.state.now.code c.args.at ≡ Some line = slice_get_read c.args.state.now.code (length c.args.state.now.code) c.args.at line refl c.requires.within (rw c.as_slice.ensures at c.index-as_slice-at.is) in
    let stands : instr_at c.args.state.now c.args.at ≡ Some line.instr = ap (λ o. option_map (λ (l : Line). l.instr) o) here in
    let taken : Takes n c.args.at c.in_ok-known.known c.args.arriving.now.items c.take.new.arriving.items = subst (λ m. Takes m c.args.at c.in_ok-known.known c.args.arriving.now.items c.take.new.arriving.items) c.len.ensures c.in_ok-known.ensures in
    λ other e. subst (λ l. IsFirst (LineFault c.args.program.now c.args.kind.now c.args.state.now c.args.at l) c.in_ok-fault.fault) (same-some (slice_get c.args.state.now.code c.args.at) line other here e)
    (c.in_ok-fault.ensures c.args.state.now c.args.at
    (taken-way c.args.program.now c.args.kind.now c.args.state.now c.requires.state c.args.at c.requires.within c.in_ok-known.known c.args.arriving.now.items c.take.new.arriving.items c.requires.arrived taken))
