use Rattle.std.proofs.Common.{◌≡◌, ◌+◌, ℕ, List, length, slice_index, ap, subst, arith}
use Rattle.std.specs.List.{refill}
use Rattle.frame_code.specs.Control.{control_at, control_state}
use Rattle.frame_code.specs.Run.{unpacked, IsMovedTo}
use Rattle.frame_code.specs.declared.words.Control.{Control}
use Rattle.frame_code.proofs.PassedFrames.{passes-past, of-past, next-fits, passed-clauses, written-next}
use Rattle.frame_code.proofs.moves.pass_on.Goals as goal

pub stand-requires-clause-at : goal.stand-requires-clause-at
stand-requires-clause-at c =
    let old = c.args.frame.now.items in
    let past = passes-past c.args.checked.now old c.requires.passed in
    let fits = next-fits c.args.checked.now old past.0 c.program-program.ensures.formed past.1 (of-past c.args.checked.now old past.0 past.1) in
    let same : control_at (slice_index c.as_mut_slice-words.result.now 0) ≡ control_at (slice_index old 0)
    = ap (λ l. control_at (slice_index l 0)) c.as_mut_slice-words.ensures.value in
    let is : c.unpack-control.result.at ≡ control_at (slice_index c.as_mut_slice-words.result.now 0) = ap (λ (x : Control). x.at) c.unpack-control.ensures in
    omega (arith, fits, same, is)

-- the words of the frame at the end
written : (old read new : List ℕ) (control : Control) → read ≡ old → control ≡ unpacked (slice_index read 0) → IsMovedTo control.state (control.at + 1) read new
    → IsMovedTo (control_state (slice_index old 0)) (control_at (slice_index old 0) + 1) old (refill (length old) old new)
written old read new control same says moved =
    subst (λ l. IsMovedTo (control_state (slice_index old 0)) (control_at (slice_index old 0) + 1) l (refill (length old) old new)) same
    (written-next old read read new control same says (ap length same) moved)

pub returns-clause-frame : goal.returns-clause-frame
returns-clause-frame c =
    let old = c.args.frame.now.items in
    let past = passes-past c.args.checked.now old c.requires.passed in
    (passed-clauses c.args.checked.now old past.0 c.program-program.ensures.formed past.1 (of-past c.args.checked.now old past.0 past.1) _ c.requires.frame
    (written old c.as_mut_slice-words.result.now c.stand.new.words c.unpack-control.result c.as_mut_slice-words.ensures.value c.unpack-control.ensures c.stand.ensures)).0

pub returns-clause-moved : goal.returns-clause-moved
returns-clause-moved c =
    let old = c.args.frame.now.items in
    let past = passes-past c.args.checked.now old c.requires.passed in
    (passed-clauses c.args.checked.now old past.0 c.program-program.ensures.formed past.1 (of-past c.args.checked.now old past.0 past.1) _ c.requires.frame
    (written old c.as_mut_slice-words.result.now c.stand.new.words c.unpack-control.result c.as_mut_slice-words.ensures.value c.unpack-control.ensures c.stand.ensures)).1

pub returns-clause-way : goal.returns-clause-way
returns-clause-way c =
    let old = c.args.frame.now.items in
    let past = passes-past c.args.checked.now old c.requires.passed in
    (passed-clauses c.args.checked.now old past.0 c.program-program.ensures.formed past.1 (of-past c.args.checked.now old past.0 past.1) _ c.requires.frame
    (written old c.as_mut_slice-words.result.now c.stand.new.words c.unpack-control.result c.as_mut_slice-words.ensures.value c.unpack-control.ensures c.stand.ensures)).2
