use Rattle.std.proofs.Common.{◌≡◌, ◌<◌, Some, length, slice_get, refl, arith}
use Rattle.std.proofs.lemmas.Option.{slice_get_read, slice_get_within}
use Rattle.task_syntax.specs.declared.program.Kind.{Kind}
use Rattle.task_check.proofs.LineFaults.{entry-of}
use Rattle.task_check.proofs.RootFaults.{root-first, root-within}
use Rattle.task_check.proofs.root.root_fault.Goals as goal

pub root_misfit-requires : goal.root_misfit-requires
root_misfit-requires c =
    let formed = c.requires.program.roots c.requires.root.0 c.args.root.now c.requires.root.1 in
    let k : Kind = c.index-as_slice-root.result in
    let stands : slice_get c.args.program.now.kinds c.args.root.now.kind ≡ Some k = slice_get_read c.args.program.now.kinds (length c.args.program.now.kinds) c.args.root.now.kind k refl formed.kind (rw c.as_slice.ensures at c.index-as_slice-root.is) in
    (c.requires.program.kinds c.args.root.now.kind k stands).arguments_are_variables

pub root_needs-requires-clause-callee : goal.root_needs-requires-clause-callee
root_needs-requires-clause-callee c =
    let formed = c.requires.program.roots c.requires.root.0 c.args.root.now c.requires.root.1 in
    let k : Kind = c.index-as_slice-root.result in
    let stands : slice_get c.args.program.now.kinds c.args.root.now.kind ≡ Some k = slice_get_read c.args.program.now.kinds (length c.args.program.now.kinds) c.args.root.now.kind k refl formed.kind (rw c.as_slice.ensures at c.index-as_slice-root.is) in
    (c.requires.program.kinds c.args.root.now.kind k stands).has_state

pub root_needs-requires-clause-arguments : goal.root_needs-requires-clause-arguments
root_needs-requires-clause-arguments c =
    let formed = c.requires.program.roots c.requires.root.0 c.args.root.now c.requires.root.1 in
    let inside : c.requires.root.0 < length c.args.program.now.roots = slice_get_within c.args.program.now.roots c.requires.root.0 c.args.root.now c.requires.root.1 in
    λ i a e. root-within c.args.program.now c.requires.root.0 a (omega arith) (formed.arguments i a e)

pub returns : goal.returns
returns c =
    let formed = c.requires.program.roots c.requires.root.0 c.args.root.now c.requires.root.1 in
    let k : Kind = c.index-as_slice-root.result in
    let stands : slice_get c.args.program.now.kinds c.args.root.now.kind ≡ Some k = slice_get_read c.args.program.now.kinds (length c.args.program.now.kinds) c.args.root.now.kind k refl formed.kind (rw c.as_slice.ensures at c.index-as_slice-root.is) in
    let entry = entry-of k (c.requires.program.kinds c.args.root.now.kind k stands).has_state in
    rw c.earlier.ensures (root-first c.args.program.now c.args.root.now k entry.0 stands entry.1 c.in_ok-misfit.misfit c.in_ok-state_needs.state_needs c.in_ok-misfit.ensures (c.in_ok-state_needs.ensures entry.0 entry.1))

pub bounds-as_slice-root : goal.bounds-as_slice-root
bounds-as_slice-root c = rw c.as_slice.ensures ((c.requires.program.roots c.requires.root.0 c.args.root.now c.requires.root.1).kind)
