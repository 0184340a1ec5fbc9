use Rattle.std.proofs.Common.{◌≡◌, ◌∷◌, length, replicate, slice_get, sym, ◌∙◌, ap, subst, arith}
use Rattle.task_syntax.specs.declared.program.Program.{Program}
use Rattle.task_meaning.specs.Frame.{entry}
use Rattle.frame_code.specs.Words.{OfKind, variable_list, variables_at, body_of}
use Rattle.frame_code.specs.Frames.{IsFrame}
use Rattle.frame_code.specs.Setting.{bare_call}
use Rattle.frame_code.proofs.EntryFrames.{entry-frame}
use Rattle.frame_code.proofs.set_variables.at_entry.Goals as goal

pub returns-clause-frame : goal.returns-clause-frame
returns-clause-frame c =
    let p = c.args.checked.now in
    let n = c.len-variables.result in
    let read = c.program.result.now in
    let is : variables_at p c.args.kind ≡ c.kind_at.result.now.variables
    = ap (λ (r : Program). variable_list (slice_get r.kinds c.args.kind)) (sym c.program.ensures.same) ∙ ap variable_list c.kind_at.ensures in
    let many : n ≡ length (variables_at p c.args.kind) = omega (arith, c.len-variables.ensures, ap length is) in
    let e = entry-frame p c.args.kind n c.program.ensures.formed c.program.ensures.valid c.requires many in
    subst (IsFrame p) (sym (c.bare_frame.ensures ∙ ap (λ w. w ∷ replicate n 0) c.pack.ensures)) e.0

pub returns-clause-entry : goal.returns-clause-entry
returns-clause-entry c =
    let p = c.args.checked.now in
    let n = c.len-variables.result in
    let read = c.program.result.now in
    let is : variables_at p c.args.kind ≡ c.kind_at.result.now.variables
    = ap (λ (r : Program). variable_list (slice_get r.kinds c.args.kind)) (sym c.program.ensures.same) ∙ ap variable_list c.kind_at.ensures in
    let many : n ≡ length (variables_at p c.args.kind) = omega (arith, c.len-variables.ensures, ap length is) in
    let e = entry-frame p c.args.kind n c.program.ensures.formed c.program.ensures.valid c.requires many in
    subst (λ ws. body_of p ws ≡ OfKind (entry p (bare_call c.args.kind))) (sym (c.bare_frame.ensures ∙ ap (λ w. w ∷ replicate n 0) c.pack.ensures)) e.1
