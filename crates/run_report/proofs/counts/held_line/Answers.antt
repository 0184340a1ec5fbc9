use Rattle.std.proofs.Common.{Some, ap, sym, ◌∙◌}
use Rattle.run_report.proofs.Held.{four_members, held_text}
use Rattle.run_report.proofs.counts.held_line.Goals as goal

pub returns-clause-text : goal.returns-clause-text
returns-clause-text g c = held_text _ _ _ _ _ _ _ _ _ _ c.line_from-line.ensures c.push_number.ensures.text c.push_number-2.ensures.text c.push_number-3.ensures.text c.push_number-4.ensures.text
    (four_members _ _ _ _ _ c.requires (c.held.ensures ∙ ap Some (sym c.from.ensures)) (c.held-2.ensures ∙ ap Some (sym c.from-2.ensures)) (c.held-3.ensures ∙ ap Some (sym c.from-3.ensures)) (c.held-4.ensures ∙ ap Some (sym c.from-4.ensures)))
