-- The canonical text of a well-formed program is read as that program.
use Rattle.task_writer.proofs.Vocabulary.{◌≡◌, ◌∷◌, Ok, refl, sym, subst, IsWellFormed, Program, first_scope, RowsSpell, program_in, Spelled, spelled-accepts, line_words, lines_of_program, header_words, text_of, renumbered, kind_names, map}
use Rattle.task_writer.proofs.Itemized.{items_at, numbered}
use Rattle.task_writer.proofs.RowsOfText.{parted-rows}
use Rattle.task_writer.proofs.CanonicalText.{text-parted, lines-tidy}
use Rattle.task_writer.proofs.StandingCode.{rows-spell, names-given}
use Rattle.task_writer.proofs.StandingKinds.{lines-stand}
use Rattle.task_writer.proofs.ReadProgram.{names-back, program_of-lines}

pub text-spelled : (p : Program) → IsWellFormed p → Spelled (text_of p) (renumbered p)
text-spelled p formed =
    let ws = lines_of_program p in
    let stand = lines-stand p formed in
    let rows = parted-rows (text_of p) (header_words ∷ map line_words ws) (text-parted p) (lines-tidy p formed) in
    let spells : RowsSpell (numbered 1 (header_words ∷ map line_words ws)) (items_at 2 ws) = (refl, rows-spell (kind_names p.kinds) ws first_scope 2 stand) in (
      items_at 2 ws,
      (subst (λ rows. RowsSpell rows (items_at 2 ws)) (sym rows) spells, names-given (items_at 2 ws) (kind_names p.kinds) (names-back p) ws first_scope 2 stand),
      sym (program_of-lines p formed),
    )

pub reads_back : (p : Program) → IsWellFormed p → program_in (text_of p) ≡ Ok (renumbered p)
reads_back p formed = spelled-accepts (text_of p) (renumbered p) (text-spelled p formed)
