-- A program has one canonical text.
use Rattle.task_writer.proofs.Vocabulary.{◌≡◌, ℕ, ◌+◌, List, [], ◌∷◌, map, Ok, refl, sym, ◌∙◌, ap, subst, flat_map, Program, Word, What, Item, Scope, first_scope, after, RowsSpellFrom, RowsSpell, program_in, program_of, IsWellFormed, program_in-spelled, program_in-formed, rows-stand, line_words, lines_of_program, header_words, text_of, EachTidy, IsCanonical}
use Rattle.task_writer.proofs.Itemized.{numbered}
use Rattle.task_writer.proofs.RowsOfText.{parted-rows}
use Rattle.task_writer.proofs.CanonicalText.{written, text-parted}
use Rattle.task_writer.proofs.UniqueWords.{line-unique}
use Rattle.task_writer.proofs.LinesAhead.{whats, IsOrdered, ordered-tail}
use Rattle.task_writer.proofs.UniqueLines.{items-lines}

-- ---- the items of tidy rows

rows-words : (s : Scope) (at : ℕ) (lines : List (List Word)) (items : List Item) → EachTidy lines → RowsSpellFrom s (numbered at lines) items → lines ≡ map line_words (whats items)
rows-words s at [] [] t h = refl
rows-words s at [] (item ∷ items) t h = absurd h
rows-words s at (line ∷ lines) [] t h = absurd h
rows-words s at (line ∷ lines) (item ∷ items) t h =
    ap (λ (l : List Word). l ∷ lines) (line-unique line item.what h.1 t.1)
    ∙ ap (λ (ls : List (List Word)). line_words item.what ∷ ls) (rows-words (after s item.what) (at + 1) lines items t.2 h.3)

-- ---- texts

lines-text : (p : Program) (items : List Item) → p ≡ program_of items → lines_of_program (program_of items) ≡ whats items
    → text_of p ≡ flat_map written (header_words ∷ map line_words (whats items))
lines-text p items e f =
    text-parted p ∙ ap (λ (ws : List What). flat_map written (header_words ∷ map line_words ws)) (ap lines_of_program e ∙ f)

from-lines : (lines : List (List Word)) (items : List Item) (p : Program) → EachTidy lines → IsOrdered lines
    → RowsSpell (numbered 1 lines) items → IsWellFormed p → p ≡ program_of items → text_of p ≡ flat_map written lines
from-lines [] items p tidy o spells formed e = absurd spells
from-lines (header ∷ lines) items p tidy o spells formed e =
    let words = rows-words first_scope 2 lines items tidy.2 spells.1 in
    let ordered = subst IsOrdered words (ordered-tail header lines o) in
    lines-text p items e (items-lines items (rows-stand first_scope (numbered 2 lines) items spells.1) ordered (subst IsWellFormed e formed))
    ∙ (ap (λ (ls : List (List Word)). flat_map written (header_words ∷ ls)) (sym words) ∙ ap (λ (h : List Word). flat_map written (h ∷ lines)) (sym spells.0))

pub prints_what_it_read : (text : List ℕ) (p : Program) → IsCanonical text → program_in text ≡ Ok p → text_of p ≡ text
prints_what_it_read text p c e =
    let spelled = program_in-spelled text p e in
    let rows = parted-rows text c.lines c.parted c.tidy in
    from-lines c.lines spelled.0 p c.tidy (c.one_var, c.roots_last) (subst (λ rows. RowsSpell rows spelled.0) rows spelled.1.0) (program_in-formed text p e) spelled.2 ∙ sym c.parted
