-- A program is read where a text spells it, and nowhere else, and is well formed.
use Rattle.task_reader.proofs.Vocabulary.{◌≡◌, ℕ, List, Ok, ap, sym, IsWellFormed, Program, first_scope, items_of, goes-on, items_of-accepted, result-parts, same-answer, names_known, program_of, program_in, Spelled}
use Rattle.task_reader.proofs.FirstFaults.{items-answer}
use Rattle.task_reader.proofs.Formed.{Spelled-formed}

pub program_in-spelled : (text : List ℕ) (p : Program) → program_in text ≡ Ok p → Spelled text p
unfolding program_in
program_in-spelled text p e =
    let i = result-parts (items_of text) _ p e in
    let n = result-parts (names_known i.0 first_scope i.0) _ p i.2 in
    (i.0, (items-answer text (Ok i.0) i.1, n.1), sym (same-answer (program_of i.0) p n.2))

pub program_in-formed : (text : List ℕ) (p : Program) → program_in text ≡ Ok p → IsWellFormed p
program_in-formed text p e = Spelled-formed text p (program_in-spelled text p e)

-- what a text spells is read from it
pub spelled-accepts : (text : List ℕ) (p : Program) → Spelled text p → program_in text ≡ Ok p
unfolding program_in
spelled-accepts text p spelled =
    goes-on (items_of text) _ spelled.0 p (items_of-accepted text spelled.0 spelled.1.0)
    (goes-on (names_known spelled.0 first_scope spelled.0) _ tt p spelled.1.1 (ap (λ (q : Program). Ok q) (sym spelled.2)))
