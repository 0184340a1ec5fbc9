-- The fault of a text is the first one, of its lines or of their names.
use Rattle.task_reader.proofs.Vocabulary.{◌≡◌, ℕ, List, Result, Ok, Err, refl, ◌∙◌, ap, inl, inr, Program, Fault, Item, first_scope, items_of, items_of-accepted, names_known, program_of, program_in, IsFirstFault}
use Rattle.task_text.specs.Fault.{◌>>=◌}
use Rattle.task_reader.proofs.FirstFaults.{items-answer}
use Rattle.task_reader.proofs.FirstUnknown.{unknown-found}
use Rattle.task_reader.proofs.RowsTold.{stops, lines-told}
use Rattle.task_reader.proofs.NamesTold.{unknown-told}

same-fault : {A : Type 0} (f g : Fault) → ◌≡◌ {A = Result A Fault} (Err f) (Err g) → f ≡ g
same-fault f g e = cc

-- the fault that the reading of a text gives is its first
pub program-first : (text : List ℕ) (fault : Fault) → program_in text ≡ Err fault → IsFirstFault text fault
unfolding program_in
program-first text fault e = by (items_of text) refl e where
  by : (o : Result (List Item) Fault) → items_of text ≡ o
      → (o >>= (λ (items : List Item). names_known items first_scope items >>= (λ (u : Unit {0}). Ok (program_of items)))) ≡ Err fault → IsFirstFault text fault
  by (Err f) is e = inl (items-answer text (Err fault) (is ∙ ap (λ (f : Fault). Err f) (same-fault {A = Program} f fault e)))
  by (Ok items) is e = named (names_known items first_scope items) refl e where
    named : (o : Result (Unit {0}) Fault) → names_known items first_scope items ≡ o → (o >>= (λ (u : Unit {0}). Ok (program_of items))) ≡ Err fault → IsFirstFault text fault
    named (Ok u) was e = cc
    named (Err f) was e = inr (unknown-found text items fault (items-answer text (Ok items) is) (was ∙ ap (λ (f : Fault). Err f) (same-fault {A = Program} f fault e)))

-- the first fault of a text is what its reading gives
pub first-told : (text : List ℕ) (fault : Fault) → IsFirstFault text fault → program_in text ≡ Err fault
unfolding program_in
first-told text fault (inl h) = stops (items_of text) _ fault (lines-told text fault h)
first-told text fault (inr u) =
    ap (λ (o : Result (List Item) Fault). o >>= (λ (items : List Item). names_known items first_scope items >>= (λ (u : Unit {0}). Ok (program_of items)))) (items_of-accepted text u.items u.spelled)
    ∙ stops (names_known u.items first_scope u.items) (λ (v : Unit {0}). Ok (program_of u.items)) fault (unknown-told text fault u)
