-- One item after the other.
use Rattle.task_reader.proofs.Vocabulary.{◌≡◌, ◌≤◌, ◌<◌, ℕ, ◌+◌, List, [], ◌∷◌, length, get_or, drop, Ok, Err, refl, ap, subst, sym, ◌∙◌, drop_more, drop_all, TextError, Gives, Item, Scope, after, Fault, kind_names, line_known, known_among, known_at, names_known, IsShort, EachIsShort}
use Rattle.task_text.specs.Fault.{◌>>◌}

pub short-turn : (items : List Item) (at : ℕ) (item : Item) → at < length items → item ≡ get_or items at item → EachIsShort (drop at items)
    → IsShort item.what (drop (at + 1) items) × EachIsShort (drop (at + 1) items)
short-turn items at item l e h =
    let t : EachIsShort (item ∷ drop (at + 1) items) = subst EachIsShort (drop_more items at item l ∙ ap (λ (x : Item). x ∷ drop (at + 1) items) (sym e)) h in (t.0, t.1)

pub names-turn : (all items : List Item) (s : Scope) (at : ℕ) (item : Item) → at < length items → item ≡ get_or items at item
    → names_known all s (drop at items)
    ≡ (line_known (known_at all s (drop (at + 1) items)) item.line item.what >> names_known all (after s item.what) (drop (at + 1) items))
unfolding names_known
names-turn all items s at item l e = ap (names_known all s) (drop_more items at item l ∙ ap (λ (x : Item). x ∷ drop (at + 1) items) (sym e))

pub names-end : (all items : List Item) (s : Scope) (at : ℕ) → length items ≤ at → names_known all s (drop at items) ≡ names_known all s []
names-end all items s at l = ap (names_known all s) (drop_all at items l)

pub names-fault : (all items : List Item) (kinds : List (List ℕ)) (s : Scope) (at : ℕ) (item : Item) (fault : Fault)
    → kinds ≡ kind_names all → at < length items → item ≡ get_or items at item
    → line_known (known_among kinds s (drop (at + 1) items)) item.line item.what ≡ Err fault
    → names_known all s (drop at items) ≡ Err fault
names-fault all items kinds s at item fault k l e h =
    let q : line_known (known_at all s (drop (at + 1) items)) item.line item.what ≡ Err fault = rw (← k) h in
    names-turn all items s at item l e ∙ rw q refl

-- the same, or memory fails
pub names-fault-or : (all items : List Item) (kinds : List (List ℕ)) (s : Scope) (at : ℕ) (item : Item) (fault : TextError)
    → kinds ≡ kind_names all → at < length items → item ≡ get_or items at item
    → Gives {A = Unit {0}} {B = Unit {0}} (λ u. u) (Err fault) (line_known (known_among kinds s (drop (at + 1) items)) item.line item.what)
    → Gives {A = Unit {0}} {B = Unit {0}} (λ u. u) (Err fault) (names_known all s (drop at items))
names-fault-or all items kinds s at item (TextError.Fault fault) k l e h = names-fault all items kinds s at item fault k l e h
names-fault-or all items kinds s at item TextError.Memory k l e h = tt

pub names-next : (all items : List Item) (kinds : List (List ℕ)) (s : Scope) (at : ℕ) (item : Item) (u : Unit {0})
    → kinds ≡ kind_names all → at < length items → item ≡ get_or items at item
    → line_known (known_among kinds s (drop (at + 1) items)) item.line item.what ≡ Ok u
    → names_known all s (drop at items) ≡ names_known all (after s item.what) (drop (at + 1) items)
names-next all items kinds s at item u k l e h =
    let q : line_known (known_at all s (drop (at + 1) items)) item.line item.what ≡ Ok u = rw (← k) h in
    names-turn all items s at item l e ∙ rw q refl

pub names-done : (all items : List Item) (s : Scope) (at : ℕ) → length items ≤ at → names_known all s (drop at items) ≡ Ok tt
unfolding names_known
names-done all items s at l = names-end all items s at l
