-- A text that spells a program spells a well-formed one.
use Rattle.task_reader.proofs.Vocabulary.{◌≡◌, ℕ, ◌+◌, List, [], ◌∷◌, Ok, map, length, refl, sym, ◌∙◌, ap, subst, arith, length-map, AllDiffer, IsFormedRoot, IsWellFormed, Kind, Root, Program, Row, lines_of, without_mark, rows_of, Item, first_scope, RowsSpell, kind_names, names_known, kinds_from, roots_from, program_of, Spelled, root_names}
use Rattle.task_reader.proofs.Stands.{Stand, AreNames, no-names, kind-names, root-names, names-of-kinds, names-of-roots, rows-stand}
use Rattle.task_reader.proofs.FormedKinds.{kinds-formed}
use Rattle.task_reader.proofs.FormedRoots.{roots-formed}
use Rattle.task_reader.proofs.Lines.{RowsRise, ItemsRise, rows-rise, items-rise, lines-differ}

pub items-formed : (items : List Item) (n : ℕ) → Stand first_scope items → ItemsRise n items → names_known items first_scope items ≡ Ok tt → IsWellFormed (program_of items)
unfolding program_of
items-formed items n stand rise known = record {
  kinds_fit = omega (arith, kind_count, kinds_are.fit);
  kind_names_differ = subst (λ names. AllDiffer names) (sym same_kinds) kinds_are.differ;
  kinds = kinds-formed p (kind_names items) kind_count items refl items first_scope stand known;
  roots_fit = omega (arith, root_count, roots_are.fit);
  root_names_differ = subst (λ names. AllDiffer names) (sym same_roots) roots_are.differ;
  roots = λ at root e. let z : 0 + at ≡ at = omega arith in
      subst (λ n. IsFormedRoot p n root) z (roots-formed p (kind_names items) kind_count items refl items first_scope stand known at root e);
  lines_differ = lines-differ (kind_names items) [] items first_scope n stand rise;
} where
  p : Program
  p = program_of items

  kinds_are : AreNames 64 (kind_names items)
  kinds_are = kind-names items first_scope stand (no-names 64)

  roots_are : AreNames 16 (root_names items)
  roots_are = root-names items first_scope stand (no-names 16)

  same_kinds : map (λ (k : Kind). k.name) (kinds_from (kind_names items) items) ≡ kind_names items
  same_kinds = names-of-kinds (kind_names items) items

  same_roots : map (λ (r : Root). r.name) (roots_from (kind_names items) [] items) ≡ root_names items
  same_roots = names-of-roots (kind_names items) items []

  kind_count : length (kinds_from (kind_names items) items) ≡ length (kind_names items)
  kind_count = sym (length-map (kinds_from (kind_names items) items) (λ (k : Kind). k.name)) ∙ ap length same_kinds

  root_count : length (roots_from (kind_names items) [] items) ≡ length (root_names items)
  root_count = sym (length-map (roots_from (kind_names items) [] items) (λ (r : Root). r.name)) ∙ ap length same_roots

text-formed : (rows : List Row) (n : ℕ) (items : List Item) → RowsRise n rows → RowsSpell rows items → names_known items first_scope items ≡ Ok tt → IsWellFormed (program_of items)
text-formed [] n items rise h known = absurd h
text-formed (row ∷ rows) n items rise h known =
    items-formed items (row.line + 1) (rows-stand first_scope rows items h.1) (items-rise (row.line + 1) first_scope rows items rise.1 h.1) known

-- what a text spells is well formed
pub Spelled-formed : (text : List ℕ) (p : Program) → Spelled text p → IsWellFormed p
Spelled-formed text p spelled = subst IsWellFormed (sym spelled.2)
    (text-formed (rows_of text) 1 spelled.0 (rows-rise (lines_of (without_mark text)) 1) spelled.1.0 spelled.1.1)
