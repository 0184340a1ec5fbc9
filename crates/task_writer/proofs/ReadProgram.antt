-- The lines of a well-formed program are read as that program, with the numbers of the lines.
use Rattle.task_writer.proofs.Vocabulary.{◌≡◌, ◌+◌, [], map, length, refl, ◌∙◌, flat_map, IsWellFormed, Program, program_of, renumbered, names_of_kinds, kind_names, root_names, kind_lines, root_line, lines_of_program}
use Rattle.task_writer.proofs.Itemized.{items_at}
use Rattle.task_writer.proofs.ReadCode.{from-start}
use Rattle.task_writer.proofs.ReadKinds.{kinds-back, kinds-named}
use Rattle.task_writer.proofs.ReadRoots.{roots-back, roots-no-kinds, roots-no-names, kinds-no-roots}

-- the items name the kinds of the program
pub names-back : (p : Program) → names_of_kinds (items_at 2 (lines_of_program p)) ≡ kind_names p.kinds
unfolding lines_of_program
names-back p = let names = kind_names p.kinds in
    let roots = root_names p.roots in
    kinds-named names (map (root_line names roots) p.roots) (roots-no-names names roots p.roots) p.kinds 2

pub program_of-lines : (p : Program) → IsWellFormed p → program_of (items_at 2 (lines_of_program p)) ≡ renumbered p
unfolding program_of lines_of_program renumbered
program_of-lines p formed =
    let names = kind_names p.kinds in
    let roots = root_names p.roots in
    let size = length (flat_map (kind_lines names) p.kinds) in
    let rest = map (root_line names roots) p.roots in
    let kinds = kinds-back p formed.kind_names_differ rest (roots-no-kinds names names roots p.roots) p.kinds 2 formed.kinds in
    let tasks = kinds-no-roots names [] rest p.kinds 2
    ∙ roots-back p formed.kind_names_differ formed.root_names_differ formed.roots p.roots [] (2 + size) refl (from-start p.roots) in
    rw (names-back p, kinds, tasks) refl
