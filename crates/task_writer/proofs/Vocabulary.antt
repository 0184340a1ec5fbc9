-- The words of the crates below that the proofs of this crate use, in one place.
pub use Rattle.std.proofs.Common.{◌-◌, OnOk}
pub use Rattle.std.proofs.Math.Seq.{take-append_seam, drop-append_seam}
pub use Rattle.std.proofs.lemmas.Fmt.{digits_decimal, digits_value-decimal, length-decimal-le, decimal_nonempty, decimal_digit}
pub use Rattle.std.proofs.lemmas.Grind.{flat_map-append}
pub use Rattle.std.proofs.lemmas.List.{take_more, take_all, map-append, take-append-drop, length-take-le}
pub use Rattle.std.proofs.lemmas.Option.{slice_get_read, slice_get-map, slice_get-get_or}
pub use Rattle.std.proofs.lemmas.Simd.{map-map}
pub use Rattle.std.proofs.lemmas.Str.Parse.{IsDigitsTest, IsNumeralModel, numerals_by_value}
pub use Rattle.std.specs.Cmp.Lexicographic.{pointwise}
pub use Rattle.std.specs.List.{join_with_byte}
pub use Rattle.std.specs.Prelude.{decimal}
pub use Rattle.task_lines.proofs.AcceptedText.{between, all-pass}
pub use Rattle.task_lines.proofs.Vocabulary.{nat_le, leb-true, le-leb, lt-ltb, SpellsPriority, relation_word, retry_words, Of, Choice, Choices, part_words, or_right, either, get-front, is_letter, is_name_byte, is_reserved, begins_with_letter, begins_with_digit}
pub use Rattle.task_lines.proofs.Words.{same-sort-is, some-same, any-at, get-at, same-sort}
pub use Rattle.task_lines.specs.Grammar.{behind_words, future_word}
pub use Rattle.task_lines.specs.Scope.{labels_behind}
pub use Rattle.task_lines.specs.declared.item.Item.{Item}
pub use Rattle.task_lines.specs.declared.item.RootTerm.{RootTerm}
pub use Rattle.task_lines.specs.declared.item.What.{What}
pub use Rattle.task_lines.specs.declared.scope.Place.TheVariants.{Outside, Head, Ended, Code, Jumped}
pub use Rattle.task_lines.specs.declared.scope.Place.{Place}
pub use Rattle.task_lines.specs.declared.scope.Scope.{Scope}
pub use Rattle.task_lines.specs.declared.step.Passed.{Passed}
pub use Rattle.task_lines.specs.declared.step.Step.TheVariants.{Set, Math, If, Goto, Label, Cell, Rows, Spawn, All, Copy, Drop, Get, Again, Done}
pub use Rattle.task_lines.specs.declared.step.Step.{Step}
pub use Rattle.task_lines.specs.declared.step.Term.{Term}
pub use Rattle.task_reader.proofs.FormedCode.{line-at, known-is, state-behind, label-stands}
pub use Rattle.task_reader.proofs.FormedStates.{no-step}
pub use Rattle.task_reader.proofs.FormedSteps.{known_for}
pub use Rattle.task_reader.proofs.Known.{given-known, given-both, AllGiven, given-parts, both-known, all-given, futures-given, same-futures, futures-listed}
pub use Rattle.task_reader.proofs.Places.{same-name, place-where, variable-place}
pub use Rattle.task_reader.proofs.Read.{program_in-spelled, program_in-formed, spelled-accepts}
pub use Rattle.task_reader.proofs.Stands.{Stand, item_at, kind-behind, no-outside, rows-stand, names-of-kinds, names-of-roots, names-of-states}
unfoldable pub use Rattle.task_reader.proofs.Vocabulary.{names_known, uses_known, root_of, roots_from, kinds_from, states_from, instr_of, code_from, program_of, kind_of, program_in}
pub use Rattle.task_reader.proofs.Vocabulary.{◌≡◌, ◌≢◌, ℕ, ◌<◌, ◌≤◌, ◌^◌, Bool, true, ◌&&◌, nat_lt, Option, List, [], ◌∷◌, ◌++◌, map, length, refl, sym, append-nil, ◌∙◌, ap, inl, inr, arith, suc, ◌+◌, slice_get, Some, unwrap_or, subst, append_assoc, zero, take, get_or, false, drop, add-one, None, not, nat_eq, Ok, cond, ◌||◌, Result, Err, one-add, eqb-true, length-map, length-append, list_all, flat_map, prefix_len, list_any, codes, IfSome, ◌==◌, digits_value, SpellsFuture, SpellsNumber, SpellsTerm, SpellsPassed, SpellsRootTerm, SpellsVariable, EachSpells, SpellsFutures, SpellsBehind, Spells, RowsSpellFrom, RowsSpell, operation_word, IsNew, MayBegin, IsInState, IsInside, MayFollow, MayName, MayStand, first_scope, after, is_variable, has_variable, same_sort, place_behind, Part, GotoWord, AName, ANewName, ATarget, ATerm, ARelation, AFuture, KindVariables, MoreVariables, Arguments, RootArguments, Members, HeldFutures, SettledFutures, Predecessor, APriority, LastPriority, ARetry, Values, entry, Known, known_at, is_given, line_known, place_of, root_argument_of, variables_from, number_place, future_place, operand_of, argument_of, is_label, steps_to, place_where, state_of, Spelled, UsesRoot, root_term_use, Use, UsesFuture, term_use, passed_use, behind_uses, step_uses, futures_uses, root_uses, state_uses, both, differ-map, IsFormedRoot, IsFormedRootArgument, IsFormedState, IsWellFormed, IsFormedOperand, IsFormedArgument, IsFormedInstr, IsLabel, IsLabelAhead, labels_of, IsFormedKind, Ends, Leaves, is_digit, IsName, same_bytes, is_between, AllDiffer, Each, IsNumberAt, IsFutureAt, instr_at, same-bytes, first_of, is_among, Word, Row, lines_of, without_mark, rows_from, rows_of, in_front, code_of, with_row, option_map, words_of}
pub use Rattle.task_reader.specs.Fits.{root_names as names_of_roots}
pub use Rattle.task_reader.specs.Names.{kind_names as names_of_kinds, state_names as names_of_states, label_names as names_of_labels, known_among}
pub use Rattle.task_reader.specs.Uses.{UsesNumber, line_uses}
pub use Rattle.task_reader.specs.declared.positions.Positions.{Positions}
pub use Rattle.task_syntax.proofs.Differ.{differ-front, differ-tail, differ-head, get-map}
pub use Rattle.task_syntax.specs.Places.{EachAt}
pub use Rattle.task_syntax.specs.declared.instr.Argument.{Argument}
pub use Rattle.task_syntax.specs.declared.instr.Instr.{Instr}
pub use Rattle.task_syntax.specs.declared.instr.Line.{Line}
pub use Rattle.task_syntax.specs.declared.instr.MathOp.{MathOp}
pub use Rattle.task_syntax.specs.declared.instr.Operand.TheVariants.{Literal}
pub use Rattle.task_syntax.specs.declared.instr.Operand.{Operand}
pub use Rattle.task_syntax.specs.declared.instr.Relation.TheVariants.{Less, AtMost, Equal, Differs}
pub use Rattle.task_syntax.specs.declared.instr.Relation.{Relation}
pub use Rattle.task_syntax.specs.declared.program.Kind.{Kind}
pub use Rattle.task_syntax.specs.declared.program.Program.{Program}
pub use Rattle.task_syntax.specs.declared.program.Root.{Root}
pub use Rattle.task_syntax.specs.declared.program.RootArgument.{RootArgument}
pub use Rattle.task_syntax.specs.declared.program.Sort.TheVariants.{Future, Number}
pub use Rattle.task_syntax.specs.declared.program.Sort.{Sort}
pub use Rattle.task_syntax.specs.declared.program.State.{State}
pub use Rattle.task_syntax.specs.declared.program.Variable.{Variable}
pub use Rattle.task_syntax.specs.declared.value.Priority.TheVariants.{High, Low, Regular}
pub use Rattle.task_syntax.specs.declared.value.Priority.{Priority}
pub use Rattle.task_text.specs.Fault.{◌>>◌}
pub use Rattle.task_text.specs.Text.{is_blank, begins_with_word}
pub use Rattle.task_text.specs.declared.fault.Fault.{Fault}
pub use Rattle.task_writer.specs.Canonical.{AllTidy, EachNext, EachTidy, IsCanonical, IsTidy, Opens, is_plain}
pub use Rattle.task_writer.specs.Lines.{code_lines, name_at, names_in, passed_of, root_names, root_term_of, var_lines, variable_names, Names, kind_names, state_names, label_names, term_of, HaveArguments, label_of}
unfoldable pub use Rattle.task_writer.specs.Lines.{lines_of_program, state_lines, step_of, kind_lines, root_line}
unfoldable pub use Rattle.task_writer.specs.Numbering.{numbered_code, numbered_kind, numbered_kinds, numbered_roots, numbered_states, renumbered}
pub use Rattle.task_writer.specs.Numbering.{numbered_state}
pub use Rattle.task_writer.specs.Same.{AreSameButLines, unnumbered, unnumbered_kind, unnumbered_line, unnumbered_root, unnumbered_state}
pub use Rattle.task_writer.specs.Text.{header_words}
unfoldable pub use Rattle.task_writer.specs.Text.{line_text, parted, spaced, text_of, text_of_lines}
pub use Rattle.task_writer.specs.Words.{futures_words, line_words, passed_word, priority_words, root_term_word, step_words, term_word, variable_word}
