-- The words of the crates below that the proofs of this crate use, in one place.
pub use Rattle.std.proofs.Common.{unwrap_or, ◌*◌, ◌⊎◌, add-one, get_or, take}
pub use Rattle.std.proofs.Math.Numerals.{one-add}
pub use Rattle.std.proofs.lemmas.Bool.Decides.{nat_tests}
pub use Rattle.std.proofs.lemmas.List.Folds.{length-prefix_len}
pub use Rattle.std.proofs.lemmas.List.{length-take, length-map, drop_more, drop_all}
pub use Rattle.std.specs.Cmp.Lexicographic.{same_text}
pub use Rattle.std.specs.List.{position, position_or_len, prefix_len, flat_map, take_while}
pub use Rattle.std.specs.Option.{option_map}
pub use Rattle.std.specs.Prelude.{IfSome, IsSome, is_some}
pub use Rattle.task_lines.proofs.Accepted.{row-accepted, header-accepted, goes-on, items_of-accepted}
pub use Rattle.task_lines.proofs.Spelled.{result-parts, SpellsRow, new-after, header-taken}
pub use Rattle.task_lines.proofs.SpelledLines.{line-taken, IsInside}
unfoldable pub use Rattle.task_lines.proofs.Vocabulary.{header_line, read_term, read_variable, read_other_future, read_behind, read_priority, read_last_priority, read_retry, read_relation, read_holds, read_settled, read_root_argument, read_argument, read_member, line_of, items_from, rows_behind_header, items_of, read_line, keyword_line, whole, moved, check_words, seen, need, room, fixed, read_name, read_new_name, read_future, eat}
pub use Rattle.task_lines.proofs.Vocabulary.{◌≡◌, ◌≤◌, ℕ, suc, ◌+◌, Bool, true, false, cond, not, List, [], ◌∷◌, length, refl, arith, ◌^◌, ◌<◌, ◌==◌, ◌++◌, drop, sym, ap, subst, append-nil, ◌≢◌, zero, Option, Some, None, Result, Ok, Err, ◌∙◌, inl, inr, map, slice_get, ◌&&◌, ◌||◌, ltb-true, eqb-true, eq-eqb, list_any-append, length-drop, slice_get_within, err_from_is_err_and, starts_with, list_all, list_any, codes, nat_eq, nat_lt, if◌then◌else◌, digits_value, SpellsFuture, EachSpells, Spells, MayStand, RowsSpellFrom, RowsSpell, operation_word, MayBegin, SpellsBehind, SpellsNumber, IsInState, IsNew, opening, relation_of, priority_of, term_of, variable_of, priority_by, last_priority_by, relation_by, is_root_argument, root_term_of, is_argument, passed_of, an_operand, a_variable, an_argument, a_member, header_word, is_open_state, is_cut_short, first_scope, after, has_variable, same_sort, is_variable, entry, Part, GotoWord, AName, ANewName, ATarget, ATerm, ARelation, AFuture, KindVariables, MoreVariables, Arguments, RootArguments, Members, HeldFutures, SettledFutures, Predecessor, APriority, LastPriority, ARetry, Values, names_of, read_part, read_parts, parts_of, line_of_parts, counted, begun, line_by, both, differ-nil, differ-snoc, same_bytes, is_between, is_digit, IsName, AllDiffer, same-bytes, whole-answers, ArePresent, RowsPresent, rows-present, read-whole, whole-words, same-answer, fault_at, Gives, start_of, is_text, check_text, is_among, Scan, is_missing, first_of, Outcome, Parser, pure, each, is_present, is_future, is_no_bad_number, take_word, one_or_more, tested, a_name, new_name, a_future, Word, Row, in_front, lines_of, code_of, words_of, with_row, rows_from, without_mark, rows_of, ◌>>◌, length-append, append_assoc}
pub use Rattle.task_lines.proofs.Words.{AreNew, some-same}
pub use Rattle.task_lines.specs.Grammar.{SpellsFutures, MayName, SpellsTerm, SpellsPassed, SpellsRootTerm, CanBeSpelled, MayFollow, SpellsName, SpellsVariable}
pub use Rattle.task_lines.specs.Scope.{place_behind, labels_behind}
pub use Rattle.task_lines.specs.declared.item.Item.{Item}
pub use Rattle.task_lines.specs.declared.item.RootTerm.{RootTerm}
pub use Rattle.task_lines.specs.declared.item.What.{What}
pub use Rattle.task_lines.specs.declared.keyword.Keyword.{Keyword}
pub use Rattle.task_lines.specs.declared.scope.Place.TheVariants.{Outside, Head, Code, Jumped, Ended}
pub use Rattle.task_lines.specs.declared.scope.Place.{Place}
pub use Rattle.task_lines.specs.declared.scope.Scope.{Scope}
pub use Rattle.task_lines.specs.declared.step.Passed.{Passed}
pub use Rattle.task_lines.specs.declared.step.Step.TheVariants.{Spawn, All, Math, Set, If, Goto, Label, Cell, Rows, Copy, Drop, Get, Again, Done}
pub use Rattle.task_lines.specs.declared.step.Step.{Step}
pub use Rattle.task_lines.specs.declared.step.Term.{Term}
pub use Rattle.task_reader.specs.Ahead.{begins, is_inside, is_step, labels, passes_by}
pub use Rattle.task_reader.specs.Asked.{Asked, By, End, Many, One, at_least_one, behind_part, behind_word, cause_of, failed_by, header_asked, holds_part, is_priority, is_relation, keyword_asked, last_priority_part, line_asked, opened_by, opens, part_asked, parts_asked, priority_part, retry_part, settled_part, where_word, another_future}
pub use Rattle.task_reader.specs.Faults.{AreAsAsked, AreText, EndsTooSoon, IsFirstFault, IsFirstUnknown, IsNoTextAt, IsRefusedAt, LeadTo, LineFault, RowFault, Tells, TellsFirst, UsesAt, cause_at, in_header, in_row, left_open, no_row, scope_behind, too_soon, word_at, FailsFirst}
pub use Rattle.task_reader.specs.Finding.{behind, is_known_passed, is_known_root_term, is_known_term, unknown_at}
pub use Rattle.task_reader.specs.Fits.{EachIsShort, Fit, IsShort, IsShortStep, root_names, steps_ahead}
pub use Rattle.task_reader.specs.Names.{Known, is_given, kind_names, known, known_among, known_at, label_names, line_known, state_names, step_label}
unfoldable pub use Rattle.task_reader.specs.Names.{names_known, uses_known}
pub use Rattle.task_reader.specs.Parts.{kind_at, root_at, root_name_at, state_at}
pub use Rattle.task_reader.specs.Program.{argument_of, future_place, is_label, number_place, operand_of, place_of, place_where, root_argument_of, state_of, steps_to, variables_from}
unfoldable pub use Rattle.task_reader.specs.Program.{code_from, instr_of, kind_of, kinds_from, program_of, root_of, roots_from, states_from}
pub use Rattle.task_reader.specs.Read.{Answers, GivesProgram, Spelled, error_of}
unfoldable pub use Rattle.task_reader.specs.Read.{program_in}
pub use Rattle.task_reader.specs.Uses.{Plain, SpellsUse, Use, UsesFuture, UsesRoot, behind_uses, futures_uses, line_uses, passed_use, root_term_use, root_uses, state_uses, step_uses, term_use, UsesState, UsesLabel, UsesKind, root_passed_uses, passed_uses}
pub use Rattle.task_reader.specs.declared.positions.Positions.{Positions}
pub use Rattle.task_reader.specs.declared.unknown.WordPlace.{WordPlace}
pub use Rattle.task_syntax.proofs.Differ.{each-map, each-nil, each-cons, differ-cons, differ-map, each-append}
pub use Rattle.task_syntax.specs.Form.{IsFormedRootArgument, IsFormedRoot, IsFormedOperand, IsFormedArgument, IsFormedInstr, IsLabelAhead, IsWellFormed, IsLabel, Leaves, Ends, labels_of, lines_of_state, lines_of_kind, IsFormedState, IsFormedKind}
pub use Rattle.task_syntax.specs.Places.{Each, IsNumberAt, IsFutureAt, instr_at}
pub use Rattle.task_syntax.specs.declared.instr.Instr.{Instr}
pub use Rattle.task_syntax.specs.declared.instr.Line.{Line}
pub use Rattle.task_syntax.specs.declared.instr.MathOp.{MathOp}
pub use Rattle.task_syntax.specs.declared.program.Kind.{Kind}
pub use Rattle.task_syntax.specs.declared.program.Program.{Program}
pub use Rattle.task_syntax.specs.declared.program.Root.{Root}
pub use Rattle.task_syntax.specs.declared.program.Sort.TheVariants.{Number, Future}
pub use Rattle.task_syntax.specs.declared.program.Sort.{Sort}
pub use Rattle.task_syntax.specs.declared.program.State.{State}
pub use Rattle.task_syntax.specs.declared.program.Variable.{Variable}
pub use Rattle.task_syntax.specs.declared.value.Priority.TheVariants.{Regular}
pub use Rattle.task_syntax.specs.declared.value.Priority.{Priority}
pub use Rattle.task_text.proofs.Cutting.{length-words_of}
pub use Rattle.task_text.proofs.Taken.{this-word, same-ok, same-word, tested-taken}
pub use Rattle.task_text.specs.Fault.{number_of}
unfoldable pub use Rattle.task_text.specs.Scan.{fault_here, each_along}
pub use Rattle.task_text.specs.Scan.{number_behind, and_then, ended, without_scan, refuse, Test, within, this_word, ◌>>=◌}
pub use Rattle.task_text.specs.declared.fault.Cause.TheVariants.{UnknownWord, UnknownName, WordsLeft, TooMany, NotText, NoEnd, NoHeader, BadName, BadNumber, TwiceNamed, BackLabel}
pub use Rattle.task_text.specs.declared.fault.Cause.{Cause}
pub use Rattle.task_text.specs.declared.fault.Fault.{Fault}
pub use Rattle.task_text.specs.declared.fault.TextError.{TextError}
