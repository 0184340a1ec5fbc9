-- The words of the crates below that the proofs of this crate use, in one place.
pub use Rattle.std.proofs.Common.{◌≡◌, ◌≢◌, ℕ, ◌≤◌, Bool, true, false, cond, Option, Some, None, List, [], ◌∷◌, ◌++◌, length, refl, sym, ◌∙◌, ap, subst, inl, inr, Result, ◌+◌, not, ◌&&◌, ◌||◌, IsTrue, arith, zero, suc, ◌<◌, nat_eq, nat_le, drop, slice_get, Ok, append-nil, Err, if◌then◌else◌, ◌==◌, append_assoc, map}
pub use Rattle.std.proofs.lemmas.Bool.{ltb-true, lt-ltb, leb-true, eqb-true, le-leb, eq-eqb}
pub use Rattle.std.proofs.lemmas.List.{length-append, length-drop}
pub use Rattle.std.proofs.lemmas.List.Folds.{list_any-append}
pub use Rattle.std.proofs.lemmas.Option.{slice_get_within}
pub use Rattle.std.proofs.lemmas.Result.{err_from_is_err_and}
pub use Rattle.std.specs.List.{list_any, list_all, starts_with}
pub use Rattle.std.specs.Prelude.{codes, nat_lt, ◌^◌}
pub use Rattle.std.specs.Str.Parse.{digits_value}
pub use Rattle.task_lines.specs.Grammar.{IsInState, MayBegin, MayStand, RowsSpell, RowsSpellFrom, Spells, SpellsFuture, relation_word, priority_word, SpellsBehind, SpellsPriority, retry_words, IsNew, SpellsNumber, operation_word, EachSpells, SpellsEntry}
pub use Rattle.task_lines.specs.Keyword.{allowed, keyword_of, keyword_word, keywords, looked_up, may_open, opening, priority_of, relation_of, written_by}
unfoldable pub use Rattle.task_lines.specs.Line.{header_line, read_argument, read_behind, read_holds, read_last_priority, read_member, read_other_future, read_priority, read_relation, read_retry, read_root_argument, read_settled, read_term, read_variable}
pub use Rattle.task_lines.specs.Line.{an_operand, a_variable, other_future, an_argument, a_member, header_word, is_argument, is_new, is_root_argument, is_variable_word, last_priority_by, passed_of, priority_by, relation_by, root_term_of, term_of, variable_of}
pub use Rattle.task_lines.specs.Reading.{is_cut_short, is_open_state}
unfoldable pub use Rattle.task_lines.specs.Reading.{items_from, items_of, line_of, rows_behind_header}
pub use Rattle.task_lines.specs.Scope.{after, first_scope, has_variable, is_variable, same_sort}
pub use Rattle.task_lines.specs.Spelling.{SpellsName, SpellsTerm, SpellsFutures, SpellsVariable, SpellsPassed, SpellsRootTerm}
unfoldable pub use Rattle.task_lines.specs.Table.{keyword_line, operation_line, read_line}
pub use Rattle.task_lines.specs.Table.{operation_keyword, Part, GotoWord, AName, ANewName, ATarget, ATerm, ARelation, AFuture, KindVariables, MoreVariables, Arguments, RootArguments, Members, HeldFutures, SettledFutures, Predecessor, APriority, LastPriority, ARetry, Of, Values, names_of, read_part, read_parts, Choice, Choices, part_words, Keeps, KeepAll, parts_of, line_of_parts, counted, begun, line_by, entry, entry_by}
pub use Rattle.task_lines.specs.declared.item.Item.{Item}
pub use Rattle.task_lines.specs.declared.item.RootTerm.{RootTerm}
pub use Rattle.task_lines.specs.declared.item.What.{What}
pub use Rattle.task_lines.specs.declared.item.What.TheVariants.{End, Kind, Var, State, Step as StepLine, Root}
pub use Rattle.task_lines.specs.declared.keyword.Keyword.{Keyword}
pub use Rattle.task_lines.specs.declared.scope.Place.{Place}
pub use Rattle.task_lines.specs.declared.scope.Place.TheVariants.{Code, Ended, Head, Jumped, Outside}
pub use Rattle.task_lines.specs.declared.scope.Scope.{Scope}
pub use Rattle.task_lines.specs.declared.step.Passed.{Passed}
pub use Rattle.task_lines.specs.declared.step.Step.{Step}
pub use Rattle.task_lines.specs.declared.step.Step.TheVariants.{Again, All, Cell, Copy, Done, Drop, Get, Goto, If, Label, Math, Rows, Set, Spawn}
pub use Rattle.task_lines.specs.declared.step.Term.{Term}
pub use Rattle.task_syntax.proofs.Bools.{both, either, or_right, not_true}
pub use Rattle.task_syntax.proofs.Differ.{get-front, differ-nil, differ-snoc}
pub use Rattle.task_syntax.specs.Names.{same_bytes, IsName, is_between, is_letter, is_digit, is_name_byte, is_reserved, begins_with_letter, is_name}
pub use Rattle.task_syntax.specs.Places.{AllDiffer}
pub use Rattle.task_syntax.specs.declared.instr.MathOp.{MathOp}
pub use Rattle.task_syntax.specs.declared.instr.Relation.{Relation}
pub use Rattle.task_syntax.specs.declared.instr.Relation.TheVariants.{Less, AtMost, Equal, Differs}
pub use Rattle.task_syntax.specs.declared.program.Sort.{Sort}
pub use Rattle.task_syntax.specs.declared.program.Variable.{Variable}
pub use Rattle.task_syntax.specs.declared.value.Priority.{Priority}
pub use Rattle.task_syntax.specs.declared.value.Priority.TheVariants.{High, Regular, Low}
pub use Rattle.task_text.proofs.Answering.{Answers, then-answers, pure-answers, seen-first, moved-is, fixed-answers, eat-answers, eat-nothing, each-answers, one-or-more-answers, need-answers, room-answers, take-answers, ItemAnswers, taken-answers, same-bytes, whole-answers, tested-answers, word-answers, item-answers}
pub use Rattle.task_text.proofs.Lists.{each-more, each-fails, each-ends, moved-shorter}
pub use Rattle.task_text.proofs.Taken.{same-word, same-ok, parts, roomy, fixed-taken, Eaten, eaten, left, eat-taken, future-parts, word-there, this-taken, IsWord, IsItem, word-taken, items-taken, some-items-taken, seen-is}
pub use Rattle.task_text.proofs.Whole.{ArePresent, RowsPresent, rows-present, read-whole, whole-words, same-answer}
pub use Rattle.task_text.specs.Cursor.{first_start}
pub use Rattle.task_text.specs.Fault.{fault_at, Gives, ◌>>=◌}
pub use Rattle.task_text.specs.Scan.{a_name, new_name, a_future, tested, is_missing, is_future, Scan, first_of, ◌<$>◌, pure, each, one_or_more, Scans, is_number, begins_with_digit, is_present, is_operand, is_no_bad_number, is_among, ◌>>◌, take_word, Outcome, Parser, is_text, start_of, check_text}
unfoldable pub use Rattle.task_text.specs.Scan.{seen, fixed, read_name, read_new_name, read_future, eat, need, room, moved, check_words, whole}
pub use Rattle.task_text.specs.Text.{Word, Row, lines_of, without_mark, rows_of, in_front, words_of, code_of, with_row, rows_from}
pub use Rattle.task_text.specs.declared.fault.Cause.{Cause}
pub use Rattle.task_text.specs.declared.fault.Cause.TheVariants.{TwiceNamed, BackLabel, BadName, BadNumber, NotText, NoHeader, NoEnd}
pub use Rattle.task_text.specs.declared.fault.Fault.{Fault}
pub use Rattle.task_text.specs.declared.fault.TextError.{TextError}
