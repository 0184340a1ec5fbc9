-- The words that are written of a line are those of its parts, one part after the other.
use Rattle.task_writer.proofs.Vocabulary.{◌≡◌, List, [], ◌∷◌, ◌++◌, map, refl, codes, Word, What, Part, GotoWord, AName, ANewName, ATarget, ATerm, ARelation, AFuture, KindVariables, MoreVariables, Arguments, RootArguments, Members, HeldFutures, SettledFutures, Predecessor, APriority, LastPriority, ARetry, Of, Values, entry, Set, term_word, passed_word, root_term_word, variable_word, futures_words, priority_words, line_words}
use Rattle.task_lines.specs.Spelling.{future_word, relation_word, behind_words, retry_words}

-- the words of a part
abbrev pub part_written : (part : Part) → Of part → List Word
part_written GotoWord v = codes "goto" ∷ []
part_written AName name = name ∷ []
part_written (ANewName named) name = name ∷ []
part_written ATarget name = name ∷ []
part_written ATerm t = term_word t ∷ []
part_written ARelation relation = relation_word relation ∷ []
part_written AFuture name = future_word name ∷ []
part_written KindVariables variables = map variable_word variables
part_written MoreVariables variables = map variable_word variables
part_written Arguments arguments = map passed_word arguments
part_written RootArguments arguments = map root_term_word arguments
part_written Members members = map future_word members
part_written HeldFutures names = futures_words (codes "holds") names
part_written SettledFutures names = futures_words (codes "settled") names
part_written Predecessor behind = behind_words behind
part_written APriority priority = priority_words priority
part_written LastPriority priority = priority_words priority
part_written ARetry retry = retry_words retry

-- the words of the parts, one part after the other
abbrev pub parts_written : (parts : List Part) → Values parts → List Word
parts_written [] vs = []
parts_written (part ∷ []) vs = part_written part vs.0
parts_written (part ∷ next ∷ parts) vs = part_written part vs.0 ++ parts_written (next ∷ parts) vs.1

-- the words that are written of a line are those of its entry
pub written : (w : What) → line_words w ≡ (entry w).word ∷ parts_written (entry w).parts (entry w).values
written (What.Kind name arguments) = refl
written (What.Step (Set to value)) = refl
written (What.Step _) = refl
written _ = refl
