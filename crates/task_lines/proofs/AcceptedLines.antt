-- The lines are read from the words that spell them, where they may stand.
use Rattle.task_lines.proofs.Vocabulary.{SpellsEntry, entry_by, Step, MathOp, ◌≡◌, ◌≢◌, ℕ, ◌≤◌, Bool, true, false, cond, Option, Some, None, List, [], ◌∷◌, ◌++◌, length, refl, sym, ◌∙◌, ap, subst, append-nil, codes, same_bytes, AllDiffer, Variable, TwiceNamed, BackLabel, Word, is_missing, is_present, is_future, Scan, first_of, Parser, ◌>>◌, pure, take_word, fixed, eat, one_or_more, Answers, then-answers, pure-answers, room-answers, taken-answers, seen-is, seen-first, fixed-answers, eat-answers, eat-nothing, each-answers, one-or-more-answers, Keyword, What, Place, Outside, Head, Code, Jumped, Ended, Scope, keyword_word, priority_of, opening, read_variable, read_other_future, read_last_priority, read_retry, read_holds, read_settled, is_argument, read_argument, is_root_argument, read_root_argument, read_member, Spells, MayBegin, IsInState, MayStand, drop, IsName, Cause, a_name, a_future, new_name, read_name, read_new_name, read_future, word-answers, item-answers, an_operand, term_of, a_variable, variable_of, an_argument, passed_of, root_term_of, a_member, other_future, read_term, Kind, Var, State, StepLine, End, Root, SpellsName, SpellsTerm, SpellsFutures, SpellsVariable, SpellsPassed, SpellsRootTerm, Part, GotoWord, AName, ANewName, ATarget, ATerm, ARelation, AFuture, KindVariables, MoreVariables, Arguments, RootArguments, Members, HeldFutures, SettledFutures, Predecessor, APriority, LastPriority, ARetry, Of, Values, names_of, read_part, read_parts, Choice, Choices, part_words, Keeps, KeepAll, parts_of, line_of_parts, counted, begun, keyword_line, line_by, read_line, IsNew}
use Rattle.task_lines.specs.Spelling.{SpellsFuture, retry_words}
use Rattle.task_lines.specs.Table.{words_of}
use Rattle.task_lines.proofs.SpelledLines.{IsWithin}
use Rattle.task_lines.proofs.Words.{AreNew, name-means, new-name-means, future-means, term-means, variable-means, variable-present, other-future-means, argument-means, reads-passed, root-argument-means, reads-root-term, member-means, future-passes, future-present}
use Rattle.task_lines.proofs.AcceptedEnds.{Refuses, refuses-argument, refuses-root-argument, refuses-future, refuses-behind, no-priority, retry-refused, priority-refused, behind-refused, behind-answers, priority-answers, last-priority-answers, retry-answers, relation-answers}

no-member : (name : List ℕ) (names : List (List ℕ)) → name ∷ names ≢ []
no-member name names e = cc

holds-answers : (hs : List Word) (holds : List (List ℕ)) → SpellsFutures (codes "holds") hs holds → AllDiffer holds → (s : Scan) (rest : List Word)
    → same_bytes (codes "holds") (first_of rest) ≡ false → is_future (first_of rest) ≡ false → s.left ≡ hs ++ rest → Answers read_holds s holds rest
unfolding read_holds read_other_future
holds-answers hs [] spells differ s rest stop other e =
    let l : s.left ≡ rest = e ∙ ap (λ ws. ws ++ rest) spells in
    then-answers (eat (codes "holds")) (λ found. cond found (one_or_more is_future read_other_future) (pure [])) s false [] rest rest
    (eat-nothing (codes "holds") s rest l stop) (λ t l. pure-answers t [] rest l)
holds-answers hs (name ∷ names) spells differ s rest stop other e =
    let l : s.left ≡ codes "holds" ∷ (spells.0 ++ rest) = e ∙ ap (λ ws. ws ++ rest) spells.1 in
    then-answers (eat (codes "holds")) (λ found. cond found (one_or_more is_future read_other_future) (pure [])) s true (name ∷ names) (spells.0 ++ rest) rest
    (eat-answers (codes "holds") s (spells.0 ++ rest) l)
    (λ t l. one-or-more-answers SpellsFuture (λ all. AllDiffer all) is_future read_other_future (item-answers SpellsFuture (λ all. AllDiffer all) is_future other_future (drop 1) (other-future-means is_future)) future-passes rest other spells.0 (name ∷ names) t (no-member name names) spells.2 differ l)

settled-answers : (ss : List Word) (settled : List (List ℕ)) → SpellsFutures (codes "settled") ss settled → AllDiffer settled → (s : Scan) → s.left ≡ ss → Answers read_settled s settled []
unfolding read_settled read_other_future
settled-answers ss [] spells differ s e =
    let l : s.left ≡ [] = e ∙ spells in
    record { end = s; reads = ap (λ (b : Bool). (cond b (pure []) (fixed (codes "settled") >> one_or_more is_present read_other_future)) s) (ap is_missing (seen-first s [] l)); left = l }
settled-answers ss (name ∷ names) spells differ s e =
    let l : s.left ≡ codes "settled" ∷ spells.0 = e ∙ spells.1 in
    let h = then-answers (fixed (codes "settled")) (λ _. one_or_more is_present read_other_future) s tt (name ∷ names) spells.0 [] (fixed-answers (codes "settled") s spells.0 l)
    (λ t l. one-or-more-answers SpellsFuture (λ all. AllDiffer all) is_present read_other_future (item-answers SpellsFuture (λ all. AllDiffer all) is_present other_future (drop 1) (other-future-means is_present)) future-present [] refl spells.0 (name ∷ names) t (no-member name names) spells.2 differ (l ∙ sym (append-nil spells.0))) in
    record {
      end = h.end;
      reads = ap (λ (b : Bool). (cond b (pure []) (fixed (codes "settled") >> one_or_more is_present read_other_future)) s) (ap is_missing (seen-is s (codes "settled") spells.0 l)) ∙ h.reads;
      left = h.left;
    }

settled-refused : (test : Word → Bool) → test [] ≡ false → test (codes "settled") ≡ false → (ss : List Word) (settled : List (List ℕ)) → SpellsFutures (codes "settled") ss settled → test (first_of ss) ≡ false
settled-refused test none word ss [] spells = ap (λ ws. test (first_of ws)) spells ∙ none
settled-refused test none word ss (name ∷ names) spells = ap (λ ws. test (first_of ws)) spells.1 ∙ word

-- ---- parts

-- what follows a part is no more of it
abbrev pub Stops : Part → List Word → Type 0
Stops KindVariables rest = rest ≡ []
Stops MoreVariables rest = rest ≡ []
Stops Arguments rest = is_argument (first_of rest) ≡ false
Stops RootArguments rest = is_root_argument (first_of rest) ≡ false
Stops Members rest = is_future (first_of rest) ≡ false
Stops HeldFutures rest = (same_bytes (codes "holds") (first_of rest) ≡ false) × (is_future (first_of rest) ≡ false)
Stops SettledFutures rest = rest ≡ []
Stops Predecessor rest = same_bytes (codes "behind") (first_of rest) ≡ false
Stops APriority rest = priority_of (first_of rest) ≡ None
Stops LastPriority rest = rest ≡ []
Stops ARetry rest = rest ≡ []
Stops part rest = Unit {0}

-- what is read of the last words, where nothing follows
at-end : {A : Type 0} (p : Parser A) (s : Scan) (a : A) (words rest : List Word) → rest ≡ [] → s.left ≡ words ++ rest → (s.left ≡ words → Answers p s a []) → Answers p s a rest
at-end p s a words rest none e h = subst (Answers p s a) (sym none) (h (e ∙ (ap (λ ws. words ++ ws) none ∙ append-nil words)))

new-name-answers : (cause : Cause) (taken : List (List ℕ)) (name : List ℕ) → IsName name → IsNew name taken → (s : Scan) (rest : List Word) → s.left ≡ name ∷ rest
    → Answers (read_new_name cause taken) s name rest
unfolding read_new_name
new-name-answers cause taken name is new =
    word-answers (λ word name. SpellsName word name × IsNew name taken) (new_name cause taken) (λ w. w) (new-name-means cause taken) name name ((refl, is), new)

part-answers : (scope : Scope) (part : Part) (v : Of part) (c : Choice part v) → Keeps scope part v → (rest : List Word) → Stops part rest
    → (s : Scan) → s.left ≡ part_words part v c ++ rest → Answers (read_part scope part) s v rest
unfolding read_name read_new_name read_future read_term read_variable read_argument read_root_argument read_member
part-answers scope GotoWord v c keeps rest stop s e = fixed-answers (codes "goto") s rest e
part-answers scope AName name c keeps rest stop s e = word-answers SpellsName a_name (λ w. w) name-means name name (refl, c) s rest e
part-answers scope (ANewName named) name c keeps rest stop s e = new-name-answers TwiceNamed (names_of scope named) name c keeps s rest e
part-answers scope ATarget name c keeps rest stop s e = new-name-answers BackLabel scope.labels name c keeps s rest e
part-answers scope ATerm term c keeps rest stop s e = word-answers SpellsTerm an_operand term_of term-means c.0 term c.1 s rest e
part-answers scope ARelation relation c keeps rest stop s e = relation-answers relation s rest e
part-answers scope AFuture name c keeps rest stop s e = word-answers SpellsFuture a_future (drop 1) future-means (64 ∷ name) name (refl, c) s rest e
part-answers scope KindVariables variables c keeps rest stop s e =
    each-answers SpellsVariable (AreNew 16) is_present (read_variable 16) (item-answers SpellsVariable (AreNew 16) is_present (a_variable 16) variable_of (variable-means 16 [] is_present))
    variable-present rest (ap (λ ws. is_present (first_of ws)) stop) c.0 variables [] s c.1 keeps e
part-answers scope MoreVariables variables c keeps rest stop s e =
    let all : List Variable → Type 0 = λ found. AreNew 255 (scope.variables ++ found) in
    one-or-more-answers SpellsVariable all is_present (λ found. read_variable 255 (scope.variables ++ found))
    (item-answers SpellsVariable all is_present (λ found. a_variable 255 (scope.variables ++ found)) variable_of (variable-means 255 scope.variables is_present))
    variable-present rest (ap (λ ws. is_present (first_of ws)) stop) c.0 variables s c.1 c.2 keeps e
part-answers scope Arguments arguments c keeps rest stop s e =
    each-answers SpellsPassed (λ all. length all ≤ 16) is_argument read_argument (item-answers SpellsPassed (λ all. length all ≤ 16) is_argument (λ found. an_argument (length found)) passed_of argument-means)
    (λ w a h. (reads-passed w a h).passes) rest stop c.0 arguments [] s c.1 keeps e
part-answers scope RootArguments arguments c keeps rest stop s e =
    each-answers SpellsRootTerm (λ all. length all ≤ 16) is_root_argument read_root_argument (item-answers SpellsRootTerm (λ all. length all ≤ 16) is_root_argument (λ found. an_argument (length found)) root_term_of root-argument-means)
    (λ w a h. (reads-root-term w a h).passes) rest stop c.0 arguments [] s c.1 keeps e
part-answers scope Members members c keeps rest stop s e =
    one-or-more-answers SpellsFuture (λ all. length all ≤ 8) is_future read_member (item-answers SpellsFuture (λ all. length all ≤ 8) is_future (λ found. a_member (length found)) (drop 1) (member-means is_future))
    future-passes rest stop c.0 members s c.1 c.2 keeps e
part-answers scope HeldFutures names c keeps rest stop s e = holds-answers c.0 names c.1 keeps s rest stop.0 stop.1 e
part-answers scope SettledFutures names c keeps rest stop s e = at-end read_settled s names c.0 rest stop e (settled-answers c.0 names c.1 keeps s)
part-answers scope Predecessor behind c keeps rest stop s e = behind-answers c.0 behind c.1 s rest stop e
part-answers scope APriority priority c keeps rest stop s e = priority-answers c.0 priority c.1 s rest stop e
part-answers scope LastPriority priority c keeps rest stop s e = at-end read_last_priority s priority c.0 rest stop e (last-priority-answers c.0 priority c.1 s)
part-answers scope ARetry retry c keeps rest stop s e = at-end read_retry s retry (retry_words retry) rest stop e (retry-answers retry s)

abbrev pub StopAll : (ps : List Part) (vs : Values ps) → Choices ps vs → Type 0
StopAll [] vs c = Unit {0}
StopAll (part ∷ ps) vs c = Stops part (words_of ps vs.1 c.1 []) × StopAll ps vs.1 c.1

parts-answer : {A : Type 0} (scope : Scope) (ps : List Part) (make : Values ps → A) (vs : Values ps) (c : Choices ps vs) → KeepAll scope ps vs → StopAll ps vs c
    → (s : Scan) → s.left ≡ words_of ps vs c [] → Answers (read_parts scope ps make) s (make vs) []
parts-answer scope [] make vs c keep stop s e = pure-answers s (make vs) [] e
parts-answer scope (part ∷ ps) make vs c keep stop s e =
    let rest = words_of ps vs.1 c.1 [] in
    then-answers (read_part scope part) (λ v. read_parts scope ps (λ more. make (v, more))) s vs.0 (make vs) rest []
    (part-answers scope part vs.0 c.0 keep.0 rest stop.0 s e)
    (λ t l. parts-answer scope ps (λ more. make (vs.0, more)) vs.1 c.1 keep.1 stop.1 t l)

-- ---- lines

begun-answers : {A : Type 0} (count : Option (ℕ × ℕ)) (read : Parser A) (s : Scan) (a : A) (word : Word) (rest : List Word) → IsWithin count → s.left ≡ word ∷ rest
    → ((t : Scan) → t.left ≡ rest → Answers read t a []) → Answers (begun count read) s a []
begun-answers None read s a word rest few e h = taken-answers read s word rest [] a e h
begun-answers (Some count) read s a word rest few e h = room-answers count.0 count.1 (take_word >> read) s a [] few (taken-answers read s word rest [] a e h)

-- what follows each part of an entry is no more of that part
stop-all : (keyword : Keyword) (vs : Values (parts_of keyword)) (c : Choices (parts_of keyword) vs) → StopAll (parts_of keyword) vs c
stop-all Keyword.Kind vs c = (tt, (refl, tt))
stop-all Keyword.Var vs c = (refl, tt)
stop-all Keyword.State vs c =
    let none = λ (test : Word → Bool) (a : test [] ≡ false) (b : test (codes "settled") ≡ false). ap (λ ws. test (first_of ws)) (append-nil c.1.1.0.0) ∙ settled-refused test a b c.1.1.0.0 vs.1.1.0 c.1.1.0.1 in
    (tt, ((none (same_bytes (codes "holds")) refl refl, none is_future refl refl), (refl, tt)))
stop-all Keyword.End vs c = tt
stop-all Keyword.Root vs c =
    let priority = λ (test : Word → Bool) (refuses : Refuses test). priority-refused test refuses c.1.1.1.1.0.0 vs.1.1.1.1.0 c.1.1.1.1.0.1 [] refuses.none in (
      tt,
      (
        tt,
        (
          behind-refused is_root_argument refl c.1.1.1.0.0 vs.1.1.1.0 c.1.1.1.0.1 (c.1.1.1.1.0.0 ++ []) (priority is_root_argument refuses-root-argument),
          (priority (same_bytes (codes "behind")) refuses-behind, (refl, tt)),
        ),
      ),
    )
stop-all Keyword.Label vs c = (tt, tt)
stop-all Keyword.Set vs c = (tt, (tt, tt))
stop-all Keyword.If vs c = (tt, (tt, (tt, (tt, (tt, tt)))))
stop-all Keyword.Goto vs c = (tt, tt)
stop-all Keyword.Rows vs c = (tt, (tt, tt))
stop-all Keyword.Spawn vs c =
    let last = retry_words vs.1.1.1.1.1.0 ++ [] in
    let retry = λ (test : Word → Bool) (refuses : Refuses test). ap (λ ws. test (first_of ws)) (append-nil (retry_words vs.1.1.1.1.1.0)) ∙ retry-refused test refuses vs.1.1.1.1.1.0 in
    let priority = λ (test : Word → Bool) (refuses : Refuses test). priority-refused test refuses c.1.1.1.1.0.0 vs.1.1.1.1.0 c.1.1.1.1.0.1 last (retry test refuses) in (
      tt,
      (
        tt,
        (
          behind-refused is_argument refl c.1.1.1.0.0 vs.1.1.1.0 c.1.1.1.0.1 (c.1.1.1.1.0.0 ++ last) (priority is_argument refuses-argument),
          (
            priority (same_bytes (codes "behind")) refuses-behind,
            (ap (λ ws. priority_of (first_of ws)) (append-nil (retry_words vs.1.1.1.1.1.0)) ∙ no-priority vs.1.1.1.1.1.0, (refl, tt)),
          ),
        ),
      ),
    )
stop-all Keyword.All vs c =
    let last = retry_words vs.1.1.1.0 ++ [] in
    let same = append-nil (retry_words vs.1.1.1.0) in (
      tt,
      (
        priority-refused is_future refuses-future c.1.1.0.0 vs.1.1.0 c.1.1.0.1 last (ap (λ ws. is_future (first_of ws)) same ∙ retry-refused is_future refuses-future vs.1.1.1.0),
        (ap (λ ws. priority_of (first_of ws)) same ∙ no-priority vs.1.1.1.0, (refl, tt)),
      ),
    )
stop-all Keyword.Copy vs c = (tt, (tt, tt))
stop-all Keyword.Drop vs c = (tt, tt)
stop-all Keyword.Get vs c = (tt, (tt, tt))
stop-all Keyword.Again vs c = (
  tt,
  (
    priority-refused (same_bytes (codes "behind")) refuses-behind c.1.1.0.0 vs.1.1.0 c.1.1.0.1 [] refl,
    (refl, tt),
  ),
)
stop-all Keyword.Done vs c = (tt, tt)
stop-all _ vs c = (tt, (tt, (tt, tt)))

-- the line that an entry makes is read from its words
entry-answers : (scope : Scope) (keyword : Keyword) (vs : Values (parts_of keyword)) (words : List Word) (p : SpellsEntry words (entry_by keyword vs)) → opening scope.place (keyword_word keyword) ≡ Some keyword
    → IsWithin (counted scope keyword) → KeepAll scope (parts_of keyword) vs → (s : Scan) → s.left ≡ words → Answers (read_line scope) s (line_of_parts keyword vs) []
unfolding read_line keyword_line
entry-answers scope keyword vs words p opens few keep s e =
    let first : s.left ≡ keyword_word keyword ∷ words_of (parts_of keyword) vs p.0 [] = e ∙ p.1 in
    let h = begun-answers (counted scope keyword) (read_parts scope (parts_of keyword) (line_of_parts keyword)) s (line_of_parts keyword vs) (keyword_word keyword) _ few first
    (parts-answer scope (parts_of keyword) (line_of_parts keyword) vs p.0 keep (stop-all keyword vs p.0)) in
    record {
      end = h.end;
      reads = ap (λ (o : Option Keyword). line_by scope o s) (ap (λ v. opening scope.place v) (seen-is s (keyword_word keyword) _ first) ∙ opens) ∙ h.reads;
      left = h.left;
    }

label-opens : (place : Place) → IsInState place → opening place (codes "label") ≡ Some Keyword.Label
label-opens Code h = refl
label-opens Jumped h = refl
label-opens Ended h = refl
label-opens place h = absurd h

state-opens : (place : Place) → MayBegin place → opening place (codes "state") ≡ Some Keyword.State
state-opens Head h = refl
state-opens Ended h = refl
state-opens place h = absurd h

-- where a place is known, a word opens its line there
at : (scope : Scope) (place : Place) (keyword : Keyword) → opening place (keyword_word keyword) ≡ Some keyword → scope.place ≡ place → opening scope.place (keyword_word keyword) ≡ Some keyword
at scope place keyword opens is = ap (λ q. opening q (keyword_word keyword)) is ∙ opens

-- a line that words spell is read from them where it may stand
pub line-answers : (scope : Scope) (words : List Word) (w : What) → Spells words w → MayStand scope w → (s : Scan) → s.left ≡ words → Answers (read_line scope) s w []
line-answers scope words (Kind name arguments) p may = entry-answers scope Keyword.Kind (name, (arguments, tt)) words p (at scope Outside Keyword.Kind refl may.0) may.1 (may.2, ((may.3, may.4), tt))
line-answers scope words (Var variables) p may = entry-answers scope Keyword.Var (variables, tt) words p (at scope Head Keyword.Var refl may.0) tt ((may.1, may.2), tt)
line-answers scope words (State name holds settled) p may = entry-answers scope Keyword.State (name, (holds, (settled, tt))) words p (state-opens scope.place may.0) may.1 (may.2, (may.3, (may.4, tt)))
line-answers scope words End p may = entry-answers scope Keyword.End tt words p (at scope Ended Keyword.End refl may) tt tt
line-answers scope words (Root name kind arguments behind priority) p may = entry-answers scope Keyword.Root (name, (kind, (arguments, (behind, (priority, tt))))) words p (at scope Outside Keyword.Root refl may.0) may.1 (may.2, (tt, (may.3, (tt, (tt, tt)))))
line-answers scope words (StepLine (Step.Label name)) p may = entry-answers scope Keyword.Label (name, tt) words p (label-opens scope.place may.0) may.1 (may.2, tt)
line-answers scope words (StepLine (Step.Set to value)) p may = entry-answers scope Keyword.Set (to, (value, tt)) words p (at scope Code Keyword.Set refl may.0) may.1 (tt, (tt, tt))
line-answers scope words (StepLine (Step.Math MathOp.Add to left right)) p may = entry-answers scope Keyword.Add (to, (left, (right, tt))) words p (at scope Code Keyword.Add refl may.0) may.1 (tt, (tt, (tt, tt)))
line-answers scope words (StepLine (Step.Math MathOp.Sub to left right)) p may = entry-answers scope Keyword.Sub (to, (left, (right, tt))) words p (at scope Code Keyword.Sub refl may.0) may.1 (tt, (tt, (tt, tt)))
line-answers scope words (StepLine (Step.Math MathOp.Mul to left right)) p may = entry-answers scope Keyword.Mul (to, (left, (right, tt))) words p (at scope Code Keyword.Mul refl may.0) may.1 (tt, (tt, (tt, tt)))
line-answers scope words (StepLine (Step.Math MathOp.Div to left right)) p may = entry-answers scope Keyword.Div (to, (left, (right, tt))) words p (at scope Code Keyword.Div refl may.0) may.1 (tt, (tt, (tt, tt)))
line-answers scope words (StepLine (Step.Math MathOp.Rem to left right)) p may = entry-answers scope Keyword.Rem (to, (left, (right, tt))) words p (at scope Code Keyword.Rem refl may.0) may.1 (tt, (tt, (tt, tt)))
line-answers scope words (StepLine (Step.If relation left right target)) p may = entry-answers scope Keyword.If (left, (relation, (right, (tt, (target, tt))))) words p (at scope Code Keyword.If refl may.0) may.1 (tt, (tt, (tt, (tt, (may.2, tt)))))
line-answers scope words (StepLine (Step.Goto target)) p may = entry-answers scope Keyword.Goto (target, tt) words p (at scope Code Keyword.Goto refl may.0) may.1 (may.2, tt)
line-answers scope words (StepLine (Step.Cell to column row)) p may = entry-answers scope Keyword.Cell (to, (column, (row, tt))) words p (at scope Code Keyword.Cell refl may.0) may.1 (tt, (tt, (tt, tt)))
line-answers scope words (StepLine (Step.Rows to column)) p may = entry-answers scope Keyword.Rows (to, (column, tt)) words p (at scope Code Keyword.Rows refl may.0) may.1 (tt, (tt, tt))
line-answers scope words (StepLine (Step.Spawn to kind arguments behind priority retry)) p may = entry-answers scope Keyword.Spawn (to, (kind, (arguments, (behind, (priority, (retry, tt)))))) words p (at scope Code Keyword.Spawn refl may.0) may.1 (tt, (tt, (may.2, (tt, (tt, (tt, tt))))))
line-answers scope words (StepLine (Step.All to members priority retry)) p may = entry-answers scope Keyword.All (to, (members, (priority, (retry, tt)))) words p (at scope Code Keyword.All refl may.0) may.1 (tt, (may.2, (tt, (tt, tt))))
line-answers scope words (StepLine (Step.Copy to source)) p may = entry-answers scope Keyword.Copy (to, (source, tt)) words p (at scope Code Keyword.Copy refl may.0) may.1 (tt, (tt, tt))
line-answers scope words (StepLine (Step.Drop future)) p may = entry-answers scope Keyword.Drop (future, tt) words p (at scope Code Keyword.Drop refl may.0) may.1 (tt, tt)
line-answers scope words (StepLine (Step.Get to future)) p may = entry-answers scope Keyword.Get (to, (future, tt)) words p (at scope Code Keyword.Get refl may.0) may.1 (tt, (tt, tt))
line-answers scope words (StepLine (Step.Again target behind priority)) p may = entry-answers scope Keyword.Again (target, (behind, (priority, tt))) words p (at scope Code Keyword.Again refl may.0) may.1 (tt, (tt, (tt, tt)))
line-answers scope words (StepLine (Step.Done value)) p may = entry-answers scope Keyword.Done (value, tt) words p (at scope Code Keyword.Done refl may.0) may.1 (tt, tt)
