-- The lines are spelled by the words that their parsers take.
use Rattle.task_lines.proofs.Vocabulary.{◌≡◌, ◌≢◌, ℕ, ◌<◌, ◌≤◌, Bool, true, false, cond, Option, Some, None, List, [], ◌∷◌, ◌++◌, length, Ok, refl, sym, ◌∙◌, ap, subst, arith, append-nil, codes, AllDiffer, differ-nil, Word, TwiceNamed, BackLabel, is_missing, is_present, is_future, Scan, seen, moved, Outcome, Parser, ◌>>◌, pure, take_word, fixed, eat, one_or_more, same-ok, parts, roomy, fixed-taken, Eaten, eaten, left, eat-taken, What, End, Keyword, Place, Outside, Head, Code, Jumped, Ended, Scope, keywords, keyword_word, keyword_of, may_open, allowed, opening, read_variable, read_other_future, read_holds, read_settled, is_argument, read_argument, is_root_argument, read_root_argument, read_member, is_open_state, is_cut_short, Spells, IsInState, MayBegin, MayStand, drop, IsName, Cause, a_name, a_future, new_name, read_name, read_new_name, read_future, word-taken, items-taken, some-items-taken, an_operand, term_of, a_variable, variable_of, an_argument, passed_of, root_term_of, a_member, other_future, read_term, append_assoc, SpellsName, SpellsTerm, SpellsFutures, SpellsPassed, SpellsRootTerm, SpellsVariable, Part, GotoWord, AName, ANewName, ATarget, ATerm, ARelation, AFuture, KindVariables, MoreVariables, Arguments, RootArguments, Members, HeldFutures, SettledFutures, Predecessor, APriority, LastPriority, ARetry, Of, Values, names_of, read_part, read_parts, Choice, Choices, part_words, Keeps, KeepAll, parts_of, line_of_parts, counted, begun, keyword_line, line_by, read_line, IsNew}
use Rattle.task_lines.specs.Spelling.{SpellsFuture, EachSpells}
use Rattle.task_lines.specs.Table.{words_of}
use Rattle.task_lines.proofs.Words.{some-same, AreNew, name-means, new-name-means, future-means, term-means, variable-means, other-future-means, argument-means, root-argument-means, member-means}
use Rattle.task_lines.proofs.SpelledParts.{looked-up, word-first, behind-taken, priority-taken, last-priority-taken, retry-taken, relation-taken}

-- ---- what opens a line

pub record Opens (place : Place) (word : Word) (keyword : Keyword) : Type 0 where
  pub word_is : word ≡ keyword_word keyword
  pub may : may_open place keyword ≡ true

allowed-by : (place : Place) (word : Word) (found keyword : Keyword) (b : Bool) → may_open place found ≡ b → keyword_of word ≡ Some found
    → cond b (Some found) None ≡ Some keyword → Opens place word keyword
allowed-by place word found keyword true m e h = subst (Opens place word) (some-same found keyword h)
    (record { word_is = looked-up keyword_word keywords word found e; may = m })
allowed-by place word found keyword false m e h = cc

-- what is known where a word opens a line
pub opens : (place : Place) (word : Word) (keyword : Keyword) → opening place word ≡ Some keyword → Opens place word keyword
opens place word keyword = by (keyword_of word) refl where
  by : (o : Option Keyword) → keyword_of word ≡ o → allowed place o ≡ Some keyword → Opens place word keyword
  by None e h = cc
  by (Some found) e h = allowed-by place word found keyword (may_open place found) refl e h

abbrev pub IsInside : Place → Type 0
IsInside Outside = ⊥
IsInside _ = Unit {0}

-- where a line with this first word may stand
abbrev Opened : Keyword → Place → Type 0
Opened Keyword.Kind place = place ≡ Outside
Opened Keyword.Root place = place ≡ Outside
Opened Keyword.Var place = place ≡ Head
Opened Keyword.State place = IsInside place
Opened Keyword.End place = IsInside place
Opened Keyword.Label place = IsInState place
Opened _ place = place ≡ Code

opened : (place : Place) (keyword : Keyword) → may_open place keyword ≡ true → Opened keyword place
opened Outside Keyword.Kind m = refl
opened Outside Keyword.Root m = refl
opened Outside _ m = cc
opened Head Keyword.Var m = refl
opened Head Keyword.State m = tt
opened Head Keyword.End m = tt
opened Head _ m = cc
opened Code Keyword.Kind m = cc
opened Code Keyword.Var m = cc
opened Code Keyword.Root m = cc
opened Code Keyword.State m = tt
opened Code Keyword.End m = tt
opened Code Keyword.Label m = tt
opened Code _ m = refl
opened _ Keyword.State m = tt
opened _ Keyword.End m = tt
opened _ Keyword.Label m = tt
opened _ _ m = cc

may-begin : (place : Place) → IsInside place → is_open_state place ≡ false → MayBegin place
may-begin Head inside cut = tt
may-begin Ended inside cut = tt
may-begin Outside inside cut = absurd inside
may-begin Code inside cut = cc
may-begin Jumped inside cut = cc

is-ended : (place : Place) → IsInside place → is_cut_short place End ≡ false → place ≡ Ended
is-ended Head inside cut = cc
is-ended Ended inside cut = refl
is-ended Outside inside cut = absurd inside
is-ended Code inside cut = cc
is-ended Jumped inside cut = cc

-- ---- parts

-- a fixed word and futures, or nothing
pub record TakesFutures (word : Word) (s : Scan) (r : List (List ℕ) × Scan) : Type 0 where
  pub words : List Word
  pub left : s.left ≡ words ++ r.1.left
  pub spells : SpellsFutures word words r.0
  pub differ : AllDiffer r.0

no-futures : (word : Word) (s : Scan) (r : List (List ℕ) × Scan) → ◌≡◌ {A = Outcome (List (List ℕ))} (Ok ([], s)) (Ok r) → TakesFutures word s r
no-futures word s r e = subst (TakesFutures word s) (same-ok ([], s) r e) (record { words = []; left = refl; spells = refl; differ = differ-nil })

spells-some : (word : Word) (ws : List Word) (names : List (List ℕ)) → names ≢ [] → EachSpells SpellsFuture ws names → SpellsFutures word (word ∷ ws) names
spells-some word ws [] n h = absurd (n refl)
spells-some word ws (name ∷ names) n h = (ws, refl, h)

some-futures : (word : Word) (test : Word → Bool) (s t : Scan) (r : List (List ℕ) × Scan) → s.left ≡ word ∷ t.left → one_or_more test read_other_future t ≡ Ok r → TakesFutures word s r
unfolding read_other_future
some-futures word test s t r first e =
    let found = some-items-taken SpellsFuture (λ found. AllDiffer found) test other_future (drop 1) (other-future-means (λ word. true)) t r differ-nil e in
    let names = found.0 in
    record {
      words = word ∷ names.words;
      left = first ∙ ap (λ ws. word ∷ ws) names.left;
      spells = spells-some word names.words r.0 found.1 names.spell;
      differ = names.holds;
    }

holds-by : (s : Scan) (r : List (List ℕ) × Scan) (found : Bool) (t : Scan) → Eaten (codes "holds") s (found, t)
    → (cond found (one_or_more is_future read_other_future) (pure [])) t ≡ Ok r → TakesFutures (codes "holds") s r
holds-by s r true t (eaten h l) e = some-futures (codes "holds") is_future s t r l e
holds-by s r true t (left h l) e = cc
holds-by s r false t (eaten h l) e = cc
holds-by s r false t (left h l) e = subst (λ (s : Scan). TakesFutures (codes "holds") s r) (sym l) (no-futures (codes "holds") t r e)

holds-taken : (s : Scan) (r : List (List ℕ) × Scan) → read_holds s ≡ Ok r → TakesFutures (codes "holds") s r
unfolding read_holds
holds-taken s r e = let p = parts (eat (codes "holds") s) (λ found. cond found (one_or_more is_future read_other_future) (pure [])) r e in
    holds-by s r p.value p.scan (eat-taken (codes "holds") refl s (p.value, p.scan) p.first) p.next

settled-by : (s : Scan) (r : List (List ℕ) × Scan) (missing : Bool)
    → (cond missing (pure []) (fixed (codes "settled") >> one_or_more is_present read_other_future)) s ≡ Ok r → TakesFutures (codes "settled") s r
settled-by s r true e = no-futures (codes "settled") s r e
settled-by s r false e = let p = parts (fixed (codes "settled") s) (λ _. one_or_more is_present read_other_future) r e in
    some-futures (codes "settled") is_present s p.scan r (fixed-taken (codes "settled") refl s (p.value, p.scan) p.first) p.next

settled-taken : (s : Scan) (r : List (List ℕ) × Scan) → read_settled s ≡ Ok r → TakesFutures (codes "settled") s r
unfolding read_settled
settled-taken s r e = settled-by s r (is_missing (seen s)) e

-- the words of a part stand first, and it names what it may
pub record TakesPart (scope : Scope) (part : Part) (s : Scan) (r : Of part × Scan) : Type 0 where
  pub choice : Choice part r.0
  pub left : s.left ≡ part_words part r.0 choice ++ r.1.left
  pub keeps : Keeps scope part r.0

record TakesNewName (taken : List (List ℕ)) (s : Scan) (r : List ℕ × Scan) : Type 0 where
  choice : IsName r.0
  left : s.left ≡ r.0 ∷ r.1.left
  keeps : IsNew r.0 taken

new-name-taken : (cause : Cause) (taken : List (List ℕ)) (s : Scan) (r : List ℕ × Scan) → read_new_name cause taken s ≡ Ok r → TakesNewName taken s r
unfolding read_new_name
new-name-taken cause taken s r e = let t = word-taken (λ word name. SpellsName word name × IsNew name taken) (new_name cause taken) (λ w. w) (new-name-means cause taken) s r e in
    record { choice = t.spells.0.1; left = t.left ∙ ap (λ w. w ∷ r.1.left) t.spells.0.0; keeps = t.spells.1 }

part-taken : (scope : Scope) → AreNew 255 scope.variables → (part : Part) (s : Scan) (r : Of part × Scan) → read_part scope part s ≡ Ok r → TakesPart scope part s r
unfolding read_name read_new_name read_future read_term read_variable read_argument read_root_argument read_member
part-taken scope new GotoWord s r e = record { choice = tt; left = fixed-taken (codes "goto") refl s r e; keeps = tt }
part-taken scope new AName s r e =
    let t = word-taken SpellsName a_name (λ w. w) name-means s r e in record { choice = t.spells.1; left = t.left ∙ ap (λ w. w ∷ r.1.left) t.spells.0; keeps = tt }
part-taken scope new (ANewName named) s r e =
    let t = new-name-taken TwiceNamed (names_of scope named) s r e in record { choice = t.choice; left = t.left; keeps = t.keeps }
part-taken scope new ATarget s r e = let t = new-name-taken BackLabel scope.labels s r e in record { choice = t.choice; left = t.left; keeps = t.keeps }
part-taken scope new ATerm s r e = let t = word-taken SpellsTerm an_operand term_of term-means s r e in record { choice = (t.word, t.spells); left = t.left; keeps = tt }
part-taken scope new ARelation s r e = record { choice = tt; left = relation-taken s r e; keeps = tt }
part-taken scope new AFuture s r e =
    let t = word-taken SpellsFuture a_future (drop 1) future-means s r e in record { choice = t.spells.1; left = t.left ∙ ap (λ w. w ∷ r.1.left) t.spells.0; keeps = tt }
part-taken scope new KindVariables s r e =
    let t = items-taken SpellsVariable (AreNew 16) is_present (a_variable 16) variable_of (variable-means 16 [] is_present) s r (differ-nil, omega arith) e in
    record { choice = (t.words, t.spell); left = t.left; keeps = t.holds }
part-taken scope new MoreVariables s r e =
    let t = some-items-taken SpellsVariable (λ found. AreNew 255 (scope.variables ++ found)) is_present (λ found. a_variable 255 (scope.variables ++ found)) variable_of (variable-means 255 scope.variables (λ word. true)) s r
    (subst (AreNew 255) (sym (append-nil scope.variables)) new) e in
    record { choice = (t.0.words, t.1, t.0.spell); left = t.0.left; keeps = t.0.holds }
part-taken scope new Arguments s r e =
    let t = items-taken SpellsPassed (λ found. length found ≤ 16) is_argument (λ found. an_argument (length found)) passed_of argument-means s r (omega arith) e in
    record { choice = (t.words, t.spell); left = t.left; keeps = t.holds }
part-taken scope new RootArguments s r e =
    let t = items-taken SpellsRootTerm (λ found. length found ≤ 16) is_root_argument (λ found. an_argument (length found)) root_term_of root-argument-means s r (omega arith) e in
    record { choice = (t.words, t.spell); left = t.left; keeps = t.holds }
part-taken scope new Members s r e =
    let t = some-items-taken SpellsFuture (λ found. length found ≤ 8) is_future (λ found. a_member (length found)) (drop 1) (member-means (λ word. true)) s r (omega arith) e in
    record { choice = (t.0.words, t.1, t.0.spell); left = t.0.left; keeps = t.0.holds }
part-taken scope new HeldFutures s r e = let t = holds-taken s r e in record { choice = (t.words, t.spells); left = t.left; keeps = t.differ }
part-taken scope new SettledFutures s r e = let t = settled-taken s r e in record { choice = (t.words, t.spells); left = t.left; keeps = t.differ }
part-taken scope new Predecessor s r e = let t = behind-taken s r e in record { choice = (t.words, t.spells); left = t.left; keeps = tt }
part-taken scope new APriority s r e = let t = priority-taken s r e in record { choice = (t.words, t.spells); left = t.left; keeps = tt }
part-taken scope new LastPriority s r e = let t = last-priority-taken s r e in record { choice = (t.words, t.spells); left = t.left; keeps = tt }
part-taken scope new ARetry s r e =
    let t = retry-taken s r e in record { choice = tt; left = t.left ∙ ap (λ ws. ws ++ r.1.left) t.spells; keeps = tt }

-- what is made of parts whose words stand first
pub record TakesParts {A : Type 0} (scope : Scope) (ps : List Part) (make : Values ps → A) (s : Scan) (r : A × Scan) : Type 0 where
  pub values : Values ps
  pub choices : Choices ps values
  pub left : s.left ≡ words_of ps values choices r.1.left
  pub keep : KeepAll scope ps values
  pub made : make values ≡ r.0

parts-taken : {A : Type 0} (scope : Scope) → AreNew 255 scope.variables → (ps : List Part) (make : Values ps → A) (s : Scan) (r : A × Scan)
    → read_parts scope ps make s ≡ Ok r → TakesParts scope ps make s r
parts-taken {A} scope new [] make s r e =
    let same = same-ok (make tt, s) r e in
    record { values = tt; choices = tt; left = ap (λ (q : A × Scan). q.1.left) same; keep = tt; made = ap (λ (q : A × Scan). q.0) same }
parts-taken scope new (part ∷ ps) make s r e =
    let p = parts (read_part scope part s) _ r e in
    let one = part-taken scope new part s (p.value, p.scan) p.first in
    let more = parts-taken scope new ps (λ vs. make (p.value, vs)) p.scan r p.next in
    record {
      values = (p.value, more.values);
      choices = (one.choice, more.choices);
      left = one.left ∙ ap (λ ws. part_words part p.value one.choice ++ ws) more.left;
      keep = (one.keeps, more.keep);
      made = more.made;
    }

-- ---- lines

abbrev pub IsWithin : Option (ℕ × ℕ) → Type 0
IsWithin None = Unit {0}
IsWithin (Some count) = count.0 < count.1

begun-taken : {A : Type 0} (count : Option (ℕ × ℕ)) (read : Parser A) (s : Scan) (r : A × Scan) → begun count read s ≡ Ok r → IsWithin count × (read (moved s) ≡ Ok r)
begun-taken None read s r e = (tt, e)
begun-taken (Some count) read s r e = roomy count.0 count.1 (take_word >> read) s r e

words-end : (ps : List Part) (vs : Values ps) (c : Choices ps vs) (rest : List Word) → words_of ps vs c rest ≡ words_of ps vs c [] ++ rest
words-end [] vs c rest = refl
words-end (part ∷ ps) vs c rest = ap (λ ws. part_words part vs.0 c.0 ++ ws) (words-end ps vs.1 c.1 rest)
    ∙ sym (append_assoc (part_words part vs.0 c.0) (words_of ps vs.1 c.1 []) rest)

-- the words of an entry spell the line that is made of it
pub entry-spells : (keyword : Keyword) (vs : Values (parts_of keyword)) (c : Choices (parts_of keyword) vs)
    → Spells (keyword_word keyword ∷ words_of (parts_of keyword) vs c []) (line_of_parts keyword vs)
entry-spells Keyword.Kind vs c = (c, refl)
entry-spells _ vs c = (c, refl)

-- where its parts name what they may, and nothing is cut short, it may stand
stands : (scope : Scope) (keyword : Keyword) (vs : Values (parts_of keyword)) → may_open scope.place keyword ≡ true → IsWithin (counted scope keyword)
    → KeepAll scope (parts_of keyword) vs → is_cut_short scope.place (line_of_parts keyword vs) ≡ false → MayStand scope (line_of_parts keyword vs)
stands scope Keyword.Kind vs may few keep cut = (opened scope.place Keyword.Kind may, few, keep.0, keep.1.0.0, keep.1.0.1)
stands scope Keyword.Var vs may few keep cut = (opened scope.place Keyword.Var may, keep.0.0, keep.0.1)
stands scope Keyword.State vs may few keep cut = (may-begin scope.place (opened scope.place Keyword.State may) cut, few, keep.0, keep.1.0, keep.1.1.0)
stands scope Keyword.End vs may few keep cut = is-ended scope.place (opened scope.place Keyword.End may) cut
stands scope Keyword.Root vs may few keep cut = (opened scope.place Keyword.Root may, few, keep.0, keep.1.1.0)
stands scope Keyword.Label vs may few keep cut = (opened scope.place Keyword.Label may, few, keep.0)
stands scope Keyword.Set vs may few keep cut = (opened scope.place Keyword.Set may, few, tt)
stands scope Keyword.If vs may few keep cut = (opened scope.place Keyword.If may, few, keep.1.1.1.1.0)
stands scope Keyword.Goto vs may few keep cut = (opened scope.place Keyword.Goto may, few, keep.0)
stands scope Keyword.Spawn vs may few keep cut = (opened scope.place Keyword.Spawn may, few, keep.1.1.0)
stands scope Keyword.All vs may few keep cut = (opened scope.place Keyword.All may, few, keep.1.0)
stands scope keyword vs may few keep cut = (opened scope.place keyword may, few, tt)

-- the words that were taken spell the line, and it may stand in the scope if nothing is cut short
pub record TakesRow (scope : Scope) (s : Scan) (r : What × Scan) : Type 0 where
  pub words : List Word
  pub left : s.left ≡ words ++ r.1.left
  pub spells : Spells words r.0
  pub stands : is_cut_short scope.place r.0 ≡ false → MayStand scope r.0

keyword-present : (keyword : Keyword) → is_present (keyword_word keyword) ≡ true
keyword-present Keyword.Kind = refl
keyword-present _ = refl

line-by : (scope : Scope) → AreNew 255 scope.variables → (s : Scan) (r : What × Scan) (keyword : Keyword) → Opens scope.place (seen s) keyword
    → line_by scope (Some keyword) s ≡ Ok r → TakesRow scope s r
unfolding keyword_line
line-by scope new s r keyword o e =
    let b = begun-taken (counted scope keyword) (read_parts scope (parts_of keyword) (line_of_parts keyword)) s r e in
    let t = parts-taken scope new (parts_of keyword) (line_of_parts keyword) (moved s) r b.1 in
    let words = keyword_word keyword ∷ words_of (parts_of keyword) t.values t.choices [] in
    record {
      words = words;
      left = word-first (keyword_word keyword) s (keyword-present keyword) o.word_is
          ∙ ap (λ ws. keyword_word keyword ∷ ws) (t.left ∙ words-end (parts_of keyword) t.values t.choices r.1.left);
      spells = subst (Spells words) t.made (entry-spells keyword t.values t.choices);
      stands = subst (λ w. is_cut_short scope.place w ≡ false → MayStand scope w) t.made (stands scope keyword t.values o.may b.0 t.keep);
    }

pub line-taken : (scope : Scope) → AreNew 255 scope.variables → (s : Scan) (r : What × Scan) → read_line scope s ≡ Ok r → TakesRow scope s r
unfolding read_line
line-taken scope new s r = by (opening scope.place (seen s)) refl where
  by : (o : Option Keyword) → opening scope.place (seen s) ≡ o → line_by scope o s ≡ Ok r → TakesRow scope s r
  by None is e = cc
  by (Some keyword) is e = line-by scope new s r keyword (opens scope.place (seen s) keyword is) e
