-- Each line of the language is read as its entry in the table asks.
use Rattle.task_reader.proofs.Vocabulary.{◌≡◌, ℕ, Bool, true, false, cond, Option, Some, None, List, [], ◌∷◌, ◌++◌, drop, Ok, Err, refl, sym, ◌∙◌, ap, subst, IsSome, nat_lt, is_some, codes, if◌then◌else◌, length-map, same_bytes, Priority, Regular, UnknownWord, TwiceNamed, TooMany, BackLabel, Word, is_missing, is_present, is_future, Scan, seen, moved, fault_here, Outcome, Parser, and_then, pure, take_word, refuse, need, room, fixed, read_name, read_new_name, read_future, eat, one_or_more, What, Keyword, Place, Scope, opening, relation_of, priority_of, term_of, read_term, variable_of, read_variable, read_other_future, read_behind, priority_by, read_priority, last_priority_by, read_last_priority, read_retry, relation_by, read_relation, header_line, read_holds, read_settled, is_root_argument, root_term_of, read_root_argument, is_argument, passed_of, read_argument, read_member, Part, GotoWord, AName, ANewName, ATarget, ATerm, ARelation, AFuture, KindVariables, MoreVariables, Arguments, RootArguments, Members, HeldFutures, SettledFutures, Predecessor, APriority, LastPriority, ARetry, Values, names_of, read_part, read_parts, parts_of, line_of_parts, counted, begun, keyword_line, line_by, read_line, Test, Asked, End, One, failed_by, this_word, a_name, a_future, new_name, an_operand, is_relation, is_priority, opens, a_variable, an_argument, a_member, at_least_one, where_word, behind_part, priority_part, last_priority_part, retry_part, holds_part, settled_part, header_asked, keyword_asked, opened_by, line_asked, part_asked, parts_asked, map, length, tested, header_word, another_future, ◌>>=◌, ◌>>◌}
use Rattle.task_reader.proofs.AskedWords.{Agrees, FollowsAt, Follows, then-at, then-follows, pure-follows, map-follows, word-follows, by-agrees, where-follows, at-same, taken-at, refused-at, each-follows, some-follows}

-- ---- words

fixed-follows : (word : Word) → IsSome (failed_by (this_word word) []) → Follows (fixed word) (One (this_word word))
unfolding fixed
fixed-follows word some = word-follows (this_word word) (λ _. tt) some

-- ---- what the next word decides

-- a word of a table, or a fault
looked-follows : {B : Type 0} (look : Word → Option B) (read : Option B → Parser B) → is_some (look []) ≡ false
    → read None ≡ refuse UnknownWord → ((b : B) → read (Some b) ≡ (take_word >> pure b)) → (s : Scan)
    → FollowsAt (read (look (seen s))) (One ((λ word. is_some (look word), UnknownWord) ∷ [])) s
looked-follows {B} look read none nothing something s = by (look (seen s)) refl where
  tests : List Test
  tests = (λ word. is_some (look word), UnknownWord) ∷ []

  some : IsSome (failed_by tests [])
  some = subst (λ b. IsSome (cond b None (Some UnknownWord))) (sym none) refl

  by : (o : Option B) → look (seen s) ≡ o → FollowsAt (read o) (One tests) s
  by None e = subst (λ (p : Parser B). FollowsAt p (One tests) s) (sym nothing)
      (refused-at B tests UnknownWord s (ap (λ o. cond (is_some o) None (Some UnknownWord)) e) some)
  by (Some b) e = subst (λ (p : Parser B). FollowsAt p (One tests) s) (sym (something b))
      (taken-at tests (λ w. b) s (ap (λ o. cond (is_some o) None (Some UnknownWord)) e) some)

relation-follows : Follows read_relation (One ((is_relation, UnknownWord) ∷ []))
unfolding read_relation
relation-follows s = looked-follows relation_of relation_by refl refl (λ b. refl) s

last-priority-looked : (s : Scan) → FollowsAt (last_priority_by (priority_of (seen s))) (One ((is_priority, UnknownWord) ∷ [])) s
last-priority-looked s = looked-follows priority_of last_priority_by refl refl (λ b. refl) s

-- nothing where no word is left
missing-or : {A : Type 0} (p : Parser A) (a : A) (q : Parser A) (part : Asked → Asked) (s : Scan)
    → p s ≡ (if is_missing (seen s) then pure a else q) s → FollowsAt q part s → FollowsAt p (λ next. where_word is_missing next (part next)) s
missing-or p a q part s is h = where-follows p is_missing (λ next. next) part s
    (λ e. at-same p (pure a) (λ next. next) s (is ∙ ap (λ b. cond b (pure a) q s) e) (pure-follows a s))
    (λ e. at-same p q part s (is ∙ ap (λ b. cond b (pure a) q s) e) h)

last-priority-follows : Follows read_last_priority last_priority_part
unfolding read_last_priority
last-priority-follows s = missing-or read_last_priority Regular (last_priority_by (priority_of (seen s))) (One ((is_priority, UnknownWord) ∷ [])) s refl (last-priority-looked s)

retry-follows : Follows read_retry retry_part
unfolding read_retry
retry-follows s = missing-or read_retry false (fixed (codes "retry") >> pure true) (One (this_word (codes "retry"))) s refl
    (map-follows (fixed (codes "retry")) (λ _. true) (One (this_word (codes "retry"))) (fixed-follows (codes "retry") refl) s)

priority-follows : Follows read_priority priority_part
unfolding read_priority
priority-follows s = by (priority_of (seen s)) refl where
  by : (o : Option Priority) → priority_of (seen s) ≡ o → FollowsAt read_priority priority_part s
  by None e = where-follows read_priority is_priority (λ next. One ((is_priority, UnknownWord) ∷ []) next) (λ next. next) s
      (λ t. let c : false ≡ true = ap is_some (sym e) ∙ t in cc)
      (λ t. at-same read_priority (priority_by None) (λ next. next) s (ap (λ o. priority_by o s) e) (pure-follows Regular s))
  by (Some p) e = where-follows read_priority is_priority (λ next. One ((is_priority, UnknownWord) ∷ []) next) (λ next. next) s
      (λ t. at-same read_priority (priority_by (Some p)) (λ next. One ((is_priority, UnknownWord) ∷ []) next) s (ap (λ o. priority_by o s) e)
      (taken-at ((is_priority, UnknownWord) ∷ []) (λ w. p) s (ap (λ b. cond b None (Some UnknownWord)) t) refl))
      (λ t. let c : true ≡ false = ap is_some (sym e) ∙ t in cc)

-- what stands behind a word, if that word comes next
eaten-follows : {A : Type 0} (word : Word) (f : Bool → Parser A) (part : Asked → Asked) → IsSome (failed_by (this_word word) [])
    → Follows (f true) part → Follows (f false) (λ next. next) → Follows (eat word >>= f) (λ next. where_word (same_bytes word) (One (this_word word) (part next)) next)
unfolding eat
eaten-follows {A} word f part some found absent s = where-follows (eat word >>= f) (same_bytes word) (λ next. One (this_word word) (part next)) (λ next. next) s
    (λ e. at-same (eat word >>= f) (take_word >> f true) (λ next. One (this_word word) (part next)) s (is true e)
    (then-at take_word (λ _. f true) (One (this_word word)) part s
    (taken-at (this_word word) (λ w. w) s (ap (λ b. cond b None (Some UnknownWord)) e) some) (λ a t same. found t)))
    (λ e. at-same (eat word >>= f) (f false) (λ next. next) s (is false e) (absent s)) where
      is : (b : Bool) → same_bytes word (seen s) ≡ b → (eat word >>= f) s ≡ and_then (cond {A = Outcome Bool} b (Ok (true, moved s)) (Ok (false, s))) f
      is b e = ap (λ b. and_then (cond {A = Outcome Bool} b (Ok (true, moved s)) (Ok (false, s))) f) e

behind-follows : Follows read_behind behind_part
unfolding read_behind read_future
behind-follows = eaten-follows (codes "behind") _ (One a_future) refl (map-follows (tested a_future (drop 1)) Some (One a_future) (word-follows a_future (drop 1) refl)) (pure-follows {A = Option (List ℕ)} None)

-- ---- lists

futures-follow : (test : Word → Bool) → test [] ≡ false → Follows (one_or_more test read_other_future) (at_least_one test another_future)
unfolding read_other_future
futures-follow test none = some-follows test read_other_future another_future (drop 1) (λ words s. refl) none refl

holds-follows : Follows read_holds holds_part
unfolding read_holds
holds-follows = eaten-follows (codes "holds") _ (at_least_one is_future another_future) refl (futures-follow is_future refl) (pure-follows {A = List (List ℕ)} [])

settled-follows : Follows read_settled settled_part
unfolding read_settled
settled-follows s = missing-or read_settled [] (fixed (codes "settled") >> one_or_more is_present read_other_future) (λ next. One (this_word (codes "settled")) (at_least_one is_present another_future next)) s refl
    (then-follows (fixed (codes "settled")) (λ _. one_or_more is_present read_other_future) (One (this_word (codes "settled"))) (at_least_one is_present another_future)
    (fixed-follows (codes "settled") refl) (λ _. futures-follow is_present refl) s)

-- ---- parts

part-follows : (scope : Scope) (part : Part) → Follows (read_part scope part) (part_asked scope part)
unfolding read_name read_new_name read_future read_term read_variable read_argument read_root_argument read_member
part-follows scope GotoWord = fixed-follows (codes "goto") refl
part-follows scope AName = word-follows a_name (λ w. w) refl
part-follows scope (ANewName named) = word-follows (new_name TwiceNamed (names_of scope named)) (λ w. w) refl
part-follows scope ATarget = word-follows (new_name BackLabel scope.labels) (λ w. w) refl
part-follows scope ATerm = word-follows an_operand term_of refl
part-follows scope ARelation = relation-follows
part-follows scope AFuture = word-follows a_future (drop 1) refl
part-follows scope KindVariables = each-follows is_present (read_variable 16) (λ found. a_variable 16 (map variable_of found)) variable_of (λ words s. refl) refl []
part-follows scope MoreVariables =
    some-follows is_present (λ found. read_variable 255 (scope.variables ++ found)) (λ found. a_variable 255 (scope.variables ++ map variable_of found)) variable_of (λ words s. refl) refl refl
part-follows scope Arguments =
    each-follows is_argument read_argument (λ found. an_argument (length found)) passed_of (λ words s. ap (λ n. tested (an_argument n) passed_of s) (length-map words passed_of)) refl []
part-follows scope RootArguments =
    each-follows is_root_argument read_root_argument (λ found. an_argument (length found)) root_term_of (λ words s. ap (λ n. tested (an_argument n) root_term_of s) (length-map words root_term_of)) refl []
part-follows scope Members =
    some-follows is_future read_member (λ found. a_member (length found)) (drop 1) (λ words s. ap (λ n. tested (a_member n) (drop 1) s) (length-map words (drop 1))) refl refl
part-follows scope HeldFutures = holds-follows
part-follows scope SettledFutures = settled-follows
part-follows scope Predecessor = behind-follows
part-follows scope APriority = priority-follows
part-follows scope LastPriority = last-priority-follows
part-follows scope ARetry = retry-follows

-- the parts of a line are read as they are asked, one after the other
parts-follow : {A : Type 0} (scope : Scope) (ps : List Part) (make : Values ps → A) → Follows (read_parts scope ps make) (parts_asked scope ps)
parts-follow scope [] make = pure-follows (make tt)
parts-follow scope (part ∷ ps) make =
    then-follows (read_part scope part) _ (part_asked scope part) (parts_asked scope ps) (part-follows scope part) (λ v. parts-follow scope ps (λ vs. make (v, vs)))

-- ---- lines

-- a first word that is there opens one of at most so many
open-at : {A : Type 0} (count limit : ℕ) (q : Parser A) (part : Asked → Asked) (s : Scan) → is_present (seen s) ≡ true → Follows q part
    → FollowsAt (room count limit >> (take_word >> q)) (λ next. One (opens (Some (count, limit))) (part next)) s
unfolding room need
open-at {A} count limit q part s there h =
    at-same (room count limit >> (take_word >> q)) (tested (opens (Some (count, limit))) (λ w. w) >>= (λ _. q)) (λ next. One (opens (Some (count, limit))) (part next)) s (same (nat_lt count limit))
    (then-follows (tested (opens (Some (count, limit))) (λ w. w)) (λ _. q) (One (opens (Some (count, limit)))) part (word-follows (opens (Some (count, limit))) (λ w. w) refl) (λ _. h) s) where
      passed : Bool → Scan → Outcome Word
      passed b t = and_then (cond {A = Outcome (Unit {0})} b (Ok (tt, t)) (Err (fault_here TooMany t))) (λ (u : Unit {0}) t. Ok (seen t, moved t))

      same : (b : Bool) → and_then (cond {A = Outcome (Unit {0})} b (Ok (tt, s)) (Err (fault_here TooMany s))) (λ (u : Unit {0}). take_word >> q)
          ≡ and_then (and_then (cond {A = Outcome (Unit {0})} (is_present (seen s)) (Ok (tt, s)) (Err (fault_here UnknownWord s))) (λ (u : Unit {0}). passed b)) (λ (w : Word). q)
      same true = ap (λ c. and_then (and_then (cond {A = Outcome (Unit {0})} c (Ok (tt, s)) (Err (fault_here UnknownWord s))) (λ (u : Unit {0}). passed true)) (λ (w : Word). q)) (sym there)
      same false = ap (λ c. and_then (and_then (cond {A = Outcome (Unit {0})} c (Ok (tt, s)) (Err (fault_here UnknownWord s))) (λ (u : Unit {0}). passed false)) (λ (w : Word). q)) (sym there)

-- a first word that is there is taken
first-at : {A : Type 0} (q : Parser A) (part : Asked → Asked) (s : Scan) → is_present (seen s) ≡ true → Follows q part
    → FollowsAt (take_word >> q) (λ next. One ((is_present, UnknownWord) ∷ []) (part next)) s
first-at q part s there h = then-at take_word (λ _. q) (One ((is_present, UnknownWord) ∷ [])) part s
    (taken-at ((is_present, UnknownWord) ∷ []) (λ w. w) s (ap (λ b. cond b None (Some UnknownWord)) there) refl) (λ a t e. h t)

-- a first word that is there opens a line, of which there may be a limit
begun-at : {A : Type 0} (count : Option (ℕ × ℕ)) (q : Parser A) (part : Asked → Asked) (s : Scan) → is_present (seen s) ≡ true → Follows q part
    → FollowsAt (begun count q) (λ next. One (opens count) (part next)) s
begun-at None q part s there h = first-at q part s there h
begun-at (Some count) q part s there h = open-at count.0 count.1 q part s there h

keyword-agrees : (scope : Scope) (keyword : Keyword) (s : Scan) → is_present (seen s) ≡ true → Agrees (line_by scope (Some keyword) s) s (keyword_asked scope keyword) End
unfolding keyword_line
keyword-agrees scope keyword s there =
    begun-at (counted scope keyword) (read_parts scope (parts_of keyword) (line_of_parts keyword)) (parts_asked scope (parts_of keyword)) s there
    (parts-follow scope (parts_of keyword) (line_of_parts keyword)) End

opening-there : (place : Place) (word : Word) (keyword : Keyword) → opening place word ≡ Some keyword → is_present word ≡ true
opening-there place [] keyword e = cc
opening-there place (byte ∷ bytes) keyword e = refl

-- a line is read as the table asks
pub line-agrees : (scope : Scope) (s : Scan) → Agrees (read_line scope s) s (line_asked scope) End
unfolding read_line
line-agrees scope s = by (opening scope.place (seen s)) refl where
  by : (o : Option Keyword) → opening scope.place (seen s) ≡ o → Agrees (read_line scope s) s (line_asked scope) End
  by None e = by-agrees (line_by scope (opening scope.place (seen s)) s) (λ word. opened_by scope (opening scope.place word)) s End
      (subst (λ o. Agrees (line_by scope o s) s (opened_by scope o) End) (sym e)
      (refused-at What ((λ word. false, UnknownWord) ∷ []) UnknownWord s refl refl End))
  by (Some keyword) e = by-agrees (line_by scope (opening scope.place (seen s)) s) (λ word. opened_by scope (opening scope.place word)) s End
      (subst (λ o. Agrees (line_by scope o s) s (opened_by scope o) End) (sym e)
      (keyword-agrees scope keyword s (opening-there scope.place (seen s) keyword e)))

-- and so is the header
pub header-agrees : (s : Scan) → Agrees (header_line s) s header_asked End
unfolding header_line
header-agrees s = then-follows (tested (header_word (codes "ktask")) (λ _. tt {0})) _ (One (header_word (codes "ktask"))) (One (header_word (codes "1")))
    (word-follows (header_word (codes "ktask")) (λ _. tt) refl) (λ _. word-follows (header_word (codes "1")) (λ _. tt) refl) s End
