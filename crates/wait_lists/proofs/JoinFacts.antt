-- A join, try by try.
use Rattle.std.proofs.Common.{◌≡◌, ◌≢◌, ◌∙◌, ◌⊎◌, inl, inr, ℕ, zero, suc, ◌+◌, ◌-◌, ◌<◌, ◌≤◌, Option, Some, List, [], ◌∷◌, ◌++◌, refl, sym, ap, subst, arith}
use Rattle.std.proofs.lemmas.Bool.{cases_eq}
use Rattle.record_core.specs.Counting.{At, Has, times, dropped}
use Rattle.kt_words.specs.declared.plan.Plan.{Plan}
use Rattle.kt_words.specs.declared.head_word.HeadWord.{HeadWord}
use Rattle.kt_words.specs.declared.head_word.HeadWord.TheVariants.{Listed, Closed}
use Rattle.kt_words.specs.HeadWords.{FitsHeadWord, closed_word, length_of, packed_head}
use Rattle.kt_words.proofs.HeadWordFacts.{head_word_says_its_numbers, head_word_has_one_value, listed_is_not_closed}
use Rattle.table_core.specs.Addresses.{Addr, head, next, units_of}
use Rattle.task_meaning.specs.Worths.{Accepted}
use Rattle.table_core.specs.Holdings.{Sight, SawHead, SawTask}
use Rattle.table_core.specs.Story.{Fact, IsAccepted}
use Rattle.table_core.specs.Sights.{IsLater}
use Rattle.table_core.specs.Views.{saw}
use Rattle.table_core.specs.WaitViews.{saw_head, is_waiter_at, link_in, tried, joined_list}
use Rattle.table_core.specs.declared.view.View.{View}
use Rattle.table_core.proofs.ListFacts.{same_some, each-cons, each-none}
use Rattle.step_table.specs.declared.pass.Pass.{Pass}
use Rattle.step_table.specs.declared.record_tokens.Linkable.{Linkable}
use Rattle.step_table.specs.Passes.{view}
use Rattle.schedule_rule.specs.LifeViews.{KnowsBehind, SawOver, knowing}
use Rattle.step_table.specs.RecordHands.{HasFuture}
use Rattle.step_table.specs.ListHands.{IsOpenHead, MayPush, last_head}
use Rattle.step_table.specs.ListSteps.{IsFoundHead, SeesHead}
use Rattle.wait_lists.specs.Joining.{MayJoin, MayTry, relinked, TryWins, TryLoses, OnList, Waits, IsRelinked, SawClosed}
use Rattle.wait_lists.proofs.Relinking.{linked-there, dropped-link_in, relinked-again, relinked-waiter}

-- a head of so many that wait: at most so many tries were lost before it was found
abbrev pub tries_before : Plan → HeadWord → ℕ
tries_before g Closed = units_of g + 1
tries_before g (Listed first length) = length

-- how many tries may still be lost
abbrev pub tries_left : Plan → HeadWord → ℕ
tries_left g word = units_of g + 1 - tries_before g word

-- before each try: what was seen since the call began, and the head that was found last
pub record IsJoining (g : Plan) (u w : ℕ) (old now : View) (word : HeadWord) : Type 0 where
  pub is_head : IsFoundHead g word
  pub steps : List (Addr × ℕ)
  pub on_list : OnList u w old now steps
  pub found : Has (head u, packed_head word) steps
  pub earlier : List Sight
  pub sighted : now.sights ≡ SawHead u (packed_head word) ∷ earlier
  pub unclosed : IsOpenHead word → ¬ Has (head u, closed_word) steps
  pub waiting : IsRelinked w old.waiting now.waiting
  pub few : now.tries ≤ old.tries + tries_before g word
  pub facts : (more : List Fact) × (now.facts ≡ more ++ old.facts)
  pub untold : IsOpenHead word → now.facts ≡ old.facts
  pub over : packed_head word ≡ closed_word → SawOver now u
  pub view_is : now ≡ record old { waiting = now.waiting; sights = now.sights; facts = now.facts; seen = now.seen; tries = now.tries }

-- a step on another word or of another number is not the one that found the head closed
pair-apart : (u : ℕ) (step : Addr × ℕ) → step.1 ≢ closed_word → step ≡ (head u, closed_word) → ⊥
pair-apart u step ne e = ne (ap (λ (p : Addr × ℕ). p.1) e)

head-next : (u w found : ℕ) → ◌≡◌ {A = Addr × ℕ} (next w, found) (head u, closed_word) → ⊥
head-next u w found e = let no : next w ≡ head u → ⊥ = λ x. cc in no (ap (λ (p : Addr × ℕ). p.0) e)

not-cons : {A : Type 0} (x y : A) (l : List A) → (y ≡ x → ⊥) → ¬ Has x l → ¬ Has x (y ∷ l)
not-cons x y l apart none has = by has.0 has.1
  where
    by : (k : ℕ) → At (y ∷ l) k x → ⊥
    by zero at = apart (same_some y x at)
    by (suc k) at = none (k, at)

-- the first look
pub join-starts : (g : Plan) (u w : ℕ) (old : Pass) (word : HeadWord) (new : Pass) → SeesHead g u old word new → IsJoining g u w (view old) (view new) word
join-starts g u w old word new sees = subst (λ (v : View). IsJoining g u w (view old) v word) (sym sees.tells.1) (record {
  is_head = sees.is_head;
  steps = (head u, packed_head word) ∷ [];
  on_list = record { since = refl; only = each-cons _ (head u, packed_head word) [] (inl refl) (each-none _); sights = (SawHead u (packed_head word) ∷ [], refl) };
  found = (0, refl);
  earlier = (view old).sights;
  sighted = refl;
  unclosed = λ opened. not-cons (head u, closed_word) (head u, packed_head word) [] (pair-apart u (head u, packed_head word) opened) (λ has. each-none (λ x. ⊥) has.0 (head u, closed_word) has.1);
  waiting = inl refl;
  few = omega arith;
  facts = (sees.tells.0, refl);
  untold = λ opened. ap (λ (l : List Fact). l ++ (view old).facts) (sees.tells.2 opened);
  over = λ closed. subst (λ (v : View). SawOver v u) sees.tells.1 (sees.tells.3 closed);
  view_is = refl;
})

-- an open head that fits is listed, with its length
pub open-length : (word : HeadWord) (g : Plan) → FitsHeadWord word → IsOpenHead word → tries_before g word ≡ length_of (packed_head word)
open-length Closed g fits opened = absurd (opened refl)
open-length (Listed first length) g fits opened = sym (head_word_says_its_numbers _ length fits.0).length_is

pub listed-open : (word : HeadWord) (first : Option ℕ) (length : ℕ) → word ≡ Listed first length → FitsHeadWord word → IsOpenHead word
listed-open word first length is fits closed = other (sym is ∙ head_word_has_one_value word Closed fits tt closed)
  where
    other : Listed first length ≡ Closed → ⊥
    other e = cc

pub closed-word : (word : HeadWord) → word ≡ Closed → packed_head word ≡ closed_word
closed-word word e = ap packed_head e

module _ (g : Plan) (u : ℕ) (waiter : Linkable) (old : View) (now new : Pass) (word : HeadWord) (joining : IsJoining g u waiter.unit old (view now) word) (opened : IsOpenHead word) where
  abbrev w : ℕ
  w = waiter.unit

  -- a lost try found a later head: closed, or longer
  before-more : (lost : Linkable × HeadWord) → TryLoses g u waiter word now lost new → tries_before g word + 1 ≤ tries_before g lost.1
  before-more lost loses = by (cases_eq (packed_head lost.1) closed_word)
    where
      before : tries_before g word ≤ units_of g
      before = omega (arith, open-length word g joining.is_head.fits opened, joining.is_head.few opened)

      at_closed : (x : HeadWord) → FitsHeadWord x → packed_head x ≡ closed_word → tries_before g x ≡ units_of g + 1
      at_closed Closed fits e = refl
      at_closed (Listed first length) fits e = absurd ((listed_is_not_closed (packed_head (Listed first length)) (omega (arith, (head_word_says_its_numbers _ length fits.0).length_is, fits.1))).0 e)

      longer : packed_head lost.1 ≢ closed_word → IsLater (packed_head word) (packed_head lost.1) → length_of (packed_head word) < length_of (packed_head lost.1)
      longer ne (inl same) = absurd (loses.other (head_word_has_one_value lost.1 word loses.is_head.fits joining.is_head.fits same))
      longer ne (inr (inl closed)) = absurd (ne closed)
      longer ne (inr (inr t)) = t.1

      by : (packed_head lost.1 ≡ closed_word) ⊎ (packed_head lost.1 ≢ closed_word) → tries_before g word + 1 ≤ tries_before g lost.1
      by (inl closed) = omega (arith, before, at_closed lost.1 loses.is_head.fits closed)
      by (inr ne) = omega (arith, open-length word g joining.is_head.fits opened, open-length lost.1 g loses.is_head.fits ne, longer ne loses.later)

  pub fewer-left : (lost : Linkable × HeadWord) → TryLoses g u waiter word now lost new → tries_left g lost.1 < tries_left g word
  fewer-left lost loses = omega (arith, before-more lost loses, open-length word g joining.is_head.fits opened, joining.is_head.few opened)

  unclosed-yet : ¬ Has (head u, closed_word) joining.steps
  unclosed-yet = joining.unclosed opened

  -- after a lost try
  pub join-goes-on : (lost : Linkable × HeadWord) → TryLoses g u waiter word now lost new → IsJoining g u w old (view new) lost.1
  join-goes-on lost loses = subst (λ (v : View). IsJoining g u w old v lost.1) (sym loses.tells.1) (record {
    is_head = loses.is_head;
    steps = (head u, packed_head lost.1) ∷ (next w, loses.found) ∷ joining.steps;
    on_list = record {
      since = ap (λ (l : List (Addr × ℕ)). (head u, packed_head lost.1) ∷ (next w, loses.found) ∷ l) joining.on_list.since;
      only = each-cons _ (head u, packed_head lost.1) ((next w, loses.found) ∷ joining.steps) (inl refl) (each-cons _ (next w, loses.found) joining.steps (inr refl) joining.on_list.only);
      sights = (SawHead u (packed_head lost.1) ∷ joining.on_list.sights.0, ap (λ (l : List Sight). SawHead u (packed_head lost.1) ∷ l) joining.on_list.sights.1);
    };
    found = (0, refl);
    earlier = (view now).sights;
    sighted = refl;
    unclosed = λ opened'. not-cons (head u, closed_word) (head u, packed_head lost.1) ((next w, loses.found) ∷ joining.steps) (pair-apart u (head u, packed_head lost.1) opened')
        (not-cons (head u, closed_word) (next w, loses.found) joining.steps (head-next u w loses.found) unclosed-yet);
    waiting = inr (packed_head word, relinked-again w old.waiting (view now).waiting (packed_head word) joining.waiting);
    few = omega (arith, joining.few, before-more lost loses);
    facts = (loses.tells.0, ap (λ (l : List Fact). loses.tells.0 ++ l) (joining.untold opened));
    untold = λ opened'. ap (λ (l : List Fact). l ++ (view now).facts) (loses.tells.2 opened') ∙ joining.untold opened;
    over = λ closed. subst (λ (v : View). SawOver v u) loses.tells.1 (loses.tells.3 closed);
    view_is = ap (λ (v : View). knowing loses.tells.0 (saw (head u) (packed_head lost.1) (saw_head u (packed_head lost.1) (tried (relinked w loses.found (packed_head word) v))))) joining.view_is;
  })

  -- after a try that won
  pub join-waits : TryWins u w (packed_head word) now new → Waits u w old (view new)
  join-waits wins = subst (Waits u w old) (sym wins.view_is) (record {
    steps = (head u, packed_head word) ∷ (next w, wins.found) ∷ joining.steps;
    on_list = record {
      since = ap (λ (l : List (Addr × ℕ)). (head u, packed_head word) ∷ (next w, wins.found) ∷ l) joining.on_list.since;
      only = each-cons _ (head u, packed_head word) ((next w, wins.found) ∷ joining.steps) (inl refl) (each-cons _ (next w, wins.found) joining.steps (inr refl) joining.on_list.only);
      sights = joining.on_list.sights;
    };
    looked = (packed_head word, (0, refl));
    unclosed = not-cons (head u, closed_word) (head u, packed_head word) ((next w, wins.found) ∷ joining.steps) (pair-apart u (head u, packed_head word) opened)
        (not-cons (head u, closed_word) (next w, wins.found) joining.steps (head-next u w wins.found) unclosed-yet);
    view_is = ap (λ (v : View). saw (head u) (packed_head word) (joined_list w (relinked w wins.found (packed_head word) v))) joining.view_is
        ∙ (λ i. record old { waiting = left i; sights = (view now).sights; facts = joining.untold opened i; seen = (head u, packed_head word) ∷ (next w, wins.found) ∷ (view now).seen; tries = (view now).tries + 1 });
  })
    where
      left : dropped (is_waiter_at w) (link_in w (packed_head word) (view now).waiting) ≡ dropped (is_waiter_at w) old.waiting
      left = ap (dropped (is_waiter_at w)) (relinked-again w old.waiting (view now).waiting (packed_head word) joining.waiting) ∙ dropped-link_in w (packed_head word) old.waiting

  pub wins-few : TryWins u w (packed_head word) now new → (view new).tries ≤ old.tries + (units_of g + 1)
  wins-few wins = omega (arith, ap (λ (v : View). v.tries) wins.view_is, joining.few, open-length word g joining.is_head.fits opened, joining.is_head.few opened)

-- a head that is not listed is closed
pub unlisted : (word : HeadWord) → ((first : Option ℕ) (length : ℕ) → word ≡ Listed first length → ⊥) → word ≡ Closed
unlisted Closed not = refl
unlisted (Listed first length) not = absurd (not first length refl)

-- after the head was found closed
pub join-closed : (g : Plan) (u w : ℕ) (old now : View) (word : HeadWord) → IsJoining g u w old now word → word ≡ Closed → SawClosed u w old now × (now.tries ≤ old.tries + (units_of g + 1))
join-closed g u w old now word joining is = (
  record {
    steps = joining.steps;
    on_list = joining.on_list;
    closed = subst (λ (n : ℕ). Has (head u, n) joining.steps) (closed-word word is) joining.found;
    sighted = subst (λ (n : ℕ). Has (SawHead u n) now.sights) (closed-word word is) (subst (Has (SawHead u (packed_head word))) (sym joining.sighted) (0, refl));
    waiting = joining.waiting;
    still = λ x there. relinked-waiter w old.waiting now.waiting x there joining.waiting;
    over = joining.over (closed-word word is);
    facts = joining.facts;
    view_is = joining.view_is;
  },
  omega (arith, joining.few, ap (tries_before g) is),
)

-- a member is one of a longer list
pub has-behind : {A : Type 0} (x : A) (more l : List A) → Has x l → Has x (more ++ l)
has-behind x [] l has = has
has-behind x (y ∷ more) l has = let later = has-behind x more l has in (suc later.0, later.1)

-- what a try needs is there before each
module _ (g : Plan) (u w : ℕ) (old now : View) (word : HeadWord) (joining : IsJoining g u w old now word) where
  still-refers : HasFuture g u old → HasFuture g u now
  still-refers has = record { near = has.near; there = subst (λ (v : View). 1 ≤ times u v.futures) (sym joining.view_is) has.there }

  fact-there : (f : Fact) → Has f old.facts → Has f now.facts
  fact-there f has = subst (Has f) (sym joining.facts.1) (has-behind f joining.facts.0 old.facts has)

  seen-there : (s : Sight) → Has s old.sights → Has s now.sights
  seen-there s has = subst (Has s) (sym joining.on_list.sights.1) (has-behind s joining.on_list.sights.0 old.sights has)

  still-behind : (n m : ℕ) → m ≡ n → KnowsBehind old u n → KnowsBehind now u m
  still-behind n m same knows =
      let call : Accepted = knows.0 in let t : ℕ = knows.1 in
      (call, t, subst (λ (k : ℕ). Has (IsAccepted k call) now.facts) (sym same) (fact-there (IsAccepted n call) knows.2), seen-there (SawTask u t) knows.3, knows.4)

  pub still-may : MayJoin g u w old → MayJoin g u w now
  still-may may =
      let still = relinked-waiter w old.waiting now.waiting may.waiter may.at.there joining.waiting in
      record {
        future = still-refers may.future;
        waiter = still.waiter;
        at = record { near = may.at.near; there = still.there };
        behind = still-behind may.waiter.number still.waiter.number still.number_is may.behind;
      }

  pub may-try : IsOpenHead word → MayJoin g u w old → MayTry g u w word now
  may-try opened may = record {
    may = still-may may;
    linkable = (joining.is_head.fits, opened, (u, ap last_head joining.sighted));
    seen = subst (Has (SawHead u (packed_head word))) (sym joining.sighted) (0, refl);
  }

-- a waiter that was linked to the head that was seen may be pushed over it
pub may-push : (g : Plan) (u w found : ℕ) (word : HeadWord) (old new : View) → MayTry g u w word old → new ≡ relinked w found (packed_head word) old → MayPush g u w word new
may-push g u w found word old new try is = subst (MayPush g u w word) (sym is) (record {
  future = record { near = try.may.future.near; there = try.may.future.there };
  waiter = record try.may.waiter { linked = Some (packed_head word) };
  at = record { near = try.may.at.near; there = linked-there w (packed_head word) old.waiting try.may.waiter try.may.at.there };
  linked_to = refl;
  fits = try.linkable.0;
  opened = try.linkable.1;
  seen = try.seen;
  behind = try.may.behind;
})
