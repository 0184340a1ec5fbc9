-- The steps on wait lists, by the values that name the records.
use Rattle.std.proofs.Common.{◌≡◌, ◌≢◌, ◌∙◌, ℕ, ◌+◌, ◌^◌, ◌<◌, ◌≤◌, ◌==◌, false, Option, Some, None, List, [], ◌∷◌, length, refl, sym, ap, subst, arith}
use prog.Atomic.{either}
use Rattle.std.specs.Prelude.{SomeIff, ◌-◌}
use Rattle.record_core.specs.Counting.{Has, dropped}
use Rattle.kt_words.specs.declared.plan.Plan.{Plan}
use Rattle.kt_words.specs.declared.head_word.HeadWord.{HeadWord}
use Rattle.kt_words.specs.declared.head_word.HeadWord.TheVariants.{Listed, Closed}
use Rattle.kt_words.specs.HeadWords.{FitsHeadWord, IsHeadWord, closed_word, head_word, link_code, link_of, length_of, packed_head}
use Rattle.kt_words.specs.declared.phase.Phase.TheVariants.{Complete}
use Rattle.kt_words.specs.declared.state_word.StateWord.{StateWord}
use Rattle.kt_words.specs.StateWords.{phase_of, number_of, tag_of, phase_code, tag_code, packed_state, FitsStateWord}
use Rattle.kt_words.specs.StateWordLaws.{StateWordSays}
use Rattle.kt_words.proofs.StateWordFacts.{state_word_says_its_value}
use Rattle.table_core.specs.Addresses.{state, head, next, units_of}
use Rattle.table_core.specs.Lists.{Each}
use Rattle.table_core.specs.Holdings.{Waiter, Run, Done, SawHead}
use Rattle.table_core.specs.Sights.{IsLater}
use Rattle.table_core.specs.WaitLists.{link_to}
use Rattle.table_core.specs.Views.{saw}
use Rattle.table_core.specs.WaitViews.{linked, closed_list, with_chain, same_list, unchained}
use Rattle.table_core.specs.Story.{Outcome}
use Rattle.table_core.specs.declared.setup.Setup.{Setup}
use Rattle.table_core.specs.declared.view.View.{View}
use Rattle.table_core.proofs.ListFacts.{each-tail}
use Rattle.table_core.proofs.WaitKinds.{IsRest}
use Rattle.table_core.proofs.ListKinds.{IsTaken}
use Rattle.schedule_rule.specs.LifeViews.{TriedJoin, Unchained, IsFinishWord, FinishedTask, knowing}
use Rattle.schedule_rule.specs.Parts.{Keeps}
use Rattle.schedule_rule.proofs.ListKindsJoin.{links-at, joins-at}
use Rattle.schedule_rule.proofs.ListKinds.{closes-at}
use Rattle.schedule_rule.proofs.FinishKinds.{finishes-at}
use Rattle.step_table.specs.declared.record_tokens.Chain.{Chain}
use Rattle.step_table.specs.declared.pass.Pass.{Pass}
use Rattle.step_table.specs.Passes.{view}
use Rattle.step_table.specs.ListSteps.{Unchains}
use Rattle.step_table.specs.Lookups.{run_in}
use Rattle.step_table.specs.RecordHands.{WaiterAt, RunAt, DoneAt}
use Rattle.step_table.specs.ListHands.{MayPush, StandsChain, HasChain}
use Rattle.step_table.proofs.LookupFacts.{waiter-there, run-there, done-there}
use Rattle.step_table.proofs.Stepping.{weaker}

-- what the taking of a list tells, of the head that is found and of the view
abbrev pub TellsTaken : Plan → View → ℕ → ℕ → View → Type 0
TellsTaken g v u r y = (members : List ℕ) × (y ≡ saw (head u) r (closed_list u members v)) × IsTaken g r members

-- what the load of the next word of u tells, the first of a chain
abbrev pub TellsRest : View → ℕ → ℕ → View → Type 0
TellsRest v u r w = (rest : List ℕ) × Unchained u v r rest w × IsRest v.chains u r rest

-- what a finish tells, of the run that is looked up at the unit
abbrev pub TellsFinish : View → ℕ → Outcome → View → Type 0
TellsFinish v u outcome w = (r : Run) → run_in u v.runs ≡ Some r → FinishedTask u r.task outcome v w

-- what is looked up is one run
some-run : (r other : Run) → Some r ≡ Some other → r ≡ other
some-run r other e = cc

module _ (g : Setup) (id : ℕ) (v : View) (in_use : 1 ≤ v.parts) (u : ℕ) where
  -- a waiter is linked to a head
  pub links-value : (w : Waiter) → WaiterAt g.plan u v w → (h : ℕ) → Keeps g id v (next u) (λ n. link_of h) (λ r y. (n : ℕ) × (y ≡ saw (next u) n (linked u h v)))
  links-value w at h =
      let has = waiter-there u v.waiting w at.there in
      subst (λ (x : ℕ). Keeps g id v (next x) (λ n. link_of h) (λ r y. (n : ℕ) × (y ≡ saw (next x) n (linked x h v)))) has.1 (links-at g id v w has.0 in_use h)

  -- the list of a done record is taken
  pub closes-value : (d : Done) → DoneAt g.plan u v d → d.closed ≡ false → (word : ℕ) → word ≡ closed_word → Keeps g id v (head u) (λ n. word) (TellsTaken g.plan v u)
  closes-value d at not_closed word is =
      let has = done-there u v.done d at.there in
      subst (λ (k : ℕ). Keeps g id v (head u) (λ n. k) (TellsTaken g.plan v u)) (sym is)
      (subst (λ (x : ℕ). Keeps g id v (head x) (λ n. closed_word) (TellsTaken g.plan v x)) has.1 (closes-at g id v d has.0 not_closed in_use))

  -- a running record is done
  pub finishes-value : (r : Run) → RunAt g.plan u v r → r.unplaced ≡ 0 → (word : ℕ) (outcome : Outcome) → IsFinishWord v r word outcome → Keeps g id v (state u) (λ n. word) (λ n. TellsFinish v u outcome)
  finishes-value r at placed word outcome is =
      let has = run-there u v.runs r at.there in
      weaker g id v (state u) (λ n. word) (λ n w. FinishedTask u r.task outcome v w) (λ n. TellsFinish v u outcome)
      (λ n w told other is_it. subst (λ (t : ℕ). FinishedTask u t outcome v w) (ap (λ (x : Run). x.task) (some-run r other (sym at.there ∙ is_it))) told)
      (subst (λ (x : ℕ). Keeps g id v (state x) (λ n. word) (λ n w. FinishedTask x r.task outcome v w)) has.1 (finishes-at g id v r has.0 placed in_use word outcome is))

-- what a push tells, of the head that is found and of the view
abbrev pub TellsPush : Plan → View → ℕ → ℕ → ℕ → ℕ → View → Type 0
TellsPush g v u w old r y = TriedJoin u w old v r y × IsHeadWord r × IsLater old r × (r ≢ closed_word → length_of r ≤ units_of g)

-- a waiter that is linked to a head is pushed over it
pub joins-value : (g : Setup) (id : ℕ) (v : View) → 1 ≤ v.parts → (u w old new : ℕ) (word : HeadWord) → MayPush g.plan u w word v → old ≡ packed_head word
    → new ≡ head_word (w + 1) (length_of old + 1) → Keeps g id v (head u) (λ n. either (n == old) new n) (TellsPush g.plan v u w old)
joins-value g id v in_use u w old new word may packed new_is =
    let x : Waiter = may.waiter in let has = waiter-there w v.waiting x may.at.there in
    subst (λ (y : ℕ). Keeps g id v (head u) (λ n. either (n == old) new n) (TellsPush g.plan v u y old)) has.1
    (joins-at g id v u may.future.there x has.0 may.behind in_use old new (may.linked_to ∙ ap (λ (n : ℕ). Some n) (sym packed)) (λ e. may.opened (sym packed ∙ e))
    (subst (λ (n : ℕ). Has (SawHead u n) v.sights) (sym packed) may.seen) (new_is ∙ ap (λ (y : ℕ). head_word (y + 1) (length_of old + 1)) (sym has.1)))

-- an open head that fits is no large number
pub open-small : (word : HeadWord) (packed : ℕ) → FitsHeadWord word → packed ≡ packed_head word → packed_head word ≢ closed_word → packed < 2 ^ 42
open-small Closed packed fits e unclosed = absurd (unclosed refl)
open-small (Listed first length) packed fits e unclosed = omega (arith, e, fits.0, fits.1)

-- the members of a chain that has a first one
pub record HasFirst (g : Plan) (c : Chain) (v : View) (u : ℕ) (members : List ℕ) : Type 0 where
  pub rest : List ℕ
  pub is : members ≡ u ∷ rest
  pub there : Has (u ∷ rest) v.chains
  pub longer : c.length ≡ length rest + 1
  pub near : u < units_of g
  pub rest_near : Each (λ w. w < units_of g) rest

pub first-of : (g : Plan) (c : Chain) (v : View) (u : ℕ) (members : List ℕ) → HasChain g c v members → c.first ≡ Some u → HasFirst g c v u members
first-of g c v u [] has e = absurd (omega (arith, has.first_is, ap link_code e))
first-of g c v u (w ∷ rest) has e =
    let same : w ≡ u = omega (arith, has.first_is, ap link_code e) in
    record {
      rest = rest;
      is = ap (λ (x : ℕ). x ∷ rest) same;
      there = subst (λ (x : ℕ). Has (x ∷ rest) v.chains) same has.there;
      longer = omega (arith, has.length_is);
      near = subst (λ (x : ℕ). x < units_of g) same (has.near 0 w refl);
      rest_near = each-tail (λ x. x < units_of g) w rest has.near;
    }

-- a chain with a first member has members, and one without has none
pub some-members : (g : Plan) (c : Chain) (v : View) (members : List ℕ) → HasChain g c v members → c.first ≡ None → c.length ≡ 0
some-members g c v [] has e = has.length_is
some-members g c v (w ∷ rest) has e = absurd (omega (arith, has.first_is, ap link_code e))

-- a chain that came into the hand is there
pub chain-stands : (members : List ℕ) (chains : List (List ℕ)) (v : View) → v.chains ≡ with_chain members chains → StandsChain members v
chain-stands [] chains v e = tt
chain-stands (u ∷ us) chains v e = subst (λ (cs : List (List ℕ)). Has (u ∷ us) cs) (sym e) (0, refl)

-- the rest of a chain links to fewer than there are units
pub link-near : (g : Plan) (members : List ℕ) → Each (λ w. w < units_of g) members → link_to members ≤ units_of g
link-near g [] near = omega arith
link-near g (w ∷ rest) near = omega (arith, near 0 w refl)

-- what was found behind the first of a chain is the rest of the chain
pub rest-near : (g : Plan) (chains : List (List ℕ)) (u word : ℕ) (rest told : List ℕ) → Has (u ∷ rest) chains → Each (λ w. w < units_of g) rest → IsRest chains u word told → word ≤ units_of g
rest-near g chains u word rest told there near is = omega (arith, is.link_is, ap link_to (is.only rest there), link-near g rest near)

-- the word of a done record says its phase, its number and its tag
pub done-says : (value : StateWord) (word : ℕ) → FitsStateWord value → word ≡ packed_state value → value.phase ≡ Complete
    → (phase_of word ≡ 5) × (number_of word ≡ value.number) × (tag_of word ≡ tag_code value.tag)
done-says value word fits e done =
    let says : StateWordSays (packed_state value) (phase_code value.phase) value.priority (tag_code value.tag) value.number = (state_word_says_its_value value fits).0 in
    (ap phase_of e ∙ says.phase_is ∙ ap phase_code done, ap number_of e ∙ says.number_is, ap tag_of e ∙ says.tag_is)

-- the code of the link that is 1 below a word of a chain is that word
first-code : (first : Option ℕ) (link : ℕ) → SomeIff first (1 ≤ link) (link - 1) → link_code first ≡ link
first-code None link is = omega (arith, is)
first-code (Some k) link is = omega (arith, is)

-- the first of a chain has left it
pub unchains-value : (g : Plan) (c : Chain) (old new : Pass) (u link : ℕ) (first : Option ℕ) (members : List ℕ) → HasChain g c (view old) members → c.first ≡ Some u
    → SomeIff first (1 ≤ link) (link - 1) → TellsRest (view old) u link (view new) → (shorter : ℕ) → shorter + 1 ≡ c.length
    → Unchains g members old (record { unit = u }, record { first = first; length = shorter }) new
unchains-value g c old new u link first members has is_first rest_first told shorter less =
    let its : HasFirst g c (view old) u members = first-of g c (view old) u members has is_first in
    let rest : List ℕ = told.0 in let step = told.1 in let is = told.2 in
    let one : its.rest ≡ rest = is.only its.rest its.there in
    let links : link ≡ link_to its.rest = is.link_is ∙ ap link_to (sym one) in
    let view_is = step.2 in
    record {
      rest = its.rest;
      first_is = its.is;
      has = record {
        there = chain-stands its.rest (dropped (same_list (u ∷ rest)) (view old).chains) (view new) (ap (λ (v : View). v.chains) view_is ∙ ap (λ (l : List ℕ). with_chain l (dropped (same_list (u ∷ rest)) (view old).chains)) (sym one));
        first_is = first-code first link rest_first ∙ links;
        length_is = omega (arith, less, its.longer);
        near = its.rest_near;
      };
      number = step.0;
      more = step.1;
      view_is = view_is ∙ (λ k. knowing step.1 (saw (next u) (links k) (unchained u step.0 (sym one k) (view old))));
      may_start = step.3;
    }
