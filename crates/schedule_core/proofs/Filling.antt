-- The words and rows of a new record, one after the other.
use Rattle.std.proofs.Common.{◌≡◌, ◌∙◌, inl, ℕ, Bool, cond, Some, Option, List, [], ◌∷◌, ◌++◌, length, refl, sym, ap, subst, arith}
use Rattle.std.specs.Prelude.{slice_index}
use Rattle.std.proofs.lemmas.Bool.{eq-eqb}
use Rattle.record_core.specs.Counting.{Has, times, dropped}
use Rattle.kt_words.specs.Capacity.{block_units}
use Rattle.kt_words.specs.declared.plan.Plan.{Plan}
use Rattle.task_syntax.specs.declared.program.Program.{Program}
use Rattle.frame_code.specs.Names.{named}
use Rattle.table_core.specs.Addresses.{Addr, frame, head, refs, task, journal, sum}
use Rattle.table_core.specs.Own.{known_in}
use Rattle.table_core.specs.RecordViews.{is_at, is_made_at}
use Rattle.table_core.specs.declared.setup.Setup.{Setup}
use Rattle.table_core.specs.declared.view.View.{View}
use Rattle.table_core.specs.Story.{IsAccepted}
use Rattle.schedule_rule.specs.DrawViews.{changed}
use Rattle.schedule_rule.specs.LifeViews.{count_in}
use Rattle.step_table.specs.LivingSteps.{MayCountIn, CountsIn}
use Rattle.step_table.specs.Lookups.{made_in}
use Rattle.step_table.specs.Passes.{view}
use Rattle.step_table.specs.RecordHands.{MayFill, FillsMade}
use Rattle.step_table.specs.RecordSteps.{Fills}
use Rattle.step_table.specs.RowSteps.{MayWriteTask, WritesTask, MayWriteAfter, WritesAfter}
use Rattle.step_table.specs.declared.pass.Pass.{Pass}
use Rattle.step_table.specs.declared.record_tokens.Made.{Made}
use Rattle.step_table.specs.declared.record_tokens.OwnWord.{OwnWord}
use Rattle.step_table.specs.declared.record_tokens.OwnWord.TheVariants as own_word
use Rattle.schedule_core.specs.FrameWords.{MayWrite, WritesFrame}
use Rattle.schedule_core.specs.Making.{MayWriteWords, WritesWords, MayWriteRows, WritesRows, MayFillNew, FillsNew}
use Rattle.schedule_core.specs.References.{TakesEach}
use Rattle.schedule_core.proofs.EachFacts.{grows-on}

-- a made record is made where the made ones are the same
abbrev pub made-kept : (g : Plan) (u : ℕ) (v w : View) → w.made ≡ v.made → MayWriteWords g u v → MayWriteWords g u w
made-kept g u v w e may = (may.0, record { is_block = (may.1).is_block; there = ap (λ l. made_in u l) e ∙ (may.1).there })

-- one word of it may be filled
pub may-fill_word : (g : Plan) (u : ℕ) (word : OwnWord) (v : View) → (may : MayWriteWords g u v) → FillsMade ((may.0).class) word → MayFill g u word v
may-fill_word g u word v may fills = inl (may.0, may.1, fills)

-- also later, by its unit
pub fills-there : (g : Plan) (u unit : ℕ) (word : OwnWord) (v w : View) → unit ≡ u → w.made ≡ v.made → (may : MayWriteWords g u v) → FillsMade ((may.0).class) word → MayFill g unit word w
fills-there g u unit word v w unit_is e may fills = subst (λ (x : ℕ). MayFill g x word w) (sym unit_is) (may-fill_word g u word w (made-kept g u v w e may) fills)

-- three words are filled
pub words-written : (u number : ℕ) (old a b new : Pass) → Fills u own_word.References 2 old a → Fills u own_word.Head 0 a b → Fills u own_word.Task number b new → WritesWords u number (view old) (view new)
words-written u number old a b new one two three = record {
  seen = ((task u, three.found) ∷ (head u, two.found) ∷ (refs u, one.found) ∷ [], ap (λ (v : View). v.seen) whole);
  view_is = whole ∙ (λ k. record (view old) { known = (task u, number) ∷ (head u, 0) ∷ (refs u, 2) ∷ (view old).known; seen = (sym whole k).seen });
}
  where
    whole : view new ≡ record (view old) {
      known = (task u, number) ∷ (head u, 0) ∷ (refs u, 2) ∷ (view old).known;
      seen = (task u, three.found) ∷ (head u, two.found) ∷ (refs u, one.found) ∷ (view old).seen;
    }
    whole = three.view_is
        ∙ ap (λ (v : View). record v { known = (task u, number) ∷ v.known; seen = (task u, three.found) ∷ v.seen }) two.view_is
        ∙ ap (λ (v : View). record v { known = (task u, number) ∷ (head u, 0) ∷ v.known; seen = (task u, three.found) ∷ (head u, two.found) ∷ v.seen }) one.view_is

pub words-from : (u unit number value : ℕ) (old a b new : Pass) → unit ≡ u → value ≡ number → Fills unit own_word.References 2 old a → Fills unit own_word.Head 0 a b → Fills unit own_word.Task value b new
    → WritesWords u number (view old) (view new)
words-from u unit number value old a b new unit_is value_is one two three = words-written u number old a b new
    (subst (λ (x : ℕ). Fills x own_word.References 2 old a) unit_is one)
    (subst (λ (x : ℕ). Fills x own_word.Head 0 a b) unit_is two)
    (subst (λ (x : ℕ). Fills x own_word.Task number b new) unit_is (subst (λ (n : ℕ). Fills unit own_word.Task n b new) value_is three))

-- the row of the task may be written
pub may-write_task : (g : Plan) (u number : ℕ) (behind : Option ℕ) (v : View) → MayWriteRows g u number behind v → MayWriteTask g number number v
may-write_task g u number behind v may = record { inside = may.inside; lacks = omega (arith, may.lacks_task); call = may.call; knows = may.accepted; task_is = sym may.is_new }

-- and then that of the predecessor
pub may-write_after : (g : Plan) (u number : ℕ) (behind : Option ℕ) (old now : Pass) → MayWriteRows g u number behind (view old) → WritesTask number old now → MayWriteAfter g number behind (view now)
may-write_after g u number behind old now may wrote = record {
  inside = may.inside;
  lacks = omega (arith, may.lacks_after, ap (λ (v : View). times number v.no_after) wrote.view_is);
  call = may.call;
  knows = subst (λ (v : View). Has (IsAccepted number may.call) v.facts) (sym wrote.view_is) may.accepted;
  behind_is = may.behind_is;
}

-- and the record may be counted in
pub may-count_in : (g : Plan) (u number : ℕ) (behind : Option ℕ) (old a now : Pass) → MayWriteRows g u number behind (view old) → WritesTask number old a → WritesAfter number a now → MayCountIn g u (view now)
may-count_in g u number behind old a now may one two =
    let at = made-kept g u (view old) (view now) (ap (λ (v : View). v.made) two.view_is ∙ ap (λ (v : View). v.made) one.view_is) (may.holding, may.at) in
    record { made = may.holding; at = at.1; numbered = λ e. may.some (sym may.numbered ∙ e); uncounted = may.uncounted }

pub rows-written : (u number : ℕ) (old a b new : Pass) → WritesTask number old a → WritesAfter number a b → CountsIn u b new → WritesRows u number (view old) (view new)
rows-written u number old a b new one two three = record {
  seen = ((sum 1, three.found) ∷ (journal number 1, two.found) ∷ (journal number 0, one.found) ∷ [], ap (λ (v : View). v.seen) whole);
  view_is = whole
      ∙ (λ k. record (view old) {
        made = changed (is_made_at u) count_in (view old).made;
        no_task = dropped (is_at number) (view old).no_task;
        no_after = dropped (is_at number) (view old).no_after;
        seen = (sym whole k).seen;
      });
}
  where
    whole : view new ≡ record (view old) {
      made = changed (is_made_at u) count_in (view old).made;
      no_task = dropped (is_at number) (view old).no_task;
      no_after = dropped (is_at number) (view old).no_after;
      seen = (sum 1, three.found) ∷ (journal number 1, two.found) ∷ (journal number 0, one.found) ∷ (view old).seen;
    }
    whole = three.view_is
        ∙ ap (λ (v : View). record v { made = changed (is_made_at u) count_in v.made; seen = (sum 1, three.found) ∷ v.seen }) two.view_is
        ∙ ap
        (λ (v : View). record v {
          made = changed (is_made_at u) count_in v.made;
          no_after = dropped (is_at number) v.no_after;
          seen = (sum 1, three.found) ∷ (journal number 1, two.found) ∷ v.seen;
        })
        one.view_is

-- the words of the frame may be written once its references are taken
pub may-write : (g : Setup) (made : Made) (number : ℕ) (behind : Option ℕ) (words names : List ℕ) (v w : View) → MayFillNew g made number behind words v → TakesEach names v w → MayWrite g.plan made.unit (length words) w
may-write g made number behind words names v w may takes j low =
    let at = made-kept g.plan made.unit v w (ap (λ (x : View). x.made) takes.view_is) (may.rows.holding, may.rows.at) in
    may-fill_word g.plan made.unit (own_word.Frame j) w at (omega (arith, low, may.fits, ap block_units may.class_is))

pub may-write_words : (g : Setup) (made : Made) (number : ℕ) (behind : Option ℕ) (words names : List ℕ) (v w x : View) → MayFillNew g made number behind words v → TakesEach names v w → WritesFrame made.unit words w x → MayWriteWords g.plan made.unit x
may-write_words g made number behind words names v w x may takes wrote =
    made-kept g.plan made.unit v x (ap (λ (y : View). y.made) wrote.view_is ∙ ap (λ (y : View). y.made) takes.view_is) (may.rows.holding, may.rows.at)

pub may-write_rows : (g : Setup) (made : Made) (number : ℕ) (behind : Option ℕ) (words names : List ℕ) (v w x y : View) → MayFillNew g made number behind words v → TakesEach names v w → WritesFrame made.unit words w x
    → WritesWords made.unit number x y → MayWriteRows g.plan made.unit number behind y
may-write_rows g made number behind words names v w x y may takes wrote put = record {
  holding = may.rows.holding;
  at = (made-kept g.plan made.unit v y (ap (λ (z : View). z.made) put.view_is ∙ ap (λ (z : View). z.made) wrote.view_is ∙ ap (λ (z : View). z.made) takes.view_is) (may.rows.holding, may.rows.at)).1;
  numbered = may.rows.numbered;
  some = may.rows.some;
  uncounted = may.rows.uncounted;
  inside = may.rows.inside;
  lacks_task = ap (λ (z : View). times number z.no_task) put.view_is ∙ ap (λ (z : View). times number z.no_task) wrote.view_is ∙ ap (λ (z : View). times number z.no_task) takes.view_is ∙ may.rows.lacks_task;
  lacks_after = ap (λ (z : View). times number z.no_after) put.view_is ∙ ap (λ (z : View). times number z.no_after) wrote.view_is ∙ ap (λ (z : View). times number z.no_after) takes.view_is ∙ may.rows.lacks_after;
  call = may.rows.call;
  accepted = subst (λ (z : View). Has (IsAccepted number may.rows.call) z.facts) (sym put.view_is) (subst (λ (z : View). Has (IsAccepted number may.rows.call) z.facts) (sym wrote.view_is) (subst (λ (z : View). Has (IsAccepted number may.rows.call) z.facts) (sym takes.view_is) may.rows.accepted));
  is_new = may.rows.is_new;
  behind_is = may.rows.behind_is;
}

-- a view where the words and rows of a new record are written
abbrev onto : (u number : ℕ) → View → List (Addr × ℕ) → List (Addr × ℕ) → View
onto u number t known steps = record t {
  made = changed (is_made_at u) count_in t.made;
  no_task = dropped (is_at number) t.no_task;
  no_after = dropped (is_at number) t.no_after;
  known = known;
  seen = steps;
}

abbrev put_known : (u number : ℕ) → List (Addr × ℕ) → List (Addr × ℕ)
put_known u number known = (task u, number) ∷ (head u, 0) ∷ (refs u, 2) ∷ known

-- all is written
pub fills-new : (p : Program) (made : Made) (number : ℕ) (words names : List ℕ) (v w x y z : View) → names ≡ named p (slice_index words) → TakesEach names v w → WritesFrame made.unit words w x
    → WritesWords made.unit number x y → WritesRows made.unit number y z → FillsNew p made number words v z
fills-new p made number words names v w x y z names_are takes wrote put rows = record {
  front = takes.front;
  counts = λ n. takes.counts n ∙ ap (λ (l : List ℕ). times n l) names_are;
  knows = record {
    frame = λ j low. ap (λ (t : View). known_in (frame made.unit j) t.known) rows.view_is ∙ ap (λ (t : View). known_in (frame made.unit j) t.known) put.view_is ∙ wrote.known j low;
    references = ap (λ (t : View). known_in (refs made.unit) t.known) rows.view_is ∙ ap (λ (t : View). known_in (refs made.unit) t.known) put.view_is
        ∙ ap (λ (b : Bool). cond b (Some 2) (known_in (refs made.unit) x.known)) (eq-eqb made.unit made.unit refl);
    list = ap (λ (t : View). known_in (head made.unit) t.known) rows.view_is ∙ ap (λ (t : View). known_in (head made.unit) t.known) put.view_is
        ∙ ap (λ (b : Bool). cond b (Some 0) (known_in (head made.unit) x.known)) (eq-eqb made.unit made.unit refl);
    its_task = ap (λ (t : View). known_in (task made.unit) t.known) rows.view_is ∙ ap (λ (t : View). known_in (task made.unit) t.known) put.view_is
        ∙ ap (λ (b : Bool). cond b (Some number) (known_in (task made.unit) x.known)) (eq-eqb made.unit made.unit refl);
  };
  seen = grows-on v.seen y.seen z.seen (grows-on v.seen x.seen y.seen (grows-on v.seen w.seen x.seen takes.seen wrote.seen) put.seen) rows.seen;
  view_is = rows.view_is ∙ ap (λ (t : View). onto made.unit number t t.known z.seen) put.view_is ∙ ap (λ (t : View). onto made.unit number t (put_known made.unit number x.known) z.seen) wrote.view_is ∙ ap (λ (t : View). onto made.unit number t (put_known made.unit number x.known) z.seen) takes.view_is
      ∙ (λ k. record v {
        made = changed (is_made_at made.unit) count_in v.made;
        futures = takes.front ++ v.futures;
        no_task = dropped (is_at number) v.no_task;
        no_after = dropped (is_at number) v.no_after;
        known = (sym known_is k);
        seen = z.seen;
      });
}
  where
    known_is : z.known ≡ put_known made.unit number x.known
    known_is = ap (λ (t : View). t.known) rows.view_is ∙ ap (λ (t : View). t.known) put.view_is
