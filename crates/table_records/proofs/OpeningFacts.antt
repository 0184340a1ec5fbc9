-- How a number is drawn for the record of the first root.
use Rattle.std.proofs.Common.{◌≡◌, ◌∙◌, ℕ, ◌≤◌, false, Option, Some, None, List, [], ◌∷◌, map, true, refl, sym, ap, subst, arith}
use Rattle.std.specs.Prelude.{IfSome, slice_get}
use Rattle.kt_words.specs.declared.plan.Plan.{Plan}
use Rattle.record_core.specs.Counting.{Has, times, dropped}
use Rattle.record_core.proofs.TotalFacts.{none_there}
use Rattle.task_syntax.specs.declared.program.RootArgument.{RootArgument}
use Rattle.task_meaning.specs.Roots.{root_number, root_future}
use Rattle.task_meaning.specs.RootLaws.{HasTask, root_waits}
use Rattle.task_meaning.specs.Worths.{OfCall}
use Rattle.table_core.specs.Addresses.{sum}
use Rattle.table_core.specs.Asking.{OfRoot}
use Rattle.table_core.specs.RecordViews.{is_at, is_made_at}
use Rattle.table_core.specs.Story.{IsAccepted}
use Rattle.table_core.specs.Views.{saw}
use Rattle.table_core.specs.declared.setup.Setup.{Setup}
use Rattle.table_core.specs.declared.view.View.{View}
use Rattle.schedule_rule.specs.DrawViews.{changed, permitted, drawn_for, with_number, drew_for_root}
use Rattle.schedule_rule.specs.Frames.{BagSound}
use Rattle.schedule_rule.specs.LifeViews.{count_in, counted_in}
use Rattle.schedule_rule.specs.SoundViews.{SoundView}
use Rattle.step_table.specs.DrawSteps.{IsNewNumber, MayDrawForRoot, Draws}
use Rattle.table_records.specs.Plain.{call_behind}
use Rattle.table_records.specs.Openings.{MayBegin, RootNumbers, RootDrafts}
use Rattle.table_records.specs.Stages.{made_of, with_first_words, Begins, MayNumber, MayWrite, Writes}
use Rattle.table_records.proofs.PlainFacts.{class-zero}
use Rattle.table_records.proofs.StageFacts.{new-stays, made-first, first-dropped, first-occurs, first-numbered, first-counted}

module _ (g : Setup) (u : ℕ) (old : View) (is : MayBegin g old) (may : MayNumber g.plan u None old) where
  -- the pass may draw a number for the first root once it has the permission
  pub may-draw-root : (f : ℕ) (mid : View) → mid ≡ saw (sum 0) f (permitted old) → MayDrawForRoot g u 0 (call_behind None) mid
  may-draw-root f mid e = subst (λ (v : View). MayDrawForRoot g u 0 (call_behind None) v) (sym e) (record {
    permission = refl;
    asked = [];
    has_turn = is.has_turn;
    is_next = refl;
    inside = is.some_roots;
    undrawn = is.undrawn;
    line = is.plain.1.root;
    line_there = is.plain.1.root_there;
    call_is = record {
      known = [];
      knows = λ r t found. absurd (none_there t found);
      arguments = λ at x there. absurd (none_there x (sym (ap (λ (l : List RootArgument). slice_get l at) is.plain.1.passes_none) ∙ there));
      waits = subst (λ (o : Option ℕ). IfSome o (HasTask [])) (sym is.plain.1.behind_none) tt;
      is = λ k. OfCall (record { kind = sym is.plain.1.kind_is k; numbers = map root_number (sym is.plain.1.passes_none k); futures = map (root_future []) (sym is.plain.1.passes_none k) }) (root_waits [] (sym is.plain.1.behind_none k));
    };
    made = record { made = made_of u 0 false; at = record { is_block = may.at.is_block; there = may.at.there }; unnumbered = refl; class_is = sym (class-zero g.checked is.plain.0 None) };
  })

  -- and what the draw leaves
  pub root-numbers : (n f found : ℕ) (mid new : View) → mid ≡ saw (sum 0) f (permitted old) → IsNewNumber g.plan.limit n mid → new ≡ saw (sum 0) found (drew_for_root u 0 (call_behind None) n mid) → RootNumbers g.plan.limit u old n new
  root-numbers n f found mid new e is_new told = record {
    is_new = new-stays g.plan.limit n old mid (ap (λ (v : View). v.drawn) e) (ap (λ (v : View). v.taken) e) (ap (λ (v : View). v.no_task) e) (ap (λ (v : View). v.no_after) e) is_new;
    view_is = subst Shape (sym chain) refl;
  }
    where
      Shape : View → Type 0
      Shape w = w ≡ record old {
        made = with_number u n old.made;
        root_task = n;
        drawn = drawn_for n u (OfRoot 0) ∷ old.drawn;
        no_task = n ∷ old.no_task;
        no_after = n ∷ old.no_after;
        calls = (n, call_behind None) ∷ old.calls;
        facts = IsAccepted n (call_behind None) ∷ old.facts;
        may_draw = 0;
        seen = w.seen;
      }

      chain : new ≡ saw (sum 0) found (drew_for_root u 0 (call_behind None) n (saw (sum 0) f (permitted old)))
      chain = told ∙ ap (λ (v : View). saw (sum 0) found (drew_for_root u 0 (call_behind None) n v)) e

  -- a number was drawn, or the limit is met
  pub draws-root : (f : ℕ) (mid new lost : View) (drawn : Option ℕ) → mid ≡ saw (sum 0) f (permitted old) → Draws g.plan.limit (λ n. drew_for_root u 0 (call_behind None) n mid) lost mid drawn new
      → IfSome drawn (λ n. RootNumbers g.plan.limit u old n new)
  draws-root f mid new lost None e told = tt
  draws-root f mid new lost (Some n) e told = root-numbers n f told.found mid new e told.is_new told.view_is

-- a record that was begun for the root may be written once it has its number
pub may-write-root : (g : Plan) (u n : ℕ) (start old new : View) → Begins g u start old → RootNumbers g.limit u old n new → MayWrite g u n None new
may-write-root g u n start old new begun is =
    let made_is : new.made ≡ made_of u n false ∷ start.made = ap (λ (v : View). v.made) is.view_is ∙ ap (with_number u n) (ap (λ (v : View). v.made) begun.view_is) ∙ first-numbered u n start.made in
    let within = is.is_new.within in
    record {
      some = λ e. absurd (omega (arith, within.0, e));
      within = within.1;
      at = made-first g u n false start.made new begun.is_block made_is;
      knows = subst (λ (v : View). Has (IsAccepted n (call_behind None)) v.facts) (sym is.view_is) (0, refl);
      lacks_task = subst (λ (v : View). 1 ≤ times n v.no_task) (sym is.view_is) (first-occurs n old.no_task);
      lacks_after = subst (λ (v : View). 1 ≤ times n v.no_after) (sym is.view_is) (first-occurs n old.no_after);
    }

-- what the draft leaves
pub drafts-root : (g : Setup) (u n : ℕ) (v0 v1 v2 v3 : View) → Begins g.plan u v0 v1 → SoundView g v1 → RootNumbers g.plan.limit u v1 n v2 → Writes u n v2 v3 → RootDrafts g u v0 n v3
drafts-root g u n v0 v1 v2 v3 begun sound numbered written = record {
  is_block = begun.is_block;
  is_new = new-stays g.plan.limit n v0 v1 (ap (λ (v : View). v.drawn) begun.view_is) (ap (λ (v : View). v.taken) begun.view_is) (ap (λ (v : View). v.no_task) begun.view_is)
      (ap (λ (v : View). v.no_after) begun.view_is) numbered.is_new;
  view_is = subst Shape (sym chain) base;
  bag = subst (λ (v : View). BagSound g.checked (record { futures = v.futures; runs = v.runs })) begun.view_is sound.records.bag;
}
  where
    one : View
    one = record v0 { looks = v1.looks; wins = v1.wins; made = made_of u 0 false ∷ v0.made; seen = v1.seen }

    two : View → View
    two v = record v {
      made = with_number u n v.made;
      root_task = n;
      drawn = drawn_for n u (OfRoot 0) ∷ v.drawn;
      no_task = n ∷ v.no_task;
      no_after = n ∷ v.no_after;
      calls = (n, call_behind None) ∷ v.calls;
      facts = IsAccepted n (call_behind None) ∷ v.facts;
      may_draw = 0;
      seen = v2.seen;
    }

    three : View → View
    three v = record (counted_in u v) { no_task = dropped (is_at n) v.no_task; no_after = dropped (is_at n) v.no_after; known = with_first_words u n v.known; seen = v3.seen }

    chain : v3 ≡ three (two one)
    chain = written.view_is ∙ ap three (numbered.view_is ∙ ap two begun.view_is)

    Shape : View → Type 0
    Shape w = w ≡ record v0 {
      looks = w.looks;
      wins = w.wins;
      made = made_of u n true ∷ v0.made;
      root_task = n;
      drawn = drawn_for n u (OfRoot 0) ∷ v0.drawn;
      calls = (n, call_behind None) ∷ v0.calls;
      facts = IsAccepted n (call_behind None) ∷ v0.facts;
      known = with_first_words u n v0.known;
      may_draw = 0;
      seen = w.seen;
    }

    counted : changed (is_made_at u) count_in (with_number u n (made_of u 0 false ∷ v0.made)) ≡ made_of u n true ∷ v0.made
    counted = ap (changed (is_made_at u) count_in) (first-numbered u n v0.made) ∙ first-counted u n v0.made

    base : Shape (three (two one))
    base = λ k. record (three (two one)) { made = counted k; no_task = first-dropped n v0.no_task k; no_after = first-dropped n v0.no_after k }

-- a pass that may begin may still where the turn stays
pub begin-stays : (g : Setup) (old new : View) → new.turn ≡ old.turn → new.root_task ≡ old.root_task → MayBegin g old → MayBegin g new
begin-stays g old new turn task is = record { plain = is.plain; some_roots = is.some_roots; has_turn = turn ∙ is.has_turn; undrawn = task ∙ is.undrawn }
