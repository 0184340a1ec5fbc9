-- How the views of the stages follow from those of their steps.
use Rattle.std.proofs.Common.{◌≡◌, ◌∙◌, ℕ, ◌≤◌, ◌==◌, Bool, true, false, cond, Option, Some, None, List, ◌∷◌, inl, refl, sym, ap, subst, arith}
use Rattle.std.specs.Prelude.{IfSome}
use Rattle.std.proofs.lemmas.Bool.{eq-eqb, and_from}
use Rattle.record_core.specs.Counting.{Has, times, dropped, one_if}
use Rattle.kt_words.specs.declared.plan.Plan.{Plan}
use Rattle.record_core.proofs.TotalFacts.{none_there}
use Rattle.table_core.specs.Addresses.{state, sum, journal, task, refs, head, frame}
use Rattle.table_core.specs.Asking.{OfTask}
use Rattle.table_core.specs.Holdings.{Block, Made, Run}
use Rattle.table_core.specs.Own.{made_at, runs_at}
use Rattle.table_core.specs.Pool.{superblock_of, IsBlock}
use Rattle.table_core.specs.RecordViews.{is_at, is_made_at, founded, filled}
use Rattle.table_core.specs.Story.{IsAccepted}
use Rattle.table_core.specs.Views.{place, is_block, same_bool, saw}
use Rattle.table_core.specs.declared.setup.Setup.{Setup}
use Rattle.table_core.specs.declared.view.View.{View}
use Rattle.schedule_rule.specs.DrawViews.{changed, permitted, asking, drawn_for, with_number, drew_for_run, wrote_task, wrote_after, KnowsTask}
use Rattle.schedule_rule.specs.Frames.{BagSound}
use Rattle.schedule_rule.specs.LifeViews.{count_in, counted_in}
use Rattle.schedule_rule.specs.Numbers.{in_hand}
use Rattle.schedule_rule.specs.SoundViews.{SoundView}
use Rattle.memory_pool.specs.Answers.{Gives}
use Rattle.memory_pool.specs.Searches.{like}
use Rattle.step_table.specs.declared.record_tokens.OwnWord.{OwnWord}
use Rattle.step_table.specs.DrawSteps.{IsNewNumber, MayDrawForRun, Draws}
use Rattle.step_table.specs.LivingSteps.{MayCountIn}
use Rattle.step_table.specs.Lookups.{made_in, run_in}
use Rattle.step_table.specs.RecordHands.{MadeAt, FillsMade, MayFill}
use Rattle.step_table.specs.RowSteps.{MayWriteAfter}
use Rattle.step_table.specs.declared.record_tokens.Started.{Started}
use Rattle.table_records.specs.Plain.{call_behind}
use Rattle.table_records.specs.Makers.{IsMaker}
use Rattle.table_records.specs.Stages.{made_of, with_first_words, Begins, MayNumber, Numbers, MayWrite, Writes, Drafts}
use Rattle.table_records.proofs.PlainFacts.{call-suits, class-zero}

-- a number is itself
same-number : (n : ℕ) → (n == n) ≡ true
same-number n = eq-eqb n n refl

same-bit : (b : Bool) → same_bool b b ≡ true
same-bit true = refl
same-bit false = refl

-- a block is itself
block-same : (b : Block) → is_block b b ≡ true
block-same b = and_from _ _ (same-number b.unit) (and_from _ _ (same-number b.class) (same-bit b.fresh))

-- a record is made in the block that was given
pub begins : (g : Plan) (u f : ℕ) (b : Block) (old mid new : View) → Gives g 0 old b mid → new ≡ saw (state u) f (founded b mid) → b.unit ≡ u → Begins g u old new
begins g u f b old mid new gives e unit_is = record { is_block = subst (λ (x : ℕ). IsBlock g x 0) unit_is gives.is_block; view_is = subst Shape (sym chain) base }
  where
    given : View
    given = record (like mid old) { blocks = b ∷ old.blocks; wins = place (superblock_of g b.unit) 0 ∷ old.wins }

    chain : new ≡ saw (state u) f (founded b given)
    chain = e ∙ ap (λ (v : View). saw (state u) f (founded b v)) gives.view_is

    Shape : View → Type 0
    Shape w = w ≡ record old { looks = w.looks; wins = w.wins; made = made_of u 0 false ∷ old.made; seen = w.seen }

    base : Shape (saw (state u) f (founded b given))
    base = λ k. record given {
      blocks = ap (λ (x : Bool). cond x old.blocks (b ∷ dropped (is_block b) old.blocks)) (block-same b) k;
      made = record { unit = unit_is k; class = gives.of_class k; number = 0; live = false } ∷ old.made;
      seen = (state u, f) ∷ mid.seen;
    }

-- a maker stays one where the runs stay
pub maker-stays : (g : Setup) (maker : Started) (old new : View) → new.runs ≡ old.runs → IsMaker g maker old → IsMaker g maker new
maker-stays g maker old new same is = record {
  plain = is.plain;
  run = is.run;
  at = record { is_block = is.at.is_block; there = ap (λ (runs : List Run). run_in maker.unit runs) same ∙ is.at.there };
  task_is = is.task_is;
  idle = is.idle;
  single = is.single;
  way = is.way;
  formed = is.formed;
}

-- a made record is looked up as before where the made ones stay
pub made-stays : (g : Plan) (u : ℕ) (r : Made) (old new : View) → new.made ≡ old.made → MadeAt g u old r → MadeAt g u new r
made-stays g u r old new same at = record { is_block = at.is_block; there = ap (λ (l : List Made). made_in u l) same ∙ at.there }

-- the record at the head of the made ones is looked up
pub made-first : (g : Plan) (u n : ℕ) (live : Bool) (others : List Made) (v : View) → IsBlock g u 0 → v.made ≡ made_of u n live ∷ others → MadeAt g u v (made_of u n live)
made-first g u n live others v is_block e = record {
  is_block = is_block;
  there = ap (λ (l : List Made). made_in u l) e ∙ ap (λ (b : Bool). cond b (Some (made_of u n live)) (made_in u others)) (same-number u);
}

-- a number that is new stays so where nothing of it comes
pub new-stays : (limit n : ℕ) (old new : View) → new.drawn ≡ old.drawn → new.taken ≡ old.taken → new.no_task ≡ old.no_task → new.no_after ≡ old.no_after → IsNewNumber limit n new → IsNewNumber limit n old
new-stays limit n old new drawn taken tasks afters is = record {
  within = is.within;
  nowhere = (λ k. in_hand n (record { drawn = sym drawn k; taken = sym taken k })) ∙ is.nowhere;
  task_written = ap (times n) (sym tasks) ∙ is.task_written;
  after_written = ap (times n) (sym afters) ∙ is.after_written;
}

module _ (g : Setup) (maker : Started) (u : ℕ) (behind : Option ℕ) (old : View) (is : IsMaker g maker old) (may : MayNumber g.plan u behind old) where
  -- the pass may draw a number for it once it has the permission
  pub may-draw : (mid : View) (f : ℕ) → mid ≡ saw (sum 0) f (permitted old) → MayDrawForRun g u maker.unit maker.number (call_behind behind) mid
  may-draw mid f e = subst (λ (v : View). MayDrawForRun g u maker.unit maker.number (call_behind behind) v) (sym e) (record {
    permission = refl;
    knows = (call-suits g.checked is.plain.0 behind, ((λ k x there. absurd (none_there x there)), may.knows));
    made = record { made = made_of u 0 false; at = record { is_block = may.at.is_block; there = may.at.there }; unnumbered = refl; class_is = sym (class-zero g.checked is.plain.0 behind) };
    run = is.run;
    at = record { is_block = is.at.is_block; there = is.at.there };
    task_is = is.task_is;
    single = is.single;
    idle = is.idle;
  })

  -- and what the draw leaves
  pub numbers : (n f found : ℕ) (mid new : View) → mid ≡ saw (sum 0) f (permitted old) → IsNewNumber g.plan.limit n mid → new ≡ saw (sum 0) found (drew_for_run u maker.unit maker.number (call_behind behind) n mid)
      → Numbers g.plan.limit u maker.unit maker.number behind old n new
  numbers n f found mid new e is_new told = record {
    is_new = new-stays g.plan.limit n old mid (ap (λ (v : View). v.drawn) e) (ap (λ (v : View). v.taken) e) (ap (λ (v : View). v.no_task) e) (ap (λ (v : View). v.no_after) e) is_new;
    view_is = subst Shape (sym chain) refl;
  }
    where
      Shape : View → Type 0
      Shape w = w ≡ record old {
        made = with_number u n old.made;
        runs = asking maker.unit old.runs;
        drawn = drawn_for n u (OfTask maker.number) ∷ old.drawn;
        no_task = n ∷ old.no_task;
        no_after = n ∷ old.no_after;
        calls = (n, call_behind behind) ∷ old.calls;
        facts = IsAccepted n (call_behind behind) ∷ old.facts;
        may_draw = 0;
        seen = w.seen;
      }

      chain : new ≡ saw (sum 0) found (drew_for_run u maker.unit maker.number (call_behind behind) n (saw (sum 0) f (permitted old)))
      chain = told ∙ ap (λ (v : View). saw (sum 0) found (drew_for_run u maker.unit maker.number (call_behind behind) n v)) e

  -- the task of the maker is its number
  pub may-draw-of : (of f : ℕ) (mid : View) → of ≡ maker.number → mid ≡ saw (sum 0) f (permitted old) → MayDrawForRun g u maker.unit of (call_behind behind) mid
  may-draw-of of f mid its e = subst (λ (t : ℕ). MayDrawForRun g u maker.unit t (call_behind behind) mid) (sym its) (may-draw mid f e)

  -- a number was drawn, or the limit is met
  pub draws-number : (of f : ℕ) (mid new lost : View) (drawn : Option ℕ) → of ≡ maker.number → mid ≡ saw (sum 0) f (permitted old)
      → Draws g.plan.limit (λ n. drew_for_run u maker.unit of (call_behind behind) n mid) lost mid drawn new → IfSome drawn (λ n. Numbers g.plan.limit u maker.unit maker.number behind old n new)
  draws-number of f mid new lost None its e told = tt
  draws-number of f mid new lost (Some n) its e told =
      numbers n f told.found mid new e told.is_new (told.view_is ∙ ap (λ (t : ℕ). saw (sum 0) told.found (drew_for_run u maker.unit t (call_behind behind) n mid)) its)

-- the list without its first member that passes, where the first one does
pub first-dropped : (n : ℕ) (l : List ℕ) → dropped (is_at n) (n ∷ l) ≡ l
first-dropped n l = ap (λ (b : Bool). cond b l (n ∷ dropped (is_at n) l)) (same-number n)

-- a number at the head occurs
pub first-occurs : (n : ℕ) (l : List ℕ) → 1 ≤ times n (n ∷ l)
first-occurs n l = omega (arith, ap one_if (same-number n))

-- the made record at the head gets its number, and is counted in
pub first-numbered : (u n : ℕ) (l : List Made) → with_number u n (made_of u 0 false ∷ l) ≡ made_of u n false ∷ l
first-numbered u n l = ap (λ (b : Bool). cond b (made_of u n false ∷ l) (made_of u 0 false ∷ with_number u n l)) (same-number u)

pub first-counted : (u n : ℕ) (l : List Made) → changed (is_made_at u) count_in (made_of u n false ∷ l) ≡ made_of u n true ∷ l
first-counted u n l = ap (λ (b : Bool). cond b (made_of u n true ∷ l) (made_of u n false ∷ changed (is_made_at u) count_in l)) (same-number u)

-- a record that was begun may be given a number
pub may-number : (g : Plan) (u : ℕ) (behind : Option ℕ) (old new : View) → Begins g u old new → IfSome behind (KnowsTask old) → MayNumber g u behind new
may-number g u behind old new is knows = record {
  at = made-first g u 0 false old.made new is.is_block (ap (λ (v : View). v.made) is.view_is);
  knows = subst (λ (v : View). IfSome behind (KnowsTask v)) (sym is.view_is) knows;
}

-- and written once it has it
pub may-write : (g : Plan) (u by of n : ℕ) (behind : Option ℕ) (start old new : View) → Begins g u start old → Numbers g.limit u by of behind old n new → MayWrite g u n behind new
may-write g u by of n behind start old new begun is =
    let made_is : new.made ≡ made_of u n false ∷ start.made = ap (λ (v : View). v.made) is.view_is ∙ ap (with_number u n) (ap (λ (v : View). v.made) begun.view_is) ∙ first-numbered u n start.made in
    let within = is.is_new.within in
    record {
      some = λ e. absurd (omega (arith, within.0, e));
      within = within.1;
      at = made-first g u n false start.made new begun.is_block made_is;
      knows = subst (λ (v : View). Has (IsAccepted n (call_behind behind)) v.facts) (sym is.view_is) (0, refl);
      lacks_task = subst (λ (v : View). 1 ≤ times n v.no_task) (sym is.view_is) (first-occurs n old.no_task);
      lacks_after = subst (λ (v : View). 1 ≤ times n v.no_after) (sym is.view_is) (first-occurs n old.no_after);
    }

-- the row of the predecessor may be written once that of the task is
pub may-write-after : (g : Plan) (u n a : ℕ) (behind : Option ℕ) (v0 v1 : View) → MayWrite g u n behind v0 → v1 ≡ saw (journal n 0) a (wrote_task n v0) → MayWriteAfter g n behind v1
may-write-after g u n a behind v0 v1 may e = record {
  inside = may.within;
  lacks = subst (λ (v : View). 1 ≤ times n v.no_after) (sym e) may.lacks_after;
  call = call_behind behind;
  knows = subst (λ (v : View). Has (IsAccepted n (call_behind behind)) v.facts) (sym e) may.knows;
  behind_is = refl;
}

-- a word of the made record may be written
pub may-fill : (g : Plan) (u x n : ℕ) (word : OwnWord) (v0 v : View) → x ≡ u → MadeAt g u v0 (made_of u n false) → v.made ≡ v0.made → FillsMade 0 word → MayFill g x word v
may-fill g u x n word v0 v its at same fills = subst (λ (y : ℕ). MayFill g y word v) (sym its) (inl (made_of u n false, made-stays g u (made_of u n false) v0 v same at, fills))

-- and it may be counted in
pub may-count : (g : Plan) (u n : ℕ) (behind : Option ℕ) (v0 v : View) → MayWrite g u n behind v0 → v.made ≡ v0.made → MayCountIn g u v
may-count g u n behind v0 v may same = record { made = made_of u n false; at = made-stays g u (made_of u n false) v0 v same may.at; numbered = may.some; uncounted = refl }

-- the seven steps of writing
pub writes : (u n a b c d e f h : ℕ) (v0 v1 v2 v3 v4 v5 v6 v7 : View) → v1 ≡ saw (journal n 0) a (wrote_task n v0) → v2 ≡ saw (journal n 1) b (wrote_after n v1) → v3 ≡ saw (task u) c (filled (task u) n v2)
    → v4 ≡ saw (refs u) d (filled (refs u) 2 v3) → v5 ≡ saw (head u) e (filled (head u) 0 v4) → v6 ≡ saw (frame u 0) f (filled (frame u 0) 0 v5) → v7 ≡ saw (sum 1) h (counted_in u v6) → Writes u n v0 v7
writes u n a b c d e f h v0 v1 v2 v3 v4 v5 v6 v7 e1 e2 e3 e4 e5 e6 e7 = record { view_is = subst Shape (sym chain) refl }
  where
    Shape : View → Type 0
    Shape w = w ≡ record (counted_in u v0) { no_task = dropped (is_at n) v0.no_task; no_after = dropped (is_at n) v0.no_after; known = with_first_words u n v0.known; seen = w.seen }

    rows : v2 ≡ saw (journal n 1) b (wrote_after n (saw (journal n 0) a (wrote_task n v0)))
    rows = e2 ∙ ap (λ (v : View). saw (journal n 1) b (wrote_after n v)) e1

    words : v6 ≡ saw (frame u 0) f (filled (frame u 0) 0 (saw (head u) e (filled (head u) 0 (saw (refs u) d (filled (refs u) 2 (saw (task u) c (filled (task u) n v2)))))))
    words = e6 ∙ ap (λ (v : View). saw (frame u 0) f (filled (frame u 0) 0 v)) (e5 ∙ ap (λ (v : View). saw (head u) e (filled (head u) 0 v)) (e4 ∙ ap (λ (v : View). saw (refs u) d (filled (refs u) 2 v)) e3))

    last : View → View
    last v = saw (sum 1) h (counted_in u (saw (frame u 0) f (filled (frame u 0) 0 (saw (head u) e (filled (head u) 0 (saw (refs u) d (filled (refs u) 2 (saw (task u) c (filled (task u) n v)))))))))

    chain : v7 ≡ last (saw (journal n 1) b (wrote_after n (saw (journal n 0) a (wrote_task n v0))))
    chain = e7 ∙ ap (λ (v : View). saw (sum 1) h (counted_in u v)) words ∙ ap last rows

-- the same where the unit and the task are said otherwise
pub writes-at : (u x n m a b c d e f h : ℕ) (v0 v1 v2 v3 v4 v5 v6 v7 : View) → x ≡ u → m ≡ n → v1 ≡ saw (journal n 0) a (wrote_task n v0) → v2 ≡ saw (journal n 1) b (wrote_after n v1)
    → v3 ≡ saw (task x) c (filled (task x) m v2) → v4 ≡ saw (refs x) d (filled (refs x) 2 v3) → v5 ≡ saw (head x) e (filled (head x) 0 v4) → v6 ≡ saw (frame x 0) f (filled (frame x 0) 0 v5)
    → v7 ≡ saw (sum 1) h (counted_in u v6) → Writes u n v0 v7
writes-at u x n m a b c d e f h v0 v1 v2 v3 v4 v5 v6 v7 its number e1 e2 e3 e4 e5 e6 e7 = writes u n a b c d e f h v0 v1 v2 v3 v4 v5 v6 v7 e1 e2
    (e3 ∙ (λ k. saw (task (its k)) c (filled (task (its k)) (number k) v2))) (e4 ∙ (λ k. saw (refs (its k)) d (filled (refs (its k)) 2 v3)))
    (e5 ∙ (λ k. saw (head (its k)) e (filled (head (its k)) 0 v4))) (e6 ∙ (λ k. saw (frame (its k) 0) f (filled (frame (its k) 0) 0 v5))) e7

-- what a draft leaves
pub drafts : (g : Setup) (u by of n : ℕ) (behind : Option ℕ) (v0 v1 v2 v3 : View) → Begins g.plan u v0 v1 → SoundView g v1 → Numbers g.plan.limit u by of behind v1 n v2 → Writes u n v2 v3
    → Drafts g by of u behind v0 n v3
drafts g u by of n behind v0 v1 v2 v3 begun sound numbered written = record {
  is_block = begun.is_block;
  is_new = new-stays g.plan.limit n v0 v1 (ap (λ (v : View). v.drawn) begun.view_is) (ap (λ (v : View). v.taken) begun.view_is) (ap (λ (v : View). v.no_task) begun.view_is)
      (ap (λ (v : View). v.no_after) begun.view_is) numbered.is_new;
  view_is = subst Shape (sym chain) base;
  bag = subst (λ (v : View). BagSound g.checked (record { futures = v.futures; runs = v.runs })) begun.view_is sound.records.bag;
  elsewhere = alone;
}
  where
    one : View
    one = record v0 { looks = v1.looks; wins = v1.wins; made = made_of u 0 false ∷ v0.made; seen = v1.seen }

    two : View → View
    two v = record v {
      made = with_number u n v.made;
      runs = asking by v.runs;
      drawn = drawn_for n u (OfTask of) ∷ v.drawn;
      no_task = n ∷ v.no_task;
      no_after = n ∷ v.no_after;
      calls = (n, call_behind behind) ∷ v.calls;
      facts = IsAccepted n (call_behind behind) ∷ v.facts;
      may_draw = 0;
      seen = v2.seen;
    }

    three : View → View
    three v = record (counted_in u v) { no_task = dropped (is_at n) v.no_task; no_after = dropped (is_at n) v.no_after; known = with_first_words u n v.known; seen = v3.seen }

    chain : v3 ≡ three (two one)
    chain = written.view_is ∙ ap three (numbered.view_is ∙ ap two begun.view_is)

    Shape : View → Type 0
    Shape w = w ≡ record v0 {
      looks = w.looks;
      wins = w.wins;
      made = made_of u n true ∷ v0.made;
      runs = asking by v0.runs;
      drawn = drawn_for n u (OfTask of) ∷ v0.drawn;
      calls = (n, call_behind behind) ∷ v0.calls;
      facts = IsAccepted n (call_behind behind) ∷ v0.facts;
      known = with_first_words u n v0.known;
      may_draw = 0;
      seen = w.seen;
    }

    counted : changed (is_made_at u) count_in (with_number u n (made_of u 0 false ∷ v0.made)) ≡ made_of u n true ∷ v0.made
    counted = ap (changed (is_made_at u) count_in) (first-numbered u n v0.made) ∙ first-counted u n v0.made

    base : Shape (three (two one))
    base = λ k. record (three (two one)) { made = counted k; no_task = first-dropped n v0.no_task k; no_after = first-dropped n v0.no_after k }

    alone : runs_at u v0.runs ≡ 0
    alone = omega (arith, sound.records.once u, ap (λ (v : View). made_at u v.made) begun.view_is, ap (λ (v : View). runs_at u v.runs) begun.view_is, ap one_if (same-number u))
