-- The frame of a running record moves on in a view: no word changes, and the scheduler's rule holds.
use Rattle.std.proofs.Common.{◌≡◌, ◌∙◌, inl, inr, ℕ, ◌+◌, ◌*◌, ◌≤◌, ◌==◌, ◌||◌, Bool, true, false, cond, List, map, refl, sym, ap, subst, arith}
use Rattle.std.specs.Prelude.{slice_get, slice_set, slice_index}
use Rattle.std.proofs.lemmas.Bool.{eq-eqb}
use Rattle.record_core.specs.Counting.{At, Has, one_if}
use Rattle.record_core.proofs.CountFacts.{passing-one}
use Rattle.record_core.proofs.TotalFacts.{total-set, total-member}
use Rattle.kt_words.specs.Capacity.{block_units}
use Rattle.task_syntax.specs.declared.program.Program.{Program}
use Rattle.task_meaning.specs.Frame.{variables_of}
use Rattle.task_meaning.specs.Worths.{Accepted}
use Rattle.frame_code.specs.Control.{is_aggregate, control_state, control_kind, control_at}
use Rattle.frame_code.specs.Frames.{frame_length}
use Rattle.frame_code.specs.Words.{OfKind, OfMembers, members_at, frame_at, body_at}
use Rattle.table_core.specs.Addresses.{Addr, Mem, super, state, task}
use Rattle.table_core.specs.Asking.{Asker, OfRoot, OfTask, Drawn}
use Rattle.table_core.specs.Bounds.{IsBounded}
use Rattle.table_core.specs.Holdings.{Made, Run}
use Rattle.table_core.specs.Own.{Hands, any, is_in, runs_at, is_own, is_word_of, is_result_of, record_words}
use Rattle.table_core.specs.Story.{Story}
use Rattle.table_core.specs.WaitViews.{is_run_at}
use Rattle.table_core.specs.Parts.{Part as TablePart, pool, bounds, fits, own, seen as table_seen, Says as TableSays}
use Rattle.table_core.specs.declared.setup.Setup.{Setup}
use Rattle.table_core.specs.declared.view.View.{View}
use Rattle.table_core.proofs.ListFacts.{at_map, each-set, same_some}
use Rattle.table_core.proofs.OwnFacts.{IsHand, hands-from, own-moved}
use Rattle.table_core.proofs.PoolKinds.{bounded}
use Rattle.table_core.proofs.ReferenceBound.{in-few}
use Rattle.table_core.proofs.Rule.{frames as table_frames, moves as table_moves}
use Rattle.schedule_rule.specs.Askers.{IsAsker, IsNextOf, HasNext, IsForRecord, AskedSound}
use Rattle.schedule_rule.specs.Calls.{task_of}
use Rattle.schedule_rule.specs.DrawViews.{changed}
use Rattle.schedule_rule.specs.Frames.{IsFrameOf, BagSound, IsFormed}
use Rattle.schedule_rule.specs.LifeViews.{with_words, moved_on, IsMovedFrame}
use Rattle.schedule_rule.specs.Numbers.{in_hands}
use Rattle.schedule_rule.specs.Parts.{Part, draws, rowed, askers, framed, owners, running, bags, seen, Says, AllSay, formed}
use Rattle.schedule_rule.specs.Rows.{RowedSound}
use Rattle.schedule_rule.proofs.LiveFacts.{total-kept, any-kept, each-kept, each-changed, has-kept}
use Rattle.schedule_rule.proofs.Rule.{frames, moves}

-- a frame that has moved is of the same call, and as long
module _ (p : Program) (words next : List ℕ) (is : IsMovedFrame p words next) where
  body-single : (ws : List ℕ) → is_aggregate (slice_index ws 0) ≡ false → body_at p (slice_index ws) ≡ OfKind (frame_at p (slice_index ws))
  body-single ws e = ap (λ (b : Bool). cond b (OfMembers (members_at (slice_index ws)) (control_at (slice_index ws 0))) (OfKind (frame_at p (slice_index ws)))) e

  moved-frame : (calls : List Accepted) (tasks : ℕ → ℕ) (n : ℕ) → IsFrameOf p calls tasks n (body_at p (slice_index words)) → IsFrameOf p calls tasks n (body_at p (slice_index next))
  moved-frame calls tasks n was =
      let t : IsFrameOf p calls tasks n (OfKind (frame_at p (slice_index words))) = subst (IsFrameOf p calls tasks n) (body-single words is.single) was in
      subst (IsFrameOf p calls tasks n) (sym (body-single next is.next_single)) ((t.0.0, t.0.1, t.0.2, is.kind ∙ t.0.3), is.way)

  length-single : (c : ℕ) → is_aggregate c ≡ false → frame_length p c ≡ 1 + variables_of p (control_kind c)
  length-single c e = ap (λ (b : Bool). cond b (1 + control_state c) (1 + variables_of p (control_kind c))) e

  moved-length : frame_length p (slice_index next 0) ≡ frame_length p (slice_index words 0)
  moved-length = length-single (slice_index next 0) is.next_single ∙ ap (λ (k : ℕ). 1 + variables_of p k) is.kind ∙ sym (length-single (slice_index words 0) is.single)

module _ (g : Setup) (id : ℕ) (v : View) (m : Mem) (vs : List View) (s : Story) (l : AllSay g s m vs) (at : At vs id v) (r : Run) (has : Has r v.runs) (next : List ℕ) (is : IsMovedFrame g.checked r.words next)
    (still : BagSound g.checked (seen bags v) → BagSound g.checked (seen bags (moved_on r.unit next v))) (in_use : 1 ≤ v.parts) where
  abbrev u : ℕ
  u = r.unit

  abbrev states : ℕ → ℕ
  states w = m (state w)

  abbrev owners_vs : List Hands
  owners_vs = map (table_seen own) vs

  abbrev runs : List Run
  runs = changed (is_run_at u) (with_words next) v.runs

  abbrev after_move : View
  after_move = moved_on u next v

  -- no other run is there
  runs-few : runs_at u v.runs ≤ 1
  runs-few = omega (arith, (l.table own).running u, in-few g m vs s l.table 4 u, total-member (λ (h : Hands). runs_at u h.runs) owners_vs id (table_seen own v) (at_map (table_seen own) vs id v at))

  only : (x : Run) → Has x v.runs → is_run_at u x ≡ true → x ≡ r
  only x there here =
      let same = passing-one (is_run_at u) v.runs there.0 has.0 x r runs-few there.1 here has.1 (eq-eqb u u refl) in
      same_some x r (sym there.1 ∙ ap (slice_get v.runs) same ∙ has.1)

  was_hand : IsHand g.plan (λ i. m (super i)) states (record_words m) (table_seen own v)
  was_hand = hands-from g.plan (λ i. m (super i)) states (record_words m) owners_vs (l.table own) id (table_seen own v) (at_map (table_seen own) vs id v at)

  own-same : (b : Addr) → is_own v.made runs b ≡ is_own v.made v.runs b
  own-same b = ap (λ (c : Bool). any (λ (x : Made). is_word_of x.unit (block_units x.class) b) v.made || c)
      (any-kept (is_run_at u) (with_words next) (λ (x : Run). is_result_of x.unit (block_units x.class) b) (λ x. refl) v.runs)

  move-table : (q : TablePart) → TableSays g q s m (map (table_seen q) (slice_set vs id after_move))
  move-table pool = table_frames g vs id v at pool s m after_move refl (l.table pool)
  move-table bounds = table_moves g vs id v at bounds s m after_move
      (each-set IsBounded (map (table_seen bounds) vs) id (table_seen bounds after_move) (l.table bounds) (bounded (table_seen bounds v) _ in_use (l.table bounds id (table_seen bounds v) (at_map (table_seen bounds) vs id v at))))
  move-table fits = table_moves g vs id v at fits s m after_move (record {
    saved = (l.table fits).saved;
    running = each-set _ (map (table_seen fits) vs) id runs (l.table fits).running
        (each-changed (is_run_at u) (with_words next) (λ (x : Run). frame_length g.checked (slice_index x.words 0) ≤ 8 * block_units x.class) v.runs
        (λ x there here fit. omega (arith, fit, moved-length g.checked r.words next is, ap (λ (y : Run). frame_length g.checked (slice_index y.words 0)) (only x there here)))
        ((l.table fits).running id v.runs (at_map (table_seen fits) vs id v at)));
  })
  move-table own = table_moves g vs id v at own s m after_move
      (own-moved g.plan (λ i. m (super i)) states states (record_words m) (record_words m) owners_vs id (table_seen own v) (table_seen own after_move) (at_map (table_seen own) vs id v at) (l.table own)
      (λ w. refl)
      (λ w. ap (λ (k : ℕ). k + is_in g.plan states 4 w) (total-kept (is_run_at u) (with_words next) (λ (x : Run). one_if (x.unit == w)) (λ x. refl) v.runs))
      (λ w. omega (arith, (l.table own).done w))
      (λ k x ne there hand. hand)
      (record {
        classes = was_hand.classes;
        run_classes = each-kept (is_run_at u) (with_words next) _ (λ x it. it) v.runs was_hand.run_classes;
        numbers = each-kept (is_run_at u) (with_words next) _ (λ x it. it) v.runs was_hand.numbers;
        known = λ b k e. ((was_hand.known b k e).0, own-same b ∙ (was_hand.known b k e).1);
      }))
  move-table q = table_frames g vs id v at q s m after_move refl (l.table q)

  was_asked : AskedSound s.calls g.plan (seen askers v)
  was_asked = l.schedule askers id (seen askers v) (at_map (seen askers) vs id v at)

  -- who asked is there still
  asker-still : (k : ℕ) (a : Asker) → IsAsker s.calls g.plan (seen askers v) k a → IsAsker s.calls g.plan (seen askers after_move) k a
  asker-still k (OfRoot by_root) it = it
  asker-still k (OfTask by_task) it = let t = has-kept (is_run_at u) (with_words next) it.0 v.runs it.1 in (
    t.0,
    t.1,
    elim t.2 [
      | inl e ↦ ap (λ (y : Run). task_of s.calls y.number) e ∙ it.2
      | inr e ↦ ap (λ (y : Run). task_of s.calls y.number) e ∙ it.2
    ],
  )

  -- a number that a run drew for itself is so where its frame has moved
  next-still : (d : Drawn) (x : Run) → IsNextOf s.calls d x → IsNextOf s.calls d (with_words next x)
  next-still d x is = record { unit = is.unit; asked = is.asked; asker = is.asker; task = is.task; next = is.next }

  for-still : (d : Drawn) → IsForRecord s.calls (seen askers v) d → IsForRecord s.calls (seen askers after_move) d
  for-still d (inl it) = inl it
  for-still d (inr it) = let t = has-kept (is_run_at u) (with_words next) it.0 v.runs it.1 in inr (
    t.0,
    t.1,
    elim t.2 [
      | inl e ↦ subst (IsNextOf s.calls d) (sym e) it.2
      | inr e ↦ subst (IsNextOf s.calls d) (sym e) (next-still d it.0 it.2)
    ],
  )

  move-says : (q : Part) → Says g q s m (map (seen q) (slice_set vs id after_move))
  move-says draws = frames g vs id v at draws s m after_move refl (l.schedule draws)
  move-says rowed = moves g vs id v at rowed s m after_move (each-set RowedSound (map (seen rowed) vs) id (seen rowed after_move) (l.schedule rowed)
      (let was = l.schedule rowed id (seen rowed v) (at_map (seen rowed) vs id v at) in
      record { task = was.task; after = was.after; runs = each-kept (is_run_at u) (with_words next) _ (λ x it. it) v.runs was.runs }))
  move-says askers = moves g vs id v at askers s m after_move (each-set (AskedSound s.calls g.plan) (map (seen askers) vs) id (seen askers after_move) (l.schedule askers)
      (record {
        asker = λ k d there. let t = was_asked.asker k d there in (asker-still d.number d.asker t.0, for-still d t.1);
        made = was_asked.made;
        unplaced = each-kept (is_run_at u) (with_words next) _ (λ x it. it) v.runs was_asked.unplaced;
        one = each-kept (is_run_at u) (with_words next) _ (λ x it. it) v.runs was_asked.one;
        asked = each-kept (is_run_at u) (with_words next) (λ (x : Run). x.asked ≡ true → HasNext s.calls v.drawn x) (λ x it e. let t = it e in (t.0, t.1, next-still t.0 x t.2)) v.runs was_asked.asked;
      }))
  move-says framed = moves g vs id v at framed s m after_move (record {
    saved = (l.schedule framed).saved;
    names = (l.schedule framed).names;
    running = each-set _ (map (seen framed) vs) id runs (l.schedule framed).running
        (each-changed (is_run_at u) (with_words next) (λ (x : Run). IsFrameOf g.checked s.calls (λ w. m (task w)) x.number (body_at g.checked (slice_index x.words))) v.runs
        (λ x there here of. moved-frame g.checked r.words next is s.calls (λ w. m (task w)) x.number
        (subst (λ (y : Run). IsFrameOf g.checked s.calls (λ w. m (task w)) x.number (body_at g.checked (slice_index y.words))) (only x there here) of))
        ((l.schedule framed).running id v.runs (at_map (seen framed) vs id v at)));
  })
  move-says formed = moves g vs id v at formed s m after_move (record {
    saved = (l.schedule formed).saved;
    running = each-set _ (map (seen formed) vs) id runs (l.schedule formed).running
        (each-changed (is_run_at u) (with_words next) (λ (x : Run). IsFormed g.checked (slice_index x.words)) v.runs (λ x there here was. is.formed) ((l.schedule formed).running id v.runs (at_map (seen formed) vs id v at)));
  })
  move-says owners = moves g vs id v at owners s m after_move (record {
    is_of = (l.schedule owners).is_of;
    once = λ k it. omega (
      arith,
      (l.schedule owners).once k it,
      total-set (in_hands s.calls k) (map (seen owners) vs) id (seen owners v) (seen owners after_move) (at_map (seen owners) vs id v at),
      total-kept (is_run_at u) (with_words next) (λ (x : Run). one_if (task_of s.calls x.number == k)) (λ x. refl) v.runs,
    );
    done = (l.schedule owners).done;
    ended = (l.schedule owners).ended;
    last_saved = (l.schedule owners).last_saved;
    last_drawn = each-set _ (map (seen owners) vs) id (seen owners after_move) (l.schedule owners).last_drawn ((l.schedule owners).last_drawn id (seen owners v) (at_map (seen owners) vs id v at));
  })
  move-says running = moves g vs id v at running s m after_move (each-set _ (map (seen running) vs) id runs (l.schedule running)
      (each-kept (is_run_at u) (with_words next) _ (λ x it. record { near = it.near; accepted = it.accepted; task = it.task; last = it.last }) v.runs (l.schedule running id v.runs (at_map (seen running) vs id v at))))
  move-says bags = moves g vs id v at bags s m after_move
      (each-set (BagSound g.checked) (map (seen bags) vs) id (seen bags after_move) (l.schedule bags) (still (l.schedule bags id (seen bags v) (at_map (seen bags) vs id v at))))
  move-says q = frames g vs id v at q s m after_move refl (l.schedule q)

  -- the rule holds with the frame moved on
  pub moved-says : AllSay g s m (slice_set vs id (moved_on r.unit next v))
  moved-says = record { table = move-table; schedule = move-says }
