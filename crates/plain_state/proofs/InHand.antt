-- What an engine sees after it took one more task in hand, after the running task stands at another body, and after a frame
-- was taken out of its record or stored there.
use Rattle.std.proofs.Common.{◌≡◌, ◌≢◌, ◌⊎◌, ℕ, suc, ◌+◌, ◌*◌, ◌≤◌, Bool, true, false, cond, nat_eq, Option, Some, None, List, [], ◌∷◌, length, slice_get, refl, sym, ◌∙◌, ap, subst, inl, inr, ⊎_elim, arith, eq-eqb}
use Rattle.std.proofs.lemmas.Bool.{cases_eq, eqb-true}
use Rattle.std.proofs.lemmas.Option.{none-some, same_Some}
use Rattle.task_syntax.specs.declared.program.Program.{Program}
use Rattle.pool_core.specs.Blocks.{BlockState}
use Rattle.frame_code.specs.Names.{names_of}
use Rattle.record_core.specs.Numbers.{put_number, found}
use Rattle.run_model.specs.State.{Body, RootWord, Run}
use Rattle.run_model.specs.Placing.{is_in_use, used_from, superblocks_from}
use Rattle.run_model.specs.Step.{with_body}
use Rattle.run_model.proofs.ByNumber.{found_put, found_put_other, found_within}
use Rattle.plain_state.specs.Store.{StoreState, changed_at, more, held, stored, with_length, frame_at}
use Rattle.plain_state.specs.Engine.{EngineState, with_store}
use Rattle.plain_state.specs.Sees.{Sees, SeesTask, SeesBody, InUse, references, times, with_hand, unit_of, frame_or}
use Rattle.plain_state.proofs.Units.{unit_from, one_task, blocks_beside, block_inside}
use Rattle.plain_state.proofs.ChangedRecords.{changed_same, changed_other, changed_shaped}
use Rattle.plain_state.proofs.Frames.{frame_same, frame_length, frame_stored, frame_beside, stored_shaped}
use Rattle.plain_state.proofs.Chains.{KeepsNext, chained_kept, changed_keeps}
use Rattle.plain_state.proofs.References.{in_use_counts, references_body, references_held, times_itself, times_other}

-- tests that are true together are the same
pub same_test : (a b : Bool) → (a ≡ true → b ≡ true) → (b ≡ true → a ≡ true) → a ≡ b
same_test true b there back = sym (there refl)
same_test false true there back = back refl
same_test false false there back = refl

-- where the same tasks are in use, the same blocks are
pub used_same_from : (roots roots' : List RootWord) (bodies bodies' : List (Option Body)) (t : ℕ) (blocks : List (Option BlockState))
    → ((u : ℕ) → t ≤ u → is_in_use roots bodies u ≡ is_in_use roots' bodies' u) → used_from roots bodies t blocks ≡ used_from roots' bodies' t blocks
used_same_from roots roots' bodies bodies' t [] same = refl
used_same_from roots roots' bodies bodies' t (None ∷ blocks) same =
    used_same_from roots roots' bodies bodies' (suc t) blocks (λ u le. same u (omega (arith, le)))
used_same_from roots roots' bodies bodies' t (Some block ∷ blocks) same =
    ap (λ b. cond b (block ∷ used_from roots bodies (suc t) blocks) (used_from roots bodies (suc t) blocks)) (same t (omega arith))
    ∙ ap (λ bs. cond (is_in_use roots' bodies' t) (block ∷ bs) bs)
    (used_same_from roots roots' bodies bodies' (suc t) blocks (λ u le. same u (omega (arith, le))))

-- the same for all blocks
pub used_same : (roots roots' : List RootWord) (bodies bodies' : List (Option Body)) (t : ℕ) (blocks : List (Option BlockState))
    → ((u : ℕ) → is_in_use roots bodies u ≡ is_in_use roots' bodies' u) → used_from roots bodies t blocks ≡ used_from roots' bodies' t blocks
used_same roots roots' bodies bodies' t blocks same = used_same_from roots roots' bodies bodies' t blocks (λ u le. same u)

-- a task keeps what the engine sees of it where only references were counted
pub task_referred : (p : Program) (hand hand' : List ℕ) (own : Option (ℕ × List ℕ)) (s s' : StoreState) (r : Run) (t n : ℕ)
    (st : SeesTask p hand own s r t)
    → slice_get s'.blocks st.block.unit ≡ Some (Some st.block) → slice_get s'.records st.block.unit ≡ Some (record st.known { references = n })
    → n ≡ references hand' r t → s'.words ≡ s.words → ((at : ℕ) → KeepsNext s.records s'.records at) → SeesTask p hand' own s' r t
task_referred p hand hand' own s s' r t n st stands there referred words next = record {
  block = st.block;
  known = record st.known { references = n };
  has_block = st.has_block;
  stands = stands;
  there = there;
  task = st.task;
  referred = referred;
  outcome = st.outcome;
  number = st.number;
  cut = st.cut;
  waiters = st.waiters;
  of_waiters = st.of_waiters;
  chain = chained_kept s.records s'.records st.known.first st.waiters (λ place at e. next at) st.chain;
  fits = st.fits;
  body = λ body has. subst (λ ws. SeesBody p r.blocks (frame_or own t ws) body)
      (sym (frame_same s s' st.block.unit st.known (record st.known { references = n }) st.there there refl words)) (st.body body has);
  size = st.size;
}

-- whose frame is with the engine
pub own_frame : (t : ℕ) (words ws : List ℕ) → frame_or (Some (t, words)) t ws ≡ words
own_frame t words ws = ap (λ b. cond b words ws) (eq-eqb t t refl)

-- the frame of another task is in its record
pub other_frame : (t u : ℕ) (words ws : List ℕ) → u ≢ t → frame_or (Some (t, words)) u ws ≡ ws
other_frame t u words ws differ = by (nat_eq t u) refl
  where
    by : (b : Bool) → nat_eq t u ≡ b → cond b words ws ≡ ws
    by true e = absurd (differ (sym (eqb-true t u e)))
    by false e = refl

-- what is with the engine is one task and its words
pub own_same : (t u : ℕ) (words ws : List ℕ) → ◌≡◌ {A = Option (ℕ × List ℕ)} (Some (t, words)) (Some (u, ws)) → (t ≡ u) × (words ≡ ws)
own_same t u words ws e = (ap first e, ap rest e)
  where
    first : Option (ℕ × List ℕ) → ℕ
    first None = t
    first (Some x) = x.0

    rest : Option (ℕ × List ℕ) → List ℕ
    rest None = words
    rest (Some x) = x.1

-- one more in hand
module _ (p : Program) (units : ℕ) (hand : List ℕ) (own : Option (ℕ × List ℕ)) (e : EngineState) (r : Run) (sees : Sees p units hand own e r) where
  -- a task in use has the record at its unit
  pub known_at : (t unit : ℕ) (used : InUse hand r t) → unit_of r.blocks t ≡ Some unit → (sees.tasks t used).block.unit ≡ unit
  known_at t unit used at = let st = sees.tasks t used in same_Some st.block.unit unit (sym (unit_from r.blocks t st.block st.has_block) ∙ at)

  module _ (u unit : ℕ) (used : InUse hand r u) (at : unit_of r.blocks u ≡ Some unit) where
    still_used : (t : ℕ) → InUse (u ∷ hand) r t → InUse hand r t
    still_used t now =
        ⊎_elim (λ same. subst (InUse hand r) (sym same) used)
        (λ differ. (in_use_counts hand r t).1
        (omega (arith, (in_use_counts (u ∷ hand) r t).0 now, references_held hand r t u, times_other t u (λ e. differ (sym e)))))
        (cases_eq t u)

    used_now : (t : ℕ) → InUse hand r t → InUse (u ∷ hand) r t
    used_now t was = (in_use_counts (u ∷ hand) r t).1 (omega (arith, (in_use_counts hand r t).0 was, references_held hand r t u))

    pub sees_held : Sees p units (u ∷ hand) own (with_store e (held unit e.store)) r
    sees_held = record {
      shaped = changed_shaped more unit e.store sees.shaped;
      sound = sees.sound;
      pool = sees.pool ∙ ap (λ bs. record { units = units; superblocks = superblocks_from units bs 0 r.supers })
          (used_same (with_hand hand r).roots (with_hand (u ∷ hand) r).roots r.bodies r.bodies 1 r.blocks
          (λ t. same_test (is_in_use (with_hand hand r).roots r.bodies t) (is_in_use (with_hand (u ∷ hand) r).roots r.bodies t) (used_now t)
          (still_used t)));
      out = λ t block has now. sees.out t block has (still_used t now);
      apart = λ t v block has_t has_v now_t now_v. sees.apart t v block has_t has_v (still_used t now_t) (still_used v now_v);
      tasks = tasks;
      journal = sees.journal;
      roots = sees.roots;
      high = sees.high;
      regular = sees.regular;
      low = sees.low;
      nulls = sees.nulls;
      class = sees.class;
      words = sees.words;
    }
      where
        tasks : (t : ℕ) → InUse (u ∷ hand) r t → SeesTask p (u ∷ hand) own (held unit e.store) r t
        tasks t now =
            let was = still_used t now in
            let st = sees.tasks t was in
            ⊎_elim
            (λ same.
            let here : st.block.unit ≡ unit = known_at t unit was (ap (unit_of r.blocks) same ∙ at) in
            let one : ◌≡◌ {A = ℕ} (cond (nat_eq u t) 1 0) 1 = ap (λ v. cond (nat_eq u v) 1 0) same ∙ times_itself u in
            task_referred p hand (u ∷ hand) own e.store (held unit e.store) r t (st.known.references + 1) st st.stands
            (subst (λ x. slice_get (changed_at more x e.store.records) st.block.unit ≡ Some (more st.known)) here
            (changed_same more st.block.unit e.store.records st.known st.there))
            (omega (arith, st.referred, references_held hand r t u, one)) refl (λ x. changed_keeps more unit x e.store.records (λ known. refl)))
            (λ differ.
            let far : st.block.unit ≢ unit =
            λ e'. differ (one_task p units hand own e r sees t u unit was used (unit_from r.blocks t st.block st.has_block ∙ ap Some e') at) in
            task_referred p hand (u ∷ hand) own e.store (held unit e.store) r t st.known.references st st.stands
            (changed_other more unit st.block.unit e.store.records far ∙ st.there)
            (omega (arith, st.referred, references_held hand r t u, times_other t u (λ e'. differ (sym e')))) refl
            (λ x. changed_keeps more unit x e.store.records (λ known. refl)))
            (cases_eq t u)

-- the running task stands at another body, and what that does not name is in hand
module _ (p : Program) (units : ℕ) (hand hand' : List ℕ) (t : ℕ) (words words' : List ℕ) (old new : Body) (e : EngineState) (r : Run)
    (sees : Sees p units hand (Some (t, words)) e r)
    (has : found r.bodies t ≡ Some old) (names : (u : ℕ) → times u hand' + times u (names_of new) ≡ times u hand + times u (names_of old))
    (says : SeesBody p r.blocks words' new) (long : length words' ≡ length words) where
  body_references : (u : ℕ) → references hand' (with_body r t new) u ≡ references hand r u
  body_references u = omega (arith, references_body hand' r t u old new has, names u)

  -- what is in use then was so before
  still : (u : ℕ) → InUse hand' (with_body r t new) u → InUse hand r u
  still u now = (in_use_counts hand r u).1 (omega (arith, (in_use_counts hand' (with_body r t new) u).0 now, body_references u))

  -- and what was so is in use then
  stays : (u : ℕ) → InUse hand r u → InUse hand' (with_body r t new) u
  stays u was = (in_use_counts hand' (with_body r t new) u).1 (omega (arith, (in_use_counts hand r u).0 was, body_references u))

  -- the engine sees the task at the other body
  pub sees_body : Sees p units hand' (Some (t, words')) e (with_body r t new)
  sees_body = record {
    shaped = sees.shaped;
    sound = sees.sound;
    pool = sees.pool ∙ ap (λ bs. record { units = units; superblocks = superblocks_from units bs 0 r.supers })
        (used_same (with_hand hand r).roots (with_hand hand' r).roots r.bodies (put_number r.bodies t (Some new)) 1 r.blocks
        (λ u. same_test (is_in_use (with_hand hand r).roots r.bodies u) (is_in_use (with_hand hand' r).roots (put_number r.bodies t (Some new)) u)
        (stays u) (still u)));
    out = λ u block has_u now. sees.out u block has_u (still u now);
    apart = λ u v block has_u has_v now_u now_v. sees.apart u v block has_u has_v (still u now_u) (still v now_v);
    tasks = tasks;
    journal = sees.journal;
    roots = sees.roots;
    high = sees.high;
    regular = sees.regular;
    low = sees.low;
    nulls = sees.nulls;
    class = sees.class;
    words = sees.words;
  }
    where
      tasks : (u : ℕ) → InUse hand' (with_body r t new) u → SeesTask p hand' (Some (t, words')) e.store (with_body r t new) u
      tasks u now = record {
        block = st.block;
        known = st.known;
        has_block = st.has_block;
        stands = st.stands;
        there = st.there;
        task = st.task;
        referred = st.referred ∙ sym (body_references u);
        outcome = st.outcome;
        number = λ n row cur. st.number n row (record { there = cur.there; of_task = cur.of_task; current = cur.current });
        cut = λ n row cut cur. st.cut n row cut (record { there = cur.there; of_task = cur.of_task; current = cur.current });
        waiters = st.waiters;
        of_waiters = st.of_waiters;
        chain = st.chain;
        fits = st.fits;
        body = body;
        size = λ ws own. let (same, same_words) = own_same t u words' ws own in
            ap length (sym same_words) ∙ long ∙ st.size words (ap (λ v. Some (v, words)) same);
      }
        where
          st : SeesTask p hand (Some (t, words)) e.store r u
          st = sees.tasks u (still u now)

          body : (b : Body) → found (put_number r.bodies t (Some new)) u ≡ Some b
              → SeesBody p r.blocks (frame_or (Some (t, words')) u (frame_at e.store st.block.unit)) b
          body b has_b =
              ⊎_elim
              (λ same.
              let within = found_within r.bodies t old has in
              let is_new : new ≡ b = same_Some new b
              (sym (found_put r.bodies t (Some new) within.0 within.1) ∙ ap (found (put_number r.bodies t (Some new))) (sym same) ∙ has_b) in
              subst (SeesBody p r.blocks (frame_or (Some (t, words')) u (frame_at e.store st.block.unit))) is_new
              (subst (λ ws. SeesBody p r.blocks ws new)
              (sym (ap (λ v. frame_or (Some (t, words')) v (frame_at e.store st.block.unit)) same
              ∙ own_frame t words' (frame_at e.store st.block.unit))) says))
              (λ differ.
              subst (λ ws. SeesBody p r.blocks ws b)
              (other_frame t u words (frame_at e.store st.block.unit) differ
              ∙ sym (other_frame t u words' (frame_at e.store st.block.unit) differ))
              (st.body b (sym (found_put_other r.bodies t u (Some new) differ) ∙ has_b)))
              (cases_eq u t)

-- the words of a task in use lie among the words
module _ (p : Program) (units : ℕ) (hand : List ℕ) (own : Option (ℕ × List ℕ)) (e : EngineState) (r : Run) (sees : Sees p units hand own e r) where
  pub words_inside : (t : ℕ) (used : InUse hand r t) → (sees.tasks t used).block.unit * 8 + (sees.tasks t used).known.length ≤ length e.store.words
  words_inside t used = let st = sees.tasks t used in
      omega (arith, st.fits, block_inside p units hand own e r sees t st.block st.has_block used, sees.shaped.of_words)

-- the frame of a task is taken out of its record
module _ (p : Program) (units : ℕ) (hand : List ℕ) (t unit : ℕ) (e : EngineState) (r : Run) (sees : Sees p units hand None e r)
    (used : InUse hand r t) (at : unit_of r.blocks t ≡ Some unit) where
  pub sees_taken : Sees p units hand (Some (t, frame_at e.store unit)) e r
  sees_taken = record {
    shaped = sees.shaped;
    sound = sees.sound;
    pool = sees.pool;
    out = sees.out;
    apart = sees.apart;
    tasks = tasks;
    journal = sees.journal;
    roots = sees.roots;
    high = sees.high;
    regular = sees.regular;
    low = sees.low;
    nulls = sees.nulls;
    class = sees.class;
    words = sees.words;
  }
    where
      tasks : (u : ℕ) → InUse hand r u → SeesTask p hand (Some (t, frame_at e.store unit)) e.store r u
      tasks u now = record {
        block = st.block;
        known = st.known;
        has_block = st.has_block;
        stands = st.stands;
        there = st.there;
        task = st.task;
        referred = st.referred;
        outcome = st.outcome;
        number = st.number;
        cut = st.cut;
        waiters = st.waiters;
        of_waiters = st.of_waiters;
        chain = st.chain;
        fits = st.fits;
        body = λ b has. subst (λ ws. SeesBody p r.blocks ws b) (same_frame (cases_eq u t)) (st.body b has);
        size = λ ws own. let (same, same_words) = own_same t u (frame_at e.store unit) ws own in
            ap length (sym same_words) ∙ ap length (ap (frame_at e.store) (sym (here (sym same))))
            ∙ frame_length e.store st.block.unit st.known st.there (words_inside p units hand None e r sees u now);
      }
        where
          st : SeesTask p hand None e.store r u
          st = sees.tasks u now

          here : u ≡ t → st.block.unit ≡ unit
          here same = known_at p units hand None e r sees u unit now (ap (unit_of r.blocks) same ∙ at)

          same_frame : (u ≡ t) ⊎ (u ≢ t)
              → frame_at e.store st.block.unit ≡ frame_or (Some (t, frame_at e.store unit)) u (frame_at e.store st.block.unit)
          same_frame (inl same) =
              ap (frame_at e.store) (here same) ∙ sym (own_frame t (frame_at e.store unit) (frame_at e.store st.block.unit))
              ∙ ap (λ v. frame_or (Some (t, frame_at e.store unit)) v (frame_at e.store st.block.unit)) (sym same)
          same_frame (inr differ) = sym (other_frame t u (frame_at e.store unit) (frame_at e.store st.block.unit) differ)

-- the frame of a task is stored in its record
module _ (p : Program) (units : ℕ) (hand : List ℕ) (t unit : ℕ) (words : List ℕ) (e : EngineState) (r : Run)
    (sees : Sees p units hand (Some (t, words)) e r) (used : InUse hand r t) (at : unit_of r.blocks t ≡ Some unit) where
  abbrev mine : SeesTask p hand (Some (t, words)) e.store r t
  mine = sees.tasks t used

  -- its record stands at the unit
  at_unit : mine.block.unit ≡ unit
  at_unit = known_at p units hand (Some (t, words)) e r sees t unit used at

  -- its words fit there
  pub stored_fits : unit * 8 + length words ≤ length e.store.words
  stored_fits = omega (arith, words_inside p units hand (Some (t, words)) e r sees t used, mine.size words refl, at_unit)

  -- and no list of records changes
  stored_keeps : (x : ℕ) → KeepsNext e.store.records (changed_at (with_length (length words)) unit e.store.records) x
  stored_keeps x = changed_keeps (with_length (length words)) unit x e.store.records (λ known. refl)

  -- the engine sees the frame in its record
  pub sees_stored : Sees p units hand None (with_store e (stored unit words e.store)) r
  sees_stored = record {
    shaped = stored_shaped unit words e.store stored_fits sees.shaped;
    sound = sees.sound;
    pool = sees.pool;
    out = sees.out;
    apart = sees.apart;
    tasks = tasks;
    journal = sees.journal;
    roots = sees.roots;
    high = sees.high;
    regular = sees.regular;
    low = sees.low;
    nulls = sees.nulls;
    class = sees.class;
    words = sees.words;
  }
    where
      tasks : (u : ℕ) → InUse hand r u → SeesTask p hand None (stored unit words e.store) r u
      tasks u now = record {
        block = st.block;
        known = st.known;
        has_block = st.has_block;
        stands = st.stands;
        there = there (cases_eq u t);
        task = st.task;
        referred = st.referred;
        outcome = st.outcome;
        number = st.number;
        cut = st.cut;
        waiters = st.waiters;
        of_waiters = st.of_waiters;
        chain = chained_kept e.store.records (stored unit words e.store).records st.known.first st.waiters (λ place x e'. stored_keeps x) st.chain;
        fits = st.fits;
        body = λ b has. subst (λ ws. SeesBody p r.blocks ws b) (same_frame (cases_eq u t)) (st.body b has);
        size = λ ws own. absurd (none-some (u, ws) own);
      }
        where
          st : SeesTask p hand (Some (t, words)) e.store r u
          st = sees.tasks u now

          here : u ≡ t → st.block.unit ≡ unit
          here same = known_at p units hand (Some (t, words)) e r sees u unit now (ap (unit_of r.blocks) same ∙ at)

          far : u ≢ t → st.block.unit ≢ unit
          far differ e' =
              differ (one_task p units hand (Some (t, words)) e r sees u t unit now used (unit_from r.blocks u st.block st.has_block ∙ ap Some e') at)

          there : (u ≡ t) ⊎ (u ≢ t) → slice_get (stored unit words e.store).records st.block.unit ≡ Some st.known
          there (inl same) = ap (slice_get (stored unit words e.store).records) (here same)
              ∙ changed_same (with_length (length words)) unit e.store.records st.known (ap (slice_get e.store.records) (sym (here same)) ∙ st.there)
              ∙ ap (λ n. Some (with_length n st.known)) (st.size words (ap (λ v. Some (v, words)) (sym same)))
          there (inr differ) = changed_other (with_length (length words)) unit st.block.unit e.store.records (far differ) ∙ st.there

          beside : u ≢ t → (st.block.unit * 8 + st.known.length ≤ unit * 8) ⊎ (unit * 8 + length words ≤ st.block.unit * 8)
          beside differ =
              ⊎_elim (λ before. inl (omega (arith, before, st.fits, at_unit)))
              (λ behind. inr (omega (arith, behind, mine.fits, mine.size words refl, at_unit)))
              (blocks_beside p units hand (Some (t, words)) e r sees u t st.block mine.block st.has_block mine.has_block now used differ)

          same_frame : (u ≡ t) ⊎ (u ≢ t)
              → frame_or (Some (t, words)) u (frame_at e.store st.block.unit) ≡ frame_at (stored unit words e.store) st.block.unit
          same_frame (inl same) =
              ap (λ v. frame_or (Some (t, words)) v (frame_at e.store st.block.unit)) same ∙ own_frame t words (frame_at e.store st.block.unit)
              ∙ sym (frame_stored unit words e.store mine.known (ap (slice_get e.store.records) (sym at_unit) ∙ mine.there) stored_fits)
              ∙ ap (frame_at (stored unit words e.store)) (sym (here same))
          same_frame (inr differ) = other_frame t u words (frame_at e.store st.block.unit) differ
              ∙ sym (frame_beside unit st.block.unit words e.store st.known (far differ) st.there stored_fits (beside differ))
