-- An activation starts: it is taken out of the queues, and its start is stamped.
use Rattle.std.proofs.Common.{◌≡◌, ◌≢◌, ℕ, ◌+◌, ◌≤◌, Option, Some, None, List, [], ◌∷◌, length, map, slice_get, refl, sym, ◌∙◌, ap, inl, ⊎_elim}
use Rattle.std.proofs.lemmas.Bool.{cases_eq}
use Rattle.std.proofs.lemmas.Option.{same_Some}
use Rattle.task_syntax.specs.declared.program.Program.{Program}
use Rattle.record_core.specs.Numbers.{by_number}
use Rattle.record_core.specs.Journal.{with_begun}
use Rattle.record_core.specs.declared.rows.ActivationRow.{ActivationRow}
use Rattle.run_model.specs.State.{Body, Queues, Run, next_queued}
use Rattle.run_model.specs.Move.{RunsAt, begins}
use Rattle.run_model.proofs.LiveFacts.{OneStarted, one_started, WasRow, was_row}
use Rattle.run_model.proofs.NumbersInvariant.{NumbersStand}
use Rattle.run_model.proofs.NumbersParts.{next_row, started_runs}
use Rattle.plain_state.specs.Store.{frame_at}
use Rattle.plain_state.specs.Engine.{EngineState}
use Rattle.plain_state.specs.Moves.{begun}
use Rattle.plain_state.specs.Sees.{Sees, SeesTask, IsCurrent, InUse, AreUnitsOf, unit_of, unit_of_row, unit_of_number, cut_behind}
use Rattle.plain_state.proofs.InHand.{sees_taken}
use Rattle.plain_state.proofs.ReadySeen.{NextSeen, QueuesSeen, next_seen}
use Rattle.plain_state.proofs.SeenNumbers.{SeenNumber, seen_number}

-- two functions with the same values
map_same : {A : Type 0} (f g : ℕ → A) (xs : List ℕ) → ((x : ℕ) → f x ≡ g x) → map f xs ≡ map g xs
map_same f g [] same = refl
map_same f g (x ∷ xs) same = ap (λ y. y ∷ map f xs) (same x) ∙ ap (λ ys. g x ∷ ys) (map_same f g xs same)

module _ (p : Program) (units : ℕ) (hand : List ℕ) (own : Option (ℕ × List ℕ)) (e : EngineState) (r : Run) (n : ℕ) (row : ActivationRow) (there : by_number r.journal.rows n ≡ Some row) (waits : row.start ≡ None)
    (idle : r.running ≡ None) (left rest : Queues) (queues : QueuesSeen (unit_of_number r) left rest) (sees : Sees p units hand own e r) where
  -- the rows once it started
  abbrev rows' : List ActivationRow
  rows' = (begins r n rest).journal.rows

  -- one of them has a start more
  started : OneStarted r.journal.rows n (r.journal.stamps + 1) row rows'
  started = one_started r.journal.rows n (r.journal.stamps + 1) row there

  -- each was a row before
  was : (m : ℕ) (now : ActivationRow) → by_number rows' m ≡ Some now → WasRow r.journal.rows rows' n (r.journal.stamps + 1) row there started m now
  was m now e = was_row r.journal.rows rows' n (r.journal.stamps + 1) row there started m now e

  -- the units of numbers are the same
  same_unit : (m : ℕ) → unit_of_number (begins r n rest) m ≡ unit_of_number r m
  same_unit m =
      ⊎_elim
      (λ same. ap (λ k. unit_of_row r.blocks (by_number rows' k)) same ∙ ap (unit_of_row r.blocks) started.here ∙ sym (ap (unit_of_row r.blocks) there) ∙ sym (ap (unit_of_number r) same))
      (λ differ. ap (unit_of_row r.blocks) (started.others m differ))
      (cases_eq m n)

  -- and those of lists of numbers
  same_units : (us ns : List ℕ) → AreUnitsOf r us ns → AreUnitsOf (begins r n rest) us ns
  same_units us ns are = map_same (unit_of_number (begins r n rest)) (unit_of_number r) ns same_unit ∙ are

  -- what is current now, was so before
  before : (u m : ℕ) (now : ActivationRow) → IsCurrent (begins r n rest) u m now → (old : ActivationRow) × IsCurrent r u m old × (old.start ≡ None) × (now.after ≡ old.after)
  before u m now current =
      let w = was m now current.there in
      let waited : w.was.start ≡ None = ⊎_elim (λ same. here w.was same w.stood) (λ differ. sym (w.start.1 differ) ∙ not_here differ) (cases_eq m n) in
      (w.was, record { there = w.stood; of_task = sym w.task ∙ current.of_task; current = inl waited }, waited, w.after)
    where
      here : (old : ActivationRow) → m ≡ n → by_number r.journal.rows m ≡ Some old → old.start ≡ None
      here old same stood = ap (λ (k : ActivationRow). k.start) (same_Some old row (sym stood ∙ ap (by_number r.journal.rows) same ∙ there)) ∙ waits

      not_here : m ≢ n → now.start ≡ None
      not_here differ = ⊎_elim (λ start. start) (λ runs. absurd (differ (sym (same_Some n m runs)))) current.current

  -- each task is seen
  begun_task : (u : ℕ) → SeesTask p hand own e.store r u → SeesTask p hand own (begun left n e).store (begins r n rest) u
  begun_task u old = record {
    block = old.block;
    known = old.known;
    has_block = old.has_block;
    stands = old.stands;
    there = old.there;
    task = old.task;
    referred = old.referred;
    outcome = old.outcome;
    number = λ m now current. let (then, current', waited, after) = before u m now current in old.number m then current';
    cut = λ m now cut current start known. let (then, current', waited, after) = before u m now current in old.cut m then cut current' waited (ap (cut_behind r.outcomes) (sym after) ∙ known);
    waiters = old.waiters;
    of_waiters = same_units old.waiters (Rattle.run_model.specs.Step.waiters_of r.waiters u) old.of_waiters;
    chain = old.chain;
    fits = old.fits;
    body = old.body;
    size = old.size;
  }

  -- The engine stands for the run in which it started.
  pub begun_sees : Sees p units hand own (begun left n e) (begins r n rest)
  begun_sees = record {
    shaped = record { units = sees.shaped.units; of_blocks = sees.shaped.of_blocks; of_words = sees.shaped.of_words };
    sound = sees.sound;
    pool = sees.pool;
    out = sees.out;
    apart = sees.apart;
    tasks = λ u used. begun_task u (sees.tasks u used);
    journal = ap (λ j. with_begun j n) sees.journal;
    roots = sees.roots;
    high = same_units left.high rest.high queues.high;
    regular = same_units left.regular rest.regular queues.regular;
    low = same_units left.low rest.low queues.low;
    nulls = sees.nulls;
    class = sees.class;
    words = sees.words;
  }

-- The next activation, by the unit of its record: what it is, and that it runs once it began.
pub record Starting (p : Program) (units : ℕ) (e : EngineState) (r : Run) (unit : ℕ) (left : Queues) : Type 0 where
  pub n : ℕ
  pub rest : Queues
  pub next : next_queued r.ready ≡ Some (n, rest)
  pub row : ActivationRow
  pub there : by_number r.journal.rows n ≡ Some row
  pub waits : row.start ≡ None
  pub task : SeesTask p [] None e.store r row.task
  pub used : InUse [] r row.task
  pub first : task.block.unit ≡ unit
  pub at : unit_of r.blocks row.task ≡ Some unit
  pub stands : slice_get e.store.records unit ≡ Some task.known
  pub number : task.known.number ≡ n
  pub body : Body
  pub runs : RunsAt (begins r n rest) row.task n body
  pub sees : Sees p units [] (Some (row.task, frame_at e.store unit)) (begun left n e) (begins r n rest)

-- it is so where nothing runs
pub starting : (p : Program) (units : ℕ) (e : EngineState) (r : Run) (unit : ℕ) (left : Queues) → NumbersStand r → r.running ≡ None → Sees p units [] None e r → next_queued e.store.ready ≡ Some (unit, left)
    → Starting p units e r unit left
starting p units e r unit left held idle sees next =
    let seen = next_seen (unit_of_number r) e.store.ready r.ready unit left (record { high = sees.high; regular = sees.regular; low = sees.low }) next in
    let (row, there, waits) = next_row r [] seen.number seen.rest held seen.next in
    let (body, runs) = started_runs r seen.number seen.rest row held idle seen.next there in
    let here = seen_number p units [] None e r sees [] held seen.number row there waits in
    make seen row there waits body runs (Rattle.run_model.proofs.ByNumber.number_within r.journal.rows seen.number row there) (used row seen.number there waits)
  where
    used : (row : ActivationRow) (n : ℕ) → by_number r.journal.rows n ≡ Some row → row.start ≡ None → InUse [] r row.task
    used row n there waits = let (body, has) = Rattle.plain_state.proofs.SeenNumbers.waiting_body p units [] None e r sees [] held n row there waits in Rattle.plain_state.proofs.References.in_use_open [] r row.task body has

    make : (seen : NextSeen (unit_of_number r) r.ready unit left) (row : ActivationRow) → by_number r.journal.rows seen.number ≡ Some row → row.start ≡ None → (body : Body) → RunsAt (begins r seen.number seen.rest) row.task seen.number body
        → (1 ≤ seen.number) × (seen.number ≤ length r.journal.rows) → InUse [] r row.task → Starting p units e r unit left
    make seen row there waits body runs within used = record {
      n = seen.number;
      rest = seen.rest;
      next = seen.next;
      row = row;
      there = there;
      waits = waits;
      task = sees.tasks row.task used;
      used = used;
      first = first;
      at = at;
      stands = ap (slice_get e.store.records) (sym first) ∙ (sees.tasks row.task used).there;
      number = ((sees.tasks row.task used).number seen.number row (record { there = there; of_task = refl; current = inl waits })).0;
      body = body;
      runs = runs;
      sees = begun_sees p units [] (Some (row.task, frame_at e.store unit)) e r seen.number row there waits idle left seen.rest seen.seen (sees_taken p units [] row.task unit e r sees used at);
    }
      where
        at : unit_of r.blocks row.task ≡ Some unit
        at = sym (ap (unit_of_row r.blocks) there) ∙ seen.named

        first : (sees.tasks row.task used).block.unit ≡ unit
        first = same_Some (sees.tasks row.task used).block.unit unit (sym (Rattle.plain_state.proofs.Units.unit_from r.blocks row.task (sees.tasks row.task used).block (sees.tasks row.task used).has_block) ∙ sym (ap (unit_of_row r.blocks) there) ∙ seen.named)
