-- What an engine knows of the numbers that have not started, and that there is room for them in its queues.
use Rattle.std.proofs.Common.{◌≡◌, ℕ, ◌+◌, ◌<◌, ◌≤◌, Option, Some, None, List, [], ◌∷◌, ◌++◌, length, map, slice_get, refl, sym, ◌∙◌, ap, inl, arith}
use Rattle.std.proofs.lemmas.List.{map-append}
use Rattle.std.proofs.lemmas.Option.{same_Some, slice_get_within}
use Rattle.task_syntax.specs.declared.program.Program.{Program}
use Rattle.record_core.specs.Numbers.{by_number, found}
use Rattle.record_core.specs.declared.rows.ActivationRow.{ActivationRow}
use Rattle.run_model.specs.State.{Run}
use Rattle.run_model.specs.Step.{priority_of}
use Rattle.run_model.proofs.ByNumber.{has_some}
use Rattle.run_model.proofs.NumbersInvariant.{NumbersHeld, times_ready, not_started}
use Rattle.run_model.proofs.QueueFacts.{row_of_number}
use Rattle.plain_state.specs.declared.record.Record.{Record}
use Rattle.plain_state.specs.Store.{HasPlaces, units_of}
use Rattle.plain_state.specs.Engine.{EngineState}
use Rattle.plain_state.specs.Sees.{Sees, InUse, AreUnitsOf, unit_of, unit_of_row, unit_of_number, times}
use Rattle.plain_state.proofs.Units.{unit_from}
use Rattle.plain_state.proofs.References.{in_use_open}
use Rattle.plain_state.proofs.QueueRoom.{number_named, named_once, few_below, times_append}
use Rattle.plain_state.proofs.ReadySeen.{AreNames}

-- a number that has not started: the record of its task stands at its unit
pub record SeenNumber (hand : List ℕ) (e : EngineState) (r : Run) (n : ℕ) : Type 0 where
  pub row : ActivationRow
  pub unit : ℕ
  pub there : by_number r.journal.rows n ≡ Some row
  pub waits : row.start ≡ None
  pub used : InUse hand r row.task
  pub at : unit_of r.blocks row.task ≡ Some unit
  pub named : unit_of_number r n ≡ Some unit
  pub known : Record
  pub stands : slice_get e.store.records unit ≡ Some known
  pub task : known.task ≡ row.task
  pub number : known.number ≡ n
  pub priority : known.priority ≡ priority_of r.priorities n

-- a row counts once at most
pub not_twice : (o : Option ActivationRow) → not_started o ≤ 1
not_twice None = omega arith
not_twice (Some row) = by row.start
  where
    by : (s : Option ℕ) → elim s [ None ↦ 1 | Some x ↦ 0 ] ≤ 1
    by None = omega arith
    by (Some x) = omega arith

-- two lists of names, one after the other
names_append : (f : ℕ → Option ℕ) (us vs ns ms : List ℕ) → AreNames f us ns → AreNames f vs ms → AreNames f (us ++ vs) (ns ++ ms)
names_append f us vs ns ms e g = map-append f ns ms ∙ ap (λ xs. xs ++ map f ms) e ∙ ap (λ xs. map (λ u. Some u) us ++ xs) g ∙ sym (map-append (λ u. Some u) us vs)

-- and their length
two_lengths : (xs ys : List ℕ) → length (xs ++ ys) ≡ length xs + length ys
two_lengths [] ys = omega arith
two_lengths (x ∷ xs) ys = omega (arith, two_lengths xs ys)

module _ (p : Program) (units : ℕ) (hand : List ℕ) (own : Option (ℕ × List ℕ)) (e : EngineState) (r : Run) (sees : Sees p units hand own e r) (drawn : List ℕ) (held : NumbersHeld r drawn) where
  -- the task of a number that has not started is under way
  pub waiting_body : (n : ℕ) (row : ActivationRow) → by_number r.journal.rows n ≡ Some row → row.start ≡ None → (body : _) × (found r.bodies row.task ≡ Some body)
  waiting_body n row there waits =
      let task = (held.of_tasks n row there).of_task in
      let none = held.live.is_open row.task n row (record { there = there; of_task = refl; live = inl waits }) in
      has_some (found r.bodies row.task) ((held.live.has_body row.task task).1 none)

  -- it is seen
  pub seen_number : (n : ℕ) (row : ActivationRow) → by_number r.journal.rows n ≡ Some row → row.start ≡ None → SeenNumber hand e r n
  seen_number n row there waits =
      let (body, has) = waiting_body n row there waits in
      let used = in_use_open hand r row.task body has in
      let seen = sees.tasks row.task used in
      let current = seen.number n row (record { there = there; of_task = refl; current = inl waits }) in
      let at = unit_from r.blocks row.task seen.block seen.has_block in record {
        row = row;
        unit = seen.block.unit;
        there = there;
        waits = waits;
        used = used;
        at = at;
        named = ap (unit_of_row r.blocks) there ∙ at;
        known = seen.known;
        stands = seen.there;
        task = seen.task;
        number = current.0;
        priority = current.1;
      }

  -- one that is counted among those that have not started
  pub seen_counted : (n : ℕ) → 1 ≤ not_started (by_number r.journal.rows n) → SeenNumber hand e r n
  seen_counted n some = let (row, there, waits) = row_of_number (by_number r.journal.rows n) some in seen_number n row there waits

  -- two of one unit are one
  pub one_number : (n m unit : ℕ) → SeenNumber hand e r n → SeenNumber hand e r m → unit_of_number r n ≡ Some unit → unit_of_number r m ≡ Some unit → n ≡ m
  one_number n m unit one other at_n at_m =
      let first : one.unit ≡ unit = same_Some one.unit unit (sym one.named ∙ at_n) in
      let second : other.unit ≡ unit = same_Some other.unit unit (sym other.named ∙ at_m) in
      let same : one.known ≡ other.known = same_Some one.known other.known (sym one.stands ∙ ap (slice_get e.store.records) (first ∙ sym second) ∙ other.stands) in
      sym one.number ∙ ap (λ (k : Record). k.number) same ∙ other.number

  -- there is room in the queues for numbers that have not started
  pub room : (more us : List ℕ) → AreUnitsOf r us more → ((n : ℕ) → times n more + times_ready n r.ready ≤ not_started (by_number r.journal.rows n)) → HasPlaces e.store (length us)
  room more us are few =
      let ns = more ++ (r.ready.high ++ (r.ready.regular ++ r.ready.low)) in
      let vs = us ++ (e.store.ready.high ++ (e.store.ready.regular ++ e.store.ready.low)) in
      let names : AreNames (unit_of_number r) vs ns =
      names_append (unit_of_number r) us (e.store.ready.high ++ (e.store.ready.regular ++ e.store.ready.low)) more (r.ready.high ++ (r.ready.regular ++ r.ready.low)) are
      (names_append (unit_of_number r) e.store.ready.high (e.store.ready.regular ++ e.store.ready.low) r.ready.high (r.ready.regular ++ r.ready.low) sees.high
      (names_append (unit_of_number r) e.store.ready.regular e.store.ready.low r.ready.regular r.ready.low sees.regular sees.low)) in
      let bound = few_below (units_of e.store) vs (named_once (unit_of_number r) ns vs names (λ n m u there other. one_number n m u (counted n there) (counted m other)) (λ n. omega (arith, all n, not_twice (by_number r.journal.rows n))))
      (λ u some. let (n, there, named) = number_named (unit_of_number r) ns vs u names some in within u (counted n there) (same_Some (counted n there).unit u (sym (counted n there).named ∙ named))) in
      omega (arith, bound, two_lengths us (e.store.ready.high ++ (e.store.ready.regular ++ e.store.ready.low)), two_lengths e.store.ready.high (e.store.ready.regular ++ e.store.ready.low), two_lengths e.store.ready.regular e.store.ready.low)
    where
      all : (n : ℕ) → times n (more ++ (r.ready.high ++ (r.ready.regular ++ r.ready.low))) ≤ not_started (by_number r.journal.rows n)
      all n =
          let one : times n (more ++ (r.ready.high ++ (r.ready.regular ++ r.ready.low))) ≡ times n more + times n (r.ready.high ++ (r.ready.regular ++ r.ready.low)) = times_append n more (r.ready.high ++ (r.ready.regular ++ r.ready.low)) in
          let two : times n (r.ready.high ++ (r.ready.regular ++ r.ready.low)) ≡ times n r.ready.high + times n (r.ready.regular ++ r.ready.low) = times_append n r.ready.high (r.ready.regular ++ r.ready.low) in
          let three : times n (r.ready.regular ++ r.ready.low) ≡ times n r.ready.regular + times n r.ready.low = times_append n r.ready.regular r.ready.low in
          let most : times n more + (times n r.ready.high + times n r.ready.regular + times n r.ready.low) ≤ not_started (by_number r.journal.rows n) = few n in
          omega (arith, one, two, three, most)

      counted : (n : ℕ) → 1 ≤ times n (more ++ (r.ready.high ++ (r.ready.regular ++ r.ready.low))) → SeenNumber hand e r n
      counted n some = seen_counted n (omega (arith, some, all n))

      within : (u : ℕ) {n : ℕ} (seen : SeenNumber hand e r n) → seen.unit ≡ u → u < units_of e.store
      within u seen same = slice_get_within e.store.records u seen.known (ap (slice_get e.store.records) (sym same) ∙ seen.stands)
