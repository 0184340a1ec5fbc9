-- Queues of numbers, and the same queues of their names.
use Rattle.std.proofs.Common.{◌≡◌, ℕ, Option, Some, None, List, [], ◌∷◌, ◌++◌, length, map, refl, sym, ◌∙◌, ap}
use Rattle.std.proofs.lemmas.List.{map-append}
use Rattle.std.proofs.lemmas.Option.{none-some, some_pair_parts}
use Rattle.task_syntax.specs.declared.value.Priority.{Priority}
use Rattle.task_syntax.specs.declared.value.Priority.TheVariants.{High, Regular, Low}
use Rattle.run_model.specs.State.{Queues, queued, next_queued, first_queued}
use Rattle.plain_state.proofs.QueueRoom.{cons_parts}

module _ (f : ℕ → Option ℕ) where
  -- these are the names of those
  abbrev pub AreNames : List ℕ → List ℕ → Type 0
  AreNames us ns = map f ns ≡ map (λ u. Some u) us

  -- the same of each of the three queues
  pub record QueuesSeen (us ns : Queues) : Type 0 where
    pub high : AreNames us.high ns.high
    pub regular : AreNames us.regular ns.regular
    pub low : AreNames us.low ns.low

  -- one more at the end
  names_snoc : (us ns : List ℕ) (u n : ℕ) → f n ≡ Some u → AreNames us ns → AreNames (us ++ u ∷ []) (ns ++ n ∷ [])
  names_snoc us ns u n named e = map-append f ns (n ∷ []) ∙ ap (λ xs. xs ++ f n ∷ []) e ∙ ap (λ o. map (λ v. Some v) us ++ o ∷ []) named ∙ sym (map-append (λ v. Some v) us (u ∷ []))

  -- one more in a queue
  pub queued_seen : (priority : Priority) (us ns : Queues) (u n : ℕ) → f n ≡ Some u → QueuesSeen us ns → QueuesSeen (queued priority u us) (queued priority n ns)
  queued_seen High us ns u n named seen = record { high = names_snoc us.high ns.high u n named seen.high; regular = seen.regular; low = seen.low }
  queued_seen Regular us ns u n named seen = record { high = seen.high; regular = names_snoc us.regular ns.regular u n named seen.regular; low = seen.low }
  queued_seen Low us ns u n named seen = record { high = seen.high; regular = seen.regular; low = names_snoc us.low ns.low u n named seen.low }

  -- a number without a name
  no_name : (n : ℕ) (ns : List ℕ) → AreNames [] (n ∷ ns) → ⊥
  no_name n ns e = differ e
    where
      differ : ◌≡◌ {A = List (Option ℕ)} (f n ∷ map f ns) [] → ⊥
      differ h = cc

  -- a name without a number
  no_number : (u : ℕ) (us : List ℕ) → AreNames (u ∷ us) [] → ⊥
  no_number u us e = differ e
    where
      differ : ◌≡◌ {A = List (Option ℕ)} [] (Some u ∷ map (λ v. Some v) us) → ⊥
      differ h = cc

  -- what is next by names is next by numbers
  pub record NextSeen (ns : Queues) (u : ℕ) (left : Queues) : Type 0 where
    pub number : ℕ
    pub rest : Queues
    pub next : next_queued ns ≡ Some (number, rest)
    pub named : f number ≡ Some u
    pub seen : QueuesSeen left rest

  -- queue by queue
  next_by : (uh ur ul nh nr nl : List ℕ) (u : ℕ) (left : Queues) → AreNames uh nh → AreNames ur nr → AreNames ul nl
      → first_queued uh ur ul ≡ Some (u, left) → NextSeen (record { high = nh; regular = nr; low = nl }) u left
  next_by (v ∷ uh) ur ul [] nr nl u left high regular low e = absurd (no_number v uh high)
  next_by (v ∷ uh) ur ul (n ∷ nh) nr nl u left high regular low e =
      let (head, tail) = cons_parts (f n) (Some v) (map f nh) (map (λ w. Some w) uh) high in
      let (is_u, is_left) = some_pair_parts v u (record { high = uh; regular = ur; low = ul }) left e in
      record {
        number = n;
        rest = record { high = nh; regular = nr; low = nl };
        next = refl;
        named = head ∙ ap Some is_u;
        seen = Rattle.std.proofs.Common.subst (λ (q : Queues). QueuesSeen q (record { high = nh; regular = nr; low = nl })) is_left (record { high = tail; regular = regular; low = low });
      }
  next_by [] ur ul (n ∷ nh) nr nl u left high regular low e = absurd (no_name n nh high)
  next_by [] (v ∷ ur) ul [] [] nl u left high regular low e = absurd (no_number v ur regular)
  next_by [] (v ∷ ur) ul [] (n ∷ nr) nl u left high regular low e =
      let (head, tail) = cons_parts (f n) (Some v) (map f nr) (map (λ w. Some w) ur) regular in
      let (is_u, is_left) = some_pair_parts v u (record { high = []; regular = ur; low = ul }) left e in
      record {
        number = n;
        rest = record { high = []; regular = nr; low = nl };
        next = refl;
        named = head ∙ ap Some is_u;
        seen = Rattle.std.proofs.Common.subst (λ (q : Queues). QueuesSeen q (record { high = []; regular = nr; low = nl })) is_left (record { high = refl; regular = tail; low = low });
      }
  next_by [] [] ul [] (n ∷ nr) nl u left high regular low e = absurd (no_name n nr regular)
  next_by [] [] (v ∷ ul) [] [] [] u left high regular low e = absurd (no_number v ul low)
  next_by [] [] (v ∷ ul) [] [] (n ∷ nl) u left high regular low e =
      let (head, tail) = cons_parts (f n) (Some v) (map f nl) (map (λ w. Some w) ul) low in
      let (is_u, is_left) = some_pair_parts v u (record { high = []; regular = []; low = ul }) left e in
      record {
        number = n;
        rest = record { high = []; regular = []; low = nl };
        next = refl;
        named = head ∙ ap Some is_u;
        seen = Rattle.std.proofs.Common.subst (λ (q : Queues). QueuesSeen q (record { high = []; regular = []; low = nl })) is_left (record { high = refl; regular = refl; low = tail });
      }
  next_by [] [] [] [] [] nl u left high regular low e = absurd (none-some (u, left) e)

  -- the queue that is the next one, and what is left
  pub next_seen : (us ns : Queues) (u : ℕ) (left : Queues) → QueuesSeen us ns → next_queued us ≡ Some (u, left) → NextSeen ns u left
  next_seen us ns u left seen e = next_by us.high us.regular us.low ns.high ns.regular ns.low u left seen.high seen.regular seen.low e

  -- where all queues are empty
  none_by : (uh ur ul nh nr nl : List ℕ) → AreNames uh nh → AreNames ur nr → AreNames ul nl → first_queued uh ur ul ≡ None → first_queued nh nr nl ≡ None
  none_by (v ∷ uh) ur ul nh nr nl high regular low e = absurd (none-some (v, record { high = uh; regular = ur; low = ul }) (sym e))
  none_by [] (v ∷ ur) ul nh nr nl high regular low e = absurd (none-some (v, record { high = []; regular = ur; low = ul }) (sym e))
  none_by [] [] (v ∷ ul) nh nr nl high regular low e = absurd (none-some (v, record { high = []; regular = []; low = ul }) (sym e))
  none_by [] [] [] (n ∷ nh) nr nl high regular low e = absurd (no_name n nh high)
  none_by [] [] [] [] (n ∷ nr) nl high regular low e = absurd (no_name n nr regular)
  none_by [] [] [] [] [] (n ∷ nl) high regular low e = absurd (no_name n nl low)
  none_by [] [] [] [] [] [] high regular low e = refl

  -- where none is next by names, none is by numbers
  pub none_seen : (us ns : Queues) → QueuesSeen us ns → next_queued us ≡ None → next_queued ns ≡ None
  none_seen us ns seen e = none_by us.high us.regular us.low ns.high ns.regular ns.low seen.high seen.regular seen.low e
