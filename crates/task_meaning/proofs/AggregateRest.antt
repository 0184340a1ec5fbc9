-- What an aggregate under way gives and counts, by the worths of its members.
use Rattle.std.specs.Prelude.{◌≡◌, ℕ, zero, suc, ◌+◌, ◌-◌, ◌<◌, ◌≤◌, ◌⊎◌, ◌↔◌, Option, Some, None, List, [], ◌∷◌, map, length, drop, slice_get}
use Rattle.std.proofs.Common.{refl, sym, ap, subst, ◌∙◌, inl, inr, arith}
use Rattle.task_syntax.specs.Places.{Each}
use Rattle.task_syntax.specs.declared.value.Value.{Value}
use Rattle.task_syntax.specs.declared.value.Value.TheVariants.{Number}
use Rattle.task_syntax.specs.declared.program.Program.{Program}
use Rattle.task_syntax.specs.declared.columns.Columns.{Columns}
use Rattle.task_meaning.specs.Meant.{Counts, Meant, counted, total, nothing, gives, given, adding, with_value, future_at, behind, behind_all}
use Rattle.task_meaning.specs.Frame.{FrameOf, set_future}
use Rattle.task_meaning.specs.Worths.{Accepted, worths}
use Rattle.task_meaning.specs.Acts.{Gathers, ActsAt}
use Rattle.task_meaning.specs.Runs.{HasValue, IsReady}
use Rattle.task_meaning.specs.Leads.{no_counts}
use Rattle.task_meaning.specs.FrameLaws.{WorthGives, HasWorth}
use Rattle.task_meaning.specs.FrameCounts.{RestCounts}
use Rattle.task_meaning.specs.AcceptedLaws.{IsAggregateAt}
use Rattle.task_meaning.specs.AggregateLaws.{MembersGive, MembersCount, HaveWorths, HaveWorthsBefore}
use Rattle.task_meaning.proofs.Lists.{drop-at, drop-past, length-none}
use Rattle.task_meaning.proofs.Ahead.{AllJumpAhead}
use Rattle.task_meaning.proofs.FromRuns.{behind-ready, behind_all-ready}
use Rattle.task_meaning.proofs.Worths.{aggregate-worth}
use Rattle.task_meaning.proofs.Frames.{value_of}
use Rattle.task_meaning.proofs.FrameEnds.{ready-from}
use Rattle.task_meaning.proofs.FrameCounts.{counts_in}
use Rattle.task_meaning.proofs.FrameCountsOn.{accepted_aggregates-counts}

-- what is waited for has a value, or nothing is meant
behind-either : (waits : Option ℕ) (ws : List (Option Value)) (m : Meant) → IsReady ws waits ⊎ (behind waits ws m ≡ nothing)
behind-either None ws m = inl tt
behind-either (Some t) ws m = go (future_at ws t) refl
  where
    go : (o : Option Value) → future_at ws t ≡ o → HasValue ws t ⊎ (with_value (future_at ws t) (λ v. m) ≡ nothing)
    go None e = inr (ap (λ (o : Option Value). with_value o (λ v. m)) e)
    go (Some v) e = inl (v, e)

behind_all-either : (tasks : List ℕ) (ws : List (Option Value)) (m : Meant) → Each tasks (HasValue ws) ⊎ (behind_all tasks ws m ≡ nothing)
behind_all-either [] ws m = inl (λ at t e. absurd (cc e))
behind_all-either (u ∷ tasks) ws m = go (behind-either (Some u) ws (behind_all tasks ws m)) (behind_all-either tasks ws m)
  where
    both : HasValue ws u → Each tasks (HasValue ws) → Each (u ∷ tasks) (HasValue ws)
    both h each zero t e = let s : u ≡ t = cc e in subst (HasValue ws) s h
    both h each (suc at) t e = each at t e

    go : IsReady ws (Some u) ⊎ (behind (Some u) ws (behind_all tasks ws m) ≡ nothing) → Each tasks (HasValue ws) ⊎ (behind_all tasks ws m ≡ nothing)
        → Each (u ∷ tasks) (HasValue ws) ⊎ (behind_all (u ∷ tasks) ws m ≡ nothing)
    go (inr e) each = inr e
    go (inl h) (inl each) = inl (both h each)
    go (inl h) (inr e) = inr (behind-ready (Some u) ws (behind_all tasks ws m) h ∙ e)

-- the tasks have worths from some fuel on
all-ready : (p : Program) (c : Columns) (accepted : List Accepted) (tasks : List ℕ) → HaveWorths p c accepted tasks
    → (m : ℕ) × ((n : ℕ) → m ≤ n → (r : Meant) → behind_all tasks (worths p c n accepted) r ≡ r)
all-ready p c accepted [] h = (0, λ n l r. refl)
all-ready p c accepted (u ∷ tasks) h =
    let (i, first) = ready-from p c accepted (Some u) (h zero u refl) in
    let (j, others) = all-ready p c accepted tasks (λ at t e. h (suc at) t e) in
    (i + j, λ n l r. first n (omega (arith, l)) (behind_all tasks (worths p c n accepted) r) ∙ others n (omega (arith, l)) r)

worth-of_ready : (p : Program) (c : Columns) (n : ℕ) (accepted : List Accepted) (waits : Option ℕ) → IsReady (worths p c n accepted) waits → HasWorth p c accepted waits
worth-of_ready p c n accepted None h = tt
worth-of_ready p c n accepted (Some t) (v, e) = (v, (n, e))

worths-of_ready : (p : Program) (c : Columns) (n : ℕ) (accepted : List Accepted) (tasks : List ℕ) → Each tasks (HasValue (worths p c n accepted)) → HaveWorths p c accepted tasks
worths-of_ready p c n accepted tasks each at t e = worth-of_ready p c n accepted (Some t) (each at t e)

-- what is meant behind a task and others, where something is
WaitsForAll : Program → Columns → List Accepted → Option ℕ → List ℕ → Type 0
WaitsForAll p c accepted waits tasks = HasWorth p c accepted waits × HaveWorths p c accepted tasks

all-behind : (p : Program) (c : Columns) (n : ℕ) (accepted : List Accepted) (waits : Option ℕ) (tasks : List ℕ) (m : Meant)
    → (WaitsForAll p c accepted waits tasks × (behind waits (worths p c n accepted) (behind_all tasks (worths p c n accepted) m) ≡ m))
    ⊎ (behind waits (worths p c n accepted) (behind_all tasks (worths p c n accepted) m) ≡ nothing)
unfolding WaitsForAll
all-behind p c n accepted waits tasks m = go (behind-either waits ws (behind_all tasks ws m)) (behind_all-either tasks ws m)
  where
    ws : List (Option Value)
    ws = worths p c n accepted

    go : IsReady ws waits ⊎ (behind waits ws (behind_all tasks ws m) ≡ nothing) → Each tasks (HasValue ws) ⊎ (behind_all tasks ws m ≡ nothing)
        → (WaitsForAll p c accepted waits tasks × (behind waits ws (behind_all tasks ws m) ≡ m)) ⊎ (behind waits ws (behind_all tasks ws m) ≡ nothing)
    go (inr e) each = inr e
    go (inl h) (inl each) = inl (
      (worth-of_ready p c n accepted waits h, worths-of_ready p c n accepted tasks each),
      behind-ready waits ws (behind_all tasks ws m) h ∙ behind_all-ready tasks ws m each,
    )
    go (inl h) (inr e) = inr (behind-ready waits ws (behind_all tasks ws m) h ∙ e)

all-waited : (p : Program) (c : Columns) (accepted : List Accepted) (waits : Option ℕ) (tasks : List ℕ) → HasWorth p c accepted waits → HaveWorths p c accepted tasks
    → (n : ℕ) × ((m : Meant) → behind waits (worths p c n accepted) (behind_all tasks (worths p c n accepted) m) ≡ m)
all-waited p c accepted waits tasks h hs =
    let (i, first) = ready-from p c accepted waits h in
    let (j, others) = all-ready p c accepted tasks hs in
    (i + j, λ m. first (i + j) (omega arith) (behind_all tasks (worths p c (i + j) accepted) m) ∙ others (i + j) (omega arith) m)

-- what an aggregate means for itself
left-given : (left : ℕ) → adding (counted 0 left) (gives (Number 0)) ≡ given (Number 0) (record { tasks = 0; activations = left })
left-given left =
    let t : 0 + 0 ≡ 0 = omega arith in
    let a : left + 0 ≡ left = omega arith in
    λ i. given (Number 0) (record { tasks = t i; activations = a i })

module _ (p : Program) (c : Columns) (accepted : List Accepted) where
  -- an aggregate under way gives 0, exactly where what it waits for has worths
  pub members_left-value : (waits : Option ℕ) (members : List ℕ) (next : ℕ) (v : Value)
      → MembersGive p c accepted waits members next v
      ↔ (HasWorth p c accepted waits × HaveWorths p c accepted (drop next members) × (Number 0 ≡ v))
  unfolding WaitsForAll
  members_left-value waits members next v = (forth, back)
    where
      m : Meant
      m = adding (counted 0 (length members - next)) (gives (Number 0))

      forth : MembersGive p c accepted waits members next v → HasWorth p c accepted waits × HaveWorths p c accepted (drop next members) × (Number 0 ≡ v)
      forth (n, e) = elim (all-behind p c n accepted waits (drop next members) m) [
        | inl h ↦ let s : Some (Number 0) ≡ Some v = sym (value_of _ _ h.1) ∙ e in (h.0.0, h.0.1, cc s)
        | inr f ↦ let s : None ≡ Some v = sym (value_of _ _ f) ∙ e in absurd (cc s)
      ]

      back : HasWorth p c accepted waits × HaveWorths p c accepted (drop next members) × (Number 0 ≡ v) → MembersGive p c accepted waits members next v
      back (h, hs, s) = let (n, all) = all-waited p c accepted waits (drop next members) h hs in (n, value_of _ _ (all m) ∙ ap Some s)

  -- it counts one activation for each member that is left, exactly where these have worths
  pub members_left-counts : (waits : Option ℕ) (members : List ℕ) (next : ℕ) (k : Counts)
      → MembersCount p c accepted waits members next k
      ↔ (HasWorth p c accepted waits × HaveWorths p c accepted (drop next members) × (record { tasks = 0; activations = length members - next } ≡ k))
  unfolding WaitsForAll
  members_left-counts waits members next k = (forth, back)
    where
      m : Meant
      m = adding (counted 0 (length members - next)) (gives (Number 0))

      left : Counts
      left = record { tasks = 0; activations = length members - next }

      forth : MembersCount p c accepted waits members next k → HasWorth p c accepted waits × HaveWorths p c accepted (drop next members) × (left ≡ k)
      forth (n, e) = elim (all-behind p c n accepted waits (drop next members) m) [
        | inl h ↦
            let s : Some left ≡ Some k = sym (counts_in m (given (Number 0) left) (left-given (length members - next))) ∙ sym (counts_in _ m h.1) ∙ e in
            (h.0.0, h.0.1, cc s)
        | inr f ↦ let s : None ≡ Some k = sym (counts_in _ nothing f) ∙ e in absurd (cc s)
      ]

      back : HasWorth p c accepted waits × HaveWorths p c accepted (drop next members) × (left ≡ k) → MembersCount p c accepted waits members next k
      back (h, hs, s) =
          let (n, all) = all-waited p c accepted waits (drop next members) h hs in
          (n, counts_in _ m (all m) ∙ counts_in m (given (Number 0) left) (left-given (length members - next)) ∙ ap Some s)

  -- an accepted aggregate is worth 0, exactly where each member has a worth
  pub aggregate-worths : (position : ℕ) (members : List ℕ) (v : Value) → IsAggregateAt accepted position members
      → WorthGives p c accepted (suc position) v ↔ (HaveWorths p c accepted members × (Number 0 ≡ v))
  unfolding WaitsForAll
  aggregate-worths position members v is = (forth, back)
    where
      worth : (n : ℕ) → future_at (worths p c n accepted) (suc position) ≡ (behind_all members (worths p c n accepted) (gives (Number 0))).value
      worth n = aggregate-worth p c n accepted position members is.there is.members_earlier

      forth : WorthGives p c accepted (suc position) v → HaveWorths p c accepted members × (Number 0 ≡ v)
      forth (n, e) = elim (all-behind p c n accepted None members (gives (Number 0))) [
        | inl h ↦ let s : Some (Number 0) ≡ Some v = sym (value_of _ _ h.1) ∙ sym (worth n) ∙ e in (h.0.1, cc s)
        | inr f ↦ let s : None ≡ Some v = sym (value_of _ _ f) ∙ sym (worth n) ∙ e in absurd (cc s)
      ]

      back : HaveWorths p c accepted members × (Number 0 ≡ v) → WorthGives p c accepted (suc position) v
      back (hs, s) = let (n, all) = all-waited p c accepted None members tt hs in (n, worth n ∙ value_of _ _ (all (gives (Number 0))) ∙ ap Some s)

module _ (P : ℕ → Type 0) where
  each-first : (u : ℕ) (xs : List ℕ) → P u → Each xs P → Each (u ∷ xs) P
  each-first u xs h hs zero x e = let s : u ≡ x = cc e in subst P s h
  each-first u xs h hs (suc at) x e = hs at x e

  each-split : (xs : List ℕ) (next u : ℕ) → slice_get xs next ≡ Some u → Each xs P → P u × Each (drop (suc next) xs) P
  each-split [] next u e h = absurd (cc e)
  each-split (x ∷ xs) zero u e h = (h zero u e, λ at y f. h (suc at) y f)
  each-split (x ∷ xs) (suc next) u e h = each-split xs next u e (λ at y f. h (suc at) y f)

  each-joined : (xs : List ℕ) (next u : ℕ) → slice_get xs next ≡ Some u → ((at x : ℕ) → at < next → slice_get xs at ≡ Some x → P x) → P u
      → Each (drop (suc next) xs) P → Each xs P
  each-joined [] next u e earlier h later = absurd (cc e)
  each-joined (x ∷ xs) zero u e earlier h later = let s : u ≡ x = cc e in each-first x xs (subst P s h) later
  each-joined (x ∷ xs) (suc next) u e earlier h later =
      each-first x xs (earlier zero x (omega arith) refl) (each-joined xs next u e (λ at y l f. earlier (suc at) y (omega (arith, l)) f) h later)

module _ (p : Program) (c : Columns) (accepted : List Accepted) where
  Worthy : ℕ → Type 0
  Worthy t = HasWorth p c accepted (Some t)

  -- behind the next member it gives what its call gives, where the members before have worths
  pub members-worth : (position : ℕ) (members : List ℕ) (next u : ℕ) (v : Value)
      → IsAggregateAt accepted position members → HaveWorthsBefore p c accepted next members → slice_get members next ≡ Some u
      → WorthGives p c accepted (suc position) v ↔ MembersGive p c accepted (Some u) members (suc next) v
  unfolding Worthy
  members-worth position members next u v is earlier e =
      let worth = aggregate-worths p c accepted position members v is in
      let left = members_left-value p c accepted (Some u) members (suc next) v in (
        λ g. let (hs, s) = worth.0 g in let (h, later) = each-split Worthy members next u e hs in left.1 (h, later, s),
        λ g. let (h, later, s) = left.0 g in worth.1 (each-joined Worthy members next u e earlier h later, s),
      )

  worths-next : (members : List ℕ) (next u : ℕ) → slice_get members next ≡ Some u
      → HaveWorths p c accepted (drop next members) ↔ (HasWorth p c accepted (Some u) × HaveWorths p c accepted (drop (suc next) members))
  unfolding Worthy
  worths-next members next u e =
      let (s, l) = drop-at members next u e in (
        λ hs. let hs' = subst (λ (xs : List ℕ). Each xs Worthy) s hs in (hs' zero u refl, λ at t f. hs' (suc at) t f),
        λ h. subst (λ (xs : List ℕ). Each xs Worthy) (sym s) (each-first Worthy u (drop (suc next) members) h.0 h.1),
      )

  -- it gives the same behind its next member
  pub members-next : (waits : Option ℕ) (members : List ℕ) (next u : ℕ) (v : Value) → slice_get members next ≡ Some u → HasWorth p c accepted waits
      → MembersGive p c accepted waits members next v ↔ MembersGive p c accepted (Some u) members (suc next) v
  members-next waits members next u v e h =
      let here = members_left-value p c accepted waits members next v in
      let there = members_left-value p c accepted (Some u) members (suc next) v in
      let step = worths-next members next u e in (
        λ g. let (h', hs, s) = here.0 g in let (w, later) = step.0 hs in there.1 (w, later, s),
        λ g. let (w, later, s) = there.0 g in here.1 (h, step.1 (w, later), s),
      )

  -- going on behind its next member counts one activation
  pub members-next_counts : (waits : Option ℕ) (members : List ℕ) (next u : ℕ) (k : Counts) → slice_get members next ≡ Some u → HasWorth p c accepted waits
      → MembersCount p c accepted waits members next k
      ↔ ((j : Counts) × MembersCount p c accepted (Some u) members (suc next) j × (k ≡ total (record { tasks = 0; activations = 1 }) j))
  members-next_counts waits members next u k e h =
      let here = members_left-counts p c accepted waits members next k in
      let there = λ (j : Counts). members_left-counts p c accepted (Some u) members (suc next) j in
      let step = worths-next members next u e in (
        λ g. let (h', hs, s) = here.0 g in let (w, later) = step.0 hs in (after, (there after).1 (w, later, refl), sym s ∙ one_more),
        λ g. let (j, r, s) = g in let (w, later, t) = (there j).0 r in here.1 (h, step.1 (w, later), one_more ∙ ap (total start) t ∙ sym s),
      )
    where
      start : Counts
      start = record { tasks = 0; activations = 1 }

      after : Counts
      after = record { tasks = 0; activations = length members - suc next }

      one_more : record { tasks = 0; activations = length members - next } ≡ total start after
      one_more =
          let l : next < length members = (drop-at members next u e).1 in
          let t : 0 ≡ 0 + 0 = omega arith in
          let a : length members - next ≡ 1 + (length members - suc next) = omega (arith, l) in
          λ i. record { tasks = t i; activations = a i }

  worths-none : (members : List ℕ) (next : ℕ) → slice_get members next ≡ None → HaveWorths p c accepted (drop next members)
  unfolding Worthy
  worths-none members next e = subst (λ (xs : List ℕ). Each xs Worthy) (sym (drop-past members next (length-none members next e))) (λ at t f. absurd (cc f))

  -- without a further member it gives 0
  pub members-end : (waits : Option ℕ) (members : List ℕ) (next : ℕ) (v : Value) → slice_get members next ≡ None → HasWorth p c accepted waits
      → MembersGive p c accepted waits members next v ↔ (Number 0 ≡ v)
  members-end waits members next v e h =
      let here = members_left-value p c accepted waits members next v in
      (λ g. (here.0 g).2, λ s. here.1 (h, worths-none members next e, s))

  -- without a further member it counts no more
  pub members-end_counts : (waits : Option ℕ) (members : List ℕ) (next : ℕ) (k : Counts) → slice_get members next ≡ None → HasWorth p c accepted waits
      → MembersCount p c accepted waits members next k ↔ (no_counts ≡ k)
  members-end_counts waits members next k e h =
      let here = members_left-counts p c accepted waits members next k in
      let l : length members ≤ next = length-none members next e in
      let a : 0 ≡ length members - next = omega (arith, l) in
      let none : no_counts ≡ record { tasks = 0; activations = length members - next } = (λ i. record { tasks = 0; activations = a i }) in
      (λ g. none ∙ (here.0 g).2, λ s. here.1 (h, worths-none members next e, sym none ∙ s))

  -- the line of an aggregate counts a task, an activation, the aggregate behind its first member, and the next frame
  pub members-begin : AllJumpAhead p → (position : ℕ) (waits : Option ℕ) (q : FrameOf ℕ) (to : ℕ) (members tasks : List ℕ) (u : ℕ) (k : Counts)
      → ActsAt p c q (Gathers to members) → map (future_at q.futures) members ≡ map Some tasks → IsAggregateAt accepted position tasks → slice_get tasks 0 ≡ Some u
      → RestCounts p c accepted waits q k
      ↔ ((i : Counts) × (j : Counts) × MembersCount p c accepted (Some u) tasks 1 i × RestCounts p c accepted waits (set_future q to (Some (suc position))) j
      × (k ≡ total (record { tasks = 1; activations = 1 }) (total i j)))
  unfolding Worthy
  members-begin ahead position waits q to members tasks u k at named is e =
      let line = accepted_aggregates-counts p c ahead accepted position waits q to members tasks k at named is in
      let worth = aggregate-worths p c accepted position tasks (Number 0) is in
      let left = λ (i : Counts). members_left-counts p c accepted (Some u) tasks 1 i in (
        λ g.
            let (j, w, r, s) = line.0 g in
            let (hs, s') = worth.0 w in
            let (h, later) = each-split Worthy tasks 0 u e hs in
            (after, j, (left after).1 (h, later, refl), r, s ∙ adds_up j),
        λ g.
            let (i, j, m, r, s) = g in
            let (h, later, t) = (left i).0 m in
            line.1 (
              j,
              worth.1 (each-joined Worthy tasks 0 u e (λ i t l f. absurd (omega (arith, l))) h later, refl),
              r,
              s ∙ ap (λ (x : Counts). total first (total x j)) (sym t) ∙ sym (adds_up j),
            ),
      )
    where
      first : Counts
      first = record { tasks = 1; activations = 1 }

      after : Counts
      after = record { tasks = 0; activations = length tasks - 1 }

      adds_up : (j : Counts) → total (record { tasks = 1; activations = length tasks }) j ≡ total first (total after j)
      adds_up j =
          let l : 0 < length tasks = (drop-at tasks 0 u e).1 in
          let t : 1 + j.tasks ≡ 1 + (0 + j.tasks) = omega arith in
          let a : length tasks + j.activations ≡ 1 + (length tasks - 1 + j.activations) = omega (arith, l) in
          λ i. record { tasks = t i; activations = a i }
