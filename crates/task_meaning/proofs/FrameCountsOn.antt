-- What is still counted at an aggregate, a read, a respawn, and where the task ends.
use Rattle.std.specs.Prelude.{◌≡◌, ℕ, zero, suc, ◌+◌, ◌≤◌, ◌↔◌, Option, Some, None, List, [], ◌∷◌, ◌++◌, map, length}
use Rattle.std.proofs.Common.{refl, sym, ap, subst, ◌∙◌, arith}
use Rattle.task_syntax.specs.Places.{Each}
use Rattle.task_syntax.specs.declared.value.Value.{Value}
use Rattle.task_syntax.specs.declared.value.Value.TheVariants.{Number}
use Rattle.task_syntax.specs.declared.program.Program.{Program}
use Rattle.task_syntax.specs.declared.columns.Columns.{Columns}
use Rattle.task_meaning.specs.Meant.{Counts, Meant, counted, total, gives, given, adding, with_value, future_at, behind, behind_all}
use Rattle.task_meaning.specs.Frame.{FrameOf, Place, enter, set_number, set_future, renamed}
use Rattle.task_meaning.specs.Meaning.{with_child, rest}
use Rattle.task_meaning.specs.Worths.{Accepted, OfAll, Respawn, worth_of, worths, place_in, rest_of}
use Rattle.task_meaning.specs.Acts.{Gathers, Reads, Respawns, Finishes, ActsAt}
use Rattle.task_meaning.specs.Runs.{HasValue, IsTrap}
use Rattle.task_meaning.specs.Leads.{no_counts}
use Rattle.task_meaning.specs.FrameLaws.{WorthGives, HasWorth, NamesTask, task_waited, NamesAccepted}
use Rattle.task_meaning.specs.FrameCounts.{RestCounts}
use Rattle.task_meaning.specs.AcceptedLaws.{IsAggregateAt}
use Rattle.task_meaning.proofs.Grows.{Stays-at, AllStay, Within-counted, Within-behind}
use Rattle.task_meaning.proofs.Ahead.{AllJumpAhead}
use Rattle.task_meaning.proofs.Complete.{complete-behind_all}
use Rattle.task_meaning.proofs.FromRuns.{given-later, rest-acts, behind-ready, behind_all-ready, child-given, trap-ends}
use Rattle.task_meaning.proofs.ToRuns.{behind-given, behind_all-given, adding-given, with_child-given}
use Rattle.task_meaning.proofs.GoesOn.{aggregate-given}
use Rattle.task_meaning.proofs.Renaming.{enter-renamed}
use Rattle.task_meaning.proofs.Worths.{worths-stay, acts-in}
use Rattle.task_meaning.proofs.Frames.{aggregate-worth_at, next-rest, last-aggregate, behind-task, value_of}
use Rattle.task_meaning.proofs.FrameEnds.{ready-from, worth-later, read-acts, named-at, enter-names}
use Rattle.task_meaning.proofs.FrameCounts.{counts_in, within-given, place-within, rest_of-within, whole, grown-counts}

-- more fuel gives a frame the same counts
pub counts-later : (p : Program) (c : Columns) (n m : ℕ) (accepted : List Accepted) (waits : Option ℕ) (q : FrameOf ℕ) (k : Counts) → n ≤ m
    → (rest_of p c n accepted waits q).counts ≡ Some k → (rest_of p c m accepted waits q).counts ≡ Some k
counts-later p c n m accepted waits q k l e = Stays-at _ _ (rest_of-within p c n m l accepted waits q).counts k e

-- a read of a task that is worth a number counts nothing
pub reads-counts : (p : Program) (c : Columns) → AllJumpAhead p → (accepted : List Accepted) (waits : Option ℕ) (q : FrameOf ℕ) (to x t i : ℕ) (k : Counts)
    → ActsAt p c q (Reads to x) → future_at q.futures x ≡ Some t → WorthGives p c accepted t (Number i)
    → RestCounts p c accepted waits q k ↔ RestCounts p c accepted waits (set_number q to i) k
reads-counts p c ahead accepted waits q to x t i k at named (m, e) = (forth, back)
  where
    same : (n : ℕ) → (rest_of p c (suc (n + m)) accepted waits q).counts ≡ (rest_of p c (suc (n + m)) accepted waits (set_number q to i)).counts
    same n = ap (λ (r : Meant). (behind waits (worths p c (suc (n + m)) accepted) r).counts)
        (read-acts p c ahead (n + m) accepted q to x t (Number i) at named (worth-later p c m (suc (n + m)) accepted t (Number i) (omega arith) e))

    forth : RestCounts p c accepted waits q k → RestCounts p c accepted waits (set_number q to i) k
    forth (n, f) = (suc (n + m), sym (same n) ∙ counts-later p c n (suc (n + m)) accepted waits q k (omega arith) f)

    back : RestCounts p c accepted waits (set_number q to i) k → RestCounts p c accepted waits q k
    back (n, f) = (suc (n + m), same n ∙ counts-later p c n (suc (n + m)) accepted waits (set_number q to i) k (omega arith) f)

-- a frame counts no more, where it is so from some fuel on
no-more : (p : Program) (c : Columns) (accepted : List Accepted) (waits : Option ℕ) (q : FrameOf ℕ) (k : Counts) (m : ℕ)
    → ((n : ℕ) → m ≤ n → (rest_of p c (suc n) accepted waits q).counts ≡ Some no_counts) → RestCounts p c accepted waits q k ↔ (no_counts ≡ k)
no-more p c accepted waits q k m h = (forth, λ s. (suc m, h m (omega arith) ∙ ap Some s))
  where
    forth : RestCounts p c accepted waits q k → no_counts ≡ k
    forth (n, e) =
        let f : Some no_counts ≡ Some k = sym (h (n + m) (omega arith)) ∙ counts-later p c n (suc (n + m)) accepted waits q k (omega arith) e in
        cc f

-- where a task ends by its own act, no more is counted
pub ends-counts_rest : (p : Program) (c : Columns) → AllJumpAhead p → (accepted : List Accepted) (waits : Option ℕ) (q : FrameOf ℕ) (w : Value) (k : Counts)
    → ActsAt p c q (Finishes w) → HasWorth p c accepted waits → RestCounts p c accepted waits q k ↔ (no_counts ≡ k)
ends-counts_rest p c ahead accepted waits q w k at h =
    let (m, ready) = ready-from p c accepted waits h in
    no-more p c accepted waits q k m (λ n l.
    counts_in _ _ (ready (suc n) (omega (arith, l)) (rest p c (suc n) (place_in (worths p c (suc n) accepted) q))
    ∙ rest-acts p c n _ (Finishes w) ahead (acts-in p c (worths p c (suc n) accepted) q (Finishes w) at)))

-- where a task ends by a trap that it reads, no more is counted
pub traps-counts_rest : (p : Program) (c : Columns) → AllJumpAhead p → (accepted : List Accepted) (waits : Option ℕ) (q : FrameOf ℕ) (to x t : ℕ) (w : Value) (k : Counts)
    → ActsAt p c q (Reads to x) → future_at q.futures x ≡ Some t → WorthGives p c accepted t w → IsTrap w → HasWorth p c accepted waits
    → RestCounts p c accepted waits q k ↔ (no_counts ≡ k)
traps-counts_rest p c ahead accepted waits q to x t w k at named (m', e) trap h =
    let (m, ready) = ready-from p c accepted waits h in
    no-more p c accepted waits q k (m + m') (λ n l.
    counts_in _ _ (ready (suc n) (omega (arith, l)) (rest p c (suc n) (place_in (worths p c (suc n) accepted) q))
    ∙ read-acts p c ahead n accepted q to x t w at named (worth-later p c m' (suc n) accepted t w (omega (arith, l)) e)
    ∙ trap-ends w _ trap))

-- a respawn in a frame
respawn-whole : (p : Program) (c : Columns) → AllJumpAhead p → (n : ℕ) (ws : List (Option Value)) (q : FrameOf ℕ) (target : ℕ) (x : Option ℕ)
    → ActsAt p c q (Respawns target x) → NamesTask q x
    → rest p c (suc n) (place_in ws q) ≡ behind (task_waited q x) ws (adding (counted 0 1) (rest p c n (place_in ws (enter p q target))))
respawn-whole p c ahead n ws q target x at held =
    rest-acts p c n (place_in ws q) (Respawns target x) ahead (acts-in p c ws q (Respawns target x) at)
    ∙ behind-task ws q x held (adding (counted 0 1) (rest p c n (enter p (place_in ws q) target)))
    ∙ ap (λ (r : Place). behind (task_waited q x) ws (adding (counted 0 1) (rest p c n r))) (sym (enter-renamed (future_at ws) p q target))

abbrev start : Counts
start = record { tasks = 0; activations = 1 }

module _ (p : Program) (c : Columns) (ahead : AllJumpAhead p) (accepted : List Accepted) (waits : Option ℕ) (q : FrameOf ℕ) (target : ℕ) (x : Option ℕ)
    (at : ActsAt p c q (Respawns target x)) (held : NamesTask q x) where
  respawn-forth : (k : Counts) → RestCounts p c accepted waits q k
      → (j : Counts) × RestCounts p c accepted (task_waited q x) (enter p q target) j × (k ≡ total start j)
  respawn-forth k (n, e) =
      let ws : List (Option Value) = worths p c (suc n) accepted in
      let next : FrameOf ℕ = enter p q target in
      let (v, f) = whole p c n (suc n) accepted waits q k (omega arith) e in
      let (ready, g) = behind-given waits ws (rest p c (suc n) (place_in ws q)) v k f in
      let (ready', d) = behind-given (task_waited q x) ws (adding (counted 0 1) (rest p c n (place_in ws next))) v k
      (sym (respawn-whole p c ahead n ws q target x at held) ∙ g) in
      let (i, j, u, r, s) = adding-given (counted 0 1) (rest p c n (place_in ws next)) v k d in
      let u' : start ≡ i = cc u in
      let first : rest_of p c (suc n) accepted (task_waited q x) next ≡ given v j
      = behind-ready (task_waited q x) ws (rest p c (suc n) (place_in ws next)) ready' ∙ given-later p c n (suc n) (place_in ws next) v j (omega arith) r in
      (j, (suc n, counts_in _ (given v j) first), s ∙ ap (λ (b : Counts). total b j) (sym u'))

  respawn-back : HasWorth p c accepted waits → (k : Counts)
      → (j : Counts) × RestCounts p c accepted (task_waited q x) (enter p q target) j × (k ≡ total start j)
      → RestCounts p c accepted waits q k
  respawn-back h k (j, (n, e), s) =
      let (m, ready) = ready-from p c accepted waits h in
      let most : ℕ = n + m in
      let vs : List (Option Value) = worths p c most accepted in
      let ws : List (Option Value) = worths p c (suc most) accepted in
      let next : FrameOf ℕ = enter p q target in
      let (v, f) = whole p c n most accepted (task_waited q x) next j (omega arith) e in
      let (ready', g) = behind-given (task_waited q x) vs (rest p c most (place_in vs next)) v j f in
      let grows : AllStay vs ws = worths-stay p c most (suc most) (omega arith) accepted in
      let there : behind (task_waited q x) ws (adding (counted 0 1) (rest p c most (place_in ws next))) ≡ given v (total start j)
      = within-given (behind (task_waited q x) vs (adding (counted 0 1) (rest p c most (place_in vs next)))) _ v (total start j)
      (Within-behind (task_waited q x) vs ws _ _ grows (Within-counted 0 1 _ _ (place-within p c most most (omega arith) vs ws grows next)))
      (behind-ready (task_waited q x) vs (adding (counted 0 1) (rest p c most (place_in vs next))) ready' ∙ ap (adding (counted 0 1)) g) in
      let end : rest_of p c (suc most) accepted waits q ≡ given v (total start j)
      = ready (suc most) (omega arith) (rest p c (suc most) (place_in ws q)) ∙ respawn-whole p c ahead most ws q target x at held ∙ there in
      (suc most, counts_in _ (given v (total start j)) end ∙ ap Some (sym s))

-- at a respawn, whatever was accepted, and at one that is accepted now
pub accepted_respawns-counts : (p : Program) (c : Columns) → AllJumpAhead p → (accepted : List Accepted) (waits : Option ℕ) (q : FrameOf ℕ) (target : ℕ) (x : Option ℕ) (k : Counts)
    → ActsAt p c q (Respawns target x) → NamesTask q x → HasWorth p c accepted waits
    → RestCounts p c accepted waits q k
    ↔ ((j : Counts) × RestCounts p c accepted (task_waited q x) (enter p q target) j × (k ≡ total start j))
accepted_respawns-counts p c ahead accepted waits q target x k at held h =
    (respawn-forth p c ahead accepted waits q target x at held k, respawn-back p c ahead accepted waits q target x at held h k)

-- at a respawn that is accepted now
pub respawns-counts : (p : Program) (c : Columns) → AllJumpAhead p → (accepted : List Accepted) (waits : Option ℕ) (q : FrameOf ℕ) (target task : ℕ) (x : Option ℕ) (k : Counts)
    → NamesAccepted accepted waits q → ActsAt p c q (Respawns target x) → NamesTask q x → HasWorth p c accepted waits
    → RestCounts p c accepted waits q k
    ↔ ((j : Counts) × RestCounts p c (accepted ++ Respawn task (task_waited q x) ∷ []) (task_waited q x) (enter p q target) j × (k ≡ total start j))
respawns-counts p c ahead accepted waits q target task x k names at held h =
    let both = accepted_respawns-counts p c ahead accepted waits q target x k at held h in
    let grown = λ (j : Counts). grown-counts p c accepted (Respawn task (task_waited q x)) (task_waited q x) (enter p q target) j (enter-names p accepted q target x names.0) in
    (λ g. let (j, r, s) = both.0 g in (j, (grown j).0 r, s), λ t. let (j, r, s) = t in both.1 (j, (grown j).1 r, s))

-- what is counted from a frame behind no task, against a task with a worth
pub retries-counts : (p : Program) (c : Columns) (accepted : List Accepted) (waits : Option ℕ) (q : FrameOf ℕ) (k : Counts) → HasWorth p c accepted waits
    → RestCounts p c accepted None q k ↔ RestCounts p c accepted waits q k
retries-counts p c accepted waits q k h =
    let (m, ready) = ready-from p c accepted waits h in (
      λ g. (
        g.0 + m,
        counts_in _ _ (ready (g.0 + m) (omega arith) (rest p c (g.0 + m) (place_in (worths p c (g.0 + m) accepted) q)))
            ∙ counts-later p c g.0 (g.0 + m) accepted None q k (omega arith) g.1,
      ),
      λ g. (
        g.0 + m,
        sym (counts_in _ _ (ready (g.0 + m) (omega arith) (rest p c (g.0 + m) (place_in (worths p c (g.0 + m) accepted) q))))
            ∙ counts-later p c g.0 (g.0 + m) accepted waits q k (omega arith) g.1,
      ),
    )

-- an aggregate in a frame
members-whole : (ws : List (Option Value)) (fs : List (Option ℕ)) (members tasks : List ℕ) → map (future_at fs) members ≡ map Some tasks
    → (m : Meant) → behind_all members (map (renamed (future_at ws)) fs) m ≡ behind_all tasks ws m
members-whole ws fs [] [] e m = refl
members-whole ws fs [] (t ∷ tasks) e m = absurd (cc e)
members-whole ws fs (x ∷ members) [] e m = absurd (cc e)
members-whole ws fs (x ∷ members) (t ∷ tasks) e m =
    let first : future_at fs x ≡ Some t = cc e in
    let others : map (future_at fs) members ≡ map Some tasks = cc e in
    ap (behind (Some x) (map (renamed (future_at ws)) fs)) (members-whole ws fs members tasks others m)
    ∙ ap (λ (o : Option Value). with_value o (λ v. behind_all tasks ws m)) (named-at ws fs x t first)

members-length : (fs : List (Option ℕ)) (members tasks : List ℕ) → map (future_at fs) members ≡ map Some tasks → length members ≡ length tasks
members-length fs [] [] e = refl
members-length fs [] (t ∷ tasks) e = absurd (cc e)
members-length fs (x ∷ members) [] e = absurd (cc e)
members-length fs (x ∷ members) (t ∷ tasks) e =
    let others : map (future_at fs) members ≡ map Some tasks = cc e in ap suc (members-length fs members tasks others)

-- each member has a value, where the aggregate has one
pub members-valued : (ws : List (Option Value)) (tasks : List ℕ) (m : Meant) (v : Value) → (behind_all tasks ws m).value ≡ Some v → Each tasks (HasValue ws)
members-valued ws [] m v e = λ i t f. absurd (cc f)
members-valued ws (u ∷ tasks) m v e = go (members-valued ws tasks m v) (future_at ws u) refl e
  where
    go : ((behind_all tasks ws m).value ≡ Some v → Each tasks (HasValue ws)) → (o : Option Value) → future_at ws u ≡ o
        → (with_value o (λ w. behind_all tasks ws m)).value ≡ Some v → Each (u ∷ tasks) (HasValue ws)
    go more None f g at t h = absurd (cc g)
    go more (Some w) f g zero t h = let s : u ≡ t = cc h in subst (HasValue ws) s (w, f)
    go more (Some w) f g (suc i) t h = more g i t h

aggregate-whole : (p : Program) (c : Columns) → AllJumpAhead p → (n : ℕ) (ws : List (Option Value)) (q : FrameOf ℕ) (to : ℕ) (members tasks : List ℕ)
    → ActsAt p c q (Gathers to members) → map (future_at q.futures) members ≡ map Some tasks
    → rest p c (suc n) (place_in ws q)
    ≡ with_child (behind_all tasks ws (given (Number 0) (record { tasks = 1; activations = length tasks }))) (rest p c (suc n)) (place_in ws q) to
aggregate-whole p c ahead n ws q to members tasks at named =
    rest-acts p c n (place_in ws q) (Gathers to members) ahead (acts-in p c ws q (Gathers to members) at)
    ∙ ap (λ (m : Meant). with_child m (rest p c (suc n)) (place_in ws q) to)
    (members-whole ws q.futures members tasks named (adding (counted 1 (length members)) (gives (Number 0)))
    ∙ ap (behind_all tasks ws) (aggregate-given (length members)
    ∙ ap (λ (l : ℕ). given (Number 0) (record { tasks = 1; activations = l })) (members-length q.futures members tasks named)))

module _ (p : Program) (c : Columns) (ahead : AllJumpAhead p) (accepted : List Accepted) (position : ℕ) (waits : Option ℕ) (q : FrameOf ℕ) (to : ℕ) (members tasks : List ℕ)
    (at : ActsAt p c q (Gathers to members)) (named : map (future_at q.futures) members ≡ map Some tasks) (is : IsAggregateAt accepted position tasks) where
  all_of : Counts
  all_of = record { tasks = 1; activations = length tasks }

  -- the counts of the line are those of the aggregate and of the next frame
  GathersUp : Counts → Type 0
  GathersUp k = (j : Counts) × WorthGives p c accepted (suc position) (Number 0)
      × RestCounts p c accepted waits (set_future q to (Some (suc position))) j × (k ≡ total all_of j)

  aggregate-forth : (k : Counts) → RestCounts p c accepted waits q k → GathersUp k
  unfolding all_of GathersUp
  aggregate-forth k (n, e) =
      let ws : List (Option Value) = worths p c (suc n) accepted in
      let zero_given : Meant = given (Number 0) all_of in
      let (v, f) = whole p c n (suc n) accepted waits q k (omega arith) e in
      let (ready, g) = behind-given waits ws (rest p c (suc n) (place_in ws q)) v k f in
      let (w, i, j, a, b, s) = with_child-given (behind_all tasks ws zero_given) (rest p c (suc n)) (place_in ws q) to v k
      (complete-behind_all tasks ws zero_given (λ l u. (Number 0, refl))) (sym (aggregate-whole p c ahead n ws q to members tasks at named) ∙ g) in
      let (each, a') = behind_all-given tasks ws zero_given w i a in
      let value_is : Some (Number 0) ≡ Some w = value_of _ _ a' in
      let counts_are : Some all_of ≡ Some i = counts_in zero_given (given w i) a' in
      let i_is : all_of ≡ i = cc counts_are in
      let worth : worth_of p c (suc n) ws (OfAll tasks) ≡ Some (Number 0) = value_of _ _ (behind_all-ready tasks ws (gives (Number 0)) each) in
      let second : rest_of p c (suc n) accepted waits (set_future q to (Some (suc position))) ≡ given v j
      = next-rest p c (suc n) accepted position (OfAll tasks) (aggregate-worth_at p c accepted position tasks is) waits q to
      ∙ ap (λ (o : Option Value). behind waits ws (rest p c (suc n) (set_future (place_in ws q) to o))) (worth ∙ value_is)
      ∙ behind-ready waits ws (rest p c (suc n) (set_future (place_in ws q) to (Some w))) ready
      ∙ b in (
        j,
        (suc n, aggregate-worth_at p c accepted position tasks is (suc n) ∙ worth),
        (suc n, counts_in _ (given v j) second),
        s ∙ ap (λ (r : Counts). total r j) (sym i_is),
      )

  aggregate-back : (k : Counts) → GathersUp k → RestCounts p c accepted waits q k
  unfolding all_of GathersUp
  aggregate-back k (j, (n, e), (m, f), s) =
      let most : ℕ = suc (n + m) in
      let ws : List (Option Value) = worths p c most accepted in
      let (v, b) = whole p c m most accepted waits (set_future q to (Some (suc position))) j (omega arith) f in
      let worth : worth_of p c most ws (OfAll tasks) ≡ Some (Number 0)
      = sym (aggregate-worth_at p c accepted position tasks is most) ∙ worth-later p c n most accepted (suc position) (Number 0) (omega arith) e in
      let each : Each tasks (HasValue ws) = members-valued ws tasks (gives (Number 0)) (Number 0) worth in
      let (ready, b') = behind-given waits ws (rest p c most (set_future (place_in ws q) to (Some (Number 0)))) v j
      (ap (λ (o : Option Value). behind waits ws (rest p c most (set_future (place_in ws q) to o))) (sym worth)
      ∙ sym (next-rest p c most accepted position (OfAll tasks) (aggregate-worth_at p c accepted position tasks is) waits q to) ∙ b) in
      let place : rest p c most (place_in ws q) ≡ given v (total all_of j)
      = aggregate-whole p c ahead (n + m) ws q to members tasks at named
      ∙ child-given _ (Number 0) v all_of j (rest p c most) (place_in ws q) to (behind_all-ready tasks ws (given (Number 0) all_of) each) b' in
      (most, counts_in _ (given v (total all_of j)) (behind-ready waits ws (rest p c most (place_in ws q)) ready ∙ place) ∙ ap Some (sym s))

-- at an aggregate that was accepted at a position, and at one that is accepted now
pub accepted_aggregates-counts : (p : Program) (c : Columns) → AllJumpAhead p
    → (accepted : List Accepted) (position : ℕ) (waits : Option ℕ) (q : FrameOf ℕ) (to : ℕ) (members tasks : List ℕ) (k : Counts)
    → ActsAt p c q (Gathers to members) → map (future_at q.futures) members ≡ map Some tasks → IsAggregateAt accepted position tasks
    → RestCounts p c accepted waits q k
    ↔ ((j : Counts) × WorthGives p c accepted (suc position) (Number 0)
    × RestCounts p c accepted waits (set_future q to (Some (suc position))) j
    × (k ≡ total (record { tasks = 1; activations = length tasks }) j))
unfolding all_of GathersUp
accepted_aggregates-counts p c ahead accepted position waits q to members tasks k at named is = (
  aggregate-forth p c ahead accepted position waits q to members tasks at named is k,
  aggregate-back p c ahead accepted position waits q to members tasks at named is k,
)

-- at an aggregate that is accepted now
pub aggregates-counts : (p : Program) (c : Columns) → AllJumpAhead p → (accepted : List Accepted) (waits : Option ℕ) (q : FrameOf ℕ) (to : ℕ) (members tasks : List ℕ) (k : Counts)
    → NamesAccepted accepted waits q → ActsAt p c q (Gathers to members) → map (future_at q.futures) members ≡ map Some tasks
    → RestCounts p c accepted waits q k
    ↔ ((j : Counts) × WorthGives p c (accepted ++ OfAll tasks ∷ []) (suc (length accepted)) (Number 0)
    × RestCounts p c (accepted ++ OfAll tasks ∷ []) waits (set_future q to (Some (suc (length accepted)))) j
    × (k ≡ total (record { tasks = 1; activations = length tasks }) j))
aggregates-counts p c ahead accepted waits q to members tasks k names at named =
    let grown = grown-counts p c accepted (OfAll tasks) waits q k names in
    let both = accepted_aggregates-counts p c ahead (accepted ++ OfAll tasks ∷ []) (length accepted) waits q to members tasks k at named
    (last-aggregate accepted q members tasks names.0 named) in
    (λ g. both.0 (grown.0 g), λ g. grown.1 (both.1 g))
