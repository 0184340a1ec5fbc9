-- What follows from a frame at an aggregate, a read, a respawn, and where the task ends.
use Rattle.std.specs.Prelude.{◌≡◌, ℕ, suc, ◌+◌, ◌≤◌, ◌↔◌, Option, Some, None, List, [], ◌∷◌, ◌++◌, map, length}
use Rattle.std.proofs.Common.{refl, sym, ap, ◌∙◌, arith}
use Rattle.task_syntax.specs.Places.{Each}
use Rattle.task_syntax.specs.declared.value.Value.{Value}
use Rattle.task_syntax.specs.declared.value.Value.TheVariants.{Number}
use Rattle.task_syntax.specs.declared.program.Program.{Program}
use Rattle.task_syntax.specs.declared.columns.Columns.{Columns}
use Rattle.task_meaning.specs.Meant.{Meant, counted, gives, adding, with_value, with_number, future_at, behind, behind_all}
use Rattle.task_meaning.specs.Frame.{FrameOf, Place, holds_at, enter, set_number, set_future, renamed}
use Rattle.task_meaning.specs.Meaning.{aggregate_of, rest}
use Rattle.task_meaning.specs.Worths.{Accepted, OfAll, Respawn, worth_of, worths, place_in, rest_of}
use Rattle.task_meaning.specs.Acts.{Gathers, Reads, Respawns, Finishes, ActsAt}
use Rattle.task_meaning.specs.Runs.{IsTrap}
use Rattle.task_meaning.specs.WorthLaws.{NamesUpTo}
use Rattle.task_meaning.specs.FrameLaws.{WorthGives, RestGives, HasWorth, NamesTask, task_waited, NamesAccepted}
use Rattle.task_meaning.specs.AcceptedLaws.{IsAggregateAt}
use Rattle.task_meaning.proofs.Grows.{Stays-at, AllStay, AllStay-at, AllStay-refl}
use Rattle.task_meaning.proofs.Ahead.{AllJumpAhead}
use Rattle.task_meaning.proofs.FromRuns.{rest-acts, trap-ends}
use Rattle.task_meaning.proofs.Renaming.{future_at-renamed, enter-renamed}
use Rattle.task_meaning.proofs.Worths.{worths-stay, acts-in}
use Rattle.task_meaning.proofs.Frames.{task-names, kept-names, aggregate-worth_at, rest_of-stays, next-rest, grown-gives, last-aggregate, behind-task, value_of, behind-stays, rest-stays}

-- two frames give the same, where they do from some fuel on
same-give : (p : Program) (c : Columns) (accepted later : List Accepted) (waits then : Option ℕ) (q next : FrameOf ℕ) (v : Value) (m : ℕ)
    → ((n : ℕ) → m ≤ n → (rest_of p c (suc n) accepted waits q).value ≡ (rest_of p c (suc n) later then next).value)
    → RestGives p c accepted waits q v ↔ RestGives p c later then next v
same-give p c accepted later waits then q next v m same = (forth, back)
  where
    forth : RestGives p c accepted waits q v → RestGives p c later then next v
    forth (n, e) = (suc (n + m), sym (same (n + m) (omega arith)) ∙ Stays-at _ _ (rest_of-stays p c n (suc (n + m)) (omega arith) accepted waits q) v e)

    back : RestGives p c later then next v → RestGives p c accepted waits q v
    back (n, e) = (suc (n + m), same (n + m) (omega arith) ∙ Stays-at _ _ (rest_of-stays p c n (suc (n + m)) (omega arith) later then next) v e)

behind-value : (waits : Option ℕ) (ws : List (Option Value)) (m more : Meant) → m.value ≡ more.value → (behind waits ws m).value ≡ (behind waits ws more).value
behind-value None ws m more e = e
behind-value (Some t) ws m more e = go (future_at ws t)
  where
    go : (o : Option Value) → (with_value o (λ v. m)).value ≡ (with_value o (λ v. more)).value
    go None = refl
    go (Some v) = e

-- what a variable of a place has, where the variable of the frame names a task
pub named-at : (ws : List (Option Value)) (fs : List (Option ℕ)) (x t : ℕ) → future_at fs x ≡ Some t → future_at (map (renamed (future_at ws)) fs) x ≡ future_at ws t
named-at ws fs x t e = future_at-renamed (future_at ws) fs x ∙ ap (renamed (future_at ws)) e

with_value-value : (o : Option Value) (m more : Meant) → m.value ≡ more.value → (with_value o (λ v. m)).value ≡ (with_value o (λ v. more)).value
with_value-value None m more e = refl
with_value-value (Some v) m more e = e

-- waiting for the variables of a place is waiting for the tasks that they name
pub members-named : (ws : List (Option Value)) (fs : List (Option ℕ)) (members tasks : List ℕ) → map (future_at fs) members ≡ map Some tasks
    → (m more : Meant) → m.value ≡ more.value → (behind_all members (map (renamed (future_at ws)) fs) m).value ≡ (behind_all tasks ws more).value
members-named ws fs [] [] e m more s = s
members-named ws fs [] (t ∷ tasks) e m more s = absurd (cc e)
members-named ws fs (x ∷ members) [] e m more s = absurd (cc e)
members-named ws fs (x ∷ members) (t ∷ tasks) e m more s =
    let first : future_at fs x ≡ Some t = cc e in
    let others : map (future_at fs) members ≡ map Some tasks = cc e in
    with_value-value (future_at (map (renamed (future_at ws)) fs) x) (behind_all members (map (renamed (future_at ws)) fs) m) (behind_all tasks ws more)
    (members-named ws fs members tasks others m more s)
    ∙ ap (λ (o : Option Value). (with_value o (λ v. behind_all tasks ws more)).value) (named-at ws fs x t first)

-- after an aggregate whose members are accepted at a position, and after one that is accepted now
pub accepted_aggregates-rest : (p : Program) (c : Columns) → AllJumpAhead p
    → (accepted : List Accepted) (position : ℕ) (waits : Option ℕ) (q : FrameOf ℕ) (to : ℕ) (members tasks : List ℕ) (v : Value)
    → ActsAt p c q (Gathers to members) → map (future_at q.futures) members ≡ map Some tasks → IsAggregateAt accepted position tasks
    → RestGives p c accepted waits q v ↔ RestGives p c accepted waits (set_future q to (Some (suc position))) v
accepted_aggregates-rest p c ahead accepted position waits q to members tasks v at named is =
    same-give p c accepted accepted waits waits q (set_future q to (Some (suc position))) v 0 same
  where
    same : (n : ℕ) → 0 ≤ n → (rest_of p c (suc n) accepted waits q).value ≡ (rest_of p c (suc n) accepted waits (set_future q to (Some (suc position)))).value
    same n _ =
        let ws : List (Option Value) = worths p c (suc n) accepted in
        let child : Meant = aggregate_of members (place_in ws q).futures in
        let acts : (rest p c (suc n) (place_in ws q)).value ≡ (rest p c (suc n) (set_future (place_in ws q) to child.value)).value
        = value_of _ _ (rest-acts p c n (place_in ws q) (Gathers to members) ahead (acts-in p c ws q (Gathers to members) at)) in
        let zero_of : child.value ≡ worth_of p c (suc n) ws (OfAll tasks)
        = members-named ws q.futures members tasks named (adding (counted 1 (length members)) (gives (Number 0))) (gives (Number 0)) refl in
        behind-value waits ws (rest p c (suc n) (place_in ws q)) (rest p c (suc n) (set_future (place_in ws q) to (worth_of p c (suc n) ws (OfAll tasks))))
        (acts ∙ ap (λ (o : Option Value). (rest p c (suc n) (set_future (place_in ws q) to o)).value) zero_of)
        ∙ sym (value_of _ _ (next-rest p c (suc n) accepted position (OfAll tasks) (aggregate-worth_at p c accepted position tasks is) waits q to))

-- after an aggregate that is accepted now
pub aggregates-rest : (p : Program) (c : Columns) → AllJumpAhead p → (accepted : List Accepted) (waits : Option ℕ) (q : FrameOf ℕ) (to : ℕ) (members tasks : List ℕ) (v : Value)
    → NamesAccepted accepted waits q → ActsAt p c q (Gathers to members) → map (future_at q.futures) members ≡ map Some tasks
    → RestGives p c accepted waits q v ↔ RestGives p c (accepted ++ OfAll tasks ∷ []) waits (set_future q to (Some (suc (length accepted)))) v
aggregates-rest p c ahead accepted waits q to members tasks v names at named =
    let grown = grown-gives p c accepted (OfAll tasks) waits q v names in
    let both = accepted_aggregates-rest p c ahead (accepted ++ OfAll tasks ∷ []) (length accepted) waits q to members tasks v at named
    (last-aggregate accepted q members tasks names.0 named) in
    (λ g. both.0 (grown.0 g), λ g. grown.1 (both.1 g))

-- more fuel gives a task the same worth
pub worth-later : (p : Program) (c : Columns) (n m : ℕ) (accepted : List Accepted) (t : ℕ) (v : Value) → n ≤ m
    → future_at (worths p c n accepted) t ≡ Some v → future_at (worths p c m accepted) t ≡ Some v
worth-later p c n m accepted t v e = Stays-at _ _ (AllStay-at _ _ t (worths-stay p c n m e accepted)) v

-- what a read gives, where the task that is read has its worth
pub read-acts : (p : Program) (c : Columns) → AllJumpAhead p → (n : ℕ) (accepted : List Accepted) (q : FrameOf ℕ) (to x t : ℕ) (w : Value)
    → ActsAt p c q (Reads to x) → future_at q.futures x ≡ Some t → future_at (worths p c (suc n) accepted) t ≡ Some w
    → rest p c (suc n) (place_in (worths p c (suc n) accepted) q)
    ≡ with_number w (λ k. rest p c (suc n) (place_in (worths p c (suc n) accepted) (set_number q to k)))
read-acts p c ahead n accepted q to x t w at named worth =
    let ws : List (Option Value) = worths p c (suc n) accepted in
    rest-acts p c n (place_in ws q) (Reads to x) ahead (acts-in p c ws q (Reads to x) at)
    ∙ ap (λ (o : Option Value). with_value o (λ u. with_number u (λ k. rest p c (suc n) (place_in ws (set_number q to k))))) (named-at ws q.futures x t named ∙ worth)

-- after a read of a task that is worth a number the same follows
pub reads-rest : (p : Program) (c : Columns) → AllJumpAhead p → (accepted : List Accepted) (waits : Option ℕ) (q : FrameOf ℕ) (to x t k : ℕ) (v : Value)
    → ActsAt p c q (Reads to x) → future_at q.futures x ≡ Some t → WorthGives p c accepted t (Number k)
    → RestGives p c accepted waits q v ↔ RestGives p c accepted waits (set_number q to k) v
reads-rest p c ahead accepted waits q to x t k v at named (m, e) =
    same-give p c accepted accepted waits waits q (set_number q to k) v m
    (λ n l. ap (λ (r : Meant). (behind waits (worths p c (suc n) accepted) r).value)
    (read-acts p c ahead n accepted q to x t (Number k) at named (worth-later p c m (suc n) accepted t (Number k) (omega (arith, l)) e)))

-- what is waited for is there from some fuel on
pub ready-from : (p : Program) (c : Columns) (accepted : List Accepted) (waits : Option ℕ) → HasWorth p c accepted waits
    → (m : ℕ) × ((n : ℕ) → m ≤ n → (r : Meant) → behind waits (worths p c n accepted) r ≡ r)
ready-from p c accepted None h = (0, λ n l r. refl)
ready-from p c accepted (Some t) (v, (m, e)) =
    (m, λ n l r. ap (λ (o : Option Value). with_value o (λ u. r)) (worth-later p c m n accepted t v l e))

-- a frame gives a value alone that it has from some fuel on
ends-give : (p : Program) (c : Columns) (accepted : List Accepted) (waits : Option ℕ) (q : FrameOf ℕ) (w v : Value) (m : ℕ)
    → ((n : ℕ) → m ≤ n → (rest_of p c (suc n) accepted waits q).value ≡ Some w) → RestGives p c accepted waits q v ↔ (w ≡ v)
ends-give p c accepted waits q w v m h = (forth, λ s. (suc m, h m (omega arith) ∙ ap Some s))
  where
    forth : RestGives p c accepted waits q v → w ≡ v
    forth (n, e) =
        let f : Some w ≡ Some v = sym (h (n + m) (omega arith)) ∙ Stays-at _ _ (rest_of-stays p c n (suc (n + m)) (omega arith) accepted waits q) v e in
        cc f

-- where a task ends by its own act, this is the value
pub ends-rest : (p : Program) (c : Columns) → AllJumpAhead p → (accepted : List Accepted) (waits : Option ℕ) (q : FrameOf ℕ) (w v : Value)
    → ActsAt p c q (Finishes w) → HasWorth p c accepted waits → RestGives p c accepted waits q v ↔ (w ≡ v)
ends-rest p c ahead accepted waits q w v at h =
    let (m, ready) = ready-from p c accepted waits h in
    ends-give p c accepted waits q w v m (λ n l.
    value_of _ _ (ready (suc n) (omega (arith, l)) (rest p c (suc n) (place_in (worths p c (suc n) accepted) q))
    ∙ rest-acts p c n _ (Finishes w) ahead (acts-in p c (worths p c (suc n) accepted) q (Finishes w) at)))

-- where a task ends by a trap that it reads, this is the value
pub traps-rest : (p : Program) (c : Columns) → AllJumpAhead p → (accepted : List Accepted) (waits : Option ℕ) (q : FrameOf ℕ) (to x t : ℕ) (w v : Value)
    → ActsAt p c q (Reads to x) → future_at q.futures x ≡ Some t → WorthGives p c accepted t w → IsTrap w → HasWorth p c accepted waits
    → RestGives p c accepted waits q v ↔ (w ≡ v)
traps-rest p c ahead accepted waits q to x t w v at named (m', e) trap h =
    let (m, ready) = ready-from p c accepted waits h in
    ends-give p c accepted waits q w v (m + m') (λ n l.
    value_of _ _ (ready (suc n) (omega (arith, l)) (rest p c (suc n) (place_in (worths p c (suc n) accepted) q))
    ∙ read-acts p c ahead n accepted q to x t w at named (worth-later p c m' (suc n) accepted t w (omega (arith, l)) e)
    ∙ trap-ends w _ trap))

-- the frame after a respawn names accepted tasks
pub enter-names : (p : Program) (accepted : List Accepted) (q : FrameOf ℕ) (target : ℕ) (x : Option ℕ) → Each q.futures (NamesUpTo (length accepted))
    → NamesAccepted accepted (task_waited q x) (enter p q target)
enter-names p accepted q target x names =
    (kept-names (length accepted) 0 (holds_at p q.kind target) q.futures names, task-names (length accepted) q names x)

-- what a respawn gives, where the rest has one fuel more than what is behind it
respawn-acts : (p : Program) (c : Columns) → AllJumpAhead p → (n : ℕ) (accepted : List Accepted) (q : FrameOf ℕ) (target : ℕ) (x : Option ℕ)
    → ActsAt p c q (Respawns target x) → NamesTask q x
    → (rest p c (suc n) (place_in (worths p c (suc n) accepted) q)).value
    ≡ (behind (task_waited q x) (worths p c (suc n) accepted) (rest p c n (place_in (worths p c (suc n) accepted) (enter p q target)))).value
respawn-acts p c ahead n accepted q target x at held =
    let ws : List (Option Value) = worths p c (suc n) accepted in
    let after : Meant = rest p c n (enter p (place_in ws q) target) in
    value_of _ _ (rest-acts p c n (place_in ws q) (Respawns target x) ahead (acts-in p c ws q (Respawns target x) at))
    ∙ value_of _ _ (behind-task ws q x held (adding (counted 0 1) after))
    ∙ behind-value (task_waited q x) ws (adding (counted 0 1) after) after refl
    ∙ ap (λ (r : Place). (behind (task_waited q x) ws (rest p c n r)).value) (sym (enter-renamed (future_at ws) p q target))

-- after a respawn, whatever was accepted, and after one that is accepted now
pub accepted_respawns-rest : (p : Program) (c : Columns) → AllJumpAhead p → (accepted : List Accepted) (waits : Option ℕ) (q : FrameOf ℕ) (target : ℕ) (x : Option ℕ) (v : Value)
    → ActsAt p c q (Respawns target x) → NamesTask q x → HasWorth p c accepted waits
    → RestGives p c accepted waits q v ↔ RestGives p c accepted (task_waited q x) (enter p q target) v
accepted_respawns-rest p c ahead accepted waits q target x v at held h =
    let (m, ready) = ready-from p c accepted waits h in (forth m ready, back m ready)
  where
    then : Option ℕ
    then = task_waited q x

    next : FrameOf ℕ
    next = enter p q target

    acts : (m : ℕ) → ((n : ℕ) → m ≤ n → (r : Meant) → behind waits (worths p c n accepted) r ≡ r) → (n : ℕ) → m ≤ n
        → (rest_of p c (suc n) accepted waits q).value
        ≡ (behind then (worths p c (suc n) accepted) (rest p c n (place_in (worths p c (suc n) accepted) next))).value
    acts m ready n l =
        value_of _ _ (ready (suc n) (omega (arith, l)) (rest p c (suc n) (place_in (worths p c (suc n) accepted) q)))
        ∙ respawn-acts p c ahead n accepted q target x at held

    forth : (m : ℕ) → ((n : ℕ) → m ≤ n → (r : Meant) → behind waits (worths p c n accepted) r ≡ r) → RestGives p c accepted waits q v
        → RestGives p c accepted then next v
    forth m ready (n, e) =
        let ws : List (Option Value) = worths p c (suc (n + m)) accepted in
        let f = sym (acts m ready (n + m) (omega arith)) ∙ Stays-at _ _ (rest_of-stays p c n (suc (n + m)) (omega arith) accepted waits q) v e in (
          suc (n + m),
          Stays-at _ _ (behind-stays then ws ws (rest p c (n + m) (place_in ws next)) (rest p c (suc (n + m)) (place_in ws next)) (AllStay-refl ws)
              (rest-stays p c (n + m) (suc (n + m)) (omega arith) ws ws (AllStay-refl ws) next)) v f,
        )

    back : (m : ℕ) → ((n : ℕ) → m ≤ n → (r : Meant) → behind waits (worths p c n accepted) r ≡ r) → RestGives p c accepted then next v
        → RestGives p c accepted waits q v
    back m ready (n, e) =
        let vs : List (Option Value) = worths p c (n + m) accepted in
        let ws : List (Option Value) = worths p c (suc (n + m)) accepted in
        let s : AllStay vs ws = worths-stay p c (n + m) (suc (n + m)) (omega arith) accepted in
        let f = Stays-at _ _ (rest_of-stays p c n (n + m) (omega arith) accepted then next) v e in (
          suc (n + m),
          acts m ready (n + m) (omega arith)
              ∙ Stays-at _ _ (behind-stays then vs ws (rest p c (n + m) (place_in vs next)) (rest p c (n + m) (place_in ws next)) s
              (rest-stays p c (n + m) (n + m) (omega arith) vs ws s next)) v f,
        )

-- after a respawn that is accepted now
pub respawns-rest : (p : Program) (c : Columns) → AllJumpAhead p → (accepted : List Accepted) (waits : Option ℕ) (q : FrameOf ℕ) (target task : ℕ) (x : Option ℕ) (v : Value)
    → NamesAccepted accepted waits q → ActsAt p c q (Respawns target x) → NamesTask q x → HasWorth p c accepted waits
    → RestGives p c accepted waits q v ↔ RestGives p c (accepted ++ Respawn task (task_waited q x) ∷ []) (task_waited q x) (enter p q target) v
respawns-rest p c ahead accepted waits q target task x v names at held h =
    let both = accepted_respawns-rest p c ahead accepted waits q target x v at held h in
    let grown = grown-gives p c accepted (Respawn task (task_waited q x)) (task_waited q x) (enter p q target) v (enter-names p accepted q target x names.0) in
    (λ g. grown.0 (both.0 g), λ g. both.1 (grown.1 g))

-- what follows from a frame behind no task, against a task with a worth
pub retries-rest : (p : Program) (c : Columns) (accepted : List Accepted) (waits : Option ℕ) (q : FrameOf ℕ) (v : Value) → HasWorth p c accepted waits
    → RestGives p c accepted None q v ↔ RestGives p c accepted waits q v
retries-rest p c accepted waits q v h =
    let (m, ready) = ready-from p c accepted waits h in
    same-give p c accepted accepted None waits q q v m
    (λ n l. sym (value_of _ _ (ready (suc n) (omega (arith, l)) (rest p c (suc n) (place_in (worths p c (suc n) accepted) q)))))
