-- What a faithful end can not show of calls, of further activations and of refusals: what nothing asked for.
use Rattle.std.proofs.Common.{◌≡◌, ◌≢◌, ◌⊎◌, inl, inr, ℕ, zero, suc, ◌+◌, ◌<◌, ◌≤◌, Bool, true, false, Option, Some, None, List, [], ◌∷◌, length, map, refl, sym, ◌∙◌, ap, subst, ⊎_elim, arith}
use Rattle.std.specs.Prelude.{IfSome, IsSome, nat_eq, cond, slice_get}
use Rattle.std.specs.Option.{is_some}
use Rattle.std.proofs.lemmas.Bool.{cases_eq, eqb-true}
use Rattle.task_syntax.specs.declared.instr.Argument.{Argument}
use Rattle.task_syntax.specs.declared.instr.Instr.{Instr}
use Rattle.task_syntax.specs.declared.instr.Instr.TheVariants.{Spawn, All, Again}
use Rattle.task_syntax.specs.declared.value.Priority.{Priority}
use Rattle.task_syntax.specs.declared.program.Root.{Root as RootLine}
use Rattle.task_syntax.specs.declared.program.Program.{Program}
use Rattle.task_syntax.specs.declared.columns.Columns.{Columns}
use Rattle.task_meaning.specs.Meant.{future_at}
use Rattle.task_meaning.specs.Frame.{CallOf, FrameOf}
use Rattle.task_meaning.specs.FrameLaws.{NamesTask, task_waited}
use Rattle.task_meaning.specs.Roots.{root_call}
use Rattle.task_meaning.specs.RootLaws.{root_waits}
use Rattle.task_meaning.specs.Worths.{Accepted, OfCall, OfAll, Respawn}
use Rattle.kt_words.specs.declared.super_word.SuperWord.{SuperWord}
use Rattle.record_core.specs.Sums.{total}
use Rattle.record_core.specs.Numbers.{by_number, HasTask}
use Rattle.record_core.specs.Journal.{cause_of, finish_of}
use Rattle.record_core.specs.EndSeen.{EndSeen, RunPlan}
use Rattle.record_core.specs.EndSound.{EndSound, null_ends}
use Rattle.record_core.specs.EndAsks.{AsksFor, AsksAgain, AsksForCall, AsksForMembers, AsksForNumber, CallNames, IsInKind, IsSpawned, StandsAt}
use Rattle.record_core.specs.EndCalls.{Makers, TellRun, IsMadeBy, IsAskedAgain, AskedForNumber, IsOwn, IsRowOf, again_at_once, is_number_of, limit_task, numbers_in, numbers_of}
use Rattle.record_core.specs.EndFaithful.{EndFaithful}
use Rattle.record_core.specs.EndLaws.{IsAsTheLine, IsDoneBefore, GoesOn, HasInstrWith, MakesBehind, MayBeNull}
use Rattle.record_core.specs.declared.rows.ActivationRow.{ActivationRow}
use Rattle.record_core.specs.declared.rows.Cause.TheVariants as cause
use Rattle.record_core.proofs.FaithfulFacts.{beside, lt_or_le, no_value_behind, one_member}
use Rattle.record_core.proofs.NumberFacts.{at-in_range, member_at}
use Rattle.record_core.proofs.TotalFacts.{none_there, total-bounded}

-- an empty list shows no word
pub no_words : (p : Program) (e : EndSeen) (superblock : ℕ) (word : SuperWord) → EndFaithful p e → e.nulls ≡ 0 → slice_get e.evidence superblock ≢ Some word
no_words p e superblock word faithful none there = none_there word (sym (ap (λ words. slice_get words superblock) (faithful.bare none)) ∙ there)

-- what is waited for, if anything is, is a root with a task
abbrev IfSome_task : EndSeen → Option ℕ → Type 0
IfSome_task e o = IfSome o (λ r. (u : ℕ) × (future_at e.own r ≡ Some u))

-- a root that waits has a task only where the other has one
pub behind_a_task : (p : Program) (e : EndSeen) (at earlier t : ℕ) (root : RootLine) → EndFaithful p e → slice_get p.roots at ≡ Some root → root.behind ≡ Some earlier
    → future_at e.own at ≡ Some t → future_at e.own earlier ≢ None
behind_a_task p e at earlier t root faithful line waits own none =
    let (u, there) = subst (IfSome_task e) waits (faithful.told.2.own at root t line own).waits in none_there u (sym none ∙ there)

-- a call names earlier tasks
pub none_later : (p : Program) (e : EndSeen) (calls : List Accepted) (makers : Makers) (n u : ℕ) (call : Accepted) → TellRun p e calls makers → by_number calls n ≡ Some call
    → CallNames call u → n ≤ u → ⊥
none_later p e calls makers n u call told there names after = omega (arith, after, (told.earlier n u call there names).0)

-- a list keeps its length under a function
map_length : {A B : Type 0} (f : A → B) (xs : List A) → length (map f xs) ≡ length xs
map_length f [] = refl
map_length f (x ∷ xs) = ap suc (map_length f xs)

-- a variable that names a task names one where there is a variable
waits_alike : (q : FrameOf ℕ) (waits : Option ℕ) → NamesTask q waits → is_some (task_waited q waits) ≡ is_some waits
waits_alike q None names = refl
waits_alike q (Some x) names = ap is_some names.1

-- a spawn's call is as its line is
spawn_alike : (q : FrameOf ℕ) (kind : ℕ) (arguments : List Argument) (waits : Option ℕ) (call : CallOf ℕ) (after : Option ℕ) → IsSpawned q kind arguments waits call after
    → IsAsTheLine kind arguments waits call after
spawn_alike q kind arguments waits call after is = record {
  of_kind = ap (λ (k : CallOf ℕ). k.kind) is.is_call;
  numbers = ap (λ (k : CallOf ℕ). length k.numbers) is.is_call ∙ map_length _ arguments;
  futures = ap (λ (k : CallOf ℕ). length k.futures) is.is_call ∙ map_length _ arguments;
  behind = ap is_some is.behind ∙ waits_alike q waits is.names;
}

-- so a task that a spawn made is as the line of its maker is
pub as_the_line : (p : Program) (e : EndSeen) (calls : List Accepted) (makers : Makers) (t to kind : ℕ) (arguments : List Argument) (waits : Option ℕ) (priority : Priority) (retry : Bool)
    (call : CallOf ℕ) (after : Option ℕ) → TellRun p e calls makers → (is : IsMadeBy p e calls makers t) → is.maker.instr ≡ Spawn to kind arguments waits priority retry
    → by_number calls t ≡ Some (OfCall call after) → IsAsTheLine kind arguments waits call after
as_the_line p e calls makers t to kind arguments waits priority retry call after told is instr there =
    let made : is.maker.made ≡ OfCall call after = one_member (by_number calls t) is.maker.made (OfCall call after) is.maker.is_made there in
    let asks : AsksFor (makers.frame t) is.maker.instr (OfCall call after) = subst (λ a. AsksFor (makers.frame t) is.maker.instr a) made is.maker.asks in
    spawn_alike (makers.frame t) kind arguments waits call after (subst (λ i. AsksFor (makers.frame t) i (OfCall call after)) instr asks)

-- two tasks at one line are one
pub one_of_a_line : (p : Program) (e : EndSeen) (calls : List Accepted) (makers : Makers) (t u : ℕ) → TellRun p e calls makers → HasTask e.rows t → HasTask e.rows u
    → (IsOwn e.own t → ⊥) → (IsOwn e.own u → ⊥) → makers.number t ≡ makers.number u → (makers.frame t).at ≡ (makers.frame u).at → t ≡ u
one_of_a_line p e calls makers t u told first second not_first not_second maker line =
    ⊎_elim (λ same. same) (λ differ. absurd (⊎_elim
    (λ less. omega (arith, line, (told.in_order t u first second not_first not_second maker less).1))
    (λ more. omega (arith, line, (told.in_order u t second first not_second not_first (sym maker) (omega (arith, more, differ))).1))
    (lt_or_le t u))) (cases_eq t u)

-- the instruction at which a task was made stands in its maker's kind
instr_in : (p : Program) (calls : List Accepted) (t : ℕ) (q : FrameOf ℕ) (instr : Instr) (stands : StandsAt p calls t q instr) → IsInKind p q.kind instr
instr_in p calls t q instr stands = record { state = q.state; at = q.at; line = stands.line; there = stands.there; is = stands.is }

-- what makes a task behind another is such an instruction
call_behind : (q : FrameOf ℕ) (instr : Instr) (call : CallOf ℕ) (after : Option ℕ) (u : ℕ) → AsksForCall q instr call after → after ≡ Some u → MakesBehind instr
call_behind q (Spawn to kind arguments waits priority retry) call after u asks behind = sym (waits_alike q waits asks.names) ∙ ap is_some (sym asks.behind ∙ behind)
call_behind q _ call after u asks behind = absurd asks

-- an `all` makes a task that is behind another
members_behind : (q : FrameOf ℕ) (instr : Instr) (tasks : List ℕ) → AsksForMembers q instr tasks → MakesBehind instr
members_behind q (All to members priority retry) tasks asks = tt
members_behind q _ tasks asks = absurd asks

-- whatever was asked for behind another, was asked for by such an instruction
made_behind : (q : FrameOf ℕ) (instr : Instr) (made : Accepted) (n u : ℕ) (row : ActivationRow) → AsksFor q instr made → IsRowOf n made row → row.after ≡ Some u → MakesBehind instr
made_behind q instr (OfCall call after) n u row asks is behind = call_behind q instr call after u asks (sym is.1 ∙ behind)
made_behind q instr (OfAll tasks) n u row asks is behind = members_behind q instr tasks asks
made_behind q instr (Respawn t after) n u row asks is behind = absurd asks

-- where no line makes a task behind another, none is behind one that no root has
pub behind_as_asked : (p : Program) (e : EndSeen) (t u : ℕ) (row : ActivationRow) → EndFaithful p e → (HasInstrWith p MakesBehind → ⊥) → by_number e.rows t ≡ Some row → row.task ≡ t
    → (IsOwn e.own t → ⊥) → row.after ≢ Some u
behind_as_asked p e t u row faithful none there first not_own behind =
    let (calls, makers, told) = faithful.told in
    elim (told.of_root t (row, there, first)) [
      | inl own ↦ not_own own
      | inr is ↦
          let maker = is.maker in
          none (
            (makers.frame t).kind,
            maker.instr,
            instr_in p calls maker.row.task (makers.frame t) maker.instr maker.stands,
            made_behind (makers.frame t) maker.instr maker.made t u row maker.asks (told.rows t maker.made row maker.is_made there) behind,
          )
    ]

-- an instruction at which a task asks again
goes_on : (q : FrameOf ℕ) (instr : Instr) (after : Option ℕ) → AsksAgain q instr after → GoesOn instr
goes_on q (Again target waits priority) after asks = tt
goes_on q (Spawn to kind arguments waits priority retry) after asks = asks.0
goes_on q (All to members priority retry) after asks = tt
goes_on q _ after asks = absurd asks

-- an `all` asks for a task that goes on
members_go_on : (q : FrameOf ℕ) (instr : Instr) (tasks : List ℕ) → AsksForMembers q instr tasks → GoesOn instr
members_go_on q (All to members priority retry) tasks asks = tt
members_go_on q _ tasks asks = absurd asks

-- a root that has a task has a line
line_of_own : (p : Program) (c : Columns) (plan : RunPlan) (e : EndSeen) (at t : ℕ) → EndSound p c plan e → future_at e.own at ≡ Some t → (root : RootLine) × (slice_get p.roots at ≡ Some root)
line_of_own p c plan e at t sound own =
    member_at p.roots at (omega (arith, own_within e.own at own, sound.own.as_many, sound.as_many))
  where
    own_within : (own : List (Option ℕ)) (at : ℕ) → future_at own at ≡ Some t → at < length own
    own_within [] at e = absurd (none_there t e)
    own_within (o ∷ own) zero e = omega arith
    own_within (o ∷ own) (suc at) e = omega (arith, own_within own at e)

-- an aggregate is no call
no_call : (o : Option Accepted) (call : CallOf ℕ) (after : Option ℕ) (members : List ℕ) → o ≡ Some (OfCall call after) → o ≡ Some (OfAll members) → ⊥
no_call o call after members one other = let both : Some (OfCall call after) ≡ Some (OfAll members) = sym one ∙ other in cc

-- an aggregate was made by a line
all_is_made : (p : Program) (c : Columns) (plan : RunPlan) (e : EndSeen) (calls : List Accepted) (makers : Makers) (t : ℕ) (members : List ℕ) → EndSound p c plan e → TellRun p e calls makers
    → by_number calls t ≡ Some (OfAll members) → HasInstrWith p GoesOn
all_is_made p c plan e calls makers t members sound told call =
    let (row, there) = beside calls e.rows told.as_many t (OfAll members) call in
    let is_row = told.rows t (OfAll members) row call there in
    elim (told.of_root t (row, there, is_row.0)) [
      | inl own ↦
          let (root, line) = line_of_own p c plan e own.0 t sound own.1 in
          let task = told.own own.0 root t line own.1 in
          absurd (no_call (by_number calls t) (root_call e.own root) (root_waits e.own root.behind) members (ap (by_number calls) task.follows ∙ task.accepted_as) call)
      | inr is ↦
          let maker = is.maker in
          let made : maker.made ≡ OfAll members = one_member (by_number calls t) maker.made (OfAll members) maker.is_made call in (
            (makers.frame t).kind,
            maker.instr,
            instr_in p calls maker.row.task (makers.frame t) maker.instr maker.stands,
            members_go_on (makers.frame t) maker.instr members (subst (λ a. AsksFor (makers.frame t) maker.instr a) made maker.asks),
          )
    ]

-- so where no line goes on, each number is a task's first
pub again_as_asked : (p : Program) (c : Columns) (plan : RunPlan) (e : EndSeen) (n : ℕ) (row : ActivationRow) → EndSound p c plan e → EndFaithful p e → (HasInstrWith p GoesOn → ⊥)
    → by_number e.rows n ≡ Some row → row.task ≡ n
again_as_asked p c plan e zero row sound faithful none there = absurd (none_there row there)
again_as_asked p c plan e (suc before) row sound faithful none there =
    let (calls, makers, told) = faithful.told in
    let (call, is_call) = beside e.rows calls (sym told.as_many) (suc before) row there in
    by calls makers told call is_call (told.rows (suc before) call row is_call there)
  where
    asked : (calls : List Accepted) (makers : Makers) (t : ℕ) (after : Option ℕ) → TellRun p e calls makers → IsAskedAgain p e.rows calls before t after → ⊥
    asked calls makers t after told (IsAskedAgain.by_line q instr stands asks) = none (q.kind, instr, instr_in p calls t q instr stands, goes_on q instr after asks)
    asked calls makers t after told (IsAskedAgain.by_member members u call is member) = none (all_is_made p c plan e calls makers t members sound told call)

    by : (calls : List Accepted) (makers : Makers) (told : TellRun p e calls makers) (call : Accepted) → slice_get calls before ≡ Some call → IsRowOf (suc before) call row → row.task ≡ suc before
    by calls makers told (OfCall call after) is_call is = is.0
    by calls makers told (OfAll members) is_call is = is.0
    by calls makers told (Respawn t after) is_call is = absurd (asked calls makers t after told (told.asked.again before t after is_call))

-- the kind of a root's own task is the root's
kind_of_own : (p : Program) (e : EndSeen) (calls : List Accepted) (makers : Makers) (at t : ℕ) (root : RootLine) (q : FrameOf ℕ) (instr : Instr) → TellRun p e calls makers → slice_get p.roots at ≡ Some root
    → future_at e.own at ≡ Some t → StandsAt p calls t q instr → IsInKind p root.kind instr
kind_of_own p e calls makers at t root q instr told line own stands =
    let task = told.own at root t line own in
    let same : OfCall stands.call stands.waits ≡ OfCall (root_call e.own root) (root_waits e.own root.behind)
    = one_member (by_number calls t) (OfCall stands.call stands.waits) (OfCall (root_call e.own root) (root_waits e.own root.behind)) stands.is_call (ap (by_number calls) task.follows ∙ task.accepted_as) in
    let kind : q.kind ≡ root.kind = stands.of_kind ∙ kind_in stands.call (root_call e.own root) stands.waits (root_waits e.own root.behind) same in
    subst (λ k. IsInKind p k instr) kind (instr_in p calls t q instr stands)
  where
    kind_in : (one other : CallOf ℕ) (a b : Option ℕ) → OfCall one a ≡ OfCall other b → one.kind ≡ other.kind
    kind_in one other a b e = let same : one ≡ other = cc in ap (λ (k : CallOf ℕ). k.kind) same

-- a root's own task is refused a block or a number only where its kind asks for one
pub null_as_asked : (p : Program) (e : EndSeen) (at t : ℕ) (root : RootLine) → EndFaithful p e → slice_get p.roots at ≡ Some root → future_at e.own at ≡ Some t
    → ((instr : Instr) → IsInKind p root.kind instr → MayBeNull p instr → ⊥) → cause_of e.tasks t ≢ cause.Null
null_as_asked p e at t root faithful line own none null =
    let (calls, makers, told) = faithful.told in
    let asked = told.asked.null t null in
    none asked.instr (kind_of_own p e calls makers at t root asked.frame asked.instr told line own asked.stands) (asked.wanted, asked.no_retry)

-- and it is cut by the limit only where its kind asks for a number
pub limit_as_asked : (p : Program) (e : EndSeen) (at t : ℕ) (root : RootLine) → EndFaithful p e → slice_get p.roots at ≡ Some root → future_at e.own at ≡ Some t
    → ((instr : Instr) → IsInKind p root.kind instr → AsksForNumber instr → ⊥) → cause_of e.tasks t ≢ cause.Limit
limit_as_asked p e at t root faithful line own none limit =
    let (calls, makers, told) = faithful.told in by calls makers told (told.asked.limit t limit)
  where
    by : (calls : List Accepted) (makers : Makers) → TellRun p e calls makers → AskedForNumber p e.rows calls t → ⊥
    by calls makers told (AskedForNumber.by_line q instr stands asks) = none instr (kind_of_own p e calls makers at t root q instr told line own stands) asks
    by calls makers told (AskedForNumber.by_member members call left) =
        let task = told.own at root t line own in
        no_call (by_number calls t) (root_call e.own root) (root_waits e.own root.behind) members (ap (by_number calls) task.follows ∙ task.accepted_as) call

-- a task that has more than k numbers has one with k before it
number_at : (t k m : ℕ) (rows : List ActivationRow) → k < numbers_in t m rows → (at : ℕ) × (row : ActivationRow) × (slice_get rows at ≡ Some row) × (row.task ≡ t) × (numbers_in t at rows ≡ k)
number_at t k zero rows more = absurd (omega (arith, more))
number_at t k (suc m) rows more = by (slice_get rows m) refl (lt_or_le k (numbers_in t m rows)) (λ less. number_at t k m rows less)
  where
    here : (row : ActivationRow) (b : Bool) → slice_get rows m ≡ Some row → nat_eq row.task t ≡ b → numbers_in t m rows ≤ k → k < numbers_in t m rows + cond b 1 0
        → (at : ℕ) × (row : ActivationRow) × (slice_get rows at ≡ Some row) × (row.task ≡ t) × (numbers_in t at rows ≡ k)
    here row true there is few enough = (m, row, there, eqb-true row.task t is, omega (arith, few, enough))
    here row false there is few enough = absurd (omega (arith, few, enough))

    by : (o : Option ActivationRow) → slice_get rows m ≡ o → (k < numbers_in t m rows) ⊎ (numbers_in t m rows ≤ k)
        → (k < numbers_in t m rows → (at : ℕ) × (row : ActivationRow) × (slice_get rows at ≡ Some row) × (row.task ≡ t) × (numbers_in t at rows ≡ k))
        → (at : ℕ) × (row : ActivationRow) × (slice_get rows at ≡ Some row) × (row.task ≡ t) × (numbers_in t at rows ≡ k)
    by o there (inl less) rest = rest less
    by None there (inr few) rest = let no_more : numbers_in t (suc m) rows ≡ numbers_in t m rows + 0 = ap (λ (o : Option ActivationRow). numbers_in t m rows + is_number_of t o) there in absurd (omega (arith, more, few, no_more))
    by (Some row) there (inr few) rest =
        let one : numbers_in t (suc m) rows ≡ numbers_in t m rows + cond (nat_eq row.task t) 1 0 = ap (λ (o : Option ActivationRow). numbers_in t m rows + is_number_of t o) there in
        here row (nat_eq row.task t) there refl few (omega (arith, more, one))

-- before its first number a task has none
none_before : (rows : List ActivationRow) → ((n : ℕ) (row : ActivationRow) → by_number rows n ≡ Some row → row.task ≤ n) → (t m : ℕ) → m < t → numbers_in t m rows ≡ 0
none_before rows first t zero less = refl
none_before rows first t (suc m) less = omega (arith, none_before rows first t m (omega (arith, less)), none_at (slice_get rows m) refl)
  where
    none_at : (o : Option ActivationRow) → slice_get rows m ≡ o → is_number_of t o ≡ 0
    none_at None there = refl
    none_at (Some row) there = by (nat_eq row.task t) refl
      where
        by : (b : Bool) → nat_eq row.task t ≡ b → ◌≡◌ {A = ℕ} (cond b 1 0) 0
        by true is = let same : row.task ≡ t = eqb-true row.task t is in absurd (omega (arith, less, same, first (suc m) row there))
        by false is = refl

-- what is there, has a value
some_in : (o : Option ℕ) → IsSome o → (x : ℕ) × (o ≡ Some x)
some_in None some = absurd (cc some)
some_in (Some x) some = (x, refl)

module _ (p : Program) (c : Columns) (plan : RunPlan) (e : EndSeen) (sound : EndSound p c plan e) (faithful : EndFaithful p e) (calls : List Accepted) (makers : Makers) (told : TellRun p e calls makers)
    (t : ℕ) (members : List ℕ) (call : by_number calls t ≡ Some (OfAll members)) where
  -- the number of an aggregate that has so many before it is behind the member at that place
  behind_member : (before : ℕ) (row : ActivationRow) → slice_get e.rows before ≡ Some row → row.task ≡ t → row.after ≡ slice_get members (numbers_in t before e.rows)
  behind_member before row there of_task =
      let (its_call, is_call) = beside e.rows calls (sym told.as_many) (suc before) row there in by its_call is_call (told.rows (suc before) its_call row is_call there)
    where
      first : (its_call : Accepted) → slice_get calls before ≡ Some its_call → row.task ≡ suc before → IsRowOf (suc before) its_call row → row.after ≡ slice_get members (numbers_in t before e.rows)
      first its_call is_call number is =
          let is_t : suc before ≡ t = sym number ∙ of_task in
          let same : its_call ≡ OfAll members = one_member (by_number calls t) its_call (OfAll members) (ap (by_number calls) (sym is_t) ∙ is_call) call in
          let row_is : IsRowOf (suc before) (OfAll members) row = subst (λ a. IsRowOf (suc before) a row) same is in
          let none : numbers_in t before e.rows ≡ 0 = none_before e.rows (λ n other at. (sound.of_tasks n other at).first) t before (omega (arith, is_t)) in
          row_is.1 ∙ ap (slice_get members) (sym none)

      again : (task : ℕ) (after : Option ℕ) → row.task ≡ task → row.after ≡ after → IsAskedAgain p e.rows calls before task after → row.after ≡ slice_get members (numbers_in t before e.rows)
      again task after is is_after (IsAskedAgain.by_line q instr stands asks) =
          let same : task ≡ t = sym is ∙ of_task in absurd (no_call (by_number calls t) stands.call stands.waits members (ap (by_number calls) (sym same) ∙ stands.is_call) call)
      again task after is is_after (IsAskedAgain.by_member others u its_call is_u member) =
          let same : task ≡ t = sym is ∙ of_task in
          let all : OfAll others ≡ OfAll members = one_member (by_number calls t) (OfAll others) (OfAll members) (ap (by_number calls) (sym same) ∙ its_call) call in
          let alike : others ≡ members = cc in
          is_after ∙ is_u ∙ sym member ∙ ap (λ k. slice_get others (numbers_in k before e.rows)) same ∙ ap (λ ms. slice_get ms (numbers_in t before e.rows)) alike

      by : (its_call : Accepted) → slice_get calls before ≡ Some its_call → IsRowOf (suc before) its_call row → row.after ≡ slice_get members (numbers_in t before e.rows)
      by (OfCall k after) is_call is = first (OfCall k after) is_call is.0 is
      by (OfAll others) is_call is = first (OfAll others) is_call is.0 is
      by (Respawn task after) is_call is = again task after is.0 is.1 (told.asked.again before task after is_call)

  -- so an aggregate with a value is done after its members
  member_before : cause_of e.tasks t ≡ cause.Clear → (at u : ℕ) → slice_get members at ≡ Some u → IsDoneBefore e u t
  member_before clear at u member =
      let all : numbers_of t e.rows ≡ length members = told.asked.gathered t members call clear in
      let (before, row, there, of_task, place) = number_at t at (length e.rows) e.rows (omega (arith, all, at-in_range members at u member)) in
      let behind : row.after ≡ Some u = behind_member before row there of_task ∙ ap (slice_get members) place ∙ member in
      let (start, is_start) = some_in row.start (sound.started before row there) in
      let (earlier, is_earlier, less) = sound.ordered.behind (suc before) u start row there behind is_start in
      let (finish, is_finish) = some_in (finish_of e.tasks t) (sound.finished t (subst (HasTask e.rows) of_task (sound.of_tasks (suc before) row there).of_task)) in
      let (again, is_again, more) = sound.ordered.before (suc before) finish row there (ap (finish_of e.tasks) of_task ∙ is_finish) in
      let same : again ≡ start = one_member row.start again start is_again is_start in record {
        earlier = earlier;
        finish = finish;
        of_member = is_earlier;
        of_task = is_finish;
        before = omega (arith, less, more, same);
        clear = no_value_behind p e (suc before) u row faithful there behind (ap (cause_of e.tasks) of_task ∙ clear);
      }

-- so there are calls and makers by which each aggregate with a value is done after its members
pub members_before : (p : Program) (c : Columns) (plan : RunPlan) (e : EndSeen) → EndSound p c plan e → EndFaithful p e
    → (calls : List Accepted) × (makers : Makers) × TellRun p e calls makers
    × ((t at u : ℕ) (members : List ℕ) → by_number calls t ≡ Some (OfAll members) → cause_of e.tasks t ≡ cause.Clear → slice_get members at ≡ Some u → IsDoneBefore e u t)
members_before p c plan e sound faithful =
    let (calls, makers, told) = faithful.told in
    (calls, makers, told, λ t at u members call clear member. member_before p c plan e sound faithful calls makers told t members call clear at u member)

-- one number counts at most once
at_most_once : (a : Accepted) → again_at_once a ≤ 1
at_most_once (Respawn t None) = omega arith
at_most_once (Respawn t (Some u)) = omega arith
at_most_once (OfCall call after) = omega arith
at_most_once (OfAll members) = omega arith

-- no null answer is counted that did nothing
pub nulls_counted : (p : Program) (e : EndSeen) → EndFaithful p e → null_ends e + length e.rows + total limit_task e.tasks < e.nulls → ⊥
nulls_counted p e faithful more =
    let (calls, makers, told) = faithful.told in
    omega (arith, more, told.nulls, told.as_many, total-bounded again_at_once 1 calls (λ at a there. at_most_once a))
