-- The frame of a record whose number is placed: it is of its task's call, and fits into the record's block.
use Rattle.std.proofs.Common.{◌≡◌, ◌∙◌, ℕ, suc, ◌+◌, ◌*◌, ◌<◌, ◌≤◌, Bool, true, false, cond, Some, List, [], ◌∷◌, length, map, refl, sym, ap, subst, arith}
use Rattle.std.specs.Prelude.{slice_index}
use Rattle.std.proofs.lemmas.List.{length-map}
use Rattle.record_core.specs.Counting.{At, Has}
use Rattle.kt_words.specs.Capacity.{block_units, class_for}
use Rattle.kt_words.proofs.ClassFacts.{class_is_least}
use Rattle.task_syntax.specs.declared.program.Program.{Program}
use Rattle.task_meaning.specs.Frame.{FrameOf, variables_of}
use Rattle.task_meaning.specs.Worths.{Accepted, OfCall, OfAll, Respawn}
use Rattle.frame_code.specs.Control.{is_aggregate, control_kind, control_state, control_at}
use Rattle.frame_code.specs.Frames.{frame_length, IsFrame}
use Rattle.frame_code.specs.Names.{names_of, named}
use Rattle.frame_code.specs.Words.{BodyOf, OfKind, OfMembers, members_at, words_from, frame_at, body_at}
use Rattle.frame_code.proofs.Aggregates.{body-of_task, body-of_members, members-known}
use Rattle.frame_code.proofs.ControlWords.{frame-members}
use Rattle.frame_code.proofs.WordsOfBody.{words-whole}
use Rattle.table_core.specs.Holdings.{SawTask}
use Rattle.table_core.proofs.FrameReads.{frame-some, names-few, names-same, length-group}
use Rattle.table_core.proofs.ListFacts.{at_map}
use Rattle.schedule_rule.specs.Calls.{AtNumber, task_of, begun}
use Rattle.schedule_rule.specs.Counts.{class_in}
use Rattle.schedule_rule.specs.Frames.{IsFrameOf, front, IsFormed}
use Rattle.schedule_rule.proofs.FrameFacts.{front-same}
use Rattle.schedule_rule.specs.PlacingViews.{WereSeenAs, IsFirstFrame, IsNextFrame}
use Rattle.table_core.specs.declared.view.View.{View}

-- the length of the frame of a task that is no aggregate
pub length-task : (p : Program) (control : ℕ) → is_aggregate control ≡ false → frame_length p control ≡ 1 + variables_of p (control_kind control)
length-task p control e = ap (λ (b : Bool). cond b (1 + control_state control) (1 + variables_of p (control_kind control))) e

-- lists that agree at each position are the same
mapped : (tasks : ℕ → ℕ) (units members : List ℕ) → length units ≡ length members → ((k u t : ℕ) → At units k u → At members k t → tasks u ≡ t) → map tasks units ≡ members
mapped tasks [] [] long same = refl
mapped tasks [] (t ∷ ts) long same = absurd (omega (arith, long))
mapped tasks (u ∷ us) [] long same = absurd (omega (arith, long))
mapped tasks (u ∷ us) (t ∷ ts) long same =
    let first : tasks u ≡ t = same 0 u t refl refl in
    let rest : map tasks us ≡ ts = mapped tasks us ts (omega (arith, long)) (λ k x y at at'. same (suc k) x y at at') in cc

module _ (v : View) (tasks : ℕ → ℕ) (seen : (u t : ℕ) → Has (SawTask u t) v.sights → tasks u ≡ t) where
  -- units that were seen to be of these members are of these
  pub members-seen : (units members : List ℕ) → WereSeenAs v (map Some units) (map Some members) → map tasks units ≡ members
  members-seen units members were = mapped tasks units members (sym (length-map units Some) ∙ were.length_is ∙ length-map members Some)
      (λ k u t at at'. seen u t (were.each k (Some u) (Some t) (at_map Some units k u at) (at_map Some members k t at')))

  -- the first frame of a call is one of its task
  pub first-frame : (p : Program) (calls : List Accepted) (n : ℕ) (call : Accepted) (body : BodyOf ℕ) → IsFirstFrame p v call body → AtNumber calls n call → task_of calls n ≡ n → begun calls n n ≡ 0
      → IsFrameOf p calls tasks n body
  first-frame p calls n (OfCall call waits) (OfKind q) is at first none =
      ((call, waits, subst (λ (k : ℕ). AtNumber calls k (OfCall call waits)) (sym first) at, ap (λ (f : FrameOf ℕ). f.kind) is.is ∙ is.kind), is.way)
  first-frame p calls n (OfAll members) (OfMembers units next) is at first none = (
    subst (λ (k : ℕ). AtNumber calls k (OfAll (map tasks units))) (sym first) (subst (λ (ms : List ℕ). AtNumber calls n (OfAll ms)) (sym (members-seen units members is.0)) at),
    is.1 ∙ ap (λ (k : ℕ). k + 1) (sym (ap (λ (k : ℕ). begun calls k n) first ∙ none)),
  )
  first-frame p calls n (OfCall call waits) (OfMembers units next) is at first none = absurd is
  first-frame p calls n (OfAll members) (OfKind q) is at first none = absurd is
  first-frame p calls n (Respawn t waits) body is at first none = absurd is

-- the frame of a next activation is one of the same task
pub next-frame : (p : Program) (calls : List Accepted) (tasks : ℕ → ℕ) (n n' : ℕ) (old new : BodyOf ℕ) → IsNextFrame p old new → task_of calls n' ≡ task_of calls n
    → begun calls (task_of calls n) n' ≡ begun calls (task_of calls n) n + 1 → IsFrameOf p calls tasks n old → IsFrameOf p calls tasks n' new
next-frame p calls tasks n n' (OfKind q) (OfKind next) is same more was =
    ((was.0.0, was.0.1, subst (λ (k : ℕ). AtNumber calls k (OfCall was.0.0 was.0.1)) (sym same) was.0.2, is.0 ∙ was.0.3), is.1)
next-frame p calls tasks n n' (OfMembers units at) (OfMembers units' next) is same more was = (
  subst (λ (k : ℕ). AtNumber calls k (OfAll (map tasks units'))) (sym same) (subst (λ (us : List ℕ). AtNumber calls (task_of calls n) (OfAll (map tasks us))) (sym is.0) was.0),
  is.1 ∙ ap (λ (k : ℕ). k + 1) (was.1 ∙ sym more ∙ ap (λ (k : ℕ). begun calls k n') (sym same)),
)
next-frame p calls tasks n n' (OfKind q) (OfMembers units next) is same more was = absurd is
next-frame p calls tasks n n' (OfMembers units at) (OfKind q) is same more was = absurd is

module _ (p : Program) (words : List ℕ) (frame : IsFrame p words) where
  -- the words of the frame are its front
  front-itself : front p (slice_index words) ≡ words
  front-itself = ap (words_from (slice_index words) 0) (sym frame.size) ∙ words-whole words

  -- words that agree with those of the frame
  module _ (w : ℕ → ℕ) (same : (j : ℕ) → j < length words → w j ≡ slice_index words j) where
    -- as far as the frame goes, the words agree with it
    pub reads-same : (j : ℕ) → j < frame_length p (slice_index words 0) → w j ≡ slice_index words j
    reads-same j low = same j (omega (arith, low, frame.size))

    -- name the same
    pub named-same : named p w ≡ named p (slice_index words)
    named-same = names-same p (slice_index words) w reads-same

    -- begin with it
    pub formed-same : IsFormed p w
    formed-same = subst (IsFrame p) (sym (front-same p (slice_index words) w reads-same ∙ front-itself)) frame

    -- the control word is the same
    pub control-same : w 0 ≡ slice_index words 0
    control-same = reads-same 0 (frame-some p (slice_index words 0))

  -- the length of an aggregate's frame, and that of another
  group-length : is_aggregate (slice_index words 0) ≡ true → frame_length p (slice_index words 0) ≡ 1 + length (members_at (slice_index words))
  group-length e = omega (arith, length-group p (slice_index words 0) e, members-known words (frame-members p words frame e))

  -- the frame has at most 64 words
  few : frame_length p (slice_index words 0) ≤ 64
  few = omega (arith, frame.size, frame.few)

  -- a block of the class for so many words holds the frame
  class-holds : (n : ℕ) → frame_length p (slice_index words 0) ≡ n → frame_length p (slice_index words 0) ≤ 8 * block_units (class_for n)
  class-holds n e = omega (arith, e, (class_is_least n (omega (arith, few, e))).0)

  -- the first frame of a call fits into a block of the call's class
  pub first-fits : (v : View) (call : Accepted) → IsFirstFrame p v call (body_at p (slice_index words)) → frame_length p (slice_index words 0) ≤ 8 * block_units (class_in p (Some call))
  first-fits v call is = by (is_aggregate (slice_index words 0)) refl
    where
      of_task : (a : Accepted) → is_aggregate (slice_index words 0) ≡ false → IsFirstFrame p v a (OfKind (frame_at p (slice_index words))) → frame_length p (slice_index words 0) ≤ 8 * block_units (class_in p (Some a))
      of_task (OfCall c waits) e first =
          class-holds (1 + variables_of p c.kind) (length-task p (slice_index words 0) e ∙ ap (λ (k : ℕ). 1 + variables_of p k) (ap (λ (f : FrameOf ℕ). f.kind) first.is ∙ first.kind))
      of_task (OfAll members) e first = absurd first
      of_task (Respawn t waits) e first = absurd first

      of_group : (a : Accepted) → is_aggregate (slice_index words 0) ≡ true → IsFirstFrame p v a (OfMembers (members_at (slice_index words)) (control_at (slice_index words 0)))
          → frame_length p (slice_index words 0) ≤ 8 * block_units (class_in p (Some a))
      of_group (OfAll members) e first = class-holds (1 + length members)
          (group-length e ∙ ap (λ (k : ℕ). 1 + k) (sym (length-map (members_at (slice_index words)) Some) ∙ (first.0).length_is ∙ length-map members Some))
      of_group (OfCall c waits) e first = absurd first
      of_group (Respawn t waits) e first = absurd first

      by : (b : Bool) → is_aggregate (slice_index words 0) ≡ b → frame_length p (slice_index words 0) ≤ 8 * block_units (class_in p (Some call))
      by true e = of_group call e (subst (IsFirstFrame p v call) (body-of_members p words e) is)
      by false e = of_task call e (subst (IsFirstFrame p v call) (body-of_task p words e) is)

  -- the frame of a next activation is no longer than the one before
  pub next-short : (old : List ℕ) → IsNextFrame p (body_at p (slice_index old)) (body_at p (slice_index words)) → frame_length p (slice_index words 0) ≤ frame_length p (slice_index old 0)
  next-short old is = by (is_aggregate (slice_index old 0)) refl (is_aggregate (slice_index words 0)) refl
    where
      -- an aggregate has no more members than its frame has words behind the control word
      members-few : is_aggregate (slice_index old 0) ≡ true → length (members_at (slice_index old)) + 1 ≤ frame_length p (slice_index old 0)
      members-few e = omega (arith, names-few p (slice_index old), ap (λ (x : BodyOf ℕ). length (names_of x)) (body-of_members p old e))

      by : (b : Bool) → is_aggregate (slice_index old 0) ≡ b → (c : Bool) → is_aggregate (slice_index words 0) ≡ c → frame_length p (slice_index words 0) ≤ frame_length p (slice_index old 0)
      by true e true e' =
          let t = subst (λ (x : BodyOf ℕ). IsNextFrame p x (OfMembers (members_at (slice_index words)) (control_at (slice_index words 0)))) (body-of_members p old e)
          (subst (IsNextFrame p (body_at p (slice_index old))) (body-of_members p words e') is) in
          omega (arith, group-length e', members-few e, ap length t.0)
      by false e false e' =
          let t = subst (λ (x : BodyOf ℕ). IsNextFrame p x (OfKind (frame_at p (slice_index words)))) (body-of_task p old e)
          (subst (IsNextFrame p (body_at p (slice_index old))) (body-of_task p words e') is) in
          omega (arith, length-task p (slice_index words 0) e', length-task p (slice_index old 0) e, ap (variables_of p) t.0)
      by true e false e' =
          let t = subst (λ (x : BodyOf ℕ). IsNextFrame p x (OfKind (frame_at p (slice_index words)))) (body-of_members p old e)
          (subst (IsNextFrame p (body_at p (slice_index old))) (body-of_task p words e') is) in
          absurd t
      by false e true e' =
          let t = subst (λ (x : BodyOf ℕ). IsNextFrame p x (OfMembers (members_at (slice_index words)) (control_at (slice_index words 0)))) (body-of_task p old e)
          (subst (IsNextFrame p (body_at p (slice_index old))) (body-of_members p words e') is) in
          absurd t
