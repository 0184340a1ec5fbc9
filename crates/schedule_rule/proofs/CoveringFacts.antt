-- References are enough where they were enough, and as many more are there as are needed.
use Rattle.std.proofs.Common.{◌≡◌, ◌≢◌, ◌∙◌, ◌⊎◌, inl, inr, ℕ, zero, suc, ◌+◌, ◌≤◌, ◌==◌, Bool, true, false, cond, nat_eq, Option, Some, None, List, [], ◌∷◌, map, refl, sym, ap, subst, true≢false, arith}
use Rattle.std.specs.Prelude.{slice_set, slice_index, IsTrue}
use Rattle.std.proofs.lemmas.Bool.{cases_eq, eq-eqb, eqb-true, ne_eqb}
use Rattle.std.proofs.lemmas.List.{map-set, get_or-set_other}
use Rattle.record_core.specs.Counting.{At, Has, one_if, passing, times}
use Rattle.record_core.proofs.TotalFacts.{none_there, total-set}
use Rattle.task_meaning.specs.Frame.{FrameOf, state_at}
use Rattle.task_meaning.specs.Meant.{future_at}
use Rattle.task_syntax.proofs.Bools.{either, has-without}
use Rattle.task_syntax.proofs.Differ.{differ-nil, differ-tail, differ-head, differ-cons}
use Rattle.task_syntax.specs.Facts.{Facts, has, without, after}
use Rattle.task_syntax.specs.Form.{Leaves}
use Rattle.task_syntax.specs.Places.{AllDiffer, instr_at}
use Rattle.task_syntax.specs.Valid.{Held, goes_on}
use Rattle.task_syntax.specs.declared.instr.Instr.{Instr}
use Rattle.task_syntax.specs.declared.instr.Instr.TheVariants.{Spawn, All}
use Rattle.task_syntax.specs.declared.program.Program.{Program}
use Rattle.task_syntax.specs.declared.program.State.{State}
use Rattle.frame_code.specs.Moves.{passed_on}
use Rattle.frame_code.specs.Names.{present}
use Rattle.frame_code.specs.Setting.{with_future}
use Rattle.frame_code.specs.Words.{BodyOf, OfKind, OfMembers, frame_at, body_at}
use Rattle.frame_code.specs.Control.{is_aggregate}
use Rattle.frame_code.specs.Ways.{HasWay}
use Rattle.frame_code.proofs.Aggregates.{body-of_task, body-of_members}
use Rattle.frame_code.proofs.FrameWays.{stands-there, way-on}
use Rattle.table_core.specs.Holdings.{Run}
use Rattle.table_core.specs.WaitViews.{is_run_at}
use Rattle.table_core.proofs.ListFacts.{map_at, each-set, same_some}
use Rattle.schedule_rule.specs.CoveringLaws.{AsksInto, StandsAsking, MoreCover, FewerRunsCover, ActsCover, ActsMove}
use Rattle.schedule_rule.specs.DrawViews.{changed}
use Rattle.schedule_rule.specs.Frames.{HeldAmong, Covers, needed, BagSound}
use Rattle.schedule_rule.specs.LifeViews.{IsMovedFrame}
use Rattle.schedule_rule.specs.PlacingViews.{past_act}
use Rattle.schedule_rule.proofs.ChangedFacts.{changed-one}
use Rattle.schedule_rule.proofs.FinishKinds.{bag-dropped}

-- more references are enough
pub more-cover : MoreCover
more-cover p runs futures more longer was = record { pairs = was.pairs; are_runs = was.are_runs; covers = was.covers; enough = λ u. omega (arith, was.enough u, longer u) }

-- and so are the same for fewer runs
pub fewer-cover : FewerRunsCover
fewer-cover p futures runs u was = bag-dropped p futures runs (is_run_at u) was

-- the list without x
abbrev pub apart : ℕ → List ℕ → List ℕ
apart x [] = []
apart x (y ∷ ys) = cond (y == x) (apart x ys) (y ∷ apart x ys)

-- another member is there still
pub has-apart : (x y : ℕ) (l : List ℕ) → Has y l → y ≢ x → Has y (apart x l)
has-apart x y [] there ne = absurd (none_there y there.1)
has-apart x y (z ∷ l) there ne = by (z == x) refl (λ deeper. has-apart x y l deeper ne) there.0 there.1
  where
    by : (b : Bool) → (z == x) ≡ b → (Has y l → Has y (apart x l)) → (k : ℕ) → At (z ∷ l) k y → Has y (cond b (apart x l) (z ∷ apart x l))
    by true e rest zero here = absurd (ne (sym (same_some z y here) ∙ eqb-true z x e))
    by true e rest (suc k) at = rest (k, at)
    by false e rest zero here = (0, here)
    by false e rest (suc k) at = let t = rest (k, at) in (suc t.0, t.1)

-- what is left was there, and is another
pub apart-has : (x y : ℕ) (l : List ℕ) → Has y (apart x l) → Has y l × (y ≢ x)
apart-has x y [] there = absurd (none_there y there.1)
apart-has x y (z ∷ l) there = by (z == x) refl (apart-has x y l) there
  where
    by : (b : Bool) → (z == x) ≡ b → (Has y (apart x l) → Has y l × (y ≢ x)) → Has y (cond b (apart x l) (z ∷ apart x l)) → Has y (z ∷ l) × (y ≢ x)
    by true e rest has' = let t = rest has' in ((suc t.0.0, t.0.1), t.1)
    by false e rest (zero, at) = ((0, at), λ same. true≢false (sym (eq-eqb z x (same_some z y at ∙ same)) ∙ e))
    by false e rest (suc k, at) = let t = rest (k, at) in ((suc t.0.0, t.0.1), t.1)

-- members that differ differ still
pub differ-apart : (x : ℕ) (l : List ℕ) → AllDiffer l → AllDiffer (apart x l)
differ-apart x [] differ = differ-nil
differ-apart x (z ∷ l) differ = by (z == x) (differ-apart x l (differ-tail z l differ))
  where
    by : (b : Bool) → AllDiffer (apart x l) → AllDiffer (cond b (apart x l) (z ∷ apart x l))
    by true rest = rest
    by false rest = differ-cons z (apart x l) (λ j at. let t = (apart-has x z l (j, at)).0 in differ-head z l differ t.0 t.1) rest

-- how often an option has the unit w
abbrev pub weight : ℕ → Option ℕ → ℕ
weight w None = 0
weight w (Some y) = one_if (y == w)

-- one more option has the unit as often as it says, and the rest as before
pub times-present : (w : ℕ) (o : Option ℕ) (os : List (Option ℕ)) → times w (present (o ∷ os)) ≡ weight w o + times w (present os)
times-present w None os = omega arith
times-present w (Some y) os = refl

-- where other variables name what they named, they name no more without x
pub apart-names : (f f' : ℕ → Option ℕ) (x w : ℕ) → ((y : ℕ) → y ≢ x → f' y ≡ f y) → (l : List ℕ) → times w (present (map f' (apart x l))) ≤ times w (present (map f l))
apart-names f f' x w same [] = omega arith
apart-names f f' x w same (y ∷ l) = by (cases_eq y x) (apart-names f f' x w same l)
  where
    by : (y ≡ x) ⊎ (y ≢ x) → times w (present (map f' (apart x l))) ≤ times w (present (map f l)) → times w (present (map f' (apart x (y ∷ l)))) ≤ times w (present (map f (y ∷ l)))
    by (inl e) rest = omega (
      arith,
      rest,
      times-present w (f y) (map f l),
      ap (λ (b : Bool). times w (present (map f' (cond b (apart x l) (y ∷ apart x l))))) (eq-eqb y x e),
    )
    by (inr ne) rest = omega (
      arith,
      rest,
      times-present w (f y) (map f l),
      times-present w (f' y) (map f' (apart x l)),
      ap (weight w) (same y ne),
      ap (λ (b : Bool). times w (present (map f' (cond b (apart x l) (y ∷ apart x l))))) (ne_eqb y x ne),
    )

-- a variable that is set to name u names no other
set-weight : (fs : List (Option ℕ)) (x u w : ℕ) → weight w (future_at (slice_set fs x (Some u)) x) ≤ one_if (u == w)
set-weight [] x u w = omega arith
set-weight (o ∷ fs) zero u w = omega arith
set-weight (o ∷ fs) (suc x) u w = set-weight fs x u w

-- what is held behind an instruction that asks for a task was held before, or is that task's variable
pub asks-held : (instr : Instr) (x y : ℕ) (f : Facts) → AsksInto x instr → IsTrue (has y (after instr f).held) → (y ≡ x) ⊎ IsTrue (has y f.held)
asks-held (Spawn to kind arguments behind priority retry) x y f is held = elim (either (nat_eq y to) (has y (without to f.held)) held) [
  | inl s ↦ inl (eqb-true y to s ∙ is)
  | inr s ↦ inr (has-without y to f.held s).1
]
asks-held (All to members priority retry) x y f is held = elim (either (nat_eq y to) (has y (without to f.held)) held) [
  | inl s ↦ inl (eqb-true y to s ∙ is)
  | inr s ↦ inr (has-without y to f.held s).1
]
asks-held instr x y f is held = absurd is

-- such an instruction does not leave the code
asks-remains : (instr : Instr) (x : ℕ) → AsksInto x instr → ¬ Leaves instr
asks-remains (Spawn to kind arguments behind priority retry) x is leaves = leaves
asks-remains (All to members priority retry) x is leaves = leaves
asks-remains instr x is leaves = absurd is

-- what is held at the next line was held, or is the task's variable
held-past : (state : State) (at x y : ℕ) (instr : Instr) → instr_at state at ≡ Some instr → AsksInto x instr → Held state (at + 1) y → y ≢ x → Held state at y
held-past state at x y instr stands is held ne f way = elim (asks-held instr x y f is (held (after instr f) (goes_on instr way stands (asks-remains instr x is)))) [
  | inl e ↦ absurd (ne e)
  | inr before ↦ before
]

module _ (p : Program) (x u : ℕ) where
  -- past the act these variables are enough
  past-held : (body : BodyOf ℕ) (variables : List ℕ) → StandsAsking p x body → HeldAmong p body variables → HeldAmong p (with_future x (Some u) (passed_on body)) (x ∷ apart x variables)
  past-held (OfKind q) variables stands among = λ y state is held. by y state is held (cases_eq y x)
    where
      by : (y : ℕ) (state : State) → state_at p q.kind q.state ≡ Some state → Held state (q.at + 1) y → (y ≡ x) ⊎ (y ≢ x) → Has y (x ∷ apart x variables)
      by y state is held (inl e) = (0, ap Some (sym e))
      by y state is held (inr ne) =
          let before : Held state q.at y = held-past state q.at x y (stands.0).instr (stands-there p q state stands.0 is stands.1) stands.2 held ne in
          let t = has-apart x y variables (among y state is before) ne in (suc t.0, t.1)
  past-held (OfMembers units next) variables stands among = absurd stands

  -- and they name no more, but for the new unit
  past-needed : (body : BodyOf ℕ) (variables : List ℕ) (w : ℕ) → StandsAsking p x body → times w (needed (with_future x (Some u) (passed_on body)) (x ∷ apart x variables)) ≤ times w (needed body variables) + one_if (u == w)
  past-needed (OfKind q) variables w stands = omega (
    arith,
    times-present w (future_at (slice_set q.futures x (Some u)) x) (map (future_at (slice_set q.futures x (Some u))) (apart x variables)),
    set-weight q.futures x u w,
    apart-names (future_at q.futures) (future_at (slice_set q.futures x (Some u))) x w (λ y ne. get_or-set_other q.futures x y (Some u) None ne) variables,
  )
  past-needed (OfMembers units next) variables w stands = absurd stands

-- One run changes: where its frame needs no more than what is gained beside what is lost, the references are enough still.
module _ (p : Program) (futures left : List ℕ) (runs : List Run) (r : Run) (has_run : Has r runs) (few : passing (is_run_at r.unit) runs ≤ 1) (f : Run → Run) (loses gains : ℕ → ℕ) where
  -- the variables that count afterwards
  abbrev pub Change : List ℕ → Type 0
  Change variables = (variables' : List ℕ) × Covers p (f r) variables'
      × ((w : ℕ) → times w (needed (body_at p (slice_index (f r).words)) variables') + loses w ≤ times w (needed (body_at p (slice_index r.words)) variables) + gains w)

  -- so the pass has references for all frames
  pub bag-one : ((variables : List ℕ) → Covers p r variables → Change variables) → ((w : ℕ) → times w futures + gains w ≤ times w left + loses w) → BagSound p (record { futures = futures; runs = runs })
      → BagSound p (record { futures = left; runs = changed (is_run_at r.unit) f runs })
  bag-one change enough was = subst (λ (l : List Run). BagSound p (record { futures = left; runs = l })) (sym (changed-one (is_run_at r.unit) f runs has_run.0 r has_run.1 (eq-eqb r.unit r.unit refl) few))
      (record {
        pairs = slice_set was.pairs has_run.0 (f r, new.0);
        are_runs = map-set (λ (x : Run × List ℕ). x.0) was.pairs has_run.0 (f r, new.0) ∙ ap (λ (l : List Run). slice_set l has_run.0 (f r)) was.are_runs;
        covers = each-set (λ (x : Run × List ℕ). Covers p x.0 x.1) was.pairs has_run.0 (f r, new.0) was.covers new.1;
        enough = λ w. omega (
          arith,
          was.enough w,
          total-set (λ (x : Run × List ℕ). times w (needed (body_at p (slice_index x.0.words)) x.1)) was.pairs has_run.0 mine.0 (f r, new.0) mine.1,
          new.2 w,
          enough w,
          ap (λ (x : Run). times w (needed (body_at p (slice_index x.words)) mine.0.1)) mine.2,
        );
      })
    where
      mine : (z : Run × List ℕ) × At was.pairs has_run.0 z × (z.0 ≡ r)
      mine = map_at (λ (z : Run × List ℕ). z.0) was.pairs has_run.0 r (subst (λ (l : List Run). At l has_run.0 r) (sym was.are_runs) has_run.1)

      new : Change mine.0.1
      new = change mine.0.1 (subst (λ (x : Run). Covers p x mine.0.1) mine.2 (was.covers has_run.0 mine.0 mine.1))

-- one reference more is enough past an act that asks for a task
pub acts-cover : ActsCover
acts-cover p futures runs r has_run few past u is = bag-one p futures (u ∷ futures) runs r has_run few (past_act past) (λ w. 0) (λ w. one_if (u == w))
    (λ variables covers. (
      is.variable ∷ apart is.variable variables,
      (
        differ-cons is.variable (apart is.variable variables) (λ j at. (apart-has is.variable is.variable variables (j, at)).1 refl) (differ-apart is.variable variables covers.0),
        subst (λ (b : BodyOf ℕ). HeldAmong p b (is.variable ∷ apart is.variable variables)) (sym is.is) (past-held p is.variable u (body_at p (slice_index r.words)) variables is.asks covers.1),
      ),
      λ w. omega (
        arith,
        past-needed p is.variable u (body_at p (slice_index r.words)) variables w is.asks,
        ap (λ (b : BodyOf ℕ). times w (needed b (is.variable ∷ apart is.variable variables))) is.is,
      ),
    ))
    (λ w. omega arith)

-- the frame of a body, if it is a task's
abbrev frame_in : FrameOf ℕ → BodyOf ℕ → FrameOf ℕ
frame_in other (OfKind q) = q
frame_in other (OfMembers units next) = other

abbrev is_members : BodyOf ℕ → Bool
is_members (OfKind q) = false
is_members (OfMembers units next) = true

-- such an act moves the frame
pub acts-move : ActsMove
acts-move p words past u is way formed = by (is_aggregate (slice_index words 0)) refl (is_aggregate (slice_index past 0)) refl
  where
    by : (b : Bool) → is_aggregate (slice_index words 0) ≡ b → (c : Bool) → is_aggregate (slice_index past 0) ≡ c → IsMovedFrame p words past
    by true e c e' = absurd (subst (StandsAsking p is.variable) (body-of_members p words e) is.asks)
    by false e true e' = absurd (true≢false (ap is_members (sym (body-of_members p past e') ∙ is.is ∙ ap (λ (b : BodyOf ℕ). with_future is.variable (Some u) (passed_on b)) (body-of_task p words e))))
    by false e false e' =
        let q : FrameOf ℕ = frame_at p (slice_index words) in
        let moved : FrameOf ℕ = record q { at = q.at + 1; futures = slice_set q.futures is.variable (Some u) } in
        let same : frame_at p (slice_index past) ≡ moved =
        ap (frame_in q) (sym (body-of_task p past e') ∙ is.is ∙ ap (λ (b : BodyOf ℕ). with_future is.variable (Some u) (passed_on b)) (body-of_task p words e)) in
        let stands : StandsAsking p is.variable (OfKind q) = subst (StandsAsking p is.variable) (body-of_task p words e) is.asks in
        record {
          single = e;
          next_single = e';
          kind = ap (λ (f : FrameOf ℕ). f.kind) same;
          way = subst (HasWay p) (sym same) (way-on p q moved stands.0 stands.1 (asks-remains (stands.0).instr is.variable stands.2) refl refl refl way);
          formed = formed;
        }
