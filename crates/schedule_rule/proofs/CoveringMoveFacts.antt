-- A frame that runs moves on, and the references are enough still.
use Rattle.std.proofs.Common.{◌≡◌, ◌≢◌, ◌∙◌, ◌⊎◌, inl, inr, ℕ, zero, suc, ◌+◌, ◌≤◌, ◌==◌, Bool, true, false, cond, nat_eq, Option, Some, None, List, [], ◌∷◌, map, refl, sym, ap, subst, true≢false, arith}
use Rattle.std.specs.Prelude.{slice_index, IsTrue}
use Rattle.std.proofs.lemmas.Bool.{cases_eq, eq-eqb, eqb-true, ne_eqb}
use Rattle.record_core.specs.Counting.{At, Has, one_if, passing, times, dropped}
use Rattle.record_core.proofs.TotalFacts.{none_there}
use Rattle.task_meaning.specs.Frame.{FrameOf, state_at}
use Rattle.task_meaning.specs.Meant.{future_at}
use Rattle.task_syntax.proofs.Bools.{either, has-without}
use Rattle.task_syntax.proofs.Differ.{differ-cons}
use Rattle.task_syntax.specs.Facts.{Facts, has, without, renewed, members_of, after}
use Rattle.task_syntax.specs.Form.{Leaves}
use Rattle.task_syntax.specs.Places.{AllDiffer}
use Rattle.task_syntax.specs.Valid.{JumpsTo, Way, Held, goes_on, jumps}
use Rattle.task_syntax.specs.declared.columns.Columns.{Columns}
use Rattle.task_syntax.specs.declared.instr.Instr.{Instr}
use Rattle.task_syntax.specs.declared.instr.Instr.TheVariants.{Spawn, All, Get, Copy, Drop}
use Rattle.task_syntax.specs.declared.program.Program.{Program}
use Rattle.task_syntax.specs.declared.program.State.{State}
use Rattle.frame_code.specs.Names.{present}
use Rattle.frame_code.specs.Stops.{StandsAt, stop_at, Passes, GoesTo, stays, passes}
use Rattle.frame_code.specs.Words.{BodyOf, OfKind, body_at}
use Rattle.frame_code.proofs.FrameWays.{stands-there, goes-keeps}
use Rattle.frame_code.proofs.Formed.{Moves, passes-moves}
use Rattle.table_core.specs.Holdings.{Run}
use Rattle.table_core.specs.RecordViews.{is_at}
use Rattle.table_core.specs.WaitViews.{is_run_at}
use Rattle.table_core.proofs.BagFacts.{times-dropped}
use Rattle.table_core.proofs.ListFacts.{same_some}
use Rattle.schedule_rule.specs.CoveringMoves.{IsNextBut, LinesCover, ReadsCover, CopiesCover, DropsCover}
use Rattle.schedule_rule.specs.DrawViews.{changed}
use Rattle.schedule_rule.specs.Frames.{HeldAmong, needed, BagSound}
use Rattle.schedule_rule.specs.LifeViews.{with_words}
use Rattle.schedule_rule.proofs.CoveringFacts.{bag-one, apart, has-apart, apart-has, differ-apart, weight, times-present, apart-names}

-- a line where a frame does not stop changes nothing that is held
none-held : (c : Columns) (instr : Instr) (q : FrameOf ℕ) (y : ℕ) (f : Facts) → stop_at c instr q ≡ None → IsTrue (has y (after instr f).held) → IsTrue (has y f.held)
none-held c (Spawn to kind arguments waits priority retry) q y f none held = absurd (none_there _ (sym none))
none-held c (All to members priority retry) q y f none held = absurd (none_there _ (sym none))
none-held c (Copy to source) q y f none held = absurd (none_there _ (sym none))
none-held c (Drop x) q y f none held = absurd (none_there _ (sym none))
none-held c instr q y f none held = held

-- what is held where the frame goes on to was held
pub held-before : (p : Program) (c : Columns) (q next : FrameOf ℕ) → Passes p c q next → (state : State) → state_at p next.kind next.state ≡ Some state → (y : ℕ) → Held state next.at y
    → (state_at p q.kind q.state ≡ Some state) × Held state q.at y
held-before p c q next (line, stands, act) state is y held = (is', λ f way. by moves.goes f way)
  where
    moves : Moves line.instr q next
    moves = passes-moves q next c line.instr act.0 act.1

    is' : state_at p q.kind q.state ≡ Some state
    is' = ap (λ (k : ℕ). state_at p k q.state) (sym moves.kind) ∙ ap (state_at p next.kind) (sym moves.state) ∙ is

    by : ((next.at ≡ q.at + 1) × ¬ Leaves line.instr) ⊎ JumpsTo line.instr next.at → (f : Facts) → Way state q.at f → IsTrue (has y f.held)
    by (inl t) f way = none-held c line.instr q y f act.0
        (held (after line.instr f) (subst (λ (k : ℕ). Way state k (after line.instr f)) (sym t.0) (goes_on line.instr way (stands-there p q state line is' stands) t.1)))
    by (inr j) f way = held f (jumps line.instr next.at way (stands-there p q state line is' stands) j)

-- so it is among the same variables
line-held : (p : Program) (c : Columns) (q next : FrameOf ℕ) (variables : List ℕ) → Passes p c q next → HeldAmong p (OfKind q) variables → HeldAmong p (OfKind next) variables
line-held p c q next variables over among y state is held = let t = held-before p c q next over state is y held in among y state t.0 t.1

-- so it is over all lines
lines-held : (p : Program) (c : Columns) (q last : FrameOf ℕ) (variables : List ℕ) → GoesTo p c q last → HeldAmong p (OfKind q) variables → HeldAmong p (OfKind last) variables
lines-held p c q last variables stays among = among
lines-held p c q last variables (passes {at} {next} goes more) among = line-held p c at next variables more (lines-held p c q at variables goes among)

-- Moves of a frame, in words.
module _ (p : Program) (futures : List ℕ) (runs : List Run) (r : Run) (q next : FrameOf ℕ) (has_run : Has r runs) (few : passing (is_run_at r.unit) runs ≤ 1)
    (was : body_at p (slice_index r.words) ≡ OfKind q) (words : List ℕ) (is : body_at p (slice_index words) ≡ OfKind next) where
  -- where what is held is among other variables that name no more than is gained beside what is lost
  moved : (left : List ℕ) (loses gains : ℕ → ℕ)
      → ((variables : List ℕ) → AllDiffer variables → HeldAmong p (OfKind q) variables → (variables' : List ℕ) × AllDiffer variables' × HeldAmong p (OfKind next) variables'
      × ((w : ℕ) → times w (present (map (future_at next.futures) variables')) + loses w ≤ times w (present (map (future_at q.futures) variables)) + gains w))
      → ((w : ℕ) → times w futures + gains w ≤ times w left + loses w) → BagSound p (record { futures = futures; runs = runs }) → BagSound p (record { futures = left; runs = changed (is_run_at r.unit) (with_words words) runs })
  moved left loses gains change enough = bag-one p futures left runs r has_run few (with_words words) loses gains
      (λ variables covers. let t = change variables covers.0 (subst (λ (b : BodyOf ℕ). HeldAmong p b variables) was covers.1) in (
        t.0,
        (t.1, subst (λ (b : BodyOf ℕ). HeldAmong p b t.0) (sym is) t.2),
        λ w. omega (arith, t.3 w, ap (λ (b : BodyOf ℕ). times w (needed b t.0)) is, ap (λ (b : BodyOf ℕ). times w (needed b variables)) was),
      ))
      enough

-- over lines
pub lines-cover : LinesCover
lines-cover p c futures runs r q last goes has_run few was words is = moved p futures runs r q last has_run few was words is futures (λ w. 0) (λ w. 0)
    (λ variables differ among. (variables, differ, lines-held p c q last variables goes among, λ w. omega (arith, ap (λ (fs : List (Option ℕ)). times w (present (map (future_at fs) variables))) (goes-keeps p c q last goes).futures)))
    (λ w. omega arith)

-- what is held at the next line, behind an instruction that goes on
next-held : (p : Program) (x : ℕ) (q next : FrameOf ℕ) (instr : Instr) → StandsAt p (λ line. line.instr ≡ instr) q → IsNextBut x q next → ¬ Leaves instr → (state : State) → state_at p next.kind next.state ≡ Some state
    → (y : ℕ) → Held state next.at y → (state_at p q.kind q.state ≡ Some state) × ((f : Facts) → Way state q.at f → IsTrue (has y (after instr f).held))
next-held p x q next instr (line, stands, same) but remains state is y held = (
  is',
  λ f way. held (after instr f) (subst (λ (k : ℕ). Way state k (after instr f)) (sym but.at) (goes_on instr way (stands-there p q state line is' stands ∙ ap Some same) remains)),
)
  where
    is' : state_at p q.kind q.state ≡ Some state
    is' = ap (λ (k : ℕ). state_at p k q.state) (sym but.kind) ∙ ap (state_at p next.kind) (sym but.state) ∙ is

-- past a read
pub reads-cover : ReadsCover
reads-cover p futures runs r q next to x stands but same has_run few was words is = moved p futures runs r q next has_run few was words is futures (λ w. 0) (λ w. 0)
    (λ variables differ among. (
      variables,
      differ,
      (λ y state there held. let t = next-held p to q next (Get to x) stands but (λ leaves. leaves) state there y held in among y state t.0 t.1),
      λ w. omega (arith, ap (λ (fs : List (Option ℕ)). times w (present (map (future_at fs) variables))) same),
    ))
    (λ w. omega arith)

-- what is held behind a copy was held, or is its variable
pub copy-held : (to source y : ℕ) (f : Facts) → IsTrue (has y (after (Copy to source) f).held) → (y ≡ to) ⊎ IsTrue (has y f.held)
copy-held to source y f held = by (nat_eq to source) held
  where
    by : (b : Bool) → IsTrue (has y (cond b f (renewed to (has source f.settled) (members_of source f.members) f)).held) → (y ≡ to) ⊎ IsTrue (has y f.held)
    by true it = inr it
    by false it = elim (either (nat_eq y to) (has y (without to f.held)) it) [ inl s ↦ inl (eqb-true y to s) | inr s ↦ inr (has-without y to f.held s).1 ]

-- past a copy
pub copies-cover : CopiesCover
copies-cover p futures runs r q next to source u stands but names has_run few was words is = moved p futures runs r q next has_run few was words is (u ∷ futures) (λ w. 0) (λ w. one_if (u == w))
    (λ variables differ among. (
      to ∷ apart to variables,
      differ-cons to (apart to variables) (λ j at. (apart-has to to variables (j, at)).1 refl) (differ-apart to variables differ),
      (λ y state there held. by variables among y state (next-held p to q next (Copy to source) stands but (λ leaves. leaves) state there y held) (cases_eq y to)),
      λ w. omega (
        arith,
        times-present w (future_at next.futures to) (map (future_at next.futures) (apart to variables)),
        ap (weight w) names,
        apart-names (future_at q.futures) (future_at next.futures) to w but.futures variables,
      ),
    ))
    (λ w. omega arith)
  where
    by : (variables : List ℕ) → HeldAmong p (OfKind q) variables → (y : ℕ) (state : State) → (state_at p q.kind q.state ≡ Some state) × ((f : Facts) → Way state q.at f → IsTrue (has y (after (Copy to source) f).held))
        → (y ≡ to) ⊎ (y ≢ to) → Has y (to ∷ apart to variables)
    by variables among y state t (inl e) = (0, ap Some (sym e))
    by variables among y state t (inr ne) =
        let before : Held state q.at y = λ f way. elim (copy-held to source y f (t.1 f way)) [ inl e ↦ absurd (ne e) | inr it ↦ it ] in
        let there = has-apart to y variables (among y state t.0 before) ne in (suc there.0, there.1)

-- without x, which names u, other variables name one u less
apart-less : (f f' : ℕ → Option ℕ) (x u w : ℕ) → f x ≡ Some u → ((y : ℕ) → y ≢ x → f' y ≡ f y) → (l : List ℕ) → Has x l → times w (present (map f' (apart x l))) + one_if (u == w) ≤ times w (present (map f l))
apart-less f f' x u w names same [] there = absurd (none_there x there.1)
apart-less f f' x u w names same (y ∷ l) there = by (λ deeper. apart-less f f' x u w names same l deeper) (cases_eq y x) there.0 there.1
  where
    by : (Has x l → times w (present (map f' (apart x l))) + one_if (u == w) ≤ times w (present (map f l))) → (y ≡ x) ⊎ (y ≢ x) → (k : ℕ) → At (y ∷ l) k x
        → times w (present (map f' (apart x (y ∷ l)))) + one_if (u == w) ≤ times w (present (map f (y ∷ l)))
    by rest (inl e) k at = omega (
      arith,
      apart-names f f' x w same l,
      times-present w (f y) (map f l),
      ap (weight w) (ap f e ∙ names),
      ap (λ (b : Bool). times w (present (map f' (cond b (apart x l) (y ∷ apart x l))))) (eq-eqb y x e),
    )
    by rest (inr ne) zero at = absurd (ne (same_some y x at))
    by rest (inr ne) (suc k) at = omega (
      arith,
      rest (k, at),
      times-present w (f y) (map f l),
      times-present w (f' y) (map f' (apart x l)),
      ap (weight w) (same y ne),
      ap (λ (b : Bool). times w (present (map f' (cond b (apart x l) (y ∷ apart x l))))) (ne_eqb y x ne),
    )

-- past a drop
pub drops-cover : DropsCover
drops-cover p futures runs r q next x u stands but way is_held names some has_run few was words is = moved p futures runs r q next has_run few was words is (dropped (is_at u) futures) (λ w. one_if (u == w)) (λ w. 0)
    (λ variables differ among. (
      apart x variables,
      differ-apart x variables differ,
      (λ y state there held. by variables among y state (next-held p x q next (Drop x) stands but (λ leaves. leaves) state there y held)),
      λ w. omega (arith, apart-less (future_at q.futures) (future_at next.futures) x u w names but.futures variables (among x way.0 way.2 (is_held way.0 way.2))),
    ))
    (λ w. omega (arith, times-dropped u w futures some))
  where
    by : (variables : List ℕ) → HeldAmong p (OfKind q) variables → (y : ℕ) (state : State) → (state_at p q.kind q.state ≡ Some state) × ((f : Facts) → Way state q.at f → IsTrue (has y (after (Drop x) f).held))
        → Has y (apart x variables)
    by variables among y state t =
        let before : Held state q.at y = λ f w. (has-without y x f.held (t.1 f w)).1 in
        let same : way.0 ≡ state = same_some way.0 state (sym way.2 ∙ t.0) in
        has-apart x y variables (among y state t.0 before)
        (λ e. true≢false (sym (eq-eqb x y (sym e)) ∙ (has-without y x (way.1).held (t.1 way.1 (subst (λ (z : State). Way z q.at way.1) same way.3))).0))
