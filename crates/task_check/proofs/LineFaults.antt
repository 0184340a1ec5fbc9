-- The faults of a line, cause by cause, by the checker's answers and by the ways.
use Rattle.std.proofs.Common.{◌≡◌, ℕ, ◌<◌, Option, Some, List, [], ◌∷◌, length, slice_get, refl, sym, ◌∙◌, ap, subst, ◌⊎◌, inl, inr, arith, IsTrue}
use Rattle.task_syntax.specs.Valid.{Way, Held, Settled, WillSettle, Agrees, sort_of}
use Rattle.task_syntax.specs.declared.instr.Argument.{Argument}
use Rattle.task_syntax.specs.declared.instr.Instr.{Instr}
use Rattle.task_syntax.specs.declared.instr.Instr.TheVariants.{Set, Math, If, Goto, Label, Cell, Rows, Spawn, All, Copy, Drop, Get, Again, Done}
use Rattle.task_syntax.specs.declared.instr.Line.{Line}
use Rattle.task_syntax.specs.declared.program.State.{State}
use Rattle.task_syntax.specs.declared.program.Kind.{Kind}
use Rattle.task_syntax.specs.declared.program.Program.{Program}
use Rattle.task_check.specs.declared.fault.Cause.{Cause}
use Rattle.task_check.specs.declared.fault.Cause.TheVariants.{FrameTooLarge, BadCount, NotHeld, NotSettled, StateNeeds}
use Rattle.task_check.specs.declared.fault.Found.{Found}
use Rattle.task_check.specs.declared.known.Known.{Known}
use Rattle.task_check.specs.Asks.{future_in, passed_settled, asks_held, asks_settled}
use Rattle.task_check.specs.Known.{in_set, knows, will_settle}
use Rattle.task_check.specs.Ways.{Agreed}
use Rattle.task_check.specs.Faults.{IsFirst, Lacks, LacksBehind, LacksForState, IsMisfit, HasCause, LineFault}
use Rattle.task_check.specs.Parts.{LackingFault, LacksAnswers, IsFormedLine, earlier_of}
use Rattle.task_check.proofs.First.{first-same, first-earlier}
use Rattle.task_check.proofs.Lacks.{same-some, lacks-same, lacks-front, front-lacks, held-way, way-held, settled-way, way-settled, will-way, way-will, behind-within}

-- the entry state of a kind
pub entry-of : (k : Kind) → 0 < length k.states → (entry : State) × (slice_get k.states 0 ≡ Some entry)
entry-of k h = first k.states h where
  first : (states : List State) → 0 < length states → (entry : State) × (slice_get states 0 ≡ Some entry)
  first [] n = absurd (omega arith)
  first (s ∷ states) n = (s, refl)

-- the fault of a misfit, where the instruction is a spawn
pub misfit-spawn : (p : Program) (line : ℕ) (instr : Instr) (to callee : ℕ) (arguments : List Argument) (behind : Option ℕ) (priority : _) (retry : _) (k : Kind)
    → instr ≡ Spawn to callee arguments behind priority retry → slice_get p.kinds callee ≡ Some k → (r : Option Found)
    → IsFirst (λ f. (f.line ≡ line) × (f.cause ≡ BadCount) × (f.position ≡ 0) × (f.name ≡ k.name) × ¬ Agrees sort_of k arguments) r
    → IsFirst (λ f. (f.line ≡ line) × (f.cause ≡ BadCount) × (f.position ≡ 0) × IsMisfit p instr f.name) r
misfit-spawn p line instr to callee arguments behind priority retry k e stands r first =
    subst (λ i. IsFirst (λ f. (f.line ≡ line) × (f.cause ≡ BadCount) × (f.position ≡ 0) × IsMisfit p i f.name) r) (sym e)
    (first-same (λ f. (f.line ≡ line) × (f.cause ≡ BadCount) × (f.position ≡ 0) × (f.name ≡ k.name) × ¬ Agrees sort_of k arguments)
    (λ f. (f.line ≡ line) × (f.cause ≡ BadCount) × (f.position ≡ 0) × IsMisfit p (Spawn to callee arguments behind priority retry) f.name)
    (λ f m. (m.0, m.1, m.2, (k, stands, m.3, m.4)))
    (λ f m. let same : m.3.0 ≡ k = same-some (slice_get p.kinds callee) m.3.0 k m.3.1 stands in
    (m.0, m.1, m.2, m.3.2 ∙ ap (λ (c : Kind). c.name) same, λ a. m.3.3 (subst (λ c. Agrees sort_of c arguments) (sym same) a)))
    r first)

-- what the state lacks that a spawn or a respawn starts
pub needs-spawn : (p : Program) (kind : Kind) (known : Known) (line : ℕ) (instr : Instr) (to callee : ℕ) (arguments : List Argument) (behind : Option ℕ) (priority : _) (retry : _) (k : Kind) (entry : State)
    → instr ≡ Spawn to callee arguments behind priority retry → slice_get p.kinds callee ≡ Some k → slice_get k.states 0 ≡ Some entry → (r : Option Found)
    → ((e : State) → slice_get k.states 0 ≡ Some e → IsFirst (LackingFault line StateNeeds 0 kind (passed_settled future_in e.settled arguments) (λ x. IsTrue (will_settle (λ q. knows q known) behind x))) r)
    → IsFirst (λ f. (f.line ≡ line) × (f.cause ≡ StateNeeds) × LacksAnswers p kind known instr f.position f.name) r
needs-spawn p kind known line instr to callee arguments behind priority retry k entry e stands starts r first =
    subst (λ i. IsFirst (λ f. (f.line ≡ line) × (f.cause ≡ StateNeeds) × LacksAnswers p kind known i f.position f.name) r) (sym e)
    (first-same (LackingFault line StateNeeds 0 kind (passed_settled future_in entry.settled arguments) (λ x. IsTrue (will_settle (λ q. knows q known) behind x)))
    (λ f. (f.line ≡ line) × (f.cause ≡ StateNeeds) × LacksAnswers p kind known (Spawn to callee arguments behind priority retry) f.position f.name)
    (λ f m. (m.0, m.1, (k, entry, stands, starts, lacks-front kind (passed_settled future_in entry.settled arguments) (λ x. IsTrue (will_settle (λ q. knows q known) behind x)) f.position f.name m.2)))
    (λ f m.
    let same : m.2.0 ≡ k = same-some (slice_get p.kinds callee) m.2.0 k m.2.2 stands in
    let same_entry : m.2.1 ≡ entry = same-some (slice_get k.states 0) m.2.1 entry (subst (λ (c : Kind). slice_get c.states 0 ≡ Some m.2.1) same m.2.3) starts in (
      m.0,
      m.1,
      front-lacks kind (passed_settled future_in entry.settled arguments) (λ x. IsTrue (will_settle (λ q. knows q known) behind x)) f.position f.name
          (subst (λ (s : State). Lacks kind (passed_settled future_in s.settled arguments) (λ x. IsTrue (will_settle (λ q. knows q known) behind x)) f.position f.name) same_entry m.2.4),
    ))
    r (first entry starts))

-- what the target of a respawn lacks
pub needs-again : (p : Program) (kind : Kind) (known : Known) (line : ℕ) (instr : Instr) (target : ℕ) (behind : Option ℕ) (priority : _) (next : State)
    → instr ≡ Again target behind priority → slice_get kind.states target ≡ Some next → (r : Option Found)
    → IsFirst (λ f. LackingFault line StateNeeds 0 kind next.holds (λ x. IsTrue (in_set x known.held)) f
    ⊎ LackingFault line StateNeeds (length next.holds) kind next.settled (λ x. IsTrue (will_settle (λ q. knows q known) behind x)) f) r
    → IsFirst (λ f. (f.line ≡ line) × (f.cause ≡ StateNeeds) × LacksAnswers p kind known instr f.position f.name) r
needs-again p kind known line instr target behind priority next e stands r first =
    subst (λ i. IsFirst (λ f. (f.line ≡ line) × (f.cause ≡ StateNeeds) × LacksAnswers p kind known i f.position f.name) r) (sym e)
    (first-same (λ f. LackingFault line StateNeeds 0 kind next.holds (λ x. IsTrue (in_set x known.held)) f
    ⊎ LackingFault line StateNeeds (length next.holds) kind next.settled (λ x. IsTrue (will_settle (λ q. knows q known) behind x)) f)
    (λ f. (f.line ≡ line) × (f.cause ≡ StateNeeds) × LacksAnswers p kind known (Again target behind priority) f.position f.name)
    (λ f m. elim m [
      | inl l ↦ (l.0, l.1, (next, stands, inl (lacks-front kind next.holds (λ x. IsTrue (in_set x known.held)) f.position f.name l.2)))
      | inr l ↦ (l.0, l.1, (next, stands, inr l.2))
    ])
    (λ f m.
    let same : m.2.0 ≡ next = same-some (slice_get kind.states target) m.2.0 next m.2.1 stands in
    elim m.2.2 [
      | inl l ↦ inl (
        m.0,
        m.1,
        front-lacks kind next.holds (λ x. IsTrue (in_set x known.held)) f.position f.name
            (subst (λ (s : State). Lacks kind s.holds (λ x. IsTrue (in_set x known.held)) f.position f.name) same l),
      )
      | inr l ↦ inr (m.0, m.1, subst (λ (s : State). LacksBehind (length s.holds) kind s.settled (λ x. IsTrue (will_settle (λ q. knows q known) behind x)) f.position f.name) same l)
    ])
    r first)

-- the faults of a line by cause
module _ (p : Program) (kind : Kind) (state : State) (at : ℕ) (known : Known) (agreed : Agreed (length kind.variables) (Way state at) (λ q. knows q known)) where
  needs-way : (instr : Instr) → IsFormedLine p kind instr → (position : ℕ) (name : List ℕ) → LacksAnswers p kind known instr position name → LacksForState p kind state at instr position name
  needs-way (Spawn to callee arguments behind priority retry) formed position name l = (
    l.0,
    l.1,
    l.2,
    l.3,
    lacks-same kind (passed_settled future_in l.1.settled arguments) (λ x. IsTrue (will_settle (λ q. knows q known) behind x)) (WillSettle state at behind)
        (λ x h w. way-will (length kind.variables) state at (λ q. knows q known) agreed behind (behind-within kind behind formed.2.4) x h w) position name l.4,
  )
  needs-way (Again target behind priority) formed position name l = (
    l.0,
    l.1,
    elim l.2 [
      | inl m ↦ inl (lacks-same kind l.0.holds (λ x. IsTrue (in_set x known.held)) (Held state at) (λ x h w. way-held (length kind.variables) state at (λ q. knows q known) agreed x h w) position name m)
      | inr m ↦ inr (
        m.0,
        m.1,
        lacks-same kind l.0.settled (λ x. IsTrue (will_settle (λ q. knows q known) behind x)) (WillSettle state at behind)
            (λ x h w. way-will (length kind.variables) state at (λ q. knows q known) agreed behind (behind-within kind behind formed.2.1) x h w) m.0 name m.2,
      )
    ],
  )
  needs-way (All a b c d) formed position name l = absurd l
  needs-way (Copy a b) formed position name l = absurd l
  needs-way (Drop a) formed position name l = absurd l
  needs-way (Get a b) formed position name l = absurd l
  needs-way (Set a b) formed position name l = absurd l
  needs-way (Math a b c d) formed position name l = absurd l
  needs-way (If a b c d) formed position name l = absurd l
  needs-way (Goto a) formed position name l = absurd l
  needs-way (Label a) formed position name l = absurd l
  needs-way (Cell a b c) formed position name l = absurd l
  needs-way (Rows a b) formed position name l = absurd l
  needs-way (Done a) formed position name l = absurd l

  way-needs : (instr : Instr) → IsFormedLine p kind instr → (position : ℕ) (name : List ℕ) → LacksForState p kind state at instr position name → LacksAnswers p kind known instr position name
  way-needs (Spawn to callee arguments behind priority retry) formed position name l = (
    l.0,
    l.1,
    l.2,
    l.3,
    lacks-same kind (passed_settled future_in l.1.settled arguments) (WillSettle state at behind) (λ x. IsTrue (will_settle (λ q. knows q known) behind x))
        (λ x h w. will-way (length kind.variables) state at (λ q. knows q known) agreed behind (behind-within kind behind formed.2.4) x h w) position name l.4,
  )
  way-needs (Again target behind priority) formed position name l = (
    l.0,
    l.1,
    elim l.2 [
      | inl m ↦ inl (lacks-same kind l.0.holds (Held state at) (λ x. IsTrue (in_set x known.held)) (λ x h w. held-way (length kind.variables) state at (λ q. knows q known) agreed x h w) position name m)
      | inr m ↦ inr (
        m.0,
        m.1,
        lacks-same kind l.0.settled (WillSettle state at behind) (λ x. IsTrue (will_settle (λ q. knows q known) behind x))
            (λ x h w. will-way (length kind.variables) state at (λ q. knows q known) agreed behind (behind-within kind behind formed.2.1) x h w) m.0 name m.2,
      )
    ],
  )
  way-needs (All a b c d) formed position name l = absurd l
  way-needs (Copy a b) formed position name l = absurd l
  way-needs (Drop a) formed position name l = absurd l
  way-needs (Get a b) formed position name l = absurd l
  way-needs (Set a b) formed position name l = absurd l
  way-needs (Math a b c d) formed position name l = absurd l
  way-needs (If a b c d) formed position name l = absurd l
  way-needs (Goto a) formed position name l = absurd l
  way-needs (Label a) formed position name l = absurd l
  way-needs (Cell a b c) formed position name l = absurd l
  way-needs (Rows a b) formed position name l = absurd l
  way-needs (Done a) formed position name l = absurd l

  abbrev Misfits : Line → Found → Type 0
  Misfits line f = (f.line ≡ line.line) × (f.cause ≡ BadCount) × (f.position ≡ 0) × IsMisfit p line.instr f.name

  abbrev Unheld : Line → Found → Type 0
  Unheld line = LackingFault line.line NotHeld 0 kind (asks_held line.instr) (λ x. IsTrue (in_set x known.held))

  abbrev Unsettled : Line → Found → Type 0
  Unsettled line = LackingFault line.line NotSettled 0 kind (asks_settled line.instr) (λ x. IsTrue (in_set x known.settled))

  abbrev Needy : Line → Found → Type 0
  Needy line f = (f.line ≡ line.line) × (f.cause ≡ StateNeeds) × LacksAnswers p kind known line.instr f.position f.name

  with-cause : (line : Line) (f : Found) (c : Cause) → f.line ≡ line.line → f.cause ≡ c → HasCause p kind state at line.instr c f.position f.name → LineFault p kind state at line f
  with-cause line f c l e h = (l, subst (λ k. HasCause p kind state at line.instr k f.position f.name) (sym e) h)

  to-way : (line : Line) → IsFormedLine p kind line.instr → (f : Found) → (Misfits line f ⊎ Unheld line f) ⊎ (Unsettled line f ⊎ Needy line f) → LineFault p kind state at line f
  to-way line formed f (inl (inl m)) = with-cause line f BadCount m.0 m.1 (m.2, m.3)
  to-way line formed f (inl (inr m)) = with-cause line f NotHeld m.0 m.1
      (lacks-same kind (asks_held line.instr) (λ x. IsTrue (in_set x known.held)) (Held state at) (λ x h w. way-held (length kind.variables) state at (λ q. knows q known) agreed x h w) f.position f.name
      (lacks-front kind (asks_held line.instr) (λ x. IsTrue (in_set x known.held)) f.position f.name m.2))
  to-way line formed f (inr (inl m)) = with-cause line f NotSettled m.0 m.1
      (lacks-same kind (asks_settled line.instr) (λ x. IsTrue (in_set x known.settled)) (Settled state at) (λ x h w. way-settled (length kind.variables) state at (λ q. knows q known) agreed x h w) f.position f.name
      (lacks-front kind (asks_settled line.instr) (λ x. IsTrue (in_set x known.settled)) f.position f.name m.2))
  to-way line formed f (inr (inr m)) = with-cause line f StateNeeds m.0 m.1 (needs-way line.instr formed f.position f.name m.2)

  by-cause : (line : Line) → IsFormedLine p kind line.instr → (f : Found) → f.line ≡ line.line → (c : Cause) → f.cause ≡ c → HasCause p kind state at line.instr c f.position f.name → (Misfits line f ⊎ Unheld line f) ⊎ (Unsettled line f ⊎ Needy line f)
  by-cause line formed f l FrameTooLarge e h = absurd h
  by-cause line formed f l BadCount e h = inl (inl (l, e, h.0, h.1))
  by-cause line formed f l NotHeld e h = inl (inr (
    l,
    e,
    front-lacks kind (asks_held line.instr) (λ x. IsTrue (in_set x known.held)) f.position f.name
        (lacks-same kind (asks_held line.instr) (Held state at) (λ x. IsTrue (in_set x known.held)) (λ x i w. held-way (length kind.variables) state at (λ q. knows q known) agreed x i w) f.position f.name h),
  ))
  by-cause line formed f l NotSettled e h = inr (inl (
    l,
    e,
    front-lacks kind (asks_settled line.instr) (λ x. IsTrue (in_set x known.settled)) f.position f.name
        (lacks-same kind (asks_settled line.instr) (Settled state at) (λ x. IsTrue (in_set x known.settled)) (λ x i w. settled-way (length kind.variables) state at (λ q. knows q known) agreed x i w) f.position f.name h),
  ))
  by-cause line formed f l StateNeeds e h = inr (inr (l, e, way-needs line.instr formed f.position f.name h))

  -- the earliest of a line's four faults is its first
  pub line-first : (line : Line) → IsFormedLine p kind line.instr → (a b c d : Option Found) → IsFirst (Misfits line) a → IsFirst (Unheld line) b → IsFirst (Unsettled line) c → IsFirst (Needy line) d
      → IsFirst (LineFault p kind state at line) (earlier_of (earlier_of a b) (earlier_of c d))
  line-first line formed a b c d first_a first_b first_c first_d =
      first-same (λ f. (Misfits line f ⊎ Unheld line f) ⊎ (Unsettled line f ⊎ Needy line f)) (LineFault p kind state at line)
      (λ f m. to-way line formed f m) (λ f m. by-cause line formed f m.0 f.cause refl m.1)
      (earlier_of (earlier_of a b) (earlier_of c d))
      (first-earlier (λ f. Misfits line f ⊎ Unheld line f) (λ f. Unsettled line f ⊎ Needy line f) (earlier_of a b) (earlier_of c d)
      (first-earlier (Misfits line) (Unheld line) a b first_a first_b) (first-earlier (Unsettled line) (Needy line) c d first_c first_d))
