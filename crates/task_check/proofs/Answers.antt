-- What facts say behind an instruction is answered by what they said before it, and each answer is fixed or is one of those.
use Rattle.std.proofs.Common.{◌≡◌, ◌≢◌, ℕ, ◌<◌, Bool, true, false, not, ◌&&◌, nat_eq, List, [], ◌∷◌, refl, sym, ◌∙◌, inl, inr, eq-eqb}
use Rattle.std.proofs.lemmas.Bool.{cases_eq}
use Rattle.task_syntax.specs.Facts.{Facts, has, without, members_of, forget, after, renewed, given_up}
use Rattle.task_syntax.specs.declared.instr.Instr.{Instr}
use Rattle.task_syntax.specs.declared.instr.Instr.TheVariants.{Set, Math, If, Goto, Label, Cell, Rows, Spawn, All, Copy, Drop, Get, Again, Done}
use Rattle.task_check.specs.Known.{Question, held, settled, member, IsAbout, says, renewed_answer, given_up_answer, answer_after, IsWithin}
use Rattle.task_check.proofs.Masks.{not_eq}

-- both ways round, equal numbers pass the test and others do not
nat_eq-same : (x y : ℕ) → x ≡ y → (nat_eq x y ≡ true) × (nat_eq y x ≡ true)
nat_eq-same x y e = (eq-eqb x y e, eq-eqb y x (sym e))

nat_eq-other : (x y : ℕ) → x ≢ y → (nat_eq x y ≡ false) × (nat_eq y x ≡ false)
nat_eq-other x y n = (not_eq x y n, not_eq y x (λ e. n (sym e)))

-- a list without x has what it had, but x
pub has-without : (x y : ℕ) (ys : List ℕ) → has y (without x ys) ≡ (not (nat_eq x y) && has y ys)
has-without x y [] = elim (cases_eq x y) [ inl e ↦ rw ((nat_eq-same x y e).0) refl | inr n ↦ rw ((nat_eq-other x y n).0) refl ]
has-without x y (z ∷ zs) = elim (cases_eq x z) [
  | inl e ↦ elim (cases_eq x y) [
    | inl f ↦ rw ((nat_eq-same x z e).0, has-without x y zs, (nat_eq-same x y f).0) refl
    | inr n ↦ rw ((nat_eq-same x z e).0, has-without x y zs, (nat_eq-other x y n).0, (nat_eq-other z y (λ g. n (e ∙ g))).1) refl
  ]
  | inr m ↦ elim (cases_eq x y) [
    | inl f ↦ rw ((nat_eq-other x z m).0, has-without x y zs, (nat_eq-same x y f).0, (nat_eq-other z y (λ g. m (f ∙ sym g))).1) refl
    | inr n ↦ rw ((nat_eq-other x z m).0, has-without x y zs, (nat_eq-other x y n).0) refl
  ]
]

-- the lists of the others without x, and no list of x
members_of-forget_same : (g x : ℕ) (ms : List (ℕ × List ℕ)) → g ≡ x → members_of g (forget x ms) ≡ []
members_of-forget_same g x [] e = refl
members_of-forget_same g x ((z, zs) ∷ ms) e = elim (cases_eq x z) [
  | inl f ↦ rw ((nat_eq-same x z f).0) (members_of-forget_same g x ms e)
  | inr n ↦ rw ((nat_eq-other x z n).0, (nat_eq-other g z (λ f. n (sym e ∙ f))).0) (members_of-forget_same g x ms e)
]

members_of-forget_other : (g x y : ℕ) (ms : List (ℕ × List ℕ)) → g ≢ x → has y (members_of g (forget x ms)) ≡ (not (nat_eq x y) && has y (members_of g ms))
members_of-forget_other g x y [] n = has-without x y []
members_of-forget_other g x y ((z, zs) ∷ ms) n = elim (cases_eq x z) [
  | inl f ↦ rw ((nat_eq-same x z f).0, (nat_eq-other g z (λ h. n (h ∙ sym f))).0) (members_of-forget_other g x y ms n)
  | inr m ↦ elim (cases_eq g z) [
    | inl h ↦ rw ((nat_eq-other x z m).0, (nat_eq-same g z h).0) (has-without x y zs)
    | inr k ↦ rw ((nat_eq-other x z m).0, (nat_eq-other g z k).0) (members_of-forget_other g x y ms n)
  ]
]

-- the answers behind what names something new, and behind what gives up
says-renewed : (x : ℕ) (is_settled : Bool) (listed : List ℕ) (f : Facts) (q : Question) → says q (renewed x is_settled listed f) ≡ renewed_answer x is_settled (λ y. has y listed) (λ r. says r f) q
says-renewed x is_settled listed f (held y) = elim (cases_eq x y) [
  | inl e ↦ rw ((nat_eq-same x y e).1) refl
  | inr n ↦ rw ((nat_eq-other x y n).1, has-without x y f.held, (nat_eq-other x y n).0) refl
]
says-renewed x true listed f (settled y) = elim (cases_eq x y) [
  | inl e ↦ rw ((nat_eq-same x y e).1) refl
  | inr n ↦ rw ((nat_eq-other x y n).1, has-without x y f.settled, (nat_eq-other x y n).0) refl
]
says-renewed x false listed f (settled y) = elim (cases_eq x y) [
  | inl e ↦ rw (has-without x y f.settled, (nat_eq-same x y e).0, (nat_eq-same x y e).1) refl
  | inr n ↦ rw (has-without x y f.settled, (nat_eq-other x y n).0, (nat_eq-other x y n).1) refl
]
says-renewed x is_settled listed f (member g y) = elim (cases_eq g x) [
  | inl e ↦ rw ((nat_eq-same g x e).0) (has-without x y listed)
  | inr n ↦ rw ((nat_eq-other g x n).0) (members_of-forget_other g x y f.members n)
]

says-given_up : (x : ℕ) (f : Facts) (q : Question) → says q (given_up x f) ≡ given_up_answer x (λ r. says r f) q
says-given_up x f (held y) = has-without x y f.held
says-given_up x f (settled y) = has-without x y f.settled
says-given_up x f (member g y) = elim (cases_eq g x) [
  | inl e ↦ rw (members_of-forget_same g x f.members e, (nat_eq-same g x e).0) (has-without x y [])
  | inr n ↦ rw ((nat_eq-other g x n).0) (members_of-forget_other g x y f.members n)
]

-- the answers behind each instruction
pub says-after : (instr : Instr) (f : Facts) (q : Question) → says q (after instr f) ≡ answer_after instr (λ r. says r f) q
says-after (Spawn to callee arguments behind priority retry) f q = says-renewed to false [] f q
says-after (All to members priority retry) f q = says-renewed to false members f q
says-after (Copy to source) f q = elim (cases_eq to source) [
  | inl e ↦ rw ((nat_eq-same to source e).0) refl
  | inr n ↦ rw ((nat_eq-other to source n).0) (says-renewed to (has source f.settled) (members_of source f.members) f q)
]
says-after (Drop future) f q = says-given_up future f q
says-after (Set to value) f q = refl
says-after (Math op to left right) f q = refl
says-after (If relation left right target) f q = refl
says-after (Goto target) f q = refl
says-after (Label name) f q = refl
says-after (Cell to column row) f q = refl
says-after (Rows to column) f q = refl
says-after (Get to future) f q = refl
says-after (Again target behind priority) f q = refl
says-after (Done value) f q = refl

-- an answer that is fixed, or that is the answer to one question
pub data Comes (n : ℕ) (F : (Question → Bool) → Bool) : Type 0 where
  fixed : (b : Bool) → ((answer : Question → Bool) → F answer ≡ b) → Comes n F
  from : (r : Question) → IsAbout n r → ((answer : Question → Bool) → F answer ≡ answer r) → Comes n F

comes-renewed : (n x : ℕ) (is_settled : (Question → Bool) → Bool) (listed : ℕ → (Question → Bool) → Bool) → Comes n is_settled → ((y : ℕ) → y < n → Comes n (listed y))
    → (q : Question) → IsAbout n q → Comes n (λ answer. renewed_answer x (is_settled answer) (λ y. listed y answer) answer q)
comes-renewed n x is_settled listed s l (held y) a = elim (cases_eq x y) [
  | inl e ↦ fixed true (λ answer. rw ((nat_eq-same x y e).1) refl)
  | inr m ↦ from (held y) a (λ answer. rw ((nat_eq-other x y m).1) refl)
]
comes-renewed n x is_settled listed s l (settled y) a = elim (cases_eq x y) [
  | inl e ↦ elim s [
    | fixed b f ↦ fixed b (λ answer. rw ((nat_eq-same x y e).1) (f answer))
    | from r h f ↦ from r h (λ answer. rw ((nat_eq-same x y e).1) (f answer))
  ]
  | inr m ↦ from (settled y) a (λ answer. rw ((nat_eq-other x y m).1) refl)
]
comes-renewed n x is_settled listed s l (member g y) a = elim (cases_eq x y) [
  | inl e ↦ fixed false (λ answer. rw ((nat_eq-same x y e).0) refl)
  | inr m ↦ elim (cases_eq g x) [
    | inl e ↦ elim (l y a.1) [
      | fixed b f ↦ fixed b (λ answer. rw ((nat_eq-other x y m).0, (nat_eq-same g x e).0) (f answer))
      | from r h f ↦ from r h (λ answer. rw ((nat_eq-other x y m).0, (nat_eq-same g x e).0) (f answer))
    ]
    | inr k ↦ from (member g y) a (λ answer. rw ((nat_eq-other x y m).0, (nat_eq-other g x k).0) refl)
  ]
]

comes-given_up : (n x : ℕ) (q : Question) → IsAbout n q → Comes n (λ answer. given_up_answer x answer q)
comes-given_up n x (held y) a = elim (cases_eq x y) [
  | inl e ↦ fixed false (λ answer. rw ((nat_eq-same x y e).0) refl)
  | inr m ↦ from (held y) a (λ answer. rw ((nat_eq-other x y m).0) refl)
]
comes-given_up n x (settled y) a = elim (cases_eq x y) [
  | inl e ↦ fixed false (λ answer. rw ((nat_eq-same x y e).0) refl)
  | inr m ↦ from (settled y) a (λ answer. rw ((nat_eq-other x y m).0) refl)
]
comes-given_up n x (member g y) a = elim (cases_eq x y) [
  | inl e ↦ fixed false (λ answer. rw ((nat_eq-same x y e).0) refl)
  | inr m ↦ elim (cases_eq g x) [
    | inl e ↦ fixed false (λ answer. rw ((nat_eq-other x y m).0, (nat_eq-same g x e).0) refl)
    | inr k ↦ from (member g y) a (λ answer. rw ((nat_eq-other x y m).0, (nat_eq-other g x k).0) refl)
  ]
]

-- each answer after an instruction is fixed, or is an answer before it
pub comes-after : (n : ℕ) (instr : Instr) → IsWithin n instr → (q : Question) → IsAbout n q → Comes n (λ answer. answer_after instr answer q)
comes-after n (Spawn to callee arguments behind priority retry) w q a =
    comes-renewed n to (λ answer. false) (λ y answer. false) (fixed false (λ answer. refl)) (λ y h. fixed false (λ answer. refl)) q a
comes-after n (All to members priority retry) w q a =
    comes-renewed n to (λ answer. false) (λ y answer. has y members) (fixed false (λ answer. refl)) (λ y h. fixed (has y members) (λ answer. refl)) q a
comes-after n (Copy to source) w q a = elim (cases_eq to source) [
  | inl e ↦ from q a (λ answer. rw ((nat_eq-same to source e).0) refl)
  | inr m ↦
      elim (comes-renewed n to (λ answer. answer (settled source)) (λ y answer. answer (member source y)) (from (settled source) w.1 (λ answer. refl)) (λ y h. from (member source y) (w.1, h) (λ answer. refl)) q a) [
        | fixed b f ↦ fixed b (λ answer. rw ((nat_eq-other to source m).0) (f answer))
        | from r h f ↦ from r h (λ answer. rw ((nat_eq-other to source m).0) (f answer))
      ]
]
comes-after n (Drop future) w q a = comes-given_up n future q a
comes-after n (Set to value) w q a = from q a (λ answer. refl)
comes-after n (Math op to left right) w q a = from q a (λ answer. refl)
comes-after n (If relation left right target) w q a = from q a (λ answer. refl)
comes-after n (Goto target) w q a = from q a (λ answer. refl)
comes-after n (Label name) w q a = from q a (λ answer. refl)
comes-after n (Cell to column row) w q a = from q a (λ answer. refl)
comes-after n (Rows to column) w q a = from q a (λ answer. refl)
comes-after n (Get to future) w q a = from q a (λ answer. refl)
comes-after n (Again target behind priority) w q a = from q a (λ answer. refl)
comes-after n (Done value) w q a = from q a (λ answer. refl)
