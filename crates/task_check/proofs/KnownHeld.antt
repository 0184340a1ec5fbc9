-- On each way in a valid program, what is settled is held, and so are members and what they are members of.
use Rattle.std.proofs.Common.{◌≡◌, ℕ, Bool, true, false, not, ◌&&◌, ◌||◌, cond, nat_eq, refl, sym, ◌∙◌, ap, IsTrue}
use Rattle.std.proofs.lemmas.Bool.{eqb-true, eq-eqb}
use Rattle.task_syntax.proofs.Bools.{both, or_right}
use Rattle.task_syntax.specs.Facts.{Facts, has, after}
use Rattle.task_syntax.specs.Valid.{Way, starts, unreached, goes_on, jumps, IsSoundInstr, IsSoundState}
use Rattle.task_syntax.specs.declared.instr.Instr.{Instr}
use Rattle.task_syntax.specs.declared.instr.Instr.TheVariants.{Set, Math, If, Goto, Label, Cell, Rows, Spawn, All, Copy, Drop, Get, Again, Done}
use Rattle.task_syntax.specs.declared.program.State.{State}
use Rattle.task_syntax.specs.declared.program.Kind.{Kind}
use Rattle.task_syntax.specs.declared.program.Program.{Program}
use Rattle.task_check.specs.Known.{Question, held, settled, member, says, renewed_answer, given_up_answer, answer_after}
use Rattle.task_check.proofs.Answers.{says-after}
use Rattle.task_check.proofs.Sound.{has-at}

-- by these answers, what is settled or a member is held
record AreHeld (answer : Question → Bool) : Type 0 where
  settled_held : (x : ℕ) → answer (settled x) ≡ true → answer (held x) ≡ true
  members_held : (g x : ℕ) → answer (member g x) ≡ true → (answer (held g) ≡ true) × (answer (held x) ≡ true)

same-held : (a b : Question → Bool) → ((q : Question) → b q ≡ a q) → AreHeld a → AreHeld b
same-held a b same h = record {
  settled_held = λ x e. same (held x) ∙ h.settled_held x (sym (same (settled x)) ∙ e);
  members_held = λ g x e. let m = h.members_held g x (sym (same (member g x)) ∙ e) in (same (held g) ∙ m.0, same (held x) ∙ m.1);
}

not-true : (b : Bool) → not b ≡ true → b ≡ false
not-true true e = sym e
not-true false e = refl

-- the test on numbers is the same both ways round
eq-both : (x y : ℕ) → nat_eq x y ≡ nat_eq y x
eq-both x y = by (nat_eq x y) refl (nat_eq y x) refl
  where
    by : (b : Bool) → nat_eq x y ≡ b → (d : Bool) → nat_eq y x ≡ d → nat_eq x y ≡ nat_eq y x
    by true e d f = e ∙ sym (eq-eqb y x (sym (eqb-true x y e)))
    by false e true f = let same : nat_eq x y ≡ true = eq-eqb x y (sym (eqb-true y x f)) in same ∙ sym f
    by false e false f = e ∙ sym f

renewed-held : (x : ℕ) (is_settled : Bool) (listed : ℕ → Bool) (a : Question → Bool) → AreHeld a → ((y : ℕ) → listed y ≡ true → a (held y) ≡ true)
    → AreHeld (renewed_answer x is_settled listed a)
renewed-held x is_settled listed a h listed_held = record {
  settled_held = λ y e. in_settled y (nat_eq y x) e;
  members_held = λ g y e.
      let m = both (not (nat_eq x y)) (cond (nat_eq g x) (listed y) (a (member g y))) e in
      in_members g y (nat_eq g x) m.1;
}
  where
    in_settled : (y : ℕ) (b : Bool) → cond b is_settled (a (settled y)) ≡ true → (b || a (held y)) ≡ true
    in_settled y true e = refl
    in_settled y false e = h.settled_held y e

    in_members : (g y : ℕ) (b : Bool) → cond b (listed y) (a (member g y)) ≡ true → ((b || a (held g)) ≡ true) × ((nat_eq y x || a (held y)) ≡ true)
    in_members g y true e = (refl, or_right (nat_eq y x) (a (held y)) (listed_held y e))
    in_members g y false e = let m = h.members_held g y e in (m.0, or_right (nat_eq y x) (a (held y)) m.1)

given_up-held : (x : ℕ) (a : Question → Bool) → AreHeld a → AreHeld (given_up_answer x a)
given_up-held x a h = record {
  settled_held = λ y e. let s = both (not (nat_eq x y)) (a (settled y)) e in and_true (not (nat_eq x y)) (a (held y)) s.0 (h.settled_held y s.1);
  members_held = λ g y e.
      let m = both (not (nat_eq x y)) (cond (nat_eq g x) false (a (member g y))) e in
      let n = in_members g y (nat_eq g x) refl m.1 in
      (n.0, and_true (not (nat_eq x y)) (a (held y)) m.0 n.1);
}
  where
    and_true : (b d : Bool) → b ≡ true → d ≡ true → (b && d) ≡ true
    and_true true d e f = f
    and_true false d e f = e

    in_members : (g y : ℕ) (b : Bool) → nat_eq g x ≡ b → cond b false (a (member g y)) ≡ true → ((not (nat_eq x g) && a (held g)) ≡ true) × (a (held y) ≡ true)
    in_members g y true e f = let c : false ≡ true = f in cc c
    in_members g y false e f =
        let m = h.members_held g y f in
        (and_true (not (nat_eq x g)) (a (held g)) (ap (λ b. not b) (eq-both x g ∙ e)) m.0, m.1)

after-held : (p : Program) (kind : Kind) (state : State) (at : ℕ) (instr : Instr) (f : Facts) → Way state at f → IsSoundInstr p kind state at instr → AreHeld (λ q. says q f)
    → AreHeld (answer_after instr (λ q. says q f))
after-held p kind state at (Spawn to callee arguments behind priority retry) f way sound h = renewed-held to false (λ y. false) (λ q. says q f) h (λ y e. let c : false ≡ true = e in cc c)
after-held p kind state at (All to members priority retry) f way sound h =
    renewed-held to false (λ y. has y members) (λ q. says q f) h (λ y e. let m = has-at members y e in sound m.0 y m.1 f way)
after-held p kind state at (Copy to source) f way sound h = by (nat_eq to source)
  where
    by : (b : Bool) → AreHeld (λ q. cond b (says q f) (renewed_answer to (says (settled source) f) (λ y. says (member source y) f) (λ r. says r f) q))
    by true = h
    by false = renewed-held to (says (settled source) f) (λ y. says (member source y) f) (λ r. says r f) h (λ y e. (h.members_held source y e).1)
after-held p kind state at (Drop future) f way sound h = given_up-held future (λ q. says q f) h
after-held p kind state at (Set a b) f way sound h = h
after-held p kind state at (Math a b c d) f way sound h = h
after-held p kind state at (If a b c d) f way sound h = h
after-held p kind state at (Goto a) f way sound h = h
after-held p kind state at (Label a) f way sound h = h
after-held p kind state at (Cell a b c) f way sound h = h
after-held p kind state at (Rows a b) f way sound h = h
after-held p kind state at (Get a b) f way sound h = h
after-held p kind state at (Again a b c) f way sound h = h
after-held p kind state at (Done a) f way sound h = h

way-held : (p : Program) (kind : Kind) (state : State) → IsSoundState p kind state → (at : ℕ) (f : Facts) → Way state at f → AreHeld (λ q. says q f)
way-held p kind state sound at f starts = record {
  settled_held = λ x e. let j = has-at state.settled x e in sound.settled_held j.0 x j.1;
  members_held = λ g x e. let c : false ≡ true = e in cc c;
}
way-held p kind state sound at f (unreached u) = record {
  settled_held = λ x e. e;
  members_held = λ g x e. let c : false ≡ true = e in cc c;
}
way-held p kind state sound at f (goes_on {at = b} {f = g} instr way stands on) =
    same-held (answer_after instr (λ q. says q g)) (λ q. says q (after instr g)) (λ q. says-after instr g q)
    (after-held p kind state b instr g way (sound.instrs b instr stands) (way-held p kind state sound b g way))
way-held p kind state sound at f (jumps {at = b} instr to way stands j) = way-held p kind state sound b f way

-- on each way what is settled, or a member, is held
pub known-held : (p : Program) (kind : Kind) (state : State) → IsSoundState p kind state → (at : ℕ) (f : Facts) → Way state at f
    → ((x : ℕ) → IsTrue (has x f.settled) → IsTrue (has x f.held))
    × ((g x : ℕ) → says (member g x) f ≡ true → IsTrue (has g f.held) × IsTrue (has x f.held))
known-held p kind state sound at f way = let h = way-held p kind state sound at f way in (h.settled_held, h.members_held)
