-- What all facts of a set agree in: joined, behind an instruction, and for the same sets.
use Rattle.std.proofs.Common.{◌≡◌, ℕ, Bool, true, ◌&&◌, Option, Some, None, refl, sym, ◌∙◌, ap, subst, ◌⊎◌, inl, inr, vec_len}
use Rattle.task_syntax.proofs.Bools.{both}
use Rattle.task_syntax.specs.Facts.{Facts, after}
use Rattle.task_syntax.specs.declared.instr.Instr.{Instr}
use Rattle.task_check.specs.declared.known.Known.{Known}
use Rattle.task_check.specs.Known.{Question, IsAbout, says, knows, answer_after, IsWithin}
use Rattle.task_check.specs.Ways.{Agreed, IsArrived, IsJoined}
use Rattle.task_check.proofs.Answers.{says-after, comes-after, Comes, fixed, from}

-- what facts agree in stays for the same facts and the same answers
pub agreed-same : (n : ℕ) (S T : Facts → Type 0) (a b : Question → Bool) → ((f : Facts) → S f → T f) → ((f : Facts) → T f → S f)
    → ((q : Question) → IsAbout n q → b q ≡ a q) → Agreed n S a → Agreed n T b
agreed-same n S T a b to back same g = record {
  some = (g.some.0, to g.some.0 g.some.1);
  sound = λ q about answered f member. g.sound q about (sym (same q about) ∙ answered) f (back f member);
  whole = λ q about each. same q about ∙ g.whole q about (λ f member. each f (to f member));
}

-- one way's facts agree in what they say
pub agreed-one : (n : ℕ) (g : Facts) (a : Question → Bool) → ((q : Question) → IsAbout n q → a q ≡ says q g) → Agreed n (λ f. f ≡ g) a
agreed-one n g a same = record {
  some = (g, refl);
  sound = λ q about answered f e. ap (λ h. says q h) e ∙ (sym (same q about) ∙ answered);
  whole = λ q about each. same q about ∙ each g refl;
}

and_true : (a b : Bool) → a ≡ true → b ≡ true → (a && b) ≡ true
and_true a b e f = rw (e, f) refl

-- facts from two sides agree in what both sides agree in
pub agreed-both : (n : ℕ) (S T : Facts → Type 0) (a b c : Question → Bool) → ((q : Question) → IsAbout n q → c q ≡ (a q && b q))
    → Agreed n S a → Agreed n T b → Agreed n (λ f. S f ⊎ T f) c
agreed-both n S T a b c same g h = record {
  some = (g.some.0, inl g.some.1);
  sound = λ q about answered f member. let two : (a q ≡ true) × (b q ≡ true) = both (a q) (b q) (sym (same q about) ∙ answered) in
      elim member [ inl s ↦ g.sound q about two.0 f s | inr t ↦ h.sound q about two.1 f t ];
  whole = λ q about each. same q about ∙ and_true (a q) (b q) (g.whole q about (λ f s. each f (inl s))) (h.whole q about (λ f t. each f (inr t)));
}

-- the facts behind an instruction
abbrev pub Behind : Instr → (Facts → Type 0) → Facts → Type 0
Behind instr S f = (g : Facts) × S g × (f ≡ after instr g)

-- after an instruction facts agree in what it makes of the answers
pub agreed-after : (n : ℕ) (S : Facts → Type 0) (a b : Question → Bool) (instr : Instr) → IsWithin n instr
    → ((q : Question) → IsAbout n q → b q ≡ answer_after instr a q) → Agreed n S a → Agreed n (Behind instr S) b
agreed-after n S a b instr within same g = record {
  some = (after instr g.some.0, (g.some.0, g.some.1, refl));
  sound = λ q about answered f member. ap (λ h. says q h) member.2 ∙ (says-after instr member.0 q
      ∙ sound_from q (comes-after n instr within q about) (sym (same q about) ∙ answered) member.0 member.1);
  whole = λ q about each. same q about ∙ whole_from q (comes-after n instr within q about)
      (λ f s. sym (says-after instr f q) ∙ each (after instr f) (f, s, refl));
} where
  sound_from : (q : Question) → Comes n (λ answer. answer_after instr answer q) → answer_after instr a q ≡ true → (f : Facts) → S f → answer_after instr (λ r. says r f) q ≡ true
  sound_from q (fixed v e) answered f s = e (λ r. says r f) ∙ (sym (e a) ∙ answered)
  sound_from q (from r h e) answered f s = e (λ r. says r f) ∙ g.sound r h (sym (e a) ∙ answered) f s

  whole_from : (q : Question) → Comes n (λ answer. answer_after instr answer q) → ((f : Facts) → S f → answer_after instr (λ r. says r f) q ≡ true) → answer_after instr a q ≡ true
  whole_from q (fixed v e) each = e a ∙ (sym (e (λ r. says r g.some.0)) ∙ each g.some.0 g.some.1)
  whole_from q (from r h e) each = e a ∙ g.whole r h (λ f s. sym (e (λ r. says r f)) ∙ each f s)

-- what is kept for a place, where more arrives or nothing does
pub arrived-same : (n : ℕ) (S T : Facts → Type 0) → ((f : Facts) → S f → T f) → ((f : Facts) → T f → S f) → (slot : Option Known) → IsArrived n S slot → IsArrived n T slot
arrived-same n S T to back None none = λ f t. none f (back f t)
arrived-same n S T to back (Some k) some = (some.0, agreed-same n S T (λ q. knows q k) (λ q. knows q k) to back (λ q about. refl) some.1)

-- where nothing more arrives, what is kept stays right
pub arrived-kept : (n : ℕ) (S T : Facts → Type 0) (P : Type 0) → ¬ P → (slot : Option Known) → IsArrived n S slot → IsArrived n (λ f. S f ⊎ (P × T f)) slot
arrived-kept n S T P not_so slot arrived = arrived-same n S (λ f. S f ⊎ (P × T f)) (λ f s. inl s) (λ f m. elim m [ inl s ↦ s | inr t ↦ absurd (not_so t.0) ]) slot arrived

-- where facts arrive, what is joined is right
pub arrived-joined : (n : ℕ) (S T : Facts → Type 0) (P : Type 0) → P → (k : Known) → vec_len k.members ≡ n → Agreed n T (λ q. knows q k)
    → (before slot : Option Known) → IsArrived n S before → IsJoined n before k slot → IsArrived n (λ f. S f ⊎ (P × T f)) slot
arrived-joined n S T P so k long agreed None slot none joined =
    subst (λ o. IsArrived n (λ f. S f ⊎ (P × T f)) o) (sym joined)
    (long, agreed-same n T (λ f. S f ⊎ (P × T f)) (λ q. knows q k) (λ q. knows q k) (λ f t. inr (so, t)) (λ f m. elim m [ inl s ↦ absurd (none f s) | inr t ↦ t.1 ]) (λ q about. refl) agreed)
arrived-joined n S T P so k long agreed (Some o) slot some joined =
    subst (λ o. IsArrived n (λ f. S f ⊎ (P × T f)) o) (sym joined.1) (
      joined.2,
      agreed-same n (λ f. S f ⊎ T f) (λ f. S f ⊎ (P × T f)) (λ q. knows q joined.0) (λ q. knows q joined.0)
          (λ f m. elim m [ inl s ↦ inl s | inr t ↦ inr (so, t) ]) (λ f m. elim m [ inl s ↦ inl s | inr t ↦ inr t.1 ]) (λ q about. refl)
          (agreed-both n S T (λ q. knows q o) (λ q. knows q k) (λ q. knows q joined.0) joined.3 some.1 agreed),
    )
