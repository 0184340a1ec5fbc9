-- Facts on stamps: one more event has the next one.
use Rattle.std.proofs.Common.{◌≡◌, ◌⊎◌, ◌∙◌, inl, inr, ℕ, ◌+◌, ◌≤◌, Some, None, List, sym, ap, arith}
use Rattle.std.proofs.lemmas.Bool.{cases_eq}
use Rattle.record_core.specs.Journal.{Event, stamp_of, AreStampedOnce}
use Rattle.record_core.specs.declared.rows.ActivationRow.{ActivationRow}
use Rattle.record_core.specs.declared.rows.TaskRow.{TaskRow}

-- the same events have the same stamps
pub stamped-same : (rows rows' : List ActivationRow) (tasks tasks' : List TaskRow) (most : ℕ) → AreStampedOnce rows tasks most
    → ((e : Event) → stamp_of rows' tasks' e ≡ stamp_of rows tasks e) → AreStampedOnce rows' tasks' most
stamped-same rows rows' tasks tasks' most old same = record {
  within = λ e s at. old.within e s (sym (same e) ∙ at);
  once = λ e f s at at'. old.once e f s (sym (same e) ∙ at) (sym (same f) ∙ at');
  every = λ s some few. let there : (e : Event) × (stamp_of rows tasks e ≡ Some s) = old.every s some few in (there.0, same there.0 ∙ there.1);
}

-- an event without a stamp gets the next one
module _ (rows rows' : List ActivationRow) (tasks tasks' : List TaskRow) (most : ℕ) (new : Event)
    (old : AreStampedOnce rows tasks most) (unstamped : stamp_of rows tasks new ≡ None) (stamped : stamp_of rows' tasks' new ≡ Some (most + 1))
    (others : (e : Event) → (e ≡ new) ⊎ (stamp_of rows' tasks' e ≡ stamp_of rows tasks e)) where
  -- the new event has the next stamp
  stamp-new : (e : Event) (s : ℕ) → e ≡ new → stamp_of rows' tasks' e ≡ Some s → s ≡ most + 1
  stamp-new e s is at = let there : stamp_of rows' tasks' new ≡ Some s = ap (stamp_of rows' tasks') (sym is) ∙ at in cc

  -- an event has the new stamp and is the new one, or had its stamp before
  stamp-cases : (e : Event) (s : ℕ) → stamp_of rows' tasks' e ≡ Some s → ((e ≡ new) × (s ≡ most + 1)) ⊎ (stamp_of rows tasks e ≡ Some s)
  stamp-cases e s at = elim (others e) [ inl is ↦ inl (is, stamp-new e s is at) | inr same ↦ inr (sym same ∙ at) ]

  -- all stamps are in range
  within-more : (e : Event) (s : ℕ) → stamp_of rows' tasks' e ≡ Some s → (1 ≤ s) × (s ≤ most + 1)
  within-more e s at = elim (stamp-cases e s at) [
    | inl it ↦ (omega (arith, it.1), omega (arith, it.1))
    | inr there ↦ let b : (1 ≤ s) × (s ≤ most) = old.within e s there in (b.0, omega (arith, b.1))
  ]

  -- no stamp is on two events
  once-more : (e f : Event) (s : ℕ) → stamp_of rows' tasks' e ≡ Some s → stamp_of rows' tasks' f ≡ Some s → e ≡ f
  once-more e f s at at' = elim (stamp-cases e s at) [
    | inl it ↦ elim (stamp-cases f s at') [
      | inl also ↦ it.0 ∙ sym also.0
      | inr there ↦ let b : (1 ≤ s) × (s ≤ most) = old.within f s there in absurd (omega (arith, b.1, it.1))
    ]
    | inr there ↦ elim (stamp-cases f s at') [
      | inl it ↦ let b : (1 ≤ s) × (s ≤ most) = old.within e s there in absurd (omega (arith, b.1, it.1))
      | inr also ↦ old.once e f s there also
    ]
  ]

  -- an event keeps its stamp
  pub stays : (e : Event) (s : ℕ) → stamp_of rows tasks e ≡ Some s → stamp_of rows' tasks' e ≡ Some s
  stays e s at = elim (others e) [
    | inl is ↦ let gone : stamp_of rows tasks e ≡ None = ap (stamp_of rows tasks) is ∙ unstamped in absurd cc
    | inr same ↦ same ∙ at
  ]

  -- every number up to the new one is a stamp
  every-more : (s : ℕ) → 1 ≤ s → s ≤ most + 1 → (e : Event) × (stamp_of rows' tasks' e ≡ Some s)
  every-more s some few = elim (cases_eq s (most + 1)) [
    | inl is ↦ (new, stamped ∙ ap Some (sym is))
    | inr differ ↦
        let there : (e : Event) × (stamp_of rows tasks e ≡ Some s) = old.every s some (omega (arith, few, differ)) in
        (there.0, stays there.0 s there.1)
  ]

  -- so the stamps are still the numbers from 1 on, each once
  pub stamped-more : AreStampedOnce rows' tasks' (most + 1)
  stamped-more = record { within = within-more; once = once-more; every = every-more }
