-- All passes are told that a queue was full.
use Rattle.std.proofs.Common.{◌≡◌, ◌≢◌, ◌∙◌, ℕ, List, [], ◌∷◌, refl, sym, ap}
use Rattle.table_core.specs.Addresses.{Addr, sum}
use Rattle.table_core.specs.Views.{saw}
use Rattle.table_core.specs.declared.view.View.{View}
use Rattle.step_table.specs.Passes.{IsSame}
use Rattle.step_table.specs.declared.pass.Pass.{Pass}
use Rattle.schedule_core.specs.FrameWords.{OnlySees}
use Rattle.schedule_core.specs.Publishing.{TellsFull}
use Rattle.schedule_core.proofs.EachFacts.{grows-on, grows-self}

pub same-self : (p : Pass) → IsSame p p
same-self p = record { table = refl; id = refl; splits = refl; number = refl; held_is = refl }

pub same-then : (old mid new : Pass) → IsSame old mid → IsSame mid new → IsSame old new
same-then old mid new first second = record {
  table = second.table ∙ first.table;
  id = second.id ∙ first.id;
  splits = second.splits ∙ first.splits;
  number = second.number ∙ first.number;
  held_is = second.held_is ∙ first.held_is;
}

pub sees-self : (v : View) → OnlySees v v
sees-self v = record { seen = grows-self v.seen; view_is = refl }

-- a step on the word that tells of a full queue leaves all else
pub sees-spill : (u v w : View) (found : ℕ) → OnlySees u v → w ≡ saw (sum 4) found v → OnlySees u w
sees-spill u v w found first is = record {
  seen = grows-on u.seen v.seen w.seen first.seen ((sum 4, found) ∷ [], ap (λ (z : View). z.seen) is);
  view_is = is ∙ (λ k. record (first.view_is k) { seen = (sym is k).seen });
}

-- where it was found set, that is told
pub tells-full : (u v w : View) (found : ℕ) → OnlySees u v → w ≡ saw (sum 4) found v → found ≢ 0 → TellsFull u w
tells-full u v w found first is set = (
  (
    (sum 4, found) ∷ first.seen.0,
    found,
    ap (λ (z : View). z.seen) is ∙ ap (λ (l : List (Addr × ℕ)). (sum 4, found) ∷ l) first.seen.1,
    (0, refl),
    set,
  ),
  sees-spill u v w found first is,
)
