-- A pass that publishes, and one that is split.
use Rattle.std.proofs.Common.{◌≡◌, ◌∙◌, ◌⊎◌, inl, inr, ℕ, List, [], ◌∷◌, ◌++◌, All, length, take, drop, refl, sym, ap, subst, arith}
use Rattle.std.proofs.lemmas.Grind.{common_steps}
use Rattle.std.proofs.lemmas.List.Elements.{All-nil, All-push}
use Rattle.table_core.specs.declared.view.View.{View}
use Rattle.step_table.specs.Passes.{IsSame}
use Rattle.step_table.specs.declared.pass.Pass.{Pass}
use Rattle.schedule_core.specs.FrameWords.{OnlySees}
use Rattle.schedule_core.proofs.EachFacts.{grows-self, grows-on}
use Rattle.table_core.specs.declared.setup.Setup.{Setup}
use Rattle.schedule_rows.specs.Asked.{HasAsked}
use Rattle.worker_rows.specs.Lead.{KeepsAll}

pub same-self : (a : Pass) → IsSame a a
same-self a = record { table = refl; id = refl; splits = refl; number = refl; held_is = refl }

pub same-then : (a b c : Pass) → IsSame a b → IsSame b c → IsSame a c
same-then a b c first second = record {
  table = second.table ∙ first.table;
  id = second.id ∙ first.id;
  splits = second.splits ∙ first.splits;
  number = second.number ∙ first.number;
  held_is = second.held_is ∙ first.held_is;
}

pub sees-self : (v : View) → OnlySees v v
sees-self v = record { seen = grows-self v.seen; view_is = refl }

pub sees-then : (a b c : View) → OnlySees a b → OnlySees b c → OnlySees a c
sees-then a b c first second = record {
  seen = grows-on a.seen b.seen c.seen first.seen second.seen;
  view_is = second.view_is ∙ ap (λ (v : View). record v { seen = c.seen }) first.view_is;
}

-- the roots that were asked for are still
pub asked-sees : (g : Setup) (n : ℕ) (a b : View) → HasAsked g n a → OnlySees a b → HasAsked g n b
asked-sees g n a b has sees = record {
  asked = has.asked;
  has_turn = ap (λ (v : View). v.turn) sees.view_is ∙ has.has_turn;
  count = has.count;
  undrawn = ap (λ (v : View). v.root_task) sees.view_is ∙ has.undrawn;
  near = has.near;
}

pub keeps-self : (v : View) → KeepsAll v v
keeps-self v = refl

pub keeps-then : (a b c : View) → KeepsAll a b → KeepsAll b c → KeepsAll a c
keeps-then a b c first second = second ∙ ap (λ (v : View). record v { parts = c.parts }) first

-- an entry that was published has changed nothing in the hand
pub publishes-sees : {P Q S : Type 0} (old new : View) → (P × (new ≡ old)) ⊎ (Q × (S × OnlySees old new)) → OnlySees old new
publishes-sees old new (inl (pushed, is)) = record { seen = ([], ap (λ (v : View). v.seen) is); view_is = is ∙ (λ k. record old { seen = (sym is k).seen }) }
publishes-sees old new (inr (full, (told, sees))) = sees

-- what holds of each member of a list, where there is none and where one more is put behind
pub none-yet : {X : Type 0} (P : X → Type 0) (l : List X) → l ≡ [] → All P l
none-yet P l is = subst (λ (k : List _). All P k) (sym is) (All-nil P)

pub one-more : {X : Type 0} (P : X → Type 0) (old new : List X) (x : X) → new ≡ old ++ x ∷ [] → All P old → P x → All P new
one-more P old new x is all has = subst (λ (k : List _). All P k) (sym is) (All-push P old x all has)

-- all members of a vector are written through a slice
pub written : {X : Type 0} (n : ℕ) (xs ys : List X) → length ys ≡ length xs → n ≡ length xs → take n (ys ++ drop (length ys) xs) ≡ ys
written n xs ys same all = grind (arith, common_steps)
