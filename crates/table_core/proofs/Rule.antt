-- How the rule is kept: a part that reads nothing of what a step changes stays.
use Rattle.std.proofs.Common.{◌≡◌, ◌∙◌, ℕ, List, map, sym, ap, subst}
use Rattle.std.specs.Prelude.{slice_set}
use Rattle.std.proofs.lemmas.List.{map-set}
use Rattle.table_core.specs.Addresses.{Addr, Mem, put}
use Rattle.record_core.specs.Counting.{At}
use Rattle.table_core.specs.Story.{Story}
use Rattle.table_core.specs.Parts.{Part, seen, Says, AllSay}
use Rattle.table_core.specs.declared.setup.Setup.{Setup}
use Rattle.table_core.specs.declared.view.View.{View}
use Rattle.table_core.proofs.ListFacts.{set_again, at_map}
use Rattle.table_core.proofs.AddressFacts.{put-again}

module _ (g : Setup) (vs : List View) (id : ℕ) (v : View) (at : At vs id v) where
  -- a part stays where what it reads of the view stays
  pub frames : (q : Part) (s : Story) (n : Mem) (w : View) → seen q v ≡ seen q w → Says g q s n (map (seen q) vs) → Says g q s n (map (seen q) (slice_set vs id w))
  frames q s n w same says =
      let unchanged : map (seen q) (slice_set vs id w) ≡ map (seen q) vs =
      map-set (seen q) vs id w ∙ ap (slice_set (map (seen q) vs) id) (sym same) ∙ set_again (map (seen q) vs) id (seen q v) (at_map (seen q) vs id v at) in
      subst (Says g q s n) (sym unchanged) says

  -- a part holds where it holds with what it reads of the new view
  pub moves : (q : Part) (s : Story) (n : Mem) (w : View) → Says g q s n (slice_set (map (seen q) vs) id (seen q w)) → Says g q s n (map (seen q) (slice_set vs id w))
  moves q s n w says = subst (Says g q s n) (sym (map-set (seen q) vs id w)) says

-- a word is written as it was
pub kept_word : (g : Setup) (s : Story) (m : Mem) (a : Addr) (n : ℕ) (vs : List View) → n ≡ m a → AllSay g s m vs → AllSay g s (put m a n) vs
kept_word g s m a n vs same says = subst (λ (x : Mem). AllSay g s x vs) (sym (ap (put m a) same ∙ put-again m a)) says
