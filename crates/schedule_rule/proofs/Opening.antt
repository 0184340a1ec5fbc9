-- The scheduler's rule holds of a table whose words are all 0, with its first pass.
use Rattle.std.proofs.Common.{◌≡◌, ◌∙◌, ℕ, zero, suc, ◌==◌, ◌&&◌, Bool, true, false, cond, Some, None, [], ◌∷◌, map, replicate, refl, sym, ap, subst, true≢false, arith}
use Rattle.std.specs.Prelude.{nat_le}
use Rattle.std.proofs.lemmas.List.{length-replicate}
use Rattle.std.proofs.lemmas.Bool.{lt-leb}
use Rattle.record_core.specs.Counting.{one_if}
use Rattle.record_core.specs.Numbers.{by_number}
use Rattle.record_core.proofs.TotalFacts.{none_there}
use Rattle.task_meaning.specs.Meant.{future_at}
use Rattle.table_core.specs.Addresses.{Mem, words_of, units_of}
use Rattle.table_core.specs.Story.{unwritten}
use Rattle.table_core.specs.Views.{first_view}
use Rattle.table_core.specs.Parts.{Says as TableSays, seen as table_seen}
use Rattle.table_core.specs.declared.setup.Setup.{Setup}
use Rattle.table_core.proofs.ListFacts.{each-cons, each-none}
use Rattle.table_core.proofs.Opening.{zeros, mem-zeros, below-zeros, first_parts}
use Rattle.schedule_rule.specs.Calls.{task_of, after_of, is_number, IsTaskOf}
use Rattle.schedule_rule.specs.Rows.{row_word, word_of_task}
use Rattle.schedule_rule.specs.Parts.{Part, draws, names, callers, facts, rows, rowed, places, askers, framed, root_tasks, owners, running, live, classes, behind, bags, quiet, seen, Says, Holds, UnwrittenAreZero, formed, suited, results, begun, counted_lives, limits}

-- before the first step nothing has a number
pub no_number : (n : ℕ) → is_number [] n ≡ false
no_number zero = refl
no_number (suc n) = ap (λ (b : Bool). nat_le 1 (suc n) && b) (lt-leb (suc n) 0 (omega arith)) ∙ by (nat_le 1 (suc n))
  where
    by : (b : Bool) → (b && false) ≡ false
    by true = refl
    by false = refl

none_numbered : {A : Type 0} → (n : ℕ) (x : A) → by_number [] n ≡ Some x → ⊥
none_numbered {A} zero x e = let no : ◌≡◌ {A = _} None (Some x) → ⊥ = λ f. cc in no e
none_numbered (suc n) x e = none_there x e

no_row : (n lacking word : ℕ) → row_word [] n lacking word ≡ 0
no_row n lacking word = ap (λ (b : Bool). cond b (cond (lacking == 0) word 0) 0) (no_number n)

none_future : (k t : ℕ) → future_at [] k ≡ Some t → ⊥
none_future k t e = cc

not_a_task : (t : ℕ) → IsTaskOf [] t → ⊥
not_a_task t is = omega (arith, is.0.0, is.0.1)

module _ (g : Setup) where
  pub opened_parts : (q : Part) → Says g q unwritten zeros (map (seen q) (first_view ∷ []))
  opened_parts draws = omega arith
  opened_parts names = record { earlier = λ n call at. absurd (none_numbered n call at); in_turn = λ t n members waits at at'. absurd (none_numbered t _ at) }
  opened_parts callers = record { once = λ n. sym (ap one_if (no_number n)); same = each-cons _ [] [] (each-none _) (each-none _) }
  opened_parts facts = each-cons _ [] [] (each-none _) (each-none _)
  opened_parts rows = record {
    task = λ n. sym (no_row n 0 (task_of [] n));
    after = λ n. sym (no_row n 0 (word_of_task (after_of [] n)));
    task_once = λ n. omega arith;
    after_once = λ n. omega arith;
  }
  opened_parts rowed = each-cons _ (seen rowed first_view) [] (record { task = λ n. omega arith; after = λ n. omega arith; runs = each-none _ }) (each-none _)
  opened_parts places = λ n. omega (arith, below-zeros (units_of g.plan), ap one_if (no_number n))
  opened_parts askers = each-cons _ (seen askers first_view) [] (record { asker = each-none _; made = each-none _; unplaced = each-none _; one = each-none _; asked = each-none _ }) (each-none _)
  opened_parts framed = record { saved = λ u near is. absurd (true≢false (sym is)); names = λ u near is. absurd (true≢false (sym is)); running = each-cons _ [] [] (each-none _) (each-none _) }
  opened_parts formed = record { saved = λ u near is. absurd (true≢false (sym is)); running = each-cons _ [] [] (each-none _) (each-none _) }
  opened_parts suited = each-none _
  opened_parts begun = λ u near is. absurd (true≢false (sym is))
  opened_parts results = λ u near done. absurd (omega (arith, done))
  opened_parts root_tasks = record {
    own = [];
    are = λ at root t line e. absurd (none_future at t e);
    rise = λ r s t u less e e'. absurd (none_future r t e);
    few = each-cons _ (seen root_tasks first_view) [] (each-cons _ [] [] (omega arith) (each-none _)) (each-none _);
    named = λ r u low near e. absurd (omega (arith, e));
    drawn = each-cons _ (seen root_tasks first_view) [] (each-cons _ [] [] (λ some. absurd (some refl)) (each-none _)) (each-none _);
    of_turn = each-cons _ (seen root_tasks first_view) [] (λ some. absurd (some refl)) (each-none _);
  }
  opened_parts owners = record {
    is_of = λ u near is. absurd (true≢false (sym is));
    once = λ t is. absurd (not_a_task t is);
    done = λ t. omega (arith, below-zeros (units_of g.plan));
    ended = λ t some. absurd (omega (arith, some));
    last_saved = λ u near is. absurd (true≢false (sym is));
    last_drawn = each-cons _ (seen owners first_view) [] (each-none _) (each-none _);
  }
  opened_parts running = each-cons _ [] [] (each-none _) (each-none _)
  opened_parts live = omega (arith, below-zeros (units_of g.plan))
  opened_parts counted_lives = each-cons _ (seen counted_lives first_view) [] (record { made = each-none _; done = each-none _ }) (each-none _)
  opened_parts classes = record { records = λ u near is. absurd (true≢false (sym is)); made = each-cons _ [] [] (each-none _) (each-none _) }
  opened_parts behind = record { listed_behind = λ u w near has. absurd (none_there w has.1); chained_behind = each-cons _ [] [] (each-none _) (each-none _) }
  opened_parts bags = each-cons _ (seen bags first_view) [] (record { pairs = []; are_runs = refl; covers = each-none _; enough = λ u. omega arith }) (each-none _)
  opened_parts limits = record {
    told = each-cons _ (seen limits first_view) [] (record { answers = each-none _; roots = each-cons _ [] [] (each-none _) (each-none _) }) (each-none _);
    ended = each-none _;
  }
  opened_parts quiet = each-cons _ (seen quiet first_view) [] (λ some. absurd (omega (arith, some))) (each-none _)

  pub holds-first : (n : ℕ) → n ≡ words_of g.plan → Holds g (replicate n 0) (first_view ∷ [])
  holds-first n long = (
    length-replicate n 0 ∙ long,
    (
      unwritten,
      record {
        table = λ q. subst (λ (m : Mem). TableSays g q unwritten m (map (table_seen q) (first_view ∷ []))) (sym (mem-zeros g.plan n)) (first_parts g q);
        schedule = λ q. subst (λ (m : Mem). Says g q unwritten m (map (seen q) (first_view ∷ []))) (sym (mem-zeros g.plan n)) (opened_parts q);
      },
    ),
    subst UnwrittenAreZero (sym (mem-zeros g.plan n)) (λ a not. refl),
  )
