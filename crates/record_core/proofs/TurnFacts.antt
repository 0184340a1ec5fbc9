-- A new task may begin at once, and then finish.
use Rattle.std.proofs.Common.{◌≡◌, ◌∙◌, ℕ, suc, ◌+◌, ◌≤◌, Some, None, List, [], ◌∷◌, ◌++◌, length, refl, sym, ap, subst, arith}
use Rattle.std.proofs.Math.ListN.{length-append}
use Rattle.record_core.specs.Numbers.{by_number, put_number}
use Rattle.record_core.specs.Journal.{JournalState, next_number, unfinished, with_accepted, with_begun, started_rows, finish_in, finish_of, IsJournal, IsUnderWay, MayBegin}
use Rattle.record_core.specs.declared.rows.ActivationRow.{ActivationRow}
use Rattle.record_core.proofs.NumberFacts.{number-in_range, number-new, number-set, length-put}
use Rattle.record_core.proofs.JournalFacts.{is_some_from}

abbrev new_row : JournalState → ActivationRow
new_row j = record { task = next_number j; after = None; start = None }

-- a new task behind none may begin
pub new_may_begin : (j : JournalState) → MayBegin (with_accepted j None None) (next_number j)
new_may_begin j = record { row = new_row j; accepted = number-new j.rows (new_row j); not_begun = refl; free = tt }

module _ (j : JournalState) (is : IsJournal (with_begun (with_accepted j None None) (next_number j))) where
  abbrev begun : JournalState
  begun = with_begun (with_accepted j None None) (next_number j)

  abbrev begun_row : ActivationRow
  begun_row = record { task = next_number j; after = None; start = Some (j.stamps + 1) }

  -- the rows after both calls
  rows_are : begun.rows ≡ put_number (j.rows ++ new_row j ∷ []) (next_number j) begun_row
  rows_are = ap (started_rows (j.rows ++ new_row j ∷ []) (next_number j) (j.stamps + 1)) (number-new j.rows (new_row j))

  -- the new task has its row
  there : by_number begun.rows (next_number j) ≡ Some begun_row
  there = ap (λ (rows : List ActivationRow). by_number rows (next_number j)) rows_are
      ∙ number-set (j.rows ++ new_row j ∷ []) (next_number j) begun_row (new_row j) (number-new j.rows (new_row j))

  -- its number is the last
  many : length begun.rows ≡ next_number j
  many = omega (arith, ap length rows_are, length-put (j.rows ++ new_row j ∷ []) (next_number j) begun_row, length-append j.rows (new_row j ∷ []))

  -- there are as many tasks as rows
  as_many : length j.tasks ≡ length j.rows
  as_many = omega (arith, is.beside, many, length-append j.tasks (unfinished ∷ []))

  -- it has not finished
  not_finished : finish_of begun.tasks (next_number j) ≡ None
  not_finished = let e : suc (length j.rows) ≡ suc (length j.tasks) = omega (arith, as_many) in
      ap finish_in (ap (by_number (j.tasks ++ unfinished ∷ [])) e ∙ number-new j.tasks unfinished)

  -- no other activation is of the new task
  its_start : (n : ℕ) (row : ActivationRow) → by_number begun.rows n ≡ Some row → row.task ≡ next_number j → row.start ≡ Some (j.stamps + 1)
  its_start n row at of =
      let first : row.task ≤ n = (is.of_tasks n row at).first in
      let last : (1 ≤ n) × (n ≤ length begun.rows) = number-in_range begun.rows n row at in
      let it : n ≡ next_number j = omega (arith, first, of, last.1, many) in
      let here : by_number begun.rows n ≡ Some begun_row = ap (by_number begun.rows) it ∙ there in
      let same : row ≡ begun_row = cc in
      ap (λ (r : ActivationRow). r.start) same

  -- so it is under way
  pub new_under_way : IsUnderWay (with_begun (with_accepted j None None) (next_number j)) (next_number j)
  new_under_way = record {
    accepted = (begun_row, there, refl);
    unfinished = not_finished;
    begun = λ n row at of. is_some_from row.start (j.stamps + 1) (its_start n row at of);
  }

-- a task that was accepted and has just begun is under way
pub begun_under_way : (j accepted begun : JournalState) (n : ℕ) → n ≡ next_number j → accepted ≡ with_accepted j None None → begun ≡ with_begun accepted n
    → IsJournal begun → IsUnderWay begun n
begun_under_way j accepted begun n number drawn began is =
    let all : begun ≡ with_begun (with_accepted j None None) (next_number j)
    = began ∙ ap (λ (k : JournalState). with_begun k n) drawn ∙ ap (with_begun (with_accepted j None None)) number in
    subst (λ (m : ℕ). IsUnderWay begun m) (sym number)
    (subst (λ (k : JournalState). IsUnderWay k (next_number j)) (sym all) (new_under_way j (subst (λ (k : JournalState). IsJournal k) all is)))
