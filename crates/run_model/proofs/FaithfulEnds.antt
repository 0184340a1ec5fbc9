-- The end of a run of a valid program is faithful.
use Rattle.std.proofs.Common.{◌≡◌, ◌↔◌, ◌⊎◌, ⊎_elim, ℕ, ◌+◌, ◌<◌, ◌≤◌, Option, Some, None, [], refl, sym, ◌∙◌, ap, subst, inl, inr, arith}
use Rattle.std.proofs.lemmas.Option.{none-some, same_Some}
use Rattle.task_syntax.specs.Form.{IsWellFormed}
use Rattle.task_syntax.specs.Valid.{IsValid}
use Rattle.task_syntax.specs.declared.program.Program.{Program}
use Rattle.task_syntax.specs.declared.columns.Columns.{Columns}
use Rattle.task_meaning.specs.Worths.{Accepted, OfAll}
use Rattle.record_core.specs.Sums.{total}
use Rattle.record_core.specs.Numbers.{by_number, found, HasTask}
use Rattle.record_core.specs.EndSound.{null_ends}
use Rattle.record_core.specs.EndSeen.{RunPlan}
use Rattle.record_core.specs.EndCalls.{Makers, MakesInOrder, OnlyAsked, TellRun, IsMade, IsMadeBy, IsOwn, IsWanted, again_at_once, limit_task}
use Rattle.record_core.specs.declared.rows.ActivationRow.{ActivationRow}
use Rattle.run_model.specs.State.{Named, Evidence, Run}
use Rattle.run_model.specs.Step.{own_tasks}
use Rattle.run_model.specs.End.{OneThreadRun, class_kept, words_kept, root_end, end_seen, state_at}
use Rattle.run_model.specs.Laws.{EndsAreFaithful}
use Rattle.run_model.proofs.EndFields.{ends_finished, mapped_to, null_roots, own_at}
use Rattle.run_model.proofs.EndLaws.{end_quiet, end_roots, ends_hide_no_cut, ends_are_as_asked}
use Rattle.run_model.proofs.EndSoundness.{counts_left}
use Rattle.run_model.proofs.FramesInvariant.{FramesStand}
use Rattle.run_model.proofs.FramesKept.{frames_first, frames_root, frames_move}
use Rattle.run_model.proofs.MadeInvariant.{Asker, IsNamed, IsMadeNow, IsRefused, MadeStands}
use Rattle.run_model.proofs.MadeMoves.{made_first, made_root, made_move}
use Rattle.run_model.proofs.AskedInvariant.{AskedStands}
use Rattle.run_model.proofs.AskedKept.{asked_first, asked_move, asked_root}
use Rattle.run_model.proofs.NullsBound.{NullsBoundStands, bound_first, bound_move, bound_root}
use Rattle.run_model.proofs.ByNumber.{member_at, number_within}
use Rattle.run_model.proofs.NamesFacts.{own_named}
use Rattle.run_model.proofs.Reached.{always}
use Rattle.run_model.proofs.RunStands.{RunStands, run_first, run_root, run_move}

-- who made the tasks, together with what it stands on
record WithMade (p : Program) (limit : ℕ) (r : Run) : Type 0 where
  run : RunStands p limit r
  frames : FramesStand p r
  made : MadeStands p r
  asked : AskedStands p r
  bound : NullsBoundStands r

made_always : (p : Program) → IsWellFormed p → IsValid p → (c : Columns) (plan : RunPlan) (taken : ℕ) → WithMade p plan.limit (state_at p c plan taken)
made_always p formed valid c plan taken = always p c plan (WithMade p plan.limit) (record {
  first = record { run = run_first p plan; frames = frames_first p plan; made = made_first p plan; asked = asked_first p plan; bound = bound_first plan };
  root = λ r s root next now move. let run = run_root p plan.limit plan.units r s root next now.run move in record {
    run = run;
    frames = frames_root p formed valid plan.units r s root next now.run.numbers run.numbers now.frames move;
    made = made_root p plan.limit plan.units r s root next now.run now.made move;
    asked = asked_root p plan.limit plan.units r s root now.run now.asked move;
    bound = bound_root p plan.limit plan.units r s root now.run now.bound move;
  };
  move = λ r s now move. let run = run_move p c plan.limit plan.units r s now.run move in record {
    run = run;
    frames = frames_move p formed valid c plan.units r s now.run.numbers run.numbers now.frames move;
    made = made_move p formed valid c plan.limit plan.units r s now.run now.frames now.made move;
    asked = asked_move p formed valid c plan.limit plan.units r s now.run now.frames now.asked move;
    bound = bound_move p c plan.limit plan.units r s now.run now.bound move;
  };
}) taken

module _ (p : Program) (c : Columns) (plan : RunPlan) (formed : IsWellFormed p) (valid : IsValid p) (end : Run) (run : OneThreadRun p c plan end) where
  stands : WithMade p plan.limit end
  stands = subst (WithMade p plan.limit) run.reached (made_always p formed valid c plan run.taken)

  -- what a root was named, is its own
  own_of : (t : ℕ) → IsNamed end.roots t → IsOwn (own_tasks end) t
  own_of t named = (named.0, own_at end.roots named.0 (Named t) named.1)

  -- and what was made, is made
  made_of : (t : ℕ) (a : Asker) (made : IsMadeNow p end.journal end.calls end.roots t a.number a.frame) → IsMade p (end_seen plan end) end.calls t a.number a.frame
  made_of t a made = record {
    not_own = λ own. made.not_named (own.0, own_named end.roots own.0 t own.1);
    maker = made.maker;
    uncut = λ u after. (made.uncut u after).1;
  }

  -- the frame and the number of whoever asked for a task, and any where nobody did
  abbrev no_asker : Asker
  no_asker = record { number = 0; frame = record { kind = 0; state = 0; at = 0; numbers = []; futures = [] } }

  abbrev asker_or : Option Asker → Asker
  asker_or None = no_asker
  asker_or (Some a) = a

  abbrev makers : Makers
  makers = record { number = λ t. (asker_or (found stands.made.story t)).number; frame = λ t. (asker_or (found stands.made.story t)).frame }

  -- so each task is a root's own, or was made by its maker
  by_maker : (t : ℕ) → HasTask end.journal.rows t → IsOwn (own_tasks end) t ⊎ IsMadeBy p (end_seen plan end) end.calls makers t
  by_maker t task = ⊎_elim
      (λ named. inl (own_of t named))
      (λ made. inr (subst (λ o. IsMade p (end_seen plan end) end.calls t (asker_or o).number (asker_or o).frame) (sym made.1) (made_of t made.0 made.2)))
      (stands.made.made t task)

  -- one that is no root's own was asked for
  asker_of : (t : ℕ) → HasTask end.journal.rows t → (IsOwn (own_tasks end) t → ⊥) → (a : Asker) × (found stands.made.story t ≡ Some a)
  asker_of t task not_own = ⊎_elim (λ named. absurd (not_own (own_of t named))) (λ made. (made.0, made.1)) (stands.made.made t task)

  -- and an activation asks line by line
  in_order : MakesInOrder (end_seen plan end) makers
  in_order t u first second not_first not_second same less =
      let (a, is_a) = asker_of t first not_first in
      let (b, is_b) = asker_of u second not_second in
      let number : a.number ≡ b.number = sym (ap (λ o. (asker_or o).number) is_a) ∙ same ∙ ap (λ o. (asker_or o).number) is_b in
      subst (λ o. ((asker_or o).frame.state ≡ (asker_or (found stands.made.story u)).frame.state) × ((asker_or o).frame.at < (asker_or (found stands.made.story u)).frame.at)) (sym is_a)
      (subst (λ o. (a.frame.state ≡ (asker_or o).frame.state) × (a.frame.at < (asker_or o).frame.at)) (sym is_b) (stands.made.askers.rise t u a b is_a is_b number less))

  -- what was refused, is wanted
  wanted_of : (class : ℕ) → IsRefused p end.calls end.roots end.journal.tasks class → IsWanted p (end_seen plan end) end.calls class
  wanted_of class (IsRefused.of_root at root line word is) = IsWanted.of_root at root line (mapped_to (root_end end) end.roots at _ word) is
  wanted_of class (IsRefused.of_task t instr has is null) = IsWanted.of_task t instr has is null
  wanted_of class (IsRefused.again t instr has is retry on) = IsWanted.again t instr has is retry on

  wanted : (class : ℕ) → class_kept end.evidence ≡ Some class → IsWanted p (end_seen plan end) end.calls class
  wanted class e = by end.evidence refl e
    where
      by : (o : Option Evidence) → end.evidence ≡ o → class_kept o ≡ Some class → IsWanted p (end_seen plan end) end.calls class
      by None is f = absurd (none-some class f)
      by (Some kept) is f = subst (IsWanted p (end_seen plan end) end.calls) (same_Some kept.class class f) (wanted_of kept.class (stands.made.refused kept is))

  -- there is evidence exactly where an answer was null
  evidence_shown : (end.nulls ≡ 0) ↔ (class_kept end.evidence ≡ None)
  evidence_shown = (λ none. ap class_kept (stands.run.nulls.kept.0 none), λ none. stands.run.nulls.kept.1 (no_class end.evidence none))
    where
      no_class : (o : Option Evidence) → class_kept o ≡ None → o ≡ None
      no_class None e = refl
      no_class (Some kept) e = absurd (none-some kept.class (sym e))

  -- without a null answer there is no word of it
  no_words : end.nulls ≡ 0 → words_kept end.evidence ≡ []
  no_words none = ap words_kept (stands.run.nulls.kept.0 none)

  -- what was drawn and refused was asked for
  only_asked : OnlyAsked p (end_seen plan end) end.calls
  only_asked = record {
    again = stands.asked.again;
    null = stands.asked.null;
    limit = stands.asked.limit;
    gathered = λ t members call clear.
        let (row, there) = member_beside t (OfAll members) call in
        stands.asked.gathered t members call (ends_finished plan end p plan.limit stands.run (end_quiet p c plan end run) t (row, there, (stands.run.calls.row_of t (OfAll members) row call there).0)) clear;
  }
    where
      member_beside : (t : ℕ) (call : Accepted) → by_number end.calls t ≡ Some call → (row : ActivationRow) × (by_number end.journal.rows t ≡ Some row)
      member_beside t call there = let within = number_within end.calls t call there in member_at end.journal.rows t within.0 (omega (arith, within.1, stands.run.numbers.beside.of_calls))

  -- each null answer ended a task or a root, or made one ask again
  nulls_bound : end.nulls ≤ null_ends (end_seen plan end) + total again_at_once end.calls + total limit_task end.journal.tasks
  nulls_bound = omega (arith, stands.bound, null_roots plan end end.roots)

  -- the calls and the makers of the run tell its end
  calls_tell : TellRun p (end_seen plan end) end.calls makers
  calls_tell = record {
    as_many = stands.run.numbers.beside.of_calls;
    rows = stands.run.calls.row_of;
    earlier = stands.run.calls.earlier;
    own = (end_roots p c plan formed end run).tasks;
    of_root = by_maker;
    in_order = in_order;
    asked = only_asked;
    wanted = wanted;
    nulls = nulls_bound;
  }

pub ends_faithful : EndsAreFaithful
ends_faithful p c plan end formed valid geometry run = record {
  cuts = ends_hide_no_cut p c plan end run;
  own = ends_are_as_asked p c plan end formed run;
  told = (end.calls, makers p c plan formed valid end run, calls_tell p c plan formed valid end run);
  bare = no_words p c plan formed valid end run;
  shown = evidence_shown p c plan formed valid end run;
  counts = counts_left p c plan geometry formed end run;
}
