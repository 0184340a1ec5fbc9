-- A running record is done, step by step.
use Rattle.std.proofs.Common.{◌≡◌, ◌≢◌, ◌∙◌, ℕ, ◌+◌, ◌<◌, ◌≤◌, ◌/◌, Bool, false, cond, Some, None, List, [], ◌∷◌, refl, sym, ap, subst, true≢false, arith}
use Rattle.std.proofs.lemmas.Bool.{eq-eqb, ne_eqb}
use Rattle.record_core.specs.Counting.{times, one_if, dropped}
use Rattle.kt_words.specs.declared.plan.Plan.{Plan}
use Rattle.table_core.specs.Addresses.{Addr, super, bits, refs, sum, outcome as result_word, units_of}
use Rattle.table_core.specs.Holdings.{Place, Block as BlockOf}
use Rattle.table_core.specs.Pool.{superblock_of, bit_of}
use Rattle.table_core.specs.RecordViews.{is_at, is_done_at, at_last}
use Rattle.table_core.specs.Views.{place, block, is_block}
use Rattle.table_core.specs.declared.view.View.{View}
use Rattle.table_core.proofs.BagFacts.{one-here}
use Rattle.table_core.proofs.ListFacts.{block-passes}
use Rattle.schedule_rule.specs.LifeViews.{count_out}
use Rattle.step_table.specs.LivingSteps.{CountsOut}
use Rattle.step_table.specs.Lookups.{done_in}
use Rattle.step_table.specs.Passes.{view, block_of}
use Rattle.step_table.specs.RecordHands.{MayGiveUp, HasRetiring}
use Rattle.step_table.specs.RecordSteps.{Fills, GivesUp, Retires}
use Rattle.step_table.specs.Steps.{Releases}
use Rattle.step_table.specs.declared.pass.Pass.{Pass}
use Rattle.step_table.specs.declared.record_tokens.Finishing.{Finishing}
use Rattle.step_table.specs.declared.record_tokens.Retiring.{Retiring}
use Rattle.step_table.specs.declared.record_tokens.OwnWord.TheVariants as own_word
use Rattle.step_table.specs.declared.tokens.Block.{Block}
use Rattle.schedule_core.specs.Completing.{with_result, WritesResult, MayClose, Closes}
use Rattle.schedule_core.specs.declared.answers.Outcome.{Outcome}
use Rattle.schedule_core.specs.declared.answers.Outcome.TheVariants as ends
use Rattle.schedule_core.proofs.ChangedRuns.{dropped-changed, first-changed}
use Rattle.schedule_core.proofs.EachFacts.{grows-self, grows-on}

-- the number that a task gives is written, or nothing is
pub writes-number : (u n : ℕ) (outcome : Outcome) (old new : Pass) → outcome ≡ ends.Number n → Fills u own_word.Result n old new → WritesResult u outcome (view old) (view new)
writes-number u n outcome old new is fills = subst (λ (o : Outcome). WritesResult u o (view old) (view new)) (sym is) (record {
  seen = ((result_word u, fills.found) ∷ [], ap (λ (v : View). v.seen) fills.view_is);
  view_is = fills.view_is ∙ (λ k. record (view old) { known = (result_word u, n) ∷ (view old).known; seen = (sym fills.view_is k).seen });
})

pub writes-none : (u : ℕ) (outcome : Outcome) (v : View) → with_result u outcome v.known ≡ v.known → WritesResult u outcome v v
writes-none u outcome v same = record { seen = grows-self v.seen; view_is = λ k. record v { known = sym same k } }

-- a done record that was counted out may be given up
pub may-give : (g : Plan) (u : ℕ) (old new : Pass) → MayClose g u (view old) → CountsOut u old new → MayGiveUp g u (view new)
may-give g u old new may counts = record {
  done = count_out may.done;
  at = record { near = may.at.near; there = ap (λ (v : View). done_in u v.done) counts.view_is ∙ first-changed (is_done_at u) count_out (λ x. refl) (view old).done may.done may.at.there };
  closed = may.closed;
  out = refl;
}

-- and is in the hand no more then
gone : (u : ℕ) (old new : Pass) → CountsOut u old new → dropped (is_done_at u) (view new).done ≡ dropped (is_done_at u) (view old).done
gone u old new counts = ap (λ (v : View). dropped (is_done_at u) v.done) counts.view_is ∙ dropped-changed (is_done_at u) count_out (λ x. refl) (view old).done

pub retires-last : (g : Plan) (u : ℕ) (old new : Pass) (finishing : Finishing) (retiring : Retiring) → u < units_of g → finishing.unit ≡ u → GivesUp finishing old (Some retiring) new → HasRetiring g retiring.unit (view new)
retires-last g u old new finishing retiring near is gives = record {
  near = omega (arith, near, is, gives.last_is.unit_is);
  there = subst (λ (w : ℕ). 1 ≤ times w (view new).retiring) (sym gives.last_is.unit_is)
      (omega (
        arith,
        ap (λ (v : View). times finishing.unit v.retiring) gives.view_is,
        ap (λ (n : ℕ). times finishing.unit (at_last finishing.unit n (view old).retiring)) (gives.last_is.exactly.0 refl),
        one-here finishing.unit,
      ));
}

pub closes-none : (u : ℕ) (old mid new : Pass) (finishing : Finishing) → finishing.unit ≡ u → CountsOut u old mid → GivesUp finishing mid None new → Closes u (view old) (view new)
closes-none u old mid new finishing is counts gives = subst (λ (w : ℕ). Closes w (view old) (view new)) is (record {
  settles = ([], same_settles);
  seen = ((refs finishing.unit, gives.found) ∷ (sum 1, counts.found) ∷ [], ap (λ (v : View). v.seen) gives.view_is ∙ ap (λ l. (refs finishing.unit, gives.found) ∷ l) (ap (λ (v : View). v.seen) counts.view_is));
  view_is = gives.view_is
      ∙ (λ k. record (view mid) { done = dropped (is_done_at finishing.unit) (view mid).done; retiring = no_last k; seen = (refs finishing.unit, gives.found) ∷ (view mid).seen })
      ∙ (λ k. record (counts.view_is k) { done = dropped (is_done_at finishing.unit) (view mid).done; seen = (refs finishing.unit, gives.found) ∷ (view mid).seen })
      ∙ (λ k. record (view old) { done = its_gone k; settles = sym same_settles k; seen = (sym gives.view_is k).seen });
})
  where
    same_settles : (view new).settles ≡ (view old).settles
    same_settles = ap (λ (v : View). v.settles) gives.view_is ∙ ap (λ (v : View). v.settles) counts.view_is

    other : gives.found ≢ 1
    other e = true≢false (sym (gives.last_is.exactly.1 e))

    no_last : at_last finishing.unit gives.found (view mid).retiring ≡ (view mid).retiring
    no_last = ap (λ (b : Bool). cond b (finishing.unit ∷ (view mid).retiring) (view mid).retiring) (ne_eqb gives.found 1 other)

    its_gone : dropped (is_done_at finishing.unit) (view mid).done ≡ dropped (is_done_at finishing.unit) (view old).done
    its_gone = ap (λ (w : ℕ). dropped (is_done_at w) (view mid).done) is ∙ gone u old mid counts ∙ ap (λ (w : ℕ). dropped (is_done_at w) (view old).done) (sym is)

pub closes-some : (g : Plan) (u : ℕ) (old mid now freed new : Pass) (finishing : Finishing) (retiring : Retiring) (back : Block) → finishing.unit ≡ u → CountsOut u old mid → GivesUp finishing mid (Some retiring) now
    → Retires g retiring now back freed → Releases g back freed new → Closes u (view old) (view new)
closes-some g u old mid now freed new finishing retiring back is counts gives retires releases = record {
  settles = (
    place (superblock_of g back.unit) back.class ∷ [],
    ap (λ (v : View). v.settles) releases.view_is
        ∙ ap (λ (l : List Place). place (superblock_of g back.unit) back.class ∷ l) (ap (λ (v : View). v.settles) retires.view_is ∙ ap (λ (v : View). v.settles) gives.view_is ∙ ap (λ (v : View). v.settles) counts.view_is),
  );
  seen = grows-on (view old).seen (view mid).seen (view new).seen ((sum 1, counts.found) ∷ [], ap (λ (v : View). v.seen) counts.view_is)
      (grows-on (view mid).seen (view now).seen (view new).seen ((refs finishing.unit, gives.found) ∷ [], ap (λ (v : View). v.seen) gives.view_is)
      (grows-on (view now).seen (view freed).seen (view new).seen (_ ∷ _ ∷ [], ap (λ (v : View). v.seen) retires.view_is) (_ ∷ _ ∷ [], ap (λ (v : View). v.seen) releases.view_is)));
  view_is = releases.view_is
      ∙ (λ k. record (retires.view_is k) { blocks = blocks_then; retiring = (view freed).retiring; cleared = cleared_then; settles = settles_then; seen = seen_then })
      ∙ (λ k. record (gives.view_is k) { blocks = blocks_then; retiring = (view freed).retiring; done = (view now).done; cleared = cleared_then; settles = settles_then; seen = seen_then })
      ∙ (λ k. record (counts.view_is k) { blocks = blocks_then; retiring = (view freed).retiring; done = (view now).done; cleared = cleared_then; settles = settles_then; seen = seen_then })
      ∙ (λ k. record (view old) { blocks = blocks_are k; retiring = retiring_are k; done = done_are k; cleared = cleared_are k; settles = (sym releases.view_is k).settles; seen = (sym releases.view_is k).seen });
}
  where
    blocks_then : List BlockOf
    blocks_then = dropped (is_block (block_of back)) (view freed).blocks

    cleared_then : ℕ
    cleared_then = (view freed).cleared + one_if (block_of back).fresh

    settles_then : List Place
    settles_then = place (superblock_of g back.unit) back.class ∷ (view freed).settles

    seen_then : List (Addr × ℕ)
    seen_then = (super (superblock_of g back.unit), releases.counted) ∷ (bits (superblock_of g back.unit) (bit_of g back.unit back.class / 64), releases.found) ∷ (view freed).seen

    blocks_are : blocks_then ≡ (view old).blocks
    blocks_are = ap (λ (v : View). dropped (is_block (block_of back)) v.blocks) retires.view_is
        ∙ (λ k. dropped (is_block (retires.block_is k)) (block retiring.unit back.class false ∷ (view now).blocks))
        ∙ ap (λ (b : Bool). cond b (view now).blocks (block retiring.unit back.class false ∷ dropped (is_block (block retiring.unit back.class false)) (view now).blocks)) (block-passes (block retiring.unit back.class false))
        ∙ ap (λ (v : View). v.blocks) gives.view_is ∙ ap (λ (v : View). v.blocks) counts.view_is

    one : gives.found ≡ 1
    one = gives.last_is.exactly.0 refl

    retiring_are : (view freed).retiring ≡ (view old).retiring
    retiring_are = ap (λ (v : View). v.retiring) retires.view_is
        ∙ ap (λ (v : View). dropped (is_at retiring.unit) v.retiring) gives.view_is
        ∙ ap (λ (n : ℕ). dropped (is_at retiring.unit) (at_last finishing.unit n (view mid).retiring)) one
        ∙ ap (λ (b : Bool). cond b (view mid).retiring (finishing.unit ∷ dropped (is_at retiring.unit) (view mid).retiring)) (eq-eqb finishing.unit retiring.unit (sym gives.last_is.unit_is))
        ∙ ap (λ (v : View). v.retiring) counts.view_is

    done_are : (view now).done ≡ dropped (is_done_at u) (view old).done
    done_are = ap (λ (v : View). v.done) gives.view_is ∙ ap (λ (w : ℕ). dropped (is_done_at w) (view mid).done) is ∙ gone u old mid counts

    cleared_are : cleared_then ≡ (view old).cleared
    cleared_are = omega (
      arith,
      ap (λ (b : BlockOf). one_if b.fresh) retires.block_is,
      ap (λ (v : View). v.cleared) retires.view_is,
      ap (λ (v : View). v.cleared) gives.view_is,
      ap (λ (v : View). v.cleared) counts.view_is,
    )
