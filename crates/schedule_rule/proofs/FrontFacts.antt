-- The words of a block begin with a frame that says what they say.
use Rattle.std.proofs.Common.{◌≡◌, ◌∙◌, ℕ, suc, ◌+◌, ◌<◌, ◌≤◌, Bool, true, false, cond, Option, Some, None, List, [], ◌∷◌, length, refl, sym, ap, subst, arith}
use Rattle.std.specs.Prelude.{slice_index, slice_get}
use Rattle.std.specs.List.{filter_map}
use Rattle.task_syntax.specs.declared.program.Program.{Program}
use Rattle.task_syntax.specs.declared.program.Variable.{Variable}
use Rattle.task_syntax.specs.declared.program.Kind.{Kind}
use Rattle.task_syntax.specs.declared.program.Sort.{Sort}
use Rattle.task_syntax.specs.declared.program.Sort.TheVariants.{Number, Future}
use Rattle.task_meaning.specs.Frame.{FrameOf, variables_of, variables_in}
use Rattle.frame_code.specs.Control.{control_kind, control_state, control_at, is_aggregate}
use Rattle.frame_code.specs.Frames.{frame_length, IsFrame}
use Rattle.frame_code.specs.Words.{BodyOf, OfKind, OfMembers, variable_list, variables_at, number_count, future_count, one_if_future, unit_named, future_if, numbers_from, futures_from, words_from, members_at, frame_at, body_at, body_of}
use Rattle.frame_code.proofs.Variables.{numbers-same, both-counts}
use Rattle.table_core.proofs.FrameReads.{frame-some, length-group, words-within}
use Rattle.schedule_rule.specs.Frames.{HoldsNames, front}
use Rattle.schedule_rule.proofs.TakingFacts.{read-words}

-- words that agree from the first future on, as far as there are futures, name the same units
futures-within : (w w' : ℕ → ℕ) (place : ℕ) (vs : List Variable) → ((k : ℕ) → place ≤ k → k < place + future_count vs → w' k ≡ w k) → futures_from w' place vs ≡ futures_from w place vs
futures-within w w' place [] same = refl
futures-within w w' place (v ∷ vs) same = both (head v.sort (λ k low high. same k low high))
    (futures-within w w' (place + one_if_future v.sort) vs (λ k low high. same k (omega (arith, low)) (omega (arith, high))))
  where
    both : {a b : Option ℕ} {xs ys : List (Option ℕ)} → a ≡ b → xs ≡ ys → (a ∷ xs) ≡ (b ∷ ys)
    both e e' = cc

    head : (s : Sort) → ((k : ℕ) → place ≤ k → k < place + (one_if_future s + future_count vs) → w' k ≡ w k) → future_if s (w' place) ≡ future_if s (w place)
    head Number agree = refl
    head Future agree = ap unit_named (agree place (omega arith) (omega arith))

-- a kind has as many variables as its list
many-variables : (o : Option Kind) → variables_in o ≡ length (variable_list o)
many-variables None = refl
many-variables (Some kind) = refl

-- words that agree as far as the frame goes say the same body
pub body-same : (p : Program) (w w' : ℕ → ℕ) → ((k : ℕ) → k < frame_length p (w 0) → w' k ≡ w k) → body_at p w' ≡ body_at p w
body-same p w w' same = by (is_aggregate (w 0)) refl
  where
    first : w' 0 ≡ w 0
    first = same 0 (frame-some p (w 0))

    body-group : (x : ℕ → ℕ) → is_aggregate (x 0) ≡ true → body_at p x ≡ OfMembers (members_at x) (control_at (x 0))
    body-group x e = ap (λ (b : Bool). cond b (OfMembers (members_at x) (control_at (x 0))) (OfKind (frame_at p x))) e

    body-task : (x : ℕ → ℕ) → is_aggregate (x 0) ≡ false → body_at p x ≡ OfKind (frame_at p x)
    body-task x e = ap (λ (b : Bool). cond b (OfMembers (members_at x) (control_at (x 0))) (OfKind (frame_at p x))) e

    -- the variables of the kind
    vs : List Variable
    vs = variables_at p (control_kind (w 0))

    long : is_aggregate (w 0) ≡ false → frame_length p (w 0) ≡ 1 + number_count vs + future_count vs
    long e = ap (λ (b : Bool). cond b (1 + control_state (w 0)) (1 + variables_of p (control_kind (w 0)))) e
        ∙ omega (arith, many-variables (slice_get p.kinds (control_kind (w 0))), both-counts vs)

    group : is_aggregate (w 0) ≡ true → members_at w' ≡ members_at w
    group e = ap (λ (c : ℕ). filter_map unit_named (words_from w' 1 (control_state c))) first
        ∙ ap (filter_map unit_named) (words-within w w' 1 (control_state (w 0)) (λ k low high. same k (omega (arith, high, length-group p (w 0) e))))

    of_words : ℕ → List ℕ → List (Option ℕ) → FrameOf ℕ
    of_words c numbers futures = record { kind = control_kind c; state = control_state c; at = control_at c; numbers = numbers; futures = futures }

    task : is_aggregate (w 0) ≡ false → frame_at p w' ≡ frame_at p w
    task e = ap (λ (c : ℕ). of_words c (numbers_from w' 1 (variables_at p (control_kind c))) (futures_from w' (1 + number_count (variables_at p (control_kind c))) (variables_at p (control_kind c)))) first
        ∙ ap (λ (numbers : List ℕ). of_words (w 0) numbers (futures_from w' (1 + number_count vs) vs)) (numbers-same w w' 1 vs (λ k low high. same k (omega (arith, high, long e))))
        ∙ ap (of_words (w 0) (numbers_from w 1 vs)) (futures-within w w' (1 + number_count vs) vs (λ k low high. same k (omega (arith, high, long e))))

    by : (b : Bool) → is_aggregate (w 0) ≡ b → body_at p w' ≡ body_at p w
    by true e = body-group w' (ap is_aggregate first ∙ e) ∙ ap (λ (units : List ℕ). OfMembers units (control_at (w' 0))) (group e)
        ∙ ap (λ (c : ℕ). OfMembers (members_at w) (control_at c)) first ∙ sym (body-group w e)
    by false e = body-task w' (ap is_aggregate first ∙ e) ∙ ap OfKind (task e) ∙ sym (body-task w e)

-- and where what is held names units by the one, it does so by the other
pub holds-same : (p : Program) (w w' : ℕ → ℕ) → ((k : ℕ) → k < frame_length p (w 0) → w' k ≡ w k) → HoldsNames p (body_at p w) → HoldsNames p (body_at p w')
holds-same p w w' same names = subst (λ (b : BodyOf ℕ). HoldsNames p b) (sym (body-same p w w' same)) names

-- the front says what the words say
pub front-says : (p : Program) (words : ℕ → ℕ) → body_of p (front p words) ≡ body_at p words
front-says p words = body-same p words (slice_index (front p words)) (λ k low. read-words words 0 (frame_length p (words 0)) k low ∙ ap words (omega arith))

-- the words of a list, read one by one
whole-words : (ws : List ℕ) (f : ℕ → ℕ) (k : ℕ) → ((j : ℕ) → f (k + j) ≡ slice_index ws j) → words_from f k (length ws) ≡ ws
whole-words [] f k same = refl
whole-words (w ∷ ws) f k same = both (ap f (omega arith) ∙ same 0) (whole-words ws f (k + 1) (λ j. ap f (omega arith) ∙ same (suc j)))
  where
    both : {a b : ℕ} {xs ys : List ℕ} → a ≡ b → xs ≡ ys → (a ∷ xs) ≡ (b ∷ ys)
    both e e' = cc

-- a frame is its own front
pub front-whole : (p : Program) (words : List ℕ) → IsFrame p words → front p (slice_index words) ≡ words
front-whole p words is = ap (words_from (slice_index words) 0) (sym is.size) ∙ whole-words words (slice_index words) 0 (λ j. ap (slice_index words) (omega arith))
