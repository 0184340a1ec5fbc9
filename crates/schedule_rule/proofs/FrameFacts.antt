-- What a frame is of is told by its words as far as the frame is long, and by the tasks of the units that it names.
use Rattle.std.proofs.Common.{◌≡◌, ◌∙◌, ◌⊎◌, inl, inr, ℕ, suc, ◌+◌, ◌<◌, ◌≤◌, ◌==◌, Bool, true, false, cond, List, [], ◌∷◌, map, Some, refl, sym, ap, subst, arith}
use Rattle.std.specs.Prelude.{slice_index}
use Rattle.std.proofs.lemmas.Bool.{cases_lt, eq-eqb}
use Rattle.table_core.proofs.BagFacts.{record-from}
use Rattle.std.specs.List.{filter_map}
use Rattle.record_core.specs.Sums.{below, total}
use Rattle.record_core.specs.Counting.{At, Has, one_if, times}
use Rattle.record_core.proofs.BelowFacts.{below-member}
use Rattle.record_core.proofs.CountFacts.{times-some}
use Rattle.record_core.proofs.TotalFacts.{none_there, total-member}
use Rattle.task_syntax.specs.declared.program.Program.{Program}
use Rattle.task_meaning.specs.Worths.{Accepted, OfAll}
use Rattle.frame_code.specs.Control.{control_kind, control_state, control_at, is_aggregate}
use Rattle.frame_code.specs.Frames.{frame_length}
use Rattle.frame_code.specs.Names.{names_of, named}
use Rattle.frame_code.specs.Words.{BodyOf, OfKind, OfMembers, unit_named, words_from, members_at, frame_at, body_at}
use Rattle.table_core.specs.Addresses.{Mem, state, refs, root, frame_in, units_of}
use Rattle.table_core.specs.Holdings.{Run}
use Rattle.table_core.specs.References.{Bag, is_saved, is_record, saved_in}
use Rattle.table_core.specs.Story.{Story}
use Rattle.table_core.specs.Parts.{references, sights, seen as table_seen}
use Rattle.table_core.specs.declared.setup.Setup.{Setup}
use Rattle.table_core.specs.declared.view.View.{View}
use Rattle.table_core.proofs.FrameReads.{frame-some, length-group, words-within}
use Rattle.table_core.proofs.ListFacts.{at_map, map_at}
use Rattle.table_core.proofs.SightFacts.{sighted}
use Rattle.schedule_rule.specs.Frames.{IsFrameOf, BagSound, needed, front}
use Rattle.schedule_rule.specs.Parts.{bags, seen, AllSay}

-- two functions that agree on each member make the same list
pub map-agrees : (f h : ℕ → ℕ) (l : List ℕ) → ((x : ℕ) → Has x l → f x ≡ h x) → map f l ≡ map h l
map-agrees f h [] same = refl
map-agrees f h (x ∷ l) same =
    let e : f x ≡ h x = same x (0, refl) in let rest : map f l ≡ map h l = map-agrees f h l (λ y has. same y (suc has.0, has.1)) in cc

-- the units of an aggregate's members
abbrev pub units_in : BodyOf ℕ → List ℕ
units_in (OfKind q) = []
units_in (OfMembers units next) = units

in-named : (body : BodyOf ℕ) (x : ℕ) → Has x (units_in body) → Has x (names_of body)
in-named (OfKind q) x has = absurd (none_there x has.1)
in-named (OfMembers units next) x has = has

-- a frame is of its task's call whatever the tasks of units are that are no members of it
pub frame-tasks : (p : Program) (calls : List Accepted) (tasks tasks' : ℕ → ℕ) (n : ℕ) (body : BodyOf ℕ) → ((x : ℕ) → Has x (units_in body) → tasks' x ≡ tasks x)
    → IsFrameOf p calls tasks n body → IsFrameOf p calls tasks' n body
frame-tasks p calls tasks tasks' n (OfKind q) same is = is
frame-tasks p calls tasks tasks' n (OfMembers units next) same is = (is.0 ∙ ap (λ (ms : List ℕ). Some (OfAll ms)) (map-agrees tasks tasks' units (λ x has. sym (same x has))), is.1)

-- words that agree as far as a frame goes begin with the same frame
pub front-same : (p : Program) (w w' : ℕ → ℕ) → ((k : ℕ) → k < frame_length p (w 0) → w' k ≡ w k) → front p w' ≡ front p w
front-same p w w' same = ap (λ (c : ℕ). words_from w' 0 (frame_length p c)) (same 0 (frame-some p (w 0))) ∙ words-within w w' 0 (frame_length p (w 0)) (λ k low high. same k (omega (arith, high)))

-- frames with the same words are of the same call
pub frame-words : (p : Program) (calls : List Accepted) (tasks : ℕ → ℕ) (n : ℕ) (w w' : ℕ → ℕ) → ((k : ℕ) → k < frame_length p (w 0) → w' k ≡ w k)
    → IsFrameOf p calls tasks n (body_at p w) → IsFrameOf p calls tasks n (body_at p w')
frame-words p calls tasks n w w' same = by (is_aggregate (w 0)) refl
  where
    first : w' 0 ≡ w 0
    first = same 0 (frame-some p (w 0))

    body-group : (x : ℕ → ℕ) → is_aggregate (x 0) ≡ true → body_at p x ≡ OfMembers (members_at x) (control_at (x 0))
    body-group x e = ap (λ (b : Bool). cond b (OfMembers (members_at x) (control_at (x 0))) (OfKind (frame_at p x))) e

    body-task : (x : ℕ → ℕ) → is_aggregate (x 0) ≡ false → body_at p x ≡ OfKind (frame_at p x)
    body-task x e = ap (λ (b : Bool). cond b (OfMembers (members_at x) (control_at (x 0))) (OfKind (frame_at p x))) e

    members : is_aggregate (w 0) ≡ true → members_at w' ≡ members_at w
    members e = ap (λ (c : ℕ). filter_map unit_named (words_from w' 1 (control_state c))) first
        ∙ ap (filter_map unit_named) (words-within w w' 1 (control_state (w 0)) (λ k low high. same k (omega (arith, high, length-group p (w 0) e))))

    by : (b : Bool) → is_aggregate (w 0) ≡ b → IsFrameOf p calls tasks n (body_at p w) → IsFrameOf p calls tasks n (body_at p w')
    by true e is =
        let was : IsFrameOf p calls tasks n (OfMembers (members_at w) (control_at (w 0))) = subst (IsFrameOf p calls tasks n) (body-group w e) is in
        subst (IsFrameOf p calls tasks n) (sym (body-group w' (ap is_aggregate first ∙ e)))
        (was.0 ∙ ap (λ (us : List ℕ). Some (OfAll (map tasks us))) (sym (members e)), ap control_at first ∙ was.1)
    by false e is =
        let was : IsFrameOf p calls tasks n (OfKind (frame_at p w)) = subst (IsFrameOf p calls tasks n) (body-task w e) is in
        subst (IsFrameOf p calls tasks n) (sym (body-task w' (ap is_aggregate first ∙ e))) (
          (was.0.0, was.0.1, was.0.2, ap control_kind first ∙ was.0.3),
          subst (λ (c : ℕ). Rattle.frame_code.specs.Ways.HasWay p (record (frame_at p w') { kind = control_kind c; state = control_state c; at = control_at c })) (sym first) was.1,
        )

module _ (g : Setup) (m : Mem) (vs : List View) (s : Story) (l : AllSay g s m vs) where
  abbrev table_bags : List Bag
  table_bags = map (table_seen references) vs

  abbrev in_frames : ℕ → ℕ
  in_frames x = below (saved_in g.checked (λ w. m (state w)) (λ w. m (refs w)) (λ r. m (root r)) (frame_in m) x) (units_of g.plan)

  -- the members of a saved aggregate are records
  pub saved-members : (r : ℕ) → r < units_of g.plan → is_saved (m (state r)) ≡ true → (x : ℕ) → Has x (units_in (body_at g.checked (frame_in m r))) → is_record (m (state x)) ≡ true
  saved-members r near is x has =
      let one : saved_in g.checked (λ w. m (state w)) (λ w. m (refs w)) (λ k. m (root k)) (frame_in m) x r ≡ times x (named g.checked (frame_in m r)) = ap (λ (b : Bool). cond b (times x (named g.checked (frame_in m r))) 0) is in
      let all : saved_in g.checked (λ w. m (state w)) (λ w. m (refs w)) (λ k. m (root k)) (frame_in m) x r ≤ in_frames x = below-member (saved_in g.checked (λ w. m (state w)) (λ w. m (refs w)) (λ k. m (root k)) (frame_in m) x) (units_of g.plan) r near in
      by (omega (arith, one, all, (times-some x (named g.checked (frame_in m r))).1 (in-named (body_at g.checked (frame_in m r)) x has))) (cases_lt x (units_of g.plan)) (is_record (m (state x))) refl
    where
      by : 1 ≤ in_frames x → (x < units_of g.plan) ⊎ (units_of g.plan ≤ x) → (b : Bool) → is_record (m (state x)) ≡ b → is_record (m (state x)) ≡ true
      by some which true e = e
      by some (inl low) false e = absurd (omega (arith, some, (l.table references).unnamed x low e))
      by some (inr far) false e = absurd (omega (arith, some, (l.table references).inside x far))

  -- and so are those of a running one
  pub running-members : (k : ℕ) (v : View) → At vs k v → (j : ℕ) (r : Run) → At v.runs j r → (x : ℕ) → Has x (units_in (body_at g.checked (slice_index r.words))) → is_record (m (state x)) ≡ true
  running-members k v at j r there x has =
      let bag : BagSound g.checked (seen bags v) = l.schedule bags k (seen bags v) (at_map (seen bags) vs k v at) in
      let t = map_at (λ (y : Run × List ℕ). y.0) bag.pairs j r (subst (λ (rs : List Run). At rs j r) (sym bag.are_runs) there) in
      let its : times x (needed (body_at g.checked (slice_index t.0.0.words)) t.0.1) ≤ total (λ (y : Run × List ℕ). times x (needed (body_at g.checked (slice_index y.0.words)) y.1)) bag.pairs =
      total-member (λ (y : Run × List ℕ). times x (needed (body_at g.checked (slice_index y.0.words)) y.1)) bag.pairs j t.0 t.1 in
      let some : 1 ≤ times x (needed (body_at g.checked (slice_index t.0.0.words)) t.0.1) =
      subst (λ (y : Run). 1 ≤ times x (needed (body_at g.checked (slice_index y.words)) t.0.1)) (sym t.2) (needs (body_at g.checked (slice_index r.words)) t.0.1 has) in
      (sighted g m vs s l.table k (table_seen sights v) (at_map (table_seen sights) vs k v at) x (omega (arith, its, some, bag.enough x))).1
    where
      needs : (body : BodyOf ℕ) (variables : List ℕ) → Has x (units_in body) → 1 ≤ times x (needed body variables)
      needs (OfKind q) variables has' = absurd (none_there x has'.1)
      needs (OfMembers units next) variables has' = (times-some x units).1 has'

  -- the record that a root word names is one
  pub root-named : (r w : ℕ) → r < 16 → w < units_of g.plan → m (root r) ≡ w + 1 → is_record (m (state w)) ≡ true
  root-named r w low near e =
      let one : one_if (m (root r) == w + 1) ≤ below (λ k. one_if (m (root k) == w + 1)) 16 = below-member (λ k. one_if (m (root k) == w + 1)) 16 r low in
      record-from g.checked g.plan (λ x. m (state x)) (λ x. m (refs x)) (λ k. m (root k)) (frame_in m) table_bags (l.table references) w near (omega (arith, one, ap one_if (eq-eqb (m (root r)) (w + 1) e)))
