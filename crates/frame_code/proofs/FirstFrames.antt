-- The first frame of a task, as what is passed is put into it variable by variable.
use Rattle.std.proofs.Common.{◌≡◌, ℕ, zero, suc, ◌+◌, ◌-◌, ◌<◌, cond, Option, Some, None, List, [], ◌∷◌, ◌++◌, length, map, take, replicate, false, slice_get, slice_index, slice_set, refl, sym, ◌∙◌, ap, subst, arith}
use Rattle.std.specs.Option.{option_map}
use Rattle.std.proofs.lemmas.Option.{slice_get_within}
use Rattle.task_syntax.specs.Facts.{has}
use Rattle.task_syntax.specs.declared.program.Sort.{Sort}
use Rattle.task_syntax.specs.declared.program.Sort.TheVariants as sort
use Rattle.task_syntax.specs.declared.program.Variable.{Variable}
use Rattle.task_syntax.specs.declared.program.Kind.{Kind}
use Rattle.task_syntax.specs.declared.program.Program.{Program}
use Rattle.task_meaning.specs.Frame.{FrameOf, variables_of, variables_in, holds_at, padded, kept, kept_from, entry}
use Rattle.frame_code.specs.Control.{control_kind, is_aggregate}
use Rattle.frame_code.specs.Words.{OfKind, variable_list, variables_at, one_if_number, one_if_future, number_count, future_count, unit_named, frame_at, body_of}
use Rattle.frame_code.specs.Layout.{number_place, future_place}
use Rattle.frame_code.specs.Frames.{IsFrame}
use Rattle.frame_code.specs.Setting.{with_number, with_future, IsSetNumber, IsSetFuture}
use Rattle.frame_code.specs.Entries.{sort_of_passed, number_of, future_of, call_of, MayEnterWith, IsEntryOf}
use Rattle.frame_code.specs.declared.entries.Passed.{Passed}
use Rattle.frame_code.specs.declared.entries.Passed.TheVariants.{Number, Future}
use Rattle.frame_code.proofs.HeldActs.{item-within}
use Rattle.frame_code.proofs.Variables.{IsSort}
use Rattle.frame_code.proofs.MovedFrames.{task-stands}
use Rattle.frame_code.proofs.SetFrames.{number-set, future-set, number-place_within, future-place_within}

-- the list made n long: what `padded` gives of a list that is no longer
abbrev pad : {A : Type 0} → ℕ → A → List A → List A
pad zero d xs = xs
pad (suc n) d [] = d ∷ pad n d []
pad (suc n) d (x ∷ xs) = x ∷ pad n d xs

append-none : {A : Type 0} (xs : List A) → xs ++ [] ≡ xs
append-none [] = refl
append-none (x ∷ xs) = ap (λ ys. x ∷ ys) (append-none xs)

padded-pad : {A : Type 0} (n : ℕ) (d : A) (xs : List A) → padded n d xs ≡ pad n d xs
padded-pad {A} zero d xs = let e : 0 - length xs ≡ 0 = omega arith in ap (λ (m : ℕ). xs ++ replicate m d) e ∙ append-none xs
padded-pad {A} (suc n) d [] =
    let e : suc n - 0 ≡ suc n = omega arith in
    let g : n ≡ n - 0 = omega arith in
    ap (λ (m : ℕ). replicate m d) e ∙ ap (λ ys. d ∷ ys) (ap (λ (m : ℕ). replicate m d) g ∙ padded-pad n d [])
padded-pad {A} (suc n) d (x ∷ xs) =
    let e : suc n - suc (length xs) ≡ n - length xs = omega arith in
    ap (λ (m : ℕ). x ∷ (xs ++ replicate m d)) e ∙ ap (λ ys. x ∷ ys) (padded-pad n d xs)

pad-set : {A B : Type 0} (n : ℕ) (d : A) (f : B → A) (xs : List B) (x : ℕ) (b : B) → x < n → slice_get xs x ≡ Some b
    → slice_set (pad n d (map f (take x xs))) x (f b) ≡ pad n d (map f (take (suc x) xs))
pad-set zero d f xs x b h e = absurd (omega (arith, h))
pad-set (suc n) d f [] x b h e = cc
pad-set (suc n) d f (y ∷ ys) zero b h e = let s : y ≡ b = cc in ap (λ z. f z ∷ pad n d []) (sym s)
pad-set (suc n) d f (y ∷ ys) (suc x) b h e = ap (λ zs. f y ∷ zs) (pad-set n d f ys x b (omega (arith, h)) e)

pad-same : {A B : Type 0} (n : ℕ) (d : A) (f : B → A) (xs : List B) (x : ℕ) (b : B) → x < n → slice_get xs x ≡ Some b → f b ≡ d
    → pad n d (map f (take x xs)) ≡ pad n d (map f (take (suc x) xs))
pad-same zero d f xs x b h e s = absurd (omega (arith, h))
pad-same (suc n) d f [] x b h e s = cc
pad-same (suc n) d f (y ∷ ys) zero b h e s = let g : y ≡ b = cc in ap (λ z. z ∷ pad n d []) (sym (ap f g ∙ s))
pad-same (suc n) d f (y ∷ ys) (suc x) b h e s = ap (λ zs. f y ∷ zs) (pad-same n d f ys x b (omega (arith, h)) e s)

-- one more member of a list takes the place of a dummy
padded-set : {A B : Type 0} (n : ℕ) (d : A) (f : B → A) (xs : List B) (x : ℕ) (b : B) → x < n → slice_get xs x ≡ Some b
    → slice_set (padded n d (map f (take x xs))) x (f b) ≡ padded n d (map f (take (suc x) xs))
padded-set n d f xs x b h e = ap (λ zs. slice_set zs x (f b)) (padded-pad n d (map f (take x xs)))
    ∙ (pad-set n d f xs x b h e ∙ sym (padded-pad n d (map f (take (suc x) xs))))

-- one that is a dummy changes nothing
padded-same : {A B : Type 0} (n : ℕ) (d : A) (f : B → A) (xs : List B) (x : ℕ) (b : B) → x < n → slice_get xs x ≡ Some b → f b ≡ d
    → padded n d (map f (take x xs)) ≡ padded n d (map f (take (suc x) xs))
padded-same n d f xs x b h e s = padded-pad n d (map f (take x xs)) ∙ (pad-same n d f xs x b h e s ∙ sym (padded-pad n d (map f (take (suc x) xs))))

-- a future that is put among the kept ones is kept where it is held
kept-set : (at : ℕ) (held : List ℕ) (fs : List (Option ℕ)) (x : ℕ) (f : Option ℕ)
    → kept_from at held (slice_set fs x f) ≡ slice_set (kept_from at held fs) x (cond (has (at + x) held) f None)
kept-set at held [] x f = refl
kept-set at held (g ∷ fs) zero f = let e : at ≡ at + 0 = omega arith in ap (λ (k : ℕ). cond (has k held) f None ∷ kept_from (at + 1) held fs) e
kept-set at held (g ∷ fs) (suc x) f =
    let e : (at + 1) + x ≡ at + suc x = omega arith in
    ap (λ zs. cond (has at held) g None ∷ zs) (kept-set (at + 1) held fs x f
    ∙ ap (λ (k : ℕ). slice_set (kept_from (at + 1) held fs) x (cond (has k held) f None)) e)

-- one more variable is counted by its sort
pub numbers-more : (vs : List Variable) (x : ℕ) (s : Sort) → IsSort vs x s → number_count (take (suc x) vs) ≡ number_count (take x vs) + one_if_number s
numbers-more [] x s e = cc
numbers-more (v ∷ vs) zero s e = let g : v.sort ≡ s = cc in omega (arith, ap one_if_number g)
numbers-more (v ∷ vs) (suc x) s e = omega (arith, numbers-more vs x s e)

pub futures-more : (vs : List Variable) (x : ℕ) (s : Sort) → IsSort vs x s → future_count (take (suc x) vs) ≡ future_count (take x vs) + one_if_future s
futures-more [] x s e = cc
futures-more (v ∷ vs) zero s e = let g : v.sort ≡ s = cc in omega (arith, ap one_if_future g)
futures-more (v ∷ vs) (suc x) s e = omega (arith, futures-more vs x s e)

-- words that say a task's frame are marked as a task's, and say it
pub stands-as : (p : Program) (words : List ℕ) (q : FrameOf ℕ) → body_of p words ≡ OfKind q
    → (is_aggregate (slice_index words 0) ≡ false) × (frame_at p (slice_index words) ≡ q)
stands-as p words q e = let s = task-stands p words (λ b. b ≡ OfKind q) (λ members next h. cc) e in let g : frame_at p (slice_index words) ≡ q = cc in (s.0, g)

as-many : (o : Option Kind) → variables_in o ≡ length (variable_list o)
as-many None = refl
as-many (Some kind) = refl

frame-of : (kind : ℕ) {ns ms : List ℕ} {fs gs : List (Option ℕ)} → ns ≡ ms → fs ≡ gs
    → OfKind (record { kind = kind; state = 0; at = 0; numbers = ns; futures = fs }) ≡ OfKind (record { kind = kind; state = 0; at = 0; numbers = ms; futures = gs })
frame-of kind a b = cc

-- so much of what is passed was put into the words, and these are the places of the next number and the next future
pub record IsPutUpTo (p : Program) (kind : ℕ) (passed : List Passed) (x : ℕ) (words : List ℕ) (next_number next_future : ℕ) : Type 0 where
  pub frame : IsFrame p words
  pub entry : IsEntryOf p kind (take x passed) words
  pub number : next_number ≡ 1 + number_count (take x (variables_at p kind))
  pub future : next_future ≡ 1 + number_count (variables_at p kind) + future_count (take x (variables_at p kind))

-- the same of words and places that are the same
pub put-same : (p : Program) (kind : ℕ) (passed : List Passed) (x : ℕ) (words words' : List ℕ) (n n' f f' : ℕ) → words' ≡ words → n' ≡ n → f' ≡ f
    → IsPutUpTo p kind passed x words n f → IsPutUpTo p kind passed x words' n' f'
put-same p kind passed x words words' n n' f f' a b e put = subst (λ ws. IsPutUpTo p kind passed x ws n' f') (sym a)
    (subst (λ (k : ℕ). IsPutUpTo p kind passed x words k f') (sym b) (subst (λ (k : ℕ). IsPutUpTo p kind passed x words n k) (sym e) put))

module _ (p : Program) (kind : ℕ) (passed : List Passed) (fits : MayEnterWith p kind passed) (x : ℕ) (words : List ℕ) (number future : ℕ)
    (put : IsPutUpTo p kind passed x words number future)
  where
    call-kind : (is_aggregate (slice_index words 0) ≡ false) × (control_kind (slice_index words 0) ≡ kind)
    call-kind = let s = stands-as p words (entry p (call_of kind (take x passed))) put.entry in (s.0, ap (λ (q : FrameOf ℕ). q.kind) s.1)

    within : (a : Passed) → slice_get passed x ≡ Some a → x < variables_of p kind
    within a is = omega (arith, slice_get_within passed x a is, fits.few, as-many (slice_get p.kinds kind))

    is-sort : (a : Passed) → slice_get passed x ≡ Some a → IsSort (variables_at p kind) x (sort_of_passed a)
    is-sort a is =
        let v = item-within (variables_at p kind) x (omega (arith, slice_get_within passed x a is, fits.few)) in
        ap (option_map (λ (v : Variable). v.sort)) v.1 ∙ ap Some (fits.sorts x a v.0 is v.1)

    there : (a : Passed) → slice_get passed x ≡ Some a → IsSort (variables_at p (control_kind (slice_index words 0))) x (sort_of_passed a)
    there a is = subst (λ k. IsSort (variables_at p k) x (sort_of_passed a)) (sym call-kind.1) (is-sort a is)

    -- the place of the next number is in the words
    pub number-room : (n : ℕ) → slice_get passed x ≡ Some (Number n) → number < length words
    number-room n is =
        omega (arith, put.number, number-place_within p words put.frame call-kind.0 x (there (Number n) is), ap (λ k. number_count (take x (variables_at p k))) call-kind.1)

    -- and so is that of the next future
    pub future-room : (unit : ℕ) → slice_get passed x ≡ Some (Future unit) → future < length words
    future-room unit is =
        omega (
          arith,
          put.future,
          future-place_within p words put.frame call-kind.0 x (there (Future unit) is),
          ap (λ k. number_count (variables_at p k)) call-kind.1,
          ap (λ k. future_count (take x (variables_at p k))) call-kind.1,
        )

    -- a number was put into the words
    pub number-put : (n : ℕ) → slice_get passed x ≡ Some (Number n) → IsPutUpTo p kind passed (x + 1) (slice_set words number n) (number + 1) future
    number-put n is =
        let vs : List Variable = variables_at p kind in
        let set = number-set p words put.frame call-kind.0 x n (there (Number n) is) in
        let now : IsFrame p (slice_set words (number_place vs x) n) × IsSetNumber p x n words (slice_set words (number_place vs x) n)
        = subst (λ k. IsFrame p (slice_set words (number_place (variables_at p k) x) n) × IsSetNumber p x n words (slice_set words (number_place (variables_at p k) x) n)) call-kind.1 set in
        let place : number_place vs x ≡ number = sym put.number in
        let last : suc x ≡ x + 1 = omega arith in
        let say : IsEntryOf p kind (take (suc x) passed) (slice_set words (number_place vs x) n)
        = now.1 ∙ (ap (with_number x n) put.entry ∙ frame-of kind (padded-set (variables_of p kind) 0 number_of passed x (Number n) (within (Number n) is) is)
        (ap (kept (holds_at p kind 0)) (padded-same (variables_of p kind) None future_of passed x (Number n) (within (Number n) is) is refl))) in
        let number_more = numbers-more vs x sort.Number (is-sort (Number n) is) in
        let future_more = futures-more vs x sort.Number (is-sort (Number n) is) in
        subst (λ (k : ℕ). IsPutUpTo p kind passed k (slice_set words number n) (number + 1) future) last (record {
          frame = subst (λ (k : ℕ). IsFrame p (slice_set words k n)) place now.0;
          entry = subst (λ (k : ℕ). IsEntryOf p kind (take (suc x) passed) (slice_set words k n)) place say;
          number = omega (arith, put.number, number_more);
          future = omega (arith, put.future, future_more);
        })

    -- a future was put into the words, where it is held
    pub future-put : (unit word : ℕ) → slice_get passed x ≡ Some (Future unit) → unit_named word ≡ cond (has x (holds_at p kind 0)) (Some unit) None
        → IsPutUpTo p kind passed (x + 1) (slice_set words future word) number (future + 1)
    future-put unit word is held =
        let vs : List Variable = variables_at p kind in
        let set = future-set p words put.frame call-kind.0 x word (there (Future unit) is) in
        let now : IsFrame p (slice_set words (future_place vs x) word) × IsSetFuture p x (unit_named word) words (slice_set words (future_place vs x) word)
        = subst (λ k. IsFrame p (slice_set words (future_place (variables_at p k) x) word)
        × IsSetFuture p x (unit_named word) words (slice_set words (future_place (variables_at p k) x) word)) call-kind.1 set in
        let place : future_place vs x ≡ future = sym put.future in
        let last : suc x ≡ x + 1 = omega arith in
        let zero_more : x ≡ 0 + x = omega arith in
        let before : List (Option ℕ) = padded (variables_of p kind) None (map future_of (take x passed)) in
        let futures : slice_set (kept (holds_at p kind 0) before) x (unit_named word) ≡ kept (holds_at p kind 0) (padded (variables_of p kind) None (map future_of (take (suc x) passed)))
        = ap (slice_set (kept (holds_at p kind 0) before) x) (held ∙ ap (λ (k : ℕ). cond (has k (holds_at p kind 0)) (Some unit) None) zero_more)
        ∙ (sym (kept-set 0 (holds_at p kind 0) before x (Some unit))
        ∙ ap (kept (holds_at p kind 0)) (padded-set (variables_of p kind) None future_of passed x (Future unit) (within (Future unit) is) is)) in
        let say : IsEntryOf p kind (take (suc x) passed) (slice_set words (future_place vs x) word)
        = now.1 ∙ (ap (with_future x (unit_named word)) put.entry
        ∙ frame-of kind (padded-same (variables_of p kind) 0 number_of passed x (Future unit) (within (Future unit) is) is refl) futures) in
        let number_more = numbers-more vs x sort.Future (is-sort (Future unit) is) in
        let future_more = futures-more vs x sort.Future (is-sort (Future unit) is) in
        subst (λ (k : ℕ). IsPutUpTo p kind passed k (slice_set words future word) number (future + 1)) last (record {
          frame = subst (λ (k : ℕ). IsFrame p (slice_set words k word)) place now.0;
          entry = subst (λ (k : ℕ). IsEntryOf p kind (take (suc x) passed) (slice_set words k word)) place say;
          number = omega (arith, put.number, number_more);
          future = omega (arith, put.future, future_more);
        })
