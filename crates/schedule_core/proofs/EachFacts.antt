-- References that are taken, or given up, one after the other.
use Rattle.std.proofs.Common.{◌≡◌, ◌≢◌, ◌∙◌, ◌⊎◌, inl, inr, ℕ, zero, suc, ◌+◌, ◌-◌, ◌<◌, ◌==◌, ◌/◌, Option, Some, None, List, [], ◌∷◌, ◌++◌, drop, length, refl, sym, ap, subst, append_assoc, arith}
use Rattle.std.specs.Option.{option_to_list}
use Rattle.std.specs.List.{filter_map, cons_option}
use Rattle.std.specs.Prelude.{slice_get, slice_index}
use Rattle.frame_code.specs.Words.{unit_named}
use Rattle.future_refs.specs.Drops.{Drops, GivesBack}
use Rattle.table_core.proofs.BagFacts.{one-here}
use Rattle.table_core.proofs.ListFacts.{same_some}
use Rattle.step_table.specs.RecordSteps.{Refers}
use Rattle.step_table.specs.declared.record_tokens.Future.{Future}
use Rattle.std.proofs.lemmas.Bool.{cases_eq}
use Rattle.std.proofs.lemmas.List.{length-append}
use Rattle.record_core.specs.Counting.{Has, times, one_if, dropped}
use Rattle.record_core.proofs.TotalFacts.{none_there, total-append}
use Rattle.kt_words.specs.declared.plan.Plan.{Plan}
use Rattle.table_core.specs.Addresses.{Addr, super, bits, state, refs, head, units_of}
use Rattle.table_core.specs.Lists.{Each}
use Rattle.table_core.specs.Pool.{superblock_of, bit_of}
use Rattle.table_core.specs.Views.{place}
use Rattle.table_core.specs.RecordViews.{is_at}
use Rattle.table_core.specs.declared.setup.Setup.{Setup}
use Rattle.table_core.specs.declared.view.View.{View}
use Rattle.schedule_rule.specs.Frames.{BagSound}
use Rattle.schedule_rule.specs.PlacingViews.{less}
use Rattle.schedule_rule.proofs.CoveringFacts.{more-cover}
use Rattle.schedule_rule.proofs.PlacingFacts.{times-less}
use Rattle.step_table.specs.Passes.{view, IsSameWith}
use Rattle.step_table.specs.RecordHands.{HasFuture, MayLessen}
use Rattle.step_table.specs.declared.pass.Pass.{Pass}
use Rattle.schedule_core.specs.References.{Grows, HasEach, NoHeads, TakesEach, MayDropEach, DropsEach}

-- what two lists together have, one of them has
pub has-either : {A : Type 0} (x : A) (l more : List A) → Has x (l ++ more) → Has x l ⊎ Has x more
has-either x [] more has = inr has
has-either x (y ∷ l) more (zero, at) = inl (0, at)
has-either x (y ∷ l) more (suc k, at) = by (has-either x l more (k, at))
  where
    by : Has x l ⊎ Has x more → Has x (y ∷ l) ⊎ Has x more
    by (inl t) = inl (suc t.0, t.1)
    by (inr t) = inr t

-- no step is on the head of a list, in none and in two lists of such steps
pub no-heads-none : NoHeads []
no-heads-none u word has = absurd (none_there (head u, word) has.1)

pub no-heads-both : (front steps : List (Addr × ℕ)) → NoHeads front → NoHeads steps → NoHeads (front ++ steps)
no-heads-both front steps none more u word has = by (has-either (head u, word) front steps has)
  where
    by : Has (head u, word) front ⊎ Has (head u, word) steps → ⊥
    by (inl t) = none u word t
    by (inr t) = more u word t

-- nor is one step more, on another word
pub no-heads-on : (a : Addr) (found : ℕ) (steps : List (Addr × ℕ)) → ((u : ℕ) → a ≡ head u → ⊥) → NoHeads steps → NoHeads ((a, found) ∷ steps)
no-heads-on a found steps other none u word (zero, at) = other u (ap (λ (p : Addr × ℕ). p.0) (same_some (a, found) (head u, word) at))
no-heads-on a found steps other none u word (suc k, at) = none u word (k, at)

-- growing twice is growing
abbrev pub grows-on : {A : Type 0} (a b c : List A) → Grows a b → Grows b c → Grows a c
grows-on a b c first second = (second.0 ++ first.0, second.1 ∙ ap (λ l. second.0 ++ l) first.1 ∙ sym (append_assoc second.0 first.0 a))

abbrev pub grows-self : {A : Type 0} (a : List A) → Grows a a
grows-self a = ([], refl)

pub same-on : (a b : ℕ) (old mid new : Pass) → IsSameWith a old mid → IsSameWith b mid new → IsSameWith b old new
same-on a b old mid new first second = record {
  table = second.table ∙ first.table;
  id = second.id ∙ first.id;
  splits = second.splits ∙ first.splits;
  number = second.number ∙ first.number;
  held_is = second.held_is;
}

-- references to more records than were there before are references
pub has-more : (g : Plan) (u : ℕ) (front : List ℕ) (v w : View) → w.futures ≡ front ++ v.futures → HasFuture g u v → HasFuture g u w
has-more g u front v w is has = record { near = has.near; there = omega (arith, has.there, ap (λ (l : List ℕ). times u l) is, total-append (λ (x : ℕ). one_if (x == u)) front v.futures) }

-- of all units, some are taken and some are left
pub record IsTakingEach (g : Plan) (all rest : List ℕ) (old now : Pass) : Type 0 where
  pub has : HasEach g rest (view now)
  pub front : List ℕ
  pub counts : (w : ℕ) → times w front + times w rest ≡ times w all
  pub long : length front + length rest ≡ length all
  pub seen : Grows (view old).seen (view now).seen
  pub view_is : view now ≡ record (view old) { futures = front ++ (view old).futures; seen = (view now).seen }
  pub same : IsSameWith (old.held + length front) old now

pub taking-starts : (g : Plan) (all : List ℕ) (old : Pass) → HasEach g all (view old) → IsTakingEach g all all old old
taking-starts g all old has = record {
  has = has;
  front = [];
  counts = λ w. omega arith;
  long = omega arith;
  seen = grows-self (view old).seen;
  view_is = refl;
  same = record { table = refl; id = refl; splits = refl; number = refl; held_is = omega arith };
}

-- a member of the second part is one of the whole
pub part-has : {A : Type 0} (P : A → Type 0) (more rest : List A) → Each P (more ++ rest) → Each P rest
part-has P [] rest all = all
part-has P (x ∷ more) rest all = part-has P more rest (λ k y at. all (suc k) y at)

pub front-has : {A : Type 0} (P : A → Type 0) (more rest : List A) → Each P (more ++ rest) → Each P more
front-has P [] rest all k x at = absurd (none_there x at)
front-has P (y ∷ more) rest all zero x at = all 0 x at
front-has P (y ∷ more) rest all (suc k) x at = front-has P more rest (λ j z there. all (suc j) z there) k x at

-- the first part may be given up
pub drop-front : (g : Setup) (more rest : List ℕ) (v : View) → MayDropEach g (more ++ rest) v → MayDropEach g more v
drop-front g more rest v may = record {
  near = front-has (λ (u : ℕ). u < units_of g.plan) more rest may.near;
  there = λ w. omega (arith, may.there w, total-append (λ (z : ℕ). one_if (z == w)) more rest);
  bag = more-cover g.checked v.runs (less v.futures (more ++ rest)) (less v.futures more)
      (λ w. omega (
        arith,
        times-less w v.futures (more ++ rest) may.there,
        times-less w v.futures more (λ x. omega (arith, may.there x, total-append (λ (z : ℕ). one_if (z == x)) more rest)),
        total-append (λ (z : ℕ). one_if (z == w)) more rest,
      ))
      may.bag;
}

-- one more, or none, of those that were left
pub taking-on : (g : Plan) (all more rest : List ℕ) (old now new : Pass) → IsTakingEach g all (more ++ rest) old now → IsSameWith (now.held + length more) now new → TakesEach more (view now) (view new)
    → IsTakingEach g all rest old new
taking-on g all more rest old now new so same takes = record {
  has = λ k x at. has-more g x takes.front (view now) (view new) (ap (λ (v : View). v.futures) takes.view_is) (part-has (λ (u : ℕ). HasFuture g u (view now)) more rest so.has k x at);
  front = takes.front ++ so.front;
  counts = λ w. omega (
    arith,
    so.counts w,
    takes.counts w,
    total-append (λ (x : ℕ). one_if (x == w)) takes.front so.front,
    total-append (λ (x : ℕ). one_if (x == w)) more rest,
  );
  long = omega (arith, so.long, takes.long, length-append takes.front so.front, length-append more rest);
  seen = grows-on (view old).seen (view now).seen (view new).seen so.seen takes.seen;
  view_is = takes.view_is
      ∙ (λ k. record (so.view_is k) { futures = takes.front ++ (so.view_is k).futures; seen = (view new).seen })
      ∙ ap (λ (l : List ℕ). record (view old) { futures = l; seen = (view new).seen }) (sym (append_assoc takes.front so.front (view old).futures));
  same = same-on (old.held + length so.front) (old.held + length (takes.front ++ so.front)) old now new so.same
      (record { table = same.table; id = same.id; splits = same.splits; number = same.number; held_is = omega (arith, same.held_is, so.same.held_is, takes.long, length-append takes.front so.front) });
}

-- all are taken
pub taking-ends : (g : Plan) (all : List ℕ) (old now : Pass) → IsTakingEach g all [] old now → IsSameWith (old.held + length all) old now × TakesEach all (view old) (view now)
taking-ends g all old now so = (
  record { table = so.same.table; id = so.same.id; splits = so.same.splits; number = so.same.number; held_is = omega (arith, so.same.held_is, so.long) },
  record { front = so.front; counts = λ w. omega (arith, so.counts w); long = omega (arith, so.long); seen = so.seen; view_is = so.view_is },
)

-- of all units, the references to some are given up and those to the rest are left
pub record IsDroppingEach (g : Setup) (all rest : List ℕ) (old now : Pass) : Type 0 where
  pub may : MayDropEach g rest (view now)
  pub left : less (view now).futures rest ≡ less (view old).futures all
  pub gone : ℕ
  pub counted : gone + length rest ≡ length all
  pub settles : Grows (view old).settles (view now).settles
  pub seen : Grows (view old).seen (view now).seen
  pub elsewhere : NoHeads seen.0
  pub view_is : view now ≡ record (view old) { futures = (view now).futures; sights = (view now).sights; settles = (view now).settles; seen = (view now).seen }
  pub same : IsSameWith (old.held - gone) old now

pub dropping-starts : (g : Setup) (all : List ℕ) (old : Pass) → MayDropEach g all (view old) → IsDroppingEach g all all old old
dropping-starts g all old may = record {
  may = may;
  left = refl;
  gone = 0;
  counted = omega arith;
  settles = grows-self (view old).settles;
  seen = grows-self (view old).seen;
  elsewhere = no-heads-none;
  view_is = refl;
  same = record { table = refl; id = refl; splits = refl; number = refl; held_is = omega arith };
}

-- references that are given up in two parts
pub less-parts : (l more rest : List ℕ) → less l (more ++ rest) ≡ less (less l more) rest
less-parts l [] rest = refl
less-parts l (x ∷ more) rest = less-parts (dropped (is_at x) l) more rest

-- what is left once some are given up is enough for the rest
pub drop-rest : (g : Setup) (more rest : List ℕ) (v w : View) → MayDropEach g (more ++ rest) v → w.futures ≡ less v.futures more → w.runs ≡ v.runs → MayDropEach g rest w
drop-rest g more rest v w may futures runs = record {
  near = part-has (λ (u : ℕ). u < units_of g.plan) more rest may.near;
  there = λ x. omega (
    arith,
    may.there x,
    ap (λ (l : List ℕ). times x l) futures,
    times-less x v.futures more (λ y. omega (arith, may.there y, total-append (λ (z : ℕ). one_if (z == y)) more rest)),
    total-append (λ (z : ℕ). one_if (z == x)) more rest,
  );
  bag = subst (BagSound g.checked) (λ k. record { futures = (less-parts v.futures more rest ∙ ap (λ (l : List ℕ). less l rest) (sym futures)) k; runs = sym runs k }) may.bag;
}

pub dropping-on : (g : Setup) (all more rest : List ℕ) (old now new : Pass) → IsDroppingEach g all (more ++ rest) old now → IsSameWith (now.held - length more) now new → DropsEach more (view now) (view new)
    → IsDroppingEach g all rest old new
dropping-on g all more rest old now new so same drops = record {
  may = drop-rest g more rest (view now) (view new) so.may (ap (λ (v : View). v.futures) drops.view_is) (ap (λ (v : View). v.runs) drops.view_is);
  left = ap (λ (l : List ℕ). less l rest) (ap (λ (v : View). v.futures) drops.view_is) ∙ sym (less-parts (view now).futures more rest) ∙ so.left;
  gone = so.gone + length more;
  counted = omega (arith, so.counted, length-append more rest);
  settles = grows-on (view old).settles (view now).settles (view new).settles so.settles drops.settles;
  seen = grows-on (view old).seen (view now).seen (view new).seen so.seen drops.seen;
  elsewhere = no-heads-both drops.seen.0 so.seen.0 drops.elsewhere so.elsewhere;
  view_is = drops.view_is ∙ (λ k. record (so.view_is k) { futures = less (view now).futures more; sights = (view new).sights; settles = (view new).settles; seen = (view new).seen })
      ∙ ap (λ (l : List ℕ). record (view old) { futures = l; sights = (view new).sights; settles = (view new).settles; seen = (view new).seen }) (sym (ap (λ (v : View). v.futures) drops.view_is));
  same = same-on (old.held - so.gone) (old.held - (so.gone + length more)) old now new so.same
      (record { table = same.table; id = same.id; splits = same.splits; number = same.number; held_is = omega (arith, same.held_is, so.same.held_is) });
}

pub dropping-ends : (g : Setup) (all : List ℕ) (old now : Pass) → IsDroppingEach g all [] old now → IsSameWith (old.held - length all) old now × DropsEach all (view old) (view now)
dropping-ends g all old now so = (
  record { table = so.same.table; id = so.same.id; splits = so.same.splits; number = so.same.number; held_is = omega (arith, so.same.held_is, so.counted) },
  record { settles = so.settles; seen = so.seen; elsewhere = so.elsewhere; view_is = so.view_is ∙ ap (λ (l : List ℕ). record (view old) { futures = l; sights = (view now).sights; settles = (view now).settles; seen = (view now).seen }) so.left },
)

pub dropping-done : (g : Setup) (all rest : List ℕ) (old now : Pass) → rest ≡ [] → IsDroppingEach g all rest old now → DropsEach all (view old) (view now)
dropping-done g all rest old now none so = (dropping-ends g all old now (subst (λ (l : List ℕ). IsDroppingEach g all l old now) none so)).1

-- the one unit of a list that has it
pub one-each : {P : ℕ → Type 0} (o : Option ℕ) (u : ℕ) → Each P (option_to_list o) → o ≡ Some u → P u
one-each o u all e = all 0 u (ap (λ (x : Option ℕ). slice_get (option_to_list x) 0) e)

-- one reference is taken, or none
pub taken-one : (o : Option ℕ) (u : ℕ) (old new : Pass) (future : Future) → o ≡ Some u → Refers u old future new → TakesEach (option_to_list o) (view old) (view new)
taken-one o u old new future e refers = subst (λ (x : Option ℕ). TakesEach (option_to_list x) (view old) (view new)) (sym e) (record {
  front = u ∷ [];
  counts = λ w. refl;
  long = refl;
  seen = ((refs u, refers.found) ∷ [], ap (λ (v : View). v.seen) refers.view_is);
  view_is = refers.view_is ∙ (λ k. record (view old) { futures = u ∷ (view old).futures; seen = (sym refers.view_is k).seen });
})

pub taken-none : (o : Option ℕ) (v : View) → o ≡ None → TakesEach (option_to_list o) v v
taken-none o v e = subst (λ (x : Option ℕ). TakesEach (option_to_list x) v v) (sym e) (record { front = []; counts = λ w. refl; long = refl; seen = grows-self v.seen; view_is = refl })

-- one reference is given up, or none
pub may-drop_one : (g : Setup) (o : Option ℕ) (u : ℕ) (v : View) → MayDropEach g (option_to_list o) v → o ≡ Some u → MayLessen g u v
may-drop_one g o u v may e = record {
  has = record { near = one-each o u may.near e; there = omega (arith, may.there u, ap (λ (x : Option ℕ). times u (option_to_list x)) e, one-here u) };
  spare = λ was. subst (λ (x : Option ℕ). BagSound g.checked (record { futures = less v.futures (option_to_list x); runs = v.runs })) e may.bag;
}

-- a drop settles the place of one block, or none
settles-one : (g : Plan) (u : ℕ) (v w : View) → Drops g u v w → Grows v.settles w.settles
settles-one g u v w drops = by (cases_eq drops.found 1)
  where
    by : (drops.found ≡ 1) ⊎ (drops.found ≢ 1) → Grows v.settles w.settles
    by (inl last) = let frees = drops.last last in (place (superblock_of g u) frees.class ∷ [], ap (λ (x : View). x.settles) frees.view_is)
    by (inr other) = ([], ap (λ (x : View). x.settles) (drops.more other))

-- its steps are on the reference word, and where the record is freed on its state and in the pool
steps-one : (g : Plan) (u : ℕ) (v w : View) → Drops g u v w → (steps : List (Addr × ℕ)) × (w.seen ≡ steps ++ v.seen) × NoHeads steps
steps-one g u v w drops = by (cases_eq drops.found 1)
  where
    by : (drops.found ≡ 1) ⊎ (drops.found ≢ 1) → (steps : List (Addr × ℕ)) × (w.seen ≡ steps ++ v.seen) × NoHeads steps
    by (inl last) =
        let f = drops.last last in let i = superblock_of g u in let j = bit_of g u f.class / 64 in (
          (super i, f.count_was) ∷ (bits i j, f.bits_were) ∷ (super i, f.superblock_was) ∷ (state u, f.state_was) ∷ (refs u, 1) ∷ [],
          ap (λ (x : View). x.seen) f.view_is,
          no-heads-on (super i) f.count_was ((bits i j, f.bits_were) ∷ (super i, f.superblock_was) ∷ (state u, f.state_was) ∷ (refs u, 1) ∷ []) (λ n e. cc)
              (no-heads-on (bits i j) f.bits_were ((super i, f.superblock_was) ∷ (state u, f.state_was) ∷ (refs u, 1) ∷ []) (λ n e. cc)
              (no-heads-on (super i) f.superblock_was ((state u, f.state_was) ∷ (refs u, 1) ∷ []) (λ n e. cc)
              (no-heads-on (state u) f.state_was ((refs u, 1) ∷ []) (λ n e. cc) (no-heads-on (refs u) 1 [] (λ n e. cc) no-heads-none)))),
        )
    by (inr other) = ((refs u, drops.found) ∷ [], ap (λ (x : View). x.seen) (drops.more other), no-heads-on (refs u) drops.found [] (λ n e. cc) no-heads-none)

pub dropped-one : (g : Plan) (o : Option ℕ) (u : ℕ) (v w : View) → o ≡ Some u → Drops g u v w → GivesBack u v w → DropsEach (option_to_list o) v w
dropped-one g o u v w e drops gives = subst (λ (x : Option ℕ). DropsEach (option_to_list x) v w) (sym e) (record {
  settles = settles-one g u v w drops;
  seen = let steps = steps-one g u v w drops in (steps.0, steps.1);
  elsewhere = (steps-one g u v w drops).2;
  view_is = gives.view_is ∙ (λ k. record v { futures = dropped (is_at u) v.futures; sights = (sym gives.view_is k).sights; settles = w.settles; seen = w.seen });
})

pub dropped-none : (o : Option ℕ) (v : View) → o ≡ None → DropsEach (option_to_list o) v v
dropped-none o v e = subst (λ (x : Option ℕ). DropsEach (option_to_list x) v v) (sym e) (record { settles = grows-self v.settles; seen = grows-self v.seen; elsewhere = no-heads-none; view_is = refl })

-- the words of a list that name units, one word more
pub named-first : (words : List ℕ) (n word : ℕ) (o : Option ℕ) → n < length words → word ≡ slice_index words n → o ≡ unit_named word
    → filter_map unit_named (drop n words) ≡ option_to_list o ++ filter_map unit_named (drop (n + 1) words)
named-first [] n word o low is names = absurd (omega (arith, low))
named-first (x ∷ words) zero word o low is names = ap (λ (w : ℕ). cons_option (unit_named w) (filter_map unit_named words)) (sym is) ∙ ap (λ (y : Option ℕ). cons_option y (filter_map unit_named words)) (sym names) ∙ by o
  where
    by : (y : Option ℕ) → cons_option y (filter_map unit_named words) ≡ option_to_list y ++ filter_map unit_named words
    by None = refl
    by (Some u) = refl
named-first (x ∷ words) (suc n) word o low is names =
    let on : suc (n + 1) ≡ suc n + 1 = omega arith in
    named-first words n word o (omega (arith, low)) is names ∙ ap (λ (m : ℕ). option_to_list o ++ filter_map unit_named (drop m (x ∷ words))) on
