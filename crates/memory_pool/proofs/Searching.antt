-- A search that has seen more, and what it finds in the end.
use Rattle.std.proofs.Common.{◌≡◌, ◌∙◌, ℕ, ◌/◌, ◌<◌, ◌≤◌, Bool, true, cond, List, [], ◌∷◌, ◌++◌, append_assoc, refl, sym, ap, subst, true≢false, arith}
use Rattle.record_core.specs.Counting.{dropped}
use Rattle.kt_words.specs.declared.plan.Plan.{Plan}
use Rattle.kt_words.specs.declared.super_word.SuperWord.{SuperWord}
use Rattle.kt_words.specs.SuperWords.{FitsSuperWord, packed_super, class_of, count_of}
use Rattle.kt_words.specs.SuperWordLaws.{SuperWordSays}
use Rattle.kt_words.specs.Capacity.{IsWithoutRoom}
use Rattle.kt_words.proofs.SuperWordFacts.{super_word_says_its_value}
use Rattle.table_core.specs.Addresses.{Addr, super, bits}
use Rattle.table_core.specs.Holdings.{Place, Look, Block as BlockOf}
use Rattle.table_core.specs.Pool.{cap, unit_of, superblock_of, IsBlock}
use Rattle.table_core.specs.Views.{place, block, is_place, saw, look_of, reserved, claimed}
use Rattle.table_core.specs.declared.view.View.{View}
use Rattle.table_core.proofs.ListFacts.{place-passes}
use Rattle.table_core.proofs.PoolFacts.{names_place, block_there}
use Rattle.step_table.specs.declared.pass.Pass.{Pass}
use Rattle.step_table.specs.declared.tokens.Reserved.{Reserved}
use Rattle.step_table.specs.declared.tokens.Block.{Block}
use Rattle.step_table.specs.Passes.{view, place_of, block_of, IsSame, HasPlace}
use Rattle.step_table.specs.Steps.{Looks, Reserves, Claims}
use Rattle.memory_pool.specs.Searches.{like, Grows, SeesMore, IsFull, OnlySaw, LooksAt, FindsPlace, SeesNoRoom, Tries, FindsOnce, SeesNone, GoesRound, TurnsInto}
use Rattle.memory_pool.specs.declared.found.Found.{Found}
use Rattle.memory_pool.specs.declared.found.Found.TheVariants as found
use Rattle.memory_pool.proofs.NewestFacts.{newest-here, newest-other, saw-with-older, kept-is-new}
use Rattle.memory_pool.specs.declared.allocated.Allocated.TheVariants as allocated
use Rattle.memory_pool.specs.Answers.{Gives, KeepsRefusal}

module _ {A : Type 0} where
  grows-self : (l : List A) → Grows l l
  grows-self l = ([], refl)

  grows-one : (x : A) (l new : List A) → new ≡ x ∷ l → Grows l new
  grows-one x l new e = (x ∷ [], e)

  grows-on : (old mid new : List A) → Grows old mid → Grows mid new → Grows old new
  grows-on old mid new first second = (second.0 ++ first.0, second.1 ∙ ap (λ (l : List A). second.0 ++ l) first.1 ∙ sym (append_assoc second.0 first.0 old))

-- what each round of a search keeps: the pass has only seen more
pub record OnlySees (old new : Pass) : Type 0 where
  pub same : IsSame old new
  pub stays : view new ≡ like (view new) (view old)
  pub later : SeesMore (view old) (view new)

pub sees-more-on : (old mid new : View) → SeesMore old mid → SeesMore mid new → SeesMore old new
sees-more-on old mid new first second = record {
  looks = grows-on old.looks mid.looks new.looks first.looks second.looks;
  steps = grows-on old.seen mid.seen new.seen first.steps second.steps;
}

same-on : (old mid new : Pass) → IsSame old mid → IsSame mid new → IsSame old new
same-on old mid new first second = record { table = second.table ∙ first.table; id = second.id ∙ first.id; splits = second.splits ∙ first.splits; number = second.number ∙ first.number; held_is = second.held_is ∙ first.held_is }

pub like-on : (old mid new : View) → mid ≡ like mid old → new ≡ like new mid → new ≡ like new old
like-on old mid new first second = second ∙ ap (like new) first

pub sees-self : (p : Pass) → OnlySees p p
sees-self p = record {
  same = record { table = refl; id = refl; splits = refl; number = refl; held_is = refl };
  stays = refl;
  later = record { looks = grows-self (view p).looks; steps = grows-self (view p).seen };
}

pub sees-on : (old mid new : Pass) → OnlySees old mid → OnlySees mid new → OnlySees old new
sees-on old mid new first second = record {
  same = same-on old mid new first.same second.same;
  stays = like-on (view old) (view mid) (view new) first.stays second.stays;
  later = sees-more-on (view old) (view mid) (view new) first.later second.later;
}

-- a step that changes nothing, and a look
pub step-sees : (a : Addr) (n : ℕ) (p q : Pass) → IsSame p q → view q ≡ saw a n (view p) → OnlySees p q
step-sees a n p q same e = record {
  same = same;
  stays = subst (λ (w : View). w ≡ like w (view p)) (sym e) refl;
  later = record { looks = ([], ap (λ (w : View). w.looks) e); steps = grows-one (a, n) (view p).seen (view q).seen (ap (λ (w : View). w.seen) e) };
}

pub look-sees : (i c : ℕ) (word : SuperWord) (p q : Pass) → IsSame p q → Looks i c p word q → OnlySees p q
look-sees i c word p q same e = record {
  same = same;
  stays = subst (λ (w : View). w ≡ like w (view p)) (sym e) refl;
  later = record {
    looks = grows-one (look_of i c (packed_super word) (view p)) (view p).looks (view q).looks (ap (λ (w : View). w.looks) e);
    steps = grows-one (super i, packed_super word) (view p).seen (view q).seen (ap (λ (w : View). w.seen) e);
  };
}

-- looks that are all at one superblock
pub at-self : (i : ℕ) (p : Pass) → LooksAt i p p
at-self i p = record { added = []; since = refl; elsewhere = λ j other. refl }

pub at-step : (i n : ℕ) (a : Addr) (old p q : Pass) → LooksAt i old p → view q ≡ saw a n (view p) → LooksAt i old q
at-step i n a old p q before e = record { added = before.added; since = ap (λ (w : View). w.looks) e ∙ before.since; elsewhere = before.elsewhere }

pub at-look : (i c : ℕ) (word : SuperWord) (old p q : Pass) → LooksAt i old p → Looks i c p word q → LooksAt i old q
at-look i c word old p q before e = record {
  added = look ∷ before.added;
  since = ap (λ (w : View). w.looks) e ∙ ap (λ (l : List Look). look ∷ l) before.since;
  elsewhere = λ j other. newest-other j look before.added (λ same. other (sym same)) ∙ before.elsewhere j other;
}
  where
    look : Look
    look = look_of i c (packed_super word) (view p)

-- a look that saw no room ends the search of one superblock
pub finds-no-room : (g : Plan) (i c : ℕ) (word : SuperWord) (old p q : Pass) → FitsSuperWord word → OnlySees old p → LooksAt i old p → IsSame p q → Looks i c p word q → IsFull g word c
    → SeesNoRoom g i c old q
unfolding at-look
finds-no-room g i c word old p q fits before at same e full = record {
  stays = (sees-on old p q before (look-sees i c word p q same e)).stays;
  looks = at-look i c word old p q at e;
  saw = record { look = look; newest_is = newest-here i look at.added refl; for_class = refl; no_room = no_room };
}
  where
    look : Look
    look = look_of i c (packed_super word) (view p)

    says : SuperWordSays (packed_super word) word.count word.class word.ever
    says = (super_word_says_its_value word fits).0

    no_room : IsWithoutRoom g.geometry.units c (class_of (packed_super word)) (count_of (packed_super word))
    no_room = subst (λ (k : ℕ). IsWithoutRoom g.geometry.units c k (count_of (packed_super word))) (sym says.class_is)
        (subst (λ (k : ℕ). IsWithoutRoom g.geometry.units c word.class k) (sym says.count_is) full)

-- a reservation ends it too
pub finds-place : (i c : ℕ) (seen : SuperWord) (old p q : Pass) (won : Reserved) → OnlySees old p → Reserves i c seen p won q → FindsPlace i c old won q
finds-place i c seen old p q won before r =
    let a : Addr = super i in let n : ℕ = packed_super seen in
    let at_like : (v : View) → v ≡ like v (view old) → saw a n (reserved (place i c) v) ≡ reserved (place i c) (like (saw a n (reserved (place i c) v)) (view old)) =
    λ v e. subst (λ (w : View). saw a n (reserved (place i c) w) ≡ reserved (place i c) (like (saw a n (reserved (place i c) w)) (view old))) (sym e) refl in
    record {
      place_is = r.place_is;
      view_is = subst (λ (w : View). w ≡ reserved (place i c) (like w (view old))) (sym r.view_is) (at_like (view p) before.stays);
    }

pub place-later : (i c : ℕ) (seen : SuperWord) (old p q : Pass) (won : Reserved) → OnlySees old p → Reserves i c seen p won q → SeesMore (view old) (view q)
place-later i c seen old p q won before r = sees-more-on (view old) (view p) (view q) before.later (record {
  looks = ([], ap (λ (w : View). w.looks) r.view_is);
  steps = grows-one (super i, packed_super seen) (view p).seen (view q).seen (ap (λ (w : View). w.seen) r.view_is);
})

-- a place stays reserved while the pass only sees more
pub has-place-on : (g : Plan) (r now : Reserved) (old p : Pass) → OnlySees old p → now ≡ r → HasPlace g (place_of r) (view old).reserved → HasPlace g (place_of now) (view p).reserved
has-place-on g r now old p before same has =
    let here : HasPlace g (place_of r) (view p).reserved = subst (λ (l : List Place). HasPlace g (place_of r) l) (sym (ap (λ (v : View). v.reserved) before.stays)) has in
    subst (λ (x : Reserved). HasPlace g (place_of x) (view p).reserved) (sym same) here

-- a bit below the capacity that the code has
pub bit-on : (g h : Plan) (r now : Reserved) (bit room class : ℕ) → h ≡ g → class ≡ r.class → room ≡ cap h class → now ≡ r → bit < room → bit < cap g now.class
bit-on g h r now bit room class plans classes rooms same below =
    let is : room ≡ cap g now.class = rooms ∙ (λ k. cap (plans k) (classes k)) ∙ ap (λ (x : Reserved). cap g x.class) (sym same) in
    omega (arith, below, is)

-- a bit that is won ends the search for one
pub turns-into : (g : Plan) (r now : Reserved) (b : ℕ) (old p q : Pass) (won : Block) → OnlySees old p → now ≡ r → b < cap g now.class → Claims g now b p won q → TurnsInto g r old won q
turns-into g r now b old p q won before same below claims = subst (λ (x : Reserved). TurnsInto g x old won q) same (record {
  bit = b;
  below = below;
  block_is = claims.block_is;
  view_is = subst (λ (w : View). w ≡ claimed g (place_of now) b (like w (view old))) (sym claims.view_is) (at_like (view p) before.stays);
})
  where
    at_like : (v : View) → v ≡ like v (view old)
        → saw (bits now.superblock (b / 64)) claims.found (claimed g (place_of now) b v) ≡ claimed g (place_of now) b (like (saw (bits now.superblock (b / 64)) claims.found (claimed g (place_of now) b v)) (view old))
    at_like v e = subst (λ (w : View). saw (bits now.superblock (b / 64)) claims.found (claimed g (place_of now) b w)
        ≡ claimed g (place_of now) b (like (saw (bits now.superblock (b / 64)) claims.found (claimed g (place_of now) b w)) (view old))) (sym e) refl

pub block-later : (g : Plan) (now : Reserved) (b : ℕ) (old p q : Pass) (won : Block) → OnlySees old p → Claims g now b p won q → SeesMore (view old) (view q)
block-later g now b old p q won before claims = sees-more-on (view old) (view p) (view q) before.later (record {
  looks = ([], ap (λ (w : View). w.looks) claims.view_is);
  steps = grows-one (bits now.superblock (b / 64), claims.found) (view p).seen (view q).seen (ap (λ (w : View). w.seen) claims.view_is);
})

-- what a try leaves, where it reserves nothing
pub try-sees : (g : Plan) (i c : ℕ) (changes : Bool) (p q : Pass) (tried : Found) → IsSame p q → SeesMore (view p) (view q) → Tries g i c changes p tried q → ((won : Reserved) → tried ≡ found.Place won → ⊥)
    → OnlySees p q
try-sees g i c changes p q tried same later tries none = record { same = same; stays = by tried tries none; later = later }
  where
    by : (t : Found) → Tries g i c changes p t q → ((won : Reserved) → t ≡ found.Place won → ⊥) → OnlySaw p q
    by (found.Place won) tries none = absurd (none won refl)
    by (found.Empty at) tries none = tries.2
    by found.Nothing tries none = tries.stays

-- a search that may change classes leaves no empty superblock
pub none-left : (g : Plan) (c : ℕ) (p q : Pass) (tried : Found) → GoesRound g c true p tried q → ((won : Reserved) → tried ≡ found.Place won → ⊥) → SeesNone g c p q
none-left g c p q (found.Place won) goes none = absurd (none won refl)
none-left g c p q (found.Empty at) goes none = absurd (true≢false goes.0)
none-left g c p q found.Nothing goes none = goes

-- a search that goes on behind another
pub finds-on : (g : Plan) (c : ℕ) (old p q : Pass) (won : Reserved) → OnlySaw old p → FindsOnce g c p won q → FindsOnce g c old won q
finds-on g c old p q won saw_only finds = record {
  superblock = finds.superblock;
  near = finds.near;
  place = record {
    place_is = finds.place.place_is;
    view_is = finds.place.view_is ∙ ap (λ (v : View). reserved (place finds.superblock c) (like (view q) v)) saw_only;
  };
}

pub sees-none-on : (g : Plan) (c : ℕ) (old p q : Pass) → OnlySaw old p → SeesMore (view old) (view p) → SeesNone g c p q → SeesNone g c old q
sees-none-on g c old p q saw_only later none = record {
  stays = like-on (view old) (view p) (view q) saw_only none.stays;
  saw = record {
    added = none.saw.added ++ later.looks.0;
    since = none.saw.since ∙ ap (λ (l : List Look). none.saw.added ++ l) later.looks.1 ∙ sym (append_assoc none.saw.added later.looks.0 (view old).looks);
    each = λ i near. saw-with-older g c i none.saw.added later.looks.0 (none.saw.each i near);
  };
}

-- a place that becomes a block is what an allocation gives
pub gives : (g : Plan) (c : ℕ) (old q r : Pass) (won : Reserved) (b : Block) → c ≤ 3 → FindsOnce g c old won q → TurnsInto g won q b r → Gives g c (view old) (block_of b) (view r)
gives g c old q r won b fits finds turns = record {
  is_block = subst (λ (u : ℕ). IsBlock g u c) (sym (ap (λ (x : BlockOf). x.unit) block_is)) (block_there g i c turns.bit near fits below);
  of_class = ap (λ (x : BlockOf). x.class) block_is;
  fresh = ap (λ (x : BlockOf). x.fresh) block_is;
  view_is = turns.view_is ∙ from_start ∙ (λ k. leaves (kept k) (sym block_is k) (sym its_place k));
}
  where
    i : ℕ
    i = finds.superblock

    near : i < g.geometry.superblocks
    near = finds.near

    place_found : FindsPlace i c old won q
    place_found = finds.place

    near_is : won.superblock ≡ i
    near_is = ap (λ (x : Place). x.superblock) place_found.place_is

    class_is : won.class ≡ c
    class_is = ap (λ (x : Place). x.class) place_found.place_is

    below : turns.bit < cap g c
    below = subst (λ (k : ℕ). turns.bit < cap g k) class_is turns.below

    block_is : block_of b ≡ block (unit_of g i c turns.bit) c true
    block_is = turns.block_is ∙ (λ k. block (unit_of g (near_is k) (class_is k) turns.bit) (class_is k) true)

    its_place : place (superblock_of g (block_of b).unit) c ≡ place i c
    its_place = ap (λ (j : ℕ). place j c) (ap (superblock_of g) (ap (λ (x : BlockOf). x.unit) block_is) ∙ (names_place g i c turns.bit fits below).0)

    leaves : List Place → BlockOf → Place → View
    leaves l x w = record (like (view r) (view old)) { reserved = l; blocks = x ∷ (view old).blocks; wins = w ∷ (view old).wins }

    kept : cond (is_place (place i c) (place i c)) (view old).reserved (place i c ∷ dropped (is_place (place i c)) (view old).reserved) ≡ (view old).reserved
    kept = ap (λ (t : Bool). cond t (view old).reserved (place i c ∷ dropped (is_place (place i c)) (view old).reserved)) (place-passes (place i c))

    from_start : claimed g (place_of won) turns.bit (like (view r) (view q)) ≡ claimed g (place i c) turns.bit (like (view r) (reserved (place i c) (like (view q) (view old))))
    from_start = λ k. claimed g (place_found.place_is k) turns.bit (like (view r) (place_found.view_is k))

-- what the pass keeps where each superblock was seen without room
pub keeps-refusal : (g : Plan) (c : ℕ) (old new : Pass) → SeesNone g c old new → KeepsRefusal g c allocated.Null new
keeps-refusal g c old new none i near =
    let saw = none.saw.each i near in
    let newest_is = kept-is-new i (view old) (view new) none.saw.added saw.look old.ages (ap (λ (v : View). v.old_looks) none.stays) none.saw.since saw.newest_is in
    let kept = new.looks i saw.look newest_is in
    (kept.1 ∙ saw.for_class, subst (λ (n : ℕ). IsWithoutRoom g.geometry.units c (class_of n) (count_of n)) (sym kept.0) saw.no_room)
