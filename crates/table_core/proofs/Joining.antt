-- A pass is joined into another: the rule is kept.
use Rattle.std.proofs.Common.{◌≡◌, ◌≢◌, ◌∙◌, ℕ, ◌+◌, ◌*◌, ◌≤◌, min, ◌==◌, List, map, length, refl, sym, ap, subst, arith, length-append}
use Rattle.std.specs.Prelude.{slice_set, slice_index}
use Rattle.std.proofs.lemmas.List.{map-set}
use Rattle.record_core.specs.Sums.{total}
use Rattle.record_core.proofs.TotalFacts.{total-set_two, total-append}
use Rattle.kt_words.specs.SuperWords.{class_of, most_ever}
use Rattle.kt_words.specs.Capacity.{block_units}
use Rattle.frame_code.specs.Frames.{frame_length}
use Rattle.table_core.specs.Addresses.{Mem, super, state, refs, head, next, task, root, frame_in}
use Rattle.record_core.specs.Counting.{At, one_if, times}
use Rattle.table_core.specs.Lists.{Each, hit, hit3}
use Rattle.table_core.specs.Holdings.{Place, Block, Look, Run, Done}
use Rattle.table_core.specs.Story.{Story}
use Rattle.table_core.specs.Pool.{Hand, IsBlock, superblock_of, bit_of, places, owns, bit_in}
use Rattle.table_core.specs.Wins.{Won, Looked, IsLook, at_place, at_superblock}
use Rattle.table_core.specs.Bounds.{IsBounded, Numbered}
use Rattle.table_core.specs.References.{Bag}
use Rattle.table_core.specs.Own.{Hands, made_at, runs_at, done_at, record_words}
use Rattle.table_core.specs.Roots.{Turn}
use Rattle.table_core.specs.WaitLists.{Waits, waits_at, chains_at, unclosed_at}
use Rattle.table_core.specs.Sights.{IsKnown}
use Rattle.table_core.specs.Views.{joined, spent, with_wins, HasOnlyBlocks}
use Rattle.table_core.specs.Parts.{Part, pool, shares, bounds, wins, looks, evers, references, fits, own, roots, shaped, numbers, totals, waits, sights, Seen, seen, unnumbered, Says, AllSay}
use Rattle.table_core.specs.declared.setup.Setup.{Setup}
use Rattle.table_core.specs.declared.view.View.{View}
use Rattle.table_core.proofs.ListFacts.{at_map, map_at, each-set, each-append, each-none}
use Rattle.table_core.proofs.PoolFacts.{pool-same}
use Rattle.table_core.proofs.WinSteps.{look-kept}
use Rattle.table_core.proofs.ReferenceFacts.{referred-same}
use Rattle.table_core.proofs.OwnFacts.{IsHand, knows-nothing, hands-from, own-from}
use Rattle.table_core.proofs.WaitFacts.{IsWaitHand, wait-hands, waits-same}

module _ (g : Setup) (m : Mem) (vs : List View) (s : Story) (l : AllSay g s m vs) (id other : ℕ) (v w : View) (at : At vs id v) (at' : At vs other w) (apart : id ≢ other) (in_use : 1 ≤ v.parts) (only : HasOnlyBlocks w) where
  abbrev one : View
  one = joined v w

  -- what a part reads of the views after it
  abbrev after : (q : Part) → List (Seen q)
  after q = slice_set (slice_set (map (seen q) vs) id (seen q one)) other (seen q spent)

  sum-same : (q : Part) (f : Seen q → ℕ) → f (seen q one) ≡ f (seen q v) + f (seen q w) → f (seen q spent) ≡ 0 → total f (after q) ≡ total f (map (seen q) vs)
  sum-same q f both none = omega (arith, total-set_two f (map (seen q) vs) id other (seen q v) (seen q one) (seen q w) (seen q spent) apart (at_map (seen q) vs id v at) (at_map (seen q) vs other w at'), both, none)

  each-after : (q : Part) (P : Seen q → Type 0) → Each P (map (seen q) vs) → P (seen q one) → P (seen q spent) → Each P (after q)
  each-after q P all first second = each-set P (slice_set (map (seen q) vs) id (seen q one)) other (seen q spent) (each-set P (map (seen q) vs) id (seen q one) all first) second

  places-both : (i c : ℕ) → places g.plan i c (seen pool one) ≡ places g.plan i c (seen pool v) + places g.plan i c (seen pool w)
  places-both i c =
      let none : total (λ (r : Place). hit r.superblock r.class i c) w.reserved ≡ 0 = ap (total (λ (r : Place). hit r.superblock r.class i c)) only.reserved in
      let none' : total (λ (r : Place). hit r.superblock r.class i c) w.debts ≡ 0 = ap (total (λ (r : Place). hit r.superblock r.class i c)) only.debts in
      omega (arith, total-append (λ (b : Block). hit (superblock_of g.plan b.unit) b.class i c) w.blocks v.blocks, none, none')

  owns-both : (i c b : ℕ) → owns g.plan i c b (seen pool one) ≡ owns g.plan i c b (seen pool v) + owns g.plan i c b (seen pool w)
  owns-both i c b = omega (arith, total-append (λ (x : Block). hit3 (superblock_of g.plan x.unit) x.class (bit_of g.plan x.unit x.class) i c b) w.blocks v.blocks)

  was_bounded : IsBounded (seen bounds v)
  was_bounded = l bounds id (seen bounds v) (at_map (seen bounds) vs id v at)

  -- all wins together are as before
  same_wins : (i c : ℕ) → total (λ (u : Looked). at_place i c u.wins) (after looks) ≡ total (λ (u : Looked). at_place i c u.wins) (map (seen looks) vs)
  same_wins i c = sum-same looks (λ (u : Looked). at_place i c u.wins) (omega (arith, total-append (λ (r : Place). hit r.superblock r.class i c) w.wins v.wins)) refl

  look-same : (mine : List Place) (x : Look) → IsLook g.plan (λ i. m (super i)) (map (seen looks) vs) mine x → IsLook g.plan (λ i. m (super i)) (after looks) mine x
  look-same mine x = look-kept g.plan (λ i. m (super i)) (λ i. m (super i)) (map (seen looks) vs) (after looks) mine mine x (omega arith) (omega (arith, same_wins x.superblock (class_of x.word)))

  -- a look of one pass counts the wins of the other, now that they are its own
  look-both : (u o : View) (x : Look) → ((i c : ℕ) → at_place i c one.wins ≡ at_place i c u.wins + at_place i c o.wins)
      → IsLook g.plan (λ i. m (super i)) (map (seen looks) vs) u.wins x → IsLook g.plan (λ i. m (super i)) (after looks) one.wins (with_wins o x)
  look-both u o x both is = record {
    near = is.near;
    class_fits = is.class_fits;
    count = omega (arith, is.count, both x.superblock (class_of x.word), same_wins x.superblock (class_of x.word));
    ever = is.ever;
    count_ever = is.count_ever;
  }

  looks-both : (u o : View) → ((i c : ℕ) → at_place i c one.wins ≡ at_place i c u.wins + at_place i c o.wins) → Each (IsLook g.plan (λ i. m (super i)) (map (seen looks) vs) u.wins) u.looks
      → Each (IsLook g.plan (λ i. m (super i)) (after looks) one.wins) (map (with_wins o) u.looks)
  looks-both u o both all k x there =
      let t = map_at (with_wins o) u.looks k x there in
      subst (IsLook g.plan (λ i. m (super i)) (after looks) one.wins) t.2 (look-both u o t.0 both (all k t.0 t.1))

  one_looks : Each (IsLook g.plan (λ i. m (super i)) (after looks) one.wins) one.looks
  one_looks = each-append (IsLook g.plan (λ i. m (super i)) (after looks) one.wins) (map (with_wins w) v.looks) (map (with_wins v) w.looks)
      (looks-both v w (λ i c. omega (arith, total-append (λ (r : Place). hit r.superblock r.class i c) w.wins v.wins)) (l looks id (seen looks v) (at_map (seen looks) vs id v at)))
      (looks-both w v (λ i c. omega (arith, total-append (λ (r : Place). hit r.superblock r.class i c) w.wins v.wins)) (l looks other (seen looks w) (at_map (seen looks) vs other w at')))

  -- each part of the rule holds of the joined passes
  pub joined_parts : (q : Part) → Says g q s m (after q)
  joined_parts pool = pool-same g.plan (λ i. m (super i)) (bit_in m) (λ u. m (state u)) (map (seen pool) vs) (after pool) (l pool)
      (λ i c. sum-same pool (places g.plan i c) (places-both i c) refl) (λ i c b. sum-same pool (owns g.plan i c b) (owns-both i c b) refl)
      (each-after pool (λ (h : Hand). Each (λ (b : Block). IsBlock g.plan b.unit b.class) h.blocks) ((l pool).blocks)
      (each-append (λ (b : Block). IsBlock g.plan b.unit b.class) w.blocks v.blocks ((l pool).blocks other (seen pool w) (at_map (seen pool) vs other w at')) ((l pool).blocks id (seen pool v) (at_map (seen pool) vs id v at)))
      (each-none _))
  joined_parts shares = omega (arith, sum-same shares (λ (n : ℕ). n) (omega arith) refl, l shares)
  joined_parts bounds = each-after bounds IsBounded (l bounds)
      (record {
        few = omega (arith, was_bounded.few, length-append w.taken v.taken, length-append w.calls v.calls);
        accepted = omega (arith, was_bounded.accepted, length-append w.calls v.calls);
        single = was_bounded.single;
        spent = λ none. absurd (omega (arith, none));
      })
      (record { few = omega arith; accepted = omega arith; single = omega arith; spent = λ none. omega arith })
  joined_parts wins = record {
    counts = λ i c near. omega (
      arith,
      (l wins).counts i c near,
      sum-same wins (λ (u : Won). at_place i c u.wins) (omega (arith, total-append (λ (r : Place). hit r.superblock r.class i c) w.wins v.wins)) refl,
      sum-same wins (λ (u : Won). at_place i c u.settles) (omega (arith, total-append (λ (r : Place). hit r.superblock r.class i c) w.settles v.settles)) refl,
    );
    ever = λ i near. (l wins).ever i near ∙ ap (λ (n : ℕ). min n most_ever)
        (sym (sum-same wins (λ (u : Won). at_superblock i u.wins) (omega (arith, total-append (λ (r : Place). one_if (r.superblock == i)) w.wins v.wins)) refl));
  }
  joined_parts looks = each-after looks (λ (u : Looked). Each (IsLook g.plan (λ i. m (super i)) (after looks) u.wins) u.looks)
      (λ j u there k x here. look-same u.wins x (l looks j u there k x here)) one_looks (each-none _)
  joined_parts evers = omega (
    arith,
    l evers,
    sum-same evers (λ (n : ℕ). n)
        (omega (arith, total-append (λ (b : Block). one_if b.fresh) w.blocks v.blocks, ap length only.reserved, ap unnumbered only.made)) refl,
  )
  joined_parts references = referred-same g.checked g.plan (λ u. m (state u)) (λ u. m (refs u)) (λ r. m (root r)) (frame_in m) (map (seen references) vs) (after references)
      (λ u. sum-same references (λ (b : Bag). times u b.futures) (omega (arith, ap (times u) only.futures)) refl)
      (λ u. sum-same references (λ (b : Bag). times u b.done) (omega (arith, ap (λ (ds : List Done). times u (map (λ (d : Done). d.unit) ds)) only.done)) refl)
      (λ u. sum-same references (λ (b : Bag). times u b.retiring) (omega (arith, ap (times u) only.retiring)) refl) (l references)
  joined_parts fits = record {
    saved = (l fits).saved;
    running = each-after fits (Each (λ (r : Run). frame_length g.checked (slice_index r.words 0) ≤ 8 * block_units r.class)) (l fits).running
        ((l fits).running id (seen fits v) (at_map (seen fits) vs id v at)) (each-none _);
  }
  joined_parts own =
      let hands = hands-from g.plan (λ i. m (super i)) (λ u. m (state u)) (record_words m) (map (seen own) vs) (l own) in
      own-from g.plan (λ i. m (super i)) (λ u. m (state u)) (record_words m) (after own)
      (λ u. sum-same own (λ (h : Hands). made_at u h.made) (omega (arith, ap (made_at u) only.made)) refl ∙ (l own).made u)
      (λ u. sum-same own (λ (h : Hands). runs_at u h.runs) (omega (arith, ap (runs_at u) only.runs)) refl ∙ (l own).running u)
      (λ u. omega (arith, sum-same own (λ (h : Hands). done_at u h.done) (omega (arith, ap (done_at u) only.done)) refl, (l own).done u))
      (each-after own (IsHand g.plan (λ i. m (super i)) (λ u. m (state u)) (record_words m)) hands (hands id (seen own v) (at_map (seen own) vs id v at))
      (record { classes = each-none _; run_classes = each-none _; numbers = each-none _; known = λ a n e. absurd (knows-nothing a n e) }))
  joined_parts roots =
      let mine = at_map (seen roots) vs id v at in let its = at_map (seen roots) vs other w at' in record {
        one = sum-same roots (λ (t : Turn). length t.turn) (omega (arith, length-append w.turn v.turn)) refl ∙ (l roots).one;
        says = each-after roots _ (l roots).says (each-append _ w.turn v.turn ((l roots).says other (seen roots w) its) ((l roots).says id (seen roots v) mine)) (each-none _);
        few = each-after roots _ (l roots).few (each-append _ w.turn v.turn ((l roots).few other (seen roots w) its) ((l roots).few id (seen roots v) mine)) (each-none _);
        near = each-after roots _ (l roots).near (each-append _ w.turn v.turn ((l roots).near other (seen roots w) its) ((l roots).near id (seen roots v) mine)) (each-none _);
        skipped = each-after roots _ (l roots).skipped (each-append _ w.turn v.turn ((l roots).skipped other (seen roots w) its) ((l roots).skipped id (seen roots v) mine)) (each-none _);
        known = each-after roots _ (l roots).known (omega (arith, (l roots).known id (seen roots v) mine, (l roots).known other (seen roots w) its)) (omega arith);
      }
  joined_parts shaped = l shaped
  joined_parts numbers = record {
    taken = omega (arith, sum-same numbers (λ (n : Numbered). n.taken) (omega (arith, length-append w.taken v.taken)) refl, (l numbers).taken);
    calls = omega (arith, sum-same numbers (λ (n : Numbered). n.calls) (omega (arith, length-append w.calls v.calls)) refl, (l numbers).calls);
  }
  joined_parts totals = l totals
  joined_parts waits =
      let hands = wait-hands (λ u. m (state u)) (λ u. m (head u)) (λ u. m (next u)) g.plan (map (seen waits) vs) (l waits) in
      waits-same (λ u. m (state u)) (λ u. m (head u)) (λ u. m (next u)) g.plan (map (seen waits) vs) (after waits) (l waits)
      (λ u. sum-same waits (λ (x : Waits). unclosed_at u x.done) (omega (arith, ap (unclosed_at u) only.done)) refl)
      (λ u. sum-same waits (λ (x : Waits). waits_at u x.waiting) (omega (arith, ap (waits_at u) only.waiting)) refl)
      (λ u. sum-same waits (λ (x : Waits). chains_at u x.chains) (omega (arith, ap (chains_at u) only.chains)) refl)
      (each-after waits (IsWaitHand (λ u. m (state u)) (λ u. m (head u)) (λ u. m (next u))) hands (hands id (seen waits v) (at_map (seen waits) vs id v at))
      (record { done_closed = each-none _; chains = each-none _; numbers = each-none _; linked = each-none _ }))
  joined_parts sights =
      each-after sights (IsKnown (λ u. m (head u)) (λ u. m (task u)) (λ u. m (state u))) (l sights) (l sights id (seen sights v) (at_map (seen sights) vs id v at)) (each-none _)

  -- each part holds where the list of views has the joined pass and the spent one
  pub joined-says : (q : Part) → Says g q s m (map (seen q) (slice_set (slice_set vs id one) other spent))
  joined-says q = subst (Says g q s m) (sym (map-set (seen q) (slice_set vs id one) other spent ∙ ap (λ (xs : List (Seen q)). slice_set xs other (seen q spent)) (map-set (seen q) vs id one))) (joined_parts q)
