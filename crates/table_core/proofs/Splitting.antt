-- A pass is split in two: the rule is kept.
use Rattle.std.proofs.Common.{◌≡◌, ◌∙◌, ℕ, ◌*◌, ◌-◌, ◌≤◌, min, List, [], ◌∷◌, ◌++◌, map, length, refl, sym, ap, subst, arith}
use Rattle.std.specs.Prelude.{slice_set, slice_index}
use Rattle.std.proofs.lemmas.List.{map-set, map-append}
use Rattle.record_core.specs.Sums.{total}
use Rattle.record_core.proofs.TotalFacts.{total-set, total-snoc}
use Rattle.kt_words.specs.SuperWords.{class_of, most_ever}
use Rattle.kt_words.specs.Capacity.{block_units}
use Rattle.frame_code.specs.Frames.{frame_length}
use Rattle.table_core.specs.Addresses.{Mem, super, state, refs, head, next, task, root, frame_in}
use Rattle.record_core.specs.Counting.{At, times}
use Rattle.table_core.specs.Lists.{Each}
use Rattle.table_core.specs.Holdings.{Block, Look, Run}
use Rattle.table_core.specs.Story.{Story}
use Rattle.table_core.specs.Pool.{Hand, IsBlock, places, owns, bit_in}
use Rattle.table_core.specs.Wins.{Won, Looked, IsLook, at_place, at_superblock}
use Rattle.table_core.specs.Bounds.{IsBounded, Numbered}
use Rattle.table_core.specs.References.{Bag}
use Rattle.table_core.specs.Own.{Hands, made_at, runs_at, done_at, record_words}
use Rattle.table_core.specs.Roots.{Turn}
use Rattle.table_core.specs.WaitLists.{Waits, waits_at, chains_at, unclosed_at}
use Rattle.table_core.specs.Sights.{IsKnown}
use Rattle.table_core.specs.Views.{kept_half, idle_half}
use Rattle.table_core.specs.Parts.{Part, pool, shares, bounds, wins, looks, evers, references, fits, own, roots, shaped, numbers, totals, waits, sights, Seen, seen, Says, AllSay}
use Rattle.table_core.specs.declared.setup.Setup.{Setup}
use Rattle.table_core.specs.declared.view.View.{View}
use Rattle.table_core.proofs.ListFacts.{at_map, each-set, each-append, each-cons, each-none}
use Rattle.table_core.proofs.PoolFacts.{pool-same}
use Rattle.table_core.proofs.WinSteps.{look-kept}
use Rattle.table_core.proofs.ReferenceFacts.{referred-same}
use Rattle.table_core.proofs.OwnFacts.{IsHand, knows-nothing, hands-from, own-from}
use Rattle.table_core.proofs.WaitFacts.{IsWaitHand, wait-hands, waits-same}

module _ (g : Setup) (m : Mem) (vs : List View) (s : Story) (l : AllSay g s m vs) (id : ℕ) (v : View) (at : At vs id v) (room : 2 ≤ v.parts) where
  -- what a part reads of both passes and the others
  abbrev both : (q : Part) → List (Seen q)
  both q = slice_set (map (seen q) vs) id (seen q (kept_half v)) ++ seen q (idle_half v) ∷ []

  -- a sum is as before where the first has what it had, and the second nothing
  sum-same : (q : Part) (f : Seen q → ℕ) → f (seen q (kept_half v)) ≡ f (seen q v) → f (seen q (idle_half v)) ≡ 0 → total f (both q) ≡ total f (map (seen q) vs)
  sum-same q f same none = omega (
    arith,
    total-snoc f (slice_set (map (seen q) vs) id (seen q (kept_half v))) (seen q (idle_half v)),
    total-set f (map (seen q) vs) id (seen q v) (seen q (kept_half v)) (at_map (seen q) vs id v at),
    same,
    none,
  )

  each-both : (q : Part) (P : Seen q → Type 0) → Each P (map (seen q) vs) → P (seen q (kept_half v)) → P (seen q (idle_half v)) → Each P (both q)
  each-both q P all first second = each-append P (slice_set (map (seen q) vs) id (seen q (kept_half v))) (seen q (idle_half v) ∷ [])
      (each-set P (map (seen q) vs) id (seen q (kept_half v)) all first) (each-cons P (seen q (idle_half v)) [] second (each-none P))

  was_bounded : IsBounded (seen bounds v)
  was_bounded = l bounds id (seen bounds v) (at_map (seen bounds) vs id v at)

  look-split : (mine mine' : List _) (x : Look) → ((j c : ℕ) → at_place j c mine' ≤ at_place j c mine)
      → IsLook g.plan (λ i. m (super i)) (map (seen looks) vs) mine x → IsLook g.plan (λ i. m (super i)) (both looks) mine' x
  look-split mine mine' x fewer = look-kept g.plan (λ i. m (super i)) (λ i. m (super i)) (map (seen looks) vs) (both looks) mine mine' x (omega arith)
      (omega (arith, fewer x.superblock (class_of x.word), sum-same looks (λ (u : Looked). at_place x.superblock (class_of x.word) u.wins) refl refl))

  -- each part of the rule holds of both halves
  pub split_parts : (q : Part) → Says g q s m (both q)
  split_parts pool = pool-same g.plan (λ i. m (super i)) (bit_in m) (λ u. m (state u)) (map (seen pool) vs) (both pool) (l pool)
      (λ i c. sum-same pool (places g.plan i c) refl refl) (λ i c b. sum-same pool (owns g.plan i c b) refl refl)
      (each-both pool (λ (h : Hand). Each (λ (b : Block). IsBlock g.plan b.unit b.class) h.blocks) ((l pool).blocks) ((l pool).blocks id (seen pool v) (at_map (seen pool) vs id v at)) (each-none _))
  split_parts shares =
      omega (arith, total-snoc (λ (n : ℕ). n) (slice_set (map (seen shares) vs) id (v.parts - 1)) 1, total-set (λ (n : ℕ). n) (map (seen shares) vs) id v.parts (v.parts - 1) (at_map (seen shares) vs id v at), l shares)
  split_parts bounds = each-both bounds IsBounded (l bounds)
      (record { few = was_bounded.few; accepted = was_bounded.accepted; single = was_bounded.single; spent = λ none. absurd (omega (arith, none)) })
      (record { few = omega arith; accepted = omega arith; single = omega arith; spent = λ none. absurd (omega (arith, none)) })
  split_parts wins = record {
    counts = λ i c near. omega (arith, (l wins).counts i c near, sum-same wins (λ (u : Won). at_place i c u.wins) refl refl, sum-same wins (λ (u : Won). at_place i c u.settles) refl refl);
    ever = λ i near. (l wins).ever i near ∙ ap (λ (n : ℕ). min n most_ever) (sym (sum-same wins (λ (u : Won). at_superblock i u.wins) refl refl));
  }
  split_parts looks = each-both looks (λ (u : Looked). Each (IsLook g.plan (λ i. m (super i)) (both looks) u.wins) u.looks)
      (λ j u at' k x there. look-split u.wins u.wins x (λ j c. omega arith) (l looks j u at' k x there))
      (λ k x there. look-split v.wins v.wins x (λ j c. omega arith) (l looks id (seen looks v) (at_map (seen looks) vs id v at) k x there))
      (λ k x there. look-split v.wins [] x (λ j c. omega arith) (l looks id (seen looks v) (at_map (seen looks) vs id v at) k x there))
  split_parts evers = omega (arith, l evers, sum-same evers (λ (n : ℕ). n) refl refl)
  split_parts references = referred-same g.checked g.plan (λ u. m (state u)) (λ u. m (refs u)) (λ r. m (root r)) (frame_in m) (map (seen references) vs) (both references)
      (λ u. sum-same references (λ (b : Bag). times u b.futures) refl refl) (λ u. sum-same references (λ (b : Bag). times u b.done) refl refl)
      (λ u. sum-same references (λ (b : Bag). times u b.retiring) refl refl) (l references)
  split_parts fits = record {
    saved = (l fits).saved;
    running = each-both fits (Each (λ (r : Run). frame_length g.checked (slice_index r.words 0) ≤ 8 * block_units r.class)) (l fits).running
        ((l fits).running id (seen fits v) (at_map (seen fits) vs id v at)) (each-none _);
  }
  split_parts own =
      let hands = hands-from g.plan (λ i. m (super i)) (λ u. m (state u)) (record_words m) (map (seen own) vs) (l own) in
      own-from g.plan (λ i. m (super i)) (λ u. m (state u)) (record_words m) (both own)
      (λ u. sum-same own (λ (h : Hands). made_at u h.made) refl refl ∙ (l own).made u) (λ u. sum-same own (λ (h : Hands). runs_at u h.runs) refl refl ∙ (l own).running u)
      (λ u. omega (arith, sum-same own (λ (h : Hands). done_at u h.done) refl refl, (l own).done u))
      (each-both own (IsHand g.plan (λ i. m (super i)) (λ u. m (state u)) (record_words m)) hands (hands id (seen own v) (at_map (seen own) vs id v at))
      (record { classes = each-none _; run_classes = each-none _; numbers = each-none _; known = λ a n e. absurd (knows-nothing a n e) }))
  split_parts roots = record {
    one = sum-same roots (λ (t : Turn). length t.turn) refl refl ∙ (l roots).one;
    says = each-both roots _ (l roots).says ((l roots).says id (seen roots v) (at_map (seen roots) vs id v at)) (each-none _);
    few = each-both roots _ (l roots).few ((l roots).few id (seen roots v) (at_map (seen roots) vs id v at)) (each-none _);
    near = each-both roots _ (l roots).near ((l roots).near id (seen roots v) (at_map (seen roots) vs id v at)) (each-none _);
    skipped = each-both roots _ (l roots).skipped ((l roots).skipped id (seen roots v) (at_map (seen roots) vs id v at)) (each-none _);
    known = each-both roots _ (l roots).known ((l roots).known id (seen roots v) (at_map (seen roots) vs id v at)) ((l roots).known id (seen roots v) (at_map (seen roots) vs id v at));
  }
  split_parts shaped = l shaped
  split_parts numbers = record {
    taken = omega (arith, sum-same numbers (λ (n : Numbered). n.taken) refl refl, (l numbers).taken);
    calls = omega (arith, sum-same numbers (λ (n : Numbered). n.calls) refl refl, (l numbers).calls);
  }
  split_parts totals = l totals
  split_parts waits =
      let hands = wait-hands (λ u. m (state u)) (λ u. m (head u)) (λ u. m (next u)) g.plan (map (seen waits) vs) (l waits) in
      waits-same (λ u. m (state u)) (λ u. m (head u)) (λ u. m (next u)) g.plan (map (seen waits) vs) (both waits) (l waits)
      (λ u. sum-same waits (λ (w : Waits). unclosed_at u w.done) refl refl) (λ u. sum-same waits (λ (w : Waits). waits_at u w.waiting) refl refl)
      (λ u. sum-same waits (λ (w : Waits). chains_at u w.chains) refl refl)
      (each-both waits (IsWaitHand (λ u. m (state u)) (λ u. m (head u)) (λ u. m (next u))) hands (hands id (seen waits v) (at_map (seen waits) vs id v at))
      (record { done_closed = each-none _; chains = each-none _; numbers = each-none _; linked = each-none _ }))
  split_parts sights = each-both sights (IsKnown (λ u. m (head u)) (λ u. m (task u)) (λ u. m (state u))) (l sights) (l sights id (seen sights v) (at_map (seen sights) vs id v at)) (each-none _)

  -- each part holds where the list of views has the two halves
  pub split-says : (q : Part) → Says g q s m (map (seen q) (slice_set vs id (kept_half v) ++ idle_half v ∷ []))
  split-says q = subst (Says g q s m) (sym (map-append (seen q) (slice_set vs id (kept_half v)) (idle_half v ∷ []) ∙ ap (λ (xs : List (Seen q)). xs ++ seen q (idle_half v) ∷ []) (map-set (seen q) vs id (kept_half v)))) (split_parts q)
