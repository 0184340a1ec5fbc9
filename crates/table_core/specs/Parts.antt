-- The rule that holds between any two steps. It is a list of parts; each reads some kinds of words, some lists of the story,
-- and something of each view.
use Rattle.std.specs.Prelude.{◌≡◌, ℕ, ◌+◌, ◌<◌, List, map, length, slice_get, slice_set, Some, cond, ◌==◌}
use Rattle.record_core.specs.Sums.{total}
use Rattle.kt_words.specs.StateWords.{IsStateWord}
use Rattle.table_core.specs.Addresses.{Addr, Mem, super, state, refs, head, next, task, root, sum, frame_in, put, units_of}
use Rattle.record_core.specs.Counting.{one_if}
use Rattle.table_core.specs.Lists.{Each}
use Rattle.table_core.specs.Holdings.{Block, Made, Run, Done}
use Rattle.table_core.specs.Story.{Story, tasks_in, TotalsSound}
use Rattle.table_core.specs.Pool.{Hand, PoolSound, bit_in}
use Rattle.table_core.specs.Wins.{Won, WinsSound, Looked, LooksSound, EversSound}
use Rattle.table_core.specs.Bounds.{Held, IsBounded, Numbered, NumbersSound}
use Rattle.table_core.specs.References.{Bag, IsReferred, FramesFit}
use Rattle.table_core.specs.Own.{Hands, OwnSound, record_words}
use Rattle.table_core.specs.Roots.{Turn, RootsSound}
use Rattle.table_core.specs.Steps.{Stepped}
use Rattle.table_core.specs.WaitLists.{Waits, WaitSound}
use Rattle.table_core.specs.Sights.{Knows, SightsSound}
use Rattle.table_core.specs.declared.setup.Setup.{Setup}
use Rattle.table_core.specs.declared.view.View.{View}

pub data Part : Type 0 where
  -- words, bits, records and hands agree
  pool : Part
  -- the passes are at most 4,096
  shares : Part
  -- no pass has too much
  bounds : Part
  -- wins and settles make the counts
  wins : Part
  -- a look is no older than it says
  looks : Part
  -- each reservation is accounted for
  evers : Part
  -- reference words count who refers to a record
  references : Part
  -- frames lie inside their blocks
  fits : Part
  -- records are in hands, and what is known of their words is so
  own : Part
  -- root words say what the pass with the turn knows
  roots : Part
  -- each state word is one
  shaped : Part
  -- no more numbers are taken than there are, and each accepted call is some pass's
  numbers : Part
  -- the totals count the story
  totals : Part
  -- a record that waits stands in one place, and lists are as their heads say
  waits : Part
  -- what was seen under a reference is still so
  sights : Part

-- what a part reads of a view
abbrev pub Seen : Part → Type 0
Seen pool = Hand
Seen shares = ℕ
Seen bounds = Held
Seen wins = Won
Seen looks = Looked
Seen evers = ℕ
Seen references = Bag
Seen fits = List Run
Seen own = Hands
Seen roots = Turn
Seen shaped = Unit {0}
Seen numbers = Numbered
Seen totals = Unit {0}
Seen waits = Waits
Seen sights = Knows

abbrev pub fresh_in : List Block → ℕ
fresh_in = total (λ b. one_if b.fresh)

abbrev pub unnumbered : List Made → ℕ
unnumbered = total (λ r. cond (r.number == 0) 1 0)

-- all that leaves a pass not idle, but for its references; beside it the turn and the leave to draw
abbrev pub things_of : View → ℕ
things_of v = length v.reserved + length v.blocks + length v.debts + length v.made + length v.waiting + length v.runs + length v.done
    + length v.retiring + length v.chains + length v.drawn + length v.no_task + length v.no_after + length v.stamps + length v.unwritten + length v.answers + length v.turn + v.may_draw

abbrev pub seen : (q : Part) → View → Seen q
seen pool v = record { reserved = v.reserved; blocks = v.blocks; debts = v.debts }
seen shares v = v.parts
seen bounds v = record {
  parts = v.parts;
  references = length v.futures;
  things = things_of v;
  may_draw = v.may_draw;
  taken = length v.taken;
  drawn = length v.drawn;
  calls = length v.calls;
}
seen wins v = record { wins = v.wins; settles = v.settles }
seen looks v = record { wins = v.wins; looks = v.looks }
seen evers v = length v.reserved + fresh_in v.blocks + unnumbered v.made + v.cleared
seen references v = record { futures = v.futures; done = map (λ (d : Done). d.unit) v.done; retiring = v.retiring }
seen fits v = v.runs
seen own v = record { made = v.made; runs = v.runs; done = v.done; known = v.known }
seen roots v = record { turn = v.turn; asked = v.asked }
seen shaped v = tt
seen numbers v = record { taken = length v.taken; calls = length v.calls }
seen totals v = tt
seen waits v = record { waiting = v.waiting; chains = v.chains; done = v.done }
seen sights v = record { futures = v.futures; sights = v.sights }

module _ (g : Setup) where
  -- what a part says
  abbrev pub Says : (q : Part) → Story → Mem → List (Seen q) → Type 0
  Says pool s m vs = PoolSound g.plan (λ i. m (super i)) (bit_in m) (λ u. m (state u)) vs
  Says shares s m vs = total (λ n. n) vs ≡ 4096
  Says bounds s m vs = Each IsBounded vs
  Says wins s m vs = WinsSound g.plan (λ i. m (super i)) vs
  Says looks s m vs = LooksSound g.plan (λ i. m (super i)) vs
  Says evers s m vs = EversSound g.plan (λ i. m (super i)) (tasks_in s.calls) vs
  Says references s m vs = IsReferred g.checked (λ u. m (state u)) (λ u. m (refs u)) (λ r. m (root r)) (frame_in m) g.plan vs
  Says fits s m vs = FramesFit g.checked g.plan (λ u. m (state u)) (λ i. m (super i)) (frame_in m) vs
  Says own s m vs = OwnSound g.plan (λ i. m (super i)) (λ u. m (state u)) (record_words m) vs
  Says roots s m vs = RootsSound g.checked g.plan (λ r. m (root r)) vs
  Says shaped s m vs = (u : ℕ) → u < units_of g.plan → IsStateWord (m (state u))
  Says numbers s m vs = NumbersSound g.plan.limit (length s.calls) vs
  Says totals s m vs = TotalsSound g.plan.limit s (λ k. m (sum k))
  Says waits s m vs = WaitSound (λ u. m (state u)) (λ u. m (head u)) (λ u. m (next u)) g.plan vs
  Says sights s m vs = SightsSound (λ u. m (head u)) (λ u. m (task u)) (λ u. m (state u)) vs

  -- all parts, of one story
  abbrev pub AllSay : Story → Mem → List View → Type 0
  AllSay s m vs = (q : Part) → Says q s m (map (seen q) vs)

  abbrev pub Lawful : Mem → List View → Type 0
  Lawful m vs = (s : Story) × AllSay s m vs

  -- A step that writes f of what it finds at one word may be made: whatever the table is then, with some new view of the pass all
  -- parts say what they said, of the same story; the pass has seen what was found, what it placed was written, and the view is what the step tells.
  abbrev pub Keeps : ℕ → View → Addr → (ℕ → ℕ) → (ℕ → View → Type 0) → Type 0
  Keeps id v a f told = (m : Mem) (vs : List View) (s : Story) → AllSay s m vs → slice_get vs id ≡ Some v → m a < 18446744073709551616
      → (w : View) × AllSay s (put m a (f (m a))) (slice_set vs id w) × told (m a) w × Stepped a (m a) (f (m a)) v w
