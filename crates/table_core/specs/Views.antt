-- What steps do to a view.
use Rattle.std.specs.Prelude.{◌≡◌, ℕ, ◌+◌, ◌-◌, [], ◌∷◌, ◌++◌, Bool, cond, ◌==◌, ◌&&◌, not, true, map, max, length}
use Rattle.kt_words.specs.declared.plan.Plan.{Plan}
use Rattle.kt_words.specs.SuperWords.{class_of}
use Rattle.table_core.specs.Addresses.{Addr}
use Rattle.record_core.specs.Counting.{one_if, dropped}
use Rattle.table_core.specs.Holdings.{Place, Block, Look}
use Rattle.table_core.specs.Pool.{unit_of, superblock_of}
use Rattle.table_core.specs.Wins.{at_place}
use Rattle.table_core.specs.declared.view.View.{View}

abbrev pub place : ℕ → ℕ → Place
place i c = record { superblock = i; class = c }

abbrev pub block : ℕ → ℕ → Bool → Block
block u c fresh = record { unit = u; class = c; fresh = fresh }

abbrev pub is_place : Place → Place → Bool
is_place p r = (p.superblock == r.superblock) && (p.class == r.class)

abbrev pub same_bool : Bool → Bool → Bool
same_bool a b = cond a b (not b)

abbrev pub is_block : Block → Block → Bool
is_block x y = (x.unit == y.unit) && ((x.class == y.class) && same_bool x.fresh y.fresh)

-- a step leaves its word and the number that it found there
abbrev pub saw : Addr → ℕ → View → View
saw a n v = record v { seen = (a, n) ∷ v.seen }

-- the word n of superblock i was looked at for class c
abbrev pub look_of : ℕ → ℕ → ℕ → View → Look
look_of i c n v = record { superblock = i; class = c; word = n; wins = at_place i (class_of n) v.wins; settles = at_place i (class_of n) v.settles }

abbrev pub looked : ℕ → ℕ → ℕ → View → View
looked i c n v = record v { looks = look_of i c n v ∷ v.looks }

-- a place is won
abbrev pub reserved : Place → View → View
reserved p v = record v { reserved = p ∷ v.reserved; wins = p ∷ v.wins }

-- a reserved place becomes the block at bit b
abbrev pub claimed : Plan → Place → ℕ → View → View
claimed g p b v = record v { reserved = dropped (is_place p) v.reserved; blocks = block (unit_of g p.superblock p.class b) p.class true ∷ v.blocks }

-- the block is given back, and its place is owed
abbrev pub cleared : Plan → Block → View → View
cleared g x v = record v { blocks = dropped (is_block x) v.blocks; debts = place (superblock_of g x.unit) x.class ∷ v.debts; cleared = v.cleared + one_if x.fresh }

-- a debt is paid
abbrev pub settled : Place → View → View
settled p v = record v { debts = dropped (is_place p) v.debts; settles = p ∷ v.settles }

-- a block is given back and its place paid
abbrev pub released : Plan → Block → View → View
released g x v = record v { blocks = dropped (is_block x) v.blocks; settles = place (superblock_of g x.unit) x.class ∷ v.settles; cleared = v.cleared + one_if x.fresh }

-- a split takes one part
abbrev pub kept_half : View → View
kept_half v = record v { parts = v.parts - 1 }

-- the view of a pass that was joined into another
abbrev pub spent : View
spent = record {
  reserved = [];
  blocks = [];
  debts = [];
  cleared = 0;
  wins = [];
  settles = [];
  looks = [];
  old_looks = 0;
  futures = [];
  made = [];
  waiting = [];
  runs = [];
  done = [];
  retiring = [];
  chains = [];
  known = [];
  sights = [];
  turn = [];
  asked = 0;
  root_task = 0;
  drawn = [];
  taken = [];
  placings = [];
  no_task = [];
  no_after = [];
  stamps = [];
  unwritten = [];
  calls = [];
  answers = [];
  facts = [];
  seen = [];
  tries = 0;
  loose = 0;
  may_draw = 0;
  quiet = 0;
  parts = 0;
}

-- the first pass has the turn, and all 4,096 parts
abbrev pub first_view : View
first_view = record spent { turn = [] ∷ []; parts = 4096 }

-- the second pass of a split holds nothing, and has seen what the first has
abbrev pub idle_half : View → View
idle_half v = record spent { looks = v.looks; old_looks = v.old_looks; asked = v.asked; facts = v.facts; seen = v.seen; quiet = v.quiet; parts = 1 }

-- a look counts the wins of the other pass too, once the two are one
abbrev pub with_wins : View → Look → Look
with_wins other l = record l { wins = l.wins + at_place l.superblock (class_of l.word) other.wins }

-- A pass takes in another that has nothing but blocks. The looks of the other count as older.
abbrev pub joined : View → View → View
joined keep other = record keep {
  blocks = other.blocks ++ keep.blocks;
  cleared = other.cleared + keep.cleared;
  wins = other.wins ++ keep.wins;
  settles = other.settles ++ keep.settles;
  looks = map (with_wins other) keep.looks ++ map (with_wins keep) other.looks;
  old_looks = keep.old_looks + length other.looks;
  turn = other.turn ++ keep.turn;
  root_task = other.root_task + keep.root_task;
  taken = other.taken ++ keep.taken;
  placings = other.placings ++ keep.placings;
  asked = max other.asked keep.asked;
  quiet = max other.quiet keep.quiet;
  calls = other.calls ++ keep.calls;
  facts = other.facts ++ keep.facts;
  seen = other.seen ++ keep.seen;
  tries = other.tries + keep.tries;
  loose = other.loose + keep.loose;
  parts = other.parts + keep.parts;
}

-- the hand has nothing, but for blocks
pub record HasOnlyBlocks (v : View) : Type 0 where
  pub reserved : v.reserved ≡ []
  pub debts : v.debts ≡ []
  pub futures : v.futures ≡ []
  pub made : v.made ≡ []
  pub waiting : v.waiting ≡ []
  pub runs : v.runs ≡ []
  pub done : v.done ≡ []
  pub retiring : v.retiring ≡ []
  pub chains : v.chains ≡ []
  pub drawn : v.drawn ≡ []
  pub no_task : v.no_task ≡ []
  pub no_after : v.no_after ≡ []
  pub stamps : v.stamps ≡ []
  pub unwritten : v.unwritten ≡ []
  pub answers : v.answers ≡ []

abbrev pub IsIdle : View → Type 0
IsIdle v = HasOnlyBlocks v × (v.blocks ≡ [])
