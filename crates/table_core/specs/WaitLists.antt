-- Where records wait: in the list of a record, in a chain that a pass took, or in a pass's hand.
use Rattle.std.specs.Prelude.{◌≡◌, ℕ, zero, suc, ◌+◌, ◌-◌, ◌<◌, List, [], ◌∷◌, Bool, true, cond, ◌==◌, ◌&&◌, not, nat_lt, Option, Some, None}
use Rattle.record_core.specs.Sums.{total, below}
use Rattle.record_core.specs.Counting.{one_if, passing, times}
use Rattle.kt_words.specs.declared.plan.Plan.{Plan}
use Rattle.kt_words.specs.StateWords.{phase_of, number_of}
use Rattle.kt_words.specs.HeadWords.{closed_word, link_of, length_of}
use Rattle.table_core.specs.Addresses.{units_of}
use Rattle.table_core.specs.References.{is_live, is_record}
use Rattle.table_core.specs.Lists.{Each}
use Rattle.table_core.specs.Holdings.{Waiter, Done}

-- so many units, one after the other by their next words, the first of them under this link
abbrev pub chained : (ℕ → ℕ) → ℕ → ℕ → List ℕ
chained nexts link zero = []
chained nexts link (suc n) = (link - 1) ∷ chained nexts (nexts (link - 1)) n

-- the link to the first of these units, 0 to nothing
abbrev pub link_to : List ℕ → ℕ
link_to [] = 0
link_to (u ∷ us) = u + 1

-- the next word of each links to the one after it, and that of the last to nothing
abbrev pub Follows : (ℕ → ℕ) → List ℕ → Type 0
Follows nexts [] = Unit {0}
Follows nexts (u ∷ us) = (nexts u ≡ link_to us) × Follows nexts us

-- where the waiter at u was linked to a head, its next word links to the first of that head's list
abbrev pub IsLinked : (ℕ → ℕ) → ℕ → Option ℕ → Type 0
IsLinked nexts u None = Unit {0}
IsLinked nexts u (Some head) = nexts u ≡ link_of head

-- what a pass has of records that wait: those in no list, the chains that it took, and its done records
pub record Waits : Type 0 where
  pub waiting : List Waiter
  pub chains : List (List ℕ)
  pub done : List Done

-- how often the record at u is one of these waiters
abbrev pub waits_at : ℕ → List Waiter → ℕ
waits_at u = passing (λ x. x.unit == u)

-- how often it is a member of these chains
abbrev pub chains_at : ℕ → List (List ℕ) → ℕ
chains_at u = total (times u)

-- how often it is one of these done records, and its list is still to be closed
abbrev pub unclosed_at : ℕ → List Done → ℕ
unclosed_at u = total (λ d. cond d.closed 0 (one_if (d.unit == u)))

-- the list of the record at u is open
abbrev pub is_open : (ℕ → ℕ) → (ℕ → ℕ) → ℕ → Bool
is_open states heads u = is_record (states u) && not (heads u == closed_word)

module _ (states heads nexts : ℕ → ℕ) where
  -- the list of a record; where it is not open, there is none
  abbrev pub listed : ℕ → List ℕ
  listed u = cond (is_open states heads u) (chained nexts (link_of (heads u)) (length_of (heads u))) []

  -- in how many places the record at w stands
  abbrev pub stands : Plan → List Waits → ℕ → ℕ
  stands g vs w = below (λ u. times w (listed u)) (units_of g) + total (λ v. waits_at w v.waiting) vs + total (λ v. chains_at w v.chains) vs

  pub record WaitSound (g : Plan) (vs : List Waits) : Type 0 where
    -- the list of a record that waits, is ready or runs is open; that of a done one only where one hand is to close it
    pub live_open : (u : ℕ) → u < units_of g → is_live (states u) ≡ true → is_open states heads u ≡ true
    pub done_open : (u : ℕ) → u < units_of g → phase_of (states u) ≡ 5 → is_open states heads u ≡ true → total (λ v. unclosed_at u v.done) vs ≡ 1
    pub done_closed : Each (λ v. Each (λ d. is_open states heads d.unit ≡ not d.closed) v.done) vs
    -- a record that waits stands in one place, and nothing else stands in any
    pub once : (w : ℕ) → stands g vs w ≡ cond (nat_lt w (units_of g)) (one_if (phase_of (states w) == 2)) 0
    -- a list begins where the head links to, and ends where its length says
    pub ends : (u : ℕ) → u < units_of g → is_open states heads u ≡ true → Follows nexts (listed u) × (link_of (heads u) ≡ link_to (listed u))
    -- so does a chain
    pub chains : Each (λ v. Each (Follows nexts) v.chains) vs
    -- a waiter in a hand has the number of its state word, and its next word is as it was linked
    pub numbers : Each (λ v. Each (λ x. x.number ≡ number_of (states x.unit)) v.waiting) vs
    pub linked : Each (λ v. Each (λ x. IsLinked nexts x.unit x.linked) v.waiting) vs
