-- Each word has an address of its own, and writing there writes that word alone.
use Rattle.std.proofs.Common.{◌≡◌, ◌≢◌, ◌∙◌, inl, inr, ℕ, zero, suc, ◌+◌, ◌*◌, ◌<◌, ◌≤◌, Bool, true, false, cond, ◌==◌, ◌&&◌, List, [], ◌∷◌, length, refl, sym, ap, subst, mul-le-mul_right, suc-mul, mul_comm, true≢false, arith, get_or, get_or-set_same, get_or-set_other}
use Rattle.std.specs.Prelude.{slice_index, slice_set, nat_lt}
use Rattle.std.proofs.lemmas.Bool.{cases_order, eqb-true, eq-eqb, ltb-true, lt-ltb, and_parts, and_from}
use Rattle.kt_words.specs.declared.plan.Plan.{Plan}
use Rattle.table_core.specs.Addresses.{Addr, super, bits, state, refs, head, next, task, outcome, arena, root, journal, evidence, sum, kind, major, minor, rows, widths, start, address, words_of, is_there, is_same, Mem, mem_of, put}

-- the rows of the next kind begin where those of this one end
start-zero : (rs ws : List ℕ) → start rs ws 0 ≡ 0
start-zero [] ws = refl
start-zero (r ∷ rs) [] = refl
start-zero (r ∷ rs) (w ∷ ws) = refl

start-next : (rs ws : List ℕ) (k : ℕ) → k < length rs → k < length ws → start rs ws (suc k) ≡ start rs ws k + slice_index rs k * slice_index ws k
start-next [] ws k a b = absurd (omega arith)
start-next (r ∷ rs) [] k a b = absurd (omega arith)
start-next (r ∷ rs) (w ∷ ws) zero a b = omega (arith, start-zero rs ws)
start-next (r ∷ rs) (w ∷ ws) (suc k) a b = omega (arith, start-next rs ws k (omega arith) (omega arith))

start-rises : (rs ws : List ℕ) (j k : ℕ) → j ≤ k → start rs ws j ≤ start rs ws k
start-rises [] ws j k le = omega arith
start-rises (r ∷ rs) [] j k le = omega arith
start-rises (r ∷ rs) (w ∷ ws) zero k le = omega arith
start-rises (r ∷ rs) (w ∷ ws) (suc j) zero le = absurd (omega arith)
start-rises (r ∷ rs) (w ∷ ws) (suc j) (suc k) le = omega (arith, start-rises rs ws j k (omega arith))

-- a row lies among the rows of its kind
in_rows : (r w row column : ℕ) → row < r → column < w → w * row + column < r * w
in_rows r w row column below within =
    let up_to : suc row * w ≤ r * w = mul-le-mul_right w (omega arith) in
    omega (arith, up_to, suc-mul row w, mul_comm w row)

one_row : (w row column row' column' : ℕ) → column < w → column' < w → w * row + column ≡ w * row' + column' → (row ≡ row') × (column ≡ column')
one_row w row column row' column' in' in'' same = elim (cases_order row row') [
  | inl e ↦ (e, omega (arith, ap (λ (n : ℕ). w * n) e))
  | inr more ↦ elim more [
    | inl lt ↦ let up_to : suc row * w ≤ row' * w = mul-le-mul_right w (omega arith) in
        absurd (omega (arith, up_to, suc-mul row w, mul_comm w row, mul_comm w row'))
    | inr gt ↦ let up_to : suc row' * w ≤ row * w = mul-le-mul_right w (omega arith) in
        absurd (omega (arith, up_to, suc-mul row' w, mul_comm w row, mul_comm w row'))
  ]
]

module _ (rs ws : List ℕ) where
  abbrev lies : ℕ → ℕ → ℕ → ℕ
  lies k row column = start rs ws k + (slice_index ws k * row + column)

  -- a word lies before the rows of any later kind
  before : (k n row column : ℕ) → k < length rs → k < length ws → k < n → row < slice_index rs k → column < slice_index ws k
      → lies k row column < start rs ws n
  before k n row column a b lt below within =
      omega (arith, in_rows (slice_index rs k) (slice_index ws k) row column below within, start-next rs ws k a b, start-rises rs ws (suc k) n (omega arith))

  -- two words at one address are one word
  one_place : (k row column k' row' column' : ℕ) → k < length rs → k < length ws → k' < length rs → k' < length ws
      → row < slice_index rs k → column < slice_index ws k → row' < slice_index rs k' → column' < slice_index ws k'
      → lies k row column ≡ lies k' row' column' → (k ≡ k') × (row ≡ row') × (column ≡ column')
  one_place k row column k' row' column' a b a' b' below within below' within' same = elim (cases_order k k') [
    | inl e ↦
        let here : column' < slice_index ws k = subst (λ (j : ℕ). column' < slice_index ws j) (sym e) within' in
        let there : lies k row column ≡ lies k row' column' = same ∙ ap (λ (j : ℕ). lies j row' column') (sym e) in
        let t = one_row (slice_index ws k) row column row' column' within here (omega (arith, there)) in (e, t.0, t.1)
    | inr more ↦ elim more [
      | inl lt ↦ absurd (omega (arith, before k k' row column a b lt below within))
      | inr gt ↦ absurd (omega (arith, before k' k row' column' a' b' gt below' within'))
    ]
  ]

kind-below : (a : Addr) → kind a < 13
kind-below (super i) = omega arith
kind-below (bits i j) = omega arith
kind-below (state u) = omega arith
kind-below (refs u) = omega arith
kind-below (head u) = omega arith
kind-below (next u) = omega arith
kind-below (task u) = omega arith
kind-below (outcome u) = omega arith
kind-below (arena k) = omega arith
kind-below (root r) = omega arith
kind-below (journal n j) = omega arith
kind-below (evidence i) = omega arith
kind-below (sum k) = omega arith

-- words that are the same have one kind, column and row
same_parts : (a b : Addr) → is_same a b ≡ true → (kind a ≡ kind b) × (minor a ≡ minor b) × (major a ≡ major b)
same_parts a b same =
    let t = and_parts (kind a == kind b) ((minor a == minor b) && (major a == major b)) same in let t' = and_parts (minor a == minor b) (major a == major b) t.1 in
    (eqb-true (kind a) (kind b) t.0, eqb-true (minor a) (minor b) t'.0, eqb-true (major a) (major b) t'.1)

module _ (g : Plan) where
  there_parts : (a : Addr) → is_there g a ≡ true → (major a < slice_index (rows g) (kind a)) × (minor a < slice_index (widths g) (kind a))
  there_parts a there =
      let t = and_parts (nat_lt (major a) (slice_index (rows g) (kind a))) (nat_lt (minor a) (slice_index (widths g) (kind a))) there in
      (ltb-true (major a) (slice_index (rows g) (kind a)) t.0, ltb-true (minor a) (slice_index (widths g) (kind a)) t.1)

  -- an address whose row and place in the row are in range is in the table
  pub there_from : (a : Addr) → major a < slice_index (rows g) (kind a) → minor a < slice_index (widths g) (kind a) → is_there g a ≡ true
  there_from a below within = and_from _ _ (lt-ltb (major a) (slice_index (rows g) (kind a)) below) (lt-ltb (minor a) (slice_index (widths g) (kind a)) within)

  -- the word of an address in the table lies below the number of words
  pub address-in : (a : Addr) → is_there g a ≡ true → address g a < words_of g
  address-in a there = let t = there_parts a there in before (rows g) (widths g) (kind a) 13 (major a) (minor a) (kind-below a) (kind-below a) (kind-below a) t.0 t.1

  -- two words that the table has at one address are one
  same-address : (a b : Addr) → is_there g a ≡ true → is_there g b ≡ true → address g a ≡ address g b → is_same a b ≡ true
  same-address a b there there' same =
      let t = there_parts a there in let t' = there_parts b there' in
      let one = one_place (rows g) (widths g) (kind a) (major a) (minor a) (kind b) (major b) (minor b) (kind-below a) (kind-below a) (kind-below b) (kind-below b) t.0 t.1 t'.0 t'.1 same in
      and_from (kind a == kind b) _ (eq-eqb (kind a) (kind b) one.0) (and_from (minor a == minor b) (major a == major b) (eq-eqb (minor a) (minor b) one.2) (eq-eqb (major a) (major b) one.1))

  -- a word and its like are there alike, at one address
  abbrev there_at : ℕ → ℕ → ℕ → Bool
  there_at k row column = nat_lt row (slice_index (rows g) k) && nat_lt column (slice_index (widths g) k)

  same_there : (a b : Addr) → is_same a b ≡ true → (is_there g a ≡ is_there g b) × (address g a ≡ address g b)
  same_there a b same =
      let t = same_parts a b same in (
        (λ i. there_at (t.0 i) (t.2 i) (t.1 i)),
        (λ i. lies (rows g) (widths g) (t.0 i) (t.2 i) (t.1 i)),
      )

  -- one word is written where it lies: the others stay
  pub mem-put : (ws : List ℕ) (a : Addr) (n : ℕ) → length ws ≡ words_of g → is_there g a ≡ true
      → mem_of g (slice_set ws (address g a) n) ≡ put (mem_of g ws) a n
  mem-put ws a n long there = λ i b. at b (is_same a b) refl (is_there g b) refl i
    where
      at : (b : Addr) (s : Bool) → is_same a b ≡ s → (t : Bool) → is_there g b ≡ t
          → cond (is_there g b) (slice_index (slice_set ws (address g a) n) (address g b)) 0 ≡ cond (is_same a b) n (cond (is_there g b) (slice_index ws (address g b)) 0)
      at b true s t e =
          let same = same_there a b s in
          let here : is_there g b ≡ true = sym same.0 ∙ there in
          ap (λ (x : Bool). cond x (slice_index (slice_set ws (address g a) n) (address g b)) 0) here
          ∙ ap (λ (k : ℕ). slice_index (slice_set ws (address g a) n) k) (sym same.1)
          ∙ get_or-set_same ws (address g a) n 0 (omega (arith, long, address-in a there))
          ∙ ap (λ (x : Bool). cond x n (cond (is_there g b) (slice_index ws (address g b)) 0)) (sym s)
      at b false s true e =
          let apart : address g b ≢ address g a = λ x. true≢false (sym (same-address a b there e (sym x)) ∙ s) in
          ap (λ (x : ℕ). cond (is_there g b) x 0) (get_or-set_other ws (address g a) (address g b) n 0 apart)
          ∙ ap (λ (x : Bool). cond x n (cond (is_there g b) (slice_index ws (address g b)) 0)) (sym s)
      at b false s false e =
          ap (λ (x : Bool). cond x (slice_index (slice_set ws (address g a) n) (address g b)) 0) e
          ∙ ap (λ (x : Bool). cond x (slice_index ws (address g b)) 0) (sym e)
          ∙ ap (λ (x : Bool). cond x n (cond (is_there g b) (slice_index ws (address g b)) 0)) (sym s)

  -- what is read at an address is the word that lies there
  pub mem_at : (ws : List ℕ) (a : Addr) → is_there g a ≡ true → mem_of g ws a ≡ slice_index ws (address g a)
  mem_at ws a there = ap (λ (x : Bool). cond x (slice_index ws (address g a)) 0) there

-- a word is told by its kind, its row and its column
abbrev rebuilt : ℕ → ℕ → ℕ → Addr
rebuilt k column row = get_or (super row ∷ bits row column ∷ state row ∷ refs row ∷ head row ∷ next row ∷ task row ∷ outcome row ∷ arena row ∷ root row ∷ journal row column ∷ evidence row ∷ sum row ∷ []) k (super row)

rebuilt-kind : (a : Addr) → rebuilt (kind a) (minor a) (major a) ≡ a
rebuilt-kind (super i) = refl
rebuilt-kind (bits i j) = refl
rebuilt-kind (state u) = refl
rebuilt-kind (refs u) = refl
rebuilt-kind (head u) = refl
rebuilt-kind (next u) = refl
rebuilt-kind (task u) = refl
rebuilt-kind (outcome u) = refl
rebuilt-kind (arena k) = refl
rebuilt-kind (root r) = refl
rebuilt-kind (journal n j) = refl
rebuilt-kind (evidence i) = refl
rebuilt-kind (sum k) = refl

-- two words that are the same are one
pub same-is : (a b : Addr) → is_same a b ≡ true → a ≡ b
same-is a b same = let t = same_parts a b same in sym (rebuilt-kind a) ∙ (λ i. rebuilt (t.0 i) (t.1 i) (t.2 i)) ∙ rebuilt-kind b

-- a word that is written as it was
pub put-again : (m : Mem) (a : Addr) → put m a (m a) ≡ m
put-again m a = λ i b. at b (is_same a b) refl i
  where
    at : (b : Addr) (s : Bool) → is_same a b ≡ s → put m a (m a) b ≡ m b
    at b true s = ap (λ (x : Bool). cond x (m a) (m b)) s ∙ ap m (same-is a b s)
    at b false s = ap (λ (x : Bool). cond x (m a) (m b)) s
