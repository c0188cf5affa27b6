-- Laws of chains in cells.
use Rattle.std.proofs.Common.{◌≡◌, ◌≢◌, ℕ, ◌+◌, ◌<◌, ◌≤◌, zero, suc, List, [], ◌∷◌, ◌++◌, length, map, set, refl, sym, ap, ap₂, ◌∙◌, arith, inl, inr, Option, None, Some, length-set, append_assoc}
use Rattle.std.proofs.lemmas.Bool.Decides.{nat_tests}
use Rattle.std.proofs.lemmas.List.{get_or-set_same, get_or-set_other}
use Rattle.ioam_pool.specs.Entry.{Entry}
use Rattle.ioam_pool.specs.Cells.{blank, cell_at, entry_at, walked, Chained, times, linked_in, head_then, IsLast}
use Rattle.ioam_pool.specs.declared.cells.Cell.{Cell}

-- a chain is what is walked
pub walked-is : (n : ℕ) (cells : List Cell) (at : Option ℕ) (is : List ℕ) → Chained cells at is → length is ≤ n
    → walked n cells at ≡ map (entry_at cells) is
walked-is zero cells at [] c s = refl
walked-is (suc n) cells at [] c s = rw c refl
walked-is zero cells at (i ∷ is) c s = absurd (omega arith)
walked-is (suc n) cells at (i ∷ is) c s =
    rw c.0 (ap (λ es. entry_at cells i ∷ es) (walked-is n cells (cell_at cells i).next is c.2 (omega arith)))

-- from one cell on stands one chain
pub Chained-unique : (cells : List Cell) (at : Option ℕ) (is js : List ℕ) → Chained cells at is → Chained cells at js → is ≡ js
Chained-unique cells at [] [] a b = refl
Chained-unique cells at [] (j ∷ js) a b = absurd (cc (a, b.0))
Chained-unique cells at (i ∷ is) [] a b = absurd (cc (a.0, b))
Chained-unique cells at (i ∷ is) (j ∷ js) a b =
    let same : i ≡ j = cc (a.0, b.0) in
    let there : Chained cells (cell_at cells i).next js = rw same b.2 in
    ap₂ (λ x xs. x ∷ xs) same (Chained-unique cells (cell_at cells i).next is js a.2 there)

-- a chain that begins
pub split_first : (cells : List Cell) (at : ℕ) (is : List ℕ) → Chained cells (Some at) is
    → (rest : List ℕ) × (is ≡ at ∷ rest) × (at < length cells) × Chained cells (cell_at cells at).next rest
split_first cells at [] c = absurd (cc c)
split_first cells at (i ∷ rest) c =
    let same : i ≡ at = sym (cc c.0) in
    (rest, ap (λ x. x ∷ rest) same, rw (← same) c.1, rw (← same) c.2)

-- a number that doesn't stand in a list isn't its first
pub apart : (i j : ℕ) (js : List ℕ) → times i (j ∷ js) ≡ 0 → j ≢ i
apart i j js none = λ same. absurd (grind (arith, nat_tests))

pub none_behind : (i j : ℕ) (js : List ℕ) → times i (j ∷ js) ≡ 0 → times i js ≡ 0
none_behind i j js none = omega arith

pub times-append : (i : ℕ) (xs ys : List ℕ) → times i (xs ++ ys) ≡ times i xs + times i ys
times-append i [] ys = omega arith
times-append i (x ∷ xs) ys = omega (arith, times-append i xs ys)

pub times-itself : (i : ℕ) (is : List ℕ) → times i (i ∷ is) ≡ 1 + times i is
times-itself i is = grind (arith, nat_tests)

times-other : (i j : ℕ) (js : List ℕ) → j ≢ i → times i js ≡ 0 → times i (j ∷ js) ≡ 0
times-other i j js other none = grind (arith, nat_tests)

-- a write to a cell that isn't on a chain leaves the chain
pub Chained-set : (cells : List Cell) (j : ℕ) (x : Cell) (at : Option ℕ) (is : List ℕ) → times j is ≡ 0
    → Chained cells at is → Chained (set cells j x) at is
Chained-set cells j x at [] none c = c
Chained-set cells j x at (i ∷ is) none c =
    let other = get_or-set_other cells j i x blank (apart j i is none) in
    let in_range : i < length (set cells j x) = rw length-set c.1 in
    (c.0, in_range, rw other (Chained-set cells j x (cell_at cells i).next is (none_behind j i is none) c.2))

-- a write to a cell on a chain, behind which then stands another list
pub Chained-turn : (cells : List Cell) (b : ℕ) (x : Cell) (at : Option ℕ) (front back rest : List ℕ) → times b front ≡ 0
    → Chained cells at (front ++ b ∷ back) → Chained (set cells b x) x.next rest
    → Chained (set cells b x) at (front ++ b ∷ rest)
Chained-turn cells b x at [] back rest none c r =
    let same = get_or-set_same cells b x blank c.1 in
    let in_range : b < length (set cells b x) = rw length-set c.1 in
    (c.0, in_range, rw same r)
Chained-turn cells b x at (i ∷ front) back rest none c r =
    let other = get_or-set_other cells b i x blank (apart b i front none) in
    let in_range : i < length (set cells b x) = rw length-set c.1 in
    (c.0, in_range, rw other (Chained-turn cells b x (cell_at cells i).next front back rest (none_behind b i front none) c.2 r))

-- what stands behind a cell of a chain
pub Chained-behind : (cells : List Cell) (b : ℕ) (at : Option ℕ) (front back : List ℕ)
    → Chained cells at (front ++ b ∷ back) → (b < length cells) × Chained cells (cell_at cells b).next back
Chained-behind cells b at [] back c = (c.1, c.2)
Chained-behind cells b at (i ∷ front) back c = Chained-behind cells b (cell_at cells i).next front back c.2

-- the entries of cells that aren't written to
pub entries-set : (cells : List Cell) (j : ℕ) (x : Cell) (is : List ℕ) → times j is ≡ 0
    → map (entry_at (set cells j x)) is ≡ map (entry_at cells) is
entries-set cells j x [] none = refl
entries-set cells j x (i ∷ is) none =
    let other : cell_at (set cells j x) i ≡ cell_at cells i = get_or-set_other cells j i x blank (apart j i is none) in
    ap₂ (λ e es. e ∷ es) (ap (λ (cell : Cell). cell.item) other) (entries-set cells j x is (none_behind j i is none))

-- a write that leaves a cell's entry leaves all entries
entry-kept : (cells : List Cell) (j : ℕ) (next : Option ℕ) (i : ℕ) → j < length cells
    → entry_at (set cells j (record { item = entry_at cells j; next = next })) i ≡ entry_at cells i
entry-kept cells j next i lt = elim (Rattle.std.proofs.lemmas.Bool.cases_eq i j) [
  | inl same ↦ rw same (ap (λ (cell : Cell). cell.item) (get_or-set_same cells j (record { item = entry_at cells j; next = next }) blank lt))
  | inr other ↦ ap (λ (cell : Cell). cell.item) (get_or-set_other cells j i (record { item = entry_at cells j; next = next }) blank other)
]

pub entries-kept : (cells : List Cell) (j : ℕ) (next : Option ℕ) (is : List ℕ) → j < length cells
    → map (entry_at (set cells j (record { item = entry_at cells j; next = next }))) is ≡ map (entry_at cells) is
entries-kept cells j next [] lt = refl
entries-kept cells j next (i ∷ is) lt = ap₂ (λ e es. e ∷ es) (entry-kept cells j next i lt) (entries-kept cells j next is lt)

-- the cell behind which an item goes isn't on the list
abbrev pub Misses : Option ℕ → List ℕ → Type 0
Misses None is = Unit {0}
Misses (Some b) is = times b is ≡ 0

abbrev pub Inside : Option ℕ → List Cell → Type 0
Inside None cells = Unit {0}
Inside (Some b) cells = b < length cells

abbrev pub Once : Option ℕ → List ℕ → Type 0
Once None is = Unit {0}
Once (Some b) is = times b is ≤ 1

module _ (cells : List Cell) (head : Option ℕ) (at : ℕ) (item : Entry) where
  pub linked-length : (before : Option ℕ) → length (linked_in cells head before at item) ≡ length cells
  linked-length None = length-set cells at (record { item = item; next = head })
  linked-length (Some b) = simp length-set refl

  -- the chains on which neither cell stands are as before
  pub linked-frame : (before from : Option ℕ) (is : List ℕ) → times at is ≡ 0 → Misses before is → Chained cells from is
      → Chained (linked_in cells head before at item) from is
  linked-frame None from is none misses c = Chained-set cells at (record { item = item; next = head }) from is none c
  linked-frame (Some b) from is none misses c =
      Chained-set _ b _ from is misses (Chained-set cells at (record { item = item; next = (cell_at cells b).next }) from is none c)

  -- the entries of the other cells too
  pub linked-entries : (before : Option ℕ) (is : List ℕ) → times at is ≡ 0 → Inside before cells
      → map (entry_at (linked_in cells head before at item)) is ≡ map (entry_at cells) is
  linked-entries None is none inside = entries-set cells at (record { item = item; next = head }) is none
  linked-entries (Some b) is none inside =
      let cell : Cell = record { item = item; next = (cell_at cells b).next } in
      let lt : b < length (set cells at cell) = rw length-set inside in
      entries-kept (set cells at cell) b (Some at) is lt ∙ entries-set cells at cell is none

  pub linked-item : (before : Option ℕ) → at < length cells → Inside before cells → entry_at (linked_in cells head before at item) at ≡ item
  linked-item None lt inside = ap (λ (c : Cell). c.item) (get_or-set_same cells at (record { item = item; next = head }) blank lt)
  linked-item (Some b) lt inside =
      let cell : Cell = record { item = item; next = (cell_at cells b).next } in
      let lt' : b < length (set cells at cell) = rw length-set inside in
      entry-kept (set cells at cell) b (Some at) at lt' ∙ ap (λ (c : Cell). c.item) (get_or-set_same cells at cell blank lt)

  linked_behind : (b : ℕ) (init back : List ℕ) → Chained cells head (init ++ b ∷ back) → times at (init ++ b ∷ back) ≡ 0
      → times b (init ++ b ∷ back) ≤ 1 → at < length cells
      → Chained (linked_in cells head (Some b) at item) head (init ++ b ∷ at ∷ back)
  linked_behind b init back c none once lt =
      let cell : Cell = record { item = item; next = (cell_at cells b).next } in
      let more : List Cell = set cells at cell in
      let x : Cell = record { item = entry_at more b; next = Some at } in
      let b_once : times b init + (1 + times b back) ≤ 1 = rw (times-append b init (b ∷ back), times-itself b back) at once in
      let at_none : times at init + times at (b ∷ back) ≡ 0 = sym (times-append at init (b ∷ back)) ∙ none in
      let at_back : times at (b ∷ back) ≡ 0 = omega arith in
      let b_init : times b init ≡ 0 = omega arith in
      let b_back : times b back ≡ 0 = omega arith in
      let b_rest : times b (at ∷ back) ≡ 0 = times-other b at back (λ same. apart at b back at_back (sym same)) b_back in
      let tail : Chained cells (cell_at cells b).next back = (Chained-behind cells b head init back c).1 in
      let tail' : Chained more (cell_at cells b).next back = Chained-set cells at cell (cell_at cells b).next back (none_behind at b back at_back) tail in
      let in_range : at < length more = rw length-set lt in
      let begins : (cell_at more at).next ≡ (cell_at cells b).next = ap (λ (c : Cell). c.next) (get_or-set_same cells at cell blank lt) in
      let rest : Chained more (Some at) (at ∷ back) = (refl, in_range, rw begins tail') in
      Chained-turn more b x head init back (at ∷ back) b_init (Chained-set cells at cell head (init ++ b ∷ back) none c)
      (Chained-set more b x (Some at) (at ∷ back) b_rest rest)

  -- and the chain itself has the cell in its place
  pub linked-chain : (before : Option ℕ) (front back : List ℕ) → IsLast before front → Chained cells head (front ++ back)
      → times at (front ++ back) ≡ 0 → Once before (front ++ back) → at < length cells
      → Chained (linked_in cells head before at item) (head_then head before at) (front ++ at ∷ back)
  linked-chain None front back last c none once lt =
      let c' : Chained cells head back = rw last at c in
      let none' : times at back ≡ 0 = rw last at none in
      let cell : Cell = record { item = item; next = head } in
      let begins = get_or-set_same cells at cell blank lt in
      let in_range : at < length (set cells at cell) = rw length-set lt in
      rw last (refl, in_range, rw begins (Chained-set cells at cell head back none' c'))
  linked-chain (Some b) front back last c none once lt =
      let split : front ++ back ≡ last.0 ++ b ∷ back = ap (λ xs. xs ++ back) last.1 ∙ append_assoc last.0 (b ∷ []) back in
      let joined : front ++ at ∷ back ≡ last.0 ++ b ∷ at ∷ back = ap (λ xs. xs ++ at ∷ back) last.1 ∙ append_assoc last.0 (b ∷ []) (at ∷ back) in
      rw joined (linked_behind b last.0 back (rw split at c) (rw split at none) (rw split at once) lt)
