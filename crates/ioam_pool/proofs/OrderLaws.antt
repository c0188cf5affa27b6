-- Laws of the order of entries, and of entries that can't stand beside one another.
use Rattle.std.proofs.Common.{◌≡◌, ◌≢◌, ℕ, zero, suc, Bool, List, [], ◌∷◌, ◌++◌, length, true, false, refl, sym, ap, ap₂, ◌∙◌, arith, inl, inr}
use Rattle.std.specs.Prelude.{Contains}
use Rattle.std.specs.Cmp.{IsTotalOrder}
use Rattle.std.specs.Cmp.Lexicographic.{slice_cmp}
use Rattle.std.specs.List.{AllByRecursion}
use Rattle.std.specs.Ordering.{nat_cmp, ordering_then, ordering_reverse, is_eq}
use Rattle.std.specs.declared.cmp.Ordering.{Ordering}
use Rattle.std.specs.declared.cmp.Ordering.TheVariants.{Less, Equal, Greater}
use Rattle.std.proofs.lemmas.Cmp.{nat_cmp_total, nat_list_cmp_total, on_total, then_total, back_total, tied_itself, ranked, alike_right}
use Rattle.std.proofs.lemmas.Map.Lookups.{exact_bytes}
use Rattle.std.proofs.lemmas.List.Elements.{All-contains, All-from_recursion}
use Rattle.ioam_pool.specs.Entry.{Entry, is_full, has_some, bare}
use Rattle.ioam_pool.specs.Order.{order, extras, cores, meet, IsChain, placed, without, Repeats, Replaces}

pub order_total : IsTotalOrder order
order_total = then_total (on_total (λ (e : Entry). e.hops) (back_total nat_cmp_total))
    (then_total (on_total (λ (e : Entry). e.core) nat_list_cmp_total) (on_total (λ (e : Entry). e.extra) nat_list_cmp_total))

cores_total : IsTotalOrder cores
cores_total = then_total (on_total (λ (e : Entry). e.hops) (back_total nat_cmp_total)) (on_total (λ (e : Entry). e.core) nat_list_cmp_total)

then_equal : (a b : Ordering) → ordering_then a b ≡ Equal → (a ≡ Equal) × (b ≡ Equal)
then_equal Less b e = absurd (cc e)
then_equal Equal b e = (refl, e)
then_equal Greater b e = absurd (cc e)

abbrev same_entry : ℕ → List ℕ → List ℕ → Entry
same_entry hops core extra = record { hops = hops; core = core; extra = extra }

cores_same : (a b : Entry) → cores a b ≡ Equal → (a.hops ≡ b.hops) × (a.core ≡ b.core)
cores_same a b e =
    let parts : (nat_cmp b.hops a.hops ≡ Equal) × (slice_cmp nat_cmp a.core b.core ≡ Equal) = then_equal _ _ e in
    (sym (ranked b.hops a.hops Equal (sym parts.0)), exact_bytes a.core b.core parts.1)

-- equal in the order is the same entry
pub order_same : (a b : Entry) → order a b ≡ Equal → a ≡ b
order_same a b e =
    let one : (nat_cmp b.hops a.hops ≡ Equal) × (ordering_then (slice_cmp nat_cmp a.core b.core) (slice_cmp nat_cmp a.extra b.extra) ≡ Equal) = then_equal _ _ e in
    let two : (slice_cmp nat_cmp a.core b.core ≡ Equal) × (slice_cmp nat_cmp a.extra b.extra ≡ Equal) = then_equal _ _ one.1 in
    let hops : a.hops ≡ b.hops = sym (ranked b.hops a.hops Equal (sym one.0)) in
    let core : a.core ≡ b.core = exact_bytes a.core b.core two.0 in
    let extra : a.extra ≡ b.extra = exact_bytes a.extra b.extra two.1 in
    ap (λ n. same_entry n a.core a.extra) hops ∙ ap₂ (same_entry b.hops) core extra

-- ---- entries that tie where either has no extra part

extras_back : (xs ys : List ℕ) → extras xs ys ≡ ordering_reverse (extras ys xs)
extras_back [] [] = refl
extras_back [] (y ∷ ys) = refl
extras_back (x ∷ xs) [] = refl
extras_back (x ∷ xs) (y ∷ ys) = nat_list_cmp_total.antisymm (x ∷ xs) (y ∷ ys)

extras_trans : (xs ys zs : List ℕ) → extras xs ys ≡ Less → extras ys zs ≡ Less → extras xs zs ≡ Less
extras_trans [] ys zs a b = absurd (cc a)
extras_trans (x ∷ xs) [] zs a b = absurd (cc a)
extras_trans (x ∷ xs) (y ∷ ys) [] a b = absurd (cc b)
extras_trans (x ∷ xs) (y ∷ ys) (z ∷ zs) a b = nat_list_cmp_total.trans (x ∷ xs) (y ∷ ys) (z ∷ zs) a b

pub extras_none : (xs : List ℕ) → extras xs [] ≡ Equal
extras_none [] = refl
extras_none (x ∷ xs) = refl

pub extras_there : (xs ys : List ℕ) → length xs ≢ 0 → length ys ≢ 0 → extras xs ys ≡ slice_cmp nat_cmp xs ys
extras_there [] ys some more = absurd (some refl)
extras_there (x ∷ xs) [] some more = absurd (more refl)
extras_there (x ∷ xs) (y ∷ ys) some more = refl

-- where they don't tie they are as in the dictionary
extras_less : (xs ys : List ℕ) → extras xs ys ≡ Less → slice_cmp nat_cmp xs ys ≡ Less
extras_less [] ys less = absurd (cc less)
extras_less (x ∷ xs) [] less = absurd (cc less)
extras_less (x ∷ xs) (y ∷ ys) less = less

reverse_then : (a b : Ordering) → ordering_then (ordering_reverse a) (ordering_reverse b) ≡ ordering_reverse (ordering_then a b)
reverse_then Less b = refl
reverse_then Equal b = refl
reverse_then Greater b = refl

meet_antisymm : (a b : Entry) → meet a b ≡ ordering_reverse (meet b a)
meet_antisymm a b = ap₂ ordering_then (cores_total.antisymm a b) (extras_back a.extra b.extra) ∙ reverse_then (cores b a) (extras b.extra a.extra)

trans_by : (a b c : Entry) (r s : Ordering) → cores a b ≡ r → cores b c ≡ s → ordering_then r (extras a.extra b.extra) ≡ Less
    → ordering_then s (extras b.extra c.extra) ≡ Less → meet a c ≡ Less
trans_by a b c Less Less p q x y = rw (cores_total.trans a b c p q) refl
trans_by a b c Less Equal p q x y = let same : cores a c ≡ Less = sym (alike_right cores_total b c a q) ∙ p in rw same refl
trans_by a b c Less Greater p q x y = absurd (cc y)
trans_by a b c Equal Less p q x y = let same : cores a c ≡ Less = cores_total.congr a b c p ∙ q in rw same refl
trans_by a b c Equal Equal p q x y = let same : cores a c ≡ Equal = cores_total.congr a b c p ∙ q in rw same (extras_trans a.extra b.extra c.extra x y)
trans_by a b c Equal Greater p q x y = absurd (cc y)
trans_by a b c Greater s p q x y = absurd (cc x)

pub meet_trans : (a b c : Entry) → meet a b ≡ Less → meet b c ≡ Less → meet a c ≡ Less
meet_trans a b c x y = trans_by a b c (cores a b) (cores b c) refl refl x y

pub meet_back : (a b : Entry) → meet a b ≡ Greater → meet b a ≡ Less
meet_back a b e = let r = meet_antisymm b a in rw e at r

meet_forth : (a b : Entry) → meet a b ≡ Less → meet b a ≡ Greater
meet_forth a b e = let r = meet_antisymm b a in rw e at r

pub meet_even : (a b : Entry) → meet a b ≡ Equal → meet b a ≡ Equal
meet_even a b e = let r = meet_antisymm b a in rw e at r

pub meet_cores : (a b : Entry) → cores a b ≡ Equal → extras a.extra b.extra ≡ Equal → meet a b ≡ Equal
meet_cores a b c e = rw c e

extras_itself : (xs : List ℕ) → extras xs xs ≡ Equal
extras_itself [] = refl
extras_itself (x ∷ xs) = tied_itself nat_list_cmp_total (x ∷ xs)

pub meet_itself : (a : Entry) → meet a a ≡ Equal
meet_itself a = meet_cores a a (tied_itself cores_total a) (extras_itself a.extra)

less_by : (c : Ordering) (xs ys : List ℕ) → ordering_then c (extras xs ys) ≡ Less → ordering_then c (slice_cmp nat_cmp xs ys) ≡ Less
less_by Less xs ys less = refl
less_by Equal xs ys less = extras_less xs ys less
less_by Greater xs ys less = absurd (cc less)

then_then : (a b c : Ordering) → ordering_then (ordering_then a b) c ≡ ordering_then a (ordering_then b c)
then_then Less b c = refl
then_then Equal b c = refl
then_then Greater b c = refl

-- what doesn't tie is in the order
pub meet_order : (a b : Entry) → meet a b ≡ Less → order a b ≡ Less
meet_order a b less =
    sym (then_then (nat_cmp b.hops a.hops) (slice_cmp nat_cmp a.core b.core) (slice_cmp nat_cmp a.extra b.extra))
    ∙ less_by (cores a b) a.extra b.extra less

order_forth : (a b : Entry) → order a b ≡ Less → order b a ≡ Greater
order_forth a b e = let r = order_total.antisymm b a in rw e at r

-- ---- an entry and the one without its extra part

then_none : (c : Ordering) → ordering_then c Equal ≡ c
then_none Less = refl
then_none Equal = refl
then_none Greater = refl

meet_bare : (y x : Entry) → meet y (bare x) ≡ cores y x
meet_bare y x = ap (ordering_then (cores y x)) (extras_none y.extra) ∙ then_none (cores y x)

bare_meet : (x y : Entry) → meet (bare x) y ≡ cores x y
bare_meet x y = then_none (cores x y)

less_cores : (y x : Entry) → cores y x ≡ Less → meet y x ≡ Less
less_cores y x less = rw less refl

pub ahead_full : (y x : Entry) → meet y (bare x) ≡ Less → meet y x ≡ Less
ahead_full y x less = less_cores y x (sym (meet_bare y x) ∙ less)

pub behind_full : (x y : Entry) → meet (bare x) y ≡ Less → meet x y ≡ Less
behind_full x y less = less_cores x y (sym (bare_meet x y) ∙ less)

pub bare_ties : (x : Entry) → meet (bare x) x ≡ Equal
bare_ties x = bare_meet x x ∙ tied_itself cores_total x

-- entries that tie have equal hop values and cores
tie_cores : (a b : Entry) → meet a b ≡ Equal → (cores a b ≡ Equal) × (extras a.extra b.extra ≡ Equal)
tie_cores a b e = then_equal (cores a b) (extras a.extra b.extra) e

pub tie_bare : (a b : Entry) → meet a b ≡ Equal → bare a ≡ bare b
tie_bare a b e =
    let same = cores_same a b (tie_cores a b e).0 in
    ap₂ (λ h c. same_entry h c []) same.0 same.1

none_by : (xs : List ℕ) → has_some xs ≡ false → xs ≡ []
none_by [] is = refl
none_by (x ∷ xs) is = absurd (cc is)

pub bare_itself : (e : Entry) → is_full e ≡ false → bare e ≡ e
bare_itself e is = ap (same_entry e.hops e.core) (sym (none_by e.extra is))

full_same : (xs ys : List ℕ) → has_some xs ≡ true → has_some ys ≡ true → extras xs ys ≡ Equal → xs ≡ ys
full_same [] ys a b e = absurd (cc a)
full_same (x ∷ xs) [] a b e = absurd (cc b)
full_same (x ∷ xs) (y ∷ ys) a b e = exact_bytes (x ∷ xs) (y ∷ ys) e

pub tie_full : (a b : Entry) → meet a b ≡ Equal → is_full a ≡ true → is_full b ≡ true → a ≡ b
tie_full a b e full full' =
    let parts = tie_cores a b e in
    let same = cores_same a b parts.0 in
    ap (λ n. same_entry n a.core a.extra) same.0 ∙ ap₂ (same_entry b.hops) same.1 (full_same a.extra b.extra full full' parts.1)

extras_bare : (xs ys : List ℕ) → has_some ys ≡ false → extras xs ys ≡ Equal
extras_bare xs ys is = rw (none_by ys is) (extras_none xs)

-- one of equal hop value and core ties with an entry without an extra part
pub bare_tie : (y e : Entry) → is_full e ≡ false → bare y ≡ bare e → meet y e ≡ Equal
bare_tie y e is same =
    let hops : y.hops ≡ e.hops = ap (λ (x : Entry). x.hops) same in
    let core : y.core ≡ e.core = ap (λ (x : Entry). x.core) same in
    let equal : cores y e ≡ Equal = ap₂ (λ h c. cores (same_entry h c y.extra) e) hops core ∙ tied_itself cores_total e in
    meet_cores y e equal (extras_bare y.extra e.extra is)

-- ---- chains

-- what is before the first of these is before all
all_behind : (x y : Entry) (ys : List Entry) → meet x y ≡ Less → AllByRecursion (λ z. meet y z ≡ Less) ys → AllByRecursion (λ z. meet x z ≡ Less) ys
all_behind x y [] b all = tt
all_behind x y (z ∷ zs) b all = (meet_trans x y z b all.0, all_behind x y zs b all.1)

-- an item between those before it and those behind it
abbrev pub FirstBehind : Entry → List Entry → Type 0
FirstBehind x [] = Unit {0}
FirstBehind x (y ∷ ys) = meet y x ≡ Greater

pub placed-between : (x : Entry) (front back : List Entry) → AllByRecursion (λ y. meet y x ≡ Less) front → FirstBehind x back
    → placed order x (front ++ back) ≡ front ++ x ∷ back
placed-between x [] [] passed behind = refl
placed-between x [] (y ∷ back) passed behind = let less : order x y ≡ Less = meet_order x y (meet_back y x behind) in rw less refl
placed-between x (y ∷ front) back passed behind =
    let more : order x y ≡ Greater = order_forth y x (meet_order y x passed.0) in
    rw more (ap (λ ys. y ∷ ys) (placed-between x front back passed.1 behind))

all_front : (P : Entry → Type 0) (front : List Entry) (x : Entry) (back : List Entry) → AllByRecursion P (front ++ back) → P x → AllByRecursion P (front ++ x ∷ back)
all_front P [] x back all here = (here, all)
all_front P (y ∷ front) x back all here = (all.0, all_front P front x back all.1 here)

pub chain-behind : (x : Entry) (back : List Entry) → FirstBehind x back → IsChain back → AllByRecursion (λ y. meet x y ≡ Less) back
chain-behind x [] behind ordered = tt
chain-behind x (y ∷ back) behind ordered =
    let less : meet x y ≡ Less = meet_back y x behind in
    (less, all_behind x y back less ordered.0)

pub chain-between : (x : Entry) (front back : List Entry) → AllByRecursion (λ y. meet y x ≡ Less) front → FirstBehind x back
    → IsChain (front ++ back) → IsChain (front ++ x ∷ back)
chain-between x [] back passed behind ordered = (chain-behind x back behind ordered, ordered)
chain-between x (y ∷ front) back passed behind ordered =
    (all_front (λ z. meet y z ≡ Less) front x back ordered.0 passed.0, chain-between x front back passed.1 behind ordered.1)

-- nothing ties with an item between those before it and those behind it
all_apart : (x : Entry) (back : List Entry) → AllByRecursion (λ y. meet x y ≡ Less) back → AllByRecursion (λ y. meet y x ≢ Equal) back
all_apart x [] all = tt
all_apart x (y ∷ back) all = (λ e. (let r = meet_forth x y all.0 in absurd (cc (r, e))), all_apart x back all.1)

pub none_ties : (x : Entry) (front back : List Entry) → AllByRecursion (λ y. meet y x ≡ Less) front → FirstBehind x back
    → IsChain (front ++ back) → AllByRecursion (λ y. meet y x ≢ Equal) (front ++ back)
none_ties x [] back passed behind ordered = all_apart x back (chain-behind x back behind ordered)
none_ties x (y ∷ front) back passed behind ordered =
    (λ e. absurd (cc (passed.0, e)), none_ties x front back passed.1 behind ordered.1)

not_among : (x : Entry) (es : List Entry) (y : Entry) → AllByRecursion (λ y. meet y x ≢ Equal) es → Contains es y → meet y x ≡ Equal → ⊥
not_among x es y all there e =
    let Apart : Entry → Type 0 = λ y. meet y x ≢ Equal in
    All-contains Apart es y (All-from_recursion Apart es all) there e

pub no_repeat : (x : Entry) (es : List Entry) → AllByRecursion (λ y. meet y x ≢ Equal) es → Repeats es x → ⊥
no_repeat x es all (inl there) = not_among x es x all there (meet_itself x)
no_repeat x es all (inr (is, y, there, same)) = not_among x es y all there (bare_tie y x is same)

pub no_replace : (x : Entry) (es : List Entry) → AllByRecursion (λ y. meet y x ≢ Equal) es → Replaces es x → ⊥
no_replace x es all (full, there) = not_among x es (bare x) all there (bare_ties x)

-- ---- an item in place of the one without its extra part

middle : (y z : Entry) (front back : List Entry) → AllByRecursion (λ x. meet y x ≡ Less) (front ++ z ∷ back) → meet y z ≡ Less
middle y z [] back all = all.0
middle y z (w ∷ front) back all = middle y z front back all.1

pub chain-front : (z : Entry) (front back : List Entry) → IsChain (front ++ z ∷ back)
    → AllByRecursion (λ y. meet y z ≡ Less) front × AllByRecursion (λ y. meet z y ≡ Less) back
chain-front z [] back ordered = (tt, ordered.0)
chain-front z (y ∷ front) back ordered =
    let rest = chain-front z front back ordered.1 in
    ((middle y z front back ordered.0, rest.0), rest.1)

all_full : (x : Entry) (es : List Entry) → AllByRecursion (λ y. meet y (bare x) ≡ Less) es → AllByRecursion (λ y. meet y x ≡ Less) es
all_full x [] all = tt
all_full x (y ∷ es) all = (ahead_full y x all.0, all_full x es all.1)

first_behind : (x : Entry) (es : List Entry) → AllByRecursion (λ y. meet (bare x) y ≡ Less) es → FirstBehind x es
first_behind x [] all = tt
first_behind x (y ∷ es) all = meet_forth x y (behind_full x y all.0)

all_less : (P : Entry → Type 0) (front : List Entry) (z : Entry) (back : List Entry) → AllByRecursion P (front ++ z ∷ back) → AllByRecursion P (front ++ back)
all_less P [] z back all = all.1
all_less P (y ∷ front) z back all = (all.0, all_less P front z back all.1)

chain-less : (z : Entry) (front back : List Entry) → IsChain (front ++ z ∷ back) → IsChain (front ++ back)
chain-less z [] back ordered = ordered.1
chain-less z (y ∷ front) back ordered = (all_less (λ x. meet y x ≡ Less) front z back ordered.0, chain-less z front back ordered.1)

module _ (x : Entry) (front back : List Entry) (ordered : IsChain (front ++ bare x ∷ back)) where
  passed : AllByRecursion (λ y. meet y x ≡ Less) front
  passed = all_full x front (chain-front (bare x) front back ordered).0

  behind : FirstBehind x back
  behind = first_behind x back (chain-front (bare x) front back ordered).1

  apart : AllByRecursion (λ y. meet y x ≢ Equal) (front ++ back)
  apart = none_ties x front back passed behind (chain-less (bare x) front back ordered)

  pub chain-instead : IsChain (front ++ x ∷ back)
  chain-instead = chain-between x front back passed behind (chain-less (bare x) front back ordered)

  pub placed-instead : placed order x (front ++ back) ≡ front ++ x ∷ back
  placed-instead = placed-between x front back passed behind

pub eq_equal : (o : Ordering) → is_eq o ≡ true → o ≡ Equal
eq_equal Less e = absurd (cc e)
eq_equal Equal e = refl
eq_equal Greater e = absurd (cc e)

differs : (y z : Entry) (b : Bool) → is_eq (order y z) ≡ b → (y ≡ z → ⊥) → is_eq (order y z) ≡ false
differs y z true is other = absurd (other (order_same y z (eq_equal (order y z) is)))
differs y z false is other = is

pub order_itself : (e : Entry) → is_eq (order e e) ≡ true
order_itself e = ap is_eq (tied_itself order_total e)

less_apart : (y z : Entry) → meet y z ≡ Less → y ≡ z → ⊥
less_apart y z less same = let itself = meet_itself z in let there : meet z z ≡ Less = rw same at less in absurd (cc (itself, there))

without-back : (z : Entry) (ys : List Entry) → AllByRecursion (λ y. meet z y ≡ Less) ys → without z ys ≡ ys
without-back z [] all = refl
without-back z (y ∷ ys) all =
    let other : is_eq (order y z) ≡ false = differs y z (is_eq (order y z)) refl (λ same. less_apart z y all.0 (sym same)) in
    rw other (ap (λ es. y ∷ es) (without-back z ys all.1))

without-by : (z : Entry) (front back : List Entry) → AllByRecursion (λ y. meet y z ≡ Less) front → AllByRecursion (λ y. meet z y ≡ Less) back
    → without z (front ++ z ∷ back) ≡ front ++ back
without-by z [] back before after = rw (order_itself z) (without-back z back after)
without-by z (y ∷ front) back before after =
    let other : is_eq (order y z) ≡ false = differs y z (is_eq (order y z)) refl (less_apart y z before.0) in
    rw other (ap (λ es. y ∷ es) (without-by z front back before.1 after))

pub without-middle : (z : Entry) (front back : List Entry) → IsChain (front ++ z ∷ back) → without z (front ++ z ∷ back) ≡ front ++ back
without-middle z front back ordered =
    let parts = chain-front z front back ordered in
    without-by z front back parts.0 parts.1

-- the entry with its extra part isn't on a chain with the one without
repeat_at : (x : Entry) (front back : List Entry) → IsChain (front ++ bare x ∷ back) → is_full x ≡ true → Contains (front ++ bare x ∷ back) x → ⊥
repeat_at x [] back ordered full (zero, lt, same) =
    let not_so : is_full x ≡ false = ap is_full (sym same) in absurd (cc (full, not_so))
repeat_at x [] back ordered full (suc k, lt, same) =
    let Behind : Entry → Type 0 = λ y. meet (bare x) y ≡ Less in
    let less : meet (bare x) x ≡ Less = All-contains Behind back x (All-from_recursion Behind back ordered.0) (k, omega arith, same) in
    absurd (cc (less, bare_ties x))
repeat_at x (y ∷ front) back ordered full (zero, lt, same) =
    let less : meet y (bare x) ≡ Less = (chain-front (bare x) (y ∷ front) back ordered).0.0 in
    let there : meet x (bare x) ≡ Less = rw same at less in
    let tied : meet x (bare x) ≡ Equal = meet_even (bare x) x (bare_ties x) in
    absurd (cc (there, tied))
repeat_at x (y ∷ front) back ordered full (suc k, lt, same) = repeat_at x front back ordered.1 full (k, omega arith, same)

pub no_repeat-instead : (x : Entry) (front back : List Entry) → IsChain (front ++ bare x ∷ back) → is_full x ≡ true → Repeats (front ++ bare x ∷ back) x → ⊥
no_repeat-instead x front back ordered full (inl there) = repeat_at x front back ordered full there
no_repeat-instead x front back ordered full (inr more) = absurd (cc (full, more.0))

-- a chain is in the order too
all_order : (x : Entry) (es : List Entry) → AllByRecursion (λ y. meet x y ≡ Less) es → AllByRecursion (λ y. order x y ≡ Less) es
all_order x [] all = tt
all_order x (y ∷ es) all = (meet_order x y all.0, all_order x es all.1)

pub chain_in_order : (es : List Entry) → IsChain es → Rattle.ioam_pool.specs.Order.IsInOrder order es
chain_in_order [] c = tt
chain_in_order (x ∷ es) c = (all_order x es c.0, chain_in_order es c.1)
