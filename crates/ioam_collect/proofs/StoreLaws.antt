-- Laws of a store: chains of a pool under keys.
use Rattle.std.proofs.Common.{◌≡◌, ◌≢◌, ℕ, ◌+◌, ◌<◌, ◌≤◌, Bool, true, false, cond, IsTrue, List, [], ◌∷◌, ◌++◌, length, map, set, refl, sym, ap, ap₂, ◌∙◌, subst, arith, get_or, ◌⊎◌, inl, inr, Option, None, Some, length-set}
use Rattle.std.specs.Prelude.{◌↔◌, Contains, All, Result, Ok, Err, sum_by, unwrap_or, option_map}
use Rattle.std.specs.Map.{lookup, keys_of}
use Rattle.std.specs.List.{AllByRecursion}
use Rattle.std.proofs.lemmas.Bool.{cases_eq}
use Rattle.std.proofs.lemmas.List.Elements.{recursion_from_All, All-weaker}
use Rattle.std.specs.BTreeMap.{BTreeMap, get}
use Rattle.std.specs.Ordering.{is_eq}
use Rattle.std.proofs.lemmas.List.{get_or-set_same, get_or-set_other, length_push, get_or_past}
use Rattle.std.proofs.lemmas.List.Sums.{sum_by_push}
use Rattle.ioam_pool.specs.Entry.{Entry, bare}
use Rattle.ioam_pool.specs.Order.{order, placed, without, Repeats, Replaces, IsApart}
use Rattle.ioam_pool.specs.Chains.{Chains, chain_of, total}
use Rattle.ioam_pool.proofs.OrderLaws.{order_total, order_same}
use Rattle.std.specs.declared.cmp.Ordering.{Ordering}
use Rattle.std.specs.declared.cmp.Ordering.TheVariants.{Less, Equal, Greater}
use Rattle.ioam_pool.specs.Order.{placed_by}
use Rattle.std.proofs.Common.{filter, not}
use Rattle.ioam_collect.specs.Keyed.{key_cmp, IsOfRecord}
use Rattle.ioam_collect.specs.Puts.{Puts}
use Rattle.ioam_collect.specs.Gathered.{Gathered, group_in}
use Rattle.ioam_collect.specs.Inside.{gathered, IsStore}
use Rattle.ioam_collect.specs.Adds.{Adds, Turns, IsFullFor}
use Rattle.ioam_collect.specs.declared.key.Key.{Key}
use Rattle.ioam_collect.specs.declared.growing.Added.{Added}
use Rattle.ioam_collect.specs.declared.growing.Added.TheVariants.{Kept, Replaced, Repeat, Unkeyed, Full}
use Rattle.ioam_collect.proofs.KeyLaws.{key_or_not, key_itself, key_not}
use Rattle.ioam_collect.proofs.Sorting.{placed-some}

lookup-cons : {K X Y : Type 0} (test : K → Bool) (f : X → Y) (es : List (K × X)) (b : Bool) (y : Y) (x : X) → y ≡ f x
    → lookup test (map (λ e. (e.0, f e.1)) es) ≡ option_map f (lookup test es)
    → cond b (Some y) (lookup test (map (λ e. (e.0, f e.1)) es)) ≡ option_map f (cond b (Some x) (lookup test es))
lookup-cons test f es true y x is more = ap (λ v. Some v) is
lookup-cons test f es false y x is more = more

lookup-map : {K X Y : Type 0} (test : K → Bool) (f : X → Y) (es : List (K × X)) → lookup test (map (λ e. (e.0, f e.1)) es) ≡ option_map f (lookup test es)
lookup-map test f [] = refl
lookup-map test f (e ∷ es) = lookup-cons test f es (test e.0) (f e.1) e.1 refl (lookup-map test f es)

abbrev pub group_at : Chains → BTreeMap Key ℕ → ℕ → Key → List Entry
group_at pool chains limit key = group_in (gathered pool chains limit).groups key

pub group_is : (pool : Chains) (chains : BTreeMap Key ℕ) (limit : ℕ) (key : Key)
    → group_at pool chains limit key ≡ unwrap_or (option_map (chain_of pool) (get key_cmp chains key)) []
group_is pool chains limit key = ap (λ o. unwrap_or o []) (lookup-map (λ k. is_eq (key_cmp key k)) (chain_of pool) chains.entries)

pub group_some : (pool : Chains) (chains : BTreeMap Key ℕ) (limit : ℕ) (key : Key) (c : ℕ) → get key_cmp chains key ≡ Some c
    → group_at pool chains limit key ≡ chain_of pool c
group_some pool chains limit key c is = group_is pool chains limit key ∙ rw is refl

pub group_none : (pool : Chains) (chains : BTreeMap Key ℕ) (limit : ℕ) (key : Key) → get key_cmp chains key ≡ None
    → group_at pool chains limit key ≡ []
group_none pool chains limit key is = group_is pool chains limit key ∙ rw is refl

no_item : (es : List Entry) (item : Entry) → es ≡ [] → Contains es item → ⊥
no_item es item none there = let less = there.1 in let count : length es ≡ 0 = ap length none in omega arith

none_repeats : (es : List Entry) (item : Entry) → es ≡ [] → Repeats es item → ⊥
none_repeats es item none (inl there) = no_item es item none there
none_repeats es item none (inr (is, y, there, same)) = no_item es y none there

none_replaces : (es : List Entry) (item : Entry) → es ≡ [] → Replaces es item → ⊥
none_replaces es item none (full, there) = no_item es (bare item) none there

pub absent_repeats : (pool : Chains) (chains : BTreeMap Key ℕ) (limit : ℕ) (key : Key) (item : Entry) → get key_cmp chains key ≡ None
    → Repeats (group_at pool chains limit key) item → ⊥
absent_repeats pool chains limit key item is = none_repeats (group_at pool chains limit key) item (group_none pool chains limit key is)

pub absent_replaces : (pool : Chains) (chains : BTreeMap Key ℕ) (limit : ℕ) (key : Key) (item : Entry) → get key_cmp chains key ≡ None
    → Replaces (group_at pool chains limit key) item → ⊥
absent_replaces pool chains limit key item is = none_replaces (group_at pool chains limit key) item (group_none pool chains limit key is)

-- whether an item would be refused as one too many: with items under its key, with none, and with room
pub full_under : (pool : Chains) (chains : BTreeMap Key ℕ) (limit : ℕ) (key : Key) (item : Entry) (c : ℕ) → get key_cmp chains key ≡ Some c
    → total pool ≡ limit → (B : Type 0) → (B ↔ IsApart (chain_of pool c) item) → B ↔ IsFullFor (gathered pool chains limit) key item
full_under pool chains limit key item c is all B both =
    let same : group_at pool chains limit key ≡ chain_of pool c = group_some pool chains limit key c is in
    let P : List Entry → Type 0 = λ es. B ↔ (¬ (Repeats es item) × ¬ (Replaces es item) × (total pool ≡ limit)) in
    subst P (sym same) ((λ b. let apart = both.0 b in (apart.0, apart.1, all)), (λ full. both.1 (full.0, full.1)))

pub full_absent : (pool : Chains) (chains : BTreeMap Key ℕ) (limit : ℕ) (key : Key) (item : Entry) → get key_cmp chains key ≡ None
    → total pool ≡ limit → IsTrue true ↔ IsFullFor (gathered pool chains limit) key item
full_absent pool chains limit key item is all =
    ((λ b. (absent_repeats pool chains limit key item is, absent_replaces pool chains limit key item is, all)), (λ full. refl))

pub same_gathered : (pool new : Chains) (chains : BTreeMap Key ℕ) (limit : ℕ) → new.chains ≡ pool.chains → gathered new chains limit ≡ gathered pool chains limit
same_gathered pool new chains limit same =
    ap (λ (cs : List (List Entry)). gathered (record { chains = cs; capacity = 0 }) chains limit) same

-- each item is of a record, with one more and with one less
placed_by-all : (P : Entry → Type 0) (o : Ordering) (x y : Entry) (ys more : List Entry) → P x → P y → AllByRecursion P ys → AllByRecursion P more
    → AllByRecursion P (placed_by o x y ys more)
placed_by-all P Less x y ys more px py all rest = (px, (py, all))
placed_by-all P Equal x y ys more px py all rest = (py, all)
placed_by-all P Greater x y ys more px py all rest = (py, rest)

placed-all : (P : Entry → Type 0) (x : Entry) (ys : List Entry) → P x → AllByRecursion P ys → AllByRecursion P (placed order x ys)
placed-all P x [] px all = (px, tt)
placed-all P x (y ∷ ys) px all = placed_by-all P (order x y) x y ys (placed order x ys) px all.0 all.1 (placed-all P x ys px all.1)

keep-all : (P : Entry → Type 0) (b : Bool) (y : Entry) (ys : List Entry) → P y → AllByRecursion P ys → AllByRecursion P (cond b (y ∷ ys) ys)
keep-all P true y ys py all = (py, all)
keep-all P false y ys py all = all

without-all : (P : Entry → Type 0) (x : Entry) (ys : List Entry) → AllByRecursion P ys → AllByRecursion P (without x ys)
without-all P x [] all = tt
without-all P x (y ∷ ys) all = keep-all P (not (is_eq (order y x))) y (without x ys) all.0 (without-all P x ys all.1)

-- one chain has other items
module _ (pool new : Chains) (c : ℕ) (items : List Entry) (lt : c < length pool.chains) (turned : new.chains ≡ set pool.chains c items) where
  turned_length : length new.chains ≡ length pool.chains
  turned_length = ap length turned ∙ length-set pool.chains c items

  turned_here : chain_of new c ≡ items
  turned_here = ap (λ (cs : List (List Entry)). get_or cs c []) turned ∙ get_or-set_same pool.chains c items [] lt

  turned_other : (d : ℕ) → d ≢ c → chain_of new d ≡ chain_of pool d
  turned_other d other = ap (λ (cs : List (List Entry)). get_or cs d []) turned ∙ get_or-set_other pool.chains c d items [] other

  turned_some : items ≢ [] → (d : ℕ) → (d ≢ c → chain_of pool d ≢ []) → (d ≡ c) ⊎ (d ≢ c) → chain_of new d ≡ [] → ⊥
  turned_some some d was (inl same) none = some (sym turned_here ∙ ap (chain_of new) (sym same) ∙ none)
  turned_some some d was (inr other) none = was other (sym (turned_other d other) ∙ none)

  turned_each : AllByRecursion IsOfRecord items → (d : ℕ) → (d ≢ c → AllByRecursion IsOfRecord (chain_of pool d)) → (d ≡ c) ⊎ (d ≢ c)
      → AllByRecursion IsOfRecord (chain_of new d)
  turned_each all d was (inl same) = subst (AllByRecursion IsOfRecord) (sym (ap (chain_of new) same ∙ turned_here)) all
  turned_each all d was (inr other) = subst (AllByRecursion IsOfRecord) (sym (turned_other d other)) (was other)

-- a pool whose chains are as before
pub same_inside : (pool new : Chains) (chains : BTreeMap Key ℕ) (spare : Option ℕ) (limit : ℕ) → IsStore pool chains spare limit
    → new.chains ≡ pool.chains → new.capacity ≤ limit → IsStore new chains spare limit
same_inside pool new chains spare limit i same within =
    let totals : total new ≡ total pool = ap (λ cs. sum_by length cs) same in
    let lengths : length new.chains ≡ length pool.chains = ap length same in
    let held = i.held in
    let few = i.left.few in
    record {
      below = λ key c is. rw lengths (i.below key c is);
      one = i.one;
      some = λ key c is none. i.some key c is (ap (λ (cs : List (List Entry)). get_or cs c []) (sym same) ∙ none);
      each = λ key c is. subst (AllByRecursion IsOfRecord) (ap (λ (cs : List (List Entry)). get_or cs c []) (sym same)) (i.each key c is);
      left = record {
        below = λ c is. rw lengths (i.left.below c is);
        empty = λ c is. ap (λ (cs : List (List Entry)). get_or cs c []) same ∙ i.left.empty c is;
        free = i.left.free;
        few = omega arith;
      };
      capacity = within;
      held = omega arith;
      room = i.room;
    }

-- other items for a key that is there
module _ (pool new : Chains) (chains : BTreeMap Key ℕ) (spare : Option ℕ) (limit : ℕ) (i : IsStore pool chains spare limit)
    (key : Key) (c : ℕ) (is : get key_cmp chains key ≡ Some c) (within : new.capacity ≤ limit) where
  there : c < length pool.chains
  there = i.below key c is

  module _ (items : List Entry) (some : items ≢ []) (all : AllByRecursion IsOfRecord items) (turned : new.chains ≡ set pool.chains c items) (least : total pool ≤ total new) (most : total new ≤ limit) where
    turned_inside : IsStore new chains spare limit
    turned_inside =
        let lengths = turned_length pool new c items there turned in
        let few = i.left.few in
        record {
          below = λ k d at. rw lengths (i.below k d at);
          one = i.one;
          some = λ k d at. turned_some pool new c items there turned some d (λ other. i.some k d at) (cases_eq d c);
          each = λ k d at. turned_each pool new c items there turned all d (λ other. i.each k d at) (cases_eq d c);
          left = record {
            below = λ d at. rw lengths (i.left.below d at);
            empty = λ d at. turned_other pool new c items there turned d (λ same. i.left.free d at key (rw same is)) ∙ i.left.empty d at;
            free = i.left.free;
            few = omega arith;
          };
          capacity = within;
          held = most;
          room = i.room;
        }

    other_group : (other : Key) → other ≢ key → (o : Option ℕ) → get key_cmp chains other ≡ o → group_at new chains limit other ≡ group_at pool chains limit other
    other_group other apart None at = group_none new chains limit other at ∙ sym (group_none pool chains limit other at)
    other_group other apart (Some d) at =
        group_some new chains limit other d at
        ∙ turned_other pool new c items there turned d (λ same. apart (i.one other key c (rw (← same) at) is))
        ∙ sym (group_some pool chains limit other d at)

    turns : Turns (gathered pool chains limit) key items (gathered new chains limit)
    turns = record {
      here = group_some new chains limit key c is ∙ turned_here pool new c items there turned;
      others = λ other apart. other_group other apart (get key_cmp chains other) refl;
      limit = refl;
    }

  group_was : group_at pool chains limit key ≡ chain_of pool c
  group_was = group_some pool chains limit key c is

  module _ (item : Entry) (of_record : IsOfRecord item) where
    abbrev one_more : List Entry
    one_more = placed order item (chain_of pool c)

    abbrev other_one : List Entry
    other_one = placed order item (without (bare item) (chain_of pool c))

    one_some : one_more ≢ []
    one_some = placed-some order order_total order_same item (chain_of pool c)

    other_some : other_one ≢ []
    other_some = placed-some order order_total order_same item (without (bare item) (chain_of pool c))

    one_all : AllByRecursion IsOfRecord one_more
    one_all = placed-all IsOfRecord item (chain_of pool c) of_record (i.each key c is)

    other_all : AllByRecursion IsOfRecord other_one
    other_all = placed-all IsOfRecord item (without (bare item) (chain_of pool c)) of_record (without-all IsOfRecord (bare item) (chain_of pool c) (i.each key c is))

    shows : {p : Chains} → new ≡ p → new.chains ≡ p.chains
    shows same = ap (λ (p : Chains). p.chains) same

    pub put_adds : {E : Type 0} (r : Result Added E) → Puts pool limit c item r new
        → IsStore new chains spare limit × Adds (gathered pool chains limit) key item r (gathered new chains limit)
    put_adds (Ok Kept) puts =
        let below = puts.2 in
        let one = puts.4 in (
          turned_inside one_more one_some one_all puts.3 (omega arith) (omega arith),
          (rw group_was puts.0, rw group_was puts.1, below, rw group_was (turns one_more one_some one_all puts.3 (omega arith) (omega arith)), one),
        )
    put_adds (Ok Replaced) puts =
        let same = puts.3 in
        let held = i.held in (
          turned_inside other_one other_some other_all (shows puts.2) (omega arith) (omega arith),
          (rw group_was puts.0, rw group_was puts.1, rw group_was (turns other_one other_some other_all (shows puts.2) (omega arith) (omega arith)), same),
        )
    put_adds (Ok Repeat) puts = (same_inside pool new chains spare limit i (shows puts.1) within, (rw group_was puts.0, same_gathered pool new chains limit (shows puts.1)))
    put_adds (Ok Unkeyed) puts = absurd puts
    put_adds (Ok Full) puts =
        (same_inside pool new chains spare limit i (shows puts.3) within, (rw group_was puts.0, rw group_was puts.1, puts.2, same_gathered pool new chains limit (shows puts.3)))
    put_adds (Err e) puts = (same_inside pool new chains spare limit i puts within, same_gathered pool new chains limit puts)

-- the first item of a key
module _ (pool new : Chains) (chains chains' : BTreeMap Key ℕ) (limit : ℕ) (key : Key) (c : ℕ) (i : IsStore pool chains (Some c) limit)
    (none : get key_cmp chains key ≡ None) (updates : (q : Key) → get key_cmp chains' q ≡ cond (is_eq (key_cmp key q)) (Some c) (get key_cmp chains q))
    (item : Entry) (of_record : IsOfRecord item) (within : new.capacity ≤ limit) (below : total pool < limit)
    (turned : new.chains ≡ set pool.chains c (placed order item (chain_of pool c))) (one : total new ≡ total pool + 1) where
  abbrev items : List Entry
  items = placed order item (chain_of pool c)

  there' : c < length pool.chains
  there' = i.left.below c refl

  at_key : get key_cmp chains' key ≡ Some c
  at_key = updates key ∙ rw (key_itself key) refl

  at_other : (other : Key) → is_eq (key_cmp key other) ≡ false → get key_cmp chains' other ≡ get key_cmp chains other
  at_other other isnt = updates other ∙ rw isnt refl

  is_c : (q : Key) (d : ℕ) → get key_cmp chains' q ≡ Some d → key ≡ q → d ≡ c
  is_c q d at same = let here : get key_cmp chains' q ≡ Some c = rw (← same) at_key in cc (here, at)

  below_by : (q : Key) (d : ℕ) → get key_cmp chains' q ≡ Some d → (key ≡ q) ⊎ (is_eq (key_cmp key q) ≡ false) → d < length pool.chains
  below_by q d at (inl same) = rw (is_c q d at same) there'
  below_by q d at (inr isnt) = i.below q d (sym (at_other q isnt) ∙ at)

  one_by : (p q : Key) (d : ℕ) → get key_cmp chains' p ≡ Some d → get key_cmp chains' q ≡ Some d
      → (key ≡ p) ⊎ (is_eq (key_cmp key p) ≡ false) → (key ≡ q) ⊎ (is_eq (key_cmp key q) ≡ false) → p ≡ q
  one_by p q d a b (inl x) (inl y) = sym x ∙ y
  one_by p q d a b (inl x) (inr y) =
      absurd (i.left.free c refl q (sym (at_other q y) ∙ b ∙ ap (λ n. Some n) (is_c p d a x)))
  one_by p q d a b (inr x) (inl y) =
      absurd (i.left.free c refl p (sym (at_other p x) ∙ a ∙ ap (λ n. Some n) (is_c q d b y)))
  one_by p q d a b (inr x) (inr y) = i.one p q d (sym (at_other p x) ∙ a) (sym (at_other q y) ∙ b)

  some_by : (q : Key) (d : ℕ) → get key_cmp chains' q ≡ Some d → (key ≡ q) ⊎ (is_eq (key_cmp key q) ≡ false) → d ≢ c → chain_of pool d ≢ []
  some_by q d at (inl same) other = absurd (other (is_c q d at same))
  some_by q d at (inr isnt) other = i.some q d (sym (at_other q isnt) ∙ at)

  each_by : (q : Key) (d : ℕ) → get key_cmp chains' q ≡ Some d → (key ≡ q) ⊎ (is_eq (key_cmp key q) ≡ false) → d ≢ c → AllByRecursion IsOfRecord (chain_of pool d)
  each_by q d at (inl same) other = absurd (other (is_c q d at same))
  each_by q d at (inr isnt) other = i.each q d (sym (at_other q isnt) ∙ at)

  items_all : AllByRecursion IsOfRecord items
  items_all = placed-all IsOfRecord item (chain_of pool c) of_record (subst (AllByRecursion IsOfRecord) (sym (i.left.empty c refl)) tt)

  items_some : items ≢ []
  items_some = placed-some order order_total order_same item (chain_of pool c)

  pub first_inside : IsStore new chains' None limit
  first_inside =
      let lengths = turned_length pool new c items there' turned in
      let few = i.left.few in
      record {
        below = λ q d at. rw lengths (below_by q d at (key_or_not key q));
        one = λ p q d a b. one_by p q d a b (key_or_not key p) (key_or_not key q);
        some = λ q d at. turned_some pool new c items there' turned items_some d (some_by q d at (key_or_not key q)) (cases_eq d c);
        each = λ q d at. turned_each pool new c items there' turned items_all d (each_by q d at (key_or_not key q)) (cases_eq d c);
        left = record {
          below = λ d at. absurd (cc at);
          empty = λ d at. absurd (cc at);
          free = λ d at. absurd (cc at);
          few = omega arith;
        };
        capacity = within;
        held = omega arith;
        room = i.room;
      }

  other_first : (other : Key) → is_eq (key_cmp key other) ≡ false → (o : Option ℕ) → get key_cmp chains other ≡ o
      → group_at new chains' limit other ≡ group_at pool chains limit other
  other_first other isnt None at = group_none new chains' limit other (at_other other isnt ∙ at) ∙ sym (group_none pool chains limit other at)
  other_first other isnt (Some d) at =
      group_some new chains' limit other d (at_other other isnt ∙ at)
      ∙ turned_other pool new c items there' turned d (λ same. i.left.free c refl other (rw (← same) at))
      ∙ sym (group_some pool chains limit other d at)

  pub first_turns : Turns (gathered pool chains limit) key (placed order item (group_at pool chains limit key)) (gathered new chains' limit)
  first_turns = record {
    here =
        let empty : chain_of pool c ≡ [] = i.left.empty c refl in
        group_some new chains' limit key c at_key ∙ turned_here pool new c items there' turned
        ∙ ap (placed order item) (empty ∙ sym (group_none pool chains limit key none));
    others = λ other apart. other_first other (key_not key other apart) (get key_cmp chains other) refl;
    limit = refl;
  }

  -- the same over what the groups were
  pub first_over : (old : Gathered) → gathered pool chains limit ≡ old
      → Turns old key (placed order item (group_in old.groups key)) (gathered new chains' limit) × (total new ≡ old.held + 1)
  first_over old same = (
    subst (λ (g : Gathered). Turns g key (placed order item (group_in g.groups key)) (gathered new chains' limit)) same first_turns,
    one ∙ ap (λ (g : Gathered). g.held + 1) same,
  )

-- an empty chain more, kept for the next key
module _ (pool new : Chains) (chains : BTreeMap Key ℕ) (limit : ℕ) (i : IsStore pool chains None limit)
    (more : new.chains ≡ pool.chains ++ [] ∷ []) (same : new.capacity ≡ pool.capacity) where
  spare_total : total new ≡ total pool
  spare_total = ap (λ cs. sum_by length cs) more ∙ sum_by_push length pool.chains [] ∙ omega arith

  spare_length : length new.chains ≡ length pool.chains + 1
  spare_length = ap length more ∙ length_push pool.chains []

  push_none : {X : Type 0} (xs : List (List X)) (d : ℕ) → get_or (xs ++ [] ∷ []) d [] ≡ get_or xs d []
  push_none [] Rattle.std.proofs.Common.zero = refl
  push_none [] (Rattle.std.proofs.Common.suc d) = refl
  push_none (x ∷ xs) Rattle.std.proofs.Common.zero = refl
  push_none (x ∷ xs) (Rattle.std.proofs.Common.suc d) = push_none xs d

  spare_chain : (d : ℕ) → chain_of new d ≡ chain_of pool d
  spare_chain d = ap (λ (cs : List (List Entry)). get_or cs d []) more ∙ push_none pool.chains d

  pub spare_inside : IsStore new chains (Some (length pool.chains)) limit
  spare_inside =
      let totals = spare_total in
      let lengths = spare_length in
      let few = i.left.few in
      let held = i.held in
      record {
        below = λ key c is. let lt = i.below key c is in omega arith;
        one = i.one;
        some = λ key c is none. i.some key c is (sym (spare_chain c) ∙ none);
        each = λ key c is. subst (AllByRecursion IsOfRecord) (sym (spare_chain c)) (i.each key c is);
        left = record {
          below = λ c is. let at : length pool.chains ≡ c = cc is in omega arith;
          empty = λ c is. let at : length pool.chains ≡ c = cc is in let past : length pool.chains ≤ c = omega arith in spare_chain c ∙ get_or_past pool.chains c [] past;
          free = λ c is key there. let at : length pool.chains ≡ c = cc is in let lt = i.below key c there in absurd (omega arith);
          few = omega arith;
        };
        capacity = rw same i.capacity;
        held = omega arith;
        room = i.room;
      }

  abbrev shown : Chains → Key × ℕ → Key × List Entry
  shown cs e = (e.0, chain_of cs e.1)

  shown_same : (e : Key × ℕ) → shown new e ≡ shown pool e
  shown_same e = let P : List Entry → Key × List Entry = λ es. (e.0, es) in ap P (spare_chain e.1)

  map_same : (es : List (Key × ℕ)) → map (shown new) es ≡ map (shown pool) es
  map_same [] = refl
  map_same (e ∷ es) = ap₂ (λ x xs. x ∷ xs) (shown_same e) (map_same es)

  abbrev of_groups : List (Key × List Entry) → ℕ → Gathered
  of_groups groups held = record { groups = groups; held = held; limit = limit }

  pub spare_gathered : gathered new chains limit ≡ gathered pool chains limit
  spare_gathered = ap₂ of_groups (map_same chains.entries) spare_total

pub all_below : (pool : Chains) (chains : BTreeMap Key ℕ) (spare : Option ℕ) (limit : ℕ) → IsStore pool chains spare limit
    → All (λ e. get key_cmp chains e.0 ≡ Some e.1) chains.entries → AllByRecursion (λ e. e.1 < length pool.chains) chains.entries
all_below pool chains spare limit i found =
    let Found : Key × ℕ → Type 0 = λ e. get key_cmp chains e.0 ≡ Some e.1 in
    let Below : Key × ℕ → Type 0 = λ e. e.1 < length pool.chains in
    recursion_from_All Below chains.entries (All-weaker Found Below (λ e is. i.below e.0 e.1 is) chains.entries found)

pub keys_shown : (pool : Chains) (es : List (Key × ℕ)) → keys_of (map (λ e. (e.0, chain_of pool e.1)) es) ≡ keys_of es
keys_shown pool [] = refl
keys_shown pool (e ∷ es) = ap (λ ks. e.0 ∷ ks) (keys_shown pool es)

pub shown_some : (pool : Chains) (chains : BTreeMap Key ℕ) (spare : Option ℕ) (limit : ℕ) → IsStore pool chains spare limit
    → (es : List (Key × ℕ)) → AllByRecursion (λ e. get key_cmp chains e.0 ≡ Some e.1) es
    → AllByRecursion (λ (group : Key × List Entry). group.1 ≢ []) (map (λ e. (e.0, chain_of pool e.1)) es)
shown_some pool chains spare limit i [] found = tt
shown_some pool chains spare limit i (e ∷ es) found = (i.some e.0 e.1 found.0, shown_some pool chains spare limit i es found.1)

pub shown_each : (pool : Chains) (chains : BTreeMap Key ℕ) (spare : Option ℕ) (limit : ℕ) → IsStore pool chains spare limit
    → (es : List (Key × ℕ)) → AllByRecursion (λ e. get key_cmp chains e.0 ≡ Some e.1) es
    → AllByRecursion (λ (group : Key × List Entry). AllByRecursion IsOfRecord group.1) (map (λ e. (e.0, chain_of pool e.1)) es)
shown_each pool chains spare limit i [] found = tt
shown_each pool chains spare limit i (e ∷ es) found = (i.each e.0 e.1 found.0, shown_each pool chains spare limit i es found.1)
