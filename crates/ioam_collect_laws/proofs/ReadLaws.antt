-- The records that were read, by the arrivals that they are of.
use Rattle.std.proofs.Common.{◌≡◌, ℕ, ◌<◌, zero, suc, Bool, true, false, cond, List, [], ◌∷◌, ◌++◌, map, Option, Some, None, slice_get, refl, sym, ap, ap₂, ◌∙◌, subst, arith, ◌⊎◌, inl, inr}
use Rattle.std.specs.Prelude.{Contains, unwrap_or}
use Rattle.std.specs.List.{AllByRecursion, flat_map}
use Rattle.std.proofs.lemmas.Bool.{cases_Bool}
use Rattle.ioam_run_texts.specs.Sample.{Sample}
use Rattle.ioam_collect.specs.Best.{best, group, groups_of, keys_in, kept_of, of_key, outdone, pair_cmp}
use Rattle.ioam_collect.specs.Keyed.{core_of, key_cmp, keyed, keyed_of, with_keyed}
use Rattle.ioam_collect.specs.declared.key.Key.{Key}
use Rattle.ioam_collect.proofs.Members.{Has, all_at, contains_from, has_from, has_map, map_has}
use Rattle.ioam_collect.proofs.Sorting.{arranged-has, has-arranged}
use Rattle.ioam_collect.proofs.KeyLaws.{key_same, key_total, pair, pair_same, pair_total, untold_tells}
use Rattle.ioam_collect.proofs.BestLaws.{best_has, has_best, outdone_by}
use Rattle.ioam_collect.proofs.FiledLaws.{has-of_key, of_key-has}
use Rattle.ioam_dex.specs.Record.{Record}
use Rattle.ioam_run_texts.specs.Fate.{Frame, Fate}
use Rattle.ioam_pool.specs.Entry.{Entry, bare, is_full}
use Rattle.ioam_topo.specs.declared.domain.Domain.{Domain}
use Rattle.ioam_collect_laws.specs.Paths.{AreOfRun, AreRegrouped, AreShown, IsOfOne, IsPath, IsRun, Regroups, exports_of, key_of, path_of, under}
use Rattle.ioam_collect_laws.proofs.OrderLaws.{IsFalling, IsVisit, holds, holds_has, not_held, path_is, those_read}
use Rattle.ioam_collect_laws.proofs.RunLaws.{apart, keyed_at, trail_at}
use Rattle.ioam_collect_laws.proofs.TextLaws.{exports-octets}
use Rattle.ioam_collect_laws.proofs.TrailLaws.{Falls, IsKeyed, IsTrail, hop_in, item}

has_split : {X : Type 0} (xs ys : List X) (z : X) → Has (xs ++ ys) z → Has xs z ⊎ Has ys z
has_split [] ys z has = inr has
has_split (x ∷ xs) ys z (inl is) = inl (inl is)
has_split (x ∷ xs) ys z (inr has) = elim (has_split xs ys z has) [
  | inl there ↦ inl (inr there)
  | inr there ↦ inr there
]

-- what stands in one of several lists stands in that at a place
has_flat : {X Y : Type 0} (f : X → List Y) (xs : List X) (y : Y) → Has (flat_map f xs) y → (i : ℕ) × (x : X) × (slice_get xs i ≡ Some x) × Has (f x) y
has_flat f [] y has = absurd has
has_flat f (x ∷ xs) y has = elim (has_split (f x) (flat_map f xs) y has) [
  | inl here ↦ (zero, x, refl, here)
  | inr more ↦ let there = has_flat f xs y more in (suc there.0, there.1, there.2, there.3)
]

-- ---- records with a key

has_with : (o : Option (Key × Entry)) (p : Key × Entry) (ps : List (Key × Entry)) → Has (with_keyed o ps) p → (o ≡ Some p) ⊎ Has ps p
has_with None p ps has = inr has
has_with (Some q) p ps (inl is) = inl (ap (λ (x : Key × Entry). Some x) is)
has_with (Some q) p ps (inr has) = inr has

with_has : (o : Option (Key × Entry)) (p : Key × Entry) (ps : List (Key × Entry)) → (o ≡ Some p) ⊎ Has ps p → Has (with_keyed o ps) p
with_has None p ps (inl is) = absurd (cc is)
with_has None p ps (inr has) = has
with_has (Some q) p ps (inl is) = inl (ap (λ (o : Option (Key × Entry)). unwrap_or o q) is)
with_has (Some q) p ps (inr has) = inr has

keyed_has : (xs : List Record) (p : Key × Entry) → Has (keyed xs) p → (x : Record) × Has xs x × (keyed_of x ≡ Some p)
keyed_has [] p has = absurd has
keyed_has (x ∷ xs) p has = elim (has_with (keyed_of x) p (keyed xs) has) [
  | inl is ↦ (x, inl refl, is)
  | inr more ↦ let there = keyed_has xs p more in (there.0, inr there.1, there.2)
]

has_keyed : (xs : List Record) (p : Key × Entry) (x : Record) → Has xs x → keyed_of x ≡ Some p → Has (keyed xs) p
has_keyed [] p x has is = absurd has
has_keyed (y ∷ xs) p x (inl same) is = with_has (keyed_of y) p (keyed xs) (inl (ap keyed_of same ∙ is))
has_keyed (y ∷ xs) p x (inr has) is = with_has (keyed_of y) p (keyed xs) (inr (has_keyed xs p x has is))

-- ---- a path

all_items : (n : ℕ) (xs : List Record) → AllByRecursion (λ later. hop_in later < n) xs → AllByRecursion (λ (later : Entry). later.hops < n) (map item xs)
all_items n [] all = tt
all_items n (x ∷ xs) all = (all.0, all_items n xs all.1)

items_fall : (xs : List Record) → Falls xs → IsFalling (map item xs)
items_fall [] falls = tt
items_fall (x ∷ xs) falls = (all_items (hop_in x) xs falls.0, items_fall xs falls.1)

has_items : (xs : List Record) (x : Record) → Has xs x → Has (map item xs) (item x)
has_items [] x has = absurd has
has_items (y ∷ xs) x (inl is) = inl (ap item is)
has_items (y ∷ xs) x (inr has) = inr (has_items xs x has)

-- a hop value is that of one record
same_record : (xs : List Record) (a b : Record) → Falls xs → Has xs a → Has xs b → hop_in a ≡ hop_in b → a ≡ b
same_record [] a b falls has there same = absurd has
same_record (x ∷ xs) a b falls (inl here) (inl there) same = sym here ∙ there
same_record (x ∷ xs) a b falls (inl here) (inr there) same =
    let lt : hop_in b < hop_in x = all_at (λ later. hop_in later < hop_in x) xs b falls.0 there in
    let hops : hop_in x ≡ hop_in a = ap hop_in here in
    absurd (omega (arith, lt, hops, same))
same_record (x ∷ xs) a b falls (inr here) (inl there) same =
    let lt : hop_in a < hop_in x = all_at (λ later. hop_in later < hop_in x) xs a falls.0 here in
    let hops : hop_in x ≡ hop_in b = ap hop_in there in
    absurd (omega (arith, lt, hops, same))
same_record (x ∷ xs) a b falls (inr here) (inr there) same = same_record xs a b falls.1 here there same

bare_not : (e f : Entry) → is_full f ≡ true → f ≡ bare e → ⊥
bare_not e f full same = let off : is_full f ≡ false = ap is_full same in absurd (cc (full, off))

module _ (domain : Domain) (readings : List (List Sample)) (frames : List Frame) (fates : List Fate) (run : IsRun domain readings frames fates)
    (read : List Record) (are : AreOfRun domain readings fates read) where
  abbrev path : Fate → List Record
  path fate = path_of domain readings fate

  -- a record that was read, by the arrival that it is of
  record IsOf (key : Key) (e : Entry) (x : Record) : Type 0 where
    pub place : ℕ
    pub fate : Fate
    pub there : slice_get fates place ≡ Some fate
    pub its : key_of domain fate ≡ Some key
    pub visit : Record
    pub on : Has (path fate) visit
    pub is : ((x ≡ visit) × (e ≡ item visit)) ⊎ ((x ≡ core_of visit) × (e ≡ bare (item visit)))

  pair_of : (key other : Key) (e f : Entry) → Some (pair other f) ≡ Some (pair key e) → (other ≡ key) × (e ≡ f)
  pair_of key other e f same =
      let both : pair other f ≡ pair key e = ap (λ (o : Option (Key × Entry)). unwrap_or o (pair other f)) same in
      (ap (λ (p : Key × Entry). p.0) both, sym (ap (λ (p : Key × Entry). p.1) both))

  of_visit : (key other : Key) (e : Entry) (x y : Record) (i : ℕ) (fate : Fate) → slice_get fates i ≡ Some fate → key_of domain fate ≡ Some other
      → Has (path fate) y → IsKeyed other y → (x ≡ y) ⊎ (x ≡ core_of y) → keyed_of x ≡ Some (key, e) → IsOf key e x
  of_visit key other e x y i fate there its on has (inl same) is =
      let both = pair_of key other e (item y) (sym has.keyed ∙ ap keyed_of (sym same) ∙ is) in
      record { place = i; fate = fate; there = there; its = its ∙ ap (λ (k : Key). Some k) both.0; visit = y; on = on; is = inl (same, both.1) }
  of_visit key other e x y i fate there its on has (inr same) is =
      let both = pair_of key other e (bare (item y)) (sym has.core ∙ ap keyed_of (sym same) ∙ is) in
      record { place = i; fate = fate; there = there; its = its ∙ ap (λ (k : Key). Some k) both.0; visit = y; on = on; is = inr (same, both.1) }

  of_record : (key : Key) (e : Entry) (x : Record) → Has read x → keyed_of x ≡ Some (key, e) → IsOf key e x
  of_record key e x has is =
      let from = are x (contains_from read x has) in
      let flat = has_flat (path_of domain readings) fates from.0 (has_from (exports_of domain readings fates) from.0 from.1) in
      let its = keyed_at domain readings frames fates run flat.0 flat.1 from.0 flat.2 flat.3 in
      let trail = trail_at domain readings frames fates run flat.0 flat.1 its.0 flat.2 its.1 in
      of_visit key its.0 e x from.0 flat.0 flat.1 flat.2 its.1 flat.3 (all_at (IsKeyed its.0) (path flat.1) from.0 trail.each flat.3) from.2 is

  of_pair : (key : Key) (e : Entry) → Has (keyed read) (pair key e) → (x : Record) × Has read x × IsOf key e x
  of_pair key e has =
      let from = keyed_has read (pair key e) has in
      (from.0, from.1, of_record key e from.0 from.1 from.2)

  -- ---- the records that were read of one arrival

  module _ (place : ℕ) (fate : Fate) (key : Key) (there : slice_get fates place ≡ Some fate) (its : key_of domain fate ≡ Some key) where
    abbrev items_read : List Entry
    items_read = of_key key (keyed read)

    trail : IsTrail key (path fate)
    trail = trail_at domain readings frames fates run place fate key there its

    -- a record with the key is of this arrival
    on_path : (e : Entry) (x : Record) (of : IsOf key e x) → Has (path fate) of.visit
    on_path e x of =
        let same : of.place ≡ place = apart domain readings frames fates run key of.place place of.fate fate of.there there of.its its in
        let found : Some of.fate ≡ Some fate = sym of.there ∙ ap (λ i. slice_get fates i) same ∙ there in
        let one : of.fate ≡ fate = ap (λ (o : Option Fate). unwrap_or o fate) found in
        subst (λ f. Has (path f) of.visit) one of.on

    visit_by : (e : Entry) (visit x : Record) → Has (path fate) visit → ((x ≡ visit) × (e ≡ item visit)) ⊎ ((x ≡ core_of visit) × (e ≡ bare (item visit)))
        → IsVisit (map item (path fate)) e
    visit_by e visit x on (inl is) = inl (subst (Has (map item (path fate))) (sym is.1) (has_items (path fate) visit on))
    visit_by e visit x on (inr is) = inr (item visit, has_items (path fate) visit on, is.1)

    of_items : (e : Entry) → Has items_read e → IsVisit (map item (path fate)) e
    of_items e has =
        let from = of_pair key e (of_key-has key (keyed read) e has) in
        visit_by e from.2.visit from.0 (on_path e from.0 from.2) from.2.is

    keyed_on : (x : Record) → Has (path fate) x → IsKeyed key x
    keyed_on x on = all_at (IsKeyed key) (path fate) x trail.each on

    item_read : (x : Record) → Has (path fate) x → Has read x → Has items_read (item x)
    item_read x on has = has-of_key key (item x) (keyed read) (has_keyed read (pair key (item x)) x has (keyed_on x on).keyed)

    bare_read : (x : Record) → Has (path fate) x → Has read (core_of x) → Has items_read (bare (item x))
    bare_read x on has = has-of_key key (bare (item x)) (keyed read) (has_keyed read (pair key (bare (item x))) (core_of x) has (keyed_on x on).core)

    same_hops : (x y : Record) → Has (path fate) x → Has (path fate) y → hop_in x ≡ hop_in y → y ≡ x
    same_hops x y on other same = sym (same_record (path fate) x y trail.falls on other same)

    whole_by : (x visit y : Record) → Has (path fate) x → Has (path fate) visit → Has read y
        → ((y ≡ visit) × (item x ≡ item visit)) ⊎ ((y ≡ core_of visit) × (item x ≡ bare (item visit))) → Has read x
    whole_by x visit y on other has (inl is) =
        subst (Has read) (is.0 ∙ same_hops x visit on other (ap (λ (e : Entry). e.hops) is.1)) has
    whole_by x visit y on other has (inr is) = absurd (bare_not (item visit) (item x) (keyed_on x on).tells is.1)

    read_item : (x : Record) → Has (path fate) x → Has items_read (item x) → Has read x
    read_item x on has =
        let from = of_pair key (item x) (of_key-has key (keyed read) (item x) has) in
        whole_by x from.2.visit from.0 on (on_path (item x) from.0 from.2) from.1 from.2.is

    core_by : (x visit y : Record) → Has (path fate) x → Has (path fate) visit → Has read y
        → ((y ≡ visit) × (bare (item x) ≡ item visit)) ⊎ ((y ≡ core_of visit) × (bare (item x) ≡ bare (item visit))) → Has read (core_of x)
    core_by x visit y on other has (inl is) = absurd (bare_not (item x) (item visit) (keyed_on visit other).tells (sym is.1))
    core_by x visit y on other has (inr is) =
        subst (Has read) (is.0 ∙ ap core_of (same_hops x visit on other (ap (λ (e : Entry). e.hops) is.1))) has

    read_bare : (x : Record) → Has (path fate) x → Has items_read (bare (item x)) → Has read (core_of x)
    read_bare x on has =
        let from = of_pair key (bare (item x)) (of_key-has key (keyed read) (bare (item x)) has) in
        core_by x from.2.visit from.0 on (on_path (bare (item x)) from.0 from.2) from.1 from.2.is

    -- what is shown of some of the path's records
    record Shown (xs : List Record) : Type 0 where
      pub shown : List Record
      pub are_shown : AreShown read xs shown
      pub items : keyed shown ≡ map (under key) (those_read items_read (map item xs))

    first_keyed : (x : Record) (e : Entry) (rest : List Record) (items : List Entry) → keyed_of x ≡ Some (key, e) → keyed rest ≡ map (under key) items
        → keyed (x ∷ rest) ≡ map (under key) (e ∷ items)
    first_keyed x e rest items is more = ap₂ with_keyed is more

    shows : (x : Record) (xs : List Record) (b c : Bool) → Has (path fate) x → holds items_read (item x) ≡ b → holds items_read (bare (item x)) ≡ c → Shown xs
        → (shown : List Record) × AreShown read (x ∷ xs) shown × (keyed shown ≡ map (under key) (cond b (item x ∷ those_read items_read (map item xs))
        (cond c (bare (item x) ∷ those_read items_read (map item xs)) (those_read items_read (map item xs)))))
    shows x xs true c on is core more =
        let has = contains_from read x (read_item x on (holds_has items_read (item x) is)) in
        (x ∷ more.shown, (more.shown, more.are_shown, inl (has, refl)), first_keyed x (item x) more.shown (those_read items_read (map item xs)) (keyed_on x on).keyed more.items)
    shows x xs false true on is core more =
        let none : ¬ (Contains read x) = λ has. not_held items_read (item x) is (item_read x on (has_from read x has)) in
        let has = contains_from read (core_of x) (read_bare x on (holds_has items_read (bare (item x)) core)) in (
          core_of x ∷ more.shown,
          (more.shown, more.are_shown, inr (none, inl (has, refl))),
          first_keyed (core_of x) (bare (item x)) more.shown (those_read items_read (map item xs)) (keyed_on x on).core more.items,
        )
    shows x xs false false on is core more =
        let none : ¬ (Contains read x) = λ has. not_held items_read (item x) is (item_read x on (has_from read x has)) in
        let no_core : ¬ (Contains read (core_of x)) = λ has. not_held items_read (bare (item x)) core (bare_read x on (has_from read (core_of x) has)) in
        (more.shown, (more.shown, more.are_shown, inr (none, inr (no_core, refl))), more.items)

    shown_of : (xs : List Record) → ((x : Record) → Has xs x → Has (path fate) x) → Shown xs
    shown_of [] on = record { shown = []; are_shown = refl; items = refl }
    shown_of (x ∷ xs) on =
        let more = shown_of xs (λ y has. on y (inr has)) in
        let first = shows x xs (holds items_read (item x)) (holds items_read (bare (item x))) (on x (inl refl)) refl refl more in
        record { shown = first.0; are_shown = first.1; items = first.2 }

    path_shown : IsPath domain readings read fate (group (kept_of (keyed read)) key)
    path_shown =
        let all = shown_of (path fate) (λ x has. has) in
        let is : of_key key (kept_of (keyed read)) ≡ those_read items_read (map item (path fate)) =
        path_is (keyed read) key (map item (path fate)) (items_fall (path fate) trail.falls) of_items in
        record { key = its; shown = all.shown; are = all.are_shown; items = all.items ∙ ap (map (under key)) (sym is) }

    one_group : IsOfOne domain readings fates read (group (kept_of (keyed read)) key)
    one_group = record {
      place = place;
      fate = fate;
      there = there;
      path = path_shown;
      alone = λ other f here also. apart domain readings frames fates run key other place f fate here there also its;
    }

  group_of_key : (key : Key) → Has (keys_in (kept_of (keyed read))) key → IsOfOne domain readings fates read (group (kept_of (keyed read)) key)
  group_of_key key has =
      let kept = kept_of (keyed read) in
      let p = map_has (λ (p : Key × Entry). p.0) kept key (arranged-has key_cmp key_total key_same (map (λ (p : Key × Entry). p.0) kept) key has) in
      let e = p.0.1 in
      let has_p : Has kept (pair key e) = subst (λ k. Has kept (pair k e)) p.2 p.1 in
      let in_read : Has (keyed read) (pair key e) =
      (best_has (keyed read) (pair key e) (arranged-has pair_cmp pair_total pair_same (best (keyed read)) (pair key e) has_p)).0 in
      let from = of_pair key e in_read in
      one_group from.2.place from.2.fate key from.2.there from.2.its

  each_group : (g : Key × List Entry) → Contains (groups_of (keyed read)) g → IsOfOne domain readings fates read g
  each_group g there =
      let from = map_has (group (kept_of (keyed read))) (keys_in (kept_of (keyed read))) g (has_from (groups_of (keyed read)) g there) in
      subst (IsOfOne domain readings fates read) from.2 (group_of_key from.0 from.1)

  -- ---- each arrival of which a record was read has its group

  has_group : (p q : Key × Entry) → Has (kept_of (keyed read)) q → q.0 ≡ p.0 → Has (groups_of (keyed read)) (group (kept_of (keyed read)) p.0)
  has_group p q has same =
      let kept = kept_of (keyed read) in
      let keys = map (λ (r : Key × Entry). r.0) kept in
      let there : Has keys p.0 = subst (Has keys) same (has_map (λ (r : Key × Entry). r.0) kept q has) in
      has_map (group kept) (keys_in kept) p.0 (has-arranged key_cmp key_total key_same keys p.0 there)

  kept_one : (p : Key × Entry) → Has (keyed read) p → (outdone (keyed read) p ≡ true → ⊥) → Has (kept_of (keyed read)) p
  kept_one p has best_one = has-arranged pair_cmp pair_total pair_same (best (keyed read)) p (has_best (keyed read) p has best_one)

  group_by : (p : Key × Entry) → Has (keyed read) p → (outdone (keyed read) p ≡ true) ⊎ (outdone (keyed read) p ≡ false)
      → Has (groups_of (keyed read)) (group (kept_of (keyed read)) p.0)
  group_by p has (inl by) =
      let other = outdone_by (keyed read) p by in
      let best_one : outdone (keyed read) other.0 ≡ true → ⊥ = λ again.
      let more = outdone_by (keyed read) other.0 again in
      untold_tells more.0 other.0 more.3 other.2 in
      has_group p other.0 (kept_one other.0 other.1 best_one) (ap (λ (r : Key × Entry). r.0) other.3)
  group_by p has (inr isnt) = has_group p p (kept_one p has (λ is. absurd (cc (is, isnt)))) refl

  group_there : (p : Key × Entry) → Has (keyed read) p → Contains (groups_of (keyed read)) (group (kept_of (keyed read)) p.0)
  group_there p has = contains_from (groups_of (keyed read)) (group (kept_of (keyed read)) p.0) (group_by p has (cases_Bool (outdone (keyed read) p)))

  there_by : (key : Key) (x : Record) → IsKeyed key x → Contains read x ⊎ Contains read (core_of x)
      → Contains (groups_of (keyed read)) (group (kept_of (keyed read)) key)
  there_by key x of (inl has) = group_there (pair key (item x)) (has_keyed read (pair key (item x)) x (has_from read x has) of.keyed)
  there_by key x of (inr has) =
      group_there (pair key (bare (item x))) (has_keyed read (pair key (bare (item x))) (core_of x) (has_from read (core_of x) has) of.core)

  pub regrouped : AreRegrouped domain readings fates read
  regrouped = record {
    each = each_group;
    all = λ place fate x there on was_read.
        let has : Has (path fate) x = has_from (path fate) x on in
        let its = keyed_at domain readings frames fates run place fate x there has in
        let of = keyed_on place fate its.0 there its.1 x has in
        (group (kept_of (keyed read)) its.0, there_by its.0 x of was_read, path_shown place fate its.0 there its.1);
  }

pub regroups : (read : List Record) → Regroups read
regroups read domain readings frames fates run =
    record { exports = exports-octets domain readings fates; paths = λ are. regrouped domain readings frames fates run read are }
