-- Laws of pairs that are added one after the other, and of stores and collectors that are joined.
use Rattle.std.proofs.Common.{◌≡◌, ◌≢◌, ℕ, ◌+◌, ◌<◌, ◌≤◌, Bool, List, [], ◌∷◌, ◌++◌, length, not, append_assoc, append-nil, refl, sym, ap, ap₂, ◌∙◌, subst, arith, inl, inr, Option, None, Some}
use Rattle.std.specs.Prelude.{Ok}
use Rattle.std.specs.Map.{keys_of}
use Rattle.std.specs.List.{AllByRecursion}
use Rattle.std.specs.List.Sorted.{IsStrictlySortedBy}
use Rattle.std.proofs.lemmas.Bool.Decides.{nat_tests}
use Rattle.ioam_dex.specs.Record.{Record}
use Rattle.ioam_pool.specs.Entry.{Entry}
use Rattle.ioam_collect.specs.Adds.{Adds, IsOf}
use Rattle.ioam_collect.specs.Best.{kept_of, of_key}
use Rattle.ioam_collect.specs.Collected.{Collected, capped, count_unkeyed, gathered_in}
use Rattle.ioam_collect.specs.Gathered.{Gathered, AreOf}
use Rattle.ioam_collect.specs.Join.{pairs_in, joined}
use Rattle.ioam_collect.specs.Joining.{count_in, is_full, AreAdded, ArePast, Takes, HasBoth, IsJoined}
use Rattle.ioam_collect.specs.Keyed.{key_cmp, keyed_of, keyed, with_keyed}
use Rattle.ioam_collect.specs.declared.growing.Added.{Added}
use Rattle.ioam_collect.specs.declared.growing.Added.TheVariants.{Kept, Replaced, Repeat, Unkeyed, Full}
use Rattle.ioam_collect.specs.declared.key.Key.{Key}
use Rattle.ioam_collect.proofs.BestLaws.{ordered}
use Rattle.ioam_collect.proofs.CollectedLaws.{groups_are, collected}
use Rattle.ioam_collect.proofs.CountLaws.{ApartIn, apart-length, pair_more}
use Rattle.ioam_collect.proofs.FiledLaws.{item_repeats, item_replaces}
use Rattle.ioam_collect.proofs.JoinLaws.{kept_parts, pairs_groups}
use Rattle.ioam_collect.proofs.KeyLaws.{pair}

-- ---- how many are kept of more pairs

pairs_step : (ps : List (Key × Entry)) (p : Key × Entry) → length (kept_of ps) ≤ length (kept_of (ps ++ p ∷ []))
pairs_step ps p = elim (pair_more ps p) [
  | inl same ↦ omega (arith, same)
  | inr (apart, more) ↦ omega (arith, more)
]

pub pairs_grow : (ps qs : List (Key × Entry)) → length (kept_of ps) ≤ length (kept_of (ps ++ qs))
pairs_grow ps [] =
    let P : List (Key × Entry) → Type 0 = λ rs. length (kept_of ps) ≤ length (kept_of rs) in
    subst P (sym (append-nil ps)) (omega arith)
pairs_grow ps (q ∷ qs) =
    let P : List (Key × Entry) → Type 0 = λ rs. length (kept_of ps) ≤ length (kept_of rs) in
    let step = pairs_step ps q in
    let more = pairs_grow (ps ++ q ∷ []) qs in
    let least : length (kept_of ps) ≤ length (kept_of ((ps ++ q ∷ []) ++ qs)) = omega (arith, step, more) in
    subst P (append_assoc ps (q ∷ []) qs) least

-- ---- pairs that are added

pub added_none : (g : Gathered) → AreAdded g [] g
added_none g = record {
  are = λ qs are. subst (AreOf g) (sym (append-nil qs)) are;
  limit = refl;
  within = λ within. within;
}

pub added_more : (a b c : Gathered) (ps qs : List (Key × Entry)) → AreAdded a ps b → AreAdded b qs c → AreAdded a (ps ++ qs) c
added_more a b c ps qs one two = record {
  are = λ rs are. subst (AreOf c) (append_assoc rs ps qs) (two.are (rs ++ ps) (one.are rs are));
  limit = two.limit ∙ one.limit;
  within = λ within.
      let first : b.held ≤ a.limit = one.within within in
      let same = one.limit in
      let second : c.held ≤ b.limit = two.within (omega (arith, first, same)) in
      omega (arith, second, same);
}

pub past_front : (a : Gathered) (ps qs : List (Key × Entry)) → ArePast a ps → ArePast a (ps ++ qs)
past_front a ps qs past = λ rs are.
    let P : List (Key × Entry) → Type 0 = λ all. a.limit < length (kept_of all) in
    let grows = pairs_grow (rs ++ ps) qs in
    let over = past rs are in
    let least : a.limit < length (kept_of ((rs ++ ps) ++ qs)) = omega (arith, grows, over) in
    subst P (append_assoc rs ps qs) least

pub past_behind : (a b : Gathered) (ps qs : List (Key × Entry)) → AreAdded a ps b → ArePast b qs → ArePast a (ps ++ qs)
past_behind a b ps qs one past = λ rs are.
    let P : List (Key × Entry) → Type 0 = λ all. a.limit < length (kept_of all) in
    let over = past (rs ++ ps) (one.are rs are) in
    let same = one.limit in
    let least : a.limit < length (kept_of ((rs ++ ps) ++ qs)) = omega (arith, over, same) in
    subst P (append_assoc rs ps qs) least

-- what a store answers for one pair
pub takes_one : (E : Type 0) (old new : Gathered) (key : Key) (item : Entry) (added : Added) → Adds {E = E} old key item (Ok added) new
    → IsOf {E = E} old key item (Ok added) new → Takes old (pair key item ∷ []) (not (is_full added)) new
takes_one E old new key item Kept adds are =
    let one = adds.4 in
    let room = adds.2 in
    record { are = are; limit = adds.3.limit; within = λ within. omega (arith, one, room) }
takes_one E old new key item Replaced adds are =
    let same = adds.3 in
    record { are = are; limit = adds.2.limit; within = λ within. omega (arith, same, within) }
takes_one E old new key item Repeat adds are =
    let same : new.held ≡ old.held = ap (λ (g : Gathered). g.held) adds.1 in
    record { are = are; limit = ap (λ (g : Gathered). g.limit) adds.1; within = λ within. omega (arith, same, within) }
takes_one E old new key item Unkeyed adds are = absurd adds
takes_one E old new key item Full adds are = λ qs is.
    let kept : List (Key × Entry) = kept_of qs in
    let apart : ApartIn kept (pair key item) = (
      (λ r. adds.0 (rw (is.each key) (item_repeats kept (ordered qs) key item r))),
      (λ r. adds.1 (rw (is.each key) (item_replaces kept (ordered qs) key item r))),
    ) in
    let more = apart-length qs (pair key item) apart in
    let all = adds.2 in
    let held = is.held in
    omega (arith, more, all, held)

-- an item by its parts
pub entry_is : (e copy : Entry) (hops : ℕ) (core extra : List ℕ) → copy ≡ record { hops = hops; core = core; extra = extra } → hops ≡ e.hops → core ≡ e.core
    → extra ≡ e.extra → copy ≡ e
entry_is e copy hops core extra is h c x =
    let same : ◌≡◌ {A = Entry} (record { hops = hops; core = core; extra = extra }) (record { hops = e.hops; core = e.core; extra = e.extra }) = cc in
    is ∙ same

-- a copy of an item
pub takes_copy : (E : Type 0) (old new : Gathered) (key : Key) (item copy : Entry) (added : Added) (full : Bool) → copy ≡ item → full ≡ is_full added
    → Adds {E = E} old key copy (Ok added) new → IsOf {E = E} old key copy (Ok added) new → Takes old (pair key item ∷ []) (not full) new
takes_copy E old new key item copy added full same is adds are =
    subst (λ b. Takes old (pair key item ∷ []) (not b) new) (sym is)
    (subst (λ e. Takes old (pair key e ∷ []) (not (is_full added)) new) same (takes_one E old new key copy added adds are))

-- going along pairs: what becomes of those that are left becomes of all
module _ (start now : Gathered) (all left front rest : List (Key × Entry)) (is : left ≡ front ++ rest) where
  pub added_on : (next : Gathered) → ((new : Gathered) → AreAdded now left new → AreAdded start all new) → AreAdded now front next
      → (new : Gathered) → AreAdded next rest new → AreAdded start all new
  added_on next before one new after =
      before new (subst (λ ps. AreAdded now ps new) (sym is) (added_more now next new front rest one after))

  pub past_on : (next : Gathered) → (ArePast now left → ArePast start all) → AreAdded now front next → ArePast next rest → ArePast start all
  past_on next before one after = before (subst (ArePast now) (sym is) (past_behind now next front rest one after))

  pub past_here : (ArePast now left → ArePast start all) → ArePast now front → ArePast start all
  past_here before past = before (subst (ArePast now) (sym is) (past_front now front rest past))

pub added_all : (start now : Gathered) (all left : List (Key × Entry)) → left ≡ [] → ((new : Gathered) → AreAdded now left new → AreAdded start all new)
    → AreAdded start all now
added_all start now all left none before = before now (subst (λ ps. AreAdded now ps now) (sym none) (added_none now))

-- ---- stores

-- a store is of a list where it is of one of which as much is kept
same_kept : (g : Gathered) (ps qs : List (Key × Entry)) → kept_of ps ≡ kept_of qs → AreOf g ps → AreOf g qs
same_kept g ps qs same are = record {
  each = λ key. are.each key ∙ ap (of_key key) same;
  held = are.held ∙ ap length same;
}

pub none_of : (limit : ℕ) → AreOf (record { groups = []; held = 0; limit = limit }) []
none_of limit = record { each = λ key. refl; held = refl }

abbrev pub InOrder : Gathered → Type 0
InOrder g = IsStrictlySortedBy key_cmp (keys_of g.groups) × AllByRecursion (λ (group : Key × List Entry). group.1 ≢ []) g.groups

pub pairs_of : (g : Gathered) (ps : List (Key × Entry)) → InOrder g → AreOf g ps → pairs_in g.groups ≡ kept_of ps
pairs_of g ps in_order are = ap pairs_in (groups_are g.groups ps in_order.0 in_order.1 are.each) ∙ pairs_groups ps

module _ (one other fresh new : Gathered) (empty : fresh ≡ record { groups = []; held = 0; limit = one.limit }) where
  abbrev both : List (Key × Entry)
  both = pairs_in one.groups ++ pairs_in other.groups

  fresh_of : AreOf fresh []
  fresh_of = subst (λ g. AreOf g []) (sym empty) (none_of one.limit)

  fresh_limit : fresh.limit ≡ one.limit
  fresh_limit = ap (λ (g : Gathered). g.limit) empty

  fresh_within : fresh.held ≤ fresh.limit
  fresh_within = let none : fresh.held ≡ 0 = ap (λ (g : Gathered). g.held) empty in omega (arith, none)

  pub has_both : InOrder one → InOrder other → InOrder new → AreAdded fresh both new → HasBoth one other new
  has_both in_one in_other in_new added =
      let are : AreOf new both = added.are [] fresh_of in
      let same = fresh_limit in
      let within = added.within fresh_within in
      record {
        groups = groups_are new.groups both in_new.0 in_new.1 are.each;
        held = are.held ∙ ap length (sym (pairs_groups both));
        within = omega (arith, within, same);
        limit = added.limit ∙ same;
        are = λ ps qs of_one of_other.
            let parts : kept_of both ≡ kept_of (ps ++ qs) =
            ap kept_of (ap₂ (λ (xs ys : List (Key × Entry)). xs ++ ys) (pairs_of one ps in_one of_one) (pairs_of other qs in_other of_other))
            ∙ sym (kept_parts ps qs) in
            same_kept new both (ps ++ qs) parts are;
      }

  pub past_both : ArePast fresh both → one.limit < count_in (joined one.groups other.groups)
  past_both past =
      let over = past [] fresh_of in
      let same = fresh_limit in
      let count : count_in (joined one.groups other.groups) ≡ length (kept_of both) = ap length (pairs_groups both) in
      omega (arith, over, same, count)

-- ---- collectors

with_keyed-append : (o : Option (Key × Entry)) (ps qs : List (Key × Entry)) → with_keyed o (ps ++ qs) ≡ with_keyed o ps ++ qs
with_keyed-append None ps qs = refl
with_keyed-append (Some p) ps qs = refl

pub keyed-append : (xs ys : List Record) → keyed (xs ++ ys) ≡ keyed xs ++ keyed ys
keyed-append [] ys = refl
keyed-append (x ∷ xs) ys = ap (with_keyed (keyed_of x)) (keyed-append xs ys) ∙ with_keyed-append (keyed_of x) (keyed xs) (keyed ys)

count-append : (xs ys : List Record) → count_unkeyed (xs ++ ys) ≡ count_unkeyed xs + count_unkeyed ys
count-append [] ys = omega arith
count-append (x ∷ xs) ys = let more = count-append xs ys in omega arith

capped-sum : (m n a b : ℕ) → a ≡ capped m → b ≡ capped n → capped (a + b) ≡ capped (m + n)
capped-sum m n a b one two = grind (arith, nat_tests)

pub stores_join : (g h g' : Gathered) (read unkeyed read' unkeyed' : ℕ) (new : Collected) → HasBoth g h g'
    → new ≡ collected g' (capped (read + read')) (capped (unkeyed + unkeyed'))
    → IsJoined (collected g read unkeyed) (collected h read' unkeyed') new
stores_join g h g' read unkeyed read' unkeyed' new has is =
    let same : gathered_in new ≡ g' = ap gathered_in is in
    record {
      groups = ap (λ (c : Collected). c.groups) is ∙ has.groups;
      held = ap (λ (c : Collected). c.held) is ∙ has.held;
      within = (let held : new.held ≡ g'.held = ap (λ (c : Collected). c.held) is in let within = has.within in omega (arith, held, within));
      limit = ap (λ (c : Collected). c.limit) is ∙ has.limit;
      read = ap (λ (c : Collected). c.read) is;
      unkeyed = ap (λ (c : Collected). c.unkeyed) is;
      stands = λ xs ys one two. record {
        groups = subst (AreOf (gathered_in new)) (sym (keyed-append xs ys)) (subst (λ k. AreOf k (keyed xs ++ keyed ys)) (sym same) (has.are (keyed xs) (keyed ys) one.groups two.groups));
        read = ap (λ (c : Collected). c.read) is ∙ capped-sum (length xs) (length ys) read read' one.read two.read ∙ ap capped (sym (Rattle.std.proofs.Common.length-append xs ys));
        unkeyed = ap (λ (c : Collected). c.unkeyed) is ∙ capped-sum (count_unkeyed xs) (count_unkeyed ys) unkeyed unkeyed' one.unkeyed two.unkeyed ∙ ap capped (sym (count-append xs ys));
      };
    }
