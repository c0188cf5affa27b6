-- What is kept of lists joined, and the groups of it.
use Rattle.std.proofs.Common.{◌≡◌, true, List, [], ◌∷◌, ◌++◌, map, refl, sym, ap, ap₂, ◌∙◌, subst, ◌⊎◌, inl, inr}
use Rattle.std.specs.Ordering.{ordering_then}
use Rattle.std.specs.declared.cmp.Ordering.TheVariants.{Less}
use Rattle.std.proofs.lemmas.Bool.{cases_Bool}
use Rattle.std.proofs.lemmas.Cmp.{tied_itself}
use Rattle.ioam_pool.specs.Entry.{Entry}
use Rattle.ioam_pool.specs.Order.{order, IsInOrder}
use Rattle.ioam_collect.specs.Keyed.{key_cmp}
use Rattle.ioam_collect.specs.Best.{pair_cmp, outdone, kept_of, of_key, keys_in, group, groups_of}
use Rattle.ioam_collect.specs.Join.{pairs_in, joined, AreGroups, IsPartOf, SameMembers, Tree, Leaf, Join, leaves, merged}
use Rattle.ioam_collect.specs.declared.key.Key.{Key}
use Rattle.ioam_collect.proofs.Members.{Has, has_from, contains_from, all_at, all_from, has_map, map_has}
use Rattle.ioam_collect.proofs.KeyLaws.{pair, key_total, key_same}
use Rattle.ioam_collect.proofs.Sorting.{arranged-in_order, has-arranged}
use Rattle.ioam_collect.proofs.BestLaws.{group-has, has-group, ordered, same_group, full_kept, outdone_by, outdoes}
use Rattle.ioam_collect.proofs.FiledLaws.{of_key-has, has-of_key, of_key-in_order}

-- ---- members of two lists

pub both-has : {X : Type 0} (xs ys : List X) (z : X) → Has (xs ++ ys) z → Has xs z ⊎ Has ys z
both-has [] ys z has = inr has
both-has (x ∷ xs) ys z (inl is) = inl (inl is)
both-has (x ∷ xs) ys z (inr has) = elim (both-has xs ys z has) [
  | inl there ↦ inl (inr there)
  | inr more ↦ inr more
]

pub has-left : {X : Type 0} (xs ys : List X) (z : X) → Has xs z → Has (xs ++ ys) z
has-left [] ys z has = absurd has
has-left (x ∷ xs) ys z (inl is) = inl is
has-left (x ∷ xs) ys z (inr has) = inr (has-left xs ys z has)

pub has-right : {X : Type 0} (xs ys : List X) (z : X) → Has ys z → Has (xs ++ ys) z
has-right [] ys z has = has
has-right (x ∷ xs) ys z has = inr (has-right xs ys z has)

-- ---- what is kept depends on the members alone

abbrev pub Within : List (Key × Entry) → List (Key × Entry) → Type 0
Within ps qs = (z : Key × Entry) → Has ps z → Has qs z

pub outdone_within : (ps qs : List (Key × Entry)) → Within ps qs → (z : Key × Entry) → outdone ps z ≡ true → outdone qs z ≡ true
outdone_within ps qs within z is_so =
    let by = outdone_by ps z is_so in
    ap (outdone qs) (sym by.3) ∙ outdoes qs by.0 (within by.0 by.1) by.2

-- of pairs less some that are outdone by others, or doubled, as much is kept
abbrev pub Covers : List (Key × Entry) → List (Key × Entry) → Type 0
Covers ps qs = (z : Key × Entry) → Has ps z → Has qs z ⊎ (outdone qs z ≡ true)

pub kept_covered : (ps qs : List (Key × Entry)) → Within qs ps → Covers ps qs → kept_of ps ≡ kept_of qs
kept_covered ps qs back covers =
    same_group (kept_of ps) (kept_of qs) (ordered ps) (ordered qs)
    (λ z has.
    let kept = group-has ps z has in
    elim (covers z kept.0) [
      | inl there ↦ has-group qs z there (λ is_so. kept.1 (outdone_within qs ps back z is_so))
      | inr out ↦ absurd (kept.1 (outdone_within qs ps back z out))
    ])
    (λ z has.
    let kept = group-has qs z has in
    has-group ps z (back z kept.0) (λ is_so.
    let by = outdone_by ps z is_so in
    elim (covers by.0 by.1) [
      | inl there ↦ kept.1 (ap (outdone qs) (sym by.3) ∙ outdoes qs by.0 there by.2)
      | inr out ↦ full_kept qs by.0 by.2 out
    ]))

pub kept_same : (ps qs : List (Key × Entry)) → Within ps qs → Within qs ps → kept_of ps ≡ kept_of qs
kept_same ps qs there back = kept_covered ps qs back (λ z has. inl (there z has))

-- what is kept covers what it is of
kept_covers : (ps : List (Key × Entry)) → Covers ps (kept_of ps)
kept_covers ps z has = elim (cases_Bool (outdone ps z)) [
  | inl is_so ↦
      let by = outdone_by ps z is_so in
      inr (ap (outdone (kept_of ps)) (sym by.3) ∙ outdoes (kept_of ps) by.0 (has-group ps by.0 by.1 (full_kept ps by.0 by.2)) by.2)
  | inr not_so ↦ inl (has-group ps z has (λ is_so. absurd (cc (is_so, not_so))))
]

pub kept_within : (ps : List (Key × Entry)) → Within (kept_of ps) ps
kept_within ps z has = (group-has ps z has).0

pub covers_more : (all more : List (Key × Entry)) → Within more all → (z : Key × Entry) → Has more z ⊎ (outdone more z ≡ true) → Has all z ⊎ (outdone all z ≡ true)
covers_more all more within z (inl there) = inl (within z there)
covers_more all more within z (inr out) = inr (outdone_within more all within z out)

-- of what is kept of each as much is kept as of all
pub kept_parts : (ps qs : List (Key × Entry)) → kept_of (ps ++ qs) ≡ kept_of (kept_of ps ++ kept_of qs)
kept_parts ps qs =
    let all : List (Key × Entry) = kept_of ps ++ kept_of qs in
    kept_covered (ps ++ qs) all
    (λ z has. elim (both-has (kept_of ps) (kept_of qs) z has) [
      | inl one ↦ has-left ps qs z (kept_within ps z one)
      | inr two ↦ has-right ps qs z (kept_within qs z two)
    ])
    (λ z has. elim (both-has ps qs z has) [
      | inl one ↦ covers_more all (kept_of ps) (has-left (kept_of ps) (kept_of qs)) z (kept_covers ps z one)
      | inr two ↦ covers_more all (kept_of qs) (has-right (kept_of ps) (kept_of qs)) z (kept_covers qs z two)
    ])

pub kept_again : (ps : List (Key × Entry)) → kept_of (kept_of ps) ≡ kept_of ps
kept_again ps = sym (kept_covered ps (kept_of ps) (kept_within ps) (kept_covers ps))

pub kept_swapped : (ps qs : List (Key × Entry)) → kept_of (ps ++ qs) ≡ kept_of (qs ++ ps)
kept_swapped ps qs = kept_same (ps ++ qs) (qs ++ ps)
    (λ z has. elim (both-has ps qs z has) [
      | inl one ↦ has-right qs ps z one
      | inr two ↦ has-left qs ps z two
    ])
    (λ z has. elim (both-has qs ps z has) [
      | inl two ↦ has-right ps qs z two
      | inr one ↦ has-left ps qs z one
    ])

pub kept_twice : (ps : List (Key × Entry)) → kept_of (ps ++ ps) ≡ kept_of ps
kept_twice ps = kept_same (ps ++ ps) ps
    (λ z has. elim (both-has ps ps z has) [
      | inl one ↦ one
      | inr two ↦ two
    ])
    (λ z has. has-left ps ps z has)

-- ---- the pairs of groups

append_in_order : (xs ys : List (Key × Entry)) → IsInOrder pair_cmp xs → IsInOrder pair_cmp ys
    → ((x y : Key × Entry) → Has xs x → Has ys y → pair_cmp x y ≡ Less) → IsInOrder pair_cmp (xs ++ ys)
append_in_order [] ys a b before = b
append_in_order (x ∷ xs) ys a b before = (
  all_from (λ z. pair_cmp x z ≡ Less) (xs ++ ys) (λ z has. elim (both-has xs ys z has) [
    | inl one ↦ all_at (λ z. pair_cmp x z ≡ Less) xs z a.0 one
    | inr two ↦ before x z (inl refl) two
  ]),
  append_in_order xs ys a.1 b (λ w y has more. before w y (inr has) more),
)

-- items in order are, under one key
under : (key : Key) → List Entry → List (Key × Entry)
under key es = map (pair key) es

pair_less : (key : Key) (e z : Entry) → order e z ≡ Less → pair_cmp (pair key e) (pair key z) ≡ Less
pair_less key e z less = ap (λ o. ordering_then o (order e z)) (tied_itself key_total key) ∙ less

key_less : (a b : Key) (e z : Entry) → key_cmp a b ≡ Less → pair_cmp (pair a e) (pair b z) ≡ Less
key_less a b e z less = ap (λ o. ordering_then o (order e z)) less

map_in_order : (key : Key) (es : List Entry) → IsInOrder order es → IsInOrder pair_cmp (map (pair key) es)
map_in_order key [] a = tt
map_in_order key (e ∷ es) a = (
  all_from (λ z. pair_cmp (pair key e) z ≡ Less) (map (pair key) es) (λ z has.
      let there = map_has (pair key) es z has in
      subst (λ y. pair_cmp (pair key e) y ≡ Less) there.2 (pair_less key e there.0 (all_at (λ y. order e y ≡ Less) es there.0 a.0 there.1))),
  map_in_order key es a.1,
)

module _ (ps : List (Key × Entry)) (a : IsInOrder pair_cmp ps) where
  -- the groups of some keys
  abbrev groups_with : List Key → List (Key × List Entry)
  groups_with keys = map (group ps) keys

  with-has : (keys : List Key) (z : Key × Entry) → Has (pairs_in (groups_with keys)) z → Has keys z.0 × Has ps z
  with-has [] z has = absurd has
  with-has (key ∷ keys) z has = elim (both-has (map (pair key) (of_key key ps)) (pairs_in (groups_with keys)) z has) [
    | inl here ↦
        let there = map_has (pair key) (of_key key ps) z here in
        (inl (ap (λ (q : Key × Entry). q.0) there.2), subst (Has ps) there.2 (of_key-has key ps there.0 there.1))
    | inr more ↦ let there = with-has keys z more in (inr there.0, there.1)
  ]

  has-with : (keys : List Key) (key : Key) (e : Entry) → Has keys key → Has ps (pair key e) → Has (pairs_in (groups_with keys)) (pair key e)
  has-with [] key e has there = absurd has
  has-with (k ∷ keys) key e (inl same) there =
      let here : Has (map (pair key) (of_key key ps)) (pair key e) = has_map (pair key) (of_key key ps) e (has-of_key key e ps there) in
      let P : Key → Type 0 = λ j. Has (map (pair j) (of_key j ps)) (pair key e) in
      has-left (map (pair k) (of_key k ps)) (pairs_in (groups_with keys)) (pair key e) (subst P (sym same) here)
  has-with (k ∷ keys) key e (inr has) there =
      has-right (map (pair k) (of_key k ps)) (pairs_in (groups_with keys)) (pair key e) (has-with keys key e has there)

  with_in_order : (keys : List Key) → IsInOrder key_cmp keys → IsInOrder pair_cmp (pairs_in (groups_with keys))
  with_in_order [] b = tt
  with_in_order (key ∷ keys) b =
      append_in_order (map (pair key) (of_key key ps)) (pairs_in (groups_with keys))
      (map_in_order key (of_key key ps) (of_key-in_order key ps a))
      (with_in_order keys b.1)
      (λ x y here more.
      let one = map_has (pair key) (of_key key ps) x here in
      let two = with-has keys y more in
      let less : key_cmp key y.0 ≡ Less = all_at (λ k. key_cmp key k ≡ Less) keys y.0 b.0 two.0 in
      subst (λ w. pair_cmp w y ≡ Less) one.2 (key_less key y.0 one.0 y.1 less))

  keys_in_order : IsInOrder key_cmp (keys_in ps)
  keys_in_order = arranged-in_order key_cmp key_total key_same (map (λ p. p.0) ps)

  pub pairs_with : pairs_in (groups_with (keys_in ps)) ≡ ps
  pairs_with = same_group (pairs_in (groups_with (keys_in ps))) ps (with_in_order (keys_in ps) keys_in_order) a
      (λ z has. (with-has (keys_in ps) z has).1)
      (λ z has. has-with (keys_in ps) z.0 z.1
      (has-arranged key_cmp key_total key_same (map (λ p. p.0) ps) z.0 (has_map (λ (p : Key × Entry). p.0) ps z has)) has)

-- the pairs of the groups are what is kept
pub pairs_groups : (ps : List (Key × Entry)) → pairs_in (groups_of ps) ≡ kept_of ps
pairs_groups ps = pairs_with (kept_of ps) (ordered ps)

groups_kept : (ps qs : List (Key × Entry)) → kept_of ps ≡ kept_of qs → groups_of ps ≡ groups_of qs
groups_kept ps qs same = ap (λ kept. map (group kept) (keys_in kept)) same

-- ---- groups joined

pub groups_join : (ps qs : List (Key × Entry)) → joined (groups_of ps) (groups_of qs) ≡ groups_of (ps ++ qs)
groups_join ps qs =
    ap₂ (λ xs ys. groups_of (xs ++ ys)) (pairs_groups ps) (pairs_groups qs)
    ∙ groups_kept (kept_of ps ++ kept_of qs) (ps ++ qs) (sym (kept_parts ps qs))

pub joined_swaps : (gs hs : List (Key × List Entry)) → joined gs hs ≡ joined hs gs
joined_swaps gs hs = groups_kept (pairs_in gs ++ pairs_in hs) (pairs_in hs ++ pairs_in gs) (kept_swapped (pairs_in gs) (pairs_in hs))

-- one side may be what is kept of it
pub half_left : (ps qs : List (Key × Entry)) → kept_of (kept_of ps ++ qs) ≡ kept_of (ps ++ qs)
half_left ps qs =
    kept_parts (kept_of ps) qs
    ∙ ap (λ xs. kept_of (xs ++ kept_of qs)) (kept_again ps)
    ∙ sym (kept_parts ps qs)

pub half_right : (ps qs : List (Key × Entry)) → kept_of (ps ++ kept_of qs) ≡ kept_of (ps ++ qs)
half_right ps qs = kept_swapped ps (kept_of qs) ∙ half_left qs ps ∙ kept_swapped qs ps

pub append_three : {X : Type 0} (xs ys zs : List X) → (xs ++ ys) ++ zs ≡ xs ++ (ys ++ zs)
append_three [] ys zs = refl
append_three (x ∷ xs) ys zs = ap (λ ws. x ∷ ws) (append_three xs ys zs)

pub joined_associates : (fs gs hs : List (Key × List Entry)) → joined (joined fs gs) hs ≡ joined fs (joined gs hs)
joined_associates fs gs hs =
    let a : List (Key × Entry) = pairs_in fs in
    let b : List (Key × Entry) = pairs_in gs in
    let c : List (Key × Entry) = pairs_in hs in
    ap (λ xs. groups_of (xs ++ c)) (pairs_groups (a ++ b))
    ∙ groups_kept (kept_of (a ++ b) ++ c) (a ++ kept_of (b ++ c))
    (half_left (a ++ b) c ∙ ap kept_of (append_three a b c) ∙ sym (half_right a (b ++ c)))
    ∙ ap (λ xs. groups_of (a ++ xs)) (sym (pairs_groups (b ++ c)))

pub joined_repeats : (gs : List (Key × List Entry)) → AreGroups gs → joined gs gs ≡ gs
joined_repeats gs (ps, is) =
    ap₂ joined is is ∙ groups_join ps ps ∙ groups_kept (ps ++ ps) ps (kept_twice ps) ∙ sym is

-- ---- trees

pub merged_leaves : (tree : Tree) → merged tree ≡ groups_of (leaves tree)
merged_leaves (Leaf ps) = refl
merged_leaves (Join one two) = ap₂ joined (merged_leaves one) (merged_leaves two) ∙ groups_join (leaves one) (leaves two)

within_from : (ps qs : List (Key × Entry)) → IsPartOf ps qs → Within ps qs
within_from ps qs part z has = has_from qs z (part z (contains_from ps z has))

pub merged_same : (tree other : Tree) → SameMembers (leaves tree) (leaves other) → merged tree ≡ merged other
merged_same tree other same =
    merged_leaves tree
    ∙ groups_kept (leaves tree) (leaves other)
    (kept_same (leaves tree) (leaves other) (within_from (leaves tree) (leaves other) same.0) (within_from (leaves other) (leaves tree) same.1))
    ∙ sym (merged_leaves other)
