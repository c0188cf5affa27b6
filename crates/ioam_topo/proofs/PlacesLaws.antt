-- Laws of where keys are found.
use Rattle.std.proofs.Common.{◌≡◌, ◌<◌, ◌≤◌, ℕ, zero, suc, ◌+◌, ◌-◌, Bool, true, false, cond, ◌||◌, List, [], ◌∷◌, length, drop, slice_index_or, Option, Some, None, is_some, IfSome, map, nat_lt, option_map, arith, refl, ap, sym, subst, ◌∙◌}
use Rattle.std.specs.List.{list_any, position, position_or_len, position_from}
use Rattle.std.proofs.lemmas.Iterator.Adapters.{position_from-zero}
use Rattle.std.proofs.lemmas.Bool.Decides.{nat_tests}
use Rattle.std.specs.Str.{bytes_eq}
use Rattle.ioam_topo.specs.declared.ids.NodeId.{NodeId}
use Rattle.ioam_topo.specs.declared.ids.LinkId.{LinkId}
use Rattle.ioam_topo.specs.declared.parts.Node.{Node}
use Rattle.ioam_topo.specs.declared.parts.Link.{Link}
use Rattle.ioam_topo.specs.Keyed.{place_of, name_of_node, name_of_link}
use Rattle.ioam_topo.proofs.KeyLaws.{length_map, position_map}

there_more : {K : Type 0} (test : K → Bool) (at : ℕ) (k : K) (ks : List K) → is_some (position_from test (at + 1) ks) ≡ list_any test ks
    → (b : Bool) → is_some (cond b (Some at) (position_from test (at + 1) ks)) ≡ (b || list_any test ks)
there_more test at k ks rest true = refl
there_more test at k ks rest false = rest

-- a key is there where it has a place
there_from : {K : Type 0} (test : K → Bool) (at : ℕ) (keys : List K) → is_some (position_from test at keys) ≡ list_any test keys
there_from test at [] = refl
there_from test at (k ∷ ks) = there_more test at k ks (there_from test (at + 1) ks) (test k)

pub is_there : {K : Type 0} (test : K → Bool) (keys : List K) → is_some (position test keys) ≡ list_any test keys
is_there test keys = ap is_some (position_from-zero test keys) ∙ there_from test 0 keys

-- the place of a key among these from a place on
abbrev pub ArePlacesFrom : {K : Type 0} → (K → K → Bool) → ℕ → List K → (K → Option ℕ) → Type 0
ArePlacesFrom {K} eq at keys places = (key : K) → places key ≡ position_from (eq key) at keys

place_before : {K : Type 0} (eq : K → K → Bool) → ((x y : K) → eq x y ≡ eq y x) → (at : ℕ) (k : K) (keys : List K) (old new : K → Option ℕ)
    → ArePlacesFrom eq (at + 1) keys old → ((q : K) → new q ≡ cond (eq k q) (Some at) (old q)) → ArePlacesFrom eq at (k ∷ keys) new
place_before eq symm at k keys old new are put q = put q ∙ ap (λ b. cond b (Some at) (old q)) (symm k q) ∙ ap (λ o. cond (eq q k) (Some at) o) (are q)

drop_before : {A : Type 0} (xs : List A) (n : ℕ) (x : A) → n < length xs → x ≡ slice_index_or xs n x → drop n xs ≡ x ∷ drop (n + 1) xs
drop_before [] n x lt is = absurd (omega (arith, lt))
drop_before (y ∷ xs) zero x lt is = ap (λ z. z ∷ xs) (sym is)
drop_before (y ∷ xs) (suc n) x lt is =
    let up : suc (n + 1) ≡ suc n + 1 = omega arith in drop_before xs n x (omega (arith, lt)) is ∙ ap (λ k. x ∷ drop k (y ∷ xs)) up

-- with the key before these
pub place_more : {K : Type 0} (eq : K → K → Bool) → ((x y : K) → eq x y ≡ eq y x) → (left : ℕ) (k : K) (keys : List K) (old new : K → Option ℕ) → 0 < left → left ≤ length keys
    → k ≡ slice_index_or keys (left - 1) k → ArePlacesFrom eq left (drop left keys) old → ((q : K) → new q ≡ cond (eq k q) (Some (left - 1)) (old q))
    → ArePlacesFrom eq (left - 1) (drop (left - 1) keys) new
place_more eq symm left k keys old new some le is are put q =
    let up : left ≡ left - 1 + 1 = omega (arith, some) in
    let before : ArePlacesFrom eq (left - 1 + 1) (drop (left - 1 + 1) keys) old = subst (λ n. ArePlacesFrom eq n (drop n keys) old) up are in
    place_before eq symm (left - 1) k (drop (left - 1 + 1) keys) old new before put q ∙ ap (position_from (eq q) (left - 1)) (sym (drop_before keys (left - 1) k (omega (arith, some, le)) is))

-- when all keys were looked at
pub places_all : {K : Type 0} (eq : K → K → Bool) (left : ℕ) (keys : List K) (places : K → Option ℕ) → left ≤ 0 → ArePlacesFrom eq left (drop left keys) places
    → (q : K) → places q ≡ position (eq q) keys
places_all eq left keys places none are q =
    let zero_left : left ≡ 0 = omega (arith, none) in
    are q ∙ ap (λ n. position_from (eq q) n (drop n keys)) zero_left ∙ sym (position_from-zero (eq q) keys)

-- a place that was found is within
pub place_within : {A K : Type 0} (test : K → Bool) (key : A → K) (xs : List A) → IfSome (position test (map key xs)) (λ at. at < length xs)
place_within test key xs = one (nat_lt (position_or_len test (map key xs)) (length (map key xs))) refl where
  one : (b : Bool) → nat_lt (position_or_len test (map key xs)) (length (map key xs)) ≡ b
      → IfSome (cond b (Some (position_or_len test (map key xs))) None) (λ at. at < length xs)
  one true lt = let n = length_map key xs in grind (arith, nat_tests, lt, n)
  one false lt = tt

abbrev node_at : Option ℕ → Option NodeId
node_at o = option_map (λ at. record { 0 = at }) o

abbrev link_at : Option ℕ → Option LinkId
link_at o = option_map (λ at. record { 0 = at }) o

-- the node, and the link, of a name whose place was found
pub node_named : (nodes : List Node) (name : List ℕ) (o : Option ℕ) → o ≡ position (λ (node : Node). bytes_eq name node.name) nodes
    → node_at o ≡ node_at (place_of (map name_of_node nodes) name)
node_named nodes name o found = ap node_at (found ∙ position_map (bytes_eq name) name_of_node nodes)

pub link_named : (links : List Link) (name : List ℕ) (o : Option ℕ) → o ≡ position (λ (link : Link). bytes_eq name link.name) links
    → link_at o ≡ link_at (place_of (map name_of_link links) name)
link_named links name o found = ap link_at (found ∙ position_map (bytes_eq name) name_of_link links)
