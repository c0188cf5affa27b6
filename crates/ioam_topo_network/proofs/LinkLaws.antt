-- Laws of the links that are collected.
use Rattle.std.proofs.Common.{◌≡◌, ◌≤◌, ℕ, ◌+◌, codes, subst, List, [], ◌∷◌, ◌++◌, length, map, Ok, Err, Result, refl, ap, sym, ◌∙◌, arith}
use Rattle.toml.specs.Data.{Data, Members, get_member}
use Rattle.std.proofs.Common.{Bool, true, false, cond, nat_lt, Option, Some, None}
use Rattle.std.proofs.lemmas.Bool.Decides.{nat_tests}
use Rattle.ioam_topo_values.specs.declared.why.Why.{Why}
use Rattle.ioam_topo_values.specs.declared.why.Why.TheVariants.{TooMany}
use Rattle.ioam_topo_values.specs.Reads.{◌▷◌, maybe, needed}
use Rattle.ioam_topo_values.specs.Texts.{file_name}
use Rattle.ioam_topo_tables.specs.declared.links.Links.{Links}
use Rattle.ioam_topo.specs.declared.parts.Link.{Link}
use Rattle.ioam_topo_entries.specs.Goods.{goods, kept}
use Rattle.ioam_topo_network.specs.LinkTable.{link_keys, link_faults, link_of, link_name, link_from, link_to, link_ends, link_with, link_end, tap_there, tap_count, few_taps}
use Rattle.ioam_topo_network.specs.LinkRead.{HoldsLinks, IsNewLink, from_of}
use Rattle.ioam_topo.specs.Keyed.{name_of_link, count_of, taps_of}
use Rattle.ioam_topo_entries.specs.Keys.{link_rows}
use Rattle.ioam_topo_entries.specs.Rows.{row_numbers}
use Rattle.ioam_topo_entries.proofs.GoodsLaws.{goods_push}
use Rattle.ioam_topo_entries.proofs.NumberLaws.{read_first, read_on}
use Rattle.ioam_topo.proofs.KeyLaws.{map_append}
use Rattle.ioam_topo_entries.proofs.KeyLaws.{kept_by}

pub held_faults : (nodes : List (List ℕ)) (most : ℕ) (earlier : List Members) (links : Links) (place : ℕ) (m : Members) → HoldsLinks nodes most earlier links
    → place ≡ length earlier + 1 → link_keys nodes most place links.names links.taps m ≡ link_faults nodes most earlier m
held_faults nodes most earlier links place m holds there = rw (holds.names, holds.taps, there)

-- a link of parts that were read
pub new_link : (nodes : List (List ℕ)) (m : Members) (name : List ℕ) (from to : ℕ) (numbers : List ℕ) (tap : Option (List ℕ))
    → link_name m ≡ Ok name → link_from nodes m ≡ Ok from → link_to nodes m ≡ Ok to → row_numbers link_rows m ≡ Ok numbers
    → maybe file_name (get_member (codes "tap") m) ≡ Ok tap → link_of nodes m ≡ Ok (link_with name (from, to) numbers tap)
new_link nodes m name from to numbers tap named starts ends numbered tapped =
    let joins : link_ends nodes m ≡ Ok (from, to) = read_on (link_from nodes m) _ from starts ∙ read_on (link_to nodes m) _ to ends in
    read_on (link_name m) _ name named ∙ read_on (link_ends nodes m) _ (from, to) joins ∙ read_on (row_numbers link_rows m) _ numbers numbered
    ∙ read_on (maybe file_name (get_member (codes "tap") m)) _ tap tapped

-- the parts of a link that was read
pub link_read : (nodes : List (List ℕ)) (m : Members) (link : Link) → link_of nodes m ≡ Ok link
    → (link_from nodes m ≡ Ok link.from.0) × (link_to nodes m ≡ Ok link.to.0)
    × ((ns : List ℕ) × (row_numbers link_rows m ≡ Ok ns) × (link_with link.name (link.from.0, link.to.0) ns link.tap ≡ link))
link_read nodes m link is =
    let named = read_first (link_name m) _ link is in
    let joined = read_first (link_ends nodes m) _ link named.2 in
    let starts = read_first (link_from nodes m) _ joined.0 joined.1 in
    let ends = read_first (link_to nodes m) _ joined.0 starts.2 in
    let numbered = read_first (row_numbers link_rows m) _ link joined.2 in
    let tapped = read_first (maybe file_name (get_member (codes "tap") m)) _ link numbered.2 in
    let pair : (starts.0, ends.0) ≡ joined.0 = cc in
    let same : link_with named.0 joined.0 numbered.0 tapped.0 ≡ link = cc in
    let P : Link → Type 0 = λ l. (link_from nodes m ≡ Ok l.from.0) × (link_to nodes m ≡ Ok l.to.0)
    × ((ns : List ℕ) × (row_numbers link_rows m ≡ Ok ns) × (link_with l.name (l.from.0, l.to.0) ns l.tap ≡ l)) in
    subst P same (starts.1 ∙ ap (λ (e : ℕ × ℕ). Ok e.0) pair, ends.1 ∙ ap (λ (e : ℕ × ℕ). Ok e.1) pair, (numbered.0, numbered.1, refl))

taps_more : (ms : List Members) (m : Members) (n : ℕ) → ((taps : List (List ℕ)) → length (kept (tap_there m) taps) ≡ length taps + n)
    → tap_count (ms ++ m ∷ []) ≡ tap_count ms + n
taps_more [] m n more = more []
taps_more (x ∷ ms) m n more = kept_length (tap_there x) (goods tap_there (ms ++ m ∷ [])) (goods tap_there ms) n (taps_more ms m n more) where
  kept_length : (r : Result (List ℕ) Why) (xs ys : List (List ℕ)) (n : ℕ) → length xs ≡ length ys + n → length (kept r xs) ≡ length (kept r ys) + n
  kept_length (Ok x) xs ys n same = omega arith
  kept_length (Err why) xs ys n same = same

taps_push : (links : List Link) (link : Link) → taps_of (links ++ link ∷ []) ≡ taps_of links + count_of link.tap
taps_push [] link = omega arith
taps_push (x ∷ links) link = let e : taps_of (links ++ link ∷ []) ≡ taps_of links + count_of link.tap = taps_push links link in omega (arith, e)

pub link_added : (nodes : List (List ℕ)) (most : ℕ) (earlier : List Members) (m : Members) (text : List ℕ) (link : Link) (old new : Links)
    → HoldsLinks nodes most earlier old → IsNewLink nodes most old m text link
    → new.items.items ≡ old.items.items ++ link ∷ [] → new.names ≡ old.names ++ link.name ∷ [] → new.taps ≡ old.taps + count_of link.tap
    → HoldsLinks nodes most (earlier ++ m ∷ []) new
link_added nodes most earlier m text link old new holds fits items names taps = record {
  items = goods_push (link_of nodes) earlier m link _ _ fits.is holds.items items;
  ends = goods_push (link_end nodes) earlier m (from_of link) _ _ fits.end_is holds.ends
      (ap (map from_of) items ∙ map_append from_of old.items.items (link ∷ []));
  names = goods_push link_name earlier m link.name _ _ fits.name_is holds.names names;
  named = kept_by name_of_link old.items.items new.items.items link _ _ holds.named items names;
  taps = taps ∙ ap (λ n. n + count_of link.tap) holds.taps ∙ sym (taps_more earlier m (count_of link.tap) fits.tap_is);
  tapped = taps ∙ ap (λ n. n + count_of link.tap) holds.tapped ∙ sym (ap taps_of items ∙ taps_push old.items.items link);
  few_taps = let f : old.taps + count_of link.tap ≤ most = fits.room holds.few_taps in omega (arith, f, taps);
}

under_most : (b : Bool) (file : List ℕ) (tap : Option (List ℕ)) (r : Result (Option (List ℕ)) Why) → r ≡ cond b (Ok (Some file)) (Err TooMany)
    → r ≡ Ok tap → tap ≡ Some file
under_most true file tap r are is = cc
under_most false file tap r are is = cc

-- what a tap reads as, however many there may be
pub tap_read : (most taps : ℕ) (r : Result (Option (List ℕ)) Why) (tap : Option (List ℕ)) → r ▷ few_taps most taps ≡ Ok tap → r ≡ Ok tap
tap_read most taps (Ok None) tap is = is
tap_read most taps (Ok (Some file)) tap is = ap Ok (sym (under_most (nat_lt taps most) file tap (Ok (Some file) ▷ few_taps most taps) refl is))
tap_read most taps (Err why) tap is = cc

in_room : (b : Bool) (most taps : ℕ) (file : List ℕ) (tap : Option (List ℕ)) → nat_lt taps most ≡ b → cond b (Ok (Some file)) (Err TooMany) ≡ Ok tap
    → taps + count_of tap ≤ most
in_room true most taps file tap lt is = let some : tap ≡ Some file = cc in
    let below : taps + 1 ≤ most = grind (arith, nat_tests, lt) in rw some below
in_room false most taps file tap lt is = cc

-- with a tap that is read there are no more than the most
pub tap_room : (most taps : ℕ) (r : Result (Option (List ℕ)) Why) (tap : Option (List ℕ)) → r ▷ few_taps most taps ≡ Ok tap → taps ≤ most
    → taps + count_of tap ≤ most
tap_room most taps (Ok None) tap is few = let none : tap ≡ None = cc in rw none (omega (arith, few))
tap_room most taps (Ok (Some file)) tap is few = in_room (nat_lt taps most) most taps file tap refl is
tap_room most taps (Err why) tap is few = cc

counted : (r : Result (List ℕ) Why) (tap : Option (List ℕ)) → r ▷ (λ x. Ok (Some x)) ≡ Ok tap
    → (taps : List (List ℕ)) → length (kept r taps) ≡ length taps + count_of tap
counted (Ok file) tap is taps = let some : tap ≡ Some file = cc in rw some (omega arith)
counted (Err why) tap is taps = cc

-- a tap that is there counts
pub tap_counts : (d : Option Data) (tap : Option (List ℕ)) → maybe file_name d ≡ Ok tap
    → (taps : List (List ℕ)) → length (kept (needed file_name d) taps) ≡ length taps + count_of tap
tap_counts None tap is taps = let none : tap ≡ None = cc in rw none (omega arith)
tap_counts (Some d) tap is taps = counted (file_name d) tap is taps
