-- Laws of the outputs of a run.
use Rattle.std.proofs.Common.{◌≡◌, ℕ, zero, suc, ◌+◌, ◌<◌, List, [], ◌∷◌, ◌++◌, map, length, take, get_or, slice_get, Option, Some, None, IsSome, IsSomeAnd, refl, sym, ◌∙◌, ap, subst, append-nil, append_assoc, length-append, arith}
use Rattle.std.specs.List.{All}
use Rattle.std.proofs.Math.Seq.{get_or-append_seam}
use Rattle.std.proofs.lemmas.Option.{slice_get-get_or}
use Rattle.std.proofs.lemmas.List.{length-map, length-take-le, take_more}
use Rattle.std.proofs.lemmas.List.Elements.{All-nil, All-cons, All-append}
use Rattle.ioam_topo.specs.Domain.{links, ports}
use Rattle.ioam_topo.specs.Keyed.{count_of, taps_of}
use Rattle.ioam_topo.specs.declared.domain.Domain.{Domain}
use Rattle.ioam_topo.specs.declared.ids.LinkId.{LinkId}
use Rattle.ioam_topo.specs.declared.parts.Link.{Link}
use Rattle.ioam_run_outputs.specs.Outlets.{tap_at, tapped_from, tapped, HasTap, outlet_count, each_from, of_outlets}

-- one link more at the end
pub tapped_more : (place : ℕ) (links : List Link) (link : Link)
    → tapped_from place (links ++ link ∷ []) ≡ tapped_from place links ++ tap_at (place + length links) link.tap
tapped_more place [] link = append-nil (tap_at place link.tap) ∙ ap (λ n. tap_at n link.tap) (omega arith)
tapped_more place (first ∷ links) link =
    let next : suc place + length links ≡ place + length (first ∷ links) = omega arith in
    ap (λ l. tap_at place first.tap ++ l) (tapped_more (suc place) links link)
    ∙ sym (append_assoc (tap_at place first.tap) (tapped_from (suc place) links) (tap_at (suc place + length links) link.tap))
    ∙ ap (λ n. (tap_at place first.tap ++ tapped_from (suc place) links) ++ tap_at n link.tap) next

-- the link at a place behind those before it
pub tapped_step : (links : List Link) (place : ℕ) (link : Link) (ids new : List LinkId) → place < length links → link ≡ get_or links place link
    → ids ≡ tapped (take place links) → new ≡ ids ++ tap_at place link.tap → new ≡ tapped (take (place + 1) links)
tapped_step links place link ids new inside is before now =
    let so_far = take place links in
    let count : 0 + length so_far ≡ place = omega (arith, length-take-le place links) in
    let next : take (place + 1) links ≡ so_far ++ link ∷ []
    = take_more links place link inside ∙ ap (λ (l : Link). so_far ++ l ∷ []) (sym is) in
    now ∙ ap (λ (l : List LinkId). l ++ tap_at place link.tap) before
    ∙ ap (λ (n : ℕ). tapped so_far ++ tap_at n link.tap) (sym count)
    ∙ sym (tapped_more 0 so_far link) ∙ ap tapped (sym next)

-- as many as have a tap
length-tap_at : (place : ℕ) (tap : Option (List ℕ)) → length (tap_at place tap) ≡ count_of tap
length-tap_at place None = refl
length-tap_at place (Some name) = refl

as_many : (place : ℕ) (links : List Link) → length (tapped_from place links) ≡ taps_of links
as_many place [] = refl
as_many place (link ∷ links) = omega (
  arith,
  length-append (tap_at place link.tap) (tapped_from (suc place) links),
  length-tap_at place link.tap,
  as_many (suc place) links,
)

pub length-tapped : (links : List Link) → length (tapped links) ≡ taps_of links
length-tapped links = as_many 0 links

-- one link more, counted
taps_push : (links : List Link) (link : Link) → taps_of (links ++ link ∷ []) ≡ taps_of links + count_of link.tap
taps_push [] link = omega arith
taps_push (first ∷ links) link = let rest : taps_of (links ++ link ∷ []) ≡ taps_of links + count_of link.tap = taps_push links link in omega (arith, rest)

-- these links are below a number
abbrev AreBelow : ℕ → List LinkId → Type 0
AreBelow most ids = All (λ link. link.0 < most) ids

link_below : (most place : ℕ) (tap : Option (List ℕ)) → place < most → AreBelow most (tap_at place tap)
link_below most place None below = All-nil (λ (link : LinkId). link.0 < most)
link_below most place (Some name) below = All-cons (λ (link : LinkId). link.0 < most) (record { 0 = place }) [] below
    (All-nil (λ (link : LinkId). link.0 < most))

links_below : (place : ℕ) (links : List Link) → AreBelow (place + length links) (tapped_from place links)
links_below place [] = All-nil (λ (link : LinkId). link.0 < place + 0)
links_below place (link ∷ links) =
    let most = place + length (link ∷ links) in
    let next : suc place + length links ≡ most = omega arith in
    let below : place < most = omega arith in
    All-append (λ (id : LinkId). id.0 < most) (tap_at place link.tap) (tapped_from (suc place) links) (link_below most place link.tap below)
    (subst (λ (n : ℕ). AreBelow n (tapped_from (suc place) links)) next (links_below (suc place) links))

-- they are links of the file
pub tapped_inside : (links : List Link) → All (λ link. link.0 < length links) (tapped links)
tapped_inside links = let same : 0 + length links ≡ length links = omega arith in
    subst (λ (n : ℕ). AreBelow n (tapped links)) same (links_below 0 links)

-- and each has a tap
one_has : (all : List Link) (place : ℕ) (link : Link) (tap : Option (List ℕ)) → slice_get all place ≡ Some link → link.tap ≡ tap
    → All (HasTap all) (tap_at place tap)
one_has all place link None found is = All-nil (HasTap all)
one_has all place link (Some name) found is =
    let P : Option Link → Type 0 = λ at. IsSomeAnd at (λ (l : Link). IsSome l.tap) in
    let Q : Option (List ℕ) → Type 0 = λ t. IsSome t in
    let has : IsSome link.tap = subst Q (sym is) refl in
    All-cons (HasTap all) (record { 0 = place }) [] (subst P (sym found) has) (All-nil (HasTap all))

have_from : (front links : List Link) → All (HasTap (front ++ links)) (tapped_from (length front) links)
have_from front [] = All-nil (HasTap (front ++ []))
have_from front (link ∷ links) =
    let all = front ++ link ∷ links in
    let there : slice_get all (length front) ≡ Some link
    = slice_get-get_or all (length front) link (omega (arith, length-append front (link ∷ links)))
    ∙ ap (λ (l : Link). Some l) (get_or-append_seam front link links link) in
    let grown : (front ++ link ∷ []) ++ links ≡ all = append_assoc front (link ∷ []) links in
    let count : length (front ++ link ∷ []) ≡ suc (length front) = omega (arith, length-append front (link ∷ [])) in
    let P : ℕ → Type 0 = λ n. All (HasTap ((front ++ link ∷ []) ++ links)) (tapped_from n links) in
    let Q : List Link → Type 0 = λ l. All (HasTap l) (tapped_from (suc (length front)) links) in
    All-append (HasTap all) (tap_at (length front) link.tap) (tapped_from (suc (length front)) links)
    (one_has all (length front) link link.tap there refl)
    (subst Q grown (subst P count (have_from (front ++ link ∷ []) links)))

pub tapped_have : (links : List Link) → All (HasTap links) (tapped links)
tapped_have links = have_from [] links

-- so many
pub length-each_from : {A : Type 0} (count place : ℕ) (f : ℕ → A) → length (each_from count place f) ≡ count
length-each_from zero place f = refl
length-each_from (suc count) place f = ap suc (length-each_from count (suc place) f)

-- one thing for each output
pub length-of_outlets : {A : Type 0} (domain : Domain) (port tap : ℕ → A) (report exports : A)
    → length (of_outlets domain port tap report exports) ≡ outlet_count domain
length-of_outlets domain port tap report exports =
    let front = each_from (length (ports domain)) 0 port in
    let taps = map (λ (link : LinkId). tap link.0) (tapped (links domain)) in
    omega (
      arith,
      length-append front (taps ++ report ∷ exports ∷ []),
      length-append taps (report ∷ exports ∷ []),
      length-each_from (length (ports domain)) 0 port,
      length-map (tapped (links domain)) (λ (link : LinkId). tap link.0),
    )

-- what is made of each
pub map-each_from : {A B : Type 0} (g : A → B) (count place : ℕ) (f : ℕ → A) → map g (each_from count place f) ≡ each_from count place (λ n. g (f n))
map-each_from g zero place f = refl
map-each_from g (suc count) place f = ap (λ l. g (f place) ∷ l) (map-each_from g count (suc place) f)

-- what is read of each thing at its place, from a place on
each_behind : {A B : Type 0} (g : Option A → B) (front xs : List A)
    → each_from (length xs) (length front) (λ n. g (slice_get (front ++ xs) n)) ≡ map (λ x. g (Some x)) xs
each_behind g front [] = refl
each_behind {A} {B} g front (x ∷ xs) =
    let all = front ++ x ∷ xs in
    let there : slice_get all (length front) ≡ Some x
    = slice_get-get_or all (length front) x (omega (arith, length-append front (x ∷ xs)))
    ∙ ap (λ (y : A). Some y) (get_or-append_seam front x xs x) in
    let grown : (front ++ x ∷ []) ++ xs ≡ all = append_assoc front (x ∷ []) xs in
    let count : length (front ++ x ∷ []) ≡ suc (length front) = omega (arith, length-append front (x ∷ [])) in
    let P : ℕ → Type 0 = λ m. each_from (length xs) m (λ n. g (slice_get ((front ++ x ∷ []) ++ xs) n)) ≡ map (λ y. g (Some y)) xs in
    let Q : List A → Type 0 = λ l. each_from (length xs) (suc (length front)) (λ n. g (slice_get l n)) ≡ map (λ y. g (Some y)) xs in
    ap (λ (at : Option A). g at ∷ each_from (length xs) (suc (length front)) (λ n. g (slice_get all n))) there
    ∙ ap (λ (l : List B). g (Some x) ∷ l) (subst Q grown (subst P count (each_behind g (front ++ x ∷ []) xs)))
