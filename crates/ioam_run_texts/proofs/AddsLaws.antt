-- Octets that are added to the outputs of a run, by what each of them is for.
use Rattle.std.proofs.Common.{◌≡◌, ℕ, zero, suc, ◌+◌, ◌<◌, ◌≤◌, List, [], ◌∷◌, ◌++◌, map, length, get_or, set, refl, sym, ◌∙◌, ap, append_assoc, append-nil, length-append, arith, subst}
use Rattle.std.specs.Prelude.{⊤}
use Rattle.std.specs.List.{All}
use Rattle.std.proofs.lemmas.List.{length-map}
use Rattle.std.proofs.lemmas.List.Elements.{All-head, All-tail}
use Rattle.ioam_run_outputs.specs.Outlets.{each_from, of_outlets, tapped, outlet_count, HasTap}
use Rattle.ioam_run_outputs.proofs.OutletsLaws.{length-each_from, length-of_outlets, tapped_have}
use Rattle.ioam_desk_outputs.specs.Told.{Adds, said_more}
use Rattle.ioam_desk_outputs.specs.declared.output.Output.{Output}
use Rattle.ioam_topo.specs.Domain.{links, ports}
use Rattle.ioam_topo.specs.declared.domain.Domain.{Domain}
use Rattle.ioam_topo.specs.declared.ids.LinkId.{LinkId}
use Rattle.ioam_topo.specs.declared.parts.Link.{Link}

-- ---- texts of all outputs

-- a text for each of these links
abbrev by_link : (ℕ → List ℕ) → List LinkId → List (List ℕ)
by_link f ids = map (λ (link : LinkId). f link.0) ids

-- equal ones
same-each : (n from : ℕ) (f g : ℕ → List ℕ) → ((k : ℕ) → from ≤ k → k < from + n → f k ≡ g k) → each_from n from f ≡ each_from n from g
same-each zero from f g same = refl
same-each (suc n) from f g same = ap (λ (t : List ℕ). t ∷ each_from n (suc from) f) (same from (omega arith) (omega arith))
    ∙ ap (λ (rest : List (List ℕ)). g from ∷ rest) (same-each n (suc from) f g (λ k le lt. same k (omega (arith, le)) (omega (arith, lt))))

same-links : (all : List Link) (ids : List LinkId) (f g : ℕ → List ℕ) → All (HasTap all) ids
    → ((link : LinkId) → HasTap all link → f link.0 ≡ g link.0) → by_link f ids ≡ by_link g ids
same-links all [] f g have same = refl
same-links all (id ∷ ids) f g have same = ap (λ (t : List ℕ). t ∷ by_link f ids) (same id (All-head (HasTap all) id ids have))
    ∙ ap (λ (rest : List (List ℕ)). g id.0 ∷ rest) (same-links all ids f g (All-tail (HasTap all) id ids have) same)

pub same-outlets : (domain : Domain) (port exit tap cross : ℕ → List ℕ) (report lines exports records : List ℕ)
    → ((k : ℕ) → k < length (ports domain) → port k ≡ exit k) → ((link : LinkId) → HasTap (links domain) link → tap link.0 ≡ cross link.0)
    → report ≡ lines → exports ≡ records → of_outlets domain port tap report exports ≡ of_outlets domain exit cross lines records
same-outlets domain port exit tap cross report lines exports records ports-same taps-same report-same exports-same =
    let n = length (ports domain) in
    let ids = tapped (links domain) in
    ap (λ (ts : List (List ℕ)). ts ++ (by_link tap ids ++ report ∷ exports ∷ [])) (same-each n 0 port exit (λ k le lt. ports-same k (omega (arith, lt))))
    ∙ ap (λ (ts : List (List ℕ)). each_from n 0 exit ++ (ts ++ report ∷ exports ∷ []))
    (same-links (links domain) ids tap cross (tapped_have (links domain)) taps-same)
    ∙ ap (λ (t : List ℕ). each_from n 0 exit ++ (by_link cross ids ++ t ∷ exports ∷ [])) report-same
    ∙ ap (λ (t : List ℕ). each_from n 0 exit ++ (by_link cross ids ++ lines ∷ t ∷ [])) exports-same

-- each with its own octets behind it
said-each : (n from : ℕ) (f g : ℕ → List ℕ) (xs ys : List (List ℕ))
    → said_more (each_from n from f ++ xs) (each_from n from g ++ ys) ≡ each_from n from (λ k. f k ++ g k) ++ said_more xs ys
said-each zero from f g xs ys = refl
said-each (suc n) from f g xs ys = ap (λ (rest : List (List ℕ)). (f from ++ g from) ∷ rest) (said-each n (suc from) f g xs ys)

said-links : (ids : List LinkId) (f g : ℕ → List ℕ) (xs ys : List (List ℕ))
    → said_more (by_link f ids ++ xs) (by_link g ids ++ ys) ≡ by_link (λ k. f k ++ g k) ids ++ said_more xs ys
said-links [] f g xs ys = refl
said-links (id ∷ ids) f g xs ys = ap (λ (rest : List (List ℕ)). (f id.0 ++ g id.0) ∷ rest) (said-links ids f g xs ys)

pub said-outlets : (domain : Domain) (port exit tap cross : ℕ → List ℕ) (report lines exports records : List ℕ)
    → said_more (of_outlets domain port tap report exports) (of_outlets domain exit cross lines records)
    ≡ of_outlets domain (λ k. port k ++ exit k) (λ k. tap k ++ cross k) (report ++ lines) (exports ++ records)
said-outlets domain port exit tap cross report lines exports records =
    let n = length (ports domain) in
    let ids = tapped (links domain) in
    said-each n 0 port exit (by_link tap ids ++ report ∷ exports ∷ []) (by_link cross ids ++ lines ∷ records ∷ [])
    ∙ ap (λ (ts : List (List ℕ)). each_from n 0 (λ k. port k ++ exit k) ++ ts) (said-links ids tap cross (report ∷ exports ∷ []) (lines ∷ records ∷ []))

-- ---- octets added one after the other

pub Adds-twice : (a b c : List Output) (xs ys : List (List ℕ)) → Adds a b xs → Adds b c ys → Adds a c (said_more xs ys)
Adds-twice [] [] [] [] [] first second = tt
Adds-twice (o ∷ a) (m ∷ b) (n ∷ c) (x ∷ xs) (y ∷ ys) first second = (
  second.0 ∙ first.0,
  second.1 ∙ ap (λ (t : List ℕ). t ++ y) first.1 ∙ append_assoc o.gathered.items x y,
  Adds-twice a b c xs ys first.2 second.2,
)
Adds-twice [] [] [] [] (y ∷ ys) first second = absurd second
Adds-twice [] [] (n ∷ c) [] ys first second = absurd second
Adds-twice [] [] c (x ∷ xs) ys first second = absurd first
Adds-twice [] (m ∷ b) c xs ys first second = absurd first
Adds-twice (o ∷ a) [] c xs ys first second = absurd first
Adds-twice (o ∷ a) (m ∷ b) c [] ys first second = absurd first
Adds-twice (o ∷ a) (m ∷ b) [] (x ∷ xs) ys first second = absurd second
Adds-twice (o ∷ a) (m ∷ b) (n ∷ c) (x ∷ xs) [] first second = absurd second

pub Adds-length : (a b : List Output) (xs : List (List ℕ)) → Adds a b xs → length b ≡ length a
Adds-length [] [] [] adds = refl
Adds-length (o ∷ a) (m ∷ b) (x ∷ xs) adds = omega (arith, Adds-length a b xs adds.2)
Adds-length [] [] (x ∷ xs) adds = absurd adds
Adds-length [] (m ∷ b) xs adds = absurd adds
Adds-length (o ∷ a) [] xs adds = absurd adds
Adds-length (o ∷ a) (m ∷ b) [] adds = absurd adds

kept : (xs ys : List ℕ) → ys ≡ [] → xs ≡ xs ++ ys
kept xs ys none = sym (append-nil xs) ∙ ap (λ (t : List ℕ). xs ++ t) (sym none)

-- ---- octets added to one output

-- nothing is said in any of these texts
abbrev Silent : List (List ℕ) → Type 0
Silent [] = ⊤
Silent (text ∷ texts) = (text ≡ []) × Silent texts

silent-each : (n from : ℕ) (f : ℕ → List ℕ) → ((k : ℕ) → from ≤ k → f k ≡ []) → Silent (each_from n from f)
silent-each zero from f none = tt
silent-each (suc n) from f none = (none from (omega arith), silent-each n (suc from) f (λ k le. none k (omega (arith, le))))

silent-links : (ids : List LinkId) → Silent (by_link (λ k. []) ids)
silent-links [] = tt
silent-links (id ∷ ids) = (refl, silent-links ids)

silent-both : (xs ys : List (List ℕ)) → Silent xs → Silent ys → Silent (xs ++ ys)
silent-both [] ys first second = second
silent-both (x ∷ xs) ys first second = (first.0, silent-both xs ys first.1 second)

silent-adds : (outputs : List Output) (xs : List (List ℕ)) → Silent xs → length outputs ≡ length xs → Adds outputs outputs xs
silent-adds [] [] silent long = tt
silent-adds (o ∷ outputs) (x ∷ xs) silent long =
    (refl, kept o.gathered.items x silent.0, silent-adds outputs xs silent.1 (omega (arith, long)))
silent-adds [] (x ∷ xs) silent long = absurd (omega (arith, long))
silent-adds (o ∷ outputs) [] silent long = absurd (omega (arith, long))

-- a text between others in which nothing is said
one-adds : (front : List (List ℕ)) (text : List ℕ) (back : List (List ℕ)) (outputs : List Output) (d after : Output) (at : ℕ)
    → Silent front → Silent back → at ≡ length front → length outputs ≡ length (front ++ text ∷ back)
    → after.slot ≡ (get_or outputs at d).slot → after.gathered.items ≡ (get_or outputs at d).gathered.items ++ text
    → Adds outputs (set outputs at after) (front ++ text ∷ back)
one-adds [] text back [] d after at before behind place long slot adds = absurd (omega (arith, long))
one-adds (x ∷ front) text back [] d after at before behind place long slot adds = absurd (omega (arith, long))
one-adds [] text back (o ∷ outputs) d after zero before behind place long slot adds =
    (slot, adds, silent-adds outputs back behind (omega (arith, long)))
one-adds [] text back (o ∷ outputs) d after (suc at) before behind place long slot adds = absurd (omega (arith, place))
one-adds (x ∷ front) text back (o ∷ outputs) d after zero before behind place long slot adds = absurd (omega (arith, place))
one-adds (x ∷ front) text back (o ∷ outputs) d after (suc at) before behind place long slot adds = (
  refl,
  kept o.gathered.items x before.0,
  one-adds front text back outputs d after at before.1 behind (omega (arith, place)) (omega (arith, long)) slot adds,
)

-- ---- octets added to the output of a port

port-adds : (n from at : ℕ) (outputs : List Output) (d after : Output) (f : ℕ → List ℕ) (place : ℕ) (rest : List (List ℕ)) → Silent rest
    → place ≡ from + at → at < n → ((k : ℕ) → (k ≡ place → ⊥) → f k ≡ []) → length outputs ≡ n + length rest
    → after.slot ≡ (get_or outputs at d).slot → after.gathered.items ≡ (get_or outputs at d).gathered.items ++ f place
    → Adds outputs (set outputs at after) (each_from n from f ++ rest)
port-adds zero from at outputs d after f place rest behind is inside none long slot adds = absurd (omega (arith, inside))
port-adds (suc n) from at [] d after f place rest behind is inside none long slot adds = absurd (omega (arith, long))
port-adds (suc n) from zero (o ∷ outputs) d after f place rest behind is inside none long slot adds =
    let here : place ≡ from = omega (arith, is) in
    let each : Silent (each_from n (suc from) f) = silent-each n (suc from) f (λ k le. none k (λ same. omega (arith, same, here, le))) in (
      slot,
      adds ∙ ap (λ (k : ℕ). o.gathered.items ++ f k) here,
      silent-adds outputs (each_from n (suc from) f ++ rest) (silent-both (each_from n (suc from) f) rest each behind)
          (omega (arith, long, length-append (each_from n (suc from) f) rest, length-each_from n (suc from) f)),
    )
port-adds (suc n) from (suc at) (o ∷ outputs) d after f place rest behind is inside none long slot adds = (
  refl,
  kept o.gathered.items (f from) (none from (λ same. omega (arith, same, is))),
  port-adds n (suc from) at outputs d after f place rest behind (omega (arith, is)) (omega (arith, inside)) none (omega (arith, long)) slot adds,
)

links-silent : (ids : List LinkId) → Silent (by_link (λ k. []) ids ++ [] ∷ [] ∷ [])
links-silent ids = silent-both (by_link (λ k. []) ids) ([] ∷ [] ∷ []) (silent-links ids) (refl, (refl, tt))

pub port-told : (domain : Domain) (outputs : List Output) (d after : Output) (port : ℕ → List ℕ) (at : ℕ) → at < length (ports domain)
    → ((k : ℕ) → (k ≡ at → ⊥) → port k ≡ []) → length outputs ≡ outlet_count domain
    → after.slot ≡ (get_or outputs at d).slot → after.gathered.items ≡ (get_or outputs at d).gathered.items ++ port at
    → Adds outputs (set outputs at after) (of_outlets domain port (λ k. []) [] [])
port-told domain outputs d after port at inside none long slot adds =
    let ids = tapped (links domain) in
    port-adds (length (ports domain)) 0 at outputs d after port at (by_link (λ k. []) ids ++ [] ∷ [] ∷ []) (links-silent ids)
    (omega arith) inside none
    (omega (arith, long, length-append (by_link (λ k. []) ids) ([] ∷ [] ∷ []), length-map {B = List ℕ} ids (λ (link : LinkId). [])))
    slot adds

-- nothing is told
pub none-told : (domain : Domain) (outputs : List Output) (port : ℕ → List ℕ) → ((k : ℕ) → port k ≡ [])
    → length outputs ≡ outlet_count domain → Adds outputs outputs (of_outlets domain port (λ k. []) [] [])
none-told domain outputs port none long =
    let n = length (ports domain) in
    let rest = by_link (λ k. []) (tapped (links domain)) ++ [] ∷ [] ∷ [] in
    silent-adds outputs (each_from n 0 port ++ rest)
    (silent-both (each_from n 0 port) rest (silent-each n 0 port (λ k le. none k)) (links-silent (tapped (links domain))))
    (long ∙ sym (length-of_outlets domain port (λ k. []) [] []))

-- ---- octets added to the report, and to the exports

front-of : Domain → List (List ℕ)
front-of domain = each_from (length (ports domain)) 0 (λ k. []) ++ by_link (λ k. []) (tapped (links domain))

front-silent : (domain : Domain) → Silent (front-of domain)
unfolding front-of
front-silent domain = silent-both (each_from (length (ports domain)) 0 (λ k. [])) (by_link (λ k. []) (tapped (links domain)))
    (silent-each (length (ports domain)) 0 (λ k. []) (λ k le. refl)) (silent-links (tapped (links domain)))

front-length : (domain : Domain) → length (front-of domain) ≡ length (ports domain) + length (tapped (links domain))
unfolding front-of
front-length domain = omega (
  arith,
  length-append (each_from (length (ports domain)) 0 (λ k. [])) (by_link (λ k. []) (tapped (links domain))),
  length-each_from {A = List ℕ} (length (ports domain)) 0 (λ k. []),
  length-map {B = List ℕ} (tapped (links domain)) (λ (link : LinkId). []),
)

front-then : (domain : Domain) (report exports : List ℕ) → front-of domain ++ report ∷ exports ∷ [] ≡ of_outlets domain (λ k. []) (λ k. []) report exports
unfolding front-of
front-then domain report exports =
    append_assoc (each_from (length (ports domain)) 0 (λ k. [])) (by_link (λ k. []) (tapped (links domain))) (report ∷ exports ∷ [])

pub report-told : (domain : Domain) (outputs : List Output) (d after : Output) (report : List ℕ) (at : ℕ)
    → at ≡ length (ports domain) + length (tapped (links domain)) → length outputs ≡ outlet_count domain
    → after.slot ≡ (get_or outputs at d).slot → after.gathered.items ≡ (get_or outputs at d).gathered.items ++ report
    → Adds outputs (set outputs at after) (of_outlets domain (λ k. []) (λ k. []) report [])
report-told domain outputs d after report at place long slot adds =
    subst (Adds outputs (set outputs at after)) (front-then domain report [])
    (one-adds (front-of domain) report ([] ∷ []) outputs d after at (front-silent domain) (refl, tt) (place ∙ sym (front-length domain))
    (omega (arith, long, length-append (front-of domain) (report ∷ [] ∷ []), front-length domain)) slot adds)

pub exports-told : (domain : Domain) (outputs : List Output) (d after : Output) (exports : List ℕ) (at : ℕ)
    → at ≡ length (ports domain) + length (tapped (links domain)) + 1 → length outputs ≡ outlet_count domain
    → after.slot ≡ (get_or outputs at d).slot → after.gathered.items ≡ (get_or outputs at d).gathered.items ++ exports
    → Adds outputs (set outputs at after) (of_outlets domain (λ k. []) (λ k. []) [] exports)
exports-told domain outputs d after exports at place long slot adds =
    let front = front-of domain ++ [] ∷ [] in
    let whole : front ++ exports ∷ [] ≡ of_outlets domain (λ k. []) (λ k. []) [] exports
    = append_assoc (front-of domain) ([] ∷ []) (exports ∷ []) ∙ front-then domain [] exports in
    subst (Adds outputs (set outputs at after)) whole
    (one-adds front exports [] outputs d after at (silent-both (front-of domain) ([] ∷ []) (front-silent domain) (refl, tt)) tt
    (omega (arith, place, length-append (front-of domain) ([] ∷ []), front-length domain))
    (omega (arith, long, length-append front (exports ∷ []), length-append (front-of domain) ([] ∷ []), front-length domain)) slot adds)

-- ---- octets added output by output

-- the first so many of these texts, and nothing in the others
abbrev pub first_of : ℕ → List (List ℕ) → List (List ℕ)
first_of count [] = []
first_of zero (text ∷ texts) = [] ∷ first_of zero texts
first_of (suc count) (text ∷ texts) = text ∷ first_of count texts

first-none : (outputs : List Output) (texts : List (List ℕ)) → length outputs ≡ length texts → Adds outputs outputs (first_of 0 texts)
first-none [] [] long = tt
first-none (o ∷ outputs) (text ∷ texts) long = (refl, kept o.gathered.items [] refl, first-none outputs texts (omega (arith, long)))
first-none [] (text ∷ texts) long = absurd (omega (arith, long))
first-none (o ∷ outputs) [] long = absurd (omega (arith, long))

first-more : (count : ℕ) (a b : List Output) (d after : Output) (texts : List (List ℕ)) → count < length texts → Adds a b (first_of count texts)
    → after.slot ≡ (get_or b count d).slot → after.gathered.items ≡ (get_or b count d).gathered.items ++ get_or texts count []
    → Adds a (set b count after) (first_of (suc count) texts)
first-more count a b d after [] inside first slot adds = absurd (omega (arith, inside))
first-more zero (o ∷ a) (m ∷ b) d after (text ∷ texts) inside first slot adds =
    (slot ∙ first.0, adds ∙ ap (λ (t : List ℕ). t ++ text) (first.1 ∙ append-nil o.gathered.items), first.2)
first-more (suc count) (o ∷ a) (m ∷ b) d after (text ∷ texts) inside first slot adds =
    (first.0, first.1, first-more count a b d after texts (omega (arith, inside)) first.2 slot adds)
first-more zero [] [] d after (text ∷ texts) inside first slot adds = absurd first
first-more zero [] (m ∷ b) d after (text ∷ texts) inside first slot adds = absurd first
first-more (suc count) [] [] d after (text ∷ texts) inside first slot adds = absurd first
first-more (suc count) [] (m ∷ b) d after (text ∷ texts) inside first slot adds = absurd first
first-more zero (o ∷ a) [] d after (text ∷ texts) inside first slot adds = absurd first
first-more (suc count) (o ∷ a) [] d after (text ∷ texts) inside first slot adds = absurd first

-- where nothing is said in the others, it is all
first-all : (texts back : List (List ℕ)) → Silent back → first_of (length texts) (texts ++ back) ≡ texts ++ back
first-all [] [] silent = refl
first-all [] (x ∷ back) silent = ap (λ (t : List ℕ). t ∷ first_of 0 back) (sym silent.0) ∙ ap (λ (rest : List (List ℕ)). x ∷ rest) (first-all [] back silent.1)
first-all (text ∷ texts) back silent = ap (λ (rest : List (List ℕ)). text ∷ rest) (first-all texts back silent)

-- where nothing is said in these, it is nothing
first-silent : (front rest : List (List ℕ)) → Silent front → first_of (length front) (front ++ rest) ≡ first_of 0 (front ++ rest)
first-silent [] rest silent = refl
first-silent (x ∷ front) rest silent = ap (λ (t : List ℕ). t ∷ first_of (length front) (front ++ rest)) silent.0
    ∙ ap (λ (more : List (List ℕ)). [] ∷ more) (first-silent front rest silent.1)

behind : (front rest : List (List ℕ)) (k : ℕ) → get_or (front ++ rest) (length front + k) [] ≡ get_or rest k []
behind [] rest k = ap (λ (n : ℕ). get_or rest n []) (omega arith)
behind (x ∷ front) rest k =
    let place : length (x ∷ front) + k ≡ suc (length front + k) = omega arith in
    ap (λ (n : ℕ). get_or (x ∷ (front ++ rest)) n []) place ∙ behind front rest k

-- ---- the same to the output of each port and of each tap

module _ (domain : Domain) (head : List ℕ) where
  abbrev pub to_captures : List (List ℕ)
  to_captures = of_outlets domain (λ k. head) (λ k. head) [] []

  links-here : (ids : List LinkId) (rest : List (List ℕ)) (at : ℕ) → at < length ids → get_or (by_link (λ k. head) ids ++ rest) at [] ≡ head
  links-here [] rest at inside = absurd (omega (arith, inside))
  links-here (id ∷ ids) rest zero inside = refl
  links-here (id ∷ ids) rest (suc at) inside = links-here ids rest at (omega (arith, inside))

  each-here : (n from : ℕ) (ids : List LinkId) (rest : List (List ℕ)) (at : ℕ) → at < n + length ids
      → get_or (each_from n from (λ k. head) ++ (by_link (λ k. head) ids ++ rest)) at [] ≡ head
  each-here zero from ids rest at inside = links-here ids rest at (omega (arith, inside))
  each-here (suc n) from ids rest zero inside = refl
  each-here (suc n) from ids rest (suc at) inside = each-here n (suc from) ids rest at (omega (arith, inside))

  pub captures-begin : (outputs : List Output) → length outputs ≡ outlet_count domain → Adds outputs outputs (first_of 0 to_captures)
  captures-begin outputs long = first-none outputs to_captures (long ∙ sym (length-of_outlets domain (λ k. head) (λ k. head) [] []))

  pub captures-more : (at : ℕ) (a b : List Output) (d after : Output) → at < length (ports domain) + length (tapped (links domain))
      → Adds a b (first_of at to_captures) → after.slot ≡ (get_or b at d).slot → after.gathered.items ≡ (get_or b at d).gathered.items ++ head
      → Adds a (set b at after) (first_of (at + 1) to_captures)
  captures-more at a b d after inside first slot adds =
      let many : length to_captures ≡ outlet_count domain = length-of_outlets domain (λ k. head) (λ k. head) [] [] in
      let here = each-here (length (ports domain)) 0 (tapped (links domain)) ([] ∷ [] ∷ []) at inside in
      let then : suc at ≡ at + 1 = omega arith in
      subst (λ (n : ℕ). Adds a (set b at after) (first_of n to_captures)) then
      (first-more at a b d after to_captures (omega (arith, many, inside)) first slot
      (adds ∙ ap (λ (t : List ℕ). (get_or b at d).gathered.items ++ t) (sym here)))

  pub captures-end : (at : ℕ) (a b : List Output) → at ≡ length (ports domain) + length (tapped (links domain))
      → Adds a b (first_of at to_captures) → Adds a b to_captures
  captures-end at a b all adds =
      let each = each_from (length (ports domain)) 0 (λ k. head) in
      let cross = by_link (λ k. head) (tapped (links domain)) in
      let many : at ≡ length (each ++ cross) = omega (
        arith,
        all,
        length-append each cross,
        length-each_from {A = List ℕ} (length (ports domain)) 0 (λ k. head),
        length-map {B = List ℕ} (tapped (links domain)) (λ (link : LinkId). head),
      ) in
      let parts : (each ++ cross) ++ [] ∷ [] ∷ [] ≡ to_captures = append_assoc each cross ([] ∷ [] ∷ []) in
      let whole : first_of at to_captures ≡ to_captures =
      ap (λ (n : ℕ). first_of n to_captures) many ∙ ap (λ (ts : List (List ℕ)). first_of (length (each ++ cross)) ts) (sym parts)
      ∙ first-all (each ++ cross) ([] ∷ [] ∷ []) (refl, (refl, tt)) ∙ parts in
      subst (Adds a b) whole adds

-- ---- to the output of each tap its own

module _ (domain : Domain) (tap : ℕ → List ℕ) where
  abbrev pub to_taps : List (List ℕ)
  to_taps = of_outlets domain (λ k. []) tap [] []

  tap-here : (ids : List LinkId) (rest : List (List ℕ)) (k : ℕ) (d : LinkId) → k < length ids
      → get_or (by_link tap ids ++ rest) k [] ≡ tap (get_or ids k d).0
  tap-here [] rest k d inside = absurd (omega (arith, inside))
  tap-here (id ∷ ids) rest zero d inside = refl
  tap-here (id ∷ ids) rest (suc k) d inside = tap-here ids rest k d (omega (arith, inside))

  silent-ports : Silent (each_from (length (ports domain)) 0 (λ k. []))
  silent-ports = silent-each (length (ports domain)) 0 (λ k. []) (λ k le. refl)

  pub taps-begin : (outputs : List Output) (at : ℕ) → at ≡ length (ports domain) → length outputs ≡ outlet_count domain
      → Adds outputs outputs (first_of at to_taps)
  taps-begin outputs at place long =
      let each = each_from (length (ports domain)) 0 (λ k. []) in
      let rest = by_link tap (tapped (links domain)) ++ [] ∷ [] ∷ [] in
      let many : at ≡ length each = place ∙ sym (length-each_from {A = List ℕ} (length (ports domain)) 0 (λ k. [])) in
      let none : first_of at to_taps ≡ first_of 0 to_taps = ap (λ (n : ℕ). first_of n to_taps) many ∙ first-silent each rest silent-ports in
      subst (Adds outputs outputs) (sym none) (first-none outputs to_taps (long ∙ sym (length-of_outlets domain (λ k. []) tap [] [])))

  pub taps-more : (k at before next : ℕ) (ids : List LinkId) (a b : List Output) (d after : Output) (link e : LinkId) → ids ≡ tapped (links domain)
      → k < length ids → link ≡ get_or ids k e → at ≡ length (ports domain) + k → before ≡ at → next ≡ suc at → Adds a b (first_of before to_taps)
      → after.slot ≡ (get_or b at d).slot → after.gathered.items ≡ (get_or b at d).gathered.items ++ tap link.0
      → Adds a (set b at after) (first_of next to_taps)
  taps-more k at before next ids a b d after link e are inside is place same then first slot adds =
      let each = each_from (length (ports domain)) 0 (λ k. []) in
      let rest = by_link tap (tapped (links domain)) ++ [] ∷ [] ∷ [] in
      let long : length each ≡ length (ports domain) = length-each_from {A = List ℕ} (length (ports domain)) 0 (λ k. []) in
      let there : at ≡ length each + k = omega (arith, place, long) in
      let within : k < length (tapped (links domain)) = omega (arith, inside, ap length are) in
      let found : link ≡ get_or (tapped (links domain)) k e = is ∙ ap (λ (xs : List LinkId). get_or xs k e) are in
      let many : length to_taps ≡ outlet_count domain = length-of_outlets domain (λ k. []) tap [] [] in
      let here : get_or to_taps at [] ≡ tap link.0 =
      ap (λ (n : ℕ). get_or to_taps n []) there ∙ behind each rest k ∙ tap-here (tapped (links domain)) ([] ∷ [] ∷ []) k e within
      ∙ ap (λ (l : LinkId). tap l.0) (sym found) in
      subst (λ (n : ℕ). Adds a (set b at after) (first_of n to_taps)) (sym then)
      (first-more at a b d after to_taps (omega (arith, many, within, place)) (subst (λ (n : ℕ). Adds a b (first_of n to_taps)) same first) slot
      (adds ∙ ap (λ (t : List ℕ). (get_or b at d).gathered.items ++ t) (sym here)))

  pub taps-end : (at : ℕ) (a b : List Output) → at ≡ length (ports domain) + length (tapped (links domain))
      → Adds a b (first_of at to_taps) → Adds a b to_taps
  taps-end at a b all adds =
      let each = each_from (length (ports domain)) 0 (λ k. []) in
      let cross = by_link tap (tapped (links domain)) in
      let many : at ≡ length (each ++ cross) = omega (
        arith,
        all,
        length-append each cross,
        length-each_from {A = List ℕ} (length (ports domain)) 0 (λ k. []),
        length-map {B = List ℕ} (tapped (links domain)) (λ (link : LinkId). tap link.0),
      ) in
      let parts : (each ++ cross) ++ [] ∷ [] ∷ [] ≡ to_taps = append_assoc each cross ([] ∷ [] ∷ []) in
      let whole : first_of at to_taps ≡ to_taps =
      ap (λ (n : ℕ). first_of n to_taps) many ∙ ap (λ (ts : List (List ℕ)). first_of (length (each ++ cross)) ts) (sym parts)
      ∙ first-all (each ++ cross) ([] ∷ [] ∷ []) (refl, (refl, tt)) ∙ parts in
      subst (Adds a b) whole adds
