-- What the visits of a job sent on a link with a tap.
use Rattle.std.proofs.Common.{◌≡◌, ℕ, zero, suc, ◌+◌, ◌<◌, Bool, true, false, List, [], ◌∷◌, ◌++◌, Option, Some, None, length, take, slice_get, get_or, refl, sym, ap, ◌∙◌, arith, append_assoc, append-nil, length-append}
use Rattle.std.specs.Prelude.{IsSome, IsSomeAnd, is_some, if◌then◌else◌}
use Rattle.std.proofs.Math.Seq.{get_or-append_seam}
use Rattle.std.proofs.lemmas.Bool.{eqb-true}
use Rattle.std.proofs.lemmas.List.{take_more}
use Rattle.std.proofs.lemmas.Option.{slice_get-get_or}
use Rattle.ioam_batch.specs.Along.{along}
use Rattle.ioam_batch.specs.Crossings.{crossings, joined}
use Rattle.ioam_batch.specs.Sends.{packet_after}
use Rattle.ioam_batch.specs.Taps.{has_tap, taps_by}
use Rattle.ioam_batch.specs.declared.job.Job.{Job}
use Rattle.ioam_batch.proofs.SendsLaws.{crossing_is}
use Rattle.ioam_batch.specs.Sample.{Sample}
use Rattle.ioam_run_outputs.specs.Outlets.{HasTap}
use Rattle.ioam_pcap.specs.Text.{Sent, records_text, record_octets}
use Rattle.ioam_plan.specs.declared.itinerary.Itinerary.{Itinerary}
use Rattle.ioam_plan.specs.declared.itinerary.Visit.{Visit}
use Rattle.ioam_topo.specs.Domain.{links}
use Rattle.ioam_topo.specs.declared.domain.Domain.{Domain}
use Rattle.ioam_topo.specs.declared.ids.LinkId.{LinkId}
use Rattle.ioam_topo.specs.declared.ids.Way.{Way}
use Rattle.ioam_topo.specs.declared.ids.Way.TheVariants as way
use Rattle.ioam_topo.specs.declared.parts.Link.{Link}
use Rattle.ioam_run_texts.specs.Fate.{Fate}
use Rattle.ioam_run_texts.specs.Standing.{kept_at, kept_on, kept_from, job_crossed}
use Rattle.ioam_run_texts.specs.Texts.{goes_by, crossing_at, fate_crossed}
use Rattle.ioam_run_texts.specs.Told.{RanFor}
use Rattle.ioam_run_texts.proofs.AfterLaws.{same-way}

-- ---- records of visits, one behind the other

pub records-both : (xs ys : List Sent) → records_text (xs ++ ys) ≡ records_text xs ++ records_text ys
records-both [] ys = refl
records-both (s ∷ xs) ys = ap (λ (t : List ℕ). record_octets s.time s.octets ++ t) (records-both xs ys)
    ∙ sym (append_assoc (record_octets s.time s.octets) (records_text xs) (records_text ys))

-- one visit more
kept-more : (link : ℕ) (kept : List (Option (List ℕ))) (number place : ℕ) (visits : List Visit) (visit : Visit) → place ≡ number + length visits
    → kept_from link kept number (visits ++ visit ∷ []) ≡ kept_from link kept number visits ++ kept_on link visit (joined (slice_get kept place))
kept-more link kept number place [] visit is =
    let same : number ≡ place = omega (arith, is) in
    append-nil (kept_on link visit (joined (slice_get kept number)))
    ∙ ap (λ (n : ℕ). kept_on link visit (joined (slice_get kept n))) same
kept-more link kept number place (first ∷ visits) visit is =
    ap (λ (ss : List Sent). kept_on link first (joined (slice_get kept number)) ++ ss)
    (kept-more link kept (suc number) place visits visit (omega (arith, is)))
    ∙ sym (append_assoc (kept_on link first (joined (slice_get kept number))) (kept_from link kept (suc number) visits)
    (kept_on link visit (joined (slice_get kept place))))

-- the records of the visits so far, and those of the next
pub kept-step : (link : ℕ) (kept : List (Option (List ℕ))) (visits : List Visit) (place : ℕ) (visit d : Visit) (old items new : List ℕ)
    → place < length visits → visit ≡ get_or visits place d → items ≡ old ++ records_text (kept_from link kept 0 (take place visits))
    → new ≡ items ++ records_text (kept_on link visit (joined (slice_get kept place)))
    → new ≡ old ++ records_text (kept_from link kept 0 (take (place + 1) visits))
kept-step link kept visits place visit d old items new inside is before now =
    let front = take place visits in
    let here = kept_on link visit (joined (slice_get kept place)) in
    let long : place ≡ 0 + length front = omega (arith, length-taken visits place inside) in
    let next : take (place + 1) visits ≡ front ++ visit ∷ [] =
    take_more visits place d inside ∙ ap (λ (v : Visit). front ++ v ∷ []) (sym is) in
    now ∙ ap (λ (t : List ℕ). t ++ records_text here) before
    ∙ append_assoc old (records_text (kept_from link kept 0 front)) (records_text here)
    ∙ ap (λ (t : List ℕ). old ++ t) (sym (records-both (kept_from link kept 0 front) here))
    ∙ ap (λ (ss : List Sent). old ++ records_text ss) (sym (kept-more link kept 0 place front visit long))
    ∙ ap (λ (vs : List Visit). old ++ records_text (kept_from link kept 0 vs)) (sym next)
  where
    length-taken : (xs : List Visit) (n : ℕ) → n < length xs → length (take n xs) ≡ n
    length-taken [] n lt = absurd (omega (arith, lt))
    length-taken (x ∷ xs) zero lt = refl
    length-taken (x ∷ xs) (suc n) lt = ap suc (length-taken xs n (omega (arith, lt)))

-- ---- they are those of the arrival

-- a visit that goes by a link with a tap
tap-there : (found : Option Link) → IsSomeAnd found (λ (link : Link). IsSome link.tap) → has_tap found ≡ true
tap-there None has = absurd has
tap-there (Some link) has = by-tap link.tap has
  where
    by-tap : (tap : Option (List ℕ)) → IsSome tap → is_some tap ≡ true
    by-tap None some = let never : false ≡ true = some in cc
    by-tap (Some name) some = refl

tapped-by : (domain : Domain) (link : LinkId) (sent : Option Way) → HasTap (links domain) link → goes_by link.0 sent ≡ true
    → taps_by domain sent ≡ true
tapped-by domain link None has goes = absurd (never goes)
  where
    never : false ≡ true → ⊥
    never is = cc
tapped-by domain link (Some (way.Port port)) has goes = absurd (never goes)
  where
    never : false ≡ true → ⊥
    never is = cc
tapped-by domain link (Some (way.Link sent)) has goes =
    let same : link.0 ≡ sent.0 = eqb-true link.0 sent.0 goes in
    ap (λ (n : ℕ). has_tap (slice_get (links domain) n)) (sym same) ∙ tap-there (slice_get (links domain) link.0) has

module _ (domain : Domain) (readings : List (List Sample)) (fate : Fate) (job : Job) (ran : RanFor domain readings fate job) (link : LinkId)
    (has : HasTap (links domain) link) where
  abbrev kept : List (Option (List ℕ))
  kept = crossings job.crossings

  -- one visit behind those that are done
  one-visit : (done rest : List Visit) (visit : Visit) (b : Bool) → fate.itinerary.visits ≡ done ++ visit ∷ rest → goes_by link.0 visit.way ≡ b
      → (if b then kept_at visit.time (joined (slice_get kept (length done))) else [])
      ≡ (if b then record { time = visit.time; octets = packet_after domain readings fate.packet fate.itinerary.carried (done ++ visit ∷ []) } ∷ [] else [])
  one-visit done rest visit false are goes = refl
  one-visit done rest visit true are goes =
      let visits = fate.itinerary.visits in
      let place : length done < length (done ++ visit ∷ rest) = omega (arith, length-append done (visit ∷ rest)) in
      let found : slice_get visits (length done) ≡ Some visit =
      ap (λ (vs : List Visit). slice_get vs (length done)) are
      ∙ slice_get-get_or (done ++ visit ∷ rest) (length done) visit place
      ∙ ap (λ (v : Visit). Some v) (get_or-append_seam done visit rest visit) in
      let parts : done ++ visit ∷ rest ≡ (done ++ visit ∷ []) ++ rest = sym (append_assoc done (visit ∷ []) rest) in
      let many : length done + 1 ≡ length (done ++ visit ∷ []) = omega (arith, length-append done (visit ∷ [])) in
      let front : take (length done + 1) visits ≡ done ++ visit ∷ [] =
      ap (λ (vs : List Visit). take (length done + 1) vs) (are ∙ parts) ∙ taken (done ++ visit ∷ []) rest (length done + 1) many in
      let sent = crossing_is domain readings fate.packet fate.itinerary ran.was job (length done) visit ran.of ran.ran found
      (tapped-by domain link visit.way has goes) in
      ap (λ (f : Option (List ℕ)). kept_at visit.time f) sent
      ∙ ap (λ (vs : List Visit). record { time = visit.time; octets = packet_after domain readings fate.packet fate.itinerary.carried vs } ∷ []) front
    where
      taken : (xs ys : List Visit) (n : ℕ) → n ≡ length xs → take n (xs ++ ys) ≡ xs
      taken [] ys n is = ap (λ (k : ℕ). take k ys) is
      taken (x ∷ xs) ys zero is = absurd (omega (arith, is))
      taken (x ∷ xs) ys (suc n) is = ap (λ (zs : List Visit). x ∷ zs) (taken xs ys n (omega (arith, is)))

  from-visit : (done rest : List Visit) (number : ℕ) → number ≡ length done → fate.itinerary.visits ≡ done ++ rest
      → kept_from link.0 kept number rest ≡ along (crossing_at domain readings link.0 fate) done rest
  from-visit done [] number is are = refl
  from-visit done (visit ∷ rest) number is are =
      let one = one-visit done rest visit (goes_by link.0 visit.way) are refl in
      let first : kept_on link.0 visit (joined (slice_get kept number)) ≡ crossing_at domain readings link.0 fate done visit =
      ap (λ (n : ℕ). kept_on link.0 visit (joined (slice_get kept n))) is ∙ one in
      let next = from-visit (done ++ visit ∷ []) rest (suc number) (omega (arith, is, length-append done (visit ∷ [])))
      (are ∙ sym (append_assoc done (visit ∷ []) rest)) in
      ap (λ (ss : List Sent). ss ++ kept_from link.0 kept (suc number) rest) first
      ∙ ap (λ (ss : List Sent). crossing_at domain readings link.0 fate done visit ++ ss) next

  pub crossed-are : job_crossed job link.0 ≡ fate_crossed domain readings link.0 fate
  crossed-are =
      ap (λ (it : Itinerary). kept_from link.0 kept 0 it.visits) (same-way domain readings fate job ran)
      ∙ from-visit [] fate.itinerary.visits 0 refl refl
