-- What was told of arrivals, and what waits.
use Rattle.std.proofs.Common.{◌≡◌, ℕ, ◌+◌, ◌<◌, Bool, false, IsTrue, List, [], ◌∷◌, ◌++◌, All, length, get_or, Option, Some, None, refl, sym, ◌∙◌, ap, append_assoc, append-nil, length-append, subst, arith}
use Rattle.std.specs.Prelude.{IfSome}
use Rattle.std.specs.List.{AllZip}
use Rattle.std.proofs.lemmas.List.{map-append}
use Rattle.std.proofs.lemmas.List.Elements.{All-nil, All-cons, All-append, All-from_get_or, All-weaker}
use Rattle.std.proofs.lemmas.List.Sums.{count_by-le-length}
use Rattle.std.proofs.lemmas.Option.{get_or_from_slice_get}
use Rattle.std.proofs.lemmas.Bool.{true≢false}
use Rattle.ioam_batch.specs.Batches as batches
use Rattle.ioam_batch.specs.Jobs.{HasRun, Holds, IsFresh}
use Rattle.ioam_batch.specs.declared.job.Job.{Job}
use Rattle.ioam_clock.specs.declared.sample.Sample.{Sample}
use Rattle.ioam_run_texts.specs.Fate.{Frame, Fate, AreFates}
use Rattle.ioam_run_texts.specs.Texts.{tap_text, report_text, exports_text, texts_so_far, texts_of, sums_by, way_of, ways_of}
use Rattle.ioam_run_texts.specs.Told.{RanFor}
use Rattle.ioam_desk_outputs.specs.Told.{said_more}
use Rattle.ioam_plan.specs.Counted.{CountFor, enclosed_in, is_enclosed_in}
use Rattle.ioam_plan.specs.Inside.{EndsInside}
use Rattle.ioam_plan.specs.Rides.{IsVisitIn}
use Rattle.ioam_plan.specs.declared.itinerary.End.{End}
use Rattle.ioam_plan.specs.declared.itinerary.End.TheVariants.{Left, Drop}
use Rattle.ioam_plan.specs.declared.itinerary.Itinerary.{Itinerary}
use Rattle.ioam_plan.specs.declared.itinerary.Visit.{Visit}
use Rattle.ioam_report.specs.Sums.{IsEndBelow, StandFor}
use Rattle.ioam_report.specs.SumsText.{sums_text, arrivals_text}
use Rattle.ioam_report.specs.declared.sums.Sums.{Sums}
use Rattle.ioam_run_outputs.specs.Outlets.{tapped}
use Rattle.ioam_topo.specs.Domain.{flows, links, nodes}
use Rattle.ioam_topo.specs.declared.domain.Domain.{Domain}
use Rattle.ioam_topo.specs.declared.ids.FlowId.{FlowId}
use Rattle.ioam_run_arrivals.specs.Forwarding.{Arrived, AreOfJobs, Forwards, Forwarded, IsOf, IsWaiting, NoneWaits, has_room}
use Rattle.ioam_run_arrivals.specs.declared.forwarding.Forwarding.{Forwarding}
use Rattle.ioam_run_arrivals.proofs.CleanLaws.{texts-clean}
use Rattle.ioam_run_arrivals.proofs.TellsLaws.{AllZip-length}
use Rattle.ioam_run_arrivals.proofs.TextsLaws.{AreFates-push, texts-end}

AllZip-push : {A B : Type 0} (R : A → B → Type 0) (xs : List A) (ys : List B) (x : A) (y : B) → AllZip R xs ys → R x y
    → AllZip R (xs ++ x ∷ []) (ys ++ y ∷ [])
AllZip-push R [] [] x y all one = (one, tt)
AllZip-push R [] (k ∷ ys) x y all one = absurd all
AllZip-push R (h ∷ xs) [] x y all one = absurd all
AllZip-push R (h ∷ xs) (k ∷ ys) x y all one = (all.0, AllZip-push R xs ys x y all.1 one)

-- the itineraries with one more
ways-push : (told waiting : List Fate) (fate : Fate) → ways_of (told ++ (waiting ++ fate ∷ [])) ≡ ways_of (told ++ waiting) ++ fate.itinerary ∷ []
ways-push told waiting fate = ap ways_of (sym (append_assoc told waiting (fate ∷ []))) ∙ map-append way_of (told ++ waiting) (fate ∷ [])

-- jobs that wait, and then ran
all-ran : (domain : Domain) (readings : List (List Sample)) (fates : List Fate) (old new : List Job) → AllZip (IsWaiting domain) fates old
    → AllZip (HasRun domain readings) old new → AllZip (RanFor domain readings) fates new
all-ran domain readings [] [] [] waits ran = tt
all-ran domain readings [] [] (k ∷ new) waits ran = absurd ran
all-ran domain readings [] (j ∷ old) new waits ran = absurd waits
all-ran domain readings (fate ∷ fates) [] new waits ran = absurd waits
all-ran domain readings (fate ∷ fates) (j ∷ old) [] waits ran = absurd ran
all-ran domain readings (fate ∷ fates) (j ∷ old) (k ∷ new) waits ran =
    (record { was = j; rides = waits.0.rides; of = waits.0.of; ran = ran.0 }, all-ran domain readings fates old new waits.1 ran.1)

none-waits : (domain : Domain) (fates : List Fate) (jobs : List Job) → AllZip (IsWaiting domain) fates jobs → jobs ≡ [] → fates ≡ []
none-waits domain [] jobs waits none = refl
none-waits domain (fate ∷ fates) [] waits none = absurd waits
none-waits domain (fate ∷ fates) (job ∷ jobs) waits none = cc

-- ---- what is to be counted

-- visits at nodes of the domain are at nodes that are counted
pub visits-counted : (domain : Domain) (count : ℕ) (visits : List Visit) → count ≡ length (nodes domain) → All (IsVisitIn domain) visits
    → All (λ (visit : Visit). visit.place.node.0 < count) visits
visits-counted domain count visits is inside = All-weaker (IsVisitIn domain) (λ visit. visit.place.node.0 < count)
    (λ visit here. omega (arith, here.node, is)) visits inside

pub end-counted : (domain : Domain) (count : ℕ) (end : End) → count ≡ length (nodes domain) → EndsInside domain end → IsEndBelow count end
end-counted domain count (Left port) is inside = tt
end-counted domain count (Drop reason node) is inside = omega (arith, inside, is)

pub flow-counted : {A : Type 0} (domain : Domain) (count : ℕ) (carried : Option (FlowId × A)) → count ≡ length (flows domain)
    → IfSome carried (λ c. c.0.0 < length (flows domain)) → IfSome carried (λ c. c.0.0 < count)
flow-counted domain count None is known = tt
flow-counted domain count (Some carried) is known = omega (arith, known, is)

-- of each flow no more numbers were drawn than there are arrivals
pub counters-few : (domain : Domain) (counters : List ℕ) (earlier : List Itinerary) (most : ℕ) → CountFor domain counters earlier → length earlier < most
    → All (λ (number : ℕ). number < most) counters
counters-few domain counters earlier most counted few = All-from_get_or (λ (number : ℕ). number < most) counters 0
    (λ flow inside.
    let drawn : get_or counters flow 0 ≡ enclosed_in flow earlier =
    get_or_from_slice_get counters flow (enclosed_in flow earlier) 0 (counted.each flow (omega (arith, inside, counted.count))) in
    omega (arith, drawn, few, count_by-le-length (is_enclosed_in flow) earlier))

-- ---- the first

-- nothing was told of no arrivals, and none waits
pub IsOf-begin : (domain : Domain) (gathered : Forwarding) → StandFor domain gathered.sums [] → CountFor domain gathered.counters []
    → gathered.taps.items ≡ tapped (links domain) → gathered.batch.jobs ≡ [] → gathered.told ≡ 0 → IsOf domain gathered
IsOf-begin domain gathered stands counted taps none told = record {
  ways = [];
  stands = stands;
  counted = counted;
  taps = taps;
  fresh = subst (λ (jobs : List Job). All (IsFresh domain) jobs) (sym none) (All-nil (IsFresh domain));
  holds = subst (λ (jobs : List Job). All (Holds domain) jobs) (sym none) (All-nil (Holds domain));
  count = omega (arith, told, ap length none, stands.packets);
}

pub Forwards-begin : (domain : Domain) (gathered : Forwarding) → StandFor domain gathered.sums [] → CountFor domain gathered.counters []
    → gathered.batch.jobs ≡ [] → gathered.told ≡ 0 → IsOf domain gathered → (opens : Bool) (readings : List (List Sample))
    → Forwards opens domain readings [] (texts_so_far domain readings []) gathered
Forwards-begin domain gathered stands counted none told of = λ opens readings. record {
  told = [];
  waiting = [];
  are = tt;
  texts_are = λ opened. refl;
  count = told;
  sums = stands;
  counted = counted;
  jobs = subst (λ (jobs : List Job). AllZip (IsWaiting domain) [] jobs) (sym none) tt;
  of = of;
}

-- ---- one more waits

module _ (domain : Domain) (old new : Forwarding) (job : Job) (pushed : new.batch.jobs ≡ old.batch.jobs ++ job ∷ []) (same : new.told ≡ old.told)
    (counts : (earlier : List Itinerary) → CountFor domain old.counters earlier → CountFor domain new.counters (earlier ++ job.itinerary ∷ []))
    (sums : (earlier : List Itinerary) → StandFor domain old.sums earlier → StandFor domain new.sums (earlier ++ job.itinerary ∷ [])) where
  pub IsOf-push : new.taps.items ≡ old.taps.items → IsFresh domain job → Holds domain job → IsOf domain old → IsOf domain new
  IsOf-push taps fresh holds of =
      let stands = sums of.ways of.stands in
      record {
        ways = of.ways ++ job.itinerary ∷ [];
        stands = stands;
        counted = counts of.ways of.counted;
        taps = taps ∙ of.taps;
        fresh = subst (λ (jobs : List Job). All (IsFresh domain) jobs) (sym pushed)
            (All-append (IsFresh domain) old.batch.jobs (job ∷ []) of.fresh (All-cons (IsFresh domain) job [] fresh (All-nil (IsFresh domain))));
        holds = subst (λ (jobs : List Job). All (Holds domain) jobs) (sym pushed)
            (All-append (Holds domain) old.batch.jobs (job ∷ []) of.holds (All-cons (Holds domain) job [] holds (All-nil (Holds domain))));
        count = omega (
          arith,
          same,
          of.count,
          ap length pushed,
          length-append old.batch.jobs (job ∷ []),
          stands.packets,
          of.stands.packets,
          length-append of.ways (job.itinerary ∷ []),
        );
      }

  pub Forwards-push : (readings : List (List Sample)) (frame : Frame)
      → ((earlier : List Itinerary) → CountFor domain old.counters earlier → Arrived domain readings earlier frame job)
      → IsOf domain new → (opens : Bool) (frames : List Frame) (so_far : List (List ℕ)) → Forwards opens domain readings frames so_far old
      → Forwards opens domain readings (frames ++ frame ∷ []) so_far new
  Forwards-push readings frame arrived of opens frames so_far forwards =
      let before : List Itinerary = ways_of (forwards.told ++ forwards.waiting) in
      let it = arrived before forwards.counted in
      let waiting : List Fate = forwards.waiting ++ it.fate ∷ [] in
      let ways : before ++ job.itinerary ∷ [] ≡ ways_of (forwards.told ++ waiting) =
      ap (λ (way : Itinerary). before ++ way ∷ []) it.waits.of.itinerary_is ∙ sym (ways-push forwards.told forwards.waiting it.fate) in
      record {
        told = forwards.told;
        waiting = waiting;
        are = subst (AreFates domain readings (frames ++ frame ∷ [])) (append_assoc forwards.told forwards.waiting (it.fate ∷ []))
            (AreFates-push domain readings frames (forwards.told ++ forwards.waiting) frame it.fate forwards.are it.has);
        texts_are = forwards.texts_are;
        count = same ∙ forwards.count;
        sums = subst (StandFor domain new.sums) ways (sums before forwards.sums);
        counted = subst (CountFor domain new.counters) ways (counts before forwards.counted);
        jobs = subst (λ (jobs : List Job). AllZip (IsWaiting domain) waiting jobs) (sym pushed)
            (AllZip-push (IsWaiting domain) forwards.waiting old.batch.jobs it.fate job forwards.jobs it.waits);
        of = of;
      }

-- ---- what waits is told

module _ (domain : Domain) (old new : Forwarding) (ran : List Job) (many : length ran ≡ length old.batch.jobs) (none : new.batch.jobs ≡ [])
    (told : new.told ≡ old.told + length ran) (counters : new.counters ≡ old.counters) (sums : new.sums ≡ old.sums) where
  pub IsOf-tell : new.taps.items ≡ old.taps.items → IsOf domain old → IsOf domain new
  IsOf-tell taps of = record {
    ways = of.ways;
    stands = subst (λ (s : Sums). StandFor domain s of.ways) (sym sums) of.stands;
    counted = subst (λ (numbers : List ℕ). CountFor domain numbers of.ways) (sym counters) of.counted;
    taps = taps ∙ of.taps;
    fresh = subst (λ (jobs : List Job). All (IsFresh domain) jobs) (sym none) (All-nil (IsFresh domain));
    holds = subst (λ (jobs : List Job). All (Holds domain) jobs) (sym none) (All-nil (Holds domain));
    count = omega (arith, told, many, ap length none, of.count, ap (λ (s : Sums). s.packets) sums);
  }

  -- with whatever texts, where they are those of all
  pub Forwards-over : (opens : Bool) (readings : List (List Sample)) → IsOf domain new → (frames : List Frame) (so_far texts : List (List ℕ))
      → (forwards : Forwards opens domain readings frames so_far old)
      → (IsTrue opens → texts ≡ texts_so_far domain readings (forwards.told ++ forwards.waiting)) → Forwards opens domain readings frames texts new
  Forwards-over opens readings of frames so_far texts forwards are =
      let all : List Fate = forwards.told ++ forwards.waiting in
      let whole : all ≡ all ++ [] = sym (append-nil all) in
      record {
        told = all;
        waiting = [];
        are = subst (AreFates domain readings frames) whole forwards.are;
        texts_are = are;
        count = omega (
          arith,
          told,
          many,
          forwards.count,
          length-append forwards.told forwards.waiting,
          AllZip-length (IsWaiting domain) forwards.waiting old.batch.jobs forwards.jobs,
        );
        sums = subst (λ (s : Sums). StandFor domain s (ways_of (all ++ []))) (sym sums)
            (subst (λ (fs : List Fate). StandFor domain old.sums (ways_of fs)) whole forwards.sums);
        counted = subst (λ (numbers : List ℕ). CountFor domain numbers (ways_of (all ++ []))) (sym counters)
            (subst (λ (fs : List Fate). CountFor domain old.counters (ways_of fs)) whole forwards.counted);
        jobs = subst (λ (jobs : List Job). AllZip (IsWaiting domain) [] jobs) (sym none) tt;
        of = of;
      }

  pub Forwards-tell : (opens : Bool) (readings : List (List Sample)) (added : List (List ℕ))
      → (IsTrue opens → AllZip (HasRun domain readings) old.batch.jobs ran) → AreOfJobs domain old.told ran added → IsOf domain new
      → (frames : List Frame) (so_far : List (List ℕ)) → Forwards opens domain readings frames so_far old
      → Forwards opens domain readings frames (said_more so_far added) new
  Forwards-tell opens readings added runs are of frames so_far forwards =
      Forwards-over opens readings of frames so_far (said_more so_far added) forwards
      (λ opened. ap (λ (ts : List (List ℕ)). said_more ts added) (forwards.texts_are opened)
      ∙ are readings forwards.told forwards.waiting (sym forwards.count)
      (all-ran domain readings forwards.waiting old.batch.jobs ran forwards.jobs (runs opened)))

  -- with any, where the gate may stay shut
  pub Forwards-skip : (readings : List (List Sample)) → IsOf domain new → (frames : List Frame) (texts : List (List ℕ))
      → Forwards false domain readings frames texts old → Forwards false domain readings frames texts new
  Forwards-skip readings of frames texts forwards = Forwards-over false readings of frames texts texts forwards (λ opened. absurd (cc opened))

-- ---- the end

-- where none waits the texts are whole with the sums
pub Forwards-ends : (domain : Domain) (gathered : Forwarding) → gathered.batch.jobs ≡ []
    → ((arrivals : List Itinerary) → StandFor domain gathered.sums arrivals → sums_text domain gathered.sums ≡ arrivals_text domain arrivals)
    → (opens : Bool) (readings : List (List Sample)) (frames : List Frame) (so_far : List (List ℕ)) → Forwards opens domain readings frames so_far gathered
    → Forwarded opens domain readings frames (said_more so_far (sums_by domain gathered.sums))
Forwards-ends domain gathered none sums opens readings frames so_far forwards =
    let added : List (List ℕ) = sums_by domain gathered.sums in
    let all : forwards.told ++ forwards.waiting ≡ forwards.told =
    ap (λ (fs : List Fate). forwards.told ++ fs) (none-waits domain forwards.waiting gathered.batch.jobs forwards.jobs none) ∙ append-nil forwards.told in
    let are : AreFates domain readings frames forwards.told = subst (AreFates domain readings frames) all forwards.are in
    let stands : StandFor domain gathered.sums (ways_of forwards.told) =
    subst (λ (fs : List Fate). StandFor domain gathered.sums (ways_of fs)) all forwards.sums in
    let whole : IsTrue opens → said_more so_far added ≡ texts_of domain readings forwards.told = λ opened.
    ap (λ (ts : List (List ℕ)). said_more ts added) (forwards.texts_are opened)
    ∙ texts-end domain readings forwards.told gathered.sums (sums (ways_of forwards.told) stands) in
    record {
      fates = forwards.told;
      are = are;
      texts_are = whole;
      clean = λ opened. texts-clean domain readings frames forwards.told (λ link. tap_text domain readings link forwards.told)
          (report_text domain readings forwards.told) (exports_text domain readings forwards.told) (said_more so_far added) are (whole opened);
    }

-- ---- a full batch

-- some wait where no more may
pub full-waits : (gathered : Forwarding) → has_room gathered ≡ false → NoneWaits gathered → ⊥
full-waits gathered full none = true≢false (sym (ap batches.has_room none) ∙ full)
