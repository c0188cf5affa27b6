-- The value of a reader, by the octets that it holds.
use Rattle.std.proofs.Common.{◌≡◌, ℕ, ◌+◌, ◌-◌, ◌^◌, ◌<◌, ◌≤◌, Bool, List, [], ◌∷◌, ◌++◌, length, take, drop, length-drop, refl, sym, ap, ap₂, ◌∙◌, subst, arith, inl, inr, length-append}
use Rattle.std.proofs.lemmas.List.{drop-drop, drop_all, take-append-le, drop-append-le, length-take-le}
use Rattle.ioam_base.specs.Chain.{Chain}
use Rattle.ioam_base.specs.Fed as base
use Rattle.ioam_base.specs.Fed.{Kept, passed}
use Rattle.ioam_base.specs.Octets.{u16_at}
use Rattle.ioam_dex.specs.Record.{Record}
use Rattle.ioam_ipfix.specs.declared.place.Place.{Place}
use Rattle.ioam_ipfix.specs.declared.fault.IpfixFault.{IpfixFault}
use Rattle.ioam_ipfix.specs.Faults.{IsStuckInside, IsBadHead, HasMessageFault}
use Rattle.ioam_ipfix.specs.Messages.{IsWhole, MessagePasses, IsCutMessage}
use Rattle.ioam_ipfix.specs.Places.{AllPlaces, records_at}
use Rattle.ioam_ipfix.specs.Reading.{Reading, fed, held, place_of, while_due, with_due, with_piece}
use Rattle.ioam_ipfix.specs.Reader.{Waits, IsFaulty, Takes}
use Rattle.ioam_ipfix.specs.Sets.{spot, SetPasses}
use Rattle.ioam_ipfix.specs.Steps.{TakesMessage}
use Rattle.ioam_ipfix.proofs.ReaderLaws.{while_due-most, while_due-none}

-- the message that was taken last has so many octets, with which the pending ones begin, and its records at these places
-- are due
abbrev pub view_of : Kept → ℕ → List Bool → ℕ → List Place → Reading
view_of octets size known messages places = record {
  known = known;
  messages = messages;
  due = records_at (take size octets.pending) places;
  start = octets.start + size;
  pending = drop size octets.pending;
  given = length octets.given + size;
  owed = while_due (records_at (take size octets.pending) places) size;
}

module _ (octets : Kept) (size : ℕ) (fits : size ≤ length octets.pending) (known : List Bool) (messages : ℕ) where
  given-is : (count owed : ℕ) → count + owed ≡ size → length (octets.given ++ take count octets.pending) + owed ≡ length octets.given + size
  given-is count owed all = omega (
    arith,
    all,
    fits,
    length-append octets.given (take count octets.pending),
    length-take-le count octets.pending (omega (arith, all, fits)),
  )

  rest-is : (count owed : ℕ) → count + owed ≡ size → drop owed (drop count octets.pending) ≡ drop size octets.pending
  rest-is count owed all = drop-drop owed count octets.pending ∙ ap (λ n. drop n octets.pending) all

  start-is : (count owed : ℕ) → count + owed ≡ size → octets.start + count + owed ≡ octets.start + size
  start-is count owed all = omega (arith, all)

  -- where nothing is due the message may be taken off
  pub let-go : (places : List Place) → records_at (take size octets.pending) places ≡ [] → (kept : Kept) → kept ≡ passed size octets → (none : List Place) → none ≡ []
      → ◌≡◌ {A = Reading} (view_of kept 0 known messages none) (view_of octets size known messages places)
  let-go places nothing kept took none is =
      let all : size + 0 ≡ size = omega arith in
      let due = sym nothing in
      let start = start-is size 0 all in
      let rest = rest-is size 0 all in
      let given = given-is size 0 all in
      let owed = sym (while_due-none (records_at (take size octets.pending) places) size nothing) in
      let taken : ◌≡◌ {A = Reading} (view_of (passed size octets) 0 known messages []) (view_of octets size known messages places) =
      λ i. record { known = known; messages = messages; due = due i; start = start i; pending = rest i; given = given i; owed = owed i } in
      ap₂ (λ (k : Kept) (ps : List Place). view_of k 0 known messages ps) took is ∙ taken

  -- what isn't owed may be taken off: all of the message or a part where no record is due, and else nothing
  pub let-go-rest : (places : List Place) (owed gone : ℕ) → owed ≡ (view_of octets size known messages places).owed → gone ≤ size → (owed ≡ size → gone ≡ 0)
      → ◌≡◌ {A = Reading} (view_of (passed gone octets) (size - gone) known messages places) (view_of octets size known messages places)
  let-go-rest [] owed gone is small stays =
      let all : gone + (size - gone) ≡ size = omega (arith, small) in
      let start = start-is gone (size - gone) all in
      let rest = rest-is gone (size - gone) all in
      let given = given-is gone (size - gone) all in
      λ i. record { known = known; messages = messages; due = []; start = start i; pending = rest i; given = given i; owed = 0 }
  let-go-rest (p ∷ places) owed gone is small stays =
      let none : gone ≡ 0 = stays is in
      let same : size - gone ≡ size = omega (arith, none) in
      let all : gone + (size - gone) ≡ size = omega (arith, small) in
      let start = start-is gone (size - gone) all in
      let rest = rest-is gone (size - gone) all in
      let given = given-is gone (size - gone) all in
      λ i. record {
        known = known;
        messages = messages;
        due = records_at (take (same i) (drop (none i) octets.pending)) (p ∷ places);
        start = start i;
        pending = rest i;
        given = given i;
        owed = same i;
      }

  -- a piece more: of the messages that were taken the last one is kept
  pub fed-view : (places : List Place) (piece : List ℕ) → ◌≡◌ {A = Reading} (view_of (base.with_piece piece octets) size known messages places)
      (record (with_piece piece (view_of octets size known messages places)) { given = 0 + size })
  fed-view places piece =
      let front = take-append-le size octets.pending piece fits in
      let rest = drop-append-le size octets.pending piece fits in
      λ i. record {
        known = known;
        messages = messages;
        due = records_at (front i) places;
        start = octets.start + size;
        pending = rest i;
        given = 0 + size;
        owed = while_due (records_at (front i) places) size;
      }

-- a record was given
pub given-view : (octets : Kept) (size : ℕ) (known : List Bool) (messages : ℕ) (places rest : List Place) (x : Record)
    → records_at (take size octets.pending) places ≡ x ∷ records_at (take size octets.pending) rest
    → ◌≡◌ {A = Reading} (view_of octets size known messages rest) (with_due (records_at (take size octets.pending) rest) (view_of octets size known messages places))
given-view octets size known messages places rest x due =
    let owed : size ≡ while_due (records_at (take size octets.pending) places) size = ap (λ xs. while_due xs size) (sym due) in
    λ i. record {
      known = known;
      messages = messages;
      due = records_at (take size octets.pending) rest;
      start = octets.start + size;
      pending = drop size octets.pending;
      given = length octets.given + size;
      owed = while_due (records_at (take size octets.pending) rest) (owed i);
    }

-- what is owed while a place is left, and behind the last
pub owed-some : (message : List ℕ) (places : List Place) (given size : ℕ) → given < length places → size ≡ while_due (records_at message (drop given places)) size
owed-some message places given size more = some-by (drop given places) (let left = length-drop given places in omega (arith, left, more))
  where
    some-by : (left : List Place) → 0 < length left → size ≡ while_due (records_at message left) size
    some-by [] more = absurd (omega (arith, more))
    some-by (p ∷ left) more = refl

pub owed-none : (message : List ℕ) (places : List Place) (given size : ℕ) → length places ≤ given → 0 ≡ while_due (records_at message (drop given places)) size
owed-none message places given size all = ap (λ ps. while_due (records_at message ps) size) (sym (drop_all given places all))

-- ---- what its fields keep

-- the octets begin with the message that was taken last, all places in the input fit, and at these places of it records stand
abbrev pub Inside : Kept → ℕ → ℕ → List Place → Type 0
Inside octets size messages places = (size ≤ length octets.pending) × (octets.start + length octets.pending < 2 ^ 63) × (messages ≤ octets.start + size)
    × AllPlaces (take size octets.pending) places

-- the places of the records that are due are as they were
places-kept : (octets : Kept) (size : ℕ) (places : List Place) (owed gone : ℕ) → owed ≡ while_due (records_at (take size octets.pending) places) size
    → (owed ≡ size → gone ≡ 0) → AllPlaces (take size octets.pending) places → AllPlaces (take (size - gone) (drop gone octets.pending)) places
places-kept octets size [] owed gone is stays all = tt
places-kept octets size (p ∷ places) owed gone is stays all =
    let none : gone ≡ 0 = stays is in
    let same : size - gone ≡ size = omega (arith, none) in
    let here : take (size - gone) (drop gone octets.pending) ≡ take size octets.pending = λ i. take (same i) (drop (none i) octets.pending) in
    subst (λ o. AllPlaces o (p ∷ places)) (sym here) all

-- ---- a piece more

-- no more is owed than the message has
pub owed-most : (octets : Kept) (size : ℕ) (known : List Bool) (messages : ℕ) (places : List Place) (old : Reading)
    → ◌≡◌ {A = Reading} (view_of octets size known messages places) old → old.owed ≤ size
owed-most octets size known messages places old view =
    let most = while_due-most (records_at (take size octets.pending) places) size in
    let same = ap (λ (r : Reading). r.owed) view in
    omega (arith, most, same)

-- so many octets of the message that was taken last are let go of, none of them where all are owed
module _ (octets taken now : Kept) (size : ℕ) (known : List Bool) (messages : ℕ) (places : List Place) (old : Reading) (owed gone : ℕ) (fits : size ≤ length octets.pending)
    (view : ◌≡◌ {A = Reading} (view_of octets size known messages places) old) (is : owed ≡ old.owed) (took : taken ≡ passed gone octets) (small : gone ≤ size)
    (stays : owed ≡ size → gone ≡ 0) where
  -- what is owed, of what it held before
  owed-is : owed ≡ (view_of octets size known messages places).owed
  owed-is = is ∙ sym (ap (λ (r : Reading). r.owed) view)

  -- the value is the same
  let-gone : ◌≡◌ {A = Reading} (view_of taken (size - gone) known messages places) old
  let-gone =
      ap (λ (k : Kept). view_of k (size - gone) known messages places) took
      ∙ let-go-rest octets size fits known messages places owed gone owed-is small stays
      ∙ view

  begins-is : length taken.pending ≡ length octets.pending - gone
  begins-is = ap (λ (k : Kept). length k.pending) took ∙ length-drop gone octets.pending

  at-is : taken.start ≡ octets.start + gone
  at-is = ap (λ (k : Kept). k.start) took

  left-fits : size - gone ≤ length taken.pending
  left-fits = let begins = begins-is in omega (arith, begins, small, fits)

  -- a piece more was fed
  pub fed-rest : (piece : List ℕ) → now ≡ base.with_piece piece taken → ◌≡◌ {A = Reading} (view_of now (size - gone) known messages places)
      (record (with_piece piece old) { given = (view_of now (size - gone) known messages places).given })
  fed-rest piece is_fed =
      let P : Kept → Type 0 = λ k. ◌≡◌ {A = Reading} (view_of k (size - gone) known messages places)
      (record (with_piece piece old) { given = (view_of k (size - gone) known messages places).given }) in
      subst P (sym is_fed) (
      fed-view taken (size - gone) left-fits known messages places piece
      ∙ ap (λ (r : Reading). record (with_piece piece r) { given = 0 + (size - gone) }) let-gone
      )

  -- it keeps what of the message is left, what was pending and the piece
  pub fed-held : (piece : List ℕ) → now ≡ base.with_piece piece taken
      → held (view_of now (size - gone) known messages places) ≡ size - gone + length old.pending + length piece
  fed-held piece is_fed =
      let rest = ap (λ (r : Reading). length r.pending) (fed-rest piece is_fed) in
      let given = ap (λ (k : Kept). length k.given) is_fed in
      omega (arith, rest, given, length-append old.pending piece)

  places-are : AllPlaces (take size octets.pending) places → AllPlaces (take (size - gone) taken.pending) places
  places-are all = subst (λ (k : Kept). AllPlaces (take (size - gone) k.pending) places) (sym took) (places-kept octets size places owed gone owed-is stays all)

  pub fed-inside : (piece : List ℕ) → now ≡ base.with_piece piece taken → fed old + length piece < 2 ^ 63 → Inside octets size messages places
      → Inside now (size - gone) messages places
  fed-inside piece is_fed room inside =
      let long : length now.pending ≡ length taken.pending + length piece = ap (λ (k : Kept). length k.pending) is_fed ∙ length-append taken.pending piece in
      let start : now.start ≡ taken.start = ap (λ (k : Kept). k.start) is_fed in
      let all = ap (λ (r : Reading). fed r) view in
      let rest = length-drop size octets.pending in
      let begins = begins-is in
      let at = at-is in
      let front : take (size - gone) taken.pending ≡ take (size - gone) now.pending =
      sym (ap (λ (k : Kept). take (size - gone) k.pending) is_fed ∙ take-append-le (size - gone) taken.pending piece left-fits) in (
        omega (arith, long, begins, small, fits),
        omega (arith, long, start, begins, at, small, fits, all, rest, room),
        omega (arith, start, at, small, inside.2),
        subst (λ o. AllPlaces o places) front (places-are inside.3),
      )

  pub kept-inside : now ≡ taken → Inside octets size messages places → Inside now (size - gone) messages places
  kept-inside same inside =
      let begins = begins-is in
      let at = at-is in
      let made : Inside taken (size - gone) messages places = (
        omega (arith, begins, small, fits),
        omega (arith, begins, at, small, fits, inside.1),
        omega (arith, at, small, inside.2),
        places-are inside.3,
      ) in
      subst (λ (k : Kept). Inside k (size - gone) messages places) (sym same) made

  -- or none
  pub fed-none : now ≡ taken → ◌≡◌ {A = Reading} (view_of now (size - gone) known messages places) old
  fed-none same = ap (λ (k : Kept). view_of k (size - gone) known messages places) same ∙ let-gone

-- a message in front of the pending octets, of which all sets were taken
pub takes-by : (octets kept : Kept) (size n : ℕ) (known behind : List Bool) (messages : ℕ) (due : List Place) (places : List Place)
    → size ≤ length octets.pending → kept ≡ passed size octets → IsWhole kept.pending → n ≡ u16_at kept.pending 2 → n < 65536
    → records_at (take size octets.pending) due ≡ [] → TakesMessage (take n kept.pending) known behind places
    → Takes (view_of octets size known messages due) (view_of kept n behind (messages + 1) places)
takes-by octets kept size n known behind messages due places fits took whole is small none found =
    let from : List ℕ = kept.pending in
    let here : from ≡ drop size octets.pending = ap (λ (k : Kept). k.pending) took in
    let there = whole.there in
    let least = whole.least in
    let records = records_at (take n from) places in
    let left = length-drop n from in
    let had = length-drop size octets.pending in
    let begins = ap length here in
    let at : kept.start ≡ octets.start + size = ap (λ (k : Kept). k.start) took in
    let gave = ap (λ (k : Kept). length k.given) took in
    let front = length-append octets.given (take size octets.pending) in
    let long = length-take-le size octets.pending fits in
    let most = while_due-most records n in
    record {
      passes = subst (λ o. MessagePasses (spot known o) records (spot behind (drop n from))) here (record {
        whole = whole;
        behind = ap (λ k. drop k from) is;
        sets = found.0;
        leads = subst (λ k. Chain SetPasses (spot known (drop 16 (take k from))) found.0 (spot behind [])) is found.1;
        records = found.2;
      });
      none = none;
      count = refl;
      fed = omega (arith, at, left, had, begins, there, is, fits);
      less = omega (arith, left, had, begins, there, is, least);
      held = omega (arith, gave, front, long, left, had, begins, there, is, fits);
      few = record {
        few = omega (arith, most, small);
        among = omega (arith, most);
        none = λ nothing. while_due-none records n nothing;
      };
    }

-- ---- what octets behind the message that was taken last show

module _ (octets kept : Kept) (size : ℕ) (known : List Bool) (messages : ℕ) (places : List Place) (old : Reading)
    (view : ◌≡◌ {A = Reading} (view_of octets size known messages places) old) (none : old.due ≡ []) (took : kept ≡ passed size octets)
    (pending : List ℕ) (is : pending ≡ kept.pending) where
  pending-is : pending ≡ old.pending
  pending-is = is ∙ ap (λ (k : Kept). k.pending) took ∙ ap (λ (r : Reading). r.pending) view

  place-is : spot known pending ≡ place_of old
  place-is = ap₂ spot (ap (λ (r : Reading). r.known) view) pending-is

  pub waits-by : IsCutMessage pending × (length pending < 65535) → Waits old
  waits-by cut = (none, subst IsCutMessage pending-is cut.0, subst (λ o. length o < 65535) pending-is cut.1)

  pub faulty-head : (f : IpfixFault) → IsBadHead pending f → IsFaulty old f
  faulty-head f bad = (none, subst (λ a. HasMessageFault a f) place-is (inl bad))

  pub faulty-inside : (n : ℕ) → IsWhole pending × (n ≡ u16_at pending 2) × (n < 65536) → (f : IpfixFault) → IsStuckInside known (take n pending) f → IsFaulty old f
  faulty-inside n whole f bad = (none, subst (λ a. HasMessageFault a f) place-is (inr (whole.0, subst (λ k. IsStuckInside known (take k pending) f) whole.1 bad)))

-- the message that stands there was taken
pub taken-by : (octets kept : Kept) (size n : ℕ) (known behind : List Bool) (messages : ℕ) (due places : List Place) (pending : List ℕ)
    → size ≤ length octets.pending → kept ≡ passed size octets → pending ≡ kept.pending → IsWhole pending × (n ≡ u16_at pending 2) × (n < 65536)
    → records_at (take size octets.pending) due ≡ [] → TakesMessage (take n pending) known behind places
    → (old : Reading) → ◌≡◌ {A = Reading} (view_of octets size known messages due) old → Takes old (view_of kept n behind (messages + 1) places)
taken-by octets kept size n known behind messages due places pending fits took is whole none found old view =
    let there : IsWhole kept.pending = subst IsWhole is whole.0 in
    let size_is : n ≡ u16_at kept.pending 2 = whole.1 ∙ ap (λ o. u16_at o 2) is in
    let all : TakesMessage (take n kept.pending) known behind places = subst (λ o. TakesMessage (take n o) known behind places) is found in
    subst (λ r. Takes r (view_of kept n behind (messages + 1) places)) view
    (takes-by octets kept size n known behind messages due places fits took there size_is whole.2 none all)
