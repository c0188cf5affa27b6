-- How much a reader of a part may have been fed, and the verdict on what it was.
use Rattle.std.proofs.Common.{◌≡◌, ℕ, ◌+◌, ◌-◌, ◌*◌, ◌^◌, ◌<◌, ◌≤◌, ◌⊎◌, Bool, true, false, IsTrue, IsSomeAnd, List, [], ◌∷◌, ◌++◌, length, length-append, All, Option, None, Some, Ok, Err, refl, sym, ap, ◌∙◌, subst, inl, inr, append-nil, arith}
use Rattle.std.specs.Prelude.{MatchResult, Result, is_some, nat_lt, ⊤, ◌||◌}
use Rattle.std.proofs.lemmas.List.Elements.{All-head, All-tail}
use Rattle.ioam_desk.specs.Desk as desk
use Rattle.ioam_desk.specs.Intake.{FailsFile, TakesFile}
use Rattle.ioam_desk.specs.declared.fault.DeskFault.{DeskFault}
use Rattle.ioam_desk.specs.declared.fault.DeskFault.TheVariants.{Failed, NoMemory}
use Rattle.ioam_run_answer.specs.Faults.{IsCut}
use Rattle.ioam_run_answer.specs.Reader as dex
use Rattle.ioam_run_answer.specs.Reading.{Reading}
use Rattle.ioam_run_answer.specs.Record.{Record, IsRecord, record_octets}
use Rattle.ioam_run_answer.specs.Reads.{records_octets}
use Rattle.ioam_run_answer.specs.Visit.{has_visit, twelve_where}
use Rattle.ioam_run_answer.proofs.RecordLaws.{numbers_size-small, record_octets-length, record_size-small}
use Rattle.ioam_collect.specs.Collected.{Collected}
use Rattle.ioam_part.specs.Faults.{HasFault}
use Rattle.ioam_part.specs.Reading as part
use Rattle.ioam_part.specs.Reading.{PartReading, IsOpen, IsBehind, StandsBy, fault_of}
use Rattle.ioam_part.specs.Part.{IsPart}
use Rattle.ioam_part.specs.declared.fault.PartFault.{PartFault}
use Rattle.ioam_part.specs.declared.reader.PartRefused.{PartRefused}
use Rattle.ioam_part.specs.declared.reader.PartRefused.TheVariants as refused
use Rattle.ioam_part_merge.specs.Keeping as keeping
use Rattle.ioam_run_part.specs.Intakes.{IsFed, is_decided}
use Rattle.ioam_run_part.specs.Records.{IsAPart}
use Rattle.ioam_run_part.specs.Unread.{IsFlat, IsHeld, ReadsFile, unread_by, verdict_of}
use Rattle.ioam_run_part.proofs.OneFault.{one_fault, part_or_fault}

-- ---- how much a reader of a part may have been fed

twelve_small : (there : Bool) → twelve_where there ≤ 12
twelve_small true = omega arith
twelve_small false = omega arith

cut_few : (octets : List ℕ) → IsCut octets → length octets < 274
cut_few octets (inl none) = omega arith
cut_few octets (inr (inl short)) = let few = short.1 in omega arith
cut_few octets (inr (inr sized)) =
    let less = sized.1 in
    let most = sized.0.most in
    let visit = twelve_small (has_visit (Rattle.std.specs.Prelude.slice_index octets 0)) in
    let numbers = numbers_size-small (Rattle.std.specs.Prelude.slice_index octets 1) in
    omega arith

octets_few : (xs : List Record) → All IsRecord xs → length (records_octets xs) ≤ 274 * length xs
octets_few [] all = omega arith
octets_few (x ∷ xs) all =
    let more = octets_few xs (All-tail IsRecord x xs all) in
    let parts = (All-head IsRecord x xs all).parts in
    let size = record_octets-length x parts in
    let few = record_size-small x parts in
    let both = length-append (record_octets x) (records_octets xs) in
    omega arith

fed_all : (reading : Reading) (body : List ℕ) (xs : List Record) → dex.Stands reading body xs → dex.fed reading ≡ length body
fed_all reading body xs stands =
    let at = stands.place in
    let size : length body ≡ length (records_octets xs) + length reading.pending = ap length stands.splits.is ∙ length-append (records_octets xs) reading.pending in
    omega (arith, at, size)

sound : (limit : ℕ) (octets : List ℕ) (r : PartReading) → fault_of r ≡ None → part.Stands limit octets r → IsOpen limit octets r ⊎ IsBehind limit octets r
sound limit octets r none stands = subst (StandsBy limit octets r) none stands

fed_by : (limit : ℕ) (octets : List ℕ) (r : PartReading) → IsOpen limit octets r ⊎ IsBehind limit octets r → part.fed r ≤ length octets
fed_by limit octets r (inl opened) = let none = fed_all r.reading [] [] (opened.took 0).stands in omega (arith, none)
fed_by limit octets r (inr behind) =
    let all = fed_all r.reading behind.body behind.records behind.took.stands in
    let size : length octets ≡ length r.head + length behind.body = ap length behind.is ∙ length-append r.head behind.body in
    omega (arith, all, size)

-- no more than it was handed
fed_few : (limit : ℕ) (octets : List ℕ) (r : PartReading) → fault_of r ≡ None → part.Stands limit octets r → part.fed r ≤ length octets
fed_few limit octets r none stands = fed_by limit octets r (sound limit octets r none stands)

-- octets in which no fault was found are no more than the longest part, and the front of a record
few_by : (limit : ℕ) (octets : List ℕ) (r : PartReading) → IsOpen limit octets r ⊎ IsBehind limit octets r → length octets < 287311000
few_by limit octets r (inl opened) = let short = opened.short in omega (arith, short)
few_by limit octets r (inr behind) =
    let stands = behind.took.stands in
    let size : length octets ≡ length r.head + length behind.body = ap length behind.is ∙ length-append r.head behind.body in
    let head : length r.head ≡ 12 = ap length behind.head in
    let body : length behind.body ≡ length (records_octets behind.records) + length r.reading.pending = ap length stands.splits.is ∙ length-append (records_octets behind.records) r.reading.pending in
    let few = octets_few behind.records stands.splits.each in
    let cut = cut_few r.reading.pending behind.rests.waits in
    let within = behind.took.within in
    let most = behind.few in
    omega (arith, size, head, body, few, cut, within, most)

undecided_few : (limit : ℕ) (octets : List ℕ) (r : PartReading) → fault_of r ≡ None → part.Stands limit octets r → length octets < 287311000
undecided_few limit octets r none stands = few_by limit octets r (sound limit octets r none stands)

-- ---- a piece more

-- nothing was decided
undecided : (o : Option (ℕ × PartFault)) (left : ℕ) → (is_some o || nat_lt left 65536) ≡ false → (o ≡ None) × (65536 ≤ left)
undecided None left none = (refl, grind (arith, none))
undecided (Some bad) left none = absurd (cc none)

module _ (limit : ℕ) (octets : List ℕ) (r : PartReading) (left : ℕ) (fed : IsFed limit octets r left) where
  -- if no fault was found, more octets than a piece may still be read
  pub still_needed : fault_of r ≡ None → is_decided r left ≡ false
  still_needed none =
      let few = undecided_few limit octets r none fed.stands in
      let within = fed.within in
      let many : 65536 ≤ left = omega (arith, few, within) in
      subst (λ (o : Option (ℕ × PartFault)). (is_some o || nat_lt left 65536) ≡ false) (sym none) (grind (arith, many))

  module _ (piece : List ℕ) (needed : is_decided r left ≡ false) (few : length piece ≤ 65536) where
    fits : length piece ≤ left
    fits = let none = undecided (fault_of r) left needed in omega (arith, few, none.1)

    pub may_feed : part.fed r + length piece < 2 ^ 63
    may_feed =
        let none = undecided (fault_of r) left needed in
        let all = fed_few limit octets r none.0 fed.stands in
        let within = fed.within in
        omega (arith, all, within, few)

    pub fed_more : (after : PartReading) → part.Stands limit (octets ++ piece) after → IsFed limit (octets ++ piece) after (left - length piece)
    fed_more after stands = record {
      stands = stands;
      within = (let both = length-append octets piece in let within = fed.within in let less = fits in omega (arith, both, within, less));
    }

-- ---- the verdict

some_held : (o : Option (List ℕ)) (octets : List ℕ) (P : List ℕ → Type 0) → o ≡ Some octets → P octets → IsSomeAnd o P
some_held o octets P is held = subst (λ u. IsSomeAnd u P) (sym is) held

-- the one fault of octets is that of all octets that begin so
same_fault : (octets more : List ℕ) (bad : ℕ × PartFault) (at : ℕ) (fault : PartFault) → HasFault octets at fault
    → ((others : List ℕ) → HasFault (octets ++ others) bad.0 bad.1) → HasFault (octets ++ more) at fault
same_fault octets more bad at fault here has =
    let same = one_fault octets at bad.0 fault bad.1 here (subst (λ o. HasFault o bad.0 bad.1) (append-nil octets) (has [])) in
    subst (λ n. HasFault (octets ++ more) n fault) (sym same.0) (subst (λ f. HasFault (octets ++ more) bad.0 f) (sym same.1) (has more))

-- octets are such a part, or have this fault
abbrev pub Judges : {A : Type 0} → (List ℕ → A → Type 0) → List ℕ → Result A PartRefused → Type 0
Judges Is octets (Ok part) = Is octets part
Judges Is octets (Err (refused.Fault at fault)) = HasFault octets at fault
Judges Is octets (Err refused.Full) = ⊤
Judges Is octets (Err refused.NoMemory) = ⊤

pub judges_read : (octets : List ℕ) (read : Result Collected PartRefused) → MatchResult read (part.IsReadAs 1048576 octets) (part.RefusedBy 1048576 octets) → Judges (part.IsReadAs 1048576) octets read
judges_read octets (Ok c) is = is
judges_read octets (Err (refused.Fault at fault)) has = has
judges_read octets (Err refused.Full) full = tt
judges_read octets (Err refused.NoMemory) none = tt

pub judges_kept : (octets : List ℕ) (read : Result (List ℕ) PartRefused) → MatchResult read (keeping.IsWhole octets) (keeping.RefusedBy octets) → Judges keeping.IsWhole octets read
judges_kept octets (Ok kept) is = is
judges_kept octets (Err (refused.Fault at fault)) has = has
judges_kept octets (Err refused.Full) none = tt
judges_kept octets (Err refused.NoMemory) none = tt

-- what `begun` has become took a file's octets with its reader of parts
module _ {A T : Type 0} (reading : T → PartReading) (left : T → ℕ) (Stands : T → List ℕ → T → Type 0)
    (fed_so : (begun : T) (octets : List ℕ) (now : T) → Stands begun octets now → (limit : ℕ) × IsFed limit octets (reading now) (left now))
    (Is : List ℕ → A → Type 0) (part_is : (octets : List ℕ) (a : A) → Is octets a → IsAPart octets)
    (Held : A → Type 0) (tells : Bool) (content : Option (List ℕ)) (held_is : (octets : List ℕ) (a : A) → Is octets a → (IsTrue tells → content ≡ Some octets) → Held a)
    (name : List ℕ) (begun : T) (old new : desk.Reading) where
  module _ (now : T) (takes : TakesFile Stands (λ (t : T). is_decided (reading t) (left t)) tells begun old new content name now) where
    found_has : (bad : ℕ × PartFault) → fault_of (reading now) ≡ Some bad → (more : List ℕ) → HasFault (takes.octets ++ more) bad.0 bad.1
    found_has bad found = let fed = fed_so begun takes.octets now takes.stands in subst (StandsBy fed.0 takes.octets (reading now)) found fed.1.stands

    whole : fault_of (reading now) ≡ None → IsTrue tells → (new.left old.side.slots ≡ []) × IsTrue (new.ended old.side.slots)
    whole none = let fed = fed_so begun takes.octets now takes.stands in takes.whole (still_needed fed.0 takes.octets (reading now) (left now) fed.1 none)

    all_held : fault_of (reading now) ≡ None → IsTrue tells → content ≡ Some takes.octets
    all_held none told = takes.held_is told ∙ ap (λ o. Some (takes.octets ++ o)) (whole none told).0 ∙ ap Some (append-nil takes.octets)

    pub judged : (read : Result A PartRefused) → Judges Is takes.octets read → ReadsFile Held tells content name old new (verdict_of read)
    judged = by (fault_of (reading now)) refl
      where
        by : (o : Option (ℕ × PartFault)) → fault_of (reading now) ≡ o → (read : Result A PartRefused) → Judges Is takes.octets read
            → ReadsFile Held tells content name old new (verdict_of read)
        by None none (Ok a) is = (takes.side, held_is takes.octets a is (all_held none), λ told. (whole none told).1)
        by None none (Err (refused.Fault at fault)) has = (takes.side, λ told. some_held content takes.octets (λ o. HasFault o at fault) (all_held none told) has)
        by None none (Err refused.Full) judges = tt
        by None none (Err refused.NoMemory) judges = tt
        by (Some bad) found (Ok a) is =
            let of = part_is takes.octets a is in
            absurd (part_or_fault takes.octets of.0 bad.0 bad.1 of.1 (subst (λ o. HasFault o bad.0 bad.1) (append-nil takes.octets) (found_has bad found [])))
        by (Some bad) found (Err (refused.Fault at fault)) has = (
          takes.side,
          λ told. some_held content (takes.octets ++ new.left old.side.slots) (λ o. HasFault o at fault) (takes.held_is told)
              (same_fault takes.octets (new.left old.side.slots) bad at fault has (found_has bad found)),
        )
        by (Some bad) found (Err refused.Full) judges = tt
        by (Some bad) found (Err refused.NoMemory) judges = tt

-- no more could be read
pub unjudged : {A : Type 0} (Held : A → Type 0) (tells : Bool) (content : Option (List ℕ)) (name : List ℕ) (old new : desk.Reading) (why : DeskFault) → FailsFile old new name why
    → ReadsFile Held tells content name old new (Err (unread_by why))
unjudged Held tells content name old new Failed fails = (fails.0, fails.1)
unjudged Held tells content name old new NoMemory fails = tt

-- what is held of the collector of a part, and of its octets
module _ (tells : Bool) (content : Option (List ℕ)) where
  pub is_held : (octets : List ℕ) (c : Collected) → part.IsReadAs 1048576 octets c → (IsTrue tells → content ≡ Some octets) → IsHeld tells content c
  is_held octets c is held = record { octets = octets; records = is.0; part = is.1; stands = is.2; limit = is.4; is = held }

  pub is_flat : (octets kept : List ℕ) → keeping.IsWhole octets kept → (IsTrue tells → content ≡ Some octets) → IsFlat tells content kept
  is_flat octets kept is held = record {
    records = is.1.0;
    part = subst (λ o. IsPart o is.1.0) (sym is.0) is.1.1;
    is = λ told. held told ∙ ap Some (sym is.0);
  }
