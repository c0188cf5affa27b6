-- Records that are taken off a part, one after the other.
use Rattle.std.proofs.Common.{◌≡◌, ℕ, ◌+◌, ◌*◌, ◌<◌, ◌≤◌, Bool, true, false, List, [], ◌∷◌, ◌++◌, length, length-append, All, refl, sym, ap, ap₂, ◌∙◌, subst, arith, ◌⊎◌, inl, inr, Option, None, Some}
use Rattle.std.specs.Prelude.{min}
use Rattle.std.proofs.lemmas.Bool.Decides.{nat_tests}
use Rattle.std.proofs.lemmas.List.{nil_from_length}
use Rattle.std.proofs.lemmas.List.Elements.{All-head, All-tail, All-push}
use Rattle.ioam_dex.specs.declared.export.ExportFault.{ExportFault}
use Rattle.ioam_dex.specs.Faults.{Fault, IsCut}
use Rattle.ioam_dex.specs.Record.{Record, IsRecord, record_octets}
use Rattle.ioam_dex.specs.Reader as dex
use Rattle.ioam_dex.specs.Reading.{Reading}
use Rattle.ioam_dex.specs.Reads.{records_octets}
use Rattle.ioam_dex.proofs.FaultLaws.{Fault-behind}
use Rattle.ioam_dex.proofs.ReaderLaws.{Stands-feed}
use Rattle.ioam_dex.proofs.ReadsLaws.{Splits-feed}
use Rattle.ioam_dex.proofs.RecordLaws.{record_octets-length, record_size-small}
use Rattle.ioam_pool.specs.Entry.{Entry}
use Rattle.ioam_collect.specs.Collected as collected
use Rattle.ioam_collect.specs.Collected.{Collected, AddsRecord, Answers, Leaves, count_kept, held_more}
use Rattle.ioam_collect.specs.Joining.{is_full}
use Rattle.ioam_collect.specs.Keyed.{keyed_of, keyed, with_keyed}
use Rattle.ioam_collect.specs.Ranked.{last_of, may_come, may_come_next}
use Rattle.ioam_collect.specs.Unite.{AreApart}
use Rattle.ioam_collect.specs.declared.growing.Added.{Added}
use Rattle.ioam_collect.specs.declared.growing.Added.TheVariants.{Kept, Replaced, Repeat, Unkeyed, Full}
use Rattle.ioam_collect.specs.declared.key.Key.{Key}
use Rattle.ioam_collect.proofs.CollectedLaws.{keyed-push}
use Rattle.ioam_collect.proofs.CountLaws.{full_count, held_within}
use Rattle.ioam_collect.proofs.RankedLaws.{comes, came, last-push}
use Rattle.ioam_collect.proofs.UniteLaws.{apart_kept}
use Rattle.ioam_part.specs.Part.{HasKey, AreInOrder}
use Rattle.ioam_part.specs.Faults.{Reaches, HasFaultBehind}
use Rattle.ioam_part.specs.Reading.{Holds, Took, Goes, FoundBehind, Stops, Turns}
use Rattle.ioam_part.specs.declared.fault.PartFault.{PartFault}
use Rattle.ioam_part.specs.declared.fault.PartFault.TheVariants as fault
use Rattle.ioam_part.specs.declared.progress.Progress.{Progress}

-- ---- sizes

octets_few : (xs : List Record) → All IsRecord xs → length (records_octets xs) ≤ 274 * length xs
octets_few [] all = omega arith
octets_few (x ∷ xs) all =
    let more = octets_few xs (All-tail IsRecord x xs all) in
    let parts = (All-head IsRecord x xs all).parts in
    let size = record_octets-length x parts in
    let few = record_size-small x parts in
    let both = length-append (record_octets x) (records_octets xs) in
    omega arith

below : (n most : ℕ) → n ≤ most → min n most ≡ n
below n most fits = grind (arith, nat_tests)

pair_cons : (o : Option (Key × Entry)) (ps : List (Key × Entry)) (p : Key × Entry) → o ≡ Some p → with_keyed o ps ≡ p ∷ ps
pair_cons o ps p is = ap (λ q. with_keyed q ps) is

-- as many pairs as records
pub keyed-length : (xs : List Record) → All HasKey xs → length (keyed xs) ≡ length xs
keyed-length [] keys = refl
keyed-length (x ∷ xs) keys =
    let key = All-head HasKey x xs keys in
    let more = keyed-length xs (All-tail HasKey x xs keys) in
    let size : length (keyed (x ∷ xs)) ≡ length (key.0 ∷ keyed xs) = ap length (pair_cons (keyed_of x) (keyed xs) key.0 key.1) in
    omega (arith, size, more)

-- as many are kept as there are
pub count_all : (xs : List Record) → AreInOrder xs → count_kept xs ≡ length xs
count_all xs in_order = ap length (apart_kept (keyed xs) in_order.apart) ∙ keyed-length xs in_order.keys

-- ---- one more in order

keyed_with : (xs : List Record) (x : Record) (p : Key × Entry) → keyed_of x ≡ Some p → keyed (xs ++ x ∷ []) ≡ keyed xs ++ p ∷ []
keyed_with xs x p is = keyed-push xs x ∙ ap (λ o. keyed xs ++ with_keyed o []) is

may_by : (last o : Option (Key × Entry)) → may_come_next last o ≡ true → (p : Key × Entry) × (o ≡ Some p) × (may_come last p ≡ true)
may_by last None may = absurd (cc may)
may_by last (Some p) may = (p, refl, may)

in_order_more : (xs : List Record) (x : Record) → AreInOrder xs → may_come_next (last_of (keyed xs)) (keyed_of x) ≡ true → AreInOrder (xs ++ x ∷ [])
in_order_more xs x in_order may =
    let found = may_by (last_of (keyed xs)) (keyed_of x) may in
    record {
      keys = All-push HasKey xs x in_order.keys (found.0, found.1);
      apart = subst AreApart (sym (keyed_with xs x found.0 found.1)) (comes (keyed xs) found.0 in_order.apart found.2);
    }

last_more : (xs : List Record) (x : Record) → may_come_next (last_of (keyed xs)) (keyed_of x) ≡ true → keyed_of x ≡ last_of (keyed (xs ++ x ∷ []))
last_more xs x may =
    let found = may_by (last_of (keyed xs)) (keyed_of x) may in
    found.1 ∙ sym (ap last_of (keyed_with xs x found.0 found.1) ∙ last-push (keyed xs) found.0)

All-end : (P : Record → Type 0) (xs : List Record) (x : Record) → All P (xs ++ x ∷ []) → P x
All-end P [] x all = All-head P x [] all
All-end P (y ∷ xs) x all = All-end P xs x (All-tail P y (xs ++ x ∷ []) all)

may_next : (last o : Option (Key × Entry)) (p : Key × Entry) → o ≡ Some p → may_come last p ≡ true → may_come_next last o ≡ true
may_next last o p is may = ap (may_come_next last) is ∙ may

not_in_order : (xs : List Record) (x : Record) → may_come_next (last_of (keyed xs)) (keyed_of x) ≡ false → AreInOrder (xs ++ x ∷ []) → ⊥
not_in_order xs x never in_order =
    let key = All-end HasKey xs x in_order.keys in
    let may : may_come (last_of (keyed xs)) key.0 ≡ true = came (keyed xs) key.0 (subst AreApart (keyed_with xs x key.0 key.1) in_order.apart) in
    let is : may_come_next (last_of (keyed xs)) (keyed_of x) ≡ true = may_next (last_of (keyed xs)) (keyed_of x) key.0 key.1 may in
    absurd (cc (is, never))

-- ---- what the collector holds

leaves_more : (added : Added) (old new : Collected) (x : Record) → is_full added ≡ false → Leaves added old x new → (xs : List Record) → collected.Stands old xs → collected.Stands new (xs ++ x ∷ [])
leaves_more Kept old new x other leaves = leaves
leaves_more Replaced old new x other leaves = leaves
leaves_more Repeat old new x other leaves = leaves
leaves_more Unkeyed old new x other leaves = leaves
leaves_more Full old new x other leaves = absurd (cc other)

full_is : (added : Added) → is_full added ≡ true → added ≡ Full
full_is Kept is = absurd (cc is)
full_is Replaced is = absurd (cc is)
full_is Repeat is = absurd (cc is)
full_is Unkeyed is = absurd (cc is)
full_is Full is = refl

holds_by : (E : Type 0) (limit : ℕ) (old new : Collected) (x : Record) (added : Added) → AddsRecord {E = E} old x (Rattle.std.specs.Prelude.Ok added) new
    → (xs : List Record) → AreInOrder (xs ++ x ∷ []) → Holds limit false old xs → (b : Bool) → is_full added ≡ b → Holds limit b new (xs ++ x ∷ [])
holds_by E limit old new x added adds xs in_order holds false other =
    let not_full : added ≡ Full → ⊥ = λ is. let full : is_full added ≡ true = ap is_full is in absurd (cc (full, other)) in
    let same = holds.2 in
    let fits = holds.1 in
    let within : new.held ≤ old.limit = held_within old new x added adds.0 not_full (omega (arith, same, fits)) adds.2 in
    (leaves_more added old new x other adds.1 xs holds.0, omega (arith, within, same), adds.3 ∙ same)
holds_by E limit old new x added adds xs in_order holds true full =
    let answers : Answers old (keyed_of x) Full = subst (λ a. Answers old (keyed_of x) a) (full_is added full) adds.0 in
    let over = full_count old xs x holds.0 answers in
    let count = count_all (xs ++ x ∷ []) in_order in
    let same = holds.2 in
    omega (arith, over, count, same)

-- what is held with one more: the collector was full, or it wasn't
pub holds_full : (limit : ℕ) (c : Collected) (full : Bool) (x : Record) (xs : List Record) → full ≡ true → Holds limit full c xs → Holds limit full c (xs ++ x ∷ [])
holds_full limit c true x xs is over = let longer = length-append xs (x ∷ []) in omega (arith, over, longer)
holds_full limit c false x xs is holds = absurd (cc is)

pub holds_more : (E : Type 0) (limit : ℕ) (old new : Collected) (full : Bool) (x : Record) (added : Added) → full ≡ false
    → AddsRecord {E = E} old x (Rattle.std.specs.Prelude.Ok added) new
    → (xs : List Record) → AreInOrder (xs ++ x ∷ []) → Holds limit full old xs → (b : Bool) → b ≡ is_full added → Holds limit b new (xs ++ x ∷ [])
holds_more E limit old new false x added is adds xs in_order holds b same = holds_by E limit old new x added adds xs in_order holds b (sym same)
holds_more E limit old new true x added is adds xs in_order holds b same = absurd (cc is)

-- ---- one step

module _ (count limit : ℕ) (body : List ℕ) (xs : List Record) (reading : Reading) (p : Progress) (took : Took count limit body xs reading p) (small : count < 4294967296) where
  pub start_small : reading.start < 1500000000000
  start_small =
      let few = octets_few xs took.stands.splits.each in
      let place = took.stands.place in
      let within = took.within in
      omega arith

  reaches : (more : List ℕ) → Reaches count (body ++ more) reading.start xs (reading.pending ++ more)
  reaches more = record {
    splits = Splits-feed body more xs reading.pending took.stands.splits;
    in_order = took.in_order;
    within = took.within;
    at = took.stands.place;
  }

  found : (reading' : Reading) (p' : Progress) (at : ℕ) (f : PartFault) → p'.fault ≡ Some (at, f) → at ≡ 12 + reading.start
      → ((more : List ℕ) → HasFaultBehind count (body ++ more) reading.start f) → Stops count limit body xs reading' p'
  found reading' p' at f is place all =
      let bad : ℕ × PartFault = (at, f) in
      inr (subst (FoundBehind count body) (sym is) (reading.start, place, all))

  at_end : (at : ℕ) → (p.end < 9223372036854775808 → at ≡ 12 + p.end) → at ≡ 12 + reading.start
  at_end at is =
      let end = took.end in
      let few = start_small in
      let here = is (omega (arith, end, few)) in
      omega (arith, here, end)

  all_given : count ≤ p.given → length xs ≡ count
  all_given many = let given = took.given in let within = took.within in omega (arith, given, within, many)

  pub is_done : p.fault ≡ None → count ≤ p.given → dex.fed reading ≡ p.end → Stops count limit body xs reading p
  is_done none many fed =
      let end = took.end in
      let size : length reading.pending ≡ 0 = omega (arith, fed, end) in
      inl (none, took, record { waits = inl (omega (arith, size)); done = λ all. nil_from_length reading.pending size })

  pub has_rest : (p' : Progress) (at : ℕ) → p'.fault ≡ Some (at, fault.Rest) → (p.end < 9223372036854775808 → at ≡ 12 + p.end) → count ≤ p.given
      → (dex.fed reading ≡ p.end → ⊥) → Stops count limit body xs reading p'
  has_rest p' at is place many more =
      let end = took.end in
      let size : 0 < length reading.pending = by (length reading.pending) refl in
      found reading p' at fault.Rest is (at_end at place) (λ behind.
      let both = length-append reading.pending behind in
      (xs, reading.pending ++ behind, reaches behind, all_given many, omega (arith, size, both)))
    where
      by : (n : ℕ) → length reading.pending ≡ n → 0 < length reading.pending
      by Rattle.std.proofs.Common.zero none = let end = took.end in absurd (more (omega (arith, none, end)))
      by (Rattle.std.proofs.Common.suc n) some = omega (arith, some)

  due : p.given < count → length xs < count
  due few = let given = took.given in omega (arith, given, few)

  pub is_cut : (reading' : Reading) → p.fault ≡ None → p.given < count → reading' ≡ reading → IsCut reading.pending → Stops count limit body xs reading' p
  is_cut reading' none few same cut =
      let less = due few in
      subst (λ r. Stops count limit body xs r p) (sym same) (inl (none, took, record { waits = cut; done = λ all. absurd (omega (arith, all, less)) }))

  pub is_bad : (reading' : Reading) (p' : Progress) (at place : ℕ) (f : ExportFault) → p.given < count → p'.fault ≡ Some (place, fault.Record f)
      → (at < 9223372036854775808 → place ≡ 12 + at) → at ≡ reading.start → Fault reading.pending f → Stops count limit body xs reading' p'
  is_bad reading' p' at place f few is there start bad =
      let low = start_small in
      let here = there (omega (arith, start, low)) in
      found reading' p' place (fault.Record f) is (omega (arith, here, start)) (λ behind.
      (xs, reading.pending ++ behind, reaches behind, due few, Fault-behind reading.pending behind f bad))

  module _ (reading' : Reading) (x : Record) (sayable : IsRecord x) (front : reading.pending ≡ record_octets x ++ reading'.pending)
      (place : reading'.start ≡ reading.start + length (record_octets x)) (p' : Progress) where
    pub is_order : p.given < count → Goes p x false p' → Stops count limit body xs reading' p'
    is_order few goes =
        let is = goes.1 in
        found reading' p' is.0 fault.Order is.1 (at_end is.0 is.2) (λ behind. (
          xs,
          reading.pending ++ behind,
          reaches behind,
          due few,
          (
            x,
            reading'.pending ++ behind,
            sayable,
            ap (λ o. o ++ behind) front ∙ Rattle.std.proofs.Common.append_assoc (record_octets x) reading'.pending behind,
            not_in_order xs x (ap (λ o. may_come_next o (keyed_of x)) (sym took.last) ∙ goes.0),
          ),
        ))

    pub is_taken : p.fault ≡ None → p.given < count → dex.Stands reading' body (xs ++ x ∷ []) → Goes p x true p' → Turns count limit body xs true reading' p'
    is_taken none few stands goes =
        let may : may_come_next (last_of (keyed xs)) (keyed_of x) ≡ true = ap (λ o. may_come_next o (keyed_of x)) (sym took.last) ∙ goes.0 in
        let in_order = in_order_more xs x took.in_order may in
        let longer = length-append xs (x ∷ []) in
        let given = took.given in
        let end = took.end in
        let low = start_small in
        let size : length (record_octets x) ≤ 274 = (let is = record_octets-length x sayable.parts in let fits = record_size-small x sayable.parts in omega (arith, is, fits)) in
        let one : p'.given ≡ p.given + 1 = goes.3 ∙ below (p.given + 1) 4294967295 (omega (arith, few, small)) in
        let behind : p'.end ≡ p.end + length (record_octets x) = goes.4 ∙ below (p.end + length (record_octets x)) 18446744073709551615 (omega (arith, end, low, size)) in (
          goes.2 ∙ none,
          (
            x,
            record {
              stands = stands;
              in_order = in_order;
              within = omega (arith, longer, given, few);
              last = goes.1 ∙ last_more xs x may;
              given = omega (arith, one, given, longer);
              end = omega (arith, behind, end, place);
              holds = goes.5 limit xs in_order took.holds;
            },
          ),
        )

-- a record that was shown, taken or not
pub shown : (count limit : ℕ) (body : List ℕ) (xs : List Record) (reading : Reading) (p : Progress) (took : Took count limit body xs reading p) → count < 4294967296
    → (reading' : Reading) (x : Record) → IsRecord x → reading.pending ≡ record_octets x ++ reading'.pending → reading'.start ≡ reading.start + length (record_octets x)
    → (p' : Progress) → p.fault ≡ None → p.given < count → dex.Stands reading' body (xs ++ x ∷ []) → (b : Bool) → Goes p x b p' → Turns count limit body xs b reading' p'
shown count limit body xs reading p took small reading' x sayable front place p' none few stands true goes =
    is_taken count limit body xs reading p took small reading' x sayable front place p' none few stands goes
shown count limit body xs reading p took small reading' x sayable front place p' none few stands false goes =
    is_order count limit body xs reading p took small reading' x sayable front place p' few goes

-- a piece more
pub took_fed : (count limit : ℕ) (body piece : List ℕ) (xs : List Record) (reading reading' : Reading) (p : Progress)
    → reading' ≡ record reading { pending = reading.pending ++ piece; given = 0 } → Took count limit body xs reading p → Took count limit (body ++ piece) xs reading' p
took_fed count limit body piece xs reading reading' p is took =
    subst (λ r. Took count limit (body ++ piece) xs r p) (sym is) (record {
      stands = Stands-feed reading piece body xs took.stands;
      in_order = took.in_order;
      within = took.within;
      last = took.last;
      given = took.given;
      end = took.end;
      holds = took.holds;
    })
