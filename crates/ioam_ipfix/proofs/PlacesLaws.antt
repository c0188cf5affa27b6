-- What is found of a message, part by part: which templates are known, and where its records stand.
use Rattle.std.proofs.Common.{◌≡◌, ℕ, ◌+◌, ◌-◌, ◌<◌, ◌≤◌, Bool, true, List, [], ◌∷◌, ◌++◌, length, take, drop, get_or, refl, sym, ap, ◌∙◌, subst, arith, inl, inr, append_assoc, length-drop, length-take}
use Rattle.std.specs.Prelude.{set}
use Rattle.std.proofs.lemmas.List.{append-nil, drop-drop, drop-take, drop_more, take-take, length-take-le, map_push}
use Rattle.ioam_base.specs.Octets.{u16_at}
use Rattle.ioam_dex.specs.Record.{Record, IsRecord}
use Rattle.ioam_ipfix.specs.declared.fault.IpfixFault.{IpfixFault}
use Rattle.ioam_ipfix.specs.declared.fault.IpfixFault.TheVariants as fault
use Rattle.ioam_ipfix.specs.declared.place.Place.{Place}
use Rattle.ioam_base.specs.Chain.{Chain, Stops}
use Rattle.ioam_ipfix.specs.Templates.{with_templates}
use Rattle.ioam_ipfix.specs.Data.{data_at, data_size, HasRoom}
use Rattle.ioam_ipfix.specs.Sets.{spot, set_kind, IsPadding, RecordPasses, TemplatePasses, HoldsAs, IsSized, content_of, SetPasses}
use Rattle.ioam_ipfix.specs.Messages.{joined}
use Rattle.ioam_ipfix.specs.Faults.{IsUnsized, IsStuckTemplate, HasStuckTemplate, HasStuckRecord, IsStuckAs, IsStuck, IsStuckInside}
use Rattle.ioam_ipfix.specs.Places.{slice, records_at, IsPlace, AllPlaces}
use Rattle.ioam_ipfix.specs.Steps.{AddsTemplates, Adds, AddsRecords, AddsContent, AddsSet}
use Rattle.ioam_base.proofs.ChainLaws.{Chain-push}
use Rattle.ioam_ipfix.proofs.TemplateLaws.{with_templates-push}

slice-rest : (from n to : ℕ) (message : List ℕ) → from + n ≤ to → drop n (slice from to message) ≡ slice (from + n) to message
slice-rest from n to message fits =
    let count : to - from ≡ n + (to - (from + n)) = omega (arith, fits) in
    ap (λ k. drop n (take k (drop from message))) count ∙ drop-take n (to - (from + n)) (drop from message)
    ∙ ap (take (to - (from + n))) (drop-drop n from message)

slice-length : (from to : ℕ) (message : List ℕ) → from ≤ to → to ≤ length message → length (slice from to message) ≡ to - from
slice-length from to message ordered inside = length-take-le (to - from) (drop from message) (let left = length-drop from message in omega (arith, ordered, inside, left))

all-push : (message : List ℕ) (places : List Place) (p : Place) → AllPlaces message places → IsPlace message p → AllPlaces message (places ++ p ∷ [])
all-push message [] p all is = (is, tt)
all-push message (q ∷ places) p all is = (all.0, all-push message places p all.1 is)

-- ---- templates

-- so many octets of a set were passed
pub record Took (content : List ℕ) (known : List Bool) (at : ℕ) (behind : List Bool) : Type 0 where
  pub within : at ≤ length content
  pub ids : List ℕ
  pub leads : Chain TemplatePasses content ids (drop at content)
  pub is : behind ≡ with_templates known ids

pub Took-none : (content : List ℕ) (known : List Bool) → Took content known 0 known
Took-none content known = record { within = omega arith; ids = []; leads = refl; is = refl }

pub Took-push : (content : List ℕ) (known : List Bool) (at : ℕ) (behind : List Bool) (id size : ℕ) → Took content known at behind
    → TemplatePasses (drop at content) id (drop size (drop at content)) → size ≤ length (drop at content)
    → Took content known (at + size) (set behind (id - 256) true)
Took-push content known at behind id size took pass fits =
    let left = length-drop at content in
    let within = took.within in
    record {
      within = omega (arith, fits, left, within);
      ids = took.ids ++ id ∷ [];
      leads = subst (λ r. Chain TemplatePasses content (took.ids ++ id ∷ []) r) (drop-drop size at content)
          (Chain-push TemplatePasses content took.ids (drop at content) id (drop size (drop at content)) took.leads pass);
      is = ap (λ k. set k (id - 256) true) took.is ∙ sym (with_templates-push took.ids id known);
    }

pub Took-all : (content : List ℕ) (known : List Bool) (at : ℕ) (behind : List Bool) → Took content known at behind → IsPadding 4 (drop at content)
    → AddsTemplates content known behind
Took-all content known at behind took padding = (took.ids, (drop at content, took.leads, padding), took.is)

pub Took-stuck : (content : List ℕ) (known : List Bool) (at : ℕ) (behind : List Bool) (f : IpfixFault) → Took content known at behind → IsStuckTemplate (drop at content) f
    → HasStuckTemplate content f
Took-stuck content known at behind f took stuck = (took.ids, drop at content, took.leads, stuck)

-- ---- records

-- the records of a set up to a place were noted
pub record Noted (id : ℕ) (message : List ℕ) (from to : ℕ) (old : List Place) (at : ℕ) (new : List Place) : Type 0 where
  pub after : from ≤ at
  pub within : at ≤ to
  pub xs : List Record
  pub leads : Chain (RecordPasses id) (slice from to message) xs (slice at to message)
  pub adds : Adds message old new xs

pub Noted-none : (id : ℕ) (message : List ℕ) (from to : ℕ) (old : List Place) → from ≤ to → AllPlaces message old → Noted id message from to old from old
Noted-none id message from to old ordered all = record {
  after = omega arith;
  within = ordered;
  xs = [];
  leads = refl;
  adds = (sym (append-nil (records_at message old)), all);
}

module _ (id : ℕ) (message : List ℕ) (from to : ℕ) (inside : to ≤ length message) (old : List Place) (at : ℕ) (new : List Place) (noted : Noted id message from to old at new) where
  pub Noted-fits : HasRoom id (slice at to message) → at + data_size id (slice at to message) ≤ to
  Noted-fits room = let size = slice-length at to message noted.within inside in let within = noted.within in omega (arith, room, size, within)

  pub Noted-push : (size : ℕ) → size ≡ data_size id (slice at to message) → HasRoom id (slice at to message) → IsRecord (data_at id (slice at to message))
      → RecordPasses id (slice at to message) (data_at id (slice at to message)) (drop size (slice at to message))
      → (p : Place) → ◌≡◌ {A = Place} p (record { from = at; to = to; id = id }) → Noted id message from to old (at + size) (new ++ p ∷ [])
  Noted-push size is room sayable pass p is_p =
      let here = slice at to message in
      let x = data_at id here in
      let fits : at + size ≤ to = (let most = Noted-fits room in omega (arith, most, is)) in
      let after = noted.after in
      let q : Place = record { from = at; to = to; id = id } in
      let stands : IsPlace message q = record { ordered = noted.within; inside = inside; room = room; sayable = sayable } in
      let made : Noted id message from to old (at + size) (new ++ q ∷ []) = record {
        after = omega (arith, after);
        within = fits;
        xs = noted.xs ++ x ∷ [];
        leads = subst (λ r. Chain (RecordPasses id) (slice from to message) (noted.xs ++ x ∷ []) r) (slice-rest at size to message fits)
            (Chain-push (RecordPasses id) (slice from to message) noted.xs here x (drop size here) noted.leads pass);
        adds = (
          map_push (λ (place : Place). data_at place.id (slice place.from place.to message)) new q ∙ ap (λ zs. zs ++ x ∷ []) noted.adds.0
              ∙ append_assoc (records_at message old) noted.xs (x ∷ []),
          all-push message new q noted.adds.1 stands,
        );
      } in
      subst (λ z. Noted id message from to old (at + size) (new ++ z ∷ [])) (sym is_p) made

  pub Noted-all : IsPadding 8 (slice at to message) → AddsRecords id message (slice from to message) old new
  Noted-all padding = (noted.xs, (slice at to message, noted.leads, padding), noted.adds)

  pub Noted-stuck : (f : IpfixFault) → f ≡ fault.Field at → (IsPadding 8 (slice at to message) → ⊥) → Stops (RecordPasses id) (slice at to message)
      → HasStuckRecord from id (slice from to message) f
  Noted-stuck f is other stops =
      let after = noted.after in
      let within = noted.within in
      let whole = slice-length from to message (omega (arith, after, within)) inside in
      let rest = slice-length at to message within inside in
      let there : at ≡ from + (length (slice from to message) - length (slice at to message)) = omega (arith, after, within, whole, rest) in
      (noted.xs, slice at to message, noted.leads, other, stops, is ∙ ap fault.Field there)

-- ---- a set

module _ (message : List ℕ) (at : ℕ) (inside : at < length message) (known behind : List Bool) (old new : List Place) where
  abbrev rest : List ℕ
  rest = drop at message

  abbrev size : ℕ
  size = u16_at rest 2

  content-is : slice (at + 4) (at + size) message ≡ content_of rest
  content-is =
      let count : at + size - (at + 4) ≡ size - 4 = omega arith in
      ap (λ n. take n (drop (at + 4) message)) count ∙ ap (take (size - 4)) (sym (drop-drop 4 at message))

  pub set-added : IsSized rest → AddsContent (u16_at rest 0) message (slice (at + 4) (at + size) message) known behind old new
      → AddsSet message at size known behind old new
  set-added sized adds =
      let least = sized.least in
      let there = sized.there in
      let left = length-drop at message in (
        adds.0,
        record {
          sized = sized;
          behind = sym (drop-drop size at message);
          holds = subst (λ o. HoldsAs (set_kind (u16_at rest 0)) known (u16_at rest 0) o adds.0 behind) content-is adds.1;
        },
        omega (arith, least),
        omega (arith, there, left, inside),
        adds.2,
      )

  some : 1 ≤ length rest
  some = let left = length-drop at message in omega (arith, left, inside)

  pub set-unsized : (f : IpfixFault) → IsUnsized rest f → IsStuck at (spot known rest) f
  set-unsized f bad = record { some = some; bad = inl bad }

  pub set-stuck : (f : IpfixFault) → IsSized rest → IsStuckAs (set_kind (u16_at rest 0)) at known (u16_at rest 0) (slice (at + 4) (at + size) message) f
      → IsStuck at (spot known rest) f
  set-stuck f sized stuck = record {
    some = some;
    bad = inr (sized, subst (λ o. IsStuckAs (set_kind (u16_at rest 0)) at known (u16_at rest 0) o f) content-is stuck);
  }

-- ---- the sets of a message

joined-push : (sets : List (List Record)) (xs : List Record) → joined (sets ++ xs ∷ []) ≡ joined sets ++ xs
joined-push [] xs = append-nil xs
joined-push (ys ∷ sets) xs = ap (λ zs. ys ++ zs) (joined-push sets xs) ∙ sym (append_assoc ys (joined sets) xs)

-- the sets of a message up to a place were taken
pub record Sets (message : List ℕ) (known : List Bool) (at : ℕ) (behind : List Bool) (places : List Place) : Type 0 where
  pub within : at ≤ length message
  pub sets : List (List Record)
  pub leads : Chain SetPasses (spot known (drop 16 message)) sets (spot behind (drop at message))
  pub records : records_at message places ≡ joined sets
  pub all : AllPlaces message places

pub Sets-push : (message : List ℕ) (known : List Bool) (at : ℕ) (mid : List Bool) (old : List Place) (size : ℕ) (behind : List Bool) (new : List Place)
    → Sets message known at mid old → AddsSet message at size mid behind old new → Sets message known (at + size) behind new
Sets-push message known at mid old size behind new taken adds = record {
  within = adds.3;
  sets = taken.sets ++ adds.0 ∷ [];
  leads = Chain-push SetPasses (spot known (drop 16 message)) taken.sets (spot mid (drop at message)) adds.0 (spot behind (drop (at + size) message)) taken.leads adds.1;
  records = adds.4.0 ∙ ap (λ xs. xs ++ adds.0) taken.records ∙ sym (joined-push taken.sets adds.0);
  all = adds.4.1;
}

pub Sets-stuck : (message : List ℕ) (known : List Bool) (at : ℕ) (behind : List Bool) (places : List Place) (f : IpfixFault) → Sets message known at behind places
    → IsStuck at (spot behind (drop at message)) f → IsStuckInside known message f
Sets-stuck message known at behind places f taken stuck =
    let left = length-drop at message in
    let within = taken.within in
    let there : at ≡ length message - length (drop at message) = omega (arith, left, within) in
    record {
      sets = taken.sets;
      here = spot behind (drop at message);
      leads = taken.leads;
      stuck = subst (λ n. IsStuck n (spot behind (drop at message)) f) there stuck;
    }

-- ---- the record that is due

-- the next place, and the places behind it
pub next-place : (message : List ℕ) (places : List Place) (given : ℕ) (p : Place) → given < length places → p ≡ get_or places given p → AllPlaces message (drop given places)
    → IsPlace message p × (drop given places ≡ p ∷ drop (given + 1) places)
next-place message places given p inside is all =
    let here : drop given places ≡ p ∷ drop (given + 1) places = drop_more places given p inside ∙ ap (λ q. q ∷ drop (given + 1) places) (sym is) in
    ((subst (λ ps. AllPlaces message ps) here all).0, here)

-- its octets among those that are pending, which begin with its message
pub held-slice : (pending : List ℕ) (size first last : ℕ) → first ≤ last → last ≤ length (take size pending)
    → slice first last pending ≡ slice first last (take size pending)
held-slice pending size first last ordered inside =
    let most = length-take size pending in
    let within : last ≤ size = omega (arith, inside, most) in
    let all : size ≡ first + (size - first) = omega (arith, ordered, within) in
    sym (ap (λ n. take (last - first) (drop first (take n pending))) all ∙ ap (take (last - first)) (drop-take first (size - first) pending)
    ∙ take-take (last - first) (size - first) (drop first pending) (omega (arith, within)))
