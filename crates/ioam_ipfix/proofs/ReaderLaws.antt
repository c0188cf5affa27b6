-- What a reader stands for after a piece or a step.
use Rattle.std.proofs.Common.{◌≡◌, ℕ, zero, suc, ◌+◌, ◌-◌, ◌<◌, ◌≤◌, List, [], ◌∷◌, ◌++◌, length, refl, sym, ap, ◌∙◌, subst, arith, inl, inr, append_assoc, length-append}
use Rattle.std.proofs.lemmas.List.{append-nil}
use Rattle.ioam_dex.specs.Record.{Record}
use Rattle.ioam_ipfix.specs.declared.fault.IpfixFault.{IpfixFault}
use Rattle.ioam_ipfix.specs.declared.fault.IpfixFault.TheVariants as fault
use Rattle.ioam_ipfix.specs.Templates.{none_known}
use Rattle.ioam_ipfix.specs.Sets.{spot}
use Rattle.ioam_ipfix.specs.Messages.{joined, MessagePasses, IpfixOf}
use Rattle.ioam_ipfix.specs.Reads.{Ending, Whole, Faulty, Reads, ReadsOnly}
use Rattle.ioam_ipfix.specs.Reading.{Reading, OwesFew, place_of, fresh, held, while_due, with_due, with_piece}
use Rattle.ioam_ipfix.specs.Reader.{AreOfLast, Stands, Waits, IsFaulty, Keeps, Takes, GoesOver, ReadsSo}
use Rattle.ioam_base.proofs.ChainLaws.{Chain-push}
use Rattle.ioam_ipfix.proofs.MessageLaws.{fault-stops, cut-stops, messages-behind}
use Rattle.ioam_ipfix.proofs.ReadsLaws.{Reads-unique, Reads-faulty}

joined-append : (xss yss : List (List Record)) → joined (xss ++ yss) ≡ joined xss ++ joined yss
joined-append [] yss = refl
joined-append (xs ∷ xss) yss = ap (λ zs. xs ++ zs) (joined-append xss yss) ∙ sym (append_assoc xs (joined xss) (joined yss))

-- ---- what is owed

pub while_due-most : (due : List Record) (size : ℕ) → while_due due size ≤ size
while_due-most [] size = omega arith
while_due-most (x ∷ due) size = omega arith

pub while_due-none : (due : List Record) (size : ℕ) → due ≡ [] → while_due due size ≡ 0
while_due-none due size none = ap (λ xs. while_due xs size) none

OwesFew-piece : (piece : List ℕ) (reader : Reading) → OwesFew reader → OwesFew (with_piece piece reader)
OwesFew-piece piece reader owes = record { few = owes.few; among = omega arith; none = owes.none }

OwesFew-due : (due : List Record) (reader : Reading) → OwesFew reader → OwesFew (with_due due reader)
OwesFew-due due reader owes =
    let most = while_due-most due reader.owed in
    let few = owes.few in
    let among = owes.among in
    record { few = omega (arith, most, few); among = omega (arith, most, among); none = λ none. while_due-none due reader.owed none }

-- what it keeps of the messages that were taken is what is owed, once it keeps so many octets in all
pub fed-exact : (piece : List ℕ) (old new : Reading) → new ≡ record (with_piece piece old) { given = new.given }
    → held new ≡ old.owed + length old.pending + length piece → new ≡ with_piece piece old
fed-exact piece old new rest all =
    let long = ap (λ (r : Reading). length r.pending) rest in
    let given : new.given ≡ old.owed = omega (arith, all, long, length-append old.pending piece) in
    rest ∙ ap (λ (n : ℕ). record (with_piece piece old) { given = n }) given

-- ---- what it stands for

pub Stands-fresh : Stands fresh [] []
Stands-fresh = record {
  messages = [];
  leads = refl;
  count = refl;
  inside = refl;
  gives = refl;
  late = inl refl;
  few = record { few = omega arith; among = omega arith; none = λ none. refl };
}

-- a piece more
pub Stands-feed : (reader : Reading) (piece octets : List ℕ) (given : List Record) → Stands reader octets given
    → Stands (with_piece piece reader) (octets ++ piece) given
Stands-feed reader piece octets given stands =
    let inside = stands.inside in
    record {
      messages = stands.messages;
      leads = messages-behind piece (spot none_known octets) stands.messages (place_of reader) stands.leads;
      count = stands.count;
      inside = omega (arith, inside, length-append reader.pending piece, length-append octets piece);
      gives = stands.gives;
      late = stands.late;
      few = OwesFew-piece piece reader stands.few;
    }

-- where nothing is due, all records of the messages taken were given
given-all : (reader : Reading) (octets : List ℕ) (given : List Record) (stands : Stands reader octets given) → reader.due ≡ [] → given ≡ joined stands.messages
given-all reader octets given stands none = sym (append-nil given) ∙ ap (λ xs. given ++ xs) (sym none) ∙ sym stands.gives

-- a message more was taken
pub Stands-takes : (old new : Reading) → Takes old new → Keeps old new
Stands-takes old new takes octets given stands =
    let messages = stands.messages in
    let count = takes.count in
    let had = stands.count in
    let inside = takes.fed in
    record {
      messages = messages ++ new.due ∷ [];
      leads = Chain-push MessagePasses (spot none_known octets) messages (place_of old) new.due (place_of new) stands.leads takes.passes;
      count = omega (arith, count, had, length-append messages (new.due ∷ []));
      inside = inside ∙ stands.inside;
      gives = joined-append messages (new.due ∷ []) ∙ ap (λ xs. joined messages ++ xs) (append-nil new.due)
          ∙ ap (λ xs. xs ++ new.due) (sym (given-all old octets given stands takes.none));
      late = inr (messages, new.due, refl, omega arith);
      few = takes.few;
    }

last-less : (messages : List (List Record)) (x : Record) (xs due : List Record) → due ≡ x ∷ xs → AreOfLast messages due → AreOfLast messages xs
last-less messages x xs due is (inl none) = let size = ap length (sym is ∙ none) in absurd (omega (arith, size))
last-less messages x xs due is (inr (earlier, last, all, few)) = let size = ap length is in inr (earlier, last, all, omega (arith, few, size))

-- a record was given
pub Stands-gives : (old : Reading) (x : Record) (xs : List Record) → old.due ≡ x ∷ xs → (octets : List ℕ) (given : List Record) → Stands old octets given
    → Stands (with_due xs old) octets (given ++ x ∷ [])
Stands-gives old x xs due octets given stands = record {
  messages = stands.messages;
  leads = stands.leads;
  count = stands.count;
  inside = stands.inside;
  gives = stands.gives ∙ ap (λ ys. given ++ ys) due ∙ sym (append_assoc given (x ∷ []) xs);
  late = last-less stands.messages x xs old.due due stands.late;
  few = OwesFew-due xs old stands.few;
}

-- ---- the messages that were taken

front-nil : (xs ys : List Record) → xs ++ ys ≡ [] → xs ≡ []
front-nil [] ys none = refl
front-nil (x ∷ xs) ys none = let size = ap length none in absurd (omega (arith, size))

rest-nil : (xs ys : List Record) → xs ++ ys ≡ [] → ys ≡ []
rest-nil [] ys none = none
rest-nil (x ∷ xs) ys none = let size = ap length none in absurd (omega (arith, size))

pub goes-none : (reader : Reading) → GoesOver reader reader []
goes-none reader = record {
  before = [];
  bare = refl;
  last = [];
  single = omega arith;
  leads = refl;
  count = omega arith;
  owes = append-nil reader.due;
  still = inr refl;
}

-- one more, behind others without a record
pub goes-takes : (old mid new : Reading) → GoesOver old mid [] → Takes mid new → GoesOver old new []
goes-takes old mid new goes takes =
    let passed = goes.before ++ goes.last in
    let had = goes.count in
    let has = takes.count in
    let nothing : old.due ++ joined goes.last ≡ [] = goes.owes ∙ takes.none in
    let first : old.due ≡ [] = front-nil old.due (joined goes.last) nothing in
    record {
      before = passed;
      bare = joined-append goes.before goes.last ∙ ap (λ xs. xs ++ joined goes.last) goes.bare ∙ rest-nil old.due (joined goes.last) nothing;
      last = new.due ∷ [];
      single = omega arith;
      leads = Chain-push MessagePasses (place_of old) passed (place_of mid) new.due (place_of new) goes.leads takes.passes;
      count = omega (arith, had, has, length-append passed (new.due ∷ []));
      owes = ap (λ xs. xs ++ (new.due ++ [])) first ∙ append-nil new.due;
      still = inl first;
    }

-- and the record that was given then
pub goes-gives : (old mid : Reading) (x : Record) (xs : List Record) → GoesOver old mid [] → mid.due ≡ x ∷ xs → GoesOver old (with_due xs mid) (x ∷ [])
goes-gives old mid x xs goes due = record {
  before = goes.before;
  bare = goes.bare;
  last = goes.last;
  single = goes.single;
  leads = goes.leads;
  count = goes.count;
  owes = goes.owes ∙ due;
  still = goes.still;
}

-- ---- what its steps say

-- what waits says
pub says-more : (reader : Reading) → Waits reader → (octets : List ℕ) (given : List Record) → Stands reader octets given
    → (messages : List (List Record)) × IpfixOf octets messages (place_of reader) × (given ≡ joined messages) × (reader.messages ≡ length messages)
says-more reader waits octets given stands =
    (stands.messages, record { leads = stands.leads; stops = cut-stops (place_of reader) waits.1 }, given-all reader octets given stands waits.0, stands.count)

place-is : (reader : Reading) (octets : List ℕ) (given : List Record) → Stands reader octets given → reader.start ≡ length octets - length reader.pending
place-is reader octets given stands = let inside = stands.inside in omega (arith, inside)

-- what a fault says
pub says-bad : (reader : Reading) (f : IpfixFault) → IsFaulty reader f → (octets : List ℕ) (given : List Record) → Stands reader octets given
    → (messages : List (List Record)) × (given ≡ joined messages) × (reader.messages ≡ length messages)
    × ((more : List ℕ) → Reads (octets ++ more) messages (Faulty reader.start f)) × ((more : List ℕ) → ReadsOnly (octets ++ more) messages (Faulty reader.start f))
says-bad reader f bad octets given stands =
    let messages = stands.messages in
    let reads : (more : List ℕ) → Reads (octets ++ more) messages (Faulty reader.start f) =
    λ more. subst (λ n. Reads (octets ++ more) messages (Faulty n f)) (sym (place-is reader octets given stands))
    (Reads-faulty octets messages (place_of reader) f stands.leads bad.1 more) in (
      messages,
      given-all reader octets given stands bad.0,
      stands.count,
      reads,
      λ more others other also. Reads-unique (octets ++ more) others messages other (Faulty reader.start f) also (reads more),
    )

-- where nothing is left the input is whole
pub reads-whole : (reader : Reading) → Waits reader → reader.pending ≡ [] → (octets : List ℕ) (given : List Record) → Stands reader octets given → ReadsSo octets given Whole
reads-whole reader waits none octets given stands =
    let messages = stands.messages in
    let reads : Reads octets messages Whole = record { rest = place_of reader; leads = stands.leads; ends = none } in
    (messages, given-all reader octets given stands waits.0, reads, λ others other also. Reads-unique octets others messages other Whole also reads)

-- and else cut
pub reads-cut : (reader : Reading) → Waits reader → 0 < length reader.pending → (octets : List ℕ) (given : List Record) → Stands reader octets given
    → ReadsSo octets given (Faulty reader.start (fault.Short (length reader.pending)))
reads-cut reader waits some octets given stands =
    let messages = stands.messages in
    let ending : Ending = Faulty reader.start (fault.Short (length reader.pending)) in
    let reads : Reads octets messages ending = record {
      rest = place_of reader;
      leads = stands.leads;
      ends = (place-is reader octets given stands, inr (waits.1, some, refl));
    } in
    (messages, given-all reader octets given stands waits.0, reads, λ others other also. Reads-unique octets others messages other ending also reads)

-- a message that is taken has no fault
pub takes-not-faulty : (old new : Reading) → Takes old new → (f : IpfixFault) → IsFaulty old f → ⊥
takes-not-faulty old new takes f bad = fault-stops (place_of old) f bad.1 new.due (place_of new) takes.passes

pub some-from : (n : ℕ) → (n ≡ 0 → ⊥) → 0 < n
some-from zero other = absurd (other refl)
some-from (suc n) other = omega arith
