-- How messages are read and their records taken.
use Rattle.std.proofs.Common.{◌≡◌, ℕ, ◌+◌, ◌-◌, ◌^◌, ◌<◌, ◌≤◌, List, [], ◌∷◌, ◌++◌, length, get_or, set, refl, sym, ap, ◌∙◌, subst, inl, inr, append-nil, append_assoc, length-append, arith, Option, Some, None}
use Rattle.std.proofs.lemmas.List.Elements.{All-nil, All-push}
use Rattle.ioam_base.specs.Chain.{Chain}
use Rattle.ioam_base.specs.Octets.{IsOctets}
use Rattle.ioam_desk_outputs.specs.Told.{Adds, said_more}
use Rattle.ioam_desk_outputs.specs.declared.output.Output.{Output}
use Rattle.ioam_dex.specs.Record.{Record, IsRecord, record_octets}
use Rattle.ioam_dex.specs.Reads.{records_octets}
use Rattle.ioam_dex.proofs.ReadsLaws.{records_octets-append}
use Rattle.ioam_ipfix.specs.Messages.{joined, MessagePasses}
use Rattle.ioam_ipfix.specs.Reads.{Ending, Faulty, Whole}
use Rattle.ioam_ipfix.specs.Reading.{Reading, fed, place_of, with_piece}
use Rattle.ioam_ipfix.specs.Reader.{Stands, Waits, ReadsSo, ending_of}
use Rattle.ioam_ipfix.specs.Sets.{Spot, spot}
use Rattle.ioam_ipfix.specs.Templates.{none_known}
use Rattle.ioam_ipfix.specs.declared.fault.IpfixFault.{IpfixFault}
use Rattle.ioam_ipfix.proofs.MessageLaws.{cut-stops, messages-behind}
use Rattle.ioam_ipfix.proofs.ReaderLaws.{Stands-fresh}
use Rattle.ioam_run_ipfix.specs.Messages.{most_messages, AreOf, AreFirst}
use Rattle.ioam_run_ipfix.specs.Taker.{Are, AreTaken, cause_of, Goes, HasRoom, IsEnd, IsTaking, SaysBad, Shows, does, first_on, nothing_on}
use Rattle.ioam_run_ipfix.specs.Texts.{AreRecords, Says}
use Rattle.ioam_run_ipfix.specs.declared.taker.Taker.{Taker}
use Rattle.ioam_run_ipfix.specs.declared.taker.Shown.{Shown}
use Rattle.ioam_run_ipfix.specs.declared.taker.Shown.TheVariants as shown
use Rattle.ioam_run_ipfix.specs.declared.taker.Cause.{Cause}
use Rattle.ioam_run_ipfix.specs.declared.taker.Cause.TheVariants as cause
use Rattle.ioam_run_ipfix.proofs.GoesLaws.{goes-further}
use Rattle.ioam_run_ipfix.proofs.MessagesLaws.{joined-append, stop-front}
use Rattle.ioam_run_answer.proofs.CallLaws.{adds_one}
use Rattle.ioam_run_ipfix.proofs.SizeLaws.{chain-append, octets-append, reader-room}
use Rattle.ioam_stream.specs.Conversion.{StandsSo, TakesOne, TakesNone, NeedsMore, Finishes, SaysLast, Opens, Refills}
use Rattle.ioam_stream.specs.Stage.{How, Ended, Handed}

adds_none : (outputs : List Output) → length outputs ≡ 1 → Adds outputs outputs ([] ∷ [])
adds_none [] one = absurd (omega (arith, one))
adds_none (x ∷ []) one = (refl, sym (append-nil x.gathered.items), tt)
adds_none (x ∷ y ∷ outputs) one = absurd (omega (arith, one))

-- ---- the beginning

pub taker_opens : (taker : Taker) (outputs : List Output) → length outputs ≡ 1 → Opens does taker outputs outputs
taker_opens taker outputs one = (
  [] ∷ [],
  adds_none outputs one,
  λ fresh_one. record {
    records = [];
    stands = subst (λ (r : Reading). Stands r [] []) (sym fresh_one.reader) Stands-fresh;
    first = record { messages = []; rest = spot none_known []; begins = refl; others = []; are = refl };
    each = All-nil IsRecord;
    few = omega arith;
    count = fresh_one.given;
    few_messages = omega (arith, ap (λ (r : Reading). r.messages) fresh_one.reader);
    small = λ i. omega arith;
    room = fresh_one.room;
    said = refl;
    cause = fresh_one.cause;
  },
)

-- whatever the reader shows, it gave some records
pub shows_goes : (old new : Reading) (octets : List ℕ) (what : Shown) → Shows old new octets what → (xs : List Record) × Goes old new xs
shows_goes old new octets shown.Record shows = (shows.0 ∷ [], shows.3)
shows_goes old new octets shown.More shows = ([], shows.1)
shows_goes old new octets (shown.Bad at fault) shows = ([], shows.0)

-- ---- one record

pub taker_room : (taker : Taker) → StandsSo does taker → HasRoom taker
taker_room taker so = so.stands.room

-- all records of the messages that the reader took are the first of the octets
first_given : (reader : Reading) (octets : List ℕ) (records : List Record) → Stands reader octets records → AreFirst records octets
first_given reader octets records stands = record {
  messages = stands.messages;
  rest = place_of reader;
  begins = stands.leads;
  others = reader.due;
  are = stands.gives;
}

pub taker_takes : (old new : Taker) (outputs : List Output) (d now : Output) (x : Record) → length outputs ≡ 1 → now.slot ≡ (get_or outputs 0 d).slot
    → now.gathered.items ≡ (get_or outputs 0 d).gathered.items ++ record_octets x → old.given < 67108864 → new.given ≡ old.given + 1 → new.reader.messages ≤ most_messages
    → IsRecord x → Goes old.reader new.reader (x ∷ []) → HasRoom new → new.cause ≡ old.cause → TakesOne does old new outputs (set outputs 0 now)
taker_takes old new outputs d now x one slot is room counted few is_record goes has_room kept = record {
  held = omega (arith, room, counted);
  added = record_octets x ∷ [];
  adds = adds_one outputs d now (record_octets x) one slot is;
  stands = λ begun octets so_far s.
      let size = length-append s.records (x ∷ []) in
      let count = s.count in
      let stands = goes.stands octets s.records s.stands in
      record {
        records = s.records ++ x ∷ [];
        stands = stands;
        first = first_given new.reader octets (s.records ++ x ∷ []) stands;
        each = All-push IsRecord s.records x s.each is_record;
        few = omega (arith, size, count, room);
        count = omega (arith, counted, count, size);
        few_messages = few;
        small = s.small;
        room = has_room;
        said = ap (λ (ts : List (List ℕ)). said_more ts (record_octets x ∷ [])) s.said
            ∙ ap (λ (o : List ℕ). o ∷ []) (sym (records_octets-append s.records (x ∷ []) ∙ ap (λ o. records_octets s.records ++ o) (append-nil (record_octets x))));
        cause = kept ∙ s.cause;
      };
}

-- ---- none

pub taker_waits : (old new : Taker) (outputs : List Output) → Waits new.reader → Goes old.reader new.reader [] → new.reader.messages ≤ most_messages → HasRoom new
    → new.given ≡ old.given → new.cause ≡ old.cause → NeedsMore does old new outputs outputs
taker_waits old new outputs waits goes few has_room same kept = record {
  same = refl;
  waits = waits;
  stands = λ begun octets so_far s. record {
    records = s.records;
    stands = subst (λ (xs : List Record). Stands new.reader octets xs) (append-nil s.records) (goes.stands octets s.records s.stands);
    first = s.first;
    each = s.each;
    few = s.few;
    count = same ∙ s.count;
    few_messages = few;
    small = s.small;
    room = has_room;
    said = s.said;
    cause = kept ∙ s.cause;
  };
}

-- the records that were taken are those of these octets
said_by : (why : Cause) (how : How) (taker : Taker) (octets whole : List ℕ) (so_far : List (List ℕ)) (s : IsTaking octets so_far taker) → Are why how s.records whole
    → Says AreRecords (Are why how) whole so_far
said_by why how taker octets whole so_far s are = record {
  records = s.records;
  are = are;
  few = s.few;
  text = records_octets s.records;
  is = record { each = s.each; is = refl };
  said = s.said;
}

-- whatever follows, these are the records
stops_by : (old new : Taker) (outputs : List Output) (why : Cause) → new.given ≡ old.given → new.cause ≡ why → (IsEnd why → ⊥)
    → ((octets rest : List ℕ) (so_far : List (List ℕ)) (s : IsTaking octets so_far old) → AreTaken Ended why s.records (octets ++ rest)) → TakesNone does old new outputs outputs
stops_by old new outputs why given is no_end are = record {
  same = refl;
  held = omega (arith, given);
  stops = λ begun octets rest so_far s. subst (λ (k : Cause). Says AreRecords (Are k Ended) (octets ++ rest) so_far) (sym is)
      (said_by why Ended old octets (octets ++ rest) so_far s (are octets rest so_far s, first_on s.records octets rest s.first));
  undrained = λ drains. no_end (subst (λ (k : Cause). IsEnd k) is drains);
}

begins_on : (octets rest : List ℕ) (messages : List (List Record)) (place : Spot) → Chain MessagePasses (spot none_known octets) messages place
    → Chain MessagePasses (spot none_known (octets ++ rest)) messages (spot place.known (place.octets ++ rest))
begins_on octets rest messages place leads = messages-behind rest (spot none_known octets) messages place leads

-- a faulty message
pub taker_bad : (old new : Taker) (outputs : List Output) (at : ℕ) (fault : IpfixFault) → new.given ≡ old.given → new.cause ≡ cause.Bad at fault → new.reader.messages ≤ most_messages
    → SaysBad old.reader new.reader at fault → TakesNone does old new outputs outputs
taker_bad old new outputs at fault given why few bad = stops_by old new outputs (cause.Bad at fault) given why (λ end. end) (λ octets rest so_far s.
    let says = bad octets s.records s.stands in
    let most = s.few in
    let size = ap length says.1 in
    record {
      messages = says.0;
      reads = says.3 rest;
      within = record { few_messages = omega (arith, says.2, few); few_records = omega (arith, most, size) };
      are = says.1;
    })

-- a message too many
pub taker_messages : (old new : Taker) (outputs : List Output) (xs : List Record) → new.given ≡ old.given → new.cause ≡ cause.Messages → most_messages < new.reader.messages
    → Goes old.reader new.reader xs → TakesNone does old new outputs outputs
taker_messages old new outputs xs given why many goes = stops_by old new outputs cause.Messages given why (λ end. end) (λ octets rest so_far s.
    let all : List (List Record) = s.stands.messages in
    let count = s.stands.count in
    let had = s.few_messages in
    let went = goes.over.count in
    let more : most_messages - length all < length (goes.over.before ++ goes.over.last) = omega (arith, count, went, many, had) in
    let further = goes-further old.reader new.reader xs (most_messages - length all) goes.over more in
    let size_front = further.size in
    let nothing : old.reader.due ≡ [] = elim goes.over.still [
      | inl none ↦ none
      | inr none ↦ let size = ap length none in absurd (omega (arith, size, more))
    ] in
    let are : s.records ≡ joined (all ++ further.front) =
    sym (append-nil s.records) ∙ ap (λ ys. s.records ++ ys) (sym nothing) ∙ sym s.stands.gives
    ∙ sym (append-nil (joined all)) ∙ ap (λ ys. joined all ++ ys) (sym further.bare) ∙ sym (joined-append all further.front) in
    let few = s.few in
    let size = ap length are in
    let leads : Chain MessagePasses (spot none_known octets) ((all ++ further.front) ++ further.next ∷ []) further.place =
    subst (λ ms. Chain MessagePasses (spot none_known octets) ms further.place) (sym (append_assoc all further.front (further.next ∷ [])))
    (chain-append (spot none_known octets) all (place_of old.reader) (further.front ++ further.next ∷ []) further.place s.stands.leads further.leads) in
    record {
      crowded = record {
        messages = all ++ further.front;
        next = further.next;
        rest = spot further.place.known (further.place.octets ++ rest);
        begins = begins_on octets rest ((all ++ further.front) ++ further.next ∷ []) further.place leads;
        all = omega (arith, count, had, size_front, length-append all further.front);
        few = omega (arith, few, size);
      };
      are = are;
    })

-- a record too many
pub taker_records : (old new : Taker) (outputs : List Output) (x : Record) → new.given ≡ old.given → new.cause ≡ cause.Records → 67108864 ≤ old.given → new.reader.messages ≤ most_messages
    → Goes old.reader new.reader (x ∷ []) → TakesNone does old new outputs outputs
taker_records old new outputs x given why most few_messages goes = stops_by old new outputs cause.Records given why (λ end. end) (λ octets rest so_far s.
    let now = goes.stands octets s.records s.stands in
    let all : List (List Record) = now.messages in
    let are : joined all ≡ s.records ++ x ∷ new.reader.due = now.gives ∙ append_assoc s.records (x ∷ []) new.reader.due in
    let count = now.count in
    let few = s.few in
    let had = s.count in
    let size = ap length are in
    let parts = length-append s.records (x ∷ new.reader.due) in
    record {
      full = record {
        messages = all;
        rest = spot new.reader.known (new.reader.pending ++ rest);
        begins = begins_on octets rest all (place_of new.reader) now.leads;
        few = omega (arith, count, few_messages);
        more = omega (arith, size, parts, most, had);
      };
      others = x ∷ new.reader.due;
      are = are;
      all = omega (arith, few, had, most);
    })

-- ---- the end

-- the records are those of all messages, which end so
taker_reads : (ending : Ending) (taker : Taker) (octets : List ℕ) (so_far : List (List ℕ)) (s : IsTaking octets so_far taker) → Waits taker.reader
    → ReadsSo octets s.records ending → AreOf ending s.records octets
taker_reads ending taker octets so_far s waits read =
    let few = s.few in
    let size = ap length read.1 in
    let all : List (List Record) = s.stands.messages in
    let front = stop-front (spot none_known octets) all (place_of taker.reader) read.0 read.2.rest s.stands.leads (cut-stops (place_of taker.reader) waits.1) read.2.leads in
    let long = ap length front.1 in
    let parts = length-append read.0 front.0 in
    let count = s.stands.count in
    let most = s.few_messages in
    record {
      messages = read.0;
      reads = read.2;
      within = record { few_messages = omega (arith, long, parts, count, most); few_records = omega (arith, few, size) };
      are = read.1;
    }

-- the input has ended
pub taker_finishes : (old new : Taker) (cut : Option (ℕ × IpfixFault)) → Waits old.reader → new.cause ≡ cause_of cut → new.reader ≡ old.reader
    → ((octets : List ℕ) (given : List Record) → Stands old.reader octets given → ReadsSo octets given (ending_of cut)) → Finishes does Ended old new
taker_finishes old new cut waits is reader reads = record {
  room = ap (λ (r : Reading). 2 ^ 63 - fed r) reader;
  stops = λ begun octets so_far s. subst (λ (k : Cause). Says AreRecords (Are k Ended) octets so_far) (sym is)
      (said_by (cause_of cut) Ended old octets octets so_far s (by_cut cut octets so_far s (reads octets s.records s.stands), s.first));
}
  where
    by_cut : (c : Option (ℕ × IpfixFault)) (octets : List ℕ) (so_far : List (List ℕ)) (s : IsTaking octets so_far old) → ReadsSo octets s.records (ending_of c)
        → AreTaken Ended (cause_of c) s.records octets
    by_cut None octets so_far s read = taker_reads Whole old octets so_far s waits read
    by_cut (Some (at, fault)) octets so_far s read = taker_reads (Faulty at fault) old octets so_far s waits read

-- no more can be had of it
pub taker_cut : (taker : Taker) → Waits taker.reader → Finishes does Handed taker taker
taker_cut taker waits = record {
  room = refl;
  stops = λ begun octets so_far s.
      let few = s.few in
      let count = s.stands.count in
      let most = s.few_messages in
      let all : s.records ≡ joined s.stands.messages =
      sym (append-nil s.records) ∙ ap (λ ys. s.records ++ ys) (sym waits.0) ∙ sym s.stands.gives in
      let size = ap length all in
      said_by taker.cause Handed taker octets octets so_far s (
        record {
          handed = octets;
          parts = sym (append-nil octets);
          messages = s.stands.messages;
          rest = place_of taker.reader;
          begins = s.stands.leads;
          cut = waits.1;
          within = record { few_messages = omega (arith, count, most); few_records = omega (arith, few, size) };
          are = all;
        },
        s.first,
      );
}

pub taker_closes : (taker : Taker) (outputs : List Output) → length outputs ≡ 1 → SaysLast does taker taker outputs outputs
taker_closes taker outputs one = record {
  room = refl;
  added = [] ∷ [];
  adds = adds_none outputs one;
  texts = λ begun how octets so_far says. record {
    records = says.records;
    are = says.are;
    few = says.few;
    text = says.text;
    is = says.is;
    said = nothing_on so_far says.text says.said;
  };
  drains = λ drains. drains;
}

-- ---- a piece more

-- a reader that waits was fed no more than the greatest messages and the first octets of another
pub taker_fits : (taker : Taker) → StandsSo does taker → Waits taker.reader → fed taker.reader < 4397979533311
taker_fits taker so waits =
    let s = so.stands in
    reader-room taker.reader so.octets s.records s.stands s.small s.few_messages waits

pub taker_feeds : (old new : Taker) (piece : List ℕ) → 0 < length piece → fed old.reader + length piece < 2 ^ 63 → new.reader ≡ with_piece piece old.reader → IsOctets piece
    → ((octets : List ℕ) (given : List Record) → Stands old.reader octets given → Stands new.reader (octets ++ piece) given)
    → new.given ≡ old.given → HasRoom new → new.cause ≡ old.cause → Refills does piece old new
taker_feeds old new piece some fits is are stands same has_room kept = record {
  room = omega (arith, some, fits, ap fed is, length-append old.reader.pending piece);
  stands = λ begun octets so_far s. record {
    records = s.records;
    stands = stands octets s.records s.stands;
    first = first_on s.records octets piece s.first;
    each = s.each;
    few = s.few;
    count = same ∙ s.count;
    few_messages = let had = s.few_messages in omega (arith, ap (λ (r : Reading). r.messages) is, had);
    small = octets-append octets piece s.small are;
    room = has_room;
    said = s.said;
    cause = kept ∙ s.cause;
  };
}
