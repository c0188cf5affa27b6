-- IN that is read in pieces while the records of its messages are written.
use Rattle.std.specs.Prelude.{◌≡◌, ℕ, ◌+◌, ◌-◌, ◌^◌, ◌≤◌, ⊤, refl, All, List, [], ◌∷◌, ◌++◌, length, Option, Some, None}
use Rattle.std.proofs.Common.{◌∙◌, ap, append-nil, arith}
use Rattle.std.proofs.lemmas.List.Elements.{All-nil}
use Rattle.ioam_base.specs.Octets.{IsOctets}
use Rattle.ioam_desk_outputs.specs.Told.{said_more}
use Rattle.ioam_dex.specs.Record.{Record, IsRecord, record_octets}
use Rattle.ioam_dex.specs.Reads.{records_octets}
use Rattle.ioam_ipfix.specs.Messages.{joined}
use Rattle.ioam_ipfix.specs.Reads.{Faulty, Reads, Whole}
use Rattle.ioam_ipfix.specs.Reading.{Reading, fed, fresh}
use Rattle.ioam_ipfix.specs.Reader.{GoesOver, Stands, Waits}
use Rattle.ioam_ipfix.specs.declared.fault.IpfixFault.{IpfixFault}
use Rattle.ioam_ipfix.specs.Sets.{spot}
use Rattle.ioam_ipfix.specs.Templates.{none_known}
use Rattle.ioam_ipfix.proofs.MessageLaws.{messages-behind}
use Rattle.ioam_run_answer.specs.declared.outcome.Outcome.{Outcome}
use Rattle.ioam_run_answer.specs.declared.outcome.Outcome.TheVariants as outcome
use Rattle.ioam_run_ipfix.specs.Exports.{AreFew}
use Rattle.ioam_run_ipfix.specs.Messages.{most_messages, AreOf, AreBefore, AreAsMany, AreFirst, AreWhole}
use Rattle.ioam_run_ipfix.specs.Texts.{AreRecords, Says}
use Rattle.ioam_run_ipfix.specs.declared.taker.Taker.{Taker}
use Rattle.ioam_run_ipfix.specs.declared.taker.Cause.{Cause}
use Rattle.ioam_run_ipfix.specs.declared.taker.Cause.TheVariants as cause
use Rattle.ioam_run_ipfix.specs.declared.taker.Shown.{Shown}
use Rattle.ioam_run_ipfix.specs.declared.taker.Shown.TheVariants as shown
use Rattle.ioam_stream.specs.Conversion.{Converts, Sound}
use Rattle.ioam_stream.specs.Stage.{How, Ended, Handed}

-- the answer of a run that ended, by what stopped the taking
abbrev pub answer_of : Cause → Outcome
answer_of cause.End = outcome.Done
answer_of (cause.Bad at fault) = outcome.Ipfix at fault
answer_of cause.Messages = outcome.Packets 67108865
answer_of cause.Records = outcome.Records 67108864

-- ---- what the reader shows

-- the reader went on over messages, and gave these records
pub record Goes (old new : Reading) (given : List Record) : Type 0 where
  pub over : GoesOver old new given
  pub fed : fed new ≡ fed old
  pub stands : (octets : List ℕ) (before : List Record) → Stands old octets before → Stands new octets (before ++ given)

-- what is fed and was given reads as whole messages and then one with this fault, whatever follows
abbrev pub SaysBad : Reading → Reading → ℕ → IpfixFault → Type 0
SaysBad old new at fault = (all : List ℕ) (before : List Record) → Stands old all before → (messages : List (List Record)) × (before ≡ joined messages)
    × (new.messages ≡ length messages) × ((more : List ℕ) → Reads (all ++ more) messages (Faulty at fault))

-- what a reader shows next: a record, whose octets were put, or why there is none
abbrev pub Shows : Reading → Reading → List ℕ → Shown → Type 0
Shows old new octets shown.Record = (x : Record) × IsRecord x × (octets ≡ record_octets x) × Goes old new (x ∷ [])
Shows old new octets shown.More = Waits new × Goes old new []
Shows old new octets (shown.Bad at fault) = Goes old new [] × SaysBad old new at fault

-- ---- what a taker stands for

-- which records are taken of octets that are all, by what stopped the taking, or of octets that were handed out
abbrev pub AreTaken : How → Cause → List Record → List ℕ → Type 0
AreTaken Ended cause.End = AreOf Whole
AreTaken Ended (cause.Bad at fault) = AreOf (Faulty at fault)
AreTaken Ended cause.Messages = AreBefore
AreTaken Ended cause.Records = AreAsMany
AreTaken Handed why = AreWhole []

-- and these are the first of the octets
abbrev pub Are : Cause → How → List Record → List ℕ → Type 0
Are why how records octets = AreTaken how why records octets × AreFirst records octets

-- what stopped it at the end of the input, by what is left over there
abbrev pub cause_of : Option (ℕ × IpfixFault) → Cause
cause_of None = cause.End
cause_of (Some (at, fault)) = cause.Bad at fault

-- nothing stopped it before the end of the input
abbrev pub IsEnd : Cause → Type 0
IsEnd cause.End = ⊤
IsEnd _ = ⊥

-- there is room for a record
abbrev pub HasRoom : Taker → Type 0
HasRoom taker = taker.room.spare + length taker.room.octets ≡ 274

-- no record was taken
pub record IsFresh (taker : Taker) : Type 0 where
  pub reader : taker.reader ≡ fresh
  pub room : HasRoom taker
  pub given : taker.given ≡ 0
  pub cause : taker.cause ≡ cause.End

-- the reader has given these records of the octets, and they were taken; the limits aren't passed
pub record IsTaking (octets : List ℕ) (so_far : List (List ℕ)) (taker : Taker) : Type 0 where
  pub records : List Record
  pub stands : Stands taker.reader octets records
  pub first : AreFirst records octets
  pub each : All IsRecord records
  pub few : AreFew records
  pub count : taker.given ≡ length records
  pub few_messages : taker.reader.messages ≤ most_messages
  pub small : IsOctets octets
  pub room : HasRoom taker
  pub said : so_far ≡ records_octets records ∷ []
  pub cause : taker.cause ≡ cause.End

abbrev pub does : Converts Taker
does = record {
  width = 1;
  fresh = IsFresh;
  stands = λ begun. IsTaking;
  stops = λ begun how octets so_far now. Says AreRecords (Are now.cause how) octets so_far;
  texts = λ begun now how. Says AreRecords (Are now.cause how);
  firsts = λ begun. Says AreRecords AreFirst;
  drains = λ now. IsEnd now.cause;
  waits = λ now. Waits now.reader;
  held = λ now. 67108864 - now.given;
  room = λ now. 2 ^ 63 - fed now.reader;
}

-- ---- The law of a taker. It stands here, since a ghost member of an `impl` cites specs/ alone.

-- messages stand at the start of all that begins so
pub first_on : (records : List Record) (octets rest : List ℕ) → AreFirst records octets → AreFirst records (octets ++ rest)
first_on records octets rest first = record {
  messages = first.messages;
  rest = spot first.rest.known (first.rest.octets ++ rest);
  begins = messages-behind rest (spot none_known octets) first.messages first.rest first.begins;
  others = first.others;
  are = first.are;
}

pub nothing_on : (so : List (List ℕ)) (text : List ℕ) → so ≡ text ∷ [] → said_more so ([] ∷ []) ≡ text ∷ []
nothing_on so text is = ap (λ (ts : List (List ℕ)). said_more ts ([] ∷ [])) is ∙ ap (λ (o : List ℕ). o ∷ []) (append-nil text)

pub says_on : (Are : List Record → List ℕ → Type 0) (octets : List ℕ) (so : List (List ℕ)) (says : Says AreRecords Are octets so) → AreFirst says.records octets
    → Says AreRecords AreFirst octets (said_more so ([] ∷ []))
says_on Are octets so says first = record {
  records = says.records;
  are = first;
  few = says.few;
  text = says.text;
  is = says.is;
  said = nothing_on so says.text says.said;
}

abbrev pub sound : Sound does
sound = record {
  begins = λ begun octets rest so_far now s. (
    [] ∷ [],
    refl,
    record {
      records = s.records;
      are = first_on s.records octets rest s.first;
      few = s.few;
      text = records_octets s.records;
      is = record { each = s.each; is = refl };
      said = nothing_on so_far (records_octets s.records) s.said;
    },
  );
  stopped = λ begun how octets so_far now says. ([] ∷ [], refl, says_on (Are now.cause how) octets so_far says says.are.1);
  ended = λ begun now how octets so says. ([] ∷ [], refl, says_on (Are now.cause how) octets so says says.are.1);
  more = λ begun octets rest so says. record {
    records = says.records;
    are = first_on says.records octets rest says.are;
    few = says.few;
    text = says.text;
    is = says.is;
    said = says.said;
  };
  none = λ begun octets fresh. (
    [] ∷ [],
    refl,
    record {
      records = [];
      are = record { messages = []; rest = spot none_known octets; begins = refl; others = []; are = refl };
      few = omega arith;
      text = [];
      is = record { each = All-nil IsRecord; is = refl };
      said = refl;
    },
  );
}
