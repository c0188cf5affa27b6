-- EXPORTS that is read in pieces while its records are packed into messages.
use Rattle.std.specs.Prelude.{◌≡◌, ℕ, ◌+◌, ◌-◌, ◌^◌, ⊤, refl, List, [], ◌∷◌, ◌++◌, Option, Some, None}
use Rattle.std.proofs.Common.{◌∙◌, ap, append-nil, arith}
use Rattle.ioam_desk_outputs.specs.Told.{said_more}
use Rattle.ioam_dex.specs.Record.{Record}
use Rattle.ioam_dex.specs.Reads.{Faulty, Whole}
use Rattle.ioam_dex.specs.declared.export.ExportFault.{ExportFault}
use Rattle.ioam_dex.specs.Reader.{Stands, Waits, fed}
use Rattle.ioam_dex.proofs.ReadsLaws.{Splits-feed}
use Rattle.ioam_ipfix.specs.Written.{messages_text}
use Rattle.ioam_run_answer.specs.declared.outcome.Outcome.{Outcome}
use Rattle.ioam_run_answer.specs.declared.outcome.Outcome.TheVariants as outcome
use Rattle.ioam_run_ipfix.specs.Exports.{AreFew, AreFirst, ArePassed, AreWhole, EndsSo}
use Rattle.ioam_run_ipfix.specs.Packing.{IsPacked}
use Rattle.ioam_run_ipfix.specs.Texts.{AreMessages, Says}
use Rattle.ioam_run_ipfix.specs.declared.packer.Packer.{Packer}
use Rattle.ioam_run_ipfix.specs.declared.packer.Cause.{Cause}
use Rattle.ioam_run_ipfix.specs.declared.packer.Cause.TheVariants as cause
use Rattle.ioam_stream.specs.Conversion.{Converts, Sound}
use Rattle.ioam_stream.specs.Stage.{How, Ended, Handed}

-- the answer of a run that ended, by what stopped the packing
abbrev pub answer_of : Cause → Outcome
answer_of cause.End = outcome.Done
answer_of (cause.Bad at fault) = outcome.Exports at fault
answer_of cause.Limit = outcome.Records 67108864

-- which records are packed of octets that are all, by what stopped the packing, or of octets that were handed out
abbrev pub ArePacked : How → Cause → List Record → List ℕ → Type 0
ArePacked Ended cause.End = EndsSo Whole
ArePacked Ended (cause.Bad at fault) = EndsSo (Faulty at fault)
ArePacked Ended cause.Limit = ArePassed
ArePacked Handed why = AreWhole []

-- and these are the first of the octets
abbrev pub Are : Cause → How → List Record → List ℕ → Type 0
Are why how records octets = ArePacked how why records octets × AreFirst records octets

-- what stopped it at the end of the input, by what is left over there
abbrev pub cause_of : Option (ℕ × ExportFault) → Cause
cause_of None = cause.End
cause_of (Some (at, fault)) = cause.Bad at fault

-- nothing stopped it before the end of the input
abbrev pub IsEnd : Cause → Type 0
IsEnd cause.End = ⊤
IsEnd _ = ⊥

-- no record was read
pub record IsFresh (packer : Packer) : Type 0 where
  pub stands : Stands packer.reader [] []
  pub packed : IsPacked [] [] packer.packing
  pub cause : packer.cause ≡ cause.End

-- the reader has given these records of the octets, and they were packed; with the run that is gathered the texts are those
-- of these records
pub record IsPacking (octets : List ℕ) (so_far : List (List ℕ)) (packer : Packer) : Type 0 where
  pub records : List Record
  pub done : List (ℕ × List Record)
  pub stands : Stands packer.reader octets records
  pub few : AreFew records
  pub packed : IsPacked done records packer.packing
  pub said : so_far ≡ messages_text done ∷ []
  pub cause : packer.cause ≡ cause.End
  pub rest : List ℕ
  pub leads : AreMessages records (messages_text done ++ rest)

-- the records that are to be packed of the octets were packed, and the last run isn't put
pub record IsStopped (how : How) (octets : List ℕ) (so_far : List (List ℕ)) (packer : Packer) : Type 0 where
  pub records : List Record
  pub done : List (ℕ × List Record)
  pub are : Are packer.cause how records octets
  pub few : AreFew records
  pub packed : IsPacked done records packer.packing
  pub said : so_far ≡ messages_text done ∷ []
  pub rest : List ℕ
  pub leads : AreMessages records (messages_text done ++ rest)

abbrev pub does : Converts Packer
does = record {
  width = 1;
  fresh = IsFresh;
  stands = λ begun. IsPacking;
  stops = λ begun. IsStopped;
  texts = λ begun now how. Says AreMessages (Are now.cause how);
  firsts = λ begun. Says AreMessages AreFirst;
  drains = λ now. IsEnd now.cause;
  waits = λ now. Waits now.reader;
  held = λ now. 67108864 - (now.packing.before + now.packing.held);
  room = λ now. 2 ^ 63 - fed now.reader;
}

pub first_of : (records : List Record) (done : List (ℕ × List Record)) (rest octets : List ℕ) (so_far : List (List ℕ)) → AreFirst records octets → AreFew records
    → so_far ≡ messages_text done ∷ [] → AreMessages records (messages_text done ++ rest) → Says AreMessages AreFirst octets (said_more so_far (rest ∷ []))
first_of records done rest octets so_far first few said leads = record {
  records = records;
  are = first;
  few = few;
  text = messages_text done ++ rest;
  is = leads;
  said = ap (λ (ts : List (List ℕ)). said_more ts (rest ∷ [])) said;
}

-- The law of a packer. It stands here, since a ghost member of an `impl` cites specs/ alone.
abbrev pub sound : Sound does
sound = record {
  begins = λ begun octets rest so_far now s. (
    s.rest ∷ [],
    refl,
    first_of s.records s.done s.rest (octets ++ rest) so_far (now.reader.pending ++ rest, Splits-feed octets rest s.records now.reader.pending s.stands.splits) s.few s.said s.leads,
  );
  stopped = λ begun how octets so_far now s. (s.rest ∷ [], refl, first_of s.records s.done s.rest octets so_far s.are.1 s.few s.said s.leads);
  ended = λ begun now how octets so says. (
    [] ∷ [],
    refl,
    record {
      records = says.records;
      are = says.are.1;
      few = says.few;
      text = says.text;
      is = says.is;
      said = ap (λ (ts : List (List ℕ)). said_more ts ([] ∷ [])) says.said ∙ ap (λ (o : List ℕ). o ∷ []) (append-nil says.text);
    },
  );
  more = λ begun octets rest so says. record {
    records = says.records;
    are = (says.are.0 ++ rest, Splits-feed octets rest says.records says.are.0 says.are.1);
    few = says.few;
    text = says.text;
    is = says.is;
    said = says.said;
  };
  none = λ begun octets fresh. (
    messages_text [] ∷ [],
    refl,
    record {
      records = [];
      are = (octets, record { each = fresh.stands.splits.each; is = refl });
      few = omega arith;
      text = messages_text [];
      is = record { runs = []; cut = record { are = tt; longest = tt; joins = refl }; is = refl };
      said = refl;
    },
  );
}
