-- EXPORTS that is read in pieces while its records are regrouped, and what is said of them.
use Rattle.std.specs.Prelude.{◌≡◌, ℕ, ◌+◌, ◌-◌, ◌^◌, ⊤, refl, suc, List, [], ◌∷◌, ◌++◌, length, Option, Some, None, MatchOption}
use Rattle.std.proofs.Common.{◌∙◌, ap, append-nil, arith}
use Rattle.std.proofs.lemmas.List.Elements.{All-nil}
use Rattle.ioam_collect.specs.Collected as collected
use Rattle.ioam_collect.specs.Collected.{count_kept}
use Rattle.ioam_collect_stream.specs.Gathering.{AreFew, AreWhole, Gathers, Passes, most_of}
use Rattle.ioam_collect_stream.specs.declared.regrouping.Regrouping.{Regrouping}
use Rattle.ioam_collect_stream.specs.declared.regrouping.Cause.{Cause}
use Rattle.ioam_collect_stream.specs.declared.regrouping.Cause.TheVariants as cause
use Rattle.ioam_desk_outputs.specs.Told.{said_more}
use Rattle.ioam_dex.specs.Record.{Record, IsRecord}
use Rattle.ioam_dex.specs.Reads.{Faulty, Reads, Splits, Whole}
use Rattle.ioam_dex.specs.Reader.{Waits, fed}
use Rattle.ioam_dex.specs.declared.export.ExportFault.{ExportFault}
use Rattle.ioam_dex.proofs.ReadsLaws.{Splits-feed}
use Rattle.ioam_run_answer.specs.declared.outcome.Outcome.{Outcome}
use Rattle.ioam_run_answer.specs.declared.outcome.Outcome.TheVariants as outcome
use Rattle.ioam_stream.specs.Conversion.{Converts, LeadsTo, Sound}
use Rattle.ioam_stream.specs.Stage.{How, Ended, Handed}

-- the answer of a run that ended, by what stopped the regrouping
abbrev pub answer_of : Cause → Outcome
answer_of cause.End = outcome.Done
answer_of (cause.Bad at fault) = outcome.Exports at fault
answer_of (cause.Limit limit) = outcome.Records (most_of limit)

-- what stopped it at the end of the input, by what is left over there
abbrev pub cause_of : Option (ℕ × ExportFault) → Cause
cause_of None = cause.End
cause_of (Some (at, fault)) = cause.Bad at fault

-- nothing stopped it before the end of the input
abbrev pub IsEnd : Cause → Type 0
IsEnd cause.End = ⊤
IsEnd _ = ⊥

-- these are the first records of the octets
abbrev pub AreFirst : List Record → List ℕ → Type 0
AreFirst records octets = (rest : List ℕ) × Splits octets records rest

-- which records are regrouped of octets that are all, by what stopped the regrouping, or of octets that were handed out
abbrev pub AreOf : How → Cause → List Record → List ℕ → Type 0
AreOf Ended cause.End = λ records octets. Reads octets records Whole
AreOf Ended (cause.Bad at fault) = λ records octets. Reads octets records (Faulty at fault)
AreOf Ended (cause.Limit limit) = Passes (most_of limit)
AreOf Handed why = AreWhole []

-- the one text is that of these records, no more than may be
pub record Says (tells Are : List Record → List ℕ → Type 0) (octets : List ℕ) (so : List (List ℕ)) : Type 0 where
  pub records : List Record
  pub are : Are records octets
  pub first : AreFirst records octets
  pub few : AreFew records
  pub text : List ℕ
  pub is : tells records text
  pub said : so ≡ text ∷ []

-- no records are no more than may be
abbrev pub none_few : AreFew []
none_few = record { read = omega arith; held = omega arith }

-- the number of what an option holds, or another where it holds nothing
abbrev pub by_option : {A : Type 0} → Option A → ℕ → (A → ℕ) → ℕ
by_option None n f = n
by_option (Some x) n f = f x

-- nothing of it was said
abbrev pub IsUnsaid : List (List ℕ) → Type 0
IsUnsaid so_far = so_far ≡ [] ∷ []

-- no record was read
pub record IsFresh {T : Type 0} (now : Regrouping T) : Type 0 where
  pub gathers : MatchOption now.collector ⊥ (λ collector. Gathers [] [] now.reader collector.now)
  pub cause : now.cause ≡ cause.End

-- the reader has given these records of the octets, and the collector stands for them
pub record IsRegrouping {T : Type 0} (octets : List ℕ) (so_far : List (List ℕ)) (now : Regrouping T) : Type 0 where
  pub records : List Record
  pub gathers : MatchOption now.collector ⊥ (λ collector. Gathers octets records now.reader collector.now)
  pub cause : now.cause ≡ cause.End
  pub unsaid : IsUnsaid so_far

module _ {T : Type 0} (tells : List Record → List ℕ → Type 0) (rest : T → List ℕ) (left : T → ℕ) (most : ℕ) where
  -- a front of the text was said
  abbrev pub IsSaying : List Record → List (List ℕ) → Option T → Type 0
  IsSaying records so_far None = ⊥
  IsSaying records so_far (Some report) = (front : List ℕ) × tells records (front ++ rest report) × (so_far ≡ front ∷ [])

  -- the records that are to be regrouped of the octets were, and not all is said of them
  pub record HasStopped (how : How) (octets : List ℕ) (so_far : List (List ℕ)) (now : Regrouping T) : Type 0 where
    pub records : List Record
    pub are : AreOf how now.cause records octets
    pub first : AreFirst records octets
    pub few : AreFew records
    pub says : MatchOption now.collector (IsSaying records so_far now.report) (λ collector. collected.Stands collector.now records × IsUnsaid so_far)

  -- nothing is said of the records before the last one was regrouped
  abbrev pub does : Converts (Regrouping T)
  does = record {
    width = 1;
    fresh = IsFresh;
    stands = λ begun. IsRegrouping;
    stops = λ begun. HasStopped;
    texts = λ begun now how. Says tells (AreOf how now.cause);
    firsts = λ begun. Says tells AreFirst;
    drains = λ now. IsEnd now.cause;
    waits = λ now. Waits now.reader;
    held = λ now. length now.reader.pending + by_option now.collector (by_option now.report 0 left) (λ collector. suc most);
    room = λ now. 2 ^ 63 - fed now.reader;
  }

  -- The law of it. It stands here, since a ghost member of an `impl` cites specs/ alone.
  module _ (none : List ℕ) (of_none : tells [] none) where
    pub first_none : (octets : List ℕ) → AreFirst [] octets
    first_none octets = (octets, record { each = All-nil IsRecord; is = refl })

    -- where nothing is said yet the text of no records may follow
    pub unsaid_leads : (begun : Regrouping T) (octets : List ℕ) (so_far : List (List ℕ)) → IsUnsaid so_far → LeadsTo does begun octets so_far
    unsaid_leads begun octets so_far unsaid = (
      none ∷ [],
      refl,
      record {
        records = [];
        are = first_none octets;
        first = first_none octets;
        few = none_few;
        text = none;
        is = of_none;
        said = ap (λ (texts : List (List ℕ)). said_more texts (none ∷ [])) unsaid;
      },
    )

    pub saying_leads : (begun : Regrouping T) (octets : List ℕ) (so_far : List (List ℕ)) (records : List Record) → AreFirst records octets → AreFew records
        → (report : Option T) → IsSaying records so_far report → LeadsTo does begun octets so_far
    saying_leads begun octets so_far records first few None says = absurd says
    saying_leads begun octets so_far records first few (Some report) (front, is, said) = (
      rest report ∷ [],
      refl,
      record {
        records = records;
        are = first;
        first = first;
        few = few;
        text = front ++ rest report;
        is = is;
        said = ap (λ (texts : List (List ℕ)). said_more texts (rest report ∷ [])) said;
      },
    )

    pub stopped_leads : {C : Type 0} (P : C → Type 0) (begun : Regrouping T) (octets : List ℕ) (so_far : List (List ℕ)) (records : List Record) → AreFirst records octets → AreFew records
        → (report : Option T) (collector : Option C) → MatchOption collector (IsSaying records so_far report) (λ c. P c × IsUnsaid so_far) → LeadsTo does begun octets so_far
    stopped_leads P begun octets so_far records first few report None says = saying_leads begun octets so_far records first few report says
    stopped_leads P begun octets so_far records first few report (Some c) says = unsaid_leads begun octets so_far says.1

    abbrev pub sound : Sound does
    sound = record {
      begins = λ begun octets rest so_far now s. unsaid_leads begun (octets ++ rest) so_far s.unsaid;
      stopped = λ begun how octets so_far now s.
          stopped_leads (λ collector. collected.Stands collector.now s.records) begun octets so_far s.records s.first s.few now.report now.collector s.says;
      ended = λ begun now how octets so says. (
        [] ∷ [],
        refl,
        record {
          records = says.records;
          are = says.first;
          first = says.first;
          few = says.few;
          text = says.text;
          is = says.is;
          said = ap (λ (texts : List (List ℕ)). said_more texts ([] ∷ [])) says.said ∙ ap (λ (o : List ℕ). o ∷ []) (append-nil says.text);
        },
      );
      more = λ begun octets rest so says.
          let first : AreFirst says.records (octets ++ rest) = (says.first.0 ++ rest, Splits-feed octets rest says.records says.first.0 says.first.1) in
          record {
            records = says.records;
            are = first;
            first = first;
            few = says.few;
            text = says.text;
            is = says.is;
            said = says.said;
          };
      none = λ begun octets fresh. (
        none ∷ [],
        refl,
        record {
          records = [];
          are = first_none octets;
          first = first_none octets;
          few = none_few;
          text = none;
          is = of_none;
          said = refl;
        },
      );
    }
