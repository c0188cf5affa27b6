-- A capture whose records are gathered into texts, as what a machine converts.
use Rattle.std.specs.Prelude.{◌≡◌, ℕ, ◌+◌, ◌-◌, ◌^◌, ◌<◌, ◌≤◌, false, List, [], ◌∷◌, ◌++◌, length, None}
use Rattle.ioam_capture.specs.Reader.{Stands, Waits}
use Rattle.ioam_capture.specs.Reading.{Reading, fed, fresh}
use Rattle.ioam_capture.specs.Reads.{Reads}
use Rattle.ioam_capture.specs.Streams.{ShowsSo}
use Rattle.ioam_desk_outputs.specs.Told.{Adds, said_more}
use Rattle.ioam_desk_outputs.specs.declared.output.Output.{Output}
use Rattle.ioam_pcap.specs.Ending.{Ending, Whole, Faulty}
use Rattle.ioam_pcap.specs.Entries.{Taken}
use Rattle.ioam_run_stream.specs.Promise.{AreFirst, ArePassed, EndsSo, most_packets}
use Rattle.ioam_run_stream.specs.declared.captured.Captured.{Captured}
use Rattle.ioam_run_stream.specs.declared.captured.End.{End}
use Rattle.ioam_run_stream.specs.declared.captured.End.TheVariants as end
use Rattle.ioam_run_stream.specs.declared.captured.Next.{Next}
use Rattle.ioam_run_stream.specs.declared.captured.Next.TheVariants as next
use Rattle.ioam_stream.specs.Conversion.{Converts}
use Rattle.ioam_stream.specs.Stage.{How, Ended, Handed}

-- why no record is taken after the end of a capture that ends so
abbrev pub end_of : Ending → End
end_of Whole = end.Whole
end_of (Faulty at fault) = end.Bad at fault

-- which records were taken of octets that are all of the capture or were handed out of it, by why no more are
abbrev pub AreOf : ℕ → How → End → List Taken → List ℕ → Type 0
AreOf most Ended end.Open taken octets = ⊥
AreOf most Ended end.Whole taken octets = EndsSo Whole taken octets
AreOf most Ended (end.Bad at fault) taken octets = EndsSo (Faulty at fault) taken octets
AreOf most Ended end.Limit taken octets = ArePassed most taken octets
AreOf most Handed end taken octets = ShowsSo octets false taken None

module _ {G : Type 0} (gathers : G → List Taken → List (List ℕ) → G → Type 0) (count : G → ℕ) where
  -- what the next record left: it was taken, or more octets are needed, or the capture is faulty, or it is past the limit
  module _ (limit : ℕ) (old new : Reading) (before after : G) (outputs now : List Output) where
    pub record TakesRecord : Type 0 where
      pub below : count before < limit
      pub counted : count after ≡ count before + 1
      pub record_is : Taken
      pub stands : (octets : List ℕ) (taken : List Taken) → Stands old octets taken → Stands new octets (taken ++ record_is ∷ [])
      pub added : List (List ℕ)
      pub adds : Adds outputs now added
      pub gathered : (begun : G) (taken : List Taken) (so_far : List (List ℕ)) → gathers begun taken so_far before
          → gathers begun (taken ++ record_is ∷ []) (said_more so_far added) after

    -- nothing was gathered
    abbrev pub Stays : Type 0
    Stays = (after ≡ before) × (now ≡ outputs)

    abbrev pub Nexts : Next → Type 0
    Nexts next.Record = TakesRecord
    Nexts next.More = Stays × Waits new × ((octets : List ℕ) (taken : List Taken) → Stands old octets taken → Stands new octets taken)
    Nexts (next.Bad at fault) = Stays × ((octets : List ℕ) (taken : List Taken) → Stands old octets taken
        → (more : List ℕ) → Reads (octets ++ more) taken (Faulty at fault))
    Nexts next.Limit = Stays × (limit ≤ count before)
        × ((record_is : Taken) × ((octets : List ℕ) (taken : List Taken) → Stands old octets taken → Stands new octets (taken ++ record_is ∷ [])))

  module _ (width : ℕ) (begins : G → Type 0) (Texts : G → List Taken → List (List ℕ) → Type 0) where
    -- nothing was taken yet
    pub record IsFresh (now : Captured G) : Type 0 where
      pub reader : now.reader ≡ fresh
      pub gathered : begins now.gathered
      pub bound : now.limit ≤ most_packets
      pub is_open : now.end ≡ end.Open

    -- these texts were gathered of these records, no more than may be
    pub record HasGathered (begun : Captured G) (taken : List Taken) (so_far : List (List ℕ)) (now : Captured G) : Type 0 where
      pub are : gathers begun.gathered taken so_far now.gathered
      pub count_is : count now.gathered ≡ length taken
      pub few : length taken ≤ now.limit
      pub limit_is : now.limit ≡ begun.limit
      pub bound : now.limit ≤ most_packets
      pub sized : length so_far ≡ width

    -- the reader was handed these octets
    pub record IsTaking (begun : Captured G) (octets : List ℕ) (so_far : List (List ℕ)) (now : Captured G) : Type 0 where
      pub taken : List Taken
      pub stands : Stands now.reader octets taken
      pub gathered : HasGathered begun taken so_far now

    -- no record is taken any more
    pub record HasStopped (begun : Captured G) (how : How) (octets : List ℕ) (so_far : List (List ℕ)) (now : Captured G) : Type 0 where
      pub taken : List Taken
      pub are : AreOf now.limit how now.end taken octets
      pub gathered : HasGathered begun taken so_far now

    -- the whole texts
    pub record AreTexts (begun now : Captured G) (how : How) (octets : List ℕ) (so : List (List ℕ)) : Type 0 where
      pub taken : List Taken
      pub are : AreOf begun.limit how now.end taken octets
      pub few : length taken ≤ begun.limit
      pub texts_are : Texts begun.gathered taken so
      pub sized : length so ≡ width

    -- the texts of some first records
    pub record AreFirsts (begun : Captured G) (octets : List ℕ) (so : List (List ℕ)) : Type 0 where
      pub taken : List Taken
      pub are : AreFirst taken octets
      pub few : length taken ≤ begun.limit
      pub texts_are : Texts begun.gathered taken so

    abbrev pub does : Converts (Captured G)
    does = record {
      width = width;
      fresh = IsFresh;
      stands = IsTaking;
      stops = HasStopped;
      texts = AreTexts;
      firsts = AreFirsts;
      drains = λ now. now.end ≡ end.Whole;
      waits = λ now. Waits now.reader;
      held = λ now. now.limit - count now.gathered;
      room = λ now. 2 ^ 63 - fed now.reader;
    }
