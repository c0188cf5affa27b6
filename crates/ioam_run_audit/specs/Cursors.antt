-- One of the two captures, of which records are taken one by one.
use Rattle.std.specs.Prelude.{◌≡◌, ℕ, ◌+◌, ◌<◌, ◌≤◌, ◌⊎◌, Bool, true, false, List, [], ◌∷◌, ◌++◌, length, Option, Some, None}
use Rattle.ioam_capture.specs.Reader.{Stands, Waits}
use Rattle.ioam_capture.specs.Reading.{Reading, fed, fresh}
use Rattle.ioam_capture.specs.Reads.{Reads}
use Rattle.ioam_capture.specs.Streams.{ShowsSo}
use Rattle.ioam_ip.specs.Chain.{IsSound}
use Rattle.ioam_node.specs.declared.reason.Reason.{Reason}
use Rattle.ioam_node.specs.declared.reason.Reason.TheVariants as reason
use Rattle.ioam_pcap.specs.Ending.{Ending, Whole, Faulty}
use Rattle.ioam_pcap.specs.Entries.{Taken}
use Rattle.ioam_run_stream.specs.Promise.{EndsSo, ArePassed}
use Rattle.ioam_run_audit.specs.Fit.{HoldsPacket, HasReason}
use Rattle.ioam_run_audit.specs.declared.cursor.Cursor.{Cursor}
use Rattle.ioam_run_audit.specs.declared.cursor.End.{End}
use Rattle.ioam_run_audit.specs.declared.cursor.End.TheVariants as end
use Rattle.ioam_run_audit.specs.declared.cursor.Next.{Next}
use Rattle.ioam_run_audit.specs.declared.cursor.Next.TheVariants as next

-- the record's packet is held; or why it holds none
abbrev pub IsHeld : Taken → List ℕ → Option Reason → Type 0
IsHeld t held None = HoldsPacket t held
IsHeld t held (Some why) = HasReason t why

-- of a packet: it is held, and its chain is whole; or it isn't
abbrev pub IsHeldSo : List ℕ → List ℕ → Option Reason → Type 0
IsHeldSo packet held None = (held ≡ packet) × IsSound packet
IsHeldSo packet held (Some why) = (why ≡ reason.Chain) × (IsSound packet → ⊥)

-- why no record is taken after the end of a capture that ends so
abbrev pub end_of : Ending → End
end_of Whole = end.Whole
end_of (Faulty at fault) = end.Bad at fault

-- these are all records of the octets, which end so; or as many of them as may be taken, and more come
abbrev pub EndsBy : End → List Taken → List ℕ → Type 0
EndsBy end.Open taken octets = ⊥
EndsBy end.Whole taken octets = EndsSo Whole taken octets
EndsBy (end.Bad at fault) taken octets = EndsSo (Faulty at fault) taken octets
EndsBy end.Limit taken octets = ArePassed 16777216 taken octets

-- no record is taken any more of these octets: they are all of the capture, or what stops it does so whatever follows
abbrev pub IsOver : End → List ℕ → Bool → List Taken → Type 0
IsOver how octets ended taken = ((ended ≡ true) × EndsBy how taken octets × ShowsSo octets false taken None)
    ⊎ ((how ≡ end.Whole → ⊥) × ((more : List ℕ) → EndsBy how taken (octets ++ more)))

-- a reader was handed these octets, and gave these records
abbrev pub StandsAt : End → List ℕ → Bool → Reading → List Taken → Type 0
StandsAt end.Open octets ended reader taken = (ended ≡ false) × Stands reader octets taken
StandsAt end.Whole octets ended reader taken = IsOver end.Whole octets ended taken
StandsAt (end.Bad at fault) octets ended reader taken = IsOver (end.Bad at fault) octets ended taken
StandsAt end.Limit octets ended reader taken = IsOver end.Limit octets ended taken

-- of a capture these octets were handed out, and it has ended or hasn't; these records were taken, no more than 16,777,216
pub record At (octets : List ℕ) (ended : Bool) (cursor : Cursor) (taken : List Taken) : Type 0 where
  pub count_is : cursor.taken ≡ length taken
  pub few : length taken ≤ 16777216
  pub ended_is : ended ≡ cursor.ended
  pub stands : StandsAt cursor.end octets ended cursor.reader taken

-- nothing was handed out
pub record IsFresh (cursor : Cursor) : Type 0 where
  pub reader : cursor.reader ≡ fresh
  pub taken : cursor.taken ≡ 0
  pub is_open : cursor.end ≡ end.Open
  pub ended : cursor.ended ≡ false

-- what one step of the reader did: a record was taken, and is held if it gives a packet; or more octets are needed; or the
-- capture is over, by its fault or by its limit
module _ (old new : Reading) (before after : ℕ) (held : List ℕ) where
  abbrev pub Steps : Next → Type 0
  Steps next.More = (after ≡ before) × Waits new × ((octets : List ℕ) (taken : List Taken) → Stands old octets taken → Stands new octets taken)
  Steps (next.Record why) = (before < 16777216) × (after ≡ before + 1)
      × ((t : Taken) × ((octets : List ℕ) (taken : List Taken) → Stands old octets taken → Stands new octets (taken ++ t ∷ [])) × IsHeld t held why)
  Steps (next.Over end.Open) = ⊥
  Steps (next.Over end.Whole) = ⊥
  Steps (next.Over (end.Bad at fault)) = (after ≡ before)
      × ((octets : List ℕ) (taken : List Taken) → Stands old octets taken → (more : List ℕ) → Reads (octets ++ more) taken (Faulty at fault))
  Steps (next.Over end.Limit) = (after ≡ before) × (16777216 ≤ before)
      × ((t : Taken) × ((octets : List ℕ) (taken : List Taken) → Stands old octets taken → Stands new octets (taken ++ t ∷ [])))

-- what is known of a cursor stays so, for these records
abbrev pub KeepsAt : Cursor → Cursor → (List Taken → List Taken) → Type 0
KeepsAt old new more = (octets : List ℕ) (ended : Bool) (taken : List Taken) → old.end ≡ end.Open → At octets ended old taken → At octets ended new (more taken)

-- what came next of a capture of which more could come
module _ (old new : Cursor) where
  abbrev pub NextOf : Next → Type 0
  NextOf next.More = Waits new.reader × (new.end ≡ old.end) × (new.taken ≡ old.taken) × KeepsAt old new (λ taken. taken)
  NextOf (next.Record why) = (new.taken ≡ old.taken + 1) × (old.taken < 16777216) × (new.end ≡ old.end)
      × ((t : Taken) × KeepsAt old new (λ taken. taken ++ t ∷ []) × IsHeld t new.packet.items why)
  NextOf (next.Over how) = (new.end ≡ how) × (how ≡ end.Open → ⊥) × (new.taken ≡ old.taken) × KeepsAt old new (λ taken. taken)

  -- these octets more were handed out
  pub record IsFed (piece : List ℕ) : Type 0 where
    pub fed : fed new.reader ≡ fed old.reader + length piece
    pub ended : new.ended ≡ old.ended
    pub still : new.end ≡ old.end
    pub packet : new.packet ≡ old.packet
    pub taken : new.taken ≡ old.taken
    pub stands : (octets : List ℕ) (ended : Bool) (taken : List Taken) → old.end ≡ end.Open → At octets ended old taken → At (octets ++ piece) ended new taken

  -- the input has ended
  pub record HasEnded : Type 0 where
    pub ended : new.ended ≡ true
    pub over : new.end ≡ end.Open → ⊥
    pub reader : new.reader ≡ old.reader
    pub packet : new.packet ≡ old.packet
    pub taken : new.taken ≡ old.taken
    pub stands : (octets : List ℕ) (ended : Bool) (taken : List Taken) → old.end ≡ end.Open → At octets ended old taken → At octets true new taken
