-- What the capture that is gathered for `save` stands for.
use Rattle.std.specs.Prelude.{◌≡◌, ℕ, ◌≤◌, All, List, [], ◌∷◌, ◌++◌, length, refl}
use Rattle.std.proofs.Common.{◌∙◌, append-nil, arith, sym, subst, inl}
use Rattle.std.proofs.lemmas.List.Elements.{All-nil}
use Rattle.ioam_run_stream.specs.Reads.{IsNg, Reads}
use Rattle.ioam_ng.specs.Text.{capture_text, IsSendable}
use Rattle.ioam_ng.proofs.TextLaws.{Reads-text}
use Rattle.ioam_desk_outputs.specs.Told.{said_more}
use Rattle.ioam_pcap.specs.Ending.{Whole}
use Rattle.ioam_pcap.specs.Entries.{Taken}
use Rattle.ioam_run_capture.specs.SaveText.{SaveTexts}
use Rattle.ioam_run_capture.specs.declared.saving.Saving.{Saving}

-- the capture of these records, each of which may be written, and how many they are
pub record SavesIn (records : List Taken) (out : List ℕ) (gathered : Saving) : Type 0 where
  pub out_is : out ≡ capture_text records
  pub fits : All IsSendable records
  pub count : gathered.packets ≡ length records

-- OUT so far
abbrev pub Saves : List Taken → List (List ℕ) → Saving → Type 0
Saves records [] gathered = ⊥
Saves records (out ∷ []) gathered = SavesIn records out gathered
Saves records (out ∷ more ∷ texts) gathered = ⊥

-- of no records; nothing is added behind the last
abbrev pub heads : List (List ℕ)
heads = capture_text [] ∷ []

-- nothing is added behind the last record
abbrev pub sums : Saving → List (List ℕ)
sums gathered = [] ∷ []

-- how many records were taken
abbrev pub saved : Saving → ℕ
saved gathered = gathered.packets

-- no record was taken
abbrev pub IsFresh : Saving → Type 0
IsFresh gathered = gathered.packets ≡ 0

-- The laws from here on stand among the definitions, since a ghost member of an `impl` cites specs/ alone.

-- where no record was taken, none is counted
pub IsFresh-none : (gathered : Saving) → IsFresh gathered → saved gathered ≡ 0
IsFresh-none gathered fresh = fresh

-- where no record was taken, the capture is that of no records
pub Saves-begins : (gathered : Saving) → IsFresh gathered → Saves [] heads gathered
Saves-begins gathered fresh = record { out_is = refl; fits = All-nil IsSendable; count = fresh }

-- a capture that is written is of the form pcapng
text-ng : (records : List Taken) → IsNg (capture_text records)
text-ng records = (omega arith, refl)

-- and reads as its records
saved-reads : (records : List Taken) (out : List ℕ) → out ≡ capture_text records → All IsSendable records → length records ≤ 16777216 → Reads out records Whole
saved-reads records out is fits few =
    let P : List ℕ → Type 0 = λ octets. Reads octets records Whole in
    subst P (sym is) (inl (text-ng records, Reads-text records fits (omega (arith, few))))

-- the capture is whole as it is
pub Saves-ends : (records : List Taken) (texts : List (List ℕ)) (gathered : Saving) → Saves records texts gathered
    → SaveTexts records (said_more texts (sums gathered))
Saves-ends records [] gathered saves = absurd saves
Saves-ends records (out ∷ []) gathered saves =
    let is = append-nil out ∙ saves.out_is in
    record { out_is = is; fits = saves.fits; reads = saved-reads records (out ++ []) is saves.fits }
Saves-ends records (out ∷ more ∷ texts) gathered saves = absurd saves

-- and it is one text
pub heads-sized : length heads ≡ 1
heads-sized = refl

-- one text stands behind the last record
pub sums-sized : (gathered : Saving) → length (sums gathered) ≡ 1
sums-sized gathered = refl
