-- What the text that is gathered of a list stands for. `Tells packet text` says that this text is written
-- of a packet, behind its number.
use Rattle.std.specs.Prelude.{◌≡◌, ℕ, List, [], ◌∷◌, ◌++◌, length, refl}
use Rattle.std.proofs.Common.{ap}
use Rattle.ioam_desk_outputs.specs.Told.{said_more}
use Rattle.ioam_pcap.specs.Entries.{Taken}
use Rattle.ioam_run_capture.specs.ListText.{Lines, ListTexts, packets_line}
use Rattle.ioam_run_capture.specs.declared.listing.Listing.{Listing}

-- of no records
abbrev pub heads : List (List ℕ)
heads = [] ∷ []

-- what is added behind the last record
abbrev pub sums : {L : Type 0} → Listing L → List (List ℕ)
sums gathered = packets_line gathered.packets ∷ []

-- how many records were taken
abbrev pub listed : {L : Type 0} → Listing L → ℕ
listed gathered = gathered.packets

-- no record was taken
abbrev pub IsFresh : {L : Type 0} → Listing L → Type 0
IsFresh gathered = gathered.packets ≡ 0

-- where no record was taken, none is counted
pub IsFresh-none : {L : Type 0} → (gathered : Listing L) → IsFresh gathered → listed gathered ≡ 0
IsFresh-none gathered fresh = fresh

-- the text of no records is one
pub heads-sized : length heads ≡ 1
heads-sized = refl

-- one text stands behind the last record
pub sums-sized : {L : Type 0} → (gathered : Listing L) → length (sums gathered) ≡ 1
sums-sized gathered = refl

module _ {L : Type 0} (Tells : List ℕ → List ℕ → Type 0) where
  -- the lines of these records, which have no others, and how many they are
  pub record ListsIn (taken : List Taken) (text : List ℕ) (gathered : Listing L) : Type 0 where
    pub lines : Lines Tells 1 taken text
    pub only : (others : List ℕ) → Lines Tells 1 taken others → others ≡ text
    pub count : gathered.packets ≡ length taken

  -- REPORT so far, without the count
  abbrev pub Lists : List Taken → List (List ℕ) → Listing L → Type 0
  Lists taken [] gathered = ⊥
  Lists taken (text ∷ []) gathered = ListsIn taken text gathered
  Lists taken (text ∷ more ∷ texts) gathered = ⊥

  -- The laws from here on stand among the definitions, since a ghost member of an `impl` cites specs/ alone.

  -- of no records there are no lines
  pub Lists-begins : (gathered : Listing L) → IsFresh gathered → Lists [] heads gathered
  Lists-begins gathered fresh = record { lines = refl; only = λ others are. are; count = fresh }

  -- the text is whole with the count
  pub Lists-ends : (taken : List Taken) (texts : List (List ℕ)) (gathered : Listing L) → Lists taken texts gathered
      → ListTexts Tells taken (said_more texts (sums gathered))
  Lists-ends taken [] gathered lists = absurd lists
  Lists-ends taken (text ∷ []) gathered lists = record {
    lines = text;
    are_lines = lists.lines;
    only = lists.only;
    text_is = ap (λ (count : ℕ). text ++ packets_line count) lists.count;
  }
  Lists-ends taken (text ∷ more ∷ texts) gathered lists = absurd lists
