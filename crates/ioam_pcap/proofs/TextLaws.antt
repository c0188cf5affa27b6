-- What was written is read back.
use Rattle.std.proofs.Common.{◌≡◌, ℕ, ◌+◌, ◌*◌, ◌/◌, ◌%◌, ◌<◌, ◌≤◌, List, [], ◌∷◌, ◌++◌, length, take, drop, map, Some, Result, Ok, Err, cond, All, arith, refl, sym, ap, ◌∙◌, subst, inl, length-append, append_assoc}
use Rattle.std.proofs.lemmas.List.{append-nil, drop-drop}
use Rattle.std.proofs.lemmas.List.Elements.{All-nil, All-head, All-tail, All-push}
use Rattle.std.specs.Result.{OnOk, is_ok}
use Rattle.std.proofs.Math.Seq.{drop-append_seam, take-append_seam}
use Rattle.ioam_base.specs.Octets.{u32_at}
use Rattle.ioam_ip.specs.declared.layer.Layer.TheVariants.{Raw}
use Rattle.ioam_pcap.specs.declared.form.Order.TheVariants.{Big}
use Rattle.ioam_pcap.specs.declared.form.Fraction.TheVariants.{Nano}
use Rattle.ioam_pcap.specs.declared.form.Form.{Form}
use Rattle.ioam_pcap.specs.Form.{number_at, HasHead}
use Rattle.ioam_pcap.specs.Entries.{Entry, most, captured, IsWhole, entry_at, behind, Entries}
use Rattle.ioam_pcap.specs.Ending.{Whole}
use Rattle.ioam_pcap.specs.Reads.{Reads}
use Rattle.ioam_pcap.specs.Text.{Sent, seconds_of, fraction_of, record_octets, records_text, head_octets, capture_text, entry_sent, IsSendable, with_sent}
use Rattle.ioam_pcap.proofs.DropLaws.{number_at-drop}

-- the form of what is written
abbrev pub written_form : Form
written_form = record { order = Big; fraction = Nano; link = Raw }

-- a number's four octets are the number
number_of_word : (n : ℕ) → n < 4294967296
    → n / 16777216 % 256 * 16777216 + n / 65536 % 256 * 65536 + n / 256 % 256 * 256 + n % 256 ≡ n
number_of_word n small = omega arith

-- the time that is read
time_read : (time : ℕ) → seconds_of time * 1000000000 + fraction_of time * 1 ≡ time % 4294967296000000000
time_read time = omega arith

module _ (time : ℕ) (octets rest : List ℕ) (fits : length octets ≤ most) where
  -- a record at the front of its octets
  abbrev here : List ℕ
  here = record_octets time octets ++ rest

  seconds_here : u32_at here 0 ≡ seconds_of time
  seconds_here = number_of_word (seconds_of time) (omega arith)

  fraction_here : u32_at here 4 ≡ fraction_of time
  fraction_here = number_of_word (fraction_of time) (omega arith)

  captured_here : u32_at here 8 ≡ length octets
  captured_here = number_of_word (length octets) (omega arith)

  original_here : u32_at here 12 ≡ length octets
  original_here = number_of_word (length octets) (omega arith)

  long_here : length here ≡ 16 + length octets + length rest
  long_here = omega (arith, length-append octets rest)

  octets_here : take (length octets) (drop 16 here) ≡ octets
  octets_here = take-append_seam octets rest

-- a record behind other octets
module _ (front : List ℕ) (time : ℕ) (octets rest : List ℕ) (fits : length octets ≤ most) where
  abbrev all : List ℕ
  all = front ++ (record_octets time octets ++ rest)

  seam : drop (length front) all ≡ record_octets time octets ++ rest
  seam = drop-append_seam front (record_octets time octets ++ rest)

  number_there : (n : ℕ) → number_at Big all (length front + n) ≡ u32_at (record_octets time octets ++ rest) n
  number_there n = sym (number_at-drop Big all (length front) n) ∙ ap (λ xs. u32_at xs n) seam

  seconds_there : number_at Big all (length front) ≡ seconds_of time
  seconds_there = ap (number_at Big all) (omega arith) ∙ number_there 0 ∙ seconds_here time octets rest fits

  captured_there : captured written_form all (length front) ≡ length octets
  captured_there = number_there 8 ∙ captured_here time octets rest fits

  IsWhole_there : IsWhole written_form all (length front)
  IsWhole_there =
      let same = captured_there in
      (omega arith, omega (arith, length-append front (record_octets time octets ++ rest), long_here time octets rest fits))

  entry_there : ◌≡◌ {A = Entry} (entry_sent (record { time = time; octets = octets })) (entry_at written_form all (length front))
  entry_there =
      let seconds = seconds_there in
      let fraction : number_at Big all (length front + 4) ≡ fraction_of time = number_there 4 ∙ fraction_here time octets rest fits in
      let time_is : time % 4294967296000000000 ≡ number_at Big all (length front) * 1000000000 + number_at Big all (length front + 4) * 1 = rw (seconds, fraction) (sym (time_read time)) in
      let original_is : length octets ≡ number_at Big all (length front + 12) = sym (number_there 12 ∙ original_here time octets rest fits) in
      let octets_is : octets ≡ take (captured written_form all (length front)) (drop (length front + 16) all) =
      sym (ap (λ n. take n (drop (length front + 16) all)) captured_there ∙ ap (take (length octets)) (sym (drop-drop 16 (length front) all) ∙ ap (drop 16) seam) ∙ octets_here time octets rest fits) in
      cc

  behind_there : behind written_form all (length front) ≡ length (front ++ record_octets time octets)
  behind_there = let same = captured_there in omega (arith, length-append front (record_octets time octets))

-- the records of a text, behind other octets
Entries-text : (front : List ℕ) (sent : List Sent) → All IsSendable sent
    → Entries written_form (front ++ records_text sent) (length front) (map entry_sent sent) (length (front ++ records_text sent))
Entries-text front [] fits = ap length (sym (append-nil front))
Entries-text front (s ∷ sent) fits =
    let head = All-head IsSendable s sent fits in
    let tail = All-tail IsSendable s sent fits in
    let record_text = record_octets s.time s.octets in
    let more = Entries-text (front ++ record_text) sent tail in
    let same : (front ++ record_text) ++ records_text sent ≡ front ++ (record_text ++ records_text sent) = append_assoc front record_text (records_text sent) in
    let Q : List ℕ → Type 0 = λ xs. Entries written_form xs (length (front ++ record_text)) (map entry_sent sent) (length xs) in
    let R : ℕ → Type 0 = λ n. Entries written_form (front ++ (record_text ++ records_text sent)) n (map entry_sent sent) (length (front ++ (record_text ++ records_text sent))) in (
      IsWhole_there front s.time s.octets (records_text sent) head,
      entry_there front s.time s.octets (records_text sent) head,
      subst R (sym (behind_there front s.time s.octets (records_text sent) head)) (subst Q same more),
    )

-- the head that is written
HasHead-text : (rest : List ℕ) → HasHead (head_octets ++ rest) written_form
HasHead-text rest = (omega (arith, length-append head_octets rest), refl, (1, omega arith, refl))

-- a capture of packets that may be written reads as these packets, to its end
pub Reads-text : (sent : List Sent) → All IsSendable sent → Reads (capture_text sent) (Some Raw) (map entry_sent sent) Whole
Reads-text sent fits = record {
  form = Some written_form;
  at = length (capture_text sent);
  reached = (HasHead-text (records_text sent), Entries-text head_octets sent fits);
  ends = (refl, refl);
  linked = refl;
}

-- the text of one packet more
records_text-with : (sent : List Sent) (time : ℕ) (octets : List ℕ) → records_text (with_sent sent time octets) ≡ records_text sent ++ record_octets time octets
records_text-with [] time octets = append-nil (record_octets time octets)
records_text-with (s ∷ sent) time octets =
    ap (λ xs. record_octets s.time s.octets ++ xs) (records_text-with sent time octets)
    ∙ sym (append_assoc (record_octets s.time s.octets) (records_text sent) (record_octets time octets))

pub capture_text-with : (sent : List Sent) (time : ℕ) (octets : List ℕ) → capture_text (with_sent sent time octets) ≡ capture_text sent ++ record_octets time octets
capture_text-with sent time octets =
    ap (λ xs. head_octets ++ xs) (records_text-with sent time octets)
    ∙ sym (append_assoc head_octets (records_text sent) (record_octets time octets))

-- what an appended head and an appended record make
pub begins_by : {E : Type 0} (r : Result (Unit {0}) E) (old new : List ℕ) → new ≡ cond (is_ok r) (old ++ head_octets) old → old ≡ []
    → OnOk r (new ≡ capture_text [])
begins_by (Ok u) old new made empty = made ∙ ap (λ xs. xs ++ head_octets) empty
begins_by (Err e) old new made empty = tt

pub begins_reading : {E : Type 0} (r : Result (Unit {0}) E) (old new : List ℕ) → new ≡ cond (is_ok r) (old ++ head_octets) old → old ≡ []
    → OnOk r (Reads new (Some Raw) [] Whole)
begins_reading (Ok u) old new made empty = let Q : List ℕ → Type 0 = λ xs. Reads xs (Some Raw) [] Whole in
    subst Q (sym (made ∙ ap (λ xs. xs ++ head_octets) empty)) (Reads-text [] (All-nil IsSendable))
begins_reading (Err e) old new made empty = tt

module _ (old new : List ℕ) (time : ℕ) (octets : List ℕ) (sent : List Sent) where
  pub adds_by : {E : Type 0} (r : Result (Unit {0}) E) → new ≡ cond (is_ok r) (old ++ record_octets time octets) old → old ≡ capture_text sent
      → OnOk r (new ≡ capture_text (with_sent sent time octets))
  adds_by (Ok u) made was = made ∙ ap (λ xs. xs ++ record_octets time octets) was ∙ sym (capture_text-with sent time octets)
  adds_by (Err e) made was = tt

  pub adds_reading : {E : Type 0} (r : Result (Unit {0}) E) → new ≡ cond (is_ok r) (old ++ record_octets time octets) old → length octets ≤ most
      → All IsSendable sent → old ≡ capture_text sent → OnOk r (Reads new (Some Raw) (map entry_sent (with_sent sent time octets)) Whole)
  adds_reading (Ok u) made small fits was =
      let Q : List ℕ → Type 0 = λ xs. Reads xs (Some Raw) (map entry_sent (with_sent sent time octets)) Whole in
      subst Q (sym (made ∙ ap (λ xs. xs ++ record_octets time octets) was ∙ sym (capture_text-with sent time octets))) (Reads-text (with_sent sent time octets) (All-push IsSendable sent (record { time = time; octets = octets }) fits small))
  adds_reading (Err e) made small fits was = tt
