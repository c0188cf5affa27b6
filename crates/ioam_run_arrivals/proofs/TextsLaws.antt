-- The texts of a run, with one arrival more and with the sums.
use Rattle.std.proofs.Common.{◌≡◌, ℕ, ◌+◌, List, [], ◌∷◌, ◌++◌, length, refl, sym, ◌∙◌, ap, append_assoc, append-nil, subst, arith}
use Rattle.std.specs.List.{flat_map}
use Rattle.ioam_clock.specs.declared.sample.Sample.{Sample}
use Rattle.ioam_run_texts.specs.Fate.{Frame, Fate, HasFate, AreFates, AreFatesFrom}
use Rattle.ioam_run_texts.specs.Texts.{out_text, fate_sent, sent_by, tap_text, fate_crossed, crossed_by, fate_lines, report_lines, report_text, fate_exports, exports_text, texts_so_far, texts_of, added_by, sums_by, ways_of}
use Rattle.ioam_run_texts.proofs.AddsLaws.{same-outlets, said-outlets}
use Rattle.ioam_desk_outputs.specs.Told.{said_more}
use Rattle.ioam_pcap.specs.Text.{Sent, records_text, record_octets, capture_text, head_octets}
use Rattle.ioam_plan.specs.declared.itinerary.Itinerary.{Itinerary}
use Rattle.ioam_report.specs.SumsText.{sums_text, arrivals_text}
use Rattle.ioam_report.specs.declared.sums.Sums.{Sums}
use Rattle.ioam_topo.specs.declared.domain.Domain.{Domain}

-- one arrival more
push_from : (domain : Domain) (readings : List (List Sample)) (earlier : List Itinerary) (frames : List Frame) (fates : List Fate) (frame : Frame) (fate : Fate)
    → AreFatesFrom domain readings earlier frames fates → HasFate domain readings (earlier ++ ways_of fates) frame fate
    → AreFatesFrom domain readings earlier (frames ++ frame ∷ []) (fates ++ fate ∷ [])
push_from domain readings earlier [] [] frame fate are has =
    (subst (λ (before : List Itinerary). HasFate domain readings before frame fate) (append-nil earlier) has, tt)
push_from domain readings earlier [] (g ∷ fates) frame fate are has = absurd are
push_from domain readings earlier (f ∷ frames) [] frame fate are has = absurd are
push_from domain readings earlier (f ∷ frames) (g ∷ fates) frame fate are has = (
  are.0,
  push_from domain readings (earlier ++ g.itinerary ∷ []) frames fates frame fate are.1
      (subst (λ (before : List Itinerary). HasFate domain readings before frame fate)
      (sym (append_assoc earlier (g.itinerary ∷ []) (ways_of fates))) has),
)

pub AreFates-push : (domain : Domain) (readings : List (List Sample)) (frames : List Frame) (fates : List Fate) (frame : Frame) (fate : Fate)
    → AreFates domain readings frames fates → HasFate domain readings (ways_of fates) frame fate
    → AreFates domain readings (frames ++ frame ∷ []) (fates ++ fate ∷ [])
AreFates-push domain readings frames fates frame fate are has = push_from domain readings [] frames fates frame fate are has

-- ---- what one arrival more adds

flat_map-push : {A B : Type 0} (f : A → List B) (xs : List A) (x : A) → flat_map f (xs ++ x ∷ []) ≡ flat_map f xs ++ f x
flat_map-push f [] x = append-nil (f x)
flat_map-push f (y ∷ xs) x = ap (λ rest. f y ++ rest) (flat_map-push f xs x) ∙ sym (append_assoc (f y) (flat_map f xs) (f x))

records_text-append : (a b : List Sent) → records_text (a ++ b) ≡ records_text a ++ records_text b
records_text-append [] b = refl
records_text-append (s ∷ a) b = ap (λ (rest : List ℕ). record_octets s.time s.octets ++ rest) (records_text-append a b)
    ∙ sym (append_assoc (record_octets s.time s.octets) (records_text a) (records_text b))

-- a capture with some packets more
capture-append : (a b : List Sent) → capture_text (a ++ b) ≡ capture_text a ++ records_text b
capture-append a b = ap (λ (rest : List ℕ). head_octets ++ rest) (records_text-append a b)
    ∙ sym (append_assoc head_octets (records_text a) (records_text b))

-- a port's
pub out_text-push : (port : ℕ) (fates : List Fate) (fate : Fate) → out_text port (fates ++ fate ∷ []) ≡ out_text port fates ++ records_text (fate_sent port fate)
out_text-push port fates fate = ap capture_text (flat_map-push (fate_sent port) fates fate) ∙ capture-append (sent_by port fates) (fate_sent port fate)

module _ (domain : Domain) (readings : List (List Sample)) where
  -- a tap's
  pub tap_text-push : (link : ℕ) (fates : List Fate) (fate : Fate)
      → tap_text domain readings link (fates ++ fate ∷ []) ≡ tap_text domain readings link fates ++ records_text (fate_crossed domain readings link fate)
  tap_text-push link fates fate = ap capture_text (flat_map-push (fate_crossed domain readings link) fates fate)
      ∙ capture-append (crossed_by domain readings link fates) (fate_crossed domain readings link fate)

  -- the report's lines with one more
  pub report_lines-push : (number : ℕ) (fates : List Fate) (fate : Fate)
      → report_lines domain readings number (fates ++ fate ∷ []) ≡ report_lines domain readings number fates ++ fate_lines domain readings (number + length fates) fate
  report_lines-push number [] fate = append-nil (fate_lines domain readings number fate) ∙ ap (λ (m : ℕ). fate_lines domain readings m fate) (omega arith)
  report_lines-push number (g ∷ fates) fate = ap (λ (rest : List ℕ). fate_lines domain readings number g ++ rest) (report_lines-push (number + 1) fates fate)
      ∙ sym (append_assoc (fate_lines domain readings number g) (report_lines domain readings (number + 1) fates) (fate_lines domain readings (number + 1 + length fates) fate))
      ∙ ap (λ (m : ℕ). (fate_lines domain readings number g ++ report_lines domain readings (number + 1) fates) ++ fate_lines domain readings m fate) (omega arith)

  -- the export records
  pub exports_text-push : (fates : List Fate) (fate : Fate)
      → exports_text domain readings (fates ++ fate ∷ []) ≡ exports_text domain readings fates ++ fate_exports domain readings fate
  exports_text-push fates fate = flat_map-push (fate_exports domain readings) fates fate

  -- every text with one arrival more
  pub texts-push : (fates : List Fate) (fate : Fate)
      → texts_so_far domain readings (fates ++ fate ∷ []) ≡ said_more (texts_so_far domain readings fates) (added_by domain readings (1 + length fates) fate)
  texts-push fates fate =
      same-outlets domain (λ k. out_text k (fates ++ fate ∷ [])) (λ k. out_text k fates ++ records_text (fate_sent k fate))
      (λ k. tap_text domain readings k (fates ++ fate ∷ [])) (λ k. tap_text domain readings k fates ++ records_text (fate_crossed domain readings k fate))
      (report_lines domain readings 1 (fates ++ fate ∷ [])) (report_lines domain readings 1 fates ++ fate_lines domain readings (1 + length fates) fate)
      (exports_text domain readings (fates ++ fate ∷ [])) (exports_text domain readings fates ++ fate_exports domain readings fate)
      (λ k inside. out_text-push k fates fate) (λ link tapped. tap_text-push link.0 fates fate) (report_lines-push 1 fates fate) (exports_text-push fates fate)
      ∙ sym (said-outlets domain (λ k. out_text k fates) (λ k. records_text (fate_sent k fate))
      (λ k. tap_text domain readings k fates) (λ k. records_text (fate_crossed domain readings k fate))
      (report_lines domain readings 1 fates) (fate_lines domain readings (1 + length fates) fate)
      (exports_text domain readings fates) (fate_exports domain readings fate))

  -- with the sums behind the last line
  pub texts-end : (fates : List Fate) (sums : Sums) → sums_text domain sums ≡ arrivals_text domain (ways_of fates)
      → said_more (texts_so_far domain readings fates) (sums_by domain sums) ≡ texts_of domain readings fates
  texts-end fates sums is =
      said-outlets domain (λ k. out_text k fates) (λ k. []) (λ k. tap_text domain readings k fates) (λ k. [])
      (report_lines domain readings 1 fates) (sums_text domain sums) (exports_text domain readings fates) []
      ∙ same-outlets domain (λ k. out_text k fates ++ []) (λ k. out_text k fates)
      (λ k. tap_text domain readings k fates ++ []) (λ k. tap_text domain readings k fates)
      (report_lines domain readings 1 fates ++ sums_text domain sums) (report_text domain readings fates)
      (exports_text domain readings fates ++ []) (exports_text domain readings fates)
      (λ k inside. append-nil (out_text k fates)) (λ link tapped. append-nil (tap_text domain readings link.0 fates))
      (ap (λ (sums : List ℕ). report_lines domain readings 1 fates ++ sums) is) (append-nil (exports_text domain readings fates))
