-- Texts of some first arrivals, and those of all.
use Rattle.std.proofs.Common.{◌≡◌, ℕ, zero, suc, ◌+◌, ◌<◌, All, List, [], ◌∷◌, ◌++◌, length, map, refl, sym, ◌∙◌, ap, append_assoc, arith}
use Rattle.std.specs.List.{AllZip, flat_map}
use Rattle.std.proofs.lemmas.Grind.{flat_map-append}
use Rattle.std.proofs.lemmas.List.Elements.{All-append, All-cons, All-nil}
use Rattle.ioam_base.specs.Octets.{IsFront}
use Rattle.ioam_clock.specs.declared.sample.Sample.{Sample}
use Rattle.ioam_desk_outputs.specs.Told.{said_more}
use Rattle.ioam_run_texts.specs.Fate.{Fate}
use Rattle.ioam_run_texts.specs.Texts.{exports_text, fate_crossed, fate_exports, fate_lines, fate_sent, out_text, report_lines, report_text, tap_text, texts_of, texts_so_far}
use Rattle.ioam_run_outputs.specs.Outlets.{each_from, of_outlets, outlet_count, tapped}
use Rattle.ioam_run_outputs.proofs.OutletsLaws.{length-of_outlets}
use Rattle.ioam_pcap.specs.Text.{Sent, capture_text, head_octets, record_octets, records_text}
use Rattle.ioam_topo.specs.Domain.{links, ports as ports_of}
use Rattle.ioam_topo.specs.declared.domain.Domain.{Domain}
use Rattle.ioam_topo.specs.declared.ids.LinkId.{LinkId}

-- ---- the heads

-- it is less than a piece
abbrev IsFew : List ℕ → Type 0
IsFew text = length text < 65536

each_few : (count from : ℕ) (text : ℕ → List ℕ) → ((k : ℕ) → IsFew (text k)) → All IsFew (each_from count from text)
each_few zero from text few = All-nil IsFew
each_few (suc count) from text few = All-cons IsFew (text from) (each_from count (suc from) text) (few from) (each_few count (suc from) text few)

taps_few : (ids : List LinkId) (text : ℕ → List ℕ) → ((k : ℕ) → IsFew (text k)) → All IsFew (map (λ link. text link.0) ids)
taps_few [] text few = All-nil IsFew
taps_few (id ∷ ids) text few = All-cons IsFew (text id.0) (map (λ link. text link.0) ids) (few id.0) (taps_few ids text few)

outlets_few : (domain : Domain) (port tap : ℕ → List ℕ) (report exports : List ℕ) → ((k : ℕ) → IsFew (port k)) → ((k : ℕ) → IsFew (tap k))
    → IsFew report → IsFew exports → All IsFew (of_outlets domain port tap report exports)
outlets_few domain port tap report exports ports_few tapped_few report_few exports_few =
    let taps = map (λ (link : LinkId). tap link.0) (tapped (links domain)) in
    All-append IsFew (each_from (length (ports_of domain)) 0 port) (taps ++ report ∷ exports ∷ [])
    (each_few (length (ports_of domain)) 0 port ports_few)
    (All-append IsFew taps (report ∷ exports ∷ []) (taps_few (tapped (links domain)) tap tapped_few)
    (All-cons IsFew report (exports ∷ []) report_few (All-cons IsFew exports [] exports_few (All-nil IsFew))))

-- before any arrival each output is told less than a piece: the head of a capture, or nothing
pub begin-few : (domain : Domain) (readings : List (List Sample)) → All (λ (t : List ℕ). length t < 65536) (texts_so_far domain readings [])
begin-few domain readings =
    let head : (k : ℕ) → length (out_text k []) ≡ 24 = λ k. refl in
    let tap_head : (k : ℕ) → length (tap_text domain readings k []) ≡ 24 = λ k. refl in
    outlets_few domain (λ port. out_text port []) (λ link. tap_text domain readings link []) [] []
    (λ k. omega (arith, head k)) (λ k. omega (arith, tap_head k)) (omega arith) (omega arith)

-- ---- fronts of texts

-- each of these texts begins its own of those
abbrev AreFronts : List (List ℕ) → List (List ℕ) → Type 0
AreFronts fronts texts = AllZip IsFront fronts texts

front_then : (first second whole : List ℕ) → IsFront first second → IsFront second whole → IsFront first whole
front_then first second whole begins then = record {
  rest = begins.rest ++ then.rest;
  is = then.is ∙ ap (λ (xs : List ℕ). xs ++ then.rest) begins.is ∙ append_assoc first begins.rest then.rest;
}

front_more : (text more : List ℕ) → IsFront text (text ++ more)
front_more text more = record { rest = more; is = refl }

append_fronts : (first texts second more : List (List ℕ)) → AreFronts first texts → AreFronts second more → AreFronts (first ++ second) (texts ++ more)
append_fronts [] [] second more here behind = behind
append_fronts [] (text ∷ texts) second more here behind = absurd here
append_fronts (front ∷ first) [] second more here behind = absurd here
append_fronts (front ∷ first) (text ∷ texts) second more here behind = (here.0, append_fronts first texts second more here.1 behind)

each_fronts : (count from : ℕ) (f g : ℕ → List ℕ) → ((k : ℕ) → IsFront (f k) (g k)) → AreFronts (each_from count from f) (each_from count from g)
each_fronts zero from f g begins = tt
each_fronts (suc count) from f g begins = (begins from, each_fronts count (suc from) f g begins)

taps_fronts : (ids : List LinkId) (f g : ℕ → List ℕ) → ((k : ℕ) → IsFront (f k) (g k))
    → AreFronts (map (λ link. f link.0) ids) (map (λ link. g link.0) ids)
taps_fronts [] f g begins = tt
taps_fronts (id ∷ ids) f g begins = (begins id.0, taps_fronts ids f g begins)

outlets_fronts : (domain : Domain) (port outs tap taps : ℕ → List ℕ) (report reports exports all : List ℕ)
    → ((k : ℕ) → IsFront (port k) (outs k)) → ((k : ℕ) → IsFront (tap k) (taps k)) → IsFront report reports → IsFront exports all
    → AreFronts (of_outlets domain port tap report exports) (of_outlets domain outs taps reports all)
outlets_fronts domain port outs tap taps report reports exports all by_port by_tap lines records =
    let ids = tapped (links domain) in
    append_fronts (each_from (length (ports_of domain)) 0 port) (each_from (length (ports_of domain)) 0 outs)
    (map (λ link. tap link.0) ids ++ report ∷ exports ∷ []) (map (λ link. taps link.0) ids ++ reports ∷ all ∷ [])
    (each_fronts (length (ports_of domain)) 0 port outs by_port)
    (append_fronts (map (λ link. tap link.0) ids) (map (λ link. taps link.0) ids) (report ∷ exports ∷ []) (reports ∷ all ∷ [])
    (taps_fronts ids tap taps by_tap) (lines, (records, tt)))

-- what is still to be said of each
rests : (fronts texts : List (List ℕ)) → AreFronts fronts texts → (rest : List (List ℕ)) × (length rest ≡ length fronts) × (said_more fronts rest ≡ texts)
rests [] [] begin = ([], refl, refl)
rests [] (text ∷ texts) begin = absurd begin
rests (front ∷ fronts) [] begin = absurd begin
rests (front ∷ fronts) (text ∷ texts) begin =
    let (rest, many, is) = rests fronts texts begin.1 in
    (begin.0.rest ∷ rest, ap suc many, same_cons (front ++ begin.0.rest) text (said_more fronts rest) texts (sym begin.0.is) is)
  where
    same_cons : (x y : List ℕ) (xs ys : List (List ℕ)) → x ≡ y → xs ≡ ys → x ∷ xs ≡ y ∷ ys
    same_cons x y xs ys first others = cc

-- ---- the texts of some first arrivals

records_append : (a b : List Sent) → records_text (a ++ b) ≡ records_text a ++ records_text b
records_append [] b = refl
records_append (s ∷ a) b = ap (λ (rest : List ℕ). record_octets s.time s.octets ++ rest) (records_append a b)
    ∙ sym (append_assoc (record_octets s.time s.octets) (records_text a) (records_text b))

capture_front : (sent : Fate → List Sent) (told more : List Fate) → IsFront (capture_text (flat_map sent told)) (capture_text (flat_map sent (told ++ more)))
capture_front sent told more = record {
  rest = records_text (flat_map sent more);
  is = ap capture_text (flat_map-append sent told more)
      ∙ ap (λ (rest : List ℕ). head_octets ++ rest) (records_append (flat_map sent told) (flat_map sent more))
      ∙ sym (append_assoc head_octets (records_text (flat_map sent told)) (records_text (flat_map sent more)));
}

module _ (domain : Domain) (readings : List (List Sample)) where
  lines_front : (number : ℕ) (told more : List Fate)
      → IsFront (report_lines domain readings number told) (report_lines domain readings number (told ++ more))
  lines_front number [] more = record { rest = report_lines domain readings number more; is = refl }
  lines_front number (fate ∷ told) more =
      let begins = lines_front (number + 1) told more in
      record {
        rest = begins.rest;
        is = ap (λ (rest : List ℕ). fate_lines domain readings number fate ++ rest) begins.is
            ∙ sym (append_assoc (fate_lines domain readings number fate) (report_lines domain readings (number + 1) told) begins.rest);
      }

  report_front : (told more : List Fate) → IsFront (report_lines domain readings 1 told) (report_text domain readings (told ++ more))
  report_front told more = front_then (report_lines domain readings 1 told) (report_lines domain readings 1 (told ++ more))
      (report_text domain readings (told ++ more)) (lines_front 1 told more) (front_more (report_lines domain readings 1 (told ++ more)) _)

  -- the texts so far of some first arrivals begin the texts of all
  texts_front : (told more : List Fate) → AreFronts (texts_so_far domain readings told) (texts_of domain readings (told ++ more))
  texts_front told more =
      let all = told ++ more in
      outlets_fronts domain (λ port. out_text port told) (λ port. out_text port all)
      (λ link. tap_text domain readings link told) (λ link. tap_text domain readings link all)
      (report_lines domain readings 1 told) (report_text domain readings all) (exports_text domain readings told) (exports_text domain readings all)
      (λ k. capture_front (fate_sent k) told more) (λ k. capture_front (fate_crossed domain readings k) told more) (report_front told more)
      (record { rest = exports_text domain readings more; is = flat_map-append (fate_exports domain readings) told more })

  -- one for each output
  pub texts_count : (fates : List Fate) → length (texts_of domain readings fates) ≡ outlet_count domain
  texts_count fates = length-of_outlets domain (λ port. out_text port fates) (λ link. tap_text domain readings link fates) (report_text domain readings fates) (exports_text domain readings fates)

  pub so_far_count : (told : List Fate) → length (texts_so_far domain readings told) ≡ outlet_count domain
  so_far_count told = length-of_outlets domain (λ port. out_text port told) (λ link. tap_text domain readings link told) (report_lines domain readings 1 told) (exports_text domain readings told)

  -- with more after them the texts so far are those of all
  pub texts_rest : (told more : List Fate) → (rest : List (List ℕ)) × (length rest ≡ outlet_count domain)
      × (said_more (texts_so_far domain readings told) rest ≡ texts_of domain readings (told ++ more))
  texts_rest told more =
      let (rest, many, is) = rests (texts_so_far domain readings told) (texts_of domain readings (told ++ more)) (texts_front told more) in (
        rest,
        many ∙ so_far_count told,
        is,
      )
