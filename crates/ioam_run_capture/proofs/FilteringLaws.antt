-- The texts of `filter`, with one record more.
use Rattle.std.proofs.Common.{◌≡◌, ℕ, ◌+◌, ◌<◌, All, List, [], ◌∷◌, ◌++◌, length, refl, sym, ◌∙◌, ap, append_assoc, append-nil, arith}
use Rattle.std.proofs.lemmas.List.Elements.{All-nil, All-cons}
use Rattle.ioam_pcap.specs.Entries.{Taken}
use Rattle.ioam_pcap.specs.Text.{Sent, records_text, record_octets, capture_text, head_octets}
use Rattle.ioam_run_capture.specs.Verdict.{Verdict, Keeps, Drops, HasVerdict, AreVerdicts}
use Rattle.ioam_run_capture.specs.FilterText.{kept_of, verdict_line, verdict_lines, count_kept, count_dropped}
use Rattle.ioam_desk_outputs.specs.Told.{said_more}
use Rattle.ioam_run_capture.specs.Filtering.{Gathers, Sorts, heads}
use Rattle.ioam_node.specs.declared.reason.Reason.{Reason}
use Rattle.ioam_run_capture.specs.declared.filtering.Filtering.{Filtering}
use Rattle.ioam_run_capture.proofs.VerdictLaws.{AreVerdicts-unique}

-- the head of a capture is less than a piece
pub heads-few : All (λ (text : List ℕ). length text < 65536) heads
heads-few =
    let P : List ℕ → Type 0 = λ text. length text < 65536 in
    let head : length (capture_text []) ≡ 24 = refl in
    All-cons P (capture_text []) ([] ∷ []) (omega (arith, head)) (All-cons P [] [] (omega arith) (All-nil P))

AreVerdicts-push : (ts : List Taken) (vs : List Verdict) (t : Taken) (v : Verdict)
    → AreVerdicts ts vs → HasVerdict t v → AreVerdicts (ts ++ t ∷ []) (vs ++ v ∷ [])
AreVerdicts-push [] [] t v are has = (has, tt)
AreVerdicts-push [] (w ∷ vs) t v are has = absurd are
AreVerdicts-push (f ∷ ts) [] t v are has = absurd are
AreVerdicts-push (f ∷ ts) (w ∷ vs) t v are has = (are.0, AreVerdicts-push ts vs t v are.1 has)

kept_of-keep : (ts : List Taken) (vs : List Verdict) (t : Taken) (p : List ℕ) → AreVerdicts ts vs
    → kept_of (ts ++ t ∷ []) (vs ++ Keeps p ∷ []) ≡ kept_of ts vs ++ record { time = t.entry.time; octets = p } ∷ []
kept_of-keep [] [] t p are = refl
kept_of-keep [] (w ∷ vs) t p are = absurd are
kept_of-keep (f ∷ ts) [] t p are = absurd are
kept_of-keep (f ∷ ts) (Keeps q ∷ vs) t p are = ap (λ (rest : List Sent). record { time = f.entry.time; octets = q } ∷ rest) (kept_of-keep ts vs t p are.1)
kept_of-keep (f ∷ ts) (Drops r ∷ vs) t p are = kept_of-keep ts vs t p are.1

kept_of-drop : (ts : List Taken) (vs : List Verdict) (t : Taken) (r : Reason) → AreVerdicts ts vs
    → kept_of (ts ++ t ∷ []) (vs ++ Drops r ∷ []) ≡ kept_of ts vs
kept_of-drop [] [] t r are = refl
kept_of-drop [] (w ∷ vs) t r are = absurd are
kept_of-drop (f ∷ ts) [] t r are = absurd are
kept_of-drop (f ∷ ts) (Keeps q ∷ vs) t r are = ap (λ (rest : List Sent). record { time = f.entry.time; octets = q } ∷ rest) (kept_of-drop ts vs t r are.1)
kept_of-drop (f ∷ ts) (Drops s ∷ vs) t r are = kept_of-drop ts vs t r are.1

records_text-push : (sent : List Sent) (s : Sent) → records_text (sent ++ s ∷ []) ≡ records_text sent ++ record_octets s.time s.octets
records_text-push [] s = append-nil (record_octets s.time s.octets)
records_text-push (t ∷ sent) s = ap (λ (rest : List ℕ). record_octets t.time t.octets ++ rest) (records_text-push sent s)
    ∙ sym (append_assoc (record_octets t.time t.octets) (records_text sent) (record_octets s.time s.octets))

capture_text-push : (sent : List Sent) (s : Sent) → capture_text (sent ++ s ∷ []) ≡ capture_text sent ++ record_octets s.time s.octets
capture_text-push sent s = ap (λ (rest : List ℕ). head_octets ++ rest) (records_text-push sent s)
    ∙ sym (append_assoc head_octets (records_text sent) (record_octets s.time s.octets))

verdict_lines-push : (n : ℕ) (vs : List Verdict) (v : Verdict)
    → verdict_lines n (vs ++ v ∷ []) ≡ verdict_lines n vs ++ verdict_line (n + length vs) v
verdict_lines-push n [] v = append-nil (verdict_line n v) ∙ ap (λ (m : ℕ). verdict_line m v) (omega arith)
verdict_lines-push n (w ∷ vs) v = ap (λ (rest : List ℕ). verdict_line n w ++ rest) (verdict_lines-push (n + 1) vs v)
    ∙ sym (append_assoc (verdict_line n w) (verdict_lines (n + 1) vs) (verdict_line (n + 1 + length vs) v))
    ∙ ap (λ (m : ℕ). verdict_line n w ++ verdict_lines (n + 1) vs ++ verdict_line m v) (omega arith)

counts : (vs : List Verdict) → count_kept vs + count_dropped vs ≡ length vs
counts [] = refl
counts (Keeps p ∷ vs) = omega (arith, counts vs)
counts (Drops r ∷ vs) = omega (arith, counts vs)

count_kept-keep : (vs : List Verdict) (p : List ℕ) → count_kept (vs ++ Keeps p ∷ []) ≡ count_kept vs + 1
count_kept-keep [] p = refl
count_kept-keep (Keeps q ∷ vs) p = omega (arith, count_kept-keep vs p)
count_kept-keep (Drops r ∷ vs) p = count_kept-keep vs p

count_kept-drop : (vs : List Verdict) (r : Reason) → count_kept (vs ++ Drops r ∷ []) ≡ count_kept vs
count_kept-drop [] r = refl
count_kept-drop (Keeps q ∷ vs) r = omega (arith, count_kept-drop vs r)
count_kept-drop (Drops s ∷ vs) r = count_kept-drop vs r

count_dropped-keep : (vs : List Verdict) (p : List ℕ) → count_dropped (vs ++ Keeps p ∷ []) ≡ count_dropped vs
count_dropped-keep [] p = refl
count_dropped-keep (Keeps q ∷ vs) p = count_dropped-keep vs p
count_dropped-keep (Drops r ∷ vs) p = omega (arith, count_dropped-keep vs p)

count_dropped-drop : (vs : List Verdict) (r : Reason) → count_dropped (vs ++ Drops r ∷ []) ≡ count_dropped vs + 1
count_dropped-drop [] r = refl
count_dropped-drop (Keeps q ∷ vs) r = count_dropped-drop vs r
count_dropped-drop (Drops s ∷ vs) r = omega (arith, count_dropped-drop vs r)

-- with the next record there are no other verdicts either
only_push : (ts : List Taken) (vs : List Verdict) (t : Taken) (v : Verdict) → AreVerdicts ts vs → HasVerdict t v
    → (others : List Verdict) → AreVerdicts (ts ++ t ∷ []) others → others ≡ vs ++ v ∷ []
only_push ts vs t v are has others have =
    AreVerdicts-unique (ts ++ t ∷ []) others (vs ++ v ∷ []) have (AreVerdicts-push ts vs t v are has)

-- the line of the next record
next_line : (ts : List Taken) (g : Filtering) (out report now : List ℕ) (number : ℕ) (sorts : Sorts ts out report g) (v : Verdict)
    → number ≡ g.kept + g.dropped + 1 → now ≡ report ++ verdict_line number v
    → now ≡ verdict_lines 1 (sorts.verdicts ++ v ∷ [])
next_line ts g out report now number sorts v is added =
    let place : number ≡ 1 + length sorts.verdicts = omega (arith, is, sorts.kept_is, sorts.dropped_is, counts sorts.verdicts) in
    added ∙ ap (λ (front : List ℕ). front ++ verdict_line number v) sorts.report_is
    ∙ ap (λ (m : ℕ). verdict_lines 1 sorts.verdicts ++ verdict_line m v) place
    ∙ sym (verdict_lines-push 1 sorts.verdicts v)

-- a record that is kept
keep : (ts : List Taken) (old new : Filtering) (out report : List ℕ) (t : Taken) (p : List ℕ) (number : ℕ)
    → number ≡ old.kept + old.dropped + 1 → HasVerdict t (Keeps p)
    → new.kept ≡ old.kept + 1 → new.dropped ≡ old.dropped
    → Sorts ts out report old → Sorts (ts ++ t ∷ []) (out ++ record_octets t.entry.time p) (report ++ verdict_line number (Keeps p)) new
keep ts old new out report t p number is has kept dropped sorts = record {
  verdicts = sorts.verdicts ++ Keeps p ∷ [];
  are = AreVerdicts-push ts sorts.verdicts t (Keeps p) sorts.are has;
  only = only_push ts sorts.verdicts t (Keeps p) sorts.are has;
  out_is = ap (λ (front : List ℕ). front ++ record_octets t.entry.time p) sorts.out_is
      ∙ sym (capture_text-push (kept_of ts sorts.verdicts) (record { time = t.entry.time; octets = p }))
      ∙ ap capture_text (sym (kept_of-keep ts sorts.verdicts t p sorts.are));
  report_is = next_line ts old out report (report ++ verdict_line number (Keeps p)) number sorts (Keeps p) is refl;
  kept_is = omega (arith, kept, sorts.kept_is, count_kept-keep sorts.verdicts p);
  dropped_is = omega (arith, dropped, sorts.dropped_is, count_dropped-keep sorts.verdicts p);
}

-- a record that is dropped
drop_one : (ts : List Taken) (old new : Filtering) (out report : List ℕ) (t : Taken) (r : Reason) (number : ℕ)
    → number ≡ old.kept + old.dropped + 1 → HasVerdict t (Drops r)
    → new.kept ≡ old.kept → new.dropped ≡ old.dropped + 1
    → Sorts ts out report old → Sorts (ts ++ t ∷ []) (out ++ []) (report ++ verdict_line number (Drops r)) new
drop_one ts old new out report t r number is has kept dropped sorts = record {
  verdicts = sorts.verdicts ++ Drops r ∷ [];
  are = AreVerdicts-push ts sorts.verdicts t (Drops r) sorts.are has;
  only = only_push ts sorts.verdicts t (Drops r) sorts.are has;
  out_is = append-nil out ∙ sorts.out_is ∙ ap capture_text (sym (kept_of-drop ts sorts.verdicts t r sorts.are));
  report_is = next_line ts old out report (report ++ verdict_line number (Drops r)) number sorts (Drops r) is refl;
  kept_is = omega (arith, kept, sorts.kept_is, count_kept-drop sorts.verdicts r);
  dropped_is = omega (arith, dropped, sorts.dropped_is, count_dropped-drop sorts.verdicts r);
}

-- the same of the texts of both outputs
pub Gathers-keep : (old new : Filtering) (t : Taken) (p : List ℕ) (number : ℕ)
    → number ≡ old.kept + old.dropped + 1 → HasVerdict t (Keeps p) → new.kept ≡ old.kept + 1 → new.dropped ≡ old.dropped
    → (ts : List Taken) (texts : List (List ℕ)) → Gathers ts texts old
    → Gathers (ts ++ t ∷ []) (said_more texts (record_octets t.entry.time p ∷ verdict_line number (Keeps p) ∷ [])) new
Gathers-keep old new t p number is has kept dropped ts [] gathers = absurd gathers
Gathers-keep old new t p number is has kept dropped ts (out ∷ []) gathers = absurd gathers
Gathers-keep old new t p number is has kept dropped ts (out ∷ report ∷ []) gathers =
    keep ts old new out report t p number is has kept dropped gathers
Gathers-keep old new t p number is has kept dropped ts (out ∷ report ∷ more ∷ texts) gathers = absurd gathers

pub Gathers-drop : (old new : Filtering) (t : Taken) (r : Reason) (number : ℕ)
    → number ≡ old.kept + old.dropped + 1 → HasVerdict t (Drops r) → new.kept ≡ old.kept → new.dropped ≡ old.dropped + 1
    → (ts : List Taken) (texts : List (List ℕ)) → Gathers ts texts old
    → Gathers (ts ++ t ∷ []) (said_more texts ([] ∷ verdict_line number (Drops r) ∷ [])) new
Gathers-drop old new t r number is has kept dropped ts [] gathers = absurd gathers
Gathers-drop old new t r number is has kept dropped ts (out ∷ []) gathers = absurd gathers
Gathers-drop old new t r number is has kept dropped ts (out ∷ report ∷ []) gathers =
    drop_one ts old new out report t r number is has kept dropped gathers
Gathers-drop old new t r number is has kept dropped ts (out ∷ report ∷ more ∷ texts) gathers = absurd gathers
