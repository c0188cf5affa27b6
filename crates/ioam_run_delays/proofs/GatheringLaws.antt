-- What is counted, with one record more.
use Rattle.std.proofs.Common.{◌≡◌, length, ℕ, ◌+◌, ◌<◌, ◌≤◌, ◌^◌, List, [], ◌∷◌, ◌++◌, Option, refl, sym, ◌∙◌, ap, subst, append-nil, length-append, arith}
use Rattle.std.specs.Prelude.{Bool, None, Some, cond, min}
use mir.Val.{bool_byte}
use Rattle.std.specs.List.{count_by}
use Rattle.std.proofs.lemmas.List.Concat.{flat_map-append}
use Rattle.std.proofs.lemmas.List.Sums.{count_by-le-length, sum_by-append}
use Rattle.ioam_delay_counts.specs.Counted.{weight}
use Rattle.ioam_delay_counts.specs.Courses.{Course}
use Rattle.ioam_delay_traces.specs.Shown.{Grows, IsLight}
use Rattle.ioam_delay_traces.proofs.LightLaws.{shown_many, shown_weight, weight_append}
use Rattle.ioam_ip.specs.Framing.{Framing, Holds, NoIpv6, CutShort, TooShort}
use Rattle.ioam_ip.proofs.WithinLaws.{held-within}
use Rattle.ioam_pcap.specs.Cut.{is_cut}
use Rattle.ioam_run_stream.specs.Frame.{taken_framing}
use Rattle.ioam_delay_traces.specs.Totals.{AreTotals, courses_of}
use Rattle.ioam_desk_outputs.specs.Told.{said_more}
use Rattle.ioam_pcap.specs.Entries.{Taken}
use Rattle.ioam_run_delays.specs.DelaysText.{is_skipped, traces_in, traces_of}
use Rattle.ioam_run_delays.specs.Format.{units_of}
use Rattle.ioam_run_delays.specs.Gathering.{Counts, Gathers}
use Rattle.ioam_run_delays.specs.Observation.{FramingShows, Observation, Shows, ShowAll}
use Rattle.ioam_run_delays.specs.declared.gathering.Delaying.{Delaying}
use Rattle.ioam_run_delays.proofs.ObservationLaws.{ShowAll-push, ShowAll-unique}
use Rattle.ioam_topo.specs.declared.format.Format.{Format}

traces_push : (seen : List Observation) (o : Observation) → traces_in (seen ++ o ∷ []) ≡ traces_in seen ++ traces_of o
traces_push seen o = flat_map-append traces_of seen (o ∷ []) ∙ ap (λ (rest : List (Option Course)). traces_in seen ++ rest) (append-nil (traces_of o))

-- the traces of a record, and their elements, are no more than the octets that a record may have
pub record IsShort (traces : List (Option Course)) : Type 0 where
  pub weight_is : weight (courses_of traces) ≤ 2 ^ 18
  pub many : length traces ≤ 2 ^ 18

none_short : (o : Observation) → o ≡ None → IsShort (traces_of o)
none_short None is = record { weight_is = omega arith; many = omega arith }
none_short (Some seen) is = absurd (cc is)

short_by : (units : ℕ) (t : Taken) (framing : Framing) (o : Observation) → framing ≡ taken_framing t → FramingShows units framing o
    → length t.entry.octets ≤ 262144 → IsShort (traces_of o)
short_by units t (Holds packet) None is shows size = none_short None refl
short_by units t (Holds packet) (Some seen) is shows size =
    let within = held-within t.link (is_cut t.entry) t.entry.octets packet is in
    record {
      weight_is = omega (arith, ap (λ (all : List (Option Course)). weight (courses_of all)) shows.1, shown_weight units packet, within, size);
      many = omega (arith, ap (λ (all : List (Option Course)). length all) shows.1, shown_many units packet, within, size);
    }
short_by units t NoIpv6 o is shows size = none_short o shows
short_by units t CutShort o is shows size = none_short o shows
short_by units t TooShort o is shows size = none_short o shows

pub short : (units : ℕ) (t : Taken) (o : Observation) → Shows units t o → length t.entry.octets ≤ 262144 → IsShort (traces_of o)
short units t o shows size = short_by units t (taken_framing t) o refl shows size

module _ (begun old new : Delaying) (t : Taken) (o : Observation) (shows : Shows (units_of old.format) t o)
    (same : new.format ≡ old.format) (packets : new.packets ≡ old.packets + 1) (bound : old.packets < 2 ^ 24) (few : IsShort (traces_of o))
    (skipped : old.skipped < 2 ^ 32 → new.skipped ≡ old.skipped + count_by is_skipped (o ∷ [])) (grows : Grows (traces_of o) old.totals new.totals) where
  counts_push : (ts : List Taken) → Counts begun ts old → Counts begun (ts ++ t ∷ []) new
  counts_push ts counts =
      let seen = counts.seen in
      let units = units_of begun.format in
      let shows_so : Shows units t o = subst (λ (format : Format). Shows (units_of format) t o) counts.same shows in
      let are : ShowAll units (ts ++ t ∷ []) (seen ++ o ∷ []) = ShowAll-push units ts seen t o counts.are shows_so in
      let more : length (seen ++ o ∷ []) ≡ length seen + 1 = length-append seen (o ∷ []) in
      let weighs = weight_append (traces_in seen) (traces_of o) in
      let size : length seen < 2 ^ 24 = omega (arith, bound, counts.packets_is) in
      let light : IsLight (traces_in seen ++ traces_of o) = record {
        elements = omega (arith, weighs, counts.weight_is, few.weight_is, size);
        traces = omega (arith, length-append (traces_in seen) (traces_of o), counts.many, few.many, size);
      } in
      let below : old.skipped < 2 ^ 32 = omega (arith, bound, counts.packets_is, counts.skipped_is, count_by-le-length is_skipped seen) in
      record {
        same = same ∙ counts.same;
        seen = seen ++ o ∷ [];
        are = are;
        only = λ others have. ShowAll-unique units (ts ++ t ∷ []) others (seen ++ o ∷ []) have are;
        packets_is = omega (arith, packets, counts.packets_is, length-append seen (o ∷ []));
        skipped_is = skipped below ∙ ap (λ (n : ℕ). n + count_by is_skipped (o ∷ [])) counts.skipped_is
            ∙ sym (sum_by-append (λ (p : Observation). cond (is_skipped p) 1 0) seen (o ∷ []));
        totals_are = subst (λ (all : List (Option Course)). AreTotals all new.totals) (sym (traces_push seen o)) (grows (traces_in seen) light counts.totals_are);
        weight_is = omega (arith, ap (λ (all : List (Option Course)). weight (courses_of all)) (traces_push seen o), weighs, counts.weight_is, few.weight_is, more);
        many = omega (arith, ap (λ (all : List (Option Course)). length all) (traces_push seen o), length-append (traces_in seen) (traces_of o), counts.many, few.many, more);
      }

  pub Gathers-push : (ts : List Taken) (texts : List (List ℕ)) → Gathers begun ts texts old → Gathers begun (ts ++ t ∷ []) (said_more texts ([] ∷ [])) new
  Gathers-push ts [] gathers = absurd gathers
  Gathers-push ts (text ∷ []) gathers = (append-nil text ∙ gathers.0, counts_push ts gathers.1)
  Gathers-push ts (text ∷ more ∷ texts) gathers = absurd gathers

-- one that is skipped is counted
pub skipped_more : (old r new : ℕ) (b : Bool) (o : Observation) → b ≡ is_skipped o → r ≡ bool_byte b → new ≡ min (old + r) 18446744073709551615 → old < 2 ^ 32
    → new ≡ old + count_by is_skipped (o ∷ [])
skipped_more old r new b None is byte more below = omega (arith, more, below, byte ∙ ap bool_byte is)
skipped_more old r new b (Some seen) is byte more below = omega (arith, more, below, byte ∙ ap bool_byte is)
