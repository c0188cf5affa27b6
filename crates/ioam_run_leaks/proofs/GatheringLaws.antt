-- The texts of `leaks`, with one record more.
use Rattle.std.proofs.Common.{◌≡◌, ℕ, ◌+◌, ◌<◌, ◌≤◌, ◌^◌, All, List, [], ◌∷◌, ◌++◌, length, refl, sym, ◌∙◌, ap, subst, append_assoc, append-nil, arith}
use Rattle.std.specs.List.{fold}
use Rattle.std.proofs.lemmas.List.Elements.{All-nil, All-cons}
use Rattle.std.proofs.lemmas.List.Sums.{fold-append}
use Rattle.ioam_desk_outputs.specs.Told.{Adds, said_more}
use Rattle.ioam_desk_outputs.specs.declared.output.Output.{Output}
use Rattle.ioam_leak_flows.specs.Tally.{IsTally}
use Rattle.ioam_leak_flows.specs.declared.flow.Flow.{Flow}
use Rattle.ioam_leaks.specs.declared.finding.Finding.TheVariants.{Clean, Leaks, Hides}
use Rattle.ioam_leaks.specs.declared.finding.Leak.TheVariants.{Carries, Quotes}
use Rattle.ioam_pcap.specs.Entries.{Taken}
use Rattle.ioam_pcap.specs.Text.{Sent, records_text, record_octets, capture_text, head_octets}
use Rattle.ioam_run_leaks.specs.Counting.{all_of, counted, counts_of, none}
use Rattle.ioam_run_leaks.specs.Gathering.{Finds, Gathers, found_flows, found_octets, heads}
use Rattle.ioam_run_leaks.specs.LeaksText.{flow_of, flows_of, found_line, found_lines, leaking_of}
use Rattle.ioam_run_leaks.specs.Observation.{Observation, Sees, Misses, Shows, ShowAll, observation_of}
use Rattle.ioam_run_leaks.specs.declared.counts.Counts.{Counts}
use Rattle.ioam_run_leaks.specs.declared.gathering.Leaking.{Leaking}
use Rattle.ioam_run_leaks.specs.declared.observe.Observed.{Observed}
use Rattle.ioam_run_leaks.specs.declared.observe.Unseen.TheVariants.{NotIpv6, Cut, Length}
use Rattle.ioam_run_leaks.proofs.ObservationLaws.{ShowAll-unique}

-- the head of a capture is less than a piece
pub heads-few : All (λ (text : List ℕ). length text < 65536) heads
heads-few =
    let P : List ℕ → Type 0 = λ text. length text < 65536 in
    let head : length (capture_text []) ≡ 24 = refl in
    All-cons P (capture_text []) ([] ∷ []) (omega (arith, head)) (All-cons P [] [] (omega arith) (All-nil P))

-- two outputs as they are
pub Adds-nothing : (outputs : List Output) → length outputs ≡ 2 → Adds outputs outputs ([] ∷ [] ∷ [])
Adds-nothing [] two = absurd (omega (arith, two))
Adds-nothing (x ∷ []) two = absurd (omega (arith, two))
Adds-nothing (x ∷ y ∷ []) two = (refl, sym (append-nil x.gathered.items), (refl, sym (append-nil y.gathered.items), tt))
Adds-nothing (x ∷ y ∷ z ∷ outputs) two = absurd (omega (arith, two))

-- what is added with the line of a flow is added with that of a flow that equals it
pub Adds-line : (old new : List Output) (out : List ℕ) (line : Flow → List ℕ) (flow other : Flow) → flow ≡ other
    → Adds old new (out ∷ line flow ∷ []) → Adds old new (out ∷ line other ∷ [])
Adds-line old new out line flow other is adds = subst (λ (f : Flow). Adds old new (out ∷ line f ∷ [])) is adds

-- what a record adds to both outputs
abbrev FoundAdds : List Output → List Output → ℕ → ℕ → Observation → Type 0
FoundAdds old new time number o = Adds old new (found_octets time o ∷ found_line number o ∷ [])

pub found_so : (old new : List Output) (time number : ℕ) (seen other : Observed) → seen ≡ other
    → FoundAdds old new time number (observation_of other) → FoundAdds old new time number (observation_of seen)
found_so old new time number seen other is adds = subst (λ (s : Observed). FoundAdds old new time number (observation_of s)) (sym is) adds

ShowAll-push : (ts : List Taken) (seen : List Observation) (t : Taken) (o : Observation) → ShowAll ts seen → Shows t o → ShowAll (ts ++ t ∷ []) (seen ++ o ∷ [])
ShowAll-push [] [] t o are shows = (shows, tt)
ShowAll-push [] (p ∷ seen) t o are shows = absurd are
ShowAll-push (f ∷ ts) [] t o are shows = absurd are
ShowAll-push (f ∷ ts) (p ∷ seen) t o are shows = (are.0, ShowAll-push ts seen t o are.1 shows)

-- the packets of a record that leaks
abbrev sent_of : Taken → Observation → List Sent
sent_of t (Sees packet (Leaks how)) = record { time = t.entry.time; octets = packet } ∷ []
sent_of t (Sees packet Clean) = []
sent_of t (Sees packet (Hides why)) = []
sent_of t (Misses why) = []

leaking_one : (t : Taken) (o : Observation) → leaking_of (t ∷ []) (o ∷ []) ≡ sent_of t o
leaking_one t (Sees packet (Leaks how)) = refl
leaking_one t (Sees packet Clean) = refl
leaking_one t (Sees packet (Hides why)) = refl
leaking_one t (Misses why) = refl

leaking_push : (ts : List Taken) (seen : List Observation) (t : Taken) (o : Observation) → ShowAll ts seen
    → leaking_of (ts ++ t ∷ []) (seen ++ o ∷ []) ≡ leaking_of ts seen ++ sent_of t o
leaking_push [] [] t o are = leaking_one t o
leaking_push [] (p ∷ seen) t o are = absurd are
leaking_push (f ∷ ts) [] t o are = absurd are
leaking_push (f ∷ ts) (Sees packet (Leaks how) ∷ seen) t o are =
    ap (λ (rest : List Sent). record { time = f.entry.time; octets = packet } ∷ rest) (leaking_push ts seen t o are.1)
leaking_push (f ∷ ts) (Sees packet Clean ∷ seen) t o are = leaking_push ts seen t o are.1
leaking_push (f ∷ ts) (Sees packet (Hides why) ∷ seen) t o are = leaking_push ts seen t o are.1
leaking_push (f ∷ ts) (Misses why ∷ seen) t o are = leaking_push ts seen t o are.1

records_text-append : (sent more : List Sent) → records_text (sent ++ more) ≡ records_text sent ++ records_text more
records_text-append [] more = refl
records_text-append (s ∷ sent) more = ap (λ (rest : List ℕ). record_octets s.time s.octets ++ rest) (records_text-append sent more)
    ∙ sym (append_assoc (record_octets s.time s.octets) (records_text sent) (records_text more))

capture_text-append : (sent more : List Sent) → capture_text (sent ++ more) ≡ capture_text sent ++ records_text more
capture_text-append sent more = ap (λ (rest : List ℕ). head_octets ++ rest) (records_text-append sent more)
    ∙ sym (append_assoc head_octets (records_text sent) (records_text more))

sent_octets : (t : Taken) (o : Observation) → records_text (sent_of t o) ≡ found_octets t.entry.time o
sent_octets t (Sees packet (Leaks how)) = append-nil (record_octets t.entry.time packet)
sent_octets t (Sees packet Clean) = refl
sent_octets t (Sees packet (Hides why)) = refl
sent_octets t (Misses why) = refl

lines_push : (n : ℕ) (seen : List Observation) (o : Observation) → found_lines n (seen ++ o ∷ []) ≡ found_lines n seen ++ found_line (n + length seen) o
lines_push n [] o = append-nil (found_line n o) ∙ ap (λ (m : ℕ). found_line m o) (omega arith)
lines_push n (p ∷ seen) o = ap (λ (rest : List ℕ). found_line n p ++ rest) (lines_push (n + 1) seen o)
    ∙ sym (append_assoc (found_line n p) (found_lines (n + 1) seen) (found_line (n + 1 + length seen) o))
    ∙ ap (λ (m : ℕ). found_line n p ++ found_lines (n + 1) seen ++ found_line m o) (omega arith)

flows_one : (o : Observation) → flows_of (o ∷ []) ≡ found_flows o
flows_one (Sees packet (Leaks how)) = refl
flows_one (Sees packet Clean) = refl
flows_one (Sees packet (Hides why)) = refl
flows_one (Misses why) = refl

flows_push : (seen : List Observation) (o : Observation) → flows_of (seen ++ o ∷ []) ≡ flows_of seen ++ found_flows o
flows_push [] o = flows_one o
flows_push (Sees packet (Leaks how) ∷ seen) o = ap (λ (rest : List Flow). flow_of packet how ∷ rest) (flows_push seen o)
flows_push (Sees packet Clean ∷ seen) o = flows_push seen o
flows_push (Sees packet (Hides why) ∷ seen) o = flows_push seen o
flows_push (Misses why ∷ seen) o = flows_push seen o

flows_fewer : (seen : List Observation) → length (flows_of seen) ≤ length seen
flows_fewer [] = omega arith
flows_fewer (Sees packet (Leaks how) ∷ seen) = omega (arith, flows_fewer seen)
flows_fewer (Sees packet Clean ∷ seen) = omega (arith, flows_fewer seen)
flows_fewer (Sees packet (Hides why) ∷ seen) = omega (arith, flows_fewer seen)
flows_fewer (Misses why ∷ seen) = omega (arith, flows_fewer seen)

-- each record is counted once
pub counted_one : (counts : Counts) (o : Observation) → all_of (counted counts o) ≡ all_of counts + 1
counted_one counts (Sees packet Clean) = omega arith
counted_one counts (Sees packet (Leaks Carries)) = omega arith
counted_one counts (Sees packet (Leaks Quotes)) = omega arith
counted_one counts (Sees packet (Hides why)) = omega arith
counted_one counts (Misses NotIpv6) = omega arith
counted_one counts (Misses Cut) = omega arith
counted_one counts (Misses Length) = omega arith

all_from : (counts : Counts) (seen : List Observation) → all_of (fold counted counts seen) ≡ all_of counts + length seen
all_from counts [] = omega arith
all_from counts (o ∷ seen) = omega (arith, all_from (counted counts o) seen, counted_one counts o)

all_seen : (seen : List Observation) → all_of (counts_of seen) ≡ length seen
all_seen seen = omega (arith, all_from none seen)

module _ (old new : Leaking) (t : Taken) (o : Observation) (shows : Shows t o) (number : ℕ) (is : number ≡ all_of old.counts + 1) (few : all_of old.counts < 2 ^ 32)
    (counts : new.counts ≡ counted old.counts o)
    (flows : (before : List Flow) → length before < 2 ^ 32 → IsTally before old.flows → IsTally (before ++ found_flows o) new.flows) where
  found : (ts : List Taken) (out report : List ℕ) → Finds ts out report old → Finds (ts ++ t ∷ []) (out ++ found_octets t.entry.time o) (report ++ found_line number o) new
  found ts out report finds =
      let seen = finds.seen in
      let size : all_of old.counts ≡ length seen = ap all_of finds.counts_are ∙ all_seen seen in
      let tallied : IsTally (flows_of seen ++ found_flows o) new.flows = flows (flows_of seen) (omega (arith, few, size, flows_fewer seen)) finds.tallied in
      record {
        seen = seen ++ o ∷ [];
        are = ShowAll-push ts seen t o finds.are shows;
        only = λ others have. ShowAll-unique (ts ++ t ∷ []) others (seen ++ o ∷ []) have (ShowAll-push ts seen t o finds.are shows);
        out_is = ap (λ (front : List ℕ). front ++ found_octets t.entry.time o) finds.out_is
            ∙ ap (λ (octets : List ℕ). capture_text (leaking_of ts seen) ++ octets) (sym (sent_octets t o))
            ∙ sym (capture_text-append (leaking_of ts seen) (sent_of t o))
            ∙ ap capture_text (sym (leaking_push ts seen t o finds.are));
        report_is = ap (λ (front : List ℕ). front ++ found_line number o) finds.report_is
            ∙ ap (λ (m : ℕ). found_lines 1 seen ++ found_line m o) (omega (arith, is, size))
            ∙ sym (lines_push 1 seen o);
        counts_are = counts ∙ ap (λ (c : Counts). counted c o) finds.counts_are ∙ sym (fold-append counted none seen (o ∷ []));
        tallied = subst (λ (fs : List Flow). IsTally fs new.flows) (sym (flows_push seen o)) tallied;
      }

  pub Gathers-push : (ts : List Taken) (texts : List (List ℕ)) → Gathers ts texts old
      → Gathers (ts ++ t ∷ []) (said_more texts (found_octets t.entry.time o ∷ found_line number o ∷ [])) new
  Gathers-push ts [] gathers = absurd gathers
  Gathers-push ts (out ∷ []) gathers = absurd gathers
  Gathers-push ts (out ∷ report ∷ []) gathers = found ts out report gathers
  Gathers-push ts (out ∷ report ∷ more ∷ texts) gathers = absurd gathers
