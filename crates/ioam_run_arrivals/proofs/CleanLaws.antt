-- What leaves a domain is one packet each, with a whole chain of headers and no IOAM option on it.
use Rattle.std.proofs.Common.{◌≡◌, ℕ, zero, suc, ◌+◌, ◌<◌, ◌≤◌, Bool, true, false, List, [], ◌∷◌, ◌++◌, length, length-set, Option, Some, None, IsSomeAnd, slice_get, refl, sym, ap, ◌∙◌, subst, arith, if◌then◌else◌}
use Rattle.std.specs.Prelude.{All, ⊤, ◌-◌, map, nat_eq, slice_index}
use Rattle.std.proofs.lemmas.List.Elements.{All-nil, All-cons, All-append}
use Rattle.ioam_run_texts.proofs.CleanLaws.{leaving-lowered}
use Rattle.ioam_run_texts.proofs.FramingLaws.{framing-packet}
use Rattle.ioam_clock.specs.declared.sample.Sample.{Sample}
use Rattle.ioam_run_texts.specs.Clean.{MayLeave}
use Rattle.ioam_run_texts.specs.Framing.{Framing, Holds, NoIpv6, CutShort, TooShort, IfHolds, framing_of}
use Rattle.ioam_run_texts.specs.Lowered.{lowered}
use Rattle.ioam_run_texts.specs.Packet.{IsPacket}
use Rattle.ioam_node.specs.Admission.{Admits}
use Rattle.ioam_node.specs.declared.answer.Admit.{Admit}
use Rattle.ioam_node.specs.declared.answer.Admit.TheVariants as admit
use Rattle.ioam_pcap.specs.Cut.{is_cut}
use Rattle.ioam_pcap.specs.Text.{Sent, IsSendable, Sends, IsCaptureOf}
use Rattle.ioam_pcap.specs.Entries.{most}
use Rattle.ioam_plan.specs.declared.itinerary.Itinerary.{Itinerary}
use Rattle.ioam_plan.specs.declared.itinerary.Visit.{Visit}
use Rattle.ioam_plan.specs.declared.itinerary.End.{End}
use Rattle.ioam_plan.specs.declared.itinerary.End.TheVariants.{Left, Drop}
use Rattle.ioam_topo.specs.Domain.{links, ports}
use Rattle.ioam_topo.specs.declared.domain.Domain.{Domain}
use Rattle.ioam_topo.specs.declared.ids.FlowId.{FlowId}
use Rattle.ioam_topo.specs.declared.parts.Port.{Port}
use Rattle.ioam_batch.specs.Numbers.{Numbers}
use Rattle.ioam_run_texts.specs.Fate.{Frame, Fate, HasFate, AreFates, AreFatesFrom, packet_of}
use Rattle.ioam_run_texts.specs.Texts.{last_time, leaves_by, fate_leaves, sent_by_end, fate_sent, sent_by, out_text}
use Rattle.ioam_run_texts.proofs.FateLaws.{plans_of}
use Rattle.ioam_run_outputs.specs.Outlets.{each_from, of_outlets, tapped}
use Rattle.ioam_run_arrivals.proofs.AnswerLaws.{DropsAlike, answer-within, plan-drops}

-- the packet that is taken in, where one is, may leave
abbrev TakesClean : Admit → Type 0
TakesClean (admit.Plain kept) = MayLeave kept.now
TakesClean (admit.Enclose flow kept limit) = MayLeave kept.now
TakesClean (admit.Drop reason) = ⊤

admits-clean : (domain : Domain) (node : ℕ) (framing : Framing) (answer : Admit) → IfHolds framing IsPacket → Admits domain node framing answer → TakesClean answer
admits-clean domain node (Holds packet) (admit.Plain kept) is admits =
    let free = (admits.1).1.is_free in
    subst (λ (p : List ℕ). MayLeave p) (sym admits.0) (is, (free.sound, free.free))
admits-clean domain node (Holds packet) (admit.Enclose flow kept limit) is admits =
    let free = (admits.2).1.is_free in
    subst (λ (p : List ℕ). MayLeave p) (sym admits.0) (is, (free.sound, free.free))
admits-clean domain node (Holds packet) (admit.Drop reason) is admits = tt
admits-clean domain node NoIpv6 (admit.Plain kept) is admits = absurd admits
admits-clean domain node NoIpv6 (admit.Enclose flow kept limit) is admits = absurd admits
admits-clean domain node NoIpv6 (admit.Drop reason) is admits = tt
admits-clean domain node CutShort (admit.Plain kept) is admits = absurd admits
admits-clean domain node CutShort (admit.Enclose flow kept limit) is admits = absurd admits
admits-clean domain node CutShort (admit.Drop reason) is admits = tt
admits-clean domain node TooShort (admit.Plain kept) is admits = absurd admits
admits-clean domain node TooShort (admit.Enclose flow kept limit) is admits = absurd admits
admits-clean domain node TooShort (admit.Drop reason) is admits = tt

answer-clean : (domain : Domain) (at : Option Port) (framing : Framing) (answer : Admit) → IfHolds framing IsPacket
    → IsSomeAnd at (λ port. Admits domain port.node.0 framing answer) → TakesClean answer
answer-clean domain (Some port) framing answer is admits = admits-clean domain port.node.0 framing answer is admits
answer-clean domain None framing answer is admits = absurd admits

one-clean : (time count : ℕ) (packet : List ℕ) → MayLeave packet → All (Sends MayLeave) (record { time = time; octets = lowered count packet } ∷ [])
one-clean time count packet clean = All-cons (Sends MayLeave) (record { time = time; octets = lowered count packet }) []
    (leaving-lowered packet (slice_index packet 7 - count) clean) (All-nil (Sends MayLeave))

-- what leaves of a packet that may leave may leave
leaves-clean : (packet : List ℕ) (visits : List Visit) (exited : Bool) (carried : Option (FlowId × Numbers)) → MayLeave packet
    → All (Sends MayLeave) (leaves_by packet visits exited carried)
leaves-clean packet visits true None clean = one-clean (last_time visits) (length visits) packet clean
leaves-clean packet visits false None clean = one-clean (last_time visits) (length visits) packet clean
leaves-clean packet visits true (Some carried) clean = one-clean (last_time visits) 2 packet clean
leaves-clean packet visits false (Some carried) clean = All-nil (Sends MayLeave)

-- by each port
by-end : (P : Sent → Type 0) (port : ℕ) (leaves : List Sent) (end : End) → All P leaves → All P (sent_by_end port leaves end)
by-end P port leaves (Left exit) all = chosen (nat_eq port exit.0)
  where
    chosen : (b : Bool) → All P (if b then leaves else [])
    chosen true = all
    chosen false = All-nil P
by-end P port leaves (Drop reason node) all = All-nil P

sent-clean : (port : ℕ) (answer : Admit) (it : Itinerary) (end : End) → TakesClean answer → DropsAlike answer end
    → All (Sends MayLeave) (sent_by_end port (leaves_by (packet_of answer) it.visits it.exited it.carried) end)
sent-clean port (admit.Plain kept) it end clean drops =
    by-end (Sends MayLeave) port (leaves_by kept.now it.visits it.exited it.carried) end (leaves-clean kept.now it.visits it.exited it.carried clean)
sent-clean port (admit.Enclose flow kept limit) it end clean drops =
    by-end (Sends MayLeave) port (leaves_by kept.now it.visits it.exited it.carried) end (leaves-clean kept.now it.visits it.exited it.carried clean)
sent-clean port (admit.Drop reason) it (Left exit) clean drops = absurd drops
sent-clean port (admit.Drop reason) it (Drop cause node) clean drops = All-nil (Sends MayLeave)

fate-clean : (domain : Domain) (readings : List (List Sample)) (earlier : List Itinerary) (frame : Frame) (fate : Fate)
    → HasFate domain readings earlier frame fate → (port : ℕ) → All (Sends MayLeave) (fate_sent port fate)
fate-clean domain readings earlier frame fate has port =
    let cut : Bool = is_cut frame.entry in
    let at : Option Port = slice_get (ports domain) frame.port.0 in
    subst (λ (packet : List ℕ). All (Sends MayLeave) (sent_by_end port (leaves_by packet fate.itinerary.visits fate.itinerary.exited fate.itinerary.carried) fate.itinerary.end)) (sym has.packet)
    (sent-clean port has.answer fate.itinerary fate.itinerary.end
    (answer-clean domain at (framing_of frame.layer cut frame.entry.octets) has.answer (framing-packet frame.layer cut frame.entry.octets) has.answered)
    (plan-drops domain readings earlier at frame.entry.time has.answer fate.itinerary (plans_of domain readings earlier frame fate has).1))

-- every packet that leaves by a port has a whole chain and no IOAM option
all-clean : (domain : Domain) (readings : List (List Sample)) (earlier : List Itinerary) (frames : List Frame) (fates : List Fate)
    → AreFatesFrom domain readings earlier frames fates → (port : ℕ) → All (Sends MayLeave) (sent_by port fates)
all-clean domain readings earlier [] [] are port = All-nil (Sends MayLeave)
all-clean domain readings earlier [] (fate ∷ fates) are port = absurd are
all-clean domain readings earlier (frame ∷ frames) [] are port = absurd are
all-clean domain readings earlier (frame ∷ frames) (fate ∷ fates) are port =
    All-append (Sends MayLeave) (fate_sent port fate) (sent_by port fates) (fate-clean domain readings earlier frame fate are.0 port)
    (all-clean domain readings (earlier ++ fate.itinerary ∷ []) frames fates are.1 port)

pub fates-clean : (domain : Domain) (readings : List (List Sample)) (frames : List Frame) (fates : List Fate) → AreFates domain readings frames fates
    → (port : ℕ) → All (Sends MayLeave) (sent_by port fates)
fates-clean domain readings frames fates are port = all-clean domain readings [] frames fates are port

-- what leaves of a packet has as many octets
one-fits : (time count : ℕ) (packet : List ℕ) → length packet ≤ most → All IsSendable (record { time = time; octets = lowered count packet } ∷ [])
one-fits time count packet few = All-cons IsSendable (record { time = time; octets = lowered count packet }) []
    (omega (arith, few, length-set packet 7 (slice_index packet 7 - count))) (All-nil IsSendable)

leaves-fit : (packet : List ℕ) (visits : List Visit) (exited : Bool) (carried : Option (FlowId × Numbers)) → length packet ≤ most
    → All IsSendable (leaves_by packet visits exited carried)
leaves-fit packet visits true None few = one-fits (last_time visits) (length visits) packet few
leaves-fit packet visits false None few = one-fits (last_time visits) (length visits) packet few
leaves-fit packet visits true (Some carried) few = one-fits (last_time visits) 2 packet few
leaves-fit packet visits false (Some carried) few = All-nil IsSendable

-- and so no more than a record may have
fate-fits : (domain : Domain) (readings : List (List Sample)) (earlier : List Itinerary) (frame : Frame) (fate : Fate)
    → HasFate domain readings earlier frame fate → (port : ℕ) → All IsSendable (fate_sent port fate)
fate-fits domain readings earlier frame fate has port =
    by-end IsSendable port (fate_leaves fate) fate.itinerary.end
    (leaves-fit fate.packet fate.itinerary.visits fate.itinerary.exited fate.itinerary.carried (omega (
      arith,
      has.short,
      ap (λ (packet : List ℕ). length packet) has.packet,
      answer-within domain (slice_get (ports domain) frame.port.0) frame.layer (is_cut frame.entry) frame.entry.octets has.answer has.answered,
    )))

all-fit : (domain : Domain) (readings : List (List Sample)) (earlier : List Itinerary) (frames : List Frame) (fates : List Fate)
    → AreFatesFrom domain readings earlier frames fates → (port : ℕ) → All IsSendable (sent_by port fates)
all-fit domain readings earlier [] [] are port = All-nil IsSendable
all-fit domain readings earlier [] (fate ∷ fates) are port = absurd are
all-fit domain readings earlier (frame ∷ frames) [] are port = absurd are
all-fit domain readings earlier (frame ∷ frames) (fate ∷ fates) are port =
    All-append IsSendable (fate_sent port fate) (sent_by port fates) (fate-fits domain readings earlier frame fate are.0 port)
    (all-fit domain readings (earlier ++ fate.itinerary ∷ []) frames fates are.1 port)

fates-fit : (domain : Domain) (readings : List (List Sample)) (frames : List Frame) (fates : List Fate) → AreFates domain readings frames fates
    → (port : ℕ) → All IsSendable (sent_by port fates)
fates-fit domain readings frames fates are port = all-fit domain readings [] frames fates are port

-- the capture of each port is one of such packets
pub outs-clean : (domain : Domain) (readings : List (List Sample)) (frames : List Frame) (fates : List Fate) → AreFates domain readings frames fates
    → (port : ℕ) → IsCaptureOf MayLeave (out_text port fates)
outs-clean domain readings frames fates are port = record {
  sent = sent_by port fates;
  is = refl;
  so = fates-clean domain readings frames fates are port;
  fits = fates-fit domain readings frames fates are port;
}

each-at : (n from at : ℕ) (text : ℕ → List ℕ) (rest : List (List ℕ)) → at < n → slice_get (each_from n from text ++ rest) at ≡ Some (text (from + at))
each-at zero from at text rest inside = absurd (omega (arith, inside))
each-at (suc n) from zero text rest inside = ap (λ (k : ℕ). Some (text k)) (omega arith)
each-at (suc n) from (suc at) text rest inside = each-at n (suc from) at text rest (omega (arith, inside))
    ∙ ap (λ (k : ℕ). Some (text k)) (omega arith)

-- the text at a port's place is the port's
pub port-text : (domain : Domain) (port tap : ℕ → List ℕ) (report exports : List ℕ) (at : ℕ) → at < length (ports domain)
    → slice_get (of_outlets domain port tap report exports) at ≡ Some (port at)
port-text domain port tap report exports at inside =
    each-at (length (ports domain)) 0 at port (map (λ link. tap link.0) (tapped (links domain)) ++ report ∷ exports ∷ []) inside
    ∙ ap (λ (k : ℕ). Some (port k)) (omega arith)

-- so each port's text is a capture of packets that may leave, whatever the other outputs hold
pub texts-clean : (domain : Domain) (readings : List (List Sample)) (frames : List Frame) (fates : List Fate) (tap : ℕ → List ℕ) (report exports : List ℕ)
    (texts : List (List ℕ)) → AreFates domain readings frames fates → texts ≡ of_outlets domain (λ at. out_text at fates) tap report exports
    → (port : ℕ) → port < length (ports domain) → IsSomeAnd (slice_get texts port) (IsCaptureOf MayLeave)
texts-clean domain readings frames fates tap report exports texts are is port inside =
    subst (λ (found : Option (List ℕ)). IsSomeAnd found (IsCaptureOf MayLeave))
    (sym (ap (λ (ts : List (List ℕ)). slice_get ts port) is ∙ port-text domain (λ at. out_text at fates) tap report exports port inside))
    (outs-clean domain readings frames fates are port)
