-- No record of a capture has more than 262,144 octets.
use Rattle.std.proofs.Common.{◌≡◌, ℕ, ◌≤◌, Bool, true, false, List, [], ◌∷◌, length, take, drop, Option, Some, None, arith, refl, sym, ap, ◌∙◌, subst, inl, inr, length-take}
use Rattle.std.specs.Prelude.{All, slice_get, nat_lt, not, is_none, ◌==◌, if◌then◌else◌}
use Rattle.std.specs.Option.{option_or}
use Rattle.std.proofs.lemmas.Bool.{ltb-false}
use Rattle.std.proofs.lemmas.List.Elements.{All-nil, All-cons, All-head, All-tail}
use Rattle.std.proofs.lemmas.Option.{none-some, same_Some}
use Rattle.ioam_pcap.specs.declared.capture.CapFault.{CapFault}
use Rattle.ioam_pcap.specs.declared.capture.CapFault.TheVariants as fault
use Rattle.ioam_ip.specs.declared.layer.Layer.{Layer}
use Rattle.ioam_pcap.specs.Link.{link_type}
use Rattle.ioam_pcap.specs.Ending.{Ending}
use Rattle.ioam_pcap.specs.Entries.{Entry, Taken, IsShort}
use Rattle.ioam_pcap.proofs.ShortLaws.{Reads-short as classic-short}
use Rattle.ioam_ng.specs.declared.face.Face.{Face}
use Rattle.ioam_pcap.specs.declared.form.Order.{Order}
use Rattle.ioam_ng.specs.Checks.{first}
use Rattle.ioam_ng.specs.Face.{is_resolved, time_of}
use Rattle.ioam_ng.specs.Front.{order_in, front_fault}
use Rattle.ioam_ng.specs.Blocks.{Place, CanPass, Blocks, packets, packet_there, behind, captured, units, block_checks, block_fault, packet_fault, packet_of, packet_from, packet_at, packet_by, face_number, fault_by, is_whole, size, kind}
use Rattle.ioam_capture.specs.Reads.{of_link, Reads}

-- a record has no more octets
abbrev pub IsFew : Taken → Type 0
IsFew t = length t.entry.octets ≤ 262144

-- ---- of the classic form

of_link-few : (link : Option Layer) (entries : List Entry) → All IsShort entries → All IsFew (of_link link entries)
of_link-few None entries short = All-nil IsFew
of_link-few (Some l) [] short = All-nil IsFew
of_link-few (Some l) (e ∷ es) short =
    All-cons IsFew (record { link = l; entry = e }) (of_link (Some l) es) (All-head IsShort e es short) (of_link-few (Some l) es (All-tail IsShort e es short))

-- ---- of the form pcapng

no_second : (x y : Option CapFault) → option_or x y ≡ None → y ≡ None
no_second None y same = same
no_second (Some f) y same = absurd (none-some f (sym same))

no_third : (a b c : Bool) (f g h : CapFault) (rest : Option CapFault) → (if a then Some f else if b then Some g else if c then Some h else rest) ≡ None → c ≡ false
no_third true b c f g h rest same = absurd (none-some f (sym same))
no_third false true c f g h rest same = absurd (none-some g (sym same))
no_third false false true f g h rest same = absurd (none-some h (sym same))
no_third false false false f g h rest same = refl

module _ (order : Order) (block : List ℕ) where
  face_few : (face : Option Face) (t : Taken) → packet_fault order block face ≡ None → packet_from order block face ≡ Some t → IsFew t
  face_few None t sound is = absurd (none-some t is)
  face_few (Some face) t sound is =
      let long : nat_lt 262144 (captured order block) ≡ false =
      no_third (is_none (link_type face.kind)) (not (is_resolved face.resolution)) (nat_lt 262144 (captured order block))
      (fault.Link face.kind) (fault.Resolution face.resolution) (fault.RecordLong (captured order block))
      (if is_none (time_of face (units order block)) then Some (fault.Time (units order block)) else None) sound in
      let few : length (take (captured order block) (drop 28 block)) ≤ 262144 =
      omega (arith, ltb-false 262144 (captured order block) long, length-take (captured order block) (drop 28 block)) in
      subst IsFew (same_Some (packet_of order block face) t is) few

  kind_few : (six : Bool) (face : Option Face) (t : Taken) → (if six then packet_fault order block face else None) ≡ None
      → (if six then packet_from order block face else None) ≡ Some t → IsFew t
  kind_few true face t sound is = face_few face t sound is
  kind_few false face t sound is = absurd (none-some t is)

  block_few : (k : ℕ) (faces : List Face) (t : Taken) → block_fault order block k faces ≡ None → packet_at order block k faces ≡ Some t → IsFew t
  block_few k faces t sound is =
      kind_few (k == 6) (slice_get faces (face_number order block)) t
      (no_second (first (block_checks order block k)) (if k == 6 then packet_fault order block (slice_get faces (face_number order block)) else None) sound) is

by_few : (order : Option Order) (block : List ℕ) (k : ℕ) (faces : List Face) (t : Taken) → fault_by order block k faces ≡ None → packet_by order block k faces ≡ Some t → IsFew t
by_few None block k faces t sound is = absurd (none-some t is)
by_few (Some order) block k faces t sound is = block_few order block k faces t sound is

packet_few : (p : Place) (t : Taken) → CanPass p → packet_there p ≡ Some t → IsFew t
packet_few p t pass is =
    let order = order_in p.known.order p.octets in
    let block = take (size p.known p.octets) p.octets in
    let rest : (if is_whole p.known p.octets then fault_by order block (kind p.known p.octets) p.known.faces else None) ≡ None =
    no_second (front_fault p.known.count p.known.order p.octets) _ pass.0 in
    let sound : fault_by order block (kind p.known p.octets) p.known.faces ≡ None =
    sym (ap (λ w. if w then fault_by order block (kind p.known p.octets) p.known.faces else None) pass.1) ∙ rest in
    by_few order block (kind p.known p.octets) p.known.faces t sound is

packets_few : (p : Place) (blocks : List (Option Taken)) (q : Place) → Blocks p blocks q → All IsFew (packets blocks)
packets_few p [] q here = All-nil IsFew
packets_few p (None ∷ xs) q leads = packets_few (behind p) xs q leads.2
packets_few p (Some t ∷ xs) q leads = All-cons IsFew t (packets xs) (packet_few p t leads.0 (sym leads.1)) (packets_few (behind p) xs q leads.2)

-- ---- of either

pub Reads-short : (octets : List ℕ) (taken : List Taken) (ending : Ending) → Reads octets taken ending → All (λ t. length t.entry.octets ≤ 262144) taken
Reads-short octets taken ending (inl ng) = let reads = ng.1 in
    subst (All IsFew) (sym reads.given) (packets_few _ reads.blocks reads.place reads.leads)
Reads-short octets taken ending (inr classic) = let reads = classic.1 in
    subst (All IsFew) (sym reads.are) (of_link-few reads.link reads.entries (classic-short octets reads.link reads.entries ending reads.reads))
