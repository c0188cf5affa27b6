-- The options of the outer Hop-by-Hop header, as they are read in place.
use Rattle.std.proofs.Common.{◌≡◌, ℕ, ◌+◌, ◌-◌, ◌*◌, ◌/◌, ◌<◌, Bool, true, false, cond, eqb, List, [], length, take, drop, set, slice_index, refl, sym, ap, ◌∙◌, arith}
use Rattle.std.proofs.lemmas.List.{get_or-set_other, length-set, drop-set-lt}
use Rattle.ioam_base.proofs.WrittenLaws.{written-front}
use Rattle.ioam_ip.specs.Chain.{IsSound}
use Rattle.ioam_ip.specs.Hop.{has_hop, hop_options, hop_stepped}
use Rattle.ioam_ip.specs.Packet.{IsPacket}
use Rattle.ioam_ip.specs.Rewriting.{options_in}
use Rattle.ioam_ip.proofs.SoundLaws.{after, part, facts_of, zero_is}

-- another hop limit changes none of them
pub options_lowered : (packet : List ℕ) (limit : ℕ) → hop_options (set packet 7 limit) ≡ hop_options packet
options_lowered packet limit =
    let first : slice_index (set packet 7 limit) 6 ≡ slice_index packet 6 = get_or-set_other packet 7 6 limit 0 (omega arith) in
    let said : slice_index (set packet 7 limit) 41 ≡ slice_index packet 41 = get_or-set_other packet 7 41 limit 0 (omega arith) in
    let rest : drop 40 (set packet 7 limit) ≡ drop 40 packet = drop-set-lt 40 packet 7 limit (omega arith) in
    λ i. cond (eqb (first i) 0) (options_in (take ((40 + (said i + 1) * 8) - 40) (rest i))) []

-- it stays one packet
pub IsPacket-lowered : (packet : List ℕ) (limit : ℕ) → IsPacket packet → IsPacket (set packet 7 limit)
IsPacket-lowered packet limit is =
    let octet : (i : ℕ) → (i ≡ 7 → ⊥) → slice_index (set packet 7 limit) i ≡ slice_index packet i = λ i other. get_or-set_other packet 7 i limit 0 other in
    record {
      header_there = omega (arith, length-set packet 7 limit, is.header_there);
      version = ap (λ n. n / 16) (octet 0 (omega arith)) ∙ is.version;
      whole = length-set packet 7 limit ∙ is.whole ∙ sym (omega (arith, octet 4 (omega arith), octet 5 (omega arith)));
    }

pub IsPacket-stepped : (step : ℕ → List ℕ → List ℕ) (keeps : (kind : ℕ) (body : List ℕ) → length (step kind body) ≡ length body)
    → (packet : List ℕ) → IsSound packet → IsPacket packet → IsPacket (hop_stepped step packet)
IsPacket-stepped step keeps packet sound is = by_test (has_hop packet) refl where
  by_test : (b : Bool) → has_hop packet ≡ b → IsPacket (cond b (after step keeps packet) packet)
  by_test true there =
      let known = facts_of step keeps packet sound.heads (record { upper = sound.upper; at = sound.at; chain = sound.chain }) (zero_is (slice_index packet 6) there) in
      let octet : (i : ℕ) → i < 40 → slice_index (after step keeps packet) i ≡ slice_index packet i =
      λ i below. written-front packet (part step keeps packet) 40 i below is.header_there in
      record {
        header_there = omega (arith, known.long, is.header_there);
        version = ap (λ n. n / 16) (octet 0 (omega arith)) ∙ is.version;
        whole = known.long ∙ is.whole ∙ sym (omega (arith, octet 4 (omega arith), octet 5 (omega arith)));
      }
  by_test false there = is

-- the hop limit is that which it had
pub hops-stepped : (step : ℕ → List ℕ → List ℕ) (keeps : (kind : ℕ) (body : List ℕ) → length (step kind body) ≡ length body)
    → (packet : List ℕ) → IsPacket packet → slice_index (hop_stepped step packet) 7 ≡ slice_index packet 7
hops-stepped step keeps packet is = by_test (has_hop packet) where
  by_test : (b : Bool) → slice_index (cond b (after step keeps packet) packet) 7 ≡ slice_index packet 7
  by_test true = written-front packet (part step keeps packet) 40 7 (omega arith) is.header_there
  by_test false = refl
