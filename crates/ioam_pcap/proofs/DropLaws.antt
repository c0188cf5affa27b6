-- What stands at a place stands at the front of the octets from that place on.
use Rattle.std.proofs.Common.{◌≡◌, ℕ, ◌+◌, ◌≤◌, List, length, drop, arith, ap, ◌∙◌, inl, inr, length-drop}
use Rattle.std.proofs.lemmas.List.{get_or-drop, drop-drop}
use Rattle.ioam_pcap.specs.declared.form.Order.{Order}
use Rattle.ioam_pcap.specs.declared.form.Order.TheVariants.{Big, Little}
use Rattle.ioam_pcap.specs.declared.form.Form.{Form}
use Rattle.ioam_pcap.specs.declared.capture.CapFault.{CapFault}
use Rattle.ioam_pcap.specs.Form.{number_at}
use Rattle.ioam_pcap.specs.Entries.{captured, IsWhole, entry_at}
use Rattle.ioam_pcap.specs.Reads.{EntryFault, IsEntryCut}

pub number_at-drop : (order : Order) (octets : List ℕ) (n at : ℕ) → number_at order (drop n octets) at ≡ number_at order octets (n + at)
number_at-drop Big octets n at = grind (arith, get_or-drop)
number_at-drop Little octets n at = grind (arith, get_or-drop)

pub number_at-front : (order : Order) (octets : List ℕ) (n : ℕ) → number_at order (drop n octets) 0 ≡ number_at order octets n
number_at-front order octets n = number_at-drop order octets n 0 ∙ ap (number_at order octets) (omega arith)

module _ (form : Form) (octets : List ℕ) (n : ℕ) (inside : n ≤ length octets) where
  pub captured-drop : captured form (drop n octets) 0 ≡ captured form octets n
  captured-drop = number_at-drop form.order octets n 8

  pub IsWhole-drop : IsWhole form (drop n octets) 0 → IsWhole form octets n
  IsWhole-drop whole = let same = captured-drop in (omega arith, omega (arith, length-drop n octets))

  pub entry_at-drop : entry_at form (drop n octets) 0 ≡ entry_at form octets n
  entry_at-drop =
      let seconds = number_at-front form.order octets n in
      let fraction = number_at-drop form.order octets n 4 in
      let original = number_at-drop form.order octets n 12 in
      let same = captured-drop in
      let rest : drop 16 (drop n octets) ≡ drop (n + 16) octets = drop-drop 16 n octets in
      cc

  pub EntryFault-drop : (f : CapFault) → EntryFault form (drop n octets) 0 f → EntryFault form octets n f
  EntryFault-drop f bad =
      let (found, is, fits, here, long) = bad in
      (found, is, omega (arith, fits, length-drop n octets), here ∙ captured-drop, long)

  pub IsEntryCut-drop : IsEntryCut form (drop n octets) 0 → IsEntryCut form octets n
  IsEntryCut-drop (inl few) = inl (omega (arith, length-drop n octets))
  IsEntryCut-drop (inr few) = let same = captured-drop in inr (omega arith, omega (arith, length-drop n octets))
