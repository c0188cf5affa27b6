-- Laws of numbers in the order of a file, as the crate byteorder reads and writes them.
use Rattle.std.proofs.Common.{◌≡◌, ℕ, ◌+◌, List, [], ◌++◌, length, drop, arith, ap, ◌∙◌, append_assoc, length-append}
use Rattle.std.proofs.lemmas.List.{append-nil, drop_all, get_or-drop}
use Rattle.byteorder.specs.Endian.{little_number}
use Rattle.ioam_base.specs.Octets.{written}
use Rattle.ioam_base.proofs.WrittenLaws.{written-next}
use Rattle.ioam_pcap.specs.declared.form.Order.TheVariants.{Little}
use Rattle.ioam_pcap.specs.Form.{number_at}

-- a number whose least significant octet comes first
pub little_number-four : (octets : List ℕ) (at : ℕ) → little_number 4 (drop at octets) ≡ number_at Little octets at
little_number-four octets at = grind (arith, get_or-drop)

-- four parts of four octets each, written over sixteen octets
module _ (octets a b c d : List ℕ) (long : length octets ≡ 16) (a_long : length a ≡ 4) (b_long : length b ≡ 4) (c_long : length c ≡ 4) (d_long : length d ≡ 4) where
  two_written : written (written octets 0 a) 4 b ≡ written octets 0 (a ++ b)
  two_written =
      let size : 4 ≡ 0 + length a = omega arith in
      ap (λ n. written (written octets 0 a) n b) size ∙ written-next octets a b 0 (omega arith)

  three_written : written (written octets 0 (a ++ b)) 8 c ≡ written octets 0 ((a ++ b) ++ c)
  three_written =
      let size : 8 ≡ 0 + length (a ++ b) = omega (arith, length-append a b) in
      ap (λ n. written (written octets 0 (a ++ b)) n c) size ∙ written-next octets (a ++ b) c 0 (omega arith)

  four_parts : written (written octets 0 ((a ++ b) ++ c)) 12 d ≡ written octets 0 (((a ++ b) ++ c) ++ d)
  four_parts =
      let size : 12 ≡ 0 + length ((a ++ b) ++ c) = omega (arith, length-append (a ++ b) c, length-append a b) in
      ap (λ n. written (written octets 0 ((a ++ b) ++ c)) n d) size ∙ written-next octets ((a ++ b) ++ c) d 0 (omega arith)

  pub four_written : written (written (written (written octets 0 a) 4 b) 8 c) 12 d ≡ a ++ (b ++ (c ++ d))
  four_written =
      let whole = ((a ++ b) ++ c) ++ d in
      let all : length octets ≡ length whole = omega (arith, length-append ((a ++ b) ++ c) d, length-append (a ++ b) c, length-append a b) in
      let none : drop (0 + length whole) octets ≡ [] = drop_all (0 + length whole) octets (omega arith) in
      ap (λ xs. written (written xs 8 c) 12 d) two_written
      ∙ ap (λ xs. written xs 12 d) three_written
      ∙ four_parts
      ∙ ap (λ rest. whole ++ rest) none
      ∙ append-nil whole
      ∙ append_assoc (a ++ b) c d
      ∙ append_assoc a b (c ++ d)
