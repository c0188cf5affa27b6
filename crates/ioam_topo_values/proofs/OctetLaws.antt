-- Laws of octets that a text spells.
use Rattle.std.proofs.Common.{◌≡◌, ◌≤◌, ◌*◌, ◌%◌, ◌==◌, ◌&&◌, ℕ, Bool, true, false, cond, nat_le, List, length, Result, Ok, Err, refl, arith}
use Rattle.std.proofs.lemmas.Bool.Decides.{nat_tests}
use Rattle.hex.specs.Hex.{decode_of}
use Rattle.hex.specs.declared.error.FromHexError.{FromHexError}
use Rattle.hex.proofs.HexLemmas.{decode_of-ok}
use Rattle.toml.specs.Data.{Data}
use Rattle.ioam_topo_values.specs.declared.why.Why.{Why}
use Rattle.ioam_topo_values.specs.declared.why.Why.TheVariants.{Range}
use Rattle.ioam_topo_values.specs.Reads.{◌▷◌}
use Rattle.ioam_topo_values.specs.Texts.{text}
use Rattle.ioam_topo_values.specs.Octets.{decoded, octets_of, octets}

decoded_ok : (r : Result (List ℕ) FromHexError) (s : List ℕ) → decoded r ≡ Ok s → r ≡ Ok s
decoded_ok (Ok octets) s is = cc
decoded_ok (Err e) s is = cc

spelled : (t s : List ℕ) → length t % 8 ≡ 0 → length t ≤ 360 → decode_of t ≡ Ok s → (length s % 4 ≡ 0) × (length s ≤ 180)
spelled t s whole few is = let twice : length t ≡ 2 * length s = (decode_of-ok t s is).2 in (omega (arith, twice, whole), omega (arith, twice, few))

tested : (t s : List ℕ) (b c : Bool) → (length t % 8 == 0) ≡ b → nat_le (length t) 360 ≡ c
    → cond (b && c) (decoded (decode_of t)) (Err Range) ≡ Ok s → (length s % 4 ≡ 0) × (length s ≤ 180)
tested t s true true whole few is =
    let w : length t % 8 ≡ 0 = grind (arith, nat_tests, whole) in let f : length t ≤ 360 = grind (arith, nat_tests, few) in
    spelled t s w f (decoded_ok (decode_of t) s is)
tested t s true false whole few is = cc
tested t s false c whole few is = cc

read_of : (r : Result (List ℕ) Why) (s : List ℕ) → r ▷ octets_of ≡ Ok s → (length s % 4 ≡ 0) × (length s ≤ 180)
read_of (Ok t) s is = tested t s (length t % 8 == 0) (nat_le (length t) 360) refl refl is
read_of (Err why) s is = cc

-- octets are whole words of 4, and few
pub octets_sized : (d : Data) (s : List ℕ) → octets d ≡ Ok s → (length s % 4 ≡ 0) × (length s ≤ 180)
octets_sized d s is = read_of (text d) s is
