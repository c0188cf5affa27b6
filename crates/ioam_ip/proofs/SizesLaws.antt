-- Laws of the lengths of options headers.
use Rattle.std.proofs.Common.{◌≡◌, ℕ, List, [], ◌∷◌, length, map, refl, ◌∙◌}
use Rattle.ioam_ip.specs.Layout.{padded}
use Rattle.ioam_ip.specs.Laid.{Part, behind_part, parts_end, header_if}
use Rattle.ioam_ip.specs.Sizes.{sized, options_end, header_size}
use Rattle.ioam_ip.proofs.LaidLaws.{length-header}

parts_end-sized : (size : ℕ) (parts : List Part) → parts_end size parts ≡ padded (options_end size (map sized parts))
parts_end-sized size [] = refl
parts_end-sized size (part ∷ parts) = parts_end-sized (behind_part size part) parts

pub length-header_if : (next : ℕ) (parts : List Part) → length (header_if next parts) ≡ header_size (map sized parts)
length-header_if next [] = refl
length-header_if next (part ∷ parts) = length-header next (part ∷ parts) ∙ parts_end-sized 2 (part ∷ parts)
