-- What is laid out option by option is the header that holds these options.
use Rattle.std.proofs.Common.{◌≡◌, ℕ, zero, suc, ◌+◌, ◌-◌, ◌/◌, ◌%◌, ◌≤◌, Bool, true, false, cond, List, [], ◌∷◌, ◌++◌, length, slice_set, append_assoc, length-append, refl, ap, ◌∙◌, arith}
use Rattle.std.proofs.lemmas.List.{length-replicate}
use Rattle.ioam_ip.specs.Findings.{is_ioam_type}
use Rattle.ioam_ip.specs.Layout.{padding, gap_before, padded, with_option, finished}
use Rattle.ioam_ip.specs.Laid.{Part, behind_part, part_octets, parts_octets, parts_end, header_of, laid_with}
use Rattle.ioam_ip.proofs.LaidLaws.{length-part}

length-padding : (n : ℕ) → length (padding n) ≡ n
length-padding zero = refl
length-padding (suc zero) = refl
length-padding (suc (suc n)) = ap (λ m. suc (suc m)) (length-replicate n 0)

small_gap : (b : Bool) (size : ℕ) → cond b ((4 - size % 4) % 4) 0 ≤ 3
small_gap true size = omega arith
small_gap false size = omega arith

-- an option takes its data and a few octets more
pub length_with_option : (laid : List ℕ) (kind : ℕ) (body : List ℕ) → length (with_option laid kind body) ≤ length laid + length body + 5
length_with_option laid kind body =
    omega (
      arith,
      small_gap (is_ioam_type kind) (length laid),
      length-padding (gap_before (length laid) kind),
      length-append laid (padding (gap_before (length laid) kind) ++ (kind ∷ length body ∷ body)),
      length-append (padding (gap_before (length laid) kind)) (kind ∷ length body ∷ body),
    )

pub laid_with-append : (laid : List ℕ) (parts others : List Part) → laid_with laid (parts ++ others) ≡ laid_with (laid_with laid parts) others
laid_with-append laid [] others = refl
laid_with-append laid (part ∷ parts) others = laid_with-append (with_option laid part.kind part.body) parts others

length-with : (laid : List ℕ) (part : Part) → length (with_option laid part.kind part.body) ≡ behind_part (length laid) part
length-with laid part = length-append laid (part_octets (length laid) part) ∙ length-part (length laid) part

laid_end : (laid : List ℕ) (parts : List Part) → padded (length (laid_with laid parts)) ≡ parts_end (length laid) parts
laid_end laid [] = refl
laid_end laid (part ∷ parts) = laid_end (with_option laid part.kind part.body) parts ∙ ap (λ n. parts_end n parts) (length-with laid part)

laid_octets : (laid : List ℕ) (parts : List Part)
    → laid_with laid parts ++ padding (padded (length (laid_with laid parts)) - length (laid_with laid parts)) ≡ laid ++ parts_octets (length laid) parts
laid_octets laid [] = refl
laid_octets laid (part ∷ parts) =
    laid_octets (with_option laid part.kind part.body) parts
    ∙ ap (λ n. with_option laid part.kind part.body ++ parts_octets n parts) (length-with laid part)
    ∙ append_assoc laid (part_octets (length laid) part) (parts_octets (behind_part (length laid) part) parts)

pub finished-laid : (next : ℕ) (parts : List Part) → finished (laid_with (next ∷ 0 ∷ []) parts) ≡ header_of next parts
finished-laid next parts =
    ap (λ xs. slice_set xs 1 (padded (length (laid_with (next ∷ 0 ∷ []) parts)) / 8 - 1)) (laid_octets (next ∷ 0 ∷ []) parts)
    ∙ ap (λ n. next ∷ (n / 8 - 1) ∷ parts_octets 2 parts) (laid_end (next ∷ 0 ∷ []) parts)
