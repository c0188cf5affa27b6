-- Laws of what was handed out and appended, one call after another.
use Rattle.std.proofs.Common.{◌≡◌, ℕ, ◌+◌, ◌-◌, ◌≤◌, Bool, List, ◌++◌, length, take, drop, sym, ◌∙◌, ap, append_assoc, subst, arith, length-drop}
use Rattle.std.proofs.Math.Seq.{take-add}
use Rattle.std.proofs.lemmas.List.{take_all}
use Rattle.ioam_desk.specs.Desk.{Writing, Grows}

-- octets were appended, and then others
pub Grows-then : (tells : Bool) (a b c : Writing) (slot : ℕ) (xs ys : List ℕ)
    → Grows tells a b slot xs → Grows tells b c slot ys → Grows tells a c slot (xs ++ ys)
Grows-then tells a b c slot xs ys first then = record {
  other_written = λ k other. then.other_written k other ∙ first.other_written k other;
  written = λ told. then.written told ∙ ap (λ front. front ++ ys) (first.written told) ∙ append_assoc (a.written slot) xs ys;
  files = then.files ∙ first.files;
}

-- what a slice from m on is
pub rest_of : (xs : List ℕ) (m : ℕ) → take (length xs - m) (drop m xs) ≡ drop m xs
rest_of xs m = take_all (length xs - m) (drop m xs) (omega (arith, length-drop m xs))

pub within_rest : (xs : List ℕ) (m n : ℕ) → m ≤ length xs → n ≤ length (take (length xs - m) (drop m xs)) → m + n ≤ length xs
within_rest xs m n below fits = omega (arith, length-drop m xs, ap length (rest_of xs m))

-- a front of the octets was appended, and then a front of their rest
pub Grows-more : (tells : Bool) (a b c : Writing) (slot : ℕ) (octets : List ℕ) (m n : ℕ)
    → Grows tells a b slot (take m octets) → Grows tells b c slot (take n (take (length octets - m) (drop m octets)))
    → Grows tells a c slot (take (m + n) octets)
Grows-more tells a b c slot octets m n first then =
    let P : List ℕ → Type 0 = λ part. Grows tells a c slot part in
    let joined : take m octets ++ take n (take (length octets - m) (drop m octets)) ≡ take (m + n) octets =
    ap (λ part. take m octets ++ take n part) (rest_of octets m) ∙ sym (take-add m n octets) in
    subst P joined (Grows-then tells a b c slot (take m octets) (take n (take (length octets - m) (drop m octets))) first then)
