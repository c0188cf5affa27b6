-- Laws of octets that are taken from the front.
use Rattle.std.proofs.Common.{◌≡◌, ℕ, ◌+◌, ◌-◌, ◌≤◌, List, ◌++◌, length, take, drop, arith, sym, ap, ◌∙◌, length-append, length-take-le, length-drop}
use Rattle.std.proofs.lemmas.List.{drop-drop, drop-take}
use Rattle.std.proofs.Math.Seq.{take-add, drop-append-add}
use Rattle.ioam_base.specs.Fed.{Kept, passed}

-- so many octets more of a buffer were taken
pub moved_on : (items : List ℕ) (taken start count : ℕ)
    → ◌≡◌ {A = Kept} (record { given = take (taken + count) items; start = start + count; pending = drop (taken + count) items })
    (record { given = take taken items ++ take count (drop taken items); start = start + count; pending = drop count (drop taken items) })
moved_on items taken start count =
    let given = take-add taken count items in
    let rest : drop (taken + count) items ≡ drop count (drop taken items) = sym (drop-drop count taken items) in
    λ i. record { given = given i; start = start + count; pending = rest i }

-- the last of the octets that were just taken
pub last_taken : (kept : Kept) (count last : ℕ) → count ≤ length kept.pending → last ≤ count
    → drop (length (passed count kept).given - last) (passed count kept).given ≡ take last (drop (count - last) kept.pending)
last_taken kept count last fits few =
    let before = kept.given in
    let front = take count kept.pending in
    let many : length front ≡ count = length-take-le count kept.pending fits in
    let all : length (before ++ front) ≡ length before + length front = length-append before front in
    let at : length (before ++ front) - last ≡ length before + (count - last) = omega (arith, all, many) in
    let split : count ≡ count - last + last = omega arith in
    ap (λ n. drop n (before ++ front)) at ∙ drop-append-add before front (count - last)
    ∙ ap (λ n. drop (count - last) (take n kept.pending)) split ∙ drop-take (count - last) last kept.pending

-- taking octets lets go of none
pub passed_held : (kept : Kept) (count : ℕ) → count ≤ length kept.pending
    → length (passed count kept).given + length (passed count kept).pending ≡ length kept.given + length kept.pending
passed_held kept count fits =
    omega (
      arith,
      length-append kept.given (take count kept.pending),
      length-take-le count kept.pending fits,
      length-drop count kept.pending,
    )
