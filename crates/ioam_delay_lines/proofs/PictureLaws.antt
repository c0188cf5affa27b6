-- The rows of a picture: as narrow as 16 lines allow, and drawn one after the other.
use Rattle.std.proofs.Common.{◌≡◌, ℕ, Bool, zero, suc, ◌*◌, ◌/◌, ◌<◌, ◌≤◌, ◌+◌, ◌++◌, refl, ap, arith}
use Rattle.std.proofs.lemmas.Bool.{cond-false, cond-true, le-leb, lt-leb, ne_eqb}
use Rattle.ioam_delays.specs.declared.counter.Counter.{Counter}
use Rattle.ioam_delay_lines.specs.Picture.{drawn_more, drawn_text, drawn_to, lines_text, row_count, row_text, width_from, width_of}

-- at first a row is a bucket
pub width_first : (counter : Counter) → width_of counter ≡ width_from counter 8 1
unfolding width_of
width_first counter = refl

-- it is as wide as now, if there are no more than 16 lines
pub width_now : (counter : Counter) (left width : ℕ) → (drawn_to counter width (4096 / width)).lines ≤ 16 → width_from counter left width ≡ width
unfolding width_from
width_now counter zero width few = refl
width_now counter (suc left) width few = cond-true _ _ _ (le-leb _ _ few)

-- it is twice as wide, if there are more
pub width_more : (counter : Counter) (left width : ℕ) → 16 < (drawn_to counter width (4096 / width)).lines
    → width_from counter (suc left) width ≡ width_from counter left (2 * width)
unfolding width_from
width_more counter left width many = cond-false _ _ _ (lt-leb _ _ many)

-- and at last as it is
pub width_last : (counter : Counter) (width : ℕ) → width_from counter 0 width ≡ width
unfolding width_from
width_last counter width = refl

-- the lines of one row more
pub drawn_text_more : (counter : Counter) (width most row : ℕ)
    → drawn_text counter width most (row + 1)
    ≡ drawn_text counter width most row ++ lines_text width most (drawn_to counter width row).gap row (row_count counter width row)
drawn_text_more counter width most row =
    let one : row + 1 ≡ suc row = omega arith in
    ap (λ (rows : ℕ). drawn_text counter width most rows) one

-- and how many there are then
pub drawn_to_more : (counter : Counter) (width row : ℕ) → drawn_to counter width (row + 1) ≡ drawn_more (drawn_to counter width row) (row_count counter width row)
drawn_to_more counter width row =
    let one : row + 1 ≡ suc row = omega arith in
    ap (λ (rows : ℕ). drawn_to counter width rows) one

-- a row with delays has a line
pub lines_some : (width most row : ℕ) (gap : Bool) (count : ℕ) → 0 < count → lines_text width most gap row count ≡ row_text width most gap row count
lines_some width most row gap count some = cond-false _ _ _ (ne_eqb count 0 (λ is. absurd (omega (arith, some, is))))
