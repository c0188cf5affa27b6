-- Laws of lines that are put together from their end.
use Rattle.std.proofs.Common.{◌≡◌, List, ℕ, ◌∷◌, ◌++◌, append_assoc, sym, ap, ◌∙◌}
use Rattle.std.proofs.lemmas.List.Concat.{flat_map-append}
use Rattle.ioam_line.specs.declared.form.Form.{Form}
use Rattle.ioam_line.specs.Line.{Piece, piece_octets, pieces_octets, beginning, ending, line_octets}

-- pieces that were put before others
pub pieces-then : (form : Form) (pieces others : List Piece) (old between new : List ℕ) → between ≡ pieces_octets form others ++ old
    → new ≡ pieces_octets form pieces ++ between → new ≡ pieces_octets form (pieces ++ others) ++ old
pieces-then form pieces others old between new behind is =
    is
    ∙ ap (λ xs. pieces_octets form pieces ++ xs) behind
    ∙ sym (append_assoc (pieces_octets form pieces) (pieces_octets form others) old)
    ∙ ap (λ xs. xs ++ old) (sym (flat_map-append (piece_octets form) pieces others))

-- a piece that was put before others
pub piece-then : (form : Form) (piece : Piece) (others : List Piece) (old between new : List ℕ) → between ≡ pieces_octets form others ++ old
    → new ≡ piece_octets form piece ++ between → new ≡ pieces_octets form (piece ∷ others) ++ old
piece-then form piece others old between new behind is =
    is
    ∙ ap (λ xs. piece_octets form piece ++ xs) behind
    ∙ sym (append_assoc (piece_octets form piece) (pieces_octets form others) old)

-- a line between its beginning and its end
pub line-is : (form : Form) (kind : List ℕ) (pieces : List Piece) (last before whole : List ℕ) → last ≡ ending form
    → before ≡ pieces_octets form pieces ++ last → whole ≡ beginning form kind ++ before
    → whole ≡ line_octets form (record { kind = kind; pieces = pieces })
line-is form kind pieces last before whole ends is begins =
    begins ∙ ap (λ xs. beginning form kind ++ xs) (is ∙ ap (λ xs. pieces_octets form pieces ++ xs) ends)
