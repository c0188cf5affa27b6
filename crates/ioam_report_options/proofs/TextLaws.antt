-- Texts piece by piece.
use Rattle.std.proofs.Common.{◌≡◌, ℕ, List, ◌++◌, length, drop, append_assoc, ap, ◌∙◌, decimal, codes}
use Rattle.std.specs.Int.{w16, w32, to_be_bytes}
use Rattle.ioam_dex.specs.declared.direct.Direct.{Direct}
use Rattle.ioam_edge.specs.declared.edge.Edge.{Edge}
use Rattle.ioam_ip.specs.Options.{Item}
use Rattle.ioam_trace.specs.declared.head.TraceHead.{TraceHead}
use Rattle.ioam_line.specs.Digits.{digits_of}
use Rattle.ioam_report_lines.specs.FieldsText.{known}
use Rattle.ioam_report_lines.specs.Spaced.{when_there}
use Rattle.ioam_report_lines.specs.TraceText.{line_feed}
use Rattle.ioam_report_options.specs.OptionText.{head_text, edge_text, direct_text}

abbrev direct_pieces : ℕ → ℕ → ℕ → List ℕ → List ℕ → List ℕ
direct_pieces namespace kind flags flow seq = (codes "direct " ++ decimal namespace) ++ ((codes " " ++ digits_of (drop 1 (to_be_bytes w32 kind)))
    ++ ((codes " flags " ++ decimal flags) ++ (flow ++ (seq ++ line_feed))))

pub direct_by_pieces : (direct : Direct) (namespace kind flags : ℕ) (flow seq : List ℕ) → namespace ≡ direct.namespace.0 → kind ≡ direct.kind → flags ≡ direct.flags
    → flow ≡ when_there direct.flow (λ number. codes " flow=" ++ decimal number) → seq ≡ when_there direct.seq (λ number. codes " seq=" ++ decimal number)
    → direct_pieces namespace kind flags flow seq ≡ direct_text direct
unfolding direct_text
direct_by_pieces direct namespace kind flags flow seq n k f a b =
    ap (λ x. direct_pieces x kind flags flow seq) n
    ∙ ap (λ x. direct_pieces direct.namespace.0 x flags flow seq) k
    ∙ ap (λ x. direct_pieces direct.namespace.0 direct.kind x flow seq) f
    ∙ ap (λ x. direct_pieces direct.namespace.0 direct.kind direct.flags x seq) a
    ∙ ap (direct_pieces direct.namespace.0 direct.kind direct.flags (when_there direct.flow (λ number. codes " flow=" ++ decimal number))) b

abbrev edge_pieces : ℕ → List ℕ → List ℕ → List ℕ → List ℕ → List ℕ → List ℕ
edge_pieces namespace kind seq64 seq32 seconds fraction = (codes "edge " ++ decimal namespace) ++ ((codes " " ++ digits_of kind)
    ++ (seq64 ++ (seq32 ++ (seconds ++ (fraction ++ line_feed)))))

pub edge_by_pieces : (edge : Edge) (namespace : ℕ) (kind seq64 seq32 seconds fraction : List ℕ) → namespace ≡ edge.namespace.0 → kind ≡ to_be_bytes w16 edge.kind
    → seq64 ≡ when_there edge.seq64 (λ number. codes " seq64=" ++ decimal number) → seq32 ≡ when_there edge.seq32 (λ number. codes " seq32=" ++ decimal number)
    → seconds ≡ when_there edge.seconds (λ number. codes " sec=" ++ known 4294967295 number)
    → fraction ≡ when_there edge.fraction (λ number. codes " frac=" ++ known 4294967295 number)
    → edge_pieces namespace kind seq64 seq32 seconds fraction ≡ edge_text edge
unfolding edge_text
edge_by_pieces edge namespace kind seq64 seq32 seconds fraction n k a b c d =
    ap (λ x. edge_pieces x kind seq64 seq32 seconds fraction) n
    ∙ ap (λ x. edge_pieces edge.namespace.0 x seq64 seq32 seconds fraction) k
    ∙ ap (λ x. edge_pieces edge.namespace.0 (to_be_bytes w16 edge.kind) x seq32 seconds fraction) a
    ∙ ap (λ x. edge_pieces edge.namespace.0 (to_be_bytes w16 edge.kind) (when_there edge.seq64 (λ number. codes " seq64=" ++ decimal number)) x seconds fraction) b
    ∙ ap (λ x. edge_pieces edge.namespace.0 (to_be_bytes w16 edge.kind) (when_there edge.seq64 (λ number. codes " seq64=" ++ decimal number))
    (when_there edge.seq32 (λ number. codes " seq32=" ++ decimal number)) x fraction) c
    ∙ ap (edge_pieces edge.namespace.0 (to_be_bytes w16 edge.kind) (when_there edge.seq64 (λ number. codes " seq64=" ++ decimal number))
    (when_there edge.seq32 (λ number. codes " seq32=" ++ decimal number)) (when_there edge.seconds (λ number. codes " sec=" ++ known 4294967295 number))) d

-- how many options there are, in front of their lines
pub counted_by : (count : ℕ) (options : List Item) (lines : List ℕ) → count ≡ length options
    → (codes " options " ++ (decimal count ++ line_feed)) ++ lines ≡ codes " options " ++ (decimal (length options) ++ (line_feed ++ lines))
counted_by count options lines is =
    ap (λ (xs : List ℕ). codes " options " ++ xs) (append_assoc (decimal count) line_feed lines)
    ∙ ap (λ (n : ℕ). codes " options " ++ (decimal n ++ (line_feed ++ lines))) is

-- the header of a trace behind a label
abbrev head_pieces : List ℕ → ℕ → ℕ → ℕ → ℕ → List ℕ
head_pieces label namespace kind flags remaining = label ++ (decimal namespace ++ ((codes " " ++ digits_of (drop 1 (to_be_bytes w32 kind)))
    ++ ((codes " flags " ++ decimal flags) ++ ((codes " remaining " ++ decimal remaining) ++ line_feed))))

pub head_by_pieces : (head : TraceHead) (label : List ℕ) (namespace kind flags remaining : ℕ) → namespace ≡ head.namespace.0 → kind ≡ head.kind → flags ≡ head.flags
    → remaining ≡ head.remaining → head_pieces label namespace kind flags remaining ≡ label ++ head_text head
head_by_pieces head label namespace kind flags remaining n k f r =
    ap (λ x. head_pieces label x kind flags remaining) n
    ∙ ap (λ x. head_pieces label head.namespace.0 x flags remaining) k
    ∙ ap (λ x. head_pieces label head.namespace.0 head.kind x remaining) f
    ∙ ap (head_pieces label head.namespace.0 head.kind head.flags) r
