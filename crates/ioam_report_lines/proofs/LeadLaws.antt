-- An element has a word or more, and before each stands a space.
use Rattle.std.proofs.Common.{◌≡◌, ℕ, zero, suc, ◌+◌, ◌*◌, ◌/◌, ◌%◌, ◌<◌, Bool, true, false, List, [], ◌∷◌, ◌++◌, length, length-append, drop, codes, Option, Some, None, arith, refl, sym, ap, ◌∙◌}
use Rattle.std.specs.Bool.{if◌then◌else◌}
use Rattle.ioam_data.specs.Elements.{IsElement}
use Rattle.ioam_data.specs.Fields.{Held, fields_of}
use Rattle.ioam_data.specs.Kind.{has}
use Rattle.ioam_data.specs.Table.{table}
use Rattle.ioam_data.specs.Whole.{held_octets, snapshot_if}
use Rattle.ioam_report_lines.specs.FieldsText.{element_text}
use Rattle.ioam_report_lines.specs.Spaced.{bits_text, fillers_text, snapshot_text, spaced_fields}
use Rattle.ioam_report_lines.specs.TraceText.{line_feed, element_line}
use Rattle.ioam_report_lines.proofs.WordsLaws.{element_text_is}

-- these fields
abbrev made : Option (ℕ × ℕ) → Option (ℕ × ℕ) → Option ℕ → Option ℕ → Option ℕ → Option ℕ → Option ℕ → Option ℕ → Option (ℕ × ℕ) → Option (ℕ × ℕ)
    → Option ℕ → Option ℕ → List ℕ → Option (ℕ × List ℕ) → Held
made a b c d e f g h i j k l filler snapshot = record {
  hop_node = a;
  faces = b;
  seconds = c;
  fraction = d;
  delay = e;
  short = f;
  queue = g;
  check = h;
  wide_hop_node = i;
  wide_faces = j;
  wide = k;
  buffer = l;
  filler = filler;
  snapshot = snapshot;
}

-- octets in whole words, and some, begin with a space where they are printed
abbrev Leads : List ℕ → List ℕ → Type 0
Leads octets text = length octets % 4 ≡ 0 → 0 < length octets → text ≡ 32 ∷ drop 1 text

tail-leads : (n : ℕ) (filler : List ℕ) (snapshot : Option (ℕ × List ℕ)) → n ≡ length filler / 4
    → Leads (filler ++ snapshot_if snapshot) (fillers_text n filler ++ snapshot_text snapshot)
tail-leads (suc n) filler snapshot is whole some = refl
tail-leads zero filler (Some given) is whole some = refl
tail-leads zero filler None is whole some = absurd (omega (arith, is, whole, some, length-append filler []))

leads : (a b : Option (ℕ × ℕ)) (c d e f g h : Option ℕ) (i j : Option (ℕ × ℕ)) (k l : Option ℕ) (filler : List ℕ) (snapshot : Option (ℕ × List ℕ))
    → Leads (held_octets (made a b c d e f g h i j k l filler snapshot)) (spaced_fields (made a b c d e f g h i j k l filler snapshot))
unfolding spaced_fields bits_text table
leads (Some x) b c d e f g h i j k l filler snapshot whole some = refl
leads None (Some x) c d e f g h i j k l filler snapshot whole some = refl
leads None None (Some x) d e f g h i j k l filler snapshot whole some = refl
leads None None None (Some x) e f g h i j k l filler snapshot whole some = refl
leads None None None None (Some x) f g h i j k l filler snapshot whole some = refl
leads None None None None None (Some x) g h i j k l filler snapshot whole some = refl
leads None None None None None None (Some x) h i j k l filler snapshot whole some = refl
leads None None None None None None None (Some x) i j k l filler snapshot whole some = refl
leads None None None None None None None None (Some x) j k l filler snapshot whole some = refl
leads None None None None None None None None None (Some x) k l filler snapshot whole some = refl
leads None None None None None None None None None None (Some x) l filler snapshot whole some = refl
leads None None None None None None None None None None None (Some x) filler snapshot whole some = refl
leads None None None None None None None None None None None None filler snapshot whole some =
    tail-leads (length filler / 4) filler snapshot refl whole some

whole_words : (b : Bool) (n x : ℕ) → (4 * n + (if b then 4 + 4 * x else 0)) % 4 ≡ 0
whole_words true n x = omega arith
whole_words false n x = omega arith

-- the words of an element with a space before each
pub element_spaced : (kind node_len : ℕ) (octets : List ℕ) (held : Held) → held ≡ fields_of kind node_len octets → octets ≡ held_octets held
    → IsElement kind node_len octets → spaced_fields held ≡ 32 ∷ element_text kind node_len octets
element_spaced kind node_len octets held read is element =
    let whole : length octets % 4 ≡ 0 = ap (λ n. n % 4) (sym element.whole) ∙ whole_words (has kind 22) node_len _ in
    let filled : 0 < length octets = omega (arith, element.stands.filled, element.whole) in
    let some : octets ≡ [] → ⊥ = λ none. omega (arith, filled, ap length none) in
    leads held.hop_node held.faces held.seconds held.fraction held.delay held.short held.queue held.check held.wide_hop_node held.wide_faces held.wide
    held.buffer held.filler held.snapshot (ap (λ xs. length xs % 4) (sym is) ∙ whole) (omega (arith, filled, ap length is))
    ∙ ap (λ fields. 32 ∷ drop 1 (spaced_fields fields)) read
    ∙ ap (λ xs. 32 ∷ xs) (sym (element_text_is kind node_len octets some))

-- the line of an element, whose first space is the fourth
pub line-of : (kind node_len : ℕ) (octets spaced : List ℕ) → spaced ≡ 32 ∷ element_text kind node_len octets
    → codes "   " ++ (spaced ++ line_feed) ≡ element_line kind node_len octets
line-of kind node_len octets spaced is = ap (λ xs. codes "   " ++ (xs ++ line_feed)) is
