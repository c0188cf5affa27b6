-- Options that are laid out one after the other.
use Rattle.std.proofs.Common.{◌≡◌, ℕ, ◌+◌, ◌-◌, ◌<◌, ◌≤◌, Bool, true, false, get_or, List, [], ◌∷◌, ◌++◌, length, map, drop, sym, ap, ◌∙◌, subst, arith, append_assoc, length-append}
use Rattle.std.specs.List.{All}
use Rattle.std.proofs.lemmas.List.{append-nil, drop_all, drop_more}
use Rattle.std.proofs.lemmas.List.Elements.{All-nil, All-cons}
use Rattle.ioam_ip.specs.Laid.{Part, header_of, header_if, laid_with}
use Rattle.ioam_ip.specs.Layout.{padding, gap_before, with_option, finished}
use Rattle.ioam_ip.proofs.LayLaws.{laid_with-append, finished-laid}
use Rattle.ioam_ip.specs.Sizes.{options_end}
use Rattle.ioam_topo.specs.declared.traces.FlowTrace.{FlowTrace}
use Rattle.ioam_tunnel.specs.Enclosed.{room_of, has_parts}
use Rattle.ioam_tunnel.specs.Outer.{Writing, more, with_parts, behind}
use Rattle.ioam_tunnel.specs.Size.{trace_size}
use Rattle.ioam_tunnel.specs.Wire.{IsRoom, trace_parts, no_elements}
use Rattle.ioam_tunnel.proofs.OuterLaws.{length-padding, length-finished}

-- a header that is laid out where there are options
pub behind_there : (now writing : Writing) (next : ℕ) (parts : List Part) → has_parts parts ≡ true → now ≡ behind writing (header_of next parts)
    → now ≡ behind writing (header_if next parts)
behind_there now writing next [] is made = absurd (cc is)
behind_there now writing next (part ∷ parts) is made = made

pub room_there : (writing : Writing) (next : ℕ) (parts : List Part) → has_parts parts ≡ true → length (header_if next parts) ≤ writing.most
    → length (header_of next parts) ≤ writing.most
room_there writing next [] is room = absurd (cc is)
room_there writing next (part ∷ parts) is room = room

-- and none where there are none
pub behind_none : (writing : Writing) (next : ℕ) (parts : List Part) → has_parts parts ≡ false → writing.laid ≡ [] → writing ≡ behind writing (header_if next parts)
behind_none writing next [] is none =
    let left : writing.most ≡ writing.most - 0 = omega arith in
    λ i. record { front = sym (append-nil writing.front) i; laid = none i; most = left i }
behind_none writing next (part ∷ parts) is none = absurd (cc is)

-- what is laid out doesn't get shorter
pub laid_grows : (laid : List ℕ) (parts : List Part) → length laid ≤ length (laid_with laid parts)
laid_grows laid [] = omega arith
laid_grows laid (part ∷ parts) =
    omega (
      arith,
      laid_grows (with_option laid part.kind part.body) parts,
      length-append laid (padding (gap_before (length laid) part.kind) ++ (part.kind ∷ length part.body ∷ part.body)),
    )

-- ---- one option

abbrev pub opened : ℕ → ℕ → List ℕ → Part
opened kind option_type octets = record { kind = kind; body = 0 ∷ option_type ∷ octets }

pub length-option : (laid octets : List ℕ) (kind option_type : ℕ)
    → length (laid_with laid (opened kind option_type octets ∷ [])) ≡ length laid + gap_before (length laid) kind + 4 + length octets
length-option laid octets kind option_type =
    let gap = gap_before (length laid) kind in
    omega (
      arith,
      length-append laid (padding gap ++ (kind ∷ length (0 ∷ option_type ∷ octets) ∷ 0 ∷ option_type ∷ octets)),
      length-append (padding gap) (kind ∷ length (0 ∷ option_type ∷ octets) ∷ 0 ∷ option_type ∷ octets),
      length-padding gap,
    )

-- its type, the length of its data and the IOAM-Option-Type, and then the data
pub option-laid : (old begun now : Writing) (octets : List ℕ) (kind size option_type : ℕ) → length octets + 2 ≡ size
    → begun ≡ more old (padding (gap_before (length old.laid) kind) ++ (kind ∷ size ∷ 0 ∷ option_type ∷ [])) → now ≡ more begun octets
    → now ≡ with_parts old (opened kind option_type octets ∷ [])
option-laid old begun now octets kind size option_type is first second =
    let pad = padding (gap_before (length old.laid) kind) in
    let head = kind ∷ size ∷ 0 ∷ option_type ∷ [] in
    let long : size ≡ length (0 ∷ option_type ∷ octets) = omega (arith, is) in
    let laid : (old.laid ++ (pad ++ head)) ++ octets ≡ laid_with old.laid (opened kind option_type octets ∷ []) =
    append_assoc old.laid (pad ++ head) octets ∙ ap (λ xs. old.laid ++ xs) (append_assoc pad head octets)
    ∙ ap (λ n. old.laid ++ (pad ++ (kind ∷ n ∷ 0 ∷ option_type ∷ octets))) long in
    second ∙ ap (λ (w : Writing). more w octets) first ∙ (λ i. record { front = old.front; laid = laid i; most = old.most })

-- ---- one header

module _ (old begun : Writing) (next : ℕ) (first second : List Part) (none : old.laid ≡ []) (begun_is : begun ≡ more old (next ∷ 0 ∷ [])) where
  begun_laid : begun.laid ≡ next ∷ 0 ∷ []
  begun_laid = ap (λ (w : Writing). w.laid) begun_is ∙ ap (λ xs. xs ++ (next ∷ 0 ∷ [])) none

  all_laid : laid_with (laid_with begun.laid first) second ≡ laid_with (next ∷ 0 ∷ []) (first ++ second)
  all_laid = ap (λ xs. laid_with (laid_with xs first) second) begun_laid ∙ sym (laid_with-append (next ∷ 0 ∷ []) first second)

  all_finished : finished (laid_with (laid_with begun.laid first) second) ≡ header_of next (first ++ second)
  all_finished = ap (λ xs. finished xs) all_laid ∙ finished-laid next (first ++ second)

  -- the header as it is with the first options, and then with the others
  pub header-laid : (one both now : Writing) → one ≡ with_parts begun first → both ≡ with_parts one second → now ≡ behind both (finished both.laid)
      → now ≡ behind old (header_of next (first ++ second))
  header-laid one both now one_is both_is now_is =
      let whole : both ≡ with_parts (with_parts begun first) second = both_is ∙ ap (λ (w : Writing). with_parts w second) one_is in
      let front : begun.front ≡ old.front = ap (λ (w : Writing). w.front) begun_is in
      let most : begun.most ≡ old.most = ap (λ (w : Writing). w.most) begun_is in
      now_is ∙ ap (λ (w : Writing). behind w (finished w.laid)) whole
      ∙ (λ i. record { front = front i ++ all_finished i; laid = []; most = most i - length (all_finished i) })

  -- it has its first two octets, and as many octets may come to it as before
  pub laid-some : (one both : Writing) → one ≡ with_parts begun first → both ≡ with_parts one second → 2 ≤ length both.laid
  laid-some one both one_is both_is =
      omega (
        arith,
        ap (λ (w : Writing). length w.laid) (both_is ∙ ap (λ (w : Writing). with_parts w second) one_is),
        ap length begun_laid,
        laid_grows begun.laid first,
        laid_grows (laid_with begun.laid first) second,
      )

  pub most-kept : (one both : Writing) → one ≡ with_parts begun first → both ≡ with_parts one second → both.most ≡ old.most
  most-kept one both one_is both_is = ap (λ (w : Writing). w.most) both_is ∙ ap (λ (w : Writing). w.most) one_is ∙ ap (λ (w : Writing). w.most) begun_is

  module _ (room : length (header_of next (first ++ second)) ≤ old.most) where
    most_is : begun.most ≡ old.most
    most_is = ap (λ (w : Writing). w.most) begun_is

    -- there are octets for each step of it
    pub room-finished : (one both : Writing) → one ≡ with_parts begun first → both ≡ with_parts one second → length (finished both.laid) ≤ both.most
    room-finished one both one_is both_is =
        let whole : both ≡ with_parts (with_parts begun first) second = both_is ∙ ap (λ (w : Writing). with_parts w second) one_is in
        let laid : finished both.laid ≡ header_of next (first ++ second) = ap (λ (w : Writing). finished w.laid) whole ∙ all_finished in
        omega (arith, room, ap length laid, ap (λ (w : Writing). w.most) whole, most_is)

    room-both : length (laid_with (laid_with begun.laid first) second) ≤ old.most
    room-both = omega (arith, room, ap length all_finished, length-finished (laid_with (laid_with begun.laid first) second))

    pub room-second : (one : Writing) → one ≡ with_parts begun first → length (laid_with one.laid second) ≤ one.most
    room-second one one_is =
        omega (arith, room-both, ap (λ (w : Writing). length (laid_with w.laid second)) one_is, ap (λ (w : Writing). w.most) one_is, most_is)

    pub room-first : length (laid_with begun.laid first) ≤ begun.most
    room-first = omega (arith, room-both, laid_grows (laid_with begun.laid first) second, most_is)

abbrev pub has_traces : List FlowTrace → Bool
has_traces [] = false
has_traces (trace ∷ traces) = true

-- ---- the traces one after the other

module _ (traces : List FlowTrace) (i : ℕ) where
  module _ (x : FlowTrace) (inside : i < length traces) (is_x : x ≡ get_or traces i x) where
    cut : drop i traces ≡ x ∷ drop (i + 1) traces
    cut = drop_more traces i x inside ∙ ap (λ y. y ∷ drop (i + 1) traces) (sym is_x)

    abbrev others : List Part
    others = trace_parts (map room_of (drop (i + 1) traces)) no_elements

    abbrev one : List Part
    one = trace_parts (room_of x ∷ []) no_elements

    -- those from this one on are it and the others
    from-this : (writing : Writing) → with_parts writing (trace_parts (map room_of (drop i traces)) no_elements) ≡ with_parts (with_parts writing one) others
    from-this writing = ap (λ xs. with_parts writing (trace_parts (map room_of xs) no_elements)) cut

    pub traces-more : (writing now all : Writing) → now ≡ with_parts writing one
        → with_parts writing (trace_parts (map room_of (drop i traces)) no_elements) ≡ all → with_parts now others ≡ all
    traces-more writing now all is before = ap (λ (w : Writing). with_parts w others) is ∙ sym (from-this writing) ∙ before

    pub trace-room : (writing all : Writing) → with_parts writing (trace_parts (map room_of (drop i traces)) no_elements) ≡ all → length all.laid ≤ all.most
        → length (laid_with writing.laid one) ≤ writing.most
    trace-room writing all before room =
        let whole : with_parts (with_parts writing one) others ≡ all = sym (from-this writing) ∙ before in
        omega (arith, room, ap (λ (w : Writing). length w.laid) whole, ap (λ (w : Writing). w.most) whole, laid_grows (laid_with writing.laid one) others)

    pub rooms-more : IsRoom (room_of x) → (All IsRoom (map room_of (drop i traces)) → All IsRoom (map room_of traces))
        → All IsRoom (map room_of (drop (i + 1) traces)) → All IsRoom (map room_of traces)
    rooms-more is before others =
        before (subst (λ xs. All IsRoom (map room_of xs)) (sym cut) (All-cons IsRoom (room_of x) (map room_of (drop (i + 1) traces)) is others))

    pub end-more : (size now all : ℕ) → now ≡ options_end size (trace_size x ∷ []) → options_end size (map trace_size (drop i traces)) ≡ all
        → options_end now (map trace_size (drop (i + 1) traces)) ≡ all
    end-more size now all is before =
        ap (λ n. options_end n (map trace_size (drop (i + 1) traces))) is
        ∙ ap (λ xs. options_end size (map trace_size xs)) (sym cut) ∙ before

  pub traces-all : (writing all : Writing) → length traces ≤ i → with_parts writing (trace_parts (map room_of (drop i traces)) no_elements) ≡ all → writing ≡ all
  traces-all writing all past before = ap (λ xs. with_parts writing (trace_parts (map room_of xs) no_elements)) (sym (drop_all i traces past)) ∙ before

  pub rooms-all : length traces ≤ i → (All IsRoom (map room_of (drop i traces)) → All IsRoom (map room_of traces)) → All IsRoom (map room_of traces)
  rooms-all past before = before (subst (λ xs. All IsRoom (map room_of xs)) (sym (drop_all i traces past)) (All-nil IsRoom))

  pub end-all : (size all : ℕ) → length traces ≤ i → options_end size (map trace_size (drop i traces)) ≡ all → size ≡ all
  end-all size all past before = ap (λ xs. options_end size (map trace_size xs)) (sym (drop_all i traces past)) ∙ before
