-- What a node notes, by the options' octets, is what its notes are as a function, and nothing else is.
use Rattle.std.proofs.Common.{◌≡◌, inl, inr, ℕ, ◌<◌, ◌≤◌, ◌⊎◌, Bool, true, false, cond, eqb, leb, ltb, MatchBool, List, [], ◌∷◌, ◌++◌, length, slice_index, refl, sym, ap, ◌∙◌, subst, arith}
use Rattle.std.specs.Prelude.{Ok, Err}
use Rattle.ioam_base.specs.Octets.{u16_at}
use Rattle.ioam_clock.specs.declared.sample.Sample.{Sample}
use Rattle.ioam_data.specs.View.{Seen}
use Rattle.ioam_dex.specs.Direct.{direct_at, wanted}
use Rattle.ioam_dex.specs.declared.direct.DirectFault.TheVariants.{Short}
use Rattle.ioam_ip.specs.Findings.{is_ioam_type}
use Rattle.ioam_ip.specs.Options.{Item}
use Rattle.ioam_node.specs.declared.place.Place.{Place}
use Rattle.ioam_topo.specs.declared.domain.Domain.{Domain}
use Rattle.ioam_trace.specs.Filled.{answer_of, filled}
use Rattle.ioam_trace.specs.Filling.{Filling}
use Rattle.ioam_trace.specs.declared.addition.Filled.{Filled}
use Rattle.ioam_trace.proofs.FilledLaws.{Filling-filled, answer-Filling}
use Rattle.ioam_node_visit.specs.Counted.{notes_in}
use Rattle.ioam_node_visit.specs.Exported.{data_of, size_of}
use Rattle.ioam_node_visit.specs.Met.{met_of}
use Rattle.ioam_node_visit.specs.Noted.{AreNotes, GivesNote, IsDirect, IsNote, IsShort, IsTrace}
use Rattle.ioam_node_visit.specs.Notes.{direct_note, filled_what, note, notes_by, notes_of, short_note, trace_note, what_done}
use Rattle.ioam_node_visit.specs.Seeing.{view_of}
use Rattle.ioam_node_visit.specs.Step.{knows, space_in}
use Rattle.ioam_node_visit.specs.declared.note.NodeNote.{NodeNote}
use Rattle.ioam_node_visit.specs.declared.note.What.{What}
use Rattle.ioam_node_visit.specs.declared.note.What.TheVariants as what
use Rattle.ioam_node_visit.proofs.ExportedLaws.{ioam_type, no_ioam, short_not, whole_is}
use Rattle.ioam_node_visit.proofs.StepLaws.{by_bits}
use Rattle.ioam_node_visit.proofs.TestsLaws.{false_is, false_le, false_lt, true_is, true_le, true_lt}

-- direct export data that end early are fewer than their flags ask for
less_is : (octets : List ℕ) → length octets < wanted octets → length octets < size_of octets
less_is octets short = by_test (leb (size_of octets) (length octets)) refl where
  by_test : (b : Bool) → leb (size_of octets) (length octets) ≡ b → length octets < size_of octets
  by_test true is = absurd (short_not octets short (true_le (size_of octets) (length octets) is))
  by_test false is = false_le (size_of octets) (length octets) is

module _ (item : Item) where
  trace_not_direct : IsTrace item → slice_index item.body 1 ≡ 4 → ⊥
  trace_not_direct trace four = let zero = trace.trace in omega (arith, zero, four)

  -- ---- an option that gives none

  other_kind : is_ioam_type item.kind ≡ false → GivesNote item → ⊥
  other_kind is (inl cut) = no_ioam item.kind is cut.type
  other_kind is (inr (inl trace)) = no_ioam item.kind is (inr trace.type)
  other_kind is (inr (inr direct)) = no_ioam item.kind is direct.type

  still_trace : 2 ≤ length item.body → (item.kind ≡ 0x31 → ⊥) → slice_index item.body 1 ≡ 0 → GivesNote item → ⊥
  still_trace long other zero (inl cut) = let short = cut.cut in omega (arith, long, short)
  still_trace long other zero (inr (inl trace)) = other trace.type
  still_trace long other zero (inr (inr direct)) = let four = direct.direct in omega (arith, zero, four)

  other_type : 2 ≤ length item.body → (slice_index item.body 1 ≡ 0 → ⊥) → (slice_index item.body 1 ≡ 4 → ⊥) → GivesNote item → ⊥
  other_type long not_zero not_four (inl cut) = let short = cut.cut in omega (arith, long, short)
  other_type long not_zero not_four (inr (inl trace)) = not_zero trace.trace
  other_type long not_zero not_four (inr (inr direct)) = not_four direct.direct

  short_gives : IsShort item → GivesNote item
  short_gives (inl cut) = inl cut
  short_gives (inr (inl trace)) = inr (inl trace.0)
  short_gives (inr (inr direct)) = inr (inr direct.0)

  short_no_trace : IsShort item → IsTrace item → 10 ≤ length item.body → ⊥
  short_no_trace (inl cut) trace header = let short = cut.cut in omega (arith, short, header)
  short_no_trace (inr (inl short)) trace header = let less = short.1 in omega (arith, less, header)
  short_no_trace (inr (inr direct)) trace header = trace_not_direct trace direct.0.direct

  short_no_direct : IsShort item → IsDirect item → size_of (data_of item) ≤ length (data_of item) → ⊥
  short_no_direct (inl cut) direct whole = let short = cut.cut in let long = direct.begins in omega (arith, short, long)
  short_no_direct (inr (inl trace)) direct whole = trace_not_direct trace.0 direct.direct
  short_no_direct (inr (inr short)) direct whole = let less = short.1 in omega (arith, less, whole)

module _ (domain : Domain) (readings : List (List Sample)) (place : Place) (time hops : ℕ) where
  abbrev Is : Item → NodeNote → Type 0
  Is item x = IsNote domain readings place time hops item x

  abbrev view : ℕ → Seen
  view space = view_of domain readings place time hops space

  note_gives : (item : Item) (x : NodeNote) → Is item x → GivesNote item
  note_gives item x (inl short) = short_gives item short.0
  note_gives item x (inr (inl trace)) = inr (inl trace.trace)
  note_gives item x (inr (inr direct)) = inr (inr direct.export)

  -- ---- one note alone

  one_done : (space : ℕ) (octets : List ℕ) (v w : What) (b : Bool)
      → MatchBool b ((answer : Filled) × (new : List ℕ) × Filling octets (view space) new answer × (v ≡ what_done answer)) (v ≡ what.Unknown)
      → MatchBool b ((answer : Filled) × (new : List ℕ) × Filling octets (view space) new answer × (w ≡ what_done answer)) (w ≡ what.Unknown) → v ≡ w
  one_done space octets v w true x y =
      x.3 ∙ ap what_done (sym (answer-Filling octets (view space) x.1 x.0 x.2) ∙ answer-Filling octets (view space) y.1 y.0 y.2) ∙ sym y.3
  one_done space octets v w false x y = x ∙ sym y

  one_sent : (v w : What) (b : Bool) → MatchBool b (v ≡ what.Exported) (v ≡ what.Unknown) → MatchBool b (w ≡ what.Exported) (w ≡ what.Unknown) → v ≡ w
  one_sent v w true x y = x ∙ sym y
  one_sent v w false x y = x ∙ sym y

  same_note : (x y : NodeNote) → x.namespace.0 ≡ y.namespace.0 → x.direct ≡ y.direct → x.what ≡ y.what → x ≡ y
  same_note x y space direct done = λ i. record { namespace = record { 0 = space i }; direct = direct i; what = done i }

  one_note : (item : Item) (x y : NodeNote) → Is item x → Is item y → x ≡ y
  one_note item x y (inl a) (inl b) = a.1 ∙ sym b.1
  one_note item x y (inl a) (inr (inl b)) = absurd (short_no_trace item a.0 b.trace b.header)
  one_note item x y (inl a) (inr (inr b)) = absurd (short_no_direct item a.0 b.export b.whole)
  one_note item x y (inr (inl a)) (inl b) = absurd (short_no_trace item b.0 a.trace a.header)
  one_note item x y (inr (inl a)) (inr (inl b)) = same_note x y (a.namespace ∙ sym b.namespace) (a.not_direct ∙ sym b.not_direct)
      (one_done (u16_at item.body 2) (data_of item) x.what y.what (knows domain place.node.0 (u16_at item.body 2)) a.done b.done)
  one_note item x y (inr (inl a)) (inr (inr b)) = absurd (trace_not_direct item a.trace b.export.direct)
  one_note item x y (inr (inr a)) (inl b) = absurd (short_no_direct item b.0 a.export a.whole)
  one_note item x y (inr (inr a)) (inr (inl b)) = absurd (trace_not_direct item b.trace a.export.direct)
  one_note item x y (inr (inr a)) (inr (inr b)) = same_note x y (a.namespace ∙ sym b.namespace) (a.is_direct ∙ sym b.is_direct)
      (one_sent x.what y.what (knows domain place.node.0 (u16_at (data_of item) 0)) a.done b.done)

  -- ---- the note of one option

  abbrev notes : Item → List NodeNote
  notes item = notes_of domain readings place time hops item.kind item.body

  -- an option gives a note, or none
  abbrev Gives : Item → Type 0
  Gives item = ((GivesNote item → ⊥) × (notes item ≡ [])) ⊎ ((x : NodeNote) × Is item x × (notes item ≡ x ∷ []))

  done_is : (space : ℕ) (octets : List ℕ) (b : Bool)
      → MatchBool b ((answer : Filled) × (new : List ℕ) × Filling octets (view space) new answer × (cond b (what_done (answer_of octets (view space))) what.Unknown ≡ what_done answer))
      (cond b (what_done (answer_of octets (view space))) what.Unknown ≡ what.Unknown)
  done_is space octets true = (answer_of octets (view space), filled octets (view space), Filling-filled octets (view space), refl)
  done_is space octets false = refl

  sent_is : (b : Bool) → MatchBool b (cond b what.Exported what.Unknown ≡ what.Exported) (cond b what.Exported what.Unknown ≡ what.Unknown)
  sent_is true = refl
  sent_is false = refl

  module _ (item : Item) where
    abbrev octets : List ℕ
    octets = data_of item

    abbrev by_met : Bool → Bool → Bool → Bool → Bool → List NodeNote
    by_met a b t k d = notes_by domain readings place time hops (by_bits a b t k d) item.body

    -- the note of a trace whose header is there or isn't
    abbrev by_header : Bool → List NodeNote
    by_header e = cond e (note (space_in item.body) false (filled_what domain readings place time hops (space_in item.body) octets)) short_note ∷ []

    abbrev by_read : Bool → List NodeNote
    by_read s = direct_note domain place.node.0 (cond s (Err (Short (length octets) (wanted octets))) (Ok (direct_at octets))) ∷ []

    met_is : (a b t k d : Bool) → is_ioam_type item.kind ≡ a → leb 2 (length item.body) ≡ b → eqb (slice_index item.body 1) 0 ≡ t
        → eqb item.kind 0x31 ≡ k → eqb (slice_index item.body 1) 4 ≡ d → notes item ≡ by_met a b t k d
    unfolding notes_of met_of
    met_is a b t k d ea eb et ek ed = λ i. by_met (ea i) (eb i) (et i) (ek i) (ed i)

    header_is : (e : Bool) → leb 10 (length item.body) ≡ e → trace_note domain readings place time hops item.body ∷ [] ≡ by_header e
    unfolding trace_note
    header_is e ee = ap by_header ee

    read_is : (s : Bool) → ltb (length octets) (wanted octets) ≡ s → by_read (ltb (length octets) (wanted octets)) ≡ by_read s
    read_is s es = ap by_read es

    module _ (a : is_ioam_type item.kind ≡ true) (long : 2 ≤ length item.body) where
      of_trace : item.kind ≡ 0x31 → slice_index item.body 1 ≡ 0 → (e : Bool) → leb 10 (length item.body) ≡ e
          → notes item ≡ trace_note domain readings place time hops item.body ∷ [] → Gives item
      of_trace kind zero true ee is = inr (
        note (space_in item.body) false (filled_what domain readings place time hops (space_in item.body) octets),
        inr (inl (record {
          trace = record { type = kind; begins = long; trace = zero };
          header = true_le 10 (length item.body) ee;
          namespace = refl;
          not_direct = refl;
          done = done_is (u16_at item.body 2) octets (knows domain place.node.0 (u16_at item.body 2));
        })),
        is ∙ header_is true ee,
      )
      of_trace kind zero false ee is = inr (
        short_note,
        inl (inr (inl (record { type = kind; begins = long; trace = zero }, false_le 10 (length item.body) ee)), refl),
        is ∙ header_is false ee,
      )

      of_direct : slice_index item.body 1 ≡ 4 → (s : Bool) → ltb (length octets) (wanted octets) ≡ s
          → notes item ≡ by_read (ltb (length octets) (wanted octets)) → Gives item
      of_direct four true es is = inr (
        short_note,
        inl (inr (inr (record { type = ioam_type item.kind a; begins = long; direct = four }, less_is octets (true_lt (length octets) (wanted octets) es))), refl),
        is ∙ read_is true es,
      )
      of_direct four false es is = inr (
        note (u16_at octets 0) true (cond (knows domain place.node.0 (u16_at octets 0)) what.Exported what.Unknown),
        inr (inr (record {
          export = record { type = ioam_type item.kind a; begins = long; direct = four };
          whole = whole_is octets (false_lt (length octets) (wanted octets) es);
          namespace = refl;
          is_direct = refl;
          done = sent_is (knows domain place.node.0 (u16_at octets 0));
        })),
        is ∙ read_is false es,
      )

    by_tests : (a b t k d : Bool) → is_ioam_type item.kind ≡ a → leb 2 (length item.body) ≡ b → eqb (slice_index item.body 1) 0 ≡ t
        → eqb item.kind 0x31 ≡ k → eqb (slice_index item.body 1) 4 ≡ d → Gives item
    by_tests false b t k d ea eb et ek ed = inl (other_kind item ea, met_is false b t k d ea eb et ek ed)
    by_tests true false t k d ea eb et ek ed =
        inr (short_note, inl (inl (record { type = ioam_type item.kind ea; cut = false_le 2 (length item.body) eb }), refl), met_is true false t k d ea eb et ek ed)
    by_tests true true true true d ea eb et ek ed =
        of_trace ea (true_le 2 (length item.body) eb) (true_is item.kind 0x31 ek) (true_is (slice_index item.body 1) 0 et) (leb 10 (length item.body)) refl
        (met_is true true true true d ea eb et ek ed)
    by_tests true true true false d ea eb et ek ed = inl (
      still_trace item (true_le 2 (length item.body) eb) (false_is item.kind 0x31 ek) (true_is (slice_index item.body 1) 0 et),
      met_is true true true false d ea eb et ek ed,
    )
    by_tests true true false k true ea eb et ek ed =
        of_direct ea (true_le 2 (length item.body) eb) (true_is (slice_index item.body 1) 4 ed) (ltb (length octets) (wanted octets)) refl
        (met_is true true false k true ea eb et ek ed)
    by_tests true true false k false ea eb et ek ed = inl (
      other_type item (true_le 2 (length item.body) eb) (false_is (slice_index item.body 1) 0 et) (false_is (slice_index item.body 1) 4 ed),
      met_is true true false k false ea eb et ek ed,
    )

  gives : (item : Item) → Gives item
  gives item =
      by_tests item (is_ioam_type item.kind) (leb 2 (length item.body)) (eqb (slice_index item.body 1) 0) (eqb item.kind 0x31)
      (eqb (slice_index item.body 1) 4) refl refl refl refl refl

  -- ---- all options

  abbrev all : List Item → List NodeNote
  all items = notes_in (notes_of domain readings place time hops) items

  pub notes-are : (items : List Item) → AreNotes domain readings place time hops items (all items)
  notes-are [] = refl
  notes-are (item ∷ items) = by_case (gives item) (notes-are items) where
    by_case : Gives item → AreNotes domain readings place time hops items (all items) → AreNotes domain readings place time hops (item ∷ items) (all (item ∷ items))
    by_case (inl none) rest =
        let P : List NodeNote → Type 0 = λ xs. AreNotes domain readings place time hops items (xs ++ all items) in
        inl (none.0, subst P (sym none.1) rest)
    by_case (inr one) rest = inr (one.0, all items, ap (λ xs. xs ++ all items) one.2, one.1, rest)

  pub notes-only : (items : List Item) (xs : List NodeNote) → AreNotes domain readings place time hops items xs → xs ≡ all items
  notes-only [] xs are = are
  notes-only (item ∷ items) xs are = by_case are (gives item) (λ ys rest. notes-only items ys rest) where
    by_case : AreNotes domain readings place time hops (item ∷ items) xs → Gives item
        → ((ys : List NodeNote) → AreNotes domain readings place time hops items ys → ys ≡ all items) → xs ≡ all (item ∷ items)
    by_case (inl not) (inl none) only = only xs not.1 ∙ sym (ap (λ ys. ys ++ all items) none.1)
    by_case (inl not) (inr one) only = absurd (not.0 (note_gives item one.0 one.1))
    by_case (inr some) (inl none) only = absurd (none.0 (note_gives item some.0 some.3))
    by_case (inr some) (inr one) only =
        let first = one_note item some.0 one.0 some.3 one.1 in
        let others = only some.1 some.4 in
        some.2 ∙ (λ i. first i ∷ others i) ∙ sym (ap (λ ys. ys ++ all items) one.2)
