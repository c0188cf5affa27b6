-- Laws of what a node changes in the options of a packet, notes of them and exports.
use Rattle.std.proofs.Common.{◌≡◌, ℕ, ◌-◌, ◌<◌, ◌≤◌, Bool, true, false, cond, eqb, leb, ◌&&◌, List, [], ◌∷◌, ◌++◌, length, take, drop, slice_index, refl, sym, ap, ◌∙◌, arith, length-append, length-take, length-drop}
use Rattle.std.proofs.lemmas.Bool.Decides.{nat_tests}
use Rattle.std.proofs.lemmas.List.{append-nil, drop_all, take_all, take-append-drop}
use borrow.Rule.Slice.PartMut.{put_mid}
use Rattle.ioam_base.specs.Octets.{u16_at}
use Rattle.ioam_clock.specs.declared.sample.Sample.{Sample}
use Rattle.ioam_data.specs.Kind.{words}
use Rattle.ioam_data.specs.View.{Seen}
use Rattle.ioam_data.specs.Written.{element_of}
use Rattle.ioam_ip.specs.Findings.{is_ioam_type}
use Rattle.ioam_ip.specs.Hop.{ioam_count}
use Rattle.ioam_ip.specs.Options.{Item}
use Rattle.ioam_node.specs.declared.place.Place.{Place}
use Rattle.ioam_topo.specs.declared.domain.Domain.{Domain}
use Rattle.ioam_trace.specs.Data.{trace_data, area, is_over, free_words, CanHold}
use Rattle.ioam_trace.specs.Filled.{filled}
use Rattle.ioam_trace.proofs.FilledLaws.{length-filled, filled-trace}
use Rattle.ioam_trace.proofs.HeadLaws.{namespace-header, length-header}
use Rattle.ioam_node_visit.specs.declared.met.Met.{Met}
use Rattle.ioam_node_visit.specs.declared.met.Met.TheVariants.{Cut, Trace, Direct, Other}
use Rattle.ioam_node_visit.specs.Counted.{notes_in}
use Rattle.ioam_node_visit.specs.Exports.{records_by, records_of}
use Rattle.ioam_node_visit.specs.Met.{met_of}
use Rattle.ioam_node_visit.specs.Notes.{notes_by, notes_of}
use Rattle.ioam_node_visit.specs.Seeing.{view_of}
use Rattle.ioam_node_visit.specs.Step.{knows, space_in, trace_step, step_by, node_step}
use Rattle.ioam_node_visit.proofs.SeeingLaws.{view_of-right}

le_true : (m n : ℕ) → m ≤ n → leb m n ≡ true
le_true m n is = grind (arith, nat_tests)

true_le : (m n : ℕ) → leb m n ≡ true → m ≤ n
true_le m n is = grind (arith, nat_tests)

-- a trace names its namespace
namespace-trace : (namespace kind capacity : ℕ) (es : List (List ℕ)) → namespace < 65536 → u16_at (trace_data namespace kind capacity es) 0 ≡ namespace
unfolding trace_data
namespace-trace namespace kind capacity es below =
    namespace-header namespace (words kind) (cond (is_over capacity es) 8 0) (free_words capacity es) kind 0 (area capacity es) below

long-trace : (namespace kind capacity : ℕ) (es : List (List ℕ)) → 8 ≤ length (trace_data namespace kind capacity es)
unfolding trace_data
long-trace namespace kind capacity es =
    omega (arith, length-header namespace (words kind) (cond (is_over capacity es) 8 0) (free_words capacity es) kind 0 (area capacity es))

-- what follows the first two octets, written anew
put-rest : (body part : List ℕ) → put_mid 2 (length body - 2) body part ≡ take 2 body ++ part
put-rest body part =
    ap (λ xs. take 2 body ++ (part ++ xs)) (drop_all (length body - 2) (drop 2 body) (omega (arith, length-drop 2 body)))
    ∙ ap (λ xs. take 2 body ++ xs) (append-nil part)

rest_whole : (body : List ℕ) → take (length body - 2) (drop 2 body) ≡ drop 2 body
rest_whole body = take_all (length body - 2) (drop 2 body) (omega (arith, length-drop 2 body))

put_known : (known : Bool) (body part filling : List ℕ) → part ≡ cond known filling (drop 2 body)
    → put_mid 2 (length body - 2) body part ≡ cond known (take 2 body ++ filling) body
put_known true body part filling is = put-rest body part ∙ ap (λ xs. take 2 body ++ xs) is
put_known false body part filling is = put-rest body part ∙ ap (λ xs. take 2 body ++ xs) is ∙ take-append-drop 2 body

-- ---- what an option is

-- an option of type 0x31 with the IOAM-Option-Type 0 is a trace
met-trace : (old : List ℕ) → met_of 0x31 (0 ∷ 0 ∷ old) ≡ Trace
unfolding met_of
met-trace old = ap (λ b. cond b Trace Cut) (le_true 2 (length (0 ∷ 0 ∷ old)) (omega arith))

-- what an option is, by its tests
abbrev pub by_bits : Bool → Bool → Bool → Bool → Bool → Met
by_bits ioam long zero changing four = cond ioam (cond long (cond zero (cond changing Trace Other) (cond four Direct Other)) Cut) Other

module _ (domain : Domain) (readings : List (List Sample)) (place : Place) (time hops : ℕ) where
  abbrev view : ℕ → Seen
  view space = view_of domain readings place time hops space

  -- a trace that is filled where it stands
  pub trace-put : (body part : List ℕ) → 10 ≤ length body
      → part ≡ cond (knows domain place.node.0 (space_in body)) (filled (take (length body - 2) (drop 2 body)) (view (space_in body))) (take (length body - 2) (drop 2 body))
      → put_mid 2 (length body - 2) body part ≡ trace_step domain readings place time hops body
  unfolding trace_step
  trace-put body part ten is =
      let known = knows domain place.node.0 (space_in body) in
      let filling = filled (drop 2 body) (view (space_in body)) in
      put_known known body part filling (is ∙ ap (λ xs. cond known (filled xs (view (space_in body))) xs) (rest_whole body))
      ∙ ap (λ b. cond (b && known) (take 2 body ++ filling) body) (sym (le_true 10 (length body) ten))

  -- ---- the length stays

  long_by : (b k : Bool) (body filling : List ℕ) → (b ≡ true → 10 ≤ length body) → length filling ≡ length (drop 2 body)
      → length (cond (b && k) (take 2 body ++ filling) body) ≡ length body
  long_by true true body filling long same =
      let ten = long refl in
      omega (arith, same, length-append (take 2 body) filling, length-take 2 body, length-drop 2 body)
  long_by true false body filling long same = refl
  long_by false k body filling long same = refl

  length-trace_step : (body : List ℕ) → length (trace_step domain readings place time hops body) ≡ length body
  unfolding trace_step
  length-trace_step body =
      long_by (leb 10 (length body)) (knows domain place.node.0 (space_in body)) body (filled (drop 2 body) (view (space_in body)))
      (true_le 10 (length body)) (length-filled (drop 2 body) (view (space_in body)) (view_of-right domain readings place time hops (space_in body)))

  length_by : (met : Met) (body : List ℕ) → length (step_by domain readings place time hops met body) ≡ length body
  length_by Cut body = refl
  length_by Trace body = length-trace_step body
  length_by Direct body = refl
  length_by Other body = refl

  pub length-step : (kind : ℕ) (body : List ℕ) → length (node_step domain readings place time hops kind body) ≡ length body
  unfolding node_step
  length-step kind body = length_by (met_of kind body) body

  -- ---- an option that may not change on the way stays

  other_by : (a b t k d : Bool) (body : List ℕ) → k ≡ false → step_by domain readings place time hops (by_bits a b t k d) body ≡ body
  other_by true true true true d body is = absurd (cc is)
  other_by true true true false d body is = refl
  other_by true true false k true body is = refl
  other_by true true false k false body is = refl
  other_by true false t k d body is = refl
  other_by false b t k d body is = refl

  pub step-other : (kind : ℕ) (body : List ℕ) → eqb kind 0x31 ≡ false → node_step domain readings place time hops kind body ≡ body
  unfolding node_step met_of
  step-other kind body is =
      other_by (is_ioam_type kind) (leb 2 (length body)) (eqb (slice_index body 1) 0) (eqb kind 0x31) (eqb (slice_index body 1) 4) body is

  -- ---- a trace gets one element more where the node knows its namespace, and else stays

  abbrev changed : ℕ → ℕ → ℕ → Bool → List (List ℕ) → List (List ℕ)
  changed namespace kind capacity known es = es ++ cond known (element_of kind (words kind) (view namespace) ∷ []) []

  by_known : (namespace kind capacity : ℕ) (es : List (List ℕ)) → CanHold namespace kind capacity es → (known : Bool)
      → cond known (0 ∷ 0 ∷ filled (trace_data namespace kind capacity es) (view namespace)) (0 ∷ 0 ∷ trace_data namespace kind capacity es)
      ≡ 0 ∷ 0 ∷ trace_data namespace kind capacity (changed namespace kind capacity known es)
  by_known namespace kind capacity es holds true =
      ap (λ xs. 0 ∷ 0 ∷ xs) (filled-trace namespace kind capacity es (view namespace) holds (view_of-right domain readings place time hops namespace))
  by_known namespace kind capacity es holds false = ap (λ xs. 0 ∷ 0 ∷ trace_data namespace kind capacity xs) (nil_behind es) where
    nil_behind : (xs : List (List ℕ)) → xs ≡ xs ++ []
    nil_behind [] = refl
    nil_behind (x ∷ xs) = ap (λ ys. x ∷ ys) (nil_behind xs)

  trace_step-trace : (namespace kind capacity : ℕ) (es : List (List ℕ)) → CanHold namespace kind capacity es
      → trace_step domain readings place time hops (0 ∷ 0 ∷ trace_data namespace kind capacity es)
      ≡ 0 ∷ 0 ∷ trace_data namespace kind capacity (changed namespace kind capacity (knows domain place.node.0 namespace) es)
  unfolding trace_step
  trace_step-trace namespace kind capacity es holds =
      let old = trace_data namespace kind capacity es in
      let body = 0 ∷ 0 ∷ old in
      let ten : leb 10 (length body) ≡ true = le_true 10 (length body) (omega (arith, long-trace namespace kind capacity es)) in
      let space : space_in body ≡ namespace = namespace-trace namespace kind capacity es holds.namespace_below in
      (λ i. cond (ten i && knows domain place.node.0 (space i)) (0 ∷ 0 ∷ filled old (view (space i))) body)
      ∙ by_known namespace kind capacity es holds (knows domain place.node.0 namespace)

  pub step-trace : (namespace kind capacity : ℕ) (es : List (List ℕ)) → CanHold namespace kind capacity es
      → node_step domain readings place time hops 0x31 (0 ∷ 0 ∷ trace_data namespace kind capacity es)
      ≡ 0 ∷ 0 ∷ trace_data namespace kind capacity (changed namespace kind capacity (knows domain place.node.0 namespace) es)
  unfolding node_step
  step-trace namespace kind capacity es holds =
      let body = 0 ∷ 0 ∷ trace_data namespace kind capacity es in
      ap (λ m. step_by domain readings place time hops m body) (met-trace (trace_data namespace kind capacity es))
      ∙ trace_step-trace namespace kind capacity es holds

  -- ---- notes and records

  -- an option has one note at most, and none if it is no IOAM option
  few_by : (a b t k d : Bool) (body : List ℕ) → length (notes_by domain readings place time hops (by_bits a b t k d) body) ≤ cond a 1 0
  few_by true true true true d body = omega arith
  few_by true true true false d body = omega arith
  few_by true true false k true body = omega arith
  few_by true true false k false body = omega arith
  few_by true false t k d body = omega arith
  few_by false b t k d body = omega arith

  pub notes_few : (kind : ℕ) (body : List ℕ) → length (notes_of domain readings place time hops kind body) ≤ cond (is_ioam_type kind) 1 0
  unfolding notes_of met_of
  notes_few kind body =
      few_by (is_ioam_type kind) (leb 2 (length body)) (eqb (slice_index body 1) 0) (eqb kind 0x31) (eqb (slice_index body 1) 4) body

  pub notes_in_few : (items : List Item) → length (notes_in (notes_of domain readings place time hops) items) ≤ ioam_count items
  notes_in_few [] = omega arith
  notes_in_few (item ∷ items) =
      omega (arith, notes_few item.kind item.body, notes_in_few items, length-append (notes_of domain readings place time hops item.kind item.body) (notes_in (notes_of domain readings place time hops) items))

  -- a trace gives no record
  pub records-trace : (old : List ℕ) → records_of domain readings place time hops 0x31 (0 ∷ 0 ∷ old) ≡ []
  unfolding records_of
  records-trace old = ap (λ m. records_by domain readings place time hops m (0 ∷ 0 ∷ old)) (met-trace old)
