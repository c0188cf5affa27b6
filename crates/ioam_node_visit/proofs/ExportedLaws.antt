-- What a node exports, by the places of the options' fields, is what its records are as a function, and nothing else is.
use Rattle.std.proofs.Common.{◌≡◌, inl, inr, ℕ, zero, suc, ◌+◌, ◌-◌, ◌*◌, ◌/◌, ◌%◌, ◌<◌, ◌≤◌, ◌⊎◌, ◌||◌, Bool, true, false, cond, eqb, leb, ltb, List, [], ◌∷◌, ◌++◌, length, slice_index, refl, sym, ap, ◌∙◌, subst, arith, length-drop}
use Rattle.std.specs.Prelude.{Ok, Err}
use Rattle.ioam_base.specs.Octets.{u16_at, u24_at}
use Rattle.ioam_clock.specs.declared.sample.Sample.{Sample}
use Rattle.ioam_data.specs.Kind.{has, words}
use Rattle.ioam_data.specs.Written.{element_of}
use Rattle.ioam_dex.specs.Direct.{direct_at, wanted}
use Rattle.ioam_dex.specs.Numbers.{has_flow, has_seq, four_where, numbers_size, u32_where}
use Rattle.ioam_dex.specs.Record.{Record}
use Rattle.ioam_dex.specs.declared.direct.DirectFault.TheVariants.{Short}
use Rattle.ioam_ip.specs.Findings.{is_ioam_type}
use Rattle.ioam_ip.specs.Options.{Item}
use Rattle.ioam_node.specs.declared.place.Place.{Place}
use Rattle.ioam_topo.specs.declared.domain.Domain.{Domain}
use Rattle.ioam_node_visit.specs.Counted.{records_in}
use Rattle.ioam_node_visit.specs.Exported.{flow_bit, seq_bit, without_check, number_if, data_of, size_of, Asks, IsExport, AreExports}
use Rattle.ioam_node_visit.specs.Exports.{export_type, record_for, direct_records, records_by, records_of}
use Rattle.ioam_node_visit.specs.Met.{met_of}
use Rattle.ioam_node_visit.specs.Seeing.{view_of}
use Rattle.ioam_node_visit.specs.Step.{knows}
use Rattle.ioam_node_visit.proofs.StepLaws.{by_bits}
use Rattle.ioam_node_visit.proofs.TestsLaws.{false_is, false_le, false_lt, true_is, true_lt}

-- ---- bits

four_by : (m : ℕ) → m < 2 → cond (eqb m 1) 4 0 ≡ 4 * m
four_by zero below = refl
four_by (suc zero) below = refl
four_by (suc (suc m)) below = absurd (omega (arith, below))

less_by : (m n : ℕ) → m < 2 → cond (eqb m 1) (n - 65536) n ≡ n - 65536 * m
less_by zero n below = omega arith
less_by (suc zero) n below = omega arith
less_by (suc (suc m)) n below = absurd (omega (arith, below))

four_flow : (ext : ℕ) → four_where (has_flow ext) ≡ 4 * flow_bit ext
unfolding has_flow
four_flow ext = four_by (ext / 128 % 2) (omega arith)

four_seq : (ext : ℕ) → four_where (has_seq ext) ≡ 4 * seq_bit ext
unfolding has_seq
four_seq ext = four_by (ext / 64 % 2) (omega arith)

pub type_is : (kind : ℕ) → export_type kind ≡ without_check kind
unfolding has
type_is kind = less_by (kind / 65536 % 2) kind (omega arith)

flow_is : (ext : ℕ) (octets : List ℕ) → u32_where (has_flow ext) octets 8 ≡ number_if (flow_bit ext) octets 8
unfolding has_flow
flow_is ext octets = refl

seq_is : (ext : ℕ) (octets : List ℕ) → u32_where (has_seq ext) octets (8 + four_where (has_flow ext)) ≡ number_if (seq_bit ext) octets (8 + 4 * flow_bit ext)
unfolding has_seq
seq_is ext octets = ap (λ n. number_if (seq_bit ext) octets (8 + n)) (four_flow ext)

-- ---- the data are whole

-- the octets that are wanted, where the first 8 are there
wanted_by : (b : Bool) (octets : List ℕ) → ltb (length octets) 8 ≡ b → 8 ≤ cond b 8 (8 + numbers_size (slice_index octets 3))
wanted_by true octets is = omega arith
wanted_by false octets is = omega arith

wanted_long : (octets : List ℕ) → 8 ≤ length octets → wanted octets ≡ size_of octets
wanted_long octets long = by_test (ltb (length octets) 8) refl where
  by_test : (b : Bool) → ltb (length octets) 8 ≡ b → cond b 8 (8 + numbers_size (slice_index octets 3)) ≡ size_of octets
  by_test true is = let short = true_lt (length octets) 8 is in absurd (omega (arith, short, long))
  by_test false is = omega (arith, four_flow (slice_index octets 3), four_seq (slice_index octets 3))

pub whole_is : (octets : List ℕ) → wanted octets ≤ length octets → size_of octets ≤ length octets
whole_is octets enough =
    let least = wanted_by (ltb (length octets) 8) octets refl in
    omega (arith, enough, wanted_long octets (omega (arith, least, enough)))

pub short_not : (octets : List ℕ) → length octets < wanted octets → size_of octets ≤ length octets → ⊥
short_not octets short whole = omega (arith, short, whole, wanted_long octets (omega (arith, whole)))

-- ---- one option

ioam_by : (a b : Bool) → (a || b) ≡ true → (a ≡ true) ⊎ (b ≡ true)
ioam_by true b is = inl refl
ioam_by false b is = inr is

pub ioam_type : (kind : ℕ) → is_ioam_type kind ≡ true → (kind ≡ 0x11) ⊎ (kind ≡ 0x31)
ioam_type kind is = by_case (ioam_by (eqb kind 0x11) (eqb kind 0x31) is) where
  by_case : (eqb kind 0x11 ≡ true) ⊎ (eqb kind 0x31 ≡ true) → (kind ≡ 0x11) ⊎ (kind ≡ 0x31)
  by_case (inl is) = inl (true_is kind 0x11 is)
  by_case (inr is) = inr (true_is kind 0x31 is)

pub no_ioam : (kind : ℕ) → is_ioam_type kind ≡ false → (kind ≡ 0x11) ⊎ (kind ≡ 0x31) → ⊥
no_ioam kind is (inl same) = absurd (cc (sym is ∙ ap is_ioam_type same))
no_ioam kind is (inr same) = absurd (cc (sym is ∙ ap is_ioam_type same))

module _ (domain : Domain) (readings : List (List Sample)) (place : Place) (time hops : ℕ) where
  -- the record of an option's data
  abbrev of_data : List ℕ → Record
  of_data octets = record_for domain readings place time hops (direct_at octets)

  -- it has these fields
  of_data-is : (octets : List ℕ) → IsExport domain readings place time hops octets (of_data octets)
  unfolding record_for
  of_data-is octets = record {
    namespace = refl;
    flags = refl;
    ext = refl;
    kind = type_is (u24_at octets 4);
    flow = flow_is (slice_index octets 3) octets;
    seq = seq_is (slice_index octets 3) octets;
    visit = refl;
    element = refl;
  }

  -- and no other has
  same_fields : (octets : List ℕ) (x y : Record) → IsExport domain readings place time hops octets x → IsExport domain readings place time hops octets y → x ≡ y
  same_fields octets x y a b =
      let kind : x.kind ≡ y.kind = a.kind ∙ sym b.kind in
      let namespace : x.namespace ≡ y.namespace = a.namespace ∙ sym b.namespace in
      let flags : x.flags ≡ y.flags = a.flags ∙ sym b.flags in
      let ext : x.ext ≡ y.ext = a.ext ∙ sym b.ext in
      let visit : x.visit ≡ y.visit = a.visit ∙ sym b.visit in
      let flow : x.flow ≡ y.flow = a.flow ∙ sym b.flow in
      let seq : x.seq ≡ y.seq = a.seq ∙ sym b.seq in
      let element : x.element ≡ y.element =
      a.element ∙ (λ i. element_of (kind i) (words (kind i)) (view_of domain readings place time hops (namespace i))) ∙ sym b.element in
      λ i. record {
        namespace = namespace i;
        flags = flags i;
        ext = ext i;
        kind = kind i;
        visit = visit i;
        flow = flow i;
        seq = seq i;
        element = element i;
      }

  abbrev records : Item → List Record
  records item = records_of domain readings place time hops item.kind item.body

  -- an option asks for a record and gets it, or doesn't and gets none
  abbrev Gets : Item → Type 0
  Gets item = ((Asks domain readings place time hops item → ⊥) × (records item ≡ []))
      ⊎ (Asks domain readings place time hops item × (records item ≡ of_data (data_of item) ∷ []))

  module _ (item : Item) where
    abbrev octets : List ℕ
    octets = data_of item

    abbrev by_met : Bool → Bool → Bool → Bool → Bool → List Record
    by_met a b t k d = records_by domain readings place time hops (by_bits a b t k d) item.body

    abbrev by_read : Bool → List Record
    by_read s = direct_records domain readings place time hops (cond s (Err (Short (length octets) (wanted octets))) (Ok (direct_at octets)))

    abbrev by_known : Bool → List Record
    by_known n = cond n (of_data octets ∷ []) []

    met_is : (a b t k d : Bool) → is_ioam_type item.kind ≡ a → leb 2 (length item.body) ≡ b → eqb (slice_index item.body 1) 0 ≡ t
        → eqb item.kind 0x31 ≡ k → eqb (slice_index item.body 1) 4 ≡ d → records item ≡ by_met a b t k d
    unfolding records_of met_of
    met_is a b t k d ea eb et ek ed = λ i. by_met (ea i) (eb i) (et i) (ek i) (ed i)

    read_is : (s : Bool) → ltb (length octets) (wanted octets) ≡ s → by_read (ltb (length octets) (wanted octets)) ≡ by_read s
    read_is s es = ap by_read es

    by_tests : (a b t k d s n : Bool) → is_ioam_type item.kind ≡ a → leb 2 (length item.body) ≡ b → eqb (slice_index item.body 1) 0 ≡ t
        → eqb item.kind 0x31 ≡ k → eqb (slice_index item.body 1) 4 ≡ d → ltb (length octets) (wanted octets) ≡ s
        → knows domain place.node.0 (u16_at octets 0) ≡ n → Gets item
    by_tests false b t k d s n ea eb et ek ed es en = inl ((λ asks. no_ioam item.kind ea asks.type), met_is false b t k d ea eb et ek ed)
    by_tests true false t k d s n ea eb et ek ed es en =
        let short = false_le 2 (length item.body) eb in
        inl ((λ asks. let whole = asks.whole in omega (arith, short, whole, length-drop 2 item.body)), met_is true false t k d ea eb et ek ed)
    by_tests true true true true d s n ea eb et ek ed es en =
        inl ((λ asks. let four = asks.direct in omega (arith, four, true_is (slice_index item.body 1) 0 et)), met_is true true true true d ea eb et ek ed)
    by_tests true true true false d s n ea eb et ek ed es en =
        inl ((λ asks. let four = asks.direct in omega (arith, four, true_is (slice_index item.body 1) 0 et)), met_is true true true false d ea eb et ek ed)
    by_tests true true false k false s n ea eb et ek ed es en =
        inl ((λ asks. false_is (slice_index item.body 1) 4 ed asks.direct), met_is true true false k false ea eb et ek ed)
    by_tests true true false k true true n ea eb et ek ed es en =
        inl ((λ asks. short_not octets (true_lt (length octets) (wanted octets) es) asks.whole), met_is true true false k true ea eb et ek ed ∙ read_is true es)
    by_tests true true false k true false false ea eb et ek ed es en =
        inl ((λ asks. absurd (cc (sym en ∙ asks.known))), met_is true true false k true ea eb et ek ed ∙ read_is false es ∙ ap by_known en)
    by_tests true true false k true false true ea eb et ek ed es en =
        inr (
          record {
            type = ioam_type item.kind ea;
            direct = true_is (slice_index item.body 1) 4 ed;
            whole = whole_is octets (false_lt (length octets) (wanted octets) es);
            known = en;
          },
          met_is true true false k true ea eb et ek ed ∙ read_is false es ∙ ap by_known en,
        )

  gets : (item : Item) → Gets item
  gets item =
      by_tests item (is_ioam_type item.kind) (leb 2 (length item.body)) (eqb (slice_index item.body 1) 0) (eqb item.kind 0x31)
      (eqb (slice_index item.body 1) 4) (ltb (length (data_of item)) (wanted (data_of item))) (knows domain place.node.0 (u16_at (data_of item) 0))
      refl refl refl refl refl refl refl

  -- ---- all options

  abbrev all : List Item → List Record
  all items = records_in (records_of domain readings place time hops) items

  pub exports-are : (items : List Item) → AreExports domain readings place time hops items (all items)
  exports-are [] = refl
  exports-are (item ∷ items) = by_case (gets item) (exports-are items) where
    by_case : Gets item → AreExports domain readings place time hops items (all items) → AreExports domain readings place time hops (item ∷ items) (all (item ∷ items))
    by_case (inl none) rest =
        let P : List Record → Type 0 = λ xs. AreExports domain readings place time hops items (xs ++ all items) in
        inl (none.0, subst P (sym none.1) rest)
    by_case (inr one) rest = inr (one.0, (of_data (data_of item), all items, ap (λ xs. xs ++ all items) one.1, of_data-is (data_of item), rest))

  pub exports-only : (items : List Item) (xs : List Record) → AreExports domain readings place time hops items xs → xs ≡ all items
  exports-only [] xs are = are
  exports-only (item ∷ items) xs are = by_case are (gets item) (λ ys rest. exports-only items ys rest) where
    by_case : AreExports domain readings place time hops (item ∷ items) xs → Gets item
        → ((ys : List Record) → AreExports domain readings place time hops items ys → ys ≡ all items) → xs ≡ all (item ∷ items)
    by_case (inl not) (inl none) only = only xs not.1 ∙ sym (ap (λ ys. ys ++ all items) none.1)
    by_case (inl not) (inr one) only = absurd (not.0 one.0)
    by_case (inr some) (inl none) only = absurd (none.0 some.0)
    by_case (inr some) (inr one) only =
        let first = same_fields (data_of item) some.1.0 (of_data (data_of item)) some.1.3 (of_data-is (data_of item)) in
        let others = only some.1.1 some.1.4 in
        some.1.2 ∙ (λ i. first i ∷ others i) ∙ sym (ap (λ ys. ys ++ all items) one.1)
