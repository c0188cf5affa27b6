-- Laws of edge-to-edge data.
use Rattle.std.proofs.Common.{◌≡◌, ℕ, ◌+◌, Bool, List, ◌++◌, length, Option, Some, None, Result, Ok, Err, arith, sym, ap, ◌∙◌, append_assoc, length-append}
use Rattle.std.specs.Prelude.{if◌then◌else◌}
use Rattle.std.specs.Option.{is_some}
use Rattle.std.specs.Result.{OnOk, is_ok}
use Rattle.ioam_base.proofs.WordsLaws.{two_octets-same, four_octets_if-same, eight_octets_if-same}
use Rattle.ioam_base.specs.Words.{two_octets, four_octets_if, eight_octets_if}
use Rattle.ioam_edge.specs.declared.edge.Edge.{Edge}
use Rattle.ioam_edge.specs.Edge.{asks, HasItsFields, IsEdge, edge_octets, Begins, fields_size, ReadsAgain}

-- the octets in groups of one field each, with what follows
pub fields_of : (n k a b c d rest : List ℕ) → (n ++ (k ++ (a ++ (b ++ (c ++ d))))) ++ rest ≡ n ++ (k ++ (a ++ (b ++ (c ++ (d ++ rest)))))
fields_of n k a b c d rest = simp append_assoc

-- a value by its fields
edge_by : (e f : Edge) → e.namespace.0 ≡ f.namespace.0 → e.kind ≡ f.kind → e.seq64 ≡ f.seq64 → e.seq32 ≡ f.seq32
    → e.seconds ≡ f.seconds → e.fraction ≡ f.fraction → e ≡ f
edge_by e f n k a b c d =
    let namespace : e.namespace ≡ f.namespace = ap (λ m. record { 0 = m }) n in
    let same : ◌≡◌ {A = Edge}
    (record { namespace = e.namespace; kind = e.kind; seq64 = e.seq64; seq32 = e.seq32; seconds = e.seconds; fraction = e.fraction })
    (record { namespace = f.namespace; kind = f.kind; seq64 = f.seq64; seq32 = f.seq32; seconds = f.seconds; fraction = f.fraction }) = cc in
    same

-- octets begin with one value
pub edge_octets-same : (e f : Edge) (r s : List ℕ) → IsEdge e → IsEdge f → HasItsFields e → HasItsFields f
    → edge_octets e ++ r ≡ edge_octets f ++ s → (e ≡ f) × (r ≡ s)
edge_octets-same e f r s in_e in_f has_e has_f same =
    let whole =
    sym (fields_of (two_octets e.namespace.0) (two_octets e.kind) (eight_octets_if e.seq64) (four_octets_if e.seq32) (four_octets_if e.seconds) (four_octets_if e.fraction) r)
    ∙ same
    ∙ fields_of (two_octets f.namespace.0) (two_octets f.kind) (eight_octets_if f.seq64) (four_octets_if f.seq32) (four_octets_if f.seconds) (four_octets_if f.fraction) s in
    let namespace = two_octets-same e.namespace.0 f.namespace.0 _ _ in_e.namespace_below in_f.namespace_below whole in
    let kind = two_octets-same e.kind f.kind _ _ in_e.kind_below in_f.kind_below namespace.1 in
    let seq64 = eight_octets_if-same e.seq64 f.seq64 _ _ (has_e.seq64 ∙ ap (λ k. asks k 0) kind.0 ∙ sym has_f.seq64) in_e.seq64_below in_f.seq64_below kind.1 in
    let seq32 = four_octets_if-same e.seq32 f.seq32 _ _ (has_e.seq32 ∙ ap (λ k. asks k 1) kind.0 ∙ sym has_f.seq32) in_e.seq32_below in_f.seq32_below seq64.1 in
    let seconds = four_octets_if-same e.seconds f.seconds _ _ (has_e.seconds ∙ ap (λ k. asks k 2) kind.0 ∙ sym has_f.seconds) in_e.seconds_below in_f.seconds_below seq32.1 in
    let fraction = four_octets_if-same e.fraction f.fraction r s (has_e.fraction ∙ ap (λ k. asks k 3) kind.0 ∙ sym has_f.fraction) in_e.fraction_below in_f.fraction_below seconds.1 in
    (edge_by e f namespace.0 kind.0 seq64.0 seq32.0 seconds.0 fraction.0, fraction.1)

-- what is read of octets of a value is that value
pub ReadsAgain-Begins : (octets : List ℕ) (read : Edge) → IsEdge read → Begins read octets → ReadsAgain octets (Ok read)
ReadsAgain-Begins octets read in_read begins = λ edge rest in_edge has_edge is.
    (edge_octets-same read edge begins.rest rest in_read in_edge begins.fields has_edge (sym begins.is ∙ is)).0

-- fields that were read one behind the other are those of the octets
pub whole_of : (octets n k a b c d r0 r1 r2 r3 r4 r5 : List ℕ) → octets ≡ n ++ r0 → r0 ≡ k ++ r1 → r1 ≡ a ++ r2 → r2 ≡ b ++ r3 → r3 ≡ c ++ r4
    → r4 ≡ d ++ r5 → octets ≡ (n ++ (k ++ (a ++ (b ++ (c ++ d))))) ++ r5
whole_of octets n k a b c d r0 r1 r2 r3 r4 r5 e0 e1 e2 e3 e4 e5 =
    e0 ∙ ap (λ r. n ++ r) (e1 ∙ ap (λ r. k ++ r) (e2 ∙ ap (λ r. a ++ r) (e3 ∙ ap (λ r. b ++ r) (e4 ∙ ap (λ r. c ++ r) e5))))
    ∙ sym (fields_of n k a b c d r5)

-- ---- how many octets a value has

eight_size : (field : Option ℕ) (asked : Bool) → is_some field ≡ asked → length (eight_octets_if field) ≡ (if asked then 8 else 0)
eight_size None asked is = ap (λ b. if b then 8 else 0) is
eight_size (Some n) asked is = ap (λ b. if b then 8 else 0) is

four_size : (field : Option ℕ) (asked : Bool) → is_some field ≡ asked → length (four_octets_if field) ≡ (if asked then 4 else 0)
four_size None asked is = ap (λ b. if b then 4 else 0) is
four_size (Some n) asked is = ap (λ b. if b then 4 else 0) is

pub length-edge_octets : (edge : Edge) → HasItsFields edge → length (edge_octets edge) ≡ 4 + fields_size edge.kind
length-edge_octets edge has =
    let a = eight_octets_if edge.seq64 in
    let b = four_octets_if edge.seq32 in
    let c = four_octets_if edge.seconds in
    let d = four_octets_if edge.fraction in
    omega (
      arith,
      length-append a (b ++ (c ++ d)),
      length-append b (c ++ d),
      length-append c d,
      eight_size edge.seq64 _ has.seq64,
      four_size edge.seq32 _ has.seq32,
      four_size edge.seconds _ has.seconds,
      four_size edge.fraction _ has.fraction,
    )

-- what was appended
pub appended_size : {E : Type 0} (r : Result (Unit {0}) E) (old new : List ℕ) (edge : Edge) → HasItsFields edge
    → new ≡ (if is_ok r then old ++ edge_octets edge else old) → OnOk r (length new ≡ length old + (4 + fields_size edge.kind))
appended_size (Ok u) old new edge has made = ap length made ∙ omega (arith, length-append old (edge_octets edge), length-edge_octets edge has)
appended_size (Err e) old new edge has made = tt
