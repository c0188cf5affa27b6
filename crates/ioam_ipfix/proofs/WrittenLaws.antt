-- What is written in runs is read back.
use Rattle.std.proofs.Common.{◌≡◌, ℕ, zero, suc, ◌+◌, ◌*◌, ◌-◌, ◌<◌, ◌≤◌, Bool, true, false, List, [], ◌∷◌, ◌++◌, length, take, drop, Option, Some, None, refl, sym, ap, ◌∙◌, subst, arith, inl, length-append}
use Rattle.std.specs.Prelude.{flat_map, is_some}
use Rattle.std.specs.List.{AllByRecursion}
use Rattle.std.proofs.lemmas.List.{append-nil, take_all, take_at, drop_all, drop_at}
use Rattle.ioam_base.specs.Octets.{u16_at}
use Rattle.ioam_base.specs.Words.{two_octets, four_octets_if}
use Rattle.ioam_data.specs.Written.{most_exported}
use Rattle.ioam_dex.specs.Visit.{visit_octets}
use Rattle.ioam_dex.specs.Record.{Record, IsRecord}
use Rattle.ioam_ipfix.specs.declared.kind.SetKind.TheVariants.{Data}
use Rattle.ioam_base.specs.Chain.{Chain}
use Rattle.ioam_ipfix.specs.Templates.{IsTemplate, fields_with, field_octets, template_octets, all_ids, none_known, IsKnown, with_templates, tells_visit, tells_flow, tells_seq}
use Rattle.ioam_ipfix.specs.Data.{weight, template_of, front_octets, IsData, data_octets}
use Rattle.ioam_ipfix.specs.Sets.{spot, set_kind, RecordPasses, TemplatePasses, HoldsAs, content_of, SetPasses}
use Rattle.ioam_ipfix.specs.Messages.{MessagePasses, message_of}
use Rattle.ioam_ipfix.specs.Reads.{Reads, Whole}
use Rattle.ioam_ipfix.specs.Written.{message_octets, IsRun, run_message, AreRuns, runs_of, runs_text, messages_text}

-- ---- sizes

visit-few : (visit : Option (ℕ × ℕ)) → length (visit_octets visit) ≤ 12
visit-few None = omega arith
visit-few (Some visit) = omega arith

four-few : (number : Option ℕ) → length (four_octets_if number) ≤ 4
four-few None = omega arith
four-few (Some number) = omega arith

pub data-short : (x : Record) → length x.element ≤ most_exported → length (data_octets x) ≤ 272
data-short x short = omega (
  arith,
  short,
  length-append (front_octets x) (length x.element ∷ x.element),
  length-append (visit_octets x.visit) (four_octets_if x.flow ++ four_octets_if x.seq),
  length-append (four_octets_if x.flow) (four_octets_if x.seq),
  visit-few x.visit,
  four-few x.flow,
  four-few x.seq,
)

abbrev Alike : ℕ → List Record → Type 0
Alike id run = AllByRecursion (λ x. IsRecord x × (template_of x ≡ id)) run

run-short : (id : ℕ) (run : List Record) → Alike id run → length (flat_map data_octets run) ≤ 272 * length run
run-short id [] alike = omega arith
run-short id (x ∷ run) alike = omega (arith, length-append (data_octets x) (flat_map data_octets run), data-short x alike.0.0.parts.short, run-short id run alike.1)

fields-short : (visit flow seq : Bool) → length (flat_map field_octets (fields_with visit flow seq)) ≤ 72
fields-short false false false = omega arith
fields-short false false true = omega arith
fields-short false true false = omega arith
fields-short false true true = omega arith
fields-short true false false = omega arith
fields-short true false true = omega arith
fields-short true true false = omega arith
fields-short true true true = omega arith

pub template-short : (id : ℕ) → length (template_octets id) ≤ 76
template-short id = omega (arith, fields-short (tells_visit id) (tells_flow id) (tells_seq id))

pub templates-short : (ids : List ℕ) → length (flat_map template_octets ids) ≤ 76 * length ids
templates-short [] = omega arith
templates-short (id ∷ ids) = omega (arith, length-append (template_octets id) (flat_map template_octets ids), template-short id, templates-short ids)

-- ---- the eight templates

abbrev all_known : List Bool
all_known = with_templates none_known all_ids

eight : (k id : ℕ) → id ≡ 256 + k → k < 8 → (set_kind id ≡ Data) × IsKnown all_known id
eight zero id is few = rw is (refl, refl)
eight (suc zero) id is few = rw is (refl, refl)
eight (suc (suc zero)) id is few = rw is (refl, refl)
eight (suc (suc (suc zero))) id is few = rw is (refl, refl)
eight (suc (suc (suc (suc zero)))) id is few = rw is (refl, refl)
eight (suc (suc (suc (suc (suc zero))))) id is few = rw is (refl, refl)
eight (suc (suc (suc (suc (suc (suc zero)))))) id is few = rw is (refl, refl)
eight (suc (suc (suc (suc (suc (suc (suc zero))))))) id is few = rw is (refl, refl)
eight (suc (suc (suc (suc (suc (suc (suc (suc k)))))))) id is few = absurd (omega (arith, few))

known-data : (id : ℕ) → IsTemplate id → (set_kind id ≡ Data) × IsKnown all_known id
known-data id is = let least = is.0 in let most = is.1 in eight (id - 256) id (omega (arith, least)) (omega (arith, least, most))

form-is : (flow seq visit : Bool) → IsTemplate (256 + weight flow 4 + weight seq 2 + weight visit 1)
form-is false false false = (omega arith, omega arith)
form-is false false true = (omega arith, omega arith)
form-is false true false = (omega arith, omega arith)
form-is false true true = (omega arith, omega arith)
form-is true false false = (omega arith, omega arith)
form-is true false true = (omega arith, omega arith)
form-is true true false = (omega arith, omega arith)
form-is true true true = (omega arith, omega arith)

pub template_of-is : (x : Record) → IsTemplate (template_of x)
template_of-is x = form-is (is_some x.flow) (is_some x.seq) (is_some x.visit)

run-template : (id : ℕ) (run : List Record) → 1 ≤ length run → Alike id run → IsTemplate id
run-template id [] some alike = absurd (omega (arith, some))
run-template id (x ∷ run) some alike = subst IsTemplate alike.0.1 (template_of-is x)

-- ---- things one behind the other

pub data-is : (id : ℕ) (x : Record) → IsRecord x → template_of x ≡ id → IsData id x (data_octets x)
data-is id x is form =
    let short = is.parts.short in
    record { sayable = is; form = form; spelling = length x.element ∷ []; spelled = inl (omega (arith, short), refl); is = refl }

run-chain : (id : ℕ) (run : List Record) → Alike id run → Chain (RecordPasses id) (flat_map data_octets run) run []
run-chain id [] alike = refl
run-chain id (x ∷ run) alike = (flat_map data_octets run, (data_octets x, data-is id x alike.0.0 alike.0.1, refl), run-chain id run alike.1)

templates-chain : (ids : List ℕ) → AllByRecursion IsTemplate ids → Chain TemplatePasses (flat_map template_octets ids) ids []
templates-chain [] all = refl
templates-chain (id ∷ ids) all = (flat_map template_octets ids, (all.0, refl), templates-chain ids all.1)

abbrev set_octets : ℕ → List ℕ → List ℕ
set_octets id content = two_octets id ++ (two_octets (length content + 4) ++ content)

set-passes : (id : ℕ) (content : List ℕ) (xs : List Record) (known behind : List Bool) → id < 65536 → length content ≤ 9000
    → HoldsAs (set_kind id) known id content xs behind → SetPasses (spot known (set_octets id content)) xs (spot behind [])
set-passes id content xs known behind below few holds =
    let text : List ℕ = set_octets id content in
    let is_id : u16_at text 0 ≡ id = omega (arith, below) in
    let is_size : u16_at text 2 ≡ length content + 4 = omega (arith, few) in
    let inside : content_of text ≡ content = ap (λ m. take (m - 4) content) is_size ∙ take_all (length content + 4 - 4) content (omega arith) in
    record {
      sized = record { begins = omega arith; least = omega (arith, is_size); there = omega (arith, is_size) };
      behind = sym (drop_all (u16_at text 2) text (omega (arith, is_size)));
      holds = subst (λ i. HoldsAs (set_kind i) known i (content_of text) xs behind) (sym is_id)
          (subst (λ o. HoldsAs (set_kind id) known id o xs behind) (sym inside) holds);
    }

message-passes : (count id : ℕ) (content more : List ℕ) (xs : List Record) (known behind : List Bool) → id < 65536 → length content ≤ 9000
    → HoldsAs (set_kind id) known id content xs behind
    → MessagePasses (spot known (message_octets count id content ++ more)) xs (spot behind more)
message-passes count id content more xs known behind below few holds =
    let message : List ℕ = message_octets count id content in
    let text : List ℕ = message ++ more in
    let size : u16_at text 2 ≡ length content + 20 = omega (arith, few) in
    let long : length message ≡ length content + 20 = omega arith in
    let front : message_of text ≡ message = ap (λ m. take m text) size ∙ take_at message more (length content + 20) long in
    let passes : Chain SetPasses (spot known (drop 16 message)) (xs ∷ []) (spot behind []) = (spot behind [], set-passes id content xs known behind below few holds, refl) in
    record {
      whole = record { begins = omega arith; version = omega arith; least = omega (arith, size); there = omega (arith, size, length-append content more) };
      behind = sym (ap (λ m. drop m text) size ∙ drop_at message more (length content + 20) long);
      sets = xs ∷ [];
      leads = subst (λ o. Chain SetPasses (spot known (drop 16 o)) (xs ∷ []) (spot behind [])) (sym front) passes;
      records = sym (append-nil xs);
    }

run-passes : (count id : ℕ) (run : List Record) (more : List ℕ) → IsRun id run
    → MessagePasses (spot all_known (run_message count id run ++ more)) run (spot all_known more)
run-passes count id run more is =
    let known = known-data id (run-template id run is.some is.alike) in
    let most = (run-template id run is.some is.alike).1 in
    let few = is.few in
    let size = run-short id run is.alike in
    let holds : HoldsAs Data all_known id (flat_map data_octets run) run all_known =
    (known.1, ([], run-chain id run is.alike, (omega arith, λ k inside. absurd (omega (arith, inside)))), refl) in
    message-passes count id (flat_map data_octets run) more run all_known all_known (omega (arith, most)) (omega (arith, few, size))
    (subst (λ kind. HoldsAs kind all_known id (flat_map data_octets run) run all_known) (sym known.0) holds)

runs-chain : (count : ℕ) (runs : List (ℕ × List Record)) → AreRuns runs
    → Chain MessagePasses (spot all_known (runs_text count runs)) (runs_of runs) (spot all_known [])
runs-chain count [] are = refl
runs-chain count (run ∷ runs) are = (
  spot all_known (runs_text (count + length run.1) runs),
  run-passes count run.0 run.1 (runs_text (count + length run.1) runs) are.0,
  runs-chain (count + length run.1) runs are.1,
)

all-templates : AllByRecursion IsTemplate all_ids
all-templates = (
  (omega arith, omega arith),
  (
    (omega arith, omega arith),
    (
      (omega arith, omega arith),
      (
        (omega arith, omega arith),
        ((omega arith, omega arith), ((omega arith, omega arith), ((omega arith, omega arith), ((omega arith, omega arith), tt)))),
      ),
    ),
  ),
)

-- whichever runs records are cut into, what is written of them is read back, with nothing left
pub written-read : (runs : List (ℕ × List Record)) → AreRuns runs → Reads (messages_text runs) ([] ∷ runs_of runs) Whole
written-read runs are =
    let content : List ℕ = flat_map template_octets all_ids in
    let text : List ℕ = runs_text 0 runs in
    let size = templates-short all_ids in
    record {
      rest = spot all_known [];
      leads = (
        spot all_known text,
        message-passes 0 2 content text [] none_known all_known (omega arith) (omega (arith, size))
            ((all_ids, ([], templates-chain all_ids all-templates, (omega arith, λ k inside. absurd (omega (arith, inside)))), refl), refl),
        runs-chain 0 runs are,
      );
      ends = refl;
    }
