-- Laws of the lines of a file of readings, a line of the reader's loop at a time.
use Rattle.std.proofs.Common.{◌≡◌, ℕ, ◌+◌, ◌<◌, ◌≤◌, Bool, true, false, List, ◌∷◌, length, drop, get_or, position, Option, Some, None, option_map, Result, Ok, Err, arith, refl, sym, ◌∙◌}
use Rattle.std.specs.Str.{IsUtf8, is_utf8, bytes_eq}
use Rattle.std.proofs.lemmas.Str.{IsUtf8-from_is_utf8, is_utf8-from_IsUtf8}
use Rattle.std.proofs.lemmas.List.{drop_more}
use Rattle.std.proofs.Math.ListN.{drop_of_length-le}
use Rattle.ioam_clock.specs.declared.fault.ReadWhy.{ReadWhy}
use Rattle.ioam_clock.specs.declared.fault.ReadWhy.TheVariants.{Node}
use Rattle.ioam_topo.specs.declared.ids.NodeId.{NodeId}
use Rattle.ioam_clock.specs.declared.refused.Refused.{Refused}
use Rattle.ioam_clock.specs.declared.refused.Refused.TheVariants.{Because, NoMemory}
use Rattle.ioam_clock.specs.declared.fault.ReadingsRefused.{ReadingsRefused}
use Rattle.ioam_clock.specs.Adding.{Adds, AddsLines, refused_at}
use Rattle.ioam_clock.specs.declared.fault.ReadingsFault.{ReadingsFault}
use Rattle.ioam_clock.specs.declared.sample.Sample.{Sample}
use Rattle.ioam_clock.specs.Reading.{placed, node_of, line_added, lines_added}

-- octets that are no text
pub node_of_unreadable : (names : List (List ℕ)) (word : List ℕ) → ¬ (IsUtf8 word) → Err Node ≡ node_of names word
node_of_unreadable names word off = by_test (is_utf8 word) refl where
  by_test : (b : Bool) → is_utf8 word ≡ b → Err Node ≡ node_of names word
  by_test true is = absurd (off (IsUtf8-from_is_utf8 word is))
  by_test false is = rw is

found_by : (o : Option ℕ) (node : NodeId) → Some node ≡ option_map (λ at. record { 0 = at }) o → Ok node.0 ≡ placed o
found_by None node is = cc
found_by (Some at) node is = let same : node ≡ record { 0 = at } = cc in rw same

-- a text that names a node
pub node_of_found : (names : List (List ℕ)) (word name : List ℕ) (node : NodeId) → IsUtf8 word → name ≡ word
    → Some node ≡ option_map (λ at. record { 0 = at }) (position (bytes_eq name) names) → Ok node.0 ≡ node_of names word
node_of_found names word name node text same is = let on : is_utf8 word ≡ true = is_utf8-from_IsUtf8 word text in
    rw (on, ← same) (found_by (position (bytes_eq name) names) node is)

-- a line that was read
pub lines_more : (names : List (List ℕ)) (n m : ℕ) (all next : List (List Sample)) (ls : List (List ℕ)) (line : List ℕ)
    (whole : Result (List (List Sample)) ReadingsFault) → n ≡ m → m < length ls → line ≡ get_or ls m line → line_added names all line ≡ Ok next
    → lines_added names (n + 1) all (drop n ls) ≡ whole → lines_added names (n + 1 + 1) next (drop (n + 1) ls) ≡ whole
lines_more names n m all next ls line whole count lt here read so =
    let low : n < length ls = omega arith in let at : line ≡ get_or ls n line = rw count here in
    let cut : drop n ls ≡ line ∷ drop (n + 1) ls = rw (drop_more ls n line low, ← at) in
    let step : lines_added names (n + 1) all (line ∷ drop (n + 1) ls) ≡ whole = rw cut at so in
    rw read at step

-- a line that was refused
pub lines_stop : (names : List (List ℕ)) (n m : ℕ) (all : List (List Sample)) (ls : List (List ℕ)) (line : List ℕ) (why : ReadWhy)
    → n ≡ m → m < length ls → line ≡ get_or ls m line → line_added names all line ≡ Err why
    → lines_added names (n + 1) all (drop n ls) ≡ Err (record { line = n + 1; why = why })
lines_stop names n m all ls line why count lt here read =
    let low : n < length ls = omega arith in let at : line ≡ get_or ls n line = rw count here in
    let cut : drop n ls ≡ line ∷ drop (n + 1) ls = rw (drop_more ls n line low, ← at) in rw (cut, read)

-- the end of the lines
pub lines_end : (names : List (List ℕ)) (n k : ℕ) (all : List (List Sample)) (ls : List (List ℕ)) → length ls ≤ n
    → lines_added names k all (drop n ls) ≡ Ok all
lines_end names n k all ls past = rw (drop_of_length-le ls past)

-- a line that wasn't read ends the reading
pub lines_refused : (names : List (List ℕ)) (n m : ℕ) (all new : List (List Sample)) (ls : List (List ℕ)) (line : List ℕ)
    (whole : Result (List (List Sample)) ReadingsFault) (refused : Refused) (result : ReadingsRefused) → n ≡ m → m < length ls → line ≡ get_or ls m line
    → Adds {X = Unit {0}} (Err refused) new (line_added names all line) → lines_added names (n + 1) all (drop n ls) ≡ whole
    → result ≡ refused_at (n + 1) refused → AddsLines {X = Unit {0}} (Err result) new whole
lines_refused names n m all new ls line whole (Because why) result count lt here read so is =
    rw is (sym so ∙ lines_stop names n m all ls line why count lt here read)
lines_refused names n m all new ls line whole NoMemory result count lt here read so is = rw is tt
