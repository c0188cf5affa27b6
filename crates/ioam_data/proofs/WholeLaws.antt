-- What is read of an element tells all of its octets.
use Rattle.std.proofs.Common.{◌≡◌, ℕ, ◌+◌, ◌*◌, ◌-◌, ◌/◌, ◌%◌, Bool, true, false, cond, List, [], ◌∷◌, ◌++◌, length, take, drop, get_or, arith, refl, sym, ap, ◌∙◌, Option, Some, None}
use Rattle.std.proofs.lemmas.List.{length-drop, get_or-drop, drop-drop, take-append-drop, nil_from_length}
use Rattle.ioam_base.specs.Octets.{IsOctets, u32_at}
use Rattle.ioam_base.specs.Words.{four_octets}
use Rattle.ioam_base.proofs.WordsLaws.{four-at}
use Rattle.ioam_data.specs.Elements.{IsElement}
use Rattle.ioam_data.specs.Fields.{named, number_at_row, numbers_of, fields_of, snapshot_at}
use Rattle.ioam_data.specs.Kind.{has, words}
use Rattle.ioam_data.specs.Shape.{joined_if, parted}
use Rattle.ioam_data.specs.Table.{table, numbers_by, spelt_by, rest_by}
use Rattle.ioam_data.specs.Whole.{snapshot_octets, snapshot_if, held_octets}
use Rattle.ioam_data.proofs.TableLaws.{numbers_by-whole, drop-rest_by}

-- a snapshot, whose first octet counts the words of its data
snapshot_whole : (octets : List ℕ) → IsOctets octets → length octets ≡ 4 + 4 * get_or octets 0 0 → octets ≡ snapshot_octets (snapshot_at octets)
snapshot_whole octets small long =
    let first : u32_at octets 0 / 16777216 ≡ length (drop 4 octets) / 4 = omega (arith, long, length-drop 4 octets, small 0, small 1, small 2, small 3) in
    let same : u32_at octets 0 ≡ length (drop 4 octets) / 4 * 16777216 + u32_at octets 0 % 16777216 = omega (arith, first) in
    four-at octets 0 small (omega (arith, long)) ∙ ap (λ n. four_octets n ++ drop 4 octets) same

last_whole : (b : Bool) (octets : List ℕ) (first : ℕ) → IsOctets octets → get_or octets 0 0 ≡ first → length octets ≡ cond b (4 + 4 * first) 0
    → octets ≡ snapshot_if (cond b (Some (snapshot_at octets)) None)
last_whole true octets first small is long = snapshot_whole octets small (omega (arith, long, is))
last_whole false octets first small is long = nil_from_length octets long

-- two values of a number tell it
joined-parted : (unit : ℕ) → ((number : ℕ) → number / unit * unit + number % unit ≡ number) → (number : Option ℕ) → joined_if unit (parted unit number) ≡ number
joined-parted unit is None = refl
joined-parted unit is (Some number) = ap Some (is number)

-- a row of the table each
pub numbers_of-named : (kind : ℕ) (octets filler : List ℕ) (snapshot : Option (ℕ × List ℕ)) → numbers_of (named (numbers_by table kind octets) filler snapshot) ≡ numbers_by table kind octets
unfolding table
numbers_of-named kind octets filler snapshot =
    let hop_node = joined-parted 16777216 (λ n. omega arith) (number_at_row 0 (numbers_by table kind octets)) in
    let faces = joined-parted 65536 (λ n. omega arith) (number_at_row 1 (numbers_by table kind octets)) in
    let wide_hop_node = joined-parted 72057594037927936 (λ n. omega arith) (number_at_row 8 (numbers_by table kind octets)) in
    let wide_faces = joined-parted 4294967296 (λ n. omega arith) (number_at_row 9 (numbers_by table kind octets)) in
    let at : ℕ → Option ℕ = λ row. number_at_row row (numbers_by table kind octets) in
    λ i. hop_node i ∷ (faces i ∷ (at 2 ∷ (at 3 ∷ (at 4 ∷ (at 5 ∷ (at 6 ∷ (at 7 ∷ (wide_hop_node i ∷ (wide_faces i ∷ (at 10 ∷ (at 11 ∷ [])))))))))))

-- nothing of an element is lost in its fields
pub fields_of-whole : (kind node_len : ℕ) (octets : List ℕ) → IsOctets octets → IsElement kind node_len octets → octets ≡ held_octets (fields_of kind node_len octets)
unfolding fields_of words
fields_of-whole kind node_len octets small element =
    let count = 4 * (node_len - words kind) in
    let rest = rest_by table kind octets in
    let after : rest ≡ drop (4 * words kind) octets = sym (drop-rest_by table kind octets) in
    let last = drop count rest in
    let room = element.stands.room in
    let first = get_or octets (0 + 4 * node_len) 0 in
    let more : ℕ = cond (has kind 22) (4 + 4 * first) 0 in
    let size : 4 * node_len + more ≡ length octets = element.whole in
    let place : 4 * words kind + count ≡ 4 * node_len = omega (arith, room) in
    let same : last ≡ drop (4 * node_len) octets = ap (drop count) after ∙ drop-drop count (4 * words kind) octets ∙ ap (λ n. drop n octets) place in
    let is : get_or last 0 0 ≡ first = ap (λ xs. get_or xs 0 0) same ∙ get_or-drop (4 * node_len) octets 0 0 ∙ ap (λ n. get_or octets n 0) (omega arith) in
    let long : length last ≡ more = ap length same ∙ omega (arith, length-drop (4 * node_len) octets, size) in
    let small_last : IsOctets last = λ i. omega (arith, ap (λ xs. get_or xs i 0) same, get_or-drop (4 * node_len) octets i 0, small (4 * node_len + i)) in
    let numbers = numbers_by-whole table kind octets small (omega (arith, room, size)) in
    let snapshot = last_whole (has kind 22) last first small_last is long in
    let spelt = numbers_of-named kind octets (take count rest) (cond (has kind 22) (Some (snapshot_at last)) None) in
    numbers ∙ ap (λ xs. spelt_by table (numbers_by table kind octets) ++ xs)
    (sym after ∙ sym (take-append-drop count rest) ∙ ap (λ xs. take count rest ++ xs) snapshot)
    ∙ ap (λ ns. spelt_by table ns ++ (take count rest ++ snapshot_if (cond (has kind 22) (Some (snapshot_at last)) None))) (sym spelt)
