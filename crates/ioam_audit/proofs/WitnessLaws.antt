-- An element with lawful fields is that of some free view.
use Rattle.std.proofs.Common.{◌≡◌, ◌⊎◌, inl, inr, ℕ, zero, suc, ◌+◌, ◌*◌, ◌-◌, ◌/◌, ◌%◌, ◌<◌, ◌≤◌, Bool, true, false, cond, List, [], ◌∷◌, ◌++◌, length, take, drop, get_or, replicate, length-take, length-drop, arith, refl, sym, ap, ◌∙◌, Option, Some, None}
use Rattle.std.specs.Prelude.{IfSome, nat_lt, All}
use Rattle.std.proofs.lemmas.List.Elements.{All-head, All-tail}
use Rattle.std.proofs.lemmas.Bool.Decides.{nat_tests}
use Rattle.ioam_base.specs.Octets.{IsOctets}
use Rattle.ioam_data.specs.Bits.{has, when_has, past}
use Rattle.ioam_data.specs.Elements.{IsElement}
use Rattle.ioam_data.specs.Fields.{Held, fields_of, snapshot_at}
use Rattle.ioam_data.specs.Kind.{words}
use Rattle.ioam_data.specs.Shape.{words_of, octets_of, number_of, parted}
use Rattle.ioam_data.specs.Table.{Rule, table, octets_by, numbers_by, shown_by, spelt_by, rest_by, octets_if}
use Rattle.ioam_data.specs.View.{Seen}
use Rattle.ioam_data.specs.Whole.{snapshot_if}
use Rattle.ioam_data.specs.Written.{snapshot_of, or_ones, narrow_face, narrow_id, delay_of}
use Rattle.ioam_data.proofs.TableLaws.{drop-rest_by}
use Rattle.ioam_data.proofs.WholeLaws.{fields_of-whole, numbers_of-named}
use Rattle.ioam_audit.specs.Free.{IsAnySnapshot, IsFree}
use Rattle.ioam_audit.specs.Lawful.{ComesBy, IsLawful}
use Rattle.ioam_audit.proofs.CheckLaws.{checked_by, checked-rows}
use Rattle.ioam_audit.proofs.LawfulLaws.{MayAdd}

-- what is written of rows is spelt by the numbers that they show
spelt-part : (b : Bool) (rule : Rule) (number : ℕ) → octets_if rule.shape (cond b (Some number) None) ≡ cond b (octets_of rule.shape number) []
spelt-part true rule number = refl
spelt-part false rule number = refl

spelt-shown : (rules : List Rule) (kind : ℕ) (view : Seen) → spelt_by rules (shown_by rules kind view) ≡ octets_by rules kind view
spelt-shown [] kind view = refl
spelt-shown (rule ∷ rules) kind view = λ i. spelt-part (has kind rule.bit) rule (rule.number view) i ++ spelt-shown rules kind view i

-- shapes and bits are those of the rows with another checksum complement
spelt-checked : (rules : List Rule) (check : ℕ) (numbers : List (Option ℕ)) → spelt_by (checked_by check rules) numbers ≡ spelt_by rules numbers
spelt-checked [] check numbers = refl
spelt-checked (rule ∷ rules) check [] = refl
spelt-checked (rule ∷ rules) check (number ∷ numbers) = ap (λ xs. octets_if rule.shape number ++ xs) (spelt-checked rules check numbers)

-- the number where the field of a row stands or would stand
abbrev value_at : ℕ → List Rule → ℕ → List ℕ → ℕ
value_at row [] kind octets = 0
value_at zero (rule ∷ rules) kind octets = number_of rule.shape octets
value_at (suc row) (rule ∷ rules) kind octets = value_at row rules kind (past kind rule.bit (words_of rule.shape) octets)

-- ---- values

one_has : (b : Bool) (number : ℕ) (P : ℕ → Type 0) → IfSome (cond b (Some number) None) P → b ≡ true → P number
one_has true number P p there = p
one_has false number P p there = absurd (cc there)

two_has : (b : Bool) (unit number : ℕ) (P : ℕ × ℕ → Type 0) → IfSome (parted unit (cond b (Some number) None)) P → b ≡ true → P (number / unit, number % unit)
two_has true unit number P p there = p
two_has false unit number P p there = absurd (cc there)

if_there : (b : Bool) (x y : ℕ) → (b ≡ true → y ≡ x) → cond b (Some x) None ≡ cond b (Some y) None
if_there true x y same = ap Some (sym (same refl))
if_there false x y same = refl

delay_from : ℕ → Option ℕ
delay_from delay = cond (nat_lt 2147483648 delay) None (Some delay)

delay_back : (delay : ℕ) → (delay ≤ 2147483648) ⊎ (delay ≡ 4294967295) → delay ≡ delay_of (delay_from delay)
unfolding delay_from
delay_back delay lawful = by_test (nat_lt 2147483648 delay) refl
  where
    most : (delay : ℕ) → delay ≤ 2147483648 → delay ≡ cond (nat_lt 2147483647 delay) 2147483648 delay
    most delay small = grind (arith, nat_tests)

    great : (delay : ℕ) → nat_lt 2147483648 delay ≡ true → (delay ≤ 2147483648) ⊎ (delay ≡ 4294967295) → delay ≡ 4294967295
    great delay is either = elim either as (λ _. delay ≡ 4294967295) [ inl small ↦ grind (arith, nat_tests) | inr ones ↦ ones ]

    little : (delay : ℕ) → nat_lt 2147483648 delay ≡ false → delay ≤ 2147483648
    little delay is = grind (arith, nat_tests)

    by_test : (b : Bool) → nat_lt 2147483648 delay ≡ b → delay ≡ delay_of (cond b None (Some delay))
    by_test true is = great delay is lawful
    by_test false is = most delay (little delay is)

narrow_small : (face : ℕ) → face < 65536 → face ≡ narrow_face (Some face)
narrow_small face small = grind (arith, nat_tests)

halves : (number unit high low : ℕ) → number ≡ number / unit * unit + number % unit → number / unit ≡ high → number % unit ≡ low → number ≡ high * unit + low
halves number unit high low whole first second = whole ∙ (λ i. first i * unit + second i)

-- the interface inward of some view
record CameBy (inward : ℕ) (held : Held) : Type 0 where
  face : Option ℕ
  is : (face ≡ Some inward) ⊎ (face ≡ None)
  by : ComesBy (narrow_face face) (or_ones face) held

came_by : (inward : ℕ) (held : Held) → ComesBy (narrow_face (Some inward)) inward held ⊎ ComesBy 65535 4294967295 held → CameBy inward held
came_by inward held (inl by) = record { face = Some inward; is = inl refl; by = by }
came_by inward held (inr by) = record { face = None; is = inr refl; by = by }

all_ones : (octets : List ℕ) → All (λ octet. octet ≡ 255) octets → octets ≡ replicate (length octets) 255
all_ones [] all = refl
all_ones (octet ∷ octets) all =
    let first = All-head (λ octet. octet ≡ 255) octet octets all in
    let others = all_ones octets (All-tail (λ octet. octet ≡ 255) octet octets all) in
    λ i. first i ∷ others i

-- ---- the view

module _ (kind node_len hops id inward : ℕ) (octets : List ℕ) (small : IsOctets octets) (element : IsElement kind node_len octets)
    (legal : IsLawful hops id inward (fields_of kind node_len octets)) where
  abbrev v : ℕ → ℕ
  v row = value_at row table kind octets

  came : CameBy inward (fields_of kind node_len octets)
  came = came_by inward (fields_of kind node_len octets) legal.came

  abbrev out_by : Bool → ℕ
  out_by b = cond b (v 9 % 4294967296) (v 1 % 65536)

  abbrev last : List ℕ
  last = drop (4 * (node_len - words kind)) (rest_by table kind octets)

  abbrev snapshot_for : Bool → Option (ℕ × List ℕ)
  snapshot_for b = cond b (Some (snapshot_at last)) None

  abbrev view : Seen
  view = record {
    hops = hops;
    id = id;
    inward = came.face;
    outward = Some (out_by (has kind 9));
    stamp = Some (v 2, v 3);
    delay = delay_from (v 4);
    queue = Some (v 6);
    buffer = Some (v 11);
    short = Some (v 5);
    wide = Some (v 10);
    snapshot = snapshot_for (has kind 22);
  }

  out_below : (b : Bool) → out_by b < 4294967296
  out_below true = omega arith
  out_below false = omega arith

  -- the interfaces as they are in the fields of bits 1 and 9
  goes : has kind 1 ≡ true → has kind 9 ≡ true → v 1 % 65536 ≡ narrow_face (Some (v 9 % 4294967296))
  unfolding fields_of table
  goes there wide = two_has (has kind 9) 4294967296 (v 9) (λ w. v 1 % 65536 ≡ narrow_face (Some w.1))
      (two_has (has kind 1) 65536 (v 1) (λ pair. IfSome (fields_of kind node_len octets).wide_faces (λ w. pair.1 ≡ narrow_face (Some w.1))) legal.goes there) wide

  out_narrow : (b : Bool) → has kind 9 ≡ b → has kind 1 ≡ true → v 1 % 65536 ≡ narrow_face (Some (out_by b))
  out_narrow true wide there = goes there wide
  out_narrow false wide there = narrow_small (v 1 % 65536) (omega arith)

  out_wide : (b : Bool) → b ≡ true → v 9 % 4294967296 ≡ out_by b % 4294967296
  out_wide true there = omega arith
  out_wide false there = absurd (cc there)

  -- a row each: seven have any number
  rows_same : shown_by (checked_by (v 7) table) kind view ≡ numbers_by table kind octets
  unfolding fields_of table
  rows_same =
      let hop_node = if_there (has kind 0) (hops * 16777216 + narrow_id id) (v 0)
      (λ there. let is = two_has (has kind 0) 16777216 (v 0) (λ pair. (pair.0 ≡ hops) × (pair.1 ≡ narrow_id id)) legal.hop_node there in halves (v 0) 16777216 _ _ (omega arith) is.0 is.1) in
      let faces = if_there (has kind 1) (narrow_face came.face * 65536 + narrow_face (Some (out_by (has kind 9)))) (v 1)
      (λ there. halves (v 1) 65536 _ _ (omega arith) (two_has (has kind 1) 65536 (v 1) (λ pair. pair.0 ≡ narrow_face came.face) came.by.faces there) (out_narrow (has kind 9) refl there)) in
      let delay = if_there (has kind 4) (delay_of (delay_from (v 4))) (v 4)
      (λ there. delay_back (v 4) (one_has (has kind 4) (v 4) (λ delay. (delay ≤ 2147483648) ⊎ (delay ≡ 4294967295)) legal.delay there)) in
      let wide_hop_node = if_there (has kind 8) (hops * 72057594037927936 + id) (v 8)
      (λ there. let is = two_has (has kind 8) 72057594037927936 (v 8) (λ pair. (pair.0 ≡ hops) × (pair.1 ≡ id)) legal.wide_hop_node there in halves (v 8) 72057594037927936 _ _ (omega arith) is.0 is.1) in
      let wide_faces = if_there (has kind 9) (or_ones came.face * 4294967296 + out_by (has kind 9) % 4294967296) (v 9)
      (λ there. halves (v 9) 4294967296 _ _ (omega arith) (two_has (has kind 9) 4294967296 (v 9) (λ pair. pair.0 ≡ or_ones came.face) came.by.wide_faces there) (out_wide (has kind 9) there)) in
      λ i. hop_node i ∷ faces i ∷ when_has kind 2 (v 2) ∷ when_has kind 3 (v 3) ∷ delay i ∷ when_has kind 5 (v 5) ∷ when_has kind 6 (v 6)
      ∷ when_has kind 7 (v 7) ∷ wide_hop_node i ∷ wide_faces i ∷ when_has kind 10 (v 10) ∷ when_has kind 11 (v 11) ∷ []

  last_same : (b : Bool) → snapshot_if (cond b (Some (snapshot_at last)) None) ≡ cond b (snapshot_of (snapshot_for b)) []
  last_same true = refl
  last_same false = refl

  rest_long : length (rest_by table kind octets) ≡ length octets - 4 * words kind
  unfolding words
  rest_long = ap length (sym (drop-rest_by table kind octets)) ∙ length-drop (4 * words kind) octets

  last_long : length last ≡ length octets - 4 * node_len
  last_long = length-drop (4 * (node_len - words kind)) (rest_by table kind octets) ∙ omega (arith, rest_long, element.stands.room, element.whole)

  size_by : (b : Bool) (first : ℕ) → first < 256 → 4 * node_len + cond b (4 + 4 * first) 0 ≡ length octets
      → IfSome (snapshot_for b) (λ given. IsAnySnapshot given.0 given.1)
  size_by true first below size =
      let opaque : length (drop 4 last) ≡ 4 * first = omega (arith, last_long, size, length-drop 4 last) in
      record { schema_below = omega arith; in_words = omega (arith, opaque); short = omega (arith, opaque, below) }
  size_by false first below size = tt

  free : IsFree hops id inward view
  free = record {
    hops_is = refl;
    id_is = refl;
    inward_is = came.is;
    outward_below = out_below (has kind 9);
    snapshot_fits = size_by (has kind 22) (get_or octets (0 + 4 * node_len) 0) (small (0 + 4 * node_len)) element.whole;
  }

  filler_long : length (take (4 * (node_len - words kind)) (rest_by table kind octets)) ≡ 4 * (node_len - words kind)
  filler_long = length-take (4 * (node_len - words kind)) (rest_by table kind octets) ∙ omega (arith, rest_long, element.stands.room, element.whole)

  pub witness : MayAdd kind node_len hops id inward octets
  unfolding fields_of
  witness =
      let count = 4 * (node_len - words kind) in
      let filler = take count (rest_by table kind octets) in
      let full = all_ones filler legal.filler ∙ ap (λ n. replicate n 255) filler_long in
      let rows = ap (spelt_by table) (numbers_of-named kind octets filler (when_has kind 22 (snapshot_at last)) ∙ sym rows_same)
      ∙ sym (spelt-checked table (v 7) (shown_by (checked_by (v 7) table) kind view)) ∙ spelt-shown (checked_by (v 7) table) kind view in
      record {
        view = view;
        check = v 7;
        free = free;
        is = fields_of-whole kind node_len octets small element ∙ (λ i. rows i ++ (full i ++ last_same (has kind 22) i))
            ∙ sym (checked-rows kind node_len view (v 7));
      }
