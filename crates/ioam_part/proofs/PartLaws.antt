-- Laws of parts: one spelling, and what joining does.
use Rattle.std.proofs.Common.{◌≡◌, ℕ, ◌<◌, List, [], ◌∷◌, ◌++◌, length, All, refl, sym, ap, ap₂, ◌∙◌, subst, arith, inl, inr, Option, None, Some}
use Rattle.std.proofs.lemmas.List.{append-nil}
use Rattle.std.proofs.lemmas.List.Elements.{All-head, All-tail}
use Rattle.ioam_base.specs.Words.{four_octets}
use Rattle.ioam_base.proofs.WordsLaws.{four_octets-same}
use Rattle.ioam_dex.specs.Record.{Record, IsRecord, record_octets}
use Rattle.ioam_dex.specs.Reads.{records_octets}
use Rattle.ioam_dex.specs.Visit.{visit_octets, IsVisitBelow}
use Rattle.ioam_dex.proofs.ReadsLaws.{Splits-unique, NoRecord, cut-no-record}
use Rattle.ioam_dex.proofs.RecordLaws.{record_octets-same}
use Rattle.ioam_dex.proofs.VisitLaws.{visit_octets-same}
use Rattle.ioam_pool.specs.Entry.{Entry}
use Rattle.ioam_collect.specs.Best.{kept_of, keys_in, group, groups_of}
use Rattle.ioam_collect.specs.Keyed.{core_of, keyed_by, keyed_of, keyed, with_keyed, hops_of}
use Rattle.ioam_collect.specs.declared.key.Key.{Key}
use Rattle.ioam_collect.proofs.JoinLaws.{half_left, half_right, append_three, kept_parts, kept_swapped, kept_twice, pairs_groups}
use Rattle.ioam_collect.proofs.JoiningLaws.{keyed-append}
use Rattle.ioam_collect.proofs.UniteLaws.{apart_kept}
use Rattle.ioam_part.specs.Part.{part_octets, HasKey, IsPart, PartOf, JoinsTo}

-- ---- the records of pairs

abbrev core_in : Option (Key × Entry) → List ℕ
core_in None = []
core_in (Some p) = p.1.core

abbrev extra_in : Option (Key × Entry) → List ℕ
extra_in None = []
extra_in (Some p) = p.1.extra

-- what is kept of a record with a key
pub item_parts : (x : Record) (flow seq hops : Option ℕ) (p : Key × Entry) → keyed_by x flow seq hops ≡ Some p
    → (p.1.core ≡ record_octets (core_of x)) × (p.1.extra ≡ visit_octets x.visit)
item_parts x None seq hops p is = absurd (cc is)
item_parts x (Some flow) None hops p is = absurd (cc is)
item_parts x (Some flow) (Some seq) None p is = absurd (cc is)
item_parts x (Some flow) (Some seq) (Some hops) p is = (sym (ap core_in is), sym (ap extra_in is))

pub core_sayable : (x : Record) → IsRecord x → IsRecord (core_of x)
core_sayable x is_x = record {
  parts = record { flow = is_x.parts.flow; seq = is_x.parts.seq; filled = is_x.parts.filled; short = is_x.parts.short };
  numbers = record {
    namespace_below = is_x.numbers.namespace_below;
    flags_below = is_x.numbers.flags_below;
    ext_below = is_x.numbers.ext_below;
    kind_below = is_x.numbers.kind_below;
    visit_below = tt;
    flow_below = is_x.numbers.flow_below;
    seq_below = is_x.numbers.seq_below;
  };
}

visit_same : (a b : Option (ℕ × ℕ)) → IsVisitBelow a → IsVisitBelow b → visit_octets a ≡ visit_octets b → a ≡ b
visit_same None None p q same = refl
visit_same None (Some v) p q same = let sizes = ap length same in absurd (omega (arith, sizes))
visit_same (Some u) None p q same = let sizes = ap length same in absurd (omega (arith, sizes))
visit_same (Some u) (Some v) p q same = (visit_octets-same (Some u) (Some v) [] [] refl p q (ap (λ o. o ++ []) same)).0

abbrev with_visit : Record → Option (ℕ × ℕ) → Record
with_visit c visit = record c { visit = visit }

-- records are told by what is kept of them
pub record_same : (x y : Record) → IsRecord x → IsRecord y → (p : Key × Entry) → keyed_of x ≡ Some p → keyed_of y ≡ Some p → x ≡ y
record_same x y is_x is_y p one two =
    let of_x = item_parts x x.flow x.seq (hops_of x) p one in
    let of_y = item_parts y y.flow y.seq (hops_of y) p two in
    let cores : record_octets (core_of x) ≡ record_octets (core_of y) = sym of_x.0 ∙ of_y.0 in
    let visits : visit_octets x.visit ≡ visit_octets y.visit = sym of_x.1 ∙ of_y.1 in
    let core = record_octets-same (core_of x) (core_of y) [] [] (core_sayable x is_x) (core_sayable y is_y) (ap (λ o. o ++ []) cores) in
    let visit : x.visit ≡ y.visit = visit_same x.visit y.visit is_x.numbers.visit_below is_y.numbers.visit_below visits in
    ap₂ with_visit core.0 visit

pub keyed-cons : (x : Record) (xs : List Record) (p : Key × Entry) → keyed_of x ≡ Some p → keyed (x ∷ xs) ≡ p ∷ keyed xs
keyed-cons x xs p is = ap (λ o. with_keyed o (keyed xs)) is

first_same : (p q : Key × Entry) (ps qs : List (Key × Entry)) → p ∷ ps ≡ q ∷ qs → p ≡ q
first_same p q ps qs same = cc

rest_same : (p q : Key × Entry) (ps qs : List (Key × Entry)) → p ∷ ps ≡ q ∷ qs → ps ≡ qs
rest_same p q ps qs same = cc

no_first : (p : Key × Entry) (ps qs : List (Key × Entry)) → qs ≡ p ∷ ps → qs ≡ [] → ⊥
no_first p ps qs some none = let sizes : length (p ∷ ps) ≡ 0 = ap length (sym some ∙ none) in omega (arith, sizes)

pub records_same : (xs ys : List Record) → All IsRecord xs → All IsRecord ys → All HasKey xs → All HasKey ys → keyed xs ≡ keyed ys → xs ≡ ys
records_same [] [] of_x of_y keys_x keys_y same = refl
records_same [] (y ∷ ys) of_x of_y keys_x keys_y same =
    let key = All-head HasKey y ys keys_y in
    absurd (no_first key.0 (keyed ys) (keyed (y ∷ ys)) (keyed-cons y ys key.0 key.1) (sym same))
records_same (x ∷ xs) [] of_x of_y keys_x keys_y same =
    let key = All-head HasKey x xs keys_x in
    absurd (no_first key.0 (keyed xs) (keyed (x ∷ xs)) (keyed-cons x xs key.0 key.1) same)
records_same (x ∷ xs) (y ∷ ys) of_x of_y keys_x keys_y same =
    let key = All-head HasKey x xs keys_x in
    let other = All-head HasKey y ys keys_y in
    let whole : key.0 ∷ keyed xs ≡ other.0 ∷ keyed ys = sym (keyed-cons x xs key.0 key.1) ∙ same ∙ keyed-cons y ys other.0 other.1 in
    let pairs : key.0 ≡ other.0 = first_same key.0 other.0 (keyed xs) (keyed ys) whole in
    let first : x ≡ y = record_same x y (All-head IsRecord x xs of_x) (All-head IsRecord y ys of_y) key.0 key.1 (other.1 ∙ ap (λ p. Some p) (sym pairs)) in
    let rest : xs ≡ ys = records_same xs ys (All-tail IsRecord x xs of_x) (All-tail IsRecord y ys of_y) (All-tail HasKey x xs keys_x) (All-tail HasKey y ys keys_y)
    (rest_same key.0 other.0 (keyed xs) (keyed ys) whole) in
    ap₂ (λ (z : Record) (zs : List Record). z ∷ zs) first rest

-- ---- one spelling

pub octets_same : (one two : List ℕ) (xs ys : List Record) → IsPart one xs → IsPart two ys → keyed xs ≡ keyed ys → one ≡ two
octets_same one two xs ys is_one is_two same =
    is_one.is ∙ ap part_octets (records_same xs ys is_one.each is_two.each is_one.in_order.keys is_two.in_order.keys same) ∙ sym is_two.is

pub part_same : (one two : List ℕ) (groups : List (Key × List Entry)) → PartOf one groups → PartOf two groups → one ≡ two
part_same one two groups is_one is_two =
    octets_same one two is_one.records is_two.records is_one.part is_two.part (is_one.same ∙ sym is_two.same)

nothing : NoRecord []
nothing = cut-no-record [] (inl (omega arith))

pub part_unique : (octets : List ℕ) (xs ys : List Record) → IsPart octets xs → IsPart octets ys → xs ≡ ys
part_unique octets xs ys one two =
    let whole : four_octets (length xs) ++ records_octets xs ≡ four_octets (length ys) ++ records_octets ys = ap (Rattle.std.proofs.Common.drop 8) (sym one.is ∙ two.is) in
    let few_x = one.few in
    let few_y = two.few in
    let body = four_octets-same (length xs) (length ys) (records_octets xs) (records_octets ys) (omega (arith, few_x)) (omega (arith, few_y)) whole in
    (Splits-unique xs ys [] [] one.each two.each nothing nothing (append-nil (records_octets xs) ∙ body.1 ∙ sym (append-nil (records_octets ys)))).0

groups_kept : (ps qs : List (Key × Entry)) → kept_of ps ≡ kept_of qs → groups_of ps ≡ groups_of qs
groups_kept ps qs same = ap (λ kept. Rattle.std.proofs.Common.map (group kept) (keys_in kept)) same

pub groups_same : (octets : List ℕ) (ps qs : List (Key × Entry)) → PartOf octets (groups_of ps) → PartOf octets (groups_of qs) → groups_of ps ≡ groups_of qs
groups_same octets ps qs one two =
    groups_kept ps qs (sym (pairs_groups ps) ∙ sym one.same ∙ ap keyed (part_unique octets one.records two.records one.part two.part) ∙ two.same ∙ pairs_groups qs)

-- ---- parts that are joined

-- the part of the same groups
part_kept : (octets : List ℕ) (ps qs : List (Key × Entry)) → kept_of ps ≡ kept_of qs → PartOf octets (groups_of ps) → PartOf octets (groups_of qs)
part_kept octets ps qs same part = subst (PartOf octets) (groups_kept ps qs same) part

-- what is kept of the pairs of a part of groups
of_groups : (octets : List ℕ) (xs : List Record) (ps : List (Key × Entry)) → IsPart octets xs → PartOf octets (groups_of ps) → keyed xs ≡ kept_of ps
of_groups octets xs ps part of = ap keyed (part_unique octets xs of.records part of.part) ∙ of.same ∙ pairs_groups ps

pub joined_is : (one two both : List ℕ) (xs ys : List Record) → PartOf one (groups_of (keyed xs)) → PartOf two (groups_of (keyed ys)) → JoinsTo one two both
    → PartOf both (groups_of (keyed (xs ++ ys)))
joined_is one two both xs ys of_one of_two joins =
    let firsts : keyed joins.firsts ≡ kept_of (keyed xs) = of_groups one joins.firsts (keyed xs) joins.first of_one in
    let seconds : keyed joins.seconds ≡ kept_of (keyed ys) = of_groups two joins.seconds (keyed ys) joins.second of_two in
    part_kept both (keyed joins.firsts ++ keyed joins.seconds) (keyed (xs ++ ys))
    (ap kept_of (ap₂ (λ (ps qs : List (Key × Entry)). ps ++ qs) firsts seconds) ∙ sym (kept_parts (keyed xs) (keyed ys)) ∙ ap kept_of (sym (keyed-append xs ys)))
    joins.joined

pub joined_only : (one two both all : List ℕ) (xs ys : List Record) → PartOf one (groups_of (keyed xs)) → PartOf two (groups_of (keyed ys)) → JoinsTo one two both
    → PartOf all (groups_of (keyed (xs ++ ys))) → both ≡ all
joined_only one two both all xs ys of_one of_two joins of_all =
    part_same both all (groups_of (keyed (xs ++ ys))) (joined_is one two both xs ys of_one of_two joins) of_all

-- two parts of which as much is kept
both_same : (one two : List ℕ) (ps qs : List (Key × Entry)) → kept_of ps ≡ kept_of qs → PartOf one (groups_of ps) → PartOf two (groups_of qs) → one ≡ two
both_same one two ps qs same of_one of_two = part_same one two (groups_of qs) (part_kept one ps qs same of_one) of_two

-- the pairs of the two parts, whichever their records are called
pairs_joined : (one two both : List ℕ) (xs ys : List Record) → IsPart one xs → IsPart two ys → JoinsTo one two both → PartOf both (groups_of (keyed xs ++ keyed ys))
pairs_joined one two both xs ys of_one of_two joins =
    let firsts : joins.firsts ≡ xs = part_unique one joins.firsts xs joins.first of_one in
    let seconds : joins.seconds ≡ ys = part_unique two joins.seconds ys joins.second of_two in
    subst (λ ps. PartOf both (groups_of ps)) (ap₂ (λ (us vs : List Record). keyed us ++ keyed vs) firsts seconds) joins.joined

pub joined_swaps : (one two both other : List ℕ) → JoinsTo one two both → JoinsTo two one other → both ≡ other
joined_swaps one two both other here there =
    both_same both other (keyed here.firsts ++ keyed here.seconds) (keyed here.seconds ++ keyed here.firsts) (kept_swapped (keyed here.firsts) (keyed here.seconds))
    here.joined (pairs_joined two one other here.seconds here.firsts here.second here.first there)

pub joined_repeats : (one both : List ℕ) → JoinsTo one one both → both ≡ one
joined_repeats one both joins =
    let xs : List Record = joins.firsts in
    let twice : PartOf both (groups_of (keyed xs ++ keyed xs)) = pairs_joined one one both xs xs joins.first joins.first joins in
    let kept : keyed twice.records ≡ keyed xs = twice.same ∙ pairs_groups (keyed xs ++ keyed xs) ∙ kept_twice (keyed xs) ∙ apart_kept (keyed xs) joins.first.in_order.apart in
    octets_same both one twice.records xs twice.part joins.first kept

pub joined_associates : (one two three front back both other : List ℕ) → JoinsTo one two front → JoinsTo front three both → JoinsTo two three back
    → JoinsTo one back other → both ≡ other
joined_associates one two three front back both other a b c d =
    let xs : List (Key × Entry) = keyed a.firsts in
    let ys : List (Key × Entry) = keyed a.seconds in
    let zs : List (Key × Entry) = keyed b.seconds in
    let fronts : keyed b.firsts ≡ kept_of (xs ++ ys) = of_groups front b.firsts (xs ++ ys) b.first a.joined in
    let backs : keyed d.seconds ≡ kept_of (ys ++ zs) = of_groups back d.seconds (ys ++ zs) d.second (pairs_joined two three back a.seconds b.seconds a.second b.second c) in
    let left : kept_of (keyed b.firsts ++ zs) ≡ kept_of ((xs ++ ys) ++ zs) = ap (λ ps. kept_of (ps ++ zs)) fronts ∙ half_left (xs ++ ys) zs in
    let right : kept_of (xs ++ keyed d.seconds) ≡ kept_of (xs ++ (ys ++ zs)) = ap (λ ps. kept_of (xs ++ ps)) backs ∙ half_right xs (ys ++ zs) in
    both_same both other (keyed b.firsts ++ zs) (xs ++ keyed d.seconds) (left ∙ ap kept_of (append_three xs ys zs) ∙ sym right) b.joined
    (pairs_joined one back other a.firsts d.seconds a.first d.second d)
