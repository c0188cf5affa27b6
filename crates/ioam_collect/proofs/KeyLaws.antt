-- Laws of keys, and of pairs of a key and an item.
use Rattle.std.proofs.Common.{◌≡◌, ◌≢◌, ℕ, true, false, refl, sym, ap, ap₂, ◌∙◌, ◌⊎◌, inl, inr, ⊎_elim}
use Rattle.std.specs.Cmp.{IsTotalOrder}
use Rattle.std.specs.Ordering.{nat_cmp, ordering_then, is_eq}
use Rattle.std.specs.declared.cmp.Ordering.{Ordering}
use Rattle.std.specs.declared.cmp.Ordering.TheVariants.{Less, Equal, Greater}
use Rattle.std.proofs.lemmas.Bool.{cases_Bool}
use Rattle.std.proofs.lemmas.Cmp.{nat_cmp_total, on_total, then_total, tied_itself, ranked}
use Rattle.ioam_pool.specs.Entry.{Entry}
use Rattle.ioam_pool.specs.Order.{order}
use Rattle.ioam_pool.proofs.OrderLaws.{order_total, order_same, bare_itself}
use Rattle.ioam_collect.specs.Keyed.{key_cmp}
use Rattle.ioam_collect.specs.Best.{pair_cmp, tells, untold}
use Rattle.ioam_collect.specs.declared.key.Key.{Key}

pub key_total : IsTotalOrder key_cmp
key_total = then_total (on_total (λ (k : Key). k.namespace.0) nat_cmp_total) (then_total (on_total (λ (k : Key). k.flow) nat_cmp_total) (on_total (λ (k : Key). k.seq) nat_cmp_total))

pub then_equal : (a b : Ordering) → ordering_then a b ≡ Equal → (a ≡ Equal) × (b ≡ Equal)
then_equal Less b e = absurd (cc e)
then_equal Equal b e = (refl, e)
then_equal Greater b e = absurd (cc e)

abbrev same_key : ℕ → ℕ → ℕ → Key
same_key namespace flow seq = record { namespace = record { 0 = namespace }; flow = flow; seq = seq }

pub key_same : (a b : Key) → key_cmp a b ≡ Equal → a ≡ b
key_same a b e =
    let one : (nat_cmp a.namespace.0 b.namespace.0 ≡ Equal) × (ordering_then (nat_cmp a.flow b.flow) (nat_cmp a.seq b.seq) ≡ Equal) = then_equal _ _ e in
    let two : (nat_cmp a.flow b.flow ≡ Equal) × (nat_cmp a.seq b.seq ≡ Equal) = then_equal _ _ one.1 in
    let namespace : a.namespace.0 ≡ b.namespace.0 = ranked a.namespace.0 b.namespace.0 Equal (sym one.0) in
    let flow : a.flow ≡ b.flow = ranked a.flow b.flow Equal (sym two.0) in
    let seq : a.seq ≡ b.seq = ranked a.seq b.seq Equal (sym two.1) in
    ap (λ n. same_key n a.flow a.seq) namespace ∙ ap₂ (same_key b.namespace.0) flow seq

pub eq_equal : (o : Ordering) → is_eq o ≡ true → o ≡ Equal
eq_equal Less e = absurd (cc e)
eq_equal Equal e = refl
eq_equal Greater e = absurd (cc e)

-- a key is this one, or the test says that it isn't
pub key_or_not : (key other : Key) → (key ≡ other) ⊎ (is_eq (key_cmp key other) ≡ false)
key_or_not key other = ⊎_elim (λ yes. inl (key_same key other (eq_equal (key_cmp key other) yes))) (λ isnt. inr isnt) (cases_Bool (is_eq (key_cmp key other)))

pub key_itself : (key : Key) → is_eq (key_cmp key key) ≡ true
key_itself key = ap is_eq (tied_itself key_total key)

pub key_not : (key other : Key) → other ≢ key → is_eq (key_cmp key other) ≡ false
key_not key other apart = ⊎_elim (λ same. absurd (apart (sym same))) (λ isnt. isnt) (key_or_not key other)

-- ---- pairs

pub pair_total : IsTotalOrder pair_cmp
pair_total = then_total (on_total (λ (p : Key × Entry). p.0) key_total) (on_total (λ (p : Key × Entry). p.1) order_total)

abbrev pub pair : Key → Entry → Key × Entry
pair key e = (key, e)

pub pair_same : (a b : Key × Entry) → pair_cmp a b ≡ Equal → a ≡ b
pair_same a b e =
    let parts : (key_cmp a.0 b.0 ≡ Equal) × (order a.1 b.1 ≡ Equal) = then_equal _ _ e in
    ap₂ pair (key_same a.0 b.0 parts.0) (order_same a.1 b.1 parts.1)

pub pair_itself : (p : Key × Entry) → is_eq (pair_cmp p p) ≡ true
pair_itself p = ap is_eq (tied_itself pair_total p)

-- one without its visit doesn't tell it, and is itself without it
pub untold_tells : (y p : Key × Entry) → untold y ≡ p → tells p ≡ true → ⊥
untold_tells y p same full = let not_so : tells p ≡ false = ap tells (sym same) in absurd (cc (not_so, full))

pub untold_itself : (p : Key × Entry) → tells p ≡ false → untold p ≡ p
untold_itself p is = ap (pair p.0) (bare_itself p.1 is)
