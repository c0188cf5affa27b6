-- Pairs in order with one more at their end.
use Rattle.std.proofs.Common.{◌≡◌, ℕ, true, false, List, [], ◌∷◌, ◌++◌, length, refl, ap, ap₂, ◌∙◌, arith, Option, None, Some}
use Rattle.std.specs.Prelude.{◌&&◌, is_some, unwrap_or}
use Rattle.std.specs.declared.cmp.Ordering.{Ordering}
use Rattle.std.specs.declared.cmp.Ordering.TheVariants.{Less, Equal, Greater}
use Rattle.ioam_dex.specs.Record.{Record, Rec, record_at}
use Rattle.ioam_pool.specs.Entry.{Entry}
use Rattle.ioam_collect.specs.Keyed.{hops_of, item_of, keyed_by, keyed_of}
use Rattle.ioam_collect.specs.Pairs.{pair_of}
use Rattle.ioam_collect.specs.Ranked.{IsLast, is_less, last_in, last_of, may_come, may_come_next}
use Rattle.ioam_collect.specs.Unite.{pair_meet, AreApart}
use Rattle.ioam_collect.specs.declared.key.Key.{Key}
use Rattle.ioam_collect.proofs.UniteLaws.{all_less}

less_is : (o : Ordering) → is_less o ≡ true → o ≡ Less
less_is Less is = refl
less_is Equal is = absurd (cc is)
less_is Greater is = absurd (cc is)

-- one that may come behind the last is behind all
pub comes : (ps : List (Key × Entry)) (q : Key × Entry) → AreApart ps → may_come (last_of ps) q ≡ true → AreApart (ps ++ q ∷ [])
comes [] q apart may = (tt, tt)
comes (p ∷ []) q apart may = ((less_is (pair_meet p q) may, tt), (tt, tt))
comes (p ∷ r ∷ ps) q apart may =
    let rest : AreApart (r ∷ (ps ++ q ∷ [])) = comes (r ∷ ps) q apart.1 may in
    ((apart.0.0, all_less p r (ps ++ q ∷ []) apart.0.0 rest.0), rest)

-- and one that is behind all may come behind the last
pub came : (ps : List (Key × Entry)) (q : Key × Entry) → AreApart (ps ++ q ∷ []) → may_come (last_of ps) q ≡ true
came [] q apart = refl
came (p ∷ []) q apart = ap is_less apart.0.0
came (p ∷ r ∷ ps) q apart = came (r ∷ ps) q apart.1

pub last-push : (ps : List (Key × Entry)) (q : Key × Entry) → last_of (ps ++ q ∷ []) ≡ Some q
last-push [] q = refl
last-push (p ∷ []) q = refl
last-push (p ∷ r ∷ ps) q = last-push (r ∷ ps) q

-- ---- the pair of a record

keyed_by_pair : (x : Record) (flow seq hops : Option ℕ) → is_some (keyed_by x flow seq hops) ≡ true
    → keyed_by x flow seq hops ≡ Some (record { namespace = record { 0 = x.namespace }; flow = unwrap_or flow 0; seq = unwrap_or seq 0 }, item_of (unwrap_or hops 0) x)
keyed_by_pair x None seq hops some = absurd (cc some)
keyed_by_pair x (Some f) None hops some = absurd (cc some)
keyed_by_pair x (Some f) (Some s) None some = absurd (cc some)
keyed_by_pair x (Some f) (Some s) (Some h) some = refl

pub keyed_pair : (x : Record) → is_some (keyed_of x) ≡ true → keyed_of x ≡ Some (pair_of x)
keyed_pair x some = keyed_by_pair x x.flow x.seq (hops_of x) some

keyed_by_all : (x : Record) (flow seq hops : Option ℕ) → is_some (keyed_by x flow seq hops) ≡ (is_some flow && (is_some seq && is_some hops))
keyed_by_all x None seq hops = refl
keyed_by_all x (Some f) None hops = refl
keyed_by_all x (Some f) (Some s) None = refl
keyed_by_all x (Some f) (Some s) (Some h) = refl

-- a record has a key if it has all three numbers
pub keyed_all : (x : Record) → is_some (keyed_of x) ≡ (is_some x.flow && (is_some x.seq && is_some (hops_of x)))
keyed_all x = keyed_by_all x x.flow x.seq (hops_of x)

-- ---- the last record, by its octets

pub last_some : (octets : List ℕ) → Rec octets (record_at octets) → last_in octets ≡ keyed_of (record_at octets)
last_some [] rec = absurd (omega (arith, ap length rec.is))
last_some (o ∷ os) rec = refl

pub is_last : (octets : List ℕ) → Rec octets (record_at octets) → is_some (keyed_of (record_at octets)) ≡ true → IsLast octets
is_last [] rec some = tt
is_last (o ∷ os) rec some = (rec, some)

pub last_there : (octets : List ℕ) → IsLast octets → (length octets ≡ 0 → ⊥) → Rec octets (record_at octets) × (is_some (keyed_of (record_at octets)) ≡ true)
last_there [] last some = absurd (some refl)
last_there (o ∷ os) last some = last

-- which record may come next, by the last one's octets
pub may_come_is : (octets : List ℕ) (y : Record) → Rec octets (record_at octets) → is_some (keyed_of (record_at octets)) ≡ true → is_some (keyed_of y) ≡ true
    → may_come_next (last_in octets) (keyed_of y) ≡ is_less (pair_meet (pair_of (record_at octets)) (pair_of y))
may_come_is octets y rec some next =
    ap₂ (λ last one. may_come_next last one) (last_some octets rec ∙ keyed_pair (record_at octets) some) (keyed_pair y next)

pub may_come_first : (octets : List ℕ) (y : Record) → length octets ≡ 0 → is_some (keyed_of y) ≡ true → may_come_next (last_in octets) (keyed_of y) ≡ true
may_come_first [] y none next = ap (may_come_next None) (keyed_pair y next)
may_come_first (o ∷ os) y none next = absurd (omega (arith, none))

pub never_comes : (last next : Option (Key × Entry)) → is_some next ≡ false → may_come_next last next ≡ false
never_comes last None none = refl
never_comes last (Some p) none = absurd (cc none)
