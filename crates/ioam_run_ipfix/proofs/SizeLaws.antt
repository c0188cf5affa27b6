-- Messages one behind the other, joined and cut, and their sizes.
use Rattle.std.proofs.Common.{ℕ, zero, suc, ◌+◌, ◌*◌, ◌<◌, ◌≤◌, List, [], ◌∷◌, ◌++◌, length, drop, length-drop, refl, sym, ap, subst, arith}
use Rattle.ioam_base.specs.Chain.{Chain}
use Rattle.ioam_base.specs.Octets.{u16_at, IsOctets}
use Rattle.ioam_base.proofs.OctetsLaws.{u16_at-fits}
use Rattle.ioam_dex.specs.Record.{Record}
use Rattle.ioam_ipfix.specs.Messages.{MessagePasses}
use Rattle.ioam_ipfix.specs.Reading.{Reading, fed, place_of}
use Rattle.ioam_ipfix.specs.Reader.{Stands, Waits}
use Rattle.ioam_ipfix.specs.Sets.{Spot, spot}
use Rattle.ioam_ipfix.specs.Templates.{none_known}
use Rattle.ioam_run_ipfix.specs.Messages.{most_messages}

-- ---- octets

pub octets-append : (xs ys : List ℕ) → IsOctets xs → IsOctets ys → IsOctets (xs ++ ys)
octets-append [] ys small more i = more i
octets-append (x ∷ xs) ys small more zero = small zero
octets-append (x ∷ xs) ys small more (suc i) = octets-append xs ys (λ j. small (suc j)) more i

octets-drop : (n : ℕ) (xs : List ℕ) → IsOctets xs → IsOctets (drop n xs)
octets-drop zero xs small i = small i
octets-drop (suc n) [] small i = small i
octets-drop (suc n) (x ∷ xs) small i = octets-drop n xs (λ j. small (suc j)) i

-- ---- messages

pub chain-append : (a : Spot) (xs : List (List Record)) (b : Spot) (ys : List (List Record)) (c : Spot) → Chain MessagePasses a xs b → Chain MessagePasses b ys c
    → Chain MessagePasses a (xs ++ ys) c
chain-append a [] b ys c here rest = subst (λ p. Chain MessagePasses p ys c) (sym here) rest
chain-append a (x ∷ xs) b ys c (m, first, more) rest = (m, first, chain-append m xs b ys c more rest)

pub chain-split : (a : Spot) (xs ys : List (List Record)) (c : Spot) → Chain MessagePasses a (xs ++ ys) c
    → (b : Spot) × Chain MessagePasses a xs b × Chain MessagePasses b ys c
chain-split a [] ys c leads = (a, refl, leads)
chain-split a (x ∷ xs) ys c (m, first, rest) = let parts = chain-split m xs ys c rest in (parts.0, (m, first, parts.1), parts.2)

chain-most : (a : Spot) (xs : List (List Record)) (b : Spot) → IsOctets a.octets → Chain MessagePasses a xs b → length a.octets ≤ 65535 * length xs + length b.octets
chain-most a [] b small here = let same = ap (λ (s : Spot). length s.octets) here in omega (arith, same)
chain-most a (x ∷ xs) b small (m, first, rest) =
    let there : IsOctets m.octets = subst IsOctets (sym first.behind) (octets-drop (u16_at a.octets 2) a.octets small) in
    let more = chain-most m xs b there rest in
    let size = ap length first.behind in
    let left = length-drop (u16_at a.octets 2) a.octets in
    let fits = u16_at-fits a.octets 2 small in
    omega (arith, more, size, left, fits, first.whole.there)

-- what a reader within the limit was fed
pub reader-room : (reader : Reading) (octets : List ℕ) (given : List Record) → Stands reader octets given → IsOctets octets → reader.messages ≤ most_messages → Waits reader
    → fed reader < 4397979533311
reader-room reader octets given stands small few waits =
    let most = chain-most (spot none_known octets) stands.messages (place_of reader) small stands.leads in
    let count = stands.count in
    let inside = stands.inside in
    let left = waits.2 in
    omega (arith, most, count, inside, few, left)
