-- How a reader of messages goes on.
use Rattle.std.proofs.Common.{◌≡◌, ℕ, ◌<◌, ◌≤◌, List, [], ◌∷◌, ◌++◌, length, take, drop, length-append, length-drop, refl, sym, ap, ◌∙◌, subst, arith}
use Rattle.std.proofs.lemmas.List.{take-append-drop, take-append-le, length-take-le}
use Rattle.ioam_base.specs.Chain.{Chain}
use Rattle.ioam_dex.specs.Record.{Record}
use Rattle.ioam_ipfix.specs.Messages.{joined, MessagePasses}
use Rattle.ioam_ipfix.specs.Reading.{Reading, place_of}
use Rattle.ioam_ipfix.specs.Reader.{GoesOver}
use Rattle.ioam_ipfix.specs.Sets.{Spot}
use Rattle.ioam_run_ipfix.proofs.MessagesLaws.{joined-longer}
use Rattle.ioam_run_ipfix.proofs.SizeLaws.{chain-append, chain-split}

none-long : (xs : List Record) → length xs ≤ 0 → xs ≡ []
none-long [] short = refl
none-long (x ∷ xs) short = absurd (omega (arith, short))

-- the first ones of messages without a record have none
bare-front : (count : ℕ) (before : List (List Record)) → joined before ≡ [] → joined (take count before) ≡ []
bare-front count before bare =
    let longer = joined-longer (take count before) (drop count before) in
    let same = ap (λ xss. length (joined xss)) (take-append-drop count before) in
    let none = ap length bare in
    none-long (joined (take count before)) (omega (arith, longer, same, none))

-- of the messages that it went over so many first ones, which have no record, and another behind them
pub record Further (a : Spot) (count : ℕ) : Type 0 where
  pub front : List (List Record)
  pub next : List Record
  pub place : Spot
  pub leads : Chain MessagePasses a (front ++ next ∷ []) place
  pub size : length front ≡ count
  pub bare : joined front ≡ []

pub goes-further : (old new : Reading) (given : List Record) (count : ℕ) (goes : GoesOver old new given) → count < length (goes.before ++ goes.last) → Further (place_of old) count
goes-further old new given count goes more = by-rest (drop count all) refl
  where
    all : List (List Record)
    all = goes.before ++ goes.last

    within : count ≤ length goes.before
    within = let single = goes.single in omega (arith, more, single, length-append goes.before goes.last)

    front : List (List Record)
    front = take count all

    front-is : front ≡ take count goes.before
    front-is = take-append-le count goes.before goes.last within

    by-rest : (rest : List (List Record)) → drop count all ≡ rest → Further (place_of old) count
    by-rest [] none = let left = length-drop count all in let size = ap length none in absurd (omega (arith, left, size, more))
    by-rest (next ∷ rest) is =
        let parts : all ≡ front ++ next ∷ rest = sym (take-append-drop count all) ∙ ap (λ xss. front ++ xss) is in
        let split = chain-split (place_of old) front (next ∷ rest) (place_of new)
        (subst (λ xss. Chain MessagePasses (place_of old) xss (place_of new)) parts goes.leads) in
        let here = split.2 in
        record {
          front = front;
          next = next;
          place = here.0;
          leads = chain-append (place_of old) front split.0 (next ∷ []) here.0 split.1 (here.0, here.1, refl);
          size = length-take-le count all (omega (arith, more));
          bare = ap joined front-is ∙ bare-front count goes.before goes.bare;
        }
