-- What is written of a collector.
use Rattle.std.proofs.Common.{◌≡◌, ℕ, ◌≤◌, List, [], ◌∷◌, ◌++◌, length, map, take, All, Result, Ok, Err, refl, sym, ap, ap₂, ◌∙◌, subst, arith, append_assoc}
use Rattle.std.specs.Prelude.{OnErr}
use Rattle.std.proofs.lemmas.List.{take-take}
use Rattle.ioam_dex.specs.Record.{Record, IsRecord}
use Rattle.ioam_dex.specs.Reads.{records_octets}
use Rattle.ioam_pool.specs.Entry.{Entry}
use Rattle.ioam_collect.specs.Best.{kept_of, groups_of}
use Rattle.ioam_collect.specs.Collected.{Collected, Stands}
use Rattle.ioam_collect.specs.Join.{pairs_in}
use Rattle.ioam_collect.specs.Keyed.{keyed}
use Rattle.ioam_collect.specs.declared.key.Key.{Key}
use Rattle.ioam_collect.proofs.BestLaws.{group-has}
use Rattle.ioam_collect.proofs.JoinLaws.{pairs_groups}
use Rattle.ioam_collect.proofs.UniteLaws.{kept_apart}
use Rattle.ioam_part.specs.Part.{most_records, head_octets, PartOf, item_octets, items_octets, groups_octets, part_text}
use Rattle.ioam_part.proofs.RecordLaws.{pairs_octets, records_for, said}

-- ---- what was there

-- what holds holds where there is an error
pub on_err : {X E : Type 0} (r : Result X E) (P : Type 0) → P → OnErr r P
on_err (Ok x) P p = tt
on_err (Err e) P p = p

-- what was there at first is there still, where it was before the last text and that kept what was before it
pub kept_on : (first before after : List ℕ) → take (length first) before ≡ first → length first ≤ length before → take (length before) after ≡ before
    → take (length first) after ≡ first
kept_on first before after front more kept = sym (take-take (length first) (length before) after more) ∙ ap (take (length first)) kept ∙ front

-- ---- the records of pairs

pairs-append : (ps qs : List (Key × Entry)) → pairs_octets (ps ++ qs) ≡ pairs_octets ps ++ pairs_octets qs
pairs-append [] qs = refl
pairs-append (p ∷ ps) qs = ap (λ o. item_octets p.1 ++ o) (pairs-append ps qs) ∙ sym (append_assoc (item_octets p.1) (pairs_octets ps) (pairs_octets qs))

of_one_key : (key : Key) (es : List Entry) → pairs_octets (map (λ e. (key, e)) es) ≡ items_octets es
of_one_key key [] = refl
of_one_key key (e ∷ es) = ap (λ o. item_octets e ++ o) (of_one_key key es)

groups_pairs : (groups : List (Key × List Entry)) → groups_octets groups ≡ pairs_octets (pairs_in groups)
groups_pairs [] = refl
groups_pairs (g ∷ groups) =
    ap₂ (λ (a b : List ℕ). a ++ b) (sym (of_one_key g.0 g.1)) (groups_pairs groups)
    ∙ sym (pairs-append (map (λ e. (g.0, e)) g.1) (pairs_in groups))

-- ---- the whole

pub put_is : (c : Collected) (xs : List Record) → c.groups ≡ groups_of (keyed xs) → All IsRecord xs → Stands c xs → c.held ≤ most_records
    → PartOf (part_text c) (groups_of (keyed xs))
put_is c xs groups all stands few =
    let kept : List (Key × Entry) = kept_of (keyed xs) in
    let for = records_for kept (λ p has. said xs all p (group-has (keyed xs) p has).0) in
    let held : c.held ≡ length for.records = stands.groups.held ∙ sym for.count in
    let octets : groups_octets c.groups ≡ records_octets for.records =
    ap groups_octets groups ∙ groups_pairs (groups_of (keyed xs)) ∙ ap pairs_octets (pairs_groups (keyed xs)) ∙ for.octets in
    record {
      records = for.records;
      part = record {
        each = for.each;
        few = omega (arith, held, few);
        in_order = record { keys = for.keys; apart = subst Rattle.ioam_collect.specs.Unite.AreApart (sym for.same) (kept_apart (keyed xs)) };
        is = ap₂ (λ (n : ℕ) (o : List ℕ). head_octets n ++ o) held octets;
      };
      same = for.same ∙ sym (pairs_groups (keyed xs));
    }
