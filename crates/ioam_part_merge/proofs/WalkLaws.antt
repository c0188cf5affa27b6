-- Two parts that are walked side by side.
use Rattle.std.proofs.Common.{◌≡◌, ℕ, ◌+◌, ◌<◌, ◌≤◌, List, [], ◌∷◌, ◌++◌, length, length-append, drop, All, Option, None, Some, refl, sym, ap, ap₂, ◌∙◌, subst, arith}
use Rattle.std.proofs.lemmas.List.Elements.{All-append, All-head, All-tail}
use Rattle.std.specs.Prelude.{IsTrue, is_some}
use Rattle.ioam_dex.specs.Record.{Record, IsRecord, record_octets}
use Rattle.ioam_dex.specs.RecordRef.{AreRecords, content}
use Rattle.ioam_dex.specs.Reads.{records_octets}
use Rattle.ioam_dex.specs.declared.record_ref.RecordRef.{RecordRef}
use Rattle.ioam_dex.proofs.RefLaws.{content-rec}
use Rattle.ioam_collect.specs.Entry.{Entry}
use Rattle.ioam_collect.specs.Best.{groups_of, kept_of}
use Rattle.ioam_collect.specs.Collected.{count_kept}
use Rattle.ioam_collect.specs.Keyed.{keyed}
use Rattle.ioam_collect.specs.Unite.{AreApart, united}
use Rattle.ioam_collect.specs.declared.key.Key.{Key}
use Rattle.ioam_collect.proofs.BestLaws.{group-has}
use Rattle.ioam_collect.proofs.JoinLaws.{pairs_groups}
use Rattle.ioam_collect.proofs.JoiningLaws.{keyed-append}
use Rattle.ioam_collect.proofs.Members.{Has}
use Rattle.ioam_collect.proofs.UniteLaws.{kept_apart, united_kept}
use Rattle.ioam_part.specs.Part.{HasKey, IsPart, PartOf, head_octets}
use Rattle.ioam_part.proofs.RecordLaws.{item_is, records_for, said}
use Rattle.ioam_part_merge.specs.Walk.{ShowsNext, IsSide, Walking, Comes, NextIs, left_of, pairs_octets, size_of, taken_of}
use Rattle.ioam_part_merge.specs.declared.side.Side.{Side}
use Rattle.ioam_part_merge.specs.declared.step.Step.{Step}
use Rattle.ioam_part_merge.proofs.SideLaws.{some_octets}
use Rattle.ioam_part_merge.proofs.TurnLaws.{TakesFirst, TakesSecond, TakesBoth, LeavesFirst, LeavesSecond}

-- ---- a side goes on

-- of a side whose record that is next was taken off
record Follows (side : Side) (e : RecordRef) (x : Record) (rest : List Record) : Type 0 where
  says : e.octets.now ≡ record_octets x
  sayable : IsRecord x
  each : All IsRecord rest
  keys : All HasKey rest
  behind : side.behind ≡ records_octets rest

follows : (side : Side) (e : RecordRef) (xs : List Record) (x : Record) (rest : List Record) → side.next ≡ Some e → xs ≡ x ∷ rest → IsSide side xs → Follows side e x rest
follows side e xs x rest is are s =
    let t : IsSide side (x ∷ rest) = subst (IsSide side) are s in
    let shows : ShowsNext (Some e) side.behind (x ∷ rest) = subst (λ o. ShowsNext o side.behind (x ∷ rest)) is t.shows in
    record {
      says = (content-rec e).is ∙ ap record_octets shows.0;
      sayable = All-head IsRecord x rest t.each;
      each = All-tail IsRecord x rest t.each;
      keys = All-tail HasKey x rest t.keys;
      behind = shows.1;
    }

-- the record that is next, if it is there
there_by : (next : Option RecordRef) → IsTrue (is_some next) → (e : RecordRef) × (next ≡ Some e)
there_by None some = absurd (cc some)
there_by (Some e) some = (e, refl)

pub there : (side : Side) → IsTrue (is_some side.next) → (e : RecordRef) × (side.next ≡ Some e)
there side some = there_by side.next some

-- what making a side of octets gives
abbrev pub Makes : List ℕ → Side → Type 0
Makes octets side = (xs : List Record) → All IsRecord xs → All HasKey xs → octets ≡ records_octets xs → IsSide side xs

-- the step that takes a record which is there
pub taken_is : (next : Option RecordRef) (e : RecordRef) (step : Step) → step ≡ taken_of next → next ≡ Some e → step ≡ taken_of (Some e)
taken_is next e step is some = is ∙ ap taken_of some

-- ---- the walk goes on

module _ (walk new : Walking) (ps : List (Key × Entry)) (comes : Comes walk ps) (e : RecordRef) where
  pub step_first : walk.first.next ≡ Some e → TakesFirst comes.firsts comes.seconds → Makes walk.first.behind new.first → new.second ≡ walk.second → NextIs ps e.octets.now new
  step_first next takes makes same =
      let t = follows walk.first e comes.firsts takes.one takes.rest next takes.are comes.first in
      record {
        pair = takes.pair;
        rest = united (keyed takes.rest) (keyed comes.seconds);
        are = comes.are ∙ takes.finds;
        is = t.says ∙ sym (item_is takes.one takes.pair t.sayable takes.says);
        comes = record {
          firsts = takes.rest;
          seconds = comes.seconds;
          first = makes takes.rest t.each t.keys t.behind;
          second = subst (λ s. IsSide s comes.seconds) (sym same) comes.second;
          are = refl;
        };
      }

  pub step_second : walk.second.next ≡ Some e → TakesSecond comes.firsts comes.seconds → Makes walk.second.behind new.second → new.first ≡ walk.first → NextIs ps e.octets.now new
  step_second next takes makes same =
      let t = follows walk.second e comes.seconds takes.one takes.rest next takes.are comes.second in
      record {
        pair = takes.pair;
        rest = united (keyed comes.firsts) (keyed takes.rest);
        are = comes.are ∙ takes.finds;
        is = t.says ∙ sym (item_is takes.one takes.pair t.sayable takes.says);
        comes = record {
          firsts = comes.firsts;
          seconds = takes.rest;
          first = subst (λ s. IsSide s comes.firsts) (sym same) comes.first;
          second = makes takes.rest t.each t.keys t.behind;
          are = refl;
        };
      }

  pub step_both : (f : RecordRef) → walk.first.next ≡ Some e → walk.second.next ≡ Some f → TakesBoth comes.firsts comes.seconds → Makes walk.first.behind new.first → Makes walk.second.behind new.second → NextIs ps e.octets.now new
  step_both f next next' takes makes makes' =
      let t = follows walk.first e comes.firsts takes.one takes.rest next takes.are comes.first in
      let u = follows walk.second f comes.seconds takes.other takes.others next' takes.are_others comes.second in
      record {
        pair = takes.pair;
        rest = united (keyed takes.rest) (keyed takes.others);
        are = comes.are ∙ takes.finds;
        is = t.says ∙ sym (item_is takes.one takes.pair t.sayable takes.says);
        comes = record {
          firsts = takes.rest;
          seconds = takes.others;
          first = makes takes.rest t.each t.keys t.behind;
          second = makes' takes.others u.each u.keys u.behind;
          are = refl;
        };
      }

  pub step_without_first : walk.first.next ≡ Some e → LeavesFirst comes.firsts comes.seconds → Makes walk.first.behind new.first → new.second ≡ walk.second → Comes new ps
  step_without_first next leaves makes same =
      let t = follows walk.first e comes.firsts leaves.one leaves.rest next leaves.are comes.first in
      record {
        firsts = leaves.rest;
        seconds = comes.seconds;
        first = makes leaves.rest t.each t.keys t.behind;
        second = subst (λ s. IsSide s comes.seconds) (sym same) comes.second;
        are = comes.are ∙ leaves.goes;
      }

  pub step_without_second : walk.second.next ≡ Some e → LeavesSecond comes.firsts comes.seconds → Makes walk.second.behind new.second → new.first ≡ walk.first → Comes new ps
  step_without_second next leaves makes same =
      let t = follows walk.second e comes.seconds leaves.one leaves.rest next leaves.are comes.second in
      record {
        firsts = comes.firsts;
        seconds = leaves.rest;
        first = subst (λ s. IsSide s comes.firsts) (sym same) comes.first;
        second = makes leaves.rest t.each t.keys t.behind;
        are = comes.are ∙ leaves.goes;
      }

pub step_done : (walk : Walking) (ps : List (Key × Entry)) (comes : Comes walk ps) → (comes.firsts ≡ []) × (comes.seconds ≡ []) → ps ≡ []
step_done walk ps comes none = comes.are ∙ ap₂ (λ (xs ys : List Record). united (keyed xs) (keyed ys)) none.0 none.1

-- ---- it begins

pub begins : (one two : List ℕ) (walk : Walking) (xs ys : List Record) → IsPart one xs → IsPart two ys → IsSide walk.first xs → IsSide walk.second ys
    → Comes walk (united (keyed xs) (keyed ys))
begins one two walk xs ys p q first second = record { firsts = xs; seconds = ys; first = first; second = second; are = refl }

-- ---- what comes of it is the part of both

pub text_is_part : (one two : List ℕ) (xs ys : List Record) → IsPart one xs → IsPart two ys → length (united (keyed xs) (keyed ys)) ≤ 1048576
    → PartOf (head_octets (length (united (keyed xs) (keyed ys))) ++ pairs_octets (united (keyed xs) (keyed ys))) (groups_of (keyed xs ++ keyed ys))
text_is_part one two xs ys p q few =
    let ps : List (Key × Entry) = keyed xs ++ keyed ys in
    let us : List (Key × Entry) = united (keyed xs) (keyed ys) in
    let kept : us ≡ kept_of ps = united_kept (keyed xs) (keyed ys) p.in_order.apart q.in_order.apart in
    let for = records_for us (λ z has.
    said (xs ++ ys) (All-append IsRecord xs ys p.each q.each) z
    (subst (λ zs. Has zs z) (sym (keyed-append xs ys)) (group-has ps z (subst (λ zs. Has zs z) kept has)).0)) in
    let count = for.count in
    record {
      records = for.records;
      part = record {
        each = for.each;
        few = omega (arith, count, few);
        in_order = record { keys = for.keys; apart = subst AreApart (sym (for.same ∙ kept)) (kept_apart ps) };
        is = ap₂ (λ (n : ℕ) (o : List ℕ). head_octets n ++ o) (sym count) for.octets;
      };
      same = for.same ∙ kept ∙ sym (pairs_groups ps);
    }

-- how many records both hold together
pub count_is : (one two : List ℕ) (xs ys : List Record) → IsPart one xs → IsPart two ys → length (united (keyed xs) (keyed ys)) ≡ count_kept (xs ++ ys)
count_is one two xs ys p q =
    ap length (united_kept (keyed xs) (keyed ys) p.in_order.apart q.in_order.apart) ∙ ap (λ ps. length (kept_of ps)) (sym (keyed-append xs ys))

-- the octets of a part behind its head
pub body_is : (part : List ℕ) (xs : List Record) → IsPart part xs → (12 ≤ length part) × (drop 12 part ≡ records_octets xs)
body_is part xs p = (
  (let size = ap length p.is in let both = length-append (head_octets (length xs)) (records_octets xs) in omega (arith, size, both)),
  ap (drop 12) p.is,
)

pub are_records : (part : List ℕ) (xs : List Record) → IsPart part xs → AreRecords (drop 12 part)
are_records part xs p = (xs, p.each, (body_is part xs p).1)

-- ---- fewer octets are left

module _ (side new : Side) (e : RecordRef) (next : side.next ≡ Some e) (few : left_of new ≤ length side.behind) where
  one_less : left_of new < left_of side
  one_less = omega (arith, some_octets e, few, ap size_of next)

  pub fewer_one : (others : ℕ) → left_of new + others < left_of side + others
  fewer_one others = omega (arith, one_less)

  pub fewer_other : (others : ℕ) → others + left_of new < others + left_of side
  fewer_other others = omega (arith, one_less)

  pub fewer_both : (other new' : Side) → left_of new' ≤ length other.behind → left_of new + left_of new' < left_of side + left_of other
  fewer_both other new' few' = omega (arith, one_less, few')
