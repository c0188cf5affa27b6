-- What two parts join to.
use Rattle.std.proofs.Common.{◌≡◌, ℕ, ◌<◌, Bool, List, [], length, ◌++◌, append-nil, append_assoc, refl, sym, ap, ◌∙◌, subst, inl, inr, arith, Option, None, Some, Ok, Err}
use Rattle.std.specs.Prelude.{Result, IfOk}
use Rattle.ioam_desk.specs.Desk.{Writing}
use Rattle.ioam_desk.specs.declared.fault.DeskFault.{DeskFault}
use Rattle.ioam_desk.specs.declared.fault.DeskFault.TheVariants.{Failed, NoMemory}
use Rattle.ioam_run_answer.specs.Record.{Record}
use Rattle.ioam_collect.specs.Best.{groups_of}
use Rattle.ioam_collect.specs.Entry.{Entry}
use Rattle.ioam_collect.specs.Keyed.{keyed}
use Rattle.ioam_collect.specs.Unite.{united}
use Rattle.ioam_collect.specs.declared.key.Key.{Key}
use Rattle.ioam_collect.proofs.JoinLaws.{pairs_groups}
use Rattle.ioam_collect.proofs.JoiningLaws.{keyed-append}
use Rattle.ioam_collect.proofs.UniteLaws.{apart_kept}
use Rattle.ioam_part.specs.Part.{IsPart, PartOf, JoinsTo, head_octets}
use Rattle.ioam_part.proofs.PartLaws.{joined_is, joined_only, joined_swaps, joined_associates, joined_repeats, groups_same, part_same}
use Rattle.ioam_part_merge.specs.Walk.{Walking, Comes, NextIs, left, pairs_octets}
use Rattle.ioam_part_merge.proofs.WalkLaws.{count_is, text_is_part}
use Rattle.ioam_run_answer.specs.declared.outcome.Outcome.{Outcome}
use Rattle.ioam_run_answer.specs.declared.outcome.Outcome.TheVariants as outcome
use Rattle.ioam_run_part.specs.Joined.{Counts, CountsBoth, IsPlan, PutsAll, PutsRecords, PutsSome, RefusesJoined, SaysJoined, WritesJoined, head_if, left_of}
use Rattle.ioam_run_part.specs.Telling.{Puts, PutsPart}
use Rattle.ioam_stream.specs.declared.conversion.Tail.{Tail}
use Rattle.ioam_stream.specs.declared.conversion.Tail.TheVariants as tail
use Rattle.ioam_run_part.specs.declared.joined.Joined.{Joined}
use Rattle.ioam_run_part.specs.MergePromise.{IsMerged, IsUnion}
use Rattle.ioam_run_part.specs.Records.{IsPartOfAll, KeepFew}
use Rattle.ioam_run_part.specs.Stored.{Stores, answer_of}

-- a part is that of the groups of its records
pub of_part : (octets : List ℕ) (xs : List Record) → IsPart octets xs → IsPartOfAll xs octets
of_part octets xs part = record { records = xs; part = part; same = sym (pairs_groups (keyed xs) ∙ apart_kept (keyed xs) part.in_order.apart) }

joins : (one two both : List ℕ) (xs ys : List Record) → IsPart one xs → IsPart two ys → IsPartOfAll (xs ++ ys) both → JoinsTo one two both
joins one two both xs ys first second all =
    record { firsts = xs; seconds = ys; first = first; second = second; joined = subst (λ ps. PartOf both (groups_of ps)) (keyed-append xs ys) all }

pub merged : (one two both : List ℕ) (xs ys : List Record) → IsPart one xs → IsPart two ys → IsPartOfAll (xs ++ ys) both → IsMerged one two both
merged one two both xs ys first second all = record {
  joins = joins one two both xs ys first second all;
  alone = λ other there. joined_only one two other both xs ys (of_part one xs first) (of_part two ys second) there all;
}

pub union : (one two both : List ℕ) → JoinsTo one two both → IsUnion one two both
union one two both joins = record {
  of_all = λ us vs of_one of_two. joined_is one two both us vs of_one of_two joins;
  swaps = λ other there. sym (joined_swaps one two both other joins there);
  associates = λ three all back other a b c. joined_associates one two three both back all other joins a b c;
  repeats = λ same. joined_repeats one both (subst (λ o. JoinsTo one o both) (sym same) joins);
  equal = λ us vs of_one of_two. (
    (λ same. groups_same one (keyed us) (keyed vs) of_one (subst (λ o. PartOf o (groups_of (keyed vs))) (sym same) of_two)),
    (λ same. part_same one two (groups_of (keyed us)) of_one (subst (PartOf two) (sym same) of_two)),
  );
}

-- the part of both was written, or a front of it
pub written : (tells : Bool) (name : List ℕ) (xs ys : List Record) (old new : Writing) (text : List ℕ) (r : Result (Unit {0}) DeskFault) → KeepFew xs ys
    → IsPartOfAll (xs ++ ys) text → Stores tells name text old new r → WritesJoined tells name xs ys old new (answer_of r)
written tells name xs ys old new text (Ok done) few part stores = (few, record { text = text; part = part; held = stores.1 }, stores.0)
written tells name xs ys old new text (Err Failed) few part stores = (stores.0, record { text = text; part = part; held = stores.1 })
written tells name xs ys old new text (Err NoMemory) few part stores = inr (record { text = text; part = part; held = stores })

-- how many records both have, by how many come of a walk
pub counted : (one two : List ℕ) (xs ys : List Record) (count : Option ℕ) → IsPart one xs → IsPart two ys → Counts (united (keyed xs) (keyed ys)) count → CountsBoth xs ys count
counted one two xs ys None p q past = let same = count_is one two xs ys p q in omega (arith, same, past)
counted one two xs ys (Some count) p q counts = let same = count_is one two xs ys p q in let is = counts.0 in let few = counts.1 in omega (arith, same, is, few)

-- what a plan has
pub plan_is : (one two : List ℕ) (xs ys : List Record) (walk : Walking) (count : ℕ) → IsPart one xs → IsPart two ys
    → Counts (united (keyed xs) (keyed ys)) (Some count) → Comes walk (united (keyed xs) (keyed ys)) → IsPlan xs ys (Some count) walk
plan_is one two xs ys walk count p q counts comes = record { few = counted one two xs ys (Some count) p q counts; comes = comes; same = ap Some counts.0 }

-- the part of both
abbrev pub both_text : List Record → List Record → List ℕ
both_text xs ys = head_octets (length (united (keyed xs) (keyed ys))) ++ pairs_octets (united (keyed xs) (keyed ys))

pub both_part : (one two : List ℕ) (xs ys : List Record) → IsPart one xs → IsPart two ys → KeepFew xs ys → IsPartOfAll (xs ++ ys) (both_text xs ys)
both_part one two xs ys p q few =
    let same = count_is one two xs ys p q in
    subst (λ ps. PartOf (both_text xs ys) (groups_of ps)) (sym (keyed-append xs ys)) (text_is_part one two xs ys p q (omega (arith, same, few)))

-- is what a plan says
pub planned : (xs ys : List Record) (count : Option ℕ) (walk : Walking) → IsPlan xs ys count walk → SaysJoined count walk (both_text xs ys)
planned xs ys count walk plan = record {
  pairs = united (keyed xs) (keyed ys);
  comes = plan.comes;
  is = ap (λ (o : Option ℕ). head_if o ++ pairs_octets (united (keyed xs) (keyed ys))) (sym plan.same);
}

-- ---- one part of it is said

abbrev pub Says : Joined → List ℕ → Type 0
Says j text = SaysJoined j.count j.walk text

abbrev pub Left : Joined → ℕ
Left j = left_of j.count j.walk

abbrev pub joined : Option ℕ → Walking → Joined
joined count walk = record { count = count; walk = walk }

-- the head
pub head_put : (count : ℕ) (walk : Walking) (before after : List ℕ) → after ≡ before ++ head_octets count → PutsPart Says Left (joined (Some count) walk) (joined None walk) before after
head_put count walk before after is = record {
  fewer = omega arith;
  added = head_octets count;
  is = is;
  rest = λ text says. (pairs_octets says.pairs, record { pairs = says.pairs; comes = says.comes; is = refl }, says.is);
}

-- nothing yet
pub none_yet : (walk : Walking) (out : List ℕ) → PutsSome walk walk out out
none_yet walk out = record { added = []; is = sym (append-nil out); rest = λ ps comes. (ps, comes, refl) }

-- the next record
pub record_put : (old mid new : Walking) (octets before between after : List ℕ) → PutsSome old mid before between
    → ((ps : List (Key × Entry)) → Comes mid ps → NextIs ps octets new) → after ≡ between ++ octets → PutsSome old new before after
record_put old mid new octets before between after puts next is = record {
  added = puts.added ++ octets;
  is = is ∙ ap (λ (o : List ℕ). o ++ octets) puts.is ∙ append_assoc before puts.added octets;
  rest = λ ps comes.
      let now = puts.rest ps comes in
      let one = next now.0 now.1 in (
        one.rest,
        one.comes,
        now.2 ∙ ap (λ (o : List ℕ). puts.added ++ o) (ap pairs_octets one.are ∙ ap (λ (o : List ℕ). o ++ pairs_octets one.rest) (sym one.is))
            ∙ sym (append_assoc puts.added octets (pairs_octets one.rest)),
      );
}

-- none is left
pub none_left : (old mid new : Walking) (before between : List ℕ) → PutsSome old mid before between → ((ps : List (Key × Entry)) → Comes mid ps → ps ≡ [])
    → PutsAll old new before between
none_left old mid new before between puts none = record {
  added = puts.added;
  is = puts.is;
  all = λ ps comes.
      let now = puts.rest ps comes in
      now.2 ∙ ap (λ (o : List ℕ). puts.added ++ o) (ap pairs_octets (none now.0 now.1)) ∙ append-nil puts.added;
}

-- some of the records were said, or the last of them
pub records_put : (old new : Walking) (before after : List ℕ) (more : Tail) → PutsRecords old new before after more → Puts Says Left (joined None old) (joined None new) before after more
records_put old new before after tail.Rest puts = record {
  fewer = puts.0;
  added = puts.1.added;
  is = puts.1.is;
  rest = λ text says.
      let now = puts.1.rest says.pairs says.comes in
      (pairs_octets now.0, record { pairs = now.0; comes = now.1; is = refl }, says.is ∙ now.2);
}
records_put old new before after tail.End puts = record {
  added = puts.added;
  is = puts.is;
  all = λ text says. says.is ∙ puts.all says.pairs says.comes;
}

pub puts_so : {E : Type 0} (old new : Walking) (before after : List ℕ) (result : Result Tail E) → IfOk result (PutsRecords old new before after)
    → IfOk result (Puts Says Left (joined None old) (joined None new) before after)
puts_so old new before after (Ok more) puts = records_put old new before after more puts
puts_so old new before after (Err e) puts = tt

-- nothing was opened
pub unwritten : (tells : Bool) (name : List ℕ) (xs ys : List Record) (old : Writing) (answer : Outcome) → RefusesJoined xs ys answer → WritesJoined tells name xs ys old old answer
unwritten tells name xs ys old (outcome.Records limit) refuses = (refuses.0, refuses.1, refl)
unwritten tells name xs ys old outcome.NoMemory refuses = inl refl
unwritten tells name xs ys old _ refuses = absurd refuses
