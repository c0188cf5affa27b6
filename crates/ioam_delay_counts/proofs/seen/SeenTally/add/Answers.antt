use Rattle.std.proofs.Common.{◌∷◌, ◌++◌, [], List, ℤ, sym, ◌∙◌, ap, subst, arith, length-append}
use Rattle.std.specs.Option.{option_to_list}
use Rattle.std.specs.List.{filter_map}
use Rattle.ioam_delays.specs.declared.sight.Sight.{Sight}
use Rattle.ioam_delay_counts.specs.Tallies.{CountsAll, is_bad, is_long, is_time, taken_of}
use Rattle.ioam_delay_counts.proofs.CountLaws.{kept_few, kept_more, tested_more}
use Rattle.ioam_delay_counts.proofs.seen.SeenTally.add.Goals as goal

pub returns : goal.returns
returns c = λ items short is.
    let old = c.args.self.now in
    let item = c.args.item in
    let h = λ (s : Sight). taken_of s.transit in
    let P : List ℤ → Type 0 = λ delays. CountsAll delays c.put_some.new.delays in
    record {
      count_is = omega (arith, c.saturating_add-self.ensures, is.count_is, short, length-append items (item ∷ []));
      stamped_is = tested_more (λ (s : Sight). is_time s.stamp) items item old.stamped c.from.result _ c.is_time.result is.stamped_is c.is_time.ensures c.from.ensures c.saturating_add-self-2.ensures short;
      bad_is = tested_more (λ (s : Sight). is_bad s.stamp) items item old.bad c.from-2.result _ c.is_bad.result is.bad_is c.is_bad.ensures c.from-2.ensures c.saturating_add-self-3.ensures short;
      long_is = tested_more (λ (s : Sight). is_long s.transit) items item old.long c.from-3.result _ c.is_long.result is.long_is c.is_long.ensures c.from-3.ensures c.saturating_add-self-4.ensures short;
      delays_are = subst P (ap (λ o. filter_map h items ++ option_to_list o) c.taken_of.ensures ∙ sym (kept_more h items item))
          (c.in_ok-put_some.ensures (filter_map h items) (omega (arith, short, kept_few h items)) is.delays_are);
    }
