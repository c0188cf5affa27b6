use Rattle.std.proofs.Common.{length, refl, sym, ap, ◌∙◌, subst, arith}
use Rattle.ioam_ipfix.specs.Reading.{Reading}
use Rattle.ioam_ipfix.specs.Reader.{IsFaulty, Advances}
use Rattle.ioam_ipfix.specs.declared.reader.Found.TheVariants as found
use Rattle.ioam_ipfix.proofs.ReaderLaws.{Stands-takes, goes-none, goes-takes, takes-not-faulty}
use Rattle.ioam_ipfix.proofs.reader.IpfixReader.advance.Goals as goal

pub taking-init : goal.taking-init
taking-init c = record {
  keeps = λ octets given stands. stands;
  fed = refl;
  held = refl;
  goes = goes-none c.args.self.now;
  faulty = λ f bad. refl;
  still = λ some. refl;
}

pub taking-preserved : goal.taking-preserved
taking-preserved c =
    let old = c.args.self.now in
    let mid = c.taking.self in
    let new = c.step.new.self in
    let was = c.taking.invariant in
    let takes = c.in-Taken.ensures in
    record {
      keeps = λ octets given stands. Stands-takes mid new takes octets given (was.keeps octets given stands);
      fed = takes.fed ∙ was.fed;
      held = takes.held ∙ was.held;
      goes = goes-takes old mid new was.goes takes;
      faulty = λ f bad. absurd (takes-not-faulty mid new takes f (subst (λ r. IsFaulty r f) (sym (was.faulty f bad)) bad));
      still = λ some.
          let none = ap length takes.none in
          let same = ap (λ (r : Reading). length r.due) (was.still some) in
          absurd (omega (arith, some, none, same));
    }

pub returns-in-More : goal.returns-in-More
returns-in-More c =
    let was = c.taking.invariant in
    let e = c.in-More.ensures in
    subst (λ r. Advances c.args.self.now r found.More) (sym e.0)
    (record { keeps = was.keeps; fed = was.fed; held = was.held; goes = was.goes; faulty = was.faulty; still = was.still; due = e.1 })

pub returns-in-Bad : goal.returns-in-Bad
returns-in-Bad c =
    let was = c.taking.invariant in
    let e = c.in-Bad.ensures in
    subst (λ r. Advances c.args.self.now r (found.Bad c.in-Bad.fault)) (sym e.0)
    (record { keeps = was.keeps; fed = was.fed; held = was.held; goes = was.goes; faulty = was.faulty; still = was.still; due = e.1 })
