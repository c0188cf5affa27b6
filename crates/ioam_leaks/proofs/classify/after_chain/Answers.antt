use Rattle.std.proofs.Common.{ℕ, subst, arith}
use Rattle.ioam_ip.specs.Chain.{EndsWith}
use Rattle.ioam_leaks.proofs.FindingLaws.{carries_to, ends_sound, no_hidden, no_leak}
use Rattle.ioam_leaks.proofs.classify.after_chain.Goals as goal

pub returns-in-58 : goal.returns-in-58
returns-in-58 c =
    let P : ℕ → Type 0 = λ upper. EndsWith c.args.packet.now upper c.args.at in (
      (λ carries. c.requires.clean (carries_to c.args.packet.now (ends_sound c.args.packet.now c.args.upper c.args.at c.requires.ends) carries)),
      record { at = c.args.at; ends = subst P c.in-58.is c.requires.ends; quotes = c.quotes.ensures.0 c.if-quotes.true },
    )

pub returns-in-50 : goal.returns-in-50
returns-in-50 c =
    let P : ℕ → Type 0 = λ upper. EndsWith c.args.packet.now upper c.args.at in (
      no_leak c.args.packet.now c.args.upper c.args.at c.requires.ends c.requires.clean (λ is. absurd (omega (arith, is, c.in-50.is))),
      (c.args.at, subst P c.in-50.is c.requires.ends),
    )

pub returns-in-51 : goal.returns-in-51
returns-in-51 c =
    let P : ℕ → Type 0 = λ upper. EndsWith c.args.packet.now upper c.args.at in (
      no_leak c.args.packet.now c.args.upper c.args.at c.requires.ends c.requires.clean (λ is. absurd (omega (arith, is, c.in-51.is))),
      (c.args.at, subst P c.in-51.is c.requires.ends),
    )

pub returns-in-44 : goal.returns-in-44
returns-in-44 c =
    let P : ℕ → Type 0 = λ upper. EndsWith c.args.packet.now upper c.args.at in (
      no_leak c.args.packet.now c.args.upper c.args.at c.requires.ends c.requires.clean (λ is. absurd (omega (arith, is, c.in-44.is))),
      (c.args.at, subst P c.in-44.is c.requires.ends),
    )

pub returns-in_default : goal.returns-in_default
returns-in_default c = (
  no_leak c.args.packet.now c.args.upper c.args.at c.requires.ends c.requires.clean (λ is quotes. absurd (cc (c.if-quotes.false, c.quotes.ensures.1 quotes))),
  no_hidden c.args.packet.now c.args.upper c.args.at c.requires.ends
      (λ is. absurd (omega (arith, is, c.in-58.is))) (λ is. absurd (omega (arith, is, c.in-58.is))) (λ is. absurd (omega (arith, is, c.in-58.is))),
)

pub returns-in_default-2 : goal.returns-in_default-2
returns-in_default-2 c = (
  no_leak c.args.packet.now c.args.upper c.args.at c.requires.ends c.requires.clean (λ is. absurd (omega (arith, is, c.in_default))),
  no_hidden c.args.packet.now c.args.upper c.args.at c.requires.ends
      (λ is. absurd (omega (arith, is, c.in_default))) (λ is. absurd (omega (arith, is, c.in_default))) (λ is. absurd (omega (arith, is, c.in_default))),
)
