use Rattle.std.proofs.Common.{◌≡◌, ◌+◌, ◌-◌, ◌∙◌, ap, arith, length, subst, sym, true}
use Rattle.std.specs.Option.{is_some}
use Rattle.ioam_dex.specs.Record.{Rec, Record, record_at}
use Rattle.ioam_dex.specs.RecordRef.{content}
use Rattle.ioam_dex.specs.Room.{Room, appended}
use Rattle.ioam_dex.specs.declared.record_ref.RecordRef.{RecordRef}
use Rattle.ioam_dex.proofs.RefLaws.{content-at, content-rec}
use Rattle.ioam_collect.specs.Keyed.{keyed_of}
use Rattle.ioam_collect.specs.Ranked.{IsLast, last_in}
use Rattle.ioam_collect.proofs.RankedLaws.{is_last, last_some}
use Rattle.ioam_collect.proofs.ranking.Ranking.push.Goals as goal

-- what a record's octets say
says : (e : RecordRef) → Rec e.octets.now (record_at e.octets.now)
says e = subst (λ (x : Record). Rec e.octets.now x) (content-at e) (content-rec e)

pub invariant_of-self : goal.invariant_of-self
invariant_of-self c =
    let e = c.args.export.now in
    let room = c.append.ensures ∙ ap (λ (r : Room). appended r e.octets.now) c.clear.ensures in
    let octets : c.append.new.self.octets ≡ e.octets.now = ap (λ (r : Room). r.octets) room in
    let spare : c.append.new.self.spare ≡ c.self.inside.last.spare + length c.self.inside.last.octets - length e.octets.now = ap (λ (r : Room). r.spare) room in
    let some : is_some (keyed_of (content e)) ≡ true = sym c.has_key.ensures ∙ c.if-not-has_key.false in
    let key : is_some (keyed_of (record_at e.octets.now)) ≡ true = subst (λ (x : Record). is_some (keyed_of x) ≡ true) (content-at e) some in (
      subst IsLast (sym octets) (is_last e.octets.now (says e) key),
      omega (arith, spare, ap length octets, c.self.invariant.1, e.short),
    )

pub returns : goal.returns
returns c =
    let e = c.args.export.now in
    let room = c.append.ensures ∙ ap (λ (r : Room). appended r e.octets.now) c.clear.ensures in
    let octets : c.append.new.self.octets ≡ e.octets.now = ap (λ (r : Room). r.octets) room in (
      sym c.may_come.ensures ∙ c.if-not-may_come.false,
      ap last_in octets ∙ last_some e.octets.now (says e) ∙ ap keyed_of (sym (content-at e)),
    )
