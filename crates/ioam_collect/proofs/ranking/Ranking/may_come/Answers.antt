use Rattle.std.proofs.Common.{◌≡◌, ◌==◌, ◌∙◌, List, ℕ, Option, ap, false, length, subst, sym, true}
use Rattle.std.proofs.lemmas.Bool.{false≢true}
use Rattle.std.specs.Option.{is_some}
use Rattle.ioam_dex.specs.Record.{Rec, Record, record_at}
use Rattle.ioam_dex.specs.RecordRef.{content}
use Rattle.ioam_pool.specs.Entry.{Entry}
use Rattle.ioam_collect.specs.Keyed.{keyed_of}
use Rattle.ioam_collect.specs.Pairs.{pair_of}
use Rattle.ioam_collect.specs.Ranked.{IsLast, is_less, last_in, may_come_next}
use Rattle.ioam_collect.specs.Unite.{pair_meet}
use Rattle.ioam_collect.specs.declared.key.Key.{Key}
use Rattle.ioam_collect.proofs.RankedLaws.{last_there, may_come_is}
use Rattle.ioam_collect.proofs.ranking.Ranking.may_come.Goals as goal

-- the last record is there
there : (octets last : List ℕ) → octets ≡ last → IsLast last → false ≡ (length octets == 0) → Rec octets (record_at octets) × (is_some (keyed_of (record_at octets)) ≡ true)
there octets last is so some = last_there octets (subst IsLast (sym is) so) (λ none. false≢true (some ∙ ap (λ n. n == 0) none))

pub new-requires : goal.new-requires
new-requires c =
    let octets = c.octets-last.result.now in
    (record_at octets, (there octets c.self.inside.last.octets c.octets-last.ensures c.self.invariant.0 c.if-is_empty.ensures).0)

pub returns : goal.returns
returns c =
    let octets = c.octets-last.result.now in
    let y = content c.args.export.now in
    let last = there octets c.self.inside.last.octets c.octets-last.ensures c.self.invariant.0 c.if-is_empty.ensures in
    c.is_less.ensures
    ∙ ap is_less (c.meet.ensures ∙ ap (λ (x : Record). pair_meet (pair_of x) (pair_of y)) (c.new.ensures.says (record_at octets) last.0))
    ∙ sym (may_come_is octets y last.0 last.1 c.requires)
    ∙ ap (λ (l : Option (Key × Entry)). may_come_next l (keyed_of y)) (ap last_in c.octets-last.ensures ∙ c.self.view_is)
