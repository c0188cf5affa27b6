use Rattle.std.proofs.Common.{◌≡◌, ◌∙◌, ap₂, sym}
use Rattle.std.specs.Cmp.Lexicographic.{slice_cmp}
use Rattle.std.specs.Ordering.{nat_cmp, ordering_then}
use Rattle.ioam_dex.specs.RecordRef.{content, fields_between, plain_head, plain_tail}
use Rattle.ioam_dex.proofs.RefLaws.{content-rec, plain-cmp}
use Rattle.ioam_dex.proofs.record_ref.RecordRef.cmp_plain.Goals as goal

pub returns : goal.returns
returns c =
    let one = c.args.self.now.octets.now in
    let two = c.args.other.now.octets.now in
    let heads : c.cmp-heads.result ≡ slice_cmp nat_cmp (plain_head one) (plain_head two) =
    c.cmp-heads.ensures ∙ ap₂ (λ a b. slice_cmp nat_cmp a b) (c.as_slice.ensures ∙ c.plain_head.ensures) (c.as_slice-2.ensures ∙ c.plain_head-2.ensures) in
    let between : c.cmp-between.result ≡ slice_cmp nat_cmp (fields_between one) (fields_between two) =
    c.cmp-between.ensures ∙ ap₂ (λ a b. slice_cmp nat_cmp a b) c.fields_between.ensures c.fields_between-2.ensures in
    let tails : c.cmp-tails.result ≡ slice_cmp nat_cmp (plain_tail one) (plain_tail two) =
    c.cmp-tails.ensures ∙ ap₂ (λ a b. slice_cmp nat_cmp a b) c.plain_tail.ensures c.plain_tail-2.ensures in
    c.then-2.ensures ∙ ap₂ ordering_then heads (c.then.ensures ∙ ap₂ ordering_then between tails)
    ∙ sym (plain-cmp one two (content c.args.self.now) (content c.args.other.now) (content-rec c.args.self.now) (content-rec c.args.other.now))
