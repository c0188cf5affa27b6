use Rattle.std.proofs.Common.{◌∙◌, ◌++◌, ap, List, ℕ, ℤ, to_z, of_z}
use Rattle.std.specs.Int.{w128}
use Rattle.std.proofs.lemmas.Int.{to_z-of_z}
use Rattle.ioam_base.proofs.ResultLaws.{OnOk-map}
use Rattle.ioam_delay_lines.specs.Units.{padded, time_text}
use Rattle.ioam_delay_lines.proofs.picture.put_bound.Goals as goal

pub returns : goal.returns
returns c =
    let before = c.args.out.now.items in
    OnOk-map c.put_padded.result _ _ c.put_padded.ensures (λ adds. adds
    ∙ ap (λ (text : List ℕ). before ++ padded 7 text) (c.deref.ensures.value ∙ c.in_ok-put_time.ensures
    ∙ ap (λ (text : List ℕ). text ++ time_text (to_z w128 (of_z w128 c.least.result))) c.new-text.ensures.items)
    ∙ ap (λ (time : ℤ). before ++ padded 7 (time_text time)) (to_z-of_z w128 c.least.result (record { sfits = c.least.type_inv }) ∙ c.least.ensures))
