use Rattle.std.proofs.Common.{◌≡◌, ◌∙◌, ◌++◌, ap, ℕ, ℤ, List, pos, append_assoc, to_z, of_z}
use Rattle.std.specs.Prelude.{int_lt, unsigned_abs}
use Rattle.std.specs.Int.{w128}
use Rattle.std.proofs.lemmas.Int.{to_z-of_z}
use Rattle.ioam_base.proofs.ResultLaws.{OnOk-map}
use Rattle.ioam_delay_lines.specs.Units.{sign_text, size_text}
use Rattle.ioam_delay_lines.proofs.units.put_time.Goals as goal

pub returns : goal.returns
returns c =
    let time = c.args.time in
    let before = c.args.out.now.items in
    let plain : to_z w128 (of_z w128 time) ≡ time = to_z-of_z w128 time c.ranges.time in
    OnOk-map c.put_size.result _ _ c.put_size.ensures (λ adds. adds
    ∙ ap (λ (said : List ℕ). said ++ size_text c.unsigned_abs.result)
    (c.in_ok-put_sign.ensures ∙ ap (λ (z : ℤ). before ++ sign_text (int_lt z (pos 0))) plain)
    ∙ ap (λ (size : ℕ). (before ++ sign_text (int_lt time (pos 0))) ++ size_text size) (c.unsigned_abs.ensures.value ∙ ap unsigned_abs plain)
    ∙ append_assoc before (sign_text (int_lt time (pos 0))) (size_text (unsigned_abs time)))
