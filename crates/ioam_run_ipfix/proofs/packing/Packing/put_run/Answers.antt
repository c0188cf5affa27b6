use Rattle.std.proofs.Common.{◌≡◌, List, ℕ, ap, ◌∙◌, subst, sym}
use Rattle.ioam_ipfix.specs.Written.{IsRunText}
use Rattle.ioam_run_ipfix.specs.Packing.{Packed}
use Rattle.ioam_run_ipfix.proofs.PackingLaws.{run-text}
use Rattle.ioam_run_ipfix.proofs.packing.Packing.put_run.Goals as goal

pub put_message-requires : goal.put_message-requires
put_message-requires c =
    let packed = c.requires.packed in
    let P : List ℕ → Type 0 = λ o. IsRunText o in
    let octets : c.args.self.now.octets ≡ c.octets.result.now = sym (c.octets.ensures ∙ ap (λ (p : Packed). p.octets) c.self.view_is) in
    subst P octets (run-text c.args.self.now c.requires.some packed.0 packed.1 packed.2)
