use Rattle.std.proofs.Common.{◌≡◌, true, Some, refl, ap, sym, ◌∙◌}
use Rattle.ioam_topo_values.specs.Addresses.{is_plain}
use Rattle.ioam_topo_values.proofs.AddressLaws.{spells_address, no_text}
use Rattle.ioam_topo_values.proofs.addresses.address_of.Goals as goal

pub returns-in-Ok : goal.returns-in-Ok
returns-in-Ok c =
    let plain : is_plain c.args.text.now ≡ true = cc in
    ap Some c.to_bits.ensures ∙ sym (spells_address c.args.text.now _ (record { address = c.in-Ok.address; plain = plain; spells = c.in-Ok.ensures; is = refl }))

pub returns-in-Err : goal.returns-in-Err
returns-in-Err c =
    let plain : is_plain c.args.text.now ≡ true = cc in
    rw (plain, no_text c.args.text.now c.in-Err.ensures) refl
