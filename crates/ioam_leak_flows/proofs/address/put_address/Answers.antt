use Rattle.std.proofs.Common.{◌≡◌, ◌++◌, List, ℕ, ap, ◌∙◌}
use Rattle.std.specs.Net.Text.{ipv6_text}
use Rattle.std.specs.Net.Addr.{segments_of}
use Rattle.ioam_leak_flows.specs.Lines.{address_text}
use Rattle.ioam_leak_flows.proofs.LineLaws.{appended}
use Rattle.ioam_leak_flows.proofs.address.put_address.Goals as goal

pub returns : goal.returns
returns c =
    let text : c.as_bytes.result.now ≡ address_text c.args.address =
    c.as_bytes.ensures.value ∙ c.in_ok-text.ensures.ok ∙ ap ipv6_text (c.from_octets.ensures ∙ ap segments_of c.to_be_bytes.ensures) in
    appended c.append.result c.args.out.now.items c.as_bytes.result.now c.append.new.out.items (c.args.out.now.items ++ address_text c.args.address) c.append.ensures
    (ap (λ (octets : List ℕ). c.args.out.now.items ++ octets) text)
