use Rattle.std.proofs.Common.{◌≡◌, ℕ, List, length, ap, ◌∙◌, arith}
use Rattle.std.proofs.lemmas.List.{with_items_is}
use Rattle.ioam_base.specs.Octets.{written}
use Rattle.ioam_tunnel.proofs.OuterLaws.{headed, headed-front, headed-laid, headed-length, headed-zeros}
use Rattle.ioam_tunnel.proofs.outer.Outer.new.Goals as goal

pub invariant_of-result : goal.invariant_of-result
invariant_of-result c =
    let head : List ℕ = c.args.head.now in
    let made = c.resize.new.self in
    let old = c.in_ok-octets.octets in
    let size : length head ≡ 40 = omega arith in
    let long : length c.put_at.new.octets ≡ length c.deref_mut.result.now = omega arith in
    let same : length c.put_at.new.octets ≡ length made.items = omega (arith, long, ap length c.deref_mut.ensures.value) in
    let put = with_items_is made c.put_at.new.octets (omega (arith, same)) ∙ c.put_at.ensures ∙ ap (λ (xs : List ℕ). written xs 0 head) c.deref_mut.ensures.value in
    let is = headed old.items made.items _ head old.len c.args.options c.in_ok-octets.ensures.items (omega (arith, ap length c.in_ok-octets.ensures.items))
    c.in_ok-resize.ensures.items size put in
    (omega arith, omega (arith, headed-length _ head c.args.options size is), headed-zeros _ head c.args.options size is)

pub returns-clause-front : goal.returns-clause-front
returns-clause-front c =
    let head : List ℕ = c.args.head.now in
    let made = c.resize.new.self in
    let old = c.in_ok-octets.octets in
    let size : length head ≡ 40 = omega arith in
    let long : length c.put_at.new.octets ≡ length c.deref_mut.result.now = omega arith in
    let same : length c.put_at.new.octets ≡ length made.items = omega (arith, long, ap length c.deref_mut.ensures.value) in
    let put = with_items_is made c.put_at.new.octets (omega (arith, same)) ∙ c.put_at.ensures ∙ ap (λ (xs : List ℕ). written xs 0 head) c.deref_mut.ensures.value in
    let is = headed old.items made.items _ head old.len c.args.options c.in_ok-octets.ensures.items (omega (arith, ap length c.in_ok-octets.ensures.items))
    c.in_ok-resize.ensures.items size put in
    headed-front _ head c.args.options size is

pub returns-clause-laid : goal.returns-clause-laid
returns-clause-laid c =
    let head : List ℕ = c.args.head.now in
    let made = c.resize.new.self in
    let old = c.in_ok-octets.octets in
    let size : length head ≡ 40 = omega arith in
    let long : length c.put_at.new.octets ≡ length c.deref_mut.result.now = omega arith in
    let same : length c.put_at.new.octets ≡ length made.items = omega (arith, long, ap length c.deref_mut.ensures.value) in
    let put = with_items_is made c.put_at.new.octets (omega (arith, same)) ∙ c.put_at.ensures ∙ ap (λ (xs : List ℕ). written xs 0 head) c.deref_mut.ensures.value in
    let is = headed old.items made.items _ head old.len c.args.options c.in_ok-octets.ensures.items (omega (arith, ap length c.in_ok-octets.ensures.items))
    c.in_ok-resize.ensures.items size put in
    headed-laid _ head c.args.options size is
