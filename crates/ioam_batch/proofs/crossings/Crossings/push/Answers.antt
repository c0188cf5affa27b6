use Rattle.std.proofs.Common.{◌≡◌, ◌<◌, ◌≤◌, ◌+◌, ◌++◌, ◌∷◌, [], ℕ, List, Bool, true, false, Some, drop, take, get_or, length, sym, ap, ◌∙◌, length-drop, arith}
use Rattle.std.proofs.lemmas.List.{with_items_is}
use Rattle.ioam_base.specs.Octets.{written}
use Rattle.ioam_batch.specs.Crossings.{Crossed, filled, parted, taps_of}
use Rattle.ioam_batch.proofs.CrossingLaws.{filled-front, filled-most, filled-tap, next-tap, parted-written, taps-all}
use Rattle.ioam_batch.proofs.crossings.Crossings.push.Goals as goal

pub put_at-requires : goal.put_at-requires
put_at-requires c =
    let i = c.self.inside in
    let ahead : c.args.self.now.ahead ≡ drop i.done i.taps.items = sym (ap (λ (v : Crossed). v.ahead) c.self.view_is) in
    let size : c.args.self.now.size ≡ i.size = sym (ap (λ (v : Crossed). v.size) c.self.view_is) in
    let some : 0 < length (drop i.done i.taps.items) = omega (arith, c.requires.left, ap length ahead) in
    let next : get_or (drop i.done i.taps.items) 0 false ≡ true = sym (ap (λ (xs : List Bool). get_or xs 0 false) ahead) ∙ c.requires.tap in
    let start : i.next ≡ filled i.size (take i.done i.taps.items) = c.self.invariant.4 in
    let said : filled i.size i.taps.items ≤ length i.octets.items = c.self.invariant.3 in
    omega (
      arith,
      start,
      said,
      c.requires.size,
      size,
      ap length c.deref_mut.ensures.value,
      filled-tap i.size i.taps.items i.done some next,
      filled-front i.size i.taps.items (i.done + 1),
    )

pub overflow_add-self : goal.overflow_add-self
overflow_add-self c =
    let i = c.self.inside in
    let start : i.next ≡ filled i.size (take i.done i.taps.items) = c.self.invariant.4 in
    omega (
      arith,
      start,
      c.self.invariant.0,
      c.self.invariant.1,
      filled-front i.size i.taps.items i.done,
      filled-most i.size i.taps.items c.self.invariant.0,
    )

pub invariant_of-self : goal.invariant_of-self
invariant_of-self c =
    let i = c.self.inside in
    let ahead : c.args.self.now.ahead ≡ drop i.done i.taps.items = sym (ap (λ (v : Crossed). v.ahead) c.self.view_is) in
    let some : 0 < length (drop i.done i.taps.items) = omega (arith, c.requires.left, ap length ahead) in
    let next : get_or (drop i.done i.taps.items) 0 false ≡ true = sym (ap (λ (xs : List Bool). get_or xs 0 false) ahead) ∙ c.requires.tap in
    let start : i.next ≡ filled i.size (take i.done i.taps.items) = c.self.invariant.4 in
    let said : filled i.size i.taps.items ≤ length i.octets.items = c.self.invariant.3 in
    let long : length c.put_at.new.octets ≡ length c.deref_mut.result.now = omega arith in
    let same : length c.put_at.new.octets ≡ length i.octets.items = omega (arith, long, ap length c.deref_mut.ensures.value) in
    let kept = ap length (with_items_is i.octets c.put_at.new.octets (omega (arith, same))) ∙ same in (
      c.self.invariant.0,
      c.self.invariant.1,
      omega (arith, some, length-drop i.done i.taps.items),
      omega (arith, said, kept),
      omega (arith, start, filled-tap i.size i.taps.items i.done some next),
    )

pub returns-clause-past : goal.returns-clause-past
returns-clause-past c =
    let i = c.self.inside in
    let ahead : c.args.self.now.ahead ≡ drop i.done i.taps.items = sym (ap (λ (v : Crossed). v.ahead) c.self.view_is) in
    let size : c.args.self.now.size ≡ i.size = sym (ap (λ (v : Crossed). v.size) c.self.view_is) in
    let past : c.args.self.now.past ≡ parted i.size (take i.done i.taps.items) i.octets.items = sym (ap (λ (v : Crossed). v.past) c.self.view_is) in
    let some : 0 < length (drop i.done i.taps.items) = omega (arith, c.requires.left, ap length ahead) in
    let next : get_or (drop i.done i.taps.items) 0 false ≡ true = sym (ap (λ (xs : List Bool). get_or xs 0 false) ahead) ∙ c.requires.tap in
    let start : i.next ≡ filled i.size (take i.done i.taps.items) = c.self.invariant.4 in
    let said : filled i.size i.taps.items ≤ length i.octets.items = c.self.invariant.3 in
    let within : i.next ≤ length i.octets.items = omega (arith, start, said, filled-front i.size i.taps.items i.done) in
    let long : length c.put_at.new.octets ≡ length c.deref_mut.result.now = omega arith in
    let same : length c.put_at.new.octets ≡ length i.octets.items = omega (arith, long, ap length c.deref_mut.ensures.value) in
    ap (λ xs. parted i.size (take (i.done + 1) i.taps.items) xs)
    (with_items_is i.octets c.put_at.new.octets (omega (arith, same)) ∙ c.put_at.ensures
    ∙ ap (λ (xs : List ℕ). written xs i.next c.args.octets.now) c.deref_mut.ensures.value)
    ∙ ap (λ ts. parted i.size ts (written i.octets.items i.next c.args.octets.now)) (next-tap i.taps.items i.done true some next)
    ∙ parted-written i.size (take i.done i.taps.items) i.octets.items c.args.octets.now i.next start within (c.requires.size ∙ size)
    ∙ ap (λ xs. xs ++ Some c.args.octets.now ∷ []) (sym past)

pub returns-clause-taps : goal.returns-clause-taps
returns-clause-taps c =
    let i = c.self.inside in
    taps-all i.size i.taps.items (i.done + 1) _ ∙ sym (taps-all i.size i.taps.items i.done i.octets.items) ∙ ap taps_of c.self.view_is
