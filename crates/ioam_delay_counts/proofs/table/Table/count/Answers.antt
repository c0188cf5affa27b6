use Rattle.std.proofs.Common.{◌≡◌, ◌<◌, ◌≤◌, ◌+◌, ◌∷◌, ◌++◌, [], ℕ, length, arith, length-append, refl, sym, ◌∙◌, ap, subst}
use Rattle.ioam_delay_counts.specs.Tables.{AreTallies, InOrder, grouped, rows_before}
use Rattle.ioam_delay_counts.specs.declared.table.Row.{Row}
use Rattle.ioam_delay_counts.proofs.TableLaws.{begun, in_order_insert, in_order_set, is_no, joined, passed}
use Rattle.ioam_delay_counts.proofs.table.Table.count.Goals as goal

pub returns-in_ok-add-clause-counted : goal.returns-in_ok-add-clause-counted
returns-in_ok-add-clause-counted g c = λ seen short is.
    let old = c.args.self.now in
    let found = c.has.ensures.yes c.if-has.true in
    let more = joined g.K.Key.before g.T.Tally.counts old.limit seen c.args.key.now c.args.item old.rows.items c.index_of-at.result is.rows_are (c.index_of-at.ensures.is is.in_order)
    c.index_mut.result.now c.index_mut.result.now (record { key = c.index_mut.result.now.key; tally = c.add.new.self }) old.others short found.0 c.index_mut.ensures.value
    (found.1 c.index_mut.result.now c.index_mut.ensures.value) c.index_mut.ensures.value refl c.in_ok-add.ensures is.others_are in
    record {
      rows_are = more.0;
      in_order = in_order_set g.K.Key.before g.K.Key.onward old.rows.items c.index_of-at.result (record { key = c.index_mut.result.now.key; tally = c.add.new.self }) c.index_mut.result.now
          (ap (λ (row : Row g.row.K.Denot g.row.T.Denot). row.key) c.index_mut.ensures.value) is.in_order;
      others_are = more.1;
      few_others = omega (arith, is.few_others, length-append seen ((c.args.key.now, c.args.item) ∷ []));
    }

pub returns-in_ok-insert-clause-counted : goal.returns-in_ok-insert-clause-counted
returns-in_ok-insert-clause-counted g c = λ seen short is.
    let old = c.args.self.now in
    let none = is_no g.K.Key.before g.T.Tally.counts old.limit seen c.args.key.now c.args.item old.rows.items c.index_of-at.result is.rows_are (c.index_of-at.ensures.is is.in_order)
    (c.has.ensures.no c.if-has.false) in
    let new : Row g.row.K.Denot g.row.T.Denot = record { key = c.take-key.result; tally = c.in_ok-tally.tally } in
    let room : length old.rows.items < old.limit = omega (arith, c.if-len-self.true, c.len.ensures, old.rows.ok.0) in
    let more = begun g.K.Key.before g.T.Tally.counts old.limit seen c.args.key.now c.args.item old.rows.items c.index_of-at.result is.rows_are (c.index_of-at.ensures.is is.in_order)
    new old.others none room c.take-key.ensures c.in_ok-tally.ensures is.others_are in
    record {
      rows_are = subst (AreTallies g.T.Tally.counts (length (seen ++ (c.args.key.now, c.args.item) ∷ [])) (grouped g.K.Key.before old.limit (seen ++ (c.args.key.now, c.args.item) ∷ [])).groups)
          (sym c.in_ok-insert.ensures.items) more.0;
      in_order = subst (InOrder g.K.Key.before) (sym c.in_ok-insert.ensures.items)
          (in_order_insert g.K.Key.before g.K.Key.onward old.rows.items c.index_of-at.result new
          (c.index_of-at.ensures.is is.in_order ∙ ap (rows_before g.K.Key.before old.rows.items) (sym c.take-key.ensures))
          (λ inside row row_is. ap (λ (key : g.row.K.Denot). g.K.Key.before key row.key) c.take-key.ensures ∙ c.has.ensures.no c.if-has.false inside row row_is) is.in_order);
      others_are = more.1;
      few_others = omega (arith, is.few_others, length-append seen ((c.args.key.now, c.args.item) ∷ []));
    }

pub returns-else-len-self-clause-counted : goal.returns-else-len-self-clause-counted
returns-else-len-self-clause-counted g c = λ seen short is.
    let old = c.args.self.now in
    let none = is_no g.K.Key.before g.T.Tally.counts old.limit seen c.args.key.now c.args.item old.rows.items c.index_of-at.result is.rows_are (c.index_of-at.ensures.is is.in_order)
    (c.has.ensures.no c.if-has.false) in
    let full : old.limit ≤ length old.rows.items = omega (arith, c.if-len-self.false, c.len.ensures, old.rows.ok.0) in
    let others : c.saturating_add-self.result ≡ old.others + 1 = omega (arith, c.saturating_add-self.ensures, is.few_others, short) in
    let more = passed g.K.Key.before g.T.Tally.counts old.limit seen c.args.key.now c.args.item old.rows.items c.index_of-at.result is.rows_are (c.index_of-at.ensures.is is.in_order)
    c.saturating_add-self.result none full (others ∙ ap (λ (n : ℕ). n + 1) is.others_are) in
    record {
      rows_are = more.0;
      in_order = is.in_order;
      others_are = more.1;
      few_others = omega (arith, others, is.few_others, length-append seen ((c.args.key.now, c.args.item) ∷ []));
    }
