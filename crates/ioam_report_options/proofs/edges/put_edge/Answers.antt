use Rattle.std.proofs.Common.{List, ℕ, ◌++◌, is_ok, cond, ap, ◌∙◌, inl, inr, refl, rules}
use Rattle.ioam_report_options.specs.OptionText.{front_text}
use Rattle.ioam_report_options.proofs.AppendsLaws.{Appends-text}
use Rattle.ioam_report_options.proofs.edges.put_edge.Goals as goal

pub returns-in-Ok : goal.returns-in-Ok
returns-in-Ok c =
    let shown : List ℕ → List ℕ = λ xs. cond (is_ok c.finish_line.result) (c.args.out.now.items ++ (front_text c.args.front.kind c.args.front.at ++ xs)) c.args.out.now.items in
    Appends-text c.finish_line.result _ _ _ _ (c.finish_line.ensures ∙ ap shown c.put_value.ensures.value) (
      _,
      inl (
        c.in-Ok.edge,
        record {
          namespace_below = search rules;
          kind_below = search rules;
          seq64_below = search rules;
          seq32_below = search rules;
          seconds_below = search rules;
          fraction_below = search rules;
        },
        c.in-Ok.ensures.reads,
        refl,
      ),
      refl,
    )

pub returns-in-Err : goal.returns-in-Err
returns-in-Err c = Appends-text c.put_bad.result _ _ _ _ c.put_bad.ensures (_, inr (_, c.in-Err.ensures.reads, refl), refl)
