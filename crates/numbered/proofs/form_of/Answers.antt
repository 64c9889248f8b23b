-- `form_of` meets its contract: question 3 of the counts, 4 of what no field could hold, and the others as crate plan answers them for the arrays
-- (proofs/Formed.antt). Assumes nothing.
use Rattle.std.proofs.Common.{rules, ◌≡◌, ◌∙◌}
use Rattle.numbers.specs.Numbers.{answer_of, number_of}
use Rattle.plan.proofs.Judged.{plan_answer}
use Rattle.numbered.proofs.Chunks.{grouped_lem}
use Rattle.numbered.proofs.Formed.{form_is, form_judged}
use Rattle.numbered.proofs.form_of.Goals as goal

pub returns-in_err-rewrite-clause-judged : goal.returns-in_err-rewrite-clause-judged
returns-in_err-rewrite-clause-judged c =
    let e : answer_of c.from_residual.result ≡ number_of c.in_err-rewrite.field-0.0 = search rules in
    let g = grouped_lem _ _ _ _ c.as_chunks.ensures.front c.as_chunks.ensures.front_len c.as_chunks-2.ensures.front c.as_chunks-2.ensures.front_len in
    e ∙ plan_answer _ _ _ _ c.in_err-rewrite.ensures
    ∙ form_judged _ _ _ _ _ g c.if-not-count-step_count.false
    _ _ c.channels_fit.ensures c.flags_allowed.ensures c.if-not-channels_fit-flags_allowed.false _ _ c.list_of.ensures c.steps_of.ensures

pub returns-clause-judged : goal.returns-clause-judged
returns-clause-judged c =
    let g = grouped_lem _ _ _ _ c.as_chunks.ensures.front c.as_chunks.ensures.front_len c.as_chunks-2.ensures.front c.as_chunks-2.ensures.front_len in
    plan_answer _ _ _ _ c.in_ok-rewrite.ensures
    ∙ form_judged _ _ _ _ _ g c.if-not-count-step_count.false
    _ _ c.channels_fit.ensures c.flags_allowed.ensures c.if-not-channels_fit-flags_allowed.false _ _ c.list_of.ensures c.steps_of.ensures

pub returns-clause-form : goal.returns-clause-form
returns-clause-form c =
    let g = grouped_lem _ _ _ _ c.as_chunks.ensures.front c.as_chunks.ensures.front_len c.as_chunks-2.ensures.front c.as_chunks-2.ensures.front_len in
    form_is c.args.version _ _ _ _ g c.if-not-count-step_count.false
    _ _ c.channels_fit.ensures c.flags_allowed.ensures c.if-not-channels_fit-flags_allowed.false _ _ c.list_of.ensures c.steps_of.ensures
