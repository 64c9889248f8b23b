-- `run` meets its contract: at each step the list reached and the steps left give the whole run (`Reached` of proofs/Reached.antt). Assumes nothing.
use Rattle.std.proofs.Common.{rules, Err, ◌≡◌, ◌∙◌, refl}
use Rattle.numbers.proofs.Refusals.{number_some}
use Rattle.list.specs.Questions.{stepped_of}
use Rattle.plan.proofs.Reached.{reached_none, reached_more, reached_stop, reached_all}
use Rattle.plan.proofs.run.Goals as goal

pub loop-k-init : goal.loop-k-init
loop-k-init c = reached_none _ _ c.requires _ c.tidied-now.ensures

pub returns-in_err-now : goal.returns-in_err-now
returns-in_err-now c =
    let r = c.in_err-now.field-0.0 in
    let l = c.args.list.now in
    let e : stepped_of l c.from_residual.result ≡ stepped_of l (Err r) = search rules in
    e ∙ reached_stop l _ _ _ c.loop-k.invariant (rw c.len-k-end.ensures at c.loop-k-test.true) _ c.step.ensures _ c.in_err-now.ensures (number_some r)

pub loop-k-preserved : goal.loop-k-preserved
loop-k-preserved c = reached_more _ _ _ _ c.loop-k.invariant (rw c.len-k-end.ensures at c.loop-k-test.true) _ c.step.ensures _ c.in_ok-now.ensures refl

pub returns : goal.returns
returns c = reached_all _ _ _ _ (rw c.len-k-end.ensures at c.loop-k-test.false) c.loop-k.invariant
