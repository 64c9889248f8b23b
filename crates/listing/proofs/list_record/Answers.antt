-- `list_record` meets its contract: the record's refusal, or its lines on a page, then their copy where there is room (proofs/Outcomes.antt).
-- Assumes nothing.
use Rattle.std.proofs.Common.{rules, ◌≡◌, ◌∙◌, sym}
use mathlib.Core.Path.{ap}
use native.Mathlib.Omega.{arith}
use lib.ListN.{length}
use Rattle.numbers.specs.Numbers.{answer_of, number_of}
use Rattle.numbers.proofs.Refusals.{number_some}
use Rattle.record.proofs.Placed.{put_placed}
use Rattle.listing.specs.Listing.{listing}
use Rattle.listing.proofs.Outcomes.{room_left, list_refused, list_short, list_whole}
use Rattle.listing.proofs.list_record.Goals as goal

pub returns-in_err-put_record : goal.returns-in_err-put_record
returns-in_err-put_record c =
    let r = c.in_err-put_record.field-0.0 in
    let e : answer_of c.from_residual.result ≡ number_of r = search rules in
    let k = list_refused c.args.bytes.now c.args.text.now c.args.size.now _ c.in_err-put_record.ensures.judged (number_some r) in
    (e ∙ k.0, k.1, k.2)

pub returns-then-not-length-text : goal.returns-then-not-length-text
returns-then-not-length-text c =
    let a = c.args in
    let p = c.in_ok-put_record.ensures in
    list_short a.bytes.now a.text.now a.size.now (sym p.judged) _ (c.len-length.ensures.value ∙ ap length p.put) c.if-not-length-text.true

pub returns : goal.returns
returns c =
    let a = c.args in
    let p = c.in_ok-put_record.ensures in
    let text = c.as_bytes.ensures.value ∙ c.as_str.ensures.value ∙ p.put in
    let long = c.len-length.ensures.value ∙ ap length p.put in
    let room = (room_left c.len-length.result (length a.text.now) (length a.size.now) c.if-not-length-text.false).0 in
    let put = rw text at c.put_bytes.ensures ∙ put_placed a.text.now 0 (listing a.bytes.now) (omega (arith, room, long)) in
    list_whole a.bytes.now a.text.now a.size.now (sym p.judged) _ long c.if-not-length-text.false _ put
