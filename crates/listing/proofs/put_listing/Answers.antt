-- `put_listing` meets its contract: the lines of the record, or the refusal's (proofs/Outcomes.antt). Assumes nothing.
use Rattle.std.proofs.Common.{◌∙◌, sym}
use native.Mathlib.Omega.{arith}
use Rattle.numbers.proofs.Refusals.{number_some}
use Rattle.listing.specs.Text.{refused_word}
use Rattle.listing.proofs.Digits.{refusal_small}
use Rattle.listing.proofs.Outcomes.{listing_refused}
use Rattle.listing.proofs.Room.{numbered_room}
use Rattle.listing.proofs.put_listing.Goals as goal

pub put_numbered-requires : goal.put_numbered-requires
put_numbered-requires c =
    let r = c.in-Err.refusal in
    (omega (arith, c.number.ensures, refusal_small r), rw (c.in-Err.ensures.kept, c.requires) (omega (arith, numbered_room refused_word c.number.result)))

pub returns-in-Err : goal.returns-in-Err
returns-in-Err c =
    let r = c.in-Err.refusal in
    let n = c.number.ensures in
    let e = listing_refused c.args.bytes.now _ (n ∙ c.in-Err.ensures.judged) (λ z. number_some r (sym n ∙ z)) in
    c.put_numbered.ensures ∙ rw (c.in-Err.ensures.kept, c.requires) e
