-- `list_input` meets its contract: the listing of all the bytes where they are fewer than 4,096, else of the first 4,096. Assumes nothing.
use mathlib.Core.Path.{◌≡◌, ap, ◌∙◌}
use Prim.Native.Nat.{ℕ, min}
use borrow.Author.Rules.{rules}
use native.Mathlib.Omega.{arith}
use lib.ListN.{length, take}
use Rattle.std.proofs.lemmas.List.{take_min}
use Rattle.record.proofs.Placed.{put_placed}
use Rattle.listing.specs.Listing.{judged_bytes}
use Rattle.listing.proofs.Outcomes.{printed_so}
use Rattle.listing.proofs.list_input.Goals as goal

pub returns-clause-value : goal.returns-clause-value
returns-clause-value c =
    let a = c.args in
    let text = c.as_bytes.ensures.value ∙ c.as_str.ensures.value in
    let long = ap length text in
    let put = c.put_bytes.ensures ∙ put_placed a.text.now 0 _ (omega (arith, long, c.as_str.ensures.fits, c.told-text)) in
    let few : c.min.result ≡ min judged_bytes (length a.input.now) = search rules in
    let judged = ap (λ (n : ℕ). take n a.input.now) few ∙ take_min judged_bytes a.input.now in
    let k = printed_so a.input.now _ a.text.now _ judged (rw (text ∙ c.put_listing.ensures) at put) in
    (c.len.ensures.value ∙ ap length c.put_listing.ensures ∙ k.0, k.1)
