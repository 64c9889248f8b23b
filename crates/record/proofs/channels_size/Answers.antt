-- `channels_size` meets its contract: the library's sum of the fields' lengths (proofs/Joined.antt). Assumes nothing.
use Rattle.std.proofs.Common.{rules, refl, arith, ◌≡◌, ◌∙◌, ◌-◌, min, length}
use Rattle.std.specs.List.{range_with_len}
use Rattle.std.proofs.lemmas.Iterator.{YieldsList-from_range, YieldsList-from_map}
use Rattle.std.proofs.lemmas.Iterator.Consumers.{YieldsList-at, sum_by_from_yields_List, fits_by_from_yields_list}
use Rattle.list.specs.Lists.{max_channels, channel_at}
use Rattle.record.specs.Bytes.{channel_field}
use Rattle.record.proofs.Joined.{channels_few, channels_sum}
use Rattle.record.proofs.channels_size.Goals as goal

pub sum-requires-clause-fits : goal.sum-requires-clause-fits
sum-requires-clause-fits c =
    let l = c.args.list.now in
    let n = min l.count max_channels in
    let z : n - 0 ≡ n = omega arith in
    let s = channels_sum l n refl in
    fits_by_from_yields_list _ (range_with_len 0 n) c.map.result _
    (YieldsList-from_map _ (λ k. length (channel_field (channel_at l k)))
    (YieldsList-at c.map.ensures.source (YieldsList-from_range 0 n n (rw c.len.ensures refl) z)) c.map.ensures.closure (λ x r q k. search rules))
    (omega (arith, s, channels_few l))

pub returns : goal.returns
returns c =
    let l = c.args.list.now in
    let n = min l.count max_channels in
    let z : n - 0 ≡ n = omega arith in
    sum_by_from_yields_List _ (range_with_len 0 n) c.map.result _ c.sum.ensures.ran
    (YieldsList-from_map _ (λ k. length (channel_field (channel_at l k)))
    (YieldsList-at c.map.ensures.source (YieldsList-from_range 0 n n (rw c.len.ensures refl) z)) c.map.ensures.closure (λ x r q k. search rules))
    ∙ channels_sum l n refl
