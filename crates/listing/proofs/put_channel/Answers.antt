-- `put_channel` meets its contract: its sides are numbers of a listing. Assumes nothing.
use Rattle.listing.specs.Text.{two, channel_line}
use Rattle.listing.proofs.Digits.{sides_small}
use Rattle.listing.proofs.Puts.{first_fits}
use Rattle.listing.proofs.put_channel.Goals as goal

pub put_two-requires : goal.put_two-requires
unfolding channel_line
put_two-requires c =
    let s = c.args.c in
    let small = sides_small s c.requires.0 in
    (small.0, small.1, first_fits _ (two s.width s.height) _ c.requires.1)
