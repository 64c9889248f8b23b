-- `squeeze_place` meets its contract: the channel goes from the slice that its slot tells to the other (proofs/Lying.antt), and its mark is told of what
-- stands there (proofs/Marks.antt). Assumes nothing.
use Rattle.places.specs.declared.Slot.TheVariants.{Unmade, Odd, Even}
use Rattle.write.proofs.Lying.{unmade_turned, odd_turned, even_turned}
use Rattle.write.proofs.Marks.{place_told}
use Rattle.write.proofs.squeeze_place.Goals as goal

pub returns-in-Unmade : goal.returns-in-Unmade
returns-in-Unmade g c =
    let a = c.args in
    let made = c.squeeze_channel.ensures in
    record {
      turned = unmade_turned a.horizontal a.place a.picture.now a.odd.now a.even.now c.requires.0 c.requires.1 _ c.in-Unmade.is made.put;
      told = place_told g.M.Marking.marks _ a.horizontal a.place a.picture.now a.odd.now a.even.now Unmade c.in-Unmade.is made.told;
    }

pub returns-in-Odd : goal.returns-in-Odd
returns-in-Odd g c =
    let a = c.args in
    let made = c.squeeze_channel-in-Odd.ensures in
    record {
      turned = odd_turned a.horizontal a.place a.picture.now a.odd.now a.even.now c.requires.0 c.requires.1 _ c.in-Odd.is made.put;
      told = place_told g.M.Marking.marks _ a.horizontal a.place a.picture.now a.odd.now a.even.now Odd c.in-Odd.is made.told;
    }

pub returns-in-Even : goal.returns-in-Even
returns-in-Even g c =
    let a = c.args in
    let made = c.squeeze_channel-in-Even.ensures in
    record {
      turned = even_turned a.horizontal a.place a.picture.now a.odd.now a.even.now c.requires.0 c.requires.1 _ c.in-Even.is made.put;
      told = place_told g.M.Marking.marks _ a.horizontal a.place a.picture.now a.odd.now a.even.now Even c.in-Even.is made.told;
    }
