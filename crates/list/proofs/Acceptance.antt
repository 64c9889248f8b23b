-- What no refusal says of a list and of a step, by the order of the questions. Assumes nothing.
use mathlib.Core.Path.{◌≡◌, refl}
use mathlib.Core.Bool.{true, and-eq-true_iff}
use mathlib.Core.List.{List}
use Prim.Native.Nat.{ℕ, ◌+◌, ◌<◌, ◌≤◌}
use native.Mathlib.Omega.{arith}
use lib.Dec.{leb}
use lib.ListN.{length}
use borrow.Author.Tests.{leb-true, le-leb}
use Rattle.channel.specs.declared.Channel.{Channel}
use Rattle.channel.specs.Channel.{shifts_allowed, sides_fit, is_allowed}
use Rattle.list.specs.declared.ChannelList.{ChannelList}
use Rattle.list.specs.declared.Step.{Step}
use Rattle.list.specs.Tables.{all}
use Rattle.list.specs.Lists.{max_channels, channels, holding, packed, range}
use Rattle.list.specs.Questions.{count_allowed, meta_first, channels_allowed, total_allowed, judge_list, channel_of, range_allowed, kinds_alike, place_allowed, has_sides, shifts_kept, room_left, judge_step}
use Rattle.list.specs.Accepted.{Accepted, StepAccepted}
use Rattle.list.proofs.Channels.{range_inside, channels_length}
use Rattle.list.proofs.Packed.{channels_held, channels_packed}
use Rattle.list.proofs.Maps.{all_at, both_all}
use Rattle.list.proofs.Asking.{passed}

held_count : (cs : List Channel) (os : List ℕ) → (holding cs os).count ≡ length cs
unfolding holding
held_count cs os = refl

-- ---- the list
pub count_inside : (l : ChannelList) → judge_list l ≡ 0 → (1 ≤ l.count) × (l.count ≤ max_channels)
unfolding judge_list count_allowed
count_inside l h =
    let c = (and-eq-true_iff (leb 1 l.count) (leb l.count max_channels)).0 (passed (count_allowed l.count) _ _ h).0 in
    (leb-true _ _ c.0, leb-true _ _ c.1)

pub list_accepted : (l : ChannelList) → judge_list l ≡ 0 → Accepted (channels l)
unfolding judge_list
list_accepted l h =
    let p3 = passed (count_allowed l.count) _ _ h in
    let p4 = passed (channels_allowed (channels l)) _ _ p3.1 in
    let p5 = passed (total_allowed (channels l)) _ _ p4.1 in
    let c = count_inside l h in
    let n = channels_length l in
    record { some = omega arith; few = omega arith; allowed = p4.0; samples = p5.0 }

-- question 4 of the channels: their shifts and their sides
pub allowed_both : (cs : List Channel) → channels_allowed cs ≡ true → (all shifts_allowed cs ≡ true) × (all sides_fit cs ≡ true)
unfolding channels_allowed is_allowed
allowed_both cs a = both_all shifts_allowed sides_fit cs ((and-eq-true_iff (all is_allowed cs) (meta_first cs)).0 a).0

pub accepted_sides : (cs : List Channel) → Accepted cs → (k : ℕ) → k < length cs → sides_fit (channel_of cs k) ≡ true
accepted_sides cs ok k h = all_at sides_fit cs k _ (allowed_both cs ok.allowed).1 h

pub accepted_packed : (cs : List Channel) → judge_list (packed cs) ≡ 0 → Accepted cs
accepted_packed cs h = rw (channels_packed cs (rw (held_count cs _) at (count_inside (packed cs) h).1)) at (list_accepted (packed cs) h)

pub held_accepted : (cs : List Channel) (os : List ℕ) → Accepted cs → judge_list (holding cs os) ≡ 0
unfolding judge_list count_allowed
held_accepted cs os ok =
    rw (channels_held cs os ok.few, held_count cs os, le-leb 1 (length cs) ok.some, le-leb (length cs) max_channels ok.few, ok.allowed, ok.samples)

pub packed_accepted : (cs : List Channel) → Accepted cs → judge_list (packed cs) ≡ 0
packed_accepted cs ok = held_accepted cs _ ok

-- ---- a step
pub step_accepted : (s : Step) (cs : List Channel) → judge_step s cs ≡ 0 → StepAccepted s cs
unfolding judge_step room_left
step_accepted s cs h =
    let p7 = passed (range_allowed s cs) _ _ h in
    let p8 = passed (kinds_alike s cs) _ _ p7.1 in
    let p9 = passed (place_allowed s cs) _ _ p8.1 in
    let p10 = passed (all has_sides (range s cs)) _ _ p9.1 in
    let p11 = passed (room_left s cs) _ _ p10.1 in
    let i = range_inside s cs p7.0 in
    let r = (and-eq-true_iff (leb (length cs + s.number) max_channels) (all (shifts_kept s.horizontal) (range s cs))).0 p11.0 in
    record {
      some = i.0;
      inside = i.1;
      alike = p8.0;
      placed = p9.0;
      sides = p10.0;
      room = leb-true _ _ r.0;
      kept = r.1;
    }
