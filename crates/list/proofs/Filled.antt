-- Flat arrays of zeros that are filled from the front with a list of channels and their origins. Assumes nothing.
use mathlib.Core.Path.{◌≡◌, refl, sym, ap, ◌∙◌}
use mathlib.Core.Bool.{Bool, true, false}
use mathlib.Core.List.{List, []}
use Prim.Native.Nat.{ℕ, zero, suc, ◌+◌, ◌<◌, ◌≤◌}
use native.Mathlib.Omega.{arith}
use borrow.Author.Count.{below_more}
use borrow.Author.Tests.{ltb-true, ltb-false, lt-ltb}
use lib.Dec.{ltb}
use lib.ListN.{length, get_or, set, replicate, length-set, length-replicate, get_or-eq_default}
use lib.Seq.{ext_get_or, get_or-set_same, get_or-set_other}
use Rattle.channel.specs.declared.Channel.{Channel}
use Rattle.list.specs.declared.ChannelList.{ChannelList}
use Rattle.list.specs.Tables.{padded, map}
use Rattle.list.specs.Lists.{max_channels, holding, packed, pushed}
use Rattle.list.specs.Questions.{channel_of}
use Rattle.list.proofs.Tables.{table_length, table_at}
use Rattle.list.proofs.Maps.{map_length, map_default}

-- the first k of xs, and zeros after them
pub record Filled (size : ℕ) (xs out : List ℕ) (k : ℕ) : Type 0 where
  pub long : length out ≡ size
  pub done : (j : ℕ) → j < k → get_or out j 0 ≡ get_or xs j 0
  pub left : (j : ℕ) → k ≤ j → get_or out j 0 ≡ 0

zeros : (n j : ℕ) → get_or {A = ℕ} (replicate n 0) j 0 ≡ 0
zeros zero j = refl
zeros (suc n) zero = refl
zeros (suc n) (suc j) = zeros n j

pub padded_at : (size : ℕ) (xs : List ℕ) (j : ℕ) → j < size → get_or (padded size xs) j 0 ≡ get_or xs j 0
padded_at size xs j h = let z : 0 + j ≡ j = omega arith in table_at (λ i. get_or xs i 0) 0 size j 0 h ∙ ap (λ (i : ℕ). get_or xs i 0) z

pub filled_none : (size : ℕ) (xs : List ℕ) → Filled size xs (replicate size 0) 0
filled_none size xs = record { long = length-replicate size 0; done = λ j h. absurd (omega arith); left = λ j h. zeros size j }

module _ (size : ℕ) (xs out : List ℕ) (k : ℕ) (w : Filled size xs out k) where
  pub filled_more : (v : ℕ) → k < size → v ≡ get_or xs k 0 → Filled size xs (set out k v) (k + 1)
  filled_more v h e =
      let n = w.long in
      record {
        long = length-set out k v ∙ n;
        done =
            below_more (λ (j : ℕ). get_or (set out k v) j 0 ≡ get_or xs j 0) k
            (λ j p. get_or-set_other out k j v 0 (λ (q : j ≡ k). omega arith) ∙ w.done j p)
            (get_or-set_same out k v 0 (omega arith) ∙ e);
        left = λ j l. get_or-set_other out k j v 0 (λ (q : j ≡ k). omega arith) ∙ w.left j (omega arith);
      }

  filled_at : length xs ≤ k → (j : ℕ) (t : Bool) → ltb j k ≡ t → get_or out j 0 ≡ get_or xs j 0
  filled_at e j true h = w.done j (ltb-true j k h)
  filled_at e j false h =
      let l = ltb-false j k h in
      let g : length xs ≤ j = omega arith in
      w.left j l ∙ sym (get_or-eq_default xs 0 g)

  pub filled_all : length xs ≤ k → out ≡ padded size xs
  filled_all e =
      let n = w.long in
      let m = table_length (λ j. get_or xs j 0) 0 size in
      ext_get_or 0 out (padded size xs) (omega arith)
      (λ j l. filled_at e j (ltb j k) refl ∙ sym (padded_at size xs j (omega arith)))

-- five arrays, four filled with a field of the channels each, one with the origins
pub record Filling (cs : List Channel) (os ws hs us vs ps : List ℕ) (k : ℕ) : Type 0 where
  pub widths : Filled max_channels (map (λ (c : Channel). c.width) cs) ws k
  pub heights : Filled max_channels (map (λ (c : Channel). c.height) cs) hs k
  pub hshifts : Filled max_channels (map (λ (c : Channel). c.hshift) cs) us k
  pub vshifts : Filled max_channels (map (λ (c : Channel). c.vshift) cs) vs k
  pub origins : Filled max_channels os ps k

-- an array of zeros
abbrev blank : List ℕ
blank = replicate max_channels 0

pub filling_none : (cs : List Channel) (os : List ℕ) → Filling cs os blank blank blank blank blank 0
filling_none cs os =
    record {
      widths = filled_none max_channels _;
      heights = filled_none max_channels _;
      hshifts = filled_none max_channels _;
      vshifts = filled_none max_channels _;
      origins = filled_none max_channels os;
    }

module _ (cs : List Channel) (os ws hs us vs ps : List ℕ) (k : ℕ) (w : Filling cs os ws hs us vs ps k) where
  filling_more : (c : Channel) (o : ℕ) → k < max_channels → c ≡ channel_of cs k → o ≡ get_or os k 0
      → Filling cs os (set ws k c.width) (set hs k c.height) (set us k c.hshift) (set vs k c.vshift) (set ps k o) (k + 1)
  filling_more c o h e eo =
      record {
        widths = filled_more max_channels _ ws k w.widths c.width h (ap (λ (d : Channel). d.width) e ∙ sym (map_default _ cs k _));
        heights = filled_more max_channels _ hs k w.heights c.height h (ap (λ (d : Channel). d.height) e ∙ sym (map_default _ cs k _));
        hshifts = filled_more max_channels _ us k w.hshifts c.hshift h (ap (λ (d : Channel). d.hshift) e ∙ sym (map_default _ cs k _));
        vshifts = filled_more max_channels _ vs k w.vshifts c.vshift h (ap (λ (d : Channel). d.vshift) e ∙ sym (map_default _ cs k _));
        origins = filled_more max_channels _ ps k w.origins o h eo;
      }

  pub filling_all : (n : ℕ) → n ≡ length cs → length os ≡ n → n ≤ k
      → ◌≡◌ {A = ChannelList} (record { count = n; widths = ws; heights = hs; hshifts = us; vshifts = vs; origins = ps }) (holding cs os)
  unfolding holding
  filling_all n e eo h =
      let ew = filled_all max_channels _ ws k w.widths (omega (arith, map_length (λ (c : Channel). c.width) cs)) in
      let eh = filled_all max_channels _ hs k w.heights (omega (arith, map_length (λ (c : Channel). c.height) cs)) in
      let eu = filled_all max_channels _ us k w.hshifts (omega (arith, map_length (λ (c : Channel). c.hshift) cs)) in
      let ev = filled_all max_channels _ vs k w.vshifts (omega (arith, map_length (λ (c : Channel). c.vshift) cs)) in
      let ep = filled_all max_channels _ ps k w.origins (omega arith) in
      λ i. record { count = e i; widths = ew i; heights = eh i; hshifts = eu i; vshifts = ev i; origins = ep i }

-- the same of a list of so many channels, which `push` adds the next to
abbrev pub FillingList : List Channel → List ℕ → ChannelList → Type 0
FillingList cs os l = Filling cs os l.widths l.heights l.hshifts l.vshifts l.origins l.count

pub filling_empty : (cs : List Channel) (os : List ℕ) → FillingList cs os (packed [])
unfolding holding
filling_empty cs os = filling_none cs os

pub filling_pushed : (cs : List Channel) (os : List ℕ) (l : ChannelList) → FillingList cs os l → l.count < max_channels
    → (c : Channel) (o : ℕ) → c ≡ channel_of cs l.count → o ≡ get_or os l.count 0 → FillingList cs os (pushed l c o)
unfolding pushed
filling_pushed cs os l w h c o e eo = rw (lt-ltb l.count max_channels h) (filling_more cs os l.widths l.heights l.hshifts l.vshifts l.origins l.count w c o h e eo)

pub pushed_count : (l : ChannelList) (c : Channel) (o : ℕ) → l.count < max_channels → (pushed l c o).count ≡ l.count + 1
unfolding pushed
pushed_count l c o h = rw (lt-ltb l.count max_channels h)

pub filling_done : (cs : List Channel) (os : List ℕ) (l : ChannelList) → FillingList cs os l → l.count ≡ length cs → length os ≡ length cs → l ≡ holding cs os
filling_done cs os l w e eo = filling_all cs os l.widths l.heights l.hshifts l.vshifts l.origins l.count w l.count e (eo ∙ sym e) (omega arith)
