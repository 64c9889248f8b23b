-- One step there and back on slices (specs/Runs.antt). The samples of a list lie as those before a step's range, in it and behind it; the samples of
-- the list after the step as those before, the averages, and residuals and those behind in the order that the step asks (`joined` of list). On
-- slices so put together both ways compute, and the range's laws (OneChannel.antt) do the rest. Assumes nothing.
use mathlib.Core.Path.{◌≡◌, sym, ap, ◌∙◌}
use mathlib.Core.Bool.{Bool, true, false, cond}
use mathlib.Core.List.{List, ◌++◌, append_assoc}
use Prim.Native.Nat.{◌+◌, ◌≤◌}
use native.Mathlib.Omega.{arith}
use lib.IntN.{ℤ}
use lib.ListN.{length, take, drop, length-append, take-append-drop}
use lib.Seq.{take_at, drop_at}
use Rattle.std.proofs.lemmas.List.Elements.{All-append, All-take, All-drop}
use Rattle.channel.specs.declared.Channel.{Channel}
use Rattle.list.specs.declared.Step.{Step}
use Rattle.list.specs.Lists as Lists
use Rattle.list.specs.Lists.{average, residual, before, range, after, stepped, total}
use Rattle.list.specs.Tables.{map}
use Rattle.list.proofs.Maps.{map_length}
use Rattle.list.proofs.Parts.{averages, residuals, joined, following, parts_whole}
use Rattle.list.proofs.Entries.{length_before, length_range, length_after_lem}
use Rattle.line.specs.Forward.{Samples}
use Rattle.runs.specs.Parts.{parts}
use Rattle.runs.specs.Runs.{channel_averages, channel_residuals, all_back, each, behind, residual_parts, other_parts, back_parts, forward_parts, step_back, step_forward}
use Rattle.runs.proofs.Shapes.{Shaped, AllSamples, shaped_length, joined_length, parts_shaped, joined_parts, parts_joined, shaped_append, shaped_front, shaped_back, parts_samples, joined_samples}
use Rattle.runs.proofs.OneChannel.{averages_shaped, residuals_shaped, back_shaped, all_averages, all_residuals, all_back_lem, range_again, range_back}

-- parts put together of residuals and others, in the order that a step asks
pub record Both (inplace : Bool) (rs zs : List Channel) (ps : List (List ℤ)) : Type 0 where
  pub pr : List (List ℤ)
  pub pz : List (List ℤ)
  pub whole : ps ≡ joined inplace pr pz
  pub shape_r : Shaped rs pr
  pub shape_z : Shaped zs pz
  pub all_r : AllSamples pr
  pub all_z : AllSamples pz

cut : (rs zs : List Channel) (ps : List (List ℤ)) → Shaped (rs ++ zs) ps → AllSamples ps → Both true rs zs ps
cut rs zs ps h f =
    record {
      pr = take (length rs) ps;
      pz = drop (length rs) ps;
      whole = sym (take-append-drop (length rs) ps);
      shape_r = shaped_front rs zs ps h;
      shape_z = shaped_back rs zs ps h;
      all_r = All-take Samples (length rs) ps f;
      all_z = All-drop Samples (length rs) ps f;
    }

both : (inplace : Bool) (rs zs : List Channel) (ps : List (List ℤ)) → Shaped (joined inplace rs zs) ps → AllSamples ps → Both inplace rs zs ps
both true rs zs ps h f = cut rs zs ps h f
both false rs zs ps h f =
    let b = cut zs rs ps h f in
    record { pr = b.pz; pz = b.pr; whole = b.whole; shape_r = b.shape_z; shape_z = b.shape_r; all_r = b.all_z; all_z = b.all_r }

-- residuals and others keep shape and samples in either order
joined_shaped : (inplace : Bool) (rs zs : List Channel) (pr pz : List (List ℤ)) → Shaped rs pr → Shaped zs pz
    → Shaped (joined inplace rs zs) (joined inplace pr pz)
joined_shaped true rs zs pr pz h k = shaped_append rs zs pr pz h k
joined_shaped false rs zs pr pz h k = shaped_append zs rs pz pr k h

joined_all : (inplace : Bool) (pr pz : List (List ℤ)) → AllSamples pr → AllSamples pz → AllSamples (joined inplace pr pz)
joined_all true pr pz f g = All-append Samples pr pz f g
joined_all false pr pz f g = All-append Samples pz pr g f

module _ (s : Step) (cs : List Channel) (inside : s.begin + s.number ≤ length cs) where
  -- ---- both ways on parts put together
  module _ (pb pa : List (List ℤ)) (lb : length pb ≡ s.begin) (la : length pa ≡ s.number) where
    skip : (v : List (List ℤ)) → drop (s.begin + s.number) (pb ++ (pa ++ v)) ≡ v
    skip v =
        let n = length-append pb pa in
        rw (← append_assoc pb pa v) (drop_at (pb ++ pa) v (s.begin + s.number) (omega arith))

    front : (v : List (List ℤ)) → take s.begin (pb ++ (pa ++ v)) ≡ pb
    front v = take_at pb (pa ++ v) s.begin lb

    middle : (v : List (List ℤ)) → take s.number (drop s.begin (pb ++ (pa ++ v))) ≡ pa
    middle v = rw (drop_at pb (pa ++ v) s.begin lb) (take_at pa v s.number la)

    module _ (pr pz : List (List ℤ)) (lr : length pr ≡ s.number) (lz : length pz ≡ behind s cs) where
      residuals_in : residual_parts s cs (joined s.inplace pr pz) ≡ pr
      residuals_in = by s.inplace
        where
          by : (b : Bool) → cond b (take s.number (joined b pr pz)) (drop (behind s cs) (joined b pr pz)) ≡ pr
          by true = take_at pr pz s.number lr
          by false = drop_at pz pr (behind s cs) lz

      others_in : other_parts s cs (joined s.inplace pr pz) ≡ pz
      others_in = by s.inplace
        where
          by : (b : Bool) → cond b (drop s.number (joined b pr pz)) (take (behind s cs) (joined b pr pz)) ≡ pz
          by true = drop_at pr pz s.number lr
          by false = take_at pz pr (behind s cs) lz

      pub back_of : back_parts s cs (pb ++ (pa ++ joined s.inplace pr pz)) ≡ pb ++ (all_back s.horizontal (range s cs) pa pr ++ pz)
      unfolding back_parts
      back_of =
          let v = joined s.inplace pr pz in
          rw (front v, middle v, skip v, residuals_in, others_in)

    forward_of : (qz : List (List ℤ)) → forward_parts s cs (pb ++ (pa ++ qz))
        ≡ pb ++ (each (channel_averages s.horizontal) (range s cs) pa ++ joined s.inplace (each (channel_residuals s.horizontal) (range s cs) pa) qz)
    unfolding forward_parts
    forward_of qz = rw (front qz, middle qz, skip qz)

  -- ---- the samples of the list, and of the list after the step, so put together
  pub record Pieces (ps : List (List ℤ)) : Type 0 where
    pub qb : List (List ℤ)
    pub qr : List (List ℤ)
    pub qz : List (List ℤ)
    pub whole : ps ≡ qb ++ (qr ++ qz)
    pub shape_b : Shaped (before s cs) qb
    pub shape_r : Shaped (range s cs) qr
    pub shape_z : Shaped (after s cs) qz
    pub all_b : AllSamples qb
    pub all_r : AllSamples qr
    pub all_z : AllSamples qz

  pieces : (ps : List (List ℤ)) → Shaped cs ps → AllSamples ps → Pieces ps
  pieces ps h f =
      let u = cut (before s cs) (range s cs ++ after s cs) ps (rw (parts_whole s cs) h) f in
      let v = cut (range s cs) (after s cs) u.pz u.shape_z u.all_z in
      record {
        qb = u.pr;
        qr = v.pr;
        qz = v.pz;
        whole = u.whole ∙ ap (λ (l : List (List ℤ)). u.pr ++ l) v.whole;
        shape_b = u.shape_r;
        shape_r = v.shape_r;
        shape_z = v.shape_z;
        all_b = u.all_r;
        all_r = v.all_r;
        all_z = v.all_z;
      }

  pub record Steps (ps : List (List ℤ)) : Type 0 where
    pub pb : List (List ℤ)
    pub pa : List (List ℤ)
    pub pr : List (List ℤ)
    pub pz : List (List ℤ)
    pub whole : ps ≡ pb ++ (pa ++ joined s.inplace pr pz)
    pub shape_b : Shaped (before s cs) pb
    pub shape_a : Shaped (averages s cs) pa
    pub shape_r : Shaped (residuals s cs) pr
    pub shape_z : Shaped (after s cs) pz
    pub all_b : AllSamples pb
    pub all_a : AllSamples pa
    pub all_r : AllSamples pr
    pub all_z : AllSamples pz

  steps_by : (ps : List (List ℤ)) (u : Both true (before s cs) (averages s cs ++ following s cs) ps) (v : Both true (averages s cs) (following s cs) u.pz)
      → Both s.inplace (residuals s cs) (after s cs) v.pz → Steps ps
  steps_by ps u v w =
      record {
        pb = u.pr;
        pa = v.pr;
        pr = w.pr;
        pz = w.pz;
        whole = u.whole ∙ ap (λ (l : List (List ℤ)). u.pr ++ l) (v.whole ∙ ap (λ (l : List (List ℤ)). v.pr ++ l) w.whole);
        shape_b = u.shape_r;
        shape_a = v.shape_r;
        shape_r = w.shape_r;
        shape_z = w.shape_z;
        all_b = u.all_r;
        all_a = v.all_r;
        all_r = w.all_r;
        all_z = w.all_z;
      }

  steps : (ps : List (List ℤ)) → Shaped (stepped s cs) ps → AllSamples ps → Steps ps
  unfolding Lists.stepped
  steps ps h f =
      let u = cut (before s cs) (averages s cs ++ following s cs) ps h f in
      let v = cut (averages s cs) (following s cs) u.pz u.shape_z u.all_z in
      steps_by ps u v (both s.inplace (residuals s cs) (after s cs) v.pz v.shape_z v.all_z)

  -- how many parts there are
  long_before : (ps : List (List ℤ)) → Shaped (before s cs) ps → length ps ≡ s.begin
  long_before ps h = shaped_length (before s cs) ps h ∙ length_before s cs inside

  long_range : (ps : List (List ℤ)) → Shaped (range s cs) ps → length ps ≡ s.number
  long_range ps h = shaped_length (range s cs) ps h ∙ length_range s cs inside

  long_made : (f : Channel → Channel) (ps : List (List ℤ)) → Shaped (map f (range s cs)) ps → length ps ≡ s.number
  long_made f ps h = shaped_length (map f (range s cs)) ps h ∙ map_length f (range s cs) ∙ length_range s cs inside

  long_after : (ps : List (List ℤ)) → Shaped (after s cs) ps → length ps ≡ behind s cs
  long_after ps h = shaped_length (after s cs) ps h ∙ length_after_lem s cs inside

  -- ---- forward
  module _ (ps : List (List ℤ)) (p : Pieces ps) where
    abbrev qa : List (List ℤ)
    qa = each (channel_averages s.horizontal) (range s cs) p.qr

    abbrev qs : List (List ℤ)
    qs = each (channel_residuals s.horizontal) (range s cs) p.qr

    shape_qa : Shaped (averages s cs) qa
    shape_qa = averages_shaped s.horizontal (range s cs) p.qr p.shape_r

    shape_qs : Shaped (residuals s cs) qs
    shape_qs = residuals_shaped s.horizontal (range s cs) p.qr p.shape_r

    forward_pieces : forward_parts s cs ps ≡ p.qb ++ (qa ++ joined s.inplace qs p.qz)
    forward_pieces = rw p.whole (forward_of p.qb p.qr (long_before p.qb p.shape_b) (long_range p.qr p.shape_r) p.qz)

    forward_shaped : Shaped (stepped s cs) (forward_parts s cs ps)
    unfolding Lists.stepped
    forward_shaped =
        rw forward_pieces
        (shaped_append (before s cs) _ p.qb _ p.shape_b
        (shaped_append (averages s cs) _ qa _ shape_qa (joined_shaped s.inplace (residuals s cs) (after s cs) qs p.qz shape_qs p.shape_z)))

    forward_all : AllSamples (forward_parts s cs ps)
    forward_all =
        let h = s.horizontal in
        let r = range s cs in
        rw forward_pieces
        (All-append Samples p.qb _ p.all_b
        (All-append Samples qa _ (all_averages h r p.qr p.all_r) (joined_all s.inplace qs p.qz (all_residuals h r p.qr) p.all_z)))

    -- there and back
    back_forward : back_parts s cs (forward_parts s cs ps) ≡ ps
    back_forward =
        rw forward_pieces
        (back_of p.qb qa (long_before p.qb p.shape_b) (long_made (average s.horizontal) qa shape_qa) qs p.qz (long_made (residual s.horizontal) qs shape_qs) (long_after p.qz p.shape_z)
        ∙ rw (range_again s.horizontal (range s cs) p.qr p.shape_r p.all_r) (sym p.whole))

  -- ---- back
  module _ (ps : List (List ℤ)) (p : Steps ps) where
    abbrev qr : List (List ℤ)
    qr = all_back s.horizontal (range s cs) p.pa p.pr

    shape_qr : Shaped (range s cs) qr
    shape_qr = back_shaped s.horizontal (range s cs) p.pa p.pr p.shape_a p.shape_r

    lb : length p.pb ≡ s.begin
    lb = long_before p.pb p.shape_b

    la : length p.pa ≡ s.number
    la = long_made (average s.horizontal) p.pa p.shape_a

    lr : length p.pr ≡ s.number
    lr = long_made (residual s.horizontal) p.pr p.shape_r

    lz : length p.pz ≡ behind s cs
    lz = long_after p.pz p.shape_z

    back_pieces : back_parts s cs ps ≡ p.pb ++ (qr ++ p.pz)
    back_pieces = rw p.whole (back_of p.pb p.pa lb la p.pr p.pz lr lz)

    back_shape : Shaped cs (back_parts s cs ps)
    back_shape =
        rw back_pieces
        (rw (parts_whole s cs) at
        (shaped_append (before s cs) (range s cs ++ after s cs) p.pb (qr ++ p.pz) p.shape_b
        (shaped_append (range s cs) (after s cs) qr p.pz shape_qr p.shape_z)))

    back_all : AllSamples (back_parts s cs ps)
    back_all =
        rw back_pieces
        (All-append Samples p.pb _ p.all_b
        (All-append Samples qr p.pz (all_back_lem s.horizontal (range s cs) p.pa p.pr p.all_a) p.all_z))

    -- back and there
    forward_back : forward_parts s cs (back_parts s cs ps) ≡ ps
    forward_back =
        let e = range_back s.horizontal (range s cs) p.pa p.pr p.shape_a p.shape_r p.all_a p.all_r in
        rw back_pieces (forward_of p.pb qr lb (long_range qr shape_qr) p.pz ∙ rw (e.0, e.1) (sym p.whole))

    -- the averages and the residuals among the parts have the shapes that the step gives them
    shapes_in : Shaped (averages s cs) (take s.number (drop s.begin ps)) × Shaped (residuals s cs) (residual_parts s cs (drop (s.begin + s.number) ps))
    shapes_in =
        let v = joined s.inplace p.pr p.pz in (
          rw (p.whole, middle p.pb p.pa lb la v) p.shape_a,
          rw (p.whole, skip p.pb p.pa lb la v, residuals_in p.pb p.pa lb la p.pr p.pz lr lz) p.shape_r,
        )

  pub step_shapes : (ps : List (List ℤ)) → Shaped (stepped s cs) ps → AllSamples ps
      → Shaped (averages s cs) (take s.number (drop s.begin ps)) × Shaped (residuals s cs) (residual_parts s cs (drop (s.begin + s.number) ps))
  step_shapes ps h f = shapes_in ps (steps ps h f)

  -- the range among the parts has its shape, and among the parts that the step leaves stand its averages and residuals
  pub record Reads (ps : List (List ℤ)) : Type 0 where
    pub shape : Shaped (range s cs) (take s.number (drop s.begin ps))
    pub averages : take s.number (drop s.begin (forward_parts s cs ps)) ≡ each (channel_averages s.horizontal) (range s cs) (take s.number (drop s.begin ps))
    pub residuals : residual_parts s cs (drop (s.begin + s.number) (forward_parts s cs ps))
        ≡ each (channel_residuals s.horizontal) (range s cs) (take s.number (drop s.begin ps))

  reads : (ps : List (List ℤ)) (p : Pieces ps) → Reads ps
  reads ps p =
      let lb = long_before p.qb p.shape_b in
      let la = long_made (average s.horizontal) (qa ps p) (shape_qa ps p) in
      let lr = long_made (residual s.horizontal) (qs ps p) (shape_qs ps p) in
      let e : take s.number (drop s.begin ps) ≡ p.qr = rw p.whole (middle p.qb p.qr lb (long_range p.qr p.shape_r) p.qz) in
      let v = joined s.inplace (qs ps p) p.qz in
      record {
        shape = rw e p.shape_r;
        averages = rw (forward_pieces ps p, e) (middle p.qb (qa ps p) lb la v);
        residuals = rw (forward_pieces ps p, e, skip p.qb (qa ps p) lb la v) (residuals_in p.qb (qa ps p) lb la (qs ps p) p.qz lr (long_after p.qz p.shape_z));
      }

  pub step_reads : (ps : List (List ℤ)) → Shaped cs ps → AllSamples ps → Reads ps
  step_reads ps h f = reads ps (pieces ps h f)

  -- ---- on slices
  module _ (xs : List ℤ) (long : length xs ≡ total cs) (f : Samples xs) where
    the_pieces : Pieces (parts cs xs)
    the_pieces = pieces (parts cs xs) (parts_shaped cs xs long) (parts_samples cs xs f)

    pub forward_length : length (step_forward s cs xs) ≡ total (stepped s cs)
    unfolding step_forward
    forward_length = joined_length (stepped s cs) (forward_parts s cs (parts cs xs)) (forward_shaped (parts cs xs) the_pieces)

    pub forward_samples : Samples (step_forward s cs xs)
    unfolding step_forward
    forward_samples = joined_samples (forward_parts s cs (parts cs xs)) (forward_all (parts cs xs) the_pieces)

    pub forward_again : parts (stepped s cs) (step_forward s cs xs) ≡ forward_parts s cs (parts cs xs)
    unfolding step_forward
    forward_again = parts_joined (stepped s cs) (forward_parts s cs (parts cs xs)) (forward_shaped (parts cs xs) the_pieces)

    pub step_again : step_back s cs (step_forward s cs xs) ≡ xs
    unfolding step_back
    step_again = rw (forward_again, back_forward (parts cs xs) the_pieces) (joined_parts cs xs long)

  module _ (xs : List ℤ) (long : length xs ≡ total (stepped s cs)) (f : Samples xs) where
    the_steps : Steps (parts (stepped s cs) xs)
    the_steps = steps (parts (stepped s cs) xs) (parts_shaped (stepped s cs) xs long) (parts_samples (stepped s cs) xs f)

    pub back_length : length (step_back s cs xs) ≡ total cs
    unfolding step_back
    back_length = joined_length cs (back_parts s cs (parts (stepped s cs) xs)) (back_shape (parts (stepped s cs) xs) the_steps)

    pub back_samples : Samples (step_back s cs xs)
    unfolding step_back
    back_samples = joined_samples (back_parts s cs (parts (stepped s cs) xs)) (back_all (parts (stepped s cs) xs) the_steps)

    pub back_again : step_forward s cs (step_back s cs xs) ≡ xs
    unfolding step_back step_forward
    back_again =
        rw (parts_joined cs (back_parts s cs (parts (stepped s cs) xs)) (back_shape (parts (stepped s cs) xs) the_steps), forward_back (parts (stepped s cs) xs) the_steps)
        (joined_parts (stepped s cs) xs long)
