-- The definitions on small cases, by computation: document 01's record, each number that no field could hold, and the order of the questions.
-- Assumes nothing.
use mathlib.Core.Path.{◌≡◌, refl}
use mathlib.Core.Bool.{true}
use mathlib.Core.List.{List, [], ◌∷◌}
use Prim.Native.Nat.{ℕ}
use lib.ListN.{replicate}
use Rattle.channel.specs.Channel as C
use Rattle.list.specs.Tables.{all}
use Rattle.list.specs.Lists as L
use Rattle.list.specs.Questions as Q
use Rattle.plan.specs.Steps as S
use Rattle.plan.specs.Steps.{flags_allowed}
use Rattle.plan.specs.Version as Versions
use Rattle.plan.specs.Default as D
use Rattle.plan.specs.Plans as P
use Rattle.record.specs.Bytes as B
use Rattle.numbered.specs.Numbered.{channel_numbers, step_numbers, whole, channel_at, channels_of, step_at, steps_of, flags_of, bytes_of, judge_numbers, slices_allowed, answer, record_after, length_after}

-- a channel 20 by 9, a meta channel, and a step on the first channel, horizontal and in place
abbrev plain : List ℕ
plain = 20 ∷ 9 ∷ 0 ∷ 0 ∷ []

abbrev meta : List ℕ
meta = 1 ∷ 1 ∷ 255 ∷ 255 ∷ []

abbrev step : List ℕ
step = 3 ∷ 0 ∷ 1 ∷ []

-- with room for the record and its length, under version 1 and under any
abbrev asked : List ℕ → List ℕ → ℕ
asked ns ms = answer 1 ns ms (replicate 20 7) (5 ∷ 6 ∷ [])

abbrev under : ℕ → List ℕ → List ℕ → ℕ
under version ns ms = answer version ns ms (replicate 20 7) (5 ∷ 6 ∷ [])

abbrev pub Cases : Type 0
Cases =
    -- "01 06 00 14 00 09 00 00 00 (hex)"; bytes and numbers past it stay
    (answer 1 plain [] (replicate 10 7) (5 ∷ 6 ∷ []) ≡ 0)
    × (record_after 1 plain [] (replicate 10 7) (5 ∷ 6 ∷ []) ≡ 1 ∷ 6 ∷ 0 ∷ 20 ∷ 0 ∷ 9 ∷ 0 ∷ 0 ∷ 0 ∷ 7 ∷ [])
    × (length_after 1 plain [] (replicate 10 7) (5 ∷ 6 ∷ []) ≡ 9 ∷ 6 ∷ [])
    × (record_after 1 plain step (replicate 17 7) (5 ∷ []) ≡ 1 ∷ 6 ∷ 0 ∷ 20 ∷ 0 ∷ 9 ∷ 0 ∷ 0 ∷ 0 ∷ 2 ∷ 5 ∷ 0 ∷ 3 ∷ 0 ∷ 0 ∷ 1 ∷ 0 ∷ [])
    -- a strip has tag 3
    × (record_after 1 (65_536 ∷ 1 ∷ 0 ∷ 2 ∷ []) step (replicate 22 7) (5 ∷ []) ≡ 3 ∷ 10 ∷ 0 ∷ 0 ∷ 0 ∷ 1 ∷ 0 ∷ 1 ∷ 0 ∷ 0 ∷ 0 ∷ 0 ∷ 2 ∷ 2 ∷ 5 ∷ 0 ∷ 3 ∷ 0 ∷ 0 ∷ 1 ∷ 0 ∷ 7 ∷ [])
    × (record_after 1 (65_535 ∷ 1 ∷ 0 ∷ 2 ∷ []) step (replicate 18 7) (5 ∷ []) ≡ 1 ∷ 6 ∷ 0 ∷ 255 ∷ 255 ∷ 1 ∷ 0 ∷ 0 ∷ 2 ∷ 2 ∷ 5 ∷ 0 ∷ 3 ∷ 0 ∷ 0 ∷ 1 ∷ 0 ∷ 7 ∷ [])
    -- 3: no channel
    × (asked [] step ≡ 3)
    × (asked (20 ∷ 9 ∷ 0 ∷ []) [] ≡ 3)
    -- 4: a side, a shift and flags that no field could hold, and those that one could
    × (asked (1_048_576 ∷ 0 ∷ 0 ∷ 0 ∷ []) [] ≡ 4)
    × (asked (20 ∷ 4_294_967_295 ∷ 0 ∷ 0 ∷ []) [] ≡ 4)
    × (asked (20 ∷ 9 ∷ 256 ∷ 0 ∷ []) [] ≡ 4)
    × (asked (20 ∷ 9 ∷ 0 ∷ 31 ∷ []) [] ≡ 4)
    × (asked (20 ∷ 9 ∷ 0 ∷ 0 ∷ 1 ∷ 1 ∷ 255 ∷ 255 ∷ []) [] ≡ 4)
    × (asked plain (4 ∷ 0 ∷ 1 ∷ []) ≡ 4)
    × (asked plain (256 ∷ 0 ∷ 1 ∷ []) ≡ 4)
    -- 5, 6
    × (asked (65_536 ∷ 65_536 ∷ 0 ∷ 0 ∷ []) [] ≡ 5)
    × (asked meta [] ≡ 11)
    -- 7: a first channel and a number that no field could hold, after the steps before, and after question 4 of all flags
    × (asked plain (3 ∷ 65_536 ∷ 1 ∷ []) ≡ 6)
    × (asked plain (3 ∷ 0 ∷ 65_537 ∷ []) ≡ 6)
    × (asked meta (1 ∷ 0 ∷ 1 ∷ 3 ∷ 65_536 ∷ 1 ∷ []) ≡ 8)
    × (asked meta (3 ∷ 0 ∷ 1 ∷ 3 ∷ 65_536 ∷ 1 ∷ []) ≡ 6)
    × (asked plain (3 ∷ 65_536 ∷ 1 ∷ 4 ∷ 0 ∷ 1 ∷ []) ≡ 4)
    -- 14: a remainder, and short slices
    × (asked (20 ∷ 9 ∷ 0 ∷ 0 ∷ 20 ∷ []) [] ≡ 12)
    × (asked plain (3 ∷ 0 ∷ []) ≡ 12)
    × (answer 1 plain [] (replicate 8 7) (5 ∷ []) ≡ 12)
    × (answer 1 plain [] (replicate 9 7) [] ≡ 12)
    -- A.11: version 2 has its field first, and needs its room; no other version is known, after question 3 and before 5
    × (record_after 2 plain [] (replicate 14 7) (5 ∷ []) ≡ 4 ∷ 1 ∷ 0 ∷ 2 ∷ 1 ∷ 6 ∷ 0 ∷ 20 ∷ 0 ∷ 9 ∷ 0 ∷ 0 ∷ 0 ∷ 7 ∷ [])
    × (length_after 2 plain [] (replicate 14 7) (5 ∷ []) ≡ 13 ∷ [])
    × (answer 2 plain [] (replicate 12 7) (5 ∷ []) ≡ 12)
    × (under 0 plain [] ≡ 4)
    × (under 3 plain step ≡ 4)
    × (under 4_294_967_295 plain [] ≡ 4)
    × (under 3 [] step ≡ 3)
    × (under 3 (65_536 ∷ 65_536 ∷ 0 ∷ 0 ∷ []) [] ≡ 4)
    × (under 3 plain (3 ∷ 65_536 ∷ 1 ∷ []) ≡ 4)

-- the conditions of the laws (specs/Laws.antt) hold for a channel and a step
abbrev pub Witness : Type 0
Witness =
    (whole channel_numbers plain ≡ true)
    × (whole step_numbers step ≡ true)
    × (all flags_allowed (flags_of step) ≡ true)
    × (asked plain step ≡ 0)

pub cases : Cases × Witness
unfolding Versions.is_version Versions.rule_of channel_at channels_of step_at steps_of flags_of bytes_of judge_numbers slices_allowed answer record_after length_after C.is_meta C.shifts_allowed C.sides_fit C.is_allowed C.samples L.raised L.stepped L.average L.residual Q.count_allowed Q.channels_allowed Q.total_allowed Q.judge_step Q.range_allowed Q.kinds_alike Q.place_allowed Q.has_sides Q.room_left Q.shifts_kept S.flags_allowed S.flags_of D.meta_count D.default_steps D.chroma D.all_channels D.rounds P.has_other P.meant P.meant_allowed P.judge_meant B.list_fields B.record_of B.is_strip B.short_field B.strip_field B.channel_field B.step_field B.version_field
cases =
    ((refl, refl, refl, refl, refl, refl, refl, refl, refl, refl, refl, refl, refl, refl, refl, refl, refl, refl, refl, refl, refl, refl, refl, refl, refl, refl, refl, refl, refl, refl, refl, refl, refl, refl, refl), (refl, refl, refl, refl))
