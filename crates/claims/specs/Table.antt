-- Document 01's proved table, row by row in its order, with the listing at its end. A statement only; proofs/Table.antt proves it.
use Rattle.std.specs.Prelude.{◌≡◌, true, false, List, [], ◌∷◌, ◌++◌, ℕ, ℤ, pos, negsuc}
use Rattle.channel.specs.declared.Channel.{Channel}
use Rattle.list.specs.declared.Step.{Step}
use Rattle.tendency.specs.Tendency.{tendency}
use Rattle.pair.specs.Pair.{first, second}
use Rattle.line.specs.Uncut.{squeeze, uncut}
use Rattle.plan.specs.Version.{standard_version, rule_of}
use Rattle.plan.specs.Default.{step, default_steps}
use Rattle.rect.specs.Rect.{rect_of}
use Rattle.listing.specs.Text.{space, newline}
use Rattle.listing.specs.Listing.{listing}

-- a row of averages and residuals, without neighbour lines
abbrev pub row : ℕ → List ℤ → ℕ → List ℤ → List ℤ
row m avg n res = uncut (squeeze true 1 m n avg res [] [])

-- an average and a residual between a next average and a previous output give two samples
abbrev pub Gives : ℤ → ℤ → ℤ → ℤ → ℤ → ℤ → Type 0
Gives avg res next prev x y = (first avg res next prev ≡ x) × (second avg res next prev ≡ y)

-- the default plan of a list of one channel with shifts 0
abbrev pub channel : ℕ → ℕ → Channel
channel width height = record { width = width; height = height; hshift = 0; vshift = 0 }

abbrev pub plan_of : ℕ → ℕ → List Step
plan_of width height = default_steps (rule_of standard_version) (channel width height ∷ [])

abbrev pub horizontal : Step
horizontal = step true true 0 1

abbrev pub vertical : Step
vertical = step false true 0 1

-- "For 01 06 00 14 00 09 00 00 00 (hex) it prints exactly", line by line
abbrev pub record20by9 : List ℕ
record20by9 = 1 ∷ 6 ∷ 0 ∷ 20 ∷ 0 ∷ 9 ∷ 0 ∷ 0 ∷ 0 ∷ []

abbrev pub text20by9 : List ℕ
text20by9 =
    (115 ∷ 116 ∷ 101 ∷ 112 ∷ 115 ∷ space ∷ 51 ∷ newline ∷ [])
    ++ ((104 ∷ space ∷ 105 ∷ 110 ∷ space ∷ 48 ∷ space ∷ 49 ∷ newline ∷ [])
    ++ ((118 ∷ space ∷ 105 ∷ 110 ∷ space ∷ 48 ∷ space ∷ 49 ∷ newline ∷ [])
    ++ ((104 ∷ space ∷ 105 ∷ 110 ∷ space ∷ 48 ∷ space ∷ 49 ∷ newline ∷ [])
    ++ ((99 ∷ 104 ∷ 97 ∷ 110 ∷ 110 ∷ 101 ∷ 108 ∷ 115 ∷ space ∷ 52 ∷ newline ∷ [])
    ++ ((53 ∷ space ∷ 53 ∷ space ∷ 50 ∷ space ∷ 49 ∷ newline ∷ [])
    ++ ((53 ∷ space ∷ 53 ∷ space ∷ 50 ∷ space ∷ 49 ∷ newline ∷ [])
    ++ ((49 ∷ 48 ∷ space ∷ 52 ∷ space ∷ 49 ∷ space ∷ 49 ∷ newline ∷ [])
    ++ ((49 ∷ 48 ∷ space ∷ 57 ∷ space ∷ 49 ∷ space ∷ 48 ∷ newline ∷ [])
    ++ (99 ∷ 111 ∷ 97 ∷ 114 ∷ 115 ∷ 101 ∷ space ∷ 50 ∷ newline ∷ [])))))))))

abbrev pub Table : Type 0
Table =
    (tendency (pos 10) (pos 7) (pos 4) ≡ pos 2)
    × (tendency (pos 4) (pos 7) (pos 10) ≡ negsuc 1)
    × (tendency (pos 5) (pos 9) (pos 3) ≡ pos 0)
    × (tendency (pos 0) (pos 0) (negsuc 7) ≡ pos 1)
    × (tendency (pos 9) (pos 3) (pos 3) ≡ pos 0)
    × (tendency (pos 100) (pos 99) (pos 0) ≡ pos 3)
    × (row 2 (pos 10 ∷ pos 4 ∷ []) 2 (pos 1 ∷ pos 0 ∷ []) ≡ pos 11 ∷ pos 9 ∷ pos 4 ∷ pos 4 ∷ [])
    × (row 2 (pos 10 ∷ pos 4 ∷ []) 1 (pos 1 ∷ []) ≡ pos 11 ∷ pos 9 ∷ pos 4 ∷ [])
    × Gives (pos 7) (negsuc 0) (pos 7) (pos 7) (pos 7) (pos 8)
    -- "alone": a row of one average and one residual
    × (row 1 (pos 2147483647 ∷ []) 1 (pos 2 ∷ []) ≡ negsuc 2147483647 ∷ pos 2147483646 ∷ [])
    × (plan_of 8 8 ≡ [])
    × (plan_of 8 9 ≡ vertical ∷ [])
    × (plan_of 9 9 ≡ vertical ∷ horizontal ∷ [])
    -- "group 256, 3000 by 200, shifts 0, HF on LF, (9, 0)"
    × (rect_of (channel 3000 200) 2 1 256 9 0 ≡ record { answer = 0; x = 256; y = 0; width = 256; height = 200 })
    × (listing record20by9 ≡ text20by9)
