-- The text of a listing (document 01, "Proved table", the program squeeze-list), as bytes. Definitions only.
use Rattle.std.specs.Prelude.{Bool, cond, List, [], ◌∷◌, ◌++◌, ℕ, zero, suc, ◌+◌, ◌-◌, ◌*◌, ◌/◌, ◌%◌, ltb}
use Rattle.channel.specs.declared.Channel.{Channel}
use Rattle.channel.specs.Channel.{is_meta}
use Rattle.list.specs.declared.Step.{Step}
use Rattle.record.specs.Bytes.{joined}

-- a space and a line's end
abbrev pub space : ℕ
space = 32

abbrev pub newline : ℕ
newline = 10

-- the character of a digit
abbrev pub digit : ℕ → ℕ
digit d = 48 + d

-- the decimal digits of a number, first the highest, none too many; every number of a listing has at most seven
abbrev pub digits_upto : ℕ → ℕ → List ℕ
digits_upto zero n = []
digits_upto (suc places) n = cond (ltb n 10) (digit n ∷ []) (digits_upto places (n / 10) ++ (digit (n % 10) ∷ []))

abbrev pub number_places : ℕ
number_places = 7

unfoldable pub decimal : ℕ → List ℕ
decimal n = digits_upto number_places n

-- the number that digits stand for, after those that stand for n
abbrev pub value_from : ℕ → List ℕ → ℕ
value_from n [] = n
value_from n (d ∷ ds) = value_from (10 * n + (d - digit 0)) ds

-- "steps ", "channels ", "coarse " and "refused "
abbrev pub steps_word : List ℕ
steps_word = 115 ∷ 116 ∷ 101 ∷ 112 ∷ 115 ∷ space ∷ []

abbrev pub channels_word : List ℕ
channels_word = 99 ∷ 104 ∷ 97 ∷ 110 ∷ 110 ∷ 101 ∷ 108 ∷ 115 ∷ space ∷ []

abbrev pub coarse_word : List ℕ
coarse_word = 99 ∷ 111 ∷ 97 ∷ 114 ∷ 115 ∷ 101 ∷ space ∷ []

abbrev pub refused_word : List ℕ
refused_word = 114 ∷ 101 ∷ 102 ∷ 117 ∷ 115 ∷ 101 ∷ 100 ∷ space ∷ []

-- a word, a number and the line's end
abbrev pub numbered : List ℕ → ℕ → List ℕ
numbered word n = word ++ (decimal n ++ (newline ∷ []))

-- two numbers with a space between them
abbrev pub two : ℕ → ℕ → List ℕ
two m n = decimal m ++ (space ∷ decimal n)

-- "Step line: h or v, in or out, first, number."
abbrev pub direction_word : Bool → List ℕ
direction_word horizontal = cond horizontal (104 ∷ space ∷ []) (118 ∷ space ∷ [])

abbrev pub place_word : Bool → List ℕ
place_word inplace = cond inplace (105 ∷ 110 ∷ space ∷ []) (111 ∷ 117 ∷ 116 ∷ space ∷ [])

unfoldable pub step_line : Step → List ℕ
step_line s =
    direction_word s.horizontal ++ (place_word s.inplace ++ (two s.begin s.number ++ (newline ∷ [])))

-- "Channel line: width, height, two shifts, or m m."
abbrev pub meta_word : List ℕ
meta_word = 109 ∷ space ∷ 109 ∷ []

abbrev pub shift_words : Channel → List ℕ
shift_words c = cond (is_meta c) meta_word (two c.hshift c.vshift)

unfoldable pub channel_line : Channel → List ℕ
channel_line c = two c.width c.height ++ (space ∷ (shift_words c ++ (newline ∷ [])))

-- lines one after the other
abbrev pub step_lines : List Step → List ℕ
step_lines ss = joined step_line ss

abbrev pub channel_lines : List Channel → List ℕ
channel_lines cs = joined channel_line cs
