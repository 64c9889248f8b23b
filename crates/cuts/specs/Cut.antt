-- A squeeze cut into tiles, and a whole list of tile calls (document 01, "Whole runs"): "cut across into strips anywhere, each strip along the
-- squeeze into one tile or more; each tile has one accepted call and its own output slice". Definitions only; specs/Claim.antt has the claim.
use Rattle.std.specs.Prelude.{◌≡◌, Bool, false, cond, ◌||◌, List, [], ◌∷◌, ℕ, zero, suc, ◌+◌, ◌-◌, ◌*◌, ◌<◌, ◌≤◌, eqb, ℤ, pos, length, get_or, take, drop}
use Rattle.numbers.specs.Numbers.{max_side, max_samples}
use Rattle.line.specs.Uncut.{Squeeze, place, line_at, position_at, size, table, uncut}
use Rattle.tile.specs.Call.{Call, sides, answer, after, call_mark}

-- a strip: the lines from `start` on, and its tiles along the squeeze; tile t begins with pair `from t`
pub record Strip : Type 0 where
  pub start : ℕ
  pub lines : ℕ
  pub tiles : ℕ
  pub from : ℕ → ℕ

-- whether tile t is the last of its strip
abbrev pub is_last : Strip → ℕ → Bool
is_last p t = eqb (t + 1) p.tiles

-- where tile t ends among n averages or residuals
abbrev pub end : Strip → ℕ → ℕ → ℕ
end p n t = cond (is_last p t) n (p.from (t + 1))

abbrev pub tile_averages : Squeeze → Strip → ℕ → ℕ
tile_averages s p t = end p s.averages t - p.from t

abbrev pub tile_residuals : Squeeze → Strip → ℕ → ℕ
tile_residuals s p t = end p s.residuals t - p.from t

abbrev pub tile_size : Squeeze → Strip → ℕ → ℕ
tile_size s p t = tile_averages s p t + tile_residuals s p t

-- "one tile or more", "no tile is empty", "each but the last has an even output size": all but the last have as many averages as residuals
pub record StripFits (s : Squeeze) (p : Strip) : Type 0 where
  pub inside : p.start + p.lines ≤ s.lines
  pub some : 0 < p.tiles
  pub begins : p.from 0 ≡ 0
  pub rises : (t : ℕ) → t + 1 < p.tiles → p.from t < p.from (t + 1)
  pub ends : (t : ℕ) → t < p.tiles → p.from t < s.averages
  -- the sizes that questions 5 and 12 accept
  pub side_across : p.lines ≤ max_side
  pub side_along : (t : ℕ) → t < p.tiles → tile_size s p t ≤ max_side
  pub area : (t : ℕ) → t < p.tiles → p.lines * tile_size s p t ≤ max_samples

-- a cut: so many strips, one after the other, over all the lines; lines without a strip would not be cut
pub record Cut (s : Squeeze) : Type 0 where
  pub strips : ℕ
  pub strip : ℕ → Strip
  pub some : 0 < s.lines → 0 < strips
  pub fits : (k : ℕ) → k < strips → StripFits s (strip k)
  pub first : 0 < strips → (strip 0).start ≡ 0
  pub follows : (k : ℕ) → k + 1 < strips → (strip (k + 1)).start ≡ (strip k).start + (strip k).lines
  pub last : (k : ℕ) → k + 1 ≡ strips → (strip k).start + (strip k).lines ≡ s.lines

-- ---- parts of a slice
-- lines `start` to `start + lines` and positions `from` to `from + n` of a slice of `whole` lines of `each` samples, as a slice of its own
unfoldable pub part : Bool → ℕ → ℕ → ℕ → ℕ → ℕ → ℕ → List ℤ → List ℤ
part horizontal whole each start lines from n xs =
    table (λ j. get_or xs (place horizontal whole each (start + line_at horizontal lines n j) (from + position_at horizontal lines n j)) (pos 0)) 0 (lines * n)

-- one line across: position i of the lines `start` to `start + lines`
unfoldable pub line_across : Bool → ℕ → ℕ → ℕ → ℕ → ℕ → List ℤ → List ℤ
line_across horizontal whole each start lines i xs =
    table (λ k. get_or xs (place horizontal whole each (start + k) i) (pos 0)) 0 lines

-- ---- a tile
abbrev pub tile_avg : Squeeze → Strip → ℕ → List ℤ
tile_avg s p t = part s.horizontal s.lines s.averages p.start p.lines (p.from t) (tile_averages s p t) s.avg

abbrev pub tile_res : Squeeze → Strip → ℕ → List ℤ
tile_res s p t = part s.horizontal s.lines s.residuals p.start p.lines (p.from t) (tile_residuals s p t) s.res

-- its part of the uncut squeeze's output, and where along a line that begins: two samples for each pair before
abbrev pub tile_start : Strip → ℕ → ℕ
tile_start p t = p.from t + p.from t

abbrev pub tile_out : Squeeze → Strip → ℕ → List ℤ
tile_out s p t = part s.horizontal s.lines (size s) p.start p.lines (tile_start p t) (tile_size s p t) (uncut s)

-- "Its next average line is the next tile's first average line .. at the ends, its part of the outer lines"
unfoldable pub tile_next : Squeeze → Strip → ℕ → List ℤ
tile_next s p t =
    cond (is_last p t)
    (take p.lines (drop p.start s.next))
    (line_across s.horizontal p.lines (tile_averages s p (t + 1)) 0 p.lines 0 (tile_avg s p (t + 1)))

-- "its previous output line the last line that the tile before wrote", read from that tile's slice
unfoldable pub tile_prev : Squeeze → Strip → (ℕ → List ℤ) → ℕ → List ℤ
tile_prev s p slices zero = take p.lines (drop p.start s.prev)
tile_prev s p slices (suc t) =
    line_across s.horizontal p.lines (tile_size s p t) 0 p.lines (tile_size s p t - 1) (slices t)

-- the call of tile t, with the strip's slices as they then are
unfoldable pub tile_call : Squeeze → Strip → (ℕ → List ℤ) → ℕ → Call
tile_call s p slices t =
    record {
      horizontal = s.horizontal;
      avg_sides = sides s.horizontal p.lines (tile_averages s p t);
      res_sides = sides s.horizontal p.lines (tile_residuals s p t);
      out_sides = sides s.horizontal p.lines (tile_size s p t);
      avg = tile_avg s p t;
      res = tile_res s p t;
      next = tile_next s p t;
      prev = tile_prev s p slices t;
      out = slices t;
    }

-- ---- a list of calls
-- the output slice of each tile of each strip, and how many tiles of each strip have run
pub record State : Type 0 where
  pub slices : ℕ → ℕ → List ℤ
  pub done : ℕ → ℕ

-- the next tile of strip k runs, or some other call is made on the slice of tile t of strip k
pub data Event : Type 0 where
  runs : (k : ℕ) → Event
  other : (k t : ℕ) → Call → Event

-- a call on a slice as it then is
abbrev pub on : Call → List ℤ → Call
on c out =
    record {
      horizontal = c.horizontal;
      avg_sides = c.avg_sides;
      res_sides = c.res_sides;
      out_sides = c.out_sides;
      avg = c.avg;
      res = c.res;
      next = c.next;
      prev = c.prev;
      out = out;
    }

-- one slice replaced
abbrev pub stored : (ℕ → ℕ → List ℤ) → ℕ → ℕ → List ℤ → ℕ → ℕ → List ℤ
stored slices k t xs i j = cond (eqb i k) (cond (eqb j t) xs (slices i j)) (slices i j)

-- one call more: the slice is afterwards what the tile call's contract says
unfoldable pub happens : (s : Squeeze) → Cut s → Event → State → State
happens s cut (runs k) state =
    record {
      slices = stored state.slices k (state.done k) (after (tile_call s (cut.strip k) (state.slices k) (state.done k)));
      done = λ i. cond (eqb i k) (suc (state.done i)) (state.done i);
    }
happens s cut (other k t c) state =
    record { slices = stored state.slices k t (after (on c (state.slices k t))); done = state.done }

-- a whole list of calls
abbrev pub together : (s : Squeeze) → Cut s → List Event → State → State
together s cut [] state = state
together s cut (e ∷ es) state = together s cut es (happens s cut e state)

-- what the calls tell of the plain range (document 02, A.3): the mark of the call that an event makes, and of some call of a whole list
abbrev pub mark_at : (s : Squeeze) → Cut s → Event → State → Bool
mark_at s cut (runs k) state = call_mark (tile_call s (cut.strip k) (state.slices k) (state.done k))
mark_at s cut (other k t c) state = call_mark (on c (state.slices k t))

abbrev pub marks : (s : Squeeze) → Cut s → List Event → State → Bool
marks s cut [] state = false
marks s cut (e ∷ es) state = mark_at s cut e state || marks s cut es (happens s cut e state)

-- each call is one that document 01 allows there: a tile of the cut that has not run, or a call that is refused
abbrev pub allowed : (s : Squeeze) → Cut s → Event → State → Type 0
allowed s cut (runs k) state = (k < cut.strips) × (state.done k < (cut.strip k).tiles)
allowed s cut (other k t c) state = answer (on c (state.slices k t)) ≡ 0 → ⊥

abbrev pub all_allowed : (s : Squeeze) → Cut s → List Event → State → Type 0
all_allowed s cut [] state = Unit {0}
all_allowed s cut (e ∷ es) state = allowed s cut e state × all_allowed s cut es (happens s cut e state)

-- at the start: slices of the right lengths, whatever they hold, and no tile has run
pub record Begins (s : Squeeze) (cut : Cut s) (state : State) : Type 0 where
  pub long : (k t : ℕ) → k < cut.strips → t < (cut.strip k).tiles → length (state.slices k t) ≡ (cut.strip k).lines * tile_size s (cut.strip k) t
  pub none : (k : ℕ) → state.done k ≡ 0

-- at the end: each tile of each strip has run
abbrev pub AllRan : (s : Squeeze) → Cut s → State → Type 0
AllRan s cut state = (k : ℕ) → k < cut.strips → state.done k ≡ (cut.strip k).tiles
