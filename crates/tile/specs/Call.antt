-- The tile call (document 01, "Tiles", questions 5, 12 and 14): what it answers, what the output slice then holds, and what it tells of the plain
-- range. Definitions only.
use Rattle.std.specs.Prelude.{Bool, false, cond, ◌&&◌, ◌||◌, not, List, ℕ, ◌+◌, ◌*◌, eqb, leb, ℤ, length}
use Rattle.numbers.specs.Numbers.{max_side, max_samples, refused_samples, refused_sizes, refused_length}
use Rattle.tile.specs.declared.Sides.{Sides}
use Rattle.line.specs.Uncut.{Squeeze, squeeze, uncut}
use Rattle.line.specs.Marks.{squeeze_marked}

-- the arguments of a call: the direction, the sizes of average, residual and output, and the five slices
pub record Call : Type 0 where
  pub horizontal : Bool
  pub avg_sides : Sides
  pub res_sides : Sides
  pub out_sides : Sides
  pub avg : List ℤ
  pub res : List ℤ
  pub next : List ℤ
  pub prev : List ℤ
  pub out : List ℤ

-- 5. "Do all samples .. of each rectangle of a tile call, number at most 16,777,216?"
abbrev pub area : Sides → ℕ
area s = s.width * s.height

unfoldable pub area_allowed : Sides → Bool
area_allowed s = leb (area s) max_samples

unfoldable pub areas_allowed : Call → Bool
areas_allowed c = area_allowed c.avg_sides && (area_allowed c.res_sides && area_allowed c.out_sides)

-- a side along the squeeze, and the one that crosses it
abbrev pub along : Bool → Sides → ℕ
along horizontal s = cond horizontal s.width s.height

abbrev pub across : Bool → Sides → ℕ
across horizontal s = cond horizontal s.height s.width

-- the sides of a rectangle of so many lines of so many samples
abbrev pub sides : Bool → ℕ → ℕ → Sides
sides horizontal lines n = record { width = cond horizontal n lines; height = cond horizontal lines n }

-- 12. "Raise a side's limit to 1,048,575, in tile calls too, where question 12 still judges it" (A.8)
unfoldable pub sides_small : Sides → Bool
sides_small s = leb s.width max_side && leb s.height max_side

-- "average width minus residual width is 0 or 1, output width is their sum, heights are equal; vertical likewise"
unfoldable pub sides_fit : Bool → Sides → Sides → Sides → Bool
sides_fit horizontal a r o =
    (sides_small a && (sides_small r && sides_small o))
    && ((eqb (along horizontal a) (along horizontal r) || eqb (along horizontal a) (along horizontal r + 1))
    && (eqb (along horizontal o) (along horizontal a + along horizontal r)
    && (eqb (across horizontal r) (across horizontal a) && eqb (across horizontal o) (across horizontal a))))

-- "The next average line and previous output line have the crossing length, or length 0 for absent (question 12 judges both)."
unfoldable pub line_fits : ℕ → List ℤ → Bool
line_fits crossing xs = eqb (length xs) 0 || eqb (length xs) crossing

unfoldable pub sizes_fit : Call → Bool
sizes_fit c =
    sides_fit c.horizontal c.avg_sides c.res_sides c.out_sides
    && (line_fits (across c.horizontal c.avg_sides) c.next && line_fits (across c.horizontal c.avg_sides) c.prev)

-- 14. "Has each sample slice exactly its length"
unfoldable pub slices_fit : Call → Bool
slices_fit c =
    eqb (length c.avg) (area c.avg_sides)
    && (eqb (length c.res) (area c.res_sides) && eqb (length c.out) (area c.out_sides))

-- the questions in their order; the first "no" is the refusal
unfoldable pub answer : Call → ℕ
answer c = cond (areas_allowed c) (cond (sizes_fit c) (cond (slices_fit c) 0 refused_length) refused_sizes) refused_samples

-- the squeeze that an accepted call makes
abbrev pub squeeze_on : Bool → Sides → Sides → List ℤ → List ℤ → List ℤ → List ℤ → Squeeze
squeeze_on horizontal a r avg res next prev =
    squeeze horizontal (across horizontal a) (along horizontal a) (along horizontal r) avg res next prev

unfoldable pub squeeze_of : Call → Squeeze
squeeze_of c = squeeze_on c.horizontal c.avg_sides c.res_sides c.avg c.res c.next c.prev

-- the output slice afterwards: the uncut squeeze's output, or as it was where the call is refused
unfoldable pub after : Call → List ℤ
after c = cond (eqb (answer c) 0) (uncut (squeeze_of c)) c.out

-- the mark (document 02, A.3), "for all pairs under them and for the averages that a step copies"; a refused call has none
unfoldable pub call_mark : Call → Bool
call_mark c = cond (eqb (answer c) 0) (squeeze_marked (squeeze_of c)) false

-- the call of a direction, the sizes of average, residual and output, and the slices
abbrev pub call_on : Bool → Sides → Sides → Sides → List ℤ → List ℤ → List ℤ → List ℤ → List ℤ → Call
call_on horizontal a r o avg res next prev out =
    record {
      horizontal = horizontal;
      avg_sides = a;
      res_sides = r;
      out_sides = o;
      avg = avg;
      res = res;
      next = next;
      prev = prev;
      out = out;
    }

-- the call that numbers and slices make, horizontal unless the number is 0
abbrev pub call : ℕ → ℕ → ℕ → ℕ → ℕ → ℕ → ℕ → List ℤ → List ℤ → List ℤ → List ℤ → List ℤ → Call
call horizontal aw ah rw rh ow oh avg res next prev out =
    record {
      horizontal = not (eqb horizontal 0);
      avg_sides = record { width = aw; height = ah };
      res_sides = record { width = rw; height = rh };
      out_sides = record { width = ow; height = oh };
      avg = avg;
      res = res;
      next = next;
      prev = prev;
      out = out;
    }
