-- The product by 55555556 hex, which is a third of 2^32 + 2: it fits 64 bits, its upper half is a sample, and the upper half is the whole third
-- of every sample that is not negative. Assumes nothing.
use mathlib.Core.Path.{◌≡◌, ap}
use Prim.Native.Nat.{ℕ, ◌<◌, ◌*◌, ◌/◌}
use native.Mathlib.Omega.{arith}
use lib.Dec.{lit<}
use lib.IntN.{ℤ, pos, ◌*ℤ◌}
use mir.Syntax.{w64}
use mir.Val.{SFits}
use Rattle.arith32.specs.Arith.{Sample, third}
use Rattle.arith32.proofs.Whole.{product_law, shift_law, range32, in_range32, in_range64}

pub product_fits : (p : ℤ) → Sample p → SFits w64 (p *ℤ pos 0x5555_5556)
product_fits p f =
    let r = range32 p f in
    let m = product_law p 0x5555_5556 in
    in_range64 (p *ℤ pos 0x5555_5556) (omega arith) (omega arith)

pub third_sample : (p : ℤ) → Sample p → Sample (third p)
third_sample p f =
    let r = range32 p f in
    let m = product_law p 0x5555_5556 in
    let s = shift_law (p *ℤ pos 0x5555_5556) 4294967296 (lit< tt) in
    in_range32 (third p) (omega arith) (omega arith)

pub third_whole : (n : ℕ) → n < 2147483648 → third (pos n) ≡ pos (n / 3)
third_whole n h = let e : n * 0x5555_5556 / 4294967296 ≡ n / 3 = omega arith in ap pos e
