-- Worked roots, by their patterns.
-- Assumes nothing.
use mathlib.Core.Path.{◌≡◌, refl}
use lib.Ieee.{binary64, size, round, of_bits, to_bits}
use Rattle.root.specs.Root.{root, scaled_back, nearest_root, floor_root}

-- 2.0
root-of-two : to_bits binary64 (root (of_bits binary64 0x4000_0000_0000_0000)) ≡ 0x3ff6_a09e_667f_3bcd
unfolding root scaled_back nearest_root floor_root of_bits to_bits round size
root-of-two = refl

-- 0.1
root-of-a-tenth : to_bits binary64 (root (of_bits binary64 0x3fb9_9999_9999_999a)) ≡ 0x3fd4_3d13_6248_490f
unfolding root scaled_back nearest_root floor_root of_bits to_bits round size
root-of-a-tenth = refl

root-of-the-least : to_bits binary64 (root (of_bits binary64 1)) ≡ 0x1e60_0000_0000_0000
unfolding root scaled_back nearest_root floor_root of_bits to_bits round size
root-of-the-least = refl

root-of-the-greatest : to_bits binary64 (root (of_bits binary64 0x7fef_ffff_ffff_ffff)) ≡ 0x5fef_ffff_ffff_ffff
unfolding root scaled_back nearest_root floor_root of_bits to_bits round size
root-of-the-greatest = refl

-- 65537.0
root-of-65537 : to_bits binary64 (root (of_bits binary64 0x40f0_0010_0000_0000)) ≡ 0x4070_0007_fffe_0001
unfolding root scaled_back nearest_root floor_root of_bits to_bits round size
root-of-65537 = refl
