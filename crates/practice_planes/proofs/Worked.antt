-- Worked values: the first states and pels of seed 1, and the planes of two small belts.
-- Assumes nothing.
use mathlib.Core.List.{[], ◌∷◌}
use mathlib.Core.Path.{◌≡◌, refl}
use lib.IntN.{pos, negsuc}
use Rattle.plane.specs.Clamp.{displaced}
use Rattle.generator.specs.Generator.{times, next}
use Rattle.practice_planes.specs.Belt.{reference_plane, input_plane}

states : times next 1 1 ∷ times next 2 1 ∷ times next 3 1 ∷ [] ≡ 1015568748 ∷ 1586005467 ∷ 2165703038 ∷ []
states = refl

square : reference_plane 1 2 2 ≡ 15496 ∷ 24200 ∷ 33046 ∷ 46195 ∷ []
unfolding reference_plane
square = refl

square-moved : input_plane (reference_plane 1 2 2) 2 2 (pos 1) (negsuc 0) ≡ 33046 ∷ 33046 ∷ 33046 ∷ 33046 ∷ []
unfolding reference_plane input_plane displaced
square-moved = refl

wide : reference_plane 4294967295 4 2 ≡ 15445 ∷ 12311 ∷ 8835 ∷ 41343 ∷ 47029 ∷ 57284 ∷ 59813 ∷ 47440 ∷ []
unfolding reference_plane
wide = refl

wide-moved : input_plane (reference_plane 4294967295 4 2) 4 2 (negsuc 0) (pos 1)
    ≡ 12311 ∷ 8835 ∷ 41343 ∷ 41343 ∷ 12311 ∷ 8835 ∷ 41343 ∷ 41343 ∷ []
unfolding reference_plane input_plane displaced
wide-moved = refl
