-- Which lane of the last opening a call goes to: the one that a physical id names, and of a create the first at home of its type
-- (this project's own).
use Rattle.std.specs.Prelude.{ℕ, ◌==◌, Bool, false, ◌&&◌, not, List, [], ◌∷◌, Option, find, option_map}
use Rattle.std.specs.Str.{bytes_eq}
use Rattle.cf_effect.specs.World.{World}
use Rattle.cf_plan.specs.Follow.{is_lane_leased}

-- the id begins with the lane's name and a colon
abbrev pub is_of_lane : List ℕ → List ℕ → Bool
is_of_lane [] [] = false
is_of_lane [] (c ∷ cs) = c == 58
is_of_lane (n ∷ ns) [] = false
is_of_lane (n ∷ ns) (c ∷ cs) = n == c && is_of_lane ns cs

-- a create goes to the first lane at home of its type, in the order in which the lanes were handed in
abbrev pub first_home : List ℕ → List ℕ → World → Option (List ℕ)
first_home k out x = option_map (λ l. l.0) (find (λ l. bytes_eq k l.1 && not (is_lane_leased out x l.0)) x.lanes)
