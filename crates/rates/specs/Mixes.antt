-- Mix types (01, Audio): 1 is mono, 2 is L, R, 5 is L, R, C, Ls, Rs.
use Rattle.std.specs.Prelude.{ℕ, Bool, ◌||◌, eqb}

unfoldable pub mix_listed : ℕ → Bool
mix_listed mix = eqb mix 1 || (eqb mix 2 || eqb mix 5)
