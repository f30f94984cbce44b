-- A sound instant in floating point (02, A3).
use Rattle.std.specs.Prelude.{ℕ, Bool, false, not, ◌||◌, List, [], ◌∷◌, map, ◌==◌, is_nan, Float}
use Rattle.sound.specs.Mix.{mixed, pseudo_absolute}
use Rattle.floats.specs.declared.Instant.{Instant}
use Rattle.floats.specs.declared.Instant.TheVariants as instant
use Rattle.floats.specs.Values.{sample_of}

-- "as mono, stereo or 5.1": the mix type that it is an instant of
abbrev pub kind_of : Instant → ℕ
kind_of (instant.Mono x) = 1
kind_of (instant.Stereo l r) = 2
kind_of (instant.Five f) = 5

-- its values, in the order that 01 gives the channels of its mix type
abbrev pub values_in : Instant → List Float
values_in (instant.Mono x) = x ∷ []
values_in (instant.Stereo l r) = l ∷ r ∷ []
values_in (instant.Five f) = f.L ∷ f.R ∷ f.C ∷ f.Ls ∷ f.Rs ∷ []

abbrev pub any_nan : List Float → Bool
any_nan [] = false
any_nan (x ∷ xs) = is_nan x || any_nan xs

-- "an instant with a NaN"
unfoldable pub has_nan : Instant → Bool
has_nan i = any_nan (values_in i)

-- "14 for an instant with a NaN, or whose kind differs from the fingerprint's mix type"
abbrev pub refused_by : ℕ → Instant → Bool
refused_by mix i = has_nan i || not (kind_of i == mix)

-- "The mix follows on the integers": a(i) by a rule, as of a block's instant with these samples
unfoldable pub float_value : ℕ → Instant → ℕ
float_value rule i = pseudo_absolute (mixed rule (kind_of i) (map sample_of (values_in i)))
