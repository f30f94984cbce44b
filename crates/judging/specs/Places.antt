-- Where in a cadence a packet may stand: for each place at which the fitting may have begun, the place that comes next. Places count from 0, and 40 is none.
use Rattle.std.specs.Prelude.{ℕ, zero, suc, List, [], ◌∷◌, map, Bool, true, false, cond, get_or, ltb, eqb}
use Rattle.std.specs.List.{list_any}
use Rattle.rates.specs.Cadence.{cadence, place_after}
use Rattle.judging.specs.declared.Fit.{Fit}

unfoldable pub places_from : ℕ → ℕ → List ℕ
places_from k zero = []
places_from k (suc n) = k ∷ places_from (suc k) n

-- a fitting that begins: no row is longer than 40
unfoldable pub every_place : List ℕ
every_place = places_from 0 40

-- the place after a place of which so many bytes are due, or none
unfoldable pub place_fitted : ℕ → ℕ → ℕ → ℕ
place_fitted rate bytes place = cond (eqb (get_or (cadence rate) place 0) bytes) (place_after rate place) 40

unfoldable pub any_place : List ℕ → Bool
any_place places = list_any (λ p. ltb p 40) places

-- a packet with audio: "the fitting begins anew with that packet" where it fits no place that was left
unfoldable pub fit_in : ℕ → ℕ → List ℕ → Fit
fit_in rate bytes places =
    cond (any_place (map (place_fitted rate bytes) places))
    (record { fault = false; places = map (place_fitted rate bytes) places })
    (record { fault = true; places = map (place_fitted rate bytes) every_place })
