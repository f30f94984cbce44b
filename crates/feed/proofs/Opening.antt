-- The session before the first setup is the empty one that a refused setup gives.
use mathlib.Core.Path.{◌≡◌, refl}
use mathlib.Core.List.{[]}
use Rattle.rates.specs.Rates.{pairs_with}
use Rattle.session.specs.Session.{setup_number, setup_of, empty_session}
use Rattle.feed.specs.Feed.{opening}

pub opening_refused : (setup_of 0 0 0 []).number ≡ 1
unfolding setup_of setup_number pairs_with
opening_refused = refl

pub opening_empty : opening ≡ empty_session
unfolding opening setup_of setup_number pairs_with
opening_empty = refl
