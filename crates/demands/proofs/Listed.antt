-- What an accepted setup gives to start from.
use Prim.Native.Nat.{ℕ, zero, suc, ◌+◌, ◌-◌, ◌≤◌, ◌<◌}
use mathlib.Core.Path.{◌≡◌, refl, subst}
use mathlib.Core.Bool.{Bool, true, ◌&&◌, false≢true}
use mathlib.Core.List.{List, [], ◌∷◌}
use native.Mathlib.Omega.{arith}
use native.Mathlib.Nat.{not-suc-le-zero, le_of_suc-le-suc}
use lib.Dec.{leb, ltb, eqb}
use lib.ListN.{length, get_or, drop}
use lib.Seq.{get_or-drop}
use borrow.Author.Tests.{leb-true, ltb-true, eqb-true, le-leb}
use Rattle.laws.proofs.Tests.{both, past, chosen}
use Rattle.rates.specs.Rates.{rate_listed, intervals, interval_of, pairs_with}
use Rattle.rates.specs.Rates as rates
use Rattle.rates.specs.Cadence.{cadence}
use Rattle.rates.proofs.Table.{some_frames}
use Rattle.sampling.specs.Formats.{table, named, row_of}
use Rattle.picture.specs.Lines.{interlaced}
use Rattle.session.specs.declared.Settings.{Settings}
use Rattle.session.specs.Fingerprints.{all_listed}
use Rattle.session.specs.Session.{is_set, rule_listed, setup_number}
use Rattle.demands.specs.Calls.{Setup}
use Rattle.demands.specs.Paper.{accepted}

-- ---- a format and a rate that it takes

listed_rate : (r k : ℕ) → 2 ≤ k → k ≤ 11 → eqb r k ≡ true → rate_listed r ≡ true
unfolding rate_listed
listed_rate r k l h e =
    let q = eqb-true r k e in
    rw (le-leb 2 r (omega arith), le-leb r 11 (omega arith)) refl

listed_two : (r : ℕ) → rates.two_fields r ≡ true → rate_listed r ≡ true
unfolding rate_listed rates.two_fields
listed_two r e =
    let p = both (leb 5 r) (leb r 7) e in
    let l = leb-true 5 r p.0 in
    let h = leb-true r 7 p.1 in
    rw (le-leb 2 r (omega arith), le-leb r 11 (omega arith)) refl

pub takes_rate : (f r : ℕ) → pairs_with f r ≡ true → (f < 8) × (rate_listed r ≡ true)
unfolding pairs_with
takes_rate f r =
    chosen P (eqb f 0) _ _ (λ z e. (omega (arith, eqb-true f 0 z), listed_rate r 6 (omega arith) (omega arith) e))
    (λ _. chosen P (eqb f 1) _ _ (λ z e. (omega (arith, eqb-true f 1 z), listed_rate r 5 (omega arith) (omega arith) e))
    (λ _. chosen P (eqb f 3) _ _ (λ z e. (omega (arith, eqb-true f 3 z), listed_two r e))
    (λ _ e. (ltb-true f 8 (both (ltb f 8) (rate_listed r) e).0, (both (ltb f 8) (rate_listed r) e).1))))
  where
    P : Bool → Type 0
    P b = b ≡ true → (f < 8) × (rate_listed r ≡ true)

-- a frame of two fields only at 25, 29.97 or 30
pub two_at : (f r : ℕ) → pairs_with f r ≡ true → interlaced (row_of f) ≡ true → rates.two_fields r ≡ true
unfolding pairs_with interlaced row_of named table rates.two_fields
two_at zero r e t = rw (eqb-true r 6 e) refl
two_at (suc zero) r e t = rw (eqb-true r 5 e) refl
two_at (suc (suc zero)) r e t = absurd (false≢true t)
two_at (suc (suc (suc zero))) r e t = e
two_at (suc (suc (suc (suc zero)))) r e t = absurd (false≢true t)
two_at (suc (suc (suc (suc (suc zero))))) r e t = absurd (false≢true t)
two_at (suc (suc (suc (suc (suc (suc zero)))))) r e t = absurd (false≢true t)
two_at (suc (suc (suc (suc (suc (suc (suc zero))))))) r e t = absurd (false≢true t)
two_at (suc (suc (suc (suc (suc (suc (suc (suc n)))))))) r e t = absurd (false≢true t)

-- ---- a listed rate has an interval

abbrev positive : List ℕ → Bool
positive [] = true
positive (x ∷ l) = ltb 0 x && positive l

positive_at : (l : List ℕ) → positive l ≡ true → (k : ℕ) → k < length l → 0 < get_or l k 0
positive_at [] e k h = absurd (not-suc-le-zero h)
positive_at (x ∷ l) e zero h = ltb-true 0 x (both (ltb 0 x) (positive l) e).0
positive_at (x ∷ l) e (suc k) h = positive_at l (both (ltb 0 x) (positive l) e).1 k (le_of_suc-le-suc h)

pub some_interval : (r : ℕ) → rate_listed r ≡ true → 0 < interval_of r
unfolding rate_listed interval_of
some_interval r e =
    let p = both (leb 2 r) (leb r 11) e in
    let l = leb-true 2 r p.0 in
    let h = leb-true r 11 p.1 in
    let k : 2 + (r - 2) ≡ r = omega arith in
    let q = positive_at (drop 2 intervals) refl (r - 2) (omega arith) in
    subst (λ (n : ℕ). 0 < get_or intervals n 0) k (rw get_or-drop at q)

-- ---- a setup

pub record Listed (u : Setup) : Type 0 where
  pub pairs : pairs_with u.format u.rate ≡ true
  pub some : 1 ≤ length u.mixes
  pub many : length u.mixes ≤ 32
  pub mixes : all_listed u.mixes ≡ true

pub listed : (u : Setup) → accepted u ≡ true → Listed u
unfolding accepted setup_number
listed u e =
    let a = past (pairs_with u.format u.rate) 1 _ (eqb-true _ 0 e) (omega arith) in
    let r = past (rule_listed u.rule) 1 _ a.1 (omega arith) in
    let b = past (leb 1 (length u.mixes)) 1 _ r.1 (omega arith) in
    let c = past (leb (length u.mixes) 32) 1 _ b.1 (omega arith) in
    let d = past (all_listed u.mixes) 1 0 c.1 (omega arith) in
    record { pairs = a.0; some = leb-true _ _ b.0; many = leb-true _ _ c.0; mixes = d.0 }

abbrev pub settings_of : Setup → Settings
settings_of u = record { format = u.format; rate = u.rate; rule = u.rule; count = length u.mixes }

module _ (u : Setup) (l : Listed u) where
  pub is_set_lem : is_set (settings_of u) ≡ true
  unfolding is_set
  is_set_lem = rw (l.pairs, le-leb 1 (length u.mixes) l.some, le-leb (length u.mixes) 32 l.many) refl

  pub listed_format : u.format < 8
  listed_format = (takes_rate u.format u.rate l.pairs).0

  pub rate_is_listed : rate_listed u.rate ≡ true
  rate_is_listed = (takes_rate u.format u.rate l.pairs).1

  pub interval_some : 0 < interval_of u.rate
  interval_some = some_interval u.rate rate_is_listed

  pub cadence_some : 0 < length (cadence u.rate)
  cadence_some = some_frames u.rate rate_is_listed
