-- What a judge knows is what 02 says of the packets that came: one accepted packet more.
use Prim.Native.Nat.{ℕ, ◌≤◌}
use mathlib.Core.Path.{◌≡◌, refl, sym, ap, ◌∙◌}
use mathlib.Core.Bool.{Bool, true, false, cond, ◌&&◌, not, true≢false}
use mathlib.Core.List.{List, [], ◌∷◌, ◌++◌, map}
use native.Mathlib.Omega.{arith}
use lib.ListN.{get_or, replicate}
use lib.Dec.{ltb, eqb}
use borrow.Author.Tests.{ltb-true, eqb-true, eq-eqb}
use Rattle.laws.specs.Lists.{StandsIn}
use Rattle.rates.specs.Cadence.{cadence}
use Rattle.rates.proofs.Table.{due_1_to_5}
use Rattle.container.specs.declared.Print.{Print}
use Rattle.container.specs.declared.Contents.{Contents}
use Rattle.container.specs.Reading.{reading}
use Rattle.container_laws.specs.Counts.{count_of}
use Rattle.container_laws.proofs.Counts.{accepted_counted}
use Rattle.packet_laws.specs.Handed.{unwrapped}
use Rattle.packet_laws.proofs.Packet.{carries_accepted}
use Rattle.judging.specs.declared.Judged.{Judged}
use Rattle.judging.specs.declared.Known.{Known}
use Rattle.judging.specs.declared.Fit.{Fit}
use Rattle.judging.specs.Packets.{packet_number, contents_in, no_print, carried}
use Rattle.judging.specs.Places.{every_place, place_fitted, any_place, fit_in}
use Rattle.judging.specs.Judge.{nothing_known, counter_wrong, rate_wrong, count_wrong, places_before, fit_of, last_count, faults_with, known_with, judged_with, judged_of}
use Rattle.judging_laws.specs.Faults.{accepted_of, faults_of, has_audio, with_audio, counter_fault, rate_fault, unlike, count_fault, fits_from, fits_some, begun, taken_in, fitted, cadence_fault, faults_in}
use Rattle.judging_laws.proofs.Positions.{place_on, all_more, all_none, Some, some_more, any_fits_more, fits_some_lem}

-- "the previous accepted one"
unfoldable pub Newest : List Contents → Known → Type 0
Newest [] k = k.accepted ≡ false
Newest (previous ∷ before) k = (k.accepted ≡ true) × ((k.counter ≡ previous.counter) × (k.rate ≡ previous.rate))

-- the fingerprints of the first of packets with audio, 0 where there is none
unfoldable pub counted : List Contents → ℕ
counted [] = 0
counted (previous ∷ before) = previous.count

pub record Knows (cs : List Contents) (k : Known) : Type 0 where
  pub newest : Newest cs k
  pub count : k.count ≡ counted (with_audio cs)
  pub places : k.places ≡ map (place_on k.rate (fitted cs)) every_place
  pub some : Some (fitted cs)

pub nothing_known_lem : Knows [] nothing_known
unfolding nothing_known Newest counted with_audio fitted Some
nothing_known_lem = record { newest = refl; count = refl; places = sym (all_none 0 every_place); some = tt }

-- ---- the counts that are compared are those of packets with audio
unfoldable Counted : List Contents → Type 0
Counted [] = Unit {0}
Counted (previous ∷ before) = has_audio previous ≡ true

audio_counted : (cs : List Contents) → Counted (with_audio cs)
unfolding with_audio Counted
audio_counted [] = tt
audio_counted (c ∷ cs) = go (has_audio c) refl (audio_counted cs)
  where
    go : (t : Bool) → has_audio c ≡ t → Counted (with_audio cs) → Counted (cond t (c ∷ with_audio cs) (with_audio cs))
    go true e _ = e
    go false _ r = r

-- ---- one accepted packet more

module _ (cs : List Contents) (k : Known) (o : Knows cs k) (c : Contents) where
  counter_same : counter_wrong k c.counter ≡ counter_fault cs c
  unfolding counter_wrong counter_fault Newest
  counter_same = go cs o.newest
    where
      go : (l : List Contents) → Newest l k → counter_wrong k c.counter ≡ counter_fault l c
      go [] e = rw e refl
      go (previous ∷ before) e = rw (e.0, e.1.0) refl

  rate_same : rate_wrong k c.rate ≡ rate_fault cs c
  unfolding rate_wrong rate_fault Newest
  rate_same = go cs o.newest
    where
      go : (l : List Contents) → Newest l k → rate_wrong k c.rate ≡ rate_fault l c
      go [] e = rw e refl
      go (previous ∷ before) e = rw (e.0, e.1.1) refl

  count_same : count_wrong k c.count ≡ count_fault cs c
  unfolding count_wrong count_fault has_audio unlike counted Counted
  count_same = rw o.count (ap (λ (t : Bool). ltb 0 c.count && t) (go (with_audio cs) (audio_counted cs)))
    where
      go : (l : List Contents) → Counted l → (ltb 0 (counted l) && not (eqb c.count (counted l))) ≡ unlike l c
      go [] _ = refl
      go (previous ∷ before) e = rw e refl

  -- the places before the packet are those of the counts that are fitted before it
  abbrev ns : List ℕ
  ns = begun cs c (fitted cs)

  some_begun : Some ns
  unfolding begun Some
  some_begun = go (rate_fault cs c)
    where
      go : (t : Bool) → Some (cond t [] (fitted cs))
      go true = tt
      go false = o.some

  same_rate : rate_fault cs c ≡ false → map (place_on k.rate (fitted cs)) every_place ≡ map (place_on c.rate (fitted cs)) every_place
  unfolding rate_fault fitted Newest
  same_rate e = go cs o.newest e
    where
      not_not : (t : Bool) → not t ≡ false → t ≡ true
      not_not true _ = refl
      not_not false z = absurd (true≢false z)

      go : (l : List Contents) → Newest l k → rate_fault l c ≡ false → map (place_on k.rate (fitted l)) every_place ≡ map (place_on c.rate (fitted l)) every_place
      go [] _ _ = all_none k.rate every_place ∙ sym (all_none c.rate every_place)
      go (previous ∷ before) w z =
          ap (λ (r : ℕ). map (place_on r (fitted (previous ∷ before))) every_place)
          (w.1.1 ∙ sym (eqb-true c.rate previous.rate (not_not (eqb c.rate previous.rate) z)))

  places_same : places_before k c.rate ≡ map (place_on c.rate ns) every_place
  unfolding places_before begun
  places_same = ap (λ (t : Bool). cond t every_place k.places) rate_same ∙ go (rate_fault cs c) refl
    where
      go : (t : Bool) → rate_fault cs c ≡ t → cond t every_place k.places ≡ map (place_on c.rate (cond t [] (fitted cs))) every_place
      go true _ = sym (all_none c.rate every_place)
      go false e = o.places ∙ same_rate e

  -- what the code tests, and what it keeps, of a packet with audio
  abbrev n : ℕ
  n = carried c

  next_places : map (place_fitted c.rate n) (places_before k c.rate) ≡ map (place_on c.rate (ns ++ n ∷ [])) every_place
  next_places = ap (map (place_fitted c.rate n)) places_same ∙ all_more c.rate ns n every_place

  anew : map (place_fitted c.rate n) every_place ≡ map (place_on c.rate (n ∷ [])) every_place
  anew = ap (map (place_fitted c.rate n)) (sym (all_none c.rate every_place)) ∙ all_more c.rate [] n every_place

  module _ (audio : has_audio c ≡ true → 1 ≤ n) where
    test_same : has_audio c ≡ true → any_place (map (place_fitted c.rate n) (places_before k c.rate)) ≡ fits_some c.rate (ns ++ n ∷ [])
    test_same e = ap any_place next_places ∙ any_fits_more c.rate ns n (some_more ns n some_begun (audio e))

    -- both at once: whether it is a fault, and the places after it
    abbrev FitSame : Bool → List ℕ → Fit → Type 0
    FitSame fault after x = (x.fault ≡ fault) × (x.places ≡ map (place_on c.rate after) every_place)

    fit_same : FitSame (cadence_fault cs c) (fitted (c ∷ cs)) (fit_of k c)
    unfolding fit_of fit_in cadence_fault fitted taken_in has_audio
    fit_same = go (has_audio c) refl
      where
        choose : (u : Bool) → FitSame (not u) (cond u (ns ++ n ∷ []) (n ∷ [])) (cond u (record { fault = false; places = map (place_fitted c.rate n) (places_before k c.rate) }) (record { fault = true; places = map (place_fitted c.rate n) every_place }))
        choose true = (refl, next_places)
        choose false = (refl, anew)

        go : (t : Bool) → has_audio c ≡ t
            → FitSame (has_audio c && not (fits_some c.rate (ns ++ n ∷ []))) (cond (has_audio c) (cond (fits_some c.rate (ns ++ n ∷ [])) (ns ++ n ∷ []) (n ∷ [])) ns) (fit_of k c)
        go true e = rw (e, test_same e) (choose (fits_some c.rate (ns ++ n ∷ [])))
        go false e = rw e (refl, places_same)

    -- what is said of the packet, and what is known after it
    pub says_same : faults_with k c ≡ faults_in cs c
    unfolding faults_with faults_in
    says_same = rw (counter_same, rate_same, count_same, fit_same.0) refl

    some_taken : Some (fitted (c ∷ cs))
    unfolding fitted taken_in Some
    some_taken = go (has_audio c) refl (fits_some c.rate (ns ++ n ∷ []))
      where
        go : (t : Bool) → has_audio c ≡ t → (u : Bool) → Some (cond t (cond u (ns ++ n ∷ []) (n ∷ [])) ns)
        go true e true = some_more ns n some_begun (audio e)
        go true e false = (audio e, tt)
        go false e u = some_begun

    count_next : last_count k c.count ≡ counted (with_audio (c ∷ cs))
    unfolding last_count with_audio counted has_audio
    count_next = go (ltb 0 c.count)
      where
        go : (t : Bool) → cond t c.count k.count ≡ counted (cond t (c ∷ with_audio cs) (with_audio cs))
        go true = refl
        go false = o.count

    pub knows_more : Knows (c ∷ cs) (known_with k c)
    unfolding known_with Newest
    knows_more = record { newest = (refl, (refl, refl)); count = count_next; places = fit_same.1; some = some_taken }

-- ---- any packet more

-- each fingerprint of an accepted packet carries a byte at least (02, A2)
print_some : (rate : ℕ) (ps : List Print) → StandsIn (count_of ps 0) (cadence rate) → 1 ≤ (get_or ps 0 no_print).size
print_some rate [] s = absurd (let z : ⊥ = omega (arith, s.there, (due_1_to_5 rate s.place s.within).0) in z)
print_some rate (p ∷ ps) s = omega (arith, s.there, (due_1_to_5 rate s.place s.within).0)

audio_some : (p : List ℕ) → packet_number p ≡ 0 → has_audio (contents_in p) ≡ true → 1 ≤ carried (contents_in p)
unfolding packet_number contents_in has_audio carried
audio_some p e h =
    let a = carries_accepted p (replicate 255 0) e in
    let c = (reading (unwrapped p (replicate 255 0))).contents in
    print_some c.rate c.prints ((accepted_counted _ a.0 a.1).occurs 0 (ltb-true 0 c.count h))

-- and its count stands in the cadence of its rate, so that by itself it fits
stands_same : (rate : ℕ) (ps : List Print) → StandsIn (count_of ps 0) (cadence rate) → StandsIn (get_or ps 0 no_print).size (cadence rate)
stands_same rate [] s = s
stands_same rate (p ∷ ps) s = s

pub alone_fits : (p : List ℕ) → packet_number p ≡ 0 → has_audio (contents_in p) ≡ true → fits_some (contents_in p).rate (carried (contents_in p) ∷ []) ≡ true
unfolding packet_number contents_in has_audio carried fits_from
alone_fits p e h =
    let a = carries_accepted p (replicate 255 0) e in
    let c = (reading (unwrapped p (replicate 255 0))).contents in
    let s = stands_same c.rate c.prints ((accepted_counted _ a.0 a.1).occurs 0 (ltb-true 0 c.count h)) in
    fits_some_lem c.rate (carried c ∷ []) (record { place = s.place; within = s.within; fits = rw (eq-eqb (get_or (cadence c.rate) s.place 0) (carried c) s.there) refl })

module _ (before : List (List ℕ)) (k : Known) (o : Knows (accepted_of before) k) (p : List ℕ) where
  abbrev Said : Judged → Type 0
  Said x = (x.faults ≡ faults_of before p) × Knows (accepted_of (p ∷ before)) x.known

  -- the judge's answer is 02's, and what held holds with the packet
  pub judged_same : Said (judged_of k p)
  unfolding judged_of judged_with faults_of accepted_of
  judged_same = go (eqb (packet_number p) 0) refl
    where
      go : (t : Bool) → eqb (packet_number p) 0 ≡ t → Said (judged_of k p)
      go true e =
          let some = audio_some p (eqb-true (packet_number p) 0 e) in
          rw e (says_same (accepted_of before) k o (contents_in p) some, knows_more (accepted_of before) k o (contents_in p) some)
      go false e = rw e (refl, o)
