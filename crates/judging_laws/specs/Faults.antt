-- What is wrong with each packet (02, A13), as a function of the packets before it, of which the newest comes first: no state is kept.
use Rattle.std.specs.Prelude.{ℕ, zero, suc, ◌+◌, ◌%◌, Bool, true, false, cond, ◌&&◌, ◌||◌, not, List, [], ◌∷◌, ◌++◌, length, get_or, ltb, eqb}
use Rattle.rates.specs.Cadence.{cadence, place_after}
use Rattle.container.specs.declared.Contents.{Contents}
use Rattle.judging.specs.declared.Faults.{Faults}
use Rattle.judging.specs.Packets.{packet_number, contents_in, carried}
use Rattle.judging.specs.Judge.{refused_with}
use Rattle.judging.specs.Lines.{clean, faults_text}

-- what the accepted ones among packets say, the previous accepted one first
unfoldable pub accepted_of : List (List ℕ) → List Contents
accepted_of [] = []
accepted_of (p ∷ before) = cond (eqb (packet_number p) 0) (contents_in p ∷ accepted_of before) (accepted_of before)

unfoldable pub has_audio : Contents → Bool
has_audio c = ltb 0 c.count

-- "the previous accepted one with audio" is the first
unfoldable pub with_audio : List Contents → List Contents
with_audio [] = []
with_audio (c ∷ before) = cond (has_audio c) (c ∷ with_audio before) (with_audio before)

-- "a counter that is not the previous accepted one plus 1 modulo 256"
unfoldable pub counter_fault : List Contents → Contents → Bool
counter_fault [] c = false
counter_fault (previous ∷ before) c = not (eqb c.counter ((previous.counter + 1) % 256))

-- "a rate that differs from the previous accepted one"
unfoldable pub rate_fault : List Contents → Contents → Bool
rate_fault [] c = false
rate_fault (previous ∷ before) c = not (eqb c.rate previous.rate)

-- "or, in a packet with audio, a fingerprint count unlike the previous accepted one with audio"
unfoldable pub unlike : List Contents → Contents → Bool
unlike [] c = false
unlike (previous ∷ before) c = not (eqb c.count previous.count)

unfoldable pub count_fault : List Contents → Contents → Bool
count_fault before c = has_audio c && unlike (with_audio before) c

-- ---- "audio byte counts that fit no position of the cadence, taking the accepted packets with audio in order"

-- byte counts, the oldest first, from a starting position on
unfoldable pub fits_from : ℕ → ℕ → List ℕ → Bool
fits_from rate place [] = true
fits_from rate place (n ∷ ns) = eqb (get_or (cadence rate) place 0) n && fits_from rate (place_after rate place) ns

-- some starting position below p
unfoldable pub fits_below : ℕ → ℕ → List ℕ → Bool
fits_below rate zero ns = false
fits_below rate (suc p) ns = fits_from rate p ns || fits_below rate p ns

unfoldable pub fits_some : ℕ → List ℕ → Bool
fits_some rate ns = fits_below rate (length (cadence rate)) ns

-- the byte counts since the fitting last began, of those before c: "the fitting begins anew .. also with one whose rate differs"
unfoldable pub begun : List Contents → Contents → List ℕ → List ℕ
begun before c ns = cond (rate_fault before c) [] ns

-- and with c: "no starting position fits any longer; the fitting begins anew with that packet"
unfoldable pub taken_in : Contents → List ℕ → List ℕ
taken_in c ns = cond (has_audio c) (cond (fits_some c.rate (ns ++ carried c ∷ [])) (ns ++ carried c ∷ []) (carried c ∷ [])) ns

unfoldable pub fitted : List Contents → List ℕ
fitted [] = []
fitted (c ∷ before) = taken_in c (begun before c (fitted before))

unfoldable pub cadence_fault : List Contents → Contents → Bool
cadence_fault before c = has_audio c && not (fits_some c.rate (begun before c (fitted before) ++ carried c ∷ []))

-- ---- all faults

unfoldable pub faults_in : List Contents → Contents → Faults
faults_in before c =
    record {
      refused = 0;
      counter = counter_fault before c;
      rate = rate_fault before c;
      count = count_fault before c;
      cadence = cadence_fault before c;
    }

unfoldable pub faults_of : List (List ℕ) → List ℕ → Faults
faults_of before p = cond (eqb (packet_number p) 0) (faults_in (accepted_of before) (contents_in p)) (refused_with (packet_number p))

unfoldable pub is_faultless : Faults → Bool
is_faultless f = eqb f.refused 0 && not (f.counter || f.rate || f.count || f.cadence)

-- "It reports `clean` exactly when none of these holds."
unfoldable pub is_clean : List (List ℕ) → Bool
is_clean [] = true
is_clean (p ∷ before) = is_clean before && is_faultless (faults_of before p)

-- "reports faults by packet number from 1"
unfoldable pub lines : List (List ℕ) → List ℕ
lines [] = []
lines (p ∷ before) = lines before ++ faults_text (length before + 1) (faults_of before p)

unfoldable pub report_of : List (List ℕ) → List ℕ
report_of ps = cond (is_clean ps) clean (lines ps)
