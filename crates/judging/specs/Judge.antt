-- What a judge says of the next packet, and what it knows after it (02, A13).
use Rattle.std.specs.Prelude.{ℕ, ◌+◌, ◌%◌, List, Bool, true, false, cond, ◌&&◌, not, ltb, eqb}
use Rattle.container.specs.declared.Contents.{Contents}
use Rattle.judging.specs.declared.Faults.{Faults}
use Rattle.judging.specs.declared.Known.{Known}
use Rattle.judging.specs.declared.Judged.{Judged}
use Rattle.judging.specs.declared.Fit.{Fit}
use Rattle.judging.specs.Packets.{packet_number, contents_in, carried}
use Rattle.judging.specs.Places.{every_place, fit_in}

unfoldable pub nothing_known : Known
nothing_known = record { accepted = false; counter = 0; rate = 0; count = 0; places = every_place }

-- "a counter that is not the previous accepted one plus 1 modulo 256"
unfoldable pub counter_wrong : Known → ℕ → Bool
counter_wrong k counter = k.accepted && not (eqb counter ((k.counter + 1) % 256))

-- "a rate that differs from the previous accepted one"
unfoldable pub rate_wrong : Known → ℕ → Bool
rate_wrong k rate = k.accepted && not (eqb rate k.rate)

-- "in a packet with audio, a fingerprint count unlike the previous accepted one with audio"
unfoldable pub count_wrong : Known → ℕ → Bool
count_wrong k count = ltb 0 count && (ltb 0 k.count && not (eqb count k.count))

-- "the fitting begins anew .. also with one whose rate differs"
unfoldable pub places_before : Known → ℕ → List ℕ
places_before k rate = cond (rate_wrong k rate) every_place k.places

unfoldable pub fit_of : Known → Contents → Fit
fit_of k c =
    cond (ltb 0 c.count)
    (fit_in c.rate (carried c) (places_before k c.rate))
    (record { fault = false; places = places_before k c.rate })

-- the fingerprints of the last packet with audio, this one among them
unfoldable pub last_count : Known → ℕ → ℕ
last_count k count = cond (ltb 0 count) count k.count

-- an accepted packet
unfoldable pub faults_with : Known → Contents → Faults
faults_with k c =
    record {
      refused = 0;
      counter = counter_wrong k c.counter;
      rate = rate_wrong k c.rate;
      count = count_wrong k c.count;
      cadence = (fit_of k c).fault;
    }

unfoldable pub known_with : Known → Contents → Known
known_with k c =
    record {
      accepted = true;
      counter = c.counter;
      rate = c.rate;
      count = last_count k c.count;
      places = (fit_of k c).places;
    }

unfoldable pub judged_with : Known → Contents → Judged
judged_with k c = record { faults = faults_with k c; known = known_with k c }

-- a refused packet has no other fault
unfoldable pub refused_with : ℕ → Faults
refused_with number = record { refused = number; counter = false; rate = false; count = false; cadence = false }

unfoldable pub judged_of : Known → List ℕ → Judged
judged_of k p = cond (eqb (packet_number p) 0) (judged_with k (contents_in p)) (record { faults = refused_with (packet_number p); known = k })
