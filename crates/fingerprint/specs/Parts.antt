-- What the code keeps apart while it works: the filters, and the rest of a fingerprint.
use Rattle.std.specs.Prelude.{ℕ, List, [], ◌∷◌, true, cond}
use Rattle.sound.specs.Filter.{envelope_next, mean_next}
use Rattle.fingerprint.specs.declared.Fingerprint.{Fingerprint}
use Rattle.fingerprint.specs.declared.Filters.{Filters}

unfoldable pub filters_of : Fingerprint → Filters
filters_of f = record { envelope = f.envelope; mean = f.mean; started = f.started }

unfoldable pub next_filters : Filters → ℕ → Filters
next_filters v a = record {
  envelope = cond v.started (envelope_next v.envelope a) v.envelope;
  mean = cond v.started (mean_next v.mean a) v.mean;
  started = true;
}

-- samples, the newest first
unfoldable pub through_of : Filters → List ℕ → Filters
through_of v [] = v
through_of v (a ∷ h) = next_filters (through_of v h) a

unfoldable pub with_filters_of : Fingerprint → Filters → ℕ → Fingerprint
with_filters_of f v wait = record {
  mix = f.mix;
  envelope = v.envelope;
  mean = v.mean;
  wait = wait;
  started = v.started;
  held = f.held;
  bytes = f.bytes;
}
