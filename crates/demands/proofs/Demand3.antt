-- Demand 3: "audio bits are right wherever the exact envelope and mean are far enough apart".
use Prim.Native.Nat.{ℕ, ◌<◌}
use mathlib.Core.Path.{◌≡◌}
use mathlib.Core.Bool.{true}
use mathlib.Core.List.{List}
use lib.ListN.{length, get_or}
use Rattle.sound.specs.Exact.{exact_envelope, exact_mean, Near}
use Rattle.session.specs.declared.Session.{Session}
use Rattle.session.specs.Session.{no_fingerprint}
use Rattle.demands.specs.Calls.{Setup, Event, begun, Run}
use Rattle.demands.specs.Paper.{samples, accepted}
use Rattle.demands.specs.Demands.{card, Every, BitsRight, Demand3}
use Rattle.demands.proofs.Runs.{always, every, card_runs}
use Rattle.demands.proofs.Bits.{bits_right, stored_near}

-- Each audio bit of each container packed in any run, as the container is read: it is the bit of its own sample, number D times its index since setup or the
-- last audio restart, which has been accepted; 1 where the exact envelope is more than 8,191 above the exact mean, 0 where the exact mean is 1,023 or more
-- above the exact envelope, both over that fingerprint's accepted samples up to the bit's own.
pub every_bit : (u : Setup) → accepted u ≡ true → {es : List Event} {t : Session} → Run (begun u) es t → Every (BitsRight u) es
every_bit u a r = every u a (BitsRight u) (λ es t o. bits_right u a o) r

-- After any run, what each fingerprint stores is never below the exact value over its accepted samples, nor more than 1,023 (envelope) or 8,191 (mean) above it.
pub stored : (u : Setup) → accepted u ≡ true → {es : List Event} {t : Session} → Run (begun u) es t → (k : ℕ) → k < length u.mixes
    → Near 1023 (get_or t.fingerprints k no_fingerprint).envelope (exact_envelope (samples u.rule es (get_or u.mixes k 0) k))
    × Near 8191 (get_or t.fingerprints k no_fingerprint).mean (exact_mean (samples u.rule es (get_or u.mixes k 0) k))
stored u a r k l = stored_near u a (always u a r) k l

-- the same of the card as a program, to hold it against the wrong ones
pub demand_3 : Demand3 card
demand_3 u a cs = every_bit u a (card_runs u cs)
