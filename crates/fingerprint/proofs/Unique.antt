-- No second outcome meets the contract of a public function.
use mathlib.Core.Path.{ap}
use Rattle.laws.proofs.Once.{OneResult, OneLeft, OneOutcome, one_value}
use Rattle.laws.proofs.Refusals.{one_check}
use Rattle.fingerprint.specs.State.{Taken}
use Rattle.fingerprint.proofs.Fingerprint.fresh.Reads as fresh_reads
use Rattle.fingerprint.proofs.Fingerprint.restart.Reads as restart_reads
use Rattle.fingerprint.proofs.Fingerprint.mix_type.Reads as mix_type_reads
use Rattle.fingerprint.proofs.Fingerprint.step.Reads as step_reads
use Rattle.fingerprint.proofs.Fingerprint.hear.Reads as hear_reads
use Rattle.fingerprint.proofs.Fingerprint.check_sound.Reads as check_sound_reads
use Rattle.fingerprint.proofs.Fingerprint.check_instant.Reads as check_instant_reads
use Rattle.fingerprint.proofs.Fingerprint.hear_instant.Reads as hear_instant_reads
use Rattle.fingerprint.proofs.Fingerprint.holds.Reads as holds_reads
use Rattle.fingerprint.proofs.Fingerprint.take.Reads as take_reads

pub Fingerprint_fresh_unique : OneResult fresh_reads.Post
Fingerprint_fresh_unique κs a r r' s s' p q = one_value p q

pub Fingerprint_restart_unique : OneLeft restart_reads.Post (λ κs s. s.0.now)
Fingerprint_restart_unique κs a r r' s s' p q = one_value p q

pub Fingerprint_mix_type_unique : OneResult mix_type_reads.Post
Fingerprint_mix_type_unique κs a r r' s s' p q = one_value p q

pub Fingerprint_step_unique : OneLeft step_reads.Post (λ κs s. s.0.now)
Fingerprint_step_unique κs a r r' s s' p q = one_value p q

pub Fingerprint_hear_unique : OneLeft hear_reads.Post (λ κs s. s.0.now)
Fingerprint_hear_unique κs a r r' s s' p q = one_value p q

pub Fingerprint_check_sound_unique : OneResult check_sound_reads.Post
Fingerprint_check_sound_unique κs a r r' s s' p q = one_check p q

pub Fingerprint_check_instant_unique : OneResult check_instant_reads.Post
Fingerprint_check_instant_unique κs a r r' s s' p q = one_check p q

pub Fingerprint_hear_instant_unique : OneLeft hear_instant_reads.Post (λ κs s. s.0.now)
Fingerprint_hear_instant_unique κs a r r' s s' p q = one_value p q

pub Fingerprint_holds_unique : OneResult holds_reads.Post
Fingerprint_holds_unique κs a r r' s s' p q = one_value p q

pub Fingerprint_take_unique : OneOutcome take_reads.Post (λ κs s. s.0.now)
Fingerprint_take_unique κs a r r' s s' p q = let e = one_value p q in (ap (λ (t : Taken). t.bytes) e, ap (λ (t : Taken). t.fingerprint) e)
