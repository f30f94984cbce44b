-- No second outcome meets the contract of a public function.
use mathlib.Core.Path.{◌≡◌, ap, sym}
use Rattle.std.proofs.Common.{Result, Ok, Err}
use Rattle.laws.specs.declared.Refusal.{Refusal}
use Rattle.laws.proofs.Once.{OneResult, OneLeft, OneOutcome, one_value}
use Rattle.laws.proofs.Refusals.{number_injective, number_positive}
use Rattle.picture.specs.declared.Picture.{Picture}
use Rattle.picture.specs.declared.Told.{Told}
use Rattle.picture.specs.Pictures.{Scanned, Handed, scanned}
use Rattle.picture.proofs.Picture.fresh.Reads as fresh_reads
use Rattle.picture.proofs.Picture.is_ready.Reads as is_ready_reads
use Rattle.picture.proofs.Picture.restart.Reads as restart_reads
use Rattle.picture.proofs.Picture.hand_out.Reads as hand_out_reads
use Rattle.picture.proofs.Picture.line.Reads as line_reads_lem
use Rattle.picture.proofs.is_monitored.Reads as is_monitored_reads

one_scan : (x y : Result Told Refusal) (p q : Picture) → scanned x p ≡ scanned y q → (x ≡ y) × (p ≡ q)
one_scan (Ok a) (Ok b) p q e = (ap (λ (s : Scanned). Ok s.told) e, ap (λ (s : Scanned). s.picture) e)
one_scan (Ok a) (Err why) p q e = absurd (number_positive why (sym (ap (λ (s : Scanned). s.number) e)))
one_scan (Err why) (Ok b) p q e = absurd (number_positive why (ap (λ (s : Scanned). s.number) e))
one_scan (Err why) (Err other) p q e = (ap Err (number_injective why other (ap (λ (s : Scanned). s.number) e)), ap (λ (s : Scanned). s.picture) e)

pub Picture_fresh_unique : OneResult fresh_reads.Post
Picture_fresh_unique κs a r r' s s' p q = one_value p q

pub Picture_is_ready_unique : OneResult is_ready_reads.Post
Picture_is_ready_unique κs a r r' s s' p q = one_value p q

pub Picture_restart_unique : OneLeft restart_reads.Post (λ κs s. s.0.now)
Picture_restart_unique κs a r r' s s' p q = one_value p q

pub Picture_hand_out_unique : OneOutcome hand_out_reads.Post (λ κs s. s.0.now)
Picture_hand_out_unique κs a r r' s s' p q = let e = one_value p.0 q.0 in (ap (λ (h : Handed). h.shown) e, ap (λ (h : Handed). h.picture) e)

pub Picture_line_unique : OneOutcome line_reads_lem.Post (λ κs s. s.0.now)
Picture_line_unique κs a r r' s s' p q = one_scan _ _ _ _ (one_value p.0 q.0)

pub is_monitored_unique : OneResult is_monitored_reads.Post
is_monitored_unique κs a r r' s s' p q = one_value p q
