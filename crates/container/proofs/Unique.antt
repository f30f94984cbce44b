-- No second outcome meets the contract of a public function.
use Rattle.laws.proofs.Once.{OneResult, OneOutcome, one_value}
use Rattle.std.proofs.Common.{◌≡◌, Result, Ok, Err, ap, sym}
use Rattle.laws.specs.declared.Refusal.{Refusal}
use Rattle.laws.proofs.Refusals.{number_injective, number_positive, one_check, one_handed}
use Rattle.container.specs.declared.Contents.{Contents}
use Rattle.container.specs.Reading.{Reading, reading_of}
use Rattle.container.proofs.blank_print.Reads as blank_print_reads
use Rattle.container.proofs.empty_contents.Reads as empty_contents_reads
use Rattle.container.proofs.read_container.Reads as read_container_reads
use Rattle.container.proofs.contents_or_empty.Reads as contents_or_empty_reads
use Rattle.container.proofs.check_container.Reads as check_container_reads
use Rattle.container.proofs.write_container.Reads as write_container_reads

one_reading : (x y : Result Contents Refusal) → reading_of x ≡ reading_of y → x ≡ y
one_reading (Ok b) (Ok c) e = ap (λ (r : Reading). Ok r.contents) e
one_reading (Ok b) (Err why) e = absurd (number_positive why (sym (ap (λ (r : Reading). r.number) e)))
one_reading (Err why) (Ok c) e = absurd (number_positive why (ap (λ (r : Reading). r.number) e))
one_reading (Err why) (Err other) e = ap Err (number_injective why other (ap (λ (r : Reading). r.number) e))

pub blank_print_unique : OneResult blank_print_reads.Post
blank_print_unique κs a r r' s s' p q = one_value p q

pub empty_contents_unique : OneResult empty_contents_reads.Post
empty_contents_unique κs a r r' s s' p q = one_value p q

pub read_container_unique : OneResult read_container_reads.Post
read_container_unique κs a r r' s s' p q = one_reading _ _ (one_value p q)

pub contents_or_empty_unique : OneResult contents_or_empty_reads.Post
contents_or_empty_unique κs a r r' s s' p q = one_value p q

pub check_container_unique : OneResult check_container_reads.Post
check_container_unique κs a r r' s s' p q = one_check p q

pub write_container_unique : OneOutcome write_container_reads.Post (λ κs s. s.1.0.now)
write_container_unique κs a r r' s s' p q = one_handed p q
