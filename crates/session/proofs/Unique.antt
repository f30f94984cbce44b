-- No second outcome meets the contract of a public function.
use mathlib.Core.Path.{◌≡◌, ap, sym}
use Prim.Native.Nat.{ℕ}
use mathlib.Core.List.{List}
use Rattle.std.proofs.Common.{Result, Ok, Err}
use Rattle.laws.specs.declared.Refusal.{Refusal}
use Rattle.laws.specs.Refusals.{done_of}
use Rattle.laws.proofs.Once.{OneResult, OneLeft, OneOutcome, one_value, one_both}
use Rattle.laws.proofs.Refusals.{number_injective, number_positive, done_injective, checked_injective, same_told}
use Rattle.picture.specs.declared.Told.{Told}
use Rattle.session.specs.declared.Session.{Session}
use Rattle.session.specs.Session.{Begun, Lined, lined, Sounded}
use Rattle.session.specs.Packing.{Packed}
use Rattle.session.proofs.Session.empty.Reads as empty_reads
use Rattle.session.proofs.Session.setup.Reads as setup_reads
use Rattle.session.proofs.Session.line.Reads as line_reads_lem
use Rattle.session.proofs.Session.sound.Reads as sound_reads
use Rattle.session.proofs.Session.instant.Reads as instant_reads
use Rattle.session.proofs.Session.pack.Reads as pack_reads
use Rattle.session.proofs.Session.video_restart.Reads as video_restart_reads
use Rattle.session.proofs.Session.audio_restart.Reads as audio_restart_reads

one_line : (x y : Result Told Refusal) (s t : Session) → lined x s ≡ lined y t → (x ≡ y) × (s ≡ t)
one_line (Ok a) (Ok b) s t e = (ap (λ (l : Lined). Ok l.told) e, ap (λ (l : Lined). l.session) e)
one_line (Ok a) (Err why) s t e = absurd (number_positive why (sym (ap (λ (l : Lined). l.number) e)))
one_line (Err why) (Ok b) s t e = absurd (number_positive why (ap (λ (l : Lined). l.number) e))
one_line (Err why) (Err other) s t e = (ap Err (number_injective why other (ap (λ (l : Lined). l.number) e)), ap (λ (l : Lined). l.session) e)

pub Session_empty_unique : OneResult empty_reads.Post
Session_empty_unique κs a r r' s s' p q = one_value p q

pub Session_setup_unique : OneOutcome setup_reads.Post (λ κs s. s.0.now)
Session_setup_unique κs a r r' s s' p q =
    let e = one_value p q in
    (checked_injective r r' (ap (λ (b : Begun). b.number) e), ap (λ (b : Begun). b.session) e)

pub Session_line_unique : OneOutcome line_reads_lem.Post (λ κs s. s.0.now)
Session_line_unique κs a r r' s s' p q = one_line _ _ _ _ (one_value p.0 q.0)

pub Session_sound_unique : OneOutcome sound_reads.Post (λ κs s. s.0.now)
Session_sound_unique κs a r r' s s' p q =
    let e = one_value p q in
    (checked_injective r r' (ap (λ (h : Sounded). h.number) e), ap (λ (h : Sounded). h.session) e)

pub Session_instant_unique : OneOutcome instant_reads.Post (λ κs s. s.0.now)
Session_instant_unique κs a r r' s s' p q =
    let e = one_value p q in
    (checked_injective r r' (ap (λ (h : Sounded). h.number) e), ap (λ (h : Sounded). h.session) e)

pub Session_pack_unique : OneOutcome pack_reads.Post {X = Session × List ℕ} (λ κs s. (s.0.now, s.1.1.0.now))
Session_pack_unique κs a r r' s s' p q =
    let e = one_value p.0 q.0 in
    let d : done_of r ≡ done_of r' = same_told (ap (λ (k : Packed). k.number) e) (ap (λ (k : Packed). k.written) e) in
    (done_injective r r' d, one_both (ap (λ (k : Packed). k.session) e) (one_value p.1 q.1))

pub Session_video_restart_unique : OneLeft video_restart_reads.Post (λ κs s. s.0.now)
Session_video_restart_unique κs a r r' s s' p q = one_value p q

pub Session_audio_restart_unique : OneLeft audio_restart_reads.Post (λ κs s. s.0.now)
Session_audio_restart_unique κs a r r' s s' p q = one_value p q
