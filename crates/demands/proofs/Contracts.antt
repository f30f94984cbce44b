-- A run is made of what the functions of `session` promise: each function's own contract (`Post`, what its `ensures` claims) says that it answers `answer_of`
-- and hands back `after_call`, over the values that it was given (a: the arguments; s: what was lent, at exit).
use mathlib.Core.Path.{◌≡◌, refl, ap, ap₂, ◌∙◌}
use mathlib.Core.List.{List, []}
use Prim.Native.Nat.{ℕ}
use Rattle.std.proofs.Common.{Result, Ok, Err}
use contract.Lifetimes.{Lfts}
use borrow.Fn.World.{ArgsD, ResD}
use borrow.Fn.Kinds.{ended_of}
use denote.Triple.Clauses.{AtExit}
use Rattle.laws.specs.declared.Refusal.{Refusal}
use Rattle.laws.specs.Refusals.{number_in, done_of}
use Rattle.picture.specs.declared.Told.{Told}
use Rattle.picture.specs.declared.Told.TheVariants.{Open}
use Rattle.picture.specs.Pictures.{told_in}
use Rattle.session.specs.contracts.Session.setup
use Rattle.session.proofs.Session.setup.Kinds as setup_kinds
use Rattle.session.proofs.Session.setup.Reads as setup_reads
use Rattle.session.specs.contracts.Session.line
use Rattle.session.proofs.Session.line.Kinds as line_kinds
use Rattle.session.proofs.Session.line.Reads as line_reads
use Rattle.session.specs.contracts.Session.sound
use Rattle.session.proofs.Session.sound.Kinds as sound_kinds
use Rattle.session.proofs.Session.sound.Reads as sound_reads
use Rattle.session.specs.contracts.Session.instant
use Rattle.session.proofs.Session.instant.Kinds as instant_kinds
use Rattle.session.proofs.Session.instant.Reads as instant_reads
use Rattle.session.specs.contracts.Session.pack
use Rattle.session.proofs.Session.pack.Kinds as pack_kinds
use Rattle.session.proofs.Session.pack.Reads as pack_reads
use Rattle.session.specs.contracts.Session.video_restart
use Rattle.session.proofs.Session.video_restart.Kinds as video_restart_kinds
use Rattle.session.proofs.Session.video_restart.Reads as video_restart_reads
use Rattle.session.specs.contracts.Session.audio_restart
use Rattle.session.proofs.Session.audio_restart.Kinds as audio_restart_kinds
use Rattle.session.proofs.Session.audio_restart.Reads as audio_restart_reads
use Rattle.session.specs.declared.Session.{Session}
use Rattle.session.specs.Session.{Begun, Lined, lined, Sounded, setup_of}
use Rattle.session.specs.Packing.{Packed}
use Rattle.demands.specs.Calls.{Setup, Call, Answer, saying, begun, answer_of, after_call}
use Rattle.demands.specs.Calls as calls

-- an answer of Line tells what its record tells, and the session that it leaves is its record's
tells : (x : Result Told Refusal) (s : Session)
    → ◌≡◌ {A = Answer} (record { number = number_in x; told = told_in x; written = 0; out = [] }) (record { number = (lined x s).number; told = (lined x s).told; written = 0; out = [] })
tells (Ok told) s = refl
tells (Err why) s = refl

leaves : (x : Result Told Refusal) (s : Session) → s ≡ (lined x s).session
leaves (Ok told) s = refl
leaves (Err why) s = refl

pub setup_contract : (κs : Lfts 2) (a : ArgsD setup.signature κs) (r : ResD setup.signature κs) (s : AtExit (ended_of 2 setup_kinds.ps setup_kinds.r) κs)
    → setup_reads.Post κs a r s
    → let u : Setup = record { format = a.1.0; rate = a.1.1.0; rule = a.1.1.1.0; mixes = a.1.1.1.1.0.now } in
    (number_in r ≡ (setup_of u.format u.rate u.rule u.mixes).number) × (s.0.now ≡ begun u)
unfolding begun
setup_contract κs a r s p = (ap (λ (x : Begun). x.number) p, ap (λ (x : Begun). x.session) p)

pub line_contract : (κs : Lfts 2) (a : ArgsD line.signature κs) (r : ResD line.signature κs) (s : AtExit (ended_of 2 line_kinds.ps line_kinds.r) κs)
    → line_reads.Post κs a r s
    → let c : Call = calls.line a.1.0 a.1.1.0.now in
    (record { number = number_in r; told = told_in r; written = 0; out = [] } ≡ answer_of a.0.now c) × (s.0.now ≡ after_call a.0.now c)
unfolding answer_of after_call
line_contract κs a r s p =
    (tells r s.0.now ∙ ap (λ (x : Lined). record { number = x.number; told = x.told; written = 0; out = [] }) p.0, leaves r s.0.now ∙ ap (λ (x : Lined). x.session) p.0)

pub sound_contract : (κs : Lfts 2) (a : ArgsD sound.signature κs) (r : ResD sound.signature κs) (s : AtExit (ended_of 2 sound_kinds.ps sound_kinds.r) κs)
    → sound_reads.Post κs a r s
    → let c : Call = calls.sound a.1.0 a.1.1.0.now in
    (saying (number_in r) ≡ answer_of a.0.now c) × (s.0.now ≡ after_call a.0.now c)
unfolding answer_of after_call
sound_contract κs a r s p = (ap (λ (x : Sounded). saying x.number) p, ap (λ (x : Sounded). x.session) p)

pub instant_contract : (κs : Lfts 1) (a : ArgsD instant.signature κs) (r : ResD instant.signature κs) (s : AtExit (ended_of 1 instant_kinds.ps instant_kinds.r) κs)
    → instant_reads.Post κs a r s
    → let c : Call = calls.instant a.1.0 a.1.1.0 in
    (saying (number_in r) ≡ answer_of a.0.now c) × (s.0.now ≡ after_call a.0.now c)
unfolding answer_of after_call
instant_contract κs a r s p = (ap (λ (x : Sounded). saying x.number) p, ap (λ (x : Sounded). x.session) p)

pub pack_contract : (κs : Lfts 3) (a : ArgsD pack.signature κs) (r : ResD pack.signature κs) (s : AtExit (ended_of 3 pack_kinds.ps pack_kinds.r) κs)
    → pack_reads.Post κs a r s
    → let c : Call = calls.pack a.1.0.now a.1.1.0.now in
    (record { number = (done_of r).number; told = Open; written = (done_of r).written; out = s.1.1.0.now } ≡ answer_of a.0.now c) × (s.0.now ≡ after_call a.0.now c)
unfolding answer_of after_call
pack_contract κs a r s p =
    (ap₂ (λ (x : Packed) (out : List ℕ). record { number = x.number; told = Open; written = x.written; out = out }) p.0 p.1, ap (λ (x : Packed). x.session) p.0)

pub video_restart_contract : (κs : Lfts 1) (a : ArgsD video_restart.signature κs) (r : ResD video_restart.signature κs) (s : AtExit (ended_of 1 video_restart_kinds.ps video_restart_kinds.r) κs)
    → video_restart_reads.Post κs a r s → s.0.now ≡ after_call a.0.now calls.video_restart
unfolding after_call
video_restart_contract κs a r s p = p

pub audio_restart_contract : (κs : Lfts 1) (a : ArgsD audio_restart.signature κs) (r : ResD audio_restart.signature κs) (s : AtExit (ended_of 1 audio_restart_kinds.ps audio_restart_kinds.r) κs)
    → audio_restart_reads.Post κs a r s → s.0.now ≡ after_call a.0.now calls.audio_restart
unfolding after_call
audio_restart_contract κs a r s p = p
