-- What a call with a room does with the buffer lent: it counts no more than the room, and keeps the bytes beyond those counted. So ` spilled` never comes.
use Prim.Native.Nat.{ℕ, ◌≤◌}
use mathlib.Core.Path.{◌≡◌, refl, ap, ◌∙◌}
use mathlib.Core.List.{List, ◌++◌}
use mathlib.Core.Bool.{Bool, true, false, cond}
use native.Mathlib.Omega.{arith}
use lib.ListN.{length, drop, length-append, length-drop}
use lib.Seq.{drop-append_seam}
use lib.Dec.{eqb}
use borrow.Author.Tests.{eqb-true}
use Rattle.laws.specs.declared.Done.{Done}
use Rattle.laws.specs.Calls.{over, room_number, done_with, out_with}
use Rattle.laws.proofs.Calls.{told_zero}
use Rattle.answers.specs.declared.Cause.{Cause}
use Rattle.answers.specs.declared.Hand.{Hand}
use Rattle.answers.specs.declared.Answer.{Answer}
use Rattle.answers.specs.declared.Answer.TheVariants.{Setup, Line, Sound, Instant, VideoRestart, AudioRestart, Receiver, Arrive, GiveUp, Handed, Reported, Bad, Finished}
use Rattle.answers.specs.Lines.{untouched, fresh, is_untouched, Quiet}
use Rattle.answers.proofs.Watch.{untouched_is, untouched_size, untouched_drop, work_size, work_untouched}

pub record Kept (lent : List ℕ) (written : ℕ) (left : List ℕ) : Type 0 where
  pub within : written ≤ length lent
  pub same : length left ≡ length lent
  pub beyond : drop written left ≡ drop written lent

-- a refusal, and a call that writes what it has room for
pub none_kept : (lent : List ℕ) → Kept lent 0 lent
none_kept lent = record { within = omega arith; same = refl; beyond = refl }

pub call_kept : (number : ℕ) (bytes lent : List ℕ) → Kept lent (done_with (room_number number bytes (length lent)) bytes).written (out_with (room_number number bytes (length lent)) bytes lent)
unfolding done_with out_with over
call_kept number bytes lent = go (eqb n 0) refl
  where
    n : ℕ
    n = room_number number bytes (length lent)

    go : (t : Bool) → eqb n 0 ≡ t → Kept lent (cond t (length bytes) 0) (cond t (bytes ++ drop (length bytes) lent) lent)
    go false e = none_kept lent
    go true e =
        let h : length bytes ≤ length lent = (told_zero number bytes (length lent) (eqb-true n 0 e)).1 in
        record {
          within = h;
          same = omega (arith, length-append bytes (drop (length bytes) lent), length-drop (length bytes) lent);
          beyond = drop-append_seam bytes (drop (length bytes) lent);
        }

-- ---- a call in its room, and the work buffer of which the room is the front

-- the buffer's size stays, and the answer is quiet there
abbrev pub InRoom : ℕ → Answer → List ℕ → Type 0
InRoom room a left = (length left ≡ room) × Quiet a left

-- what a record gives in the work buffer
abbrev pub Held : Answer → List ℕ → Type 0
Held a left = InRoom 4096 a left

quiet_work : (a : Answer) (left : List ℕ) → length left ≤ 4096 → Quiet a left → Quiet a (over left fresh)
unfolding Quiet
quiet_work (Handed hand d) left h q = (omega (arith, work_size left h), work_untouched d.written left q.0 q.1)
quiet_work (Reported size) left h q = omega (arith, work_size left h)
quiet_work (Setup n) left h q = q
quiet_work (Line n told) left h q = q
quiet_work (Sound n) left h q = q
quiet_work (Instant n) left h q = q
quiet_work VideoRestart left h q = q
quiet_work AudioRestart left h q = q
quiet_work Receiver left h q = q
quiet_work (Arrive n) left h q = q
quiet_work GiveUp left h q = q
quiet_work (Bad cause) left h q = q
quiet_work Finished left h q = q

pub held_work : (a : Answer) (left : List ℕ) → length left ≤ 4096 → Quiet a left → Held a (over left fresh)
held_work a left h q = (work_size left h, quiet_work a left h q)

-- a call that keeps the bytes beyond those counted
pub handed_in : (hand : Hand) (d : Done) (room : ℕ) (left : List ℕ) → Kept (untouched room) d.written left → InRoom room (Handed hand d) left
unfolding Quiet
handed_in hand d room left k = (
  k.same ∙ untouched_size room,
  (omega (arith, k.within, k.same), ap is_untouched k.beyond ∙ untouched_drop d.written (untouched room) (untouched_is room)),
)

-- the buffer is given back as it was lent
pub none_held : (a : Answer) → Quiet a fresh → Held a fresh
none_held a q = (untouched_size 4096, q)

pub bad_in : (cause : Cause) (room : ℕ) → InRoom room (Bad cause) (untouched room)
unfolding Quiet
bad_in cause room = (untouched_size room, omega arith)

pub bad_held : (cause : Cause) → Held (Bad cause) fresh
bad_held cause = bad_in cause 4096
