-- The theorems of 02's A12, over any calls after a fresh receiver that expects e.
use Prim.Native.Nat.{ℕ, ◌+◌, ◌≤◌, ◌<◌}
use mathlib.Core.Path.{◌≡◌, refl, ap, ◌∙◌}
use mathlib.Core.Bool.{cond}
use mathlib.Core.List.{List, [], ◌∷◌, ◌++◌}
use borrow.Author.Tests.{ne_eqb}
use lib.ListN.{length}
use Rattle.laws.specs.Bytes.{Bytes}
use Rattle.laws.specs.Calls.{done_with, out_with}
use Rattle.container.specs.Reading.{reading}
use Rattle.receiving.specs.declared.Receiver.{Receiver}
use Rattle.receiving.specs.Receiver.{fresh_of, arriving, arrive_of, next_done, asked_with, next_of, next_out}
use Rattle.receiving_laws.specs.Calls.{Call, arrive, next, give_up, Answer, Event, event, calls, answer_of, after_call, Lent, Run}
use Rattle.receiving_laws.specs.History.{counter_of, distance, taken, paper, transcript}
use Rattle.receiving_laws.specs.Fates.{handed, held, given_up, all_held, any_with, HandsOut, Every, lent, Untouched}
use Rattle.receiving_laws.proofs.Told.{Told, none, more, once}
use Rattle.receiving_laws.proofs.Runs as runs
use Rattle.receiving_laws.proofs.Fates as fates
use Rattle.receiving_laws.proofs.Held as all

-- ---- The answers

transcribed : {e : ℕ} {es : List Event} → Told e es → es ≡ transcript e (calls es)
unfolding transcript calls
transcribed none = refl
transcribed {e} (more c l t) = ap (λ (xs : List Event). event c (paper e xs c) ∷ xs) (transcribed t)

-- After any calls all that the callers were told is A12's transcript of the calls, which has no slot in it: every number, every written length and every byte
-- of every buffer.
pub as_paper : (e : ℕ) {es : List Event} {r : Receiver} → Run (fresh_of e) es r → es ≡ transcript e (calls es)
as_paper e run = transcribed (runs.always e run).told

-- and so is what the next call is told
pub next_answer : (e : ℕ) {es : List Event} {r : Receiver} → Run (fresh_of e) es r → (c : Call) → Lent c → answer_of r c ≡ paper e es c
next_answer e run c l = runs.next_answer e run c l

-- ---- The containers

each_hands_out : {e : ℕ} {es : List Event} → Told e es → Every (HandsOut e) es
unfolding Every
each_hands_out none = tt
each_hands_out (more c l t) = (fates.hands_out t c, each_hands_out t)

-- "Every container handed out was accepted": it is byte for byte one that arrived with number 0, and its counter is e plus the number handed out and given up
-- before it, modulo 256
pub hands_out : (e : ℕ) {es : List Event} {r : Receiver} → Run (fresh_of e) es r → Every (HandsOut e) es
hands_out e run = each_hands_out (runs.always e run).told

-- "each that was taken in is handed out, given up or still held": under each counter at most one was taken in, and it is just one of the three
pub taken_once : (e : ℕ) {es : List Event} {r : Receiver} → Run (fresh_of e) es r → (x : ℕ) → length (taken e es x) ≤ 1
taken_once e run x = fates.at_most_one (once (runs.always e run).told x)

pub each_fate : (e : ℕ) {es : List Event} {r : Receiver} → Run (fresh_of e) es r → (x : ℕ) → taken e es x ≡ handed e es x ++ (given_up e es x ++ held e es x)
each_fate e run x = fates.each_fate (runs.always e run).told x

-- "A receiver holds up to eight"
pub at_most_eight : (e : ℕ) {es : List Event} {r : Receiver} → Run (fresh_of e) es r → length (all_held e es) ≤ 8
at_most_eight e run = all.at_most_eight (runs.always e run).told

-- ---- "A counter that has come round again is a new container."

-- a container that is accepted and near enough is refused, with 72, exactly where one with its counter is still held: one that was handed out or given up is
-- no hindrance
pub already_held : (e : ℕ) {es : List Event} {r : Receiver} → Run (fresh_of e) es r → (b : List ℕ) → Bytes b → (reading b).number ≡ 0 → distance e es b < 8
    → (answer_of r (arrive b)).number ≡ cond (any_with (counter_of b) (all_held e es)) 72 0
unfolding Lent
already_held e run b small a h = ap (λ (x : Answer). x.number) (runs.next_answer e run (arrive b) small) ∙ all.already_held (runs.always e run).told b small a h

-- and of two that were taken in with one counter there are 255 turns or more between their turns
pub come_round : (e : ℕ) {es : List Event} {r : Receiver} → Run (fresh_of e) es r → (x y : ℕ) (b c : List ℕ) → taken e es x ≡ b ∷ [] → taken e es y ≡ c ∷ []
    → counter_of b ≡ counter_of c → x < y → x + 256 ≤ y
come_round e run x y b c p q same h = all.come_round (runs.always e run).told x y b c p q same h

-- ---- Refusals

pub untouched : (r : Receiver) (c : Call) → ((answer_of r c).number ≡ 0 → ⊥) → Untouched r c
unfolding answer_of after_call arrive_of next_of next_out asked_with next_done done_with out_with lent
untouched r (arrive b) f = record { receiver = rw (ne_eqb (arriving r b) 0 f); written = refl; out = refl }
untouched r (next out) f = record { receiver = rw (ne_eqb _ 0 f); written = rw (ne_eqb _ 0 f); out = rw (ne_eqb _ 0 f) }
untouched r give_up f = absurd (f refl)

-- "Giving up is never refused."
pub never_refused : (r : Receiver) → (answer_of r give_up).number ≡ 0
unfolding answer_of
never_refused r = refl
