-- What a call answers and leaves, carried on: the laws that the calls share.
use Prim.Native.Nat.{ℕ}
use mathlib.Core.Path.{◌≡◌, ap, subst, ◌∙◌}
use mathlib.Core.List.{List, ◌++◌}
use lib.ListN.{length, drop}
use Rattle.std.specs.declared.result.Result.TheVariants.{Ok}
use Rattle.laws.specs.declared.Done.{Done}
use Rattle.laws.specs.Calls.{over}
use Rattle.records.specs.Records.{byte_at}
use Rattle.sampling.specs.Samples.{sample_done, sample_out}
use Rattle.session.specs.declared.Session.{Session}
use Rattle.session.specs.Packing.{Packed, pack_of, pack_out}
use Rattle.answers.specs.declared.Hand.TheVariants.{Sample}
use Rattle.answers.specs.declared.Answer.{Answer}
use Rattle.answers.specs.declared.Answer.TheVariants.{Handed}
use Rattle.answers.specs.Lines.{untouched, fresh}
use Rattle.answers.specs.Rooms.{room_at}
use Rattle.feed.specs.Alone.{Reply, in_work, sample_lent, sample_in, sample_fed, lent_fed, room_in, room_fed}
use Rattle.feed.specs.Calls.{Answered, Step, packed, pack_in, pack_fed}
use Rattle.answers.proofs.Watch.{untouched_size}
use Rattle.answers.proofs.Rooms.{work_after}
use Rattle.feed.proofs.Kept.{sample_kept, pack_kept, lent_in}

abbrev pub Gives : Reply → Answer → List ℕ → Type 0
Gives t a w = (a ≡ t.answer) × (w ≡ t.left)

abbrev pub Does : Step → Answered → List ℕ → Type 0
Does t a w = (a ≡ t.answered) × (w ≡ t.left)

pub gives_as : (t u : Reply) (a : Answer) (w : List ℕ) → t ≡ u → Gives t a w → Gives u a w
gives_as t u a w e p = subst (λ (x : Reply). Gives x a w) e p

-- ---- a record with a room, and the call that was lent it

module _ (p rest lent left work : List ℕ) (room : ℕ) (l : lent ≡ untouched room) (w : work ≡ fresh) where
  pub samples : (d : Done) → room_at p 1 ≡ Ok room → rest ≡ drop 3 p → d ≡ sample_done (byte_at p 0) rest lent → left ≡ sample_out (byte_at p 0) rest lent
      → Gives (sample_fed p) (Handed Sample d) (left ++ drop room work)
  unfolding sample_fed sample_in sample_lent in_work
  samples d e f g h =
      let k : left ≡ sample_out (byte_at p 0) (drop 3 p) (untouched room) = h ∙ ap (λ (x : List ℕ). sample_out (byte_at p 0) x lent) f ∙ ap (sample_out (byte_at p 0) (drop 3 p)) l in
      let n : length left ≡ room = ap length k ∙ (sample_kept (byte_at p 0) (drop 3 p) (untouched room)).same ∙ untouched_size room in
      rw e (
        ap (Handed Sample) (g ∙ ap (λ (x : List ℕ). sample_done (byte_at p 0) x lent) f ∙ ap (sample_done (byte_at p 0) (drop 3 p)) l),
        work_after left work room n w ∙ ap (λ (x : List ℕ). over x fresh) k,
      )

  pub lends : (tag : ℕ) (a : Answer) → room_at p 0 ≡ Ok room → rest ≡ drop 2 p → Gives (lent_fed tag rest lent) a left → Gives (room_fed tag p) a (left ++ drop room work)
  unfolding room_fed room_in in_work
  lends tag a e f g =
      let t : lent_fed tag rest lent ≡ lent_fed tag (drop 2 p) (untouched room) = ap (λ (x : List ℕ). lent_fed tag x lent) f ∙ ap (lent_fed tag (drop 2 p)) l in
      let h = gives_as _ _ a left t g in
      let n : length left ≡ room = ap length h.1 ∙ (lent_in tag (drop 2 p) room).0 in
      rw e (h.0, work_after left work room n w ∙ ap (λ (x : List ℕ). over x fresh) h.1)

  pub packs : (s : Session) (r : Packed) → room_at p 0 ≡ Ok room → rest ≡ drop 2 p → r ≡ pack_of s rest (length lent) → left ≡ pack_out s rest lent
      → Does (pack_fed s p) (packed r) (left ++ drop room work)
  unfolding pack_fed pack_in
  packs s r e f g h =
      let k : left ≡ pack_out s (drop 2 p) (untouched room) = h ∙ ap (λ (x : List ℕ). pack_out s x lent) f ∙ ap (pack_out s (drop 2 p)) l in
      let n : length left ≡ room = ap length k ∙ (pack_kept s (drop 2 p) (untouched room)).same ∙ untouched_size room in
      let z : length lent ≡ room = ap length l ∙ untouched_size room in
      rw e (
        ap packed (g ∙ ap (λ (x : List ℕ). pack_of s x (length lent)) f ∙ ap (pack_of s (drop 2 p)) z),
        work_after left work room n w ∙ ap (λ (x : List ℕ). over x fresh) k,
      )
