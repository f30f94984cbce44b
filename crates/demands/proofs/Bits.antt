-- Each container of any run reads back, and each of its audio bits is right.
use Prim.Native.Nat.{ℕ, ◌<◌}
use mathlib.Core.Path.{◌≡◌, refl, sym, ap, subst, ◌∙◌}
use mathlib.Core.Bool.{Bool, true, false, cond}
use mathlib.Core.List.{List, []}
use native.Mathlib.Nat.{zero-add, not-suc-le-zero}
use lib.Dec.{eqb}
use lib.ListN.{length, get_or}
use borrow.Author.Tests.{eqb-false}
use Rattle.laws.specs.Bytes.{Bytes}
use Rattle.laws.proofs.Tests.{chosen}
use Rattle.rates.specs.Rates.{interval_of}
use Rattle.sound.specs.Exact.{exact_envelope, exact_mean, Near}
use Rattle.fingerprint.proofs.Answers as answers
use Rattle.container.specs.declared.Contents.{Contents}
use Rattle.container.specs.Reading.{Reading}
use Rattle.container.specs.Contents.{blank_print}
use Rattle.container_laws.specs.Typed.{Typed}
use Rattle.container_laws.proofs.Container.{says, read_back}
use Rattle.session.specs.declared.Session.{Session}
use Rattle.session.specs.Fingerprints.{with_blanks}
use Rattle.session.specs.Session.{no_fingerprint}
use Rattle.demands.specs.Calls.{Setup, Call, line, sound, instant, pack, video_restart, audio_restart, Answer, Event, answer_of}
use Rattle.demands.specs.Paper.{samples, bytes_due, bits_packed, audio_after, sounded, audio_said, contents_said, packed_said, said, accepted}
use Rattle.demands.specs.Demands.{read_again, ReadsBack, PrintRight, ContainerRight, BitsRight}
use Rattle.demands.proofs.Listed.{Listed, listed}
use Rattle.demands.proofs.Voices.{voice_at, voice_right, said_at}
use Rattle.demands.proofs.Invariant.{Holds, right}
use Rattle.demands.proofs.Packable.{due_fits, said_typed_as}

-- ---- what is packed reads back

reads_back : (number : ℕ) (c : Contents) (out : List ℕ) → Typed c → (packed_said number c out).number ≡ 0 → read_again (packed_said number c out) ≡ says c
unfolding packed_said read_again
reads_back number c out t =
    chosen (λ (a : Answer). a.number ≡ 0 → read_again a ≡ says c) (eqb number 0) _ _ (λ _. read_back c out t) (λ e z. absurd (eqb-false number 0 e z))

pub said_back : (u : Setup) → Listed u → (es : List Event) (id out : List ℕ) → Bytes id → (said u es (pack id out)).number ≡ 0
    → read_again (said u es (pack id out)) ≡ says (contents_said u es id)
unfolding said
said_back u l es id out b = reads_back _ (contents_said u es id) out (said_typed_as u l es id b)

module _ (u : Setup) (a : accepted u ≡ true) {es : List Event} {t : Session} (o : Holds u es t) where
  abbrev l : Listed u
  l = listed u a

  back : (id out : List ℕ) → Bytes id → (answer_of t (pack id out)).number ≡ 0 → read_again (answer_of t (pack id out)) ≡ says (contents_said u es id)
  back id out b z =
      let e = (right u l es t o (pack id out)).answer in
      ap read_again e ∙ said_back u l es id out b (sym (ap (λ (x : Answer). x.number) e) ∙ z)

  pub reads_back_right : (c : Call) → ReadsBack u es c (answer_of t c)
  unfolding ReadsBack
  reads_back_right (line n b) = tt
  reads_back_right (sound k b) = tt
  reads_back_right (instant k i) = tt
  reads_back_right (pack id out) = back id out
  reads_back_right video_restart = tt
  reads_back_right audio_restart = tt

  -- ---- the bits of what is packed

  said_right : (t : Bool) → audio_after u (sounded u es) es ≡ t → (k : ℕ) → k < cond t (length u.mixes) 0
      → PrintRight u es (get_or (with_blanks (cond t (audio_said u (sounded u es) es) [])) k blank_print)
  unfolding with_blanks audio_said audio_after
  said_right true e k i =
      let q = voice_right (bytes_due u.rate (sounded u es)) (due_fits u l es).1 o.voices e k i in
      rw (said_at (interval_of u.rate) (bits_packed u.rate (sounded u es)) (bytes_due u.rate (sounded u es)) (samples u.rule es) 0 u.mixes _ blank_print k i, zero-add k)
      (rw (zero-add k) at q)
  said_right false e k i = absurd (not-suc-le-zero i)

  contents_right : (id : List ℕ) → ContainerRight u es (contents_said u es id)
  unfolding contents_said
  contents_right id = said_right (audio_after u (sounded u es) es) refl

  pub bits_right : (c : Call) → BitsRight u es c (answer_of t c)
  unfolding BitsRight
  bits_right (line n b) = tt
  bits_right (sound k b) = tt
  bits_right (instant k i) = tt
  bits_right (pack id out) = λ b z. subst (λ (x : Reading). ContainerRight u es x.contents) (sym (back id out b z)) (contents_right id)
  bits_right video_restart = tt
  bits_right audio_restart = tt

  pub stored_near : (k : ℕ) → k < length u.mixes
      → Near 1023 (get_or t.fingerprints k no_fingerprint).envelope (exact_envelope (samples u.rule es (get_or u.mixes k 0) k))
      × Near 8191 (get_or t.fingerprints k no_fingerprint).mean (exact_mean (samples u.rule es (get_or u.mixes k 0) k))
  stored_near k i =
      let v = rw (zero-add k) at (voice_at o.voices k i) in
      answers.stored_near (get_or u.mixes k 0) (interval_of u.rate) (samples u.rule es (get_or u.mixes k 0) k) (bits_packed u.rate (sounded u es)) (get_or t.fingerprints k no_fingerprint) v
