-- The outcome of each call, case by case.
use Prim.Native.Nat.{ℕ, ◌≤◌, ◌<◌}
use mathlib.Core.List.{List}
use mathlib.Core.Path.{◌≡◌, refl, sym, ◌∙◌}
use mathlib.Core.Bool.{Bool, true, false, cond, ◌||◌}
use native.Mathlib.Omega.{arith}
use borrow.Author.Tests.{leb-true, leb-false, lt-leb, eq-eqb, ne_eqb}
use lib.Dec.{leb, eqb}
use lib.ListN.{length}
use Rattle.laws.proofs.Tests.{both, past}
use Rattle.std.proofs.Common.{Result, Ok, Err}
use Rattle.laws.specs.declared.Done.{Done}
use Rattle.laws.specs.declared.Refusal.{Refusal}
use Rattle.laws.specs.Refusals.{number_in}
use Rattle.rates.specs.Rates.{pairs_with}
use Rattle.picture.specs.declared.Told.{Told}
use Rattle.picture.specs.declared.Told.TheVariants.{Open}
use Rattle.picture.proofs.Says.{answer_said}
use Rattle.picture.specs.declared.Picture.{Picture}
use Rattle.picture.specs.Pictures.{restarted, is_ready}
use Rattle.picture.specs.Pictures as picture
use Rattle.picture.specs.Fields.{told_values, told_ended, says_of}
use Rattle.fingerprint.specs.declared.Fingerprint.{Fingerprint}
use Rattle.container.specs.Writing.{write_done, write_out}
use Rattle.session.specs.declared.Settings.{Settings}
use Rattle.session.specs.declared.Session.{Session}
use Rattle.session.specs.Session.{is_set, rule_listed, setup_number, set_up_with, empty_session, setup_of, with_picture, lined, line_of, line_says, with_fingerprint, reached, heard_with, video_restarted, audio_anew, audio_restarted}
use Rattle.session.specs.Packing.{contents_of, session_after, ready_number, pack_number, refused_with, pack_of, pack_out}

-- settings of an accepted setup have at most 32 fingerprints
pub set_count : (s : Settings) → is_set s ≡ true → s.count ≤ 32
unfolding is_set
set_count s e =
    let p = both (pairs_with s.format s.rate) _ e in
    leb-true s.count 32 (both (leb 1 s.count) (leb s.count 32) p.1).1

-- ---- Setup

module _ (format rate rule : ℕ) (mixes : List ℕ) where
  pub setup_0 : setup_number format rate rule mixes ≡ 0 → record { number = 0; session = set_up_with format rate rule (length mixes) mixes } ≡ setup_of format rate rule mixes
  unfolding setup_of
  setup_0 e = rw (eq-eqb (setup_number format rate rule mixes) 0 e)

  pub setup_1 : (setup_number format rate rule mixes ≡ 0 → ⊥) → record { number = setup_number format rate rule mixes; session = empty_session } ≡ setup_of format rate rule mixes
  unfolding setup_of
  setup_1 e = rw (ne_eqb (setup_number format rate rule mixes) 0 e)

  -- an accepted setup has at most 32 mix types
  pub setup_few : setup_number format rate rule mixes ≡ 0 → length mixes ≤ 32
  unfolding setup_number
  setup_few e =
      let paired = past (pairs_with format rate) 1 _ e (omega arith) in
      let ruled = past (rule_listed rule) 1 _ paired.1 (omega arith) in
      let some = past (leb 1 (length mixes)) 1 _ ruled.1 (omega arith) in
      leb-true (length mixes) 32 (past (leb (length mixes) 32) 1 _ some.1 (omega arith)).0

module _ (s : Session) where
  abbrev set : Bool
  set = is_set s.programme.settings

  -- ---- Line

  pub line_1 : set ≡ false → (n : ℕ) (b : List ℕ) → (record { number = 1; told = Open; session = s } ≡ line_of s n b) × (says_of 1 Open ≡ line_says s n b)
  unfolding line_of line_says told_ended told_values
  line_1 e n b = (rw e, rw e)

  pub line_set : set ≡ true → (n : ℕ) (b : List ℕ) (r : picture.Scanned)
      → let p = s.programme.picture in
      let f = s.programme.settings.format in
      (r ≡ picture.line_of p f n b) × (says_of r.number r.told ≡ picture.line_says p f n b)
      → (record { number = r.number; told = r.told; session = with_picture s r.picture } ≡ line_of s n b) × (says_of r.number r.told ≡ line_says s n b)
  unfolding line_of line_says
  line_set e n b r p = (rw (e, ← p.0), rw (e, ← p.1))

  -- the same by the picture's answer and the picture that it leaves
  pub line_answered : set ≡ true → (n : ℕ) (b : List ℕ) (x : Result Told Refusal) (p : Picture)
      → let f = s.programme.settings.format in
      picture.scanned x p ≡ picture.line_of s.programme.picture f n b → says_of (number_in x) (picture.told_in x) ≡ picture.line_says s.programme.picture f n b
      → (lined x (with_picture s p) ≡ line_of s n b) × (says_of (number_in x) (picture.told_in x) ≡ line_says s n b)
  line_answered e n b x p a q =
      let l = line_set e n b (picture.scanned x p) (a, sym (answer_said x p) ∙ q) in
      (as_lined x p ∙ l.0, answer_said x p ∙ l.1)
    where
      as_lined : (x : Result Told Refusal) (p : Picture)
          → lined x (with_picture s p) ≡ record { number = (picture.scanned x p).number; told = (picture.scanned x p).told; session = with_picture s (picture.scanned x p).picture }
      as_lined (Ok told) p = refl
      as_lined (Err why) p = refl

  -- ---- Sound, in a block or in floating point: what fingerprint k itself answers, and what it becomes

  module _ (k r : ℕ) (e : r ≡ reached s.programme.settings k 0) where
    pub unreached : (r ≡ 0 → ⊥) → (number : ℕ) (f : Fingerprint) → record { number = r; session = s } ≡ heard_with s k (reached s.programme.settings k number) f
    unreached n number f = go set (leb s.programme.settings.count k) e
      where
        go : (a b : Bool) → r ≡ cond a (cond b 7 0) 1
            → record { number = r; session = s } ≡ heard_with s k (cond a (cond b 7 number) 1) f
        go true true z = rw z
        go true false z = absurd (n z)
        go false b z = rw z

    module _ (z : r ≡ 0) where
      at_own : (set ≡ true) × (k < s.programme.settings.count)
      at_own = go set (leb s.programme.settings.count k) refl refl (sym e ∙ z)
        where
          go : (a b : Bool) → set ≡ a → leb s.programme.settings.count k ≡ b → ◌≡◌ {A = ℕ} (cond a (cond b 7 0) 1) 0
              → (set ≡ true) × (k < s.programme.settings.count)
          go true false p q h = (p, leb-false s.programme.settings.count k q)
          go true true p q h = absurd (let no : ⊥ = omega arith in no)
          go false b p q h = absurd (let no : ⊥ = omega arith in no)

      pub within_32 : k < 32
      within_32 = omega (arith, at_own.1, set_count s.programme.settings at_own.0)

      own : (number : ℕ) → reached s.programme.settings k number ≡ number
      own number = rw (at_own.0, lt-leb s.programme.settings.count k at_own.1)

      module _ (number : ℕ) (f : Fingerprint) where
        pub refused_own : (n : ℕ) → n ≡ number → (n ≡ 0 → ⊥) → record { number = n; session = s } ≡ heard_with s k (reached s.programme.settings k number) f
        refused_own n p q = rw (own number, ← p, ne_eqb n 0 q)

        pub heard_own : (n : ℕ) → n ≡ number → n ≡ 0 → (g : Fingerprint) → g ≡ f
            → record { number = 0; session = with_fingerprint s k g } ≡ heard_with s k (reached s.programme.settings k number) f
        heard_own n p q g h = rw (own number, ← p, q, ← h)

  -- ---- restarts

  pub video_same : set ≡ false → s ≡ video_restarted s
  unfolding video_restarted
  video_same e = rw e

  pub video_anew : set ≡ true → (p : Picture) → p ≡ restarted s.programme.picture → with_picture s p ≡ video_restarted s
  unfolding video_restarted
  video_anew e p q = rw (e, q)

  pub audio_same : set ≡ false → s ≡ audio_restarted s
  unfolding audio_restarted
  audio_same e = rw e

  pub audio_anew_lem : set ≡ true → audio_anew s ≡ audio_restarted s
  unfolding audio_restarted
  audio_anew_lem e = rw e

  -- ---- Pack

  module _ (id out : List ℕ) where
    pub pack_refused : (pack_number s (length id) ≡ 0 → ⊥)
        → (refused_with (pack_number s (length id)) s ≡ pack_of s id (length out)) × (out ≡ pack_out s id out)
    unfolding pack_of pack_out
    pack_refused f = let e = ne_eqb (pack_number s (length id)) 0 f in (rw e, rw e)

    module _ (e : pack_number s (length id) ≡ 0) (d : Done) (p : d ≡ write_done (contents_of s id) (length out)) where
      pub pack_short : (d.number ≡ 0 → ⊥) → (refused_with d.number s ≡ pack_of s id (length out)) × (write_out (contents_of s id) out ≡ pack_out s id out)
      unfolding pack_of pack_out
      pack_short f = let z = eq-eqb (pack_number s (length id)) 0 e in (rw (z, ← p, ne_eqb d.number 0 f), rw z)

      pub pack_0 : d.number ≡ 0 → record { number = 0; written = d.written; session = session_after s } ≡ pack_of s id (length out)
      unfolding pack_of
      pack_0 f = rw (eq-eqb (pack_number s (length id)) 0 e, ← p, eq-eqb d.number 0 f)

      pub pack_out_lem : write_out (contents_of s id) out ≡ pack_out s id out
      unfolding pack_out
      pack_out_lem = rw (eq-eqb (pack_number s (length id)) 0 e)

  -- what Pack packs is set
  pub pack_set : (n : ℕ) → pack_number s n ≡ 0 → set ≡ true
  unfolding pack_number ready_number
  pack_set n e = go set (is_ready s.programme.picture) refl e
    where
      go : (a b : Bool) → set ≡ a → ◌≡◌ {A = ℕ} (cond a (cond b (cond (eqb n 0 || eqb n 20) 0 11) 10) 1) 0 → set ≡ true
      go true b p h = p
      go false b p h = absurd (let z : ⊥ = omega arith in z)
