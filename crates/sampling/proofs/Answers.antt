-- What sampling a line answers, case by case.
use Prim.Native.Nat.{ℕ, ◌*◌, ◌≤◌, ◌<◌}
use mathlib.Core.Path.{◌≡◌, sym, ◌∙◌}
use mathlib.Core.List.{List}
use borrow.Author.Tests.{lt-ltb, le-ltb, eq-eqb, ne_eqb}
use lib.ListN.{length}
use Rattle.laws.specs.declared.Done.{Done}
use Rattle.laws.specs.Calls.{over}
use Rattle.laws.proofs.Calls.{done, told_refused, told_short, told_ok}
use Rattle.sampling.specs.Formats.{row_of}
use Rattle.sampling.specs.Samples.{pixels, sample_number, sample_done, sample_out}
use Rattle.sampling.proofs.Filled.{sixty}

abbrev pub Sampled : ℕ → List ℕ → List ℕ → Done → List ℕ → Type 0
Sampled f line out told left = (told ≡ sample_done f line out) × (left ≡ sample_out f line out)

module _ (f : ℕ) (line : List ℕ) where
  pub unlisted : 8 ≤ f → sample_number f line ≡ 1
  unfolding sample_number
  unlisted h = simp (le-ltb f 8 h)

  pub mis_sized : f < 8 → (length line ≡ 2 * (row_of f).width → ⊥) → sample_number f line ≡ 2
  unfolding sample_number
  mis_sized h n = simp (lt-ltb f 8 h, ne_eqb _ _ n)

  pub accepted : f < 8 → length line ≡ 2 * (row_of f).width → sample_number f line ≡ 0
  unfolding sample_number
  accepted h e = simp (lt-ltb f 8 h, eq-eqb _ _ e)

  module _ (out : List ℕ) where
    pub sample_refused : (k : ℕ) → sample_number f line ≡ k → (k ≡ 0 → ⊥) → Sampled f line out (done k 0) out
    unfolding sample_done sample_out
    sample_refused k e n = rw (← e) (told_refused (sample_number f line) (pixels (row_of f) line) out (λ z. n (sym e ∙ z)))

    pub sample_short : sample_number f line ≡ 0 → length out < 60 → Sampled f line out (done 12 0) out
    unfolding sample_done sample_out
    sample_short e h = told_short (sample_number f line) (pixels (row_of f) line) out e (rw sixty h)

    pub sample_ok : sample_number f line ≡ 0 → 60 ≤ length out → Sampled f line out (done 0 60) (over (pixels (row_of f) line) out)
    unfolding sample_done sample_out
    sample_ok e h =
        let t = told_ok (sample_number f line) (pixels (row_of f) line) out e (rw sixty h) in
        (rw (← sixty (row_of f) line) t.0, t.1)
