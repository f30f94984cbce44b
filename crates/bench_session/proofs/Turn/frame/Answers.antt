-- `Turn::frame` meets its contract.
use Prim.Native.Nat.{ℕ, zero, suc, ◌≤◌}
use mathlib.Core.Path.{◌≡◌, refl, ap, ap₂, ◌∙◌}
use mathlib.Core.List.{List, ◌∷◌}
use native.Mathlib.Omega.{arith}
use lib.ListN.{take, replicate}
use Rattle.session.specs.declared.Session.{Session}
use Rattle.bench_session.specs.Frames.{packed_in, frame_of}
use Rattle.bench_session.proofs.Turn.frame.Goals as goal

zeros : (n k : ℕ) → n ≤ k → take {A = ℕ} n (replicate k 0) ≡ replicate n 0
zeros zero k h = refl
zeros (suc n) zero h = absurd (let z : ⊥ = omega arith in z)
zeros (suc n) (suc k) h = ap (λ (l : List ℕ). 0 ∷ l) (zeros n k (omega arith))

pub returns : goal.returns
unfolding frame_of
returns c =
    let a = c.args in
    let p = c.pack in
    let fresh = zeros a.load.room 254 c.requires.1 in
    (p.ensures.0 ∙ ap₂ (λ (o : List ℕ) (s : Session). packed_in o s a.self.now.sum) fresh c.fill.ensures, p.ensures.1)
