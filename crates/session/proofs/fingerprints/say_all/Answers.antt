use Prim.Native.Nat.{ℕ, ◌<◌}
use mathlib.Core.Path.{◌≡◌, refl, sym, ap, ap₂, ◌∙◌}
use mathlib.Core.List.{List, ◌++◌}
use native.Mathlib.Omega.{arith}
use lib.ListN.{length, get_or, set, take, drop, replicate}
use lib.Seq.{take_all}
use Rattle.container.specs.declared.Print.{Print}
use Rattle.container.specs.Contents.{blank_print}
use Rattle.container.proofs.Runs.{fill_step}
use Rattle.fingerprint.specs.declared.Fingerprint.{Fingerprint}
use Rattle.session.specs.declared.fingerprints.Part.{Part}
use Rattle.session.specs.Session.{no_fingerprint}
use Rattle.session.specs.Fingerprints.{each, shed, prints_of, with_blanks, part_of, parts_of}
use Rattle.session.proofs.Lists.{each_more, each_at, prints_length, print_at}
use Rattle.session.proofs.fingerprints.say_all.Goals as goal
use Rattle.session.proofs.fingerprints.say_all.Goals.{After-say-p}

abbrev due : (c : goal.After-say-p) → ℕ
due c = c.args.due

abbrev fs : (c : goal.After-say-p) → List Fingerprint
fs c = c.args.fingerprints

abbrev k : (c : goal.After-say-p) → ℕ
k c = c.loop-k.k

part_is : (c : goal.After-say-p) → c.say-p.result ≡ part_of (k c) (due c) (get_or (fs c) (k c) no_fingerprint)
part_is c =
    c.say-p.ensures
    ∙ ap (λ (l : List Fingerprint). part_of (k c) (due c) (get_or l (k c) no_fingerprint)) c.loop-k.invariant.3
    ∙ ap (part_of (k c) (due c)) (each_at (shed (due c)) no_fingerprint (k c) (fs c))

abbrev ps : (c : goal.After-say-p) → List Print
ps c = prints_of (due c) 0 c.args.n (fs c)

pub loop-k-init : goal.loop-k-init
unfolding each
loop-k-init c = (omega arith, c.well_formed.0.1.0.1, rw c.blank_print-said.ensures, refl)

pub loop-k-preserved : goal.loop-k-preserved
unfolding part_of
loop-k-preserved c =
    let w = c in
    let l = w.loop-k in
    let s = w in
    let n : length (ps (goal.at.loop-k-preserved c).After-say-p) ≡ s.args.n = prints_length (due (goal.at.loop-k-preserved c).After-say-p) 0 s.args.n (fs (goal.at.loop-k-preserved c).After-say-p) (omega (arith, l.invariant.1, s.requires)) in
    let taken = w.loop-k-test.true in
    let within : k (goal.at.loop-k-preserved c).After-say-p < length (fs (goal.at.loop-k-preserved c).After-say-p) = omega (arith, l.invariant.1, s.requires, taken) in (
      omega (arith, taken),
      l.invariant.1,
      ap (λ (o : List Print). set o (k (goal.at.loop-k-preserved c).After-say-p) w.say-p.result.print) l.invariant.2
          ∙ fill_step blank_print (replicate 32 blank_print) (ps (goal.at.loop-k-preserved c).After-say-p) (k (goal.at.loop-k-preserved c).After-say-p) w.say-p.result.print (omega (arith, s.requires, taken)) (omega (arith, n, taken))
          (ap (λ (p : Part). p.print) (part_is (goal.at.loop-k-preserved c).After-say-p) ∙ sym (print_at (due (goal.at.loop-k-preserved c).After-say-p) s.args.n (fs (goal.at.loop-k-preserved c).After-say-p) (k (goal.at.loop-k-preserved c).After-say-p) blank_print no_fingerprint taken within)),
      ap (λ (p : Part). set l.left (k (goal.at.loop-k-preserved c).After-say-p) p.left) w.say-p.ensures
          ∙ ap (λ (o : List Fingerprint). set o (k (goal.at.loop-k-preserved c).After-say-p) (shed (due (goal.at.loop-k-preserved c).After-say-p) (get_or o (k (goal.at.loop-k-preserved c).After-say-p) no_fingerprint))) l.invariant.3
          ∙ each_more (shed (due (goal.at.loop-k-preserved c).After-say-p)) no_fingerprint (k (goal.at.loop-k-preserved c).After-say-p) (fs (goal.at.loop-k-preserved c).After-say-p) within,
    )

pub returns : goal.returns
unfolding parts_of with_blanks
returns c =
    let l = c.loop-k in
    let s = c in
    let a = s.args in
    let ps : List Print = prints_of a.due 0 a.n a.fingerprints in
    let n : length ps ≡ a.n = prints_length a.due 0 a.n a.fingerprints (omega (arith, l.invariant.1, s.requires)) in
    let e : l.k ≡ a.n = omega (arith, l.invariant.0, c.loop-k-test.false) in
    let f : l.k ≡ length ps = e ∙ sym n in
    ap₂ (λ (said : List Print) (left : List Fingerprint). record { said = said; left = left })
    (l.invariant.2 ∙ ap (λ (k : ℕ). take k ps ++ drop k (replicate 32 blank_print)) f
    ∙ ap (λ (t : List Print). t ++ drop (length ps) (replicate 32 blank_print)) (take_all (length ps) ps (omega arith)))
    (l.invariant.3 ∙ ap (λ (k : ℕ). each (shed a.due) k a.fingerprints) e)
