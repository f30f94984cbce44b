use lib.ListN.{get_or}
use Rattle.session.proofs.Lists.{each_more}
use Rattle.session.specs.Session.{no_fingerprint}
use mathlib.Core.Path.{refl, ap, ◌∙◌}
use mathlib.Core.List.{List}
use native.Mathlib.Omega.{arith}
use lib.ListN.{set}
use Rattle.fingerprint.specs.declared.Fingerprint.{Fingerprint}
use Rattle.session.specs.Fingerprints.{each, cleared}
use Rattle.session.proofs.fingerprints.clear.Goals as goal

pub loop-k-init : goal.loop-k-init
unfolding each
loop-k-init c = (omega arith, c.well_formed.0.1.0.1, refl)

pub loop-k-preserved : goal.loop-k-preserved
unfolding cleared
loop-k-preserved c =
    let l = c.loop-k in
    let fs : List Fingerprint = c.args.fingerprints in (
      omega arith,
      l.invariant.1,
      ap (λ (f : Fingerprint). set l.next l.k f) c.restart.ensures
          ∙ ap (λ (o : List Fingerprint). set o l.k (cleared (get_or o l.k no_fingerprint))) l.invariant.2
          ∙ each_more cleared no_fingerprint l.k fs (omega (arith, l.invariant.1, c.requires)),
    )
