-- `Fingerprint::check_sound` meets its contract.
use mathlib.Core.Path.{sym, ap, ◌∙◌}
use Rattle.fingerprint.specs.State.{store_number}
use Rattle.fingerprint.proofs.Counts.{number_8, number_whole}
use Rattle.fingerprint.proofs.Fingerprint.check_sound.Goals as goal

pub returns-then-not-whole_instants : goal.returns-then-not-whole_instants
returns-then-not-whole_instants c =
    let a = c.args in
    number_8 a.d a.self.now a.len (sym c.whole_instants.ensures ∙ c.if-not-whole_instants.true)

pub returns : goal.returns
returns c =
    let a = c.args in
    c.check_store.ensures ∙ ap (store_number a.self.now.held a.d a.self.now.wait) c.instants_in.ensures
    ∙ number_whole a.d a.self.now a.len (sym c.whole_instants.ensures ∙ c.if-not-whole_instants.false)
