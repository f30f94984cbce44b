-- `Session::audio_restart` meets its contract.
use mathlib.Core.Path.{sym, ap, ◌∙◌}
use mathlib.Core.List.{List}
use Rattle.fingerprint.specs.declared.Fingerprint.{Fingerprint}
use Rattle.session.specs.declared.Session.{Session}
use Rattle.session.proofs.Calls.{set_count, audio_same, audio_anew_lem}
use Rattle.session.proofs.Session.audio_restart.Goals as goal

abbrev with : Session → List Fingerprint → Session
with s prints =
    record {
      programme = record { settings = s.programme.settings; picture = s.programme.picture; counter = s.programme.counter; place = 0 };
      fingerprints = prints;
    }

pub returns-else-is_set : goal.returns-else-is_set
returns-else-is_set c = audio_same c.args.self.now (sym c.is_set.ensures ∙ c.if-is_set.false)

pub clear-self-requires : goal.clear-self-requires
clear-self-requires c = set_count c.args.self.now.programme.settings (sym c.is_set.ensures ∙ c.if-is_set.true)

pub returns-then-is_set : goal.returns-then-is_set
returns-then-is_set c =
    let s = c.args.self.now in
    ap (with s) c.clear-self.ensures ∙ audio_anew_lem s (sym c.is_set.ensures ∙ c.if-is_set.true)
