-- `session::packing::make` meets its contract.
use Prim.Native.Nat.{ℕ}
use mathlib.Core.Path.{◌≡◌, ◌∙◌}
use mathlib.Core.Bool.{Bool}
use mathlib.Core.List.{List}
use lib.Dec.{eqb}
use lib.ListN.{length}
use Rattle.picture.specs.Pictures.{Handed, handed_with, handed_out}
use Rattle.session.specs.declared.Session.{Session}
use Rattle.session.specs.declared.fingerprints.Parts.{Parts}
use Rattle.session.specs.declared.packing.Packing.{Packing}
use Rattle.session.specs.Fingerprints.{all_hold, parts_of}
use Rattle.session.specs.Packing.{id_of, due_of, has_audio, spoken_with, spoken_of, contents_of, counter_after, place_with, place_from, session_after, packing_of}
use Rattle.session.proofs.Lists.{hold_all}
use Rattle.session.proofs.packing.make.Goals as goal

-- what the pieces make, whatever made them
made : (s : Session) (id : List ℕ) (due : ℕ) (audio : Bool) (n : ℕ) (parts : Parts) (h : Handed) (bytes : List ℕ) (counter place : ℕ)
    → due ≡ due_of s.programme → audio ≡ all_hold due s.programme.settings.count s.fingerprints → n ≡ spoken_with audio s.programme.settings.count
    → parts ≡ parts_of due n s.fingerprints → h ≡ handed_out s.programme.picture → bytes ≡ id_of id
    → counter ≡ counter_after s.programme.counter → place ≡ place_with audio s.programme.settings.rate s.programme.place
    → ◌≡◌ {A = Packing} (record {
      contents = record {
        counter = s.programme.counter;
        rate = s.programme.settings.rate;
        hasid = eqb (length id) 20;
        id = bytes;
        video = h.shown;
        count = n;
        prints = parts.said;
      };
      session = record {
        programme = record { settings = s.programme.settings; picture = h.picture; counter = counter; place = place };
        fingerprints = parts.left;
      };
    }) (packing_of s id)
unfolding packing_of contents_of session_after spoken_of place_from has_audio parts_of
made s id due audio n parts h bytes counter place d a m p o b k l = rw (l, k, b, o, p, m, a, d)

pub returns : goal.returns
unfolding due_of
returns c =
    let s = c.args.s in
    let id : List ℕ = c.args.id.now in
    made s id _ _ _ _ (handed_with c.hand_out-shown.result c.hand_out-shown.new.self) _ _ _ c.bytes_due-due.ensures (c.all_hold-audio.ensures ∙ hold_all _ _ _) c.spoken-count.ensures c.say_all-parts.ensures
    c.hand_out-shown.ensures.frame c.id_bytes-bytes.ensures c.counter_after.ensures c.place_after.ensures
