-- Pack (01, The container, "Packing needs a ready frame .."; What a caller is told).
use Rattle.std.specs.Prelude.{ℕ, ◌+◌, ◌%◌, List, Bool, cond, ◌||◌, eqb, length, get_or, replicate, Result}
use Rattle.laws.specs.Calls.{unless}
use Rattle.laws.specs.declared.Done.{Done}
use Rattle.laws.specs.declared.Refusal.{Refusal}
use Rattle.laws.specs.Refusals.{done_of}
use Rattle.rates.specs.Cadence.{cadence, place_after}
use Rattle.picture.specs.Pictures.{is_ready, handed_out}
use Rattle.container.specs.declared.Contents.{Contents}
use Rattle.container.specs.Writing.{write_done, write_out}
use Rattle.session.specs.declared.Programme.{Programme}
use Rattle.session.specs.declared.Session.{Session}
use Rattle.session.specs.declared.packing.Packing.{Packing}
use Rattle.session.specs.Fingerprints.{each, shed, all_hold, prints_of, with_blanks}
use Rattle.session.specs.Session.{is_set}

-- "The ID part is present if 20 bytes are lent for it"
unfoldable pub id_of : List ℕ → List ℕ
id_of id = cond (eqb (length id) 20) id (replicate 20 0)

-- the whole bytes that the cadence asks of each fingerprint
unfoldable pub due_of : Programme → ℕ
due_of p = get_or (cadence p.settings.rate) p.place 0

-- "Audio is present exactly when every fingerprint holds the whole bytes the cadence asks for"
unfoldable pub has_audio : Session → Bool
has_audio s = all_hold (due_of s.programme) s.programme.settings.count s.fingerprints

-- the fingerprints that the container has: all or none
abbrev pub spoken_with : Bool → ℕ → ℕ
spoken_with audio count = cond audio count 0

unfoldable pub spoken_of : Session → ℕ
spoken_of s = spoken_with (has_audio s) s.programme.settings.count

-- what the container says
unfoldable pub contents_of : Session → List ℕ → Contents
contents_of s id =
    record {
      counter = s.programme.counter;
      rate = s.programme.settings.rate;
      hasid = eqb (length id) 20;
      id = id_of id;
      video = (handed_out s.programme.picture).shown;
      count = spoken_of s;
      prints = with_blanks (prints_of (due_of s.programme) 0 (spoken_of s) s.fingerprints);
    }

-- "grows by one per container, and goes from 255 to 0"
unfoldable pub counter_after : ℕ → ℕ
counter_after counter = (counter + 1) % 256

-- "and the cadence moves on. Otherwise neither moves"
abbrev pub place_with : Bool → ℕ → ℕ → ℕ
place_with audio rate place = cond audio (place_after rate place) place

unfoldable pub place_from : Session → ℕ
place_from s = place_with (has_audio s) s.programme.settings.rate s.programme.place

-- the session once the container is packed; the frame is no longer ready
unfoldable pub session_after : Session → Session
session_after s =
    record {
      programme = record {
        settings = s.programme.settings;
        picture = (handed_out s.programme.picture).picture;
        counter = counter_after s.programme.counter;
        place = place_from s;
      };
      fingerprints = each (shed (due_of s.programme)) (spoken_of s) s.fingerprints;
    }

-- both, which the code makes together
unfoldable pub packing_of : Session → List ℕ → Packing
packing_of s id = record { contents = contents_of s id; session = session_after s }

-- "10 no ready frame; 11 ID length neither 0 nor 20"
unfoldable pub ready_number : Bool → ℕ → ℕ
ready_number ready idLength = unless ready 10 (unless (eqb idLength 0 || eqb idLength 20) 11 0)

-- 1 for an empty session first
unfoldable pub pack_number : Session → ℕ → ℕ
pack_number s idLength = unless (is_set s.programme.settings) 1 (ready_number (is_ready s.programme.picture) idLength)

-- what Pack tells: 01's number, how many bytes are written, and the session after it
pub record Packed : Type 0 where
  pub number : ℕ
  pub written : ℕ
  pub session : Session

-- the same of an answer, with the session that it leaves
abbrev pub packed : Result ℕ Refusal → Session → Packed
packed answer s = record { number = (done_of answer).number; written = (done_of answer).written; session = s }

abbrev pub refused_with : ℕ → Session → Packed
refused_with number s = record { number = number; written = 0; session = s }

-- the bytes packed are what Write writes for these contents; "12" is its (02, A7)
abbrev pub packed_with : Session → Done → Packed
packed_with s d = cond (eqb d.number 0) (record { number = 0; written = d.written; session = session_after s }) (refused_with d.number s)

unfoldable pub pack_of : Session → List ℕ → ℕ → Packed
pack_of s id room =
    cond (eqb (pack_number s (length id)) 0)
    (packed_with s (write_done (contents_of s id) room))
    (refused_with (pack_number s (length id)) s)

unfoldable pub pack_out : Session → List ℕ → List ℕ → List ℕ
pack_out s id out = cond (eqb (pack_number s (length id)) 0) (write_out (contents_of s id) out) out
