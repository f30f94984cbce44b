-- What our own judge is shown of our own card (02, A13): the containers of a run that come one after the other, as packets.
use Rattle.std.specs.Prelude.{ℕ, cond, List, [], ◌∷◌, eqb, take}
use Rattle.laws.specs.Bytes.{Bytes}
use Rattle.judging_laws.specs.Files.{packet_of}
use Rattle.demands.specs.Calls.{Call, line, sound, instant, pack, video_restart, audio_restart, Answer, Event}

-- the packet of the container that an event packed, before those of earlier ones
unfoldable pub packet_at : Call → Answer → List (List ℕ) → List (List ℕ)
packet_at (line n b) a ps = ps
packet_at (sound k b) a ps = ps
packet_at (instant k i) a ps = ps
packet_at (pack id out) a ps = cond (eqb a.number 0) (packet_of (take a.written a.out) ∷ ps) ps
packet_at video_restart a ps = ps
packet_at audio_restart a ps = ps

unfoldable pub packets : List Event → List (List ℕ)
packets [] = []
packets (e ∷ es) = packet_at e.call e.answer (packets es)

-- no audio restart is among the calls, and each ID is lent as bytes
unfoldable pub unbroken : Call → Type 0
unbroken (line n b) = Unit {0}
unbroken (sound k b) = Unit {0}
unbroken (instant k i) = Unit {0}
unbroken (pack id out) = Bytes id
unbroken video_restart = Unit {0}
unbroken audio_restart = ⊥

unfoldable pub Unbroken : List Event → Type 0
Unbroken [] = Unit {0}
Unbroken (e ∷ es) = unbroken e.call × Unbroken es
