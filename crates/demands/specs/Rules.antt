-- What the mixing rule can change (02, A9): "the two ends agree beforehand", so no container tells it.
use Rattle.std.specs.Prelude.{ℕ, ◌≡◌, map, length, drop, replicate}
use Rattle.laws.specs.Bytes.{Bytes}
use Rattle.container.specs.declared.Print.{Print}
use Rattle.container.specs.declared.Contents.{Contents}
use Rattle.demands.specs.Calls.{Setup, Call, line, sound, instant, pack, video_restart, audio_restart, Answer}
use Rattle.demands.specs.Demands.{read_again}

-- the same setup by another rule
unfoldable pub by_rule : ℕ → Setup → Setup
by_rule rule u = record { format = u.format; rate = u.rate; rule = rule; mixes = u.mixes }

-- contents with 0 in place of every audio bit
unfoldable pub hushed : Print → Print
hushed p = record { id = p.id; mix = p.mix; size = p.size; bytes = replicate (length p.bytes) 0 }

unfoldable pub without_bits : Contents → Contents
without_bits c =
    record { counter = c.counter; rate = c.rate; hasid = c.hasid; id = c.id; video = c.video; count = c.count; prints = map hushed c.prints }

-- two containers say the same but for the audio bits
unfoldable pub SameContainer : Call → Answer → Answer → Type 0
SameContainer (line n b) x y = Unit {0}
SameContainer (sound k b) x y = Unit {0}
SameContainer (instant k i) x y = Unit {0}
SameContainer (pack id out) x y = Bytes id → x.number ≡ 0 → without_bits (read_again x).contents ≡ without_bits (read_again y).contents
SameContainer video_restart x y = Unit {0}
SameContainer audio_restart x y = Unit {0}

-- two answers to a call are the same but for the audio bits of a container: the number, what is told, the written length, the bytes after those written
pub record SameButBits (c : Call) (x y : Answer) : Type 0 where
  pub number : x.number ≡ y.number
  pub told : x.told ≡ y.told
  pub written : x.written ≡ y.written
  pub rest : drop x.written x.out ≡ drop y.written y.out
  pub container : SameContainer c x y
