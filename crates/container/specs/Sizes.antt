-- How long a container is: the sum of its parts, each with its largest size. "The largest parts, 4 + 21 + 3 + 225 + 1 bytes, make 254" (02, A7).
use Rattle.std.specs.Prelude.{◌+◌, ◌≤◌, ◌≡◌, length}
use Rattle.container.specs.declared.Contents.{Contents}
use Rattle.container.specs.Bytes.{id_bytes, video_bytes, audio_bytes, encode}

pub record Sized (c : Contents) : Type 0 where
  -- 4: version, sequence counter, Length, the rate code with the flags; 1: the checksum
  pub whole : length (encode c) ≡ 4 + length (id_bytes c.hasid c.id) + length (video_bytes c.video) + length (audio_bytes c.count c.prints) + 1
  pub id : length (id_bytes c.hasid c.id) ≤ 21
  pub video : length (video_bytes c.video) ≤ 3
  -- one byte, then for each of 32 fingerprints two bytes and five
  pub audio : length (audio_bytes c.count c.prints) ≤ 225
