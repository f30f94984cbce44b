-- One audio fingerprint, and what each call makes of it (01, Audio). Lists of samples have the newest first.
use Rattle.std.specs.Prelude.{ℕ, zero, suc, ◌+◌, ◌-◌, ◌*◌, ◌/◌, ◌%◌, ◌^◌, List, [], ◌∷◌, ◌++◌, Bool, true, false, cond, ◌&&◌, ltb, leb, eqb, length, get_or, set, take, drop, replicate}
use Rattle.std.specs.Int.Bits.{bit_or}
use Rattle.sound.specs.Mix.{instant_bytes, instant_value}
use Rattle.sound.specs.Filter.{envelope_next, mean_next}
use Rattle.floats.specs.declared.Instant.{Instant}
use Rattle.floats.specs.Instants.{refused_by}
use Rattle.fingerprint.specs.declared.Fingerprint.{Fingerprint}

-- as setup or an audio restart leaves it
unfoldable pub fresh_of : ℕ → Fingerprint
fresh_of mix = record { mix = mix; envelope = 0; mean = 0; wait = 0; started = false; held = 0; bytes = replicate 32 0 }

-- "E(0) = M(0) = 0; sample 0 enters neither filter"
unfoldable pub filtered_of : Fingerprint → ℕ → Fingerprint
filtered_of f a = record {
  mix = f.mix;
  envelope = cond f.started (envelope_next f.envelope a) f.envelope;
  mean = cond f.started (mean_next f.mean a) f.mean;
  wait = f.wait;
  started = true;
  held = f.held;
  bytes = f.bytes;
}

-- Bits "fill bytes from bit 0, the lowest": the bytes with bit k set, or as they were
unfoldable pub with_bit : Bool → List ℕ → ℕ → List ℕ
with_bit one bytes k = cond one (set bytes (k / 8) (bit_or (get_or bytes (k / 8) 0) (2 ^ (k % 8)))) bytes

-- a fingerprint that holds n bits
unfoldable pub holding : Fingerprint → ℕ → List ℕ → Fingerprint
holding f n bytes = record { mix = f.mix; envelope = f.envelope; mean = f.mean; wait = f.wait; started = f.started; held = n; bytes = bytes }

-- one more bit, where there is room: "A fingerprint holds at most 256 bits"
unfoldable pub pushed_of : Fingerprint → Bool → Fingerprint
pushed_of f one =
    holding f (cond (ltb f.held 256) (f.held + 1) f.held) (cond (ltb f.held 256) (with_bit one f.bytes f.held) f.bytes)

-- a fingerprint before whose next kept sample n samples pass
unfoldable pub with_wait : Fingerprint → ℕ → Fingerprint
with_wait f n = record { mix = f.mix; envelope = f.envelope; mean = f.mean; wait = n; started = f.started; held = f.held; bytes = f.bytes }

-- "The bit is 1 if M(i) < E(i)"; "Bits are kept at i = 0, D, 2D and so on": where no sample is waited for, and then D - 1 samples pass
unfoldable pub kept_of : ℕ → Fingerprint → Fingerprint
kept_of d f = cond (eqb f.wait 0) (with_wait (pushed_of f (ltb f.mean f.envelope)) (d - 1)) (with_wait f (f.wait - 1))

-- one mixed sample
unfoldable pub step_of : ℕ → Fingerprint → ℕ → Fingerprint
step_of d f a = kept_of d (filtered_of f a)

-- samples, the newest first
unfoldable pub after : ℕ → Fingerprint → List ℕ → Fingerprint
after d f [] = f
after d f (a ∷ h) = step_of d (after d f h) a

-- the values of n instants of a block by a rule, from a place on, the newest first
unfoldable pub values_at : ℕ → ℕ → List ℕ → ℕ → ℕ → List ℕ
values_at rule mix block at zero = []
values_at rule mix block at (suc n) = instant_value rule mix block (at + n * instant_bytes mix) ∷ values_at rule mix block at n

-- the instants in len bytes
unfoldable pub instants : ℕ → ℕ → ℕ
instants mix len = len / instant_bytes mix

-- the values of a whole block
unfoldable pub values_of : ℕ → ℕ → List ℕ → List ℕ
values_of rule mix block = values_at rule mix block 0 (instants mix (length block))

-- a block of sound
unfoldable pub heard_of : ℕ → ℕ → Fingerprint → List ℕ → Fingerprint
heard_of rule d f block = after d f (values_of rule f.mix block)

-- how many of the next n samples are kept, the first of them after a wait: those of which none is waited for
unfoldable pub new_bits : ℕ → ℕ → ℕ → ℕ
new_bits d wait zero = 0
new_bits d wait (suc n) = cond (eqb wait 0) (suc (new_bits d (d - 1) n)) (new_bits d (wait - 1) n)

-- len bytes are whole instants
unfoldable pub whole_instants : ℕ → ℕ → Bool
whole_instants mix len = eqb (len % instant_bytes mix) 0

-- "9 held plus new bits above 256", for n samples, the first kept one after a wait
abbrev pub store_number : ℕ → ℕ → ℕ → ℕ → ℕ
store_number held d wait n = cond (ltb 256 (held + new_bits d wait n)) 9 0

-- "8 length no multiple of one instant; 9 ..", for a block of len bytes
unfoldable pub sound_number : ℕ → Fingerprint → ℕ → ℕ
sound_number d f len = cond (whole_instants f.mix len) (store_number f.held d f.wait (instants f.mix len)) 8

-- "14 for an instant with a NaN, or whose kind differs from the fingerprint's mix type, after 7 and before 9"
unfoldable pub instant_number : ℕ → Fingerprint → Instant → ℕ
instant_number d f i = cond (refused_by f.mix i) 14 (store_number f.held d f.wait 1)

-- n whole bytes are held
unfoldable pub holds_of : Fingerprint → ℕ → Bool
holds_of f n = leb (8 * n) f.held

-- the bytes after the first n, and zeros
unfoldable pub shifted : ℕ → List ℕ → List ℕ
shifted n bytes = drop n bytes ++ replicate n 0

-- the first n of at most 5 bytes, and zeros
unfoldable pub first_bytes : ℕ → List ℕ → List ℕ
first_bytes n bytes = take n bytes ++ replicate (5 - n) 0

-- at most 5 are taken, and only those that are held
unfoldable pub can_take : Fingerprint → ℕ → Bool
can_take f n = leb n 5 && holds_of f n

-- "bits that have been packed free their room"
unfoldable pub without : Fingerprint → ℕ → Fingerprint
without f n = holding f (f.held - 8 * n) (shifted n f.bytes)

-- what taking bytes gives: the fingerprint afterwards, and the bytes handed out, with zeros behind them
pub record Taken : Type 0 where
  pub fingerprint : Fingerprint
  pub bytes : List ℕ

abbrev pub taken : List ℕ → Fingerprint → Taken
taken bytes f = record { fingerprint = f; bytes = bytes }

unfoldable pub take_of : Fingerprint → ℕ → Taken
take_of f n =
    cond (can_take f n)
    (record { fingerprint = without f n; bytes = first_bytes n f.bytes })
    (record { fingerprint = f; bytes = replicate 5 0 })
