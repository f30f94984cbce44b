-- Laws of a container's bytes: their number, and one fingerprint more.
use Prim.Native.Nat.{ℕ, zero, suc, ◌+◌, ◌-◌, ◌*◌, ◌%◌, ◌≤◌, ◌<◌}
use mathlib.Core.List.{List, [], ◌∷◌, ◌++◌, append_assoc, append-nil}
use mathlib.Core.Path.{◌≡◌, refl, ap, ◌∙◌}
use mathlib.Core.Bool.{Bool, true, false}
use native.Mathlib.Omega.{arith}
use native.Mathlib.Numerals.{add-one}
use native.Mathlib.Nat.{suc-mul, mul-le-mul_right}
use lib.ListN.{length, get_or, take, length-append}
use lib.Seq.{length-take-le, take-suc, take-take, get_or-take}
use Rattle.std.specs.List.{fold}
use Rattle.laws.specs.Sums.{sum}
use Rattle.laws.specs.declared.Video.{Video}
use Rattle.laws.specs.declared.Video.TheVariants.{Absent, One, Two}
use Rattle.container.specs.declared.Print.{Print}
use Rattle.container.specs.declared.Contents.{Contents}
use Rattle.container.specs.Contents.{blank_print}
use Rattle.container.specs.Bytes.{id_bytes, video_bytes, print_bytes, run_bytes, audio_bytes, part_bytes, front_bytes, check_byte, encode}
use Rattle.container.specs.Sizes.{Sized}
use Rattle.container.specs.Writing.{RunFits, Fits}

-- the sum taken byte by byte, each time modulo 256
sum_fold : (s : List ℕ) (t : ℕ) → t < 256 → fold (λ u b. (u + b) % 256) t s ≡ (t + sum s) % 256
unfolding sum
sum_fold [] t h = omega arith
sum_fold (b ∷ s) t h = omega (arith, sum_fold s ((t + b) % 256) (omega arith))

pub fold_sum : (s : List ℕ) → fold (λ u b. (u + b) % 256) 0 s ≡ sum s % 256
fold_sum s = omega (arith, sum_fold s 0 (omega arith))

pub print_length : (p : Print) → p.size ≤ length p.bytes → length (print_bytes p) ≡ p.size + 2
unfolding print_bytes
print_length p h = let e = length-take-le p.size p.bytes h in omega arith

take_at_most : (n : ℕ) (l : List ℕ) → length (take n l) ≤ n
take_at_most zero l = omega arith
take_at_most (suc n) [] = omega arith
take_at_most (suc n) (x ∷ l) = let h = take_at_most n l in omega arith

pub print_at_most : (p : Print) → length (print_bytes p) ≤ p.size + 2
unfolding print_bytes
print_at_most p = omega (arith, take_at_most p.size p.bytes)

run_append : (xs ys : List Print) → run_bytes (xs ++ ys) ≡ run_bytes xs ++ run_bytes ys
unfolding run_bytes
run_append [] ys = refl
run_append (p ∷ xs) ys = rw (run_append xs ys, append_assoc)

-- one fingerprint more
pub run_snoc : (ps : List Print) (k : ℕ) (d : Print) → k < length ps → run_bytes (take (k + 1) ps) ≡ run_bytes (take k ps) ++ print_bytes (get_or ps k d)
unfolding run_bytes
run_snoc ps k d h = rw (add-one, take-suc ps k d, run_append, append-nil)

pub run_longer : (ps : List Print) (k : ℕ) (d : Print) → k < length ps
    → length (run_bytes (take (k + 1) ps)) ≡ length (run_bytes (take k ps)) + length (print_bytes (get_or ps k d))
run_longer ps k d h = ap length (run_snoc ps k d h) ∙ length-append (run_bytes (take k ps)) (print_bytes (get_or ps k d))

pub audio_none : (n : ℕ) (ps : List Print) → n ≡ 0 → audio_bytes n ps ≡ []
unfolding audio_bytes
audio_none n ps e = rw e

pub audio_some : (n : ℕ) (ps : List Print) → (n ≡ 0 → ⊥) → audio_bytes n ps ≡ ((n - 1) * 8 + 2) ∷ run_bytes (take n ps)
unfolding audio_bytes
audio_some zero ps h = absurd (h refl)
audio_some (suc n) ps h = let e : suc n - 1 ≡ n = omega arith in rw e

audio_of_front : (n : ℕ) (ps : List Print) → audio_bytes n (take n ps) ≡ audio_bytes n ps
unfolding audio_bytes
audio_of_front zero ps = refl
audio_of_front (suc n) ps = rw (take-take (suc n) (suc n) ps (omega arith))

-- the first n fingerprints, on their own
module _ (n : ℕ) (ps : List Print) (h : n ≤ length ps) where
  front_length_is : length (take n ps) ≡ n
  front_length_is = length-take-le n ps h

  pub front_fits : RunFits n ps → RunFits (length (take n ps)) (take n ps)
  front_fits r = rw front_length_is (record {
    many = r.many;
    each = λ k l. rw (get_or-take n ps k blank_print l) (r.each k l);
  })

  pub audio_front : audio_bytes (length (take n ps)) (take n ps) ≡ audio_bytes n ps
  audio_front = rw front_length_is (audio_of_front n ps)

-- ---- how many bytes a part has at most

pub id_at_most : (present : Bool) (id : List ℕ) → length id ≡ 20 → length (id_bytes present id) ≤ 21
unfolding id_bytes
id_at_most true id l = omega arith
id_at_most false id l = omega arith

pub video_at_most : (v : Video) → length (video_bytes v) ≤ 3
unfolding video_bytes
video_at_most Absent = omega arith
video_at_most (One a) = omega arith
video_at_most (Two a b) = omega arith

-- fingerprints of m bytes at most
module _ (m n : ℕ) (ps : List Print) (each : (k : ℕ) → k < n → (get_or ps k blank_print).size ≤ m) (l : n ≤ length ps) where
  run_at_most : (k : ℕ) → k ≤ n → length (run_bytes (take k ps)) ≤ k * (2 + m)
  unfolding run_bytes
  run_at_most zero h = omega arith
  run_at_most (suc k) h =
      let r = run_at_most k (omega arith) in
      let e : length (run_bytes (take (suc k) ps)) ≡ length (run_bytes (take k ps)) + length (print_bytes (get_or ps k blank_print)) =
      rw (← add-one k) (run_longer ps k blank_print (omega arith)) in
      rw (suc-mul k (2 + m)) (omega (arith, print_at_most (get_or ps k blank_print), each k (omega arith)))

pub audio_at_most : (m n : ℕ) (ps : List Print) → ((k : ℕ) → k < n → (get_or ps k blank_print).size ≤ m) → n ≤ 32 → n ≤ length ps
    → length (audio_bytes n ps) ≤ 1 + 32 * (2 + m)
unfolding audio_bytes
audio_at_most m zero ps each h l = omega arith
audio_at_most m (suc n) ps each h l = omega (arith, run_at_most m (suc n) ps each l (suc n) (omega arith), mul-le-mul_right {m = suc n} {n = 32} (2 + m) h)

pub parts_length : (c : Contents)
    → length (part_bytes c) ≡ length (id_bytes c.hasid c.id) + length (video_bytes c.video) + length (audio_bytes c.count c.prints)
unfolding part_bytes
parts_length c = simp length-append

-- the arrays have the lengths that their types give
pub record Shaped (c : Contents) : Type 0 where
  pub id : length c.id ≡ 20
  pub prints : length c.prints ≡ 32

pub front_length : (c : Contents) → length (front_bytes c) ≡ length (part_bytes c) + 4
unfolding front_bytes
front_length c = omega arith

pub encode_length : (c : Contents) → length (encode c) ≡ length (part_bytes c) + 5
unfolding encode
encode_length c = omega (arith, length-append (front_bytes c) (check_byte (sum (front_bytes c)) ∷ []), front_length c)

pub sized : (c : Contents) → Shaped c → Fits c → Sized c
sized c s f = record {
  whole = omega (arith, encode_length c, parts_length c);
  id = id_at_most c.hasid c.id s.id;
  video = video_at_most c.video;
  audio = audio_at_most 5 c.count c.prints (λ k h. (f.run.each k h).five) f.run.many (omega (arith, f.run.many, s.prints));
}

pub at_most_254 : (c : Contents) → Sized c → length (encode c) ≤ 4 + 21 + 3 + 225 + 1
at_most_254 c z = omega (arith, z.whole, z.id, z.video, z.audio)

pub parts_at_most : (c : Contents) → Shaped c → Fits c → length (part_bytes c) ≤ 249
parts_at_most c s f = omega (arith, encode_length c, at_most_254 c (sized c s f))
