-- Laws of writing: the header stored after the parts that it counts, and the call's outcome in each case.
use Prim.Native.Nat.{ℕ, ◌+◌, ◌-◌, ◌≤◌, ◌<◌}
use mathlib.Core.List.{List, [], ◌∷◌, ◌++◌, append_assoc}
use mathlib.Core.Path.{◌≡◌, refl, ap, sym, ◌∙◌}
use mathlib.Core.Bool.{true, false}
use native.Mathlib.Omega.{arith}
use lib.ListN.{length, take, drop, length-append}
use lib.Seq.{sets, sets-eq, length-sets, take_at, drop_at, length-take-le}
use Rattle.laws.specs.Calls.{over}
use Rattle.laws.proofs.Lists.{sets_over}
use Rattle.laws.proofs.Calls.{done, told_refused, told_short, told_ok}
use Rattle.container.specs.declared.Contents.{Contents}
use Rattle.container.specs.Bytes.{part_bytes, flag_byte, front_bytes, encode}
use Rattle.container.proofs.Bytes.{front_length}
use Rattle.container.specs.Writing.{readable, contents_number, write_number, write_done, write_out}

-- head stored before what already stands from its end on
pub head_last : (o head xs : List ℕ) (n : ℕ) → length head ≡ n → n + length xs ≤ length o → sets (sets o n xs) 0 head ≡ sets o 0 (head ++ xs)
unfolding over
head_last o head xs n e h =
    let rest : List ℕ = drop (n + length xs) o in
    let l : length (head ++ xs) ≡ n + length xs = length-append head xs ∙ omega arith in
    let m : length (sets o n xs) ≡ length o = length-sets o n xs in
    sets_over head (sets o n xs) (omega arith)
    ∙ rw (e, sets-eq xs o n h, append_assoc (take n o) xs rest, drop_at (take n o) (xs ++ rest) n (length-take-le n o (omega arith)))
    (sym (sets_over (head ++ xs) o (omega arith) ∙ rw (l, append_assoc)))

-- what was stored from the start on is read back
pub take_front : (o front : List ℕ) (n : ℕ) → length front ≡ n → n ≤ length o → take n (sets o 0 front) ≡ front
unfolding over
take_front o front n e h = rw (sets_over front o (omega arith)) (take_at front (drop (length front) o) n e)

-- a container's bytes but for the checksum: its parts stored first, then the header that counts them, over a room of out
pub record Fronted (c : Contents) (out head : List ℕ) (end : ℕ) : Type 0 where
  pub is : head ≡ sets out 0 (front_bytes c)
  pub ends : end ≡ length (front_bytes c)
  pub within : end ≤ 253
  pub long : 254 ≤ length head
  pub back : take end head ≡ front_bytes c

pub fronted : (c : Contents) (out parts head : List ℕ) (end flag : ℕ) → length (part_bytes c) ≤ 249 → 254 ≤ length out
    → end ≡ 4 + length (part_bytes c) → parts ≡ sets out 4 (part_bytes c) → flag ≡ flag_byte c → head ≡ sets parts 0 (0 ∷ c.counter ∷ (end - 2) ∷ flag ∷ [])
    → Fronted c out head end
unfolding front_bytes
fronted c out parts head end flag small room e p f h =
    let n : end - 2 ≡ length (part_bytes c) + 2 = omega (arith, e) in
    let is : head ≡ sets out 0 (front_bytes c) =
    h ∙ rw (p, f, n) (head_last out (0 ∷ c.counter ∷ (length (part_bytes c) + 2) ∷ flag_byte c ∷ []) (part_bytes c) 4 refl (omega (arith, small, room))) in
    let ends : end ≡ length (front_bytes c) = omega (arith, e, front_length c) in
    let within : end ≤ 253 = omega (arith, e, small) in
    record {
      is = is;
      ends = ends;
      within = within;
      long = omega (arith, ap length is ∙ length-sets out 0 (front_bytes c), room);
      back = ap (take end) is ∙ take_front out (front_bytes c) end (sym ends) (omega (arith, within, room));
    }

-- ---- the call

abbrev Outcome : Contents → List ℕ → ℕ → ℕ → List ℕ → Type 0
Outcome c out number written left = (done number written ≡ write_done c (length out)) × (left ≡ write_out c out)

module _ (c : Contents) (out : List ℕ) where
  pub write_29 : readable c ≡ false → Outcome c out 29 0 out
  unfolding write_done write_out write_number contents_number
  write_29 e = rw e (told_refused 29 (encode c) out (λ z. omega (arith, z)))

  module _ (f : readable c ≡ true) (size : ℕ) (l : size ≡ length (encode c)) where
    pub write_12 : length out < size → Outcome c out 12 0 out
    unfolding write_done write_out write_number contents_number
    write_12 h = rw f (told_short 0 (encode c) out refl (omega arith))

    pub write_0 : size ≤ length out → Outcome c out 0 size (over (encode c) out)
    unfolding write_done write_out write_number contents_number
    write_0 h = rw (l, f) (told_ok 0 (encode c) out refl (omega arith))
