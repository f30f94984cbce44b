-- What the register tells of the bytes: over bytes and their own register it ends at zero, over bytes and any other four it does not, and one byte
-- overwritten by another leaves another register.
use Prim.Native.Nat.{ℕ, suc, ◌+◌, ◌-◌, ◌*◌, ◌/◌, ◌%◌, ◌^◌, ◌<◌, ◌≤◌}
use mathlib.Core.Path.{◌≡◌, sym, ap, ap₂, ◌∙◌}
use mathlib.Core.List.{List, [], ◌∷◌, ◌++◌}
use native.Mathlib.Omega.{arith}
use lib.Bits.{bit_xor, xor_self, xor_zero_r}
use lib.ListN.{length, get_or, take, drop, set, take-append-drop, length-drop}
use lib.Seq.{set_split, split_at}
use Rattle.laws.specs.Bytes.{Bytes}
use Rattle.laws.proofs.Bytes.{bytes_drop}
use Rattle.transport.specs.Register.{bit_step, bits_step, byte_step, run, register_of, four_bytes}
use Rattle.transport.proofs.Bytewise.{byte_lt, one_register, one_byte, parted, run_append, register_lt}

-- bytes that lead two registers to one place started from one
pub run_one : (r s : ℕ) (l : List ℕ) → r < 2 ^ 32 → s < 2 ^ 32 → run r l ≡ run s l → r ≡ s
unfolding run
run_one r s [] h m e = e
run_one r s (b ∷ l) h m e = one_register r s b h m (run_one (byte_step r b) (byte_step s b) l (byte_lt r b h) (byte_lt s b m) e)

-- two lists that differ in one place leave different registers
pub one_place : (p s : List ℕ) (x y : ℕ) → x < 256 → y < 256 → register_of (p ++ (x ∷ s)) ≡ register_of (p ++ (y ∷ s)) → x ≡ y
unfolding register_of run
one_place p s x y h l e =
    one_byte (register_of p) x y (register_lt p) h l
    (run_one (byte_step (register_of p) x) (byte_step (register_of p) y) s (byte_lt _ x (register_lt p)) (byte_lt _ y (register_lt p))
    (sym (run_append 0xFFFF_FFFF p (x ∷ s)) ∙ e ∙ run_append 0xFFFF_FFFF p (y ∷ s)))

-- ---- the register's own bytes

own_byte : (a lo : ℕ) → a < 256 → lo < 2 ^ 24 → byte_step (a * 2 ^ 24 + lo) a ≡ lo * 2 ^ 8
unfolding byte_step bits_step bit_step
own_byte a lo h l = parted a lo a l h ∙ ap (λ (x : ℕ). bit_xor (lo * 2 ^ 8) (byte_step (x * 2 ^ 24) 0)) (xor_self a) ∙ xor_zero_r (lo * 2 ^ 8)

own_bytes : (a b c d : ℕ) → a < 256 → b < 256 → c < 256 → d < 256
    → run (a * 2 ^ 24 + (b * 2 ^ 16 + (c * 2 ^ 8 + d))) (a ∷ b ∷ c ∷ d ∷ []) ≡ 0
unfolding run
own_bytes a b c d ha hb hc hd =
    ap (λ (x : ℕ). byte_step (byte_step (byte_step x b) c) d) (own_byte a (b * 2 ^ 16 + (c * 2 ^ 8 + d)) ha (omega arith) ∙ first)
    ∙ ap (λ (x : ℕ). byte_step (byte_step x c) d) (own_byte b (c * 2 ^ 16 + d * 2 ^ 8) hb (omega arith) ∙ second)
    ∙ ap (λ (x : ℕ). byte_step x d) (own_byte c (d * 2 ^ 16) hc (omega arith) ∙ third)
    ∙ own_byte d 0 hd (omega arith)
  where
    first : (b * 2 ^ 16 + (c * 2 ^ 8 + d)) * 2 ^ 8 ≡ b * 2 ^ 24 + (c * 2 ^ 16 + d * 2 ^ 8)
    first = omega arith

    second : (c * 2 ^ 16 + d * 2 ^ 8) * 2 ^ 8 ≡ c * 2 ^ 24 + d * 2 ^ 16
    second = omega arith

    third : d * 2 ^ 16 * 2 ^ 8 ≡ d * 2 ^ 24 + 0
    third = omega arith

pub closes : (r : ℕ) → r < 2 ^ 32 → run r (four_bytes r) ≡ 0
unfolding four_bytes
closes r h =
    ap (λ (x : ℕ). run x (r / 2 ^ 24 ∷ r / 2 ^ 16 % 256 ∷ r / 2 ^ 8 % 256 ∷ r % 256 ∷ [])) whole
    ∙ own_bytes (r / 2 ^ 24) (r / 2 ^ 16 % 256) (r / 2 ^ 8 % 256) (r % 256) (omega arith) (omega arith) (omega arith) (omega arith)
  where
    whole : r ≡ r / 2 ^ 24 * 2 ^ 24 + (r / 2 ^ 16 % 256 * 2 ^ 16 + (r / 2 ^ 8 % 256 * 2 ^ 8 + r % 256))
    whole = omega arith

-- the register ends at zero over bytes and their register
pub sealed : (s : List ℕ) → register_of (s ++ four_bytes (register_of s)) ≡ 0
unfolding register_of
sealed s = run_append 0xFFFF_FFFF s (four_bytes (register_of s)) ∙ closes (register_of s) (register_lt s)

-- four bytes that end at zero are the register's own
own_only : (r a b c d : ℕ) → r < 2 ^ 32 → a < 256 → b < 256 → c < 256 → d < 256
    → run r (a ∷ b ∷ c ∷ d ∷ []) ≡ 0 → r ≡ a * 2 ^ 24 + (b * 2 ^ 16 + (c * 2 ^ 8 + d))
own_only r a b c d h ha hb hc hd e =
    run_one r (a * 2 ^ 24 + (b * 2 ^ 16 + (c * 2 ^ 8 + d))) (a ∷ b ∷ c ∷ d ∷ []) h (omega arith) (e ∙ sym (own_bytes a b c d ha hb hc hd))

spelled : (a b c d : ℕ) → a < 256 → b < 256 → c < 256 → d < 256
    → a ∷ b ∷ c ∷ d ∷ [] ≡ four_bytes (a * 2 ^ 24 + (b * 2 ^ 16 + (c * 2 ^ 8 + d)))
unfolding four_bytes
spelled a b c d ha hb hc hd = ap₂ ◌∷◌ top (ap₂ ◌∷◌ next (ap₂ ◌∷◌ third (ap (λ (x : ℕ). x ∷ []) last)))
  where
    top : a ≡ (a * 2 ^ 24 + (b * 2 ^ 16 + (c * 2 ^ 8 + d))) / 2 ^ 24
    top = omega arith

    next : b ≡ (a * 2 ^ 24 + (b * 2 ^ 16 + (c * 2 ^ 8 + d))) / 2 ^ 16 % 256
    next = omega arith

    third : c ≡ (a * 2 ^ 24 + (b * 2 ^ 16 + (c * 2 ^ 8 + d))) / 2 ^ 8 % 256
    third = omega arith

    last : d ≡ (a * 2 ^ 24 + (b * 2 ^ 16 + (c * 2 ^ 8 + d))) % 256
    last = omega arith

-- over bytes and four more it ends at zero only where the four are their register
pub seal_one : (s t : List ℕ) → length t ≡ 4 → Bytes t → register_of (s ++ t) ≡ 0 → t ≡ four_bytes (register_of s)
unfolding register_of
seal_one s (a ∷ b ∷ c ∷ d ∷ []) n h e =
    spelled a b c d (h 0) (h 1) (h 2) (h 3)
    ∙ ap four_bytes (sym (own_only (register_of s) a b c d (register_lt s) (h 0) (h 1) (h 2) (h 3)
    (sym (run_append 0xFFFF_FFFF s (a ∷ b ∷ c ∷ d ∷ [])) ∙ e)))
seal_one s [] n h e = absurd (let z : ⊥ = omega arith in z)
seal_one s (a ∷ []) n h e = absurd (let z : ⊥ = omega arith in z)
seal_one s (a ∷ b ∷ []) n h e = absurd (let z : ⊥ = omega arith in z)
seal_one s (a ∷ b ∷ c ∷ []) n h e = absurd (let z : ⊥ = omega arith in z)
seal_one s (a ∷ b ∷ c ∷ d ∷ x ∷ t) n h e = absurd (let z : ⊥ = omega arith in z)

-- a byte overwritten by another is seen in the register
pub one_overwritten : (l : List ℕ) (k x : ℕ) → Bytes l → k < length l → x < 256 → register_of (set l k x) ≡ register_of l → x ≡ get_or l k 0
one_overwritten l k x h m n e =
    one_place (take k l) (drop (suc k) l) x (get_or l k 0) n (h k)
    (ap register_of (sym (set_split l k x m)) ∙ e ∙ ap register_of (split_at l k 0 m))

-- ---- a whole packet

-- bytes over which the register ends at zero are all but the last four, and their register
pub sealed_only : (l : List ℕ) → 4 ≤ length l → Bytes l → register_of l ≡ 0
    → l ≡ take (length l - 4) l ++ four_bytes (register_of (take (length l - 4) l))
sealed_only l h b e =
    let whole : take (length l - 4) l ++ drop (length l - 4) l ≡ l = take-append-drop (length l - 4) l in
    let four : length (drop (length l - 4) l) ≡ 4 = length-drop (length l - 4) l ∙ omega arith in
    sym whole
    ∙ ap (λ (t : List ℕ). take (length l - 4) l ++ t)
    (seal_one (take (length l - 4) l) (drop (length l - 4) l) four (bytes_drop (length l - 4) l b) (ap register_of whole ∙ e))
