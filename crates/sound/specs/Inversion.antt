-- What 000, 5.3.2 does to the sixteen bits of a sample. 01 says it of the number (`Mix.pseudo_absolute`); that the two are one is `proofs.Meaning.clause_is`.
use Rattle.std.specs.Prelude.{ℕ, zero, suc, ◌+◌, ◌-◌, ◌*◌, ◌/◌, ◌%◌, cond, eqb}

-- "inverted (one's complement)": the n lowest bits of w, each the other one
unfoldable pub inverted : ℕ → ℕ → ℕ
inverted zero w = 0
inverted (suc n) w = (1 - w % 2) + 2 * inverted n (w / 2)

-- "the 16 bits of the audio sample shall be inverted (one's complement) if the most significant bit is '1' and shall not be inverted if the most significant bit is '0'"
unfoldable pub pseudo_absolute_of_bits : ℕ → ℕ
pseudo_absolute_of_bits w = cond (eqb (w / 32768) 1) (inverted 16 w) w
