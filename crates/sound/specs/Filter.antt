-- The two filters and the bit (01, Audio; 000, 5.3.3 to 5.3.5). A history is a list of a(i), the newest first, sample 0 last.
use Rattle.std.specs.Prelude.{ℕ, ◌+◌, ◌-◌, ◌*◌, ◌/◌, List, [], ◌∷◌, cond, ltb}

-- A filter's next value after v and the sample a, with divisor k and gain g: "g a(i) + v - floor(v / k)"
unfoldable pub filter_next : ℕ → ℕ → ℕ → ℕ → ℕ
filter_next k g v a = g * a + (v - v / k)

-- "E(i) = 8a(i) + E(i-1) - floor(E(i-1)/1024)"
abbrev pub envelope_next : ℕ → ℕ → ℕ
envelope_next e a = filter_next 1024 8 e a

-- "M(i) = a(i) + M(i-1) - floor(M(i-1)/8192)"
abbrev pub mean_next : ℕ → ℕ → ℕ
mean_next m a = filter_next 8192 1 m a

-- The value after a history: "E(0) = M(0) = 0; sample 0 enters neither filter"
unfoldable pub filtered : ℕ → ℕ → List ℕ → ℕ
filtered k g [] = 0
filtered k g (a ∷ []) = 0
filtered k g (a ∷ (b ∷ h)) = filter_next k g (filtered k g (b ∷ h)) a

abbrev pub envelope_after : List ℕ → ℕ
envelope_after h = filtered 1024 8 h

abbrev pub mean_after : List ℕ → ℕ
mean_after h = filtered 8192 1 h

-- "The bit is 1 if M(i) < E(i), else 0": the bit of the newest sample of a history
unfoldable pub bit_of : List ℕ → ℕ
bit_of h = cond (ltb (mean_after h) (envelope_after h)) 1 0
