-- The words of the printed lines (FEED), in ASCII.
use Rattle.std.specs.Prelude.{ℕ, List, [], ◌∷◌}

-- `setup `
abbrev pub setup : List ℕ
setup = 115 ∷ 101 ∷ 116 ∷ 117 ∷ 112 ∷ 32 ∷ []

-- `line `
abbrev pub line : List ℕ
line = 108 ∷ 105 ∷ 110 ∷ 101 ∷ 32 ∷ []

-- `sound `
abbrev pub sound : List ℕ
sound = 115 ∷ 111 ∷ 117 ∷ 110 ∷ 100 ∷ 32 ∷ []

-- `instant `
abbrev pub instant : List ℕ
instant = 105 ∷ 110 ∷ 115 ∷ 116 ∷ 97 ∷ 110 ∷ 116 ∷ 32 ∷ []

-- ` field `
abbrev pub field : List ℕ
field = 32 ∷ 102 ∷ 105 ∷ 101 ∷ 108 ∷ 100 ∷ 32 ∷ []

-- ` brighter `
abbrev pub brighter : List ℕ
brighter = 32 ∷ 98 ∷ 114 ∷ 105 ∷ 103 ∷ 104 ∷ 116 ∷ 101 ∷ 114 ∷ 32 ∷ []

-- ` darker `
abbrev pub darker : List ℕ
darker = 32 ∷ 100 ∷ 97 ∷ 114 ∷ 107 ∷ 101 ∷ 114 ∷ 32 ∷ []

-- ` field none`
abbrev pub field_none : List ℕ
field_none = 32 ∷ 102 ∷ 105 ∷ 101 ∷ 108 ∷ 100 ∷ 32 ∷ 110 ∷ 111 ∷ 110 ∷ 101 ∷ []

-- `video restart`
abbrev pub video_restart : List ℕ
video_restart = 118 ∷ 105 ∷ 100 ∷ 101 ∷ 111 ∷ 32 ∷ 114 ∷ 101 ∷ 115 ∷ 116 ∷ 97 ∷ 114 ∷ 116 ∷ []

-- `audio restart`
abbrev pub audio_restart : List ℕ
audio_restart = 97 ∷ 117 ∷ 100 ∷ 105 ∷ 111 ∷ 32 ∷ 114 ∷ 101 ∷ 115 ∷ 116 ∷ 97 ∷ 114 ∷ 116 ∷ []

-- `receiver`
abbrev pub receiver : List ℕ
receiver = 114 ∷ 101 ∷ 99 ∷ 101 ∷ 105 ∷ 118 ∷ 101 ∷ 114 ∷ []

-- `arrive `
abbrev pub arrive : List ℕ
arrive = 97 ∷ 114 ∷ 114 ∷ 105 ∷ 118 ∷ 101 ∷ 32 ∷ []

-- `give up`
abbrev pub give_up : List ℕ
give_up = 103 ∷ 105 ∷ 118 ∷ 101 ∷ 32 ∷ 117 ∷ 112 ∷ []

-- ` spilled`
abbrev pub spilled : List ℕ
spilled = 32 ∷ 115 ∷ 112 ∷ 105 ∷ 108 ∷ 108 ∷ 101 ∷ 100 ∷ []

-- `bad record`
abbrev pub bad : List ℕ
bad = 98 ∷ 97 ∷ 100 ∷ 32 ∷ 114 ∷ 101 ∷ 99 ∷ 111 ∷ 114 ∷ 100 ∷ []
