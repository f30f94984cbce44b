-- The lines of one packet (FEED, `judge`). In ASCII, with the lines' ends.
use Rattle.std.specs.Prelude.{ℕ, List, [], ◌∷◌, ◌++◌, Bool, cond, eqb}
use Rattle.text.specs.Lines.{item, newline}
use Rattle.judging.specs.declared.Faults.{Faults}

-- `packet `
abbrev pub packet : List ℕ
packet = 112 ∷ 97 ∷ 99 ∷ 107 ∷ 101 ∷ 116 ∷ 32 ∷ []

-- ` refused `
abbrev pub refused : List ℕ
refused = 32 ∷ 114 ∷ 101 ∷ 102 ∷ 117 ∷ 115 ∷ 101 ∷ 100 ∷ 32 ∷ []

-- ` counter`, ` rate`, ` count`, ` cadence`, each with the line's end
abbrev pub counter : List ℕ
counter = 32 ∷ 99 ∷ 111 ∷ 117 ∷ 110 ∷ 116 ∷ 101 ∷ 114 ∷ 10 ∷ []

abbrev pub rate : List ℕ
rate = 32 ∷ 114 ∷ 97 ∷ 116 ∷ 101 ∷ 10 ∷ []

abbrev pub count : List ℕ
count = 32 ∷ 99 ∷ 111 ∷ 117 ∷ 110 ∷ 116 ∷ 10 ∷ []

abbrev pub cadence : List ℕ
cadence = 32 ∷ 99 ∷ 97 ∷ 100 ∷ 101 ∷ 110 ∷ 99 ∷ 101 ∷ 10 ∷ []

-- `clean`
abbrev pub clean : List ℕ
clean = 99 ∷ 108 ∷ 101 ∷ 97 ∷ 110 ∷ 10 ∷ []

-- the line of one fault, where packet k has it
unfoldable pub fault_text : Bool → ℕ → List ℕ → List ℕ
fault_text holds k name = cond holds (item packet k ++ name) []

-- `packet P refused N`
unfoldable pub refusal_text : ℕ → ℕ → List ℕ
refusal_text k number = item packet k ++ item refused number ++ newline

-- "Faults of one packet come in the order given here."
unfoldable pub faults_text : ℕ → Faults → List ℕ
faults_text k f =
    cond (eqb f.refused 0)
    (fault_text f.counter k counter ++ fault_text f.rate k rate ++ fault_text f.count k count ++ fault_text f.cadence k cadence)
    (refusal_text k f.refused)
