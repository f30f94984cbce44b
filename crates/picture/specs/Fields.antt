-- A field against the second preceding one (01, "Video"; 02, A1; 000, 5.2.3.1 and 5.2.3.2). A field is a list of 960 bytes.
use Rattle.std.specs.Prelude.{ℕ, ◌+◌, ◌/◌, Bool, true, false, cond, List, [], ◌∷◌, ltb, ℤ, pos, neg_ℤ, ◌-ℤ◌}
use Rattle.std.specs.Int.Signed.{le_z}
use Rattle.picture.specs.declared.Told.{Told}
use Rattle.picture.specs.declared.Told.TheVariants.{Open, Nothing, Value}

-- "the signed difference, current minus older" (02, A1)
unfoldable pub difference : ℕ → ℕ → ℤ
difference current older = pos current -ℤ pos older

-- "a change is still 32 or more either way" (02, A1)
unfoldable pub is_brighter : ℤ → Bool
is_brighter d = le_z (pos 32) d

unfoldable pub is_darker : ℤ → Bool
is_darker d = le_z d (neg_ℤ (pos 32))

-- in how many pixels a field and an older one have a difference that a rule takes
unfoldable pub count_of : (ℤ → Bool) → List ℕ → List ℕ → ℕ
count_of rule [] older = 0
count_of rule (x ∷ field) [] = 0
count_of rule (x ∷ field) (y ∷ older) = cond (rule (difference x y)) 1 0 + count_of rule field older

-- "the two counts" (02, A1)
unfoldable pub brighter_in : List ℕ → List ℕ → ℕ
brighter_in field older = count_of is_brighter field older

unfoldable pub darker_in : List ℕ → List ℕ → ℕ
darker_in field older = count_of is_darker field older

-- "the count of changed pixels divided by 4, rounded down"; "their sum is the count of old" (02, A1)
unfoldable pub fingerprint_of : List ℕ → List ℕ → ℕ
fingerprint_of field older = (brighter_in field older + darker_in field older) / 4

-- "The field's answer carries the two counts beside the fingerprint" (02, A1)
unfoldable pub compared : List ℕ → List ℕ → Told
compared field older = Value (fingerprint_of field older) (brighter_in field older) (darker_in field older)

unfoldable pub compared_values : List ℕ → List ℕ → List ℕ
compared_values field older = fingerprint_of field older ∷ brighter_in field older ∷ darker_in field older ∷ []

-- what the end of a field tells, with so many fields held before it, the second preceding one being given:
-- "The first two fields after setup or video restart have no predecessor and give no fingerprint"
unfoldable pub told_by : ℕ → List ℕ → List ℕ → Told
told_by held field older = cond (ltb held 2) Nothing (compared field older)

-- how many fields are held once one more has ended
unfoldable pub held_after : ℕ → ℕ
held_after held = cond (ltb held 2) (held + 1) 2

-- the papers' values of each case of what a line tells: the fingerprint and the two counts; the fingerprint alone; whether its field ended
unfoldable pub told_values : Told → List ℕ
told_values Open = []
told_values Nothing = []
told_values (Value fingerprint brighter darker) = fingerprint ∷ brighter ∷ darker ∷ []

unfoldable pub told_fingerprint : Told → List ℕ
told_fingerprint Open = []
told_fingerprint Nothing = []
told_fingerprint (Value fingerprint brighter darker) = fingerprint ∷ []

unfoldable pub told_ended : Told → Bool
told_ended Open = false
told_ended Nothing = true
told_ended (Value fingerprint brighter darker) = true

-- 01's number and values of what Line answers: "The line that ends a field also tells its fingerprint, or that it has none"
pub record Says : Type 0 where
  pub number : ℕ
  pub ended : Bool
  pub values : List ℕ

abbrev pub says_of : ℕ → Told → Says
says_of number told = record { number = number; ended = told_ended told; values = told_values told }
