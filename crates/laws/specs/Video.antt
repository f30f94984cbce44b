-- Document 01's values of what is said of video: "one of none, one field or two". Their number is the length of the list.
use Rattle.std.specs.Prelude.{ℕ, List, [], ◌∷◌}
use Rattle.laws.specs.declared.Video.{Video}
use Rattle.laws.specs.declared.Video.TheVariants.{Absent, One, Two}

unfoldable pub video_values : Video → List ℕ
video_values Absent = []
video_values (One a) = a ∷ []
video_values (Two a b) = a ∷ b ∷ []
