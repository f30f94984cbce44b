-- The contents of a container in 283 bytes.
use Rattle.std.specs.Prelude.{ℕ, List, [], ◌∷◌, ◌++◌, cond}
use Rattle.laws.specs.declared.Video.{Video}
use Rattle.laws.specs.declared.Video.TheVariants.{Absent, One, Two}
use Rattle.container.specs.declared.Print.{Print}
use Rattle.container.specs.declared.Contents.{Contents}

-- how many video values there are, and two places for them
unfoldable pub flat_video : Video → List ℕ
flat_video Absent = 0 ∷ 0 ∷ 0 ∷ []
flat_video (One a) = 1 ∷ a ∷ 0 ∷ []
flat_video (Two a b) = 2 ∷ a ∷ b ∷ []

-- ID, mix type, number of bytes, five bytes
unfoldable pub flat_print : Print → List ℕ
flat_print p = p.id ∷ p.mix ∷ p.size ∷ p.bytes

unfoldable pub flat_prints : List Print → List ℕ
flat_prints [] = []
flat_prints (p ∷ ps) = flat_print p ++ flat_prints ps

-- counter; rate code; ID present; the 20 ID bytes; video; number of fingerprints; the 32 places for them
unfoldable pub flat : Contents → List ℕ
flat c = (c.counter ∷ c.rate ∷ cond c.hasid 1 0 ∷ c.id) ++ flat_video c.video ++ (c.count ∷ flat_prints c.prints)
