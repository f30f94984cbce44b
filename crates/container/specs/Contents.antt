-- Contents that say nothing: "absent parts and unused places are zero", and "a refused reading's contents are all zero, with no video" (01); and fingerprints of one count.
use Rattle.std.specs.Prelude.{ℕ, List, [], ◌∷◌, eqb, get_or, drop, replicate, Bool, true, false, ◌&&◌}
use Rattle.container.specs.declared.Print.{Print}
use Rattle.laws.specs.declared.Video.TheVariants.{Absent}
use Rattle.container.specs.declared.Contents.{Contents}

abbrev pub blank_print : Print
blank_print = record { id = 0; mix = 0; size = 0; bytes = replicate 5 0 }

-- "unused places are zero": those of the 32 after the first n
abbrev pub blanks : ℕ → List Print
blanks n = drop n (replicate 32 blank_print)

abbrev pub empty_contents : Contents
empty_contents =
    record {
      counter = 0;
      rate = 0;
      hasid = false;
      id = replicate 20 0;
      video = Absent;
      count = 0;
      prints = replicate 32 blank_print;
    }

-- fingerprints of n bytes each
unfoldable pub all_carry : ℕ → List Print → Bool
all_carry n [] = true
all_carry n (p ∷ ps) = eqb p.size n && all_carry n ps

-- "every fingerprint of a container carries the same count" (02, A2): that of the first
unfoldable pub same_count : List Print → Bool
same_count ps = all_carry (get_or ps 0 blank_print).size ps
