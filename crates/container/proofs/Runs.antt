-- Laws of a run of fingerprints: what a loop over it keeps.
use Prim.Native.Nat.{ℕ, zero, suc, ◌+◌, ◌-◌, ◌≤◌, ◌<◌}
use mathlib.Core.List.{List, [], ◌∷◌, ◌++◌, append_assoc, append-nil}
use mathlib.Core.Path.{◌≡◌, refl, ap, sym, ◌∙◌}
use Rattle.std.specs.Prelude.{Option, None, Some, true, false}
use Rattle.std.specs.Option.{option_map}
use native.Mathlib.Nat.{le_of_lt, sub-zero, add-zero, zero-add, add_assoc}
use native.Mathlib.Numerals.{add-one}
use native.Mathlib.Omega.{arith}
use lib.ListN.{length, get_or, set, take, drop, replicate, length-append}
use lib.Seq.{take-suc, take_at, drop-drop, drop-cons, set_at, append_snoc, length-take-le}
use Rattle.container.specs.declared.Print.{Print}
use Rattle.container.specs.declared.PrintPart.{PrintPart}
use Rattle.container.specs.Parts.{with_part, print_part, Run, run_of, then, audio_of}
use Rattle.container.proofs.Parts.{some_is, first_of}
use Rattle.container.specs.Contents.{blank_print, blanks, same_count}

-- one element more of a copy of s over the front of z
pub fill_step : {A : Type 0} (d : A) (z s : List A) (i : ℕ) (x : A) → i < length z → i < length s → x ≡ get_or s i d
    → set (take i s ++ drop i z) i x ≡ take (i + 1) s ++ drop (i + 1) z
fill_step d z s i x hz hs e =
    rw (e, add-one, drop-cons z i d, take-suc s i d)
    (set_at (take i s) (get_or z i d) (drop (suc i) z) (get_or s i d) i (length-take-le i s (le_of_lt hs))
    ∙ sym (append_snoc (take i s) (get_or s i d) (drop (suc i) z)))

pub run_length : (rate n : ℕ) (b : List ℕ) (r : Run) → run_of rate n b ≡ Some r → length r.list ≡ n
unfolding run_of
run_length rate zero b r e = rw (sym (some_is _ r e)) refl
run_length rate (suc n) b r e =
    let q = first_of rate n b r e in
    rw q.whole (ap suc (run_length rate n (drop q.first.used b) q.rest q.rest_is))

-- a run behind the fingerprints ps, of p bytes
abbrev pub behind : List Print → ℕ → Run → Run
behind ps p r = record { used = p + r.used; list = ps ++ r.list }

-- of n fingerprints ps are read, and p bytes passed: what is left of the run
abbrev pub Going : ℕ → ℕ → List ℕ → List Print → ℕ → Type 0
Going rate n b ps p = run_of rate n b ≡ option_map (behind ps p) (run_of rate (n - length ps) (drop p b))

pub going_start : (rate n : ℕ) (b : List ℕ) → Going rate n b [] 0
going_start rate n b = rw sub-zero (sym (go (run_of rate n b)))
  where
    go : (o : Option Run) → option_map (behind [] 0) o ≡ o
    go None = refl
    go (Some r) = rw zero-add

behind_then : (ps : List Print) (p : ℕ) (q : PrintPart) (o : Option Run) → option_map (behind ps p) (option_map (then q) o) ≡ option_map (behind (ps ++ q.print ∷ []) (p + q.used)) o
behind_then ps p q None = refl
behind_then ps p q (Some r) = rw (append_assoc, add_assoc)

module _ (rate n : ℕ) (b : List ℕ) (ps : List Print) (p : ℕ) (g : Going rate n b ps p) where
  module _ (h : length ps < n) where
    next : run_of rate (n - length ps) (drop p b) ≡ with_part (print_part rate (drop p b)) None (λ q. option_map (then q) (run_of rate (n - (length ps + 1)) (drop q.used (drop p b))))
    unfolding run_of
    next = let e : n - length ps ≡ suc (n - (length ps + 1)) = omega arith in rw e

    pub going_bad : print_part rate (drop p b) ≡ None → run_of rate n b ≡ None
    going_bad e = g ∙ rw (next, e)

    pub going_step : (q : PrintPart) → print_part rate (drop p b) ≡ Some q → Going rate n b (ps ++ q.print ∷ []) (p + q.used)
    going_step q e =
        let l : length (ps ++ q.print ∷ []) ≡ length ps + 1 = length-append ps (q.print ∷ []) in
        g ∙ rw (next, e, l) (behind_then ps p q (run_of rate (n - (length ps + 1)) (drop q.used (drop p b))) ∙ rw drop-drop)

  -- a run that is read to its end
  pub going_end : n ≤ length ps → run_of rate n b ≡ Some (record { used = p; list = ps })
  unfolding run_of
  going_end h = let e : n - length ps ≡ 0 = omega arith in g ∙ rw (e, add-zero, append-nil)

-- k fingerprints of n are read into the first of the places, and p bytes passed
pub record Filled (rate n : ℕ) (b : List ℕ) (k p : ℕ) (places : List Print) : Type 0 where
  pub prints : List Print
  pub many : length prints ≡ k
  pub going : Going rate n b prints p
  pub filled : places ≡ prints ++ blanks k

pub filled_start : (rate n : ℕ) (b : List ℕ) → Filled rate n b 0 0 (replicate 32 blank_print)
filled_start rate n b = record { prints = []; many = refl; going = going_start rate n b; filled = refl }

fill_next : (ps : List Print) (k : ℕ) (x : Print) → length ps ≡ k → k < 32 → set (ps ++ blanks k) k x ≡ (ps ++ x ∷ []) ++ blanks (k + 1)
fill_next ps k x e h =
    rw (drop-cons (replicate 32 blank_print) k blank_print h, add-one)
    (set_at ps (get_or (replicate 32 blank_print) k blank_print) (blanks (suc k)) x k e ∙ sym (append_snoc ps x (blanks (suc k))))

module _ (rate n : ℕ) (b : List ℕ) (k p : ℕ) (places : List Print) (g : Filled rate n b k p places) where
  module _ (h : k < n) where
    within : length g.prints < n
    within = omega (arith, g.many)

    pub filled_bad : print_part rate (drop p b) ≡ None → audio_of n (run_of rate n b) ≡ None
    unfolding audio_of
    filled_bad e = rw (going_bad rate n b g.prints p g.going within e)

    pub filled_next : n ≤ 32 → (q : PrintPart) → print_part rate (drop p b) ≡ Some q → Filled rate n b (k + 1) (p + q.used) (set places k q.print)
    filled_next m q e = record {
      prints = g.prints ++ q.print ∷ [];
      many = length-append g.prints (q.print ∷ []) ∙ omega (arith, g.many);
      going = going_step rate n b g.prints p g.going within q e;
      filled = ap (λ l. set l k q.print) g.filled ∙ fill_next g.prints k q.print g.many (omega arith);
    }

  module _ (h : k ≡ n) where
    ended : run_of rate n b ≡ Some (record { used = p; list = g.prints })
    ended = going_end rate n b g.prints p g.going (omega (arith, g.many))

    front : take n places ≡ g.prints
    front = ap (take n) g.filled ∙ take_at g.prints (blanks k) n (g.many ∙ h)

    pub filled_unlike : same_count (take n places) ≡ false → audio_of n (run_of rate n b) ≡ None
    unfolding audio_of
    filled_unlike e = rw (ended, rw front at e)

    pub filled_same : same_count (take n places) ≡ true → audio_of n (run_of rate n b) ≡ Some (record { used = p + 1; count = n; prints = places })
    unfolding audio_of
    filled_same e = rw (ended, rw front at e, g.filled, h)
