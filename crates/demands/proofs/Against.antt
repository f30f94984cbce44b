-- What the demands say of any program, and what a constant container and the first one repeated answer in the run of Shots at 24 Hz.
use Prim.Native.Nat.{ℕ, zero, suc, ◌%◌, ◌<◌}
use mathlib.Core.Path.{◌≡◌, refl, sym, ap, subst, ◌∙◌}
use mathlib.Core.Bool.{true}
use mathlib.Core.List.{List, [], ◌∷◌}
use native.Mathlib.Omega.{arith}
use lib.ListN.{get_or}
use borrow.Author.Tests.{eq-eqb}
use Rattle.laws.proofs.Tests.{held}
use Rattle.laws.proofs.Bytes.{bytes_nil}
use Rattle.container.specs.declared.Contents.{Contents}
use Rattle.container.specs.Reading.{Reading}
use Rattle.container.specs.Contents.{blank_print}
use Rattle.container.specs.Reading.{reading}
use Rattle.demands.specs.Calls.{Setup, Call, pack, Answer, saying, Event}
use Rattle.demands.specs.Paper.{made, contents_said, said, said_empty, accepted, paper, Program, transcript}
use Rattle.demands.specs.Demands.{Every, read_again, BitsRight, Demand2, Demand3}
use Rattle.demands.specs.Programs.{Throughout, RightNumbers, bytes_in, Speaks, SpeaksAlways, PacksAlways, newest_at, newest, Repeats}
use Rattle.demands.proofs.Listed.{listed}
use Rattle.demands.proofs.Bits.{said_back}
use Rattle.demands.proofs.Demand2.{demand_2}
use Rattle.demands.proofs.Demand3.{demand_3}
use Rattle.demands.proofs.Story.{hd, Follows, room, rows, paper_is}
use Rattle.demands.proofs.Shots.{dark, monos, first, second, third, u, is_accepted, at_1, at_2, at_3, packs_1, packs_2, packs_3, audio_1}

-- ---- What demand 2 says of a program, call by call

newest_answer : List Event → Answer
newest_answer [] = saying 0
newest_answer (e ∷ es) = e.answer

module _ (p : Program) (d : Demand2 p) where
  pub meets : (v : Setup) (cs : List Call) (c : Call) → p v (transcript p v cs) c ≡ paper v (transcript p v cs) c
  unfolding transcript newest_answer
  meets v cs c = ap newest_answer (d v (c ∷ cs)) ∙ ap (λ (es : List Event). paper v es c) (sym (d v cs))

  pub as_said : (v : Setup) → accepted v ≡ true → (cs : List Call) (c : Call) → p v (transcript p v cs) c ≡ said v (transcript p v cs) c
  as_said v a cs c = meets v cs c ∙ paper_is v a (transcript p v cs) c

  pub right_numbers : RightNumbers p
  right_numbers v cs c = ap (λ (x : Answer). x.number) (meets v cs c)

  pub follows : {rule rate : ℕ} {mixes : List ℕ} → accepted (hd rule rate mixes) ≡ true → Follows rule rate mixes p
  follows {rule} {rate} {mixes} a = record { accepts = a; numbers = right_numbers (hd rule rate mixes) }

  -- demand 2 has demand 3 in it: document 01's bits are right
  pub bits_too : Demand3 p
  bits_too v a cs = subst (Every (BitsRight v)) (demand_2 v cs ∙ sym (d v cs)) (demand_3 v a cs)

  -- the first container and the second are not the same: "grows by one per container"
  pub counts : read_again (p u (transcript p u (first 1)) (pack [] room)) ≡ read_again (p u (transcript p u (second 1)) (pack [] room)) → ⊥
  unfolding contents_said
  counts e =
      let g = follows is_accepted in
      let one = back (first 1) (packs_1 g) in
      let two = back (second 1) (packs_2 g) in
      let z : made (transcript p u (first 1)) % 256 ≡ made (transcript p u (second 1)) % 256 = ap (λ (r : Reading). r.contents.counter) (sym one ∙ (e ∙ two)) in
      omega (arith, (at_1 g).packed, (at_2 g).packed)
    where
      back : (cs : List Call) → (p u (transcript p u cs) (pack [] room)).number ≡ 0
          → read_again (p u (transcript p u cs) (pack [] room)) ≡ record { number = 0; contents = contents_said u (transcript p u cs) [] }
      back cs z =
          let a = as_said u is_accepted cs (pack [] room) in
          ap read_again a ∙ said_back u (listed u is_accepted) (transcript p u cs) [] room bytes_nil (sym (ap (λ (x : Answer). x.number) a) ∙ z)

-- and a program that gives all of document 01's numbers gives them in the run
pub followed : (p : Program) → RightNumbers p → Follows 1 3 (monos 1) p
followed p n = record { accepts = is_accepted; numbers = n u }

-- what is packed was set up
pub set_up : (u : Setup) (es : List Event) (id out : List ℕ) → (paper u es (pack id out)).number ≡ 0 → accepted u ≡ true
unfolding paper said_empty
set_up u es id out z =
    (held (λ (a : Answer). a.number ≡ 0) (accepted u) (said u es (pack id out)) (said_empty (pack id out)) z (λ e. omega arith)).0

-- ---- A constant container, and the first one repeated

-- what the first fingerprint of a container says, whatever it is
abbrev pub spoken : Contents → ℕ → ℕ
spoken c i = get_or (get_or c.prints 0 blank_print).bytes i 0

pub speaks : (c : Contents) → 0 < c.count → Speaks (spoken c) c
speaks c some = record { some = some; bytes = λ i _. refl }

-- a container packed always says the same always
module _ (p : Program) (bytes : Setup → List ℕ) (k : PacksAlways bytes p) where
  pub reads_same : Throughout p (λ v es. (id out : List ℕ) → (p v es (pack id out)).number ≡ 0 → read_again (p v es (pack id out)) ≡ reading (bytes v))
  unfolding read_again
  reads_same v cs id out z = ap reading (k v cs id out z)

  pub speaks_same : RightNumbers p → ((v : Setup) → accepted v ≡ true → 0 < (reading (bytes v)).contents.count)
      → SpeaksAlways (λ v. spoken (reading (bytes v)).contents) p
  speaks_same n some v cs id out _ _ z =
      rw (reads_same v cs id out z) (speaks (reading (bytes v)).contents (some v (set_up v (transcript p v cs) id out (sym (n v cs (pack id out)) ∙ z))))

module _ (p : Program) where
  newest_rows : (b : List ℕ) (k : ℕ) (cs : List Call) → newest (transcript p u (rows b k cs)) ≡ newest (transcript p u cs)
  unfolding rows transcript newest newest_at
  newest_rows b zero cs = refl
  newest_rows b (suc k) cs = newest_rows b k cs

  newest_packed : (cs : List Call) → (p u (transcript p u cs) (pack [] room)).number ≡ 0
      → newest (transcript p u (pack [] room ∷ cs)) ≡ bytes_in (p u (transcript p u cs) (pack [] room))
  unfolding transcript newest newest_at
  newest_packed cs z = rw (eq-eqb (p u (transcript p u cs) (pack [] room)).number 0 z) refl

-- "one that works until the first container and then repeats it", while its numbers are right
module _ (p : Program) (r : Repeats p) (g : Follows 1 3 (monos 1) p) where
  abbrev pub answer : List Call → Answer
  answer cs = p u (transcript p u cs) (pack [] room)

  -- black frames after the first container: the next is the newest
  after : (cs : List Call) → (answer cs).number ≡ 0 → (made (transcript p u (rows dark 16 (pack [] room ∷ cs))) ≡ 0 → ⊥)
      → (answer (rows dark 16 (pack [] room ∷ cs))).number ≡ 0 → bytes_in (answer (rows dark 16 (pack [] room ∷ cs))) ≡ bytes_in (answer cs)
  after cs z m z' =
      r.repeats u (rows dark 16 (pack [] room ∷ cs)) [] room m z' ∙ (newest_rows p dark 16 (pack [] room ∷ cs) ∙ newest_packed p cs z)

  second_bytes : bytes_in (answer (second 1)) ≡ bytes_in (answer (first 1))
  unfolding second
  second_bytes = after (first 1) (packs_1 g) (λ m. omega (arith, (at_2 g).packed)) (packs_2 g)

  pub second_is_first : read_again (answer (second 1)) ≡ read_again (answer (first 1))
  unfolding read_again
  second_is_first = ap reading second_bytes

  pub third_is_first : read_again (answer (third 1)) ≡ read_again (answer (first 1))
  unfolding read_again third
  third_is_first = ap reading (after (second 1) (packs_2 g) (λ m. omega (arith, (at_3 g).packed)) (packs_3 g) ∙ second_bytes)

  -- the first is as document 01 says, with audio
  first_works : answer (first 1) ≡ said u (transcript p u (first 1)) (pack [] room)
  first_works = r.works u (first 1) (pack [] room) (at_1 g).packed ∙ paper_is u is_accepted (transcript p u (first 1)) (pack [] room)

  pub first_some : 0 < (read_again (answer (first 1))).contents.count
  unfolding contents_said
  first_some =
      let e = ap read_again first_works
      ∙ said_back u (listed u is_accepted) (transcript p u (first 1)) [] room bytes_nil (sym (ap (λ (a : Answer). a.number) first_works) ∙ packs_1 g) in
      rw (e, audio_1 g) (omega arith)
