-- The tests of the counts are what 02's A2 says of them, and so are the counts of what is accepted and of what is written.
use Prim.Native.Nat.{ℕ, zero, suc, ◌≤◌, ◌<◌}
use mathlib.Core.Path.{◌≡◌, refl, sym, ◌∙◌}
use mathlib.Core.List.{List, [], ◌∷◌}
use mathlib.Core.Bool.{Bool, true, ◌&&◌}
use mathlib.Core.Logic.{◌↔◌}
use native.Mathlib.Omega.{arith}
use native.Mathlib.Nat.{not-suc-le-zero, le_of_suc-le-suc}
use lib.Dec.{eqb}
use lib.ListN.{length, take}
use borrow.Author.Tests.{eqb-true, eq-eqb}
use Rattle.laws.specs.Bytes.{Bytes}
use Rattle.laws.specs.Calls.{over, room_number, done_with}
use Rattle.laws.specs.Lists.{is_one_of}
use Rattle.laws.specs.Sums.{sum}
use Rattle.laws.proofs.Calls.{told_zero}
use Rattle.laws.proofs.Tests.{both, below, at_below}
use Rattle.rates.specs.Rates.{rate_listed}
use Rattle.rates.specs.Mixes.{mix_listed}
use Rattle.rates.specs.Cadence.{cadences, cadence, count_occurs, frames, from}
use Rattle.rates.proofs.Table.{listed_below, at_listed, occurs_is}
use Rattle.container.specs.declared.Print.{Print}
use Rattle.container.specs.declared.Contents.{Contents}
use Rattle.container.specs.Contents.{all_carry, same_count}
use Rattle.container.specs.Bytes.{id_bytes, video_bytes, print_bytes, run_bytes, audio_bytes, part_bytes, flag_byte, front_bytes, check_byte, encode}
use Rattle.container.specs.Parts.{id_part, video_part, print_part, print_at, run_of, audio_of, audio_part}
use Rattle.container.specs.Reading.{header_number, parts_reading, middle, reading}
use Rattle.container.specs.Writing.{all_zero, id_readable, video_readable, print_readable, print_blank, prints_readable, readable, contents_number, write_number, write_done}
use Rattle.container.proofs.Readable.{same_first, print_occurs, each_readable, passes}
use Rattle.container_laws.specs.Typed.{Typed}
use Rattle.container_laws.specs.Counts.{count_of, OneCount, Counted, pair_of, unless_counted, PairTold}
use Rattle.container_laws.proofs.Gives.{reading_readable}
use Rattle.container_laws.proofs.Sizes.{reading_shaped}
use Rattle.container_laws.proofs.Container.{passed}

carried : (m n : ℕ) (ps : List Print) → n ≤ length ps → all_carry m (take n ps) ≡ true → (k : ℕ) → k < n → count_of ps k ≡ m
unfolding all_carry
carried m zero ps l e k h = absurd (not-suc-le-zero h)
carried m (suc n) [] l e k h = absurd (not-suc-le-zero l)
carried m (suc n) (p ∷ ps) l e zero h = eqb-true p.size m (both (eqb p.size m) _ e).0
carried m (suc n) (p ∷ ps) l e (suc k) h = carried m n ps (le_of_suc-le-suc l) (both (eqb p.size m) _ e).1 k (le_of_suc-le-suc h)

carry : (m n : ℕ) (ps : List Print) → ((k : ℕ) → k < n → count_of ps k ≡ m) → all_carry m (take n ps) ≡ true
unfolding all_carry
carry m zero ps f = refl
carry m (suc n) [] f = refl
carry m (suc n) (p ∷ ps) f = rw (eq-eqb p.size m (f 0 (omega arith))) (carry m n ps (λ k h. f (suc k) (omega (arith, h))))

pub one_count_is : (n : ℕ) (ps : List Print) → n ≤ length ps → (same_count (take n ps) ≡ true) ↔ OneCount n ps
one_count_is n ps l = (
  λ e. let c = carried (count_of ps 0) n ps l (sym (same_first n ps) ∙ e) in record { same = λ j k hj hk. c j hj ∙ sym (c k hk) },
  λ o. same_first n ps ∙ carry (count_of ps 0) n ps (λ k h. o.same k 0 h (omega (arith, h))),
)

counted : (c : Contents) → length c.prints ≡ 32 → readable c ≡ true → Counted c
counted c l e =
    let p = passes c e in
    let many : c.count ≤ length c.prints = omega (arith, p.many) in
    record {
      one = (one_count_is c.count c.prints many).0 p.counts;
      occurs = λ k h. (occurs_is c.rate _).0 (print_occurs c.rate _ (each_readable c.rate c.count c.prints many p.prints k h));
    }

-- what is accepted
pub accepted_counted : (s : List ℕ) → Bytes s → (reading s).number ≡ 0 → Counted (reading s).contents
accepted_counted s b e = counted (reading s).contents (reading_shaped s b e).prints (reading_readable s b e)

-- and what is written
pub written_counted : (c : Contents) (room : ℕ) → Typed c → (write_done c room).number ≡ 0 → Counted c
unfolding write_done done_with write_number
written_counted c room t e = counted c t.many (passed c (told_zero (contents_number c) (encode c) room e).0)

-- ---- at each rate each pair of counts to 5, read and written: one computed test

abbrev pair_told : ℕ → ℕ → ℕ → Bool
pair_told rate m n =
    eqb (reading (encode (pair_of rate m n))).number (unless_counted rate m n 27)
    && eqb (write_done (pair_of rate m n) 254).number (unless_counted rate m n 29)

abbrev pairs_told : ℕ → Bool
pairs_told rate = below (λ m. below (λ n. pair_told rate m n) 6) 6

all_told : listed_below pairs_told ≡ true
unfolding listed_below below rate_listed count_occurs cadence cadences frames from is_one_of mix_listed encode front_bytes part_bytes id_bytes video_bytes audio_bytes run_bytes print_bytes flag_byte check_byte sum reading header_number parts_reading middle id_part video_part audio_part audio_of run_of print_part print_at over same_count all_carry write_done write_number contents_number done_with room_number readable id_readable video_readable prints_readable print_readable print_blank all_zero
all_told = refl

pub each_pair : (rate m n : ℕ) → rate_listed rate ≡ true → m < 6 → n < 6 → PairTold rate m n
each_pair rate m n e hm hn =
    let r = at_below (λ m. below (λ n. pair_told rate m n) 6) 6 m (at_listed pairs_told rate all_told e) hm in
    let q = both _ _ (at_below (λ n. pair_told rate m n) 6 n r hn) in
    record { read = eqb-true _ _ q.0; written = eqb-true _ _ q.1 }
