-- How many bytes an accepted container has at most, and that what is written are bytes.
use Prim.Native.Nat.{ℕ, zero, suc, ◌+◌, ◌*◌, ◌/◌, ◌%◌, ◌≤◌, ◌<◌}
use mathlib.Core.List.{List, [], ◌∷◌, ◌++◌}
use mathlib.Core.Path.{◌≡◌, refl, ap}
use mathlib.Core.Bool.{Bool, true, false}
use native.Mathlib.Omega.{arith}
use lib.ListN.{length, get_or, take, drop, length-append, length-drop, length-replicate}
use lib.Seq.{length-take-le}
use lib.Dec.{leb, eqb}
use borrow.Author.Tests.{leb-true}
use Rattle.laws.specs.Bytes.{Bytes}
use Rattle.laws.specs.Sums.{sum}
use Rattle.laws.proofs.Bytes.{bytes_nil, bytes_cons, bytes_append, bytes_take, bytes_drop}
use Rattle.laws.proofs.Tests.{both, chosen}
use Rattle.laws.specs.declared.Video.{Video}
use Rattle.laws.specs.declared.Video.TheVariants.{Absent, One, Two}
use Rattle.container.specs.declared.Print.{Print}
use Rattle.std.specs.Prelude.{Option}
use Rattle.std.specs.Option.{IfSome}
use Rattle.container.specs.declared.IdPart.{IdPart}
use Rattle.container.specs.declared.AudioPart.{AudioPart}
use Rattle.container.specs.declared.Contents.{Contents}
use Rattle.container.specs.Bytes.{id_bytes, video_bytes, print_bytes, run_bytes, audio_bytes, part_bytes, flag_byte, front_bytes, check_byte, encode}
use Rattle.container.specs.Parts.{id_part, audio_part}
use Rattle.container.specs.Reading.{id_in, audio_in, middle, reading}
use Rattle.container.specs.Writing.{print_readable, prints_readable, readable}
use Rattle.container.proofs.Parts.{of_part, audio_cases, count_in}
use Rattle.container.proofs.Runs.{run_length}
use Rattle.container.proofs.Readable.{passes, print_fits, readable_fits}
use Rattle.container.proofs.Bytes.{Shaped, encode_length, sized, at_most_254}
use Rattle.container_laws.specs.Typed.{TypedPrint, TypedPrints, TypedVideo, Typed}
use Rattle.container_laws.proofs.Back.{accepted_is, written_again}
use Rattle.container_laws.proofs.Gives.{middle_bytes, reading_readable}
use Rattle.container_laws.proofs.There.{id_flag, video_flag_lem, audio_flag_lem}

-- ---- what was read has arrays of the lengths that the types give, and is as long as its parts

id_20 : (flag : ℕ) (b : List ℕ) → IfSome (id_part flag b) (λ p. length p.id ≡ 20)
unfolding id_part
id_20 flag b =
    let P : Option IdPart → Type 0 = λ o. IfSome o (λ p. length p.id ≡ 20) in
    chosen P (eqb flag 0) _ _ (λ _. refl)
    (λ _. chosen P (leb 21 (length b)) _ _
    (λ l. chosen P (eqb (get_or b 0 0) 0) _ _ (λ _. length-take-le 20 (drop 1 b) (rw length-drop (omega (arith, leb-true 21 (length b) l)))) (λ _. tt))
    (λ _. tt))

prints_32 : (flag rate : ℕ) (b : List ℕ) → Bytes b → IfSome (audio_part flag rate b) (λ p. length p.prints ≡ 32)
prints_32 flag rate b s =
    let P : Option AudioPart → Type 0 = λ o. IfSome o (λ p. length p.prints ≡ 32) in
    audio_cases P flag rate b (λ _. refl) tt
    (λ a. let l = run_length rate (count_in b) (drop 1 b) a.run a.run_is in simp (length-append, length-drop, length-replicate, l) (omega (arith, s 0)))

pub reading_shaped : (s : List ℕ) → Bytes s → (reading s).number ≡ 0 → Shaped (reading s).contents
reading_shaped s small e =
    let a = accepted_is s e in
    let flags = get_or s 3 0 in
    let b = middle s in
    let r = a.parts in
    let past = r.id.used + r.video.used in
    rw a.says (record {
      id = of_part (λ (p : IdPart). length p.id ≡ 20) (id_in flags b) r.id r.id_is (id_20 (flags / 4 % 2) b);
      prints =
          of_part (λ (p : AudioPart). length p.prints ≡ 32) (audio_in flags past b) r.audio r.audio_is
          (prints_32 (flags % 2) (flags / 16) (drop past b) (bytes_drop past b (middle_bytes s small)));
    })

pub accepted_sized : (s : List ℕ) → Bytes s → (reading s).number ≡ 0 → (5 ≤ length s) × (length s ≤ 254)
accepted_sized s small e =
    let c : Contents = (reading s).contents in
    let h = reading_shaped s small e in
    let same = ap length (written_again s small e) in (
      omega (arith, same, encode_length c),
      omega (arith, same, at_most_254 c (sized c h (readable_fits c h.prints (reading_readable s small e)))),
    )

-- ---- what is written are bytes

id_bytes_lem : (present : Bool) (id : List ℕ) → Bytes id → Bytes (id_bytes present id)
unfolding id_bytes
id_bytes_lem true id b = bytes_cons 0 id (omega arith) b
id_bytes_lem false id b = bytes_nil

video_bytes_lem : (v : Video) → TypedVideo v → Bytes (video_bytes v)
unfolding video_bytes TypedVideo
video_bytes_lem Absent t = bytes_nil
video_bytes_lem (One a) t = bytes_cons 0x09 (a ∷ []) (omega arith) (bytes_cons a [] t bytes_nil)
video_bytes_lem (Two a b) t = bytes_cons 0x11 (a ∷ b ∷ []) (omega arith) (bytes_cons a (b ∷ []) t.0 (bytes_cons b [] t.1 bytes_nil))

print_bytes_lem : (rate : ℕ) (p : Print) → TypedPrint p → print_readable rate p ≡ true → Bytes (print_bytes p)
unfolding print_bytes
print_bytes_lem rate p t e =
    let f = print_fits rate p e in
    let id = f.id in
    let mix = f.mix in
    let five = f.five in
    let xs : List ℕ = take p.size p.bytes in
    bytes_cons (p.id * 8 + p.mix) ((p.size * 8) ∷ xs) (omega arith) (bytes_cons (p.size * 8) xs (omega arith) (bytes_take p.size p.bytes t.bytes))

run_bytes_lem : (rate n : ℕ) (ps : List Print) → TypedPrints ps → prints_readable rate n ps ≡ true → Bytes (run_bytes (take n ps))
unfolding run_bytes prints_readable TypedPrints
run_bytes_lem rate zero ps t e = bytes_nil
run_bytes_lem rate (suc n) [] t e = bytes_nil
run_bytes_lem rate (suc n) (p ∷ ps) t e =
    let q = both (print_readable rate p) _ e in
    bytes_append (print_bytes p) (run_bytes (take n ps)) (print_bytes_lem rate p t.0 q.0) (run_bytes_lem rate n ps t.1 q.1)

audio_bytes_lem : (rate n : ℕ) (ps : List Print) → n ≤ 32 → TypedPrints ps → prints_readable rate n ps ≡ true → Bytes (audio_bytes n ps)
unfolding audio_bytes
audio_bytes_lem rate zero ps h t e = bytes_nil
audio_bytes_lem rate (suc n) ps h t e = bytes_cons (n * 8 + 2) (run_bytes (take (suc n) ps)) (omega arith) (run_bytes_lem rate (suc n) ps t e)

flag_small : (c : Contents) → c.rate ≤ 11 → flag_byte c < 256
unfolding flag_byte
flag_small c h = omega (arith, id_flag c.hasid, video_flag_lem c.video, audio_flag_lem c.count)

pub encode_bytes : (c : Contents) → Typed c → readable c ≡ true → Bytes (encode c)
unfolding encode front_bytes part_bytes check_byte
encode_bytes c t e =
    let p = passes c e in
    let f = readable_fits c t.many e in
    let l : length (part_bytes c) ≤ 249 = omega (arith, encode_length c, at_most_254 c (sized c (record { id = t.id_long; prints = t.many }) f)) in
    let I : List ℕ = id_bytes c.hasid c.id in
    let W : List ℕ = video_bytes c.video in
    let A : List ℕ = audio_bytes c.count c.prints in
    let parts : Bytes (part_bytes c) =
    bytes_append (I ++ W) A (bytes_append I W (id_bytes_lem c.hasid c.id t.id) (video_bytes_lem c.video t.video))
    (audio_bytes_lem c.rate c.count c.prints p.many t.prints p.prints) in
    let b : List ℕ = part_bytes c in
    let n : ℕ = length b + 2 in
    let z : ℕ = check_byte (sum (front_bytes c)) in
    let front : Bytes (front_bytes c) =
    bytes_cons 0 (c.counter ∷ n ∷ flag_byte c ∷ b) (omega arith)
    (bytes_cons c.counter (n ∷ flag_byte c ∷ b) t.counter
    (bytes_cons n (flag_byte c ∷ b) (omega arith)
    (bytes_cons (flag_byte c) b (flag_small c f.rate) parts))) in
    bytes_append (front_bytes c) (z ∷ []) front (bytes_cons z [] (omega arith) bytes_nil)
