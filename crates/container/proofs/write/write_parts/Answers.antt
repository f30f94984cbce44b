-- `container::write::write_parts` meets its contract: each part from where the one before it ended.
use Prim.Native.Nat.{ℕ, ◌≤◌}
use mathlib.Core.Path.{◌≡◌, ap, ◌∙◌}
use mathlib.Core.List.{List, ◌++◌}
use native.Mathlib.Omega.{arith}
use lib.ListN.{length, take, length-append}
use lib.Seq.{sets}
use Rattle.laws.proofs.Lists.{sets_then}
use Rattle.container.specs.declared.Print.{Print}
use Rattle.container.specs.Bytes.{id_bytes, video_bytes, audio_bytes, part_bytes}
use Rattle.container.proofs.Bytes.{id_at_most, video_at_most, front_fits, audio_front}
use borrow.Author.Rules.{rules}
use Rattle.container.proofs.write.write_parts.Goals as goal
use Rattle.container.proofs.write.write_parts.Goals.{Start}

twenty : (c : goal.Start) → length c.args.c.id ≡ 20
twenty c = search rules

many : (c : goal.Start) → length c.args.c.prints ≡ 32
many c = search rules

within : (c : goal.Start) → c.args.c.count ≤ length c.args.c.prints
within c = omega (arith, c.requires.fits.run.many, many c)

pub write_video-q-requires : goal.write_video-q-requires
write_video-q-requires c =
    omega (arith, c.write_id-p.ensures.0, c.requires.within, id_at_most c.args.c.hasid c.args.c.id (twenty (goal.at.write_video-q-requires c).Start))

pub write_audio-requires-clause-fits : goal.write_audio-requires-clause-fits
write_audio-requires-clause-fits c = let s = (goal.at.write_audio-requires-clause-fits c).Start in rw c.from.ensures (front_fits c.args.c.count c.args.c.prints (within s) c.requires.fits.run)

pub write_audio-requires-clause-within : goal.write_audio-requires-clause-within
write_audio-requires-clause-within c =
    omega (arith, c.write_video-q.ensures.0, c.write_id-p.ensures.0, c.requires.within, id_at_most c.args.c.hasid c.args.c.id (twenty (goal.at.write_audio-requires-clause-within c).Start), video_at_most c.args.c.video)

pub returns : goal.returns
unfolding part_bytes
returns c =
    let s = (goal.at.returns c).Start in
    let out : List ℕ = c.args.out.now in
    let at = c.args.at in
    let ids : List ℕ = id_bytes c.args.c.hasid c.args.c.id in
    let videos : List ℕ = video_bytes c.args.c.video in
    let audios : List ℕ = audio_bytes c.args.c.count c.args.c.prints in
    let front : List Print = take c.from.result c.args.c.prints in
    let f : audio_bytes (length front) front ≡ audios = rw c.from.ensures (audio_front c.args.c.count c.args.c.prints (within s)) in
    let l = length-append ids videos in
    let m = length-append (ids ++ videos) audios in
    let e = sets_then out _ _ ids videos at c.write_id-p.result c.write_id-p.ensures.1 c.write_id-p.ensures.0 c.write_video-q.ensures.1 in (
      omega (arith, l, m, ap length f, c.write_id-p.ensures.0, c.write_video-q.ensures.0, c.write_audio.ensures.0),
      sets_then out _ _ (ids ++ videos) audios at c.write_video-q.result e (omega (arith, l, c.write_id-p.ensures.0, c.write_video-q.ensures.0))
          (c.write_audio.ensures.1 ∙ ap (sets c.write_video-q.new.out c.write_video-q.result) f),
    )
