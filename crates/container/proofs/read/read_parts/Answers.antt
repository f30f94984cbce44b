-- `container::read::read_parts` meets its contract: what each part says, one after the other.
use Rattle.std.proofs.Common.{◌≡◌, ◌+◌, ◌/◌, ◌%◌, ◌≤◌, Some, length, arith, sym, ap, ◌∙◌}
use Rattle.std.specs.Option.{option_map}
use Rattle.container.specs.declared.AudioPart.{AudioPart}
use Rattle.container.specs.Parts.{video_part, audio_part}
use Rattle.container.specs.Reading.{id_in, video_in, audio_in}
use Rattle.container.proofs.Parts.{lent_from, id_within, video_within, audio_within, parts_25, parts_26, parts_27, parts_28, parts_0}
use Rattle.container.proofs.read.read_parts.Goals as goal
use Rattle.container.proofs.read.read_parts.Goals.{In-Some, In-Some-read_video, In-Some-read_audio}

id_is : (c : goal.In-Some) → id_in c.args.flags c.args.b.now ≡ Some c.in-Some.i
id_is c = sym c.read_id.ensures ∙ c.in-Some.is

-- each part ends within the bytes
first_end : (c : goal.In-Some) → c.in-Some.i.used ≤ length c.args.b.now
first_end c = id_within c.args.flags c.args.b.now c.in-Some.i (id_is c)

video_is : (c : goal.In-Some-read_video) → video_in c.args.flags c.in-Some.i.used c.args.b.now ≡ Some c.in-Some-read_video.v
video_is c = lent_from (video_part (c.args.flags / 2 % 2) (c.args.flags / 16)) c.args.b.now c.in-Some.i.used _ _ c.read_video.ensures c.in-Some-read_video.is

second_end : (c : goal.In-Some-read_video) → c.in-Some.i.used + c.in-Some-read_video.v.used ≤ length c.args.b.now
second_end c = video_within c.args.flags c.args.b.now c.in-Some.i (sym c.read_id.ensures ∙ c.in-Some.is) c.in-Some-read_video.v (video_is c)

audio_is : (c : goal.In-Some-read_audio) → audio_in c.args.flags (c.in-Some.i.used + c.in-Some-read_video.v.used) c.args.b.now ≡ Some c.in-Some-read_audio.a
audio_is c = lent_from (audio_part (c.args.flags % 2) (c.args.flags / 16)) c.args.b.now _ _ _ c.read_audio.ensures c.in-Some-read_audio.is

pub returns-in_default : goal.returns-in_default
returns-in_default c = sym (parts_25 c.args.counter c.args.flags c.args.b.now (sym c.read_id.ensures ∙ c.in_default.is))

pub slice_bounds-read_video-count : goal.slice_bounds-read_video-count
slice_bounds-read_video-count c = first_end (goal.at.slice_bounds-read_video-count c).In-Some

pub slice_bounds-read_video-start : goal.slice_bounds-read_video-start
slice_bounds-read_video-start c = omega (arith, first_end (goal.at.slice_bounds-read_video-start c).In-Some)

pub returns-in_default-read_video : goal.returns-in_default-read_video
returns-in_default-read_video c =
    let w = goal.at.returns-in_default-read_video c in
    sym (parts_26 c.args.counter c.args.flags c.args.b.now c.in-Some.i (id_is w.In-Some)
    (lent_from (video_part (c.args.flags / 2 % 2) (c.args.flags / 16)) c.args.b.now c.in-Some.i.used _ _ c.read_video.ensures c.in_default-read_video.is))

pub overflow_add-used : goal.overflow_add-used
overflow_add-used c = omega (arith, second_end (goal.at.overflow_add-used c).In-Some-read_video)

pub slice_bounds-read_audio-count : goal.slice_bounds-read_audio-count
slice_bounds-read_audio-count c = second_end (goal.at.slice_bounds-read_audio-count c).In-Some-read_video

pub slice_bounds-read_audio-start : goal.slice_bounds-read_audio-start
slice_bounds-read_audio-start c = omega (arith, second_end (goal.at.slice_bounds-read_audio-start c).In-Some-read_video)

pub returns-in_default-read_audio : goal.returns-in_default-read_audio
returns-in_default-read_audio c =
    let w = goal.at.returns-in_default-read_audio c in
    sym (parts_27 c.args.counter c.args.flags c.args.b.now c.in-Some.i (id_is w.In-Some) c.in-Some-read_video.v (video_is w.In-Some-read_video)
    (lent_from (audio_part (c.args.flags % 2) (c.args.flags / 16)) c.args.b.now _ _ _ c.read_audio.ensures c.in_default-read_audio.is))

pub overflow_add-used-2 : goal.overflow_add-used-2
overflow_add-used-2 c =
    let w = goal.at.overflow_add-used-2 c in
    omega (
      arith,
      audio_within c.args.flags c.args.b.now c.in-Some.i (id_is w.In-Some) c.in-Some-read_video.v (video_is w.In-Some-read_video) c.in-Some-read_audio.a.used
          (ap (option_map (λ (a : AudioPart). a.used)) (audio_is w.In-Some-read_audio)),
    )

pub returns-then-used-a : goal.returns-then-used-a
returns-then-used-a c =
    let w = goal.at.returns-then-used-a c in
    sym (parts_28 c.args.counter c.args.flags c.args.b.now c.in-Some.i (id_is w.In-Some) c.in-Some-read_video.v (video_is w.In-Some-read_video) c.in-Some-read_audio.a (audio_is w.In-Some-read_audio) c.if-used-a.true)

pub returns : goal.returns
returns c =
    let w = goal.at.returns c in
    sym (parts_0 c.args.counter c.args.flags c.args.b.now c.in-Some.i (id_is w.In-Some) c.in-Some-read_video.v (video_is w.In-Some-read_video) c.in-Some-read_audio.a (audio_is w.In-Some-read_audio) c.if-used-a.false)
