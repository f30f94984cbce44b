-- `container::pass::check_parts` meets its contract: the number from what each part came to, one after the other.
use Rattle.std.proofs.Common.{ℕ, ◌≡◌, ◌+◌, ◌/◌, ◌%◌, ◌≤◌, List, Option, Some, drop, length, arith, sym, ap, ◌∙◌}
use Rattle.std.specs.Option.{option_map}
use Rattle.container.specs.Reading.{Reading}
use Rattle.container.specs.Parts.{video_part, audio_part}
use Rattle.container.specs.Reading.{id_in, video_in}
use Rattle.container.proofs.Parts.{lent_from, id_within, video_within, audio_within, parts_25, parts_26, number_27, number_28, number_0}
use Rattle.container.proofs.pass.check_parts.Goals as goal
use Rattle.container.proofs.pass.check_parts.Goals.{In-Some, In-Some-read_video, In-Some-pass_audio}

abbrev number : Reading → ℕ
number r = r.number

id_is : (c : goal.In-Some) → id_in c.args.flags c.args.b.now ≡ Some c.in-Some.i
id_is c = sym c.read_id.ensures ∙ c.in-Some.is

abbrev sized : ℕ → List ℕ → Option ℕ
sized flags b = option_map (λ a. a.used) (audio_part (flags % 2) (flags / 16) b)

-- each part ends within the bytes
first_end : (c : goal.In-Some) → c.in-Some.i.used ≤ length c.args.b.now
first_end c = id_within c.args.flags c.args.b.now c.in-Some.i (id_is c)

video_is : (c : goal.In-Some-read_video) → video_in c.args.flags c.in-Some.i.used c.args.b.now ≡ Some c.in-Some-read_video.v
video_is c = lent_from (video_part (c.args.flags / 2 % 2) (c.args.flags / 16)) c.args.b.now c.in-Some.i.used _ _ c.read_video.ensures c.in-Some-read_video.is

second_end : (c : goal.In-Some-read_video) → c.in-Some.i.used + c.in-Some-read_video.v.used ≤ length c.args.b.now
second_end c = video_within c.args.flags c.args.b.now c.in-Some.i (sym c.read_id.ensures ∙ c.in-Some.is) c.in-Some-read_video.v (video_is c)

pub returns-in_default : goal.returns-in_default
returns-in_default c = sym (ap number (parts_25 0 c.args.flags c.args.b.now (sym c.read_id.ensures ∙ c.in_default.is)))

pub slice_bounds-read_video-count : goal.slice_bounds-read_video-count
slice_bounds-read_video-count c = first_end (goal.at.slice_bounds-read_video-count c).In-Some

pub slice_bounds-read_video-start : goal.slice_bounds-read_video-start
slice_bounds-read_video-start c = omega (arith, first_end (goal.at.slice_bounds-read_video-start c).In-Some)

pub returns-in_default-read_video : goal.returns-in_default-read_video
returns-in_default-read_video c =
    let w = goal.at.returns-in_default-read_video c in
    sym (ap number (parts_26 0 c.args.flags c.args.b.now c.in-Some.i (id_is w.In-Some)
    (lent_from (video_part (c.args.flags / 2 % 2) (c.args.flags / 16)) c.args.b.now c.in-Some.i.used _ _ c.read_video.ensures c.in_default-read_video.is)))

pub overflow_add-used : goal.overflow_add-used
overflow_add-used c = omega (arith, second_end (goal.at.overflow_add-used c).In-Some-read_video)

pub slice_bounds-pass_audio-count : goal.slice_bounds-pass_audio-count
slice_bounds-pass_audio-count c = second_end (goal.at.slice_bounds-pass_audio-count c).In-Some-read_video

pub slice_bounds-pass_audio-start : goal.slice_bounds-pass_audio-start
slice_bounds-pass_audio-start c = omega (arith, second_end (goal.at.slice_bounds-pass_audio-start c).In-Some-read_video)

pub returns-in_default-pass_audio : goal.returns-in_default-pass_audio
returns-in_default-pass_audio c =
    let w = goal.at.returns-in_default-pass_audio c in
    sym (number_27 0 c.args.flags c.args.b.now c.in-Some.i (id_is w.In-Some) c.in-Some-read_video.v (video_is w.In-Some-read_video)
    (lent_from (sized c.args.flags) c.args.b.now _ _ _ c.pass_audio.ensures c.in_default-pass_audio.is))

audio_is : (c : goal.In-Some-pass_audio) → sized c.args.flags (drop (c.in-Some.i.used + c.in-Some-read_video.v.used) c.args.b.now) ≡ Some c.in-Some-pass_audio.audio
audio_is c = lent_from (sized c.args.flags) c.args.b.now _ _ _ c.pass_audio.ensures c.in-Some-pass_audio.is

pub overflow_add-used-2 : goal.overflow_add-used-2
overflow_add-used-2 c =
    let w = goal.at.overflow_add-used-2 c in
    omega (arith, audio_within c.args.flags c.args.b.now c.in-Some.i (id_is w.In-Some) c.in-Some-read_video.v (video_is w.In-Some-read_video) c.in-Some-pass_audio.audio (audio_is w.In-Some-pass_audio))

pub returns-then-used-audio : goal.returns-then-used-audio
returns-then-used-audio c =
    let w = goal.at.returns-then-used-audio c in
    sym (number_0 0 c.args.flags c.args.b.now c.in-Some.i (id_is w.In-Some) c.in-Some-read_video.v (video_is w.In-Some-read_video) c.in-Some-pass_audio.audio (audio_is w.In-Some-pass_audio) c.if-used-audio.true)

pub returns-else-used-audio : goal.returns-else-used-audio
returns-else-used-audio c =
    let w = goal.at.returns-else-used-audio c in
    sym (number_28 0 c.args.flags c.args.b.now c.in-Some.i (id_is w.In-Some) c.in-Some-read_video.v (video_is w.In-Some-read_video) c.in-Some-pass_audio.audio (audio_is w.In-Some-pass_audio) c.if-used-audio.false)
