-- No second outcome: for each public function of each library crate, that no two outcomes meet its contract. What is stated of a function follows from its
-- head, and the proof is the theorem of its own crate. Written by tools/promises; the gate compares.
use Prim.Native.Nat.{ℕ}
use mathlib.Core.List.{List}
use Rattle.laws.proofs.Once.{OneResult, OneLeft, OneOutcome}
use Rattle.answers.proofs.asks.room_at.Reads as answers_asks_room_at
use Rattle.answers.proofs.asks.fresh_work.Reads as answers_asks_fresh_work
use Rattle.answers.proofs.fault.say_fault.Reads as answers_fault_say_fault
use Rattle.answers.proofs.say.say.Reads as answers_say_say
use Rattle.bench_audio.proofs.bench_audio.Reads as bench_audio_bench_audio
use Rattle.bench_audio.proofs.instant_of.Reads as bench_audio_instant_of
use Rattle.bench_audio.proofs.bench_floats.Reads as bench_audio_bench_floats
use Rattle.bench_session.proofs.bench_session.Reads as bench_session_bench_session
use Rattle.bench_session.proofs.bench_frames.Reads as bench_session_bench_frames
use Rattle.bench_session.proofs.bench_pack.Reads as bench_session_bench_pack
use Rattle.bench_session.proofs.bench_instants.Reads as bench_session_bench_instants
use Rattle.bench_video.proofs.bench_lines.Reads as bench_video_bench_lines
use Rattle.container.proofs.blank_print.Reads as container_blank_print
use Rattle.container.proofs.empty_contents.Reads as container_empty_contents
use Rattle.container.proofs.read_container.Reads as container_read_container
use Rattle.container.proofs.contents_or_empty.Reads as container_contents_or_empty
use Rattle.container.proofs.check_container.Reads as container_check_container
use Rattle.container.proofs.write_container.Reads as container_write_container
use Rattle.feed.proofs.open.Reads as feed_open
use Rattle.feed.proofs.next.Reads as feed_next
use Rattle.fingerprint.proofs.Fingerprint.fresh.Reads as fingerprint_Fingerprint_fresh
use Rattle.fingerprint.proofs.Fingerprint.restart.Reads as fingerprint_Fingerprint_restart
use Rattle.fingerprint.proofs.Fingerprint.mix_type.Reads as fingerprint_Fingerprint_mix_type
use Rattle.fingerprint.proofs.Fingerprint.step.Reads as fingerprint_Fingerprint_step
use Rattle.fingerprint.proofs.Fingerprint.hear.Reads as fingerprint_Fingerprint_hear
use Rattle.fingerprint.proofs.Fingerprint.hear_instant.Reads as fingerprint_Fingerprint_hear_instant
use Rattle.fingerprint.proofs.Fingerprint.check_sound.Reads as fingerprint_Fingerprint_check_sound
use Rattle.fingerprint.proofs.Fingerprint.check_instant.Reads as fingerprint_Fingerprint_check_instant
use Rattle.fingerprint.proofs.Fingerprint.holds.Reads as fingerprint_Fingerprint_holds
use Rattle.fingerprint.proofs.Fingerprint.take.Reads as fingerprint_Fingerprint_take
use Rattle.flat.proofs.flatten.Reads as flat_flatten
use Rattle.flat.proofs.unflatten.Reads as flat_unflatten
use Rattle.floats.proofs.sample_of.Reads as floats_sample_of
use Rattle.floats.proofs.kind.Reads as floats_kind
use Rattle.floats.proofs.has_nan.Reads as floats_has_nan
use Rattle.floats.proofs.value.Reads as floats_value
use Rattle.host.proofs.lipsync_read_container.Reads as host_lipsync_read_container
use Rattle.host.proofs.lipsync_write_packet.Reads as host_lipsync_write_packet
use Rattle.host.proofs.lipsync_read_packet.Reads as host_lipsync_read_packet
use Rattle.host.proofs.lipsync_write_transport.Reads as host_lipsync_write_transport
use Rattle.host.proofs.lipsync_read_transport.Reads as host_lipsync_read_transport
use Rattle.host.proofs.lipsync_mend.Reads as host_lipsync_mend
use Rattle.host.proofs.lipsync_sample_line.Reads as host_lipsync_sample_line
use Rattle.host.proofs.lipsync_is_monitored.Reads as host_lipsync_is_monitored
use Rattle.intake.proofs.stops.Reads as intake_stops
use Rattle.judging.proofs.fresh.Reads as judging_fresh
use Rattle.judging.proofs.judge.Reads as judging_judge
use Rattle.judging.proofs.report.open.Reads as judging_report_open
use Rattle.judging.proofs.report.field.Reads as judging_report_field
use Rattle.judging.proofs.report.close.Reads as judging_report_close
use Rattle.laws.proofs.Refusal.number.Reads as laws_Refusal_number
use Rattle.laws.proofs.Done.of.Reads as laws_Done_of
use Rattle.laws.proofs.copy_at.Reads as laws_copy_at
use Rattle.laws.proofs.flag.Reads as laws_flag
use Rattle.mending.proofs.mend.Reads as mending_mend
use Rattle.mending.proofs.tool.report.Reads as mending_tool_report
use Rattle.packet.proofs.write_packet.Reads as packet_write_packet
use Rattle.packet.proofs.read_packet.Reads as packet_read_packet
use Rattle.picture.proofs.Picture.fresh.Reads as picture_Picture_fresh
use Rattle.picture.proofs.Picture.is_ready.Reads as picture_Picture_is_ready
use Rattle.picture.proofs.Picture.restart.Reads as picture_Picture_restart
use Rattle.picture.proofs.Picture.hand_out.Reads as picture_Picture_hand_out
use Rattle.picture.proofs.Picture.line.Reads as picture_Picture_line
use Rattle.picture.proofs.is_monitored.Reads as picture_is_monitored
use Rattle.rates.proofs.rate_listed.Reads as rates_rate_listed
use Rattle.rates.proofs.interval.Reads as rates_interval
use Rattle.rates.proofs.bytes_due.Reads as rates_bytes_due
use Rattle.rates.proofs.next_place.Reads as rates_next_place
use Rattle.rates.proofs.count_occurs.Reads as rates_count_occurs
use Rattle.rates.proofs.two_fields.Reads as rates_two_fields
use Rattle.rates.proofs.pairs.Reads as rates_pairs
use Rattle.rates.proofs.mix_listed.Reads as rates_mix_listed
use Rattle.receive_feed.proofs.open.Reads as receive_feed_open
use Rattle.receive_feed.proofs.next.Reads as receive_feed_next
use Rattle.receiving.proofs.Receiver.fresh.Reads as receiving_Receiver_fresh
use Rattle.receiving.proofs.Receiver.arrive.Reads as receiving_Receiver_arrive
use Rattle.receiving.proofs.Receiver.next.Reads as receiving_Receiver_next
use Rattle.receiving.specs.declared.Receiver as receiving_Receiver
use Rattle.receiving.proofs.Receiver.give_up.Reads as receiving_Receiver_give_up
use Rattle.records.proofs.pair_at.Reads as records_pair_at
use Rattle.records.proofs.record_at.Reads as records_record_at
use Rattle.report.proofs.report.Reads as report_report
use Rattle.report.proofs.inspect.Reads as report_inspect
use Rattle.sampling.proofs.row_of.Reads as sampling_row_of
use Rattle.sampling.proofs.sample_line.Reads as sampling_sample_line
use Rattle.session.proofs.Session.empty.Reads as session_Session_empty
use Rattle.session.proofs.Session.setup.Reads as session_Session_setup
use Rattle.session.proofs.Session.line.Reads as session_Session_line
use Rattle.session.proofs.Session.sound.Reads as session_Session_sound
use Rattle.session.proofs.Session.instant.Reads as session_Session_instant
use Rattle.session.proofs.Session.video_restart.Reads as session_Session_video_restart
use Rattle.session.proofs.Session.audio_restart.Reads as session_Session_audio_restart
use Rattle.session.proofs.Session.pack.Reads as session_Session_pack
use Rattle.session.specs.declared.Session as session_Session
use Rattle.sound.proofs.instant_bytes.Reads as sound_instant_bytes
use Rattle.sound.proofs.mono_value.Reads as sound_mono_value
use Rattle.sound.proofs.stereo_value.Reads as sound_stereo_value
use Rattle.sound.proofs.five_value.Reads as sound_five_value
use Rattle.sound.proofs.instant_value.Reads as sound_instant_value
use Rattle.sound.proofs.envelope.Reads as sound_envelope
use Rattle.sound.proofs.mean.Reads as sound_mean
use Rattle.text.proofs.put.Reads as text_put
use Rattle.text.proofs.put_number.Reads as text_put_number
use Rattle.text.proofs.put_item.Reads as text_put_item
use Rattle.text.proofs.put_refused.Reads as text_put_refused
use Rattle.text.proofs.put_hex.Reads as text_put_hex
use Rattle.transport.proofs.write_transport.Reads as transport_write_transport
use Rattle.transport.proofs.read_transport.Reads as transport_read_transport
use Rattle.answers.proofs.Unique as answers_theorems
use Rattle.bench_audio.proofs.Unique as bench_audio_theorems
use Rattle.bench_session.proofs.Unique as bench_session_theorems
use Rattle.bench_video.proofs.Unique as bench_video_theorems
use Rattle.container.proofs.Unique as container_theorems
use Rattle.feed.proofs.Unique as feed_theorems
use Rattle.fingerprint.proofs.Unique as fingerprint_theorems
use Rattle.flat.proofs.Unique as flat_theorems
use Rattle.floats.proofs.Unique as floats_theorems
use Rattle.host.proofs.Unique as host_theorems
use Rattle.intake.proofs.Unique as intake_theorems
use Rattle.judging.proofs.Unique as judging_theorems
use Rattle.laws.proofs.Unique as laws_theorems
use Rattle.mending.proofs.Unique as mending_theorems
use Rattle.packet.proofs.Unique as packet_theorems
use Rattle.picture.proofs.Unique as picture_theorems
use Rattle.rates.proofs.Unique as rates_theorems
use Rattle.receive_feed.proofs.Unique as receive_feed_theorems
use Rattle.receiving.proofs.Unique as receiving_theorems
use Rattle.records.proofs.Unique as records_theorems
use Rattle.report.proofs.Unique as report_theorems
use Rattle.sampling.proofs.Unique as sampling_theorems
use Rattle.session.proofs.Unique as session_theorems
use Rattle.sound.proofs.Unique as sound_theorems
use Rattle.text.proofs.Unique as text_theorems
use Rattle.transport.proofs.Unique as transport_theorems

pub answers_asks_room_at_unique : OneResult answers_asks_room_at.Post
answers_asks_room_at_unique = answers_theorems.room_at_unique

pub answers_asks_fresh_work_unique : OneResult answers_asks_fresh_work.Post
answers_asks_fresh_work_unique = answers_theorems.fresh_work_unique

pub answers_fault_say_fault_unique : OneOutcome answers_fault_say_fault.Post (λ κs s. s.1.1.1.1.0.now)
answers_fault_say_fault_unique = answers_theorems.say_fault_unique

pub answers_say_say_unique : OneOutcome answers_say_say.Post (λ κs s. s.1.1.0.now)
answers_say_say_unique = answers_theorems.say_unique

pub bench_audio_bench_audio_unique : OneResult bench_audio_bench_audio.Post
bench_audio_bench_audio_unique = bench_audio_theorems.bench_audio_unique

pub bench_audio_instant_of_unique : OneResult bench_audio_instant_of.Post
bench_audio_instant_of_unique = bench_audio_theorems.instant_of_unique

pub bench_audio_bench_floats_unique : OneResult bench_audio_bench_floats.Post
bench_audio_bench_floats_unique = bench_audio_theorems.bench_floats_unique

pub bench_session_bench_session_unique : OneResult bench_session_bench_session.Post
bench_session_bench_session_unique = bench_session_theorems.bench_session_unique

pub bench_session_bench_frames_unique : OneResult bench_session_bench_frames.Post
bench_session_bench_frames_unique = bench_session_theorems.bench_frames_unique

pub bench_session_bench_pack_unique : OneResult bench_session_bench_pack.Post
bench_session_bench_pack_unique = bench_session_theorems.bench_pack_unique

pub bench_session_bench_instants_unique : OneResult bench_session_bench_instants.Post
bench_session_bench_instants_unique = bench_session_theorems.bench_instants_unique

pub bench_video_bench_lines_unique : OneResult bench_video_bench_lines.Post
bench_video_bench_lines_unique = bench_video_theorems.bench_lines_unique

pub container_blank_print_unique : OneResult container_blank_print.Post
container_blank_print_unique = container_theorems.blank_print_unique

pub container_empty_contents_unique : OneResult container_empty_contents.Post
container_empty_contents_unique = container_theorems.empty_contents_unique

pub container_read_container_unique : OneResult container_read_container.Post
container_read_container_unique = container_theorems.read_container_unique

pub container_contents_or_empty_unique : OneResult container_contents_or_empty.Post
container_contents_or_empty_unique = container_theorems.contents_or_empty_unique

pub container_check_container_unique : OneResult container_check_container.Post
container_check_container_unique = container_theorems.check_container_unique

pub container_write_container_unique : OneOutcome container_write_container.Post (λ κs s. s.1.0.now)
container_write_container_unique = container_theorems.write_container_unique

pub feed_open_unique : OneResult feed_open.Post
feed_open_unique = feed_theorems.open_unique

pub feed_next_unique : OneOutcome feed_next.Post (λ κs s. s.1.1.0.now)
feed_next_unique = feed_theorems.next_unique

pub fingerprint_Fingerprint_fresh_unique : OneResult fingerprint_Fingerprint_fresh.Post
fingerprint_Fingerprint_fresh_unique = fingerprint_theorems.Fingerprint_fresh_unique

pub fingerprint_Fingerprint_restart_unique : OneLeft fingerprint_Fingerprint_restart.Post (λ κs s. s.0.now)
fingerprint_Fingerprint_restart_unique = fingerprint_theorems.Fingerprint_restart_unique

pub fingerprint_Fingerprint_mix_type_unique : OneResult fingerprint_Fingerprint_mix_type.Post
fingerprint_Fingerprint_mix_type_unique = fingerprint_theorems.Fingerprint_mix_type_unique

pub fingerprint_Fingerprint_step_unique : OneLeft fingerprint_Fingerprint_step.Post (λ κs s. s.0.now)
fingerprint_Fingerprint_step_unique = fingerprint_theorems.Fingerprint_step_unique

pub fingerprint_Fingerprint_hear_unique : OneLeft fingerprint_Fingerprint_hear.Post (λ κs s. s.0.now)
fingerprint_Fingerprint_hear_unique = fingerprint_theorems.Fingerprint_hear_unique

pub fingerprint_Fingerprint_hear_instant_unique : OneLeft fingerprint_Fingerprint_hear_instant.Post (λ κs s. s.0.now)
fingerprint_Fingerprint_hear_instant_unique = fingerprint_theorems.Fingerprint_hear_instant_unique

pub fingerprint_Fingerprint_check_sound_unique : OneResult fingerprint_Fingerprint_check_sound.Post
fingerprint_Fingerprint_check_sound_unique = fingerprint_theorems.Fingerprint_check_sound_unique

pub fingerprint_Fingerprint_check_instant_unique : OneResult fingerprint_Fingerprint_check_instant.Post
fingerprint_Fingerprint_check_instant_unique = fingerprint_theorems.Fingerprint_check_instant_unique

pub fingerprint_Fingerprint_holds_unique : OneResult fingerprint_Fingerprint_holds.Post
fingerprint_Fingerprint_holds_unique = fingerprint_theorems.Fingerprint_holds_unique

pub fingerprint_Fingerprint_take_unique : OneOutcome fingerprint_Fingerprint_take.Post (λ κs s. s.0.now)
fingerprint_Fingerprint_take_unique = fingerprint_theorems.Fingerprint_take_unique

pub flat_flatten_unique : OneResult flat_flatten.Post
flat_flatten_unique = flat_theorems.flatten_unique

pub flat_unflatten_unique : OneResult flat_unflatten.Post
flat_unflatten_unique = flat_theorems.unflatten_unique

pub floats_sample_of_unique : OneResult floats_sample_of.Post
floats_sample_of_unique = floats_theorems.sample_of_unique

pub floats_kind_unique : OneResult floats_kind.Post
floats_kind_unique = floats_theorems.kind_unique

pub floats_has_nan_unique : OneResult floats_has_nan.Post
floats_has_nan_unique = floats_theorems.has_nan_unique

pub floats_value_unique : OneResult floats_value.Post
floats_value_unique = floats_theorems.value_unique

pub host_lipsync_read_container_unique : OneOutcome host_lipsync_read_container.Post {X = List ℕ × ℕ} (λ κs s. (s.1.0.now, s.1.1.0.now))
host_lipsync_read_container_unique = host_theorems.lipsync_read_container_unique

pub host_lipsync_write_packet_unique : OneOutcome host_lipsync_write_packet.Post {X = List ℕ × ℕ} (λ κs s. (s.1.0.now, s.1.1.0.now))
host_lipsync_write_packet_unique = host_theorems.lipsync_write_packet_unique

pub host_lipsync_read_packet_unique : OneOutcome host_lipsync_read_packet.Post {X = List ℕ × ℕ} (λ κs s. (s.1.0.now, s.1.1.0.now))
host_lipsync_read_packet_unique = host_theorems.lipsync_read_packet_unique

pub host_lipsync_write_transport_unique : OneOutcome host_lipsync_write_transport.Post {X = List ℕ × ℕ} (λ κs s. (s.1.0.now, s.1.1.0.now))
host_lipsync_write_transport_unique = host_theorems.lipsync_write_transport_unique

pub host_lipsync_read_transport_unique : OneOutcome host_lipsync_read_transport.Post {X = List ℕ × ℕ} (λ κs s. (s.1.0.now, s.1.1.0.now))
host_lipsync_read_transport_unique = host_theorems.lipsync_read_transport_unique

pub host_lipsync_mend_unique : OneOutcome host_lipsync_mend.Post {X = List ℕ × ℕ} (λ κs s. (s.1.0.now, s.1.1.0.now))
host_lipsync_mend_unique = host_theorems.lipsync_mend_unique

pub host_lipsync_sample_line_unique : OneOutcome host_lipsync_sample_line.Post {X = List ℕ × ℕ} (λ κs s. (s.1.1.0.now, s.1.1.1.0.now))
host_lipsync_sample_line_unique = host_theorems.lipsync_sample_line_unique

pub host_lipsync_is_monitored_unique : OneResult host_lipsync_is_monitored.Post
host_lipsync_is_monitored_unique = host_theorems.lipsync_is_monitored_unique

pub intake_stops_unique : OneResult intake_stops.Post
intake_stops_unique = intake_theorems.stops_unique

pub judging_fresh_unique : OneResult judging_fresh.Post
judging_fresh_unique = judging_theorems.fresh_unique

pub judging_judge_unique : OneResult judging_judge.Post
judging_judge_unique = judging_theorems.judge_unique

pub judging_report_open_unique : OneResult judging_report_open.Post
judging_report_open_unique = judging_theorems.open_unique

pub judging_report_field_unique : OneOutcome judging_report_field.Post (λ κs s. s.1.1.0.now)
judging_report_field_unique = judging_theorems.field_unique

pub judging_report_close_unique : OneOutcome judging_report_close.Post (λ κs s. s.1.0.now)
judging_report_close_unique = judging_theorems.close_unique

pub laws_Refusal_number_unique : OneResult laws_Refusal_number.Post
laws_Refusal_number_unique = laws_theorems.Refusal_number_unique

pub laws_Done_of_unique : OneResult laws_Done_of.Post
laws_Done_of_unique = laws_theorems.Done_of_unique

pub laws_copy_at_unique : OneLeft laws_copy_at.Post (λ κs s. s.1.0.now)
laws_copy_at_unique = laws_theorems.copy_at_unique

pub laws_flag_unique : OneResult laws_flag.Post
laws_flag_unique = laws_theorems.flag_unique

pub mending_mend_unique : OneOutcome mending_mend.Post (λ κs s. s.1.0.now)
mending_mend_unique = mending_theorems.mend_unique

pub mending_tool_report_unique : OneOutcome mending_tool_report.Post (λ κs s. s.1.0.now)
mending_tool_report_unique = mending_theorems.report_unique

pub packet_write_packet_unique : OneOutcome packet_write_packet.Post (λ κs s. s.1.0.now)
packet_write_packet_unique = packet_theorems.write_packet_unique

pub packet_read_packet_unique : OneOutcome packet_read_packet.Post (λ κs s. s.1.0.now)
packet_read_packet_unique = packet_theorems.read_packet_unique

pub picture_Picture_fresh_unique : OneResult picture_Picture_fresh.Post
picture_Picture_fresh_unique = picture_theorems.Picture_fresh_unique

pub picture_Picture_is_ready_unique : OneResult picture_Picture_is_ready.Post
picture_Picture_is_ready_unique = picture_theorems.Picture_is_ready_unique

pub picture_Picture_restart_unique : OneLeft picture_Picture_restart.Post (λ κs s. s.0.now)
picture_Picture_restart_unique = picture_theorems.Picture_restart_unique

pub picture_Picture_hand_out_unique : OneOutcome picture_Picture_hand_out.Post (λ κs s. s.0.now)
picture_Picture_hand_out_unique = picture_theorems.Picture_hand_out_unique

pub picture_Picture_line_unique : OneOutcome picture_Picture_line.Post (λ κs s. s.0.now)
picture_Picture_line_unique = picture_theorems.Picture_line_unique

pub picture_is_monitored_unique : OneResult picture_is_monitored.Post
picture_is_monitored_unique = picture_theorems.is_monitored_unique

pub rates_rate_listed_unique : OneResult rates_rate_listed.Post
rates_rate_listed_unique = rates_theorems.rate_listed_unique

pub rates_interval_unique : OneResult rates_interval.Post
rates_interval_unique = rates_theorems.interval_unique

pub rates_bytes_due_unique : OneResult rates_bytes_due.Post
rates_bytes_due_unique = rates_theorems.bytes_due_unique

pub rates_next_place_unique : OneResult rates_next_place.Post
rates_next_place_unique = rates_theorems.next_place_unique

pub rates_count_occurs_unique : OneResult rates_count_occurs.Post
rates_count_occurs_unique = rates_theorems.count_occurs_unique

pub rates_two_fields_unique : OneResult rates_two_fields.Post
rates_two_fields_unique = rates_theorems.two_fields_unique

pub rates_pairs_unique : OneResult rates_pairs.Post
rates_pairs_unique = rates_theorems.pairs_unique

pub rates_mix_listed_unique : OneResult rates_mix_listed.Post
rates_mix_listed_unique = rates_theorems.mix_listed_unique

pub receive_feed_open_unique : OneResult receive_feed_open.Post
receive_feed_open_unique = receive_feed_theorems.open_unique

pub receive_feed_next_unique : OneOutcome receive_feed_next.Post (λ κs s. s.1.1.0.now)
receive_feed_next_unique = receive_feed_theorems.next_unique

pub receiving_Receiver_fresh_unique : OneResult receiving_Receiver_fresh.Post
receiving_Receiver_fresh_unique = receiving_theorems.Receiver_fresh_unique

pub receiving_Receiver_arrive_unique : OneOutcome receiving_Receiver_arrive.Post (λ κs s. s.0.now)
receiving_Receiver_arrive_unique = receiving_theorems.Receiver_arrive_unique

pub receiving_Receiver_next_unique : OneOutcome receiving_Receiver_next.Post {X = receiving_Receiver.Receiver × List ℕ} (λ κs s. (s.0.now, s.1.0.now))
receiving_Receiver_next_unique = receiving_theorems.Receiver_next_unique

pub receiving_Receiver_give_up_unique : OneLeft receiving_Receiver_give_up.Post (λ κs s. s.0.now)
receiving_Receiver_give_up_unique = receiving_theorems.Receiver_give_up_unique

pub records_pair_at_unique : OneResult records_pair_at.Post
records_pair_at_unique = records_theorems.pair_at_unique

pub records_record_at_unique : OneResult records_record_at.Post
records_record_at_unique = records_theorems.record_at_unique

pub report_report_unique : OneOutcome report_report.Post (λ κs s. s.1.0.now)
report_report_unique = report_theorems.report_unique

pub report_inspect_unique : OneOutcome report_inspect.Post (λ κs s. s.1.0.now)
report_inspect_unique = report_theorems.inspect_unique

pub sampling_row_of_unique : OneResult sampling_row_of.Post
sampling_row_of_unique = sampling_theorems.row_of_unique

pub sampling_sample_line_unique : OneOutcome sampling_sample_line.Post (λ κs s. s.1.1.0.now)
sampling_sample_line_unique = sampling_theorems.sample_line_unique

pub session_Session_empty_unique : OneResult session_Session_empty.Post
session_Session_empty_unique = session_theorems.Session_empty_unique

pub session_Session_setup_unique : OneOutcome session_Session_setup.Post (λ κs s. s.0.now)
session_Session_setup_unique = session_theorems.Session_setup_unique

pub session_Session_line_unique : OneOutcome session_Session_line.Post (λ κs s. s.0.now)
session_Session_line_unique = session_theorems.Session_line_unique

pub session_Session_sound_unique : OneOutcome session_Session_sound.Post (λ κs s. s.0.now)
session_Session_sound_unique = session_theorems.Session_sound_unique

pub session_Session_instant_unique : OneOutcome session_Session_instant.Post (λ κs s. s.0.now)
session_Session_instant_unique = session_theorems.Session_instant_unique

pub session_Session_video_restart_unique : OneLeft session_Session_video_restart.Post (λ κs s. s.0.now)
session_Session_video_restart_unique = session_theorems.Session_video_restart_unique

pub session_Session_audio_restart_unique : OneLeft session_Session_audio_restart.Post (λ κs s. s.0.now)
session_Session_audio_restart_unique = session_theorems.Session_audio_restart_unique

pub session_Session_pack_unique : OneOutcome session_Session_pack.Post {X = session_Session.Session × List ℕ} (λ κs s. (s.0.now, s.1.1.0.now))
session_Session_pack_unique = session_theorems.Session_pack_unique

pub sound_instant_bytes_unique : OneResult sound_instant_bytes.Post
sound_instant_bytes_unique = sound_theorems.instant_bytes_unique

pub sound_mono_value_unique : OneResult sound_mono_value.Post
sound_mono_value_unique = sound_theorems.mono_value_unique

pub sound_stereo_value_unique : OneResult sound_stereo_value.Post
sound_stereo_value_unique = sound_theorems.stereo_value_unique

pub sound_five_value_unique : OneResult sound_five_value.Post
sound_five_value_unique = sound_theorems.five_value_unique

pub sound_instant_value_unique : OneResult sound_instant_value.Post
sound_instant_value_unique = sound_theorems.instant_value_unique

pub sound_envelope_unique : OneResult sound_envelope.Post
sound_envelope_unique = sound_theorems.envelope_unique

pub sound_mean_unique : OneResult sound_mean.Post
sound_mean_unique = sound_theorems.mean_unique

pub text_put_unique : OneOutcome text_put.Post (λ κs s. s.1.0.now)
text_put_unique = text_theorems.put_unique

pub text_put_number_unique : OneOutcome text_put_number.Post (λ κs s. s.1.0.now)
text_put_number_unique = text_theorems.put_number_unique

pub text_put_item_unique : OneOutcome text_put_item.Post (λ κs s. s.1.1.0.now)
text_put_item_unique = text_theorems.put_item_unique

pub text_put_refused_unique : OneOutcome text_put_refused.Post (λ κs s. s.1.0.now)
text_put_refused_unique = text_theorems.put_refused_unique

pub text_put_hex_unique : OneOutcome text_put_hex.Post (λ κs s. s.1.0.now)
text_put_hex_unique = text_theorems.put_hex_unique

pub transport_write_transport_unique : OneOutcome transport_write_transport.Post (λ κs s. s.1.0.now)
transport_write_transport_unique = transport_theorems.write_transport_unique

pub transport_read_transport_unique : OneOutcome transport_read_transport.Post (λ κs s. s.1.0.now)
transport_read_transport_unique = transport_theorems.read_transport_unique
