-- What the bench sheet is a table of: a model of the part; and the part as one, by `part_step` and `part_bytes`, which the promise of `Part::step` cites.
use Rattle.rules.specs.Access.{busy_refusal, past_refusal, too_many, place_refusal, sla_refusal, conf_refusal, spot_of, data_refusal, sel_refusal, kept_if, rewound, pointed_at, overrun_of, key_after, resets_of}
use Rattle.bounds.specs.Range.{pointers_in, registers_in, counting_of, ended_in, blank_of, recorded_in, walk_in, standing, counted_in, clear_from, counts_in, frame_at, frame_in, kinds_in}
use Rattle.rules.specs.Registers.{setting_at, table_at, register_at, status_place, register_place, place_of, weigh, control_value, chstatus_value}
use Rattle.rules.specs.Tables.{start_of, fitting, configured_at, read_skipped, skipped_of, sent_from, mark_from}
use Rattle.sequence.specs.Walk.{nack_flags, end_flags, end_walk, fault_flags}
use Rattle.sequence.specs.Wires.{start_asked, stop_asked, asked_in, ask_of, beginning_of, halted_of, reach_of, move_of, next_of, masked_of, ticking_of, tick_turn, heard_turn, turn_of, rest_of, ending_of, fld_after}
use Rattle.steps.specs.Map.{channel_at, ctrl_at, write_target, read_target, wire_target, target_of}
use Rattle.steps.specs.declared.map.Step.{Step}
use Rattle.steps.specs.declared.answer.PartAnswer.{PartAnswer}
use Rattle.head.specs.Access.{setting_of, setting_set, read_refusal, refusal_of}
use Rattle.head.specs.Range.{head_in}
use Rattle.head.specs.Head.{stopped, clocked, failed, frame_ended}
use Rattle.channel.specs.Access.{read_by, read_of, asked, controlled, written_by, write_of, put_of}
use Rattle.channel.specs.Range.{in_range}
use Rattle.channel.specs.State.{guarded}
use Rattle.channel.specs.Step.{write_at, read_at, event_at, served_by}
use Rattle.channel.specs.Wires.{sent_to, passed, started_by, started, cleared, began_by, begun, moved_to, onward, finished}
use Rattle.channel.specs.Wires.{counted_one, byte_sent, send_on, ack_address, ack_sending, receive_on, received, failed_by, nacked, turned}
use Rattle.part.specs.Registers.{ctrl_read, ctrl_written, ctrl_put, ctrl_store}
use Rattle.part.specs.State.{wiped, window, put_window}
use Rattle.part.specs.Step.{one_step, one_bytes, all_served, all_stored, target_served, target_stored, forgetting, part_served, part_stored, channels_in, part_in, accepts, part_step, part_bytes}
use Rattle.works.specs.State.{State}

-- a model: what a step is answered in a state, and the state after it
pub record Model : Type 0 where
  pub answer : State → Step → PartAnswer
  pub after : State → Step → State

-- the part; whatever a step of the sheet computes with is opened by its name
unfoldable pub the_part : Model
unfolding busy_refusal past_refusal too_many place_refusal sla_refusal conf_refusal spot_of data_refusal sel_refusal kept_if rewound pointed_at overrun_of key_after resets_of
    pointers_in registers_in counting_of ended_in blank_of recorded_in walk_in standing counted_in clear_from counts_in frame_at frame_in kinds_in
    setting_at table_at register_at status_place register_place place_of weigh control_value chstatus_value
    start_of fitting configured_at read_skipped skipped_of sent_from mark_from
    nack_flags end_flags end_walk fault_flags
    start_asked stop_asked asked_in ask_of beginning_of halted_of reach_of move_of next_of masked_of ticking_of tick_turn heard_turn turn_of rest_of ending_of fld_after
    setting_of setting_set read_refusal read_by read_of asked controlled refusal_of written_by write_of put_of
    in_range head_in
    guarded
    write_at read_at event_at served_by
    stopped clocked failed frame_ended
    sent_to passed started_by started cleared began_by begun moved_to onward finished counted_one byte_sent send_on ack_address ack_sending receive_on received failed_by nacked turned
    channel_at ctrl_at write_target read_target wire_target target_of
    ctrl_read ctrl_written ctrl_put ctrl_store
    wiped window put_window
    one_step one_bytes all_served all_stored target_served target_stored forgetting part_served part_stored channels_in part_in accepts part_step part_bytes
the_part = record {
  answer = λ u s. (part_step u.part u.memory s).answer;
  after = λ u s. record {
    part = (part_step u.part u.memory s).part;
    memory = part_bytes u.part u.memory s;
  };
}
