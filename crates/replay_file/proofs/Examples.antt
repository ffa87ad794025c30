-- Document 01's replay examples and more of the kind, computed; a record's bytes. Assumes nothing.
use mathlib.Core.Path.{refl}
use Rattle.line_receiver.specs.Receive.{taken}
use Rattle.module_rules.specs.Commands.{asked}
use Rattle.module_rules.specs.Report.{report, reply_of}
use Rattle.module_rules.specs.Rules.{request, execute, reply}
use Rattle.chain_rules.specs.Chain.{byte_step}
use Rattle.inout_rules.specs.Asks.{own}
use Rattle.inout_rules.specs.Pins.{blend}
use Rattle.servo_rules.specs.Homing.{good_byte, changed, homing_halt, halted_or, homed}
use Rattle.servo_rules.specs.Asks as Servos
use Rattle.servo_rules.specs.Tick.{by_power, met, ticked}
use Rattle.servo_rules.specs.Answers.{done, status_of, numbers_of}
use Rattle.stepper_rules.specs.Carried.{carried_in, in_range}
use Rattle.stepper_rules.specs.Asks as Steppers
use Rattle.stepper_rules.specs.Asks.{load_meant, parameters_meant}
use Rattle.stepper_rules.specs.Ramp as Ramp
use Rattle.stepper_rules.specs.Ramp.{onward, moved}
use Rattle.stepper_rules.specs.Perform.{load_of, storing, loaded, startable, begun, start, parameters_set}
use Rattle.net_rules.specs.Calls.{samples_in}
use Rattle.base_text.specs.Digits.{decimal}
use Rattle.replay_print.specs.Text.{line, bad_line}
use Rattle.replay_file.specs.Records.{body_length, line_byte, measured, sample_record, net_record, record_step, replayed}
use Rattle.replay_file.specs.Promises.{Examples, Bodies, Sampled, Stepped, Homed, Latest, Bad}

pub examples : Examples
unfolding taken asked report reply_of byte_step own request execute reply blend done status_of numbers_of decimal line bad_line body_length line_byte net_record record_step replayed
examples = (refl, refl, refl, refl)

pub bodies : Bodies
unfolding body_length measured
bodies = record {
  joins = refl;
  line_byte = refl;
  servo_sample = refl;
  io_sample = refl;
  tick = refl;
  stepper_sample = refl;
  servo = λ place power ad r0 r1 r2 r3 limits. refl;
  inout = λ place i0 i1 ad1 ad2 ad3 c0 c1 c2 c3. refl;
  stepper = λ place stop. refl;
}

pub bad : Bad
unfolding decimal bad_line body_length line_byte net_record record_step replayed measured sample_record
bad = record {
  first = refl;
  late = refl;
  type = refl;
  kind = refl;
  cut = refl;
  mark = refl;
  other = refl;
  beyond = refl;
  power = refl;
  limits = refl;
  high = refl;
  servo_cut = refl;
  older = refl;
  inputs = refl;
  most = refl;
  not_stepper = refl;
  stop_two = refl;
  stop_cut = refl;
  stop_one = refl;
}

pub sampled : Sampled
unfolding taken asked report reply_of byte_step request execute reply blend done status_of numbers_of decimal line body_length line_byte net_record record_step replayed measured sample_record ticked met homed changed by_power samples_in
sampled = (refl, refl)

pub homed-run : Homed
unfolding taken asked report reply_of byte_step request execute reply Servos.own good_byte done status_of numbers_of decimal line body_length line_byte net_record record_step replayed measured sample_record ticked met homed halted_or homing_halt changed by_power samples_in
homed-run = refl

pub stepped : Stepped
unfolding taken asked report reply_of byte_step request execute reply Steppers.own load_meant parameters_meant carried_in in_range loaded storing load_of startable start begun parameters_set Ramp.ticked onward Ramp.changed moved decimal line body_length line_byte net_record record_step replayed measured sample_record samples_in
stepped = refl

pub latest : Latest
unfolding taken asked report reply_of byte_step request execute reply blend decimal line body_length line_byte net_record record_step replayed measured sample_record samples_in
latest = (refl, refl, refl)
