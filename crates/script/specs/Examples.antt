-- Lines that can be read and lines that can't, computed by the definitions.
use Rattle.std.specs.Prelude.{[], ◌≡◌, refl, Some, None}
use Rattle.laws.specs.Ascii.{ascii}
use Rattle.rules.specs.declared.parts.Device.TheVariants.{Pca9663, Pcu9669}
use Rattle.rules.specs.declared.wires.Event.TheVariants.{Ninth, Byte, Stop, Sent}
use Rattle.rules.specs.declared.wires.Level.TheVariants.{Low, High}
use Rattle.steps.specs.declared.map.Step.TheVariants.{Write, Wire, Reset}
use Rattle.script.specs.Grammar.{is_hex, hex_of, suiting, in_form, fault_line, clock_line, event_line, edge_line, line_of}

read_write : line_of (ascii "W C5 7E") ≡ Some (Write 0xC5 0x7E)
unfolding line_of in_form suiting is_hex hex_of
read_write = refl

read_ack : line_of (ascii "E 0 ACK") ≡ Some (Wire 0 (Ninth Low))
unfolding line_of edge_line event_line in_form suiting is_hex hex_of
read_ack = refl

read_nack : line_of (ascii "E 0 NACK") ≡ Some (Wire 0 (Ninth High))
unfolding line_of edge_line event_line in_form suiting is_hex hex_of
read_nack = refl

read_sent : line_of (ascii "E 1 SENT") ≡ Some (Wire 1 Sent)
unfolding line_of edge_line event_line in_form suiting is_hex hex_of
read_sent = refl

read_first : line_of (ascii "X") ≡ Some (Reset Pca9663)
unfolding line_of in_form suiting
read_first = refl

read_second : line_of (ascii "X 9669") ≡ Some (Reset Pcu9669)
unfolding line_of in_form suiting
read_second = refl

-- the first part has no name of its own on a line
no_name : line_of (ascii "X 9663") ≡ None
unfolding line_of edge_line event_line clock_line fault_line in_form suiting is_hex
no_name = refl

read_stop : line_of (ascii "E 0 STOP") ≡ Some (Wire 0 Stop)
unfolding line_of edge_line event_line clock_line in_form suiting is_hex hex_of
read_stop = refl

read_byte : line_of (ascii "E F BYTE 0A") ≡ Some (Wire 15 (Byte 10))
unfolding line_of edge_line event_line in_form suiting is_hex hex_of
read_byte = refl

no_new_word : line_of (ascii "E 0 NINTH") ≡ None
unfolding line_of edge_line event_line clock_line fault_line in_form suiting is_hex
no_new_word = refl

lower_case : line_of (ascii "W c5 7E") ≡ None
unfolding line_of edge_line event_line clock_line fault_line in_form suiting is_hex
lower_case = refl

empty : line_of [] ≡ None
unfolding line_of edge_line event_line clock_line fault_line in_form
empty = refl
