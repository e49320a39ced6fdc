-- Document 01, 'The script program': which step a line asks for. A line is the list of its bytes, without its LF.
use Rattle.std.specs.Prelude.{ℕ, ◌+◌, ◌*◌, ◌-◌, Bool, true, false, List, [], ◌∷◌, eqb, leb, ltb, get_or, Option, Some, None, if◌then◌else◌}
use Rattle.laws.specs.Ascii.{ascii}
use Rattle.rules.specs.declared.parts.Device.TheVariants.{Pca9663, Pcu9669}
use Rattle.rules.specs.declared.wires.Edge.TheVariants.{Rising, Falling}
use Rattle.rules.specs.declared.wires.Event.{Event}
use Rattle.rules.specs.declared.wires.Event.TheVariants.{Ninth, Byte, Tick, Stop, Sda, Scl, Ill, Sent}
use Rattle.rules.specs.declared.wires.Level.TheVariants.{Low, High}
use Rattle.steps.specs.declared.map.Step.{Step}
use Rattle.steps.specs.declared.map.Step.TheVariants.{Write, Read, Wire, Trigger, Reset}

-- every form below is shorter: the longest, `E c BYTE bb`, has 11 bytes, and there is room for a longer one. So a line of so many bytes or more can't be
-- read, and its first bytes, so many, are read as it is (`first_bytes_lem`, proofs/Laws/Grammar.antt). It is shut: laws go by its name
unfoldable pub line_room : ℕ
line_room = 16

-- upper-case hex: 0 to 9 stand at 48 to 57, A to F at 65 to 70
unfoldable pub is_hex : ℕ → Bool
is_hex b = if ltb b 58 then leb 48 b else if ltb b 71 then leb 65 b else false

-- the value of a hex digit, and 0 of any other byte
unfoldable pub hex_of : ℕ → ℕ
hex_of b = if is_hex b then (if ltb b 58 then b - 48 else b - 55) else 0

-- the value of the digit at place i of a line
abbrev pub digit_at : List ℕ → ℕ → ℕ
digit_at l i = hex_of (get_or l i 0)

-- the byte of the two digits from place i
abbrev pub byte_at : List ℕ → ℕ → ℕ
byte_at l i = 16 * digit_at l i + digit_at l (i + 1)

-- a form is written as document 01 writes it: its lower-case letters, from 97 on, stand for hex digits, every other byte for itself
unfoldable pub suiting : ℕ → ℕ → Bool
suiting letter b = if leb 97 letter then is_hex b else eqb b letter

-- a line has a form: it has as many bytes, and each suits its letter; nothing before, between or after them
unfoldable pub in_form : List ℕ → List ℕ → Bool
in_form [] [] = true
in_form [] (b ∷ l) = false
in_form (letter ∷ form) [] = false
in_form (letter ∷ form) (b ∷ l) = if suiting letter b then in_form form l else false

-- `E c ..`: an event of channel c
abbrev pub wire_line : List ℕ → Event → Option Step
wire_line l e = Some (Wire (digit_at l 2) e)

-- `E c SDA`, `E c SCL`, `E c ILL`; any other line can't be read
unfoldable pub fault_line : List ℕ → Option Step
fault_line l =
    if in_form (ascii "E c SDA") l then wire_line l Sda
    else if in_form (ascii "E c SCL") l then wire_line l Scl
    else if in_form (ascii "E c ILL") l then wire_line l Ill
    else None

-- `E c TICK`, `E c STOP`
unfoldable pub clock_line : List ℕ → Option Step
clock_line l =
    if in_form (ascii "E c TICK") l then wire_line l Tick
    else if in_form (ascii "E c STOP") l then wire_line l Stop
    else fault_line l

-- `E c ACK`, `E c SENT`, `E c NACK`, `E c BYTE bb`. ACK and NACK become the one event that carries the level, low meaning acknowledged
unfoldable pub event_line : List ℕ → Option Step
event_line l =
    if in_form (ascii "E c ACK") l then wire_line l (Ninth Low)
    else if in_form (ascii "E c SENT") l then wire_line l Sent
    else if in_form (ascii "E c NACK") l then wire_line l (Ninth High)
    else if in_form (ascii "E c BYTE bb") l then wire_line l (Byte (byte_at l 9))
    else clock_line l

-- `T R` or `T F`
unfoldable pub edge_line : List ℕ → Option Step
edge_line l =
    if in_form (ascii "T R") l then Some (Trigger Rising)
    else if in_form (ascii "T F") l then Some (Trigger Falling)
    else event_line l

-- a step a line: `W aa dd`, `R aa`, `X` or `X 9669` (hardware reset, of the PCA9663 or the PCU9669), or one of the above
unfoldable pub line_of : List ℕ → Option Step
line_of l =
    if in_form (ascii "W aa dd") l then Some (Write (byte_at l 2) (byte_at l 5))
    else if in_form (ascii "R aa") l then Some (Read (byte_at l 2))
    else if in_form (ascii "X") l then Some (Reset Pca9663)
    else if in_form (ascii "X 9669") l then Some (Reset Pcu9669)
    else edge_line l
