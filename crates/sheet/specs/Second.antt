-- Document 02, request Three: rows that are run on the PCU9669, and the checker computes them.
use Rattle.std.specs.Prelude.{List, [], ◌∷◌, ◌++◌}
use Rattle.rules.specs.declared.parts.Device.TheVariants.{Pca9663, Pcu9669}
use Rattle.rules.specs.declared.wires.Action.TheVariants.{S, D, P}
use Rattle.rules.specs.declared.wires.Event.TheVariants.{Ninth, Sent, Ill, Stop}
use Rattle.rules.specs.declared.wires.Level.TheVariants.{Low}
use Rattle.steps.specs.declared.map.Step.TheVariants.{Write, Wire, Reset}
use Rattle.sheet.specs.Run.{Entry, Row, from, does, acts_at, refuses, writes, reads}

-- defaults: DBh 20h, DCh 08h, DDh 83h, DEh 00h; channel 2's the same, channel 0's as on the PCA9663; DEVICE_ID E9h
abbrev pub defaults : Row
defaults =
    from Pcu9669
    (reads 0xDB 0x20 ∷ reads 0xDC 0x08 ∷ reads 0xDD 0x83 ∷ reads 0xDE 0x00 ∷ reads 0xEB 0x20 ∷ reads 0xEC 0x08 ∷ reads 0xED 0x83
    ∷ reads 0xCB 0x5E ∷ reads 0xCC 0x3F ∷ reads 0xCD 0x92 ∷ reads 0xF6 0xE9
    ∷ [])

-- a write of one byte: SENT in place of ACK, BYTECOUNT 1, STATUS 02h, CHSTATUS 80h
abbrev pub written : Row
written =
    from Pcu9669
    (writes 0xD4 1 ∷ writes 0xD4 1 ∷ writes 0xD3 0x40 ∷ writes 0xD5 0x7E
    ∷ acts_at 1 (Write 0xD0 0x40) (S 0x40) ∷ acts_at 1 (Wire 1 Sent) (D 0x7E) ∷ acts_at 1 (Wire 1 Sent) P ∷ does (Wire 1 Stop)
    ∷ reads 0xD8 1 ∷ reads 0x40 0x02 ∷ reads 0xD1 0x80
    ∷ [])

-- a transaction whose bit 0 is 1 and whose length is 1, before a write: skipped as done, and the write's byte is the second
abbrev pub passed : Row
passed =
    from Pcu9669
    (writes 0xD4 2 ∷ writes 0xD4 1 ∷ writes 0xD4 1 ∷ writes 0xD3 0x41 ∷ writes 0xD3 0x42 ∷ writes 0xD5 0xAA ∷ writes 0xD5 0xBB
    ∷ acts_at 1 (Write 0xD0 0x40) (S 0x42) ∷ reads 0x40 0x02 ∷ acts_at 1 (Wire 1 Sent) (D 0xBB)
    ∷ [])

-- a write of length 0 on its way
abbrev pub sending : List Entry
sending = writes 0xD4 1 ∷ writes 0xD4 0 ∷ writes 0xD3 0x40 ∷ acts_at 1 (Write 0xD0 0x40) (S 0x40) ∷ []

-- ACK there and SENT on channel 0 are no. 7; ILL sets SSE
abbrev pub heard : Row
heard = from Pcu9669 (sending ++ (refuses (Wire 1 (Ninth Low)) 7 ∷ refuses (Wire 0 Sent) 7 ∷ does (Wire 1 Ill) ∷ reads 0xD1 0x02 ∷ []))

-- PRESET and CTRLPRESET keep the part, `X` chooses the PCA9663
abbrev pub kept : Row
kept =
    from Pcu9669
    (writes 0xDB 0x40 ∷ writes 0xDF 0xA5 ∷ writes 0xDF 0x5A ∷ reads 0xDB 0x20
    ∷ writes 0xF7 0xA5 ∷ writes 0xF7 0x5A ∷ reads 0xF6 0xE9 ∷ reads 0xDD 0x83
    ∷ does (Reset Pca9663) ∷ reads 0xF6 0x63 ∷ reads 0xDD 0x92
    ∷ does (Reset Pcu9669) ∷ reads 0xF6 0xE9
    ∷ [])

unfoldable pub second : List Row
second = defaults ∷ written ∷ passed ∷ heard ∷ kept ∷ []
