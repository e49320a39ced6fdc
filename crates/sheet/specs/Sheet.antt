-- Document 01, 'Bench sheet': its ten P lines, one table under one statement. Each row is run from the reset state, and the checker computes it.
use Rattle.std.specs.Prelude.{List, [], ◌∷◌, ◌++◌, replicate}
use Rattle.rules.specs.declared.parts.Device.TheVariants.{Pca9663}
use Rattle.rules.specs.declared.wires.Action.TheVariants.{S, R, C, A, Np, P}
use Rattle.rules.specs.declared.wires.Event.TheVariants.{Ninth, Byte, Tick, Stop}
use Rattle.rules.specs.declared.wires.Level.TheVariants.{Low, High}
use Rattle.steps.specs.declared.map.Step.TheVariants.{Write, Wire, Reset}
use Rattle.sheet.specs.Run.{Entry, points, Row, from_reset, does, acts, refuses, writes, reads}

-- 1. Reset: C9h reads 01h, CBh 5Eh, CDh 92h, F6h 63h.
abbrev pub row1 : Row
row1 = from_reset (reads 0xC9 0x01 ∷ reads 0xCB 0x5E ∷ reads 0xCD 0x92 ∷ reads 0xF6 0x63 ∷ [])

-- 2. Count 0, STA: no action, CONTROL and CHSTATUS 00h.
abbrev pub row2 : Row
row2 = from_reset (writes 0xC4 0 ∷ writes 0xC0 0x40 ∷ reads 0xC0 0x00 ∷ reads 0xC1 0x00 ∷ [])

-- 3. One write, CONTROL 60h from Idle: starts, reads 40h.
abbrev pub row3 : Row
row3 = from_reset (writes 0xC4 1 ∷ writes 0xC4 1 ∷ writes 0xC3 0x40 ∷ acts (Write 0xC0 0x60) (S 0x40) ∷ reads 0xC0 0x40 ∷ [])

-- 4. Write to 40h, length 0: S40, ACK gives P.
abbrev pub row4 : Row
row4 = from_reset (writes 0xC4 1 ∷ writes 0xC4 0 ∷ writes 0xC3 0x40 ∷ acts (Write 0xC0 0x40) (S 0x40) ∷ acts (Wire 0 (Ninth Low)) P ∷ [])

-- 5. Read length 0, then write 42h length 0: first action S42, STATUS 0 is 02h.
abbrev pub row5 : Row
row5 =
    from_reset
    (writes 0xC4 2 ∷ writes 0xC4 0 ∷ writes 0xC4 0
    ∷ writes 0xC3 0x41 ∷ writes 0xC3 0x42
    ∷ acts (Write 0xC0 0x40) (S 0x42)
    ∷ reads 0x00 0x02
    ∷ [])

-- 6. Read 41h length 2: S41, C, A, NP. Then the two bytes are read back: they come later than STA.
abbrev pub row6 : Row
row6 =
    from_reset
    (writes 0xC4 1 ∷ writes 0xC4 2 ∷ writes 0xC3 0x41
    ∷ acts (Write 0xC0 0x40) (S 0x41)
    ∷ acts (Wire 0 (Ninth Low)) C
    ∷ acts (Wire 0 (Byte 0xB1)) A
    ∷ acts (Wire 0 (Byte 0xB2)) Np
    ∷ reads 0xC5 0xB1 ∷ reads 0xC5 0xB2
    ∷ [])

-- 7. The same, STO before the ACK: C, NP, BYTECOUNT 1, STATUS 01h, CHSTATUS 80h.
abbrev pub row7 : Row
row7 =
    from_reset
    (writes 0xC4 1 ∷ writes 0xC4 2 ∷ writes 0xC3 0x41
    ∷ acts (Write 0xC0 0x40) (S 0x41)
    ∷ writes 0xC0 0x20
    ∷ acts (Wire 0 (Ninth Low)) C
    ∷ acts (Wire 0 (Byte 0xB1)) Np
    ∷ does (Wire 0 Stop)
    ∷ reads 0xC8 1 ∷ reads 0x00 0x01 ∷ reads 0xC1 0x80
    ∷ [])

-- 8. FRAMECNT 2, CHSTATUS unread: C0h at the end.
abbrev pub row8 : Row
row8 =
    from_reset
    (writes 0xC9 2 ∷ writes 0xC4 1 ∷ writes 0xC4 0 ∷ writes 0xC3 0x40
    ∷ acts (Write 0xC0 0x40) (S 0x40) ∷ acts (Wire 0 (Ninth Low)) P ∷ does (Wire 0 Stop)
    ∷ acts (Wire 0 Tick) (S 0x40) ∷ acts (Wire 0 (Ninth Low)) P ∷ does (Wire 0 Stop)
    ∷ reads 0xC1 0xC0
    ∷ [])

-- writes to 40h and 42h, one byte each
abbrev pub two_writes : List Entry
two_writes = writes 0xC4 2 ∷ writes 0xC4 1 ∷ writes 0xC4 1 ∷ writes 0xC3 0x40 ∷ writes 0xC3 0x42 ∷ acts (Write 0xC0 0x40) (S 0x40) ∷ []

-- 9. Writes to 40h and 42h, NACK on the first: P, CHSTATUS 20h. With INTMSK 20h: R42.
abbrev pub row9 : Row
row9 =
    from_reset
    (two_writes
    ++ (acts (Wire 0 (Ninth High)) P ∷ does (Wire 0 Stop) ∷ reads 0xC1 0x20
    ∷ does (Reset Pca9663) ∷ writes 0xC2 0x20
    ∷ two_writes
    ++ (acts (Wire 0 (Ninth High)) (R 0x42) ∷ [])))

-- 10. Seventeen lengths of 255: TRANSEL 17 points at 4,335; TRANOFS 16 at 4,351; TRANOFS 17 no. 5.
abbrev pub row10 : Row
row10 =
    from_reset
    (writes 0xC4 17 ∷ replicate 17 (writes 0xC4 255)
    ++ (writes 0xC6 17 ∷ points 0 4335
    ∷ writes 0xC7 16 ∷ points 0 4351
    ∷ refuses (Write 0xC7 17) 5
    ∷ []))

unfoldable pub sheet : List Row
sheet = row1 ∷ row2 ∷ row3 ∷ row4 ∷ row5 ∷ row6 ∷ row7 ∷ row8 ∷ row9 ∷ row10 ∷ []
