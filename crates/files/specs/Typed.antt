-- Request Five, 'read it into an Idle channel as if typed from reset pointers': the register writes that type a file into channel k, TRANCONFIG before DATA.
use Rattle.std.specs.Prelude.{ℕ, ◌+◌, ◌*◌, List, [], ◌∷◌, ◌++◌}
use Rattle.files.specs.File.{count_in, addresses_in, lengths_in, data_in}

-- a write: its address and its value
pub record Typed : Type 0 where
  pub at : ℕ
  pub value : ℕ

-- bytes written one after the other to one address
abbrev pub each_to : ℕ → List ℕ → List Typed
each_to a [] = []
each_to a (v ∷ l) = record { at = a; value = v } ∷ each_to a l

-- register +n of channel k, at C0h, D0h, E0h + n
abbrev pub register_at : ℕ → ℕ → ℕ
register_at k n = 0xC0 + 16 * k + n

-- TRANCONFIG (+4) the count and the lengths, SLATABLE (+3) the addresses, DATA (+5) the bytes
abbrev pub typing : ℕ → List ℕ → List Typed
typing k f = each_to (register_at k 4) (count_in f ∷ lengths_in f) ++ (each_to (register_at k 3) (addresses_in f) ++ each_to (register_at k 5) (data_in f))
