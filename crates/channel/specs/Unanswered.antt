-- Document 02, request Three: what a channel is like to which nobody ever answered. A UFm channel is so from a reset on (`served_keeps`, proofs/Laws/Straps.antt).
use Rattle.std.specs.Prelude.{ℕ, ◌<◌, false, List, ◌≡◌, get_or}
use Rattle.rules.specs.declared.state.Flags.{Flags}
use Rattle.channel.specs.declared.state.Channel.{Channel}

-- STATUS uses only its two low bits
abbrev pub LowStatus : List ℕ → Type 0
LowStatus l = (n : ℕ) → get_or l n 0 < 4

-- WE, RE, DAE and CLE are 0
pub record NoFault (f : Flags) : Type 0 where
  pub we : f.we ≡ false
  pub re : f.re ≡ false
  pub dae : f.dae ≡ false
  pub cle : f.cle ≡ false

abbrev pub Unanswered : Channel → Type 0
Unanswered c = LowStatus c.status × NoFault c.head.flags
