-- What is said of sequence files beside the promises of the calls: words for the theorems (proofs/Theorem.antt).
use Rattle.std.specs.Prelude.{ℕ, List, ◌∷◌, map, ◌≡◌, length, get_or}
use Rattle.laws.specs.Lists.{All}
use Rattle.rules.specs.declared.parts.Straps.{Straps}
use Rattle.steps.specs.declared.map.Op.{Op}
use Rattle.steps.specs.declared.map.Op.TheVariants.{Write}
use Rattle.head.specs.declared.state.Answer.{Answer}
use Rattle.channel.specs.declared.state.Channel.{Channel}
use Rattle.channel.specs.State.{fresh, zeros}
use Rattle.channel.specs.Step.{step_of, bytes_after}
use Rattle.part.specs.State.{chan}
use Rattle.mixes.specs.Mix.{Machine, ends, log}
use Rattle.works.specs.State.{State}
use Rattle.works.specs.Work.{Own, Sound}
use Rattle.works.specs.Idle.{IdleOwn, Spares, deed_number, deed_after, deed_out}
use Rattle.files.specs.File.{Blocks, Readable, file_of, count_in, addresses_in, lengths_in, data_in, over}
use Rattle.files.specs.Typed.{Typed, typing}
use Rattle.files.specs.Work.{file_from, loaded_own, first_addresses, first_lengths, first_bytes}
use Rattle.files.specs.Deeds.{load_deed, save_deed}

-- the tables have as many entries as document 01 says; the code's types say so, but the logic sees lists
pub record Shaped (c : Channel) : Type 0 where
  pub slatable : length c.slatable ≡ 64
  pub tranconfig : length c.tranconfig ≡ 65
  pub status : length c.status ≡ 64
  pub bytecount : length c.bytecount ≡ 64

-- an Idle channel in range, with its 4,352 bytes
pub record Resting (o : Own) : Type 0 where
  pub sound : Sound o
  pub shaped : Shaped o.channel
  pub idle : IdleOwn o

-- ---- THE FILE

-- the file of these blocks is readable, and gives them back
pub record Back (a b d : List ℕ) : Type 0 where
  pub readable : Readable (file_of a b d)
  pub addresses : addresses_in (file_of a b d) ≡ a
  pub lengths : lengths_in (file_of a b d) ≡ b
  pub bytes : data_in (file_of a b d) ≡ d

-- f is the file of its blocks
pub record OfItsBlocks (f : List ℕ) : Type 0 where
  pub blocks : Blocks (addresses_in f) (lengths_in f) (data_in f)
  pub whole : file_of (addresses_in f) (lengths_in f) (data_in f) ≡ f

-- ---- READ AND WRITTEN

-- read into o, and then written into any output that is long enough: both answered 0, and the output is the file and then what it held behind
pub record ReadWritten (f : List ℕ) (o : Own) (out : List ℕ) : Type 0 where
  pub read : deed_number (load_deed f) o ≡ 0
  pub written : deed_number (save_deed out) (deed_after (load_deed f) o) ≡ 0
  pub output : deed_out (save_deed out) (deed_after (load_deed f) o) ≡ over f out

-- o writes this file
pub record Writes (o : Own) (f : List ℕ) : Type 0 where
  pub answered : deed_number (save_deed f) o ≡ 0
  pub file : file_from o ≡ f

-- the file f written from o into an output, and then read into q: the output is f and then what it held behind; the read is answered 0, and q has the first count
-- transactions of o, and zeros
pub record WrittenRead (f : List ℕ) (o : Own) (out : List ℕ) (q : Own) : Type 0 where
  pub output : deed_out (save_deed out) o ≡ over f out
  pub read : deed_number (load_deed f) q ≡ 0
  pub after : deed_after (load_deed f) q ≡ loaded_own f q
  pub count : count_in f ≡ get_or o.channel.tranconfig 0 0
  pub addresses : addresses_in f ≡ first_addresses o.channel.slatable o.channel.tranconfig
  pub lengths : lengths_in f ≡ first_lengths o.channel.tranconfig
  pub bytes : data_in f ≡ first_bytes o.channel.tranconfig o.bytes

-- ---- TYPED

-- channel k alone, by its public step
abbrev pub the_channel : ℕ → Machine Own Op Answer
the_channel k = record {
  answer = λ o op. (step_of o.channel o.bytes k op).answer;
  after = λ o op. record { channel = (step_of o.channel o.bytes k op).channel; bytes = bytes_after o.channel o.bytes k op };
  owner = λ op. k;
}

abbrev pub written : Typed → Op
written t = Write t.at t.value

abbrev pub typed : ℕ → List ℕ → List Op
typed k f = map written (typing k f)

-- reset pointers
pub record Rewound (c : Channel) : Type 0 where
  pub sla : c.head.ptrs.sla ≡ 0
  pub conf : c.head.ptrs.conf ≡ 0
  pub buf : c.head.ptrs.buf ≡ 0

-- typed into o: each write is answered 0, and the tables and bytes are the file's over those of o
pub record TypedIn (k : ℕ) (f : List ℕ) (o : Own) : Type 0 where
  pub answered : All (λ x. x.1.number ≡ 0) (log (the_channel k) o (typed k f))
  pub slatable : (ends (the_channel k) o (typed k f)).channel.slatable ≡ over (addresses_in f) o.channel.slatable
  pub tranconfig : (ends (the_channel k) o (typed k f)).channel.tranconfig ≡ over (count_in f ∷ lengths_in f) o.channel.tranconfig
  pub bytes : (ends (the_channel k) o (typed k f)).bytes ≡ over (data_in f) o.bytes

-- two channels have the same tables and bytes
pub record SameTables (o q : Own) : Type 0 where
  pub slatable : o.channel.slatable ≡ q.channel.slatable
  pub tranconfig : o.channel.tranconfig ≡ q.channel.tranconfig
  pub bytes : o.bytes ≡ q.bytes

-- a channel after a reset
abbrev pub reset_own : Straps → Own
reset_own x = record { channel = fresh x; bytes = zeros }

-- ---- WHAT STAYS

-- a file that is read or written leaves the other channels' own, BE, CTRLINTMSK, and every key
pub record Untouched (c : ℕ) (s t : State) : Type 0 where
  pub spares : Spares c s t
  pub be : t.part.be ≡ s.part.be
  pub key : (chan t.part c).head.key ≡ (chan s.part c).head.key
