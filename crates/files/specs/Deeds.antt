-- Reading and writing a sequence file are channel steps, each with a file buffer of its own: works of an Idle channel (crate works).
use Rattle.std.specs.Prelude.{ℕ, List, refl, length}
use Rattle.works.specs.Work.{Work}
use Rattle.works.specs.Idle.{Deed}
use Rattle.works.proofs.IdleWork.{idle_work}
use Rattle.files.specs.File.{fault_of, fault_number, over}
use Rattle.files.specs.Work.{loaded_own, file_from, room_number}
use Rattle.files.specs.Laws.Kept.{load_keeps}

-- the file f read: 10 where it is not readable; the buffer is left
abbrev pub load_deed : List ℕ → Deed
load_deed f = record {
  lent = f;
  number = λ o. fault_number (fault_of f);
  change = loaded_own f;
  hands = λ o. f;
  keeps = load_keeps f;
  stays = λ o. refl;
  unkeys = λ o. refl;
  numbers = λ o. refl;
  blind = λ o. refl;
}

-- the file written into a buffer that holds `out`: 11 where there is no room; the channel is left, and so are the bytes past the file
abbrev pub save_deed : List ℕ → Deed
save_deed out = record {
  lent = out;
  number = λ o. room_number o.channel.tranconfig (length out);
  change = λ o. o;
  hands = λ o. over (file_from o) out;
  keeps = λ o h i e. h;
  stays = λ o. refl;
  unkeys = λ o. refl;
  numbers = λ o. refl;
  blind = λ o. refl;
}

abbrev pub load_work : List ℕ → Work
load_work f = idle_work (load_deed f)

abbrev pub save_work : List ℕ → Work
save_work out = idle_work (save_deed out)
