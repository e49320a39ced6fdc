-- A deed of an Idle channel as a work.
use Rattle.std.specs.Prelude.{false}
use Rattle.works.specs.Work.{Work}
use Rattle.works.specs.Idle.{Deed, deed_after, deed_gives}
use Rattle.works.proofs.Laws.Idle.{after_sound, after_stays, after_unkeyed, gives_unkeyed}

-- it forgets no key and sets none: no write to the part
abbrev pub idle_work : Deed → Work
idle_work d = record {
  lent = d.lent;
  after = deed_after d;
  gives = deed_gives d;
  writes = false;
  keeps = after_sound d;
  stays = after_stays d;
  unkeys = after_unkeyed d;
  blind = gives_unkeyed d;
}
