-- REQUEST ONE, proved: of every frame of every channel, whatever follows its begin; and each way in which a frame begins.
use Rattle.std.specs.Prelude.{ℕ, ◌+◌, ◌*◌, ◌<◌, ◌≤◌, true, false, List, ◌≡◌, refl, length}
use Rattle.std.proofs.Common.{◌∙◌, arith}
use Rattle.rules.specs.declared.state.Phase.TheVariants.{Idle, Waiting}
use Rattle.rules.specs.Access.{overrun_of}
use Rattle.rules.specs.Registers.{command_of}
use Rattle.rules.specs.declared.wires.Edge.{Edge}
use Rattle.rules.specs.declared.wires.Event.TheVariants.{Tick}
use Rattle.sequence.specs.Wires.{ticking_of, matches_of}
use Rattle.steps.specs.declared.map.Step.{Step}
use Rattle.steps.specs.declared.map.Step.TheVariants.{Write, Wire, Trigger}
use Rattle.steps.specs.declared.map.Target.{Target}
use Rattle.steps.specs.declared.answer.PartAnswer.{PartAnswer}
use Rattle.steps.specs.Map.{target_of}
use Rattle.steps.proofs.Laws.Map.{in_part}
use Rattle.head.specs.Access.{data_place}
use Rattle.head.specs.Head.{framecnt_of}
use Rattle.part.proofs.Laws.Range.{accepts-whole, whole-accepts, step_accepted, bytes_accepted}
use Rattle.part.proofs.Laws.Kept.{whole-kept}
use Rattle.mixes.specs.Mix.{Machine}
use Rattle.independent.specs.Statement.{State, Accepted, the_part}
use Rattle.frames.specs.Wire.{spent, faults}
use Rattle.frames.specs.Deeds.{runs_of, resets_by, asks_by}
use Rattle.frames.specs.Statement.{channel_of, Fresh, bound_of, Begun, start_watch, log_of, frame_of, Frame, Begins, Rested, Quiet}
use Rattle.frames.proofs.Laws.Asks.{sta_asks, tick_asks, edge_asks}
use Rattle.frames.proofs.Laws.Runs.{Follows, bounded, reached, within, momentary, ordered}
use Rattle.frames.proofs.Laws.Counts.{silent_after, counted, rest_quiet}
use Rattle.frames.proofs.Laws.Begins as laws
use Rattle.frames.proofs.Laws.Resets as reset-laws
use Rattle.frames.proofs.Laws.Start.{begun_holding, begun_runs, begun-left, begun_tally, begun-zero}

module _ {A : Type 0} (M : Machine State A PartAnswer) (aim : A → Target) (f : Follows M aim) where
  -- EVERY FRAME, whatever steps follow its begin
  pub frames : (c : ℕ) (s : State) → Begun c s → (l : List A) → Frame M aim c s l
  frames c s b l =
      let low = b.number in
      let w = start_watch (channel_of c s) in
      let h = begun_holding c s b M aim f in
      let r = begun_runs c s b in
      let e = reached M aim f c low l s w h r in
      record {
        bound = let x = bounded M aim f c low l s w h r in let y = begun-left c s b in omega (arith, x, y);
        runs = e.1;
        awaits = λ t. laws.awaits c _ low e.0 (e.1 ∙ t);
        within = within M aim f c low l s w h r;
        silent = silent_after M aim f c low l s w h r;
        counts = λ k. let x = counted M aim f c low _ _ k l s w refl refl h r in let z = begun-zero c s b k in omega (arith, x, z);
        moments = momentary M aim f c low l s w h r;
        order = λ k j p d i.
            let x = ordered M aim f c low k l s w h r 0 p d (begun_tally c s b M aim f k) in
            let y = x.fits in
            (omega (arith, y, i), (let z : 0 + j ≡ j = omega arith in rw z at (x.bytes j i)));
        pace = λ k p d.
            let x = ordered M aim f c low k l s w h r 0 p d (begun_tally c s b M aim f k) in
            let y = x.least in let z = x.most in (omega (arith, y), omega (arith, z));
      }

  -- the customer's sentence: a frame with no SDA, SCL or ILL takes at most its count plus its summed lengths plus one of the ACK, NACK, BYTE and STOP events
  -- answered 0
  pub frame_bound : (c : ℕ) (s : State) → Begun c s → (l : List A) → faults (log_of M aim c s (frame_of M aim c s l)) ≡ 0
      → spent (log_of M aim c s (frame_of M aim c s l)) ≤ bound_of (channel_of c s)
  frame_bound c s b l e = let x = (frames c s b l).bound in omega (arith, x)

  module _ (c : ℕ) (s : State) (acc : Accepted s) (low : c < 3) (three : length s.part.channels ≡ 3) where
    inside : c < length s.part.channels
    inside = rw three low

    -- EVERY BEGIN
    pub begins : (a : A) → asks_by c s.part (aim a) ≡ true → Begins M aim c s a
    begins a e = laws.begins M aim f c low s a acc inside e

    -- AND NO OTHER
    pub rested : (a : A) → runs_of (channel_of c s).head.walk.phase ≡ false → asks_by c s.part (aim a) ≡ false → resets_by c s.part (aim a) ≡ false → Rested M aim c s a
    rested a r e q = laws.rested M aim f c low s a acc inside r e q

    -- after a frame, or after one that was over at once, until the next
    pub quiet : (l : List A) → runs_of (channel_of c s).head.walk.phase ≡ false → Quiet M aim c s l
    quiet l r = rest_quiet M aim f c low l s acc inside r

    -- what is called a reset is one
    pub resets : (a : A) → resets_by c s.part (aim a) ≡ true → Fresh (channel_of c (M.after s a))
    resets a e = reset-laws.resets M aim f c low s a acc inside e

-- ---- of the part's steps
pub part_follows : Follows the_part target_of
part_follows = record {
  concerns = in_part;
  keeps = λ s a e. whole-accepts _ _ (whole-kept s.part s.memory a (accepts-whole s.part s.memory e));
  after = λ s a e. rw (step_accepted s.part s.memory a e, bytes_accepted s.part s.memory a e);
  actions = λ s a e. rw (step_accepted s.part s.memory a e);
  hears = λ s a c e. rw (step_accepted s.part s.memory a e);
}

pub frames_of_steps : (c : ℕ) (s : State) → Begun c s → (l : List Step) → Frame the_part target_of c s l
frames_of_steps = frames the_part target_of part_follows

pub bound_of_steps : (c : ℕ) (s : State) → Begun c s → (l : List Step) → faults (log_of the_part target_of c s (frame_of the_part target_of c s l)) ≡ 0
    → spent (log_of the_part target_of c s (frame_of the_part target_of c s l)) ≤ bound_of (channel_of c s)
bound_of_steps = frame_bound the_part target_of part_follows

-- STA written to CONTROL of an Idle channel with TE 0, not dropped by an AIPTRRST that is answered no. 5; TICK in Waiting with TE 0 and FRAMECNT not 1; a trigger
-- edge in Waiting with TE 1 and matching TP
module _ (c : ℕ) (s : State) (acc : Accepted s) (low : c < 3) (three : length s.part.channels ≡ 3) where
  pub by_sta : (v : ℕ) → (channel_of c s).head.walk.phase ≡ Idle → (command_of v).sta ≡ true → (command_of v).te ≡ false
      → overrun_of (command_of v).aiptrrst (data_place (channel_of c s).head (channel_of c s).tranconfig) ≡ false → Begins the_part target_of c s (Write (0xC0 + 16 * c) v)
  by_sta v e sta te over = begins the_part target_of part_follows c s acc low three _ (sta_asks c s.part low v e sta te over)

  pub by_tick : (channel_of c s).head.walk.phase ≡ Waiting → ticking_of (channel_of c s).head.regs.te (framecnt_of (channel_of c s).head) ≡ true
      → Begins the_part target_of c s (Wire c Tick)
  by_tick e t = begins the_part target_of part_follows c s acc low three _ (tick_asks c s.part low e t)

  pub by_trigger : (edge : Edge) → (channel_of c s).head.walk.phase ≡ Waiting → (channel_of c s).head.regs.te ≡ true
      → matches_of (channel_of c s).head.regs.tp edge ≡ true → Begins the_part target_of c s (Trigger edge)
  by_trigger edge e te m = begins the_part target_of part_follows c s acc low three _ (edge_asks c s.part low edge e te m)
