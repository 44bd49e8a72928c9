-- What a receiver lane has taken.
use Rattle.std.proofs.Common.{◌≡◌, ℕ, ◌-◌, Bool, List, [], ◌∷◌, ◌++◌, length, drop, Option, Some, None, refl, ◌∙◌, arith}
use Rattle.link_params.specs.declared.fields.Params.{Params}
use Rattle.link_params.specs.declared.fields.Timing.{Timing}
use Rattle.link_params.specs.declared.cells.LaneCell.{LaneCell}
use Rattle.link_params.specs.Lanes.{Entry, Taken}
use Rattle.code_8b10b.specs.declared.hunt.Lock.{Lock as HuntLock}
use Rattle.code_8b10b.specs.Commas.{found, HasHunted}
use Rattle.jesd_base.specs.Bits.{bits}
use Rattle.lane_b.specs.declared.chars.Chars.{Chars}
use Rattle.lane_b.specs.declared.receiver.Chain.{Chain}
use Rattle.lane_b.specs.declared.receiver.Step.{Step}
use Rattle.lane_b.specs.declared.receiver.Step.TheVariants.{Stay, Keep, Drop}
use Rattle.lane_b.specs.kept.Gives.{given, ComesInOrder, Holds}
use Rattle.lane_b.specs.declared.receiver.State.TheVariants.{Hunting, Locked}
use Rattle.lane_b.specs.Locking.{lock, lock_from, bits_taken}
use Rattle.lane_b.specs.Received.{entries_b}
use Rattle.lane_b.specs.kept.Receivers.{Receiver, AreTens, HuntsOn, IsLocked, HasTaken}
use Rattle.lane_b.specs.kept.Ticks.{Does, Keeps}
use Rattle.lane_b.proofs.SearchLemmas.{searches-start, are_tens-more}
use Rattle.lane_b.proofs.StageLemmas.{hunts-more, locks-now, entries-hunts, entries-not_started}

-- ---- a hunt that begins

holds_nothing : Holds [] 0 [] 0
holds_nothing = record { within = omega arith; count = refl; wait = tt; in_order = tt }

entries_b-nothing : (p : Params) (t : Timing) (lane : ℕ) → entries_b p t lane [] ≡ []
unfolding entries_b lock lock_from
entries_b-nothing p t lane = refl

pub has_taken-nothing : (now : Receiver) (p : Params) (t : Timing) (lane : ℕ) (h : List Bool) → now.params ≡ p → now.timing ≡ t → now.lane ≡ lane
    → now.state ≡ Hunting h → now.placed ≡ 0 → now.buffer.cells ≡ [] → HasHunted h [] → HasTaken now p t lane [] 0
has_taken-nothing now p t lane h params timing of_lane state placed cells hunted = record {
  params = params;
  timing = timing;
  of_lane = of_lane;
  words = tt;
  stands = rw state (record { from = 0; searches = searches-start; hunted = hunted });
  holds = rw (entries_b-nothing p t lane, placed, cells) holds_nothing;
}

-- ---- a tick more

module _ (old : Receiver) (p : Params) (t : Timing) (lane : ℕ) (taken : List Taken) (gave : ℕ) (x : Taken) (ten : length x.word ≡ 10) (h : HasTaken old p t lane taken gave) where
  words_more : AreTens (taken ++ x ∷ [])
  words_more = are_tens-more taken x h.words ten

  -- a hunt goes on
  pub has_taken-hunts : (hunt new : List Bool) → old.state ≡ Hunting hunt → ((bs : List Bool) → HasHunted hunt bs → HasHunted new (bs ++ x.word))
      → HasTaken (record old { state = Hunting new }) p t lane (taken ++ x ∷ []) gave
  has_taken-hunts hunt new is goes =
      let o : HuntsOn hunt taken = rw is at h.stands in
      let more : HuntsOn new (taken ++ x ∷ []) = hunts-more hunt new taken x o (goes (drop o.from (bits_taken taken)) o.hunted) in
      let holds = rw (entries-hunts p t lane hunt taken h.words o) at h.holds in
      record {
        params = h.params;
        timing = h.timing;
        of_lane = h.of_lane;
        words = words_more;
        stands = more;
        holds = rw (entries-hunts p t lane new (taken ++ x ∷ []) words_more more) holds;
      }

  -- a hunt ends
  pub has_taken-locks : (hunt : List Bool) (l : HuntLock) (new : Chars) → old.state ≡ Hunting hunt → ((bs : List Bool) → HasHunted hunt bs → found (bs ++ x.word) ≡ Some l)
      → new.rest ≡ l.rest → bits 10 new.last ≡ x.word → new.rd ≡ l.rd
      → HasTaken (record old { state = Locked (record { chars = new; start = None }) }) p t lane (taken ++ x ∷ []) gave
  has_taken-locks hunt l new is answers rest last rd =
      let o : HuntsOn hunt taken = rw is at h.stands in
      let k : Chain = record { chars = new; start = None } in
      let locked : IsLocked k p t lane (taken ++ x ∷ []) =
      locks-now hunt taken x l new p t lane o ten (answers (drop o.from (bits_taken taken)) o.hunted) rest last rd in
      let holds = rw (entries-hunts p t lane hunt taken h.words o) at h.holds in
      record {
        params = h.params;
        timing = h.timing;
        of_lane = h.of_lane;
        words = words_more;
        stands = locked;
        holds = rw (entries-not_started k p t lane (taken ++ x ∷ []) words_more locked refl) holds;
      }

  -- a locked lane
  module _ (k : Chain) (is : old.state ≡ Locked k) where
    locked_before : IsLocked k p t lane taken
    locked_before = rw is at h.stands

    at_once : (step : Step) (new : Chain) → ((ts : List Taken) → AreTens ts → IsLocked k old.params old.timing old.lane ts → Does step new old.params old.timing old.lane ts x)
        → Does step new p t lane taken x
    at_once step new does =
        let here = rw (← h.params, ← h.timing, ← h.of_lane) at locked_before in
        let done = does taken h.words here in
        rw (h.params, h.timing, h.of_lane) at done

    pub has_taken-stays : (new : Chain) → ((ts : List Taken) → AreTens ts → IsLocked k old.params old.timing old.lane ts → Does Stay new old.params old.timing old.lane ts x)
        → HasTaken (record old { state = Locked new }) p t lane (taken ++ x ∷ []) gave
    has_taken-stays new does =
        let done = at_once Stay new does in
        record {
          params = h.params;
          timing = h.timing;
          of_lane = h.of_lane;
          words = words_more;
          stands = done.0;
          holds = rw done.1 h.holds;
        }

    pub has_taken-drops : (new : Chain) (hunt : List Bool) → ((ts : List Taken) → AreTens ts → IsLocked k old.params old.timing old.lane ts → Does Drop new old.params old.timing old.lane ts x)
        → HasHunted hunt (drop (10 - new.chars.rest) x.word) → HasTaken (record old { state = Hunting hunt }) p t lane (taken ++ x ∷ []) gave
    has_taken-drops new hunt does hunted =
        let done = at_once Drop new does in
        let more = done.0 hunt hunted in
        let holds = rw done.1 at h.holds in
        record {
          params = h.params;
          timing = h.timing;
          of_lane = h.of_lane;
          words = words_more;
          stands = more;
          holds = rw (entries-hunts p t lane hunt (taken ++ x ∷ []) words_more more) holds;
        }

    pub has_taken-keeps : (kept : Receiver) (new : Chain) (v : Option LaneCell) → ((ts : List Taken) → AreTens ts → IsLocked k old.params old.timing old.lane ts → Does (Keep v) new old.params old.timing old.lane ts x)
        → Keeps (record old { state = Locked new }) kept
        → ((entries : List Entry) (e : Entry) (n : ℕ) → Holds entries old.placed old.buffer.cells n → v ≡ given e → ComesInOrder entries e
        → Holds (entries ++ e ∷ []) kept.placed kept.buffer.cells n)
        → HasTaken kept p t lane (taken ++ x ∷ []) gave
    has_taken-keeps kept new v does same keeps =
        let done = at_once (Keep v) new does in
        let e = done.1 in
        record {
          params = same.params ∙ h.params;
          timing = same.timing ∙ h.timing;
          of_lane = same.lane ∙ h.of_lane;
          words = words_more;
          stands = rw same.state done.0;
          holds = rw e.added (keeps (entries_b p t lane taken) e.entry gave h.holds e.gives e.in_order);
        }
