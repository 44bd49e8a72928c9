-- A tick of a lane.
use Rattle.std.proofs.Common.{◌≡◌, ℕ, Bool, true, false, List, [], ◌∷◌, ◌++◌, refl, sym, ap, ◌∙◌, subst}
use Rattle.std.specs.Prelude.{if◌then◌else◌}
use Rattle.jesd_base.specs.Bits.{bits}
use Rattle.link_params.specs.declared.fields.Params.{Params}
use Rattle.link_params.specs.declared.fields.Timing.{Timing}
use Rattle.link_params.specs.declared.orders.TxOrder.{TxOrder}
use Rattle.link_params.specs.declared.orders.RxOrder.{RxOrder}
use Rattle.link_params.specs.Numbers.{depth, width}
use Rattle.link_params.specs.Lanes.{Taken}
use Rattle.line_model.specs.LineBits.{line_word}
use Rattle.line_model.specs.kept.Lines.{HasCarried}
use Rattle.scenario.specs.Plans.{Plan}
use Rattle.link_model.specs.Carried.{with_polarity}
use Rattle.link_model.specs.Kinds.{kind_of}
use Rattle.link_model.specs.kept.LaneRuns.{LaneRun, bits_with, handed_with, stepped, word_with}
use Rattle.link_model.specs.Sends.{last_of}
use Rattle.link_model.specs.Wiring.{route_of, wire_of}
use Rattle.lane_threads.specs.declared.rx_lane.RxLane.{RxLane}
use Rattle.lane_threads.specs.kept.LaneEnds.{HasSent, HasTaken, buffer_in}
use Rattle.lane_threads.specs.kept.LaneRuns.{HasRunLane, Pair, settings}

last_of-push : (xs : List (List Bool)) (d x : List Bool) → last_of d (xs ++ x ∷ []) ≡ x
unfolding last_of
last_of-push [] d x = refl
last_of-push (y ∷ ys) d x = last_of-push ys y x

by-hunt : (hunt : Bool) (now : RxLane) (p : Params) (t : Timing) (lane : ℕ)
    (begun longer : List Taken) (gave : ℕ) → (hunt ≡ true → HasTaken now p t lane begun 0)
    → (hunt ≡ false → HasTaken now p t lane longer gave)
    → HasTaken now p t lane (if hunt then begun else longer) (if hunt then 0 else gave)
by-hunt true now p t lane begun longer gave begins goes_on = begins refl
by-hunt false now p t lane begun longer gave begins goes_on = goes_on refl

-- what the parts of a lane do in a tick: w is sent, r is received
pub record HasTicked (new : Pair) (s : Plan) (lane : ℕ) (x : LaneRun) (order : TxOrder)
    (octets : ℕ) (told : RxOrder) (w r : ℕ) : Type 0 where
  pub sends : (kind_of s.link.params).sends s.link.params (wire_of s lane)
      (handed_with x order octets)
      ≡ (kind_of s.link.params).sends s.link.params (wire_of s lane) x.handed
      ++ bits (width s.link.params) w ∷ []
  pub sent : HasSent new.tx s.link.params (wire_of s lane) (handed_with x order octets)
  pub answer : bits (width s.link.params) r ≡ with_polarity x.inverted (line_word (width s.link.params)
      (x.sent ++ bits (width s.link.params) w) (settings s lane x).flips x.delay x.dead)
  pub carried : HasCarried new.line (settings s lane x) (x.sent ++ bits (width s.link.params) w)
  pub goes_on : told.hunt ≡ false
      → HasTaken new.rx s.link.params s.link.timing (route_of s lane)
      (x.taken ++ (record { order = told; word = bits (width s.link.params) r }) ∷ []) x.gave
  pub begins : told.hunt ≡ true
      → HasTaken new.rx s.link.params s.link.timing (route_of s lane)
      ((record { order = told; word = bits (width s.link.params) r }) ∷ []) 0
  pub polarity : new.inverted ≡ x.inverted
  pub same_depth : (buffer_in new.rx).depth ≡ depth s.link.params s.link.timing

pub lane-ticks : (new : Pair) (s : Plan) (lane : ℕ) (x : LaneRun) (order : TxOrder) (octets : ℕ)
    (told : RxOrder) (w r : ℕ)
    → HasTicked new s lane x order octets told w r
    → HasRunLane new s lane (stepped (kind_of s.link.params) s lane x order octets told)
lane-ticks new s lane x order octets told w r t =
    let k = kind_of s.link.params in
    let sends : bits_with k s lane x order octets ≡ bits (width s.link.params) w =
    ap (last_of []) t.sends
    ∙ last_of-push (k.sends s.link.params (wire_of s lane) x.handed) [] (bits (width s.link.params) w) in
    let same : bits (width s.link.params) w ≡ bits_with k s lane x order octets = sym sends in
    let word : bits (width s.link.params) r ≡ word_with k s lane x order octets =
    t.answer
    ∙ ap (λ bs. with_polarity x.inverted (line_word (width s.link.params) (x.sent ++ bs)
    (settings s lane x).flips x.delay x.dead)) same in
    record {
      tx = t.sent;
      line = subst (λ (bs : List Bool). HasCarried new.line (settings s lane x) (x.sent ++ bs)) same
          t.carried;
      rx = by-hunt told.hunt new.rx s.link.params s.link.timing (route_of s lane) _ _ x.gave
          (λ hunts. subst (λ (bs : List Bool). HasTaken new.rx s.link.params s.link.timing (route_of s lane)
          ((record { order = told; word = bs }) ∷ []) 0) word (t.begins hunts))
          (λ stays. subst (λ (bs : List Bool). HasTaken new.rx s.link.params s.link.timing (route_of s lane)
          (x.taken ++ (record { order = told; word = bs }) ∷ []) x.gave) word (t.goes_on stays));
      polarity = t.polarity;
      depth = t.same_depth;
    }
