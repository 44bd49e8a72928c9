-- How many entries a lane's buffer holds, tick by tick, for each stage of the receiver.
use Rattle.std.proofs.Common.{◌≡◌, ℕ, ◌+◌, ◌-◌, ◌%◌, ◌<◌, ◌≤◌, ◌==◌, ◌⊎◌, Bool, true, false, not, if◌then◌else◌, List, [], ◌∷◌, ◌++◌, length, get_or, Option, Some, None, inl, inr, refl, sym, ap, ◌∙◌, length-append, arith}
use Rattle.std.proofs.Math.Nat.{mod-lt}
use Rattle.std.proofs.lemmas.Bool.{cases_Bool, cases_lt, cond-true, cond-false, eqb-true, eq-eqb}
use Rattle.link_params.specs.declared.fields.Params.{Params}
use Rattle.link_params.specs.declared.fields.Timing.{Timing}
use Rattle.link_params.specs.declared.lane_report.LaneReport.{LaneReport}
use Rattle.link_params.specs.Lanes.{LaneKind, Taken, is_inside}
use Rattle.link_params.specs.Numbers.{depth, period, width}
use Rattle.bring_up.specs.declared.stage.Stage.{Stage}
use Rattle.bring_up.specs.declared.stage.Stage.TheVariants as stage
use Rattle.bring_up.specs.declared.stage.Decision.{Decision}
use Rattle.bring_up.specs.declared.stage.Decision.TheVariants as decision
use Rattle.bring_up.specs.Decisions.{Standing, after_decision, decide, is_hunting, is_running}
use Rattle.lane_b.proofs.LaneEntries.{cases-found}
use Rattle.lane_c.specs.kept.Receivers.{IsArmedOn}
use Rattle.link_model.proofs.DecisionCases.{hunt-cases, no_report, run-cases, wait-cases}
use Rattle.link_model.proofs.KindFacts.{AreTicks, KindFacts, StartsNow, started_by}
use Rattle.link_model.proofs.WindowFacts.{ComesAfter, IsLegal, comes-after-start, goes-near, near-offset, ticks_left}
use Rattle.link_model.specs.Hunts.{is_hunt}
use Rattle.link_model.specs.Receives.{offset_at}
use Rattle.link_model.specs.Run.{is_at}

-- a lane that started inside at offset f has n entries in phase x, and a release point comes after
-- so many ticks
pub record IsOnWay (p : Params) (t : Timing) (x f n : ℕ) : Type 0 where
  pub left : ℕ
  pub some : 1 ≤ left
  pub short : left < period p
  pub count : n + left ≡ ticks_left p t f + 1
  pub comes : ComesAfter p t x left

-- the same, where this tick may be the release point
record Arrives (p : Params) (t : Timing) (x f n : ℕ) : Type 0 where
  left : ℕ
  short : left < period p
  count : n + left ≡ ticks_left p t f + 1
  comes : ComesAfter p t x left

-- after a tick in a hunt
pub record InHunt (started : Option ℕ) (n g : ℕ) : Type 0 where
  pub unstarted : started ≡ None
  pub empty : n ≡ 0
  pub gave : g ≡ 0

-- after a tick in which the receiver waits
pub record InWait (p : Params) (t : Timing) (phase started : Option ℕ) (n g : ℕ) : Type 0 where
  pub gave : g ≡ 0
  pub x : ℕ
  pub phase_is : phase ≡ Some x
  pub below : x < period p
  pub unstarted : started ≡ None → n ≡ 0
  pub outside : (f : ℕ) → started ≡ Some f → is_inside t f ≡ false → n ≡ 0
  pub inside : (f : ℕ) → started ≡ Some f → is_inside t f ≡ true → IsOnWay p t x f n

-- after a tick in which the lanes run
pub record InRun (p : Params) (t : Timing) (started : Option ℕ) (n g : ℕ) : Type 0 where
  pub offset : ℕ
  pub is : started ≡ Some offset
  pub inside : is_inside t offset ≡ true
  pub count : n ≡ g + ticks_left p t offset

-- after a tick in this stage: n entries came, and g were given
abbrev pub LaneIn : Stage → Params → Timing → Option ℕ → Option ℕ → ℕ → ℕ → Type 0
LaneIn stage.Hunt p t phase started n g = InHunt started n g
LaneIn stage.Wait p t phase started n g = InWait p t phase started n g
LaneIn stage.Run p t phase started n g = InRun p t started n g

abbrev one_more : Stage → ℕ → ℕ
one_more after g = g + (if is_running after then 1 else 0)

-- what a tick leaves of a lane that gave g entries before; d: the decision, after: the stage after
-- it
pub record Outcome (p : Params) (t : Timing) (d : Decision) (after : Stage)
    (phase started : Option ℕ) (n g : ℕ) : Type 0 where
  pub hunts : is_hunt d ≡ true → after ≡ stage.Hunt
  pub goes : is_hunt d ≡ false
      → LaneIn after p t phase started n (g + (if is_running after then 1 else 0))
  pub within : g + (if is_running after then 1 else 0) ≤ n
  pub fits : n - (g + (if is_running after then 1 else 0)) ≤ depth p t
  pub gives : is_running after ≡ true → g < n

cases-stage : (k : Stage) → (k ≡ stage.Hunt) ⊎ ((k ≡ stage.Wait) ⊎ (k ≡ stage.Run))
cases-stage stage.Hunt = inl refl
cases-stage stage.Wait = inr (inl refl)
cases-stage stage.Run = inr (inr refl)

at-point : (o : Option ℕ) (n : ℕ) → is_at o n ≡ true → o ≡ Some n
at-point None n e = let bad : false ≡ true = e in absurd (cc)
at-point (Some x) n e = ap Some (eqb-true x n e)

module _ (p : Params) (t : Timing) (legal : IsLegal p t) where
  -- there is room for one entry more
  pub room-in : (k : Stage) (phase started : Option ℕ) (n g : ℕ) → LaneIn k p t phase started n g
      → n - g < depth p t
  room-in stage.Hunt phase started n g h =
      let empty = h.empty in
      omega arith
  room-in stage.Wait phase started n g h =
      elim (cases-found started) [
        | inr none ↦ let empty = h.unstarted none in omega arith
        | inl k ↦ elim (cases_Bool (is_inside t k.0)) [
          | inl i ↦
              let near = (near-offset p t k.0 legal i).fits in
              let way = h.inside k.0 k.1 i in
              let count = way.count in
              let some = way.some in
              omega arith
          | inr o ↦ let empty = h.outside k.0 k.1 o in omega arith
        ]
      ]
  room-in stage.Run phase started n g h =
      let near = (near-offset p t h.offset legal h.inside).fits in
      let count = h.count in
      omega arith

  to-hunt : (d : Decision) (after : Stage) (phase started : Option ℕ) (n g : ℕ) → d ≡ decision.Hunt
      → after ≡ stage.Hunt → g ≤ n → n - g ≤ depth p t
      → Outcome p t d after phase started n g
  to-hunt d after phase started n g d_is is all few = rw (d_is, is) (record {
    hunts = λ e. refl;
    goes = λ e. let bad : true ≡ false = e in absurd (cc);
    within = omega arith;
    fits = omega arith;
    gives = λ e. let bad : false ≡ true = e in absurd (cc);
  })

  stays-hunt : (d : Decision) (after : Stage) (phase started : Option ℕ) (n g : ℕ)
      → after ≡ stage.Hunt → InHunt started n g
      → Outcome p t d after phase started n g
  stays-hunt d after phase started n g is h = rw is (
      let empty = h.empty in
      let gave = h.gave in
      record {
        hunts = λ e. refl;
        goes = λ e. record { unstarted = h.unstarted; empty = empty; gave = omega arith };
        within = omega arith;
        fits = omega arith;
        gives = λ e. let bad : false ≡ true = e in absurd (cc);
      })

  to-wait : (d : Decision) (after : Stage) (phase started : Option ℕ) (n g : ℕ) → is_hunt d ≡ false
      → after ≡ stage.Wait → InWait p t phase started n g
      → n ≤ depth p t → Outcome p t d after phase started n g
  to-wait d after phase started n g calm is w few = rw is (
      let gave = w.gave in
      record {
        hunts = λ e. let bad : true ≡ false = sym e ∙ calm in absurd (cc);
        goes = λ e. record {
          gave = omega arith;
          x = w.x;
          phase_is = w.phase_is;
          below =
              w.below;
          unstarted = w.unstarted;
          outside = w.outside;
          inside = w.inside;
        };
        within = omega arith;
        fits = omega arith;
        gives = λ e. let bad : false ≡ true = e in absurd (cc);
      })

  to-run : (d : Decision) (after : Stage) (phase started : Option ℕ) (n g : ℕ) → is_hunt d ≡ false
      → after ≡ stage.Run → InRun p t started n (g + 1)
      → Outcome p t d after phase started n g
  to-run d after phase started n g calm is r = rw is (
      let near = (near-offset p t r.offset legal r.inside).fits in
      let count = r.count in
      record {
        hunts = λ e. let bad : true ≡ false = sym e ∙ calm in absurd (cc);
        goes = λ e. r;
        within = omega arith;
        fits = omega arith;
        gives = λ e. omega arith;
      })

  -- a tick more in a lane
  module _ (kind : LaneKind) (facts : KindFacts kind p t) (lane : ℕ) (taken : List Taken)
      (w : Taken)
      (ticks : AreTicks (width p) taken) (size : length w.word ≡ width p)
      (armed_on : IsArmedOn taken w.order) where
    pub started : Option ℕ
    started = started_by kind p t lane taken

    later : Option ℕ
    later = started_by kind p t lane (taken ++ w ∷ [])

    n : ℕ
    n = length (kind.entries p t lane taken)

    pub m : ℕ
    m = length (kind.entries p t lane (taken ++ w ∷ []))

    -- a lane that is not armed
    unarmed : w.order.armed ≡ false → started ≡ None → (later ≡ None) × (m ≡ 0)
    unfolding started later m
    unarmed off none = elim (facts.unstarted lane taken w ticks size armed_on none) [
      | inl u ↦ (u.started, ap length u.entries)
      | inr s ↦ let on = s.armed in absurd (cc)
    ]

    -- a lane while the receiver waits
    record Arriving (x : ℕ) : Type 0 where
      unstarted : later ≡ None → m ≡ 0
      outside : (f : ℕ) → later ≡ Some f → is_inside t f ≡ false → m ≡ 0
      inside : (f : ℕ) → later ≡ Some f → is_inside t f ≡ true → Arrives p t x f m

    arriving-none : (x : ℕ) → later ≡ None → m ≡ 0 → Arriving x
    arriving-none x none empty = record {
      unstarted = λ e. empty;
      outside = λ f e o. empty;
      inside = λ f e i. let bad : None ≡ Some f = sym none ∙ e in absurd (cc);
    }

    arriving-starts : (x : ℕ) → x < period p → w.order.offset ≡ offset_at p t (Some x)
        → StartsNow kind p t lane taken w → Arriving x
    unfolding later m
    arriving-starts x below offset s =
        let entries = s.entries in
        record {
          unstarted = λ e. let is = s.started in absurd (cc);
          outside = λ f e o.
              let is = s.started in
              let same : w.order.offset ≡ f = cc in
              ap length (entries ∙ cond-false (is_inside t w.order.offset) (s.entry ∷ []) []
              (ap (is_inside t) same ∙ o));
          inside = λ f e i.
              let is = s.started in
              let same : w.order.offset ≡ f = cc in
              let at : f ≡ offset_at p t (Some x) = sym same ∙ offset in
              let one : length (kind.entries p t lane (taken ++ w ∷ [])) ≡ 1 =
              ap length (entries ∙ cond-true (is_inside t w.order.offset) (s.entry ∷ []) []
              (ap (is_inside t) same ∙ i)) in
              let here : is_inside t (offset_at p t (Some x)) ≡ true = sym (ap (is_inside t) at)
              ∙ i in
              let comes : ComesAfter p t x (ticks_left p t f) =
              rw at (comes-after-start p t x legal below here) in
              record {
                left = ticks_left p t f;
                short = (near-offset p t f legal i).near;
                count =
                    omega arith;
                comes = comes;
              };
        }

    arriving-started : (phase : Option ℕ) (x g f : ℕ) → InWait p t phase started n g
        → phase ≡ Some x → started ≡ Some f → Arriving ((x + 1) % period p)
    unfolding started later n m
    arriving-started phase x g f before phase_is some =
        let more = facts.started lane taken w f ticks size armed_on some in
        record {
          unstarted = λ e. let is = more.started in absurd (cc);
          outside = λ k e o.
              let is = more.started in
              let same : f ≡ k = cc in
              ap length (more.outside (ap (is_inside t) same ∙ o));
          inside = λ k e i.
              let is = more.started in
              let same : f ≡ k = cc in
              let also = before.phase_is in
              let at : before.x ≡ x = cc in
              let low = before.below in
              let way = before.inside k (some ∙ ap Some same) i in
              let g = goes-near p t before.x way.left legal low way.some way.short way.comes in
              let long = ap length (more.inside (ap (is_inside t) same ∙ i))
              ∙ length-append (kind.entries p t lane taken) (more.entry ∷ []) in
              let less = g.less in
              let count = way.count in
              let short = way.short in
              let comes : ComesAfter p t ((x + 1) % period p) g.left = rw (← at) g.comes in
              record { left = g.left; short = omega arith; count = omega arith; comes = comes };
        }

    arriving : (phase : Option ℕ) (x g : ℕ) → InWait p t phase started n g → phase ≡ Some x
        → w.order.offset ≡ offset_at p t (Some ((x + 1) % period p))
        → Arriving ((x + 1) % period p)
    unfolding started later m
    arriving phase x g before phase_is offset =
        let some = legal.some in
        let below : (x + 1) % period p < period p =
        mod-lt (x + 1) (let pos : 0 < period p = omega arith in pos) in
        elim (cases-found started) [
          | inl k ↦ arriving-started phase x g k.0 before phase_is k.1
          | inr none ↦ elim (facts.unstarted lane taken w ticks size armed_on none) [
            | inl u ↦ arriving-none ((x + 1) % period p) u.started (ap length u.entries)
            | inr s ↦ arriving-starts ((x + 1) % period p) below offset s
          ]
        ]

    -- the entries fit
    arriving-fits : (x : ℕ) → Arriving x → m ≤ depth p t
    arriving-fits x a = elim (cases-found later) [
      | inr none ↦ let empty = a.unstarted none in omega arith
      | inl k ↦ elim (cases_Bool (is_inside t k.0)) [
        | inl i ↦
            let near = (near-offset p t k.0 legal i).fits in
            let count = (a.inside k.0 k.1 i).count in
            omega arith
        | inr o ↦ let empty = a.outside k.0 k.1 o in omega arith
      ]
    ]

    -- a tick that is no release point
    still-waits : (next : Option ℕ) (x g : ℕ) → Arriving x → next ≡ Some x → x < period p
        → (x == t.rbd) ≡ false → g ≡ 0 → InWait p t next later m g
    still-waits next x g a next_is below apart gave = record {
      gave = gave;
      x = x;
      phase_is = next_is;
      below = below;
      unstarted = a.unstarted;
      outside = a.outside;
      inside = λ f e i.
          let r = a.inside f e i in
          let comes = r.comes in
          let some : 1 ≤ r.left = elim (cases_lt 0 r.left) [
            | inl more ↦ more
            | inr none ↦ elim comes [
              | inl h ↦ let at : (x == t.rbd) ≡ true = eq-eqb x t.rbd (omega arith) in absurd (cc)
              | inr h ↦ absurd (omega arith)
            ]
          ] in
          record { left = r.left; some = some; short = r.short; count = r.count; comes = comes };
    }

    -- a release point
    all-come : (x f : ℕ) → Arriving x → x ≡ t.rbd → later ≡ Some f → is_inside t f ≡ true
        → m ≡ ticks_left p t f + 1
    all-come x f a at e i =
        let r = a.inside f e i in
        let short = r.short in
        let count = r.count in
        elim r.comes [ inl h ↦ omega arith | inr h ↦ absurd (omega arith) ]

    module _ (before : Standing) (reports : List LaneReport) (decides : Bool) (d : Decision)
        (after : Stage)
        (d_is : d
        ≡ (if decides then (decide p t before.stage before.since reports).decision else
        decision.Stay))
        (after_is : after
        ≡ (if decides then
        (after_decision before reports
        (decide p t before.stage before.since reports).decision).stage else before.stage)) where
      off : decides ≡ false → (d ≡ decision.Stay) × (after ≡ before.stage)
      off e = (
        d_is ∙ cond-false decides (decide p t before.stage before.since reports).decision
            decision.Stay e,
        after_is
            ∙ cond-false decides
            (after_decision before reports
            (decide p t before.stage before.since reports).decision).stage before.stage e,
      )

      on : (k : Decision) → decides ≡ true → (decide p t before.stage before.since reports).decision
          ≡ k
          → (d ≡ k) × (after ≡ (after_decision before reports k).stage)
      on k e is = (
        d_is ∙ cond-true decides (decide p t before.stage before.since reports).decision
            decision.Stay e ∙ is,
        after_is
            ∙ cond-true decides
            (after_decision before reports
            (decide p t before.stage before.since reports).decision).stage before.stage e
            ∙ ap (λ (q : Decision). (after_decision before reports q).stage) is,
      )

      at-stage : (k : Stage) (e : Decision) → before.stage ≡ k
          → (decide p t k before.since reports).decision ≡ e
          → (decide p t before.stage before.since reports).decision ≡ e
      at-stage k e is h = ap (λ (q : Stage). (decide p t q before.since reports).decision) is ∙ h

      hunt-step : (next : Option ℕ) (g : ℕ) → before.stage ≡ stage.Hunt
          → w.order.armed ≡ not (is_hunting before.stage) → (decides ≡ true → next ≡ Some t.rbd)
          → InHunt started n g → Outcome p t d after next later m g
      hunt-step next g is armed next_is h =
          let u = unarmed (armed ∙ ap (λ (q : Stage). not (is_hunting q)) is) h.unstarted in
          let here : InHunt later m g = record { unstarted = u.0; empty = u.1; gave = h.gave } in
          elim (cases_Bool decides) [
            | inr e ↦ stays-hunt d after next later m g ((off e).1 ∙ is) here
            | inl e ↦ elim (hunt-cases p t before.since reports) [
              | inr c ↦
                  stays-hunt d after next later m g
                  ((on decision.Stay e (at-stage stage.Hunt decision.Stay is c)).1 ∙ is) here
              | inl c ↦
                  let o = on decision.Arm e (at-stage stage.Hunt decision.Arm is c) in
                  let empty = u.1 in
                  to-wait d after next later m g (ap is_hunt o.0) o.1 (record {
                    gave = h.gave;
                    x = t.rbd;
                    phase_is = next_is e;
                    below = legal.rbd;
                    unstarted = λ b. empty;
                    outside = λ f b o. empty;
                    inside = λ f b i. let none = u.0 in absurd (cc);
                  }) (omega arith)
            ]
          ]

      run-step : (next : Option ℕ) (g : ℕ) → before.stage ≡ stage.Run → InRun p t started n g
          → Outcome p t d after next later m g
      unfolding started later n m
      run-step next g is r =
          let more = facts.started lane taken w r.offset ticks size armed_on r.is in
          let near = (near-offset p t r.offset legal r.inside).fits in
          let count = r.count in
          let long = ap length (more.inside r.inside) ∙ length-append (kind.entries p t lane taken)
          (more.entry ∷ []) in
          let here : InRun p t later m (g + 1) =
          record {
            offset = r.offset;
            is = more.started;
            inside = r.inside;
            count =
                omega arith;
          } in
          elim (cases_Bool decides) [
            | inr e ↦ let o = off e in to-run d after next later m g (ap is_hunt o.0)
                (o.1 ∙ is) here
            | inl e ↦ elim (run-cases p t before.since reports) [
              | inr c ↦ let o = on decision.Stay e (at-stage stage.Run decision.Stay is c) in
                  to-run d after next later m g (ap is_hunt o.0) (o.1 ∙ is) here
              | inl c ↦ let o = on decision.Hunt e (at-stage stage.Run decision.Hunt is c) in
                  to-hunt d after next later m g o.0 o.1 (omega arith) (omega arith)
            ]
          ]

      wait-step : (phase : Option ℕ) (next : Option ℕ) (x g place : ℕ) → before.stage ≡ stage.Wait
          → phase ≡ Some x → next ≡ Some ((x + 1) % period p)
          → w.order.offset ≡ offset_at p t next → decides ≡ is_at next t.rbd → place < length reports
          → (get_or reports place no_report).started ≡ later
          → InWait p t phase started n g → Outcome p t d after next later m g
      wait-step phase next x g place is phase_is next_is offset decides_is below report h =
          let y : ℕ = (x + 1) % period p in
          let some = legal.some in
          let low : y < period p = mod-lt (x + 1) (let pos : 0 < period p = omega arith in pos) in
          let a = arriving phase x g h phase_is (offset ∙ ap (offset_at p t) next_is) in
          let few = arriving-fits y a in
          let at : decides ≡ (y == t.rbd) = decides_is
          ∙ ap (λ (o : Option ℕ). is_at o t.rbd) next_is in
          let gave = h.gave in
          elim (cases_Bool decides) [
            | inr e ↦
                let o = off e in
                to-wait d after next later m g (ap is_hunt o.0) (o.1 ∙ is)
                (still-waits next y g a next_is low (sym at ∙ e) gave) few
            | inl e ↦
                let now : y ≡ t.rbd = eqb-true y t.rbd (sym at ∙ e) in
                elim (wait-cases p t before.since reports) [
                  | inl c ↦ let o = on decision.Hunt e (at-stage stage.Wait decision.Hunt is c) in
                      to-hunt d after next later m g o.0 o.1 (omega arith) (omega arith)
                  | inr more ↦ elim more [
                    | inl r ↦
                        let o =
                        on decision.Release e (at-stage stage.Wait decision.Release is r.is) in
                        let own = r.lanes place below in
                        let begun : later ≡ Some own.offset = sym report ∙ own.is in
                        let all = all-come y own.offset a now begun own.inside in
                        to-run d after next later m g (ap is_hunt o.0) o.1
                        (record {
                          offset = own.offset;
                          is = begun;
                          inside = own.inside;
                          count =
                              omega arith;
                        })
                    | inr k ↦
                        let o = on decision.Stay e (at-stage stage.Wait decision.Stay is k.is) in
                        let none : later ≡ None = sym report ∙ k.lanes place below in
                        let empty = a.unstarted none in
                        to-wait d after next later m g (ap is_hunt o.0) (o.1 ∙ is) (record {
                          gave = gave;
                          x = y;
                          phase_is = next_is;
                          below = low;
                          unstarted = λ b. empty;
                          outside = λ f b o. empty;
                          inside = λ f b i. let bad : None ≡ Some f = sym none ∙ b in absurd (cc);
                        }) few
                  ]
                ]
          ]

      -- the report of the lane is at this place of them
      pub lane-step : (phase next : Option ℕ) (g place : ℕ)
          → w.order.armed ≡ not (is_hunting before.stage) → w.order.offset ≡ offset_at p t next
          → ((x : ℕ) → phase ≡ Some x → before.stage ≡ stage.Wait
          → next ≡ Some ((x + 1) % period p)) → decides ≡ is_at next t.rbd
          → place < length reports
          → (get_or reports place no_report).started ≡ started_by kind p t lane (taken ++ w ∷ [])
          → LaneIn before.stage p t phase (started_by kind p t lane taken)
          (length (kind.entries p t lane taken)) g
          → Outcome p t d after next (started_by kind p t lane (taken ++ w ∷ []))
          (length (kind.entries p t lane (taken ++ w ∷ []))) g
      unfolding started later n m
      lane-step phase next g place armed offset goes decides_is below report h =
          elim (cases-stage before.stage) [
            | inl is ↦
                let here : InHunt started n g = rw is at h in
                hunt-step next g is armed (λ e. at-point next t.rbd (sym decides_is ∙ e)) here
            | inr more ↦ elim more [
              | inl is ↦
                  let here : InWait p t phase started n g = rw is at h in
                  wait-step phase next here.x g place is here.phase_is (goes here.x here.phase_is is)
                  offset
                  decides_is below report here
              | inr is ↦ let here : InRun p t started n g = rw is at h in run-step next g is here
            ]
          ]
