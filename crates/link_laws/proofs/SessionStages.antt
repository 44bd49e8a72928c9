-- The stages of a session in order: the receiver hunts until it arms the lanes, waits until it
-- releases, and runs.
use Rattle.std.proofs.Common.{◌≡◌, ℕ, zero, suc, ◌+◌, ◌-◌, ◌*◌, ◌<◌, ◌≤◌, ◌==◌, ◌⊎◌, ◌||◌, if◌then◌else◌, Bool, true, false, [], ◌∷◌, length, get_or, None, inl, inr, refl, sym, ap, ◌∙◌, length-append, arith}
use Rattle.std.proofs.Math.Nat.{mul-le-mul_left}
use Rattle.std.proofs.lemmas.Bool.{cases_Bool, cases_lt, eqb-true}
use Rattle.link_params.specs.declared.alarms.Device.TheVariants.{Rx}
use Rattle.link_params.specs.Lanes.{LaneKind}
use Rattle.link_params.specs.Numbers.{period}
use Rattle.bring_up.specs.declared.stage.Stage.{Stage}
use Rattle.bring_up.specs.declared.stage.Stage.TheVariants as stage
use Rattle.bring_up.specs.declared.stage.Decision.{Decision}
use Rattle.bring_up.specs.declared.stage.Decision.TheVariants as decision
use Rattle.bring_up.specs.Decisions.{Standing, after_decision}
use Rattle.scenario.specs.Plans.{Plan}
use Rattle.link_model.specs.Edges.{is_reset}
use Rattle.link_model.specs.Hunts.{is_hunt}
use Rattle.link_model.proofs.DecisionCases.{no_report}
use Rattle.link_model.specs.Sessions.{at, decides_hunt, first_tick, hunts_at}
use Rattle.link_laws.proofs.RunTicks.{stands, stands-first, stands-reset}
use Rattle.link_laws.proofs.Phases.{HasEdges, phases-apart}
use Rattle.link_laws.proofs.Stages.{arms-fourth, before, before-suc, decision_at, hunt-step, phase-decides, released-in, run-step, stands-decided, stands-undecided, undecided, wait-step}

-- the ticks of the session of hunt h up to t: no hunt by a decision before t, and no reset of the
-- receiver up to it
pub record Goes (kind : LaneKind) (s : Plan) (h t : ℕ) : Type 0 where
  pub begins : hunts_at kind s h ≡ true
  pub above : h < t
  pub quiet : (i : ℕ) → h < i → i ≤ t → is_reset s Rx i ≡ false
  pub goes : (i : ℕ) → h < i → i < t → decides_hunt kind s i ≡ false

cases-stage : (k : Stage) → (k ≡ stage.Hunt) ⊎ ((k ≡ stage.Wait) ⊎ (k ≡ stage.Run))
cases-stage stage.Hunt = inl refl
cases-stage stage.Wait = inr (inl refl)
cases-stage stage.Run = inr (inr refl)

cases-reset : (s : Plan) (t : ℕ) → (is_reset s Rx t ≡ true) ⊎ (is_reset s Rx t ≡ false)
cases-reset s t = cases_Bool (is_reset s Rx t)

is-hunt : (d : Decision) → is_hunt d ≡ true → d ≡ decision.Hunt
is-hunt decision.Hunt e = refl
is-hunt decision.Stay e = let bad : false ≡ true = e in absurd (cc)
is-hunt decision.Arm e = let bad : false ≡ true = e in absurd (cc)
is-hunt decision.Release e = let bad : false ≡ true = e in absurd (cc)

-- the run's first hunt, or one by a reset
pub or_parts3 : (h : ℕ) (r d : Bool) → ((h == 0) || r || d) ≡ true → d ≡ false
    → (h ≡ 0) ⊎ (r ≡ true)
or_parts3 h r d all apart = elim (cases_Bool (h == 0)) [
  | inl z ↦ inl (eqb-true h 0 z)
  | inr some ↦ elim (cases_Bool r) [
    | inl e ↦ inr e
    | inr e ↦ let bad : false ≡ true = sym (rw (some, e, apart) refl) ∙ all in absurd (cc)
  ]
]

-- an armed stage, in a session
pub record ArmedSince (kind : LaneKind) (s : Plan) (first u : ℕ) : Type 0 where
  pub tick : ℕ
  pub from : first ≤ tick
  pub below : tick < u
  pub arms : decision_at kind s tick ≡ decision.Arm
  pub decides : (at kind s tick).decides ≡ true
  pub hunts : before kind s tick ≡ stage.Hunt
  pub waits : (i : ℕ) → tick < i → i ≤ u → before kind s i ≡ stage.Wait

pub record RunsSince (kind : LaneKind) (s : Plan) (first u : ℕ) : Type 0 where
  pub tick : ℕ
  pub from : first ≤ tick
  pub below : tick < u
  pub releases : decision_at kind s tick ≡ decision.Release
  pub runs : (i : ℕ) → tick < i → i ≤ u → before kind s i ≡ stage.Run

module _ (kind : LaneKind) (s : Plan) (h t : ℕ) (g : Goes kind s h t) where
  first : ℕ
  first = first_tick kind s h

  pub first-low : h ≤ first_tick kind s h
  first-low = elim (cases_Bool (decides_hunt kind s h)) [
    | inl e ↦ rw e (omega arith)
    | inr e ↦
        rw e (omega arith)
  ]

  pub first-high : first_tick kind s h ≤ h + 1
  first-high = elim (cases_Bool (decides_hunt kind s h)) [
    | inl e ↦ rw e (omega arith)
    | inr e ↦
        rw e (omega arith)
  ]

  -- the receiver hunts in the first tick
  pub begins-hunting : before kind s (first_tick kind s h) ≡ stage.Hunt
  begins-hunting = elim (cases_Bool (decides_hunt kind s h)) [
    | inl e ↦
        let up = g.above in
        let is : decision_at kind s h ≡ decision.Hunt = is-hunt (decision_at kind s h) e in
        let now : first_tick kind s h ≡ suc h = rw e (omega arith) in
        let still : (at kind s h).stage ≡ stage.Hunt = elim (cases-stage (before kind s h)) [
          | inl k ↦ elim (hunt-step kind s h k) [
            | inl a ↦ let no = a.0 in absurd (cc)
            | inr a ↦
                a.1
          ]
          | inr more ↦ elim more [
            | inl k ↦ elim (wait-step kind s h k) [
              | inl a ↦ a.1
              | inr a ↦ elim a [
                | inl r ↦ let no = r.releases in absurd (cc)
                | inr w ↦ let no =
                    w.stays in absurd (cc)
              ]
            ]
            | inr k ↦ elim (run-step kind s h k) [
              | inl a ↦ a.1
              | inr a ↦ let no = a.0 in
                  absurd (cc)
            ]
          ]
        ] in
        ap (before kind s) now ∙ before-suc kind s h (g.quiet (suc h) (omega arith) (omega arith))
        ∙ still
    | inr e ↦
        let now : first_tick kind s h ≡ h = rw e refl in
        ap (before kind s) now
        ∙ ap (λ (x : Standing). x.stage)
        (elim (or_parts3 h (is_reset s Rx h) (decides_hunt kind s h) g.begins e) [
          | inl z ↦ ap (stands kind s) z ∙ stands-first kind s
          | inr r ↦ stands-reset kind s h r
        ])
  ]

  pub calm : (u : ℕ) → first_tick kind s h ≤ u → u < t → decides_hunt kind s u ≡ false
  calm u low up = elim (cases_lt h u) [
    | inl above ↦ g.goes u above up
    | inr here ↦ elim (cases_Bool (decides_hunt kind s h)) [
      | inl e ↦ let now : first_tick kind s h ≡ h + 1 = rw e refl in absurd (omega arith)
      | inr e ↦ let same : u ≡ h = (let l = first-low in omega arith) in
          ap (decides_hunt kind s) same ∙ e
    ]
  ]

  no-hunt : (u : ℕ) → first_tick kind s h ≤ u → u < t → decision_at kind s u ≡ decision.Hunt → ⊥
  no-hunt u low up is = let c = calm u low up in
      let bad : is_hunt decision.Hunt ≡ false = sym (ap is_hunt is) ∙ c in absurd (cc)

  goes-on : (u : ℕ) → first_tick kind s h ≤ u → u < t → before kind s (suc u) ≡ (at kind s u).stage
  goes-on u low up = let l = first-low in
      before-suc kind s u (g.quiet (suc u) (omega arith) (omega arith))

  -- while it hunts it has hunted all the time
  pub hunted : (u : ℕ) → first_tick kind s h ≤ u → u ≤ t → before kind s u ≡ stage.Hunt → (i : ℕ)
      → first_tick kind s h ≤ i → i ≤ u
      → before kind s i ≡ stage.Hunt
  hunted zero low up is i from to = let e : i ≡ 0 = omega arith in ap (before kind s) e ∙ is
  hunted (suc u) low up is i from to = elim (cases_lt i (suc u)) [
    | inr here ↦ let e : i ≡ suc u = omega arith in ap (before kind s) e ∙ is
    | inl below ↦
        let on = goes-on u (omega arith) (omega arith) in
        let now : (at kind s u).stage ≡ stage.Hunt = sym on ∙ is in
        let last : before kind s u ≡ stage.Hunt = elim (cases-stage (before kind s u)) [
          | inl k ↦ k
          | inr more ↦ elim more [
            | inl k ↦ elim (wait-step kind s u k) [
              | inl a ↦ absurd (no-hunt u (omega arith) (omega arith) a.0)
              | inr a ↦ elim a [
                | inl r ↦ let no = r.runs in absurd (cc)
                | inr w ↦ let no =
                    w.waits in absurd (cc)
              ]
            ]
            | inr k ↦ elim (run-step kind s u k) [
              | inl a ↦ absurd (no-hunt u (omega arith) (omega arith) a.0)
              | inr a ↦ let no = a.1 in absurd (cc)
            ]
          ]
        ] in
        hunted u (omega arith) (omega arith) last i from (omega arith)
  ]

  at-first : (u : ℕ) (k : Stage) → u ≡ first_tick kind s h → before kind s u ≡ k → k ≡ stage.Hunt
  at-first u k e is = sym is ∙ ap (before kind s) e ∙ begins-hunting

  -- while it waits, it has waited since the decision that armed the lanes
  pub armed-since : (u : ℕ) → first_tick kind s h ≤ u → u ≤ t → before kind s u ≡ stage.Wait
      → ArmedSince kind s (first_tick kind s h) u
  armed-since zero low up is = let e : 0 ≡ first_tick kind s h = omega arith in
      let bad = at-first 0 stage.Wait e is in absurd (cc)
  armed-since (suc u) low up is = elim (cases_lt u (first_tick kind s h)) [
    | inl new ↦ let e : suc u ≡ first_tick kind s h = omega arith in
        let bad = at-first (suc u) stage.Wait e is in absurd (cc)
    | inr old ↦
        let on = goes-on u old (omega arith) in
        let now : (at kind s u).stage ≡ stage.Wait = sym on ∙ is in
        elim (cases-stage (before kind s u)) [
          | inl k ↦ elim (hunt-step kind s u k) [
            | inr a ↦ let no = a.1 in absurd (cc)
            | inl a ↦ record {
              tick = u;
              from = old;
              below = omega arith;
              arms = a.0;
              decides = a.1;
              hunts = k;
              waits = λ i above to. let e : i ≡ suc u = omega arith in ap (before kind s) e ∙ is;
            }
          ]
          | inr more ↦ elim more [
            | inr k ↦ elim (run-step kind s u k) [
              | inl a ↦ let no = a.1 in absurd (cc)
              | inr a ↦
                  let no = a.1 in absurd (cc)
            ]
            | inl k ↦
                let a = armed-since u old (omega arith) k in
                let below = a.below in
                record {
                  tick = a.tick;
                  from = a.from;
                  below = omega arith;
                  arms = a.arms;
                  decides = a.decides;
                  hunts = a.hunts;
                  waits = λ i above to. elim (cases_lt i (suc u)) [
                    | inl before ↦ a.waits i above (omega arith)
                    | inr here ↦ let e : i ≡ suc u = omega arith in ap (before kind s) e ∙ is
                  ];
                }
          ]
        ]
  ]

  -- while it runs, it has run since the release
  pub runs-since : (u : ℕ) → first_tick kind s h ≤ u → u ≤ t → before kind s u ≡ stage.Run
      → RunsSince kind s (first_tick kind s h) u
  runs-since zero low up is = let e : 0 ≡ first_tick kind s h = omega arith in
      let bad = at-first 0 stage.Run e is in absurd (cc)
  runs-since (suc u) low up is = elim (cases_lt u (first_tick kind s h)) [
    | inl new ↦ let e : suc u ≡ first_tick kind s h = omega arith in
        let bad = at-first (suc u) stage.Run e is in absurd (cc)
    | inr old ↦
        let on = goes-on u old (omega arith) in
        let now : (at kind s u).stage ≡ stage.Run = sym on ∙ is in
        elim (cases-stage (before kind s u)) [
          | inl k ↦ elim (hunt-step kind s u k) [
            | inl a ↦ let no = a.2 in absurd (cc)
            | inr a ↦
                let no = a.1 in absurd (cc)
          ]
          | inr more ↦ elim more [
            | inl k ↦ elim (wait-step kind s u k) [
              | inl a ↦ let no = a.1 in absurd (cc)
              | inr a ↦ elim a [
                | inr w ↦ let no = w.waits in absurd (cc)
                | inl r ↦ record {
                  tick = u;
                  from = old;
                  below = omega arith;
                  releases = r.releases;
                  runs = λ i above to. let e : i ≡ suc u = omega arith in ap (before kind s) e ∙ is;
                }
              ]
            ]
            | inr k ↦
                let a = runs-since u old (omega arith) k in
                let below = a.below in
                record {
                  tick = a.tick;
                  from = a.from;
                  below = omega arith;
                  releases = a.releases;
                  runs = λ i above to. elim (cases_lt i (suc u)) [
                    | inl before ↦ a.runs i above (omega arith)
                    | inr here ↦ let e : i ≡ suc u = omega arith in ap (before kind s) e ∙ is
                  ];
                }
          ]
        ]
  ]

  -- from the release on it runs
  pub runs-on : (r u : ℕ) → first_tick kind s h ≤ r → decision_at kind s r ≡ decision.Release
      → r < u → u ≤ t → before kind s u ≡ stage.Run
  runs-on r zero low is above up = absurd (omega arith)
  runs-on r (suc u) low is above up =
      let on = goes-on u (omega arith) (omega arith) in
      elim (cases_lt r u) [
        | inr here ↦
            let e : u ≡ r = omega arith in
            let released : decision_at kind s u ≡ decision.Release = ap (decision_at kind s) e
            ∙ is in
            on ∙ (released-in kind s u released).runs
        | inl later ↦ elim (run-step kind s u (runs-on r u low is later (omega arith))) [
          | inl a ↦ absurd (no-hunt u (omega arith) (omega arith) a.0)
          | inr a ↦ on ∙ a.1
        ]
      ]

  -- at a decision between the arming and the release no lane has started
  pub idle-between : (u : ℕ) → first_tick kind s h ≤ u → u < t → before kind s u ≡ stage.Wait
      → before kind s (suc u) ≡ stage.Wait
      → (at kind s u).decides ≡ true → (i : ℕ) → i < length (at kind s u).reports
      → (get_or (at kind s u).reports i no_report).started ≡ None
  idle-between u low up is later decides i below =
      let on = goes-on u low up in
      elim (wait-step kind s u is) [
        | inl a ↦ let no = a.1 in absurd (cc)
        | inr a ↦
            elim a [ inl r ↦ let no = r.runs in absurd (cc) | inr w ↦ w.nobody decides i below ]
      ]

  -- ---- the arming comes three periods after the hunt at the earliest

  -- n decisions came before tick u, the last one in tick `last`
  record Counted (u n : ℕ) : Type 0 where
    last : ℕ
    spaced : first_tick kind s h + period s.link.params * (n - 1) ≤ last
    below : last < u
    decides : (at kind s last).decides ≡ true

  abbrev count_at : ℕ → ℕ
  count_at u = length (stands kind s u).since

  count-first : count_at (first_tick kind s h) ≡ 0
  count-first = elim (cases_Bool (decides_hunt kind s h)) [
    | inr e ↦
        let now : first_tick kind s h ≡ h = rw e refl in
        ap count_at now ∙ ap (λ (x : Standing). length x.since)
        (elim (or_parts3 h (is_reset s Rx h) (decides_hunt kind s h) g.begins e) [
          | inl z ↦ ap (stands kind s) z ∙ stands-first kind s
          | inr r ↦ stands-reset kind s h r
        ])
    | inl e ↦
        let up = g.above in
        let is : decision_at kind s h ≡ decision.Hunt = is-hunt (decision_at kind s h) e in
        let now : first_tick kind s h ≡ suc h = rw e (omega arith) in
        let d : (at kind s h).decides ≡ true = elim (cases_Bool (at kind s h).decides) [
          | inl d ↦ d
          | inr d ↦ let stay = undecided kind s h d in absurd (cc)
        ] in
        ap count_at now
        ∙ ap (λ (x : Standing). length x.since)
        (stands-decided kind s h (g.quiet (suc h) (omega arith) (omega arith)) d
        ∙ ap (after_decision (stands kind s h) (at kind s h).reports) is)
  ]

  -- in a hunt a decision more is counted
  count-suc : (u : ℕ) → first_tick kind s h ≤ u → u < t → before kind s u ≡ stage.Hunt
      → decision_at kind s u ≡ decision.Stay
      → count_at (suc u) ≡ count_at u + (if (at kind s u).decides then 1 else 0)
  count-suc u low up is stay =
      let l = first-low in
      let none = g.quiet (suc u) (omega arith) (omega arith) in
      elim (cases_Bool (at kind s u).decides) [
        | inl e ↦ rw e (
            ap (λ (x : Standing). length x.since) (stands-decided kind s u none e
            ∙ ap (after_decision (stands kind s u) (at kind s u).reports) stay)
            ∙ length-append (stands kind s u).since ((at kind s u).reports ∷ []))
        | inr e ↦ rw e (ap (λ (x : Standing). length x.since) (stands-undecided kind s u none e)
            ∙ omega arith)
      ]

  pub stays-hunting : (u : ℕ) → first_tick kind s h ≤ u → u < t → before kind s u ≡ stage.Hunt
      → before kind s (suc u) ≡ stage.Hunt → decision_at kind s u ≡ decision.Stay
  stays-hunting u low up is later =
      let on = goes-on u low up in
      elim (hunt-step kind s u is) [ inl a ↦ let no = a.2 in absurd (cc) | inr a ↦ a.0 ]

  counted : (u : ℕ) → HasEdges s → first_tick kind s h ≤ u → u ≤ t → before kind s u ≡ stage.Hunt
      → (count_at u ≡ 0) ⊎ Counted u (count_at u)
  counted zero e low up is = let z : 0 ≡ first_tick kind s h = omega arith in
      inl (ap count_at z ∙ count-first)
  counted (suc u) e low up is = elim (cases_lt u (first_tick kind s h)) [
    | inl new ↦ let z : suc u ≡ first_tick kind s h = omega arith in
        inl (ap count_at z ∙ count-first)
    | inr old ↦
        let last = hunted (suc u) low up is u old (omega arith) in
        let stay = stays-hunting u old (omega arith) last is in
        let more = count-suc u old (omega arith) last stay in
        let l = first-low in
        elim (cases_Bool (at kind s u).decides) [
          | inr d ↦
              let same : count_at (suc u) ≡ count_at u = more ∙ rw d (omega arith) in
              elim (counted u e old (omega arith) last) [
                | inl none ↦ inl (same ∙ none)
                | inr c ↦
                    let below = c.below in
                    let spaced = c.spaced in
                    inr
                    (record {
                      last = c.last;
                      spaced = rw same spaced;
                      below =
                          omega arith;
                      decides = c.decides;
                    })
              ]
          | inl d ↦
              let one : count_at (suc u) ≡ count_at u + 1 = more ∙ rw d refl in
              elim (counted u e old (omega arith) last) [
                | inl none ↦
                    let many : count_at (suc u) ≡ 1 = omega arith in
                    inr
                    (record {
                      last = u;
                      spaced = rw many (omega arith);
                      below =
                          omega arith;
                      decides = d;
                    })
                | inr c ↦ elim (cases_lt 0 (count_at u)) [
                  | inr zero_count ↦
                      let many : count_at (suc u) ≡ 1 = omega arith in
                      inr
                      (record {
                        last = u;
                        spaced = rw many (omega arith);
                        below =
                            omega arith;
                        decides = d;
                      })
                  | inl some ↦
                      let below = c.below in
                      let spaced = c.spaced in
                      let apart = phases-apart s Rx c.last u s.link.timing.rbd e below
                      (λ i a b. g.quiet i (omega arith) (omega arith))
                      (phase-decides kind s c.last c.decides) (phase-decides kind s u d) in
                      let less : count_at (suc u) - 1 ≡ (count_at u - 1) + 1 = omega arith in
                      let product : period s.link.params * (count_at (suc u) - 1)
                      ≡ period s.link.params * (count_at u - 1) + period s.link.params =
                      ap (λ (n : ℕ). period s.link.params * n) less ∙ omega arith in
                      inr
                      (record {
                        last = u;
                        spaced = omega arith;
                        below = omega arith;
                        decides =
                            d;
                      })
                ]
              ]
        ]
  ]

  pub arm-late : (A : ℕ) → HasEdges s → first_tick kind s h ≤ A → A ≤ t
      → before kind s A ≡ stage.Hunt → decision_at kind s A ≡ decision.Arm
      → first_tick kind s h + 3 * period s.link.params ≤ A
  arm-late A e low up is arms =
      let four = arms-fourth kind s A is arms in
      let many = four.1 in
      let l = first-low in
      elim (counted A e low up is) [
        | inl none ↦ absurd (omega arith)
        | inr c ↦
            let below = c.below in
            let spaced = c.spaced in
            let apart = phases-apart s Rx c.last A s.link.timing.rbd e below
            (λ i a b. g.quiet i (omega arith) (omega arith))
            (phase-decides kind s c.last c.decides) (phase-decides kind s A four.0) in
            let two : period s.link.params * 2 ≤ period s.link.params * (count_at A - 1) =
            mul-le-mul_left (period s.link.params) (let q : 2 ≤ count_at A - 1 = omega arith in
            q) in
            omega arith
      ]
