-- How many entries a lane's buffer holds in a tick of a run, before it gives one.
use Rattle.std.proofs.Common.{◌≡◌, ℕ, ◌+◌, ◌-◌, ◌<◌, ◌≤◌, List, [], ◌∷◌, ◌++◌, length, get_or, inl, inr, ap, ◌∙◌, length-append, arith}
use Rattle.std.proofs.lemmas.Bool.{cases_Bool, cond-true, cond-false}
use Rattle.std.proofs.lemmas.List.{get_or-map}
use Rattle.std.proofs.lemmas.Simd.{map-map}
use Rattle.link_params.specs.declared.fields.Mode.TheVariants.{B}
use Rattle.link_params.specs.declared.fields.Params.{Params}
use Rattle.link_params.specs.declared.fields.Timing.{Timing}
use Rattle.link_params.specs.Lanes.{LaneKind, Taken, is_inside}
use Rattle.link_params.specs.Laws.{is_b}
use Rattle.link_params.specs.Numbers.{depth, width}
use Rattle.lane_b.specs.Received.{lanes_b}
use Rattle.lane_b.proofs.LaneEntries.{cases-found}
use Rattle.lane_c.specs.kept.Receivers.{IsArmedOn}
use Rattle.scenario.specs.Plans.{Plan}
use Rattle.link_model.specs.Moments.{History}
use Rattle.link_model.specs.Gives.{gives_in}
use Rattle.link_model.specs.Run.{run}
use Rattle.link_model.specs.Wiring.{route_of}
use Rattle.link_model.specs.Hunts.{session, standing}
use Rattle.link_model.specs.Receives.{taken_in, told_of}
use Rattle.link_model.proofs.NumberLists.{get_or-numbers, length-numbers}
use Rattle.link_model.proofs.NextMoment.{lanes_of, held-next, next, took}
use Rattle.link_model.proofs.WindowFacts.{IsLegal, legal}
use Rattle.link_model.proofs.LaneDepth.{room-in}
use Rattle.link_model.proofs.Depth.{HasDepth, depth-run, phase_before, ready, tick-outcome, word-size}
use Rattle.link_model.proofs.FactsB.{facts-b}
use Rattle.link_model.proofs.KindFacts.{AreTicks, KindFacts, started_by}
use Rattle.link_laws.specs.Laws.{Depth, IsPlanRead}

-- a tick brings one entry at most
entries-one-more : (kind : LaneKind) (p : Params) (t : Timing) → KindFacts kind p t → (lane : ℕ)
    (taken : List Taken) (w : Taken) → AreTicks (width p) taken → length w.word ≡ width p
    → IsArmedOn taken w.order
    → length (kind.entries p t lane (taken ++ w ∷ [])) ≤ length (kind.entries p t lane taken) + 1
entries-one-more kind p t facts lane taken w ticks size on =
    elim (cases-found (started_by kind p t lane taken)) [
      | inr none ↦ elim (facts.unstarted lane taken w ticks size on none) [
        | inl u ↦ let empty = ap length u.entries in omega arith
        | inr s ↦ elim (cases_Bool (is_inside t w.order.offset)) [
          | inl i ↦ let one = ap length
              (s.entries ∙ cond-true (is_inside t w.order.offset) (s.entry ∷ []) [] i) in
              omega arith
          | inr o ↦ let empty = ap length
              (s.entries ∙ cond-false (is_inside t w.order.offset) (s.entry ∷ []) [] o) in
              omega arith
        ]
      ]
      | inl k ↦
          let more = facts.started lane taken w k.0 ticks size on k.1 in
          elim (cases_Bool (is_inside t k.0)) [
            | inl i ↦
                let long = ap length (more.inside i)
                ∙ length-append (kind.entries p t lane taken) (more.entry ∷ []) in
                omega arith
            | inr o ↦ let empty = ap length (more.outside o) in omega arith
          ]
    ]

-- what a lane's buffer holds in the tick
held-lane : (kind : LaneKind) (s : Plan) (h : History) (lane : ℕ) → lane < s.link.params.l
    → get_or (next kind s h).held lane 0
    ≡ length (kind.entries s.link.params s.link.timing (route_of s lane) (took kind s h lane))
    - gives_in (session s h)
held-lane kind s h lane below =
    let long = length-numbers s.link.params.l 0 in
    let count : ℕ → ℕ =
    λ l. length (kind.entries s.link.params s.link.timing (route_of s l) (took kind s h l))
    - gives_in (session s h) in
    let same : 0 + lane ≡ lane = omega arith in
    ap (λ (l : List ℕ). get_or l lane 0)
    (held-next kind s h ∙ map-map (λ es. length es - gives_in (session s h))
    (λ l. kind.entries s.link.params s.link.timing (route_of s l) (took kind s h l)) (lanes_of s))
    ∙ get_or-map count (lanes_of s) lane 0 0 (omega arith)
    ∙ ap count (get_or-numbers s.link.params.l lane 0 0 below ∙ same)

-- with the tick's entry a buffer still holds no more than it has room for
took-fits : (kind : LaneKind) (s : Plan) (h : History) (lane : ℕ)
    → KindFacts kind s.link.params s.link.timing → IsLegal s.link.params s.link.timing
    → lane < s.link.params.l → HasDepth kind s h lane
    → length (kind.entries s.link.params s.link.timing (route_of s lane) (took kind s h lane))
    - gives_in (session s h) ≤ depth s.link.params s.link.timing
took-fits kind s h lane facts l below kept =
    let p = s.link.params in
    let t = s.link.timing in
    let r = ready kind s h lane facts l kept in
    let w : Taken = record { order = told_of s h; word = get_or (next kind s h).taken lane [] } in
    let before : List Taken = taken_in (session s h) lane in
    let room = room-in p t l (standing s h).stage (phase_before s (length h))
    (started_by kind p t (route_of s lane) before)
    (length (kind.entries p t (route_of s lane) before))
    (gives_in (session s h)) r.lane_in in
    let more = entries-one-more kind p t facts (route_of s lane) before w r.ticks
    (word-size kind s h lane below) r.on in
    let within = r.within in
    omega arith

-- each buffer has room, and an entry where it is to give one
pub depth-by : (kind : LaneKind) (s : Plan) → KindFacts kind s.link.params s.link.timing
    → IsPlanRead s → Depth kind s
depth-by kind s facts read lane t below in_run =
    let h = run kind s t in
    let l = legal s.link.params s.link.timing read.laws read.timing in
    let kept = depth-run kind t s lane facts read.laws read.timing below in
    let held = held-lane kind s h lane below in
    let fits = took-fits kind s h lane facts l below kept in
    let gives = (tick-outcome kind s h lane facts l below kept).gives in
    record {
      fits = omega arith;
      gives = λ runs. let more = gives runs in omega arith;
    }

pub depth-b : (s : Plan) → IsPlanRead s → s.link.params.mode ≡ B → Depth lanes_b s
depth-b s read mode = depth-by lanes_b s (facts-b s.link.params s.link.timing (ap is_b mode)) read
