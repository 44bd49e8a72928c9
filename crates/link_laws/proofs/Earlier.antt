-- What holds up to a tick of a session holds up to the ticks before it.
use Rattle.std.proofs.Common.{◌≡◌, ℕ, zero, suc, ◌+◌, ◌-◌, ◌*◌, ◌<◌, ◌≤◌, Bool, true, false, List, [], ◌++◌, length, drop, take, get_or, Some, inl, inr, refl, sym, ap, ◌∙◌, arith}
use Rattle.std.specs.List.{flat_map}
use Rattle.std.proofs.lemmas.Bool.{cases_lt}
use Rattle.std.proofs.lemmas.List.{drop-append-le, drop_all, take-append-le, take_all, map-append}
use Rattle.std.proofs.lemmas.List.Concat.{flat_map-append}
use Rattle.link_params.specs.declared.alarms.Device.TheVariants.{Tx}
use Rattle.link_params.specs.Laws.{is_b}
use Rattle.link_params.specs.Lanes.{LaneKind, Taken}
use Rattle.link_params.specs.Numbers.{width}
use Rattle.link_model.specs.Carried.{delay_at}
use Rattle.scenario.specs.Plans.{Plan}
use Rattle.link_model.specs.Edges.{is_reset, phase}
use Rattle.link_model.specs.Moments.{History, Moment}
use Rattle.link_model.specs.Run.{run}
use Rattle.link_model.specs.Receives.{taken_in}
use Rattle.link_model.specs.Sessions.{InSession, first_tick}
use Rattle.link_laws.specs.Premises.{Clean, GivesPhase, IsOnGrid, Lone, OneBurst, Pattern, Undamaged, Untouched, bits_since}
use Rattle.link_laws.proofs.PlanRead.{delay-same, reset-none}
use Rattle.link_laws.proofs.Phases.{HasEdges, edge-of-phase, last-reset-same}
use Rattle.link_model.proofs.RunTicks.{length-run, run-longer}
use Rattle.link_laws.proofs.SessionStages.{first-low}
use Rattle.link_laws.proofs.ReleaseTick.{goes, untouched}

pub untouched-earlier : (s : Plan) (h t u : ℕ) → u ≤ t → Untouched s h t → Untouched s h u
untouched-earlier s h t u low c =
    record {
      no_event = λ x up down. c.no_event x up (omega arith);
      alive =
          λ x up down. c.alive x up (omega arith);
    }

pub clean-earlier : (s : Plan) (h t u : ℕ) → u ≤ t → Clean s h t → Clean s h u
clean-earlier s h t u low c = record {
  set_as_wired = c.set_as_wired;
  untouched = untouched-earlier s h t u low c.untouched;
  upright = λ lane i comes. c.upright lane i (comes.0, let k = comes.1 in omega arith);
}

burst-earlier : (s : Plan) (h t u : ℕ) → u ≤ t → OneBurst s h t → OneBurst s h u
burst-earlier s h t u low b = record {
  fec = b.fec;
  set_as_wired = b.set_as_wired;
  untouched = untouched-earlier s h t u low b.untouched;
  payload = λ lane i comes. b.payload lane i (comes.0, let k = comes.1 in omega arith);
  near = λ lane i j x y one two. b.near lane i j x y (one.0, let k = one.1 in omega arith)
      (two.0, let k = two.1 in omega arith);
}

pub undamaged-earlier : (s : Plan) (h t u : ℕ) → u ≤ t → Undamaged s h t → Undamaged s h u
undamaged-earlier s h t u low (inl c) = inl (clean-earlier s h t u low c)
undamaged-earlier s h t u low (inr b) = inr (burst-earlier s h t u low b)

pub session-earlier : (kind : LaneKind) (s : Plan) (h t u : ℕ) → h < u → u ≤ t
    → InSession kind s h t → InSession kind s h u
session-earlier kind s h t u up low i = let end = i.in_run in record {
  begins = i.begins;
  above = up;
  in_run = omega arith;
  alone = λ x a b. i.alone x a (omega arith);
}

abbrev taken_one : Moment → ℕ → Taken
taken_one m lane = record { order = m.told; word = get_or m.taken lane [] }

-- the bits of a lane up to a tick begin with those up to an earlier one
pub bits-longer : (kind : LaneKind) (s : Plan) (h t lane u : ℕ) → first_tick kind s h ≤ u + 1
    → u ≤ t
    → (more : List Bool) × (bits_since kind s h lane t ≡ bits_since kind s h lane u ++ more)
bits-longer kind s h t lane u low up =
    let f : ℕ = first_tick kind s h in
    let m = run-longer (t - u) kind s (u + 1) in
    let end : u + 1 + (t - u) ≡ t + 1 = omega arith in
    let long = length-run kind s (u + 1) in
    let of : History → List Bool = λ l. flat_map (λ (x : Taken). x.word) (taken_in l lane) in
    let all : drop f (run kind s (t + 1)) ≡ drop f (run kind s (u + 1)) ++ m.0 =
    ap (λ (n : ℕ). drop f (run kind s n)) (sym end) ∙ ap (drop f) m.1
    ∙ drop-append-le f (run kind s (u + 1)) m.0 (omega arith) in (
      of m.0,
      ap of all
          ∙ ap (flat_map (λ (x : Taken). x.word))
          (map-append (λ (x : Moment). taken_one x lane) (drop f (run kind s (u + 1))) m.0)
          ∙ flat_map-append (λ (x : Taken). x.word) (taken_in (drop f (run kind s (u + 1))) lane)
          (taken_in m.0 lane),
    )

take_nothing : (n : ℕ) (l : List Bool) → l ≡ [] → take n l ≡ []
take_nothing zero l e = refl
take_nothing (suc n) l e = rw e refl

-- some bits of a list from a place on are those of a longer list
pub window : (a b : List Bool) (x n : ℕ) → (m : ℕ) × (take n (drop x a) ≡ take m (drop x (a ++ b)))
window a b x n = elim (cases_lt (length a) x) [
  | inl past ↦ (0, take_nothing n (drop x a) (drop_all x a (omega arith)))
  | inr inside ↦
      let rest : ℕ = length (drop x a) in
      let seam : drop x (a ++ b) ≡ drop x a ++ b = drop-append-le x a b inside in
      elim (cases_lt rest n) [
        | inr few ↦ (n, sym (ap (take n) seam ∙ take-append-le n (drop x a) b few))
        | inl many ↦ (
          rest,
          take_all n (drop x a) (omega arith)
              ∙ sym (ap (take rest) seam ∙ take-append-le rest (drop x a) b (omega arith)
              ∙ take_all rest (drop x a) (omega arith)),
        )
      ]
]

-- a phase of the session that is there at u was given by the edge that gave it at t
pub gives-earlier : (s : Plan) (t u y i : ℕ) → HasEdges s → u ≤ t
    → ((x : ℕ) → u < x → x ≤ t → is_reset s Tx x ≡ false) → phase s Tx u ≡ Some y
    → GivesPhase s Tx t i → GivesPhase s Tx u i
gives-earlier s t u y i e low quiet is g =
    let k = edge-of-phase s Tx u y e.regular is in
    let j : GivesPhase s Tx u k.0 = k.1 in
    let same = last-reset-same t s Tx u low quiet in
    let since = g.since in
    let j_since = j.since in
    let j_by = j.by in
    let first = g.first k.0 (omega arith) in
    record { since = omega arith; by = omega arith; first = λ q after. g.first q (omega arith) }

-- Lone of an earlier tick, whatever hunts begin after it
pub lone-before : (kind : LaneKind) (pattern : Pattern) (s : Plan) (h t u : ℕ) → HasEdges s
    → Undamaged s h t → h ≤ u → first_tick kind s h ≤ u → u ≤ t
    → (is_b s.link.params.mode ≡ false → (y : ℕ) × (phase s Tx u ≡ Some y))
    → Lone kind pattern s h t → Lone kind pattern s h u
lone-before kind pattern s h t u e whole above low up sent lone c lane x n below is =
    let clear = untouched s h t whole in
    let longer = bits-longer kind s h t lane u (omega arith) up in
    let w = window (bits_since kind s h lane u) longer.0 x n in
    let there : pattern s.link.params (take w.0 (drop x (bits_since kind s h lane t))) ≡ true =
    ap (λ (bs : List Bool). pattern s.link.params (take w.0 (drop x bs))) longer.1
    ∙ sym (ap (pattern s.link.params) w.1) ∙ is in
    let on : IsOnGrid s lane t (width s.link.params * first_tick kind s h + x) =
    lone c lane x w.0 below there in
    let same : delay_at s lane t ≡ delay_at s lane u =
    delay-same s lane u t up (λ y a b. clear.no_event y (omega arith) b) in
    let y = sent c in
    record {
      edge = on.edge;
      gives = gives-earlier s t u y.0 on.edge e up
          (λ z a b. reset-none s Tx z (clear.no_event z (omega arith) b)) y.1 on.gives;
      sent = rw (← same) on.sent;
      whole = rw (← same) on.whole;
      step = rw (← same) on.step;
    }

pub lone-earlier : (kind : LaneKind) (pattern : Pattern) (s : Plan) (h t u : ℕ) → HasEdges s
    → InSession kind s h t → Undamaged s h t → first_tick kind s h ≤ u → u ≤ t
    → (is_b s.link.params.mode ≡ false → (y : ℕ) × (phase s Tx u ≡ Some y))
    → Lone kind pattern s h t → Lone kind pattern s h u
lone-earlier kind pattern s h t u e i whole low up sent lone =
    let f = first-low kind s h t (goes kind s h t i whole) in
    lone-before kind pattern s h t u e whole (omega arith) low up sent lone
