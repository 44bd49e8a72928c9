-- The place that a lane holds in a session on a clean line with no pattern off the grid: the least
-- one. It is on the grid, never lost, and its remainder is the true one.
use Rattle.std.proofs.Common.{◌≡◌, ℕ, suc, ◌+◌, ◌-◌, ◌*◌, ◌/◌, ◌%◌, ◌==◌, ◌<◌, ◌≤◌, Bool, true, false, List, [], ◌∷◌, ◌++◌, length, drop, take, map, get_or, Some, None, refl, sym, ap, ◌∙◌, eq-eqb, arith}
use Rattle.std.proofs.lemmas.List.{get_or-map, length-append, length-drop, length-take, take-append-drop}
use Rattle.link_params.specs.declared.alarms.Device.TheVariants.{Tx}
use Rattle.link_params.specs.declared.fields.Params.{Params}
use Rattle.link_params.specs.declared.lane_report.LaneReport.{LaneReport}
use Rattle.link_params.specs.Laws.{is_b}
use Rattle.link_params.specs.Lanes.{LaneKind, Taken}
use Rattle.link_params.specs.Numbers.{width}
use Rattle.scenario.specs.Plans.{Plan, numbers_from}
use Rattle.link_model.specs.Carried.{delay_at}
use Rattle.link_model.specs.Edges.{edge_tick}
use Rattle.link_model.specs.Run.{moment, run}
use Rattle.link_model.specs.Hunts.{session}
use Rattle.link_model.specs.Receives.{taken_in}
use Rattle.link_model.proofs.LaneHistory.{taken-in-more}
use Rattle.link_model.proofs.NumberLists.{get_or-numbers, length-numbers}
use Rattle.multiblock.specs.Places.{Place, least_place, pattern, pattern_size, span}
use Rattle.multiblock.proofs.PlaceLemmas.{finds_least_place, pattern_stays}
use Rattle.lane_c.specs.Loss.{first_loss}
use Rattle.lane_c.specs.Locking.{arrives, place}
use Rattle.lane_c.specs.Received.{lanes_c, report_c}
use Rattle.link_model.specs.Sessions.{at, first_tick, no_report, report_at, taken_at}
use Rattle.link_model.specs.Wiring.{route_of, wire_of}
use Rattle.link_laws.specs.Premises.{GivesPhase, IsOnGrid, Lone, Undamaged, arrival, lock_pattern}
use Rattle.link_laws.proofs.Phases.{HasEdges}
use Rattle.link_laws.proofs.SessionStages.{Goes}
use Rattle.link_laws_c.proofs.Framing.{CarriesSync, IsForm, never-lost, remainder-true}
use Rattle.link_laws_c.proofs.HeldPlace.{place-held}
use Rattle.link_laws_c.proofs.OnGrid.{StandsFor, carries-grid}
use Rattle.link_laws_c.proofs.SentBits.{not-b}
use Rattle.link_laws_c.proofs.SentForm.{end-from, form-sent, remainder_from, word_bit}
use Rattle.link_laws_c.proofs.SentTicks.{octets_from}
use Rattle.link_laws_c.proofs.SessionWords.{bits_at, bits-longer, bits-of-session}

-- ---- what is read from a place that tick q sent, where edge i gave the transmitter its phase

pub record HasForm (s : Plan) (lane u x q i : ℕ) : Type 0 where
  pub remainder : ℕ
  pub sync : ℕ → Bool
  pub carries : CarriesSync (bits_at lanes_c s lane u) x sync
  pub form : IsForm s.link.params.e remainder sync
  pub soon : edge_tick s Tx i ≤ q + 32 * pattern_size s.link.params.e
  pub turns : (j : ℕ) → edge_tick s Tx i ≤ q + 32 * j
      → (j % s.link.params.e == remainder)
      ≡ ((q + 32 * j - edge_tick s Tx i) / 32 % s.link.params.e == s.link.params.e - 1)

-- of the transmission that goes on
pub present-form : (s : Plan) (h t lane u x q i : ℕ) → Goes lanes_c s h t
    → first_tick lanes_c s h ≤ u → u ≤ t → HasEdges s → is_b s.link.params.mode ≡ false
    → 1 ≤ s.link.params.e → lane < s.link.params.l → Undamaged s h t → GivesPhase s Tx t i
    → edge_tick s Tx i ≤ q → StandsFor s h lane x q
    → q % 32 ≡ edge_tick s Tx i % 32 → HasForm s lane u x q i
present-form s h t lane u x q i g low up e mode some below damage gives from is step =
    let p = s.link.params in
    let os = octets_from s (wire_of s lane) (edge_tick s Tx i) (suc u) in
    let k : ℕ = q - edge_tick s Tx i in
    let whole : k % 32 ≡ 0 = omega arith in
    record {
      remainder = remainder_from p.e (k / 32);
      sync = λ n. word_bit p os (k + n);
      carries = carries-grid s h t g lane u low up e mode below damage x q i gives from is;
      form = form-sent p os k (not-b p.mode mode) some whole;
      soon = omega arith;
      turns = λ j after.
          let number : k / 32 + j ≡ (q + 32 * j - edge_tick s Tx i) / 32 = omega arith in
          sym (end-from p.e (k / 32) j some) ∙ ap (λ (n : ℕ). n % p.e == p.e - 1) number;
    }

-- ---- a place with the pattern is on the grid

pattern-of-part : (e x r : ℕ) (bs : List Bool) → x + span e ≤ length bs
    → pattern e (drop x bs) ≡ Some r → pattern e (take (span e) (drop x bs)) ≡ Some r
pattern-of-part e x r bs whole is =
    let rest : List Bool = drop x bs in
    let long = length-drop x bs in
    let part : List Bool = take (span e) rest in
    let size : length part ≡ span e = length-take (span e) rest ∙ omega arith in
    let all : part ++ drop (span e) rest ≡ rest = take-append-drop (span e) rest in
    sym (pattern_stays e 0 part (drop (span e) rest) (omega arith)) ∙ ap (pattern e) all ∙ is

lock-is : (p : Params) (r : ℕ) (bs : List Bool) → length bs ≡ span p.e → pattern p.e bs ≡ Some r
    → lock_pattern p bs ≡ true
lock-is p r bs long is = rw (eq-eqb (length bs) (span p.e) long, is) refl

-- also a place that is found in fewer bits than those of which no other pattern is presumed
pub lone-grid : (s : Plan) (h t u lane x r : ℕ) → Goes lanes_c s h t → first_tick lanes_c s h ≤ u
    → u ≤ t → is_b s.link.params.mode ≡ false → lane < s.link.params.l
    → Lone lanes_c lock_pattern s h t → x + span s.link.params.e ≤ length (bits_at lanes_c s lane u)
    → pattern s.link.params.e (drop x (bits_at lanes_c s lane u)) ≡ Some r
    → IsOnGrid s lane t (width s.link.params * first_tick lanes_c s h + x)
lone-grid s h t u lane x r g low up mode below lone whole is =
    let e : ℕ = s.link.params.e in
    let old : List Bool = bits_at lanes_c s lane u in
    let more = bits-longer lanes_c s h t lane u g low up in
    let bs : List Bool = bits_at lanes_c s lane t in
    let n : ℕ = span e in
    let all = length-append old more.0 in
    let size_all : length bs ≡ length (old ++ more.0) = ap length more.1 in
    let there : pattern e (drop x bs) ≡ Some r = ap (λ (l : List Bool). pattern e (drop x l)) more.1
    ∙ pattern_stays e x old more.0 whole ∙ is in
    let long = length-drop x bs in
    let size : length (take n (drop x bs)) ≡ n = length-take n (drop x bs) ∙ omega arith in
    let same = bits-of-session lanes_c s h t lane t g (omega arith) (omega arith) in
    lone mode lane x n below
    (sym (ap (λ (l : List Bool). lock_pattern s.link.params (take n (drop x l))) same)
    ∙ lock-is s.link.params r (take n (drop x bs)) size
    (pattern-of-part e x r bs (omega arith) there))

-- a place of the session that tick q sent, on the grid of edge i
pub record IsSentPlace (s : Plan) (h t lane x : ℕ) : Type 0 where
  pub q : ℕ
  pub edge : ℕ
  pub gives : GivesPhase s Tx t edge
  pub stands : StandsFor s h lane x q
  pub step : q % 32 ≡ edge_tick s Tx edge % 32

pub sent-place : (s : Plan) (h t lane x : ℕ) → is_b s.link.params.mode ≡ false
    → delay_at s lane t ≡ delay_at s lane h
    → IsOnGrid s lane t (width s.link.params * first_tick lanes_c s h + x)
    → IsSentPlace s h t lane x
sent-place s h t lane x mode same on =
    let wide : width s.link.params ≡ 66 = rw mode refl in
    let f : ℕ = first_tick lanes_c s h in
    let number : width s.link.params * f + x ≡ 66 * f + x = ap (λ (w : ℕ). w * f + x) wide in
    let d : ℕ = delay_at s lane h in
    let q : ℕ = (66 * f + x - d) / 66 in
    let sent : d ≤ 66 * f + x = rw (← same, ← number) on.sent in
    let whole : (66 * f + x - d) % 66 ≡ 0 = rw (← same, ← number) on.whole in
    let step : q % 32 ≡ edge_tick s Tx on.edge % 32 = rw (← same, ← number) on.step in
    record { q = q; edge = on.edge; gives = on.gives; stands = omega arith; step = step }

-- ---- the place that is held

pub record Holds (s : Plan) (h t lane u : ℕ) (p : Place) : Type 0 where
  pub held : place s.link.params.e (taken_at lanes_c s lane u) ≡ Some p
  pub never : first_loss s.link.params.e (bits_at lanes_c s lane u) p ≡ None
  pub whole : p.first + span s.link.params.e ≤ length (bits_at lanes_c s lane u)
  pub sent : IsSentPlace s h t lane p.first
  pub small : p.remainder < s.link.params.e
  pub soon : edge_tick s Tx sent.edge ≤ sent.q + 32 * pattern_size s.link.params.e
  pub turns : (j : ℕ) → edge_tick s Tx sent.edge ≤ sent.q + 32 * j
      → (j % s.link.params.e == p.remainder)
      ≡ ((sent.q + 32 * j - edge_tick s Tx sent.edge) / 32 % s.link.params.e == s.link.params.e - 1)

pub holds : (s : Plan) (h t lane u : ℕ) (p : Place) → 0 < length (taken_at lanes_c s lane u)
    → least_place s.link.params.e 0 (bits_at lanes_c s lane u) ≡ Some p
    → (sent : IsSentPlace s h t lane p.first) → HasForm s lane u p.first sent.q sent.edge
    → Holds s h t lane u p
holds s h t lane u p some found sent f =
    let e : ℕ = s.link.params.e in
    let bs : List Bool = bits_at lanes_c s lane u in
    let least = (finds_least_place e 0 bs p).0 found in
    let whole = least.whole in
    let true_one : p.remainder ≡ f.remainder =
    remainder-true e f.remainder p.first p.remainder bs f.sync f.carries f.form whole
    least.stands in
    let never : first_loss e bs p ≡ None =
    ap (λ (r : ℕ). first_loss e bs (record { first = p.first; remainder = r })) true_one
    ∙ never-lost e f.remainder p.first bs f.sync f.carries f.form in
    record {
      held = place-held e (taken_at lanes_c s lane u) p some found never;
      never = never;
      whole = whole;
      sent = sent;
      small = let low = f.form.below in omega arith;
      soon = f.soon;
      turns = λ j after. ap (λ (r : ℕ). j % e == r) true_one ∙ f.turns j after;
    }

-- ---- the report

abbrev took : LaneKind → Plan → ℕ → ℕ → List Taken
took kind s u l = taken_in (session s (run kind s u)) l
    ++ (record { order = (at kind s u).told; word = get_or (at kind s u).taken l [] }) ∷ []

reports-are : (kind : LaneKind) (s : Plan) (u : ℕ)
    → (at kind s u).reports ≡ map
    (λ l. kind.report s.link.params s.link.timing (route_of s l) (took kind s u l))
    (numbers_from 0 s.link.params.l)
unfolding moment
reports-are kind s u = refl

report-of : (kind : LaneKind) (s : Plan) (lane u : ℕ) → lane < s.link.params.l
    → report_at kind s lane u ≡ kind.report s.link.params s.link.timing (route_of s lane)
    (taken_at kind s lane u)
report-of kind s lane u below =
    let long = length-numbers s.link.params.l 0 in
    let f : ℕ → LaneReport =
    λ l. kind.report s.link.params s.link.timing (route_of s l) (took kind s u l) in
    let same : 0 + lane ≡ lane = omega arith in
    ap (λ (l : List LaneReport). get_or l lane no_report) (reports-are kind s u)
    ∙ get_or-map f (numbers_from 0 s.link.params.l) lane 0 no_report (omega arith)
    ∙ ap f (get_or-numbers s.link.params.l lane 0 0 below ∙ same)
    ∙ ap (kind.report s.link.params s.link.timing (route_of s lane))
    (sym (taken-in-more (session s (run kind s u)) (at kind s u) lane))

pub report-at : (s : Plan) (lane u : ℕ) → lane < s.link.params.l
    → report_at lanes_c s lane u ≡ report_c s.link.params s.link.timing (route_of s lane)
    (taken_at lanes_c s lane u)
report-at s lane u below = report-of lanes_c s lane u below

-- block n of the place arrives a ticks after it was sent
pub arrives-at : (s : Plan) (h lane q : ℕ) (p : Place) (n : ℕ) → is_b s.link.params.mode ≡ false
    → StandsFor s h lane p.first q
    → first_tick lanes_c s h + arrives p n ≡ q + arrival s lane h + n
arrives-at s h lane q p n mode is =
    let wide : width s.link.params ≡ 66 = rw mode refl in
    let d : ℕ = delay_at s lane h in
    let a : arrival s lane h ≡ (d + 65) / 66 = rw wide (omega arith) in
    omega arith
