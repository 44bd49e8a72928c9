-- A fault of the configuration in a lane's report names one of the octets 0 to 12.
use Rattle.std.proofs.Common.{◌≡◌, ◌≤◌, ◌<◌, ◌≢◌, ◌⊎◌, ◌&&◌, ◌==◌, ℕ, zero, suc, ◌+◌, ◌-◌, ◌*◌, Bool, true, false, if◌then◌else◌, nat_le, nat_lt, List, [], ◌∷◌, map, length, take, get_or, Option, Some, None, inl, inr, refl, arith}
use Rattle.std.specs.Prelude.{All}
use Rattle.std.proofs.lemmas.Bool.{and_parts, leb-true, ltb-true, eqb-false}
use Rattle.std.proofs.lemmas.List.{length-map}
use Rattle.link_params.specs.declared.fields.Params.{Params}
use Rattle.link_params.specs.declared.fields.Timing.{Timing}
use Rattle.link_params.specs.declared.ilas_state.IlasCause.{IlasCause}
use Rattle.link_params.specs.declared.ilas_state.IlasCause.TheVariants.{Wrong, Config, Fchk}
use Rattle.link_params.specs.declared.ilas_state.IlasState.{IlasState}
use Rattle.link_params.specs.declared.ilas_state.IlasState.TheVariants.{Going, Done, Fault}
use Rattle.link_params.specs.declared.lane_report.LaneReport.{LaneReport}
use Rattle.link_params.specs.Config.{differs, has_sum}
use Rattle.link_params.specs.Lanes.{Taken}
use Rattle.link_params.specs.Laws.{is_b}
use Rattle.link_params.specs.Numbers.{period}
use Rattle.code_8b10b.specs.declared.character.Reading.{Reading}
use Rattle.code_8b10b.specs.declared.character.Reading.TheVariants.{Char as Read, Disparity, Invalid}
use Rattle.ilas.specs.Sequence.{ilas_char}
use Rattle.ilas.specs.Checked.{cause_at, config_cause, config_read, difference, fault_or, first_fault, ilas_state, is_allowed}
use Rattle.lane_b.specs.Locking.{Lock, lock, since_start}
use Rattle.lane_b.specs.Received.{lanes_b, report_b, report_of}
use Rattle.multiblock.specs.Places.{Place}
use Rattle.lane_c.specs.Locking.{place}
use Rattle.lane_c.specs.Received.{lanes_c, report_c, report_of as placed}
use Rattle.link_model.specs.Kinds.{kind_of}
use Rattle.bring_up.specs.kept.Controls.{NamesOctet}
use Rattle.code_8b10b.specs.Reads.{octet_of_char}

-- a cause Config comes from a configuration octet that is not the last one
from-place : (allowed inside : Bool) (cause : Option IlasCause)
    → (if allowed then (if inside then cause else None) else Some Wrong) ≡ Some Config
    → (inside ≡ true) × (cause ≡ Some Config)
from-place true true cause is = (refl, is)
from-place true false cause is = absurd (cc)
from-place false inside cause is = absurd (cc)

from-octet : (last sum other : Bool) (cause : IlasCause)
    → (if last then (if sum then None else Some Fchk) else (if other then Some cause else None))
    ≡ Some Config → last ≡ false
from-octet true true other cause is = absurd (cc)
from-octet true false other cause is = absurd (cc)
from-octet false sum other cause is = refl

config-at : (p : Params) (lane : ℕ) (readings : List Reading) (y : ℕ) (r : Reading)
    → cause_at p lane readings y r ≡ Some Config
    → (period p + 2 ≤ y) × (y < period p + 15)
unfolding cause_at
config-at p lane readings y Invalid is = absurd (cc)
config-at p lane readings y (Disparity c) is = absurd (cc)
config-at p lane readings y (Read c) is =
    let first = period p + 2 in
    let f = from-place (is_allowed (ilas_char p lane y) c) (nat_le first y && nat_lt y (first + 14))
    (config_cause p lane readings (y - first) (octet_of_char c)) is in
    let last = from-octet (y - first == 13) (has_sum (config_read p readings))
    (differs p lane (y - first) (octet_of_char c)) (difference (y - first) (octet_of_char c)) f.1 in
    let b = and_parts (nat_le first y) (nat_lt y (first + 14)) f.0 in
    let low : first ≤ y = leb-true first y b.0 in
    let high : y < first + 14 = ltb-true y (first + 14) b.1 in
    let other : y - first ≢ 13 = eqb-false (y - first) 13 last in
    (low, omega arith)

is-fault : (y x : ℕ) (o : Option IlasCause) (later : IlasState)
    → fault_or y o later ≡ Fault x Config → ((o ≡ Some Config) × (y ≡ x)) ⊎ (later ≡ Fault x Config)
is-fault y x None later is = inr is
is-fault y x (Some cause) later is = inl (cc, cc)

config-first : (rest : List Reading) (p : Params) (lane : ℕ) (readings : List Reading) (y : ℕ)
    (state : IlasState) (x : ℕ) → (state ≡ Fault x Config → ⊥)
    → first_fault p lane readings y rest state ≡ Fault x Config
    → (period p + 2 ≤ x) × (x < period p + 15)
unfolding first_fault
config-first [] p lane readings y state x none is = absurd (none is)
config-first (r ∷ rest) p lane readings y state x none is =
    elim
    (is-fault y x (cause_at p lane readings y r)
    (first_fault p lane readings (suc y) rest state) is) [
      | inl here ↦ let same : y ≡ x = here.1 in
          let inside = config-at p lane readings y r here.0 in
          (omega (arith, inside.0), omega (arith, inside.1))
      | inr later ↦ config-first rest p lane readings (suc y) state x none later
    ]

goes-on : (done : Bool) (x : ℕ) → (if done then Done else Going) ≡ Fault x Config → ⊥
goes-on true x is = absurd (cc)
goes-on false x is = absurd (cc)

config-state : (p : Params) (lane : ℕ) (readings : List Reading) (x : ℕ)
    → ilas_state p lane readings ≡ Fault x Config → (period p + 2 ≤ x) × (x < period p + 15)
unfolding ilas_state
config-state p lane [] x is = absurd (cc)
config-state p lane (r ∷ rest) x is =
    let n = 4 * period p in
    let readings = take n (r ∷ rest) in
    config-first readings p lane readings 0 (if length readings == n then Done else Going) x
    (goes-on (length readings == n) x) is

report-octet : (p : Params) (lane : ℕ) (taken : List Taken) (o : Option Lock)
    → NamesOctet p (report_of p lane taken o)
report-octet p lane taken None = λ x is. absurd (cc)
report-octet p lane taken (Some l) = λ x is. config-state p lane (since_start l) x is

names-octet-b : (p : Params) (t : Timing) (lane : ℕ) (taken : List Taken)
    → NamesOctet p (report_b p t lane taken)
unfolding report_b
names-octet-b p t lane taken = report-octet p lane taken (lock taken)

-- a 64b/66b lane has no initial lane alignment sequence
no-octet : (p : Params) (taken : List Taken) (o : Option Place) → NamesOctet p (placed p taken o)
no-octet p taken None = λ x is. absurd (cc)
no-octet p taken (Some at) = λ x is. absurd (cc)

names-octet-c : (p : Params) (t : Timing) (lane : ℕ) (taken : List Taken)
    → NamesOctet p (report_c p t lane taken)
unfolding report_c
names-octet-c p t lane taken = no-octet p taken (place p.e taken)

-- a lane of either kind
of-kind : (b : Bool) (p : Params) (t : Timing) (lane : ℕ) (taken : List Taken)
    → NamesOctet p ((if b then lanes_b else lanes_c).report p t lane taken)
of-kind true p t lane taken = names-octet-b p t lane taken
of-kind false p t lane taken = names-octet-c p t lane taken

pub names-octet : (p : Params) (t : Timing) (lane : ℕ) (taken : List Taken)
    → NamesOctet p ((kind_of p).report p t lane taken)
names-octet p t lane taken = of-kind (is_b p.mode) p t lane taken

-- ---- the reports of several lanes

name-octets : (lanes : List ℕ) (p : Params) (t : Timing) (own : ℕ → ℕ) (f : ℕ → List Taken)
    (k : ℕ) (d : LaneReport) → k < length lanes
    → NamesOctet p (get_or (map (λ lane. (kind_of p).report p t (own lane) (f lane)) lanes) k d)
name-octets [] p t own f k d below = absurd (omega arith)
name-octets (lane ∷ lanes) p t own f zero d below = names-octet p t (own lane) (f lane)
name-octets (lane ∷ lanes) p t own f (suc k) d below =
    name-octets lanes p t own f k d (omega arith)

-- each lane is set to be the lane `own` of the frame
pub names-octets : (p : Params) (t : Timing) (own : ℕ → ℕ) (f : ℕ → List Taken) (lanes : List ℕ)
    → All (NamesOctet p) (map (λ lane. (kind_of p).report p t (own lane) (f lane)) lanes)
names-octets p t own f lanes = λ k d below.
    let long = length-map lanes (λ lane. (kind_of p).report p t (own lane) (f lane)) in
    name-octets lanes p t own f k d (omega arith)
