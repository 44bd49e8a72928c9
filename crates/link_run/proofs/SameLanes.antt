-- What of the lanes stays.
use Rattle.std.proofs.Common.{◌≡◌, ◌≢◌, ◌∙◌, ◌<◌, ◌≤◌, ℕ, Option, List, length, get_or, set, refl, sym, ap, inl, inr, arith, length-set}
use Rattle.std.specs.Prelude.{true}
use Rattle.std.proofs.lemmas.Bool.{cases_Bool, cases_lt}
use Rattle.std.proofs.lemmas.List.{get_or-set_same, get_or-set_other}
use Rattle.rtrb.specs.Ring.{SameProducer, sent}
use Rattle.link_params.specs.declared.fields.Params.{Params}
use Rattle.link_params.specs.Lanes.{Handed}
use Rattle.link_params.specs.Laws.{is_b}
use Rattle.link_params.specs.Numbers.{width}
use Rattle.scenario.specs.Plans.{Plan}
use Rattle.link_model.specs.Wiring.{route_of, wire_of}
use Rattle.link_model.specs.kept.LaneRuns.{LaneRun}
use Rattle.lane_threads.proofs.KindEnds.{width-b, width-c}
use Rattle.lane_threads.specs.declared.tx_lane.TxLane.{TxLane}
use Rattle.lane_threads.specs.declared.tx_lane.TxLane.TheVariants as tx
use Rattle.lane_threads.specs.kept.LaneEnds.{HasSent, tx_width}
use Rattle.lane_threads.specs.declared.lane_pair.LanePair.{LanePair}
use Rattle.lane_threads.specs.kept.SegmentRuns.{KeepsRest}
use Rattle.link_run.proofs.LaneLemmas.{HaveChanged}
use Rattle.link_run.specs.kept.LaneRuns.{AreAt, AreOnRings, AreSameLanes, HaveRings, HaveRunLanes, HaveWidths, KeepRings, KeepsRing}

-- ---- rings

pub keep-none : (lanes : List LanePair) → KeepRings lanes lanes
keep-none lanes = record {
  count = refl;
  each = λ lane d below. record { fullest = refl; room = refl; ring = refl };
}

pub keep-again : (old mid new : List LanePair) → KeepRings old mid → KeepRings mid new
    → KeepRings old new
keep-again old mid new h k =
    let long = h.count in
    record {
      count = k.count ∙ h.count;
      each = λ lane d below.
          let a = h.each lane d below in
          let b = k.each lane d (omega arith) in
          record {
            fullest = b.fullest ∙ a.fullest;
            room = b.room ∙ a.room;
            ring = b.ring ∙ a.ring;
          };
    }

pub keeps-ring : (a b : LanePair) → KeepsRest a b → KeepsRing a b
keeps-ring a b h = record { fullest = h.1; room = h.2; ring = h.3 }

-- one lane is changed
pub keep-one : (lanes : List LanePair) (n : ℕ) (y : LanePair) → n < length lanes
    → ((d : LanePair) → KeepsRing (get_or lanes n d) y) → KeepRings lanes (set lanes n y)
keep-one lanes n y inside keeps = record {
  count = length-set lanes n y;
  each = λ lane d below. elim (cases_lt lane n) [
    | inl before ↦ let apart : lane ≢ n = λ same. omega arith in
        rw (get_or-set_other lanes n lane y d apart)
        (record { fullest = refl; room = refl; ring = refl })
    | inr past ↦ elim (cases_lt n lane) [
      | inl after ↦ let apart : lane ≢ n = λ same. omega arith in
          rw (get_or-set_other lanes n lane y d apart)
          (record { fullest = refl; room = refl; ring = refl })
      | inr upto ↦ let here : lane ≡ n = omega arith in
          rw (here, get_or-set_same lanes n y d inside) (keeps d)
    ]
  ];
}

-- all lanes are changed, one after another
pub keep-all : (R : ℕ → LanePair → LanePair → Type 0) (old new : List LanePair) (n : ℕ)
    → HaveChanged R old new n → length new ≤ n
    → ((k : ℕ) (x y : LanePair) → R k x y → KeepsRing x y) → KeepRings old new
keep-all R old new n h all keeps =
    let same = h.count in
    record {
      count = h.count;
      each = λ lane d below. keeps lane (get_or old lane d) (get_or new lane d)
          (h.changed lane d (omega arith));
    }

-- the rings carried what they carried
pub rings-kept : (old new : List LanePair) (s : Plan) (given held : ℕ) → KeepRings old new
    → HaveRings old s given held → HaveRings new s given held
rings-kept old new s given held h rings lane d below =
    let long = h.count in
    let a = rings lane d (omega arith) in
    let k = h.each lane d (omega arith) in
    record {
      cells = ap sent k.ring ∙ a.cells;
      count = rw (k.room, k.ring) a.count;
      most = k.fullest ∙ a.most;
    }

-- each lane has its ring
pub on-rings : (R : ℕ → LanePair → LanePair → Type 0) (old new : List LanePair) (n : ℕ)
    → HaveChanged R old new n → length new ≤ n
    → ((k : ℕ) (x y : LanePair) → R k x y → SameProducer x.ring y.ring) → AreOnRings old new
on-rings R old new n h all on =
    let same = h.count in
    record {
      count = h.count;
      each = λ lane d below. on lane (get_or old lane d) (get_or new lane d)
          (h.changed lane d (omega arith));
    }

-- ---- the bits of a tick

pub width-ten : (p : Params) → width p ≡ 10 → is_b p.mode ≡ true
width-ten p ten = elim (cases_Bool (is_b p.mode)) [
  | inl e ↦ e
  | inr e ↦ let wide = width-c p e in absurd (omega arith)
]

width-sent : (x : TxLane) (p : Params) (lane : ℕ) (handed : List Handed) → HasSent x p lane handed
    → tx_width x ≡ width p
width-sent (tx.B x) p lane handed h = sym (width-b p h.0)
width-sent (tx.C x) p lane handed h = sym (width-c p h.0)

-- lanes of a plan have them
pub have-widths : (lanes : List LanePair) (s : Plan) (runs : ℕ → LaneRun) (next : Option ℕ)
    → HaveRunLanes lanes s runs → AreAt lanes s.link.params next → HaveWidths lanes
have-widths lanes s runs next run at lane d below =
    let inside : lane < s.link.params.l = omega (arith, run.0) in
    width-sent (get_or lanes lane d).lane.tx s.link.params (wire_of s lane) (runs lane).handed
    (run.1 lane d inside).tx ∙ ap width (sym (at lane d below).0)

-- and so have lanes that differ in their octets
pub same-widths : (old new : List LanePair) → AreSameLanes old new → HaveWidths old → HaveWidths new
same-widths old new h wide lane d below =
    let long = h.count in
    rw (h.each lane d (omega arith)).lane (wide lane d (omega arith))
