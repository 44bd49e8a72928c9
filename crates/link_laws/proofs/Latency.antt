-- Each frame of a released session leaves LAT octets after it entered, with its words.
use Rattle.std.proofs.Common.{◌≡◌, ℕ, suc, ◌+◌, ◌-◌, ◌*◌, ◌/◌, ◌<◌, ◌≤◌, ◌⊎◌, map, fold, slice_get, Some, inl, inr, refl, sym, ap, ◌∙◌, arith}
use Rattle.std.proofs.Math.Nat.{div-mul-le_self, mul-le-mul_right}
use Rattle.std.proofs.lemmas.Bool.{cases_Bool, cases_lt}
use Rattle.std.proofs.lemmas.Nat.{le-div}
use Rattle.link_params.specs.declared.cells.LaneCell.{LaneCell}
use Rattle.link_params.specs.declared.cells.Mark.TheVariants.{Ok as Good}
use Rattle.link_params.specs.declared.fields.Params.{Params}
use Rattle.link_params.specs.Laws.{is_b}
use Rattle.link_params.specs.Lanes.{LaneKind, worse}
use Rattle.link_params.specs.Numbers.{lat_ticks, octets_per_tick}
use Rattle.bring_up.specs.declared.stage.Decision.TheVariants as decision
use Rattle.scenario.specs.Plans.{Plan}
use Rattle.link_model.specs.Gives.{frame_cells, frame_given, octets_given}
use Rattle.link_model.specs.Sessions.{InSession, entered_by, first_tick}
use Rattle.link_laws.specs.Premises.{Lone, Met, Pattern, Undamaged}
use Rattle.link_laws.specs.LaneLaws.{IsEntryOf, LaneLaws}
use Rattle.link_laws.specs.Laws.{HasEntered, HasLeft, IsOnTime, IsPlanRead, LatencyFromLanes, first_entry}
use Rattle.link_laws.proofs.Delivered.{frames_to, lanes_entries}
use Rattle.link_laws.proofs.EntryOctets.{data-places, data_tick, first-is, first_of, frame_size}
use Rattle.link_laws.proofs.FrameMarks.{frame-mark, marked-later}
use Rattle.link_laws.proofs.FrameWords.{frame-words}
use Rattle.link_laws.proofs.FramesEntered.{frame-entered}
use Rattle.link_laws.proofs.OrdersGo.{ilas_ticks}
use Rattle.link_laws.proofs.Released.{places}
use Rattle.link_laws.proofs.ReleasedTicks.{begins, begins-late, calm-on, entry-at, frame-order, frames-count}
use Rattle.link_laws.proofs.Stages.{decision_at}
use Rattle.link_laws.proofs.SetAsWired.{set_as_wired-of}

-- ---- numbers

-- a tick of 8b/10b lanes has one octet; 64b/66b lanes have no alignment sequence
pub ticks-or-octets : (p : Params)
    → (octets_per_tick p ≡ 1) ⊎ ((octets_per_tick p ≡ 8) × (ilas_ticks p ≡ 0))
ticks-or-octets p = elim (cases_Bool (is_b p.mode)) [
  | inl b ↦ let one : octets_per_tick p ≡ 1 = rw b refl in inl one
  | inr c ↦ let eight : octets_per_tick p ≡ 8 = rw c refl in
      let none : ilas_ticks p ≡ 0 = rw c refl in inr (eight, none)
]

-- m octets of data that end by tick t have been given by then; a: the ticks of the alignment
-- sequence
given-by : (c a b l r t m : ℕ) → (c ≡ 1) ⊎ ((c ≡ 8) × (a ≡ 0)) → b + l ≡ r → r ≤ t → 0 < m
    → c * b + a + l * c + m ≤ (t + 1) * c → m ≤ c * (t + 1 - r - a)
given-by c a b l r t m (inl one) late up some end =
    let plain : 1 * b + a + l * 1 + m ≤ (t + 1) * 1 = rw one at end in
    rw one (omega arith)
given-by c a b l r t m (inr (eight, none)) late up some end =
    let plain : 8 * b + 0 + l * 8 + m ≤ (t + 1) * 8 = rw (eight, none) at end in
    rw (eight, none) (omega arith)

ends-by : (c a b l r t m : ℕ) → (c ≡ 1) ⊎ ((c ≡ 8) × (a ≡ 0)) → b + l ≡ r → r ≤ t → 0 < m
    → m ≤ c * (t + 1 - r - a) → c * b + a + l * c + m ≤ (t + 1) * c
ends-by c a b l r t m (inl one) late up some end =
    let plain : m ≤ 1 * (t + 1 - r - a) = rw one at end in
    rw one (omega arith)
ends-by c a b l r t m (inr (eight, none)) late up some end =
    let plain : m ≤ 8 * (t + 1 - r - 0) = rw (eight, none) at end in
    rw (eight, none) (omega arith)

ends-whole : (k f n : ℕ) → k < n / f → (k + 1) * f ≤ n
ends-whole k f n below =
    let m : (k + 1) * f ≤ n / f * f =
    mul-le-mul_right f (let q : k + 1 ≤ n / f = omega arith in q) in
    let w = div-mul-le_self n f in
    omega arith

-- the octet time at which data begins
first-time : (p : Params) (b : ℕ) → octets_per_tick p * data_tick p b ≡ first_entry p b
first-time p b = elim (ticks-or-octets p) [
  | inl one ↦ (let e : 1 * (b + ilas_ticks p) ≡ 1 * b + ilas_ticks p = omega arith in rw one e)
  | inr c ↦ (let e : 8 * (b + 0) ≡ 8 * b + 0 = omega arith in let eight = c.0 in
      let none = c.1 in rw (eight, none) e)
]

module _ (kind : LaneKind) (pattern : Pattern) (s : Plan) (read : IsPlanRead s)
    (laws : LaneLaws kind pattern s) (h r t : ℕ)
    (session : InSession kind s h t) (met : Met s t) (lone : Lone kind pattern s h t)
    (whole : Undamaged s h t)
    (low : first_tick kind s h ≤ r) (up : r ≤ t)
    (releases : decision_at kind s r ≡ decision.Release) where
  abbrev b : ℕ
  b = begins kind pattern s read laws h r t session met lone whole low up releases

  late : b + lat_ticks s.link.params s.link.timing ≡ r
  late = begins-late kind pattern s read laws h r t session met lone whole low up releases

  some-frame : (k : ℕ) → 0 < (k + 1) * s.link.params.f
  some-frame k = let some = frame_size s read in
      let m : 1 * s.link.params.f ≤ (k + 1) * s.link.params.f =
      mul-le-mul_right s.link.params.f (omega arith) in omega arith

  -- a frame that has left is one of those that were given
  left-given : (k : ℕ) → HasLeft s t (first_entry s.link.params b) k
      → k < frames_to s.link.params (t + 1 - r)
  left-given k left =
      let p = s.link.params in
      let octets = given-by (octets_per_tick p) (ilas_ticks p) b (lat_ticks p s.link.timing) r t
      ((k + 1) * p.f) (ticks-or-octets p) late up (some-frame k) left in
      let few : k + 1 ≤ frames_to p (t + 1 - r) =
      le-div (k + 1) (octets_per_tick p * (t + 1 - r - ilas_ticks p)) p.f (frame_size s read)
      octets in
      omega arith

  pub given-left : (k : ℕ) → k < frames_to s.link.params (t + 1 - r)
      → HasLeft s t (first_entry s.link.params b) k
  given-left k below =
      let p = s.link.params in
      ends-by (octets_per_tick p) (ilas_ticks p) b (lat_ticks p s.link.timing) r t ((k + 1) * p.f)
      (ticks-or-octets p) late up (some-frame k)
      (ends-whole k p.f (octets_per_tick p * (t + 1 - r - ilas_ticks p)) below)

  frame-enters : (k : ℕ) → first_entry s.link.params b + k * s.link.params.f
      < (t + 1) * octets_per_tick s.link.params
      → slice_get (entered_by kind s t) (first_of kind s b + k)
      ≡ Some (first_entry s.link.params b + k * s.link.params.f)
  frame-enters k before_end =
      let p = s.link.params in
      let d : ℕ = data_tick p b in
      let time = first-time p b in
      let goes : (j : ℕ) → b + j ≤ t → _ = places kind pattern s read laws h r t session met lone
      whole low up releases in
      let in_run : d ≤ t = elim (cases_lt t d) [
        | inr below ↦ below
        | inl past ↦ let m : (t + 1) * octets_per_tick p ≤ d * octets_per_tick p =
            mul-le-mul_right (octets_per_tick p) (omega arith) in absurd (omega arith)
      ] in
      let first = first-is kind s h t b read goes in_run in
      ap (λ (n : ℕ). slice_get (entered_by kind s t) (n + k)) (sym first)
      ∙ frame-entered kind s d t read.laws (frame_size s read) (data-places kind s h t b read goes)
      k (omega arith)
      ∙ ap (λ (n : ℕ). Some (n + k * p.f)) time

  pub on-time : (k : ℕ) → HasLeft s t (first_entry s.link.params b) k
      → IsOnTime kind s h t (first_entry s.link.params b) (first_of kind s b) k
  on-time k left =
      let p = s.link.params in
      let o : ℕ = first_entry p b in
      let some = frame_size s read in
      let ends = left in
      let is = frame-order kind pattern s read laws h r t session met lone whole low up releases k
      (left-given k left) in
      let n : ℕ = is.n in
      let u : ℕ = r + n in
      let to : u ≤ t = is.by in
      let own = late in
      let count : u - r + 1 ≡ suc n = omega arith in
      let high : (k + 1) * p.f ≤ octets_per_tick p * (suc n - ilas_ticks p) =
      ends-whole k p.f (octets_per_tick p * (suc n - ilas_ticks p)) is.high in
      let full : (k + 1) * p.f ≤ octets_per_tick p * (u - r + 1 - ilas_ticks p) = rw count high in
      let entries : (lane j : ℕ) → lane < p.l → j < u - r + 1 → IsEntryOf kind s h lane u j
      (b + j) =
      λ lane j below inside. entry-at kind pattern s read laws h r t session met lone whole low up
      releases u lane j (omega arith) to below (omega arith) in
      let times : octets_per_tick p * r ≡ octets_per_tick p * b
      + lat_ticks p s.link.timing * octets_per_tick p =
      sym (ap (λ (x : ℕ). octets_per_tick p * x) own) ∙ omega arith in
      record {
        frame = frame_given p (octets_per_tick p * r + ilas_ticks p)
            (map (octets_given p (u - r + 1)) (lanes_entries kind s u)) k;
        entered = frame-enters k (omega arith);
        delivered = is.is;
        left = omega arith;
        words =
            frame-words kind s h u b read (set_as_wired-of s h t whole)
            (λ j inside. places kind pattern s read laws h r t session met lone whole low up
            releases j (omega arith)) k (u - r + 1) full
            (λ lane j below inside. (omega arith, entries lane j below inside));
        mark =
            marked-later s h t u
            (fold worse Good
            (map (λ (c : LaneCell). c.mark)
            (frame_cells p k (map (octets_given p (u - r + 1)) (lanes_entries kind s u))))) to
            (frame-mark kind s h u k (u - r + 1) (λ j. b + j) entries);
      }

  has-entered : first_entry s.link.params b < (t + 1) * octets_per_tick s.link.params
      → HasEntered kind s h t (first_entry s.link.params b)
  has-entered begun =
      let p = s.link.params in
      let none : first_of kind s b + 0 ≡ first_of kind s b = omega arith in
      let time : first_entry p b + 0 * p.f ≡ first_entry p b = omega arith in
      record {
        n = first_of kind s b;
        first = ap (slice_get (entered_by kind s t)) (sym none) ∙ frame-enters 0 (omega arith)
            ∙ ap Some time;
        frames = on-time;
      }

pub latency-from-lanes : LatencyFromLanes
latency-from-lanes kind pattern s read laws h r t session low up releases met inside lone whole =
    record {
      b = begins kind pattern s read laws h r t session met lone whole low up releases;
      late = begins-late kind pattern s read laws h r t session met lone whole low up releases;
      enters = has-entered kind pattern s read laws h r t session met lone whole low up releases;
      no_other = λ k below.
          let count = frames-count kind pattern s read laws h r t session met lone whole low up
          releases in
          given-left kind pattern s read laws h r t session met lone whole low up releases k
          (omega arith);
      no_hunt = calm-on kind pattern s read laws h r t session met lone whole low up releases;
    }
