-- The frames that leave in a tick, by the columns of the session.
use Rattle.std.proofs.Common.{◌≡◌, ℕ, suc, ◌+◌, ◌-◌, ◌*◌, ◌/◌, ◌<◌, ◌≤◌, Bool, true, false, if◌then◌else◌, List, [], ◌∷◌, map, length, take, get_or, Option, Some, None, inl, inr, refl, sym, ap, ap₂, ◌∙◌, length-take, unwrap_or, arith}
use Rattle.std.proofs.Math.Nat.{mul-le-mul_left}
use Rattle.std.proofs.lemmas.Bool.{cases_Bool, cases_lt, cond-true, cond-false}
use Rattle.std.proofs.lemmas.List.{get_or-map}
use Rattle.std.proofs.lemmas.List.Sums.{count_by-le-length}
use Rattle.std.proofs.lemmas.Simd.{map-map}
use Rattle.link_params.specs.declared.fields.Params.{Params}
use Rattle.link_params.specs.declared.cells.LaneCell.{LaneCell}
use Rattle.link_params.specs.Laws.{broken_law, is_b}
use Rattle.link_params.specs.Lanes.{Entry, LaneKind}
use Rattle.link_params.specs.TimingLaws.{broken_timing}
use Rattle.link_params.proofs.LawFacts.{legal_sizes}
use Rattle.link_params.specs.Numbers.{octets_per_tick}
use Rattle.sample_map.specs.Frames.{words_of}
use Rattle.bring_up.specs.Decisions.{is_running}
use Rattle.scenario.specs.Plans.{Plan, numbers_from}
use Rattle.link_model.proofs.ColumnHistory.{HaveDepth, LanesHave, came, columns-grid, columns_after, columns_kept, enough, lanes-have, length-columns, length-kept, octets_came}
use Rattle.link_model.proofs.Depth.{depth-run}
use Rattle.link_model.proofs.FactsOf.{facts-of}
use Rattle.link_model.proofs.FrameCells.{frame-cells-grid}
use Rattle.link_model.proofs.KindFacts.{KindFacts, lead}
use Rattle.link_model.proofs.LaneHistory.{HasHunt, has-hunt-run, session-goes-on, session-hunt}
use Rattle.link_model.proofs.NextMoment.{delivered-next, entries_of, lanes_of, next, with_next}
use Rattle.link_model.proofs.NumberLists.{get_or-numbers, length-numbers, map-numbers}
use Rattle.link_model.proofs.OctetColumns.{grid, octets-given-are}
use Rattle.link_model.proofs.RunTicks.{length-run}
use Rattle.link_model.proofs.WholeFrames.{delivered-none, div-le, frame_at, whole-part}
use Rattle.link_model.proofs.WindowFacts.{IsLegal, legal}
use Rattle.link_model.proofs.Wirings.{by-frame-map}
use Rattle.link_model.specs.kept.Before.{Columns, cells_of, columns_now, current, delivered_at, mark_of, values_of}
use Rattle.link_model.specs.Gives.{frame_cells, frame_given, frames_given, frames_in, gives_in, octets_given}
use Rattle.link_model.specs.Hunts.{from_hunt, or_else, session}
use Rattle.link_model.specs.Kinds.{kind_of, moment_of, run_of}
use Rattle.link_model.specs.Moments.{Delivered, History, Moment}
use Rattle.link_model.specs.Run.{run}
use Rattle.link_model.specs.Wiring.{by_frame}

-- ---- the session is a part of the history

short-or : (o here : Option History) (n : ℕ) → length (unwrap_or o []) ≤ n
    → length (unwrap_or here []) ≤ n → length (unwrap_or (or_else o here) []) ≤ n
short-or (Some l) here n first then_here = first
short-or None here n first then_here = then_here

short-if : (b : Bool) (l : History)
    → length (unwrap_or (if b then Some l else None) []) ≤ length l
short-if true l = omega arith
short-if false l = omega arith

short-current : (h : History) → length (current h) ≤ length h
unfolding from_hunt
short-current [] = omega arith
short-current (m ∷ h) =
    let later : length (unwrap_or (from_hunt h) []) ≤ length h = short-current h in
    short-or (from_hunt h) (if m.told.hunt then Some (m ∷ h) else None) (length (m ∷ h))
    (omega arith) (short-if m.told.hunt (m ∷ h))

short-session : (k : LaneKind) (s : Plan) (h : History) → length (session s h) ≤ length h
short-session k s h = elim (cases_Bool (next k s h).told.hunt) [
  | inl e ↦ let none = ap length (session-hunt k s h e) in omega arith
  | inr e ↦
      let same = ap length (session-goes-on k s h e) in
      let short = short-current h in
      omega arith
]

-- a lane gives no more entries than there are ticks
pub gave-within-ticks : (k : LaneKind) (s : Plan) (h : History)
    → gives_in (session s h) ≤ length h
gave-within-ticks k s h =
    let count = count_by-le-length (λ (m : Moment). is_running m.stage) (session s h) in
    let short = short-session k s h in
    omega arith

-- ---- the time of a frame

lead-times : (p : Params) → octets_per_tick p * lead p ≡ lead p
lead-times p = elim (cases_Bool (is_b p.mode)) [
  | inl e ↦ rw e (omega arith)
  | inr e ↦ rw e (omega arith)
]

-- from the octet time of frame 0, and back from the time after the last column; gave: the entries
-- that each lane gave before the tick t
left-is : (m first gave t n : ℕ) → m * first ≡ first → first ≤ gave → gave ≤ t
    → m * (t - gave) + first + n ≡ m * (t + 1) + n - m * (gave + 1 - first)
left-is m first gave t n times late within =
    let x : ℕ = gave - first in
    let y : ℕ = t - gave in
    let given : gave + 1 - first ≡ x + 1 = omega arith in
    let all : t + 1 ≡ y + first + (x + 1) = omega arith in
    let end : m * (t + 1) ≡ m * y + m * first + m * (x + 1) =
    ap (λ (k : ℕ). m * k) all
    ∙ (let e : m * (y + first + (x + 1)) ≡ m * y + m * first + m * (x + 1) = omega arith in e) in
    let columns : m * (gave + 1 - first) ≡ m * (x + 1) = ap (λ (k : ℕ). m * k) given in
    omega arith

one-at-most : (b : Bool) → (if b then 1 else 0) ≤ 1
one-at-most true = omega arith
one-at-most false = omega arith

module _ (k : LaneKind) (s : Plan) (h : History) (facts : KindFacts k s.link.params s.link.timing)
    (legal : IsLegal s.link.params s.link.timing) (some : 0 < s.link.params.l)
    (octets_some : 0 < s.link.params.f) (begun : HasHunt h) (kept : HaveDepth k s h) where
  have : LanesHave k s h
  have = lanes-have k s h facts legal kept

  given-octets : (n : ℕ)
      → map (octets_given s.link.params n) (map (came k s h) (lanes_of s))
      ≡ map (λ l. take (columns_after s n) (octets_came k s h l)) (lanes_of s)
  given-octets n =
      map-map (octets_given s.link.params n) (came k s h) (lanes_of s)
      ∙ map-numbers (λ l. octets_given s.link.params n (came k s h l))
      (λ l. take (columns_after s n) (octets_came k s h l)) s.link.params.l 0
      (λ l below. octets-given-are s.link.params (lead s.link.params) n (came k s h l)
      (have l (omega arith)).cells)

  first-came : get_or (map (came k s h) (lanes_of s)) 0 [] ≡ came k s h 0
  first-came =
      let long = length-numbers s.link.params.l 0 in
      let z : 0 + 0 ≡ 0 = omega arith in
      get_or-map (came k s h) (lanes_of s) 0 0 [] (omega arith)
      ∙ ap (came k s h) (get_or-numbers s.link.params.l 0 0 0 some ∙ z)

  frames-count : (n : ℕ) → n ≤ length (came k s h 0)
      → frames_in s.link.params n (get_or (map (came k s h) (lanes_of s)) 0 [])
      ≡ columns_after s n / s.link.params.f
  frames-count n within =
      let e = octets-given-are s.link.params (lead s.link.params) n (came k s h 0)
      (have 0 some).cells in
      let taken = length-take (columns_after s n) (octets_came k s h 0) in
      let many = enough k s h facts legal some begun kept n 0 within some in
      let all : length (octets_given s.link.params n (came k s h 0)) ≡ columns_after s n =
      ap length e ∙ (let f : length (take (columns_after s n) (octets_came k s h 0))
      ≡ columns_after s n = omega arith in f) in
      ap (frames_in s.link.params n) first-came ∙ ap (λ (x : ℕ). x / s.link.params.f) all

  -- while the lanes run
  module _ (runs : is_running (next k s h).stage ≡ true) where
    one-more : gives_in (session s h) + (if is_running (next k s h).stage then 1 else 0)
        ≡ gives_in (session s h) + 1
    one-more = rw runs refl

    has-one : (lane : ℕ) → lane < s.link.params.l
        → gives_in (session s h) + 1 ≤ length (came k s h lane)
    has-one lane below =
        let within = (have lane below).within in
        let one = one-more in
        omega arith

    long-now : length (columns_now k s (with_next k s h)) ≡ columns_after s
        (gives_in (session s h) + 1)
    long-now = length-columns k s h facts legal some begun kept ∙ ap (columns_after s) one-more

    columns-run : columns_now k s (with_next k s h) ≡ grid s.link.params.l (octets_came k s h)
        (columns_after s (gives_in (session s h) + 1))
    columns-run = columns-grid k s h facts legal some begun kept
        ∙ ap (λ (n : ℕ). grid s.link.params.l (octets_came k s h) (columns_after s n)) one-more

    -- the octets of all lanes once this tick's are given
    abbrev octets_then : List (List LaneCell)
    octets_then = map (octets_given s.link.params (gives_in (session s h) + 1))
        (map (came k s h) (lanes_of s))

    cells-are : (q : ℕ)
        → q * s.link.params.f + s.link.params.f
        ≤ columns_after s (gives_in (session s h) + 1)
        → frame_cells s.link.params q octets_then
        ≡ cells_of s.link.params (columns_now k s (with_next k s h)) q s.link.params.f
    cells-are q whole =
        let p = s.link.params in
        let g : ℕ = gives_in (session s h) in
        ap (frame_cells p q) (given-octets (g + 1))
        ∙ frame-cells-grid p (octets_came k s h) (columns_after s (g + 1)) q octets_some whole
        (λ lane below. enough k s h facts legal some begun kept (g + 1) lane (has-one lane below)
        below)
        ∙ ap (λ (c : Columns). cells_of p c q p.f) (sym columns-run)

    frame-is : (q : ℕ) → q < columns_after s (gives_in (session s h) + 1) / s.link.params.f
        → frame_given s.link.params
        (octets_per_tick s.link.params * (length h - gives_in (session s h))
        + lead s.link.params) octets_then q
        ≡ frame_at s.link.params (octets_per_tick s.link.params * (length h + 1))
        (columns_now k s (with_next k s h)) q
    frame-is q below =
        let p = s.link.params in
        let m : ℕ = octets_per_tick p in
        let g : ℕ = gives_in (session s h) in
        let n : ℕ = columns_after s (g + 1) in
        let whole = whole-part n p.f q octets_some below in
        let late : lead p ≤ g = elim (cases_lt g (lead p)) [
          | inr low ↦ low
          | inl early ↦
              let none : g + 1 - lead p ≡ 0 = omega arith in
              let empty : n ≡ m * 0 = ap (λ (x : ℕ). m * x) none in
              let zero_columns : m * 0 ≡ 0 = omega arith in
              absurd (omega arith)
        ] in
        let times = left-is m (lead p) g (length h) (q * p.f) (lead-times p) late
        (gave-within-ticks k s h) in
        ap₂ (λ (at : ℕ) (xs : List LaneCell). let d : Delivered =
        record { left = at; mark = mark_of xs; words = words_of p (values_of xs) } in d)
        (times ∙ ap (λ (x : ℕ). m * (length h + 1) + q * p.f - x) (sym long-now))
        (cells-are q whole)

    frames-are : frames_given s.link.params (length h - gives_in (session s h))
        (gives_in (session s h)) (map (came k s h) (lanes_of s))
        ≡ delivered_at s.link.params (octets_per_tick s.link.params * (length h + 1))
        (length (columns_kept k s h)) (columns_now k s (with_next k s h))
    unfolding frames_given
    frames-are =
        let p = s.link.params in
        let g : ℕ = gives_in (session s h) in
        let columns : Columns = columns_now k s (with_next k s h) in
        let one = has-one 0 some in
        let end : ℕ = octets_per_tick p * (length h + 1) in
        let a : ℕ = columns_after s g / p.f in
        let b : ℕ = columns_after s (g + 1) / p.f in
        let cells : g - lead p ≤ g + 1 - lead p = omega arith in
        let up : a ≤ b = div-le (columns_after s g) (columns_after s (g + 1)) p.f octets_some
        (mul-le-mul_left (octets_per_tick p) cells) in
        let given : ℕ → Delivered =
        frame_given p (octets_per_tick p * (length h - g) + lead p) octets_then in
        ap₂ (λ (a b : ℕ). map given (numbers_from a (b - a)))
        (frames-count g (omega arith)) (frames-count (g + 1) one)
        ∙ map-numbers given (frame_at p end columns) (b - a) a
        (λ q below. frame-is q (omega arith))
        ∙ ap₂ (λ (a b : ℕ). map (frame_at p end columns)
        (numbers_from (a / p.f) (b / p.f - a / p.f)))
        (sym (length-kept k s h facts legal some begun kept)) (sym long-now)

  -- the entries are in the order of the lanes of the frame
  delivered-by-frame : (next k s h).delivered ≡ (if is_running (next k s h).stage
      then frames_given s.link.params (length h - gives_in (session s h)) (gives_in (session s h))
      (map (came k s h) (lanes_of s)) else [])
  delivered-by-frame =
      let g : ℕ = gives_in (session s h) in
      delivered-next k s h
      ∙ ap (λ (es : List (List Entry)). if is_running (next k s h).stage
      then frames_given s.link.params (length h - g) g es else [])
      (by-frame-map (entries_of k s h) s [] some)

  -- the frames that leave in the tick
  pub delivered-columns : (next k s h).delivered
      ≡ delivered_at s.link.params (octets_per_tick s.link.params * (length h + 1))
      (length (columns_kept k s h)) (columns_now k s (with_next k s h))
  delivered-columns =
      let p = s.link.params in
      let g : ℕ = gives_in (session s h) in
      let columns : Columns = columns_now k s (with_next k s h) in
      let end : ℕ = octets_per_tick p * (length h + 1) in
      let given : List Delivered =
      frames_given p (length h - g) g (map (came k s h) (lanes_of s)) in
      elim (cases_Bool (is_running (next k s h).stage)) [
        | inl runs ↦
            delivered-by-frame ∙ cond-true (is_running (next k s h).stage) given [] runs
            ∙ frames-are runs
        | inr still ↦
            let none : g + (if is_running (next k s h).stage then 1 else 0) ≡ g =
            rw still (omega arith) in
            let same : length columns ≡ length (columns_kept k s h) =
            length-columns k s h facts legal some begun kept ∙ ap (columns_after s) none
            ∙ sym (length-kept k s h facts legal some begun kept) in
            delivered-by-frame ∙ cond-false (is_running (next k s h).stage) given [] still
            ∙ sym (delivered-none p end (length (columns_kept k s h)) columns same)
      ]

  -- in the alignment sequence none leaves
  pub delivered-early : gives_in (session s h) < lead s.link.params → (next k s h).delivered ≡ []
  delivered-early early =
      let p = s.link.params in
      let g : ℕ = gives_in (session s h) in
      let one : ℕ = if is_running (next k s h).stage then 1 else 0 in
      let few : one ≤ 1 = one-at-most (is_running (next k s h).stage) in
      let same : g + one - lead p ≡ g - lead p = omega arith in
      delivered-columns
      ∙ delivered-none p (octets_per_tick p * (length h + 1)) (length (columns_kept k s h))
      (columns_now k s (with_next k s h))
      (length-columns k s h facts legal some begun kept
      ∙ ap (λ (n : ℕ). octets_per_tick p * n) same
      ∙ sym (length-kept k s h facts legal some begun kept))

-- where the lanes do not run none leaves
pub delivered-still : (k : LaneKind) (s : Plan) (h : History)
    → is_running (next k s h).stage ≡ false → (next k s h).delivered ≡ []
delivered-still k s h e =
    delivered-next k s h
    ∙ cond-false (is_running (next k s h).stage)
    (frames_given s.link.params (length h - gives_in (session s h)) (gives_in (session s h))
    (by_frame s [] (map (entries_of k s h) (lanes_of s)))) [] e

-- the frames that leave in a tick of a run, whatever its mode
pub delivered-run : (s : Plan) (t : ℕ) → broken_law s.link.params ≡ None
    → broken_timing s.link.params s.link.timing ≡ None
    → (moment_of s (run_of s t)).delivered
    ≡ delivered_at s.link.params (octets_per_tick s.link.params * (t + 1))
    (length (columns_kept (kind_of s.link.params) s (run_of s t)))
    (columns_now (kind_of s.link.params) s (run_of s (suc t)))
unfolding run
delivered-run s t laws timing =
    let p = s.link.params in
    let k : LaneKind = kind_of p in
    let facts = facts-of p s.link.timing in
    let sizes = legal_sizes p laws in
    let h : History = run_of s t in
    let columns : Columns = columns_now k s (with_next k s h) in
    delivered-columns k s h facts (legal p s.link.timing laws timing) sizes.l_low sizes.f_low
    (has-hunt-run k t s) (λ lane below. depth-run k t s lane facts laws timing below)
    ∙ ap (λ (n : ℕ). delivered_at p (octets_per_tick p * (n + 1))
    (length (columns_kept k s h)) columns) (length-run k s t)
