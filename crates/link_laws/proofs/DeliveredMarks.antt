-- Each delivered frame has the worst of the marks that its octets are due, for any kind of lane
-- whose entries hold octets with the marks that these are due.
use Rattle.std.proofs.Common.{◌≡◌, ℕ, zero, suc, ◌+◌, ◌-◌, ◌*◌, ◌/◌, ◌<◌, ◌≤◌, if◌then◌else◌, Bool, true, false, List, [], ◌∷◌, ◌++◌, fold, length, map, take, drop, slice_get, Option, Some, unwrap_or, append-nil, inl, inr, refl, sym, ap, ap₂, ◌∙◌, length-append, arith}
use Rattle.std.specs.List.{flat_map}
use Rattle.std.proofs.Math.Nat.{div-mul-le_self, mul-le-mul_left, mul-le-mul_right}
use Rattle.std.proofs.Math.Seq.{drop-append_seam, take-append_seam}
use Rattle.std.proofs.lemmas.Bool.{cases_Bool, cond-false}
use Rattle.std.proofs.lemmas.List.{drop-map, length-map, map-append, take-map}
use Rattle.std.proofs.lemmas.List.Concat.{flat_map-append}
use Rattle.std.proofs.lemmas.Nat.{le-div}
use Rattle.std.proofs.lemmas.Option.{slice_get_within}
use Rattle.std.proofs.lemmas.Simd.{map-map}
use Rattle.link_params.specs.declared.cells.LaneCell.{LaneCell}
use Rattle.link_params.specs.declared.cells.Mark.{Mark}
use Rattle.link_params.specs.declared.cells.Mark.TheVariants.{Ok as Good}
use Rattle.link_params.specs.declared.fields.Params.{Params}
use Rattle.link_params.specs.Lanes.{Entry, LaneKind, worse}
use Rattle.link_params.specs.Numbers.{octets_per_tick}
use Rattle.bring_up.specs.Decisions.{is_running}
use Rattle.scenario.specs.Plans.{Plan, numbers_from}
use Rattle.link_model.specs.Moments.{Delivered, History, Moment}
use Rattle.link_model.specs.Hunts.{begins_hunt, session}
use Rattle.link_model.specs.Gives.{frame_cells, frame_given, gives_in, octets_given, part_of_frame}
use Rattle.link_model.specs.Run.{moment, run}
use Rattle.link_model.proofs.NumberLists.{length-numbers}
use Rattle.link_laws.specs.Checked.{Checks, checked_frame}
use Rattle.link_laws.specs.Laws.{Marks, delivered_before}
use Rattle.link_model.specs.Sessions.{at, entries_at, taken_at}
use Rattle.link_model.specs.Wiring.{lane_for}
use Rattle.link_model.proofs.Wirings.{lane-for-below}
use Rattle.link_laws.proofs.Delivered.{IsShaped, delivered-numbers, entry-count, frames_to, lanes_entries, none-given, numbers-split, octets-more, octets_of_entry}
use Rattle.link_laws.proofs.Gave.{gives-more}
use Rattle.link_laws.proofs.InOrder.{get-number}
use Rattle.link_laws.proofs.OrdersGo.{ilas_ticks}
use Rattle.link_laws.proofs.SessionTicks.{begins-zero, session-hunt, session-suc}

-- entry j of a lane, whose octets have the marks that they are due
pub record IsMarkedEntry (due : ℕ → Mark) (p : Params) (es : List Entry) (j : ℕ) : Type 0 where
  pub entry : Entry
  pub found : slice_get es j ≡ Some entry
  pub shaped : IsShaped p j entry
  pub marked : map (λ (c : LaneCell). c.mark) (octets_of_entry p entry)
      ≡ map due
      (numbers_from (octets_per_tick p * (j - ilas_ticks p)) (length (octets_of_entry p entry)))

-- ---- the marks of the octets given

no-numbers : (f : ℕ → Mark) → map f (numbers_from 0 0) ≡ []
unfolding numbers_from
no-numbers f = refl

octets-marked : (n : ℕ) (p : Params) (es : List Entry) (due : ℕ → Mark)
    → ((j : ℕ) → j < n → IsMarkedEntry due p es j)
    → map (λ (c : LaneCell). c.mark) (octets_given p n es)
    ≡ map due (numbers_from 0 (octets_per_tick p * (n - ilas_ticks p)))
octets-marked zero p es due each =
    let none : 0 - ilas_ticks p ≡ 0 = omega arith in
    let z : octets_per_tick p * 0 ≡ 0 = omega arith in
    ap (map (λ (c : LaneCell). c.mark)) (none-given p es)
    ∙ sym (ap (λ (k : ℕ). map due (numbers_from 0 (octets_per_tick p * k))) none
    ∙ ap (λ (k : ℕ). map due (numbers_from 0 k)) z ∙ no-numbers due)
octets-marked (suc n) p es due each =
    let e = each n (omega arith) in
    let a : ℕ = octets_per_tick p * (n - ilas_ticks p) in
    let m : ℕ = length (octets_of_entry p e.entry) in
    let before = octets-marked n p es due (λ j below. each j (omega arith)) in
    let of : LaneCell → Mark = λ c. c.mark in
    let here : 0 + a ≡ a = omega arith in
    ap (map of) (octets-more p n es e.entry e.found)
    ∙ map-append of (octets_given p n es) (octets_of_entry p e.entry)
    ∙ ap₂ (λ (x y : List Mark). x ++ y) before e.marked
    ∙ sym (map-append due (numbers_from 0 a) (numbers_from a m))
    ∙ sym (ap (map due)
    (numbers-split a m 0 ∙ ap (λ (x : ℕ). numbers_from 0 a ++ numbers_from x m) here))
    ∙ ap (λ (x : ℕ). map due (numbers_from 0 x)) (entry-count p n e.entry e.shaped)

-- ---- the marks of a frame

-- a part of the numbers from 0 on
part-of-numbers : (x f n : ℕ) → x + f ≤ n → take f (drop x (numbers_from 0 n)) ≡ numbers_from x f
part-of-numbers x f n within =
    let r : ℕ = n - x - f in
    let split : n ≡ x + (f + r) = omega arith in
    let first = length-numbers x 0 in
    let second = length-numbers f x in
    let at : 0 + x ≡ x = omega arith in
    ap (λ (k : ℕ). take f (drop x (numbers_from 0 k))) split
    ∙ ap (λ (l : List ℕ). take f (drop x l))
    (numbers-split x (f + r) 0 ∙ ap (λ (k : ℕ). numbers_from 0 x ++ numbers_from k (f + r)) at)
    ∙ ap (λ (k : ℕ). take f (drop k (numbers_from 0 x ++ numbers_from x (f + r)))) (sym first)
    ∙ ap (take f) (drop-append_seam (numbers_from 0 x) (numbers_from x (f + r)))
    ∙ ap (take f) (numbers-split f r x)
    ∙ ap (λ (k : ℕ). take k (numbers_from x f ++ numbers_from (x + f) r)) (sym second)
    ∙ take-append_seam (numbers_from x f) (numbers_from (x + f) r)

-- the octets of frame q of a lane
part-marked : (p : Params) (q n : ℕ) (cs : List LaneCell) (due : ℕ → Mark) → q * p.f + p.f ≤ n
    → map (λ (c : LaneCell). c.mark) cs ≡ map due (numbers_from 0 n)
    → map (λ (c : LaneCell). c.mark) (part_of_frame p q cs) ≡ map due (numbers_from (q * p.f) p.f)
part-marked p q n cs due within marked =
    let of : LaneCell → Mark = λ c. c.mark in
    sym (take-map of p.f (drop (q * p.f) cs))
    ∙ ap (take p.f) (sym (drop-map of (q * p.f) cs) ∙ ap (drop (q * p.f)) marked
    ∙ drop-map due (q * p.f) (numbers_from 0 n))
    ∙ take-map due p.f (drop (q * p.f) (numbers_from 0 n))
    ∙ ap (map due) (part-of-numbers (q * p.f) p.f n within)

-- and of all lanes
parts-marked : (m a : ℕ) (f : List LaneCell → List LaneCell) (cells : ℕ → List LaneCell) (due : ℕ
    → List Mark)
    → ((lane : ℕ) → lane < a + m → map (λ (c : LaneCell). c.mark) (f (cells lane)) ≡ due lane)
    → map (λ (c : LaneCell). c.mark) (flat_map f (map cells (numbers_from a m))) ≡ flat_map due
    (numbers_from a m)
unfolding numbers_from
parts-marked zero a f cells due each = refl
parts-marked (suc m) a f cells due each =
    map-append (λ (c : LaneCell). c.mark) (f (cells a))
    (flat_map f (map cells (numbers_from (suc a) m)))
    ∙ ap₂ (λ (x y : List Mark). x ++ y) (each a (omega arith))
    (parts-marked m (suc a) f cells due (λ lane below. each lane (omega arith)))

-- ---- how many frames were delivered

frames-grow : (p : Params) (n : ℕ) → 0 < p.f → frames_to p n ≤ frames_to p (suc n)
frames-grow p n some =
    let whole = div-mul-le_self (octets_per_tick p * (n - ilas_ticks p)) p.f in
    let more : octets_per_tick p * (n - ilas_ticks p) ≤ octets_per_tick p * (suc n - ilas_ticks p) =
    mul-le-mul_left (octets_per_tick p) (let le : n - ilas_ticks p ≤ suc n - ilas_ticks p =
    omega arith in le) in
    le-div (frames_to p n) (octets_per_tick p * (suc n - ilas_ticks p)) p.f some (omega arith)

frames-more : (p : Params) (n : ℕ) (b : Bool) → 0 < p.f
    → frames_to p n ≤ frames_to p (n + (if b then 1 else 0))
frames-more p n true some = let one : n + 1 ≡ suc n = omega arith in rw one (frames-grow p n some)
frames-more p n false some = let none : n + 0 ≡ n = omega arith in rw none (omega arith)

frames-none : (p : Params) → 0 < p.f → frames_to p 0 ≡ 0
frames-none p some =
    let none : 0 - ilas_ticks p ≡ 0 = omega arith in
    let z : octets_per_tick p * 0 ≡ 0 = omega arith in
    let first : 0 / p.f ≡ 0 = (let below = div-mul-le_self 0 p.f in
    let q : 0 / p.f * p.f ≤ 0 = below in omega arith) in
    ap (λ (k : ℕ). octets_per_tick p * k / p.f) none ∙ ap (λ (k : ℕ). k / p.f) z ∙ first

delivered-none : (kind : LaneKind) (s : Plan) (t : ℕ) → is_running (at kind s t).stage ≡ false
    → (at kind s t).delivered ≡ []
unfolding moment
delivered-none kind s t still = cond-false (is_running (at kind s t).stage) _ [] still

-- ---- the law

-- while the lanes run, each lane has the tick's entry, and its entries up to it hold octets with
-- the marks that these are due
abbrev pub AreMarked : LaneKind → Checks → Plan → Type 0
AreMarked kind checks s = (t lane j : ℕ) → lane < s.link.params.l
    → is_running (at kind s t).stage ≡ true → j < suc (gives_in (session s (run kind s t)))
    → IsMarkedEntry (checks s.link.params (taken_at kind s lane t)) s.link.params
    (entries_at kind s lane t) j

module _ (kind : LaneKind) (checks : Checks) (s : Plan) (lanes : 0 < s.link.params.l)
    (octets : 0 < s.link.params.f) (marked : AreMarked kind checks s) where
  -- how many entries each lane gave before tick t
  abbrev gave : ℕ → ℕ
  gave t = gives_in (session s (run kind s t))

  -- the octets of each lane that are given with tick t
  abbrev given : ℕ → List (List LaneCell)
  given t = map (octets_given s.link.params (gave t + 1)) (lanes_entries kind s t)

  delivered-are : (t : ℕ) → is_running (at kind s t).stage ≡ true
      → (at kind s t).delivered
      ≡ map (frame_given s.link.params
      (octets_per_tick s.link.params * (t - gave t) + ilas_ticks s.link.params) (given t))
      (numbers_from (frames_to s.link.params (gave t))
      (frames_to s.link.params (gave t + 1) - frames_to s.link.params (gave t)))
  delivered-are t runs =
      delivered-numbers kind s t (gave t) lanes runs refl
      (λ j below.
      let e = marked t (lane_for s 0) j (lane-for-below s 0 lanes) runs below in
      (e.entry, e.found, e.shaped))

  delivered-count : (t : ℕ)
      → length (at kind s t).delivered ≡ frames_to s.link.params
      (gave t + (if is_running (at kind s t).stage then 1 else 0)) - frames_to s.link.params
      (gave t)
  delivered-count t = elim (cases_Bool (is_running (at kind s t).stage)) [
    | inl runs ↦
        let n : ℕ = frames_to s.link.params (gave t + 1) - frames_to s.link.params (gave t) in
        let count : ℕ → ℕ = λ k. frames_to s.link.params (gave t + k) - frames_to s.link.params
        (gave t) in
        ap length (delivered-are t runs)
        ∙ length-map (numbers_from (frames_to s.link.params (gave t)) n) _
        ∙ length-numbers n (frames_to s.link.params (gave t))
        ∙ ap (λ (b : Bool). count (if b then 1 else 0)) (sym runs)
    | inr still ↦
        let count : ℕ → ℕ = λ k. frames_to s.link.params (gave t + k) - frames_to s.link.params
        (gave t) in
        let same : gave t + 0 ≡ gave t = omega arith in
        let none : 0 ≡ frames_to s.link.params (gave t) - frames_to s.link.params (gave t) =
        omega arith in
        ap length (delivered-none kind s t still) ∙ none
        ∙ sym (ap (λ (k : ℕ). frames_to s.link.params k - frames_to s.link.params (gave t)) same)
        ∙ ap (λ (b : Bool). count (if b then 1 else 0)) (sym still)
  ]

  count-first : (t : ℕ) → begins_hunt s (run kind s t) ≡ true
      → delivered_before kind s t ≡ frames_to s.link.params (gave t)
  count-first t begins =
      let none = session-hunt kind s t begins in
      ap (λ (l : History). length (flat_map (λ (m : Moment). m.delivered) l)) none
      ∙ sym (ap (λ (l : History). frames_to s.link.params (gives_in l)) none
      ∙ frames-none s.link.params octets)

  before-more : (t : ℕ) → begins_hunt s (run kind s (suc t)) ≡ false
      → delivered_before kind s (suc t) ≡ delivered_before kind s t + length (at kind s t).delivered
  before-more t goes =
      let of : Moment → List Delivered = λ m. m.delivered in
      let before : History = session s (run kind s t) in
      ap (λ (l : History). length (flat_map of l)) (session-suc kind s t goes)
      ∙ ap length (flat_map-append of before (at kind s t ∷ []))
      ∙ length-append (flat_map of before) (flat_map of (at kind s t ∷ []))
      ∙ ap (λ (l : List Delivered). length (flat_map of before) + length l)
      (append-nil (at kind s t).delivered)

  -- so many frames the session delivered before tick t
  count-before : (t : ℕ) → delivered_before kind s t ≡ frames_to s.link.params (gave t)
  count-before zero = count-first zero (begins-zero kind s)
  count-before (suc t) = elim (cases_Bool (begins_hunt s (run kind s (suc t)))) [
    | inl begins ↦ count-first (suc t) begins
    | inr goes ↦
        let more = before-more t goes in
        let before = count-before t in
        let count = delivered-count t in
        let grows = frames-more s.link.params (gave t) (is_running (at kind s t).stage) octets in
        let now : gave (suc t) ≡ gave t + (if is_running (at kind s t).stage then 1 else 0) =
        ap gives_in (session-suc kind s t goes) ∙ gives-more (session s (run kind s t))
        (at kind s t) in
        let sum : delivered_before kind s (suc t) ≡ frames_to s.link.params
        (gave t + (if is_running (at kind s t).stage then 1 else 0)) = omega arith in
        sum ∙ sym (ap (frames_to s.link.params) now)
  ]

  -- frame q, of those that are whole with tick t, has the mark that is due
  frame-mark : (t q : ℕ) → is_running (at kind s t).stage ≡ true
      → q < frames_to s.link.params (gave t + 1)
      → fold worse Good (map (λ (c : LaneCell). c.mark) (frame_cells s.link.params q (given t)))
      ≡ checked_frame checks s.link.params (λ place. taken_at kind s (lane_for s place) t) q
  frame-mark t q runs below =
      let p = s.link.params in
      let n : ℕ = octets_per_tick p * (gave t + 1 - ilas_ticks p) in
      let cells : ℕ → List LaneCell =
      λ place. octets_given p (gave t + 1) (entries_at kind s (lane_for s place) t) in
      let whole = div-mul-le_self n p.f in
      let up : (q + 1) * p.f ≤ frames_to p (gave t + 1) * p.f =
      mul-le-mul_right p.f (let le : q + 1 ≤ frames_to p (gave t + 1) = omega arith in le) in
      let within : q * p.f + p.f ≤ n = omega arith in
      ap (λ (os : List (List LaneCell)). fold worse Good
      (map (λ (c : LaneCell). c.mark) (flat_map (part_of_frame p q) os)))
      (map-map (octets_given p (gave t + 1)) (λ place. entries_at kind s (lane_for s place) t)
      (numbers_from 0 p.l))
      ∙ ap (fold worse Good)
      (parts-marked p.l 0 (part_of_frame p q) cells
      (λ place. map (checks p (taken_at kind s (lane_for s place) t)) (numbers_from (q * p.f) p.f))
      (λ place of_link.
      let lane : ℕ = lane_for s place in
      part-marked p q n (cells place) (checks p (taken_at kind s lane t)) within
      (octets-marked (gave t + 1) p (entries_at kind s lane t) (checks p (taken_at kind s lane t))
      (λ j inside. marked t lane j (lane-for-below s place lanes) runs (omega arith)))))

  pub marks-hold : Marks kind checks s
  marks-hold t k d in_run is = elim (cases_Bool (is_running (at kind s t).stage)) [
    | inr still ↦
        let none : slice_get [] k ≡ Some d =
        sym (ap (λ (l : List Delivered). slice_get l k) (delivered-none kind s t still)) ∙ is in
        let low = slice_get_within [] k d none in
        absurd (omega arith)
    | inl runs ↦
        let p = s.link.params in
        let first : ℕ = frames_to p (gave t) in
        let many : ℕ = frames_to p (gave t + 1) - first in
        let frame : ℕ → Delivered = frame_given p (octets_per_tick p * (t - gave t) + ilas_ticks p)
        (given t) in
        let there : slice_get (map frame (numbers_from first many)) k ≡ Some d =
        sym (ap (λ (l : List Delivered). slice_get l k) (delivered-are t runs)) ∙ is in
        let long = length-map (numbers_from first many) frame ∙ length-numbers many first in
        let low = slice_get_within (map frame (numbers_from first many)) k d there in
        let found : Some (frame (first + k)) ≡ Some d =
        sym (get-number many first k frame (omega arith)) ∙ there in
        let same : frame (first + k) ≡ d = ap (λ (o : Option Delivered). unwrap_or o d) found in
        let before = count-before t in
        let number : first + k ≡ delivered_before kind s t + k = omega arith in
        ap (λ (x : Delivered). x.mark) (sym same) ∙ frame-mark t (first + k) runs (omega arith)
        ∙ ap (checked_frame checks p (λ place. taken_at kind s (lane_for s place) t)) number
  ]
