-- What a kind of lane owes to the runs of a link: when a lane starts, with which offset, and which
-- entries come into its buffer, tick by tick.
use Rattle.std.proofs.Common.{◌≡◌, ◌⊎◌, ℕ, ◌-◌, ◌*◌, ◌≤◌, true, false, if◌then◌else◌, List, [], ◌∷◌, ◌++◌, map, replicate, length, Option, Some, None, inl, inr, sym, ap, ◌∙◌, arith}
use Rattle.std.proofs.Math.ListN.{get_or-append}
use Rattle.std.proofs.Math.Seq.{get_or-append_seam}
use Rattle.std.proofs.lemmas.Bool.{cases_Bool, cases_lt, true≢false}
use Rattle.std.proofs.lemmas.List.{get_or_past, length_push}
use Rattle.link_params.specs.declared.fields.Params.{Params}
use Rattle.link_params.specs.declared.fields.Timing.{Timing}
use Rattle.link_params.specs.declared.orders.RxOrder.{RxOrder}
use Rattle.link_params.specs.declared.cells.LaneCell.{LaneCell}
use Rattle.link_params.specs.Lanes.{Entry, Placed, Held, LaneKind, Taken, is_inside}
use Rattle.link_params.specs.Laws.{is_b}
use Rattle.link_params.specs.Numbers.{period, width}
use Rattle.lane_b.proofs.LaneEntries.{cases-found}
use Rattle.lane_c.specs.Locking.{no_order, order_at}
use Rattle.lane_c.specs.kept.Receivers.{IsArmedOn}

-- ---- what a lane took

-- each tick has so many bits
abbrev pub AreWords : ℕ → List Taken → Type 0
AreWords n [] = Unit {0}
AreWords n (t ∷ ts) = (length t.word ≡ n) × AreWords n ts

pub are-words-more : (n : ℕ) (taken : List Taken) (w : Taken) → AreWords n taken
    → length w.word ≡ n → AreWords n (taken ++ w ∷ [])
are-words-more n [] w all size = (size, tt)
are-words-more n (t ∷ ts) w all size = (all.0, are-words-more n ts w all.1 size)

-- once an order was armed, the last one is
abbrev pub StayArmed : List Taken → Type 0
StayArmed taken = (i : ℕ) → (order_at taken i).armed ≡ true
    → (order_at taken (length taken - 1)).armed ≡ true

-- what a lane took in the session of a run
pub record AreTicks (n : ℕ) (taken : List Taken) : Type 0 where
  pub words : AreWords n taken
  pub armed : StayArmed taken

pub order-last : (taken : List Taken) (w : Taken)
    → order_at (taken ++ w ∷ []) (length taken) ≡ w.order
order-last taken w = ap (λ (t : Taken). t.order) (get_or-append_seam taken w []
    (record { order = no_order; word = [] }))

pub order-end : (taken : List Taken) (w : Taken)
    → order_at (taken ++ w ∷ []) (length (taken ++ w ∷ []) - 1) ≡ w.order
order-end taken w =
    let l = length_push taken w in
    let e : length (taken ++ w ∷ []) - 1 ≡ length taken = omega arith in
    ap (order_at (taken ++ w ∷ [])) e ∙ order-last taken w

pub armed-none : StayArmed []
armed-none i e = e

pub armed-more : (taken : List Taken) (w : Taken) → StayArmed taken → IsArmedOn taken w.order
    → StayArmed (taken ++ w ∷ [])
armed-more taken w all on i e =
    let none : Taken = record { order = no_order; word = [] } in
    let l = length_push taken w in
    let end = ap (λ (o : RxOrder). o.armed) (order-end taken w) in
    end ∙ elim (cases_lt i (length taken)) [
      | inl before ↦ on (all i (sym (ap (λ (t : Taken). t.order.armed)
          (get_or-append taken (w ∷ []) none i before)) ∙ e))
      | inr past ↦ elim (cases_lt (length taken) i) [
        | inl after ↦
            let off : (order_at (taken ++ w ∷ []) i).armed ≡ false =
            ap (λ (t : Taken). t.order.armed)
            (get_or_past (taken ++ w ∷ []) i none (omega arith)) in
            absurd (true≢false (sym e ∙ off))
        | inr same ↦
            let is : i ≡ length taken = omega arith in
            sym (ap (λ (o : RxOrder). o.armed) (order-last taken w))
            ∙ ap (λ (n : ℕ). (order_at (taken ++ w ∷ []) n).armed) (sym is) ∙ e
      ]
    ]

pub ticks-none : (n : ℕ) → AreTicks n []
ticks-none n = record { words = tt; armed = armed-none }

pub ticks-more : (n : ℕ) (taken : List Taken) (w : Taken) → AreTicks n taken
    → length w.word ≡ n → IsArmedOn taken w.order → AreTicks n (taken ++ w ∷ [])
ticks-more n taken w all size on = record {
  words = are-words-more n taken w all.words size;
  armed = armed-more taken w all.armed on;
}

-- ---- starts and entries

-- the offset of the lane's start
abbrev pub started_by : LaneKind → Params → Timing → ℕ → List Taken → Option ℕ
started_by k p t lane taken = (k.report p t lane taken).started

-- a lane that has not started
pub record IsUnstarted (k : LaneKind) (p : Params) (t : Timing) (lane : ℕ)
    (taken : List Taken) : Type 0 where
  pub started : started_by k p t lane taken ≡ None
  pub entries : k.entries p t lane taken ≡ []

-- a lane starts with this tick
pub record StartsNow (k : LaneKind) (p : Params) (t : Timing) (lane : ℕ) (taken : List Taken)
    (w : Taken) : Type 0 where
  pub started : started_by k p t lane (taken ++ w ∷ []) ≡ Some w.order.offset
  pub armed : w.order.armed ≡ true
  pub entry : Entry
  pub entries : k.entries p t lane (taken ++ w ∷ [])
      ≡ (if is_inside t w.order.offset then entry ∷ [] else [])

-- a lane that started at this offset goes on
pub record StartedMore (k : LaneKind) (p : Params) (t : Timing) (lane : ℕ) (taken : List Taken)
    (w : Taken) (f : ℕ) : Type 0 where
  pub started : started_by k p t lane (taken ++ w ∷ []) ≡ Some f
  pub entry : Entry
  pub inside : is_inside t f ≡ true
      → k.entries p t lane (taken ++ w ∷ []) ≡ k.entries p t lane taken ++ entry ∷ []
  pub outside_before : is_inside t f ≡ false → k.entries p t lane taken ≡ []
  pub outside : is_inside t f ≡ false → k.entries p t lane (taken ++ w ∷ []) ≡ []

-- the places of the alignment sequence, which come before the data
abbrev pub lead : Params → ℕ
lead p = if is_b p.mode then 4 * period p else 0

-- entries: places of the alignment sequence, and behind the last of them data
pub record AreEntries (p : Params) (entries : List Entry) : Type 0 where
  pub placed : ℕ
  pub cells : List LaneCell
  pub are : entries ≡ replicate placed Placed ++ map Held cells
  pub whole : (cells ≡ []) ⊎ (placed ≡ lead p)
  pub few : placed ≤ lead p

-- the facts
pub record KindFacts (k : LaneKind) (p : Params) (t : Timing) : Type 0 where
  pub nothing : (lane : ℕ) → IsUnstarted k p t lane []
  pub empty : (lane : ℕ) (taken : List Taken) → AreTicks (width p) taken
      → started_by k p t lane taken ≡ None → k.entries p t lane taken ≡ []
  pub unstarted : (lane : ℕ) (taken : List Taken) (w : Taken) → AreTicks (width p) taken
      → length w.word ≡ width p → IsArmedOn taken w.order
      → started_by k p t lane taken ≡ None
      → IsUnstarted k p t lane (taken ++ w ∷ []) ⊎ StartsNow k p t lane taken w
  pub started : (lane : ℕ) (taken : List Taken) (w : Taken) (f : ℕ) → AreTicks (width p) taken
      → length w.word ≡ width p → IsArmedOn taken w.order
      → started_by k p t lane taken ≡ Some f → StartedMore k p t lane taken w f
  pub are : (lane : ℕ) (taken : List Taken) → AreEntries p (k.entries p t lane taken)

-- entries stay
pub entries-grow : (k : LaneKind) (p : Params) (t : Timing) → KindFacts k p t → (lane : ℕ)
    (taken : List Taken) (w : Taken) → AreTicks (width p) taken → length w.word ≡ width p
    → IsArmedOn taken w.order → (new : List Entry)
    × (k.entries p t lane (taken ++ w ∷ []) ≡ k.entries p t lane taken ++ new)
entries-grow k p t facts lane taken w ticks size on =
    let later : List Entry = k.entries p t lane (taken ++ w ∷ []) in
    elim (cases-found (started_by k p t lane taken)) [
      | inr none ↦ (
        later,
        ap (λ (es : List Entry). es ++ later) (sym (facts.empty lane taken ticks none)),
      )
      | inl s ↦
          let more = facts.started lane taken w s.0 ticks size on s.1 in
          elim (cases_Bool (is_inside t s.0)) [
            | inl i ↦ (more.entry ∷ [], more.inside i)
            | inr o ↦ (
              [],
              more.outside o ∙ sym (ap (λ (es : List Entry). es ++ []) (more.outside_before o)),
            )
          ]
    ]
