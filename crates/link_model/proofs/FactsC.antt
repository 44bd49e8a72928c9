-- 64b/66b lanes meet the facts of a kind of lane.
use Rattle.std.proofs.Common.{◌≡◌, ◌⊎◌, ℕ, suc, ◌+◌, ◌-◌, ◌*◌, ◌/◌, ◌<◌, ◌≤◌, Bool, true, false, if◌then◌else◌, List, [], ◌∷◌, ◌++◌, map, length, take, drop, Option, Some, None, option_map, inl, inr, refl, sym, ap, ap₂, ◌∙◌, arith}
use Rattle.std.proofs.lemmas.Bool.{cases_Bool, cond-true, cond-false}
use Rattle.std.proofs.lemmas.List.{length_push, map_push}
use Rattle.link_params.specs.declared.fields.Params.{Params}
use Rattle.link_params.specs.declared.fields.Timing.{Timing}
use Rattle.link_params.specs.declared.cells.LaneCell.{LaneCell}
use Rattle.link_params.specs.declared.orders.RxOrder.{RxOrder}
use Rattle.link_params.specs.Lanes.{Entry, Held, Taken, is_inside}
use Rattle.link_params.specs.Laws.{is_b}
use Rattle.link_params.specs.Numbers.{width}
use Rattle.multiblock.specs.Places.{Place, pattern_size}
use Rattle.lane_b.proofs.LaneEntries.{cases-found}
use Rattle.lane_c.specs.Locking.{arrives, bits_taken, dropped_at, leaves, offset_of, order_at, place, place_from, start}
use Rattle.lane_c.specs.Received.{cells, cells_left, entries_c, entries_from, entries_of, lanes_c, report_c, report_of}
use Rattle.lane_c.specs.kept.Receivers.{AreBlocks}
use Rattle.lane_c.specs.Statuses.{Judged, known_blocks}
use Rattle.lane_c.proofs.CellsLeft.{known-many, left-more}
use Rattle.lane_c.proofs.Dropping.{last-order}
use Rattle.lane_c.proofs.KnownGrows.{known-grows}
use Rattle.lane_c.proofs.Losing.{Longer}
use Rattle.lane_c.proofs.Searching.{bits_taken-more, length-bits_taken, order_at-append}
use Rattle.lane_c.proofs.Starting.{start-leaves, start-locked, start-stays}
use Rattle.link_model.proofs.KindFacts.{AreEntries, AreTicks, AreWords, IsUnstarted, KindFacts, StartedMore, StartsNow, started_by}
use Rattle.link_model.proofs.PlacesC.{IsIdle, Stands, armed-start, blocks-now, cases-place, dropped-next, kept-armed, nowhere-next, place-nowhere, place-stands, search-stands, stands-next, starts-late}

-- ---- reports and entries

started-of : (p : Params) (t : Timing) (lane : ℕ) (taken : List Taken) (o : Option Place)
    → place p.e taken ≡ o → started_by lanes_c p t lane taken ≡ (report_of p taken o).started
unfolding report_c
started-of p t lane taken o is = ap (λ q. (report_of p taken q).started) is

entries-of : (p : Params) (t : Timing) (lane : ℕ) (taken : List Taken) (o : Option Place)
    → place p.e taken ≡ o → entries_c p t lane taken ≡ entries_of p t taken o
unfolding entries_c
entries-of p t lane taken o is = ap (entries_of p t taken) is

idle-unstarted : (p : Params) (t : Timing) (lane : ℕ) (taken : List Taken) → IsIdle p.e taken
    → IsUnstarted lanes_c p t lane taken
idle-unstarted p t lane taken idle = elim idle [
  | inl none ↦ record {
    started = started-of p t lane taken None none;
    entries = entries-of p t lane taken None none;
  }
  | inr x ↦ record {
    started = started-of p t lane taken (Some x.0) x.1 ∙ ap (option_map (offset_of taken x.0)) x.2;
    entries = entries-of p t lane taken (Some x.0) x.1 ∙ ap (entries_from p t taken x.0) x.2;
  }
]

-- a lane that started with block n of the place that it holds
record IsBegun (p : Params) (t : Timing) (lane : ℕ) (taken : List Taken) (x : Place)
    (n : ℕ) : Type 0 where
  started : started_by lanes_c p t lane taken ≡ Some (offset_of taken x n)
  entries : entries_c p t lane taken
      ≡ (if is_inside t (offset_of taken x n) then map Held (cells_left p taken x n) else [])

begun-of : (p : Params) (t : Timing) (lane : ℕ) (taken : List Taken) (x : Place) (n : ℕ)
    → place p.e taken ≡ Some x → start p.e taken x ≡ Some n → IsBegun p t lane taken x n
begun-of p t lane taken x n is some = record {
  started = started-of p t lane taken (Some x) is ∙ ap (option_map (offset_of taken x)) some;
  entries = entries-of p t lane taken (Some x) is ∙ ap (entries_from p t taken x) some;
}

-- ---- a cell more

left-longer : (n m : ℕ) (known later : List Judged) → Longer known later → 1 ≤ n
    → n + m < length known
    → (c : LaneCell)
    × (take (suc m) (cells (drop (n - 1) later)) ≡ take m (cells (drop (n - 1) known)) ++ c ∷ [])
left-longer n m known later grows some less = (
  _,
  ap (λ r. take (suc m) (cells (drop (n - 1) r))) grows.is
      ∙ left-more known grows.rest n m some less,
)

-- a tick more gives a cell more where a block of the lane leaves in it
left-grows : (p : Params) (taken : List Taken) (w : Taken) (x : Place) (n : ℕ) → AreBlocks taken
    → length w.word ≡ 66 → leaves x n ≤ length taken
    → arrives x (32 * pattern_size p.e + 95) ≤ leaves x n
    → (c : LaneCell) × (cells_left p (taken ++ w ∷ []) x n ≡ cells_left p taken x n ++ c ∷ [])
left-grows p taken w x n words size left locked =
    let bs : List Bool = bits_taken taken in
    let l = length-bits_taken taken words in
    let long = length_push taken w in
    let count : ℕ = (length bs - x.first) / 66 in
    let rest : ℕ = length bs - x.first - 66 * count in
    let m : ℕ = length taken - leaves x n in
    let on : length (taken ++ w ∷ []) - leaves x n ≡ suc m = omega arith in
    let many = known-many p.mode x bs count refl (omega arith) in
    let c = left-longer n m (known_blocks p.mode x bs) (known_blocks p.mode x (bs ++ w.word))
    (known-grows p.mode x bs w.word count rest (omega arith) (omega arith) size (omega arith))
    (omega arith) (omega arith) in (
      c.0,
      ap₂ (λ k b. take k (cells (drop (n - 1) (known_blocks p.mode x b)))) on
          (bits_taken-more taken w)
          ∙ c.1,
    )

-- no cell is left before the block of the start leaves
left-none : (p : Params) (taken : List Taken) (x : Place) (n : ℕ) → leaves x n ≡ length taken
    → cells_left p taken x n ≡ []
left-none p taken x n is =
    let none : length taken - leaves x n ≡ 0 = omega arith in
    ap (λ k. take k (cells (drop (n - 1) (known_blocks p.mode x (bits_taken taken))))) none

words-blocks : (taken : List Taken) → AreWords 66 taken → AreBlocks taken
words-blocks [] all = tt
words-blocks (t ∷ ts) all = (all.0, words-blocks ts all.1)

-- ---- a tick more

module _ (p : Params) (t : Timing) (lane : ℕ) (taken : List Taken) (w : Taken)
    (words : AreBlocks taken) (size : length w.word ≡ 66) where
  -- the lane had started
  module _ (h : Stands p.e taken) (n : ℕ) (some : start p.e taken h.at ≡ Some n)
      (armed : w.order.armed ≡ true) where
    place-now : place p.e (taken ++ w ∷ []) ≡ Some h.at
    place-now =
        let g = stands-next p.e taken w words size h (kept-armed p.e taken w words size h armed) in
        place-stands p.e (taken ++ w ∷ []) (blocks-now p.e taken w words size) g.0 ∙ ap Some g.1

    offset-same : offset_of (taken ++ w ∷ []) h.at n ≡ offset_of taken h.at n
    offset-same = ap (λ (o : RxOrder). o.offset)
        (order_at-append taken (w ∷ []) (leaves h.at n)
        (start-leaves p.e taken h.at n some))

    begun-more : (f : ℕ) → offset_of taken h.at n ≡ f
        → StartedMore lanes_c p t lane taken w f
    begun-more f at =
        let before = begun-of p t lane taken h.at n (place-stands p.e taken words h) some in
        let after = begun-of p t lane (taken ++ w ∷ []) h.at n place-now
        (start-stays p.e taken w h.at n some) in
        let left = start-leaves p.e taken h.at n some in
        let c = left-grows p taken w h.at n words size (omega arith)
        (start-locked p.e taken h.at n some) in
        let old : List Entry = map Held (cells_left p taken h.at n) in
        let new : List Entry = map Held (cells_left p (taken ++ w ∷ []) h.at n) in
        let here : entries_c p t lane taken ≡ (if is_inside t f then old else []) =
        before.entries ∙ ap (λ (o : ℕ). if is_inside t o then old else []) at in
        let there : entries_c p t lane (taken ++ w ∷ []) ≡ (if is_inside t f then new else []) =
        after.entries ∙ ap (λ (o : ℕ). if is_inside t o then new else []) (offset-same ∙ at) in
        let longer : new ≡ old ++ Held c.0 ∷ [] =
        ap (map Held) c.1 ∙ map_push Held (cells_left p taken h.at n) c.0 in
        record {
          started = after.started ∙ ap Some (offset-same ∙ at);
          entry = Held c.0;
          inside = λ e. there ∙ cond-true (is_inside t f) new [] e ∙ longer
              ∙ ap (λ es. es ++ Held c.0 ∷ [])
              (sym (here ∙ cond-true (is_inside t f) old [] e));
          outside_before = λ e. here ∙ cond-false (is_inside t f) old [] e;
          outside = λ e. there ∙ cond-false (is_inside t f) new [] e;
        }

  -- it had not
  module _ (h : Stands p.e taken) (none : start p.e taken h.at ≡ None) where
    starts-with : (n : ℕ) → dropped_at p.e (taken ++ w ∷ []) h.at ≡ None
        → start p.e (taken ++ w ∷ []) h.at ≡ Some n → StartsNow lanes_c p t lane taken w
    starts-with n stays some =
        let g = stands-next p.e taken w words size h stays in
        let placed : place p.e (taken ++ w ∷ []) ≡ Some h.at =
        place-stands p.e (taken ++ w ∷ []) (blocks-now p.e taken w words size) g.0
        ∙ ap Some g.1 in
        let b = begun-of p t lane (taken ++ w ∷ []) h.at n placed some in
        let last = starts-late p.e taken w words size h.at n none some in
        let order : order_at (taken ++ w ∷ []) (leaves h.at n) ≡ w.order =
        ap (order_at (taken ++ w ∷ [])) last ∙ last-order taken w in
        let c = left-grows p taken w h.at n words size (omega arith)
        (start-locked p.e (taken ++ w ∷ []) h.at n some) in
        let one : map Held (cells_left p (taken ++ w ∷ []) h.at n) ≡ Held c.0 ∷ [] =
        ap (map Held) (c.1 ∙ ap (λ cs. cs ++ c.0 ∷ []) (left-none p taken h.at n last)) in
        record {
          started = b.started ∙ ap (λ (o : RxOrder). Some o.offset) order;
          armed = sym (ap (λ (o : RxOrder). o.armed) order)
              ∙ armed-start p.e (taken ++ w ∷ []) h.at n some;
          entry = Held c.0;
          entries = b.entries
              ∙ ap₂ (λ (o : RxOrder) (es : List Entry). if is_inside t o.offset then es else [])
              order one;
        }

    next-held : IsUnstarted lanes_c p t lane (taken ++ w ∷ []) ⊎ StartsNow lanes_c p t lane taken w
    next-held = elim (cases-found (dropped_at p.e (taken ++ w ∷ []) h.at)) [
      | inl y ↦ inl (idle-unstarted p t lane (taken ++ w ∷ [])
          (inl (dropped-next p.e taken w words size h y.0 y.1)))
      | inr stays ↦ elim (cases-found (start p.e (taken ++ w ∷ []) h.at)) [
        | inl n ↦ inr (starts-with n.0 stays n.1)
        | inr still ↦
            let g = stands-next p.e taken w words size h stays in
            inl (idle-unstarted p t lane (taken ++ w ∷ [])
            (inr (
              h.at,
              place-stands p.e (taken ++ w ∷ []) (blocks-now p.e taken w words size) g.0
                  ∙ ap Some g.1,
              still,
            )))
      ]
    ]

  next-unstarted : started_by lanes_c p t lane taken ≡ None
      → IsUnstarted lanes_c p t lane (taken ++ w ∷ []) ⊎ StartsNow lanes_c p t lane taken w
  next-unstarted none = elim (search-stands p.e taken words) [
    | inl u ↦ inl (idle-unstarted p t lane (taken ++ w ∷ [])
        (nowhere-next p.e taken w words size u))
    | inr h ↦ elim (cases-found (start p.e taken h.at)) [
      | inl n ↦
          let b = begun-of p t lane taken h.at n.0 (place-stands p.e taken words h) n.1 in
          let some = b.started in
          absurd (cc)
      | inr still ↦ next-held h still
    ]
  ]

  next-started : (f : ℕ) → ((i : ℕ) → (order_at taken i).armed ≡ true → w.order.armed ≡ true)
      → started_by lanes_c p t lane taken ≡ Some f → StartedMore lanes_c p t lane taken w f
  next-started f on some = elim (search-stands p.e taken words) [
    | inl u ↦
        let idle = idle-unstarted p t lane taken (inl (place-nowhere p.e taken words u)) in
        let none = idle.started in
        absurd (cc)
    | inr h ↦ elim (cases-found (start p.e taken h.at)) [
      | inl n ↦
          let b = begun-of p t lane taken h.at n.0 (place-stands p.e taken words h) n.1 in
          let is = b.started in
          let at : offset_of taken h.at n.0 ≡ f = cc in
          begun-more h n.0 n.1 (on (leaves h.at n.0) (armed-start p.e taken h.at n.0 n.1)) f at
      | inr still ↦
          let idle = idle-unstarted p t lane taken
          (inr (h.at, place-stands p.e taken words h, still)) in
          let none = idle.started in
          absurd (cc)
    ]
  ]

-- ---- the facts

no-entries : (p : Params) (t : Timing) (lane : ℕ) (taken : List Taken) → AreBlocks taken
    → started_by lanes_c p t lane taken ≡ None → entries_c p t lane taken ≡ []
no-entries p t lane taken words none = elim (cases-place (place p.e taken)) [
  | inr unplaced ↦ entries-of p t lane taken None unplaced
  | inl x ↦ elim (cases-found (start p.e taken x.0)) [
    | inr still ↦ (idle-unstarted p t lane taken (inr (x.0, x.1, still))).entries
    | inl n ↦
        let b = begun-of p t lane taken x.0 n.0 x.1 n.1 in
        let some = b.started in
        absurd (cc)
  ]
]

are-held : (p : Params) (cs : List LaneCell) → is_b p.mode ≡ false → AreEntries p (map Held cs)
are-held p cs mode = record {
  placed = 0;
  cells = cs;
  are = refl;
  whole = inr (rw mode refl);
  few = omega arith;
}

entries-are : (p : Params) (t : Timing) (lane : ℕ) (taken : List Taken) → is_b p.mode ≡ false
    → AreEntries p (entries_c p t lane taken)
entries-are p t lane taken mode = elim (cases-place (place p.e taken)) [
  | inr none ↦ rw (entries-of p t lane taken None none) (are-held p [] mode)
  | inl x ↦ elim (cases-found (start p.e taken x.0)) [
    | inr still ↦ rw (entries-of p t lane taken (Some x.0) x.1
        ∙ ap (entries_from p t taken x.0) still) (are-held p [] mode)
    | inl n ↦
        let b = begun-of p t lane taken x.0 n.0 x.1 n.1 in
        let all : List Entry = map Held (cells_left p taken x.0 n.0) in
        elim (cases_Bool (is_inside t (offset_of taken x.0 n.0))) [
          | inl i ↦ rw (b.entries ∙ cond-true (is_inside t (offset_of taken x.0 n.0)) all [] i)
              (are-held p (cells_left p taken x.0 n.0) mode)
          | inr o ↦ rw (b.entries ∙ cond-false (is_inside t (offset_of taken x.0 n.0)) all [] o)
              (are-held p [] mode)
        ]
  ]
]

nothing : (p : Params) (t : Timing) (lane : ℕ) → IsUnstarted lanes_c p t lane []
unfolding place place_from
nothing p t lane = idle-unstarted p t lane [] (inl refl)

module _ (p : Params) (t : Timing) (mode : is_b p.mode ≡ false) where
  bits : width p ≡ 66
  bits = rw mode refl

  blocks : (taken : List Taken) → AreTicks (width p) taken → AreBlocks taken
  blocks taken ticks =
      words-blocks taken (let all : AreWords 66 taken = rw bits at ticks.words in all)

  pub facts-c : KindFacts lanes_c p t
  facts-c = record {
    nothing = nothing p t;
    empty = λ lane taken ticks none. no-entries p t lane taken (blocks taken ticks) none;
    unstarted = λ lane taken w ticks size on none.
        next-unstarted p t lane taken w (blocks taken ticks) (size ∙ bits) none;
    started = λ lane taken w f ticks size on some.
        next-started p t lane taken w (blocks taken ticks) (size ∙ bits) f
        (λ i armed. on (ticks.armed i armed)) some;
    are = λ lane taken. entries-are p t lane taken mode;
  }
