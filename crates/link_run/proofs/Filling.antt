-- The cells of a lane that are taken from its ring and wait.
use Rattle.std.proofs.Common.{◌≡◌, ◌≢◌, ◌∙◌, ◌<◌, ◌≤◌, ◌+◌, ℕ, List, [], ◌∷◌, ◌++◌, length, get_or, slice_index, set, drop, inl, inr, refl, arith, sym, ap, subst, append_assoc, append-nil, length-append, length-drop, length-set}
use Rattle.std.proofs.lemmas.Bool.{cases_lt}
use Rattle.std.proofs.lemmas.List.{drop-append-le, get_or-set_same, get_or-set_other, get_or_default}
use Rattle.rtrb.specs.Ring.{SameConsumer, known_items, received}
use Rattle.link_params.specs.declared.cells.LaneCell.{LaneCell}
use Rattle.lane_threads.specs.declared.cell_end.CellEnd.{CellEnd}
use Rattle.link_run.specs.kept.Waits.{AreFilled, IsFilled, Waits}

-- some of the cells were moved behind those of `old`; where there were none, `items` begins there
pub record IsFilling (old : Waits) (next : ℕ) (items : List LaneCell) (before after : CellEnd)
    : Type 0 where
  pub moved : List LaneCell
  pub known_before : known_items before.ring ≡ moved ++ known_items after.ring
  pub received_too : received after.ring ≡ received before.ring ++ moved
  pub ring : SameConsumer before.ring after.ring
  pub waiting : drop next items ≡ old.cells ++ moved
  pub first : old.cells ≡ [] → next ≡ 0
  pub inside : next ≤ length items

pub filling-none : (old : Waits) (next : ℕ) (items : List LaneCell) (end : CellEnd)
    → old.cells ≡ drop next items → (old.cells ≡ [] → next ≡ 0) → next ≤ length items
    → IsFilling old next items end end
filling-none old next items end is first inside = record {
  moved = [];
  known_before = refl;
  received_too = sym (append-nil (received end.ring));
  ring = ((refl, refl, refl, refl), refl);
  waiting = sym is ∙ sym (append-nil old.cells);
  first = first;
  inside = inside;
}

pub filling-more : (old : Waits) (next : ℕ) (items : List LaneCell) (before now after : CellEnd)
    (cell : LaneCell) → known_items now.ring ≡ cell ∷ known_items after.ring
    → received after.ring ≡ received now.ring ++ cell ∷ [] → SameConsumer now.ring after.ring
    → IsFilling old next items before now
    → IsFilling old next (items ++ cell ∷ []) before after
filling-more old next items before now after cell known got ring h =
    let inside = h.inside in
    let r = ring.0 in
    let s = h.ring.0 in
    record {
      moved = h.moved ++ cell ∷ [];
      known_before = h.known_before ∙ ap (λ (xs : List LaneCell). h.moved ++ xs) known
          ∙ sym (append_assoc h.moved (cell ∷ []) (known_items after.ring));
      received_too = got ∙ ap (λ (xs : List LaneCell). xs ++ cell ∷ []) h.received_too
          ∙ append_assoc (received before.ring) h.moved (cell ∷ []);
      ring = ((r.0 ∙ s.0, r.1 ∙ s.1, r.2 ∙ s.2, r.3 ∙ s.3), ring.1 ∙ h.ring.1);
      waiting = drop-append-le next items (cell ∷ []) h.inside
          ∙ ap (λ (xs : List LaneCell). xs ++ cell ∷ []) h.waiting
          ∙ append_assoc old.cells h.moved (cell ∷ []);
      first = h.first;
      inside =
          let more = length-append items (cell ∷ []) in
          omega arith;
    }

pub none-long : {A : Type 0} → (xs : List A) → length xs ≡ 0 → xs ≡ []
none-long [] e = refl
none-long (x ∷ xs) e = absurd (omega arith)

-- nothing more is known of, or the room is full
pub filled : (old now : Waits) (next : ℕ) (items : List LaneCell) (before after : CellEnd)
    → IsFilling old next items before after → now.cells ≡ drop next items → now.room ≡ old.room
    → (0 < length (known_items after.ring) → old.room ≤ length items)
    → IsFilled old now before after
filled old now next items before after h is room full = record {
  moved = h.moved;
  known_before = h.known_before;
  received_too = h.received_too;
  ring = h.ring;
  waiting = is ∙ h.waiting;
  all = λ none few. none-long (known_items after.ring) (elim (cases_lt 0 (length (known_items after.ring))) [
    | inl some ↦
        let enough = full some in
        let start = h.first none in
        let dropped = length-drop next items in
        let long = ap length h.waiting in
        let joined = length-append old.cells h.moved in
        let no_old = ap length none in
        let known = ap length h.known_before in
        let parts = length-append h.moved (known_items after.ring) in
        let more : length (known_items before.ring) ≡ length h.moved + length (known_items after.ring) = known ∙ parts in
        let all : length items ≡ length h.moved = omega arith in
        omega arith
    | inr none_left ↦ omega arith
  ]);
  same_room = room;
}

-- ---- one lane after another

-- no two lanes have the same place
abbrev pub AreApart : List ℕ → ℕ → Type 0
AreApart route l = (i j : ℕ) → i < l → j < l → slice_index route i ≡ slice_index route j → i ≡ j

-- the ends of the first n lanes gave their cells, which wait at the places of the lanes
pub record AreFilling (old now : List Waits) (before after : List CellEnd) (route : List ℕ) (n : ℕ)
    : Type 0 where
  pub count : length now ≡ length old
  pub end_count : length after ≡ length before
  pub filled : (k : ℕ) (w : Waits) (e : CellEnd) → k < n → k < length before
      → IsFilled (get_or old (slice_index route k) w) (get_or now (slice_index route k) w)
      (get_or before k e) (get_or after k e)
  pub waits_stood : (k : ℕ) (w : Waits) → n ≤ k → k < length before
      → get_or now (slice_index route k) w ≡ get_or old (slice_index route k) w
  pub ends_stood : (k : ℕ) (e : CellEnd) → n ≤ k → get_or after k e ≡ get_or before k e

pub are-filling-none : (waits : List Waits) (ends : List CellEnd) (route : List ℕ)
    → AreFilling waits waits ends ends route 0
are-filling-none waits ends route = record {
  count = refl;
  end_count = refl;
  filled = λ k w e low below. absurd (omega arith);
  waits_stood = λ k w from in_list. refl;
  ends_stood = λ k e from. refl;
}

pub are-filling-more : (old now : List Waits) (before after : List CellEnd) (route : List ℕ)
    (n : ℕ) (y d : Waits) (b e : CellEnd) → AreApart route (length before)
    → slice_index route n < length now → n < length after
    → IsFilled (get_or now (slice_index route n) d) y (get_or after n e) b
    → AreFilling old now before after route n
    → AreFilling old (set now (slice_index route n) y) before (set after n b) route (n + 1)
are-filling-more old now before after route n y d b e apart below inside is h =
    let at : ℕ = slice_index route n in
    let ends = h.end_count in
    let here : (w : Waits) (f : CellEnd)
    → IsFilled (get_or old at w) (get_or (set now at y) at w) (get_or before n f)
    (get_or (set after n b) n f) =
    λ w f. rw (
      get_or-set_same now at y w below,
      get_or-set_same after n b f inside,
      ← h.waits_stood n w (omega arith) (omega arith),
      ← h.ends_stood n f (omega arith),
      get_or_default now at w d below,
      get_or_default after n f e inside,
    ) is in
    record {
      count = length-set now at y ∙ h.count;
      end_count = length-set after n b ∙ h.end_count;
      filled = λ k w f low in_list. elim (cases_lt k n) [
        | inl first ↦
            let other : k ≢ n = λ same. omega arith in
            let away : slice_index route k ≢ at = λ same. other (apart k n in_list (omega arith) same) in
            rw (
              get_or-set_other now at (slice_index route k) y w away,
              get_or-set_other after n k b f other,
            ) (h.filled k w f first in_list)
        | inr after_it ↦
            let same : n ≡ k = omega arith in
            subst (λ (m : ℕ). IsFilled (get_or old (slice_index route m) w)
            (get_or (set now at y) (slice_index route m) w)
            (get_or before m f) (get_or (set after n b) m f)) same (here w f)
      ];
      waits_stood = λ k w from in_list.
          let other : k ≢ n = λ same. omega arith in
          let away : slice_index route k ≢ at = λ same. other (apart k n in_list (omega arith) same) in
          get_or-set_other now at (slice_index route k) y w away ∙ h.waits_stood k w (omega arith) in_list;
      ends_stood = λ k f from. let other : k ≢ n = λ same. omega arith in
          get_or-set_other after n k b f other ∙ h.ends_stood k f (omega arith);
    }

pub are-filled : (old now : List Waits) (before after : List CellEnd) (route : List ℕ) (n : ℕ)
    → AreFilling old now before after route n → length before ≤ n
    → AreFilled old now before after route
are-filled old now before after route n h all = record {
  count = h.count;
  end_count = h.end_count;
  each = λ lane w e below. h.filled lane w e (omega arith) below;
}
