-- The start of an 8b/10b receiver lane and the entries that came into its buffer, with a tick more.
use Rattle.std.proofs.Common.{◌≡◌, ℕ, zero, suc, ◌+◌, ◌<◌, ◌≤◌, ◌⊎◌, Bool, true, false, not, ◌&&◌, if◌then◌else◌, List, [], ◌∷◌, ◌++◌, map, replicate, length, take, drop, Option, Some, None, option_map, unwrap_or, refl, inl, inr, sym, ◌∙◌, ap, ap₂, arith, length-append, length-drop, length-take}
use Rattle.std.proofs.Math.Seq.{get_or-append_seam, drop-append-le}
use Rattle.std.proofs.lemmas.List.{drop_all}
use Rattle.std.proofs.lemmas.Bool.{and_parts, cases_Bool, cases_lt, cond-true, cond-false}
use Rattle.link_params.specs.declared.fields.Params.{Params}
use Rattle.link_params.specs.declared.fields.Timing.{Timing}
use Rattle.link_params.specs.declared.orders.RxOrder.{RxOrder}
use Rattle.link_params.specs.declared.cells.LaneCell.{LaneCell}
use Rattle.link_params.specs.Lanes.{Entry, Placed, Held, Taken, is_inside}
use Rattle.code_8b10b.specs.declared.character.Reading.{Reading}
use Rattle.code_8b10b.specs.Commas.{least_place, found}
use Rattle.code_8b10b.proofs.Places.{finds_least_place, nowhere-found, stands_at-append}
use Rattle.lane_b.specs.Locking.{Lock, bits_taken, bits_to_start, from_other, is_comma, is_dropped, is_empty, lock, lock_at, lock_from, no_order, order_at, since_start, start_of, tick_of_start}
use Rattle.lane_b.specs.Loss.{ilas_length}
use Rattle.lane_b.specs.Received.{data_cells, entries_b, entries_of, entries_since, is_started_inside, report_b, report_of}
use Rattle.lane_b.specs.kept.Receivers.{AreTens, Searches}
use Rattle.lane_b.proofs.ChainLemmas.{from_other-append_none, from_other-append_some, is_empty-append, is_empty-nil}
use Rattle.lane_b.proofs.PlaceLemmas.{inside_of, least_place-from, zero_place}
use Rattle.lane_b.proofs.SearchLemmas.{are_tens-more, bits_to_start-inside, later_readings, least-more, length-bits_taken, length-read, lock-none, lock-some, order_of_start-more, place-lock_at, read-append, searches-drop, searches-more, searches-start}
use Rattle.lane_b.proofs.EntryLemmas.{entries_since-nothing}
use Rattle.lane_b.proofs.Giving.{data_cells-none}
use Rattle.lane_b.proofs.StageLemmas.{bits_taken-one}
use Rattle.lane_b.proofs.EntriesMore.{entries-since-more}

-- the offset of the lane's start
abbrev pub started_b : Params → Timing → ℕ → List Taken → Option ℕ
started_b p t lane taken = (report_b p t lane taken).started

-- ---- where the search stands

-- no lock is found from bit x on
pub record Nowhere (taken : List Taken) (x : ℕ) : Type 0 where
  pub searches : Searches taken x
  pub none : least_place x (drop x (bits_taken taken)) ≡ None

-- the lock at place y is held
pub record Holds (taken : List Taken) (x y : ℕ) : Type 0 where
  pub searches : Searches taken x
  pub least : least_place x (drop x (bits_taken taken)) ≡ Some y
  pub inside : y + 40 ≤ length (bits_taken taken)
  pub held : is_dropped taken (lock_at (bits_taken taken) y) ≡ false

pub cases-found : (o : Option ℕ) → ((y : ℕ) × (o ≡ Some y)) ⊎ (o ≡ None)
cases-found (Some y) = inl (y, refl)
cases-found None = inr refl

pub cases-lock : (o : Option Lock) → ((l : Lock) × (o ≡ Some l)) ⊎ (o ≡ None)
cases-lock (Some l) = inl (l, refl)
cases-lock None = inr refl

pub not-is : (a : Bool) → not a ≡ true → a ≡ false
not-is true e = cc
not-is false e = refl

pub place-inside : (taken : List Taken) (x y : ℕ) → x ≤ length (bits_taken taken) → least_place x (drop x (bits_taken taken)) ≡ Some y
    → (x ≤ y) × (y + 40 ≤ length (bits_taken taken))
place-inside taken x y within e =
    let z = zero_place x (drop x (bits_taken taken)) y e in
    let i = inside_of (drop x (bits_taken taken)) z.0 z.1 in
    let l = length-drop x (bits_taken taken) in
    let from = z.2 in
    (omega arith, omega arith)

search-from : (n : ℕ) (taken : List Taken) (x : ℕ) → AreTens taken → Searches taken x → length (bits_taken taken) < x + n
    → ((y : ℕ) × Nowhere taken y) ⊎ ((y : ℕ) × (z : ℕ) × Holds taken y z)
search-from zero taken x tens s near = let within = s.inside in absurd (omega arith)
search-from (suc n) taken x tens s near = elim (cases-found (least_place x (drop x (bits_taken taken)))) [
  | inr none ↦ inl (x, record { searches = s; none = none })
  | inl k ↦
      let y : ℕ = k.0 in
      let inside = place-inside taken x y s.inside k.1 in
      let from = inside.0 in
      elim (cases_Bool (is_dropped taken (lock_at (bits_taken taken) y))) [
        | inr held ↦ inr (x, y, record { searches = s; least = k.1; inside = inside.1; held = held })
        | inl dropped ↦
            let l : Lock = lock_at (bits_taken taken) y in
            let parts = and_parts (not (is_empty (since_start l))) (not (order_at taken (tick_of_start l)).armed) dropped in
            let begun = not-is (is_empty (since_start l)) parts.0 in
            let unarmed = not-is (order_at taken (tick_of_start l)).armed parts.1 in
            let low = (bits_to_start-inside (bits_taken taken) y inside.1 begun).0 in
            search-from n taken (bits_to_start l) tens (searches-drop taken x y tens s k.1 inside.1 begun unarmed) (omega arith)
      ]
]

pub search-stands : (taken : List Taken) → AreTens taken → ((y : ℕ) × Nowhere taken y) ⊎ ((y : ℕ) × (z : ℕ) × Holds taken y z)
search-stands taken tens =
    search-from (suc (length (bits_taken taken))) taken 0 tens (searches-more [] 0 taken searches-start) (omega arith)

-- ---- starts and entries of a lock

pub started-none : (p : Params) (t : Timing) (lane : ℕ) (taken : List Taken) → lock taken ≡ None → started_b p t lane taken ≡ None
unfolding report_b
started-none p t lane taken e = ap (λ o. (report_of p lane taken o).started) e

entries-none : (p : Params) (t : Timing) (lane : ℕ) (taken : List Taken) → lock taken ≡ None → entries_b p t lane taken ≡ []
unfolding entries_b
entries-none p t lane taken e = ap (entries_of p t taken) e

pub started-lock : (p : Params) (t : Timing) (lane : ℕ) (taken : List Taken) (l : Lock) → lock taken ≡ Some l → started_b p t lane taken ≡ start_of taken l
unfolding report_b
started-lock p t lane taken l e = ap (λ o. (report_of p lane taken o).started) e

entries-lock : (p : Params) (t : Timing) (lane : ℕ) (taken : List Taken) (l : Lock) → lock taken ≡ Some l
    → entries_b p t lane taken ≡ (if is_started_inside t (start_of taken l) then entries_since p (since_start l) else [])
unfolding entries_b
entries-lock p t lane taken l e = ap (entries_of p t taken) e

pub start-begun : (taken : List Taken) (l : Lock) → is_empty (since_start l) ≡ false → start_of taken l ≡ Some (order_at taken (tick_of_start l)).offset
start-begun taken l e = cond-false (is_empty (since_start l)) None (Some (order_at taken (tick_of_start l)).offset) e

pub start-unbegun : (taken : List Taken) (l : Lock) → is_empty (since_start l) ≡ true → start_of taken l ≡ None
start-unbegun taken l e = cond-true (is_empty (since_start l)) None (Some (order_at taken (tick_of_start l)).offset) e

-- a lane that has not started
pub record IsUnstarted (p : Params) (t : Timing) (lane : ℕ) (taken : List Taken) : Type 0 where
  pub started : started_b p t lane taken ≡ None
  pub entries : entries_b p t lane taken ≡ []

unstarted-nowhere : (p : Params) (t : Timing) (lane : ℕ) (taken : List Taken) (x : ℕ) → AreTens taken → Nowhere taken x → IsUnstarted p t lane taken
unstarted-nowhere p t lane taken x tens n =
    let none = lock-none taken x tens n.searches n.none in
    record { started = started-none p t lane taken none; entries = entries-none p t lane taken none }

pub lock-held : (taken : List Taken) (x y : ℕ) → AreTens taken → Holds taken x y → lock taken ≡ Some (lock_at (bits_taken taken) y)
lock-held taken x y tens o = lock-some taken x y tens o.searches o.least o.inside o.held

unstarted-held : (p : Params) (t : Timing) (lane : ℕ) (taken : List Taken) (x y : ℕ) → AreTens taken → Holds taken x y
    → is_empty (since_start (lock_at (bits_taken taken) y)) ≡ true → IsUnstarted p t lane taken
unstarted-held p t lane taken x y tens o empty =
    let l : Lock = lock_at (bits_taken taken) y in
    let is = lock-held taken x y tens o in
    let none = start-unbegun taken l empty in
    record {
      started = started-lock p t lane taken l is ∙ none;
      entries = entries-lock p t lane taken l is ∙ ap (λ (s : Option ℕ). if is_started_inside t s then entries_since p (since_start l) else []) none;
    }

-- a lane that has started at this offset, with these readings since
record IsBegun (p : Params) (t : Timing) (lane : ℕ) (taken : List Taken) (offset : ℕ) (since : List Reading) : Type 0 where
  started : started_b p t lane taken ≡ Some offset
  entries : entries_b p t lane taken ≡ (if is_inside t offset then entries_since p since else [])

begun-held : (p : Params) (t : Timing) (lane : ℕ) (taken : List Taken) (x y : ℕ) → AreTens taken → Holds taken x y
    → is_empty (since_start (lock_at (bits_taken taken) y)) ≡ false
    → IsBegun p t lane taken (order_at taken (tick_of_start (lock_at (bits_taken taken) y))).offset (since_start (lock_at (bits_taken taken) y))
begun-held p t lane taken x y tens o begun =
    let l : Lock = lock_at (bits_taken taken) y in
    let is = lock-held taken x y tens o in
    let some = start-begun taken l begun in
    record {
      started = started-lock p t lane taken l is ∙ some;
      entries = entries-lock p t lane taken l is ∙ ap (λ (s : Option ℕ). if is_started_inside t s then entries_since p (since_start l) else []) some;
    }

-- it starts with this tick, armed, at the offset that it is told; where that is inside the window, its first entry comes
pub record StartsNow (p : Params) (t : Timing) (lane : ℕ) (taken : List Taken) (w : Taken) : Type 0 where
  pub started : started_b p t lane (taken ++ w ∷ []) ≡ Some w.order.offset
  pub armed : w.order.armed ≡ true
  pub entry : Entry
  pub entries : entries_b p t lane (taken ++ w ∷ []) ≡ (if is_inside t w.order.offset then entry ∷ [] else [])

-- it started at offset f before: the start stays, and where it is inside the window, one entry more comes
pub record StartedMore (p : Params) (t : Timing) (lane : ℕ) (taken : List Taken) (w : Taken) (f : ℕ) : Type 0 where
  pub started : started_b p t lane (taken ++ w ∷ []) ≡ Some f
  pub entry : Entry
  pub inside : is_inside t f ≡ true → entries_b p t lane (taken ++ w ∷ []) ≡ entries_b p t lane taken ++ entry ∷ []
  pub outside_before : is_inside t f ≡ false → entries_b p t lane taken ≡ []
  pub outside : is_inside t f ≡ false → entries_b p t lane (taken ++ w ∷ []) ≡ []

-- ---- a tick more

one-reading : (all old later : List Reading) → all ≡ old ++ later → length later ≡ 1 → (r : Reading) × (later ≡ r ∷ []) × (all ≡ old ++ r ∷ [])
one-reading all old [] e one = absurd (omega arith)
one-reading all old (r ∷ []) e one = (r, refl, e)
one-reading all old (r ∷ q ∷ rs) e one = absurd (omega arith)

no-item : (rs : List Reading) → length rs ≡ 0 → rs ≡ []
no-item [] e = refl
no-item (r ∷ rs) e = absurd (omega arith)

none-of : (o : Option ℕ) (x : ℕ) → option_map (λ y. x + y) o ≡ None → o ≡ None
none-of None x e = refl
none-of (Some y) x e = let bad : Some (x + y) ≡ None = e in absurd (cc)

pub none-zero : (x : ℕ) (bs : List Bool) → least_place x bs ≡ None → least_place 0 bs ≡ None
none-zero x bs e = none-of (least_place 0 bs) x (sym (least_place-from x bs) ∙ e)

found-nothing : (bs : List Bool) → least_place 0 bs ≡ None → found bs ≡ None
unfolding found
found-nothing bs e = rw e refl

module _ (taken : List Taken) (w : Taken) (tens : AreTens taken) (ten : length w.word ≡ 10) where
  with_one : List Taken
  with_one = taken ++ w ∷ []

  tens_one : AreTens with_one
  unfolding with_one
  tens_one = are_tens-more taken w tens ten

  long_one : length (bits_taken with_one) ≡ length (bits_taken taken) + 10
  unfolding with_one
  long_one = ap length (bits_taken-one taken w) ∙ length-append (bits_taken taken) w.word ∙ ap (λ n. length (bits_taken taken) + n) ten

  -- one reading more
  reading-more : (y : ℕ) → y + 40 ≤ length (bits_taken taken)
      → (r : Reading) × (later_readings (bits_taken taken) y w.word ≡ r ∷ [])
      × ((lock_at (bits_taken with_one) y).read ≡ (lock_at (bits_taken taken) y).read ++ r ∷ [])
  unfolding with_one
  reading-more y inside =
      let bs : List Bool = bits_taken taken in
      let long = long_one in
      let whole : (lock_at (bits_taken (taken ++ w ∷ [])) y).read ≡ (lock_at bs y).read ++ later_readings bs y w.word =
      ap (λ cs. (lock_at cs y).read) (bits_taken-one taken w) ∙ read-append bs y w.word inside in
      let all = ap length whole ∙ length-append (lock_at bs y).read (later_readings bs y w.word) in
      let fits : y + 40 ≤ length (bits_taken (taken ++ w ∷ [])) = omega arith in
      let now = length-read (bits_taken (taken ++ w ∷ [])) y fits in
      let before = length-read bs y inside in
      let one : length (later_readings bs y w.word) ≡ 1 = omega arith in
      one-reading (lock_at (bits_taken (taken ++ w ∷ [])) y).read (lock_at bs y).read (later_readings bs y w.word) whole one

  -- a lock with no reading since the start is not dropped
  not-dropped : (l : Lock) → is_empty (since_start l) ≡ true → is_dropped with_one l ≡ false
  not-dropped l e = ap (λ (b : Bool). not b && not (order_at with_one (tick_of_start l)).armed) e

  drop-one : (x : ℕ) → x ≤ length (bits_taken taken) → drop x (bits_taken with_one) ≡ drop x (bits_taken taken) ++ w.word
  unfolding with_one
  drop-one x within = ap (drop x) (bits_taken-one taken w) ∙ drop-append-le x (bits_taken taken) w.word within

  late-place : (x y : ℕ) → Nowhere taken x → least_place x (drop x (bits_taken with_one)) ≡ Some y → length (bits_taken taken) < y + 40
  late-place x y n e =
      let bs : List Bool = drop x (bits_taken taken) in
      let within = n.searches.inside in
      let z = zero_place x (drop x (bits_taken with_one)) y e in
      let is = z.2 in
      let l = length-drop x (bits_taken taken) in
      elim (cases_lt (length (bits_taken taken)) (y + 40)) [
        | inl late ↦ late
        | inr early ↦
            let there : least_place 0 (bs ++ w.word) ≡ Some z.0 = sym (ap (least_place 0) (drop-one x within)) ∙ z.1 in
            let yes = ((finds_least_place (bs ++ w.word) z.0).0 there).stands in
            let same = stands_at-append bs w.word z.0 (omega arith) in
            let no = nowhere-found bs (found-nothing bs (none-zero x bs n.none)) z.0 in
            absurd (cc)
      ]

  next-nowhere : (p : Params) (t : Timing) (lane x : ℕ) → Nowhere taken x → IsUnstarted p t lane with_one
  unfolding from_other
  next-nowhere p t lane x n =
      let more : Searches with_one x = unfold with_one in searches-more taken x (w ∷ []) n.searches in
      elim (cases-found (least_place x (drop x (bits_taken with_one)))) [
        | inr none ↦ unstarted-nowhere p t lane with_one x tens_one (record { searches = more; none = none })
        | inl k ↦
            let y : ℕ = k.0 in
            let late = late-place x y n k.1 in
            let inside = (place-inside with_one x y more.inside k.1).1 in
            let long = long_one in
            let count = length-read (bits_taken with_one) y inside in
            let none : (lock_at (bits_taken with_one) y).read ≡ [] = no-item (lock_at (bits_taken with_one) y).read (omega arith) in
            let empty : is_empty (since_start (lock_at (bits_taken with_one) y)) ≡ true = ap (λ rs. is_empty (from_other rs)) none in
            unstarted-held p t lane with_one x y tens_one
            (record { searches = more; least = k.1; inside = inside; held = not-dropped (lock_at (bits_taken with_one) y) empty }) empty
      ]

  module _ (x y : ℕ) (o : Holds taken x y) where
    old : Lock
    old = lock_at (bits_taken taken) y

    now : Lock
    now = lock_at (bits_taken with_one) y

    more : Searches with_one x
    unfolding with_one
    more = searches-more taken x (w ∷ []) o.searches

    least : least_place x (drop x (bits_taken with_one)) ≡ Some y
    unfolding with_one
    least = least-more taken x y (w ∷ []) o.searches.inside o.least

    inside : y + 40 ≤ length (bits_taken with_one)
    inside = let before = o.inside in let long = long_one in omega arith

    reading : Reading
    reading = (reading-more y o.inside).0

    read-now : now.read ≡ old.read ++ reading ∷ []
    unfolding old now reading
    read-now = (reading-more y o.inside).2

    -- the lane started before
    module _ (begun : is_empty (since_start old) ≡ false) where
      order-now : order_at with_one (tick_of_start now) ≡ order_at taken (tick_of_start old)
      unfolding old now with_one
      order-now = order_of_start-more taken y (w ∷ []) tens o.inside begun

      since-now : since_start now ≡ since_start old ++ reading ∷ []
      unfolding old
      since-now = ap from_other read-now ∙ from_other-append_some old.read (reading ∷ []) begun

      begun-now : is_empty (since_start now) ≡ false
      begun-now = ap is_empty since-now ∙ is_empty-append (since_start old) (reading ∷ []) begun

      armed : (order_at taken (tick_of_start old)).armed ≡ true
      unfolding old
      armed = elim (cases_Bool (order_at taken (tick_of_start old)).armed) [
        | inl e ↦ e
        | inr e ↦
            let drops : is_dropped taken old ≡ true = ap₂ (λ (a b : Bool). not a && not b) begun e in
            let holds = o.held in
            absurd (cc)
      ]

      held-now : Holds with_one x y
      unfolding old now
      held-now = record {
        searches = more;
        least = least;
        inside = inside;
        held = ap₂ (λ (a b : Bool). not a && not b) begun-now (ap (λ (q : RxOrder). q.armed) order-now ∙ armed);
      }

      next-begun : (p : Params) (t : Timing) (lane f : ℕ) → started_b p t lane taken ≡ Some f → StartedMore p t lane taken w f
      unfolding old now with_one
      next-begun p t lane f started =
          let before = begun-held p t lane taken x y tens o begun in
          let after = begun-held p t lane with_one x y tens_one held-now begun-now in
          let offset : Some (order_at taken (tick_of_start old)).offset ≡ Some f = sym before.started ∙ started in
          let g = entries-since-more p (since_start old) reading in
          let starts : started_b p t lane (taken ++ w ∷ []) ≡ Some f = after.started ∙ ap (λ (q : RxOrder). Some q.offset) order-now ∙ offset in
          let here : entries_b p t lane taken ≡ (if is_inside t f then entries_since p (since_start old) else []) =
          before.entries ∙ ap (λ (q : Option ℕ). if is_inside t (unwrap_or q 0) then entries_since p (since_start old) else []) offset in
          let there : entries_b p t lane (taken ++ w ∷ []) ≡ (if is_inside t f then entries_since p (since_start now) else []) =
          after.entries
          ∙ ap (λ (q : RxOrder). if is_inside t q.offset then entries_since p (since_start now) else []) order-now
          ∙ ap (λ (q : Option ℕ). if is_inside t (unwrap_or q 0) then entries_since p (since_start now) else []) offset in
          let longer : entries_since p (since_start now) ≡ entries_since p (since_start old) ++ g.0 ∷ [] = ap (entries_since p) since-now ∙ g.1 in
          record {
            started = starts;
            entry = g.0;
            inside = λ e.
                there ∙ cond-true (is_inside t f) (entries_since p (since_start now)) [] e ∙ longer
                ∙ ap (λ es. es ++ g.0 ∷ []) (sym (here ∙ cond-true (is_inside t f) (entries_since p (since_start old)) [] e));
            outside_before = λ e. here ∙ cond-false (is_inside t f) (entries_since p (since_start old)) [] e;
            outside = λ e. there ∙ cond-false (is_inside t f) (entries_since p (since_start now)) [] e;
          }

    -- it did not
    module _ (empty : is_empty (since_start old) ≡ true) where
      none-before : since_start old ≡ []
      none-before = is_empty-nil (since_start old) empty

      since-from : since_start now ≡ from_other (reading ∷ [])
      since-from = ap from_other read-now ∙ from_other-append_none old.read (reading ∷ []) none-before

      next-comma : (p : Params) (t : Timing) (lane : ℕ) → is_comma reading ≡ true → IsUnstarted p t lane with_one
      unfolding now from_other
      next-comma p t lane comma =
          let none : is_empty (since_start now) ≡ true = ap is_empty since-from ∙ rw comma refl in
          unstarted-held p t lane with_one x y tens_one (record { searches = more; least = least; inside = inside; held = not-dropped now none }) none

      module _ (other : is_comma reading ≡ false) where
        since-one : since_start now ≡ reading ∷ []
        unfolding from_other
        since-one = since-from ∙ rw other refl

        begun-one : is_empty (since_start now) ≡ false
        begun-one = ap is_empty since-one

        bits-one : (length (bits_taken taken) < bits_to_start now) × (bits_to_start now ≤ length (bits_taken with_one))
        unfolding now old
        bits-one =
            let fits = inside in
            let before = o.inside in
            let long = long_one in
            let count = length-read (bits_taken with_one) y fits in
            let place = place-lock_at (bits_taken with_one) y in
            let one : length (since_start now) ≡ 1 = ap length since-one in
            let some : length now.read ≡ length old.read + 1 = ap length read-now ∙ length-append old.read (reading ∷ []) in
            (omega arith, omega arith)

        order-one : order_at with_one (tick_of_start now) ≡ w.order
        unfolding with_one
        order-one =
            let l = length-bits_taken taken tens in
            let b = bits-one in
            let low = b.0 in
            let high = b.1 in
            let long = long_one in
            let tick : tick_of_start now ≡ length taken = omega arith in
            ap (order_at (taken ++ w ∷ [])) tick ∙ ap (λ (q : Taken). q.order) (get_or-append_seam taken w [] (record { order = no_order; word = [] }))

        next-starts : (p : Params) (t : Timing) (lane : ℕ) → w.order.armed ≡ true → StartsNow p t lane taken w
        unfolding now with_one
        next-starts p t lane armed =
            let held : Holds (taken ++ w ∷ []) x y = record {
              searches = more;
              least = least;
              inside = inside;
              held = ap₂ (λ (a b : Bool). not a && not b) begun-one (ap (λ (q : RxOrder). q.armed) order-one ∙ armed);
            } in
            let b = begun-held p t lane (taken ++ w ∷ []) x y tens_one held begun-one in
            let g = entries-since-more p [] reading in
            let one : entries_since p (since_start now) ≡ g.0 ∷ [] =
            ap (entries_since p) since-one ∙ g.1 ∙ ap (λ es. es ++ g.0 ∷ []) (entries_since-nothing p) in
            record {
              started = b.started ∙ ap (λ (q : RxOrder). Some q.offset) order-one;
              armed = armed;
              entry = g.0;
              entries = b.entries
                  ∙ ap (λ (q : RxOrder). if is_inside t q.offset then entries_since p (since_start now) else []) order-one
                  ∙ ap (λ es. if is_inside t w.order.offset then es else []) one;
            }

        next-dropped : (p : Params) (t : Timing) (lane : ℕ) → w.order.armed ≡ false → IsUnstarted p t lane with_one
        unfolding now
        next-dropped p t lane unarmed =
            let unarmed_now = ap (λ (q : RxOrder). q.armed) order-one ∙ unarmed in
            let s = searches-drop with_one x y tens_one more least inside begun-one unarmed_now in
            let b = bits-one in
            let low = b.0 in
            let long = long_one in
            elim (cases-found (least_place (bits_to_start now) (drop (bits_to_start now) (bits_taken with_one)))) [
              | inr none ↦ unstarted-nowhere p t lane with_one (bits_to_start now) tens_one (record { searches = s; none = none })
              | inl k ↦
                  let fits = place-inside with_one (bits_to_start now) k.0 s.inside k.1 in
                  let from = fits.0 in
                  let end = fits.1 in
                  absurd (omega arith)
            ]

        next-other : (p : Params) (t : Timing) (lane : ℕ) → IsUnstarted p t lane with_one ⊎ StartsNow p t lane taken w
        next-other p t lane = elim (cases_Bool w.order.armed) [
          | inl e ↦ inr (next-starts p t lane e)
          | inr e ↦ inl (next-dropped p t lane e)
        ]

      next-empty : (p : Params) (t : Timing) (lane : ℕ) → IsUnstarted p t lane with_one ⊎ StartsNow p t lane taken w
      next-empty p t lane = elim (cases_Bool (is_comma reading)) [
        | inl e ↦ inl (next-comma p t lane e)
        | inr e ↦ next-other e p t lane
      ]

  -- a lane that has not started starts with the tick, or not
  pub next-unstarted : (p : Params) (t : Timing) (lane : ℕ) → started_b p t lane taken ≡ None → IsUnstarted p t lane (taken ++ w ∷ []) ⊎ StartsNow p t lane taken w
  unfolding with_one old
  next-unstarted p t lane none = elim (search-stands taken tens) [
    | inl n ↦ inl (next-nowhere p t lane n.0 n.1)
    | inr k ↦ elim (cases_Bool (is_empty (since_start (lock_at (bits_taken taken) k.1)))) [
      | inl empty ↦ next-empty k.0 k.1 k.2 empty p t lane
      | inr begun ↦ let b = begun-held p t lane taken k.0 k.1 tens k.2 begun in let some = b.started in absurd (cc)
    ]
  ]

  -- a lane that has started goes on
  pub next-started : (p : Params) (t : Timing) (lane f : ℕ) → started_b p t lane taken ≡ Some f → StartedMore p t lane taken w f
  unfolding with_one old
  next-started p t lane f some = elim (search-stands taken tens) [
    | inl n ↦ let u = (unstarted-nowhere p t lane taken n.0 tens n.1).started in absurd (cc)
    | inr k ↦ elim (cases_Bool (is_empty (since_start (lock_at (bits_taken taken) k.1)))) [
      | inl empty ↦ let u = (unstarted-held p t lane taken k.0 k.1 tens k.2 empty).started in absurd (cc)
      | inr begun ↦ next-begun k.0 k.1 k.2 begun p t lane f some
    ]
  ]

-- a lane that has not started has no entries
pub no-entries : (p : Params) (t : Timing) (lane : ℕ) (taken : List Taken) → AreTens taken → started_b p t lane taken ≡ None → entries_b p t lane taken ≡ []
no-entries p t lane taken tens none = elim (search-stands taken tens) [
  | inl n ↦ (unstarted-nowhere p t lane taken n.0 tens n.1).entries
  | inr k ↦ elim (cases_Bool (is_empty (since_start (lock_at (bits_taken taken) k.1)))) [
    | inl empty ↦ (unstarted-held p t lane taken k.0 k.1 tens k.2 empty).entries
    | inr begun ↦ let some = (begun-held p t lane taken k.0 k.1 tens k.2 begun).started in absurd (cc)
  ]
]

-- entries stay
pub entries-grow : (p : Params) (t : Timing) (lane : ℕ) (taken : List Taken) (w : Taken) → AreTens taken → length w.word ≡ 10
    → (new : List Entry) × (entries_b p t lane (taken ++ w ∷ []) ≡ entries_b p t lane taken ++ new)
entries-grow p t lane taken w tens ten = elim (cases-found (started_b p t lane taken)) [
  | inr none ↦ (entries_b p t lane (taken ++ w ∷ []), ap (λ (es : List Entry). es ++ entries_b p t lane (taken ++ w ∷ [])) (sym (no-entries p t lane taken tens none)))
  | inl k ↦
      let more = next-started taken w tens ten p t lane k.0 k.1 in
      elim (cases_Bool (is_inside t k.0)) [
        | inl i ↦ (more.entry ∷ [], more.inside i)
        | inr o ↦ ([], more.outside o ∙ sym (ap (λ (es : List Entry). es ++ []) (more.outside_before o)))
      ]
]

-- entries: places of the alignment sequence, and behind the last of them data
pub record AreEntries (p : Params) (entries : List Entry) : Type 0 where
  pub placed : ℕ
  pub cells : List LaneCell
  pub are : entries ≡ replicate placed Placed ++ map Held cells
  pub whole : (cells ≡ []) ⊎ (placed ≡ ilas_length p)
  pub few : placed ≤ ilas_length p

all-places : (rs : List Reading) → map (λ (r : Reading). Placed) rs ≡ replicate (length rs) Placed
all-places [] = refl
all-places (r ∷ rs) = ap (λ (es : List Entry). Placed ∷ es) (all-places rs)

are-since : (p : Params) (since : List Reading) → AreEntries p (entries_since p since)
are-since p since =
    let n : ℕ = ilas_length p in
    let cs : List LaneCell = data_cells p (drop n since) in
    let taken : length (take n since) ≡ _ = length-take n since in
    record {
      placed = length (take n since);
      cells = cs;
      are = ap (λ (es : List Entry). es ++ map Held cs) (all-places (take n since));
      whole = elim (cases_lt (length since) n) [
        | inl short ↦ inl (ap (data_cells p) (drop_all n since (omega arith)) ∙ data_cells-none p)
        | inr enough ↦ inr (omega arith)
      ];
      few = omega arith;
    }

are-none : (p : Params) → AreEntries p []
are-none p = record { placed = 0; cells = []; are = refl; whole = inl refl; few = omega arith }

-- what comes into the buffer
pub are-entries : (p : Params) (t : Timing) (lane : ℕ) (taken : List Taken) → AreEntries p (entries_b p t lane taken)
are-entries p t lane taken = elim (cases-lock (lock taken)) [
  | inr none ↦ rw (entries-none p t lane taken none) (are-none p)
  | inl k ↦ elim (cases_Bool (is_started_inside t (start_of taken k.0))) [
    | inl i ↦
        rw (entries-lock p t lane taken k.0 k.1 ∙ cond-true (is_started_inside t (start_of taken k.0)) (entries_since p (since_start k.0)) [] i) (are-since p (since_start k.0))
    | inr o ↦ rw (entries-lock p t lane taken k.0 k.1 ∙ cond-false (is_started_inside t (start_of taken k.0)) (entries_since p (since_start k.0)) [] o) (are-none p)
  ]
]

-- before the first tick it has not started
pub unstarted-nothing : (p : Params) (t : Timing) (lane : ℕ) → IsUnstarted p t lane []
unfolding lock lock_from
unstarted-nothing p t lane = record { started = started-none p t lane [] refl; entries = entries-none p t lane [] refl }
