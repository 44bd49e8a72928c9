-- Where the search of a 64b/66b lane for its place stands, with a tick more.
use Rattle.std.proofs.Common.{◌≡◌, ◌⊎◌, ℕ, zero, suc, ◌+◌, ◌-◌, ◌*◌, ◌/◌, ◌<◌, ◌≤◌, Bool, true, false, ◌&&◌, List, [], ◌∷◌, ◌++◌, length, drop, Option, Some, None, inl, inr, refl, sym, ap, ◌∙◌, arith, length-append}
use Rattle.std.proofs.lemmas.Bool.{cases_Bool, cases_lt, true≢false}
use Rattle.std.proofs.lemmas.List.{length_push}
use Rattle.jesd_base.proofs.BitLemmas.{finds_least, finds_none as never_passes}
use Rattle.link_params.specs.Lanes.{Taken}
use Rattle.multiblock.specs.Places.{Place, least_place, pattern}
use Rattle.multiblock.proofs.PlaceLemmas.{finds_least_place, finds_none, pattern_stays, place_stays}
use Rattle.lane_b.proofs.LaneEntries.{cases-found}
use Rattle.lane_c.specs.Locking.{bits_taken, dropped_at, is_first, is_locked, leaves, order_at, place, place_from, start, starts, was_armed_before}
use Rattle.lane_c.specs.Loss.{first_loss, headers_after, pattern_end}
use Rattle.lane_c.specs.kept.Receivers.{AreBlocks, Searches}
use Rattle.lane_c.proofs.Dropping.{dropped-of, last-order}
use Rattle.lane_c.proofs.Headers.{headers-length}
use Rattle.lane_c.proofs.Losing.{first_loss-is, loss-stays, test-stays, test_of}
use Rattle.lane_c.proofs.Searching.{are_blocks-more, bits_taken-append, bits_taken-more, length-bits_taken, order_at-append, place-none, place-some, place_from-dropped, searches-more, searches-start}
use Rattle.lane_c.proofs.Starting.{start-leaves, start-passes, starts-before}
use Rattle.lane_c.proofs.Staying.{armed-kept, dropped-not}
use Rattle.lane_c.proofs.Ticking.{no-drop, no-headers, no-loss, start-none}

-- ---- where the search stands

-- no place is found from some bit on
pub record Nowhere (e : ℕ) (taken : List Taken) : Type 0 where
  pub from : ℕ
  pub searches : Searches e taken from
  pub none : least_place e from (bits_taken taken) ≡ None

-- a place is held
pub record Stands (e : ℕ) (taken : List Taken) : Type 0 where
  pub from : ℕ
  pub searches : Searches e taken from
  pub at : Place
  pub least : least_place e from (bits_taken taken) ≡ Some at
  pub stays : dropped_at e taken at ≡ None

pub cases-place : (o : Option Place) → ((x : Place) × (o ≡ Some x)) ⊎ (o ≡ None)
cases-place (Some x) = inl (x, refl)
cases-place None = inr refl

none-some : (n : ℕ) → None ≡ Some n → ⊥
none-some n h = cc

same-number : (n m : ℕ) → Some n ≡ Some m → n ≡ m
same-number n m h = cc

-- the pattern of a place stands whole in these bits
pub record IsWhole (e from : ℕ) (taken : List Taken) (x : Place) : Type 0 where
  pub low : from ≤ x.first
  pub whole : pattern_end e x ≤ length (bits_taken taken)

pub whole-of : (e from : ℕ) (taken : List Taken) (x : Place)
    → least_place e from (bits_taken taken) ≡ Some x → IsWhole e from taken x
whole-of e from taken x least =
    let f = (finds_least_place e from (bits_taken taken) x).0 least in
    record { low = f.from; whole = f.whole }

pub place-nowhere : (e : ℕ) (taken : List Taken) → AreBlocks taken → Nowhere e taken
    → place e taken ≡ None
place-nowhere e taken words h = place-none e taken h.from words h.searches h.none

pub place-stands : (e : ℕ) (taken : List Taken) → AreBlocks taken → (h : Stands e taken)
    → place e taken ≡ Some h.at
place-stands e taken words h =
    let w = whole-of e h.from taken h.at h.least in
    let low = w.low in
    let whole = w.whole in
    place-some e taken h.from h.at words h.searches h.least (omega arith) h.stays

-- ---- a place is dropped

-- the headers after a pattern that stands whole
headers-count : (e : ℕ) (bs : List Bool) (x : Place) → pattern_end e x ≤ length bs
    → length (headers_after e bs x) ≡ (length bs - pattern_end e x) / 66
headers-count e bs x whole = headers-length e bs x ((length bs - pattern_end e x) / 66)
    (omega arith)

-- the lane is lost after so many blocks, and is not armed: the place is dropped at bit y
record Loses (e : ℕ) (taken : List Taken) (x : Place) (y : ℕ) : Type 0 where
  blocks : ℕ
  lost : first_loss e (bits_taken taken) x ≡ Some blocks
  unarmed : was_armed_before taken (pattern_end e x + 66 * blocks) ≡ false
  is : pattern_end e x + 66 * blocks ≡ y
  some : 1 ≤ blocks
  inside : y ≤ length (bits_taken taken)

-- a loss comes after one block at least, and no later than the bits
loss-inside : (e : ℕ) (taken : List Taken) (x : Place) (k : ℕ)
    → pattern_end e x ≤ length (bits_taken taken) → first_loss e (bits_taken taken) x ≡ Some k
    → (1 ≤ k) × (pattern_end e x + 66 * k ≤ length (bits_taken taken))
loss-inside e taken x k whole lost =
    let bs : List Bool = bits_taken taken in
    let f = (finds_least (test_of e bs x) (length (headers_after e bs x)) 1 k).0
    (sym (first_loss-is e bs x) ∙ lost) in
    let low = f.0.from in
    let high = f.1 in
    let count = headers-count e bs x whole in
    (low, omega arith)

loses-of : (e : ℕ) (taken : List Taken) (x : Place) (y : ℕ)
    → pattern_end e x ≤ length (bits_taken taken) → dropped_at e taken x ≡ Some y
    → Loses e taken x y
loses-of e taken x y whole dropped = elim (cases-found (first_loss e (bits_taken taken) x)) [
  | inr none ↦ absurd (none-some y (sym (no-drop e taken x none) ∙ dropped))
  | inl k ↦ elim (cases_Bool (was_armed_before taken (pattern_end e x + 66 * k.0))) [
    | inl armed ↦ absurd (none-some y (sym (dropped-not e taken x k.0 k.1 armed) ∙ dropped))
    | inr unarmed ↦
        let at = same-number (pattern_end e x + 66 * k.0) y
        (sym (dropped-of e taken x k.0 k.1 unarmed) ∙ dropped) in
        let inside = loss-inside e taken x k.0 whole k.1 in
        let high = inside.1 in
        record {
          blocks = k.0;
          lost = k.1;
          unarmed = unarmed;
          is = at;
          some = inside.0;
          inside = omega arith;
        }
  ]
]

-- it stays dropped
dropped-still : (e : ℕ) (taken : List Taken) (x : Place) (y : ℕ) → AreBlocks taken
    → pattern_end e x ≤ length (bits_taken taken) → Loses e taken x y → (later : List Taken)
    → dropped_at e (taken ++ later) x ≡ Some y
dropped-still e taken x y words whole l later =
    let size = length-bits_taken taken words in
    let at = l.is in
    let some = l.some in
    let inside = l.inside in
    let tick : (pattern_end e x + 66 * l.blocks - 1) / 66 < length taken = omega arith in
    dropped-of e (taken ++ later) x l.blocks
    (ap (λ bs. first_loss e bs x) (bits_taken-append taken later)
    ∙ loss-stays e (bits_taken taken) (bits_taken later) x l.blocks whole l.lost)
    (ap (λ o. o.armed) (order_at-append taken later _ tick) ∙ l.unarmed)
    ∙ ap Some at

-- the search goes on from there
searches-past : (e : ℕ) (taken : List Taken) (from : ℕ) (x : Place) (y : ℕ) → AreBlocks taken
    → Searches e taken from → least_place e from (bits_taken taken) ≡ Some x → Loses e taken x y
    → Searches e taken y
searches-past e taken from x y words s least l =
    let w = whole-of e from taken x least in
    let low = w.low in
    let few = s.few in
    let at = l.is in
    let some = l.some in
    record {
      drops = suc s.drops;
      few = omega arith;
      inside = l.inside;
      same = λ later n.
          let more : n + suc s.drops ≡ suc n + s.drops = omega arith in
          let found : least_place e from (bits_taken (taken ++ later)) ≡ Some x =
          ap (least_place e from) (bits_taken-append taken later)
          ∙ place_stays e from (bits_taken taken) (bits_taken later) x least in
          ap (λ c. place_from c e (taken ++ later) 0) more ∙ s.same later (suc n)
          ∙ place_from-dropped n e (taken ++ later) from x y found
          (dropped-still e taken x y words w.whole l later);
    }

search-from : (n e : ℕ) (taken : List Taken) (x : ℕ) → AreBlocks taken → Searches e taken x
    → length (bits_taken taken) < x + n → Nowhere e taken ⊎ Stands e taken
search-from zero e taken x words s near = let within = s.inside in absurd (omega arith)
search-from (suc n) e taken x words s near =
    elim (cases-place (least_place e x (bits_taken taken))) [
      | inr none ↦ inl (record { from = x; searches = s; none = none })
      | inl p ↦ elim (cases-found (dropped_at e taken p.0)) [
        | inr stays ↦
            inr (record { from = x; searches = s; at = p.0; least = p.1; stays = stays })
        | inl y ↦
            let w = whole-of e x taken p.0 p.1 in
            let low = w.low in
            let l = loses-of e taken p.0 y.0 w.whole y.1 in
            let at = l.is in
            let some = l.some in
            search-from n e taken y.0 words (searches-past e taken x p.0 y.0 words s p.1 l)
            (omega arith)
      ]
    ]

pub search-stands : (e : ℕ) (taken : List Taken) → AreBlocks taken
    → Nowhere e taken ⊎ Stands e taken
search-stands e taken words = search-from (suc (length (bits_taken taken))) e taken 0 words
    (searches-more e [] 0 taken (searches-start e)) (omega arith)

-- ---- a tick more

-- no lane is started: none has a place, or a place with which it has not started
abbrev pub IsIdle : ℕ → List Taken → Type 0
IsIdle e taken = (place e taken ≡ None)
    ⊎ ((x : Place) × (place e taken ≡ Some x) × (start e taken x ≡ None))

module _ (e : ℕ) (taken : List Taken) (w : Taken) (words : AreBlocks taken)
    (size : length w.word ≡ 66) where
  -- the bits with the tick
  long : length (bits_taken (taken ++ w ∷ [])) ≡ length (bits_taken taken) + 66
  long = ap length (bits_taken-more taken w) ∙ length-append (bits_taken taken) w.word
      ∙ ap (λ n. length (bits_taken taken) + n) size

  many : length (bits_taken (taken ++ w ∷ [])) ≡ 66 * length taken + 66
  many = long ∙ ap (λ n. n + 66) (length-bits_taken taken words)

  pub blocks-now : AreBlocks (taken ++ w ∷ [])
  blocks-now = are_blocks-more taken w words size

  -- a place that ends behind the bits so far has no start yet
  unstarted-yet : (x : Place) → length (bits_taken taken) < pattern_end e x
      → start e (taken ++ w ∷ []) x ≡ None
  unstarted-yet x late =
      let l = length-bits_taken taken words in
      let n = length_push taken w in
      start-none e (taken ++ w ∷ []) x (omega arith)

  kept-yet : (x : Place) → length (bits_taken taken) < pattern_end e x
      → dropped_at e (taken ++ w ∷ []) x ≡ None
  kept-yet x late =
      let l = long in
      no-drop e (taken ++ w ∷ []) x (no-loss e (bits_taken (taken ++ w ∷ [])) x
      (no-headers e (bits_taken (taken ++ w ∷ [])) x (omega arith)))

  -- what is found with the tick ends in it
  found-late : (h : Nowhere e taken) (x : Place)
      → least_place e h.from (bits_taken (taken ++ w ∷ [])) ≡ Some x
      → length (bits_taken taken) < pattern_end e x
  found-late h x least =
      let bs : List Bool = bits_taken taken in
      let f = (finds_least_place e h.from (bits_taken (taken ++ w ∷ [])) x).0 least in
      elim (cases_lt (length bs) (pattern_end e x)) [
        | inl late ↦ late
        | inr early ↦
            let none = (finds_none e h.from bs).0 h.none x.first f.from early in
            let same = ap (λ l. pattern e (drop x.first l)) (bits_taken-more taken w)
            ∙ pattern_stays e x.first bs w.word early in
            absurd (none-some x.remainder (sym none ∙ sym same ∙ f.stands))
      ]

  pub nowhere-next : Nowhere e taken → IsIdle e (taken ++ w ∷ [])
  nowhere-next h =
      let s = searches-more e taken h.from (w ∷ []) h.searches in
      elim (cases-place (least_place e h.from (bits_taken (taken ++ w ∷ [])))) [
        | inr none ↦ inl (place-none e (taken ++ w ∷ []) h.from blocks-now s none)
        | inl x ↦
            let late = found-late h x.0 x.1 in
            let held : Stands e (taken ++ w ∷ []) = record {
              from = h.from;
              searches = s;
              at = x.0;
              least = x.1;
              stays = kept-yet x.0 late;
            } in
            inr (x.0, place-stands e (taken ++ w ∷ []) blocks-now held, unstarted-yet x.0 late)
      ]

  module _ (h : Stands e taken) where
    whole : pattern_end e h.at ≤ length (bits_taken taken)
    whole = (whole-of e h.from taken h.at h.least).whole

    found-again : least_place e h.from (bits_taken (taken ++ w ∷ [])) ≡ Some h.at
    found-again = ap (least_place e h.from) (bits_taken-more taken w)
        ∙ place_stays e h.from (bits_taken taken) w.word h.at h.least

    lost-again : (k : ℕ) → first_loss e (bits_taken taken) h.at ≡ Some k
        → first_loss e (bits_taken (taken ++ w ∷ [])) h.at ≡ Some k
    lost-again k lost = ap (λ bs. first_loss e bs h.at) (bits_taken-more taken w)
        ∙ loss-stays e (bits_taken taken) w.word h.at k whole lost

    -- a loss that stood before leaves the place
    kept-again : (k : ℕ) → first_loss e (bits_taken taken) h.at ≡ Some k
        → dropped_at e (taken ++ w ∷ []) h.at ≡ None
    kept-again k lost =
        let inside = loss-inside e taken h.at k whole lost in
        let some = inside.0 in
        let high = inside.1 in
        let l = length-bits_taken taken words in
        let tick : (pattern_end e h.at + 66 * k - 1) / 66 < length taken = omega arith in
        dropped-not e (taken ++ w ∷ []) h.at k (lost-again k lost)
        (ap (λ o. o.armed) (order_at-append taken (w ∷ []) _ tick)
        ∙ armed-kept e taken h.at k lost h.stays)

    -- a loss that comes with the tick comes behind the bits so far
    lost-late : (k : ℕ) → first_loss e (bits_taken taken) h.at ≡ None
        → first_loss e (bits_taken (taken ++ w ∷ [])) h.at ≡ Some k
        → length (bits_taken taken) < pattern_end e h.at + 66 * k
    lost-late k none lost =
        let bs : List Bool = bits_taken taken in
        let now : first_loss e (bs ++ w.word) h.at ≡ Some k =
        ap (λ l. first_loss e l h.at) (sym (bits_taken-more taken w)) ∙ lost in
        let f = (finds_least (test_of e (bs ++ w.word) h.at)
        (length (headers_after e (bs ++ w.word) h.at)) 1 k).0
        (sym (first_loss-is e (bs ++ w.word) h.at) ∙ now) in
        let low = f.0.from in
        let never = (never_passes (test_of e bs h.at) (length (headers_after e bs h.at)) 1).0
        (sym (first_loss-is e bs h.at) ∙ none) in
        let count = headers-count e bs h.at whole in
        let inside = whole in
        elim (cases_lt (length (headers_after e bs h.at)) k) [
          | inl late ↦ omega arith
          | inr early ↦ absurd (true≢false (sym f.0.passes
              ∙ test-stays e bs w.word h.at k whole early ∙ never k low (omega arith)))
        ]

    -- where the tick is armed the place stays
    pub kept-armed : w.order.armed ≡ true → dropped_at e (taken ++ w ∷ []) h.at ≡ None
    kept-armed armed = elim (cases-found (first_loss e (bits_taken taken) h.at)) [
      | inl k ↦ kept-again k.0 k.1
      | inr none ↦ elim (cases-found (first_loss e (bits_taken (taken ++ w ∷ [])) h.at)) [
        | inr still ↦ no-drop e (taken ++ w ∷ []) h.at still
        | inl k ↦
            let late = lost-late k.0 none k.1 in
            let l = length-bits_taken taken words in
            let m = long in
            let inside = whole in
            let high = (loss-inside e (taken ++ w ∷ []) h.at k.0 (omega arith) k.1).1 in
            let tick : (pattern_end e h.at + 66 * k.0 - 1) / 66 ≡ length taken = omega arith in
            dropped-not e (taken ++ w ∷ []) h.at k.0 k.1
            (ap (λ i. (order_at (taken ++ w ∷ []) i).armed) tick
            ∙ ap (λ o. o.armed) (last-order taken w) ∙ armed)
      ]
    ]

    pub stands-next : dropped_at e (taken ++ w ∷ []) h.at ≡ None
        → (g : Stands e (taken ++ w ∷ [])) × (g.at ≡ h.at)
    stands-next stays = (
      record {
        from = h.from;
        searches = searches-more e taken h.from (w ∷ []) h.searches;
        at = h.at;
        least = found-again;
        stays = stays;
      },
      refl,
    )

    -- a place that is dropped with the tick leaves none
    pub dropped-next : (y : ℕ) → dropped_at e (taken ++ w ∷ []) h.at ≡ Some y
        → place e (taken ++ w ∷ []) ≡ None
    dropped-next y dropped =
        let m = long in
        let inside = whole in
        let l = loses-of e (taken ++ w ∷ []) h.at y (omega arith) dropped in
        let at = l.is in
        let late : length (bits_taken taken) < y =
        elim (cases-found (first_loss e (bits_taken taken) h.at)) [
          | inl k ↦ absurd (none-some y (sym (kept-again k.0 k.1) ∙ dropped))
          | inr none ↦ let behind = lost-late l.blocks none l.lost in omega arith
        ] in
        let s = searches-past e (taken ++ w ∷ []) h.from h.at y blocks-now
        (searches-more e taken h.from (w ∷ []) h.searches) found-again l in
        place-none e (taken ++ w ∷ []) y blocks-now s
        ((finds_none e y (bits_taken (taken ++ w ∷ []))).1 (λ i low room. absurd (omega arith)))

  -- a start that comes with the tick comes with the block that leaves in it
  pub starts-late : (x : Place) (n : ℕ) → start e taken x ≡ None
      → start e (taken ++ w ∷ []) x ≡ Some n → leaves x n ≡ length taken
  unfolding start
  starts-late x n none some =
      let l = length_push taken w in
      let low = start-leaves e (taken ++ w ∷ []) x n some in
      elim (cases_lt (leaves x n) (length taken)) [
        | inl early ↦
            let never = (never_passes (starts e taken x) (length taken) 0).0 none n (omega arith)
            (omega arith) in
            absurd (true≢false (sym (start-passes e (taken ++ w ∷ []) x n some)
            ∙ starts-before e taken (w ∷ []) x n early ∙ never))
        | inr late ↦ omega arith
      ]

third : (a b c : Bool) → (a && (b && c)) ≡ true → c ≡ true
third true true c h = h
third true false c h = absurd (true≢false (sym h))
third false b c h = absurd (true≢false (sym h))

-- a lane is armed in the tick in which it starts
pub armed-start : (e : ℕ) (taken : List Taken) (x : Place) (n : ℕ) → start e taken x ≡ Some n
    → (order_at taken (leaves x n)).armed ≡ true
armed-start e taken x n some = third (is_first e x n) (is_locked e x (leaves x n)) _
    (start-passes e taken x n some)
