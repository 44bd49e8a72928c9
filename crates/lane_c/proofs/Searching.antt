-- Where the search for a place stands, and what was taken.
use Rattle.std.proofs.Common.{◌≡◌, ℕ, zero, suc, ◌+◌, ◌-◌, ◌*◌, ◌≤◌, ◌<◌, Bool, false, List, [], ◌∷◌, ◌++◌, length, drop, map, Option, Some, None, option_map, refl, sym, ◌∙◌, ap, arith, append_assoc, length-append, subst}
use Rattle.std.proofs.Math.ListN.{get_or-append}
use Rattle.std.proofs.lemmas.List.{append-nil, drop-append-le, drop-drop, length-drop, map_push}
use Rattle.std.proofs.lemmas.Grind.{flat_map-append}
use Rattle.link_params.specs.declared.fields.Params.{Params}
use Rattle.link_params.specs.declared.fields.Timing.{Timing}
use Rattle.link_params.specs.declared.ilas_state.IlasState.TheVariants.{Idle}
use Rattle.link_params.specs.declared.cells.LaneCell.{LaneCell}
use Rattle.link_params.specs.Lanes.{Entry, Held, Taken}
use Rattle.multiblock.specs.declared.place.Place.{Place as Found}
use Rattle.multiblock.specs.Places.{Place, found, least_place, next_place, pattern, span}
use Rattle.multiblock.proofs.PlaceLemmas.{finds_least_place, finds_none, not-found}
use Rattle.multiblock.specs.kept.Hunts.{HasHunted, Kept}
use Rattle.lane_c.specs.Locking.{bits_taken, dropped_at, no_order, order_at, place, place_from}
use Rattle.lane_c.specs.Received.{entries_c, entries_of, report_c, report_of}
use Rattle.lane_c.specs.kept.Receivers.{AreBlocks, HasTaken, Holds, HuntsOn, Receiver, Searches, StandsSo}

-- ---- the bits of ticks

pub bits_taken-append : (taken more : List Taken) → bits_taken (taken ++ more) ≡ bits_taken taken
    ++ bits_taken more
bits_taken-append taken more = flat_map-append (λ t. t.word) taken more

pub bits_taken-more : (taken : List Taken) (t : Taken) → bits_taken (taken ++ t ∷ [])
    ≡ bits_taken taken ++ t.word
bits_taken-more taken t = bits_taken-append taken (t ∷ [])
    ∙ ap (λ r. bits_taken taken ++ r) (append-nil t.word)

pub length-bits_taken : (taken : List Taken) → AreBlocks taken
    → length (bits_taken taken) ≡ 66 * length taken
length-bits_taken [] h = refl
length-bits_taken (t ∷ ts) h =
    let l = length-append t.word (bits_taken ts) in
    let rest = length-bits_taken ts h.1 in
    let size = h.0 in
    omega arith

pub are_blocks-more : (taken : List Taken) (x : Taken) → AreBlocks taken → length x.word ≡ 66
    → AreBlocks (taken ++ x ∷ [])
are_blocks-more [] x h size = (size, tt)
are_blocks-more (t ∷ ts) x h size = (h.0, are_blocks-more ts x h.1 size)

pub order_at-append : (taken more : List Taken) (i : ℕ) → i < length taken
    → order_at (taken ++ more) i ≡ order_at taken i
order_at-append taken more i lt = ap (λ t. t.order) (get_or-append taken more
    (record { order = no_order; word = [] }) i lt)

-- ---- one turn of the search

abbrev turn : ℕ → ℕ → List Taken → Place → Option ℕ → Option Place
turn n e taken p o = elim o as (λ o. Option Place) [
  | None ↦ Some p
  | Some y ↦ place_from n e taken
      y
]

place_from-found : (n e : ℕ) (taken : List Taken) (x : ℕ) (p : Place)
    → least_place e x (bits_taken taken) ≡ Some p
    → place_from (suc n) e taken x ≡ turn n e taken p (dropped_at e taken p)
unfolding place_from
place_from-found n e taken x p h = rw h refl

pub place_from-held : (n e : ℕ) (taken : List Taken) (x : ℕ) (p : Place)
    → least_place e x (bits_taken taken) ≡ Some p → dropped_at e taken p ≡ None
    → place_from (suc n) e taken x ≡ Some p
place_from-held n e taken x p h stays = place_from-found n e taken x p h
    ∙ ap (turn n e taken p) stays

pub place_from-dropped : (n e : ℕ) (taken : List Taken) (x : ℕ) (p : Place) (y : ℕ)
    → least_place e x (bits_taken taken) ≡ Some p → dropped_at e taken p ≡ Some y
    → place_from (suc n) e taken x ≡ place_from n e taken y
place_from-dropped n e taken x p y h goes = place_from-found n e taken x p h
    ∙ ap (turn n e taken p) goes

pub place_from-none : (n e : ℕ) (taken : List Taken) (x : ℕ)
    → least_place e x (bits_taken taken) ≡ None → place_from n e taken x ≡ None
unfolding place_from
place_from-none zero e taken x h = refl
place_from-none (suc n) e taken x h = rw h refl

-- ---- the search

pub searches-start : (e : ℕ) → Searches e [] 0
searches-start e = record {
  drops = 0;
  few = omega arith;
  inside = omega arith;
  same = λ later n. let same : n + 0 ≡ n = omega arith in ap (λ m. place_from m e later 0) same;
}

pub searches-more : (e : ℕ) (taken : List Taken) (x : ℕ) (more : List Taken) → Searches e taken x
    → Searches e (taken ++ more) x
searches-more e taken x more s =
    let l = ap length (bits_taken-append taken more) ∙ length-append (bits_taken taken)
    (bits_taken more) in
    let le = s.inside in
    record {
      drops = s.drops;
      few = s.few;
      inside = omega arith;
      same = λ later n.
          let a = append_assoc taken more later in
          ap (λ ts. place_from (n + s.drops) e ts 0) a ∙ s.same (more ++ later) n
          ∙ ap (λ ts. place_from n e ts x) (sym a);
    }

pub place-is : (e : ℕ) (taken : List Taken) (x n : ℕ) (s : Searches e taken x)
    → n + s.drops ≡ length taken → place e taken ≡ place_from n e taken x
unfolding place
place-is e taken x n s is =
    let nil = append-nil taken in
    let same = s.same [] n in
    ap (λ m. place_from m e taken 0) (sym is) ∙ (rw nil at same)

pub place-none : (e : ℕ) (taken : List Taken) (x : ℕ) → AreBlocks taken → Searches e taken x
    → least_place e x (bits_taken taken) ≡ None → place e taken ≡ None
place-none e taken x words s none =
    let few = s.few in
    let inside = s.inside in
    let l = length-bits_taken taken words in
    let n : ℕ = length taken - s.drops in
    place-is e taken x n s (omega arith) ∙ place_from-none n e taken x none

pub place-some : (e : ℕ) (taken : List Taken) (x : ℕ) (p : Place) → AreBlocks taken
    → Searches e taken x → least_place e x (bits_taken taken) ≡ Some p
    → x + 66 ≤ length (bits_taken taken) → dropped_at e taken p ≡ None → place e taken ≡ Some p
place-some e taken x p words s least room stays =
    let few = s.few in
    let l = length-bits_taken taken words in
    let n : ℕ = length taken - s.drops - 1 in
    place-is e taken x (suc n) s (omega arith) ∙ place_from-held n e taken x p least stays

-- ---- a place in the rest of the bits

from-there : (x i : ℕ) (bs : List Bool) → x ≤ i → drop (i - x) (drop x bs) ≡ drop i bs
from-there x i bs le = drop-drop (i - x) x bs ∙ ap (λ n. drop n bs)
    (let e : x + (i - x) ≡ i = omega arith in e)

-- from bit x on, in all bits, nothing is found where nothing is found in the bits from x on
pub none-from : (e x : ℕ) (bs : List Bool) → x ≤ length bs → found e (drop x bs) ≡ None
    → least_place e x bs ≡ None
none-from e x bs inside none =
    let l = length-drop x bs in
    (finds_none e x bs).1 (λ i le whole.
    ap (pattern e) (sym (from-there x i bs le)) ∙ (finds_none e 0 (drop x bs)).0
    (not-found e (drop x bs) none) (i - x) (omega arith) (omega arith))

no-option : {A : Type 0} (x : A) → None ≡ Some x → ⊥
no-option x h = cc

same-option : {A : Type 0} (x y : A) → Some x ≡ Some y → x ≡ y
same-option x y h = cc

abbrev found_of : ℕ → List Bool → Place → Found
found_of e bs p = record { rest = length bs - (p.first + span e); next = next_place e p.remainder }

-- a place that was found in the bits from x on
pub record FoundFrom (e x : ℕ) (bs : List Bool) (f : Found) : Type 0 where
  pub at : Place
  pub least : least_place e x bs ≡ Some at
  pub rest : f.rest ≡ length bs - (at.first + span e)
  pub next : f.next ≡ next_place e at.remainder
  pub from : x ≤ at.first
  pub whole : at.first + span e ≤ length bs

found-in : (e x : ℕ) (bs : List Bool) (f : Found) (q : Place) → x ≤ length bs
    → least_place e 0 (drop x bs) ≡ Some q → found_of e (drop x bs) q ≡ f → FoundFrom e x bs f
found-in e x bs f q inside least is =
    let h = (finds_least_place e 0 (drop x bs) q).0 least in
    let whole = h.whole in
    let l = length-drop x bs in
    let p : Place = record { first = x + q.first; remainder = q.remainder } in
    let rest = ap (λ (g : Found). g.rest) is in
    record {
      at = p;
      least = (finds_least_place e x bs p).1 (record {
        from = omega arith;
        whole = omega arith;
        stands = ap (pattern e) (sym (drop-drop q.first x bs)) ∙ h.stands;
        least = λ i le lt. ap (pattern e) (sym (from-there x i bs le))
            ∙ h.least (i - x) (omega arith) (omega arith);
      });
      rest = omega arith;
      next = sym (ap (λ (g : Found). g.next) is);
      from = omega arith;
      whole = omega arith;
    }

found-by : (e x : ℕ) (bs : List Bool) (f : Found) (o : Option Place) → x ≤ length bs
    → least_place e 0 (drop x bs) ≡ o
    → option_map {U = Found} (found_of e (drop x bs)) o ≡ Some f → FoundFrom e x bs f
found-by e x bs f None inside least h = absurd (no-option f h)
found-by e x bs f (Some q) inside least h = found-in e x bs f q inside least (same-option _ f h)

pub found-from : (e x : ℕ) (bs : List Bool) (f : Found) → x ≤ length bs
    → found e (drop x bs) ≡ Some f → FoundFrom e x bs f
unfolding found
found-from e x bs f inside h = found-by e x bs f (least_place e 0 (drop x bs)) inside refl h

-- ---- nothing was taken

entries-none : (p : Params) (t : Timing) (lane : ℕ) → entries_c p t lane [] ≡ []
unfolding entries_c place place_from
entries-none p t lane = refl

pub has_taken-nothing : (now : Receiver) (p : Params) (t : Timing) (lane : ℕ) (k : Kept)
    → now.params ≡ p → now.timing ≡ t → StandsSo now.state p t [] → now.buffer.cells ≡ []
    → HasTaken now p t lane [] 0
has_taken-nothing now p t lane k params timing stands empty =
    let none = entries-none p t lane in
    record {
      params = params;
      timing = timing;
      words = tt;
      stands = stands;
      holds = record {
        within = omega arith;
        wait = ap (map Held) empty ∙ sym none;
      };
    }

pub hunts-on-start : (k : Kept) (e : ℕ) → HasHunted k e [] → HuntsOn k e []
hunts-on-start k e h = record { from = 0; searches = searches-start e; hunted = h }

-- ---- a hunt goes on

pub hunts-none : (k : Kept) (e : ℕ) (taken : List Taken) → AreBlocks taken → HuntsOn k e taken
    → place e taken ≡ None
hunts-none k e taken words h = place-none e taken h.from words h.searches
    (none-from e h.from (bits_taken taken) h.searches.inside h.hunted.finds_none)

pub hunts-on-more : (k new : Kept) (e : ℕ) (taken : List Taken) (t : Taken) → HuntsOn k e taken
    → ((bs : List Bool) → HasHunted k e bs → HasHunted new e (bs ++ t.word))
    → HuntsOn new e (taken ++ t ∷ [])
hunts-on-more k new e taken t h push =
    let P : List Bool → Type 0 = λ bs. HasHunted new e bs in
    let same : drop h.from (bits_taken (taken ++ t ∷ [])) ≡ drop h.from (bits_taken taken)
    ++ t.word =
    ap (drop h.from) (bits_taken-more taken t) ∙ drop-append-le h.from
    (bits_taken taken) t.word h.searches.inside in
    record {
      from = h.from;
      searches = searches-more e taken h.from (t ∷ []) h.searches;
      hunted = subst P (sym same) (push (drop h.from (bits_taken taken)) h.hunted);
    }

pub entries-unplaced : (p : Params) (t : Timing) (lane : ℕ) (taken : List Taken)
    → place p.e taken ≡ None → entries_c p t lane taken ≡ []
unfolding entries_c
entries-unplaced p t lane taken none = ap (entries_of p t taken) none

pub report-unplaced : (p : Params) (t : Timing) (lane : ℕ) (taken : List Taken)
    → place p.e taken ≡ None → report_c p t lane taken ≡ record {
      locked = false;
      started = None;
      lost = false;
      ilas = Idle;
    }
unfolding report_c
report-unplaced p t lane taken none = ap (report_of p taken) none

-- ---- the buffer

pub holds-same : (es fs : List Entry) (cells : List LaneCell) (gave : ℕ) → es ≡ fs
    → Holds es cells gave → Holds fs cells gave
holds-same es fs cells gave e h = let P : List Entry → Type 0 = λ xs. Holds xs cells gave in
    subst P e h

pub holds-one-less : (es : List Entry) (cell : LaneCell) (cells : List LaneCell) (gave : ℕ)
    → Holds es (cell ∷ cells) gave → Holds es cells (gave + 1)
holds-one-less es cell cells gave h =
    let l : length (drop gave es) ≡ length es - gave = length-drop gave es in
    let n = ap length (sym h.wait) in
    let within = h.within in
    record {
      within = omega (arith, l, n);
      wait = ap (drop 1) h.wait ∙ drop-drop 1 gave es;
    }

pub holds-one-more : (es : List Entry) (cell : LaneCell) (cells : List LaneCell) (gave : ℕ)
    → Holds es cells gave → Holds (es ++ Held cell ∷ []) (cells ++ cell ∷ []) gave
holds-one-more es cell cells gave h =
    let l = length-append es (Held cell ∷ []) in
    let within = h.within in
    record {
      within = omega arith;
      wait = map_push Held cells cell ∙ ap (λ xs. xs ++ Held cell ∷ []) h.wait
          ∙ sym (drop-append-le gave es (Held cell ∷ []) h.within);
    }
