-- The frames that a tick of a released session delivers, by the entries of its lanes.
use Rattle.std.proofs.Common.{◌≡◌, ℕ, zero, suc, ◌+◌, ◌-◌, ◌*◌, ◌/◌, ◌<◌, ◌≤◌, true, List, [], ◌∷◌, ◌++◌, length, map, take, get_or, slice_get, Option, Some, None, unwrap_or, append-nil, refl, sym, ap, ap₂, ◌∙◌, length-append, arith}
use Rattle.std.specs.List.{flat_map}
use Rattle.std.proofs.lemmas.Bool.{cond-true}
use Rattle.std.proofs.lemmas.List.{get_or-map, length-map, map-append, map_push}
use Rattle.std.proofs.lemmas.List.Concat.{flat_map-append}
use Rattle.link_params.specs.declared.cells.LaneCell.{LaneCell}
use Rattle.link_params.specs.declared.fields.Params.{Params}
use Rattle.link_params.specs.Lanes.{Entry, LaneKind, Placed, Held, Taken}
use Rattle.link_params.specs.Numbers.{octets_per_tick}
use Rattle.bring_up.specs.Decisions.{is_running}
use Rattle.scenario.specs.Plans.{Plan, numbers_from}
use Rattle.link_model.specs.Moments.{Moment}
use Rattle.link_model.specs.Gives.{cells_in, frame_given, frames_given, frames_in, gives_in, octets_given, octets_in}
use Rattle.link_model.specs.Run.{moment, run}
use Rattle.link_model.specs.Hunts.{session}
use Rattle.link_model.specs.Receives.{taken_in, told_of}
use Rattle.link_model.proofs.NumberLists.{get_or-numbers, length-numbers, map-numbers}
use Rattle.link_model.specs.Sessions.{at, entries_at, taken_at}
use Rattle.link_model.specs.Wiring.{by_frame, lane_for, route_of}
use Rattle.link_model.proofs.Wirings.{by-frame-map}
use Rattle.link_laws.proofs.RunTicks.{told-at}
use Rattle.link_model.proofs.RunTicks.{length-run}
use Rattle.link_laws.proofs.OrdersGo.{ilas_ticks}

-- what a lane took in the tick's session, as the tick has it
pub took-is : (kind : LaneKind) (s : Plan) (t lane : ℕ)
    → taken_at kind s lane t ≡ taken_in (session s (run kind s t)) lane
    ++ (record { order = told_of s (run kind s t); word = get_or (at kind s t).taken lane [] }) ∷ []
took-is kind s t lane =
    map_push (λ (m : Moment). let x : Taken =
    record { order = m.told; word = get_or m.taken lane [] } in x) (session s (run kind s t))
    (at kind s t)
    ∙ ap (λ o. taken_in (session s (run kind s t)) lane
    ++ (record { order = o; word = get_or (at kind s t).taken lane [] }) ∷ []) (told-at kind s t)

-- all entries for the lanes of the frame in tick t
abbrev pub lanes_entries : LaneKind → Plan → ℕ → List (List Entry)
lanes_entries kind s t =
    map (λ place. entries_at kind s (lane_for s place) t) (numbers_from 0 s.link.params.l)

-- the entries of a lane, as the tick has them
abbrev entries_in : LaneKind → Plan → ℕ → ℕ → List Entry
entries_in kind s t lane = kind.entries s.link.params s.link.timing (route_of s lane)
    (taken_in (session s (run kind s t)) lane
    ++ (record { order = told_of s (run kind s t); word = get_or (at kind s t).taken lane [] })
    ∷ [])

delivered-is : (kind : LaneKind) (s : Plan) (t : ℕ) → is_running (at kind s t).stage ≡ true
    → (at kind s t).delivered
    ≡ frames_given s.link.params (length (run kind s t) - gives_in (session s (run kind s t)))
    (gives_in (session s (run kind s t)))
    (by_frame s [] (map (entries_in kind s t) (numbers_from 0 s.link.params.l)))
unfolding moment
delivered-is kind s t runs =
    cond-true (is_running (at kind s t).stage)
    (frames_given s.link.params (length (run kind s t) - gives_in (session s (run kind s t)))
    (gives_in (session s (run kind s t)))
    (by_frame s [] (map (entries_in kind s t) (numbers_from 0 s.link.params.l)))) [] runs

-- the frames of tick t, where n entries were given before it
pub delivered-tick : (kind : LaneKind) (s : Plan) (t n : ℕ) → 0 < s.link.params.l
    → is_running (at kind s t).stage ≡ true → gives_in (session s (run kind s t)) ≡ n
    → (at kind s t).delivered ≡ frames_given s.link.params (t - n) n (lanes_entries kind s t)
delivered-tick kind s t n some runs gave =
    delivered-is kind s t runs
    ∙ ap₂ (λ (u k : ℕ). frames_given s.link.params (u - k) k
    (by_frame s [] (map (entries_in kind s t) (numbers_from 0 s.link.params.l))))
    (length-run kind s t) gave
    ∙ ap (frames_given s.link.params (t - n) n)
    (by-frame-map (entries_in kind s t) s [] some
    ∙ map-numbers (λ place. entries_in kind s t (lane_for s place))
    (λ place. entries_at kind s (lane_for s place) t) s.link.params.l 0
    (λ place below. ap (kind.entries s.link.params s.link.timing (route_of s (lane_for s place)))
    (sym (took-is kind s t (lane_for s place)))))

-- ---- entries and octets

-- the first entries of a lane are places of the alignment sequence, and the others data
abbrev pub IsShaped : Params → ℕ → Entry → Type 0
IsShaped p j Placed = j < ilas_ticks p
IsShaped p j (Held c) = ilas_ticks p ≤ j

pub length-octets : (p : Params) (c : LaneCell) → length (octets_in p c) ≡ octets_per_tick p
length-octets p c = length-map (numbers_from 0 (octets_per_tick p)) _
    ∙ length-numbers (octets_per_tick p) 0

nothing-there : (n : ℕ) (e : Entry) → slice_get [] n ≡ Some e → ⊥
nothing-there zero e is = let bad : None ≡ Some e = is in absurd (cc)
nothing-there (suc n) e is = let bad : None ≡ Some e = is in absurd (cc)

take-next : (es : List Entry) (n : ℕ) (e : Entry) → slice_get es n ≡ Some e
    → take (suc n) es ≡ take n es ++ e ∷ []
take-next [] n e is = absurd (nothing-there n e is)
take-next (x ∷ es) zero e is = ap (λ (o : Option Entry). unwrap_or o e ∷ []) is
take-next (x ∷ es) (suc n) e is = ap (λ (l : List Entry). x ∷ l) (take-next es n e is)

cells-more : (es : List Entry) (e : Entry) → cells_in (es ++ e ∷ []) ≡ cells_in es
    ++ cells_in (e ∷ [])
unfolding cells_in
cells-more [] Placed = refl
cells-more [] (Held c) = refl
cells-more (Placed ∷ es) e = cells-more es e
cells-more (Held c ∷ es) e = ap (λ (l : List LaneCell). c ∷ l) (cells-more es e)

-- the octets of one entry
abbrev pub octets_of_entry : Params → Entry → List LaneCell
octets_of_entry p Placed = []
octets_of_entry p (Held c) = octets_in p c

one-entry : (p : Params) (e : Entry)
    → flat_map (octets_in p) (cells_in (e ∷ [])) ≡ octets_of_entry p e
unfolding cells_in
one-entry p Placed = refl
one-entry p (Held c) = append-nil (octets_in p c)

-- an entry more
pub octets-more : (p : Params) (n : ℕ) (es : List Entry) (e : Entry) → slice_get es n ≡ Some e
    → octets_given p (suc n) es ≡ octets_given p n es ++ octets_of_entry p e
unfolding octets_given
octets-more p n es e is =
    ap (λ (l : List Entry). flat_map (octets_in p) (cells_in l)) (take-next es n e is)
    ∙ ap (flat_map (octets_in p)) (cells-more (take n es) e)
    ∙ flat_map-append (octets_in p) (cells_in (take n es)) (cells_in (e ∷ []))
    ∙ ap (λ (l : List LaneCell). flat_map (octets_in p) (cells_in (take n es)) ++ l) (one-entry p e)

pub entry-count : (p : Params) (n : ℕ) (e : Entry) → IsShaped p n e
    → octets_per_tick p * (n - ilas_ticks p) + length (octets_of_entry p e)
    ≡ octets_per_tick p * (suc n - ilas_ticks p)
entry-count p n Placed shaped =
    let before : n - ilas_ticks p ≡ 0 = omega arith in
    let after : suc n - ilas_ticks p ≡ 0 = omega arith in
    ap (λ (k : ℕ). octets_per_tick p * k + 0) before
    ∙ (let z : octets_per_tick p * 0 + 0 ≡ octets_per_tick p * 0 = omega arith in z)
    ∙ sym (ap (λ (k : ℕ). octets_per_tick p * k) after)
entry-count p n (Held c) shaped =
    let long = length-octets p c in
    let more : suc n - ilas_ticks p ≡ suc (n - ilas_ticks p) = omega arith in
    let times : octets_per_tick p * suc (n - ilas_ticks p) ≡ octets_per_tick p * (n - ilas_ticks p)
    + octets_per_tick p = omega arith in
    ap (λ (k : ℕ). octets_per_tick p * (n - ilas_ticks p) + k) long ∙ sym times
    ∙ sym (ap (λ (k : ℕ). octets_per_tick p * k) more)

pub none-given : (p : Params) (es : List Entry) → octets_given p 0 es ≡ []
unfolding octets_given cells_in
none-given p es = refl

pub numbers-split : (a b x : ℕ) → numbers_from x (a + b) ≡ numbers_from x a
    ++ numbers_from (x + a) b
unfolding numbers_from
numbers-split zero b x =
    let none : 0 + b ≡ b = omega arith in
    let here : x + 0 ≡ x = omega arith in
    ap (numbers_from x) none ∙ sym (ap (λ (k : ℕ). numbers_from k b) here)
numbers-split (suc a) b x =
    let more : suc a + b ≡ suc (a + b) = omega arith in
    let next : suc x + a ≡ x + suc a = omega arith in
    ap (numbers_from x) more ∙ ap (λ (l : List ℕ). x ∷ l) (numbers-split a b (suc x))
    ∙ ap (λ (k : ℕ). x ∷ (numbers_from (suc x) a ++ numbers_from k b)) next

pub no-numbers : (f : ℕ → ℕ) → map f (numbers_from 0 0) ≡ []
unfolding numbers_from
no-numbers f = refl

-- how many octets the first n entries give
pub count-octets : (n : ℕ) (p : Params) (es : List Entry)
    → ((j : ℕ) → j < n → (e : Entry) × (slice_get es j ≡ Some e) × IsShaped p j e)
    → length (octets_given p n es) ≡ octets_per_tick p * (n - ilas_ticks p)
count-octets zero p es shaped =
    let none : 0 - ilas_ticks p ≡ 0 = omega arith in
    let z : 0 ≡ octets_per_tick p * 0 = omega arith in
    ap length (none-given p es) ∙ z ∙ sym (ap (λ (k : ℕ). octets_per_tick p * k) none)
count-octets (suc n) p es shaped =
    let k = shaped n (omega arith) in
    let before = count-octets n p es (λ j below. shaped j (omega arith)) in
    ap length (octets-more p n es k.0 k.1) ∙ length-append (octets_given p n es)
    (octets_of_entry p k.0)
    ∙ ap (λ (m : ℕ). m + length (octets_of_entry p k.0)) before ∙ entry-count p n k.0 k.2

-- and which they are, where octet x of the data is f x
pub octets-are : (n : ℕ) (p : Params) (es : List Entry) (f : ℕ → ℕ)
    → ((j : ℕ) → j < n → (e : Entry) × (slice_get es j ≡ Some e) × IsShaped p j e
    × (map (λ (c : LaneCell). c.value) (octets_of_entry p e)
    ≡ map f (numbers_from (octets_per_tick p * (j - ilas_ticks p)) (length (octets_of_entry p e)))))
    → map (λ (c : LaneCell). c.value) (octets_given p n es)
    ≡ map f (numbers_from 0 (octets_per_tick p * (n - ilas_ticks p)))
octets-are zero p es f given =
    let none : 0 - ilas_ticks p ≡ 0 = omega arith in
    let z : octets_per_tick p * 0 ≡ 0 = omega arith in
    ap (map (λ (c : LaneCell). c.value)) (none-given p es)
    ∙ sym (ap (λ (k : ℕ). map f (numbers_from 0 (octets_per_tick p * k))) none
    ∙ ap (λ (k : ℕ). map f (numbers_from 0 k)) z ∙ no-numbers f)
octets-are (suc n) p es f given =
    let k = given n (omega arith) in
    let a : ℕ = octets_per_tick p * (n - ilas_ticks p) in
    let m : ℕ = length (octets_of_entry p k.0) in
    let before = octets-are n p es f (λ j below. given j (omega arith)) in
    let value_of : LaneCell → ℕ = λ c. c.value in
    let here : 0 + a ≡ a = omega arith in
    ap (map value_of) (octets-more p n es k.0 k.1)
    ∙ map-append value_of (octets_given p n es) (octets_of_entry p k.0)
    ∙ ap₂ (λ (x y : List ℕ). x ++ y) before k.3
    ∙ sym (map-append f (numbers_from 0 a) (numbers_from a m))
    ∙ sym (ap (map f)
    (numbers-split a m 0 ∙ ap (λ (x : ℕ). numbers_from 0 a ++ numbers_from x m) here))
    ∙ ap (λ (x : ℕ). map f (numbers_from 0 x)) (entry-count p n k.0 k.2)

-- ---- the numbers of the frames of a tick

-- the frames that n entries of a lane give whole
abbrev pub frames_to : Params → ℕ → ℕ
frames_to p n = octets_per_tick p * (n - ilas_ticks p) / p.f

-- so the frames of tick t, where n entries were given before it, have the numbers from those whole
-- before on
pub delivered-numbers : (kind : LaneKind) (s : Plan) (t n : ℕ) → 0 < s.link.params.l
    → is_running (at kind s t).stage ≡ true → gives_in (session s (run kind s t)) ≡ n
    → ((j : ℕ) → j < suc n → (e : Entry)
    × (slice_get (entries_at kind s (lane_for s 0) t) j ≡ Some e)
    × IsShaped s.link.params j e)
    → (at kind s t).delivered
    ≡ map (frame_given s.link.params
    (octets_per_tick s.link.params * (t - n) + ilas_ticks s.link.params)
    (map (octets_given s.link.params (n + 1)) (lanes_entries kind s t)))
    (numbers_from (frames_to s.link.params n)
    (frames_to s.link.params (n + 1) - frames_to s.link.params n))
unfolding frames_given
delivered-numbers kind s t n some runs gave shaped =
    let p = s.link.params in
    let all : List (List Entry) = lanes_entries kind s t in
    let long = length-numbers p.l 0 in
    let zero_lane : 0 + 0 ≡ 0 = omega arith in
    let first : get_or all 0 [] ≡ entries_at kind s (lane_for s 0) t =
    get_or-map (λ place. entries_at kind s (lane_for s place) t) (numbers_from 0 p.l) 0 0 []
    (omega arith)
    ∙ ap (λ place. entries_at kind s (lane_for s place) t)
    (get_or-numbers p.l 0 0 0 some ∙ zero_lane) in
    let one_more : n + 1 ≡ suc n = omega arith in
    let before : frames_in p n (get_or all 0 []) ≡ frames_to p n =
    ap (frames_in p n) first
    ∙ ap (λ (k : ℕ). k / p.f)
    (count-octets n p (entries_at kind s (lane_for s 0) t) (λ j below. shaped j (omega arith))) in
    let now : frames_in p (n + 1) (get_or all 0 []) ≡ frames_to p (n + 1) =
    ap (frames_in p (n + 1)) first
    ∙ ap (λ (k : ℕ). k / p.f)
    (count-octets (n + 1) p (entries_at kind s (lane_for s 0) t) (λ j below. shaped j (omega arith))) in
    let from : ℕ = octets_per_tick p * (t - n) + ilas_ticks p in
    delivered-tick kind s t n some runs gave
    ∙ ap₂ (λ (a b : ℕ). map (frame_given p from (map (octets_given p (n + 1)) all))
    (numbers_from a (b - a))) before now
