-- What a tick does to a receiver lane.
use Rattle.std.proofs.Common.{◌≡◌, ◌≢◌, ℕ, zero, suc, ◌+◌, ◌-◌, ◌*◌, ◌/◌, ◌%◌, ◌≤◌, ◌<◌, Bool, true, false, ◌&&◌, if◌then◌else◌, List, [], ◌∷◌, ◌++◌, length, take, drop, map, Option, Some, None, option_map, option_and_then, refl, sym, ◌∙◌, ap, inl, inr, arith, append_assoc, length-append, subst}
use Rattle.std.proofs.Math.Nat.{mod-eq_of_lt}
use Rattle.std.proofs.lemmas.Bool.{cases_lt, lt-leb}
use Rattle.std.proofs.lemmas.List.{drop-append-le, drop_all, drop_at, get_or_past}
use Rattle.jesd_base.specs.Bits.{bits, zeros}
use Rattle.jesd_base.specs.Search.{first_from}
use Rattle.jesd_base.proofs.BitLemmas.{zeros_length, finds_none as none_from}
use Rattle.link_params.specs.declared.fields.Mode.TheVariants.{B}
use Rattle.link_params.specs.declared.fields.Params.{Params}
use Rattle.link_params.specs.declared.fields.Timing.{Timing}
use Rattle.link_params.specs.Lanes.{Taken}
use Rattle.link_params.specs.Numbers.{period}
use Rattle.multiblock.specs.declared.place.Place.{Place as Found}
use Rattle.multiblock.specs.Places.{Place, found, headers, pattern_size, pieces}
use Rattle.multiblock.specs.kept.Hunts.{HasHunted, Kept}
use Rattle.multiblock.proofs.PlaceLemmas.{found_in_tick}
use Rattle.elastic_buffer.specs.kept.Queues.{Queue}
use Rattle.lane_c.specs.declared.pipeline.Multiblock.{Multiblock}
use Rattle.lane_c.specs.declared.receiver.Held.{Held}
use Rattle.lane_c.specs.declared.receiver.Start.{Start}
use Rattle.lane_c.specs.declared.receiver.State.{State}
use Rattle.lane_c.specs.declared.receiver.State.TheVariants as state
use Rattle.lane_c.specs.kept.Counts.{Counter, HasCounted}
use Rattle.lane_c.specs.Loss.{first_loss, headers_after, is_bad, loses, misplaced, misplaced_from, pattern_end}
use Rattle.lane_c.specs.Locking.{arrives, bits_taken, dropped_at, is_first, is_locked, leaves, no_order, order_at, place, start, starts, was_armed_before}
use Rattle.lane_c.specs.Received.{entries_c, entries_from, entries_of}
use Rattle.lane_c.specs.kept.Receivers.{AreBlocks, HasBegun, HasCome, HasDropped, HasTaken, Holds, HoldsFirst, Hunts, HuntsOn, IsHeld, MayHaveStarted, Receiver, StandsSo, blocks_in}
use Rattle.lane_c.proofs.SenderSteps.{period-c}
use Rattle.lane_c.proofs.Searching.{are_blocks-more, bits_taken-more, entries-unplaced, found-from, holds-same, hunts-none, length-bits_taken, searches-more}
use Rattle.lane_c.proofs.Reporting.{place-held}

-- ---- one tick more

pub next-tick : (old new : Receiver) (p : Params) (t : Timing) (lane : ℕ) (taken : List Taken)
    (gave : ℕ) (x : Taken) → HasTaken old p t lane taken gave → length x.word ≡ 66
    → new.params ≡ old.params → new.timing ≡ old.timing → StandsSo new.state p t (taken ++ x ∷ [])
    → Holds (entries_c p t lane (taken ++ x ∷ [])) new.buffer.cells gave
    → HasTaken new p t lane (taken ++ x ∷ []) gave
next-tick old new p t lane taken gave x h size params timing stands holds = record {
  params = params ∙ h.params;
  timing = timing ∙ h.timing;
  words = are_blocks-more taken x h.words size;
  stands = stands;
  holds = holds;
}

-- nothing is placed before and after
pub same-entries : (p : Params) (t : Timing) (lane : ℕ) (taken more : List Taken)
    → place p.e taken ≡ None → place p.e more ≡ None → entries_c p t lane taken
    ≡ entries_c p t lane more
same-entries p t lane taken more a b = entries-unplaced p t lane taken a
    ∙ sym (entries-unplaced p t lane more b)

pub hunts-next : (p : Params) (t : Timing) (lane : ℕ) (taken : List Taken) (x : Taken)
    (k new : Kept) → AreBlocks taken → length x.word ≡ 66 → HuntsOn k p.e taken
    → HuntsOn new p.e (taken ++ x ∷ [])
    → entries_c p t lane taken ≡ entries_c p t lane (taken ++ x ∷ [])
hunts-next p t lane taken x k new words size h later =
    same-entries p t lane taken (taken ++ x ∷ []) (hunts-none k p.e taken words h)
    (hunts-none new p.e (taken ++ x ∷ []) (are_blocks-more taken x words size) later)

-- ---- a place was found

-- no lane starts before it is locked
pub start-none : (e : ℕ) (taken : List Taken) (x : Place)
    → length taken ≤ arrives x (32 * pattern_size e + 95) → start e taken x ≡ None
unfolding start
start-none e taken x late = (none_from (starts e taken x) (length taken) 0).1
    (λ y low high. not-yet y)
  where
    unarmed : (y : ℕ) → length taken ≤ leaves x y → (order_at taken (leaves x y)).armed ≡ false
    unarmed y past = ap (λ (t : Taken). t.order.armed) (get_or_past taken (leaves x y)
        (record { order = no_order; word = [] }) past)

    second : (a b : Bool) → b ≡ false → (a && b) ≡ false
    second true b h = h
    second false b h = refl

    not-yet : (y : ℕ) → starts e taken x y ≡ false
    not-yet y = second (is_first e x y) _ (elim (cases_lt (leaves x y) (length taken)) [
      | inl before ↦ ap (λ b. b && (order_at taken (leaves x y)).armed)
          (lt-leb (arrives x (32 * pattern_size e + 95)) (leaves x y) (omega arith))
      | inr past ↦ second (is_locked e x (leaves x y)) _ (unarmed y past)
    ])

pub no-headers : (e : ℕ) (bs : List Bool) (x : Place) → length bs - pattern_end e x < 66
    → headers_after e bs x ≡ []
unfolding headers
no-headers e bs x few =
    let none : (length bs - pattern_end e x) / 66 ≡ 0 = omega arith in
    ap (λ n. headers n (drop (pattern_end e x) bs)) none

pub no-loss : (e : ℕ) (bs : List Bool) (x : Place) → headers_after e bs x ≡ []
    → first_loss e bs x ≡ None
unfolding first_loss first_from
no-loss e bs x none = ap (λ hs. first_from (loses e (map is_bad hs) (misplaced e x hs))
    (length hs) 1) none

pub no-drop : (e : ℕ) (taken : List Taken) (x : Place) → first_loss e (bits_taken taken) x ≡ None
    → dropped_at e taken x ≡ None
unfolding dropped_at
no-drop e taken x none = ap (λ o. option_and_then (λ y. if was_armed_before taken y then None else
    Some y) (option_map (λ n. pattern_end e x + 66 * n) o)) none

pub length-pieces : {A : Type 0} (n size : ℕ) (xs : List A) → length (pieces n size xs) ≡ n
unfolding pieces
length-pieces zero size xs = refl
length-pieces (suc n) size xs = ap suc (length-pieces n size (drop size xs))

pub no-blocks : (x : Place) (bs : List Bool) (j : ℕ) → (length bs - x.first) / 66 ≤ 32 * j
    → blocks_in x bs j ≡ []
no-blocks x bs j few =
    let n = length-pieces ((length bs - x.first) / 66) 66 (drop x.first bs) in
    ap (take 32) (drop_all (32 * j) (pieces ((length bs - x.first) / 66) 66 (drop x.first bs))
    (omega arith))

come-none : (now : Multiblock) → HasCome now []
unfolding bits
come-none now = record { word = refl; bad = refl; payload = refl }

pub counted-start : (now : Counter) (e : ℕ) (x : Place) (hs : List _) → HasCounted now e [] []
    → hs ≡ [] → HasCounted now e (map is_bad hs) (misplaced e x hs)
unfolding misplaced_from pieces
counted-start now e x hs h none = let P : List _ → Type 0 =
    λ hs. HasCounted now e (map is_bad hs) (misplaced e x hs) in subst P (sym none) h

-- the last sixty-six bits are those of the last tick
pub window-last : (bs word : List Bool) → length word ≡ 66
    → drop (length word) (zeros 66 ++ word) ≡ drop (length (bs ++ word)) (zeros 66 ++ (bs ++ word))
window-last bs word size =
    let z = zeros_length 66 in
    let l = length-append (zeros 66) bs in
    let m = length-append bs word in
    drop_at (zeros 66) word (length word) (z ∙ sym size)
    ∙ sym (ap (drop (length (bs ++ word))) (sym (append_assoc (zeros 66) bs word))
    ∙ drop_at (zeros 66 ++ bs) word (length (bs ++ word)) (omega arith))

pub held-first : (now : Held) (p : Params) (t : Timing) (taken : List Taken) (x : Taken) (k : Kept)
    (f : Found)
    → AreBlocks taken → length x.word ≡ 66 → 1 ≤ p.e → p.mode ≢ B → HuntsOn k p.e taken
    → ((bs : List Bool) → HasHunted k p.e bs → found p.e (bs ++ x.word) ≡ Some f)
    → HasBegun now p.e f x.word → IsHeld now p t (taken ++ x ∷ [])
held-first now p t taken x k f words size some not_b h answer begun =
    let window = begun.windowed in
    let rest = begun.rest in
    let at = begun.next in
    let e : ℕ = p.e in
    let later : List Taken = taken ++ x ∷ [] in
    let bs : List Bool = bits_taken taken in
    let all : List Bool = bits_taken later in
    let more : all ≡ bs ++ x.word = bits_taken-more taken x in
    let inside = h.searches.inside in
    let l = length-bits_taken later (are_blocks-more taken x words size) in
    let k = length-append bs x.word in
    let m = ap length more in
    let same : drop h.from all ≡ drop h.from bs ++ x.word = ap (drop h.from) more
    ∙ drop-append-le h.from bs x.word inside in
    let is = answer (drop h.from bs) h.hunted in
    let tick = found_in_tick e (drop h.from bs) x.word f some size h.hunted.finds_none is in
    let fr = found-from e h.from all f (omega arith) (ap (found e) same ∙ is) in
    let low = tick.0 in
    let rests = fr.rest in
    let whole = fr.whole in
    let none = no-headers e all fr.at (omega arith) in
    let early = start-none e later fr.at (omega arith) in
    let c = period-c p not_b in
    let small : f.next < period p = omega (arith, tick.1) in
    record {
      from = h.from;
      searches = searches-more e taken h.from (x ∷ []) h.searches;
      at = fr.at;
      least = fr.least;
      stays = no-drop e later fr.at (no-loss e all fr.at none);
      blocks = 0;
      come = omega arith;
      rest = omega arith;
      windowed = record {
        keeps_rest = window.keeps_rest ∙ sym rest;
        keeps_last = window.keeps_last ∙ window-last bs x.word size
            ∙ ap (λ b. drop (length b) (zeros 66 ++ b)) (sym more);
      };
      count = begun.count ∙ omega arith;
      next = at ∙ sym (mod-eq_of_lt small) ∙ ap (λ n. n % period p) (fr.next ∙ omega arith);
      counted = counted-start now.loss e fr.at (headers_after e all fr.at) begun.counted none;
      piped = record {
        descrambled = [];
        descrambled_so = begun.descrambled_so;
        multiblock = pattern_size e;
        is = omega arith;
        arriving = subst (HasCome now.pipeline.arriving)
            (sym (no-blocks fr.at all (pattern_size e) (omega arith)))
            (come-none now.pipeline.arriving);
        waiting = λ le. absurd (omega arith);
        leaving = λ le. absurd (omega arith);
        left = λ le. absurd (omega arith);
      };
      started = let P : Option Start → Type 0 = λ s. MayHaveStarted s p t later fr.at in
          subst P (sym begun.started) early;
      armed = inl early;
    }

-- a lane that holds a place and has not started has no entries
pub entries-unstarted : (p : Params) (t : Timing) (lane : ℕ) (taken : List Taken) (x : Place)
    → place p.e taken ≡ Some x → start p.e taken x ≡ None → entries_c p t lane taken ≡ []
unfolding entries_c
entries-unstarted p t lane taken x is none = ap (entries_of p t taken) is
    ∙ ap (entries_from p t taken x) none

pub held-none : (now : Held) (p : Params) (t : Timing) (lane : ℕ) (taken : List Taken)
    (h : IsHeld now p t taken) → AreBlocks taken → now.start ≡ None → entries_c p t lane taken ≡ []
held-none now p t lane taken h words begun =
    let P : Option Start → Type 0 = λ s. MayHaveStarted s p t taken h.at in
    entries-unstarted p t lane taken h.at (place-held now p t taken h words)
    (subst P begun h.started)

pub next-first : (old new : Receiver) (p : Params) (t : Timing) (lane : ℕ) (taken : List Taken)
    (gave : ℕ)
    (x : Taken) (k : Kept) (f : Found) (s : State)
    → HasTaken old p t lane taken gave → length x.word ≡ 66 → 1 ≤ p.e → p.mode ≢ B
    → HuntsOn k p.e taken → ((bs : List Bool) → HasHunted k p.e bs
    → found p.e (bs ++ x.word) ≡ Some f)
    → HoldsFirst s p.e f x.word → new.params ≡ old.params → new.timing ≡ old.timing
    → new.state ≡ s → new.buffer ≡ old.buffer → HasTaken new p t lane (taken ++ x ∷ []) gave
next-first old new p t lane taken gave x k f (state.Hunting n) h size some not_b hunt answer none
    params timing is buffer = absurd none
next-first old new p t lane taken gave x k f (state.Held now) h size some not_b hunt answer begun
    params timing is buffer =
    let held = held-first now p t taken x k f h.words size some not_b hunt answer begun in
    let none = entries-unplaced p t lane taken (hunts-none k p.e taken h.words hunt) in
    let later = held-none now p t lane (taken ++ x ∷ []) held
    (are_blocks-more taken x h.words size) begun.started in
    let holds = holds-same _ _ _ gave (none ∙ sym later) h.holds in
    next-tick old new p t lane taken gave x h size params timing
    (subst (λ s. StandsSo s p t (taken ++ x ∷ [])) (sym is) held)
    (subst (λ (b : Queue). Holds (entries_c p t lane (taken ++ x ∷ [])) b.cells gave)
    (sym buffer) holds)

-- ---- a place was dropped

pub hunts-anew : (now : Held) (k : Kept) (e : ℕ) (taken : List Taken) (x : Taken)
    (d : HasDropped now e taken x) → HasHunted k e (drop (66 - now.rest % 66) x.word)
    → HuntsOn k e (taken ++ x ∷ [])
hunts-anew now k e taken x d h =
    let r : now.rest % 66 ≡ now.rest = mod-eq_of_lt d.rest in
    record {
      from = d.from;
      searches = d.searches;
      hunted = subst (HasHunted k e) (ap (λ n. drop (66 - n) x.word) r ∙ sym d.left) h;
    }

pub next-anew : (old new : Receiver) (p : Params) (t : Timing) (lane : ℕ) (taken : List Taken)
    (gave : ℕ)
    (x : Taken) (now : Held) (s : State)
    → HasTaken old p t lane taken gave → length x.word ≡ 66 → HasDropped now p.e taken x
    → entries_c p t lane taken ≡ [] → Hunts s p.e (drop (66 - now.rest % 66) x.word)
    → new.params ≡ old.params → new.timing ≡ old.timing → new.state ≡ s → new.buffer ≡ old.buffer
    → HasTaken new p t lane (taken ++ x ∷ []) gave
next-anew old new p t lane taken gave x now (state.Held n) h size dropped none hunted params timing
    is buffer = absurd hunted
next-anew old new p t lane taken gave x now (state.Hunting k) h size dropped none hunted params
    timing is buffer =
    let later = hunts-anew now k p.e taken x dropped hunted in
    let words = are_blocks-more taken x h.words size in
    let after = entries-unplaced p t lane (taken ++ x ∷ [])
    (hunts-none k p.e (taken ++ x ∷ []) words later) in
    let holds = holds-same _ _ _ gave (none ∙ sym after) h.holds in
    next-tick old new p t lane taken gave x h size params timing
    (subst (λ s. StandsSo s p t (taken ++ x ∷ [])) (sym is) later)
    (subst (λ (b : Queue). Holds (entries_c p t lane (taken ++ x ∷ [])) b.cells gave)
    (sym buffer) holds)
