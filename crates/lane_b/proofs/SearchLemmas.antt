-- Where the search for a lock stands, and what a lock is in longer lists.
use Rattle.std.proofs.Common.{◌≡◌, ℕ, zero, suc, ◌+◌, ◌-◌, ◌*◌, ◌/◌, ◌≤◌, ◌<◌, Bool, true, false, not, ◌&&◌, if◌then◌else◌, List, [], ◌∷◌, ◌++◌, length, drop, Some, None, refl, sym, ◌∙◌, ap, arith, append_assoc, length-append, length-drop}
use Rattle.std.proofs.Math.Seq.{drop-append-le}
use Rattle.std.proofs.Math.ListN.{get_or-append}
use Rattle.std.proofs.lemmas.List.{append-nil}
use Rattle.std.proofs.lemmas.Grind.{flat_map-append}
use Rattle.link_params.specs.Lanes.{Taken}
use Rattle.code_8b10b.specs.declared.character.Rd.TheVariants.{Minus}
use Rattle.code_8b10b.specs.declared.character.Reading.{Reading}
use Rattle.code_8b10b.specs.Reads.{readings}
use Rattle.code_8b10b.specs.Commas.{least_place}
use Rattle.lane_b.specs.Locking.{bits_taken, words_in, from_other, is_empty, lock_at, since_start, bits_to_start, tick_of_start, order_at, no_order, is_dropped, lock_from, lock}
use Rattle.lane_b.specs.kept.Senders.{rd_after}
use Rattle.lane_b.specs.kept.Receivers.{AreTens, Searches}
use Rattle.lane_b.proofs.ChainLemmas.{later_tens, words_in-append, length-tens, readings-append, length-readings, from_other-append_some, length-from_other, is_empty-length, is_empty-append}
use Rattle.lane_b.proofs.PlaceLemmas.{zero_place, least_place-append_from}

-- ---- the bits of ticks

pub bits_taken-append : (taken more : List Taken) → bits_taken (taken ++ more) ≡ bits_taken taken ++ bits_taken more
bits_taken-append taken more = flat_map-append (λ t. t.word) taken more

pub length-bits_taken : (taken : List Taken) → AreTens taken → length (bits_taken taken) ≡ 10 * length taken
length-bits_taken [] h = refl
length-bits_taken (t ∷ ts) h =
    let l = length-append t.word (bits_taken ts) in
    let rest = length-bits_taken ts h.1 in
    let ten = h.0 in
    omega arith

pub are_tens-more : (taken : List Taken) (x : Taken) → AreTens taken → length x.word ≡ 10 → AreTens (taken ++ x ∷ [])
are_tens-more [] x h ten = (ten, tt)
are_tens-more (t ∷ ts) x h ten = (h.0, are_tens-more ts x h.1 ten)

pub order_at-append : (taken more : List Taken) (i : ℕ) → i < length taken → order_at (taken ++ more) i ≡ order_at taken i
order_at-append taken more i lt = ap (λ t. t.order) (get_or-append taken more (record { order = no_order; word = [] }) i lt)

-- ---- a lock in longer lists

unfoldable pub later_readings : List Bool → ℕ → List Bool → List Reading
later_readings bs y more = readings (rd_after Minus (words_in (drop (y + 30) bs))) (later_tens (drop (y + 30) bs) more)

pub read-append : (bs : List Bool) (y : ℕ) (more : List Bool) → y + 40 ≤ length bs → (lock_at (bs ++ more) y).read ≡ (lock_at bs y).read ++ later_readings bs y more
unfolding lock_at later_readings
read-append bs y more inside =
    let ws : List ℕ = words_in (drop (y + 30) bs) in
    let near : y + 30 ≤ length bs = omega arith in
    let d = drop-append-le (y + 30) bs more near in
    let l = length-drop (y + 30) bs in
    let n = length-tens (length (drop (y + 30) bs) / 10) (drop (y + 30) bs) in
    let m = length-readings ws Minus in
    let some : 1 ≤ length (readings Minus ws) = omega arith in
    ap (λ xs. drop 1 (readings Minus (words_in xs))) d
    ∙ ap (λ vs. drop 1 (readings Minus vs)) (words_in-append (drop (y + 30) bs) more)
    ∙ ap (drop 1) (readings-append ws Minus (later_tens (drop (y + 30) bs) more))
    ∙ drop-append-le 1 (readings Minus ws) (readings (rd_after Minus ws) (later_tens (drop (y + 30) bs) more)) some

pub length-read : (bs : List Bool) (y : ℕ) → y + 40 ≤ length bs → length (lock_at bs y).read ≡ (length bs - (y + 40)) / 10
unfolding lock_at
length-read bs y inside =
    let ws : List ℕ = words_in (drop (y + 30) bs) in
    let l = length-drop (y + 30) bs in
    let n = length-tens (length (drop (y + 30) bs) / 10) (drop (y + 30) bs) in
    let m = length-readings ws Minus in
    let k = length-drop 1 (readings Minus ws) in
    omega arith

pub place-lock_at : (bs : List Bool) (y : ℕ) → (lock_at bs y).place ≡ y
unfolding lock_at
place-lock_at bs y = refl

pub since_start-append : (bs : List Bool) (y : ℕ) (more : List Bool) → y + 40 ≤ length bs → is_empty (since_start (lock_at bs y)) ≡ false
    → since_start (lock_at (bs ++ more) y) ≡ since_start (lock_at bs y) ++ later_readings bs y more
since_start-append bs y more inside begun =
    ap from_other (read-append bs y more inside) ∙ from_other-append_some (lock_at bs y).read (later_readings bs y more) begun

pub bits_to_start-append : (bs : List Bool) (y : ℕ) (more : List Bool) → y + 40 ≤ length bs → is_empty (since_start (lock_at bs y)) ≡ false
    → bits_to_start (lock_at (bs ++ more) y) ≡ bits_to_start (lock_at bs y)
bits_to_start-append bs y more inside begun =
    let a = place-lock_at bs y in
    let b = place-lock_at (bs ++ more) y in
    let r = ap length (read-append bs y more inside) ∙ length-append (lock_at bs y).read (later_readings bs y more) in
    let s = ap length (since_start-append bs y more inside begun) ∙ length-append (since_start (lock_at bs y)) (later_readings bs y more) in
    omega arith

pub bits_to_start-inside : (bs : List Bool) (y : ℕ) → y + 40 ≤ length bs → is_empty (since_start (lock_at bs y)) ≡ false
    → (y + 50 ≤ bits_to_start (lock_at bs y)) × (bits_to_start (lock_at bs y) ≤ length bs)
bits_to_start-inside bs y inside begun =
    let a = place-lock_at bs y in
    let r = length-read bs y inside in
    let n = length-from_other (lock_at bs y).read in
    let s = is_empty-length (since_start (lock_at bs y)) begun in
    (omega arith, omega arith)

-- ---- one turn of the search

pub lock_from-found : (n : ℕ) (taken : List Taken) (x y : ℕ) → least_place x (drop x (bits_taken taken)) ≡ Some y
    → lock_from (suc n) taken x ≡ (let l = lock_at (bits_taken taken) y in if is_dropped taken l then lock_from n taken (bits_to_start l) else Some l)
unfolding lock_from
lock_from-found n taken x y e = rw e refl

pub lock_from-dropped : (n : ℕ) (taken : List Taken) (x y : ℕ) → least_place x (drop x (bits_taken taken)) ≡ Some y
    → is_dropped taken (lock_at (bits_taken taken) y) ≡ true → lock_from (suc n) taken x ≡ lock_from n taken (bits_to_start (lock_at (bits_taken taken) y))
lock_from-dropped n taken x y e dropped =
    lock_from-found n taken x y e ∙ ap (λ b. let l = lock_at (bits_taken taken) y in if b then lock_from n taken (bits_to_start l) else Some l) dropped

pub lock_from-held : (n : ℕ) (taken : List Taken) (x y : ℕ) → least_place x (drop x (bits_taken taken)) ≡ Some y
    → is_dropped taken (lock_at (bits_taken taken) y) ≡ false → lock_from (suc n) taken x ≡ Some (lock_at (bits_taken taken) y)
lock_from-held n taken x y e held =
    lock_from-found n taken x y e ∙ ap (λ b. let l = lock_at (bits_taken taken) y in if b then lock_from n taken (bits_to_start l) else Some l) held

pub lock_from-none : (n : ℕ) (taken : List Taken) (x : ℕ) → least_place x (drop x (bits_taken taken)) ≡ None → lock_from n taken x ≡ None
unfolding lock_from
lock_from-none zero taken x e = refl
lock_from-none (suc n) taken x e = rw e refl

-- ---- the search

pub searches-start : Searches [] 0
searches-start = record {
  drops = 0;
  few = omega arith;
  inside = omega arith;
  same = λ later n. let e : n + 0 ≡ n = omega arith in ap (λ m. lock_from m later 0) e;
}

pub searches-more : (taken : List Taken) (x : ℕ) (more : List Taken) → Searches taken x → Searches (taken ++ more) x
searches-more taken x more s =
    let e = ap length (bits_taken-append taken more) ∙ length-append (bits_taken taken) (bits_taken more) in
    let le = s.inside in
    record {
      drops = s.drops;
      few = s.few;
      inside = omega arith;
      same = λ later n.
          let a = append_assoc taken more later in
          ap (λ ts. lock_from (n + s.drops) ts 0) a ∙ s.same (more ++ later) n ∙ ap (λ ts. lock_from n ts x) (sym a);
    }

-- a place that was found is found in longer lists
pub least-more : (taken : List Taken) (x y : ℕ) (more : List Taken) → x ≤ length (bits_taken taken) → least_place x (drop x (bits_taken taken)) ≡ Some y
    → least_place x (drop x (bits_taken (taken ++ more))) ≡ Some y
least-more taken x y more le e =
    ap (λ bs. least_place x (drop x bs)) (bits_taken-append taken more)
    ∙ ap (least_place x) (drop-append-le x (bits_taken taken) (bits_taken more) le)
    ∙ least_place-append_from x (drop x (bits_taken taken)) (bits_taken more) y e

-- the order of the start's tick is the same in longer lists
pub order_of_start-more : (taken : List Taken) (y : ℕ) (more : List Taken) → AreTens taken → y + 40 ≤ length (bits_taken taken)
    → is_empty (since_start (lock_at (bits_taken taken) y)) ≡ false
    → order_at (taken ++ more) (tick_of_start (lock_at (bits_taken (taken ++ more)) y)) ≡ order_at taken (tick_of_start (lock_at (bits_taken taken) y))
order_of_start-more taken y more tens inside begun =
    let same : bits_to_start (lock_at (bits_taken (taken ++ more)) y) ≡ bits_to_start (lock_at (bits_taken taken) y) =
    ap (λ bs. bits_to_start (lock_at bs y)) (bits_taken-append taken more) ∙ bits_to_start-append (bits_taken taken) y (bits_taken more) inside begun in
    let within = bits_to_start-inside (bits_taken taken) y inside begun in
    let low = within.0 in
    let high = within.1 in
    let l = length-bits_taken taken tens in
    let lt : tick_of_start (lock_at (bits_taken taken) y) < length taken = omega arith in
    ap (λ n. order_at (taken ++ more) ((n - 1) / 10)) same ∙ order_at-append taken more (tick_of_start (lock_at (bits_taken taken) y)) lt

pub begun-more : (taken : List Taken) (y : ℕ) (more : List Taken) → y + 40 ≤ length (bits_taken taken)
    → is_empty (since_start (lock_at (bits_taken taken) y)) ≡ false → is_empty (since_start (lock_at (bits_taken (taken ++ more)) y)) ≡ false
begun-more taken y more inside begun =
    let bs : List Bool = bits_taken taken in
    let e = ap (λ cs. since_start (lock_at cs y)) (bits_taken-append taken more) ∙ since_start-append bs y (bits_taken more) inside begun in
    ap is_empty e ∙ is_empty-append (since_start (lock_at bs y)) (later_readings bs y (bits_taken more)) begun

and_true : (a b : Bool) → a && b ≡ true → (a ≡ true) × (b ≡ true)
and_true true b e = (refl, e)
and_true false b e = cc

not_true : (a : Bool) → not a ≡ true → a ≡ false
not_true true e = cc
not_true false e = refl

pub dropped-more : (taken : List Taken) (y : ℕ) (more : List Taken) → AreTens taken → y + 40 ≤ length (bits_taken taken)
    → is_empty (since_start (lock_at (bits_taken taken) y)) ≡ false
    → (order_at taken (tick_of_start (lock_at (bits_taken taken) y))).armed ≡ false
    → is_dropped (taken ++ more) (lock_at (bits_taken (taken ++ more)) y) ≡ true
dropped-more taken y more tens inside begun unarmed =
    let b = begun-more taken y more inside begun in
    let o = ap (λ r. r.armed) (order_of_start-more taken y more tens inside begun) ∙ unarmed in
    ap (λ a. not a && not (order_at (taken ++ more) (tick_of_start (lock_at (bits_taken (taken ++ more)) y))).armed) b ∙ ap not o

-- a lock that is dropped: the search comes to the bit after the reading that dropped it
pub searches-drop : (taken : List Taken) (x y : ℕ) → AreTens taken → Searches taken x → least_place x (drop x (bits_taken taken)) ≡ Some y
    → y + 40 ≤ length (bits_taken taken) → is_empty (since_start (lock_at (bits_taken taken) y)) ≡ false
    → (order_at taken (tick_of_start (lock_at (bits_taken taken) y))).armed ≡ false → Searches taken (bits_to_start (lock_at (bits_taken taken) y))
searches-drop taken x y tens s least inside begun unarmed =
    let within = bits_to_start-inside (bits_taken taken) y inside begun in
    let low = within.0 in
    let z = zero_place x (drop x (bits_taken taken)) y least in
    let from = z.2 in
    let few = s.few in
    record {
      drops = suc s.drops;
      few = omega arith;
      inside = within.1;
      same = λ later n.
          let e : n + suc s.drops ≡ suc n + s.drops = omega arith in
          let there = least-more taken x y later s.inside least in
          let to : bits_to_start (lock_at (bits_taken (taken ++ later)) y) ≡ bits_to_start (lock_at (bits_taken taken) y) =
          ap (λ bs. bits_to_start (lock_at bs y)) (bits_taken-append taken later) ∙ bits_to_start-append (bits_taken taken) y (bits_taken later) inside begun in
          ap (λ m. lock_from m (taken ++ later) 0) e ∙ s.same later (suc n)
          ∙ lock_from-dropped n (taken ++ later) x y there (dropped-more taken y later tens inside begun unarmed)
          ∙ ap (lock_from n (taken ++ later)) to;
    }

-- ---- the lock

lock-is : (taken : List Taken) (x n : ℕ) (s : Searches taken x) → n + s.drops ≡ length taken → lock taken ≡ lock_from n taken x
unfolding lock
lock-is taken x n s e =
    let nil = append-nil taken in
    let same = s.same [] n in
    ap (λ m. lock_from m taken 0) (sym e) ∙ (rw nil at same)

pub lock-none : (taken : List Taken) (x : ℕ) → AreTens taken → Searches taken x → least_place x (drop x (bits_taken taken)) ≡ None → lock taken ≡ None
lock-none taken x tens s none =
    let few = s.few in
    let inside = s.inside in
    let l = length-bits_taken taken tens in
    let n : ℕ = length taken - s.drops in
    lock-is taken x n s (omega arith) ∙ lock_from-none n taken x none

pub lock-some : (taken : List Taken) (x y : ℕ) → AreTens taken → Searches taken x → least_place x (drop x (bits_taken taken)) ≡ Some y
    → y + 40 ≤ length (bits_taken taken) → is_dropped taken (lock_at (bits_taken taken) y) ≡ false → lock taken ≡ Some (lock_at (bits_taken taken) y)
lock-some taken x y tens s least inside held =
    let few = s.few in
    let le = s.inside in
    let l = length-bits_taken taken tens in
    let n : ℕ = length taken - s.drops - 1 in
    lock-is taken x (suc n) s (omega arith) ∙ lock_from-held n taken x y least held
