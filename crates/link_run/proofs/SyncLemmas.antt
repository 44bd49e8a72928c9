-- The levels of SYNC~ that wait.
use Rattle.std.proofs.Common.{◌≡◌, ℕ, suc, ◌+◌, ◌-◌, ◌<◌, Bool, true, List, [], ◌∷◌, ◌++◌, length, replicate, drop, get_or, sym, ap, ◌∙◌, add-one, append_assoc, length-append, drop-cons, arith}
use Rattle.std.proofs.lemmas.List.{length-replicate, drop-append-le}
use Rattle.link_run.specs.kept.Seen.{HasSynced}

-- all levels that were and will be seen
abbrev pub levels : ℕ → List Bool → List Bool
levels delay lows = replicate (delay + 1) true ++ lows

length-levels : (delay : ℕ) (lows : List Bool)
    → length (levels delay lows) ≡ delay + 1 + length lows
length-levels delay lows = simp (length-append, length-replicate)

-- those that wait begin with the one that is seen
waiting : (delay : ℕ) (lows : List Bool)
    → drop (length lows) (levels delay lows) ≡ get_or (levels delay lows) (length lows) true
    ∷ drop (suc (length lows)) (levels delay lows)
waiting delay lows = drop-cons (levels delay lows) (length lows) true
    (let l = length-levels delay lows in omega arith)

pub one_more : (now : List Bool) (delay : ℕ) (lows : List Bool) (low : Bool)
    → HasSynced now delay lows → HasSynced (drop 1 now ++ low ∷ []) delay (lows ++ low ∷ [])
one_more now delay lows low h =
    let n : ℕ = length lows in
    let l = length-levels delay lows in
    let count : length (lows ++ low ∷ []) ≡ suc n = length-append lows (low ∷ []) ∙ add-one n in
    let later = drop-append-le (suc n) (levels delay lows) (low ∷ []) (omega arith) in
    record {
      waits = ap (λ (k : List Bool). drop 1 k ++ low ∷ []) (h.waits ∙ waiting delay lows)
          ∙ sym later
          ∙ ap (drop (suc n)) (append_assoc (replicate (delay + 1) true) lows (low ∷ []))
          ∙ sym (ap (λ (k : ℕ). drop k (levels delay (lows ++ low ∷ []))) count);
    }

-- a full ring takes a level in place of its first one
pub in_place : (now : List Bool) (room : ℕ) (low : Bool) → length now ≡ room → 0 < room
    → drop (length (now ++ low ∷ []) - room) (now ++ low ∷ []) ≡ drop 1 now ++ low ∷ []
in_place now room low full some =
    let more = length-append now (low ∷ []) in
    let one : length (now ++ low ∷ []) - room ≡ 1 = omega arith in
    ap (λ (k : ℕ). drop k (now ++ low ∷ [])) one ∙ drop-append-le 1 now (low ∷ []) (omega arith)
