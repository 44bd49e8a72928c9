-- A block that was sent is descrambled with the block before it alone.
use Rattle.std.proofs.Common.{◌≡◌, ℕ, zero, suc, ◌*◌, ◌^◌, ◌<◌, Bool, List, [], ◌∷◌, ◌++◌, length, drop, take, get_or, reverse, refl, sym, ap, ap₂, ◌∙◌, append_assoc, length-append, mod-eq_of_lt, arith}
use Rattle.std.proofs.lemmas.List.{take-append-le, take_all}
use Rattle.std.proofs.Math.Seq.{drop_at}
use Rattle.std.proofs.lemmas.List.Concat.{flat_map-append}
use Rattle.std.specs.List.{flat_map}
use Rattle.jesd_base.specs.Bits.{bits, value}
use Rattle.jesd_base.proofs.BitLemmas.{bits_length, value_of_bits}
use Rattle.lane_scramble.specs.Scrambling.{descrambled, scrambled, start58}
use Rattle.lane_scramble.proofs.ScrambleLemmas.{goes_in_parts, keep_length, part_before}
use Rattle.lane_c.specs.Sent.{payload_of}
use Rattle.lane_c.proofs.SentBlocks.{length-payload}

-- a list at a place: what stands before it, and after it
split-at : (os : List ℕ) (n : ℕ) → suc n < length os
    → (a : List ℕ) × (x : ℕ) × (y : ℕ) × (b : List ℕ) × (os ≡ a ++ x ∷ y ∷ b) × (length a ≡ n)
    × (get_or os (suc n) 0 ≡ y)
split-at [] n inside = absurd (omega arith)
split-at (x ∷ []) n inside = absurd (omega arith)
split-at (x ∷ y ∷ os) zero inside = ([], x, y, os, refl, refl, refl)
split-at (x ∷ y ∷ os) (suc n) inside =
    let k = split-at (y ∷ os) n (omega arith) in
    (x ∷ k.0, k.1, k.2, k.3, ap (λ (l : List ℕ). x ∷ l) k.4, ap suc k.5, k.6)

-- block n + 1 of a payload, descrambled after block n
pub block-descrambled : (os : List ℕ) (n : ℕ) → suc n < length os
    → descrambled 39 58 (reverse (take 64 (drop (64 * n) (payload_of os))))
    (take 64 (drop (64 * suc n) (payload_of os))) ≡ bits 64 (get_or os (suc n) 0)
block-descrambled os n inside =
    let k = split-at os n inside in
    let a : List ℕ = k.0 in
    let x : ℕ = k.1 in
    let y : ℕ = k.2 in
    let b : List ℕ = k.3 in
    let fa : List Bool = flat_map (bits 64) a in
    let fx : List Bool = bits 64 x in
    let fy : List Bool = bits 64 y in
    let fb : List Bool = flat_map (bits 64) b in
    let all : flat_map (bits 64) os ≡ fa ++ (fx ++ (fy ++ fb)) = ap (flat_map (bits 64)) k.4
    ∙ flat_map-append (bits 64) a (x ∷ y ∷ b) in
    let sa : List Bool = scrambled 39 58 start58 fa in
    let pa : List Bool = reverse sa ++ start58 in
    let sx : List Bool = scrambled 39 58 pa fx in
    let px : List Bool = reverse sx ++ pa in
    let sy : List Bool = scrambled 39 58 px fy in
    let sb : List Bool = scrambled 39 58 (reverse sy ++ px) fb in
    let whole : payload_of os ≡ sa ++ (sx ++ (sy ++ sb)) =
    ap (scrambled 39 58 start58) all ∙ (goes_in_parts 39 58 start58 fa (fx ++ (fy ++ fb))).0
    ∙ ap (λ (l : List Bool). sa ++ l) ((goes_in_parts 39 58 pa fx (fy ++ fb)).0
    ∙ ap (λ (l : List Bool). sx ++ l) (goes_in_parts 39 58 px fy fb).0) in
    let la : length sa ≡ 64 * n = length-payload a ∙ ap (λ (m : ℕ). 64 * m) k.5 in
    let lx : length sx ≡ 64 = (keep_length 39 58 pa fx).0 ∙ bits_length 64 x in
    let ly : length sy ≡ 64 = (keep_length 39 58 px fy).0 ∙ bits_length 64 y in
    let before : take 64 (drop (64 * n) (payload_of os)) ≡ sx =
    ap (λ (l : List Bool). take 64 (drop (64 * n) l)) whole
    ∙ ap (take 64) (drop_at sa (sx ++ (sy ++ sb)) (64 * n) la)
    ∙ take-append-le 64 sx (sy ++ sb) (omega arith) ∙ take_all 64 sx (omega arith) in
    let two : length (sa ++ sx) ≡ 64 * suc n = length-append sa sx ∙ omega arith in
    let own : take 64 (drop (64 * suc n) (payload_of os)) ≡ sy =
    ap (λ (l : List Bool). take 64 (drop (64 * suc n) l))
    (whole ∙ sym (append_assoc sa sx (sy ++ sb)))
    ∙ ap (take 64) (drop_at (sa ++ sx) (sy ++ sb) (64 * suc n) two)
    ∙ take-append-le 64 sy sb (omega arith) ∙ take_all 64 sy (omega arith) in
    let fx_long : length fx ≡ 64 = bits_length 64 x in
    ap₂ (λ (p l : List Bool). descrambled 39 58 (reverse p) l) before own
    ∙ part_before 39 58 pa fx fy (omega arith) (omega arith) (omega arith) (omega arith)
    ∙ ap (bits 64) (sym k.6)

pub block-value : (os : List ℕ) (n : ℕ) → suc n < length os → get_or os (suc n) 0 < 2 ^ 64
    → value (descrambled 39 58 (reverse (take 64 (drop (64 * n) (payload_of os))))
    (take 64 (drop (64 * suc n) (payload_of os)))) ≡ get_or os (suc n) 0
block-value os n inside small = ap value (block-descrambled os n inside)
    ∙ value_of_bits 64 (get_or os (suc n) 0) ∙ mod-eq_of_lt small
