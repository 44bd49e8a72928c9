-- Ten bits across two words, as the code takes them.
use Rattle.std.proofs.Common.{◌≡◌, ℕ, ◌+◌, ◌-◌, ◌*◌, ◌/◌, ◌%◌, ◌^◌, ◌<◌, Bool, List, ◌++◌, length, take, drop, sym, ◌∙◌, ap, arith}
use Rattle.std.proofs.Math.Seq.{take-append_seam}
use Rattle.std.proofs.Math.Nat.{mod-lt}
use Rattle.std.proofs.Math.Pow.{pow_pos}
use Rattle.std.proofs.lemmas.Nat.{and_mask, or_shifted}
use Rattle.std.specs.Int.Bits.{bit_and, bit_or}
use Rattle.jesd_base.specs.Bits.{bits, value}
use Rattle.jesd_base.specs.laws.BitLaws.{ValueOfBits, BitsOfBoth, BitsOfParts}
use Rattle.code_8b10b.proofs.Windows.{length-bits, drop-bits}
use Rattle.lane_b.specs.kept.Across.{ten_across}

take-bits : (m : ℕ) (xs ys : List Bool) → length xs ≡ m → take m (xs ++ ys) ≡ xs
take-bits m xs ys e = rw (← e) (take-append_seam xs ys)

pub across-bits : BitsOfBoth → BitsOfParts → (last word rest : ℕ) → word < 1024 → rest < 10 → ten_across rest (bits 10 last) (bits 10 word) ≡ bits 10 ((last * 1024 + word) / 2 ^ rest)
across-bits both parts last word rest lt few =
    let w : ℕ = last * 1024 + word in
    let all : bits 10 last ++ bits 10 word ≡ bits 20 w = sym (both 10 10 last word lt) in
    let e : 10 - rest + (10 + rest) ≡ 20 = omega arith in
    let low = rw e at (drop-bits (10 - rest) (10 + rest) w) in
    ap (λ bs. take 10 (drop (10 - rest) bs)) all ∙ ap (take 10) (low ∙ parts 10 rest w) ∙ take-bits 10 (bits 10 (w / 2 ^ rest)) (bits rest w) (length-bits 10 (w / 2 ^ rest))

pub across-value : ValueOfBits → BitsOfBoth → BitsOfParts → (last word rest : ℕ) → last < 1024 → word < 1024 → rest < 10
    → bit_and (bit_or (last * 1024 % 4294967296) word / 2 ^ rest) 1023 ≡ value (ten_across rest (bits 10 last) (bits 10 word))
across-value number both parts last word rest small lt few =
    let whole : last * 1024 % 4294967296 ≡ last * 1024 = omega arith in
    let window : bit_or (last * 1024 % 4294967296) word ≡ last * 1024 + word = rw whole (or_shifted last 10 word lt) in
    ap (λ v. bit_and (v / 2 ^ rest) 1023) window ∙ and_mask ((last * 1024 + word) / 2 ^ rest) 10
    ∙ sym (ap value (across-bits both parts last word rest lt few) ∙ number 10 ((last * 1024 + word) / 2 ^ rest))

pub across-below : ValueOfBits → BitsOfBoth → BitsOfParts → (last word rest : ℕ) → word < 1024 → rest < 10 → value (ten_across rest (bits 10 last) (bits 10 word)) < 1024
across-below number both parts last word rest lt few =
    let e = ap value (across-bits both parts last word rest lt few) ∙ number 10 ((last * 1024 + word) / 2 ^ rest) in
    rw e (mod-lt ((last * 1024 + word) / 2 ^ rest) (pow_pos 10))
