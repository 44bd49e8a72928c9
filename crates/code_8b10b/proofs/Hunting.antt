-- A hunt's bits after ten more.
use Rattle.std.proofs.Common.{◌≡◌, ℕ, ◌+◌, ◌-◌, ◌*◌, ◌%◌, ◌^◌, ◌<◌, ◌≤◌, min, Bool, List, ◌++◌, length, drop, refl, sym, ◌∙◌, ap, arith, length-append, length-drop}
use Rattle.std.proofs.Math.Seq.{drop-drop, drop-append-le}
use Rattle.std.proofs.lemmas.Nat.{or_shifted}
use Rattle.std.specs.Int.Bits.{bit_or}
use Rattle.jesd_base.specs.Bits.{bits}
use Rattle.code_8b10b.specs.Commas.{found, HasHunted}
use Rattle.code_8b10b.proofs.Places.{found-append, found-none, stands_at-short}
use Rattle.code_8b10b.proofs.Windows.{BitLaws, length-bits, drop-bits}

-- ten bits more, as the code adds them
pub or-ten_more : (last word : ℕ) → last < 2 ^ 39 → word < 1024 → bit_or (last * 1024 % 2 ^ 64) word ≡ last * 1024 + word
or-ten_more last word small lt =
    let whole : last * 1024 % 2 ^ 64 ≡ last * 1024 = omega arith in
    rw whole (or_shifted last 10 word lt)

bits-mod : BitLaws → (n w : ℕ) → bits n (w % 2 ^ n) ≡ bits n w
bits-mod laws n w = rw (length-bits n w, laws.value_of_bits n w) at (laws.bits_of_value (bits n w))

-- the lower of the low 39 bits
bits-last : BitLaws → (m w : ℕ) → m ≤ 39 → bits m (w % 2 ^ 39) ≡ bits m w
bits-last laws m w le =
    let e : 39 - m + m ≡ 39 = omega arith in
    let kept = rw e at (drop-bits (39 - m) m (w % 2 ^ 39)) in
    let whole = rw e at (drop-bits (39 - m) m w) in
    sym kept ∙ ap (drop (39 - m)) (bits-mod laws 39 w) ∙ whole

module _ (laws : BitLaws) (count last word : ℕ) (now taken : List Bool) (lt : word < 1024) (view : bits count last ≡ now) (h : HasHunted now taken) where
  append-bits : now ++ bits 10 word ≡ bits (count + 10) (last * 1024 + word)
  append-bits = ap (λ xs. xs ++ bits 10 word) (sym view) ∙ sym (laws.bits_of_both count 10 last word lt)

  pub found-ten_more : found (bits (count + 10) (last * 1024 + word)) ≡ found (taken ++ bits 10 word)
  found-ten_more = ap found (sym append-bits) ∙ sym (found-append now taken (bits 10 word) h)

  append-drop : now ++ bits 10 word ≡ drop (length taken - 39) (taken ++ bits 10 word)
  append-drop =
      let inside : length taken - 39 ≤ length taken = omega arith in
      ap (λ xs. xs ++ bits 10 word) h.last ∙ sym (drop-append-le (length taken - 39) taken (bits 10 word) inside)

  pub last-ten_more : bits (min (count + 10) 39) ((last * 1024 + word) % 2 ^ 39) ≡ drop (length (taken ++ bits 10 word) - 39) (taken ++ bits 10 word)
  last-ten_more =
      let w : ℕ = last * 1024 + word in
      let m : ℕ = min (count + 10) 39 in
      let all : List Bool = taken ++ bits 10 word in
      let long : length all ≡ length taken + 10 = length-append taken (bits 10 word) ∙ ap (λ n. length taken + n) (length-bits 10 word) in
      let of_now : length now ≡ count = ap length (sym view) ∙ length-bits count last in
      let of_rest : length now ≡ length taken - (length taken - 39) = ap length h.last ∙ length-drop (length taken - 39) taken in
      let e : count + 10 - m + m ≡ count + 10 = omega arith in
      let low : drop (count + 10 - m) (bits (count + 10) w) ≡ bits m w = rw e at (drop-bits (count + 10 - m) m w) in
      let places : length taken - 39 + (count + 10 - m) ≡ length all - 39 = omega arith in
      let dropped = drop-drop (count + 10 - m) (length taken - 39) all in
      bits-last laws m w (omega arith) ∙ sym low ∙ ap (drop (count + 10 - m)) (sym append-bits ∙ append-drop) ∙ dropped ∙ ap (λ n. drop n all) places

-- a hunt that begins with fewer than forty bits
pub has_hunted-few : (bs : List Bool) → length bs < 10 → HasHunted bs bs
has_hunted-few bs few =
    let none : length bs - 39 ≡ 0 = omega arith in
    record { last = rw none refl; nothing = found-none bs (λ x. stands_at-short bs x (omega arith)) }
