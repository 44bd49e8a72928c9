-- Numbers that leave one remainder.
use Rattle.std.proofs.Common.{◌≡◌, ℕ, ◌+◌, ◌-◌, ◌*◌, ◌%◌, ◌<◌, ◌≤◌, inl, inr, sym, ap, ◌∙◌, arith}
use Rattle.std.proofs.Math.Nat.{add-mul-mod_self_left, mod-add-mod, mul-le-mul_left, mod-eq_of_lt}
use Rattle.std.proofs.lemmas.Bool.{cases_lt}
use Rattle.link_laws.proofs.Phases.{one-remainder}

pub same-add : (n a b k : ℕ) → a % n ≡ b % n → (a + k) % n ≡ (b + k) % n
same-add n a b k e = sym (mod-add-mod a n k) ∙ ap (λ (x : ℕ). (x + k) % n) e ∙ mod-add-mod b n k

pub same-cancel : (n a b k : ℕ) → 0 < n → (a + k) % n ≡ (b + k) % n → a % n ≡ b % n
same-cancel n a b k some e =
    let up : k * 1 ≤ k * n = mul-le-mul_left k (let q : 1 ≤ n = some in q) in
    let turn : n * k ≡ k * n = omega arith in
    let whole_a : a + k + (n * k - k) ≡ a + n * k = omega arith in
    let whole_b : b + k + (n * k - k) ≡ b + n * k = omega arith in
    sym (add-mul-mod_self_left a n k) ∙ ap (λ (x : ℕ). x % n) (sym whole_a)
    ∙ same-add n (a + k) (b + k) (n * k - k) e
    ∙ ap (λ (x : ℕ). x % n) whole_b ∙ add-mul-mod_self_left b n k

-- the tick of a release: q sends what starts a lane, and the lane started in tick q + a; no release
-- point after that start and a period before r was one of an idle decision
pub release-tick : (n q a latency r : ℕ) → 0 < n → a ≤ latency → latency < a + n
    → (q + latency) % n ≡ r % n → q + a ≤ r → (q + latency + n ≤ r → ⊥)
    → q + latency ≡ r
release-tick n q a latency r some late near step begun none = elim (cases_lt r (q + latency)) [
  | inl below ↦ let e = one-remainder n r (q + latency) some (sym step) (omega arith)
      (omega arith) in sym e
  | inr above ↦ elim (cases_lt r (q + latency + n)) [
    | inl close ↦ one-remainder n (q + latency) r some step above close
    | inr far ↦ absurd (none far)
  ]
]

-- the offset of a start is the arrival: y is the receiver's phase in tick q + a + wait, rx and tx
-- are the captures of both devices
pub offset-arrival : (n q a w y rx tx : ℕ) → a < n → tx ≤ rx + n → (rx + y) % n ≡ (q + a + w) % n
    → q % n ≡ tx % n
    → (y + rx + (w + 1) * n - (tx + w)) % n ≡ a
offset-arrival n q a w y rx tx below behind here sent =
    let some : 0 < n = omega arith in
    let room : w * 1 ≤ w * n = mul-le-mul_left w (let k : 1 ≤ n = some in k) in
    let more : (w + 1) * n ≡ w * n + n = omega arith in
    let z : ℕ = y + rx + (w + 1) * n - (tx + w) in
    let turn : n * (w + 1) ≡ (w + 1) * n = omega arith in
    let sum : z + (tx + w) ≡ rx + y + n * (w + 1) = omega arith in
    let swap : tx + (a + w) ≡ a + (tx + w) = omega arith in
    let join : q + a + w ≡ q + (a + w) = omega arith in
    let both : (z + (tx + w)) % n ≡ (a + (tx + w)) % n =
    ap (λ (x : ℕ). x % n) sum ∙ add-mul-mod_self_left (rx + y) n (w + 1) ∙ here
    ∙ ap (λ (x : ℕ). x % n) join
    ∙ same-add n q tx (a + w) sent ∙ ap (λ (x : ℕ). x % n) swap in
    same-cancel n z a (tx + w) some both ∙ mod-eq_of_lt below
