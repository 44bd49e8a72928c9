-- What a hunt answers where one phase is known for all places.
use Rattle.std.proofs.Common.{◌≡◌, ◌≢◌, ℕ, ◌+◌, ◌-◌, ◌/◌, ◌%◌, ◌^◌, ◌<◌, ◌≤◌, true, false, Option, Some, None, arith, inl, inr}
use Rattle.std.proofs.lemmas.Bool.{cases_lt, false_from_ne_true}
use Rattle.jesd_base.specs.Bits.{bits}
use Rattle.code_8b10b.specs.Commas.{stands_at, found}
use Rattle.code_8b10b.proofs.Places.{found-none, stands_at-short}
use Rattle.code_8b10b.proofs.Windows.{BitLaws, length-bits, stands_at-bits}

module _ (laws : BitLaws) (n w : ℕ) (phase : Option ℕ) (few : n ≤ 49)
    (commas : (r : ℕ) → r < 10 → w / 2 ^ r % 2 ^ 40 ≡ 0x3EB053EB05 → phase ≡ Some r)
    (other_commas : (r : ℕ) → r < 10 → w / 2 ^ r % 2 ^ 40 ≡ 0xC14FAC14FA → phase ≡ Some r) where
  phase_at : (x : ℕ) → stands_at (bits n w) x ≡ true → (x + 40 ≤ n) × (phase ≡ Some (n - (x + 40)))
  phase_at x h = elim (cases_lt n (x + 40)) [
    | inl late ↦
        let l = length-bits n w in
        let no = stands_at-short (bits n w) x (omega arith) in
        cc
    | inr fits ↦
        let r : ℕ = n - (x + 40) in
        let at : x + 40 + r ≡ n = omega arith in
        let small : r < 10 = omega arith in
        (fits, elim (stands_at-bits laws n w x r at h) [ inl a ↦ commas r small a | inr b ↦ other_commas r small b ])
  ]

  pub found-no_phase : phase ≡ None → found (bits n w) ≡ None
  found-no_phase none = found-none (bits n w) (λ x. false_from_ne_true _ (λ h. let p = (phase_at x h).1 in cc))

  pub found-early : (r : ℕ) → phase ≡ Some r → n < 40 + r → found (bits n w) ≡ None
  found-early r is early = found-none (bits n w) (λ x. false_from_ne_true _ (λ h.
      let p = phase_at x h in
      let fits = p.0 in
      let place = p.1 in
      let same : r ≡ n - (x + 40) = cc in
      omega arith))

  pub nowhere_before : (r : ℕ) → phase ≡ Some r → 40 + r ≤ n → (y : ℕ) → y < n - (40 + r) → stands_at (bits n w) y ≡ false
  nowhere_before r is fits y before = false_from_ne_true _ (λ h.
      let place = (phase_at y h).1 in
      let same : r ≡ n - (y + 40) = cc in
      omega arith)

  pub found-others : (r : ℕ) → phase ≡ Some r → w / 2 ^ r % 2 ^ 40 ≢ 0x3EB053EB05 → w / 2 ^ r % 2 ^ 40 ≢ 0xC14FAC14FA → found (bits n w) ≡ None
  found-others r is first second = found-none (bits n w) (λ x. false_from_ne_true _ (λ h.
      let p = phase_at x h in
      let fits = p.0 in
      let place = p.1 in
      let same : r ≡ n - (x + 40) = cc in
      let at : x + 40 + r ≡ n = omega arith in
      elim (stands_at-bits laws n w x r at h) [ inl a ↦ first a | inr b ↦ second b ]))
