-- The sync bits of what is sent have the form of multiblocks, and the headers of blocks carry them.
use Rattle.std.proofs.Common.{◌≡◌, ◌≢◌, ℕ, zero, suc, ◌+◌, ◌-◌, ◌*◌, ◌/◌, ◌%◌, ◌==◌, ◌<◌, ◌≤◌, Bool, true, false, List, [], ◌∷◌, take, get_or, inl, inr, refl, sym, ap, ap₂, ◌∙◌, eq-eqb, ne_eqb, mod-eq_of_lt, mod-lt, mul-one, arith}
use Rattle.std.proofs.Math.Nat.{add-mod, add-mul-mod_self_left}
use Rattle.std.proofs.lemmas.Bool.{cases_lt, cases_eq}
use Rattle.link_params.specs.declared.fields.Mode.{Mode}
use Rattle.link_params.specs.declared.fields.Mode.TheVariants.{B, CCrc, CFec}
use Rattle.link_params.specs.declared.fields.Params.{Params}
use Rattle.block_66b.specs.Blocks.{block, header}
use Rattle.multiblock.specs.SyncWords.{pilot, sync_form, sync_word}
use Rattle.lane_c.specs.Sent.{check_before, is_end, payload_of, word_of}
use Rattle.link_laws_c.proofs.Framing.{IsForm}
use Rattle.link_laws_c.proofs.HeaderLists.{header_of}
use Rattle.link_laws_c.proofs.SentBits.{block_of}

-- ---- sync words

pilot-of-word : (mode : Mode) (c i : ℕ) (end : Bool) → mode ≢ B → i < 5
    → get_or (sync_word mode c 0 end) (27 + i) false ≡ get_or pilot i false
unfolding sync_word sync_form pilot
pilot-of-word B c i end not_b low = absurd (not_b refl)
pilot-of-word CCrc c zero end not_b low = refl
pilot-of-word CCrc c (suc zero) end not_b low = refl
pilot-of-word CCrc c (suc (suc zero)) end not_b low = refl
pilot-of-word CCrc c (suc (suc (suc zero))) end not_b low = refl
pilot-of-word CCrc c (suc (suc (suc (suc zero)))) end not_b low = refl
pilot-of-word CCrc c (suc (suc (suc (suc (suc i))))) end not_b low = absurd (omega arith)
pilot-of-word CFec c zero end not_b low = refl
pilot-of-word CFec c (suc zero) end not_b low = refl
pilot-of-word CFec c (suc (suc zero)) end not_b low = refl
pilot-of-word CFec c (suc (suc (suc zero))) end not_b low = refl
pilot-of-word CFec c (suc (suc (suc (suc zero)))) end not_b low = refl
pilot-of-word CFec c (suc (suc (suc (suc (suc i))))) end not_b low = absurd (omega arith)

end-of-word : (mode : Mode) (c : ℕ) (end : Bool) → mode ≢ B
    → get_or (sync_word mode c 0 end) 22 false ≡ end
unfolding sync_word sync_form pilot
end-of-word B c end not_b = absurd (not_b refl)
end-of-word CCrc c end not_b = refl
end-of-word CFec c end not_b = refl

pub word-pilot : (p : Params) (xs : List Bool) (j i : ℕ) → p.mode ≢ B → i < 5
    → get_or (word_of p xs j) (27 + i) false ≡ get_or pilot i false
unfolding word_of
word-pilot p xs j i not_b low = pilot-of-word p.mode (check_before p.mode xs j) i (is_end p j) not_b
    low

pub word-end : (p : Params) (xs : List Bool) (j : ℕ) → p.mode ≢ B
    → get_or (word_of p xs j) 22 false ≡ is_end p j
unfolding word_of
word-end p xs j not_b = end-of-word p.mode (check_before p.mode xs j) (is_end p j) not_b

-- ---- the sync bits of a transmission from one of its multiblocks on

-- the sync bit of block m of a transmission with these octets
abbrev pub word_bit : Params → List ℕ → ℕ → Bool
word_bit p octets m = get_or (word_of p (payload_of octets) (m / 32)) (m % 32) false

-- the remainder of the multiblocks that end an extended one, counted from multiblock k of the
-- transmission
abbrev pub remainder_from : ℕ → ℕ → ℕ
remainder_from e k = e - 1 - k % e

pub end-from : (e k j : ℕ) → 1 ≤ e → ((k + j) % e == e - 1) ≡ (j % e == remainder_from e k)
end-from e k j some =
    let a : k % e < e = mod-lt k some in
    let b : j % e < e = mod-lt j some in
    let both : (k + j) % e ≡ (k % e + j % e) % e = add-mod k j e in
    elim (cases_lt (k % e + j % e) e) [
      | inl low ↦
          let is : (k + j) % e ≡ k % e + j % e = both ∙ mod-eq_of_lt low in
          elim (cases_eq (j % e) (e - 1 - k % e)) [
            | inl same ↦ eq-eqb ((k + j) % e) (e - 1) (omega (arith, a, same, is))
                ∙ sym (eq-eqb (j % e) (e - 1 - k % e) same)
            | inr apart ↦ ne_eqb ((k + j) % e) (e - 1) (λ end. apart (omega (arith, a, end, is)))
                ∙ sym (ne_eqb (j % e) (e - 1 - k % e) apart)
          ]
      | inr high ↦
          let over : (k % e + j % e) % e ≡ k % e + j % e - e =
          turned (k % e + j % e) e high (omega (arith, a, b)) in
          ne_eqb ((k + j) % e) (e - 1) (λ end. let bad : k % e + j % e - e ≡ e - 1 = sym over
          ∙ sym both ∙ end in absurd (omega (arith, a, b, bad, high)))
          ∙ sym (ne_eqb (j % e) (e - 1 - k % e)
          (λ same. absurd (omega (arith, a, same, high, some))))
    ]
  where
    turned : (n e : ℕ) → e ≤ n → n < e + e → n % e ≡ n - e
    turned n e low up =
        let one : e * 1 ≡ e = mul-one e in
        let split : n ≡ (n - e) + e * 1 = omega (arith, one, low) in
        let less : n - e < e = omega arith in
        ap (λ (m : ℕ). m % e) split ∙ add-mul-mod_self_left (n - e) e 1 ∙ mod-eq_of_lt less

pub form-sent : (p : Params) (octets : List ℕ) (k : ℕ) → p.mode ≢ B → 1 ≤ p.e → k % 32 ≡ 0
    → IsForm p.e (remainder_from p.e (k / 32)) (λ n. word_bit p octets (k + n))
form-sent p octets k not_b some whole =
    let xs : List Bool = payload_of octets in
    let at : (j i : ℕ) → i < 32 → word_bit p octets (k + (32 * j + i))
    ≡ get_or (word_of p xs (k / 32 + j)) i false = λ j i low.
    let a : (k + (32 * j + i)) / 32 ≡ k / 32 + j = omega arith in
    let b : (k + (32 * j + i)) % 32 ≡ i = omega arith in
    ap₂ (λ (m n : ℕ). get_or (word_of p xs m) n false) a b in
    let low : (k / 32) % p.e < p.e = mod-lt (k / 32) some in
    record {
      below = omega (arith, low, some);
      pilots = λ j i five. at j (27 + i) (omega arith) ∙ word-pilot p xs (k / 32 + j) i not_b five;
      ends = λ j. at j 22 (omega arith) ∙ word-end p xs (k / 32 + j) not_b
          ∙ end-from p.e (k / 32) j some;
    }

-- ---- headers

pub header-of-block : (b : Bool) (payload : List Bool) → header (block b payload) ≡ header_of b
unfolding header
header-of-block true payload = refl
header-of-block false payload = refl

pub header-front : (bs : List Bool) → header (take 66 bs) ≡ header bs
unfolding header
header-front [] = refl
header-front (true ∷ []) = refl
header-front (false ∷ []) = refl
header-front (true ∷ true ∷ bs) = refl
header-front (true ∷ false ∷ bs) = refl
header-front (false ∷ true ∷ bs) = refl
header-front (false ∷ false ∷ bs) = refl

-- bits that begin with a block of a transmission have its header
pub header-sent : (p : Params) (octets : List ℕ) (n : ℕ) (bs : List Bool)
    → take 66 bs ≡ block_of p octets n → header bs ≡ header_of (word_bit p octets n)
header-sent p octets n bs is = sym (header-front bs) ∙ ap header is
    ∙ header-of-block (word_bit p octets n) _
