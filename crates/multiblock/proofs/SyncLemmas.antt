-- Sync words and their bits.
use Rattle.std.proofs.Common.{◌≡◌, ℕ, zero, suc, ◌+◌, ◌-◌, ◌*◌, ◌/◌, ◌%◌, ◌^◌, ◌<◌, ◌≤◌, ◌==◌, Bool, true, false, List, [], ◌∷◌, ◌++◌, drop, refl, sym, ap, ap₂, ◌∙◌, arith, bit_and}
use Rattle.std.specs.Prelude.{bit_or}
use Rattle.std.specs.Int.{bit_at}
use Rattle.std.proofs.Math.Nat.{mod-eq_of_lt, mod-lt, mul-mod_left}
use Rattle.std.proofs.Math.Pow.{mod-mod-pow}
use Rattle.std.proofs.lemmas.Nat.{and_mask, pow_pos, mod-pow-add, or_shifted, shl-shr, shr-shr}
use Rattle.std.proofs.lemmas.Bool.{eqb-true}
use Rattle.jesd_base.specs.Bits.{bits, value}
use Rattle.jesd_base.specs.laws.BitLaws.{BitsLength, ValueOfBits, BitsOfValue, BitsOfBoth}
use Rattle.link_params.specs.declared.fields.Mode.{Mode}
use mir.Val.{bool_byte}
use Rattle.link_params.specs.declared.fields.Mode.TheVariants.{B, CCrc, CFec}
use Rattle.multiblock.specs.SyncWords.{sync_word, sync_form, carriers, is_check, is_cmd, is_end, same_bits, pilot, read_sync}
use Rattle.multiblock.specs.declared.sync_read.SyncRead.{SyncRead}
use Rattle.multiblock.specs.laws.SyncLaws.{ReadsBack}

-- the n bits of a number from bit k on
unfoldable pub part : ℕ → ℕ → ℕ → List Bool
part zero k x = []
part (suc n) k x = (bit_at x (k + n) == 1) ∷ part n k x

pub bits-part : (n k x : ℕ) → bits n (x / 2 ^ k) ≡ part n k x
unfolding bits part
bits-part zero k x = refl
bits-part (suc n) k x = ap₂ {C = List Bool} (λ b r. b ∷ r) (ap (λ t. t % 2 == 1) (shr-shr x k n)) (bits-part n k x)

-- ---- what is read

crc-check-parts : (w : ℕ) → carriers is_check (sync_form CCrc) (bits 32 w) ≡ (part 3 29 w ++ part 3 25 w) ++ (part 3 21 w ++ part 3 17 w)
unfolding carriers sync_form pilot bits part
crc-check-parts w = refl

pub crc-check : (w : ℕ) → carriers is_check (sync_form CCrc) (bits 32 w)
    ≡ (bits 3 (w / 2 ^ 29) ++ bits 3 (w / 2 ^ 25)) ++ (bits 3 (w / 2 ^ 21) ++ bits 3 (w / 2 ^ 17))
crc-check w = crc-check-parts w ∙ rw (bits-part 3 29 w, bits-part 3 25 w, bits-part 3 21 w, bits-part 3 17 w) refl

crc-cmd-parts : (w : ℕ) → carriers is_cmd (sync_form CCrc) (bits 32 w) ≡ (part 3 13 w ++ part 1 11 w) ++ part 3 5 w
unfolding carriers sync_form pilot bits part
crc-cmd-parts w = refl

pub crc-cmd : (w : ℕ) → carriers is_cmd (sync_form CCrc) (bits 32 w)
    ≡ (bits 3 (w / 2 ^ 13) ++ bits 1 (w / 2 ^ 11)) ++ bits 3 (w / 2 ^ 5)
crc-cmd w = crc-cmd-parts w ∙ rw (bits-part 3 13 w, bits-part 1 11 w, bits-part 3 5 w) refl

fec-check-parts : (w : ℕ) → carriers is_check (sync_form CFec) (bits 32 w) ≡ part 22 10 w ++ part 4 5 w
unfolding carriers sync_form pilot bits part
fec-check-parts w = refl

pub fec-check : (w : ℕ) → carriers is_check (sync_form CFec) (bits 32 w) ≡ bits 22 (w / 2 ^ 10) ++ bits 4 (w / 2 ^ 5)
fec-check w = fec-check-parts w ∙ rw (bits-part 22 10 w, bits-part 4 5 w) refl

end-alone : (b : Bool) → same_bits (b ∷ []) (true ∷ []) ≡ b
unfolding same_bits
end-alone true = refl
end-alone false = refl

pub crc-end : (w : ℕ) → same_bits (carriers is_end (sync_form CCrc) (bits 32 w)) (true ∷ []) ≡ (w / 2 ^ 9 % 2 == 1)
unfolding carriers sync_form pilot bits
crc-end w = end-alone (w / 2 ^ 9 % 2 == 1)

pub fec-end : (w : ℕ) → same_bits (carriers is_end (sync_form CFec) (bits 32 w)) (true ∷ []) ≡ (w / 2 ^ 9 % 2 == 1)
unfolding carriers sync_form pilot bits
fec-end w = end-alone (w / 2 ^ 9 % 2 == 1)

pub same-self : (xs : List Bool) → same_bits xs xs ≡ true
unfolding same_bits
same-self [] = refl
same-self (true ∷ xs) = same-self xs
same-self (false ∷ xs) = same-self xs

pub same-are : (xs ys : List Bool) → same_bits xs ys ≡ true → xs ≡ ys
unfolding same_bits
same-are [] [] e = refl
same-are [] (y ∷ ys) e = grind arith
same-are (x ∷ xs) [] e = grind arith
same-are (true ∷ xs) (true ∷ ys) e = ap (λ r. true ∷ r) (same-are xs ys e)
same-are (false ∷ xs) (false ∷ ys) e = ap (λ r. false ∷ r) (same-are xs ys e)
same-are (true ∷ xs) (false ∷ ys) e = grind arith
same-are (false ∷ xs) (true ∷ ys) e = grind arith

-- ---- what is sent

crc-word-parts : (check cmd : ℕ) (end : Bool) → sync_word CCrc check cmd end ≡
    ((((((((((((((part 3 9 check ++ (true ∷ [])) ++ part 3 6 check) ++ (true ∷ [])) ++ part 3 3 check) ++ (true ∷ [])) ++ part 3 0 check) ++ (true ∷ []))
    ++ part 3 4 cmd) ++ (true ∷ [])) ++ part 1 3 cmd) ++ (true ∷ [])) ++ (end ∷ [])) ++ (true ∷ [])) ++ part 3 0 cmd) ++ pilot
unfolding sync_word sync_form pilot part
crc-word-parts check cmd end = refl

pub crc-word : (check cmd : ℕ) (end : Bool) → sync_word CCrc check cmd end ≡
    ((((((((((((((bits 3 (check / 2 ^ 9) ++ (true ∷ [])) ++ bits 3 (check / 2 ^ 6)) ++ (true ∷ [])) ++ bits 3 (check / 2 ^ 3)) ++ (true ∷ [])) ++ bits 3 (check / 2 ^ 0)) ++ (true ∷ []))
    ++ bits 3 (cmd / 2 ^ 4)) ++ (true ∷ [])) ++ bits 1 (cmd / 2 ^ 3)) ++ (true ∷ [])) ++ (end ∷ [])) ++ (true ∷ [])) ++ bits 3 (cmd / 2 ^ 0)) ++ pilot
crc-word check cmd end = crc-word-parts check cmd end ∙ rw (
  bits-part 3 9 check,
  bits-part 3 6 check,
  bits-part 3 3 check,
  bits-part 3 0 check,
  bits-part 3 4 cmd,
  bits-part 1 3 cmd,
  bits-part 3 0 cmd,
) refl

fec-word-parts : (check cmd : ℕ) (end : Bool) → sync_word CFec check cmd end ≡ ((part 22 4 check ++ (end ∷ [])) ++ part 4 0 check) ++ pilot
unfolding sync_word sync_form pilot part
fec-word-parts check cmd end = refl

pub fec-word : (check cmd : ℕ) (end : Bool) → sync_word CFec check cmd end ≡ ((bits 22 (check / 2 ^ 4) ++ (end ∷ [])) ++ bits 4 (check / 2 ^ 0)) ++ pilot
fec-word check cmd end = fec-word-parts check cmd end ∙ rw (bits-part 22 4 check, bits-part 4 0 check) refl

pub then : {all front back xs ys : List Bool} → all ≡ front ++ back → front ≡ xs → back ≡ ys → all ≡ xs ++ ys
then e p q = e ∙ ap₂ {C = List Bool} (λ x y. x ++ y) p q

pub bit-alone : (n : ℕ) (b : Bool) → n ≡ bool_byte b → bits 1 n ≡ b ∷ []
unfolding bits
bit-alone n true e = ap (bits 1) e
bit-alone n false e = ap (bits 1) e

pub pilot-bits : bits 5 1 ≡ pilot
unfolding bits pilot
pilot-bits = refl

pub by-shift-zero : (n x : ℕ) → bits n x ≡ bits n (x / 2 ^ 0)
by-shift-zero n x = ap (bits n) (let e : x ≡ x / 2 ^ 0 = omega arith in e)

read-parts : {c d e f : ℕ} {g h : Bool} → c ≡ d → e ≡ f → g ≡ h
    → (let a : SyncRead = record { check = c; cmd = e; end = g; pilot = true } in a) ≡ record { check = d; cmd = f; end = h; pilot = true }
read-parts p q r = λ i. record { check = p i; cmd = q i; end = r i; pilot = true }

pub fec-read : (w check : ℕ) (end good : Bool) → check ≡ value (carriers is_check (sync_form CFec) (bits 32 w))
    → end ≡ same_bits (carriers is_end (sync_form CFec) (bits 32 w)) (true ∷ []) → good ≡ same_bits (drop 27 (bits 32 w)) pilot
    → (let a : SyncRead = record { check = check; cmd = 0; end = end; pilot = good } in a) ≡ read_sync CFec (bits 32 w)
unfolding read_sync carriers sync_form bits pilot
fec-read w check end good c e p = λ i. record { check = c i; cmd = 0; end = e i; pilot = p i }

pub crc-read : (w check cmd : ℕ) (end good : Bool) → check ≡ value (carriers is_check (sync_form CCrc) (bits 32 w))
    → cmd ≡ value (carriers is_cmd (sync_form CCrc) (bits 32 w))
    → end ≡ same_bits (carriers is_end (sync_form CCrc) (bits 32 w)) (true ∷ []) → good ≡ same_bits (drop 27 (bits 32 w)) pilot
    → (let a : SyncRead = record { check = check; cmd = cmd; end = end; pilot = good } in a) ≡ read_sync CCrc (bits 32 w)
unfolding read_sync
crc-read w check cmd end good c m e p = λ i. record { check = c i; cmd = m i; end = e i; pilot = p i }

pub only-crc : (m : Mode) → (m ≡ B → ⊥) → (m ≡ CFec → ⊥) → m ≡ CCrc
only-crc B b f = absurd (b refl)
only-crc CFec b f = absurd (f refl)
only-crc CCrc b f = refl

module _ (of_bits : ValueOfBits) where
  number-back : (n x : ℕ) → x < 2 ^ n → value (bits n x) ≡ x
  number-back n x low = of_bits n x ∙ mod-eq_of_lt low

  pub crc-back : (check cmd : ℕ) (end : Bool) → check < 2 ^ 12 → cmd < 128
      → read_sync CCrc (sync_word CCrc check cmd end) ≡ record { check = check; cmd = cmd; end = end; pilot = true }
  unfolding read_sync sync_word sync_form carriers pilot same_bits bits
  crc-back check cmd end c m = read-parts (number-back 12 check c) (number-back 7 cmd m) (end-alone end)

  pub fec-back : (check cmd : ℕ) (end : Bool) → check < 2 ^ 26
      → read_sync CFec (sync_word CFec check cmd end) ≡ record { check = check; cmd = 0; end = end; pilot = true }
  unfolding read_sync sync_word sync_form carriers pilot same_bits bits
  fec-back check cmd end c = read-parts (number-back 26 check c) refl (end-alone end)

  pub reads_back : ReadsBack
  reads_back check cmd end = (λ c m. crc-back check cmd end c m, λ c. fec-back check cmd end c)

-- ---- a part behind a word, and the pilot

module _ (of_bits : ValueOfBits) (of_value : BitsOfValue) (length_of : BitsLength) (both : BitsOfBoth) where
  bits-low : (n x : ℕ) → bits n (x % 2 ^ n) ≡ bits n x
  bits-low n x = ap (bits n) (sym (of_bits n x)) ∙ ap (λ k. bits k (value (bits n x))) (sym (length_of n x)) ∙ of_value (bits n x)

  bits-of-low : (n more x : ℕ) → bits n (x % 2 ^ (more + n)) ≡ bits n x
  bits-of-low n more x = sym (bits-low n (x % 2 ^ (more + n))) ∙ ap (bits n) (mod-mod-pow x more n) ∙ bits-low n x

  pub bits-append : (n size word part : ℕ) → n + size ≤ 32
      → bits (n + size) (bit_or (word * 2 ^ size % 2 ^ 32) (bit_and part (2 ^ size - 1))) ≡ bits n word ++ bits size part
  bits-append n size word part within =
      let k : ℕ = 32 - size in
      let more : ℕ = k - n in
      let whole : 32 ≡ k + size = omega arith in
      let room : k ≡ more + n = omega arith in
      let up : word * 2 ^ size % 2 ^ 32 ≡ word % 2 ^ k * 2 ^ size =
      ap (λ t. word * 2 ^ size % 2 ^ t) whole
      ∙ mod-pow-add (word * 2 ^ size) k size
      ∙ ap₂ (λ a b. a % 2 ^ k * 2 ^ size + b) (shl-shr word size) (mul-mod_left word (2 ^ size))
      ∙ omega arith in
      let below : part % 2 ^ size < 2 ^ size = mod-lt part (pow_pos size) in
      ap (bits (n + size)) (ap₂ bit_or up (and_mask part size) ∙ or_shifted (word % 2 ^ k) size (part % 2 ^ size) below)
      ∙ both n size (word % 2 ^ k) (part % 2 ^ size) below
      ∙ ap₂ {C = List Bool} (λ a b. a ++ b) (ap (λ t. bits n (word % 2 ^ t)) room ∙ bits-of-low n more word) (bits-low size part)

  has-pilot-by : (w : ℕ) (b s : Bool) → (w % 2 ^ 5 == 1) ≡ b → same_bits (bits 5 w) pilot ≡ s → b ≡ s
  unfolding bits pilot
  has-pilot-by w true true e h = refl
  has-pilot-by w false false e h = refl
  has-pilot-by w true false e h =
      let one : w % 2 ^ 5 ≡ 1 = eqb-true (w % 2 ^ 5) 1 e in
      sym (same-self pilot) ∙ ap (λ l. same_bits l pilot) (ap (bits 5) (sym one) ∙ bits-low 5 w) ∙ h
  has-pilot-by w false true e h =
      let one : w % 2 ^ 5 ≡ 1 = sym (of_bits 5 w) ∙ ap value (same-are (bits 5 w) pilot h) in
      sym e ∙ ap (λ t. t == 1) one

  pub has-pilot : (w : ℕ) → (w % 2 ^ 5 == 1) ≡ same_bits (drop 27 (bits 32 w)) pilot
  unfolding bits pilot
  has-pilot w = has-pilot-by w (w % 2 ^ 5 == 1) (same_bits (bits 5 w) pilot) refl refl

  -- ---- parts in a row

  pub read-number : (n r : ℕ) (xs : List Bool) → bits n r ≡ xs → bit_and r (2 ^ n - 1) ≡ value xs
  read-number n r xs e = and_mask r n ∙ sym (of_bits n r) ∙ ap value e
