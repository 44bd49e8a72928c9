-- The check that a multiblock carries is that of the one before, and it finds a payload that came
-- unchanged ok.
use Rattle.std.proofs.Common.{◌≡◌, ◌≢◌, ℕ, suc, ◌+◌, ◌*◌, ◌<◌, Bool, true, false, List, [], ◌∷◌, ◌++◌, map, length, drop, take, get_or, Some, option_map, inl, inr, refl, sym, ap, ap₂, ◌∙◌, length-append, arith}
use Rattle.std.proofs.lemmas.List.{drop-drop}
use Rattle.std.proofs.Math.Seq.{take-add}
use Rattle.std.proofs.lemmas.Nat.{pow_pos}
use Rattle.std.proofs.lemmas.Bool.{cases_Bool}
use Rattle.std.specs.List.{flat_map}
use Rattle.std.specs.Int.Bits.{xor_self}
use Rattle.jesd_base.specs.Bits.{all_zero, bits, value, zeros}
use Rattle.jesd_base.specs.Division.{rem}
use Rattle.jesd_base.proofs.BitLemmas.{bits_length, bits_of_value, zeros_length}
use Rattle.jesd_base.proofs.DivisionLemmas.{remainder_length}
use Rattle.link_params.specs.declared.fields.Mode.{Mode}
use Rattle.link_params.specs.declared.fields.Mode.TheVariants.{B, CCrc, CFec}
use Rattle.link_params.specs.declared.fields.Params.{Params}
use Rattle.link_params.specs.declared.cells.Mark.TheVariants as mark
use Rattle.block_66b.specs.declared.sync_bit.SyncBit.{SyncBit}
use Rattle.block_66b.specs.Blocks.{block}
use Rattle.crc12.specs.Crc.{crc, divisor}
use Rattle.fire_fec.specs.Burst.{burst, fire, parity}
use Rattle.fire_fec.proofs.Remainders.{parity-small, received_remainder}
use Rattle.multiblock.specs.SyncWords.{Carried, carriers, is_check, pilot, sync_form, sync_word}
use Rattle.multiblock.specs.Places.{good}
use Rattle.multiblock.proofs.SyncLemmas.{same-self}
use Rattle.lane_c.specs.Sent.{check, is_end, part_of, word_of}
use Rattle.lane_c.specs.Statuses.{Checked, by_burst, checked, received_check}
use Rattle.link_laws_c.proofs.HeaderLists.{header_of}

-- ---- the check of a payload

crc-length : (xs : List Bool) → length (crc xs) ≡ 12
unfolding divisor
crc-length xs =
    let z = zeros_length 12 in
    let d : length divisor ≡ 12 = bits_length 12 0x30F in
    let l = length-append xs (zeros 12) in
    remainder_length divisor (xs ++ zeros 12) (omega arith) ∙ d

pub parity-length : (xs : List Bool) → length (parity xs) ≡ 26
unfolding fire
parity-length xs =
    let z = zeros_length 26 in
    let d : length fire ≡ 26 = bits_length 26 0x220211 in
    let l = length-append xs (zeros 26) in
    remainder_length fire (xs ++ zeros 26) (omega arith) ∙ d

-- a check as a number of so many bits
abbrev check_size : Mode → ℕ
check_size B = 0
check_size CCrc = 12
check_size CFec = 26

check-bits : (mode : Mode) (xs : List Bool)
    → bits (check_size mode) (value (check mode xs)) ≡ check mode xs
unfolding bits
check-bits B xs = refl
check-bits CCrc xs = ap (λ (n : ℕ). bits n (value (crc xs))) (sym (crc-length xs))
    ∙ bits_of_value (crc xs)
check-bits CFec xs = ap (λ (n : ℕ). bits n (value (parity xs))) (sym (parity-length xs))
    ∙ bits_of_value (parity xs)

-- the bits of a sync word that carry the check
carried-check : (mode : Mode) (c : ℕ) (end : Bool) → mode ≢ B
    → carriers is_check (sync_form mode) (sync_word mode c 0 end) ≡ bits (check_size mode) c
unfolding carriers sync_form sync_word pilot bits
carried-check B c end not_b = absurd (not_b refl)
carried-check CCrc c end not_b = refl
carried-check CFec c end not_b = refl

carriers-map : (form : List Carried) (xs : List Bool)
    → carriers is_check form (map header_of xs) ≡ map header_of (carriers is_check form xs)
unfolding carriers
carriers-map [] xs = refl
carriers-map (c ∷ cs) [] = refl
carriers-map (c ∷ cs) (x ∷ xs) = elim (cases_Bool (is_check c)) [
  | inl yes_check ↦ rw yes_check (ap (λ (l : List SyncBit). header_of x ∷ l) (carriers-map cs xs))
  | inr other ↦ rw other (carriers-map cs xs)
]

good-map : (xs : List Bool) → good (map header_of xs) ≡ Some xs
unfolding good
good-map [] = refl
good-map (true ∷ xs) = ap (option_map (λ bs. true ∷ bs)) (good-map xs)
good-map (false ∷ xs) = ap (option_map (λ bs. false ∷ bs)) (good-map xs)

-- the headers of the multiblock after number j carry the check of number j
pub check-carried : (p : Params) (xs : List Bool) (j : ℕ) → p.mode ≢ B
    → received_check p.mode (map header_of (word_of p xs (suc j)))
    ≡ Some (check p.mode (part_of xs j))
unfolding word_of
check-carried p xs j not_b =
    let c : ℕ = value (check p.mode (part_of xs j)) in
    ap good (carriers-map (sync_form p.mode) (sync_word p.mode c 0 (is_end p (suc j))))
    ∙ good-map (carriers is_check (sync_form p.mode) (sync_word p.mode c 0 (is_end p (suc j))))
    ∙ ap Some (carried-check p.mode c (is_end p (suc j)) not_b ∙ check-bits p.mode (part_of xs j))

-- ---- payloads

drop-block : (b : Bool) (payload : List Bool) → drop 2 (block b payload) ≡ payload
drop-block true payload = refl
drop-block false payload = refl

-- the payloads of blocks one after another
pub payload-of-blocks : (blocks : List (List Bool)) (payload : List Bool) (sync : ℕ → Bool) (m : ℕ)
    → ((i : ℕ) → i < length blocks
    → get_or blocks i [] ≡ block (sync i) (take 64 (drop (64 * (m + i)) payload)))
    → flat_map (drop 2) blocks ≡ take (64 * length blocks) (drop (64 * m) payload)
payload-of-blocks [] payload sync m each = refl
payload-of-blocks (b ∷ blocks) payload sync m each =
    let z : 64 * (m + 0) ≡ 64 * m = omega arith in
    let n : ℕ = length blocks in
    let first : drop 2 b ≡ take 64 (drop (64 * m) payload) =
    ap (drop 2) (each 0 (omega arith)) ∙ drop-block (sync 0) (take 64 (drop (64 * (m + 0)) payload))
    ∙ ap (λ (k : ℕ). take 64 (drop k payload)) z in
    let rest : flat_map (drop 2) blocks ≡ take (64 * n) (drop (64 * suc m) payload) =
    payload-of-blocks blocks payload (λ i. sync (suc i)) (suc m) (λ i inside.
    let y : m + suc i ≡ suc m + i = omega arith in
    each (suc i) (omega arith)
    ∙ ap (λ (k : ℕ). block (sync (suc i)) (take 64 (drop (64 * k) payload))) y) in
    let later : 64 * m + 64 ≡ 64 * suc m = omega arith in
    let all : 64 + 64 * n ≡ 64 * suc n = omega arith in
    ap₂ (λ (x y : List Bool). x ++ y) first rest
    ∙ ap (λ (l : List Bool). take 64 (drop (64 * m) payload) ++ take (64 * n) l)
    (sym (drop-drop 64 (64 * m) payload ∙ ap (λ (k : ℕ). drop k payload) later))
    ∙ sym (take-add 64 (64 * n) (drop (64 * m) payload))
    ∙ ap (λ (k : ℕ). take k (drop (64 * m) payload)) all

-- ---- what the check says

crc-ok : (xs : List Bool)
    → checked CCrc xs (check CCrc xs) ≡ record { mark = mark.Ok; payload = xs }
unfolding checked
crc-ok xs = rw (same-self (crc xs)) refl

zero_of_value : (xs : List Bool) → value xs ≡ 0 → all_zero xs ≡ true
unfolding all_zero
zero_of_value [] e = refl
zero_of_value (true ∷ xs) e = let p = pow_pos (length xs) in absurd (omega arith)
zero_of_value (false ∷ xs) e = zero_of_value xs (omega arith)

-- a payload with its parity behind it has no remainder
pub fec-whole : (xs : List Bool) → 0 < length xs → all_zero (rem fire (xs ++ parity xs)) ≡ true
fec-whole xs some =
    let c : ℕ = value (parity xs) in
    let as_bits : xs ++ bits 26 c ≡ xs ++ parity xs =
    ap (λ (l : List Bool). xs ++ l) (check-bits CFec xs) in
    let none : value (rem fire (xs ++ bits 26 c)) ≡ 0 =
    received_remainder xs c some (parity-small xs) ∙ xor_self c in
    ap (λ (l : List Bool). all_zero (rem fire l)) (sym as_bits)
    ∙ zero_of_value (rem fire (xs ++ bits 26 c)) none

fec-ok : (xs : List Bool) → 0 < length xs
    → checked CFec xs (check CFec xs) ≡ record { mark = mark.Ok; payload = xs }
unfolding checked
fec-ok xs some =
    ap (λ (b : Bool). elim b as (λ b. Checked) [
      | true ↦ record { mark = mark.Ok; payload = xs }
      | false ↦ by_burst xs (parity xs) (burst (xs ++ parity xs))
    ]) (fec-whole xs some)

-- a payload that came unchanged is ok by its own check
pub checked-ok : (mode : Mode) (xs : List Bool) → mode ≢ B → 0 < length xs
    → checked mode xs (check mode xs) ≡ record { mark = mark.Ok; payload = xs }
checked-ok B xs not_b some = absurd (not_b refl)
checked-ok CCrc xs not_b some = crc-ok xs
checked-ok CFec xs not_b some = fec-ok xs some
