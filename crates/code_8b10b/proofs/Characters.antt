-- Why commas stand only where a character begins.
use Rattle.std.proofs.Common.{◌≡◌, ◌≢◌, ℕ, zero, suc, ◌+◌, ◌-◌, ◌*◌, ◌/◌, ◌%◌, ◌==◌, ◌<◌, ◌≤◌, Bool, true, ◌&&◌, ◌||◌, List, [], ◌∷◌, ◌++◌, length, take, drop, get_or, Option, Some, None, refl, sym, ◌∙◌, ap, arith, inl, inr, length-drop}
use Rattle.std.proofs.Math.Seq.{drop-drop, take-append-le, drop-append-le}
use Rattle.std.proofs.lemmas.Bool.{cases_Bool, and_parts, or_cases, eqb-true, eqb-false, cases_lt}
use Rattle.std.specs.List.{flat_map}
use Rattle.std.specs.Option.{is_none}
use Rattle.jesd_base.specs.Bits.{bits, value}
use Rattle.code_8b10b.specs.declared.character.Rd.{Rd}
use Rattle.code_8b10b.specs.declared.character.Rd.TheVariants.{Minus, Plus}
use Rattle.code_8b10b.specs.declared.character.Char.{Char}
use Rattle.code_8b10b.specs.Code.{spelling, after, after_six, sixes, fours, four_of_seven, controls}
use Rattle.code_8b10b.specs.Reads.{char_at, data_at, control_at, place_in}
use Rattle.code_8b10b.specs.Commas.{begins, commas, other_commas, stands_at}
use Rattle.code_8b10b.specs.laws.CommaLaws.{comma_bit, comma_window, NoSlip, AreSpellings, ChainIsSpelled, NoImitation}
use Rattle.code_8b10b.proofs.Tabulated.{tabulated, same_below}
use Rattle.code_8b10b.proofs.Spellings.{char_at-spelling, ten_bits}
use Rattle.code_8b10b.proofs.Places.{begins-rest, begins-short, length-commas, length-other_commas}

-- no character is spelled so, at either disparity
is_unread : ℕ → Bool
is_unread w = is_none (char_at Minus w) && is_none (char_at Plus w)

no_char : (o : Option Char) (c : Char) → is_none o ≡ true → o ≡ Some c → ⊥
no_char None c h e = cc
no_char (Some d) c h e = cc

unread : (w : ℕ) → is_unread w ≡ true → (rd : Rd) (c : Char) → spelling rd c ≡ Some w → ⊥
unfolding is_unread
unread w h Minus c e = no_char (char_at Minus w) c (and_parts _ (is_none (char_at Plus w)) h).0 (char_at-spelling Minus c w e)
unread w h Plus c e = no_char (char_at Plus w) c (and_parts (is_none (char_at Minus w)) _ h).1 (char_at-spelling Plus c w e)

-- ---- the commas without end

slips : ℕ → Bool
slips k = (k % 10 == 0) || is_unread (value (comma_window k))

computed-slips : tabulated slips 20 ≡ tabulated (λ k. true) 20
unfolding slips is_unread comma_bit bits char_at data_at control_at place_in after_six sixes fours four_of_seven controls
computed-slips = refl

comma_bit-mod : (k i : ℕ) → comma_bit (k % 20 + i) ≡ comma_bit (k + i)
unfolding comma_bit
comma_bit-mod k i = let e : (k % 20 + i) % 20 ≡ (k + i) % 20 = omega arith in rw e refl

comma_bit-mod_here : (k : ℕ) → comma_bit (k % 20) ≡ comma_bit k
unfolding comma_bit
comma_bit-mod_here k = let e : k % 20 % 20 ≡ k % 20 = omega arith in rw e refl

comma_window-mod : (k : ℕ) → comma_window (k % 20) ≡ comma_window k
comma_window-mod k = simp (comma_bit-mod, comma_bit-mod_here)

pub no_slip : NoSlip
unfolding slips
no_slip k apart rd c e =
    let lt : k % 20 < 20 = omega arith in
    let at = same_below slips (λ j. true) 20 (k % 20) computed-slips lt in
    elim (or_cases (k % 20 % 10 == 0) (is_unread (value (comma_window (k % 20)))) at) [
      | inl grid ↦ let g : k % 20 % 10 ≡ 0 = eqb-true _ _ grid in absurd (apart (omega arith))
      | inr none ↦
          let same : is_unread (value (comma_window (k % 20))) ≡ is_unread (value (comma_window k)) = ap (λ bs. is_unread (value bs)) (comma_window-mod k) in
          unread (value (comma_window k)) (sym same ∙ none) rd c e
    ]

-- ---- the bits of characters

pub chain_is_spelled : ChainIsSpelled
chain_is_spelled rd [] [] chain = tt
chain_is_spelled rd (c ∷ cs) (w ∷ ws) chain = ((rd, c, chain.0), chain_is_spelled (after rd w) cs ws chain.1)
chain_is_spelled rd [] (w ∷ ws) chain = absurd chain
chain_is_spelled rd (c ∷ cs) [] chain = absurd chain

computed-ten : tabulated (λ w. value (bits 10 w)) 1024 ≡ tabulated (λ w. w) 1024
unfolding bits
computed-ten = refl

value-ten : (w : ℕ) → w < 1024 → value (bits 10 w) ≡ w
value-ten w lt = same_below (λ v. value (bits 10 v)) (λ v. v) 1024 w computed-ten lt

drop_ten : (w n : ℕ) (s : List Bool) → drop (suc (suc (suc (suc (suc (suc (suc (suc (suc (suc n)))))))))) (bits 10 w ++ s) ≡ drop n s
unfolding bits
drop_ten w n s = refl

take_ten : (w : ℕ) (s : List Bool) → take 10 (bits 10 w ++ s) ≡ bits 10 w
unfolding bits
take_ten w s = refl

length_ten : (w : ℕ) (s : List Bool) → length (bits 10 w ++ s) ≡ 10 + length s
unfolding bits
length_ten w s = omega arith

length-words : (ws : List ℕ) → length (flat_map (bits 10) ws) ≡ 10 * length ws
length-words [] = refl
length-words (w ∷ ws) = let h = length-words ws in let t = length_ten w (flat_map (bits 10) ws) in omega arith

word_at : (ws : List ℕ) (q : ℕ) → q < length ws → take 10 (drop (10 * q) (flat_map (bits 10) ws)) ≡ bits 10 (get_or ws q 0)
word_at [] q lt = absurd (omega arith)
word_at (w ∷ ws) zero lt = take_ten w (flat_map (bits 10) ws)
word_at (w ∷ ws) (suc q) lt =
    let e : 10 * suc q ≡ suc (suc (suc (suc (suc (suc (suc (suc (suc (suc (10 * q)))))))))) = omega arith in
    rw (e, drop_ten w (10 * q) (flat_map (bits 10) ws)) (word_at ws q (omega arith))

spelled_at : (ws : List ℕ) (q : ℕ) → AreSpellings ws → q < length ws → (rd : Rd) × (c : Char) × (spelling rd c ≡ Some (get_or ws q 0))
spelled_at [] q h lt = absurd (omega arith)
spelled_at (w ∷ ws) zero h lt = h.0
spelled_at (w ∷ ws) (suc q) h lt = spelled_at ws q h.1 (omega arith)

-- ---- forty bits between characters

part_is_unread : List Bool → ℕ → Bool
part_is_unread ps j = (j == 0) || is_unread (value (take 10 (drop j ps)))

computed-commas : tabulated (part_is_unread commas) 10 ≡ tabulated (λ j. true) 10
unfolding part_is_unread is_unread commas bits char_at data_at control_at place_in after_six sixes fours four_of_seven controls
computed-commas = refl

computed-other_commas : tabulated (part_is_unread other_commas) 10 ≡ tabulated (λ j. true) 10
unfolding part_is_unread is_unread other_commas bits char_at data_at control_at place_in after_six sixes fours four_of_seven controls
computed-other_commas = refl

-- a part of a list that begins at x, and the same part of the whole
part_of : (ps rest bs : List Bool) (x j : ℕ) → drop x bs ≡ ps ++ rest → j + 10 ≤ length ps → take 10 (drop j ps) ≡ take 10 (drop (x + j) bs)
part_of ps rest bs x j e le =
    let inside : j ≤ length ps = omega arith in
    let l = length-drop j ps in
    let long : 10 ≤ length (drop j ps) = omega arith in
    rw (← drop-drop j x bs, e, drop-append-le j ps rest inside, take-append-le 10 (drop j ps) rest long) refl

begins-long : (ps xs : List Bool) → begins ps xs ≡ true → length ps ≤ length xs
begins-long ps xs h = elim (cases_lt (length xs) (length ps)) [
  | inl short ↦ let no = begins-short ps xs short in cc
  | inr long ↦ long
]

room_after : (ps : List Bool) (x r h : ℕ) (ws : List ℕ) → length ps ≡ 40 → x ≡ 10 * h + r → 0 < r → begins ps (drop x (flat_map (bits 10) ws)) ≡ true → h + 1 < length ws
room_after ps x r h ws len e pos begun =
    let long = begins-long ps (drop x (flat_map (bits 10) ws)) begun in
    let d = length-drop x (flat_map (bits 10) ws) in
    let n = length-words ws in
    omega arith

on_grid : (ps : List Bool) → length ps ≡ 40 → tabulated (part_is_unread ps) 10 ≡ tabulated (λ j. true) 10
    → (ws : List ℕ) (x : ℕ) → AreSpellings ws → begins ps (drop x (flat_map (bits 10) ws)) ≡ true → x % 10 ≡ 0
unfolding part_is_unread
on_grid ps len test ws x spelled h = elim (cases_Bool (x % 10 == 0)) [
  | inl grid ↦ eqb-true _ _ grid
  | inr off ↦
      let bs : List Bool = flat_map (bits 10) ws in
      let ne : x % 10 ≢ 0 = eqb-false _ _ off in
      let j : ℕ = 10 - x % 10 in
      let q : ℕ = x / 10 + 1 in
      let at : x + j ≡ 10 * q = omega arith in
      let rest = begins-rest ps (drop x bs) h in
      let part = part_of ps (drop (length ps) (drop x bs)) bs x j rest (omega arith) in
      let inside : q < length ws = room_after ps x (x % 10) (x / 10) ws len (omega arith) (omega arith) h in
      let one = spelled_at ws q spelled inside in
      let small = ten_bits one.0 one.1 (get_or ws q 0) one.2 in
      let is : take 10 (drop j ps) ≡ bits 10 (get_or ws q 0) = part ∙ (rw at (word_at ws q inside)) in
      let number : value (take 10 (drop j ps)) ≡ get_or ws q 0 = ap value is ∙ value-ten (get_or ws q 0) small in
      let lt : j < 10 = omega arith in
      elim (or_cases (j == 0) (is_unread (value (take 10 (drop j ps)))) (same_below (part_is_unread ps) (λ i. true) 10 j test lt)) [
        | inl none ↦ let z : j ≡ 0 = eqb-true _ _ none in absurd (omega arith)
        | inr none ↦ absurd (unread (get_or ws q 0) (rw number at none) one.0 one.1 one.2)
      ]
]

pub no_imitation : NoImitation
unfolding stands_at
no_imitation ws x spelled h = elim (or_cases (begins commas (drop x (flat_map (bits 10) ws))) (begins other_commas (drop x (flat_map (bits 10) ws))) h) [
  | inl first ↦ on_grid commas length-commas computed-commas ws x spelled first
  | inr second ↦ on_grid other_commas length-other_commas computed-other_commas ws x spelled second
]
