-- On a clean 8b/10b line the forty bits of a lock are found only where a character begins.
use Rattle.std.proofs.Common.{◌≡◌, ℕ, zero, suc, ◌+◌, ◌-◌, ◌*◌, ◌/◌, ◌%◌, ◌^◌, ◌<◌, ◌≤◌, ◌==◌, Bool, true, false, List, ◌++◌, length, map, drop, get_or, replicate, Some, inl, inr, refl, sym, ap, ◌∙◌, append_assoc, arith}
use Rattle.std.proofs.Math.Nat.{mod-eq_of_lt}
use Rattle.std.specs.List.{flat_map}
use Rattle.std.proofs.lemmas.Bool.{cases_Bool, cases_lt, eqb-false, eqb-true, or_cases}
use Rattle.std.proofs.lemmas.List.{ext_get_or, get_or-drop, get_or-map, get_or-replicate, get_or_append_left, length-replicate}
use Rattle.jesd_base.specs.Bits.{bits, value}
use Rattle.jesd_base.proofs.BitLemmas.{bits_length, value_of_bits}
use Rattle.link_params.specs.declared.fields.Mode.TheVariants.{B}
use Rattle.code_8b10b.specs.Commas.{begins, commas, other_commas, stands_at}
use Rattle.code_8b10b.specs.laws.CommaLaws.{comma_bit, comma_window}
use Rattle.code_8b10b.proofs.Characters.{no_slip}
use Rattle.code_8b10b.proofs.Places.{begins-rest, length-commas, length-other_commas, stands_at-short}
use Rattle.lane_b.specs.Received.{lanes_b}
use Rattle.scenario.specs.Plans.{Plan, numbers_from}
use Rattle.link_model.specs.Run.{run}
use Rattle.link_model.specs.Sends.{sent_bits}
use Rattle.link_model.proofs.NumberLists.{get_or-numbers, length-numbers}
use Rattle.link_model.specs.Sessions.{InSession}
use Rattle.link_model.specs.Wiring.{wire_of}
use Rattle.link_laws.specs.Premises.{Clean}
use Rattle.link_laws.specs.Laws.{IsPlanRead}
use Rattle.link_laws.proofs.SentChars.{char_sent, rd_sent, spells, word_sent}
use Rattle.link_laws.proofs.SessionStages.{first-low}
use Rattle.link_laws.proofs.LineTicks.{word-small, words-from, words_to}
use Rattle.link_laws.proofs.CleanLine.{are-sent, bit-is, delay, first, goes-on, late, length-taken, taken_before}
use Rattle.link_laws.proofs.SetAsWired.{wired}

-- ---- the forty bits, bit by bit

commas-are : commas ≡ map comma_bit (numbers_from 0 40)
unfolding commas bits comma_bit numbers_from
commas-are = refl

other_commas-are : other_commas ≡ map (λ k. comma_bit (10 + k)) (numbers_from 0 40)
unfolding other_commas bits comma_bit numbers_from
other_commas-are = refl

-- they are bits of the endless commas, from a place c on; one of the second ten that is 1
record AreCommas (bs : List Bool) (x : ℕ) : Type 0 where
  place : ℕ
  grid : place % 10 ≡ 0
  are : (i : ℕ) → i < 40 → get_or bs (x + i) false ≡ comma_bit (place + i)
  one : ℕ
  small : one < 10
  is_one : comma_bit (place + (10 + one)) ≡ true

bit-of : (ps bs : List Bool) (f : ℕ → Bool) (x i : ℕ) → length ps ≡ 40
    → ps ≡ map f (numbers_from 0 40) → begins ps (drop x bs) ≡ true → i < 40
    → get_or bs (x + i) false ≡ f i
bit-of ps bs f x i long are h lt =
    let n = length-numbers 40 0 in
    let same : 0 + i ≡ i = omega arith in
    sym (get_or-drop x bs i false)
    ∙ ap (λ l. get_or l i false) (begins-rest ps (drop x bs) h)
    ∙ get_or_append_left ps (drop (length ps) (drop x bs)) false i (omega arith)
    ∙ ap (λ l. get_or l i false) are
    ∙ get_or-map f (numbers_from 0 40) i 0 false (omega arith)
    ∙ ap f (get_or-numbers 40 i 0 0 lt ∙ same)

one-first : comma_bit 10 ≡ true
unfolding comma_bit bits
one-first = refl

one-other : comma_bit 22 ≡ true
unfolding comma_bit bits
one-other = refl

are-commas : (bs : List Bool) (x : ℕ) → stands_at bs x ≡ true → AreCommas bs x
unfolding stands_at
are-commas bs x h = elim (or_cases (begins commas (drop x bs)) (begins other_commas (drop x bs)) h) [
  | inl a ↦ record {
    place = 0;
    grid = refl;
    are = λ i lt. let e : i ≡ 0 + i = omega arith in
        bit-of commas bs comma_bit x i length-commas commas-are a lt ∙ ap comma_bit e;
    one = 0;
    small = omega arith;
    is_one = one-first;
  }
  | inr b ↦ record {
    place = 10;
    grid = refl;
    are = λ i lt. bit-of other_commas bs (λ k. comma_bit (10 + k)) x i length-other_commas
        other_commas-are b lt;
    one = 2;
    small = omega arith;
    is_one = one-other;
  }
]

window-bit : (k i : ℕ) → i < 10 → get_or (comma_window k) i false ≡ comma_bit (k + i)
window-bit k zero lt = let e : k ≡ k + 0 = omega arith in ap comma_bit e
window-bit k (suc zero) lt = refl
window-bit k (suc (suc zero)) lt = refl
window-bit k (suc (suc (suc zero))) lt = refl
window-bit k (suc (suc (suc (suc zero)))) lt = refl
window-bit k (suc (suc (suc (suc (suc zero))))) lt = refl
window-bit k (suc (suc (suc (suc (suc (suc zero)))))) lt = refl
window-bit k (suc (suc (suc (suc (suc (suc (suc zero))))))) lt = refl
window-bit k (suc (suc (suc (suc (suc (suc (suc (suc zero)))))))) lt = refl
window-bit k (suc (suc (suc (suc (suc (suc (suc (suc (suc zero))))))))) lt = refl
window-bit k (suc (suc (suc (suc (suc (suc (suc (suc (suc (suc n)))))))))) lt = absurd (omega arith)

-- ten bits that are those of the commas are their window
word-window : (w k : ℕ) → w < 1024
    → ((i : ℕ) → i < 10 → get_or (bits 10 w) i false ≡ comma_bit (k + i))
    → w ≡ value (comma_window k)
word-window w k small are =
    let long = bits_length 10 w in
    let same : bits 10 w ≡ comma_window k = ext_get_or false (bits 10 w) (comma_window k) long
    (λ i lt. are i (omega arith) ∙ sym (window-bit k i (omega arith))) in
    sym (mod-eq_of_lt (let lt : w < 2 ^ 10 = small in lt)) ∙ sym (value_of_bits 10 w)
    ∙ ap value same

module _ (s : Plan) (lane : ℕ) (read : IsPlanRead s) (mode : s.link.params.mode ≡ B)
    (below : lane < s.link.params.l)
    (h t : ℕ) (session : InSession lanes_b s h t) (clean : Clean s h t) where
  abbrev d : ℕ
  d = delay s lane read mode below h t session clean

  abbrev f : ℕ
  f = first s lane read mode below h t session clean

  abbrev a : ℕ
  a = late s lane read mode below h t session clean

  abbrev taken : ℕ → List Bool
  taken v = taken_before s lane read mode below h t session clean v

  -- the fourth of the forty bits' words was sent whole in tick q
  pub record IsOnGrid (u x : ℕ) : Type 0 where
    pub tick : ℕ
    pub place : 10 * f + (x + 30) ≡ d + 10 * tick
    pub inside : tick + a < suc u

  -- a word that stands in the forty bits begins a multiple of ten bits after them
  inside-ten : (u x j q : ℕ) → h ≤ u → u ≤ t → AreCommas (taken (suc u)) x → 10 ≤ j → j ≤ 30
      → 10 * f + (x + j) ≡ d + 10 * q → x + 40 ≤ length (taken (suc u)) → j % 10 ≡ 0
  inside-ten u x j q low up are least most is inside =
      let long = length-taken s lane read mode below h t session clean (suc u) (omega arith) in
      let n : ℕ = suc u - a in
      let begun = first-low lanes_b s h t (goes-on s lane read mode below h t session clean) in
      let k = are-sent s lane read mode below h t session clean u (x + j) q low up (omega arith) is
      (omega arith) in
      let w : ℕ = word_sent s (wire_of s lane) read mode (wired s lane read below) q in
      let size = bits_length 10 w in
      let later : List ℕ = drop (suc q) (words_to s (wire_of s lane) read mode (wired s lane read below) n) in
      let all : drop (x + j) (taken (suc u)) ≡ bits 10 w ++ (flat_map (bits 10) later ++ k.rest) =
      k.are ∙ ap (λ ws. flat_map (bits 10) ws ++ k.rest)
      (words-from s (wire_of s lane) read mode (wired s lane read below) n q (omega arith))
      ∙ append_assoc (bits 10 w) (flat_map (bits 10) later) k.rest in
      let bit : (i : ℕ) → i < 10 → get_or (bits 10 w) i false ≡ comma_bit (are.place + j + i) =
      λ i lt.
      let e : x + j + i ≡ x + (j + i) = omega arith in
      let g : are.place + (j + i) ≡ are.place + j + i = omega arith in
      sym (get_or_append_left (bits 10 w) (flat_map (bits 10) later ++ k.rest) false i
      (omega arith))
      ∙ sym (ap (λ l. get_or l i false) all) ∙ get_or-drop (x + j) (taken (suc u)) i false
      ∙ ap (λ y. get_or (taken (suc u)) y false) e
      ∙ are.are (j + i) (omega arith) ∙ ap comma_bit g in
      let is_window = word-window w (are.place + j) (word-small s (wire_of s lane) read mode (wired s lane read below) q) bit in
      let spelled = spells s (wire_of s lane) read mode (wired s lane read below) q ∙ ap Some is_window in
      elim (cases_Bool ((are.place + j) % 10 == 0)) [
        | inl on ↦ let z = eqb-true ((are.place + j) % 10) 0 on in let g = are.grid in omega arith
        | inr off ↦
            absurd (no_slip (are.place + j) (eqb-false ((are.place + j) % 10) 0 off)
            (rd_sent s (wire_of s lane) read mode (wired s lane read below) q) (char_sent s (wire_of s lane) read mode (wired s lane read below) q) spelled)
      ]

  -- bits before the line's delay is over are 0
  early-zero : (u x : ℕ) → h ≤ u → u ≤ t → 10 * suc h ≤ 10 * f + x → 10 * f + x < 10 * suc u
      → 10 * f + x < d → get_or (taken (suc u)) x false ≡ false
  early-zero u x low up from inside early =
      let long = length-replicate d false in
      bit-is s lane read mode below h t session clean u x low up from inside
      ∙ get_or_append_left (replicate d false) (sent_bits (run lanes_b s (suc u)) (wire_of s lane)) false
      (10 * f + x) (omega arith)
      ∙ get_or-replicate d (10 * f + x) false false early

  grid-at : (u x j q : ℕ) → h ≤ u → u ≤ t → AreCommas (taken (suc u)) x → 10 ≤ j → j ≤ 20
      → 10 * f + (x + j) ≡ d + 10 * q → x + 40 ≤ length (taken (suc u)) → IsOnGrid u x
  grid-at u x j q low up are least most is inside =
      let long = length-taken s lane read mode below h t session clean (suc u) (omega arith) in
      let grid = inside-ten u x j q low up are least (omega arith) is inside in
      record { tick = q + (30 - j) / 10; place = omega arith; inside = omega arith }

  pub on-grid : (u x : ℕ) → h ≤ u → u ≤ t → stands_at (taken (suc u)) x ≡ true → IsOnGrid u x
  on-grid u x low up stands =
      let are = are-commas (taken (suc u)) x stands in
      let long = length-taken s lane read mode below h t session clean (suc u) (omega arith) in
      let begun = first-low lanes_b s h t (goes-on s lane read mode below h t session clean) in
      let inside : x + 40 ≤ length (taken (suc u)) =
      elim (cases_lt (length (taken (suc u))) (x + 40)) [
        | inr fits ↦ fits
        | inl short ↦ let no = stands_at-short (taken (suc u)) x short in absurd (cc)
      ] in
      let p : ℕ = 10 * f + x + 10 in
      elim (cases_lt p d) [
        | inr after ↦
            let j : ℕ = 10 + (10 - (p - d) % 10) % 10 in
            grid-at u x j ((p + (10 - (p - d) % 10) % 10 - d) / 10) low up are (omega arith)
            (omega arith) (omega arith) inside
        | inl before ↦ elim (cases_lt (p + 10) d) [
          | inr near ↦ grid-at u x (10 + (d - p)) 0 low up are (omega arith) (omega arith)
              (omega arith) inside
          | inl far ↦
              let small = are.small in
              let yes = are.are (10 + are.one) (omega arith) ∙ are.is_one in
              let no = early-zero u (x + (10 + are.one)) low up (omega arith) (omega arith)
              (omega arith) in
              absurd (cc)
        ]
      ]
