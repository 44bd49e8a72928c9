-- What is drawn from a number is in range.
use Rattle.std.proofs.Common.{◌≡◌, ◌<◌, ◌≤◌, ◌∙◌, ℕ, zero, suc, ◌+◌, ◌-◌, ◌*◌, ◌/◌, ◌&&◌, Bool, true, List, [], ◌∷◌, ◌++◌, length, length-append, map, get_or, IsTrue, pos, ◌-ℤ◌, neg_ℤ, int_le, nat_le, nat_lt, refl, ap, inl, inr, arith}
use Rattle.std.proofs.Math.Nat.{mul-le-mul_right}
use Rattle.std.proofs.lemmas.Nat.{mod_below}
use Rattle.std.proofs.lemmas.Bool.{and_parts, and_from, cases_lt}
use Rattle.std.proofs.lemmas.Bool.Decides.{nat_tests}
use Rattle.std.proofs.lemmas.List.{length-map}
use Rattle.std.proofs.lemmas.List.Elements.{All-push}
use Rattle.std.proofs.lemmas.List.Sorted.{IsNonDecreasingBy-push}
use Rattle.std.specs.List.{All}
use Rattle.std.specs.List.Sorted.{IsNonDecreasingBy}
use Rattle.link_params.specs.declared.fields.Mode.{Mode}
use Rattle.link_params.specs.declared.fields.Mode.TheVariants.{B, CCrc, CFec}
use Rattle.link_params.specs.declared.fields.Params.{Params}
use Rattle.link_params.specs.Numbers.{octets_per_tick, period, width}
use Rattle.scenario.specs.declared.plan.Event.{Event}
use Rattle.scenario.specs.declared.plan.Print.TheVariants as print
use Rattle.scenario.specs.Generated.{draw, drawn_delay, drawn_flip, drawn_jitter, drawn_params, drawn_reset, latest, lane_delay, mode_of_draw, params_with}
use Rattle.scenario.specs.Limits.{event_fits, flip_fits, jitter_fits}
use Rattle.scenario.specs.Plans.{numbers_from}
use Rattle.scenario.specs.Reads.{flipped}
use Rattle.scenario.specs.kept.Sound.{AreEvents, AreTicks}
use Rattle.scenario.proofs.DrawLemmas.{all-drawn}

pub draw-below : (number k n : ℕ) → 0 < n → draw number k n < n
unfolding draw
draw-below number k n some = mod_below _ n some

-- the sizes of drawn parameters
pub record AreSmall (p : Params) : Type 0 where
  pub l_low : 1 ≤ p.l
  pub l : p.l ≤ 8
  pub period_low : 32 ≤ period p
  pub period_high : period p ≤ 1024
  pub width_low : 10 ≤ width p
  pub octets : octets_per_tick p ≤ 8

small-with : (m : Mode) (l e : ℕ) → 1 ≤ l → l ≤ 8 → 1 ≤ e → e ≤ 4 → AreSmall (params_with m l e)
small-with B l e some few more less = record {
  l_low = some;
  l = few;
  period_low = omega arith;
  period_high = omega arith;
  width_low = omega arith;
  octets = omega arith;
}
small-with CCrc l e some few more less = record {
  l_low = some;
  l = few;
  period_low = omega arith;
  period_high = omega arith;
  width_low = omega arith;
  octets = omega arith;
}
small-with CFec l e some few more less = record {
  l_low = some;
  l = few;
  period_low = omega arith;
  period_high = omega arith;
  width_low = omega arith;
  octets = omega arith;
}

pub small : (number : ℕ) → AreSmall (drawn_params number)
small number =
    let lt : draw number 1 8 < 8 = draw-below number 1 8 (omega arith) in
    let less : draw number 2 4 < 4 = draw-below number 2 4 (omega arith) in
    small-with (mode_of_draw (draw number 0 3)) (1 + draw number 1 8) (1 + draw number 2 4)
    (omega arith) (omega arith) (omega arith) (omega arith)

-- ---- events

delay-within : (n w ticks early : ℕ) → 2 ≤ n → ticks ≤ n / 2 → ticks * w - early ≤ (n - 1) * w
delay-within n w ticks early some few =
    let h : ticks ≤ n - 1 = omega arith in
    let m : ticks * w ≤ (n - 1) * w = mul-le-mul_right w h in omega arith

lt-true : (a b : ℕ) → a < b → nat_lt a b ≡ true
lt-true a b lt = grind (arith, nat_tests)

le-true : (a b : ℕ) → a ≤ b → nat_le a b ≡ true
le-true a b le = grind (arith, nat_tests)

delay-fits : (number : ℕ) (p : Params) → AreSmall p → (lane : ℕ) → lane < p.l
    → event_fits p 16384 (drawn_delay number p lane) ≡ true
delay-fits number p are lane lt =
    let low = are.period_low in
    let some : 0 < period p / 2 = omega arith in
    let last = draw-below number 5 (period p / 2) some in
    let more : 0 < latest number p = omega arith in
    let ticks = draw-below number (6 + 2 * lane) (latest number p) more in
    let fits : lane_delay number p lane ≤ (period p - 1) * width p =
    delay-within (period p) (width p) (1 + draw number (6 + 2 * lane) (latest number p)) _
    (omega arith) (omega arith) in
    and_from _ _ (lt-true lane p.l lt) (le-true _ _ fits)

length-numbers : (n a : ℕ) → length (numbers_from a n) ≡ n
unfolding numbers_from
length-numbers zero a = refl
length-numbers (suc n) a = ap suc (length-numbers n (suc a))

length-drawn : {X : Type 0} (f : ℕ → X) (n : ℕ) → length (map f (numbers_from 0 n)) ≡ n
length-drawn f n = length-map (numbers_from 0 n) f ∙ length-numbers n 0

at-once : (xs : List Event) → All (λ (e : Event). e.tick ≡ 0) xs
    → IsNonDecreasingBy (λ (e : Event). e.tick) xs
at-once xs each i j d le lt =
    let below : i < length xs = omega arith in
    let first : (get_or xs i d).tick ≡ 0 = each i d below in omega arith

ordered : (xs : List Event) (y : Event) → All (λ (e : Event). e.tick ≡ 0) xs
    → IsNonDecreasingBy (λ (e : Event). e.tick) (xs ++ y ∷ [])
ordered xs y each = IsNonDecreasingBy-push (λ (e : Event). e.tick) xs y (at-once xs each)
    (λ d some. let lt : length xs - 1 < length xs = omega arith in
    let first : (get_or xs (length xs - 1) d).tick ≡ 0 = each (length xs - 1) d lt in omega arith)

pub events-ordered : (number : ℕ) (p : Params) → IsNonDecreasingBy (λ (e : Event). e.tick)
    (map (drawn_delay number p) (numbers_from 0 p.l) ++ drawn_reset number p ∷ [])
events-ordered number p = ordered _ (drawn_reset number p)
    (all-drawn (λ (e : Event). e.tick ≡ 0) (drawn_delay number p) p.l (λ i lt. refl))

-- ---- jitters

abbrev in-range : ℕ → Bool
in-range d = int_le (neg_ℤ (pos 32)) (pos d -ℤ pos 7) && int_le (pos d -ℤ pos 7) (pos 32)

abbrev all_in-range : ℕ → Bool
all_in-range zero = true
all_in-range (suc n) = in-range n && all_in-range n

all_in-range-at : (n d : ℕ) → all_in-range n ≡ true → d < n → in-range d ≡ true
all_in-range-at zero d h lt = absurd (omega arith)
all_in-range-at (suc n) d h lt =
    let parts = and_parts (in-range n) (all_in-range n) h in elim (cases_lt d n) [
      | inl below ↦ all_in-range-at n d parts.1 below
      | inr here ↦ let e : d ≡ n = omega arith in rw e parts.0
    ]

computed-jitters : all_in-range 15 ≡ true
computed-jitters = refl

jitter-fits : (number : ℕ) (p : Params) (i : ℕ) → i < 8
    → jitter_fits (drawn_jitter number p i) ≡ true
jitter-fits number p i lt =
    and_from _ _ (le-true i 1048576 (omega arith))
    (all_in-range-at 15 (draw number (6 + 2 * p.l + i) 15) computed-jitters
    (draw-below number (6 + 2 * p.l + i) 15 (omega arith)))

-- ---- flips

flip-fits : (number : ℕ) (p : Params) → AreSmall p → (i : ℕ)
    → flip_fits p 16384 (drawn_flip number p i) ≡ true
flip-fits number p are i =
    let at : ℕ = 15 + 2 * p.l + 3 * i in
    let lanes = are.l_low in
    let wide = are.width_low in
    let some : 0 < width p * 16384 - 9 = omega arith in
    let first = draw-below number (at + 1) (width p * 16384 - 9) some in
    let count = draw-below number (at + 2) 9 (omega arith) in
    let last : draw number (at + 1) (width p * 16384 - 9) + (1 + draw number (at + 2) 9)
    ≤ width p * 16384 = omega arith in
    and_from _ _ (lt-true _ p.l (draw-below number at p.l (omega arith)))
    (and_from _ _ (le-true 1 (1 + draw number (at + 2) 9) (omega arith)) (le-true _ _ last))

flipped-drawn : (number : ℕ) (p : Params) (n a : ℕ)
    → flipped (map (drawn_flip number p) (numbers_from a n)) ≤ 9 * n
unfolding numbers_from
flipped-drawn number p zero a = omega arith
flipped-drawn number p (suc n) a =
    let rest : flipped (map (drawn_flip number p) (numbers_from (suc a) n)) ≤ 9 * n =
    flipped-drawn number p n (suc a) in
    let here : draw number (15 + 2 * p.l + 3 * a + 2) 9 < 9 =
    draw-below number (15 + 2 * p.l + 3 * a + 2) 9 (omega arith) in omega arith

-- ---- all together

pub ticks-fit : (p : Params) → AreSmall p → AreTicks p 16384 print.None
ticks-fit p are =
    let lanes = are.l in
    let octets = are.octets in
    let a : 16384 * p.l ≤ 131072 = omega arith in
    let b : 16384 * p.l * octets_per_tick p ≤ 131072 * octets_per_tick p =
    mul-le-mul_right (octets_per_tick p) a in
    record { some = omega arith; few = omega arith; octets = omega arith; words = omega arith }

pub events-fit : (number : ℕ) (p : Params) → AreSmall p → AreEvents p 16384
    (map (drawn_delay number p) (numbers_from 0 p.l) ++ drawn_reset number p ∷ [])
    (map (drawn_jitter number p) (numbers_from 0 8))
    (map (drawn_flip number p) (numbers_from 0 16))
events-fit number p are =
    let delays : List Event = map (drawn_delay number p) (numbers_from 0 p.l) in
    let few = are.l in
    record {
      events_fit = All-push (λ e. IsTrue (event_fits p 16384 e)) delays (drawn_reset number p)
          (all-drawn (λ e. IsTrue (event_fits p 16384 e)) (drawn_delay number p) p.l
          (delay-fits number p are)) refl;
      jitters_fit = all-drawn (λ j. IsTrue (jitter_fits j)) (drawn_jitter number p) 8
          (jitter-fits number p);
      flips_fit = all-drawn (λ f. IsTrue (flip_fits p 16384 f)) (drawn_flip number p) 16
          (λ i lt. flip-fits number p are i);
      few_events = omega (
        arith,
        length-append delays (drawn_reset number p ∷ []),
        length-drawn (drawn_delay number p) p.l,
        length-drawn (drawn_jitter number p) 8,
      );
      few_flips = omega (arith, flipped-drawn number p 16 0);
    }
